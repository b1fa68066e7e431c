-- A word is read as what was written, and only as that.
use Rattle.std.proofs.Common.{◌≡◌, ℕ, zero, suc, ◌+◌, ◌*◌, ◌≤◌, ℤ, pos, negsuc, unsigned_abs, nat_le, ◌==◌, ◌⊎◌, List, ◌∷◌, ◌&&◌, ◌||◌, not, Bool, true, false, cond, Result, Ok, Err, refl, ap, sym, ◌∙◌, subst, inl, inr, arith}
use Rattle.std.specs.Prelude.{◌-ℤ◌, ◌≤ℤ◌, int_le}
use Rattle.std.specs.List.{list_all}
use Rattle.std.specs.Ordering.{int_eq}
use Rattle.std.proofs.lemmas.Int.{ints}
use Rattle.std.proofs.lemmas.Bool.Decides.{nat_tests, Decides-int_eq}
use Rattle.apt_words.specs.declared.Units.{Units}
use Rattle.apt_words.specs.declared.Units.TheVariants as units
use Rattle.apt_words.specs.declared.Turn.{Turn}
use Rattle.apt_words.specs.declared.Turn.TheVariants as turns
use Rattle.apt_words.specs.declared.Cool.{Cool}
use Rattle.apt_words.specs.declared.Cool.TheVariants as cools
use Rattle.apt_words.specs.declared.Side.{Side}
use Rattle.apt_words.specs.declared.Side.TheVariants as sides
use Rattle.apt_words.specs.declared.Stop.{Stop}
use Rattle.apt_words.specs.declared.Stop.TheVariants as stops
use Rattle.apt_plane.specs.declared.figures.Pt.{Pt}
use Rattle.apt_plane.specs.declared.figures.Dir.{Dir}
use Rattle.apt_plane.specs.declared.figures.Circ.{Circ}
use Rattle.apt_plane.specs.Ranges.{IsPoint, IsDir, IsCircle, IsSense}
use Rattle.apt_cldata.specs.declared.fields.Misfit.TheVariants as misfits
use Rattle.apt_words.specs.Sources.{IsCount, is_text_byte, IsText}
use Rattle.apt_records.specs.Ranges.{IsFromTo, IsSpeed, greatest}
use Rattle.apt_records.specs.Words.{side_word, stop_word, cool_word, units_word, turn_word}
use Rattle.apt_cldata.specs.Fields.{◌>>=◌, at_if, is_from_to, is_sized, from_to, count_at, coordinate, point_at, direction_part, is_nowhere, dir_at, is_within_edge, is_radius, circle_at, zero_at, is_text, text_byte, side_at, sense_at, stop_at, cool_at, units_at, turn_at}
use Rattle.std.specs.Cmp.{both_ways}
use Rattle.apt_words.proofs.Bools.{both}
use Rattle.std.specs.Cmp.Derive.{both_true}

-- ---- chains

pub at_if_again : {A : Type 0} (b : Bool) (i : ℕ) (x : A) → b ≡ true → at_if b i x ≡ Ok x
at_if_again b i x is = rw is

pub at_if_only : {A : Type 0} (b : Bool) (i : ℕ) (x y : A) → at_if b i x ≡ Ok y → (b ≡ true) × (x ≡ y)
at_if_only true i x y e = (refl, cc)
at_if_only false i x y e = absurd (cc)

pub bind_only : {A B E : Type 0} (r : Result A E) (f : A → Result B E) (b : B) → r >>= f ≡ Ok b → (a : A) × (r ≡ Ok a) × (f a ≡ Ok b)
bind_only (Ok a) f b e = (a, refl, e)
bind_only (Err x) f b e = absurd (cc)

-- ---- numbers

pub equal_again : (n : ℤ) → int_eq n n ≡ true
equal_again n = (Decides-int_eq n n).1 refl

pub equal_only : (n v : ℤ) → int_eq n v ≡ true → n ≡ v
equal_only n v h = (Decides-int_eq n v).0 h

pub le_again : (a b : ℤ) → a ≤ℤ b → int_le a b ≡ true
le_again a b h = grind (arith, ints)

pub le_only : (a b : ℤ) → int_le a b ≡ true → a ≤ℤ b
le_only a b h = grind (arith, ints)

pub from_to_again : (least most : ℤ) (i : ℕ) (n : ℤ) → IsFromTo least most n → from_to least most i n ≡ Ok n
from_to_again least most i n h = at_if_again (is_from_to least most n) i n (both_true (le_again least n h.0) (le_again n most h.1))

pub from_to_only : (least most : ℤ) (i : ℕ) (n m : ℤ) → from_to least most i n ≡ Ok m → (n ≡ m) × IsFromTo least most n
from_to_only least most i n m e =
    let h = at_if_only (is_from_to least most n) i n m e in
    let b = both _ _ h.0 in
    (h.1, (le_only least n b.0, le_only n most b.1))

pub count_again : (i n : ℕ) → IsCount n → count_at i (pos n) ≡ Ok n
count_again i n h = ap (λ r. r >>= λ n. Ok (unsigned_abs n)) (from_to_again (pos 1) greatest i (pos n) (omega (arith, ints, h.0), omega (arith, ints, h.1)))

counted : (z : ℤ) (n : ℕ) → IsFromTo (pos 1) greatest z → unsigned_abs z ≡ n → (pos n ≡ z) × IsCount n
counted (pos k) n h e = (ap pos (sym e), (omega (arith, ints, h.0), omega (arith, ints, h.1)))
counted (negsuc k) n h e = absurd (omega (arith, ints, h.0))

pub count_only : (i : ℕ) (z : ℤ) (n : ℕ) → count_at i z ≡ Ok n → (pos n ≡ z) × IsCount n
count_only i z n e =
    let b = bind_only (from_to (pos 1) greatest i z) _ n e in
    let h = from_to_only (pos 1) greatest i z b.0 b.1 in
    let same : unsigned_abs b.0 ≡ n = cc in
    counted z n h.1 (ap unsigned_abs h.0 ∙ same)

sized_again : (most : ℕ) (n : ℤ) → unsigned_abs n ≤ most → is_sized most n ≡ true
sized_again most n h = grind (arith, nat_tests)

sized_only : (most : ℕ) (n : ℤ) → is_sized most n ≡ true → unsigned_abs n ≤ most
sized_only most n h = grind (arith, nat_tests)

-- a size by both ends
pub sized_by_ends : (most : ℕ) (n : ℤ) → is_from_to (pos 0 -ℤ pos most) (pos most) n ≡ is_sized most n
sized_by_ends most n =
    both_ways (is_from_to (pos 0 -ℤ pos most) (pos most) n) (is_sized most n)
    (λ h. let b = both (int_le (pos 0 -ℤ pos most) n) (int_le n (pos most)) h in
    let low = le_only (pos 0 -ℤ pos most) n b.0 in
    let high = le_only n (pos most) b.1 in
    sized_again most n (omega (arith, ints)))
    (λ h. let size = sized_only most n h in
    both_true (le_again (pos 0 -ℤ pos most) n (omega (arith, ints))) (le_again n (pos most) (omega (arith, ints))))

pub coordinate_again : (i : ℕ) (n : ℤ) → unsigned_abs n ≤ 50000000 → coordinate i n ≡ Ok n
coordinate_again i n h = at_if_again (is_sized 50000000 n) i n (sized_again 50000000 n h)

pub coordinate_only : (i : ℕ) (n m : ℤ) → coordinate i n ≡ Ok m → (n ≡ m) × (unsigned_abs n ≤ 50000000)
coordinate_only i n m e = let h = at_if_only (is_sized 50000000 n) i n m e in (h.1, sized_only 50000000 n h.0)

-- ---- points, directions and circles

pub point_again : (i : ℕ) (p : Pt) → IsPoint p → point_at i p.x p.y ≡ Ok p
point_again i p h = rw (coordinate_again i p.x h.x, coordinate_again (i + 1) p.y h.y)

pub point_only : (i : ℕ) (x y : ℤ) (p : Pt) → point_at i x y ≡ Ok p → (p.x ≡ x) × (p.y ≡ y) × IsPoint p
point_only i x y p e =
    let b = bind_only (coordinate i x) _ p e in
    let c = bind_only (coordinate (i + 1) y) _ p b.2 in
    let h = coordinate_only i x b.0 b.1 in
    let k = coordinate_only (i + 1) y c.0 c.1 in
    let same : p ≡ record { x = x; y = y } = cc in
    (ap (λ (p : Pt). p.x) same, ap (λ (p : Pt). p.y) same, subst IsPoint (sym same) (record { x = h.1; y = k.1 }))

direction_part_again : (i : ℕ) (n : ℤ) → unsigned_abs n ≤ 100000000 → direction_part i n ≡ Ok n
direction_part_again i n h = at_if_again (is_sized 100000000 n) i n (sized_again 100000000 n h)

direction_part_only : (i : ℕ) (n m : ℤ) → direction_part i n ≡ Ok m → (n ≡ m) × (unsigned_abs n ≤ 100000000)
direction_part_only i n m e = let h = at_if_only (is_sized 100000000 n) i n m e in (h.1, sized_only 100000000 n h.0)

nowhere_only : (dx dy : ℤ) → is_nowhere dx dy ≡ true → unsigned_abs dx * unsigned_abs dx + unsigned_abs dy * unsigned_abs dy ≡ 0
nowhere_only dx dy h =
    let b = both (int_eq dx (pos 0)) (int_eq dy (pos 0)) h in
    rw (equal_only dx (pos 0) b.0, equal_only dy (pos 0) b.1)

somewhere : (dx dy : ℤ) → is_nowhere dx dy ≡ false → 1 ≤ unsigned_abs dx * unsigned_abs dx + unsigned_abs dy * unsigned_abs dy
somewhere (pos zero) (pos zero) h = absurd (cc)
somewhere (pos zero) (pos (suc n)) h = omega arith
somewhere (pos zero) (negsuc n) h = omega arith
somewhere (pos (suc n)) dy h = omega arith
somewhere (negsuc n) dy h = omega arith

not_again : (b : Bool) → (b ≡ true → ⊥) → not b ≡ true
not_again true h = absurd (h refl)
not_again false h = refl

pub not_only : (b : Bool) → not b ≡ true → b ≡ false
not_only true h = sym h
not_only false h = refl

pub dir_again : (i : ℕ) (d : Dir) → IsDir d → dir_at i d.dx d.dy ≡ Ok d
dir_again i d h =
    rw (direction_part_again i d.dx h.dx, direction_part_again (i + 1) d.dy h.dy)
    (at_if_again (not (is_nowhere d.dx d.dy)) (i + 1) d (not_again (is_nowhere d.dx d.dy) (λ is. let none = nowhere_only d.dx d.dy is in absurd (omega (arith, h.length)))))

pub dir_only : (i : ℕ) (dx dy : ℤ) (d : Dir) → dir_at i dx dy ≡ Ok d → (d.dx ≡ dx) × (d.dy ≡ dy) × IsDir d
dir_only i dx dy d e =
    let b = bind_only (direction_part i dx) _ d e in
    let c = bind_only (direction_part (i + 1) dy) _ d b.2 in
    let h = direction_part_only i dx b.0 b.1 in
    let k = direction_part_only (i + 1) dy c.0 c.1 in
    let m = at_if_only (not (is_nowhere b.0 c.0)) (i + 1) (record { dx = b.0; dy = c.0 }) d c.2 in
    let same : d ≡ record { dx = dx; dy = dy } = cc in
    let some : is_nowhere dx dy ≡ false = ap (λ x. is_nowhere x dy) h.0 ∙ ap (λ y. is_nowhere b.0 y) k.0 ∙ not_only (is_nowhere b.0 c.0) m.0 in
    (ap (λ (d : Dir). d.dx) same, ap (λ (d : Dir). d.dy) same, subst IsDir (sym same) (record { dx = h.1; dy = k.1; length = somewhere dx dy some }))

edge_again : (c r : ℤ) → unsigned_abs c + unsigned_abs r ≤ 49000000 → is_within_edge c r ≡ true
edge_again c r h = grind (arith, nat_tests)

edge_only : (c r : ℤ) → is_within_edge c r ≡ true → unsigned_abs c + unsigned_abs r ≤ 49000000
edge_only c r h = grind (arith, nat_tests)

pub circle_again : (i : ℕ) (c : Circ) → IsCircle c → circle_at i c.c c.r ≡ Ok c
circle_again i c h =
    at_if_again (is_radius c.c c.r) i c
    (both_true
    (both_true (le_again (pos 100) c.r h.least) (edge_again c.c.x c.r h.x))
    (edge_again c.c.y c.r h.y))

pub circle_only : (i : ℕ) (p : Pt) (r : ℤ) (c : Circ) → IsPoint p → circle_at i p r ≡ Ok c → (c.c ≡ p) × (c.r ≡ r) × IsCircle c
circle_only i p r c is e =
    let h = at_if_only (is_radius p r) i (record { c = p; r = r }) c e in
    let a = both (int_le (pos 100) r && is_within_edge p.x r) (is_within_edge p.y r) h.0 in
    let b = both (int_le (pos 100) r) (is_within_edge p.x r) a.0 in (
      ap (λ (c : Circ). c.c) (sym h.1),
      ap (λ (c : Circ). c.r) (sym h.1),
      subst IsCircle h.1 (record { centre = is; least = le_only (pos 100) r b.0; x = edge_only p.x r b.1; y = edge_only p.y r a.1 }),
    )

pub zero_only : (i : ℕ) (n m : ℤ) → zero_at i n ≡ Ok m → n ≡ pos 0
zero_only i n m e = equal_only n (pos 0) (at_if_only (int_eq n (pos 0)) i n m e).0

-- ---- bytes of a text

-- a byte of a text, in numbers
abbrev pub IsTextByte : ℕ → Type 0
IsTextByte b = ((32 ≤ b) × (b ≤ 126)) ⊎ (b ≡ 9)

pub less_test : (a b : ℕ) → nat_le a b ≡ true → a ≤ b
less_test a b h = grind (arith, nat_tests)

less_is : (a b : ℕ) → a ≤ b → nat_le a b ≡ true
less_is a b h = grind (arith, nat_tests)

either_true : (a b : Bool) → b ≡ true → (a || b) ≡ true
either_true true b h = refl
either_true false b h = h

pub equal_test : (a b : ℕ) → (a == b) ≡ true → a ≡ b
equal_test a b h = grind (arith, nat_tests)

text_byte_only : (b : ℕ) → is_text_byte b ≡ true → IsTextByte b
text_byte_only b h = by (b == 9) refl h
  where
    by : (t : Bool) → (b == 9) ≡ t → (t || (nat_le 32 b && nat_le b 126)) ≡ true → IsTextByte b
    by true is h = inr (equal_test b 9 is)
    by false is h = let t = both (nat_le 32 b) (nat_le b 126) h in inl (less_test 32 b t.0, less_test b 126 t.1)

text_byte_is : (b : ℕ) → IsTextByte b → is_text_byte b ≡ true
text_byte_is b (inl h) = either_true (b == 9) (nat_le 32 b && nat_le b 126) (both_true (less_is 32 b h.0) (less_is b 126 h.1))
text_byte_is b (inr e) = subst (λ b. is_text_byte b ≡ true) (sym e) refl

pub text_first : (b : ℕ) (bs : List ℕ) → IsText (b ∷ bs) → IsTextByte b × IsText bs
text_first b bs h = let t = both (is_text_byte b) (list_all is_text_byte bs) h in (text_byte_only b t.0, t.1)

pub text_more : (b : ℕ) (bs : List ℕ) → IsTextByte b → IsText bs → IsText (b ∷ bs)
text_more b bs h k = both_true (text_byte_is b h) k

pub byte_again : (i b : ℕ) → IsTextByte b → text_byte i (pos b) ≡ Ok b
byte_again i b h = at_if_again (is_text (pos b)) i b (is h)
  where
    is : IsTextByte b → is_text (pos b) ≡ true
    is (inl h) = rw (le_again (pos 32) (pos b) (omega (arith, ints, h.0)), le_again (pos b) (pos 126) (omega (arith, ints, h.1)))
    is (inr e) = subst (λ b. is_text (pos b) ≡ true) (sym e) refl

text_only : (n : ℤ) → is_text n ≡ true → (pos (unsigned_abs n) ≡ n) × IsTextByte (unsigned_abs n)
text_only n h = by (int_le (pos 32) n && int_le n (pos 126)) refl h
  where
    printed : (n : ℤ) → pos 32 ≤ℤ n → n ≤ℤ pos 126 → (pos (unsigned_abs n) ≡ n) × IsTextByte (unsigned_abs n)
    printed (pos b) low high = (refl, inl (omega (arith, ints), omega (arith, ints)))
    printed (negsuc b) low high = absurd (omega (arith, ints))

    by : (b : Bool) → is_from_to (pos 32) (pos 126) n ≡ b → (b || int_eq n (pos 9)) ≡ true → (pos (unsigned_abs n) ≡ n) × IsTextByte (unsigned_abs n)
    by true is h = let b = both (int_le (pos 32) n) (int_le n (pos 126)) is in printed n (le_only (pos 32) n b.0) (le_only n (pos 126) b.1)
    by false is h = subst (λ n. (pos (unsigned_abs n) ≡ n) × IsTextByte (unsigned_abs n)) (sym (equal_only n (pos 9) h)) (refl, inr refl)

pub byte_only : (i : ℕ) (n : ℤ) (b : ℕ) → text_byte i n ≡ Ok b → (pos b ≡ n) × IsTextByte b
byte_only i n b e =
    let h = at_if_only (is_text n) i (unsigned_abs n) b e in
    let t = text_only n h.0 in
    (ap pos (sym h.1) ∙ t.0, subst IsTextByte h.1 t.1)

-- ---- words by number

pub pick : {A P : Type 0} (b : Bool) (x y z : A) → (b ≡ true → x ≡ z → P) → (y ≡ z → P) → cond b x y ≡ z → P
pick true x y z p q e = p refl e
pick false x y z p q e = q e

pub pick_both : {A P : Type 0} (b : Bool) (x y z : A) → (b ≡ true → x ≡ z → P) → (b ≡ false → y ≡ z → P) → cond b x y ≡ z → P
pick_both true x y z p q e = p refl e
pick_both false x y z p q e = q refl e

told : {A E : Type 0} (word : A → ℤ) (n v : ℤ) (a b : A) → word a ≡ v → int_eq n v ≡ true → ◌≡◌ {A = Result A E} (Ok a) (Ok b) → word b ≡ n
told word n v a b e is same = let s : n ≡ v = equal_only n v is in let t : a ≡ b = cc in sym (ap word t) ∙ e ∙ sym s

pub side_again : (i : ℕ) (s : Side) → side_at i (side_word s) ≡ Ok s
side_again i sides.Left = refl
side_again i sides.Right = refl
side_again i sides.On = refl

pub side_only : (i : ℕ) (n : ℤ) (s : Side) → side_at i n ≡ Ok s → side_word s ≡ n
side_only i n s e =
    pick (int_eq n (pos 1)) _ _ _ (told side_word n (pos 1) sides.Left s refl)
    (pick (int_eq n (pos 2)) _ _ _ (told side_word n (pos 2) sides.Right s refl)
    (pick (int_eq n (pos 3)) _ _ _ (told side_word n (pos 3) sides.On s refl) (λ bad. absurd (cc))))
    e

pub sense_again : (i : ℕ) (n : ℤ) → IsSense n → sense_at i n ≡ Ok n
sense_again i n (inl e) = subst (λ n. sense_at i n ≡ Ok n) (sym e) refl
sense_again i n (inr e) = subst (λ n. sense_at i n ≡ Ok n) (sym e) refl

pub sense_only : (i : ℕ) (n m : ℤ) → sense_at i n ≡ Ok m → (m ≡ n) × IsSense m
sense_only i n m e =
    pick (int_eq n (pos 1)) _ _ _ (λ is same. let s : m ≡ pos 1 = cc in (s ∙ sym (equal_only n (pos 1) is), inl s))
    (pick (int_eq n (negsuc 0)) _ _ _ (λ is same. let s : m ≡ negsuc 0 = cc in (s ∙ sym (equal_only n (negsuc 0) is), inr s)) (λ bad. absurd (cc)))
    e

pub stop_again : (i : ℕ) (s : Stop) → stop_at i (stop_word s) ≡ Ok s
stop_again i stops.To = refl
stop_again i stops.On = refl
stop_again i stops.Past = refl
stop_again i stops.Tanto = refl

pub stop_only : (i : ℕ) (n : ℤ) (s : Stop) → stop_at i n ≡ Ok s → stop_word s ≡ n
stop_only i n s e =
    pick (int_eq n (pos 1)) _ _ _ (told stop_word n (pos 1) stops.To s refl)
    (pick (int_eq n (pos 2)) _ _ _ (told stop_word n (pos 2) stops.On s refl)
    (pick (int_eq n (pos 3)) _ _ _ (told stop_word n (pos 3) stops.Past s refl)
    (pick (int_eq n (pos 4)) _ _ _ (told stop_word n (pos 4) stops.Tanto s refl) (λ bad. absurd (cc)))))
    e

pub cool_again : (i : ℕ) (c : Cool) → cool_at i (cool_word c) ≡ Ok c
cool_again i cools.Off = refl
cool_again i cools.Mist = refl
cool_again i cools.Flood = refl

pub cool_only : (i : ℕ) (n : ℤ) (c : Cool) → cool_at i n ≡ Ok c → cool_word c ≡ n
cool_only i n c e =
    pick (int_eq n (pos 0)) _ _ _ (told cool_word n (pos 0) cools.Off c refl)
    (pick (int_eq n (pos 1)) _ _ _ (told cool_word n (pos 1) cools.Mist c refl)
    (pick (int_eq n (pos 2)) _ _ _ (told cool_word n (pos 2) cools.Flood c refl) (λ bad. absurd (cc))))
    e

pub units_again : (i : ℕ) (u : Units) → units_at i (units_word u) ≡ Ok u
units_again i units.Inch = refl
units_again i units.Mm = refl

pub units_only : (i : ℕ) (n : ℤ) (u : Units) → units_at i n ≡ Ok u → units_word u ≡ n
units_only i n u e =
    pick (int_eq n (pos 1)) _ _ _ (told units_word n (pos 1) units.Inch u refl)
    (pick (int_eq n (pos 2)) _ _ _ (told units_word n (pos 2) units.Mm u refl) (λ bad. absurd (cc)))
    e

not_zero : (n : ℤ) → IsFromTo (pos 1) greatest n → int_eq n (pos 0) ≡ false
not_zero n h = by (int_eq n (pos 0)) refl
  where
    by : (b : Bool) → int_eq n (pos 0) ≡ b → b ≡ false
    by true is = let e : n ≡ pos 0 = equal_only n (pos 0) is in absurd (omega (arith, ints, h.0))
    by false is = refl

pub turn_again : (i : ℕ) (turn : Turn) (n : ℤ) → IsSpeed turn n → turn_at i n (turn_word turn) ≡ Ok turn
turn_again i turns.Cw n h = rw (not_zero n h)
turn_again i turns.Ccw n h = rw (not_zero n h)
turn_again i turns.Off n h = subst (λ n. turn_at i n (pos 0) ≡ Ok turns.Off) (sym h) refl

more_than_zero : (n : ℤ) → IsFromTo (pos 0) greatest n → int_eq n (pos 0) ≡ false → IsFromTo (pos 1) greatest n
more_than_zero (pos zero) h is = absurd (cc)
more_than_zero (pos (suc k)) h is = (omega (arith, ints), h.1)
more_than_zero (negsuc k) h is = absurd (omega (arith, ints, h.0))

pub turn_only : (i : ℕ) (n w : ℤ) (turn : Turn) → IsFromTo (pos 0) greatest n → turn_at i n w ≡ Ok turn → (turn_word turn ≡ w) × IsSpeed turn n
turn_only i n w turn h e = by (int_eq n (pos 0)) refl e
  where
    off : n ≡ pos 0 → turns.Off ≡ turn → IsSpeed turn n
    off is same = subst (λ turn. IsSpeed turn n) same is

    cw : int_eq n (pos 0) ≡ false → turns.Cw ≡ turn → IsSpeed turn n
    cw is same = subst (λ turn. IsSpeed turn n) same (more_than_zero n h is)

    ccw : int_eq n (pos 0) ≡ false → turns.Ccw ≡ turn → IsSpeed turn n
    ccw is same = subst (λ turn. IsSpeed turn n) same (more_than_zero n h is)

    by : (b : Bool) → int_eq n (pos 0) ≡ b → cond b (cond (int_eq w (pos 0)) (Ok turns.Off) (Err (misfits.Word i))) (cond (int_eq w (pos 1)) (Ok turns.Cw) (cond (int_eq w (pos 2)) (Ok turns.Ccw) (Err (misfits.Word i)))) ≡ Ok turn
        → (turn_word turn ≡ w) × IsSpeed turn n
    by true is e =
        pick (int_eq w (pos 0)) _ _ _ (λ at same. (told turn_word w (pos 0) turns.Off turn refl at same, off (equal_only n (pos 0) is) (cc))) (λ bad. absurd (cc)) e
    by false is e =
        pick (int_eq w (pos 1)) _ _ _ (λ at same. (told turn_word w (pos 1) turns.Cw turn refl at same, cw is (cc)))
        (pick (int_eq w (pos 2)) _ _ _ (λ at same. (told turn_word w (pos 2) turns.Ccw turn refl at same, ccw is (cc))) (λ bad. absurd (cc)))
        e

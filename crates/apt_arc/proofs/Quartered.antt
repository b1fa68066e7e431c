-- What the code of quarter points wants of its definitions.
use Rattle.std.proofs.Common.{refl, ◌≡◌, inl, inr, ℕ, zero, suc, ◌+◌, ◌-◌, ◌≤◌, ◌<◌, ◌∙◌, ap, sym, subst, arith, Bool, true, false, List, [], ◌∷◌, ◌++◌, length, ℤ, pos, neg_ℤ, ◌<ℤ◌, ◌*ℤ◌, int_lt, FitsSigned, w8}
use Rattle.std.specs.Prelude.{◌&&◌, int_le}
use Rattle.std.proofs.lemmas.Int.{ints}
use Rattle.std.proofs.lemmas.List.{length-append}
use Rattle.std.proofs.lemmas.Bool.{cases_Bool}
use Rattle.apt_num.proofs.Squares.{size_neg}
use Rattle.apt_num.proofs.RootLaws.{less_one}
use Rattle.apt_plane.specs.declared.figures.Pt.{Pt}
use Rattle.apt_plane.specs.declared.figures.Dir.{Dir}
use Rattle.apt_plane.specs.declared.figures.Circ.{Circ}
use Rattle.apt_plane.specs.Vectors.{displacement, cross, dot}
use Rattle.apt_plane.specs.Ranges.{IsPoint, IsDir, IsSense}
use Rattle.apt_canon.specs.Feet.{ray_point}
use Rattle.apt_arc.specs.declared.arc.Arc.{Arc}
use Rattle.apt_arc.specs.Ranges.{IsTrack, ArePieces, IsArc}
use Rattle.apt_arc.specs.Made.{onward, is_behind, first_past, is_on_the_way, quarters_from, stations}
use Rattle.apt_arc.specs.Halves.{IsNext}
use Rattle.apt_arc.proofs.Spans.{aimed_nearby}
use Rattle.apt_arc.proofs.Tracks.{within, point_near, near_track, aimed}
use Rattle.apt_arc.proofs.Clear.{lt_from}
use Rattle.apt_arc.proofs.Parts.{list_none, list_off, list_on, quarters_divide}

abbrev pub way : ℤ → ℤ → Dir
way x y = record { dx = x; dy = y }

pub dir_left : (x y : ℤ) → IsDir (way x y) → IsDir (way (neg_ℤ y) x)
dir_left x y is = record { dx = rw (size_neg y) is.dy; dy = is.dx; length = rw (size_neg y) (omega (arith, is.length)) }

pub dir_right : (x y : ℤ) → IsDir (way x y) → IsDir (way y (neg_ℤ x))
dir_right x y is = record { dx = is.dy; dy = rw (size_neg x) is.dx; length = rw (size_neg x) (omega (arith, is.length)) }

pub ray_is_point : (t : Circ) (u : Dir) (p : Pt) → IsTrack t → IsDir u → p ≡ ray_point t u → IsPoint p
ray_is_point t u p is dir e =
    subst IsPoint (sym e) (point_near t (ray_point t u) is (near_track t (ray_point t u) is (aimed_nearby (within t) u (displacement t.c (ray_point t u)) (aimed t u is dir))))

-- ---- the first direction past the start
pub first_none : (n : ℕ) (t : Circ) (sense : ℤ) (s : Pt) (u : Dir) → n ≡ 0 → first_past n t sense s u ≡ onward sense u
unfolding first_past
first_none zero t sense s u e = refl
first_none (suc n) t sense s u e = absurd (omega (arith, e))

pub first_behind : (n : ℕ) (t : Circ) (sense : ℤ) (s : Pt) (u : Dir) → is_behind t sense s u ≡ true → first_past n t sense s u ≡ onward sense u
unfolding first_past
first_behind zero t sense s u e = refl
first_behind (suc n) t sense s u e = rw e refl

first_next : (n : ℕ) (t : Circ) (sense : ℤ) (s : Pt) (u : Dir) → is_behind t sense s u ≡ false → first_past (suc n) t sense s u ≡ first_past n t sense s (onward sense u)
unfolding first_past
first_next n t sense s u e = rw e refl

pub first_later : (n : ℕ) (t : Circ) (sense : ℤ) (s : Pt) (u : Dir) → 0 < n → is_behind t sense s u ≡ false → first_past n t sense s u ≡ first_past (n - 1) t sense s (onward sense u)
first_later zero t sense s u some e = absurd (omega (arith, some))
first_later (suc n) t sense s u some e = rw (less_one n) (first_next n t sense s u e)

-- ---- up to a quarter turn behind the start
pub sense_fits : (sense : ℤ) → IsSense sense → FitsSigned w8 sense
sense_fits sense (inl e) = omega (arith, ints, e)
sense_fits sense (inr e) = omega (arith, ints, e)

and_true : (a b : Bool) → a ≡ true → b ≡ (a && b)
and_true a b e = rw e refl

behind_core : (d m : ℤ) (b : Bool) → b ≡ int_le (pos 0) m → pos 0 <ℤ d → b ≡ (int_lt (pos 0) d && int_le (pos 0) m)
behind_core d m b e h = e ∙ and_true (int_lt (pos 0) d) (int_le (pos 0) m) (lt_from (pos 0) d h)

pub behind_is : (t : Circ) (sense : ℤ) (s p : Pt) (u x y : Dir) (d k m : ℤ) → p ≡ ray_point t u → x ≡ displacement t.c p → y ≡ displacement t.c s → d ≡ dot x y → k ≡ cross x y → m ≡ sense *ℤ k → pos 0 <ℤ d
    → int_le (pos 0) m ≡ is_behind t sense s u
behind_is t sense s p u x y d k m at first second e f g h =
    behind_core d m (int_le (pos 0) m) refl h
    ∙ ap (λ z. int_lt (pos 0) z && int_le (pos 0) m) e
    ∙ ap (λ z. int_lt (pos 0) (dot x y) && int_le (pos 0) z) (g ∙ ap (λ z. sense *ℤ z) f)
    ∙ ap (λ (v : Dir). int_lt (pos 0) (dot v y) && int_le (pos 0) (sense *ℤ cross v y)) (first ∙ ap (displacement t.c) at)
    ∙ ap (λ (v : Dir). int_lt (pos 0) (dot (displacement t.c (ray_point t u)) v) && int_le (pos 0) (sense *ℤ cross (displacement t.c (ray_point t u)) v)) second

pub later : (n : ℕ) (t : Circ) (sense : ℤ) (s : Pt) (u v x : Dir) → 0 < n → is_behind t sense s u ≡ false → v ≡ onward sense u → x ≡ first_past (n - 1) t sense s v → x ≡ first_past n t sense s u
later n t sense s u v x some off turn e = e ∙ ap (first_past (n - 1) t sense s) turn ∙ sym (first_later n t sense s u some off)

-- ---- the list
then_end : (xs : List Pt) (e : Pt) → xs ≡ [] → xs ++ e ∷ [] ≡ e ∷ []
then_end xs e h = rw h refl

pub none_left : (left : ℕ) (arc : Arc) (u : Dir) → left ≡ 0 → stations left arc u ≡ arc.end ∷ []
unfolding stations
none_left left arc u h =
    then_end (quarters_from left arc.track arc.sense arc.start arc.end u) arc.end (list_none left arc.track arc.sense arc.start arc.end u h)

pub none_next : (left : ℕ) (arc : Arc) (u : Dir) (q : Pt) → q ≡ ray_point arc.track u → is_on_the_way arc.track arc.sense arc.start arc.end q ≡ false → stations left arc u ≡ arc.end ∷ []
unfolding stations
none_next left arc u q at off =
    then_end (quarters_from left arc.track arc.sense arc.start arc.end u) arc.end
    (list_off left arc.track arc.sense arc.start arc.end u (subst (λ (x : Pt). is_on_the_way arc.track arc.sense arc.start arc.end x ≡ false) at off))

pub is_next : (left : ℕ) (arc : Arc) (u : Dir) (q : Pt) → 0 < left → q ≡ ray_point arc.track u → is_on_the_way arc.track arc.sense arc.start arc.end q ≡ true → IsNext left arc u q
unfolding stations
is_next zero arc u q some at on = absurd (omega (arith, some))
is_next (suc n) arc u q some at on = record {
  some = some;
  list = rw (less_one n, at)
      (ap (λ (xs : List Pt). xs ++ arc.end ∷ [])
      (list_on n arc.track arc.sense arc.start arc.end u (subst (λ (x : Pt). is_on_the_way arc.track arc.sense arc.start arc.end x ≡ true) at on)));
}

list_short : (n : ℕ) (t : Circ) (sense : ℤ) (s e : Pt) (u : Dir) → length (quarters_from n t sense s e u) ≤ n
list_short zero t sense s e u = rw (list_none 0 t sense s e u refl) (omega arith)
list_short (suc n) t sense s e u = elim (cases_Bool (is_on_the_way t sense s e (ray_point t u))) [
  | inl on ↦ rw (list_on n t sense s e u on) (omega (arith, list_short n t sense s e (onward sense u)))
  | inr off ↦ rw (list_off (suc n) t sense s e u off) (omega arith)
]

pub stations_few : (n : ℕ) (arc : Arc) (u : Dir) → length (stations n arc u) ≤ n + 1
unfolding stations
stations_few n arc u =
    omega (arith, length-append (quarters_from n arc.track arc.sense arc.start arc.end u) (arc.end ∷ []), list_short n arc.track arc.sense arc.start arc.end u)

-- ---- of an arc
pub arc_start : (arc : Arc) → IsArc arc → IsPoint arc.start
arc_start arc fits = point_near arc.track arc.start fits.track fits.start

pub arc_end : (arc : Arc) → IsArc arc → IsPoint arc.end
arc_end arc fits = point_near arc.track arc.end fits.track fits.end

pub arc_pieces : (arc : Arc) (u : Dir) → IsArc arc → u ≡ first_past 3 arc.track arc.sense arc.start arc.axis → ArePieces arc.track arc.sense arc.start (stations 4 arc u)
unfolding stations
arc_pieces arc u fits turn = subst (λ (d : Dir). ArePieces arc.track arc.sense arc.start (stations 4 arc d)) (sym turn) (quarters_divide arc fits).1

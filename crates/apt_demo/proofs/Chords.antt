-- Half a circle of the demo is divided into 256 chords.
use Rattle.std.proofs.Common.{refl, ◌≡◌, ℕ, zero, suc, ◌+◌, ◌<◌, ap, sym, ◌∙◌, Bool, true, false, List, [], ◌∷◌, ◌++◌, length, arith, ℤ, pos, negsuc, neg_ℤ, ◌+ℤ◌}
use Rattle.std.specs.Prelude.{if◌then◌else◌}
use Rattle.std.proofs.lemmas.List.{length-append, length-map}
use Rattle.std.proofs.lemmas.Int.{ints}
use Rattle.apt_num.specs.Root.{root}
use Rattle.apt_plane.specs.declared.figures.Pt.{Pt}
use Rattle.apt_plane.specs.declared.figures.Circ.{Circ}
use Rattle.apt_plane.specs.Vectors.{perp}
use Rattle.apt_canon.specs.Scale.{way}
use Rattle.apt_contact.specs.Meetings.{circle_about}
use Rattle.apt_arc.specs.declared.arc.Arc.{Arc}
use Rattle.apt_arc.specs.Cuts.{middle}
use Rattle.apt_arc.specs.Made.{is_clear, pieces, chain, first_past, quarters_from, stations, vertices, divided}
use Rattle.apt_arc.proofs.Moved.{moved, moved_arc, divided_moved}
use Rattle.apt_demo.proofs.Numbers.{rightward, track_radius, eight}
use Rattle.apt_demo.proofs.Scenes.{point}

-- ---- a number is computed before a function takes it, so that it is computed once
abbrev with_number : ℕ → (ℕ → ℕ) → ℕ
with_number zero f = f zero
with_number (suc n) f = f (suc n)

abbrev with_integer : ℤ → (ℤ → ℕ) → ℕ
with_integer (pos n) f = with_number n (λ m. f (pos m))
with_integer (negsuc n) f = with_number n (λ m. f (negsuc m))

abbrev with_point : Pt → (Pt → ℕ) → ℕ
with_point p f = with_integer p.x (λ x. with_integer p.y (λ y. f (point x y)))

number_taken : (n : ℕ) (f : ℕ → ℕ) → with_number n f ≡ f n
number_taken zero f = refl
number_taken (suc n) f = refl

integer_taken : (z : ℤ) (f : ℤ → ℕ) → with_integer z f ≡ f z
integer_taken (pos n) f = number_taken n (λ m. f (pos m))
integer_taken (negsuc n) f = number_taken n (λ m. f (negsuc m))

point_taken : (p : Pt) (f : Pt → ℕ) → with_point p f ≡ f p
point_taken p f = integer_taken p.x (λ x. with_integer p.y (λ y. f (point x y))) ∙ integer_taken p.y (λ y. f (point p.x y))

-- ---- how many chords a piece has
unfoldable count : ℕ → Circ → ℤ → Pt → Pt → ℕ
count zero t sag a b = 1
count (suc n) t sag a b = if is_clear t sag a b then 1 else with_point (middle t a b) (λ m. count n t sag a m + count n t sag m b)

by_test : (test : Bool) (b : Pt) (l k : List Pt) (n : ℕ) → length l + length k ≡ n → length (if test then b ∷ [] else l ++ k) ≡ (if test then 1 else n)
by_test true b l k n e = refl
by_test false b l k n e = length-append l k ∙ e

sums : (a b x y : ℕ) → a ≡ x → b ≡ y → a + b ≡ x + y
sums a b x y e f i = e i + f i

counted : (n : ℕ) (t : Circ) (sag : ℤ) (a b : Pt) → length (pieces n t sag a b) ≡ count n t sag a b
unfolding pieces count
counted zero t sag a b = refl
counted (suc n) t sag a b =
    let m = middle t a b in
    by_test (is_clear t sag a b) b (pieces n t sag a m) (pieces n t sag m b) _
    (sums _ _ _ _ (counted n t sag a m) (counted n t sag m b) ∙ sym (point_taken m (λ (p : Pt). count n t sag a p + count n t sag p b)))

-- ---- an arc with one quarter point on the way
abbrev stations_of : Arc → List Pt
stations_of a = stations 4 a (first_past 3 a.track a.sense a.start a.axis)

abbrev chords_by : Arc → Pt → ℕ
chords_by a q = count 24 a.track a.sag a.start q + count 24 a.track a.sag q a.end

none_behind : (l : List Pt) → length (l ++ []) ≡ length l
none_behind l = length-append l [] ∙ omega arith

along_two : (t : Circ) (sag : ℤ) (a p q : Pt) → length (chain 24 t sag a (p ∷ q ∷ [])) ≡ count 24 t sag a p + count 24 t sag p q
unfolding chain
along_two t sag a p q =
    length-append (pieces 24 t sag a p) (pieces 24 t sag p q ++ [])
    ∙ sums _ _ _ _ (counted 24 t sag a p) (none_behind (pieces 24 t sag p q) ∙ counted 24 t sag p q)

number_by : (a : Arc) (q : Pt) → stations_of a ≡ q ∷ a.end ∷ [] → length (divided a) ≡ chords_by a q
unfolding divided vertices
number_by a q e = ap (λ (l : List Pt). length (chain 24 a.track a.sag a.start l)) e ∙ along_two a.track a.sag a.start q a.end

-- ---- the halves of a circle about the origin

-- the arc of radius r round (x, y) from the point a to its right to the point b to its right
abbrev pub half_arc : ℤ → ℤ → ℕ → ℤ → ℤ → Arc
half_arc x y r a b = record {
  track = circle_about (point x y) (pos r);
  sense = pos 1;
  axis = perp rightward;
  sag = pos 8;
  start = point (x +ℤ a) y;
  end = point (x +ℤ b) y;
}

abbrev to_left : ℕ → Arc
to_left r = half_arc (pos 0) (pos 0) r (pos r) (neg_ℤ (pos r))

abbrev to_right : ℕ → Arc
to_right r = half_arc (pos 0) (pos 0) r (neg_ℤ (pos r)) (pos r)

abbrev above : ℕ → Pt
above r = point (pos 0) (pos r)

abbrev below : ℕ → Pt
below r = point (pos 0) (neg_ℤ (pos r))

record AreCounted (r : ℕ) : Type 0 where
  left_stations : stations_of (to_left r) ≡ above r ∷ (to_left r).end ∷ []
  right_stations : stations_of (to_right r) ≡ below r ∷ (to_right r).end ∷ []
  left_number : chords_by (to_left r) (above r) ≡ 256
  right_number : chords_by (to_right r) (below r) ≡ 256

all_counted : (i : ℕ) → i < 8 → AreCounted (track_radius i)
unfolding root is_clear first_past quarters_from stations count
all_counted = eight (λ i. AreCounted (track_radius i)) (search) (search) (search) (search) (search) (search) (search) (search)

-- ---- about any centre
zero_on : (x : ℤ) → pos 0 +ℤ x ≡ x
zero_on x = omega (arith, ints)

end_on : (x a : ℤ) → (pos 0 +ℤ a) +ℤ x ≡ x +ℤ a
end_on x a = omega (arith, ints)

half_moved : (x y : ℤ) (r : ℕ) (a b : ℤ) → moved_arc (way x y) (half_arc (pos 0) (pos 0) r a b) ≡ half_arc x y r a b
half_moved x y r a b i = record {
  track = circle_about (point (zero_on x i) (zero_on y i)) (pos r);
  sense = pos 1;
  axis = perp rightward;
  sag = pos 8;
  start = point (end_on x a i) (zero_on y i);
  end = point (end_on x b i) (zero_on y i);
}

number_moved : (x y : ℤ) (r : ℕ) (a b : ℤ) → length (divided (half_arc x y r a b)) ≡ length (divided (half_arc (pos 0) (pos 0) r a b))
number_moved x y r a b =
    let here = half_arc (pos 0) (pos 0) r a b in
    (λ i. length (divided (sym (half_moved x y r a b) i))) ∙ ap length (divided_moved (way x y) here) ∙ length-map (divided here) (moved (way x y))

-- from the right of the centre to its left
pub left_half : (x y : ℤ) (i : ℕ) → i < 8 → length (divided (half_arc x y (track_radius i) (pos (track_radius i)) (neg_ℤ (pos (track_radius i))))) ≡ 256
left_half x y i h =
    let r = track_radius i in
    let at = all_counted i h in
    number_moved x y r (pos r) (neg_ℤ (pos r)) ∙ number_by (to_left r) (above r) at.left_stations ∙ at.left_number

-- and back
pub right_half : (x y : ℤ) (i : ℕ) → i < 8 → length (divided (half_arc x y (track_radius i) (neg_ℤ (pos (track_radius i))) (pos (track_radius i)))) ≡ 256
right_half x y i h =
    let r = track_radius i in
    let at = all_counted i h in
    number_moved x y r (neg_ℤ (pos r)) (pos r) ∙ number_by (to_right r) (below r) at.right_stations ∙ at.right_number

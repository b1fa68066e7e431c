-- Where both ends of a segment and both feet on it are far from an edge, and the edge does not cross it, every point of it is far.
use Rattle.std.proofs.Common.{refl, ◌≡◌, ◌∙◌, sym, ap, subst, ◌⊎◌, inl, inr, ℕ, zero, suc, ◌+◌, ◌*◌, ◌≤◌, ◌<◌, true, arith, ℤ, pos, negsuc, ◌+ℤ◌, ◌-ℤ◌, ◌*ℤ◌, ◌≤ℤ◌, ◌<ℤ◌, neg_ℤ, int_lt, unsigned_abs}
use Rattle.std.specs.List.{AllByRecursion}
use Rattle.std.proofs.Math.Nat.{mul-le-mul_left}
use Rattle.std.proofs.lemmas.Int.{ints}
use Rattle.std.proofs.lemmas.Nat.{mul-le}
use Rattle.std.proofs.lemmas.Bool.{cases_lt}
use Rattle.apt_num.proofs.Ring.{as_diff, diff-pos, diff-negsuc, diff-same, differences, scaled_le, *ℤ-neg, pos-*ℤ}
use Rattle.apt_num.proofs.Squares.{cancel_le}
use Rattle.apt_num.proofs.Products.{sign_cases, no_minus}
use Rattle.apt_plane.specs.declared.figures.Pt.{Pt}
use Rattle.apt_plane.specs.declared.figures.Dir.{Dir}
use Rattle.apt_plane.specs.declared.figures.Spot.{Spot}
use Rattle.apt_plane.specs.Vectors.{Scaled, scaled, between, displacement, displacement_to, cross, dot, length_squared}
use Rattle.apt_plane.specs.Distances.{IsOver, about, EveryPoint}
use Rattle.apt_plane.specs.Segments.{IsFoot}
use Rattle.apt_plane.proofs.Displacements.{square_length_squared, lagrange, cross_square, dot_sum, dot_times, cross_sum, cross_times}
use Rattle.apt_plane.proofs.Heights.{one-times}
use Rattle.apt_plane.proofs.Lengths.{times, displacement_between}
use Rattle.apt_plane.proofs.RingLaws.{IsFootFar, length_at_most, over_to, over-between}
use Rattle.apt_outline.specs.Spots.{at_spot, inner, foot}
use Rattle.apt_outline.specs.Clearances.{IsFar}
use Rattle.apt_outline.specs.Edges.{side, IsMissed}
use Rattle.apt_outline.proofs.Far.{far_behind, far_beyond, from_start, from_end, from_across}
use Rattle.apt_outline.proofs.Perpendiculars.{foot_way, length_aside, dot_to_end, cross_to_end}
use Rattle.apt_outline.proofs.Core as core
use Rattle.apt_outline.proofs.Tests.{across_is}

-- ---- a segment along an edge and across it
abbrev pub ends_of : Pt → Pt → Pt → Pt → core.Ends
ends_of p q a b = record {
  ua = dot (displacement p q) (displacement p a);
  ub = dot (displacement p q) (displacement p b);
  ga = cross (displacement p q) (displacement p a);
  gb = cross (displacement p q) (displacement p b);
}

same_sum : (x y u v : ℤ) → x ≡ u → y ≡ v → x +ℤ y ≡ u +ℤ v
same_sum x y u v e f = λ i. e i +ℤ f i

along_mean : (p q a b : Pt) (j k : ℕ) → dot (displacement p q) (displacement_to p (between a b j k)) ≡ core.mean (ends_of p q a b).ua (ends_of p q a b).ub j k
along_mean p q a b j k =
    ap (λ (d : Dir). dot (displacement p q) d) (displacement_between p a b j k)
    ∙ dot_sum (displacement p q) (times (pos k) (displacement p a)) (times (pos j) (displacement p b))
    ∙ same_sum _ _ _ _ (dot_times (displacement p q) (displacement p a) (pos k)) (dot_times (displacement p q) (displacement p b) (pos j))

across_mean : (p q a b : Pt) (j k : ℕ) → cross (displacement p q) (displacement_to p (between a b j k)) ≡ core.mean (ends_of p q a b).ga (ends_of p q a b).gb j k
across_mean p q a b j k =
    ap (λ (d : Dir). cross (displacement p q) d) (displacement_between p a b j k)
    ∙ cross_sum (displacement p q) (times (pos k) (displacement p a)) (times (pos j) (displacement p b))
    ∙ same_sum _ _ _ _ (cross_times (displacement p q) (displacement p a) (pos k)) (cross_times (displacement p q) (displacement p b) (pos j))

-- ---- far from both ends of the edge
off_law : (m rr n N : ℕ) (u g v h : ℤ) → m * m * rr ≤ N → n * N ≡ unsigned_abs u * unsigned_abs u + unsigned_abs g * unsigned_abs g → u ≡ v → g ≡ h
    → m * m * (rr * n) ≤ core.square v + core.square h
off_law m rr n N u g v h far e f i = omega (arith, rw (f, i) at e, mul-le-mul_left n far)

less_whole : (u v : ℤ) (n m : ℕ) → u ≡ v → u -ℤ (pos n *ℤ pos m) ≡ v -ℤ pos (n * m)
less_whole u v n m e = rw e (omega (arith, ints))

off_ends : (r : ℕ) (p q a b : Pt) → EveryPoint a b (IsOver (about p) (pos r)) → EveryPoint a b (IsOver (about q) (pos r))
    → core.AreOffEnds (ends_of p q a b) (length_squared (displacement p q)) (r * r * length_squared (displacement p q))
off_ends r p q a b from_p from_q = record {
  start = λ j k some.
      let v = displacement_to p (between a b j k) in
      off_law (j + k) (r * r) (length_squared (displacement p q)) (length_squared v) _ _ _ _ ((length_at_most (j + k) r (length_squared v)).0 (from_p j k some))
      (lagrange (displacement p q) v) (along_mean p q a b j k) (across_mean p q a b j k);
  end = λ j k some.
      let s = between a b j k in
      let v = displacement_to q s in
      off_law (j + k) (r * r) (length_squared (displacement p q)) (length_squared v) _ _ _ _ ((length_at_most (j + k) r (length_squared v)).0 (from_q j k some))
      (lagrange (displacement p q) v)
      (dot_to_end s p q ∙ less_whole _ _ (length_squared (displacement p q)) (j + k) (along_mean p q a b j k)) (cross_to_end s p q ∙ across_mean p q a b j k);
}

-- ---- what is far is besides
order_cases : (u v : ℤ) → (u <ℤ v) ⊎ (v ≤ℤ u)
order_cases u v = elim (sign_cases (v -ℤ u)) [ inl more ↦ inl (omega (arith, ints, more)) | inr less ↦ inr (omega (arith, ints, less)) ]

besides_law : (m rr n : ℕ) (g h : ℤ) → g ≡ h → rr * n * (m * m) ≤ unsigned_abs g * unsigned_abs g → m * m * (rr * n) ≤ core.square h
besides_law m rr n g h e far = omega (arith, rw e at far)

turned_product : (m n : ℕ) (u v : ℤ) → u ≡ v → pos (m * n) ≤ℤ u → pos (n * m) ≤ℤ v
turned_product m n u v e h = omega (arith, ints, rw e at h)

far_besides : (r : ℕ) (p q a b : Pt) (j k : ℕ) → IsFar r p q (between a b j k)
    → core.IsBesides (ends_of p q a b) (length_squared (displacement p q)) (r * r * length_squared (displacement p q)) j k
far_besides r p q a b j k far =
    let s = between a b j k in
    let n = length_squared (displacement p q) in
    let u = dot (displacement p q) (displacement_to p s) in
    elim (sign_cases u) [
      | inr behind ↦ inl (subst (λ (z : ℤ). z ≤ℤ pos 0) (along_mean p q a b j k) behind)
      | inl some ↦ elim (order_cases u (pos (s.m * n))) [
        | inl less ↦ inr (inr (besides_law (j + k) (r * r) n _ _ (across_mean p q a b j k) ((across_is r s p q some less).1 far)))
        | inr beyond ↦ inr (inl (turned_product s.m n _ _ (along_mean p q a b j k) beyond))
      ]
    ]

start_part : (p q : ℤ) → (pos 1 *ℤ p) +ℤ (pos 0 *ℤ q) ≡ p
start_part p q = omega (arith, ints)

end_part : (p q : ℤ) → (pos 0 *ℤ p) +ℤ (pos 1 *ℤ q) ≡ q
end_part p q = omega (arith, ints)

pub at_first : (a b : Pt) → between a b 0 1 ≡ scaled a
at_first a b = rw (start_part a.x b.x, start_part a.y b.y) refl

pub at_last : (a b : Pt) → between a b 1 0 ≡ scaled b
at_last a b = rw (end_part a.x b.x, end_part a.y b.y) refl

-- ---- where the line crosses, by the sides of the segment on which the ends of the edge are
sides_parts : (a b c d x y : ℤ) → (((a *ℤ d) -ℤ (b *ℤ c)) *ℤ ((a *ℤ x) +ℤ (b *ℤ y))) -ℤ (((a *ℤ y) -ℤ (b *ℤ x)) *ℤ ((a *ℤ c) +ℤ (b *ℤ d)))
    ≡ neg_ℤ (((a *ℤ a) +ℤ (b *ℤ b)) *ℤ ((c *ℤ y) -ℤ (d *ℤ x)))
sides_parts a b c d x y = rw (as_diff a, as_diff b, as_diff c, as_diff d, as_diff x, as_diff y) (simp differences (diff-same _ _ _ _ (omega arith)))

side_parts : (px py ax ay bx by : ℤ) → ((bx -ℤ ax) *ℤ (py -ℤ ay)) -ℤ ((by -ℤ ay) *ℤ (px -ℤ ax)) ≡ ((ax -ℤ px) *ℤ (by -ℤ py)) -ℤ ((ay -ℤ py) *ℤ (bx -ℤ px))
side_parts px py ax ay bx by = rw (as_diff px, as_diff py, as_diff ax, as_diff ay, as_diff bx, as_diff by) (simp differences (diff-same _ _ _ _ (omega arith)))

side_is : (p a b : Pt) → side p a b ≡ cross (displacement p a) (displacement p b)
side_is p a b = side_parts p.x p.y a.x a.y b.x b.y

other_parts : (px py qx qy ax ay bx by : ℤ) → ((bx -ℤ ax) *ℤ (qy -ℤ ay)) -ℤ ((by -ℤ ay) *ℤ (qx -ℤ ax))
    ≡ (((bx -ℤ ax) *ℤ (py -ℤ ay)) -ℤ ((by -ℤ ay) *ℤ (px -ℤ ax)))
    +ℤ ((((qx -ℤ px) *ℤ (ay -ℤ py)) -ℤ ((qy -ℤ py) *ℤ (ax -ℤ px))) -ℤ (((qx -ℤ px) *ℤ (by -ℤ py)) -ℤ ((qy -ℤ py) *ℤ (bx -ℤ px))))
other_parts px py qx qy ax ay bx by =
    rw (as_diff px, as_diff py, as_diff qx, as_diff qy, as_diff ax, as_diff ay, as_diff bx, as_diff by) (simp differences (diff-same _ _ _ _ (omega arith)))

pub side_end : (p q a b : Pt) → side q a b ≡ side p a b +ℤ ((ends_of p q a b).ga -ℤ (ends_of p q a b).gb)
side_end p q a b = other_parts p.x p.y q.x q.y a.x a.y b.x b.y

sides_law : (e v w : Dir) (m : ℤ) → m ≡ (e.dx *ℤ e.dx) +ℤ (e.dy *ℤ e.dy) → (cross e v *ℤ dot e w) -ℤ (cross e w *ℤ dot e v) ≡ neg_ℤ (m *ℤ cross v w)
sides_law e v w m is = rw is (sides_parts e.dx e.dy v.dx v.dy w.dx w.dy)

pub sides : (p q a b : Pt) → ((ends_of p q a b).ga *ℤ (ends_of p q a b).ub) -ℤ ((ends_of p q a b).gb *ℤ (ends_of p q a b).ua) ≡ neg_ℤ (pos (length_squared (displacement p q)) *ℤ side p a b)
sides p q a b =
    sides_law (displacement p q) (displacement p a) (displacement p b) (pos (length_squared (displacement p q))) (square_length_squared (displacement p q))
    ∙ ap (λ (z : ℤ). neg_ℤ (pos (length_squared (displacement p q)) *ℤ z)) (sym (side_is p a b))

-- how far along the edge the crossing is
down_parts : (a b : ℕ) (x y : ℤ) → (pos (suc b) *ℤ x) +ℤ (pos a *ℤ y) ≡ (pos a *ℤ y) -ℤ (negsuc b *ℤ x)
down_parts a b x y = rw (as_diff x, as_diff y, diff-pos a, diff-pos (suc b), diff-negsuc b) (simp differences (diff-same _ _ _ _ (omega arith)))

crossing_down : (x : core.Ends) (z : ℤ) → pos 0 <ℤ x.ga → x.gb <ℤ pos 0 → (x.ga *ℤ x.ub) -ℤ (x.gb *ℤ x.ua) ≡ z → core.mean x.ua x.ub (unsigned_abs x.ga) (unsigned_abs x.gb) ≡ z
crossing_down x z p q e = of_signs x.ga x.gb p q ∙ e
  where
    of_signs : (g h : ℤ) → pos 0 <ℤ g → h <ℤ pos 0 → core.mean x.ua x.ub (unsigned_abs g) (unsigned_abs h) ≡ (g *ℤ x.ub) -ℤ (h *ℤ x.ua)
    of_signs (pos a) (negsuc b) p q = down_parts a b x.ua x.ub
    of_signs (pos a) (pos b) p q = absurd (omega (arith, ints, q))
    of_signs (negsuc a) h p q = absurd (omega (arith, ints, p))

up_parts : (a b : ℕ) (x y : ℤ) → (pos b *ℤ x) +ℤ (pos (suc a) *ℤ y) ≡ neg_ℤ ((negsuc a *ℤ y) -ℤ (pos b *ℤ x))
up_parts a b x y = rw (as_diff x, as_diff y, diff-pos b, diff-pos (suc a), diff-negsuc a) (simp differences (diff-same _ _ _ _ (omega arith)))

crossing_up : (x : core.Ends) (z : ℤ) → x.ga <ℤ pos 0 → pos 0 <ℤ x.gb → (x.ga *ℤ x.ub) -ℤ (x.gb *ℤ x.ua) ≡ z → core.mean x.ua x.ub (unsigned_abs x.ga) (unsigned_abs x.gb) ≡ neg_ℤ z
crossing_up x z p q e = of_signs x.ga x.gb p q ∙ ap neg_ℤ e
  where
    of_signs : (g h : ℤ) → g <ℤ pos 0 → pos 0 <ℤ h → core.mean x.ua x.ub (unsigned_abs g) (unsigned_abs h) ≡ neg_ℤ ((g *ℤ x.ub) -ℤ (h *ℤ x.ua))
    of_signs (negsuc a) (pos b) p q = up_parts a b x.ua x.ub
    of_signs (negsuc a) (negsuc b) p q = absurd (omega (arith, ints, q))
    of_signs (pos a) h p q = absurd (omega (arith, ints, p))

behind_start : (n : ℕ) (k u : ℤ) → u ≡ neg_ℤ (pos n *ℤ k) → pos 0 <ℤ k → u ≤ℤ pos 0
behind_start n k u e h =
    let product = no_minus (pos n) k (omega (arith, ints)) (omega (arith, ints, h)) in
    omega (arith, ints, e, product)

beyond_end : (n m : ℕ) (k u : ℤ) → u ≡ neg_ℤ (pos n *ℤ k) → (k +ℤ pos m) <ℤ pos 0 → pos (n * m) ≤ℤ u
beyond_end n m k u e h =
    let product = rw (*ℤ-neg (pos n) k, pos-*ℤ n m) at (scaled_le n (pos m) (neg_ℤ k) (omega (arith, ints, h))) in
    rw e product

-- the crossing is besides the edge
missed_at : (x : core.Ends) (n t m : ℕ) (k : ℤ) → core.mean x.ua x.ub (unsigned_abs x.ga) (unsigned_abs x.gb) ≡ neg_ℤ (pos n *ℤ k) → m ≡ unsigned_abs x.ga + unsigned_abs x.gb
    → (pos 0 <ℤ k) ⊎ ((k +ℤ pos m) <ℤ pos 0) → core.IsBesides x n t (unsigned_abs x.ga) (unsigned_abs x.gb)
missed_at x n t m k e f (inl h) = inl (behind_start n k _ e h)
missed_at x n t m k e f (inr h) = inr (inl (subst (λ i. pos (n * i) ≤ℤ core.mean x.ua x.ub (unsigned_abs x.ga) (unsigned_abs x.gb)) f (beyond_end n m k _ e h)))

turned_sign : (n : ℕ) (k u z : ℤ) → u ≡ neg_ℤ z → z ≡ neg_ℤ (pos n *ℤ k) → u ≡ neg_ℤ (pos n *ℤ neg_ℤ k)
turned_sign n k u z e f = rw (e, f, *ℤ-neg (pos n) k) refl

missed_besides : (x : core.Ends) (n t : ℕ) (k l : ℤ) → (x.ga *ℤ x.ub) -ℤ (x.gb *ℤ x.ua) ≡ neg_ℤ (pos n *ℤ k) → l ≡ k +ℤ (x.ga -ℤ x.gb) → IsMissed x.ga x.gb k l
    → core.AreOpposite x.ga x.gb → core.IsBesides x n t (unsigned_abs x.ga) (unsigned_abs x.gb)
missed_besides x n t k l e f missed across = elim (which x.ga x.gb across) [
  | inl down ↦
      missed_at x n t (unsigned_abs x.ga + unsigned_abs x.gb) k (crossing_down x _ down.0 down.1 e) refl
      (elim (missed.down down.0 down.1) [ inl h ↦ inl h | inr h ↦ inr (down_rest x.ga x.gb k l f down.0 down.1 h) ])
  | inr up ↦
      missed_at x n t (unsigned_abs x.ga + unsigned_abs x.gb) (neg_ℤ k) (turned_sign n k _ _ (crossing_up x _ up.0 up.1 refl) e) refl
      (elim (missed.up up.0 up.1) [ inl h ↦ inl (omega (arith, ints, h)) | inr h ↦ inr (up_rest x.ga x.gb k l f up.0 up.1 h) ])
]
  where
    which : (g h : ℤ) → core.AreOpposite g h → ((pos 0 <ℤ g) × (h <ℤ pos 0)) ⊎ ((g <ℤ pos 0) × (pos 0 <ℤ h))
    which (pos zero) h p = absurd p
    which (pos (suc a)) (pos b) p = absurd p
    which (pos (suc a)) (negsuc b) p = inl (omega (arith, ints), omega (arith, ints))
    which (negsuc a) (pos zero) p = absurd p
    which (negsuc a) (pos (suc b)) p = inr (omega (arith, ints), omega (arith, ints))
    which (negsuc a) (negsuc b) p = absurd p

    down_rest : (g h k l : ℤ) → l ≡ k +ℤ (g -ℤ h) → pos 0 <ℤ g → h <ℤ pos 0 → l <ℤ pos 0 → (k +ℤ pos (unsigned_abs g + unsigned_abs h)) <ℤ pos 0
    down_rest g h k l e p q less = omega (arith, ints, e, p, q, less)

    up_rest : (g h k l : ℤ) → l ≡ k +ℤ (g -ℤ h) → g <ℤ pos 0 → pos 0 <ℤ h → pos 0 <ℤ l → (neg_ℤ k +ℤ pos (unsigned_abs g + unsigned_abs h)) <ℤ pos 0
    up_rest g h k l e p q more = omega (arith, ints, e, p, q, more)

-- ---- and where it crosses the edge it is not far
some_edge : (n m g : ℕ) → g * g ≤ n * m → 0 < g → 0 < n
some_edge zero m g h some = absurd (omega (arith, h, mul-le 1 1 g g some some))
some_edge (suc n) m g h some = omega arith

on_edge_law : (rr n m : ℕ) (g : ℤ) → 0 < rr → 0 < n → 0 < m → g ≡ pos 0 → rr * n * (m * m) ≤ unsigned_abs g * unsigned_abs g → ⊥
on_edge_law rr n m g p q s e h =
    let low = rw e at h in
    absurd (omega (arith, low, mul-le 1 1 (rr * n) (m * m) (omega (arith, mul-le 1 1 rr n p q)) (omega (arith, mul-le 1 1 m m s s))))

on_edge : (r : ℕ) (p q a b : Pt) (i h : ℕ) → 0 < r → core.AreOpposite (ends_of p q a b).ga (ends_of p q a b).gb
    → core.mean (ends_of p q a b).ua (ends_of p q a b).ub (unsigned_abs (ends_of p q a b).ga) (unsigned_abs (ends_of p q a b).gb) ≡ pos (length_squared (displacement p q) * i)
    → i + h ≡ unsigned_abs (ends_of p q a b).ga + unsigned_abs (ends_of p q a b).gb
    → ¬ IsFar r p q (between a b (unsigned_abs (ends_of p q a b).ga) (unsigned_abs (ends_of p q a b).gb))
on_edge r p q a b i h some across along whole = λ far.
    let x = ends_of p q a b in
    let j = unsigned_abs x.ga in
    let k = unsigned_abs x.gb in
    let n = length_squared (displacement p q) in
    let many = core.crossing_some x.ga x.gb across in
    let edge = some_edge n (length_squared (displacement p a)) j (cross_square (displacement p q) (displacement p a)) (first_some x.ga x.gb across) in
    let least =
    from_across r (between a b j k) p q (n * i) (n * h) (along_mean p q a b j k ∙ along) (omega (arith, ap (λ z. n * z) whole))
    (omega (arith, ap (λ z. n * z) whole, mul-le 1 1 n (j + k) edge many)) far in
    on_edge_law (r * r) n (j + k) _ (omega (arith, mul-le 1 1 r r some some)) edge many (across_mean p q a b j k ∙ core.at_crossing x.ga x.gb across) least
  where
    first_some : (g h : ℤ) → core.AreOpposite g h → 0 < unsigned_abs g
    first_some (pos zero) h p = absurd p
    first_some (pos (suc a)) h p = omega (arith, ints)
    first_some (negsuc a) h p = omega (arith, ints)

opposite_down : (g h : ℤ) → pos 0 <ℤ g → h <ℤ pos 0 → core.AreOpposite g h
opposite_down (pos zero) h p q = absurd (omega (arith, ints, p))
opposite_down (pos (suc a)) (pos b) p q = absurd (omega (arith, ints, q))
opposite_down (pos (suc a)) (negsuc b) p q = tt
opposite_down (negsuc a) h p q = absurd (omega (arith, ints, p))

opposite_up : (g h : ℤ) → g <ℤ pos 0 → pos 0 <ℤ h → core.AreOpposite g h
opposite_up (pos a) h p q = absurd (omega (arith, ints, p))
opposite_up (negsuc a) (pos zero) p q = absurd (omega (arith, ints, q))
opposite_up (negsuc a) (pos (suc b)) p q = tt
opposite_up (negsuc a) (negsuc b) p q = absurd (omega (arith, ints, q))

back_along : (n : ℕ) (k : ℤ) → k ≤ℤ pos 0 → neg_ℤ (pos n *ℤ k) ≡ pos (n * unsigned_abs k)
back_along n (pos zero) h = omega (arith, ints)
back_along n (pos (suc k)) h = absurd (omega (arith, ints, h))
back_along n (negsuc k) h = omega (arith, ints)

pub on_edge_down : (r : ℕ) (p q a b : Pt) → 0 < r → pos 0 <ℤ (ends_of p q a b).ga → (ends_of p q a b).gb <ℤ pos 0 → side p a b ≤ℤ pos 0 → pos 0 ≤ℤ side q a b
    → ¬ IsFar r p q (between a b (unsigned_abs (ends_of p q a b).ga) (unsigned_abs (ends_of p q a b).gb))
on_edge_down r p q a b some more less first second =
    let x = ends_of p q a b in
    on_edge r p q a b (unsigned_abs (side p a b)) (unsigned_abs (side q a b)) some (opposite_down x.ga x.gb more less)
    (crossing_down x _ more less (sides p q a b) ∙ back_along (length_squared (displacement p q)) (side p a b) first)
    (whole_down x.ga x.gb (side p a b) (side q a b) (side_end p q a b) more less first second)
  where
    whole_down : (g h k l : ℤ) → l ≡ k +ℤ (g -ℤ h) → pos 0 <ℤ g → h <ℤ pos 0 → k ≤ℤ pos 0 → pos 0 ≤ℤ l → unsigned_abs k + unsigned_abs l ≡ unsigned_abs g + unsigned_abs h
    whole_down g h k l e p q s t = omega (arith, ints, e, p, q, s, t)

pub on_edge_up : (r : ℕ) (p q a b : Pt) → 0 < r → (ends_of p q a b).ga <ℤ pos 0 → pos 0 <ℤ (ends_of p q a b).gb → pos 0 ≤ℤ side p a b → side q a b ≤ℤ pos 0
    → ¬ IsFar r p q (between a b (unsigned_abs (ends_of p q a b).ga) (unsigned_abs (ends_of p q a b).gb))
on_edge_up r p q a b some less more first second =
    let x = ends_of p q a b in
    on_edge r p q a b (unsigned_abs (side p a b)) (unsigned_abs (side q a b)) some (opposite_up x.ga x.gb less more)
    (crossing_up x _ less more refl ∙ ap neg_ℤ (sides p q a b) ∙ forth_along (length_squared (displacement p q)) (side p a b) first)
    (whole_up x.ga x.gb (side p a b) (side q a b) (side_end p q a b) less more first second)
  where
    forth_along : (n : ℕ) (k : ℤ) → pos 0 ≤ℤ k → neg_ℤ (neg_ℤ (pos n *ℤ k)) ≡ pos (n * unsigned_abs k)
    forth_along n (pos k) h = omega (arith, ints)
    forth_along n (negsuc k) h = absurd (omega (arith, ints, h))

    whole_up : (g h k l : ℤ) → l ≡ k +ℤ (g -ℤ h) → g <ℤ pos 0 → pos 0 <ℤ h → pos 0 ≤ℤ k → l ≤ℤ pos 0 → unsigned_abs k + unsigned_abs l ≡ unsigned_abs g + unsigned_abs h
    whole_up g h k l e p q s t = omega (arith, ints, e, p, q, s, t)

-- ---- from the list of spots
lt_true : (x y : ℤ) → x <ℤ y → int_lt x y ≡ true
lt_true x y h = grind (arith, ints)

pub inner_holds : (P : Spot → Type 0) (j m : ℤ) → AllByRecursion P (inner j m) → pos 0 <ℤ j → j <ℤ m → P (record { j = j; m = m })
inner_holds P j m all some less = (rw (lt_true (pos 0) j some, lt_true j m less) at all).0

pub foot_of : (c a b : Pt) → pos 0 <ℤ dot (displacement a b) (displacement a c) → dot (displacement a b) (displacement a c) <ℤ pos (length_squared (displacement a b))
    → IsFoot c a b (unsigned_abs (dot (displacement a b) (displacement a c))) (unsigned_abs (pos (length_squared (displacement a b)) -ℤ dot (displacement a b) (displacement a c)))
foot_of c a b some less = record {
  behind_start = omega (arith, ints, some);
  before_end = omega (arith, ints, some, less);
  along = omega (arith, ints, some);
  whole = omega (arith, ints, some, less);
}

-- a foot that is far from an edge is far from the point whose foot it is
foot_law : (m rr w N l : ℕ) → 0 < m → l ≡ m → N ≡ w * w * m → l * l * rr ≤ N → rr * m ≤ w * w
foot_law m rr w N l some e f far = cancel_le m (rr * m) (w * w) some (omega (arith, f, rw e at far))

foot_apart : (r : ℕ) (c a b : Pt) (j k : ℕ) → IsFoot c a b j k → (j + k) * (j + k) * (r * r) ≤ length_squared (displacement_to c (between a b j k))
    → r * r * length_squared (displacement a b) ≤ unsigned_abs (side c a b) * unsigned_abs (side c a b)
foot_apart r c a b j k foot far =
    foot_law (length_squared (displacement a b)) (r * r) (unsigned_abs (side c a b)) (length_squared (displacement_to c (between a b j k))) (j + k) (omega (arith, foot.whole, foot.behind_start)) foot.whole
    (ap length_squared (foot_way c a b j k foot) ∙ length_aside (displacement a b) (side c a b)) far

some_whole : (u : ℤ) (m : ℕ) → pos 0 <ℤ u → u <ℤ pos m → 0 < m
some_whole u m p q = omega (arith, ints, p, q)

foot_far : (r : ℕ) (c a b : Pt)
    → (pos 0 <ℤ dot (displacement a b) (displacement a c) → dot (displacement a b) (displacement a c) <ℤ pos (length_squared (displacement a b))
    → r * r * length_squared (displacement a b) ≤ unsigned_abs (side c a b) * unsigned_abs (side c a b))
    → IsFootFar c a b r
foot_far r c a b far =
    let u = dot (displacement a b) (displacement a c) in
    let m = length_squared (displacement a b) in
    elim (sign_cases u) [
      | inr behind ↦ inl behind
      | inl some ↦ elim (order_cases u (pos m)) [ inl less ↦ inr (inr (some_whole u m some less, far some less)) | inr beyond ↦ inr (inl beyond) ]
    ]

-- the edge's start is far from the segment, and its end
to_point : (p a : Pt) → displacement_to p (scaled a) ≡ displacement p a
to_point p a = rw (one-times p.x, one-times p.y) refl

over_of : (r : ℕ) (c a : Pt) → (scaled a).m * (scaled a).m * (r * r) ≤ length_squared (displacement_to c (scaled a)) → IsOver (about c) (pos r) (scaled a)
over_of r c a far = over_to c a r (omega (arith, far, ap length_squared (to_point c a)))

far_from_start : (r : ℕ) (p q a b : Pt) → IsFar r p q (scaled a) → IsFar r p q (scaled b) → AllByRecursion (λ t. IsFar r p q (at_spot a b t)) (foot p a b) → EveryPoint a b (IsOver (about p) (pos r))
far_from_start r p q a b start end feet =
    over-between p a b r (over_of r p a (from_start r (scaled a) p q start)) (over_of r p b (from_start r (scaled b) p q end))
    (foot_far r p a b (λ some less.
    foot_apart r p a b _ _ (foot_of p a b some less)
    (from_start r _ p q (inner_holds (λ t. IsFar r p q (at_spot a b t)) (dot (displacement a b) (displacement a p)) (pos (length_squared (displacement a b))) feet some less))))

far_from_end : (r : ℕ) (p q a b : Pt) → IsFar r p q (scaled a) → IsFar r p q (scaled b) → AllByRecursion (λ t. IsFar r p q (at_spot a b t)) (foot q a b) → EveryPoint a b (IsOver (about q) (pos r))
far_from_end r p q a b start end feet =
    over-between q a b r (over_of r q a (from_end r (scaled a) p q start)) (over_of r q b (from_end r (scaled b) p q end))
    (foot_far r q a b (λ some less.
    foot_apart r q a b _ _ (foot_of q a b some less)
    (from_end r _ p q (inner_holds (λ t. IsFar r p q (at_spot a b t)) (dot (displacement a b) (displacement a q)) (pos (length_squared (displacement a b))) feet some less))))

-- what is told of a segment: its ends, the feet on it and the crossing
pub record AreFar (r : ℕ) (p q a b : Pt) : Type 0 where
  pub start : IsFar r p q (scaled a)
  pub end : IsFar r p q (scaled b)
  pub start_foot : AllByRecursion (λ t. IsFar r p q (at_spot a b t)) (foot p a b)
  pub end_foot : AllByRecursion (λ t. IsFar r p q (at_spot a b t)) (foot q a b)
  pub crossing : IsMissed (ends_of p q a b).ga (ends_of p q a b).gb (side p a b) (side q a b)

near_law : (m rr n : ℕ) (g h : ℤ) → g ≡ h → core.square h < rr * n * (m * m) → unsigned_abs g * unsigned_abs g < rr * n * (m * m)
near_law m rr n g h e near = rw e near

pub all_far : (r : ℕ) (p q a b : Pt) → AreFar r p q a b → EveryPoint a b (IsFar r p q)
all_far r p q a b are = λ j k some.
    let s = between a b j k in
    let n = length_squared (displacement p q) in
    let x = ends_of p q a b in
    let u = dot (displacement p q) (displacement_to p s) in
    let g = cross (displacement p q) (displacement_to p s) in
    let from_p = far_from_start r p q a b are.start are.end are.start_foot in
    let from_q = far_from_end r p q a b are.start are.end are.end_foot in
    elim (sign_cases u) [
      | inr behind ↦ far_behind r s p q behind ((length_at_most (j + k) r (length_squared (displacement_to p s))).0 (from_p j k some))
      | inl ahead ↦ elim (order_cases u (pos (s.m * n))) [
        | inr beyond ↦ far_beyond r s p q beyond ((length_at_most (j + k) r (length_squared (displacement_to q s))).0 (from_q j k some))
        | inl less ↦ elim (cases_lt (unsigned_abs g * unsigned_abs g) (r * r * n * (s.m * s.m))) [
          | inr far ↦ (across_is r s p q ahead less).0 far
          | inl near ↦
              absurd (core.none_over x n (r * r * n) j k (off_ends r p q a b from_p from_q) besides (record {
                some = some;
                behind = subst (λ (z : ℤ). pos 0 <ℤ z) (along_mean p q a b j k) ahead;
                before = subst (λ (z : ℤ). z <ℤ pos (n * (j + k))) (along_mean p q a b j k) (turned_less u (j + k) n less);
                near = subst (λ (z : ℤ). core.square z < r * r * n * ((j + k) * (j + k))) (across_mean p q a b j k) near;
              }))
        ]
      ]
    ]
  where
    turned_less : (u : ℤ) (m n : ℕ) → u <ℤ pos (m * n) → u <ℤ pos (n * m)
    turned_less u m n h = omega (arith, ints, h)

    besides : core.AreBesides (ends_of p q a b) (length_squared (displacement p q)) (r * r * length_squared (displacement p q))
    besides = record {
      start = far_besides r p q a b 0 1 (subst (λ (s : Scaled). IsFar r p q s) (sym (at_first a b)) are.start);
      end = far_besides r p q a b 1 0 (subst (λ (s : Scaled). IsFar r p q s) (sym (at_last a b)) are.end);
      crossing = missed_besides (ends_of p q a b) (length_squared (displacement p q)) (r * r * length_squared (displacement p q)) (side p a b) (side q a b) (sides p q a b) (side_end p q a b) are.crossing;
    }

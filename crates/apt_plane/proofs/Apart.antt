-- What is at least a length from a surface, or at most one, is so of a point that is near, by how near it is.
use Rattle.std.proofs.Common.{refl, ◌≡◌, inl, inr, ℕ, ◌+◌, ◌-◌, ◌*◌, ◌≤◌, ◌<◌, ◌∙◌, ap, sym, subst, arith, ℤ, pos, negsuc, neg_ℤ, ◌+ℤ◌, ◌-ℤ◌, ◌*ℤ◌, ◌<ℤ◌, unsigned_abs}
use Rattle.std.proofs.Math.Nat.{mul-le-mul_left}
use Rattle.std.proofs.lemmas.Int.{ints}
use Rattle.std.proofs.lemmas.Nat.{mul-lt}
use Rattle.std.proofs.lemmas.Bool.{cases_lt}
use Rattle.apt_num.specs.Sign.{AtLeast}
use Rattle.apt_num.proofs.Ring.{as_diff, diff-pos, diff-same, differences, *ℤ-neg}
use Rattle.apt_num.proofs.Squares.{cancel_le, size_back, size_neg}
use Rattle.apt_num.proofs.Sums.{at_least-sum, at_least-times, at_least-cancel, size_at_least}
use Rattle.apt_plane.specs.declared.figures.Pt.{Pt}
use Rattle.apt_plane.specs.declared.figures.Dir.{Dir}
use Rattle.apt_plane.specs.declared.figures.Line.{Line}
use Rattle.apt_plane.specs.declared.figures.Surface.{Surface}
use Rattle.apt_plane.specs.declared.figures.Surface.TheVariants as surfaces
use Rattle.apt_plane.specs.Vectors.{Scaled, displacement_to, cross, length_squared, height}
use Rattle.apt_plane.specs.Distances.{IsAbove, IsBelow, IsOver, IsUnder, about}
use Rattle.apt_plane.proofs.Displacements.{to, cross_square, cross_sum, cross_times}
use Rattle.apt_plane.proofs.Lengths.{plus, times, minus, length_of_times, sum_of_lengths, difference_of_lengths}
use Rattle.apt_plane.proofs.RingLaws.{length_at_most, root_at_most, negative_at_most, never_at_most}

-- the way from one fraction to another, times both denominators
abbrev pub apart : Scaled → Scaled → Dir
apart y x = to ((pos y.m *ℤ x.x) -ℤ (pos x.m *ℤ y.x)) ((pos y.m *ℤ x.y) -ℤ (pos x.m *ℤ y.y))

-- two points are at most a length apart
pub record AreNear (w : ℕ) (y x : Scaled) : Type 0 where
  pub some : 0 < y.m
  pub other : 0 < x.m
  pub short : length_squared (apart y x) ≤ (x.m * y.m * w) * (x.m * y.m * w)

-- ---- the ways to both from any point
on_part : (m k : ℕ) (x y b : ℤ) → pos k *ℤ (x -ℤ (pos m *ℤ b)) ≡ (pos m *ℤ (y -ℤ (pos k *ℤ b))) +ℤ ((pos k *ℤ x) -ℤ (pos m *ℤ y))
on_part m k x y b = rw (as_diff x, as_diff y, as_diff b, diff-pos m, diff-pos k) (simp differences (diff-same _ _ _ _ (omega arith)))

off_part : (m k : ℕ) (x y b : ℤ) → pos k *ℤ (x -ℤ (pos m *ℤ b)) ≡ (pos m *ℤ (y -ℤ (pos k *ℤ b))) -ℤ ((pos m *ℤ y) -ℤ (pos k *ℤ x))
off_part m k x y b = rw (as_diff x, as_diff y, as_diff b, diff-pos m, diff-pos k) (simp differences (diff-same _ _ _ _ (omega arith)))

pub seen_on : (b : Pt) (y x : Scaled) → times (pos y.m) (displacement_to b x) ≡ plus (times (pos x.m) (displacement_to b y)) (apart y x)
seen_on b y x = rw (on_part x.m y.m x.x y.x b.x, on_part x.m y.m x.y y.y b.y) refl

seen_off : (b : Pt) (y x : Scaled) → times (pos y.m) (displacement_to b x) ≡ minus (times (pos x.m) (displacement_to b y)) (apart x y)
seen_off b y x = rw (off_part x.m y.m x.x y.x b.x, off_part x.m y.m x.y y.y b.y) refl

length_back : (y x : Scaled) → length_squared (apart x y) ≡ length_squared (apart y x)
length_back y x = rw (size_back (pos x.m *ℤ y.x) (pos y.m *ℤ x.x), size_back (pos x.m *ℤ y.y) (pos y.m *ℤ x.y)) refl

-- ---- a line
height_seen : (l : Line) (y x : Scaled) → pos y.m *ℤ height l x ≡ (pos x.m *ℤ height l y) +ℤ cross l.dir (apart y x)
height_seen l y x =
    sym (cross_times l.dir (displacement_to l.base x) (pos y.m)) ∙ ap (λ (u : Dir). cross l.dir u) (seen_on l.base y x)
    ∙ cross_sum l.dir (times (pos x.m) (displacement_to l.base y)) (apart y x)
    ∙ ap (λ z. z +ℤ cross l.dir (apart y x)) (cross_times l.dir (displacement_to l.base y) (pos x.m))

across_near : (l : Line) (w : ℕ) (y x : Scaled) → AreNear w y x
    → unsigned_abs (cross l.dir (apart y x)) * unsigned_abs (cross l.dir (apart y x)) ≤ (x.m * y.m * w) * (x.m * y.m * w) * length_squared l.dir
across_near l w y x near = omega (arith, cross_square l.dir (apart y x), mul-le-mul_left (length_squared l.dir) near.short)

less_part : (m k w : ℕ) (lo : ℤ) → (pos m *ℤ (pos k *ℤ lo)) +ℤ neg_ℤ (pos (m * k * w)) ≡ pos k *ℤ (pos m *ℤ (lo -ℤ pos w))
less_part m k w lo = parts (pos m) (pos k) (pos w) lo
  where
    parts : (m k w lo : ℤ) → (m *ℤ (k *ℤ lo)) +ℤ neg_ℤ ((m *ℤ k) *ℤ w) ≡ k *ℤ (m *ℤ (lo -ℤ w))
    parts m k w lo = rw (as_diff m, as_diff k, as_diff w, as_diff lo) (simp differences (diff-same _ _ _ _ (omega arith)))

more_part : (m k w : ℕ) (hi : ℤ) → (pos m *ℤ neg_ℤ (pos k *ℤ hi)) +ℤ neg_ℤ (pos (m * k * w)) ≡ pos k *ℤ neg_ℤ (pos m *ℤ (hi +ℤ pos w))
more_part m k w hi = parts (pos m) (pos k) (pos w) hi
  where
    parts : (m k w hi : ℤ) → (m *ℤ neg_ℤ (k *ℤ hi)) +ℤ neg_ℤ ((m *ℤ k) *ℤ w) ≡ k *ℤ neg_ℤ (m *ℤ (hi +ℤ w))
    parts m k w hi = rw (as_diff m, as_diff k, as_diff w, as_diff hi) (simp differences (diff-same _ _ _ _ (omega arith)))

turned_part : (m k : ℕ) (a b c : ℤ) → pos k *ℤ a ≡ (pos m *ℤ b) +ℤ c → pos k *ℤ neg_ℤ a ≡ (pos m *ℤ neg_ℤ b) +ℤ neg_ℤ c
turned_part m k a b c e = *ℤ-neg (pos k) a ∙ ap neg_ℤ e ∙ sum_back (pos m) b c
  where
    sum_back : (m b c : ℤ) → neg_ℤ ((m *ℤ b) +ℤ c) ≡ (m *ℤ neg_ℤ b) +ℤ neg_ℤ c
    sum_back m b c = rw (as_diff m, as_diff b, as_diff c) (simp differences (diff-same _ _ _ _ (omega arith)))

-- of a number and a bound for y, and what x adds to it
seen_at_least : (m k w n : ℕ) (hx hy c bound less : ℤ) → 0 < k → pos k *ℤ hx ≡ (pos m *ℤ hy) +ℤ c → (pos m *ℤ bound) +ℤ neg_ℤ (pos (m * k * w)) ≡ pos k *ℤ less
    → unsigned_abs c * unsigned_abs c ≤ (m * k * w) * (m * k * w) * n → AtLeast hy bound n → AtLeast hx less n
seen_at_least m k w n hx hy c bound less some e f near is =
    let sum = at_least-sum (pos m *ℤ hy) c (pos m *ℤ bound) (neg_ℤ (pos (m * k * w))) n (at_least-times m hy bound n is) (size_at_least c (m * k * w) n near) in
    at_least-cancel k hx less n some (subst (λ (z : ℤ). AtLeast (pos k *ℤ hx) z n) f (subst (λ (z : ℤ). AtLeast z ((pos m *ℤ bound) +ℤ neg_ℤ (pos (m * k * w))) n) (sym e) sum))

above_near : (l : Line) (lo : ℤ) (w : ℕ) (y x : Scaled) → AreNear w y x → IsAbove l lo y → IsAbove l (lo -ℤ pos w) x
above_near l lo w y x near is =
    seen_at_least x.m y.m w (length_squared l.dir) (height l x) (height l y) (cross l.dir (apart y x)) (pos y.m *ℤ lo) (pos x.m *ℤ (lo -ℤ pos w)) near.some
    (height_seen l y x) (less_part x.m y.m w lo) (across_near l w y x near) is

below_near : (l : Line) (hi : ℤ) (w : ℕ) (y x : Scaled) → AreNear w y x → IsBelow l hi y → IsBelow l (hi +ℤ pos w) x
below_near l hi w y x near is =
    seen_at_least x.m y.m w (length_squared l.dir) (neg_ℤ (height l x)) (neg_ℤ (height l y)) (neg_ℤ (cross l.dir (apart y x))) (neg_ℤ (pos y.m *ℤ hi)) (neg_ℤ (pos x.m *ℤ (hi +ℤ pos w))) near.some
    (turned_part x.m y.m (height l x) (height l y) (cross l.dir (apart y x)) (height_seen l y x)) (more_part x.m y.m w hi)
    (rw (size_neg (cross l.dir (apart y x))) (across_near l w y x near)) is

-- ---- a circle
pairs : (k : ℕ) → 0 < k → 0 < k * k
pairs k some = omega (arith, mul-lt 0 0 k k some some)

out_near : (c : Pt) (h w : ℕ) (y x : Scaled) → AreNear w y x → length_squared (displacement_to c y) ≤ y.m * y.m * (h * h)
    → length_squared (displacement_to c x) ≤ x.m * x.m * ((h + w) * (h + w))
out_near c h w y x near is =
    let u = times (pos x.m) (displacement_to c y) in
    let first : length_squared u + 0 ≤ (x.m * y.m * h) * (x.m * y.m * h) =
    rw (length_of_times (pos x.m) (displacement_to c y)) (omega (arith, mul-le-mul_left (x.m * x.m) is)) in
    let both = sum_of_lengths u (apart y x) (x.m * y.m * h) (x.m * y.m * w) 0 first near.short in
    let seen : y.m * y.m * length_squared (displacement_to c x) + 0 ≤ (x.m * y.m * h + x.m * y.m * w) * (x.m * y.m * h + x.m * y.m * w) =
    rw (length_of_times (pos y.m) (displacement_to c x)) at (subst (λ (v : Dir). length_squared v + 0 ≤ (x.m * y.m * h + x.m * y.m * w) * (x.m * y.m * h + x.m * y.m * w)) (sym (seen_on c y x)) both) in
    cancel_le (y.m * y.m) (length_squared (displacement_to c x)) (x.m * x.m * ((h + w) * (h + w))) (pairs y.m near.some) (omega (arith, seen))

in_near : (c : Pt) (g w : ℕ) (y x : Scaled) → AreNear w y x → y.m * y.m * ((g + w) * (g + w)) ≤ length_squared (displacement_to c y)
    → x.m * x.m * (g * g) ≤ length_squared (displacement_to c x)
in_near c g w y x near is =
    let u = times (pos x.m) (displacement_to c y) in
    let first : (x.m * y.m * g + x.m * y.m * w) * (x.m * y.m * g + x.m * y.m * w) ≤ length_squared u =
    rw (length_of_times (pos x.m) (displacement_to c y)) (omega (arith, mul-le-mul_left (x.m * x.m) is)) in
    let short : length_squared (apart x y) ≤ (x.m * y.m * w) * (x.m * y.m * w) = rw (length_back y x) near.short in
    let both = difference_of_lengths u (apart x y) (x.m * y.m * g) (x.m * y.m * w) first short in
    let seen : (x.m * y.m * g) * (x.m * y.m * g) ≤ y.m * y.m * length_squared (displacement_to c x) =
    rw (length_of_times (pos y.m) (displacement_to c x)) at (subst (λ (v : Dir). (x.m * y.m * g) * (x.m * y.m * g) ≤ length_squared v) (sym (seen_off c y x)) both) in
    cancel_le (y.m * y.m) (x.m * x.m * (g * g)) (length_squared (displacement_to c x)) (pairs y.m near.some) (omega (arith, seen))

under_ring : (c : Pt) (hi : ℤ) (w : ℕ) (y x : Scaled) → AreNear w y x → IsUnder (about c) hi y → IsUnder (about c) (hi +ℤ pos w) x
under_ring c (pos h) w y x near is =
    (root_at_most x.m (h + w) (length_squared (displacement_to c x))).1 (out_near c h w y x near ((root_at_most y.m h (length_squared (displacement_to c y))).0 is))
under_ring c (negsuc h) w y x near is = absurd (never_at_most y.m h (length_squared (displacement_to c y)) near.some is)

below_all : (c : Pt) (z : ℤ) (x : Scaled) → 0 < x.m → z <ℤ pos 0 → IsOver (about c) z x
below_all c (pos n) x some h = absurd (omega (arith, ints, h))
below_all c (negsuc n) x some h = negative_at_most x.m n (length_squared (displacement_to c x)) some

over_ring : (c : Pt) (lo : ℤ) (w : ℕ) (y x : Scaled) → AreNear w y x → IsOver (about c) lo y → IsOver (about c) (lo -ℤ pos w) x
over_ring c (negsuc h) w y x near is = below_all c (negsuc h -ℤ pos w) x near.other (omega (arith, ints))
over_ring c (pos h) w y x near is = elim (cases_lt h w) [
  | inl less ↦ below_all c (pos h -ℤ pos w) x near.other (omega (arith, ints, less))
  | inr fits ↦
      let whole : h ≡ (h - w) + w = omega (arith, fits) in
      let far : y.m * y.m * (((h - w) + w) * ((h - w) + w)) ≤ length_squared (displacement_to c y) =
      subst (λ n. y.m * y.m * (n * n) ≤ length_squared (displacement_to c y)) whole ((length_at_most y.m h (length_squared (displacement_to c y))).0 is) in
      let left : IsOver (about c) (pos (h - w)) x = (length_at_most x.m (h - w) (length_squared (displacement_to c x))).1 (in_near c (h - w) w y x near far) in
      let same : pos (h - w) ≡ pos h -ℤ pos w = omega (arith, ints, fits) in
      subst (λ (z : ℤ). IsOver (about c) z x) same left
]

-- ---- any surface
pub over_near : (surface : Surface) (lo : ℤ) (w : ℕ) (y x : Scaled) → AreNear w y x → IsOver surface lo y → IsOver surface (lo -ℤ pos w) x
over_near (surfaces.Line l) lo w y x near is = above_near l lo w y x near is
over_near (surfaces.Circ c) lo w y x near is = over_ring c.c lo w y x near is

pub under_near : (surface : Surface) (hi : ℤ) (w : ℕ) (y x : Scaled) → AreNear w y x → IsUnder surface hi y → IsUnder surface (hi +ℤ pos w) x
under_near (surfaces.Line l) hi w y x near is = below_near l hi w y x near is
under_near (surfaces.Circ c) hi w y x near is = under_ring c.c hi w y x near is

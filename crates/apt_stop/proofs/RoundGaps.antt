-- How far the end of a motion round a circle that touches lies along its axis, and from its stop, by the test of the gap: in numbers.
use Rattle.std.proofs.Common.{refl, ◌≡◌, ◌≢◌, ap, ◌⊎◌, inl, inr, ℕ, zero, suc, ◌+◌, ◌-◌, ◌*◌, ◌≤◌, ◌<◌, subst, arith, Bool, true, false, ℤ, pos, negsuc, neg_ℤ, ◌+ℤ◌, ◌-ℤ◌, ◌*ℤ◌, ◌<ℤ◌, ◌≤ℤ◌, unsigned_abs}
use Rattle.std.specs.Prelude.{nat_le, int_le, ◌||◌, if◌then◌else◌}
use Rattle.std.proofs.Math.Nat.{mul-le-mul_left}
use Rattle.std.proofs.lemmas.Int.{ints}
use Rattle.std.proofs.lemmas.Bool.{and_parts, leb-true}
use Rattle.apt_num.specs.declared.Sign.{Sign}
use Rattle.apt_num.specs.declared.Sign.TheVariants as signs
use Rattle.apt_num.specs.Sign.{AtLeast, OnLine, square, sign_of}
use Rattle.apt_plane.specs.declared.figures.Pt.{Pt}
use Rattle.apt_plane.specs.declared.figures.Dir.{Dir}
use Rattle.apt_plane.specs.Vectors.{displacement, cross, dot, length_squared}
use Rattle.apt_plane.proofs.Displacements.{lagrange}
use Rattle.apt_plane.proofs.Heights.{one-times}
use Rattle.apt_plane.proofs.Turned.{size_sense}
use Rattle.apt_canon.specs.Scale.{IsNearCircle}
use Rattle.apt_contact.specs.Meetings.{circle_about}
use Rattle.apt_offset.specs.Turns.{opposite}
use Rattle.apt_offset.specs.Sides.{side_or_left, times as place_times}
use Rattle.apt_offset.specs.Targets.{signed, greater}
use Rattle.apt_stop.specs.Gaps.{gap, size, is_about}
use Rattle.apt_stop.proofs.Touching.{add_bounds}
use Rattle.apt_stop.proofs.Rings.{near_least, near_most}
use Rattle.apt_stop.proofs.OnRounds.{half_sense}
use Rattle.apt_stop.proofs.OnRays.{LiesOnAxis}

-- ---- how far the end lies along the axis: n is the square of the axis' length, m that of the way to the end, x how far that leads across and y along
along_low : (n m x y r : ℕ) → n * m ≡ y * y + x * x → 2 * (x * x) ≤ n → (r - 1) * (r - 1) ≤ m → 2 ≤ r → (r - 2) * (r - 2) * n ≤ y * y
along_low n m x y r e off low some =
    let same : r - 2 + 1 ≡ r - 1 = omega (arith, some) in
    let least : (r - 2 + 1) * (r - 2 + 1) ≤ m = rw same low in
    omega (arith, e, off, mul-le-mul_left n least)

along_high : (n m x y r : ℕ) → n * m ≡ y * y + x * x → m ≤ (r + 1) * (r + 1) → y * y ≤ (r + 1) * (r + 1) * n
along_high n m x y r e high = omega (arith, e, mul-le-mul_left n high)

two_more : (r : ℕ) → negsuc (r + 1) ≡ neg_ℤ (pos r) -ℤ pos 2
two_more r = omega (arith, ints)

-- k is r lengths, up to two
up_by : (k : ℤ) (r n : ℕ) → 2 ≤ r → pos 0 <ℤ k → (r - 2) * (r - 2) * n ≤ square k → square k ≤ (r + 1) * (r + 1) * n → OnLine k (pos r) n (pos 2)
up_by (pos zero) r n some up low high = absurd (omega (arith, ints, up))
up_by (pos (suc k)) r n some up low high = record {
  right = subst (λ (z : ℤ). AtLeast (pos (suc k)) z n) (two_less r some) low;
  left = subst (λ (z : ℤ). AtLeast (negsuc k) z n) (two_more r) (omega (arith, high));
}
  where
    two_less : (r : ℕ) → 2 ≤ r → pos (r - 2) ≡ pos r -ℤ pos 2
    two_less r some = omega (arith, ints)
up_by (negsuc k) r n some up low high = absurd (omega (arith, ints, up))

-- the way to an end on a ray leads along it by a radius, up to two units
ray_by : (along : Dir) (half : Sign) (e : Dir) (r : ℕ) → 2 ≤ r → half ≢ signs.Zero → LiesOnAxis along half e → (r - 1) * (r - 1) ≤ length_squared e → length_squared e ≤ (r + 1) * (r + 1)
    → OnLine (signed half (pos 1) *ℤ dot along e) (pos r) (length_squared along) (pos 2)
ray_by along half e r some there ray low high =
    let n = length_squared along in
    let x = unsigned_abs (cross along e) in
    let y = unsigned_abs (dot along e) in
    let same : square (signed half (pos 1) *ℤ dot along e) ≡ square (dot along e) = ap (λ z. z * z) (size_sense (signed half (pos 1)) (dot along e) (half_sense half there)) in
    up_by (signed half (pos 1) *ℤ dot along e) r n some ray.onwards
    (rw same (along_low n (length_squared e) x y r (lagrange along e) ray.across low some)) (rw same (along_high n (length_squared e) x y r (lagrange along e) high))

pub ray_length : (o : Pt) (r : ℤ) (along : Dir) (half : Sign) (q : Pt) → pos 100 ≤ℤ r → half ≢ signs.Zero → LiesOnAxis along half (displacement o q) → IsNearCircle (circle_about o r) (pos 1) q
    → OnLine (signed half (pos 1) *ℤ dot along (displacement o q)) r (length_squared along) (pos 2)
ray_length o (pos r) along half q least there ray near =
    ray_by along half (displacement o q) r (omega (arith, ints, least)) there ray (near_least o r q (omega (arith, ints, least)) near) (near_most o r q near)
ray_length o (negsuc r) along half q least there ray near = absurd (omega (arith, ints, least))

-- ---- sums
together : (a b c h i k : ℤ) (n : ℕ) → a +ℤ b ≡ c → h +ℤ i ≡ k → OnLine a h n (pos 2) → OnLine b i n (pos 2) → OnLine c k n (pos 4)
together a b c h i k n e f p q = record {
  right = add_bounds a b c (h -ℤ pos 2) (i -ℤ pos 2) (k -ℤ pos 4) n e (omega (arith, ints, f)) p.right q.right;
  left = add_bounds (neg_ℤ a) (neg_ℤ b) (neg_ℤ c) (neg_ℤ h -ℤ pos 2) (neg_ℤ i -ℤ pos 2) (neg_ℤ k -ℤ pos 4) n (omega (arith, ints, e)) (omega (arith, ints, f)) p.left q.left;
}

negated : (a b h i : ℤ) (n : ℕ) → b ≡ neg_ℤ a → i ≡ neg_ℤ h → OnLine a h n (pos 2) → OnLine b i n (pos 2)
negated a b h i n e f p = record {
  right = rw (e, f) p.left;
  left = rw (e, f) (subst (λ (z : ℤ). AtLeast z (neg_ℤ (neg_ℤ h) -ℤ pos 2) n) (twice a) (subst (λ (z : ℤ). AtLeast a (z -ℤ pos 2) n) (twice h) p.right));
}
  where
    twice : (z : ℤ) → z ≡ neg_ℤ (neg_ℤ z)
    twice z = omega (arith, ints)

-- ---- a line: k is how far the centre lies to its left, x how far the end lies further to its left, a the radius of the surface
left_of_line : (k x a r m : ℤ) (v : Sign) (n : ℕ) → r ≡ a -ℤ signed v m → OnLine k a n (pos 2) → OnLine (negsuc 0 *ℤ x) r n (pos 2) → OnLine (k +ℤ x) (signed v m) n (pos 4)
left_of_line k x a r m v n e centre end =
    together k x (k +ℤ x) a (neg_ℤ r) (signed v m) n refl (omega (arith, ints, e)) centre (negated (negsuc 0 *ℤ x) x r (neg_ℤ r) n (omega (arith, ints)) refl end)

signed_other : (v : Sign) (m : ℤ) → signed (opposite v) m ≡ neg_ℤ (signed v m)
signed_other signs.Plus m = refl
signed_other signs.Zero m = refl
signed_other signs.Minus m = omega (arith, ints)

right_of_line : (k x a r m : ℤ) (v : Sign) (n : ℕ) → r ≡ a -ℤ signed v m → OnLine (neg_ℤ k) a n (pos 2) → OnLine (pos 1 *ℤ x) r n (pos 2) → OnLine (k +ℤ x) (signed (opposite v) m) n (pos 4)
right_of_line k x a r m v n e centre end =
    let ahead : OnLine x r n (pos 2) = rw (one-times x) at end in
    together k x (k +ℤ x) (neg_ℤ a) r (signed (opposite v) m) n refl (omega (arith, ints, e, signed_other v m)) (negated (neg_ℤ k) k a (neg_ℤ a) n (omega (arith, ints)) refl centre) ahead

pub touches_line_by : (k x a r m : ℤ) (v : Sign) (n : ℕ) → r ≡ a -ℤ signed v m → OnLine (size k) a n (pos 2) → OnLine (signed (opposite (side_or_left (sign_of k))) (pos 1) *ℤ x) r n (pos 2)
    → OnLine (k +ℤ x) (signed (place_times (side_or_left (sign_of k)) v) m) n (pos 4)
touches_line_by (pos zero) x a r m v n e centre end = left_of_line (pos zero) x a r m v n e centre end
touches_line_by (pos (suc k)) x a r m v n e centre end = left_of_line (pos (suc k)) x a r m v n e centre end
touches_line_by (negsuc k) x a r m v n e centre end = right_of_line (negsuc k) x a r m v n e centre end

-- ---- a circle: g is the square of how far the centres are apart, y how far the end lies along from the other centre
pub from_zero : (a : ℕ) → int_le (pos 0) (pos a) ≡ true
from_zero a = grind (arith, ints)

at_least_length : (n : ℕ) (z : ℤ) → square (greater (pos 0) z) ≤ n → AtLeast (pos n) z n
at_least_length n (pos b) h =
    let less : b * b ≤ n = rw (from_zero b) at h in
    omega (arith, mul-le-mul_left n less)
at_least_length n (negsuc b) h = tt

at_most_length : (n b : ℕ) → 0 < n → n ≤ (b + 2) * (b + 2) → AtLeast (neg_ℤ (pos n)) (neg_ℤ (pos b) -ℤ pos 2) n
at_most_length zero b some h = absurd (omega (arith, some))
at_most_length (suc n) b some h = subst (λ (z : ℤ). AtLeast (negsuc n) z (suc n)) (two_more b) (omega (arith, mul-le-mul_left (suc n) h))

pub about_length : (a : ℤ) (n : ℕ) → pos 0 ≤ℤ a → 0 < n → is_about a n ≡ true → OnLine (pos n) a n (pos 2)
about_length (pos b) n least some e =
    let both = and_parts (nat_le (square (greater (pos 0) (pos b -ℤ gap))) n) (nat_le n (square (pos b +ℤ gap))) e in record {
      right = at_least_length n (pos b -ℤ pos 2) (leb-true (square (greater (pos 0) (pos b -ℤ gap))) n both.0);
      left = at_most_length n b some (leb-true n (square (pos b +ℤ gap)) both.1);
    }
about_length (negsuc b) n least some e = absurd (omega (arith, ints, least))

-- a number or its opposite is so many lengths, up to four
abbrev pub IsAboutSize : ℤ → ℤ → ℕ → Type 0
IsAboutSize y h n = OnLine y h n (pos 4) ⊎ OnLine (neg_ℤ y) h n (pos 4)

ahead_of : (a b r f y g : ℤ) (n : ℕ) → f ≡ g +ℤ y → OnLine (pos 1 *ℤ f) r n (pos 2) → OnLine g a n (pos 2) → r -ℤ a ≡ b → OnLine y b n (pos 4)
ahead_of a b r f y g n e end centre h =
    let ahead : OnLine f r n (pos 2) = rw (one-times f) at end in
    together f (neg_ℤ g) y r (neg_ℤ a) b n (omega (arith, ints, e)) (omega (arith, ints, h)) ahead (negated g (neg_ℤ g) a (neg_ℤ a) n refl refl centre)

short_of : (a b r f y g : ℤ) (n : ℕ) → f ≡ g +ℤ y → OnLine (pos 1 *ℤ f) r n (pos 2) → OnLine g a n (pos 2) → a -ℤ r ≡ b → OnLine (neg_ℤ y) b n (pos 4)
short_of a b r f y g n e end centre h =
    let ahead : OnLine f r n (pos 2) = rw (one-times f) at end in
    together g (neg_ℤ f) (neg_ℤ y) a (neg_ℤ r) b n (omega (arith, ints, e)) (omega (arith, ints, h)) centre (negated f (neg_ℤ f) r (neg_ℤ r) n refl refl ahead)

behind : (a b r f y g : ℤ) (n : ℕ) → f ≡ g +ℤ y → OnLine (negsuc 0 *ℤ f) r n (pos 2) → OnLine g a n (pos 2) → a +ℤ r ≡ b → OnLine (neg_ℤ y) b n (pos 4)
behind a b r f y g n e end centre h = together g (negsuc 0 *ℤ f) (neg_ℤ y) a r b n (omega (arith, ints, e)) h centre end

not_less : (a b : ℤ) → int_le b a ≡ true → size (a -ℤ b) ≡ a -ℤ b
not_less a b e =
    let le : b ≤ℤ a = grind (arith, ints) in
    omega (arith, ints, le)

less : (a b : ℤ) → int_le b a ≡ false → size (a -ℤ b) ≡ b -ℤ a
less a b e =
    let lt : a <ℤ b = grind (arith, ints) in
    omega (arith, ints, lt)

-- outside of each other, the other in the one, and the one in the other
pub touches_circle_by : (outside greater_one : Bool) (a b r m f y : ℤ) (v : Sign) (n : ℕ) → int_le b a ≡ greater_one → r ≡ a -ℤ signed v m → f ≡ pos n +ℤ y
    → OnLine (signed (if outside || greater_one then signs.Plus else signs.Minus) (pos 1) *ℤ f) r n (pos 2)
    → OnLine (pos n) (if outside then a +ℤ b else size (a -ℤ b)) n (pos 2)
    → IsAboutSize y (b -ℤ signed (if outside then opposite v else v) m) n
touches_circle_by true greater_one a b r m f y v n le e whole end centre =
    inr (short_of (a +ℤ b) (b -ℤ signed (opposite v) m) r f y (pos n) n whole end centre (omega (arith, ints, e, signed_other v m)))
touches_circle_by false true a b r m f y v n le e whole end centre =
    inl (ahead_of (size (a -ℤ b)) (b -ℤ signed v m) r f y (pos n) n whole end centre (omega (arith, ints, e, not_less a b le)))
touches_circle_by false false a b r m f y v n le e whole end centre =
    inr (behind (size (a -ℤ b)) (b -ℤ signed v m) r f y (pos n) n whole end centre (omega (arith, ints, e, less a b le)))

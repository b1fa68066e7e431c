-- Where ways lead.
use Rattle.std.proofs.Common.{refl, ◌≡◌, ◌≢◌, ◌∙◌, ℕ, zero, suc, ◌*◌, ◌≤◌, ap, arith, true, ℤ, ◌+ℤ◌, ◌-ℤ◌, unsigned_abs}
use Rattle.std.proofs.lemmas.Int.{ints}
use Rattle.std.proofs.lemmas.Bool.Decides.{nat_tests}
use Rattle.apt_plane.specs.declared.figures.Pt.{Pt}
use Rattle.apt_plane.specs.declared.figures.Dir.{Dir}
use Rattle.apt_plane.specs.Vectors.{displacement, cross, length_squared}
use Rattle.apt_plane.specs.Ranges.{IsPoint, IsDir}
use Rattle.apt_plane.proofs.Displacements.{cross_sum}
use Rattle.apt_canon.specs.Scale.{is_in_range, from}

pub there_and_back : (p q : ℤ) → (p +ℤ q) -ℤ p ≡ q
there_and_back p q = omega (arith, ints)

pub from_other : (p q r : ℤ) → (p +ℤ q) -ℤ r ≡ (p -ℤ r) +ℤ q
from_other p q r = omega (arith, ints)

pub displacement_from : (p : Pt) (v : Dir) → displacement p (from p v) ≡ v
displacement_from p v = rw (there_and_back p.x v.dx, there_and_back p.y v.dy) refl

pub height_at_first : (d : Dir) (p : Pt) (v : Dir) → cross d (displacement p (from p v)) ≡ cross d v
height_at_first d p v = ap (cross d) (displacement_from p v)

pub height_at_second : (d : Dir) (p q : Pt) (v : Dir) → cross d (displacement q (from p v)) ≡ cross d (displacement q p) +ℤ cross d v
height_at_second d p q v = rw (from_other p.x v.dx q.x, from_other p.y v.dy q.y) (cross_sum d (displacement q p) v)

-- a point that passes the test of the coordinate limit
pub point_inside : (p : Pt) → is_in_range p ≡ true → IsPoint p
point_inside p e = record { x = grind (arith, nat_tests); y = grind (arith, nat_tests) }

-- ---- the way between two points: it has no length only where they are one
pub no_square : (x : ℕ) → x * x ≤ 0 → x ≡ 0
no_square zero h = refl
no_square (suc x) h = absurd (omega arith)

same_number : (p q : ℤ) → unsigned_abs (q -ℤ p) ≡ 0 → p ≡ q
same_number p q e = omega (arith, ints, e)

same_point : (p q : Pt) → p.x ≡ q.x → p.y ≡ q.y → p ≡ q
same_point p q e f = ap (λ (z : ℤ). record { x = z; y = p.y }) e ∙ ap (λ (z : ℤ). record { x = q.x; y = z }) f

pub one_point : (p q : Pt) → length_squared (displacement p q) ≤ 0 → p ≡ q
one_point p q h =
    let x = no_square (unsigned_abs (q.x -ℤ p.x)) (omega (arith, h)) in
    let y = no_square (unsigned_abs (q.y -ℤ p.y)) (omega (arith, h)) in
    same_point p q (same_number p.x q.x x) (same_number p.y q.y y)

pub way_is_dir : (p q : Pt) → IsPoint p → IsPoint q → 1 ≤ length_squared (displacement p q) → IsDir (displacement p q)
way_is_dir p q is_p is_q apart = record { dx = omega (arith, ints, is_p.x, is_q.x); dy = omega (arith, ints, is_p.y, is_q.y); length = apart }

some_length : (n : ℕ) → (n ≤ 0 → ⊥) → 1 ≤ n
some_length zero d = absurd (d (omega arith))
some_length (suc n) d = omega arith

pub way-IsDir : (p q : Pt) → IsPoint p → IsPoint q → p ≢ q → IsDir (displacement p q)
way-IsDir p q is_p is_q apart = way_is_dir p q is_p is_q (some_length (length_squared (displacement p q)) (λ h. apart (one_point p q h)))

-- Lines through two points are in range.
use Rattle.std.proofs.Common.{◌≢◌, ◌+◌, ◌≤◌, ◌-ℤ◌, unsigned_abs, arith}
use Rattle.apt_num.proofs.Squares.{size_minus}
use Rattle.apt_plane.specs.declared.figures.Pt.{Pt}
use Rattle.apt_plane.specs.Vectors.{displacement, length_squared}
use Rattle.apt_plane.specs.Ranges.{IsPoint, IsDir}

-- the way between two points that differ is a direction
pub displacement_in_range : (p q : Pt) → IsPoint p → IsPoint q → length_squared (displacement p q) ≢ 0 → IsDir (displacement p q)
displacement_in_range p q is_p is_q differ =
    let x : unsigned_abs (q.x -ℤ p.x) ≤ unsigned_abs q.x + unsigned_abs p.x = size_minus q.x p.x in
    let y : unsigned_abs (q.y -ℤ p.y) ≤ unsigned_abs q.y + unsigned_abs p.y = size_minus q.y p.y in
    record {
      dx = omega (arith, x, is_p.x, is_q.x);
      dy = omega (arith, y, is_p.y, is_q.y);
      length = omega (arith, differ);
    }

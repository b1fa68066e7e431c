-- Ways between points, their products, and points whose coordinates are fractions.
use Rattle.std.specs.Prelude.{ℕ, ◌+◌, ◌*◌, ℤ, pos, neg_ℤ, ◌+ℤ◌, ◌-ℤ◌, ◌*ℤ◌, unsigned_abs}
use Rattle.apt_plane.specs.declared.figures.Pt.{Pt}
use Rattle.apt_plane.specs.declared.figures.Dir.{Dir}
use Rattle.apt_plane.specs.declared.figures.Line.{Line}

-- the way from one point to another
abbrev pub displacement : Pt → Pt → Dir
displacement p q = record { dx = q.x -ℤ p.x; dy = q.y -ℤ p.y }

abbrev pub cross : Dir → Dir → ℤ
cross u v = (u.dx *ℤ v.dy) -ℤ (u.dy *ℤ v.dx)

abbrev pub dot : Dir → Dir → ℤ
dot u v = (u.dx *ℤ v.dx) +ℤ (u.dy *ℤ v.dy)

-- the square of the length
abbrev pub length_squared : Dir → ℕ
length_squared u = unsigned_abs u.dx * unsigned_abs u.dx + unsigned_abs u.dy * unsigned_abs u.dy

-- turned by a quarter to the left
abbrev pub perp : Dir → Dir
perp u = record { dx = neg_ℤ u.dy; dy = u.dx }

-- the point (x, y) / m
pub record Scaled : Type 0 where
  pub x : ℤ
  pub y : ℤ
  pub m : ℕ

abbrev pub scaled : Pt → Scaled
scaled p = record { x = p.x; y = p.y; m = 1 }

-- the point (k P + j Q) / (j + k) of the segment PQ
abbrev pub between : Pt → Pt → ℕ → ℕ → Scaled
between p q j k = record { x = (pos k *ℤ p.x) +ℤ (pos j *ℤ q.x); y = (pos k *ℤ p.y) +ℤ (pos j *ℤ q.y); m = j + k }

-- the way from a point to a fraction, times m
abbrev pub displacement_to : Pt → Scaled → Dir
displacement_to p s = record { dx = s.x -ℤ (pos s.m *ℤ p.x); dy = s.y -ℤ (pos s.m *ℤ p.y) }

-- the signed distance to the left of a line, times m and the length of its direction
abbrev pub height : Line → Scaled → ℤ
height l s = cross l.dir (displacement_to l.base s)

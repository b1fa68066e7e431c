-- How near a point is to a target, and on which side of it.
use Rattle.std.specs.Prelude.{nat_le, ℤ, pos, neg_ℤ, ◌+ℤ◌, ◌-ℤ◌, ◌*ℤ◌, ◌&&◌, Bool}
use Rattle.apt_num.specs.declared.Sign.{Sign}
use Rattle.apt_num.specs.Sign.{square, sign_of, root_sign_of, is_at_least}
use Rattle.apt_plane.specs.declared.figures.Pt.{Pt}
use Rattle.apt_plane.specs.declared.figures.Dir.{Dir}
use Rattle.apt_plane.specs.Vectors.{displacement, cross, length_squared}
use Rattle.apt_offset.specs.declared.Target.{Target}
use Rattle.apt_offset.specs.declared.Target.TheVariants as targets

-- whether a point is at most g units from a target; a circle has a radius of at least g
abbrev pub is_near : Target → ℤ → Pt → Bool
is_near (targets.Line base dir off) g p =
    is_at_least (cross dir (displacement base p)) (off -ℤ g) (length_squared dir) && is_at_least (neg_ℤ (cross dir (displacement base p))) (neg_ℤ off -ℤ g) (length_squared dir)
is_near (targets.Circ c r) g p = nat_le (square (r -ℤ g)) (length_squared (displacement c p)) && nat_le (length_squared (displacement c p)) (square (r +ℤ g))

-- the side of a target: left of a line or inside a circle is Plus
abbrev pub side_of : Target → Pt → Sign
side_of (targets.Line base dir off) p = root_sign_of (cross dir (displacement base p)) off (length_squared dir)
side_of (targets.Circ c r) p = sign_of (pos (square r) -ℤ pos (length_squared (displacement c p)))

-- the direction in which a motion goes along a line
abbrev pub heading : ℤ → Dir → Dir
heading sense d = record { dx = sense *ℤ d.dx; dy = sense *ℤ d.dy }

-- a start may be so far off its track, and a stop is near within so much
abbrev pub off_track : ℤ
off_track = pos 3

abbrev pub near_stop : ℤ
near_stop = pos 8

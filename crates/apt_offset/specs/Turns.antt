-- The turn at the start of a contour motion.
use Rattle.std.specs.Prelude.{Bool, true, false}
use Rattle.apt_num.specs.declared.Sign.{Sign}
use Rattle.apt_num.specs.declared.Sign.TheVariants as signs
use Rattle.apt_num.specs.Sign.{sign_of}
use Rattle.apt_words.specs.declared.Go.{Go}
use Rattle.apt_words.specs.declared.Go.TheVariants as turns
use Rattle.apt_plane.specs.declared.figures.Pt.{Pt}
use Rattle.apt_plane.specs.declared.figures.Dir.{Dir}
use Rattle.apt_plane.specs.declared.figures.Surface.{Surface}
use Rattle.apt_plane.specs.declared.figures.Surface.TheVariants as surfaces
use Rattle.apt_plane.specs.Vectors.{displacement, cross, dot, perp}

-- the direction of a drive surface at a point: that of a line, or the tangent of a circle, anticlockwise
abbrev pub tangent : Surface → Pt → Dir
tangent (surfaces.Line l) p = l.dir
tangent (surfaces.Circ c) p = perp (displacement c.c p)

abbrev pub opposite : Sign → Sign
opposite signs.Minus = signs.Plus
opposite signs.Zero = signs.Zero
opposite signs.Plus = signs.Minus

abbrev pub is_zero : Sign → Bool
is_zero signs.Minus = false
is_zero signs.Zero = true
is_zero signs.Plus = false

-- how the drive surface runs against forward: a turn to the left or right goes by the cross product, forward or back by the dot product
abbrev pub turn : Dir → Dir → Go → Sign
turn forward t turns.Left = sign_of (cross forward t)
turn forward t turns.Right = opposite (sign_of (cross forward t))
turn forward t turns.Forward = sign_of (dot forward t)
turn forward t turns.Back = opposite (sign_of (dot forward t))

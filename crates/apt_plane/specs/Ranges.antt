-- The ranges of figures, in grid units.
use Rattle.std.specs.Prelude.{◌≡◌, ◌⊎◌, ◌+◌, ◌*◌, ◌^◌, ◌≤◌, ℤ, pos, negsuc, ◌≤ℤ◌, unsigned_abs}
use Rattle.apt_plane.specs.declared.figures.Pt.{Pt}
use Rattle.apt_plane.specs.declared.figures.Dir.{Dir}
use Rattle.apt_plane.specs.declared.figures.Line.{Line}
use Rattle.apt_plane.specs.declared.figures.Moved.{Moved}
use Rattle.apt_plane.specs.declared.figures.Circ.{Circ}
use Rattle.apt_plane.specs.declared.figures.Surface.{Surface}
use Rattle.apt_plane.specs.declared.figures.Surface.TheVariants as surfaces
use Rattle.apt_plane.specs.declared.figures.Band.{Band}
use Rattle.apt_plane.specs.Vectors.{length_squared}

-- a point within the coordinate limit
pub record IsPoint (p : Pt) : Type 0 where
  pub x : unsigned_abs p.x ≤ 50000000
  pub y : unsigned_abs p.y ≤ 50000000

-- a direction is not (0, 0), and its parts have a limit
pub record IsDir (d : Dir) : Type 0 where
  pub dx : unsigned_abs d.dx ≤ 10 ^ 8
  pub dy : unsigned_abs d.dy ≤ 10 ^ 8
  pub length : 1 ≤ length_squared d

-- a way between two points
pub record IsShort (d : Dir) : Type 0 where
  pub dx : unsigned_abs d.dx ≤ 10 ^ 8
  pub dy : unsigned_abs d.dy ≤ 10 ^ 8

-- a way whose products fit
pub record IsVector (d : Dir) : Type 0 where
  pub dx : unsigned_abs d.dx ≤ 2 ^ 62
  pub dy : unsigned_abs d.dy ≤ 2 ^ 62

pub record IsLine (l : Line) : Type 0 where
  pub base : IsPoint l.base
  pub dir : IsDir l.dir

pub record IsMoved (m : Moved) : Type 0 where
  pub line : IsLine m.line
  pub off : unsigned_abs m.off ≤ 10 ^ 8

pub record IsBand (b : Band) : Type 0 where
  pub lo : unsigned_abs b.lo ≤ 4 * 10 ^ 8
  pub hi : unsigned_abs b.hi ≤ 4 * 10 ^ 8

-- 1 along a line's direction or anticlockwise round a circle, -1 the other way
abbrev pub IsSense : ℤ → Type 0
IsSense sense = (sense ≡ pos 1) ⊎ (sense ≡ negsuc 0)

-- a circle has a least radius, and stays within its limit
pub record IsCircle (c : Circ) : Type 0 where
  pub centre : IsPoint c.c
  pub least : pos 100 ≤ℤ c.r
  pub x : unsigned_abs c.c.x + unsigned_abs c.r ≤ 49000000
  pub y : unsigned_abs c.c.y + unsigned_abs c.r ≤ 49000000

-- a circle whose radius is a length, surface or not
pub record IsRound (c : Circ) : Type 0 where
  pub centre : IsPoint c.c
  pub least : pos 0 ≤ℤ c.r
  pub most : c.r ≤ℤ pos (10 ^ 8)

abbrev pub IsSurface : Surface → Type 0
IsSurface (surfaces.Line l) = IsLine l
IsSurface (surfaces.Circ c) = IsCircle c

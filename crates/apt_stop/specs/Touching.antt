-- Surfaces that touch, by distances: with at most 2 grid units between them, or at most 2 of overlap.
use Rattle.std.specs.Prelude.{◌≡◌, ◌⊎◌, pos, neg_ℤ, ◌+ℤ◌, ◌-ℤ◌, unsigned_abs}
use Rattle.apt_words.specs.declared.Stop.TheVariants as stops
use Rattle.apt_plane.specs.declared.figures.Line.{Line}
use Rattle.apt_plane.specs.declared.figures.Circ.{Circ}
use Rattle.apt_plane.specs.declared.figures.Surface.{Surface}
use Rattle.apt_plane.specs.declared.figures.Surface.TheVariants as surfaces
use Rattle.apt_canon.specs.Scale.{IsNearLine, IsNearCircle}
use Rattle.apt_contact.specs.Meetings.{circle_about}
use Rattle.apt_stop.specs.declared.course.Course.{Course}
use Rattle.apt_stop.specs.Tangencies.{HaveNoAxis}

-- a line and a circle touch where the centre is the radius away from the line, up to 2 units, on its left or on its right
abbrev pub LineTouches : Line → Circ → Type 0
LineTouches l c = IsNearLine l c.r (pos 2) c.c ⊎ IsNearLine l (neg_ℤ c.r) (pos 2) c.c

-- two circles where their centres are the sum of the radii apart, or the difference, up to 2 units
abbrev pub CirclesTouch : Circ → Circ → Type 0
CirclesTouch c d = IsNearCircle (circle_about c.c (c.r +ℤ d.r)) (pos 2) d.c ⊎ IsNearCircle (circle_about c.c (pos (unsigned_abs (c.r -ℤ d.r)))) (pos 2) d.c

-- two lines never do
abbrev pub AreTouching : Surface → Surface → Type 0
AreTouching (surfaces.Line l) (surfaces.Line k) = ⊥
AreTouching (surfaces.Line l) (surfaces.Circ c) = LineTouches l c
AreTouching (surfaces.Circ c) (surfaces.Line l) = LineTouches l c
AreTouching (surfaces.Circ c) (surfaces.Circ d) = CirclesTouch c d

-- a course is to touch its check surface, which has an axis with its drive surface, but the two do not touch
pub record IsNotTangent (c : Course) : Type 0 where
  pub how : c.how ≡ stops.Tanto
  pub axis : ¬ HaveNoAxis c.drive c.check
  pub apart : ¬ AreTouching c.drive c.check

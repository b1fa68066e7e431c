-- The arcs among the acts of a tape, and the contours to which they belong.
use Rattle.std.specs.Prelude.{◌≡◌, ◌⊎◌, ℤ, List, [], ◌∷◌, Option, Some, None}
use Rattle.apt_plane.specs.declared.figures.Pt.{Pt}
use Rattle.apt_plane.specs.declared.figures.Circ.{Circ}
use Rattle.apt_plane.specs.declared.figures.Surface.TheVariants as surfaces
use Rattle.apt_plane.specs.Vectors.{Scaled}
use Rattle.apt_plane.specs.Sweeps.{Sweep, IsOnSweep}
use Rattle.apt_records.specs.declared.record.Position.{Position}
use Rattle.apt_certify.specs.Keeping.{sweep_of, StaysBy}
use Rattle.apt_meaning.specs.Motions.{leg_on}
use Rattle.apt_meaning.specs.Paths.{Contour}
use Rattle.apt_circular.specs.declared.ArcAct.{ArcAct}
use Rattle.apt_circular.specs.declared.ArcAct.TheVariants.{Plain, Arc}
use Rattle.apt_circular.specs.Writable.{position, stands_behind}

-- ---- the arcs of acts, each from where the act before it left the tool

-- an arc from where the tool stands to a position about a centre; there is none from nowhere
abbrev pub arc_from : Option Position → ℤ → Position → Pt → Option Sweep
arc_from None turn to centre = None
arc_from (Some at) turn to centre = Some (record { start = at.xy; end = to.xy; centre = centre; sense = turn })

-- the arcs of acts behind a position, in their order
abbrev pub sweeps_behind : Option Position → List ArcAct → List (Option Sweep)
sweeps_behind at [] = []
sweeps_behind at (Plain act ∷ more) = sweeps_behind (stands_behind at act) more
sweeps_behind at (Arc turn x y z cx cy feed ∷ more) = arc_from at turn (position x y z) (record { x = cx; y = cy }) ∷ sweeps_behind (Some (position x y z)) more

-- the arcs of a tape, at whose beginning the tool has no position
abbrev pub sweeps_of : List ArcAct → List (Option Sweep)
sweeps_of done = sweeps_behind None done

-- ---- the contours to which they belong

-- an arc is that of a leg: from its start to its end, about the centre of its drive surface, in its sense; and every point of the arc stays by the leg
pub record IsArcOf (w : Sweep) (c : Contour) : Type 0 where
  pub surface : Circ
  pub drive : c.motion.drive ≡ surfaces.Circ surface
  pub is : w ≡ sweep_of surface.c c.motion.sense c.motion.start.xy c.vertices
  pub stays : (x : Scaled) → IsOnSweep w x → StaysBy (leg_on c.motion c.side) x

-- an arc from nowhere is that of none
abbrev pub IsTheArcOf : Option Sweep → Contour → Type 0
IsTheArcOf None c = ⊥
IsTheArcOf (Some w) c = IsArcOf w c

-- each arc is that of a leg, and they come in the order of the legs
abbrev pub AreArcsOf : List (Option Sweep) → List Contour → Type 0
AreArcsOf [] cs = Unit {0}
AreArcsOf (w ∷ ws) [] = ⊥
AreArcsOf (w ∷ ws) (c ∷ cs) = (IsTheArcOf w c × AreArcsOf ws cs) ⊎ AreArcsOf (w ∷ ws) cs

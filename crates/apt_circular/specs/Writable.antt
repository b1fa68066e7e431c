-- Acts with arcs that can be written, by where the tool stands.
use Rattle.std.specs.Prelude.{◌≡◌, ℤ, ◌-ℤ◌, List, [], ◌∷◌, Option, Some, None}
use Rattle.apt_plane.specs.declared.figures.Pt.{Pt}
use Rattle.apt_plane.specs.Ranges.{IsSense}
use Rattle.apt_records.specs.declared.record.Position.{Position}
use Rattle.apt_control.specs.declared.Act.{Act}
use Rattle.apt_control.specs.declared.Act.TheVariants as acts
use Rattle.apt_control.specs.declared.held.Held.{Held}
use Rattle.apt_post.specs.Blocks.{IsCoordinate}
use Rattle.apt_circular.specs.declared.ArcAct.{ArcAct}
use Rattle.apt_circular.specs.declared.ArcAct.TheVariants as arcs
use Rattle.apt_circular.specs.declared.arc.Arc.{Arc}
use Rattle.apt_circular.specs.ArcBlocks.{act_of}
use Rattle.apt_circular.specs.Fits.{Fits}

-- a position by its coordinates
abbrev pub position : ℤ → ℤ → ℤ → Position
position x y z = record { xy = record { x = x; y = y }; z = z }

-- where the tool stands behind a plain act
abbrev pub stands_behind : Option Position → Act → Option Position
stands_behind at (acts.Units u) = at
stands_behind at (acts.Rapid x y z) = Some (position x y z)
stands_behind at (acts.Cut x y z feed) = Some (position x y z)
stands_behind at (acts.Do command) = at
stands_behind at acts.End = at

-- an arc from where the tool stands, at its height: the two positions and the centre are three points, and the centre is no farther than a word can say
pub record CanGo (at : Position) (turn : ℤ) (to : Position) (centre : Pt) : Type 0 where
  pub sense : IsSense turn
  pub level : at.z ≡ to.z
  pub start_off : at.xy ≡ centre → ⊥
  pub end_off : to.xy ≡ centre → ⊥
  pub apart : at.xy ≡ to.xy → ⊥
  pub way_x : IsCoordinate (centre.x -ℤ at.xy.x)
  pub way_y : IsCoordinate (centre.y -ℤ at.xy.y)

-- there is none from nowhere
abbrev pub CanGoFrom : Option Position → ℤ → Position → Pt → Type 0
CanGoFrom None turn to centre = ⊥
CanGoFrom (Some at) turn to centre = CanGo at turn to centre

-- each arc can go from where the acts before it leave the tool
abbrev pub ArcsCan : Option Position → List ArcAct → Type 0
ArcsCan at [] = Unit {0}
ArcsCan at (arcs.Plain act ∷ more) = ArcsCan (stands_behind at act) more
ArcsCan at (arcs.Arc turn x y z cx cy feed ∷ more) = CanGoFrom at turn (position x y z) (record { x = cx; y = cy }) × ArcsCan (Some (position x y z)) more

-- a control holds where the tool stands
abbrev pub HoldsPosition : Option Position → Held → Type 0
HoldsPosition None held = Unit {0}
HoldsPosition (Some at) held = (held.x ≡ Some at.xy.x) × (held.y ≡ Some at.xy.y) × (held.z ≡ Some at.z)

-- an arc that can go from the position that holds, and whose numbers a block has room for
pub record CanArc (held : Held) (a : Arc) : Type 0 where
  pub at : Position
  pub holds : HoldsPosition (Some at) held
  pub goes : CanGo at a.turn (position a.x a.y a.z) (record { x = a.cx; y = a.cy })
  pub fits : Fits (act_of a)

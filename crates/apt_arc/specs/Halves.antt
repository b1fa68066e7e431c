-- What the code tells of a piece that is halved, and of the next quarter point.
use Rattle.std.specs.Prelude.{◌≡◌, ◌+◌, ◌-◌, ◌<◌, ◌++◌, ◌∷◌, ℕ, ℤ, false, length}
use Rattle.apt_plane.specs.declared.figures.Pt.{Pt}
use Rattle.apt_plane.specs.declared.figures.Dir.{Dir}
use Rattle.apt_plane.specs.declared.figures.Circ.{Circ}
use Rattle.apt_arc.specs.declared.arc.Arc.{Arc}
use Rattle.apt_arc.specs.Cuts.{middle}
use Rattle.apt_arc.specs.Made.{is_clear, pieces, onward, stations}

pub record IsHalved (depth : ℕ) (t : Circ) (sag : ℤ) (a b : Pt) : Type 0 where
  pub some : 0 < depth
  pub not_clear : is_clear t sag a b ≡ false
  pub list : pieces depth t sag a b ≡ pieces (depth - 1) t sag a (middle t a b) ++ pieces (depth - 1) t sag (middle t a b) b
  pub number : length (pieces depth t sag a b) ≡ length (pieces (depth - 1) t sag a (middle t a b)) + length (pieces (depth - 1) t sag (middle t a b) b)

-- a point comes next, and then those from a quarter turn on
pub record IsNext (left : ℕ) (arc : Arc) (u : Dir) (q : Pt) : Type 0 where
  pub some : 0 < left
  pub list : stations left arc u ≡ q ∷ stations (left - 1) arc (onward arc.sense u)

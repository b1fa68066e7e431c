-- Records without a drive surface that is a circle.
use Rattle.std.specs.Prelude.{List, [], ◌∷◌}
use Rattle.apt_plane.specs.declared.figures.Surface.{Surface}
use Rattle.apt_plane.specs.declared.figures.Surface.TheVariants as surfaces
use Rattle.apt_records.specs.declared.record.Record.{Record}
use Rattle.apt_records.specs.declared.record.Record.TheVariants as records

abbrev pub IsLine : Surface → Type 0
IsLine (surfaces.Line l) = Unit {0}
IsLine (surfaces.Circ c) = ⊥

-- a record that is no drive surface, or a drive surface that is a line
abbrev pub HasNoRound : Record → Type 0
HasNoRound (records.Drive surface side sense) = IsLine surface
HasNoRound _ = Unit {0}

-- no drive surface is a circle
abbrev pub HaveNoRound : List Record → Type 0
HaveNoRound [] = Unit {0}
HaveNoRound (r ∷ rs) = HasNoRound r × HaveNoRound rs

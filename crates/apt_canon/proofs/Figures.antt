-- Figures by their numbers, for those that are worked out by hand.
use Rattle.std.proofs.Common.{ℤ}
use Rattle.apt_plane.specs.declared.figures.Pt.{Pt}
use Rattle.apt_plane.specs.declared.figures.Line.{Line}
use Rattle.apt_plane.specs.declared.figures.Circ.{Circ}

abbrev pub pt : ℤ → ℤ → Pt
pt x y = record { x = x; y = y }

abbrev pub line : ℤ → ℤ → ℤ → ℤ → Line
line x y dx dy = record { base = pt x y; dir = record { dx = dx; dy = dy } }

abbrev pub circ : ℤ → ℤ → ℤ → Circ
circ x y r = record { c = pt x y; r = r }

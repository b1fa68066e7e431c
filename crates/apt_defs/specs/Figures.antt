-- The figures that names stand for.
use Rattle.std.specs.Prelude.{ℕ, ◌≤◌, ℤ, unsigned_abs, nat_eq, List, [], ◌∷◌, Option, Some, None, Result, Ok, Err}
use Rattle.std.specs.Cmp.Lexicographic.{pointwise}
use Rattle.std.specs.Map.{lookup}
use Rattle.indexmap.specs.IndexMap.{insert_entry}
use Rattle.apt_words.specs.Chains.{◌>>=◌}
use Rattle.apt_words.specs.declared.Case.{Case}
use Rattle.apt_words.specs.declared.Case.TheVariants as cases
use Rattle.apt_plane.specs.declared.figures.Pt.{Pt}
use Rattle.apt_plane.specs.declared.figures.Line.{Line}
use Rattle.apt_plane.specs.declared.figures.Circ.{Circ}
use Rattle.apt_plane.specs.declared.figures.Surface.{Surface}
use Rattle.apt_plane.specs.declared.figures.Surface.TheVariants as surfaces
use Rattle.apt_plane.specs.Ranges.{IsPoint, IsSurface}
use Rattle.apt_defs.specs.declared.figure.Figure.{Figure}
use Rattle.apt_defs.specs.declared.figure.Figure.TheVariants as figures

-- names with their latest figures, in the order in which they were first defined
abbrev pub Table : Type 0
Table = List (List ℕ × Figure)

abbrev pub figure_named : Table → List ℕ → Option Figure
figure_named table name = lookup (pointwise nat_eq name) table

-- the table with a name's new figure: a new name goes last, a known one keeps its place
abbrev pub table_with : Table → List ℕ → Figure → Table
table_with table name f = insert_entry (pointwise nat_eq) table name f

-- ---- figures by their kind: a name that stands for nothing is undefined, and one of another kind is of the wrong one

abbrev pub defined : Option Figure → Result Figure Case
defined None = Err cases.Undefined
defined (Some f) = Ok f

-- a point with its height
abbrev pub as_place : Figure → Result (Pt × ℤ) Case
as_place (figures.Point xy z) = Ok (xy, z)
as_place (figures.Shape s) = Err cases.WrongKind
as_place figures.Scalar = Err cases.WrongKind

abbrev pub as_surface : Figure → Result Surface Case
as_surface (figures.Point xy z) = Err cases.WrongKind
as_surface (figures.Shape s) = Ok s
as_surface figures.Scalar = Err cases.WrongKind

abbrev pub as_line : Surface → Result Line Case
as_line (surfaces.Line l) = Ok l
as_line (surfaces.Circ c) = Err cases.WrongKind

abbrev pub as_circle : Surface → Result Circ Case
as_circle (surfaces.Line l) = Err cases.WrongKind
as_circle (surfaces.Circ c) = Ok c

abbrev pub place_named : Table → List ℕ → Result (Pt × ℤ) Case
place_named table name = defined (figure_named table name) >>= as_place

abbrev pub point_named : Table → List ℕ → Result Pt Case
point_named table name = place_named table name >>= λ p. Ok p.0

abbrev pub surface_named : Table → List ℕ → Result Surface Case
surface_named table name = defined (figure_named table name) >>= as_surface

abbrev pub line_named : Table → List ℕ → Result Line Case
line_named table name = surface_named table name >>= as_line

abbrev pub circle_named : Table → List ℕ → Result Circ Case
circle_named table name = surface_named table name >>= as_circle

-- ---- ranges

pub record IsPointAtHeight (p : Pt) (h : ℤ) : Type 0 where
  pub xy : IsPoint p
  pub z : unsigned_abs h ≤ 50000000

-- a figure in its range, in grid units
abbrev pub IsFigure : Figure → Type 0
IsFigure (figures.Point xy z) = IsPointAtHeight xy z
IsFigure (figures.Shape s) = IsSurface s
IsFigure figures.Scalar = Unit {0}

abbrev pub AreFigures : Table → Type 0
AreFigures [] = Unit {0}
AreFigures (e ∷ es) = IsFigure e.1 × AreFigures es

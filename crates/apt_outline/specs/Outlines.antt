-- The parts of an outline, or the first cause of its first line that has one.
use Rattle.std.specs.Prelude.{◌≡◌, ℕ, ◌+◌, ◌≤◌, ◌&&◌, Bool, List, [], ◌∷◌, length, codes, Option, Some, None, Result, Ok, Err, if◌then◌else◌}
use Rattle.std.specs.Ordering.{int_eq}
use Rattle.apt_words.specs.Symbols.{is_name}
use Rattle.apt_plane.specs.declared.figures.Pt.{Pt}
use Rattle.apt_plane.specs.declared.figures.Circ.{Circ}
use Rattle.apt_plane.specs.declared.figures.Surface.TheVariants as surfaces
use Rattle.apt_lexis.specs.Lines.{lines_of}
use Rattle.apt_lexis.specs.Words.{is, is_readable, in_front, behind}
use Rattle.apt_defs.specs.declared.figure.Figure.{Figure}
use Rattle.apt_defs.specs.declared.figure.Figure.TheVariants as figures
use Rattle.apt_defs.specs.Figures.{Table, figure_named}
use Rattle.apt_outline.specs.declared.parts.Part.{Part}
use Rattle.apt_outline.specs.declared.parts.Part.TheVariants as parts
use Rattle.apt_outline.specs.declared.cause.OutlineCause.{OutlineCause}
use Rattle.apt_outline.specs.declared.cause.OutlineCause.TheVariants as causes
use Rattle.apt_outline.specs.declared.cause.OutlineError.{OutlineError}
use Rattle.apt_outline.specs.declared.cause.OutlineError.TheVariants as errors

-- ---- names: first each must stand for something, and then for the right thing

-- the circle of a figure that is one
abbrev pub as_circle : Figure → Result Circ OutlineCause
as_circle (figures.Point xy z) = Err causes.WrongKind
as_circle (figures.Shape (surfaces.Line l)) = Err causes.WrongKind
as_circle (figures.Shape (surfaces.Circ c)) = Ok c
as_circle figures.Scalar = Err causes.WrongKind

-- two points are the same in x and y
abbrev pub is_same : Pt → Pt → Bool
is_same p q = int_eq p.x q.x && int_eq p.y q.y

-- the edge between two points that differ
abbrev pub edge_between : Figure → Figure → Result Part OutlineCause
edge_between (figures.Point p y) (figures.Point q z) = if is_same p q then Err causes.Degenerate else Ok (parts.Edge p q)
edge_between (figures.Point p y) (figures.Shape s) = Err causes.WrongKind
edge_between (figures.Point p y) figures.Scalar = Err causes.WrongKind
edge_between (figures.Shape s) g = Err causes.WrongKind
edge_between figures.Scalar g = Err causes.WrongKind

-- an edge, where both figures are there
abbrev pub edge_of : Option Figure → Option Figure → Result Part OutlineCause
edge_of None g = Err causes.Undefined
edge_of (Some f) None = Err causes.Undefined
edge_of (Some f) (Some g) = edge_between f g

-- a circle, where the figure is there
abbrev pub circle_of : Option Figure → Result Circ OutlineCause
circle_of None = Err causes.Undefined
circle_of (Some f) = as_circle f

-- ---- lines

-- of the name in front of a blank, and what stands behind it
abbrev pub edge_line : Table → List ℕ → Option (List ℕ) → Result Part OutlineCause
edge_line table p None = Err causes.Word
edge_line table p (Some q) = if is_name p && is_name q then edge_of (figure_named table p) (figure_named table q) else Err causes.Word

-- the circle of a name
abbrev pub circle_line : Table → List ℕ → Result Circ OutlineCause
circle_line table c = if is_name c then circle_of (figure_named table c) else Err causes.Word

-- the part round a circle
abbrev pub round : (Circ → Part) → Result Circ OutlineCause → Result Part OutlineCause
round part (Err cause) = Err cause
round part (Ok c) = Ok (part c)

-- of the word in front of the first blank, and what stands behind it
abbrev pub part_by : Table → List ℕ → Option (List ℕ) → Result Part OutlineCause
part_by table word None = Err causes.Word
part_by table word (Some rest) =
    if is word (codes "EDGE") then edge_line table (in_front rest) (behind rest)
    else if is word (codes "BOSS") then round parts.Boss (circle_line table rest)
    else if is word (codes "BORE") then round parts.Bore (circle_line table rest)
    else Err causes.Word

-- the part of a line
abbrev pub part_of : Table → List ℕ → Result Part OutlineCause
part_of table line = if is_readable line then part_by table (in_front line) (behind line) else Err causes.Byte

-- ---- the text

-- the first fault, with its line
abbrev pub Fault : Type 0
Fault = ℕ × OutlineCause

-- a part in front of others
abbrev pub with_part : Part → Result (List Part) Fault → Result (List Part) Fault
with_part part (Err fault) = Err fault
with_part part (Ok more) = Ok (part ∷ more)

-- what follows a line's part, or its cause
abbrev pub goes_on : ℕ → Result Part OutlineCause → Result (List Part) Fault → Result (List Part) Fault
goes_on n (Err cause) more = Err (n, cause)
goes_on n (Ok part) more = with_part part more

-- the parts of the lines from number n on; an empty line has none
abbrev pub parts_from : Table → ℕ → List (List ℕ) → Result (List Part) Fault
parts_from table n [] = Ok []
parts_from table n ([] ∷ lines) = parts_from table (n + 1) lines
parts_from table n ((b ∷ bs) ∷ lines) = goes_on n (part_of table (b ∷ bs)) (parts_from table (n + 1) lines)

-- there is a part: else the line behind the last is at fault
abbrev pub or_empty : ℕ → Result (List Part) Fault → Result (List Part) Fault
or_empty n (Err fault) = Err fault
or_empty n (Ok []) = Err (n, causes.Empty)
or_empty n (Ok (part ∷ more)) = Ok (part ∷ more)

-- the parts of the lines behind the first
abbrev pub parts_of : Table → List (List ℕ) → Result (List Part) Fault
parts_of table lines = or_empty (length lines + 2) (parts_from table 2 lines)

-- the first line says what the text is
abbrev pub outline_of_lines : Table → List (List ℕ) → Result (List Part) Fault
outline_of_lines table [] = Err (1, causes.Header)
outline_of_lines table (line ∷ lines) =
    if is_readable line then (if is line (codes "OUTLINE 1") then parts_of table lines else Err (1, causes.Header))
    else Err (1, causes.Byte)

-- the parts of a text, or its first fault
abbrev pub outline_of : Table → List ℕ → Result (List Part) Fault
outline_of table text = outline_of_lines table (lines_of text)

-- the fault that an error tells
abbrev pub fault_in : OutlineError → Option Fault
fault_in (errors.Bad line cause) = Some (line, cause)
fault_in errors.NoMemory = None

-- ---- where a cause can stand

-- the causes of a line behind the first
abbrev pub IsOfLine : OutlineCause → Type 0
IsOfLine causes.Header = ⊥
IsOfLine causes.Empty = ⊥
IsOfLine _ = Unit {0}

-- the lines of a text of so many at which a cause can stand
abbrev pub Stands : ℕ → ℕ → OutlineCause → Type 0
Stands many line causes.Byte = (1 ≤ line) × (line ≤ many)
Stands many line causes.Header = line ≡ 1
Stands many line causes.Word = (2 ≤ line) × (line ≤ many)
Stands many line causes.Undefined = (2 ≤ line) × (line ≤ many)
Stands many line causes.WrongKind = (2 ≤ line) × (line ≤ many)
Stands many line causes.Degenerate = (2 ≤ line) × (line ≤ many)
Stands many line causes.Empty = line ≡ many + 1

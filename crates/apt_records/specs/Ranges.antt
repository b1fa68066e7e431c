-- The numbers of records, in grid units, and how a list of records ends.
use Rattle.std.specs.Prelude.{◌≡◌, ℕ, ◌+◌, ◌≤◌, length, ℤ, pos, ◌≤ℤ◌, unsigned_abs, Bool, true, false, List, [], ◌∷◌}
use Rattle.apt_words.specs.declared.Command.{Command}
use Rattle.apt_words.specs.declared.Command.TheVariants as commands
use Rattle.apt_words.specs.declared.Turn.{Turn}
use Rattle.apt_words.specs.declared.Turn.TheVariants as turns
use Rattle.apt_words.specs.Sources.{IsCount, IsText}
use Rattle.apt_plane.specs.Ranges.{IsPoint, IsSurface, IsSense}
use Rattle.apt_records.specs.declared.record.Position.{Position}
use Rattle.apt_records.specs.declared.record.Note.{Note}
use Rattle.apt_records.specs.declared.record.Note.TheVariants as notes
use Rattle.apt_records.specs.declared.record.Record.{Record}
use Rattle.apt_records.specs.declared.record.Record.TheVariants as records

-- a position within the coordinate limit
pub record IsPosition (p : Position) : Type 0 where
  pub xy : IsPoint p.xy
  pub z : unsigned_abs p.z ≤ 50000000

-- from one number up to another
abbrev pub IsFromTo : ℤ → ℤ → ℤ → Type 0
IsFromTo least most n = (least ≤ℤ n) × (n ≤ℤ most)

-- the greatest number of a command
abbrev pub greatest : ℤ
greatest = pos 2147483647

-- turns per minute: 0 with Off alone
abbrev pub IsSpeed : Turn → ℤ → Type 0
IsSpeed turns.Cw n = IsFromTo (pos 1) greatest n
IsSpeed turns.Ccw n = IsFromTo (pos 1) greatest n
IsSpeed turns.Off n = n ≡ pos 0

-- a command in whole numbers
abbrev pub IsCommand : Command → Type 0
IsCommand (commands.Spindle turn n) = IsSpeed turn n
IsCommand (commands.Tool n) = IsFromTo (pos 1) greatest n
IsCommand _ = Unit {0}

abbrev pub IsNote : Note → Type 0
IsNote (notes.Partno text) = IsText text
IsNote (notes.Cutter d) = IsFromTo (pos 0) (pos 1000000) d
IsNote (notes.Intol t) = IsFromTo (pos 0) (pos 10000) t
IsNote (notes.Outtol t) = IsFromTo (pos 0) (pos 10000) t
IsNote (notes.Feed f) = IsFromTo (pos 1) greatest f
IsNote (notes.Do command) = IsCommand command
IsNote _ = Unit {0}

abbrev pub ArePositions : List Position → Type 0
ArePositions [] = Unit {0}
ArePositions (p ∷ ps) = IsPosition p × ArePositions ps

abbrev pub IsRecord : Record → Type 0
IsRecord (records.Statement line step) = IsCount line × IsCount step
IsRecord (records.Note note) = IsNote note
IsRecord (records.Drive surface side sense) = IsSurface surface × IsSense sense
IsRecord (records.Check surface how) = IsSurface surface
IsRecord (records.Point reach to) = IsPosition to
IsRecord (records.Contour vertices) = (1 ≤ length vertices) × ArePositions vertices

abbrev pub AreRecords : List Record → Type 0
AreRecords [] = Unit {0}
AreRecords (r ∷ rs) = IsRecord r × AreRecords rs

-- ---- how many vertices there are

-- the vertices of a contour
abbrev pub vertices_in : Record → ℕ
vertices_in (records.Contour vertices) = length vertices
vertices_in _ = 0

-- the vertices of the contours among records
abbrev pub vertex_count : List Record → ℕ
vertex_count [] = 0
vertex_count (r ∷ rs) = vertices_in r + vertex_count rs

-- ---- how a list of records ends

pub data Mark : Type 0 where
  Begin : Mark
  End : Mark
  Fini : Mark
  Other : Mark

abbrev pub note_mark : Note → Mark
note_mark (notes.Partno text) = Other
note_mark (notes.Units units) = Other
note_mark (notes.Cutter d) = Other
note_mark (notes.Intol t) = Other
note_mark (notes.Outtol t) = Other
note_mark (notes.Feed f) = Other
note_mark (notes.Do command) = Other
note_mark notes.Rapid = Other
note_mark notes.End = End
note_mark notes.Fini = Fini

abbrev pub mark_of : Record → Mark
mark_of (records.Statement line step) = Begin
mark_of (records.Note note) = note_mark note
mark_of (records.Drive surface side sense) = Other
mark_of (records.Check surface how) = Other
mark_of (records.Point reach to) = Other
mark_of (records.Contour vertices) = Other

abbrev pub EndsBy : Bool → Mark → List Record → (Bool → Type 0) → Type 0
EndsBy ended Fini [] more = Unit {0}
EndsBy ended Fini (r ∷ rs) more = ⊥
EndsBy false End rs more = more true
EndsBy true End rs more = ⊥
EndsBy ended Begin rs more = more ended
EndsBy false Other rs more = more false
EndsBy true Other rs more = ⊥

-- the record of FINI stands last and nowhere else, and behind one of END nothing else is said
abbrev pub EndsOnce : Bool → List Record → Type 0
EndsOnce ended [] = ⊥
EndsOnce ended (r ∷ rs) = EndsBy ended (mark_of r) rs (λ now. EndsOnce now rs)

-- That records are in range is one fact, which a value may carry.
use Rattle.std.specs.Prelude.{ℕ, ℤ, pos, negsuc, List, [], ◌∷◌}
use Rattle.std.proofs.Common.{◌≡◌, inl, inr, ap, sym, ◌∙◌}
use Rattle.std.proofs.Math.IntN.{ℤ_set}
use Rattle.std.proofs.Props.{props}
use Rattle.apt_words.specs.declared.Command.TheVariants as commands
use Rattle.apt_words.specs.declared.Turn.TheVariants as turns
use Rattle.apt_words.specs.declared.Turn.{Turn}
use Rattle.apt_plane.specs.declared.figures.Surface.{Surface}
use Rattle.apt_plane.specs.declared.figures.Surface.TheVariants as surfaces
use Rattle.apt_plane.specs.Ranges.{IsSense, IsSurface}
use Rattle.apt_records.specs.declared.record.Position.{Position}
use Rattle.apt_records.specs.declared.record.Note.{Note}
use Rattle.apt_records.specs.declared.record.Note.TheVariants as notes
use Rattle.apt_records.specs.declared.record.Record.{Record}
use Rattle.apt_records.specs.declared.record.Record.TheVariants as records
use Rattle.apt_records.specs.Ranges.{IsSpeed, IsNote, ArePositions, IsRecord, AreRecords}
use Rattle.apt_clreader.specs.Begun.{IsBegun}
use Rattle.apt_clreader.specs.declared.state.Part.{Part}
use Rattle.apt_clreader.specs.declared.state.Part.TheVariants as parts

pub begun_single : (part : Part) (records : List Record) (at end : ℕ) (held : List ℕ) → IsProp (IsBegun part records at end held)
begun_single parts.Head records at end held = Prim.hlevel props
begun_single parts.Records records at end held = Prim.hlevel props
begun_single parts.Nothing records at end held = Prim.hlevel props

speed_single : (turn : Turn) (n : ℤ) → IsProp (IsSpeed turn n)
speed_single turns.Cw n = Prim.hlevel props
speed_single turns.Ccw n = Prim.hlevel props
speed_single turns.Off n = Prim.hlevel props

note_single : (note : Note) → IsProp (IsNote note)
note_single (notes.Partno text) = Prim.hlevel props
note_single (notes.Units units) = Prim.hlevel props
note_single (notes.Cutter d) = Prim.hlevel props
note_single (notes.Intol t) = Prim.hlevel props
note_single (notes.Outtol t) = Prim.hlevel props
note_single (notes.Feed f) = Prim.hlevel props
note_single (notes.Do (commands.Spindle turn n)) = speed_single turn n
note_single (notes.Do (commands.Coolant c)) = Prim.hlevel props
note_single (notes.Do (commands.Tool n)) = Prim.hlevel props
note_single notes.Rapid = Prim.hlevel props
note_single (notes.Do commands.Stop) = Prim.hlevel props
note_single (notes.Do commands.OptStop) = Prim.hlevel props
note_single notes.End = Prim.hlevel props
note_single notes.Fini = Prim.hlevel props

surface_single : (surface : Surface) → IsProp (IsSurface surface)
surface_single (surfaces.Line l) = Prim.hlevel props
surface_single (surfaces.Circ c) = Prim.hlevel props

positions_single : (ps : List Position) → IsProp (ArePositions ps)
positions_single [] = Prim.hlevel props
positions_single (p ∷ ps) = Prim.hlevel (props, positions_single ps)

apart : pos 1 ≡ negsuc 0 → ⊥
apart e = Prim.cc

sense_single : (sense : ℤ) → IsProp (IsSense sense)
sense_single sense (inl a) (inl b) = ap inl (ℤ_set sense (pos 1) a b)
sense_single sense (inl a) (inr b) = absurd (apart (sym a ∙ b))
sense_single sense (inr a) (inl b) = absurd (apart (sym b ∙ a))
sense_single sense (inr a) (inr b) = ap inr (ℤ_set sense (negsuc 0) a b)

record_single : (r : Record) → IsProp (IsRecord r)
record_single (records.Statement line step) = Prim.hlevel props
record_single (records.Note note) = note_single note
record_single (records.Drive surface side sense) = Prim.hlevel (props, surface_single surface, sense_single sense)
record_single (records.Check surface how) = surface_single surface
record_single (records.Point reach to) = Prim.hlevel props
record_single (records.Contour vertices) = Prim.hlevel (props, positions_single vertices)

pub records_single : (rs : List Record) → IsProp (AreRecords rs)
records_single [] = Prim.hlevel props
records_single (r ∷ rs) = Prim.hlevel (props, record_single r, records_single rs)

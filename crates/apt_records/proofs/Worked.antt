-- The words of each kind of record, which the checker reads.
use Rattle.std.specs.Prelude.{◌≡◌, ℤ, pos, negsuc, map, [], ◌∷◌, codes}
use Rattle.std.proofs.Common.{refl}
use Rattle.apt_records.specs.declared.record.Note.TheVariants as notes
use Rattle.apt_records.specs.declared.record.Record.TheVariants as records
use Rattle.apt_plane.specs.declared.figures.Surface.{Surface}
use Rattle.apt_plane.specs.declared.figures.Surface.TheVariants as surfaces
use Rattle.apt_words.specs.declared.Command.TheVariants as commands
use Rattle.apt_words.specs.declared.Cool.TheVariants as cools
use Rattle.apt_words.specs.declared.Side.TheVariants as sides
use Rattle.apt_words.specs.declared.Stop.TheVariants as stops
use Rattle.apt_words.specs.declared.Turn.TheVariants as turns
use Rattle.apt_words.specs.declared.Units.TheVariants as units
use Rattle.apt_records.specs.declared.record.Position.{Position}
use Rattle.apt_records.specs.declared.record.Reach.TheVariants as reaches
use Rattle.apt_records.specs.Words.{note_words, words_of}

abbrev line : Surface
line = surfaces.Line (record { base = record { x = pos 1; y = pos 2 }; dir = record { dx = pos 3; dy = pos 4 } })

abbrev circle : Surface
circle = surfaces.Circ (record { c = record { x = pos 5; y = pos 6 }; r = pos 100 })

abbrev at : ℤ → ℤ → ℤ → Position
at x y z = record { xy = record { x = x; y = y }; z = z }

notes_in_words :
    map note_words (notes.Partno (codes "AB") ∷ notes.Rapid ∷ notes.Do commands.Stop ∷ notes.Do commands.OptStop ∷ notes.End ∷ notes.Feed (pos 60) ∷ [])
    ≡ (pos 2000 ∷ pos 1 ∷ pos 65 ∷ pos 66 ∷ []) ∷ (pos 2000 ∷ pos 2 ∷ []) ∷ (pos 2000 ∷ pos 3 ∷ []) ∷ (pos 2000 ∷ pos 4 ∷ []) ∷ (pos 2000 ∷ pos 5 ∷ [])
    ∷ (pos 2000 ∷ pos 6 ∷ pos 60 ∷ []) ∷ []
notes_in_words = refl

tools_in_words :
    map note_words (notes.Do (commands.Spindle turns.Cw (pos 70)) ∷ notes.Do (commands.Spindle turns.Ccw (pos 70)) ∷ notes.Do (commands.Spindle turns.Off (pos 0)) ∷ notes.Do (commands.Coolant cools.Off) ∷ notes.Do (commands.Coolant cools.Mist) ∷ notes.Do (commands.Coolant cools.Flood) ∷ notes.Do (commands.Tool (pos 9)) ∷ [])
    ≡ (pos 2000 ∷ pos 7 ∷ pos 70 ∷ pos 1 ∷ []) ∷ (pos 2000 ∷ pos 7 ∷ pos 70 ∷ pos 2 ∷ []) ∷ (pos 2000 ∷ pos 7 ∷ pos 0 ∷ pos 0 ∷ []) ∷ (pos 2000 ∷ pos 8 ∷ pos 0 ∷ [])
    ∷ (pos 2000 ∷ pos 8 ∷ pos 1 ∷ []) ∷ (pos 2000 ∷ pos 8 ∷ pos 2 ∷ []) ∷ (pos 2000 ∷ pos 9 ∷ pos 9 ∷ []) ∷ []
tools_in_words = refl

settings_in_words :
    map note_words (notes.Cutter (pos 5) ∷ notes.Intol (pos 6) ∷ notes.Outtol (pos 7) ∷ notes.Units units.Inch ∷ notes.Units units.Mm ∷ notes.Fini ∷ [])
    ≡ (pos 6000 ∷ pos 1 ∷ pos 5 ∷ []) ∷ (pos 6000 ∷ pos 2 ∷ pos 6 ∷ []) ∷ (pos 6000 ∷ pos 3 ∷ pos 7 ∷ []) ∷ (pos 6000 ∷ pos 4 ∷ pos 1 ∷ []) ∷ (pos 6000 ∷ pos 4 ∷ pos 2 ∷ [])
    ∷ (pos 14000 ∷ pos 0 ∷ []) ∷ []
settings_in_words = refl

surfaces_in_words :
    map words_of (records.Statement 3 4 ∷ records.Drive line sides.Left (pos 1) ∷ records.Drive circle sides.Right (negsuc 0) ∷ records.Drive circle sides.On (pos 1) ∷ records.Check line stops.To ∷ records.Check line stops.On
    ∷ records.Check circle stops.Past ∷ records.Check circle stops.Tanto ∷ [])
    ≡ (pos 1000 ∷ pos 0 ∷ pos 3 ∷ pos 4 ∷ [])
    ∷ (pos 3000 ∷ pos 1 ∷ pos 1 ∷ pos 1 ∷ pos 2 ∷ pos 3 ∷ pos 4 ∷ pos 1 ∷ pos 1 ∷ []) ∷ (pos 3000 ∷ pos 1 ∷ pos 2 ∷ pos 5 ∷ pos 6 ∷ pos 100 ∷ pos 0 ∷ pos 2 ∷ negsuc 0 ∷ [])
    ∷ (pos 3000 ∷ pos 1 ∷ pos 2 ∷ pos 5 ∷ pos 6 ∷ pos 100 ∷ pos 0 ∷ pos 3 ∷ pos 1 ∷ [])
    ∷ (pos 3000 ∷ pos 2 ∷ pos 1 ∷ pos 1 ∷ pos 2 ∷ pos 3 ∷ pos 4 ∷ pos 1 ∷ []) ∷ (pos 3000 ∷ pos 2 ∷ pos 1 ∷ pos 1 ∷ pos 2 ∷ pos 3 ∷ pos 4 ∷ pos 2 ∷ [])
    ∷ (pos 3000 ∷ pos 2 ∷ pos 2 ∷ pos 5 ∷ pos 6 ∷ pos 100 ∷ pos 0 ∷ pos 3 ∷ []) ∷ (pos 3000 ∷ pos 2 ∷ pos 2 ∷ pos 5 ∷ pos 6 ∷ pos 100 ∷ pos 0 ∷ pos 4 ∷ []) ∷ []
surfaces_in_words = refl

points_in_words :
    map words_of (records.Point reaches.From (at (pos 7) (pos 8) (pos 9)) ∷ records.Point reaches.Goto (at (pos 7) (pos 8) (pos 9)) ∷ records.Point reaches.Godlta (at (pos 7) (pos 8) (pos 9))
    ∷ records.Point reaches.Start (at (pos 7) (pos 8) (pos 9)) ∷ records.Contour (at (pos 7) (pos 8) (pos 9) ∷ at (pos 1) (pos 2) (pos 9) ∷ []) ∷ [])
    ≡ (pos 5000 ∷ pos 1 ∷ pos 7 ∷ pos 8 ∷ pos 9 ∷ []) ∷ (pos 5000 ∷ pos 2 ∷ pos 7 ∷ pos 8 ∷ pos 9 ∷ []) ∷ (pos 5000 ∷ pos 3 ∷ pos 7 ∷ pos 8 ∷ pos 9 ∷ [])
    ∷ (pos 5000 ∷ pos 4 ∷ pos 7 ∷ pos 8 ∷ pos 9 ∷ []) ∷ (pos 5000 ∷ pos 5 ∷ pos 7 ∷ pos 8 ∷ pos 9 ∷ pos 1 ∷ pos 2 ∷ pos 9 ∷ []) ∷ []
points_in_words = refl

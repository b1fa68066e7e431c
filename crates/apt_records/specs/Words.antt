-- The words of a record: its class, its subtype, and the words of its kind.
use Rattle.std.specs.Prelude.{ℤ, pos, List, [], ◌∷◌, ◌++◌, map}
use Rattle.std.specs.List.{flat_map}
use Rattle.apt_words.specs.declared.Command.{Command}
use Rattle.apt_words.specs.declared.Command.TheVariants as commands
use Rattle.apt_words.specs.declared.Units.{Units}
use Rattle.apt_words.specs.declared.Units.TheVariants as units
use Rattle.apt_words.specs.declared.Turn.{Turn}
use Rattle.apt_words.specs.declared.Turn.TheVariants as turns
use Rattle.apt_words.specs.declared.Cool.{Cool}
use Rattle.apt_words.specs.declared.Cool.TheVariants as cools
use Rattle.apt_words.specs.declared.Side.{Side}
use Rattle.apt_words.specs.declared.Side.TheVariants as sides
use Rattle.apt_words.specs.declared.Stop.{Stop}
use Rattle.apt_words.specs.declared.Stop.TheVariants as stops
use Rattle.apt_plane.specs.declared.figures.Surface.{Surface}
use Rattle.apt_plane.specs.declared.figures.Surface.TheVariants as surfaces
use Rattle.apt_records.specs.declared.record.Position.{Position}
use Rattle.apt_records.specs.declared.record.Reach.{Reach}
use Rattle.apt_records.specs.declared.record.Reach.TheVariants as reaches
use Rattle.apt_records.specs.declared.record.Note.{Note}
use Rattle.apt_records.specs.declared.record.Note.TheVariants as notes
use Rattle.apt_records.specs.declared.record.Record.{Record}
use Rattle.apt_records.specs.declared.record.Record.TheVariants as records

abbrev pub units_word : Units → ℤ
units_word units.Inch = pos 1
units_word units.Mm = pos 2

abbrev pub turn_word : Turn → ℤ
turn_word turns.Off = pos 0
turn_word turns.Cw = pos 1
turn_word turns.Ccw = pos 2

abbrev pub cool_word : Cool → ℤ
cool_word cools.Off = pos 0
cool_word cools.Mist = pos 1
cool_word cools.Flood = pos 2

abbrev pub side_word : Side → ℤ
side_word sides.Left = pos 1
side_word sides.Right = pos 2
side_word sides.On = pos 3

abbrev pub stop_word : Stop → ℤ
stop_word stops.To = pos 1
stop_word stops.On = pos 2
stop_word stops.Past = pos 3
stop_word stops.Tanto = pos 4

abbrev pub reach_word : Reach → ℤ
reach_word reaches.From = pos 1
reach_word reaches.Goto = pos 2
reach_word reaches.Godlta = pos 3
reach_word reaches.Start = pos 4

abbrev pub position_words : Position → List ℤ
position_words p = p.xy.x ∷ p.xy.y ∷ p.z ∷ []

-- a surface's kind and its four numbers
abbrev pub surface_words : Surface → List ℤ
surface_words (surfaces.Line l) = pos 1 ∷ l.base.x ∷ l.base.y ∷ l.dir.dx ∷ l.dir.dy ∷ []
surface_words (surfaces.Circ c) = pos 2 ∷ c.c.x ∷ c.c.y ∷ c.r ∷ pos 0 ∷ []

abbrev pub command_words : Command → List ℤ
command_words commands.Stop = pos 2000 ∷ pos 3 ∷ []
command_words commands.OptStop = pos 2000 ∷ pos 4 ∷ []
command_words (commands.Spindle turn n) = pos 2000 ∷ pos 7 ∷ n ∷ turn_word turn ∷ []
command_words (commands.Coolant c) = pos 2000 ∷ pos 8 ∷ cool_word c ∷ []
command_words (commands.Tool n) = pos 2000 ∷ pos 9 ∷ n ∷ []

abbrev pub note_words : Note → List ℤ
note_words (notes.Partno text) = pos 2000 ∷ pos 1 ∷ map pos text
note_words notes.Rapid = pos 2000 ∷ pos 2 ∷ []
note_words (notes.Do command) = command_words command
note_words notes.End = pos 2000 ∷ pos 5 ∷ []
note_words (notes.Feed f) = pos 2000 ∷ pos 6 ∷ f ∷ []
note_words (notes.Cutter d) = pos 6000 ∷ pos 1 ∷ d ∷ []
note_words (notes.Intol t) = pos 6000 ∷ pos 2 ∷ t ∷ []
note_words (notes.Outtol t) = pos 6000 ∷ pos 3 ∷ t ∷ []
note_words (notes.Units u) = pos 6000 ∷ pos 4 ∷ units_word u ∷ []
note_words notes.Fini = pos 14000 ∷ pos 0 ∷ []

-- what a record says, in words
abbrev pub words_of : Record → List ℤ
words_of (records.Statement line step) = pos 1000 ∷ pos 0 ∷ pos line ∷ pos step ∷ []
words_of (records.Note note) = note_words note
words_of (records.Drive surface side sense) = pos 3000 ∷ pos 1 ∷ surface_words surface ++ side_word side ∷ sense ∷ []
words_of (records.Check surface how) = pos 3000 ∷ pos 2 ∷ surface_words surface ++ stop_word how ∷ []
words_of (records.Point reach to) = pos 5000 ∷ reach_word reach ∷ position_words to
words_of (records.Contour vertices) = pos 5000 ∷ pos 5 ∷ flat_map position_words vertices

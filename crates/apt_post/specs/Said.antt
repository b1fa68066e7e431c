-- The acts that a CL file asks for, read off its records alone. What a record asks for is told by the records in front of it, looked back over from the latest.
use Rattle.std.specs.Prelude.{ℤ, pos, Bool, true, false, List, [], ◌∷◌, ◌++◌, map, if◌then◌else◌}
use Rattle.apt_words.specs.declared.Units.{Units}
use Rattle.apt_words.specs.declared.Units.TheVariants as the_units
use Rattle.apt_records.specs.declared.record.Position.{Position}
use Rattle.apt_records.specs.declared.record.Reach.TheVariants as reaches
use Rattle.apt_records.specs.declared.record.Note.{Note}
use Rattle.apt_records.specs.declared.record.Note.TheVariants as notes
use Rattle.apt_records.specs.declared.record.Record.{Record}
use Rattle.apt_records.specs.declared.record.Record.TheVariants as records
use Rattle.apt_control.specs.declared.Act.{Act}
use Rattle.apt_control.specs.declared.Act.TheVariants as acts

-- the feed that was said last, 0 where none was
abbrev pub feed_said : List Record → ℤ
feed_said [] = pos 0
feed_said (records.Note (notes.Feed f) ∷ before) = f
feed_said (_ ∷ before) = feed_said before

-- a RAPID is pending from where it is said to the next move; FROM is no move
abbrev pub is_rapid : List Record → Bool
is_rapid [] = false
is_rapid (records.Note notes.Rapid ∷ before) = true
is_rapid (records.Point reaches.Goto to ∷ before) = false
is_rapid (records.Point reaches.Godlta to ∷ before) = false
is_rapid (records.Point reaches.Start to ∷ before) = false
is_rapid (_ ∷ before) = is_rapid before

-- END and FINI give the end
abbrev pub has_ended : List Record → Bool
has_ended [] = false
has_ended (records.Note notes.End ∷ before) = true
has_ended (records.Note notes.Fini ∷ before) = true
has_ended (_ ∷ before) = has_ended before

-- the units are the first that are said, else inches
abbrev pub units_said : List Record → Units
units_said [] = the_units.Inch
units_said (records.Note (notes.Units units) ∷ more) = units
units_said (_ ∷ more) = units_said more

abbrev pub cut_by : List Record → Position → Act
cut_by before to = acts.Cut to.xy.x to.xy.y to.z (feed_said before)

-- a move is rapid where a RAPID is pending, else a cut with the feed that was said last
abbrev pub move_by : List Record → Position → Act
move_by before to = if is_rapid before then acts.Rapid to.xy.x to.xy.y to.z else cut_by before to

-- the end comes once
abbrev pub end_by : List Record → List Act
end_by before = if has_ended before then [] else acts.End ∷ []

-- what a note asks for: a command as it stands
abbrev pub note_said : List Record → Note → List Act
note_said before (notes.Do command) = acts.Do command ∷ []
note_said before notes.End = end_by before
note_said before notes.Fini = end_by before
note_said before _ = []

-- what a record asks for; each vertex of a contour is a cut
abbrev pub record_said : List Record → Record → List Act
record_said before (records.Note note) = note_said before note
record_said before (records.Point reaches.Goto to) = move_by before to ∷ []
record_said before (records.Point reaches.Godlta to) = move_by before to ∷ []
record_said before (records.Point reaches.Start to) = move_by before to ∷ []
record_said before (records.Contour vertices) = map (cut_by before) vertices
record_said before _ = []

abbrev pub acts_said : List Record → List Record → List Act
acts_said before [] = []
acts_said before (r ∷ rs) = record_said before r ++ acts_said (r ∷ before) rs

-- the units first, and then what each record asks for, in order
abbrev pub acts_of : List Record → List Act
acts_of rs = acts.Units (units_said rs) ∷ acts_said [] rs

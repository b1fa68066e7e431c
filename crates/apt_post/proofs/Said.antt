-- The plan of records is what they ask for, read by themselves.
use Rattle.std.specs.Prelude.{unwrap_or}
use Rattle.std.specs.Option.{option_or}
use Rattle.std.proofs.Common.{refl, ◌≡◌, ap, ◌∙◌, List, [], ◌∷◌, ◌++◌}
use Rattle.apt_words.specs.declared.Units.TheVariants.{Inch}
use Rattle.apt_records.specs.declared.record.Position.{Position}
use Rattle.apt_records.specs.declared.record.Reach.{Reach}
use Rattle.apt_records.specs.declared.record.Reach.TheVariants as reaches
use Rattle.apt_records.specs.declared.record.Note.{Note}
use Rattle.apt_records.specs.declared.record.Note.TheVariants as notes
use Rattle.apt_records.specs.declared.record.Record.{Record}
use Rattle.apt_records.specs.declared.record.Record.TheVariants as records
use Rattle.apt_control.specs.declared.Act.{Act}
use Rattle.apt_post.specs.declared.planning.Pending.{Pending}
use Rattle.apt_post.specs.Plan.{note_acts, point_acts, record_acts, note_pending, point_pending, record_pending, acts_from, note_units, first_units, units_of, plan}
use Rattle.apt_post.specs.Said.{feed_said, is_rapid, has_ended, units_said, note_said, record_said, acts_said, acts_of}

-- what is pending, looked back for
abbrev pub pending_said : List Record → Pending
pending_said before = record { feed = feed_said before; rapid = is_rapid before; ended = has_ended before }

-- ---- what is pending behind a record

note_holds : (before : List Record) (note : Note) → note_pending (pending_said before) note ≡ pending_said (records.Note note ∷ before)
note_holds before (notes.Partno text) = refl
note_holds before (notes.Units units) = refl
note_holds before (notes.Cutter d) = refl
note_holds before (notes.Intol t) = refl
note_holds before (notes.Outtol t) = refl
note_holds before (notes.Feed f) = refl
note_holds before (notes.Do command) = refl
note_holds before notes.Rapid = refl
note_holds before notes.End = refl
note_holds before notes.Fini = refl

point_holds : (before : List Record) (reach : Reach) (to : Position) → point_pending (pending_said before) reach ≡ pending_said (records.Point reach to ∷ before)
point_holds before reaches.From to = refl
point_holds before reaches.Goto to = refl
point_holds before reaches.Godlta to = refl
point_holds before reaches.Start to = refl

pub record_holds : (before : List Record) (r : Record) → record_pending (pending_said before) r ≡ pending_said (r ∷ before)
record_holds before (records.Statement line step) = refl
record_holds before (records.Note note) = note_holds before note
record_holds before (records.Drive surface side sense) = refl
record_holds before (records.Check surface how) = refl
record_holds before (records.Point reach to) = point_holds before reach to
record_holds before (records.Contour vertices) = refl

-- ---- what a record asks for

note_asks : (before : List Record) (note : Note) → note_acts (pending_said before) note ≡ note_said before note
note_asks before (notes.Partno text) = refl
note_asks before (notes.Units units) = refl
note_asks before (notes.Cutter d) = refl
note_asks before (notes.Intol t) = refl
note_asks before (notes.Outtol t) = refl
note_asks before (notes.Feed f) = refl
note_asks before (notes.Do command) = refl
note_asks before notes.Rapid = refl
note_asks before notes.End = refl
note_asks before notes.Fini = refl

point_asks : (before : List Record) (reach : Reach) (to : Position) → point_acts (pending_said before) reach to ≡ record_said before (records.Point reach to)
point_asks before reaches.From to = refl
point_asks before reaches.Goto to = refl
point_asks before reaches.Godlta to = refl
point_asks before reaches.Start to = refl

pub record_asks : (before : List Record) (r : Record) → record_acts (pending_said before) r ≡ record_said before r
record_asks before (records.Statement line step) = refl
record_asks before (records.Note note) = note_asks before note
record_asks before (records.Drive surface side sense) = refl
record_asks before (records.Check surface how) = refl
record_asks before (records.Point reach to) = point_asks before reach to
record_asks before (records.Contour vertices) = refl

acts_are : (before rs : List Record) → acts_from (pending_said before) rs ≡ acts_said before rs
acts_are before [] = refl
acts_are before (r ∷ rs) =
    ap (λ (p : Pending). record_acts (pending_said before) r ++ acts_from p rs) (record_holds before r)
    ∙ ap (λ (acts : List Act). acts ++ acts_from (pending_said (r ∷ before)) rs) (record_asks before r)
    ∙ ap (λ (acts : List Act). record_said before r ++ acts) (acts_are (r ∷ before) rs)

-- ---- the units

note_first : (note : Note) (more : List Record) → unwrap_or (first_units more) Inch ≡ units_said more → unwrap_or (option_or (note_units note) (first_units more)) Inch ≡ units_said (records.Note note ∷ more)
note_first (notes.Partno text) more is = is
note_first (notes.Units units) more is = refl
note_first (notes.Cutter d) more is = is
note_first (notes.Intol t) more is = is
note_first (notes.Outtol t) more is = is
note_first (notes.Feed f) more is = is
note_first (notes.Do command) more is = is
note_first notes.Rapid more is = is
note_first notes.End more is = is
note_first notes.Fini more is = is

pub units_are : (rs : List Record) → units_of rs ≡ units_said rs
units_are [] = refl
units_are (records.Statement line step ∷ rs) = units_are rs
units_are (records.Note note ∷ rs) = note_first note rs (units_are rs)
units_are (records.Drive surface side sense ∷ rs) = units_are rs
units_are (records.Check surface how ∷ rs) = units_are rs
units_are (records.Point reach to ∷ rs) = units_are rs
units_are (records.Contour vertices ∷ rs) = units_are rs

pub plan_said : (rs : List Record) → plan rs ≡ acts_of rs
plan_said rs = rw (units_are rs, acts_are [] rs) refl

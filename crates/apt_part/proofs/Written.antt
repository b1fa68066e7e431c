-- The acts of records that the compiler makes can be written.
use Rattle.std.proofs.Common.{◌≡◌, ◌∙◌, ◌+◌, ◌≤◌, ℕ, ℤ, pos, negsuc, zero, suc, ◌≤ℤ◌, int_lt, not, ◌||◌, Bool, true, false, List, [], ◌∷◌, map, Option, Some, None, Ok, refl, sym, subst, cond, arith}
use Rattle.std.proofs.lemmas.Int.{ints}
use Rattle.std.proofs.lemmas.Bool.{true≢false}
use Rattle.apt_words.specs.declared.Command.TheVariants as commands
use Rattle.apt_words.specs.declared.Case.{Case}
use Rattle.apt_words.specs.declared.Case.TheVariants as cases
use Rattle.apt_words.specs.declared.Refusal.{Refusal}
use Rattle.apt_words.specs.Asks.{Ask, Titles, Says, Sets, Defines, Goes, Cuts, Nothing, ask_of}
use Rattle.apt_words.specs.declared.Turn.{Turn}
use Rattle.apt_words.specs.declared.Turn.TheVariants as spins
use Rattle.apt_words.specs.declared.ask.Saying.{Saying}
use Rattle.apt_words.specs.declared.ask.Saying.TheVariants as sayings
use Rattle.apt_words.specs.declared.deed.Step.{Step}
use Rattle.apt_words.specs.Rows.{first_of}
use Rattle.apt_words.specs.Sources.{AreExecuted}
use Rattle.apt_scalar.specs.Scalars.{tenths, whole}
use Rattle.apt_plane.specs.declared.figures.Pt.{Pt}
use Rattle.apt_records.specs.declared.record.Position.{Position}
use Rattle.apt_records.specs.declared.record.Reach.{Reach}
use Rattle.apt_records.specs.declared.record.Reach.TheVariants as reaches
use Rattle.apt_records.specs.declared.record.Note.{Note}
use Rattle.apt_records.specs.declared.record.Note.TheVariants as notes
use Rattle.apt_records.specs.declared.record.Record.{Record}
use Rattle.apt_records.specs.declared.record.Record.TheVariants as records
use Rattle.apt_records.specs.Ranges.{IsFromTo, greatest, IsNote, IsPosition, ArePositions, AreRecords}
use Rattle.apt_meaning.specs.declared.situation.Settings.{Settings}
use Rattle.apt_meaning.specs.declared.situation.Situation.{Situation}
use Rattle.apt_meaning.specs.declared.effect.Change.{Change}
use Rattle.apt_meaning.specs.declared.effect.Change.TheVariants as changes
use Rattle.apt_meaning.specs.declared.effect.Effect.{Effect}
use Rattle.apt_meaning.specs.declared.effect.Effect.TheVariants as effects
use Rattle.apt_meaning.specs.Situations.{has_feed, lacks_feed, settings_with, changed, settings_behind}
use Rattle.apt_meaning.specs.Effects.{note_of, effect_of}
use Rattle.apt_meaning.specs.Refusals.{refusal_of, cases_of}
use Rattle.apt_records.specs.Vertices.{at_height}
use Rattle.apt_meaning.specs.Records.{with_statement, change_records, cut_record, effect_records, records_of, after}
use Rattle.apt_meaning.specs.Compiled.{ends_of, points_of, point_number, compilation_behind}
use Rattle.apt_meaning.specs.Ranges.{IsChange, IsSituation, IsEffect}
use Rattle.apt_scalar.specs.StepScalars.{AreScalars}
use Rattle.apt_words.proofs.Rows.{first_none}
use Rattle.apt_meaning.proofs.Said.{IsNoteOf, IsSetBy, IsSaidBy, said_by}
use Rattle.apt_meaning.proofs.Fed.{IsFed, fed}
use Rattle.apt_meaning.proofs.Asked.{answered}
use Rattle.apt_meaning.proofs.Walks.Kept.{kept, records_in}
use Rattle.apt_meaning.proofs.Walks.Compiled.{done, front_ok, nothing_left, fit, after_points, behind_step}
use Rattle.apt_machine.specs.declared.machine.Machine.{Machine}
use Rattle.apt_machine.specs.Machines.{IsMachine}
use Rattle.apt_control.specs.declared.Act.{Act}
use Rattle.apt_control.specs.declared.Act.TheVariants as acts
use Rattle.apt_post.specs.declared.planning.Pending.{Pending}
use Rattle.apt_post.specs.Limits.{is_past, saying_limits, ask_limits, machine_cases, refused_by, limits}
use Rattle.apt_post.specs.Plan.{cut_to, move_to}
use Rattle.apt_post.specs.Blocks.{IsUpTo, CanWrite}
use Rattle.apt_post.specs.Writing.{CanWriteAll, AreWritten, pending_behind}
use Rattle.apt_post.proofs.Programs.{written-append}

-- what is pending is what the settings say: the feed, and whether RAPID is pending
pub record Agrees (p : Pending) (s : Settings) : Type 0 where
  pub feed : p.feed ≡ s.feed
  pub rapid : p.rapid ≡ s.rapid

-- a feed that a block has room for, or none
pub record HasRoom (s : Settings) : Type 0 where
  pub most : s.feed ≤ℤ pos 9999

-- ---- acts

up_to : (v : ℤ) → not (int_lt (pos 0) v) ≡ false → v ≤ℤ pos 9999 → IsUpTo 9999 v
up_to (pos zero) some most = absurd (true≢false some)
up_to (pos (suc n)) some most = (refl, omega arith, omega (arith, ints, most))
up_to (negsuc n) some most = absurd (true≢false some)

written_cut : (p : Pending) (s : Settings) (to : Position) → Agrees p s → HasRoom s → IsPosition to → not (has_feed s) ≡ false → CanWrite (cut_to p to)
written_cut p s to agrees room is some = ((is.xy.x, is.xy.y, is.z), subst (IsUpTo 9999) (sym agrees.feed) (up_to s.feed some room.most))

written_cuts : (p : Pending) (s : Settings) (vs : List Position) → Agrees p s → HasRoom s → ArePositions vs → not (has_feed s) ≡ false → CanWriteAll (map (cut_to p) vs)
written_cuts p s [] agrees room are some = tt
written_cuts p s (v ∷ vs) agrees room are some = (written_cut p s v agrees room are.0 some, written_cuts p s vs agrees room are.1 some)

feed_or_rapid : (has rapid : Bool) → not (has || rapid) ≡ false → rapid ≡ false → not has ≡ false
feed_or_rapid true rapid on slow = refl
feed_or_rapid false true on slow = absurd (true≢false slow)
feed_or_rapid false false on slow = on

either_move : (rapid : Bool) (a b : Act) → (rapid ≡ true → CanWrite a) → (rapid ≡ false → CanWrite b) → CanWrite (cond rapid a b)
either_move true a b fast slow = fast refl
either_move false a b fast slow = slow refl

written_move : (p : Pending) (s : Settings) (to : Position) → Agrees p s → HasRoom s → IsPosition to → lacks_feed s ≡ false → CanWrite (move_to p to)
written_move p s to agrees room is on =
    either_move p.rapid _ _ (λ _. (is.xy.x, is.xy.y, is.z)) (λ slow. written_cut p s to agrees room is (feed_or_rapid (has_feed s) s.rapid on (sym agrees.rapid ∙ slow)))

-- ---- the records of an effect

-- a number that is not past the greatest of a machine
not_past : (limit most : ℕ) (v : ℤ) → limit ≤ most → is_past limit v ≡ false → v ≤ℤ pos most
not_past limit most v small e = grind (arith, ints, small)

no_case : (b : Bool) (case : Case) → cond b (Some case) None ≡ None → b ≡ false
no_case true case e = absurd cc
no_case false case e = refl

-- records whose acts can be written, and what they leave pending
pub record Leaves (p : Pending) (rs : List Record) (s : Settings) : Type 0 where
  pub can : AreWritten p rs
  pub agrees : Agrees (pending_behind p rs) s
  pub room : HasRoom s

-- the end is written or not
end_written : (ended : Bool) (p : Pending) → CanWriteAll (cond ended [] (acts.End ∷ []))
end_written true p = tt
end_written false p = (tt, tt)

with_feed : (p : Pending) (s : Settings) (f : ℤ) → Agrees p s → f ≤ℤ pos 9999 → Leaves p (records.Note (notes.Feed f) ∷ []) (record s { feed = f })
with_feed p s f agrees most = record { can = (tt, tt); agrees = record { feed = refl; rapid = agrees.rapid }; room = record { most = most } }

-- a number from 1 up that the machine takes
at_least_one : (most : ℕ) (n : ℤ) → IsFromTo (pos 1) greatest n → n ≤ℤ pos most → IsUpTo most n
at_least_one most (pos n) range h = (refl, omega (arith, ints, range.0), omega (arith, ints, h))
at_least_one most (negsuc n) range h = absurd (omega (arith, ints, range.0))

spun_written : (p : Pending) (s : Settings) (turn : Turn) (n : ℤ) → Agrees p s → HasRoom s → CanWrite (acts.Do (commands.Spindle turn n)) → Leaves p (records.Note (notes.Do (commands.Spindle turn n)) ∷ []) s
spun_written p s turn n agrees room can = record { can = ((can, tt), tt); agrees = agrees; room = room }

-- a number that the machine takes
taken_number : (limit most : ℕ) (n : ℤ) (case : Case) → limit ≤ most → first_of ((is_past limit n, case) ∷ []) ≡ None → n ≤ℤ pos most
taken_number limit most n case small takes = not_past limit most n small (no_case (is_past limit n) case takes)

-- a note that the machine takes
saying_written : (machine : Machine) (p : Pending) (s : Settings) (saying : Saying) → IsMachine machine → Agrees p s → HasRoom s
    → first_of (saying_limits machine saying) ≡ None → IsNote (note_of s.units saying) → Leaves p (records.Note (note_of s.units saying) ∷ []) (settings_with s (note_of s.units saying))
saying_written machine p s (sayings.Units units) is agrees room takes good = record { can = (tt, tt); agrees = record { feed = agrees.feed; rapid = agrees.rapid }; room = record { most = room.most } }
saying_written machine p s (sayings.Diameter v) is agrees room takes good = record { can = (tt, tt); agrees = record { feed = agrees.feed; rapid = agrees.rapid }; room = record { most = room.most } }
saying_written machine p s (sayings.Inward v) is agrees room takes good = record { can = (tt, tt); agrees = record { feed = agrees.feed; rapid = agrees.rapid }; room = record { most = room.most } }
saying_written machine p s (sayings.Outward v) is agrees room takes good = record { can = (tt, tt); agrees = record { feed = agrees.feed; rapid = agrees.rapid }; room = record { most = room.most } }
saying_written machine p s (sayings.Feed v) is agrees room takes good = with_feed p s (tenths v) agrees (taken_number machine.feedmax 9999 (tenths v) cases.FeedTooLarge is.feed takes)
saying_written machine p s (sayings.Do (commands.Spindle spins.Cw n)) is agrees room takes good =
    spun_written p s spins.Cw (whole n) agrees room (at_least_one 9999 (whole n) good (taken_number machine.spinmax 9999 (whole n) cases.SpindleTooLarge is.spindle takes))
saying_written machine p s (sayings.Do (commands.Spindle spins.Ccw n)) is agrees room takes good =
    spun_written p s spins.Ccw (whole n) agrees room (at_least_one 9999 (whole n) good (taken_number machine.spinmax 9999 (whole n) cases.SpindleTooLarge is.spindle takes))
saying_written machine p s (sayings.Do (commands.Spindle spins.Off n)) is agrees room takes good = spun_written p s spins.Off (pos 0) agrees room refl
saying_written machine p s (sayings.Do (commands.Coolant cool)) is agrees room takes good = record { can = ((tt, tt), tt); agrees = agrees; room = room }
saying_written machine p s (sayings.Do (commands.Tool n)) is agrees room takes good =
    record { can = ((at_least_one 99 (whole n) good (taken_number machine.toolmax 99 (whole n) cases.ToolTooLarge is.tool takes), tt), tt); agrees = agrees; room = room }
saying_written machine p s sayings.Rapid is agrees room takes good = record { can = (tt, tt); agrees = record { feed = agrees.feed; rapid = refl }; room = record { most = room.most } }
saying_written machine p s (sayings.Do commands.Stop) is agrees room takes good = record { can = ((tt, tt), tt); agrees = agrees; room = room }
saying_written machine p s (sayings.Do commands.OptStop) is agrees room takes good = record { can = ((tt, tt), tt); agrees = agrees; room = room }
saying_written machine p s sayings.End is agrees room takes good = record { can = (end_written p.ended p, tt); agrees = record { feed = agrees.feed; rapid = agrees.rapid }; room = record { most = room.most } }
saying_written machine p s sayings.Fini is agrees room takes good = record { can = (end_written p.ended p, tt); agrees = record { feed = agrees.feed; rapid = agrees.rapid }; room = room }

note_written : (machine : Machine) (p : Pending) (s : Settings) (ask : Ask) (note : Note) → IsMachine machine → Agrees p s → HasRoom s
    → first_of (ask_limits machine ask) ≡ None → IsNoteOf s.units ask note → IsNote note → Leaves p (records.Note note ∷ []) (settings_with s note)
note_written machine p s (Titles text) note is agrees room takes said good = rw said (record { can = (tt, tt); agrees = agrees; room = room })
note_written machine p s (Says saying) note is agrees room takes said good = rw said (saying_written machine p s saying is agrees room takes (subst IsNote said good))
note_written machine p s (Sets side) note is agrees room takes said good = absurd said
note_written machine p s (Defines name form) note is agrees room takes said good = absurd said
note_written machine p s (Goes route) note is agrees room takes said good = absurd said
note_written machine p s (Cuts contour n) note is agrees room takes said good = absurd said
note_written machine p s Nothing note is agrees room takes said good = absurd said

moved : (p : Pending) (s : Settings) (reach : Reach) (to : Position) → Agrees p s → HasRoom s → IsPosition to → IsFed s (effects.Moves reach to)
    → Leaves p (records.Point reach to ∷ []) (settings_behind reach s)
moved p s reaches.From to agrees room is on = record { can = (tt, tt); agrees = agrees; room = room }
moved p s reaches.Goto to agrees room is on = record { can = ((written_move p s to agrees room is on, tt), tt); agrees = record { feed = agrees.feed; rapid = refl }; room = record { most = room.most } }
moved p s reaches.Godlta to agrees room is on = record { can = ((written_move p s to agrees room is on, tt), tt); agrees = record { feed = agrees.feed; rapid = refl }; room = record { most = room.most } }
moved p s reaches.Start to agrees room is on = record { can = ((written_move p s to agrees room is on, tt), tt); agrees = record { feed = agrees.feed; rapid = refl }; room = record { most = room.most } }

nothing_written : (p : Pending) (s t : Settings) → Agrees p s → HasRoom s → t.feed ≡ s.feed → t.rapid ≡ s.rapid → Leaves p [] t
nothing_written p s t agrees room f r =
    record { can = tt; agrees = record { feed = agrees.feed ∙ sym f; rapid = agrees.rapid ∙ sym r }; room = record { most = subst (λ (g : ℤ). g ≤ℤ pos 9999) (sym f) room.most } }

change_written : (machine : Machine) (p : Pending) (s : Settings) (ask : Ask) (change : Change) → IsMachine machine → Agrees p s → HasRoom s
    → first_of (ask_limits machine ask) ≡ None → IsSetBy s.units ask change → IsChange change → Leaves p (change_records change) (changed s change)
change_written machine p s ask (changes.Said note) is agrees room takes says good = note_written machine p s ask note is agrees room takes says good
change_written machine p s ask (changes.Side side) is agrees room takes says good = nothing_written p s (record s { side = side }) agrees room refl refl
change_written machine p s ask changes.Nothing is agrees room takes says good = nothing_written p s s agrees room refl refl

-- the legs of a contour
legs_written : (p : Pending) (s : Settings) (z : ℤ) (cuts : List (List Pt)) → Agrees p s → HasRoom s → AreRecords (map (cut_record z) cuts) → not (has_feed s) ≡ false
    → Leaves p (map (cut_record z) cuts) s
legs_written p s z [] agrees room are some = record { can = tt; agrees = agrees; room = room }
legs_written p s z (vertices ∷ cuts) agrees room are some =
    let more = legs_written p s z cuts agrees room are.1 some in
    record { can = (written_cuts p s (map (at_height z) vertices) agrees room are.0.1 some, more.can); agrees = more.agrees; room = more.room }

said_written : (machine : Machine) (p : Pending) (here : Situation) (ask : Ask) (e : Effect) (cuts : List (List Pt)) → IsMachine machine → Agrees p here.settings → HasRoom here.settings
    → first_of (ask_limits machine ask) ≡ None → IsSaidBy here ask e → IsFed here.settings e → IsEffect e → AreRecords (effect_records e cuts)
    → Leaves p (effect_records e cuts) (after here e cuts).settings
said_written machine p here ask (effects.Defines n f) cuts is agrees room takes says on good in_range = nothing_written p here.settings here.settings agrees room refl refl
said_written machine p here ask (effects.Sets change) cuts is agrees room takes says on good in_range = change_written machine p here.settings ask change is agrees room takes says good
said_written machine p here ask (effects.Moves reach to) cuts is agrees room takes says on good in_range = moved p here.settings reach to agrees room in_range.0 on
said_written machine p here ask (effects.Cuts m legs) cuts is agrees room takes says on good in_range =
    let more = legs_written p here.settings m.start.z cuts agrees room in_range.1.1 on in
    record { can = (tt, (tt, more.can)); agrees = record { feed = more.agrees.feed; rapid = more.agrees.rapid }; room = record { most = room.most } }

statement_written : (p : Pending) (step : Step) (rs : List Record) (s : Settings) → Leaves p rs s → Leaves p (with_statement step rs) s
statement_written p step [] s leaves = leaves
statement_written p step (r ∷ rs) s leaves = record { can = (tt, leaves.can); agrees = leaves.agrees; room = leaves.room }

without_statement : (step : Step) (rs : List Record) → AreRecords (with_statement step rs) → AreRecords rs
without_statement step [] are = tt
without_statement step (r ∷ rs) are = are.1

-- ---- the records of steps

taken : (st : Step) (own : Option Case) (more : Option Refusal) → refused_by st own more ≡ None → (own ≡ None) × (more ≡ None)
taken st None more none = (refl, none)
taken st (Some case) more none = absurd cc

pub compiled_written : (machine : Machine) (p : Pending) (so_far : ℕ) (here : Situation) (steps : List Step) (written : List Record) → IsMachine machine → Agrees p here.settings → HasRoom here.settings
    → IsSituation here → AreScalars steps → AreExecuted steps → limits machine steps ≡ None → compilation_behind so_far here steps ≡ Ok written → AreWritten p written
compiled_written machine p so_far here [] written is agrees room good numbers sources within h = rw (nothing_left written h) tt
compiled_written machine p so_far here (step ∷ steps) written is agrees room good numbers sources within h =
    let d = done so_far step (refusal_of here step.deed) (effect_of here step.deed) (behind_step so_far here step steps) written h in
    let e = d.e in
    let n = so_far + point_number e in
    let rs = effect_records e (points_of e) in
    let takes = taken step (first_of (machine_cases machine step.deed)) (limits machine steps) within in
    let ok = fit (effect_of here step.deed) e d.asked (answered here step.deed good numbers.0 sources.0.text d.fine) in
    let f = front_ok (records_of step e (points_of e)) (compilation_behind n (after here e (ends_of e)) steps) written d.rest in
    let same = sym (after_points here e ok.ends) in
    let said = said_written machine p here (ask_of step.deed) e (points_of e) is agrees room takes.0 (said_by here step.deed e d.asked) (fed here step.deed e d.asked (first_none (cases_of here step.deed) d.fine)) ok.good
    (without_statement step rs (records_in step e (points_of e) sources.0 ok.good ok.within)) in
    let leaves = subst (λ (x : Situation). Leaves p (records_of step e (points_of e)) x.settings) same (statement_written p step rs (after here e (points_of e)).settings said) in
    let behind = subst IsSituation same (kept here e (points_of e) good ok.good ok.within) in
    let more = compiled_written machine (pending_behind p (records_of step e (points_of e))) n (after here e (ends_of e)) steps f.0 is leaves.agrees leaves.room behind numbers.1 sources.1 takes.1 f.1 in
    rw f.2 (written-append p (records_of step e (points_of e)) f.0 leaves.can more)

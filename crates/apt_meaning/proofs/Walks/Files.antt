-- The compiler's records fit a CL file: their words fit its lengths, they are few, their bytes are few, and FINI stands last.
use Rattle.std.proofs.Common.{◌≡◌, ℕ, ◌+◌, ◌*◌, ◌≤◌, ℤ, pos, List, [], ◌∷◌, ◌++◌, length, map, Option, Some, None, IfSome, Result, Ok, Err, refl, arith}
use Rattle.std.proofs.lemmas.List.{length-map, length-append}
use Rattle.apt_words.specs.declared.Case.{Case}
use Rattle.apt_words.specs.declared.Side.{Side}
use Rattle.apt_words.specs.declared.Stop.{Stop}
use Rattle.apt_words.specs.declared.Units.{Units}
use Rattle.apt_words.specs.declared.ask.Form.{Form}
use Rattle.apt_words.specs.declared.ask.Route.{Route}
use Rattle.apt_words.specs.declared.ask.Route.TheVariants as routes
use Rattle.apt_words.specs.declared.ask.Saying.{Saying}
use Rattle.apt_words.specs.declared.Command.{Command}
use Rattle.apt_words.specs.declared.Command.TheVariants as commands
use Rattle.apt_words.specs.declared.ask.Saying.TheVariants as sayings
use Rattle.apt_words.specs.declared.deed.Deed.{Deed}
use Rattle.apt_words.specs.declared.deed.Step.{Step}
use Rattle.apt_words.specs.Asks.{Ask, Titles, Says, Sets, Defines, Goes, Cuts, Nothing, ask_of}
use Rattle.apt_words.specs.Sources.{AskHasText, AreExecuted}
use Rattle.apt_words.specs.Contours.{contour_by, contours}
use Rattle.apt_words.proofs.Titles.{asked_title, title_length, title_lengths}
use Rattle.apt_plane.specs.declared.figures.Pt.{Pt}
use Rattle.apt_plane.specs.declared.figures.Surface.{Surface}
use Rattle.apt_plane.specs.declared.figures.Surface.TheVariants as surfaces
use Rattle.apt_records.specs.declared.record.Note.{Note}
use Rattle.apt_records.specs.declared.record.Note.TheVariants as notes
use Rattle.apt_records.specs.declared.record.Position.{Position}
use Rattle.apt_records.specs.declared.record.Reach.{Reach}
use Rattle.apt_records.specs.declared.record.Reach.TheVariants as reaches
use Rattle.apt_records.specs.declared.record.Record.{Record}
use Rattle.apt_records.specs.declared.record.Record.TheVariants as records
use Rattle.apt_records.specs.Ranges.{vertex_count}
use Rattle.apt_records.specs.Lists.{IsShort, AreShort}
use Rattle.apt_records.proofs.Conditions.{short_when}
use Rattle.apt_records.proofs.Lengths.{triples_length, bytes_in, bytes_of, bytes_of-append}
use Rattle.apt_defs.specs.declared.figure.Figure.{Figure}
use Rattle.apt_defs.specs.Definitions.{figure_of}
use Rattle.apt_meaning.specs.declared.situation.Situation.{Situation}
use Rattle.apt_meaning.specs.declared.effect.Change.{Change}
use Rattle.apt_meaning.specs.declared.effect.Change.TheVariants as changes
use Rattle.apt_meaning.specs.declared.effect.Effect.{Effect}
use Rattle.apt_meaning.specs.declared.effect.Effect.TheVariants as effects
use Rattle.apt_records.specs.Vertices.{at_height}
use Rattle.apt_meaning.specs.declared.motion.Motion.{Motion}
use Rattle.apt_stop.specs.declared.legs.Legs.{Legs}
use Rattle.apt_stop.specs.declared.legs.Legs.TheVariants as legs
use Rattle.apt_meaning.specs.Cuts.{vertices_of, motions_of}
use Rattle.apt_meaning.specs.Effects.{rounded, note_of, moves, place_at, moved_from, goes, names, defined, effect_by, effect_of}
use Rattle.apt_meaning.specs.Refusals.{refusal_of}
use Rattle.apt_meaning.specs.StartUps.{start_position_at}
use Rattle.apt_meaning.specs.Records.{with_statement, change_records, cut_record, effect_records, records_of, after}
use Rattle.apt_meaning.specs.Vertices.{cut_points}
use Rattle.apt_meaning.specs.Compiled.{ends_of, points_of, point_number, most_points, compilation_behind}
use Rattle.apt_meaning.proofs.Said.{IsNoteOf, IsSetBy, IsSaidBy, of_some, said_by}
use Rattle.apt_meaning.proofs.Walks.Compiled.{done, front_ok, nothing_left, behind_step}

-- ---- one record

-- a title has at most 256 bytes
title_short : (text : List ℕ) → length text ≤ 256 → IsShort (records.Note (notes.Partno text))
title_short text h = omega (arith, h, length-map text pos)

command_short : (command : Command) → IsShort (records.Note (notes.Do command))
command_short (commands.Spindle turn n) = omega arith
command_short (commands.Coolant c) = omega arith
command_short (commands.Tool n) = omega arith
command_short commands.Stop = omega arith
command_short commands.OptStop = omega arith

saying_short : (units : Units) (saying : Saying) → IsShort (records.Note (note_of units saying))
saying_short units (sayings.Units others) = omega arith
saying_short units (sayings.Do command) = command_short (rounded command)
saying_short units _ = omega arith

note_short : (units : Units) (ask : Ask) (note : Note) → AskHasText ask → IsNoteOf units ask note → IsShort (records.Note note)
note_short units (Titles text) note titled said = rw said (title_short text titled.1)
note_short units (Says saying) note titled said = rw said (saying_short units saying)
note_short units (Sets side) note titled said = absurd said
note_short units (Defines name form) note titled said = absurd said
note_short units (Goes route) note titled said = absurd said
note_short units (Cuts contour n) note titled said = absurd said
note_short units Nothing note titled said = absurd said

drive_short : (s : Surface) (side : Side) (sense : ℤ) → IsShort (records.Drive s side sense)
drive_short (surfaces.Line l) side sense = omega arith
drive_short (surfaces.Circ c) side sense = omega arith

check_short : (s : Surface) (how : Stop) → IsShort (records.Check s how)
check_short (surfaces.Line l) how = omega arith
check_short (surfaces.Circ c) how = omega arith

-- and a contour the vertices that a program may have
contour_short : (z : ℤ) (vertices : List Pt) → length vertices ≤ most_points → IsShort (records.Contour (map (at_height z) vertices))
contour_short z vertices few = short_when (records.Contour (map (at_height z) vertices)) (omega (arith, few, length-map vertices (at_height z)))

-- ---- contours

abbrev effect_contours : Effect → ℕ
effect_contours (effects.Defines n f) = 0
effect_contours (effects.Sets change) = 0
effect_contours (effects.Moves reach to) = 0
effect_contours (effects.Cuts m n) = 1

-- what a step does is a contour only where it asks for one
abbrev IsAskedBy : Ask → Effect → Type 0
IsAskedBy ask e = effect_contours e ≤ contour_by ask

names_asked : (ask : Ask) (n : List ℕ) (r : Result Figure Case) → IfSome (names n r) (IsAskedBy ask)
names_asked ask n (Ok f) = omega arith
names_asked ask n (Err case) = tt

defined_asked : (here : Situation) (ask : Ask) (n : List ℕ) (form : Form) → IfSome (defined here n form) (IsAskedBy ask)
unfolding defined
defined_asked here ask n form = names_asked ask n (figure_of here.settings.units here.table form)

moves_asked : (ask : Ask) (reach : Reach) (o : Option Position) → IfSome (moves reach o) (IsAskedBy ask)
moves_asked ask reach None = tt
moves_asked ask reach (Some to) = omega arith

goes_asked : (here : Situation) (ask : Ask) (route : Route) → IfSome (goes here route) (IsAskedBy ask)
goes_asked here ask (routes.From place) = moves_asked ask reaches.From (place_at here place)
goes_asked here ask (routes.Goto place) = moves_asked ask reaches.Goto (place_at here place)
goes_asked here ask (routes.By x y z) = moves_asked ask reaches.Godlta (moved_from here x y z)
goes_asked here ask (routes.Start how name other) = moves_asked ask reaches.Start (start_position_at here how name other)

one_at_most : (e : Effect) → effect_contours e ≤ 1
one_at_most (effects.Cuts m n) = omega arith
one_at_most _ = omega arith

any_asked : (o : Option Effect) → IfSome o (λ e. effect_contours e ≤ 1)
any_asked None = tt
any_asked (Some e) = one_at_most e

ask_asked : (here : Situation) (ask : Ask) → IfSome (effect_by here ask) (IsAskedBy ask)
ask_asked here (Titles text) = omega arith
ask_asked here (Says saying) = omega arith
ask_asked here (Sets side) = omega arith
ask_asked here (Defines name form) = defined_asked here (Defines name form) name form
ask_asked here (Goes route) = goes_asked here (Goes route) route
ask_asked here (Cuts contour n) = any_asked (effect_by here (Cuts contour n))
ask_asked here Nothing = omega arith

asked_by : (here : Situation) (deed : Deed) (e : Effect) → effect_of here deed ≡ Some e → IsAskedBy (ask_of deed) e
asked_by here deed e is = of_some (IsAskedBy (ask_of deed)) (effect_of here deed) e is (ask_asked here (ask_of deed))

-- ---- the records of a step: short ones, at most five, with its vertices

change_short : (units : Units) (ask : Ask) (change : Change) → AskHasText ask → IsSetBy units ask change → AreShort (change_records change)
change_short units ask (changes.Said note) titled said = (note_short units ask note titled said, tt)
change_short units ask (changes.Side side) titled said = tt
change_short units ask changes.Nothing titled said = tt

cuts_short : (z : ℤ) (cuts : List (List Pt)) → cut_points cuts ≤ most_points → AreShort (map (cut_record z) cuts)
cuts_short z [] few = tt
cuts_short z (vertices ∷ cuts) few = (contour_short z vertices (omega (arith, few)), cuts_short z cuts (omega (arith, few)))

effect_short : (here : Situation) (ask : Ask) (e : Effect) (cuts : List (List Pt)) → AskHasText ask → IsSaidBy here ask e → cut_points cuts ≤ most_points → AreShort (effect_records e cuts)
effect_short here ask (effects.Defines n f) cuts titled said few = tt
effect_short here ask (effects.Sets change) cuts titled said few = change_short here.settings.units ask change titled said
effect_short here ask (effects.Moves reach to) cuts titled said few = (omega arith, tt)
effect_short here ask (effects.Cuts m n) cuts titled said few = (drive_short m.drive m.side m.sense, (check_short m.check m.how, cuts_short m.start.z cuts few))

with_statement-short : (step : Step) (rs : List Record) → AreShort rs → AreShort (with_statement step rs)
with_statement-short step [] are = tt
with_statement-short step (r ∷ rs) are = (omega arith, are)

-- a contour has two legs at most
few_legs : (m : Motion) (n : Legs) → length (map vertices_of (motions_of m n)) ≤ 2
few_legs m legs.One = omega arith
few_legs m legs.Two = omega arith

few_cuts : (e : Effect) → length (points_of e) ≤ 2 * effect_contours e
few_cuts (effects.Defines n f) = omega arith
few_cuts (effects.Sets change) = omega arith
few_cuts (effects.Moves reach to) = omega arith
few_cuts (effects.Cuts m n) = few_legs m n

few_records : (step : Step) (e : Effect) (cuts : List (List Pt)) → length (records_of step e cuts) ≤ 3 + length cuts
few_records step (effects.Defines n f) cuts = omega arith
few_records step (effects.Sets (changes.Said note)) cuts = omega arith
few_records step (effects.Sets (changes.Side side)) cuts = omega arith
few_records step (effects.Sets changes.Nothing) cuts = omega arith
few_records step (effects.Moves reach to) cuts = omega arith
few_records step (effects.Cuts m n) cuts = omega (arith, length-map cuts (cut_record m.start.z))

cut_vertices : (z : ℤ) (cuts : List (List Pt)) → vertex_count (map (cut_record z) cuts) ≡ cut_points cuts
cut_vertices z [] = refl
cut_vertices z (vertices ∷ cuts) = omega (arith, length-map vertices (at_height z), cut_vertices z cuts)

pub step_vertices : (step : Step) (e : Effect) → vertex_count (records_of step e (points_of e)) ≡ point_number e
step_vertices step (effects.Defines n f) = refl
step_vertices step (effects.Sets (changes.Said note)) = refl
step_vertices step (effects.Sets (changes.Side side)) = refl
step_vertices step (effects.Sets changes.Nothing) = refl
step_vertices step (effects.Moves reach to) = refl
step_vertices step (effects.Cuts m n) = omega (arith, cut_vertices m.start.z (points_of (effects.Cuts m n)))

-- ---- the bytes of a step

command_bytes : (command : Command) → bytes_in (records.Note (notes.Do command)) ≤ 44
command_bytes (commands.Spindle turn n) = omega arith
command_bytes (commands.Coolant c) = omega arith
command_bytes (commands.Tool n) = omega arith
command_bytes commands.Stop = omega arith
command_bytes commands.OptStop = omega arith

saying_bytes : (units : Units) (saying : Saying) → bytes_in (records.Note (note_of units saying)) ≤ 44
saying_bytes units (sayings.Units others) = omega arith
saying_bytes units (sayings.Do command) = command_bytes (rounded command)
saying_bytes units _ = omega arith

note_bytes : (units : Units) (ask : Ask) (note : Note) → IsNoteOf units ask note → bytes_in (records.Note note) ≤ 44 + 8 * asked_title ask
note_bytes units (Titles text) note said = rw said (omega (arith, length-map text pos))
note_bytes units (Says saying) note said = rw said (omega (arith, saying_bytes units saying))
note_bytes units (Sets side) note said = absurd said
note_bytes units (Defines name form) note said = absurd said
note_bytes units (Goes route) note said = absurd said
note_bytes units (Cuts contour n) note said = absurd said
note_bytes units Nothing note said = absurd said

drive_bytes : (s : Surface) (side : Side) (sense : ℤ) → bytes_in (records.Drive s side sense) ≤ 84
drive_bytes (surfaces.Line l) side sense = omega arith
drive_bytes (surfaces.Circ c) side sense = omega arith

check_bytes : (s : Surface) (how : Stop) → bytes_in (records.Check s how) ≤ 76
check_bytes (surfaces.Line l) how = omega arith
check_bytes (surfaces.Circ c) how = omega arith

contour_bytes : (z : ℤ) (vertices : List Pt) → bytes_in (records.Contour (map (at_height z) vertices)) ≤ 28 + 24 * length vertices
contour_bytes z vertices = omega (arith, triples_length (map (at_height z) vertices), length-map vertices (at_height z))

change_bytes : (units : Units) (ask : Ask) (change : Change) → IsSetBy units ask change → bytes_of (change_records change) ≤ 44 + 8 * asked_title ask
change_bytes units ask (changes.Said note) said = omega (arith, note_bytes units ask note said)
change_bytes units ask (changes.Side side) said = omega arith
change_bytes units ask changes.Nothing said = omega arith

cuts_bytes : (z : ℤ) (cuts : List (List Pt)) → bytes_of (map (cut_record z) cuts) ≤ 28 * length cuts + 24 * cut_points cuts
cuts_bytes z [] = omega arith
cuts_bytes z (vertices ∷ cuts) = omega (arith, contour_bytes z vertices, cuts_bytes z cuts)

effect_bytes : (here : Situation) (ask : Ask) (e : Effect) (cuts : List (List Pt)) → IsSaidBy here ask e
    → bytes_of (effect_records e cuts) ≤ 52 + 108 * effect_contours e + 28 * length cuts + 24 * cut_points cuts + 8 * asked_title ask
effect_bytes here ask (effects.Defines n f) cuts said = omega arith
effect_bytes here ask (effects.Sets change) cuts said = omega (arith, change_bytes here.settings.units ask change said)
effect_bytes here ask (effects.Moves reach to) cuts said = omega arith
effect_bytes here ask (effects.Cuts m n) cuts said = omega (arith, drive_bytes m.drive m.side m.sense, check_bytes m.check m.how, cuts_bytes m.start.z cuts)

with_statement-bytes : (step : Step) (rs : List Record) → bytes_of (with_statement step rs) ≤ 44 + bytes_of rs
with_statement-bytes step [] = omega arith
with_statement-bytes step (r ∷ rs) = omega arith

step_bytes : (here : Situation) (step : Step) (e : Effect) → IsSaidBy here (ask_of step.deed) e → IsAskedBy (ask_of step.deed) e
    → bytes_of (records_of step e (points_of e)) ≤ 96 + 164 * contour_by (ask_of step.deed) + 24 * point_number e + 8 * title_length step.deed
step_bytes here step e said asked = omega (arith, asked, few_cuts e, effect_bytes here (ask_of step.deed) e (points_of e) said, with_statement-bytes step (effect_records e (points_of e)))

-- ---- the records of all steps

short-append : (xs ys : List Record) → AreShort xs → AreShort ys → AreShort (xs ++ ys)
short-append [] ys are more = more
short-append (x ∷ xs) ys are more = (are.0, short-append xs ys are.1 more)

pub vertex_count-append : (xs ys : List Record) → vertex_count (xs ++ ys) ≡ vertex_count xs + vertex_count ys
vertex_count-append [] ys = omega arith
vertex_count-append (x ∷ xs) ys = omega (arith, vertex_count-append xs ys)

-- the records of steps behind so many vertices fit a file
pub record Fit (so_far : ℕ) (steps : List Step) (written : List Record) : Type 0 where
  pub short : AreShort written
  pub number : length written ≤ 5 * length steps
  pub vertices : so_far + vertex_count written ≤ most_points
  pub bytes : bytes_of written ≤ 96 * length steps + 164 * contours steps + 24 * vertex_count written + 8 * title_lengths steps

fit_behind : (so_far : ℕ) (steps : List Step) (step : Step) (e : Effect) (rest : List Record) → AreShort (records_of step e (points_of e))
    → bytes_of (records_of step e (points_of e)) ≤ 96 + 164 * contour_by (ask_of step.deed) + 24 * point_number e + 8 * title_length step.deed → Fit (so_far + point_number e) steps rest
    → Fit so_far (step ∷ steps) (records_of step e (points_of e) ++ rest)
fit_behind so_far steps step e rest are bytes more =
    let front = records_of step e (points_of e) in record {
      short = short-append front rest are more.short;
      number = omega (arith, few_records step e (points_of e), few_cuts e, one_at_most e, more.number, length-append front rest);
      vertices = omega (arith, vertex_count-append front rest, step_vertices step e, more.vertices);
      bytes = omega (arith, bytes_of-append front rest, bytes, more.bytes, vertex_count-append front rest, step_vertices step e);
    }

few_points : (so_far n : ℕ) → so_far + n ≤ most_points → n ≤ most_points
few_points so_far n h = omega (arith, h)

pub compiled_fit : (so_far : ℕ) (here : Situation) (steps : List Step) (written : List Record) → so_far ≤ most_points → AreExecuted steps → compilation_behind so_far here steps ≡ Ok written
    → Fit so_far steps written
compiled_fit so_far here [] written few executed h = rw (nothing_left written h) (record { short = tt; number = omega arith; vertices = omega (arith, few); bytes = omega arith })
compiled_fit so_far here (step ∷ steps) written few executed h =
    let d = done so_far step (refusal_of here step.deed) (effect_of here step.deed) (behind_step so_far here step steps) written h in
    let e = d.e in
    let n = so_far + point_number e in
    let f = front_ok (records_of step e (points_of e)) (compilation_behind n (after here e (ends_of e)) steps) written d.rest in
    let said = said_by here step.deed e d.asked in
    let short = effect_short here (ask_of step.deed) e (points_of e) executed.0.text said (few_points so_far (point_number e) d.few) in
    rw f.2 (fit_behind so_far steps step e f.0 (with_statement-short step (effect_records e (points_of e)) short) (step_bytes here step e said (asked_by here step.deed e d.asked)) (compiled_fit n (after here e (ends_of e)) steps f.0 d.few executed.1 f.1))

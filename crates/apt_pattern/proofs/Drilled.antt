-- Each step that drills has its holes among the acts that the records which follow the plain steps ask for.
use Rattle.std.proofs.Common.{◌≡◌, ◌≢◌, ◌∙◌, inl, inr, ℕ, ◌+◌, ◌<◌, ◌==◌, ℤ, Bool, true, false, List, [], ◌∷◌, ◌++◌, map, Option, Some, None, refl, sym, ap, subst, arith}
use Rattle.std.specs.Prelude.{if◌then◌else◌}
use Rattle.std.specs.List.{flat_map}
use Rattle.apt_words.specs.Asks.{Ask, Titles, Says, Sets, Defines, Goes, Cuts, Nothing, ask_of}
use Rattle.apt_words.specs.Drills.{drill_of}
use Rattle.apt_words.specs.Sources.{AreNumbered}
use Rattle.apt_words.specs.declared.Units.{Units}
use Rattle.apt_words.specs.declared.ask.Place.{Place}
use Rattle.apt_words.specs.declared.ask.Route.{Route}
use Rattle.apt_words.specs.declared.ask.Route.TheVariants as routes
use Rattle.apt_words.specs.declared.deed.Deed.{Deed}
use Rattle.apt_words.specs.declared.deed.Deed.TheVariants as deeds
use Rattle.apt_words.specs.declared.deed.Step.{Step}
use Rattle.apt_words.specs.declared.drill.Drill.{Drill}
use Rattle.apt_words.specs.declared.drill.Drill.TheVariants as drills
use Rattle.apt_plane.specs.declared.figures.Pt.{Pt}
use Rattle.apt_records.specs.declared.record.Note.TheVariants as notes
use Rattle.apt_records.specs.declared.record.Position.{Position}
use Rattle.apt_records.specs.declared.record.Reach.TheVariants as reaches
use Rattle.apt_records.specs.declared.record.Record.{Record}
use Rattle.apt_records.specs.declared.record.Record.TheVariants as records
use Rattle.apt_control.specs.declared.Act.{Act}
use Rattle.apt_meaning.specs.declared.effect.Change.TheVariants as changes
use Rattle.apt_meaning.specs.declared.effect.Effect.{Effect}
use Rattle.apt_meaning.specs.declared.effect.Effect.TheVariants as effects
use Rattle.apt_meaning.specs.declared.situation.Situation.{Situation}
use Rattle.apt_meaning.specs.Situations.{first_situation}
use Rattle.apt_meaning.specs.Effects.{effect_of, placed, position_by}
use Rattle.apt_meaning.specs.Refusals.{placed_cases}
use Rattle.apt_meaning.specs.Records.{after, cut_record, effect_records, with_statement, records_of, FollowsAs, HasAny, Follows}
use Rattle.apt_post.specs.Said.{feed_said, move_by}
use Rattle.apt_pattern.specs.declared.cycle.Cycle.{Cycle}
use Rattle.apt_pattern.specs.declared.pattern.Pattern.{Pattern}
use Rattle.apt_pattern.specs.Patterns.{points_of, scalar_of, goto, above, bottom, hole, visits}
use Rattle.apt_pattern.specs.Expansions.{Drilling, nothing_drilled, Outcome, Comes, Refused, Stops, visit_cases, visited, visited_one, visited_all, gone_to, gone, plain, pattern_named, drilled, outcome_by, outcome, in_place, plain_steps, Expands}
use Rattle.apt_pattern.specs.Holes.{Asking, begins, is_under, acts_under, acts_of_step, feed_before, feed_at_step, AsksPlainly, rapid_to, cut_to, hole_acts, one_point, all_points, route_points, ask_points, drill_points, points_by, goto_points, IsDrilled, AllBehind, HasHoles, AreDrilled}
use Rattle.apt_pattern.proofs.Grid.{grid_of_scalar}
use Rattle.apt_pattern.proofs.Agreeing.{Agrees, Changes, OfComing, unless_comes, IsSame, AreVisits, IsReplaced, replaced, stays_agrees, visit_agrees, same_agrees}
use Rattle.apt_pattern.proofs.Passing.{agrees_first}

-- ---- acts under a number

-- the records of an effect begin no statement
abbrev IsInner : Record → Type 0
IsInner (records.Statement line step) = ⊥
IsInner (records.Note note) = Unit {0}
IsInner (records.Drive surface side sense) = Unit {0}
IsInner (records.Check surface how) = Unit {0}
IsInner (records.Point reach to) = Unit {0}
IsInner (records.Contour vertices) = Unit {0}

abbrev AreInner : List Record → Type 0
AreInner [] = Unit {0}
AreInner (r ∷ rs) = IsInner r × AreInner rs

cuts_inner : (z : ℤ) (cuts : List (List Pt)) → AreInner (map (cut_record z) cuts)
cuts_inner z [] = tt
cuts_inner z (vertices ∷ cuts) = (tt, cuts_inner z cuts)

effect_inner : (e : Effect) (cuts : List (List Pt)) → AreInner (effect_records e cuts)
effect_inner (effects.Defines n f) cuts = tt
effect_inner (effects.Sets (changes.Said note)) cuts = (tt, tt)
effect_inner (effects.Sets (changes.Side side)) cuts = tt
effect_inner (effects.Sets changes.Nothing) cuts = tt
effect_inner (effects.Moves reach to) cuts = (tt, tt)
effect_inner (effects.Cuts m legs) cuts = (tt, (tt, cuts_inner m.start.z cuts))

inner_under : (n : ℕ) (before : List Record) (r : Record) → IsInner r → is_under n (r ∷ before) ≡ is_under n before
inner_under n before (records.Statement line step) is = absurd is
inner_under n before (records.Note note) is = refl
inner_under n before (records.Drive surface side sense) is = refl
inner_under n before (records.Check surface how) is = refl
inner_under n before (records.Point reach to) is = refl
inner_under n before (records.Contour vertices) is = refl

inner_begins : (n : ℕ) (r : Record) → IsInner r → begins n r ≡ false
inner_begins n (records.Statement line step) is = absurd is
inner_begins n (records.Note note) is = refl
inner_begins n (records.Drive surface side sense) is = refl
inner_begins n (records.Check surface how) is = refl
inner_begins n (records.Point reach to) is = refl
inner_begins n (records.Contour vertices) is = refl

-- the same acts and the same feed as behind some records, with what was said before there
record IsPast {A : Type 0} (asks : Asking A) (n : ℕ) (before rs rest : List Record) : Type 0 where
  now : List Record
  same : acts_under asks n before rs ≡ acts_under asks n now rest
  feed : feed_before n before rs ≡ feed_before n now rest

nothing_past : {A : Type 0} (asks : Asking A) (n : ℕ) (before rs : List Record) → IsPast asks n before rs rs
nothing_past asks n before rs = record { now = before; same = refl; feed = refl }

past_again : {A : Type 0} (asks : Asking A) (n : ℕ) (before rs mid rest : List Record) (a : IsPast asks n before rs mid) → IsPast asks n a.now mid rest → IsPast asks n before rs rest
past_again asks n before rs mid rest a b = record { now = b.now; same = a.same ∙ b.same; feed = a.feed ∙ b.feed }

-- records under another number have no acts under this one
inner_past : {A : Type 0} (asks : Asking A) (n : ℕ) (before rs rest : List Record) → is_under n before ≡ false → AreInner rs → IsPast asks n before (rs ++ rest) rest
inner_past asks n before [] rest other are = nothing_past asks n before rest
inner_past asks n before (r ∷ rs) rest other are =
    let p = inner_past asks n (r ∷ before) rs rest (inner_under n before r are.0 ∙ other) are.1 in record {
      now = p.now;
      same = ap (λ on. (if on then asks before r else []) ++ acts_under asks n (r ∷ before) (rs ++ rest)) other ∙ p.same;
      feed = ap (λ on. if on then feed_said before else feed_before n (r ∷ before) (rs ++ rest)) (inner_begins n r are.0) ∙ p.feed;
    }

equal_number : (n k : ℕ) → k ≡ n → (k == n) ≡ true
equal_number n k e = grind (arith, e)

other_number : (n k : ℕ) → k ≢ n → (k == n) ≡ false
other_number n k h = grind arith

-- a statement asks for nothing
statement_asks : {A : Type 0} (asks : Asking A) (wrap : Act → A) (on : Bool) (before : List Record) (line step : ℕ) → AsksPlainly asks wrap
    → (if on then asks before (records.Statement line step) else []) ≡ []
statement_asks asks wrap true before line step plainly = plainly.statement before line step
statement_asks asks wrap false before line step plainly = refl

-- the records of a step with another number
step_past : {A : Type 0} (asks : Asking A) (wrap : Act → A) (n : ℕ) (before : List Record) (st : Step) (rs rest : List Record) → AsksPlainly asks wrap → st.step ≢ n → AreInner rs
    → IsPast asks n before (with_statement st rs ++ rest) rest
step_past asks wrap n before st [] rest plainly differ are = nothing_past asks n before rest
step_past asks wrap n before st (r ∷ rs) rest plainly differ are =
    let other = other_number n st.step differ in
    let said : List Record = records.Statement st.line st.step ∷ before in
    let p = inner_past asks n said (r ∷ rs) rest other are in record {
      now = p.now;
      same = ap (λ xs. xs ++ acts_under asks n said ((r ∷ rs) ++ rest)) (statement_asks asks wrap (is_under n before) before st.line st.step plainly) ∙ p.same;
      feed = ap (λ on. if on then feed_said before else feed_before n said ((r ∷ rs) ++ rest)) other ∙ p.feed;
    }

-- ---- steps with other numbers

abbrev AreOthers : ℕ → List Step → Type 0
AreOthers n [] = Unit {0}
AreOthers n (st ∷ sts) = (st.step ≢ n) × AreOthers n sts

-- what is left of a walk behind its first steps
record IsLeft (d : Drilling) (rest : List Step) (written : List Record) : Type 0 where
  there : Situation
  agrees : Agrees d there
  behind : Situation
  follows : FollowsAs HasAny there rest written behind

others_none : {A : Type 0} (asks : Asking A) (wrap : Act → A) (n : ℕ) (here : Situation) (sts : List Step) (rs : List Record) (behind : Situation) (before : List Record) → AsksPlainly asks wrap
    → AreOthers n sts → FollowsAs HasAny here sts rs behind → acts_under asks n before rs ≡ []
others_none asks wrap n here [] rs behind before plainly others follows = ap (acts_under asks n before) follows.0
others_none asks wrap n here (st ∷ sts) rs behind before plainly others (e, cuts, rest, begins, any, more) =
    let one = step_past asks wrap n before st (effect_records e cuts) rest plainly others.0 (effect_inner e cuts) in
    ap (acts_under asks n before) begins.front ∙ one.same ∙ others_none asks wrap n (after here e cuts) sts rest behind one.now plainly others.1 more

-- ---- the moves of a hole

-- what was said behind the one record of a step
abbrev behind_one : Step → Record → List Record → List Record
behind_one st r before = r ∷ records.Statement st.line st.step ∷ before

-- the acts of the one record of a step
one_asks : {A : Type 0} (asks : Asking A) (wrap : Act → A) (before : List Record) (st : Step) (r : Record) (rest : List Record) → AsksPlainly asks wrap → IsInner r
    → acts_under asks st.step before (with_statement st (r ∷ []) ++ rest)
    ≡ asks (records.Statement st.line st.step ∷ before) r ++ acts_under asks st.step (behind_one st r before) rest
one_asks asks wrap before st r rest plainly inner =
    let said : List Record = records.Statement st.line st.step ∷ before in
    ap (λ xs. xs ++ acts_under asks st.step said (r ∷ rest)) (statement_asks asks wrap (is_under st.step before) before st.line st.step plainly)
    ∙ ap (λ on. (if on then asks said r else []) ++ acts_under asks st.step (r ∷ said) rest) (equal_number st.step st.step refl)

-- records that follow a step, with its acts, and what is left behind
record IsOne {A : Type 0} (asks : Asking A) (d : Drilling) (sts : List Step) (n : ℕ) (before rs : List Record) (front : List A) (now : List Record) : Type 0 where
  rest : List Record
  left : IsLeft d sts rest
  same : acts_under asks n before rs ≡ front ++ acts_under asks n now rest

rapid_step : {A : Type 0} (asks : Asking A) (wrap : Act → A) (d : Drilling) (here : Situation) (st : Step) (sts : List Step) (rs : List Record) (behind : Situation) (before : List Record)
    → AsksPlainly asks wrap → Agrees d here → FollowsAs HasAny here (in_place st deeds.Rapid ∷ sts) rs behind
    → IsOne asks d sts st.step before rs [] (behind_one st (records.Note notes.Rapid) before)
rapid_step asks wrap d here st sts rs behind before plainly agrees (e, cuts, rest, begins, any, more) =
    let is : e ≡ effects.Sets (changes.Said notes.Rapid) = cc in
    let said : List Record = records.Statement st.line st.step ∷ before in record {
      rest = rest;
      left = record { there = after here e cuts; agrees = visit_agrees d here deeds.Rapid e cuts agrees tt begins.asked; behind = behind; follows = more };
      same =
          ap (acts_under asks st.step before) (begins.front ∙ ap (λ x. records_of (in_place st deeds.Rapid) x cuts ++ rest) is)
          ∙ one_asks asks wrap before (in_place st deeds.Rapid) (records.Note notes.Rapid) rest plainly tt
          ∙ ap (λ xs. xs ++ acts_under asks st.step (records.Note notes.Rapid ∷ said) rest) (plainly.note said notes.Rapid);
    }

to_by : (units : Units) (to : Position) → position_by units (scalar_of units to.xy.x) (scalar_of units to.xy.y) (Some (scalar_of units to.z)) ≡ to
to_by units to = rw (grid_of_scalar units to.xy.x, grid_of_scalar units to.xy.y, grid_of_scalar units to.z) refl

goto_effect : (d : Drilling) (here : Situation) (to : Position) → Agrees d here → effect_of here (goto d.units to) ≡ Some (effects.Moves reaches.Goto to)
goto_effect d here to agrees =
    ap (λ u. Some (effects.Moves reaches.Goto (position_by u (scalar_of d.units to.xy.x) (scalar_of d.units to.xy.y) (Some (scalar_of d.units to.z))))) agrees.units
    ∙ ap (λ q. Some (effects.Moves reaches.Goto q)) (to_by d.units to)

same_effect : (e d : Effect) (o : Option Effect) → o ≡ Some e → o ≡ Some d → e ≡ d
same_effect e d o p q = let f : Some e ≡ Some d = sym p ∙ q in cc

goto_step : {A : Type 0} (asks : Asking A) (wrap : Act → A) (d : Drilling) (here : Situation) (st : Step) (to : Position) (sts : List Step) (rs : List Record) (behind : Situation)
    (before : List Record) → AsksPlainly asks wrap → Agrees d here → FollowsAs HasAny here (in_place st (goto d.units to) ∷ sts) rs behind
    → IsOne asks d sts st.step before rs (wrap (move_by (records.Statement st.line st.step ∷ before) to) ∷ []) (behind_one st (records.Point reaches.Goto to) before)
goto_step asks wrap d here st to sts rs behind before plainly agrees (e, cuts, rest, begins, any, more) =
    let is : e ≡ effects.Moves reaches.Goto to = same_effect e (effects.Moves reaches.Goto to) (effect_of here (goto d.units to)) begins.asked (goto_effect d here to agrees) in
    let said : List Record = records.Statement st.line st.step ∷ before in record {
      rest = rest;
      left = record { there = after here e cuts; agrees = visit_agrees d here (goto d.units to) e cuts agrees tt begins.asked; behind = behind; follows = more };
      same =
          ap (acts_under asks st.step before) (begins.front ∙ ap (λ x. records_of (in_place st (goto d.units to)) x cuts ++ rest) is)
          ∙ one_asks asks wrap before (in_place st (goto d.units to)) (records.Point reaches.Goto to) rest plainly tt
          ∙ ap (λ xs. xs ++ acts_under asks st.step (records.Point reaches.Goto to ∷ said) rest) (plainly.point said reaches.Goto to);
    }

-- what was said behind a hole
abbrev behind_hole : Step → Cycle → Position → List Record → List Record
behind_hole st cycle to before =
    let up = behind_one st (records.Point reaches.Goto (above cycle to)) (behind_one st (records.Note notes.Rapid) before) in
    let down = behind_one st (records.Point reaches.Goto (bottom cycle to)) up in
    behind_one st (records.Point reaches.Goto (above cycle to)) (behind_one st (records.Note notes.Rapid) down)

-- five steps in a row
five : {A : Type 0} (asks : Asking A) (wrap : Act → A) (n : ℕ) (feed : ℤ) (cycle : Cycle) (to : Position) (b0 b1 b2 b3 b4 b5 r0 r1 r2 r3 r4 r5 : List Record)
    → acts_under asks n b0 r0 ≡ acts_under asks n b1 r1
    → acts_under asks n b1 r1 ≡ wrap (rapid_to (above cycle to)) ∷ acts_under asks n b2 r2
    → acts_under asks n b2 r2 ≡ wrap (cut_to feed (bottom cycle to)) ∷ acts_under asks n b3 r3
    → acts_under asks n b3 r3 ≡ acts_under asks n b4 r4
    → acts_under asks n b4 r4 ≡ wrap (rapid_to (above cycle to)) ∷ acts_under asks n b5 r5
    → acts_under asks n b0 r0 ≡ map wrap (hole_acts feed cycle to) ++ acts_under asks n b5 r5
five asks wrap n feed cycle to b0 b1 b2 b3 b4 b5 r0 r1 r2 r3 r4 r5 a b c d e = rw (a, b, c, d, e) refl

-- one hole: its three acts, with the feed that was said last
hole_steps : {A : Type 0} (asks : Asking A) (wrap : Act → A) (d : Drilling) (here : Situation) (st : Step) (cycle : Cycle) (to : Position) (sts : List Step) (rs : List Record) (behind : Situation)
    (before : List Record) → AsksPlainly asks wrap → Agrees d here → FollowsAs HasAny here (plain_steps st (hole d.units cycle to) ++ sts) rs behind
    → IsOne asks d sts st.step before rs (map wrap (hole_acts (feed_said before) cycle to)) (behind_hole st cycle to before)
hole_steps asks wrap d here st cycle to sts rs behind before plainly agrees follows =
    let rapid : Record = records.Note notes.Rapid in
    let last : List Step = in_place st (goto d.units (above cycle to)) ∷ sts in
    let back : List Step = in_place st deeds.Rapid ∷ last in
    let down : List Step = in_place st (goto d.units (bottom cycle to)) ∷ back in
    let up : List Step = in_place st (goto d.units (above cycle to)) ∷ down in
    let b1 : List Record = behind_one st rapid before in
    let b2 : List Record = behind_one st (records.Point reaches.Goto (above cycle to)) b1 in
    let b3 : List Record = behind_one st (records.Point reaches.Goto (bottom cycle to)) b2 in
    let b4 : List Record = behind_one st rapid b3 in
    let a = rapid_step asks wrap d here st up rs behind before plainly agrees follows in
    let b = goto_step asks wrap d a.left.there st (above cycle to) down a.rest a.left.behind b1 plainly a.left.agrees a.left.follows in
    let c = goto_step asks wrap d b.left.there st (bottom cycle to) back b.rest b.left.behind b2 plainly b.left.agrees b.left.follows in
    let f = rapid_step asks wrap d c.left.there st last c.rest c.left.behind b3 plainly c.left.agrees c.left.follows in
    let g = goto_step asks wrap d f.left.there st (above cycle to) sts f.rest f.left.behind b4 plainly f.left.agrees f.left.follows in
    let b5 : List Record = behind_one st (records.Point reaches.Goto (above cycle to)) b4 in
    record {
      rest = g.rest;
      left = g.left;
      same = five asks wrap st.step (feed_said before) cycle to before b1 b2 b3 b4 b5 rs a.rest b.rest c.rest f.rest g.rest a.same b.same c.same f.same g.same;
    }

-- all holes of a step
holes_of : {A : Type 0} (asks : Asking A) (wrap : Act → A) (d : Drilling) (here : Situation) (st : Step) (cycle : Cycle) (ps : List Position) (sts : List Step) (rs : List Record)
    (behind : Situation) (before : List Record) → AsksPlainly asks wrap → Agrees d here → AreOthers st.step sts
    → FollowsAs HasAny here (plain_steps st (visits d.units (Some cycle) ps) ++ sts) rs behind
    → acts_under asks st.step before rs ≡ map wrap (flat_map (hole_acts (feed_said before) cycle) ps)
holes_of asks wrap d here st cycle [] sts rs behind before plainly agrees others follows = others_none asks wrap st.step here sts rs behind before plainly others follows
holes_of asks wrap d here st cycle (to ∷ ps) sts rs behind before plainly agrees others follows =
    let one = hole_steps asks wrap d here st cycle to (plain_steps st (visits d.units (Some cycle) ps) ++ sts) rs behind before plainly agrees follows in
    one.same ∙ ap (λ xs. map wrap (hole_acts (feed_said before) cycle to) ++ xs)
    (holes_of asks wrap d one.left.there st cycle ps sts one.rest one.left.behind (behind_hole st cycle to before) plainly one.left.agrees others one.left.follows)

-- the step of a hole begins with RAPID: the feed before it is the one that was said last
rapid_feed : (here : Situation) (st : Step) (sts : List Step) (rs : List Record) (behind : Situation) (before : List Record)
    → FollowsAs HasAny here (in_place st deeds.Rapid ∷ sts) rs behind → feed_before st.step before rs ≡ feed_said before
rapid_feed here st sts rs behind before (e, cuts, rest, begins, any, more) =
    let is : e ≡ effects.Sets (changes.Said notes.Rapid) = cc in
    ap (feed_before st.step before) (begins.front ∙ ap (λ x. records_of (in_place st deeds.Rapid) x cuts ++ rest) is)
    ∙ ap (λ on. if on then feed_said before else feed_before st.step (records.Statement st.line st.step ∷ before) (records.Note notes.Rapid ∷ rest)) (equal_number st.step st.step refl)

-- ---- what a step that drills is replaced by

-- under a cycle a step that goes to points is replaced by their holes
abbrev DrillsBy : Option Cycle → Drilling → Option (List Position) → List Deed → Drilling → Type 0
DrillsBy None d points ds now = Unit {0}
DrillsBy (Some cycle) d None ds now = Unit {0}
DrillsBy (Some cycle) d (Some points) ds now = ds ≡ visits d.units (Some cycle) points

visited_drills : (d : Drilling) (cycle : Option Cycle) (ps : List Position) → d.cycle ≡ cycle → OfComing (DrillsBy cycle d (Some ps)) (visited d ps)
visited_drills d None ps is = tt
visited_drills d (Some cycle) ps is = ap (λ c. visits d.units c ps) is

one_drills : (d : Drilling) (cycle : Option Cycle) (o : Option Position) → d.cycle ≡ cycle → OfComing (DrillsBy cycle d (one_point o)) (visited_one d o)
one_drills d cycle None is = tt
one_drills d cycle (Some p) is = visited_drills d cycle (p ∷ []) is

all_drill : (d : Drilling) (cycle : Option Cycle) (o : Option Pattern) → d.cycle ≡ cycle → OfComing (DrillsBy cycle d (all_points o)) (visited_all d o)
all_drill d cycle None is = tt
all_drill d cycle (Some pattern) is = unless_comes (DrillsBy cycle d (Some (points_of pattern))) (visit_cases d pattern.count) (visited d (points_of pattern)) (λ none. visited_drills d cycle (points_of pattern) is)

none_drills : (d : Drilling) (cycle : Option Cycle) (o : Outcome) → OfComing (DrillsBy cycle d None) o
none_drills d None (Comes ds now) = tt
none_drills d (Some cycle) (Comes ds now) = tt
none_drills d cycle (Refused case) = tt
none_drills d cycle Stops = tt

goto_drills : (d : Drilling) (deed : Deed) (place : Place) (cycle : Option Cycle) → d.cycle ≡ cycle → OfComing (DrillsBy cycle d (one_point (placed d.units d.table place))) (gone_to d deed place cycle)
goto_drills d deed place None is = tt
goto_drills d deed place (Some cycle) is =
    unless_comes (DrillsBy (Some cycle) d (one_point (placed d.units d.table place))) (placed_cases d.units d.table place (visit_cases d 1)) (visited_one d (placed d.units d.table place))
    (λ none. one_drills d (Some cycle) (placed d.units d.table place) is)

gone_drills : (d : Drilling) (deed : Deed) (route : Route) → OfComing (DrillsBy d.cycle d (route_points d route)) (gone d deed route)
gone_drills d deed (routes.From place) = none_drills d d.cycle (gone d deed (routes.From place))
gone_drills d deed (routes.Goto place) = goto_drills d deed place d.cycle refl
gone_drills d deed (routes.By x y z) = none_drills d d.cycle (gone d deed (routes.By x y z))
gone_drills d deed (routes.Start how name other) = none_drills d d.cycle (gone d deed (routes.Start how name other))

plain_drills : (d : Drilling) (deed : Deed) (ask : Ask) → OfComing (DrillsBy d.cycle d (ask_points d ask)) (plain d deed ask)
plain_drills d deed (Titles text) = none_drills d d.cycle (plain d deed (Titles text))
plain_drills d deed (Says saying) = none_drills d d.cycle (plain d deed (Says saying))
plain_drills d deed (Sets side) = none_drills d d.cycle (plain d deed (Sets side))
plain_drills d deed (Defines name form) = none_drills d d.cycle (plain d deed (Defines name form))
plain_drills d deed (Goes route) = gone_drills d deed route
plain_drills d deed (Cuts contour n) = none_drills d d.cycle (plain d deed (Cuts contour n))
plain_drills d deed Nothing = none_drills d d.cycle (plain d deed Nothing)

drilled_drills : (d : Drilling) (drill : Drill) → OfComing (DrillsBy d.cycle d (drill_points d drill)) (drilled d drill)
drilled_drills d (drills.Pattern name p q v) = none_drills d d.cycle (drilled d (drills.Pattern name p q v))
drilled_drills d (drills.Cycle depth clearance) = none_drills d d.cycle (drilled d (drills.Cycle depth clearance))
drilled_drills d drills.Off = none_drills d d.cycle (drilled d drills.Off)
drilled_drills d (drills.Visit name) = all_drill d d.cycle (pattern_named d.patterns name) refl

outcome_drills : (d : Drilling) (deed : Deed) (o : Option Drill) → OfComing (DrillsBy d.cycle d (points_by d deed o)) (outcome_by d deed o)
outcome_drills d deed None = plain_drills d deed (ask_of deed)
outcome_drills d deed (Some drill) = drilled_drills d drill

drills_by : (d : Drilling) (deed : Deed) (ds : List Deed) (now : Drilling) → outcome d deed ≡ Comes ds now → DrillsBy d.cycle d (goto_points d deed) ds now
drills_by d deed ds now e = subst (OfComing (DrillsBy d.cycle d (goto_points d deed))) e (outcome_drills d deed (drill_of deed))

-- ---- all steps

-- plain steps with greater numbers
abbrev AreBehind : ℕ → List Step → Type 0
AreBehind n [] = Unit {0}
AreBehind n (st ∷ sts) = (n < st.step) × AreBehind n sts

behind-append : (n : ℕ) (xs ys : List Step) → AreBehind n xs → AreBehind n ys → AreBehind n (xs ++ ys)
behind-append n [] ys are more = more
behind-append n (x ∷ xs) ys are more = (are.0, behind-append n xs ys are.1 more)

own_behind : (n : ℕ) (st : Step) (ds : List Deed) → n < st.step → AreBehind n (plain_steps st ds)
own_behind n st [] h = tt
own_behind n st (deed ∷ ds) h = (h, own_behind n st ds h)

plain_behind : (n k : ℕ) (d : Drilling) (sts plain : List Step) (last : Drilling) → n < k → AreNumbered k sts → Expands d sts plain last → AreBehind n plain
plain_behind n k d [] plain last h are is = subst (AreBehind n) (sym is.0) tt
plain_behind n k d (st ∷ sts) plain last h are (ds, now, rest, comes, front, more) =
    subst (AreBehind n) (sym front)
    (behind-append n (plain_steps st ds) rest (own_behind n st ds (omega (arith, h, are.0))) (plain_behind n (k + 1) now sts rest last (omega (arith, h)) are.1 more))

others_of : (n : ℕ) (sts : List Step) → AreBehind n sts → AreOthers n sts
others_of n [] are = tt
others_of n (st ∷ sts) are = ((λ same. absurd (omega (arith, are.0, same))), others_of n sts are.1)

others_own : (n : ℕ) (st : Step) (ds : List Deed) → st.step ≢ n → AreOthers n (plain_steps st ds)
others_own n st [] h = tt
others_own n st (deed ∷ ds) h = (h, others_own n st ds h)

-- ---- where plain steps lead

record IsBehind {A : Type 0} (asks : Asking A) (d : Drilling) (rest : List Step) (rs : List Record) (sts : List Step) : Type 0 where
  written : List Record
  left : IsLeft d rest written
  others : (n : ℕ) (before : List Record) → AreOthers n sts → IsPast asks n before rs written

front_past : {A : Type 0} (asks : Asking A) (wrap : Act → A) (n : ℕ) (before : List Record) (st : Step) (e : Effect) (cuts : List (List Pt)) (rs rest : List Record) → AsksPlainly asks wrap
    → rs ≡ records_of st e cuts ++ rest → st.step ≢ n → IsPast asks n before rs rest
front_past asks wrap n before st e cuts rs rest plainly front differ =
    let one = step_past asks wrap n before st (effect_records e cuts) rest plainly differ (effect_inner e cuts) in
    record { now = one.now; same = ap (acts_under asks n before) front ∙ one.same; feed = ap (feed_before n before) front ∙ one.feed }

visits_behind : {A : Type 0} (asks : Asking A) (wrap : Act → A) (d : Drilling) (here : Situation) (st : Step) (ds : List Deed) (rest : List Step) (rs : List Record) (behind : Situation)
    → AsksPlainly asks wrap → Agrees d here → AreVisits ds → FollowsAs HasAny here (plain_steps st ds ++ rest) rs behind → IsBehind asks d rest rs (plain_steps st ds)
visits_behind asks wrap d here st [] rest rs behind plainly agrees are follows = record {
  written = rs;
  left = record { there = here; agrees = agrees; behind = behind; follows = follows };
  others = λ n before others. nothing_past asks n before rs;
}
visits_behind asks wrap d here st (deed ∷ ds) rest rs behind plainly agrees are (e, cuts, more, begins, any, follows) =
    let b = visits_behind asks wrap d (after here e cuts) st ds rest more behind plainly (visit_agrees d here deed e cuts agrees are.0 begins.asked) are.1 follows in record {
      written = b.written;
      left = b.left;
      others = λ n before others.
          let one = front_past asks wrap n before (in_place st deed) e cuts rs more plainly begins.front others.0 in
          past_again asks n before rs more b.written one (b.others n one.now others.1);
    }

one_behind : {A : Type 0} (asks : Asking A) (wrap : Act → A) (d now : Drilling) (here : Situation) (st : Step) (deed : Deed) (rest : List Step) (rs : List Record) (behind : Situation)
    → AsksPlainly asks wrap → Agrees d here → Changes d (ask_of deed) now → FollowsAs HasAny here (plain_steps st (deed ∷ []) ++ rest) rs behind
    → IsBehind asks now rest rs (plain_steps st (deed ∷ []))
one_behind asks wrap d now here st deed rest rs behind plainly agrees is (e, cuts, more, begins, any, follows) = record {
  written = more;
  left = record { there = after here e cuts; agrees = stays_agrees d now here deed e cuts agrees is begins.asked; behind = behind; follows = follows };
  others = λ n before others. front_past asks wrap n before (in_place st deed) e cuts rs more plainly begins.front others.0;
}

same_left : {A : Type 0} (asks : Asking A) (d now : Drilling) (rest : List Step) (rs : List Record) (sts : List Step) → IsSame d now → IsBehind asks d rest rs sts → IsBehind asks now rest rs sts
same_left asks d now rest rs sts is b = record {
  written = b.written;
  left = record { there = b.left.there; agrees = same_agrees d now b.left.there b.left.agrees is; behind = b.left.behind; follows = b.left.follows };
  others = b.others;
}

step_behind : {A : Type 0} (asks : Asking A) (wrap : Act → A) (d now : Drilling) (here : Situation) (st : Step) (ds : List Deed) (rest : List Step) (rs : List Record) (behind : Situation)
    → AsksPlainly asks wrap → Agrees d here → IsReplaced d st.deed ds now → FollowsAs HasAny here (plain_steps st ds ++ rest) rs behind → IsBehind asks now rest rs (plain_steps st ds)
step_behind asks wrap d now here st ds rest rs behind plainly agrees is follows =
    elim is [
      | inl one ↦
          subst (λ xs. IsBehind asks now rest rs (plain_steps st xs)) (sym one.0)
          (one_behind asks wrap d now here st st.deed rest rs behind plainly agrees one.1 (subst (λ xs. FollowsAs HasAny here (plain_steps st xs ++ rest) rs behind) one.0 follows))
      | inr visits ↦ same_left asks d now rest rs (plain_steps st ds) visits.1 (visits_behind asks wrap d here st ds rest rs behind plainly agrees visits.0 follows)
    ]

-- ---- the holes of each step

-- each step that drills has its holes, whatever acts and feed are those of its number
abbrev HasAll : {A : Type 0} → (Act → A) → Drilling → List Step → (ℕ → ℤ → List A → Type 0) → Type 0
HasAll wrap d [] P = Unit {0}
HasAll wrap d (st ∷ sts) P =
    ((feed : ℤ) (done : List _) → P st.step feed done → IsDrilled wrap d.cycle (goto_points d st.deed) feed done) × AllBehind (outcome d st.deed) (λ now. HasAll wrap now sts P)

-- acts and feed that records have under a number, from anywhere
abbrev IsOf : {A : Type 0} → Asking A → List Record → ℕ → ℤ → List A → Type 0
IsOf asks rs n feed done = (before : List Record) × (feed ≡ feed_before n before rs) × (done ≡ acts_under asks n before rs)

own_holes : {A : Type 0} (asks : Asking A) (wrap : Act → A) (d now : Drilling) (here : Situation) (st : Step) (ds : List Deed) (rest : List Step) (rs : List Record) (behind : Situation)
    (before : List Record) (cycle : Option Cycle) (points : Option (List Position)) → AsksPlainly asks wrap → Agrees d here → AreOthers st.step rest → DrillsBy cycle d points ds now
    → FollowsAs HasAny here (plain_steps st ds ++ rest) rs behind → IsDrilled wrap cycle points (feed_before st.step before rs) (acts_under asks st.step before rs)
own_holes asks wrap d now here st ds rest rs behind before None points plainly agrees others by follows = tt
own_holes asks wrap d now here st ds rest rs behind before (Some cycle) None plainly agrees others by follows = tt
own_holes asks wrap d now here st ds rest rs behind before (Some cycle) (Some []) plainly agrees others by follows =
    others_none asks wrap st.step here rest rs behind before plainly others (subst (λ xs. FollowsAs HasAny here (plain_steps st xs ++ rest) rs behind) by follows)
own_holes asks wrap d now here st ds rest rs behind before (Some cycle) (Some (to ∷ ps)) plainly agrees others by follows =
    let own = subst (λ xs. FollowsAs HasAny here (plain_steps st xs ++ rest) rs behind) by follows in
    let down : List Step = in_place st (goto d.units (bottom cycle to)) ∷ in_place st deeds.Rapid ∷ in_place st (goto d.units (above cycle to)) ∷ plain_steps st (visits d.units (Some cycle) ps) ++ rest in
    let feed = rapid_feed here st (in_place st (goto d.units (above cycle to)) ∷ down) rs behind before own in
    holes_of asks wrap d here st cycle (to ∷ ps) rest rs behind before plainly agrees others own ∙ ap (λ f. map wrap (flat_map (hole_acts f cycle) (to ∷ ps))) (sym feed)

-- a fact of what holds behind
behind_all : (o : Outcome) (P Q : Drilling → Type 0) → ((now : Drilling) → P now → Q now) → AllBehind o P → AllBehind o Q
behind_all (Comes ds now) P Q to is = to now is
behind_all (Refused case) P Q to is = absurd is
behind_all Stops P Q to is = absurd is

-- a fact of the acts under each later number, where the records begin further on
carried : {A : Type 0} (asks : Asking A) (wrap : Act → A) (d : Drilling) (sts : List Step) (k n : ℕ) (rs rest : List Record) → n < k → AreNumbered k sts
    → ((j : ℕ) (feed : ℤ) (done : List A) → n < j → IsOf asks rs j feed done → IsOf asks rest j feed done) → HasAll wrap d sts (IsOf asks rest) → HasAll wrap d sts (IsOf asks rs)
carried asks wrap d [] k n rs rest h are to has = tt
carried asks wrap d (st ∷ sts) k n rs rest h are to has = (
  (λ feed done is. has.0 feed done (to st.step feed done (omega (arith, h, are.0)) is)),
  behind_all (outcome d st.deed) (λ now. HasAll wrap now sts (IsOf asks rest)) (λ now. HasAll wrap now sts (IsOf asks rs))
      (λ now. carried asks wrap now sts (k + 1) n rs rest (omega (arith, h)) are.1 to) has.1,
)

all_have : {A : Type 0} (asks : Asking A) (wrap : Act → A) (k : ℕ) (d : Drilling) (here : Situation) (sts plain : List Step) (last : Drilling) (rs : List Record) (behind : Situation)
    → AsksPlainly asks wrap → Agrees d here → AreNumbered k sts → Expands d sts plain last → FollowsAs HasAny here plain rs behind → HasAll wrap d sts (IsOf asks rs)
all_have asks wrap k d here [] plain last rs behind plainly agrees are is follows = tt
all_have asks wrap k d here (st ∷ sts) plain last rs behind plainly agrees are (ds, now, rest, comes, front, more) follows =
    let own = subst (λ xs. FollowsAs HasAny here xs rs behind) front follows in
    let b = step_behind asks wrap d now here st ds rest rs behind plainly agrees (replaced d st.deed ds now comes) own in
    let others = others_of st.step rest (plain_behind st.step (k + 1) now sts rest last (omega (arith, are.0)) are.1 more) in
    let later = all_have asks wrap (k + 1) now b.left.there sts rest last b.written b.left.behind plainly b.left.agrees are.1 more b.left.follows in
    let moved = carried asks wrap now sts (k + 1) k rs b.written (omega arith) are.1
    (λ j feed done h is.
    let one = b.others j is.0 (others_own j st ds (λ same. absurd (omega (arith, are.0, same, h)))) in
    (one.now, is.1 ∙ one.feed, is.2 ∙ one.same)) later in (
      (λ feed done is.
          subst (λ f. IsDrilled wrap d.cycle (goto_points d st.deed) f done) (sym is.1)
          (subst (IsDrilled wrap d.cycle (goto_points d st.deed) (feed_before st.step is.0 rs)) (sym is.2)
          (own_holes asks wrap d now here st ds rest rs behind is.0 d.cycle (goto_points d st.deed) plainly agrees others (drills_by d st.deed ds now comes) own))),
      subst (λ o. AllBehind o (λ now. HasAll wrap now sts (IsOf asks rs))) (sym comes) moved,
    )

-- from the first record on
from_first : {A : Type 0} (asks : Asking A) (wrap : Act → A) (d : Drilling) (sts : List Step) (rs : List Record) → HasAll wrap d sts (IsOf asks rs) → HasHoles asks wrap d sts rs
from_first asks wrap d [] rs has = tt
from_first asks wrap d (st ∷ sts) rs has = (
  has.0 (feed_at_step st.step rs) (acts_of_step asks st.step rs) ([], refl, refl),
  behind_all (outcome d st.deed) (λ now. HasAll wrap now sts (IsOf asks rs)) (λ now. HasHoles asks wrap now sts rs) (λ now. from_first asks wrap now sts rs) has.1,
)

-- records that follow the plain steps of a trace have the holes of each of its steps
pub are_drilled : {A : Type 0} (asks : Asking A) (wrap : Act → A) (sts plain : List Step) (last : Drilling) (written : List Record) → AsksPlainly asks wrap → AreNumbered 1 sts
    → Expands nothing_drilled sts plain last → Follows plain written → AreDrilled asks wrap sts written
are_drilled asks wrap sts plain last written plainly are is follows =
    from_first asks wrap nothing_drilled sts written (all_have asks wrap 1 nothing_drilled first_situation sts plain last written follows.behind plainly agrees_first are is follows.follow)

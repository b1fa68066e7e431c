-- How many plain steps there are: each step stays, or has at most five for each point that it visits, of which a program has at most 5,000.
use Rattle.std.proofs.Common.{◌≡◌, ℕ, zero, suc, ◌+◌, ◌*◌, ◌≤◌, nat_lt, ℤ, Bool, true, false, List, [], ◌∷◌, length, Option, Some, None, Result, Ok, Err, refl, cond, arith}
use Rattle.std.proofs.lemmas.Bool.Decides.{nat_tests}
use Rattle.std.proofs.lemmas.List.{length-map, length-append}
use Rattle.apt_words.specs.Asks.{Ask, Titles, Says, Sets, Defines, Goes, Cuts, Nothing, ask_of}
use Rattle.apt_words.specs.Drills.{drill_of}
use Rattle.apt_words.specs.Rows.{Row, first_of}
use Rattle.apt_words.specs.declared.Case.{Case}
use Rattle.apt_words.specs.declared.Case.TheVariants as cases
use Rattle.apt_words.specs.declared.Refusal.{Refusal}
use Rattle.apt_words.specs.declared.Units.{Units}
use Rattle.apt_words.specs.declared.ask.Place.{Place}
use Rattle.apt_words.specs.declared.ask.Place.TheVariants as places
use Rattle.apt_words.specs.declared.ask.Route.{Route}
use Rattle.apt_words.specs.declared.ask.Route.TheVariants as routes
use Rattle.apt_words.specs.declared.deed.Deed.{Deed}
use Rattle.apt_words.specs.declared.deed.Step.{Step}
use Rattle.apt_scalar.specs.Scalars.{whole}
use Rattle.apt_records.specs.declared.record.Position.{Position}
use Rattle.apt_defs.specs.declared.figure.Figure.{Figure}
use Rattle.apt_defs.specs.Definitions.{figure_of}
use Rattle.apt_defs.specs.Figures.{Table}
use Rattle.apt_meaning.specs.Effects.{place_in, placed, position_by}
use Rattle.apt_meaning.specs.Refusals.{placed_cases, out_of_reach, is_no_point, is_undefined}
use Rattle.apt_pattern.specs.declared.cycle.Cycle.{Cycle}
use Rattle.apt_words.specs.declared.drill.Drill.{Drill}
use Rattle.apt_words.specs.declared.drill.Drill.TheVariants as drills
use Rattle.apt_pattern.specs.declared.pattern.Pattern.{Pattern}
use Rattle.apt_pattern.specs.Patterns.{points_from, points_of, visit, visits}
use Rattle.apt_pattern.specs.Expansions.{Drilling, nothing_drilled, Outcome, Comes, Refused, Stops, most_holes, visit_cases, definition_cases, pattern_cases, cycle_cases, cycle_of, pattern_named, visited, visited_one, visited_all, gone_to, gone, defined_as, plain, patterned_as, drilled, outcome_by, outcome, in_place, plain_steps, expanded_by, expanded_from, expansion}
use Rattle.apt_pattern.proofs.Agreeing.{OfComing, unless_comes}

visit_few : (units : Units) (cycle : Option Cycle) (p : Position) → length (visit units cycle p) ≤ 5
visit_few units None p = omega arith
visit_few units (Some cycle) p = omega arith

pub visits_few : (units : Units) (cycle : Option Cycle) (ps : List Position) → length (visits units cycle ps) ≤ 5 * length ps
visits_few units cycle [] = omega arith
visits_few units cycle (p ∷ ps) = omega (arith, length-append (visit units cycle p) (visits units cycle ps), visit_few units cycle p, visits_few units cycle ps)

points_length : (pattern : Pattern) (k more : ℕ) → length (points_from pattern k more) ≡ more
points_length pattern k zero = refl
points_length pattern k (suc more) = omega (arith, points_length pattern (k + 1) more)

-- a pattern has as many points as it says
pub pattern_length : (pattern : Pattern) → length (points_of pattern) ≡ pattern.count
pattern_length pattern = points_length pattern 0 pattern.count

-- ---- what comes, and how far the count of points goes

pub record IsFew (d : Drilling) (ds : List Deed) (now : Drilling) : Type 0 where
  pub later : d.holes ≤ now.holes
  pub steps : length ds + 5 * d.holes ≤ 1 + 5 * now.holes
  pub most : d.holes ≤ most_holes → now.holes ≤ most_holes

abbrev Fews : Drilling → Outcome → Type 0
Fews d o = OfComing (IsFew d) o

one_few : (d now : Drilling) (ds : List Deed) → length ds ≤ 1 → now.holes ≡ d.holes → IsFew d ds now
one_few d now ds short e = record { later = omega (arith, e); steps = omega (arith, short, e); most = λ h. omega (arith, e, h) }

tail_none : (row : Row) (rows : List Row) → first_of (row ∷ rows) ≡ None → first_of rows ≡ None
tail_none row rows e = by row.0 e
  where
    by : (t : Bool) → cond t (Some row.1) (first_of rows) ≡ None → first_of rows ≡ None
    by true e = absurd cc
    by false e = e

place_none : (units : Units) (table : Table) (place : Place) (more : List Row) → first_of (placed_cases units table place more) ≡ None → first_of more ≡ None
place_none units table (places.Xyz x y z) more e =
    let p = position_by units x y z in
    let third : List Row = out_of_reach p.z ∷ more in
    tail_none (out_of_reach p.z) more (tail_none (out_of_reach p.xy.y) third (tail_none (out_of_reach p.xy.x) (out_of_reach p.xy.y ∷ third) e))
place_none units table (places.Named p) more e =
    let other : Row = (is_no_point table p, cases.WrongKind) in
    tail_none other more (tail_none (is_undefined table p, cases.Undefined) (other ∷ more) e)

count_holds : (t : Bool) (case : Case) → cond t (Some case) None ≡ None → t ≡ false
count_holds true case e = absurd cc
count_holds false case e = refl

within : (d : Drilling) (n : ℕ) → first_of (visit_cases d n) ≡ None → d.holes + n ≤ most_holes
within d n e = let t = count_holds (nat_lt most_holes (d.holes + n)) cases.TooManyHoles e in grind (arith, nat_tests, t)

visited_few : (d : Drilling) (ps : List Position) → d.holes + length ps ≤ most_holes → Fews d (visited d ps)
visited_few d ps h = record { later = omega arith; steps = omega (arith, visits_few d.units d.cycle ps); most = λ was. omega (arith, h) }

visited_one_few : (d : Drilling) (o : Option Position) → d.holes + 1 ≤ most_holes → Fews d (visited_one d o)
visited_one_few d None h = tt
visited_one_few d (Some p) h = visited_few d (p ∷ []) (omega (arith, h))

all_few : (d : Drilling) (o : Option Pattern) → Fews d (visited_all d o)
all_few d None = tt
all_few d (Some pattern) =
    unless_comes (IsFew d) (visit_cases d pattern.count) (visited d (points_of pattern)) (λ e. visited_few d (points_of pattern) (omega (arith, within d pattern.count e, pattern_length pattern)))

goto_few : (d : Drilling) (deed : Deed) (place : Place) (cycle : Option Cycle) → Fews d (gone_to d deed place cycle)
goto_few d deed place None = one_few d d (deed ∷ []) (omega arith) refl
goto_few d deed place (Some cycle) =
    unless_comes (IsFew d) (placed_cases d.units d.table place (visit_cases d 1)) (visited_one d (placed d.units d.table place))
    (λ e. visited_one_few d (placed d.units d.table place) (within d 1 (place_none d.units d.table place (visit_cases d 1) e)))

gone_few : (d : Drilling) (deed : Deed) (route : Route) → Fews d (gone d deed route)
gone_few d deed (routes.From place) = one_few d d (deed ∷ []) (omega arith) refl
gone_few d deed (routes.Goto place) = goto_few d deed place d.cycle
gone_few d deed (routes.By x y z) = one_few d d (deed ∷ []) (omega arith) refl
gone_few d deed (routes.Start how name other) = one_few d d (deed ∷ []) (omega arith) refl

defined_few : (d : Drilling) (deed : Deed) (name : List ℕ) (r : Result Figure Case) → Fews d (defined_as d deed name r)
defined_few d deed name (Ok f) = record { later = omega arith; steps = omega arith; most = λ h. h }
defined_few d deed name (Err case) = tt

plain_few : (d : Drilling) (deed : Deed) (ask : Ask) → Fews d (plain d deed ask)
plain_few d deed (Titles text) = one_few d d (deed ∷ []) (omega arith) refl
plain_few d deed (Says saying) = record { later = omega arith; steps = omega arith; most = λ h. h }
plain_few d deed (Sets side) = one_few d d (deed ∷ []) (omega arith) refl
plain_few d deed (Defines name form) =
    unless_comes (IsFew d) (definition_cases d.patterns name) (defined_as d deed name (figure_of d.units d.table form)) (λ e. defined_few d deed name (figure_of d.units d.table form))
plain_few d deed (Goes route) = gone_few d deed route
plain_few d deed (Cuts contour n) = one_few d d (deed ∷ []) (omega arith) refl
plain_few d deed Nothing = one_few d d (deed ∷ []) (omega arith) refl

patterned_few : (d : Drilling) (name : List ℕ) (n : ℤ) (p q : Option Position) → Fews d (patterned_as d name n p q)
patterned_few d name n None q = tt
patterned_few d name n (Some from) None = tt
patterned_few d name n (Some from) (Some to) = record { later = omega arith; steps = omega arith; most = λ h. h }

drilled_few : (d : Drilling) (drill : Drill) → Fews d (drilled d drill)
drilled_few d (drills.Pattern name p q v) =
    unless_comes (IsFew d) (pattern_cases d name p q (whole v)) (patterned_as d name (whole v) (place_in d.table p) (place_in d.table q)) (λ e. patterned_few d name (whole v) (place_in d.table p) (place_in d.table q))
drilled_few d (drills.Cycle depth clearance) =
    unless_comes (IsFew d) (cycle_cases (cycle_of d.units depth clearance)) (Comes [] (record d { cycle = Some (cycle_of d.units depth clearance) })) (λ e. record { later = omega arith; steps = omega arith; most = λ h. h })
drilled_few d drills.Off = record { later = omega arith; steps = omega arith; most = λ h. h }
drilled_few d (drills.Visit name) = all_few d (pattern_named d.patterns name)

outcome_few : (d : Drilling) (deed : Deed) (o : Option Drill) → Fews d (outcome_by d deed o)
outcome_few d deed None = plain_few d deed (ask_of deed)
outcome_few d deed (Some drill) = drilled_few d drill

-- ---- all steps

few_from : (d : Drilling) (sts : List Step) (fault : Option Refusal) → d.holes ≤ most_holes → length (expanded_from d sts fault).steps + 5 * d.holes ≤ length sts + 25000
few_from d [] fault most = omega (arith, most)
few_from d (st ∷ sts) fault most = by (outcome d st.deed) (outcome_few d st.deed (drill_of st.deed)) (λ now. few_from now sts fault)
  where
    by : (o : Outcome) → Fews d o → ((now : Drilling) → now.holes ≤ most_holes → length (expanded_from now sts fault).steps + 5 * now.holes ≤ length sts + 25000)
        → length (expanded_by st o (λ now. expanded_from now sts fault)).steps + 5 * d.holes ≤ length (st ∷ sts) + 25000
    by (Comes ds now) own later =
        omega (arith, own.steps, later now (own.most most), length-append (plain_steps st ds) (expanded_from now sts fault).steps, length-map ds (in_place st))
    by (Refused case) own later = omega (arith, most)
    by Stops own later = omega (arith, most)

-- at most 25,000 more than the steps
pub few_plain : (sts : List Step) (fault : Option Refusal) → length (expansion sts fault).steps ≤ length sts + 25000
few_plain sts fault = omega (arith, few_from nothing_drilled sts fault (omega arith))

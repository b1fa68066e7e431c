-- The numbers of plain steps are scalars.
use Rattle.std.proofs.Common.{◌≡◌, ℕ, zero, suc, ◌+◌, ◌-◌, ◌≤◌, ◌<◌, ℤ, not, false, List, [], ◌∷◌, ◌++◌, Option, Some, None, Result, Ok, Err, refl, subst, arith}
use Rattle.std.specs.Prelude.{unsigned_abs, IfSome, IfOk}
use Rattle.std.proofs.lemmas.Int.{ints}
use Rattle.std.proofs.lemmas.Bool.Decides.{nat_tests}
use Rattle.apt_words.specs.Asks.{Ask, Titles, Says, Sets, Defines, Goes, Cuts, Nothing, ask_of}
use Rattle.apt_words.specs.Drills.{drill_of}
use Rattle.apt_words.specs.Options.{◌>>=◌}
use Rattle.apt_words.specs.Rows.{Row, first_of}
use Rattle.apt_words.proofs.Rows.{first_none}
use Rattle.apt_words.specs.declared.Case.{Case}
use Rattle.apt_words.specs.declared.Refusal.{Refusal}
use Rattle.apt_words.specs.declared.Units.{Units}
use Rattle.apt_words.specs.declared.ask.Place.{Place}
use Rattle.apt_words.specs.declared.ask.Place.TheVariants as places
use Rattle.apt_words.specs.declared.ask.Route.{Route}
use Rattle.apt_words.specs.declared.ask.Route.TheVariants as routes
use Rattle.apt_words.specs.declared.deed.Deed.{Deed}
use Rattle.apt_words.specs.declared.deed.Step.{Step}
use Rattle.apt_scalar.specs.Scalars.{whole}
use Rattle.apt_scalar.specs.StepScalars.{HasScalars, AreScalars}
use Rattle.apt_records.specs.Ranges.{IsPosition}
use Rattle.apt_records.specs.declared.record.Position.{Position}
use Rattle.apt_defs.specs.declared.figure.Figure.{Figure}
use Rattle.apt_defs.specs.declared.figure.Figure.TheVariants as figures
use Rattle.apt_defs.specs.Figures.{Table, IsFigure, AreFigures, figure_named}
use Rattle.apt_defs.specs.Forms.{is_in_reach}
use Rattle.apt_defs.specs.Definitions.{figure_of}
use Rattle.apt_defs.proofs.InRange.{figure_in}
use Rattle.apt_defs.proofs.Tables.{looked_up, still_figures}
use Rattle.apt_meaning.specs.Effects.{place_in, placed, position_by, as_position}
use Rattle.apt_meaning.specs.Refusals.{position_cases, placed_cases}
use Rattle.apt_pattern.specs.declared.cycle.Cycle.{Cycle}
use Rattle.apt_words.specs.declared.drill.Drill.{Drill}
use Rattle.apt_words.specs.declared.drill.Drill.TheVariants as drills
use Rattle.apt_pattern.specs.declared.pattern.Pattern.{Pattern}
use Rattle.apt_pattern.specs.Patterns.{point_at, points_from, points_of, above, bottom, goto, visit, visits}
use Rattle.apt_pattern.specs.Ranges.{IsPattern, ArePatterns, IsDepth, IsCycle, IsCycleOrNone}
use Rattle.apt_pattern.specs.Expansions.{Drilling, nothing_drilled, Outcome, Comes, Refused, Stops, is_count, is_deep, visit_cases, definition_cases, pattern_cases, cycle_cases, cycle_of, pattern_named, visited, visited_one, visited_all, gone_to, gone, defined_as, plain, patterned_as, drilled, outcome_by, outcome, plain_steps, expanded_by, expanded_from, expansion}
use Rattle.apt_pattern.proofs.Agreeing.{OfComing, unless_comes}
use Rattle.apt_pattern.proofs.Bounds.{along_bound, goto_scalars}
use Rattle.apt_pattern.proofs.Named.{looked_up as pattern_in, still_patterns}

-- ---- positions

pub record IsAbout (p : Position) : Type 0 where
  pub x : unsigned_abs p.xy.x ≤ 150000000
  pub y : unsigned_abs p.xy.y ≤ 150000000
  pub z : unsigned_abs p.z ≤ 150000000

abbrev AreAbout : List Position → Type 0
AreAbout [] = Unit {0}
AreAbout (p ∷ ps) = IsAbout p × AreAbout ps

about_position : (p : Position) → IsPosition p → IsAbout p
about_position p is = record { x = omega (arith, is.xy.x); y = omega (arith, is.xy.y); z = omega (arith, is.z) }

point_about : (pattern : Pattern) (k : ℕ) → IsPattern pattern → k < pattern.count → IsAbout (point_at pattern k)
point_about pattern k is h =
    let last = pattern.count - 1 in
    let some : 0 < last = omega (arith, is.least) in
    let within : k ≤ last = omega (arith, h) in record {
      x = along_bound pattern.from.xy.x pattern.to.xy.x last k is.from.xy.x is.to.xy.x some within;
      y = along_bound pattern.from.xy.y pattern.to.xy.y last k is.from.xy.y is.to.xy.y some within;
      z = along_bound pattern.from.z pattern.to.z last k is.from.z is.to.z some within;
    }

points_about : (pattern : Pattern) (k more : ℕ) → IsPattern pattern → k + more ≤ pattern.count → AreAbout (points_from pattern k more)
points_about pattern k zero is h = tt
points_about pattern k (suc more) is h = (point_about pattern k is (omega (arith, h)), points_about pattern (k + 1) more is (omega (arith, h)))

-- ---- visits

abbrev pub HaveScalars : List Deed → Type 0
HaveScalars [] = Unit {0}
HaveScalars (deed ∷ ds) = HasScalars deed × HaveScalars ds

above_scalars : (units : Units) (cycle : Cycle) (p : Position) → IsCycle cycle → IsAbout p → HasScalars (goto units (above cycle p))
above_scalars units cycle p is at =
    goto_scalars units (above cycle p) (omega (arith, at.x)) (omega (arith, at.y)) (omega (arith, ints, at.z, is.clearance.least, is.clearance.most))

bottom_scalars : (units : Units) (cycle : Cycle) (p : Position) → IsCycle cycle → IsAbout p → HasScalars (goto units (bottom cycle p))
bottom_scalars units cycle p is at =
    goto_scalars units (bottom cycle p) (omega (arith, at.x)) (omega (arith, at.y)) (omega (arith, ints, at.z, is.depth.least, is.depth.most))

visit_scalars : (units : Units) (cycle : Option Cycle) (p : Position) (more : List Deed) → IsCycleOrNone cycle → IsAbout p → HaveScalars more → HaveScalars (visit units cycle p ++ more)
visit_scalars units None p more is at have = (goto_scalars units p (omega (arith, at.x)) (omega (arith, at.y)) (omega (arith, at.z)), have)
visit_scalars units (Some cycle) p more is at have =
    let up = above_scalars units cycle p is at in
    (tt, (up, (bottom_scalars units cycle p is at, (tt, (up, have)))))

visits_scalars : (units : Units) (cycle : Option Cycle) (ps : List Position) → IsCycleOrNone cycle → AreAbout ps → HaveScalars (visits units cycle ps)
visits_scalars units cycle [] is are = tt
visits_scalars units cycle (p ∷ ps) is are = visit_scalars units cycle p (visits units cycle ps) is are.0 (visits_scalars units cycle ps is are.1)

-- ---- outcomes

abbrev IsScaled : List Deed → Drilling → Type 0
IsScaled ds now = HaveScalars ds × (AreFigures now.table × ArePatterns now.patterns × IsCycleOrNone now.cycle)

abbrev InRange : Drilling → Type 0
InRange d = AreFigures d.table × ArePatterns d.patterns × IsCycleOrNone d.cycle

visited_scaled : (d : Drilling) (ps : List Position) → InRange d → AreAbout ps → OfComing IsScaled (visited d ps)
visited_scaled d ps is are = (visits_scalars d.units d.cycle ps is.2 are, is)

-- a point that a name stands for
figure_position : (o : Option Figure) → IfSome o IsFigure → (p : Position) → (o >>= as_position) ≡ Some p → IsPosition p
figure_position None is p e = absurd cc
figure_position (Some (figures.Point xy z)) is p e = let same : record { xy = xy; z = z } ≡ p = cc in subst IsPosition same (record { xy = is.xy; z = is.z })
figure_position (Some (figures.Shape s)) is p e = absurd cc
figure_position (Some figures.Scalar) is p e = absurd cc

named_position : (table : Table) (name : List ℕ) (p : Position) → AreFigures table → place_in table name ≡ Some p → IsPosition p
named_position table name p are e = figure_position (figure_named table name) (looked_up table name are) p e

reach_of : (v : ℤ) → not (is_in_reach v) ≡ false → unsigned_abs v ≤ 50000000
reach_of v e = grind (arith, nat_tests, e)

placed_position : (units : Units) (table : Table) (place : Place) (more : List Row) (p : Position) → AreFigures table → first_of (placed_cases units table place more) ≡ None → placed units table place ≡ Some p → IsPosition p
placed_position units table (places.Xyz x y z) more p are none e =
    let q = position_by units x y z in
    let rows = first_none (position_cases q more) none in
    let same : q ≡ p = cc in
    subst IsPosition same (record { xy = record { x = reach_of q.xy.x rows.0; y = reach_of q.xy.y rows.1.0 }; z = reach_of q.z rows.1.1.0 })
placed_position units table (places.Named name) more p are none e = named_position table name p are e

one_scaled : (d : Drilling) (o : Option Position) → InRange d → ((p : Position) → o ≡ Some p → IsPosition p) → OfComing IsScaled (visited_one d o)
one_scaled d None is at = tt
one_scaled d (Some p) is at = visited_scaled d (p ∷ []) is (about_position p (at p refl), tt)

goto_scaled : (d : Drilling) (deed : Deed) (place : Place) (cycle : Option Cycle) → HasScalars deed → InRange d → OfComing IsScaled (gone_to d deed place cycle)
goto_scaled d deed place None own is = ((own, tt), is)
goto_scaled d deed place (Some cycle) own is =
    unless_comes IsScaled (placed_cases d.units d.table place (visit_cases d 1)) (visited_one d (placed d.units d.table place))
    (λ none. one_scaled d (placed d.units d.table place) is (λ p e. placed_position d.units d.table place (visit_cases d 1) p is.0 none e))

gone_scaled : (d : Drilling) (deed : Deed) (route : Route) → HasScalars deed → InRange d → OfComing IsScaled (gone d deed route)
gone_scaled d deed (routes.From place) own is = ((own, tt), is)
gone_scaled d deed (routes.Goto place) own is = goto_scaled d deed place d.cycle own is
gone_scaled d deed (routes.By x y z) own is = ((own, tt), is)
gone_scaled d deed (routes.Start how name other) own is = ((own, tt), is)

defined_scaled : (d : Drilling) (deed : Deed) (name : List ℕ) (r : Result Figure Case) → HasScalars deed → InRange d → IfOk r IsFigure → OfComing IsScaled (defined_as d deed name r)
defined_scaled d deed name (Ok f) own is figure = ((own, tt), (still_figures d.table name f is.0 figure, is.1, is.2))
defined_scaled d deed name (Err case) own is figure = tt

plain_scaled : (d : Drilling) (deed : Deed) (ask : Ask) → HasScalars deed → InRange d → OfComing IsScaled (plain d deed ask)
plain_scaled d deed (Titles text) own is = ((own, tt), is)
plain_scaled d deed (Says saying) own is = ((own, tt), is)
plain_scaled d deed (Sets side) own is = ((own, tt), is)
plain_scaled d deed (Defines name form) own is =
    unless_comes IsScaled (definition_cases d.patterns name) (defined_as d deed name (figure_of d.units d.table form))
    (λ none. defined_scaled d deed name (figure_of d.units d.table form) own is (figure_in d.units d.table form is.0))
plain_scaled d deed (Goes route) own is = gone_scaled d deed route own is
plain_scaled d deed (Cuts contour n) own is = ((own, tt), is)
plain_scaled d deed Nothing own is = ((own, tt), is)

-- ---- patterns and cycles

count_in : (n : ℤ) → not (is_count n) ≡ false → (2 ≤ unsigned_abs n) × (unsigned_abs n ≤ 1000)
count_in n e = (grind (arith, ints, e), grind (arith, ints, e))

depth_in : (g : ℤ) → not (is_deep g) ≡ false → IsDepth g
depth_in g e = record { least = grind (arith, ints, e); most = grind (arith, ints, e) }

patterned_scaled : (d : Drilling) (name : List ℕ) (n : ℤ) (p q : Option Position) → InRange d → ((at : Position) → p ≡ Some at → IsPosition at) → ((at : Position) → q ≡ Some at → IsPosition at)
    → not (is_count n) ≡ false → OfComing IsScaled (patterned_as d name n p q)
patterned_scaled d name n None q is from to count = tt
patterned_scaled d name n (Some a) None is from to count = tt
patterned_scaled d name n (Some a) (Some b) is from to count =
    let within = count_in n count in
    (tt, (is.0, still_patterns d.patterns name (record { from = a; to = b; count = unsigned_abs n }) is.1 (record { from = from a refl; to = to b refl; least = within.0; most = within.1 }), is.2))

all_scaled : (d : Drilling) (o : Option Pattern) → InRange d → IfSome o IsPattern → OfComing IsScaled (visited_all d o)
all_scaled d None is pattern = tt
all_scaled d (Some pattern) is own =
    unless_comes IsScaled (visit_cases d pattern.count) (visited d (points_of pattern)) (λ none. visited_scaled d (points_of pattern) is (points_about pattern 0 pattern.count own (omega arith)))

drilled_scaled : (d : Drilling) (drill : Drill) → InRange d → OfComing IsScaled (drilled d drill)
drilled_scaled d (drills.Pattern name p q v) is =
    unless_comes IsScaled (pattern_cases d name p q (whole v)) (patterned_as d name (whole v) (place_in d.table p) (place_in d.table q))
    (λ none.
    let rows = first_none (pattern_cases d name p q (whole v)) none in
    patterned_scaled d name (whole v) (place_in d.table p) (place_in d.table q) is (λ at e. named_position d.table p at is.0 e) (λ at e. named_position d.table q at is.0 e) rows.1.1.1.1.1.0)
drilled_scaled d (drills.Cycle depth clearance) is =
    let cycle = cycle_of d.units depth clearance in
    unless_comes IsScaled (cycle_cases cycle) (Comes [] (record d { cycle = Some cycle }))
    (λ none.
    let rows = first_none (cycle_cases cycle) none in
    (tt, (is.0, is.1, record { depth = depth_in cycle.depth rows.0; clearance = depth_in cycle.clearance rows.1.0 })))
drilled_scaled d drills.Off is = (tt, (is.0, is.1, tt))
drilled_scaled d (drills.Visit name) is = all_scaled d (pattern_named d.patterns name) is (pattern_in d.patterns name is.1)

outcome_scaled : (d : Drilling) (deed : Deed) (o : Option Drill) → HasScalars deed → InRange d → OfComing IsScaled (outcome_by d deed o)
outcome_scaled d deed None own is = plain_scaled d deed (ask_of deed) own is
outcome_scaled d deed (Some drill) own is = drilled_scaled d drill is

-- ---- all steps

scalars-append : (xs ys : List Step) → AreScalars xs → AreScalars ys → AreScalars (xs ++ ys)
scalars-append [] ys are more = more
scalars-append (x ∷ xs) ys are more = (are.0, scalars-append xs ys are.1 more)

steps_scalars : (st : Step) (ds : List Deed) → HaveScalars ds → AreScalars (plain_steps st ds)
steps_scalars st [] have = tt
steps_scalars st (deed ∷ ds) have = (have.0, steps_scalars st ds have.1)

scalars_from : (d : Drilling) (sts : List Step) (fault : Option Refusal) → InRange d → AreScalars sts → AreScalars (expanded_from d sts fault).steps
scalars_from d [] fault is are = tt
scalars_from d (st ∷ sts) fault is are = by (outcome d st.deed) (outcome_scaled d st.deed (drill_of st.deed) are.0 is) (λ now is. scalars_from now sts fault is are.1)
  where
    by : (o : Outcome) → OfComing IsScaled o → ((now : Drilling) → InRange now → AreScalars (expanded_from now sts fault).steps) → AreScalars (expanded_by st o (λ now. expanded_from now sts fault)).steps
    by (Comes ds now) own later = scalars-append (plain_steps st ds) (expanded_from now sts fault).steps (steps_scalars st ds own.0) (later now own.1)
    by (Refused case) own later = tt
    by Stops own later = (are.0, tt)

pub plain_scalars : (sts : List Step) (fault : Option Refusal) → AreScalars sts → AreScalars (expansion sts fault).steps
plain_scalars sts fault are = scalars_from nothing_drilled sts fault (tt, tt, tt) are

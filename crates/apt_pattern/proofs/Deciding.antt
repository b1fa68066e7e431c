-- What is done of definitions, of patterns and of visits to patterns.
use Rattle.std.proofs.Common.{◌≡◌, ◌∙◌, ◌++◌, ◌&&◌, is_none, append_assoc, ℕ, suc, ◌+◌, ◌-◌, ◌≤◌, ◌<◌, nat_lt, nat_eq, ℤ, Bool, true, false, not, List, [], ◌∷◌, Option, Some, None, is_some, Ok, Err, refl, sym, ap, subst, arith}
use Rattle.std.specs.Prelude.{unsigned_abs}
use Rattle.std.proofs.lemmas.Bool.Decides.{nat_tests}
use Rattle.std.specs.Cmp.Lexicographic.{pointwise}
use Rattle.std.proofs.lemmas.List.{map-append}
use Rattle.indexmap.specs.IndexMap.{insert_entry}
use Rattle.apt_words.specs.Rows.{Row, first_of}
use Rattle.apt_words.specs.declared.Case.{Case}
use Rattle.apt_words.specs.declared.Case.TheVariants as cases
use Rattle.apt_words.specs.declared.Units.TheVariants as the_units
use Rattle.apt_words.specs.declared.ask.Form.{Form}
use Rattle.apt_words.specs.declared.ask.Place.{Place}
use Rattle.apt_words.specs.declared.ask.Place.TheVariants as places
use Rattle.apt_words.specs.declared.deed.Deed.{Deed}
use Rattle.apt_words.specs.declared.Refusal.{Refusal}
use Rattle.apt_words.specs.declared.Units.{Units}
use Rattle.apt_words.specs.declared.deed.Step.{Step}
use Rattle.apt_scalar.specs.Scalars.{grid_units}
use Rattle.apt_records.specs.declared.record.Position.{Position}
use Rattle.apt_defs.specs.declared.figure.Figure.{Figure}
use Rattle.apt_defs.specs.Figures.{Table, figure_named, table_with}
use Rattle.apt_defs.specs.Definitions.{figure_of}
use Rattle.apt_defs.specs.Forms.{is_in_reach}
use Rattle.apt_meaning.specs.Effects.{position_by}
use Rattle.apt_meaning.specs.Refusals.{point_cases, position_cases}
use Rattle.apt_meaning.specs.Situations.{position_at}
use Rattle.apt_unroll.specs.Trace.{Trace, behind as with_front}
use Rattle.apt_pattern.specs.declared.cycle.Cycle.{Cycle}
use Rattle.apt_pattern.specs.declared.pattern.Pattern.{Pattern}
use Rattle.apt_pattern.specs.declared.drilling.Decision.{Decision}
use Rattle.apt_pattern.specs.declared.drilling.Decision.TheVariants as decisions
use Rattle.apt_pattern.specs.declared.drilling.Visited.{Visited}
use Rattle.apt_pattern.specs.declared.drilling.Visited.TheVariants as visiting
use Rattle.apt_pattern.specs.declared.expanding.Taken.TheVariants as takes
use Rattle.apt_pattern.specs.Patterns.{along, point_at, points_from, visit, visits}
use Rattle.apt_pattern.specs.Ranges.{IsPattern}
use Rattle.apt_pattern.specs.Expansions.{Patterns, Drilling, Outcome, Refused, outcome, expanded_by, expanded_from, gone_to, cycled, cycle_of, pattern_named, is_count, visit_cases, defined, patterned, visited_all, in_place, plain_steps}
use Rattle.apt_pattern.specs.Taking.{IsTaken, points_in, IsDecided, IsPlace, IsSet, is_reached, are_in_reach}
use Rattle.apt_pattern.proofs.Few.{pattern_length}

-- ---- definitions

pub defined_taken : (d : Drilling) (deed : Deed) (name : List ℕ) (form : Form) → is_some (pattern_named d.patterns name) ≡ true
    → IsDecided deed (defined d deed name form) (decisions.Refused cases.WrongKind) d
defined_taken d deed name form e = rw e refl

pub defined_stays : (d : Drilling) (deed : Deed) (name : List ℕ) (form : Form) (f : Figure) (table : Table) → is_some (pattern_named d.patterns name) ≡ false → figure_of d.units d.table form ≡ Ok f
    → table ≡ table_with d.table name f → IsDecided deed (defined d deed name form) decisions.Stays (record d { table = table })
defined_stays d deed name form f table free drawn same = rw (free, drawn, same) refl

pub defined_stops : (d : Drilling) (deed : Deed) (name : List ℕ) (form : Form) (case : Case) (now : Drilling) → is_some (pattern_named d.patterns name) ≡ false → figure_of d.units d.table form ≡ Err case
    → IsDecided deed (defined d deed name form) decisions.Stopped now
defined_stops d deed name form case now free drawn = rw (free, drawn) refl

-- ---- patterns

pub pattern_from : (d : Drilling) (deed : Deed) (name p q : List ℕ) (n : ℤ) (case : Case) → IsPlace the_units.Inch d.table (places.Named p) (Err case)
    → IsDecided deed (patterned d name p q n) (decisions.Refused case) d
pattern_from d deed name p q n case bad =
    rw (bad (point_cases d.table q ((is_some (figure_named d.table name), cases.WrongKind) ∷ (not (is_count n), cases.BadCount) ∷ []))) refl

pub pattern_to : (d : Drilling) (deed : Deed) (name p q : List ℕ) (n : ℤ) (from : Position) (case : Case) → IsPlace the_units.Inch d.table (places.Named p) (Ok from)
    → IsPlace the_units.Inch d.table (places.Named q) (Err case)
    → IsDecided deed (patterned d name p q n) (decisions.Refused case) d
pattern_to d deed name p q n from case good bad =
    let last : List Row = (is_some (figure_named d.table name), cases.WrongKind) ∷ (not (is_count n), cases.BadCount) ∷ [] in
    rw (good.2 (point_cases d.table q last), bad last) refl

pub pattern_taken : (d : Drilling) (deed : Deed) (name p q : List ℕ) (n : ℤ) (from to : Position) → IsPlace the_units.Inch d.table (places.Named p) (Ok from)
    → IsPlace the_units.Inch d.table (places.Named q) (Ok to) → is_some (figure_named d.table name) ≡ true
    → IsDecided deed (patterned d name p q n) (decisions.Refused cases.WrongKind) d
pattern_taken d deed name p q n from to good fine taken =
    let last : List Row = (is_some (figure_named d.table name), cases.WrongKind) ∷ (not (is_count n), cases.BadCount) ∷ [] in
    rw (good.2 (point_cases d.table q last), fine.2 last, taken) refl

pub pattern_many : (d : Drilling) (deed : Deed) (name p q : List ℕ) (n : ℤ) (from to : Position) → IsPlace the_units.Inch d.table (places.Named p) (Ok from)
    → IsPlace the_units.Inch d.table (places.Named q) (Ok to) → is_some (figure_named d.table name) ≡ false → is_count n ≡ false
    → IsDecided deed (patterned d name p q n) (decisions.Refused cases.BadCount) d
pattern_many d deed name p q n from to good fine free many =
    let last : List Row = (is_some (figure_named d.table name), cases.WrongKind) ∷ (not (is_count n), cases.BadCount) ∷ [] in
    rw (good.2 (point_cases d.table q last), fine.2 last, free, many) refl

pub pattern_set : (d : Drilling) (deed : Deed) (name p q : List ℕ) (n : ℤ) (from to : Position) (patterns : Patterns) (count : ℕ) → IsPlace the_units.Inch d.table (places.Named p) (Ok from)
    → IsPlace the_units.Inch d.table (places.Named q) (Ok to) → is_some (figure_named d.table name) ≡ false → is_count n ≡ true → count ≡ unsigned_abs n
    → patterns ≡ insert_entry (pointwise nat_eq) d.patterns name (record { from = from; to = to; count = count })
    → IsDecided deed (patterned d name p q n) (decisions.Visits visiting.Nothing) (record d { patterns = patterns })
pattern_set d deed name p q n from to patterns count good fine free few counted same =
    let last : List Row = (is_some (figure_named d.table name), cases.WrongKind) ∷ (not (is_count n), cases.BadCount) ∷ [] in
    (rw (good.2 (point_cases d.table q last), fine.2 last, free, few, good.0, fine.0, same, counted) refl, tt)

-- ---- visits

pub visits_none : (d : Drilling) (deed : Deed) (name : List ℕ) → pattern_named d.patterns name ≡ None
    → IsDecided deed (visited_all d (pattern_named d.patterns name)) (decisions.Refused cases.Undefined) d
visits_none d deed name e = rw e refl

past : (a b : ℕ) → a < b → nat_lt a b ≡ true
past a b h = grind (arith, nat_tests)

not_past : (a b : ℕ) → b ≤ a → nat_lt a b ≡ false
not_past a b h = grind (arith, nat_tests)

pub visits_many : (d : Drilling) (deed : Deed) (name : List ℕ) (pattern : Pattern) → pattern_named d.patterns name ≡ Some pattern → 5000 < d.holes + pattern.count
    → IsDecided deed (visited_all d (pattern_named d.patterns name)) (decisions.Refused cases.TooManyHoles) d
visits_many d deed name pattern e many = rw (e, past 5000 (d.holes + pattern.count) many) refl

pub visits_all : (d : Drilling) (deed : Deed) (name : List ℕ) (pattern : Pattern) (holes : ℕ) → pattern_named d.patterns name ≡ Some pattern → d.holes + pattern.count ≤ 5000
    → holes ≡ d.holes + pattern.count → IsPattern pattern
    → IsDecided deed (visited_all d (pattern_named d.patterns name)) (decisions.Visits (visiting.All pattern)) (record d { holes = holes })
visits_all d deed name pattern holes e few counted is = (rw (e, not_past 5000 (d.holes + pattern.count) few, pattern_length pattern, counted) refl, is)

-- ---- places

pub goto_refused : (d : Drilling) (deed : Deed) (place : Place) (case : Case) → is_none d.cycle ≡ false → IsPlace d.units d.table place (Err case)
    → gone_to d deed place d.cycle ≡ Refused case
goto_refused d deed place case held bad = by d.cycle held
  where
    by : (o : Option Cycle) → is_none o ≡ false → gone_to d deed place o ≡ Refused case
    by None e = absurd cc
    by (Some c) e = rw (bad (visit_cases d 1)) refl

both : (a b : Bool) → (a && b) ≡ true → (a ≡ true) × (b ≡ true)
both true true e = (refl, refl)
both true false e = absurd cc
both false b e = absurd cc

near_reach : (v : ℤ) → is_in_reach v ≡ true → unsigned_abs v ≤ 50000000
near_reach v e = grind (arith, nat_tests, e)

pub at_reached : (units : Units) (table : Table) (x y : ℤ) (z : Option ℤ) (p : Position) → p ≡ position_by units x y z → is_reached p ≡ true → IsPlace units table (places.Xyz x y z) (Ok p)
at_reached units table x y z p is e =
    let first = both (is_in_reach p.xy.x) (are_in_reach p.xy.y p.z) e in
    let rest = both (is_in_reach p.xy.y) (is_in_reach p.z) first.1 in (
      ap Some (sym is),
      record { xy = record { x = near_reach p.xy.x first.0; y = near_reach p.xy.y rest.0 }; z = near_reach p.z rest.1 },
      λ more. subst (λ q. first_of (position_cases q more) ≡ first_of more) is (rw (first.0, rest.0, rest.1) refl),
    )

far_by : (a b c : Bool) (more : List Row) → (a && (b && c)) ≡ false
    → first_of ((not a, cases.OutOfRange) ∷ (not b, cases.OutOfRange) ∷ (not c, cases.OutOfRange) ∷ more) ≡ Some cases.OutOfRange
far_by true true true more e = absurd cc
far_by true true false more e = refl
far_by true false c more e = refl
far_by false b c more e = refl

pub at_far : (units : Units) (table : Table) (x y : ℤ) (z : Option ℤ) (p : Position) → p ≡ position_by units x y z → is_reached p ≡ false → IsPlace units table (places.Xyz x y z) (Err cases.OutOfRange)
at_far units table x y z p is e more =
    subst (λ q. first_of (position_cases q more) ≡ Some cases.OutOfRange) is (far_by (is_in_reach p.xy.x) (is_in_reach p.xy.y) (is_in_reach p.z) more e)

pub cycle_set : (d : Drilling) (deed : Deed) (depth clearance g h : ℤ) (decision : Decision) (now : Drilling) → g ≡ grid_units d.units depth → h ≡ grid_units d.units clearance
    → IsDecided deed (cycled d (record { depth = g; clearance = h })) decision now → IsDecided deed (cycled d (cycle_of d.units depth clearance)) decision now
cycle_set d deed depth clearance g h decision now e f is =
    subst (λ (c : Cycle). IsDecided deed (cycled d c) decision now) (ap (λ (x : ℤ). record { depth = x; clearance = h }) e ∙ ap (λ (y : ℤ). record { depth = grid_units d.units depth; clearance = y }) f) is

-- ---- definitions, with what was set

pub defined_set : (d : Drilling) (deed : Deed) (name : List ℕ) (form : Form) (table : Table) → is_some (pattern_named d.patterns name) ≡ false → IsSet d.units d.table name form true table
    → IsDecided deed (defined d deed name form) decisions.Stays (record d { table = table })
defined_set d deed name form table free set = defined_stays d deed name form set.0 table free set.1 set.2

pub defined_not : (d : Drilling) (deed : Deed) (name : List ℕ) (form : Form) (table : Table) → is_some (pattern_named d.patterns name) ≡ false → IsSet d.units d.table name form false table
    → IsDecided deed (defined d deed name form) decisions.Stopped (record d { table = table })
defined_not d deed name form table free set = defined_stops d deed name form set.0 (record d { table = table }) free set.1

-- ---- the points of a pattern

pub point_is : (pattern : Pattern) (k : ℕ) (x y z : ℤ) (p : Position) → p ≡ position_at x y z → x ≡ along pattern.from.xy.x pattern.to.xy.x (pattern.count - 1) k
    → y ≡ along pattern.from.xy.y pattern.to.xy.y (pattern.count - 1) k → z ≡ along pattern.from.z pattern.to.z (pattern.count - 1) k → p ≡ point_at pattern k
point_is pattern k x y z p is at_x at_y at_z = rw (is, at_x, at_y, at_z) refl

-- one point more

pub all_more : (st : Step) (units : Units) (cycle : Option Cycle) (pattern : Pattern) (k : ℕ) (before now total : List Step) → k < pattern.count
    → now ≡ before ++ plain_steps st (visit units cycle (point_at pattern k))
    → before ++ plain_steps st (visits units cycle (points_from pattern k (pattern.count - k))) ≡ total
    → now ++ plain_steps st (visits units cycle (points_from pattern (k + 1) (pattern.count - (k + 1)))) ≡ total
all_more st units cycle pattern k before now total h is so_far =
    let own = plain_steps st (visit units cycle (point_at pattern k)) in
    let rest = visits units cycle (points_from pattern (k + 1) (pattern.count - (k + 1))) in
    let left : pattern.count - k ≡ suc (pattern.count - (k + 1)) = omega (arith, h) in
    ap (λ xs. xs ++ plain_steps st rest) is ∙ append_assoc before own (plain_steps st rest)
    ∙ ap (λ xs. before ++ xs) (sym (map-append (in_place st) (visit units cycle (point_at pattern k)) rest))
    ∙ ap (λ n. before ++ plain_steps st (visits units cycle (points_from pattern k n))) (sym left) ∙ so_far

-- ---- one step more

pub visits_taken : (st : Step) (before now : List Step) (due : Outcome) (v : Visited) (next : Drilling) (units : Units) (cycle : Option Cycle)
    → IsDecided st.deed due (decisions.Visits v) next → units ≡ next.units → cycle ≡ next.cycle → now ≡ before ++ plain_steps st (visits units cycle (points_in v))
    → IsTaken st before now due takes.On next
visits_taken st before now due v next units cycle is same held came = (
  visits next.units next.cycle (points_in v),
  is.0,
  came ∙ ap (λ u. before ++ plain_steps st (visits u cycle (points_in v))) same ∙ ap (λ o. before ++ plain_steps st (visits next.units o (points_in v))) held,
)

pub all_taken : (st : Step) (left : List Step) (fault : Option Refusal) (d next : Drilling) (before now : List Step) (total : Trace)
    → IsTaken st before now (outcome d st.deed) takes.On next → with_front before (expanded_from d (st ∷ left) fault) ≡ total → with_front now (expanded_from next left fault) ≡ total
all_taken st left fault d next before now total (ds, comes, came) so_far =
    ap (λ xs. with_front xs (expanded_from next left fault)) came
    ∙ ap (λ xs. record { steps = xs; fault = (expanded_from next left fault).fault }) (append_assoc before (plain_steps st ds) (expanded_from next left fault).steps)
    ∙ ap (λ o. with_front before (expanded_by st o (λ n. expanded_from n left fault))) (sym comes) ∙ so_far

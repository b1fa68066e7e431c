-- The units and the figures that hold before a step are those of the situation there.
use Rattle.std.proofs.Common.{◌≡◌, ◌∙◌, ◌⊎◌, inl, inr, ℕ, ℤ, false, List, [], ◌∷◌, ◌++◌, Option, Some, None, Result, Ok, Err, refl, sym, ap, subst}
use Rattle.std.specs.Prelude.{unwrap_or}
use Rattle.apt_words.specs.Asks.{Ask, Titles, Says, Sets, Defines, Goes, Cuts, Nothing, ask_of, asks_end}
use Rattle.apt_words.specs.Drills.{drill_of}
use Rattle.apt_words.specs.Options.{◌>>=◌}
use Rattle.apt_words.specs.Rows.{Row, first_of}
use Rattle.apt_words.specs.declared.Case.{Case}
use Rattle.apt_words.specs.declared.Units.{Units}
use Rattle.apt_words.specs.declared.ask.Form.{Form}
use Rattle.apt_words.specs.declared.ask.Place.{Place}
use Rattle.apt_words.specs.declared.ask.Route.{Route}
use Rattle.apt_words.specs.declared.ask.Route.TheVariants as routes
use Rattle.apt_words.specs.declared.ask.Saying.{Saying}
use Rattle.apt_words.specs.declared.deed.Deed.{Deed}
use Rattle.apt_words.specs.declared.deed.Deed.TheVariants as deeds
use Rattle.apt_words.specs.declared.drill.Drill.{Drill}
use Rattle.apt_words.specs.declared.drill.Drill.TheVariants as drills
use Rattle.apt_plane.specs.declared.figures.Pt.{Pt}
use Rattle.apt_scalar.specs.Scalars.{whole}
use Rattle.apt_records.specs.declared.record.Note.{Note}
use Rattle.apt_records.specs.declared.record.Note.TheVariants as notes
use Rattle.apt_records.specs.declared.record.Position.{Position}
use Rattle.apt_records.specs.declared.record.Reach.{Reach}
use Rattle.apt_records.specs.declared.record.Reach.TheVariants as reaches
use Rattle.apt_defs.specs.declared.figure.Figure.{Figure}
use Rattle.apt_defs.specs.Figures.{table_with}
use Rattle.apt_defs.specs.Definitions.{figure_of}
use Rattle.apt_stop.specs.declared.legs.Legs.{Legs}
use Rattle.apt_meaning.specs.declared.effect.Change.TheVariants as changes
use Rattle.apt_meaning.specs.declared.effect.Effect.{Effect}
use Rattle.apt_meaning.specs.declared.effect.Effect.TheVariants as effects
use Rattle.apt_meaning.specs.declared.motion.Motion.{Motion}
use Rattle.apt_meaning.specs.declared.situation.Settings.{Settings}
use Rattle.apt_meaning.specs.declared.situation.Situation.{Situation}
use Rattle.apt_meaning.specs.Situations.{settings_with, settings_behind}
use Rattle.apt_meaning.specs.Effects.{effect_by, effect_of, note_of, names, defined as defines, moves, cuts, cuts_by, legs_by, goes, place_at, place_in, placed, position_by, moved_from}
use Rattle.apt_meaning.specs.Refusals.{placed_cases}
use Rattle.apt_meaning.specs.Motions.{motion_at}
use Rattle.apt_meaning.specs.StartUps.{start_position_at}
use Rattle.apt_meaning.specs.Records.{after}
use Rattle.apt_post.specs.Plan.{note_units}
use Rattle.apt_pattern.specs.declared.cycle.Cycle.{Cycle}
use Rattle.apt_pattern.specs.declared.pattern.Pattern.{Pattern}
use Rattle.apt_pattern.specs.Patterns.{visit, visits, points_of}
use Rattle.apt_pattern.specs.Expansions.{Drilling, Outcome, Comes, Refused, Stops, or_case, unless_case, visit_cases, visited, visited_one, visited_all, gone_to, gone, defined_as, definition_cases, units_behind, plain, pattern_named, pattern_cases, patterned_as, cycle_cases, cycle_of, drilled, outcome_by, outcome}

pub record Agrees (d : Drilling) (here : Situation) : Type 0 where
  pub units : here.settings.units ≡ d.units
  pub table : here.table ≡ d.table

-- the same units and figures
pub record IsSame (d now : Drilling) : Type 0 where
  pub units : now.units ≡ d.units
  pub table : now.table ≡ d.table

same : (d : Drilling) → IsSame d d
same d = record { units = refl; table = refl }

-- ---- what a step that stays changes

abbrev pub Changes : Drilling → Ask → Drilling → Type 0
Changes d (Titles text) now = IsSame d now
Changes d (Says saying) now = (now.units ≡ units_behind d.units saying) × (now.table ≡ d.table)
Changes d (Sets side) now = IsSame d now
Changes d (Defines name form) now = (now.units ≡ d.units) × ((f : Figure) × (figure_of d.units d.table form ≡ Ok f) × (now.table ≡ table_with d.table name f))
Changes d (Goes route) now = IsSame d now
Changes d (Cuts contour n) now = IsSame d now
Changes d Nothing now = IsSame d now

-- RAPID or GOTO by coordinates
abbrev pub IsVisit : Deed → Type 0
IsVisit deeds.Rapid = Unit {0}
IsVisit (deeds.GotoXy x y z) = Unit {0}
IsVisit _ = ⊥

abbrev pub AreVisits : List Deed → Type 0
AreVisits [] = Unit {0}
AreVisits (deed ∷ ds) = IsVisit deed × AreVisits ds

-- the step is no end of the program
abbrev pub IsOpen : Deed → Type 0
IsOpen deed = asks_end (ask_of deed) ≡ false

-- a step stays, or visits come in its place
abbrev pub IsReplaced : Drilling → Deed → List Deed → Drilling → Type 0
IsReplaced d deed ds now = ((ds ≡ deed ∷ []) × Changes d (ask_of deed) now) ⊎ (AreVisits ds × IsSame d now × IsOpen deed)

-- a step of patterns and cycles asks for nothing else
pub drill_asks : (deed : Deed) (drill : Drill) → drill_of deed ≡ Some drill → ask_of deed ≡ Nothing
drill_asks (deeds.Patern n p q v) drill e = refl
drill_asks (deeds.CycleDrill d c) drill e = refl
drill_asks deeds.CycleOff drill e = refl
drill_asks (deeds.GotoPatern n) drill e = refl
drill_asks _ drill e = absurd cc

-- ---- visits

visit_visits : (units : Units) (cycle : Option Cycle) (p : Position) (more : List Deed) → AreVisits more → AreVisits (visit units cycle p ++ more)
visit_visits units None p more are = (tt, are)
visit_visits units (Some cycle) p more are = (tt, (tt, (tt, (tt, (tt, are)))))

pub visits_are : (units : Units) (cycle : Option Cycle) (ps : List Position) → AreVisits (visits units cycle ps)
visits_are units cycle [] = tt
visits_are units cycle (p ∷ ps) = visit_visits units cycle p (visits units cycle ps) (visits_are units cycle ps)

-- ---- what an outcome says

-- a fact of what comes
abbrev pub OfComing : (List Deed → Drilling → Type 0) → Outcome → Type 0
OfComing P (Comes ds now) = P ds now
OfComing P (Refused case) = Unit {0}
OfComing P Stops = Unit {0}

pub unless_comes : (P : List Deed → Drilling → Type 0) (rows : List Row) (o : Outcome) → (first_of rows ≡ None → OfComing P o) → OfComing P (unless_case rows o)
unless_comes P rows o is = by (first_of rows) refl
  where
    by : (c : Option Case) → first_of rows ≡ c → OfComing P (or_case c o)
    by None none = is none
    by (Some case) none = tt

visited_of : (d : Drilling) (ps : List Position) → OfComing (λ ds now. AreVisits ds × IsSame d now) (visited d ps)
visited_of d ps = (visits_are d.units d.cycle ps, record { units = refl; table = refl })

-- as a replacement of any step
abbrev Replaces : Drilling → Deed → Outcome → Type 0
Replaces d deed o = OfComing (IsReplaced d deed) o

visited_replaces : (d : Drilling) (deed : Deed) (ps : List Position) → IsOpen deed → Replaces d deed (visited d ps)
visited_replaces d deed ps goes_on = let v = visited_of d ps in inr (v.0, v.1, goes_on)

one_replaces : (d : Drilling) (deed : Deed) (o : Option Position) → IsOpen deed → Replaces d deed (visited_one d o)
one_replaces d deed None goes_on = tt
one_replaces d deed (Some p) goes_on = visited_replaces d deed (p ∷ []) goes_on

all_replaces : (d : Drilling) (deed : Deed) (o : Option Pattern) → IsOpen deed → Replaces d deed (visited_all d o)
all_replaces d deed None goes_on = tt
all_replaces d deed (Some pattern) goes_on = unless_comes (IsReplaced d deed) (visit_cases d pattern.count) (visited d (points_of pattern)) (λ none. visited_replaces d deed (points_of pattern) goes_on)

stays_replaces : (d : Drilling) (deed : Deed) (ask : Ask) (now : Drilling) → ask_of deed ≡ ask → Changes d ask now → IsReplaced d deed (deed ∷ []) now
stays_replaces d deed ask now is changes = inl (refl, subst (λ a. Changes d a now) (sym is) changes)

goto_replaces : (d : Drilling) (deed : Deed) (place : Place) (cycle : Option Cycle) → ask_of deed ≡ Goes (routes.Goto place) → Replaces d deed (gone_to d deed place cycle)
goto_replaces d deed place None is = stays_replaces d deed (Goes (routes.Goto place)) d is (same d)
goto_replaces d deed place (Some cycle) is =
    unless_comes (IsReplaced d deed) (placed_cases d.units d.table place (visit_cases d 1)) (visited_one d (placed d.units d.table place))
    (λ none. one_replaces d deed (placed d.units d.table place) (ap asks_end is))

gone_replaces : (d : Drilling) (deed : Deed) (route : Route) → ask_of deed ≡ Goes route → Replaces d deed (gone d deed route)
gone_replaces d deed (routes.From place) is = stays_replaces d deed (Goes (routes.From place)) d is (same d)
gone_replaces d deed (routes.Goto place) is = goto_replaces d deed place d.cycle is
gone_replaces d deed (routes.By x y z) is = stays_replaces d deed (Goes (routes.By x y z)) d is (same d)
gone_replaces d deed (routes.Start how name other) is = stays_replaces d deed (Goes (routes.Start how name other)) d is (same d)

defined_replaces : (d : Drilling) (deed : Deed) (name : List ℕ) (form : Form) (r : Result Figure Case) → ask_of deed ≡ Defines name form → figure_of d.units d.table form ≡ r
    → Replaces d deed (defined_as d deed name r)
defined_replaces d deed name form (Ok f) is drawn = stays_replaces d deed (Defines name form) (record d { table = table_with d.table name f }) is (refl, (f, drawn, refl))
defined_replaces d deed name form (Err case) is drawn = tt

plain_replaces : (d : Drilling) (deed : Deed) (ask : Ask) → ask_of deed ≡ ask → Replaces d deed (plain d deed ask)
plain_replaces d deed (Titles text) is = stays_replaces d deed (Titles text) d is (same d)
plain_replaces d deed (Says saying) is = stays_replaces d deed (Says saying) (record d { units = units_behind d.units saying }) is (refl, refl)
plain_replaces d deed (Sets side) is = stays_replaces d deed (Sets side) d is (same d)
plain_replaces d deed (Defines name form) is =
    unless_comes (IsReplaced d deed) (definition_cases d.patterns name) (defined_as d deed name (figure_of d.units d.table form))
    (λ none. defined_replaces d deed name form (figure_of d.units d.table form) is refl)
plain_replaces d deed (Goes route) is = gone_replaces d deed route is
plain_replaces d deed (Cuts contour n) is = stays_replaces d deed (Cuts contour n) d is (same d)
plain_replaces d deed Nothing is = stays_replaces d deed Nothing d is (same d)

patterned_replaces : (d : Drilling) (deed : Deed) (name : List ℕ) (n : ℤ) (p q : Option Position) → IsOpen deed → Replaces d deed (patterned_as d name n p q)
patterned_replaces d deed name n None q goes_on = tt
patterned_replaces d deed name n (Some from) None goes_on = tt
patterned_replaces d deed name n (Some from) (Some to) goes_on = inr (tt, record { units = refl; table = refl }, goes_on)

drilled_replaces : (d : Drilling) (deed : Deed) (drill : Drill) → IsOpen deed → Replaces d deed (drilled d drill)
drilled_replaces d deed (drills.Pattern name p q v) goes_on =
    unless_comes (IsReplaced d deed) (pattern_cases d name p q (whole v)) (patterned_as d name (whole v) (place_in d.table p) (place_in d.table q))
    (λ none. patterned_replaces d deed name (whole v) (place_in d.table p) (place_in d.table q) goes_on)
drilled_replaces d deed (drills.Cycle depth clearance) goes_on =
    unless_comes (IsReplaced d deed) (cycle_cases (cycle_of d.units depth clearance)) (Comes [] (record d { cycle = Some (cycle_of d.units depth clearance) })) (λ none. inr (tt, record { units = refl; table = refl }, goes_on))
drilled_replaces d deed drills.Off goes_on = inr (tt, record { units = refl; table = refl }, goes_on)
drilled_replaces d deed (drills.Visit name) goes_on = all_replaces d deed (pattern_named d.patterns name) goes_on

outcome_replaces : (d : Drilling) (deed : Deed) (o : Option Drill) → drill_of deed ≡ o → Replaces d deed (outcome_by d deed o)
outcome_replaces d deed None is = plain_replaces d deed (ask_of deed) refl
outcome_replaces d deed (Some drill) is = drilled_replaces d deed drill (ap asks_end (drill_asks deed drill is))

-- what comes in the place of a step
pub replaced : (d : Drilling) (deed : Deed) (ds : List Deed) (now : Drilling) → outcome d deed ≡ Comes ds now → IsReplaced d deed ds now
replaced d deed ds now e = subst (OfComing (IsReplaced d deed)) e (outcome_replaces d deed (drill_of deed) refl)

-- ---- a definition that its own case refuses

abbrev OfStopping : (Type 0) → Outcome → Type 0
OfStopping P (Comes ds now) = Unit {0}
OfStopping P (Refused case) = Unit {0}
OfStopping P Stops = P

-- the step is a definition of which the figures say a case
pub record IsBad (d : Drilling) (deed : Deed) : Type 0 where
  pub name : List ℕ
  pub form : Form
  pub case : Case
  pub asks : ask_of deed ≡ Defines name form
  pub refused : figure_of d.units d.table form ≡ Err case

unless_stops : (P : Type 0) (rows : List Row) (o : Outcome) → OfStopping P o → OfStopping P (unless_case rows o)
unless_stops P rows o is = by (first_of rows)
  where
    by : (c : Option Case) → OfStopping P (or_case c o)
    by None = is
    by (Some case) = tt

one_stops : (P : Type 0) (d : Drilling) (o : Option Position) → OfStopping P (visited_one d o)
one_stops P d None = tt
one_stops P d (Some p) = tt

goto_stops : (P : Type 0) (d : Drilling) (deed : Deed) (place : Place) (cycle : Option Cycle) → OfStopping P (gone_to d deed place cycle)
goto_stops P d deed place None = tt
goto_stops P d deed place (Some cycle) = unless_stops P (placed_cases d.units d.table place (visit_cases d 1)) (visited_one d (placed d.units d.table place)) (one_stops P d (placed d.units d.table place))

gone_stops : (P : Type 0) (d : Drilling) (deed : Deed) (route : Route) → OfStopping P (gone d deed route)
gone_stops P d deed (routes.From place) = tt
gone_stops P d deed (routes.Goto place) = goto_stops P d deed place d.cycle
gone_stops P d deed (routes.By x y z) = tt
gone_stops P d deed (routes.Start how name other) = tt

defined_stops : (d : Drilling) (deed : Deed) (name : List ℕ) (form : Form) (r : Result Figure Case) → ask_of deed ≡ Defines name form → figure_of d.units d.table form ≡ r
    → OfStopping (IsBad d deed) (defined_as d deed name r)
defined_stops d deed name form (Ok f) is drawn = tt
defined_stops d deed name form (Err case) is drawn = record { name = name; form = form; case = case; asks = is; refused = drawn }

plain_stops : (d : Drilling) (deed : Deed) (ask : Ask) → ask_of deed ≡ ask → OfStopping (IsBad d deed) (plain d deed ask)
plain_stops d deed (Titles text) is = tt
plain_stops d deed (Says saying) is = tt
plain_stops d deed (Sets side) is = tt
plain_stops d deed (Defines name form) is =
    unless_stops (IsBad d deed) (definition_cases d.patterns name) (defined_as d deed name (figure_of d.units d.table form))
    (defined_stops d deed name form (figure_of d.units d.table form) is refl)
plain_stops d deed (Goes route) is = gone_stops (IsBad d deed) d deed route
plain_stops d deed (Cuts contour n) is = tt
plain_stops d deed Nothing is = tt

patterned_stops : (P : Type 0) (d : Drilling) (name : List ℕ) (n : ℤ) (p q : Option Position) → OfStopping P (patterned_as d name n p q)
patterned_stops P d name n None q = tt
patterned_stops P d name n (Some from) None = tt
patterned_stops P d name n (Some from) (Some to) = tt

all_stops : (P : Type 0) (d : Drilling) (o : Option Pattern) → OfStopping P (visited_all d o)
all_stops P d None = tt
all_stops P d (Some pattern) = unless_stops P (visit_cases d pattern.count) (visited d (points_of pattern)) tt

drilled_stops : (P : Type 0) (d : Drilling) (drill : Drill) → OfStopping P (drilled d drill)
drilled_stops P d (drills.Pattern name p q v) =
    unless_stops P (pattern_cases d name p q (whole v)) (patterned_as d name (whole v) (place_in d.table p) (place_in d.table q))
    (patterned_stops P d name (whole v) (place_in d.table p) (place_in d.table q))
drilled_stops P d (drills.Cycle depth clearance) = unless_stops P (cycle_cases (cycle_of d.units depth clearance)) (Comes [] (record d { cycle = Some (cycle_of d.units depth clearance) })) tt
drilled_stops P d drills.Off = tt
drilled_stops P d (drills.Visit name) = all_stops P d (pattern_named d.patterns name)

outcome_stops : (d : Drilling) (deed : Deed) (o : Option Drill) → OfStopping (IsBad d deed) (outcome_by d deed o)
outcome_stops d deed None = plain_stops d deed (ask_of deed) refl
outcome_stops d deed (Some drill) = drilled_stops (IsBad d deed) d drill

pub stopped : (d : Drilling) (deed : Deed) → outcome d deed ≡ Stops → IsBad d deed
stopped d deed e = subst (OfStopping (IsBad d deed)) e (outcome_stops d deed (drill_of deed))

-- ---- what effects leave

note_keeps : (s : Settings) (note : Note) → (settings_with s note).units ≡ unwrap_or (note_units note) s.units
note_keeps s (notes.Partno text) = refl
note_keeps s (notes.Units units) = refl
note_keeps s (notes.Cutter d) = refl
note_keeps s (notes.Intol t) = refl
note_keeps s (notes.Outtol t) = refl
note_keeps s (notes.Feed f) = refl
note_keeps s (notes.Do command) = refl
note_keeps s notes.Rapid = refl
note_keeps s notes.End = refl
note_keeps s notes.Fini = refl

reach_keeps : (s : Settings) (reach : Reach) → (settings_behind reach s).units ≡ s.units
reach_keeps s reaches.From = refl
reach_keeps s reaches.Goto = refl
reach_keeps s reaches.Godlta = refl
reach_keeps s reaches.Start = refl

-- an effect that leaves units and figures
abbrev Leaves : Situation → List (List Pt) → Effect → Type 0
Leaves here vs e = ((after here e vs).settings.units ≡ here.settings.units) × ((after here e vs).table ≡ here.table)

moves_leave : (here : Situation) (vs : List (List Pt)) (reach : Reach) (to : Position) → Leaves here vs (effects.Moves reach to)
moves_leave here vs reach to = (reach_keeps here.settings reach, refl)

abbrev IfThere : (Effect → Type 0) → Option Effect → Type 0
IfThere P None = Unit {0}
IfThere P (Some e) = P e

moves_all : (here : Situation) (vs : List (List Pt)) (reach : Reach) (o : Option Position) → IfThere (Leaves here vs) (moves reach o)
moves_all here vs reach None = tt
moves_all here vs reach (Some to) = moves_leave here vs reach to

cuts_all : (here : Situation) (vs : List (List Pt)) (legs : Option Legs) (o : Option Motion) → IfThere (Leaves here vs) (legs >>= λ all. cuts all o)
cuts_all here vs None o = tt
cuts_all here vs (Some legs) None = tt
cuts_all here vs (Some legs) (Some m) = (refl, refl)

goes_all : (here : Situation) (vs : List (List Pt)) (route : Route) → IfThere (Leaves here vs) (goes here route)
goes_all here vs (routes.From place) = moves_all here vs reaches.From (place_at here place)
goes_all here vs (routes.Goto place) = moves_all here vs reaches.Goto (place_at here place)
goes_all here vs (routes.By x y z) = moves_all here vs reaches.Godlta (moved_from here x y z)
goes_all here vs (routes.Start how name other) = moves_all here vs reaches.Start (start_position_at here how name other)

-- what it leaves agrees with what holds
abbrev AgreesBehind : Drilling → Situation → List (List Pt) → Effect → Type 0
AgreesBehind now here vs e = Agrees now (after here e vs)

left_alone : (d now : Drilling) (here : Situation) (vs : List (List Pt)) (o : Option Effect) → Agrees d here → IsSame d now → IfThere (Leaves here vs) o → IfThere (AgreesBehind now here vs) o
left_alone d now here vs None agrees is leaves = tt
left_alone d now here vs (Some e) agrees is leaves = record { units = leaves.0 ∙ agrees.units ∙ sym is.units; table = leaves.1 ∙ agrees.table ∙ sym is.table }

says_agrees : (d now : Drilling) (here : Situation) (vs : List (List Pt)) (saying : Saying) → Agrees d here → (now.units ≡ units_behind d.units saying) × (now.table ≡ d.table)
    → Agrees now (after here (effects.Sets (changes.Said (note_of here.settings.units saying))) vs)
says_agrees d now here vs saying agrees is = record {
  units = note_keeps here.settings (note_of here.settings.units saying) ∙ ap (λ u. units_behind u saying) agrees.units ∙ sym is.0;
  table = agrees.table ∙ sym is.1;
}

names_agree : (d now : Drilling) (here : Situation) (vs : List (List Pt)) (name : List ℕ) (f : Figure) (r : Result Figure Case) → Agrees d here → now.units ≡ d.units → r ≡ Ok f → now.table ≡ table_with d.table name f
    → IfThere (AgreesBehind now here vs) (names name r)
names_agree d now here vs name f (Ok g) agrees units drawn set =
    let same_figure : g ≡ f = cc in
    record { units = agrees.units ∙ sym units; table = ap (λ t. table_with t name g) agrees.table ∙ ap (λ h. table_with d.table name h) same_figure ∙ sym set }
names_agree d now here vs name f (Err case) agrees units drawn set = tt

defines_agrees : (d now : Drilling) (here : Situation) (vs : List (List Pt)) (name : List ℕ) (form : Form) → Agrees d here → Changes d (Defines name form) now
    → IfThere (AgreesBehind now here vs) (defines here name form)
unfolding defines
defines_agrees d now here vs name form agrees is =
    names_agree d now here vs name is.1.0 (figure_of here.settings.units here.table form) agrees is.0
    (rw (agrees.units, agrees.table) is.1.1) is.1.2

ask_agrees : (d now : Drilling) (here : Situation) (vs : List (List Pt)) (ask : Ask) → Agrees d here → Changes d ask now → IfThere (AgreesBehind now here vs) (effect_by here ask)
ask_agrees d now here vs (Titles text) agrees is = left_alone d now here vs (Some (effects.Sets (changes.Said (notes.Partno text)))) agrees is (refl, refl)
ask_agrees d now here vs (Says saying) agrees is = says_agrees d now here vs saying agrees is
ask_agrees d now here vs (Sets side) agrees is = left_alone d now here vs (Some (effects.Sets (changes.Side side))) agrees is (refl, refl)
ask_agrees d now here vs (Defines name form) agrees is = defines_agrees d now here vs name form agrees is
ask_agrees d now here vs (Goes route) agrees is = left_alone d now here vs (goes here route) agrees is (goes_all here vs route)
ask_agrees d now here vs (Cuts contour n) agrees is =
    left_alone d now here vs (cuts_by (whole n) (motion_at here contour)) agrees is (cuts_all here vs (legs_by (whole n)) (motion_at here contour))
ask_agrees d now here vs Nothing agrees is = left_alone d now here vs (Some (effects.Sets changes.Nothing)) agrees is (refl, refl)

-- behind a step that stays
pub stays_agrees : (d now : Drilling) (here : Situation) (deed : Deed) (e : Effect) (vs : List (List Pt)) → Agrees d here → Changes d (ask_of deed) now → effect_of here deed ≡ Some e
    → Agrees now (after here e vs)
stays_agrees d now here deed e vs agrees is asked = subst (IfThere (AgreesBehind now here vs)) asked (ask_agrees d now here vs (ask_of deed) agrees is)

-- behind a visit
pub visit_agrees : (d : Drilling) (here : Situation) (deed : Deed) (e : Effect) (vs : List (List Pt)) → Agrees d here → IsVisit deed → effect_of here deed ≡ Some e → Agrees d (after here e vs)
visit_agrees d here deeds.Rapid e vs agrees is asked = subst (IfThere (AgreesBehind d here vs)) asked (left_alone d d here vs (Some (effects.Sets (changes.Said notes.Rapid))) agrees (same d) (refl, refl))
visit_agrees d here (deeds.GotoXy x y z) e vs agrees is asked =
    subst (IfThere (AgreesBehind d here vs)) asked (left_alone d d here vs (effect_of here (deeds.GotoXy x y z)) agrees (same d) (moves_leave here vs reaches.Goto (position_by here.settings.units x y z)))
visit_agrees d here _ e vs agrees is asked = absurd is

-- with others of the same units and figures
pub same_agrees : (d now : Drilling) (here : Situation) → Agrees d here → IsSame d now → Agrees now here
same_agrees d now here agrees is = record { units = agrees.units ∙ sym is.units; table = agrees.table ∙ sym is.table }

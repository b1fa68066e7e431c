-- Steps without patterns and cycles are their own plain steps, where none of them is refused.
use Rattle.std.proofs.Common.{ap, ◌≡◌, ℕ, List, [], ◌∷◌, ◌++◌, Option, Some, None, Result, Ok, Err, refl, sym, subst}
use Rattle.apt_words.specs.Asks.{Ask, Titles, Says, Sets, Defines, Goes, Cuts, Nothing, ask_of}
use Rattle.apt_words.specs.Drills.{AreUndrilled}
use Rattle.apt_words.specs.declared.Case.{Case}
use Rattle.apt_words.specs.declared.Refusal.{Refusal}
use Rattle.apt_words.specs.Rows.{first_of}
use Rattle.apt_words.specs.declared.ask.Place.{Place}
use Rattle.apt_words.specs.declared.ask.Route.{Route}
use Rattle.apt_words.specs.declared.ask.Route.TheVariants as routes
use Rattle.apt_words.specs.declared.deed.Deed.{Deed}
use Rattle.apt_words.specs.declared.deed.Step.{Step}
use Rattle.apt_defs.specs.declared.figure.Figure.{Figure}
use Rattle.apt_defs.specs.Definitions.{figure_of}
use Rattle.apt_meaning.specs.declared.situation.Situation.{Situation}
use Rattle.apt_meaning.specs.Situations.{first_situation}
use Rattle.apt_meaning.specs.Compiled.{first_refused}
use Rattle.apt_pattern.specs.declared.cycle.Cycle.{Cycle}
use Rattle.apt_pattern.specs.Expansions.{Patterns, Drilling, nothing_drilled, Outcome, Comes, Refused, Stops, or_case, definition_cases, gone_to, gone, defined_as, plain, outcome_by, outcome, plain_steps, expanded_by, expanded_from, expansion}
use Rattle.apt_pattern.proofs.Agreeing.{Agrees, replaced}
use Rattle.apt_pattern.proofs.Passing.{agrees_first, past, steps_past, never_past}

-- no name is a pattern, and there is no cycle
pub record IsBare (d : Drilling) : Type 0 where
  pub patterns : d.patterns ≡ []
  pub cycle : d.cycle ≡ None

-- it stays, behind which nothing is drilled either, or it stops
abbrev StaysBare : Deed → Outcome → Type 0
StaysBare deed (Comes ds now) = (ds ≡ deed ∷ []) × IsBare now
StaysBare deed (Refused case) = ⊥
StaysBare deed Stops = Unit {0}

defined_bare : (d : Drilling) (deed : Deed) (name : List ℕ) (r : Result Figure Case) → IsBare d → StaysBare deed (defined_as d deed name r)
defined_bare d deed name (Ok f) bare = (refl, record { patterns = bare.patterns; cycle = bare.cycle })
defined_bare d deed name (Err case) bare = tt

goto_bare : (d : Drilling) (deed : Deed) (place : Place) (cycle : Option Cycle) → cycle ≡ None → IsBare d → StaysBare deed (gone_to d deed place cycle)
goto_bare d deed place None none bare = (refl, bare)
goto_bare d deed place (Some cycle) none bare = absurd cc

gone_bare : (d : Drilling) (deed : Deed) (route : Route) → IsBare d → StaysBare deed (gone d deed route)
gone_bare d deed (routes.From place) bare = (refl, bare)
gone_bare d deed (routes.Goto place) bare = goto_bare d deed place d.cycle bare.cycle bare
gone_bare d deed (routes.By x y z) bare = (refl, bare)
gone_bare d deed (routes.Start how name other) bare = (refl, bare)

unless_bare : (deed : Deed) (case : Option Case) (o : Outcome) → case ≡ None → StaysBare deed o → StaysBare deed (or_case case o)
unless_bare deed None o none is = is
unless_bare deed (Some case) o none is = absurd cc

no_pattern : (patterns : Patterns) (name : List ℕ) → patterns ≡ [] → first_of (definition_cases patterns name) ≡ None
no_pattern patterns name none = rw none refl

plain_bare : (d : Drilling) (deed : Deed) (ask : Ask) → IsBare d → StaysBare deed (plain d deed ask)
plain_bare d deed (Titles text) bare = (refl, bare)
plain_bare d deed (Says saying) bare = (refl, record { patterns = bare.patterns; cycle = bare.cycle })
plain_bare d deed (Sets side) bare = (refl, bare)
plain_bare d deed (Defines name form) bare =
    unless_bare deed (first_of (definition_cases d.patterns name)) (defined_as d deed name (figure_of d.units d.table form)) (no_pattern d.patterns name bare.patterns)
    (defined_bare d deed name (figure_of d.units d.table form) bare)
plain_bare d deed (Goes route) bare = gone_bare d deed route bare
plain_bare d deed (Cuts contour n) bare = (refl, bare)
plain_bare d deed Nothing bare = (refl, bare)

alone : (here : Situation) (st : Step) (rest : List Step) → first_refused here (st ∷ rest) ≡ None → first_refused here (st ∷ []) ≡ None
alone here st rest fine = let p = past here st rest fine in rw (p.fine, p.asks) refl

as_from : (d : Drilling) (here : Situation) (steps : List Step) → IsBare d → Agrees d here → AreUndrilled steps → first_refused here steps ≡ None
    → expanded_from d steps None ≡ record { steps = steps; fault = None }
as_from d here [] bare agrees are fine = refl
as_from d here (st ∷ rest) bare agrees are fine =
    by (outcome d st.deed) refl (subst (λ o. StaysBare st.deed (outcome_by d st.deed o)) (sym are.0) (plain_bare d st.deed (ask_of st.deed) bare)) (λ now there bare agrees. as_from now there rest bare agrees are.1)
  where
    by : (o : Outcome) → outcome d st.deed ≡ o → StaysBare st.deed o
        → ((now : Drilling) (there : Situation) → IsBare now → Agrees now there → first_refused there rest ≡ None → expanded_from now rest None ≡ record { steps = rest; fault = None })
        → expanded_by st o (λ now. expanded_from now rest None) ≡ record { steps = st ∷ rest; fault = None }
    by (Comes ds now) is stays later =
        let own : first_refused here (plain_steps st ds ++ rest) ≡ None = subst (λ xs. first_refused here (plain_steps st xs ++ rest) ≡ None) (sym stays.0) fine in
        let p = steps_past d now here st ds rest agrees (replaced d st.deed ds now is) own in
        rw (stays.0, later now p.there stays.1 p.agrees p.fine) refl
    by (Refused case) is stays later = absurd stays
    by Stops is stays later = absurd (never_past d here st agrees is (alone here st rest fine))

-- the plain steps of steps without patterns and cycles, of which no case refuses one, are these steps
pub as_they_are : (steps : List Step) → AreUndrilled steps → first_refused first_situation steps ≡ None → expansion steps None ≡ record { steps = steps; fault = None }
as_they_are steps are fine = as_from nothing_drilled first_situation steps (record { patterns = refl; cycle = refl }) agrees_first are fine

-- ---- in any case they are a front part of these steps

-- of steps behind which no name is a pattern and no cycle is set
kept_from : (d : Drilling) (sts : List Step) (fault : Option Refusal) → IsBare d → AreUndrilled sts → (rest : List Step) × (sts ≡ (expanded_from d sts fault).steps ++ rest)
kept_from d [] fault bare are = ([], refl)
kept_from d (st ∷ sts) fault bare are =
    by (outcome d st.deed) (subst (λ o. StaysBare st.deed (outcome_by d st.deed o)) (sym are.0) (plain_bare d st.deed (ask_of st.deed) bare)) (λ now bare. kept_from now sts fault bare are.1)
  where
    by : (o : Outcome) → StaysBare st.deed o → ((now : Drilling) → IsBare now → (rest : List Step) × (sts ≡ (expanded_from now sts fault).steps ++ rest))
        → (rest : List Step) × (st ∷ sts ≡ (expanded_by st o (λ now. expanded_from now sts fault)).steps ++ rest)
    by (Comes ds now) stays later = let more = later now stays.1 in (more.0, rw stays.0 (ap (λ xs. st ∷ xs) more.1))
    by (Refused case) stays later = absurd stays
    by Stops stays later = (sts, refl)

pub front_kept : (sts : List Step) (fault : Option Refusal) → AreUndrilled sts → (rest : List Step) × (sts ≡ (expansion sts fault).steps ++ rest)
front_kept sts fault are = kept_from nothing_drilled sts fault (record { patterns = refl; cycle = refl }) are

-- and where no case refuses one of them, all, with the fault behind them
whole_from : (d : Drilling) (here : Situation) (sts : List Step) (fault : Option Refusal) → IsBare d → Agrees d here → AreUndrilled sts → first_refused here (expanded_from d sts fault).steps ≡ None
    → expanded_from d sts fault ≡ record { steps = sts; fault = fault }
whole_from d here [] fault bare agrees are fine = refl
whole_from d here (st ∷ sts) fault bare agrees are fine =
    by (outcome d st.deed) refl (subst (λ o. StaysBare st.deed (outcome_by d st.deed o)) (sym are.0) (plain_bare d st.deed (ask_of st.deed) bare))
    (λ now there bare agrees. whole_from now there sts fault bare agrees are.1) fine
  where
    by : (o : Outcome) → outcome d st.deed ≡ o → StaysBare st.deed o
        → ((now : Drilling) (there : Situation) → IsBare now → Agrees now there → first_refused there (expanded_from now sts fault).steps ≡ None
        → expanded_from now sts fault ≡ record { steps = sts; fault = fault })
        → first_refused here (expanded_by st o (λ now. expanded_from now sts fault)).steps ≡ None → expanded_by st o (λ now. expanded_from now sts fault) ≡ record { steps = st ∷ sts; fault = fault }
    by (Comes ds now) is stays later fine =
        let p = steps_past d now here st ds (expanded_from now sts fault).steps agrees (replaced d st.deed ds now is) fine in
        rw (stays.0, later now p.there stays.1 p.agrees p.fine) refl
    by (Refused case) is stays later fine = absurd stays
    by Stops is stays later fine = absurd (never_past d here st agrees is fine)

pub whole_kept : (sts : List Step) (fault : Option Refusal) → AreUndrilled sts → first_refused first_situation (expansion sts fault).steps ≡ None
    → expansion sts fault ≡ record { steps = sts; fault = fault }
whole_kept sts fault are fine = whole_from nothing_drilled first_situation sts fault (record { patterns = refl; cycle = refl }) agrees_first are fine

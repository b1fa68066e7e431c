-- The figures behind steps are those of the situation behind them, whatever records follow the steps.
use Rattle.std.proofs.Common.{◌≡◌, ◌∙◌, ℕ, List, [], ◌∷◌, Option, Some, None, Vec, Result, Ok, Err, IfSome, ap, refl, sym, subst}
use Rattle.apt_words.specs.Asks.{Ask, Titles, Says, Sets, Defines, Goes, Cuts, Nothing, ask_of, defined_by}
use Rattle.apt_words.specs.declared.Case.{Case}
use Rattle.apt_words.specs.declared.ask.Form.{Form}
use Rattle.apt_words.specs.declared.ask.Route.{Route}
use Rattle.apt_words.specs.declared.ask.Route.TheVariants as routes
use Rattle.apt_words.specs.declared.ask.Saying.{Saying}
use Rattle.apt_words.specs.declared.ask.Saying.TheVariants as sayings
use Rattle.apt_words.specs.declared.deed.Step.{Step}
use Rattle.apt_scalar.specs.Scalars.{whole}
use Rattle.apt_plane.specs.declared.figures.Pt.{Pt}
use Rattle.apt_records.specs.declared.record.Position.{Position}
use Rattle.apt_records.specs.declared.record.Reach.{Reach}
use Rattle.apt_records.specs.declared.record.Reach.TheVariants as ways
use Rattle.apt_records.specs.declared.record.Record.{Record}
use Rattle.apt_defs.specs.declared.figure.Figure.{Figure}
use Rattle.apt_defs.specs.Definitions.{figure_of}
use Rattle.apt_meaning.specs.declared.situation.Situation.{Situation}
use Rattle.apt_meaning.specs.declared.effect.Effect.{Effect}
use Rattle.apt_meaning.specs.Situations.{first_situation}
use Rattle.apt_meaning.specs.Effects.{place_at, moved_from, moves, goes, legs_by, cuts, names, defined, effect_by, effect_of}
use Rattle.apt_meaning.specs.Motions.{motion_at}
use Rattle.apt_meaning.specs.StartUps.{start_position_at}
use Rattle.apt_meaning.specs.Refusals.{refusal_of}
use Rattle.apt_meaning.specs.Compiled.{ends_of, first_refused}
use Rattle.apt_meaning.specs.Records.{FollowsAs, HasAny, Follows, after}
use Rattle.apt_meaning.proofs.Counts.{if_counted}
use Rattle.apt_meaning.proofs.Said.{of_some}
use Rattle.apt_meaning.proofs.Walks.Compiled.{passed}
use Rattle.apt_words.specs.Answers.{IsDueAs}
use Rattle.apt_defs.specs.Figures.{Table}
use Rattle.apt_outline.specs.declared.parts.Part.{Part}
use Rattle.apt_outline.specs.declared.cause.OutlineError.{OutlineError}
use Rattle.apt_outline.specs.Outlines.{fault_in, outline_of}
use Rattle.apt_outline.specs.Holding.{Holding, nothing_held, held_by, held_behind, figures_at_end, with_figure, IsDefined, AreDefined}

-- the units and the figures of a situation
abbrev held_of : Situation → Holding
held_of here = record { units = here.settings.units; table = here.table }

-- what holds behind an ask is what holds behind its effect
abbrev IsHeld : Situation → Ask → List (List Pt) → Effect → Type 0
IsHeld here ask vertices e = held_by (held_of here) ask ≡ held_of (after here e vertices)

says_held : (here : Situation) (saying : Saying) (vertices : List (List Pt)) → IfSome (effect_by here (Says saying)) (IsHeld here (Says saying) vertices)
says_held here (sayings.Units others) vertices = refl
says_held here (sayings.Diameter v) vertices = refl
says_held here (sayings.Inward v) vertices = refl
says_held here (sayings.Outward v) vertices = refl
says_held here (sayings.Feed v) vertices = refl
says_held here (sayings.Do command) vertices = refl
says_held here sayings.Rapid vertices = refl
says_held here sayings.End vertices = refl
says_held here sayings.Fini vertices = refl

figure_held : (here : Situation) (name : List ℕ) (r : Result Figure Case) (vertices : List (List Pt))
    → IfSome (names name r) (λ e. record { units = here.settings.units; table = with_figure here.table name r } ≡ held_of (after here e vertices))
figure_held here name (Ok f) vertices = refl
figure_held here name (Err case) vertices = tt

defined_held : (here : Situation) (name : List ℕ) (form : Form) (vertices : List (List Pt)) → IfSome (defined here name form) (IsHeld here (Defines name form) vertices)
unfolding defined
defined_held here name form vertices = figure_held here name (figure_of here.settings.units here.table form) vertices

moves_held : (here : Situation) (route : Route) (way : Reach) (to : Option Position) (vertices : List (List Pt)) → IfSome (moves way to) (IsHeld here (Goes route) vertices)
moves_held here route way None vertices = tt
moves_held here route ways.From (Some to) vertices = refl
moves_held here route ways.Goto (Some to) vertices = refl
moves_held here route ways.Godlta (Some to) vertices = refl
moves_held here route ways.Start (Some to) vertices = refl

goes_held : (here : Situation) (route : Route) (vertices : List (List Pt)) → IfSome (goes here route) (IsHeld here (Goes route) vertices)
goes_held here (routes.From place) vertices = moves_held here (routes.From place) ways.From (place_at here place) vertices
goes_held here (routes.Goto place) vertices = moves_held here (routes.Goto place) ways.Goto (place_at here place) vertices
goes_held here (routes.By x y z) vertices = moves_held here (routes.By x y z) ways.Godlta (moved_from here x y z) vertices
goes_held here (routes.Start how name other) vertices = moves_held here (routes.Start how name other) ways.Start (start_position_at here how name other) vertices

ask_held : (here : Situation) (ask : Ask) (vertices : List (List Pt)) → IfSome (effect_by here ask) (IsHeld here ask vertices)
ask_held here (Titles text) vertices = refl
ask_held here (Says saying) vertices = says_held here saying vertices
ask_held here (Sets side) vertices = refl
ask_held here (Defines name form) vertices = defined_held here name form vertices
ask_held here (Goes route) vertices = goes_held here route vertices
ask_held here (Cuts contour n) vertices =
    let ask = Cuts contour n in
    let m = motion_at here contour in
    if_counted (legs_by (whole n)) (λ legs. cuts legs m) (IsHeld here ask vertices) (λ legs. elim m as (λ o. IfSome (cuts legs o) (IsHeld here ask vertices)) [ None ↦ tt | Some found ↦ refl ])
ask_held here Nothing vertices = refl

step_held : (here : Situation) (step : Step) (e : Effect) (vertices : List (List Pt)) → effect_of here step.deed ≡ Some e → held_by (held_of here) (ask_of step.deed) ≡ held_of (after here e vertices)
step_held here step e vertices asked = of_some (IsHeld here (ask_of step.deed) vertices) (effect_of here step.deed) e asked (ask_held here (ask_of step.deed) vertices)

-- ---- the walk

walk_held : (here : Situation) (steps : List Step) (written : List Record) (behind : Situation) → FollowsAs HasAny here steps written behind → (held_behind (held_of here) steps).table ≡ behind.table
walk_held here [] written behind f = ap (λ (s : Situation). s.table) (sym f.1)
walk_held here (step ∷ steps) written behind f =
    ap (λ (h : Holding). (held_behind h steps).table) (step_held here step f.0 f.1 f.3.asked) ∙ walk_held (after here f.0 f.1) steps f.2 behind f.5

pub figures_follow : (steps : List Step) (written : List Record) (f : Follows steps written) → figures_at_end steps ≡ f.behind.table
figures_follow steps written f = walk_held first_situation steps written f.behind f.follow

-- so what is due by the ones is due by the others
pub due_behind : {A : Type 0} (steps : List Step) (text : List ℕ) (result : Result (Vec Part A) OutlineError) → IsDueAs (λ v. v.items) fault_in (outline_of (figures_at_end steps) text) result
    → (written : List Record) (follows : Follows steps written) → IsDueAs (λ v. v.items) fault_in (outline_of follows.behind.table text) result
due_behind steps text result due written follows =
    subst (λ (t : Table). IsDueAs (λ v. v.items) fault_in (outline_of t text) result) (figures_follow steps written follows) due

-- ---- steps of which none is refused

figure_named_by : (name : List ℕ) (r : Result Figure Case) (e : Effect) → names name r ≡ Some e → (f : Figure) × (r ≡ Ok f)
figure_named_by name (Ok f) e asked = (f, refl)
figure_named_by name (Err case) e asked = absurd cc

defined_by_step : (here : Situation) (name : List ℕ) (form : Form) (e : Effect) → defined here name form ≡ Some e → IsDefined (held_of here) (Some (name, form))
unfolding defined
defined_by_step here name form e asked = figure_named_by name (figure_of here.settings.units here.table form) e asked

ask_defined : (here : Situation) (ask : Ask) (e : Effect) → effect_by here ask ≡ Some e → IsDefined (held_of here) (defined_by ask)
ask_defined here (Titles text) e asked = tt
ask_defined here (Says saying) e asked = tt
ask_defined here (Sets side) e asked = tt
ask_defined here (Defines name form) e asked = defined_by_step here name form e asked
ask_defined here (Goes route) e asked = tt
ask_defined here (Cuts contour n) e asked = tt
ask_defined here Nothing e asked = tt

all_defined : (here : Situation) (steps : List Step) → first_refused here steps ≡ None → AreDefined (held_of here) steps
all_defined here [] fine = tt
all_defined here (step ∷ steps) fine =
    let does = passed step (refusal_of here step.deed) (effect_of here step.deed) (λ e. first_refused (after here e (ends_of e)) steps) fine in
    let later = all_defined (after here does.e (ends_of does.e)) steps does.rest in
    (ask_defined here (ask_of step.deed) does.e does.asked, subst (λ (h : Holding). AreDefined h steps) (sym (step_held here step does.e (ends_of does.e) does.asked)) later)

pub steps_defined : (steps : List Step) → first_refused first_situation steps ≡ None → AreDefined nothing_held steps
steps_defined steps fine = all_defined first_situation steps fine

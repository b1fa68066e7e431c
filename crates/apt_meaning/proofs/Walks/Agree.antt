-- Two situations that differ only in where the tool stands, and what steps ask for at both.
use Rattle.std.proofs.Common.{◌≡◌, ◌∙◌, ℕ, Bool, true, false, List, Result, Ok, Err, Option, Some, None, is_none, refl, sym, ap, subst, cond}
use Rattle.apt_words.specs.declared.Case.{Case}
use Rattle.apt_words.specs.declared.Go.{Go}
use Rattle.apt_words.specs.declared.Stop.{Stop}
use Rattle.apt_words.specs.declared.ask.Form.{Form}
use Rattle.apt_words.specs.declared.ask.Route.{Route}
use Rattle.apt_words.specs.declared.ask.Route.TheVariants as routes
use Rattle.apt_words.specs.declared.deed.Deed.{Deed}
use Rattle.apt_words.specs.Asks.{Ask, Titles, Says, Sets, Defines, Goes, Cuts, Nothing, ask_of}
use Rattle.apt_words.specs.Options.{◌>>=◌}
use Rattle.apt_plane.specs.declared.figures.Pt.{Pt}
use Rattle.apt_plane.specs.declared.figures.Dir.{Dir}
use Rattle.apt_plane.specs.declared.figures.Surface.{Surface}
use Rattle.apt_offset.specs.Turns.{tangent, turn, is_zero}
use Rattle.apt_records.specs.declared.record.Position.{Position}
use Rattle.apt_records.specs.declared.record.Reach.{Reach}
use Rattle.apt_records.specs.declared.record.Reach.TheVariants as reaches
use Rattle.apt_defs.specs.declared.figure.Figure.{Figure}
use Rattle.apt_defs.specs.Definitions.{figure_of}
use Rattle.apt_meaning.specs.declared.situation.Settings.{Settings}
use Rattle.apt_meaning.specs.declared.situation.Situation.{Situation}
use Rattle.apt_meaning.specs.declared.motion.Motion.{Motion}
use Rattle.apt_stop.specs.declared.legs.Legs.{Legs}
use Rattle.apt_meaning.specs.declared.effect.Effect.{Effect}
use Rattle.apt_meaning.specs.declared.effect.Effect.TheVariants as effects
use Rattle.apt_meaning.specs.Situations.{with_side}
use Rattle.apt_meaning.specs.Motions.{surface_in, motion, if_turned, motion_at}
use Rattle.apt_meaning.specs.StartUps.{start_position_at}
use Rattle.apt_meaning.specs.Effects.{moves, cuts, legs_by, place_at, names, defined, moved_from, goes, effect_by, effect_of}
use Rattle.apt_meaning.specs.Records.{after}
use Rattle.apt_scalar.specs.Scalars.{whole}

-- the same settings and names, and both or neither have a position
pub record Agrees (c here : Situation) : Type 0 where
  pub settings : here.settings ≡ c.settings
  pub table : here.table ≡ c.table
  pub position : is_none here.position ≡ is_none c.position

-- a situation with the tool elsewhere
abbrev elsewhere : Situation → Option Position → Dir → Situation
elsewhere c p forward = record c { position = p; forward = forward }

-- effects that differ only in where they lead
abbrev pub AreLike : Effect → Effect → Type 0
AreLike (effects.Defines n f) (effects.Defines m g) = (n ≡ m) × (f ≡ g)
AreLike (effects.Defines n f) (effects.Sets other) = ⊥
AreLike (effects.Defines n f) (effects.Moves reach to) = ⊥
AreLike (effects.Defines n f) (effects.Cuts o l) = ⊥
AreLike (effects.Sets change) (effects.Defines m g) = ⊥
AreLike (effects.Sets change) (effects.Sets other) = change ≡ other
AreLike (effects.Sets change) (effects.Moves reach to) = ⊥
AreLike (effects.Sets change) (effects.Cuts o l) = ⊥
AreLike (effects.Moves how from) (effects.Defines m g) = ⊥
AreLike (effects.Moves how from) (effects.Sets other) = ⊥
AreLike (effects.Moves how from) (effects.Moves reach to) = how ≡ reach
AreLike (effects.Moves how from) (effects.Cuts o l) = ⊥
AreLike (effects.Cuts m k) (effects.Defines n g) = ⊥
AreLike (effects.Cuts m k) (effects.Sets other) = ⊥
AreLike (effects.Cuts m k) (effects.Moves reach to) = ⊥
AreLike (effects.Cuts m k) (effects.Cuts o l) = m.side ≡ o.side

-- where both are there
abbrev AreLikeIfThere : Option Effect → Option Effect → Type 0
AreLikeIfThere None d = Unit {0}
AreLikeIfThere (Some e) None = Unit {0}
AreLikeIfThere (Some e) (Some d) = AreLike e d

figure_like : (n : List ℕ) (r : Result Figure Case) → AreLikeIfThere (names n r) (names n r)
figure_like n (Ok f) = (refl, refl)
figure_like n (Err case) = tt

-- where the tool stands decides no definition
defined_like : (c : Situation) (p : Option Position) (forward : Dir) (name : List ℕ) (form : Form) → AreLikeIfThere (defined c name form) (defined (elsewhere c p forward) name form)
unfolding defined
defined_like c p forward name form = figure_like name (figure_of c.settings.units c.table form)

moves_like : (reach : Reach) (o p : Option Position) → AreLikeIfThere (moves reach o) (moves reach p)
moves_like reach None p = tt
moves_like reach (Some from) None = tt
moves_like reach (Some from) (Some to) = refl

turned_like : (n : Legs) (a b : Bool) (m o : Motion) → m.side ≡ o.side → AreLikeIfThere (cuts n (cond a None (Some m))) (cuts n (cond b None (Some o)))
turned_like n true b m o same = tt
turned_like n false true m o same = tt
turned_like n false false m o same = same

contour_like : (n : Legs) (s : Settings) (from to : Dir) (go : Go) (how : Stop) (p q : Option Position) (d c : Option Surface)
    → AreLikeIfThere (cuts n (p >>= λ start. d >>= λ drive. c >>= λ check. if_turned s start drive (turn from (tangent drive start.xy) go) how check))
    (cuts n (q >>= λ start. d >>= λ drive. c >>= λ check. if_turned s start drive (turn to (tangent drive start.xy) go) how check))
contour_like n s from to go how None q d c = tt
contour_like n s from to go how (Some start) None None c = tt
contour_like n s from to go how (Some start) None (Some drive) None = tt
contour_like n s from to go how (Some start) None (Some drive) (Some check) = nothing_like (cuts n (if_turned s start drive (turn from (tangent drive start.xy) go) how check))
  where
    nothing_like : (o : Option Effect) → AreLikeIfThere o None
    nothing_like None = tt
    nothing_like (Some e) = tt
contour_like n s from to go how (Some start) (Some other) None c = tt
contour_like n s from to go how (Some start) (Some other) (Some drive) None = tt
contour_like n s from to go how (Some start) (Some other) (Some drive) (Some check) =
    turned_like n (is_zero (turn from (tangent drive start.xy) go)) (is_zero (turn to (tangent drive other.xy) go))
    (motion s start drive (turn from (tangent drive start.xy) go) how check) (motion s other drive (turn to (tangent drive other.xy) go) how check) refl

goes_like : (here : Situation) (stand : Option Position) (forward : Dir) (route : Route) → AreLikeIfThere (goes here route) (goes (elsewhere here stand forward) route)
goes_like here stand forward (routes.From place) = moves_like reaches.From (place_at here place) (place_at (elsewhere here stand forward) place)
goes_like here stand forward (routes.Goto place) = moves_like reaches.Goto (place_at here place) (place_at (elsewhere here stand forward) place)
goes_like here stand forward (routes.By x y z) = moves_like reaches.Godlta (moved_from here x y z) (moved_from (elsewhere here stand forward) x y z)
goes_like here stand forward (routes.Start how name other) = moves_like reaches.Start (start_position_at here how name other) (start_position_at (elsewhere here stand forward) how name other)

like : (here : Situation) (stand : Option Position) (forward : Dir) (ask : Ask) → AreLikeIfThere (effect_by here ask) (effect_by (elsewhere here stand forward) ask)
unfolding motion_at
like here stand forward (Titles text) = refl
like here stand forward (Says saying) = refl
like here stand forward (Sets side) = refl
like here stand forward (Defines name form) = defined_like here stand forward name form
like here stand forward (Goes route) = goes_like here stand forward route
like here stand forward (Cuts contour n) = counted_like (legs_by (whole n))
  where
    counted_like : (o : Option Legs)
        → AreLikeIfThere (o >>= λ legs. cuts legs (motion_at here contour)) (o >>= λ legs. cuts legs (motion_at (elsewhere here stand forward) contour))
    counted_like None = tt
    counted_like (Some legs) = contour_like legs (with_side here.settings contour.side) here.forward forward contour.go contour.stop here.position stand (surface_in here.table contour.drive) (surface_in here.table contour.check)
like here stand forward Nothing = refl

is_elsewhere : (c here : Situation) → Agrees c here → here ≡ elsewhere c here.position here.forward
is_elsewhere c here agrees = rw (sym agrees.settings, sym agrees.table) refl

-- what a step asks for at both
pub alike : (c here : Situation) (deed : Deed) (e d : Effect) → Agrees c here → effect_of c deed ≡ Some e → effect_of here deed ≡ Some d → AreLike e d
alike c here deed e d agrees ask asked =
    let asked_there : effect_of (elsewhere c here.position here.forward) deed ≡ Some d = ap (λ (x : Situation). effect_of x deed) (sym (is_elsewhere c here agrees)) ∙ asked in
    subst (λ (o : Option Effect). AreLikeIfThere (Some e) o) asked_there
    (subst (λ (o : Option Effect). AreLikeIfThere o (effect_of (elsewhere c here.position here.forward) deed)) ask (like c here.position here.forward (ask_of deed)))

-- and they agree behind it
behind_like : (c here : Situation) (e d : Effect) (vs us : List (List Pt)) → Agrees c here → AreLike e d → Agrees (after c e vs) (after here d us)
behind_like c here (effects.Defines n f) (effects.Defines m g) vs us agrees same = record { settings = agrees.settings; table = rw (same.0, same.1, agrees.table) refl; position = agrees.position }
behind_like c here (effects.Defines n f) (effects.Sets other) vs us agrees same = absurd same
behind_like c here (effects.Defines n f) (effects.Moves reach to) vs us agrees same = absurd same
behind_like c here (effects.Defines n f) (effects.Cuts o l) vs us agrees same = absurd same
behind_like c here (effects.Sets change) (effects.Defines m g) vs us agrees same = absurd same
behind_like c here (effects.Sets change) (effects.Sets other) vs us agrees same = record { settings = rw (same, agrees.settings) refl; table = agrees.table; position = agrees.position }
behind_like c here (effects.Sets change) (effects.Moves reach to) vs us agrees same = absurd same
behind_like c here (effects.Sets change) (effects.Cuts o l) vs us agrees same = absurd same
behind_like c here (effects.Moves how from) (effects.Defines m g) vs us agrees same = absurd same
behind_like c here (effects.Moves how from) (effects.Sets other) vs us agrees same = absurd same
behind_like c here (effects.Moves how from) (effects.Moves reach to) vs us agrees same = record { settings = rw (same, agrees.settings) refl; table = agrees.table; position = refl }
behind_like c here (effects.Moves how from) (effects.Cuts o l) vs us agrees same = absurd same
behind_like c here (effects.Cuts m k) (effects.Defines n g) vs us agrees same = absurd same
behind_like c here (effects.Cuts m k) (effects.Sets other) vs us agrees same = absurd same
behind_like c here (effects.Cuts m k) (effects.Moves reach to) vs us agrees same = absurd same
behind_like c here (effects.Cuts m k) (effects.Cuts o l) vs us agrees same = record { settings = rw (same, agrees.settings) refl; table = agrees.table; position = refl }

pub agrees_behind : (c here : Situation) (deed : Deed) (e d : Effect) (vs us : List (List Pt)) → Agrees c here → effect_of c deed ≡ Some e → effect_of here deed ≡ Some d
    → Agrees (after c e vs) (after here d us)
agrees_behind c here deed e d vs us agrees ask asked = behind_like c here e d vs us agrees (alike c here deed e d agrees ask asked)

pub agrees_first : (c : Situation) → Agrees c c
agrees_first c = record { settings = refl; table = refl; position = refl }

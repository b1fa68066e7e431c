-- What the effect of a step tells of what the step asks for.
use Rattle.std.proofs.Common.{◌≡◌, ℕ, Bool, true, false, List, Result, Ok, Err, Option, Some, None, IfSome, refl, subst, cond}
use Rattle.apt_num.specs.declared.Sign.{Sign}
use Rattle.apt_words.specs.declared.Case.{Case}
use Rattle.apt_words.specs.declared.Side.{Side}
use Rattle.apt_words.specs.declared.Stop.{Stop}
use Rattle.apt_words.specs.declared.ask.Form.{Form}
use Rattle.apt_words.specs.declared.ask.Route.{Route}
use Rattle.apt_words.specs.declared.ask.Route.TheVariants as routes
use Rattle.apt_words.specs.declared.Units.{Units}
use Rattle.apt_words.specs.declared.deed.Deed.{Deed}
use Rattle.apt_words.specs.Asks.{Ask, Titles, Says, Sets, Defines, Goes, Cuts, Nothing, ask_of, asks_end}
use Rattle.apt_words.specs.Options.{◌>>=◌}
use Rattle.apt_words.specs.declared.contour.Contouring.{Contouring}
use Rattle.apt_plane.specs.declared.figures.Surface.{Surface}
use Rattle.apt_offset.specs.Turns.{is_zero}
use Rattle.apt_offset.specs.Sides.{side_at_check}
use Rattle.apt_offset.specs.Targets.{greater}
use Rattle.apt_records.specs.declared.record.Note.{Note}
use Rattle.apt_records.specs.declared.record.Note.TheVariants as notes
use Rattle.apt_records.specs.declared.record.Position.{Position}
use Rattle.apt_records.specs.declared.record.Reach.{Reach}
use Rattle.apt_records.specs.declared.record.Reach.TheVariants as reaches
use Rattle.apt_defs.specs.declared.figure.Figure.{Figure}
use Rattle.apt_defs.specs.Definitions.{figure_of}
use Rattle.apt_meaning.specs.declared.situation.Situation.{Situation}
use Rattle.apt_meaning.specs.declared.motion.Motion.{Motion}
use Rattle.apt_stop.specs.declared.legs.Legs.{Legs}
use Rattle.apt_meaning.specs.declared.effect.Change.{Change}
use Rattle.apt_meaning.specs.declared.effect.Change.TheVariants as changes
use Rattle.apt_meaning.specs.declared.effect.Effect.{Effect}
use Rattle.apt_meaning.specs.declared.effect.Effect.TheVariants as effects
use Rattle.apt_meaning.specs.Situations.{with_side}
use Rattle.apt_meaning.specs.Motions.{grid_step, drive_side, surface_in, turn_at, if_turned, motion, motion_at}
use Rattle.apt_meaning.specs.StartUps.{start_position_at}
use Rattle.apt_meaning.specs.Effects.{note_of, moves, cuts, legs_by, place_at, names, defined, moved_from, goes, effect_by, effect_of}
use Rattle.apt_scalar.specs.Scalars.{whole}
use Rattle.apt_meaning.proofs.Counts.{if_counted}

pub of_some : {A : Type 0} (P : A → Type 0) (o : Option A) (x : A) → o ≡ Some x → IfSome o P → P x
of_some P o x e held = subst (λ q. IfSome q P) e held

-- ---- the note of an ask, and what goes on behind it

abbrev pub IsNoteOf : Units → Ask → Note → Type 0
IsNoteOf units (Titles text) note = note ≡ notes.Partno text
IsNoteOf units (Says saying) note = note ≡ note_of units saying
IsNoteOf units (Sets side) note = ⊥
IsNoteOf units (Defines name form) note = ⊥
IsNoteOf units (Goes route) note = ⊥
IsNoteOf units (Cuts contour n) note = ⊥
IsNoteOf units Nothing note = ⊥

abbrev pub IsSetBy : Units → Ask → Change → Type 0
IsSetBy units ask (changes.Said note) = IsNoteOf units ask note
IsSetBy units ask (changes.Side side) = asks_end ask ≡ false
IsSetBy units ask changes.Nothing = asks_end ask ≡ false

-- a contour starts at the position, with the cutter and the tolerances that are set
pub record IsMotionOf (here : Situation) (m : Motion) : Type 0 where
  pub start : here.position ≡ Some m.start
  pub check_side : m.check_side ≡ side_at_check m.check m.how m.start.xy m.drive (drive_side m)
  pub radius : m.radius ≡ here.settings.radius
  pub inner : m.inner ≡ greater here.settings.intol grid_step
  pub outer : m.outer ≡ greater here.settings.outtol grid_step

abbrev pub IsSaidBy : Situation → Ask → Effect → Type 0
IsSaidBy here ask (effects.Defines n f) = asks_end ask ≡ false
IsSaidBy here ask (effects.Sets change) = IsSetBy here.settings.units ask change
IsSaidBy here ask (effects.Moves reach to) = asks_end ask ≡ false
IsSaidBy here ask (effects.Cuts m n) = (asks_end ask ≡ false) × IsMotionOf here m

figure_said : (here : Situation) (ask : Ask) (n : List ℕ) (r : Result Figure Case) → asks_end ask ≡ false → IfSome (names n r) (IsSaidBy here ask)
figure_said here ask n (Ok f) on = on
figure_said here ask n (Err case) on = tt

defined_said : (here : Situation) (name : List ℕ) (form : Form) → IfSome (defined here name form) (IsSaidBy here (Defines name form))
unfolding defined
defined_said here name form = figure_said here (Defines name form) name (figure_of here.settings.units here.table form) refl

-- ---- moves and contours, where what they need is there

moves_said : (here : Situation) (ask : Ask) (reach : Reach) (o : Option Position) → asks_end ask ≡ false → IfSome (moves reach o) (IsSaidBy here ask)
moves_said here ask reach None on = tt
moves_said here ask reach (Some to) on = on

unless_said : (here : Situation) (ask : Ask) (n : Legs) (b : Bool) (o : Option Motion) → IfSome (cuts n o) (IsSaidBy here ask) → IfSome (cuts n (cond b None o)) (IsSaidBy here ask)
unless_said here ask n true o said = tt
unless_said here ask n false o said = said

motion_of : (here : Situation) (side : Option Side) (start : Position) (drive : Surface) (turned : Sign) (how : Stop) (check : Surface) → here.position ≡ Some start
    → IsMotionOf here (motion (with_side here.settings side) start drive turned how check)
motion_of here None start drive turned how check is_start = record { start = is_start; check_side = refl; radius = refl; inner = refl; outer = refl }
motion_of here (Some side) start drive turned how check is_start = record { start = is_start; check_side = refl; radius = refl; inner = refl; outer = refl }

turned_said : (here : Situation) (ask : Ask) (n : Legs) (side : Option Side) (start : Position) (drive : Surface) (turned : Sign) (how : Stop) (check : Surface)
    → asks_end ask ≡ false → here.position ≡ Some start → IfSome (cuts n (if_turned (with_side here.settings side) start drive turned how check)) (IsSaidBy here ask)
turned_said here ask n side start drive turned how check on is_start =
    let m = motion (with_side here.settings side) start drive turned how check in
    unless_said here ask n (is_zero turned) (Some m) (on, motion_of here side start drive turned how check is_start)

contour_said : (here : Situation) (ask : Ask) (n : Legs) (contour : Contouring) (p : Option Position) (d c : Option Surface)
    → asks_end ask ≡ false → here.position ≡ p
    → IfSome (cuts n (p >>= λ start. d >>= λ drive. c >>= λ check. if_turned (with_side here.settings contour.side) start drive (turn_at here start drive contour.go) contour.stop check)) (IsSaidBy here ask)
contour_said here ask n contour None d c on is_start = tt
contour_said here ask n contour (Some start) None c on is_start = tt
contour_said here ask n contour (Some start) (Some drive) None on is_start = tt
contour_said here ask n contour (Some start) (Some drive) (Some check) on is_start =
    turned_said here ask n contour.side start drive (turn_at here start drive contour.go) contour.stop check on is_start

goes_said : (here : Situation) (route : Route) → IfSome (goes here route) (IsSaidBy here (Goes route))
goes_said here (routes.From place) = moves_said here (Goes (routes.From place)) reaches.From (place_at here place) refl
goes_said here (routes.Goto place) = moves_said here (Goes (routes.Goto place)) reaches.Goto (place_at here place) refl
goes_said here (routes.By x y z) = moves_said here (Goes (routes.By x y z)) reaches.Godlta (moved_from here x y z) refl
goes_said here (routes.Start how name other) = moves_said here (Goes (routes.Start how name other)) reaches.Start (start_position_at here how name other) refl

-- ---- a line for each ask

said : (here : Situation) (ask : Ask) → IfSome (effect_by here ask) (IsSaidBy here ask)
unfolding motion_at
said here (Titles text) = refl
said here (Says saying) = refl
said here (Sets side) = refl
said here (Defines name form) = defined_said here name form
said here (Goes route) = goes_said here route
said here (Cuts contour n) =
    if_counted (legs_by (whole n)) (λ legs. cuts legs (motion_at here contour)) (IsSaidBy here (Cuts contour n))
    (λ legs. contour_said here (Cuts contour n) legs contour here.position (surface_in here.table contour.drive) (surface_in here.table contour.check) refl refl)
said here Nothing = refl

pub said_by : (here : Situation) (deed : Deed) (e : Effect) → effect_of here deed ≡ Some e → IsSaidBy here (ask_of deed) e
said_by here deed e asked = of_some (IsSaidBy here (ask_of deed)) (effect_of here deed) e asked (said here (ask_of deed))

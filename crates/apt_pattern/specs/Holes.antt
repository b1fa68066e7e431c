-- The holes of a tape: the acts that the records of each drilling step ask for, in whatever way a machine has records ask for acts.
use Rattle.std.specs.Prelude.{◌≡◌, ℕ, ◌==◌, ℤ, Bool, false, List, [], ◌∷◌, ◌++◌, map, Option, Some, None, if◌then◌else◌}
use Rattle.std.specs.List.{flat_map}
use Rattle.apt_words.specs.Asks.{Ask, Titles, Says, Sets, Defines, Goes, Cuts, Nothing, ask_of}
use Rattle.apt_words.specs.Drills.{drill_of}
use Rattle.apt_words.specs.declared.ask.Route.{Route}
use Rattle.apt_words.specs.declared.ask.Route.TheVariants as routes
use Rattle.apt_words.specs.declared.deed.Deed.{Deed}
use Rattle.apt_words.specs.declared.deed.Step.{Step}
use Rattle.apt_words.specs.declared.drill.Drill.{Drill}
use Rattle.apt_words.specs.declared.drill.Drill.TheVariants as drills
use Rattle.apt_records.specs.declared.record.Note.{Note}
use Rattle.apt_records.specs.declared.record.Position.{Position}
use Rattle.apt_records.specs.declared.record.Reach.{Reach}
use Rattle.apt_records.specs.declared.record.Record.{Record}
use Rattle.apt_records.specs.declared.record.Record.TheVariants as records
use Rattle.apt_control.specs.declared.Act.{Act}
use Rattle.apt_control.specs.declared.Act.TheVariants as acts
use Rattle.apt_meaning.specs.Effects.{placed}
use Rattle.apt_post.specs.Said.{feed_said, record_said}
use Rattle.apt_pattern.specs.declared.cycle.Cycle.{Cycle}
use Rattle.apt_pattern.specs.declared.pattern.Pattern.{Pattern}
use Rattle.apt_pattern.specs.Patterns.{points_of, above, bottom}
use Rattle.apt_pattern.specs.Expansions.{Drilling, nothing_drilled, Outcome, Comes, Refused, Stops, outcome, pattern_named}

-- a way in which records ask for acts: what a record asks for, by those before it, the latest of these first
abbrev pub Asking : Type 0 → Type 0
Asking A = List Record → Record → List A

-- ---- the acts of a step

-- a record begins the step with a number
abbrev pub begins : ℕ → Record → Bool
begins n (records.Statement line step) = step == n
begins n _ = false

-- the statement that was said last is the step with a number
abbrev pub is_under : ℕ → List Record → Bool
is_under n [] = false
is_under n (records.Statement line step ∷ before) = step == n
is_under n (records.Note note ∷ before) = is_under n before
is_under n (records.Drive surface side sense ∷ before) = is_under n before
is_under n (records.Check surface how ∷ before) = is_under n before
is_under n (records.Point reach to ∷ before) = is_under n before
is_under n (records.Contour vertices ∷ before) = is_under n before

-- what records ask for under the step with a number, behind those before them
abbrev pub acts_under : {A : Type 0} → Asking A → ℕ → List Record → List Record → List A
acts_under asks n before [] = []
acts_under asks n before (r ∷ rs) = (if is_under n before then asks before r else []) ++ acts_under asks n (r ∷ before) rs

abbrev pub acts_of_step : {A : Type 0} → Asking A → ℕ → List Record → List A
acts_of_step asks n rs = acts_under asks n [] rs

-- the feed that was said last before a step begins
abbrev pub feed_before : ℕ → List Record → List Record → ℤ
feed_before n before [] = feed_said before
feed_before n before (r ∷ rs) = if begins n r then feed_said before else feed_before n (r ∷ before) rs

abbrev pub feed_at_step : ℕ → List Record → ℤ
feed_at_step n rs = feed_before n [] rs

-- statements ask for nothing, and notes and points for what they ask for on any machine, with each act as the machine has it
pub record AsksPlainly {A : Type 0} (asks : Asking A) (wrap : Act → A) : Type 0 where
  pub statement : (before : List Record) (line step : ℕ) → asks before (records.Statement line step) ≡ []
  pub note : (before : List Record) (note : Note) → asks before (records.Note note) ≡ map wrap (record_said before (records.Note note))
  pub point : (before : List Record) (reach : Reach) (to : Position) → asks before (records.Point reach to) ≡ map wrap (record_said before (records.Point reach to))

-- ---- holes

abbrev pub rapid_to : Position → Act
rapid_to p = acts.Rapid p.xy.x p.xy.y p.z

abbrev pub cut_to : ℤ → Position → Act
cut_to feed p = acts.Cut p.xy.x p.xy.y p.z feed

-- the three moves of a hole
abbrev pub hole_acts : ℤ → Cycle → Position → List Act
hole_acts feed cycle p = rapid_to (above cycle p) ∷ cut_to feed (bottom cycle p) ∷ rapid_to (above cycle p) ∷ []

-- ---- the points that a step drills

abbrev pub one_point : Option Position → Option (List Position)
one_point None = None
one_point (Some p) = Some (p ∷ [])

abbrev pub all_points : Option Pattern → Option (List Position)
all_points None = None
all_points (Some pattern) = Some (points_of pattern)

abbrev pub route_points : Drilling → Route → Option (List Position)
route_points d (routes.From place) = None
route_points d (routes.Goto place) = one_point (placed d.units d.table place)
route_points d (routes.By x y z) = None
route_points d (routes.Start how name other) = None

abbrev pub ask_points : Drilling → Ask → Option (List Position)
ask_points d (Goes route) = route_points d route
ask_points d _ = None

abbrev pub drill_points : Drilling → Drill → Option (List Position)
drill_points d (drills.Pattern name p q v) = None
drill_points d (drills.Cycle depth clearance) = None
drill_points d drills.Off = None
drill_points d (drills.Visit name) = all_points (pattern_named d.patterns name)

abbrev pub points_by : Drilling → Deed → Option Drill → Option (List Position)
points_by d deed None = ask_points d (ask_of deed)
points_by d deed (Some drill) = drill_points d drill

-- the points to which a step leads by GOTO, none where it is no GOTO
abbrev pub goto_points : Drilling → Deed → Option (List Position)
goto_points d deed = points_by d deed (drill_of deed)

-- ---- all steps

-- under a cycle the acts of a GOTO are the holes of its points, in order, with the feed that was said last
abbrev pub IsDrilled : {A : Type 0} → (Act → A) → Option Cycle → Option (List Position) → ℤ → List A → Type 0
IsDrilled wrap None points feed done = Unit {0}
IsDrilled wrap (Some cycle) None feed done = Unit {0}
IsDrilled wrap (Some cycle) (Some points) feed done = done ≡ map wrap (flat_map (hole_acts feed cycle) points)

abbrev pub AllBehind : Outcome → (Drilling → Type 0) → Type 0
AllBehind (Comes ds now) more = more now
AllBehind (Refused case) more = ⊥
AllBehind Stops more = ⊥

-- each step that drills has its holes among the acts that records ask for, none left out and none added
abbrev pub HasHoles : {A : Type 0} → Asking A → (Act → A) → Drilling → List Step → List Record → Type 0
HasHoles asks wrap d [] written = Unit {0}
HasHoles asks wrap d (st ∷ sts) written =
    IsDrilled wrap d.cycle (goto_points d st.deed) (feed_at_step st.step written) (acts_of_step asks st.step written)
    × AllBehind (outcome d st.deed) (λ now. HasHoles asks wrap now sts written)

abbrev pub AreDrilled : {A : Type 0} → Asking A → (Act → A) → List Step → List Record → Type 0
AreDrilled asks wrap sts written = HasHoles asks wrap nothing_drilled sts written

-- What a statement is made of, before it is executed.
use Rattle.std.specs.Prelude.{ℕ, ℤ, pos, Bool, List, [], ◌∷◌, Option, Some, None, option_map}
use Rattle.apt_words.specs.declared.Command.TheVariants as commands
use Rattle.apt_words.specs.Asks.{listed}
use Rattle.apt_words.specs.Flow.{Flow, Onward, MacroBegins, MacroEnds, Calls, LoopBegins, LoopEnds, Jumps, Branches, ProgramEnds, ends_program}
use Rattle.apt_words.specs.Trees.{Tree}
use Rattle.apt_words.specs.declared.Stop.{Stop}
use Rattle.apt_words.specs.declared.Turn.TheVariants as turns
use Rattle.apt_words.specs.declared.body.Body.{Body}
use Rattle.apt_words.specs.declared.body.Body.TheVariants as bodies
use Rattle.apt_words.specs.declared.deed.Deed.{Deed}
use Rattle.apt_words.specs.declared.deed.Deed.TheVariants as deeds

-- what the k-th expression or the k-th name of a statement comes to, from 0
abbrev pub Values : Type 0
Values = ℕ → ℤ

abbrev pub Meanings : Type 0
Meanings = ℕ → List ℕ

-- the name that a statement defines; its expressions, and the names of figures that it uses, each in their order; where a run goes on behind it;
-- and what it does, by the values of the expressions and what the names stand for. Where the expressions may be three points, what it does by these; and
-- where the first name may stand for a pattern, what it does by that.
pub record Composition : Type 0 where
  pub defines : Option (List ℕ)
  pub numbers : List Tree
  pub names : List (List ℕ)
  pub flow : Flow
  pub deed : Values → Meanings → Deed
  pub by_points : Option (Meanings → Deed)
  pub by_pattern : Option (Meanings → Deed)

-- ---- the shapes of statements

-- nothing but words
abbrev pub words_alone : Deed → Composition
words_alone deed = record { defines = None; numbers = []; names = []; flow = Onward; deed = λ v n. deed; by_points = None; by_pattern = None }

-- what sends the run elsewhere
abbrev pub flowing : Flow → Deed → Composition
flowing flow deed = record (words_alone deed) { flow = flow }

abbrev pub of_numbers : List Tree → (Values → Deed) → Composition
of_numbers es deed = record { defines = None; numbers = es; names = []; flow = Onward; deed = λ v n. deed v; by_points = None; by_pattern = None }

abbrev pub of_number : Tree → (ℤ → Deed) → Composition
of_number e deed = of_numbers (e ∷ []) (λ v. deed (v 0))

abbrev pub of_names : List (List ℕ) → (Meanings → Deed) → Composition
of_names names deed = record { defines = None; numbers = []; names = names; flow = Onward; deed = λ v n. deed n; by_points = None; by_pattern = None }

abbrev pub of_both : List Tree → List (List ℕ) → (Values → Meanings → Deed) → Composition
of_both es names deed = record { defines = None; numbers = es; names = names; flow = Onward; deed = deed; by_points = None; by_pattern = None }

abbrev pub defining : List ℕ → Composition → Composition
defining name c = record c { defines = Some name }

abbrev pub or_points : (Meanings → Deed) → Composition → Composition
or_points deed c = record c { by_points = Some deed }

abbrev pub or_pattern : (Meanings → Deed) → Composition → Composition
or_pattern deed c = record c { by_pattern = Some deed }

-- a value or a name that may be left out
abbrev pub if_there : {A B : Type 0} → Option A → B → Option B
if_there o x = option_map (λ _. x) o

abbrev pub names_with : List ℕ → Option (Stop × List ℕ) → List (List ℕ)
names_with s None = s ∷ []
names_with s (Some other) = s ∷ other.1 ∷ []

abbrev pub surface_by : Option (Stop × List ℕ) → List ℕ → Option (Stop × List ℕ)
surface_by None name = None
surface_by (Some other) name = Some (other.0, name)

-- ---- the table of statements

abbrev pub composition : Body → Composition
composition (bodies.Partno text) = words_alone (deeds.Partno text)
composition (bodies.Remark text) = words_alone (deeds.Remark text)
composition (bodies.Units units) = words_alone (deeds.Units units)
composition bodies.Clprnt = words_alone deeds.Clprnt
composition bodies.Nopost = words_alone deeds.Nopost
composition (bodies.Machin es) = words_alone deeds.Machin
composition (bodies.Assign n e) = defining n (of_number e (λ v. deeds.Assign n v))
composition (bodies.PointXy n x y z) = defining n (of_numbers (x ∷ y ∷ listed z) (λ v. deeds.PointXy n (v 0) (v 1) (if_there z (v 2))))
composition (bodies.PointLines n a b) = defining n (of_names (a ∷ b ∷ []) (λ m. deeds.PointLines n (m 0) (m 1)))
composition (bodies.PointPick n k a b) = defining n (of_names (a ∷ b ∷ []) (λ m. deeds.PointPick n k (m 0) (m 1)))
composition (bodies.PointCenter n c) = defining n (of_names (c ∷ []) (λ m. deeds.PointCenter n (m 0)))
composition (bodies.LineXy n x y (u, v)) = defining n (of_numbers (x ∷ y ∷ u ∷ v ∷ []) (λ w. deeds.LineXy n (w 0) (w 1) (w 2) (w 3)))
composition (bodies.LinePoints n p q) = defining n (of_names (p ∷ q ∷ []) (λ m. deeds.LinePoints n (m 0) (m 1)))
composition (bodies.LinePar n p l) = defining n (of_names (p ∷ l ∷ []) (λ m. deeds.LinePar n (m 0) (m 1)))
composition (bodies.LinePerp n p l) = defining n (of_names (p ∷ l ∷ []) (λ m. deeds.LinePerp n (m 0) (m 1)))
composition (bodies.LineAt n l k e) = defining n (of_both (e ∷ []) (l ∷ []) (λ v m. deeds.LineAt n (m 0) k (v 0)))
composition (bodies.LineTan n p h c) = defining n (of_names (p ∷ c ∷ []) (λ m. deeds.LineTan n (m 0) h (m 1)))
composition (bodies.LineTwo n h c k d) = defining n (of_names (c ∷ d ∷ []) (λ m. deeds.LineTwo n h (m 0) k (m 1)))
composition (bodies.CircleThree n x y z) =
    defining n (or_points (λ m. deeds.CirclePoints n (m 0) (m 1) (m 2)) (of_numbers (x ∷ y ∷ z ∷ []) (λ v. deeds.CircleXyr n (v 0) (v 1) (v 2))))
composition (bodies.CircleRadius n p e) = defining n (of_both (e ∷ []) (p ∷ []) (λ v m. deeds.CircleRadius n (m 0) (v 0)))
composition (bodies.CircleTan n p l) = defining n (of_names (p ∷ l ∷ []) (λ m. deeds.CircleTan n (m 0) (m 1)))
composition (bodies.CircleThrough n p q) = defining n (of_names (p ∷ q ∷ []) (λ m. deeds.CircleThrough n (m 0) (m 1)))
composition (bodies.CircleCorner n j a k b e) = defining n (of_both (e ∷ []) (a ∷ b ∷ []) (λ v m. deeds.CircleCorner n j (m 0) k (m 1) (v 0)))
composition (bodies.Cutter e) = of_number e deeds.Cutter
composition (bodies.Intol e) = of_number e deeds.Intol
composition (bodies.Outtol e) = of_number e deeds.Outtol
composition (bodies.Tool side) = words_alone (deeds.Tool side)
composition (bodies.FromXy x y z) = of_numbers (x ∷ y ∷ listed z) (λ v. deeds.FromXy (v 0) (v 1) (if_there z (v 2)))
composition (bodies.FromPoint p) = of_names (p ∷ []) (λ m. deeds.FromPoint (m 0))
composition (bodies.GotoXy x y z) = of_numbers (x ∷ y ∷ listed z) (λ v. deeds.GotoXy (v 0) (v 1) (if_there z (v 2)))
composition (bodies.GotoPoint p) = or_pattern (λ m. deeds.GotoPatern (m 0)) (of_names (p ∷ []) (λ m. deeds.GotoPoint (m 0)))
composition (bodies.Godlta x y z) = of_numbers (x ∷ y ∷ z ∷ []) (λ v. deeds.Godlta (v 0) (v 1) (v 2))
composition (bodies.GoStart q s other) = of_names (names_with s other) (λ m. deeds.GoStart q (m 0) (surface_by other (m 1)))
composition (bodies.Contour contour e) = of_both (e ∷ []) (contour.drive ∷ contour.check ∷ []) (λ v m. deeds.Contour (record contour { drive = m 0; check = m 1 }) (v 0))
composition bodies.Rapid = words_alone deeds.Rapid
composition bodies.Halt = words_alone (deeds.Do commands.Stop)
composition bodies.OptHalt = words_alone (deeds.Do commands.OptStop)
composition bodies.SpindlOff = words_alone (deeds.Do (commands.Spindle turns.Off (pos 0)))
composition (bodies.Coolnt cool) = words_alone (deeds.Do (commands.Coolant cool))
composition bodies.EndWord = words_alone deeds.EndWord
composition bodies.Fini = flowing ProgramEnds deeds.Fini
composition (bodies.Fedrat e) = of_number e deeds.Fedrat
composition (bodies.Spindl e turn) = of_number e (λ v. deeds.Do (commands.Spindle turn v))
composition (bodies.Loadtl e) = of_number e (λ v. deeds.Do (commands.Tool v))
composition (bodies.Patern n p q e) = defining n (of_both (e ∷ []) (p ∷ q ∷ []) (λ v m. deeds.Patern n (m 0) (m 1) (v 0)))
composition (bodies.CycleDrill d c) = of_numbers (d ∷ c ∷ []) (λ v. deeds.CycleDrill (v 0) (v 1))
composition bodies.CycleOff = words_alone deeds.CycleOff
composition (bodies.Macro m ps) = flowing (MacroBegins m ps) deeds.Macro
composition bodies.Termac = flowing MacroEnds deeds.Termac
composition (bodies.Call m args) = flowing (Calls m args) deeds.Call
composition bodies.Loopst = flowing LoopBegins deeds.Loopst
composition bodies.Loopnd = flowing LoopEnds deeds.Loopnd
composition (bodies.Jumpto l) = flowing (Jumps l) deeds.Jumpto
composition (bodies.If e a b c) = flowing (Branches e a b c) deeds.If

-- where a run goes on behind a statement
abbrev pub flow_of : Body → Flow
flow_of body = (composition body).flow

abbrev pub is_fini : Body → Bool
is_fini body = ends_program (flow_of body)

-- What holds of each deed that a statement gives: its numbers are scalars, it is Fini where the statement is FINI, it has the statement's text, and PARTNO where the statement is.
use Rattle.std.proofs.Common.{◌≡◌, ℕ, zero, suc, refl, Bool, true, false, Option, Some, None, Result, Ok, Err, List, [], ◌∷◌, arith}
use Rattle.std.specs.Prelude.{ℤ, pos, IfOk, if◌then◌else◌}
use Rattle.apt_words.specs.Asks.{listed}
use Rattle.apt_words.specs.Composition.{Values, Meanings, if_there, composition, is_fini}
use Rattle.apt_words.specs.Sources.{HasText, DeedHasText}
use Rattle.apt_words.specs.Trees.{Tree}
use Rattle.apt_words.proofs.Titles.{IsUntitled, DeedIsUntitled}
use Rattle.apt_words.specs.declared.Case.{Case}
use Rattle.apt_words.specs.declared.Case.TheVariants as cases
use Rattle.apt_words.specs.declared.Turn.TheVariants as turns
use Rattle.apt_words.specs.declared.body.Body.{Body}
use Rattle.apt_words.specs.declared.body.Body.TheVariants as bodies
use Rattle.apt_words.specs.declared.deed.Deed.{Deed}
use Rattle.apt_words.specs.declared.deed.Deed.TheVariants as deeds
use Rattle.apt_scalar.specs.Scalars.{IsScalar}
use Rattle.apt_scalar.specs.Meanings.{Names, Parameters, meaning}
use Rattle.apt_scalar.specs.Evaluation.{value_of}
use Rattle.apt_scalar.specs.StepScalars.{AllScalars, HasScalars, HasDrillScalars}
use Rattle.apt_scalar.proofs.Ranges.{then_ok, value_of-scalar}
use Rattle.apt_deeds.specs.Deeds.{values_of, names_for, arguments, lone_points, nth, is_pattern, pattern_or, by_values, points_or, executed, execution, is_parameter, deed_of}

abbrev pub is_end : Deed → Bool
is_end deeds.Fini = true
is_end _ = false

pub record Suits (body : Body) (deed : Deed) : Type 0 where
  pub scalars : HasScalars deed
  pub drills : HasDrillScalars deed
  pub ends : is_end deed ≡ is_fini body
  pub text : HasText body → DeedHasText deed
  pub untitled : IsUntitled body → DeedIsUntitled deed

abbrev pub Any : {A : Type 0} → A → Type 0
Any a = Unit {0}

pub any : {A : Type 0} (r : Result A Case) → IfOk r Any
any (Ok a) = tt
any (Err case) = tt

-- ---- arguments

values-scalars : (names : Names) (ps : Parameters) (es : List Tree) → IfOk (values_of names ps es) AllScalars
values-scalars names ps [] = tt
values-scalars names ps (e ∷ es) =
    then_ok IsScalar AllScalars (value_of names ps e) _ (value_of-scalar names ps e)
    (λ v h. then_ok AllScalars AllScalars (values_of names ps es) _ (values-scalars names ps es) (λ vs are. (h, are)))

arguments-scalars : (names : Names) (ps : Parameters) (es : List Tree) (ns : List (List ℕ)) → IfOk (arguments names ps es ns) (λ r. AllScalars r.0)
arguments-scalars names ps es ns =
    then_ok AllScalars (λ r. AllScalars r.0) (values_of names ps es) _ (values-scalars names ps es)
    (λ vs are. then_ok Any (λ r. AllScalars r.0) (names_for ps ns) _ (any (names_for ps ns)) (λ ms _. are))

nth-scalar : (vs : List ℤ) → AllScalars vs → (k : ℕ) → IsScalar (nth (pos 0) vs k)
nth-scalar [] are k = omega arith
nth-scalar (v ∷ vs) are zero = are.0
nth-scalar (v ∷ vs) are (suc k) = nth-scalar vs are.1 k

-- ---- statements, whose values are scalars

height : (z : Option Tree) (v : ℤ) → IsScalar v → AllScalars (listed (if_there z v))
height None v h = tt
height (Some e) v h = (h, tt)

numbers-scalars : (body : Body) (v : Values) (m : Meanings) → ((k : ℕ) → IsScalar (v k)) → HasScalars ((composition body).deed v m)
numbers-scalars (bodies.PointXy n x y z) v m h = (h 0, (h 1, height z (v 2) (h 2)))
numbers-scalars (bodies.FromXy x y z) v m h = (h 0, (h 1, height z (v 2) (h 2)))
numbers-scalars (bodies.GotoXy x y z) v m h = (h 0, (h 1, height z (v 2) (h 2)))
numbers-scalars (bodies.Spindl e turns.Off) v m h = tt
numbers-scalars _ v m h = assumption (h 0, h 1, h 2, h 3)

drills-scalars : (body : Body) (v : Values) (m : Meanings) → ((k : ℕ) → IsScalar (v k)) → HasDrillScalars ((composition body).deed v m)
drills-scalars (bodies.Patern n p q e) v m h = (h 0, tt)
drills-scalars (bodies.CycleDrill d c) v m h = (h 0, (h 1, tt))
drills-scalars _ v m h = tt

ends_as : (body : Body) (v : Values) (m : Meanings) → is_end ((composition body).deed v m) ≡ is_fini body
ends_as bodies.Fini v m = refl
ends_as _ v m = refl

text_as : (body : Body) (v : Values) (m : Meanings) → HasText body → DeedHasText ((composition body).deed v m)
text_as (bodies.Partno text) v m h = h
text_as (bodies.Spindl e turns.Cw) v m h = tt
text_as _ v m h = tt

untitled_as : (body : Body) (v : Values) (m : Meanings) → IsUntitled body → DeedIsUntitled ((composition body).deed v m)
untitled_as (bodies.Partno text) v m h = h
untitled_as _ v m h = tt

-- ---- statements whose expressions are points

abbrev IfPoints : (Deed → Type 0) → Option (Meanings → Deed) → Type 0
IfPoints P None = Unit {0}
IfPoints P (Some deed) = (m : Meanings) → P (deed m)

plain : {A : Type 0} → A → Unit {0}
plain _ = tt

points-suits : (body : Body) → IfPoints (Suits body) (composition body).by_points
points-suits (bodies.CircleThree n x y z) = λ m. record { scalars = tt; drills = tt; ends = refl; text = plain; untitled = plain }
points-suits _ = tt

-- ---- statements whose name is a pattern

pattern-suits : (body : Body) → IfPoints (Suits body) (composition body).by_pattern
pattern-suits (bodies.GotoPoint p) = λ m. record { scalars = tt; drills = tt; ends = refl; text = plain; untitled = plain }
pattern-suits _ = tt

pattern_or-holds : (P : Deed → Type 0) (by_pattern : Option (Meanings → Deed)) (stands : Bool) (m : Meanings) (deed : Deed) → IfPoints P by_pattern → P deed
    → P (pattern_or by_pattern stands m deed)
pattern_or-holds P None stands m deed with_pattern h = h
pattern_or-holds P (Some by) true m deed with_pattern h = with_pattern m
pattern_or-holds P (Some by) false m deed with_pattern h = h

points_or-holds : (P : Deed → Type 0) (by_points : Option (Meanings → Deed)) (points : Option (List (List ℕ))) (r : Result Deed Case)
    → IfPoints P by_points → IfOk r P → IfOk (points_or by_points points r) P
points_or-holds P None points r with_points h = h
points_or-holds P (Some deed) None r with_points h = h
points_or-holds P (Some deed) (Some points) r with_points h = with_points (nth [] points)

-- ---- all statements

by_values-suits : (names : Names) (ps : Parameters) (body : Body) → IfOk (by_values names ps (composition body)) (Suits body)
unfolding by_values
by_values-suits names ps body =
    let c = composition body in
    then_ok (λ r. AllScalars r.0) (Suits body) (arguments names ps c.numbers c.names) _ (arguments-scalars names ps c.numbers c.names)
    (λ r are.
    let v = nth (pos 0) r.0 in
    let m = nth [] r.1 in
    pattern_or-holds (Suits body) c.by_pattern (is_pattern (meaning names (m 0))) m (c.deed v m) (pattern-suits body)
    (record {
      scalars = numbers-scalars body v m (nth-scalar r.0 are);
      drills = drills-scalars body v m (nth-scalar r.0 are);
      ends = ends_as body v m;
      text = text_as body v m;
      untitled = untitled_as body v m;
    }))

execution-suits : (names : Names) (ps : Parameters) (body : Body) → IfOk (execution names ps body) (Suits body)
unfolding executed
execution-suits names ps body =
    let c = composition body in
    points_or-holds (Suits body) c.by_points (lone_points names ps c.numbers) (by_values names ps c) (points-suits body) (by_values-suits names ps body)

unless_bound : (body : Body) (bound : Bool) (r : Result Deed Case) → IfOk r (Suits body) → IfOk (if bound then Err cases.BadArgs else r) (Suits body)
unless_bound body true r h = tt
unless_bound body false r h = h

pub deed_of-suits : (names : Names) (ps : Parameters) (body : Body) → IfOk (deed_of names ps body) (Suits body)
unfolding deed_of
deed_of-suits names ps body = unless_bound body (is_parameter ps (composition body).defines) (execution names ps body) (execution-suits names ps body)

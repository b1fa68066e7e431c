-- NotTangent comes exactly where surfaces with an axis do not touch.
use Rattle.std.specs.Prelude.{Option, Some, None, Result, IsErrOf, is_none, ◌↔◌, if◌then◌else◌}
use Rattle.std.specs.Option.{IsNone}
use Rattle.std.proofs.Common.{refl, ◌≡◌, ◌≢◌, sym, true≢false, Bool, true, false, not}
use Rattle.apt_words.specs.declared.Case.{Case}
use Rattle.apt_words.specs.declared.Case.TheVariants as cases
use Rattle.apt_words.specs.declared.Stop.{Stop}
use Rattle.apt_words.specs.declared.Stop.TheVariants as stops
use Rattle.apt_words.specs.Rows.{first_of, unless}
use Rattle.apt_words.proofs.Rows.{refused_by}
use Rattle.apt_plane.specs.declared.figures.Axis.{Axis}
use Rattle.apt_contact.specs.Meetings.{meeting_cases}
use Rattle.apt_stop.specs.declared.course.Course.{Course}
use Rattle.apt_stop.specs.declared.legs.Ends.{Ends}
use Rattle.apt_stop.specs.declared.legs.Legs.{Legs}
use Rattle.apt_stop.specs.declared.legs.Legs.TheVariants as legs
use Rattle.apt_stop.specs.Courses.{is_tanto}
use Rattle.apt_stop.specs.Choices.{stop_cases, way_cases}
use Rattle.apt_stop.specs.Gaps.{is_touching}
use Rattle.apt_stop.specs.Legs.{next_leg, ways_of, leg_cases, ends_of}
use Rattle.apt_stop.specs.Ranges.{IsCourse}
use Rattle.apt_stop.specs.Tangencies.{tangent_axis, HaveNoAxis}
use Rattle.apt_stop.specs.Touching.{AreTouching, IsNotTangent}
use Rattle.apt_stop.proofs.Axes.{no_axis}
use Rattle.apt_stop.proofs.OtherCases.{AreOthers, never_first, both_others}
use Rattle.apt_stop.proofs.TouchTests.{touching_tells}
use Rattle.apt_stop.proofs.TwoLegs.{or_first, first-append}

-- ---- it comes from the cases of the stop

way_others : (c : Course) → AreOthers cases.NotTangent (way_cases c)
way_others c = (λ e. cc, (λ e. cc, tt))

ways_others : (n : Legs) (c : Course) → AreOthers cases.NotTangent (ways_of n c)
ways_others legs.One c = way_others c
ways_others legs.Two c = (λ e. cc, both_others cases.NotTangent (way_cases c) (way_cases (next_leg c)) (way_others c) (way_others (next_leg c)))

from_first : (stop ways : Option Case) → ways ≢ Some cases.NotTangent → (or_first stop ways ≡ Some cases.NotTangent) ↔ (stop ≡ Some cases.NotTangent)
from_first None ways other = (λ e. absurd (other e), λ e. absurd cc)
from_first (Some case) ways other = (λ e. e, λ e. e)

from_stop : (n : Legs) (c : Course) → (first_of (leg_cases n c) ≡ Some cases.NotTangent) ↔ (first_of (stop_cases c) ≡ Some cases.NotTangent)
from_stop n c =
    rw (first-append (stop_cases c) (ways_of n c)) (from_first (first_of (stop_cases c)) (first_of (ways_of n c)) (never_first cases.NotTangent (ways_of n c) (ways_others n c)))

-- ---- of a course that touches, by the tests

abbrev touch_first : Bool → Bool → Option Case
touch_first none touch = if none then Some cases.Parallel else if not touch then Some cases.NotTangent else None

by_tests : (none touch : Bool) → (touch_first none touch ≡ Some cases.NotTangent) ↔ ((none ≡ false) × (touch ≡ false))
by_tests true touch = (λ e. absurd cc, λ both. absurd (true≢false both.0))
by_tests false true = (λ e. absurd cc, λ both. absurd (true≢false both.1))
by_tests false false = (λ e. (refl, refl), λ both. refl)

tests_of : (c : Course) (tanto : Bool) → is_tanto c.how ≡ tanto
    → (first_of (stop_cases c) ≡ Some cases.NotTangent) ↔ ((tanto ≡ true) × (is_none (tangent_axis c.drive c.check) ≡ false) × (is_touching c.drive c.check ≡ false))
tests_of c true e =
    let tests = by_tests (is_none (tangent_axis c.drive c.check)) (is_touching c.drive c.check) in
    rw e (λ first. let both = tests.0 first in (refl, both.0, both.1), λ are. tests.1 (are.1, are.2))
tests_of c false e = rw e (λ first. absurd (never_first cases.NotTangent (meeting_cases c.track c.stop) (λ e. cc, (λ e. cc, tt)) first), λ are. absurd (true≢false (sym are.0)))

-- ---- read by themselves

tanto_tells : (how : Stop) → (is_tanto how ≡ true) ↔ (how ≡ stops.Tanto)
tanto_tells stops.To = (λ e. absurd cc, λ e. absurd cc)
tanto_tells stops.On = (λ e. absurd cc, λ e. absurd cc)
tanto_tells stops.Past = (λ e. absurd cc, λ e. absurd cc)
tanto_tells stops.Tanto = (λ e. refl, λ e. refl)

false_tells : (b : Bool) (P : Type 0) → (b ≡ true) ↔ P → (b ≡ false) ↔ (¬ P)
false_tells true P tells = (λ e. absurd (true≢false e), λ no. absurd (no (tells.0 refl)))
false_tells false P tells = (λ e p. true≢false (sym (tells.1 p)), λ no. refl)

axis_tells : (o : Option Axis) (P : Type 0) → IsNone o ↔ P → (is_none o ≡ true) ↔ P
axis_tells None P tells = (λ e. tells.0 refl, λ p. refl)
axis_tells (Some a) P tells = (λ e. absurd (true≢false (sym e)), λ p. absurd (true≢false (tells.1 p)))

not_tangent : (c : Course) → IsCourse c → (first_of (stop_cases c) ≡ Some cases.NotTangent) ↔ IsNotTangent c
not_tangent c is =
    let tests = tests_of c (is_tanto c.how) refl in
    let how = tanto_tells c.how in
    let axis = false_tells (is_none (tangent_axis c.drive c.check)) (HaveNoAxis c.drive c.check)
    (axis_tells (tangent_axis c.drive c.check) (HaveNoAxis c.drive c.check) (no_axis (tangent_axis c.drive c.check) c.drive c.check refl)) in
    let touch = false_tells (is_touching c.drive c.check) (AreTouching c.drive c.check) (touching_tells c.drive c.check is.drive is.check) in (
      λ e. let are = tests.0 e in record { how = how.0 are.0; axis = axis.0 are.1; apart = touch.0 are.2 },
      λ not. tests.1 (how.1 not.how, axis.1 not.axis, touch.1 not.apart),
    )

pub not_tangent_exactly : (r : Result Ends Case) (n : Legs) (c : Course) → IsCourse c → r ≡ unless (leg_cases n c) (ends_of n c) → IsErrOf r cases.NotTangent ↔ IsNotTangent c
not_tangent_exactly r n c is e =
    let refused = refused_by (leg_cases n c) (ends_of n c) cases.NotTangent in
    let stop = from_stop n c in
    let tells = not_tangent c is in
    rw e (λ err. tells.0 (stop.0 (refused.0 err)), λ not. refused.1 (stop.1 (tells.1 not)))

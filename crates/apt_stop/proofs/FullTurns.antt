-- FullTurn comes exactly where two legs turn fully.
use Rattle.std.specs.Prelude.{Option, Some, None, Result, Err, IsErrOf, ◌↔◌, if◌then◌else◌}
use Rattle.std.proofs.Common.{refl, ◌≡◌, ◌≢◌, sym, ◌∙◌, Bool, true, false, ◌∷◌, ◌++◌}
use Rattle.std.proofs.lemmas.Bool.{and_parts}
use Rattle.apt_words.specs.declared.Case.{Case}
use Rattle.apt_words.specs.declared.Case.TheVariants as cases
use Rattle.apt_words.specs.Rows.{first_of, unless, unless_case}
use Rattle.apt_words.proofs.Rows.{none_first, first_none}
use Rattle.apt_plane.specs.declared.figures.Surface.{Surface}
use Rattle.apt_plane.specs.declared.figures.Surface.TheVariants as surfaces
use Rattle.apt_stop.specs.declared.course.Course.{Course}
use Rattle.apt_stop.specs.declared.legs.Ends.{Ends}
use Rattle.apt_stop.specs.declared.legs.Legs.{Legs}
use Rattle.apt_stop.specs.declared.legs.Legs.TheVariants as legs
use Rattle.apt_stop.specs.Courses.{is_tanto, starts_near_stop}
use Rattle.apt_stop.specs.Choices.{stop_cases, way_cases}
use Rattle.apt_stop.specs.Legs.{next_leg, is_round, turns_fully, ways_of, leg_cases, ends_of, IsRound, IsFullTurn}
use Rattle.apt_stop.specs.Ranges.{IsCourse}
use Rattle.apt_stop.proofs.Moved.{stop_target}
use Rattle.apt_stop.proofs.OtherCases.{AreOthers, never_first, both_others}
use Rattle.apt_stop.proofs.TwoLegs.{or_first, first-append}
use Rattle.apt_stop.proofs.Within.{near_tells}

-- ---- the other rows

stop_others : (c : Course) → AreOthers cases.FullTurn (stop_cases c)
stop_others c = by_how (is_tanto c.how) refl
  where
    by_how : (tanto : Bool) → is_tanto c.how ≡ tanto → AreOthers cases.FullTurn (stop_cases c)
    by_how true e = rw e (λ e. cc, (λ e. cc, tt))
    by_how false e = rw e (λ e. cc, (λ e. cc, tt))

way_others : (c : Course) → AreOthers cases.FullTurn (way_cases c)
way_others c = (λ e. cc, (λ e. cc, tt))

-- ---- behind the cases of the stop

behind_stop : (stop : Option Case) (full : Bool) (ways : Option Case) → stop ≢ Some cases.FullTurn → ways ≢ Some cases.FullTurn
    → or_first stop (if full then Some cases.FullTurn else ways) ≡ Some cases.FullTurn → (stop ≡ None) × (full ≡ true)
behind_stop None true ways other later e = (refl, refl)
behind_stop None false ways other later e = absurd (later e)
behind_stop (Some case) full ways other later e = absurd (other e)

two_full : (c : Course) → first_of (leg_cases legs.Two c) ≡ Some cases.FullTurn → (first_of (stop_cases c) ≡ None) × (turns_fully c ≡ true)
two_full c e =
    let ways = way_cases c ++ way_cases (next_leg c) in
    behind_stop (first_of (stop_cases c)) (turns_fully c) (first_of ways) (never_first cases.FullTurn (stop_cases c) (stop_others c))
    (never_first cases.FullTurn ways (both_others cases.FullTurn (way_cases c) (way_cases (next_leg c)) (way_others c) (way_others (next_leg c))))
    (sym (first-append (stop_cases c) ((turns_fully c, cases.FullTurn) ∷ ways)) ∙ e)

-- ---- a full turn, read by itself

round_tells : (s : Surface) → is_round s ≡ true → IsRound s
round_tells (surfaces.Line l) e = absurd cc
round_tells (surfaces.Circ c) e = tt

round_told : (s : Surface) → IsRound s → is_round s ≡ true
round_told (surfaces.Line l) is = absurd is
round_told (surfaces.Circ c) is = refl

told : (n : Legs) (c : Course) → IsCourse c → first_of (leg_cases n c) ≡ Some cases.FullTurn → IsFullTurn n c
told legs.One c is e = absurd (never_first cases.FullTurn (stop_cases c ++ way_cases c) (both_others cases.FullTurn (stop_cases c) (way_cases c) (stop_others c) (way_others c)) e)
told legs.Two c is e =
    let full = two_full c e in
    let both = and_parts (is_round c.drive) (starts_near_stop c) full.1 in
    record {
      two = refl;
      round = round_tells c.drive both.0;
      near = (near_tells c.stop c.start (stop_target c is)).0 both.1;
      free = first_none (stop_cases c) full.0;
    }

tells : (n : Legs) (c : Course) → IsCourse c → IsFullTurn n c → first_of (leg_cases n c) ≡ Some cases.FullTurn
tells n c is full =
    rw (full.two, first-append (stop_cases c) (ways_of legs.Two c), none_first (stop_cases c) full.free, round_told c.drive full.round, (near_tells c.stop c.start (stop_target c is)).1 full.near) refl

refused : (first : Option Case) (x : Ends) → (unless_case first x ≡ Err cases.FullTurn → first ≡ Some cases.FullTurn) × (first ≡ Some cases.FullTurn → unless_case first x ≡ Err cases.FullTurn)
refused None x = (λ e. absurd cc, λ e. absurd cc)
refused (Some case) x = (λ e. cc, λ e. cc)

pub full_turn_exactly : (r : Result Ends Case) (n : Legs) (c : Course) → IsCourse c → r ≡ unless (leg_cases n c) (ends_of n c) → IsErrOf r cases.FullTurn ↔ IsFullTurn n c
full_turn_exactly r n c is e =
    let by = refused (first_of (leg_cases n c)) (ends_of n c) in
    rw e (λ err. told n c is (by.0 err), λ full. by.1 (tells n c is full))

-- What refuses two legs, in order.
use Rattle.std.specs.Prelude.{if◌then◌else◌, Option, Some, None, Result, Ok, Err, unwrap_or}
use Rattle.std.proofs.Common.{refl, ◌≡◌, ap, ◌∙◌, Bool, true, false, List, [], ◌∷◌, ◌++◌}
use Rattle.apt_words.specs.declared.Case.{Case}
use Rattle.apt_words.specs.declared.Case.TheVariants as cases
use Rattle.apt_words.specs.Rows.{Row, NoneHolds, first_of, unless, unless_case}
use Rattle.apt_words.proofs.Rows.{first_none}
use Rattle.apt_stop.specs.declared.course.Course.{Course}
use Rattle.apt_stop.specs.declared.course.Choice.{Choice}
use Rattle.apt_stop.specs.Choices.{choice_of, stop_cases, way_cases, course_cases}
use Rattle.apt_stop.specs.declared.legs.Legs.TheVariants as legs
use Rattle.apt_stop.specs.Legs.{next_leg, turns_fully, leg_cases, ends_of}

-- ---- rows in front of others

abbrev pub or_first : Option Case → Option Case → Option Case
or_first None other = other
or_first (Some case) other = Some case

first_in : (b : Bool) (case : Case) (x y : Option Case) → (if b then Some case else or_first x y) ≡ or_first (if b then Some case else x) y
first_in true case x y = refl
first_in false case x y = refl

pub first-append : (rows more : List Row) → first_of (rows ++ more) ≡ or_first (first_of rows) (first_of more)
first-append [] more = refl
first-append (row ∷ rows) more = ap (λ (o : Option Case). if row.0 then Some row.1 else o) (first-append rows more) ∙ first_in row.0 row.1 (first_of rows) (first_of more)

-- ---- a full turn

turned : (o : Option Case) (more : Option Case) (case : Case) → unwrap_or o case ≡ unwrap_or (or_first o (Some case)) case
turned None more case = refl
turned (Some other) more case = refl

pub fully : (c : Course) (r : Case) → turns_fully c ≡ true → r ≡ unwrap_or (first_of (stop_cases c)) cases.FullTurn → Err r ≡ unless (leg_cases legs.Two c) (ends_of legs.Two c)
fully c r full is =
    let ways = way_cases c ++ way_cases (next_leg c) in
    rw (is, first-append (stop_cases c) ((turns_fully c, cases.FullTurn) ∷ ways), full) (by_stop (first_of (stop_cases c)))
  where
    by_stop : (o : Option Case) → Err (unwrap_or o cases.FullTurn) ≡ unless_case (or_first o (Some cases.FullTurn)) (ends_of legs.Two c)
    by_stop None = refl
    by_stop (Some case) = refl

-- ---- no full turn

rows_on : (c : Course) → turns_fully c ≡ false → first_of (leg_cases legs.Two c) ≡ or_first (first_of (course_cases c)) (first_of (way_cases (next_leg c)))
rows_on c none =
    first-append (stop_cases c) ((turns_fully c, cases.FullTurn) ∷ way_cases c ++ way_cases (next_leg c))
    ∙ rw (none, first-append (way_cases c) (way_cases (next_leg c)), first-append (stop_cases c) (way_cases c)) (grouped (first_of (stop_cases c)) (first_of (way_cases c)) (first_of (way_cases (next_leg c))))
  where
    grouped : (a b d : Option Case) → or_first a (or_first b d) ≡ or_first (or_first a b) d
    grouped None b d = refl
    grouped (Some case) b d = refl

no_case : (f : Option Case) (case : Case) (x : Choice) → Err case ≡ unless_case f x → f ≡ Some case
no_case None case x e = absurd cc
no_case (Some other) case x e = ap Some (same other case e)
  where
    same : (other case : Case) → ◌≡◌ {A = Result Choice Case} (Err case) (Err other) → other ≡ case
    same other case e = cc

pub some_choice : (f : Option Case) (y x : Choice) → Ok y ≡ unless_case f x → (f ≡ None) × (y ≡ x)
some_choice None y x e = (refl, same y x e)
  where
    same : (y x : Choice) → ◌≡◌ {A = Result Choice Case} (Ok y) (Ok x) → y ≡ x
    same y x e = cc
some_choice (Some case) y x e = absurd cc

pub refused_first : (c : Course) (case : Case) → turns_fully c ≡ false → Err case ≡ unless (course_cases c) (choice_of c) → Err case ≡ unless (leg_cases legs.Two c) (ends_of legs.Two c)
refused_first c case none is = rw (rows_on c none, no_case (first_of (course_cases c)) case (choice_of c) is) refl

pub refused_next : (c : Course) (x : Choice) (case : Case) → turns_fully c ≡ false → Ok x ≡ unless (course_cases c) (choice_of c)
    → Err case ≡ unless (way_cases (next_leg c)) (choice_of (next_leg c)) → Err case ≡ unless (leg_cases legs.Two c) (ends_of legs.Two c)
refused_next c x case none first is =
    rw (rows_on c none, (some_choice (first_of (course_cases c)) x (choice_of c) first).0, no_case (first_of (way_cases (next_leg c))) case (choice_of (next_leg c)) is) refl

pub both_free : (c : Course) (x y : Choice) → turns_fully c ≡ false → Ok x ≡ unless (course_cases c) (choice_of c)
    → Ok y ≡ unless (way_cases (next_leg c)) (choice_of (next_leg c)) → Ok (record { first = x.end; second = Some y.end }) ≡ unless (leg_cases legs.Two c) (ends_of legs.Two c)
both_free c x y none first next =
    let a = some_choice (first_of (course_cases c)) x (choice_of c) first in
    let b = some_choice (first_of (way_cases (next_leg c))) y (choice_of (next_leg c)) next in
    rw (rows_on c none, a.0, b.0, a.1, b.1) refl

pub free_course : (c : Course) (x : Choice) → Ok x ≡ unless (course_cases c) (choice_of c) → NoneHolds (course_cases c)
free_course c x is = first_none (course_cases c) (some_choice (first_of (course_cases c)) x (choice_of c) is).0

-- ---- one leg

pub one_is : (c : Course) (x : Choice) → Ok x ≡ unless (course_cases c) (choice_of c) → Ok (record { first = x.end; second = None }) ≡ unless (leg_cases legs.One c) (ends_of legs.One c)
one_is c x is =
    let free = some_choice (first_of (course_cases c)) x (choice_of c) is in
    rw (free.0, free.1) refl

pub one_refused : (c : Course) (case : Case) → Err case ≡ unless (course_cases c) (choice_of c) → Err case ≡ unless (leg_cases legs.One c) (ends_of legs.One c)
one_refused c case is = rw (no_case (first_of (course_cases c)) case (choice_of c) is) refl

-- Steps that ask for nothing of patterns and drill cycles need not be expanded: they come to what their plain steps come to. These are a front part of them, up to a
-- definition that its own case refuses, and behind the first refused step nothing is asked for.
use Rattle.std.proofs.Common.{◌≡◌, ◌⊎◌, inl, inr, ◌∙◌, ◌≤◌, ◌<◌, ◌+◌, nat_lt, ℕ, Bool, true, false, List, [], ◌∷◌, ◌++◌, length, Option, Some, None, Result, Ok, Err, refl, sym, ap, subst, arith}
use Rattle.std.specs.Option.{option_or}
use Rattle.std.proofs.lemmas.Bool.Decides.{nat_tests}
use Rattle.apt_words.specs.Rows.{first_of}
use Rattle.apt_words.specs.Sources.{AreNumbered}
use Rattle.apt_words.specs.declared.Case.{Case}
use Rattle.apt_words.specs.declared.Case.TheVariants as cases
use Rattle.apt_words.specs.declared.Refusal.{Refusal}
use Rattle.apt_words.specs.declared.deed.Step.{Step}
use Rattle.apt_unroll.specs.Trace.{Trace}
use Rattle.apt_records.specs.declared.record.Record.{Record}
use Rattle.apt_meaning.specs.declared.effect.Effect.{Effect}
use Rattle.apt_meaning.specs.declared.situation.Situation.{Situation}
use Rattle.apt_meaning.specs.Effects.{effect_of}
use Rattle.apt_meaning.specs.Refusals.{refusal_of}
use Rattle.apt_meaning.specs.Records.{records_of, after}
use Rattle.apt_meaning.specs.Situations.{first_situation}
use Rattle.apt_meaning.specs.Compiled.{ends_of, points_of, point_number, asked, asked_within, or_first, first_refused, or_refused, with_front, compilation_behind, compilation}
use Rattle.apt_meaning.proofs.Walks.Compiled.{compiled_passes}
use Rattle.apt_pattern.proofs.Undrilled.{front_kept, whole_kept}
use Rattle.apt_machine.specs.declared.machine.Machine.{Machine}
use Rattle.apt_post.specs.Limits.{machine_cases, refused_by, limits}
use Rattle.apt_part.specs.Plain.{IsUndrilled, plain, StandsFor}
use Rattle.apt_part.specs.Compilation.{earliest, earliest_of, refusal_by, unless_refused, earlier, unless_fault, records_by, with_steps}

-- ---- behind a refused step

refused_on : (here : Situation) (xs ys : List Step) (r : Refusal) → first_refused here xs ≡ Some r → first_refused here (xs ++ ys) ≡ Some r
refused_on here [] ys r e = absurd cc
refused_on here (x ∷ xs) ys r e = by (asked (refusal_of here x.deed) (effect_of here x.deed)) (λ f. refused_on (after here f (ends_of f)) xs ys r) e
  where
    by : (o : Result Effect Case) → ((f : Effect) → first_refused (after here f (ends_of f)) xs ≡ Some r → first_refused (after here f (ends_of f)) (xs ++ ys) ≡ Some r)
        → or_first x o (λ f. first_refused (after here f (ends_of f)) xs) ≡ Some r → or_first x o (λ f. first_refused (after here f (ends_of f)) (xs ++ ys)) ≡ Some r
    by (Ok f) later e = later f e
    by (Err case) later e = e

front_refused : (front : List Record) (o : Result (List Record) Refusal) (r : Refusal) → with_front front o ≡ Err r → o ≡ Err r
front_refused front (Ok rest) r e = absurd cc
front_refused front (Err refusal) r e = e

recorded_on : (n : ℕ) (here : Situation) (xs ys : List Step) (r : Refusal) → compilation_behind n here xs ≡ Err r → compilation_behind n here (xs ++ ys) ≡ Err r
recorded_on n here [] ys r e = absurd cc
recorded_on n here (x ∷ xs) ys r e = by (asked_within n (asked (refusal_of here x.deed) (effect_of here x.deed))) (λ f. recorded_on (n + point_number f) (after here f (ends_of f)) xs ys r) e
  where
    by : (o : Result Effect Case)
        → ((f : Effect) → compilation_behind (n + point_number f) (after here f (ends_of f)) xs ≡ Err r → compilation_behind (n + point_number f) (after here f (ends_of f)) (xs ++ ys) ≡ Err r)
        → or_refused x o (λ f. with_front (records_of x f (points_of f)) (compilation_behind (n + point_number f) (after here f (ends_of f)) xs)) ≡ Err r
        → or_refused x o (λ f. with_front (records_of x f (points_of f)) (compilation_behind (n + point_number f) (after here f (ends_of f)) (xs ++ ys))) ≡ Err r
    by (Ok f) later e =
        ap (with_front (records_of x f (points_of f)))
        (later f (front_refused (records_of x f (points_of f)) (compilation_behind (n + point_number f) (after here f (ends_of f)) xs) r e))
    by (Err case) later e = e

-- ---- the number of a refused step is that of one of the steps

refused_number : (k : ℕ) (here : Situation) (xs : List Step) (r : Refusal) → AreNumbered k xs → first_refused here xs ≡ Some r → r.step < k + length xs
refused_number k here [] r are e = absurd cc
refused_number k here (x ∷ xs) r are e = by (asked (refusal_of here x.deed) (effect_of here x.deed)) (λ f. refused_number (k + 1) (after here f (ends_of f)) xs r are.1) e
  where
    by : (o : Result Effect Case) → ((f : Effect) → first_refused (after here f (ends_of f)) xs ≡ Some r → r.step < k + 1 + length xs)
        → or_first x o (λ f. first_refused (after here f (ends_of f)) xs) ≡ Some r → r.step < k + length (x ∷ xs)
    by (Ok f) later e = omega (arith, later f e)
    by (Err case) later e = let same : x.step ≡ r.step = cc in omega (arith, same, are.0)

recorded_number : (k n : ℕ) (here : Situation) (xs : List Step) (r : Refusal) → AreNumbered k xs → compilation_behind n here xs ≡ Err r → r.step < k + length xs
recorded_number k n here [] r are e = absurd cc
recorded_number k n here (x ∷ xs) r are e =
    by (asked_within n (asked (refusal_of here x.deed) (effect_of here x.deed))) (λ f. recorded_number (k + 1) (n + point_number f) (after here f (ends_of f)) xs r are.1) e
  where
    by : (o : Result Effect Case) → ((f : Effect) → compilation_behind (n + point_number f) (after here f (ends_of f)) xs ≡ Err r → r.step < k + 1 + length xs)
        → or_refused x o (λ f. with_front (records_of x f (points_of f)) (compilation_behind (n + point_number f) (after here f (ends_of f)) xs)) ≡ Err r → r.step < k + length (x ∷ xs)
    by (Ok f) later e =
        omega (arith, later f (front_refused (records_of x f (points_of f)) (compilation_behind (n + point_number f) (after here f (ends_of f)) xs) r e))
    by (Err case) later e = let same : x.step ≡ r.step = cc in omega (arith, same, are.0)

-- ---- what a machine refuses behind a front part comes later

-- the same refusal, or one of a step with at least this number in place of none
abbrev IsLater : ℕ → Option Refusal → Option Refusal → Type 0
IsLater k (Some r) all = all ≡ Some r
IsLater k None None = Unit {0}
IsLater k None (Some r) = k ≤ r.step

later_by : (k : ℕ) (st : Step) (case : Option Case) (front all : Option Refusal) → IsLater k front all → IsLater k (refused_by st case front) (refused_by st case all)
later_by k st (Some case) front all is = refl
later_by k st None front all is = is

limits_number : (m : Machine) (k : ℕ) (ys : List Step) → AreNumbered k ys → IsLater k None (limits m ys)
limits_number m k [] are = tt
limits_number m k (y ∷ ys) are = by (first_of (machine_cases m y.deed)) (limits m ys) (limits_number m (k + 1) ys are.1)
  where
    by : (case : Option Case) (more : Option Refusal) → IsLater (k + 1) None more → IsLater k None (refused_by y case more)
    by (Some case) more is = omega (arith, are.0)
    by None None is = tt
    by None (Some r) is = omega (arith, is)

limits_on : (m : Machine) (k : ℕ) (xs ys : List Step) → AreNumbered k (xs ++ ys) → IsLater (k + length xs) (limits m xs) (limits m (xs ++ ys))
limits_on m k [] ys are = limits_number m (k + 0) ys (subst (λ n. AreNumbered n ys) (omega arith) are)
limits_on m k (x ∷ xs) ys are =
    subst (λ n. IsLater n (limits m (x ∷ xs)) (limits m ((x ∷ xs) ++ ys))) (omega arith)
    (later_by (k + 1 + length xs) x (first_of (machine_cases m x.deed)) (limits m xs) (limits m (xs ++ ys)) (limits_on m (k + 1) xs ys are.1))

not_earlier : (past own : Refusal) (k : ℕ) → k ≤ past.step → own.step < k → earliest (Some past) own ≡ own
not_earlier past own k late early =
    let no : nat_lt past.step own.step ≡ false = grind (arith, nat_tests, late, early) in
    rw no refl

-- so it changes nothing where a step of the front part is refused by its own case
earliest_on : (k : ℕ) (front all : Option Refusal) (own : Refusal) → IsLater k front all → own.step < k → earliest front own ≡ earliest all own
earliest_on k (Some r) all own is early = rw is refl
earliest_on k None None own is early = refl
earliest_on k None (Some r) own is early = sym (not_earlier r own k is early)

-- ---- what they come to

abbrev left : (t : Trace) → IsUndrilled t → List Step
left t is = (front_kept t.steps t.fault is.none).0

later_limits : (m : Machine) (t : Trace) (is : IsUndrilled t) → IsLater (1 + length (plain t).steps) (limits m (plain t).steps) (limits m t.steps)
later_limits m t is =
    let same = (front_kept t.steps t.fault is.none).1 in
    subst (λ (ss : List Step). IsLater (1 + length (plain t).steps) (limits m (plain t).steps) (limits m ss)) (sym same)
    (limits_on m 1 (plain t).steps (left t is) (subst (AreNumbered 1) same is.numbers))

front_numbers : (k : ℕ) (xs ys : List Step) → AreNumbered k (xs ++ ys) → AreNumbered k xs
front_numbers k [] ys are = tt
front_numbers k (x ∷ xs) ys are = (are.0, front_numbers (k + 1) xs ys are.1)

plain_numbers : (t : Trace) → IsUndrilled t → AreNumbered 1 (plain t).steps
plain_numbers t is = front_numbers 1 (plain t).steps (left t is) (subst (AreNumbered 1) (front_kept t.steps t.fault is.none).1 is.numbers)

pub steps_alike : (m : Machine) (t : Trace) → IsUndrilled t → unless_refused (plain t).steps (refusal_by m (plain t)) ≡ unless_refused t.steps (refusal_by m t)
steps_alike m t is = by (first_refused first_situation (plain t).steps) refl
  where
    by : (own : Option Refusal) → first_refused first_situation (plain t).steps ≡ own → unless_refused (plain t).steps (refusal_by m (plain t)) ≡ unless_refused t.steps (refusal_by m t)
    by None fine = ap (λ (u : Trace). unless_refused u.steps (refusal_by m u)) (whole_kept t.steps t.fault is.none fine)
    by (Some r) e =
        let again : first_refused first_situation t.steps ≡ Some r =
        subst (λ (ss : List Step). first_refused first_situation ss ≡ Some r) (sym (front_kept t.steps t.fault is.none).1) (refused_on first_situation (plain t).steps (left t is) r e) in
        let early = refused_number 1 first_situation (plain t).steps r (plain_numbers t is) e in
        rw (e, again) (ap Err (earliest_on (1 + length (plain t).steps) (limits m (plain t).steps) (limits m t.steps) r (later_limits m t is) early))

-- behind a refusal neither the steps nor a fault count
errs : (front all f g : Option Refusal) → (xs ys : List Step) (r : Refusal) → earliest front r ≡ earliest all r
    → with_steps xs (unless_fault f (earlier front (Err r))) ≡ with_steps ys (unless_fault g (earlier all (Err r)))
errs None None f g xs ys r same = refl
errs None (Some b) f g xs ys r same = ap Err same
errs (Some a) None f g xs ys r same = ap Err same
errs (Some a) (Some b) f g xs ys r same = ap Err same

pub records_alike : (m : Machine) (t : Trace) → IsUndrilled t → with_steps (plain t).steps (records_by m (plain t)) ≡ with_steps t.steps (records_by m t)
records_alike m t is = by (compilation first_situation (plain t).steps) refl
  where
    by : (own : Result (List Record) Refusal) → compilation first_situation (plain t).steps ≡ own → with_steps (plain t).steps (records_by m (plain t)) ≡ with_steps t.steps (records_by m t)
    by (Ok records) e =
        ap (λ (u : Trace). with_steps u.steps (records_by m u))
        (whole_kept t.steps t.fault is.none (compiled_passes 0 first_situation (plain t).steps records e))
    by (Err r) e =
        let again : compilation first_situation t.steps ≡ Err r =
        subst (λ (ss : List Step). compilation first_situation ss ≡ Err r) (sym (front_kept t.steps t.fault is.none).1) (recorded_on 0 first_situation (plain t).steps (left t is) r e) in
        let early = recorded_number 1 0 first_situation (plain t).steps r (plain_numbers t is) e in
        rw (e, again) (errs (limits m (plain t).steps) (limits m t.steps) (plain t).fault t.fault (plain t).steps t.steps r
        (earliest_on (1 + length (plain t).steps) (limits m (plain t).steps) (limits m t.steps) r (later_limits m t is) early))

-- ---- either way

pub steps_stand : (m : Machine) (t u : Trace) → StandsFor t u → unless_refused u.steps (refusal_by m u) ≡ unless_refused (plain t).steps (refusal_by m (plain t))
steps_stand m t u (inl same) = ap (λ (u : Trace). unless_refused u.steps (refusal_by m u)) same
steps_stand m t u (inr (is, same)) = ap (λ (u : Trace). unless_refused u.steps (refusal_by m u)) same ∙ sym (steps_alike m t is)

pub records_stand : (m : Machine) (t u : Trace) → StandsFor t u → with_steps u.steps (records_by m u) ≡ with_steps (plain t).steps (records_by m (plain t))
records_stand m t u (inl same) = ap (λ (u : Trace). with_steps u.steps (records_by m u)) same
records_stand m t u (inr (is, same)) = ap (λ (u : Trace). with_steps u.steps (records_by m u)) same ∙ sym (records_alike m t is)

-- The walk of a judge over steps and records.
use Rattle.std.proofs.Common.{◌≡◌, ◌∙◌, ◌+◌, ◌-◌, ◌≤◌, ℕ, suc, ℤ, arith, List, [], ◌∷◌, ◌++◌, length, map, Option, Some, None, refl, sym, ap, subst, inl, inr, append_assoc, append-nil}
use Rattle.std.proofs.Common.{◌<◌, take, drop, length-append, length-drop, drop-drop, drop_at, take_at}
use Rattle.std.specs.Prelude.{IsSomeAnd}
use Rattle.std.proofs.lemmas.List.{take_rest}
use borrow.Rule.Slice.PartMut.{mid_of, put_mid, mid_len, same_len_mid, drop_put}
use Rattle.apt_words.specs.Sources.{AreExecuted}
use Rattle.apt_words.specs.declared.deed.Step.{Step}
use Rattle.apt_scalar.specs.StepScalars.{AreScalars}
use Rattle.apt_plane.specs.declared.figures.Pt.{Pt}
use Rattle.apt_certify.specs.declared.leg.Job.{Job}
use Rattle.apt_certify.specs.Jobs.{AreJobs, point_count}
use Rattle.apt_records.specs.declared.record.Record.{Record}
use Rattle.apt_records.specs.Ranges.{vertex_count, AreRecords}
use Rattle.apt_meaning.specs.declared.situation.Situation.{Situation}
use Rattle.apt_meaning.specs.declared.effect.Change.TheVariants as changes
use Rattle.apt_meaning.specs.declared.effect.Effect.{Effect}
use Rattle.apt_meaning.specs.declared.effect.Effect.TheVariants as effects
use Rattle.apt_meaning.specs.Situations.{first_situation}
use Rattle.apt_records.specs.Vertices.{at_height}
use Rattle.apt_meaning.specs.Compiled.{first_refused}
use Rattle.apt_meaning.specs.Paths.{Due, first_leg, next_leg}
use Rattle.apt_meaning.specs.Records.{Begins, records_of, after, cut_record, legs_from}
use Rattle.apt_meaning.specs.Expectations.{expected, Departs, FailsAt}
use Rattle.apt_meaning.proofs.Walks.Follower.{KeepsUp, keeps_up_first, StepsOn, steps_on}
use Rattle.apt_job.specs.Jobs.{job_said, jobs_by, MakesJobs}
use Rattle.apt_job.proofs.Ranges.{jobs_in, points-append}

-- ---- lengths

abbrev pub weight : List Record → ℕ
weight rs = vertex_count rs + length rs

vertices-append : (xs ys : List Record) → vertex_count (xs ++ ys) ≡ vertex_count xs + vertex_count ys
vertices-append [] ys = omega arith
vertices-append (x ∷ xs) ys = omega (arith, vertices-append xs ys)

weight-append : (xs ys : List Record) → weight (xs ++ ys) ≡ weight xs + weight ys
weight-append xs ys = omega (arith, vertices-append xs ys, length-append xs ys)

length-heights : (z : ℤ) (vertices : List Pt) → length (map (at_height z) vertices) ≡ length vertices
length-heights z [] = refl
length-heights z (v ∷ vs) = ap suc (length-heights z vs)

-- a leg's record weighs as much as its points
legs_light : (z : ℤ) (d : Due) (cuts : List (List Pt)) → point_count (map job_said (legs_from d cuts)) ≤ weight (map (cut_record z) cuts)
legs_light z d [] = omega arith
legs_light z d (vertices ∷ cuts) = omega (arith, length-heights z vertices, legs_light z (next_leg d vertices) cuts)

-- the jobs of a step have no more points than its records weigh
light : (step : Step) (e : Effect) (cuts : List (List Pt)) → point_count (jobs_by e cuts) ≤ weight (records_of step e cuts)
light step (effects.Defines n f) cuts = omega arith
light step (effects.Sets (changes.Said note)) cuts = omega arith
light step (effects.Sets (changes.Side side)) cuts = omega arith
light step (effects.Sets changes.Nothing) cuts = omega arith
light step (effects.Moves reach to) cuts = omega arith
light step (effects.Cuts m legs) cuts = omega (arith, legs_light m.start.z (first_leg m) cuts)

-- the number of the first of the rest
abbrev pub number : List Record → List Record → ℕ
number written rest = (length written - length rest) + 1

number_at : (written now : List Record) (at : ℕ) → at ≤ length now → length now ≡ length written → number written (drop at now) ≡ at + 1
number_at written now at place count = omega (arith, length-drop at now, place, count)

-- ---- the records of a step, from a place on

pub begins_in : (here : Situation) (step : Step) (rest seen : List Record) (o : Option Effect) (e : Effect) (cuts : List (List Pt)) (later : List Record) → seen ≡ rest → o ≡ Some e
    → IsSomeAnd o (λ e. Begins here step seen e cuts later) → Begins here step rest e cuts later
begins_in here step rest seen o e cuts later same is begins =
    subst (λ (rs : List Record). Begins here step rs e cuts later) same (subst (λ (o : Option Effect). IsSomeAnd o (λ e. Begins here step seen e cuts later)) is begins)

pub seen_from : (now seen : List Record) (at : ℕ) → seen ≡ now → take (length seen - at) (drop at seen) ≡ drop at now
seen_from now seen at same = take_rest seen at ∙ ap (λ (rs : List Record). drop at rs) same

-- the place behind them
pub record IsPlaceBehind (now : List Record) (at : ℕ) (later : List Record) (behind : ℕ) : Type 0 where
  pub further : at ≤ behind
  pub within : behind ≤ length now
  pub same : drop behind now ≡ later

pub place_behind : (now due later : List Record) (at n : ℕ) → n ≡ length now → at ≤ length now → drop at now ≡ due ++ later → IsPlaceBehind now at later (n - length later)
place_behind now due later at n all place split =
    let size : length now - at ≡ length due + length later = sym (length-drop at now) ∙ ap length split ∙ length-append due later in
    let is : n - length later ≡ at + length due = omega (arith, all, size, place) in
    record {
      further = omega (arith, is);
      within = omega (arith, all);
      same = ap (λ (n : ℕ). drop n now) is ∙ sym (drop-drop (length due) at now) ∙ ap (λ (rs : List Record). drop (length due) rs) split ∙ drop_at due later (length due) refl;
    }

-- as many records as before, and the same from a place on
pub record IsSameBehind (now gone : List Record) (behind : ℕ) : Type 0 where
  pub count : length gone ≡ length now
  pub same : drop behind gone ≡ drop behind now

-- all records, with others in the place of those between two places
abbrev put_between : ℕ → ℕ → List Record → List Record → List Record
put_between at behind others now = put_mid at (behind - at) now others

pub gone_between : (now seen others : List Record) (at behind n : ℕ) → seen ≡ now → n ≡ length now → at ≤ behind → behind ≤ length now → length others ≡ length (mid_of at (behind - at) seen)
    → IsSameBehind now (take n (put_between at behind others seen ++ drop (length (put_between at behind others seen)) now)) behind
gone_between now seen others at behind n same all further within as_many =
    let put = put_between at behind others seen in
    let part = mid_len at behind seen (subst (λ (rs : List Record). behind ≤ length rs) (sym same) within) in
    let size : length put ≡ length now = same_len_mid at (behind - at) seen others as_many ∙ ap length same in
    let is : take n (put ++ drop (length put) now) ≡ put = take_at put (drop (length put) now) n (size ∙ sym all) in
    record {
      count = ap length is ∙ size;
      same = ap (λ (rs : List Record). drop behind rs) is
          ∙ drop_put at behind seen others further (subst (λ (rs : List Record). behind ≤ length rs) (sym same) within) (as_many ∙ part)
          ∙ ap (λ (rs : List Record). drop behind rs) same;
    }

-- ---- how far the walk has come

pub record IsWalk (all : List Step) (written : List Record) (here : Situation) (rest : List Record) (jobs : List Job) (steps : List Step) : Type 0 where
  pub keeps : KeepsUp here steps
  pub scalars : AreScalars steps
  pub sources : AreExecuted steps
  pub records : AreRecords rest
  pub part : length rest ≤ length written
  pub makes : (more : List Job) → MakesJobs here steps rest more → MakesJobs first_situation all written (jobs ++ more)
  pub fails : (k : ℕ) → FailsAt here (number written rest) steps rest k → FailsAt first_situation 1 all written k
  pub range : AreJobs jobs
  pub points : point_count jobs + weight rest ≤ weight written

pub walk_first : (all : List Step) (written : List Record) → AreScalars all → AreExecuted all
    → first_refused first_situation all ≡ None → AreRecords written → IsWalk all written first_situation written [] all
walk_first all written scalars sources passes are = record {
  keeps = keeps_up_first all passes;
  scalars = scalars;
  sources = sources;
  records = are;
  part = omega arith;
  makes = λ more makes. makes;
  fails = λ k fails. subst (λ (n : ℕ). FailsAt first_situation n all written k) (first_number (length written)) fails;
  range = tt;
  points = omega arith;
}
  where
    first_number : (n : ℕ) → (n - n) + 1 ≡ 1
    first_number n = omega arith

-- the step that is due, with its records in front
pub steps_in : (all : List Step) (written : List Record) (here : Situation) (rest : List Record) (jobs : List Job) (step : Step) (steps : List Step) (e : Effect) (cuts : List (List Pt)) (later : List Record)
    → IsWalk all written here rest jobs (step ∷ steps) → Begins here step rest e cuts later → StepsOn here steps e cuts later
steps_in all written here rest jobs step steps e cuts later walk begins =
    steps_on here step steps rest e cuts later walk.keeps walk.scalars.0 walk.sources.0.text walk.records begins.asked begins.front

pub walk_on : (all : List Step) (written : List Record) (here : Situation) (rest : List Record) (jobs : List Job) (step : Step) (steps : List Step) (e : Effect) (cuts : List (List Pt)) (later : List Record)
    → IsWalk all written here rest jobs (step ∷ steps) → Begins here step rest e cuts later → IsWalk all written (after here e cuts) later (jobs ++ jobs_by e cuts) steps
walk_on all written here rest jobs step steps e cuts later walk begins =
    let on = steps_in all written here rest jobs step steps e cuts later walk begins in
    let due = records_of step e cuts in
    let size : length rest ≡ length due + length later = ap length begins.front ∙ length-append due later in
    let load : weight rest ≡ weight due + weight later = ap weight begins.front ∙ weight-append due later in
    let further : number written rest + length due ≡ number written later = omega (arith, size, walk.part) in
    record {
      keeps = on.behind;
      scalars = walk.scalars.1;
      sources = walk.sources.1;
      records = on.later;
      part = omega (arith, size, walk.part);
      makes = λ more makes. subst (λ (js : List Job). MakesJobs first_situation all written js) (sym (append_assoc jobs (jobs_by e cuts) more))
          (walk.makes (jobs_by e cuts ++ more) (e, cuts, later, more, begins, refl, makes));
      fails = λ k fails. walk.fails k (inr (e, cuts, later, begins, subst (λ (n : ℕ). FailsAt (after here e cuts) n steps later k) (sym further) fails));
      range = jobs_in jobs e cuts walk.range on.motion on.within;
      points = omega (arith, points-append jobs (jobs_by e cuts), light step e cuts, load, walk.points);
    }

-- ---- where it ends

-- records that are not those of the step
pub walk_departs : (all : List Step) (written : List Record) (here : Situation) (rest : List Record) (jobs : List Job) (step : Step) (steps : List Step) (k : ℕ)
    → IsWalk all written here rest jobs (step ∷ steps) → Departs (expected here step) rest k → FailsAt first_situation 1 all written (number written rest + k)
walk_departs all written here rest jobs step steps k walk departs = walk.fails (number written rest + k) (inl (k, departs, refl))

pub walk_ends : (all : List Step) (written : List Record) (here : Situation) (rest : List Record) (jobs : List Job) → IsWalk all written here rest jobs []
    → rest ≡ [] → MakesJobs first_situation all written jobs
walk_ends all written here rest jobs walk none =
    subst (λ (js : List Job). MakesJobs first_situation all written js) (append-nil jobs) (walk.makes [] (none, refl))

-- records behind the last step
pub walk_left : (all : List Step) (written : List Record) (here : Situation) (rest : List Record) (jobs : List Job) → IsWalk all written here rest jobs []
    → 0 < length rest → FailsAt first_situation 1 all written (number written rest + 0)
walk_left all written here [] jobs walk some = absurd (omega (arith, some))
walk_left all written here (r ∷ rs) jobs walk some =
    let same : number written (r ∷ rs) + 0 ≡ number written (r ∷ rs) = omega arith in
    subst (λ (k : ℕ). FailsAt first_situation 1 all written k) (sym same) (walk.fails (number written (r ∷ rs)) refl)

-- the number of the record that fails, by the place behind the last step
pub fails_at : (all : List Step) (written now : List Record) (at k : ℕ) → at ≤ length now → length now ≡ length written
    → FailsAt first_situation 1 all written (number written (drop at now) + k) → FailsAt first_situation 1 all written ((at + 1) + k)
fails_at all written now at k place count fails = subst (λ (n : ℕ). FailsAt first_situation 1 all written (n + k)) (number_at written now at place count) fails

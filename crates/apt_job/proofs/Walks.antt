-- The jobs of records that follow steps are legal exactly where the records follow legally.
use Rattle.std.proofs.Common.{◌≡◌, ◌∙◌, ℕ, ◌+◌, List, [], ◌∷◌, ◌++◌, length, map, Result, Ok, Err, Vec, inl, inr, refl, sym, ap, subst}
use Rattle.std.specs.Prelude.{IfOk, IfErr}
use Rattle.apt_words.specs.declared.deed.Step.{Step}
use Rattle.apt_plane.specs.declared.figures.Pt.{Pt}
use Rattle.apt_certify.specs.declared.leg.Job.{Job}
use Rattle.apt_certify.specs.Jobs.{AreLegal}
use Rattle.apt_records.specs.declared.record.Record.{Record}
use Rattle.apt_meaning.specs.declared.situation.Situation.{Situation}
use Rattle.apt_meaning.specs.declared.effect.Effect.{Effect}
use Rattle.apt_meaning.specs.declared.effect.Effect.TheVariants as effects
use Rattle.apt_meaning.specs.Paths.{Told, Contour, Due, first_leg, next_leg, contours_behind, said_behind, nothing_said, EveryContour, IsLegalCut, contours_of}
use Rattle.apt_meaning.specs.Records.{MayHave, FollowsAs, HasAny, Follows, IsAsSaid, records_of, after, legs_from, contours_by}
use Rattle.apt_meaning.specs.Expectations.{expected, FailsAt}
use Rattle.apt_meaning.specs.Situations.{first_situation}
use Rattle.apt_meaning.proofs.Asked.{CutsLegally}
use Rattle.apt_meaning.proofs.Contours.Legs.{IsBound, bound_first, bound_next, bounded_due}
use Rattle.apt_meaning.proofs.Walks.Alone.{says_on, nothing_tells, follows, legal_contours}
use Rattle.apt_meaning.proofs.Walks.Begins.{begins_once, begins_no_departs, departs_once}
use Rattle.apt_job.specs.declared.error.JobError.{JobError}
use Rattle.apt_job.specs.declared.error.JobError.TheVariants as errors
use Rattle.apt_job.specs.Answering.{IsEntry, IsEntryAt}
use Rattle.apt_job.specs.Jobs.{job_said, jobs_said, jobs_by, MakesJobs}

-- ---- legal jobs, legal records

legs_legal : (d : Due) (cuts : List (List Pt)) (more : List Job) → IsBound d → AreLegal (map job_said (legs_from d cuts) ++ more)
    → EveryContour IsLegalCut (legs_from d cuts) × AreLegal more
legs_legal d [] more bound legal = (tt, legal)
legs_legal d (vertices ∷ cuts) more bound legal =
    let later = legs_legal (next_leg d vertices) cuts more (bound_next d vertices bound) legal.1 in
    ((record { bounded = bounded_due d bound; legal = legal.0 }, later.0), later.1)

effect_legal : (e : Effect) (cuts : List (List Pt)) (more : List Job) → MayHave e cuts → AreLegal (jobs_by e cuts ++ more) → CutsLegally e cuts × AreLegal more
effect_legal (effects.Defines n f) cuts more may legal = (tt, legal)
effect_legal (effects.Sets change) cuts more may legal = (tt, legal)
effect_legal (effects.Moves reach to) cuts more may legal = (tt, legal)
effect_legal (effects.Cuts m legs) cuts more may legal = legs_legal (first_leg m) cuts more (bound_first m may.0) legal

jobs_legal : (cs : List Contour) (more : List Job) → EveryContour IsLegalCut cs → AreLegal more → AreLegal (map job_said cs ++ more)
jobs_legal [] more legal later = later
jobs_legal (c ∷ cs) more legal later = (legal.0.legal, jobs_legal cs more legal.1 later)

pub makes_follows : (here : Situation) (steps : List Step) (written : List Record) (jobs : List Job) → MakesJobs here steps written jobs
    → (behind : Situation) × FollowsAs HasAny here steps written behind
makes_follows here [] written jobs makes = (here, (makes.0, refl))
makes_follows here (step ∷ steps) written jobs makes =
    let later = makes_follows (after here makes.0 makes.1) steps makes.2 makes.3 makes.6 in
    (later.0, (makes.0, makes.1, makes.2, makes.4, tt, later.1))

-- records whose jobs are legal follow legally
pub legal_follows : (here : Situation) (steps : List Step) (written : List Record) (jobs : List Job) → MakesJobs here steps written jobs → AreLegal jobs
    → (behind : Situation) × FollowsAs CutsLegally here steps written behind
legal_follows here [] written jobs makes legal = (here, (makes.0, refl))
legal_follows here (step ∷ steps) written jobs makes legal =
    let e = makes.0 in
    let vertices = makes.1 in
    let rest = makes.2 in
    let more = makes.3 in
    let begins = makes.4 in
    let split = effect_legal e vertices more begins.may (subst AreLegal makes.5 legal) in
    let later = legal_follows (after here e vertices) steps rest more makes.6 split.1 in
    (later.0, (e, vertices, rest, begins, split.0, later.1))

-- the records follow the steps, and their contours are legal
pub jobs_right : (steps : List Step) (written : List Record) (jobs : List Job) → MakesJobs first_situation steps written jobs → AreLegal jobs
    → Follows steps written × EveryContour IsLegalCut (contours_of written)
jobs_right steps written jobs makes legal =
    let f = legal_follows first_situation steps written jobs makes legal in
    (follows CutsLegally steps written f.0 f.1, legal_contours steps written f.0 f.1)

-- and the jobs of records that follow legally are legal
pub follows_legal : (here : Situation) (steps : List Step) (written : List Record) (jobs : List Job) (behind : Situation) → MakesJobs here steps written jobs
    → FollowsAs CutsLegally here steps written behind → AreLegal jobs
follows_legal here [] written jobs behind makes follows = rw makes.1 tt
follows_legal here (step ∷ steps) written jobs behind makes follows =
    let e = makes.0 in
    let vertices = makes.1 in
    let rest = makes.2 in
    let more = makes.3 in
    let same = begins_once here step written e follows.0 vertices follows.1 rest follows.2 makes.4 follows.3 in
    let legal = subst (λ (x : Effect). CutsLegally x vertices) (sym same.effect) (subst (λ (ps : List (List Pt)). CutsLegally follows.0 ps) (sym same.cuts) follows.4) in
    let later = subst (λ (x : Effect). FollowsAs CutsLegally (after here x vertices) steps rest behind) (sym same.effect)
    (subst (λ (ps : List (List Pt)). FollowsAs CutsLegally (after here follows.0 ps) steps rest behind) (sym same.cuts)
    (subst (λ (rs : List Record). FollowsAs CutsLegally (after here follows.0 follows.1) steps rs behind) (sym same.rest) follows.5)) in
    rw makes.5 (jobs_legal (contours_by e vertices) more legal (follows_legal (after here e vertices) steps rest more behind makes.6 later))

-- records that follow legally have jobs
pub follows_makes : (here : Situation) (steps : List Step) (written : List Record) (behind : Situation) → FollowsAs CutsLegally here steps written behind
    → (jobs : List Job) × MakesJobs here steps written jobs × AreLegal jobs
follows_makes here [] written behind follows = ([], (follows.0, refl), tt)
follows_makes here (step ∷ steps) written behind follows =
    let e = follows.0 in
    let vertices = follows.1 in
    let later = follows_makes (after here e vertices) steps follows.2 behind follows.5 in
    (jobs_by e vertices ++ later.0, (e, vertices, follows.2, later.0, follows.3, refl, later.1), jobs_legal (contours_by e vertices) later.0 follows.4 later.2)

-- ---- records that make jobs don't fail

pub makes_no_fails : (here : Situation) (steps : List Step) (written : List Record) (jobs : List Job) (seq k : ℕ) → MakesJobs here steps written jobs
    → FailsAt here seq steps written k → ⊥
makes_no_fails here [] written jobs seq k makes fails = subst (λ (rs : List Record). FailsAt here seq [] rs k) makes.0 fails
makes_no_fails here (step ∷ steps) written jobs seq k makes (inl f) = begins_no_departs here step written makes.0 makes.1 makes.2 f.0 makes.4 f.1
makes_no_fails here (step ∷ steps) written jobs seq k makes (inr f) =
    let e = makes.0 in
    let vertices = makes.1 in
    let rest = makes.2 in
    let same = begins_once here step written e f.0 vertices f.1 rest f.2 makes.4 f.3 in
    let n = seq + length (records_of step f.0 f.1) in
    let later = subst (λ (x : Effect). FailsAt (after here x vertices) n steps rest k) (sym same.effect)
    (subst (λ (ps : List (List Pt)). FailsAt (after here f.0 ps) n steps rest k) (sym same.cuts)
    (subst (λ (rs : List Record). FailsAt (after here f.0 f.1) n steps rs k) (sym same.rest) f.4)) in
    makes_no_fails (after here e vertices) steps rest makes.3 n k makes.6 later

-- ---- records fail at one place

pub fails_once : (here : Situation) (steps : List Step) (written : List Record) (seq j k : ℕ) → FailsAt here seq steps written j → FailsAt here seq steps written k → j ≡ k
fails_once here [] [] seq j k f g = absurd f
fails_once here [] (r ∷ rs) seq j k f g = f ∙ sym g
fails_once here (step ∷ steps) written seq j k (inl f) (inl g) =
    f.2 ∙ ap (λ (n : ℕ). seq + n) (departs_once (expected here step) written f.0 g.0 f.1 g.1) ∙ sym g.2
fails_once here (step ∷ steps) written seq j k (inl f) (inr g) = absurd (begins_no_departs here step written g.0 g.1 g.2 f.0 g.3 f.1)
fails_once here (step ∷ steps) written seq j k (inr f) (inl g) = absurd (begins_no_departs here step written f.0 f.1 f.2 g.0 f.3 g.1)
fails_once here (step ∷ steps) written seq j k (inr f) (inr g) =
    let same = begins_once here step written f.0 g.0 f.1 g.1 f.2 g.2 f.3 g.3 in
    let n = seq + length (records_of step g.0 g.1) in
    let first = subst (λ (x : Effect). FailsAt (after here x g.1) (seq + length (records_of step x g.1)) steps g.2 j) same.effect
    (subst (λ (ps : List (List Pt)). FailsAt (after here f.0 ps) (seq + length (records_of step f.0 ps)) steps g.2 j) same.cuts
    (subst (λ (rs : List Record). FailsAt (after here f.0 f.1) (seq + length (records_of step f.0 f.1)) steps rs j) same.rest f.4)) in
    fails_once (after here g.0 g.1) steps g.2 n j k first g.4

-- ---- what `jobs` answers

pub jobs_follow : {A : Type 0} (steps : List Step) (written : List Record) (result : Result (Vec Job A) JobError)
    → IfOk result (λ js. MakesJobs first_situation steps written js.items) → IfOk result (λ js. Follows steps written)
jobs_follow steps written (Ok js) makes =
    let f = makes_follows first_situation steps written js.items makes in
    follows HasAny steps written f.0 f.1
jobs_follow steps written (Err e) makes = tt

-- the jobs of records that follow steps are those of their contours
jobs_joined : (cs more : List Contour) (jobs : List Job) → jobs ≡ map job_said more → map job_said cs ++ jobs ≡ map job_said (cs ++ more)
jobs_joined [] more jobs same = same
jobs_joined (c ∷ cs) more jobs same = ap (λ (js : List Job). job_said c ∷ js) (jobs_joined cs more jobs same)

said_of : (s : Told) (here : Situation) (steps : List Step) (written : List Record) (jobs : List Job) → IsAsSaid s here → MakesJobs here steps written jobs
    → jobs ≡ map job_said (contours_behind s written)
said_of s here [] written jobs t makes = rw (makes.0, makes.1) refl
said_of s here (step ∷ steps) written jobs t makes =
    let e = makes.0 in
    let due = records_of step e makes.1 in
    let on = says_on s here step e makes.1 t makes.4.asked makes.4.may in
    rw (makes.4.front, on.contours makes.2)
    (makes.5 ∙ jobs_joined (contours_by e makes.1) (contours_behind (said_behind s due) makes.2) makes.3
    (said_of (said_behind s due) (after here e makes.1) steps makes.2 makes.3 on.tells makes.6))

follows_jobs : (here : Situation) (steps : List Step) (written : List Record) (behind : Situation) → FollowsAs HasAny here steps written behind → (jobs : List Job) × MakesJobs here steps written jobs
follows_jobs here [] written behind f = ([], (f.0, refl))
follows_jobs here (step ∷ steps) written behind f =
    let later = follows_jobs (after here f.0 f.1) steps f.2 behind f.5 in
    (jobs_by f.0 f.1 ++ later.0, (f.0, f.1, f.2, later.0, f.3, refl, later.1))

-- records that follow steps make the jobs that they say
pub makes_said : (steps : List Step) (written : List Record) → Follows steps written → MakesJobs first_situation steps written (jobs_said written)
makes_said steps written f =
    let some = follows_jobs first_situation steps written f.behind f.follow in
    subst (λ (js : List Job). MakesJobs first_situation steps written js) (said_of nothing_said first_situation steps written some.0 nothing_tells some.1) some.1

pub jobs_are_said : {A : Type 0} (steps : List Step) (written : List Record) (result : Result (Vec Job A) JobError)
    → IfOk result (λ js. MakesJobs first_situation steps written js.items) → IfOk result (λ js. js.items ≡ jobs_said written)
jobs_are_said steps written (Ok js) makes = said_of nothing_said first_situation steps written js.items nothing_tells makes
jobs_are_said steps written (Err e) makes = tt

pub entry_told : {A : Type 0} (steps : List Step) (written : List Record) (result : Result (Vec Job A) JobError)
    → IfOk result (λ js. MakesJobs first_situation steps written js.items) → IfErr result (IsEntry steps written)
    → (seq : ℕ) → FailsAt first_situation 1 steps written seq → IsEntryAt seq result
entry_told steps written (Ok js) makes is seq fails = absurd (makes_no_fails first_situation steps written js.items 1 seq makes fails)
entry_told steps written (Err (errors.Entry k)) makes is seq fails = fails_once first_situation steps written 1 k seq is fails
entry_told steps written (Err errors.NoMemory) makes is seq fails = tt

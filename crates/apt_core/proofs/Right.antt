-- Where a CL file and a tape are right, nothing is missed.
use Rattle.std.proofs.Common.{◌≡◌, inl, inr, ℕ, ◌≤◌, ◌<◌, List, [], ◌∷◌, length, Option, Some, None, Ok, sym, ◌∙◌, refl, subst, arith}
use Rattle.std.proofs.lemmas.List.{append_cancel_left}
use Rattle.std.specs.Prelude.{IsSomeAnd}
use Rattle.std.specs.FinMap.{get}
use Rattle.apt_shelf.specs.Told.{Contents}
use Rattle.apt_certify.proofs.Legality.{bad_not_legal}
use Rattle.apt_meaning.specs.Situations.{first_situation}
use Rattle.apt_meaning.proofs.Walks.Alone.{contours_legal}
use Rattle.apt_job.specs.Jobs.{jobs_said}
use Rattle.apt_job.proofs.Walks.{follows_legal, follows_makes, makes_no_fails, makes_said}
use Rattle.apt_machine.specs.declared.machine.Machine.{Machine}
use Rattle.apt_machine.specs.Tables.{table_of}
use Rattle.apt_circular.specs.declared.ArcAct.{ArcAct}
use Rattle.apt_tape.specs.Tapes.{acts_on}
use Rattle.apt_tape.specs.Differences.{HeadsDiffer, DifferAt}
use Rattle.apt_part.proofs.Promised.{passes_comes}
use Rattle.apt_report.specs.declared.status.Status.{Status}
use Rattle.apt_report.specs.declared.status.Miss.{Miss}
use Rattle.apt_report.specs.declared.status.Miss.TheVariants as misses
use Rattle.apt_core.specs.Words.{FourNames}
use Rattle.apt_core.specs.Inputs.{Input, Reads, ReadsAll, IsUnread, IsFirstUnread, inputs}
use Rattle.apt_core.specs.Certificates.{IsRight, IsMiss, Judged, judged_by, judged_due, IsDone, IsJudgement}
use Rattle.apt_core.specs.Promise.{Judges}
use Rattle.apt_core.proofs.Chains.{one_due}
use Rattle.apt_core.proofs.Judging.{judged_for}

-- ---- files that are there are read

long_reads : (o : Option (List ℕ)) (text : List ℕ) (limit : ℕ) → o ≡ Some text → length text ≤ limit → IsSomeAnd o (λ bytes. limit < length bytes) → ⊥
long_reads None text limit e short long = long
long_reads (Some bytes) text limit e short long = let same : bytes ≡ text = cc in let far : limit < length text = subst (λ (t : List ℕ). limit < length t) same long in omega (arith, far, short)

reads_no_unread : (m : Contents) (x : Input) (text : List ℕ) (before now : ℕ) (answer : Status) → Reads (Some m) x text → IsUnread (Some m) x before now answer → ⊥
reads_no_unread m x text before now answer reads (inl missing) = let f : ⊥ = (let same : Some text ≡ None = sym reads.0 ∙ missing.1 in cc) in f
reads_no_unread m x text before now answer reads (inr long) = long_reads (get m x.name) text x.limit reads.0 reads.1 long.1

pub right_is_read : (xs : List Input) (m : Contents) (texts : List (List ℕ)) (before now : ℕ) (answer : Status) → ReadsAll (Some m) xs texts → IsFirstUnread (Some m) xs before now answer → ⊥
right_is_read [] m texts before now answer reads first = first
right_is_read (x ∷ xs) m [] before now answer reads first = reads
right_is_read (x ∷ xs) m (text ∷ texts) before now answer reads (inl unread) = reads_no_unread m x text before now answer reads.0 unread
right_is_read (x ∷ xs) m (text ∷ texts) before now answer reads (inr later) = right_is_read xs m texts before now answer reads.1 later.2

one_text : (o : Option (List ℕ)) (a b : List ℕ) → o ≡ Some a → o ≡ Some b → a ≡ b
one_text o a b e f = let same : Some a ≡ Some b = sym e ∙ f in cc

-- each file has one text
pub same_texts : (m : Contents) (xs : List Input) (cs bs : List (List ℕ)) → ReadsAll (Some m) xs cs → ReadsAll (Some m) xs bs → cs ≡ bs
same_texts m [] [] [] r s = refl
same_texts m [] [] (b ∷ bs) r s = absurd s
same_texts m [] (a ∷ cs) bs r s = absurd r
same_texts m (x ∷ xs) [] bs r s = absurd r
same_texts m (x ∷ xs) (a ∷ cs) [] r s = absurd s
same_texts m (x ∷ xs) (a ∷ cs) (b ∷ bs) r s =
    let one = one_text (get m x.name) a b r.0.0 s.0.0 in
    let more = same_texts m xs cs bs r.1 s.1 in rw (one, more) refl

-- ---- the answer

not_differ : (xs : List ArcAct) → HeadsDiffer xs xs → ⊥
not_differ [] d = d
not_differ (x ∷ xs) d = d refl

no_difference : (xs ys : List ArcAct) (at : ℕ) → xs ≡ ys → DifferAt xs ys at → ⊥
no_difference xs ys at e d =
    let same : d.left ≡ d.right = append_cancel_left d.same d.left d.right (sym d.first ∙ e ∙ d.second) in
    not_differ d.right (subst (λ (l : List ArcAct). HeadsDiffer l d.right) same d.differ)

pub no_miss : (machine : Machine) (text cl tape : List ℕ) (right : IsRight machine text cl tape) (acts : List ArcAct) (miss : Miss) → acts ≡ acts_on machine right.records
    → IsMiss machine right.steps right.records acts miss → ⊥
no_miss machine text cl tape right acts (misses.Entry seq) same is =
    let jobs = follows_makes first_situation right.steps right.records right.follow.behind (contours_legal right.steps right.records right.follow right.legal) in
    makes_no_fails first_situation right.steps right.records jobs.0 1 seq jobs.1 is
no_miss machine text cl tape right acts (misses.Motion bad) same is =
    let makes = makes_said right.steps right.records is.0 in
    let legal = contours_legal right.steps right.records right.follow right.legal in
    bad_not_legal (jobs_said right.records) bad is.1 (follows_legal first_situation right.steps right.records (jobs_said right.records) right.follow.behind makes legal)
no_miss machine text cl tape right acts (misses.Act at) same is = no_difference acts (acts_on machine right.records) at same is.2

right_judged : (machine : Machine) (text table cl tape : List ℕ) (right : IsRight machine text cl tape) → table_of table ≡ Ok machine
    → judged_due text table cl tape ≡ Ok (judged_by machine right.steps right.records (acts_on machine right.records))
right_judged machine text table cl tape right tabled = judged_for machine text table cl tape right.steps right.records (acts_on machine right.records) (record {
  tabled = tabled;
  comes = passes_comes machine text right.steps right.passes;
  read = right.read;
  run = right.acts;
})

-- the answer
judgement_right : (machine : Machine) (text table cl tape : List ℕ) (told : Status) → table_of table ≡ Ok machine → IsRight machine text cl tape → IsJudgement text table cl tape told
    → IsDone machine text cl tape told
judgement_right machine text table cl tape told tabled right (inl none) = absurd (let f = sym none ∙ right_judged machine text table cl tape right tabled in let g : ⊥ = cc in g)
judgement_right machine text table cl tape told tabled right (inr found) = elim found.2 [
  | inl missed ↦ absurd (no_miss machine text cl tape right (acts_on machine right.records) missed.0 refl (subst (λ (k : Judged). IsMiss k.machine k.steps k.written k.acts missed.0) same missed.2))
  | inr done ↦ subst (λ (k : Judged). IsDone k.machine text cl tape told) same done
]
  where
    same : found.0 ≡ judged_by machine right.steps right.records (acts_on machine right.records)
    same = one_due (judged_due text table cl tape) found.0 (judged_by machine right.steps right.records (acts_on machine right.records)) found.1 (right_judged machine text table cl tape right tabled)

pub right_is_done : (machine : Machine) (n : FourNames) (m : Contents) (text table cl tape : List ℕ) (told : Status) → ReadsAll (Some m) (inputs n) (text ∷ table ∷ cl ∷ tape ∷ [])
    → table_of table ≡ Ok machine → IsRight machine text cl tape → Judges n (Some m) told → IsDone machine text cl tape told
right_is_done machine n m text table cl tape told reads tabled right is =
    by_texts (same_texts m (inputs n) (is.text ∷ is.table ∷ is.cl ∷ is.tape ∷ []) (text ∷ table ∷ cl ∷ tape ∷ []) is.reads reads)
  where
    by_texts : (is.text ∷ is.table ∷ is.cl ∷ is.tape ∷ []) ≡ (text ∷ table ∷ cl ∷ tape ∷ []) → IsDone machine text cl tape told
    by_texts same =
        let t : is.text ≡ text = cc in
        let b : is.table ≡ table = cc in
        let c : is.cl ≡ cl = cc in
        let p : is.tape ≡ tape = cc in
        judgement_right machine text table cl tape told tabled right (rw (← t, ← b, ← c, ← p) is.judgement)

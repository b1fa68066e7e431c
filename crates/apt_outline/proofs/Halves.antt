-- The two parts of a list of motions, and what is found of them together.
use Rattle.std.proofs.Common.{refl, ◌≡◌, ap, subst, ℕ, zero, suc, ◌+◌, ◌^◌, ◌<◌, List, [], ◌∷◌, ◌++◌, length, take, drop, length-append, Option, Some, None, IfSome, arith}
use Rattle.apt_certify.specs.declared.leg.Job.{Job}
use Rattle.apt_certify.specs.Jobs.{AreJobs, point_count}
use Rattle.apt_certify.proofs.Halves as halves
use Rattle.apt_outline.specs.declared.parts.Part.{Part}
use Rattle.apt_outline.specs.declared.parts.Reach.{Reach}
use Rattle.apt_outline.specs.declared.parts.Gouge.{Gouge}
use Rattle.apt_outline.specs.Guards.{Pass, pass, passes, AreReaches, IsClearPass, IsGougeOfPath, IsFirstGouge, IsFound, first_of, behind_motions}
use Rattle.apt_outline.proofs.Firsts.{all-append, first_after, first_before}

pub jobs_front : (jobs : List Job) (m : ℕ) → AreJobs jobs → AreJobs (take m jobs)
jobs_front jobs m are = halves.jobs_front jobs m are

pub jobs_back : (jobs : List Job) (m : ℕ) → AreJobs jobs → AreJobs (drop m jobs)
jobs_back jobs m are = halves.jobs_back jobs m are

pub points_parts : (jobs : List Job) (m : ℕ) → point_count (take m jobs) + point_count (drop m jobs) ≡ point_count jobs
points_parts jobs m = halves.points_parts jobs m

pub reaches_front : (reaches : List Reach) (m : ℕ) → AreReaches reaches → AreReaches (take m reaches)
reaches_front [] zero are = tt
reaches_front [] (suc m) are = tt
reaches_front (x ∷ xs) zero are = tt
reaches_front (x ∷ xs) (suc m) are = (are.0, reaches_front xs m are.1)

pub reaches_back : (reaches : List Reach) (m : ℕ) → AreReaches reaches → AreReaches (drop m reaches)
reaches_back [] zero are = tt
reaches_back [] (suc m) are = tt
reaches_back (x ∷ xs) zero are = are
reaches_back (x ∷ xs) (suc m) are = reaches_back xs m are.1

-- as many passes as motions
pub passes_count : (jobs : List Job) (reaches : List Reach) → length reaches ≡ length jobs → length (passes jobs reaches) ≡ length jobs
passes_count [] reaches e = refl
passes_count (job ∷ jobs) [] e = absurd (omega (arith, e))
passes_count (job ∷ jobs) (reach ∷ reaches) e = ap suc (passes_count jobs reaches (omega (arith, e)))

passes-append : (jobs more : List Job) (reaches others : List Reach) → length reaches ≡ length jobs → passes (jobs ++ more) (reaches ++ others) ≡ passes jobs reaches ++ passes more others
passes-append [] more [] others e = refl
passes-append [] more (reach ∷ reaches) others e = absurd (omega (arith, e))
passes-append (job ∷ jobs) more [] others e = absurd (omega (arith, e))
passes-append (job ∷ jobs) more (reach ∷ reaches) others e = ap (λ (list : List Pass). pass job reach ∷ list) (passes-append jobs more reaches others (omega (arith, e)))

found-append : (xs ys : List Pass) (parts : List Part) (a b : Option Gouge) → IsFound xs parts a → IsFound ys parts b → IsFound (xs ++ ys) parts (first_of a (length xs) b)
found-append xs ys parts (Some g) b first second = record {
  its_pass = first.its_pass;
  motion = first_before (IsClearPass parts) xs ys g.motion first.its_pass first.motion;
  gouge = first.gouge;
}
found-append xs ys parts None (Some g) first second = record {
  its_pass = second.its_pass;
  motion = first_after (IsClearPass parts) xs ys g.motion second.its_pass first second.motion;
  gouge = again second;
}
  where
    again : (is : IsFirstGouge ys parts g) → IsGougeOfPath is.its_pass.rho parts is.its_pass.points (behind_motions (length xs) g)
    again is = record { its_segment = is.gouge.its_segment; segment = is.gouge.segment; gouge = record { its_part = is.gouge.gouge.its_part; part = is.gouge.gouge.part; spot = is.gouge.gouge.spot } }
found-append xs ys parts None None first second = all-append (IsClearPass parts) xs ys first second

pub found_of_parts : (jobs left right : List Job) (reaches near far : List Reach) (parts : List Part) (a b : Option Gouge) → jobs ≡ left ++ right → reaches ≡ near ++ far → length near ≡ length left
    → IsFound (passes left near) parts a → IsFound (passes right far) parts b → IsFound (passes jobs reaches) parts (first_of a (length left) b)
found_of_parts jobs left right reaches near far parts a b e f g first second =
    rw (e, f, passes-append left right near far g)
    (subst (λ n. IsFound (passes left near ++ passes right far) parts (first_of a n b)) (passes_count left near g) (found-append (passes left near) (passes right far) parts a b first second))

-- a motion that is not clear is one of its list, and stays in range behind others
pub gouge_fits : (jobs : List Job) (reaches : List Reach) (parts : List Part) (found : Option Gouge) (n : ℕ) → IsFound (passes jobs reaches) parts found → length reaches ≡ length jobs → n + length jobs < 2 ^ 64
    → IfSome found (λ g. n + g.motion < 2 ^ 64)
gouge_fits jobs reaches parts None n first e h = tt
gouge_fits jobs reaches parts (Some g) n first e h =
    let is = first.motion in
    omega (arith, h, is.number, ap (λ (list : List Pass). length list) is.split, length-append is.before (first.its_pass ∷ is.behind), passes_count jobs reaches e)

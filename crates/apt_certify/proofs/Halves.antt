-- The two parts of a list of jobs, and what their verdicts are together.
use Rattle.std.proofs.Common.{◌≡◌, ◌↔◌, ap, ℕ, zero, suc, ◌+◌, ◌^◌, ◌≤◌, ◌<◌, List, [], ◌∷◌, ◌++◌, length, take, drop, length-append, Option, Some, None, IfSome, arith}
use Rattle.std.specs.Option.{IsNone}
use Rattle.apt_certify.specs.declared.leg.Job.{Job}
use Rattle.apt_certify.specs.declared.verdict.Bad.{Bad}
use Rattle.apt_certify.specs.declared.verdict.Verdict.{Verdict}
use Rattle.apt_certify.specs.Jobs.{AreJobs, AreLegal, point_count, segment_count}
use Rattle.apt_certify.specs.Verdicts.{IsFirstBadOrNone, IsVerdict, merged}
use Rattle.apt_certify.proofs.Legality as legality
use Rattle.apt_certify.proofs.Merging.{verdict-append}

pub jobs_front : (jobs : List Job) (m : ℕ) → AreJobs jobs → AreJobs (take m jobs)
jobs_front [] zero are = tt
jobs_front [] (suc m) are = tt
jobs_front (x ∷ xs) zero are = tt
jobs_front (x ∷ xs) (suc m) are = (are.0, jobs_front xs m are.1)

pub jobs_back : (jobs : List Job) (m : ℕ) → AreJobs jobs → AreJobs (drop m jobs)
jobs_back [] zero are = tt
jobs_back [] (suc m) are = tt
jobs_back (x ∷ xs) zero are = are
jobs_back (x ∷ xs) (suc m) are = jobs_back xs m are.1

pub points_parts : (jobs : List Job) (m : ℕ) → point_count (take m jobs) + point_count (drop m jobs) ≡ point_count jobs
points_parts [] zero = omega arith
points_parts [] (suc m) = omega arith
points_parts (x ∷ xs) zero = omega arith
points_parts (x ∷ xs) (suc m) = omega (arith, points_parts xs m)

-- a path has fewer segments than points
pub segments_few : (jobs : List Job) → segment_count jobs ≤ point_count jobs
segments_few [] = omega arith
segments_few (x ∷ xs) = omega (arith, segments_few xs)

-- a bad motion is one of its list, and stays in range behind others
pub bad_fits : (jobs : List Job) (bad : Option Bad) (n : ℕ) → IsFirstBadOrNone jobs bad → n + length jobs < 2 ^ 64 → IfSome bad (λ b. n + b.motion < 2 ^ 64)
bad_fits jobs None n first h = tt
bad_fits jobs (Some bad) n first h =
    omega (arith, h, first.motion, ap (λ (js : List Job). length js) first.split, length-append first.before (first.job ∷ first.behind))

pub verdict_of_parts : (jobs xs ys : List Job) (v w : Verdict) → jobs ≡ xs ++ ys → IsVerdict xs v → IsVerdict ys w → IsVerdict jobs (merged v (length xs) w)
verdict_of_parts jobs xs ys v w e front back = rw e (verdict-append xs ys v w front back)

pub none_where_legal : (jobs : List Job) (v : Verdict) → IsVerdict jobs v → IsNone v.first_bad ↔ AreLegal jobs
none_where_legal jobs v is = legality.none_where_legal jobs v.first_bad is.first_bad

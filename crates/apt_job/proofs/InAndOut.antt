-- IN and OUT are the least tolerances within which all contours lie.
use Rattle.std.proofs.Common.{◌≡◌, ◌↔◌, ℕ, ◌+◌, ◌<◌, arith, ℤ, pos, neg_ℤ, ◌+ℤ◌, ◌-ℤ◌, List, [], ◌∷◌, map, Result, Ok, Err, Vec}
use Rattle.std.specs.Prelude.{IfOk}
use Rattle.std.proofs.lemmas.Int.{ints}
use Rattle.apt_num.specs.declared.Sign.{Sign}
use Rattle.apt_num.specs.declared.Sign.TheVariants as signs
use Rattle.apt_plane.specs.declared.figures.Pt.{Pt}
use Rattle.apt_plane.specs.declared.figures.Circ.{Circ}
use Rattle.apt_plane.specs.declared.figures.Surface.{Surface}
use Rattle.apt_plane.specs.declared.figures.Surface.TheVariants as surfaces
use Rattle.apt_plane.specs.Vectors.{Scaled, between}
use Rattle.apt_plane.specs.Distances.{IsOver, IsUnder, InBand}
use Rattle.apt_offset.specs.Targets.{offset_surface, band}
use Rattle.apt_certify.specs.declared.leg.Job.{Job}
use Rattle.apt_certify.specs.declared.verdict.Verdict.{Verdict}
use Rattle.apt_certify.specs.Legal.{EveryPointFrom}
use Rattle.apt_certify.specs.Deviations.{IsAtMostPast, AreWithin, inwards, outwards}
use Rattle.apt_certify.specs.Verdicts.{IsVerdict}
use Rattle.apt_records.specs.declared.record.Record.{Record}
use Rattle.apt_meaning.specs.Motions.{drive_side}
use Rattle.apt_meaning.specs.Paths.{Contour, EveryContour, contours_of}
use Rattle.apt_job.specs.declared.error.JobError.{JobError}
use Rattle.apt_job.specs.Jobs.{out_sign_at, job_said, jobs_said}
use Rattle.apt_job.specs.InAndOut.{span, IsWithin, TellsInAndOut}

-- ---- a point: in the band where it is not too far past the track on both sides

IsBetween : Surface → Sign → ℤ → ℤ → ℤ → Scaled → Type 0
IsBetween s v r i o p = IsAtMostPast (offset_surface s v r) (neg_ℤ (out_sign_at s v)) i p × IsAtMostPast (offset_surface s v r) (out_sign_at s v) o p

ring_between : (c : Circ) (a b i o : ℤ) (p : Scaled) → a ≡ b
    → InBand (surfaces.Circ c) (band (a -ℤ i) (a +ℤ o)) p ↔ (IsOver (surfaces.Circ c) (b -ℤ i) p × IsUnder (surfaces.Circ c) (b +ℤ o) p)
ring_between c a b i o p e = rw e (λ is. (is.lo, is.hi), λ both. record { lo = both.0; hi = both.1 })

span_between : (s : Surface) (v : Sign) (r i o : ℤ) (p : Scaled) → InBand s (span s v r i o) p ↔ IsBetween s v r i o p
unfolding IsBetween
span_between (surfaces.Line l) signs.Plus r i o p = (λ is. (is.lo, is.hi), λ both. record { lo = both.0; hi = both.1 })
span_between (surfaces.Line l) signs.Zero r i o p = (λ is. (is.lo, is.hi), λ both. record { lo = both.0; hi = both.1 })
span_between (surfaces.Line l) signs.Minus r i o p = (λ is. (is.hi, is.lo), λ both. record { lo = both.1; hi = both.0 })
span_between (surfaces.Circ c) signs.Plus r i o p = (λ is. (is.hi, is.lo), λ both. record { lo = both.1; hi = both.0 })
span_between (surfaces.Circ c) signs.Zero r i o p = ring_between c (c.r +ℤ pos 0) (c.r -ℤ pos 0) i o p (omega (arith, ints))
span_between (surfaces.Circ c) signs.Minus r i o p = ring_between c (c.r +ℤ r) (c.r -ℤ neg_ℤ r) i o p (omega (arith, ints))

-- ---- a path

every_between : (a : Pt) (ps : List Pt) (P Q R : Scaled → Type 0) → ((p : Scaled) → R p ↔ (P p × Q p)) → EveryPointFrom a ps R ↔ (EveryPointFrom a ps P × EveryPointFrom a ps Q)
every_between a [] P Q R tells = (λ t. (tt, tt), λ t. tt)
every_between a (b ∷ ps) P Q R tells =
    let later = every_between b ps P Q R tells in (
      λ every. let rest = later.0 every.1 in (
        (λ (j k : ℕ) (some : 0 < j + k). ((tells (between a b j k)).0 (every.0 j k some)).0, rest.0),
        (λ (j k : ℕ) (some : 0 < j + k). ((tells (between a b j k)).0 (every.0 j k some)).1, rest.1),
      ),
      λ both. (λ (j k : ℕ) (some : 0 < j + k). (tells (between a b j k)).1 (both.0.0 j k some, both.1.0 j k some), later.1 (both.0.1, both.1.1)),
    )

leg_between : (i o : ℤ) (c : Contour) →
    let job = job_said c in
    IsWithin i o c ↔ (EveryPointFrom c.motion.start.xy c.vertices (IsAtMostPast job.leg.track (inwards job) i) × EveryPointFrom c.motion.start.xy c.vertices (IsAtMostPast job.leg.track (outwards job) o))
unfolding IsBetween
leg_between i o c =
    let job = job_said c in
    let m = c.motion in
    every_between m.start.xy c.vertices (IsAtMostPast job.leg.track (inwards job) i) (IsAtMostPast job.leg.track (outwards job) o) (InBand m.drive (span m.drive (drive_side m) m.radius i o))
    (λ p. span_between m.drive (drive_side m) m.radius i o p)

-- ---- all contours

legs_between : (i o : ℤ) (cs : List Contour) → EveryContour (IsWithin i o) cs ↔ (AreWithin inwards i (map job_said cs) × AreWithin outwards o (map job_said cs))
legs_between i o [] = (λ t. (tt, tt), λ t. tt)
legs_between i o (c ∷ cs) =
    let here = leg_between i o c in
    let later = legs_between i o cs in (
      λ every. let leg = here.0 every.0 in let rest = later.0 every.1 in ((leg.0, rest.0), (leg.1, rest.1)),
      λ both. (here.1 (both.0.0, both.1.0), later.1 (both.0.1, both.1.1)),
    )

said_tells : (cs : List Contour) (v : Verdict) → IsVerdict (map job_said cs) v → TellsInAndOut cs v
said_tells cs v is i o least_in least_out =
    let both = legs_between i o cs in
    let on_in = is.worst_in.bounds i least_in in
    let on_out = is.worst_out.bounds o least_out in (
      λ every. let within = both.0 every in (on_in.0 within.0, on_out.0 within.1),
      λ le. both.1 (on_in.1 le.0, on_out.1 le.1),
    )

pub jobs_tell : {A : Type 0} (written : List Record) (result : Result (Vec Job A) JobError) → IfOk result (λ js. js.items ≡ jobs_said written)
    → IfOk result (λ js. (v : Verdict) → IsVerdict js.items v → TellsInAndOut (contours_of written) v)
jobs_tell written (Ok js) same = λ v. rw same (said_tells (contours_of written) v)
jobs_tell written (Err e) same = tt

-- The segments of jobs are those of the contours of their records.
use Rattle.std.proofs.Common.{◌≡◌, ◌+◌, ℤ, List, [], ◌∷◌, ◌++◌, map, ap, sym, ◌∙◌, refl, arith}
use Rattle.std.proofs.lemmas.List.{length-map}
use Rattle.apt_plane.specs.declared.figures.Pt.{Pt}
use Rattle.apt_words.specs.declared.deed.Step.{Step}
use Rattle.apt_records.specs.declared.record.Record.{Record}
use Rattle.apt_certify.specs.declared.leg.Job.{Job}
use Rattle.apt_certify.specs.Jobs.{segment_count}
use Rattle.apt_meaning.specs.declared.situation.Situation.{Situation}
use Rattle.apt_meaning.specs.declared.effect.Change.TheVariants as changes
use Rattle.apt_meaning.specs.declared.effect.Effect.{Effect}
use Rattle.apt_meaning.specs.declared.effect.Effect.TheVariants as effects
use Rattle.apt_records.specs.Vertices.{at_height}
use Rattle.apt_meaning.specs.Paths.{Due, first_leg, next_leg}
use Rattle.apt_meaning.specs.Records.{MayHave, cut_record, records_of, after, legs_from}
use Rattle.apt_meaning.specs.Vertices.{cut_points}
use Rattle.apt_job.specs.Jobs.{job_said, jobs_by, MakesJobs}
use Rattle.apt_post.specs.Plan.{segments}

segments-append : (xs ys : List Record) → segments (xs ++ ys) ≡ segments xs + segments ys
segments-append [] ys = omega arith
segments-append (r ∷ rs) ys = omega (arith, segments-append rs ys)

leg_segments : (z : ℤ) (cuts : List (List Pt)) → segments (map (cut_record z) cuts) ≡ cut_points cuts
leg_segments z [] = refl
leg_segments z (vertices ∷ cuts) = omega (arith, length-map vertices (at_height z), leg_segments z cuts)

effect_segments : (step : Step) (e : Effect) (cuts : List (List Pt)) → MayHave e cuts → segments (records_of step e cuts) ≡ cut_points cuts
effect_segments step (effects.Defines n f) cuts may = rw may refl
effect_segments step (effects.Sets (changes.Said note)) cuts may = rw may refl
effect_segments step (effects.Sets (changes.Side side)) cuts may = rw may refl
effect_segments step (effects.Sets changes.Nothing) cuts may = rw may refl
effect_segments step (effects.Moves reach to) cuts may = rw may refl
effect_segments step (effects.Cuts m legs) cuts may = omega (arith, leg_segments m.start.z cuts)

due_segments : (d : Due) (cuts : List (List Pt)) (more : List Job) → segment_count (map job_said (legs_from d cuts) ++ more) ≡ cut_points cuts + segment_count more
due_segments d [] more = omega arith
due_segments d (vertices ∷ cuts) more = omega (arith, due_segments (next_leg d vertices) cuts more)

job_segments : (e : Effect) (cuts : List (List Pt)) (more : List Job) → MayHave e cuts → segment_count (jobs_by e cuts ++ more) ≡ cut_points cuts + segment_count more
job_segments (effects.Defines n f) cuts more may = rw may (omega arith)
job_segments (effects.Sets change) cuts more may = rw may (omega arith)
job_segments (effects.Moves reach to) cuts more may = rw may (omega arith)
job_segments (effects.Cuts m legs) cuts more may = due_segments (first_leg m) cuts more

pub makes_segments : (here : Situation) (steps : List Step) (written : List Record) (jobs : List Job) → MakesJobs here steps written jobs → segment_count jobs ≡ segments written
makes_segments here [] written jobs makes = rw (makes.0, makes.1) refl
makes_segments here (step ∷ steps) written jobs makes =
    let e = makes.0 in
    let cuts = makes.1 in
    let rest = makes.2 in
    let more = makes.3 in
    let begins = makes.4 in
    let ours = job_segments e cuts more begins.may in
    let written_here = effect_segments step e cuts begins.may in
    let later = makes_segments (after here e cuts) steps rest more makes.6 in
    let both : segment_count (jobs_by e cuts ++ more) ≡ segments (records_of step e cuts ++ rest) = omega (arith, ours, written_here, later, segments-append (records_of step e cuts) rest) in
    ap segment_count makes.5 ∙ both ∙ sym (ap segments begins.front)

-- The jobs of records that follow steps: one for each contour.
use Rattle.std.specs.Prelude.{◌≡◌, ℤ, pos, negsuc, Bool, true, false, not, ◌||◌, List, [], ◌∷◌, ◌++◌, map, None, is_some}
use Rattle.apt_num.specs.declared.Sign.{Sign}
use Rattle.apt_num.specs.declared.Sign.TheVariants as signs
use Rattle.apt_words.specs.declared.deed.Step.{Step}
use Rattle.apt_plane.specs.declared.figures.Pt.{Pt}
use Rattle.apt_plane.specs.declared.figures.Surface.{Surface}
use Rattle.apt_plane.specs.declared.figures.Surface.TheVariants as surfaces
use Rattle.apt_offset.specs.Turns.{is_zero}
use Rattle.apt_stop.specs.declared.course.Course.{Course}
use Rattle.apt_stop.specs.Courses.{kept_side, axis_of}
use Rattle.apt_certify.specs.declared.leg.Job.{Job}
use Rattle.apt_records.specs.declared.record.Record.{Record}
use Rattle.apt_meaning.specs.declared.situation.Situation.{Situation}
use Rattle.apt_meaning.specs.declared.motion.Motion.{Motion}
use Rattle.apt_meaning.specs.declared.effect.Effect.{Effect}
use Rattle.apt_meaning.specs.declared.effect.Effect.TheVariants as effects
use Rattle.apt_meaning.specs.Motions.{drive_side, course_of, stop_side, leg_on, has_track, has_stop, is_defined}
use Rattle.apt_meaning.specs.Paths.{Contour, contours_of}
use Rattle.apt_meaning.specs.Records.{Begins, after, contours_by}
use Rattle.apt_job.specs.declared.legs.Sides.{Sides}

-- 1 where outside, by the place of the cutter at a surface, is further to a line's left or further from a circle's centre, else -1
abbrev pub out_sign_at : Surface → Sign → ℤ
out_sign_at (surfaces.Line l) signs.Plus = pos 1
out_sign_at (surfaces.Line l) signs.Zero = pos 1
out_sign_at (surfaces.Line l) signs.Minus = negsuc 0
out_sign_at (surfaces.Circ c) signs.Plus = negsuc 0
out_sign_at (surfaces.Circ c) signs.Zero = pos 1
out_sign_at (surfaces.Circ c) signs.Minus = pos 1

-- the job of a leg that records say: the leg with its side, on which side of its track outside lies, and its points from its start on
abbrev pub job_said : Contour → Job
job_said c = record { leg = leg_on c.motion c.side; out_sign = out_sign_at c.motion.drive (drive_side c.motion); points = c.motion.start.xy ∷ c.vertices }

-- the jobs that records say by themselves: one for each leg of their contours

abbrev pub jobs_said : List Record → List Job
jobs_said written = map job_said (contours_of written)

abbrev pub jobs_by : Effect → List (List Pt) → List Job
jobs_by e cuts = map job_said (contours_by e cuts)

-- records follow steps, and these are the jobs of their contours
abbrev pub MakesJobs : Situation → List Step → List Record → List Job → Type 0
MakesJobs here [] written jobs = (written ≡ []) × (jobs ≡ [])
MakesJobs here (step ∷ steps) written jobs =
    (e : Effect) × (cuts : List (List Pt)) × (rest : List Record) × (more : List Job)
    × Begins here step written e cuts rest × (jobs ≡ jobs_by e cuts ++ more) × MakesJobs (after here e cuts) steps rest more

-- ---- what bounds a motion

-- the sides of a motion without a stop
abbrev pub unbounded : Bool → Sides
unbounded track = record { has_track = track; has_stop = false; stop = signs.Zero; axis = None }

-- those of a motion with its track and its stop, by its course
abbrev pub bounded : Course → Sides
bounded c = record {
  has_track = true;
  has_stop = not (is_zero (kept_side c)) || is_some (axis_of c);
  stop = kept_side c;
  axis = axis_of c;
}

-- whether the track of a motion is there; where it is, whether its stop is, and where both are, the side of the stop on which it runs, and the axis on which it ends where it touches
pub record AreSides (m : Motion) (sides : Sides) : Type 0 where
  pub track : sides.has_track ≡ has_track m
  pub stop : has_track m ≡ true → sides.has_stop ≡ has_stop m
  pub bounds : is_defined m ≡ true → (sides.stop ≡ stop_side m) × (sides.axis ≡ axis_of (course_of m))

-- those of an effect that is a contour
abbrev pub HasSides : Sides → Effect → Type 0
HasSides sides (effects.Defines n f) = Unit {0}
HasSides sides (effects.Sets change) = Unit {0}
HasSides sides (effects.Moves reach to) = Unit {0}
HasSides sides (effects.Cuts m legs) = AreSides m sides

-- Jobs are in the range in which they are judged.
use Rattle.std.proofs.Common.{◌≡◌, ◌≤◌, ◌+◌, ◌-◌, ◌^◌, ◌==◌, ℕ, zero, suc, ℤ, pos, ◌-ℤ◌, ◌≤ℤ◌, unsigned_abs, arith, Bool, true, false, not, List, [], ◌∷◌, ◌++◌, length, map, Some, None, inl, inr, refl, sym, ap, ◌∙◌}
use Rattle.std.specs.Prelude.{◌&&◌, ◌||◌, if◌then◌else◌, slice_index_or}
use Rattle.std.proofs.lemmas.Bool.{true≢false}
use Rattle.std.proofs.lemmas.Int.{ints}
use Rattle.apt_num.specs.declared.Sign.{Sign}
use Rattle.apt_num.specs.declared.Sign.TheVariants as signs
use Rattle.apt_words.specs.declared.Stop.{Stop}
use Rattle.apt_words.specs.declared.Stop.TheVariants as stops
use Rattle.apt_plane.specs.declared.figures.Circ.{Circ}
use Rattle.apt_plane.specs.declared.figures.Pt.{Pt}
use Rattle.apt_plane.specs.declared.figures.Surface.{Surface}
use Rattle.apt_plane.specs.declared.figures.Surface.TheVariants as surfaces
use Rattle.apt_plane.specs.Ranges.{IsPoint, IsCircle, IsSurface, IsSense}
use Rattle.apt_plane.specs.Vectors.{displacement, length_squared}
use Rattle.apt_plane.proofs.Turned.{perp_dir}
use Rattle.apt_canon.specs.Circles.{are_concentric}
use Rattle.apt_canon.proofs.Ways.{way_is_dir}
use Rattle.apt_offset.specs.Ranges.{IsRadius}
use Rattle.apt_offset.specs.Targets.{signed, greater, offset_surface, lacks_room, band_at}
use Rattle.apt_stop.specs.Courses.{is_tanto}
use Rattle.apt_stop.specs.Tangencies.{axis, touching_half, tangent_axis}
use Rattle.apt_certify.specs.Legal.{last_of}
use Rattle.apt_certify.specs.declared.leg.Job.{Job}
use Rattle.apt_certify.specs.Jobs.{IsTrackOf, IsNarrow, IsAxisOrNone, ArePoints, IsLeg, IsJob, AreJobs, point_count}
use Rattle.apt_meaning.specs.declared.motion.Motion.{Motion}
use Rattle.apt_meaning.specs.declared.effect.Effect.{Effect}
use Rattle.apt_meaning.specs.declared.effect.Effect.TheVariants as effects
use Rattle.apt_meaning.specs.Motions.{drive_side, track_of, stop_of, starts_on_check, course_of, leg_on, onward, has_track, has_bound, has_stop}
use Rattle.apt_meaning.specs.Ranges.{IsAllowance, IsMotion, HasMotion}
use Rattle.apt_meaning.specs.Vertices.{AreCuts, HasIn}
use Rattle.apt_meaning.specs.Paths.{Due, first_leg, next_leg, cut_on}
use Rattle.apt_meaning.specs.Records.{legs_from}
use Rattle.apt_meaning.proofs.Walks.Begins.{both}
use Rattle.apt_job.specs.Jobs.{AreSides, unbounded, bounded, out_sign_at, job_said, jobs_by}

offset_small : (side : Sign) (r : ℤ) → IsRadius r → unsigned_abs (signed side r) ≤ 10 ^ 8
offset_small signs.Plus r is = omega (arith, ints, is.least, is.most)
offset_small signs.Zero r is = omega (arith, ints)
offset_small signs.Minus r is = omega (arith, ints, is.least, is.most)

-- ---- what bounds a motion

-- a track that is not there
pub no_track : (m : Motion) → lacks_room (track_of m) ≡ true → AreSides m (unbounded false)
no_track m lacks = record {
  track = rw lacks refl;
  stop = λ there. absurd (missing there);
  bounds = λ is. absurd (missing (both (has_track m) (has_stop m) is).0);
}
  where
    missing : has_track m ≡ true → ⊥
    missing there = true≢false (sym there ∙ ap not lacks)

no_stop_by : (on lacks bound : Bool) → (on || lacks) ≡ true → (not on && not lacks && bound) ≡ false
no_stop_by true lacks bound e = refl
no_stop_by false true bound e = refl
no_stop_by false false bound e = absurd (true≢false (sym e))

-- a stop that is not there
pub no_stop : (m : Motion) → lacks_room (track_of m) ≡ false → (starts_on_check m || lacks_room (stop_of m)) ≡ true → AreSides m (unbounded true)
no_stop m room e =
    let none : has_stop m ≡ false = no_stop_by (starts_on_check m) (lacks_room (stop_of m)) (has_bound m) e in record {
      track = rw room refl;
      stop = λ there. sym none;
      bounds = λ is. absurd (true≢false (sym (both (has_track m) (has_stop m) is).1 ∙ none));
    }

-- both are there
pub stop_there : (m : Motion) → lacks_room (track_of m) ≡ false → starts_on_check m ≡ false → lacks_room (stop_of m) ≡ false → AreSides m (bounded (course_of m))
stop_there m room on stop = record {
  track = rw room refl;
  stop = λ there. rw (on, stop) refl;
  bounds = λ is. (refl, refl);
}

-- ---- legs

round_small : (k : ℤ) (side : Sign) (r : ℤ) → pos 0 ≤ℤ k → k ≤ℤ pos 49000000 → IsRadius r → unsigned_abs (k -ℤ signed side r) ≤ 10 ^ 8
round_small k signs.Plus r least most is = omega (arith, ints, least, most, is.least, is.most)
round_small k signs.Zero r least most is = omega (arith, ints, least, most)
round_small k signs.Minus r least most is = omega (arith, ints, least, most, is.least, is.most)

track_is : (s : Surface) (side : Sign) (r : ℤ) → IsSurface s → IsRadius r → IsTrackOf s (offset_surface s side r)
track_is (surfaces.Line l) side r line is = (refl, refl, offset_small side r is)
track_is (surfaces.Circ c) side r round is = (refl, round_small c.r side r (omega (arith, ints, round.least)) (omega (arith, ints, round.least, round.x)) is)

greater_in : (i o : ℤ) → IsAllowance i → IsAllowance o → IsAllowance (greater i o)
greater_in i o is_i is_o = record { least = grind (arith, ints, is_i.least, is_o.least); most = grind (arith, ints, is_i.most, is_o.most) }

band_narrow : (s : Surface) (side : Sign) (r i o : ℤ) → IsSurface s → IsRadius r → IsAllowance i → IsAllowance o → IsNarrow (band_at s side r i o)
band_narrow (surfaces.Line l) signs.Plus r i o line is is_i is_o =
    record { lo = omega (arith, ints, is.least, is.most, is_i.least, is_i.most); hi = omega (arith, ints, is.least, is.most, is_o.least, is_o.most) }
band_narrow (surfaces.Line l) signs.Zero r i o line is is_i is_o =
    let both = greater_in i o is_i is_o in
    record { lo = omega (arith, ints, both.least, both.most); hi = omega (arith, ints, both.least, both.most) }
band_narrow (surfaces.Line l) signs.Minus r i o line is is_i is_o =
    record { lo = omega (arith, ints, is.least, is.most, is_o.least, is_o.most); hi = omega (arith, ints, is.least, is.most, is_i.least, is_i.most) }
band_narrow (surfaces.Circ c) signs.Plus r i o round is is_i is_o =
    record { lo = omega (arith, ints, round.least, round.x, is.least, is.most, is_o.least, is_o.most); hi = omega (arith, ints, round.least, round.x, is.least, is.most, is_i.least, is_i.most) }
band_narrow (surfaces.Circ c) signs.Zero r i o round is is_i is_o =
    let both = greater_in i o is_i is_o in
    record { lo = omega (arith, ints, round.least, round.x, both.least, both.most); hi = omega (arith, ints, round.least, round.x, both.least, both.most) }
band_narrow (surfaces.Circ c) signs.Minus r i o round is is_i is_o =
    record { lo = omega (arith, ints, round.least, round.x, is.least, is.most, is_i.least, is_i.most); hi = omega (arith, ints, round.least, round.x, is.least, is.most, is_o.least, is_o.most) }

out_sign_is : (s : Surface) (side : Sign) → IsSense (out_sign_at s side)
out_sign_is (surfaces.Line l) signs.Plus = inl refl
out_sign_is (surfaces.Line l) signs.Zero = inl refl
out_sign_is (surfaces.Line l) signs.Minus = inr refl
out_sign_is (surfaces.Circ c) signs.Plus = inr refl
out_sign_is (surfaces.Circ c) signs.Zero = inl refl
out_sign_is (surfaces.Circ c) signs.Minus = inl refl

apart : (n : ℕ) → (n == 0) ≡ false → 1 ≤ n
apart zero e = absurd (true≢false e)
apart (suc n) e = omega arith

between_circles : (c d : Circ) (half : Sign) (one : Bool) → one ≡ are_concentric c d → IsCircle c → IsCircle d
    → IsAxisOrNone (if one then None else Some (axis c.c (displacement c.c d.c) half))
between_circles c d half true e is_c is_d = tt
between_circles c d half false e is_c is_d =
    record { through = is_c.centre; along = way_is_dir c.c d.c is_c.centre is_d.centre (apart (length_squared (displacement c.c d.c)) (sym e)) }

tangent_in : (s t : Surface) → IsSurface s → IsSurface t → IsAxisOrNone (tangent_axis s t)
tangent_in (surfaces.Line l) (surfaces.Line k) is_s is_t = tt
tangent_in (surfaces.Line l) (surfaces.Circ c) is_s is_t = record { through = is_t.centre; along = perp_dir l.dir is_s.dir }
tangent_in (surfaces.Circ c) (surfaces.Line l) is_s is_t = record { through = is_s.centre; along = perp_dir l.dir is_t.dir }
tangent_in (surfaces.Circ c) (surfaces.Circ d) is_s is_t = between_circles c d (touching_half c d) (are_concentric c d) refl is_s is_t

axis_in : (drive check : Surface) (how : Stop) → IsSurface drive → IsSurface check → IsAxisOrNone (if is_tanto how then tangent_axis drive check else None)
axis_in drive check stops.To is_d is_c = tt
axis_in drive check stops.On is_d is_c = tt
axis_in drive check stops.Past is_d is_c = tt
axis_in drive check stops.Tanto is_d is_c = tangent_in drive check is_d is_c

leg_in : (m : Motion) (side : Sign) → IsMotion m → IsLeg (leg_on m side)
leg_in m side is = record {
  drive = is.drive;
  track = track_is m.drive (drive_side m) m.radius is.drive is.radius;
  band = band_narrow m.drive (drive_side m) m.radius m.inner m.outer is.drive is.radius is.inner is.outer;
  check = is.check;
  stop_band = band_narrow m.check m.check_side m.radius m.inner m.outer is.check is.radius is.inner is.outer;
  sense = is.sense;
  axis = axis_in m.drive m.check m.how is.drive is.check;
}

more_than : (p : Pt) (vertices : List Pt) → 1 ≤ length vertices → 2 ≤ length (p ∷ vertices)
more_than p vertices some = omega (arith, some)

job_in : (d : Due) (vertices : List Pt) → IsMotion d.motion → 1 ≤ length vertices → ArePoints vertices → IsJob (job_said (cut_on d vertices))
job_in d vertices is some are = record {
  leg = leg_in d.motion d.side is;
  out_sign = out_sign_is d.motion.drive (drive_side d.motion);
  moves = more_than d.motion.start.xy vertices some;
  points = (is.start.xy, are);
}

nth_last : (p q d : Pt) (ps : List Pt) → slice_index_or (q ∷ ps) (length ps) d ≡ last_of p (q ∷ ps)
nth_last p q d [] = refl
nth_last p q d (r ∷ ps) = nth_last q r d ps

pub last_at : (p d : Pt) (ps : List Pt) → 1 ≤ length ps → slice_index_or ps (length ps - 1) d ≡ last_of p ps
last_at p d [] has = absurd (omega (arith, has))
last_at p d (q ∷ ps) has = ap (λ i. slice_index_or (q ∷ ps) i d) (omega (arith)) ∙ nth_last p q d ps

pub last_in : (p : Pt) (vertices : List Pt) → IsPoint p → ArePoints vertices → IsPoint (last_of p vertices)
last_in p [] is are = is
last_in p (v ∷ vs) is are = last_in v vs are.0 are.1

onward_in : (m : Motion) (p : Pt) → IsMotion m → IsPoint p → IsMotion (onward m p)
onward_in m p is point = record {
  start = record { xy = point; z = is.start.z };
  drive = is.drive;
  sense = is.sense;
  check = is.check;
  touching = is.touching;
  radius = is.radius;
  inner = is.inner;
  outer = is.outer;
}

legs_in : (d : Due) (cuts : List (List Pt)) → IsMotion d.motion → AreCuts cuts → AreJobs (map job_said (legs_from d cuts))
legs_in d [] is are = tt
legs_in d (vertices ∷ cuts) is are =
    let last = last_in d.motion.start.xy vertices is.start.xy are.0.1 in
    (job_in d vertices is are.0.0 are.0.1, legs_in (next_leg d vertices) cuts (onward_in d.motion (last_of d.motion.start.xy vertices) is last) are.1)

made_in : (e : Effect) (cuts : List (List Pt)) → HasMotion e → HasIn e cuts → AreJobs (jobs_by e cuts)
made_in (effects.Defines n f) cuts good within = tt
made_in (effects.Sets change) cuts good within = tt
made_in (effects.Moves reach to) cuts good within = tt
made_in (effects.Cuts m legs) cuts good within = legs_in (first_leg m) cuts good within

are_jobs-append : (xs ys : List Job) → AreJobs xs → AreJobs ys → AreJobs (xs ++ ys)
are_jobs-append [] ys are more = more
are_jobs-append (x ∷ xs) ys are more = (are.0, are_jobs-append xs ys are.1 more)

-- one more effect's jobs
pub jobs_in : (jobs : List Job) (e : Effect) (cuts : List (List Pt)) → AreJobs jobs → HasMotion e → HasIn e cuts → AreJobs (jobs ++ jobs_by e cuts)
jobs_in jobs e cuts are good within = are_jobs-append jobs (jobs_by e cuts) are (made_in e cuts good within)

pub points-append : (xs ys : List Job) → point_count (xs ++ ys) ≡ point_count xs + point_count ys
points-append [] ys = omega arith
points-append (x ∷ xs) ys = omega (arith, points-append xs ys)

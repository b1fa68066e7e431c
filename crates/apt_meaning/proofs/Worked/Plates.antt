-- A plate of 500000 by 500000 with the cutter of radius 25000 on the right: the start-up at its corner, and the contour along its lower edge past the right one.
use Rattle.std.specs.Prelude.{◌≡◌, refl, ℤ, pos, neg_ℤ, codes, [], ◌∷◌, Some, None}
use Rattle.apt_num.specs.declared.Sign.TheVariants as signs
use Rattle.apt_num.specs.Root.{root}
use Rattle.apt_words.specs.declared.Case.TheVariants as cases
use Rattle.apt_words.specs.declared.Go.TheVariants as turns
use Rattle.apt_words.specs.declared.Side.TheVariants as sides
use Rattle.apt_words.specs.declared.Stop.TheVariants as stops
use Rattle.apt_words.specs.declared.deed.Deed.TheVariants as deeds
use Rattle.apt_words.proofs.Contours.{contouring}
use Rattle.apt_plane.specs.declared.figures.Pt.{Pt}
use Rattle.apt_plane.specs.declared.figures.Line.{Line}
use Rattle.apt_plane.specs.declared.figures.Surface.TheVariants as surfaces
use Rattle.apt_defs.specs.declared.figure.Figure.TheVariants as figures
use Rattle.apt_defs.specs.Figures.{Table}
use Rattle.apt_offset.specs.declared.Target.TheVariants as targets
use Rattle.apt_startup.specs.declared.StartUp.{StartUp}
use Rattle.apt_startup.specs.StartUps.{start_point}
use Rattle.apt_certify.specs.declared.leg.Leg.{Leg}
use Rattle.apt_meaning.specs.declared.situation.Settings.{Settings}
use Rattle.apt_meaning.specs.declared.situation.Situation.{Situation}
use Rattle.apt_meaning.specs.declared.motion.Motion.{Motion}
use Rattle.apt_meaning.specs.Situations.{first_settings, position_at}
use Rattle.apt_meaning.specs.Motions.{motion_at, leg_of}
use Rattle.apt_meaning.specs.Cuts.{end_point}
use Rattle.apt_meaning.specs.StartUps.{start_up_at}
use Rattle.apt_meaning.specs.Refusals.{refusal_of}

abbrev pub point : ℤ → ℤ → Pt
point x y = record { x = x; y = y }

abbrev pub line : ℤ → ℤ → ℤ → ℤ → Line
line x y dx dy = record { base = point x y; dir = record { dx = dx; dy = dy } }

abbrev pub lower : Line
lower = line (pos 0) (pos 0) (pos 500000) (pos 0)

abbrev pub right : Line
right = line (pos 500000) (pos 0) (pos 0) (pos 500000)

abbrev pub left : Line
left = line (pos 0) (pos 500000) (pos 0) (neg_ℤ (pos 500000))

abbrev pub edges : Table
edges =
    (codes "L1", figures.Shape (surfaces.Line lower)) ∷ (codes "L2", figures.Shape (surfaces.Line right))
    ∷ (codes "L4", figures.Shape (surfaces.Line left)) ∷ []

abbrev pub cutting : Settings
cutting = record first_settings { radius = pos 25000; side = sides.Right; feed = pos 100 }

-- ---- start-up

abbrev pub outside : Situation
outside = record {
  settings = cutting;
  position = Some (position_at (neg_ℤ (pos 100000)) (neg_ℤ (pos 100000)) (pos 50000));
  forward = record { dx = pos 0; dy = pos 0 };
  table = edges;
}

abbrev pub to_corner : StartUp
to_corner = record {
  start = point (neg_ℤ (pos 100000)) (neg_ℤ (pos 100000));
  first = record { how = stops.To; surface = surfaces.Line lower };
  second = Some (record { how = stops.To; surface = surfaces.Line left });
  radius = pos 25000;
}

starts_up : start_up_at outside stops.To (codes "L1") (Some (stops.To, codes "L4")) ≡ Some to_corner
unfolding start_up_at
starts_up = refl

start_is : start_point to_corner ≡ point (neg_ℤ (pos 25000)) (neg_ℤ (pos 25000))
unfolding root
start_is = refl

-- ---- the contour

abbrev pub at_corner : Situation
at_corner = record {
  settings = cutting;
  position = Some (position_at (neg_ℤ (pos 25000)) (neg_ℤ (pos 25000)) (pos 50000));
  forward = record { dx = pos 75000; dy = pos 75000 };
  table = edges;
}

abbrev pub along_lower : Motion
along_lower = record {
  start = position_at (neg_ℤ (pos 25000)) (neg_ℤ (pos 25000)) (pos 50000);
  drive = surfaces.Line lower;
  side = sides.Right;
  sense = pos 1;
  check = surfaces.Line right;
  how = stops.Past;
  check_side = signs.Minus;
  radius = pos 25000;
  inner = pos 8;
  outer = pos 50;
}

pub runs_along : motion_at at_corner (contouring None turns.Right (codes "L1") stops.Past (codes "L2")) ≡ Some along_lower
unfolding motion_at
runs_along = refl

contact_is : end_point along_lower ≡ point (pos 525000) (neg_ℤ (pos 25000))
unfolding root
contact_is = refl

-- from 50 outside its track up to 8 inside, and not past the band of its stop, to the right of the right edge
abbrev pub leg : Leg
leg = record {
  drive = surfaces.Line lower;
  track = targets.Line (point (pos 0) (pos 0)) (record { dx = pos 500000; dy = pos 0 }) (neg_ℤ (pos 25000));
  band = record { lo = neg_ℤ (pos 25050); hi = neg_ℤ (pos 24992) };
  check = surfaces.Line right;
  stop_band = record { lo = neg_ℤ (pos 25050); hi = neg_ℤ (pos 24992) };
  beyond = signs.Minus;
  sense = pos 1;
  axis = None;
}

pub leg_is : leg_of along_lower ≡ leg
leg_is = refl

unrefused : refusal_of at_corner (deeds.Contour (contouring None turns.Right (codes "L1") stops.Past (codes "L2")) (pos 1000000)) ≡ None
unfolding root
unrefused = refl

-- a turn to the other side would need the cutter on the line's left
turned_left : refusal_of at_corner (deeds.Contour (contouring None turns.Left (codes "L1") stops.Past (codes "L2")) (pos 1000000)) ≡ Some cases.OffDrive
turned_left = refl

-- no line touches a line
touches : refusal_of at_corner (deeds.Contour (contouring None turns.Right (codes "L1") stops.Tanto (codes "L2")) (pos 1000000)) ≡ Some cases.Parallel
touches = refl

-- it stands where it is to stop
stands_there : refusal_of at_corner (deeds.Contour (contouring None turns.Right (codes "L1") stops.To (codes "L4")) (pos 1000000)) ≡ Some cases.Behind
stands_there = refl

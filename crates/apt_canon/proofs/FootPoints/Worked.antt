-- Points of circles in a direction, feet and parallels worked out by hand, which the definitions compute.
use Rattle.std.proofs.Common.{refl, ◌≡◌, arith, ℤ, pos, neg_ℤ, ◌<ℤ◌, Ok, Err}
use Rattle.std.proofs.lemmas.Int.{ints}
use Rattle.apt_num.specs.Root.{root}
use Rattle.apt_words.specs.declared.Pick.TheVariants as picks
use Rattle.apt_plane.specs.declared.figures.Pt.{Pt}
use Rattle.apt_plane.specs.declared.figures.Dir.{Dir}
use Rattle.apt_plane.specs.declared.figures.Line.{Line}
use Rattle.apt_plane.specs.declared.figures.Circ.{Circ}
use Rattle.apt_canon.specs.declared.FormFault.TheVariants.{OutOfRange, Degenerate}
use Rattle.apt_canon.specs.Scale.{IsAway}
use Rattle.apt_canon.specs.Feet.{ray, foot, parallel_at, IsPicked}
use Rattle.apt_plane.specs.Vectors.{Scaled}
use Rattle.apt_canon.proofs.Figures.{pt}
use Rattle.apt_canon.proofs.Sides.{picked}

dir : ℤ → ℤ → Dir
dir x y = record { dx = x; dy = y }

line : Pt → Dir → Line
line p d = record { base = p; dir = d }

round : Pt → ℤ → Circ
round p r = record { c = p; r = r }

-- along (3, 4), of the length 5
whole : ray (round (pt (pos 1000) (pos 2000)) (pos 500)) (dir (pos 3) (pos 4)) ≡ Ok (pt (pos 1300) (pos 2400))
unfolding root dir round
whole = refl

-- 70.71 in both parts
slanted : ray (round (pt (pos 0) (pos 0)) (pos 100)) (dir (neg_ℤ (pos 1)) (pos 1)) ≡ Ok (pt (neg_ℤ (pos 71)) (pos 71))
unfolding root dir round
slanted = refl

past_limit : ray (round (pt (pos 49999900) (pos 0)) (pos 101)) (dir (pos 1) (pos 0)) ≡ Err OutOfRange
unfolding root dir round
past_limit = refl

-- the left of (3, 4) is (-4, 3): moved by its length to the left
moved : foot (pt (pos 25) (pos 0)) (line (pt (pos 0) (pos 0)) (dir (pos 3) (pos 4))) (pos 5) ≡ Ok (pt (pos 5) (pos 15))
unfolding root dir line
moved = refl

-- a foot at (0.5, 0.5)
halves : foot (pt (pos 1) (pos 0)) (line (pt (pos 0) (pos 0)) (dir (pos 1) (pos 1))) (pos 0) ≡ Ok (pt (pos 0) (pos 1))
unfolding root dir line
halves = refl

-- the greater x is on the right of (3, 4)
beside : parallel_at (line (pt (pos 0) (pos 0)) (dir (pos 3) (pos 4))) picks.XLarge (pos 500) ≡ Ok (line (pt (pos 400) (neg_ℤ (pos 300))) (dir (pos 3) (pos 4)))
unfolding root dir line
beside = refl

-- the line's point that is level with it is (-225, -300)
greater_x : IsPicked (line (pt (pos 0) (pos 0)) (dir (pos 3) (pos 4))) picks.XLarge (pt (pos 400) (neg_ℤ (pos 300)))
unfolding dir line
greater_x = picked (line (pt (pos 0) (pos 0)) (dir (pos 3) (pos 4))) picks.XLarge (pt (pos 400) (neg_ℤ (pos 300))) (λ e. cc) refl

-- and 500 away from it, on whichever side
away : IsAway (line (pt (pos 0) (pos 0)) (dir (pos 3) (pos 4))) (pos 500) (pt (pos 400) (neg_ℤ (pos 300)))
unfolding dir line
away = record { right = omega arith; left = omega arith }

level_point : Scaled
level_point = record { x = neg_ℤ (pos 225); y = neg_ℤ (pos 300); m = 1 }

not_smaller_x : ¬ IsPicked (line (pt (pos 0) (pos 0)) (dir (pos 3) (pos 4))) picks.XSmall (pt (pos 400) (neg_ℤ (pos 300)))
unfolding dir line level_point
not_smaller_x is =
    let past : pos 400 <ℤ neg_ℤ (pos 225) = is level_point (omega arith) refl refl in
    omega (arith, ints, past)

-- a line to the right has no side of the greater x
no_side : parallel_at (line (pt (pos 0) (pos 0)) (dir (pos 5) (pos 0))) picks.XLarge (pos 500) ≡ Err Degenerate
unfolding root dir line
no_side = refl

below_0 : parallel_at (line (pt (pos 0) (pos 0)) (dir (pos 5) (pos 0))) picks.YLarge (neg_ℤ (pos 1)) ≡ Err Degenerate
unfolding root dir line
below_0 = refl

above_limit : parallel_at (line (pt (pos 0) (pos 50000000)) (dir (pos 5) (pos 0))) picks.YLarge (pos 1) ≡ Err OutOfRange
unfolding root dir line
above_limit = refl

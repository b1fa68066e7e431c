-- Circles worked out by hand, which the definitions compute.
use Rattle.std.proofs.Common.{refl, ◌≡◌, pos, neg_ℤ, Ok, Err}
use Rattle.apt_num.specs.Root.{root}
use Rattle.apt_words.specs.declared.Pick.TheVariants as picks
use Rattle.apt_canon.specs.declared.FormFault.TheVariants.{OutOfRange, Degenerate, NoMeeting, TooLarge}
use Rattle.apt_canon.specs.Rounds.{circle, circle_of, circle_through, circle_touching, circle_three, corner}
use Rattle.apt_canon.proofs.Figures.{pt, line}

-- reaching the limit, and one unit past it
at_limit : circle_of (pt (pos 48000000) (pos 0)) (pos 1000000) ≡ Ok (circle (pt (pos 48000000) (pos 0)) (pos 1000000))
at_limit = refl

past_limit : circle_of (pt (pos 48000000) (pos 0)) (pos 1000001) ≡ Err TooLarge
past_limit = refl

-- the distance of (3, 4) times 100
hypotenuse : circle_through (pt (pos 0) (pos 0)) (pt (pos 300) (neg_ℤ (pos 400))) ≡ Ok (circle (pt (pos 0) (pos 0)) (pos 500))
unfolding root
hypotenuse = refl

-- 2000 over the length 5
touching : circle_touching (pt (pos 500) (pos 0)) (line (pos 0) (pos 0) (pos 3) (pos 4)) ≡ Ok (circle (pt (pos 500) (pos 0)) (pos 400))
unfolding root
touching = refl

-- the exact radius is 223606.798
three : circle_three (pt (pos 0) (pos 0)) (pt (pos 400000) (pos 0)) (pt (pos 0) (pos 200000)) ≡ Ok (circle (pt (pos 200000) (pos 100000)) (pos 223607))
unfolding root
three = refl

in_a_row : circle_three (pt (pos 0) (pos 0)) (pt (pos 300) (pos 400)) (pt (neg_ℤ (pos 600)) (neg_ℤ (pos 800))) ≡ Err Degenerate
unfolding root
in_a_row = refl

-- nearly in a row: the centre lies 1.25 * 10^15 away
far_away : circle_three (pt (neg_ℤ (pos 50000000)) (pos 0)) (pt (pos 50000000) (pos 0)) (pt (pos 0) (pos 1)) ≡ Err TooLarge
unfolding root
far_away = refl

-- on the greater x side of a line that rises by 4 over 3, and above y = 0
sloping : corner (line (pos 0) (pos 0) (pos 3) (pos 4)) picks.XLarge (line (pos 0) (pos 0) (pos 1) (pos 0)) picks.YLarge (pos 200) ≡ Ok (circle (pt (pos 400) (pos 200)) (pos 200))
unfolding root
sloping = refl

-- no side comes before no meeting
no_side : corner (line (pos 0) (pos 0) (pos 1) (pos 0)) picks.YLarge (line (pos 0) (pos 0) (pos 1) (pos 0)) picks.XLarge (pos 200) ≡ Err Degenerate
unfolding root
no_side = refl

no_corner : corner (line (pos 0) (pos 0) (pos 1) (pos 0)) picks.YLarge (line (pos 0) (pos 0) (pos 1) (pos 0)) picks.YLarge (pos 200) ≡ Err NoMeeting
unfolding root
no_corner = refl

-- a centre past the coordinate limit
outside : corner (line (pos 0) (pos 0) (pos 1) (pos 0)) picks.YLarge (line (pos 49999900) (pos 0) (pos 0) (pos 1)) picks.XLarge (pos 101) ≡ Err OutOfRange
unfolding root
outside = refl

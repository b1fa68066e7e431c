-- Tangents worked out by hand, which the definitions compute.
use Rattle.std.proofs.Common.{refl, ◌≡◌, arith, pos, neg_ℤ, true, false, Ok, Err}
use Rattle.std.proofs.lemmas.Int.{ints}
use Rattle.apt_num.specs.declared.Sign.TheVariants.{Minus, Plus}
use Rattle.apt_num.specs.Root.{root}
use Rattle.apt_canon.specs.declared.FormFault.TheVariants.{NoMeeting, Degenerate}
use Rattle.apt_canon.specs.Tangents.{tangent_from, tangent_two, PassesBy, RunsAlong}
use Rattle.apt_canon.proofs.Figures.{pt, line, circ}

-- the sides of the triangle are 3, 4 and 5: the circle lies to the right of the tangent on its left
left_of_circle : tangent_from (pt (pos 0) (pos 0)) true (circ (pos 500000) (pos 0) (pos 300000)) ≡ Ok (line (pos 0) (pos 0) (pos 79999200) (pos 59999400))
unfolding root
left_of_circle = refl

right_of_circle : tangent_from (pt (pos 0) (pos 0)) false (circ (pos 500000) (pos 0) (pos 300000)) ≡ Ok (line (pos 0) (pos 0) (pos 79999200) (neg_ℤ (pos 59999400)))
unfolding root
right_of_circle = refl

-- the one passes the circle on its left, and runs towards it; the other does not pass it on its left
passes_left : PassesBy true (line (pos 0) (pos 0) (pos 79999200) (pos 59999400)) (circ (pos 500000) (pos 0) (pos 300000))
passes_left = refl

passes_right : PassesBy false (line (pos 0) (pos 0) (pos 79999200) (neg_ℤ (pos 59999400))) (circ (pos 500000) (pos 0) (pos 300000))
passes_right = refl

apart : Plus ≡ Minus → ⊥
apart e = cc

not_left : ¬ PassesBy true (line (pos 0) (pos 0) (pos 79999200) (neg_ℤ (pos 59999400))) (circ (pos 500000) (pos 0) (pos 300000))
not_left = apart

runs_on : RunsAlong (record { dx = pos 500000; dy = pos 0 }) (line (pos 0) (pos 0) (pos 79999200) (pos 59999400))
runs_on = omega (arith, ints)

not_on : ¬ RunsAlong (record { dx = pos 500000; dy = pos 0 }) (line (pos 0) (pos 0) (neg_ℤ (pos 79999200)) (neg_ℤ (pos 59999400)))
not_on h = omega (arith, ints, h)

-- a point on the circle, and one inside
on_circle : tangent_from (pt (pos 0) (pos 0)) true (circ (pos 500000) (pos 0) (pos 500000)) ≡ Ok (line (pos 0) (pos 0) (pos 0) (pos 99999000))
unfolding root
on_circle = refl

in_circle : tangent_from (pt (pos 0) (pos 0)) true (circ (pos 500000) (pos 0) (pos 500001)) ≡ Err NoMeeting
unfolding root
in_circle = refl

-- past two circles of one radius
parallel : tangent_two (circ (pos 0) (pos 0) (pos 5000)) true (circ (pos 30000) (pos 40000) (pos 5000)) true ≡ Ok (line (neg_ℤ (pos 4000)) (pos 3000) (pos 59999400) (pos 79999200))
unfolding root
parallel = refl

-- between two circles
crossing : tangent_two (circ (pos 0) (pos 0) (pos 200000)) true (circ (pos 500000) (pos 0) (pos 100000)) false ≡ Ok (line (pos 120000) (pos 160000) (pos 79999200) (neg_ℤ (pos 59999400)))
unfolding root
crossing = refl

-- past one circle that holds the other, and that is the other
in_other : tangent_two (circ (pos 0) (pos 0) (pos 300000)) true (circ (pos 99999) (pos 0) (pos 200000)) true ≡ Err NoMeeting
unfolding root
in_other = refl

one_circle : tangent_two (circ (pos 0) (pos 0) (pos 300000)) true (circ (pos 0) (pos 0) (pos 300000)) true ≡ Err Degenerate
unfolding root
one_circle = refl

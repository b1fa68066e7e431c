-- Figures worked out by hand, which the definition computes.
use Rattle.std.proofs.Common.{refl, ◌≡◌, inl, inr, arith, pos, neg_ℤ, Ok, Err}
use Rattle.std.proofs.lemmas.Int.{ints}
use Rattle.apt_num.specs.Root.{root}
use Rattle.apt_canon.specs.declared.FormFault.TheVariants.{NoMeeting, OutOfRange, Degenerate}
use Rattle.apt_canon.specs.Meeting.{line_line}
use Rattle.apt_canon.specs.Circles.{line_circle, circle_circle, IsFurther, IsBeyond}
use Rattle.apt_canon.proofs.Figures.{pt, line, circ}

-- directions of the lengths 5 and 13, moved to the left by 25 and to the right by 26: they meet at (7.25, 58)
slanted : line_line (line (pos 10) (pos 20) (pos 3) (pos 4)) (pos 25) (line (pos 7) (neg_ℤ (pos 9)) (neg_ℤ (pos 5)) (pos 12)) (neg_ℤ (pos 26)) ≡ Ok (record { x = pos 7; y = pos 58 })
unfolding root
slanted = refl

-- a line that falls by half an inch over 250 inches meets y = 0 at the coordinate limit
at_limit : line_line (line (pos 0) (pos 0) (pos 1) (pos 0)) (pos 0) (line (pos 0) (pos 100000) (pos 25000000) (neg_ℤ (pos 50000))) (pos 0) ≡ Ok (record { x = pos 50000000; y = pos 0 })
unfolding root
at_limit = refl

-- and one unit past it from a base one unit on
past_limit : line_line (line (pos 0) (pos 0) (pos 1) (pos 0)) (pos 0) (line (pos 1) (pos 100000) (pos 25000000) (neg_ℤ (pos 50000))) (pos 0) ≡ Err OutOfRange
unfolding root
past_limit = refl

-- directions that are opposite
opposite : line_line (line (pos 0) (pos 0) (pos 3) (neg_ℤ (pos 4))) (pos 5) (line (pos 10) (pos 10) (neg_ℤ (pos 6)) (pos 8)) (pos 5) ≡ Err NoMeeting
unfolding root
opposite = refl

-- ---- a line and a circle
-- the far point of a circle about the origin along the x axis
onwards : line_circle (line (pos 0) (pos 0) (pos 1) (pos 0)) (pos 0) (circ (pos 0) (pos 0) (pos 200000)) (pos 1) ≡ Ok (record { x = pos 200000; y = pos 0 })
unfolding root
onwards = refl

back : line_circle (line (pos 0) (pos 0) (pos 1) (pos 0)) (pos 0) (circ (pos 0) (pos 0) (pos 200000)) (neg_ℤ (pos 1)) ≡ Ok (record { x = neg_ℤ (pos 200000); y = pos 0 })
unfolding root
back = refl

-- which is further along the line, and not back
is_further : IsFurther (line (pos 0) (pos 0) (pos 1) (pos 0)) (circ (pos 0) (pos 0) (pos 200000)) (pos 1) (pt (pos 200000) (pos 0))
is_further = inl (omega (arith, ints))

not_back : ¬ IsFurther (line (pos 0) (pos 0) (pos 1) (pos 0)) (circ (pos 0) (pos 0) (pos 200000)) (neg_ℤ (pos 1)) (pt (pos 200000) (pos 0))
not_back (inl h) = omega (arith, ints, h)
not_back (inr h) = omega (arith, h)

-- a line moved by the radius touches the circle, and one moved by a unit more passes it by
touch : line_circle (line (pos 0) (pos 0) (pos 1) (pos 0)) (pos 50) (circ (pos 0) (pos 0) (pos 50)) (neg_ℤ (pos 1)) ≡ Ok (record { x = pos 0; y = pos 50 })
unfolding root
touch = refl

past_touch : line_circle (line (pos 0) (pos 0) (pos 1) (pos 0)) (pos 51) (circ (pos 0) (pos 0) (pos 50)) (pos 1) ≡ Err NoMeeting
unfolding root
past_touch = refl

-- a line that meets the circle by less than the rounding: no chord is left of it
grazing : line_circle (line (pos 27304196) (neg_ℤ (pos 27304197)) (pos 1) (pos 1)) (pos 0) (circ (pos 0) (pos 0) (pos 38613965)) (pos 1) ≡ Ok (record { x = pos 27304197; y = neg_ℤ (pos 27304197) })
unfolding root
grazing = refl

-- ---- two circles
-- with sides of 3, 4 and 5
to_the_left : circle_circle (circ (pos 0) (pos 0) (pos 300)) (circ (pos 500) (pos 0) (pos 400)) (pos 1) ≡ Ok (record { x = pos 180; y = pos 240 })
unfolding root
to_the_left = refl

to_the_right : circle_circle (circ (pos 0) (pos 0) (pos 300)) (circ (pos 500) (pos 0) (pos 400)) (neg_ℤ (pos 1)) ≡ Ok (record { x = pos 180; y = neg_ℤ (pos 240) })
unfolding root
to_the_right = refl

is_beyond : IsBeyond (circ (pos 0) (pos 0) (pos 300)) (circ (pos 500) (pos 0) (pos 400)) (pos 1) (pt (pos 180) (pos 240))
is_beyond = inl (omega (arith, ints))

not_right : ¬ IsBeyond (circ (pos 0) (pos 0) (pos 300)) (circ (pos 500) (pos 0) (pos 400)) (neg_ℤ (pos 1)) (pt (pos 180) (pos 240))
not_right (inl h) = omega (arith, ints, h)
not_right (inr h) = omega (arith, h)

-- one that touches the other from inside
inside : circle_circle (circ (pos 0) (pos 0) (pos 300)) (circ (pos 100) (pos 0) (pos 400)) (pos 1) ≡ Ok (record { x = neg_ℤ (pos 300); y = pos 0 })
unfolding root
inside = refl

nested : circle_circle (circ (pos 0) (pos 0) (pos 300)) (circ (pos 99) (pos 0) (pos 400)) (pos 1) ≡ Err NoMeeting
unfolding root
nested = refl

concentric : circle_circle (circ (pos 7) (neg_ℤ (pos 9)) (pos 300)) (circ (pos 7) (neg_ℤ (pos 9)) (pos 400)) (pos 1) ≡ Err Degenerate
unfolding root
concentric = refl

use Rattle.std.proofs.Common.{rules, refl, ◌≡◌, ◌∙◌, ◌^◌, ◌≤◌, arith, pos, ◌+ℤ◌, ◌-ℤ◌, ◌*ℤ◌, unsigned_abs, FitsSigned, w64}
use Rattle.std.specs.Int.{w128}
use Rattle.std.proofs.lemmas.Int.{ints, to_z-of_z}
use Rattle.apt_num.specs.Near.{near}
use Rattle.apt_canon.specs.Circles.{chord_depth}
use Rattle.apt_canon.proofs.Products.{kept}
use Rattle.apt_canon.proofs.CircleMeetings.Answers.{within_chord}
use Rattle.apt_canon.proofs.circles.chord_depth.Goals as goal

quotient : (c : goal.After-div_near) → c.div_near.result ≡ chord_depth c.args.a.now c.args.b.now
quotient c =
    let a = c.args.a.now in
    let b = c.args.b.now in
    let fits_a : FitsSigned w64 a.r = omega (arith, ints) in
    let fits_b : FitsSigned w64 b.r = omega (arith, ints) in
    let fits_share : FitsSigned w128 c.chord_share.result = search rules in
    let fits_length : FitsSigned w128 c.length_of.result = search rules in
    let share : c.chord_share.result ≡ ((pos c.length_squared_of.result +ℤ (a.r *ℤ a.r)) -ℤ (b.r *ℤ b.r)) *ℤ pos (2 ^ 64) = simp to_z-of_z at c.chord_share.ensures.value in
    let value : c.div_near.result ≡ near c.chord_share.result c.length_of.result = simp to_z-of_z at c.div_near.ensures.value in
    value ∙ rw (share, c.length_squared_of.ensures.value, c.length_of.ensures.value, c.requires.way) refl

size : (c : goal.After-div_near) → unsigned_abs c.div_near.result ≤ 2 ^ 57
size c =
    let within = within_chord c.args.a.now c.args.b.now c.requires.a c.requires.b c.requires.a_least c.requires.b_least (rw c.requires.way at c.requires.dir) c.requires.meeting in
    rw (quotient c) within

pub returns-clause-value : goal.returns-clause-value
returns-clause-value c = kept c.div_near.result (omega (arith, size c)) ∙ quotient c

pub returns-clause-small : goal.returns-clause-small
returns-clause-small c = rw (kept c.div_near.result (omega (arith, size c))) (size c)

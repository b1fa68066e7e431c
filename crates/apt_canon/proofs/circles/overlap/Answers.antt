use Rattle.std.proofs.Common.{refl, ◌≡◌, arith, ◌+ℤ◌, ◌-ℤ◌, FitsSigned, w64, nat_le, true, false}
use Rattle.std.proofs.lemmas.Int.{ints, to_z-of_z}
use Rattle.apt_num.specs.Sign.{square}
use Rattle.std.proofs.lemmas.Bool.{le-leb, lt-leb}
use Rattle.apt_canon.proofs.circles.overlap.Goals as goal

pub returns-then-size_squared-square : goal.returns-then-size_squared-square
returns-then-size_squared-square c =
    let a = c.args in
    let fits_r : FitsSigned w64 a.r = c.ranges.r in
    let fits_q : FitsSigned w64 a.q = c.ranges.q in
    let fits_less : FitsSigned w64 (a.r -ℤ a.q) = omega (arith, ints) in
    let fits_sum : FitsSigned w64 (a.r +ℤ a.q) = omega (arith, ints) in
    let first : c.size_squared.result ≡ square (a.r -ℤ a.q) = simp to_z-of_z at c.size_squared.ensures in
    let second : c.size_squared-then-size_squared-square.result ≡ square (a.r +ℤ a.q) = simp to_z-of_z at c.size_squared-then-size_squared-square.ensures in
    let holds : nat_le (square (a.r -ℤ a.q)) a.square ≡ true = le-leb (square (a.r -ℤ a.q)) a.square (rw first at c.if-size_squared-square.true) in
    rw (second, holds) refl

pub returns-else-size_squared-square : goal.returns-else-size_squared-square
returns-else-size_squared-square c =
    let a = c.args in
    let fits_r : FitsSigned w64 a.r = c.ranges.r in
    let fits_q : FitsSigned w64 a.q = c.ranges.q in
    let fits_less : FitsSigned w64 (a.r -ℤ a.q) = omega (arith, ints) in
    let first : c.size_squared.result ≡ square (a.r -ℤ a.q) = simp to_z-of_z at c.size_squared.ensures in
    let fails : nat_le (square (a.r -ℤ a.q)) a.square ≡ false = lt-leb (square (a.r -ℤ a.q)) a.square (rw first at c.if-size_squared-square.false) in
    rw (first, fails) refl

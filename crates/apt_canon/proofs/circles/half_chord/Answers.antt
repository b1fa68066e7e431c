use Rattle.std.proofs.Common.{◌≡◌, ◌*◌, ◌-◌, ◌^◌, ◌≤◌, ◌∙◌, ap, sym, arith, ℕ, pos, unsigned_abs, to_z, FitsSigned, w64}
use Rattle.std.specs.Int.{w128}
use Rattle.std.proofs.lemmas.Int.{ints, to_z-of_z}
use Rattle.apt_num.specs.Root.{IsRoot, root}
use Rattle.apt_num.proofs.Squares.{square_le, root_le}
use Rattle.apt_canon.proofs.CircleMeetings.LineCircle.{half_chord-root}
use Rattle.apt_canon.proofs.circles.half_chord.Goals as goal

small : (q r g : ℕ) → r ≤ 10 ^ 8 → IsRoot (r * r * 2 ^ 60 - g * g) q → q ≤ 2 ^ 57
small q r g most at = root_le q (2 ^ 57) (omega (arith, at.low, square_le r (10 ^ 8) most))

pub returns-clause-value : goal.returns-clause-value
returns-clause-value c =
    let r = c.args.r in
    let fits_r : FitsSigned w64 r = c.ranges.r in
    let fits_depth : FitsSigned w128 c.args.depth = c.ranges.depth in
    let radius : c.from-radius.result ≡ unsigned_abs r = c.from-radius.ensures ∙ (simp to_z-of_z at c.unsigned_abs.ensures.value) in
    let size : c.unsigned_abs-size.result ≡ unsigned_abs c.args.depth = simp to_z-of_z at c.unsigned_abs-size.ensures.value in
    let square : c.saturating_sub.result ≡ unsigned_abs r * unsigned_abs r * 2 ^ 60 - unsigned_abs c.args.depth * unsigned_abs c.args.depth = rw (radius, size) at c.saturating_sub.ensures in
    let at : IsRoot (unsigned_abs r * unsigned_abs r * 2 ^ 60 - unsigned_abs c.args.depth * unsigned_abs c.args.depth) c.isqrt.result = rw square at c.isqrt.ensures.root in
    let least = small c.isqrt.result (unsigned_abs r) (unsigned_abs c.args.depth) (omega (arith, ints, c.requires.least, c.requires.most)) at in
    let plain : to_z w128 c.isqrt.result ≡ pos c.isqrt.result = omega (arith, ints, least) in
    plain ∙ ap pos (c.isqrt.ensures.value ∙ ap root square) ∙ sym (half_chord-root r c.args.depth c.requires.least)

pub returns-clause-small : goal.returns-clause-small
returns-clause-small c =
    let r = c.args.r in
    let fits_r : FitsSigned w64 r = c.ranges.r in
    let fits_depth : FitsSigned w128 c.args.depth = c.ranges.depth in
    let radius : c.from-radius.result ≡ unsigned_abs r = c.from-radius.ensures ∙ (simp to_z-of_z at c.unsigned_abs.ensures.value) in
    let size : c.unsigned_abs-size.result ≡ unsigned_abs c.args.depth = simp to_z-of_z at c.unsigned_abs-size.ensures.value in
    let square : c.saturating_sub.result ≡ unsigned_abs r * unsigned_abs r * 2 ^ 60 - unsigned_abs c.args.depth * unsigned_abs c.args.depth = rw (radius, size) at c.saturating_sub.ensures in
    let at : IsRoot (unsigned_abs r * unsigned_abs r * 2 ^ 60 - unsigned_abs c.args.depth * unsigned_abs c.args.depth) c.isqrt.result = rw square at c.isqrt.ensures.root in
    let least = small c.isqrt.result (unsigned_abs r) (unsigned_abs c.args.depth) (omega (arith, ints, c.requires.least, c.requires.most)) at in
    omega (arith, ints, least)

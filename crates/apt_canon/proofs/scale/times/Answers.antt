use Rattle.std.proofs.Common.{◌≡◌, ◌∙◌, w64, ◌*◌, ◌^◌, ◌≤◌, arith, ◌*ℤ◌, unsigned_abs}
use Rattle.std.proofs.lemmas.Int.{to_z-of_z}
use Rattle.apt_canon.proofs.Products.{kept, size_times}
use Rattle.apt_canon.proofs.scale.times.Goals as goal

pub returns-clause-small : goal.returns-clause-small
returns-clause-small c =
    let a = c.args.a in
    let b = c.args.b in
    let same : c.from.result ≡ a = c.from.ensures ∙ to_z-of_z w64 a c.ranges.a in
    let size : unsigned_abs (a *ℤ b) ≤ 10 ^ 8 * unsigned_abs b = size_times a b c.requires.a in
    rw (same, kept a (omega arith), kept b (omega arith), kept (a *ℤ b) (omega arith)) size

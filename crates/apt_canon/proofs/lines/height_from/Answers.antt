use Rattle.std.proofs.Common.{◌≡◌, ◌*◌, ◌^◌, ◌≤◌, arith, ◌*ℤ◌, ◌-ℤ◌, unsigned_abs, pos, FitsSigned, w64, ap, ◌∙◌}
use Rattle.std.specs.Int.{w128}
use Rattle.std.proofs.lemmas.Int.{to_z-of_z}
use Rattle.apt_canon.proofs.Products.{kept, size_in_units, size_difference, less_units_fits, less_units_kept}
use Rattle.apt_canon.proofs.lines.height_from.Goals as goal

pub overflow_sub-result : goal.overflow_sub-result
overflow_sub-result c =
    let size : unsigned_abs c.times.result ≤ 10 ^ 8 * unsigned_abs c.args.length = rw (kept c.args.length (omega arith)) at c.times.ensures.small in
    less_units_fits c.times.result c.args.cross (omega arith) c.requires.cross

pub returns-clause-value : goal.returns-clause-value
returns-clause-value c =
    let fits_offset : FitsSigned w64 c.args.offset = c.ranges.offset in
    let fits_length : FitsSigned w128 c.args.length = c.ranges.length in
    let size : unsigned_abs c.times.result ≤ 10 ^ 8 * unsigned_abs c.args.length = simp to_z-of_z at c.times.ensures.small in
    let value : c.times.result ≡ c.args.offset *ℤ c.args.length = simp to_z-of_z at c.times.ensures.value in
    less_units_kept c.times.result c.args.cross (omega arith) c.requires.cross ∙ ap (λ x. x -ℤ (c.args.cross *ℤ pos (2 ^ 35))) value

pub returns-clause-small : goal.returns-clause-small
returns-clause-small c =
    let size : unsigned_abs c.times.result ≤ 10 ^ 8 * unsigned_abs c.args.length = rw (kept c.args.length (omega arith)) at c.times.ensures.small in
    let both = size_difference c.times.result (c.args.cross *ℤ pos (2 ^ 35)) _ _ size (size_in_units c.args.cross c.requires.cross) in
    rw (less_units_kept c.times.result c.args.cross (omega arith) c.requires.cross) (omega (arith, both))

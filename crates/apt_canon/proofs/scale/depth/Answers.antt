use Rattle.std.proofs.Common.{◌≡◌, ◌*◌, ◌^◌, ◌≤◌, arith, pos, ◌-ℤ◌, ◌*ℤ◌, unsigned_abs, ◌∙◌, w64, ap}
use Rattle.std.proofs.lemmas.Int.{to_z-of_z, ints}
use Rattle.apt_num.specs.Near.{near}
use Rattle.apt_plane.specs.Vectors.{cross, displacement}
use Rattle.apt_plane.proofs.Lengths.{height_square}
use Rattle.apt_canon.specs.Scale.{length_of}
use Rattle.apt_canon.proofs.Products.{kept, fine_kept, less_offset_fits, less_offset_kept, less_offset_size}
use Rattle.apt_canon.proofs.Depths.{depth_bound}
use Rattle.apt_canon.proofs.scale.depth.Goals as goal

pub overflow_sub-result : goal.overflow_sub-result
overflow_sub-result c =
    let l = c.args.l.now in
    let k = cross l.line.dir (displacement l.line.base c.args.p) in
    let offset : c.from.result ≡ l.off = c.from.ensures ∙ to_z-of_z w64 l.off (omega (arith, ints)) in
    let quotient : c.div_near.result ≡ near (k *ℤ pos (2 ^ 65)) (length_of l.line.dir) =
    rw (fine_kept c.height-cross.result c.height-cross.ensures.small, kept c.length_of.result (omega arith), c.height-cross.ensures.value, c.length_of.ensures.value) at c.div_near.ensures.value in
    let size : unsigned_abs c.div_near.result ≤ 141421358 * 2 ^ 30 = rw quotient (depth_bound l.line.dir k c.requires.line.line.dir (height_square l.line.dir l.line.base c.args.p c.requires.line.line.base c.requires.point)) in
    rw offset (less_offset_fits c.div_near.result l.off (omega arith) c.requires.line.off)

pub returns-clause-value : goal.returns-clause-value
returns-clause-value c =
    let l = c.args.l.now in
    let k = cross l.line.dir (displacement l.line.base c.args.p) in
    let offset : c.from.result ≡ l.off = c.from.ensures ∙ to_z-of_z w64 l.off (omega (arith, ints)) in
    let quotient : c.div_near.result ≡ near (k *ℤ pos (2 ^ 65)) (length_of l.line.dir) =
    rw (fine_kept c.height-cross.result c.height-cross.ensures.small, kept c.length_of.result (omega arith), c.height-cross.ensures.value, c.length_of.ensures.value) at c.div_near.ensures.value in
    let size : unsigned_abs c.div_near.result ≤ 141421358 * 2 ^ 30 = rw quotient (depth_bound l.line.dir k c.requires.line.line.dir (height_square l.line.dir l.line.base c.args.p c.requires.line.line.base c.requires.point)) in
    rw (offset, less_offset_kept c.div_near.result l.off (omega arith) c.requires.line.off) (ap (λ x. x -ℤ (l.off *ℤ pos (2 ^ 30))) quotient)

pub returns-clause-small : goal.returns-clause-small
returns-clause-small c =
    let l = c.args.l.now in
    let k = cross l.line.dir (displacement l.line.base c.args.p) in
    rw (returns-clause-value c)
    (less_offset_size (near (k *ℤ pos (2 ^ 65)) (length_of l.line.dir)) l.off
    (depth_bound l.line.dir k c.requires.line.line.dir (height_square l.line.dir l.line.base c.args.p c.requires.line.line.base c.requires.point)) c.requires.line.off)

use Rattle.std.proofs.Common.{◌≡◌, ◌∙◌, ◌*◌, ◌^◌, ◌≤◌, ap, sym, subst, arith, pos, ◌*ℤ◌, ◌-ℤ◌, ◌<ℤ◌, unsigned_abs, FitsSigned, w64}
use Rattle.std.proofs.lemmas.Int.{to_z-of_z, ints}
use Rattle.apt_num.specs.Sign.{square}
use Rattle.apt_plane.specs.declared.figures.Pt.{Pt}
use Rattle.apt_plane.specs.Vectors.{displacement, cross, dot, length_squared}
use Rattle.apt_canon.specs.Scale.{unit, times, nearest, from, IsNearCircle}
use Rattle.apt_canon.specs.Feet.{ray_point}
use Rattle.apt_canon.proofs.FootPoints.Rays.{ray_near}
use Rattle.apt_canon.proofs.FootPoints.Sharp.{ray_across, ray_forward, ray_radius}
use Rattle.apt_canon.proofs.feet.ray_point.Goals as goal

point : (c : goal.After-along) → c.along.result ≡ ray_point c.args.c.now c.args.u
point c =
    let round = c.args.c.now in
    let u = c.args.u in
    let fits_r : FitsSigned w64 round.r = omega (arith, ints) in
    let value : c.along.result ≡ from round.c (nearest (times (round.r *ℤ pos (2 ^ 35)) u) (pos c.measure.result)) = simp to_z-of_z at c.along.ensures in
    value ∙ ap (λ z. from round.c (nearest (times (round.r *ℤ unit) u) z)) c.measure.ensures.value

pub returns-clause-on_circle : goal.returns-clause-on_circle
returns-clause-on_circle c =
    subst (λ (p : Pt). IsNearCircle c.args.c.now (pos 1) p) (sym (point c)) (ray_near c.args.c.now c.args.u c.requires.circle c.requires.dir)

pub returns-clause-across : goal.returns-clause-across
returns-clause-across c =
    let u = c.args.u in
    subst (λ (p : Pt). 2 * square (cross u (displacement c.args.c.now.c p)) ≤ length_squared u) (sym (point c)) (ray_across c.args.c.now u c.requires.dir)

pub returns-clause-onwards : goal.returns-clause-onwards
returns-clause-onwards c =
    λ positive. subst (λ (p : Pt). pos 0 <ℤ dot c.args.u (displacement c.args.c.now.c p)) (sym (point c)) (ray_forward c.args.c.now c.args.u positive c.requires.dir)

pub returns-clause-radius : goal.returns-clause-radius
returns-clause-radius c =
    let round = c.args.c.now in
    λ least. subst (λ (p : Pt). 2 * unsigned_abs (pos (length_squared (displacement round.c p)) -ℤ (round.r *ℤ round.r)) ≤ 3 * unsigned_abs round.r) (sym (point c))
    (ray_radius round c.args.u least c.requires.circle.most c.requires.dir)

use Rattle.std.proofs.Common.{rules, refl, ◌≡◌, ◌*◌, ◌^◌, ◌≤◌, arith, ℤ, pos, ◌*ℤ◌, ◌+ℤ◌, unsigned_abs, FitsSigned, to_z, of_z, w64}
use Rattle.std.specs.Int.{w128}
use Rattle.std.proofs.lemmas.Int.{ints, to_z-of_z}
use Rattle.apt_num.specs.Near.{near}
use Rattle.apt_canon.specs.Meeting.{meeting_displacement}
use Rattle.apt_canon.proofs.Products.{units_kept, units_not_zero}
use Rattle.apt_canon.proofs.lines.meeting_point.Goals as goal

-- a coordinate, as `shifted` gives it
coordinate : (base share way turn cross result : ℤ) → unsigned_abs base ≤ 50000000 → FitsSigned w128 share → unsigned_abs turn ≤ 2 * 10 ^ 16 → FitsSigned w128 result
    → result ≡ to_z w64 (of_z w64 base) +ℤ near (to_z w128 (of_z w128 share)) (to_z w128 (of_z w128 (to_z w128 (of_z w128 turn) *ℤ pos (2 ^ 35))))
    → share ≡ way → turn ≡ cross → to_z w128 (of_z w128 result) ≡ base +ℤ near way (cross *ℤ pos (2 ^ 35))
coordinate base share way turn cross result small fits_share small_turn fits value is_way is_cross =
    let fits_base : FitsSigned w64 base = omega (arith, ints, small) in
    let plain : result ≡ base +ℤ near share (turn *ℤ pos (2 ^ 35)) = rw (to_z-of_z w64 base fits_base, to_z-of_z w128 share fits_share, units_kept turn small_turn) at value in
    rw (to_z-of_z w128 result fits, plain, is_way, is_cross) refl

pub returns-clause-x : goal.returns-clause-x
returns-clause-x c =
    let share = c.meeting_displacement-displacement in
    let is_way : share.result.x ≡ (meeting_displacement c.args.a.now c.args.ha c.args.b.now c.args.hb).dx =
    rw (to_z-of_z w64 c.args.ha c.ranges.ha, to_z-of_z w64 c.args.hb c.ranges.hb) at share.ensures.x in
    coordinate c.args.a.now.base.x share.result.x _ c.args.turn _ c.shifted.result c.requires.a.base.x (omega (arith, ints)) c.requires.turn_small (search rules) c.shifted.ensures is_way c.requires.turn

pub returns-clause-y : goal.returns-clause-y
returns-clause-y c =
    let share = c.meeting_displacement-displacement in
    let is_way : share.result.y ≡ (meeting_displacement c.args.a.now c.args.ha c.args.b.now c.args.hb).dy =
    rw (to_z-of_z w64 c.args.ha c.ranges.ha, to_z-of_z w64 c.args.hb c.ranges.hb) at share.ensures.y in
    coordinate c.args.a.now.base.y share.result.y _ c.args.turn _ c.shifted-2.result c.requires.a.base.y (omega (arith, ints)) c.requires.turn_small (search rules) c.shifted-2.ensures is_way c.requires.turn

pub shifted-requires-clause-not_zero : goal.shifted-requires-clause-not_zero
shifted-requires-clause-not_zero c = rw (units_kept c.args.turn c.requires.turn_small) (units_not_zero c.args.turn c.requires.not_zero)

pub shifted-requires-2-clause-not_zero : goal.shifted-requires-2-clause-not_zero
shifted-requires-2-clause-not_zero c = rw (units_kept c.args.turn c.requires.turn_small) (units_not_zero c.args.turn c.requires.not_zero)

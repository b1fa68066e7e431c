use Rattle.std.proofs.Common.{◌≡◌, w8}
use Rattle.std.proofs.lemmas.Int.{to_z-of_z}
use Rattle.apt_canon.specs.Circles.{circle_circle_point}
use Rattle.apt_canon.proofs.CircleMeetings.Answers.{on_first, on_second, beyond}
use Rattle.apt_canon.proofs.circles.circle_circle_point.Goals as goal

value : (c : goal.After-circle_circle_point_value) → c.circle_circle_point_value.result ≡ circle_circle_point c.args.a.now c.args.b.now c.args.sigma
value c = rw (to_z-of_z w8 c.args.sigma c.ranges.sigma) at c.circle_circle_point_value.ensures

pub returns-clause-on_a : goal.returns-clause-on_a
returns-clause-on_a c =
    let is = c.requires in
    rw (value c) (on_first c.args.a.now c.args.b.now c.args.sigma is.a is.b is.a_least is.b_least is.sense is.apart is.meeting)

pub returns-clause-on_b : goal.returns-clause-on_b
returns-clause-on_b c =
    let is = c.requires in
    rw (value c) (on_second c.args.a.now c.args.b.now c.args.sigma is.a is.b is.a_least is.b_least is.sense is.apart is.meeting)

pub returns-clause-across : goal.returns-clause-across
returns-clause-across c =
    let is = c.requires in
    rw (value c) (beyond c.args.a.now c.args.b.now c.args.sigma is.a.centre is.b.centre is.sense is.apart)

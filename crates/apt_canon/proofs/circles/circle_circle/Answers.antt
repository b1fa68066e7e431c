use Rattle.std.proofs.Common.{◌≡◌, w8}
use Rattle.std.proofs.lemmas.Int.{to_z-of_z}
use Rattle.apt_canon.specs.Circles.{circle_circle}
use Rattle.apt_canon.proofs.CircleMeetings.Answers.{answer_concentric, answer_apart, answer_point, answer_on_first, answer_on_second, answer_beyond}
use Rattle.apt_canon.proofs.circles.circle_circle.Goals as goal

value : (c : goal.After-circle_circle_value) → c.circle_circle_value.result ≡ circle_circle c.args.a.now c.args.b.now c.args.sigma
value c = rw (to_z-of_z w8 c.args.sigma c.ranges.sigma) at c.circle_circle_value.ensures

pub returns-clause-concentric : goal.returns-clause-concentric
returns-clause-concentric c = answer_concentric c.circle_circle_value.result c.args.a.now c.args.b.now c.args.sigma (value c)

pub returns-clause-no_meeting : goal.returns-clause-no_meeting
returns-clause-no_meeting c = answer_apart c.circle_circle_value.result c.args.a.now c.args.b.now c.args.sigma (value c)

pub returns-clause-in_range : goal.returns-clause-in_range
returns-clause-in_range c = answer_point c.circle_circle_value.result c.args.a.now c.args.b.now c.args.sigma (value c)

pub returns-clause-on_a : goal.returns-clause-on_a
returns-clause-on_a c =
    let is = c.requires in
    answer_on_first c.circle_circle_value.result c.args.a.now c.args.b.now c.args.sigma is.a is.b is.a_least is.b_least is.sense (value c)

pub returns-clause-on_b : goal.returns-clause-on_b
returns-clause-on_b c =
    let is = c.requires in
    answer_on_second c.circle_circle_value.result c.args.a.now c.args.b.now c.args.sigma is.a is.b is.a_least is.b_least is.sense (value c)

pub returns-clause-across : goal.returns-clause-across
returns-clause-across c =
    let is = c.requires in
    answer_beyond c.circle_circle_value.result c.args.a.now c.args.b.now c.args.sigma is.a.centre is.b.centre is.sense (value c)

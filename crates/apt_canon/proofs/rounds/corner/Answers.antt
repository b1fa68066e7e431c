use Rattle.std.proofs.Common.{◌≡◌, w64}
use Rattle.std.proofs.lemmas.Int.{to_z-of_z}
use Rattle.apt_canon.specs.Rounds as rounds
use Rattle.apt_canon.proofs.DefinedCircles.Laws.{in_refused, in_range, in_radius, in_on_a, in_on_b, in_sides, in_touches}
use Rattle.apt_canon.proofs.rounds.corner.Goals as goal

value : (c : goal.After-corner_value) → c.corner_value.result ≡ rounds.corner c.args.a.now c.args.pick_a c.args.b.now c.args.pick_b c.args.r
value c = rw (to_z-of_z w64 c.args.r c.ranges.r) at c.corner_value.ensures

pub returns-clause-refused : goal.returns-clause-refused
returns-clause-refused c = in_refused c.corner_value.result c.args.a.now c.args.b.now c.args.pick_a c.args.pick_b c.args.r (value c)

pub returns-clause-range : goal.returns-clause-range
returns-clause-range c = in_range c.corner_value.result c.args.a.now c.args.b.now c.args.pick_a c.args.pick_b c.args.r (value c)

pub returns-clause-radius : goal.returns-clause-radius
returns-clause-radius c = in_radius c.corner_value.result c.args.a.now c.args.b.now c.args.pick_a c.args.pick_b c.args.r (value c)

pub returns-clause-on_a : goal.returns-clause-on_a
returns-clause-on_a c = in_on_a c.corner_value.result c.args.a.now c.args.b.now c.args.pick_a c.args.pick_b c.args.r c.requires.a c.requires.b c.requires.r (value c)

pub returns-clause-on_b : goal.returns-clause-on_b
returns-clause-on_b c = in_on_b c.corner_value.result c.args.a.now c.args.b.now c.args.pick_a c.args.pick_b c.args.r c.requires.a c.requires.b c.requires.r (value c)

pub returns-clause-sides : goal.returns-clause-sides
returns-clause-sides c = in_sides c.corner_value.result c.args.a.now c.args.b.now c.args.pick_a c.args.pick_b c.args.r c.requires.a c.requires.b c.requires.r (value c)

pub returns-clause-touches : goal.returns-clause-touches
returns-clause-touches c = in_touches c.corner_value.result c.args.a.now c.args.b.now c.args.pick_a c.args.pick_b c.args.r c.requires.a c.requires.b c.requires.r (value c)

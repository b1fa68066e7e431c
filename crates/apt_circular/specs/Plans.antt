-- The acts that records ask for on a machine with circles or without, while they are taken one after the other.
use Rattle.std.specs.Prelude.{Bool, List, map, if◌then◌else◌}
use Rattle.apt_records.specs.declared.record.Record.{Record}
use Rattle.apt_control.specs.declared.Act.{Act}
use Rattle.apt_post.specs.Plan.{plan}
use Rattle.apt_circular.specs.declared.ArcAct.{ArcAct}
use Rattle.apt_circular.specs.declared.ArcAct.TheVariants.{Plain}
use Rattle.apt_circular.specs.declared.plan.TapePlan.{TapePlan}
use Rattle.apt_circular.specs.declared.plan.TapePlan.TheVariants as plans
use Rattle.apt_circular.specs.ArcPlan.{plan_arcs}

-- plain acts, among those with arcs
abbrev pub plainly : List Act → List ArcAct
plainly done = map Plain done

-- with circles a leg round a circle is one arc
abbrev pub plan_on : Bool → List Record → List ArcAct
plan_on circles rs = if circles then plan_arcs rs else plainly (plan rs)

-- the acts that are left of a plan
abbrev pub left_of : TapePlan → List ArcAct
left_of (plans.Plain left) = plainly left
left_of (plans.Arcs left) = left

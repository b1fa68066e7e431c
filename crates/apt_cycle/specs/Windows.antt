-- The acts that are left of a plan, of which some are seen at the front.
use Rattle.std.specs.Prelude.{◌≡◌, ◌⊎◌, List, [], ◌++◌, length}
use Rattle.apt_circular.specs.declared.ArcAct.{ArcAct}
use Rattle.apt_circular.specs.Plans.{left_of}
use Rattle.apt_cycle.specs.declared.window.Window.{Window}

-- those that were taken of it and not passed stand in front
abbrev pub acts_left : Window → List ArcAct
acts_left w = w.front.items ++ left_of w.plan

-- the front of acts that are left has three of them, or all
abbrev pub IsFront : List ArcAct → List ArcAct → Type 0
IsFront front left = (length front ≡ 3) ⊎ (left ≡ [])

abbrev pub IsFilled : Window → Type 0
IsFilled w = IsFront w.front.items (left_of w.plan)

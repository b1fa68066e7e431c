-- Acts have at least as many bytes of lines as they are many, and the lines of plain acts are those that they have among acts with arcs.
use Rattle.std.proofs.Common.{◌≡◌, ◌≤◌, ℕ, pos, Bool, true, false, List, [], ◌∷◌, ◌++◌, map, length, arith, length-append, refl, ap}
use Rattle.std.specs.Prelude.{codes, if◌then◌else◌}
use Rattle.std.specs.Ordering.{int_eq}
use Rattle.apt_words.specs.declared.Command.TheVariants as commands
use Rattle.apt_words.specs.declared.Units.TheVariants as units
use Rattle.apt_words.specs.declared.Turn.TheVariants as turns
use Rattle.apt_words.specs.declared.Cool.TheVariants as coolants
use Rattle.apt_control.specs.declared.Act.{Act}
use Rattle.apt_control.specs.declared.Act.TheVariants as acts
use Rattle.apt_circular.specs.declared.ArcAct.{ArcAct}
use Rattle.apt_circular.specs.declared.ArcAct.TheVariants.{Plain, Arc}
use Rattle.apt_report.specs.Acts.{act_line, act_lines, arc_act_line, arc_lines}

line_at_least : (act : Act) → 1 ≤ length (act_line act)
line_at_least (acts.Units units.Inch) = omega arith
line_at_least (acts.Units units.Mm) = omega arith
line_at_least (acts.Rapid x y z) = omega arith
line_at_least (acts.Cut x y z feed) = omega arith
line_at_least (acts.Do (commands.Spindle turns.Cw n)) = omega arith
line_at_least (acts.Do (commands.Spindle turns.Ccw n)) = omega arith
line_at_least (acts.Do (commands.Spindle turns.Off n)) = omega arith
line_at_least (acts.Do (commands.Coolant coolants.Mist)) = omega arith
line_at_least (acts.Do (commands.Coolant coolants.Flood)) = omega arith
line_at_least (acts.Do (commands.Coolant coolants.Off)) = omega arith
line_at_least (acts.Do (commands.Tool n)) = omega arith
line_at_least (acts.Do commands.Stop) = omega arith
line_at_least (acts.Do commands.OptStop) = omega arith
line_at_least acts.End = omega arith

-- what an arc's line begins with
begun_at_least : (anticlockwise : Bool) (rest : List ℕ) → 1 ≤ length ((if anticlockwise then codes "ARC CCW " else codes "ARC CW ") ++ rest)
begun_at_least true rest = omega arith
begun_at_least false rest = omega arith

arc_line_at_least : (act : ArcAct) → 1 ≤ length (arc_act_line act)
arc_line_at_least (Plain act) = line_at_least act
arc_line_at_least (Arc turn x y z cx cy feed) = begun_at_least (int_eq turn (pos 1)) _

pub arc_lines_at_least : (done : List ArcAct) → length done ≤ length (arc_lines done)
arc_lines_at_least [] = omega arith
arc_lines_at_least (act ∷ more) = omega (arith, length-append (arc_act_line act) (arc_lines more), arc_line_at_least act, arc_lines_at_least more)

pub plain_lines : (done : List Act) → arc_lines (map Plain done) ≡ act_lines done
plain_lines [] = refl
plain_lines (act ∷ more) = ap (λ text. act_line act ++ text) (plain_lines more)

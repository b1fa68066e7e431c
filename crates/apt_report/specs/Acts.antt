-- The text of a tape's acts: a line for each.
use Rattle.std.specs.Prelude.{ℕ, ℤ, pos, List, ◌++◌, codes, if◌then◌else◌}
use Rattle.std.specs.List.{flat_map}
use Rattle.std.specs.Ordering.{int_eq}
use Rattle.std.specs.Fmt.{signed_decimal}
use Rattle.apt_words.specs.declared.Command.{Command}
use Rattle.apt_words.specs.declared.Command.TheVariants as commands
use Rattle.apt_words.specs.declared.Units.TheVariants as units
use Rattle.apt_words.specs.declared.Turn.TheVariants as turns
use Rattle.apt_words.specs.declared.Cool.TheVariants as coolants
use Rattle.apt_control.specs.declared.Act.{Act}
use Rattle.apt_control.specs.declared.Act.TheVariants as acts
use Rattle.apt_circular.specs.declared.ArcAct.{ArcAct}
use Rattle.apt_circular.specs.declared.ArcAct.TheVariants.{Plain, Arc}

-- coordinates in grid units
abbrev pub rapid_line : ℤ → ℤ → ℤ → List ℕ
rapid_line x y z = codes "RAPID " ++ (signed_decimal x ++ (codes " " ++ (signed_decimal y ++ (codes " " ++ (signed_decimal z ++ codes "\n")))))

abbrev pub cut_line : ℤ → ℤ → ℤ → ℤ → List ℕ
cut_line x y z feed =
    codes "CUT " ++ (signed_decimal x ++ (codes " " ++ (signed_decimal y ++ (codes " " ++ (signed_decimal z ++ (codes " FEED " ++ (signed_decimal feed ++ codes "\n")))))))

abbrev pub command_line : Command → List ℕ
command_line (commands.Spindle turns.Cw n) = codes "SPINDLE CW " ++ (signed_decimal n ++ codes "\n")
command_line (commands.Spindle turns.Ccw n) = codes "SPINDLE CCW " ++ (signed_decimal n ++ codes "\n")
command_line (commands.Spindle turns.Off n) = codes "SPINDLE OFF\n"
command_line (commands.Coolant coolants.Mist) = codes "COOLANT MIST\n"
command_line (commands.Coolant coolants.Flood) = codes "COOLANT FLOOD\n"
command_line (commands.Coolant coolants.Off) = codes "COOLANT OFF\n"
command_line (commands.Tool n) = codes "TOOL " ++ (signed_decimal n ++ codes "\n")
command_line commands.Stop = codes "STOP\n"
command_line commands.OptStop = codes "OPSTOP\n"

-- the line of an act; feeds in tenths, speeds in turns per minute
abbrev pub act_line : Act → List ℕ
act_line (acts.Units units.Inch) = codes "UNITS INCH\n"
act_line (acts.Units units.Mm) = codes "UNITS MM\n"
act_line (acts.Rapid x y z) = rapid_line x y z
act_line (acts.Cut x y z feed) = cut_line x y z feed
act_line (acts.Do command) = command_line command
act_line acts.End = codes "END\n"

abbrev pub act_lines : List Act → List ℕ
act_lines done = flat_map act_line done

-- ---- acts of a control that cuts arcs

-- 1 is anticlockwise
abbrev pub turn_text : ℤ → List ℕ
turn_text turn = if int_eq turn (pos 1) then codes "ARC CCW " else codes "ARC CW "

-- an arc to a position about a centre
abbrev pub arc_line : ℤ → ℤ → ℤ → ℤ → ℤ → ℤ → ℤ → List ℕ
arc_line turn x y z cx cy feed =
    turn_text turn ++ (signed_decimal x ++ (codes " " ++ (signed_decimal y ++ (codes " " ++ (signed_decimal z
    ++ (codes " CENTRE " ++ (signed_decimal cx ++ (codes " " ++ (signed_decimal cy ++ (codes " FEED " ++ (signed_decimal feed ++ codes "\n")))))))))))

abbrev pub arc_act_line : ArcAct → List ℕ
arc_act_line (Plain act) = act_line act
arc_act_line (Arc turn x y z cx cy feed) = arc_line turn x y z cx cy feed

abbrev pub arc_lines : List ArcAct → List ℕ
arc_lines done = flat_map arc_act_line done

-- What each statement asks for that is no definition.
use Rattle.std.specs.Prelude.{◌≡◌, refl, ℕ, ◌*◌, ℤ, pos, neg_ℤ, true, codes, List, [], ◌∷◌, Option, Some, None, option_map}
use Rattle.apt_num.specs.Root.{root}
use Rattle.apt_words.specs.declared.Command.TheVariants as commands
use Rattle.apt_words.specs.declared.Cool.TheVariants as cools
use Rattle.apt_words.specs.declared.Go.TheVariants as turns
use Rattle.apt_words.specs.declared.Turn.TheVariants as spins
use Rattle.apt_words.specs.declared.Side.{Side}
use Rattle.apt_words.specs.declared.Side.TheVariants as sides
use Rattle.apt_words.specs.declared.Stop.{Stop}
use Rattle.apt_words.specs.declared.Stop.TheVariants as stops
use Rattle.apt_words.specs.declared.Units.TheVariants as the_units
use Rattle.apt_words.specs.declared.deed.Deed.{Deed}
use Rattle.apt_words.specs.declared.deed.Deed.TheVariants as deeds
use Rattle.apt_words.proofs.Contours.{contouring}
use Rattle.apt_plane.specs.declared.figures.Surface.{Surface}
use Rattle.apt_plane.specs.declared.figures.Surface.TheVariants as surfaces
use Rattle.apt_records.specs.declared.record.Note.{Note}
use Rattle.apt_records.specs.declared.record.Note.TheVariants as notes
use Rattle.apt_records.specs.declared.record.Position.{Position}
use Rattle.apt_records.specs.declared.record.Record.{Record}
use Rattle.apt_records.specs.declared.record.Record.TheVariants as records
use Rattle.apt_records.specs.declared.record.Reach.{Reach}
use Rattle.apt_records.specs.declared.record.Reach.TheVariants as reaches
use Rattle.apt_defs.specs.declared.figure.Figure.TheVariants as figures
use Rattle.apt_meaning.specs.declared.situation.Settings.{Settings}
use Rattle.apt_meaning.specs.declared.situation.Situation.{Situation}
use Rattle.apt_offset.specs.Sides.{side_at_drive, side_at_check}
use Rattle.apt_num.specs.declared.Sign.TheVariants as signs
use Rattle.apt_meaning.specs.declared.motion.Motion.{Motion}
use Rattle.apt_stop.specs.declared.legs.Legs.TheVariants as legs
use Rattle.apt_meaning.specs.declared.effect.Effect.{Effect}
use Rattle.apt_meaning.specs.declared.effect.Effect.TheVariants as effects
use Rattle.apt_meaning.specs.Situations.{first_settings, position_at}
use Rattle.apt_meaning.specs.Motions.{motion_at}
use Rattle.apt_meaning.specs.Cuts.{end_point}
use Rattle.apt_meaning.specs.StartUps.{start_up_at}
use Rattle.apt_meaning.specs.Effects.{effect_of}
use Rattle.apt_meaning.specs.Records.{effect_records, after}

-- ---- a corner of two lines and a point, with a cutter of radius 12500 on the left

abbrev line : ℤ → ℤ → ℤ → ℤ → Surface
line x y dx dy = surfaces.Line (record { base = record { x = x; y = y }; dir = record { dx = dx; dy = dy } })

abbrev across : Surface
across = line (pos 0) (pos 0) (pos 100000) (pos 0)

abbrev up : Surface
up = line (pos 100000) (pos 0) (pos 0) (pos 100000)

abbrev held : Settings
held = record first_settings { radius = pos 12500; side = sides.Left; feed = pos 100 }

abbrev standing : Situation
standing = record {
  settings = held;
  position = Some (position_at (pos 0) (pos 12500) (pos 300));
  forward = record { dx = pos 1; dy = pos 0 };
  table = (codes "L1", figures.Shape across) ∷ (codes "L2", figures.Shape up) ∷ (codes "P1", figures.Point (record { x = pos 400000; y = pos 0 }) (pos 50)) ∷ [];
}

-- a whole number in millionths
abbrev whole : ℕ → ℤ
whole n = pos (n * 1000000)

-- the settings and the records behind what a step asks for that has no vertices
abbrev behind : Effect → Settings × List Record
behind e = ((after standing e []).settings, effect_records e [])

abbrev told : Deed → Option (Settings × List Record)
told deed = option_map behind (effect_of standing deed)

abbrev sets : Settings → Option (Settings × List Record)
sets s = Some (s, [])

abbrev says : Settings → Note → Option (Settings × List Record)
says s note = Some (s, records.Note note ∷ [])

abbrev moves : Reach → Position → Option Effect
moves reach to = Some (effects.Moves reach to)

-- ---- the part and its settings

partno : told (deeds.Partno (codes "A")) ≡ says held (notes.Partno (codes "A"))
partno = refl

remark : told (deeds.Remark (codes "A")) ≡ sets held
remark = refl

units : told (deeds.Units the_units.Mm) ≡ says (record held { units = the_units.Mm }) (notes.Units the_units.Mm)
units = refl

clprnt : told deeds.Clprnt ≡ sets held
clprnt = refl

nopost : told deeds.Nopost ≡ sets held
nopost = refl

machin : told deeds.Machin ≡ sets held
machin = refl

-- the diameter is in grid units, and half of an odd one is rounded up
cutter : told (deeds.Cutter (pos 70)) ≡ says (record held { radius = pos 4 }) (notes.Cutter (pos 7))
cutter = refl

intol : told (deeds.Intol (pos 1000)) ≡ says (record held { intol = pos 100 }) (notes.Intol (pos 100))
intol = refl

outtol : told (deeds.Outtol (pos 1000)) ≡ says (record held { outtol = pos 100 }) (notes.Outtol (pos 100))
outtol = refl

tool : told (deeds.Tool sides.Right) ≡ sets (record held { side = sides.Right })
tool = refl

tool_on : told (deeds.Tool sides.On) ≡ sets (record held { side = sides.On })
tool_on = refl

-- ---- moves

from_xy : effect_of standing (deeds.FromXy (whole 1) (whole 2) (Some (whole 3))) ≡ moves reaches.From (position_at (pos 100000) (pos 200000) (pos 300000))
from_xy = refl

-- the height is 0 where it is left out
goto_xy : effect_of standing (deeds.GotoXy (whole 1) (neg_ℤ (whole 2)) None) ≡ moves reaches.Goto (position_at (pos 100000) (neg_ℤ (pos 200000)) (pos 0))
goto_xy = refl

-- at the height of the point
from_point : effect_of standing (deeds.FromPoint (codes "P1")) ≡ moves reaches.From (position_at (pos 400000) (pos 0) (pos 50))
from_point = refl

goto_point : effect_of standing (deeds.GotoPoint (codes "P1")) ≡ moves reaches.Goto (position_at (pos 400000) (pos 0) (pos 50))
goto_point = refl

godlta : effect_of standing (deeds.Godlta (whole 1) (pos 0) (neg_ℤ (pos 1000))) ≡ moves reaches.Godlta (position_at (pos 100000) (pos 12500) (pos 200))
godlta = refl

-- to both lines on the side of the position, at its height
go_start : effect_of standing (deeds.GoStart stops.To (codes "L1") (Some (stops.Past, codes "L2"))) ≡ moves reaches.Start (position_at (pos 112500) (pos 12500) (pos 300))
unfolding root start_up_at
go_start = refl

-- ON: to a line itself
go_on_one : effect_of standing (deeds.GoStart stops.On (codes "L1") (Some (stops.Past, codes "L2"))) ≡ moves reaches.Start (position_at (pos 112500) (pos 0) (pos 300))
unfolding root start_up_at
go_on_one = refl

go_on_both : effect_of standing (deeds.GoStart stops.On (codes "L1") (Some (stops.On, codes "L2"))) ≡ moves reaches.Start (position_at (pos 100000) (pos 0) (pos 300))
unfolding root start_up_at
go_on_both = refl

-- ---- contours

abbrev along : Side → Motion
along side = record {
  start = position_at (pos 0) (pos 12500) (pos 300);
  drive = across;
  side = side;
  sense = pos 1;
  check = up;
  how = stops.To;
  check_side = signs.Plus;
  radius = pos 12500;
  inner = pos 8;
  outer = pos 50;
}

contour : effect_of standing (deeds.Contour (contouring None turns.Forward (codes "L1") stops.To (codes "L2")) (pos 1000000)) ≡ Some (effects.Cuts (along sides.Left) legs.One)
unfolding root motion_at
contour = refl

-- to the second meeting it has two legs; a count is the nearest whole number
contour_twice : effect_of standing (deeds.Contour (contouring None turns.Forward (codes "L1") stops.To (codes "L2")) (pos 1500000)) ≡ Some (effects.Cuts (along sides.Left) legs.Two)
unfolding root motion_at
contour_twice = refl

no_third_meeting : effect_of standing (deeds.Contour (contouring None turns.Forward (codes "L1") stops.To (codes "L2")) (pos 2500000)) ≡ None
unfolding root motion_at
no_third_meeting = refl

-- the side of the cutter may be given with the motion
contour_right : effect_of standing (deeds.Contour (contouring (Some sides.Right) turns.Forward (codes "L1") stops.To (codes "L2")) (pos 1000000)) ≡ Some (effects.Cuts (along sides.Right) legs.One)
unfolding root motion_at
contour_right = refl

abbrev stopping : Stop → Side → Motion
stopping how side = record (along side) { how = how; check_side = side_at_check up how (record { x = pos 0; y = pos 12500 }) across (side_at_drive side (pos 1)) }

contour_on : effect_of standing (deeds.Contour (contouring (Some sides.On) turns.Forward (codes "L1") stops.On (codes "L2")) (pos 1000000)) ≡ Some (effects.Cuts (stopping stops.On sides.On) legs.One)
unfolding root motion_at
contour_on = refl

-- under TLON the centre runs on the line, else beside it; it stops beside the check line, on it, or past it
to_line : end_point (stopping stops.To sides.On) ≡ record { x = pos 87500; y = pos 0 }
unfolding root
to_line = refl

on_line : end_point (stopping stops.On sides.On) ≡ record { x = pos 100000; y = pos 0 }
unfolding root
on_line = refl

past_line : end_point (stopping stops.Past sides.On) ≡ record { x = pos 112500; y = pos 0 }
unfolding root
past_line = refl

on_line_beside : end_point (stopping stops.On sides.Left) ≡ record { x = pos 100000; y = pos 12500 }
unfolding root
on_line_beside = refl

-- ---- commands

rapid : told deeds.Rapid ≡ says (record held { rapid = true }) notes.Rapid
rapid = refl

halt : told (deeds.Do commands.Stop) ≡ says held (notes.Do commands.Stop)
halt = refl

opt_halt : told (deeds.Do commands.OptStop) ≡ says held (notes.Do commands.OptStop)
opt_halt = refl

end_word : told deeds.EndWord ≡ says held notes.End
end_word = refl

fini : told deeds.Fini ≡ says held notes.Fini
fini = refl

-- in tenths of an inch per minute
fedrat : told (deeds.Fedrat (pos 12350000)) ≡ says (record held { feed = pos 124 }) (notes.Feed (pos 124))
fedrat = refl

-- in turns per minute, to the nearest
spindl : told (deeds.Do (commands.Spindle spins.Cw (pos 1200500000))) ≡ says held (notes.Do (commands.Spindle spins.Cw (pos 1201)))
spindl = refl

spindl_counterclockwise : told (deeds.Do (commands.Spindle spins.Ccw (pos 700499999))) ≡ says held (notes.Do (commands.Spindle spins.Ccw (pos 700)))
spindl_counterclockwise = refl

spindl_off : told (deeds.Do (commands.Spindle spins.Off (pos 0))) ≡ says held (notes.Do (commands.Spindle spins.Off (pos 0)))
spindl_off = refl

coolnt : told (deeds.Do (commands.Coolant cools.Mist)) ≡ says held (notes.Do (commands.Coolant cools.Mist))
coolnt = refl

loadtl : told (deeds.Do (commands.Tool (pos 7000000))) ≡ says held (notes.Do (commands.Tool (pos 7)))
loadtl = refl

-- no text gives a number with a spindle that stands: it stands
spindl_standing : told (deeds.Do (commands.Spindle spins.Off (pos 7000000))) ≡ says held (notes.Do (commands.Spindle spins.Off (pos 0)))
spindl_standing = refl

macro : told deeds.Macro ≡ sets held
macro = refl

-- ---- macros, loops and jumps: they change nothing but where the run goes on

termac : told deeds.Termac ≡ sets held
termac = refl

call : told deeds.Call ≡ sets held
call = refl

loopst : told deeds.Loopst ≡ sets held
loopst = refl

loopnd : told deeds.Loopnd ≡ sets held
loopnd = refl

jumpto : told deeds.Jumpto ≡ sets held
jumpto = refl

if_word : told deeds.If ≡ sets held
if_word = refl

-- What holds before a step, and how moves change it.
use Rattle.std.specs.Prelude.{ℕ, ◌+◌, ◌/◌, ℤ, pos, unsigned_abs, ◌==◌, int_lt, ◌||◌, Bool, true, false, not, [], Option, Some, None, if◌then◌else◌}
use Rattle.apt_words.specs.declared.Units.TheVariants as the_units
use Rattle.apt_words.specs.declared.Side.{Side}
use Rattle.apt_words.specs.declared.Side.TheVariants as sides
use Rattle.apt_plane.specs.declared.figures.Pt.{Pt}
use Rattle.apt_plane.specs.declared.figures.Dir.{Dir}
use Rattle.apt_plane.specs.Vectors.{displacement, length_squared}
use Rattle.apt_records.specs.declared.record.Note.{Note}
use Rattle.apt_records.specs.declared.record.Note.TheVariants as notes
use Rattle.apt_records.specs.declared.record.Position.{Position}
use Rattle.apt_records.specs.declared.record.Reach.{Reach}
use Rattle.apt_records.specs.declared.record.Reach.TheVariants as reaches
use Rattle.apt_meaning.specs.declared.effect.Change.{Change}
use Rattle.apt_meaning.specs.declared.effect.Change.TheVariants as changes
use Rattle.apt_meaning.specs.declared.situation.Settings.{Settings}
use Rattle.apt_meaning.specs.declared.situation.Situation.{Situation}

-- what holds at first: inches, a cutter without a radius, on its surfaces, INTOL 0, OUTTOL 50 grid units, and no feed
abbrev pub first_settings : Settings
first_settings = record {
  units = the_units.Inch;
  radius = pos 0;
  intol = pos 0;
  outtol = pos 50;
  side = sides.On;
  feed = pos 0;
  rapid = false;
}

-- a program begins with no position, no forward direction and no names
abbrev pub first_situation : Situation
first_situation = record { settings = first_settings; position = None; forward = record { dx = pos 0; dy = pos 0 }; table = [] }

abbrev pub has_feed : Settings → Bool
has_feed s = int_lt (pos 0) s.feed

-- a move needs a feed, unless RAPID is pending
abbrev pub lacks_feed : Settings → Bool
lacks_feed s = not (has_feed s || s.rapid)

abbrev pub with_side : Settings → Option Side → Settings
with_side s None = s
with_side s (Some side) = record s { side = side }

-- half the diameter, rounded up
abbrev pub radius_of : ℕ → ℕ
radius_of diameter = (diameter + 1) / 2

-- ---- what is set

-- the settings behind a note
abbrev pub settings_with : Settings → Note → Settings
settings_with s (notes.Units units) = record s { units = units }
settings_with s (notes.Cutter d) = record s { radius = pos (radius_of (unsigned_abs d)) }
settings_with s (notes.Intol t) = record s { intol = t }
settings_with s (notes.Outtol t) = record s { outtol = t }
settings_with s (notes.Feed f) = record s { feed = f }
settings_with s notes.Rapid = record s { rapid = true }
settings_with s _ = s

-- the settings behind what a step sets
abbrev pub changed : Settings → Change → Settings
changed s (changes.Said note) = settings_with s note
changed s (changes.Side side) = record s { side = side }
changed s changes.Nothing = s

-- ---- moves

-- FROM sets the position; the others are moves, and a move spends a pending RAPID
abbrev pub is_move : Reach → Bool
is_move reaches.From = false
is_move reaches.Goto = true
is_move reaches.Godlta = true
is_move reaches.Start = true

abbrev pub settings_behind : Reach → Settings → Settings
settings_behind reach s = if is_move reach then record s { rapid = false } else s

-- forward after a move is its way, and stays where it has none or where there was no position
abbrev pub forward_behind : Option Position → Pt → Dir → Dir
forward_behind None to forward = forward
forward_behind (Some from) to forward = if length_squared (displacement from.xy to) == 0 then forward else displacement from.xy to

abbrev pub position_at : ℤ → ℤ → ℤ → Position
position_at x y z = record { xy = record { x = x; y = y }; z = z }

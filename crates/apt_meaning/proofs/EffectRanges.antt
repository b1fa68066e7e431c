-- The ranges of what effects are made of.
use Rattle.std.proofs.Common.{◌≡◌, ◌^◌, ◌≤◌, ℤ, pos, unsigned_abs, int_le, int_lt, not, Bool, true, false, Option, Some, None, refl, sym, subst, inl, inr, arith}
use Rattle.std.specs.Prelude.{if◌then◌else◌}
use Rattle.std.proofs.lemmas.Int.{ints}
use Rattle.std.proofs.lemmas.Bool.{true≢false, not-false}
use Rattle.apt_num.specs.declared.Sign.{Sign}
use Rattle.apt_num.specs.declared.Sign.TheVariants as signs
use Rattle.apt_num.proofs.Nearest.{near-IsNear}
use Rattle.apt_words.specs.declared.Side.{Side}
use Rattle.apt_words.specs.declared.Stop.{Stop}
use Rattle.apt_words.specs.declared.Units.{Units}
use Rattle.apt_words.specs.declared.Units.TheVariants as the_units
use Rattle.apt_scalar.specs.Scalars.{one, IsScalar, grid_units, tenths, whole}
use Rattle.apt_plane.specs.declared.figures.Surface.{Surface}
use Rattle.apt_plane.specs.Ranges.{IsSurface, IsSense}
use Rattle.apt_offset.specs.Ranges.{IsRadius, IsTolerance}
use Rattle.apt_offset.specs.Turns.{is_zero}
use Rattle.apt_offset.specs.Targets.{signed, greater}
use Rattle.apt_records.specs.declared.record.Note.{Note}
use Rattle.apt_records.specs.declared.record.Note.TheVariants as notes
use Rattle.apt_records.specs.declared.record.Position.{Position}
use Rattle.apt_records.specs.Ranges.{IsPosition, IsNote, IsFromTo}
use Rattle.apt_defs.specs.Forms.{is_in_reach}
use Rattle.apt_meaning.specs.declared.effect.Change.{Change}
use Rattle.apt_meaning.specs.declared.effect.Change.TheVariants as changes
use Rattle.apt_meaning.specs.declared.situation.Settings.{Settings}
use Rattle.apt_meaning.specs.Situations.{radius_of, with_side, settings_with, changed}
use Rattle.apt_meaning.specs.declared.motion.Motion.{Motion}
use Rattle.apt_meaning.specs.Motions.{grid_step, motion}
use Rattle.apt_meaning.specs.Refusals.{is_up_to}
use Rattle.apt_meaning.specs.Ranges.{AreSettings, IsChange, IsAllowance, IsMotion}

-- ---- what a condition that fails says

pub reach_in : (v : ℤ) → not (is_in_reach v) ≡ false → unsigned_abs v ≤ 50000000
reach_in v e = grind (arith, ints, not-false)

pub up_to_in : (most v : ℤ) → not (is_up_to most v) ≡ false → IsFromTo (pos 0) most v
up_to_in most v e = grind (arith, ints, not-false)

-- ---- lengths

pub grid_units_small : (units : Units) (v : ℤ) → IsScalar v → unsigned_abs (grid_units units v) ≤ 10 ^ 12
grid_units_small the_units.Inch v h = omega (arith, ints, (near-IsNear v (pos 10) (omega (arith, ints))).nearest, h)
grid_units_small the_units.Mm v h = omega (arith, ints, (near-IsNear v (pos 100) (omega (arith, ints))).nearest, h)

-- ---- feeds

near_small : (v : ℤ) → IsScalar v → unsigned_abs (tenths v) ≤ 10 ^ 7
near_small v h = omega (arith, ints, (near-IsNear v (pos (10 ^ 5)) (omega (arith, ints))).nearest, h)

pub feed_note : (v : ℤ) → IsScalar v → int_lt (tenths v) (pos 1) ≡ false → IsFromTo (pos 1) (pos 2147483647) (tenths v)
feed_note v h e = (grind (arith, ints), omega (arith, ints, near_small v h))

-- ---- speeds and tools

whole_small : (v : ℤ) → IsScalar v → unsigned_abs (whole v) ≤ 10 ^ 6
whole_small v h = omega (arith, ints, (near-IsNear v (pos one) (omega (arith, ints))).nearest, h)

pub whole_note : (v : ℤ) → IsScalar v → int_lt (whole v) (pos 1) ≡ false → IsFromTo (pos 1) (pos 2147483647) (whole v)
whole_note v h e = (grind (arith, ints), omega (arith, ints, whole_small v h))

-- ---- settings behind what is set

-- half of a diameter
radius_in : (d : ℤ) → IsFromTo (pos 0) (pos 1000000) d → IsRadius (pos (radius_of (unsigned_abs d)))
radius_in d is = record { least = omega (arith, ints); most = omega (arith, ints, is.0, is.1) }

pub on_side : (s : Settings) (side : Side) → AreSettings s → AreSettings (record s { side = side })
on_side s side is = record { radius = is.radius; intol = is.intol; outtol = is.outtol; feed = is.feed }

pub with_rapid : (s : Settings) (rapid : Bool) → AreSettings s → AreSettings (record s { rapid = rapid })
with_rapid s rapid is = record { radius = is.radius; intol = is.intol; outtol = is.outtol; feed = is.feed }

pub on_side_or_as_it_was : (s : Settings) (side : Option Side) → AreSettings s → AreSettings (with_side s side)
on_side_or_as_it_was s None is = is
on_side_or_as_it_was s (Some side) is = on_side s side is

note_kept : (s : Settings) (note : Note) → AreSettings s → IsNote note → AreSettings (settings_with s note)
note_kept s (notes.Units units) is said = record { radius = is.radius; intol = is.intol; outtol = is.outtol; feed = is.feed }
note_kept s (notes.Cutter d) is said = record { radius = radius_in d said; intol = is.intol; outtol = is.outtol; feed = is.feed }
note_kept s (notes.Intol t) is said = record { radius = is.radius; intol = record { least = said.0; most = said.1 }; outtol = is.outtol; feed = is.feed }
note_kept s (notes.Outtol t) is said = record { radius = is.radius; intol = is.intol; outtol = record { least = said.0; most = said.1 }; feed = is.feed }
note_kept s (notes.Feed f) is said = record { radius = is.radius; intol = is.intol; outtol = is.outtol; feed = record { least = omega (arith, ints, said.0); most = said.1 } }
note_kept s notes.Rapid is said = with_rapid s true is
note_kept s _ is said = is

pub change_kept : (s : Settings) (change : Change) → AreSettings s → IsChange change → AreSettings (changed s change)
change_kept s (changes.Said note) is said = note_kept s note is said
change_kept s (changes.Side side) is said = on_side s side is
change_kept s changes.Nothing is said = is

-- ---- motions

pub sense_in : (turned : Sign) → is_zero turned ≡ false → IsSense (signed turned (pos 1))
sense_in signs.Plus e = inl refl
sense_in signs.Zero e = absurd (true≢false e)
sense_in signs.Minus e = inr refl

either_allowance : (b : Bool) (t : ℤ) → int_le t grid_step ≡ b → IsTolerance t → IsAllowance (if b then grid_step else t)
either_allowance true t e is = record { least = omega (arith, ints); most = omega (arith, ints) }
either_allowance false t e is = record { least = grind (arith, ints); most = is.most }

pub allowance_in : (t : ℤ) → IsTolerance t → IsAllowance (greater t grid_step)
allowance_in t is = either_allowance (int_le t grid_step) t refl is

pub motion_is : (s : Settings) (start : Position) (drive : Surface) (turned : Sign) (how : Stop) (check : Surface)
    → AreSettings s → IsPosition start → IsSurface drive → IsSurface check → is_zero turned ≡ false → IsMotion (motion s start drive turned how check)
motion_is s start drive turned how check is from d c turns = record {
  start = from;
  drive = d;
  sense = sense_in turned turns;
  check = c;
  touching = λ e. rw e refl;
  radius = is.radius;
  inner = allowance_in s.intol is.intol;
  outer = allowance_in s.outtol is.outtol;
}

pub along_in : (m : Motion) (s : Settings) (start : Position) (drive : Surface) (turned : Sign) (how : Stop) (check : Surface) → m ≡ motion s start drive turned how check
    → AreSettings s → IsPosition start → IsSurface drive → IsSurface check → is_zero turned ≡ false → IsMotion m
along_in m s start drive turned how check e is from d c turns = subst IsMotion (sym e) (motion_is s start drive turned how check is from d c turns)

-- The words of a record fit 64 bits.
use Rattle.std.proofs.Common.{ℕ, ◌≤◌, ℤ, pos, negsuc, unsigned_abs, List, [], ◌∷◌, ◌++◌, map, sym, subst, inl, inr, lit≤, arith}
use Rattle.std.specs.Prelude.{FitsSigned, ◌≤ℤ◌}
use Rattle.std.specs.List.{flat_map}
use Rattle.std.specs.Int.{w64}
use Rattle.std.proofs.lemmas.Int.{ints}
use Rattle.apt_plane.specs.Ranges.{IsSurface, IsSense}
use Rattle.apt_plane.specs.declared.figures.Surface.{Surface}
use Rattle.apt_plane.specs.declared.figures.Surface.TheVariants as surfaces
use Rattle.apt_words.specs.declared.Command.TheVariants as commands
use Rattle.apt_words.specs.declared.Units.{Units}
use Rattle.apt_words.specs.declared.Units.TheVariants as units
use Rattle.apt_words.specs.declared.Turn.{Turn}
use Rattle.apt_words.specs.declared.Turn.TheVariants as turns
use Rattle.apt_words.specs.declared.Cool.{Cool}
use Rattle.apt_words.specs.declared.Cool.TheVariants as cools
use Rattle.apt_words.specs.declared.Side.{Side}
use Rattle.apt_words.specs.declared.Side.TheVariants as sides
use Rattle.apt_words.specs.declared.Stop.{Stop}
use Rattle.apt_words.specs.declared.Stop.TheVariants as stops
use Rattle.apt_records.specs.declared.record.Position.{Position}
use Rattle.apt_records.specs.declared.record.Reach.{Reach}
use Rattle.apt_records.specs.declared.record.Reach.TheVariants as reaches
use Rattle.apt_records.specs.declared.record.Note.{Note}
use Rattle.apt_records.specs.declared.record.Note.TheVariants as notes
use Rattle.apt_records.specs.declared.record.Record.{Record}
use Rattle.apt_records.specs.declared.record.Record.TheVariants as records
use Rattle.apt_records.specs.Ranges.{ArePositions, IsSpeed, IsNote, IsRecord, greatest}
use Rattle.apt_records.specs.Words.{position_words, surface_words, side_word, stop_word, turn_word, cool_word, units_word, reach_word, note_words, words_of}
use Rattle.apt_words.specs.Sources.{IsText}
use Rattle.apt_cldata.proofs.FieldLaws.{IsTextByte, text_first}
use Rattle.apt_cldata.proofs.ByteLaws.{AllFit}

fits_sized : (z : ℤ) → unsigned_abs z ≤ 100000000 → FitsSigned w64 z
fits_sized (pos n) h = record { sfits = omega arith }
fits_sized (negsuc n) h = record { sfits = omega arith }

fits_number : (z : ℤ) → pos 0 ≤ℤ z → z ≤ℤ greatest → FitsSigned w64 z
fits_number (pos n) low high = record { sfits = omega (arith, ints) }
fits_number (negsuc n) low high = absurd (omega (arith, ints))

fits_pos : (n : ℕ) → n ≤ 2147483647 → FitsSigned w64 (pos n)
fits_pos n h = record { sfits = omega arith }

text_byte_small : (b : ℕ) → IsTextByte b → b ≤ 2147483647
text_byte_small b (inl h) = omega (arith, h.1)
text_byte_small b (inr e) = omega (arith, e)

text_fits : (text : List ℕ) → IsText text → AllFit (map pos text)
text_fits [] h = tt
text_fits (b ∷ bs) h = let t = text_first b bs h in (fits_pos b (text_byte_small b t.0), text_fits bs t.1)

positions_fit : (ps : List Position) → ArePositions ps → AllFit (flat_map position_words ps)
positions_fit [] h = tt
positions_fit (p ∷ ps) h = (fits_sized p.xy.x (omega (arith, h.0.xy.x)), (fits_sized p.xy.y (omega (arith, h.0.xy.y)), (fits_sized p.z (omega (arith, h.0.z)), positions_fit ps h.1)))

units_fit : (u : Units) → FitsSigned w64 (units_word u)
units_fit units.Inch = fits_pos 1 (lit≤ tt)
units_fit units.Mm = fits_pos 2 (lit≤ tt)

turn_fits : (t : Turn) → FitsSigned w64 (turn_word t)
turn_fits turns.Off = fits_pos 0 (lit≤ tt)
turn_fits turns.Cw = fits_pos 1 (lit≤ tt)
turn_fits turns.Ccw = fits_pos 2 (lit≤ tt)

cool_fits : (c : Cool) → FitsSigned w64 (cool_word c)
cool_fits cools.Off = fits_pos 0 (lit≤ tt)
cool_fits cools.Mist = fits_pos 1 (lit≤ tt)
cool_fits cools.Flood = fits_pos 2 (lit≤ tt)

side_fits : (s : Side) → FitsSigned w64 (side_word s)
side_fits sides.Left = fits_pos 1 (lit≤ tt)
side_fits sides.Right = fits_pos 2 (lit≤ tt)
side_fits sides.On = fits_pos 3 (lit≤ tt)

stop_fits : (s : Stop) → FitsSigned w64 (stop_word s)
stop_fits stops.To = fits_pos 1 (lit≤ tt)
stop_fits stops.On = fits_pos 2 (lit≤ tt)
stop_fits stops.Past = fits_pos 3 (lit≤ tt)
stop_fits stops.Tanto = fits_pos 4 (lit≤ tt)

reach_fits : (r : Reach) → FitsSigned w64 (reach_word r)
reach_fits reaches.From = fits_pos 1 (lit≤ tt)
reach_fits reaches.Goto = fits_pos 2 (lit≤ tt)
reach_fits reaches.Godlta = fits_pos 3 (lit≤ tt)
reach_fits reaches.Start = fits_pos 4 (lit≤ tt)

sense_fits : (n : ℤ) → IsSense n → FitsSigned w64 n
sense_fits n (inl e) = subst (FitsSigned w64) (sym e) (fits_pos 1 (lit≤ tt))
sense_fits n (inr e) = subst (FitsSigned w64) (sym e) (fits_sized (negsuc 0) (lit≤ tt))

surface_fits : (s : Surface) (ws : List ℤ) → IsSurface s → AllFit ws → AllFit (surface_words s ++ ws)
surface_fits (surfaces.Line l) ws h k =
    (fits_pos 1 (lit≤ tt), (fits_sized l.base.x (omega (arith, h.base.x)), (fits_sized l.base.y (omega (arith, h.base.y)), (fits_sized l.dir.dx h.dir.dx, (fits_sized l.dir.dy h.dir.dy, k)))))
surface_fits (surfaces.Circ c) ws h k =
    (fits_pos 2 (lit≤ tt), (fits_sized c.c.x (omega (arith, h.x)), (fits_sized c.c.y (omega (arith, h.y)), (fits_sized c.r (omega (arith, h.x)), (fits_pos 0 (lit≤ tt), k)))))

speed_fits : (turn : Turn) (n : ℤ) → IsSpeed turn n → FitsSigned w64 n
speed_fits turns.Cw n h = fits_number n (omega (arith, ints, h.0)) h.1
speed_fits turns.Ccw n h = fits_number n (omega (arith, ints, h.0)) h.1
speed_fits turns.Off n h = subst (FitsSigned w64) (sym h) (fits_pos 0 (lit≤ tt))

note_fits : (note : Note) → IsNote note → AllFit (note_words note)
note_fits (notes.Partno text) h = (fits_pos 2000 (lit≤ tt), (fits_pos 1 (lit≤ tt), (text_fits text h)))
note_fits (notes.Units u) h = (fits_pos 6000 (lit≤ tt), (fits_pos 4 (lit≤ tt), (units_fit u, tt)))
note_fits (notes.Cutter d) h = (fits_pos 6000 (lit≤ tt), (fits_pos 1 (lit≤ tt), (fits_number d h.0 (omega (arith, ints, h.1)), tt)))
note_fits (notes.Intol t) h = (fits_pos 6000 (lit≤ tt), (fits_pos 2 (lit≤ tt), (fits_number t h.0 (omega (arith, ints, h.1)), tt)))
note_fits (notes.Outtol t) h = (fits_pos 6000 (lit≤ tt), (fits_pos 3 (lit≤ tt), (fits_number t h.0 (omega (arith, ints, h.1)), tt)))
note_fits (notes.Feed f) h = (fits_pos 2000 (lit≤ tt), (fits_pos 6 (lit≤ tt), (fits_number f (omega (arith, ints, h.0)) h.1, tt)))
note_fits (notes.Do (commands.Spindle turn n)) h = (fits_pos 2000 (lit≤ tt), (fits_pos 7 (lit≤ tt), (speed_fits turn n h, (turn_fits turn, tt))))
note_fits (notes.Do (commands.Coolant c)) h = (fits_pos 2000 (lit≤ tt), (fits_pos 8 (lit≤ tt), (cool_fits c, tt)))
note_fits (notes.Do (commands.Tool n)) h = (fits_pos 2000 (lit≤ tt), (fits_pos 9 (lit≤ tt), (fits_number n (omega (arith, ints, h.0)) h.1, tt)))
note_fits notes.Rapid h = (fits_pos 2000 (lit≤ tt), (fits_pos 2 (lit≤ tt), tt))
note_fits (notes.Do commands.Stop) h = (fits_pos 2000 (lit≤ tt), (fits_pos 3 (lit≤ tt), tt))
note_fits (notes.Do commands.OptStop) h = (fits_pos 2000 (lit≤ tt), (fits_pos 4 (lit≤ tt), tt))
note_fits notes.End h = (fits_pos 2000 (lit≤ tt), (fits_pos 5 (lit≤ tt), tt))
note_fits notes.Fini h = (fits_pos 14000 (lit≤ tt), (fits_pos 0 (lit≤ tt), tt))

pub words_fit : (r : Record) → IsRecord r → AllFit (words_of r)
words_fit (records.Statement line step) h = (fits_pos 1000 (lit≤ tt), (fits_pos 0 (lit≤ tt), (fits_pos line h.0.1, (fits_pos step h.1.1, tt))))
words_fit (records.Note note) h = note_fits note h
words_fit (records.Drive s side sense) h = (fits_pos 3000 (lit≤ tt), (fits_pos 1 (lit≤ tt), (surface_fits s (side_word side ∷ sense ∷ []) h.0 (side_fits side, (sense_fits sense h.1, tt)))))
words_fit (records.Check s how) h = (fits_pos 3000 (lit≤ tt), (fits_pos 2 (lit≤ tt), (surface_fits s (stop_word how ∷ []) h (stop_fits how, tt))))
words_fit (records.Point reach p) h = (fits_pos 5000 (lit≤ tt), (reach_fits reach, (fits_sized p.xy.x (omega (arith, h.xy.x)), (fits_sized p.xy.y (omega (arith, h.xy.y)), (fits_sized p.z (omega (arith, h.z)), tt)))))
words_fit (records.Contour ps) h = (fits_pos 5000 (lit≤ tt), (fits_pos 5 (lit≤ tt), (positions_fit ps h.1)))

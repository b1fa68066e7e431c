-- Words are read as the record whose words they are, and only as that.
use Rattle.std.proofs.Common.{◌≡◌, ℕ, suc, ◌+◌, ◌*◌, ◌≤◌, ℤ, pos, List, [], ◌∷◌, map, length, true, Result, Ok, refl, ap, sym, ◌∙◌, subst, arith}
use Rattle.std.specs.List.{flat_map}
use Rattle.std.proofs.lemmas.Int.{ints}
use Rattle.std.proofs.lemmas.Bool.Decides.{nat_tests}
use Rattle.apt_plane.specs.declared.figures.Line.{Line}
use Rattle.apt_plane.specs.declared.figures.Surface.{Surface}
use Rattle.apt_plane.specs.declared.figures.Surface.TheVariants as surfaces
use Rattle.apt_plane.specs.Ranges.{IsLine, IsCircle, IsSense}
use Rattle.apt_plane.specs.declared.figures.Circ.{Circ}
use Rattle.apt_words.specs.declared.Command.TheVariants as commands
use Rattle.apt_words.specs.declared.Turn.{Turn}
use Rattle.apt_words.specs.declared.Turn.TheVariants as turns
use Rattle.apt_words.specs.declared.Side.{Side}
use Rattle.apt_words.specs.declared.Stop.{Stop}
use Rattle.apt_records.specs.declared.record.Position.{Position}
use Rattle.apt_records.specs.declared.record.Reach.{Reach}
use Rattle.apt_records.specs.declared.record.Reach.TheVariants as reaches
use Rattle.apt_records.specs.declared.record.Note.{Note}
use Rattle.apt_records.specs.declared.record.Note.TheVariants as notes
use Rattle.apt_records.specs.declared.record.Record.{Record}
use Rattle.apt_records.specs.declared.record.Record.TheVariants as records
use Rattle.apt_words.specs.Sources.{IsCount, IsText}
use Rattle.apt_records.specs.Ranges.{IsPosition, ArePositions, IsFromTo, IsSpeed, IsNote, IsRecord, greatest}
use Rattle.apt_records.specs.Words.{position_words, side_word, stop_word, turn_word, cool_word, units_word, note_words, words_of}
use Rattle.apt_cldata.specs.Fields.{◌>>=◌, from_to, count_at, coordinate, point_at, dir_at, circle_at, text_byte, side_at, sense_at, stop_at, cool_at, units_at, turn_at}
use Rattle.apt_cldata.specs.Records.{statement_by, text_by, number_alone, spindl_at, line_by, surface_by, drive_on, drive_at, check_at, position_by, reached_by, positions_by, is_triples, contour_by, record_of}
use Rattle.apt_cldata.proofs.FieldLaws.{from_to_again, count_again, coordinate_again, point_again, dir_again, circle_again, byte_again, text_first, side_again, sense_again, stop_again, cool_again, units_again, turn_again}
use Rattle.apt_records.proofs.Lengths.{triples_length}

pub bind_again : {A B E : Type 0} (r : Result A E) (f : A → Result B E) (a : A) (b : Result B E) → r ≡ Ok a → f a ≡ b → r >>= f ≡ b
bind_again r f a b e g = ap (λ r. r >>= f) e ∙ g

-- ---- what was written is read

-- the record is read from its words
abbrev pub SaidBy : List ℤ → Record → Type 0
SaidBy [] r = ⊥
SaidBy (class ∷ []) r = ⊥
SaidBy (class ∷ sub ∷ ws) r = record_of class sub ws ≡ Ok r

statement_again : (line step : ℕ) → IsCount line → IsCount step → statement_by (pos line ∷ pos step ∷ []) ≡ Ok (records.Statement line step)
statement_again line step h k =
    bind_again (count_at 0 (pos line)) _ line _ (count_again 0 line h) (bind_again (count_at 1 (pos step)) _ step _ (count_again 1 step k) refl)

text_again : (i : ℕ) (text : List ℕ) → IsText text → text_by i (map pos text) ≡ Ok text
text_again i [] h = refl
text_again i (b ∷ bs) h =
    let t = text_first b bs h in
    bind_again (text_byte i (pos b)) _ b _ (byte_again i b t.0) (bind_again (text_by (suc i) (map pos bs)) _ bs _ (text_again (suc i) bs t.1) refl)

position_again : (i : ℕ) (p : Position) → IsPosition p → position_by i p.xy.x p.xy.y p.z ≡ Ok p
position_again i p h =
    bind_again (point_at i p.xy.x p.xy.y) _ p.xy _ (point_again i p.xy h.xy) (bind_again (coordinate (i + 2) p.z) _ p.z _ (coordinate_again (i + 2) p.z h.z) refl)

positions_again : (i : ℕ) (ps : List Position) → ArePositions ps → positions_by i (flat_map position_words ps) ≡ Ok ps
positions_again i [] h = refl
positions_again i (p ∷ ps) h =
    bind_again (position_by i p.xy.x p.xy.y p.z) _ p _ (position_again i p h.0)
    (bind_again (positions_by (i + 3) (flat_map position_words ps)) _ ps _ (positions_again (i + 3) ps h.1) refl)

is_triples_again : (ws : List ℤ) (k : ℕ) → length ws ≡ 3 * k → 1 ≤ k → is_triples ws ≡ true
is_triples_again ws k e some = grind (arith, nat_tests)

contour_again : (ps : List Position) → 1 ≤ length ps → ArePositions ps → contour_by (flat_map position_words ps) ≡ Ok (records.Contour ps)
contour_again ps some h =
    rw (is_triples_again (flat_map position_words ps) (length ps) (triples_length ps) some)
    (bind_again (positions_by 0 (flat_map position_words ps)) _ ps _ (positions_again 0 ps h) refl)

line_again : (l : Line) → IsLine l → line_by l.base.x l.base.y l.dir.dx l.dir.dy ≡ Ok (surfaces.Line l)
line_again l h =
    bind_again (point_at 1 l.base.x l.base.y) _ l.base _ (point_again 1 l.base h.base) (bind_again (dir_at 3 l.dir.dx l.dir.dy) _ l.dir _ (dir_again 3 l.dir h.dir) refl)

drive_on_again : (s : Surface) (side : Side) (sense : ℤ) → IsSense sense → drive_on s (side_word side) sense ≡ Ok (records.Drive s side sense)
drive_on_again s side sense h =
    bind_again (side_at 5 (side_word side)) _ side _ (side_again 5 side) (bind_again (sense_at 6 sense) _ sense _ (sense_again 6 sense h) refl)

check_on_again : (s : Surface) (how : Stop) → (stop_at 5 (stop_word how) >>= λ how. Ok (records.Check s how)) ≡ Ok (records.Check s how)
check_on_again s how = bind_again (stop_at 5 (stop_word how)) _ how _ (stop_again 5 how) refl

surface_again_line : (l : Line) → IsLine l → surface_by (pos 1) l.base.x l.base.y l.dir.dx l.dir.dy ≡ Ok (surfaces.Line l)
unfolding surface_by
surface_again_line l h = line_again l h

surface_again_circle : (c : Circ) → IsCircle c → surface_by (pos 2) c.c.x c.c.y c.r (pos 0) ≡ Ok (surfaces.Circ c)
unfolding surface_by
surface_again_circle c h =
    bind_again (point_at 1 c.c.x c.c.y) _ c.c _ (point_again 1 c.c h.centre) (bind_again (circle_at 3 c.c c.r) _ c _ (circle_again 3 c h) refl)

drive_again : (s : Surface) (kind a b c d : ℤ) (side : Side) (sense : ℤ) → surface_by kind a b c d ≡ Ok s → IsSense sense
    → drive_at kind a b c d (side_word side) sense ≡ Ok (records.Drive s side sense)
unfolding drive_at
drive_again s kind a b c d side sense e h = bind_again (surface_by kind a b c d) _ s _ e (drive_on_again s side sense h)

check_again : (s : Surface) (kind a b c d : ℤ) (how : Stop) → surface_by kind a b c d ≡ Ok s → check_at kind a b c d (stop_word how) ≡ Ok (records.Check s how)
unfolding check_at
check_again s kind a b c d how e = bind_again (surface_by kind a b c d) _ s _ e (check_on_again s how)

reached_again : (reach : Reach) (p : Position) → IsPosition p → reached_by reach (position_words p) ≡ Ok (records.Point reach p)
reached_again reach p h = bind_again (position_by 0 p.xy.x p.xy.y p.z) _ p _ (position_again 0 p h) refl

number_again : (least most n : ℤ) (note : ℤ → Note) → IsFromTo least most n → (number_alone least most (n ∷ []) >>= λ n. Ok (records.Note (note n))) ≡ Ok (records.Note (note n))
number_again least most n note h = bind_again (from_to least most 0 n) _ n _ (from_to_again least most 0 n h) refl

speed_from_zero : (turn : Turn) (n : ℤ) → IsSpeed turn n → IsFromTo (pos 0) greatest n
speed_from_zero turns.Cw n h = (omega (arith, ints, h.0), h.1)
speed_from_zero turns.Ccw n h = (omega (arith, ints, h.0), h.1)
speed_from_zero turns.Off n h = subst (IsFromTo (pos 0) greatest) (sym h) (omega (arith, ints), omega (arith, ints))

spindl_again : (turn : Turn) (n : ℤ) → IsSpeed turn n → spindl_at n (turn_word turn) ≡ Ok (records.Note (notes.Do (commands.Spindle turn n)))
spindl_again turn n h =
    bind_again (from_to (pos 0) greatest 0 n) _ n _ (from_to_again (pos 0) greatest 0 n (speed_from_zero turn n h))
    (bind_again (turn_at 1 n (turn_word turn)) _ turn _ (turn_again 1 turn n h) refl)

note_again : (note : Note) → IsNote note → SaidBy (note_words note) (records.Note note)
unfolding record_of
note_again (notes.Partno text) h = bind_again (text_by 0 (map pos text)) _ text _ (text_again 0 text h) refl
note_again (notes.Units u) h = bind_again (units_at 0 (units_word u)) _ u _ (units_again 0 u) refl
note_again (notes.Cutter d) h = number_again (pos 0) (pos 1000000) d notes.Cutter h
note_again (notes.Intol t) h = number_again (pos 0) (pos 10000) t notes.Intol h
note_again (notes.Outtol t) h = number_again (pos 0) (pos 10000) t notes.Outtol h
note_again (notes.Feed f) h = number_again (pos 1) greatest f notes.Feed h
note_again (notes.Do (commands.Spindle turn n)) h = spindl_again turn n h
note_again (notes.Do (commands.Coolant c)) h = bind_again (cool_at 0 (cool_word c)) _ c _ (cool_again 0 c) refl
note_again (notes.Do (commands.Tool n)) h = number_again (pos 1) greatest n (λ n. notes.Do (commands.Tool n)) h
note_again notes.Rapid h = refl
note_again (notes.Do commands.Stop) h = refl
note_again (notes.Do commands.OptStop) h = refl
note_again notes.End h = refl
note_again notes.Fini h = refl

point_said : (reach : Reach) (p : Position) → IsPosition p → SaidBy (words_of (records.Point reach p)) (records.Point reach p)
unfolding record_of
point_said reaches.From p h = reached_again reaches.From p h
point_said reaches.Goto p h = reached_again reaches.Goto p h
point_said reaches.Godlta p h = reached_again reaches.Godlta p h
point_said reaches.Start p h = reached_again reaches.Start p h

pub record_again : (r : Record) → IsRecord r → SaidBy (words_of r) r
unfolding record_of
record_again (records.Statement line step) h = statement_again line step h.0 h.1
record_again (records.Note note) h = note_again note h
record_again (records.Drive (surfaces.Line l) side sense) h = drive_again (surfaces.Line l) (pos 1) l.base.x l.base.y l.dir.dx l.dir.dy side sense (surface_again_line l h.0) h.1
record_again (records.Drive (surfaces.Circ c) side sense) h = drive_again (surfaces.Circ c) (pos 2) c.c.x c.c.y c.r (pos 0) side sense (surface_again_circle c h.0) h.1
record_again (records.Check (surfaces.Line l) how) h = check_again (surfaces.Line l) (pos 1) l.base.x l.base.y l.dir.dx l.dir.dy how (surface_again_line l h)
record_again (records.Check (surfaces.Circ c) how) h = check_again (surfaces.Circ c) (pos 2) c.c.x c.c.y c.r (pos 0) how (surface_again_circle c h)
record_again (records.Point reach to) h = point_said reach to h
record_again (records.Contour ps) h = contour_again ps h.0 h.1

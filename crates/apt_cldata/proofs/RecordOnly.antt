-- What is read from words has just those words, and is a record.
use Rattle.std.proofs.Common.{◌≡◌, ℕ, suc, ◌+◌, ◌≤◌, ℤ, pos, List, [], ◌∷◌, ◌++◌, map, length, true, Result, Ok, unsigned_abs, refl, ap, sym, ◌∙◌, subst, arith}
use Rattle.std.specs.List.{flat_map}
use Rattle.std.specs.Ordering.{int_eq}
use Rattle.apt_plane.specs.declared.figures.Pt.{Pt}
use Rattle.apt_plane.specs.declared.figures.Surface.{Surface}
use Rattle.apt_plane.specs.declared.figures.Surface.TheVariants as surfaces
use Rattle.apt_plane.specs.Ranges.{IsSurface}
use Rattle.apt_words.specs.declared.Command.TheVariants as commands
use Rattle.apt_words.specs.Sources.{IsText}
use Rattle.apt_cldata.specs.declared.fields.Misfit.{Misfit}
use Rattle.apt_records.specs.declared.record.Position.{Position}
use Rattle.apt_records.specs.declared.record.Reach.{Reach}
use Rattle.apt_records.specs.declared.record.Reach.TheVariants as reaches
use Rattle.apt_records.specs.declared.record.Note.{Note}
use Rattle.apt_records.specs.declared.record.Note.TheVariants as notes
use Rattle.apt_records.specs.declared.record.Record.{Record}
use Rattle.apt_records.specs.declared.record.Record.TheVariants as records
use Rattle.apt_records.specs.Ranges.{IsPosition, ArePositions, IsFromTo, IsNote, IsRecord, greatest}
use Rattle.apt_records.specs.Words.{position_words, surface_words, reach_word, note_words, words_of}
use Rattle.apt_cldata.specs.Fields.{◌>>=◌, from_to, count_at, coordinate, point_at, dir_at, circle_at, zero_at, text_byte, side_at, sense_at, stop_at, cool_at, units_at, turn_at}
use Rattle.apt_cldata.specs.Records.{statement_by, text_by, partno_by, note_alone, number_alone, spindl_by, coolnt_by, units_by, line_by, circle_by, surface_by, drive_at, drive_by, check_at, check_by, position_by, reached_by, positions_by, is_triples, contour_by, record_of, command_by, setting_by, motion_by, surface_record_by, only_zero}
use Rattle.apt_cldata.proofs.FieldLaws.{bind_only, equal_only, pick, from_to_only, count_only, coordinate_only, point_only, dir_only, circle_only, zero_only, byte_only, text_more, side_only, sense_only, stop_only, cool_only, units_only, turn_only}

-- a record of these words, which is in range
abbrev pub Says : ℤ → ℤ → List ℤ → Record → Type 0
Says class sub ws r = (words_of r ≡ class ∷ sub ∷ ws) × IsRecord r

-- ---- class 1000

statement_only : (ws : List ℤ) (r : Record) → statement_by ws ≡ Ok r → Says (pos 1000) (pos 0) ws r
statement_only [] r e = absurd (cc)
statement_only (a ∷ []) r e = absurd (cc)
statement_only (a ∷ b ∷ []) r e =
    let x = bind_only (count_at 0 a) _ r e in
    let y = bind_only (count_at 1 b) _ r x.2 in
    let h = count_only 0 a x.0 x.1 in
    let k = count_only 1 b y.0 y.1 in
    let same : records.Statement x.0 y.0 ≡ r = cc in
    subst (Says (pos 1000) (pos 0) (a ∷ b ∷ [])) same ((λ i. pos 1000 ∷ pos 0 ∷ h.0 i ∷ k.0 i ∷ []), (h.1, k.1))
statement_only (a ∷ b ∷ c ∷ ws) r e = absurd (cc)

-- ---- class 2000 and class 6000

text_only : (i : ℕ) (ws : List ℤ) (text : List ℕ) → text_by i ws ≡ Ok text → (map pos text ≡ ws) × IsText text
text_only i [] text e = let same : [] ≡ text = cc in subst (λ (t : List ℕ). (map pos t ≡ []) × IsText t) same (refl, refl)
text_only i (w ∷ ws) text e =
    let x = bind_only (text_byte i w) _ text e in
    let y = bind_only (text_by (suc i) ws) _ text x.2 in
    let h = byte_only i w x.0 x.1 in
    let k = text_only (suc i) ws y.0 y.1 in
    let same : x.0 ∷ y.0 ≡ text = cc in
    subst (λ (t : List ℕ). (map pos t ≡ w ∷ ws) × IsText t) same ((λ i. h.0 i ∷ k.0 i), text_more x.0 y.0 h.1 k.1)

partno_only : (ws : List ℤ) (r : Record) → partno_by ws ≡ Ok r → Says (pos 2000) (pos 1) ws r
partno_only ws r e =
    let x = bind_only (text_by 0 ws) _ r e in
    let h = text_only 0 ws x.0 x.1 in
    let same : records.Note (notes.Partno x.0) ≡ r = cc in
    subst (Says (pos 2000) (pos 1) ws) same ((λ i. pos 2000 ∷ pos 1 ∷ h.0 i), h.1)

alone_only : (class sub : ℤ) (note : Note) (ws : List ℤ) (r : Record) → note_words note ≡ class ∷ sub ∷ [] → IsNote note → note_alone note ws ≡ Ok r → Says class sub ws r
alone_only class sub note [] r is h e = let same : records.Note note ≡ r = cc in subst (Says class sub []) same (is, h)
alone_only class sub note (w ∷ ws) r is h e = absurd (cc)

number_only : (least most : ℤ) (ws : List ℤ) (n : ℤ) → number_alone least most ws ≡ Ok n → (n ∷ [] ≡ ws) × IsFromTo least most n
number_only least most [] n e = absurd (cc)
number_only least most (w ∷ []) n e = let h = from_to_only least most 0 w n e in (ap (λ w. w ∷ []) (sym h.0), subst (IsFromTo least most) h.0 h.1)
number_only least most (v ∷ w ∷ ws) n e = absurd (cc)

note_of_number_only : (class sub least most : ℤ) (note : ℤ → Note) (ws : List ℤ) (r : Record) → ((n : ℤ) → note_words (note n) ≡ class ∷ sub ∷ n ∷ []) → ((n : ℤ) → IsFromTo least most n → IsNote (note n))
    → (number_alone least most ws >>= λ n. Ok (records.Note (note n))) ≡ Ok r → Says class sub ws r
note_of_number_only class sub least most note ws r words is e =
    let x = bind_only (number_alone least most ws) _ r e in
    let h = number_only least most ws x.0 x.1 in
    let same : records.Note (note x.0) ≡ r = cc in
    subst (Says class sub ws) same (words x.0 ∙ ap (λ ws. class ∷ sub ∷ ws) h.0, is x.0 h.1)

spindl_only : (ws : List ℤ) (r : Record) → spindl_by ws ≡ Ok r → Says (pos 2000) (pos 7) ws r
spindl_only [] r e = absurd (cc)
spindl_only (n ∷ []) r e = absurd (cc)
spindl_only (n ∷ w ∷ []) r e =
    let x = bind_only (from_to (pos 0) greatest 0 n) _ r e in
    let y = bind_only (turn_at 1 x.0 w) _ r x.2 in
    let h = from_to_only (pos 0) greatest 0 n x.0 x.1 in
    let k = turn_only 1 x.0 w y.0 (subst (IsFromTo (pos 0) greatest) h.0 h.1) y.1 in
    let same : records.Note (notes.Do (commands.Spindle y.0 x.0)) ≡ r = cc in
    subst (Says (pos 2000) (pos 7) (n ∷ w ∷ [])) same ((λ i. pos 2000 ∷ pos 7 ∷ sym h.0 i ∷ k.0 i ∷ []), k.1)
spindl_only (n ∷ w ∷ v ∷ ws) r e = absurd (cc)

coolnt_only : (ws : List ℤ) (r : Record) → coolnt_by ws ≡ Ok r → Says (pos 2000) (pos 8) ws r
coolnt_only [] r e = absurd (cc)
coolnt_only (w ∷ []) r e =
    let x = bind_only (cool_at 0 w) _ r e in
    let same : records.Note (notes.Do (commands.Coolant x.0)) ≡ r = cc in
    subst (Says (pos 2000) (pos 8) (w ∷ [])) same (ap (λ w. pos 2000 ∷ pos 8 ∷ w ∷ []) (cool_only 0 w x.0 x.1), tt)
coolnt_only (w ∷ v ∷ ws) r e = absurd (cc)

units_note_only : (ws : List ℤ) (r : Record) → units_by ws ≡ Ok r → Says (pos 6000) (pos 4) ws r
units_note_only [] r e = absurd (cc)
units_note_only (w ∷ []) r e =
    let x = bind_only (units_at 0 w) _ r e in
    let same : records.Note (notes.Units x.0) ≡ r = cc in
    subst (Says (pos 6000) (pos 4) (w ∷ [])) same (ap (λ w. pos 6000 ∷ pos 4 ∷ w ∷ []) (units_only 0 w x.0 x.1), tt)
units_note_only (w ∷ v ∷ ws) r e = absurd (cc)

command_only : (sub : ℤ) (ws : List ℤ) (r : Record) → command_by sub ws ≡ Ok r → Says (pos 2000) sub ws r
command_only sub ws r e =
    let at : (v : ℤ) → int_eq sub v ≡ true → Says (pos 2000) v ws r → Says (pos 2000) sub ws r = λ v is h. subst (λ s. Says (pos 2000) s ws r) (sym (equal_only sub v is)) h in
    pick (int_eq sub (pos 1)) _ _ _ (λ is e. at (pos 1) is (partno_only ws r e))
    (pick (int_eq sub (pos 2)) _ _ _ (λ is e. at (pos 2) is (alone_only (pos 2000) (pos 2) notes.Rapid ws r refl tt e))
    (pick (int_eq sub (pos 3)) _ _ _ (λ is e. at (pos 3) is (alone_only (pos 2000) (pos 3) (notes.Do commands.Stop) ws r refl tt e))
    (pick (int_eq sub (pos 4)) _ _ _ (λ is e. at (pos 4) is (alone_only (pos 2000) (pos 4) (notes.Do commands.OptStop) ws r refl tt e))
    (pick (int_eq sub (pos 5)) _ _ _ (λ is e. at (pos 5) is (alone_only (pos 2000) (pos 5) notes.End ws r refl tt e))
    (pick (int_eq sub (pos 6)) _ _ _ (λ is e. at (pos 6) is (note_of_number_only (pos 2000) (pos 6) (pos 1) greatest notes.Feed ws r (λ n. refl) (λ n h. h) e))
    (pick (int_eq sub (pos 7)) _ _ _ (λ is e. at (pos 7) is (spindl_only ws r e))
    (pick (int_eq sub (pos 8)) _ _ _ (λ is e. at (pos 8) is (coolnt_only ws r e))
    (pick (int_eq sub (pos 9)) _ _ _ (λ is e. at (pos 9) is (note_of_number_only (pos 2000) (pos 9) (pos 1) greatest (λ n. notes.Do (commands.Tool n)) ws r (λ n. refl) (λ n h. h) e))
    (λ e. absurd (cc))))))))))
    e

setting_only : (sub : ℤ) (ws : List ℤ) (r : Record) → setting_by sub ws ≡ Ok r → Says (pos 6000) sub ws r
setting_only sub ws r e =
    let at : (v : ℤ) → int_eq sub v ≡ true → Says (pos 6000) v ws r → Says (pos 6000) sub ws r = λ v is h. subst (λ s. Says (pos 6000) s ws r) (sym (equal_only sub v is)) h in
    pick (int_eq sub (pos 1)) _ _ _ (λ is e. at (pos 1) is (note_of_number_only (pos 6000) (pos 1) (pos 0) (pos 1000000) notes.Cutter ws r (λ n. refl) (λ n h. h) e))
    (pick (int_eq sub (pos 2)) _ _ _ (λ is e. at (pos 2) is (note_of_number_only (pos 6000) (pos 2) (pos 0) (pos 10000) notes.Intol ws r (λ n. refl) (λ n h. h) e))
    (pick (int_eq sub (pos 3)) _ _ _ (λ is e. at (pos 3) is (note_of_number_only (pos 6000) (pos 3) (pos 0) (pos 10000) notes.Outtol ws r (λ n. refl) (λ n h. h) e))
    (pick (int_eq sub (pos 4)) _ _ _ (λ is e. at (pos 4) is (units_note_only ws r e))
    (λ e. absurd (cc)))))
    e

-- ---- class 3000

line_only : (a b c d : ℤ) (s : Surface) → line_by a b c d ≡ Ok s → (surface_words s ≡ pos 1 ∷ a ∷ b ∷ c ∷ d ∷ []) × IsSurface s
line_only a b c d s e =
    let x = bind_only (point_at 1 a b) _ s e in
    let y = bind_only (dir_at 3 c d) _ s x.2 in
    let h = point_only 1 a b x.0 x.1 in
    let k = dir_only 3 c d y.0 y.1 in
    let same : surfaces.Line (record { base = x.0; dir = y.0 }) ≡ s = cc in
    subst (λ s. (surface_words s ≡ pos 1 ∷ a ∷ b ∷ c ∷ d ∷ []) × IsSurface s) same ((λ i. pos 1 ∷ h.0 i ∷ h.1 i ∷ k.0 i ∷ k.1 i ∷ []), record { base = h.2; dir = k.2 })

circle_surface_only : (a b c d : ℤ) (s : Surface) → circle_by a b c d ≡ Ok s → (surface_words s ≡ pos 2 ∷ a ∷ b ∷ c ∷ d ∷ []) × IsSurface s
circle_surface_only a b c d s e =
    let x = bind_only (point_at 1 a b) _ s e in
    let y = bind_only (circle_at 3 x.0 c) _ s x.2 in
    let z = bind_only (zero_at 4 d) _ s y.2 in
    let h = point_only 1 a b x.0 x.1 in
    let k = circle_only 3 x.0 c y.0 h.2 y.1 in
    let zero = zero_only 4 d z.0 z.1 in
    let same : surfaces.Circ y.0 ≡ s = cc in
    let at_x = ap (λ (p : Pt). p.x) k.0 ∙ h.0 in
    let at_y = ap (λ (p : Pt). p.y) k.0 ∙ h.1 in
    subst (λ s. (surface_words s ≡ pos 2 ∷ a ∷ b ∷ c ∷ d ∷ []) × IsSurface s) same ((λ i. pos 2 ∷ at_x i ∷ at_y i ∷ k.1 i ∷ sym zero i ∷ []), k.2)

surface_only : (kind a b c d : ℤ) (s : Surface) → surface_by kind a b c d ≡ Ok s → (surface_words s ≡ kind ∷ a ∷ b ∷ c ∷ d ∷ []) × IsSurface s
unfolding surface_by
surface_only kind a b c d s e =
    let at : (v : ℤ) → int_eq kind v ≡ true → (surface_words s ≡ v ∷ a ∷ b ∷ c ∷ d ∷ []) × IsSurface s → (surface_words s ≡ kind ∷ a ∷ b ∷ c ∷ d ∷ []) × IsSurface s
    = λ v is h. subst (λ k. (surface_words s ≡ k ∷ a ∷ b ∷ c ∷ d ∷ []) × IsSurface s) (sym (equal_only kind v is)) h in
    pick (int_eq kind (pos 1)) _ _ _ (λ is e. at (pos 1) is (line_only a b c d s e))
    (pick (int_eq kind (pos 2)) _ _ _ (λ is e. at (pos 2) is (circle_surface_only a b c d s e))
    (λ e. absurd (cc)))
    e

drive_at_only : (kind a b c d side sense : ℤ) (r : Record) → drive_at kind a b c d side sense ≡ Ok r → Says (pos 3000) (pos 1) (kind ∷ a ∷ b ∷ c ∷ d ∷ side ∷ sense ∷ []) r
unfolding drive_at
drive_at_only kind a b c d side sense r e =
    let x = bind_only (surface_by kind a b c d) _ r e in
    let y = bind_only (side_at 5 side) _ r x.2 in
    let z = bind_only (sense_at 6 sense) _ r y.2 in
    let h = surface_only kind a b c d x.0 x.1 in
    let k = side_only 5 side y.0 y.1 in
    let m = sense_only 6 sense z.0 z.1 in
    let same : records.Drive x.0 y.0 z.0 ≡ r = cc in
    subst (Says (pos 3000) (pos 1) (kind ∷ a ∷ b ∷ c ∷ d ∷ side ∷ sense ∷ [])) same ((λ i. pos 3000 ∷ pos 1 ∷ (h.0 i ++ k i ∷ m.0 i ∷ [])), (h.1, m.1))

check_at_only : (kind a b c d how : ℤ) (r : Record) → check_at kind a b c d how ≡ Ok r → Says (pos 3000) (pos 2) (kind ∷ a ∷ b ∷ c ∷ d ∷ how ∷ []) r
unfolding check_at
check_at_only kind a b c d how r e =
    let x = bind_only (surface_by kind a b c d) _ r e in
    let y = bind_only (stop_at 5 how) _ r x.2 in
    let h = surface_only kind a b c d x.0 x.1 in
    let k = stop_only 5 how y.0 y.1 in
    let same : records.Check x.0 y.0 ≡ r = cc in
    subst (Says (pos 3000) (pos 2) (kind ∷ a ∷ b ∷ c ∷ d ∷ how ∷ [])) same ((λ i. pos 3000 ∷ pos 2 ∷ (h.0 i ++ k i ∷ [])), h.1)

drive_only : (ws : List ℤ) (r : Record) → drive_by ws ≡ Ok r → Says (pos 3000) (pos 1) ws r
drive_only [] r e = absurd (cc)
drive_only (a ∷ []) r e = absurd (cc)
drive_only (a ∷ b ∷ []) r e = absurd (cc)
drive_only (a ∷ b ∷ c ∷ []) r e = absurd (cc)
drive_only (a ∷ b ∷ c ∷ d ∷ []) r e = absurd (cc)
drive_only (a ∷ b ∷ c ∷ d ∷ f ∷ []) r e = absurd (cc)
drive_only (a ∷ b ∷ c ∷ d ∷ f ∷ g ∷ []) r e = absurd (cc)
drive_only (a ∷ b ∷ c ∷ d ∷ f ∷ g ∷ h ∷ []) r e = drive_at_only a b c d f g h r e
drive_only (a ∷ b ∷ c ∷ d ∷ f ∷ g ∷ h ∷ k ∷ ws) r e = absurd (cc)

check_only : (ws : List ℤ) (r : Record) → check_by ws ≡ Ok r → Says (pos 3000) (pos 2) ws r
check_only [] r e = absurd (cc)
check_only (a ∷ []) r e = absurd (cc)
check_only (a ∷ b ∷ []) r e = absurd (cc)
check_only (a ∷ b ∷ c ∷ []) r e = absurd (cc)
check_only (a ∷ b ∷ c ∷ d ∷ []) r e = absurd (cc)
check_only (a ∷ b ∷ c ∷ d ∷ f ∷ []) r e = absurd (cc)
check_only (a ∷ b ∷ c ∷ d ∷ f ∷ g ∷ []) r e = check_at_only a b c d f g r e
check_only (a ∷ b ∷ c ∷ d ∷ f ∷ g ∷ h ∷ ws) r e = absurd (cc)

surface_record_only : (sub : ℤ) (ws : List ℤ) (r : Record) → surface_record_by sub ws ≡ Ok r → Says (pos 3000) sub ws r
surface_record_only sub ws r e =
    let at : (v : ℤ) → int_eq sub v ≡ true → Says (pos 3000) v ws r → Says (pos 3000) sub ws r = λ v is h. subst (λ s. Says (pos 3000) s ws r) (sym (equal_only sub v is)) h in
    pick (int_eq sub (pos 1)) _ _ _ (λ is e. at (pos 1) is (drive_only ws r e))
    (pick (int_eq sub (pos 2)) _ _ _ (λ is e. at (pos 2) is (check_only ws r e))
    (λ e. absurd (cc)))
    e

-- ---- class 5000

position_only : (i : ℕ) (x y z : ℤ) (p : Position) → position_by i x y z ≡ Ok p → (position_words p ≡ x ∷ y ∷ z ∷ []) × IsPosition p
position_only i x y z p e =
    let a = bind_only (point_at i x y) _ p e in
    let b = bind_only (coordinate (i + 2) z) _ p a.2 in
    let h = point_only i x y a.0 a.1 in
    let k = coordinate_only (i + 2) z b.0 b.1 in
    let same : record { xy = a.0; z = b.0 } ≡ p = cc in
    subst (λ p. (position_words p ≡ x ∷ y ∷ z ∷ []) × IsPosition p) same ((λ i. h.0 i ∷ h.1 i ∷ sym k.0 i ∷ []), record { xy = h.2; z = subst (λ n. unsigned_abs n ≤ 50000000) k.0 k.1 })

reached_only : (reach : Reach) (ws : List ℤ) (r : Record) → reached_by reach ws ≡ Ok r → Says (pos 5000) (reach_word reach) ws r
reached_only reach [] r e = absurd (cc)
reached_only reach (x ∷ []) r e = absurd (cc)
reached_only reach (x ∷ y ∷ []) r e = absurd (cc)
reached_only reach (x ∷ y ∷ z ∷ []) r e =
    let a = bind_only (position_by 0 x y z) _ r e in
    let h = position_only 0 x y z a.0 a.1 in
    let same : records.Point reach a.0 ≡ r = cc in
    subst (Says (pos 5000) (reach_word reach) (x ∷ y ∷ z ∷ [])) same (ap (λ ws. pos 5000 ∷ reach_word reach ∷ ws) h.0, h.1)
reached_only reach (x ∷ y ∷ z ∷ w ∷ ws) r e = absurd (cc)

positions_only : (i : ℕ) (ws : List ℤ) (ps : List Position) → positions_by i ws ≡ Ok ps → (flat_map position_words ps ≡ ws) × ArePositions ps
positions_only i [] ps e = let same : [] ≡ ps = cc in subst (λ (ps : List Position). (flat_map position_words ps ≡ []) × ArePositions ps) same (refl, tt)
positions_only i (x ∷ []) ps e = absurd (cc)
positions_only i (x ∷ y ∷ []) ps e = absurd (cc)
positions_only i (x ∷ y ∷ z ∷ ws) ps e =
    let a = bind_only (position_by i x y z) _ ps e in
    let b = bind_only (positions_by (i + 3) ws) _ ps a.2 in
    let h = position_only i x y z a.0 a.1 in
    let k = positions_only (i + 3) ws b.0 b.1 in
    let same : a.0 ∷ b.0 ≡ ps = cc in
    subst (λ (ps : List Position). (flat_map position_words ps ≡ x ∷ y ∷ z ∷ ws) × ArePositions ps) same ((λ i. h.0 i ++ k.0 i), (h.1, k.1))

some_position : (ws : List ℤ) (ps : List Position) → is_triples ws ≡ true → flat_map position_words ps ≡ ws → 1 ≤ length ps
some_position ws [] some e = absurd (cc)
some_position ws (p ∷ ps) some e = omega arith

contour_only : (ws : List ℤ) (r : Record) → contour_by ws ≡ Ok r → Says (pos 5000) (pos 5) ws r
contour_only ws r e =
    pick (is_triples ws) _ _ _
    (λ some e.
    let a = bind_only (positions_by 0 ws) _ r e in
    let h = positions_only 0 ws a.0 a.1 in
    let same : records.Contour a.0 ≡ r = cc in
    subst (Says (pos 5000) (pos 5) ws) same (ap (λ ws. pos 5000 ∷ pos 5 ∷ ws) h.0, (some_position ws a.0 some h.0, h.1)))
    (λ e. absurd (cc))
    e

motion_only : (sub : ℤ) (ws : List ℤ) (r : Record) → motion_by sub ws ≡ Ok r → Says (pos 5000) sub ws r
motion_only sub ws r e =
    let at : (v : ℤ) → int_eq sub v ≡ true → Says (pos 5000) v ws r → Says (pos 5000) sub ws r = λ v is h. subst (λ s. Says (pos 5000) s ws r) (sym (equal_only sub v is)) h in
    pick (int_eq sub (pos 1)) _ _ _ (λ is e. at (pos 1) is (reached_only reaches.From ws r e))
    (pick (int_eq sub (pos 2)) _ _ _ (λ is e. at (pos 2) is (reached_only reaches.Goto ws r e))
    (pick (int_eq sub (pos 3)) _ _ _ (λ is e. at (pos 3) is (reached_only reaches.Godlta ws r e))
    (pick (int_eq sub (pos 4)) _ _ _ (λ is e. at (pos 4) is (reached_only reaches.Start ws r e))
    (pick (int_eq sub (pos 5)) _ _ _ (λ is e. at (pos 5) is (contour_only ws r e))
    (λ e. absurd (cc))))))
    e

-- ---- all classes

zero_sub_only : (class sub : ℤ) (ws : List ℤ) (r : Record) (read : Result Record Misfit) → (read ≡ Ok r → Says class (pos 0) ws r) → only_zero sub read ≡ Ok r → Says class sub ws r
zero_sub_only class sub ws r read h e =
    pick (int_eq sub (pos 0)) _ _ _ (λ is e. subst (λ s. Says class s ws r) (sym (equal_only sub (pos 0) is)) (h e)) (λ e. absurd (cc)) e

pub record_only : (class sub : ℤ) (ws : List ℤ) (r : Record) → record_of class sub ws ≡ Ok r → Says class sub ws r
unfolding record_of
record_only class sub ws r e =
    let at : (v : ℤ) → int_eq class v ≡ true → Says v sub ws r → Says class sub ws r = λ v is h. subst (λ c. Says c sub ws r) (sym (equal_only class v is)) h in
    pick (int_eq class (pos 1000)) _ _ _ (λ is e. at (pos 1000) is (zero_sub_only (pos 1000) sub ws r (statement_by ws) (statement_only ws r) e))
    (pick (int_eq class (pos 2000)) _ _ _ (λ is e. at (pos 2000) is (command_only sub ws r e))
    (pick (int_eq class (pos 3000)) _ _ _ (λ is e. at (pos 3000) is (surface_record_only sub ws r e))
    (pick (int_eq class (pos 5000)) _ _ _ (λ is e. at (pos 5000) is (motion_only sub ws r e))
    (pick (int_eq class (pos 6000)) _ _ _ (λ is e. at (pos 6000) is (setting_only sub ws r e))
    (pick (int_eq class (pos 14000)) _ _ _ (λ is e. at (pos 14000) is (zero_sub_only (pos 14000) sub ws r (note_alone notes.Fini ws) (alone_only (pos 14000) (pos 0) notes.Fini ws r refl tt) e))
    (λ e. absurd (cc)))))))
    e

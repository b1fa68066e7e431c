-- A listing tells the points of its records.
use Rattle.std.proofs.Common.{◌≡◌, ℕ, suc, ◌+◌, ◌*◌, ◌^◌, ◌≤◌, ◌<◌, List, [], ◌∷◌, ◌++◌, map, length, take, drop, refl, sym, ap, ◌∙◌, arith, append_assoc, append-nil, length-append, drop-drop}
use Rattle.std.specs.Prelude.{codes}
use Rattle.std.specs.Fmt.{decimal}
use Rattle.std.specs.List.{flat_map}
use Rattle.std.proofs.lemmas.List.{take_at, drop_at, length-map}
use Rattle.std.proofs.lemmas.List.Concat.{flat_map-append}
use Rattle.std.proofs.lemmas.List.Folds.{flat_map-map}
use Rattle.apt_words.specs.declared.Units.{Units}
use Rattle.apt_records.specs.declared.record.Position.{Position}
use Rattle.apt_records.specs.declared.record.Reach.{Reach}
use Rattle.apt_records.specs.declared.record.Reach.TheVariants as reaches
use Rattle.apt_records.specs.declared.record.Record.{Record}
use Rattle.apt_records.specs.declared.record.Record.TheVariants as records
use Rattle.apt_records.specs.Ranges.{IsPosition, ArePositions, IsRecord, AreRecords}
use Rattle.apt_post.specs.Plan.{units_of}
use Rattle.apt_lines.specs.Decimals.{right_in}
use Rattle.apt_report.specs.Listing.{decimals_in, word_of, coordinate, point_line, record_lines, lines_from, record_count, point_count, end_line, listing}
use Rattle.apt_report.specs.Columns.{Row, row, record_rows, rows_from, row_of, rows_in, GivesBack}
use Rattle.apt_report.proofs.Places.{length_again, count_again, length-coordinate, length-number}

-- ---- five texts in a line

module _ (s w x y z : List ℕ) (eight : length s ≡ 8) (four : length w ≡ 4) (eleven_x : length x ≡ 11) (eleven_y : length y ≡ 11) (eleven_z : length z ≡ 11) where
  abbrev behind_y : List ℕ
  behind_y = z ++ codes "\n"

  abbrev behind_x : List ℕ
  behind_x = y ++ behind_y

  abbrev behind_word : List ℕ
  behind_word = x ++ behind_x

  abbrev whole : List ℕ
  whole = s ++ (codes " " ++ (w ++ behind_word))

  from_word : drop 9 whole ≡ w ++ behind_word
  from_word = sym (drop-drop 1 8 whole) ∙ ap (drop 1) (drop_at s (codes " " ++ (w ++ behind_word)) 8 eight)

  from_x : drop 13 whole ≡ behind_word
  from_x = sym (drop-drop 4 9 whole) ∙ ap (drop 4) from_word ∙ drop_at w behind_word 4 four

  from_y : drop 24 whole ≡ behind_x
  from_y = sym (drop-drop 11 13 whole) ∙ ap (drop 11) from_x ∙ drop_at x behind_x 11 eleven_x

  from_z : drop 35 whole ≡ behind_y
  from_z = sym (drop-drop 11 24 whole) ∙ ap (drop 11) from_y ∙ drop_at y behind_y 11 eleven_y

  length-whole : length whole ≡ 47
  length-whole = omega (
    arith,
    length-append s (codes " " ++ (w ++ behind_word)),
    length-append w behind_word,
    length-append x behind_x,
    length-append y behind_y,
    length-append z (codes "\n"),
  )

  first_place : take 8 whole ≡ s
  first_place = take_at s (codes " " ++ (w ++ behind_word)) 8 eight

  word_place : take 4 (drop 9 whole) ≡ w
  word_place = ap (take 4) from_word ∙ take_at w behind_word 4 four

  x_place : take 11 (drop 13 whole) ≡ x
  x_place = ap (take 11) from_x ∙ take_at x behind_x 11 eleven_x

  y_place : take 11 (drop 24 whole) ≡ y
  y_place = ap (take 11) from_y ∙ take_at y behind_y 11 eleven_y

  z_place : take 11 (drop 35 whole) ≡ z
  z_place = ap (take 11) from_z ∙ take_at z (codes "\n") 11 eleven_z

-- ---- a line

pub record Fits (r : Row) : Type 0 where
  pub seq : r.seq < 10 ^ 8
  pub word : length r.word ≡ 4
  pub to : IsPosition r.to

abbrev row_line : Units → Row → List ℕ
row_line units r = point_line (decimals_in units) r.seq r.word r.to

module _ (units : Units) (r : Row) (fits : Fits r) where
  abbrev number : List ℕ
  number = right_in 8 (decimal r.seq)

  abbrev x : List ℕ
  x = coordinate (decimals_in units) r.to.xy.x

  abbrev y : List ℕ
  y = coordinate (decimals_in units) r.to.xy.y

  abbrev z : List ℕ
  z = coordinate (decimals_in units) r.to.z

  eight : length number ≡ 8
  eight = length-number r.seq fits.seq

  eleven_x : length x ≡ 11
  eleven_x = length-coordinate units r.to.xy.x fits.to.xy.x

  eleven_y : length y ≡ 11
  eleven_y = length-coordinate units r.to.xy.y fits.to.xy.y

  eleven_z : length z ≡ 11
  eleven_z = length-coordinate units r.to.z fits.to.z

  pub length-row_line : length (row_line units r) ≡ 47
  length-row_line = length-whole number r.word x y z eight fits.word eleven_x eleven_y eleven_z

  pub row_again : row_of units (row_line units r) ≡ r
  row_again =
      rw (
        first_place number r.word x y z eight fits.word eleven_x eleven_y eleven_z,
        word_place number r.word x y z eight fits.word eleven_x eleven_y eleven_z,
        x_place number r.word x y z eight fits.word eleven_x eleven_y eleven_z,
        y_place number r.word x y z eight fits.word eleven_x eleven_y eleven_z,
        z_place number r.word x y z eight fits.word eleven_x eleven_y eleven_z,
        count_again 8 r.seq (omega (arith, fits.seq)),
        length_again units r.to.xy.x (omega (arith, fits.to.xy.x)),
        length_again units r.to.xy.y (omega (arith, fits.to.xy.y)),
        length_again units r.to.z (omega (arith, fits.to.z)),
      ) refl

-- ---- lines

abbrev FitAll : List Row → Type 0
FitAll [] = Unit {0}
FitAll (r ∷ rs) = Fits r × FitAll rs

rows_again : (units : Units) (points : List Row) (last : List ℕ) → FitAll points → rows_in units (length points) (flat_map (row_line units) points ++ last) ≡ points
rows_again units [] last fits = refl
rows_again units (r ∷ rs) last fits =
    let line = row_line units r in
    let more = flat_map (row_line units) rs ++ last in
    let long = length-row_line units r fits.0 in
    rw (append_assoc line (flat_map (row_line units) rs) last, take_at line more 47 long, drop_at line more 47 long, row_again units r fits.0)
    (ap (λ rest. r ∷ rest) (rows_again units rs last fits.1))

last_again : (units : Units) (points : List Row) (last : List ℕ) → FitAll points → drop (47 * length points) (flat_map (row_line units) points ++ last) ≡ last
last_again units [] last fits = refl
last_again units (r ∷ rs) last fits =
    let line = row_line units r in
    let more = flat_map (row_line units) rs ++ last in
    let n = length rs in
    let e : 47 * suc n ≡ 47 + 47 * n = omega arith in
    rw (append_assoc line (flat_map (row_line units) rs) last, e, ← drop-drop (47 * n) 47 (line ++ more), drop_at line more 47 (length-row_line units r fits.0))
    (last_again units rs last fits.1)

-- ---- the lines of records

lines_of_record : (units : Units) (seq : ℕ) (r : Record) → record_lines (decimals_in units) seq r ≡ flat_map (row_line units) (record_rows seq r)
lines_of_record units seq (records.Statement line step) = refl
lines_of_record units seq (records.Note note) = refl
lines_of_record units seq (records.Drive surface side sense) = refl
lines_of_record units seq (records.Check surface how) = refl
lines_of_record units seq (records.Point reach to) = sym (append-nil (point_line (decimals_in units) seq (word_of reach) to))
lines_of_record units seq (records.Contour vertices) = sym (flat_map-map (row_line units) (row seq (codes "CONT")) vertices)

lines_of_records : (units : Units) (seq : ℕ) (rs : List Record) → lines_from (decimals_in units) seq rs ≡ flat_map (row_line units) (rows_from seq rs)
lines_of_records units seq [] = refl
lines_of_records units seq (r ∷ rs) =
    rw (lines_of_record units seq r, lines_of_records units (seq + 1) rs) (sym (flat_map-append (row_line units) (record_rows seq r) (rows_from (seq + 1) rs)))

count_of_record : (seq : ℕ) (r : Record) → record_count r ≡ length (record_rows seq r)
count_of_record seq (records.Statement line step) = refl
count_of_record seq (records.Note note) = refl
count_of_record seq (records.Drive surface side sense) = refl
count_of_record seq (records.Check surface how) = refl
count_of_record seq (records.Point reach to) = refl
count_of_record seq (records.Contour vertices) = sym (length-map vertices (row seq (codes "CONT")))

count_of_records : (seq : ℕ) (rs : List Record) → point_count rs ≡ length (rows_from seq rs)
count_of_records seq [] = refl
count_of_records seq (r ∷ rs) =
    omega (arith, count_of_record seq r, count_of_records (seq + 1) rs, length-append (record_rows seq r) (rows_from (seq + 1) rs))

four_letters : (reach : Reach) → length (word_of reach) ≡ 4
four_letters reaches.From = refl
four_letters reaches.Goto = refl
four_letters reaches.Godlta = refl
four_letters reaches.Start = refl

fit_vertices : (seq : ℕ) (vertices : List Position) → seq < 10 ^ 8 → ArePositions vertices → FitAll (map (row seq (codes "CONT")) vertices)
fit_vertices seq [] small are = tt
fit_vertices seq (to ∷ more) small are = (record { seq = small; word = refl; to = are.0 }, fit_vertices seq more small are.1)

fit_record : (seq : ℕ) (r : Record) → seq < 10 ^ 8 → IsRecord r → FitAll (record_rows seq r)
fit_record seq (records.Statement line step) small is = tt
fit_record seq (records.Note note) small is = tt
fit_record seq (records.Drive surface side sense) small is = tt
fit_record seq (records.Check surface how) small is = tt
fit_record seq (records.Point reach to) small is = (record { seq = small; word = four_letters reach; to = is }, tt)
fit_record seq (records.Contour vertices) small is = fit_vertices seq vertices small is.1

fit_both : (a b : List Row) → FitAll a → FitAll b → FitAll (a ++ b)
fit_both [] b p q = q
fit_both (r ∷ a) b p q = (p.0, fit_both a b p.1 q)

fit_records : (seq : ℕ) (rs : List Record) → seq + length rs ≤ 10 ^ 8 → AreRecords rs → FitAll (rows_from seq rs)
fit_records seq [] few are = tt
fit_records seq (r ∷ rs) few are =
    fit_both (record_rows seq r) (rows_from (seq + 1) rs) (fit_record seq r (omega arith) are.0) (fit_records (seq + 1) rs (omega arith) are.1)

-- the listing of a CL file, read by its places, tells the points of its records, in order
pub points_told : (rs : List Record) → AreRecords rs → length rs < 10 ^ 8 → GivesBack (units_of rs) (rows_from 1 rs) (listing rs)
points_told rs are few =
    let units = units_of rs in
    let points = rows_from 1 rs in
    let fits = fit_records 1 rs (omega arith) are in
    let last = end_line (length points) in
    let same : listing rs ≡ flat_map (row_line units) points ++ last =
    rw (lines_of_records units 1 rs, count_of_records 1 rs) refl in
    record {
      rows = ap (rows_in units (length points)) same ∙ rows_again units points last fits;
      last = ap (drop (47 * length points)) same ∙ last_again units points last fits;
    }

-- The record that a class, a subtype and the words behind them say, or what keeps them from being one.
use Rattle.apt_words.specs.declared.Command.TheVariants as commands
use Rattle.std.specs.Prelude.{ℕ, suc, ◌+◌, ℤ, pos, nat_le, ◌==◌, Bool, ◌&&◌, ◌%◌, length, List, [], ◌∷◌, Result, Ok, Err, if◌then◌else◌}
use Rattle.std.specs.Ordering.{int_eq}
use Rattle.apt_plane.specs.declared.figures.Surface.{Surface}
use Rattle.apt_plane.specs.declared.figures.Surface.TheVariants as surfaces
use Rattle.apt_cldata.specs.declared.fields.Misfit.{Misfit}
use Rattle.apt_cldata.specs.declared.fields.Misfit.TheVariants as misfits
use Rattle.apt_records.specs.declared.record.Position.{Position}
use Rattle.apt_records.specs.declared.record.Reach.{Reach}
use Rattle.apt_records.specs.declared.record.Reach.TheVariants as reaches
use Rattle.apt_records.specs.declared.record.Note.{Note}
use Rattle.apt_records.specs.declared.record.Note.TheVariants as notes
use Rattle.apt_records.specs.declared.record.Record.{Record}
use Rattle.apt_records.specs.declared.record.Record.TheVariants as records
use Rattle.apt_records.specs.Ranges.{greatest}
use Rattle.apt_cldata.specs.Fields.{◌>>=◌, from_to, count_at, coordinate, point_at, dir_at, circle_at, zero_at, side_at, sense_at, stop_at, cool_at, units_at, turn_at, text_byte}

-- ---- class 1000

abbrev pub statement_by : List ℤ → Result Record Misfit
statement_by (line ∷ step ∷ []) = count_at 0 line >>= λ line. count_at 1 step >>= λ step. Ok (records.Statement line step)
statement_by ws = Err misfits.Count

-- ---- class 2000 and class 6000

-- a text, from the index of its first word
abbrev pub text_by : ℕ → List ℤ → Result (List ℕ) Misfit
text_by i [] = Ok []
text_by i (n ∷ ws) = text_byte i n >>= λ b. text_by (suc i) ws >>= λ text. Ok (b ∷ text)

abbrev pub partno_by : List ℤ → Result Record Misfit
partno_by ws = text_by 0 ws >>= λ text. Ok (records.Note (notes.Partno text))

-- a note of no words
abbrev pub note_alone : Note → List ℤ → Result Record Misfit
note_alone note [] = Ok (records.Note note)
note_alone note (w ∷ ws) = Err misfits.Count

-- the number of a note of one word
abbrev pub number_alone : ℤ → ℤ → List ℤ → Result ℤ Misfit
number_alone least most (n ∷ []) = from_to least most 0 n
number_alone least most ws = Err misfits.Count

abbrev pub fedrat_by : List ℤ → Result Record Misfit
fedrat_by ws = number_alone (pos 1) greatest ws >>= λ f. Ok (records.Note (notes.Feed f))

abbrev pub loadtl_by : List ℤ → Result Record Misfit
loadtl_by ws = number_alone (pos 1) greatest ws >>= λ n. Ok (records.Note (notes.Do (commands.Tool n)))

abbrev pub cutter_by : List ℤ → Result Record Misfit
cutter_by ws = number_alone (pos 0) (pos 1000000) ws >>= λ d. Ok (records.Note (notes.Cutter d))

abbrev pub intol_by : List ℤ → Result Record Misfit
intol_by ws = number_alone (pos 0) (pos 10000) ws >>= λ t. Ok (records.Note (notes.Intol t))

abbrev pub outtol_by : List ℤ → Result Record Misfit
outtol_by ws = number_alone (pos 0) (pos 10000) ws >>= λ t. Ok (records.Note (notes.Outtol t))

abbrev pub spindl_at : ℤ → ℤ → Result Record Misfit
spindl_at n turn = from_to (pos 0) greatest 0 n >>= λ n. turn_at 1 n turn >>= λ turn. Ok (records.Note (notes.Do (commands.Spindle turn n)))

abbrev pub spindl_by : List ℤ → Result Record Misfit
spindl_by (n ∷ turn ∷ []) = spindl_at n turn
spindl_by ws = Err misfits.Count

abbrev pub coolnt_by : List ℤ → Result Record Misfit
coolnt_by (c ∷ []) = cool_at 0 c >>= λ c. Ok (records.Note (notes.Do (commands.Coolant c)))
coolnt_by ws = Err misfits.Count

abbrev pub units_by : List ℤ → Result Record Misfit
units_by (u ∷ []) = units_at 0 u >>= λ u. Ok (records.Note (notes.Units u))
units_by ws = Err misfits.Count

abbrev pub command_by : ℤ → List ℤ → Result Record Misfit
command_by sub ws =
    if int_eq sub (pos 1) then partno_by ws
    else if int_eq sub (pos 2) then note_alone notes.Rapid ws
    else if int_eq sub (pos 3) then note_alone (notes.Do commands.Stop) ws
    else if int_eq sub (pos 4) then note_alone (notes.Do commands.OptStop) ws
    else if int_eq sub (pos 5) then note_alone notes.End ws
    else if int_eq sub (pos 6) then fedrat_by ws
    else if int_eq sub (pos 7) then spindl_by ws
    else if int_eq sub (pos 8) then coolnt_by ws
    else if int_eq sub (pos 9) then loadtl_by ws
    else Err misfits.Subtype

abbrev pub setting_by : ℤ → List ℤ → Result Record Misfit
setting_by sub ws =
    if int_eq sub (pos 1) then cutter_by ws
    else if int_eq sub (pos 2) then intol_by ws
    else if int_eq sub (pos 3) then outtol_by ws
    else if int_eq sub (pos 4) then units_by ws
    else Err misfits.Subtype

-- ---- class 3000

-- the line through a point in a direction
abbrev pub line_by : ℤ → ℤ → ℤ → ℤ → Result Surface Misfit
line_by x y dx dy = point_at 1 x y >>= λ base. dir_at 3 dx dy >>= λ dir. Ok (surfaces.Line (record { base = base; dir = dir }))

-- the circle about a point
abbrev pub circle_by : ℤ → ℤ → ℤ → ℤ → Result Surface Misfit
circle_by x y r zero = point_at 1 x y >>= λ c. circle_at 3 c r >>= λ c. zero_at 4 zero >>= λ _. Ok (surfaces.Circ c)

unfoldable pub surface_by : ℤ → ℤ → ℤ → ℤ → ℤ → Result Surface Misfit
surface_by kind a b c d =
    if int_eq kind (pos 1) then line_by a b c d
    else if int_eq kind (pos 2) then circle_by a b c d
    else Err (misfits.Word 0)

-- the words behind a surface
abbrev pub drive_on : Surface → ℤ → ℤ → Result Record Misfit
drive_on s side sense = side_at 5 side >>= λ side. sense_at 6 sense >>= λ sense. Ok (records.Drive s side sense)

unfoldable pub drive_at : ℤ → ℤ → ℤ → ℤ → ℤ → ℤ → ℤ → Result Record Misfit
drive_at kind a b c d side sense = surface_by kind a b c d >>= λ s. drive_on s side sense

abbrev pub drive_by : List ℤ → Result Record Misfit
drive_by (kind ∷ a ∷ b ∷ c ∷ d ∷ side ∷ sense ∷ []) = drive_at kind a b c d side sense
drive_by ws = Err misfits.Count

unfoldable pub check_at : ℤ → ℤ → ℤ → ℤ → ℤ → ℤ → Result Record Misfit
check_at kind a b c d how = surface_by kind a b c d >>= λ s. stop_at 5 how >>= λ how. Ok (records.Check s how)

abbrev pub check_by : List ℤ → Result Record Misfit
check_by (kind ∷ a ∷ b ∷ c ∷ d ∷ how ∷ []) = check_at kind a b c d how
check_by ws = Err misfits.Count

abbrev pub surface_record_by : ℤ → List ℤ → Result Record Misfit
surface_record_by sub ws =
    if int_eq sub (pos 1) then drive_by ws
    else if int_eq sub (pos 2) then check_by ws
    else Err misfits.Subtype

-- ---- class 5000

-- the position whose first word has an index
abbrev pub position_by : ℕ → ℤ → ℤ → ℤ → Result Position Misfit
position_by i x y z = point_at i x y >>= λ xy. coordinate (i + 2) z >>= λ z. Ok (record { xy = xy; z = z })

abbrev pub reached_by : Reach → List ℤ → Result Record Misfit
reached_by reach (x ∷ y ∷ z ∷ []) = position_by 0 x y z >>= λ to. Ok (records.Point reach to)
reached_by reach ws = Err misfits.Count

-- positions of three words each, from the index of the first
abbrev pub positions_by : ℕ → List ℤ → Result (List Position) Misfit
positions_by i [] = Ok []
positions_by i (x ∷ []) = Err misfits.Count
positions_by i (x ∷ y ∷ []) = Err misfits.Count
positions_by i (x ∷ y ∷ z ∷ ws) = position_by i x y z >>= λ p. positions_by (i + 3) ws >>= λ ps. Ok (p ∷ ps)

-- a positive multiple of three words
abbrev pub is_triples : List ℤ → Bool
is_triples ws = nat_le 1 (length ws) && length ws % 3 == 0

abbrev pub contour_by : List ℤ → Result Record Misfit
contour_by ws = if is_triples ws then (positions_by 0 ws >>= λ ps. Ok (records.Contour ps)) else Err misfits.Count

abbrev pub motion_by : ℤ → List ℤ → Result Record Misfit
motion_by sub ws =
    if int_eq sub (pos 1) then reached_by reaches.From ws
    else if int_eq sub (pos 2) then reached_by reaches.Goto ws
    else if int_eq sub (pos 3) then reached_by reaches.Godlta ws
    else if int_eq sub (pos 4) then reached_by reaches.Start ws
    else if int_eq sub (pos 5) then contour_by ws
    else Err misfits.Subtype

-- ---- all classes

-- the class of these words, whose only subtype is 0
abbrev pub only_zero : ℤ → Result Record Misfit → Result Record Misfit
only_zero sub r = if int_eq sub (pos 0) then r else Err misfits.Subtype

unfoldable pub record_of : ℤ → ℤ → List ℤ → Result Record Misfit
record_of class sub ws =
    if int_eq class (pos 1000) then only_zero sub (statement_by ws)
    else if int_eq class (pos 2000) then command_by sub ws
    else if int_eq class (pos 3000) then surface_record_by sub ws
    else if int_eq class (pos 5000) then motion_by sub ws
    else if int_eq class (pos 6000) then setting_by sub ws
    else if int_eq class (pos 14000) then only_zero sub (note_alone notes.Fini ws)
    else Err misfits.Class

-- What the single words of a record say, and what keeps them from saying it.
use Rattle.std.specs.Prelude.{ℕ, ◌+◌, ℤ, pos, negsuc, int_le, unsigned_abs, nat_le, Bool, not, ◌&&◌, ◌||◌, Result, Ok, Err, if◌then◌else◌}
use Rattle.std.specs.Ordering.{int_eq}
use Rattle.apt_words.specs.declared.Units.{Units}
use Rattle.apt_words.specs.declared.Units.TheVariants as units
use Rattle.apt_words.specs.declared.Turn.{Turn}
use Rattle.apt_words.specs.declared.Turn.TheVariants as turns
use Rattle.apt_words.specs.declared.Cool.{Cool}
use Rattle.apt_words.specs.declared.Cool.TheVariants as cools
use Rattle.apt_words.specs.declared.Side.{Side}
use Rattle.apt_words.specs.declared.Side.TheVariants as sides
use Rattle.apt_words.specs.declared.Stop.{Stop}
use Rattle.apt_words.specs.declared.Stop.TheVariants as stops
use Rattle.apt_plane.specs.declared.figures.Pt.{Pt}
use Rattle.apt_plane.specs.declared.figures.Dir.{Dir}
use Rattle.apt_plane.specs.declared.figures.Circ.{Circ}
use Rattle.apt_cldata.specs.declared.fields.Misfit.{Misfit}
use Rattle.apt_cldata.specs.declared.fields.Misfit.TheVariants as misfits
use Rattle.apt_records.specs.Ranges.{greatest}

infixl 10 ◌>>=◌
abbrev pub ◌>>=◌ : {A B E : Type 0} → Result A E → (A → Result B E) → Result B E
(Ok x) >>= f = f x
(Err e) >>= f = Err e

-- a word by its index behind the subtype, if a test of it is passed
abbrev pub at_if : {A : Type 0} → Bool → ℕ → A → Result A Misfit
at_if test i x = if test then Ok x else Err (misfits.Word i)

abbrev pub is_from_to : ℤ → ℤ → ℤ → Bool
is_from_to least most n = int_le least n && int_le n most

abbrev pub is_sized : ℕ → ℤ → Bool
is_sized most n = nat_le (unsigned_abs n) most

-- a number from one to another
abbrev pub from_to : ℤ → ℤ → ℕ → ℤ → Result ℤ Misfit
from_to least most i n = at_if (is_from_to least most n) i n

-- the number of a line or a step
abbrev pub count_at : ℕ → ℤ → Result ℕ Misfit
count_at i n = from_to (pos 1) greatest i n >>= λ n. Ok (unsigned_abs n)

-- a coordinate
abbrev pub coordinate : ℕ → ℤ → Result ℤ Misfit
coordinate i n = at_if (is_sized 50000000 n) i n

-- the point whose first word has an index
abbrev pub point_at : ℕ → ℤ → ℤ → Result Pt Misfit
point_at i x y = coordinate i x >>= λ x. coordinate (i + 1) y >>= λ y. Ok (record { x = x; y = y })

-- a part of a direction
abbrev pub direction_part : ℕ → ℤ → Result ℤ Misfit
direction_part i n = at_if (is_sized 100000000 n) i n

abbrev pub is_nowhere : ℤ → ℤ → Bool
is_nowhere dx dy = int_eq dx (pos 0) && int_eq dy (pos 0)

-- a direction; where its parts are both 0, its second word is the bad one
abbrev pub dir_at : ℕ → ℤ → ℤ → Result Dir Misfit
dir_at i dx dy =
    direction_part i dx >>= λ dx. direction_part (i + 1) dy >>= λ dy. at_if (not (is_nowhere dx dy)) (i + 1) (record { dx = dx; dy = dy })

-- a radius keeps its circle within the limit of circles, by one coordinate of the centre
abbrev pub is_within_edge : ℤ → ℤ → Bool
is_within_edge c r = nat_le (unsigned_abs c + unsigned_abs r) 49000000

-- a radius, about its centre
abbrev pub is_radius : Pt → ℤ → Bool
is_radius c r = int_le (pos 100) r && is_within_edge c.x r && is_within_edge c.y r

abbrev pub circle_at : ℕ → Pt → ℤ → Result Circ Misfit
circle_at i c r = at_if (is_radius c r) i (record { c = c; r = r })

abbrev pub zero_at : ℕ → ℤ → Result ℤ Misfit
zero_at i n = at_if (int_eq n (pos 0)) i n

-- a byte of a text: a character from space to tilde, or a tab
abbrev pub is_text : ℤ → Bool
is_text n = is_from_to (pos 32) (pos 126) n || int_eq n (pos 9)

abbrev pub text_byte : ℕ → ℤ → Result ℕ Misfit
text_byte i n = at_if (is_text n) i (unsigned_abs n)

-- ---- words by number

abbrev pub side_at : ℕ → ℤ → Result Side Misfit
side_at i n =
    if int_eq n (pos 1) then Ok sides.Left
    else if int_eq n (pos 2) then Ok sides.Right
    else if int_eq n (pos 3) then Ok sides.On
    else Err (misfits.Word i)

abbrev pub sense_at : ℕ → ℤ → Result ℤ Misfit
sense_at i n =
    if int_eq n (pos 1) then Ok (pos 1)
    else if int_eq n (negsuc 0) then Ok (negsuc 0)
    else Err (misfits.Word i)

abbrev pub stop_at : ℕ → ℤ → Result Stop Misfit
stop_at i n =
    if int_eq n (pos 1) then Ok stops.To
    else if int_eq n (pos 2) then Ok stops.On
    else if int_eq n (pos 3) then Ok stops.Past
    else if int_eq n (pos 4) then Ok stops.Tanto
    else Err (misfits.Word i)

abbrev pub cool_at : ℕ → ℤ → Result Cool Misfit
cool_at i n =
    if int_eq n (pos 0) then Ok cools.Off
    else if int_eq n (pos 1) then Ok cools.Mist
    else if int_eq n (pos 2) then Ok cools.Flood
    else Err (misfits.Word i)

abbrev pub units_at : ℕ → ℤ → Result Units Misfit
units_at i n =
    if int_eq n (pos 1) then Ok units.Inch
    else if int_eq n (pos 2) then Ok units.Mm
    else Err (misfits.Word i)

-- the turn that goes with a number: 0 with 0 alone, a greater one with 1 or 2
abbrev pub turn_at : ℕ → ℤ → ℤ → Result Turn Misfit
turn_at i speed n =
    if int_eq speed (pos 0) then (if int_eq n (pos 0) then Ok turns.Off else Err (misfits.Word i))
    else if int_eq n (pos 1) then Ok turns.Cw
    else if int_eq n (pos 2) then Ok turns.Ccw
    else Err (misfits.Word i)

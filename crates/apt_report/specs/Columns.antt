-- How a listing is read: a point of each line, by the places of its characters.
use Rattle.std.specs.Prelude.{◌≡◌, ℕ, zero, suc, ◌+◌, ◌-◌, ◌*◌, ◌/◌, ◌^◌, ℤ, pos, neg_ℤ, nat_le, ◌==◌, ◌&&◌, ◌||◌, Bool, true, false, List, [], ◌∷◌, ◌++◌, map, length, take, drop, codes, if◌then◌else◌}
use Rattle.apt_words.specs.declared.Units.{Units}
use Rattle.apt_words.specs.declared.Units.TheVariants as units
use Rattle.apt_records.specs.declared.record.Position.{Position}
use Rattle.apt_records.specs.declared.record.Record.{Record}
use Rattle.apt_records.specs.declared.record.Record.TheVariants as records
use Rattle.apt_report.specs.Listing.{word_of, end_line}

-- a point: the number of its record, the word for how it is reached, and where it is
pub record Row : Type 0 where
  pub seq : ℕ
  pub word : List ℕ
  pub to : Position

abbrev pub row : ℕ → List ℕ → Position → Row
row seq word to = record { seq = seq; word = word; to = to }

-- ---- the points of records, which are numbered by one from a number on

abbrev pub record_rows : ℕ → Record → List Row
record_rows seq (records.Point reach to) = row seq (word_of reach) to ∷ []
record_rows seq (records.Contour vertices) = map (row seq (codes "CONT")) vertices
record_rows seq _ = []

abbrev pub rows_from : ℕ → List Record → List Row
rows_from seq [] = []
rows_from seq (r ∷ rs) = record_rows seq r ++ rows_from (seq + 1) rs

-- ---- a number in its places

abbrev pub is_digit : ℕ → Bool
is_digit c = nat_le 48 c && nat_le c 57

-- a number with the digits of a text behind it, whose other characters are passed over
abbrev pub number_behind : ℕ → List ℕ → ℕ
number_behind n [] = n
number_behind n (c ∷ text) = number_behind (if is_digit c then 10 * n + (c - 48) else n) text

abbrev pub has_minus : List ℕ → Bool
has_minus [] = false
has_minus (c ∷ text) = c == 45 || has_minus text

-- how many characters stand behind the point
abbrev pub decimals_of : List ℕ → ℕ
decimals_of [] = 0
decimals_of (c ∷ text) = if c == 46 then length text else decimals_of text

-- the grid units of an inch, and of a millimetre
abbrev pub grid_units : Units → ℕ
grid_units units.Inch = 100000
grid_units units.Mm = 10000

abbrev pub signed : Bool → ℕ → ℤ
signed false n = pos n
signed true n = neg_ℤ (pos n)

-- the grid units of a length
abbrev pub length_in : Units → List ℕ → ℤ
length_in units text = signed (has_minus text) (number_behind 0 text * grid_units units / 10 ^ decimals_of text)

-- ---- lines

-- eight places of a number, a blank, four of a word, and three times eleven of a length
abbrev pub row_of : Units → List ℕ → Row
row_of units line =
    row (number_behind 0 (take 8 line)) (take 4 (drop 9 line)) (record {
      xy = record { x = length_in units (take 11 (drop 13 line)); y = length_in units (take 11 (drop 24 line)) };
      z = length_in units (take 11 (drop 35 line));
    })

-- so many lines, each with its line feed
abbrev pub rows_in : Units → ℕ → List ℕ → List Row
rows_in units zero text = []
rows_in units (suc n) text = row_of units (take 47 text) ∷ rows_in units n (drop 47 text)

-- a text tells points, each in a line of its own, and then how many they are
pub record GivesBack (units : Units) (points : List Row) (text : List ℕ) : Type 0 where
  pub rows : rows_in units (length points) text ≡ points
  pub last : drop (47 * length points) text ≡ end_line (length points)

-- The listing of a CL file: a line for each point of its records, and how many there are.
use Rattle.std.specs.Prelude.{ℕ, ◌+◌, ℤ, List, [], ◌∷◌, ◌++◌, length, codes}
use Rattle.std.specs.List.{flat_map}
use Rattle.std.specs.Fmt.{decimal}
use Rattle.apt_words.specs.declared.Units.{Units}
use Rattle.apt_words.specs.declared.Units.TheVariants as units
use Rattle.apt_records.specs.declared.record.Position.{Position}
use Rattle.apt_records.specs.declared.record.Reach.{Reach}
use Rattle.apt_records.specs.declared.record.Reach.TheVariants as reaches
use Rattle.apt_records.specs.declared.record.Record.{Record}
use Rattle.apt_records.specs.declared.record.Record.TheVariants as records
use Rattle.apt_post.specs.Plan.{units_of}
use Rattle.apt_lines.specs.Decimals.{signed_pointed, right_in}

-- a grid unit is 0.00001 inch or 0.0001 mm
abbrev pub decimals_in : Units → ℕ
decimals_in units.Inch = 5
decimals_in units.Mm = 4

-- the word for how a point is reached
abbrev pub word_of : Reach → List ℕ
word_of reaches.From = codes "FROM"
word_of reaches.Goto = codes "GOTO"
word_of reaches.Godlta = codes "DELT"
word_of reaches.Start = codes "STRT"

abbrev pub coordinate : ℕ → ℤ → List ℕ
coordinate decimals v = right_in 11 (signed_pointed decimals v)

-- the line of a point: the number of its record, a word, and where it is
abbrev pub point_line : ℕ → ℕ → List ℕ → Position → List ℕ
point_line decimals seq word to =
    right_in 8 (decimal seq)
    ++ (codes " " ++ (word ++ (coordinate decimals to.xy.x ++ (coordinate decimals to.xy.y ++ (coordinate decimals to.z ++ codes "\n")))))

-- the lines of a record, by its number
abbrev pub record_lines : ℕ → ℕ → Record → List ℕ
record_lines decimals seq (records.Point reach to) = point_line decimals seq (word_of reach) to
record_lines decimals seq (records.Contour vertices) = flat_map (point_line decimals seq (codes "CONT")) vertices
record_lines decimals seq _ = []

-- records are numbered by one from a number on
abbrev pub lines_from : ℕ → ℕ → List Record → List ℕ
lines_from decimals seq [] = []
lines_from decimals seq (r ∷ rs) = record_lines decimals seq r ++ lines_from decimals (seq + 1) rs

abbrev pub record_count : Record → ℕ
record_count (records.Point reach to) = 1
record_count (records.Contour vertices) = length vertices
record_count _ = 0

-- how many points records have
abbrev pub point_count : List Record → ℕ
point_count [] = 0
point_count (r ∷ rs) = record_count r + point_count rs

abbrev pub end_line : ℕ → List ℕ
end_line points = codes "END " ++ (decimal points ++ codes " POINTS\n")

-- the units are those of the first UNITS record, wherever it stands, else inches
abbrev pub listing : List Record → List ℕ
listing rs = lines_from (decimals_in (units_of rs)) 1 rs ++ end_line (point_count rs)

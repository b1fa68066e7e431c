-- Words of records at the ends of their ranges, and one past them, which the checker reads: a fault is told at the word, whose first byte has a place behind the record's first.
use Rattle.std.specs.Prelude.{◌≡◌, ◌+◌, ◌*◌, ℕ, ℤ, pos, negsuc, map, List, [], ◌∷◌, Result, Ok, Err}
use Rattle.std.proofs.Common.{refl}
use Rattle.apt_plane.specs.declared.figures.Surface.{Surface}
use Rattle.apt_plane.specs.declared.figures.Surface.TheVariants as surfaces
use Rattle.apt_words.specs.declared.Command.TheVariants as commands
use Rattle.apt_words.specs.declared.Side.TheVariants as sides
use Rattle.apt_words.specs.declared.Stop.TheVariants as stops
use Rattle.apt_words.specs.declared.Turn.TheVariants as turns
use Rattle.apt_words.specs.declared.Units.TheVariants as units
use Rattle.apt_cldata.specs.declared.error.ClCause.TheVariants as causes
use Rattle.apt_cldata.specs.declared.error.ClFault.{ClFault}
use Rattle.apt_records.specs.declared.record.Note.{Note}
use Rattle.apt_records.specs.declared.record.Note.TheVariants as notes
use Rattle.apt_records.specs.declared.record.Record.{Record}
use Rattle.apt_records.specs.declared.record.Record.TheVariants as records
use Rattle.apt_cldata.specs.Records.{record_of, drive_at, check_at, surface_by}
use Rattle.apt_cldata.specs.Reading.{fault, located}

-- what a record says, of a class, a subtype and words
abbrev said : ℤ → ℤ → List ℤ → Result Record ClFault
said class sub words = located 0 (record_of class sub words)

-- a word out of its range, by its index
abbrev misfit : ℕ → Result Record ClFault
misfit i = Err (fault (28 + 8 * i) causes.Range)

-- records of one word
abbrev alone : ℤ → ℤ → List ℤ → List (Result Record ClFault)
alone class sub words = map (λ w. said class sub (w ∷ [])) words

abbrev noted : Note → Result Record ClFault
noted note = Ok (records.Note note)

cutters : alone (pos 6000) (pos 1) (pos 0 ∷ pos 1000000 ∷ pos 1000001 ∷ negsuc 0 ∷ []) ≡ noted (notes.Cutter (pos 0)) ∷ noted (notes.Cutter (pos 1000000)) ∷ misfit 0 ∷ misfit 0 ∷ []
unfolding record_of
cutters = refl

inner_tolerances : alone (pos 6000) (pos 2) (pos 0 ∷ pos 10000 ∷ pos 10001 ∷ negsuc 0 ∷ []) ≡ noted (notes.Intol (pos 0)) ∷ noted (notes.Intol (pos 10000)) ∷ misfit 0 ∷ misfit 0 ∷ []
unfolding record_of
inner_tolerances = refl

outer_tolerances : alone (pos 6000) (pos 3) (pos 0 ∷ pos 10000 ∷ pos 10001 ∷ negsuc 0 ∷ []) ≡ noted (notes.Outtol (pos 0)) ∷ noted (notes.Outtol (pos 10000)) ∷ misfit 0 ∷ misfit 0 ∷ []
unfolding record_of
outer_tolerances = refl

units_by_number : alone (pos 6000) (pos 4) (pos 0 ∷ pos 1 ∷ pos 2 ∷ pos 3 ∷ []) ≡ misfit 0 ∷ noted (notes.Units units.Inch) ∷ noted (notes.Units units.Mm) ∷ misfit 0 ∷ []
unfolding record_of
units_by_number = refl

feeds : alone (pos 2000) (pos 6) (pos 0 ∷ pos 1 ∷ pos 2147483647 ∷ pos 2147483648 ∷ []) ≡ misfit 0 ∷ noted (notes.Feed (pos 1)) ∷ noted (notes.Feed (pos 2147483647)) ∷ misfit 0 ∷ []
unfolding record_of
feeds = refl

tools : alone (pos 2000) (pos 9) (pos 0 ∷ pos 1 ∷ pos 2147483647 ∷ pos 2147483648 ∷ []) ≡ misfit 0 ∷ noted (notes.Do (commands.Tool (pos 1))) ∷ noted (notes.Do (commands.Tool (pos 2147483647))) ∷ misfit 0 ∷ []
unfolding record_of
tools = refl

-- bytes of a text
texts : alone (pos 2000) (pos 1) (pos 9 ∷ pos 31 ∷ pos 32 ∷ pos 126 ∷ pos 127 ∷ [])
    ≡ noted (notes.Partno (9 ∷ [])) ∷ misfit 0 ∷ noted (notes.Partno (32 ∷ [])) ∷ noted (notes.Partno (126 ∷ [])) ∷ misfit 0 ∷ []
unfolding record_of
texts = refl

text_with_a_delete : said (pos 2000) (pos 1) (pos 65 ∷ pos 66 ∷ pos 127 ∷ []) ≡ misfit 2
unfolding record_of
text_with_a_delete = refl

-- a speed with its turn: 0 goes with 0 alone
spindles : map (said (pos 2000) (pos 7)) ((pos 0 ∷ pos 0 ∷ []) ∷ (pos 0 ∷ pos 1 ∷ []) ∷ (pos 1 ∷ pos 0 ∷ []) ∷ (pos 1 ∷ pos 2 ∷ []) ∷ (pos 1 ∷ pos 3 ∷ []) ∷ (pos 2147483648 ∷ pos 1 ∷ []) ∷ [])
    ≡ noted (notes.Do (commands.Spindle turns.Off (pos 0))) ∷ misfit 1 ∷ misfit 1 ∷ noted (notes.Do (commands.Spindle turns.Ccw (pos 1))) ∷ misfit 1 ∷ misfit 0 ∷ []
unfolding record_of
spindles = refl

-- ---- surfaces

abbrev line : ℤ → ℤ → ℤ → ℤ → Surface
line x y dx dy = surfaces.Line (record { base = record { x = x; y = y }; dir = record { dx = dx; dy = dy } })

abbrev on_line : ℤ → ℤ → ℤ → ℤ → Result Record ClFault
on_line x y dx dy = said (pos 3000) (pos 1) (pos 1 ∷ x ∷ y ∷ dx ∷ dy ∷ pos 1 ∷ pos 1 ∷ [])

farthest_line : on_line (pos 50000000) (negsuc 49999999) (pos 100000000) (negsuc 99999999)
    ≡ Ok (records.Drive (line (pos 50000000) (negsuc 49999999) (pos 100000000) (negsuc 99999999)) sides.Left (pos 1))
unfolding record_of drive_at surface_by
farthest_line = refl

lines_past_the_range :
    on_line (pos 50000001) (pos 0) (pos 1) (pos 0) ∷ on_line (pos 0) (negsuc 50000000) (pos 1) (pos 0)
    ∷ on_line (pos 0) (pos 0) (pos 100000001) (pos 0) ∷ on_line (pos 0) (pos 0) (pos 1) (negsuc 100000000) ∷ on_line (pos 0) (pos 0) (pos 0) (pos 0) ∷ []
    ≡ misfit 1 ∷ misfit 2 ∷ misfit 3 ∷ misfit 4 ∷ misfit 4 ∷ []
unfolding record_of drive_at surface_by
lines_past_the_range = refl

abbrev sided : ℤ → ℤ → Result Record ClFault
sided side sense = said (pos 3000) (pos 1) (pos 1 ∷ pos 0 ∷ pos 0 ∷ pos 1 ∷ pos 0 ∷ side ∷ sense ∷ [])

sides_and_senses : sided (pos 0) (pos 1) ∷ sided (pos 3) (negsuc 0) ∷ sided (pos 4) (pos 1) ∷ sided (pos 1) (pos 0) ∷ sided (pos 1) (pos 2) ∷ []
    ≡ misfit 5 ∷ Ok (records.Drive (line (pos 0) (pos 0) (pos 1) (pos 0)) sides.On (negsuc 0)) ∷ misfit 5 ∷ misfit 6 ∷ misfit 6 ∷ []
unfolding record_of drive_at surface_by
sides_and_senses = refl

abbrev stopped : ℤ → Result Record ClFault
stopped how = said (pos 3000) (pos 2) (pos 1 ∷ pos 0 ∷ pos 0 ∷ pos 1 ∷ pos 0 ∷ how ∷ [])

stops_by_number : stopped (pos 0) ∷ stopped (pos 1) ∷ stopped (pos 4) ∷ stopped (pos 5) ∷ []
    ≡ misfit 5 ∷ Ok (records.Check (line (pos 0) (pos 0) (pos 1) (pos 0)) stops.To) ∷ Ok (records.Check (line (pos 0) (pos 0) (pos 1) (pos 0)) stops.Tanto) ∷ misfit 5 ∷ []
unfolding record_of check_at surface_by
stops_by_number = refl

-- a circle keeps within the limit by each coordinate of its centre, has a radius of 100 units or more, and a word 0 behind it
abbrev round : ℤ → ℤ → ℤ → ℤ → Result Record ClFault
round x y r zero = said (pos 3000) (pos 2) (pos 2 ∷ x ∷ y ∷ r ∷ zero ∷ pos 2 ∷ [])

circles_past_the_range :
    round (pos 0) (pos 0) (pos 99) (pos 0) ∷ round (pos 0) (pos 0) (pos 49000001) (pos 0) ∷ round (negsuc 47999999) (pos 0) (pos 1000001) (pos 0) ∷ round (pos 0) (pos 0) (pos 100) (pos 1) ∷ []
    ≡ misfit 3 ∷ misfit 3 ∷ misfit 3 ∷ misfit 4 ∷ []
unfolding record_of check_at surface_by
circles_past_the_range = refl

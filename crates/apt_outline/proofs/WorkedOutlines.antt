-- Small outlines, and the figures behind a few steps, which the checker reads.
use Rattle.std.specs.Prelude.{◌≡◌, ℕ, ℤ, ◌++◌, List, [], ◌∷◌, pos, None, Ok, Err, replicate, codes}
use Rattle.std.proofs.Common.{refl}
use Rattle.apt_words.specs.Vocabulary.{word_of}
use Rattle.apt_words.specs.declared.Units.TheVariants as the_units
use Rattle.apt_words.specs.declared.deed.Deed.{Deed}
use Rattle.apt_words.specs.declared.deed.Deed.TheVariants as deeds
use Rattle.apt_words.specs.declared.deed.Step.{Step}
use Rattle.apt_plane.specs.declared.figures.Pt.{Pt}
use Rattle.apt_plane.specs.declared.figures.Circ.{Circ}
use Rattle.apt_plane.specs.declared.figures.Line.{Line}
use Rattle.apt_plane.specs.declared.figures.Surface.TheVariants as surfaces
use Rattle.apt_defs.specs.declared.figure.Figure.TheVariants as figures
use Rattle.apt_defs.specs.Figures.{Table}
use Rattle.apt_outline.specs.declared.parts.Part.TheVariants as parts
use Rattle.apt_outline.specs.declared.cause.OutlineCause.TheVariants as causes
use Rattle.apt_outline.specs.Holding.{figures_at_end}
use Rattle.apt_outline.specs.Outlines.{outline_of}

abbrev zero_point : Pt
zero_point = record { x = pos 0; y = pos 0 }

abbrev corner : Pt
corner = record { x = pos 500000; y = pos 0 }

abbrev stud : Circ
stud = record { c = corner; r = pos 20000 }

abbrev side : Line
side = record { base = zero_point; dir = record { dx = pos 1; dy = pos 0 } }

-- P1 and P3 differ in z alone
abbrev held : Table
held =
    (codes "P1", figures.Point zero_point (pos 0)) ∷ (codes "P2", figures.Point corner (pos 0)) ∷ (codes "P3", figures.Point zero_point (pos 7)) ∷ (codes "C9", figures.Shape (surfaces.Circ stud))
    ∷ (codes "L1", figures.Shape (surfaces.Line side)) ∷ (codes "K", figures.Scalar) ∷ []

-- ---- outlines

one_edge : outline_of held (codes "OUTLINE 1\nEDGE P1 P2\n") ≡ Ok (parts.Edge zero_point corner ∷ [])
unfolding word_of
one_edge = refl

-- lines may end in a carriage return, be empty, and the last without its end
three_parts : outline_of held (codes "OUTLINE 1\r\n\nBOSS C9\n\nBORE C9\nEDGE P2 P1") ≡ Ok (parts.Boss stud ∷ parts.Bore stud ∷ parts.Edge corner zero_point ∷ [])
unfolding word_of
three_parts = refl

no_text : outline_of held [] ≡ Err (1, causes.Header)
no_text = refl

no_part : outline_of held (codes "OUTLINE 1\n\n") ≡ Err (3, causes.Empty)
no_part = refl

alone : outline_of held (codes "OUTLINE 1") ≡ Err (2, causes.Empty)
alone = refl

blank_behind_header : outline_of held (codes "OUTLINE 1 \nEDGE P1 P2\n") ≡ Err (1, causes.Header)
blank_behind_header = refl

other_number : outline_of held (codes "OUTLINE 2\nEDGE P1 P2\n") ≡ Err (1, causes.Header)
other_number = refl

empty_first : outline_of held (codes "\nOUTLINE 1\n") ≡ Err (1, causes.Header)
empty_first = refl

bad_byte_first : outline_of held (127 ∷ codes "OUTLINE 1\n") ≡ Err (1, causes.Byte)
bad_byte_first = refl

bad_byte : outline_of held (codes "OUTLINE 1\nEDGE P1 P2" ++ 128 ∷ []) ≡ Err (2, causes.Byte)
bad_byte = refl

long_line : outline_of held (codes "OUTLINE 1\n" ++ replicate 257 65) ≡ Err (2, causes.Byte)
long_line = refl

long_word : outline_of held (codes "OUTLINE 1\n" ++ replicate 256 65) ≡ Err (2, causes.Word)
long_word = refl

one_name : outline_of held (codes "OUTLINE 1\nEDGE P1\n") ≡ Err (2, causes.Word)
one_name = refl

three_names : outline_of held (codes "OUTLINE 1\nEDGE P1 P2 P3\n") ≡ Err (2, causes.Word)
unfolding word_of
three_names = refl

two_circles : outline_of held (codes "OUTLINE 1\nBOSS C9 C9\n") ≡ Err (2, causes.Word)
two_circles = refl

two_blanks : outline_of held (codes "OUTLINE 1\nEDGE  P1 P2\n") ≡ Err (2, causes.Word)
two_blanks = refl

tab_for_blank : outline_of held (codes "OUTLINE 1\nBOSS" ++ 9 ∷ codes "C9\n") ≡ Err (2, causes.Word)
tab_for_blank = refl

blank_line : outline_of held (codes "OUTLINE 1\n \nBOSS C9\n") ≡ Err (2, causes.Word)
blank_line = refl

small_letters : outline_of held (codes "OUTLINE 1\nedge p1 p2\n") ≡ Err (2, causes.Word)
small_letters = refl

small_name : outline_of held (codes "OUTLINE 1\nBOSS c9\n") ≡ Err (2, causes.Word)
small_name = refl

vocabulary_word : outline_of held (codes "OUTLINE 1\nBOSS CIRCLE\n") ≡ Err (2, causes.Word)
unfolding word_of
vocabulary_word = refl

-- both names must stand for something before either must for a point
undefined_first : outline_of held (codes "OUTLINE 1\nEDGE L1 QQ\n") ≡ Err (2, causes.Undefined)
unfolding word_of
undefined_first = refl

line_for_point : outline_of held (codes "OUTLINE 1\nEDGE P1 L1\n") ≡ Err (2, causes.WrongKind)
unfolding word_of
line_for_point = refl

point_for_circle : outline_of held (codes "OUTLINE 1\nBORE P1\n") ≡ Err (2, causes.WrongKind)
unfolding word_of
point_for_circle = refl

number_for_circle : outline_of held (codes "OUTLINE 1\nBORE K\n") ≡ Err (2, causes.WrongKind)
unfolding word_of
number_for_circle = refl

by_height_alone : outline_of held (codes "OUTLINE 1\nEDGE P1 P2\nEDGE P1 P3\n") ≡ Err (3, causes.Degenerate)
unfolding word_of
by_height_alone = refl

-- ---- figures

abbrev step : Deed → Step
step deed = record { line = 1; step = 1; deed = deed }

abbrev point_at : List ℕ → ℤ → Deed
point_at name x = deeds.PointXy name x (pos 0) None

-- a name stands for its last figure, in the units of its definition
figures_last : figures_at_end (
    step (point_at (codes "P1") (pos 5000000)) ∷ step (point_at (codes "P2") (pos 5000000)) ∷ step (deeds.Units the_units.Mm) ∷ step (point_at (codes "P1") (pos 5000000)) ∷ step deeds.Fini ∷ [])
    ≡ (codes "P1", figures.Point (record { x = pos 50000; y = pos 0 }) (pos 0)) ∷ (codes "P2", figures.Point corner (pos 0)) ∷ []
figures_last = refl

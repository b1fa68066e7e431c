-- A few listed points and lines of arcs, which the checker works out.
use Rattle.std.specs.Prelude.{◌≡◌, ℤ, pos, negsuc, [], ◌∷◌, codes}
use Rattle.std.specs.Fmt.{digits}
use Rattle.std.proofs.Common.{refl}
use Rattle.apt_words.specs.declared.Units.TheVariants.{Inch, Mm}
use Rattle.apt_records.specs.declared.record.Position.{Position}
use Rattle.apt_records.specs.declared.record.Reach.TheVariants as reaches
use Rattle.apt_records.specs.declared.record.Note.TheVariants as notes
use Rattle.apt_records.specs.declared.record.Record.TheVariants as records
use Rattle.apt_circular.specs.declared.ArcAct.TheVariants.{Plain, Arc}
use Rattle.apt_control.specs.declared.Act.TheVariants as acts
use Rattle.apt_report.specs.Acts.{arc_lines}
use Rattle.apt_report.specs.Listing.{point_line, listing}
use Rattle.apt_report.specs.Columns.{length_in}

abbrev at : ℤ → ℤ → ℤ → Position
at x y z = record { xy = record { x = x; y = y }; z = z }

a_start : point_line 5 10 (codes "FROM") (at (negsuc 99999) (negsuc 99999) (pos 50000)) ≡ codes "      10 FROM   -1.00000   -1.00000    0.50000\n"
unfolding digits
a_start = refl

-- the first UNITS record is behind a point, and the second does not count
in_millimetres : listing (
    records.Point reaches.Goto (at (pos 0) (negsuc 0) (pos 500000000)) ∷ records.Note (notes.Units Mm) ∷ records.Note (notes.Units Inch)
    ∷ records.Contour (at (pos 10000) (negsuc 12344) (pos 5) ∷ at (pos 123456789) (pos 1) (negsuc 49999999) ∷ []) ∷ []
    ) ≡ codes "       1 GOTO     0.0000    -0.0001 50000.0000\n       4 CONT     1.0000    -1.2345     0.0005\n       4 CONT 12345.6789     0.0001 -5000.0000\nEND 3 POINTS\n"
unfolding digits
in_millimetres = refl

no_records : listing [] ≡ codes "END 0 POINTS\n"
unfolding digits
no_records = refl

a_length : length_in Inch (codes "   -1.50000") ≡ negsuc 149999
a_length = refl

-- half round a circle clockwise, and back anticlockwise
two_arcs : arc_lines (
    Plain (acts.Cut (pos 0) (pos 225000) (pos 5) (pos 100)) ∷ Arc (negsuc 0) (pos 0) (negsuc 224999) (pos 5) (pos 0) (negsuc 0) (pos 100)
    ∷ Arc (pos 1) (pos 0) (pos 225000) (pos 5) (pos 0) (negsuc 0) (pos 100) ∷ Plain acts.End ∷ [])
    ≡ codes "CUT 0 225000 5 FEED 100\nARC CW 0 -225000 5 CENTRE 0 -1 FEED 100\nARC CCW 0 225000 5 CENTRE 0 -1 FEED 100\nEND\n"
unfolding digits
two_arcs = refl

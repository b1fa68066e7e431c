-- A record has at least as many bytes of lines as it has points.
use Rattle.std.proofs.Common.{ℕ, ◌≤◌, List, [], ◌∷◌, ◌++◌, length, arith, length-append}
use Rattle.std.specs.Prelude.{codes}
use Rattle.std.specs.List.{flat_map}
use Rattle.std.specs.Fmt.{decimal}
use Rattle.apt_records.specs.declared.record.Position.{Position}
use Rattle.apt_records.specs.declared.record.Record.{Record}
use Rattle.apt_records.specs.declared.record.Record.TheVariants as records
use Rattle.apt_lines.specs.Decimals.{right_in}
use Rattle.apt_report.specs.Listing.{coordinate, word_of, point_line, record_lines, record_count}

line_at_least : (decimals seq : ℕ) (word : List ℕ) (to : Position) → 1 ≤ length (point_line decimals seq word to)
line_at_least decimals seq word to =
    omega (arith, length-append (right_in 8 (decimal seq)) (codes " " ++ (word ++ (coordinate decimals to.xy.x ++ (coordinate decimals to.xy.y ++ (coordinate decimals to.z ++ codes "\n"))))))

contour_at_least : (decimals seq : ℕ) (vertices : List Position) → length vertices ≤ length (flat_map (point_line decimals seq (codes "CONT")) vertices)
contour_at_least decimals seq [] = omega arith
contour_at_least decimals seq (to ∷ more) =
    omega (
      arith,
      length-append (point_line decimals seq (codes "CONT") to) (flat_map (point_line decimals seq (codes "CONT")) more),
      line_at_least decimals seq (codes "CONT") to,
      contour_at_least decimals seq more,
    )

pub lines_at_least : (decimals seq : ℕ) (r : Record) → record_count r ≤ length (record_lines decimals seq r)
lines_at_least decimals seq (records.Statement line step) = omega arith
lines_at_least decimals seq (records.Note note) = omega arith
lines_at_least decimals seq (records.Drive surface side sense) = omega arith
lines_at_least decimals seq (records.Check surface how) = omega arith
lines_at_least decimals seq (records.Point reach to) = line_at_least decimals seq (word_of reach) to
lines_at_least decimals seq (records.Contour vertices) = contour_at_least decimals seq vertices

use Rattle.std.proofs.Common.{◌≡◌, ◌++◌, length}
use Rattle.std.specs.Prelude.{codes}
use Rattle.std.specs.List.{flat_map}
use Rattle.apt_report.specs.Listing.{point_line}
use Rattle.apt_report.proofs.points.push_contour.Given as goal

abbrev pub invariant-vertices : goal.invariant-vertices
invariant-vertices l = record {
  text : l.text.items ++ flat_map (point_line l.decimals l.seq (codes "CONT")) l.left ≡ l.fn.text.items ++ flat_map (point_line l.decimals l.seq (codes "CONT")) l.fn.vertices;
  room : length l.room ≡ 192;
}

abbrev pub decreases-vertices : goal.decreases-vertices
decreases-vertices l = length l.left

use Rattle.std.proofs.Common.{◌≡◌, ◌≤◌, ◌+◌, ◌++◌, drop, length, map, vec_len, vec_capacity}
use Rattle.apt_records.specs.Vertices.{point_of}
use Rattle.apt_records.proofs.vertices.append_points.Given as goal

abbrev pub invariant-positions : goal.invariant-positions
invariant-positions l =
    record {
      all : l.points.items ++ map point_of (drop l.p-index l.positions) ≡ l.fn.points.items ++ map point_of l.positions;
      count : vec_len l.points ≡ vec_len l.fn.points + l.p-index;
      room : vec_len l.fn.points + length l.positions ≤ vec_capacity l.points;
    }

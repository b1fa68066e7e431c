-- What the test tells whether a point is near a line.
use Rattle.std.proofs.Common.{◌≡◌, ℤ, ◌-ℤ◌, neg_ℤ, true}
use Rattle.std.proofs.lemmas.Bool.{and_parts}
use Rattle.apt_num.specs.Sign.{OnLine, is_at_least}
use Rattle.apt_num.proofs.Testing.{is_at_least-true}
use Rattle.apt_plane.specs.declared.figures.Pt.{Pt}
use Rattle.apt_plane.specs.declared.figures.Line.{Line}
use Rattle.apt_plane.specs.Vectors.{displacement, cross, length_squared}
use Rattle.apt_offset.specs.declared.Target.TheVariants as targets
use Rattle.apt_stop.specs.Nearness.{is_near}

-- a point that is near a moved line
pub near-OnLine : (l : Line) (h g : ℤ) (p : Pt) → is_near (targets.Line l.base l.dir h) g p ≡ true → OnLine (cross l.dir (displacement l.base p)) h (length_squared l.dir) g
near-OnLine l h g p e =
    let k = cross l.dir (displacement l.base p) in
    let both = and_parts (is_at_least k (h -ℤ g) (length_squared l.dir)) (is_at_least (neg_ℤ k) (neg_ℤ h -ℤ g) (length_squared l.dir)) e in record {
      right = is_at_least-true k (h -ℤ g) (length_squared l.dir) both.0;
      left = is_at_least-true (neg_ℤ k) (neg_ℤ h -ℤ g) (length_squared l.dir) both.1;
    }

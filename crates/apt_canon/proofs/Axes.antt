-- The length of a direction along an axis, in units.
use Rattle.std.proofs.Common.{◌≡◌, ◌∙◌, ℕ, zero, suc, ◌*◌, ◌^◌, ◌≤◌, sym, ap, arith, pos, unsigned_abs}
use Rattle.apt_num.specs.Root.{IsRoot, root}
use Rattle.apt_num.proofs.RootLaws.{root-unique}
use Rattle.apt_num.proofs.Squares.{square_le}
use Rattle.apt_plane.specs.declared.figures.Dir.{Dir}
use Rattle.apt_plane.specs.Vectors.{length_squared}
use Rattle.apt_canon.specs.Scale.{length_of}

-- the root of a square is whole
whole_root : (a : ℕ) → a ≤ 10 ^ 8 → root (a * a * 2 ^ 70) ≡ a * 2 ^ 35
whole_root a h =
    let at : IsRoot (a * a * 2 ^ 70) (a * 2 ^ 35) = record { low = omega arith; high = omega arith } in
    sym (root-unique (a * a * 2 ^ 70) (a * 2 ^ 35) (omega (arith, square_le a (10 ^ 8) h)) at)

length_by : (d : Dir) (a : ℕ) → a ≤ 10 ^ 8 → length_squared d ≡ a * a → pos (a * 2 ^ 35) ≡ length_of d
length_by d a h e = sym (ap (λ n. pos (root (n * 2 ^ 70))) e ∙ ap pos (whole_root a h))

pub upright : (d : Dir) → unsigned_abs d.dy ≤ 10 ^ 8 → d.dx ≡ pos 0 → pos (unsigned_abs d.dy * 2 ^ 35) ≡ length_of d
upright d h e =
    let none : unsigned_abs d.dx ≡ 0 = ap unsigned_abs e in
    length_by d (unsigned_abs d.dy) h (rw none (omega arith))

pub level : (d : Dir) → unsigned_abs d.dx ≤ 10 ^ 8 → d.dy ≡ pos 0 → pos (unsigned_abs d.dx * 2 ^ 35) ≡ length_of d
level d h e =
    let none : unsigned_abs d.dy ≡ 0 = ap unsigned_abs e in
    length_by d (unsigned_abs d.dx) h (rw none (omega arith))

-- a part that is not the whole of the length is not 0
pub not_none : (a : ℕ) → 1 ≤ a * a → 1 ≤ a
not_none zero h = absurd (omega arith)
not_none (suc a) h = omega arith

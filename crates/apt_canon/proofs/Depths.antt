-- The depth of a point below a moved line, and what its rounding leaves over.
use Rattle.std.proofs.Common.{◌≡◌, ◌≢◌, ℕ, ◌*◌, ◌^◌, ◌≤◌, ◌∙◌, arith, ℤ, pos, ◌+ℤ◌, ◌-ℤ◌, ◌*ℤ◌, unsigned_abs}
use Rattle.std.proofs.lemmas.Int.{ints}
use Rattle.apt_num.specs.Root.{root}
use Rattle.apt_num.specs.Near.{near}
use Rattle.apt_num.proofs.Ring.{as_diff, diff-same, differences}
use Rattle.apt_num.proofs.Squares.{size_mul}
use Rattle.apt_num.proofs.Nearest.{near_remainder, near_bound}
use Rattle.apt_num.proofs.Roots.{ScaledRoot, root_facts}
use Rattle.apt_num.proofs.Footed.{lag, reach}
use Rattle.apt_plane.specs.declared.figures.Dir.{Dir}
use Rattle.apt_plane.specs.Vectors.{length_squared}
use Rattle.apt_plane.specs.Ranges.{IsDir}
use Rattle.apt_plane.proofs.Heights.{length_squared_small}
use Rattle.apt_canon.specs.Scale.{length_of}
use Rattle.apt_canon.specs.Circles.{depth}

-- the length of a direction is a root
pub length_facts : (d : Dir) → IsDir d → ScaledRoot (length_squared d) (root (length_squared d * 2 ^ 70))
length_facts d is = root_facts (length_squared d) is.length (length_squared_small d is)

pub length_positive : (d : Dir) → IsDir d → length_of d ≢ pos 0
length_positive d is = λ e. omega (arith, ints, (length_facts d is).large)

cross_size : (c s : ℕ) → 2 ^ 35 * c ≤ 141421358 * s → c * 2 ^ 65 ≤ 141421358 * 2 ^ 30 * s
cross_size c s h = omega (arith, h)

-- no point in range is deeper
pub depth_bound : (d : Dir) (k : ℤ) → IsDir d → unsigned_abs k * unsigned_abs k ≤ length_squared d * (2 * 10 ^ 16)
    → unsigned_abs (near (k *ℤ pos (2 ^ 65)) (length_of d)) ≤ 141421358 * 2 ^ 30
depth_bound d k is h =
    let n = length_squared d in
    let far = reach n (root (n * 2 ^ 70)) (unsigned_abs k) (length_facts d is) h in
    let size : unsigned_abs (k *ℤ pos (2 ^ 65)) ≤ 141421358 * 2 ^ 30 * unsigned_abs (length_of d) = rw (size_mul k (pos (2 ^ 65))) (cross_size (unsigned_abs k) (root (n * 2 ^ 70)) far) in
    near_bound (k *ℤ pos (2 ^ 65)) (length_of d) (141421358 * 2 ^ 30) (length_positive d is) size

depth_parts : (s q h p : ℤ) → s *ℤ (q -ℤ (h *ℤ p)) ≡ (s *ℤ q) -ℤ (p *ℤ (h *ℤ s))
depth_parts s q h p = rw (as_diff s, as_diff q, as_diff h, as_diff p) (simp differences (diff-same _ _ _ _ (omega arith)))

lag_parts : (k u p e l : ℤ) → ((k *ℤ (p *ℤ u)) +ℤ e) -ℤ (p *ℤ l) ≡ (p *ℤ ((u *ℤ k) -ℤ l)) +ℤ e
lag_parts k u p e l = rw (as_diff k, as_diff u, as_diff p, as_diff e, as_diff l) (simp differences (diff-same _ _ _ _ (omega arith)))

-- the depth times the length is the lag, up to a rest
pub depth_rest : (d : Dir) (k h : ℤ) → IsDir d
    → (e : ℤ) × (length_of d *ℤ depth d k h ≡ (pos (2 ^ 30) *ℤ lag (root (length_squared d * 2 ^ 70)) k h) +ℤ e) × (2 * unsigned_abs e ≤ root (length_squared d * 2 ^ 70))
depth_rest d k h is =
    let s = length_of d in
    let left = near_remainder (k *ℤ pos (2 ^ 65)) s (length_positive d is) in (
      left.0,
      depth_parts s (near (k *ℤ pos (2 ^ 65)) s) h (pos (2 ^ 30))
          ∙ rw left.1 (lag_parts k (pos (2 ^ 35)) (pos (2 ^ 30)) left.0 (h *ℤ s)),
      left.2,
    )

-- A bound on the number of vertices of a piece, from the length of its chord alone: all lengths are squared.
use Rattle.std.specs.Prelude.{◌+◌, ◌-◌, ◌*◌, ◌/◌, ℕ, zero, suc, min, nat_le, ℤ, ◌-ℤ◌, unsigned_abs, if◌then◌else◌}
use Rattle.apt_plane.specs.declared.figures.Pt.{Pt}
use Rattle.apt_plane.specs.declared.figures.Circ.{Circ}
use Rattle.apt_plane.specs.Vectors.{displacement, length_squared}

-- each half of a piece of a track of the radius r, whose chord is at most d, has a chord of at most this
abbrev pub shorter : ℕ → ℕ → ℕ
shorter r d = min d (d / 4 + r / 16 + (d + 30 * r) * (d + 191 * r) / (46 * ((r - 3) * (r - 3))) + 4)

-- vertices of a piece that is halved at most n times where its chord is longer than c
unfoldable pub number : ℕ → ℕ → ℕ → ℕ → ℕ
number zero r c d = 1
number (suc n) r c d = if nat_le d c then 1 else 2 * number n r c (shorter r d)

-- the ends of a piece, and the points half way, are at least so far from the centre
abbrev pub nearest : Circ → Pt → Pt → ℕ
nearest t a b = min (min (length_squared (displacement t.c a)) (length_squared (displacement t.c b))) ((unsigned_abs t.r - 1) * (unsigned_abs t.r - 1))

-- no chord up to this length lies further inside of the track than the sag
abbrev pub clear_length : Circ → ℤ → Pt → Pt → ℕ
clear_length t sag a b = 4 * (nearest t a b - unsigned_abs (t.r -ℤ sag) * unsigned_abs (t.r -ℤ sag))

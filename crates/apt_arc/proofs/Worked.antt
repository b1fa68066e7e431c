-- Divisions worked out by hand, which the definitions compute, cut by cut.
use Rattle.std.proofs.Common.{refl, ◌≡◌, true, false, ℕ, ℤ, pos, neg_ℤ, [], ◌∷◌}
use Rattle.apt_num.specs.Root.{root}
use Rattle.apt_plane.specs.declared.figures.Pt.{Pt}
use Rattle.apt_plane.specs.declared.figures.Dir.{Dir}
use Rattle.apt_plane.specs.declared.figures.Circ.{Circ}
use Rattle.apt_plane.specs.Vectors.{displacement, length_squared}
use Rattle.apt_arc.specs.Cuts.{middle}
use Rattle.apt_arc.specs.Bounds.{number, clear_length}
use Rattle.apt_arc.specs.Made.{is_clear, pieces, first_past, quarters_from, quarters}

abbrev pt : ℤ → ℤ → Pt
pt x y = record { x = x; y = y }

abbrev to : ℤ → ℤ → Dir
to x y = record { dx = x; dy = y }

-- the smallest track, half round it from (100, 0)
abbrev small : Circ
small = record { c = pt (pos 0) (pos 0); r = pos 100 }

small_first : first_past 3 small (pos 1) (pt (pos 100) (pos 0)) (to (pos 1) (pos 0)) ≡ to (pos 0) (pos 1)
unfolding root first_past
small_first = refl

small_quarters : quarters small (pos 1) (pt (pos 100) (pos 0)) (pt (neg_ℤ (pos 100)) (pos 0)) (to (pos 1) (pos 0)) ≡ pt (pos 0) (pos 100) ∷ []
unfolding root first_past quarters_from
small_quarters = refl

-- the same the other way round
small_quarters_back : quarters small (neg_ℤ (pos 1)) (pt (pos 100) (pos 0)) (pt (neg_ℤ (pos 100)) (pos 0)) (to (pos 1) (pos 0)) ≡ pt (pos 0) (neg_ℤ (pos 100)) ∷ []
unfolding root first_past quarters_from
small_quarters_back = refl

small_not_clear : is_clear small (pos 8) (pt (pos 100) (pos 0)) (pt (pos 0) (pos 100)) ≡ false
unfolding is_clear
small_not_clear = refl

small_middle : middle small (pt (pos 100) (pos 0)) (pt (pos 0) (pos 100)) ≡ pt (pos 71) (pos 71)
unfolding root
small_middle = refl

small_clear : is_clear small (pos 8) (pt (pos 100) (pos 0)) (pt (pos 71) (pos 71)) ≡ true
unfolding is_clear
small_clear = refl

-- with a sag of 7 that chord is no more clear
small_strict : is_clear small (pos 7) (pt (pos 100) (pos 0)) (pt (pos 71) (pos 71)) ≡ false
unfolding is_clear
small_strict = refl

small_pieces : pieces 1 small (pos 8) (pt (pos 100) (pos 0)) (pt (pos 0) (pos 100)) ≡ pt (pos 71) (pos 71) ∷ pt (pos 0) (pos 100) ∷ []
unfolding root is_clear pieces
small_pieces = refl

-- half round a circle of radius 225000, clockwise from above to below
abbrev half : Circ
half = record { c = pt (pos 0) (pos 0); r = pos 225000 }

half_quarters : quarters half (neg_ℤ (pos 1)) (pt (pos 0) (pos 225000)) (pt (pos 0) (neg_ℤ (pos 225000))) (to (pos 0) (pos 100000)) ≡ pt (pos 225000) (pos 0) ∷ []
unfolding root first_past quarters_from
half_quarters = refl

half_middle : middle half (pt (pos 0) (pos 225000)) (pt (pos 225000) (pos 0)) ≡ pt (pos 159099) (pos 159099)
unfolding root
half_middle = refl

-- the bound on the number of vertices of a quarter of a circle, between quarter points
abbrev quarter_bound : ℕ → ℕ
quarter_bound r = number 24 r (clear_length (record { c = pt (pos 0) (pos 0); r = pos r }) (pos 8) (pt (pos r) (pos 0)) (pt (pos 0) (pos r))) (length_squared (displacement (pt (pos r) (pos 0)) (pt (pos 0) (pos r))))

quarter_125000 : quarter_bound 125000 ≡ 128
unfolding number
quarter_125000 = refl

quarter_150000 : quarter_bound 150000 ≡ 128
unfolding number
quarter_150000 = refl

quarter_175000 : quarter_bound 175000 ≡ 128
unfolding number
quarter_175000 = refl

quarter_200000 : quarter_bound 200000 ≡ 128
unfolding number
quarter_200000 = refl

quarter_225000 : quarter_bound 225000 ≡ 128
unfolding number
quarter_225000 = refl

quarter_250000 : quarter_bound 250000 ≡ 128
unfolding number
quarter_250000 = refl

quarter_275000 : quarter_bound 275000 ≡ 128
unfolding number
quarter_275000 = refl

quarter_300000 : quarter_bound 300000 ≡ 128
unfolding number
quarter_300000 = refl

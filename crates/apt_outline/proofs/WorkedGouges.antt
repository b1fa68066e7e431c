-- Single segments against single parts, which the checker works out: what is found, and what is clear.
use Rattle.std.specs.Prelude.{◌+◌, ◌<◌, ℤ, pos, negsuc, ◌-ℤ◌, unsigned_abs, [], ◌∷◌, Some}
use Rattle.std.proofs.Common.{refl, arith}
use Rattle.apt_plane.specs.declared.figures.Pt.{Pt}
use Rattle.apt_plane.specs.declared.figures.Spot.{Spot}
use Rattle.apt_outline.specs.declared.parts.Part.{Part}
use Rattle.apt_outline.specs.declared.parts.Part.TheVariants as parts
use Rattle.apt_outline.specs.declared.parts.Gouge.{Gouge}
use Rattle.apt_outline.specs.Clearances.{IsClear}
use Rattle.apt_outline.specs.Spots.{at_spot, spots, IsFirstSpot}
use Rattle.apt_outline.specs.Guards.{segment, IsClearOf, IsFound}
use Rattle.apt_outline.proofs.WorkedSpots.{at, spot, start, end}

-- a spot that gouges is a point of its segment
gouges : (a b : Pt) (rho : ℤ) (part : Part) (s : Spot) → 0 < unsigned_abs s.j + unsigned_abs (s.m -ℤ s.j) → ¬ IsClear rho part (at_spot a b s) → ¬ IsClearOf rho (segment a b) part
gouges a b rho part s some fails clear = fails (clear (unsigned_abs s.j) (unsigned_abs (s.m -ℤ s.j)) some)

abbrev first : Spot → Gouge
first s = record { motion = 1; segment = 1; part = 1; spot = s }

-- one segment and one part
found : (a b : Pt) (rho : ℤ) (part : Part) (s : Spot) → 0 < unsigned_abs s.j + unsigned_abs (s.m -ℤ s.j) → IsFirstSpot a b (IsClear rho part) (spots part a b) s
    → IsFound (record { points = a ∷ b ∷ []; rho = rho } ∷ []) (part ∷ []) (Some (first s))
found a b rho part s some its_first =
    let not_clear = gouges a b rho part s some its_first.1.fails in
    record {
      its_pass = record { points = a ∷ b ∷ []; rho = rho };
      motion = record { before = []; behind = []; split = refl; hold = tt; fails = λ clear. not_clear clear.0.0; number = refl };
      gouge = record {
        its_segment = segment a b;
        segment = record { before = []; behind = []; split = refl; hold = tt; fails = λ clear. not_clear clear.0; number = refl };
        gouge = record { its_part = part; part = record { before = []; behind = []; split = refl; hold = tt; fails = not_clear; number = refl }; spot = its_first };
      };
    }

-- ---- a boss between the ends of a segment, which are both clear of it

abbrev west : Pt
west = at (negsuc 24999) (negsuc 24999)

abbrev east : Pt
east = at (pos 525000) (negsuc 24999)

abbrev middle : Spot
middle = spot (pos 151250000000) (pos 302500000000)

abbrev boss : ℤ → ℤ → Part
boss y r = parts.Boss (record { c = at (pos 250000) y; r = r })

between_the_ends : IsFound (record { points = west ∷ east ∷ []; rho = pos 24992 } ∷ []) (boss (negsuc 49999) (pos 20000) ∷ []) (Some (first middle))
between_the_ends =
    found west east (pos 24992) (boss (negsuc 49999) (pos 20000)) middle (omega arith)
    (3, record { before = start ∷ end ∷ []; behind = []; split = refl; hold = (omega arith, (omega arith, tt)); fails = λ clear. omega (arith, clear); number = refl })

-- touching a boss is no gouge, and a grid unit nearer is one
boss_touched : IsClear (pos 24992) (boss (negsuc 74991) (pos 25000)) (at_spot west east middle)
boss_touched = omega arith

boss_cut : IsFound (record { points = west ∷ east ∷ []; rho = pos 24992 } ∷ []) (boss (negsuc 74990) (pos 25000) ∷ []) (Some (first middle))
boss_cut =
    found west east (pos 24992) (boss (negsuc 74990) (pos 25000)) middle (omega arith)
    (3, record { before = start ∷ end ∷ []; behind = []; split = refl; hold = (omega arith, (omega arith, tt)); fails = λ clear. omega (arith, clear); number = refl })

-- ---- a bore, whose wall a cutter leaves at the end of a segment

abbrev centre : Pt
centre = at (pos 0) (pos 0)

abbrev aside : Pt
aside = at (pos 3) (pos 4)

abbrev bore : Part
bore = parts.Bore (record { c = centre; r = pos 100 })

bore_touched : IsClear (pos 95) bore (at_spot centre aside end)
bore_touched = omega arith

bore_cut : IsFound (record { points = centre ∷ aside ∷ []; rho = pos 96 } ∷ []) (bore ∷ []) (Some (first end))
bore_cut =
    found centre aside (pos 96) bore end (omega arith)
    (2, record { before = start ∷ []; behind = []; split = refl; hold = (omega arith, tt); fails = λ clear. omega (arith, clear); number = refl })

-- a cutter that is wider than a bore is nowhere clear of it
too_wide : IsFound (record { points = centre ∷ aside ∷ []; rho = pos 101 } ∷ []) (bore ∷ []) (Some (first start))
too_wide = found centre aside (pos 101) bore start (omega arith) (1, record { before = []; behind = end ∷ []; split = refl; hold = tt; fails = λ clear. clear; number = refl })

-- ---- a centre that stands on an edge

edge_cut : IsFound (record { points = centre ∷ centre ∷ []; rho = pos 1 } ∷ []) (parts.Edge (at (negsuc 49) (negsuc 49)) (at (pos 50) (pos 50)) ∷ []) (Some (first start))
edge_cut =
    found centre centre (pos 1) (parts.Edge (at (negsuc 49) (negsuc 49)) (at (pos 50) (pos 50))) start (omega arith)
    (1, record { before = []; behind = end ∷ []; split = refl; hold = tt; fails = λ clear. omega (arith, clear 1 1 (omega arith)); number = refl })

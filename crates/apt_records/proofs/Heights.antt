-- Vertices at one height, and those behind them.
use Rattle.std.proofs.Common.{◌≡◌, ◌∙◌, ◌+◌, ◌≤◌, ℤ, Bool, true, false, List, [], ◌∷◌, ◌++◌, length, map, refl, sym, ap, int_eq, arith}
use Rattle.std.specs.Prelude.{◌&&◌}
use Rattle.std.specs.List.{list_all}
use Rattle.std.proofs.lemmas.Bool.{true≢false}
use Rattle.std.proofs.lemmas.Bool.Decides.{Decides-int_eq}
use Rattle.std.proofs.lemmas.List.{append_assoc, length-map, length-append, map-append}
use Rattle.std.proofs.lemmas.List.Folds.{list_all-append}
use Rattle.apt_plane.specs.declared.figures.Pt.{Pt}
use Rattle.apt_records.specs.declared.record.Position.{Position}
use Rattle.apt_records.specs.Vertices.{at_height, point_of}
use Rattle.apt_words.proofs.Bools.{both}

-- whether positions are all at a height
abbrev are_at : ℤ → List Position → Bool
are_at z ps = list_all (λ p. int_eq p.z z) ps

same_position : (z : ℤ) (p : Position) → int_eq p.z z ≡ true → p ≡ at_height z p.xy
same_position z p e = ap (λ (n : ℤ). record { xy = p.xy; z = n }) ((Decides-int_eq p.z z).0 e)

pub at_one_height : (z : ℤ) (ps : List Position) → list_all (λ p. int_eq p.z z) ps ≡ true → map (at_height z) (map point_of ps) ≡ ps
at_one_height z [] e = refl
at_one_height z (p ∷ ps) e =
    let h = both (int_eq p.z z) (are_at z ps) e in
    ap (λ (qs : List Position). at_height z p.xy ∷ qs) (at_one_height z ps h.1) ∙ ap (λ (q : Position). q ∷ ps) (sym (same_position z p h.0))

pub both_length : (z : ℤ) (points : List Pt) (apart : List Position) → length (map (at_height z) points ++ apart) ≡ length points + length apart
both_length z points apart = length-append (map (at_height z) points) apart ∙ ap (λ n. n + length apart) (length-map points (at_height z))

level_points : (z : ℤ) (points : List Pt) → map point_of (map (at_height z) points) ≡ points
level_points z [] = refl
level_points z (p ∷ ps) = ap (λ (qs : List Pt). p ∷ qs) (level_points z ps)

pub both_points : (z : ℤ) (points : List Pt) (apart : List Position) → map point_of (map (at_height z) points ++ apart) ≡ points ++ map point_of apart
both_points z points apart = map-append point_of (map (at_height z) points) apart ∙ ap (λ (qs : List Pt). qs ++ map point_of apart) (level_points z points)

level_at : (z h : ℤ) (points : List Pt) → int_eq h z ≡ true → are_at z (map (at_height h) points) ≡ true
level_at z h [] e = refl
level_at z h (p ∷ ps) e = rw e (level_at z h ps e)

-- those at another height
pub none_at : (z h : ℤ) (points : List Pt) (apart : List Position) → 1 ≤ length points → int_eq h z ≡ false → list_all (λ p. int_eq p.z z) (map (at_height h) points ++ apart) ≡ false
none_at z h [] apart some e = absurd (omega (arith, some))
none_at z h (p ∷ ps) apart some e = rw e refl

-- those at this height
pub same_at : (z h : ℤ) (points : List Pt) (apart : List Position) → int_eq h z ≡ true → list_all (λ p. int_eq p.z z) (map (at_height h) points ++ apart) ≡ list_all (λ p. int_eq p.z z) apart
same_at z h points apart e = list_all-append (λ p. int_eq p.z z) (map (at_height h) points) apart ∙ ap (λ b. b && are_at z apart) (level_at z h points e)

pub none_level : (z h : ℤ) (points : List Pt) (apart : List Position) → length points ≡ 0 → list_all (λ p. int_eq p.z z) (map (at_height h) points ++ apart) ≡ list_all (λ p. int_eq p.z z) apart
none_level z h [] apart none = refl
none_level z h (p ∷ ps) apart none = absurd (omega (arith, none))

pub points_behind : (before : List Pt) (z : ℤ) (points : List Pt) (apart : List Position)
    → (before ++ points) ++ map point_of apart ≡ before ++ map point_of (map (at_height z) points ++ apart)
points_behind before z points apart = append_assoc before points (map point_of apart) ∙ ap (λ (ps : List Pt). before ++ ps) (sym (both_points z points apart))

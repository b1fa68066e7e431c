-- The last of some vertices, of which those in front are at one height.
use Rattle.std.proofs.Common.{◌≡◌, ◌∙◌, ℕ, ℤ, zero, suc, ◌-◌, List, [], ◌∷◌, ◌++◌, map, length, slice_get, get_or, Some, None, refl, ap, sym, arith, append-nil}
use Rattle.std.specs.Option.{option_map}
use Rattle.std.proofs.lemmas.List.{length-map}
use Rattle.std.proofs.lemmas.Option.{slice_get-map, slice_get_within, slice_get-get_or, none-some}
use Rattle.apt_plane.specs.declared.figures.Pt.{Pt}
use Rattle.apt_records.specs.declared.record.Position.{Position}
use Rattle.apt_records.specs.Vertices.{at_height}
use Rattle.apt_circular.specs.ArcPlan.{last_from}

last_is : (to v : Position) (vs : List Position) (i : ℕ) → length vs ≡ suc i → slice_get vs i ≡ Some v → last_from to vs ≡ v
last_is to v [] i long is = absurd (omega arith)
last_is to v (w ∷ []) zero long is = cc
last_is to v (w ∷ []) (suc i) long is = absurd (omega arith)
last_is to v (w ∷ x ∷ vs) zero long is = absurd (omega arith)
last_is to v (w ∷ x ∷ vs) (suc i) long is = last_is w v (x ∷ vs) i (omega arith) is

last_behind : (to : Position) (front vs : List Position) → last_from to (front ++ vs) ≡ last_from (last_from to front) vs
last_behind to [] vs = refl
last_behind to (v ∷ front) vs = last_behind v front vs

-- the last of those behind
pub last_apart : (to v : Position) (front vs : List Position) → slice_get vs (length vs - 1) ≡ Some v → last_from to (front ++ vs) ≡ v
last_apart to v front vs is =
    let within = slice_get_within vs (length vs - 1) v is in
    last_behind to front vs ∙ last_is (last_from to front) v vs (length vs - 1) (omega arith) is

none_apart : (vs : List Position) → slice_get vs (length vs - 1) ≡ None → vs ≡ []
none_apart [] none = refl
none_apart (v ∷ vs) none =
    let at = length (v ∷ vs) - 1 in
    absurd (none-some (get_or (v ∷ vs) at v) (sym none ∙ slice_get-get_or (v ∷ vs) at v (omega arith)))

-- or else of those in front
pub last_level : (to : Position) (z : ℤ) (p : Pt) (points : List Pt) (vs : List Position) → slice_get points (length points - 1) ≡ Some p → slice_get vs (length vs - 1) ≡ None
    → last_from to (map (at_height z) points ++ vs) ≡ at_height z p
last_level to z p points vs is none =
    let within = slice_get_within points (length points - 1) p is in
    let at = length points - 1 in
    rw (none_apart vs none, append-nil)
    (last_is to (at_height z p) (map (at_height z) points) at (omega (arith, length-map points (at_height z))) (slice_get-map (at_height z) points at ∙ ap (option_map (at_height z)) is))

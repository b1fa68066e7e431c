-- From the mask of one load to the bytes that pass a test.
use Rattle.std.proofs.Common.{◌≡◌, ℕ, suc, ◌+◌, ◌%◌, ◌^◌, ◌<◌, ◌≤◌, eqb, Bool, true, not, List, [], ◌∷◌, map, length, get_or, Fits, w8, w64, refl, sym, ap, ap₂, ◌∙◌, subst, arith, cond}
use Rattle.std.proofs.lemmas.Bool.{agree_below, agree_below_at}
use Rattle.std.proofs.lemmas.Simd.{map-map, zip2-map, mask_l-mod, length-chunk, get_or-chunk, first_set_mask_l}
use Rattle.std.proofs.lemmas.List.{length-map}
use Rattle.std.specs.Int.{trailing_zeros}
use Rattle.std.specs.List.{prefix_len}
use lib.Lanes.{chunk, zip2, mask_l, top}

-- an operation on two vectors that were computed lane by lane from v
pub joined : (h : ℕ → ℕ → ℕ) (f g : ℕ → ℕ) (v : List ℕ) {a b : List ℕ} → a ≡ map f v → b ≡ map g v → zip2 h a b ≡ map (λ x. h (f x) (g x)) v
joined h f g v p q = ap₂ (zip2 h) p q ∙ zip2-map h f g v

abbrev first_of_set : ℕ → ℕ
first_of_set mask = cond (eqb mask 0) 16 (trailing_zeros w64 mask)

same_front : (p q : ℕ → Bool) (xs : List ℕ) → ((k : ℕ) → k < length xs → p (get_or xs k 0) ≡ q (get_or xs k 0)) → prefix_len p xs ≡ prefix_len q xs
same_front p q [] h = refl
same_front p q (x ∷ xs) h = ap₂ (λ b n. cond b (1 + n) 0) (h 0 (omega arith)) (same_front p q xs (λ k inside. h (suc k) (omega (arith, inside))))

-- the first lane that stops is the first byte that fails the test
pub front_of_lanes : (q : ℕ → Bool) (d : List ℕ) (i r : ℕ) (z : List ℕ) (f : ℕ → ℕ) → i + 16 ≤ length d → ((k : ℕ) → Fits w8 (get_or d k 0)) → r ≡ first_of_set (mask_l (map (top 7) z) % 2 ^ 64) → z ≡ map f (chunk i 16 d)
    → agree_below (λ x. not (top 7 (f x))) q 256 ≡ true → r ≡ prefix_len q (chunk i 16 d)
front_of_lanes q d i r z f room fits found lanes all =
    let v = chunk i 16 d in
    let stops : ℕ → Bool = λ x. top 7 (f x) in
    let long : length v ≡ 16 = length-chunk i 16 d room in
    let mask = ap (λ l. mask_l l % 2 ^ 64) (ap (map (top 7)) lanes ∙ map-map (top 7) f v) ∙ mask_l-mod (map stops v) 64 (omega (arith, length-map v stops, long)) in
    let same : (k : ℕ) → k < length v → not (stops (get_or v k 0)) ≡ q (get_or v k 0) =
    λ k inside. subst (λ x. not (stops x) ≡ q x) (sym (get_or-chunk i 16 d k 0 (omega (arith, inside, long)))) (agree_below_at (λ x. not (stops x)) q 256 (get_or d (i + k) 0) all (fits (i + k)).fits) in
    found ∙ ap first_of_set mask ∙ first_set_mask_l stops v 16 long (omega arith) ∙ same_front (λ x. not (stops x)) q v same

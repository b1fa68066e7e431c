-- What a list has where points are appended as far as there is room.
use Rattle.std.proofs.Common.{refl, ◌≡◌, ℕ, zero, suc, ◌+◌, ◌≤◌, ◌<◌, ◌∙◌, ap, sym, arith, List, [], ◌∷◌, ◌++◌, length, take, append_assoc}
use Rattle.std.proofs.lemmas.List.{length-append, take-append-le}
use Rattle.apt_plane.specs.declared.figures.Pt.{Pt}

-- ---- the front part of a list

taken_whole : (n : ℕ) (xs : List Pt) → length xs ≤ n → take n xs ≡ xs
taken_whole zero [] h = refl
taken_whole zero (x ∷ xs) h = absurd (omega (arith, h))
taken_whole (suc n) [] h = refl
taken_whole (suc n) (x ∷ xs) h = ap (λ (ys : List Pt). x ∷ ys) (taken_whole n xs (omega (arith, h)))

taken_twice : (n : ℕ) (xs ys : List Pt) → take n (take n xs ++ ys) ≡ take n (xs ++ ys)
taken_twice zero xs ys = refl
taken_twice (suc n) [] ys = refl
taken_twice (suc n) (x ∷ xs) ys = ap (λ (zs : List Pt). x ∷ zs) (taken_twice n xs ys)

taken_back : (n : ℕ) (xs ys : List Pt) → length xs ≤ n → take (length xs) (take n (xs ++ ys)) ≡ xs
taken_back n [] ys h = refl
taken_back zero (x ∷ xs) ys h = absurd (omega (arith, h))
taken_back (suc n) (x ∷ xs) ys h = ap (λ (zs : List Pt). x ∷ zs) (taken_back n xs ys (omega (arith, h)))

-- ---- one point more

pub one_more : (room : ℕ) (old : List Pt) (p : Pt) → length old < room → old ++ p ∷ [] ≡ take room (old ++ p ∷ [])
one_more room old p h = sym (taken_whole room (old ++ p ∷ []) (omega (arith, h, length-append old (p ∷ []))))

pub none_more : (room : ℕ) (old : List Pt) (p : Pt) → room ≤ length old → length old ≤ room → old ≡ take room (old ++ p ∷ [])
none_more room old p full h = sym (take-append-le room old (p ∷ []) full ∙ taken_whole room old h)

pub one_fits : (room : ℕ) (old new ps : List Pt) (b : Pt) → new ≡ take room (old ++ b ∷ []) → ps ≡ b ∷ [] → new ≡ take room (old ++ ps)
one_fits room old new ps b e f = e ∙ ap (λ (xs : List Pt). take room (old ++ xs)) (sym f)

-- ---- two lists, one behind the other

pub both_fit : (room next : ℕ) (old mid new l k ps : List Pt) → mid ≡ take room (old ++ l) → new ≡ take next (mid ++ k) → next ≡ room → ps ≡ l ++ k → new ≡ take room (old ++ ps)
both_fit room next old mid new l k ps e f same g =
    f ∙ ap (λ (n : ℕ). take n (mid ++ k)) same ∙ ap (λ (xs : List Pt). take room (xs ++ k)) e ∙ taken_twice room (old ++ l) k
    ∙ ap (take room) (append_assoc old l k ∙ ap (λ (xs : List Pt). old ++ xs) (sym g))

pub last_fits : (room : ℕ) (old new ps qs : List Pt) → new ≡ take room (old ++ ps) → qs ≡ ps → new ≡ take room (old ++ qs)
last_fits room old new ps qs e f = e ∙ ap (λ (xs : List Pt). take room (old ++ xs)) (sym f)

-- ---- all of them

pub all_there : (room due : ℕ) (old new ps : List Pt) → new ≡ take room (old ++ ps) → due ≡ length ps → length old + due ≤ room → new ≡ old ++ ps
all_there room due old new ps e f h = e ∙ taken_whole room (old ++ ps) (omega (arith, h, f, length-append old ps))

-- and none
pub as_before : (room before : ℕ) (old mid new ps : List Pt) → mid ≡ take room (old ++ ps) → new ≡ take before mid → before ≡ length old → length old ≤ room → new ≡ old
as_before room before old mid new ps e f same h =
    f ∙ ap (λ (n : ℕ). take n mid) same ∙ ap (take (length old)) e ∙ taken_back room old ps h

-- Laws of the told map.
use Rattle.std.specs.Prelude.{◌≡◌, ℕ, List, [], ◌∷◌, ◌++◌, ◌+◌, ◌≤◌, length, take, drop, min, unwrap_or, cond, Bool, true, false, Option, Some, None, IsSomeAnd, Result, Ok, Err, OnErr}
use Rattle.std.proofs.Common.{ap, sym, subst, ◌∙◌, ◌<◌, refl, arith, inl, inr, append_assoc}
use Rattle.std.proofs.lemmas.List.{append-nil, length-append, take-append-le, nil_from_length}
use Rattle.std.proofs.Math.Seq.{take-append-add, take-append_seam}
use Rattle.std.specs.Ordering.{nat_cmp, eq_by_cmp}
use Rattle.std.specs.Cmp.{eq_by_cmp_equiv}
use Rattle.std.specs.Cmp.Lexicographic.{slice_cmp, nat_list_cmp_total, texts_ties, same_text}
use Rattle.std.specs.FinMap.{get, insert, get-insert, same_map, slice_cmp-IsAntisymmetric, nat_cmp-IsAntisymmetric}
use Rattle.apt_shelf.specs.Told.{Contents, appended, Steps, Takes, Adds, KeepsPrefix}
use Rattle.apt_shelf.specs.Files.{AddsAny, WritesPrefix}

-- two names are one, as the map tests it
abbrev pub same_name : List ℕ → List ℕ → Bool
same_name q k = eq_by_cmp (slice_cmp nat_cmp) q k

pub same_name_refl : (k : List ℕ) → same_name k k ≡ true
same_name_refl k = (eq_by_cmp_equiv nat_list_cmp_total).refl k

twice : {X : Type 0} (b : Bool) (x y z : X) → cond b x (cond b y z) ≡ cond b x z
twice true x y z = refl
twice false x y z = refl

pub get_inserted : (m : Contents) (k v : List ℕ) → get (insert m k v) k ≡ Some v
get_inserted m k v = get-insert nat_list_cmp_total m k v k ∙ ap (λ b. cond b (Some v) (get m k)) (same_name_refl k)

pub insert_again : (m : Contents) (k v w : List ℕ) → insert (insert m k v) k w ≡ insert m k w
insert_again m k v w = same_map nat_list_cmp_total (slice_cmp-IsAntisymmetric nat_cmp-IsAntisymmetric) _ _ (λ q.
    get-insert nat_list_cmp_total (insert m k v) k w q
    ∙ ap (cond (same_name q k) (Some w)) (get-insert nat_list_cmp_total m k v q)
    ∙ twice (same_name q k) (Some w) (Some v) (get m q)
    ∙ sym (get-insert nat_list_cmp_total m k w q))

pub append_more : (m : Contents) (k v piece : List ℕ) → appended (insert m k v) k piece ≡ insert m k (v ++ piece)
append_more m k v piece = ap (λ o. insert (insert m k v) k (unwrap_or o [] ++ piece)) (get_inserted m k v) ∙ insert_again m k v (v ++ piece)

-- one more piece
pub adds_more : (t₀ t₁ t₂ : Option Contents) (w : Option (List ℕ)) (k v piece : List ℕ) → w ≡ Some k
    → Steps (λ m. insert m k v) t₀ t₁ → Adds w piece t₁ t₂ → Steps (λ m. insert m k (v ++ piece)) t₀ t₂
adds_more None t₁ t₂ w k v piece e s a = tt
adds_more (Some m) t₁ t₂ w k v piece e s a =
    let b : Adds (Some k) piece (Some (insert m k v)) t₂ = rw (e, s) at a in
    b ∙ ap Some (append_more m k v piece)

appended_again : (m : Contents) (k p q : List ℕ) → appended (appended m k p) k q ≡ appended m k (p ++ q)
appended_again m k p q = let held = unwrap_or (get m k) [] in append_more m k (held ++ p) q ∙ ap (insert m k) (append_assoc held p q)

adds_again : (t₀ t₁ t₂ : Option Contents) (w : Option (List ℕ)) (p q : List ℕ) → Adds w p t₀ t₁ → Adds w q t₁ t₂ → Adds w (p ++ q) t₀ t₂
adds_again None t₁ t₂ w p q a b = tt
adds_again (Some m) t₁ t₂ None p q a b = tt
adds_again (Some m) t₁ t₂ (Some k) p q a b =
    let c : Adds (Some k) q (Some (appended m k p)) t₂ = rw a at b in
    c ∙ ap Some (appended_again m k p q)

-- one more piece, behind any
pub adds_behind : (t₀ t₁ t₂ : Option Contents) (w : Option (List ℕ)) (part piece : List ℕ) → 0 < length piece
    → AddsAny w part t₀ t₁ → Adds w piece t₁ t₂ → AddsAny w (part ++ piece) t₀ t₂
adds_behind t₀ t₁ t₂ w [] [] h a b = absurd (omega (arith, h))
adds_behind t₀ t₁ t₂ w [] (c ∷ piece) h a b = subst (λ t. Adds w (c ∷ piece) t t₂) a b
adds_behind t₀ t₁ t₂ w (c ∷ part) piece h a b = adds_again t₀ t₁ t₂ w (c ∷ part) piece a b

-- what is added to a name behind what was written to it
pub adds_written : (t₀ t₁ t₂ : Option Contents) (w : Option (List ℕ)) (k v part : List ℕ) → w ≡ Some k
    → Steps (λ m. insert m k v) t₀ t₁ → AddsAny w part t₁ t₂ → Steps (λ m. insert m k (v ++ part)) t₀ t₂
adds_written t₀ t₁ t₂ w k v [] e s a = rw (append-nil, a) s
adds_written t₀ t₁ t₂ w k v (b ∷ part) e s a = adds_more t₀ t₁ t₂ w k v (b ∷ part) e s a

pub insert_held : (m : Contents) (k v : List ℕ) → get m k ≡ Some v → insert m k v ≡ m
insert_held m k v h = same_map nat_list_cmp_total (slice_cmp-IsAntisymmetric nat_cmp-IsAntisymmetric) _ _ (λ q.
    get-insert nat_list_cmp_total m k v q ∙ held_again q (same_name q k) refl)
  where
    held_again : (q : List ℕ) (b : Bool) → same_name q k ≡ b → cond b (Some v) (get m q) ≡ get m q
    held_again q true e = sym (ap (get m) (same_text q k (sym (texts_ties q k ∙ e))) ∙ h)
    held_again q false e = refl

-- a front part of a piece, after what was written before it, is a front part of the whole
pub take_more : (done piece after whole : List ℕ) (k : ℕ) → done ++ (piece ++ after) ≡ whole → k ≤ length piece → done ++ take k piece ≡ take (length done + k) whole
take_more done piece after whole k e h =
    ap (λ t. done ++ t) (sym (take-append-le k piece after h))
    ∙ sym (take-append-add done (piece ++ after) k)
    ∙ ap (take (length done + k)) e

take_done : (done piece after whole : List ℕ) → done ++ (piece ++ after) ≡ whole → done ≡ take (length done) whole
take_done done piece after whole e = sym (take-append_seam done (piece ++ after)) ∙ ap (take (length done)) e

within : (done piece after whole : List ℕ) → done ++ (piece ++ after) ≡ whole → length done + length piece ≤ length whole
within done piece after whole e = omega (arith, simp length-append at (ap length e))

prefix_of : (m : Contents) (name done piece after whole : List ℕ) (t : Option Contents) → done ++ (piece ++ after) ≡ whole
    → KeepsPrefix (Some name) piece (Some (insert m name done)) t → WritesPrefix name whole (Some m) t
prefix_of m name done piece after whole t e k =
    let bound = within done piece after whole e in
    elim k [
      | inl same ↦ inr (length done, omega (arith, bound), same ∙ ap (λ d. Some (insert m name d)) (take_done done piece after whole e))
      | inr part ↦ inr (
        length done + part.0,
        omega (arith, bound, part.1),
        part.2 ∙ ap Some (append_more m name done (take part.0 piece)) ∙ ap (λ d. Some (insert m name d)) (take_more done piece after whole part.0 e part.1),
      )
    ]

-- a refused piece leaves a front part of the whole
pub keeps_prefix : (t₀ t₁ t₂ : Option Contents) (w : Option (List ℕ)) (name done piece after whole : List ℕ) → w ≡ Some name → done ++ (piece ++ after) ≡ whole
    → Steps (λ m. insert m name done) t₀ t₁ → KeepsPrefix w piece t₁ t₂ → WritesPrefix name whole t₀ t₂
keeps_prefix None t₁ t₂ w name done piece after whole e f s a = tt
keeps_prefix (Some m) t₁ t₂ w name done piece after whole e f s a =
    let b : KeepsPrefix (Some name) piece (Some (insert m name done)) t₂ = rw (e, s) at a in
    prefix_of m name done piece after whole t₂ f b

behind_some : (m : Contents) (name part piece after whole : List ℕ) (t : Option Contents) → part ++ (piece ++ after) ≡ whole
    → KeepsPrefix (Some name) piece (Some (appended m name part)) t → KeepsPrefix (Some name) whole (Some m) t
behind_some m name part piece after whole t e k =
    let bound = within part piece after whole e in
    elim k [
      | inl same ↦ inr (length part, omega (arith, bound), same ∙ ap (λ d. Some (appended m name d)) (take_done part piece after whole e))
      | inr more ↦ inr (
        length part + more.0,
        omega (arith, bound, more.1),
        more.2 ∙ ap Some (appended_again m name part (take more.0 piece)) ∙ ap (λ d. Some (appended m name d)) (take_more part piece after whole more.0 e more.1),
      )
    ]

longer : (t₀ t₁ : Option Contents) (w : Option (List ℕ)) (piece after : List ℕ) → KeepsPrefix w piece t₀ t₁ → KeepsPrefix w (piece ++ after) t₀ t₁
longer None t₁ w piece after a = tt
longer (Some m) t₁ None piece after a = tt
longer (Some m) t₁ (Some name) piece after (inl same) = inl same
longer (Some m) t₁ (Some name) piece after (inr part) =
    inr (part.0, omega (arith, part.1, length-append piece after), part.2 ∙ ap (λ d. Some (appended m name d)) (sym (take-append-le part.0 piece after part.1)))

behind : (t₀ t₁ t₂ : Option Contents) (w : Option (List ℕ)) (part piece after whole : List ℕ) → part ++ (piece ++ after) ≡ whole
    → Adds w part t₀ t₁ → KeepsPrefix w piece t₁ t₂ → KeepsPrefix w whole t₀ t₂
behind None t₁ t₂ w part piece after whole e a b = tt
behind (Some m) t₁ t₂ None part piece after whole e a b = tt
behind (Some m) t₁ t₂ (Some name) part piece after whole e a b =
    let c : KeepsPrefix (Some name) piece (Some (appended m name part)) t₂ = rw a at b in
    behind_some m name part piece after whole t₂ e c

-- a refused piece, behind any that were added
pub keeps_behind : (t₀ t₁ t₂ : Option Contents) (w : Option (List ℕ)) (part piece after whole : List ℕ) → part ++ (piece ++ after) ≡ whole
    → AddsAny w part t₀ t₁ → KeepsPrefix w piece t₁ t₂ → KeepsPrefix w whole t₀ t₂
keeps_behind t₀ t₁ t₂ w [] piece after whole e a b = rw (sym e) (longer t₀ t₂ w piece after (subst (λ t. KeepsPrefix w piece t t₂) a b))
keeps_behind t₀ t₁ t₂ w (c ∷ part) piece after whole e a b = behind t₀ t₁ t₂ w (c ∷ part) piece after whole e a b

-- a piece that is held takes the front of what is behind it
pub held_more : (part held front after rest now whole : List ℕ) → part ++ (held ++ rest) ≡ whole → front ++ after ≡ rest → now ≡ held ++ front → part ++ (now ++ after) ≡ whole
held_more part held front after rest now whole e f n = rw (n, append_assoc, f) e

pub on_err : {T E : Type 0} (r : Result T E) (P : Type 0) → P → OnErr r P
on_err (Ok x) P h = tt
on_err (Err e) P h = h

pub appended_held : (m : Contents) (k v piece : List ℕ) → get m k ≡ Some v → appended m k piece ≡ insert m k (v ++ piece)
appended_held m k v piece e = ap (λ o. insert m k (unwrap_or o [] ++ piece)) e

pub appended_absent : (m : Contents) (k piece : List ℕ) → get m k ≡ None → appended m k piece ≡ insert m k piece
appended_absent m k piece e = ap (λ o. insert m k (unwrap_or o [] ++ piece)) e

-- bytes that were read into the front of a buffer
pub takes_front : (left now : Option (List ℕ)) (n : ℕ) (front rest : List ℕ) → 0 < length front
    → IsSomeAnd left (λ bytes. (n ≡ min (length bytes) (length front)) × (take n front ≡ take n bytes) × (now ≡ Some (drop n bytes))) → Takes left now n (front ++ rest)
takes_front None now n front rest h r = tt
takes_front (Some bytes) now n front rest h r =
    (omega (arith, r.0), take-append-le n front rest (omega (arith, r.0)) ∙ r.1, r.2, λ none. nil_from_length bytes (omega (arith, r.0, none, h)))

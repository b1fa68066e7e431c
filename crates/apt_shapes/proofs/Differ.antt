-- Lists of names of which none stands twice, from the front.
use Rattle.std.specs.Prelude.{◌≡◌, ℕ, zero, suc, ◌+◌, ◌<◌, ◌&&◌, ◌||◌, not, Bool, true, false, List, [], ◌∷◌, ◌++◌, length, take, drop, Option, refl, if◌then◌else◌}
use Rattle.std.specs.List.{list_any}
use Rattle.std.proofs.Common.{bytes_eq, get_or, ap, sym, ◌∙◌, arith}
use Rattle.std.proofs.lemmas.List.{map_more}
use Rattle.std.proofs.lemmas.Slice.Eq.{bytes_eq-Decides}
use Rattle.indexmap.specs.IndexSet.{insert_key}
use Rattle.apt_words.specs.Trees.{Tree}
use Rattle.apt_shapes.specs.Flow.{differ, names_of}

-- ---- tests

or_left : (a b : Bool) → a ≡ true → (a || b) ≡ true
or_left true b e = refl
or_left false b e = cc

or_right : (a b : Bool) → b ≡ true → (a || b) ≡ true
or_right true b e = refl
or_right false b e = e

or_only_right : (a b : Bool) → a ≡ false → (a || b) ≡ true → b ≡ true
or_only_right true b e f = cc
or_only_right false b e f = f

neither : (a b : Bool) → (a || b) ≡ false → (a ≡ false) × (b ≡ false)
neither true b e = (cc, cc)
neither false b e = (refl, e)

or_none : (a b : Bool) → a ≡ false → b ≡ false → (a || b) ≡ false
or_none true b e f = cc
or_none false b e f = f

first_of_both : (a b : Bool) → (a && b) ≡ true → a ≡ true
first_of_both true b e = refl
first_of_both false b e = e

second_of_both : (a b : Bool) → (a && b) ≡ true → b ≡ true
second_of_both true b e = e
second_of_both false b e = cc

both : (a b : Bool) → a ≡ true → b ≡ true → (a && b) ≡ true
both true b e f = f
both false b e f = e

not_first : (a b : Bool) → a ≡ true → (not a && b) ≡ false
not_first true b e = refl
not_first false b e = cc

not_second : (a b : Bool) → b ≡ false → (a && b) ≡ false
not_second true b e = e
not_second false b e = refl

not_true : (a : Bool) → not a ≡ true → a ≡ false
not_true true e = cc
not_true false e = refl

-- ---- names

alike : (m n : List ℕ) → bytes_eq m n ≡ true → bytes_eq n m ≡ true
alike m n e = (bytes_eq-Decides n m).1 (sym ((bytes_eq-Decides m n).0 e))

unlike : (m n : List ℕ) (b : Bool) → bytes_eq n m ≡ b → bytes_eq m n ≡ false → b ≡ false
unlike m n true e f = cc (alike n m e)
unlike m n false e f = refl

any_within : (p : List ℕ → Bool) (front : List (List ℕ)) (n : List ℕ) (rest : List (List ℕ)) → p n ≡ true → list_any p (front ++ n ∷ rest) ≡ true
any_within p [] n rest e = or_left (p n) _ e
any_within p (m ∷ front) n rest e = or_right (p m) _ (any_within p front n rest e)

any_of_none : (p : List ℕ → Bool) (front : List (List ℕ)) (n : List ℕ) → list_any p front ≡ false → p n ≡ false → list_any p (front ++ n ∷ []) ≡ false
any_of_none p [] n e f = or_none (p n) false f refl
any_of_none p (m ∷ front) n e f =
    let parts = neither (p m) (list_any p front) e in
    or_none (p m) _ parts.0 (any_of_none p front n parts.1 f)

-- a name that stands before stands twice
pub twice : (front : List (List ℕ)) (n : List ℕ) (rest : List (List ℕ)) → list_any (bytes_eq n) front ≡ true → differ (front ++ n ∷ rest) ≡ false
twice [] n rest h = cc
twice (m ∷ front) n rest h = by (bytes_eq n m) refl (twice front n rest)
  where
    by : (b : Bool) → bytes_eq n m ≡ b → (list_any (bytes_eq n) front ≡ true → differ (front ++ n ∷ rest) ≡ false) → differ ((m ∷ front) ++ n ∷ rest) ≡ false
    by true e before = not_first _ _ (any_within (bytes_eq m) front n rest (alike n m e))
    by false e before = not_second _ _ (before (or_only_right (bytes_eq n m) _ e h))

-- a name that does not stand before
pub one_more_name : (front : List (List ℕ)) (n : List ℕ) → differ front ≡ true → list_any (bytes_eq n) front ≡ false → differ (front ++ n ∷ []) ≡ true
one_more_name [] n d h = refl
one_more_name (m ∷ front) n d h =
    let apart = neither (bytes_eq n m) (list_any (bytes_eq n) front) h in
    let before = not_true _ (first_of_both (not (list_any (bytes_eq m) front)) (differ front) d) in
    both _ _ (ap not (any_of_none (bytes_eq m) front n before (unlike n m (bytes_eq m n) refl apart.0)))
    (one_more_name front n (second_of_both (not (list_any (bytes_eq m) front)) (differ front) d) apart.1)

-- ---- the parameters of a macro

insert_kept : (t : Bool) (keys more new : List (List ℕ)) (added : Bool) → new ≡ (if t then keys else more) → added ≡ not t → added ≡ true → (t ≡ false) × (new ≡ more)
insert_kept true keys more new added e f g = (cc, cc)
insert_kept false keys more new added e f g = (refl, e)

-- a name that a set did not have
pub name_kept : (keys new : List (List ℕ)) (n : List ℕ) (added : Bool) → new ≡ insert_key bytes_eq keys n → added ≡ not (list_any (bytes_eq n) keys) → added ≡ true
    → (list_any (bytes_eq n) keys ≡ false) × (new ≡ keys ++ n ∷ [])
name_kept keys new n added e f g = insert_kept (list_any (bytes_eq n) keys) keys (keys ++ n ∷ []) new added e f g

-- a name that it had
pub name_found : (keys : List (List ℕ)) (n : List ℕ) (added : Bool) → added ≡ not (list_any (bytes_eq n) keys) → added ≡ false → list_any (bytes_eq n) keys ≡ true
name_found keys n added e f = by (list_any (bytes_eq n) keys) (sym e ∙ f)
  where
    by : (t : Bool) → not t ≡ false → t ≡ true
    by true e = refl
    by false e = cc

-- the names of some parameters around one
pub names_around : (ps : List (List ℕ × Option Tree)) (i : ℕ) (p : List ℕ × Option Tree) → i < length ps → p ≡ get_or ps i p
    → names_of ps ≡ names_of (take i ps) ++ p.0 ∷ names_of (drop (suc i) ps)
names_around [] i p h e = absurd (omega arith)
names_around (q ∷ ps) zero p h e = ap (λ r. r.0 ∷ names_of ps) (sym e)
names_around (q ∷ ps) (suc i) p h e = ap (λ ns. q.0 ∷ ns) (names_around ps i p (omega arith) e)

-- and up to it
pub names_with : (ps : List (List ℕ × Option Tree)) (i : ℕ) (p : List ℕ × Option Tree) → i < length ps → p ≡ get_or ps i p
    → names_of (take (i + 1) ps) ≡ names_of (take i ps) ++ p.0 ∷ []
names_with ps i p h e = map_more (λ p. p.0) ps i p h ∙ ap (λ q. names_of (take i ps) ++ q.0 ∷ []) (sym e)

-- A file is taken in piece by piece.
use Rattle.std.proofs.Common.{◌≡◌, ◌∙◌, ℕ, List, [], ◌++◌, ◌+◌, ◌≤◌, length, take, drop, Option, Some, None, ap, sym, subst, arith, append_assoc}
use Rattle.std.proofs.lemmas.List.{append-nil, length-append, take-append-drop, length-take-le}
use Rattle.apt_shelf.specs.Told.{Contents, Takes}
use Rattle.apt_shelf.specs.Files.{HoldsAt, HasRead}

-- what holds however a file goes on
pub holds_still : (P : List ℕ → Type 0) (front piece : List ℕ) → ((more : List ℕ) → P (front ++ more)) → (more : List ℕ) → P (front ++ piece ++ more)
holds_still P front piece holds more = subst P (sym (append_assoc front piece more)) (holds (piece ++ more))

pub holds_whole : (P : List ℕ → Type 0) (front : List ℕ) → ((more : List ℕ) → P (front ++ more)) → P front
holds_whole P front holds = subst P (append-nil front) (holds [])

-- ---- from a shelf

-- no byte is read at its end
pub all_read : (t : Option Contents) (name : List ℕ) (left now : Option (List ℕ)) (n : ℕ) (buf front : List ℕ) → HasRead t name left front → Takes left now n buf → n ≡ 0 → HoldsAt t name front
all_read None name left now n buf front has takes none = tt
all_read (Some m) name left now n buf front has takes none =
    let t : Takes (Some has.0) now n buf = subst (λ l. Takes l now n buf) has.1 takes in
    has.2 ∙ ap (λ rest. Some (front ++ rest)) (t.3 none) ∙ ap Some (append-nil front)

pub read_more : (t : Option Contents) (name : List ℕ) (left now : Option (List ℕ)) (n : ℕ) (buf front : List ℕ) → HasRead t name left front → Takes left now n buf → HasRead t name now (front ++ take n buf)
read_more None name left now n buf front has takes = tt
read_more (Some m) name left now n buf front has takes =
    let t : Takes (Some has.0) now n buf = subst (λ l. Takes l now n buf) has.1 takes in
    let whole : (front ++ take n buf) ++ drop n has.0 ≡ front ++ has.0 =
    append_assoc front (take n buf) (drop n has.0) ∙ ap (λ p. front ++ (p ++ drop n has.0)) t.1 ∙ ap (λ r. front ++ r) (take-append-drop n has.0) in
    (drop n has.0, t.2, has.2 ∙ ap Some (sym whole))

pub counted_more : (count n : ℕ) (buf front : List ℕ) → count ≡ length front → n ≤ length buf → count + n ≡ length (front ++ take n buf)
counted_more count n buf front is fits = omega (arith, is, length-append front (take n buf), length-take-le n buf fits)

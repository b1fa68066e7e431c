-- Two texts, byte by byte.
use Rattle.std.specs.Prelude.{◌≡◌, ◌≢◌, ℕ, ◌+◌, ◌<◌, ◌≤◌, ◌&&◌, nat_eq, Bool, true, false, List, [], ◌∷◌, length, drop, refl}
use Rattle.std.proofs.Common.{bytes_eq, arith, get_or}
use Rattle.std.proofs.lemmas.List.{drop_more}
use Rattle.std.proofs.lemmas.Bool.Decides.{nat_tests}
use Rattle.std.proofs.Math.ListN.{drop_of_length-le}

-- whether two texts are the same from a place on
abbrev pub same_from : List ℕ → List ℕ → ℕ → Bool
same_from xs ys i = bytes_eq (drop i xs) (drop i ys)

both : (a b : Bool) → a ≡ true → b ≡ (a && b)
both true b e = refl
both false b e = cc

neither : (a b : Bool) → a ≡ false → (a && b) ≡ false
neither true b e = cc
neither false b e = refl

and_false : (a b : Bool) → b ≡ false → (a && b) ≡ false
and_false true b e = e
and_false false b e = refl

-- a byte that is the same
pub goes_on : (xs ys : List ℕ) (i d e : ℕ) → i < length xs → length xs ≡ length ys → get_or xs i d ≡ get_or ys i e
    → same_from xs ys (i + 1) ≡ same_from xs ys i
goes_on xs ys i d e h k same =
    rw (drop_more xs i d h, drop_more ys i e (omega (arith, h, k)))
    (both (nat_eq (get_or xs i d) (get_or ys i e)) (bytes_eq (drop (i + 1) xs) (drop (i + 1) ys)) (grind (arith, nat_tests)))

-- a byte that is another
pub differs : (xs ys : List ℕ) (i d e : ℕ) → i < length xs → length xs ≡ length ys → get_or xs i d ≢ get_or ys i e → same_from xs ys i ≡ false
differs xs ys i d e h k other =
    rw (drop_more xs i d h, drop_more ys i e (omega (arith, h, k)))
    (neither (nat_eq (get_or xs i d) (get_or ys i e)) (bytes_eq (drop (i + 1) xs) (drop (i + 1) ys)) (grind (arith, nat_tests)))

-- no byte more
pub ends : (xs ys : List ℕ) (i : ℕ) → length xs ≡ length ys → length xs ≤ i → same_from xs ys i ≡ true
ends xs ys i k h =
    let past : length ys ≤ i = omega (arith, k, h) in
    rw (drop_of_length-le xs h, drop_of_length-le ys past) refl

pub other_length : (xs ys : List ℕ) → length xs ≢ length ys → bytes_eq xs ys ≡ false
other_length [] [] k = absurd (k refl)
other_length [] (y ∷ ys) k = refl
other_length (x ∷ xs) [] k = refl
other_length (x ∷ xs) (y ∷ ys) k = and_false (nat_eq x y) (bytes_eq xs ys) (other_length xs ys (omega (arith, k)))

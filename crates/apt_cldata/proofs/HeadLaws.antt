-- The head of a file is read as what was written, in either version, and only as that.
use Rattle.std.proofs.Common.{◌≡◌, ℕ, ◌+◌, ◌^◌, ◌≤◌, ◌<◌, ◌==◌, nat_lt, false, cond, Option, Some, None, List, [], ◌∷◌, ◌++◌, length, take, drop, Ok, Err, refl, ap, sym, ◌∙◌, subst, arith, take-append-drop}
use Rattle.std.specs.Prelude.{codes}
use Rattle.std.specs.Int.{w64, to_be_bytes, from_be_bytes}
use Rattle.std.proofs.lemmas.Bool.Decides.{nat_tests}
use Rattle.std.proofs.lemmas.List.{length-append, length-drop, length-take-le, take_at, drop_at}
use Rattle.std.proofs.lemmas.Nat.{from_be_bytes-to_be_bytes_8, be_bytes_8}
use Rattle.apt_cldata.specs.Files.{count_bytes, head_of}
use Rattle.apt_cldata.specs.Reading.{cut_short, behind_head, Head, head, count_in, numbered, versioned, head_in}
use Rattle.apt_cldata.proofs.FieldLaws.{bind_only, equal_test, pick, pick_both}
use Rattle.apt_cldata.proofs.ByteLaws.{AreBytes, bytes_behind, bytes_in_front}

pub head_only : (at : ℕ) (hs bytes rest : List ℕ) → behind_head at hs bytes ≡ Ok rest → bytes ≡ hs ++ rest
head_only at [] bytes rest e = cc
head_only at (h ∷ hs) [] rest e = absurd (cc)
head_only at (h ∷ hs) (b ∷ bytes) rest e =
    pick (b == h) _ _ _ (λ is e. (λ i. equal_test b h is i ∷ head_only (at + 1) hs bytes rest e i)) (λ bad. absurd (cc)) e

-- ---- the number

count_again : (n : ℕ) (rest : List ℕ) → n < 2 ^ 64 → count_in (count_bytes n ++ rest) ≡ n
unfolding count_in count_bytes
count_again n rest f = ap (from_be_bytes w64) (take_at (to_be_bytes w64 n) rest 8 refl) ∙ from_be_bytes-to_be_bytes_8 n f

pub count_length : (n : ℕ) → length (count_bytes n) ≡ 8
unfolding count_bytes
count_length n = refl

count_only : (bytes : List ℕ) → 8 ≤ length bytes → AreBytes bytes → count_bytes (count_in bytes) ≡ take 8 bytes
unfolding count_in count_bytes
count_only bytes long h =
    let front = bytes_in_front 8 bytes h in
    be_bytes_8 (take 8 bytes) (from_be_bytes w64 (take 8 bytes)) (length-take-le 8 bytes long) front.small refl

-- what stands behind a head
pub behind_count : (n : ℕ) (rest : List ℕ) → drop 16 (head_of n ++ rest) ≡ rest
behind_count n rest = drop_at (count_bytes n) rest 8 (count_length n)

not_less : (a b : ℕ) → b ≤ a → nat_lt a b ≡ false
not_less a b h = grind (arith, nat_tests)

not_less_only : (a b : ℕ) → nat_lt a b ≡ false → b ≤ a
not_less_only a b h = grind (arith, nat_tests)

numbered_again : (n at : ℕ) (rest : List ℕ) → n < 2 ^ 64 → numbered at (count_bytes n ++ rest) ≡ Ok (head (Some n) (at + 8) rest)
numbered_again n at rest f =
    ap (λ t. cond t (Err (cut_short at (count_bytes n ++ rest))) (Ok (head (Some (count_in (count_bytes n ++ rest))) (at + 8) (drop 8 (count_bytes n ++ rest)))))
    (not_less (length (count_bytes n ++ rest)) 8 (omega (arith, length-append (count_bytes n) rest, count_length n)))
    ∙ (λ i. Ok (head (Some (count_again n rest f i)) (at + 8) (drop_at (count_bytes n) rest 8 (count_length n) i)))

-- ---- what was written is read

pub second_head : (n : ℕ) (rest : List ℕ) → n < 2 ^ 64 → head_in (head_of n ++ rest) ≡ Ok (head (Some n) 16 rest)
second_head n rest f = numbered_again n 8 rest f

pub first_head : (rest : List ℕ) → head_in (codes "APTCL 1\n" ++ rest) ≡ Ok (head None 8 rest)
first_head rest = refl

-- ---- only what was written is read

-- the bytes of a head that tells a number, or none, and those behind it
abbrev pub HeadBy : List ℕ → List ℕ → Option ℕ → Type 0
HeadBy bytes rest None = bytes ≡ codes "APTCL 1\n" ++ rest
HeadBy bytes rest (Some n) = bytes ≡ head_of n ++ rest

pub record HasHead (bytes : List ℕ) (h : Head) : Type 0 where
  pub written : HeadBy bytes h.rest h.number
  pub small : AreBytes h.rest

numbered_only : (at : ℕ) (bytes : List ℕ) (h : Head) → AreBytes bytes → numbered at bytes ≡ Ok h → HasHead (codes "APTCL 2\n" ++ bytes) h
numbered_only at bytes h small e =
    pick_both (nat_lt (length bytes) 8) _ _ _ (λ short bad. absurd (cc))
    (λ long is.
    let there = not_less_only (length bytes) 8 long in
    let it : head (Some (count_in bytes)) (at + 8) (drop 8 bytes) ≡ h = cc in
    subst (HasHead (codes "APTCL 2\n" ++ bytes)) it (record {
      written = ap (λ bs. codes "APTCL 2\n" ++ bs) (sym (take-append-drop 8 bytes) ∙ ap (λ front. front ++ drop 8 bytes) (sym (count_only bytes there small)));
      small = bytes_behind 8 bytes small;
    }))
    e

behind_line : (b : ℕ) (bytes rest : List ℕ) → AreBytes (b ∷ bytes) → bytes ≡ 10 ∷ rest → AreBytes rest
behind_line b bytes rest small is = subst AreBytes (ap (drop 1) is) (bytes_behind 1 bytes (bytes_behind 1 (b ∷ bytes) small))

versioned_only : (at : ℕ) (bytes : List ℕ) (h : Head) → AreBytes bytes → versioned at bytes ≡ Ok h → HasHead (codes "APTCL " ++ bytes) h
versioned_only at [] h small e = absurd (cc)
versioned_only at (b ∷ bytes) h small e =
    pick_both (b == 49) _ _ _
    (λ first e.
    let a = bind_only (behind_head (at + 1) (10 ∷ []) bytes) _ h e in
    let is : bytes ≡ 10 ∷ a.0 = head_only (at + 1) (10 ∷ []) bytes a.0 a.1 in
    let it : head None (at + 2) a.0 ≡ h = cc in
    subst (HasHead (codes "APTCL " ++ b ∷ bytes)) it (record { written = (λ i. codes "APTCL " ++ equal_test b 49 first i ∷ is i); small = behind_line b bytes a.0 small is }))
    (λ other. pick_both (b == 50) _ _ _
    (λ second e.
    let a = bind_only (behind_head (at + 1) (10 ∷ []) bytes) _ h e in
    let is : bytes ≡ 10 ∷ a.0 = head_only (at + 1) (10 ∷ []) bytes a.0 a.1 in
    subst (λ bs. HasHead bs h) (λ i. codes "APTCL " ++ sym (equal_test b 50 second) i ∷ sym is i) (numbered_only (at + 2) a.0 h (behind_line b bytes a.0 small is) a.2))
    (λ none bad. absurd (cc)))
    e

pub head_in_only : (bytes : List ℕ) (h : Head) → AreBytes bytes → head_in bytes ≡ Ok h → HasHead bytes h
head_in_only bytes h small e =
    let a = bind_only (behind_head 0 (codes "APTCL ") bytes) _ h e in
    let is = head_only 0 (codes "APTCL ") bytes a.0 a.1 in
    let rest_small : AreBytes a.0 = subst AreBytes (ap (drop 6) is) (bytes_behind 6 bytes small) in
    subst (λ bs. HasHead bs h) (sym is) (versioned_only 6 a.0 h rest_small a.2)

-- ---- the place behind a head

numbered_there : (at : ℕ) (bytes : List ℕ) (h : Head) → numbered at bytes ≡ Ok h → h.at + length h.rest ≡ at + length bytes
numbered_there at bytes h e =
    pick_both (nat_lt (length bytes) 8) _ _ _ (λ short bad. absurd (cc))
    (λ long is.
    let there = not_less_only (length bytes) 8 long in
    let it : head (Some (count_in bytes)) (at + 8) (drop 8 bytes) ≡ h = cc in
    subst (λ (h : Head). h.at + length h.rest ≡ at + length bytes) it (omega (arith, length-drop 8 bytes)))
    e

versioned_there : (at : ℕ) (bytes : List ℕ) (h : Head) → versioned at bytes ≡ Ok h → h.at + length h.rest ≡ at + length bytes
versioned_there at [] h e = absurd (cc)
versioned_there at (b ∷ bytes) h e =
    pick_both (b == 49) _ _ _
    (λ first e.
    let a = bind_only (behind_head (at + 1) (10 ∷ []) bytes) _ h e in
    let is = ap length (head_only (at + 1) (10 ∷ []) bytes a.0 a.1) in
    let it : head None (at + 2) a.0 ≡ h = cc in
    subst (λ (h : Head). h.at + length h.rest ≡ at + length (b ∷ bytes)) it (omega (arith, is)))
    (λ other. pick_both (b == 50) _ _ _
    (λ second e.
    let a = bind_only (behind_head (at + 1) (10 ∷ []) bytes) _ h e in
    let is = ap length (head_only (at + 1) (10 ∷ []) bytes a.0 a.1) in
    omega (arith, is, numbered_there (at + 2) a.0 h a.2))
    (λ none bad. absurd (cc)))
    e

pub head_there : (bytes : List ℕ) (h : Head) → head_in bytes ≡ Ok h → h.at + length h.rest ≡ length bytes
head_there bytes h e =
    let a = bind_only (behind_head 0 (codes "APTCL ") bytes) _ h e in
    let is = ap length (head_only 0 (codes "APTCL ") bytes a.0 a.1) in
    omega (arith, is, versioned_there 6 a.0 h a.2)

-- a head is not empty
pub head_place : (bytes : List ℕ) (h : Head) → head_in bytes ≡ Ok h → 8 ≤ h.at
head_place bytes h e =
    let a = bind_only (behind_head 0 (codes "APTCL ") bytes) _ h e in
    versioned_place 6 a.0 h a.2
  where
    numbered_place : (at : ℕ) (bytes : List ℕ) (h : Head) → numbered at bytes ≡ Ok h → at ≤ h.at
    numbered_place at bytes h e =
        pick_both (nat_lt (length bytes) 8) _ _ _ (λ short bad. absurd (cc))
        (λ long is.
        let it : head (Some (count_in bytes)) (at + 8) (drop 8 bytes) ≡ h = cc in
        subst (λ (h : Head). at ≤ h.at) it (omega arith))
        e

    versioned_place : (at : ℕ) (bytes : List ℕ) (h : Head) → versioned at bytes ≡ Ok h → at + 2 ≤ h.at
    versioned_place at [] h e = absurd (cc)
    versioned_place at (b ∷ bytes) h e =
        pick_both (b == 49) _ _ _
        (λ first e.
        let a = bind_only (behind_head (at + 1) (10 ∷ []) bytes) _ h e in
        let it : head None (at + 2) a.0 ≡ h = cc in
        subst (λ (h : Head). at + 2 ≤ h.at) it (omega arith))
        (λ other. pick_both (b == 50) _ _ _
        (λ second e.
        let a = bind_only (behind_head (at + 1) (10 ∷ []) bytes) _ h e in
        numbered_place (at + 2) a.0 h a.2)
        (λ none bad. absurd (cc)))
        e

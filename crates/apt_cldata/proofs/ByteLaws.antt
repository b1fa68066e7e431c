-- Numbers are read from their bytes, and bytes are those of the number that is read.
use Rattle.std.proofs.Common.{◌≡◌, ℕ, zero, suc, ◌+◌, ◌*◌, ◌^◌, ◌≤◌, ◌<◌, ℤ, pos, negsuc, List, [], ◌∷◌, ◌++◌, length, get_or, take, drop, refl, ap, sym, ◌∙◌, subst, arith, append_assoc, lit<, inl, inr}
use Rattle.std.proofs.lemmas.Bool.{cases_lt}
use Rattle.std.specs.Prelude.{FitsSigned}
use Rattle.std.specs.List.{flat_map}
use Rattle.std.specs.Int.{w32, w64, to_be_bytes, from_be_bytes, cast_unsigned, cast_signed}
use Rattle.std.proofs.Math.Facts.{sfits_to_z}
use Rattle.std.proofs.Math.Seq.{take-add}
use Rattle.std.proofs.lemmas.Int.{to_z-of_z, of_z-to_z}
use Rattle.std.proofs.lemmas.Nat.{from_be_bytes-to_be_bytes_4, from_be_bytes-to_be_bytes_8, be_bytes_4, be_bytes_8}
use Rattle.std.proofs.lemmas.List.{take_at, drop_at, get_or-drop, get_or-take, length-drop, length-take, length-take-le, length-append}
use Rattle.apt_cldata.specs.Files.{length_bytes, word_bytes}
use Rattle.apt_cldata.specs.Reading.{length_in, word_in, words_in}
use Rattle.apt_words.proofs.Bytes.{cast_fits}

-- every number of a list is a byte
pub record AreBytes (bytes : List ℕ) : Type 0 where
  pub small : (i : ℕ) → get_or bytes i 0 < 256

pub bytes_behind : (n : ℕ) (bytes : List ℕ) → AreBytes bytes → AreBytes (drop n bytes)
bytes_behind n bytes h = record { small = λ i. subst (λ b. b < 256) (sym (get_or-drop n bytes i 0)) (h.small (n + i)) }

past_the_end : (bytes : List ℕ) (i : ℕ) → length bytes ≤ i → get_or bytes i 0 < 256
past_the_end [] i h = lit< tt
past_the_end (b ∷ bytes) zero h = absurd (omega arith)
past_the_end (b ∷ bytes) (suc i) h = past_the_end bytes i (omega arith)

pub bytes_in_front : (n : ℕ) (bytes : List ℕ) → AreBytes bytes → AreBytes (take n bytes)
bytes_in_front n bytes h = record {
  small = λ i.
      elim (cases_lt i n) [
        | inl below ↦ subst (λ b. b < 256) (sym (get_or-take n bytes i 0 below)) (h.small i)
        | inr past ↦ past_the_end (take n bytes) i (omega (arith, length-take n bytes))
      ];
}

-- ---- one number

pub word_length : (w : ℤ) → length (word_bytes w) ≡ 8
unfolding word_bytes
word_length w = refl

pub length_length : (n : ℕ) → length (length_bytes n) ≡ 4
unfolding length_bytes
length_length n = refl

pub word_again : (w : ℤ) (rest : List ℕ) → FitsSigned w64 w → word_in (word_bytes w ++ rest) ≡ w
unfolding word_in word_bytes
word_again w rest f =
    ap (λ bs. cast_signed w64 (from_be_bytes w64 bs)) (take_at (to_be_bytes w64 (cast_unsigned w64 w)) rest 8 refl)
    ∙ ap (cast_signed w64) (from_be_bytes-to_be_bytes_8 (cast_unsigned w64 w) (cast_fits w f))
    ∙ to_z-of_z w64 w f

pub length_again : (n : ℕ) (rest : List ℕ) → n < 2 ^ 32 → length_in (length_bytes n ++ rest) ≡ n
unfolding length_in length_bytes
length_again n rest f = ap (from_be_bytes w32) (take_at (to_be_bytes w32 n) rest 4 refl) ∙ from_be_bytes-to_be_bytes_4 n f

from_eight : (bs : List ℕ) → AreBytes bs → from_be_bytes w64 bs < 2 ^ 64
from_eight bs h = omega (arith, h.small 0, h.small 1, h.small 2, h.small 3, h.small 4, h.small 5, h.small 6, h.small 7)

pub word_fits : (bytes : List ℕ) → AreBytes bytes → FitsSigned w64 (word_in bytes)
unfolding word_in
word_fits bytes h = sfits_to_z (record { fits = from_eight (take 8 bytes) (bytes_in_front 8 bytes h) })

pub word_only : (bytes : List ℕ) → 8 ≤ length bytes → AreBytes bytes → word_bytes (word_in bytes) ≡ take 8 bytes
unfolding word_in word_bytes
word_only bytes long h =
    let front = bytes_in_front 8 bytes h in
    ap (to_be_bytes w64) (of_z-to_z w64 (from_be_bytes w64 (take 8 bytes)) (from_eight (take 8 bytes) front))
    ∙ be_bytes_8 (take 8 bytes) (from_be_bytes w64 (take 8 bytes)) (length-take-le 8 bytes long) front.small refl

pub length_only : (bytes : List ℕ) → 4 ≤ length bytes → AreBytes bytes → length_bytes (length_in bytes) ≡ take 4 bytes
unfolding length_in length_bytes
length_only bytes long h =
    let front = bytes_in_front 4 bytes h in
    be_bytes_4 (take 4 bytes) (from_be_bytes w32 (take 4 bytes)) (length-take-le 4 bytes long) front.small refl

-- ---- words

abbrev pub AllFit : List ℤ → Type 0
AllFit [] = Unit {0}
AllFit (w ∷ ws) = FitsSigned w64 w × AllFit ws

pub words_length : (ws : List ℤ) → length (flat_map word_bytes ws) ≡ 8 * length ws
words_length [] = refl
words_length (w ∷ ws) = omega (arith, length-append (word_bytes w) (flat_map word_bytes ws), word_length w, words_length ws)

pub words_again : (ws : List ℤ) (rest : List ℕ) → AllFit ws → words_in (length ws) (flat_map word_bytes ws ++ rest) ≡ ws
words_again [] rest f = refl
words_again (w ∷ ws) rest f =
    let bytes = flat_map word_bytes ws ++ rest in
    ap (λ bs. word_in bs ∷ words_in (length ws) (drop 8 bs)) (append_assoc (word_bytes w) (flat_map word_bytes ws) rest)
    ∙ ap (λ v. v ∷ words_in (length ws) (drop 8 (word_bytes w ++ bytes))) (word_again w bytes f.0)
    ∙ ap (λ bs. w ∷ words_in (length ws) bs) (drop_at (word_bytes w) bytes 8 (word_length w))
    ∙ ap (λ ws. w ∷ ws) (words_again ws rest f.1)

pub words_only : (n : ℕ) (bytes : List ℕ) → 8 * n ≤ length bytes → AreBytes bytes → flat_map word_bytes (words_in n bytes) ≡ take (8 * n) bytes
words_only zero bytes long h = refl
words_only (suc n) bytes long h =
    let more = words_only n (drop 8 bytes) (omega (arith, length-drop 8 bytes)) (bytes_behind 8 bytes h) in
    let e : 8 + 8 * n ≡ 8 * suc n = omega arith in
    ap (λ bs. bs ++ flat_map word_bytes (words_in n (drop 8 bytes))) (word_only bytes (omega arith) h)
    ∙ ap (λ bs. take 8 bytes ++ bs) more
    ∙ sym (take-add 8 (8 * n) bytes)
    ∙ ap (λ k. take k bytes) e

pub words_count : (n : ℕ) (bytes : List ℕ) → length (words_in n bytes) ≡ n
words_count zero bytes = refl
words_count (suc n) bytes = ap suc (words_count n (drop 8 bytes))

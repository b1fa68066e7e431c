-- The block of an arc that can be written is a block.
use Rattle.std.specs.Prelude.{ℕ, ℤ, Bool, true, false, List, [], ◌∷◌, ◌++◌, drop, Option}
use Rattle.std.proofs.Common.{refl, arith}
use Rattle.apt_block.specs.declared.block.TapeWord.{TapeWord}
use Rattle.apt_block.specs.Block.{forms, tape_word, CanStand, IsBlock, letter_x, letter_y, letter_z, letter_i, letter_j, letter_f}
use Rattle.apt_post.specs.Blocks.{IsCoordinate, IsUpTo}
use Rattle.apt_post.proofs.Numbers.{number_words, IsNumber}
use Rattle.apt_post.proofs.Standing.{fits_coordinate, fits_number, told, moves_told, IsMotion, move-stands, move-begins_behind, behind-IsBlock}

-- G03 to the left, else G02
abbrev pub round_code : Bool → ℕ
round_code true = 3
round_code false = 2

round-IsMotion : (left : Bool) → IsMotion (round_code left)
round-IsMotion true = record { small = omega arith; alone = refl; behind_90 = refl; behind_91 = refl }
round-IsMotion false = record { small = omega arith; alone = refl; behind_90 = refl; behind_91 = refl }

-- the words behind x, of which those of the centre always stand
abbrev pub centre_told : Bool → ℤ → ℤ → ℤ → List TapeWord
centre_told d i j feed = tape_word letter_i i ∷ tape_word letter_j j ∷ told d (tape_word letter_f feed) []

abbrev pub behind_x : Bool → Bool → Bool → ℤ → ℤ → ℤ → ℤ → ℤ → List TapeWord
behind_x b c d y z i j feed = told b (tape_word letter_y y) (told c (tape_word letter_z z) (centre_told d i j feed))

-- the words of an arc, each written or not
abbrev pub round_words : Bool → Bool → ℕ → Bool → Bool → Bool → Bool → ℤ → ℤ → ℤ → ℤ → ℤ → ℤ → List TapeWord
round_words before ways code a b c d x y z i j feed = moves_told before ways code a (tape_word letter_x x) (behind_x b c d y z i j feed)

centre-stands : (before : List TapeWord) (d : Bool) (i j feed : ℤ) → IsCoordinate i → IsCoordinate j → IsUpTo 9999 feed → CanStand (drop 9 forms) before (centre_told d i j feed)
centre-stands before true i j feed p q r = (fits_coordinate letter_i i p, refl, (fits_coordinate letter_j j q, refl, (fits_number letter_f 1 4 9999 feed r, refl, tt)))
centre-stands before false i j feed p q r = (fits_coordinate letter_i i p, refl, (fits_coordinate letter_j j q, refl, tt))

z-stands : (before : List TapeWord) (c d : Bool) (z i j feed : ℤ) → IsCoordinate z → IsCoordinate i → IsCoordinate j → IsUpTo 9999 feed
    → CanStand (drop 8 forms) before (told c (tape_word letter_z z) (centre_told d i j feed))
z-stands before true d z i j feed o p q r = (fits_coordinate letter_z z o, refl, centre-stands (before ++ tape_word letter_z z ∷ []) d i j feed p q r)
z-stands before false d z i j feed o p q r = centre-stands before d i j feed p q r

y-stands : (before : List TapeWord) (b c d : Bool) (y z i j feed : ℤ) → IsCoordinate y → IsCoordinate z → IsCoordinate i → IsCoordinate j → IsUpTo 9999 feed
    → CanStand (drop 7 forms) before (behind_x b c d y z i j feed)
y-stands before true c d y z i j feed n o p q r = (fits_coordinate letter_y y n, refl, z-stands (before ++ tape_word letter_y y ∷ []) c d z i j feed o p q r)
y-stands before false true d y z i j feed n o p q r = z-stands before true d z i j feed o p q r
y-stands before false false d y z i j feed n o p q r = centre-stands before d i j feed p q r

pub round-IsBlock : (n : Option ℕ) (before ways left a b c d : Bool) (x y z i j feed : ℤ) → IsNumber n
    → IsCoordinate x → IsCoordinate y → IsCoordinate z → IsCoordinate i → IsCoordinate j → IsUpTo 9999 feed
    → IsBlock (number_words n ++ round_words before ways (round_code left) a b c d x y z i j feed)
round-IsBlock n before ways left a b c d x y z i j feed is p q r s t u =
    behind-IsBlock n (round_words before ways (round_code left) a b c d x y z i j feed) is
    (move-begins_behind before ways a (round_code left) (tape_word letter_x x) _ refl)
    (move-stands n before ways a (round_code left) x _ (round-IsMotion left) p (λ front. y-stands front b c d y z i j feed q r s t u))

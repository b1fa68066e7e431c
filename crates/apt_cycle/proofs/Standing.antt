-- The block of a hole that can be written, and that of G80, are blocks.
use Rattle.std.specs.Prelude.{◌≡◌, ℕ, true, false, List, [], ◌∷◌, ◌++◌, drop, Option, Some, None}
use Rattle.std.proofs.Common.{refl, arith}
use Rattle.apt_block.specs.declared.block.TapeWord.{TapeWord}
use Rattle.apt_block.specs.Block.{forms, tape_word, CanStand, IsBlock, code_fault, letter_g, letter_x, letter_y, letter_z, letter_r, letter_f}
use Rattle.apt_control.specs.declared.held.Held.{Held}
use Rattle.apt_post.specs.Blocks.{g}
use Rattle.apt_post.proofs.Numbers.{number_words, IsNumber}
use Rattle.apt_post.proofs.Standing.{fits_code, fits_coordinate, fits_number, IsMotion, move-stands, move-begins_behind, behind-IsBlock}
use Rattle.apt_cycle.specs.declared.hole.Hole.{Hole}
use Rattle.apt_cycle.specs.Holes.{hole_words}
use Rattle.apt_cycle.proofs.Holes.{CanBore}

cycle-IsMotion : IsMotion 81
cycle-IsMotion = record { small = omega arith; alone = refl; behind_90 = refl; behind_91 = refl }

behind_x-stand : (front : List TapeWord) (hole : Hole) → CanBore hole
    → CanStand (drop 7 forms) front (tape_word letter_y hole.y ∷ tape_word letter_z hole.bottom ∷ tape_word letter_r hole.top ∷ tape_word letter_f hole.feed ∷ [])
behind_x-stand front hole can =
    (fits_coordinate letter_y hole.y can.y, refl, (fits_coordinate letter_z hole.bottom can.bottom, refl, (fits_coordinate letter_r hole.top can.top, refl, (fits_number letter_f 1 4 9999 hole.feed can.feed, refl, tt))))

pub hole-IsBlock : (n : Option ℕ) (held : Held) (hole : Hole) → IsNumber n → CanBore hole → IsBlock (number_words n ++ hole_words held hole)
hole-IsBlock n held hole small can =
    behind-IsBlock n (hole_words held hole) small
    (move-begins_behind held.incremental false true 81 (tape_word letter_x hole.x) _ refl)
    (move-stands n held.incremental false true 81 hole.x _ cycle-IsMotion can.x (λ front. behind_x-stand front hole can))

close-alone : (n : Option ℕ) → code_fault (number_words n) letter_g 80 ≡ None
close-alone None = refl
close-alone (Some n) = refl

pub close-IsBlock : (n : Option ℕ) → IsNumber n → IsBlock (number_words n ++ g 80 ∷ [])
close-IsBlock n small = behind-IsBlock n (g 80 ∷ []) small refl (fits_code letter_g 80 (omega arith), close-alone n, tt)

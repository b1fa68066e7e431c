-- Worked numbers: roots, nearest quotients and signs.
use Rattle.std.proofs.Common.{refl, ◌≡◌, ◌-◌, ◌*◌, ◌^◌, pos, neg_ℤ}
use Rattle.apt_num.specs.Near.{near}
use Rattle.apt_num.specs.Root.{root, root_near}
use Rattle.apt_num.specs.Sign.{root_sign_of}
use Rattle.apt_num.specs.declared.Sign.TheVariants.{Minus, Zero, Plus}

root_of_none : root 0 ≡ 0
unfolding root
root_of_none = refl

root_of_square : root 169 ≡ 13
unfolding root
root_of_square = refl

root_past_square : root 173 ≡ 13
unfolding root
root_past_square = refl

root_of_two : root (2 * 2 ^ 70) ≡ 48592007999
unfolding root
root_of_two = refl

root_of_long : root (2 * 10 ^ 16 * 2 ^ 70) ≡ 4859200799961679507
unfolding root
root_of_long = refl

root_of_power : root (2 ^ 127) ≡ 13043817825332782212
unfolding root
root_of_power = refl

root_of_most : root (2 ^ 128 - 1) ≡ 2 ^ 64 - 1
unfolding root
root_of_most = refl

near_root_of_twelve : root_near 12 ≡ 3
unfolding root
near_root_of_twelve = refl

near_root_of_thirteen : root_near 13 ≡ 4
unfolding root
near_root_of_thirteen = refl

half_up : near (pos 5) (pos 2) ≡ pos 3
half_up = refl

half_down : near (pos 5) (neg_ℤ (pos 2)) ≡ neg_ℤ (pos 3)
half_down = refl

half_of_one : near (neg_ℤ (pos 1)) (neg_ℤ (pos 2)) ≡ pos 1
half_of_one = refl

below_half : near (neg_ℤ (pos 7)) (pos 3) ≡ neg_ℤ (pos 2)
below_half = refl

sign_at_root : root_sign_of (neg_ℤ (pos 9737311)) (neg_ℤ (pos 1751)) 30924721 ≡ Zero
sign_at_root = refl

sign_below_root : root_sign_of (pos 7) (pos 5) 2 ≡ Minus
sign_below_root = refl

sign_above_root : root_sign_of (neg_ℤ (pos 7)) (neg_ℤ (pos 5)) 2 ≡ Plus
sign_above_root = refl

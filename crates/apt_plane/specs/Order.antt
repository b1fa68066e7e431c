-- The order of directions round a centre.
use Rattle.std.specs.Prelude.{◌≡◌, ◌⊎◌, ℕ, ◌<◌, nat_lt, nat_eq, ℤ, pos, ◌*ℤ◌, ◌<ℤ◌, int_lt, Bool, ◌&&◌, ◌||◌}
use Rattle.apt_num.specs.declared.Sign.{Sign}
use Rattle.apt_num.specs.declared.Sign.TheVariants as signs
use Rattle.apt_num.specs.Sign.{sign_of}
use Rattle.apt_plane.specs.declared.figures.Dir.{Dir}
use Rattle.apt_plane.specs.Vectors.{cross, dot}

-- the class of a direction in a turn that begins at another: that one itself 0, up to a half turn 1, the half turn 2, beyond it 3
abbrev pub class_of : Sign → Sign → ℕ
class_of signs.Plus d = 1
class_of signs.Minus d = 3
class_of signs.Zero signs.Plus = 0
class_of signs.Zero signs.Zero = 2
class_of signs.Zero signs.Minus = 2

abbrev pub turn_class : Dir → ℤ → Dir → ℕ
turn_class s sense u = class_of (sign_of (sense *ℤ cross s u)) (sign_of (dot s u))

-- u comes before v when turning from s in the sense
abbrev pub ComesBefore : Dir → ℤ → Dir → Dir → Type 0
ComesBefore s sense u v =
    (turn_class s sense u < turn_class s sense v)
    ⊎ ((turn_class s sense u ≡ turn_class s sense v) × ((turn_class s sense u ≡ 1) ⊎ (turn_class s sense u ≡ 3)) × (pos 0 <ℤ (sense *ℤ cross u v)))

-- as a test: the lower class comes first, and within one class, up to a half turn or beyond it, what the other lies onwards from
abbrev pub is_earlier : ℕ → ℕ → ℤ → Bool
is_earlier a b onwards = nat_lt a b || (nat_eq a b && (nat_eq a 1 || nat_eq a 3) && int_lt (pos 0) onwards)

abbrev pub is_before : Dir → ℤ → Dir → Dir → Bool
is_before s sense u v = is_earlier (turn_class s sense u) (turn_class s sense v) (sense *ℤ cross u v)

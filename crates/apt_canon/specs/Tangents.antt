-- Lines that touch circles.
use Rattle.std.specs.Prelude.{◌≡◌, ◌-◌, ◌*◌, ◌^◌, nat_lt, ℤ, pos, neg_ℤ, ◌-ℤ◌, ◌*ℤ◌, ◌<ℤ◌, ◌==◌, ◌&&◌, Bool, true, false, Result, Ok, Err, if◌then◌else◌}
use Rattle.apt_num.specs.Root.{root}
use Rattle.apt_num.specs.declared.Sign.{Sign}
use Rattle.apt_num.specs.declared.Sign.TheVariants as signs
use Rattle.apt_num.specs.Sign.{square}
use Rattle.apt_plane.specs.declared.figures.Pt.{Pt}
use Rattle.apt_plane.specs.declared.figures.Dir.{Dir}
use Rattle.apt_plane.specs.declared.figures.Line.{Line}
use Rattle.apt_plane.specs.declared.figures.Circ.{Circ}
use Rattle.apt_plane.specs.Vectors.{displacement, dot, length_squared, perp}
use Rattle.apt_canon.specs.declared.FormFault.{FormFault}
use Rattle.apt_canon.specs.declared.FormFault.TheVariants as faults
use Rattle.apt_canon.specs.Scale.{times, sum, nearest, from, side_of_line}

-- the length of a tangent's direction
abbrev pub tangent_length : ℤ
tangent_length = pos 99999000

-- 1 for a tangent on the left of a circle, as seen on the way to it, and -1 for one on its right
abbrev pub side_of_circle : Bool → ℤ
side_of_circle true = pos 1
side_of_circle false = neg_ℤ (pos 1)

-- along a way, turned so that it falls behind by p to the left over its length: times the length, in units of 2^-30
abbrev pub falling : Dir → ℤ → Dir
falling a p =
    let g = pos (root ((length_squared a - square p) * 2 ^ 60)) in
    sum (times g a) (times (neg_ℤ (p *ℤ pos (2 ^ 30))) (perp a))

abbrev pub fall_divisor : Dir → ℤ
fall_divisor a = pos (length_squared a * 2 ^ 30)

abbrev pub falling_dir : Dir → ℤ → Dir
falling_dir a p = nearest (times tangent_length (falling a p)) (fall_divisor a)

-- ---- from a point to a circle: no tangent from inside

abbrev pub tangent_line : Pt → Bool → Circ → Line
tangent_line p left c = record { base = p; dir = falling_dir (displacement p c.c) (neg_ℤ (side_of_circle left *ℤ c.r)) }

abbrev pub tangent_from : Pt → Bool → Circ → Result Line FormFault
tangent_from p left c =
    if nat_lt (length_squared (displacement p c.c)) (square c.r) then Err faults.NoMeeting else Ok (tangent_line p left c)

-- ---- of two circles, seen from the first to the second

-- how far the tangent comes nearer from the first centre to the second
abbrev pub drop : Circ → Bool → Circ → Bool → ℤ
drop a left_a b left_b = (side_of_circle left_a *ℤ a.r) -ℤ (side_of_circle left_b *ℤ b.r)

-- the touching point on the first circle
abbrev pub touch_point : Circ → Bool → Dir → ℤ → Pt
touch_point a left v m = from a.c (nearest (times (side_of_circle left *ℤ a.r) (perp (falling v m))) (fall_divisor v))

abbrev pub common_tangent : Circ → Bool → Circ → Bool → Line
common_tangent a left_a b left_b =
    let v = displacement a.c b.c in
    let m = drop a left_a b left_b in
    record { base = touch_point a left_a v m; dir = falling_dir v m }

abbrev pub tangent_two : Circ → Bool → Circ → Bool → Result Line FormFault
tangent_two a left_a b left_b =
    let n = length_squared (displacement a.c b.c) in
    let m = square (drop a left_a b left_b) in
    if n == 0 && m == 0 then Err faults.Degenerate
    else (if nat_lt n m then Err faults.NoMeeting else Ok (common_tangent a left_a b left_b))

-- ---- which of the tangents

-- the side of a tangent on which its circle lies: the right of one on the left of the circle, and the left of one on its right
abbrev pub circle_side : Bool → Sign
circle_side true = signs.Minus
circle_side false = signs.Plus

-- a tangent passes a circle on its left for true, and on its right for false
abbrev pub PassesBy : Bool → Line → Circ → Type 0
PassesBy left t c = side_of_line t c.c ≡ circle_side left

-- a line runs on along a way, and not back
abbrev pub RunsAlong : Dir → Line → Type 0
RunsAlong v t = pos 0 <ℤ dot v t.dir

-- What refuses a target.
use Rattle.std.proofs.Common.{refl, sym, ◌≡◌, ◌↔◌, true≢false, arith, true, zero, suc, ℤ, pos, negsuc, ◌-ℤ◌, ◌*ℤ◌}
use Rattle.std.proofs.lemmas.Int.{ints}
use Rattle.apt_num.specs.declared.Sign.{Sign}
use Rattle.apt_num.specs.declared.Sign.TheVariants as signs
use Rattle.apt_num.specs.Sign.{sign_of}
use Rattle.apt_words.specs.declared.Stop.{Stop}
use Rattle.apt_words.specs.declared.Stop.TheVariants as stops
use Rattle.apt_plane.specs.declared.figures.Pt.{Pt}
use Rattle.apt_plane.specs.declared.figures.Surface.{Surface}
use Rattle.apt_plane.specs.declared.figures.Surface.TheVariants as surfaces
use Rattle.apt_plane.specs.Ranges.{IsSurface}
use Rattle.apt_plane.specs.Vectors.{displacement, cross, length_squared}
use Rattle.apt_offset.specs.declared.Target.{Target}
use Rattle.apt_offset.specs.Turns.{opposite, is_zero}
use Rattle.apt_offset.specs.Sides.{side_at, side_at_check, is_on_check}
use Rattle.apt_offset.specs.Ranges.{IsRadius}
use Rattle.apt_offset.specs.Targets.{offset_surface, lacks_room}
use Rattle.apt_offset.specs.Refusals.{IsOn, StartsOn, HasNoRoom}

-- ---- a start on the check surface

zero_alone : (z : ℤ) → is_zero (sign_of z) ≡ true ↔ (z ≡ pos 0)
zero_alone (pos zero) = (λ h. refl, λ h. refl)
zero_alone (pos (suc n)) = (λ h. absurd (true≢false (sym h)), λ h. absurd (omega (arith, ints)))
zero_alone (negsuc n) = (λ h. absurd (true≢false (sym h)), λ h. absurd (omega (arith, ints)))

no_difference : (a b : ℤ) → is_zero (sign_of (a -ℤ b)) ≡ true ↔ (b ≡ a)
no_difference a b =
    let alone = zero_alone (a -ℤ b) in
    (λ h. let none : (a -ℤ b) ≡ pos 0 = alone.0 h in omega (arith, ints), λ h. alone.1 (omega (arith, ints)))

pub opposite-is_zero : (v : Sign) → is_zero (opposite v) ≡ is_zero v
opposite-is_zero signs.Minus = refl
opposite-is_zero signs.Zero = refl
opposite-is_zero signs.Plus = refl

side_on : (s : Surface) (p : Pt) → is_zero (side_at s p) ≡ true ↔ IsOn s p
side_on (surfaces.Line l) p = zero_alone (cross l.dir (displacement l.base p))
side_on (surfaces.Circ c) p = no_difference (c.r *ℤ c.r) (pos (length_squared (displacement c.c p)))

start_on : (check : Surface) (how : Stop) (start : Pt) (drive : Surface) (v : Sign)
    → is_on_check how (side_at_check check how start drive v) ≡ true ↔ StartsOn check how start
start_on check stops.To start drive v = side_on check start
start_on check stops.Past start drive v = rw (opposite-is_zero (side_at check start)) (side_on check start)
start_on check stops.On start drive v = (λ h. absurd (true≢false (sym h)), λ h. absurd h)
start_on check stops.Tanto start drive v = (λ h. absurd (true≢false (sym h)), λ h. absurd h)

-- ---- room

no_room : (s : Surface) (v : Sign) (r : ℤ) → IsSurface s → IsRadius r → lacks_room (offset_surface s v r) ≡ true ↔ HasNoRoom s v r
no_room (surfaces.Line l) v r is radius = (λ h. absurd (true≢false (sym h)), λ h. absurd h)
no_room (surfaces.Circ c) signs.Plus r is radius = (λ h. grind (arith, ints), λ h. grind (arith, ints))
no_room (surfaces.Circ c) signs.Zero r is radius = (λ h. absurd (grind (arith, ints, is.least)), λ h. absurd h)
no_room (surfaces.Circ c) signs.Minus r is radius = (λ h. absurd (grind (arith, ints, is.least, radius.least)), λ h. absurd h)

-- ---- of results

pub starts_on : (x : Sign) (check : Surface) (how : Stop) (start : Pt) (drive : Surface) (v : Sign) → x ≡ side_at_check check how start drive v
    → (is_on_check how x ≡ true) ↔ StartsOn check how start
starts_on x check how start drive v e = rw e (start_on check how start drive v)

pub moved_no_room : (x : Target) (s : Surface) (v : Sign) (r : ℤ) → IsSurface s → IsRadius r → x ≡ offset_surface s v r → (lacks_room x ≡ true) ↔ HasNoRoom s v r
moved_no_room x s v r is radius e = rw e (no_room s v r is radius)

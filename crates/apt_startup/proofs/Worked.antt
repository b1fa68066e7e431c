-- Start-ups worked out by hand, which the definitions compute.
use Rattle.std.proofs.Common.{refl, ◌≡◌, Option, Some, None, ℤ, pos, neg_ℤ, Result, Ok, Err}
use Rattle.apt_num.specs.Root.{root}
use Rattle.apt_words.specs.declared.Stop.{Stop}
use Rattle.apt_words.specs.declared.Stop.TheVariants.{To, On}
use Rattle.apt_words.specs.declared.Case.{Case}
use Rattle.apt_words.specs.declared.Case.TheVariants.{NoRoom, OnCheck, Parallel, NoContact}
use Rattle.apt_words.specs.Rows.{unless}
use Rattle.apt_plane.specs.declared.figures.Pt.{Pt}
use Rattle.apt_plane.specs.declared.figures.Surface.TheVariants as surfaces
use Rattle.apt_startup.specs.declared.Goal.{Goal}
use Rattle.apt_startup.specs.declared.StartUp.{StartUp}
use Rattle.apt_startup.specs.StartUps.{start_up_cases, start_point}

abbrev pt : ℤ → ℤ → Pt
pt x y = record { x = x; y = y }

abbrev line : Stop → Pt → ℤ → ℤ → Goal
line how base dx dy = record { how = how; surface = surfaces.Line (record { base = base; dir = record { dx = dx; dy = dy } }) }

abbrev circle : Stop → Pt → ℤ → Goal
circle how c r = record { how = how; surface = surfaces.Circ (record { c = c; r = r }) }

abbrev started : Pt → ℤ → Goal → Option Goal → Result Pt Case
started p r first second =
    let u : StartUp = record { start = p; first = first; second = second; radius = r } in unless (start_up_cases u) (start_point u)

abbrev origin : Pt
origin = pt (pos 0) (pos 0)

-- GO to a line along (1, 0), whose left is above it
to_line : started (pt (pos 700) (pos 3000)) (pos 500) (line To origin (pos 1) (pos 0)) None ≡ Ok (pt (pos 700) (pos 500))
unfolding root
to_line = refl

-- GO to a circle along (3, 4), of the length 5: from outside, from inside, and from its centre
from_outside : started (pt (pos 3000) (pos 4000)) (pos 250) (circle To origin (pos 1000)) None ≡ Ok (pt (pos 750) (pos 1000))
unfolding root
from_outside = refl

from_inside : started (pt (pos 300) (pos 400)) (pos 250) (circle To origin (pos 1000)) None ≡ Ok (pt (pos 450) (pos 600))
unfolding root
from_inside = refl

from_centre : started (pt (pos 70) (pos 80)) (pos 250) (circle To (pt (pos 70) (pos 80)) (pos 1000)) None ≡ Ok (pt (pos 820) (pos 80))
unfolding root
from_centre = refl

-- circles that meet above and below the way from the one to the other, along which the start lies: the contact on its right
as_near : started (pt (pos 1000) (pos 0)) (pos 0) (circle On origin (pos 500)) (Some (circle On (pt (pos 600) (pos 0)) (pos 500)))
    ≡ Ok (pt (pos 300) (neg_ℤ (pos 400)))
unfolding root
as_near = refl

nearer_above : started (pt (pos 1000) (pos 1)) (pos 0) (circle On origin (pos 500)) (Some (circle On (pt (pos 600) (pos 0)) (pos 500)))
    ≡ Ok (pt (pos 300) (pos 400))
unfolding root
nearer_above = refl

-- 99 are left of the second circle: that is said before the start on the first surface
no_room : started (pt (pos 300) (pos 0)) (pos 901) (line To origin (pos 1) (pos 0)) (Some (circle To origin (pos 1000))) ≡ Err NoRoom
no_room = refl

on_circle : started (pt (pos 600) (pos 800)) (pos 250) (circle To origin (pos 1000)) None ≡ Err OnCheck
on_circle = refl

one_centre : started (pt (pos 300) (pos 400)) (pos 0) (circle On origin (pos 500)) (Some (circle On origin (pos 700))) ≡ Err Parallel
one_centre = refl

apart : started (pt (pos 300) (pos 400)) (pos 0) (circle On origin (pos 500)) (Some (circle On (pt (pos 2000) (pos 0)) (pos 700))) ≡ Err NoContact
apart = refl

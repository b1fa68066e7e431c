-- GO on one surface and on two, lines and circles, worked out by hand.
use Rattle.std.specs.Prelude.{◌≡◌, refl, ℕ, ℤ, pos, neg_ℤ, codes, List, [], ◌∷◌, Option, Some, None}
use Rattle.apt_num.specs.Root.{root}
use Rattle.apt_words.specs.declared.Case.{Case}
use Rattle.apt_words.specs.declared.Case.TheVariants as cases
use Rattle.apt_words.specs.declared.Stop.{Stop}
use Rattle.apt_words.specs.declared.Stop.TheVariants as stops
use Rattle.apt_words.specs.declared.deed.Deed.TheVariants as deeds
use Rattle.apt_plane.specs.declared.figures.Surface.{Surface}
use Rattle.apt_plane.specs.declared.figures.Surface.TheVariants as surfaces
use Rattle.apt_records.specs.declared.record.Reach.TheVariants as reaches
use Rattle.apt_defs.specs.declared.figure.Figure.TheVariants as figures
use Rattle.apt_defs.specs.Figures.{Table}
use Rattle.apt_meaning.specs.declared.situation.Settings.{Settings}
use Rattle.apt_meaning.specs.declared.situation.Situation.{Situation}
use Rattle.apt_meaning.specs.declared.effect.Effect.{Effect}
use Rattle.apt_meaning.specs.declared.effect.Effect.TheVariants as effects
use Rattle.apt_meaning.specs.Situations.{first_settings, position_at}
use Rattle.apt_meaning.specs.StartUps.{start_up_at}
use Rattle.apt_meaning.specs.Effects.{effect_of}
use Rattle.apt_meaning.specs.Refusals.{refusal_of}

abbrev line : ℤ → ℤ → ℤ → ℤ → Surface
line x y dx dy = surfaces.Line (record { base = record { x = x; y = y }; dir = record { dx = dx; dy = dy } })

abbrev circle : ℤ → ℤ → ℤ → Surface
circle x y r = surfaces.Circ (record { c = record { x = x; y = y }; r = r })

-- a line to the right and one in a far corner, a circle of radius 1000, and four of radius 500 on the line: at the same centre, across it, touching it, and a unit off it
abbrev table : Table
table =
    (codes "L", figures.Shape (line (pos 0) (pos 0) (pos 1) (pos 0))) ∷ (codes "FAR", figures.Shape (line (pos 49999000) (pos 49999000) (pos 1) (pos 2)))
    ∷ (codes "C", figures.Shape (circle (pos 0) (pos 0) (pos 1000))) ∷ (codes "IN", figures.Shape (circle (pos 0) (pos 0) (pos 500)))
    ∷ (codes "ACROSS", figures.Shape (circle (pos 600) (pos 0) (pos 500))) ∷ (codes "TOUCH", figures.Shape (circle (pos 1000) (pos 0) (pos 500)))
    ∷ (codes "OFF", figures.Shape (circle (pos 1001) (pos 0) (pos 500))) ∷ (codes "P", figures.Point (record { x = pos 0; y = pos 0 }) (pos 0)) ∷ []

abbrev cutting : ℤ → Settings
cutting r = record first_settings { radius = r; feed = pos 100 }

-- a cutter of a radius at a point
abbrev with : Settings → ℤ → ℤ → Situation
with s x y = record { settings = s; position = Some (position_at x y (pos 300)); forward = record { dx = pos 1; dy = pos 0 }; table = table }

abbrev standing : ℤ → ℤ → ℤ → Situation
standing r x y = with (cutting r) x y

abbrev starts_at : ℤ → ℤ → Option Effect
starts_at x y = Some (effects.Moves reaches.Start (position_at x y (pos 300)))

abbrev one : Situation → Stop → List ℕ → Option Effect
one situation how name = effect_of situation (deeds.GoStart how name None)

abbrev two : Situation → Stop → List ℕ → Stop → List ℕ → Option Effect
two situation how name stop other = effect_of situation (deeds.GoStart how name (Some (stop, other)))

abbrev one_refused : Situation → Stop → List ℕ → Option Case
one_refused situation how name = refusal_of situation (deeds.GoStart how name None)

abbrev two_refused : Situation → Stop → List ℕ → Stop → List ℕ → Option Case
two_refused situation how name stop other = refusal_of situation (deeds.GoStart how name (Some (stop, other)))

-- ---- one line: straight to it

to_line : one (standing (pos 500) (pos 700) (pos 3000)) stops.To (codes "L") ≡ starts_at (pos 700) (pos 500)
unfolding root start_up_at
to_line = refl

on_line : one (standing (pos 500) (pos 700) (pos 3000)) stops.On (codes "L") ≡ starts_at (pos 700) (pos 0)
unfolding root start_up_at
on_line = refl

past_line : one (standing (pos 500) (pos 700) (pos 3000)) stops.Past (codes "L") ≡ starts_at (pos 700) (neg_ℤ (pos 500))
unfolding root start_up_at
past_line = refl

-- ---- one circle: along the ray from its centre, from which the ray is taken to the right

from_outside : one (standing (pos 250) (pos 3000) (pos 4000)) stops.To (codes "C") ≡ starts_at (pos 750) (pos 1000)
unfolding root start_up_at
from_outside = refl

past_from_outside : one (standing (pos 250) (pos 3000) (pos 4000)) stops.Past (codes "C") ≡ starts_at (pos 450) (pos 600)
unfolding root start_up_at
past_from_outside = refl

from_inside : one (standing (pos 250) (pos 300) (pos 400)) stops.To (codes "C") ≡ starts_at (pos 450) (pos 600)
unfolding root start_up_at
from_inside = refl

from_centre : one (standing (pos 250) (pos 0) (pos 0)) stops.To (codes "C") ≡ starts_at (pos 750) (pos 0)
unfolding root start_up_at
from_centre = refl

on_from_centre : one (standing (pos 250) (pos 0) (pos 0)) stops.On (codes "C") ≡ starts_at (pos 1000) (pos 0)
unfolding root start_up_at
on_from_centre = refl

-- ---- two surfaces: the nearer contact

line_and_circle : two (standing (pos 250) (neg_ℤ (pos 10)) (pos 500)) stops.On (codes "L") stops.On (codes "C") ≡ starts_at (neg_ℤ (pos 1000)) (pos 0)
unfolding root start_up_at
line_and_circle = refl

circle_and_line : two (standing (pos 250) (pos 10) (pos 500)) stops.On (codes "C") stops.On (codes "L") ≡ starts_at (pos 1000) (pos 0)
unfolding root start_up_at
circle_and_line = refl

-- both contacts are equally near: the one on the right of the way from the first circle to the second
as_near : two (standing (pos 0) (pos 1000) (pos 0)) stops.On (codes "IN") stops.On (codes "ACROSS") ≡ starts_at (pos 300) (neg_ℤ (pos 400))
unfolding root start_up_at
as_near = refl

exchanged : two (standing (pos 0) (pos 1000) (pos 0)) stops.On (codes "ACROSS") stops.On (codes "IN") ≡ starts_at (pos 300) (pos 400)
unfolding root start_up_at
exchanged = refl

nearer_above : two (standing (pos 0) (pos 1000) (pos 1)) stops.On (codes "IN") stops.On (codes "ACROSS") ≡ starts_at (pos 300) (pos 400)
unfolding root start_up_at
nearer_above = refl

touching : two (standing (pos 0) (pos 300) (pos 400)) stops.On (codes "IN") stops.On (codes "TOUCH") ≡ starts_at (pos 500) (pos 0)
unfolding root start_up_at
touching = refl

-- ---- each case, where those before it do not hold

undefined : one_refused (with (record first_settings { radius = pos 901 }) (pos 300) (pos 400)) stops.To (codes "B") ≡ Some cases.Undefined
undefined = refl

wrong_kind : one_refused (with (record first_settings { radius = pos 901 }) (pos 300) (pos 400)) stops.To (codes "P") ≡ Some cases.WrongKind
wrong_kind = refl

no_feed : one_refused (with (record first_settings { radius = pos 901 }) (pos 300) (pos 400)) stops.To (codes "C") ≡ Some cases.NoFeed
no_feed = refl

-- 99 are left of the circle, and 100 are enough
no_room : one_refused (standing (pos 901) (pos 300) (pos 400)) stops.To (codes "C") ≡ Some cases.NoRoom
unfolding start_up_at
no_room = refl

room : one_refused (standing (pos 900) (pos 300) (pos 400)) stops.To (codes "C") ≡ None
unfolding root start_up_at
room = refl

-- the room at the second surface comes before the start on the first
no_room_first : two_refused (standing (pos 901) (pos 300) (pos 0)) stops.To (codes "L") stops.To (codes "C") ≡ Some cases.NoRoom
unfolding start_up_at
no_room_first = refl

on_check : one_refused (standing (pos 250) (pos 600) (pos 800)) stops.To (codes "C") ≡ Some cases.OnCheck
unfolding start_up_at
on_check = refl

on_second : two_refused (standing (pos 250) (pos 600) (pos 800)) stops.On (codes "L") stops.Past (codes "C") ≡ Some cases.OnCheck
unfolding start_up_at
on_second = refl

-- ON needs no side
on_itself : one (standing (pos 250) (pos 600) (pos 800)) stops.On (codes "C") ≡ starts_at (pos 600) (pos 800)
unfolding root start_up_at
on_itself = refl

parallel : two_refused (standing (pos 0) (pos 300) (pos 400)) stops.On (codes "C") stops.On (codes "IN") ≡ Some cases.Parallel
unfolding root start_up_at
parallel = refl

no_contact : two_refused (standing (pos 0) (pos 300) (pos 400)) stops.On (codes "IN") stops.On (codes "OFF") ≡ Some cases.NoContact
unfolding root start_up_at
no_contact = refl

-- straight on to the far line, and just over the coordinate limit
out_of_range : one_refused (standing (pos 0) (pos 50000000) (pos 50000000)) stops.On (codes "FAR") ≡ Some cases.OutOfRange
unfolding root start_up_at
out_of_range = refl

-- The points of a pattern, and the plain steps of a hole.
use Rattle.std.specs.Prelude.{ℕ, zero, suc, ◌+◌, ◌-◌, ℤ, pos, ◌+ℤ◌, ◌-ℤ◌, ◌*ℤ◌, List, [], ◌∷◌, Option, Some, None}
use Rattle.std.specs.List.{flat_map}
use Rattle.apt_num.specs.Near.{near}
use Rattle.apt_words.specs.declared.Units.{Units}
use Rattle.apt_words.specs.declared.deed.Deed.{Deed}
use Rattle.apt_words.specs.declared.deed.Deed.TheVariants as deeds
use Rattle.apt_scalar.specs.Scalars.{millionths_of}
use Rattle.apt_records.specs.declared.record.Position.{Position}
use Rattle.apt_meaning.specs.Situations.{position_at}
use Rattle.apt_pattern.specs.declared.pattern.Pattern.{Pattern}
use Rattle.apt_pattern.specs.declared.cycle.Cycle.{Cycle}

-- ---- patterns

-- a coordinate of the k-th of the points from p to q, k from 0 to last
abbrev pub along : ℤ → ℤ → ℕ → ℕ → ℤ
along p q last k = p +ℤ near ((q -ℤ p) *ℤ pos k) (pos last)

-- the k-th point of a pattern, from 0
abbrev pub point_at : Pattern → ℕ → Position
point_at pattern k =
    let last = pattern.count - 1 in
    position_at (along pattern.from.xy.x pattern.to.xy.x last k) (along pattern.from.xy.y pattern.to.xy.y last k) (along pattern.from.z pattern.to.z last k)

-- the k-th and the points behind it, so many
abbrev pub points_from : Pattern → ℕ → ℕ → List Position
points_from pattern k zero = []
points_from pattern k (suc more) = point_at pattern k ∷ points_from pattern (k + 1) more

-- the points of a pattern, in order
abbrev pub points_of : Pattern → List Position
points_of pattern = points_from pattern 0 pattern.count

-- ---- plain steps

-- so many grid units in millionths
abbrev pub scalar_of : Units → ℤ → ℤ
scalar_of units g = g *ℤ millionths_of units

-- GOTO a position
abbrev pub goto : Units → Position → Deed
goto units p = deeds.GotoXy (scalar_of units p.xy.x) (scalar_of units p.xy.y) (Some (scalar_of units p.z))

-- above a point, from where a hole is drilled, and its bottom
abbrev pub above : Cycle → Position → Position
above cycle p = position_at p.xy.x p.xy.y (p.z +ℤ cycle.clearance)

abbrev pub bottom : Cycle → Position → Position
bottom cycle p = position_at p.xy.x p.xy.y (p.z -ℤ cycle.depth)

-- the steps of a hole: rapid to above the point, down with the feed, rapid back
abbrev pub hole : Units → Cycle → Position → List Deed
hole units cycle p = deeds.Rapid ∷ goto units (above cycle p) ∷ goto units (bottom cycle p) ∷ deeds.Rapid ∷ goto units (above cycle p) ∷ []

-- the steps of a visit to a point: a hole under a cycle, else a move
abbrev pub visit : Units → Option Cycle → Position → List Deed
visit units None p = goto units p ∷ []
visit units (Some cycle) p = hole units cycle p

-- of visits to points, in order
abbrev pub visits : Units → Option Cycle → List Position → List Deed
visits units cycle ps = flat_map (visit units cycle) ps

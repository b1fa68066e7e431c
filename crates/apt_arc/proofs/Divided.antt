-- The list that is made divides the arc, it is short, and no other list divides it.
use Rattle.std.proofs.Common.{◌≡◌, inl, inr, ℕ, ◌+◌, ◌*◌, ◌^◌, ◌≤◌, ◌<◌, ◌∙◌, ap, sym, subst, arith, List, [], ◌∷◌, ◌++◌, length, ℤ, unsigned_abs}
use Rattle.std.proofs.lemmas.Nat.{mul-le}
use Rattle.apt_plane.specs.declared.figures.Pt.{Pt}
use Rattle.apt_plane.specs.declared.figures.Dir.{Dir}
use Rattle.apt_plane.specs.declared.figures.Circ.{Circ}
use Rattle.apt_plane.specs.Vectors.{displacement, length_squared}
use Rattle.apt_plane.specs.Ranges.{IsDir}
use Rattle.apt_canon.specs.Feet.{ray_point}
use Rattle.apt_arc.specs.declared.arc.Arc.{Arc}
use Rattle.apt_arc.specs.Ranges.{IsTrack, IsArc}
use Rattle.apt_arc.specs.Cuts.{AreCuts}
use Rattle.apt_arc.specs.Quarters.{IsIn, Each, IsQuarterPoint, IsOnTheWay, AreQuarters}
use Rattle.apt_arc.specs.Divisions.{IsDivision}
use Rattle.apt_arc.specs.Made.{chain, quarters, first_past, stations, vertices, divided}
use Rattle.apt_plane.proofs.Nearby.{some_length}
use Rattle.apt_arc.proofs.Lists.{cuts_are}
use Rattle.apt_arc.proofs.Tracks.{within, within_large, within_small, nearby, sag_least, size_of_radius}
use Rattle.apt_arc.proofs.Depth.{chain_cut, cuts_short, deepest}
use Rattle.apt_arc.proofs.Parts.{quarter_of, ray_nearby, dir_turned, quarters_divide}
use Rattle.apt_arc.proofs.Steps.{arc_steps}
use Rattle.apt_arc.proofs.Only.{IsAfter, one_order}
use Rattle.apt_arc.proofs.Quartered.{stations_few}

same_radius : (r x y : ℕ) → r ≡ x → r ≤ y → x ≤ y
same_radius r x y e h = omega (arith, e, h)

cuts : (arc : Arc) → IsArc arc → (k : ℕ) → unsigned_abs arc.track.r ≤ 3 ^ k * unsigned_abs arc.sag
    → AreCuts k arc.track arc.sag arc.start (quarters arc.track arc.sense arc.start arc.end arc.axis ++ arc.end ∷ []) (divided arc)
unfolding divided vertices stations
cuts arc fits k deep =
    let t = arc.track in
    chain_cut k t arc.sag arc.sense arc.start (quarters t arc.sense arc.start arc.end arc.axis ++ arc.end ∷ []) fits.track fits.sag fits.sense (quarters_divide arc fits).1
    (same_radius (unsigned_abs t.r) (within t + 3) (3 ^ k * unsigned_abs arc.sag) (size_of_radius t fits.track) deep)

pub divides : (arc : Arc) → IsArc arc → IsDivision arc (divided arc)
divides arc fits =
    record { points = quarters arc.track arc.sense arc.start arc.end arc.axis; quarters = (quarters_divide arc fits).0; cuts = cuts arc fits; steps = arc_steps arc fits }

-- ---- its length
few : (n m k l : ℕ) → n ≤ m * k → m ≤ l → n ≤ l * k
few n m k l h g = omega (arith, h, mul-le m k l k g (omega arith))

pub short : (arc : Arc) → IsArc arc → (k : ℕ) → unsigned_abs arc.track.r ≤ 3 ^ k * unsigned_abs arc.sag → length (divided arc) ≤ 5 * 2 ^ k
unfolding stations
short arc fits k deep =
    let points = stations 4 arc (first_past 3 arc.track arc.sense arc.start arc.axis) in
    few (length (divided arc)) (length points) (2 ^ k) 5 (cuts_short k arc.track arc.sag arc.start points (divided arc) (cuts arc fits k deep))
    (stations_few 4 arc (first_past 3 arc.track arc.sense arc.start arc.axis))

-- ---- no other
quarter_length : (t : Circ) (u : Dir) (q : Pt) → IsTrack t → IsDir u → IsQuarterPoint t u q → 0 < length_squared (displacement t.c q)
quarter_length t u q is dir at =
    let of = quarter_of t u q at in
    subst (λ (z : Pt). 0 < length_squared (displacement t.c z)) (sym of.2)
    (some_length (within t) (displacement t.c (ray_point t of.0)) (within_large t is) (ray_nearby t of.0 is (dir_turned u of.0 dir of.1)))

each_after : (t : Circ) (sense : ℤ) (u : Dir) (s e : Pt) (list : List Pt) → IsTrack t → IsDir u → Each list (λ q. IsQuarterPoint t u q × IsOnTheWay t sense s e q) → Each list (IsAfter t sense s)
each_after t sense u s e [] is dir each = tt
each_after t sense u s e (q ∷ qs) is dir each = ((quarter_length t u q is dir each.0.0, each.0.1.0), each_after t sense u s e qs is dir each.1)

one_of_each : (t : Circ) (sense : ℤ) (u : Dir) (s e x : Pt) (list : List Pt) → Each list (λ q. IsQuarterPoint t u q × IsOnTheWay t sense s e q) → IsIn x list → IsQuarterPoint t u x × IsOnTheWay t sense s e x
one_of_each t sense u s e x [] each here = absurd here
one_of_each t sense u s e x (q ∷ qs) each (inl same) = subst (λ (z : Pt). IsQuarterPoint t u z × IsOnTheWay t sense s e z) (sym same) each.0
one_of_each t sense u s e x (q ∷ qs) each (inr more) = one_of_each t sense u s e x qs each.1 more

pub one_quarters : (arc : Arc) (list other : List Pt) → IsArc arc → AreQuarters arc.track arc.sense arc.axis arc.start arc.end list → AreQuarters arc.track arc.sense arc.axis arc.start arc.end other
    → list ≡ other
one_quarters arc list other fits are also =
    let t = arc.track in
    let sense = arc.sense in
    let u = arc.axis in
    let s = arc.start in
    let e = arc.end in
    one_order t sense s s s list other fits.sense (some_length (within t) (displacement t.c s) (within_large t fits.track) (nearby t s fits.track fits.start))
    (each_after t sense u s e list fits.track fits.axis are.each) (each_after t sense u s e other fits.track fits.axis also.each) are.order also.order
    (λ x here. let is = one_of_each t sense u s e x list are.each here in also.all x is.0 is.1)
    (λ x here. let is = one_of_each t sense u s e x other also.each here in are.all x is.0 is.1)

pub only : (arc : Arc) → IsArc arc → (list : List Pt) → IsDivision arc list → list ≡ divided arc
unfolding divided vertices stations
only arc fits list division =
    let t = arc.track in
    let points = quarters t arc.sense arc.start arc.end arc.axis in
    let same = one_quarters arc division.points points fits division.quarters (quarters_divide arc fits).0 in
    let deep : unsigned_abs t.r ≤ 3 ^ 24 * unsigned_abs arc.sag =
    same_radius (within t + 3) (unsigned_abs t.r) (3 ^ 24 * unsigned_abs arc.sag) (sym (size_of_radius t fits.track)) (deepest (within t + 3) (unsigned_abs arc.sag) (within_small t fits.track) (sag_least arc.sag fits.sag.least)) in
    cuts_are 24 t arc.sag arc.start (division.points ++ arc.end ∷ []) list (division.cuts 24 deep) ∙ ap (λ (qs : List Pt). chain 24 t arc.sag arc.start (qs ++ arc.end ∷ [])) same

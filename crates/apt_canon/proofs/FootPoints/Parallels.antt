-- What the answer of a parallel tells.
use Rattle.std.proofs.Common.{refl, ◌≡◌, ◌≢◌, ◌∙◌, sym, ◌^◌, ◌≤◌, Bool, true, false, inl, inr, ℤ, pos, neg_ℤ, ◌<ℤ◌, unsigned_abs, int_lt, Result, Ok, Err, IfOk}
use Rattle.std.specs.Prelude.{if◌then◌else◌}
use Rattle.apt_num.specs.declared.Sign.{Sign}
use Rattle.apt_num.specs.declared.Sign.TheVariants.{Minus, Zero, Plus}
use Rattle.apt_num.proofs.Squares.{size_neg}
use Rattle.apt_words.specs.declared.Pick.{Pick}
use Rattle.apt_words.specs.Chains.{◌>>=◌}
use Rattle.apt_plane.specs.declared.figures.Pt.{Pt}
use Rattle.apt_plane.specs.declared.figures.Dir.{Dir}
use Rattle.apt_plane.specs.declared.figures.Line.{Line}
use Rattle.apt_plane.specs.Ranges.{IsPoint, IsLine}
use Rattle.apt_canon.specs.declared.FormFault.{FormFault}
use Rattle.apt_canon.specs.declared.FormFault.TheVariants.{Degenerate}
use Rattle.apt_canon.specs.Scale.{in_range, IsNearLine, IsAway, side_of_line}
use Rattle.apt_canon.specs.Feet.{IsPicked, side_picked, offset_picked, parallel_point, based_on, parallel_at}
use Rattle.apt_canon.proofs.Fits.{point_tells}
use Rattle.apt_canon.proofs.FootPoints.Laws.{parallel_near, parallel_left, parallel_right}
use Rattle.apt_canon.proofs.Sides.{picked, away_left, away_right}

-- what holds of a line through a point in range holds of one whose base was tested
if_based : (P : Line → Type 0) (d : Dir) (p : Pt) → (IsPoint p → P (record { base = p; dir = d })) → IfOk (in_range p >>= based_on d) P
if_based P d p f = elim (point_tells p) [
  | inl is ↦ rw is.1 (f is.0)
  | inr out ↦ rw out.1 tt
]

-- and what holds for each offset holds where there is one
if_offset : (P : Line → Type 0) (l : Line) (r : Result ℤ FormFault) → ((h : ℤ) → r ≡ Ok h → IsPoint (parallel_point l h) → P (record { base = parallel_point l h; dir = l.dir }))
    → IfOk (r >>= λ h. in_range (parallel_point l h) >>= based_on l.dir) P
if_offset P l (Ok h) f = if_based P l.dir (parallel_point l h) (f h refl)
if_offset P l (Err e) f = tt

if_from_0 : (P : Line → Type 0) (below : Bool) (r : Result Line FormFault) → IfOk r P → IfOk (if below then Err Degenerate else r) P
if_from_0 P true r h = tt
if_from_0 P false r h = h

if_parallel : (P : Line → Type 0) (l : Line) (pick : Pick) (d : ℤ)
    → ((h : ℤ) → offset_picked (side_picked l pick) d ≡ Ok h → IsPoint (parallel_point l h) → P (record { base = parallel_point l h; dir = l.dir })) → IfOk (parallel_at l pick d) P
if_parallel P l pick d f =
    if_from_0 P (int_lt d (pos 0)) (offset_picked (side_picked l pick) d >>= λ h. in_range (parallel_point l h) >>= based_on l.dir)
    (if_offset P l (offset_picked (side_picked l pick) d) f)

offset_small : (side : Sign) (d h : ℤ) → unsigned_abs d ≤ 10 ^ 8 → offset_picked side d ≡ Ok h → unsigned_abs h ≤ 10 ^ 8
offset_small Plus d h small e =
    let same : d ≡ h = cc in
    rw same at small
offset_small Zero d h small e = absurd cc
offset_small Minus d h small e =
    let same : neg_ℤ d ≡ h = cc in
    rw (← same, size_neg d) small

pub answer_in_range : (r : Result Line FormFault) (l : Line) (pick : Pick) (d : ℤ) → IsLine l → r ≡ parallel_at l pick d → IfOk r (λ m. IsLine m)
answer_in_range r l pick d is e = rw e (if_parallel (λ m. IsLine m) l pick d (λ h f point. record { base = point; dir = is.dir }))

pub answer_same_dir : (r : Result Line FormFault) (l : Line) (pick : Pick) (d : ℤ) → r ≡ parallel_at l pick d → IfOk r (λ m. m.dir ≡ l.dir)
answer_same_dir r l pick d e = rw e (if_parallel (λ m. m.dir ≡ l.dir) l pick d (λ h f point. refl))

pub answer_on_line : (r : Result Line FormFault) (l : Line) (pick : Pick) (d : ℤ) → IsLine l → unsigned_abs d ≤ 10 ^ 8 → r ≡ parallel_at l pick d
    → IfOk r (λ m. IfOk (offset_picked (side_picked l pick) d) (λ h. IsNearLine l h (pos 1) m.base))
answer_on_line r l pick d is small e =
    rw e (if_parallel (λ m. IfOk (offset_picked (side_picked l pick) d) (λ h. IsNearLine l h (pos 1) m.base)) l pick d
    (λ h f point. rw f (parallel_near l h is (offset_small (side_picked l pick) d h small f))))

-- ---- the side that the modifier names

-- a line moved by a distance above 0 lies on the side that was named, and so far away
data IsMovedTo (l : Line) (side : Sign) (d : ℤ) (p : Pt) : Type 0 where
  ToLeft : side ≡ Plus → side_of_line l p ≡ Plus → IsNearLine l d (pos 1) p → IsMovedTo l side d p
  ToRight : side ≡ Minus → side_of_line l p ≡ Minus → IsNearLine l (neg_ℤ d) (pos 1) p → IsMovedTo l side d p

moved_to : (l : Line) (side : Sign) (d h : ℤ) → IsLine l → unsigned_abs d ≤ 10 ^ 8 → pos 0 <ℤ d → offset_picked side d ≡ Ok h → IsMovedTo l side d (parallel_point l h)
moved_to l Plus d h is small more e =
    let same : d ≡ h = cc in
    rw (← same) (ToLeft refl (parallel_left l d is more) (parallel_near l d is small))
moved_to l Zero d h is small more e = absurd cc
moved_to l Minus d h is small more e =
    let same : neg_ℤ d ≡ h = cc in
    rw (← same) (ToRight refl (parallel_right l d is more) (parallel_near l (neg_ℤ d) is (rw (size_neg d) small)))

plus_some : (s : Sign) → s ≡ Plus → s ≢ Zero
plus_some s e = λ f. cc

minus_some : (s : Sign) → s ≡ Minus → s ≢ Zero
minus_some s e = λ f. cc

picked_to : (l : Line) (pick : Pick) (d : ℤ) (p : Pt) → IsMovedTo l (side_picked l pick) d p → IsPicked l pick p
picked_to l pick d p (ToLeft e at near) = picked l pick p (plus_some (side_picked l pick) e) (at ∙ sym e)
picked_to l pick d p (ToRight e at near) = picked l pick p (minus_some (side_picked l pick) e) (at ∙ sym e)

away_to : (l : Line) (side : Sign) (d : ℤ) (p : Pt) → IsMovedTo l side d p → IsAway l d p
away_to l side d p (ToLeft e at near) = away_left _ d (pos 1) _ at near
away_to l side d p (ToRight e at near) = away_right _ d (pos 1) _ at near

-- what holds of a point so moved holds of the base of a parallel
if_moved : (P : Pt → Type 0) (l : Line) (pick : Pick) (d : ℤ) → IsLine l → unsigned_abs d ≤ 10 ^ 8 → ((p : Pt) → IsMovedTo l (side_picked l pick) d p → P p)
    → IfOk (parallel_at l pick d) (λ m. pos 0 <ℤ d → P m.base)
if_moved P l pick d is small f =
    if_parallel (λ m. pos 0 <ℤ d → P m.base) l pick d (λ h e point more. f (parallel_point l h) (moved_to l (side_picked l pick) d h is small more e))

pub answer_beside : (r : Result Line FormFault) (l : Line) (pick : Pick) (d : ℤ) → IsLine l → unsigned_abs d ≤ 10 ^ 8 → r ≡ parallel_at l pick d
    → IfOk r (λ m. pos 0 <ℤ d → IsPicked l pick m.base)
answer_beside r l pick d is small e = rw e (if_moved (IsPicked l pick) l pick d is small (picked_to l pick d))

pub answer_away : (r : Result Line FormFault) (l : Line) (pick : Pick) (d : ℤ) → IsLine l → unsigned_abs d ≤ 10 ^ 8 → r ≡ parallel_at l pick d
    → IfOk r (λ m. pos 0 <ℤ d → IsAway l d m.base)
answer_away r l pick d is small e = rw e (if_moved (IsAway l d) l pick d is small (away_to l (side_picked l pick) d))

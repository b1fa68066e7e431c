-- The list of quarter points that the code makes, and the pieces between them.
use Rattle.std.proofs.Common.{refl, ◌≡◌, ◌↔◌, ◌⊎◌, neg_ℤ, ◌<◌, inl, inr, ℕ, zero, suc, ◌∙◌, ap, sym, subst, arith, true, false, true≢false, List, [], ◌∷◌, ◌++◌, ℤ, pos, ◌<ℤ◌, ◌≤ℤ◌}
use Rattle.std.proofs.lemmas.Int.{ints}
use Rattle.std.proofs.lemmas.Bool.{cases_Bool, and_parts, and_from}
use Rattle.apt_plane.specs.declared.figures.Pt.{Pt}
use Rattle.apt_plane.specs.declared.figures.Dir.{Dir}
use Rattle.apt_plane.specs.declared.figures.Circ.{Circ}
use Rattle.apt_plane.specs.Vectors.{displacement, dot, length_squared, perp}
use Rattle.apt_plane.specs.Ranges.{IsDir}
use Rattle.apt_plane.specs.Order.{is_before}
use Rattle.apt_plane.proofs.Displacements.{dot_swap}
use Rattle.apt_plane.proofs.Turns.{before_tells}
use Rattle.apt_plane.proofs.Turned.{turned_by, turned_back, perp_dir}
use Rattle.apt_plane.proofs.Around.{some_way}
use Rattle.apt_plane.proofs.Quarters.{onward_turn, onward_square, last_of_four, Ends, IsStep, in_turn, next_between, before_next, last_between, none_between}
use Rattle.apt_canon.specs.Feet.{ray_point}
use Rattle.apt_canon.specs.Scale.{IsNearCircle}
use Rattle.apt_canon.proofs.FootPoints.Sharp.{ray_way}
use Rattle.apt_arc.specs.declared.arc.Arc.{Arc}
use Rattle.apt_arc.specs.Ranges.{IsTrack, IsPiece, ArePieces, IsArc}
use Rattle.apt_arc.specs.Quarters.{IsQuarterPoint, IsOnTheWay, AreOrdered, IsIn, Each, AreInOrder, AreQuarters}
use Rattle.apt_arc.specs.Made.{onward, is_on_the_way, quarters_from, quarters}
use Rattle.apt_arc.proofs.Spans.{aimed_nearby}
use Rattle.apt_arc.proofs.Tracks.{within, within_large, nearby, near_track, aimed}
use Rattle.apt_arc.proofs.Ways.{IsTurned, turn_round, turn_after, onward_turned, IsOneOf, one_of, ray_onward, IsPast, reaches, first_found}
use Rattle.apt_plane.proofs.Nearby.{IsNearby, some_length}

-- ---- the test whether a point is on the way
on_told : (t : Circ) (sense : ℤ) (s e q : Pt) → (is_on_the_way t sense s e q ≡ true) ↔ IsOnTheWay t sense s e q
on_told t sense s e q =
    let vs = displacement t.c s in
    let vq = displacement t.c q in
    let ve = displacement t.c e in
    let first = before_tells vs vs vq sense in
    let second = before_tells vs vq ve sense in (
      λ h. let both = and_parts (is_before vs sense vs vq) (is_before vs sense vq ve) h in (first.0 both.0, second.0 both.1),
      λ on. and_from (is_before vs sense vs vq) (is_before vs sense vq ve) (first.1 on.0) (second.1 on.1),
    )

off_tells : (t : Circ) (sense : ℤ) (s e q : Pt) → is_on_the_way t sense s e q ≡ false → ¬ IsOnTheWay t sense s e q
off_tells t sense s e q h on = true≢false (sym ((on_told t sense s e q).1 on) ∙ h)

-- ---- the code's list, a point at a time
pub list_none : (n : ℕ) (t : Circ) (sense : ℤ) (s e : Pt) (u : Dir) → n ≡ 0 → quarters_from n t sense s e u ≡ []
unfolding quarters_from
list_none zero t sense s e u h = refl
list_none (suc n) t sense s e u h = absurd (omega (arith, h))

pub list_off : (n : ℕ) (t : Circ) (sense : ℤ) (s e : Pt) (u : Dir) → is_on_the_way t sense s e (ray_point t u) ≡ false → quarters_from n t sense s e u ≡ []
unfolding quarters_from
list_off zero t sense s e u h = refl
list_off (suc n) t sense s e u h = rw h refl

pub list_on : (n : ℕ) (t : Circ) (sense : ℤ) (s e : Pt) (u : Dir) → is_on_the_way t sense s e (ray_point t u) ≡ true
    → quarters_from (suc n) t sense s e u ≡ ray_point t u ∷ quarters_from n t sense s e (onward sense u)
unfolding quarters_from
list_on n t sense s e u h = rw h refl

-- ---- the quarter points
pub dir_turned : (a b : Dir) → IsDir a → IsTurned a b → IsDir b
dir_turned a b is (inl e) = subst IsDir (sym e) is
dir_turned a b is (inr (inl e)) = subst IsDir (sym e) (perp_dir a is)
dir_turned a b is (inr (inr (inl e))) = subst IsDir (sym e) (perp_dir (perp a) (perp_dir a is))
dir_turned a b is (inr (inr (inr e))) = subst IsDir (sym e) (perp_dir (perp (perp a)) (perp_dir (perp a) (perp_dir a is)))

quarter_at : (t : Circ) (a b : Dir) → IsTurned a b → IsQuarterPoint t a (ray_point t b)
quarter_at t a b (inl e) = inl (ap (ray_point t) e)
quarter_at t a b (inr (inl e)) = inr (inl (ap (ray_point t) e))
quarter_at t a b (inr (inr (inl e))) = inr (inr (inl (ap (ray_point t) e)))
quarter_at t a b (inr (inr (inr e))) = inr (inr (inr (ap (ray_point t) e)))

pub quarter_of : (t : Circ) (a : Dir) (x : Pt) → IsQuarterPoint t a x → (b : Dir) × IsTurned a b × (x ≡ ray_point t b)
quarter_of t a x (inl e) = (a, inl refl, e)
quarter_of t a x (inr (inl e)) = (perp a, inr (inl refl), e)
quarter_of t a x (inr (inr (inl e))) = (perp (perp a), inr (inr (inl refl)), e)
quarter_of t a x (inr (inr (inr e))) = (perp (perp (perp a)), inr (inr (inr refl)), e)

pub ray_nearby : (t : Circ) (u : Dir) → IsTrack t → IsDir u → IsNearby (within t) (ray_way t u)
ray_nearby t u is dir = aimed_nearby (within t) u (ray_way t u) (aimed t u is dir)

piece_of : (t : Circ) (sense : ℤ) (a b : Pt) → (pos 0 <ℤ turned_by sense (displacement t.c a) (displacement t.c b)) × (pos 0 ≤ℤ dot (displacement t.c a) (displacement t.c b))
    → IsNearCircle t (pos 3) a → IsNearCircle t (pos 3) b → IsPiece t sense a b
piece_of t sense a b turn near_a near_b = record { onwards = turn.0; ahead = turn.1; start = near_a; end = near_b }

-- ---- how far the turn has come: n more quarters lead into the last one before the start; x is the turn from the start, d the dot product with it
abbrev Left : ℕ → ℤ → ℤ → Type 0
Left zero x d = (x ≤ℤ pos 0) × (pos 0 <ℤ d)
Left (suc n) x d = Left n d (neg_ℤ x)

early : (n : ℕ) (x d : ℤ) → n < 3 → Left (suc n) x d → (pos 0 <ℤ x) ⊎ (d ≤ℤ pos 0)
early zero x d few left = inr left.0
early (suc zero) x d few left = inr (omega (arith, ints, left.1))
early (suc (suc zero)) x d few left = inl (omega (arith, ints, left.1))
early (suc (suc (suc n))) x d few left = absurd (omega (arith, few))

-- a quarter point of an arc on the way to n more
record IsQuarter (n : ℕ) (arc : Arc) (u : Dir) : Type 0 where
  few : n < 4
  turned : IsTurned arc.axis u
  left : Left n (turned_by arc.sense (displacement arc.track.c arc.start) (ray_way arc.track u)) (dot (displacement arc.track.c arc.start) (ray_way arc.track u))

abbrev IsOn : Arc → Dir → Type 0
IsOn arc u = IsOnTheWay arc.track arc.sense arc.start arc.end (ray_point arc.track u)

is_dir : (n : ℕ) (arc : Arc) (u : Dir) → IsArc arc → IsQuarter n arc u → IsDir u
is_dir n arc u fits is = dir_turned arc.axis u fits.axis is.turned

is_near : (arc : Arc) (u : Dir) → IsArc arc → IsDir u → IsNearCircle arc.track (pos 3) (ray_point arc.track u)
is_near arc u fits dir = near_track arc.track (ray_point arc.track u) fits.track (ray_nearby arc.track u fits.track dir)

some_ray : (arc : Arc) (u : Dir) → IsArc arc → IsDir u → 0 < length_squared (ray_way arc.track u)
some_ray arc u fits dir = some_length (within arc.track) (ray_way arc.track u) (within_large arc.track fits.track) (ray_nearby arc.track u fits.track dir)

ends : (arc : Arc) → IsArc arc → Ends arc.sense (displacement arc.track.c arc.start) (displacement arc.track.c arc.end)
ends arc fits =
    let n = within arc.track in
    let least = within_large arc.track fits.track in record {
      either = fits.sense;
      start = some_length n (displacement arc.track.c arc.start) least (nearby arc.track arc.start fits.track fits.start);
      end = some_length n (displacement arc.track.c arc.end) least (nearby arc.track arc.end fits.track fits.end);
    }

next_quarter : (n : ℕ) (arc : Arc) (u : Dir) → IsArc arc → IsQuarter (suc n) arc u → IsQuarter n arc (onward arc.sense u)
next_quarter n arc u fits is =
    let s = displacement arc.track.c arc.start in
    let on = ray_onward arc.track arc.sense u fits.sense in record {
      few = omega (arith, is.few);
      turned = turn_after arc.axis u (onward arc.sense u) is.turned (onward_turned arc.sense u fits.sense);
      left = rw (on.aside s, on.ahead s) is.left;
    }

step : (n : ℕ) (arc : Arc) (u : Dir) → IsArc arc → IsQuarter (suc n) arc u
    → IsStep arc.sense (displacement arc.track.c arc.start) (displacement arc.track.c arc.end) (ray_way arc.track u) (ray_way arc.track (onward arc.sense u))
step n arc u fits is =
    let s = displacement arc.track.c arc.start in record {
      ends = ends arc fits;
      first = some_ray arc u fits (is_dir (suc n) arc u fits is);
      second = some_ray arc (onward arc.sense u) fits (is_dir n arc (onward arc.sense u) fits (next_quarter n arc u fits is));
      onward = ray_onward arc.track arc.sense u fits.sense;
      early = early n (turned_by arc.sense s (ray_way arc.track u)) (dot s (ray_way arc.track u)) (omega (arith, is.few)) is.left;
    }

-- behind one that is not on the way none is
none_on : (n : ℕ) (arc : Arc) (u b : Dir) → IsArc arc → IsQuarter n arc u → ¬ IsOn arc u → IsOneOf (suc n) arc.sense u b → ¬ IsOn arc b
none_on n arc u b fits is off (inl same) on = off (subst (IsOn arc) same on)
none_on zero arc u b fits is off (inr none) on = none
none_on (suc n) arc u b fits is off (inr more) on =
    let s = displacement arc.track.c arc.start in
    let e = displacement arc.track.c arc.end in
    let v = onward arc.sense u in
    none_on n arc v b fits (next_quarter n arc u fits is) (λ next. off (next_between arc.sense s e (ray_way arc.track u) (ray_way arc.track v) (step n arc u fits is) next)) more on

-- ---- the points of a list are those on the way of n quarter points from one on, and each piece from a on turns by at most a quarter
record Divides (n : ℕ) (arc : Arc) (a : Pt) (u : Dir) (list : List Pt) : Type 0 where
  each : Each list (λ q. IsQuarterPoint arc.track arc.axis q × IsOnTheWay arc.track arc.sense arc.start arc.end q)
  all : (b : Dir) → IsOneOf n arc.sense u b → IsOn arc b → IsIn (ray_point arc.track b) list
  order : AreInOrder arc.track arc.sense arc.start a list
  pieces : ArePieces arc.track arc.sense a (list ++ arc.end ∷ [])

none_divide : (n : ℕ) (arc : Arc) (a : Pt) (u : Dir) → IsPiece arc.track arc.sense a arc.end → ((b : Dir) → IsOneOf n arc.sense u b → ¬ IsOn arc b) → Divides n arc a u []
none_divide n arc a u piece none = record { each = tt; all = λ b one on. absurd (none b one on); order = tt; pieces = (piece, tt) }

-- from a to the next quarter point, or to the end where that comes before
record IsNext (n : ℕ) (arc : Arc) (a : Pt) (u : Dir) : Type 0 where
  quarter : IsQuarter n arc u
  piece : IsPiece arc.track arc.sense a (ray_point arc.track u)
  end : ¬ IsOn arc u → IsPiece arc.track arc.sense a arc.end
  order : IsOn arc u → AreOrdered arc.track arc.sense arc.start a (ray_point arc.track u)

abbrev Comes : ℕ → Arc → Pt → Dir → Type 0
Comes zero arc a u = IsPiece arc.track arc.sense a arc.end
Comes (suc n) arc a u = IsNext n arc a u

next_comes : (n : ℕ) (arc : Arc) (u : Dir) → IsArc arc → IsQuarter n arc u → IsOn arc u → Comes n arc (ray_point arc.track u) (onward arc.sense u)
next_comes zero arc u fits is on =
    let s = displacement arc.track.c arc.start in
    let e = displacement arc.track.c arc.end in
    let x = ray_way arc.track u in
    let dir = is_dir 0 arc u fits is in
    let some = some_ray arc u fits dir in
    piece_of arc.track arc.sense (ray_point arc.track u) arc.end
    (last_of_four arc.sense s x (ray_way arc.track (onward arc.sense u)) e fits.sense (ray_onward arc.track arc.sense u fits.sense) some is.left.0 is.left.1 (in_turn arc.sense s e x (ends arc fits) some on))
    (is_near arc u fits dir) fits.end
next_comes (suc n) arc u fits is on =
    let s = displacement arc.track.c arc.start in
    let e = displacement arc.track.c arc.end in
    let v = onward arc.sense u in
    let x = ray_way arc.track u in
    let y = ray_way arc.track v in
    let to = step n arc u fits is in
    let next = next_quarter n arc u fits is in
    let near = is_near arc u fits (is_dir (suc n) arc u fits is) in
    record {
      quarter = next;
      piece = piece_of arc.track arc.sense (ray_point arc.track u) (ray_point arc.track v) (onward_turn arc.sense x y to.onward to.first, onward_square arc.sense x y to.onward) near (is_near arc v fits (is_dir n arc v fits next));
      end = λ off. piece_of arc.track arc.sense (ray_point arc.track u) arc.end (last_between arc.sense s e x y to on off) near fits.end;
      order = λ after. before_next arc.sense s e x y to after.0;
    }

-- the list that the code makes
list_divides : (n : ℕ) (arc : Arc) (a : Pt) (u : Dir) → IsArc arc → Comes n arc a u → Divides n arc a u (quarters_from n arc.track arc.sense arc.start arc.end u)
list_divides zero arc a u fits to = subst (Divides 0 arc a u) (sym (list_none 0 arc.track arc.sense arc.start arc.end u refl)) (none_divide 0 arc a u to (λ b one. absurd one))
list_divides (suc n) arc a u fits to =
    let p = ray_point arc.track u in
    elim (cases_Bool (is_on_the_way arc.track arc.sense arc.start arc.end p)) [
      | inr f ↦
          let off = off_tells arc.track arc.sense arc.start arc.end p f in
          subst (Divides (suc n) arc a u) (sym (list_off (suc n) arc.track arc.sense arc.start arc.end u f)) (none_divide (suc n) arc a u (to.end off) (λ b. none_on n arc u b fits to.quarter off))
      | inl f ↦
          let on = (on_told arc.track arc.sense arc.start arc.end p).0 f in
          let rest = list_divides n arc p (onward arc.sense u) fits (next_comes n arc u fits to.quarter on) in
          subst (Divides (suc n) arc a u) (sym (list_on n arc.track arc.sense arc.start arc.end u f))
          record {
            each = ((quarter_at arc.track arc.axis u to.quarter.turned, on), rest.each);
            all = λ b one is. elim one [ inl same ↦ inl (ap (ray_point arc.track) same) | inr more ↦ inr (rest.all b more is) ];
            order = (to.order on, rest.order);
            pieces = (to.piece, rest.pieces);
          }
    ]

-- ---- from the first past the start
first_comes : (arc : Arc) (w : Dir) → IsArc arc → IsTurned arc.axis w → IsPast arc.track arc.sense arc.start w → Comes 4 arc arc.start (onward arc.sense w)
first_comes arc w fits found past =
    let s = displacement arc.track.c arc.start in
    let e = displacement arc.track.c arc.end in
    let u = onward arc.sense w in
    let x = ray_way arc.track u in
    let on = ray_onward arc.track arc.sense w fits.sense in
    let turned = turn_after arc.axis w u found (onward_turned arc.sense w fits.sense) in
    let dir = dir_turned arc.axis u fits.axis turned in
    let turn : pos 0 <ℤ turned_by arc.sense s x = rw (on.aside s, dot_swap s (ray_way arc.track w)) past.0 in
    let ahead : pos 0 ≤ℤ dot s x = rw (on.ahead s, ← turned_back arc.sense s (ray_way arc.track w)) past.1 in record {
      quarter = record { few = omega arith; turned = turned; left = (omega (arith, ints, ahead), omega (arith, ints, turn)) };
      piece = piece_of arc.track arc.sense arc.start (ray_point arc.track u) (turn, ahead) fits.start (is_near arc u fits dir);
      end = λ off. piece_of arc.track arc.sense arc.start arc.end (none_between arc.sense s e x (ends arc fits) (some_ray arc u fits dir) turn ahead fits.apart off) fits.start fits.end;
      order = λ after. after.0;
    }

pub quarters_divide : (arc : Arc) → IsArc arc
    → AreQuarters arc.track arc.sense arc.axis arc.start arc.end (quarters arc.track arc.sense arc.start arc.end arc.axis)
    × ArePieces arc.track arc.sense arc.start (quarters arc.track arc.sense arc.start arc.end arc.axis ++ arc.end ∷ [])
quarters_divide arc fits =
    let t = arc.track in
    let s = arc.start in
    let way = displacement t.c s in
    let both = ends arc fits in
    let some = some_ray arc arc.axis fits fits.axis in
    let found = first_found 3 t arc.sense s arc.axis fits.sense (reaches t arc.sense s arc.axis fits.sense (λ x y. some_way arc.sense (ray_way t arc.axis) way fits.sense some both.start y x)) in
    let u = onward arc.sense found.0 in
    let next = first_comes arc found.0 fits found.1 found.2 in
    let list = list_divides 4 arc s u fits next in
    subst (λ (v : Dir). AreQuarters t arc.sense arc.axis s arc.end (quarters_from 4 t arc.sense s arc.end v) × ArePieces t arc.sense s (quarters_from 4 t arc.sense s arc.end v ++ arc.end ∷ [])) (sym found.3) (
      record {
        each = list.each;
        all = λ x at on.
            let of = quarter_of t arc.axis x at in
            let one = one_of arc.sense u of.0 fits.sense (turn_after u arc.axis of.0 (turn_round arc.axis u next.quarter.turned) of.1) in
            subst (λ (p : Pt). IsIn p (quarters_from 4 t arc.sense s arc.end u)) (sym of.2) (list.all of.0 one (subst (IsOnTheWay t arc.sense s arc.end) of.2 on));
        order = list.order;
      },
      list.pieces,
    )

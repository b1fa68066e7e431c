-- One part, one segment and one path against an outline.
use Rattle.std.proofs.Common.{refl, ◌≡◌, ◌∙◌, sym, ap, subst, inl, inr, ℕ, zero, suc, ◌+◌, ◌-◌, ◌*◌, ◌≤◌, ◌<◌, arith, List, [], ◌∷◌, ◌++◌, length, get_or, take, drop, append_assoc, length-append, ℤ, pos, ◌+ℤ◌, ◌-ℤ◌, ◌*ℤ◌, neg_ℤ, unsigned_abs}
use Rattle.std.specs.List.{AllByRecursion}
use Rattle.std.proofs.lemmas.Int.{ints}
use Rattle.apt_plane.specs.declared.figures.Pt.{Pt}
use Rattle.apt_plane.specs.declared.figures.Circ.{Circ}
use Rattle.apt_plane.specs.declared.figures.Spot.{Spot}
use Rattle.apt_plane.specs.declared.figures.Surface.TheVariants as surfaces
use Rattle.apt_plane.specs.Ranges.{IsPoint}
use Rattle.apt_plane.specs.Vectors.{Scaled, scaled, between, displacement, cross, dot, length_squared}
use Rattle.apt_plane.specs.Distances.{IsLengthAtMost, IsOver}
use Rattle.apt_plane.specs.Segments.{start_spot, end_spot, IsFoot, IsFirstEnd, IsFirstFoot, IsFirstOff}
use Rattle.apt_plane.proofs.SegmentLaws.{at_start}
use Rattle.apt_certify.specs.Jobs.{ArePoints}
use Rattle.apt_certify.specs.declared.leg.Job.{Job}
use Rattle.apt_outline.specs.declared.parts.Part.{Part}
use Rattle.apt_outline.specs.declared.parts.Part.TheVariants as parts
use Rattle.apt_outline.specs.declared.parts.Reach.{Reach}
use Rattle.apt_outline.specs.declared.parts.Gouge.{Gouge}
use Rattle.apt_outline.specs.Boxes.{AreBoxesOff}
use Rattle.apt_outline.specs.Clearances.{displacement_scaled, AreApart, IsClear, IsReach, clearance}
use Rattle.apt_outline.specs.Spots.{at_spot, inner, inner_by_sign, foot, crossing, spots, IsFirstSpot}
use Rattle.apt_outline.specs.Guards.{Segment, segment, segments_of, Pass, pass, passes, IsClearOf, IsClearOfAll, IsClearPath, IsGougeOfSegment, IsGougeOfPath, IsClearPass, IsFirstGouge, AreReaches}
use Rattle.apt_outline.proofs.Far.{length_to_point}
use Rattle.apt_outline.proofs.Beside.{boxes_far}
use Rattle.apt_outline.proofs.Firsts.{all-append, any_default, all_at, all_more, all_whole, first_behind, first_at, not_all}
use Rattle.apt_outline.proofs.Whole.{at_first, at_last}
use Rattle.apt_outline.proofs.Deciding.{foot_is, spot, lt_true, lt_false, order_cases}

-- ---- a disc, as an edge of one point
one_times : (m : ℕ) → m * 1 ≡ m
one_times m = omega arith

over_of_apart : (h : ℤ) (c : Circ) (s : Scaled) → AreApart h s (scaled c.c) → IsOver (surfaces.Circ c) h s
over_of_apart h c s apart = subst (λ n. IsLengthAtMost (pos s.m *ℤ h) n) (length_to_point s c.c) (subst (λ m. IsLengthAtMost (pos m *ℤ h) (length_squared (displacement_scaled s (scaled c.c)))) (one_times s.m) apart)

pub clear_of_boxes : (rho : ℤ) (a b p q : Pt) → AreBoxesOff rho a b p q → IsClearOf rho (segment a b) (parts.Edge p q)
clear_of_boxes rho a b p q off = boxes_far rho a b p q off

pub boss_of_boxes : (rho h : ℤ) (a b : Pt) (c : Circ) → h ≡ c.r +ℤ rho → AreBoxesOff h a b c.c c.c → IsClearOf rho (segment a b) (parts.Boss c)
boss_of_boxes rho h a b c e off = λ j k some.
    let s = between a b j k in
    subst (λ (z : ℤ). IsOver (surfaces.Circ c) z s) e (over_of_apart h c s (at_start (λ t. AreApart h s t) c.c c.c (boxes_far h a b c.c c.c off j k some)))

-- ---- the first spot, as the plane tells it
first_end_spot : (P : Scaled → Type 0) (a b : Pt) (rest : List Spot) (s : Spot) → IsFirstEnd P a b s → IsFirstSpot a b P (start_spot ∷ end_spot ∷ rest) s
first_end_spot P a b rest s (inl is) = (
  1,
  first_behind (λ t. P (at_spot a b t)) _ [] (end_spot ∷ rest) s 1 (ap (λ (t : Spot). t ∷ end_spot ∷ rest) (sym is.0)) tt
      (λ far. is.1 (subst P (ap (λ (t : Spot). at_spot a b t) is.0 ∙ at_first a b) far)) refl,
)
first_end_spot P a b rest s (inr is) = (
  2,
  first_behind (λ t. P (at_spot a b t)) _ (start_spot ∷ []) rest s 2 (ap (λ (t : Spot). start_spot ∷ t ∷ rest) (sym is.0)) (subst P (sym (at_first a b)) is.1, tt)
      (λ far. is.2 (subst P (ap (λ (t : Spot). at_spot a b t) is.0 ∙ at_last a b) far)) refl,
)

same_between : (a b : Pt) (j k i h : ℕ) → j ≡ i → k ≡ h → between a b j k ≡ between a b i h
same_between a b j k i h e f = λ x. between a b (e x) (f x)

foot_spot_at : (a b : Pt) (s : Spot) (j k : ℕ) → s ≡ record { j = pos j; m = pos (j + k) } → at_spot a b s ≡ between a b j k
foot_spot_at a b s j k e = ap (λ (t : Spot). at_spot a b t) e ∙ same_between a b j (unsigned_abs (pos (j + k) -ℤ pos j)) j k refl (omega (arith, ints))

foot_list : (c a b : Pt) (s : Spot) (j k : ℕ) → s ≡ record { j = pos j; m = pos (j + k) } → IsFoot c a b j k → foot c a b ≡ s ∷ []
foot_list c a b s j k e is =
    let along = is.along in
    let whole = is.whole in
    foot_is c a b (omega (arith, ints, along, is.behind_start)) (omega (arith, ints, along, whole, is.before_end))
    ∙ ap (λ (t : Spot). t ∷ []) (sym (e ∙ (λ x. spot (along x) (pos (whole x)))))

first_foot_spot : (P : Scaled → Type 0) (c a b : Pt) (s : Spot) → IsFirstFoot c P a b s → IsFirstSpot a b P (start_spot ∷ end_spot ∷ foot c a b) s
first_foot_spot P c a b s is = (
  3,
  first_behind (λ t. P (at_spot a b t)) _ (start_spot ∷ end_spot ∷ []) [] s 3 (ap (λ (list : List Spot). start_spot ∷ end_spot ∷ list) (foot_list c a b s is.j is.k is.at is.foot))
      (subst P (sym (at_first a b)) is.start, (subst P (sym (at_last a b)) is.end, tt))
      (λ far. is.fails (subst P (foot_spot_at a b s is.j is.k is.at) far)) refl,
)

pub boss_first : (rho h : ℤ) (c : Circ) (a b : Pt) (s : Spot) → h ≡ c.r +ℤ rho → IsFirstOff (surfaces.Circ c) (IsOver (surfaces.Circ c) h) a b s
    → IsFirstSpot a b (IsClear rho (parts.Boss c)) (spots (parts.Boss c) a b) s
boss_first rho h c a b s e is = subst (λ (z : ℤ). IsFirstSpot a b (IsOver (surfaces.Circ c) z) (start_spot ∷ end_spot ∷ foot c.c a b) s) e (of_kind is)
  where
    of_kind : IsFirstOff (surfaces.Circ c) (IsOver (surfaces.Circ c) h) a b s → IsFirstSpot a b (IsOver (surfaces.Circ c) h) (start_spot ∷ end_spot ∷ foot c.c a b) s
    of_kind (inl end) = first_end_spot (IsOver (surfaces.Circ c) h) a b (foot c.c a b) s end
    of_kind (inr at) = first_foot_spot (IsOver (surfaces.Circ c) h) c.c a b s at

pub ends_first : (P : Scaled → Type 0) (a b : Pt) (s : Spot) → IsFirstEnd P a b s → IsFirstSpot a b P (start_spot ∷ end_spot ∷ []) s
ends_first P a b s is = first_end_spot P a b [] s is

-- ---- each spot that is looked at is a point of the segment
abbrev IsWeighted : Spot → Type 0
IsWeighted t = 0 < unsigned_abs t.j + unsigned_abs (t.m -ℤ t.j)

inner_weighted : (j m : ℤ) → AllByRecursion IsWeighted (inner j m)
inner_weighted j m = elim (order_cases (pos 0) j) [
  | inr behind ↦ rw (lt_false (pos 0) j behind) tt
  | inl some ↦ elim (order_cases j m) [ inl less ↦ rw (lt_true (pos 0) j some, lt_true j m less) (omega (arith, ints, some), tt) | inr beyond ↦ rw (lt_true (pos 0) j some, lt_false j m beyond) tt ]
]

crossing_weighted : (j m : ℤ) → AllByRecursion IsWeighted (inner_by_sign j m)
crossing_weighted j m = elim (order_cases m (pos 0)) [ inl less ↦ rw (lt_true m (pos 0) less) (inner_weighted (neg_ℤ j) (neg_ℤ m)) | inr more ↦ rw (lt_false m (pos 0) more) (inner_weighted j m) ]

spots_weighted : (part : Part) (a b : Pt) → AllByRecursion IsWeighted (spots part a b)
spots_weighted (parts.Edge p q) a b =
    all-append IsWeighted (start_spot ∷ end_spot ∷ foot p a b ++ foot q a b) (crossing a b p q)
    (all-append IsWeighted (start_spot ∷ end_spot ∷ foot p a b) (foot q a b)
    (omega arith, (omega arith, inner_weighted (dot (displacement a b) (displacement a p)) (pos (length_squared (displacement a b)))))
    (inner_weighted (dot (displacement a b) (displacement a q)) (pos (length_squared (displacement a b)))))
    (crossing_weighted (cross (displacement a p) (displacement p q)) (cross (displacement a b) (displacement p q)))
spots_weighted (parts.Boss c) a b = (omega arith, (omega arith, inner_weighted (dot (displacement a b) (displacement a c.c)) (pos (length_squared (displacement a b)))))
spots_weighted (parts.Bore c) a b = (omega arith, (omega arith, tt))

member : {T : Type 0} (Q : T → Type 0) (x : T) (before behind : List T) → AllByRecursion Q (before ++ x ∷ behind) → Q x
member Q x [] behind all = all.0
member Q x (y ∷ ys) behind all = member Q x ys behind all.1

pub spot_fails : (rho : ℤ) (part : Part) (s : Segment) (t : Spot) → IsFirstSpot s.start s.end (IsClear rho part) (spots part s.start s.end) t → ¬ IsClearOf rho s part
spot_fails rho part s t first = λ every.
    first.1.fails
    (every (unsigned_abs t.j) (unsigned_abs (t.m -ℤ t.j))
    (member IsWeighted t first.1.before first.1.behind (subst (λ (list : List Spot). AllByRecursion IsWeighted list) first.1.split (spots_weighted part s.start s.end))))

-- ---- a segment
pub gouge_of_segment : (rho : ℤ) (list : List Part) (s : Segment) (g : Gouge) (k : ℕ) (d : Part) → k < length list → AllByRecursion (IsClearOf rho s) (take k list)
    → g.part ≡ k + 1 → IsFirstSpot s.start s.end (IsClear rho (get_or list k d)) (spots (get_or list k d) s.start s.end) g.spot → IsGougeOfSegment rho list s g
gouge_of_segment rho list s g k d h all e first = record {
  its_part = get_or list k d;
  part = first_at (IsClearOf rho s) list k g.part (get_or list k d) h (any_default list k d (get_or list k d) h) all (spot_fails rho (get_or list k d) s g.spot first) e;
  spot = first;
}

pub not_clear : (rho : ℤ) (list : List Part) (s : Segment) (g : Gouge) → IsGougeOfSegment rho list s g → ¬ IsClearOfAll rho list s
not_clear rho list s g is = not_all (IsClearOf rho s) list g.part is.its_part is.part

-- ---- a path, segment by segment
pub record IsPassed (rho : ℤ) (list : List Part) (points : List Pt) (at : Pt) (left : List Pt) (i : ℕ) : Type 0 where
  pub before : List Segment
  pub split : segments_of points ≡ before ++ segments_of (at ∷ left)
  pub hold : AllByRecursion (IsClearOfAll rho list) before
  pub count : length before ≡ i
  pub point : IsPoint at
  pub vertices : ArePoints left

pub passed_first : (rho : ℤ) (list : List Part) (a : Pt) (left : List Pt) → IsPoint a → ArePoints left → IsPassed rho list (a ∷ left) a left 0
passed_first rho list a left is are = record { before = []; split = refl; hold = tt; count = refl; point = is; vertices = are }

pub passed_more : (rho : ℤ) (list : List Part) (points : List Pt) (at q : Pt) (left : List Pt) (i : ℕ) → IsClearOfAll rho list (segment at q) → IsPassed rho list points at (q ∷ left) i
    → IsPassed rho list points q left (i + 1)
passed_more rho list points at q left i clear is = record {
  before = is.before ++ segment at q ∷ [];
  split = is.split ∙ sym (append_assoc is.before (segment at q ∷ []) (segments_of (q ∷ left)));
  hold = all-append (IsClearOfAll rho list) is.before (segment at q ∷ []) is.hold (clear, tt);
  count = omega (arith, is.count, length-append is.before (segment at q ∷ []));
  point = is.vertices.0;
  vertices = is.vertices.1;
}

pub passed_hit : (rho : ℤ) (list : List Part) (points : List Pt) (at q : Pt) (left : List Pt) (i : ℕ) (g : Gouge) → IsGougeOfSegment rho list (segment at q) g → IsPassed rho list points at (q ∷ left) i
    → IsGougeOfPath rho list points (record g { segment = i + 1 })
passed_hit rho list points at q left i g gouge is = record {
  its_segment = segment at q;
  segment = first_behind (IsClearOfAll rho list) (segments_of points) is.before (segments_of (q ∷ left)) (segment at q) (i + 1) is.split is.hold (not_clear rho list (segment at q) g gouge) (omega (arith, is.count));
  gouge = record { its_part = gouge.its_part; part = gouge.part; spot = gouge.spot };
}

pub passed_all : (rho : ℤ) (list : List Part) (points : List Pt) (at : Pt) (i : ℕ) → IsPassed rho list points at [] i → IsClearPath rho list points
passed_all rho list points at i is = subst (λ (segs : List Segment). AllByRecursion (IsClearOfAll rho list) segs) (sym (is.split)) (all-append (IsClearOfAll rho list) is.before [] is.hold tt)

-- ---- motions
pub pass_at : (jobs : List Job) (reaches : List Reach) (i : ℕ) (d : Pass) (e : Job) (f : Reach) → i < length jobs → length reaches ≡ length jobs → get_or (passes jobs reaches) i d ≡ pass (get_or jobs i e) (get_or reaches i f)
pass_at [] reaches i d e f h same = absurd (omega (arith, h))
pass_at (job ∷ jobs) [] i d e f h same = absurd (omega (arith, same))
pass_at (job ∷ jobs) (reach ∷ reaches) zero d e f h same = refl
pass_at (job ∷ jobs) (reach ∷ reaches) (suc i) d e f h same = pass_at jobs reaches i d e f (omega (arith, h)) (omega (arith, same))

pub passes_length : (jobs : List Job) (reaches : List Reach) → length reaches ≡ length jobs → length (passes jobs reaches) ≡ length jobs
passes_length [] reaches e = refl
passes_length (job ∷ jobs) [] e = absurd (omega (arith, e))
passes_length (job ∷ jobs) (reach ∷ reaches) e = ap suc (passes_length jobs reaches (omega (arith, e)))

pub reach_at : (reaches : List Reach) (i : ℕ) (d : Reach) → AreReaches reaches → i < length reaches → IsReach (get_or reaches i d)
reach_at reaches i d are h = all_at IsReach reaches i d are h

is_pass : (jobs : List Job) (reaches : List Reach) (i : ℕ) (job : Job) (reach : Reach) → i < length jobs → length reaches ≡ length jobs → job ≡ get_or jobs i job → reach ≡ get_or reaches i reach
    → pass job reach ≡ get_or (passes jobs reaches) i (pass job reach)
is_pass jobs reaches i job reach h same e f = (λ x. pass (e x) (f x)) ∙ sym (pass_at jobs reaches i (pass job reach) job reach h same)

in_passes : (jobs : List Job) (reaches : List Reach) (i : ℕ) → i < length jobs → length reaches ≡ length jobs → i < length (passes jobs reaches)
in_passes jobs reaches i h same = omega (arith, h, passes_length jobs reaches same)

pub motion_more : (jobs : List Job) (reaches : List Reach) (list : List Part) (i : ℕ) (job : Job) (reach : Reach) → i < length jobs → length reaches ≡ length jobs → job ≡ get_or jobs i job → reach ≡ get_or reaches i reach
    → AllByRecursion (IsClearPass list) (take i (passes jobs reaches)) → IsClearPass list (pass job reach) → AllByRecursion (IsClearPass list) (take (i + 1) (passes jobs reaches))
motion_more jobs reaches list i job reach h same e f all one =
    all_more (IsClearPass list) (passes jobs reaches) i (pass job reach) (in_passes jobs reaches i h same) (is_pass jobs reaches i job reach h same e f) all one

path_fails : (list : List Part) (p : Pass) (g : Gouge) → IsGougeOfPath p.rho list p.points g → ¬ IsClearPass list p
path_fails list p g is = not_all (IsClearOfAll p.rho list) (segments_of p.points) g.segment is.its_segment is.segment

pub motion_gouge_is : (jobs : List Job) (reaches : List Reach) (list : List Part) (i : ℕ) (job : Job) (reach : Reach) (g : Gouge) → i < length jobs → length reaches ≡ length jobs → job ≡ get_or jobs i job → reach ≡ get_or reaches i reach
    → AllByRecursion (IsClearPass list) (take i (passes jobs reaches)) → IsGougeOfPath (clearance reach) list job.points g → IsFirstGouge (passes jobs reaches) list (record g { motion = i + 1 })
motion_gouge_is jobs reaches list i job reach g h same e f all is = record {
  its_pass = pass job reach;
  motion = first_at (IsClearPass list) (passes jobs reaches) i (i + 1) (pass job reach) (in_passes jobs reaches i h same) (is_pass jobs reaches i job reach h same e f) all (path_fails list (pass job reach) g is) refl;
  gouge = record { its_segment = is.its_segment; segment = is.segment; gouge = record { its_part = is.gouge.its_part; part = is.gouge.part; spot = is.gouge.spot } };
}

pub motions_all : (jobs : List Job) (reaches : List Reach) (list : List Part) (i : ℕ) → length jobs ≤ i → length reaches ≡ length jobs → AllByRecursion (IsClearPass list) (take i (passes jobs reaches))
    → AllByRecursion (IsClearPass list) (passes jobs reaches)
motions_all jobs reaches list i h same all = all_whole (IsClearPass list) (passes jobs reaches) i (omega (arith, h, passes_length jobs reaches same)) all

pub reach_is : (reaches : List Reach) (i : ℕ) (d : Reach) → i < length reaches → get_or reaches i d ≡ get_or reaches i (get_or reaches i d)
reach_is reaches i d h = any_default reaches i d (get_or reaches i d) h

take_whole : (xs : List Pt) (n : ℕ) → length xs ≤ n → take n xs ≡ xs
take_whole [] zero h = refl
take_whole [] (suc n) h = refl
take_whole (x ∷ xs) zero h = absurd (omega (arith, h))
take_whole (x ∷ xs) (suc n) h = ap (λ (ys : List Pt). x ∷ ys) (take_whole xs n (omega (arith, h)))

pub points_again : (points : List Pt) (d : Pt) → 1 ≤ length points → get_or points 0 d ∷ take (length points - 1) (drop 1 points) ≡ points
points_again [] d h = absurd (omega (arith, h))
points_again (x ∷ xs) d h = ap (λ (ys : List Pt). x ∷ ys) (take_whole xs (length (x ∷ xs) - 1) (omega arith))

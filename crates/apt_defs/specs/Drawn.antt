-- What a definition draws: what the figure has to do with the names and numbers of its statement, apart from the formulas that find it.
use Rattle.std.specs.Prelude.{◌≡◌, ◌≢◌, ◌⊎◌, ℕ, ℤ, pos, negsuc, neg_ℤ, ◌≤ℤ◌, ◌<ℤ◌, Bool, true, false, List, Option, Some, None, IsSomeAnd}
use Rattle.apt_num.specs.Sign.{square}
use Rattle.apt_words.specs.Asks.{Defines, ask_of}
use Rattle.apt_words.specs.declared.Pick.{Pick}
use Rattle.apt_words.specs.declared.Pick.TheVariants as picks
use Rattle.apt_words.specs.declared.Units.{Units}
use Rattle.apt_words.specs.declared.ask.CircleForm.{CircleForm}
use Rattle.apt_words.specs.declared.ask.CircleForm.TheVariants as circles
use Rattle.apt_words.specs.declared.ask.Form.{Form}
use Rattle.apt_words.specs.declared.ask.Form.TheVariants as forms
use Rattle.apt_words.specs.declared.ask.LineForm.{LineForm}
use Rattle.apt_words.specs.declared.ask.LineForm.TheVariants as lines
use Rattle.apt_words.specs.declared.ask.PointForm.{PointForm}
use Rattle.apt_words.specs.declared.ask.PointForm.TheVariants as points
use Rattle.apt_words.specs.declared.deed.Deed.{Deed}
use Rattle.apt_scalar.specs.Scalars.{grid_units}
use Rattle.apt_plane.specs.declared.figures.Pt.{Pt}
use Rattle.apt_plane.specs.declared.figures.Line.{Line}
use Rattle.apt_plane.specs.declared.figures.Circ.{Circ}
use Rattle.apt_plane.specs.declared.figures.Surface.{Surface}
use Rattle.apt_plane.specs.declared.figures.Surface.TheVariants as surfaces
use Rattle.apt_plane.specs.Vectors.{displacement, cross, dot, length_squared}
use Rattle.apt_canon.specs.Scale.{from, IsNearLine, IsNearCircle, IsAway}
use Rattle.apt_canon.specs.Circles.{IsFurther, IsBeyond}
use Rattle.apt_canon.specs.Feet.{side_picked, IsPicked}
use Rattle.apt_canon.specs.Tangents.{PassesBy, RunsAlong, drop}
use Rattle.apt_canon.specs.RoundLaws.{Touches, IsThrough, IsBeside}
use Rattle.apt_defs.specs.declared.figure.Figure.{Figure}
use Rattle.apt_defs.specs.declared.figure.Figure.TheVariants as figures
use Rattle.apt_defs.specs.Figures.{Table, figure_named}
use Rattle.apt_defs.specs.Definitions.{IsNoDefinition}

-- ---- a figure of its kind, of which a fact holds

-- a point at any height
abbrev pub IsPlaceOf : (Pt → Type 0) → Figure → Type 0
IsPlaceOf P (figures.Point xy z) = P xy
IsPlaceOf P (figures.Shape s) = ⊥
IsPlaceOf P figures.Scalar = ⊥

-- a point at height 0
abbrev pub IsPointOf : (Pt → Type 0) → Figure → Type 0
IsPointOf P (figures.Point xy z) = (z ≡ pos 0) × P xy
IsPointOf P (figures.Shape s) = ⊥
IsPointOf P figures.Scalar = ⊥

abbrev pub IsSurfaceOf : (Surface → Type 0) → Figure → Type 0
IsSurfaceOf P (figures.Point xy z) = ⊥
IsSurfaceOf P (figures.Shape s) = P s
IsSurfaceOf P figures.Scalar = ⊥

abbrev pub IsLineOf : (Line → Type 0) → Figure → Type 0
IsLineOf P (figures.Point xy z) = ⊥
IsLineOf P (figures.Shape (surfaces.Line l)) = P l
IsLineOf P (figures.Shape (surfaces.Circ k)) = ⊥
IsLineOf P figures.Scalar = ⊥

abbrev pub IsCircleOf : (Circ → Type 0) → Figure → Type 0
IsCircleOf P (figures.Point xy z) = ⊥
IsCircleOf P (figures.Shape (surfaces.Line l)) = ⊥
IsCircleOf P (figures.Shape (surfaces.Circ k)) = P k
IsCircleOf P figures.Scalar = ⊥

-- ---- a fact of the figure that a name stands for

abbrev pub OfPoint : Table → List ℕ → (Pt → Type 0) → Type 0
OfPoint t n P = IsSomeAnd (figure_named t n) (IsPlaceOf P)

abbrev pub OfSurface : Table → List ℕ → (Surface → Type 0) → Type 0
OfSurface t n P = IsSomeAnd (figure_named t n) (IsSurfaceOf P)

abbrev pub OfLine : Table → List ℕ → (Line → Type 0) → Type 0
OfLine t n P = IsSomeAnd (figure_named t n) (IsLineOf P)

abbrev pub OfCircle : Table → List ℕ → (Circ → Type 0) → Type 0
OfCircle t n P = IsSomeAnd (figure_named t n) (IsCircleOf P)

-- ---- numbers

-- a point lies where two numbers put it
pub record IsAt (units : Units) (a b : ℤ) (p : Pt) : Type 0 where
  pub x : p.x ≡ grid_units units a
  pub y : p.y ≡ grid_units units b

-- a height as it is written, and 0 where it is left out
abbrev pub IsHeight : Units → Option ℤ → ℤ → Type 0
IsHeight units None h = h ≡ pos 0
IsHeight units (Some z) h = h ≡ grid_units units z

-- ---- POINT

-- a point where its numbers put it
abbrev pub IsWritten : Units → ℤ → ℤ → Option ℤ → Figure → Type 0
IsWritten units x y z (figures.Point xy h) = IsAt units x y xy × IsHeight units z h
IsWritten units x y z (figures.Shape s) = ⊥
IsWritten units x y z figures.Scalar = ⊥

-- a point lies on a line, up to one unit
abbrev pub IsOnLine : Line → Pt → Type 0
IsOnLine l p = IsNearLine l (pos 0) (pos 1) p

-- and on a circle
abbrev pub IsOnCircle : Circ → Pt → Type 0
IsOnCircle c p = IsNearCircle c (pos 1) p

-- a point lies on two lines
pub record IsOnBoth (l m : Line) (p : Pt) : Type 0 where
  pub first : IsOnLine l p
  pub second : IsOnLine m p

-- where a line and a circle meet: further along the line than the centre for a sigma of 1, and back for -1
pub record IsOfLine (l : Line) (c : Circ) (sigma : ℤ) (p : Pt) : Type 0 where
  pub on_line : IsOnLine l p
  pub on_circle : IsOnCircle c p
  pub along : IsFurther l c sigma p

-- where two circles meet: left of the way between their centres for a sigma of 1, and right for -1
pub record IsOfCircles (c d : Circ) (sigma : ℤ) (p : Pt) : Type 0 where
  pub on_first : IsOnCircle c p
  pub on_second : IsOnCircle d p
  pub across : IsBeyond c d sigma p

-- one of the two points in which curves meet
abbrev pub IsMeeting : Surface → Surface → ℤ → Pt → Type 0
IsMeeting (surfaces.Line l) (surfaces.Line m) sigma p = ⊥
IsMeeting (surfaces.Line l) (surfaces.Circ c) sigma p = IsOfLine l c sigma p
IsMeeting (surfaces.Circ c) (surfaces.Line l) sigma p = IsOfLine l c sigma p
IsMeeting (surfaces.Circ c) (surfaces.Circ d) sigma p = IsOfCircles c d sigma p

-- a is greater than b, or the same, and then c is at least d
abbrev pub ComesFirst : ℤ → ℤ → ℤ → ℤ → Type 0
ComesFirst a b c d = (b <ℤ a) ⊎ ((a ≡ b) × (d ≤ℤ c))

-- a point lies further the way of a modifier than another, or as far, and then no less in the other coordinate
abbrev pub LiesPast : Pick → Pt → Pt → Type 0
LiesPast picks.XLarge p q = ComesFirst p.x q.x p.y q.y
LiesPast picks.XSmall p q = ComesFirst q.x p.x q.y p.y
LiesPast picks.YLarge p q = ComesFirst p.y q.y p.x q.x
LiesPast picks.YSmall p q = ComesFirst q.y p.y q.x p.x

-- two curves meet in two points: the one that lies past the other by the modifier
pub record IsChosen (s r : Surface) (pick : Pick) (p : Pt) : Type 0 where
  pub ahead : Pt
  pub back : Pt
  pub is_ahead : IsMeeting s r (pos 1) ahead
  pub is_back : IsMeeting s r (negsuc 0) back
  pub is_one : (p ≡ ahead) ⊎ (p ≡ back)
  pub past_ahead : LiesPast pick p ahead
  pub past_back : LiesPast pick p back

-- ---- LINE

-- a line runs from one point to another
pub record RunsTo (p q : Pt) (l : Line) : Type 0 where
  pub base : l.base ≡ p
  pub to : from l.base l.dir ≡ q

-- and where numbers put the points
pub record RunsToAt (units : Units) (x y u v : ℤ) (l : Line) : Type 0 where
  pub base : IsAt units x y l.base
  pub to : IsAt units u v (from l.base l.dir)

-- a line runs through a point, the way of another line
pub record IsParallel (p : Pt) (m l : Line) : Type 0 where
  pub base : l.base ≡ p
  pub dir : l.dir ≡ m.dir

-- or square to it, turned to its left
pub record IsSquare (p : Pt) (m l : Line) : Type 0 where
  pub base : l.base ≡ p
  pub square : dot m.dir l.dir ≡ pos 0
  pub left : pos 0 <ℤ cross m.dir l.dir
  pub length : length_squared l.dir ≡ length_squared m.dir

-- a line runs the way of another, at a distance to the side that a modifier names
pub record IsParallelAt (m : Line) (pick : Pick) (distance : ℤ) (l : Line) : Type 0 where
  pub dir : l.dir ≡ m.dir
  pub beside : IsBeside (side_picked m pick) m distance l.base
  pub away : pos 0 <ℤ distance → IsAway m distance l.base
  pub side : pos 0 <ℤ distance → IsPicked m pick l.base

-- a line touches a circle, up to two units: one on the left of the circle has it on its right
abbrev pub RunsBy : Bool → Circ → Line → Type 0
RunsBy true c l = IsNearLine l (neg_ℤ c.r) (pos 2) c.c
RunsBy false c l = IsNearLine l c.r (pos 2) c.c

-- a line touches a circle, which lies on the side that is asked for
pub record IsTangent (left : Bool) (c : Circ) (l : Line) : Type 0 where
  pub touches : RunsBy left c l
  pub side : PassesBy left l c

-- from a point past a circle, and towards it where the point is not on the circle
pub record IsTangentFrom (p : Pt) (left : Bool) (c : Circ) (l : Line) : Type 0 where
  pub base : l.base ≡ p
  pub tangent : IsTangent left c l
  pub onwards : length_squared (displacement p c.c) ≢ square c.r → RunsAlong (displacement p c.c) l

-- from one circle past another, and towards it where the circles do not touch there
pub record IsTangentOf (c : Circ) (left_c : Bool) (d : Circ) (left_d : Bool) (l : Line) : Type 0 where
  pub base : IsOnCircle c l.base
  pub first : IsTangent left_c c l
  pub second : IsTangent left_d d l
  pub onwards : length_squared (displacement c.c d.c) ≢ square (drop c left_c d left_d) → RunsAlong (displacement c.c d.c) l

-- ---- CIRCLE

-- a circle of a radius about a point
pub record IsAbout (c : Pt) (r : ℤ) (k : Circ) : Type 0 where
  pub centre : k.c ≡ c
  pub radius : k.r ≡ r

-- about a point that numbers put in its place
pub record IsAboutAt (units : Units) (x y r : ℤ) (k : Circ) : Type 0 where
  pub centre : IsAt units x y k.c
  pub radius : k.r ≡ grid_units units r

-- about a point, along a line
pub record IsAlong (c : Pt) (l : Line) (k : Circ) : Type 0 where
  pub centre : k.c ≡ c
  pub touches : Touches k l

-- about a point, through another
pub record IsAboutThrough (c p : Pt) (k : Circ) : Type 0 where
  pub centre : k.c ≡ c
  pub through : IsOnCircle k p

-- along two lines, on the sides that modifiers name
pub record IsInCorner (l : Line) (pick_l : Pick) (m : Line) (pick_m : Pick) (r : ℤ) (k : Circ) : Type 0 where
  pub radius : k.r ≡ r
  pub first : Touches k l
  pub second : Touches k m
  pub side_first : IsPicked l pick_l k.c
  pub side_second : IsPicked m pick_m k.c

-- ---- what each form draws

abbrev pub PointIsDrawn : Units → Table → PointForm → Figure → Type 0
PointIsDrawn units t (points.Xy x y z) f = IsWritten units x y z f
PointIsDrawn units t (points.Lines a b) f = OfLine t a (λ l. OfLine t b (λ m. IsPointOf (IsOnBoth l m) f))
PointIsDrawn units t (points.Picked k a b) f = OfSurface t a (λ s. OfSurface t b (λ r. IsPointOf (IsChosen s r k) f))
PointIsDrawn units t (points.Centre c) f = OfCircle t c (λ k. IsPointOf (λ p. p ≡ k.c) f)

abbrev pub LineIsDrawn : Units → Table → LineForm → Figure → Type 0
LineIsDrawn units t (lines.Xy x y u v) f = IsLineOf (RunsToAt units x y u v) f
LineIsDrawn units t (lines.Points a b) f = OfPoint t a (λ p. OfPoint t b (λ q. IsLineOf (RunsTo p q) f))
LineIsDrawn units t (lines.Parallel a b) f = OfPoint t a (λ p. OfLine t b (λ m. IsLineOf (IsParallel p m) f))
LineIsDrawn units t (lines.Square a b) f = OfPoint t a (λ p. OfLine t b (λ m. IsLineOf (IsSquare p m) f))
LineIsDrawn units t (lines.Beside a k v) f = OfLine t a (λ m. IsLineOf (IsParallelAt m k (grid_units units v)) f)
LineIsDrawn units t (lines.Past a h b) f = OfPoint t a (λ p. OfCircle t b (λ c. IsLineOf (IsTangentFrom p h c) f))
LineIsDrawn units t (lines.PastTwo h a k b) f = OfCircle t a (λ c. OfCircle t b (λ d. IsLineOf (IsTangentOf c h d k) f))

abbrev pub CircleIsDrawn : Units → Table → CircleForm → Figure → Type 0
CircleIsDrawn units t (circles.Xyr x y r) f = IsCircleOf (IsAboutAt units x y r) f
CircleIsDrawn units t (circles.Points a b c) f = OfPoint t a (λ p. OfPoint t b (λ q. OfPoint t c (λ r. IsCircleOf (IsThrough p q r) f)))
CircleIsDrawn units t (circles.Radius a r) f = OfPoint t a (λ p. IsCircleOf (IsAbout p (grid_units units r)) f)
CircleIsDrawn units t (circles.Along a b) f = OfPoint t a (λ p. OfLine t b (λ l. IsCircleOf (IsAlong p l) f))
CircleIsDrawn units t (circles.Through a b) f = OfPoint t a (λ p. OfPoint t b (λ q. IsCircleOf (IsAboutThrough p q) f))
CircleIsDrawn units t (circles.Corner j a k b r) f = OfLine t a (λ l. OfLine t b (λ m. IsCircleOf (IsInCorner l j m k (grid_units units r)) f))

-- a number is no figure
abbrev pub IsDrawn : Units → Table → Form → Figure → Type 0
IsDrawn units t (forms.Number v) f = f ≡ figures.Scalar
IsDrawn units t (forms.Point form) f = PointIsDrawn units t form f
IsDrawn units t (forms.Line form) f = LineIsDrawn units t form f
IsDrawn units t (forms.Circle form) f = CircleIsDrawn units t form f

-- ---- behind a step

-- the name that the statement defines has now a figure that is drawn as it says
pub record IsDrawnIn (units : Units) (before : Table) (deed : Deed) (now : Table) : Type 0 where
  pub name : List ℕ
  pub form : Form
  pub figure : Figure
  pub asked : ask_of deed ≡ Defines name form
  pub set : figure_named now name ≡ Some figure
  pub drawn : IsDrawn units before form figure

-- or it defines none
abbrev pub HasDrawn : Units → Table → Deed → Table → Bool → Type 0
HasDrawn units before deed now true = IsDrawnIn units before deed now
HasDrawn units before deed now false = IsNoDefinition deed

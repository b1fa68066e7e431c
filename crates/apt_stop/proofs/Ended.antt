-- What the end of a course is, whatever refuses none.
use Rattle.std.proofs.Common.{refl, ◌≡◌, ◌∙◌, sym, subst, Bool, true, false, true≢false, ℤ, ◌-ℤ◌}
use Rattle.apt_num.specs.declared.Sign.{Sign}
use Rattle.apt_words.specs.declared.Stop.{Stop}
use Rattle.apt_words.specs.declared.Stop.TheVariants as stops
use Rattle.apt_words.specs.Rows.{NoneHolds}
use Rattle.apt_plane.specs.declared.figures.Pt.{Pt}
use Rattle.apt_plane.specs.declared.figures.Dir.{Dir}
use Rattle.apt_plane.specs.declared.figures.Line.{Line}
use Rattle.apt_plane.specs.declared.figures.Circ.{Circ}
use Rattle.apt_plane.specs.declared.figures.Surface.{Surface}
use Rattle.apt_plane.specs.declared.figures.Surface.TheVariants as surfaces
use Rattle.apt_offset.specs.declared.Target.{Target}
use Rattle.apt_offset.specs.Sides.{side_at_tangency}
use Rattle.apt_offset.specs.Targets.{signed, offset_surface}
use Rattle.apt_stop.specs.declared.course.Course.{Course}
use Rattle.apt_stop.specs.Courses.{is_tanto, stop_side}
use Rattle.apt_stop.specs.Choices.{end_of, meets_at, course_cases}
use Rattle.apt_stop.specs.Ranges.{IsCourse}
use Rattle.apt_stop.specs.Ends.{MeetsStop, EndsOnLine, EndsOnCircle, IsEndOn}
use Rattle.apt_stop.proofs.Parts.{on_targets, moved, Meets, Touches, meets, touches}
use Rattle.apt_stop.proofs.OnLines.{Met, meets_on_line}
use Rattle.apt_stop.proofs.Feet.{Touched, touches_on_line}
use Rattle.apt_stop.proofs.OnRounds.{meets_on_round}
use Rattle.apt_stop.proofs.RoundsApart.{meets_apart}
use Rattle.apt_stop.proofs.RoundsTouched.{TouchedRound, touches_on_round}

-- ---- along a line
met_ends : (c : Course) (d : Dir) → is_tanto c.how ≡ false → Meets c → Met c d (meets_at c (stop_side c)) → EndsOnLine c d (end_of c)
met_ends c d e free met =
    let stops_there : MeetsStop c (meets_at c (stop_side c)) = record { stop = met.stop; kept = rw free.side met.kept } in
    rw free.end (record {
      ahead = met.ahead;
      track = met.track;
      meets = λ f. stops_there;
      touches = λ f. absurd (true≢false (sym f ∙ e));
    })

touched_ends : (c : Course) (d : Dir) (q : Pt) → is_tanto c.how ≡ true → end_of c ≡ q → Touched c d q → EndsOnLine c d (end_of c)
touched_ends c d q e end touched =
    rw end (record {
      ahead = touched.ahead;
      track = touched.track;
      meets = λ f. absurd (true≢false (sym e ∙ f));
      touches = λ f. touched.stop;
    })

is_touch : (how : Stop) → is_tanto how ≡ true → how ≡ stops.Tanto
is_touch stops.To e = absurd cc
is_touch stops.On e = absurd cc
is_touch stops.Past e = absurd cc
is_touch stops.Tanto e = refl

touch_line : (c : Course) (l : Line) (v : Sign) (check : Surface) (w : Sign) (m : ℤ) → w ≡ side_at_tangency (surfaces.Line l) check v → is_tanto c.how ≡ true
    → let n = moved c (surfaces.Line l) v check w m in IsCourse n → Touches n → EndsOnLine n l.dir (end_of n)
touch_line c l v (surfaces.Line k) w m place e is free = absurd (true≢false free.axis)
touch_line c l v (surfaces.Circ k) w m place e is free =
    subst (λ (w : Sign). let n = moved c (surfaces.Line l) v (surfaces.Circ k) w m in IsCourse n → Touches n → EndsOnLine n l.dir (end_of n)) (sym place)
    (λ is free. touched_ends _ l.dir _ e free.end (touches_on_line c l v m k is free)) is free

on_line : (c : Course) (l : Line) (v : Sign) (check : Surface) (w : Sign) (m : ℤ) → (c.how ≡ stops.Tanto → w ≡ side_at_tangency (surfaces.Line l) check v)
    → let n = moved c (surfaces.Line l) v check w m in IsCourse n → NoneHolds (course_cases n) → (b : Bool) → is_tanto c.how ≡ b → EndsOnLine n l.dir (end_of n)
on_line c l v check w m place is none true e = touch_line c l v check w m (place (is_touch c.how e)) e is (touches (moved c (surfaces.Line l) v check w m) e none)
on_line c l v check w m place is none false e =
    let n = moved c (surfaces.Line l) v check w m in
    let free = meets n e none in
    met_ends n l.dir e free (meets_on_line n l.base l.dir (signed v m) n.stop is free)

-- ---- round a circle
touched_round-ends : (c : Course) (o q : Pt) → is_tanto c.how ≡ true → end_of c ≡ q → TouchedRound c o q → EndsOnCircle c o (end_of c)
touched_round-ends c o q e end touched =
    rw end (record {
      track = touched.track;
      meets = λ f. absurd (true≢false (sym e ∙ f));
      touches = λ f. touched.stop;
      apart = touched.apart;
    })

touch_round : (c : Course) (k : Circ) (v : Sign) (check : Surface) (w : Sign) (m : ℤ) → w ≡ side_at_tangency (surfaces.Circ k) check v → is_tanto c.how ≡ true
    → let n = moved c (surfaces.Circ k) v check w m in IsCourse n → Touches n → EndsOnCircle n k.c (end_of n)
touch_round c k v check w m place e is free =
    subst (λ (w : Sign). let n = moved c (surfaces.Circ k) v check w m in IsCourse n → Touches n → EndsOnCircle n k.c (end_of n)) (sym place)
    (λ is free. touched_round-ends _ k.c _ e free.end (touches_on_round c k v m check is free)) is free

on_round : (c : Course) (k : Circ) (v : Sign) (check : Surface) (w : Sign) (m : ℤ) → (c.how ≡ stops.Tanto → w ≡ side_at_tangency (surfaces.Circ k) check v)
    → let n = moved c (surfaces.Circ k) v check w m in IsCourse n → NoneHolds (course_cases n) → (b : Bool) → is_tanto c.how ≡ b → EndsOnCircle n k.c (end_of n)
on_round c k v check w m place is none true e = touch_round c k v check w m (place (is_touch c.how e)) e is (touches (moved c (surfaces.Circ k) v check w m) e none)
on_round c k v check w m place is none false e =
    let n = moved c (surfaces.Circ k) v check w m in
    let free = meets n e none in
    let both = meets_on_round n k.c (k.r -ℤ signed v m) n.stop is free in
    rw free.end (record {
      track = both.0;
      meets = λ f. both.1;
      touches = λ f. absurd (true≢false (sym f ∙ e));
      apart = meets_apart n k.c (k.r -ℤ signed v m) n.stop is free;
    })

moved_ends : (c : Course) (drive : Surface) (v : Sign) (check : Surface) (w : Sign) (m : ℤ) → (c.how ≡ stops.Tanto → w ≡ side_at_tangency drive check v)
    → let n = moved c drive v check w m in IsCourse n → NoneHolds (course_cases n) → IsEndOn n.track n (end_of n)
moved_ends c (surfaces.Line l) v check w m place is none = on_line c l v check w m place is none (is_tanto c.how) refl
moved_ends c (surfaces.Circ k) v check w m place is none = on_round c k v check w m place is none (is_tanto c.how) refl

-- of a course that has such an end, by its targets
abbrev HasEnd : Course → Target → Target → Type 0
HasEnd c track stop = let n = on_targets c track stop in IsCourse n → NoneHolds (course_cases n) → IsEndOn track n (end_of n)

pub course_ends : (c : Course) → IsCourse c → NoneHolds (course_cases c) → IsEndOn c.track c (end_of c)
course_ends c is =
    let at = is.moved in
    subst (λ (t : Target). HasEnd c t c.stop) (sym at.track)
    (subst (λ (t : Target). HasEnd c (offset_surface c.drive at.at_drive at.radius) t) (sym at.stop) (moved_ends c c.drive at.at_drive c.check at.at_check at.radius at.touching)) is

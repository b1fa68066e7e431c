-- Records that follow steps say by themselves where they lead, and which contours they have.
use Rattle.std.proofs.Common.{◌≡◌, ◌∙◌, ℕ, ◌+◌, ◌*◌, zero, suc, ℤ, pos, negsuc, unsigned_abs, ◌==◌, Bool, List, [], ◌∷◌, ◌++◌, length, map, Option, Some, None, refl, sym, ap, cond, arith}
use Rattle.std.specs.Ordering.{int_eq}
use Rattle.std.proofs.lemmas.Bool.Decides.{Decides-eqb, Decides-int_eq}
use Rattle.std.proofs.lemmas.Int.{ints}
use Rattle.std.proofs.lemmas.Bool.{and_from}
use Rattle.apt_words.specs.Asks.{listed}
use Rattle.apt_words.specs.declared.deed.Step.{Step}
use Rattle.apt_arc.proofs.Clear.{same_answer}
use Rattle.apt_plane.specs.declared.figures.Pt.{Pt}
use Rattle.apt_plane.specs.declared.figures.Dir.{Dir}
use Rattle.apt_plane.specs.declared.figures.Surface.{Surface}
use Rattle.apt_plane.specs.declared.figures.Surface.TheVariants as surfaces
use Rattle.apt_plane.specs.Vectors.{displacement, length_squared}
use Rattle.apt_offset.specs.Targets.{greater}
use Rattle.apt_offset.specs.Turns.{tangent}
use Rattle.apt_stop.specs.Nearness.{heading}
use Rattle.apt_certify.specs.Legal.{last_of}
use Rattle.apt_records.specs.declared.record.Note.{Note}
use Rattle.apt_records.specs.declared.record.Note.TheVariants as notes
use Rattle.apt_records.specs.declared.record.Position.{Position}
use Rattle.apt_records.specs.declared.record.Reach.{Reach}
use Rattle.apt_records.specs.declared.record.Reach.TheVariants as reaches
use Rattle.apt_records.specs.declared.record.Record.{Record}
use Rattle.apt_records.specs.declared.record.Record.TheVariants as records
use Rattle.apt_meaning.specs.declared.situation.Situation.{Situation}
use Rattle.apt_meaning.specs.declared.motion.Motion.{Motion}
use Rattle.apt_meaning.specs.declared.effect.Change.TheVariants as changes
use Rattle.apt_meaning.specs.declared.effect.Effect.{Effect}
use Rattle.apt_meaning.specs.declared.effect.Effect.TheVariants as effects
use Rattle.apt_meaning.specs.Situations.{first_situation, settings_with, forward_behind}
use Rattle.apt_records.specs.Vertices.{at_height}
use Rattle.apt_stop.specs.declared.legs.Legs.{Legs}
use Rattle.apt_stop.specs.declared.legs.Legs.TheVariants as legs
use Rattle.apt_meaning.specs.Motions.{grid_step}
use Rattle.apt_stop.specs.Legs.{leg_count}
use Rattle.apt_meaning.specs.Effects.{effect_of}
use Rattle.apt_meaning.specs.Paths.{Drive, Due, Told, first_leg, next_leg, due_behind, cut_on, nothing_said, is_nowhere, forward_to, forward_on, forward_there, with_point, counted, radius_by, Contour, at_points, last_position, motion_said, contour_said, with_note, with_record, said_behind, contours_behind, contours_of, IsLegalCut, EveryContour}
use Rattle.apt_meaning.specs.Records.{cut_record, records_of, last_behind, cut_at, after, legs_from, contours_by, MayHave, FollowsAs, HasAny, IsAsSaid, Follows}
use Rattle.apt_meaning.specs.Cuts.{IsOwnCut}
use Rattle.apt_meaning.proofs.Said.{IsMotionOf, said_by as effect_said}
use Rattle.apt_meaning.proofs.Asked.{CutsLegally, CutsOwn}
use Rattle.apt_meaning.proofs.Walks.Begins.{both}

-- ---- notes

pub nothing_tells : IsAsSaid nothing_said first_situation
nothing_tells = record { units = refl; radius = refl; intol = refl; outtol = refl; feed = refl; rapid = refl; position = refl; forward = refl }

note_tells : (s : Told) (here : Situation) (note : Note) → IsAsSaid s here → IsAsSaid (with_note s note) (record here { settings = settings_with here.settings note })
note_tells s here (notes.Partno text) t = t
note_tells s here (notes.Units units) t = record { units = refl; radius = t.radius; intol = t.intol; outtol = t.outtol; feed = t.feed; rapid = t.rapid; position = t.position; forward = t.forward }
note_tells s here (notes.Cutter d) t = record { units = t.units; radius = refl; intol = t.intol; outtol = t.outtol; feed = t.feed; rapid = t.rapid; position = t.position; forward = t.forward }
note_tells s here (notes.Intol i) t = record { units = t.units; radius = t.radius; intol = refl; outtol = t.outtol; feed = t.feed; rapid = t.rapid; position = t.position; forward = t.forward }
note_tells s here (notes.Outtol o) t = record { units = t.units; radius = t.radius; intol = t.intol; outtol = refl; feed = t.feed; rapid = t.rapid; position = t.position; forward = t.forward }
note_tells s here (notes.Feed f) t = record { units = t.units; radius = t.radius; intol = t.intol; outtol = t.outtol; feed = refl; rapid = t.rapid; position = t.position; forward = t.forward }
note_tells s here (notes.Do command) t = t
note_tells s here notes.Rapid t = record { units = t.units; radius = t.radius; intol = t.intol; outtol = t.outtol; feed = t.feed; rapid = refl; position = t.position; forward = t.forward }
note_tells s here notes.End t = t
note_tells s here notes.Fini t = t

-- ---- moves

no_square : (x : ℤ) (n : ℕ) → unsigned_abs x * unsigned_abs x + n ≡ 0 → x ≡ pos 0
no_square (pos zero) n e = refl
no_square (pos (suc m)) n e = absurd (omega (arith, e))
no_square (negsuc m) n e = absurd (omega (arith, e))

-- a way leads nowhere where its length is 0
nowhere_by_length : (d : Dir) → (length_squared d == 0) ≡ is_nowhere d
nowhere_by_length d =
    let n = unsigned_abs d.dx * unsigned_abs d.dx in
    let m = unsigned_abs d.dy * unsigned_abs d.dy in
    same_answer (length_squared d == 0) (is_nowhere d)
    (λ short. let none : n + m ≡ 0 = (Decides-eqb (n + m) 0).0 short in
    and_from (int_eq d.dx (pos 0)) (int_eq d.dy (pos 0)) ((Decides-int_eq d.dx (pos 0)).1 (no_square d.dx m none)) ((Decides-int_eq d.dy (pos 0)).1 (no_square d.dy n (omega (arith, none)))))
    (λ still. let parts = both (int_eq d.dx (pos 0)) (int_eq d.dy (pos 0)) still in
    (Decides-eqb (n + m) 0).1 (rw ((Decides-int_eq d.dx (pos 0)).0 parts.0, (Decides-int_eq d.dy (pos 0)).0 parts.1) refl))

forward_same : (p : Option Position) (to : Pt) (forward : Dir) → forward_behind p to forward ≡ forward_to p to forward
forward_same None to forward = refl
forward_same (Some from) to forward =
    ap (λ (none : Bool). cond none forward (displacement from.xy to)) (nowhere_by_length (displacement from.xy to))

forward_tells : (s : Told) (here : Situation) (to : Pt) → IsAsSaid s here → forward_behind here.position to here.forward ≡ forward_to s.position to s.forward
forward_tells s here to t = rw (t.position, t.forward) (forward_same s.position to s.forward)

point_tells : (s : Told) (here : Situation) (reach : Reach) (to : Position) → IsAsSaid s here → IsAsSaid (with_point s reach to) (after here (effects.Moves reach to) [])
point_tells s here reaches.From to t =
    record { units = t.units; radius = t.radius; intol = t.intol; outtol = t.outtol; feed = t.feed; rapid = t.rapid; position = refl; forward = forward_tells s here to.xy t }
point_tells s here reaches.Goto to t =
    record { units = t.units; radius = t.radius; intol = t.intol; outtol = t.outtol; feed = t.feed; rapid = refl; position = refl; forward = forward_tells s here to.xy t }
point_tells s here reaches.Godlta to t =
    record { units = t.units; radius = t.radius; intol = t.intol; outtol = t.outtol; feed = t.feed; rapid = refl; position = refl; forward = forward_tells s here to.xy t }
point_tells s here reaches.Start to t =
    record { units = t.units; radius = t.radius; intol = t.intol; outtol = t.outtol; feed = t.feed; rapid = refl; position = refl; forward = forward_tells s here to.xy t }

-- ---- contours

last-at_height : (z : ℤ) (p : Pt) (vertices : List Pt) → last_position (Some (at_height z p)) (map (at_height z) vertices) ≡ Some (at_height z (last_of p vertices))
last-at_height z p [] = refl
last-at_height z p (v ∷ vs) = last-at_height z v vs

at_points-at_height : (z : ℤ) (vertices : List Pt) → at_points (map (at_height z) vertices) ≡ vertices
at_points-at_height z [] = refl
at_points-at_height z (v ∷ vs) = ap (λ (ps : List Pt). v ∷ ps) (at_points-at_height z vs)

forward_by_tangent : (surface : Surface) (sense : ℤ) (p : Pt) → heading sense (tangent surface p) ≡ forward_on surface sense p
forward_by_tangent (surfaces.Line l) sense p = refl
forward_by_tangent (surfaces.Circ c) sense p = refl

counted_by_greater : (t : ℤ) → greater t grid_step ≡ counted t
counted_by_greater t = grind (arith, ints)

-- what the drive record of a motion says
abbrev drive_of : Motion → Drive
drive_of m = record { surface = m.drive; side = m.side; sense = m.sense }

same_motion : (s : Told) (here : Situation) (m : Motion) → IsAsSaid s here → IsMotionOf here m → motion_said s m.start (drive_of m) m.check m.how ≡ m
same_motion s here m t is =
    let radius : radius_by s.diameter ≡ m.radius = sym t.radius ∙ sym is.radius in
    let inner : counted s.intol ≡ m.inner = ap counted (sym t.intol) ∙ sym (counted_by_greater here.settings.intol) ∙ sym is.inner in
    let outer : counted s.outtol ≡ m.outer = ap counted (sym t.outtol) ∙ sym (counted_by_greater here.settings.outtol) ∙ sym is.outer in
    rw (sym is.check_side, radius, inner, outer) refl

-- behind them its first leg is due
abbrev with_surfaces : Told → Motion → Told
with_surfaces s m = with_record (with_record s (records.Drive m.drive m.side m.sense)) (records.Check m.check m.how)

due_is : (s : Told) (here : Situation) (m : Motion) → IsAsSaid s here → IsMotionOf here m → (with_surfaces s m).due ≡ Some (first_leg m)
due_is s here m t is = rw (sym t.position ∙ is.start) (ap (λ (n : Motion). Some (first_leg n)) (same_motion s here m t is))

-- a leg is due where the tool stands
pub record IsDueAt (s : Told) (d : Due) : Type 0 where
  pub position : s.position ≡ Some d.motion.start
  pub drive : s.drive ≡ Some (drive_of d.motion)
  pub due : s.due ≡ Some d

abbrev next_said : Told → Due → List Pt → Told
next_said s d vertices = with_record s (cut_record d.motion.start.z vertices)

-- where the tool stands behind its vertices
stands_behind : (s : Told) (d : Due) (vertices : List Pt) → IsDueAt s d → (next_said s d vertices).position ≡ Some (at_height d.motion.start.z (last_of d.motion.start.xy vertices))
stands_behind s d vertices at =
    ap (λ (p : Option Position). last_position p (map (at_height d.motion.start.z) vertices)) at.position ∙ last-at_height d.motion.start.z d.motion.start.xy vertices

next_due_at : (s : Told) (d : Due) (vertices : List Pt) → IsDueAt s d → IsDueAt (next_said s d vertices) (next_leg d vertices)
next_due_at s d vertices at = record {
  position = stands_behind s d vertices at;
  drive = at.drive;
  due = ap (λ (o : Option Due). due_behind o (map (at_height d.motion.start.z) vertices)) at.due ∙ ap (λ (ps : List Pt). Some (next_leg d ps)) (at_points-at_height d.motion.start.z vertices);
}

cut_tells : (s : Told) (now : Situation) (d : Due) (vertices : List Pt) → IsAsSaid s now → IsDueAt s d → IsAsSaid (next_said s d vertices) (cut_at now d.motion (last_of d.motion.start.xy vertices))
cut_tells s now d vertices t at =
    let there = stands_behind s d vertices at in
    let stands = last_position s.position (map (at_height d.motion.start.z) vertices) in record {
      units = t.units;
      radius = t.radius;
      intol = t.intol;
      outtol = t.outtol;
      feed = t.feed;
      rapid = t.rapid;
      position = sym there;
      forward =
          forward_by_tangent d.motion.drive d.motion.sense (last_of d.motion.start.xy vertices)
          ∙ ap (λ (p : Option Position). forward_there (Some (drive_of d.motion)) p s.forward) (sym there)
          ∙ ap (λ (o : Option Drive). forward_there o stands s.forward) (sym at.drive);
    }

cuts_tell : (s : Told) (now : Situation) (d : Due) (vertices : List Pt) (cuts : List (List Pt)) → IsAsSaid s now → IsDueAt s d
    → IsAsSaid (said_behind s (map (cut_record d.motion.start.z) (vertices ∷ cuts))) (cut_at now d.motion (last_behind d.motion.start.xy (vertices ∷ cuts)))
cuts_tell s now d vertices [] t at = cut_tells s now d vertices t at
cuts_tell s now d vertices (more ∷ cuts) t at =
    cuts_tell (next_said s d vertices) (cut_at now d.motion (last_of d.motion.start.xy vertices)) (next_leg d vertices) more cuts (cut_tells s now d vertices t at) (next_due_at s d vertices at)

contour_is : (s : Told) (d : Due) (vertices : List Pt) → IsDueAt s d → contour_said s.due (map (at_height d.motion.start.z) vertices) ≡ Some (cut_on d vertices)
contour_is s d vertices at =
    ap (λ (o : Option Due). contour_said o (map (at_height d.motion.start.z) vertices)) at.due ∙ ap (λ (ps : List Pt). Some (cut_on d ps)) (at_points-at_height d.motion.start.z vertices)

cuts_said : (s : Told) (d : Due) (cuts : List (List Pt)) (rest : List Record) → IsDueAt s d
    → contours_behind s (map (cut_record d.motion.start.z) cuts ++ rest) ≡ legs_from d cuts ++ contours_behind (said_behind s (map (cut_record d.motion.start.z) cuts)) rest
cuts_said s d [] rest at = refl
cuts_said s d (vertices ∷ cuts) rest at =
    let z = d.motion.start.z in
    ap (λ (o : Option Contour). listed o ++ contours_behind (next_said s d vertices) (map (cut_record z) cuts ++ rest)) (contour_is s d vertices at)
    ∙ ap (λ (cs : List Contour). cut_on d vertices ∷ cs) (cuts_said (next_said s d vertices) (next_leg d vertices) cuts rest (next_due_at s d vertices at))

-- the legs of a contour, of which there is one at least
first_due_at : (s : Told) (here : Situation) (m : Motion) → IsAsSaid s here → IsMotionOf here m → IsDueAt (with_surfaces s m) (first_leg m)
first_due_at s here m t is = record { position = sym t.position ∙ is.start; drive = refl; due = due_is s here m t is }

contour_tells : (s : Told) (here : Situation) (m : Motion) (n : Legs) (cuts : List (List Pt)) → IsAsSaid s here → IsMotionOf here m → length cuts ≡ leg_count n
    → IsAsSaid (said_behind (with_surfaces s m) (map (cut_record m.start.z) cuts)) (after here (effects.Cuts m n) cuts)
contour_tells s here m legs.One [] t is e = absurd cc
contour_tells s here m legs.Two [] t is e = absurd cc
contour_tells s here m n (vertices ∷ cuts) t is e =
    let surfaces : IsAsSaid (with_surfaces s m) here =
    record { units = t.units; radius = t.radius; intol = t.intol; outtol = t.outtol; feed = t.feed; rapid = t.rapid; position = t.position; forward = t.forward } in
    cuts_tell (with_surfaces s m) here (first_leg m) vertices cuts surfaces (first_due_at s here m t is)

-- ---- the records of a step

-- what the records of an effect say, and the contours among them
pub record SaysOn (s : Told) (here : Situation) (step : Step) (e : Effect) (cuts : List (List Pt)) : Type 0 where
  pub tells : IsAsSaid (said_behind s (records_of step e cuts)) (after here e cuts)
  pub contours : (rest : List Record) → contours_behind s (records_of step e cuts ++ rest) ≡ contours_by e cuts ++ contours_behind (said_behind s (records_of step e cuts)) rest

still_tells : (s : Told) (here now : Situation) → IsAsSaid s here → now.settings.units ≡ here.settings.units → now.settings.radius ≡ here.settings.radius → now.settings.intol ≡ here.settings.intol
    → now.settings.outtol ≡ here.settings.outtol → now.settings.feed ≡ here.settings.feed → now.settings.rapid ≡ here.settings.rapid → now.position ≡ here.position → now.forward ≡ here.forward → IsAsSaid s now
still_tells s here now t a b c d e f g h = record {
  units = a ∙ t.units;
  radius = b ∙ t.radius;
  intol = c ∙ t.intol;
  outtol = d ∙ t.outtol;
  feed = e ∙ t.feed;
  rapid = f ∙ t.rapid;
  position = g ∙ t.position;
  forward = h ∙ t.forward;
}

pub says_on : (s : Told) (here : Situation) (step : Step) (e : Effect) (cuts : List (List Pt)) → IsAsSaid s here → effect_of here step.deed ≡ Some e → MayHave e cuts → SaysOn s here step e cuts
says_on s here step (effects.Defines n f) cuts t asked may =
    record { tells = still_tells s here (after here (effects.Defines n f) cuts) t refl refl refl refl refl refl refl refl; contours = λ rest. refl }
says_on s here step (effects.Sets (changes.Said note)) cuts t asked may = record { tells = note_tells s here note t; contours = λ rest. refl }
says_on s here step (effects.Sets (changes.Side side)) cuts t asked may =
    record { tells = still_tells s here (after here (effects.Sets (changes.Side side)) cuts) t refl refl refl refl refl refl refl refl; contours = λ rest. refl }
says_on s here step (effects.Sets changes.Nothing) cuts t asked may = record { tells = t; contours = λ rest. refl }
says_on s here step (effects.Moves reach to) cuts t asked may = record { tells = point_tells s here reach to t; contours = λ rest. refl }
says_on s here step (effects.Cuts m n) cuts t asked may =
    let is = (effect_said here step.deed (effects.Cuts m n) asked).1 in
    record { tells = contour_tells s here m n cuts t is may.1; contours = λ rest. cuts_said (with_surfaces s m) (first_leg m) cuts rest (first_due_at s here m t is) }

-- ---- the walk

said_behind-append : (s : Told) (xs ys : List Record) → said_behind s (xs ++ ys) ≡ said_behind (said_behind s xs) ys
said_behind-append s [] ys = refl
said_behind-append s (x ∷ xs) ys = said_behind-append (with_record s x) xs ys

-- the situation behind records that follow steps is what they say
told_behind : (Allowed : Effect → List (List Pt) → Type 0) (s : Told) (here : Situation) (steps : List Step) (written : List Record) (behind : Situation) → IsAsSaid s here
    → FollowsAs Allowed here steps written behind → IsAsSaid (said_behind s written) behind
told_behind Allowed s here [] written behind t f = rw (f.0, f.1) t
told_behind Allowed s here (step ∷ steps) written behind t f =
    let e = f.0 in
    let due = records_of step e f.1 in
    let on = says_on s here step e f.1 t f.3.asked f.3.may in
    rw (f.3.front, said_behind-append s due f.2) (told_behind Allowed (said_behind s due) (after here e f.1) steps f.2 behind on.tells f.5)

-- ---- facts of contours

pub every_join : (P : Contour → Type 0) (cs more : List Contour) → EveryContour P cs → EveryContour P more → EveryContour P (cs ++ more)
every_join P [] more every later = later
every_join P (c ∷ cs) more every later = (every.0, every_join P cs more every.1 later)

pub every_split : (P : Contour → Type 0) (cs more : List Contour) → EveryContour P (cs ++ more) → EveryContour P cs × EveryContour P more
every_split P [] more every = (tt, every)
every_split P (c ∷ cs) more every =
    let parts = every_split P cs more every.1 in
    ((every.0, parts.0), parts.1)

-- a fact of the legs of each effect is one of all contours
abbrev pub EachCut : (Contour → Type 0) → Effect → List (List Pt) → Type 0
EachCut P e cuts = EveryContour P (contours_by e cuts)

pub contours_are : (P : Contour → Type 0) (s : Told) (here : Situation) (steps : List Step) (written : List Record) (behind : Situation) → IsAsSaid s here
    → FollowsAs (EachCut P) here steps written behind → EveryContour P (contours_behind s written)
contours_are P s here [] written behind t f = rw f.0 tt
contours_are P s here (step ∷ steps) written behind t f =
    let e = f.0 in
    let due = records_of step e f.1 in
    let on = says_on s here step e f.1 t f.3.asked f.3.may in
    rw (f.3.front, on.contours f.2)
    (every_join P (contours_by e f.1) (contours_behind (said_behind s due) f.2) f.4 (contours_are P (said_behind s due) (after here e f.1) steps f.2 behind on.tells f.5))

-- and the other way round
pub contours_allow : (P : Contour → Type 0) (s : Told) (here : Situation) (steps : List Step) (written : List Record) (behind : Situation) → IsAsSaid s here
    → FollowsAs HasAny here steps written behind → EveryContour P (contours_behind s written) → FollowsAs (EachCut P) here steps written behind
contours_allow P s here [] written behind t f every = f
contours_allow P s here (step ∷ steps) written behind t f every =
    let e = f.0 in
    let due = records_of step e f.1 in
    let on = says_on s here step e f.1 t f.3.asked f.3.may in
    let parts = every_split P (contours_by e f.1) (contours_behind (said_behind s due) f.2) (rw (f.3.front, on.contours f.2) at every) in
    (e, f.1, f.2, f.3, parts.0, contours_allow P (said_behind s due) (after here e f.1) steps f.2 behind on.tells f.5 parts.1)

pub any_follows : (Allowed : Effect → List (List Pt) → Type 0) (here : Situation) (steps : List Step) (written : List Record) (behind : Situation) → FollowsAs Allowed here steps written behind
    → FollowsAs HasAny here steps written behind
any_follows Allowed here [] written behind f = f
any_follows Allowed here (step ∷ steps) written behind f = (f.0, f.1, f.2, f.3, tt, any_follows Allowed (after here f.0 f.1) steps f.2 behind f.5)

pub follows : (Allowed : Effect → List (List Pt) → Type 0) (steps : List Step) (written : List Record) (behind : Situation) → FollowsAs Allowed first_situation steps written behind → Follows steps written
follows Allowed steps written behind f =
    record { behind = behind; follow = any_follows Allowed first_situation steps written behind f; tells = told_behind Allowed nothing_said first_situation steps written behind nothing_tells f }

-- ---- legal, and the compiler's own

-- records that follow steps legally follow them, and their contours are legal; and the other way round
pub legal_contours : (steps : List Step) (written : List Record) (behind : Situation) → FollowsAs CutsLegally first_situation steps written behind → EveryContour IsLegalCut (contours_of written)
legal_contours steps written behind f = contours_are IsLegalCut nothing_said first_situation steps written behind nothing_tells f

pub contours_legal : (steps : List Step) (written : List Record) (f : Follows steps written) → EveryContour IsLegalCut (contours_of written) → FollowsAs CutsLegally first_situation steps written f.behind
contours_legal steps written f every = contours_allow IsLegalCut nothing_said first_situation steps written f.behind nothing_tells f.follow every

pub own_contours : (steps : List Step) (written : List Record) (behind : Situation) → FollowsAs CutsOwn first_situation steps written behind → EveryContour IsOwnCut (contours_of written)
own_contours steps written behind f = contours_are IsOwnCut nothing_said first_situation steps written behind nothing_tells f

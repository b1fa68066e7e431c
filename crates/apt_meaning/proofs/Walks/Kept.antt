-- Effects in range leave situations and records in range.
use Rattle.std.proofs.Common.{◌+◌, ◌≤◌, ℤ, ◌-ℤ◌, unsigned_abs, ◌==◌, Bool, true, false, List, [], ◌∷◌, ◌++◌, length, map, Option, Some, None, arith, cond}
use Rattle.std.proofs.lemmas.Int.{ints}
use Rattle.apt_num.proofs.Squares.{size_minus, size_neg}
use Rattle.apt_words.specs.declared.deed.Step.{Step}
use Rattle.apt_words.specs.Sources.{IsExecuted}
use Rattle.apt_plane.specs.declared.figures.Pt.{Pt}
use Rattle.apt_plane.specs.declared.figures.Dir.{Dir}
use Rattle.apt_plane.specs.declared.figures.Surface.{Surface}
use Rattle.apt_plane.specs.declared.figures.Surface.TheVariants as surfaces
use Rattle.apt_plane.specs.Ranges.{IsPoint, IsSurface, IsSense}
use Rattle.apt_plane.specs.Vectors.{displacement, length_squared, perp}
use Rattle.apt_offset.specs.Turns.{tangent}
use Rattle.apt_stop.specs.Nearness.{heading}
use Rattle.apt_stop.proofs.Sizes.{size_kept}
use Rattle.apt_certify.specs.Jobs.{ArePoints}
use Rattle.apt_certify.specs.Legal.{last_of}
use Rattle.apt_records.specs.declared.record.Position.{Position}
use Rattle.apt_records.specs.declared.record.Reach.{Reach}
use Rattle.apt_records.specs.declared.record.Reach.TheVariants as reaches
use Rattle.apt_records.specs.declared.record.Record.{Record}
use Rattle.apt_records.specs.Ranges.{ArePositions, AreRecords}
use Rattle.apt_defs.proofs.Tables.{still_figures}
use Rattle.apt_meaning.specs.declared.situation.Settings.{Settings}
use Rattle.apt_meaning.specs.declared.situation.Situation.{Situation}
use Rattle.apt_meaning.specs.declared.motion.Motion.{Motion}
use Rattle.apt_meaning.specs.declared.effect.Change.TheVariants as changes
use Rattle.apt_meaning.specs.declared.effect.Effect.{Effect}
use Rattle.apt_meaning.specs.declared.effect.Effect.TheVariants as effects
use Rattle.apt_meaning.specs.Situations.{first_situation, settings_behind, forward_behind}
use Rattle.apt_records.specs.Vertices.{at_height}
use Rattle.apt_meaning.specs.Records.{with_statement, cut_record, effect_records, records_of, last_behind, after}
use Rattle.apt_meaning.specs.Ranges.{IsPositionOrNone, IsForward, AreSettings, IsSituation, IsMotion, IsEffect}
use Rattle.apt_meaning.specs.Vertices.{AreCuts, HasIn}
use Rattle.apt_meaning.proofs.EffectRanges.{with_rapid, on_side, change_kept}

-- ---- directions

displacement_short : (p q : Pt) → IsPoint p → IsPoint q → IsForward (displacement p q)
displacement_short p q is_p is_q =
    let x : unsigned_abs (q.x -ℤ p.x) ≤ unsigned_abs q.x + unsigned_abs p.x = size_minus q.x p.x in
    let y : unsigned_abs (q.y -ℤ p.y) ≤ unsigned_abs q.y + unsigned_abs p.y = size_minus q.y p.y in
    record { dx = omega (arith, x, is_p.x, is_q.x); dy = omega (arith, y, is_p.y, is_q.y) }

either_forward : (b : Bool) (d e : Dir) → IsForward d → IsForward e → IsForward (cond b d e)
either_forward true d e is_d is_e = is_d
either_forward false d e is_d is_e = is_e

forward_kept : (p : Option Position) (to : Pt) (forward : Dir) → IsPositionOrNone p → IsPoint to → IsForward forward → IsForward (forward_behind p to forward)
forward_kept None to forward is_p is_to is = is
forward_kept (Some from) to forward is_p is_to is =
    either_forward (length_squared (displacement from.xy to) == 0) forward (displacement from.xy to) is (displacement_short from.xy to is_p.xy is_to)

turned_short : (d : Dir) → IsForward d → IsForward (perp d)
turned_short d is = record { dx = rw (size_neg d.dy) is.dy; dy = is.dx }

tangent_short : (s : Surface) (p : Pt) → IsSurface s → IsPoint p → IsForward (tangent s p)
tangent_short (surfaces.Line l) p is is_p = record { dx = is.dir.dx; dy = is.dir.dy }
tangent_short (surfaces.Circ c) p is is_p = turned_short (displacement c.c p) (displacement_short c.c p is.centre is_p)

heading_short : (sense : ℤ) (d : Dir) → IsSense sense → IsForward d → IsForward (heading sense d)
heading_short sense d is is_d = record { dx = size_kept sense d.dx is is_d.dx; dy = size_kept sense d.dy is is_d.dy }

-- ---- the situation behind an effect

pub last_point : (p : Pt) (vertices : List Pt) → IsPoint p → ArePoints vertices → IsPoint (last_of p vertices)
last_point p [] is are = is
last_point p (v ∷ vs) is are = last_point v vs are.0 are.1

settings_kept : (reach : Reach) (s : Settings) → AreSettings s → AreSettings (settings_behind reach s)
settings_kept reaches.From s is = is
settings_kept reaches.Goto s is = with_rapid s false is
settings_kept reaches.Godlta s is = with_rapid s false is
settings_kept reaches.Start s is = with_rapid s false is

cut_kept : (here : Situation) (m : Motion) (last : Pt) → IsSituation here → IsMotion m → IsPoint last
    → IsSituation (record here { settings = record here.settings { side = m.side }; position = Some (at_height m.start.z last); forward = heading m.sense (tangent m.drive last) })
cut_kept here m last is good end = record {
  settings = on_side here.settings m.side is.settings;
  position = record { xy = end; z = good.start.z };
  forward = heading_short m.sense (tangent m.drive last) good.sense (tangent_short m.drive last good.drive end);
  table = is.table;
}

pub last_cut : (p : Pt) (cuts : List (List Pt)) → IsPoint p → AreCuts cuts → IsPoint (last_behind p cuts)
last_cut p [] is are = is
last_cut p (vertices ∷ cuts) is are = last_cut (last_of p vertices) cuts (last_point p vertices is are.0.1) are.1

pub kept : (here : Situation) (e : Effect) (cuts : List (List Pt)) → IsSituation here → IsEffect e → HasIn e cuts → IsSituation (after here e cuts)
kept here (effects.Defines n f) cuts is good within =
    record { settings = is.settings; position = is.position; forward = is.forward; table = still_figures here.table n f is.table good }
kept here (effects.Sets change) cuts is good within = record { settings = change_kept here.settings change is.settings good; position = is.position; forward = is.forward; table = is.table }
kept here (effects.Moves reach to) cuts is good within = record {
  settings = settings_kept reach here.settings is.settings;
  position = good;
  forward = forward_kept here.position to.xy here.forward is.position good.xy is.forward;
  table = is.table;
}
kept here (effects.Cuts m n) cuts is good within = cut_kept here m (last_behind m.start.xy cuts) is good (last_cut m.start.xy cuts good.start.xy within)

pub first_situation-IsSituation : IsSituation first_situation
first_situation-IsSituation = record {
  settings = record {
    radius = record { least = omega (arith, ints); most = omega (arith, ints) };
    intol = record { least = omega (arith, ints); most = omega (arith, ints) };
    outtol = record { least = omega (arith, ints); most = omega (arith, ints) };
    feed = record { least = omega (arith, ints); most = omega (arith, ints) };
  };
  position = tt;
  forward = record { dx = omega (arith, ints); dy = omega (arith, ints) };
  table = tt;
}

-- ---- the records of an effect

positions_in : (z : ℤ) (vertices : List Pt) → unsigned_abs z ≤ 50000000 → ArePoints vertices → ArePositions (map (at_height z) vertices)
positions_in z [] high are = tt
positions_in z (v ∷ vs) high are = (record { xy = are.0; z = high }, positions_in z vs high are.1)

still_some : (z : ℤ) (vertices : List Pt) → 1 ≤ length vertices → 1 ≤ length (map (at_height z) vertices)
still_some z [] h = h
still_some z (v ∷ vs) h = omega arith

cuts_in : (z : ℤ) (cuts : List (List Pt)) → unsigned_abs z ≤ 50000000 → AreCuts cuts → AreRecords (map (cut_record z) cuts)
cuts_in z [] high are = tt
cuts_in z (vertices ∷ cuts) high are = ((still_some z vertices are.0.0, positions_in z vertices high are.0.1), cuts_in z cuts high are.1)

said_in : (e : Effect) (cuts : List (List Pt)) → IsEffect e → HasIn e cuts → AreRecords (effect_records e cuts)
said_in (effects.Defines n f) cuts good within = tt
said_in (effects.Sets (changes.Said note)) cuts good within = (good, tt)
said_in (effects.Sets (changes.Side side)) cuts good within = tt
said_in (effects.Sets changes.Nothing) cuts good within = tt
said_in (effects.Moves reach to) cuts good within = (good, tt)
said_in (effects.Cuts m n) cuts good within = ((good.drive, good.sense), (good.check, cuts_in m.start.z cuts good.start.z within))

statement_in : (step : Step) (rs : List Record) → IsExecuted step → AreRecords rs → AreRecords (with_statement step rs)
statement_in step [] is are = tt
statement_in step (r ∷ rs) is are = ((is.line, is.step), are)

pub records_in : (step : Step) (e : Effect) (cuts : List (List Pt)) → IsExecuted step → IsEffect e → HasIn e cuts → AreRecords (records_of step e cuts)
records_in step e cuts is good within = statement_in step (effect_records e cuts) is (said_in e cuts good within)

pub records-append : (xs ys : List Record) → AreRecords xs → AreRecords ys → AreRecords (xs ++ ys)
records-append [] ys are more = more
records-append (x ∷ xs) ys are more = (are.0, records-append xs ys are.1 more)

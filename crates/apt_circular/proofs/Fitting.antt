-- The acts of a plan with arcs fit their words, up to the end.
use Rattle.std.proofs.Common.{◌≡◌, ℤ, Bool, true, false, List, [], ◌∷◌, ◌++◌, map, Option, Some, None, refl, sym, subst}
use Rattle.apt_records.specs.declared.record.Position.{Position}
use Rattle.apt_records.specs.declared.record.Reach.TheVariants as reaches
use Rattle.apt_records.specs.declared.record.Note.TheVariants as notes
use Rattle.apt_records.specs.declared.record.Record.{Record}
use Rattle.apt_records.specs.declared.record.Record.TheVariants as records
use Rattle.apt_records.specs.Ranges.{EndsOnce}
use Rattle.apt_control.specs.declared.Act.TheVariants as acts
use Rattle.apt_post.specs.declared.planning.Pending.{Pending}
use Rattle.apt_post.specs.Plan.{nothing_pending, cut_to}
use Rattle.apt_post.specs.Blocks.{IsPosition, IsUpTo}
use Rattle.apt_post.specs.Writing.{CanWriteAll, AreWritten}
use Rattle.apt_circular.specs.declared.ArcAct.{ArcAct}
use Rattle.apt_circular.specs.declared.ArcAct.TheVariants.{Plain}
use Rattle.apt_circular.specs.declared.planning.Round.{Round}
use Rattle.apt_circular.specs.declared.planning.Coming.{Coming}
use Rattle.apt_circular.specs.ArcPlan.{round_on, nothing_coming, last_from, contour_acts, arcs_from, plan_arcs}
use Rattle.apt_circular.specs.Fits.{FitToTheEnd, IsFitting}

abbrev going_on : ℤ → Bool → Pending
going_on feed rapid = record { feed = feed; rapid = rapid; ended = false }

abbrev coming : Pending → Bool → Option Round → Coming
coming p moved round = record { pending = p; moved = moved; round = round }

abbrev ended : ℤ → Bool → Pending
ended feed rapid = record { feed = feed; rapid = rapid; ended = true }

-- behind the end no act comes
end_is_last : (feed : ℤ) (rapid moved : Bool) (round : Option Round) (rs : List Record) → EndsOnce true rs → arcs_from (coming (ended feed rapid) moved round) rs ≡ []
end_is_last feed rapid moved round [] ends = absurd ends
end_is_last feed rapid moved round (records.Statement line step ∷ rs) ends = end_is_last feed rapid moved round rs ends
end_is_last feed rapid moved round (records.Note (notes.Partno text) ∷ rs) ends = absurd ends
end_is_last feed rapid moved round (records.Note (notes.Units units) ∷ rs) ends = absurd ends
end_is_last feed rapid moved round (records.Note (notes.Cutter d) ∷ rs) ends = absurd ends
end_is_last feed rapid moved round (records.Note (notes.Intol t) ∷ rs) ends = absurd ends
end_is_last feed rapid moved round (records.Note (notes.Outtol t) ∷ rs) ends = absurd ends
end_is_last feed rapid moved round (records.Note (notes.Feed f) ∷ rs) ends = absurd ends
end_is_last feed rapid moved round (records.Note (notes.Do command) ∷ rs) ends = absurd ends
end_is_last feed rapid moved round (records.Note notes.Rapid ∷ rs) ends = absurd ends
end_is_last feed rapid moved round (records.Note notes.End ∷ rs) ends = absurd ends
end_is_last feed rapid moved round (records.Note notes.Fini ∷ []) ends = refl
end_is_last feed rapid moved round (records.Note notes.Fini ∷ r ∷ rs) ends = absurd ends
end_is_last feed rapid moved round (records.Drive surface side sense ∷ rs) ends = absurd ends
end_is_last feed rapid moved round (records.Check surface how ∷ rs) ends = absurd ends
end_is_last feed rapid moved round (records.Point reach to ∷ rs) ends = absurd ends
end_is_last feed rapid moved round (records.Contour vertices ∷ rs) ends = absurd ends

ends_here : (more : List ArcAct) → more ≡ [] → FitToTheEnd (Plain acts.End ∷ more)
ends_here more is = subst (λ (done : List ArcAct). FitToTheEnd (Plain acts.End ∷ done)) (sym is) tt

cuts_fit : (p : Pending) (vs : List Position) (more : List ArcAct) → CanWriteAll (map (cut_to p) vs) → FitToTheEnd more → FitToTheEnd (map (λ v. Plain (cut_to p v)) vs ++ more)
cuts_fit p [] more can to_end = to_end
cuts_fit p (v ∷ vs) more can to_end = (can.0, cuts_fit p vs more can.1 to_end)

last_fits : (p : Pending) (v : Position) (vs : List Position) → CanWriteAll (map (cut_to p) (v ∷ vs))
    → IsPosition (last_from v vs).xy.x (last_from v vs).xy.y (last_from v vs).z × IsUpTo 9999 p.feed
last_fits p v [] can = can.0
last_fits p v (w ∷ vs) can = last_fits p w vs can.1

contour_fits : (p : Pending) (moved : Bool) (round : Option Round) (vs : List Position) (more : List ArcAct) → CanWriteAll (map (cut_to p) vs) → FitToTheEnd more
    → FitToTheEnd (contour_acts (coming p moved round) vs ++ more)
contour_fits p false round vs more can to_end = cuts_fit p vs more can to_end
contour_fits p true None vs more can to_end = cuts_fit p vs more can to_end
contour_fits p true (Some r) [] more can to_end = to_end
contour_fits p true (Some r) (v ∷ vs) more can to_end = (last_fits p v vs can, to_end)

acts_fit : (feed : ℤ) (rapid moved : Bool) (round : Option Round) (rs : List Record) → EndsOnce false rs → AreWritten (going_on feed rapid) rs → FitToTheEnd (arcs_from (coming (going_on feed rapid) moved round) rs)
acts_fit feed rapid moved round [] ends can = absurd ends
acts_fit feed rapid moved round (records.Statement line step ∷ rs) ends can = acts_fit feed rapid moved round rs ends can.1
acts_fit feed rapid moved round (records.Note (notes.Partno text) ∷ rs) ends can = acts_fit feed rapid moved round rs ends can.1
acts_fit feed rapid moved round (records.Note (notes.Units units) ∷ rs) ends can = acts_fit feed rapid moved round rs ends can.1
acts_fit feed rapid moved round (records.Note (notes.Cutter d) ∷ rs) ends can = acts_fit feed rapid moved round rs ends can.1
acts_fit feed rapid moved round (records.Note (notes.Intol t) ∷ rs) ends can = acts_fit feed rapid moved round rs ends can.1
acts_fit feed rapid moved round (records.Note (notes.Outtol t) ∷ rs) ends can = acts_fit feed rapid moved round rs ends can.1
acts_fit feed rapid moved round (records.Note (notes.Feed f) ∷ rs) ends can = acts_fit f rapid moved round rs ends can.1
acts_fit feed rapid moved round (records.Note (notes.Do command) ∷ rs) ends can = (can.0.0, acts_fit feed rapid moved round rs ends can.1)
acts_fit feed rapid moved round (records.Note notes.Rapid ∷ rs) ends can = acts_fit feed true moved round rs ends can.1
acts_fit feed rapid moved round (records.Note notes.End ∷ rs) ends can = ends_here (arcs_from (coming (ended feed rapid) moved round) rs) (end_is_last feed rapid moved round rs ends)
acts_fit feed rapid moved round (records.Note notes.Fini ∷ []) ends can = tt
acts_fit feed rapid moved round (records.Note notes.Fini ∷ r ∷ rs) ends can = absurd ends
acts_fit feed rapid moved round (records.Drive surface side sense ∷ rs) ends can = acts_fit feed rapid moved (round_on surface sense) rs ends can.1
acts_fit feed rapid moved round (records.Check surface how ∷ rs) ends can = acts_fit feed rapid moved round rs ends can.1
acts_fit feed rapid moved round (records.Point reaches.From to ∷ rs) ends can = acts_fit feed rapid moved round rs ends can.1
acts_fit feed true moved round (records.Point reaches.Goto to ∷ rs) ends can = (can.0.0, acts_fit feed false true round rs ends can.1)
acts_fit feed false moved round (records.Point reaches.Goto to ∷ rs) ends can = (can.0.0, acts_fit feed false true round rs ends can.1)
acts_fit feed true moved round (records.Point reaches.Godlta to ∷ rs) ends can = (can.0.0, acts_fit feed false true round rs ends can.1)
acts_fit feed false moved round (records.Point reaches.Godlta to ∷ rs) ends can = (can.0.0, acts_fit feed false true round rs ends can.1)
acts_fit feed true moved round (records.Point reaches.Start to ∷ rs) ends can = (can.0.0, acts_fit feed false true round rs ends can.1)
acts_fit feed false moved round (records.Point reaches.Start to ∷ rs) ends can = (can.0.0, acts_fit feed false true round rs ends can.1)
acts_fit feed rapid moved round (records.Contour vertices ∷ rs) ends can = contour_fits (going_on feed rapid) moved round vertices _ can.0 (acts_fit feed rapid true round rs ends can.1)

pub arcs_fit : (rs : List Record) → EndsOnce false rs → AreWritten nothing_pending rs → FitToTheEnd (arcs_from nothing_coming rs)
arcs_fit rs ends can = acts_fit nothing_pending.feed false false None rs ends can

-- the plan of records that end once, and whose plain acts can be written, fits
pub plan_fits : (rs : List Record) → EndsOnce false rs → AreWritten nothing_pending rs → IsFitting (plan_arcs rs)
plan_fits rs ends can = arcs_fit rs ends can

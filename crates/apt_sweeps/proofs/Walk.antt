-- The walk over steps that each law of arcs and contours goes: it holds of the plan of records if it holds of each act, and of each arc beside the leg that it cuts.
use Rattle.std.proofs.Common.{refl, ◌≡◌, ◌∙◌, Bool, true, false, true≢false, ℤ, List, [], ◌∷◌, ◌++◌, map, Option, Some, None, is_none, sym, ap, subst, cond}
use Rattle.apt_words.specs.declared.deed.Step.{Step}
use Rattle.apt_plane.specs.declared.figures.Pt.{Pt}
use Rattle.apt_plane.specs.declared.figures.Circ.{Circ}
use Rattle.apt_plane.specs.declared.figures.Surface.{Surface}
use Rattle.apt_plane.specs.declared.figures.Surface.TheVariants as surfaces
use Rattle.apt_plane.specs.Ranges.{IsSense}
use Rattle.apt_records.specs.declared.record.Note.{Note}
use Rattle.apt_records.specs.declared.record.Note.TheVariants as notes
use Rattle.apt_records.specs.declared.record.Position.{Position}
use Rattle.apt_records.specs.declared.record.Reach.{Reach}
use Rattle.apt_records.specs.declared.record.Reach.TheVariants as reaches
use Rattle.apt_records.specs.declared.record.Record.{Record}
use Rattle.apt_records.specs.declared.record.Record.TheVariants as records
use Rattle.apt_records.specs.Vertices.{at_height}
use Rattle.apt_certify.specs.Legal.{last_of}
use Rattle.apt_stop.specs.declared.legs.Legs.{Legs}
use Rattle.apt_meaning.specs.declared.situation.Situation.{Situation}
use Rattle.apt_meaning.specs.declared.motion.Motion.{Motion}
use Rattle.apt_meaning.specs.declared.effect.Change.TheVariants as changes
use Rattle.apt_meaning.specs.declared.effect.Effect.{Effect}
use Rattle.apt_meaning.specs.declared.effect.Effect.TheVariants as effects
use Rattle.apt_meaning.specs.Situations.{first_situation}
use Rattle.apt_meaning.specs.Effects.{effect_of}
use Rattle.apt_meaning.specs.Refusals.{refusal_of}
use Rattle.apt_meaning.specs.Compiled.{ends_of, first_refused}
use Rattle.apt_meaning.specs.Paths.{Told, Due, Contour, nothing_said, said_behind, first_leg, next_leg, cut_on, contours_behind, contours_of, IsLegalCut, EveryContour}
use Rattle.apt_meaning.specs.Records.{cut_record, records_of, last_behind, after, legs_from, contours_by, FollowsAs, IsAsSaid, Follows}
use Rattle.apt_meaning.proofs.Asked.{CutsLegally}
use Rattle.apt_meaning.proofs.Said.{said_by}
use Rattle.apt_meaning.proofs.Walks.Agree.{Agrees, agrees_behind, agrees_first}
use Rattle.apt_meaning.proofs.Walks.Alone.{nothing_tells, says_on, contours_legal}
use Rattle.apt_meaning.proofs.Walks.Compiled.{passed}
use Rattle.apt_control.specs.declared.Act.{Act}
use Rattle.apt_control.specs.declared.Act.TheVariants as acts
use Rattle.apt_post.specs.declared.planning.Pending.{Pending}
use Rattle.apt_post.specs.Plan.{cut_to, move_to, end_of, note_acts, point_acts, units_of}
use Rattle.apt_circular.specs.declared.ArcAct.{ArcAct}
use Rattle.apt_circular.specs.declared.ArcAct.TheVariants.{Plain}
use Rattle.apt_circular.specs.declared.planning.Round.{Round}
use Rattle.apt_circular.specs.declared.planning.Coming.{Coming}
use Rattle.apt_circular.specs.ArcPlan.{round_on, nothing_coming, last_from, arc_to, plain_cut, cut_acts, turning, coming_behind, arcs_from, plan_arcs}
use Rattle.apt_circular.specs.Writable.{stands_behind}
use Rattle.apt_sweeps.proofs.Bands.{IsShortCut, HasLengths, first_lengths, lengths_agree, lengths_behind}
use Rattle.apt_sweeps.proofs.Told.{IsGoodCut, HasGoodCut, good_cut, IsFresh, is_fresh}

-- ---- what a law says of each act

-- a legal leg round a circle
pub record TurnsOn (d : Circ) (c : Contour) : Type 0 where
  pub drive : c.motion.drive ≡ surfaces.Circ d
  pub sense : IsSense c.motion.sense
  pub short : IsShortCut c.motion
  pub legal : IsLegalCut c

-- where a leg ends
abbrev pub end_of_leg : Contour → Position
end_of_leg c = at_height c.motion.start.z (last_of c.motion.start.xy c.vertices)

-- a law of acts behind a position, beside contours: plain acts and contours without an arc leave it, and so does the arc of a leg
pub record IsLaw (P : Option Position → List ArcAct → List Contour → Type 0) : Type 0 where
  pub nothing : (at : Option Position) → P at [] []
  pub plain : (at : Option Position) (act : Act) (more : List ArcAct) (cs : List Contour) → P (stands_behind at act) more cs → P at (Plain act ∷ more) cs
  pub skip : (at : Option Position) (done : List ArcAct) (c : Contour) (cs : List Contour) → P at done cs → P at done (c ∷ cs)
  pub arc : (p : Pending) (d : Circ) (c : Contour) (more : List ArcAct) (cs : List Contour) → TurnsOn d c → P (Some (end_of_leg c)) more cs
      → P (Some c.motion.start) (arc_to p (record { centre = d.c; sense = c.motion.sense }) (end_of_leg c) ∷ more) (c ∷ cs)

-- ---- plain acts

abbrev stand_at : Option Position → List Act → Option Position
stand_at at [] = at
stand_at at (act ∷ more) = stand_at (stands_behind at act) more

plain_acts : (P : Option Position → List ArcAct → List Contour → Type 0) → IsLaw P → (at : Option Position) (done : List Act) (more : List ArcAct) (cs : List Contour)
    → P (stand_at at done) more cs → P at (map Plain done ++ more) cs
plain_acts P law at [] more cs p = p
plain_acts P law at (act ∷ done) more cs p = law.plain at act (map Plain done ++ more) cs (plain_acts P law (stands_behind at act) done more cs p)

end_still : (at : Option Position) (ended : Bool) (p : Pending) → p.ended ≡ ended → stand_at at (end_of p) ≡ at
end_still at true p e = rw e refl
end_still at false p e = rw e refl

note_still : (at : Option Position) (p : Pending) (note : Note) → stand_at at (note_acts p note) ≡ at
note_still at p (notes.Partno text) = refl
note_still at p (notes.Units units) = refl
note_still at p (notes.Cutter d) = refl
note_still at p (notes.Intol t) = refl
note_still at p (notes.Outtol t) = refl
note_still at p (notes.Feed f) = refl
note_still at p (notes.Do command) = refl
note_still at p notes.Rapid = refl
note_still at p notes.End = end_still at p.ended p refl
note_still at p notes.Fini = end_still at p.ended p refl

move_there : (at : Option Position) (rapid : Bool) (p : Pending) (to : Position) → p.rapid ≡ rapid → stands_behind at (move_to p to) ≡ Some to
move_there at true p to e = rw e refl
move_there at false p to e = rw e refl

-- cuts lead to their last vertex
cuts_lead : (P : Option Position → List ArcAct → List Contour → Type 0) → IsLaw P → (p : Pending) (z : ℤ) (vs : List Pt) (v : Pt) (at : Option Position) (more : List ArcAct) (cs : List Contour)
    → P (Some (at_height z (last_of v vs))) more cs → P at (map (plain_cut p) (map (at_height z) (v ∷ vs)) ++ more) cs
cuts_lead P law p z [] v at more cs there = law.plain at (cut_to p (at_height z v)) more cs there
cuts_lead P law p z (u ∷ vs) v at more cs there =
    law.plain at (cut_to p (at_height z v)) (map (plain_cut p) (map (at_height z) (u ∷ vs)) ++ more) cs (cuts_lead P law p z vs u (Some (at_height z v)) more cs there)

last_there : (z : ℤ) (v : Pt) (vs : List Pt) → last_from (at_height z v) (map (at_height z) vs) ≡ at_height z (last_of v vs)
last_there z v [] = refl
last_there z v (u ∷ vs) = last_there z u vs

-- ---- where the tool of the tape stands

-- behind a move it stands where the records say
pub record Stands (moved : Bool) (at here : Option Position) : Type 0 where
  pub there : moved ≡ true → (p : Position) × (here ≡ Some p) × (at ≡ Some p)

-- what the records of a step leave to those behind it
pub record Goes (P : Option Position → List ArcAct → List Contour → Type 0) (c : Coming) (at : Option Position) (written : List Record) (contours : List Contour)
    (now : Option Position) (rest : List Record) (others : List Contour) : Type 0 where
  pub coming : Coming
  pub to : Option Position
  pub stands : Stands coming.moved to now
  pub leaves : P to (arcs_from coming rest) others → P at (arcs_from c written) contours

no_position : (o : Option Position) (p : Position) → o ≡ None → o ≡ Some p → ⊥
no_position o p e f = let g : None ≡ Some p = sym e ∙ f in cc

no_one : (o q : Option Position) → is_none o ≡ is_none q → q ≡ None → o ≡ None
no_one None q e f = refl
no_one (Some p) q e f = absurd (true≢false (sym (e ∙ ap (λ (x : Option Position). is_none x) f)))

never_moved : (moved : Bool) (at here now : Option Position) → here ≡ None → Stands moved at here → Stands moved at now
never_moved moved at here now none stands = record { there = λ is. let there = stands.there is in absurd (no_position here there.0 none there.1) }

-- ---- moves

move_goes : (P : Option Position → List ArcAct → List Contour → Type 0) → IsLaw P → (c : Coming) (at : Option Position) (step : Step) (reach : Reach) (to : Position) (rest : List Record) (others : List Contour)
    → point_acts c.pending reach to ≡ move_to c.pending to ∷ []
    → Goes P c at (records.Statement step.line step.step ∷ records.Point reach to ∷ rest) others (Some to) rest others
move_goes P law c at step reach to rest others goes =
    let coming = coming_behind c (records.Point reach to) in
    let more = arcs_from coming rest in record {
      coming = coming;
      to = Some to;
      stands = record { there = λ is. (to, refl, refl) };
      leaves = λ there.
          subst (λ (done : List Act). P at (map Plain done ++ more) others) (sym goes)
          (law.plain at (move_to c.pending to) more others (subst (λ (p : Option Position). P p more others) (sym (move_there at c.pending.rapid c.pending to refl)) there));
    }

-- ---- the legs of a contour

-- behind the records of its surfaces
abbrev turned : Coming → Motion → Coming
turned c m = record c { round = round_on m.drive m.sense }

-- the circle of a leg's drive surface
round_is : (c : Coming) (m : Motion) (drive : Surface) → c.moved ≡ true → m.drive ≡ drive → c.round ≡ round_on m.drive m.sense → turning c ≡ round_on drive m.sense
round_is c m drive moved on round = ap (λ (b : Bool). cond b c.round None) moved ∙ round ∙ ap (λ (s : Surface). round_on s m.sense) on

-- a leg that is cut vertex by vertex
cuts_go : (P : Option Position → List ArcAct → List Contour → Type 0) → IsLaw P → (c : Coming) (at : Option Position) (d : Due) (v : Pt) (vs : List Pt) (more : List ArcAct) (others : List Contour)
    → turning c ≡ None → P (Some (at_height d.motion.start.z (last_of v vs))) more others
    → P at (cut_acts c.pending (turning c) (map (at_height d.motion.start.z) (v ∷ vs)) ++ more) (cut_on d (v ∷ vs) ∷ others)
cuts_go P law c at d v vs more others none there =
    let points = map (at_height d.motion.start.z) (v ∷ vs) in
    subst (λ (r : Option Round). P at (cut_acts c.pending r points ++ more) (cut_on d (v ∷ vs) ∷ others)) (sym none)
    (law.skip at (map (plain_cut c.pending) points ++ more) (cut_on d (v ∷ vs)) others (cuts_lead P law c.pending d.motion.start.z vs v at more others there))

-- and one that is cut as one arc
arc_goes : (P : Option Position → List ArcAct → List Contour → Type 0) → IsLaw P → (c : Coming) (at : Option Position) (s : Circ) (d : Due) (v : Pt) (vs : List Pt) (more : List ArcAct) (others : List Contour)
    → TurnsOn s (cut_on d (v ∷ vs)) → turning c ≡ Some (record { centre = s.c; sense = d.motion.sense }) → at ≡ Some d.motion.start → P (Some (at_height d.motion.start.z (last_of v vs))) more others
    → P at (cut_acts c.pending (turning c) (map (at_height d.motion.start.z) (v ∷ vs)) ++ more) (cut_on d (v ∷ vs) ∷ others)
arc_goes P law c at s d v vs more others turns round stand there =
    let z = d.motion.start.z in
    let leg = cut_on d (v ∷ vs) in
    let r : Round = record { centre = s.c; sense = d.motion.sense } in
    subst (λ (o : Option Round). P at (cut_acts c.pending o (map (at_height z) (v ∷ vs)) ++ more) (leg ∷ others)) (sym round)
    (subst (λ (p : Option Position). P p (cut_acts c.pending (Some r) (map (at_height z) (v ∷ vs)) ++ more) (leg ∷ others)) (sym stand)
    (subst (λ (q : Position). P (Some d.motion.start) (arc_to c.pending r q ∷ more) (leg ∷ others)) (sym (last_there z v vs)) (law.arc c.pending s leg more others turns there)))

leg_goes : (P : Option Position → List ArcAct → List Contour → Type 0) → IsLaw P → (c : Coming) (at : Option Position) (d : Due) (v : Pt) (vs : List Pt) (more : List ArcAct) (others : List Contour)
    → c.round ≡ round_on d.motion.drive d.motion.sense → Stands c.moved at (Some d.motion.start) → IsGoodCut d.motion → IsLegalCut (cut_on d (v ∷ vs))
    → (moved : Bool) → c.moved ≡ moved → (drive : Surface) → d.motion.drive ≡ drive → P (Some (at_height d.motion.start.z (last_of v vs))) more others
    → P at (cut_acts c.pending (turning c) (map (at_height d.motion.start.z) (v ∷ vs)) ++ more) (cut_on d (v ∷ vs) ∷ others)
leg_goes P law c at d v vs more others round stands good legal false moved drive on there =
    cuts_go P law c at d v vs more others (ap (λ (b : Bool). cond b c.round None) moved) there
leg_goes P law c at d v vs more others round stands good legal true moved (surfaces.Line l) on there =
    cuts_go P law c at d v vs more others (round_is c d.motion (surfaces.Line l) moved on round) there
leg_goes P law c at d v vs more others round stands good legal true moved (surfaces.Circ s) on there =
    let stood = stands.there moved in
    arc_goes P law c at s d v vs more others (record { drive = on; sense = good.0; short = good.1; legal = legal }) (round_is c d.motion (surfaces.Circ s) moved on round) (stood.2 ∙ sym stood.1) there

-- what is coming behind some legs, and where the tool of the tape stands there
abbrev coming_through : Coming → List (List Pt) → Coming
coming_through c [] = c
coming_through c (vertices ∷ cuts) = coming_through (record c { moved = true }) cuts

abbrev stand_through : Option Position → ℤ → Pt → List (List Pt) → Option Position
stand_through at z p [] = at
stand_through at z p (vertices ∷ cuts) = stand_through (Some (at_height z (last_of p vertices))) z (last_of p vertices) cuts

stands_at : (p : Position) → Stands true (Some p) (Some p)
stands_at p = record { there = λ is. (p, refl, refl) }

legs_stand : (cuts : List (List Pt)) (c : Coming) (at : Option Position) (z : ℤ) (p : Pt) → Stands c.moved at (Some (at_height z p))
    → Stands (coming_through c cuts).moved (stand_through at z p cuts) (Some (at_height z (last_behind p cuts)))
legs_stand [] c at z p stands = stands
legs_stand (vertices ∷ cuts) c at z p stands = legs_stand cuts (record c { moved = true }) (Some (at_height z (last_of p vertices))) z (last_of p vertices) (stands_at (at_height z (last_of p vertices)))

legs_go : (P : Option Position → List ArcAct → List Contour → Type 0) → IsLaw P → (cuts : List (List Pt)) (c : Coming) (at : Option Position) (d : Due) (rest : List Record) (others : List Contour)
    → c.round ≡ round_on d.motion.drive d.motion.sense → Stands c.moved at (Some d.motion.start) → IsGoodCut d.motion → EveryContour IsLegalCut (legs_from d cuts)
    → P (stand_through at d.motion.start.z d.motion.start.xy cuts) (arcs_from (coming_through c cuts) rest) others
    → P at (arcs_from c (map (cut_record d.motion.start.z) cuts ++ rest)) (legs_from d cuts ++ others)
legs_go P law [] c at d rest others round stands good every there = there
legs_go P law ([] ∷ cuts) c at d rest others round stands good every there = absurd every.0.legal.moves
legs_go P law ((v ∷ vs) ∷ cuts) c at d rest others round stands good every there =
    let z = d.motion.start.z in
    let on = next_leg d (v ∷ vs) in
    let behind = record c { moved = true } in
    leg_goes P law c at d v vs (arcs_from behind (map (cut_record z) cuts ++ rest)) (legs_from on cuts ++ others) round stands good every.0 c.moved refl d.motion.drive refl
    (legs_go P law cuts behind (Some (at_height z (last_of v vs))) on rest others round (stands_at (at_height z (last_of v vs))) good every.1 there)

contour_goes : (P : Option Position → List ArcAct → List Contour → Type 0) → IsLaw P → (c : Coming) (at here : Option Position) (step : Step) (m : Motion) (n : Legs) (cuts : List (List Pt)) (rest : List Record) (others : List Contour)
    → Stands c.moved at here → here ≡ Some m.start → IsGoodCut m → EveryContour IsLegalCut (legs_from (first_leg m) cuts)
    → Goes P c at (records_of step (effects.Cuts m n) cuts ++ rest) (legs_from (first_leg m) cuts ++ others) (Some (at_height m.start.z (last_behind m.start.xy cuts))) rest others
contour_goes P law c at here step m n cuts rest others stands is good every =
    let there : Stands c.moved at (Some m.start) = subst (λ (o : Option Position). Stands c.moved at o) is stands in record {
      coming = coming_through (turned c m) cuts;
      to = stand_through at m.start.z m.start.xy cuts;
      stands = legs_stand cuts (turned c m) at m.start.z m.start.xy there;
      leaves = legs_go P law cuts (turned c m) at (first_leg m) rest others refl there good every;
    }

-- ---- one step

note_goes : (P : Option Position → List ArcAct → List Contour → Type 0) → IsLaw P → (c : Coming) (at : Option Position) (note : Note) (rest : List Record) (others : List Contour)
    → P at (arcs_from (coming_behind c (records.Note note)) rest) others → P at (arcs_from c (records.Note note ∷ rest)) others
note_goes P law c at note rest others there =
    let more = arcs_from (coming_behind c (records.Note note)) rest in
    plain_acts P law at (note_acts c.pending note) more others (subst (λ (p : Option Position). P p more others) (sym (note_still at c.pending note)) there)

step_goes : (P : Option Position → List ArcAct → List Contour → Type 0) → IsLaw P → (c : Coming) (at : Option Position) (here : Situation) (step : Step) (e : Effect) (cuts : List (List Pt)) (rest : List Record) (others : List Contour)
    → Stands c.moved at here.position → effect_of here step.deed ≡ Some e → IsFresh here.position e → HasGoodCut e → CutsLegally e cuts
    → Goes P c at (records_of step e cuts ++ rest) (contours_by e cuts ++ others) (after here e cuts).position rest others
step_goes P law c at here step (effects.Defines n f) cuts rest others stands asked fresh good legal = record { coming = c; to = at; stands = stands; leaves = λ there. there }
step_goes P law c at here step (effects.Sets (changes.Said note)) cuts rest others stands asked fresh good legal =
    record { coming = coming_behind c (records.Note note); to = at; stands = stands; leaves = note_goes P law c at note rest others }
step_goes P law c at here step (effects.Sets (changes.Side side)) cuts rest others stands asked fresh good legal = record { coming = c; to = at; stands = stands; leaves = λ there. there }
step_goes P law c at here step (effects.Sets changes.Nothing) cuts rest others stands asked fresh good legal = record { coming = c; to = at; stands = stands; leaves = λ there. there }
step_goes P law c at here step (effects.Moves reaches.From to) cuts rest others stands asked fresh good legal =
    record { coming = coming_behind c (records.Point reaches.From to); to = at; stands = never_moved c.moved at here.position (Some to) fresh stands; leaves = λ there. there }
step_goes P law c at here step (effects.Moves reaches.Goto to) cuts rest others stands asked fresh good legal = move_goes P law c at step reaches.Goto to rest others refl
step_goes P law c at here step (effects.Moves reaches.Godlta to) cuts rest others stands asked fresh good legal = move_goes P law c at step reaches.Godlta to rest others refl
step_goes P law c at here step (effects.Moves reaches.Start to) cuts rest others stands asked fresh good legal = move_goes P law c at step reaches.Start to rest others refl
step_goes P law c at here step (effects.Cuts m n) cuts rest others stands asked fresh good legal =
    contour_goes P law c at here.position step m n cuts rest others stands (said_by here step.deed (effects.Cuts m n) asked).1.start good legal

fresh_here : (c here : Situation) (e : Effect) → Agrees c here → IsFresh c.position e → IsFresh here.position e
fresh_here c here (effects.Defines n f) agrees fresh = tt
fresh_here c here (effects.Sets change) agrees fresh = tt
fresh_here c here (effects.Moves reaches.From to) agrees fresh = no_one here.position c.position agrees.position fresh
fresh_here c here (effects.Moves reaches.Goto to) agrees fresh = tt
fresh_here c here (effects.Moves reaches.Godlta to) agrees fresh = tt
fresh_here c here (effects.Moves reaches.Start to) agrees fresh = tt
fresh_here c here (effects.Cuts m n) agrees fresh = tt

-- ---- all steps, beside the compiler's situation, from which no step is refused

walk : (P : Option Position → List ArcAct → List Contour → Type 0) → IsLaw P → (coming : Coming) (at : Option Position) (s : Told) (c here : Situation) (steps : List Step) (written : List Record) (behind : Situation)
    → Stands coming.moved at here.position → IsAsSaid s here → Agrees c here → HasLengths c → first_refused c steps ≡ None → FollowsAs CutsLegally here steps written behind
    → P at (arcs_from coming written) (contours_behind s written)
walk P law coming at s c here [] written behind stands tells agrees has fine f =
    subst (λ (rs : List Record). P at (arcs_from coming rs) (contours_behind s rs)) (sym f.0) (law.nothing at)
walk P law coming at s c here (step ∷ steps) written behind stands tells agrees has fine f =
    let e = f.0 in
    let cuts = f.1 in
    let rest = f.2 in
    let does = passed step (refusal_of c step.deed) (effect_of c step.deed) (λ e. first_refused (after c e (ends_of e)) steps) fine in
    let on = says_on s here step e cuts tells f.3.asked f.3.may in
    let others = contours_behind (said_behind s (records_of step e cuts)) rest in
    let fresh = fresh_here c here e agrees (is_fresh c here step.deed e does.fine f.3.asked) in
    let goes = step_goes P law coming at here step e cuts rest others stands f.3.asked fresh (good_cut here step.deed e (lengths_agree c here agrees has) f.3.asked) f.4 in
    let later = walk P law goes.coming goes.to (said_behind s (records_of step e cuts)) (after c does.e (ends_of does.e)) (after here e cuts) steps rest behind goes.stands on.tells
    (agrees_behind c here step.deed does.e e (ends_of does.e) cuts agrees does.asked f.3.asked) (lengths_behind c step.deed does.e (ends_of does.e) has does.fine does.asked) does.rest f.5 in
    let whole : P at (arcs_from coming (records_of step e cuts ++ rest)) (contours_behind s (records_of step e cuts ++ rest)) =
    subst (λ (cs : List Contour). P at (arcs_from coming (records_of step e cuts ++ rest)) cs) (sym (on.contours rest)) (goes.leaves later) in
    subst (λ (rs : List Record). P at (arcs_from coming rs) (contours_behind s rs)) (sym f.3.front) whole

-- a law holds of the plan of records that follow steps, of which none is refused, and whose contours are legal
pub law_of_plan : (P : Option Position → List ArcAct → List Contour → Type 0) → IsLaw P → (steps : List Step) (written : List Record) → first_refused first_situation steps ≡ None → Follows steps written
    → EveryContour IsLegalCut (contours_of written) → P None (plan_arcs written) (contours_of written)
law_of_plan P law steps written fine follows legal =
    law.plain None (acts.Units (units_of written)) (arcs_from nothing_coming written) (contours_of written)
    (walk P law nothing_coming None nothing_said first_situation first_situation steps written follows.behind (record { there = λ moved. absurd (true≢false (sym moved)) }) nothing_tells
    (agrees_first first_situation) first_lengths fine (contours_legal steps written follows legal))

-- Where no drive surface is a circle, the plan with arcs is the plain plan.
use Rattle.std.proofs.Common.{refl, ◌≡◌, ◌∙◌, Bool, true, false, List, [], ◌∷◌, ◌++◌, map, None, sym, ap}
use Rattle.std.proofs.lemmas.List.{map-append}
use Rattle.apt_plane.specs.declared.figures.Surface.TheVariants as surfaces
use Rattle.apt_records.specs.declared.record.Position.{Position}
use Rattle.apt_records.specs.declared.record.Record.{Record}
use Rattle.apt_records.specs.declared.record.Record.TheVariants as records
use Rattle.apt_control.specs.declared.Act.{Act}
use Rattle.apt_control.specs.declared.Act.TheVariants as acts
use Rattle.apt_post.specs.declared.planning.Pending.{Pending}
use Rattle.apt_post.specs.Plan.{cut_to, record_acts, record_pending, acts_from, units_of, plan}
use Rattle.apt_circular.specs.declared.ArcAct.{ArcAct}
use Rattle.apt_circular.specs.declared.ArcAct.TheVariants.{Plain}
use Rattle.apt_circular.specs.declared.planning.Coming.{Coming}
use Rattle.apt_circular.specs.Straight.{HaveNoRound}
use Rattle.apt_circular.specs.ArcPlan.{nothing_coming, contour_acts, arcs_from, plan_arcs}

abbrev lined : Pending → Bool → Coming
lined p moved = record { pending = p; moved = moved; round = None }

pub cuts_plain : (p : Pending) (vs : List Position) → map (λ v. Plain (cut_to p v)) vs ≡ map Plain (map (cut_to p) vs)
cuts_plain p [] = refl
cuts_plain p (v ∷ vs) = ap (λ (done : List ArcAct). Plain (cut_to p v) ∷ done) (cuts_plain p vs)

contour_plain : (p : Pending) (moved : Bool) (vs : List Position) → contour_acts (lined p moved) vs ≡ map Plain (map (cut_to p) vs)
contour_plain p true vs = cuts_plain p vs
contour_plain p false vs = cuts_plain p vs

joined : (xs ys : List Act) (more : List ArcAct) → more ≡ map Plain ys → map Plain xs ++ more ≡ map Plain (xs ++ ys)
joined xs ys more e = ap (λ (done : List ArcAct). map Plain xs ++ done) e ∙ sym (map-append Plain xs ys)

plain_from : (p : Pending) (moved : Bool) (rs : List Record) → HaveNoRound rs → arcs_from (lined p moved) rs ≡ map Plain (acts_from p rs)
plain_from p moved [] none = refl
plain_from p moved (records.Statement line step ∷ rs) none = plain_from p moved rs none.1
plain_from p moved (records.Note note ∷ rs) none =
    joined (record_acts p (records.Note note)) (acts_from (record_pending p (records.Note note)) rs) _ (plain_from (record_pending p (records.Note note)) moved rs none.1)
plain_from p moved (records.Drive (surfaces.Line l) side sense ∷ rs) none = plain_from p moved rs none.1
plain_from p moved (records.Drive (surfaces.Circ c) side sense ∷ rs) none = absurd none.0
plain_from p moved (records.Check surface how ∷ rs) none = plain_from p moved rs none.1
plain_from p moved (records.Point reach to ∷ rs) none =
    joined (record_acts p (records.Point reach to)) (acts_from (record_pending p (records.Point reach to)) rs) _ (plain_from (record_pending p (records.Point reach to)) _ rs none.1)
plain_from p moved (records.Contour vs ∷ rs) none =
    ap (λ (done : List ArcAct). done ++ arcs_from (lined p true) rs) (contour_plain p moved vs)
    ∙ joined (map (cut_to p) vs) (acts_from p rs) _ (plain_from p true rs none.1)

pub straight_plan : (rs : List Record) → HaveNoRound rs → plan_arcs rs ≡ map Plain (plan rs)
straight_plan rs none = ap (λ (done : List ArcAct). Plain (acts.Units (units_of rs)) ∷ done) (plain_from nothing_coming.pending false rs none)

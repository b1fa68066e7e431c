-- The plan of records with arcs is what they ask for, read by themselves.
use Rattle.std.proofs.Common.{refl, ◌≡◌, ap, ◌∙◌, sym, List, [], ◌∷◌, ◌++◌, map, Option, Some, None}
use Rattle.apt_records.specs.declared.record.Position.{Position}
use Rattle.apt_records.specs.declared.record.Reach.{Reach}
use Rattle.apt_records.specs.declared.record.Reach.TheVariants as reaches
use Rattle.apt_records.specs.declared.record.Record.{Record}
use Rattle.apt_records.specs.declared.record.Record.TheVariants as records
use Rattle.apt_post.specs.declared.planning.Pending.{Pending}
use Rattle.apt_post.specs.Said.{acts_of}
use Rattle.apt_post.proofs.Said.{pending_said, record_holds, record_asks, units_are, plan_said}
use Rattle.apt_circular.specs.declared.ArcAct.{ArcAct}
use Rattle.apt_circular.specs.declared.ArcAct.TheVariants.{Plain}
use Rattle.apt_circular.specs.declared.planning.Round.{Round}
use Rattle.apt_circular.specs.declared.planning.Coming.{Coming}
use Rattle.apt_circular.specs.ArcPlan.{cut_acts, record_arcs, coming_behind, arcs_from, plan_arcs}
use Rattle.apt_circular.specs.Straight.{HaveNoRound}
use Rattle.apt_circular.specs.ArcsSaid.{round_said, has_moved, circle_by, arcs_by, arcs_asked, arcs_of}
use Rattle.apt_circular.proofs.Plans.{cuts_plain, straight_plan}

-- what holds, looked back for
abbrev coming_said : List Record → Coming
coming_said before = record { pending = pending_said before; moved = has_moved before; round = round_said before }

-- ---- what holds behind a record

point_holds : (before : List Record) (reach : Reach) (to : Position) → coming_behind (coming_said before) (records.Point reach to) ≡ coming_said (records.Point reach to ∷ before)
point_holds before reaches.From to = refl
point_holds before reaches.Goto to = refl
point_holds before reaches.Godlta to = refl
point_holds before reaches.Start to = refl

holds : (before : List Record) (r : Record) → coming_behind (coming_said before) r ≡ coming_said (r ∷ before)
holds before (records.Statement line step) = refl
holds before (records.Note note) = ap (λ (p : Pending). record (coming_said before) { pending = p }) (record_holds before (records.Note note))
holds before (records.Drive surface side sense) = refl
holds before (records.Check surface how) = refl
holds before (records.Point reach to) = point_holds before reach to
holds before (records.Contour vertices) = refl

-- ---- what a record asks for

cuts_ask : (before : List Record) (round : Option Round) (vs : List Position) → cut_acts (pending_said before) round vs ≡ arcs_by before (records.Contour vs) round
cuts_ask before None vs = cuts_plain (pending_said before) vs
cuts_ask before (Some r) [] = refl
cuts_ask before (Some r) (v ∷ []) = refl
cuts_ask before (Some r) (v ∷ w ∷ vs) = cuts_ask before (Some r) (w ∷ vs)

asks : (before : List Record) (r : Record) → record_arcs (coming_said before) r ≡ arcs_by before r (circle_by before)
asks before (records.Statement line step) = refl
asks before (records.Note note) = ap (map Plain) (record_asks before (records.Note note))
asks before (records.Drive surface side sense) = refl
asks before (records.Check surface how) = refl
asks before (records.Point reach to) = ap (map Plain) (record_asks before (records.Point reach to))
asks before (records.Contour vertices) = cuts_ask before (circle_by before) vertices

arcs_are : (before rs : List Record) → arcs_from (coming_said before) rs ≡ arcs_asked before rs
arcs_are before [] = refl
arcs_are before (r ∷ rs) =
    ap (λ (c : Coming). record_arcs (coming_said before) r ++ arcs_from c rs) (holds before r)
    ∙ ap (λ (done : List ArcAct). done ++ arcs_from (coming_said (r ∷ before)) rs) (asks before r)
    ∙ ap (λ (done : List ArcAct). arcs_by before r (circle_by before) ++ done) (arcs_are (r ∷ before) rs)

pub arcs_said : (rs : List Record) → plan_arcs rs ≡ arcs_of rs
arcs_said rs = rw (units_are rs, arcs_are [] rs) refl

-- where no drive surface is a circle, records ask for what they do on a plain machine
pub no_arcs : (rs : List Record) → HaveNoRound rs → arcs_of rs ≡ map Plain (acts_of rs)
no_arcs rs none = sym (arcs_said rs) ∙ straight_plan rs none ∙ ap (map Plain) (plan_said rs)

-- How many acts records have with arcs.
use Rattle.std.proofs.Common.{◌≡◌, ◌+◌, ◌≤◌, List, ◌∷◌, map, length, None, refl, sym, ◌∙◌, arith}
use Rattle.std.proofs.lemmas.List.{length-map, length-append}
use Rattle.apt_records.specs.declared.record.Position.{Position}
use Rattle.apt_records.specs.declared.record.Record.{Record}
use Rattle.apt_records.specs.declared.record.Record.TheVariants as records
use Rattle.apt_records.specs.Ranges.{vertex_count}
use Rattle.apt_post.specs.declared.planning.Pending.{Pending}
use Rattle.apt_post.specs.Plan.{cut_to, note_acts, point_acts, record_acts}
use Rattle.apt_post.proofs.HowMany.{plan_few}
use Rattle.apt_circular.specs.declared.ArcAct.TheVariants.{Plain}
use Rattle.apt_circular.specs.declared.planning.Coming.{Coming}
use Rattle.apt_circular.specs.ArcPlan.{plain_cut, cut_acts, turning, record_arcs, coming_behind, arcs_from, plan_arcs}
use Rattle.apt_circular.proofs.Lengths.{fewer_acts}

-- those of one record and of the records behind it
pub arcs_more : (c : Coming) (r : Record) (rs : List Record) → length (arcs_from c (r ∷ rs)) ≡ length (record_arcs c r) + length (arcs_from (coming_behind c r) rs)
arcs_more c r rs = length-append (record_arcs c r) (arcs_from (coming_behind c r) rs)

pub arcs_few : (rs : List Record) → length (plan_arcs rs) ≤ 1 + (vertex_count rs + length rs)
arcs_few rs = omega (arith, fewer_acts rs, plan_few rs)

cuts_many : (p : Pending) (vs : List Position) → length (cut_acts p None vs) ≡ length (map (cut_to p) vs)
cuts_many p vs = length-map vs (plain_cut p) ∙ sym (length-map vs (cut_to p))

-- where no contour is an arc, those of a record are the plain plan's
pub plain_many : (c : Coming) (r : Record) → turning c ≡ None → length (record_arcs c r) ≡ length (record_acts c.pending r)
plain_many c (records.Statement line step) none = refl
plain_many c (records.Note note) none = length-map (note_acts c.pending note) Plain
plain_many c (records.Drive surface side sense) none = refl
plain_many c (records.Check surface how) none = refl
plain_many c (records.Point reach to) none = length-map (point_acts c.pending reach to) Plain
plain_many c (records.Contour vertices) none = rw none (cuts_many c.pending vertices)

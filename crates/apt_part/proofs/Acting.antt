-- The records of a compiled part ask for an act at most for each step, and for one for each vertex.
use Rattle.std.proofs.Common.{◌≡◌, ℕ, ℤ, ◌+◌, ◌≤◌, false, List, [], ◌∷◌, ◌++◌, length, map, Ok, arith}
use Rattle.std.proofs.lemmas.List.{length-map, length-append}
use Rattle.apt_words.specs.declared.deed.Step.{Step}
use Rattle.apt_plane.specs.declared.figures.Pt.{Pt}
use Rattle.apt_records.specs.declared.record.Reach.{Reach}
use Rattle.apt_records.specs.declared.record.Reach.TheVariants as reaches
use Rattle.apt_records.specs.declared.record.Position.{Position}
use Rattle.apt_records.specs.declared.record.Record.{Record}
use Rattle.apt_records.specs.declared.record.Record.TheVariants as records
use Rattle.apt_records.specs.Ranges.{vertex_count}
use Rattle.apt_records.specs.Vertices.{at_height}
use Rattle.apt_meaning.specs.declared.situation.Situation.{Situation}
use Rattle.apt_meaning.specs.declared.effect.Change.TheVariants as changes
use Rattle.apt_meaning.specs.declared.effect.Effect.{Effect}
use Rattle.apt_meaning.specs.declared.effect.Effect.TheVariants as effects
use Rattle.apt_meaning.specs.Effects.{effect_of}
use Rattle.apt_meaning.specs.Refusals.{refusal_of}
use Rattle.apt_meaning.specs.Records.{cut_record, records_of, after}
use Rattle.apt_meaning.specs.Vertices.{cut_points}
use Rattle.apt_meaning.specs.Compiled.{ends_of, points_of, point_number, compilation_behind}
use Rattle.apt_meaning.proofs.Walks.Compiled.{done, front_ok, nothing_left, behind_step}
use Rattle.apt_meaning.proofs.Walks.Files.{step_vertices, vertex_count-append}
use Rattle.apt_post.specs.declared.planning.Pending.{Pending}
use Rattle.apt_post.specs.Plan.{cut_to, note_acts, note_pending, acts_from}
use Rattle.apt_post.proofs.Lengths.{note_few}

-- records have so many acts at most, whatever is pending
abbrev pub HasActs : List Record → ℕ → Type 0
HasActs rs k = (p : Pending) → length (acts_from p rs) ≤ k

-- a leg has one for each vertex
legs_act : (z : ℤ) (cuts : List (List Pt)) (rest : List Record) (k : ℕ) → HasActs rest k → HasActs (map (cut_record z) cuts ++ rest) (cut_points cuts + k)
legs_act z [] rest k more = λ p. omega (arith, more p)
legs_act z (vertices ∷ cuts) rest k more =
    λ p. omega (arith, length-append (map (cut_to p) (map (at_height z) vertices)) (acts_from p (map (cut_record z) cuts ++ rest)), length-map (map (at_height z) vertices) (cut_to p), length-map vertices (at_height z), legs_act z cuts rest k more p)

move_acts : (reach : Reach) (to : Position) (rest : List Record) (k : ℕ) → HasActs rest k → HasActs (records.Point reach to ∷ rest) (1 + k)
move_acts reaches.From to rest k more = λ p. omega (arith, more p)
move_acts reaches.Goto to rest k more = λ p. omega (arith, more (record p { rapid = false }))
move_acts reaches.Godlta to rest k more = λ p. omega (arith, more (record p { rapid = false }))
move_acts reaches.Start to rest k more = λ p. omega (arith, more (record p { rapid = false }))

step_acts : (step : Step) (e : Effect) (cuts : List (List Pt)) (rest : List Record) (k : ℕ) → HasActs rest k → HasActs (records_of step e cuts ++ rest) (1 + cut_points cuts + k)
step_acts step (effects.Defines n f) cuts rest k more = λ p. omega (arith, more p)
step_acts step (effects.Sets (changes.Said note)) cuts rest k more =
    λ p. omega (arith, length-append (note_acts p note) (acts_from (note_pending p note) rest), note_few p note, more (note_pending p note))
step_acts step (effects.Sets (changes.Side side)) cuts rest k more = λ p. omega (arith, more p)
step_acts step (effects.Sets changes.Nothing) cuts rest k more = λ p. omega (arith, more p)
step_acts step (effects.Moves reach to) cuts rest k more = λ p. omega (arith, move_acts reach to rest k more p)
step_acts step (effects.Cuts m legs) cuts rest k more = λ p. omega (arith, legs_act m.start.z cuts rest k more p)

as_many : (a b : ℕ) (rs : List Record) → a ≤ b → HasActs rs a → HasActs rs b
as_many a b rs less few = λ p. omega (arith, less, few p)

pub compiled_acts : (so_far : ℕ) (here : Situation) (steps : List Step) (written : List Record) → compilation_behind so_far here steps ≡ Ok written
    → HasActs written (length steps + vertex_count written)
compiled_acts so_far here [] written h = rw (nothing_left written h) (λ p. omega arith)
compiled_acts so_far here (step ∷ steps) written h =
    let d = done so_far step (refusal_of here step.deed) (effect_of here step.deed) (behind_step so_far here step steps) written h in
    let e = d.e in
    let n = so_far + point_number e in
    let front = records_of step e (points_of e) in
    let f = front_ok front (compilation_behind n (after here e (ends_of e)) steps) written d.rest in
    let more = compiled_acts n (after here e (ends_of e)) steps f.0 f.1 in
    let k = length steps + vertex_count f.0 in
    rw f.2 (as_many (1 + cut_points (points_of e) + k) (length (step ∷ steps) + vertex_count (front ++ f.0)) (front ++ f.0)
    (omega (arith, vertex_count-append front f.0, step_vertices step e)) (step_acts step e (points_of e) f.0 k more))

-- A walk over steps, none of which is refused.
use Rattle.std.proofs.Common.{◌≡◌, ℕ, ◌+◌, ◌≤◌, List, ◌∷◌, ◌++◌, ◌∙◌, arith, false}
use Rattle.std.specs.Prelude.{nat_lt, Some, None, Result, Ok, Err, cond}
use Rattle.std.proofs.lemmas.Bool.Decides.{nat_tests}
use Rattle.apt_words.specs.declared.Case.TheVariants as cases
use Rattle.apt_words.specs.declared.deed.Deed.{Deed}
use Rattle.apt_words.specs.declared.deed.Step.{Step}
use Rattle.apt_records.specs.declared.record.Record.{Record}
use Rattle.apt_meaning.specs.declared.situation.Situation.{Situation}
use Rattle.apt_meaning.specs.declared.effect.Effect.{Effect}
use Rattle.apt_meaning.specs.Effects.{effect_of}
use Rattle.apt_meaning.specs.Refusals.{refusal_of}
use Rattle.apt_meaning.specs.Records.{records_of, after}
use Rattle.apt_meaning.specs.Compiled.{ends_of, points_of, point_number, asked, asked_within, or_refused, with_front, compilation_behind}
use Rattle.apt_demo.proofs.Deeds.{numbered}

-- a step is not refused, has so many vertices, and leads to a situation
pub record Passes (here : Situation) (deed : Deed) (n : ℕ) (behind : Situation) : Type 0 where
  pub effect : Effect
  pub fine : refusal_of here deed ≡ None
  pub asked : effect_of here deed ≡ Some effect
  pub count : point_number effect ≡ n
  pub leaves : after here effect (ends_of effect) ≡ behind

abbrev pub Compiles : ℕ → Situation → List Step → Type 0
Compiles so_far here steps = (rs : List Record) × (compilation_behind so_far here steps ≡ Ok rs)

not_more : (n : ℕ) → n ≤ 500000 → nat_lt 500000 n ≡ false
not_more n h = grind (arith, nat_tests)

passed_on : (so_far n : ℕ) (here behind : Situation) (step : Step) (steps : List Step) (p : Passes here step.deed n behind) → so_far + point_number p.effect ≤ 500000
    → compilation_behind so_far here (step ∷ steps) ≡ with_front (records_of step p.effect (points_of p.effect)) (compilation_behind (so_far + n) behind steps)
passed_on so_far n here behind step steps p few =
    let e = p.effect in
    let more : Effect → Result (List Record) _ = λ e. with_front (records_of step e (points_of e)) (compilation_behind (so_far + point_number e) (after here e (ends_of e)) steps) in
    (λ i. or_refused step (asked_within so_far (asked (p.fine i) (p.asked i))) more)
    ∙ (λ i. or_refused step (cond (not_more _ few i) (Err cases.TooManyPoints) (Ok e)) more)
    ∙ (λ i. with_front (records_of step e (points_of e)) (compilation_behind (so_far + p.count i) (p.leaves i) steps))

passed : (so_far n : ℕ) (here behind : Situation) (step : Step) (steps : List Step) → Passes here step.deed n behind → so_far + n ≤ 500000
    → Compiles (so_far + n) behind steps → Compiles so_far here (step ∷ steps)
passed so_far n here behind step steps p few rest =
    let front = records_of step p.effect (points_of p.effect) in
    let few_points : so_far + point_number p.effect ≤ 500000 = rw p.count few in
    (front ++ rest.0, passed_on so_far n here behind step steps p few_points ∙ (λ i. with_front front (rest.1 i)))

-- however the steps are numbered
pub record Goes (so_far : ℕ) (here : Situation) (deeds : List Deed) : Type 0 where
  pub by_number : (i : ℕ) → Compiles so_far here (numbered i deeds)

pub passes_on : (so_far n : ℕ) (here behind : Situation) (deed : Deed) (deeds : List Deed) → Passes here deed n behind → so_far + n ≤ 500000
    → Goes (so_far + n) behind deeds → Goes so_far here (deed ∷ deeds)
passes_on so_far n here behind deed deeds p few rest =
    record { by_number = λ i. passed so_far n here behind (record { line = i; step = i; deed = deed }) (numbered (i + 1) deeds) p few (rest.by_number (i + 1)) }

pub plus_none : (n : ℕ) → n + 0 ≡ n
plus_none n = omega arith

-- one without vertices
pub passes_by : (so_far : ℕ) (here behind : Situation) (deed : Deed) (deeds : List Deed) → Passes here deed 0 behind → so_far ≤ 500000
    → Goes so_far behind deeds → Goes so_far here (deed ∷ deeds)
passes_by so_far here behind deed deeds p few rest =
    passes_on so_far 0 here behind deed deeds p (omega (arith, few)) (rw (plus_none so_far) rest)

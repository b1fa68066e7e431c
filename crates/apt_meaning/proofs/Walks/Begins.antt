-- The records of a step begin in one way only, and where they begin they are as expected.
use Rattle.std.proofs.Common.{◌≡◌, ◌∙◌, ℕ, zero, suc, ℤ, Bool, true, false, List, [], ◌∷◌, ◌++◌, length, map, Option, Some, refl, sym, ap, subst}
use Rattle.std.specs.Prelude.{◌&&◌}
use Rattle.std.proofs.lemmas.Bool.{true≢false}
use Rattle.std.proofs.lemmas.Option.{same_Some}
use Rattle.apt_words.specs.declared.deed.Step.{Step}
use Rattle.apt_plane.specs.declared.figures.Pt.{Pt}
use Rattle.apt_records.specs.declared.record.Position.{Position}
use Rattle.apt_records.specs.declared.record.Record.{Record}
use Rattle.apt_meaning.specs.declared.situation.Situation.{Situation}
use Rattle.apt_meaning.specs.declared.effect.Change.TheVariants as changes
use Rattle.apt_meaning.specs.declared.effect.Effect.{Effect}
use Rattle.apt_meaning.specs.declared.effect.Effect.TheVariants as effects
use Rattle.apt_records.specs.Vertices.{at_height}
use Rattle.apt_stop.specs.declared.legs.Legs.{Legs}
use Rattle.apt_stop.specs.declared.legs.Legs.TheVariants as legs
use Rattle.apt_meaning.specs.Motions.{has_track, has_stop}
use Rattle.apt_stop.specs.Legs.{leg_count}
use Rattle.apt_meaning.specs.Records.{Begins, MayHave, cut_record, records_of}
use Rattle.apt_meaning.specs.Expectations.{Expectation, VerticesAt, each_leg, expected, expected_of, behind_statement, Meets, Departs}

-- ---- in one way only

same_point : (z : ℤ) (p q : Pt) → at_height z p ≡ at_height z q → p ≡ q
same_point z p q e = ap (λ (x : Position). x.xy) e

heights_same : (z : ℤ) (ps qs : List Pt) → map (at_height z) ps ≡ map (at_height z) qs → ps ≡ qs
heights_same z [] [] e = refl
heights_same z [] (q ∷ qs) e = absurd cc
heights_same z (p ∷ ps) [] e = absurd cc
heights_same z (p ∷ ps) (q ∷ qs) e = rw (same_point z p q cc, heights_same z ps qs cc) refl

-- the records of an effect, and those behind them, are split in one way
cuts_once : (z : ℤ) (vs us : List (List Pt)) (xs ys : List Record) → length vs ≡ length us → map (cut_record z) vs ++ xs ≡ map (cut_record z) us ++ ys → (vs ≡ us) × (xs ≡ ys)
cuts_once z [] [] xs ys n e = (refl, e)
cuts_once z [] (u ∷ us) xs ys n e = absurd cc
cuts_once z (v ∷ vs) [] xs ys n e = absurd cc
cuts_once z (v ∷ vs) (u ∷ us) xs ys n e =
    let first : map (at_height z) v ≡ map (at_height z) u = cc in
    let later : map (cut_record z) vs ++ xs ≡ map (cut_record z) us ++ ys = cc in
    let few : length vs ≡ length us = cc in
    let more = cuts_once z vs us xs ys few later in
    (rw (heights_same z v u first, more.0) refl, more.1)

front_once : (step : Step) (e : Effect) (vs us : List (List Pt)) (xs ys : List Record) → MayHave e vs → MayHave e us
    → records_of step e vs ++ xs ≡ records_of step e us ++ ys → (vs ≡ us) × (xs ≡ ys)
front_once step (effects.Defines n f) vs us xs ys v u e = (v ∙ sym u, e)
front_once step (effects.Sets (changes.Said note)) vs us xs ys v u e = (v ∙ sym u, cc)
front_once step (effects.Sets (changes.Side side)) vs us xs ys v u e = (v ∙ sym u, e)
front_once step (effects.Sets changes.Nothing) vs us xs ys v u e = (v ∙ sym u, e)
front_once step (effects.Moves reach to) vs us xs ys v u e = (v ∙ sym u, cc)
front_once step (effects.Cuts m n) vs us xs ys v u e =
    let same : map (cut_record m.start.z) vs ++ xs ≡ map (cut_record m.start.z) us ++ ys = cc in
    cuts_once m.start.z vs us xs ys (v.1 ∙ sym u.1) same

pub record AreSame (e d : Effect) (vs us : List (List Pt)) (xs ys : List Record) : Type 0 where
  pub effect : e ≡ d
  pub cuts : vs ≡ us
  pub rest : xs ≡ ys

pub begins_once : (here : Situation) (step : Step) (written : List Record) (e d : Effect) (vs us : List (List Pt)) (xs ys : List Record)
    → Begins here step written e vs xs → Begins here step written d us ys → AreSame e d vs us xs ys
begins_once here step written e d vs us xs ys b c =
    let same : d ≡ e = same_Some d e (sym c.asked ∙ b.asked) in
    let may = subst (λ (x : Effect). MayHave x us) same c.may in
    let front : records_of step e vs ++ xs ≡ records_of step e us ++ ys = sym b.front ∙ c.front ∙ ap (λ (x : Effect). records_of step x us ++ ys) same in
    let split = front_once step e vs us xs ys b.may may front in
    record { effect = sym same; cuts = split.0; rest = split.1 }

-- ---- as expected

abbrev pub AreMet : List Expectation → List Record → Type 0
AreMet [] [] = Unit {0}
AreMet [] (r ∷ rs) = ⊥
AreMet (x ∷ xs) [] = ⊥
AreMet (x ∷ xs) (r ∷ rs) = ((vertices : List Pt) × Meets x r vertices) × AreMet xs rs

met_no_departs : (xs : List Expectation) (rs rest : List Record) (k : ℕ) → AreMet xs rs → Departs xs (rs ++ rest) k → ⊥
met_no_departs [] [] rest k met departs = departs
met_no_departs [] (r ∷ rs) rest k met departs = met
met_no_departs (x ∷ xs) [] rest k met departs = met
met_no_departs (x ∷ xs) (r ∷ rs) rest zero met departs = departs met.0
met_no_departs (x ∷ xs) (r ∷ rs) rest (suc k) met departs = met_no_departs xs rs rest k met.1 departs.1

-- a list departs at one record
pub departs_once : (xs : List Expectation) (rs : List Record) (j k : ℕ) → Departs xs rs j → Departs xs rs k → j ≡ k
departs_once [] rs j k d e = absurd d
departs_once (x ∷ xs) [] j k d e = d ∙ sym e
departs_once (x ∷ xs) (r ∷ rs) zero zero d e = refl
departs_once (x ∷ xs) (r ∷ rs) zero (suc k) d e = absurd (d e.0)
departs_once (x ∷ xs) (r ∷ rs) (suc j) zero d e = absurd (e d.0)
departs_once (x ∷ xs) (r ∷ rs) (suc j) (suc k) d e = ap suc (departs_once xs rs j k d.1 e.1)

pub both : (a b : Bool) → (a && b) ≡ true → (a ≡ true) × (b ≡ true)
both true b e = (refl, e)
both false b e = absurd (true≢false (sym e))

legs_met : (z : ℤ) (n : Legs) (cuts : List (List Pt)) → length cuts ≡ leg_count n → AreMet (each_leg n (VerticesAt z)) (map (cut_record z) cuts)
legs_met z legs.One [] e = absurd cc
legs_met z legs.One (v ∷ []) e = ((v, refl), tt)
legs_met z legs.One (v ∷ w ∷ cuts) e = absurd cc
legs_met z legs.Two [] e = absurd cc
legs_met z legs.Two (v ∷ []) e = absurd cc
legs_met z legs.Two (v ∷ w ∷ []) e = ((v, refl), ((w, refl), tt))
legs_met z legs.Two (v ∷ w ∷ x ∷ cuts) e = absurd cc

front_met : (step : Step) (e : Effect) (cuts : List (List Pt)) → MayHave e cuts → AreMet (behind_statement step (expected_of (Some e))) (records_of step e cuts)
front_met step (effects.Defines n f) cuts may = tt
front_met step (effects.Sets (changes.Said note)) cuts may = (([], (refl, refl)), (([], (refl, refl)), tt))
front_met step (effects.Sets (changes.Side side)) cuts may = tt
front_met step (effects.Sets changes.Nothing) cuts may = tt
front_met step (effects.Moves reach to) cuts may = (([], (refl, refl)), (([], (refl, refl)), tt))
front_met step (effects.Cuts m n) cuts may =
    let there = both (has_track m) (has_stop m) may.0 in
    rw (there.0, there.1) (([], (refl, refl)), (([], (refl, refl)), (([], (refl, refl)), legs_met m.start.z n cuts may.1)))

-- where the records of a step begin, they do not depart from what is expected
pub begins_no_departs : (here : Situation) (step : Step) (written : List Record) (e : Effect) (cuts : List (List Pt)) (rest : List Record) (k : ℕ)
    → Begins here step written e cuts rest → Departs (expected here step) written k → ⊥
begins_no_departs here step written e cuts rest k b departs =
    let due = subst (λ (o : Option Effect). Departs (behind_statement step (expected_of o)) written k) b.asked departs in
    met_no_departs (behind_statement step (expected_of (Some e))) (records_of step e cuts) rest k (front_met step e cuts b.may)
    (subst (λ (rs : List Record). Departs (behind_statement step (expected_of (Some e))) rs k) b.front due)

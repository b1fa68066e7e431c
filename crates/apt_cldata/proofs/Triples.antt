-- Positions are read one by one.
use Rattle.std.proofs.Common.{◌≡◌, ℕ, ◌+◌, ◌-◌, ◌≤◌, ◌<◌, ℤ, List, [], ◌∷◌, ◌++◌, length, get_or, take, drop, Result, Ok, Err, refl, ap, ◌∙◌, arith}
use Rattle.std.proofs.lemmas.List.{take_rest, length-drop}
use Rattle.apt_cldata.specs.declared.fields.Misfit.{Misfit}
use Rattle.apt_cldata.specs.declared.fields.Misfit.TheVariants as misfits
use Rattle.apt_records.specs.declared.record.Position.{Position}
use Rattle.apt_cldata.specs.Fields.{◌>>=◌}
use Rattle.apt_cldata.specs.Reading.{number_of, numbers_of}
use Rattle.apt_cldata.specs.Records.{position_by, positions_by}
use Rattle.apt_cldata.proofs.Chains.{behind, behind_one}

first_is : (at : List Position) (i : ℕ) (ws : List ℤ) (r : Result Position Misfit) (p : Position) → Ok p ≡ r
    → behind (at ++ p ∷ []) (positions_by (i + 3) ws) ≡ behind at (r >>= λ p. positions_by (i + 3) ws >>= λ ps. Ok (p ∷ ps))
first_is at i ws r p is = behind_one at p (positions_by (i + 3) ws) ∙ ap (λ r. behind at (r >>= λ p. positions_by (i + 3) ws >>= λ ps. Ok (p ∷ ps))) is

-- a position more, by the code's way to take three words from the front
pub triples_more : (at : List Position) (i : ℕ) (rest : List (List ℕ)) (d : List ℕ) (s t u : ℤ) (p : Position) → 3 ≤ length rest → s ≡ number_of (get_or rest 0 d) → t ≡ number_of (get_or rest 1 d) → u ≡ number_of (get_or rest 2 d) → Ok p ≡ position_by i s t u
    → behind (at ++ p ∷ []) (positions_by (i + 3) (numbers_of (take (length rest - 3) (drop 3 rest)))) ≡ behind at (positions_by i (numbers_of rest))
triples_more at i [] d s t u p long e0 e1 e2 is = absurd (omega arith)
triples_more at i (x ∷ []) d s t u p long e0 e1 e2 is = absurd (omega arith)
triples_more at i (x ∷ y ∷ []) d s t u p long e0 e1 e2 is = absurd (omega arith)
triples_more at i (x ∷ y ∷ z ∷ ws) d s t u p long e0 e1 e2 is =
    ap (λ ws. behind (at ++ p ∷ []) (positions_by (i + 3) (numbers_of ws))) (take_rest (x ∷ y ∷ z ∷ ws) 3) ∙ first_is at i (numbers_of ws) (position_by i (number_of x) (number_of y) (number_of z)) p (is ∙ λ j. position_by i (e0 j) (e1 j) (e2 j))

-- one or two words are no position
pub triples_short : (at : List Position) (i : ℕ) (rest : List (List ℕ)) → 1 ≤ length rest → length rest < 3 → behind at (positions_by i (numbers_of rest)) ≡ Err misfits.Count
triples_short at i [] some few = absurd (omega arith)
triples_short at i (x ∷ []) some few = refl
triples_short at i (x ∷ y ∷ []) some few = refl
triples_short at i (x ∷ y ∷ z ∷ ws) some few = absurd (omega arith)

pub triples_left : (rest : List (List ℕ)) → 3 ≤ length rest → length (take (length rest - 3) (drop 3 rest)) + 3 ≡ length rest
triples_left rest long = omega (arith, ap length (take_rest rest 3), length-drop 3 rest)

-- a single position
pub one_triple : (ws : List (List ℕ)) (d : List ℕ) (s t u : ℤ) (p : Position) → 3 ≤ length ws → length ws ≤ 3 → s ≡ number_of (get_or ws 0 d) → t ≡ number_of (get_or ws 1 d) → u ≡ number_of (get_or ws 2 d) → Ok p ≡ position_by 0 s t u → Ok (p ∷ []) ≡ positions_by 0 (numbers_of ws)
one_triple [] d s t u p long short e0 e1 e2 is = absurd (omega arith)
one_triple (x ∷ []) d s t u p long short e0 e1 e2 is = absurd (omega arith)
one_triple (x ∷ y ∷ []) d s t u p long short e0 e1 e2 is = absurd (omega arith)
one_triple (x ∷ y ∷ z ∷ []) d s t u p long short e0 e1 e2 is = ap (λ r. r >>= λ p. Ok (p ∷ [])) (is ∙ λ j. position_by 0 (e0 j) (e1 j) (e2 j))
one_triple (x ∷ y ∷ z ∷ w ∷ ws) d s t u p long short e0 e1 e2 is = absurd (omega arith)

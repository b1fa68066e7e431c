-- What an ordered list of conditions answers.
use Rattle.std.proofs.Common.{Bool, true, false, refl, cond}
use Rattle.std.specs.Prelude.{◌≡◌, ◌↔◌, List, [], ◌∷◌, Option, Some, None, IfOk, IsErrOf}
use Rattle.apt_words.specs.declared.Case.{Case}
use Rattle.apt_words.specs.Rows.{Row, first_of, unless, unless_case, NoneHolds}

refused_case : {A : Type 0} (refusal : Option Case) (x : A) (case : Case) → IsErrOf (unless_case refusal x) case ↔ (refusal ≡ Some case)
refused_case None x case = (λ e. absurd cc, λ e. absurd cc)
refused_case (Some other) x case = (λ e. cc, λ e. cc)

-- it refuses by the case of the first condition that holds, and by no other
pub refused_by : {A : Type 0} (rows : List Row) (x : A) (case : Case) → IsErrOf (unless rows x) case ↔ (first_of rows ≡ Some case)
refused_by rows x case = refused_case (first_of rows) x case

given_case : {A : Type 0} (refusal : Option Case) (x : A) (P : A → Type 0) → P x → IfOk (unless_case refusal x) P
given_case None x P p = p
given_case (Some other) x P p = tt

-- what holds of the value holds of an answer
pub given_by : {A : Type 0} (rows : List Row) (x : A) (P : A → Type 0) → P x → IfOk (unless rows x) P
given_by rows x P p = given_case (first_of rows) x P p

-- ---- where no case refuses, no condition holds, and the other way round

row_none : (b : Bool) (case : Case) (rest : Option Case) → cond b (Some case) rest ≡ None → (b ≡ false) × (rest ≡ None)
row_none true case rest e = absurd cc
row_none false case rest e = (refl, e)

pub first_none : (rows : List Row) → first_of rows ≡ None → NoneHolds rows
first_none [] e = tt
first_none (row ∷ rows) e =
    let here = row_none row.0 row.1 (first_of rows) e in
    (here.0, first_none rows here.1)

pub none_first : (rows : List Row) → NoneHolds rows → first_of rows ≡ None
none_first [] none = refl
none_first (row ∷ rows) none = rw none.0 (none_first rows none.1)

-- Parameters are bound one after another.
use Rattle.std.proofs.Common.{◌≡◌, ℕ, List, [], ◌∷◌, ◌++◌, Result, Ok, Err, refl, ap, append_assoc, append-nil}
use Rattle.apt_words.specs.Chains.{◌>>=◌}
use Rattle.apt_words.specs.declared.Case.{Case}
use Rattle.apt_scalar.specs.declared.names.Bound.{Bound}
use Rattle.apt_scalar.specs.Meanings.{Parameters}

-- parameters that are bound, in front of others
abbrev pub behind : Parameters → Result Parameters Case → Result Parameters Case
behind before more = more >>= λ rest. Ok (before ++ rest)

pub one_more : (before : Parameters) (b : List ℕ × Bound) (more : Result Parameters Case) → behind (before ++ b ∷ []) more ≡ behind before (more >>= λ rest. Ok (b ∷ rest))
one_more before b (Ok rest) = ap Ok (append_assoc before (b ∷ []) rest)
one_more before b (Err case) = refl

pub all_bound : (before : Parameters) → before ++ [] ≡ before
all_bound before = append-nil before

pub none_bound : (r : Result Parameters Case) → behind [] r ≡ r
none_bound (Ok rest) = refl
none_bound (Err case) = refl

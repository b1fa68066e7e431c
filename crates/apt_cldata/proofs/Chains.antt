-- Lists that are read from the front.
use Rattle.std.proofs.Common.{◌≡◌, List, [], ◌∷◌, ◌++◌, Result, Ok, Err, refl, ap, append_assoc}
use Rattle.apt_cldata.specs.Fields.{◌>>=◌}

-- what is read behind a front
abbrev pub behind : {A E : Type 0} → List A → Result (List A) E → Result (List A) E
behind front (Ok more) = Ok (front ++ more)
behind front (Err e) = Err e

pub behind_one : {A E : Type 0} (front : List A) (x : A) (r : Result (List A) E) → behind (front ++ x ∷ []) r ≡ behind front (r >>= λ xs. Ok (x ∷ xs))
behind_one front x (Ok xs) = ap Ok (append_assoc front (x ∷ []) xs)
behind_one front x (Err e) = refl

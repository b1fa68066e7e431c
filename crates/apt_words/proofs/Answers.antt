-- What errors tell.
use Rattle.std.proofs.Common.{◌≡◌, Option, Some, None, Result, Ok, Err}
use Rattle.apt_words.specs.Answers.{Tells, Comes, IsFault}

-- what follows from each fault that may be told follows from what is told
pub tells_more : {F : Type 0} (so more : F → Type 0) (o : Option F) → ((fault : F) → so fault → more fault) → Tells so o → Tells more o
tells_more so more (Some fault) follows tells = follows fault tells
tells_more so more None follows tells = tt

-- where the faults of one are faults of another, an error tells that of the other too
pub fault_of : {A B E F : Type 0} (told : E → Option F) (due : Result A F) (whole : Result B F) (e : E) → ((fault : F) → due ≡ Err fault → whole ≡ Err fault)
    → IsFault told due e → IsFault told whole e
fault_of told due whole e follows tells = tells_more (λ fault. due ≡ Err fault) (λ fault. whole ≡ Err fault) (told e) follows tells

-- the same of all that comes
pub comes_more : {A E F : Type 0} (told : E → Option F) (good better : A → Type 0) (so more : F → Type 0) (r : Result A E) → ((a : A) → good a → better a)
    → ((fault : F) → so fault → more fault) → Comes told good so r → Comes told better more r
comes_more told good better so more (Ok a) follows also comes = follows a comes
comes_more told good better so more (Err e) follows also comes = tells_more so more (told e) also comes

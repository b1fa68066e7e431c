-- Words that fit no shape ask for nothing.
use Rattle.std.proofs.Common.{◌≡◌, List, [], ◌∷◌, length, None, String, refl}
use Rattle.std.specs.Prelude.{◌≢◌}
use Rattle.apt_core.specs.Words.{work_in, texts}

pub none_asked : {A : Type 0} (words : List (String A)) → length words ≢ 2 → length words ≢ 3 → length words ≢ 5 → length words ≢ 6 → None ≡ work_in (texts words)
none_asked [] two three five six = refl
none_asked (a ∷ []) two three five six = refl
none_asked (a ∷ b ∷ []) two three five six = absurd (two refl)
none_asked (a ∷ b ∷ c ∷ []) two three five six = absurd (three refl)
none_asked (a ∷ b ∷ c ∷ d ∷ []) two three five six = refl
none_asked (a ∷ b ∷ c ∷ d ∷ e ∷ []) two three five six = absurd (five refl)
none_asked (a ∷ b ∷ c ∷ d ∷ e ∷ f ∷ []) two three five six = absurd (six refl)
none_asked (a ∷ b ∷ c ∷ d ∷ e ∷ f ∷ g ∷ words) two three five six = refl

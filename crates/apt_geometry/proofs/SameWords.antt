-- Two words are one exactly where they are spelled alike.
use Rattle.std.proofs.Common.{◌≡◌, ◌↔◌, ◌∙◌, Bool, true, false, Some, refl, ap, sym, bytes_eq}
use Rattle.std.proofs.lemmas.Slice.Eq.{bytes_eq-Decides}
use Rattle.apt_words.specs.declared.word.Word.{Word}
use Rattle.apt_words.specs.Vocabulary.{spelling}
use Rattle.apt_words.proofs.Words.{spelled}

spelled_alike : (v w : Word) → spelling v ≡ spelling w → v ≡ w
spelled_alike v w e =
    let same : Some v ≡ Some w = sym ((spelled (spelling w) v).1 (sym e)) ∙ (spelled (spelling w) w).1 refl in
    cc

not_alike : (v w : Word) (b : Bool) → bytes_eq (spelling v) (spelling w) ≡ b → (false ≡ true → v ≡ w) → (v ≡ w → false ≡ true) → false ≡ b
not_alike v w false e some none = refl
not_alike v w true e some none = none (spelled_alike v w ((bytes_eq-Decides (spelling v) (spelling w)).0 e))

pub same_word : (v w : Word) (b : Bool) → ((b ≡ true) ↔ (v ≡ w)) → b ≡ bytes_eq (spelling v) (spelling w)
same_word v w true is = sym ((bytes_eq-Decides (spelling v) (spelling w)).1 (ap spelling (is.0 refl)))
same_word v w false is = not_alike v w (bytes_eq (spelling v) (spelling w)) refl is.0 is.1

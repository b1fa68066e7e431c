use Rattle.std.proofs.Common.{rules, ◌≡◌, [], ◌∷◌, ◌++◌, refl, SFits, w64}
use Rattle.std.proofs.lemmas.Int.{to_z-of_z}
use Rattle.apt_lexis.specs.declared.token.Token.TheVariants as tokens
use Rattle.apt_lexis.proofs.OneByOne.{word_more, word_bad, number_more, number_bad, mark_more}
use Rattle.apt_lexis.proofs.token.add_tokens.Goals as goal

pub tokens-preserved-in-Some-symbol_first : goal.tokens-preserved-in-Some-symbol_first
tokens-preserved-in-Some-symbol_first c =
    let first : c.tokens.rest.now ≡ c.in-Some.b.now ∷ c.in-Some.after.now = search rules in
    let letter = c.in-Letter.ensures.letter refl in
    let word = c.in-Some-symbol_first.ensures in
    record { read = rw c.in_ok-push_symbol-in-Some-symbol_first.ensures (word_more c.tokens.tokens.items c.tokens.rest.now c.in-Some.b.now c.in-Some.after.now _ _ _ first letter word.symbol word.capitals word.rest c.tokens.invariant.read) }

pub returns-in-None : goal.returns-in-None
returns-in-None c =
    let first : c.tokens.rest.now ≡ c.in-Some.b.now ∷ c.in-Some.after.now = search rules in
    let letter = c.in-Letter.ensures.letter refl in
    word_bad c.tokens.tokens.items c.tokens.rest.now c.in-Some.b.now c.in-Some.after.now _ first letter (c.in-None.ensures.none refl) c.tokens.invariant.read

pub tokens-preserved-in-Some-number_first : goal.tokens-preserved-in-Some-number_first
tokens-preserved-in-Some-number_first c =
    let first : c.tokens.rest.now ≡ c.in-Some.b.now ∷ c.in-Some.after.now = search rules in
    let begins = c.in-Number.ensures.number refl in
    let number = c.in-Some-number_first.ensures in
    let fits : SFits w64 c.in-Some-number_first.size = search rules in
    let pushed : c.push_token.new.tokens.items ≡ c.tokens.tokens.items ++ tokens.Number c.in-Some-number_first.size ∷ [] = simp (to_z-of_z, fits) at c.in_ok-push_token-in-Some-number_first.ensures in
    record { read = rw pushed (number_more c.tokens.tokens.items c.tokens.rest.now c.in-Some.b.now c.in-Some.after.now _ _ _ first begins.0 begins.1 number.value number.rest c.tokens.invariant.read) }

pub returns-in-None-number_first : goal.returns-in-None-number_first
returns-in-None-number_first c =
    let first : c.tokens.rest.now ≡ c.in-Some.b.now ∷ c.in-Some.after.now = search rules in
    let begins = c.in-Number.ensures.number refl in
    number_bad c.tokens.tokens.items c.tokens.rest.now c.in-Some.b.now c.in-Some.after.now _ first begins.0 begins.1 (c.in-None-number_first.ensures.none refl) c.tokens.invariant.read

pub tokens-preserved : goal.tokens-preserved
tokens-preserved c =
    let first : c.tokens.rest.now ≡ c.in-Some.b.now ∷ c.in-Some.after.now = search rules in
    let alone = c.in-Mark.ensures.mark refl in
    record { read = rw c.in_ok-push_token-in-Some-mark.ensures (mark_more c.tokens.tokens.items c.in-Some-mark.mark c.tokens.rest.now c.in-Some.b.now c.in-Some.after.now _ first alone.0 alone.1 c.in-Some-mark.ensures.some c.tokens.invariant.read) }

-- The arguments of a statement, one comma after another.
use Rattle.std.specs.Prelude.{◌≡◌, ℕ, ◌+◌, ◌-◌, ◌<◌, ◌≤◌, true, false, List, [], ◌∷◌, ◌++◌, length, take, drop, refl}
use Rattle.std.proofs.Common.{ap, sym, ◌∙◌, get_or, arith}
use Rattle.std.proofs.lemmas.List.{drop_more, take_more, take_all, length-drop}
use Rattle.std.proofs.Math.ListN.{drop_of_length-le}
use Rattle.apt_lexis.specs.declared.token.Token.{Token}
use Rattle.apt_lexis.specs.declared.token.Token.TheVariants as tokens
use Rattle.apt_geometry.specs.Arguments.{arguments, is_comma, in_front}

-- tokens before the first of some arguments
abbrev pub onto : List Token → List (List Token) → List (List Token)
onto [] args = args
onto (t ∷ ts) args = in_front t (onto ts args)

onto_empty : (before : List Token) (args : List (List Token)) → onto before ([] ∷ args) ≡ before ∷ args
onto_empty [] args = refl
onto_empty (t ∷ ts) args = ap (in_front t) (onto_empty ts args)

at_comma : (t : Token) (before ts : List Token) → is_comma t ≡ true → onto before (arguments (t ∷ ts)) ≡ before ∷ arguments ts
at_comma tokens.Comma before ts e = onto_empty before (arguments ts)
at_comma _ before ts e = absurd (grind arith)

one_more : (t : Token) (before : List Token) (args : List (List Token)) → onto before (in_front t args) ≡ onto (before ++ t ∷ []) args
one_more t [] args = refl
one_more t (b ∷ bs) args = ap (in_front b) (one_more t bs args)

no_comma : (t : Token) (ts : List Token) → is_comma t ≡ false → arguments (t ∷ ts) ≡ in_front t (arguments ts)
no_comma tokens.Comma ts e = absurd (grind arith)
no_comma _ ts e = refl

before_comma : (t : Token) (before ts : List Token) → is_comma t ≡ false → onto before (arguments (t ∷ ts)) ≡ onto (before ++ t ∷ []) (arguments ts)
before_comma t before ts e = ap (onto before) (no_comma t ts e) ∙ one_more t before (arguments ts)

-- ---- the tokens before a place and behind it

abbrev pub parts_from : List Token → ℕ → List (List Token)
parts_from ts i = onto (take i ts) (arguments (drop i ts))

pub one_token_on : (ts : List Token) (i : ℕ) (d : Token) → i < length ts → is_comma (get_or ts i d) ≡ false → parts_from ts (i + 1) ≡ parts_from ts i
one_token_on ts i d h e = rw (drop_more ts i d h, take_more ts i d h) (sym (before_comma (get_or ts i d) (take i ts) (drop (i + 1) ts) e))

pub comma_at : (ts : List Token) (i : ℕ) (d : Token) → i < length ts → is_comma (get_or ts i d) ≡ true → parts_from ts i ≡ take i ts ∷ arguments (take (length ts - (i + 1)) (drop (i + 1) ts))
comma_at ts i d h e =
    let all : take (length ts - (i + 1)) (drop (i + 1) ts) ≡ drop (i + 1) ts = take_all _ _ (omega (arith, length-drop (i + 1) ts)) in
    rw (all, drop_more ts i d h) (at_comma (get_or ts i d) (take i ts) (drop (i + 1) ts) e)

pub no_more : (ts : List Token) (i : ℕ) → length ts ≤ i → parts_from ts i ≡ ts ∷ []
no_more ts i h = rw (take_all i ts h, drop_of_length-le ts h) (onto_empty ts [])

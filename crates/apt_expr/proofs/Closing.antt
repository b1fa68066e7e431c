-- Lists of tokens that end in a closing parenthesis.
use Rattle.std.proofs.Common.{ℕ, zero, suc, ◌≡◌, ◌≢◌, ◌-◌, ◌<◌, List, [], ◌∷◌, ◌++◌, refl, ap, ◌∙◌, arith}
use Rattle.std.specs.Prelude.{Option, Some, None}
use Rattle.apt_words.specs.Options.{◌>>=◌}
use Rattle.apt_lexis.specs.declared.token.Token.{Token}
use Rattle.apt_lexis.specs.declared.token.Token.TheVariants as tokens
use Rattle.apt_expr.specs.Expressions.{inside, sum_by, factor_of}

-- the tokens before a last one
before : Token → List Token → Option (List Token)
before tokens.Close ts = Some ts
before _ ts = None

abbrev pub in_front : Token → Option (List Token) → Option (List Token)
in_front t found = found >>= λ more. Some (t ∷ more)

inside_one : (t : Token) → inside (t ∷ []) ≡ before t []
unfolding before
inside_one tokens.Close = refl
inside_one _ = refl

pub inside_more : (t u : Token) (ts : List Token) → inside (t ∷ u ∷ ts) ≡ in_front t (inside (u ∷ ts))
inside_more tokens.Close u ts = refl
inside_more _ u ts = refl

before_more : (t last : Token) (ts : List Token) → in_front t (before last ts) ≡ before last (t ∷ ts)
unfolding before
before_more t tokens.Close ts = refl
before_more t _ ts = refl

inside_ending : (ts : List Token) (last : Token) → inside (ts ++ last ∷ []) ≡ before last ts
inside_ending [] last = inside_one last
inside_ending (t ∷ []) last = inside_more t last [] ∙ ap (in_front t) (inside_one last) ∙ before_more t last []
inside_ending (t ∷ u ∷ ts) last = inside_more t u (ts ++ last ∷ []) ∙ ap (in_front t) (inside_ending (u ∷ ts) last) ∙ before_more t last (u ∷ ts)

before_other : (last : Token) (ts : List Token) → last ≢ tokens.Close → before last ts ≡ None
unfolding before
before_other tokens.Close ts h = absurd (h refl)
before_other _ ts h = refl

pub closed : (ts : List Token) → inside (ts ++ tokens.Close ∷ []) ≡ Some ts
unfolding before
closed ts = inside_ending ts tokens.Close

pub not_closed : (ts : List Token) (last : Token) → last ≢ tokens.Close → inside (ts ++ last ∷ []) ≡ None
not_closed ts last h = inside_ending ts last ∙ before_other last ts h

pub factor_of_open : (n : ℕ) (ts inner : List Token) → 0 < n → inside ts ≡ Some inner → factor_of n (tokens.Open ∷ ts) ≡ sum_by (factor_of (n - 1)) inner
factor_of_open zero ts inner h e = elim h [ ]
factor_of_open (suc n) ts inner h e =
    let less : suc n - 1 ≡ n = omega arith in
    rw (e, less) refl

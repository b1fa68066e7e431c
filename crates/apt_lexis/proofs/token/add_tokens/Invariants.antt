use Rattle.std.proofs.Common.{◌≡◌, length}
use Rattle.std.specs.Prelude.{Ok}
use Rattle.apt_lexis.specs.Sentences.{joined}
use Rattle.apt_lexis.specs.Tokens.{tokens_of}
use Rattle.apt_lexis.proofs.token.add_tokens.Given as goal

-- the tokens so far and those of what is left are those of the whole
abbrev pub invariant-tokens : goal.invariant-tokens
invariant-tokens l = record { read : joined (Ok l.tokens.items) (tokens_of l.rest) ≡ joined (Ok l.fn.tokens.items) (tokens_of l.fn.text) }

abbrev pub decreases-tokens : goal.decreases-tokens
decreases-tokens l = length l.rest

use Rattle.std.proofs.Common.{◌≡◌, true, false, sym, ◌∙◌, get_or}
use Rattle.apt_geometry.specs.Arguments.{is_comma}
use Rattle.apt_geometry.proofs.Parts.{one_token_on, comma_at, no_more}
use Rattle.apt_geometry.proofs.arguments.at_comma.Goals as goal

pub returns-then-is_comma-clause-parts : goal.returns-then-is_comma-clause-parts
returns-then-is_comma-clause-parts c =
    let t = c.index-tokens-n.result in
    let comma : is_comma (get_or c.args.tokens.now c.tokens.n t) ≡ true = cc in
    sym c.tokens.invariant.read ∙ comma_at c.args.tokens.now c.tokens.n t c.tokens-test.true comma

pub tokens-preserved : goal.tokens-preserved
tokens-preserved c =
    let t = c.index-tokens-n.result in
    let other : is_comma (get_or c.args.tokens.now c.tokens.n t) ≡ false = cc in
    record { read = one_token_on c.args.tokens.now c.tokens.n t c.tokens-test.true other ∙ c.tokens.invariant.read }

pub returns-clause-parts : goal.returns-clause-parts
returns-clause-parts c = sym c.tokens.invariant.read ∙ no_more c.args.tokens.now c.tokens.n c.tokens-test.false

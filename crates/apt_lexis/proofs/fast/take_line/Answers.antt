use Rattle.std.proofs.Common.{rules, ◌≡◌, false, [], None}
use Rattle.apt_lexis.specs.Sentences.{said_on, goes_on}
use Rattle.apt_lexis.specs.Titles.{may_be_titled}
use Rattle.apt_lexis.proofs.SentenceLaws.{taken_at_once}
use Rattle.apt_lexis.proofs.fast.take_line.Goals as goal

pub returns-then-not-may_be_titled-clause-behind : goal.returns-then-not-may_be_titled-clause-behind
returns-then-not-may_be_titled-clause-behind c =
    let none : c.args.begun.now ≡ None = search rules in
    let goes : c.args.line.now.goes_on ≡ goes_on c.args.line.now.text.now = search rules in
    let front : c.args.line.now.front.now ≡ said_on c.args.line.now.text.now = search rules in
    let empty : c.no_tokens-tokens.result.items ≡ [] = search rules in
    let well : c.in_ok-fault.fault ≡ None = search rules in
    let untitled : may_be_titled c.add_tokens.new.tokens.items ≡ false = search rules in
    taken_at_once c.args.begun.now c.args.number c.args.line.now.text.now c.args.line.now.front.now c.no_tokens-tokens.result.items c.add_tokens.new.tokens.items c.in_ok-fault.fault c.args.line.now.goes_on none goes front empty well c.in_ok-fault.ensures untitled

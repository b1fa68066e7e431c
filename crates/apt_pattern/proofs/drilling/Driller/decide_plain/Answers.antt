use Rattle.std.proofs.Common.{rules, ◌≡◌, subst}
use Rattle.std.proofs.lemmas.Result.{IfOk-weaker}
use Rattle.apt_words.specs.Asks.{Ask, Defines, ask_of}
use Rattle.apt_words.specs.declared.deed.Deed.{Deed}
use Rattle.apt_pattern.specs.Expansions.{defined, plain}
use Rattle.apt_pattern.specs.Taking.{IsDecided}
use Rattle.apt_pattern.specs.declared.drilling.Decision.{Decision}
use Rattle.apt_pattern.proofs.drilling.Driller.decide_plain.Goals as goal

pub returns-in-Defines : goal.returns-in-Defines
returns-in-Defines c =
    let asked : Defines c.in-Defines.name c.in-Defines.form ≡ ask_of c.args.deed.now = search rules in
    IfOk-weaker c.define.result (λ d. (deed : Deed) → IsDecided deed (defined c.args.self.now deed c.in-Defines.name c.in-Defines.form) d c.define.new.self)
    (λ d. IsDecided c.args.deed.now (plain c.args.self.now c.args.deed.now (ask_of c.args.deed.now)) d c.define.new.self)
    (λ (d : Decision) is. subst (λ (a : Ask). IsDecided c.args.deed.now (plain c.args.self.now c.args.deed.now a) d c.define.new.self) asked (is c.args.deed.now)) c.define.ensures

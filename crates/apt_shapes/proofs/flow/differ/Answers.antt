use Rattle.std.proofs.Common.{◌≡◌, false, true, suc, ap, sym, ◌∙◌, take, drop, bytes_eq}
use Rattle.std.specs.List.{list_any}
use Rattle.apt_shapes.specs.Flow.{differ, names_of}
use Rattle.apt_shapes.proofs.Differ.{twice, one_more_name, name_kept, name_found, names_around, names_with}
use Rattle.apt_shapes.proofs.flow.differ.Goals as goal

pub returns-then-not-branch : goal.returns-then-not-branch
returns-then-not-branch c =
    let found = name_found c.parameters.names.keys c.copied.result c.in_ok-insert.field-0 c.in_ok-insert.ensures.added c.if-not-branch.true in
    let before : list_any (bytes_eq c.param-item.result.0) (names_of (take c.parameters.param-index c.args.params.now)) ≡ true = cc in
    let around = names_around c.args.params.now c.parameters.param-index c.param-item.result c.parameters-test.true c.param-item.is in
    sym (ap differ around ∙ twice (names_of (take c.parameters.param-index c.args.params.now)) c.param-item.result.0 (names_of (drop (suc c.parameters.param-index) c.args.params.now)) before)

pub parameters-preserved : goal.parameters-preserved
parameters-preserved c =
    let kept = name_kept c.parameters.names.keys c.insert.new.self.keys c.copied.result c.in_ok-insert.field-0 c.in_ok-insert.ensures.keys c.in_ok-insert.ensures.added c.if-not-branch.false in
    let with_it = names_with c.args.params.now c.parameters.param-index c.param-item.result c.parameters-test.true c.param-item.is in
    let apart : list_any (bytes_eq c.param-item.result.0) (names_of (take c.parameters.param-index c.args.params.now)) ≡ false = cc in
    record {
      names = cc;
      differ = ap differ with_it ∙ one_more_name (names_of (take c.parameters.param-index c.args.params.now)) c.param-item.result.0 c.parameters.invariant.differ apart;
    }

use Rattle.std.proofs.Common.{◌≡◌, ◌++◌, map, length, take}
use Rattle.apt_report.specs.Acts.{arc_lines}
use Rattle.apt_report.proofs.acts.push_lines.Given as goal

abbrev pub invariant-acts : goal.invariant-acts
invariant-acts g l = record {
  text : l.text.items ≡ l.fn.text.items ++ arc_lines (map g.A.TapeAct.arc (take l.act-index l.acts));
  room : length l.room ≡ 192;
}

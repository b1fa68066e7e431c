use Rattle.std.proofs.Common.{◌≡◌, ◌+◌, ◌++◌, ◌∷◌, length, drop, ap, sym, ◌∙◌, arith, rules, append_assoc, length-append}
use Rattle.std.proofs.lemmas.List.{drop_more}
use Rattle.apt_report.specs.Listing.{record_lines, lines_from, point_count}
use Rattle.apt_report.proofs.PointCounts.{lines_at_least}
use Rattle.apt_report.proofs.points.listing_value.Goals as goal

pub overflow_add-points : goal.overflow_add-points
overflow_add-points c =
    let r = c.record-item.result in
    let d = c.decimals_in-decimals.result in
    let seq = c.records.seq + 1 in
    let grew = ap length c.in_ok-push_lines.ensures ∙ length-append c.records.text.items (record_lines d seq r) in
    omega (arith, grew, lines_at_least d seq r, c.record_count-points.ensures, c.push_lines.new.text.ok.0, c.push_lines.new.text.ok.1, c.push_lines.new.text.small)

pub records-preserved : goal.records-preserved
records-preserved c =
    let r = c.record-item.result in
    let d = c.decimals_in-decimals.result in
    let seq = c.records.seq + 1 in
    let text = c.records.text.items in
    let rest = drop (c.records.record-index + 1) c.args.records.now in
    let first : drop c.records.record-index c.args.records.now ≡ r ∷ rest =
    drop_more c.args.records.now c.records.record-index r (omega arith) ∙ ap (λ x. x ∷ rest) (sym c.record-item.is) in
    let grew = ap length c.in_ok-push_lines.ensures ∙ length-append text (record_lines d seq r) in
    record {
      text =
          ap (λ t. t ++ lines_from d (seq + 1) rest) c.in_ok-push_lines.ensures ∙ append_assoc text (record_lines d seq r) (lines_from d (seq + 1) rest)
          ∙ ap (λ rs. text ++ lines_from d seq rs) (sym first) ∙ c.records.invariant.text;
      seq = ap (λ n. n + 1) c.records.invariant.seq;
      points = omega (arith, ap point_count first, c.record_count-points.ensures, c.records.invariant.points);
      within = omega (arith, grew, lines_at_least d seq r, c.record_count-points.ensures, c.records.invariant.within);
      room = search rules;
    }

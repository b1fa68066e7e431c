use Rattle.std.proofs.Common.{◌≡◌, ◌+◌, ◌-◌, refl, ◌∙◌, arith, length-set}
use Rattle.std.proofs.lemmas.List.{drop-set}
use Rattle.apt_lines.proofs.Decimals.{one_digit_off, digits_more}
use Rattle.apt_lines.proofs.write_pointed.Goals as goal

pub decimals-preserved : goal.decimals-preserved
decimals-preserved c =
    let l = c.decimals in
    let e : l.at - 1 + 1 ≡ l.at = omega arith in
    record {
      left = rw l.invariant.left (one_digit_off c.args.n l.i);
      at = omega arith;
      written = rw (drop-set l.room (l.at - 1) _ (omega arith), e, l.invariant.written, l.invariant.left, digits_more c.args.n l.i) refl;
      room = length-set _ _ _ ∙ l.invariant.room;
    }

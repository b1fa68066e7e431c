use Rattle.std.proofs.Common.{rules, ◌≡◌, ◌+◌, drop, length, Err, true, false, sym, ◌∙◌, subst}
use Rattle.std.proofs.lemmas.List.{take_rest}
use Rattle.apt_records.specs.Lists.{is_fini}
use Rattle.apt_clreader.specs.declared.state.Part.TheVariants as parts
use Rattle.apt_clreader.specs.Steps.{IsFirst, IsNext}
use Rattle.apt_clreader.proofs.FirstLaws.{next_goes}
use Rattle.apt_clreader.proofs.StepLaws.{takes_more, takes_last, few_one, there_one, ranges_one, agree_fails, first_fails}
use Rattle.apt_clreader.proofs.reader.take_records.Goals as goal

pub returns-in-Err-2-clause-taken : goal.returns-in-Err-2-clause-taken
returns-in-Err-2-clause-taken c =
    let rs = c.records.records.items in
    let rest = drop c.records.taken c.args.bytes.now in
    let place = c.args.at + c.records.taken in
    let e = c.in-Err.error in
    let count : c.len.result ≡ length rs = search rules in
    let next : IsNext (length rs + 1) place rest (Err e)
    = subst (λ n. IsNext (n + 1) place rest (Err e)) count (subst (λ b. IsNext (c.len.result + 1) place b (Err e)) (take_rest c.args.bytes.now c.records.taken) c.in-Err.ensures) in
    let fails = next_goes (length rs + 1) place rest e next (sym c.tells_end.ensures ∙ c.if-tells_end.false) in
    agree_fails parts.Records parts.Records c.args.records.now.items rs c.args.at place c.args.bytes.now rest e c.records.invariant.same (first_fails rs place rest e fails)

pub returns-then-is_last-clause-taken : goal.returns-then-is_last-clause-taken
returns-then-is_last-clause-taken c =
    let rs = c.records.records.items in
    let rest = drop c.records.taken c.args.bytes.now in
    let place = c.args.at + c.records.taken in
    let count : c.len.result ≡ length rs = search rules in
    let first : IsFirst (length rs + 1) place rest c.in-Ok.record c.in-Ok.size
    = subst (λ n. IsFirst (n + 1) place rest c.in-Ok.record c.in-Ok.size) count
    (subst (λ b. IsFirst (c.len.result + 1) place b c.in-Ok.record c.in-Ok.size) (take_rest c.args.bytes.now c.records.taken) c.in-Ok.ensures) in
    let fini : is_fini c.in-Ok.record ≡ true = sym c.is_fini-is_last.ensures ∙ c.if-is_last.true in
    rw (c.in_ok-push-in-Ok.ensures.items)
    (takes_last c.args.records.now.items rs c.args.at c.records.taken c.args.bytes.now c.in-Ok.record c.in-Ok.size c.records.invariant.same first fini)

pub returns-then-is_last-clause-ranges : goal.returns-then-is_last-clause-ranges
returns-then-is_last-clause-ranges c =
    let rs = c.records.records.items in
    let rest = drop c.records.taken c.args.bytes.now in
    let place = c.args.at + c.records.taken in
    let count : c.len.result ≡ length rs = search rules in
    let first : IsFirst (length rs + 1) place rest c.in-Ok.record c.in-Ok.size
    = subst (λ n. IsFirst (n + 1) place rest c.in-Ok.record c.in-Ok.size) count
    (subst (λ b. IsFirst (c.len.result + 1) place b c.in-Ok.record c.in-Ok.size) (take_rest c.args.bytes.now c.records.taken) c.in-Ok.ensures) in
    rw (c.in_ok-push-in-Ok.ensures.items) (ranges_one rs c.in-Ok.record c.records.invariant.ranges first.ranges)

pub returns-then-is_last-clause-few : goal.returns-then-is_last-clause-few
returns-then-is_last-clause-few c =
    let rs = c.records.records.items in
    let rest = drop c.records.taken c.args.bytes.now in
    let place = c.args.at + c.records.taken in
    let count : c.len.result ≡ length rs = search rules in
    let first : IsFirst (length rs + 1) place rest c.in-Ok.record c.in-Ok.size
    = subst (λ n. IsFirst (n + 1) place rest c.in-Ok.record c.in-Ok.size) count
    (subst (λ b. IsFirst (c.len.result + 1) place b c.in-Ok.record c.in-Ok.size) (take_rest c.args.bytes.now c.records.taken) c.in-Ok.ensures) in
    rw (c.in_ok-push-in-Ok.ensures.items) (few_one rs c.args.at c.records.taken c.in-Ok.record c.in-Ok.size c.records.invariant.few first.long)

pub records-preserved : goal.records-preserved
records-preserved c =
    let rs = c.records.records.items in
    let rest = drop c.records.taken c.args.bytes.now in
    let place = c.args.at + c.records.taken in
    let count : c.len.result ≡ length rs = search rules in
    let first : IsFirst (length rs + 1) place rest c.in-Ok.record c.in-Ok.size
    = subst (λ n. IsFirst (n + 1) place rest c.in-Ok.record c.in-Ok.size) count
    (subst (λ b. IsFirst (c.len.result + 1) place b c.in-Ok.record c.in-Ok.size) (take_rest c.args.bytes.now c.records.taken) c.in-Ok.ensures) in
    let fini : is_fini c.in-Ok.record ≡ false = sym c.is_fini-is_last.ensures ∙ c.if-is_last.false in
    record {
      same = rw (c.in_ok-push-in-Ok.ensures.items)
          (takes_more c.args.records.now.items rs c.args.at c.records.taken c.args.bytes.now c.in-Ok.record c.in-Ok.size c.records.invariant.same first fini);
      there = there_one c.args.bytes.now c.records.taken c.in-Ok.size c.records.invariant.there first.there;
      ranges = rw (c.in_ok-push-in-Ok.ensures.items) (ranges_one rs c.in-Ok.record c.records.invariant.ranges first.ranges);
      few = rw (c.in_ok-push-in-Ok.ensures.items) (few_one rs c.args.at c.records.taken c.in-Ok.record c.in-Ok.size c.records.invariant.few first.long);
    }

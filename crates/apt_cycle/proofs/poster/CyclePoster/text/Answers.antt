use Rattle.std.proofs.Common.{◌∙◌, ◌++◌, drop, take, sym, subst}
use Rattle.apt_post.specs.Posting.{Posting}
use Rattle.apt_cycle.specs.CycleTape.{text_left, next_block, behind_next}
use Rattle.apt_cycle.specs.Writable.{IsReadAs}
use Rattle.apt_cycle.proofs.BlockByBlock.{text_next}
use Rattle.apt_cycle.proofs.NextRead.{next_reads}
use Rattle.apt_cycle.proofs.poster.CyclePoster.text.Goals as goal

pub returns-clause-left : goal.returns-clause-left
returns-clause-left c =
    let acts = c.args.acts.now in
    text_next c.args.self.now acts c.requires.some
    ∙ λ i. sym c.next_text.ensures.block i ++ text_left (sym c.next_text.ensures.next i) (drop (sym c.next_text.ensures.count i) acts)

pub returns-clause-read : goal.returns-clause-read
returns-clause-read c = λ circles known kept taken.
    let p = c.args.self.now in
    let acts = c.args.acts.now in
    subst (λ (q : Posting). IsReadAs circles p.held (next_block p acts) q.held (take c.next_text.result.0 acts)) (sym c.next_text.ensures.next)
    (subst (λ n. IsReadAs circles p.held (next_block p acts) (behind_next p acts).held (take n acts)) (sym c.next_text.ensures.count) (next_reads p acts circles c.next_text.ensures.few c.requires.some c.requires.can known kept taken))

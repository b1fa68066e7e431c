use Rattle.std.proofs.Common.{sym, subst}
use Rattle.apt_post.specs.Posting.{Posting}
use Rattle.apt_circular.specs.ArcTape.{IsReadAs}
use Rattle.apt_circular.specs.ArcPosting.{next_block}
use Rattle.apt_circular.proofs.Meaning.{next_reads, next_IsBlock}
use Rattle.apt_circular.proofs.poster.ArcPoster.text.Goals as goal

pub returns-clause-is : goal.returns-clause-is
returns-clause-is c = next_IsBlock c.args.self.now c.args.a.now c.next_text.ensures.few c.requires

pub returns-clause-read : goal.returns-clause-read
returns-clause-read c known =
    let p = c.args.self.now in
    let act = c.args.a.now in
    subst (λ (q : Posting). IsReadAs p.held (next_block p act) q.held act) (sym c.next_text.ensures.next) (next_reads p act c.next_text.ensures.few known c.requires)

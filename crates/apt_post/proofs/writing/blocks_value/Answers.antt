use Rattle.std.proofs.Common.{◌∙◌, ◌++◌, [], ◌∷◌, ap}
use Rattle.apt_post.proofs.Posting.{step_blocks, step_stands, member_CanWrite}
use Rattle.apt_post.proofs.writing.blocks_value.Goals as goal

pub acts-preserved : goal.acts-preserved
acts-preserved c =
    let all = c.args.acts.now in
    let i = c.acts.act-index in
    let so_far = c.acts.invariant in record {
      blocks = c.in_ok-push.ensures.items
          ∙ ap (λ b. c.acts.blocks.items ++ b ∷ []) c.block.ensures.block
          ∙ step_blocks c.args.m.now all i _ c.acts.poster c.acts.blocks.items c.acts-test.true so_far.stands so_far.blocks;
      stands = c.block.ensures.next ∙ step_stands c.args.m.now all i _ c.acts.poster c.acts-test.true so_far.stands;
    }

pub block-requires : goal.block-requires
block-requires c = member_CanWrite c.args.acts.now c.requires c.acts.act-index _ c.acts-test.true

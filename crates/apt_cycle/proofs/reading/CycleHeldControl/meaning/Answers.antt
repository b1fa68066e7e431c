use Rattle.std.proofs.Common.{None, Some, Ok, sym, ◌∙◌, ap}
use Rattle.apt_control.specs.Control.{said_of}
use Rattle.apt_cycle.specs.CycleBlocks.{cycle_acts}
use Rattle.apt_cycle.proofs.Saying.{kept, means_unless}
use Rattle.apt_cycle.proofs.reading.CycleHeldControl.meaning.Goals as goal

pub returns-in_err-push_block-clause-held : goal.returns-in_err-push_block-clause-held
returns-in_err-push_block-clause-held c =
    kept c.args.self.now c.take-block.new.self c.args.letters.now c.args.at c.args.words.now c.block_fault.result c.requires.held c.take-block.ensures.short c.take-block.ensures.held
    (c.block_fault.ensures c.args.self.now c.take-block.ensures.held c.take-block.ensures.said) c.in_default.is

pub returns-clause-held : goal.returns-clause-held
returns-clause-held c =
    kept c.args.self.now c.take-block.new.self c.args.letters.now c.args.at c.args.words.now c.block_fault.result c.requires.held c.take-block.ensures.short c.take-block.ensures.held
    (c.block_fault.ensures c.args.self.now c.take-block.ensures.held c.take-block.ensures.said) c.in_default.is

pub returns-clause-means : goal.returns-clause-means
returns-clause-means c =
    let h = c.args.self.now in
    let now = c.take-block.new.self in
    let letters = c.args.letters.now in
    let words = c.args.words.now in
    let said = said_of words in
    let is = c.take-block.ensures.said in
    let done = cycle_acts h now said in
    let ends = c.has_code.ensures said is.said in (
      done,
      c.in_ok-push_block.ensures h said c.take-block.ensures.held is,
      means_unless h now letters c.args.at words None c.take-block.ensures.held (sym c.in_default.is ∙ c.block_fault.ensures h c.take-block.ensures.held is)
          ∙ ap (λ ends. Ok (record { held = now; acts = done; ends = ends })) (sym ends),
    )

pub returns-in-Some-clause-means : goal.returns-in-Some-clause-means
returns-in-Some-clause-means c =
    let h = c.args.self.now in
    rw c.into.ensures
    (means_unless h c.take-block.new.self c.args.letters.now c.args.at c.args.words.now (Some c.in-Some.fault) c.take-block.ensures.held (sym c.in-Some.is ∙ c.block_fault.ensures h c.take-block.ensures.held c.take-block.ensures.said))

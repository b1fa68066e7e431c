use Rattle.std.proofs.Common.{◌≡◌, None, Ok, Err, sym, ◌∙◌, subst}
use Rattle.apt_control.specs.Control.{said_of, with_said}
use Rattle.apt_circular.specs.ArcBlocks.{round_acts, arc_meaning}
use Rattle.apt_control.specs.Limits.{IsHeld}
use Rattle.apt_circular.proofs.Instructions.{kept, means_unless, means_fault}
use Rattle.apt_circular.proofs.reading.ArcHeldControl.meaning.Goals as goal

pub returns-in_err-push_acts-clause-held : goal.returns-in_err-push_acts-clause-held
returns-in_err-push_acts-clause-held c =
    kept c.self.inside.held c.taken_by-block.new.held c.args.letters.now c.args.at c.args.words.now c.block_fault.result (subst IsHeld (sym c.self.view_is) c.requires.held) c.taken_by-block.ensures.held (c.block_fault.ensures c.self.inside.held c.taken_by-block.ensures.said) c.in_default.is

pub returns-clause-held : goal.returns-clause-held
returns-clause-held c =
    kept c.self.inside.held c.taken_by-block.new.held c.args.letters.now c.args.at c.args.words.now c.block_fault.result (subst IsHeld (sym c.self.view_is) c.requires.held) c.taken_by-block.ensures.held (c.block_fault.ensures c.self.inside.held c.taken_by-block.ensures.said) c.in_default.is

pub returns-clause-means : goal.returns-clause-means
returns-clause-means c =
    let held = c.self.inside.held in
    let letters = c.args.letters.now in
    let words = c.args.words.now in
    let said = said_of words in
    let is = c.taken_by-block.ensures.said in
    let done = round_acts held (with_said held said) said in
    let ends = c.has_code.ensures said is.said in (
      done,
      c.in_ok-push_acts.ensures held said is,
      subst (λ h. arc_meaning h letters c.args.at words ≡ Ok (record { held = c.taken_by-block.new.held; acts = done; ends = c.has_code.result })) c.self.view_is
          (means_unless held letters c.args.at words None (sym c.in_default.is ∙ c.block_fault.ensures held is) ∙ λ i. Ok (record { held = sym c.taken_by-block.ensures.held i; acts = done; ends = sym ends i })),
    )

pub returns-in-Some-clause-means : goal.returns-in-Some-clause-means
returns-in-Some-clause-means c =
    let held = c.self.inside.held in
    let letters = c.args.letters.now in
    let words = c.args.words.now in
    rw c.into.ensures
    (subst (λ h. arc_meaning h letters c.args.at words ≡ Err c.in-Some.fault) c.self.view_is (means_fault held letters c.args.at words c.in-Some.fault (sym c.in-Some.is ∙ c.block_fault.ensures held c.taken_by-block.ensures.said)))

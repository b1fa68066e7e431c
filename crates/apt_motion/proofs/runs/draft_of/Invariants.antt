use Rattle.std.proofs.Common.{◌≡◌, drop}
use Rattle.apt_words.specs.Sources.{AreExecuted}
use Rattle.apt_scalar.specs.StepScalars.{AreScalars}
use Rattle.apt_meaning.specs.Situations.{first_situation}
use Rattle.apt_meaning.specs.Ranges.{IsSituation}
use Rattle.apt_motion.specs.Drafts.{behind, draft_from, HasRoom}
use Rattle.apt_motion.proofs.runs.draft_of.Given as goal

abbrev pub invariant-steps : goal.invariant-steps
invariant-steps l =
    record {
      so_far : behind l.draft.records.items l.draft.rounds.items (draft_from l.here (drop l.st-index l.steps)) ≡ draft_from first_situation l.fn.steps;
      room : HasRoom l.draft.records.items l.draft.room;
      situation : IsSituation l.here;
      scalars : AreScalars (drop l.st-index l.steps);
      sources : AreExecuted (drop l.st-index l.steps);
    }

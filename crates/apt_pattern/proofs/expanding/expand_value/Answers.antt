use Rattle.std.proofs.Common.{◌≡◌, ◌∷◌, List, subst}
use Rattle.apt_words.specs.declared.deed.Step.{Step}
use Rattle.apt_unroll.specs.Trace.{behind as with_front}
use Rattle.apt_pattern.specs.Expansions.{expanded_from, expansion, outcome}
use Rattle.apt_scalar.specs.StepScalars.{AreScalars, AreDrillScalars}
use Rattle.apt_pattern.specs.Taking.{IsTaken}
use Rattle.apt_pattern.specs.declared.expanding.Taken.{Taken}
use Rattle.apt_pattern.proofs.Deciding.{all_taken}
use Rattle.apt_pattern.proofs.expanding.expand_value.Goals as goal

pub steps-preserved : goal.steps-preserved
steps-preserved c =
    let split : c.steps.left.items ≡ c.in-Some.st ∷ c.pop_front.new.self.items = c.in-Some.ensures.items in
    record {
      so_far = all_taken c.in-Some.st c.pop_front.new.self.items c.u.inside.fault c.steps.driller c.take.new.d c.steps.plain.items c.take.new.steps.items (expansion c.args.u.steps c.args.u.fault)
          (subst (λ (t : Taken). IsTaken c.in-Some.st c.steps.plain.items c.take.new.steps.items (outcome c.steps.driller c.in-Some.st.deed) t c.take.new.d) c.in-On.is c.in_ok-take.ensures)
          (subst (λ (xs : List Step). with_front c.steps.plain.items (expanded_from c.steps.driller xs c.u.inside.fault) ≡ expansion c.args.u.steps c.args.u.fault) split c.steps.invariant.so_far);
      scalars = (subst AreScalars split c.steps.invariant.scalars).1;
      drills = (subst AreDrillScalars split c.steps.invariant.drills).1;
    }

use Rattle.std.proofs.Common.{◌≡◌, ◌∙◌, ◌∷◌, ◌+◌, drop, ap, sym, subst}
use Rattle.std.proofs.lemmas.List.{drop_more}
use Rattle.apt_words.specs.Sources.{AreExecuted}
use Rattle.apt_scalar.specs.StepScalars.{AreScalars}
use Rattle.apt_meaning.specs.Situations.{first_situation}
use Rattle.apt_meaning.specs.Ranges.{IsSituation}
use Rattle.apt_meaning.specs.Compiled.{first_refused}
use Rattle.apt_motion.proofs.Walks.{passes_on, fit}
use Rattle.apt_motion.proofs.runs.ends.Goals as goal

pub steps-preserved : goal.steps-preserved
steps-preserved c =
    let xs = c.args.steps.now in
    let i = c.steps.st-index in
    let st = c.st-item.result in
    let here = c.steps.here in
    let rest : drop i xs ≡ st ∷ drop (i + 1) xs = drop_more xs i st c.steps-test.true ∙ ap (λ x. x ∷ drop (i + 1) xs) (sym c.st-item.is) in
    let so_far = subst (λ ss. first_refused here ss ≡ first_refused first_situation xs) rest c.steps.invariant.so_far in
    let scalars = subst AreScalars rest c.steps.invariant.scalars in
    let sources = subst AreExecuted rest c.steps.invariant.sources in
    let e = c.in-Ok.ensures.0 in
    let done = c.in-Ok.ensures.1 in
    record {
      so_far = rw done.after (passes_on here st (drop (i + 1) xs) e (first_refused first_situation xs) done.asks so_far);
      situation = subst IsSituation (sym done.after) (fit here st.deed e c.steps.invariant.situation scalars.0 sources.0.text done.asks);
      scalars = scalars.1;
      sources = sources.1;
    }

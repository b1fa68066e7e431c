-- Acts that are one.
use Rattle.std.proofs.Common.{◌≡◌, ap, ◌∙◌, sym}
use Rattle.std.specs.Prelude.{◌↔◌}
use Rattle.apt_control.specs.declared.Act.{Act}
use Rattle.apt_circular.specs.declared.ArcAct.{ArcAct}
use Rattle.apt_circular.specs.declared.ArcAct.TheVariants.{Plain}

pub plain_same : (P : Type 0) (a b : Act) (x y : ArcAct) → x ≡ Plain a → y ≡ Plain b → (P ↔ (a ≡ b)) → P ↔ (x ≡ y)
plain_same P a b x y e f iff = (λ p. e ∙ ap Plain (iff.0 p) ∙ sym f, λ same. iff.1 (let both : Plain a ≡ Plain b = sym e ∙ same ∙ f in cc))

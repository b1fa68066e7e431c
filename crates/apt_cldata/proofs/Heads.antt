-- Where a head is cut short.
use Rattle.std.proofs.Common.{◌≡◌, ℕ, ◌≤◌, ◌<◌, List, [], ◌∷◌, length, drop, Err, refl, ap, ◌∙◌, arith}
use Rattle.std.proofs.lemmas.List.{nil_from_length, length-drop}
use Rattle.apt_cldata.specs.declared.error.ClCause.TheVariants as causes
use Rattle.apt_cldata.specs.Reading.{fault, behind_head}

no_more : (at : ℕ) (hs : List ℕ) → 0 < length hs → behind_head at hs [] ≡ Err (fault at causes.Truncated)
no_more at [] some = absurd (omega arith)
no_more at (h ∷ hs) some = refl

pub head_cut_short : (at i : ℕ) (due bytes : List ℕ) → i < length due → length bytes ≤ i → behind_head at (drop i due) (drop i bytes) ≡ Err (fault at causes.Truncated)
head_cut_short at i due bytes some short =
    ap (behind_head at (drop i due)) (nil_from_length (drop i bytes) (omega (arith, length-drop i bytes))) ∙ no_more at (drop i due) (omega (arith, length-drop i due))

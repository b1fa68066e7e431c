-- Names that stand apart.
use Rattle.std.proofs.Common.{◌≡◌, ◌&&◌, ℕ, Bool, true, false, not, List, refl, ap, sym, ◌∙◌}
use Rattle.std.specs.Prelude.{◌≢◌}
use Rattle.std.proofs.lemmas.Bool.{true≢false}
use Rattle.std.proofs.lemmas.Slice.Eq.{bytes_eq-Decides}
use Rattle.apt_core.specs.Words.{FourNames, differ, are_apart}

third : (a b c d e : Bool) → (a && b && c && d && e) ≡ true → c ≡ true
third true true true d e h = refl
third true true false d e h = h
third true false c d e h = absurd (true≢false (sym h))
third false b c d e h = absurd (true≢false (sym h))

pub differs : (a b : List ℕ) → differ a b ≡ true → a ≢ b
differs a b h e = true≢false (sym h ∙ ap not ((bytes_eq-Decides a b).1 e))

pub outputs_differ : (n : FourNames) → are_apart n ≡ true → n.cl ≢ n.tape
outputs_differ n h = differs n.cl n.tape (third (differ n.cl n.part) (differ n.cl n.machine) (differ n.cl n.tape) (differ n.tape n.part) (differ n.tape n.machine) h)

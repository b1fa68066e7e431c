-- The patterns of names are in range.
use Rattle.std.proofs.Common.{ℕ, nat_eq, List, [], ◌∷◌, Bool, true, false, Option, Some, cond}
use Rattle.std.specs.Prelude.{IfSome}
use Rattle.std.specs.Map.{lookup}
use Rattle.std.specs.Cmp.Lexicographic.{pointwise}
use Rattle.indexmap.specs.IndexMap.{insert_entry}
use Rattle.apt_pattern.specs.declared.pattern.Pattern.{Pattern}
use Rattle.apt_pattern.specs.Expansions.{Patterns, pattern_named}
use Rattle.apt_pattern.specs.Ranges.{IsPattern, ArePatterns}

either : (b : Bool) (p : Pattern) (rest : Option Pattern) → IsPattern p → IfSome rest IsPattern → IfSome (cond b (Some p) rest) IsPattern
either true p rest is later = is
either false p rest is later = later

found : (patterns : Patterns) (test : List ℕ → Bool) → ArePatterns patterns → IfSome (lookup test patterns) IsPattern
found [] test are = tt
found (e ∷ es) test are = either (test e.0) e.1 (lookup test es) are.0 (found es test are.1)

pub looked_up : (patterns : Patterns) (name : List ℕ) → ArePatterns patterns → IfSome (pattern_named patterns name) IsPattern
looked_up patterns name are = found patterns (pointwise nat_eq name) are

either_patterns : (b : Bool) (x y : Patterns) → ArePatterns x → ArePatterns y → ArePatterns (cond b x y)
either_patterns true x y p q = p
either_patterns false x y p q = q

pub still_patterns : (patterns : Patterns) (name : List ℕ) (p : Pattern) → ArePatterns patterns → IsPattern p → ArePatterns (insert_entry (pointwise nat_eq) patterns name p)
still_patterns [] name p are is = (is, tt)
still_patterns (e ∷ es) name p are is =
    either_patterns (pointwise nat_eq name e.0) ((e.0, p) ∷ es) (e ∷ insert_entry (pointwise nat_eq) es name p) (is, are.1) (are.0, still_patterns es name p are.1 is)

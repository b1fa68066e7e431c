-- What names stand for after one is given a figure.
use Rattle.std.proofs.Common.{◌≡◌, ◌≢◌, ℕ, nat_eq, Bool, true, false, List, [], ◌∷◌, Some, refl, sym, ap, ◌∙◌, cond, arith}
use Rattle.std.specs.Cmp.Lexicographic.{pointwise, nat_list_eq_equiv, same_text}
use Rattle.apt_defs.specs.declared.figure.Figure.{Figure}
use Rattle.apt_defs.specs.Figures.{Table, figure_named, table_with}

apart : (a b : List ℕ) → a ≢ b → pointwise nat_eq a b ≡ false
apart a b h = by (pointwise nat_eq a b) refl
  where
    by : (r : Bool) → pointwise nat_eq a b ≡ r → pointwise nat_eq a b ≡ false
    by true e = absurd (h (same_text a b (sym e)))
    by false e = e

pub given : (table : Table) (name : List ℕ) (f : Figure) → figure_named (table_with table name f) name ≡ Some f
given [] name f = rw (nat_list_eq_equiv.refl name) refl
given (e ∷ table) name f = grind (arith, given table name f)

-- one entry, by whether it has the name that is given a figure
others_at : (e : List ℕ × Figure) (table : Table) (name : List ℕ) (f : Figure) (other : List ℕ) → other ≢ name
    → figure_named (table_with table name f) other ≡ figure_named table other
    → (r : Bool) → pointwise nat_eq name e.0 ≡ r
    → figure_named (table_with (e ∷ table) name f) other ≡ figure_named (e ∷ table) other
others_at e table name f other h rest true told = rw (told, apart other e.0 (λ same. h (same ∙ sym (same_text name e.0 (sym told))))) refl
others_at e table name f other h rest false told = rw told (ap (λ found. cond (pointwise nat_eq other e.0) (Some e.1) found) rest)

pub others : (table : Table) (name : List ℕ) (f : Figure) (other : List ℕ) → other ≢ name → figure_named (table_with table name f) other ≡ figure_named table other
others [] name f other h = rw (apart other name h) refl
others (e ∷ table) name f other h = others_at e table name f other h (others table name f other h) (pointwise nat_eq name e.0) refl

-- What names mean after one is given a meaning.
use Rattle.std.proofs.Common.{◌≡◌, ◌≢◌, ℕ, nat_eq, Bool, true, false, List, [], ◌∷◌, Option, Some, None, refl, sym, ap, ◌∙◌, cond, arith}
use Rattle.std.specs.Cmp.Lexicographic.{pointwise, nat_list_eq_equiv, same_text}
use Rattle.std.specs.Map.{keys_of}
use Rattle.indexmap.specs.IndexMap.{insert_entry}
use Rattle.apt_scalar.specs.declared.names.Value.{Value}
use Rattle.apt_scalar.specs.Meanings.{Names, meaning, with_entry, names_with, IsBound}

-- names that differ are told apart
apart : (a b : List ℕ) → a ≢ b → pointwise nat_eq a b ≡ false
apart a b h = by (pointwise nat_eq a b) refl
  where
    by : (r : Bool) → pointwise nat_eq a b ≡ r → pointwise nat_eq a b ≡ false
    by true e = absurd (h (same_text a b (sym e)))
    by false e = e

given : (names : Names) (name : List ℕ) (v : Value) → meaning (insert_entry (pointwise nat_eq) names name v) name ≡ Some v
given [] name v = rw (nat_list_eq_equiv.refl name) refl
given (e ∷ names) name v = grind (arith, given names name v)

-- one entry, by whether it has the name that is given a value
others_at : (e : List ℕ × Value) (names : Names) (name : List ℕ) (v : Value) (other : List ℕ) → other ≢ name
    → meaning (insert_entry (pointwise nat_eq) names name v) other ≡ meaning names other
    → (r : Bool) → pointwise nat_eq name e.0 ≡ r
    → meaning (insert_entry (pointwise nat_eq) (e ∷ names) name v) other ≡ meaning (e ∷ names) other
others_at e names name v other h rest true told = rw (told, apart other e.0 (λ same. h (same ∙ sym (same_text name e.0 (sym told))))) refl
others_at e names name v other h rest false told = rw told (ap (λ found. cond (pointwise nat_eq other e.0) (Some e.1) found) rest)

others : (names : Names) (name : List ℕ) (v : Value) (other : List ℕ) → other ≢ name → meaning (insert_entry (pointwise nat_eq) names name v) other ≡ meaning names other
others [] name v other h = rw (apart other name h) refl
others (e ∷ names) name v other h = others_at e names name v other h (others names name v other h) (pointwise nat_eq name e.0) refl

behind : (first : List ℕ) (names : List (List ℕ)) (name : List ℕ) (before : Option Value) → first ∷ names_with names name before ≡ names_with (first ∷ names) name before
behind first names name None = refl
behind first names name (Some v) = refl

order_at : (e : List ℕ × Value) (names : Names) (name : List ℕ) (v : Value)
    → keys_of (insert_entry (pointwise nat_eq) names name v) ≡ names_with (keys_of names) name (meaning names name)
    → (r : Bool) → pointwise nat_eq name e.0 ≡ r
    → keys_of (insert_entry (pointwise nat_eq) (e ∷ names) name v) ≡ names_with (keys_of (e ∷ names)) name (meaning (e ∷ names) name)
order_at e names name v rest true told = rw told refl
order_at e names name v rest false told = rw told (ap (λ after. e.0 ∷ after) rest ∙ behind e.0 (keys_of names) name (meaning names name))

order : (names : Names) (name : List ℕ) (v : Value) → keys_of (insert_entry (pointwise nat_eq) names name v) ≡ names_with (keys_of names) name (meaning names name)
order [] name v = refl
order (e ∷ names) name v = order_at e names name v (order names name v) (pointwise nat_eq name e.0) refl

pub is_bound : (before : Names) (name : List ℕ) (v : Value) (now : Names) → now ≡ with_entry before name v → IsBound before name v now
is_bound before name v now e = rw e record {
  given = given before name v;
  others = others before name v;
  order = order before name v;
}

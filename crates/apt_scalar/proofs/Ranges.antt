-- The value of an expression is a scalar.
use Rattle.std.proofs.Common.{ℕ, zero, suc, ◌+◌, ◌-◌, ◌*◌, ◌^◌, ◌≤◌, Option, Some, None, Result, Ok, Err, arith, inl, inr}
use Rattle.std.specs.Prelude.{ℤ, pos, negsuc, neg_ℤ, ◌+ℤ◌, ◌-ℤ◌, ◌*ℤ◌, unsigned_abs, List, IfOk}
use Rattle.std.proofs.lemmas.Int.{ints}
use Rattle.std.proofs.lemmas.Bool.Decides.{leb_tells}
use Rattle.apt_num.specs.Near.{near}
use Rattle.apt_num.specs.Root.{root, root_near}
use Rattle.apt_num.proofs.RootLaws.{root-IsRoot}
use Rattle.apt_num.proofs.Squares.{root_le}
use Rattle.apt_words.specs.Chains.{◌>>=◌}
use Rattle.apt_words.specs.Trees.{Tree, Num, Name, Neg, Bin, Root, Abs}
use Rattle.apt_words.specs.declared.Case.{Case}
use Rattle.apt_words.specs.declared.expr.Op.{Op}
use Rattle.apt_words.specs.declared.expr.Op.TheVariants as ops
use Rattle.apt_scalar.specs.declared.names.Value.{Value}
use Rattle.apt_scalar.specs.declared.names.Value.TheVariants as values
use Rattle.apt_scalar.specs.declared.names.Bound.{Bound}
use Rattle.apt_scalar.specs.declared.names.Bound.TheVariants as bounds
use Rattle.apt_scalar.specs.Scalars.{one, greatest, IsScalar, in_range, quotient, square_root, apply}
use Rattle.apt_scalar.specs.Meanings.{Names, Parameters, meaning, scalar_in, scalar_of}
use Rattle.apt_scalar.specs.Evaluation.{value_of}

-- what holds of a result and then of what follows
pub then_ok : {A B : Type 0} (P : A → Type 0) (Q : B → Type 0) (r : Result A Case) (f : A → Result B Case)
    → IfOk r P → ((a : A) → P a → IfOk (f a) Q) → IfOk (r >>= f) Q
then_ok P Q (Ok a) f h more = more a h
then_ok P Q (Err case) f h more = tt

in_range-scalar : (v : ℤ) → IfOk (in_range v) IsScalar
in_range-scalar v = elim (leb_tells (unsigned_abs v) greatest) [
  | inl fits ↦ rw fits.0 fits.1
  | inr past ↦ rw past.0 tt
]

neg-scalar : (v : ℤ) → IsScalar v → IsScalar (neg_ℤ v)
neg-scalar v h = omega (arith, ints)

-- ---- roots

root_near-short : (n : ℕ) → root_near n ≤ root n + 1
root_near-short n = elim (leb_tells (n - root n * root n) (root n)) [
  | inl close ↦ rw close.0 (omega arith)
  | inr far ↦ rw far.0 (omega arith)
]

root-short : (n : ℕ) → n ≤ 10 ^ 18 → root n ≤ 10 ^ 9
root-short n h = root_le (root n) (10 ^ 9) (omega (arith, (root-IsRoot n (omega (arith, h))).low, h))

root_near-scalar : (n : ℕ) → n ≤ greatest → root_near (n * one) ≤ greatest
root_near-scalar n h = omega (arith, root_near-short (n * one), root-short (n * one) (omega (arith, h)))

square_root-scalar : (v : ℤ) → IsScalar v → IfOk (square_root v) IsScalar
square_root-scalar (pos n) h = root_near-scalar n h
square_root-scalar (negsuc n) h = tt

-- ---- operators

quotient-scalar : (a b : ℤ) → IfOk (quotient a b) IsScalar
quotient-scalar a (pos zero) = tt
quotient-scalar a (pos (suc n)) = in_range-scalar (near (a *ℤ pos one) (pos (suc n)))
quotient-scalar a (negsuc n) = in_range-scalar (near (a *ℤ pos one) (negsuc n))

apply-scalar : (op : Op) (a b : ℤ) → IfOk (apply op a b) IsScalar
apply-scalar ops.Add a b = in_range-scalar (a +ℤ b)
apply-scalar ops.Sub a b = in_range-scalar (a -ℤ b)
apply-scalar ops.Mul a b = in_range-scalar (near (a *ℤ b) (pos one))
apply-scalar ops.Div a b = quotient-scalar a b

-- ---- names

scalar_in-scalar : (found : Option Value) → IfOk (scalar_in found) IsScalar
scalar_in-scalar (Some (values.Scalar v)) = in_range-scalar v
scalar_in-scalar (Some (values.Shape kind)) = tt
scalar_in-scalar None = tt

scalar_of-scalar : (names : Names) (name : List ℕ) (found : Option Bound) → IfOk (scalar_of names name found) IsScalar
scalar_of-scalar names name None = scalar_in-scalar (meaning names name)
scalar_of-scalar names name (Some (bounds.Scalar v)) = in_range-scalar v
scalar_of-scalar names name (Some (bounds.Alias other)) = scalar_in-scalar (meaning names other)

-- ---- expressions

pub value_of-scalar : (names : Names) (ps : Parameters) (t : Tree) → IfOk (value_of names ps t) IsScalar
value_of-scalar names ps (Num v) = in_range-scalar v
value_of-scalar names ps (Name name) = scalar_of-scalar names name (meaning ps name)
value_of-scalar names ps (Neg t) = then_ok IsScalar IsScalar (value_of names ps t) _ (value_of-scalar names ps t) neg-scalar
value_of-scalar names ps (Bin op a b) =
    then_ok IsScalar IsScalar (value_of names ps a) _ (value_of-scalar names ps a)
    (λ x _. then_ok IsScalar IsScalar (value_of names ps b) _ (value_of-scalar names ps b) (λ y _. apply-scalar op x y))
value_of-scalar names ps (Root t) = then_ok IsScalar IsScalar (value_of names ps t) square_root (value_of-scalar names ps t) square_root-scalar
value_of-scalar names ps (Abs t) = then_ok IsScalar IsScalar (value_of names ps t) _ (value_of-scalar names ps t) (λ v h. h)

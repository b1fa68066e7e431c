-- The value of a tree by a stack.
use Rattle.std.proofs.Common.{◌≡◌, ◌+◌, ◌<◌, List, [], ◌∷◌, length, refl, ap, sym, ◌∙◌, arith}
use Rattle.std.specs.Prelude.{ℤ, Result, Ok, Err, neg_ℤ}
use Rattle.std.proofs.lemmas.Bool.Decides.{nat_tests}
use Rattle.apt_words.specs.Chains.{◌>>=◌}
use Rattle.apt_words.specs.declared.Case.{Case}
use Rattle.apt_words.specs.declared.expr.Op.{Op}
use Rattle.apt_words.specs.declared.expr.Op.TheVariants as ops
use Rattle.apt_words.specs.declared.postfix.Item.{Item}
use Rattle.apt_words.specs.declared.postfix.Postfix.{Postfix}
use Rattle.apt_words.specs.Trees.{Tree, Num, Name, Neg, Bin, Root, Abs, operators}
use Rattle.apt_words.specs.TreeParts.{parts, built, right, with_number}
use Rattle.apt_scalar.specs.Scalars.{in_range, apply, square_root, size}
use Rattle.apt_scalar.specs.Meanings.{Names, Parameters, scalar_named}
use Rattle.apt_scalar.specs.Evaluation.{value_of}
use Rattle.apt_scalar.specs.Stacks.{room, pushed, top, below, with_value, beside, behind, behind_all, value_behind}

pushed_below : (v : ℤ) (vs : List ℤ) → length vs < room → pushed v vs ≡ v ∷ vs
pushed_below v vs h = grind (arith, nat_tests)

-- what follows a value that is put on the stack
abbrev then_all : Names → Parameters → Result ℤ Case → List Item → List ℤ → Result (List ℤ) Case
then_all names ps r more vs = r >>= λ v. behind_all names ps more (v ∷ vs)

with_room : (names : Names) (ps : Parameters) (r : Result ℤ Case) (more : List Item) (vs : List ℤ) → length vs < room
    → (with_value r vs >>= behind_all names ps more) ≡ then_all names ps r more vs
with_room names ps (Ok v) more vs h = ap (behind_all names ps more) (pushed_below v vs h)
with_room names ps (Err case) more vs h = refl

chained : {A B : Type 0} (r : Result A Case) (f g : A → Result B Case) → ((a : A) → f a ≡ g a) → (r >>= f) ≡ (r >>= g)
chained (Ok a) f g h = h a
chained (Err case) f g h = refl

joined : {A B C : Type 0} (r : Result A Case) (f : A → Result B Case) (g : B → Result C Case) → (r >>= f >>= g) ≡ (r >>= λ a. f a >>= g)
joined (Ok a) f g = refl
joined (Err case) f g = refl

behind_number : (names : Names) (ps : Parameters) (op : Op) (v : ℤ) (vs : List ℤ) → behind names ps (with_number op v) vs ≡ with_value (beside op v vs) (below vs)
behind_number names ps ops.Add v vs = refl
behind_number names ps ops.Sub v vs = refl
behind_number names ps ops.Mul v vs = refl
behind_number names ps ops.Div v vs = refl

-- what the parts of a right operand and its operator do, where it is known of other trees than numbers
right_stacked : (names : Names) (ps : Parameters) (op : Op) (b : Tree) (others more : List Item) (x : ℤ) (vs : List ℤ) → length vs < room
    → behind_all names ps others (x ∷ vs) ≡ then_all names ps (value_of names ps b >>= apply op x) more vs
    → behind_all names ps (right op b others more) (x ∷ vs) ≡ then_all names ps (value_of names ps b >>= apply op x) more vs
right_stacked names ps op (Num v) others more x vs h e =
    ap (λ (r : Result (List ℤ) Case). r >>= behind_all names ps more) (behind_number names ps op v (x ∷ vs))
    ∙ with_room names ps (in_range v >>= apply op x) more vs h
right_stacked names ps op (Name name) others more x vs h e = e
right_stacked names ps op (Neg t) others more x vs h e = e
right_stacked names ps op (Bin p t u) others more x vs h e = e
right_stacked names ps op (Root t) others more x vs h e = e
right_stacked names ps op (Abs t) others more x vs h e = e

-- the parts of a tree put its value on the stack
stacked : (names : Names) (ps : Parameters) (t : Tree) (more : List Item) (vs : List ℤ) → length vs + operators t < room
    → behind_all names ps (parts t more) vs ≡ then_all names ps (value_of names ps t) more vs
stacked names ps (Num v) more vs h = with_room names ps (in_range v) more vs (omega arith)
stacked names ps (Name name) more vs h = with_room names ps (scalar_named names ps name) more vs (omega arith)
stacked names ps (Neg t) more vs h =
    stacked names ps t _ vs h
    ∙ chained (value_of names ps t) _ _ (λ v. with_room names ps (Ok (neg_ℤ v)) more vs (omega arith))
    ∙ sym (joined (value_of names ps t) _ _)
stacked names ps (Root t) more vs h =
    stacked names ps t _ vs h
    ∙ chained (value_of names ps t) _ _ (λ v. with_room names ps (square_root v) more vs (omega arith))
    ∙ sym (joined (value_of names ps t) _ _)
stacked names ps (Abs t) more vs h =
    stacked names ps t _ vs h
    ∙ chained (value_of names ps t) _ _ (λ v. with_room names ps (Ok (size v)) more vs (omega arith))
    ∙ sym (joined (value_of names ps t) _ _)
stacked names ps (Bin op a b) more vs h =
    stacked names ps a _ vs (omega arith)
    ∙ chained (value_of names ps a) _ _ (λ x.
    right_stacked names ps op b _ more x vs (omega arith)
    (stacked names ps b _ (x ∷ vs) (omega arith)
    ∙ chained (value_of names ps b) _ _ (λ y. with_room names ps (apply op x y) more vs (omega arith))
    ∙ sym (joined (value_of names ps b) _ _)))
    ∙ sym (joined (value_of names ps a) _ _)

latest : (r : Result ℤ Case) → (r >>= (λ v. Ok (v ∷ [])) >>= λ vs. Ok (top vs)) ≡ r
latest (Ok v) = refl
latest (Err case) = refl

pub value_on_stack : (names : Names) (ps : Parameters) (e : Postfix) → value_behind names ps e.items.items ≡ value_of names ps (built e.items.items [])
value_on_stack names ps e =
    let t = built e.items.items [] in
    let small : 0 + operators t < room = omega (arith, e.small) in
    ap (value_behind names ps) (sym e.whole)
    ∙ ap (λ (r : Result (List ℤ) Case). r >>= λ vs. Ok (top vs)) (stacked names ps t [] [] small)
    ∙ latest (value_of names ps t)

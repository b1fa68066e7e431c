-- Trees behind a part more.
use Rattle.std.specs.Prelude.{ℤ, None, true}
use Rattle.std.proofs.Common.{◌≡◌, ◌≤◌, List, [], ◌∷◌, ◌++◌, length, refl, ap, sym, ◌∙◌, append_assoc, arith}
use Rattle.apt_words.specs.declared.expr.Op.{Op}
use Rattle.apt_words.specs.declared.postfix.Item.{Item}
use Rattle.apt_words.specs.declared.postfix.Item.TheVariants as marks
use Rattle.apt_words.specs.Trees.{Tree, Num, Name, Neg, Bin, Root, Abs}
use Rattle.apt_words.specs.TreeParts.{parts, right, with_number, after-with_number, trees, after, on_one, on_two, latest}
use Rattle.apt_expr.specs.Forests.{arity, is_simple, below, all_parts, is_settled}

pub trees_after : (ps : List Item) (p : Item) (ts : List Tree) → trees (ps ++ p ∷ []) ts ≡ after p (trees ps ts)
trees_after [] p ts = refl
trees_after (q ∷ ps) p ts = trees_after ps p (after q ts)

right_before : (op : Op) (b : Tree) (more : List Item) → parts b (marks.Bin op ∷ more) ≡ parts b (marks.Bin op ∷ []) ++ more
    → right op b (parts b (marks.Bin op ∷ more)) more ≡ right op b (parts b (marks.Bin op ∷ [])) [] ++ more
right_before op (Num v) more e = refl
right_before op (Name name) more e = e
right_before op (Neg t) more e = e
right_before op (Bin p t u) more e = e
right_before op (Root t) more e = e
right_before op (Abs t) more e = e

parts_before : (t : Tree) (more : List Item) → parts t more ≡ parts t [] ++ more
parts_before (Num v) more = refl
parts_before (Name name) more = refl
parts_before (Neg t) more = parts_before t _ ∙ sym (append_assoc (parts t []) _ more) ∙ ap (λ (ps : List Item). ps ++ more) (sym (parts_before t _))
parts_before (Root t) more = parts_before t _ ∙ sym (append_assoc (parts t []) _ more) ∙ ap (λ (ps : List Item). ps ++ more) (sym (parts_before t _))
parts_before (Abs t) more = parts_before t _ ∙ sym (append_assoc (parts t []) _ more) ∙ ap (λ (ps : List Item). ps ++ more) (sym (parts_before t _))
parts_before (Bin op a b) more =
    ap (parts a) (right_before op b more (parts_before b _ ∙ sym (append_assoc (parts b []) _ more) ∙ ap (λ (ps : List Item). ps ++ more) (sym (parts_before b _))))
    ∙ parts_before a _ ∙ sym (append_assoc (parts a []) _ more) ∙ ap (λ (ps : List Item). ps ++ more) (sym (parts_before a _))

last_of : (before : List Item) (t : Tree) (p : Item) → before ++ parts t (p ∷ []) ≡ (before ++ parts t []) ++ p ∷ []
last_of before t p = ap (λ (ps : List Item). before ++ ps) (parts_before t (p ∷ [])) ∙ sym (append_assoc before (parts t []) (p ∷ []))

pub parts_after : (p : Item) (ts : List Tree) → is_simple p ≡ true → arity p ≤ length ts → all_parts (after p ts) ≡ all_parts ts ++ p ∷ []
parts_after (marks.Name name) ts e h = refl
parts_after marks.Neg (t ∷ ts) e h = last_of (all_parts ts) t marks.Neg
parts_after marks.Root (t ∷ ts) e h = last_of (all_parts ts) t marks.Root
parts_after marks.Abs (t ∷ ts) e h = last_of (all_parts ts) t marks.Abs
parts_after marks.Neg [] e h = absurd (omega arith)
parts_after marks.Root [] e h = absurd (omega arith)
parts_after marks.Abs [] e h = absurd (omega arith)
parts_after _ ts e h = absurd (cc)

pub settled_after : (p : Item) (ts : List Tree) → is_simple p ≡ true → is_settled None (after p ts) ≡ true
settled_after (marks.Name name) ts e = refl
settled_after marks.Neg [] e = refl
settled_after marks.Root [] e = refl
settled_after marks.Abs [] e = refl
settled_after marks.Neg (t ∷ ts) e = refl
settled_after marks.Root (t ∷ ts) e = refl
settled_after marks.Abs (t ∷ ts) e = refl
settled_after _ ts e = absurd (cc)

-- the parts of a right operand that is no number
right_other : (op : Op) (b : Tree) (ts : List Tree) (others more : List Item) → is_settled None (b ∷ ts) ≡ true → right op b others more ≡ others
right_other op (Num v) ts others more e = absurd (cc)
right_other op (Name name) ts others more e = refl
right_other op (Neg t) ts others more e = refl
right_other op (Bin p t u) ts others more e = refl
right_other op (Root t) ts others more e = refl
right_other op (Abs t) ts others more e = refl

pub parts_joined : (op : Op) (ts : List Tree) → 2 ≤ length ts → is_settled None ts ≡ true → all_parts (on_two op ts) ≡ all_parts ts ++ marks.Bin op ∷ []
parts_joined op (b ∷ a ∷ ts) h e =
    ap (λ (ps : List Item). all_parts ts ++ parts a ps) (right_other op b (a ∷ ts) _ [] e)
    ∙ ap (λ (ps : List Item). all_parts ts ++ ps) (parts_before a _)
    ∙ sym (append_assoc (all_parts ts) (parts a []) _)
    ∙ last_of (all_parts ts ++ parts a []) b (marks.Bin op)
parts_joined op [] h e = absurd (omega arith)
parts_joined op (b ∷ []) h e = absurd (omega arith)

pub settled_joined : (op : Op) (ts : List Tree) → is_settled None (on_two op ts) ≡ true
settled_joined op [] = refl
settled_joined op (b ∷ []) = refl
settled_joined op (b ∷ a ∷ ts) = refl

pub numbered : (op : Op) (v : ℤ) (ts : List Tree) → after (with_number op v) ts ≡ on_two op (Num v ∷ ts)
numbered op v ts = after-with_number op v ts

pub parts_numbered : (op : Op) (v : ℤ) (ts : List Tree) → 1 ≤ length ts → all_parts (on_two op (Num v ∷ ts)) ≡ all_parts ts ++ with_number op v ∷ []
parts_numbered op v [] h = absurd (omega arith)
parts_numbered op v (a ∷ ts) h = last_of (all_parts ts) a (with_number op v)

pub one_operand : (f : Tree → Tree) (ts : List Tree) → 1 ≤ length ts → on_one f ts ≡ f (latest ts) ∷ below ts
one_operand f [] h = absurd (omega arith)
one_operand f (t ∷ ts) h = refl

pub two_operands : (op : Op) (ts : List Tree) → 2 ≤ length ts → on_two op ts ≡ Bin op (latest (below ts)) (latest ts) ∷ below (below ts)
two_operands op [] h = absurd (omega arith)
two_operands op (b ∷ []) h = absurd (omega arith)
two_operands op (b ∷ a ∷ ts) h = refl

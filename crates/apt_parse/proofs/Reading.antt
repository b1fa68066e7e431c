-- What the reader keeps, one statement more.
use Rattle.std.specs.Prelude.{◌≡◌, ℕ, List, [], ◌∷◌, ◌++◌, Option, Some, None, Bool, true, false, ◌&&◌, ◌||◌, not, is_some, if◌then◌else◌}
use Rattle.std.proofs.Common.{refl, ap, sym, ◌∙◌}
use Rattle.std.proofs.lemmas.List.{append_assoc, append-nil}
use Rattle.apt_words.specs.declared.body.Body.{Body}
use Rattle.apt_words.specs.declared.body.Stmt.{Stmt}
use Rattle.apt_words.specs.Composition.{flow_of}
use Rattle.apt_words.specs.Flow.{macro_name}
use Rattle.apt_lexis.specs.declared.cause.PartCause.{PartCause}
use Rattle.apt_lexis.specs.declared.cause.PartCause.TheVariants as causes
use Rattle.apt_parse.specs.Statements.{or_none, labels_of, macros_of, macro_behind, loop_behind, macro_from, loop_from, open_macro, open_loop, first_fault, is_misplaced, is_misplaced_heading, is_out_of_place, is_partno, lacks_partno, is_label_again, is_macro_again, is_in_macro, is_out_of_loop}

pub labels_behind : (sts : List Stmt) (st : Stmt) → labels_of (sts ++ st ∷ []) ≡ labels_of sts ++ or_none st.label
labels_behind [] st = append-nil (or_none st.label)
labels_behind (x ∷ xs) st = ap (λ ls. or_none x.label ++ ls) (labels_behind xs st) ∙ sym (append_assoc (or_none x.label) (labels_of xs) (or_none st.label))

pub macros_behind : (sts : List Stmt) (st : Stmt) → macros_of (sts ++ st ∷ []) ≡ macros_of sts ++ or_none (macro_name (flow_of st.body))
macros_behind [] st = append-nil (or_none (macro_name (flow_of st.body)))
macros_behind (x ∷ xs) st =
    ap (λ ms. or_none (macro_name (flow_of x.body)) ++ ms) (macros_behind xs st)
    ∙ sym (append_assoc (or_none (macro_name (flow_of x.body))) (macros_of xs) (or_none (macro_name (flow_of st.body))))

pub macro_from_behind : (before : Option ℕ) (sts : List Stmt) (st : Stmt) → macro_from before (sts ++ st ∷ []) ≡ macro_behind (macro_from before sts) st.line (flow_of st.body)
macro_from_behind before [] st = refl
macro_from_behind before (x ∷ xs) st = macro_from_behind (macro_behind before x.line (flow_of x.body)) xs st

pub loop_from_behind : (before : Option ℕ) (sts : List Stmt) (st : Stmt) → loop_from before (sts ++ st ∷ []) ≡ loop_behind (loop_from before sts) st.line (flow_of st.body)
loop_from_behind before [] st = refl
loop_from_behind before (x ∷ xs) st = loop_from_behind (loop_behind before x.line (flow_of x.body)) xs st

-- the first fault, by the test of each
abbrev first_of : Bool → Bool → Bool → Bool → Bool → Bool → Option PartCause
first_of a b c d e f =
    if a then Some causes.BadShape
    else if b then Some causes.NoPartno
    else if c then Some causes.LabelTwice else if d then Some causes.MacroTwice
    else if e then Some causes.MacroOpen else if f then Some causes.LoopOpen else None

-- what the tests tell of a statement without fault
record HasNoFault (misplaced untitled label_again macro_again in_macro : Bool) : Type 0 where
  placed : misplaced ≡ false
  titled : untitled ≡ false
  label : label_again ≡ false
  macro : macro_again ≡ false
  outside : in_macro ≡ false

none_of : (a b c d e f : Bool) → first_of a b c d e f ≡ None → HasNoFault a b c d e
none_of true b c d e f h = cc
none_of false true c d e f h = cc
none_of false false true d e f h = cc
none_of false false false true e f h = cc
none_of false false false false true f h = cc
none_of false false false false false f h = record { placed = refl; titled = refl; label = refl; macro = refl; outside = refl }

no_fault : (sts : List Stmt) (label : Option (List ℕ)) (b : Body) → first_fault sts label b ≡ None
    → HasNoFault (is_misplaced sts b) (lacks_partno sts b) (is_label_again sts label) (is_macro_again sts (flow_of b)) (is_in_macro (is_some (open_macro sts)) (flow_of b))
no_fault sts label b h =
    none_of (is_misplaced sts b) (lacks_partno sts b) (is_label_again sts label) (is_macro_again sts (flow_of b))
    (is_in_macro (is_some (open_macro sts)) (flow_of b)) (is_out_of_loop (is_some (open_loop sts)) (flow_of b)) h

pub no_label_again : (sts : List Stmt) (label : Option (List ℕ)) (b : Body) → first_fault sts label b ≡ None → is_label_again sts label ≡ false
no_label_again sts label b h = (no_fault sts label b h).label

pub no_macro_again : (sts : List Stmt) (label : Option (List ℕ)) (b : Body) → first_fault sts label b ≡ None → is_macro_again sts (flow_of b) ≡ false
no_macro_again sts label b h = (no_fault sts label b h).macro

or_none_of : (a b : Bool) → (a || b) ≡ false → b ≡ false
or_none_of true b h = cc
or_none_of false b h = h

neither_of : (a b : Bool) → (a || b) ≡ false → a ≡ false
neither_of true b h = cc
neither_of false b h = refl

-- a heading without fault stands where it can
pub no_fault-headed : (sts : List Stmt) (label : Option (List ℕ)) (b : Body) → first_fault sts label b ≡ None → is_misplaced_heading sts b ≡ false
no_fault-headed sts label b h =
    neither_of (is_misplaced_heading sts b) (is_out_of_place (is_some (open_macro sts)) (flow_of b)) (no_fault sts label b h).placed

-- and the first statement is PARTNO
pub no_fault-first : (label : Option (List ℕ)) (b : Body) → first_fault [] label b ≡ None → is_partno b ≡ true
no_fault-first label b h = by (is_partno b) (no_fault [] label b h).titled
  where
    by : (partno : Bool) → (true && not partno) ≡ false → partno ≡ true
    by true e = refl
    by false e = cc

-- a statement without fault stands where it can
pub no_fault-placed : (sts : List Stmt) (label : Option (List ℕ)) (b : Body) → first_fault sts label b ≡ None
    → is_out_of_place (is_some (open_macro sts)) (flow_of b) ≡ false
no_fault-placed sts label b h =
    or_none_of (is_misplaced_heading sts b) (is_out_of_place (is_some (open_macro sts)) (flow_of b)) (no_fault sts label b h).placed

-- and begins no macro within a macro
pub no_fault-outside : (sts : List Stmt) (label : Option (List ℕ)) (b : Body) → first_fault sts label b ≡ None
    → is_in_macro (is_some (open_macro sts)) (flow_of b) ≡ false
no_fault-outside sts label b h = (no_fault sts label b h).outside

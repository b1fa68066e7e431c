-- Statements of a program stand within a macro or outside, and so does what follows them, what a label names and what is executed.
use Rattle.std.proofs.Common.{◌≡◌, ℕ, zero, suc, ◌+◌, Bool, true, false, List, [], ◌∷◌, drop, slice_get, is_some, Option, Some, None, refl, sym, ap, ◌∙◌, subst, arith}
use Rattle.std.specs.Prelude.{if◌then◌else◌}
use Rattle.apt_words.specs.Options.{◌>>=◌, only_if}
use Rattle.apt_words.specs.Composition.{flow_of}
use Rattle.apt_words.specs.Flow.{Flow, Onward, MacroBegins, MacroEnds, Calls, LoopBegins, LoopEnds, Jumps, Branches, ProgramEnds}
use Rattle.apt_words.specs.Nesting.{Stands, AreNested}
use Rattle.apt_words.specs.declared.body.Stmt.{Stmt}
use Rattle.apt_unroll.specs.declared.numbers.Naming.TheVariants as namings
use Rattle.apt_unroll.specs.declared.places.Open.{Open}
use Rattle.apt_unroll.specs.declared.places.Region.{Region}
use Rattle.apt_unroll.specs.declared.places.Region.TheVariants as regions
use Rattle.apt_unroll.specs.Places.{begins_macro, ends_macro, behind_macros, executed_from, place_of, none_open, open_behind, loop_with, innermost, region, regions_from, regions_of, is_one_region, are_one_region, are_together, target}
use Rattle.apt_unroll.specs.Tables.{IsMacroAt}
use Rattle.apt_unroll.proofs.Tables.{is_macro}

-- what stands behind a statement
abbrev StandsAt : List Stmt → ℕ → Bool → Stmt → Type 0
StandsAt sts i within st = Stands (flow_of st.body) within (drop (i + 1) sts) (λ now. AreNested now (drop (i + 1) sts))

-- ---- the i-th statement and those behind it

next_is : (i : ℕ) → i + 1 ≡ suc i
next_is i = omega arith

pub first_of : {A : Type 0} (xs : List A) (i : ℕ) (x : A) (rest : List A) → drop i xs ≡ x ∷ rest → slice_get xs i ≡ Some x
first_of [] zero x rest h = absurd (cc)
first_of [] (suc i) x rest h = absurd (cc)
first_of (y ∷ ys) zero x rest h = cc
first_of (y ∷ ys) (suc i) x rest h = first_of ys i x rest h

rest_by : {A : Type 0} (xs : List A) (i : ℕ) (x : A) (rest : List A) → drop i xs ≡ x ∷ rest → drop (suc i) xs ≡ rest
rest_by [] zero x rest h = absurd (cc)
rest_by [] (suc i) x rest h = absurd (cc)
rest_by (y ∷ ys) zero x rest h = cc
rest_by (y ∷ ys) (suc i) x rest h = rest_by ys i x rest h

pub rest_of : {A : Type 0} (xs : List A) (i : ℕ) (x : A) (rest : List A) → drop i xs ≡ x ∷ rest → drop (i + 1) xs ≡ rest
rest_of xs i x rest h = ap (λ k. drop k xs) (next_is i) ∙ rest_by xs i x rest h

same_some : {A : Type 0} (x y : A) → Some x ≡ Some y → x ≡ y
same_some x y h = cc

-- a statement stands where statements are nested
pub there_is : (sts : List Stmt) (i : ℕ) (within : Bool) → AreNested within (drop i sts) → (st : Stmt) × (slice_get sts i ≡ Some st)
there_is sts i within nested = by (drop i sts) refl nested
  where
    by : (l : List Stmt) → drop i sts ≡ l → AreNested within l → (st : Stmt) × (slice_get sts i ≡ Some st)
    by [] e nested = absurd nested
    by (st ∷ rest) e nested = (st, first_of sts i st rest e)

-- what holds behind it
pub stands_at : (sts : List Stmt) (i : ℕ) (within : Bool) (st : Stmt) → AreNested within (drop i sts) → slice_get sts i ≡ Some st → StandsAt sts i within st
stands_at sts i within st nested there = by (drop i sts) refl nested
  where
    by : (l : List Stmt) → drop i sts ≡ l → AreNested within l → StandsAt sts i within st
    by [] e nested = absurd nested
    by (x ∷ rest) e nested =
        let same = same_some x st (sym (first_of sts i x rest e) ∙ there) in
        subst (λ (rest : List Stmt). Stands (flow_of st.body) within rest (λ now. AreNested now rest)) (sym (rest_of sts i x rest e))
        (subst (λ (x : Stmt). Stands (flow_of x.body) within rest (λ now. AreNested now rest)) same nested)

-- ---- a statement is within a macro or not, and not both

opposed : (flow : Flow) (sts : List Stmt) → (AreNested true sts → AreNested false sts → ⊥)
    → Stands flow true sts (λ now. AreNested now sts) → Stands flow false sts (λ now. AreNested now sts) → ⊥
opposed Onward sts more a b = more a b
opposed (MacroBegins m ps) sts more a b = absurd (cc)
opposed MacroEnds sts more a b = absurd (cc)
opposed (Calls m args) sts more a b = more a b
opposed LoopBegins sts more a b = more a b
opposed LoopEnds sts more a b = more a b
opposed (Jumps l) sts more a b = more a b
opposed (Branches e x y z) sts more a b = more a b
opposed ProgramEnds sts more a b = absurd (cc)

not_both : (sts : List Stmt) → AreNested true sts → AreNested false sts → ⊥
not_both [] a b = a
not_both (st ∷ sts) a b = opposed (flow_of st.body) sts (not_both sts) a b

one_way : (u w : Bool) (sts : List Stmt) → AreNested u sts → AreNested w sts → u ≡ w
one_way true true sts a b = refl
one_way true false sts a b = absurd (not_both sts a b)
one_way false true sts a b = absurd (not_both sts b a)
one_way false false sts a b = refl

-- ---- what is executed stands as what a run comes to

record Passes (sts l : List Stmt) (i : ℕ) : Type 0 where
  outside : (within : Bool) → AreNested within l → AreNested within (drop (behind_macros false i l) sts)
  inside : AreNested true l → AreNested false (drop (behind_macros true i l) sts)

pass_outside : (sts rest : List Stmt) (i : ℕ) (flow : Flow) (within : Bool) → Passes sts rest (i + 1) → AreNested within (drop i sts)
    → Stands flow within rest (λ now. AreNested now rest) → AreNested within (drop (if begins_macro flow then behind_macros true (i + 1) rest else i) sts)
pass_outside sts rest i Onward within more here stands = here
pass_outside sts rest i (MacroBegins m ps) within more here stands = subst (λ w. AreNested w (drop (behind_macros true (i + 1) rest) sts)) (sym stands.0) (more.inside stands.1)
pass_outside sts rest i MacroEnds within more here stands = here
pass_outside sts rest i (Calls m args) within more here stands = here
pass_outside sts rest i LoopBegins within more here stands = here
pass_outside sts rest i LoopEnds within more here stands = here
pass_outside sts rest i (Jumps l) within more here stands = here
pass_outside sts rest i (Branches e a b c) within more here stands = here
pass_outside sts rest i ProgramEnds within more here stands = here

pass_inside : (sts rest : List Stmt) (i : ℕ) (flow : Flow) → Passes sts rest (i + 1) → Stands flow true rest (λ now. AreNested now rest)
    → AreNested false (drop (behind_macros (if ends_macro flow then false else true) (i + 1) rest) sts)
pass_inside sts rest i Onward more stands = more.inside stands
pass_inside sts rest i (MacroBegins m ps) more stands = absurd (cc)
pass_inside sts rest i MacroEnds more stands = more.outside false stands.1
pass_inside sts rest i (Calls m args) more stands = more.inside stands
pass_inside sts rest i LoopBegins more stands = more.inside stands
pass_inside sts rest i LoopEnds more stands = more.inside stands
pass_inside sts rest i (Jumps l) more stands = more.inside stands
pass_inside sts rest i (Branches e a b c) more stands = more.inside stands
pass_inside sts rest i ProgramEnds more stands = absurd (cc)

passes : (sts l : List Stmt) (i : ℕ) → drop i sts ≡ l → Passes sts l i
passes sts [] i e = record { outside = λ within nested. absurd nested; inside = λ nested. absurd nested }
passes sts (st ∷ rest) i e =
    let more = passes sts rest (i + 1) (rest_of sts i st rest e) in
    record {
      outside = λ within nested. pass_outside sts rest i (flow_of st.body) within more (subst (AreNested within) (sym e) nested) nested;
      inside = λ nested. pass_inside sts rest i (flow_of st.body) more nested;
    }

pub executed_stands : (sts : List Stmt) (i : ℕ) (within : Bool) → AreNested within (drop i sts) → AreNested within (drop (executed_from sts i) sts)
executed_stands sts i within nested = (passes sts (drop i sts) i refl).outside within nested

-- ---- regions

abbrev is_in_macro : Region → Bool
is_in_macro regions.Outside = false
is_in_macro (regions.Loop l) = false
is_in_macro (regions.Macro m) = true

innermost_macro : (m l : Option ℕ) → is_in_macro (innermost m l) ≡ is_some m
innermost_macro (Some m) l = refl
innermost_macro None (Some l) = refl
innermost_macro None None = refl

region_macro : (i : ℕ) (flow : Flow) (before : Open) → is_in_macro (region i flow before) ≡ is_some before.in_macro
region_macro i flow before = innermost_macro before.in_macro (loop_with i flow before.in_loop)

-- the region of the j-th statement says whether it stands within a macro
abbrev Tells : ℕ → Open → List Stmt → ℕ → Region → Type 0
Tells i before sts j r = AreNested (is_some before.in_macro) sts → slice_get (regions_from i before sts) j ≡ Some r → AreNested (is_in_macro r) (drop j sts)

no_more : (i : ℕ) (before : Open) (sts : List Stmt) (j : ℕ) (r : Region) → sts ≡ [] → slice_get (regions_from i before sts) j ≡ Some r → AreNested (is_in_macro r) (drop j sts)
no_more i before [] j r e h = absurd (cc)
no_more i before (st ∷ sts) j r e h = absurd (cc)

in_rest : (i : ℕ) (before : Open) (flow : Flow) (sts : List Stmt) (j : ℕ) (r : Region) → ((now : Open) → Tells (i + 1) now sts j r)
    → Stands flow (is_some before.in_macro) sts (λ now. AreNested now sts) → slice_get (regions_from (i + 1) (open_behind i flow before) sts) j ≡ Some r
    → AreNested (is_in_macro r) (drop j sts)
in_rest i before Onward sts j r more stands h = more before stands h
in_rest i before (MacroBegins m ps) sts j r more stands h = more (record before { in_macro = Some i }) stands.1 h
in_rest i before MacroEnds sts j r more stands h = more (record before { in_macro = None }) stands.1 h
in_rest i before (Calls m args) sts j r more stands h = more before stands h
in_rest i before LoopBegins sts j r more stands h = more (record before { in_loop = Some i }) stands h
in_rest i before LoopEnds sts j r more stands h = more (record before { in_loop = None }) stands h
in_rest i before (Jumps l) sts j r more stands h = more before stands h
in_rest i before (Branches e a b c) sts j r more stands h = more before stands h
in_rest i before ProgramEnds sts j r more stands h = no_more (i + 1) before sts j r stands.1 h

region_tells : (i : ℕ) (before : Open) (sts : List Stmt) (j : ℕ) (r : Region) → Tells i before sts j r
region_tells i before [] j r nested h = absurd nested
region_tells i before (st ∷ sts) zero r nested h =
    let same : region i (flow_of st.body) before ≡ r = cc in
    subst (λ w. AreNested w (st ∷ sts)) (sym (region_macro i (flow_of st.body) before) ∙ ap is_in_macro same) nested
region_tells i before (st ∷ sts) (suc j) r nested h = in_rest i before (flow_of st.body) sts j r (λ now. region_tells (i + 1) now sts j r) nested h

pub one_region : (r s : Region) → is_one_region r s ≡ true → is_in_macro r ≡ is_in_macro s
one_region (regions.Loop l) (regions.Loop k) h = refl
one_region (regions.Macro l) (regions.Macro k) h = refl
one_region _ _ h = absurd (cc)

together_by : (sts : List Stmt) (i j : ℕ) (within : Bool) (r s : Option Region) → AreNested false sts → AreNested within (drop i sts)
    → slice_get (regions_of sts) i ≡ r → slice_get (regions_of sts) j ≡ s → are_one_region r s ≡ true → AreNested within (drop j sts)
together_by sts i j within (Some r) (Some s) nested here e f h =
    let at_i = region_tells 0 none_open sts i r nested e in
    let same : is_in_macro s ≡ within = sym (one_region r s h) ∙ one_way (is_in_macro r) within (drop i sts) at_i here in
    subst (λ w. AreNested w (drop j sts)) same (region_tells 0 none_open sts j s nested f)
together_by sts i j within _ _ nested here e f h = absurd (cc)

together : (sts : List Stmt) (i j : ℕ) (within : Bool) → AreNested false sts → AreNested within (drop i sts) → are_together sts i j ≡ true → AreNested within (drop j sts)
together sts i j within nested here h = together_by sts i j within (slice_get (regions_of sts) i) (slice_get (regions_of sts) j) nested here refl refl h

in_region : (b : Bool) (k j : ℕ) → only_if b k ≡ Some j → (b ≡ true) × (k ≡ j)
in_region true k j h = (refl, cc)
in_region false k j h = absurd (cc)

-- a label of the region stands as the statement that jumps to it
pub target_stands : (sts : List Stmt) (i : ℕ) (name : List ℕ) (j : ℕ) (within : Bool) → AreNested false sts → AreNested within (drop i sts) → target sts i name ≡ Some j
    → AreNested within (drop j sts)
target_stands sts i name j within nested here h = by (place_of namings.Labels sts name) h
  where
    by : (o : Option ℕ) → (o >>= λ j. only_if (are_together sts i j) j) ≡ Some j → AreNested within (drop j sts)
    by None h = absurd (cc)
    by (Some k) h =
        let is = in_region (are_together sts i k) k j h in
        subst (λ j. AreNested within (drop j sts)) is.1 (together sts i k within nested here is.0)

-- ---- a macro's body

reached_by : (flow : Flow) (within : Bool) (sts : List Stmt) (k : ℕ) (st : Stmt) → slice_get sts k ≡ Some st → ((now : Bool) → AreNested now sts → (u : Bool) × AreNested u (drop k sts))
    → Stands flow within sts (λ now. AreNested now sts) → (u : Bool) × AreNested u (drop k sts)
reached_by Onward within sts k st h more stands = more within stands
reached_by (MacroBegins m ps) within sts k st h more stands = more true stands.1
reached_by MacroEnds within sts k st h more stands = more false stands.1
reached_by (Calls m args) within sts k st h more stands = more within stands
reached_by LoopBegins within sts k st h more stands = more within stands
reached_by LoopEnds within sts k st h more stands = more within stands
reached_by (Jumps l) within sts k st h more stands = more within stands
reached_by (Branches e a b c) within sts k st h more stands = more within stands
reached_by ProgramEnds within sts k st h more stands =
    let none : slice_get [] k ≡ Some st = ap (λ (l : List Stmt). slice_get l k) (sym stands.1) ∙ h in
    absurd (cc)

reached : (within : Bool) (sts : List Stmt) (k : ℕ) (st : Stmt) → AreNested within sts → slice_get sts k ≡ Some st → (u : Bool) × AreNested u (drop k sts)
reached within [] k st nested h = absurd nested
reached within (x ∷ sts) zero st nested h = (within, nested)
reached within (x ∷ sts) (suc k) st nested h = reached_by (flow_of x.body) within sts k st h (λ now nested. reached now sts k st nested h) nested

body_of : (flow : Flow) (within : Bool) (rest : List Stmt) → begins_macro flow ≡ true → Stands flow within rest (λ now. AreNested now rest) → AreNested true rest
body_of (MacroBegins m ps) within rest h stands = stands.1
body_of _ within rest h stands = absurd (cc)

-- behind the MACRO of a name stands a macro's body
pub body_stands : (sts : List Stmt) (name : List ℕ) (k : ℕ) → AreNested false sts → place_of namings.Macros sts name ≡ Some k → AreNested true (drop (k + 1) sts)
body_stands sts name k nested h = by (slice_get sts k) refl (is_macro sts name k h)
  where
    by : (o : Option Stmt) → slice_get sts k ≡ o → IsMacroAt o → AreNested true (drop (k + 1) sts)
    by None e begins = absurd begins
    by (Some st) e begins =
        let at = reached false sts k st nested e in
        body_of (flow_of st.body) at.0 (drop (k + 1) sts) begins (stands_at sts k at.0 st at.1 e)

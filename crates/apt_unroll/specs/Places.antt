-- Where the statements of a program stand, by their numbers from 0: what follows them, their labels, their macros, and their regions.
use Rattle.std.specs.Prelude.{ℕ, ◌+◌, ◌==◌, Bool, true, false, List, [], ◌∷◌, drop, slice_get, Option, Some, None, if◌then◌else◌}
use Rattle.std.proofs.Common.{bytes_eq}
use Rattle.apt_words.specs.Options.{◌>>=◌, only_if}
use Rattle.apt_words.specs.Composition.{flow_of}
use Rattle.apt_words.specs.Flow.{Flow, Onward, MacroBegins, MacroEnds, Calls, LoopBegins, LoopEnds, Jumps, Branches, ProgramEnds, macro_name}
use Rattle.apt_words.specs.declared.body.Stmt.{Stmt}
use Rattle.apt_unroll.specs.declared.numbers.Naming.{Naming}
use Rattle.apt_unroll.specs.declared.numbers.Naming.TheVariants as namings
use Rattle.apt_unroll.specs.declared.places.Open.{Open}
use Rattle.apt_unroll.specs.declared.places.Region.{Region}
use Rattle.apt_unroll.specs.declared.places.Region.TheVariants as regions

-- ---- macro definitions are passed over

abbrev pub begins_macro : Flow → Bool
begins_macro (MacroBegins m ps) = true
begins_macro _ = false

-- the following statement is executed
abbrev pub goes_on : Flow → Bool
goes_on Onward = true
goes_on _ = false

abbrev pub ends_macro : Flow → Bool
ends_macro MacroEnds = true
ends_macro _ = false

-- the number of the first statement behind macro definitions, among statements from the i-th on; within one to begin with, or not
abbrev pub behind_macros : Bool → ℕ → List Stmt → ℕ
behind_macros within i [] = i
behind_macros false i (st ∷ sts) = if begins_macro (flow_of st.body) then behind_macros true (i + 1) sts else i
behind_macros true i (st ∷ sts) = behind_macros (if ends_macro (flow_of st.body) then false else true) (i + 1) sts

-- the statement that is executed where a run comes to the i-th
abbrev pub executed_from : List Stmt → ℕ → ℕ
executed_from sts i = behind_macros false i (drop i sts)

-- ---- labels and macros by their names

abbrev pub is_named : Option (List ℕ) → List ℕ → Bool
is_named None name = false
is_named (Some own) name = bytes_eq own name

-- the label of a statement, or the name of the macro that it begins
abbrev pub name_in : Naming → Stmt → Option (List ℕ)
name_in namings.Labels st = st.label
name_in namings.Macros st = macro_name (flow_of st.body)

-- the number of the first statement with a name, among statements from the i-th on
abbrev pub first_named : Naming → ℕ → List Stmt → List ℕ → Option ℕ
first_named naming i [] name = None
first_named naming i (st ∷ sts) name = if is_named (name_in naming st) name then Some i else first_named naming (i + 1) sts name

-- the statement with a label, and the MACRO of a name
abbrev pub place_of : Naming → List Stmt → List ℕ → Option ℕ
place_of naming sts name = first_named naming 0 sts name

-- ---- regions: the statements of a loop, from LOOPST to LOOPND, and those of a macro behind MACRO, up to TERMAC

-- the loop and the macro that are open in front of the first statement
abbrev pub none_open : Open
none_open = record { in_loop = None; in_macro = None }

-- what is open behind the i-th statement
abbrev pub open_behind : ℕ → Flow → Open → Open
open_behind i (MacroBegins m ps) before = record before { in_macro = Some i }
open_behind i MacroEnds before = record before { in_macro = None }
open_behind i LoopBegins before = record before { in_loop = Some i }
open_behind i LoopEnds before = record before { in_loop = None }
open_behind i _ before = before

abbrev pub loop_with : ℕ → Flow → Option ℕ → Option ℕ
loop_with i LoopBegins before = Some i
loop_with i _ before = before

-- a macro's body is no part of the loop in which it is defined
abbrev pub innermost : Option ℕ → Option ℕ → Region
innermost (Some m) loop = regions.Macro m
innermost None (Some l) = regions.Loop l
innermost None None = regions.Outside

-- the region of the i-th statement; a loop has its LOOPST
abbrev pub region : ℕ → Flow → Open → Region
region i flow before = innermost before.in_macro (loop_with i flow before.in_loop)

abbrev pub regions_from : ℕ → Open → List Stmt → List Region
regions_from i before [] = []
regions_from i before (st ∷ sts) = region i (flow_of st.body) before ∷ regions_from (i + 1) (open_behind i (flow_of st.body) before) sts

-- the regions of all statements
abbrev pub regions_of : List Stmt → List Region
regions_of sts = regions_from 0 none_open sts

abbrev pub is_one_region : Region → Region → Bool
is_one_region regions.Outside s = false
is_one_region (regions.Loop l) regions.Outside = false
is_one_region (regions.Loop l) (regions.Loop k) = l == k
is_one_region (regions.Loop l) (regions.Macro k) = false
is_one_region (regions.Macro m) regions.Outside = false
is_one_region (regions.Macro m) (regions.Loop k) = false
is_one_region (regions.Macro m) (regions.Macro k) = m == k

abbrev pub are_one_region : Option Region → Option Region → Bool
are_one_region None s = false
are_one_region (Some r) None = false
are_one_region (Some r) (Some s) = is_one_region r s

-- the i-th and the j-th statement stand in one region
abbrev pub are_together : List Stmt → ℕ → ℕ → Bool
are_together sts i j = are_one_region (slice_get (regions_of sts) i) (slice_get (regions_of sts) j)

-- the statement with a label, where it stands in the region of the i-th
abbrev pub target : List Stmt → ℕ → List ℕ → Option ℕ
target sts i name = place_of namings.Labels sts name >>= λ j. only_if (are_together sts i j) j

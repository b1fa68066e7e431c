-- The lines, numbers and texts of statements and steps.
use Rattle.std.specs.Prelude.{◌≡◌, ℕ, ◌+◌, Bool, List, [], ◌∷◌, length, ◌≤◌, ◌==◌, ◌&&◌, ◌||◌, nat_le, IsTrue}
use Rattle.std.specs.List.{list_all}
use Rattle.apt_words.specs.Asks.{Ask, Titles, Says, Sets, Defines, Goes, Cuts, Nothing, ask_of}
use Rattle.apt_words.specs.declared.body.Body.{Body}
use Rattle.apt_words.specs.declared.body.Body.TheVariants as bodies
use Rattle.apt_words.specs.declared.body.Stmt.{Stmt}
use Rattle.apt_words.specs.declared.deed.Deed.{Deed}
use Rattle.apt_words.specs.declared.deed.Step.{Step}

-- lines and steps are counted from 1
abbrev pub IsCount : ℕ → Type 0
IsCount n = (1 ≤ n) × (n ≤ 2147483647)

-- a tab, or a byte from a blank to a tilde
abbrev pub is_text_byte : ℕ → Bool
is_text_byte b = b == 9 || (nat_le 32 b && nat_le b 126)

abbrev pub IsText : List ℕ → Type 0
IsText text = IsTrue (list_all is_text_byte text)

-- the text of PARTNO stands on one line
abbrev pub IsTitle : List ℕ → Type 0
IsTitle text = IsText text × (length text ≤ 256)

-- ---- statements

abbrev pub HasText : Body → Type 0
HasText (bodies.Partno text) = IsTitle text
HasText _ = Unit {0}

pub record IsStmt (st : Stmt) : Type 0 where
  pub line : IsCount st.line
  pub text : HasText st.body

abbrev pub AreStmts : List Stmt → Type 0
AreStmts [] = Unit {0}
AreStmts (st ∷ sts) = IsStmt st × AreStmts sts

-- ---- steps

abbrev pub AskHasText : Ask → Type 0
AskHasText (Titles text) = IsTitle text
AskHasText _ = Unit {0}

abbrev pub DeedHasText : Deed → Type 0
DeedHasText deed = AskHasText (ask_of deed)

pub record IsExecuted (st : Step) : Type 0 where
  pub line : IsCount st.line
  pub step : IsCount st.step
  pub text : DeedHasText st.deed

abbrev pub AreExecuted : List Step → Type 0
AreExecuted [] = Unit {0}
AreExecuted (st ∷ sts) = IsExecuted st × AreExecuted sts

-- steps with the numbers from one on
abbrev pub AreNumbered : ℕ → List Step → Type 0
AreNumbered n [] = Unit {0}
AreNumbered n (st ∷ sts) = (st.step ≡ n) × AreNumbered (n + 1) sts

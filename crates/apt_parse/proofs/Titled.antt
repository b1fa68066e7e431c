-- A program has PARTNO as its first statement, and as no other.
use Rattle.std.specs.Prelude.{◌≡◌, ℕ, true, false, List, [], ◌∷◌, ◌++◌, None, IfOk}
use Rattle.apt_words.specs.declared.body.Body.{Body}
use Rattle.apt_words.specs.declared.body.Body.TheVariants as bodies
use Rattle.apt_words.specs.declared.body.Stmt.{Stmt}
use Rattle.apt_words.proofs.Titles.{IsTitled, IsUntitled, AreUntitled, HasTitle}
use Rattle.apt_parse.specs.Statements.{is_partno, is_misplaced_heading, first_fault}
use Rattle.apt_parse.specs.Programs.{program_of}
use Rattle.apt_parse.proofs.Reading.{no_fault-headed, no_fault-first}
use Rattle.apt_parse.proofs.Facts.{program_of-holds}

titled : (body : Body) → is_partno body ≡ true → IsTitled body
titled (bodies.Partno text) h = tt
titled _ h = absurd (cc)

untitled : (before : List Stmt) (first : Stmt) (body : Body) → is_misplaced_heading (first ∷ before) body ≡ false → IsUntitled body
untitled before first (bodies.Partno text) h = absurd (cc)
untitled before first _ h = tt

untitled_behind : (sts : List Stmt) (st : Stmt) → IsUntitled st.body → AreUntitled sts → AreUntitled (sts ++ st ∷ [])
untitled_behind [] st is are = (is, tt)
untitled_behind (x ∷ sts) st is are = (are.0, untitled_behind sts st is are.1)

title_behind : (before : List Stmt) (st : Stmt) → first_fault before st.label st.body ≡ None → HasTitle before → HasTitle (before ++ st ∷ [])
title_behind [] st good are = (titled st.body (no_fault-first st.label st.body good), tt)
title_behind (x ∷ before) st good are = (are.0, untitled_behind before st (untitled before x st.body (no_fault-headed (x ∷ before) st.label st.body good)) are.1)

pub program_of-titled : (text : List ℕ) → IfOk (program_of text) HasTitle
program_of-titled text = program_of-holds (λ _. HasTitle) (λ before st next. title_behind before st next.good) tt text

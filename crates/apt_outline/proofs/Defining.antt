-- A definition that is not refused.
use Rattle.std.proofs.Common.{◌≡◌, ℕ, List, Option, Some, Result, Ok, Err, subst, sym}
use Rattle.apt_words.specs.declared.Case.{Case}
use Rattle.apt_words.specs.declared.ask.Form.{Form}
use Rattle.apt_defs.specs.declared.figure.Figure.{Figure}
use Rattle.apt_defs.specs.Definitions.{figure_of}
use Rattle.apt_outline.specs.Holding.{Holding, IsDefined}

ok_no_err : (f : Figure) (case : Case) (r : Result Figure Case) → r ≡ Ok f → r ≡ Err case → ⊥
ok_no_err f case r e g = cc

pub not_refused : (here : Holding) (asked : Option (List ℕ × Form)) (name : List ℕ) (form : Form) (case : Case) → IsDefined here asked → Some (name, form) ≡ asked
    → figure_of here.units here.table form ≡ Err case → ⊥
not_refused here asked name form case defined is refused =
    let d = subst (IsDefined here) (sym is) defined in
    ok_no_err d.0 case (figure_of here.units here.table form) d.1 refused

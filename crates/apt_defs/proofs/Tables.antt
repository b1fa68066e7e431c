-- The figures of tables are in range.
use Rattle.std.proofs.Common.{ℕ, nat_eq, List, [], ◌∷◌, Bool, true, false, Option, Some, cond}
use Rattle.std.specs.Prelude.{IfSome}
use Rattle.std.specs.Map.{lookup}
use Rattle.std.specs.Cmp.Lexicographic.{pointwise}
use Rattle.indexmap.specs.IndexMap.{insert_entry}
use Rattle.apt_defs.specs.declared.figure.Figure.{Figure}
use Rattle.apt_defs.specs.Figures.{Table, IsFigure, AreFigures, figure_named, table_with}

either : (b : Bool) (f : Figure) (rest : Option Figure) → IsFigure f → IfSome rest IsFigure → IfSome (cond b (Some f) rest) IsFigure
either true f rest is later = is
either false f rest is later = later

found : (table : Table) (test : List ℕ → Bool) → AreFigures table → IfSome (lookup test table) IsFigure
found [] test are = tt
found (e ∷ es) test are = either (test e.0) e.1 (lookup test es) are.0 (found es test are.1)

-- a name's figure is in range
pub looked_up : (table : Table) (name : List ℕ) → AreFigures table → IfSome (figure_named table name) IsFigure
looked_up table name are = found table (pointwise nat_eq name) are

either_table : (b : Bool) (x y : Table) → AreFigures x → AreFigures y → AreFigures (cond b x y)
either_table true x y p q = p
either_table false x y p q = q

-- and stays in range where one name is given another
pub still_figures : (table : Table) (name : List ℕ) (f : Figure) → AreFigures table → IsFigure f → AreFigures (table_with table name f)
still_figures [] name f are is = (is, tt)
still_figures (e ∷ es) name f are is =
    either_table (pointwise nat_eq name e.0) ((e.0, f) ∷ es) (e ∷ insert_entry (pointwise nat_eq) es name f) (is, are.1) (are.0, still_figures es name f are.1 is)

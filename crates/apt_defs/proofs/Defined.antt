-- What a definition leaves behind, and why one is refused.
use Rattle.std.proofs.Common.{◌≡◌, ◌↔◌, ℕ, List, Some, refl, ap, ◌∙◌, Ok, Err}
use Rattle.std.specs.Prelude.{IsErrOf}
use Rattle.apt_words.specs.Asks.{Ask, Titles, Says, Sets, Defines, Goes, Cuts, Nothing, ask_of, defined_by}
use Rattle.apt_words.specs.declared.Case.{Case}
use Rattle.apt_words.specs.declared.Units.{Units}
use Rattle.apt_words.specs.declared.ask.Form.{Form}
use Rattle.apt_words.specs.declared.deed.Deed.{Deed}
use Rattle.apt_defs.specs.declared.figure.Figure.{Figure}
use Rattle.apt_defs.specs.Figures.{Table, table_with}
use Rattle.apt_defs.specs.Definitions.{figure_of, HasDefined, IsDefinition, IsRefusedBy}
use Rattle.apt_defs.proofs.Named.{given, others}

pub has_defined : (units : Units) (before : Table) (deed : Deed) (now : Table) (name : List ℕ) (form : Form) (f : Figure) → IsDefinition deed name form
    → figure_of units before form ≡ Ok f → now ≡ table_with before name f → HasDefined units before deed now
has_defined units before deed now name form f asked figure e = (
  name,
  form,
  f,
  record {
    asked = asked;
    figure = figure;
    table = e;
    set = rw e (given before name f);
    others = λ other apart. rw e (others before name f other apart);
  },
)

-- a step defines one name by one form
both_asked : (ask : Ask) (n m : List ℕ) (f g : Form) → ask ≡ Defines n f → ask ≡ Defines m g → (n ≡ m) × (f ≡ g)
both_asked ask n m f g p q = (cc, cc)

pub same_form : (deed : Deed) (n m : List ℕ) (f g : Form) → IsDefinition deed n f → IsDefinition deed m g → (n ≡ m) × (f ≡ g)
same_form deed n m f g p q = both_asked (ask_of deed) n m f g p q

-- an error is the same of any result
same_error : {A B E : Type 0} (e x : E) → IsErrOf {T = A} (Err e) x → IsErrOf {T = B} (Err e) x
same_error e x h = cc

-- what refuses the form refuses the step
pub refused_by : {A B E : Type 0} (units : Units) (t : Table) (deed : Deed) (name : List ℕ) (form : Form) (case : Case) (e x : E) → IsDefinition deed name form
    → IsErrOf {T = A} (Err e) x ↔ (figure_of units t form ≡ Err case) → IsErrOf {T = B} (Err e) x ↔ IsRefusedBy units t deed case
refused_by {A} {B} units t deed name form case e x asked by = (
  λ h. (name, form, asked, by.0 (same_error {A = B} {B = A} e x h)),
  λ is. same_error {A = A} {B = B} e x (by.1 (ap (λ f. figure_of units t f) (same_form deed name is.0 form is.1 asked is.2).1 ∙ is.3)),
)

one_definition : (d e : List ℕ × Form) → Some d ≡ Some e → d ≡ e
one_definition d e same = cc

-- what is defined is asked for
pub defined_asks : (ask : Ask) (name : List ℕ) (form : Form) → Some (name, form) ≡ defined_by ask → ask ≡ Defines name form
defined_asks (Defines n f) name form e =
    let same = one_definition (name, form) (n, f) e in
    rw (ap (λ (d : List ℕ × Form). d.0) same, ap (λ (d : List ℕ × Form). d.1) same) refl
defined_asks (Titles text) name form e = absurd (let f : ⊥ = cc in f)
defined_asks (Says saying) name form e = absurd (let f : ⊥ = cc in f)
defined_asks (Sets side) name form e = absurd (let f : ⊥ = cc in f)
defined_asks (Goes route) name form e = absurd (let f : ⊥ = cc in f)
defined_asks (Cuts contour n) name form e = absurd (let f : ⊥ = cc in f)
defined_asks Nothing name form e = absurd (let f : ⊥ = cc in f)

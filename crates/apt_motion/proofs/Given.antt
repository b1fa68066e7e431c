-- What a definition asks for, and what is behind it.
use Rattle.std.proofs.Common.{◌≡◌, ◌∙◌, ℕ, List, Result, Ok, Err, refl, sym, ap}
use Rattle.apt_words.specs.declared.Case.{Case}
use Rattle.apt_words.specs.Asks.{Defines}
use Rattle.apt_words.specs.declared.ask.Form.{Form}
use Rattle.apt_words.specs.Rows.{first_of}
use Rattle.apt_defs.specs.declared.figure.Figure.{Figure}
use Rattle.apt_defs.specs.Definitions.{figure_of}
use Rattle.apt_meaning.specs.declared.situation.Situation.{Situation}
use Rattle.apt_meaning.specs.declared.effect.Effect.{Effect}
use Rattle.apt_meaning.specs.declared.effect.Effect.TheVariants as effects
use Rattle.apt_meaning.specs.Effects.{names, defined}
use Rattle.apt_meaning.specs.Refusals.{refused, refused_form}
use Rattle.apt_meaning.specs.Compiled.{asked, asked_by}

abbrev named : List ℕ → Result Figure Case → Result Effect Case
named name (Ok f) = Ok (effects.Defines name f)
named name (Err case) = Err case

named_found : (name : List ℕ) (r : Result Figure Case) → asked (first_of (refused r)) (names name r) ≡ named name r
named_found name (Ok f) = refl
named_found name (Err case) = refl

pub form_asked : (here : Situation) (name : List ℕ) (form : Form) (r : Result Figure Case) → figure_of here.settings.units here.table form ≡ r → asked_by here (Defines name form) ≡ named name r
unfolding defined refused_form
form_asked here name form r figure = named_found name (figure_of here.settings.units here.table form) ∙ ap (named name) figure

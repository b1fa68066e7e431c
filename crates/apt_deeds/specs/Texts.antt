-- The statements of texts, which are copied, and those that define figures.
use Rattle.std.specs.Prelude.{Bool, true, false, is_some}
use Rattle.apt_words.specs.Composition.{composition}
use Rattle.apt_words.specs.declared.body.Body.{Body}
use Rattle.apt_words.specs.declared.body.Body.TheVariants as bodies

abbrev pub is_text : Body → Bool
is_text (bodies.Partno text) = true
is_text (bodies.Remark text) = true
is_text _ = false

-- what defines a name, and gives it no number
abbrev pub is_figure : Body → Bool
is_figure (bodies.Assign n e) = false
is_figure body = is_some (composition body).defines

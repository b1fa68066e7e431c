-- The shapes of settings: texts, units, the cutter, tolerances, feed, spindle, coolant, tools and cycles.
use Rattle.std.specs.Prelude.{ℕ, List, [], ◌∷◌, Option, Some, None}
use Rattle.apt_words.specs.declared.Units.{Units}
use Rattle.apt_words.specs.declared.Units.TheVariants as units
use Rattle.apt_words.specs.declared.Turn.{Turn}
use Rattle.apt_words.specs.declared.Turn.TheVariants as turns
use Rattle.apt_words.specs.declared.Cool.{Cool}
use Rattle.apt_words.specs.declared.Cool.TheVariants as cools
use Rattle.apt_words.specs.declared.body.Body.{Body}
use Rattle.apt_words.specs.declared.body.Body.TheVariants as bodies
use Rattle.apt_words.specs.declared.word.Word.{Word}
use Rattle.apt_words.specs.declared.word.Word.TheVariants as words
use Rattle.apt_words.specs.Options.{◌>>=◌}
use Rattle.apt_words.specs.Trees.{Tree}
use Rattle.apt_lexis.specs.declared.token.Token.{Token}
use Rattle.apt_expr.specs.Expressions.{expression}
use Rattle.apt_geometry.specs.Arguments.{word, says, pair, or_else}

-- PARTNO text, REMARK text
abbrev pub titled : Word → List ℕ → Option Body
titled words.Partno text = Some (bodies.Partno text)
titled words.Remark text = Some (bodies.Remark text)
titled _ text = None

-- the expression that stands alone
abbrev pub one : List (List Token) → Option Tree
one (e ∷ []) = expression e
one _ = None

abbrev pub expressions : List (List Token) → Option (List Tree)
expressions [] = Some []
expressions (a ∷ args) = expression a >>= λ e. expressions args >>= λ es. Some (e ∷ es)

-- MACHIN/ and a list of expressions
abbrev pub machin : List (List Token) → Option Body
machin args = expressions args >>= λ es. Some (bodies.Machin es)

abbrev pub units_of : Word → Option Units
units_of words.Inches = Some units.Inch
units_of words.Mm = Some units.Mm
units_of _ = None

-- UNITS/INCHES, UNITS/MM
abbrev pub units_in : List (List Token) → Option Body
units_in (a ∷ []) = word a >>= units_of >>= λ u. Some (bodies.Units u)
units_in _ = None

abbrev pub spindle_turn : Word → Option Turn
spindle_turn words.Clw = Some turns.Cw
spindle_turn words.Cclw = Some turns.Ccw
spindle_turn _ = None

abbrev pub spindl_off : List Token → Option Body
spindl_off a = says words.Off a >>= λ _. Some bodies.SpindlOff

abbrev pub spindl_on : List Token → Turn → Option Body
spindl_on e turn = expression e >>= λ e. Some (bodies.Spindl e turn)

-- SPINDL/OFF, SPINDL/e, SPINDL/e,CLW and SPINDL/e,CCLW
abbrev pub spindl : List (List Token) → Option Body
spindl (a ∷ []) = or_else (spindl_off a) (spindl_on a turns.Cw)
spindl (a ∷ b ∷ []) = word b >>= spindle_turn >>= λ turn. spindl_on a turn
spindl _ = None

abbrev pub cool_of : Word → Option Cool
cool_of words.Mist = Some cools.Mist
cool_of words.Flood = Some cools.Flood
cool_of words.Off = Some cools.Off
cool_of _ = None

-- COOLNT/FLOOD, COOLNT/MIST, COOLNT/OFF
abbrev pub coolnt : List (List Token) → Option Body
coolnt (a ∷ []) = word a >>= cool_of >>= λ c. Some (bodies.Coolnt c)
coolnt _ = None

-- CYCLE/OFF and CYCLE/DRILL,e,e
abbrev pub cycle : List (List Token) → Option Body
cycle (off ∷ []) = says words.Off off >>= λ _. Some bodies.CycleOff
cycle (drill ∷ d ∷ c ∷ []) = says words.Drill drill >>= λ _. pair d c >>= λ r. Some (bodies.CycleDrill r.0 r.1)
cycle _ = None

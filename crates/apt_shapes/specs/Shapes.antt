-- The shapes of statements: from tokens to what is said.
use Rattle.std.specs.Prelude.{ℕ, List, [], ◌∷◌, Option, Some, None}
use Rattle.apt_words.specs.declared.body.Body.{Body}
use Rattle.apt_words.specs.declared.body.Body.TheVariants as bodies
use Rattle.apt_words.specs.declared.Go.TheVariants as turns
use Rattle.apt_words.specs.declared.word.Word.{Word}
use Rattle.apt_words.specs.declared.word.Word.TheVariants as words
use Rattle.apt_words.specs.Options.{◌>>=◌}
use Rattle.apt_lexis.specs.declared.token.Token.{Token}
use Rattle.apt_lexis.specs.declared.token.Token.TheVariants as tokens
use Rattle.apt_shapes.specs.declared.table.Labelled.{Labelled}
use Rattle.apt_geometry.specs.Arguments.{arguments, or_else}
use Rattle.apt_geometry.specs.Figures.{assign, point, line, circle, patern}
use Rattle.apt_shapes.specs.Motions.{from, goto, godlta, start, contour, contour_behind, side_named}
use Rattle.apt_shapes.specs.Settings.{titled, one, machin, units_in, spindl, coolnt, cycle}
use Rattle.apt_shapes.specs.Flow.{macro, call, jumpto, if_in}

-- ---- one word

-- TLLFT, TLRGT, TLON
abbrev pub tool : Word → Option Body
tool w = side_named w >>= λ side. Some (bodies.Tool side)

abbrev pub command : Word → Option Body
command words.Clprnt = Some bodies.Clprnt
command words.Nopost = Some bodies.Nopost
command words.Rapid = Some bodies.Rapid
command words.Stop = Some bodies.Halt
command words.Opstop = Some bodies.OptHalt
command words.End = Some bodies.EndWord
command words.Fini = Some bodies.Fini
command words.Termac = Some bodies.Termac
command words.Loopst = Some bodies.Loopst
command words.Loopnd = Some bodies.Loopnd
command _ = None

abbrev pub alone : Word → Option Body
alone w = or_else (tool w) (command w)

-- ---- a word, a slash and arguments

abbrev pub with_arguments : Word → List (List Token) → Option Body
with_arguments words.Units args = units_in args
with_arguments words.Machin args = machin args
with_arguments words.Cutter args = one args >>= λ e. Some (bodies.Cutter e)
with_arguments words.Intol args = one args >>= λ e. Some (bodies.Intol e)
with_arguments words.Outtol args = one args >>= λ e. Some (bodies.Outtol e)
with_arguments words.Fedrat args = one args >>= λ e. Some (bodies.Fedrat e)
with_arguments words.Loadtl args = one args >>= λ e. Some (bodies.Loadtl e)
with_arguments words.From args = from args
with_arguments words.Goto args = goto args
with_arguments words.Godlta args = godlta args
with_arguments words.Go args = start args
with_arguments words.Golft args = contour None turns.Left args
with_arguments words.Gorgt args = contour None turns.Right args
with_arguments words.Gofwd args = contour None turns.Forward args
with_arguments words.Goback args = contour None turns.Back args
with_arguments words.Spindl args = spindl args
with_arguments words.Coolnt args = coolnt args
with_arguments words.Cycle args = cycle args
with_arguments words.Call args = call args
with_arguments words.Jumpto args = jumpto args
with_arguments _ args = None

-- ---- a name, an equals sign and a figure, a macro or an expression

abbrev pub figure : List ℕ → Word → List (List Token) → Option Body
figure n words.Point args = point n args
figure n words.Line args = line n args
figure n words.Circle args = circle n args
figure n words.Patern args = patern n args
figure n words.Macro args = macro n args
figure n _ args = None

abbrev pub macro_alone : List ℕ → Word → Option Body
macro_alone n words.Macro = Some (bodies.Macro n [])
macro_alone n _ = None

abbrev pub defined : List ℕ → List Token → Option Body
defined n (tokens.Word w ∷ tokens.Slash ∷ ts) = figure n w (arguments ts)
defined n (tokens.Word w ∷ []) = macro_alone n w
defined n _ = None

abbrev pub behind_equals : List ℕ → List Token → Option Body
behind_equals n ts = or_else (defined n ts) (assign n ts)

-- ---- statements

-- a tool word, a comma and a contour
abbrev pub with_side : Word → List Token → Option Body
with_side w ts = side_named w >>= λ side. contour_behind (Some side) ts

abbrev pub if_word : Word → List Token → Option Body
if_word words.If ts = if_in (arguments ts)
if_word _ ts = None

abbrev pub untitled : List Token → Option Body
untitled (tokens.Word w ∷ []) = alone w
untitled (tokens.Word w ∷ tokens.Slash ∷ ts) = with_arguments w (arguments ts)
untitled (tokens.Name n ∷ tokens.Equals ∷ ts) = behind_equals n ts
untitled (tokens.Word w ∷ tokens.Comma ∷ ts) = with_side w ts
untitled (tokens.Word w ∷ tokens.Open ∷ ts) = if_word w ts
untitled _ = None

-- a statement with a text is one word
abbrev pub with_text : List Token → List ℕ → Option Body
with_text (tokens.Word w ∷ []) text = titled w text
with_text _ text = None

abbrev pub body : List Token → Option (List ℕ) → Option Body
body ts None = untitled ts
body ts (Some text) = with_text ts text

abbrev pub labelled : Option (List ℕ) → Option Body → Option Labelled
labelled label body = body >>= λ b. Some (record { label = label; body = b })

-- what a statement says: it may begin with a label and a parenthesis
unfoldable pub shape : List Token → Option (List ℕ) → Option Labelled
shape (tokens.Name l ∷ tokens.Close ∷ ts) text = labelled (Some l) (body ts text)
shape ts text = labelled None (body ts text)

-- The text of PARTNO is the text of its statement.
use Rattle.std.proofs.Common.{ℕ, List, [], ◌∷◌, Option, Some, None}
use Rattle.std.specs.Prelude.{IfSome}
use Rattle.apt_words.specs.declared.Go.{Go}
use Rattle.apt_words.specs.declared.Side.{Side}
use Rattle.apt_words.specs.declared.Stop.{Stop}
use Rattle.apt_words.specs.declared.Stop.TheVariants as stops
use Rattle.apt_words.specs.declared.body.Body.{Body}
use Rattle.apt_words.specs.declared.body.Body.TheVariants as bodies
use Rattle.apt_words.specs.declared.word.Word.{Word}
use Rattle.apt_words.specs.declared.word.Word.TheVariants as words
use Rattle.apt_words.specs.declared.Go.TheVariants as turns
use Rattle.apt_words.specs.declared.Turn.TheVariants as spins
use Rattle.apt_words.specs.Options.{◌>>=◌}
use Rattle.apt_words.specs.Sources.{IsTitle, HasText}
use Rattle.apt_words.specs.Trees.{Tree}
use Rattle.apt_lexis.specs.declared.token.Token.{Token}
use Rattle.apt_lexis.specs.declared.token.Token.TheVariants as tokens
use Rattle.apt_expr.specs.Expressions.{expression}
use Rattle.apt_shapes.specs.declared.table.Labelled.{Labelled}
use Rattle.apt_geometry.specs.Arguments.{arguments, name, word, pick, is_left, stop, says, pair, or_else}
use Rattle.apt_geometry.specs.Figures.{assign, point_xy, point_xyz, point_center, point_lines, point, line_par, line_perp, line_xy, line_at, line_tan, line, circle_three, circle_through, circle_radius, circle_tan, circle, patern}
use Rattle.apt_shapes.specs.Motions.{from, goto, godlta, surface, start_one, start_two, start, side_named, turn_of, check_stop, once, count, between, contour, contour_behind}
use Rattle.apt_shapes.specs.Settings.{titled, one, expressions, units_of, units_in, spindle_turn, spindl_off, spindl_on, spindl, cool_of, coolnt, cycle}
use Rattle.apt_shapes.specs.Flow.{parameters, differ, names_of, macro, arguments_in, call, jumpto, condition, if_in}
use Rattle.apt_shapes.specs.Shapes.{tool, command, alone, with_arguments, figure, macro_alone, defined, behind_equals, if_word, untitled, with_text, body, labelled, shape}
use Rattle.apt_parse.proofs.TitleTexts.{only_if-holds}

-- a body that has a text only where it should
abbrev FitsText : Option Body → Type 0
FitsText b = IfSome b HasText

by : {A : Type 0} (o : Option A) (f : A → Option Body) → ((x : A) → FitsText (f x)) → FitsText (o >>= f)
by None f h = tt
by (Some x) f h = h x

either : (b other : Option Body) → FitsText b → FitsText other → FitsText (or_else b other)
either None other h h' = h'
either (Some b) other h h' = h

-- ---- figures

assign-fits : (n : List ℕ) (ts : List Token) → FitsText (assign n ts)
assign-fits n ts = by (expression ts) _ (λ e. tt)

point-fits : (n : List ℕ) (args : List (List Token)) → FitsText (point n args)
point-fits n (a ∷ b ∷ []) =
    either (point_center n a b) (point_xy n a b)
    (by (says words.Center a) _ (λ _. by (name b) _ (λ c. tt)))
    (by (expression a) _ (λ x. by (expression b) _ (λ y. tt)))
point-fits n (a ∷ b ∷ c ∷ []) =
    either (point_lines n a b c) (point_xyz n a b c)
    (by (says words.Intof a) _ (λ _. by (name b) _ (λ b. by (name c) _ (λ c. tt))))
    (by (expression a) _ (λ x. by (expression b) _ (λ y. by (expression c) _ (λ z. tt))))
point-fits n (a ∷ b ∷ c ∷ d ∷ []) = by (pick a) _ (λ k. by (says words.Intof b) _ (λ _. by (name c) _ (λ c. by (name d) _ (λ d. tt))))
point-fits n _ = tt

line-fits : (n : List ℕ) (args : List (List Token)) → FitsText (line n args)
line-fits n (a ∷ b ∷ []) = by (name a) _ (λ p. by (name b) _ (λ q. tt))
line-fits n (a ∷ b ∷ c ∷ []) =
    either (line_par n a b c) (line_perp n a b c)
    (by (name a) _ (λ p. by (says words.Parlel b) _ (λ _. by (name c) _ (λ l. tt))))
    (by (name a) _ (λ p. by (says words.Perpto b) _ (λ _. by (name c) _ (λ l. tt))))
line-fits n (a ∷ b ∷ c ∷ d ∷ []) =
    either (line_at n a b c d) (or_else (line_tan n a b c d) (line_xy n a b c d))
    (by (says words.Parlel a) _ (λ _. by (name b) _ (λ l. by (pick c) _ (λ k. by (expression d) _ (λ e. tt)))))
    (either (line_tan n a b c d) (line_xy n a b c d)
    (by (name a) _ (λ p. by (is_left b) _ (λ h. by (says words.Tanto c) _ (λ _. by (name d) _ (λ c. tt)))))
    (by (expression a) _ (λ x. by (expression b) _ (λ y. by (expression c) _ (λ u. by (expression d) _ (λ v. tt))))))
line-fits n (a ∷ b ∷ c ∷ d ∷ e ∷ f ∷ []) =
    by (is_left a) _ (λ h. by (says words.Tanto b) _ (λ _. by (name c) _ (λ c. by (is_left d) _ (λ k. by (says words.Tanto e) _ (λ _. by (name f) _ (λ d. tt))))))
line-fits n _ = tt

circle-fits : (n : List ℕ) (args : List (List Token)) → FitsText (circle n args)
circle-fits n (a ∷ b ∷ c ∷ []) =
    either (circle_through n a b c) (circle_three n a b c)
    (by (says words.Center a) _ (λ _. by (name b) _ (λ p. by (name c) _ (λ q. tt))))
    (by (expression a) _ (λ x. by (expression b) _ (λ y. by (expression c) _ (λ r. tt))))
circle-fits n (a ∷ b ∷ c ∷ d ∷ []) =
    either (circle_radius n a b c d) (circle_tan n a b c d)
    (by (says words.Center a) _ (λ _. by (name b) _ (λ p. by (says words.Radius c) _ (λ _. by (expression d) _ (λ e. tt)))))
    (by (says words.Center a) _ (λ _. by (name b) _ (λ p. by (says words.Tanto c) _ (λ _. by (name d) _ (λ l. tt)))))
circle-fits n (a ∷ b ∷ c ∷ d ∷ e ∷ f ∷ []) =
    by (pick a) _ (λ j. by (name b) _ (λ a. by (pick c) _ (λ k. by (name d) _ (λ b. by (says words.Radius e) _ (λ _. by (expression f) _ (λ e. tt))))))
circle-fits n _ = tt

patern-fits : (n : List ℕ) (args : List (List Token)) → FitsText (patern n args)
patern-fits n (linear ∷ p ∷ q ∷ e ∷ []) = by (says words.Linear linear) _ (λ _. by (name p) _ (λ p. by (name q) _ (λ q. by (expression e) _ (λ e. tt))))
patern-fits n _ = tt

macro-fits : (n : List ℕ) (args : List (List Token)) → FitsText (macro n args)
macro-fits n args = by (parameters args) _ (λ ps. only_if-holds HasText (differ (names_of ps)) (bodies.Macro n ps) tt)

figure-fits : (n : List ℕ) (w : Word) (args : List (List Token)) → FitsText (figure n w args)
figure-fits n words.Point args = point-fits n args
figure-fits n words.Line args = line-fits n args
figure-fits n words.Circle args = circle-fits n args
figure-fits n words.Patern args = patern-fits n args
figure-fits n words.Macro args = macro-fits n args
figure-fits n _ args = tt

macro_alone-fits : (n : List ℕ) (w : Word) → FitsText (macro_alone n w)
macro_alone-fits n words.Macro = tt
macro_alone-fits n _ = tt

defined-fits : (n : List ℕ) (ts : List Token) → FitsText (defined n ts)
defined-fits n (tokens.Word w ∷ tokens.Slash ∷ ts) = figure-fits n w (arguments ts)
defined-fits n (tokens.Word w ∷ []) = macro_alone-fits n w
defined-fits n _ = tt

behind_equals-fits : (n : List ℕ) (ts : List Token) → FitsText (behind_equals n ts)
behind_equals-fits n ts = either (defined n ts) (assign n ts) (defined-fits n ts) (assign-fits n ts)

-- ---- motions

from-fits : (args : List (List Token)) → FitsText (from args)
from-fits (p ∷ []) = by (name p) _ (λ p. tt)
from-fits (x ∷ y ∷ []) = by (expression x) _ (λ x. by (expression y) _ (λ y. tt))
from-fits (x ∷ y ∷ z ∷ []) = by (expression x) _ (λ x. by (expression y) _ (λ y. by (expression z) _ (λ z. tt)))
from-fits _ = tt

goto-fits : (args : List (List Token)) → FitsText (goto args)
goto-fits (p ∷ []) = by (name p) _ (λ p. tt)
goto-fits (x ∷ y ∷ []) = by (expression x) _ (λ x. by (expression y) _ (λ y. tt))
goto-fits (x ∷ y ∷ z ∷ []) = by (expression x) _ (λ x. by (expression y) _ (λ y. by (expression z) _ (λ z. tt)))
goto-fits _ = tt

godlta-fits : (args : List (List Token)) → FitsText (godlta args)
godlta-fits (x ∷ y ∷ z ∷ []) = by (expression x) _ (λ x. by (expression y) _ (λ y. by (expression z) _ (λ z. tt)))
godlta-fits _ = tt

start_one-fits : (a : List (List Token)) → FitsText (start_one a)
start_one-fits a = by (surface a) _ (λ s. tt)

start_two-fits : (a b : List (List Token)) → FitsText (start_two a b)
start_two-fits a b = by (surface a) _ (λ s. by (surface b) _ (λ t. tt))

start-fits : (args : List (List Token)) → FitsText (start args)
start-fits (a ∷ []) = start_one-fits (a ∷ [])
start-fits (a ∷ b ∷ []) = either (start_one (a ∷ b ∷ [])) (start_two (a ∷ []) (b ∷ [])) (start_one-fits (a ∷ b ∷ [])) (start_two-fits (a ∷ []) (b ∷ []))
start-fits (a ∷ b ∷ c ∷ []) =
    either (start_two (a ∷ b ∷ []) (c ∷ [])) (start_two (a ∷ []) (b ∷ c ∷ [])) (start_two-fits (a ∷ b ∷ []) (c ∷ [])) (start_two-fits (a ∷ []) (b ∷ c ∷ []))
start-fits (a ∷ b ∷ c ∷ d ∷ []) = start_two-fits (a ∷ b ∷ []) (c ∷ d ∷ [])
start-fits _ = tt

between-fits : (side : Option Side) (turn : Go) (drive : List Token) (q : Option Stop) (e : Option Tree) (check : List Token) → FitsText (between side turn drive q e check)
between-fits side turn drive q e check = by (name drive) _ (λ drive. by q _ (λ q. by e _ (λ e. by (name check) _ (λ check. tt))))

contour-fits : (side : Option Side) (turn : Go) (args : List (List Token)) → FitsText (contour side turn args)
contour-fits side turn (drive ∷ check ∷ []) = between-fits side turn drive (Some stops.To) (Some once) check
contour-fits side turn (drive ∷ q ∷ check ∷ []) = between-fits side turn drive (check_stop q) (Some once) check
contour-fits side turn (drive ∷ e ∷ intof ∷ check ∷ []) = between-fits side turn drive (Some stops.To) (count e intof) check
contour-fits side turn (drive ∷ q ∷ e ∷ intof ∷ check ∷ []) = between-fits side turn drive (stop q) (count e intof) check
contour-fits side turn _ = tt

contour_behind-fits : (side : Option Side) (ts : List Token) → FitsText (contour_behind side ts)
contour_behind-fits side (tokens.Word w ∷ tokens.Slash ∷ ts) = by (turn_of w) _ (λ turn. contour-fits side turn (arguments ts))
contour_behind-fits side _ = tt

-- ---- settings

units_in-fits : (args : List (List Token)) → FitsText (units_in args)
units_in-fits (a ∷ []) = by (word a >>= units_of) _ (λ u. tt)
units_in-fits _ = tt

spindl-fits : (args : List (List Token)) → FitsText (spindl args)
spindl-fits (a ∷ []) = either (spindl_off a) (spindl_on a spins.Cw) (by (says words.Off a) _ (λ _. tt)) (by (expression a) _ (λ e. tt))
spindl-fits (a ∷ b ∷ []) = by (word b >>= spindle_turn) _ (λ turn. by (expression a) _ (λ e. tt))
spindl-fits _ = tt

coolnt-fits : (args : List (List Token)) → FitsText (coolnt args)
coolnt-fits (a ∷ []) = by (word a >>= cool_of) _ (λ c. tt)
coolnt-fits _ = tt

cycle-fits : (args : List (List Token)) → FitsText (cycle args)
cycle-fits (off ∷ []) = by (says words.Off off) _ (λ _. tt)
cycle-fits (drill ∷ d ∷ c ∷ []) = by (says words.Drill drill) _ (λ _. by (pair d c) _ (λ r. tt))
cycle-fits _ = tt

call-fits : (args : List (List Token)) → FitsText (call args)
call-fits (m ∷ args) = by (name m) _ (λ m. by (arguments_in args) _ (λ ps. tt))
call-fits _ = tt

jumpto-fits : (args : List (List Token)) → FitsText (jumpto args)
jumpto-fits (l ∷ []) = by (name l) _ (λ l. tt)
jumpto-fits _ = tt

if_in-fits : (args : List (List Token)) → FitsText (if_in args)
if_in-fits (a ∷ b ∷ c ∷ []) = by (condition a) _ (λ cond. by (expression cond.0) _ (λ e. by (name b) _ (λ b. by (name c) _ (λ c. tt))))
if_in-fits _ = tt

command-fits : (w : Word) → FitsText (command w)
command-fits words.Clprnt = tt
command-fits words.Nopost = tt
command-fits words.Rapid = tt
command-fits words.Stop = tt
command-fits words.Opstop = tt
command-fits words.End = tt
command-fits words.Fini = tt
command-fits words.Termac = tt
command-fits words.Loopst = tt
command-fits words.Loopnd = tt
command-fits _ = tt

with_arguments-fits : (w : Word) (args : List (List Token)) → FitsText (with_arguments w args)
with_arguments-fits words.Units args = units_in-fits args
with_arguments-fits words.Machin args = by (expressions args) _ (λ es. tt)
with_arguments-fits words.Cutter args = by (one args) _ (λ e. tt)
with_arguments-fits words.Intol args = by (one args) _ (λ e. tt)
with_arguments-fits words.Outtol args = by (one args) _ (λ e. tt)
with_arguments-fits words.Fedrat args = by (one args) _ (λ e. tt)
with_arguments-fits words.Loadtl args = by (one args) _ (λ e. tt)
with_arguments-fits words.From args = from-fits args
with_arguments-fits words.Goto args = goto-fits args
with_arguments-fits words.Godlta args = godlta-fits args
with_arguments-fits words.Go args = start-fits args
with_arguments-fits words.Golft args = contour-fits None turns.Left args
with_arguments-fits words.Gorgt args = contour-fits None turns.Right args
with_arguments-fits words.Gofwd args = contour-fits None turns.Forward args
with_arguments-fits words.Goback args = contour-fits None turns.Back args
with_arguments-fits words.Spindl args = spindl-fits args
with_arguments-fits words.Coolnt args = coolnt-fits args
with_arguments-fits words.Cycle args = cycle-fits args
with_arguments-fits words.Call args = call-fits args
with_arguments-fits words.Jumpto args = jumpto-fits args
with_arguments-fits _ args = tt

-- ---- statements

if_word-fits : (w : Word) (ts : List Token) → FitsText (if_word w ts)
if_word-fits words.If ts = if_in-fits (arguments ts)
if_word-fits _ ts = tt

alone-fits : (w : Word) → FitsText (alone w)
alone-fits w = either (tool w) (command w) (by (side_named w) _ (λ side. tt)) (command-fits w)

untitled-fits : (ts : List Token) → FitsText (untitled ts)
untitled-fits (tokens.Word w ∷ []) = alone-fits w
untitled-fits (tokens.Word w ∷ tokens.Slash ∷ ts) = with_arguments-fits w (arguments ts)
untitled-fits (tokens.Name n ∷ tokens.Equals ∷ ts) = behind_equals-fits n ts
untitled-fits (tokens.Word w ∷ tokens.Comma ∷ ts) = by (side_named w) _ (λ side. contour_behind-fits (Some side) ts)
untitled-fits (tokens.Word w ∷ tokens.Open ∷ ts) = if_word-fits w ts
untitled-fits _ = tt

titled-fits : (w : Word) (text : List ℕ) → IsTitle text → FitsText (titled w text)
titled-fits words.Partno text h = h
titled-fits words.Remark text h = tt
titled-fits _ text h = tt

with_text-fits : (ts : List Token) (text : List ℕ) → IsTitle text → FitsText (with_text ts text)
with_text-fits (tokens.Word w ∷ []) text h = titled-fits w text h
with_text-fits _ text h = tt

body-fits : (ts : List Token) (text : Option (List ℕ)) → IfSome text IsTitle → FitsText (body ts text)
body-fits ts None h = untitled-fits ts
body-fits ts (Some text) h = with_text-fits ts text h

abbrev pub HasTextSaid : Labelled → Type 0
HasTextSaid s = HasText s.body

-- with a label or without
labelled-fits : (label : Option (List ℕ)) (b : Option Body) → FitsText b → IfSome (labelled label b) HasTextSaid
labelled-fits label None h = tt
labelled-fits label (Some b) h = h

pub shape-fits : (ts : List Token) (text : Option (List ℕ)) → IfSome text IsTitle → IfSome (shape ts text) HasTextSaid
unfolding shape
shape-fits (tokens.Name l ∷ tokens.Close ∷ ts) text h = labelled-fits (Some l) (body ts text) (body-fits ts text h)
shape-fits ts text h = labelled-fits None (body ts text) (body-fits ts text h)

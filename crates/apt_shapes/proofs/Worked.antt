-- Statements, which the checker reads.
use Rattle.std.specs.Prelude.{◌≡◌, ℕ, pos, true, List, [], ◌∷◌, Option, Some, None, Ok, Err, codes}
use Rattle.std.proofs.Common.{refl, option_map}
use Rattle.apt_words.specs.Vocabulary.{word_of}
use Rattle.apt_words.specs.declared.Side.TheVariants as sides
use Rattle.apt_words.specs.declared.Go.TheVariants as turns
use Rattle.apt_words.specs.declared.Stop.TheVariants as stops
use Rattle.apt_words.specs.declared.Turn.TheVariants as spins
use Rattle.apt_words.specs.declared.Pick.TheVariants as picks
use Rattle.apt_words.specs.declared.expr.Op.TheVariants as ops
use Rattle.apt_words.specs.declared.body.Body.{Body}
use Rattle.apt_words.specs.declared.body.Body.TheVariants as bodies
use Rattle.apt_words.specs.Trees.{Tree, Num, Name, Neg, Bin}
use Rattle.apt_words.proofs.Contours.{contouring}
use Rattle.apt_lexis.specs.Tokens.{Tokens, tokens_of}
use Rattle.apt_expr.specs.Expressions.{expression}
use Rattle.apt_shapes.specs.declared.table.Labelled.{Labelled}
use Rattle.apt_shapes.specs.Shapes.{shape}

abbrev of_tokens : Tokens → Option Labelled
of_tokens (Ok ts) = shape ts None
of_tokens (Err cause) = None

abbrev body : List ℕ → Option Body
body text = option_map (λ s. s.body) (of_tokens (tokens_of text))

abbrev label : List ℕ → Option (Option (List ℕ))
label text = option_map (λ s. s.label) (of_tokens (tokens_of text))

abbrev n : ℕ → Tree
n v = Num (pos v)

quotient_of_names : body (codes "A=B/2") ≡ Some (bodies.Assign (codes "A") (Bin ops.Div (Name (codes "B")) (n 2000000)))
unfolding shape expression word_of
quotient_of_names = refl

three_coordinates : body (codes "GOTO/1,A,-3") ≡ Some (bodies.GotoXy (n 1000000) (Name (codes "A")) (Some (Neg (n 3000000))))
unfolding shape expression word_of
three_coordinates = refl

four_coordinates : body (codes "GOTO/1,2,3,4") ≡ None
unfolding shape expression word_of
four_coordinates = refl

a_point : body (codes "GOTO/P1") ≡ Some (bodies.GotoPoint (codes "P1"))
unfolding shape expression word_of
a_point = refl

one_coordinate : body (codes "GOTO/1") ≡ None
unfolding shape expression word_of
one_coordinate = refl

with_tool_word : body (codes "TLRGT,GORGT/L1,PAST,L2") ≡ Some (bodies.Contour (contouring (Some sides.Right) turns.Right (codes "L1") stops.Past (codes "L2")) (n 1000000))
unfolding shape expression word_of
with_tool_word = refl

to_left_out : body (codes "GOFWD/L1,C1") ≡ Some (bodies.Contour (contouring None turns.Forward (codes "L1") stops.To (codes "C1")) (n 1000000))
unfolding shape expression word_of
to_left_out = refl

second_meeting : body (codes "GOFWD/L1,ON,2,INTOF,C1") ≡ Some (bodies.Contour (contouring None turns.Forward (codes "L1") stops.On (codes "C1")) (n 2000000))
unfolding shape expression word_of
second_meeting = refl

meeting_by_expression : body (codes "TLON,GOLFT/C1,K/2,INTOF,LY") ≡ Some (bodies.Contour (contouring (Some sides.On) turns.Left (codes "C1") stops.To (codes "LY")) (Bin ops.Div (Name (codes "K")) (n 2000000)))
unfolding shape expression word_of
meeting_by_expression = refl

no_second_tangency : body (codes "GOFWD/L1,TANTO,2,INTOF,C1") ≡ None
unfolding shape expression word_of
no_second_tangency = refl

no_count : body (codes "GOFWD/L1,ON,INTOF,C1") ≡ None
unfolding shape expression word_of
no_count = refl

pattern : body (codes "A=PATERN/LINEAR,P1,P2,4") ≡ Some (bodies.Patern (codes "A") (codes "P1") (codes "P2") (n 4000000))
unfolding shape expression word_of
pattern = refl

drilling : body (codes "CYCLE/DRILL,.25,.1") ≡ Some (bodies.CycleDrill (n 250000) (n 100000))
unfolding shape expression word_of
drilling = refl

no_more_drilling : body (codes "CYCLE/OFF") ≡ Some bodies.CycleOff
unfolding shape expression word_of
no_more_drilling = refl

depth_alone : body (codes "CYCLE/DRILL,.25") ≡ None
unfolding shape expression word_of
depth_alone = refl

two_surfaces : body (codes "GO/L1,ON,L2") ≡ Some (bodies.GoStart stops.To (codes "L1") (Some (stops.On, codes "L2")))
unfolding shape expression word_of
two_surfaces = refl

one_surface : body (codes "GO/PAST,C") ≡ Some (bodies.GoStart stops.Past (codes "C") None)
unfolding shape expression word_of
one_surface = refl

no_tanto : body (codes "GO/TANTO,C") ≡ None
unfolding shape expression word_of
no_tanto = refl

parallel_line : body (codes "L=LINE/PARLEL,K,XLARGE,2") ≡ Some (bodies.LineAt (codes "L") (codes "K") picks.XLarge (n 2000000))
unfolding shape expression word_of
parallel_line = refl

tangent_line : body (codes "L=LINE/P,LEFT,TANTO,C") ≡ Some (bodies.LineTan (codes "L") (codes "P") true (codes "C"))
unfolding shape expression word_of
tangent_line = refl

clockwise : body (codes "SPINDL/1200") ≡ Some (bodies.Spindl (n 1200000000) spins.Cw)
unfolding shape expression word_of
clockwise = refl

three_labels : body (codes "IF (A-(B)) LA,LB,LC") ≡ Some (bodies.If (Bin ops.Sub (Name (codes "A")) (Name (codes "B"))) (codes "LA") (codes "LB") (codes "LC"))
unfolding shape expression word_of
three_labels = refl

parameters : body (codes "M=MACRO/A,B=2") ≡ Some (bodies.Macro (codes "M") ((codes "A", None) ∷ (codes "B", Some (n 2000000)) ∷ []))
unfolding shape expression word_of
parameters = refl

parameter_twice : body (codes "M=MACRO/A,A=2") ≡ None
unfolding shape expression word_of
parameter_twice = refl

labelled : label (codes "LA)STOP") ≡ Some (Some (codes "LA"))
unfolding shape expression word_of
labelled = refl

vocabulary_label : label (codes "GOTO)STOP") ≡ None
unfolding shape expression word_of
vocabulary_label = refl

vocabulary_name : body (codes "LINE=1") ≡ None
unfolding shape expression word_of
vocabulary_name = refl

empty_list : body (codes "MACHIN/") ≡ None
unfolding shape expression word_of
empty_list = refl

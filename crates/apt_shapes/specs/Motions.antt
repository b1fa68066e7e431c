-- The shapes of motions: FROM, GOTO, GODLTA, GO and contours.
use Rattle.std.specs.Prelude.{ℕ, pos, List, [], ◌∷◌, Option, Some, None}
use Rattle.apt_words.specs.declared.Side.{Side}
use Rattle.apt_words.specs.declared.Side.TheVariants as sides
use Rattle.apt_words.specs.declared.Go.{Go}
use Rattle.apt_words.specs.declared.Go.TheVariants as turns
use Rattle.apt_words.specs.declared.Stop.{Stop}
use Rattle.apt_words.specs.declared.Stop.TheVariants as stops
use Rattle.apt_words.specs.declared.body.Body.{Body}
use Rattle.apt_words.specs.declared.body.Body.TheVariants as bodies
use Rattle.apt_words.specs.declared.word.Word.{Word}
use Rattle.apt_words.specs.declared.word.Word.TheVariants as words
use Rattle.apt_words.specs.Options.{◌>>=◌, only_if}
use Rattle.apt_words.specs.Trees.{Tree, Num}
use Rattle.apt_lexis.specs.declared.token.Token.{Token}
use Rattle.apt_lexis.specs.declared.token.Token.TheVariants as tokens
use Rattle.apt_expr.specs.Expressions.{expression}
use Rattle.apt_geometry.specs.Arguments.{arguments, name, stop, is_word, says, or_else}

-- FROM/p, FROM/e,e and FROM/e,e,e
abbrev pub from : List (List Token) → Option Body
from (p ∷ []) = name p >>= λ p. Some (bodies.FromPoint p)
from (x ∷ y ∷ []) = expression x >>= λ x. expression y >>= λ y. Some (bodies.FromXy x y None)
from (x ∷ y ∷ z ∷ []) = expression x >>= λ x. expression y >>= λ y. expression z >>= λ z. Some (bodies.FromXy x y (Some z))
from _ = None

-- GOTO/p, GOTO/e,e and GOTO/e,e,e
abbrev pub goto : List (List Token) → Option Body
goto (p ∷ []) = name p >>= λ p. Some (bodies.GotoPoint p)
goto (x ∷ y ∷ []) = expression x >>= λ x. expression y >>= λ y. Some (bodies.GotoXy x y None)
goto (x ∷ y ∷ z ∷ []) = expression x >>= λ x. expression y >>= λ y. expression z >>= λ z. Some (bodies.GotoXy x y (Some z))
goto _ = None

-- GODLTA/e,e,e
abbrev pub godlta : List (List Token) → Option Body
godlta (x ∷ y ∷ z ∷ []) = expression x >>= λ x. expression y >>= λ y. expression z >>= λ z. Some (bodies.Godlta x y z)
godlta _ = None

-- ---- GO/[q,]s[,[q,]s]

-- a surface with its modifier, TO where it is left out
abbrev pub surface : List (List Token) → Option (Stop × List ℕ)
surface (s ∷ []) = name s >>= λ s. Some (stops.To, s)
surface (q ∷ s ∷ []) = stop q >>= λ q. name s >>= λ s. Some (q, s)
surface _ = None

abbrev pub start_one : List (List Token) → Option Body
start_one a = surface a >>= λ s. Some (bodies.GoStart s.0 s.1 None)

abbrev pub start_two : List (List Token) → List (List Token) → Option Body
start_two a b = surface a >>= λ s. surface b >>= λ t. Some (bodies.GoStart s.0 s.1 (Some t))

abbrev pub start : List (List Token) → Option Body
start (a ∷ []) = start_one (a ∷ [])
start (a ∷ b ∷ []) = or_else (start_one (a ∷ b ∷ [])) (start_two (a ∷ []) (b ∷ []))
start (a ∷ b ∷ c ∷ []) = or_else (start_two (a ∷ b ∷ []) (c ∷ [])) (start_two (a ∷ []) (b ∷ c ∷ []))
start (a ∷ b ∷ c ∷ d ∷ []) = start_two (a ∷ b ∷ []) (c ∷ d ∷ [])
start _ = None

-- ---- contours: a turn word, the drive surface, and the check surface with its modifier and with the count of its meetings

abbrev pub side_named : Word → Option Side
side_named words.Tllft = Some sides.Left
side_named words.Tlrgt = Some sides.Right
side_named words.Tlon = Some sides.On
side_named _ = None

abbrev pub turn_of : Word → Option Go
turn_of words.Golft = Some turns.Left
turn_of words.Gorgt = Some turns.Right
turn_of words.Gofwd = Some turns.Forward
turn_of words.Goback = Some turns.Back
turn_of _ = None

-- TO, ON, PAST or TANTO
abbrev pub check_stop : List Token → Option Stop
check_stop a = or_else (stop a) (only_if (is_word words.Tanto a) stops.Tanto)

-- the count where none is said: 1, in millionths
abbrev pub once : Tree
once = Num (pos 1000000)

-- e,INTOF
abbrev pub count : List Token → List Token → Option Tree
count e intof = expression e >>= λ e. says words.Intof intof >>= λ _. Some e

abbrev pub between : Option Side → Go → List Token → Option Stop → Option Tree → List Token → Option Body
between side turn drive q e check =
    name drive >>= λ drive. q >>= λ q. e >>= λ e. name check >>= λ check. Some (bodies.Contour (record { side = side; go = turn; drive = drive; stop = q; check = check }) e)

-- s,s and s,q,s; with a count s,e,INTOF,s and s,q,e,INTOF,s, where q is not TANTO
abbrev pub contour : Option Side → Go → List (List Token) → Option Body
contour side turn (drive ∷ check ∷ []) = between side turn drive (Some stops.To) (Some once) check
contour side turn (drive ∷ q ∷ check ∷ []) = between side turn drive (check_stop q) (Some once) check
contour side turn (drive ∷ e ∷ intof ∷ check ∷ []) = between side turn drive (Some stops.To) (count e intof) check
contour side turn (drive ∷ q ∷ e ∷ intof ∷ check ∷ []) = between side turn drive (stop q) (count e intof) check
contour side turn _ = None

-- a contour behind a tool word and a comma
abbrev pub contour_behind : Option Side → List Token → Option Body
contour_behind side (tokens.Word w ∷ tokens.Slash ∷ ts) = turn_of w >>= λ turn. contour side turn (arguments ts)
contour_behind side _ = None

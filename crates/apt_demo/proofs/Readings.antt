-- The lines of the part of `demo`, what is read in them, and what their statements do.
use Rattle.std.proofs.Common.{◌≡◌, ℕ, zero, suc, ◌+◌, ◌*◌, ◌≤◌, ◌<◌, ◌&&◌, not, nat_lt, Bool, true, false, List, [], ◌∷◌, ◌++◌, map, length, Option, Some, None, is_some, Ok, Err, inl, inr, refl, arith}
use Rattle.std.specs.Prelude.{ℤ, pos, negsuc, ◌+ℤ◌, codes, if◌then◌else◌}
use Rattle.std.specs.Fmt.{decimal, signed_decimal, digits}
use Rattle.std.specs.List.{list_all}
use Rattle.std.proofs.lemmas.Bool.{cases_lt}
use Rattle.apt_words.specs.Trees.{Tree, Num, Neg}
use Rattle.apt_words.specs.Vocabulary.{word_of}
use Rattle.apt_words.specs.Flow.{Onward}
use Rattle.apt_words.specs.Composition.{flow_of}
use Rattle.apt_words.specs.Asks.{ask_of, asks_end}
use Rattle.apt_words.specs.declared.Go.TheVariants as turns
use Rattle.apt_words.specs.declared.Side.TheVariants as sides
use Rattle.apt_words.specs.declared.Stop.TheVariants as stops
use Rattle.apt_words.specs.declared.word.Word.TheVariants as words
use Rattle.apt_words.specs.declared.body.Body.{Body}
use Rattle.apt_words.specs.declared.body.Body.TheVariants as bodies
use Rattle.apt_words.specs.declared.body.Stmt.{Stmt}
use Rattle.apt_words.specs.declared.deed.Deed.{Deed}
use Rattle.apt_words.specs.declared.deed.Deed.TheVariants as deeds
use Rattle.apt_lexis.specs.declared.token.Token.TheVariants as tokens
use Rattle.apt_lexis.proofs.PlainLines.{is_plain}
use Rattle.apt_lexis.specs.Titles.{title_or_labelled}
use Rattle.apt_lexis.specs.Tokens.{Tokens, tokens_of}
use Rattle.apt_lexis.specs.Sentences.{said_on, goes_on}
use Rattle.apt_expr.specs.Expressions.{expression}
use Rattle.apt_shapes.specs.declared.table.Labelled.{Labelled}
use Rattle.apt_shapes.specs.Shapes.{shape}
use Rattle.apt_parse.specs.Statements.{is_misplaced_heading}
use Rattle.apt_scalar.specs.Meanings.{Names}
use Rattle.apt_deeds.specs.Deeds.{by_values, executed, deed_of}
use Rattle.apt_lines.specs.Decimals.{pointed, signed_pointed}
use Rattle.apt_demo.specs.Demo.{centre_x, centre_y, radius, clear_x, pair}
use Rattle.apt_demo.proofs.Deeds.{deeds_about, circle_deeds, deeds_from}
use Rattle.apt_words.proofs.Alike.{heads, tails}
use Rattle.apt_words.proofs.Contours.{contouring}

-- ---- lines, without their line feeds

abbrev circle_text : ℤ → ℤ → ℕ → List ℕ
circle_text x y r = codes "C=CIRCLE/" ++ (pair x y ++ (codes "," ++ pointed 2 r))

abbrev line_text : ℤ → ℤ → List ℕ
line_text x y = codes "L=LINE/" ++ (pair x y ++ (codes "," ++ pair (x +ℤ pos 1) y))

abbrev goto_text : ℤ → ℤ → List ℕ
goto_text x y = codes "GOTO/" ++ (signed_pointed 2 x ++ (codes "," ++ (signed_decimal y ++ codes ",.5")))

-- the lines of a circle with this centre, this radius and this point to the right of it
abbrev pub lines_about : ℤ → ℤ → ℕ → ℤ → List (List ℕ)
lines_about x y r clear =
    circle_text x y r
    ∷ line_text x y
    ∷ codes "RAPID"
    ∷ goto_text clear y
    ∷ codes "GODLTA/0,0,-.5"
    ∷ codes "GO/TO,C"
    ∷ codes "GORGT/C,ON,L"
    ∷ codes "GOFWD/C,ON,L"
    ∷ codes "GODLTA/0,0,.5"
    ∷ []

abbrev pub circle_lines : ℕ → List (List ℕ)
circle_lines k = lines_about (centre_x k) (centre_y k) (radius k) (clear_x k)

-- those of so many circles from the k-th on
abbrev pub lines_from : ℕ → ℕ → List (List ℕ)
lines_from k zero = []
lines_from k (suc m) = circle_lines k ++ lines_from (k + 1) m

abbrev pub title_line : ℕ → List ℕ
title_line n = codes "PARTNO DEMO " ++ decimal n

-- the lines in front of the circles, behind the title
abbrev first_lines : List (List ℕ)
first_lines = codes "CUTTER/.5" ∷ codes "FEDRAT/10" ∷ codes "FROM/-450,-450,.5" ∷ codes "TLRGT" ∷ []

-- all lines but the title and FINI
abbrev pub inner_lines : ℕ → List (List ℕ)
inner_lines n = first_lines ++ lines_from 0 n

abbrev pub last_line : List ℕ
last_line = codes "FINI"

abbrev pub demo_lines : ℕ → List (List ℕ)
demo_lines n = title_line n ∷ (inner_lines n ++ last_line ∷ [])

-- ---- statements

-- a whole number of so many millionths
abbrev tree : ℕ → ℤ → Tree
tree scale (pos n) = Num (pos (n * scale))
tree scale (negsuc n) = Neg (Num (pos ((n + 1) * scale)))

abbrev bodies_about : ℤ → ℤ → ℕ → ℤ → List Body
bodies_about x y r clear =
    bodies.CircleThree (codes "C") (tree 1000000 x) (tree 1000000 y) (tree 10000 (pos r))
    ∷ bodies.LineXy (codes "L") (tree 1000000 x) (tree 1000000 y) (tree 1000000 (x +ℤ pos 1), tree 1000000 y)
    ∷ bodies.Rapid
    ∷ bodies.GotoXy (tree 10000 clear) (tree 1000000 y) (Some (Num (pos 500000)))
    ∷ bodies.Godlta (Num (pos 0)) (Num (pos 0)) (Neg (Num (pos 500000)))
    ∷ bodies.GoStart stops.To (codes "C") None
    ∷ bodies.Contour (contouring None turns.Right (codes "C") stops.On (codes "L")) (Num (pos 1000000))
    ∷ bodies.Contour (contouring None turns.Forward (codes "C") stops.On (codes "L")) (Num (pos 1000000))
    ∷ bodies.Godlta (Num (pos 0)) (Num (pos 0)) (Num (pos 500000))
    ∷ []

abbrev circle_bodies : ℕ → List Body
circle_bodies k = bodies_about (centre_x k) (centre_y k) (radius k) (clear_x k)

abbrev bodies_from : ℕ → ℕ → List Body
bodies_from k zero = []
bodies_from k (suc m) = circle_bodies k ++ bodies_from (k + 1) m

abbrev first_bodies : List Body
first_bodies =
    bodies.Cutter (Num (pos 500000))
    ∷ bodies.Fedrat (Num (pos 10000000))
    ∷ bodies.FromXy (Neg (Num (pos 450000000))) (Neg (Num (pos 450000000))) (Some (Num (pos 500000)))
    ∷ bodies.Tool sides.Right
    ∷ []

abbrev pub inner_bodies : ℕ → List Body
inner_bodies n = first_bodies ++ bodies_from 0 n

-- ---- what is read in a line

abbrev pub body_in : Option Labelled → Option Body
body_in None = None
body_in (Some s) = if is_some s.label then None else Some s.body

abbrev pub of_tokens : Tokens → Option Body
of_tokens (Err cause) = None
of_tokens (Ok []) = None
of_tokens (Ok (t ∷ ts)) = body_in (shape (t ∷ ts) None)

-- characters but `$` alone, and not too many
abbrev pub is_fit : List ℕ → Bool
is_fit line = list_all is_plain line && not (nat_lt 256 (length line))

-- and neither a title nor a continuation
abbrev pub is_usual : List ℕ → Bool
is_usual line = is_fit line && (not (is_some (title_or_labelled line)) && not (goes_on line))

-- the statement of a line that has no fault, no title, no label and no continuation
abbrev pub read : List ℕ → Option Body
read line = if is_usual line then of_tokens (tokens_of (said_on line)) else None

-- ---- tables

-- so many numbers from one on
abbrev counted : ℕ → ℕ → List ℕ
counted a zero = []
counted a (suc n) = a ∷ counted (a + 1) n

-- one row of a table
drawn : {A : Type 0} (f g : ℕ → A) (a n k : ℕ) → map f (counted a n) ≡ map g (counted a n) → a ≤ k → k < a + n → f k ≡ g k
drawn f g a zero k e low high = absurd (omega (arith, low, high))
drawn f g a (suc n) k e low high = elim (cases_lt a k) [
  | inl more ↦ drawn f g (a + 1) n k (tails (f a) (g a) _ _ e) (omega (arith, more)) (omega (arith, high))
  | inr none ↦ let same : k ≡ a = omega (arith, low, none) in rw same (heads (f a) (g a) _ _ e)
]

circles_read : map (λ k. map read (circle_lines k)) (counted 0 800) ≡ map (λ k. map (λ b. Some b) (circle_bodies k)) (counted 0 800)
unfolding word_of shape expression digits
circles_read = refl

circles_done : (names : Names) → map (λ k. map (deed_of names []) (circle_bodies k)) (counted 0 800) ≡ map (λ k. map (λ d. Ok d) (circle_deeds k)) (counted 0 800)
unfolding deed_of executed by_values
circles_done names = refl

titles_read : map (λ n. title_or_labelled (title_line n)) (counted 1 800) ≡ map (λ n. Some (tokens.Word words.Partno ∷ [], codes "DEMO " ++ decimal n)) (counted 1 800)
unfolding word_of digits
titles_read = refl

titles_fit : map (λ n. is_fit (title_line n)) (counted 1 800) ≡ map (λ n. true) (counted 1 800)
unfolding digits
titles_fit = refl

pub title_read : (n : ℕ) → 1 ≤ n → n ≤ 800 → title_or_labelled (title_line n) ≡ Some (tokens.Word words.Partno ∷ [], codes "DEMO " ++ decimal n)
title_read n low high = drawn (λ n. title_or_labelled (title_line n)) (λ n. Some (tokens.Word words.Partno ∷ [], codes "DEMO " ++ decimal n)) 1 800 n titles_read low (omega (arith, high))

pub title_fit : (n : ℕ) → 1 ≤ n → n ≤ 800 → is_fit (title_line n) ≡ true
title_fit n low high = drawn (λ n. is_fit (title_line n)) (λ n. true) 1 800 n titles_fit low (omega (arith, high))

-- ---- all lines

abbrev pub AreRead : List (List ℕ) → List Body → Type 0
AreRead [] [] = Unit {0}
AreRead [] (b ∷ bs) = ⊥
AreRead (l ∷ ls) [] = ⊥
AreRead (l ∷ ls) (b ∷ bs) = (read l ≡ Some b) × AreRead ls bs

abbrev pub AreDone : List Body → List Deed → Type 0
AreDone [] [] = Unit {0}
AreDone [] (d ∷ ds) = ⊥
AreDone (b ∷ bs) [] = ⊥
AreDone (b ∷ bs) (d ∷ ds) = ((names : Names) → deed_of names [] b ≡ Ok d) × (asks_end (ask_of d) ≡ false) × AreDone bs ds

abbrev pub AreOnward : List Body → Type 0
AreOnward [] = Unit {0}
AreOnward (b ∷ bs) = (flow_of b ≡ Onward) × ((before : List Stmt) → is_misplaced_heading before b ≡ false) × AreOnward bs

read_each : (ls : List (List ℕ)) (bs : List Body) → map read ls ≡ map (λ b. Some b) bs → AreRead ls bs
read_each [] [] e = tt
read_each [] (b ∷ bs) e = cc
read_each (l ∷ ls) [] e = cc
read_each (l ∷ ls) (b ∷ bs) e = (heads _ _ _ _ e, read_each ls bs (tails _ _ _ _ e))

read_both : (ls ms : List (List ℕ)) (bs cs : List Body) → AreRead ls bs → AreRead ms cs → AreRead (ls ++ ms) (bs ++ cs)
read_both [] ms [] cs p q = q
read_both [] ms (b ∷ bs) cs p q = absurd p
read_both (l ∷ ls) ms [] cs p q = absurd p
read_both (l ∷ ls) ms (b ∷ bs) cs p q = (p.0, read_both ls ms bs cs p.1 q)

done_both : (bs cs : List Body) (ds es : List Deed) → AreDone bs ds → AreDone cs es → AreDone (bs ++ cs) (ds ++ es)
done_both [] cs [] es p q = q
done_both [] cs (d ∷ ds) es p q = absurd p
done_both (b ∷ bs) cs [] es p q = absurd p
done_both (b ∷ bs) cs (d ∷ ds) es p q = (p.0, p.1, done_both bs cs ds es p.2 q)

onward_both : (bs cs : List Body) → AreOnward bs → AreOnward cs → AreOnward (bs ++ cs)
onward_both [] cs p q = q
onward_both (b ∷ bs) cs p q = (p.0, p.1, onward_both bs cs p.2 q)

abbrev NoneEnds : List Deed → Type 0
NoneEnds [] = Unit {0}
NoneEnds (d ∷ ds) = (asks_end (ask_of d) ≡ false) × NoneEnds ds

done_each : (bs : List Body) (ds : List Deed) → ((names : Names) → map (deed_of names []) bs ≡ map (λ d. Ok d) ds) → NoneEnds ds → AreDone bs ds
done_each [] [] e none = tt
done_each [] (d ∷ ds) e none = let f = e [] in cc
done_each (b ∷ bs) [] e none = let f = e [] in cc
done_each (b ∷ bs) (d ∷ ds) e none = (λ names. heads _ _ _ _ (e names), none.0, done_each bs ds (λ names. tails _ _ _ _ (e names)) none.1)

circle_read : (k : ℕ) → k < 800 → AreRead (circle_lines k) (circle_bodies k)
circle_read k few = read_each (circle_lines k) (circle_bodies k) (drawn (λ k. map read (circle_lines k)) (λ k. map (λ b. Some b) (circle_bodies k)) 0 800 k circles_read (omega arith) few)

circle_none_ends : (x y : ℤ) (r : ℕ) (clear : ℤ) → NoneEnds (deeds_about x y r clear)
circle_none_ends x y r clear = (refl, (refl, (refl, (refl, (refl, (refl, (refl, (refl, (refl, tt)))))))))

circle_done : (k : ℕ) → k < 800 → AreDone (circle_bodies k) (circle_deeds k)
circle_done k few =
    done_each (circle_bodies k) (circle_deeds k)
    (λ names. drawn (λ k. map (deed_of names []) (circle_bodies k)) (λ k. map (λ d. Ok d) (circle_deeds k)) 0 800 k (circles_done names) (omega arith) few)
    (circle_none_ends (centre_x k) (centre_y k) (radius k) (clear_x k))

circle_onward : (x y : ℤ) (r : ℕ) (clear : ℤ) → AreOnward (bodies_about x y r clear)
circle_onward x y r clear = (refl, λ before. refl, (refl, λ before. refl, (refl, λ before. refl, (refl, λ before. refl, (refl, λ before. refl, (refl, λ before. refl, (refl, λ before. refl, (refl, λ before. refl, (refl, λ before. refl, tt)))))))))

circles_read_from : (k m : ℕ) → k + m ≤ 800 → AreRead (lines_from k m) (bodies_from k m)
circles_read_from k zero few = tt
circles_read_from k (suc m) few =
    read_both (circle_lines k) (lines_from (k + 1) m) (circle_bodies k) (bodies_from (k + 1) m)
    (circle_read k (omega (arith, few))) (circles_read_from (k + 1) m (omega (arith, few)))

circles_done_from : (k m : ℕ) → k + m ≤ 800 → AreDone (bodies_from k m) (deeds_from k m)
circles_done_from k zero few = tt
circles_done_from k (suc m) few =
    done_both (circle_bodies k) (bodies_from (k + 1) m) (circle_deeds k) (deeds_from (k + 1) m)
    (circle_done k (omega (arith, few))) (circles_done_from (k + 1) m (omega (arith, few)))

circles_onward_from : (k m : ℕ) → AreOnward (bodies_from k m)
circles_onward_from k zero = tt
circles_onward_from k (suc m) =
    onward_both (circle_bodies k) (bodies_from (k + 1) m) (circle_onward (centre_x k) (centre_y k) (radius k) (clear_x k)) (circles_onward_from (k + 1) m)

abbrev pub first_deeds : List Deed
first_deeds =
    deeds.Cutter (pos 500000)
    ∷ deeds.Fedrat (pos 10000000)
    ∷ deeds.FromXy (negsuc 449999999) (negsuc 449999999) (Some (pos 500000))
    ∷ deeds.Tool sides.Right
    ∷ []

first_read : AreRead first_lines first_bodies
unfolding word_of shape expression
first_read = (refl, (refl, (refl, (refl, tt))))

first_done : AreDone first_bodies first_deeds
unfolding deed_of executed by_values
first_done = (λ names. refl, refl, (λ names. refl, refl, (λ names. refl, refl, (λ names. refl, refl, tt))))

first_onward : AreOnward first_bodies
first_onward = (refl, λ before. refl, (refl, λ before. refl, (refl, λ before. refl, (refl, λ before. refl, tt))))

pub last_read : read last_line ≡ Some bodies.Fini
unfolding word_of shape expression
last_read = refl

pub last_done : (names : Names) → deed_of names [] bodies.Fini ≡ Ok deeds.Fini
unfolding deed_of executed by_values
last_done names = refl

pub title_done : (names : Names) (text : List ℕ) → deed_of names [] (bodies.Partno text) ≡ Ok (deeds.Partno text)
unfolding deed_of executed by_values
title_done names text = refl

pub inner_read : (n : ℕ) → n ≤ 800 → AreRead (inner_lines n) (inner_bodies n)
inner_read n few = read_both first_lines (lines_from 0 n) first_bodies (bodies_from 0 n) first_read (circles_read_from 0 n (omega (arith, few)))

pub inner_done : (n : ℕ) → n ≤ 800 → AreDone (inner_bodies n) (first_deeds ++ deeds_from 0 n)
inner_done n few = done_both first_bodies (bodies_from 0 n) first_deeds (deeds_from 0 n) first_done (circles_done_from 0 n (omega (arith, few)))

pub inner_onward : (n : ℕ) → AreOnward (inner_bodies n)
inner_onward n = onward_both first_bodies (bodies_from 0 n) first_onward (circles_onward_from 0 n)

-- ---- how many there are

lines_length : (k m : ℕ) → length (lines_from k m) ≡ 9 * m
lines_length k zero = refl
lines_length k (suc m) = omega (arith, lines_length (k + 1) m)

pub inner_length : (n : ℕ) → length (inner_lines n) ≡ 9 * n + 4
inner_length n = omega (arith, lines_length 0 n)

pub as_many : (ls : List (List ℕ)) (bs : List Body) → AreRead ls bs → length ls ≡ length bs
as_many [] [] p = refl
as_many [] (b ∷ bs) p = absurd p
as_many (l ∷ ls) [] p = absurd p
as_many (l ∷ ls) (b ∷ bs) p = omega (arith, as_many ls bs p.1)

-- The part of `demo` is read as its statements, and these are executed in order.
use Rattle.std.proofs.Common.{◌≡◌, ℕ, ◌+◌, ◌≤◌, not, nat_lt, false, List, [], ◌∷◌, ◌++◌, length, Option, Some, None, is_some, Ok, Err, refl, ap, ◌∙◌, arith}
use Rattle.std.specs.Prelude.{codes, if◌then◌else◌}
use Rattle.std.specs.Fmt.{decimal}
use Rattle.std.specs.List.{list_all, find}
use Rattle.std.proofs.lemmas.List.{append_assoc}
use Rattle.std.proofs.lemmas.Bool.Decides.{nat_tests}
use Rattle.apt_words.specs.Flow.{Flow, Onward, ends_program}
use Rattle.apt_words.specs.Composition.{flow_of, is_fini}
use Rattle.apt_words.specs.declared.Case.TheVariants as cases
use Rattle.apt_words.specs.declared.word.Word.TheVariants as words
use Rattle.apt_words.specs.declared.body.Body.{Body}
use Rattle.apt_words.specs.declared.body.Body.TheVariants as bodies
use Rattle.apt_words.specs.declared.body.Stmt.{Stmt}
use Rattle.apt_words.specs.declared.deed.Deed.{Deed}
use Rattle.apt_words.specs.declared.deed.Deed.TheVariants as deeds
use Rattle.apt_words.specs.declared.deed.Step.{Step}
use Rattle.apt_lexis.specs.declared.token.Token.TheVariants as tokens
use Rattle.apt_lexis.specs.Lines.{lines_of, line_fault}
use Rattle.apt_lexis.specs.Tokens.{Tokens, tokens_of}
use Rattle.apt_lexis.specs.Phrase.{Phrase}
use Rattle.apt_lexis.specs.Sentences.{said_on, Behind, Said, behind_tokens, behind_line, by_title, with_first, unless_fault, said_from, said_in}
use Rattle.apt_shapes.specs.declared.table.Labelled.{Labelled}
use Rattle.apt_shapes.specs.Shapes.{shape}
use Rattle.apt_parse.specs.Statements.{open_macro, open_loop, loop_from, loop_behind, macro_behind, is_empty, is_misplaced_heading, is_label, first_fault, statement, of_shape, of_tokens as stated, unless_fault as unless_refused}
use Rattle.apt_parse.specs.Programs.{jumps, has_labels, line_of, whole, unless_open, unless_missing, ends_with, or_fault, program_from, program_of, last_line as last_number}
use Rattle.apt_parse.proofs.Reading.{macro_from_behind}
use Rattle.apt_scalar.specs.Meanings.{Names}
use Rattle.apt_deeds.specs.Deeds.{deed_of, names_behind}
use Rattle.apt_unroll.specs.Actions.{most_steps}
use Rattle.apt_unroll.specs.Trace.{Trace, with_step, trace_of}
use Rattle.apt_unroll.specs.Straight.{IsStraight, AreStraight, or_refused, deed_at, straight_from, in_order}
use Rattle.apt_unroll.proofs.InOrder.{straight_in_order}
use Rattle.apt_demo.specs.Demo.{demo_part}
use Rattle.apt_demo.proofs.Deeds.{deeds_from, numbered, demo_steps}
use Rattle.apt_demo.proofs.Readings.{title_line, inner_lines, inner_bodies, first_deeds, last_line, body_in, of_tokens, read, AreRead, AreDone, AreOnward, title_read, title_fit, title_done, inner_read, inner_done, inner_onward, inner_length, last_read, last_done, as_many}
use Rattle.apt_demo.proofs.Texts.{IsReadAs, read_as, fit_line, demo_lines_of}

-- ---- what is said in the lines

abbrev phrase : ℕ → List ℕ → Phrase
phrase n l = record { line = n; tokens = tokens_of (said_on l); text = None }

abbrev phrases_at : ℕ → List (List ℕ) → List Phrase
phrases_at n [] = []
phrases_at n (l ∷ ls) = phrase n l ∷ phrases_at (n + 1) ls

some_tokens : (r : Tokens) (b : Body) (n : ℕ) → of_tokens r ≡ Some b → behind_tokens None n r false ≡ record { begun = None; said = Some (record { line = n; tokens = r; text = None }) }
some_tokens (Err cause) b n e = cc
some_tokens (Ok []) b n e = cc
some_tokens (Ok (t ∷ ts)) b n e = refl

line_said : (n : ℕ) (l : List ℕ) (b : Body) → IsReadAs l b → behind_line None n l ≡ record { begun = None; said = Some (phrase n l) }
line_said n l b is =
    ap (by_title None n l) is.no_title
    ∙ ap (behind_tokens None n (tokens_of (said_on l))) is.ends
    ∙ some_tokens (tokens_of (said_on l)) b n is.told

abbrev said : List Phrase → Said
said ps = record { phrases = ps; fault = None }

-- a line without a fault says a statement, and the others what they say
said_behind : (n : ℕ) (l : List ℕ) (ls : List (List ℕ)) (p : Phrase) (ps : List Phrase) → line_fault n l ≡ None
    → behind_line None n l ≡ record { begun = None; said = Some p } → said_from None (n + 1) ls ≡ said ps → said_from None n (l ∷ ls) ≡ said (p ∷ ps)
said_behind n l ls p ps fit one more =
    ap (λ f. unless_fault n f (with_first (behind_line None n l).said (said_from (behind_line None n l).begun (n + 1) ls))) fit
    ∙ ap (λ (b : Behind). with_first b.said (said_from b.begun (n + 1) ls)) one
    ∙ ap (with_first (Some p)) more

line_behind : (n : ℕ) (l : List ℕ) (b : Body) (ls : List (List ℕ)) → read l ≡ Some b → n ≤ 50000
    → said_from None (n + 1) ls ≡ said (phrases_at (n + 1) ls) → said_from None n (l ∷ ls) ≡ said (phrases_at n (l ∷ ls))
line_behind n l b ls e few more =
    let is = read_as l b e in
    said_behind n l ls (phrase n l) (phrases_at (n + 1) ls) (fit_line n l is.fit few) (line_said n l b is) more

said_all : (n : ℕ) (ls : List (List ℕ)) (bs : List Body) → AreRead ls bs → n + length ls ≤ 50000 → said_from None n (ls ++ last_line ∷ []) ≡ said (phrases_at n (ls ++ last_line ∷ []))
said_all n [] [] all few = line_behind n last_line bodies.Fini [] last_read (omega (arith, few)) refl
said_all n [] (b ∷ bs) all few = absurd all
said_all n (l ∷ ls) [] all few = absurd all
said_all n (l ∷ ls) (b ∷ bs) all few =
    line_behind n l b (ls ++ last_line ∷ []) all.0 (omega (arith, few)) (said_all (n + 1) ls bs all.1 (omega (arith, few)))

abbrev title_text : ℕ → List ℕ
title_text n = codes "DEMO " ++ decimal n

abbrev title_phrase : ℕ → Phrase
title_phrase n = record { line = 1; tokens = Ok (tokens.Word words.Partno ∷ []); text = Some (title_text n) }

demo_said : (n : ℕ) → 1 ≤ n → n ≤ 800 → said_in (demo_part n) ≡ said (title_phrase n ∷ phrases_at 2 (inner_lines n ++ last_line ∷ []))
demo_said n low high =
    ap (said_from None 1) (demo_lines_of n low high)
    ∙ said_behind 1 (title_line n) (inner_lines n ++ last_line ∷ []) (title_phrase n) (phrases_at 2 (inner_lines n ++ last_line ∷ [])) (fit_line 1 (title_line n) (title_fit n low high) (omega arith))
    (ap (by_title None 1 (title_line n)) (title_read n low high))
    (said_all 2 (inner_lines n) (inner_bodies n) (inner_read n high) (omega (arith, inner_length n, high)))

-- ---- the statements

abbrev stmt : ℕ → Body → Stmt
stmt n b = record { line = n; label = None; body = b }

abbrev stmts_at : ℕ → List Body → List Stmt
stmts_at n [] = []
stmts_at n (b ∷ bs) = stmt n b ∷ stmts_at (n + 1) bs

abbrev demo_stmts : ℕ → List Stmt
demo_stmts n = stmt 1 (bodies.Partno (title_text n)) ∷ stmts_at 2 (inner_bodies n ++ bodies.Fini ∷ [])

abbrev unlabelled : Body → Labelled
unlabelled b = record { label = None; body = b }

labelled_none : (label : Option (List ℕ)) (body b : Body) (labelled : Labelled) → labelled ≡ record { label = label; body = body }
    → (if is_some label then None else Some body) ≡ Some b → labelled ≡ unlabelled b
labelled_none None body b labelled same e = let f : body ≡ b = cc in same ∙ ap unlabelled f
labelled_none (Some l) body b labelled same e = cc

body_some : (o : Option Labelled) (b : Body) → body_in o ≡ Some b → o ≡ Some (unlabelled b)
body_some None b e = cc
body_some (Some s) b e = ap (λ s. Some s) (labelled_none s.label s.body b s refl e)

stated_by : (before : List Stmt) (n : ℕ) (r : Tokens) (b : Body) → of_tokens r ≡ Some b → first_fault before None b ≡ None
    → stated before n None r ≡ Ok (stmt n b)
stated_by before n (Err cause) b e none = cc
stated_by before n (Ok []) b e none = cc
stated_by before n (Ok (t ∷ ts)) b e none =
    ap (of_shape before n) (body_some (shape (t ∷ ts) None) b e)
    ∙ ap (unless_refused n (unlabelled b)) none

onward_unrefused : (before : List Stmt) (b : Body) → flow_of b ≡ Onward → is_misplaced_heading before b ≡ false → is_empty before ≡ false
    → first_fault before None b ≡ None
onward_unrefused before b onward heading filled = rw (onward, heading, filled) refl

fini_unrefused : (before : List Stmt) → is_empty before ≡ false → open_macro before ≡ None → first_fault before None bodies.Fini ≡ None
fini_unrefused before filled closed = rw (filled, closed) refl

filled_behind : (before : List Stmt) (st : Stmt) → is_empty (before ++ st ∷ []) ≡ false
filled_behind [] st = refl
filled_behind (s ∷ before) st = refl

macro_stays : (o : Option ℕ) (n : ℕ) (flow : Flow) → flow ≡ Onward → o ≡ None → macro_behind o n flow ≡ None
macro_stays o n flow e f = rw (e, f) refl

closed_behind : (before : List Stmt) (n : ℕ) (b : Body) → flow_of b ≡ Onward → open_macro before ≡ None → open_macro (before ++ stmt n b ∷ []) ≡ None
closed_behind before n b onward closed = macro_from_behind None before (stmt n b) ∙ macro_stays (open_macro before) n (flow_of b) onward closed

-- the statements behind others, up to FINI
program_behind : (before : List Stmt) (last n : ℕ) (p : Phrase) (ps : List Phrase) (st : Stmt) → statement before p ≡ Ok st
    → program_from before last None (p ∷ ps) ≡ ends_with (is_fini st.body) (before ++ st ∷ []) (program_from (before ++ st ∷ []) last None ps)
program_behind before last n p ps st e = ap (λ r. or_fault before p.line r (λ st. program_from (before ++ st ∷ []) last None ps)) e

read_on : (before : List Stmt) (last n : ℕ) (ls : List (List ℕ)) (bs : List Body) → AreRead ls bs → AreOnward bs → is_empty before ≡ false → open_macro before ≡ None
    → program_from before last None (phrases_at n (ls ++ last_line ∷ [])) ≡ whole (before ++ stmts_at n (bs ++ bodies.Fini ∷ []))
read_on before last n [] [] all onward filled closed =
    program_behind before last n (phrase n last_line) [] (stmt n bodies.Fini) (stated_by before n (tokens_of (said_on last_line)) bodies.Fini (read_as last_line bodies.Fini last_read).told (fini_unrefused before filled closed))
read_on before last n [] (b ∷ bs) all onward filled closed = absurd all
read_on before last n (l ∷ ls) [] all onward filled closed = absurd all
read_on before last n (l ∷ ls) (b ∷ bs) all onward filled closed =
    let more = before ++ stmt n b ∷ [] in
    let ps = phrases_at (n + 1) (ls ++ last_line ∷ []) in
    program_behind before last n (phrase n l) ps (stmt n b)
    (stated_by before n (tokens_of (said_on l)) b (read_as l b all.0).told (onward_unrefused before b onward.0 (onward.1 before) filled))
    ∙ ap (λ f. ends_with (ends_program f) more (program_from more last None ps)) onward.0
    ∙ read_on more last (n + 1) ls bs all.1 onward.2 (filled_behind before (stmt n b)) (closed_behind before n b onward.0 closed)
    ∙ ap whole (append_assoc before (stmt n b ∷ []) (stmts_at (n + 1) (bs ++ bodies.Fini ∷ [])))

-- no loop is open, and no label is missing
loops_closed : (n : ℕ) (bs : List Body) → AreOnward bs → loop_from None (stmts_at n (bs ++ bodies.Fini ∷ [])) ≡ None
loops_closed n [] onward = refl
loops_closed n (b ∷ bs) onward =
    ap (λ f. loop_from (loop_behind None n f) (stmts_at (n + 1) (bs ++ bodies.Fini ∷ []))) onward.0 ∙ loops_closed (n + 1) bs onward.2

none_missing : (all : List Stmt) (n : ℕ) (bs : List Body) → AreOnward bs → find (λ st. not (has_labels all st)) (stmts_at n (bs ++ bodies.Fini ∷ [])) ≡ None
none_missing all n [] onward = refl
none_missing all n (b ∷ bs) onward =
    ap (λ f. if not (list_all (is_label all) (jumps f)) then Some (stmt n b) else find (λ st. not (has_labels all st)) (stmts_at (n + 1) (bs ++ bodies.Fini ∷ []))) onward.0
    ∙ none_missing all (n + 1) bs onward.2

whole_is : (sts : List Stmt) → open_loop sts ≡ None → find (λ st. not (has_labels sts st)) sts ≡ None → whole sts ≡ Ok sts
whole_is sts closed none = ap (unless_open sts) closed ∙ ap (λ o. unless_missing sts (line_of o)) none

demo_whole : (n : ℕ) → whole (demo_stmts n) ≡ Ok (demo_stmts n)
demo_whole n = whole_is (demo_stmts n) (loops_closed 2 (inner_bodies n) (inner_onward n)) (none_missing (demo_stmts n) 2 (inner_bodies n) (inner_onward n))

title_stated : (text : List ℕ) → statement [] (record { line = 1; tokens = Ok (tokens.Word words.Partno ∷ []); text = Some text }) ≡ Ok (stmt 1 (bodies.Partno text))
unfolding shape
title_stated text = refl

demo_program : (n : ℕ) → 1 ≤ n → n ≤ 800 → program_of (demo_part n) ≡ Ok (demo_stmts n)
demo_program n low high =
    let last = last_number (lines_of (demo_part n)) in
    ap (λ (s : Said). program_from [] last s.fault s.phrases) (demo_said n low high)
    ∙ program_behind [] last 1 (title_phrase n) (phrases_at 2 (inner_lines n ++ last_line ∷ [])) (stmt 1 (bodies.Partno (title_text n))) (title_stated (title_text n))
    ∙ read_on (stmt 1 (bodies.Partno (title_text n)) ∷ []) last 2 (inner_lines n) (inner_bodies n) (inner_read n high) (inner_onward n) refl refl
    ∙ demo_whole n

-- ---- they are executed in order

straight_by : (flow : Flow) (rest : List Stmt) → flow ≡ Onward → AreStraight rest → IsStraight flow rest (AreStraight rest)
straight_by flow rest e straight = rw e straight

all_straight : (n : ℕ) (bs : List Body) → AreOnward bs → AreStraight (stmts_at n (bs ++ bodies.Fini ∷ []))
all_straight n [] onward = refl
all_straight n (b ∷ bs) onward = straight_by (flow_of b) (stmts_at (n + 1) (bs ++ bodies.Fini ∷ [])) onward.0 (all_straight (n + 1) bs onward.2)

in_time : (n : ℕ) → n ≤ 200000 → nat_lt most_steps n ≡ false
in_time n few = grind (arith, nat_tests)

abbrev steps_only : List Step → Trace
steps_only steps = record { steps = steps; fault = None }

step_done : (n : ℕ) (names : Names) (b : Body) (d : Deed) (more : Deed → Trace) → n ≤ 200000 → deed_of names [] b ≡ Ok d
    → or_refused n n (deed_at n false names b) more ≡ with_step n n d (more d)
step_done n names b d more few e =
    ap (λ t. or_refused n n (if t then Err cases.Budget else deed_of names [] b) more) (in_time n few)
    ∙ ap (λ r. or_refused n n r more) e

trace_on : (n : ℕ) (names : Names) (bs : List Body) (ds : List Deed) → AreDone bs ds → n + length bs ≤ 200000
    → straight_from n false names (stmts_at n (bs ++ bodies.Fini ∷ [])) ≡ steps_only (numbered n (ds ++ deeds.Fini ∷ []))
trace_on n names [] [] done few = step_done n names bodies.Fini deeds.Fini _ (omega (arith, few)) (last_done names)
trace_on n names [] (d ∷ ds) done few = absurd done
trace_on n names (b ∷ bs) [] done few = absurd done
trace_on n names (b ∷ bs) (d ∷ ds) done few =
    step_done n names b d _ (omega (arith, few)) (done.0 names)
    ∙ ap (λ ended. with_step n n d (straight_from (n + 1) ended (names_behind names d) (stmts_at (n + 1) (bs ++ bodies.Fini ∷ [])))) done.1
    ∙ ap (with_step n n d) (trace_on (n + 1) (names_behind names d) bs ds done.2 (omega (arith, few)))

demo_in_order : (n : ℕ) → n ≤ 800 → in_order (demo_stmts n) ≡ steps_only (demo_steps n)
demo_in_order n few =
    step_done 1 [] (bodies.Partno (title_text n)) (deeds.Partno (title_text n)) _ (omega arith) (title_done [] (title_text n))
    ∙ ap (with_step 1 1 (deeds.Partno (title_text n)))
    (trace_on 2 [] (inner_bodies n) (first_deeds ++ deeds_from 0 n) (inner_done n few)
    (omega (arith, inner_length n, as_many (inner_lines n) (inner_bodies n) (inner_read n few), few)))

demo_trace : (n : ℕ) → n ≤ 800 → trace_of (demo_stmts n) ≡ steps_only (demo_steps n)
demo_trace n few = straight_in_order (demo_stmts n) (trace_of (demo_stmts n)) (all_straight 2 (inner_bodies n) (inner_onward n)) refl ∙ demo_in_order n few

-- the text of the part is read as statements, whose steps are those of the part
pub reads : (n : ℕ) → 1 ≤ n → n ≤ 800 → (sts : List Stmt) × (program_of (demo_part n) ≡ Ok sts) × (trace_of sts ≡ record { steps = demo_steps n; fault = None })
reads n low high = (demo_stmts n, demo_program n low high, demo_trace n high)

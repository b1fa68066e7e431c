-- A table that is spelled out is read as its machine.
use Rattle.std.proofs.Common.{refl, ap, ◌∙◌, arith, rules, ◌≡◌, ℕ, ◌+◌, ◌<◌, ◌≤◌, ◌==◌, Bool, true, false, not, List, [], ◌∷◌, ◌++◌, length, take, get_or, Some, Result, Ok, inl, inr, lit≤}
use Rattle.std.specs.Prelude.{◌&&◌, ◌||◌, nat_le, nat_lt, codes, if◌then◌else◌}
use Rattle.std.specs.List.{list_all, list_any}
use Rattle.std.specs.Fmt.{decimal}
use Rattle.std.proofs.Math.Seq.{take-append_seam, drop-append_seam}
use Rattle.std.proofs.lemmas.List.{length-append}
use Rattle.std.proofs.lemmas.List.Folds.{list_all-append}
use Rattle.std.proofs.lemmas.Bool.{cases_lt}
use Rattle.std.proofs.lemmas.Bool.Decides.{nat_tests}
use Rattle.std.proofs.lemmas.Fmt.{decimal_digit, decimal_nonempty, first_decimal, length-decimal-le, digits_decimal, digits_value-decimal}
use Rattle.std.proofs.lemmas.Str.Parse.{IsNumeralModel, numerals_by_fold}
use Rattle.apt_lexis.specs.Lines.{lines_of, line_feed, tab, is_character}
use Rattle.apt_lexis.proofs.Fronts.{passes_other}
use Rattle.apt_lexis.proofs.PlainLines.{is_plain, first_plain}
use Rattle.apt_tapecode.specs.declared.Code.{Code}
use Rattle.apt_tapecode.specs.declared.Code.TheVariants as codings
use Rattle.apt_machine.specs.declared.version.Version.{Version}
use Rattle.apt_machine.specs.declared.version.Version.TheVariants as versions
use Rattle.apt_machine.specs.declared.key.Key.{Key}
use Rattle.apt_machine.specs.declared.key.Key.TheVariants as keys
use Rattle.apt_machine.specs.declared.draft.Draft.{Draft}
use Rattle.apt_machine.specs.declared.machine.Machine.{Machine}
use Rattle.apt_machine.specs.declared.cause.MachineError.{MachineError}
use Rattle.apt_machine.specs.Machines.{IsMachine}
use Rattle.apt_machine.specs.Numbers.{is_digit, digits_from, has_leading_zero, plain_number, number_within}
use Rattle.apt_machine.specs.Keys.{blank_draft, has, first_key, key_named}
use Rattle.apt_lexis.specs.Words.{is_readable, in_front, behind}
use Rattle.apt_machine.specs.Tables.{keyed, behind_line, machine_from, machine_of_lines, table_of}
use Rattle.apt_machine.specs.Spelling.{code_word, line_where, chosen_lines, table_lines, text_of, spelled}
use Rattle.apt_words.proofs.Bools.{both}

-- ---- numbers

own : IsNumeralModel (λ ds. list_all is_digit ds ≡ true) (digits_from 0)
own = numerals_by_fold _ (search rules) digits_from (search rules)

four : (a b c d : Bool) → a ≡ true → b ≡ true → c ≡ true → d ≡ false → (a && b && c && not d) ≡ true
four a b c d p q r s = rw (p, q, r, s) refl

no_leading : (ds : List ℕ) → 48 < get_or ds 0 0 → has_leading_zero ds ≡ false
no_leading [] h = refl
no_leading (b ∷ []) h = refl
no_leading (b ∷ c ∷ bs) h = grind (arith, nat_tests)

no_leading_zero : (n : ℕ) → n ≤ 9999 → has_leading_zero (decimal n) ≡ false
no_leading_zero n small = elim (cases_lt 0 n) [
  | inl some ↦ no_leading (decimal n) (first_decimal n some (omega arith))
  | inr none ↦ rw (decimal_digit n (omega arith)) refl
]

some_test : (k : ℕ) → 0 < k → nat_lt 0 k ≡ true
some_test k h = grind (arith, nat_tests)

most_test : (k most : ℕ) → k ≤ most → nat_le k most ≡ true
most_test k most h = grind (arith, nat_tests)

plain_decimal : (n : ℕ) → n ≤ 9999 → plain_number (decimal n) ≡ Some n
plain_decimal n small =
    let text = decimal n in
    let filled : nat_lt 0 (length text) ≡ true = some_test (length text) (decimal_nonempty n (omega arith)) in
    let short : nat_le (length text) 4 ≡ true = most_test (length text) 4 (length-decimal-le 4 n (omega arith) (omega arith) (omega arith)) in
    rw (four _ _ _ _ filled short (digits_decimal own n (omega arith)) (no_leading_zero n small)) (ap (λ k. Some k) (digits_value-decimal own n (omega arith)))

number_in : (least most n : ℕ) → least ≤ n → n ≤ most → most ≤ 9999 → number_within least most (decimal n) ≡ Some n
number_in least most n low high small = rw (plain_decimal n (omega arith), most_test least n low, most_test n most high) refl

-- ---- lines

-- a blank, a digit or a capital
abbrev is_shown : ℕ → Bool
is_shown b = b == 32 || (nat_le 48 b && nat_le b 90)

plain_shown : (b : ℕ) → is_shown b ≡ true → is_plain b ≡ true
plain_shown b e = grind (arith, nat_tests)

character_shown : (b : ℕ) → is_shown b ≡ true → is_character b ≡ true
character_shown b e = grind (arith, nat_tests)

tab_shown : (b : ℕ) → is_shown b ≡ true → (b == tab) ≡ false
tab_shown b e = grind (arith, nat_tests)

shown_digit : (b : ℕ) → is_digit b ≡ true → is_shown b ≡ true
shown_digit b e = grind (arith, nat_tests)

shown_decimal : (n : ℕ) → n ≤ 9999 → list_all is_shown (decimal n) ≡ true
shown_decimal n small = passes_other is_digit is_shown shown_digit (decimal n) (digits_decimal own n (omega arith))

line_then : (line after : List ℕ) → list_all is_shown line ≡ true → lines_of (line ++ line_feed ∷ after) ≡ line ∷ lines_of after
line_then line after e =
    let at = take-append_seam line (line_feed ∷ after) in
    let plain : list_all is_plain (take (length line) (line ++ line_feed ∷ after)) ≡ true = rw at (passes_other is_shown is_plain plain_shown line e) in
    first_plain (line ++ line_feed ∷ after) after (length line) plain (drop-append_seam line (line_feed ∷ after)) ∙ ap (λ l. l ∷ lines_of after) at

abbrev AreShown : List (List ℕ) → Type 0
AreShown [] = Unit {0}
AreShown (line ∷ lines) = (list_all is_shown line ≡ true) × AreShown lines

lines_again : (lines : List (List ℕ)) → AreShown lines → lines_of (text_of lines) ≡ lines
lines_again [] h = refl
lines_again (line ∷ lines) h = line_then line (text_of lines) h.0 ∙ ap (λ ls. line ∷ ls) (lines_again lines h.1)

-- ---- what a line says

readable : (line : List ℕ) → list_all is_shown line ≡ true → length line ≤ 256 → is_readable line ≡ true
readable line e short = rw (most_test (length line) 256 short, passes_other is_shown is_character character_shown line e) refl

no_tab : (line : List ℕ) → list_all is_shown line ≡ true → list_any (λ b. b == tab) line ≡ false
no_tab [] e = refl
no_tab (b ∷ bs) e = let h = both (is_shown b) (list_all is_shown bs) e in rw (tab_shown b h.0, no_tab bs h.1) refl

-- a key of the first version stands in both
named : (version : Version) (name : List ℕ) (key : Key) → first_key name ≡ Some key → key_named version name ≡ Some key
named versions.First name key e = e
named versions.Second name key e = rw e refl

says : (version : Version) (d : Draft) (key : Key) (b : ℕ) (bs : List ℕ) → first_key (in_front (b ∷ bs)) ≡ Some key → list_all is_shown (b ∷ bs) ≡ true → length (b ∷ bs) ≤ 256
    → behind_line version d (b ∷ bs) ≡ keyed d (Some key) (behind (b ∷ bs))
says version d key b bs k e short = rw (readable (b ∷ bs) e short, no_tab (b ∷ bs) e, named version (in_front (b ∷ bs)) key k) refl

shown_line : (key : List ℕ) (n : ℕ) → list_all is_shown key ≡ true → n ≤ 9999 → list_all is_shown (key ++ decimal n) ≡ true
shown_line key n e small = rw (list_all-append is_shown key (decimal n), e, shown_decimal n small) refl

-- a line of a number, behind its key and a blank
number_line : (version : Version) (d : Draft) (key : Key) (b : ℕ) (bs : List ℕ) (n : ℕ) → first_key (in_front (b ∷ (bs ++ decimal n))) ≡ Some key → list_all is_shown (b ∷ bs) ≡ true → length bs ≤ 20 → n ≤ 9999
    → behind_line version d (b ∷ (bs ++ decimal n)) ≡ keyed d (Some key) (behind (b ∷ (bs ++ decimal n)))
number_line version d key b bs n k e short small =
    says version d key b (bs ++ decimal n) k (shown_line (b ∷ bs) n e small) (omega (arith, length-append bs (decimal n), length-decimal-le 4 n (omega arith) (omega arith) (omega arith)))

code_line : (version : Version) (d : Draft) (code : Code) → has d keys.Code ≡ false → behind_line version d (codes "CODE " ++ code_word code) ≡ Ok (record d { code = Some code })
code_line version d codings.Rs244 fresh = says version d keys.Code 67 (codes "ODE RS244") refl refl (lit≤ tt) ∙ rw fresh refl
code_line version d codings.Rs358 fresh = says version d keys.Code 67 (codes "ODE RS358") refl refl (lit≤ tt) ∙ rw fresh refl

seq_line : (version : Version) (d : Draft) (n : ℕ) → has d keys.Seq ≡ false → n ≤ 999 → behind_line version d (codes "SEQ " ++ decimal n) ≡ Ok (record d { seq = Some n })
seq_line version d n fresh high =
    number_line version d keys.Seq 83 (codes "EQ ") n refl refl (lit≤ tt) (omega arith) ∙ rw (fresh, number_in 0 999 n (omega arith) high (lit≤ tt)) refl

feedmax_line : (version : Version) (d : Draft) (n : ℕ) → has d keys.Feedmax ≡ false → 1 ≤ n → n ≤ 9999 → behind_line version d (codes "FEEDMAX " ++ decimal n) ≡ Ok (record d { feedmax = Some n })
feedmax_line version d n fresh low high =
    number_line version d keys.Feedmax 70 (codes "EEDMAX ") n refl refl (lit≤ tt) high ∙ rw (fresh, number_in 1 9999 n low high (lit≤ tt)) refl

spinmax_line : (version : Version) (d : Draft) (n : ℕ) → has d keys.Spinmax ≡ false → 1 ≤ n → n ≤ 9999 → behind_line version d (codes "SPINMAX " ++ decimal n) ≡ Ok (record d { spinmax = Some n })
spinmax_line version d n fresh low high =
    number_line version d keys.Spinmax 83 (codes "PINMAX ") n refl refl (lit≤ tt) high ∙ rw (fresh, number_in 1 9999 n low high (lit≤ tt)) refl

toolmax_line : (version : Version) (d : Draft) (n : ℕ) → has d keys.Toolmax ≡ false → 1 ≤ n → n ≤ 99 → behind_line version d (codes "TOOLMAX " ++ decimal n) ≡ Ok (record d { toolmax = Some n })
toolmax_line version d n fresh low high =
    number_line version d keys.Toolmax 84 (codes "OOLMAX ") n refl refl (lit≤ tt) (omega arith) ∙ rw (fresh, number_in 1 99 n low high (lit≤ tt)) refl

-- ---- the table

next_line : (version : Version) (n : ℕ) (d e : Draft) (line : List ℕ) (lines : List (List ℕ)) → behind_line version d line ≡ Ok e → machine_from version n d (line ∷ lines) ≡ machine_from version (n + 1) e lines
next_line version n d e line lines h = rw h refl

code_shown : (code : Code) → list_all is_shown (codes "CODE " ++ code_word code) ≡ true
code_shown codings.Rs244 = refl
code_shown codings.Rs358 = refl

version_shown : (second : Bool) → list_all is_shown (if second then codes "MACHINE 2" else codes "MACHINE 1") ≡ true
version_shown true = refl
version_shown false = refl

shown_where : (b : Bool) (line : List ℕ) → list_all is_shown line ≡ true → AreShown (line_where b line)
shown_where true line e = (e, tt)
shown_where false line e = tt

shown_both : (lines others : List (List ℕ)) → AreShown lines → AreShown others → AreShown (lines ++ others)
shown_both [] others h k = k
shown_both (line ∷ lines) others h k = (h.0, shown_both lines others h.1 k)

chosen_shown : (m : Machine) → AreShown (chosen_lines m)
chosen_shown m =
    let words = shown_where m.changed (codes "WORDS CHANGED") refl in
    let mode = shown_where m.incremental (codes "MODE INC") refl in
    let zeros = shown_where m.short (codes "ZEROS DROPPED") refl in
    let arcs = shown_where m.circles (codes "ARCS CIRCLES") refl in
    shown_both _ _ (shown_both _ _ (shown_both _ _ (shown_both _ _ words mode) zeros) arcs) (shown_where m.cycles (codes "DRILL CYCLES") refl)

lines_shown : (m : Machine) → IsMachine m → AreShown (table_lines m)
lines_shown m is = (
  version_shown (m.incremental || m.short || m.circles || m.cycles),
  (
    code_shown m.code,
    (
      shown_line (codes "SEQ ") m.seq refl (omega arith),
      (
        shown_line (codes "FEEDMAX ") m.feedmax refl is.feed,
        (
          shown_line (codes "SPINMAX ") m.spinmax refl is.spindle,
          (
            shown_line (codes "TOOLMAX ") m.toolmax refl (omega arith),
            chosen_shown m,
          ),
        ),
      ),
    ),
  ),
)

-- the version that the first line names
abbrev version_for : Bool → Version
version_for second = if second then versions.Second else versions.First

version_again : (second : Bool) (lines : List (List ℕ))
    → machine_of_lines ((if second then codes "MACHINE 2" else codes "MACHINE 1") ∷ lines) ≡ machine_from (version_for second) 2 blank_draft lines
version_again true lines = refl
version_again false lines = refl

-- what the keys that must stand say
abbrev needed : Machine → Draft
needed m = record blank_draft { code = Some m.code; seq = Some m.seq; feedmax = Some m.feedmax; spinmax = Some m.spinmax; toolmax = Some m.toolmax }

abbrev chosen : Machine → Bool → Bool → Bool → Bool → Bool → Machine
chosen m changed incremental short circles cycles = record m { changed = changed; incremental = incremental; short = short; circles = circles; cycles = cycles }

-- what is chosen is said last, or not at all
chosen_again : (m : Machine) (changed incremental short circles cycles : Bool)
    → machine_from (version_for (incremental || short || circles || cycles)) 7 (needed m) (chosen_lines (chosen m changed incremental short circles cycles)) ≡ Ok (chosen m changed incremental short circles cycles)
chosen_again m true true true true true = refl
chosen_again m true true true true false = refl
chosen_again m true true true false true = refl
chosen_again m true true true false false = refl
chosen_again m true true false true true = refl
chosen_again m true true false true false = refl
chosen_again m true true false false true = refl
chosen_again m true true false false false = refl
chosen_again m true false true true true = refl
chosen_again m true false true true false = refl
chosen_again m true false true false true = refl
chosen_again m true false true false false = refl
chosen_again m true false false true true = refl
chosen_again m true false false true false = refl
chosen_again m true false false false true = refl
chosen_again m true false false false false = refl
chosen_again m false true true true true = refl
chosen_again m false true true true false = refl
chosen_again m false true true false true = refl
chosen_again m false true true false false = refl
chosen_again m false true false true true = refl
chosen_again m false true false true false = refl
chosen_again m false true false false true = refl
chosen_again m false true false false false = refl
chosen_again m false false true true true = refl
chosen_again m false false true true false = refl
chosen_again m false false true false true = refl
chosen_again m false false true false false = refl
chosen_again m false false false true true = refl
chosen_again m false false false true false = refl
chosen_again m false false false false true = refl
chosen_again m false false false false false = refl

machine_again : (m : Machine) → IsMachine m → machine_of_lines (table_lines m) ≡ Ok m
machine_again m is =
    let a = record blank_draft { code = Some m.code } in
    let b = record a { seq = Some m.seq } in
    let c = record b { feedmax = Some m.feedmax } in
    let d = record c { spinmax = Some m.spinmax } in
    let v = version_for (m.incremental || m.short || m.circles || m.cycles) in
    let code : List ℕ = codes "CODE " ++ code_word m.code in
    let seq : List ℕ = codes "SEQ " ++ decimal m.seq in
    let feed : List ℕ = codes "FEEDMAX " ++ decimal m.feedmax in
    let spindle : List ℕ = codes "SPINMAX " ++ decimal m.spinmax in
    let tool : List ℕ = codes "TOOLMAX " ++ decimal m.toolmax in
    let last = chosen_lines m in
    version_again (m.incremental || m.short || m.circles || m.cycles) (code ∷ seq ∷ feed ∷ spindle ∷ tool ∷ last)
    ∙ next_line v 2 blank_draft a code (seq ∷ feed ∷ spindle ∷ tool ∷ last) (code_line v blank_draft m.code refl)
    ∙ next_line v 3 a b seq (feed ∷ spindle ∷ tool ∷ last) (seq_line v a m.seq refl is.seq)
    ∙ next_line v 4 b c feed (spindle ∷ tool ∷ last) (feedmax_line v b m.feedmax refl is.least_feed is.feed)
    ∙ next_line v 5 c d spindle (tool ∷ last) (spinmax_line v c m.spinmax refl is.least_spindle is.spindle)
    ∙ next_line v 6 d (record d { toolmax = Some m.toolmax }) tool last (toolmax_line v d m.toolmax refl is.least_tool is.tool)
    ∙ chosen_again m m.changed m.incremental m.short m.circles m.cycles

table_again : (m : Machine) → IsMachine m → table_of (spelled m) ≡ Ok m
table_again m is = ap machine_of_lines (lines_again (table_lines m) (lines_shown m is)) ∙ machine_again m is

pub spelled_read : (x : Result Machine MachineError) (text : List ℕ) → x ≡ table_of text → (m : Machine) → IsMachine m → text ≡ spelled m → x ≡ Ok m
spelled_read x text e m is f = e ∙ ap table_of f ∙ table_again m is

-- The digits and the point at the front of a run.
use Rattle.std.proofs.Common.{◌≡◌, ◌≢◌, ℕ, ◌+◌, ◌-◌, ◌*◌, ◌^◌, ◌≤◌, ◌<◌, ◌==◌, List, [], ◌∷◌, ◌++◌, length, take, drop, Bool, true, false, Some, None, ap, ◌∙◌, sym, refl, arith, add-zero, append-nil, subst}
use Rattle.std.specs.Prelude.{◌&&◌, nat_le, nat_lt}
use Rattle.std.specs.List.{list_all, prefix_len}
use Rattle.std.proofs.lemmas.List.{length-append}
use Rattle.std.proofs.lemmas.Bool.{eqb-true}
use Rattle.std.proofs.lemmas.Bool.Decides.{nat_tests}
use Rattle.apt_words.specs.Symbols.{is_digit}
use Rattle.apt_lexis.specs.Lines.{split, in_front}
use Rattle.apt_lexis.specs.Titles.{behind}
use Rattle.apt_lexis.specs.Tokens.{point, is_in_run, begins_in_run, are_digits, number_of, decimal}
use Rattle.apt_lexis.proofs.Fronts.{prefix_yes, prefix_no, take_front, drop_one_more, front_length, front_passes, none_behind, none_first}
use Rattle.apt_lexis.proofs.Splitting.{split_filled}
use Rattle.apt_lexis.proofs.OneByOne.{outer_rest}

-- the run at the front of a text, and its parts between points
abbrev run_of : List ℕ → List ℕ
run_of text = take (prefix_len is_in_run text) text

abbrev parts_of : List ℕ → List (List ℕ)
parts_of text = split point (run_of text)

-- the digits at the front of a text, and what stands behind them
abbrev digits_of : List ℕ → List ℕ
digits_of text = take (prefix_len is_digit text) text

abbrev after : List ℕ → List ℕ
after text = drop (prefix_len is_digit text) text

in_run_of_digit : (b : ℕ) → is_digit b ≡ true → is_in_run b ≡ true
in_run_of_digit b e = grind (arith, nat_tests)

no_point : (b : ℕ) → is_digit b ≡ true → (b == point) ≡ false
no_point b e = grind (arith, nat_tests)

abbrev prepend : List ℕ → List (List ℕ) → List (List ℕ)
prepend front [] = front ∷ []
prepend front (part ∷ parts) = (front ++ part) ∷ parts

prepend_one : (b : ℕ) (front : List ℕ) (parts : List (List ℕ)) → in_front b (prepend front parts) ≡ prepend (b ∷ front) parts
prepend_one b front [] = refl
prepend_one b front (part ∷ parts) = refl

prepend_none : (c : ℕ) (text : List ℕ) → prepend [] (split c text) ≡ split c text
prepend_none c text = let f = split_filled c text in rw f.2 refl

-- digits stand in front of the first part of what follows them
parts_behind : (text : List ℕ) → parts_of text ≡ prepend (digits_of text) (parts_of (after text))
parts_behind [] = refl
parts_behind (b ∷ bs) = elim (is_digit b) as (λ t. is_digit b ≡ t → parts_of (b ∷ bs) ≡ prepend (digits_of (b ∷ bs)) (parts_of (after (b ∷ bs)))) [
  | true ↦ λ e.
      rw (take_front is_in_run b bs (in_run_of_digit b e), take_front is_digit b bs e, prefix_yes is_digit b bs e, drop_one_more (prefix_len is_digit bs) b bs)
      (split_digit b (run_of bs) e ∙ ap (in_front b) (parts_behind bs) ∙ prepend_one b (digits_of bs) (parts_of (after bs)))
  | false ↦ λ e. rw (prefix_no is_digit b bs e) (sym (prepend_none point (run_of (b ∷ bs))))
] refl
  where
    split_digit : (b : ℕ) (bs : List ℕ) → is_digit b ≡ true → split point (b ∷ bs) ≡ in_front b (split point bs)
    split_digit b bs e = rw (no_point b e) refl

-- ---- one digit more

pub number_on : (n b k : ℕ) (rest bs : List ℕ) → rest ≡ b ∷ bs → is_digit b ≡ true → number_of n (digits_of rest) ≡ k → number_of (10 * n + (b - 48)) (digits_of bs) ≡ k
number_on n b k rest bs e f h = digit n b bs f ∙ ap (λ text. number_of n (digits_of text)) (sym e) ∙ h
  where
    digit : (n b : ℕ) (bs : List ℕ) → is_digit b ≡ true → number_of (10 * n + (b - 48)) (digits_of bs) ≡ number_of n (digits_of (b ∷ bs))
    digit n b bs e = rw (take_front is_digit b bs e) refl

pub count_on : (i b k : ℕ) (rest bs : List ℕ) → rest ≡ b ∷ bs → is_digit b ≡ true → i + prefix_len is_digit rest ≡ k → i + 1 + prefix_len is_digit bs ≡ k
count_on i b k rest bs e f h = omega (arith, h, ap (λ text. prefix_len is_digit text) e, prefix_yes is_digit b bs f)

pub rest_on : (b : ℕ) (rest bs more : List ℕ) → rest ≡ b ∷ bs → is_digit b ≡ true → behind is_digit rest ≡ more → behind is_digit bs ≡ more
rest_on b rest bs more e f h = digit b bs f ∙ ap (λ text. behind is_digit text) (sym e) ∙ h
  where
    digit : (b : ℕ) (bs : List ℕ) → is_digit b ≡ true → behind is_digit bs ≡ behind is_digit (b ∷ bs)
    digit b bs e = rw (prefix_yes is_digit b bs e) (sym (drop_one_more (prefix_len is_digit bs) b bs))

-- ---- three ways on

run_ends : (text : List ℕ) → begins_in_run text ≡ false → run_of text ≡ []
run_ends [] e = refl
run_ends (b ∷ bs) e = rw (prefix_no is_in_run b bs e) refl

-- the digits are all of the run
ended : (text : List ℕ) → begins_in_run (after text) ≡ false → parts_of text ≡ digits_of text ∷ []
ended text e = parts_behind text ∙ rw (run_ends (after text) e, append-nil (digits_of text)) refl

-- a point follows
pointed : (text back : List ℕ) → after text ≡ point ∷ back → parts_of text ≡ digits_of text ∷ parts_of back
pointed text back e = parts_behind text ∙ rw (e, take_front is_in_run point back refl, append-nil (digits_of text)) refl

not_all : (xs : List ℕ) (x : ℕ) (ys : List ℕ) → is_digit x ≡ false → list_all is_digit (xs ++ x ∷ ys) ≡ false
not_all [] x ys e = rw e refl
not_all (b ∷ bs) x ys e = rw (not_all bs x ys e) (no_both (is_digit b))
  where
    no_both : (t : Bool) → (t && false) ≡ false
    no_both true = refl
    no_both false = refl

-- the first part is no number
abbrev Refused : List (List ℕ) → Type 0
Refused parts = (first : List ℕ) × (more : List (List ℕ)) × (parts ≡ first ∷ more) × (are_digits first ≡ false)

second_false : (a b : Bool) → b ≡ false → (a && b) ≡ false
second_false true b e = e
second_false false b e = refl

-- a letter follows
lettered : (text : List ℕ) (b : ℕ) (bs : List ℕ) → after text ≡ b ∷ bs → is_in_run b ≡ true → (b == point) ≡ false → Refused (parts_of text)
lettered text b bs e f g =
    let none : is_digit b ≡ false = none_first is_digit b bs (subst (λ (t : List ℕ). prefix_len is_digit t ≡ 0) e (none_behind is_digit text)) in
    let parts = split_filled point (run_of bs) in (
      digits_of text ++ b ∷ parts.0,
      parts.1,
      parts_behind text ∙ rw (e, take_front is_in_run b bs f, g, parts.2) refl,
      second_false (nat_le (length (digits_of text ++ b ∷ parts.0)) 12) _ (not_all (digits_of text) b parts.0 none),
    )

long_false : (n : ℕ) → 12 < n → nat_le n 12 ≡ false
long_false n h = grind (arith, nat_tests)

long : (text : List ℕ) → 12 < prefix_len is_digit text → Refused (parts_of text)
long text h =
    let parts = split_filled point (run_of (after text)) in
    let longer : 12 < length (digits_of text ++ parts.0) = omega (arith, length-append (digits_of text) parts.0, front_length is_digit text) in
    (digits_of text ++ parts.0, parts.1, parts_behind text ∙ rw parts.2 refl, rw (long_false _ longer) refl)

refused_front : (parts : List (List ℕ)) → Refused parts → decimal parts ≡ None
refused_front parts r = ap decimal r.2 ∙ bad r.0 r.1 r.3
  where
    bad : (first : List ℕ) (more : List (List ℕ)) → are_digits first ≡ false → decimal (first ∷ more) ≡ None
    bad first [] e = rw e refl
    bad first (back ∷ []) e = rw e refl
    bad first (back ∷ next ∷ more) e = refl

refused_back : (front : List ℕ) (parts : List (List ℕ)) → Refused parts → decimal (front ∷ parts) ≡ None
refused_back front parts r = ap (λ ps. decimal (front ∷ ps)) r.2 ∙ bad front r.0 r.1 r.3
  where
    middle_false : (a b c : Bool) → b ≡ false → (a && b && c) ≡ false
    middle_false true b c e = rw e refl
    middle_false false b c e = refl

    bad : (front back : List ℕ) (more : List (List ℕ)) → are_digits back ≡ false → decimal (front ∷ back ∷ more) ≡ None
    bad front back [] e = rw (middle_false (are_digits front) (are_digits back) (nat_lt 0 (length front + length back)) e) refl
    bad front back (next ∷ more) e = refl

-- ---- a number without a point

are_front_digits : (text : List ℕ) → prefix_len is_digit text ≤ 12 → are_digits (digits_of text) ≡ true
are_front_digits text h = rw (front_length is_digit text, front_passes is_digit text) (few (prefix_len is_digit text) h)
  where
    few : (n : ℕ) → n ≤ 12 → (nat_le n 12 && true) ≡ true
    few n h = grind (arith, nat_tests)

is_positive : (n : ℕ) → 0 < n → nat_lt 0 n ≡ true
is_positive n h = grind (arith, nat_tests)

pub too_long : (text : List ℕ) → 12 < prefix_len is_digit text → decimal (split point (take (prefix_len is_in_run text) text)) ≡ None
too_long text h = refused_front (parts_of text) (long text h)

run_begun : (text : List ℕ) (b : ℕ) (bs : List ℕ) → after text ≡ b ∷ bs → is_in_run b ≡ true → ((back : List ℕ) → after text ≢ point ∷ back) → decimal (parts_of text) ≡ None
run_begun text b bs e f h = elim (b == point) as (λ t. (b == point) ≡ t → decimal (parts_of text) ≡ None) [
  | true ↦ λ g. absurd (h bs (e ∙ ap (λ c. c ∷ bs) (eqb-true b point g)))
  | false ↦ λ g. refused_front (parts_of text) (lettered text b bs e f g)
] refl

-- digits before a letter
pub other_in_run : (text : List ℕ) → ((back : List ℕ) → after text ≢ point ∷ back) → begins_in_run (after text) ≡ true → decimal (parts_of text) ≡ None
other_in_run text h e = begun text (after text) refl h e
  where
    begun : (text rest : List ℕ) → after text ≡ rest → ((back : List ℕ) → after text ≢ point ∷ back) → begins_in_run rest ≡ true → decimal (parts_of text) ≡ None
    begun text [] f h e = cc
    begun text (b ∷ bs) f h e = run_begun text b bs f e h

third_false : (a b c : Bool) → c ≡ false → (a && b && c) ≡ false
third_false true true c e = e
third_false true false c e = refl
third_false false b c e = refl

not_positive : (n : ℕ) → n ≡ 0 → nat_lt 0 n ≡ false
not_positive n e = grind (arith, nat_tests)

pub no_digits_alone : (text : List ℕ) → begins_in_run (after text) ≡ false → prefix_len is_digit text ≡ 0 → decimal (parts_of text) ≡ None
no_digits_alone text e h =
    ap decimal (ended text e)
    ∙ rw (second_false (are_digits (digits_of text)) (nat_lt 0 (length (digits_of text))) (not_positive (length (digits_of text)) (front_length is_digit text ∙ h))) refl

pub alone : (text : List ℕ) → prefix_len is_digit text ≤ 12 → begins_in_run (after text) ≡ false → prefix_len is_digit text ≢ 0 → decimal (parts_of text) ≡ Some (number_of 0 (digits_of text) * 10 ^ 12 + 0)
alone text few e h =
    ap decimal (ended text e)
    ∙ rw (add-zero (number_of 0 (digits_of text) * 10 ^ 12), are_front_digits text few, front_length is_digit text, is_positive (prefix_len is_digit text) (omega (arith, h))) refl

pub alone_behind : (text : List ℕ) → begins_in_run (after text) ≡ false → after text ≡ behind is_in_run text
alone_behind text e = sym (outer_rest is_digit is_in_run text in_run_of_digit ∙ stays (after text) e)
  where
    stays : (rest : List ℕ) → begins_in_run rest ≡ false → behind is_in_run rest ≡ rest
    stays [] e = refl
    stays (b ∷ bs) e = rw (prefix_no is_in_run b bs e) refl

-- ---- a number with a point

pub too_long_back : (text back : List ℕ) → after text ≡ point ∷ back → 12 < prefix_len is_digit back → decimal (parts_of text) ≡ None
too_long_back text back e h = ap decimal (pointed text back e) ∙ refused_back (digits_of text) (parts_of back) (long back h)

-- a letter or another point behind the digits
pub more_in_run : (text back : List ℕ) → after text ≡ point ∷ back → begins_in_run (after back) ≡ true → decimal (parts_of text) ≡ None
more_in_run text back e f = ap decimal (pointed text back e) ∙ begun (digits_of text) back (after back) refl f
  where
    point_more : (front back bs : List ℕ) → after back ≡ point ∷ bs → decimal (front ∷ parts_of back) ≡ None
    point_more front back bs e = let parts = split_filled point (run_of bs) in rw (pointed back bs e, parts.2) refl

    begun : (front back rest : List ℕ) → after back ≡ rest → begins_in_run rest ≡ true → decimal (front ∷ parts_of back) ≡ None
    begun front back [] e f = cc
    begun front back (b ∷ bs) e f = elim (b == point) as (λ t. (b == point) ≡ t → decimal (front ∷ parts_of back) ≡ None) [
      | true ↦ λ g. point_more front back bs (e ∙ ap (λ c. c ∷ bs) (eqb-true b point g))
      | false ↦ λ g. refused_back front (parts_of back) (lettered back b bs e f g)
    ] refl

pub no_digits : (text back : List ℕ) → after text ≡ point ∷ back → begins_in_run (after back) ≡ false → prefix_len is_digit text + prefix_len is_digit back ≡ 0 → decimal (parts_of text) ≡ None
no_digits text back e f h =
    let none : length (digits_of text) + length (digits_of back) ≡ 0 = omega (arith, h, front_length is_digit text, front_length is_digit back) in
    ap decimal (pointed text back e ∙ ap (λ ps. digits_of text ∷ ps) (ended back f))
    ∙ rw (third_false (are_digits (digits_of text)) (are_digits (digits_of back)) (nat_lt 0 (length (digits_of text) + length (digits_of back))) (not_positive (length (digits_of text) + length (digits_of back)) none)) refl

pub with_point : (text back : List ℕ) → after text ≡ point ∷ back → prefix_len is_digit text ≤ 12 → prefix_len is_digit back ≤ 12 → begins_in_run (after back) ≡ false → prefix_len is_digit text + prefix_len is_digit back ≢ 0
    → decimal (parts_of text) ≡ Some (number_of 0 (digits_of text) * 10 ^ 12 + number_of 0 (digits_of back) * 10 ^ (12 - prefix_len is_digit back))
with_point text back e m n f h =
    ap decimal (pointed text back e ∙ ap (λ ps. digits_of text ∷ ps) (ended back f))
    ∙ rw (are_front_digits text m, are_front_digits back n, front_length is_digit text, front_length is_digit back, is_positive (prefix_len is_digit text + prefix_len is_digit back) (omega (arith, h))) refl

pub with_point_behind : (text back : List ℕ) → after text ≡ point ∷ back → begins_in_run (after back) ≡ false → after back ≡ behind is_in_run text
with_point_behind text back e f =
    alone_behind back f ∙ sym (outer_rest is_digit is_in_run text in_run_of_digit ∙ rw e (skipped point back refl))
  where
    skipped : (b : ℕ) (bs : List ℕ) → is_in_run b ≡ true → behind is_in_run (b ∷ bs) ≡ behind is_in_run bs
    skipped b bs e = rw (prefix_yes is_in_run b bs e) (drop_one_more (prefix_len is_in_run bs) b bs)

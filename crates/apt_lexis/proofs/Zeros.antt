-- A zero in front of a number or behind its point changes no value, nor does a point behind a whole number.
use Rattle.std.proofs.Common.{◌≡◌, ℕ, suc, ◌+◌, ◌-◌, ◌*◌, ◌^◌, ◌<◌, ◌==◌, List, [], ◌∷◌, ◌++◌, length, Bool, true, false, Option, Some, None, ap, ◌∙◌, sym, refl, arith}
use Rattle.std.specs.Prelude.{◌&&◌, ◌||◌, IsSome, nat_le, nat_lt}
use Rattle.std.specs.List.{list_all}
use Rattle.std.proofs.lemmas.Bool.{and_parts, and_from}
use Rattle.std.proofs.lemmas.Bool.Decides.{nat_tests}
use Rattle.std.proofs.lemmas.List.{length-append}
use Rattle.std.proofs.lemmas.Nat.{pow-add}
use Rattle.apt_words.specs.Options.{◌>>=◌, only_if}
use Rattle.apt_words.specs.Symbols.{is_digit}
use Rattle.apt_lexis.specs.Lines.{split, in_front}
use Rattle.apt_lexis.specs.Tokens.{point, are_digits, number_of, decimal, millionths, number_in}
use Rattle.apt_lexis.specs.Spellings.{zero_digit, HasRoomInFront, HasRoomBehind, IsWhole, IsLonger, ZeroInFront, ZeroBehind, PointBehind}
use Rattle.apt_lexis.proofs.Splitting.{Filled, split_filled}
use Rattle.apt_lexis.proofs.PartedRuns.{by_cases}

-- ---- what is known of a number

first_some : {A B : Type 0} (o : Option A) (f : A → Option B) → IsSome (o >>= f) → IsSome o
first_some None f h = cc
first_some (Some x) f h = refl

test_of : {A : Type 0} (b : Bool) (x : A) → IsSome (only_if b x) → b ≡ true
test_of true x h = refl
test_of false x h = cc

same_if : {A : Type 0} (a b : Bool) (x y : A) → a ≡ true → b ≡ true → x ≡ y → only_if a x ≡ only_if b y
same_if a b x y e f g = rw (e, f) (ap (λ z. Some z) g)

is_decimal : (run : List ℕ) → IsSome (number_in run) → IsSome (decimal (split point run))
is_decimal run h = first_some (decimal (split point run)) millionths h

-- the digits of a number without a point
record HasDigits (whole : List ℕ) : Type 0 where
  digits : are_digits whole ≡ true
  some : nat_lt 0 (length whole) ≡ true

-- the digits of a number round its point
record HasDigitsRound (whole places : List ℕ) : Type 0 where
  digits : are_digits whole ≡ true
  behind : are_digits places ≡ true
  some : nat_lt 0 (length whole + length places) ≡ true

whole_is : (whole : List ℕ) → IsSome (decimal (whole ∷ [])) → HasDigits whole
whole_is whole h =
    let both = and_parts (are_digits whole) (nat_lt 0 (length whole)) (test_of (are_digits whole && nat_lt 0 (length whole)) (number_of 0 whole * 10 ^ 12) h) in
    record { digits = both.0; some = both.1 }

three_parts : (a b c : Bool) → (a && b && c) ≡ true → (a ≡ true) × (b ≡ true) × (c ≡ true)
three_parts true true true e = (refl, refl, refl)
three_parts true true false e = cc
three_parts true false c e = cc
three_parts false b c e = cc

three_from : (a b c : Bool) → a ≡ true → b ≡ true → c ≡ true → (a && b && c) ≡ true
three_from a b c e f g = rw (e, f, g) refl

pointed_is : (whole places : List ℕ) → IsSome (decimal (whole ∷ places ∷ [])) → HasDigitsRound whole places
pointed_is whole places h =
    let all = three_parts (are_digits whole) (are_digits places) (nat_lt 0 (length whole + length places))
    (test_of (are_digits whole && are_digits places && nat_lt 0 (length whole + length places)) (number_of 0 whole * 10 ^ 12 + number_of 0 places * 10 ^ (12 - length places)) h) in
    record { digits = all.0; behind = all.1; some = all.2 }

-- ---- in front

room : (n : ℕ) → n < 12 → nat_le (suc n) 12 ≡ true
room n h = grind (arith, nat_tests)

digits_in_front : (whole : List ℕ) → length whole < 12 → are_digits whole ≡ true → are_digits (zero_digit ∷ whole) ≡ true
digits_in_front whole h e = and_from (nat_le (length (zero_digit ∷ whole)) 12) (list_all is_digit whole) (room (length whole) h) (and_parts (nat_le (length whole) 12) (list_all is_digit whole) e).1

more_than_none : (n : ℕ) → 0 < n → nat_lt 0 n ≡ true
more_than_none n h = grind (arith, nat_tests)

whole_longer : (whole : List ℕ) → length whole < 12 → HasDigits whole → decimal ((zero_digit ∷ whole) ∷ []) ≡ decimal (whole ∷ [])
whole_longer whole h is =
    same_if (are_digits (zero_digit ∷ whole) && nat_lt 0 (length (zero_digit ∷ whole))) (are_digits whole && nat_lt 0 (length whole)) (number_of 0 whole * 10 ^ 12) (number_of 0 whole * 10 ^ 12)
    (and_from (are_digits (zero_digit ∷ whole)) (nat_lt 0 (length (zero_digit ∷ whole))) (digits_in_front whole h is.digits) (more_than_none (length (zero_digit ∷ whole)) (omega arith)))
    (and_from (are_digits whole) (nat_lt 0 (length whole)) is.digits is.some) refl

pointed_longer : (whole places : List ℕ) → length whole < 12 → HasDigitsRound whole places → decimal ((zero_digit ∷ whole) ∷ places ∷ []) ≡ decimal (whole ∷ places ∷ [])
pointed_longer whole places h is =
    same_if (are_digits (zero_digit ∷ whole) && are_digits places && nat_lt 0 (length (zero_digit ∷ whole) + length places)) (are_digits whole && are_digits places && nat_lt 0 (length whole + length places)) _ _
    (three_from _ _ _ (digits_in_front whole h is.digits) is.behind (more_than_none (length (zero_digit ∷ whole) + length places) (omega arith)))
    (three_from _ _ _ is.digits is.behind is.some) refl

decimal_in_front : (parts : List (List ℕ)) → IsSome (decimal parts) → HasRoomInFront parts → decimal (in_front zero_digit parts) ≡ decimal parts
decimal_in_front [] h room = absurd room
decimal_in_front (whole ∷ []) h room = whole_longer whole room (whole_is whole h)
decimal_in_front (whole ∷ places ∷ []) h room = pointed_longer whole places room (pointed_is whole places h)
decimal_in_front (whole ∷ places ∷ next ∷ more) h room = refl

-- a zero in front of a number
pub zero_in_front : (run : List ℕ) → IsSome (number_in run) → HasRoomInFront (split point run) → number_in (zero_digit ∷ run) ≡ number_in run
zero_in_front run h room = ap (λ d. d >>= millionths) (decimal_in_front (split point run) (is_decimal run h) room)

-- ---- behind the point

-- parts whose last has a digit more
abbrev with_last : ℕ → List (List ℕ) → List (List ℕ)
with_last b [] = (b ∷ []) ∷ []
with_last b (part ∷ []) = (part ++ b ∷ []) ∷ []
with_last b (part ∷ next ∷ parts) = part ∷ with_last b (next ∷ parts)

in_front_with_last : (b c : ℕ) (first : List ℕ) (parts : List (List ℕ)) → in_front b (with_last c (first ∷ parts)) ≡ with_last c (in_front b (first ∷ parts))
in_front_with_last b c first [] = refl
in_front_with_last b c first (next ∷ parts) = refl

split_other : (b : ℕ) (bs : List ℕ) → (b == point) ≡ false → split point (b ∷ bs) ≡ in_front b (split point bs)
split_other b bs e = rw e refl

split_at_point : (b : ℕ) (bs : List ℕ) → (b == point) ≡ true → split point (b ∷ bs) ≡ [] ∷ split point bs
split_at_point b bs e = rw e refl

split_with_last : (run : List ℕ) → split point (run ++ zero_digit ∷ []) ≡ with_last zero_digit (split point run)
split_with_last [] = refl
split_with_last (b ∷ bs) =
    let f = split_filled point bs in
    by_cases (b == point)
    (λ e. split_at_point b (bs ++ zero_digit ∷ []) e ∙ ap (λ ps. [] ∷ ps) (split_with_last bs) ∙ apart f ∙ ap (with_last zero_digit) (sym (split_at_point b bs e)))
    (λ e. split_other b (bs ++ zero_digit ∷ []) e ∙ ap (in_front b) (split_with_last bs) ∙ together b f ∙ ap (with_last zero_digit) (sym (split_other b bs e)))
  where
    apart : {parts : List (List ℕ)} → Filled parts → [] ∷ with_last zero_digit parts ≡ with_last zero_digit ([] ∷ parts)
    apart f = rw f.2 refl

    together : {parts : List (List ℕ)} (b : ℕ) → Filled parts → in_front b (with_last zero_digit parts) ≡ with_last zero_digit (in_front b parts)
    together b f = rw f.2 (in_front_with_last b zero_digit f.0 f.1)

number_with_zero : (n : ℕ) (places : List ℕ) → number_of n (places ++ zero_digit ∷ []) ≡ 10 * number_of n places
number_with_zero n [] = omega arith
number_with_zero n (b ∷ bs) = number_with_zero (10 * n + (b - 48)) bs

all_with_zero : (places : List ℕ) → list_all is_digit places ≡ true → list_all is_digit (places ++ zero_digit ∷ []) ≡ true
all_with_zero [] e = refl
all_with_zero (b ∷ bs) e =
    let both = and_parts (is_digit b) (list_all is_digit bs) e in
    and_from (is_digit b) (list_all is_digit (bs ++ zero_digit ∷ [])) both.0 (all_with_zero bs both.1)

digits_behind : (places : List ℕ) → length places < 12 → are_digits places ≡ true → are_digits (places ++ zero_digit ∷ []) ≡ true
digits_behind places h e =
    and_from (nat_le (length (places ++ zero_digit ∷ [])) 12) (list_all is_digit (places ++ zero_digit ∷ []))
    (few (length (places ++ zero_digit ∷ [])) (omega (arith, h, length-append places (zero_digit ∷ []))))
    (all_with_zero places (and_parts (nat_le (length places) 12) (list_all is_digit places) e).1)
  where
    few : (n : ℕ) → n < 13 → nat_le n 12 ≡ true
    few n h = grind (arith, nat_tests)

-- ten times as many of a tenth of the size
same_size : (n k : ℕ) → k < 12 → 10 * n * 10 ^ (12 - (k + 1)) ≡ n * 10 ^ (12 - k)
same_size n k h =
    let next : 12 - k ≡ (12 - (k + 1)) + 1 = omega arith in
    omega (arith, ap (λ i. 10 ^ i) next, pow-add 10 (12 - (k + 1)) 1, ap (λ p. n * p) (ap (λ i. 10 ^ i) next ∙ pow-add 10 (12 - (k + 1)) 1))

same_places : (places : List ℕ) → length places < 12
    → number_of 0 (places ++ zero_digit ∷ []) * 10 ^ (12 - length (places ++ zero_digit ∷ [])) ≡ number_of 0 places * 10 ^ (12 - length places)
same_places places h = rw (number_with_zero 0 places, length-append places (zero_digit ∷ [])) (same_size (number_of 0 places) (length places) h)

decimal_behind : (parts : List (List ℕ)) → IsSome (decimal parts) → HasRoomBehind parts → decimal (with_last zero_digit parts) ≡ decimal parts
decimal_behind [] h room = absurd room
decimal_behind (whole ∷ []) h room = absurd room
decimal_behind (whole ∷ places ∷ []) h room =
    let is = pointed_is whole places h in
    let longer : List ℕ = places ++ zero_digit ∷ [] in
    same_if (are_digits whole && are_digits longer && nat_lt 0 (length whole + length longer)) (are_digits whole && are_digits places && nat_lt 0 (length whole + length places)) _ _
    (three_from _ _ _ is.digits (digits_behind places room is.behind) (more_than_none (length whole + length longer) (omega (arith, length-append places (zero_digit ∷ [])))))
    (three_from _ _ _ is.digits is.behind is.some)
    (ap (λ n. number_of 0 whole * 10 ^ 12 + n) (same_places places room))
decimal_behind (whole ∷ places ∷ next ∷ more) h room = absurd room

-- a zero behind the point of a number
pub zero_behind : (run : List ℕ) → IsSome (number_in run) → HasRoomBehind (split point run) → number_in (run ++ zero_digit ∷ []) ≡ number_in run
zero_behind run h room = ap (λ parts. decimal parts >>= millionths) (split_with_last run) ∙ ap (λ d. d >>= millionths) (decimal_behind (split point run) (is_decimal run h) room)

-- ---- the point of a whole number

split_with_point : (run : List ℕ) → split point (run ++ point ∷ []) ≡ split point run ++ [] ∷ []
split_with_point [] = refl
split_with_point (b ∷ bs) =
    by_cases (b == point)
    (λ e. split_at_point b (bs ++ point ∷ []) e ∙ ap (λ ps. [] ∷ ps) (split_with_point bs) ∙ ap (λ ps. ps ++ [] ∷ []) (sym (split_at_point b bs e)))
    (λ e. split_other b (bs ++ point ∷ []) e ∙ ap (in_front b) (split_with_point bs) ∙ first b (split_filled point bs) ∙ ap (λ ps. ps ++ [] ∷ []) (sym (split_other b bs e)))
  where
    first : {parts : List (List ℕ)} (b : ℕ) → Filled parts → in_front b (parts ++ [] ∷ []) ≡ in_front b parts ++ [] ∷ []
    first b f = rw f.2 refl

whole_pointed : (whole : List ℕ) → HasDigits whole → decimal (whole ∷ [] ∷ []) ≡ decimal (whole ∷ [])
whole_pointed whole is =
    same_if (are_digits whole && are_digits [] && nat_lt 0 (length whole + 0)) (are_digits whole && nat_lt 0 (length whole)) _ _
    (three_from _ _ _ is.digits refl (more_than_none (length whole + 0) (omega (arith, some_digits (length whole) is.some))))
    (and_from (are_digits whole) (nat_lt 0 (length whole)) is.digits is.some)
    (omega arith)
  where
    some_digits : (n : ℕ) → nat_lt 0 n ≡ true → 0 < n
    some_digits n e = grind (arith, nat_tests)

decimal_pointed : (parts : List (List ℕ)) → IsSome (decimal parts) → IsWhole parts → decimal (parts ++ [] ∷ []) ≡ decimal parts
decimal_pointed [] h is = absurd is
decimal_pointed (whole ∷ []) h is = whole_pointed whole (whole_is whole h)
decimal_pointed (whole ∷ places ∷ more) h is = absurd is

-- a point behind a whole number
pub point_behind : (run : List ℕ) → IsSome (number_in run) → IsWhole (split point run) → number_in (run ++ point ∷ []) ≡ number_in run
point_behind run h is = ap (λ parts. decimal parts >>= millionths) (split_with_point run) ∙ ap (λ d. d >>= millionths) (decimal_pointed (split point run) (is_decimal run h) is)

-- the same number, written longer
pub same_number : (run longer : List ℕ) → IsSome (number_in run) → IsLonger run longer → number_in longer ≡ number_in run
same_number run longer h (ZeroInFront room e) = ap number_in e ∙ zero_in_front run h room
same_number run longer h (ZeroBehind room e) = ap number_in e ∙ zero_behind run h room
same_number run longer h (PointBehind is e) = ap number_in e ∙ point_behind run h is

-- ---- the characters of a number

abbrev pub is_digit_or_point : ℕ → Bool
is_digit_or_point b = is_digit b || b == point

all_digits : (text : List ℕ) → are_digits text ≡ true → list_all is_digit text ≡ true
all_digits text e = (and_parts (nat_le (length text) 12) (list_all is_digit text) e).1

digits_of_parts : (parts : List (List ℕ)) → IsSome (decimal parts) → list_all (list_all is_digit) parts ≡ true
digits_of_parts [] h = refl
digits_of_parts (whole ∷ []) h = and_from (list_all is_digit whole) true (all_digits whole (whole_is whole h).digits) refl
digits_of_parts (whole ∷ places ∷ []) h =
    let is = pointed_is whole places h in
    and_from (list_all is_digit whole) (list_all is_digit places && true) (all_digits whole is.digits) (and_from (list_all is_digit places) true (all_digits places is.behind) refl)
digits_of_parts (whole ∷ places ∷ next ∷ more) h = cc

characters_of_parts : (run : List ℕ) → list_all (list_all is_digit) (split point run) ≡ true → list_all is_digit_or_point run ≡ true
characters_of_parts [] e = refl
characters_of_parts (b ∷ bs) e =
    by_cases (b == point)
    (λ f. and_from (is_digit_or_point b) (list_all is_digit_or_point bs) (of_point b f) (characters_of_parts bs (ap (list_all (list_all is_digit)) (sym (split_at_point b bs f)) ∙ e)))
    (λ f.
    let both = first_of_parts b (split point bs) (split_filled point bs) (ap (list_all (list_all is_digit)) (sym (split_other b bs f)) ∙ e) in
    and_from (is_digit_or_point b) (list_all is_digit_or_point bs) (of_digit b both.0) (characters_of_parts bs both.1))
  where
    of_point : (b : ℕ) → (b == point) ≡ true → is_digit_or_point b ≡ true
    of_point b e = grind (arith, nat_tests)

    of_digit : (b : ℕ) → is_digit b ≡ true → is_digit_or_point b ≡ true
    of_digit b e = rw e refl

    first_of_parts : (b : ℕ) (parts : List (List ℕ)) → Filled parts → list_all (list_all is_digit) (in_front b parts) ≡ true → (is_digit b ≡ true) × (list_all (list_all is_digit) parts ≡ true)
    first_of_parts b parts f e =
        let both = and_parts (is_digit b && list_all is_digit f.0) (list_all (list_all is_digit) f.1) (ap (λ ps. list_all (list_all is_digit) (in_front b ps)) (sym f.2) ∙ e) in
        let first = and_parts (is_digit b) (list_all is_digit f.0) both.0 in
        (first.0, ap (list_all (list_all is_digit)) f.2 ∙ and_from (list_all is_digit f.0) (list_all (list_all is_digit) f.1) first.1 both.1)

pub number_characters : (run : List ℕ) → IsSome (number_in run) → list_all is_digit_or_point run ≡ true
number_characters run h = characters_of_parts run (digits_of_parts (split point run) (is_decimal run h))

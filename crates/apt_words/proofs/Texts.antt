-- Symbols are text.
use Rattle.std.proofs.Common.{◌≡◌, ℕ, zero, suc, ◌<◌, List, [], ◌∷◌, length, Bool, true, false, arith, refl}
use Rattle.std.specs.Prelude.{◌&&◌, nat_le}
use Rattle.std.specs.Str.{IsAscii, IsUtf8}
use Rattle.std.specs.List.{list_all}
use Rattle.std.proofs.lemmas.Str.{IsUtf8-from_ascii}
use Rattle.std.proofs.lemmas.Bool.Decides.{nat_tests}
use Rattle.apt_words.specs.Symbols.{is_symbol, is_name, is_capital, is_capital_or_digit}

small : (b : ℕ) → is_capital_or_digit b ≡ true → b < 128
small b e = grind (arith, nat_tests)

capital_small : (b : ℕ) → is_capital b ≡ true → b < 128
capital_small b e = grind (arith, nat_tests)

pub first_of_both : (a b : Bool) → (a && b) ≡ true → a ≡ true
first_of_both true b e = refl
first_of_both false b e = e

pub second_of_both : (a b : Bool) → (a && b) ≡ true → b ≡ true
second_of_both true b e = e
second_of_both false b e = cc

all_ascii : (bs : List ℕ) → list_all is_capital_or_digit bs ≡ true → IsAscii bs
all_ascii [] e i = omega arith
all_ascii (b ∷ bs) e zero = small b (first_of_both (is_capital_or_digit b) _ e)
all_ascii (b ∷ bs) e (suc i) = all_ascii bs (second_of_both (is_capital_or_digit b) _ e) i

symbol_ascii : (text : List ℕ) → is_symbol text ≡ true → IsAscii text
symbol_ascii [] e i = omega arith
symbol_ascii (b ∷ bs) e zero = capital_small b (second_of_both (nat_le (length bs) 5) _ (first_of_both (nat_le (length bs) 5 && is_capital b) _ e))
symbol_ascii (b ∷ bs) e (suc i) = all_ascii bs (second_of_both (nat_le (length bs) 5 && is_capital b) _ e) i

pub symbol_is_text : (text : List ℕ) → is_symbol text ≡ true → IsUtf8 text
symbol_is_text text e = IsUtf8-from_ascii text (symbol_ascii text e)

pub name_is_symbol : (text : List ℕ) → is_name text ≡ true → is_symbol text ≡ true
name_is_symbol text e = first_of_both (is_symbol text) _ e

-- Small texts, which the checker reads.
use Rattle.std.specs.Prelude.{◌≡◌, ℕ, pos, List, [], ◌∷◌, ◌++◌, Some, None, Ok, Err, codes}
use Rattle.std.proofs.Common.{refl}
use Rattle.apt_lexis.specs.declared.cause.PartCause.TheVariants as causes
use Rattle.apt_words.specs.Vocabulary.{word_of}
use Rattle.apt_words.specs.declared.word.Word.TheVariants as words
use Rattle.apt_lexis.specs.declared.token.Token.{Token}
use Rattle.apt_lexis.specs.declared.token.Token.TheVariants as tokens
use Rattle.apt_lexis.specs.Lines.{lines_of}
use Rattle.apt_lexis.specs.Tokens.{tokens_of}
use Rattle.apt_lexis.specs.Sentences.{said_in}
use Rattle.apt_lexis.specs.Phrase.{Phrase}

two_lines : lines_of (codes "A" ++ 13 ∷ 10 ∷ codes "B" ++ 13 ∷ []) ≡ codes "A" ∷ (codes "B" ++ 13 ∷ []) ∷ []
two_lines = refl

one_line : lines_of (10 ∷ []) ≡ [] ∷ []
one_line = refl

no_line : lines_of [] ≡ []
no_line = refl

assignment : tokens_of (codes " a1 = 2.5*(-.5)") ≡
    Ok (tokens.Name (codes "A1") ∷ tokens.Equals ∷ tokens.Number (pos 2500000) ∷ tokens.Star ∷ tokens.Open ∷ tokens.Minus ∷ tokens.Number (pos 500000) ∷ tokens.Close ∷ [])
unfolding word_of
assignment = refl

two_points : tokens_of (codes "A=1.2.3") ≡ Err causes.BadNumber
two_points = refl

seven_letters : tokens_of (codes "LONGNAME=1") ≡ Err causes.BadWord
seven_letters = refl

first_bad : tokens_of (codes "A#1.2.3") ≡ Err causes.BadWord
first_bad = refl

word_then_number : tokens_of (codes "A.5") ≡ Ok (tokens.Name (codes "A") ∷ tokens.Number (pos 500000) ∷ [])
unfolding word_of
word_then_number = refl

a_million : tokens_of (codes "1000000.0000001") ≡ Err causes.BadNumber
a_million = refl

half_a_millionth : tokens_of (codes "0.0000005") ≡ Ok (tokens.Number (pos 1) ∷ [])
half_a_millionth = refl

abbrev phrase : ℕ → List Token → Phrase
phrase n ts = record { line = n; tokens = Ok ts; text = None }

continued : said_in (codes "A= $ more" ++ 10 ∷ codes "$$ a comment" ++ 10 ∷ codes "  1 $$ end" ++ 10 ∷ codes "B") ≡
    record { phrases = phrase 1 (tokens.Name (codes "A") ∷ tokens.Equals ∷ tokens.Number (pos 1000000) ∷ []) ∷ phrase 4 (tokens.Name (codes "B") ∷ []) ∷ []; fault = None }
unfolding word_of
continued = refl

titled : said_in (codes "LA) partno  a $ B  " ++ 10 ∷ []) ≡
    record { phrases = record { line = 1; tokens = Ok (tokens.Name (codes "LA") ∷ tokens.Close ∷ tokens.Word words.Partno ∷ []); text = Some (codes " a $ B") } ∷ []; fault = None }
unfolding word_of
titled = refl

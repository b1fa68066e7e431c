-- A control runs the tape of blocks that it understands to just their acts.
use Rattle.std.specs.Prelude.{◌≡◌, ℕ, ◌+◌, ◌&&◌, Bool, true, false, List, [], ◌∷◌, ◌++◌, length, map, Some, Ok}
use Rattle.std.specs.List.{list_all, flat_map}
use Rattle.std.proofs.Common.{ap, sym, ◌∙◌, refl, arith, append_assoc, append-nil}
use Rattle.std.proofs.lemmas.Bool.{and_parts}
use Rattle.std.proofs.lemmas.Bool.Decides.{nat_tests}
use Rattle.std.proofs.lemmas.List.Folds.{list_all-append}
use Rattle.apt_tapecode.specs.declared.Code.{Code}
use Rattle.apt_tapecode.specs.Tapecode.{is_tape_character, byte_of, end_of_block, rewind_stop}
use Rattle.apt_block.specs.declared.block.TapeWord.{TapeWord}
use Rattle.apt_block.specs.declared.block.TapeCause.TheVariants as causes
use Rattle.apt_block.specs.declared.block.BlockFault.{BlockFault}
use Rattle.apt_block.specs.Block.{fault, marks, spelling, word_text, line_feed, is_word_character, IsBlock}
use Rattle.apt_block.proofs.Reading.{block_of-spelling, word_characters}
use Rattle.apt_control.specs.Control.{MeaningOf, texts, run, run_characters, tape_run}
use Rattle.apt_control.specs.Spoken.{Spoken, AreSpoken, MeansNothing, acts_of, characters_of, bytes_of}
use Rattle.apt_control.proofs.Punched.{is_within, texts-text, characters-punched, after_start-punched}
use Rattle.apt_control.proofs.Steps.{run-block, run-end}

-- ---- characters of words

list_all-kept : {X : Type 0} (p q : X → Bool) (xs : List X) → ((x : X) → p x ≡ true → q x ≡ true) → list_all p xs ≡ true → list_all q xs ≡ true
list_all-kept p q [] keeps all = refl
list_all-kept p q (x ∷ xs) keeps all =
    let parts = and_parts (p x) (list_all p xs) all in
    both (q x) (list_all q xs) (keeps x parts.0) (list_all-kept p q xs keeps parts.1)
  where
    both : (s t : Bool) → s ≡ true → t ≡ true → (s && t) ≡ true
    both s t e f = rw e f

word_character-is_tape_character : (ch : ℕ) → is_word_character ch ≡ true → is_tape_character ch ≡ true
word_character-is_tape_character ch is = grind (arith, nat_tests)

word_character-is_within : (ch : ℕ) → is_word_character ch ≡ true → is_within ch ≡ true
word_character-is_within ch is = grind (arith, nat_tests)

line_feed-is_tape_character : list_all is_tape_character (line_feed ∷ []) ≡ true
line_feed-is_tape_character = refl

both-pass : {X : Type 0} (p : X → Bool) (xs ys : List X) → list_all p xs ≡ true → list_all p ys ≡ true → list_all p (xs ++ ys) ≡ true
both-pass p xs ys e f = list_all-append p xs ys ∙ ap (λ t. t && list_all p ys) e ∙ f

spelling-characters : (short : Bool) (words : List TapeWord) → IsBlock words → list_all is_tape_character (spelling short words) ≡ true
spelling-characters short words is =
    both-pass is_tape_character (flat_map (word_text short) words) (line_feed ∷ [])
    (list_all-kept is_word_character is_tape_character (flat_map (word_text short) words) word_character-is_tape_character (word_characters short words is))
    line_feed-is_tape_character

-- a block is the first text of its characters and those behind it
texts-block : (short : Bool) (at : ℕ) (words : List TapeWord) (rest : List ℕ) → IsBlock words
    → texts (marks at (spelling short words ++ rest)) ≡ marks at (spelling short words) ∷ texts (marks (at + length (flat_map (word_text short) words) + 1) rest)
texts-block short at words rest is =
    ap (λ chs. texts (marks at chs)) (append_assoc (flat_map (word_text short) words) (line_feed ∷ []) rest)
    ∙ texts-text at (flat_map (word_text short) words) rest
    (list_all-kept is_word_character is_within (flat_map (word_text short) words) word_character-is_within (word_characters short words is))

-- ---- the run

-- the tape's end
abbrev cut_at : ℕ → BlockFault
cut_at place = fault place causes.Truncated

all_characters : {H A : Type 0} (means : MeaningOf H A) (held : H) (short : Bool) (blocks : List (Spoken H A)) → AreSpoken means held blocks → list_all is_tape_character (characters_of short blocks) ≡ true
all_characters means held short [] are = absurd are
all_characters means held short (b ∷ []) is = both-pass is_tape_character (spelling short b.words) [] (spelling-characters short b.words is.is) refl
all_characters means held short (b ∷ next ∷ more) are =
    both-pass is_tape_character (spelling short b.words) (characters_of short (next ∷ more)) (spelling-characters short b.words are.0.is) (all_characters means b.behind short (next ∷ more) are.1)

-- from any block on
blocks-run : {H A : Type 0} (means : MeaningOf H A) (held : H) (short : Bool) (place at : ℕ) (blocks : List (Spoken H A)) → AreSpoken means held blocks
    → run means held (cut_at place) (texts (marks at (characters_of short blocks))) ≡ Ok (acts_of blocks)
blocks-run means held short place at [] are = absurd are
blocks-run means held short place at (b ∷ []) is =
    ap (run means held (cut_at place)) (texts-block short at b.words [] is.is)
    ∙ run-end means held place (marks at (spelling short b.words)) b.words (record { held = b.behind; acts = b.acts; ends = true })
    (block_of-spelling short (cut_at place) at b.words is.is) (is.means_it _ _) refl
    ∙ ap Ok (sym (append-nil b.acts))
blocks-run means held short place at (b ∷ next ∷ more) are =
    let later = characters_of short (next ∷ more) in
    ap (run means held (cut_at place)) (texts-block short at b.words later are.0.is)
    ∙ run-block means held (cut_at place) (marks at (spelling short b.words)) (texts (marks (at + length (flat_map (word_text short) b.words) + 1) later)) b.words
    (record { held = b.behind; acts = b.acts; ends = false }) (acts_of (next ∷ more))
    (block_of-spelling short (cut_at place) at b.words are.0.is) (are.0.means_it _ _) refl (blocks-run means b.behind short place _ (next ∷ more) are.1)

-- a tape that was punched is run from its first block on, behind one without words
run-punched : {H A : Type 0} (means : MeaningOf H A) (start : H) (code : Code) (chs : List ℕ) (acts : List A) → list_all is_tape_character chs ≡ true
    → MeansNothing means start → run means start (cut_at (2 + length chs)) (texts (marks 2 chs)) ≡ Ok acts
    → tape_run means start code (map (byte_of code) (rewind_stop ∷ end_of_block ∷ chs)) ≡ Ok acts
run-punched means start code chs acts ok nothing runs =
    let place : 1 + length (end_of_block ∷ chs) ≡ 2 + length chs = omega arith in
    ap (run_characters means start (length (map (byte_of code) (rewind_stop ∷ end_of_block ∷ chs)))) (after_start-punched code (map (byte_of code) (end_of_block ∷ chs)) ∙ ap Some (characters-punched code 1 (end_of_block ∷ chs) ok))
    ∙ ap (λ n. run means start (cut_at n) (texts (marks 1 (end_of_block ∷ chs)))) place
    ∙ run-block means start (cut_at (2 + length chs)) (marks 1 (end_of_block ∷ [])) (texts (marks 2 chs)) [] (record { held = start; acts = []; ends = false }) acts refl (nothing _) refl runs

-- with any meaning of blocks, where no words mean nothing
pub spoken_runs : {H A : Type 0} (means : MeaningOf H A) (start : H) (code : Code) (short : Bool) (blocks : List (Spoken H A)) → MeansNothing means start → AreSpoken means start blocks
    → tape_run means start code (bytes_of code short blocks) ≡ Ok (acts_of blocks)
spoken_runs means start code short blocks nothing are =
    let chs = characters_of short blocks in
    run-punched means start code chs (acts_of blocks) (all_characters means start short blocks are) nothing (blocks-run means start short (2 + length chs) 2 blocks are)

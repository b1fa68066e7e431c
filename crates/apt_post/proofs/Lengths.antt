-- How many bytes a tape has: at most 47 a block; and how many acts records have.
use Rattle.std.proofs.Common.{◌≡◌, cond, ℕ, zero, suc, ◌+◌, ◌-◌, ◌*◌, ◌^◌, ◌≤◌, nat_lt, ◌==◌, ℤ, pos, unsigned_abs, refl, Bool, true, false, List, [], ◌∷◌, ◌++◌, length, arith, lit≤}
use Rattle.std.specs.Prelude.{if◌then◌else◌, ◌%◌}
use Rattle.std.specs.List.{filter, flat_map}
use Rattle.std.proofs.lemmas.List.{length-map, length-append}
use Rattle.apt_words.specs.declared.Command.TheVariants as commands
use Rattle.apt_words.specs.declared.Units.TheVariants.{Inch, Mm}
use Rattle.apt_words.specs.declared.Turn.TheVariants as turns
use Rattle.apt_words.specs.declared.Cool.TheVariants as coolants
use Rattle.apt_tapecode.specs.Tapecode.{byte_of}
use Rattle.apt_records.specs.declared.record.Reach.TheVariants as reaches
use Rattle.apt_records.specs.declared.record.Note.{Note}
use Rattle.apt_records.specs.declared.record.Note.TheVariants as notes
use Rattle.apt_records.specs.declared.record.Record.{Record}
use Rattle.apt_records.specs.declared.record.Record.TheVariants as records
use Rattle.apt_records.specs.Ranges.{vertices_in, vertex_count}
use Rattle.apt_machine.specs.declared.machine.Machine.{Machine}
use Rattle.apt_block.specs.declared.block.TapeWord.{TapeWord}
use Rattle.apt_block.specs.declared.table.Form.{Form}
use Rattle.apt_block.specs.Block.{spelling, word_text, tape_word, forms, form_in, room_for, width, sign, digits, letter_n, letter_f, line_feed}
use Rattle.apt_control.specs.declared.Act.{Act}
use Rattle.apt_control.specs.declared.Act.TheVariants as acts
use Rattle.apt_control.specs.declared.held.Held.{Held}
use Rattle.apt_control.specs.Control.{nothing_held}
use Rattle.apt_post.specs.declared.planning.Pending.{Pending}
use Rattle.apt_post.specs.Plan.{cut_to, note_acts, record_acts, record_pending, acts_from}
use Rattle.apt_post.specs.Blocks.{g, goes_by_ways, position, mode_words, move_words, act_words, numbered, is_written, written_words, behind, act_block, blocks_from, tape_text, tape_bytes}

-- ---- a block

-- the most characters of a word
abbrev longest : TapeWord → ℕ
longest w = 1 + (cond (form_in forms w.letter).signed 1 0 + (form_in forms w.letter).digits)

abbrev pub all_longest : List TapeWord → ℕ
all_longest [] = 0
all_longest (w ∷ ws) = longest w + all_longest ws

digits_length : (n v : ℕ) → length (digits n v) ≡ n
digits_length zero v = refl
digits_length (suc n) v = omega (arith, digits_length n v)

room_few : (n more v : ℕ) → room_for n more v ≤ n + more
room_few n zero v = omega arith
room_few n (suc more) v = go (nat_lt v (10 ^ n)) (room_few (n + 1) more v)
  where
    go : (t : Bool) → room_for (n + 1) more v ≤ n + 1 + more → cond t n (room_for (n + 1) more v) ≤ n + suc more
    go true h = omega arith
    go false h = omega (arith, h)

width_few : (short : Bool) (f : Form) (v : ℕ) → f.fewest ≤ f.digits → width short f v ≤ f.digits
width_few false f v few = omega arith
width_few true f v few = omega (arith, room_few f.fewest (f.digits - f.fewest) v, few)

number_few : (s : Bool) (n most : ℕ) (v : ℤ) → n ≤ most → length (cond s (sign v ∷ []) [] ++ digits n (unsigned_abs v)) ≤ cond s 1 0 + most
number_few true n most v few = omega (arith, digits_length n (unsigned_abs v), few)
number_few false n most v few = omega (arith, digits_length n (unsigned_abs v), few)

-- no form of the table asks for more digits than it has
abbrev AreFit : List Form → Type 0
AreFit [] = Unit {0}
AreFit (f ∷ fs) = (f.fewest ≤ f.digits) × AreFit fs

fit_in : (fs : List Form) (letter : ℕ) → AreFit fs → (form_in fs letter).fewest ≤ (form_in fs letter).digits
fit_in [] letter are = omega arith
fit_in (f ∷ fs) letter are = go (f.letter == letter) (fit_in fs letter are.1)
  where
    go : (t : Bool) → (form_in fs letter).fewest ≤ (form_in fs letter).digits → (cond t f (form_in fs letter)).fewest ≤ (cond t f (form_in fs letter)).digits
    go true more = are.0
    go false more = more

form_fits : (letter : ℕ) → (form_in forms letter).fewest ≤ (form_in forms letter).digits
form_fits letter =
    fit_in forms letter (lit≤ tt, (lit≤ tt, (lit≤ tt, (lit≤ tt, (lit≤ tt, (lit≤ tt, (lit≤ tt, (lit≤ tt, (lit≤ tt, (lit≤ tt, (lit≤ tt, (lit≤ tt, (lit≤ tt, (lit≤ tt, (lit≤ tt, (lit≤ tt, tt))))))))))))))))

word_few : (short : Bool) (w : TapeWord) → length (word_text short w) ≤ longest w
word_few short w =
    let f = form_in forms w.letter in
    omega (arith, number_few f.signed (width short f (unsigned_abs w.value)) f.digits w.value (width_few short f (unsigned_abs w.value) (form_fits w.letter)))

pub words_few : (short : Bool) (words : List TapeWord) → length (flat_map (word_text short) words) ≤ all_longest words
words_few short [] = omega arith
words_few short (w ∷ ws) = omega (arith, length-append (word_text short w) (flat_map (word_text short) ws), word_few short w, words_few short ws)

pub longest-append : (xs ys : List TapeWord) → all_longest (xs ++ ys) ≡ all_longest xs + all_longest ys
longest-append [] ys = omega arith
longest-append (x ∷ xs) ys = omega (arith, longest-append xs ys)

pub mode_few : (before ways : Bool) → all_longest (mode_words before ways) ≤ 3
mode_few true true = omega arith
mode_few true false = omega arith
mode_few false true = omega arith
mode_few false false = omega arith

pub number_words_few : (none : Bool) (n : ℕ) → all_longest (if none then [] else tape_word letter_n (pos n) ∷ []) ≤ 5
number_words_few true n = omega arith
number_words_few false n = omega arith

-- a move has the most: mode, motion, three coordinates and the feed
pub act_few : (incremental : Bool) (held : Held) (act : Act) → all_longest (act_words incremental held act) ≤ 41
act_few incremental held (acts.Units Inch) = omega arith
act_few incremental held (acts.Units Mm) = omega arith
act_few incremental held (acts.Do (commands.Spindle turns.Cw n)) = omega arith
act_few incremental held (acts.Do (commands.Spindle turns.Ccw n)) = omega arith
act_few incremental held (acts.Do (commands.Spindle turns.Off n)) = omega arith
act_few incremental held (acts.Do (commands.Coolant coolants.Mist)) = omega arith
act_few incremental held (acts.Do (commands.Coolant coolants.Flood)) = omega arith
act_few incremental held (acts.Do (commands.Coolant coolants.Off)) = omega arith
act_few incremental held (acts.Do (commands.Tool n)) = omega arith
act_few incremental held (acts.Do commands.Stop) = omega arith
act_few incremental held (acts.Do commands.OptStop) = omega arith
act_few incremental held acts.End = omega arith
act_few incremental held (acts.Rapid x y z) =
    let ways = goes_by_ways incremental held x y z in
    omega (arith, longest-append (mode_words held.incremental ways) (g 0 ∷ position ways held x y z), mode_few held.incremental ways)
act_few incremental held (acts.Cut x y z feed) =
    let ways = goes_by_ways incremental held x y z in
    omega (arith, longest-append (move_words ways held 1 x y z) (tape_word letter_f feed ∷ []), longest-append (mode_words held.incremental ways) (g 1 ∷ position ways held x y z), mode_few held.incremental ways)

with_word : (t : Bool) (w : TapeWord) (ws few : List TapeWord) → all_longest few ≤ all_longest ws → all_longest (cond t (w ∷ few) few) ≤ all_longest (w ∷ ws)
with_word true w ws few h = omega (arith, h)
with_word false w ws few h = omega (arith, h)

-- words that are left out make it no longer
pub fewer_words : (p : TapeWord → Bool) (words : List TapeWord) → all_longest (filter p words) ≤ all_longest words
fewer_words p [] = omega arith
fewer_words p (w ∷ ws) = with_word (p w) w ws (filter p ws) (fewer_words p ws)

pub act_block_length : (m : Machine) (k : ℕ) (held : Held) (act : Act) → length (spelling m.short (act_block m k held act)) ≤ 47
act_block_length m k held act =
    let block = act_block m k held act in
    let words = act_words m.incremental held act in
    let p = is_written m.changed held (behind m.incremental held act) in
    omega (arith, length-append (flat_map (word_text m.short) block) (line_feed ∷ []), words_few m.short block, longest-append (numbered m.seq k) (written_words m held act), number_words_few (m.seq == 0) (1 + (k * m.seq) % 9999), fewer_words p words, act_few m.incremental held act)

text_length : (m : Machine) (k : ℕ) (held : Held) (acts : List Act) → length (flat_map (spelling m.short) (blocks_from m k held acts)) ≤ 47 * length acts
text_length m k held [] = omega arith
text_length m k held (act ∷ more) =
    let block = spelling m.short (act_block m k held act) in
    let now = behind m.incremental held act in
    omega (arith, length-append block (flat_map (spelling m.short) (blocks_from m (k + 1) now more)), act_block_length m k held act, text_length m (k + 1) now more)

pub tape_length : (m : Machine) (acts : List Act) → length (tape_bytes m acts) ≤ 2 + 47 * length acts
tape_length m acts = omega (arith, length-map (tape_text m acts) (byte_of m.code), text_length m 0 nothing_held acts)

-- ---- the acts of records

end_once : (ended : Bool) → length (if ended then [] else acts.End ∷ []) ≤ 1
end_once true = omega arith
end_once false = omega arith

pub note_few : (p : Pending) (note : Note) → length (note_acts p note) ≤ 1
note_few p (notes.Partno text) = omega arith
note_few p (notes.Units units) = omega arith
note_few p (notes.Cutter d) = omega arith
note_few p (notes.Intol t) = omega arith
note_few p (notes.Outtol t) = omega arith
note_few p (notes.Feed f) = omega arith
note_few p (notes.Do command) = omega arith
note_few p notes.Rapid = omega arith
note_few p notes.End = end_once p.ended
note_few p notes.Fini = end_once p.ended

record_few : (p : Pending) (r : Record) → length (record_acts p r) ≤ 1 + vertices_in r
record_few p (records.Statement line step) = omega arith
record_few p (records.Note note) = note_few p note
record_few p (records.Drive surface side sense) = omega arith
record_few p (records.Check surface how) = omega arith
record_few p (records.Point reaches.From to) = omega arith
record_few p (records.Point reaches.Goto to) = omega arith
record_few p (records.Point reaches.Godlta to) = omega arith
record_few p (records.Point reaches.Start to) = omega arith
record_few p (records.Contour vertices) = omega (arith, length-map vertices (cut_to p))

pub acts_few : (p : Pending) (rs : List Record) → length (acts_from p rs) ≤ length rs + vertex_count rs
acts_few p [] = omega arith
acts_few p (r ∷ rs) =
    omega (arith, length-append (record_acts p r) (acts_from (record_pending p r) rs), record_few p r, acts_few (record_pending p r) rs)

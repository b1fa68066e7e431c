-- When records are those of a file.
use Rattle.std.proofs.Common.{◌≡◌, ℕ, ◌+◌, ◌*◌, ◌≤◌, Bool, true, false, List, [], ◌∷◌, MatchBool, pos, length, refl, arith}
use Rattle.std.proofs.lemmas.List.{length-map}
use Rattle.apt_words.specs.declared.Command.TheVariants as commands
use Rattle.apt_plane.specs.declared.figures.Surface.TheVariants as surfaces
use Rattle.apt_records.specs.declared.record.Note.TheVariants as notes
use Rattle.apt_records.specs.declared.record.Record.{Record}
use Rattle.apt_records.specs.declared.record.Record.TheVariants as records
use Rattle.apt_records.specs.Ranges.{Mark, Begin, End, Fini, Other, mark_of, vertices_in, EndsBy, EndsOnce}
use Rattle.apt_records.specs.Words.{words_of}
use Rattle.apt_records.specs.Lists.{is_fini_mark, HasFiniLast, IsShort}
use Rattle.apt_records.proofs.Lengths.{triples_length}

-- ---- FINI stands last

by_mark : (ended : Bool) (m : Mark) (rs : List Record) → ((now : Bool) → EndsOnce now rs → HasFiniLast rs) → EndsBy ended m rs (λ now. EndsOnce now rs) → MatchBool (is_fini_mark m) (rs ≡ []) (HasFiniLast rs)
by_mark ended Fini [] more h = refl
by_mark ended Fini (r ∷ rs) more h = absurd h
by_mark false End rs more h = more true h
by_mark true End rs more h = absurd h
by_mark ended Begin rs more h = more ended h
by_mark false Other rs more h = more false h
by_mark true Other rs more h = absurd h

pub fini_last : (ended : Bool) (rs : List Record) → EndsOnce ended rs → HasFiniLast rs
fini_last ended [] h = h
fini_last ended (r ∷ rs) h = by_mark ended (mark_of r) rs (λ now k. fini_last now rs k) h

-- ---- records are short

-- the bytes of a record's text
abbrev pub text_in : Record → ℕ
text_in (records.Statement line step) = 0
text_in (records.Note (notes.Partno text)) = length text
text_in (records.Note note) = 0
text_in (records.Drive surface side sense) = 0
text_in (records.Check surface how) = 0
text_in (records.Point reach to) = 0
text_in (records.Contour vertices) = 0

words_few : (r : Record) → length (words_of r) ≤ 9 + text_in r + 3 * vertices_in r
words_few (records.Statement line step) = omega arith
words_few (records.Note (notes.Partno text)) = omega (arith, length-map text pos)
words_few (records.Note (notes.Units u)) = omega arith
words_few (records.Note (notes.Cutter d)) = omega arith
words_few (records.Note (notes.Intol t)) = omega arith
words_few (records.Note (notes.Outtol t)) = omega arith
words_few (records.Note (notes.Feed f)) = omega arith
words_few (records.Note (notes.Do (commands.Spindle turn n))) = omega arith
words_few (records.Note (notes.Do (commands.Coolant c))) = omega arith
words_few (records.Note (notes.Do (commands.Tool n))) = omega arith
words_few (records.Note (notes.Do commands.Stop)) = omega arith
words_few (records.Note (notes.Do commands.OptStop)) = omega arith
words_few (records.Note notes.Rapid) = omega arith
words_few (records.Note notes.End) = omega arith
words_few (records.Note notes.Fini) = omega arith
words_few (records.Drive (surfaces.Line l) side sense) = omega arith
words_few (records.Drive (surfaces.Circ c) side sense) = omega arith
words_few (records.Check (surfaces.Line l) how) = omega arith
words_few (records.Check (surfaces.Circ c) how) = omega arith
words_few (records.Point reach to) = omega arith
words_few (records.Contour vertices) = omega (arith, triples_length vertices)

-- a record is short where its text and its vertices are few
pub short_when : (r : Record) → text_in r + 3 * vertices_in r ≤ 8388598 → IsShort r
short_when r h = omega (arith, words_few r)

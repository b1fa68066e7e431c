-- The writer of a tape: the block of each act, and the bytes of them all.
use Rattle.std.specs.Prelude.{◌≡◌, ℕ, ◌+◌, ◌*◌, ◌%◌, ◌≤◌, nat_le, ℤ, pos, ◌-ℤ◌, unsigned_abs, ◌==◌, ◌&&◌, not, Bool, true, false, List, [], ◌∷◌, ◌++◌, map, Option, Some, None, if◌then◌else◌}
use Rattle.std.specs.List.{filter, flat_map}
use Rattle.std.specs.Ordering.{int_eq}
use Rattle.apt_words.specs.declared.Command.{Command}
use Rattle.apt_words.specs.declared.Command.TheVariants as commands
use Rattle.apt_words.specs.declared.Units.TheVariants.{Inch, Mm}
use Rattle.apt_words.specs.declared.Turn.TheVariants as turns
use Rattle.apt_words.specs.declared.Cool.TheVariants as coolants
use Rattle.apt_tapecode.specs.Tapecode.{byte_of, end_of_block, rewind_stop}
use Rattle.apt_machine.specs.declared.machine.Machine.{Machine}
use Rattle.apt_block.specs.declared.block.TapeWord.{TapeWord}
use Rattle.apt_block.specs.Block.{spelling, tape_word, is_letter, is_in, motions, letter_n, letter_g, letter_x, letter_y, letter_z, letter_f, letter_s, letter_t, letter_m}
use Rattle.apt_control.specs.declared.Act.{Act}
use Rattle.apt_control.specs.declared.Act.TheVariants as acts
use Rattle.apt_control.specs.declared.held.Held.{Held}
use Rattle.apt_control.specs.Control.{nothing_held, or_zero}

abbrev pub g : ℕ → TapeWord
g code = tape_word letter_g (pos code)

abbrev pub m : ℕ → TapeWord
m code = tape_word letter_m (pos code)

-- ---- ways

-- a way to a coordinate that a word has room for, from one that holds
abbrev pub is_near : Option ℤ → ℤ → Bool
is_near None v = false
is_near (Some held) v = nat_le (unsigned_abs (v -ℤ held)) 50000000

-- a move is written by its ways, where they are asked for, a position holds, and no way is too long
abbrev pub goes_by_ways : Bool → Held → ℤ → ℤ → ℤ → Bool
goes_by_ways incremental held x y z = incremental && is_near held.x x && is_near held.y y && is_near held.z z

-- the number of a coordinate's word: the new coordinate, or the way to it
abbrev pub dimension : Bool → Option ℤ → ℤ → ℤ
dimension false held v = v
dimension true held v = v -ℤ or_zero held

abbrev pub position : Bool → Held → ℤ → ℤ → ℤ → List TapeWord
position ways held x y z =
    tape_word letter_x (dimension ways held.x x) ∷ tape_word letter_y (dimension ways held.y y) ∷ tape_word letter_z (dimension ways held.z z) ∷ []

-- what the numbers of coordinates are is said where it changes
abbrev pub mode_words : Bool → Bool → List TapeWord
mode_words true true = []
mode_words true false = g 90 ∷ []
mode_words false true = g 91 ∷ []
mode_words false false = []

-- all words of a move behind its mode
abbrev pub move_words : Bool → Held → ℕ → ℤ → ℤ → ℤ → List TapeWord
move_words ways held code x y z = mode_words held.incremental ways ++ g code ∷ position ways held x y z

-- the words of a command
abbrev pub command_block : Command → List TapeWord
command_block (commands.Spindle turns.Cw n) = tape_word letter_s n ∷ m 3 ∷ []
command_block (commands.Spindle turns.Ccw n) = tape_word letter_s n ∷ m 4 ∷ []
command_block (commands.Spindle turns.Off n) = m 5 ∷ []
command_block (commands.Tool n) = tape_word letter_t n ∷ m 6 ∷ []
command_block (commands.Coolant coolants.Mist) = m 7 ∷ []
command_block (commands.Coolant coolants.Flood) = m 8 ∷ []
command_block (commands.Coolant coolants.Off) = m 9 ∷ []
command_block commands.Stop = m 0 ∷ []
command_block commands.OptStop = m 1 ∷ []

-- all words of an act, where something holds
abbrev pub act_words : Bool → Held → Act → List TapeWord
act_words incremental held (acts.Units Inch) = g 70 ∷ g 90 ∷ g 94 ∷ []
act_words incremental held (acts.Units Mm) = g 71 ∷ g 90 ∷ g 94 ∷ []
act_words incremental held (acts.Rapid x y z) = move_words (goes_by_ways incremental held x y z) held 0 x y z
act_words incremental held (acts.Cut x y z feed) = move_words (goes_by_ways incremental held x y z) held 1 x y z ++ tape_word letter_f feed ∷ []
act_words incremental held (acts.Do command) = command_block command
act_words incremental held acts.End = m 2 ∷ []

-- the sequence number of the block that k blocks precede, none where the step is 0
abbrev pub numbered : ℕ → ℕ → List TapeWord
numbered step k = if step == 0 then [] else tape_word letter_n (pos (1 + (k * step) % 9999)) ∷ []

-- ---- what holds, and the words that say it again

-- a G word with one of some codes
abbrev pub is_code_of : List ℕ → TapeWord → Bool
is_code_of codes w = is_letter letter_g w && is_in codes (unsigned_abs w.value)

abbrev pub behind_move : Bool → Held → ℕ → ℤ → ℤ → ℤ → Held
behind_move ways held code x y z = record held { motion = Some code; incremental = ways; x = Some x; y = Some y; z = Some z }

-- what a control holds behind an act: motion code, units, what the numbers of coordinates are, feed and position hold until they are changed
abbrev pub behind : Bool → Held → Act → Held
behind incremental held (acts.Units u) = record held { units = Some u; incremental = false }
behind incremental held (acts.Rapid x y z) = behind_move (goes_by_ways incremental held x y z) held 0 x y z
behind incremental held (acts.Cut x y z feed) = record (behind_move (goes_by_ways incremental held x y z) held 1 x y z) { feed = Some feed }
behind incremental held (acts.Do command) = held
behind incremental held acts.End = held

abbrev pub behind_all : Bool → Held → List Act → Held
behind_all incremental held [] = held
behind_all incremental held (act ∷ more) = behind_all incremental (behind incremental held act) more

abbrev pub is_same_code : Option ℕ → Option ℕ → Bool
is_same_code None now = false
is_same_code (Some held) None = false
is_same_code (Some held) (Some now) = held == now

abbrev pub is_same_value : Option ℤ → Option ℤ → Bool
is_same_value None now = false
is_same_value (Some held) None = false
is_same_value (Some held) (Some now) = int_eq held now

-- a word says what holds already, before the block and behind it: the motion code, y, z or the feed
abbrev pub says_held : Held → Held → TapeWord → Bool
says_held held now w =
    if is_code_of motions w then is_same_code held.motion now.motion
    else if is_letter letter_y w then is_same_value held.y now.y
    else if is_letter letter_z w then is_same_value held.z now.z
    else if is_letter letter_f w then is_same_value held.feed now.feed
    else false

-- where words that say what holds are left out, only the others are written
abbrev pub is_written : Bool → Held → Held → TapeWord → Bool
is_written changed held now w = not (says_held held now w && changed)

-- ---- the blocks of acts

-- the words of an act that are written, where something holds
abbrev pub written_words : Machine → Held → Act → List TapeWord
written_words machine held act =
    filter (is_written machine.changed held (behind machine.incremental held act)) (act_words machine.incremental held act)

-- the block of an act that k blocks precede
abbrev pub act_block : Machine → ℕ → Held → Act → List TapeWord
act_block machine k held act = numbered machine.seq k ++ written_words machine held act

-- the blocks of acts that k blocks precede, where something holds
abbrev pub blocks_from : Machine → ℕ → Held → List Act → List (List TapeWord)
blocks_from machine k held [] = []
blocks_from machine k held (act ∷ more) = act_block machine k held act ∷ blocks_from machine (k + 1) (behind machine.incremental held act) more

-- the blocks of acts, one for each; at the start nothing holds
abbrev pub blocks_of : Machine → List Act → List (List TapeWord)
blocks_of machine acts = blocks_from machine 0 nothing_held acts

-- the characters of a tape: rewind stop, end of block, and the blocks
abbrev pub text_of : Bool → List (List TapeWord) → List ℕ
text_of short blocks = rewind_stop ∷ end_of_block ∷ flat_map (spelling short) blocks

-- with a block for each act
abbrev pub tape_text : Machine → List Act → List ℕ
tape_text machine acts = text_of machine.short (blocks_of machine acts)

-- the bytes of a tape
abbrev pub tape_bytes : Machine → List Act → List ℕ
tape_bytes machine acts = map (byte_of machine.code) (tape_text machine acts)

-- ---- what can be written

abbrev pub IsCoordinate : ℤ → Type 0
IsCoordinate v = unsigned_abs v ≤ 50000000

-- a number from 1 to a greatest one
abbrev pub IsUpTo : ℕ → ℤ → Type 0
IsUpTo most v = (v ≡ pos (unsigned_abs v)) × (1 ≤ unsigned_abs v) × (unsigned_abs v ≤ most)

abbrev pub IsPosition : ℤ → ℤ → ℤ → Type 0
IsPosition x y z = IsCoordinate x × IsCoordinate y × IsCoordinate z

-- a command that a tape can hold
abbrev pub CanCommand : Command → Type 0
CanCommand (commands.Spindle turns.Cw n) = IsUpTo 9999 n
CanCommand (commands.Spindle turns.Ccw n) = IsUpTo 9999 n
CanCommand (commands.Spindle turns.Off n) = n ≡ pos 0
CanCommand (commands.Tool n) = IsUpTo 99 n
CanCommand _ = Unit {0}

-- an act whose numbers a block has room for
abbrev pub CanWrite : Act → Type 0
CanWrite (acts.Units u) = Unit {0}
CanWrite (acts.Rapid x y z) = IsPosition x y z
CanWrite (acts.Cut x y z feed) = IsPosition x y z × IsUpTo 9999 feed
CanWrite (acts.Do command) = CanCommand command
CanWrite acts.End = Unit {0}

-- acts that can be written, up to the end, which stands last and nowhere else
abbrev pub ToTheEnd : List Act → Type 0
ToTheEnd [] = ⊥
ToTheEnd (acts.End ∷ []) = Unit {0}
ToTheEnd (acts.End ∷ act ∷ more) = ⊥
ToTheEnd (act ∷ more) = CanWrite act × ToTheEnd more

-- the end of a program
abbrev pub is_end : Act → Bool
is_end acts.End = true
is_end _ = false

-- a program of a control: the units first, and the end last
abbrev pub IsProgram : List Act → Type 0
IsProgram (acts.Units u ∷ more) = ToTheEnd more
IsProgram _ = ⊥

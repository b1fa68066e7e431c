-- The tape of acts with arcs: a block for each, from what the one before it left.
use Rattle.std.specs.Prelude.{◌≡◌, ℕ, ◌+◌, Bool, false, List, [], ◌∷◌, ◌++◌, map, Ok, IsSome}
use Rattle.apt_words.specs.declared.Units.{Units}
use Rattle.apt_tapecode.specs.Tapecode.{byte_of}
use Rattle.apt_machine.specs.declared.machine.Machine.{Machine}
use Rattle.apt_block.specs.declared.block.TapeWord.{TapeWord}
use Rattle.apt_block.specs.Block.{IsBlock}
use Rattle.apt_control.specs.declared.Act.TheVariants as acts
use Rattle.apt_control.specs.declared.held.Held.{Held}
use Rattle.apt_control.specs.Control.{nothing_held}
use Rattle.apt_post.specs.Blocks.{behind, written_words, numbered, text_of, is_end, CanWrite}
use Rattle.apt_circular.specs.declared.ArcAct.{ArcAct}
use Rattle.apt_circular.specs.declared.ArcAct.TheVariants as arcs
use Rattle.apt_circular.specs.ArcBlocks.{arc_meaning, behind_arc, written_arc}
use Rattle.apt_circular.specs.Writable.{CanArc}

-- ---- one act

-- the words of an act that are written, where something holds
abbrev pub written_at : Machine → Held → ArcAct → List TapeWord
written_at machine held (arcs.Plain act) = written_words machine held act
written_at machine held (arcs.Arc turn x y z cx cy feed) = written_arc machine held (record { turn = turn; x = x; y = y; z = z; cx = cx; cy = cy; feed = feed })

-- what holds behind an act
abbrev pub behind_act : Bool → Held → ArcAct → Held
behind_act incremental held (arcs.Plain act) = behind incremental held act
behind_act incremental held (arcs.Arc turn x y z cx cy feed) = behind_arc incremental held (record { turn = turn; x = x; y = y; z = z; cx = cx; cy = cy; feed = feed })

-- the act that ends a program
abbrev pub ends_it : ArcAct → Bool
ends_it (arcs.Plain act) = is_end act
ends_it (arcs.Arc turn x y z cx cy feed) = false

-- an act that can be written where something holds
abbrev pub CanAct : Held → ArcAct → Type 0
CanAct held (arcs.Plain act) = CanWrite act
CanAct held (arcs.Arc turn x y z cx cy feed) = CanArc held (record { turn = turn; x = x; y = y; z = z; cx = cx; cy = cy; feed = feed })

-- the block of an act that k blocks precede
abbrev pub block_at : Machine → ℕ → Held → ArcAct → List TapeWord
block_at machine k held act = numbered machine.seq k ++ written_at machine held act

-- ---- a tape

-- what holds behind acts
abbrev pub behind_acts : Bool → Held → List ArcAct → Held
behind_acts incremental held [] = held
behind_acts incremental held (act ∷ more) = behind_acts incremental (behind_act incremental held act) more

-- the blocks of acts that k blocks precede, where something holds
abbrev pub blocks_on : Machine → ℕ → Held → List ArcAct → List (List TapeWord)
blocks_on machine k held [] = []
blocks_on machine k held (act ∷ more) = block_at machine k held act ∷ blocks_on machine (k + 1) (behind_act machine.incremental held act) more

-- the characters of a tape
abbrev pub arc_text : Machine → List ArcAct → List ℕ
arc_text machine done = text_of machine.short (blocks_on machine 0 nothing_held done)

-- its bytes
abbrev pub arc_tape : Machine → List ArcAct → List ℕ
arc_tape machine done = map (byte_of machine.code) (arc_text machine done)

-- acts that can be written, each where those before it leave what holds
abbrev pub CanActs : Bool → Held → List ArcAct → Type 0
CanActs incremental held [] = Unit {0}
CanActs incremental held (act ∷ more) = CanAct held act × CanActs incremental (behind_act incremental held act) more

-- the same up to the end, which stands last and nowhere else
abbrev pub ArcsToTheEnd : Bool → Held → List ArcAct → Type 0
ArcsToTheEnd incremental held [] = ⊥
ArcsToTheEnd incremental held (act ∷ []) = act ≡ arcs.Plain acts.End
ArcsToTheEnd incremental held (act ∷ next ∷ more) = CanAct held act × (ends_it act ≡ false) × ArcsToTheEnd incremental (behind_act incremental held act) (next ∷ more)

-- a program of a control that cuts arcs: the units first, and the end last
pub record IsArcProgram (incremental : Bool) (done : List ArcAct) : Type 0 where
  pub units : Units
  pub more : List ArcAct
  pub is : done ≡ arcs.Plain (acts.Units units) ∷ more
  pub to_the_end : ArcsToTheEnd incremental (behind incremental nothing_held (acts.Units units)) more

-- ---- what a control that holds what the writer holds makes of it

-- a block that it reads as one act, behind which it holds what the writer holds
pub record IsReadAs (held : Held) (words : List TapeWord) (now : Held) (act : ArcAct) : Type 0 where
  pub is : IsBlock words
  pub means : (letters : List ℕ) (at : ℕ) → arc_meaning held letters at words ≡ Ok (record { held = now; acts = act ∷ []; ends = ends_it act })

-- the block of an act that can be written is read as it, where the units are known
abbrev pub IsReadBack : Machine → ℕ → Held → ArcAct → Type 0
IsReadBack machine k held act = IsSome held.units → CanAct held act → IsReadAs held (block_at machine k held act) (behind_act machine.incremental held act) act

-- Blocks that a control understands, each where the one before it left what holds. A block may be one act, several or none.
use Rattle.std.specs.Prelude.{◌≡◌, ℕ, Bool, true, false, List, [], ◌∷◌, map, Ok}
use Rattle.std.specs.List.{flat_map}
use Rattle.apt_tapecode.specs.declared.Code.{Code}
use Rattle.apt_tapecode.specs.Tapecode.{byte_of, end_of_block, rewind_stop}
use Rattle.apt_block.specs.declared.block.TapeWord.{TapeWord}
use Rattle.apt_block.specs.Block.{spelling, IsBlock}
use Rattle.apt_control.specs.Control.{MeaningOf}

-- a block: its words, the acts that it is, and what holds behind it
pub record Spoken (H A : Type 0) : Type 0 where
  pub words : List TapeWord
  pub acts : List A
  pub behind : H

-- where something holds it means its acts, wherever its letters and its end of block stand, and is the end or not
pub record Means {H A : Type 0} (means : MeaningOf H A) (held : H) (ends : Bool) (b : Spoken H A) : Type 0 where
  pub is : IsBlock b.words
  pub means_it : (letters : List ℕ) (at : ℕ) → means held letters at b.words ≡ Ok (record { held = b.behind; acts = b.acts; ends = ends })

-- a control understands all of them, up to the end, which stands last and nowhere else
abbrev pub AreSpoken : {H A : Type 0} → MeaningOf H A → H → List (Spoken H A) → Type 0
AreSpoken means held [] = ⊥
AreSpoken means held (b ∷ []) = Means means held true b
AreSpoken means held (b ∷ next ∷ more) = Means means held false b × AreSpoken means b.behind (next ∷ more)

-- a block without words, which has no letters, means nothing and leaves what holds
abbrev pub MeansNothing : {H A : Type 0} → MeaningOf H A → H → Type 0
MeansNothing means held = (at : ℕ) → means held [] at [] ≡ Ok (record { held = held; acts = []; ends = false })

abbrev pub acts_of : {H A : Type 0} → List (Spoken H A) → List A
acts_of blocks = flat_map (λ b. b.acts) blocks

-- their characters, with all digits or short
abbrev pub characters_of : {H A : Type 0} → Bool → List (Spoken H A) → List ℕ
characters_of short blocks = flat_map (λ b. spelling short b.words) blocks

-- the bytes of their tape: rewind stop, end of block, and the blocks
abbrev pub bytes_of : {H A : Type 0} → Code → Bool → List (Spoken H A) → List ℕ
bytes_of code short blocks = map (byte_of code) (rewind_stop ∷ end_of_block ∷ characters_of short blocks)

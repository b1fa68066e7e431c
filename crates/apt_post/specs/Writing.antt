-- Records whose acts can be written, and the blocks of acts.
use Rattle.std.specs.Prelude.{ℕ, Bool, ◌+◌, List, [], ◌∷◌, ◌++◌}
use Rattle.apt_records.specs.declared.record.Record.{Record}
use Rattle.apt_control.specs.declared.Act.{Act}
use Rattle.apt_post.specs.declared.planning.Pending.{Pending}
use Rattle.apt_post.specs.Plan.{record_acts, record_pending}
use Rattle.apt_block.specs.declared.block.TapeWord.{TapeWord}
use Rattle.apt_block.specs.Block.{IsBlock}
use Rattle.apt_post.specs.Blocks.{act_words, numbered, behind, CanWrite}
use Rattle.apt_control.specs.declared.held.Held.{Held}

-- all acts can be written
abbrev pub CanWriteAll : List Act → Type 0
CanWriteAll [] = Unit {0}
CanWriteAll (act ∷ more) = CanWrite act × CanWriteAll more

-- the acts of each record can be written with what is pending before it
abbrev pub AreWritten : Pending → List Record → Type 0
AreWritten p [] = Unit {0}
AreWritten p (r ∷ rs) = CanWriteAll (record_acts p r) × AreWritten (record_pending p r) rs

-- what is pending behind records
abbrev pub pending_behind : Pending → List Record → Pending
pending_behind p [] = p
pending_behind p (r ∷ rs) = pending_behind (record_pending p r) rs

-- blocks that can be read
abbrev pub AreBlocks : List (List TapeWord) → Type 0
AreBlocks [] = Unit {0}
AreBlocks (words ∷ more) = IsBlock words × AreBlocks more

-- the blocks of acts that k blocks precede, each with all words of its act
abbrev pub whole_blocks : Bool → ℕ → ℕ → Held → List Act → List (List TapeWord)
whole_blocks incremental step k held [] = []
whole_blocks incremental step k held (act ∷ more) =
    (numbered step k ++ act_words incremental held act) ∷ whole_blocks incremental step (k + 1) (behind incremental held act) more

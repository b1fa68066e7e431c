-- A writer that makes the block of one act with arcs after the other: where it stands, and for which acts it stands.
use Rattle.std.specs.Prelude.{◌≡◌, ℕ, ◌+◌, ◌*◌, ◌%◌, List, [], ◌∷◌, ◌++◌, length, map}
use Rattle.apt_tapecode.specs.Tapecode.{byte_of}
use Rattle.apt_machine.specs.declared.machine.Machine.{Machine}
use Rattle.apt_block.specs.declared.block.TapeWord.{TapeWord}
use Rattle.apt_block.specs.Block.{spelling}
use Rattle.apt_control.specs.Control.{nothing_held}
use Rattle.apt_post.specs.Posting.{Posting, next_number}
use Rattle.apt_circular.specs.declared.ArcAct.{ArcAct}
use Rattle.apt_circular.specs.ArcTape.{written_at, behind_act, behind_acts}

-- where a writer stands behind acts
abbrev pub posting_behind : Machine → List ArcAct → Posting
posting_behind machine acts = record { machine = machine; steps = (length acts * machine.seq) % 9999; held = behind_acts machine.incremental nothing_held acts }

-- a writer stands for every list of acts that leaves it there
abbrev pub StandsFor : Posting → List ArcAct → Type 0
StandsFor p acts = p ≡ posting_behind p.machine acts

-- the block of an act that comes next
abbrev pub next_block : Posting → ArcAct → List TapeWord
next_block p act = next_number p ++ written_at p.machine p.held act

-- where the writer stands then
abbrev pub next : Posting → ArcAct → Posting
next p act = record p { steps = (p.steps + p.machine.seq) % 9999; held = behind_act p.machine.incremental p.held act }

-- the bytes of the block of an act that comes next
abbrev pub block_bytes : Posting → ArcAct → List ℕ
block_bytes p act = map (byte_of p.machine.code) (spelling p.machine.short (next_block p act))

-- the bytes of the blocks of acts that come next
abbrev pub posted : Posting → List ArcAct → List ℕ
posted p [] = []
posted p (act ∷ more) = block_bytes p act ++ posted (next p act) more

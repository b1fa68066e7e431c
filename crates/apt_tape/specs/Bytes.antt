-- What is left of the bytes of a tape.
use Rattle.std.specs.Prelude.{ℕ, List}
use Rattle.apt_tape.specs.declared.tape.Left.{Left}
use Rattle.apt_tape.specs.declared.tape.Left.TheVariants as tapes

-- the bytes that are left of a tape
abbrev pub bytes_left : Left → List ℕ
bytes_left (tapes.Plain left) = left
bytes_left (tapes.Arcs left) = left
bytes_left (tapes.Holes left) = left

-- The parts of lines, one line after another.
use Rattle.std.proofs.Common.{◌≡◌, List, [], ◌∷◌, ◌++◌, Result, Ok, Err, append_assoc, ap, refl, sym}
use Rattle.apt_outline.specs.declared.parts.Part.{Part}
use Rattle.apt_outline.specs.Outlines.{Fault, with_part}

-- parts in front of others, where those have no fault
abbrev pub with_front : List Part → Result (List Part) Fault → Result (List Part) Fault
with_front front (Err fault) = Err fault
with_front front (Ok more) = Ok (front ++ more)

pub front_part : (front : List Part) (part : Part) (more : Result (List Part) Fault) → with_front front (with_part part more) ≡ with_front (front ++ part ∷ []) more
front_part front part (Err fault) = refl
front_part front part (Ok more) = ap Ok (sym (append_assoc front (part ∷ []) more))

pub front_none : (more : Result (List Part) Fault) → with_front [] more ≡ more
front_none (Err fault) = refl
front_none (Ok more) = refl

-- What is in the rooms for the vertices of arcs.
use Rattle.std.specs.Prelude.{◌≡◌, ◌⊎◌, Bool, true, false, List, [], ◌∷◌}
use Rattle.apt_records.specs.declared.record.Position.{Position}
use Rattle.apt_motion.specs.Drafts.{ArcAt, vertices_at}

-- a room has the vertices of its arc, or none where memory was short
abbrev pub IsDivided : ArcAt → List Position → Type 0
IsDivided q cut = (cut ≡ vertices_at q) ⊎ (cut ≡ [])

abbrev pub is_filled : List Position → Bool
is_filled [] = false
is_filled (p ∷ ps) = true

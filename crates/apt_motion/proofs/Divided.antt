-- Arcs that are divided, each in a room of its own, or counted in two parts.
use Rattle.std.proofs.Common.{inl, inr, ◌≡◌, ◌∙◌, ◌<◌, ℕ, zero, suc, Bool, true, List, [], ◌∷◌, ◌++◌, length, map, take, drop, min, refl, sym, ap, arith}
use Rattle.std.specs.Prelude.{◌&&◌, slice_index_or}
use Rattle.std.specs.List.{list_all}
use Rattle.std.proofs.lemmas.List.{map-append, take-append-drop}
use Rattle.apt_records.specs.declared.record.Position.{Position}
use Rattle.apt_motion.specs.Drafts.{ArcAt, vertices_at, chords_of}
use Rattle.apt_motion.specs.Divided.{IsDivided, is_filled}

-- ---- each in a room of its own

filled_head : (q : ArcAt) (cut : List Position) (more : Bool) → IsDivided q cut → (is_filled cut && more) ≡ true → (cut ≡ vertices_at q) × (more ≡ true)
filled_head q [] more is some = absurd cc
filled_head q (p ∷ ps) more (inl is) some = (is, some)
filled_head q (p ∷ ps) more (inr none) some = absurd cc

-- where no room is empty, they have the vertices of all arcs
pub all_cut : (rounds : List ArcAt) (cuts : List (List Position)) → length cuts ≡ length rounds
    → ((i : ℕ) (d : ArcAt) (e : List Position) → i < length cuts → IsDivided (slice_index_or rounds i d) (slice_index_or cuts i e))
    → list_all is_filled cuts ≡ true → cuts ≡ map vertices_at rounds
all_cut [] [] same each some = refl
all_cut [] (cut ∷ cuts) same each some = absurd (omega (arith, same))
all_cut (q ∷ qs) [] same each some = absurd (omega (arith, same))
all_cut (q ∷ qs) (cut ∷ cuts) same each some =
    let head = filled_head q cut (list_all is_filled cuts) (each 0 q cut (omega arith)) some in
    let rest = all_cut qs cuts (omega (arith, same)) (λ i d e lt. each (suc i) d e (omega (arith, lt))) head.1 in
    rw (head.0, rest) refl

-- ---- the numbers of their vertices

pub counted_parts : (rounds : List ArcAt) (n : ℕ) (numbers : List ℕ) → numbers ≡ map chords_of (take n rounds)
    → map chords_of rounds ≡ numbers ++ map chords_of (drop n rounds)
counted_parts rounds n numbers e =
    rw e (ap (map chords_of) (sym (take-append-drop n rounds)) ∙ map-append chords_of (take n rounds) (drop n rounds))

none_taken : (rounds : List ArcAt) (n : ℕ) → map chords_of (take n rounds) ≡ [] → n ≡ min (length rounds) 4096 → rounds ≡ []
none_taken [] n none is = refl
none_taken (q ∷ qs) zero none is = absurd (omega (arith, is))
none_taken (q ∷ qs) (suc n) none is = absurd cc

-- a group is empty only where no arc is left
pub none_counted : (rounds : List ArcAt) (n : ℕ) (numbers : List ℕ) → numbers ≡ map chords_of (take n rounds) → n ≡ min (length rounds) 4096 → numbers ≡ [] → rounds ≡ []
none_counted rounds n numbers e is none = none_taken rounds n (sym e ∙ none) is

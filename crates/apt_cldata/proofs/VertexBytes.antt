-- The bytes of a contour, vertex by vertex.
use Rattle.std.proofs.Common.{◌≡◌, ◌∙◌, ◌+◌, ◌*◌, ℕ, ℤ, pos, List, [], ◌∷◌, ◌++◌, length, refl, ap, sym, arith}
use Rattle.std.specs.List.{flat_map}
use Rattle.std.proofs.lemmas.Grind.{flat_map-append}
use Rattle.std.proofs.lemmas.List.{append_assoc}
use Rattle.apt_records.specs.declared.record.Position.{Position}
use Rattle.apt_cldata.specs.Files.{length_bytes, word_bytes, position_bytes, framed}
use Rattle.apt_records.specs.Words.{position_words}
use Rattle.apt_records.proofs.Lengths.{triples_length}

one_by_one : (ps : List Position) → flat_map position_bytes ps ≡ flat_map word_bytes (flat_map position_words ps)
one_by_one [] = refl
one_by_one (p ∷ ps) = ap (λ bs. flat_map word_bytes (position_words p) ++ bs) (one_by_one ps) ∙ sym (flat_map-append word_bytes (position_words p) (flat_map position_words ps))

-- the length and the first three words of a contour
abbrev front : ℤ → List Position → List ℕ
front seq ps = length_bytes (8 * (3 + 3 * length ps)) ++ flat_map word_bytes (seq ∷ pos 5000 ∷ pos 5 ∷ [])

whole : (seq : ℤ) (ps : List Position) → front seq ps ++ flat_map position_bytes ps ≡ framed (seq ∷ pos 5000 ∷ pos 5 ∷ flat_map position_words ps)
whole seq ps =
    let ws = seq ∷ pos 5000 ∷ pos 5 ∷ [] in
    let count : 3 + 3 * length ps ≡ length (seq ∷ pos 5000 ∷ pos 5 ∷ flat_map position_words ps) = omega (arith, triples_length ps) in
    append_assoc (length_bytes (8 * (3 + 3 * length ps))) (flat_map word_bytes ws) (flat_map position_bytes ps)
    ∙ ap (λ bs. length_bytes (8 * (3 + 3 * length ps)) ++ (flat_map word_bytes ws ++ bs)) (one_by_one ps)
    ∙ ap (λ bs. length_bytes (8 * (3 + 3 * length ps)) ++ bs) (sym (flat_map-append word_bytes ws (flat_map position_words ps)))
    ∙ ap (λ n. length_bytes (8 * n) ++ flat_map word_bytes (seq ∷ pos 5000 ∷ pos 5 ∷ flat_map position_words ps)) count

-- a contour behind some bytes: its front, and the vertices in two parts
pub contour_bytes : (before : List ℕ) (seq : ℤ) (ps qs : List Position)
    → ((before ++ (length_bytes (8 * (3 + 3 * length (ps ++ qs))) ++ flat_map word_bytes (seq ∷ pos 5000 ∷ pos 5 ∷ []))) ++ flat_map position_bytes ps) ++ flat_map position_bytes qs
    ≡ before ++ framed (seq ∷ pos 5000 ∷ pos 5 ∷ flat_map position_words (ps ++ qs))
contour_bytes before seq ps qs =
    let all = flat_map position_bytes (ps ++ qs) in
    append_assoc (before ++ front seq (ps ++ qs)) (flat_map position_bytes ps) (flat_map position_bytes qs)
    ∙ append_assoc before (front seq (ps ++ qs)) (flat_map position_bytes ps ++ flat_map position_bytes qs)
    ∙ ap (λ bs. before ++ (front seq (ps ++ qs) ++ bs)) (sym (flat_map-append position_bytes ps qs))
    ∙ ap (λ bs. before ++ bs) (whole seq (ps ++ qs))

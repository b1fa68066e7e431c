use Rattle.std.proofs.Common.{rules, ◌∷◌, ◌++◌, ◌∙◌, ◌+◌, ◌*◌, ℕ, pos, List, [], length, ap, sym, map, w64}
use Rattle.std.specs.Prelude.{FitsSigned}
use Rattle.std.specs.List.{flat_map}
use Rattle.std.proofs.lemmas.Int.{to_z-of_z}
use Rattle.apt_records.specs.declared.record.Position.{Position}
use Rattle.apt_records.specs.Words.{position_words}
use Rattle.apt_records.specs.Vertices.{at_height}
use Rattle.apt_cldata.specs.Files.{length_bytes, word_bytes, position_bytes, framed}
use Rattle.apt_cldata.proofs.VertexBytes.{contour_bytes}
use Rattle.apt_cldata.proofs.words.push_contour.Goals as goal

pub returns : goal.returns
returns c =
    let a = c.args in
    let parts = c.parts-z.result in
    let z = parts.0 in
    let level = map (at_height z) parts.1.now in
    let apart = parts.2.now in
    let front = rw (to_z-of_z w64 a.seq c.ranges.seq) at c.in_ok-push_front.ensures.value in
    let fits : FitsSigned w64 z = search rules in
    let added = rw (to_z-of_z w64 z fits) at c.push_level.ensures.value in
    let with_level = added ∙ ap (λ (bs : List ℕ). bs ++ flat_map position_bytes level) front in
    let with_apart = c.push_apart.ensures.value ∙ ap (λ (bs : List ℕ). bs ++ flat_map position_bytes apart) with_level in
    let count = c.len.ensures ∙ ap length c.parts-z.ensures in
    let counted = λ (n : ℕ). ((a.bytes.now.items ++ (length_bytes (8 * (3 + 3 * n)) ++ flat_map word_bytes (a.seq ∷ pos 5000 ∷ pos 5 ∷ []))) ++ flat_map position_bytes level) ++ flat_map position_bytes apart in
    with_apart ∙ ap counted count ∙ contour_bytes a.bytes.now.items a.seq level apart
    ∙ ap (λ (vs : List Position). a.bytes.now.items ++ framed (a.seq ∷ pos 5000 ∷ pos 5 ∷ flat_map position_words vs)) (sym c.parts-z.ensures)

-- No step of the demo is refused.
use Rattle.std.proofs.Common.{◌≡◌, inl, ℕ, zero, suc, ◌+◌, ◌*◌, ◌%◌, ◌≤◌, ◌<◌, List, [], ◌∷◌, ◌++◌, refl, arith}
use Rattle.std.specs.Prelude.{pos, neg_ℤ, ◌+ℤ◌, ◌*ℤ◌, unsigned_abs, Some, Ok, codes}
use Rattle.std.specs.Fmt.{decimal}
use Rattle.std.proofs.lemmas.Int.{ints}
use Rattle.apt_words.specs.declared.Side.TheVariants as sides
use Rattle.apt_words.specs.declared.deed.Deed.TheVariants as deeds
use Rattle.apt_records.specs.declared.record.Record.{Record}
use Rattle.apt_records.specs.declared.record.Note.TheVariants as notes
use Rattle.apt_records.specs.declared.record.Reach.TheVariants as reaches
use Rattle.apt_records.specs.declared.record.Position.{Position}
use Rattle.apt_plane.specs.declared.figures.Dir.{Dir}
use Rattle.apt_defs.specs.Figures.{Table}
use Rattle.apt_meaning.specs.declared.situation.Situation.{Situation}
use Rattle.apt_meaning.specs.declared.effect.Effect.TheVariants as effects
use Rattle.apt_meaning.specs.declared.effect.Change.TheVariants as changes
use Rattle.apt_meaning.specs.Situations.{first_situation, first_settings, position_at}
use Rattle.apt_meaning.specs.Compiled.{compilation}
use Rattle.apt_demo.specs.Demo.{centre_x, centre_y, clear_x}
use Rattle.apt_demo.proofs.Deeds.{deeds_from, demo_deeds, demo_steps}
use Rattle.apt_demo.proofs.Walks.{Passes, Goes, passes_by}
use Rattle.apt_demo.proofs.Numbers.{none}
use Rattle.apt_demo.proofs.Scenes.{ready, standing}
use Rattle.apt_demo.proofs.Rounds.{GoesOn, round_goes}

-- ---- the circles' places

-- the centres are at most 400 inches from the middle, across and upwards
across : (k : ℕ) → unsigned_abs (centre_x k) ≤ 400
across k = omega (arith, ints)

upwards : (k : ℕ) → k < 800 → unsigned_abs (centre_y k) ≤ 400
upwards k h = omega (arith, ints, h)

-- an inch to the right of a circle
clear_of : (k : ℕ) → clear_x k ≡ (centre_x k *ℤ pos 100) +ℤ pos (200 + 25 * (k % 8))
clear_of k = omega (arith, ints)

-- its size is one of eight
one_of_eight : (k : ℕ) → k % 8 < 8
one_of_eight k = omega arith

-- ---- the end

fini_step : (p : Position) (f : Dir) (t : Table) → Passes (standing ready p f t) deeds.Fini 0 (standing ready p f t)
fini_step p f t = record { effect = effects.Sets (changes.Said notes.Fini); fine = refl; asked = refl; count = refl; leaves = refl }

end_goes : (so_far : ℕ) → so_far ≤ 500000 → GoesOn so_far (deeds.Fini ∷ [])
end_goes so_far few p f t plain = passes_by _ _ _ _ _ (fini_step p f t) few (record { by_number = λ i. ([], refl) })

-- ---- the circles

-- so many circles from the k-th on, behind 512 vertices of each before
circles_go : (m k so_far : ℕ) → k + m ≤ 800 → so_far ≡ 512 * k → GoesOn so_far (deeds_from k m ++ (deeds.Fini ∷ []))
circles_go zero k so_far h is = end_goes so_far (omega (arith, h, is))
circles_go (suc m) k so_far h is =
    let up : k < 800 = omega (arith, h) in
    let few : so_far + 512 ≤ 500000 = omega (arith, h, is) in
    let on : k + 1 + m ≤ 800 = omega (arith, h) in
    let then : so_far + 256 + 256 ≡ 512 * (k + 1) = omega (arith, is) in
    round_goes so_far (centre_x k) (centre_y k) (clear_x k) (k % 8) (deeds_from (k + 1) m ++ (deeds.Fini ∷ [])) (one_of_eight k) (across k) (upwards k up) (clear_of k) few
    (circles_go m (k + 1) (so_far + 256 + 256) on then)

-- ---- the head

abbrev with_cutter : Situation
with_cutter = record first_situation { settings = record first_settings { radius = pos 25000 } }

abbrev with_feed : Situation
with_feed = record first_situation { settings = record first_settings { radius = pos 25000; feed = pos 100 } }

abbrev start_place : Position
start_place = position_at (neg_ℤ (pos 45000000)) (neg_ℤ (pos 45000000)) (pos 50000)

title_step : (text : List ℕ) → Passes first_situation (deeds.Partno text) 0 first_situation
title_step text = record { effect = effects.Sets (changes.Said (notes.Partno text)); fine = refl; asked = refl; count = refl; leaves = refl }

cutter_step : Passes first_situation (deeds.Cutter (pos 500000)) 0 with_cutter
cutter_step = record { effect = effects.Sets (changes.Said (notes.Cutter (pos 50000))); fine = refl; asked = refl; count = refl; leaves = refl }

feed_step : Passes with_cutter (deeds.Fedrat (pos 10000000)) 0 with_feed
feed_step = record { effect = effects.Sets (changes.Said (notes.Feed (pos 100))); fine = refl; asked = refl; count = refl; leaves = refl }

from_step : Passes with_feed (deeds.FromXy (neg_ℤ (pos 450000000)) (neg_ℤ (pos 450000000)) (Some (pos 500000))) 0 (standing (record ready { side = sides.On }) start_place none [])
from_step = record { effect = effects.Moves reaches.From start_place; fine = refl; asked = refl; count = refl; leaves = refl }

side_step : Passes (standing (record ready { side = sides.On }) start_place none []) (deeds.Tool sides.Right) 0 (standing ready start_place none [])
side_step = record { effect = effects.Sets (changes.Side sides.Right); fine = refl; asked = refl; count = refl; leaves = refl }

demo_goes : (n : ℕ) → n ≤ 800 → Goes 0 first_situation (demo_deeds n)
demo_goes n h =
    let few : 0 ≤ 500000 = omega arith in
    let all : 0 + n ≤ 800 = omega (arith, h) in
    let first : 0 ≡ 512 * 0 = refl in
    passes_by _ _ _ _ _ (title_step (codes "DEMO " ++ decimal n)) few (passes_by _ _ _ _ _ cutter_step few (passes_by _ _ _ _ _ feed_step few
    (passes_by _ _ _ _ _ from_step few (passes_by _ _ _ _ _ side_step few (circles_go n 0 0 all first start_place none [] (inl refl))))))

-- the steps of the demo have records: none of them is refused
pub compiles : (n : ℕ) → n ≤ 800 → (rs : List Record) × (compilation first_situation (demo_steps n) ≡ Ok rs)
compiles n h = (demo_goes n h).by_number 1

-- No step of the part of `demo` asks for anything of patterns and drill cycles.
use Rattle.std.proofs.Common.{◌≡◌, ℕ, zero, suc, ◌+◌, ℤ, List, [], ◌∷◌, ◌++◌, None, refl}
use Rattle.apt_words.specs.Drills.{drill_of, AreUndrilled}
use Rattle.apt_words.specs.declared.deed.Deed.{Deed}
use Rattle.apt_words.specs.declared.deed.Deed.TheVariants as deeds
use Rattle.apt_demo.specs.Demo.{centre_x, centre_y, radius, clear_x}
use Rattle.apt_demo.proofs.Deeds.{deeds_about, circle_deeds, deeds_from, head_deeds, numbered, demo_deeds, demo_steps}

abbrev NoneDrills : List Deed → Type 0
NoneDrills [] = Unit {0}
NoneDrills (d ∷ ds) = (drill_of d ≡ None) × NoneDrills ds

none_in_both : (ds es : List Deed) → NoneDrills ds → NoneDrills es → NoneDrills (ds ++ es)
none_in_both [] es none more = more
none_in_both (d ∷ ds) es none more = (none.0, none_in_both ds es none.1 more)

in_circle : (x y : ℤ) (r : ℕ) (clear : ℤ) → NoneDrills (deeds_about x y r clear)
in_circle x y r clear = (refl, (refl, (refl, (refl, (refl, (refl, (refl, (refl, (refl, tt)))))))))

in_circles : (k n : ℕ) → NoneDrills (deeds_from k n)
in_circles k zero = tt
in_circles k (suc n) = none_in_both (circle_deeds k) (deeds_from (k + 1) n) (in_circle (centre_x k) (centre_y k) (radius k) (clear_x k)) (in_circles (k + 1) n)

in_head : (n : ℕ) → NoneDrills (head_deeds n)
in_head n = (refl, (refl, (refl, (refl, (refl, tt)))))

steps_undrilled : (i : ℕ) (ds : List Deed) → NoneDrills ds → AreUndrilled (numbered i ds)
steps_undrilled i [] none = tt
steps_undrilled i (d ∷ ds) none = (none.0, steps_undrilled (i + 1) ds none.1)

pub undrilled : (n : ℕ) → AreUndrilled (demo_steps n)
undrilled n =
    steps_undrilled 1 (demo_deeds n)
    (none_in_both (head_deeds n) (deeds_from 0 n ++ deeds.Fini ∷ []) (in_head n) (none_in_both (deeds_from 0 n) (deeds.Fini ∷ []) (in_circles 0 n) (refl, tt)))

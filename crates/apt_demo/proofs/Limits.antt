-- The machine of `demo` has limits within which the steps of its part stay.
use Rattle.std.proofs.Common.{◌≡◌, ℕ, zero, suc, ◌+◌, List, [], ◌∷◌, ◌++◌, None, refl, ap, ◌∙◌}
use Rattle.std.specs.Prelude.{ℤ}
use Rattle.apt_words.specs.Rows.{first_of}
use Rattle.apt_words.specs.declared.deed.Deed.{Deed}
use Rattle.apt_words.specs.declared.deed.Deed.TheVariants as deeds
use Rattle.apt_machine.specs.declared.machine.Machine.{Machine}
use Rattle.apt_post.specs.Limits.{limits, machine_cases, refused_by}
use Rattle.apt_demo.specs.Demo.{centre_x, centre_y, radius, clear_x}
use Rattle.apt_demo.specs.Promise.{demo_machine}
use Rattle.apt_demo.proofs.Deeds.{deeds_about, circle_deeds, deeds_from, head_deeds, numbered, demo_deeds, demo_steps}

-- the machine refuses none of what is asked for
abbrev StayWithin : Machine → List Deed → Type 0
StayWithin m [] = Unit {0}
StayWithin m (d ∷ ds) = (first_of (machine_cases m d) ≡ None) × StayWithin m ds

within_both : (m : Machine) (ds es : List Deed) → StayWithin m ds → StayWithin m es → StayWithin m (ds ++ es)
within_both m [] es p q = q
within_both m (d ∷ ds) es p q = (p.0, within_both m ds es p.1 q)

none_refused : (m : Machine) (i : ℕ) (ds : List Deed) → StayWithin m ds → limits m (numbered i ds) ≡ None
none_refused m i [] p = refl
none_refused m i (d ∷ ds) p =
    ap (λ c. refused_by (record { line = i; step = i; deed = d }) c (limits m (numbered (i + 1) ds))) p.0 ∙ none_refused m (i + 1) ds p.1

circle_within : (m : Machine) (x y : ℤ) (r : ℕ) (clear : ℤ) → StayWithin m (deeds_about x y r clear)
circle_within m x y r clear = (refl, (refl, (refl, (refl, (refl, (refl, (refl, (refl, (refl, tt)))))))))

circles_within : (m : Machine) (k n : ℕ) → StayWithin m (deeds_from k n)
circles_within m k zero = tt
circles_within m k (suc n) = within_both m (circle_deeds k) (deeds_from (k + 1) n) (circle_within m (centre_x k) (centre_y k) (radius k) (clear_x k)) (circles_within m (k + 1) n)

head_within : (n : ℕ) → StayWithin demo_machine (head_deeds n)
head_within n = (refl, (refl, (refl, (refl, (refl, tt)))))

all_within : (n : ℕ) → StayWithin demo_machine (demo_deeds n)
all_within n =
    within_both demo_machine (head_deeds n) (deeds_from 0 n ++ deeds.Fini ∷ []) (head_within n)
    (within_both demo_machine (deeds_from 0 n) (deeds.Fini ∷ []) (circles_within demo_machine 0 n) (refl, tt))

-- no step of the part is past a limit of the machine
pub within : (n : ℕ) → limits demo_machine (demo_steps n) ≡ None
within n = none_refused demo_machine 1 (demo_deeds n) (all_within n)

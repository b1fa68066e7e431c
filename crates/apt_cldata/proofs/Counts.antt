-- Fewer or more words than a kind has.
use Rattle.std.proofs.Common.{◌≡◌, ◌≤◌, ◌<◌, ℕ, List, [], ◌∷◌, length, Err, refl, arith}
use Rattle.apt_cldata.specs.declared.fields.Misfit.TheVariants as misfits
use Rattle.apt_cldata.specs.Reading.{numbers_of}
use Rattle.apt_cldata.specs.Records.{spindl_by, check_by, drive_by}

pub spindl_few : (ws : List (List ℕ)) → length ws < 2 → Err misfits.Count ≡ spindl_by (numbers_of ws)
spindl_few [] few = refl
spindl_few (a ∷ []) few = refl
spindl_few (a ∷ b ∷ ws) few = absurd (omega arith)

pub spindl_many : (ws : List (List ℕ)) → 3 ≤ length ws → Err misfits.Count ≡ spindl_by (numbers_of ws)
spindl_many [] many = absurd (omega arith)
spindl_many (a ∷ []) many = absurd (omega arith)
spindl_many (a ∷ b ∷ []) many = absurd (omega arith)
spindl_many (a ∷ b ∷ c ∷ ws) many = refl

pub check_few : (ws : List (List ℕ)) → length ws < 6 → Err misfits.Count ≡ check_by (numbers_of ws)
check_few [] few = refl
check_few (a ∷ []) few = refl
check_few (a ∷ b ∷ []) few = refl
check_few (a ∷ b ∷ c ∷ []) few = refl
check_few (a ∷ b ∷ c ∷ e ∷ []) few = refl
check_few (a ∷ b ∷ c ∷ e ∷ f ∷ []) few = refl
check_few (a ∷ b ∷ c ∷ e ∷ f ∷ g ∷ ws) few = absurd (omega arith)

pub check_many : (ws : List (List ℕ)) → 7 ≤ length ws → Err misfits.Count ≡ check_by (numbers_of ws)
check_many [] many = absurd (omega arith)
check_many (a ∷ []) many = absurd (omega arith)
check_many (a ∷ b ∷ []) many = absurd (omega arith)
check_many (a ∷ b ∷ c ∷ []) many = absurd (omega arith)
check_many (a ∷ b ∷ c ∷ e ∷ []) many = absurd (omega arith)
check_many (a ∷ b ∷ c ∷ e ∷ f ∷ []) many = absurd (omega arith)
check_many (a ∷ b ∷ c ∷ e ∷ f ∷ g ∷ []) many = absurd (omega arith)
check_many (a ∷ b ∷ c ∷ e ∷ f ∷ g ∷ h ∷ ws) many = refl

pub drive_few : (ws : List (List ℕ)) → length ws < 7 → Err misfits.Count ≡ drive_by (numbers_of ws)
drive_few [] few = refl
drive_few (a ∷ []) few = refl
drive_few (a ∷ b ∷ []) few = refl
drive_few (a ∷ b ∷ c ∷ []) few = refl
drive_few (a ∷ b ∷ c ∷ e ∷ []) few = refl
drive_few (a ∷ b ∷ c ∷ e ∷ f ∷ []) few = refl
drive_few (a ∷ b ∷ c ∷ e ∷ f ∷ g ∷ []) few = refl
drive_few (a ∷ b ∷ c ∷ e ∷ f ∷ g ∷ h ∷ ws) few = absurd (omega arith)

pub drive_many : (ws : List (List ℕ)) → 8 ≤ length ws → Err misfits.Count ≡ drive_by (numbers_of ws)
drive_many [] many = absurd (omega arith)
drive_many (a ∷ []) many = absurd (omega arith)
drive_many (a ∷ b ∷ []) many = absurd (omega arith)
drive_many (a ∷ b ∷ c ∷ []) many = absurd (omega arith)
drive_many (a ∷ b ∷ c ∷ e ∷ []) many = absurd (omega arith)
drive_many (a ∷ b ∷ c ∷ e ∷ f ∷ []) many = absurd (omega arith)
drive_many (a ∷ b ∷ c ∷ e ∷ f ∷ g ∷ []) many = absurd (omega arith)
drive_many (a ∷ b ∷ c ∷ e ∷ f ∷ g ∷ h ∷ []) many = absurd (omega arith)
drive_many (a ∷ b ∷ c ∷ e ∷ f ∷ g ∷ h ∷ i ∷ ws) many = refl

-- Of two points the nearer one.
use Rattle.std.proofs.Common.{refl, ◌≡◌, ◌∙◌, suc, Bool, true, false, arith, inl, inr, [], ◌∷◌, Result, Ok, Err, IfOk}
use Rattle.std.specs.Prelude.{if◌then◌else◌, nat_lt, not}
use Rattle.std.proofs.lemmas.Bool.Decides.{leb_tells}
use Rattle.apt_words.specs.declared.Case.{Case}
use Rattle.apt_words.specs.declared.Case.TheVariants.{OutOfRange}
use Rattle.apt_words.specs.Rows.{unless}
use Rattle.apt_words.proofs.Rows.{given_by}
use Rattle.apt_plane.specs.declared.figures.Pt.{Pt}
use Rattle.apt_canon.specs.Scale.{is_in_range}
use Rattle.apt_startup.specs.StartUps.{nearer_to, distance_squared, range_cases}
use Rattle.apt_startup.specs.Nearest.{IsNearerOf}

one_of : (test : Bool) (P : Pt → Type 0) (a b : Pt) → P a → P b → P (if test then b else a)
one_of true P a b p q = q
one_of false P a b p q = p

-- what holds of both points holds of the one that is answered
pub of_both : (r : Result Pt Case) (P : Pt → Type 0) (p a b : Pt) → r ≡ unless (range_cases (nearer_to p a b)) (nearer_to p a b) → P a → P b → IfOk r P
of_both r P p a b e is_a is_b =
    let c = nearer_to p a b in
    rw e (given_by (range_cases c) c P (one_of (nat_lt (distance_squared p b) (distance_squared p a)) P a b is_a is_b))

answered : (fits : Bool) (m : Pt) → (if fits then Ok m else Err OutOfRange) ≡ unless ((not fits, OutOfRange) ∷ []) m
answered true m = refl
answered false m = refl

-- two lines have one contact, whatever sigma
pub of_one : (r : Result Pt Case) (p m : Pt) → r ≡ (if is_in_range m then Ok m else Err OutOfRange) → r ≡ unless (range_cases (nearer_to p m m)) (nearer_to p m m)
of_one r p m e =
    let is = e ∙ answered (is_in_range m) m in
    one_of (nat_lt (distance_squared p m) (distance_squared p m)) (λ q. r ≡ unless (range_cases q) q) m m is is

pub is_nearer : (p a b : Pt) → IsNearerOf p a b (nearer_to p a b)
is_nearer p a b = elim (leb_tells (suc (distance_squared p b)) (distance_squared p a)) [
  | inl nearer ↦ rw nearer.0 (inr (refl, nearer.1))
  | inr further ↦ rw further.0 (inl (refl, omega (arith, further.1)))
]

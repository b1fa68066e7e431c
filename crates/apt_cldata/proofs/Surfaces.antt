-- The words of surfaces by their indices.
use Rattle.std.proofs.Common.{◌≡◌, ◌≤◌, ◌<◌, ℕ, ℤ, List, [], ◌∷◌, length, get_or, refl, arith}
use Rattle.apt_cldata.specs.Reading.{number_of, numbers_of}
use Rattle.apt_cldata.specs.Records.{check_at, check_by, drive_at, drive_by}

pub check_six : (ws : List (List ℕ)) (d : List ℕ) (s t u v w x : ℤ) → 6 ≤ length ws → length ws < 7
    → s ≡ number_of (get_or ws 0 d) → t ≡ number_of (get_or ws 1 d) → u ≡ number_of (get_or ws 2 d) → v ≡ number_of (get_or ws 3 d) → w ≡ number_of (get_or ws 4 d) → x ≡ number_of (get_or ws 5 d)
    → check_at s t u v w x ≡ check_by (numbers_of ws)
check_six [] d s t u v w x low high e0 e1 e2 e3 e4 e5 = absurd (omega arith)
check_six (a ∷ []) d s t u v w x low high e0 e1 e2 e3 e4 e5 = absurd (omega arith)
check_six (a ∷ b ∷ []) d s t u v w x low high e0 e1 e2 e3 e4 e5 = absurd (omega arith)
check_six (a ∷ b ∷ c ∷ []) d s t u v w x low high e0 e1 e2 e3 e4 e5 = absurd (omega arith)
check_six (a ∷ b ∷ c ∷ e ∷ []) d s t u v w x low high e0 e1 e2 e3 e4 e5 = absurd (omega arith)
check_six (a ∷ b ∷ c ∷ e ∷ f ∷ []) d s t u v w x low high e0 e1 e2 e3 e4 e5 = absurd (omega arith)
check_six (a ∷ b ∷ c ∷ e ∷ f ∷ g ∷ []) d s t u v w x low high e0 e1 e2 e3 e4 e5 = rw (e0, e1, e2, e3, e4, e5) refl
check_six (a ∷ b ∷ c ∷ e ∷ f ∷ g ∷ h ∷ ws) d s t u v w x low high e0 e1 e2 e3 e4 e5 = absurd (omega arith)

pub drive_seven : (ws : List (List ℕ)) (d : List ℕ) (s t u v w x y : ℤ) → 7 ≤ length ws → length ws < 8
    → s ≡ number_of (get_or ws 0 d) → t ≡ number_of (get_or ws 1 d) → u ≡ number_of (get_or ws 2 d) → v ≡ number_of (get_or ws 3 d) → w ≡ number_of (get_or ws 4 d) → x ≡ number_of (get_or ws 5 d) → y ≡ number_of (get_or ws 6 d)
    → drive_at s t u v w x y ≡ drive_by (numbers_of ws)
drive_seven [] d s t u v w x y low high e0 e1 e2 e3 e4 e5 e6 = absurd (omega arith)
drive_seven (a ∷ []) d s t u v w x y low high e0 e1 e2 e3 e4 e5 e6 = absurd (omega arith)
drive_seven (a ∷ b ∷ []) d s t u v w x y low high e0 e1 e2 e3 e4 e5 e6 = absurd (omega arith)
drive_seven (a ∷ b ∷ c ∷ []) d s t u v w x y low high e0 e1 e2 e3 e4 e5 e6 = absurd (omega arith)
drive_seven (a ∷ b ∷ c ∷ e ∷ []) d s t u v w x y low high e0 e1 e2 e3 e4 e5 e6 = absurd (omega arith)
drive_seven (a ∷ b ∷ c ∷ e ∷ f ∷ []) d s t u v w x y low high e0 e1 e2 e3 e4 e5 e6 = absurd (omega arith)
drive_seven (a ∷ b ∷ c ∷ e ∷ f ∷ g ∷ []) d s t u v w x y low high e0 e1 e2 e3 e4 e5 e6 = absurd (omega arith)
drive_seven (a ∷ b ∷ c ∷ e ∷ f ∷ g ∷ h ∷ []) d s t u v w x y low high e0 e1 e2 e3 e4 e5 e6 = rw (e0, e1, e2, e3, e4, e5, e6) refl
drive_seven (a ∷ b ∷ c ∷ e ∷ f ∷ g ∷ h ∷ i ∷ ws) d s t u v w x y low high e0 e1 e2 e3 e4 e5 e6 = absurd (omega arith)

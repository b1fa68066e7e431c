-- The steps of the part of `demo`.
use Rattle.std.specs.Prelude.{ℕ, zero, suc, ◌+◌, ℤ, pos, neg_ℤ, ◌+ℤ◌, ◌*ℤ◌, List, [], ◌∷◌, ◌++◌, Some, None, codes}
use Rattle.std.specs.Fmt.{decimal}
use Rattle.apt_words.specs.declared.Go.TheVariants as turns
use Rattle.apt_words.specs.declared.Side.TheVariants as sides
use Rattle.apt_words.specs.declared.Stop.TheVariants as stops
use Rattle.apt_words.specs.declared.deed.Deed.{Deed}
use Rattle.apt_words.specs.declared.deed.Deed.TheVariants as deeds
use Rattle.apt_words.specs.declared.deed.Step.{Step}
use Rattle.apt_words.proofs.Contours.{contouring}
use Rattle.apt_demo.specs.Demo.{centre_x, centre_y, radius, clear_x}

-- inches, and hundredths of an inch, in millionths
abbrev pub inches : ℤ → ℤ
inches x = x *ℤ pos 1000000

abbrev pub hundredths : ℤ → ℤ
hundredths x = x *ℤ pos 10000

-- over the place to the right of the circle, down, up to the circle, round it in two halves, and up
abbrev pub cut_deeds : ℤ → ℤ → List Deed
cut_deeds vx vy =
    deeds.Rapid
    ∷ deeds.GotoXy vx vy (Some (pos 500000))
    ∷ deeds.Godlta (pos 0) (pos 0) (neg_ℤ (pos 500000))
    ∷ deeds.GoStart stops.To (codes "C") None
    ∷ deeds.Contour (contouring None turns.Right (codes "C") stops.On (codes "L")) (pos 1000000)
    ∷ deeds.Contour (contouring None turns.Forward (codes "C") stops.On (codes "L")) (pos 1000000)
    ∷ deeds.Godlta (pos 0) (pos 0) (pos 500000)
    ∷ []

-- what the nine statements of a circle with this centre, this radius and this place to the right of it ask for
abbrev pub deeds_about : ℤ → ℤ → ℕ → ℤ → List Deed
deeds_about x y r clear =
    deeds.CircleXyr (codes "C") (inches x) (inches y) (hundredths (pos r))
    ∷ deeds.LineXy (codes "L") (inches x) (inches y) (inches (x +ℤ pos 1)) (inches y)
    ∷ cut_deeds (hundredths clear) (inches y)

abbrev pub circle_deeds : ℕ → List Deed
circle_deeds k = deeds_about (centre_x k) (centre_y k) (radius k) (clear_x k)

-- those of so many circles from the k-th on
abbrev pub deeds_from : ℕ → ℕ → List Deed
deeds_from k zero = []
deeds_from k (suc m) = circle_deeds k ++ deeds_from (k + 1) m

abbrev pub head_deeds : ℕ → List Deed
head_deeds n =
    deeds.Partno (codes "DEMO " ++ decimal n)
    ∷ deeds.Cutter (pos 500000)
    ∷ deeds.Fedrat (pos 10000000)
    ∷ deeds.FromXy (neg_ℤ (pos 450000000)) (neg_ℤ (pos 450000000)) (Some (pos 500000))
    ∷ deeds.Tool sides.Right
    ∷ []

abbrev pub demo_deeds : ℕ → List Deed
demo_deeds n = head_deeds n ++ (deeds_from 0 n ++ deeds.Fini ∷ [])

-- one step a line, numbered alike
abbrev pub numbered : ℕ → List Deed → List Step
numbered i [] = []
numbered i (deed ∷ more) = record { line = i; step = i; deed = deed } ∷ numbered (i + 1) more

abbrev pub demo_steps : ℕ → List Step
demo_steps n = numbered 1 (demo_deeds n)

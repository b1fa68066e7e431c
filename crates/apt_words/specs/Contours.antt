-- How many contours steps have.
use Rattle.std.specs.Prelude.{ℕ, ◌+◌, List, [], ◌∷◌}
use Rattle.apt_words.specs.Asks.{Ask, Titles, Says, Sets, Defines, Goes, Cuts, Nothing, ask_of}
use Rattle.apt_words.specs.declared.deed.Step.{Step}

-- 1 for a contour
abbrev pub contour_by : Ask → ℕ
contour_by (Cuts contour n) = 1
contour_by _ = 0

abbrev pub contours : List Step → ℕ
contours [] = 0
contours (st ∷ sts) = contour_by (ask_of st.deed) + contours sts

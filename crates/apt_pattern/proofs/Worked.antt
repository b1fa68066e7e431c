-- Worked examples: the points of patterns, the steps of a hole, and the plain steps of parts.
use Rattle.std.specs.Prelude.{◌≡◌, ℕ, ◌+◌, ◌*◌, ℤ, pos, negsuc, refl, List, [], ◌∷◌, ◌++◌, Some, None, codes}
use Rattle.std.specs.List.{flat_map}
use Rattle.apt_words.specs.Rows.{first_of}
use Rattle.apt_words.specs.declared.Case.{Case}
use Rattle.apt_words.specs.declared.Case.TheVariants as cases
use Rattle.apt_words.specs.declared.Units.TheVariants.{Inch, Mm}
use Rattle.apt_words.specs.declared.deed.Deed.{Deed}
use Rattle.apt_words.specs.declared.deed.Deed.TheVariants as deeds
use Rattle.apt_words.specs.declared.deed.Step.{Step}
use Rattle.apt_records.specs.declared.record.Position.{Position}
use Rattle.apt_meaning.specs.Situations.{position_at}
use Rattle.apt_unroll.specs.Trace.{Trace, with_fault}
use Rattle.apt_pattern.specs.declared.cycle.Cycle.{Cycle}
use Rattle.apt_pattern.specs.Patterns.{points_of, hole, visit}
use Rattle.apt_pattern.specs.Expansions.{nothing_drilled, visit_cases, plain_steps, expansion}

-- ---- points

-- a point on the axis of x
abbrev along_x : ℕ → Position
along_x x = position_at (pos x) (pos 0) (pos 0)

-- four points over three inches
pub four : points_of (record { from = along_x 0; to = along_x 300000; count = 4 }) ≡ along_x 0 ∷ along_x 100000 ∷ along_x 200000 ∷ along_x 300000 ∷ []
four = refl

-- a half goes away from zero, up and down, in each coordinate by itself
pub halves : points_of (record { from = along_x 0; to = position_at (pos 5) (negsuc 4) (pos 3); count = 3 })
    ≡ along_x 0 ∷ position_at (pos 3) (negsuc 2) (pos 2) ∷ position_at (pos 5) (negsuc 4) (pos 3) ∷ []
halves = refl

-- backwards, from a point that is no origin
pub backwards : points_of (record { from = along_x 10; to = along_x 0; count = 4 }) ≡ along_x 10 ∷ along_x 7 ∷ along_x 3 ∷ along_x 0 ∷ []
backwards = refl

-- ---- holes

-- a quarter deep, from a tenth above
abbrev inch_cycle : Cycle
inch_cycle = record { depth = pos 25000; clearance = pos 10000 }

pub inch_hole : visit Inch (Some inch_cycle) (position_at (pos 100000) (pos 7) (pos 3))
    ≡ deeds.Rapid ∷ deeds.GotoXy (pos 1000000) (pos 70) (Some (pos 100030)) ∷ deeds.GotoXy (pos 1000000) (pos 70) (Some (negsuc 249969)) ∷ deeds.Rapid
    ∷ deeds.GotoXy (pos 1000000) (pos 70) (Some (pos 100030)) ∷ []
inch_hole = refl

pub mm_move : visit Mm None (position_at (pos 100000) (negsuc 6) (pos 3)) ≡ deeds.GotoXy (pos 10000000) (negsuc 699) (Some (pos 300)) ∷ []
mm_move = refl

-- ---- parts

abbrev A : List ℕ
A = codes "A"

abbrev P : List ℕ
P = codes "P"

abbrev Q : List ℕ
Q = codes "Q"

-- so many units in millionths
abbrev whole_units : ℕ → ℤ
whole_units n = pos (n * 1000000)

-- the step of a line, where each line is one step
abbrev on : ℕ → Deed → Step
on n deed = record { line = n; step = n; deed = deed }

abbrev refused_on : List Step → ℕ → Case → Trace
refused_on plain n case = with_fault plain (Some (record { line = n; step = n; case = case }))

-- two points
abbrev two : List Step
two = on 1 (deeds.PointXy P (pos 0) (pos 0) None) ∷ on 2 (deeds.PointXy Q (whole_units 3) (pos 0) None) ∷ []

-- a pattern of points from one to the other
abbrev pattern_of : ℤ → Step
pattern_of n = on 3 (deeds.Patern A P Q n)

pub pattern_drilled : expansion (two ++ pattern_of (whole_units 4) ∷ on 4 (deeds.CycleDrill (pos 250000) (pos 100000)) ∷ on 5 (deeds.GotoPatern A) ∷ on 6 deeds.CycleOff ∷ on 7 deeds.Fini ∷ []) None
    ≡ with_fault (two ++ plain_steps (on 5 (deeds.GotoPatern A)) (flat_map (hole Inch inch_cycle) (along_x 0 ∷ along_x 100000 ∷ along_x 200000 ∷ along_x 300000 ∷ [])) ++ on 7 deeds.Fini ∷ []) None
pattern_drilled = refl

-- without a cycle the tool goes to each point
pub pattern_visited : expansion (two ++ pattern_of (whole_units 2) ∷ on 4 (deeds.GotoPatern A) ∷ []) None
    ≡ with_fault (two ++ on 4 (deeds.GotoXy (pos 0) (pos 0) (Some (pos 0))) ∷ on 4 (deeds.GotoXy (whole_units 3) (pos 0) (Some (pos 0))) ∷ []) None
pattern_visited = refl

-- in millimetres
pub drilled_mm : expansion (on 1 (deeds.Units Mm) ∷ on 2 (deeds.CycleDrill (pos 2500000) (whole_units 1)) ∷ on 3 (deeds.GotoXy (pos 0) (whole_units 7) None) ∷ []) None
    ≡ with_fault
    (on 1 (deeds.Units Mm) ∷ on 3 deeds.Rapid ∷ on 3 (deeds.GotoXy (pos 0) (whole_units 7) (Some (whole_units 1))) ∷ on 3 (deeds.GotoXy (pos 0) (whole_units 7) (Some (negsuc 2499999)))
    ∷ on 3 deeds.Rapid ∷ on 3 (deeds.GotoXy (pos 0) (whole_units 7) (Some (whole_units 1))) ∷ []) None
drilled_mm = refl

-- behind CYCLE/OFF a GOTO stays
pub cycle_ended : expansion (on 1 (deeds.CycleDrill (pos 250000) (pos 100000)) ∷ on 2 deeds.CycleOff ∷ on 3 (deeds.GotoXy (pos 0) (pos 0) None) ∷ []) None
    ≡ with_fault (on 3 (deeds.GotoXy (pos 0) (pos 0) None) ∷ []) None
cycle_ended = refl

-- ---- refusals

-- one point is too few, and 1,000.5 is 1,001
pub one_point : expansion (two ++ pattern_of (whole_units 1) ∷ []) None ≡ refused_on two 3 cases.BadCount
one_point = refl

pub count_rounded : expansion (two ++ pattern_of (pos 1000500000) ∷ []) None ≡ refused_on two 3 cases.BadCount
count_rounded = refl

-- a pattern's name gets no figure
pub pattern_named_again : expansion (two ++ pattern_of (whole_units 2) ∷ on 4 (deeds.PointXy A (pos 0) (pos 0) None) ∷ []) None ≡ refused_on two 4 cases.WrongKind
pattern_named_again = refl

-- a figure's name gets no pattern: this is told before a bad count, and behind a point that is undefined
pub figure_named_again : expansion (two ++ on 3 (deeds.Patern P P Q (whole_units 1)) ∷ []) None ≡ refused_on two 3 cases.WrongKind
figure_named_again = refl

pub undefined_first : expansion (two ++ on 3 (deeds.Patern P P A (whole_units 1)) ∷ []) None ≡ refused_on two 3 cases.Undefined
undefined_first = refl

-- of 5,000 points none is too many, of 5,001 the whole GOTO is refused
pub most_visited : first_of (visit_cases (record nothing_drilled { holes = 4000 }) 1000) ≡ None
most_visited = refl

pub too_many_visited : first_of (visit_cases (record nothing_drilled { holes = 4001 }) 1000) ≡ Some cases.TooManyHoles
too_many_visited = refl

-- a cycle is refused by its depth
pub shallow : expansion (on 1 (deeds.CycleDrill (pos 4) (pos 100000)) ∷ []) None ≡ refused_on [] 1 cases.OutOfRange
shallow = refl

-- a line through one point twice is refused by its own case, which is told of the plain steps: so it stands last among them, before a bad cycle
pub stopped_before : expansion (two ++ on 3 (deeds.LinePoints (codes "L") P P) ∷ on 4 (deeds.CycleDrill (pos 0) (pos 0)) ∷ []) None
    ≡ with_fault (two ++ on 3 (deeds.LinePoints (codes "L") P P) ∷ []) None
stopped_before = refl

-- Parts whose records the checker computes.
use Rattle.std.specs.Prelude.{◌≡◌, refl, ℕ, ◌+◌, ◌*◌, ℤ, pos, neg_ℤ, codes, List, [], ◌∷◌, ◌++◌, Some, None, Result, Ok, Err}
use Rattle.apt_num.specs.Root.{root}
use Rattle.apt_words.specs.declared.Case.{Case}
use Rattle.apt_words.specs.declared.Case.TheVariants as cases
use Rattle.apt_words.specs.declared.Go.TheVariants as turns
use Rattle.apt_words.specs.declared.Refusal.{Refusal}
use Rattle.apt_words.specs.declared.Side.TheVariants as sides
use Rattle.apt_words.specs.declared.Stop.TheVariants as stops
use Rattle.apt_words.specs.declared.Units.TheVariants as the_units
use Rattle.apt_words.specs.declared.deed.Deed.{Deed}
use Rattle.apt_words.specs.declared.deed.Deed.TheVariants as deeds
use Rattle.apt_words.specs.declared.deed.Step.{Step}
use Rattle.apt_words.proofs.Contours.{contouring}
use Rattle.apt_plane.specs.declared.figures.Surface.{Surface}
use Rattle.apt_plane.specs.declared.figures.Surface.TheVariants as surfaces
use Rattle.apt_records.specs.declared.record.Note.{Note}
use Rattle.apt_records.specs.declared.record.Note.TheVariants as notes
use Rattle.apt_records.specs.declared.record.Position.{Position}
use Rattle.apt_records.specs.declared.record.Reach.{Reach}
use Rattle.apt_records.specs.declared.record.Reach.TheVariants as reaches
use Rattle.apt_records.specs.declared.record.Record.{Record}
use Rattle.apt_records.specs.declared.record.Record.TheVariants as records
use Rattle.apt_meaning.specs.Situations.{first_situation, position_at}
use Rattle.apt_meaning.specs.Motions.{motion_at}
use Rattle.apt_meaning.specs.StartUps.{start_up_at}
use Rattle.apt_meaning.specs.Effects.{defined}
use Rattle.apt_meaning.specs.Refusals.{refused_form}
use Rattle.apt_meaning.specs.Compiled.{compilation}

-- steps on the lines from the n-th on
abbrev numbered : ℕ → List Deed → List Step
numbered n [] = []
numbered n (deed ∷ more) = record { line = n; step = n; deed = deed } ∷ numbered (n + 1) more

abbrev made : List Deed → Result (List Record) Refusal
made steps = compilation first_situation (numbered 1 steps)

abbrev refused : ℕ → Case → Result (List Record) Refusal
refused n case = Err (record { line = n; step = n; case = case })

abbrev with_note : ℕ → Note → List Record
with_note n note = records.Statement n n ∷ records.Note note ∷ []

abbrev reached : ℕ → Reach → Position → List Record
reached n reach to = records.Statement n n ∷ records.Point reach to ∷ []

-- a whole number in millionths
abbrev whole : ℕ → ℤ
whole n = pos (n * 1000000)

-- ---- a first part

abbrev first_part : List Deed
first_part =
    deeds.Partno (codes "FIRST") ∷ deeds.Fedrat (whole 10) ∷ deeds.FromXy (pos 0) (pos 0) (Some (pos 0))
    ∷ deeds.GotoXy (whole 1) (whole 2) (Some (whole 3)) ∷ deeds.Fini ∷ []

first_records : made first_part ≡
    Ok (with_note 1 (notes.Partno (codes "FIRST")) ++ with_note 2 (notes.Feed (pos 100)) ++ reached 3 reaches.From (position_at (pos 0) (pos 0) (pos 0))
    ++ reached 4 reaches.Goto (position_at (pos 100000) (pos 200000) (pos 300000)) ++ with_note 5 notes.Fini)
first_records = refl

-- ---- a square plate, round which the cutter goes on the right

abbrev edge : List ℕ → ℕ → ℕ → ℕ → ℕ → Deed
edge name x y u v = deeds.LineXy name (whole x) (whole y) (whole u) (whole v)

abbrev plate : List Deed
plate =
    deeds.Partno (codes "SQUARE") ∷ deeds.Cutter (pos 500000)
    ∷ edge (codes "L1") 0 0 5 0 ∷ edge (codes "L2") 5 0 5 5 ∷ edge (codes "L3") 5 5 0 5 ∷ edge (codes "L4") 0 5 0 0
    ∷ deeds.Fedrat (whole 10) ∷ deeds.FromXy (neg_ℤ (whole 1)) (neg_ℤ (whole 1)) (Some (pos 500000))
    ∷ deeds.GoStart stops.To (codes "L1") (Some (stops.To, codes "L4"))
    ∷ deeds.Contour (contouring (Some sides.Right) turns.Right (codes "L1") stops.Past (codes "L2")) (whole 1)
    ∷ deeds.Contour (contouring None turns.Left (codes "L2") stops.Past (codes "L3")) (whole 1)
    ∷ deeds.Contour (contouring None turns.Left (codes "L3") stops.Past (codes "L4")) (whole 1)
    ∷ deeds.Contour (contouring None turns.Left (codes "L4") stops.Past (codes "L1")) (whole 1) ∷ deeds.Fini ∷ []

abbrev line : ℤ → ℤ → ℤ → ℤ → Surface
line x y dx dy = surfaces.Line (record { base = record { x = x; y = y }; dir = record { dx = dx; dy = dy } })

abbrev low : ℤ
low = neg_ℤ (pos 25000)

abbrev high : ℤ
high = pos 525000

abbrev bottom : Surface
bottom = line (pos 0) (pos 0) (pos 500000) (pos 0)

abbrev right : Surface
right = line (pos 500000) (pos 0) (pos 0) (pos 500000)

abbrev top : Surface
top = line (pos 500000) (pos 500000) (neg_ℤ (pos 500000)) (pos 0)

abbrev left : Surface
left = line (pos 0) (pos 500000) (pos 0) (neg_ℤ (pos 500000))

-- along a drive surface past a check surface, to one corner
abbrev cut : ℕ → Surface → Surface → ℤ → ℤ → List Record
cut n drive check x y =
    records.Statement n n ∷ records.Drive drive sides.Right (pos 1) ∷ records.Check check stops.Past
    ∷ records.Contour (position_at x y (pos 50000) ∷ []) ∷ []

plate_records : made plate ≡
    Ok (with_note 1 (notes.Partno (codes "SQUARE")) ++ with_note 2 (notes.Cutter (pos 50000)) ++ with_note 7 (notes.Feed (pos 100))
    ++ reached 8 reaches.From (position_at (neg_ℤ (pos 100000)) (neg_ℤ (pos 100000)) (pos 50000)) ++ reached 9 reaches.Start (position_at low low (pos 50000))
    ++ cut 10 bottom right high low ++ cut 11 right top high high ++ cut 12 top left low high ++ cut 13 left bottom low low ++ with_note 14 notes.Fini)
unfolding root motion_at start_up_at refused_form defined
plate_records = refl

-- ---- a groove through a ring, to the second meeting with it: two legs

abbrev ring : Surface
ring = surfaces.Circ (record { c = record { x = pos 300000; y = pos 0 }; r = pos 100000 })

abbrev leg : ℤ → Record
leg x = records.Contour (position_at x (pos 0) (pos 0) ∷ [])

ring_records : made (deeds.Partno (codes "TWO") ∷ edge (codes "L1") 0 0 1 0 ∷ deeds.CircleXyr (codes "C1") (whole 3) (whole 0) (whole 1) ∷ deeds.Fedrat (whole 10)
    ∷ deeds.FromXy (neg_ℤ (whole 1)) (whole 0) None ∷ deeds.GotoXy (whole 0) (whole 0) None
    ∷ deeds.Contour (contouring None turns.Forward (codes "L1") stops.On (codes "C1")) (whole 2) ∷ deeds.Fini ∷ []) ≡
    Ok (with_note 1 (notes.Partno (codes "TWO")) ++ with_note 4 (notes.Feed (pos 100))
    ++ reached 5 reaches.From (position_at (neg_ℤ (pos 100000)) (pos 0) (pos 0)) ++ reached 6 reaches.Goto (position_at (pos 0) (pos 0) (pos 0))
    ++ records.Statement 7 7 ∷ records.Drive (line (pos 0) (pos 0) (pos 100000) (pos 0)) sides.On (pos 1) ∷ records.Check ring stops.On ∷ leg (pos 200000) ∷ leg (pos 400000)
    ∷ with_note 8 notes.Fini)
unfolding root motion_at start_up_at refused_form defined
ring_records = refl

-- ---- other parts

-- a move spends RAPID, and FROM does not
millimetres : made (deeds.Partno (codes "") ∷ deeds.Units the_units.Mm ∷ deeds.Rapid ∷ deeds.FromXy (pos 0) (pos 0) None
    ∷ deeds.Godlta (whole 1) (whole 2) (neg_ℤ (pos 500000)) ∷ deeds.Fedrat (pos 100000) ∷ deeds.GotoXy (whole 1) (whole 2) None ∷ deeds.EndWord ∷ deeds.Fini ∷ []) ≡
    Ok (with_note 1 (notes.Partno (codes "")) ++ with_note 2 (notes.Units the_units.Mm) ++ with_note 3 notes.Rapid ++ reached 4 reaches.From (position_at (pos 0) (pos 0) (pos 0))
    ++ reached 5 reaches.Godlta (position_at (pos 10000) (pos 20000) (neg_ℤ (pos 5000))) ++ with_note 6 (notes.Feed (pos 1))
    ++ reached 7 reaches.Goto (position_at (pos 10000) (pos 20000) (pos 0)) ++ with_note 8 notes.End ++ with_note 9 notes.Fini)
millimetres = refl

-- the first step that a case refuses
spent_rapid : made (deeds.Partno (codes "") ∷ deeds.Rapid ∷ deeds.FromXy (pos 0) (pos 0) None ∷ deeds.GotoXy (pos 0) (pos 0) None ∷ deeds.GotoXy (pos 0) (pos 0) None ∷ deeds.Fini ∷ []) ≡ refused 5 cases.NoFeed
spent_rapid = refl

no_feed : made (deeds.Partno (codes "") ∷ deeds.GotoXy (whole 1) (whole 2) None ∷ deeds.Godlta (pos 0) (pos 0) (pos 0) ∷ deeds.Fini ∷ []) ≡ refused 2 cases.NoFeed
no_feed = refl

position_again : made (deeds.Partno (codes "") ∷ deeds.FromXy (pos 0) (pos 0) None ∷ deeds.FromXy (pos 0) (pos 0) None ∷ deeds.Fini ∷ []) ≡ refused 3 cases.FromAgain
position_again = refl

-- a name that stands for a number can stand for a line later
line_again : made (deeds.Assign (codes "L1") (whole 5) ∷ edge (codes "L1") 0 0 5 0 ∷ deeds.Fini ∷ []) ≡ Ok (with_note 3 notes.Fini)
unfolding refused_form defined
line_again = refl

-- ---- points

-- FROM and GOTO on points take their heights along
points : made (deeds.Fedrat (whole 10) ∷ deeds.PointXy (codes "P1") (whole 1) (whole 2) (Some (whole 3)) ∷ deeds.PointXy (codes "P2") (pos 0) (whole 2) None
    ∷ deeds.FromPoint (codes "P1") ∷ deeds.GotoPoint (codes "P2") ∷ deeds.Fini ∷ []) ≡
    Ok (with_note 1 (notes.Feed (pos 100)) ++ reached 4 reaches.From (position_at (pos 100000) (pos 200000) (pos 300000))
    ++ reached 5 reaches.Goto (position_at (pos 0) (pos 200000) (pos 0)) ++ with_note 6 notes.Fini)
unfolding refused_form defined
points = refl

-- a number is no point, and a refused definition is told
no_such_point : made (deeds.Assign (codes "P1") (whole 5) ∷ deeds.FromPoint (codes "P1") ∷ deeds.Fini ∷ []) ≡ refused 2 cases.WrongKind
unfolding refused_form defined
no_such_point = refl

far_point : made (deeds.PointXy (codes "P1") (whole 501) (pos 0) None ∷ deeds.FromPoint (codes "P1") ∷ deeds.Fini ∷ []) ≡ refused 1 cases.OutOfRange
unfolding refused_form defined
far_point = refl

-- to the point in which two lines meet
meeting : made (deeds.Rapid ∷ edge (codes "L1") 0 0 5 0 ∷ edge (codes "L2") 3 4 3 0 ∷ deeds.PointLines (codes "P1") (codes "L1") (codes "L2") ∷ deeds.GotoPoint (codes "P1") ∷ deeds.Fini ∷ []) ≡
    Ok (with_note 1 notes.Rapid ++ reached 5 reaches.Goto (position_at (pos 300000) (pos 0) (pos 0)) ++ with_note 6 notes.Fini)
unfolding root refused_form defined
meeting = refl

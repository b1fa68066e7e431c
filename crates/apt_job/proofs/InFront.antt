-- The records in front, one after the other.
use Rattle.std.proofs.Common.{◌≡◌, ◌≢◌, ◌∙◌, ◌+◌, ℕ, suc, ℤ, Bool, true, false, List, [], ◌∷◌, ◌++◌, map, Option, Some, refl, sym, ap, int_eq, add-one}
use Rattle.std.specs.List.{list_all}
use Rattle.std.proofs.lemmas.Bool.Decides.{Decides-int_eq}
use Rattle.std.proofs.lemmas.Bool.{true≢false}
use Rattle.apt_words.specs.declared.deed.Step.{Step}
use Rattle.apt_plane.specs.declared.figures.Pt.{Pt}
use Rattle.apt_records.specs.declared.record.Position.{Position}
use Rattle.apt_records.specs.declared.record.Record.{Record}
use Rattle.apt_records.specs.declared.record.Record.TheVariants as records
use Rattle.apt_meaning.specs.declared.motion.Motion.{Motion}
use Rattle.apt_meaning.specs.declared.situation.Situation.{Situation}
use Rattle.apt_meaning.specs.declared.effect.Effect.{Effect}
use Rattle.apt_meaning.specs.declared.effect.Effect.TheVariants as effects
use Rattle.apt_records.specs.Vertices.{at_height}
use Rattle.apt_records.proofs.Heights.{at_one_height}
use Rattle.apt_stop.specs.Legs.{leg_count}
use Rattle.apt_stop.specs.declared.legs.Legs.{Legs}
use Rattle.apt_stop.specs.declared.legs.Legs.TheVariants as the_legs
use Rattle.apt_meaning.specs.Motions.{has_track, has_stop, is_defined}
use Rattle.apt_meaning.specs.Effects.{effect_of}
use Rattle.apt_meaning.specs.Records.{MayHave, cut_record, effect_records}
use Rattle.apt_meaning.specs.Expectations.{Expectation, Exactly, VerticesAt, exactly_if, each_leg, expected, expected_of, behind_statement, Meets, Departs}
use Rattle.apt_job.specs.Fronts.{points_at, IsMetFirst}

-- ---- heights

-- whether positions are all at a height
abbrev are_at : ℤ → List Position → Bool
are_at z ps = list_all (λ p. int_eq p.z z) ps

pub one_height : (z : ℤ) (ps : List Position) → list_all (λ p. int_eq p.z z) ps ≡ true → ps ≡ map (at_height z) (points_at ps)
one_height z ps e = sym (at_one_height z ps e)

are_at-map : (z : ℤ) (vs : List Pt) → are_at z (map (at_height z) vs) ≡ true
are_at-map z [] = refl
are_at-map z (v ∷ vs) = rw ((Decides-int_eq z z).1 refl) (are_at-map z vs)

pub not_one_height : (z : ℤ) (ps : List Position) (vs : List Pt) → list_all (λ p. int_eq p.z z) ps ≡ false → ps ≡ map (at_height z) vs → ⊥
not_one_height z ps vs e same = true≢false (sym (are_at-map z vs) ∙ ap (are_at z) (sym same) ∙ e)

-- ---- one record after the other

amiss_departs : (x : Expectation) (xs : List Expectation) (written : List Record) → Departs (x ∷ []) written 0 → Departs (x ∷ xs) written 0
amiss_departs x xs [] amiss = amiss
amiss_departs x xs (r ∷ rs) amiss = amiss

next_departs : (x : Expectation) (xs : List Expectation) (written : List Record) (vs : List Pt) (rest : List Record) (k : ℕ) → IsMetFirst x written vs rest
    → Departs xs rest k → Departs (x ∷ xs) written (suc k)
next_departs x xs written vs rest k next departs = rw next.split ((vs, next.met), departs)

pub next_if : (b : Bool) (due : Record) (written : List Record) (vs : List Pt) (rest : List Record) → IsMetFirst (exactly_if b due) written vs rest → (b ≡ true) × (written ≡ due ∷ rest)
next_if true due written vs rest next = (refl, next.split ∙ ap (λ (r : Record). r ∷ rest) next.met.0)
next_if false due written vs rest next = absurd next.met

contour_met : (z : ℤ) (r : Record) (vs : List Pt) → Meets (VerticesAt z) r vs → r ≡ records.Contour (map (at_height z) vs)
contour_met z (records.Statement line step) vs met = absurd met
contour_met z (records.Note note) vs met = absurd met
contour_met z (records.Drive surface side sense) vs met = absurd met
contour_met z (records.Check surface how) vs met = absurd met
contour_met z (records.Point reach to) vs met = absurd met
contour_met z (records.Contour ps) vs met = ap (λ (qs : List Position). records.Contour qs) met

-- ---- contours

abbrev drive_due : Motion → Expectation
drive_due m = exactly_if (has_track m) (records.Drive m.drive m.side m.sense)

abbrev check_due : Motion → Expectation
check_due m = exactly_if (has_stop m) (records.Check m.check m.how)

-- the records of drive and check, with what is behind them
abbrev IsBegun : Motion → List Record → List Record → Type 0
IsBegun m written c = (is_defined m ≡ true) × (written ≡ records.Drive m.drive m.side m.sense ∷ records.Check m.check m.how ∷ c)

begun : (m : Motion) (written d c : List Record) (us ws : List Pt) → IsMetFirst (drive_due m) written us d → IsMetFirst (check_due m) d ws c → IsBegun m written c
begun m written d c us ws drive check =
    let a = next_if (has_track m) (records.Drive m.drive m.side m.sense) written us d drive in
    let b = next_if (has_stop m) (records.Check m.check m.how) d ws c check in
    (rw (a.0, b.0) refl, a.1 ∙ ap (λ (rs : List Record). records.Drive m.drive m.side m.sense ∷ rs) b.1)

one_cut : (z : ℤ) (rs rest : List Record) (vs : List Pt) → IsMetFirst (VerticesAt z) rs vs rest → rs ≡ cut_record z vs ∷ rest
one_cut z rs rest vs contour = contour.split ∙ ap (λ (r : Record). r ∷ rest) (contour_met z contour.first vs contour.met)

pub cut_said : (m : Motion) (n : Legs) (written d c rest : List Record) (us ws vs : List Pt) → n ≡ the_legs.One → IsMetFirst (drive_due m) written us d → IsMetFirst (check_due m) d ws c
    → IsMetFirst (VerticesAt m.start.z) c vs rest
    → (written ≡ effect_records (effects.Cuts m n) (vs ∷ []) ++ rest) × MayHave (effects.Cuts m n) (vs ∷ [])
cut_said m n written d c rest us ws vs one drive check contour =
    let both = begun m written d c us ws drive check in
    (both.1 ∙ ap (λ (rs : List Record). records.Drive m.drive m.side m.sense ∷ records.Check m.check m.how ∷ rs) (one_cut m.start.z c rest vs contour), (both.0, sym (ap leg_count one)))

pub two_said : (m : Motion) (n : Legs) (written d c b rest : List Record) (us ws vs xs : List Pt) → n ≡ the_legs.Two → IsMetFirst (drive_due m) written us d → IsMetFirst (check_due m) d ws c
    → IsMetFirst (VerticesAt m.start.z) c vs b → IsMetFirst (VerticesAt m.start.z) b xs rest
    → (written ≡ effect_records (effects.Cuts m n) (vs ∷ xs ∷ []) ++ rest) × MayHave (effects.Cuts m n) (vs ∷ xs ∷ [])
two_said m n written d c b rest us ws vs xs two drive check first second =
    let both = begun m written d c us ws drive check in
    let cuts = one_cut m.start.z c b vs first ∙ ap (λ (rs : List Record). cut_record m.start.z vs ∷ rs) (one_cut m.start.z b rest xs second) in
    (both.1 ∙ ap (λ (rs : List Record). records.Drive m.drive m.side m.sense ∷ records.Check m.check m.how ∷ rs) cuts, (both.0, sym (ap leg_count two)))

-- a contour record is due for each leg
first_amiss : (n : Legs) (x : Expectation) (written : List Record) → Departs (x ∷ []) written 0 → Departs (each_leg n x) written 0
first_amiss the_legs.One x written amiss = amiss
first_amiss the_legs.Two x written amiss = amiss_departs x (x ∷ []) written amiss

behind_both : (m : Motion) (xs : List Expectation) (written d c : List Record) (us ws : List Pt) (k : ℕ) → IsMetFirst (drive_due m) written us d → IsMetFirst (check_due m) d ws c
    → Departs xs c k → Departs (drive_due m ∷ check_due m ∷ xs) written (suc (suc k))
behind_both m xs written d c us ws k drive check departs =
    next_departs (drive_due m) (check_due m ∷ xs) written us d (suc k) drive (next_departs (check_due m) xs d ws c k check departs)

pub cut_departs : (m : Motion) (n : Legs) (written d c : List Record) (us ws : List Pt) → IsMetFirst (drive_due m) written us d → IsMetFirst (check_due m) d ws c
    → Departs (VerticesAt m.start.z ∷ []) c 0 → Departs (expected_of (Some (effects.Cuts m n))) written 2
cut_departs m n written d c us ws drive check amiss =
    behind_both m (each_leg n (VerticesAt m.start.z)) written d c us ws 0 drive check (first_amiss n (VerticesAt m.start.z) c amiss)

pub second_departs : (m : Motion) (written d c b : List Record) (us ws vs : List Pt) → IsMetFirst (drive_due m) written us d → IsMetFirst (check_due m) d ws c
    → IsMetFirst (VerticesAt m.start.z) c vs b → Departs (VerticesAt m.start.z ∷ []) b 0 → Departs (expected_of (Some (effects.Cuts m the_legs.Two))) written 3
second_departs m written d c b us ws vs drive check first amiss =
    behind_both m (each_leg the_legs.Two (VerticesAt m.start.z)) written d c us ws 1 drive check
    (next_departs (VerticesAt m.start.z) (VerticesAt m.start.z ∷ []) c vs b 0 first amiss)

-- ---- steps

abbrev statement_due : Step → Expectation
statement_due step = Exactly (records.Statement step.line step.step)

behind_due : (step : Step) (xs : List Expectation) → xs ≢ [] → behind_statement step xs ≡ statement_due step ∷ xs
behind_due step [] some = absurd (some refl)
behind_due step (x ∷ xs) some = refl

pub departs_later : (here : Situation) (step : Step) (o : Option Effect) (written rest : List Record) (vs : List Pt) (k : ℕ) → effect_of here step.deed ≡ o → expected_of o ≢ []
    → IsMetFirst (statement_due step) written vs rest → Departs (expected_of o) rest k → Departs (expected here step) written (k + 1)
departs_later here step o written rest vs k is some first departs =
    rw (is, behind_due step (expected_of o) some, add-one k) (next_departs (statement_due step) (expected_of o) written vs rest k first departs)

-- The reaches of records that follow steps are those of their legs.
use Rattle.std.proofs.Common.{◌≡◌, ◌∙◌, ℕ, ◌<◌, ℤ, ◌-ℤ◌, List, [], ◌∷◌, ◌++◌, map, length, suc, zero, get_or, append_assoc, Some, ap, refl, sym, arith}
use Rattle.std.proofs.lemmas.Int.{ints}
use Rattle.apt_words.specs.Asks.{listed}
use Rattle.apt_words.specs.declared.deed.Step.{Step}
use Rattle.apt_plane.specs.declared.figures.Pt.{Pt}
use Rattle.apt_certify.specs.declared.leg.Job.{Job}
use Rattle.apt_records.specs.Ranges.{IsRecord, AreRecords}
use Rattle.apt_records.specs.declared.record.Note.TheVariants as notes
use Rattle.apt_records.specs.declared.record.Reach.TheVariants as ways
use Rattle.apt_records.specs.declared.record.Record.{Record}
use Rattle.apt_records.specs.declared.record.Record.TheVariants as records
use Rattle.apt_meaning.specs.declared.situation.Situation.{Situation}
use Rattle.apt_meaning.specs.declared.motion.Motion.{Motion}
use Rattle.apt_meaning.specs.declared.effect.Change.TheVariants as changes
use Rattle.apt_meaning.specs.declared.effect.Effect.{Effect}
use Rattle.apt_meaning.specs.declared.effect.Effect.TheVariants as effects
use Rattle.apt_meaning.specs.Effects.{effect_of}
use Rattle.apt_meaning.specs.Situations.{first_situation}
use Rattle.apt_meaning.specs.Paths.{Told, Contour, Due, nothing_said, with_record, said_behind, first_leg, next_leg, radius_by, counted, contours_behind, contours_of}
use Rattle.apt_meaning.specs.Records.{FollowsAs, HasAny, Follows, IsAsSaid, records_of, cut_record, after, legs_from, contours_by}
use Rattle.apt_meaning.proofs.Said.{IsMotionOf, said_by}
use Rattle.apt_meaning.proofs.Walks.Alone.{says_on, nothing_tells}
use Rattle.apt_outline.specs.declared.parts.Reach.{Reach}
use Rattle.apt_outline.specs.declared.cutter.Cutter.{Cutter}
use Rattle.apt_outline.specs.Guards.{Pass, passes}
use Rattle.apt_outline.specs.Reaches.{cutter_behind, reach_by, reach_at, reaches_behind, reaches_of, reach_of, pass_said}

pub record_at : (rs : List Record) (i : ℕ) (r : Record) → AreRecords rs → i < length rs → IsRecord (get_or rs i r)
record_at [] i r are h = absurd (omega (arith, h))
record_at (x ∷ xs) zero r are h = are.0
record_at (x ∷ xs) (suc i) r are h = record_at xs i r are.1 (omega (arith, h))

pub record_is : (rs : List Record) (i : ℕ) (r : Record) → AreRecords rs → i < length rs → r ≡ get_or rs i r → IsRecord r
record_is rs i r are h e = rw e (record_at rs i r are h)

-- ---- the cutter, as all that was said has it

abbrev cutter_of : Told → Cutter
cutter_of s = record { diameter = s.diameter; intol = s.intol }

cutter_with : (s : Told) (r : Record) → cutter_behind (cutter_of s) r ≡ cutter_of (with_record s r)
cutter_with s (records.Statement line step) = refl
cutter_with s (records.Note (notes.Partno text)) = refl
cutter_with s (records.Note (notes.Units units)) = refl
cutter_with s (records.Note (notes.Cutter d)) = refl
cutter_with s (records.Note (notes.Intol t)) = refl
cutter_with s (records.Note (notes.Outtol t)) = refl
cutter_with s (records.Note (notes.Feed f)) = refl
cutter_with s (records.Note (notes.Do command)) = refl
cutter_with s (records.Note notes.Rapid) = refl
cutter_with s (records.Note notes.End) = refl
cutter_with s (records.Note notes.Fini) = refl
cutter_with s (records.Drive surface side sense) = refl
cutter_with s (records.Check surface how) = refl
cutter_with s (records.Point ways.From to) = refl
cutter_with s (records.Point ways.Goto to) = refl
cutter_with s (records.Point ways.Godlta to) = refl
cutter_with s (records.Point ways.Start to) = refl
cutter_with s (records.Contour vertices) = refl

reaches_append : (s : Told) (xs ys : List Record) → reaches_behind (cutter_of s) (xs ++ ys) ≡ reaches_behind (cutter_of s) xs ++ reaches_behind (cutter_of (said_behind s xs)) ys
reaches_append s [] ys = refl
reaches_append s (x ∷ xs) ys =
    let more = ap (λ (k : Cutter). reaches_behind k (xs ++ ys)) (cutter_with s x) ∙ reaches_append (with_record s x) xs ys in
    let same = ap (λ (k : Cutter). reaches_behind k xs) (cutter_with s x) in
    rw (more, same) (sym (append_assoc (listed (reach_at (cutter_of s) x)) (reaches_behind (cutter_of (with_record s x)) xs) (reaches_behind (cutter_of (said_behind (with_record s x) xs)) ys)))

-- ---- the reaches of an effect

inner_is : (here : Situation) (m : Motion) → IsMotionOf here m → m.inner ≡ counted here.settings.intol
inner_is here m is =
    let e = is.inner in
    grind (arith, ints)

-- the reach with which a motion is cut
abbrev motion_reach : Motion → Reach
motion_reach m = record { r = m.radius; i = m.inner }

as_said : (s : Told) (here : Situation) (m : Motion) → IsAsSaid s here → IsMotionOf here m → reach_by (cutter_of s) ≡ motion_reach m
as_said s here m t is =
    let radius : radius_by s.diameter ≡ m.radius = sym t.radius ∙ sym is.radius in
    let inner : counted s.intol ≡ m.inner = ap counted (sym t.intol) ∙ sym (inner_is here m is) in
    rw (radius, inner) refl

legs_reach : (k : Cutter) (d : Due) (z : ℤ) (cuts : List (List Pt)) → reach_by k ≡ motion_reach d.motion → reaches_behind k (map (cut_record z) cuts) ≡ map reach_of (legs_from d cuts)
legs_reach k d z [] e = refl
legs_reach k d z (vertices ∷ cuts) e = rw (e, legs_reach k (next_leg d vertices) z cuts e) refl

effect_reaches : (s : Told) (here : Situation) (step : Step) (e : Effect) (cuts : List (List Pt)) → IsAsSaid s here → effect_of here step.deed ≡ Some e
    → reaches_behind (cutter_of s) (records_of step e cuts) ≡ map reach_of (contours_by e cuts)
effect_reaches s here step (effects.Defines n f) cuts t asked = refl
effect_reaches s here step (effects.Sets (changes.Said note)) cuts t asked = refl
effect_reaches s here step (effects.Sets (changes.Side side)) cuts t asked = refl
effect_reaches s here step (effects.Sets changes.Nothing) cuts t asked = refl
effect_reaches s here step (effects.Moves reach to) cuts t asked = refl
effect_reaches s here step (effects.Cuts m n) cuts t asked =
    legs_reach (cutter_of s) (first_leg m) m.start.z cuts (as_said s here m t (said_by here step.deed (effects.Cuts m n) asked).1)

-- ---- the walk

map_append : (cs more : List Contour) → map reach_of cs ++ map reach_of more ≡ map reach_of (cs ++ more)
map_append [] more = refl
map_append (c ∷ cs) more = ap (λ (rs : List Reach). reach_of c ∷ rs) (map_append cs more)

reaches_walk : (s : Told) (here : Situation) (steps : List Step) (written : List Record) (behind : Situation) → IsAsSaid s here → FollowsAs HasAny here steps written behind
    → reaches_behind (cutter_of s) written ≡ map reach_of (contours_behind s written)
reaches_walk s here [] written behind t f = rw f.0 refl
reaches_walk s here (step ∷ steps) written behind t f =
    let e = f.0 in
    let due = records_of step e f.1 in
    let on = says_on s here step e f.1 t f.3.asked f.3.may in
    let later = reaches_walk (said_behind s due) (after here e f.1) steps f.2 behind on.tells f.5 in
    rw (f.3.front, on.contours f.2, reaches_append s due f.2, effect_reaches s here step e f.1 t f.3.asked, later) (map_append (contours_by e f.1) (contours_behind (said_behind s due) f.2))

pub legs_reached : (steps : List Step) (written : List Record) → Follows steps written → reaches_of written ≡ map reach_of (contours_of written)
legs_reached steps written f = reaches_walk nothing_said first_situation steps written f.behind nothing_tells f.follow

-- ---- jobs with the points of legs

pub passes_said : (job : Contour → Job) → ((c : Contour) → (job c).points ≡ c.motion.start.xy ∷ c.vertices) → (cs : List Contour) → passes (map job cs) (map reach_of cs) ≡ map pass_said cs
passes_said job points [] = refl
passes_said job points (c ∷ cs) =
    ap (λ (ps : List Pt). record { points = ps; rho = c.motion.radius -ℤ c.motion.inner } ∷ passes (map job cs) (map reach_of cs)) (points c)
    ∙ ap (λ (ps : List Pass). pass_said c ∷ ps) (passes_said job points cs)

-- The draft of steps, with its vertices counted and its arcs divided, is what the steps come to.
use Rattle.std.proofs.Common.{inl, inr, ◌≡◌, ◌∙◌, ℕ, ℤ, ◌+◌, ◌-◌, ◌≤◌, Bool, true, false, List, [], ◌∷◌, ◌++◌, length, map, Option, Some, None, Result, Ok, Err, refl, sym, ap, subst, append_assoc, append-nil, arith}
use Rattle.std.specs.Prelude.{nat_lt, if◌then◌else◌}
use Rattle.std.proofs.lemmas.Bool.{ltb-false, le-ltb, lt-ltb, cases_lt}
use Rattle.apt_words.specs.declared.Case.{Case}
use Rattle.apt_words.specs.declared.Case.TheVariants as cases
use Rattle.apt_words.specs.declared.Refusal.{Refusal}
use Rattle.apt_words.specs.declared.deed.Step.{Step}
use Rattle.apt_plane.specs.declared.figures.Pt.{Pt}
use Rattle.apt_arc.specs.declared.arc.Arc.{Arc}
use Rattle.apt_records.specs.declared.record.Position.{Position}
use Rattle.apt_records.specs.declared.record.Record.{Record}
use Rattle.apt_records.specs.declared.record.Record.TheVariants as lines
use Rattle.apt_meaning.specs.declared.situation.Situation.{Situation}
use Rattle.apt_meaning.specs.declared.motion.Motion.{Motion}
use Rattle.apt_stop.specs.declared.legs.Legs.{Legs}
use Rattle.apt_meaning.specs.declared.effect.Change.TheVariants as changes
use Rattle.apt_meaning.specs.declared.effect.Effect.{Effect}
use Rattle.apt_meaning.specs.declared.effect.Effect.TheVariants as effects
use Rattle.apt_meaning.specs.Situations.{first_situation}
use Rattle.apt_records.specs.Vertices.{at_height}
use Rattle.apt_meaning.specs.Cuts.{arc_of, end_point, vertices_of, motions_of}
use Rattle.apt_meaning.specs.Effects.{effect_of}
use Rattle.apt_meaning.specs.Refusals.{refusal_of}
use Rattle.apt_meaning.specs.Records.{cut_record, records_of, after}
use Rattle.apt_meaning.specs.Vertices.{cut_points}
use Rattle.apt_meaning.specs.Compiled.{ends_of, points_of, point_number, asked, asked_within, refused_at, most_points, or_refused, with_front, compilation_behind, compilation}
use Rattle.apt_meaning.proofs.Contours.Arcs.{vertices_by, vertices-vertices_by}
use Rattle.apt_words.specs.Answers.{Tells}
use Rattle.apt_motion.specs.declared.runs.RunError.{RunError}
use Rattle.apt_motion.specs.declared.runs.RunError.TheVariants as errors
use Rattle.apt_motion.specs.Ends.{refusal_in}
use Rattle.apt_motion.specs.Acts.{IsRefused}
use Rattle.apt_motion.specs.Drafts.{ArcAt, drawn, drawn_by, drawn_on, rounds_along, rounds_of, rounds_by, round_at, Draft, behind, or_stopped, draft_from, vertices_at, chords_of, is_open, known, Mark, mark_at, overfull, too_many, nowhere, filled, or_refusal, finished}

-- ---- the draft, step by step

regrouped : (front more : List Record) (first later : List ArcAt) (d : Draft) → behind front first (behind more later d) ≡ behind (front ++ more) (first ++ later) d
regrouped front more first later d = rw (append_assoc front more d.records, append_assoc first later d.rounds) refl

-- one more step
pub draws_on : (front : List Record) (first : List ArcAt) (here : Situation) (step : Step) (steps : List Step) (e : Effect) (whole : Draft)
    → asked (refusal_of here step.deed) (effect_of here step.deed) ≡ Ok e → behind front first (draft_from here (step ∷ steps)) ≡ whole
    → behind (front ++ records_of step e (drawn e)) (first ++ rounds_of e) (draft_from (after here e (ends_of e)) steps) ≡ whole
draws_on front first here step steps e whole does so_far =
    sym (regrouped front (records_of step e (drawn e)) first (rounds_of e) (draft_from (after here e (ends_of e)) steps))
    ∙ sym (ap (λ a. behind front first (or_stopped step a (λ e. draft_from (after here e (ends_of e)) steps))) does) ∙ so_far

-- a step that is refused ends it
stopped_at : {P : Type 0} (front : List Record) (first : List ArcAt) (here : Situation) (step : Step) (steps : List Step) (before now : P) (refusal : Refusal) (case : Case) (whole : Draft)
    → IsRefused here step before now refusal case → behind front first (draft_from here (step ∷ steps)) ≡ whole
    → whole ≡ record { records = front; rounds = first; refusal = Some refusal }
stopped_at front first here step steps before now refusal case whole stopped so_far =
    sym so_far
    ∙ ap (λ a. behind front first (or_stopped step a (λ e. draft_from (after here e (ends_of e)) steps))) stopped.asks
    ∙ rw (append-nil front, append-nil first, stopped.told) refl

pub stops_at : {P : Type 0} (front : List Record) (first : List ArcAt) (here : Situation) (step : Step) (steps : List Step) (before now : P) (error : RunError) (refusal : Refusal) (whole : Draft)
    → error ≡ errors.Refused refusal → Tells (λ refusal. (case : Case) × IsRefused here step before now refusal case) (refusal_in error)
    → behind front first (draft_from here (step ∷ steps)) ≡ whole → (now ≡ before) × (whole ≡ record { records = front; rounds = first; refusal = Some refusal })
stops_at front first here step steps before now error refusal whole is tells so_far =
    let stopped = subst (λ e. Tells (λ refusal. (case : Case) × IsRefused here step before now refusal case) (refusal_in e)) is tells in
    (stopped.1.same, stopped_at front first here step steps before now refusal stopped.0 whole stopped.1 so_far)

-- ---- a record that is no contour

none_below : (left : ℕ) → nat_lt left 0 ≡ false
none_below left = le-ltb left 0 (omega arith)

none_off : (left : ℕ) → left - 0 ≡ left
none_off left = omega arith

passed : (left n : ℕ) (mark : Mark) (rs : List Record) (sizes : List ℕ) → n ≡ 0
    → (if nat_lt left n then Some (overfull mark) else too_many (left - n) mark rs sizes) ≡ too_many left mark rs sizes
passed left n mark rs sizes e = rw (e, none_below left, none_off left) refl

-- it has no vertices
quiet : (left : ℕ) (mark : Mark) (r : Record) (rs : List Record) (sizes : List ℕ) → is_open r ≡ false → known r ≡ 0
    → too_many left mark (r ∷ rs) sizes ≡ too_many left (mark_at r mark) rs sizes
quiet left mark r rs sizes shut none = rw shut (passed left (known r) (mark_at r mark) rs sizes none)

-- and takes none
shut_stays : (r : Record) (rs : List Record) (cuts : List (List Position)) → is_open r ≡ false → filled (r ∷ rs) cuts ≡ r ∷ filled rs cuts
shut_stays r rs [] shut = refl
shut_stays r rs (cut ∷ cuts) shut = rw shut refl

-- ---- a front part of records

behind_front : (front : List Record) (past own : Option Refusal) (rest : List Record)
    → or_refusal past (or_refusal own (Ok (front ++ rest))) ≡ with_front front (or_refusal past (or_refusal own (Ok rest)))
behind_front front (Some r) own rest = refl
behind_front front None (Some r) rest = refl
behind_front front None None rest = refl

record_on : (r : Record) (left : ℕ) (mark : Mark) (d : Draft) → is_open r ≡ false → known r ≡ 0
    → finished left mark (behind (r ∷ []) [] d) ≡ with_front (r ∷ []) (finished left (mark_at r mark) d)
record_on r left mark d shut none =
    rw (quiet left mark r d.records (map chords_of d.rounds) shut none, shut_stays r d.records (map vertices_at d.rounds) shut)
    (behind_front (r ∷ []) (too_many left (mark_at r mark) d.records (map chords_of d.rounds)) d.refusal (filled d.records (map vertices_at d.rounds)))

-- ---- a contour, which has so many vertices

by_test : (test : Bool) (x : Refusal) (front : List Record) (past own : Option Refusal) (rest : List Record)
    → or_refusal (if test then Some x else past) (or_refusal own (Ok (front ++ rest))) ≡ (if test then Err x else with_front front (or_refusal past (or_refusal own (Ok rest))))
by_test true x front past own rest = refl
by_test false x front past own rest = behind_front front past own rest

contour_on : (p : Position) (ps : List Position) (left : ℕ) (mark : Mark) (d : Draft)
    → finished left mark (behind (lines.Contour (p ∷ ps) ∷ []) [] d)
    ≡ (if nat_lt left (length (p ∷ ps)) then Err (overfull mark) else with_front (lines.Contour (p ∷ ps) ∷ []) (finished (left - length (p ∷ ps)) mark d))
contour_on p ps left mark d =
    rw (shut_stays (lines.Contour (p ∷ ps)) d.records (map vertices_at d.rounds) refl)
    (by_test (nat_lt left (length (p ∷ ps))) (overfull mark) (lines.Contour (p ∷ ps) ∷ []) (too_many (left - length (p ∷ ps)) mark d.records (map chords_of d.rounds)) d.refusal (filled d.records (map vertices_at d.rounds)))

round_on : (q : ArcAt) (left : ℕ) (mark : Mark) (d : Draft)
    → finished left mark (behind (lines.Contour [] ∷ []) (q ∷ []) d)
    ≡ (if nat_lt left (chords_of q) then Err (overfull mark) else with_front (lines.Contour (vertices_at q) ∷ []) (finished (left - chords_of q) mark d))
round_on q left mark d =
    by_test (nat_lt left (chords_of q)) (overfull mark) (lines.Contour (vertices_at q) ∷ []) (too_many (left - chords_of q) mark d.records (map chords_of d.rounds)) d.refusal (filled d.records (map vertices_at d.rounds))

-- ---- the records of a step in front of others

-- how many may be left behind so many
abbrev left_after : ℕ → ℕ
left_after so_far = most_points - so_far

-- what is behind a step: it comes to the draft of what is behind it
abbrev GoesOn : ℕ → Effect → (Effect → Result (List Record) Refusal) → (Effect → Draft) → Type 0
GoesOn so_far e more next =
    so_far + point_number e ≤ most_points → (mark : Mark) → more e ≡ finished (left_after (so_far + point_number e)) mark (next e)

abbrev taken : ℕ → Step → Effect → (Effect → Result (List Record) Refusal) → Result (List Record) Refusal
taken so_far step e more = or_refused step (asked_within so_far (Ok e)) (λ e. with_front (records_of step e (points_of e)) (more e))

same_limit : (so_far n : ℕ) → so_far ≤ most_points → nat_lt most_points (so_far + n) ≡ nat_lt (most_points - so_far) n
same_limit so_far n few = elim (cases_lt most_points (so_far + n)) [
  | inl over ↦ lt-ltb most_points (so_far + n) over ∙ sym (lt-ltb (most_points - so_far) n (omega (arith, over, few)))
  | inr within ↦ le-ltb most_points (so_far + n) within ∙ sym (le-ltb (most_points - so_far) n (omega (arith, within, few)))
]

same_left : (so_far n : ℕ) → (most_points - so_far) - n ≡ most_points - (so_far + n)
same_left so_far n = omega arith

-- a step without vertices
plain_taken : (so_far : ℕ) (step : Step) (e : Effect) (more : Effect → Result (List Record) Refusal) (next : Effect → Draft) (mark : Mark)
    → so_far ≤ most_points → points_of e ≡ [] → GoesOn so_far e more next
    → taken so_far step e more ≡ with_front (records_of step e (points_of e)) (finished (left_after so_far) mark (next e))
plain_taken so_far step e more next mark few none goes =
    let still : so_far + point_number e ≡ so_far = rw none (omega arith) in
    let within : so_far + point_number e ≤ most_points = rw still few in
    let one : asked_within so_far (Ok e) ≡ Ok e = rw (le-ltb most_points (so_far + point_number e) within) refl in
    ap (λ a. or_refused step a (λ e. with_front (records_of step e (points_of e)) (more e))) one
    ∙ ap (with_front (records_of step e (points_of e))) (goes within mark ∙ ap (λ n. finished (left_after n) mark (next e)) still)

no_front : (r : Result (List Record) Refusal) → with_front [] r ≡ r
no_front (Ok rest) = refl
no_front (Err refusal) = refl

regroup : (front more : List Record) (r : Result (List Record) Refusal) → with_front front (with_front more r) ≡ with_front (front ++ more) r
regroup front more (Ok rest) = ap (λ (x : List Record). Ok x) (sym (append_assoc front more rest))
regroup front more (Err refusal) = refl

two_on : (a b : Record) (left : ℕ) (mark : Mark) (d : Draft) → is_open a ≡ false → known a ≡ 0 → is_open b ≡ false → known b ≡ 0
    → finished left mark (behind (a ∷ b ∷ []) [] d) ≡ with_front (a ∷ b ∷ []) (finished left (mark_at b (mark_at a mark)) d)
two_on a b left mark d shut_a none_a shut_b none_b =
    record_on a left mark (behind (b ∷ []) [] d) shut_a none_a
    ∙ ap (with_front (a ∷ [])) (record_on b left (mark_at a mark) d shut_b none_b)
    ∙ regroup (a ∷ []) (b ∷ []) (finished left (mark_at b (mark_at a mark)) d)

-- ---- a contour

cut_on : (o : Option Arc) (end : Pt) (z : ℤ) (left : ℕ) (mark : Mark) (d : Draft)
    → finished left mark (behind (lines.Contour (map (at_height z) (drawn_by end o)) ∷ []) (rounds_by z o) d)
    ≡ (if nat_lt left (length (vertices_by end o)) then Err (overfull mark)
    else with_front (lines.Contour (map (at_height z) (vertices_by end o)) ∷ []) (finished (left - length (vertices_by end o)) mark d))
cut_on None end z left mark d = contour_on (at_height z end) [] left mark d
cut_on (Some arc) end z left mark d = round_on (round_at z arc) left mark d

-- the legs of a contour one behind the other
abbrev cuts_along : List Motion → List (List Pt)
cuts_along ms = map (λ m. vertices_by (end_point m) (arc_of m)) ms

abbrev sized : List Motion → ℕ
sized ms = cut_points (cuts_along ms)

abbrev drawn_records : ℤ → List Motion → List Record
drawn_records z ms = map (cut_record z) (map drawn_on ms)

abbrev cut_records : ℤ → List Motion → List Record
cut_records z ms = map (cut_record z) (cuts_along ms)

-- two tests are one
both_fit : (left v t : ℕ) (x : Refusal) (front last : List Record) (f : ℕ → Result (List Record) Refusal)
    → (if nat_lt left v then Err x else with_front front (if nat_lt (left - v) t then Err x else with_front last (f ((left - v) - t))))
    ≡ (if nat_lt left (v + t) then Err x else with_front (front ++ last) (f (left - (v + t))))
both_fit left v t x front last f = elim (cases_lt left v) [
  | inl over ↦ rw (lt-ltb left v over, lt-ltb left (v + t) (omega (arith, over))) refl
  | inr fits ↦ elim (cases_lt (left - v) t) [
    | inl over ↦ rw (le-ltb left v fits, lt-ltb (left - v) t over, lt-ltb left (v + t) (omega (arith, fits, over))) refl
    | inr all ↦
        rw (le-ltb left v fits, le-ltb (left - v) t all, le-ltb left (v + t) (omega (arith, fits, all)))
        (regroup front last (f ((left - v) - t)) ∙ ap (λ (n : ℕ). with_front (front ++ last) (f n)) (same_rest left v t))
  ]
]
  where
    same_rest : (left v t : ℕ) → (left - v) - t ≡ left - (v + t)
    same_rest left v t = omega arith

legs_on : (z : ℤ) (ms : List Motion) (left : ℕ) (mark : Mark) (d : Draft)
    → finished left mark (behind (drawn_records z ms) (rounds_along z ms) d)
    ≡ (if nat_lt left (sized ms) then Err (overfull mark) else with_front (cut_records z ms) (finished (left - sized ms) mark d))
legs_on z [] left mark d = rw (none_below left, none_off left) (sym (no_front (finished left mark d)))
legs_on z (m ∷ ms) left mark d =
    let v = length (vertices_by (end_point m) (arc_of m)) in
    let one = lines.Contour (map (at_height z) (vertices_by (end_point m) (arc_of m))) in
    ap (λ (q : Draft). finished left mark q) (sym (regrouped (cut_record z (drawn_on m) ∷ []) (drawn_records z ms) (rounds_by z (arc_of m)) (rounds_along z ms) d))
    ∙ cut_on (arc_of m) (end_point m) z left mark (behind (drawn_records z ms) (rounds_along z ms) d)
    ∙ ap (λ (r : Result (List Record) Refusal). if nat_lt left v then Err (overfull mark) else with_front (one ∷ []) r) (legs_on z ms (left - v) mark d)
    ∙ both_fit left v (sized ms) (overfull mark) (one ∷ []) (cut_records z ms) (λ n. finished n mark d)

three_on : (a b c : Record) (left : ℕ) (mark : Mark) (d : Draft) → is_open a ≡ false → known a ≡ 0 → is_open b ≡ false → known b ≡ 0 → is_open c ≡ false → known c ≡ 0
    → finished left mark (behind (a ∷ b ∷ c ∷ []) [] d) ≡ with_front (a ∷ b ∷ c ∷ []) (finished left (mark_at c (mark_at b (mark_at a mark))) d)
three_on a b c left mark d shut_a none_a shut_b none_b shut_c none_c =
    two_on a b left mark (behind (c ∷ []) [] d) shut_a none_a shut_b none_b
    ∙ ap (with_front (a ∷ b ∷ [])) (record_on c left (mark_at b (mark_at a mark)) d shut_c none_c)
    ∙ regroup (a ∷ b ∷ []) (c ∷ []) (finished left (mark_at c (mark_at b (mark_at a mark))) d)

-- a test behind a front part
test_front : (test : Bool) (front last : List Record) (x : Refusal) (r : Result (List Record) Refusal)
    → with_front front (if test then Err x else with_front last r) ≡ (if test then Err x else with_front (front ++ last) r)
test_front true front last x r = refl
test_front false front last x r = regroup front last r

test_within : (test : Bool) (step : Step) (case : Case) (e : Effect) (more : Effect → Result (List Record) Refusal)
    → or_refused step (if test then Err case else Ok e) more ≡ (if test then Err (refused_at step case) else more e)
test_within true step case e more = refl
test_within false step case e more = refl

same_unless : (test : Bool) (x : Refusal) (r s : Result (List Record) Refusal) → (test ≡ false → r ≡ s) → (if test then Err x else r) ≡ (if test then Err x else s)
same_unless true x r s h = refl
same_unless false x r s h = h refl

-- the records of a contour with these cuts, where there is room for so many vertices more
abbrev with_cuts : ℕ → Step → Motion → Legs → List (List Pt) → Result (List Record) Refusal → Result (List Record) Refusal
with_cuts left step m n cuts rest =
    if nat_lt left (cut_points cuts) then Err (refused_at step cases.TooManyPoints) else with_front (records_of step (effects.Cuts m n) cuts) rest

cut_taken : (so_far : ℕ) (step : Step) (m : Motion) (n : Legs) (more : Effect → Result (List Record) Refusal) → so_far ≤ most_points
    → taken so_far step (effects.Cuts m n) more ≡ with_cuts (left_after so_far) step m n (points_of (effects.Cuts m n)) (more (effects.Cuts m n))
cut_taken so_far step m n more few =
    let e = effects.Cuts m n in
    test_within (nat_lt most_points (so_far + point_number e)) step cases.TooManyPoints e (λ e. with_front (records_of step e (points_of e)) (more e))
    ∙ ap (λ t. if t then Err (refused_at step cases.TooManyPoints) else with_front (records_of step e (points_of e)) (more e)) (same_limit so_far (point_number e) few)

same_cuts : (ms : List Motion) → map vertices_of ms ≡ cuts_along ms
same_cuts [] = refl
same_cuts (m ∷ ms) = rw (vertices-vertices_by m, same_cuts ms) refl

cut_drawn : (step : Step) (m : Motion) (n : Legs) (left : ℕ) (mark : Mark) (d : Draft)
    → finished left mark (behind (records_of step (effects.Cuts m n) (drawn (effects.Cuts m n))) (rounds_of (effects.Cuts m n)) d)
    ≡ with_cuts left step m n (cuts_along (motions_of m n)) (finished (left - sized (motions_of m n)) (step.line, step.step) d)
cut_drawn step m n left mark d =
    let ms = motions_of m n in
    let z = m.start.z in
    let here : Mark = (step.line, step.step) in
    let front = lines.Statement step.line step.step ∷ lines.Drive m.drive m.side m.sense ∷ lines.Check m.check m.how ∷ [] in
    three_on (lines.Statement step.line step.step) (lines.Drive m.drive m.side m.sense) (lines.Check m.check m.how) left mark (behind (drawn_records z ms) (rounds_along z ms) d) refl refl refl refl refl refl
    ∙ ap (with_front front) (legs_on z ms left here d)
    ∙ test_front (nat_lt left (sized ms)) front (cut_records z ms) (overfull here) (finished (left - sized ms) here d)

cut_goes : (so_far : ℕ) (step : Step) (m : Motion) (n : Legs) (more : Effect → Result (List Record) Refusal) (next : Effect → Draft) (mark : Mark) → so_far ≤ most_points
    → GoesOn so_far (effects.Cuts m n) more next
    → taken so_far step (effects.Cuts m n) more
    ≡ finished (left_after so_far) mark (behind (records_of step (effects.Cuts m n) (drawn (effects.Cuts m n))) (rounds_of (effects.Cuts m n)) (next (effects.Cuts m n)))
cut_goes so_far step m n more next mark few goes =
    let e = effects.Cuts m n in
    let here : Mark = (step.line, step.step) in
    let k = point_number e in
    cut_taken so_far step m n more few
    ∙ same_unless (nat_lt (left_after so_far) k) (refused_at step cases.TooManyPoints) (with_front (records_of step e (points_of e)) (more e))
    (with_front (records_of step e (points_of e)) (finished (left_after so_far - k) here (next e)))
    (λ fits.
    let room : k ≤ left_after so_far = ltb-false (left_after so_far) k fits in
    let within : so_far + k ≤ most_points = omega (arith, room, few) in
    ap (with_front (records_of step e (points_of e))) (goes within here ∙ ap (λ n. finished n here (next e)) (sym (same_left so_far k))))
    ∙ ap (λ (cuts : List (List Pt)). with_cuts (left_after so_far) step m n cuts (finished (left_after so_far - cut_points cuts) here (next e))) (same_cuts (motions_of m n))
    ∙ sym (cut_drawn step m n (left_after so_far) mark (next e))

-- ---- every step

step_goes : (so_far : ℕ) (step : Step) (e : Effect) (more : Effect → Result (List Record) Refusal) (next : Effect → Draft) (mark : Mark) → so_far ≤ most_points → GoesOn so_far e more next
    → taken so_far step e more ≡ finished (left_after so_far) mark (behind (records_of step e (drawn e)) (rounds_of e) (next e))
step_goes so_far step (effects.Defines n f) more next mark few goes =
    plain_taken so_far step (effects.Defines n f) more next mark few refl goes ∙ no_front (finished (left_after so_far) mark (next (effects.Defines n f)))
step_goes so_far step (effects.Sets (changes.Said note)) more next mark few goes =
    let e = effects.Sets (changes.Said note) in
    plain_taken so_far step e more next (step.line, step.step) few refl goes
    ∙ sym (two_on (lines.Statement step.line step.step) (lines.Note note) (left_after so_far) mark (next e) refl refl refl refl)
step_goes so_far step (effects.Sets (changes.Side side)) more next mark few goes =
    plain_taken so_far step (effects.Sets (changes.Side side)) more next mark few refl goes ∙ no_front (finished (left_after so_far) mark (next (effects.Sets (changes.Side side))))
step_goes so_far step (effects.Sets changes.Nothing) more next mark few goes =
    plain_taken so_far step (effects.Sets changes.Nothing) more next mark few refl goes ∙ no_front (finished (left_after so_far) mark (next (effects.Sets changes.Nothing)))
step_goes so_far step (effects.Moves reach to) more next mark few goes =
    let e = effects.Moves reach to in
    plain_taken so_far step e more next (step.line, step.step) few refl goes
    ∙ sym (two_on (lines.Statement step.line step.step) (lines.Point reach to) (left_after so_far) mark (next e) refl refl refl refl)
step_goes so_far step (effects.Cuts m n) more next mark few goes = cut_goes so_far step m n more next mark few goes

answer_goes : (so_far : ℕ) (step : Step) (a : Result Effect Case) (more : Effect → Result (List Record) Refusal) (next : Effect → Draft) (mark : Mark) → so_far ≤ most_points
    → ((e : Effect) → GoesOn so_far e more next)
    → or_refused step (asked_within so_far a) (λ e. with_front (records_of step e (points_of e)) (more e)) ≡ finished (left_after so_far) mark (or_stopped step a next)
answer_goes so_far step (Err case) more next mark few goes = refl
answer_goes so_far step (Ok e) more next mark few goes = step_goes so_far step e more next mark few (goes e)

drafted : (steps : List Step) (so_far : ℕ) (here : Situation) (mark : Mark) → so_far ≤ most_points
    → compilation_behind so_far here steps ≡ finished (left_after so_far) mark (draft_from here steps)
drafted [] so_far here mark few = refl
drafted (step ∷ steps) so_far here mark few =
    answer_goes so_far step (asked (refusal_of here step.deed) (effect_of here step.deed)) (λ e. compilation_behind (so_far + point_number e) (after here e (ends_of e)) steps)
    (λ e. draft_from (after here e (ends_of e)) steps) mark few (λ e few mark. drafted steps (so_far + point_number e) (after here e (ends_of e)) mark few)

-- what steps come to is their draft, finished
pub compiled : (steps : List Step) → compilation first_situation steps ≡ finished most_points nowhere (draft_from first_situation steps)
compiled steps = drafted steps 0 first_situation nowhere (omega arith)

-- ---- the vertices of arcs

-- where there are none, the records stay
pub filled_by_none : (rs : List Record) (cuts : List (List Position)) → length cuts ≡ 0 → rs ≡ filled rs cuts
filled_by_none [] cuts none = refl
filled_by_none (r ∷ rs) [] none = ap (λ (xs : List Record). r ∷ xs) (filled_by_none rs [] none)
filled_by_none (r ∷ rs) (cut ∷ cuts) none = absurd (omega (arith, none))

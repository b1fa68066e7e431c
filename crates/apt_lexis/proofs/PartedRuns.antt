-- The runs of two parts of a line, where no run goes on from one into the other.
use Rattle.std.proofs.Common.{◌≡◌, ℕ, List, [], ◌∷◌, ◌++◌, Bool, true, false, ap, ◌∙◌, sym, refl}
use Rattle.std.specs.Prelude.{◌&&◌}
use Rattle.std.specs.List.{flat_map, list_all}
use Rattle.std.proofs.lemmas.Bool.{and_parts}
use Rattle.std.proofs.lemmas.Grind.{flat_map-append}
use Rattle.apt_lexis.specs.Lines.{in_front}
use Rattle.apt_lexis.specs.Tokens.{tokens_of_run, runs, is_blank, is_in_run, begins_in_run}
use Rattle.apt_lexis.specs.Spellings.{ends_in_run}
use Rattle.apt_lexis.proofs.Splitting.{Filled, filled}
use Rattle.apt_lexis.proofs.OneByOne.{reads_of, mark_run, no_run_of_blank}

pub by_cases : {P : Type 0} (t : Bool) → (t ≡ true → P) → (t ≡ false → P) → P
by_cases true h g = h refl
by_cases false h g = g refl

-- ---- one character more

pub runs_longer : (b : ℕ) (bs : List ℕ) → is_in_run b ≡ true → begins_in_run bs ≡ true → runs (b ∷ bs) ≡ in_front b (runs bs)
runs_longer b bs e f = rw (e, f) refl

pub runs_ended : (b : ℕ) (bs : List ℕ) → is_in_run b ≡ true → begins_in_run bs ≡ false → runs (b ∷ bs) ≡ (b ∷ []) ∷ runs bs
runs_ended b bs e f = rw (e, f) refl

pub runs_blank : (b : ℕ) (bs : List ℕ) → is_in_run b ≡ false → is_blank b ≡ true → runs (b ∷ bs) ≡ runs bs
runs_blank b bs e f = rw (e, f) refl

runs_filled : (b : ℕ) (bs : List ℕ) → is_in_run b ≡ true → Filled (runs (b ∷ bs))
runs_filled b bs e =
    by_cases (begins_in_run bs)
    (λ f. let more = filled b (runs bs) in (more.0, more.1, runs_longer b bs e f ∙ more.2))
    (λ f. (b ∷ [], runs bs, runs_ended b bs e f))

in_front_of_both : (b : ℕ) (parts more : List (List ℕ)) → Filled parts → in_front b (parts ++ more) ≡ in_front b parts ++ more
in_front_of_both b parts more f = rw f.2 refl

-- ---- two parts

abbrev AreParted : List ℕ → List ℕ → Type 0
AreParted front back = runs (front ++ back) ≡ runs front ++ runs back

parted_alone : (b : ℕ) (front back : List ℕ) → AreParted front back → runs (b ∷ (front ++ back)) ≡ (b ∷ []) ∷ runs (front ++ back) → runs (b ∷ front) ≡ (b ∷ []) ∷ runs front → AreParted (b ∷ front) back
parted_alone b front back is e f = e ∙ ap (λ rs. (b ∷ []) ∷ rs) is ∙ ap (λ rs. rs ++ runs back) (sym f)

parted_behind_other : (b : ℕ) (front back : List ℕ) → is_in_run b ≡ false → AreParted front back → AreParted (b ∷ front) back
parted_behind_other b front back e is =
    by_cases (is_blank b)
    (λ f. runs_blank b (front ++ back) e f ∙ is ∙ ap (λ rs. rs ++ runs back) (sym (runs_blank b front e f)))
    (λ f. parted_alone b front back is (mark_run b (front ++ back) e f) (mark_run b front e f))

parted_behind_run : (b c : ℕ) (cs back : List ℕ) → is_in_run b ≡ true → AreParted (c ∷ cs) back → AreParted (b ∷ c ∷ cs) back
parted_behind_run b c cs back e is =
    by_cases (is_in_run c)
    (λ f.
    runs_longer b (c ∷ (cs ++ back)) e f ∙ ap (in_front b) is
    ∙ in_front_of_both b (runs (c ∷ cs)) (runs back) (runs_filled c cs f)
    ∙ ap (λ rs. rs ++ runs back) (sym (runs_longer b (c ∷ cs) e f)))
    (λ f. parted_alone b (c ∷ cs) back is (runs_ended b (c ∷ (cs ++ back)) e f) (runs_ended b (c ∷ cs) e f))

one_false : (t : Bool) (other : Bool) → t ≡ true → (t && other) ≡ false → other ≡ false
one_false true other e f = f
one_false false other e f = cc

-- no run goes on from the front into the back
pub runs_parted : (front back : List ℕ) → (ends_in_run front && begins_in_run back) ≡ false → runs (front ++ back) ≡ runs front ++ runs back
runs_parted [] back e = refl
runs_parted (b ∷ []) back e =
    by_cases (is_in_run b)
    (λ f. parted_alone b [] back refl (runs_ended b back f (one_false (is_in_run b) (begins_in_run back) f e)) (runs_ended b [] f refl))
    (λ f. parted_behind_other b [] back f refl)
runs_parted (b ∷ c ∷ cs) back e =
    by_cases (is_in_run b)
    (λ f. parted_behind_run b c cs back f (runs_parted (c ∷ cs) back e))
    (λ f. parted_behind_other b (c ∷ cs) back f (runs_parted (c ∷ cs) back e))

pub reads_parted : (front back : List ℕ) → (ends_in_run front && begins_in_run back) ≡ false → reads_of (front ++ back) ≡ reads_of front ++ reads_of back
reads_parted front back e = ap (flat_map tokens_of_run) (runs_parted front back e) ∙ flat_map-append tokens_of_run (runs front) (runs back)

-- ---- a run by itself

pub run_alone : (b : ℕ) (bs : List ℕ) → list_all is_in_run (b ∷ bs) ≡ true → runs (b ∷ bs) ≡ (b ∷ bs) ∷ []
run_alone b [] e = runs_ended b [] (and_parts (is_in_run b) true e).0 refl
run_alone b (c ∷ cs) e =
    let both = and_parts (is_in_run b) (list_all is_in_run (c ∷ cs)) e in
    runs_longer b (c ∷ cs) both.0 (and_parts (is_in_run c) (list_all is_in_run cs) both.1).0 ∙ ap (in_front b) (run_alone c cs both.1)

-- ---- a blank more

no_run_behind : (t other : Bool) → other ≡ false → (t && other) ≡ false
no_run_behind true other e = e
no_run_behind false other e = refl

-- a blank that parts no run changes no run
pub runs_with_blank : (front : List ℕ) (b : ℕ) (back : List ℕ) → is_blank b ≡ true → (ends_in_run front && begins_in_run back) ≡ false → runs (front ++ b ∷ back) ≡ runs (front ++ back)
runs_with_blank front b back e f =
    let none = no_run_of_blank b e in
    runs_parted front (b ∷ back) (no_run_behind (ends_in_run front) (is_in_run b) none) ∙ ap (λ rs. runs front ++ rs) (runs_blank b back none e) ∙ sym (runs_parted front back f)

-- The first of a list that a fact is not true of.
use Rattle.std.proofs.Common.{refl, ◌≡◌, ◌∙◌, sym, ap, subst, ℕ, zero, suc, ◌+◌, ◌≤◌, ◌<◌, arith, List, [], ◌∷◌, ◌++◌, length, get_or, take, drop, append_assoc, length-append, take-append-drop}
use Rattle.std.specs.List.{AllByRecursion}
use Rattle.std.proofs.lemmas.List.{take_more, length-take-le, drop_more}
use Rattle.apt_outline.specs.Spots.{IsFirst}

pub all-append : {T : Type 0} (P : T → Type 0) (xs ys : List T) → AllByRecursion P xs → AllByRecursion P ys → AllByRecursion P (xs ++ ys)
all-append P [] ys a b = b
all-append P (x ∷ xs) ys a b = (a.0, all-append P xs ys a.1 b)

-- behind all that it is true of
pub first_behind : {T : Type 0} (P : T → Type 0) (list before behind : List T) (x : T) (n : ℕ) → list ≡ before ++ x ∷ behind → AllByRecursion P before → ¬ P x → n ≡ length before + 1 → IsFirst P list n x
first_behind P list before behind x n split hold fails number = record { before = before; behind = behind; split = split; hold = hold; fails = fails; number = number }

-- with more in front
pub first_after : {T : Type 0} (P : T → Type 0) (xs ys : List T) (n : ℕ) (x : T) → AllByRecursion P xs → IsFirst P ys n x → IsFirst P (xs ++ ys) (length xs + n) x
first_after P xs ys n x all first = record {
  before = xs ++ first.before;
  behind = first.behind;
  split = ap (λ (zs : List _). xs ++ zs) first.split ∙ sym (append_assoc xs first.before (x ∷ first.behind));
  hold = all-append P xs first.before all first.hold;
  fails = first.fails;
  number = omega (arith, first.number, length-append xs first.before);
}

pub first_before : {T : Type 0} (P : T → Type 0) (xs ys : List T) (n : ℕ) (x : T) → IsFirst P xs n x → IsFirst P (xs ++ ys) n x
first_before P xs ys n x first = record {
  before = first.before;
  behind = first.behind ++ ys;
  split = ap (λ (zs : List _). zs ++ ys) first.split ∙ append_assoc first.before (x ∷ first.behind) ys;
  hold = first.hold;
  fails = first.fails;
  number = first.number;
}

-- so it is not true of all
pub not_all : {T : Type 0} (P : T → Type 0) (list : List T) (n : ℕ) (x : T) → IsFirst P list n x → ¬ AllByRecursion P list
not_all {T} P list n x first = λ all. first.fails (among first.before first.behind (subst (λ (zs : List T). AllByRecursion P zs) first.split all))
  where
    among : (before behind : List T) → AllByRecursion P (before ++ x ∷ behind) → P x
    among [] behind all = all.0
    among (y ∷ ys) behind all = among ys behind all.1

-- ---- one by one
pub any_default : {T : Type 0} (xs : List T) (k : ℕ) (d e : T) → k < length xs → get_or xs k d ≡ get_or xs k e
any_default [] k d e h = absurd (omega (arith, h))
any_default (x ∷ xs) zero d e h = refl
any_default (x ∷ xs) (suc k) d e h = any_default xs k d e (omega (arith, h))

pub all_at : {T : Type 0} (P : T → Type 0) (xs : List T) (i : ℕ) (d : T) → AllByRecursion P xs → i < length xs → P (get_or xs i d)
all_at P [] i d all h = absurd (omega (arith, h))
all_at P (x ∷ xs) zero d all h = all.0
all_at P (x ∷ xs) (suc i) d all h = all_at P xs i d all.1 (omega (arith, h))

pub all_whole : {T : Type 0} (P : T → Type 0) (xs : List T) (n : ℕ) → length xs ≤ n → AllByRecursion P (take n xs) → AllByRecursion P xs
all_whole P [] n h all = tt
all_whole P (x ∷ xs) zero h all = absurd (omega (arith, h))
all_whole P (x ∷ xs) (suc n) h all = (all.0, all_whole P xs n (omega (arith, h)) all.1)

pub all_more : {T : Type 0} (P : T → Type 0) (xs : List T) (i : ℕ) (x : T) → i < length xs → x ≡ get_or xs i x → AllByRecursion P (take i xs) → P x → AllByRecursion P (take (i + 1) xs)
all_more {T} P xs i x h is all one =
    subst (λ (zs : List T). AllByRecursion P zs) (sym (take_more xs i x h ∙ ap (λ (y : T). take i xs ++ y ∷ []) (sym is)))
    (all-append P (take i xs) (x ∷ []) all (one, tt))

pub first_at : {T : Type 0} (P : T → Type 0) (xs : List T) (i n : ℕ) (x : T) → i < length xs → x ≡ get_or xs i x → AllByRecursion P (take i xs) → ¬ P x → n ≡ i + 1 → IsFirst P xs n x
first_at {T} P xs i n x h is all fails e = record {
  before = take i xs;
  behind = drop (i + 1) xs;
  split = sym (take-append-drop i xs) ∙ ap (λ (zs : List T). take i xs ++ zs) (drop_more xs i x h ∙ ap (λ (y : T). y ∷ drop (i + 1) xs) (sym is));
  hold = all;
  fails = fails;
  number = omega (arith, e, length-take-le i xs (within i (length xs) h));
}
  where
    within : (i m : ℕ) → i < m → i ≤ m
    within i m h = omega (arith, h)

-- ---- there is but one first
abbrev first_or : {T : Type 0} → T → List T → T
first_or d [] = d
first_or d (z ∷ zs) = z

head_same : {T : Type 0} (u v : T) (us vs : List T) → u ∷ us ≡ v ∷ vs → u ≡ v
head_same u v us vs e = ap (λ (zs : List _). first_or u zs) e

tail_same : {T : Type 0} (u v : T) (us vs : List T) → u ∷ us ≡ v ∷ vs → us ≡ vs
tail_same u v us vs e = ap (λ (zs : List _). drop 1 zs) e

places : {T : Type 0} (P : T → Type 0) (x y : T) (xs ys behind rest : List T) → ¬ P x → ¬ P y → AllByRecursion P xs → AllByRecursion P ys → xs ++ x ∷ behind ≡ ys ++ y ∷ rest → (length xs ≡ length ys) × (x ≡ y)
places P x y [] [] behind rest f g a b e = (refl, head_same x y behind rest e)
places P x y [] (z ∷ ys) behind rest f g a b e = absurd (f (subst P (sym (head_same x z behind (ys ++ y ∷ rest) e)) b.0))
places P x y (z ∷ xs) [] behind rest f g a b e = absurd (g (subst P (head_same z y (xs ++ x ∷ behind) rest e) a.0))
places P x y (z ∷ xs) (w ∷ ys) behind rest f g a b e =
    let more = places P x y xs ys behind rest f g a.1 b.1 (tail_same z w (xs ++ x ∷ behind) (ys ++ y ∷ rest) e) in
    (ap suc more.0, more.1)

pub only_first : {T : Type 0} (P : T → Type 0) (list : List T) (m n : ℕ) (x y : T) → IsFirst P list m x → IsFirst P list n y → (m ≡ n) × (x ≡ y)
only_first P list m n x y one other =
    let same = places P x y one.before other.before one.behind other.behind one.fails other.fails one.hold other.hold (sym one.split ∙ other.split) in
    (omega (arith, one.number, other.number, same.0), same.1)

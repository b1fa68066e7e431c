-- The acts of a tape beside a plan, piece by piece.
use Rattle.std.proofs.Common.{◌≡◌, ◌<◌, ◌≤◌, ◌+◌, ◌^◌, ℕ, zero, suc, List, [], ◌∷◌, ◌++◌, map, Bool, Option, Some, None, is_some, true, false, length, take, drop, get_or, sym, ap, ◌∙◌, refl, subst, arith, append_assoc}
use Rattle.std.specs.Prelude.{◌↔◌, IsTrue, IfSome}
use Rattle.std.proofs.lemmas.List.{take-append-drop, map-append, length-append, length-map, length-take-le, append-nil}
use Rattle.apt_records.specs.declared.record.Record.{Record}
use Rattle.apt_records.specs.Ranges.{vertex_count}
use Rattle.apt_circular.specs.declared.ArcAct.{ArcAct}
use Rattle.apt_machine.specs.declared.machine.Machine.{Machine}
use Rattle.apt_post.proofs.HowMany.{plan_few}
use Rattle.apt_tape.specs.Tapes.{acts_on}
use Rattle.apt_circular.specs.Plans.{left_of}
use Rattle.apt_tape.proofs.Plainly.{acts_few}
use Rattle.apt_tape.specs.Differences.{HeadsDiffer, DifferAt, AreBeside, IsDifference}
use Rattle.apt_tape.specs.Comparisons.{AreCompared}
use Rattle.apt_tape.specs.declared.comparison.Comparison.{Comparison}

-- a plan has not many acts
pub plan_fits : (m : Machine) (rs : List Record) → vertex_count rs + length rs < 2 ^ 62 → 1 + length (acts_on m rs) ≤ 2 ^ 63
plan_fits m rs few = omega (arith, acts_few m rs, plan_few rs, few)

-- the act at a place, and those behind it
drop_one : {A : Type 0} (xs : List A) (i : ℕ) (d : A) → i < length xs → drop i xs ≡ get_or xs i d ∷ drop (suc i) xs
drop_one [] i d h = absurd (omega (arith, h))
drop_one (x ∷ xs) zero d h = refl
drop_one (x ∷ xs) (suc i) d h = drop_one xs i d (omega (arith, h))

-- in front of a place and behind it, as acts with arcs
parted : {A : Type 0} (arc : A → ArcAct) (xs : List A) (i : ℕ) → map arc xs ≡ map arc (take i xs) ++ map arc (drop i xs)
parted arc xs i = ap (map arc) (sym (take-append-drop i xs)) ∙ map-append arc (take i xs) (drop i xs)

-- the act at a place is not: then they differ there, however they go on
pub beside_ends : {A : Type 0} (arc : A → ArcAct) (planned before left begun : List ArcAct) (acts : List A) (i at : ℕ) (d : A) → planned ≡ before ++ begun → begun ≡ map arc (take i acts) ++ left
    → i < length acts → at ≡ length before + i + 1 → d ≡ get_or acts i d → ((more : List ArcAct) → HeadsDiffer (arc d ∷ more) left)
    → (more : List ArcAct) → DifferAt ((before ++ map arc acts) ++ more) planned at
beside_ends arc planned before left begun acts i at d so same h number there differ more =
    let front = map arc (take i acts) in
    let behind = map arc (drop i acts) in record {
      same = before ++ front;
      left = behind ++ more;
      right = left;
      first = append_assoc before (map arc acts) more ∙ ap (λ (l : List ArcAct). before ++ (l ++ more)) (parted arc acts i) ∙ ap (λ (l : List ArcAct). before ++ l) (append_assoc front behind more) ∙ sym (append_assoc before front (behind ++ more));
      second = so ∙ ap (λ (l : List ArcAct). before ++ l) same ∙ sym (append_assoc before front left);
      differ = subst (λ (l : List ArcAct). HeadsDiffer (l ++ more) left) (sym (ap (map arc) (drop_one acts i d h))) (subst (λ act. HeadsDiffer (arc act ∷ (map arc (drop (i + 1) acts) ++ more)) left) there (differ (map arc (drop (i + 1) acts) ++ more)));
      number = omega (arith, number, length-append before front, length-map (take i acts) arc, length-take-le i acts (omega (arith, h)));
    }

-- what differs goes on to differ
pub differ_still : (planned acts more : List ArcAct) (at : ℕ) → ((more : List ArcAct) → DifferAt (acts ++ more) planned at) → (rest : List ArcAct) → DifferAt ((acts ++ more) ++ rest) planned at
differ_still planned acts more at differ rest = subst (λ (l : List ArcAct). DifferAt l planned at) (sym (append_assoc acts more rest)) (differ (more ++ rest))

pub differ_here : (planned acts : List ArcAct) (at : ℕ) → ((more : List ArcAct) → DifferAt (acts ++ more) planned at) → DifferAt acts planned at
differ_here planned acts at differ = subst (λ (l : List ArcAct). DifferAt l planned at) (append-nil acts) (differ [])

pub found_differs : (planned left acts : List ArcAct) (first : Option ℕ) → is_some first ≡ true → AreBeside planned left first acts → IsDifference planned first acts
found_differs planned left acts None is beside = absurd (let f : ⊥ = cc in f)
found_differs planned left acts (Some at) is beside = differ_here planned acts at beside

pub no_first : (first : Option ℕ) → is_some first ≡ false → first ≡ None
no_first None none = refl
no_first (Some at) none = absurd (let f : ⊥ = cc in f)

-- more is planned
pub planned_more : (planned left acts more : List ArcAct) (first : Option ℕ) (at : ℕ) (act : Option ArcAct) → is_some act ≡ true → IfSome act (λ act. left ≡ act ∷ more) → first ≡ None
    → AreBeside planned left first acts → at ≡ length acts + 1 → DifferAt acts planned at
planned_more planned left acts more first at None some is none beside number = absurd (let f : ⊥ = cc in f)
planned_more planned left acts more first at (Some act) some is none beside number = record {
  same = acts;
  left = [];
  right = left;
  first = sym (append-nil acts);
  second = rw none at beside;
  differ = rw is tt;
  number = number;
}

-- another act is first
pub heads_other : (x y : ArcAct) (same : Bool) (left more : List ArcAct) → (IsTrue same ↔ (x ≡ y)) → left ≡ y ∷ more → same ≡ false → (xs : List ArcAct) → HeadsDiffer (x ∷ xs) left
heads_other x y same left more iff is other xs = rw is (λ e. let f : IsTrue false = subst IsTrue other (iff.1 e) in let g : ⊥ = cc in g)

-- a comparison stays as it is where acts differ, and else goes on with more
pub compared_still : (begun now : Comparison) (before more : List ArcAct) (at : ℕ) → now.first ≡ Some at → AreCompared begun now before → AreCompared begun now (before ++ more)
compared_still begun now before more at found compared = record {
  same = compared.same;
  still = compared.still;
  beside = subst (λ f. AreBeside (acts_on begun.machine.now begun.records.now) (left_of now.left) f (before ++ more)) (sym found) (differ_still (acts_on begun.machine.now begun.records.now) before more at (rw found at compared.beside));
  next = λ none. absurd (let e = sym found ∙ none in cc);
}

pub compared_on : (begun now behind : Comparison) (before more : List ArcAct) → now.first ≡ None → behind.records.now ≡ now.records.now → behind.machine.now ≡ now.machine.now
    → ((planned before : List ArcAct) → planned ≡ before ++ left_of now.left → now.next ≡ length before + 1 → AreBeside planned (left_of behind.left) behind.first (before ++ more))
    → (behind.first ≡ None → behind.next ≡ now.next + length more) → AreCompared begun now before → AreCompared begun behind (before ++ more)
compared_on begun now behind before more none records machine beside next compared = record {
  same = records ∙ compared.same;
  still = machine ∙ compared.still;
  beside = beside (acts_on begun.machine.now begun.records.now) before (rw none at compared.beside) (compared.next none);
  next = λ still. omega (arith, next still, compared.next none, length-append before more);
}

-- A path in a box that lies far from each part.
use Rattle.std.proofs.Common.{◌≡◌, inl, inr, ℕ, ◌+◌, ◌<◌, arith, List, [], ◌∷◌, length, get_or, take, ℤ, ◌≤ℤ◌}
use Rattle.std.specs.List.{AllByRecursion}
use Rattle.std.specs.Int.{int_min, int_max}
use Rattle.std.proofs.lemmas.Int.{ints, clamps}
use Rattle.apt_plane.specs.declared.figures.Pt.{Pt}
use Rattle.apt_plane.specs.Ranges.{IsPoint}
use Rattle.apt_outline.specs.declared.parts.Part.{Part}
use Rattle.apt_outline.specs.Boxes.{AreOff, AreBoxesOff, IsIn, IsBoxOf, IsJoined}
use Rattle.apt_outline.specs.Guards.{segment, IsClearOfAll, IsClearPath}
use Rattle.apt_outline.proofs.Firsts.{any_default, all_more}
use Rattle.apt_outline.proofs.Beside.{least_small, greatest_small}

axis_within : (r l h p q a b : ℤ) → AreOff r l h p q → l ≤ℤ a → a ≤ℤ h → l ≤ℤ b → b ≤ℤ h → AreOff r a b p q
axis_within r l h p q a b (inl is) la ah lb bh = inl (record {
  first_first = omega (arith, ints, is.first_first, la);
  first_second = omega (arith, ints, is.first_second, la);
  second_first = omega (arith, ints, is.first_first, lb);
  second_second = omega (arith, ints, is.first_second, lb);
})
axis_within r l h p q a b (inr is) la ah lb bh = inr (record {
  first_first = omega (arith, ints, is.first_second, ah);
  first_second = omega (arith, ints, is.first_second, bh);
  second_first = omega (arith, ints, is.second_second, ah);
  second_second = omega (arith, ints, is.second_second, bh);
})

-- what is off a box is off each segment in it
pub boxes_within : (r : ℤ) (low high a b p q : Pt) → AreBoxesOff r low high p q → IsIn low high a → IsIn low high b → AreBoxesOff r a b p q
boxes_within r low high a b p q (inl x) ia ib = inl (axis_within r low.x high.x p.x q.x a.x b.x x ia.left ia.right ib.left ib.right)
boxes_within r low high a b p q (inr y) ia ib = inr (axis_within r low.y high.y p.y q.y a.y b.y y ia.below ia.above ib.below ib.above)

all_also : {T : Type 0} (P Q : T → Type 0) (xs : List T) → ((x : T) → P x → Q x) → AllByRecursion P xs → AllByRecursion Q xs
all_also P Q [] also all = tt
all_also P Q (x ∷ xs) also all = (also x all.0, all_also P Q xs also all.1)

pub more : {T : Type 0} (P : T → Type 0) (xs : List T) (i : ℕ) (d : T) → i < length xs → AllByRecursion P (take i xs) → P (get_or xs i d) → AllByRecursion P (take (i + 1) xs)
more P xs i d h all one = all_more P xs i (get_or xs i d) h (any_default xs i d (get_or xs i d) h) all one

pub box_first : (a : Pt) → IsPoint a → IsBoxOf a a (a ∷ [])
box_first a is = record {
  least = is;
  greatest = is;
  every = (record { left = omega (arith, ints); right = omega (arith, ints); below = omega (arith, ints); above = omega (arith, ints) }, tt);
}

pub box_more : (low high least greatest start d : Pt) (rest : List Pt) (i : ℕ) → i < length rest → IsBoxOf low high (start ∷ take i rest) → IsJoined low high (get_or rest i d) least greatest
    → IsBoxOf least greatest (start ∷ take (i + 1) rest)
box_more low high least greatest start d rest i h box joined =
    let all = all_also (IsIn low high) (IsIn least greatest) (start ∷ take i rest) joined.others box.every in record {
      least = joined.least;
      greatest = joined.greatest;
      every = (all.0, more (IsIn least greatest) rest i d h all.1 joined.point);
    }

pub joined : (low high q least greatest : Pt) → IsPoint low → IsPoint high → IsPoint q → least.x ≡ int_min low.x q.x → least.y ≡ int_min low.y q.y → greatest.x ≡ int_max high.x q.x → greatest.y ≡ int_max high.y q.y
    → IsJoined low high q least greatest
joined low high q least greatest l h p lx ly gx gy = record {
  least = record { x = least_small low.x q.x least.x 50000000 lx l.x p.x; y = least_small low.y q.y least.y 50000000 ly l.y p.y };
  greatest = record { x = greatest_small high.x q.x greatest.x 50000000 gx h.x p.x; y = greatest_small high.y q.y greatest.y 50000000 gy h.y p.y };
  point = record { left = omega (arith, ints, clamps, lx); right = omega (arith, ints, clamps, gx); below = omega (arith, ints, clamps, ly); above = omega (arith, ints, clamps, gy) };
  others = λ a is. record {
    left = omega (arith, ints, clamps, lx, is.left);
    right = omega (arith, ints, clamps, gx, is.right);
    below = omega (arith, ints, clamps, ly, is.below);
    above = omega (arith, ints, clamps, gy, is.above);
  };
}

pub path_within : (rho : ℤ) (parts : List Part) (low high : Pt) (points : List Pt) → AllByRecursion (IsIn low high) points
    → ((a b : Pt) → IsIn low high a → IsIn low high b → IsClearOfAll rho parts (segment a b)) → IsClearPath rho parts points
path_within rho parts low high [] all clear = tt
path_within rho parts low high (a ∷ []) all clear = tt
path_within rho parts low high (a ∷ b ∷ more) all clear = (clear a b all.0 all.1.0, path_within rho parts low high (b ∷ more) all.1 clear)

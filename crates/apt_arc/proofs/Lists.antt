-- The lists of cuts: a piece has one list alone, and the code's is it.
use Rattle.std.proofs.Common.{refl, ◌≡◌, inl, inr, ℕ, zero, suc, ◌+◌, ◌-◌, ◌≤◌, ◌<◌, ◌∙◌, sym, subst, arith, true, false, true≢false, List, [], ◌∷◌, ◌++◌, ℤ}
use Rattle.std.proofs.lemmas.Bool.{cases_Bool}
use Rattle.apt_num.proofs.RootLaws.{less_one}
use Rattle.apt_plane.specs.declared.figures.Pt.{Pt}
use Rattle.apt_plane.specs.declared.figures.Circ.{Circ}
use Rattle.apt_arc.specs.Cuts.{IsClear, middle, IsCut, AreCuts}
use Rattle.apt_arc.specs.Made.{is_clear, pieces, chain}
use Rattle.apt_arc.proofs.Clear.{clear_tells}

-- ---- a piece that is clear, and one that is halved

pub pieces_none : (n : ℕ) (track : Circ) (sag : ℤ) (a b : Pt) → n ≡ 0 → pieces n track sag a b ≡ b ∷ []
unfolding pieces
pieces_none zero track sag a b e = refl
pieces_none (suc n) track sag a b e = absurd (omega (arith, e))

pub pieces_clear : (n : ℕ) (track : Circ) (sag : ℤ) (a b : Pt) → is_clear track sag a b ≡ true → pieces n track sag a b ≡ b ∷ []
unfolding pieces
pieces_clear zero track sag a b e = refl
pieces_clear (suc n) track sag a b e = rw e refl

pub pieces_cut : (n : ℕ) (track : Circ) (sag : ℤ) (a b : Pt) → is_clear track sag a b ≡ false
    → pieces (suc n) track sag a b ≡ pieces n track sag a (middle track a b) ++ pieces n track sag (middle track a b) b
unfolding pieces
pieces_cut n track sag a b e = rw e refl

pub pieces_halved : (n : ℕ) (track : Circ) (sag : ℤ) (a b : Pt) → 0 < n → is_clear track sag a b ≡ false
    → pieces n track sag a b ≡ pieces (n - 1) track sag a (middle track a b) ++ pieces (n - 1) track sag (middle track a b) b
pieces_halved zero track sag a b some e = absurd (omega (arith, some))
pieces_halved (suc n) track sag a b some e = rw (less_one n) (pieces_cut n track sag a b e)

-- ---- the cut of a piece is the code's list, so it is the only one
is_true : (track : Circ) (sag : ℤ) (a b : Pt) → IsClear track sag a b → is_clear track sag a b ≡ true
is_true track sag a b clear = (clear_tells track sag a b).1 clear

pub is_false : (track : Circ) (sag : ℤ) (a b : Pt) → ¬ IsClear track sag a b → is_clear track sag a b ≡ false
is_false track sag a b off = elim (cases_Bool (is_clear track sag a b)) [ inl e ↦ absurd (off ((clear_tells track sag a b).0 e)) | inr e ↦ e ]

pub not_clear : (track : Circ) (sag : ℤ) (a b : Pt) → is_clear track sag a b ≡ false → ¬ IsClear track sag a b
not_clear track sag a b e clear = true≢false (sym (is_true track sag a b clear) ∙ e)

pub both : (l k x y : List Pt) → l ≡ x → k ≡ y → l ++ k ≡ x ++ y
both l k x y e f = rw (e, f) refl

pub cut_is : (n : ℕ) (track : Circ) (sag : ℤ) (a b : Pt) (list : List Pt) → IsCut n track sag a b list → list ≡ pieces n track sag a b
cut_is zero track sag a b list is = is.1 ∙ sym (pieces_none 0 track sag a b refl)
cut_is (suc n) track sag a b list (inl is) = is.1 ∙ sym (pieces_clear (suc n) track sag a b (is_true track sag a b is.0))
cut_is (suc n) track sag a b list (inr is) =
    is.3 ∙ both is.1 is.2 _ _ (cut_is n track sag a (middle track a b) is.1 is.4) (cut_is n track sag (middle track a b) b is.2 is.5)
    ∙ sym (pieces_cut n track sag a b (is_false track sag a b is.0))

-- more halvings may be allowed than there are
pub cut_deeper : (n : ℕ) (track : Circ) (sag : ℤ) (a b : Pt) (list : List Pt) → IsCut n track sag a b list → IsCut (suc n) track sag a b list
cut_deeper zero track sag a b list is = inl is
cut_deeper (suc n) track sag a b list (inl is) = inl is
cut_deeper (suc n) track sag a b list (inr is) =
    inr (is.0, is.1, is.2, is.3, cut_deeper n track sag a (middle track a b) is.1 is.4, cut_deeper n track sag (middle track a b) b is.2 is.5)

same_depth : (n m : ℕ) (track : Circ) (sag : ℤ) (a b : Pt) (list : List Pt) → n ≡ m → IsCut n track sag a b list → IsCut m track sag a b list
same_depth n m track sag a b list e is = subst (λ k. IsCut k track sag a b list) e is

pub cut_from : (n m : ℕ) (track : Circ) (sag : ℤ) (a b : Pt) (list : List Pt) → IsCut n track sag a b list → IsCut (m + n) track sag a b list
cut_from n zero track sag a b list is = same_depth n (0 + n) track sag a b list (omega arith) is
cut_from n (suc m) track sag a b list is =
    same_depth (suc (m + n)) (suc m + n) track sag a b list (omega arith) (cut_deeper (m + n) track sag a b list (cut_from n m track sag a b list is))

-- a cut of whatever depth is the cut of each greater one
pub cut_at : (n m : ℕ) (track : Circ) (sag : ℤ) (a b : Pt) (list : List Pt) → n ≤ m → IsCut n track sag a b list → IsCut m track sag a b list
cut_at n m track sag a b list h is = same_depth (m - n + n) m track sag a b list (omega (arith, h)) (cut_from n (m - n) track sag a b list is)

-- ---- several pieces in turn
pub chain_none : (n : ℕ) (track : Circ) (sag : ℤ) (a : Pt) (qs : List Pt) → qs ≡ [] → chain n track sag a qs ≡ []
unfolding chain
chain_none n track sag a qs e = rw e refl

pub chain_more : (n : ℕ) (track : Circ) (sag : ℤ) (a q : Pt) (list qs : List Pt) → list ≡ q ∷ qs → chain n track sag a list ≡ pieces n track sag a q ++ chain n track sag q qs
unfolding chain
chain_more n track sag a q list qs e = rw e refl

pub cuts_are : (n : ℕ) (track : Circ) (sag : ℤ) (a : Pt) (qs list : List Pt) → AreCuts n track sag a qs list → list ≡ chain n track sag a qs
cuts_are n track sag a [] list is = is ∙ sym (chain_none n track sag a [] refl)
cuts_are n track sag a (q ∷ qs) list is =
    is.2 ∙ both is.0 is.1 _ _ (cut_is n track sag a q is.0 is.3) (cuts_are n track sag q qs is.1 is.4) ∙ sym (chain_more n track sag a q (q ∷ qs) qs refl)

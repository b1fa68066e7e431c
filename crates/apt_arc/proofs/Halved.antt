-- A piece that is not clear is halved, and what that makes of the list.
use Rattle.std.proofs.Common.{refl, ◌≡◌, ℕ, zero, suc, ◌+◌, ◌-◌, ◌^◌, ◌≤◌, ◌<◌, ◌∙◌, ap, sym, subst, arith, false, List, [], ◌∷◌, ◌++◌, length, append_assoc, ℤ}
use Rattle.std.proofs.lemmas.List.{length-append}
use Rattle.std.proofs.Math.Nat.{two-pow-succ}
use Rattle.apt_num.proofs.RootLaws.{less_one}
use Rattle.apt_plane.specs.declared.figures.Pt.{Pt}
use Rattle.apt_plane.specs.declared.figures.Circ.{Circ}
use Rattle.apt_plane.specs.declared.figures.Dir.{Dir}
use Rattle.apt_plane.specs.Vectors.{displacement}
use Rattle.apt_canon.specs.Scale.{sum}
use Rattle.apt_canon.specs.Feet.{ray_point}
use Rattle.apt_arc.specs.declared.arc.Arc.{Arc}
use Rattle.apt_arc.specs.Ranges.{IsPiece, ArePieces}
use Rattle.apt_arc.specs.Cuts.{middle}
use Rattle.apt_arc.specs.Made.{is_clear, pieces, first_past, vertices, stations, divided, onward}
use Rattle.apt_arc.proofs.Lists.{pieces_halved, chain_more, chain_none}
use Rattle.apt_arc.specs.Halves.{IsHalved, IsNext}

pub is_halved : (n : ℕ) (t : Circ) (sag : ℤ) (a b : Pt) → 0 < n → is_clear t sag a b ≡ false → IsHalved n t sag a b
is_halved n t sag a b some off =
    let list = pieces_halved n t sag a b some off in
    let first = pieces (n - 1) t sag a (middle t a b) in
    let second = pieces (n - 1) t sag (middle t a b) b in
    record { some = some; not_clear = off; list = list; number = ap length list ∙ length-append first second }

pub one_long : (ps : List Pt) (b : Pt) → ps ≡ b ∷ [] → length ps ≡ 1
one_long ps b e = ap length e

pub both_on : (old mid new l k ps : List Pt) → mid ≡ old ++ l → new ≡ mid ++ k → ps ≡ l ++ k → new ≡ old ++ ps
both_on old mid new l k ps e f g = f ∙ ap (λ (xs : List Pt). xs ++ k) e ∙ append_assoc old l k ∙ ap (λ (xs : List Pt). old ++ xs) (sym g)

pub one_on : (old new ps : List Pt) (b : Pt) → new ≡ old ++ b ∷ [] → ps ≡ b ∷ [] → new ≡ old ++ ps
one_on old new ps b e f = e ∙ ap (λ (xs : List Pt). old ++ xs) (sym f)

pub power_half : (n x y : ℕ) → 0 < n → x ≤ 2 ^ (n - 1) → y ≤ 2 ^ (n - 1) → x + y ≤ 2 ^ n
power_half zero x y h p q = absurd (omega (arith, h))
power_half (suc n) x y h p q =
    let a = rw (less_one n) at p in
    let b = rw (less_one n) at q in
    rw (two-pow-succ n) (omega (arith, a, b))

pub middle_is : (t : Circ) (a b m : Pt) (x y : Dir) → x ≡ displacement t.c a → y ≡ displacement t.c b → m ≡ ray_point t (sum x y) → m ≡ middle t a b
middle_is t a b m x y e f h = h ∙ rw (e, f) refl

-- ---- from a point through the next
pub first_piece : (t : Circ) (sense : ℤ) (a q : Pt) (list qs : List Pt) → list ≡ q ∷ qs → ArePieces t sense a list → IsPiece t sense a q × ArePieces t sense q qs
first_piece t sense a q list qs e are = rw e at are

pub next_vertices : (left : ℕ) (arc : Arc) (from q : Pt) (u v : Dir) → IsNext left arc u q → v ≡ onward arc.sense u
    → vertices left arc from u ≡ pieces 24 arc.track arc.sag from q ++ vertices (left - 1) arc q v
unfolding vertices
next_vertices left arc from q u v next turn =
    chain_more 24 arc.track arc.sag from q (stations left arc u) (stations (left - 1) arc (onward arc.sense u)) next.list
    ∙ ap (λ (d : Dir). pieces 24 arc.track arc.sag from q ++ vertices (left - 1) arc q d) (sym turn)

pub next_length : (left : ℕ) (arc : Arc) (from q : Pt) (u v : Dir) → IsNext left arc u q → v ≡ onward arc.sense u
    → length (vertices left arc from u) ≡ length (pieces 24 arc.track arc.sag from q) + length (vertices (left - 1) arc q v)
next_length left arc from q u v next turn =
    ap length (next_vertices left arc from q u v next turn) ∙ length-append (pieces 24 arc.track arc.sag from q) (vertices (left - 1) arc q v)

pub next_pieces : (left : ℕ) (arc : Arc) (from q : Pt) (u v : Dir) → IsNext left arc u q → v ≡ onward arc.sense u → ArePieces arc.track arc.sense from (stations left arc u)
    → IsPiece arc.track arc.sense from q × ArePieces arc.track arc.sense q (stations (left - 1) arc v)
next_pieces left arc from q u v next turn are =
    let both = first_piece arc.track arc.sense from q (stations left arc u) (stations (left - 1) arc (onward arc.sense u)) next.list are in
    (both.0, subst (λ (d : Dir). ArePieces arc.track arc.sense q (stations (left - 1) arc d)) (sym turn) both.1)

-- ---- to the end
nothing_on : (xs : List Pt) → xs ++ [] ≡ xs
nothing_on [] = refl
nothing_on (x ∷ xs) = ap (λ (ys : List Pt). x ∷ ys) (nothing_on xs)

pub last_vertices : (left : ℕ) (arc : Arc) (from : Pt) (u : Dir) → stations left arc u ≡ arc.end ∷ [] → vertices left arc from u ≡ pieces 24 arc.track arc.sag from arc.end
unfolding vertices
last_vertices left arc from u e =
    chain_more 24 arc.track arc.sag from arc.end (stations left arc u) [] e ∙ ap (λ (xs : List Pt). pieces 24 arc.track arc.sag from arc.end ++ xs) (chain_none 24 arc.track arc.sag arc.end [] refl)
    ∙ nothing_on (pieces 24 arc.track arc.sag from arc.end)

pub last_length : (left : ℕ) (arc : Arc) (from : Pt) (u : Dir) → stations left arc u ≡ arc.end ∷ [] → length (vertices left arc from u) ≡ length (pieces 24 arc.track arc.sag from arc.end)
last_length left arc from u e = ap length (last_vertices left arc from u e)

pub end_piece : (left : ℕ) (arc : Arc) (from : Pt) (u : Dir) → stations left arc u ≡ arc.end ∷ [] → ArePieces arc.track arc.sense from (stations left arc u) → IsPiece arc.track arc.sense from arc.end
end_piece left arc from u e are = (first_piece arc.track arc.sense from arc.end (stations left arc u) [] e are).0

-- ---- of the whole arc
pub whole_is : (arc : Arc) (u : Dir) → u ≡ first_past 3 arc.track arc.sense arc.start arc.axis → divided arc ≡ vertices 4 arc arc.start u
unfolding divided
whole_is arc u turn = ap (λ (d : Dir). vertices 4 arc arc.start d) (sym turn)

pub whole_length : (arc : Arc) (u : Dir) (n : ℕ) → u ≡ first_past 3 arc.track arc.sense arc.start arc.axis → n ≡ length (vertices 4 arc arc.start u) → n ≡ length (divided arc)
whole_length arc u n turn e = e ∙ sym (ap length (whole_is arc u turn))

-- ---- counted, and appended
pub counted : (x y l k n : ℕ) → x ≡ l → y ≡ k → n ≡ l + k → x + y ≡ n
counted x y l k n e f g = omega (arith, e, f, g)

pub last_on : (old new ps qs : List Pt) → new ≡ old ++ ps → qs ≡ ps → new ≡ old ++ qs
last_on old new ps qs e f = e ∙ ap (λ (xs : List Pt). old ++ xs) (sym f)

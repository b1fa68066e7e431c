-- The spot of a segment's test.
use Rattle.std.proofs.Common.{refl, sym, ◌≡◌, ◌↔◌, true≢false, Option, Some, None, Result, Ok, Err, IsOk, IfErr, MatchResult, IfSome}
use Rattle.std.specs.Option.{IsNone}
use Rattle.apt_plane.specs.declared.figures.Spot.{Spot}

pub is_none : {T : Type 0} (w : Result T Spot) (r : Option Spot) (E : Type 0) → MatchResult w (λ u. r ≡ None) (λ s. r ≡ Some s) → IsOk w ↔ E → IsNone r ↔ E
is_none (Ok u) r E e tells = rw e (λ is. tells.0 refl, λ every. refl)
is_none (Err s) r E e tells = rw e (λ is. absurd (true≢false is), λ every. absurd (true≢false (sym (tells.1 every))))

pub is_first : {T : Type 0} (w : Result T Spot) (r : Option Spot) (F : Spot → Type 0) → MatchResult w (λ u. r ≡ None) (λ s. r ≡ Some s) → IfErr w F → IfSome r F
is_first (Ok u) r F e first = rw e tt
is_first (Err s) r F e first = rw e first

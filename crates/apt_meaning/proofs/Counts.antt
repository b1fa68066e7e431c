-- A contour by its count of meetings: what holds for each number of legs.
use Rattle.std.specs.Prelude.{Option, Some, None, IfSome}
use Rattle.std.proofs.Common.{List}
use Rattle.std.proofs.lemmas.Bool.{true≢false}
use Rattle.apt_words.specs.Options.{◌>>=◌}
use Rattle.apt_words.specs.Rows.{Row, NoneHolds}
use Rattle.apt_stop.specs.declared.legs.Legs.{Legs}
use Rattle.apt_meaning.specs.declared.effect.Effect.{Effect}
use Rattle.apt_meaning.specs.Refusals.{counted_cases}

-- what is asked, where something is
pub if_counted : (o : Option Legs) (f : Legs → Option Effect) (P : Effect → Type 0) → ((n : Legs) → IfSome (f n) P) → IfSome (o >>= f) P
if_counted None f P each = tt
if_counted (Some n) f P each = each n

-- what is asked where no case refuses it: a count that is none is refused
pub unless_counted : (o : Option Legs) (f : Legs → Option Effect) (more : Legs → List Row) (P : Option Effect → Type 0)
    → ((n : Legs) → NoneHolds (more n) → P (f n)) → NoneHolds (counted_cases o more) → P (o >>= f)
unless_counted None f more P each none = absurd (true≢false none.0)
unless_counted (Some n) f more P each none = each n none

-- One reading after another: none where one of them is none.
use Rattle.std.specs.Prelude.{Bool, Option, Some, None, if◌then◌else◌}

infixl 10 ◌>>=◌
abbrev pub ◌>>=◌ : {A B : Type 0} → Option A → (A → Option B) → Option B
(Some x) >>= f = f x
None >>= f = None

abbrev pub only_if : {A : Type 0} → Bool → A → Option A
only_if b x = if b then Some x else None

-- Lists that are read from the front.
use Rattle.std.specs.Prelude.{List, ◌++◌, Option, Some, None}

abbrev pub with_front : {A : Type 0} → List A → Option (List A) → Option (List A)
with_front front None = None
with_front front (Some rest) = Some (front ++ rest)

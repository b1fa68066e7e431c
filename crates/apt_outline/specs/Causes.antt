-- The names of the causes for which an outline is refused, as they are printed.
use Rattle.std.specs.Prelude.{ℕ, List, codes}
use Rattle.apt_outline.specs.declared.cause.OutlineCause.{OutlineCause}
use Rattle.apt_outline.specs.declared.cause.OutlineCause.TheVariants as causes

-- the word for a cause
abbrev pub name_of : OutlineCause → List ℕ
name_of causes.Byte = codes "Byte"
name_of causes.Header = codes "Header"
name_of causes.Word = codes "Word"
name_of causes.Undefined = codes "Undefined"
name_of causes.WrongKind = codes "WrongKind"
name_of causes.Degenerate = codes "Degenerate"
name_of causes.Empty = codes "Empty"

-- The names of the causes for which a part program is refused, as they are printed.
use Rattle.std.specs.Prelude.{ℕ, List, codes}
use Rattle.apt_lexis.specs.declared.cause.PartCause.{PartCause}
use Rattle.apt_lexis.specs.declared.cause.PartCause.TheVariants as causes

abbrev pub name_of : PartCause → List ℕ
name_of causes.BadByte = codes "BadByte"
name_of causes.LineTooLong = codes "LineTooLong"
name_of causes.TooManyLines = codes "TooManyLines"
name_of causes.BadWord = codes "BadWord"
name_of causes.BadNumber = codes "BadNumber"
name_of causes.BadShape = codes "BadShape"
name_of causes.NoPartno = codes "NoPartno"
name_of causes.NoFini = codes "NoFini"
name_of causes.LabelTwice = codes "LabelTwice"
name_of causes.LabelMissing = codes "LabelMissing"
name_of causes.MacroTwice = codes "MacroTwice"
name_of causes.MacroOpen = codes "MacroOpen"
name_of causes.LoopOpen = codes "LoopOpen"

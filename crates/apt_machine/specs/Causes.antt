-- The names of the causes for which a machine table is refused, as they are printed.
use Rattle.std.specs.Prelude.{ℕ, List, codes}
use Rattle.apt_machine.specs.declared.cause.MachineCause.{MachineCause}
use Rattle.apt_machine.specs.declared.cause.MachineCause.TheVariants as causes

abbrev pub name_of : MachineCause → List ℕ
name_of causes.Byte = codes "Byte"
name_of causes.Header = codes "Header"
name_of causes.Key = codes "Key"
name_of causes.Twice = codes "Twice"
name_of causes.Value = codes "Value"
name_of causes.Missing = codes "Missing"

-- The names of the causes for which a CL file is refused, as they are printed.
use Rattle.std.specs.Prelude.{ℕ, List, codes}
use Rattle.apt_cldata.specs.declared.error.ClCause.{ClCause}
use Rattle.apt_cldata.specs.declared.error.ClCause.TheVariants as causes

abbrev pub name_of : ClCause → List ℕ
name_of causes.Header = codes "Header"
name_of causes.Truncated = codes "Truncated"
name_of causes.Length = codes "Length"
name_of causes.Seq = codes "Seq"
name_of causes.Class = codes "Class"
name_of causes.Range = codes "Range"
name_of causes.AfterFini = codes "AfterFini"
name_of causes.Count = codes "Count"

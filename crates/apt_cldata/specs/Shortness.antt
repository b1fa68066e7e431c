-- That records are short is one fact, which a value may carry.
use Rattle.std.specs.Prelude.{List, [], ◌∷◌}
use Rattle.std.proofs.Props.{props}
use Rattle.apt_records.specs.declared.record.Record.{Record}
use Rattle.apt_records.specs.Lists.{AreShort}

pub short_prop : (rs : List Record) → IsProp (AreShort rs)
short_prop [] = Prim.hlevel props
short_prop (r ∷ rs) = Prim.hlevel (props, short_prop rs)

-- What is left of a file.
use Rattle.std.proofs.Common.{◌≡◌, ◌≢◌, ◌+◌, ◌==◌, ℕ, List, [], ◌∷◌, MatchBool, length, Bool, true, false, refl, ap, arith}
use Rattle.std.proofs.lemmas.Bool.Decides.{nat_tests}
use Rattle.apt_records.specs.declared.record.Record.{Record}
use Rattle.apt_cldata.specs.Files.{records_bytes}
use Rattle.apt_cldata.proofs.Laws.{some_bytes}

pub none_or_some : (seq : ℕ) (rs : List Record) (b : Bool) → b ≡ (length rs == 0) → MatchBool b (records_bytes seq rs ≡ []) (records_bytes seq rs ≢ [])
none_or_some seq [] true e = refl
none_or_some seq [] false e = absurd (cc)
none_or_some seq (r ∷ rs) true e = absurd (grind (arith, nat_tests, e))
none_or_some seq (r ∷ rs) false e = λ none. omega (arith, some_bytes seq r (records_bytes (seq + 1) rs), ap length none)

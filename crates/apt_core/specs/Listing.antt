-- What a CL file is listed to.
use Rattle.std.specs.Prelude.{ℕ, List, Result, Ok}
use Rattle.apt_words.specs.Chains.{◌>>=◌}
use Rattle.apt_records.specs.declared.record.Record.{Record}
use Rattle.apt_report.specs.declared.status.Status.{Status}
use Rattle.apt_report.specs.declared.status.Status.TheVariants as answers
use Rattle.apt_report.specs.declared.status.Summary.TheVariants as summaries
use Rattle.apt_report.specs.Listing.{listing, point_count}
use Rattle.apt_core.specs.Due.{records_due}
use Rattle.apt_core.specs.Decoding.{Said}

-- a line for each point, and how many there are
abbrev pub points_said : List Record → Said
points_said rs = record { answer = answers.Done (summaries.Listed (point_count rs)); text = listing rs }

-- for the bytes of a CL file
abbrev pub listed_due : List ℕ → Result Said Status
listed_due cl = records_due cl >>= λ rs. Ok (points_said rs)

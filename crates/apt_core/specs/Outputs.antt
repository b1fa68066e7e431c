-- What a part is compiled to.
use Rattle.std.specs.Prelude.{◌≡◌, ℕ, List, length, Result, Ok}
use Rattle.apt_words.specs.Chains.{◌>>=◌}
use Rattle.apt_records.specs.declared.record.Record.{Record}
use Rattle.apt_cldata.specs.Files.{file_of}
use Rattle.apt_machine.specs.declared.machine.Machine.{Machine}
use Rattle.apt_machine.specs.Tables.{table_of}
use Rattle.apt_post.specs.Plan.{segments}
use Rattle.apt_tape.specs.Tapes.{acts_on, tape_on}
use Rattle.apt_part.specs.Compilation.{Compiled, part_of}
use Rattle.apt_part.specs.Promise.{Promise}
use Rattle.apt_report.specs.declared.status.Status.{Status}
use Rattle.apt_report.specs.declared.status.Summary.{Summary}
use Rattle.apt_report.specs.declared.status.Summary.TheVariants as summaries
use Rattle.apt_core.specs.Due.{machine_due, part_due}
use Rattle.apt_core.specs.Certificates.{IsRight}

-- the bytes of the CL file and of the tape, and what is told of them
pub record Output : Type 0 where
  pub cl : List ℕ
  pub tape : List ℕ
  pub summary : Summary

-- the CL file has the records, the tape the acts that they ask for on the machine
abbrev pub output_of : Machine → List Record → Output
output_of machine records = record {
  cl = file_of records;
  tape = tape_on machine (acts_on machine records);
  summary = summaries.Compiled (length records) (length (acts_on machine records)) (segments records);
}

-- for the text of a part and that of a table, which is judged first
abbrev pub output_due : List ℕ → List ℕ → Result Output Status
output_due text table = machine_due table >>= λ machine. part_due machine text >>= λ p. Ok (output_of machine p.records)

-- the output of the part of a text for the machine of a table: the part keeps its promise, and the output is right for it
pub record IsOutput (text table : List ℕ) (o : Output) : Type 0 where
  pub machine : Machine
  pub tabled : table_of table ≡ Ok machine
  pub part : Compiled
  pub comes : part_of machine text ≡ Ok (Ok part)
  pub promise : Promise machine text part
  pub exact : o ≡ output_of machine part.records
  pub right : IsRight machine text o.cl o.tape

-- The files of a part are right for it.
use Rattle.std.proofs.Common.{◌≡◌, ◌+◌, ◌≤◌, ℕ, List, length, Ok, ap, ◌∙◌, refl, arith}
use Rattle.apt_words.specs.Chains.{◌>>=◌}
use Rattle.apt_records.specs.declared.record.Record.{Record}
use Rattle.apt_cldata.specs.Files.{file_of}
use Rattle.apt_records.specs.Ranges.{vertex_count}
use Rattle.apt_cldata.proofs.Laws.{file_again, file_long}
use Rattle.apt_machine.specs.declared.machine.Machine.{Machine}
use Rattle.apt_machine.specs.Tables.{table_of}
use Rattle.apt_tape.proofs.Plainly.{tape_runs_on}
use Rattle.apt_part.specs.Compilation.{Compiled, part_of}
use Rattle.apt_part.specs.Promise.{Promise, file_limit}
use Rattle.apt_core.specs.Due.{unless_refused, machine_due, part_due}
use Rattle.apt_core.specs.Outputs.{output_of, output_due, IsOutput}
use Rattle.apt_core.proofs.Chains.{chain_on}

pub output_is : (machine : Machine) (text table : List ℕ) (p : Compiled) → table_of table ≡ Ok machine → part_of machine text ≡ Ok (Ok p) → Promise machine text p
    → IsOutput text table (output_of machine p.records)
output_is machine text table p tabled comes promise = record {
  machine = machine;
  tabled = tabled;
  part = p;
  comes = comes;
  promise = promise;
  exact = refl;
  right = record {
    steps = p.steps;
    passes = promise.passes;
    records = p.records;
    read = file_again p.records promise.file;
    follow = promise.follow;
    legal = promise.legal;
    acts = tape_runs_on machine p.records promise.writable;
    arcs = promise.arcs;
    holes = promise.holes;
  };
}

-- each record, and each vertex, has its bytes in the file
pub few_records : (rs : List Record) → length (file_of rs) ≤ file_limit → vertex_count rs + length rs ≤ 67108864
few_records rs fits = omega (arith, file_long rs, fits)

-- the output is due
pub due_for : (machine : Machine) (text table : List ℕ) (p : Compiled) → table_of table ≡ Ok machine → part_of machine text ≡ Ok (Ok p) → output_due text table ≡ Ok (output_of machine p.records)
due_for machine text table p tabled comes =
    chain_on (machine_due table) machine (λ m. part_due m text >>= λ q. Ok (output_of m q.records)) (rw tabled refl)
    ∙ chain_on (part_due machine text) p (λ q. Ok (output_of machine q.records)) (ap unless_refused comes)

-- The part of `demo` is read, and none of its steps is refused.
use Rattle.std.proofs.Common.{ℕ, ◌≤◌}
use Rattle.apt_demo.specs.Demo.{demo_part}
use Rattle.apt_demo.specs.Promise.{demo_machine, HasRecords}
use Rattle.apt_demo.proofs.Deeds.{demo_steps}
use Rattle.apt_demo.proofs.Whole.{compiles}
use Rattle.apt_demo.proofs.Programs.{reads}
use Rattle.apt_demo.proofs.Limits.{within}
use Rattle.apt_demo.proofs.Undrilled.{undrilled}

pub has_records : (n : ℕ) → 1 ≤ n → n ≤ 800 → HasRecords demo_machine (demo_part n)
has_records n low high =
    let read = reads n low high in
    let due = compiles n high in
    record { statements = read.0; read = read.1; steps = demo_steps n; traced = read.2; undrilled = undrilled n; within = within n; records = due.0; compiled = due.1 }

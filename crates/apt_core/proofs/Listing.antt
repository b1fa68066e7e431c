-- From the parts of the work to what `list` says.
use Rattle.std.proofs.Common.{◌≡◌, inl, inr, ℕ, List, [], ◌∷◌, Ok, ap, sym, ◌∙◌, refl}
use Rattle.apt_records.specs.declared.record.Record.{Record}
use Rattle.apt_cldata.specs.Reading.{read_of}
use Rattle.apt_report.specs.declared.status.Status.{Status}
use Rattle.apt_core.specs.Due.{ComesToNone, records_due}
use Rattle.apt_core.specs.Inputs.{Files, AreRead, list_inputs, ReadsAll, IsStopped}
use Rattle.apt_core.specs.Decoding.{Said, lined, said_of, IsSaid}
use Rattle.apt_core.specs.Listing.{points_said, listed_due}
use Rattle.apt_core.specs.Promise.{Lists}
use Rattle.apt_core.proofs.Chains.{chain_on, none_first}
use Rattle.apt_core.proofs.Decoding.{none_said}

pub bad_cl_said : (cl : List ℕ) (answer : Status) → ComesToNone (records_due cl) answer → IsSaid (said_of (listed_due cl)) (lined answer)
bad_cl_said cl answer none = none_said (listed_due cl) answer (none_first (records_due cl) (λ rs. Ok (points_said rs)) answer none)

pub points_for : (cl : List ℕ) (rs : List Record) → read_of cl ≡ Ok rs → listed_due cl ≡ Ok (points_said rs)
points_for cl rs read = chain_on (records_due cl) rs (λ rs. Ok (points_said rs)) (rw read refl)

-- ---- the work

pub stopped_lists : (name : List ℕ) (before after : Files) (answer : Status) → AreRead before after → IsStopped (list_inputs name) before after answer → Lists name before after (lined answer)
stopped_lists name before after answer read stopped = record { comes = inl (stopped, refl); read = read }

-- it is read
pub said_lists : (name cl : List ℕ) (before after : Files) (said : Said) → AreRead before after → ReadsAll before.told (list_inputs name) (cl ∷ [])
    → IsSaid (said_of (listed_due cl)) said → Lists name before after said
said_lists name cl before after said read reads (inl due) = record { comes = inr (record { cl = cl; reads = reads; due = due }); read = read }
said_lists name cl before after said read reads (inr short) =
    record { comes = inl (inr (inr (ap (λ (s : Said). s.answer) short)), short ∙ sym (ap (λ (s : Said). lined s.answer) short)); read = read }

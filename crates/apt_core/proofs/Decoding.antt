-- From the parts of the work to what a decode says.
use Rattle.std.proofs.Common.{◌≡◌, inl, inr, ℕ, List, [], ◌∷◌, Result, Ok, Err, ap, sym, ◌∙◌, refl, subst}
use Rattle.apt_words.specs.Chains.{◌>>=◌}
use Rattle.apt_circular.specs.declared.ArcAct.{ArcAct}
use Rattle.apt_tape.specs.Tapes.{run_on}
use Rattle.apt_machine.specs.declared.machine.Machine.{Machine}
use Rattle.apt_machine.specs.Tables.{table_of}
use Rattle.apt_report.specs.declared.status.Status.{Status}
use Rattle.apt_core.specs.Words.{TapeNames}
use Rattle.apt_core.specs.Due.{ComesToNone, machine_due, acts_due}
use Rattle.apt_core.specs.Inputs.{Files, AreRead, tape_inputs, ReadsAll, IsStopped}
use Rattle.apt_core.specs.Decoding.{Said, lined, said_of, acts_said, said_due, IsSaid}
use Rattle.apt_core.specs.Promise.{Decodes}
use Rattle.apt_core.proofs.Chains.{chain_on, none_first}

-- ---- what is said

abbrev behind_table : List ℕ → Machine → Result Said Status
behind_table tape machine = acts_due machine tape >>= λ acts. Ok (acts_said acts)

pub none_said : (due : Result Said Status) (answer : Status) → ComesToNone due answer → IsSaid (said_of due) (lined answer)
none_said due answer (inl e) = inl (sym (ap said_of e))
none_said due answer (inr short) = inr (ap lined short)

pub bad_table_said : (table tape : List ℕ) (answer : Status) → machine_due table ≡ Err answer → IsSaid (said_of (said_due table tape)) (lined answer)
bad_table_said table tape answer e = none_said (said_due table tape) answer (none_first (machine_due table) (behind_table tape) answer (inl e))

on_table : (table tape : List ℕ) (machine : Machine) → table_of table ≡ Ok machine → said_due table tape ≡ behind_table tape machine
on_table table tape machine tabled = chain_on (machine_due table) machine (behind_table tape) (rw tabled refl)

pub bad_tape_said : (table tape : List ℕ) (machine : Machine) (answer : Status) → table_of table ≡ Ok machine → ComesToNone (acts_due machine tape) answer
    → IsSaid (said_of (said_due table tape)) (lined answer)
bad_tape_said table tape machine answer tabled none =
    none_said (said_due table tape) answer (subst (λ due. ComesToNone due answer) (sym (on_table table tape machine tabled))
    (none_first (acts_due machine tape) (λ acts. Ok (acts_said acts)) answer none))

pub said_for : (table tape : List ℕ) (machine : Machine) (acts : List ArcAct) → table_of table ≡ Ok machine → run_on machine tape ≡ Ok acts → said_due table tape ≡ Ok (acts_said acts)
said_for table tape machine acts tabled run =
    on_table table tape machine tabled ∙ chain_on (acts_due machine tape) acts (λ acts. Ok (acts_said acts)) (rw run refl)

-- ---- the work

pub stopped_decodes : (n : TapeNames) (before after : Files) (answer : Status) → AreRead before after → IsStopped (tape_inputs n) before after answer → Decodes n before after (lined answer)
stopped_decodes n before after answer read stopped = record { comes = inl (stopped, refl); read = read }

-- both are read
pub said_decodes : (n : TapeNames) (table tape : List ℕ) (before after : Files) (said : Said) → AreRead before after → ReadsAll before.told (tape_inputs n) (table ∷ tape ∷ [])
    → IsSaid (said_of (said_due table tape)) said → Decodes n before after said
said_decodes n table tape before after said read reads (inl due) = record { comes = inr (record { table = table; tape = tape; reads = reads; due = due }); read = read }
said_decodes n table tape before after said read reads (inr short) =
    record { comes = inl (inr (inr (ap (λ (s : Said). s.answer) short)), short ∙ sym (ap (λ (s : Said). lined s.answer) short)); read = read }

-- From the parts of the work to what `demo` shows.
use Rattle.std.proofs.Common.{◌≡◌, inl, inr, ℕ, ◌≤◌, ◌<◌, List, [], ◌∷◌, length, Option, Some, Result, Ok, Err, Vec, String, string_bytes, ap, sym, ◌∙◌, refl, subst, arith}
use Rattle.std.specs.Prelude.{◌≢◌, codes, IfOk, IsOkAnd}
use Rattle.std.specs.FinMap.{get, insert}
use Rattle.apt_shelf.specs.Told.{Contents, Rose}
use Rattle.apt_shelf.specs.Entries.{entries, contents, name_at, IsFirstIndex}
use Rattle.apt_shelf.proofs.EntriesLaws.{get_other, held_at_index}
use Rattle.apt_machine.specs.declared.machine.Machine.{Machine}
use Rattle.apt_machine.specs.Tables.{table_of}
use Rattle.apt_part.specs.Promise.{file_limit}
use Rattle.apt_report.specs.declared.status.Status.{Status}
use Rattle.apt_report.specs.declared.status.Status.TheVariants as answers
use Rattle.apt_report.specs.declared.status.Summary.{Summary}
use Rattle.apt_demo.specs.Demo.{demo_part}
use Rattle.apt_demo.specs.Promise.{demo_machine, HasRecords}
use Rattle.apt_core.specs.Words.{FourNames, names_of}
use Rattle.apt_core.specs.Due.{OrNoMemory}
use Rattle.apt_core.specs.Inputs.{Files, part_limit, part_inputs, inputs, ReadsAll}
use Rattle.apt_core.specs.Outputs.{Output, output_of, IsOutput}
use Rattle.apt_core.specs.Delivery.{with_output}
use Rattle.apt_core.specs.Certificates.{IsDone}
use Rattle.apt_core.specs.Demo.{demo_table, demo_due, shown_for, IsDemo, HoldsDemo}
use Rattle.apt_core.specs.Promise.{IsCompiled, Compiles, Certifies}
use Rattle.apt_core.proofs.Apart.{differs}
use Rattle.apt_core.proofs.Unfailed.{AreUnfailed, FaultOrWritten, compiles_whole, certifies_right}
use Rattle.apt_core.proofs.Usage.{TellsNoFault, output_never}
use Rattle.apt_core.proofs.Demonstrating.{demo_comes}

-- ---- the store

abbrev pub demo_names : FourNames
demo_names = names_of (codes "PART") (codes "MACHINE") (codes "CL") (codes "TAPE")

first_file : {A B : Type 0} (f g : String A × Vec ℕ B) → string_bytes f.0 ≡ codes "PART" → IsFirstIndex (entries (f ∷ g ∷ [])) (codes "PART") 0
first_file f g named = record { within = omega arith; here = ap Some named; before = λ j h. absurd (omega (arith, h)) }

second_file : {A B : Type 0} (f g : String A × Vec ℕ B) → string_bytes f.0 ≡ codes "PART" → string_bytes g.0 ≡ codes "MACHINE"
    → IsFirstIndex (entries (f ∷ g ∷ [])) (codes "MACHINE") 1
second_file f g part machine = record { within = omega arith; here = ap Some machine; before = not_first }
  where
    not_first : (j : ℕ) → j < 1 → name_at (entries (f ∷ g ∷ [])) j ≢ Some (codes "MACHINE")
    not_first j h e =
        let first : j ≡ 0 = omega (arith, h) in
        let other : Some (string_bytes f.0) ≡ Some (codes "MACHINE") = subst (λ (i : ℕ). name_at (entries (f ∷ g ∷ [])) i ≡ Some (codes "MACHINE")) first e in
        let same : codes "PART" ≡ codes "MACHINE" = (let here : string_bytes f.0 ≡ codes "MACHINE" = cc in sym part ∙ here) in
        differs (codes "PART") (codes "MACHINE") refl same

-- a store of the two files
pub two_files : {A B : Type 0} (n : ℕ) (f g : String A × Vec ℕ B) → string_bytes f.0 ≡ codes "PART" → string_bytes g.0 ≡ codes "MACHINE" → f.1.items ≡ demo_part n
    → g.1.items ≡ demo_table → HoldsDemo n (Some (contents (f ∷ g ∷ [])))
two_files n f g part machine text table = (
  held_at_index (f ∷ g ∷ []) 0 (codes "PART") (first_file f g part) ∙ ap Some text,
  held_at_index (f ∷ g ∷ []) 1 (codes "MACHINE") (second_file f g part machine) ∙ ap Some table,
)

-- what holds by itself holds of a store that is made
made_has : {S E : Type 0} (P : Type 0) (made : Result S E) → P → IfOk made (λ _. P)
made_has P (Ok store) has = has
made_has P (Err e) has = tt

-- its part has records
pub part_has : {S E : Type 0} (n : ℕ) (text : List ℕ) (made : Result S E) → text ≡ demo_part n → HasRecords demo_machine text → IfOk made (λ _. HasRecords demo_machine (demo_part n))
part_has n text made is has = made_has (HasRecords demo_machine (demo_part n)) made (subst (HasRecords demo_machine) is has)

-- what is told of a store holds for each that tells it
pub told_holds : {S E : Type 0} (told : S → Option Contents) (n : ℕ) (made : Result S E) (files : Contents) → IsOkAnd made (λ store. told store ≡ Some files) → HoldsDemo n (Some files)
    → IfOk made (λ store. HoldsDemo n (told store))
told_holds told n (Ok store) files is holds = subst (HoldsDemo n) (sym is) holds
told_holds told n (Err e) files is holds = tt

-- what it holds is read whole
demo_reads : (n : ℕ) (m : Contents) → HoldsDemo n (Some m) → length (demo_part n) ≤ part_limit → ReadsAll (Some m) (part_inputs demo_names) (demo_part n ∷ demo_table ∷ [])
demo_reads n m holds short = ((holds.0, short), ((holds.1, omega arith), tt))

-- the files of a shelf that never fails
abbrev pub sure_files : Contents → Option (List ℕ) → Files
sure_files m writing = record { told = Some m; writing = writing; read_faults = 0; write_faults = 0 }

never_rose : ¬ (Rose 0 0)
never_rose rose = omega (arith, rose)

sure_unfailed : (m after : Contents) (w x : Option (List ℕ)) → AreUnfailed (sure_files m w) (sure_files after x)
sure_unfailed m after w x = record { reading = never_rose; writing = never_rose }

-- ---- behind a compile

-- the outputs have names of their own
pub record HasOwnOutputs (n : FourNames) : Type 0 where
  pub part_cl : n.part ≢ n.cl
  pub part_tape : n.part ≢ n.tape
  pub machine_cl : n.machine ≢ n.cl
  pub machine_tape : n.machine ≢ n.tape

demo_outputs : HasOwnOutputs demo_names
demo_outputs = record {
  part_cl = differs (codes "PART") (codes "CL") refl;
  part_tape = differs (codes "PART") (codes "TAPE") refl;
  machine_cl = differs (codes "MACHINE") (codes "CL") refl;
  machine_tape = differs (codes "MACHINE") (codes "TAPE") refl;
}

-- another name holds what it held
other_holds : (n : FourNames) (m after : Contents) (o : Output) (name : List ℕ) → name ≢ n.cl → name ≢ n.tape → after ≡ with_output n.cl n.tape o m → get after name ≡ get m name
other_holds n m after o name cl tape written =
    ap (λ (c : Contents). get c name) written ∙ get_other (insert m n.cl o.cl) n.tape name o.tape tape ∙ get_other m n.cl name o.cl cl

-- both outputs are short enough to be read again
outputs_fit : (text table : List ℕ) (o : Output) → IsOutput text table o → (length o.cl ≤ file_limit) × (length o.tape ≤ file_limit)
outputs_fit text table o is =
    let fit : (r : Output) → r ≡ output_of is.machine is.part.records → (length r.cl ≤ file_limit) × (length r.tape ≤ file_limit) = λ r e. rw e (is.promise.file_fits, is.promise.tape_fits) in
    fit o is.exact

-- what `certify` reads is what `compile` read, and what it wrote
compiled_reads : (n : FourNames) (m after : Contents) (text table : List ℕ) (o : Output) → HasOwnOutputs n → ReadsAll (Some m) (part_inputs n) (text ∷ table ∷ [])
    → IsCompiled n text table o m after → ReadsAll (Some after) (inputs n) (text ∷ table ∷ o.cl ∷ o.tape ∷ [])
compiled_reads n m after text table o own reads is =
    let fit = outputs_fit text table o is.output in
    let part = other_holds n m after o n.part own.part_cl own.part_tape is.written ∙ reads.0.0 in
    let machine = other_holds n m after o n.machine own.machine_cl own.machine_tape is.written ∙ reads.1.0.0 in
    ((part, reads.0.1), ((machine, reads.1.0.1), ((is.cl_holds, fit.0), ((is.tape_holds, fit.1), tt))))

-- ---- what is shown

certified_shown : (n : ℕ) (machine : Machine) (o : Output) (told : Status) → demo_due n ≡ Ok o → table_of demo_table ≡ Ok machine
    → OrNoMemory (IsDone machine (demo_part n) o.cl o.tape told) told → OrNoMemory (IsDemo n (shown_for n told)) (shown_for n told)
certified_shown n machine o told due tabled (inl done) =
    inl (o, done.0, due, record { machine = machine; tabled = tabled; certified = done.2 }, ap (shown_for n) done.1)
certified_shown n machine o told due tabled (inr short) = inr (ap (shown_for n) short)

-- what is compiled is certified
compiled_shown : (n : ℕ) (m middle after : Contents) (w x : Option (List ℕ)) (o : Output) (told : Status) → demo_due n ≡ Ok o
    → ReadsAll (Some m) (part_inputs demo_names) (demo_part n ∷ demo_table ∷ []) → IsCompiled demo_names (demo_part n) demo_table o m middle
    → Certifies demo_names (sure_files middle w) (sure_files after x) told → OrNoMemory (IsDemo n (shown_for n told)) (shown_for n told)
compiled_shown n m middle after w x o told due reads is works =
    let out = is.output in
    certified_shown n out.machine o told due out.tabled
    (certifies_right out.machine demo_names middle (demo_part n) demo_table o.cl o.tape (sure_files middle w) (sure_files after x) told refl
    (compiled_reads demo_names m middle (demo_part n) demo_table o demo_outputs reads is) out.tabled out.right (sure_unfailed middle after w x) works)

done_tells_none : (s : Summary) → TellsNoFault (answers.Done s)
done_tells_none s = record { table = λ fault e. let f : ⊥ = cc in f; text = λ fault e. let f : ⊥ = cc in f; step = λ r e. let f : ⊥ = cc in f }

-- ---- the two works

-- the part has neither a fault nor a refused step
no_fault : (n : ℕ) (answer : Status) → HasRecords demo_machine (demo_part n) → demo_due n ≢ Err answer
no_fault n answer has fault = let due = sym fault ∙ (demo_comes n has).1 in let f : ⊥ = cc in f

-- where the compile is not done, memory ran out
pub fault_shown : (n : ℕ) (m middle : Contents) (w x : Option (List ℕ)) (told : Status) → HasRecords demo_machine (demo_part n) → HoldsDemo n (Some m) → length (demo_part n) ≤ part_limit
    → Compiles demo_names (sure_files m w) (sure_files middle x) told → ((s : Summary) → told ≢ answers.Done s) → OrNoMemory (IsDemo n told) told
fault_shown n m middle w x told has holds short works undone =
    told_fault (compiles_whole demo_names m (demo_part n) demo_table (sure_files m w) (sure_files middle x) told refl (demo_reads n m holds short) (sure_unfailed m middle w x) works)
  where
    told_fault : OrNoMemory (FaultOrWritten demo_names (demo_part n) demo_table (Some m) (Some middle) told) told → OrNoMemory (IsDemo n told) told
    told_fault (inl (inl fault)) = absurd (no_fault n told has fault)
    told_fault (inl (inr is)) = absurd (undone is.output.summary is.done)
    told_fault (inr lacks) = inr lacks

-- where it is done, the verdict is told
pub verdict_shown : (n : ℕ) (m middle after : Contents) (w x y : Option (List ℕ)) (s : Summary) (told : Status) → HoldsDemo n (Some m) → length (demo_part n) ≤ part_limit
    → Compiles demo_names (sure_files m w) (sure_files middle x) (answers.Done s) → Certifies demo_names (sure_files middle x) (sure_files after y) told
    → OrNoMemory (IsDemo n (shown_for n told)) (shown_for n told)
verdict_shown n m middle after w x y s told holds short compiles certifies =
    by_output (compiles_whole demo_names m (demo_part n) demo_table (sure_files m w) (sure_files middle x) (answers.Done s) refl reads (sure_unfailed m middle w x) compiles)
  where
    reads : ReadsAll (Some m) (part_inputs demo_names) (demo_part n ∷ demo_table ∷ [])
    reads = demo_reads n m holds short

    by_output : OrNoMemory (FaultOrWritten demo_names (demo_part n) demo_table (Some m) (Some middle) (answers.Done s)) (answers.Done s)
        → OrNoMemory (IsDemo n (shown_for n told)) (shown_for n told)
    by_output (inl (inl fault)) = absurd (output_never (answers.Done s) (demo_part n) demo_table (done_tells_none s) fault)
    by_output (inl (inr is)) = compiled_shown n m middle after x y is.output told is.due reads is.leaves certifies
    by_output (inr lacks) = absurd (let f : ⊥ = cc in f)

-- What a text comes to keeps the promise.
use Rattle.std.proofs.Common.{◌≡◌, ◌∙◌, ◌+◌, ◌≤◌, ℕ, false, arith, List, length, Option, Some, None, Result, Ok, Err, refl, sym, ap, subst}
use Rattle.std.specs.Prelude.{IfOk}
use Rattle.std.specs.Option.{option_or}
use Rattle.std.proofs.lemmas.Int.{ints}
use Rattle.apt_words.specs.declared.Refusal.{Refusal}
use Rattle.apt_words.specs.declared.body.Stmt.{Stmt}
use Rattle.apt_words.specs.declared.deed.Step.{Step}
use Rattle.apt_words.specs.Sources.{AreStmts, AreExecuted}
use Rattle.apt_words.proofs.Contours.{contours_few}
use Rattle.apt_words.specs.Contours.{contours}
use Rattle.apt_words.proofs.Titles.{HasTitle, title_lengths, titles_short}
use Rattle.apt_parse.proofs.AllSources.{program_of-stmts}
use Rattle.apt_parse.proofs.Titled.{program_of-titled}
use Rattle.apt_scalar.specs.StepScalars.{AreScalars}
use Rattle.apt_words.specs.Nesting.{AreNested}
use Rattle.apt_words.specs.ProgramEnds.{StepsEnd}
use Rattle.apt_parse.specs.Programs.{TextFault, program_of}
use Rattle.apt_parse.proofs.Nesting.{program_of-nested}
use Rattle.apt_unroll.specs.Trace.{Trace, IsTrace, trace_of}
use Rattle.apt_unroll.proofs.Going.{has_trace}
use Rattle.apt_unroll.proofs.Found.{trace_found, few_steps}
use Rattle.apt_unroll.proofs.Titles.{steps_titled}
use Rattle.apt_unroll.proofs.Steps.{are_scalars, are_executed, are_numbered, end_once}
use Rattle.apt_pattern.specs.Expansions.{nothing_drilled, expansion, Expands}
use Rattle.apt_pattern.proofs.Passing.{trace_replaced, replaced_is}
use Rattle.apt_pattern.proofs.Scaled.{plain_scalars}
use Rattle.apt_pattern.proofs.Kept.{are_executed as plain_executed}
use Rattle.apt_pattern.proofs.Ended.{plain_ends}
use Rattle.apt_pattern.proofs.Few.{few_plain}
use Rattle.apt_pattern.proofs.Contours.{contours_few as plain_contours}
use Rattle.apt_pattern.proofs.Titled.{plain_titles}
use Rattle.apt_pattern.specs.Holes.{AreDrilled}
use Rattle.apt_pattern.proofs.Drilled.{are_drilled}
use Rattle.apt_records.specs.declared.record.Record.{Record}
use Rattle.apt_records.specs.Ranges.{vertex_count}
use Rattle.apt_meaning.specs.Situations.{first_situation}
use Rattle.apt_meaning.specs.Compiled.{first_refused, compilation, most_points}
use Rattle.apt_meaning.specs.Records.{Follows}
use Rattle.apt_meaning.proofs.Asked.{CutsLegally}
use Rattle.apt_meaning.proofs.Walks.Kept.{first_situation-IsSituation}
use Rattle.apt_meaning.proofs.Walks.Compiled.{compiled_follows, compiled_passes}
use Rattle.apt_meaning.proofs.Walks.Ends.{ends_once}
use Rattle.apt_meaning.proofs.Walks.Files.{compiled_fit}
use Rattle.apt_meaning.proofs.InNumbers.{legal_in_numbers}
use Rattle.apt_meaning.proofs.Walks.Alone.{follows, legal_contours, own_contours}
use Rattle.apt_machine.specs.declared.machine.Machine.{Machine}
use Rattle.apt_machine.specs.Machines.{IsMachine}
use Rattle.apt_post.specs.Limits.{limits}
use Rattle.apt_post.specs.Plan.{nothing_pending}
use Rattle.apt_post.proofs.Reaching.{plan_reaches}
use Rattle.apt_post.proofs.Programs.{planned_program}
use Rattle.apt_circular.proofs.Fitting.{plan_fits}
use Rattle.apt_circular.specs.declared.ArcAct.TheVariants.{Plain}
use Rattle.apt_tape.specs.Tapes.{asked_on}
use Rattle.apt_part.proofs.Asking.{asks_plainly}
use Rattle.apt_sweeps.proofs.Going.{plan_can}
use Rattle.apt_sweeps.proofs.Machines.{arcs_belong}
use Rattle.apt_part.specs.Compilation.{expanded, earliest_of, refusal_by, unless_refused, steps_or_fault, steps_of, Compiled, earlier, unless_fault, records_by, with_steps, or_fault, part_of}
use Rattle.apt_part.specs.Promise.{Passes, Promise, AreSteps}
use Rattle.apt_part.proofs.Filed.{compiled_file, file_fits, tape_fits}
use Rattle.apt_part.proofs.Written.{compiled_written}

-- a fact of all programs of texts
of_text : (P : List Stmt → Type 0) (text : List ℕ) (statements : List Stmt) → program_of text ≡ Ok statements → IfOk (program_of text) P → P statements
of_text P text statements read all = subst (λ (q : Result (List Stmt) TextFault). IfOk q P) read all

-- ---- steps that pass

-- no step of a trace was refused
pub record WerePassed (machine : Machine) (u : Trace) : Type 0 where
  pub fault : u.fault ≡ None
  pub within : limits machine u.steps ≡ None
  pub fine : first_refused first_situation u.steps ≡ None

were_passed : (machine : Machine) (u : Trace) (fault past own : Option Refusal) → u.fault ≡ fault → limits machine u.steps ≡ past → first_refused first_situation u.steps ≡ own
    → option_or (earliest_of past own) fault ≡ None → WerePassed machine u
were_passed machine u None None None f p o h = record { fault = f; within = p; fine = o }
were_passed machine u (Some fault) None None f p o h = absurd cc
were_passed machine u fault (Some past) None f p o h = absurd cc
were_passed machine u fault past (Some own) f p o h = absurd cc

trace_is : (u : Trace) (steps : List Step) → steps ≡ u.steps → u.fault ≡ None → u ≡ record { steps = steps; fault = None }
trace_is u steps same none =
    let by_fault : u ≡ record { steps = u.steps; fault = None } = ap (λ (o : Option Refusal). record { steps = u.steps; fault = o }) none in
    by_fault ∙ ap (λ (ss : List Step). record { steps = ss; fault = None }) (sym same)

-- the trace of a text of which no step was refused
passing : (machine : Machine) (text : List ℕ) (statements : List Stmt) (steps : List Step) → program_of text ≡ Ok statements → steps ≡ (expanded statements).steps
    → WerePassed machine (expanded statements) → Passes machine text steps
passing machine text statements steps read same w =
    let t = trace_of statements in
    let all = trace_replaced t w.fault w.fine in record {
      statements = statements;
      read = read;
      traced = t.steps;
      unrolled = subst (IsTrace statements) (trace_is t t.steps refl all.none) (has_trace statements t (of_text (AreNested false) text statements read (program_of-nested text)) refl);
      behind = all.behind;
      expands = subst (λ (ss : List Step). Expands nothing_drilled t.steps ss all.behind) (sym same) all.expands;
      within = subst (λ (ss : List Step). limits machine ss ≡ None) (sym same) w.within;
      fine = subst (λ (ss : List Step). first_refused first_situation ss ≡ None) (sym same) w.fine;
    }

kept_steps : (steps now : List Step) (r : Option Refusal) → unless_refused steps r ≡ Ok now → (now ≡ steps) × (r ≡ None)
kept_steps steps now None h = (cc, refl)
kept_steps steps now (Some refusal) h = absurd cc

steps_read : (machine : Machine) (text : List ℕ) (r : Result (List Stmt) TextFault) (steps : List Step) → program_of text ≡ r → steps_or_fault machine r ≡ Ok (Ok steps) → Passes machine text steps
steps_read machine text (Ok statements) steps read h =
    let u = expanded statements in
    let kept = kept_steps u.steps steps (refusal_by machine u) cc in
    passing machine text statements steps read kept.0 (were_passed machine u u.fault (limits machine u.steps) (first_refused first_situation u.steps) refl refl refl kept.1)
steps_read machine text (Err fault) steps read h = absurd cc

pub steps_pass : (machine : Machine) (text : List ℕ) (steps : List Step) → steps_of machine text ≡ Ok (Ok steps) → Passes machine text steps
steps_pass machine text steps h = steps_read machine text (program_of text) steps refl h

-- and a text whose steps pass comes to them
pub passes_comes : (machine : Machine) (text : List ℕ) (steps : List Step) → Passes machine text steps → steps_of machine text ≡ Ok (Ok steps)
passes_comes machine text steps q =
    let trace = trace_found q.statements (record { steps = q.traced; fault = None }) q.unrolled in
    rw (q.read, sym trace, replaced_is nothing_drilled q.traced steps q.behind None q.expands, q.within, q.fine) refl

-- what holds of the plain steps of a trace holds of the steps that pass
of_plain : (P : List Step → Type 0) {machine : Machine} {text : List ℕ} {steps : List Step} (q : Passes machine text steps) → P (expansion q.traced None).steps → P steps
of_plain P {steps = steps} q holds = subst (λ (t : Trace). P t.steps) (replaced_is nothing_drilled q.traced steps q.behind None q.expands) holds

trace_sources : {machine : Machine} {text : List ℕ} {steps : List Step} (q : Passes machine text steps) → AreExecuted q.traced
trace_sources {text = text} q = are_executed q.statements (record { steps = q.traced; fault = None }) (of_text AreStmts text q.statements q.read (program_of-stmts text)) q.unrolled

-- records that follow steps that pass have the holes of all that drill
pub passes_drilled : {machine : Machine} {text : List ℕ} {steps : List Step} (q : Passes machine text steps) (written : List Record) → Follows steps written
    → AreDrilled (asked_on machine) Plain q.traced written
passes_drilled {machine = machine} {steps = steps} q written follow =
    let numbers = are_numbered q.statements (record { steps = q.traced; fault = None }) q.unrolled in
    are_drilled (asked_on machine) Plain q.traced steps q.behind written (asks_plainly machine) numbers q.expands follow

are_steps : (machine : Machine) (text : List ℕ) (steps : List Step) → Passes machine text steps → AreSteps steps
are_steps machine text steps q =
    let stmts = of_text AreStmts text q.statements q.read (program_of-stmts text) in
    let trace : Trace = record { steps = q.traced; fault = None } in record {
      scalars = of_plain AreScalars q (plain_scalars q.traced None (are_scalars q.statements trace stmts q.unrolled));
      sources = of_plain AreExecuted q (plain_executed nothing_drilled q.traced None (are_executed q.statements trace stmts q.unrolled));
    }

pub passing_steps : (machine : Machine) (text : List ℕ) (steps : List Step) → steps_of machine text ≡ Ok (Ok steps) → AreSteps steps
passing_steps machine text steps h = are_steps machine text steps (steps_pass machine text steps h)

-- ---- a part was not refused

pub record WereRead (machine : Machine) (text : List ℕ) (p : Compiled) : Type 0 where
  pub statements : List Stmt
  pub read : program_of text ≡ Ok statements
  pub steps : p.steps ≡ (expanded statements).steps
  pub recorded : records_by machine (expanded statements) ≡ Ok p.records

pub record WereWritten (machine : Machine) (u : Trace) (written : List Record) : Type 0 where
  pub fault : u.fault ≡ None
  pub within : limits machine u.steps ≡ None
  pub compiled : compilation first_situation u.steps ≡ Ok written

had_steps : (steps : List Step) (r : Result (List Record) Refusal) (p : Compiled) → with_steps steps r ≡ Ok p → (p.steps ≡ steps) × (r ≡ Ok p.records)
had_steps steps (Ok records) p h = (cc, cc)
had_steps steps (Err refusal) p h = absurd cc

were_read : (machine : Machine) (text : List ℕ) (r : Result (List Stmt) TextFault) (p : Compiled) → program_of text ≡ r → or_fault machine r ≡ Ok (Ok p) → WereRead machine text p
were_read machine text (Ok statements) p read h =
    let had = had_steps (expanded statements).steps (records_by machine (expanded statements)) p cc in
    record { statements = statements; read = read; steps = had.0; recorded = had.1 }
were_read machine text (Err fault) p read h = absurd cc

were_written : (machine : Machine) (u : Trace) (fault past : Option Refusal) (own : Result (List Record) Refusal) (written : List Record) → u.fault ≡ fault → limits machine u.steps ≡ past
    → compilation first_situation u.steps ≡ own → unless_fault fault (earlier past own) ≡ Ok written → WereWritten machine u written
were_written machine u None None (Ok records) written f p o h = record { fault = f; within = p; compiled = o ∙ h }
were_written machine u (Some fault) None (Ok records) written f p o h = absurd cc
were_written machine u fault (Some past) (Ok records) written f p o h = absurd cc
were_written machine u fault past (Err own) written f p o h = absurd cc

-- a text that comes to a part passes, and these are its records
record IsDone (machine : Machine) (text : List ℕ) (p : Compiled) : Type 0 where
  passes : Passes machine text p.steps
  compiled : compilation first_situation p.steps ≡ Ok p.records

is_done : (machine : Machine) (text : List ℕ) (p : Compiled) → part_of machine text ≡ Ok (Ok p) → IsDone machine text p
is_done machine text p h =
    let r = were_read machine text (program_of text) p refl h in
    let u = expanded r.statements in
    let w = were_written machine u u.fault (limits machine u.steps) (compilation first_situation u.steps) p.records refl refl refl r.recorded in record {
      passes = passing machine text r.statements p.steps r.read r.steps
          (record { fault = w.fault; within = w.within; fine = compiled_passes 0 first_situation u.steps p.records w.compiled });
      compiled = subst (λ (ss : List Step). compilation first_situation ss ≡ Ok p.records) (sym r.steps) w.compiled;
    }

-- ---- the promise

few_from_none : (n : ℕ) → 0 + n ≤ most_points → n ≤ most_points
few_from_none n h = omega (arith, h)

pub part_steps : (machine : Machine) (text : List ℕ) (p : Compiled) → part_of machine text ≡ Ok (Ok p) → AreSteps p.steps
part_steps machine text p h = are_steps machine text p.steps (is_done machine text p h).passes

pub promised : (machine : Machine) (text : List ℕ) (p : Compiled) → IsMachine machine → part_of machine text ≡ Ok (Ok p) → Promise machine text p
promised machine text p is h =
    let q = is_done machine text p h in
    let are = are_steps machine text p.steps q.passes in
    let follow = compiled_follows 0 first_situation p.steps p.records first_situation-IsSituation are.scalars are.sources q.compiled in
    let legal = legal_contours p.steps p.records follow.behind follow.follows in
    let trace : Trace = record { steps = q.passes.traced; fault = None } in
    let ends = plain_ends nothing_drilled false q.passes.traced p.steps q.passes.behind (end_once q.passes.statements trace q.passes.unrolled refl) q.passes.expands in
    let fit = compiled_fit 0 first_situation p.steps p.records (omega arith) are.sources q.compiled in
    let traced = few_steps q.passes.statements trace q.passes.unrolled in
    let few : length p.steps ≤ 225000 = of_plain (λ ss. length ss ≤ 225000) q.passes (omega (arith, traced, few_plain q.passes.traced None)) in
    let cuts : contours p.steps ≤ 200000 =
    of_plain (λ ss. contours ss ≤ 200000) q.passes (omega (arith, traced, contours_few q.passes.traced, plain_contours nothing_drilled q.passes.traced None)) in
    let titled = steps_titled q.passes.statements trace (of_text HasTitle text q.passes.statements q.passes.read (program_of-titled text)) q.passes.unrolled in
    let titles = of_plain (λ ss. title_lengths ss ≤ 256) q.passes
    (omega (arith, titles_short q.passes.traced titled (trace_sources q.passes), plain_titles nothing_drilled q.passes.traced None)) in
    let follows = follows CutsLegally p.steps p.records follow.behind follow.follows in
    let once = ends_once CutsLegally false first_situation p.steps p.records follow.behind follow.follows ends in
    let can = compiled_written machine nothing_pending 0 first_situation p.steps p.records is (record { feed = refl; rapid = refl }) (record { most = omega (arith, ints) }) first_situation-IsSituation are.scalars are.sources q.passes.within q.compiled in record {
      passes = q.passes;
      compiled = q.compiled;
      follow = follows;
      legal = legal;
      numbers = (legal_in_numbers p.records).0 legal;
      own = own_contours p.steps p.records follow.behind follow.own;
      few = few_from_none (vertex_count p.records) fit.vertices;
      file = compiled_file p.steps p.records few are.scalars are.sources ends q.compiled;
      file_fits = file_fits p.steps p.records fit few cuts titles;
      reached = plan_reaches p.records;
      writable = record {
        program = planned_program p.records once can;
        fits = plan_fits p.records once can;
        goes = plan_can p.steps p.records q.passes.fine follows legal;
      };
      arcs = arcs_belong machine p.steps p.records q.passes.fine follows legal;
      holes = passes_drilled q.passes p.records follows;
      tape_fits = tape_fits machine p.steps p.records q.compiled fit few;
    }

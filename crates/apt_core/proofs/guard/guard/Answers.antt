use Rattle.std.proofs.Common.{[], ◌∷◌, subst}
use Rattle.std.proofs.lemmas.Result.{err_from_is_err_and}
use Rattle.apt_core.specs.Request.{four_names}
use Rattle.apt_core.specs.Inputs.{Files, files_on, input, inputs, outline_limit, ReadsAll}
use Rattle.apt_core.proofs.Readings.{read_on, reads_both, stopped_front, stopped_behind}
use Rattle.apt_core.proofs.Guarding.{stopped_guards, watched_guards}
use Rattle.apt_core.proofs.guard.guard.Goals as goal

pub returns-in_err-evidence : goal.returns-in_err-evidence
returns-in_err-evidence g c =
    let error = err_from_is_err_and c.from_residual.result c.from_residual.ensures.1 in
    let n = four_names c.args.names in
    let before : Files = files_on g.H.Shelf c.args.shelf.now in
    let one : Files = files_on g.H.Shelf c.evidence_of.new.shelf in
    let e = c.in_err-evidence.ensures in
    rw (error.1, error.2) (stopped_guards n c.args.name.now before one _ e.read (stopped_front (inputs n) (input c.args.name.now outline_limit ∷ []) before one _ e.stopped))

pub returns-in_err-text : goal.returns-in_err-text
returns-in_err-text g c =
    let error = err_from_is_err_and c.from_residual-in_err-text.result c.from_residual-in_err-text.ensures.1 in
    let n = four_names c.args.names in
    let before : Files = files_on g.H.Shelf c.args.shelf.now in
    let one : Files = files_on g.H.Shelf c.evidence_of.new.shelf in
    let two : Files = files_on g.H.Shelf c.read_input.new.shelf in
    let e = c.in_ok-evidence.ensures in
    let is = e.evidence in
    let t = c.in_err-text.ensures in
    rw (error.1, error.2) (stopped_guards n c.args.name.now before two _ (read_on before one two e.read t.read)
    (stopped_behind before one two (inputs n) (input c.args.name.now outline_limit ∷ []) (c.in_ok-evidence.evidence.text.items ∷ is.0 ∷ is.1 ∷ is.2 ∷ []) _ e.read is.3 t.stopped))

pub returns : goal.returns
returns g c =
    let n = four_names c.args.names in
    let before : Files = files_on g.H.Shelf c.args.shelf.now in
    let one : Files = files_on g.H.Shelf c.evidence_of.new.shelf in
    let two : Files = files_on g.H.Shelf c.read_input.new.shelf in
    let name = c.args.name.now in
    let outline = c.in_ok-text.text.items in
    let e = c.in_ok-evidence.ensures in
    let is = e.evidence in
    let t = c.in_ok-text.ensures in
    watched_guards n name c.in_ok-evidence.evidence.text.items is.0 is.1 is.2 outline before two _ (read_on before one two e.read t.read)
    (reads_both before.told (inputs n) (input name outline_limit ∷ []) (c.in_ok-evidence.evidence.text.items ∷ is.0 ∷ is.1 ∷ is.2 ∷ []) (outline ∷ []) is.3
    (subst (λ told. ReadsAll told (input name outline_limit ∷ []) (outline ∷ [])) e.read.files (t.text, tt)))
    (rw c.deref.ensures.value at c.guard_evidence.ensures is.0 is.1 is.2 is.4)

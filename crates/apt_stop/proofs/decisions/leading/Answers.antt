use Rattle.std.proofs.Common.{◌≡◌, ◌∙◌, sym, arith, inl, inr, ℤ, FitsSigned, w8}
use Rattle.std.proofs.lemmas.Int.{ints, to_z-of_z}
use Rattle.std.proofs.lemmas.Result.{err_from_is_err_and}
use Rattle.apt_plane.specs.Ranges.{IsSense}
use Rattle.apt_contact.specs.Contacts.{contact}
use Rattle.apt_stop.specs.Courses.{stop_side}
use Rattle.apt_stop.specs.Choices.{is_past}
use Rattle.apt_stop.proofs.Sided.{side_is, past_is, has_side}
use Rattle.apt_stop.proofs.Decided.{led_behind, led_ok, led_err}
use Rattle.apt_stop.proofs.decisions.leading.Goals as goal
use Rattle.apt_stop.proofs.decisions.leading.Goals.{After-is_past, After-side_from-side, After-contact}

past : (c : After-is_past) → is_past c.args.c.now c.args.c.now.track c.args.c.now.stop ≡ c.is_past.result
past c =
    let k = c.args.c.now in
    sym ((rw c.far_side-far.ensures at c.is_past.ensures) ∙ past_is k k.track k.stop)

side : (c : After-side_from-side) → c.side_from-side.result ≡ stop_side c.args.c.now
side c = (rw c.far_side-far.ensures at c.side_from-side.ensures) ∙ side_is c.args.c.now

sense_fits : (sense : ℤ) → IsSense sense → FitsSigned w8 sense
sense_fits sense is = elim is [ inl e ↦ omega (arith, ints) | inr e ↦ omega (arith, ints) ]

met : (c : After-contact) → contact c.args.c.now.track c.args.c.now.stop c.sigma.result ≡ c.contact.result
met c =
    let fits : FitsSigned w8 c.sigma.result = sense_fits c.sigma.result c.sigma.ensures.sense in
    sym (simp to_z-of_z at c.contact.ensures.value)

pub returns-then-is_past : goal.returns-then-is_past
returns-then-is_past c = led_behind c.args.c.now (past (goal.at.returns-then-is_past c).After-is_past ∙ c.if-is_past.true)

pub sigma-requires-clause-side : goal.sigma-requires-clause-side
sigma-requires-clause-side c =
    let at = goal.at.sigma-requires-clause-side c in
    rw (side at.After-side_from-side) (has_side c.args.c.now c.requires.placed (past at.After-is_past ∙ c.if-is_past.false))

pub returns-in_err-end : goal.returns-in_err-end
returns-in_err-end c =
    let at = goal.at.returns-in_err-end c in
    let error = err_from_is_err_and c.from_residual.result c.from_residual.ensures.1 in
    rw (error.1, error.2)
    (led_err c.args.c.now c.side_from-side.result c.sigma.result c.in_err-end.field-0.0 (past at.After-is_past ∙ c.if-is_past.false) (side at.After-side_from-side) c.sigma.ensures.value
    (met at.After-contact ∙ c.in_err-end.was))

pub returns : goal.returns
returns c =
    let at = goal.at.returns c in
    led_ok c.args.c.now c.side_from-side.result c.sigma.result c.in_ok-end.end (past at.After-is_past ∙ c.if-is_past.false) (side at.After-side_from-side) c.sigma.ensures.value
    (met at.After-contact ∙ c.in_ok-end.was)

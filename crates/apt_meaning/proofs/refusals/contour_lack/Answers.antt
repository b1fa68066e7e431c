use Rattle.std.proofs.Common.{◌≡◌, ◌∙◌, [], Some, ap, refl, sym, rules}
use Rattle.std.specs.Prelude.{unwrap_or}
use Rattle.apt_words.specs.declared.Case.{Case}
use Rattle.apt_words.specs.declared.Case.TheVariants as cases
use Rattle.apt_words.specs.Rows.{first_of}
use Rattle.apt_scalar.specs.Scalars.{whole}
use Rattle.apt_meaning.specs.Effects.{legs_by}
use Rattle.apt_meaning.specs.Refusals.{feed_cases}
use Rattle.apt_meaning.proofs.Refused.{contour_lacks}
use Rattle.apt_meaning.proofs.refusals.contour_lack.Goals as goal

pub returns-then-is_none-4 : goal.returns-then-is_none-4
returns-then-is_none-4 c =
    let a = c.args in
    let count : legs_by (whole a.n) ≡ c.legs_by.result = search (rules, c.legs_by.ensures) in
    contour_lacks a.here.now a.contour.now a.n c.requires.lacks
    ∙ rw (sym c.surface_in.ensures.value, sym c.surface_in-2.ensures.value, count, c.is_none.ensures, c.is_none-2.ensures, c.is_none-3.ensures, c.is_none-4.ensures, c.if-is_none.false, c.if-is_none-2.false, c.if-is_none-3.false, c.if-is_none-4.true)
    refl

pub returns : goal.returns
returns c =
    let a = c.args in
    let count : legs_by (whole a.n) ≡ c.legs_by.result = search (rules, c.legs_by.ensures) in
    let case : unwrap_or (first_of (feed_cases a.here.now.settings [])) cases.NoTurn ≡ c.unwrap_or.result = search (rules, c.unwrap_or.ensures, c.feed_case.ensures) in
    contour_lacks a.here.now a.contour.now a.n c.requires.lacks
    ∙ rw (sym c.surface_in.ensures.value, sym c.surface_in-2.ensures.value, count, c.is_none.ensures, c.is_none-2.ensures, c.is_none-3.ensures, c.is_none-4.ensures, c.if-is_none.false, c.if-is_none-2.false, c.if-is_none-3.false, c.if-is_none-4.false)
    (ap (λ (it : Case). Some it) case)

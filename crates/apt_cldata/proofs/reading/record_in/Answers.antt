use Rattle.std.proofs.Common.{rules, ◌≡◌, IfOk, ap, ◌∙◌, subst}
use Rattle.std.specs.Prelude.{FitsSigned}
use Rattle.std.specs.Int.{w64}
use Rattle.std.proofs.lemmas.Int.{to_z-of_z}
use Rattle.std.proofs.lemmas.List.{take_rest}
use Rattle.apt_cldata.specs.Records.{record_of}
use Rattle.apt_cldata.specs.Reading.{word_in, numbers_of, record_in}
use Rattle.apt_cldata.proofs.WordByWord.{chunks_are}
use Rattle.apt_cldata.proofs.reading.record_in.Goals as goal

pub returns : goal.returns
unfolding record_in
returns c =
    let f : FitsSigned w64 c.word_in-class.result = search rules in
    let g : FitsSigned w64 c.word_in-sub.result = search rules in
    let class = to_z-of_z w64 c.word_in-class.result f ∙ c.word_in-class.ensures ∙ ap word_in (take_rest c.args.bytes.now 12) in
    let sub = to_z-of_z w64 c.word_in-sub.result g ∙ c.word_in-sub.ensures ∙ ap word_in (take_rest c.args.bytes.now 20) in
    let words = ap numbers_of c.as_chunks.ensures.front ∙ chunks_are c.args.n c.args.bytes.now c.requires.least c.requires.there in
    subst (λ r. IfOk c.record_of.result (λ said. said ≡ r)) (λ i. record_of (class i) (sub i) (words i)) c.record_of.ensures

use Rattle.apt_tape.proofs.reader.Reader.finish_into.Goals as goal

pub returns-in-Plain : goal.returns-in-Plain
returns-in-Plain g c = λ none before tape has stands. rw c.in-Plain.is (c.rest_of_plain.ensures none before tape has (rw c.in-Plain.is at stands))

use Rattle.std.proofs.Common.{◌≡◌, length}
use Rattle.apt_lexis.specs.Titles.{without_blanks}
use Rattle.apt_lexis.proofs.title.without_blanks.Given as goal

abbrev pub invariant-blanks : goal.invariant-blanks
invariant-blanks l = record { same : without_blanks l.rest ≡ without_blanks l.text }

abbrev pub decreases-blanks : goal.decreases-blanks
decreases-blanks l = length l.rest

-- The text of an answer, after one put or none.
use Rattle.std.proofs.Common.{◌≡◌, inl, inr, ℕ, ◌≤◌, List, [], Option, Some, None, ap, sym, refl, arith}
use Rattle.std.proofs.lemmas.List.{append-nil}
use Rattle.apt_shelf.specs.Told.{Rose, Puts, PutsPrefix}
use Rattle.apt_report.specs.declared.status.Status.TheVariants as answers
use Rattle.apt_core.specs.Decoding.{Said}
use Rattle.apt_core.specs.Promise.{Lines, IsPut}

same_shown : (shown : Option (List ℕ)) → Puts [] shown shown
same_shown None = tt
same_shown (Some before) = ap Some (sym (append-nil before))

none_shown : (text : List ℕ) (shown : Option (List ℕ)) → PutsPrefix text shown shown
none_shown text None = tt
none_shown text (Some before) = (0, omega arith, ap Some (sym (append-nil before)))

-- memory ran out before anything was put
pub short_put : (said : Said) (lines : Lines) → IsPut said lines lines answers.NoMemory
short_put said lines = record { shows = inr (inr refl, none_shown said.text lines.shown); later = omega arith }

-- nothing is put for an empty text
pub silent_put : (said : Said) (lines : Lines) → said.text ≡ [] → IsPut said lines lines said.answer
silent_put said lines e = record { shows = inl (refl, rw e (same_shown lines.shown)); later = omega arith }

pub text_put : (said : Said) (before after : Lines) → Puts said.text before.shown after.shown → before.put_faults ≤ after.put_faults → IsPut said before after said.answer
text_put said before after puts later = record { shows = inl (refl, puts); later = later }

pub front_put : (said : Said) (before after : Lines) → PutsPrefix said.text before.shown after.shown → Rose before.put_faults after.put_faults
    → before.put_faults ≤ after.put_faults → IsPut said before after answers.WriteFault
front_put said before after puts failed later = record { shows = inr (inl (refl, failed), puts); later = later }

pub front_put_short : (said : Said) (before after : Lines) → PutsPrefix said.text before.shown after.shown → before.put_faults ≤ after.put_faults
    → IsPut said before after answers.NoMemory
front_put_short said before after puts later = record { shows = inr (inr refl, puts); later = later }

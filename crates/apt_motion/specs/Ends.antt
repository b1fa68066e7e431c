-- The refusal that ends a run.
use Rattle.std.specs.Prelude.{Option, Some, None}
use Rattle.apt_words.specs.declared.Refusal.{Refusal}
use Rattle.apt_motion.specs.declared.runs.RunError.{RunError}
use Rattle.apt_motion.specs.declared.runs.RunError.TheVariants as errors

-- the refusal that an error tells
abbrev pub refusal_in : RunError → Option Refusal
refusal_in (errors.Refused refusal) = Some refusal
refusal_in errors.NoMemory = None

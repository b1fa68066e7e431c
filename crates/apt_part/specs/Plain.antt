-- Steps that stand for the plain steps of a trace.
use Rattle.std.specs.Prelude.{◌≡◌, ◌⊎◌}
use Rattle.apt_words.specs.Drills.{AreUndrilled}
use Rattle.apt_words.specs.Sources.{AreNumbered}
use Rattle.apt_unroll.specs.Trace.{Trace}
use Rattle.apt_pattern.specs.Expansions.{expansion}

-- a trace whose steps ask for nothing of patterns and drill cycles
pub record IsUndrilled (t : Trace) : Type 0 where
  pub none : AreUndrilled t.steps
  pub numbers : AreNumbered 1 t.steps

-- its plain steps
abbrev pub plain : Trace → Trace
plain t = expansion t.steps t.fault

-- the plain steps of a trace, or the trace itself where it has nothing to expand
abbrev pub StandsFor : Trace → Trace → Type 0
StandsFor t u = (u ≡ plain t) ⊎ (IsUndrilled t × (u ≡ t))

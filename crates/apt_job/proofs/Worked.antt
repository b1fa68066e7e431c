-- One contour step along the lower edge of a plate, and records that answer it, or don't.
use Rattle.std.specs.Prelude.{◌≡◌, refl, ℕ, ℤ, pos, neg_ℤ, negsuc, codes, List, [], ◌∷◌, None}
use Rattle.std.proofs.Common.{inl, inr}
use Rattle.apt_words.specs.declared.Command.TheVariants as commands
use Rattle.apt_words.specs.declared.Go.TheVariants as turns
use Rattle.apt_words.specs.declared.Side.{Side}
use Rattle.apt_words.specs.declared.Side.TheVariants as sides
use Rattle.apt_words.specs.declared.Stop.TheVariants as stops
use Rattle.apt_words.specs.declared.deed.Deed.TheVariants as deeds
use Rattle.apt_words.specs.declared.deed.Step.{Step}
use Rattle.apt_words.proofs.Contours.{contouring}
use Rattle.apt_plane.specs.declared.figures.Surface.TheVariants as surfaces
use Rattle.apt_certify.specs.declared.leg.Job.{Job}
use Rattle.apt_records.specs.declared.record.Note.TheVariants as notes
use Rattle.apt_records.specs.declared.record.Position.{Position}
use Rattle.apt_records.specs.declared.record.Record.{Record}
use Rattle.apt_records.specs.declared.record.Record.TheVariants as records
use Rattle.apt_stop.specs.declared.legs.Legs.TheVariants as the_legs
use Rattle.apt_meaning.specs.declared.effect.Effect.TheVariants as effects
use Rattle.apt_meaning.specs.Situations.{position_at}
use Rattle.apt_meaning.specs.Motions.{motion_at}
use Rattle.apt_meaning.specs.Records.{Begins}
use Rattle.apt_meaning.specs.Expectations.{FailsAt}
use Rattle.apt_meaning.proofs.Worked.Plates.{point, lower, right, at_corner, along_lower, leg}
use Rattle.apt_job.specs.Jobs.{MakesJobs}

abbrev contour : Step
contour = record { line = 7; step = 3; deed = deeds.Contour (contouring None turns.Right (codes "L1") stops.Past (codes "L2")) (pos 1000000) }

-- the end of the edge, at a height
abbrev end_at : ℤ → Position
end_at z = position_at (pos 525000) (neg_ℤ (pos 25000)) z

abbrev written : ℕ → Side → ℤ → List Record → List Record
written line side z more =
    records.Statement line 3 ∷ records.Drive (surfaces.Line lower) side (pos 1) ∷ records.Check (surfaces.Line right) stops.Past
    ∷ records.Contour (end_at z ∷ []) ∷ more

-- outside of the edge, on its right, is a smaller distance to its left
abbrev job : Job
job = record { leg = leg; out_sign = negsuc 0; points = point (neg_ℤ (pos 25000)) (neg_ℤ (pos 25000)) ∷ point (pos 525000) (neg_ℤ (pos 25000)) ∷ [] }

begins : (more : List Record) → Begins at_corner contour (written 7 sides.Right (pos 50000) more) (effects.Cuts along_lower the_legs.One) ((point (pos 525000) (neg_ℤ (pos 25000)) ∷ []) ∷ []) more
unfolding motion_at
begins more = record { asked = refl; front = refl; may = (refl, refl) }

one_job : MakesJobs at_corner (contour ∷ []) (written 7 sides.Right (pos 50000) []) (job ∷ [])
one_job = (effects.Cuts along_lower the_legs.One, (point (pos 525000) (neg_ℤ (pos 25000)) ∷ []) ∷ [], [], [], begins [], refl, (refl, refl))

-- the number of the first record that isn't due
another_line : FailsAt at_corner 1 (contour ∷ []) (written 8 sides.Right (pos 50000) []) 1
unfolding motion_at
another_line = inl (0, (λ met. absurd (eight met.1.0)), refl)
  where
    eight : records.Statement 8 3 ≡ records.Statement 7 3 → ⊥
    eight e = cc

another_side : FailsAt at_corner 1 (contour ∷ []) (written 7 sides.Left (pos 50000) []) 2
unfolding motion_at
another_side = inl (1, (([], (refl, refl)), (λ met. absurd (left met.1.0))), refl)
  where
    left : records.Drive (surfaces.Line lower) sides.Left (pos 1) ≡ records.Drive (surfaces.Line lower) sides.Right (pos 1) → ⊥
    left e = cc

one_too_many : FailsAt at_corner 1 (contour ∷ []) (written 7 sides.Right (pos 50000) (records.Note (notes.Do commands.Stop) ∷ [])) 5
one_too_many = inr (effects.Cuts along_lower the_legs.One, (point (pos 525000) (neg_ℤ (pos 25000)) ∷ []) ∷ [], records.Note (notes.Do commands.Stop) ∷ [], begins (records.Note (notes.Do commands.Stop) ∷ []), refl)

none_at_all : FailsAt at_corner 1 (contour ∷ []) [] 1
unfolding motion_at
none_at_all = inl (0, refl, refl)

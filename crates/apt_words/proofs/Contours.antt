-- Contours by their words, and steps, which have no more contours than they are.
use Rattle.std.proofs.Common.{◌≤◌, ℕ, Option, List, [], ◌∷◌, length, arith}
use Rattle.apt_words.specs.Asks.{Ask, Cuts, ask_of}
use Rattle.apt_words.specs.Contours.{contour_by, contours}
use Rattle.apt_words.specs.declared.contour.Contouring.{Contouring}
use Rattle.apt_words.specs.declared.deed.Step.{Step}
use Rattle.apt_words.specs.declared.Go.{Go}
use Rattle.apt_words.specs.declared.Side.{Side}
use Rattle.apt_words.specs.declared.Stop.{Stop}

abbrev pub contouring : Option Side → Go → List ℕ → Stop → List ℕ → Contouring
contouring side go drive stop check = record { side = side; go = go; drive = drive; stop = stop; check = check }

contour_once : (ask : Ask) → contour_by ask ≤ 1
contour_once (Cuts contour n) = omega arith
contour_once _ = omega arith

pub contours_few : (steps : List Step) → contours steps ≤ length steps
contours_few [] = omega arith
contours_few (step ∷ steps) = omega (arith, contour_once (ask_of step.deed), contours_few steps)

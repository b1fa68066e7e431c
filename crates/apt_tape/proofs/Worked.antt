-- Half a circle on a machine that takes arcs and on one that does not, which the checker works out.
use Rattle.std.specs.Prelude.{◌≡◌, ℕ, ℤ, pos, negsuc, Bool, true, false, List, [], ◌∷◌, map, Ok, Err, codes}
use Rattle.std.proofs.Common.{refl}
use Rattle.apt_words.specs.declared.Units.TheVariants.{Inch}
use Rattle.apt_words.specs.declared.Side.TheVariants as sides
use Rattle.apt_words.specs.declared.Stop.TheVariants as stops
use Rattle.apt_plane.specs.declared.figures.Circ.{Circ}
use Rattle.apt_plane.specs.declared.figures.Surface.TheVariants as surfaces
use Rattle.apt_records.specs.declared.record.Note.TheVariants as notes
use Rattle.apt_records.specs.declared.record.Position.{Position}
use Rattle.apt_records.specs.declared.record.Reach.TheVariants as reaches
use Rattle.apt_records.specs.declared.record.Record.{Record}
use Rattle.apt_records.specs.declared.record.Record.TheVariants as records
use Rattle.apt_tapecode.specs.declared.Code.TheVariants.{Rs358}
use Rattle.apt_tapecode.specs.Tapecode.{byte_of}
use Rattle.apt_machine.specs.declared.machine.Machine.{Machine}
use Rattle.apt_block.specs.declared.block.TapeCause.TheVariants as causes
use Rattle.apt_block.specs.Block.{fault}
use Rattle.apt_control.specs.declared.Act.TheVariants as acts
use Rattle.apt_circular.specs.declared.ArcAct.{ArcAct}
use Rattle.apt_circular.specs.declared.ArcAct.TheVariants.{Plain, Arc}
use Rattle.apt_tape.specs.Tapes.{acts_on, run_on, tape_on}

-- without sequence numbers, with what changes alone, and without zeros in front
abbrev machine : Bool → Machine
machine circles = record { code = Rs358; seq = 0; feedmax = 9999; spinmax = 9999; toolmax = 99; changed = true; incremental = false; short = true; circles = circles; cycles = false }

abbrev at : ℤ → ℤ → Position
at x y = record { xy = record { x = x; y = y }; z = pos 0 }

abbrev cut : ℤ → ℤ → ArcAct
cut x y = Plain (acts.Cut x y (pos 0) (pos 100))

abbrev low : ℤ
low = negsuc 224999

abbrev circle : Circ
circle = record { c = record { x = pos 0; y = pos 0 }; r = pos 200000 }

-- a feed, a move to above the circle, half round it, clockwise, and the end
abbrev half : List Record
half =
    records.Note (notes.Feed (pos 100)) ∷ records.Point reaches.Goto (at (pos 0) (pos 225000))
    ∷ records.Drive (surfaces.Circ circle) sides.Left (negsuc 0) ∷ records.Check (surfaces.Circ circle) stops.On
    ∷ records.Contour (at (pos 225000) (pos 0) ∷ at (pos 0) low ∷ []) ∷ records.Note notes.Fini ∷ []

-- ---- what is asked for

abbrev in_one_arc : List ArcAct
in_one_arc = Plain (acts.Units Inch) ∷ cut (pos 0) (pos 225000) ∷ Arc (negsuc 0) (pos 0) low (pos 0) (pos 0) (pos 0) (pos 100) ∷ Plain acts.End ∷ []

abbrev vertex_by_vertex : List ArcAct
vertex_by_vertex = Plain (acts.Units Inch) ∷ cut (pos 0) (pos 225000) ∷ cut (pos 225000) (pos 0) ∷ cut (pos 0) low ∷ Plain acts.End ∷ []

-- one arc on a machine that takes arcs
asked_of_arcs : acts_on (machine true) half ≡ in_one_arc
asked_of_arcs = refl

-- a cut to each vertex on a machine that does not
asked_of_lines : acts_on (machine false) half ≡ vertex_by_vertex
asked_of_lines = refl

-- ---- the tapes

abbrev bytes : List ℕ → List ℕ
bytes text = map (byte_of Rs358) text

abbrev arc_tape : List ℕ
arc_tape = bytes (codes "%\nG70G90G94\nG01X+0Y+225000Z+0F100\nG02X+0Y-225000I+0J-225000\nM02\n")

abbrev line_tape : List ℕ
line_tape = bytes (codes "%\nG70G90G94\nG01X+0Y+225000Z+0F100\nX+225000Y+0\nX+0Y-225000\nM02\n")

tape_of_arcs : tape_on (machine true) in_one_arc ≡ arc_tape
tape_of_arcs = refl

tape_of_lines : tape_on (machine false) vertex_by_vertex ≡ line_tape
tape_of_lines = refl

-- ---- their runs

-- its control runs the tape to just what was asked for
runs_in_one_arc : run_on (machine true) arc_tape ≡ Ok in_one_arc
runs_in_one_arc = refl

runs_vertex_by_vertex : run_on (machine false) line_tape ≡ Ok vertex_by_vertex
runs_vertex_by_vertex = refl

-- to a machine without arcs the code of an arc is foreign, at its letter
arc_is_foreign : run_on (machine false) arc_tape ≡ Err (fault 34 causes.Foreign)
arc_is_foreign = refl

-- a machine with arcs runs a tape without them, too
lines_are_run : run_on (machine true) line_tape ≡ Ok vertex_by_vertex
lines_are_run = refl

-- ---- a hole

-- the same machine with drill cycles
abbrev drilling : Bool → Machine
drilling circles = record (machine circles) { cycles = true }

abbrev over : ℤ → Position
over z = record { xy = record { x = pos 7; y = pos 0 }; z = z }

abbrev hole : List Record
hole =
    records.Note (notes.Feed (pos 50)) ∷ records.Note notes.Rapid ∷ records.Point reaches.Goto (over (pos 10000)) ∷ records.Point reaches.Goto (over (negsuc 24999))
    ∷ records.Note notes.Rapid ∷ records.Point reaches.Goto (over (pos 10000)) ∷ records.Note notes.Fini ∷ []

abbrev three_moves : List ArcAct
three_moves =
    Plain (acts.Units Inch) ∷ Plain (acts.Rapid (pos 7) (pos 0) (pos 10000)) ∷ Plain (acts.Cut (pos 7) (pos 0) (negsuc 24999) (pos 50)) ∷ Plain (acts.Rapid (pos 7) (pos 0) (pos 10000))
    ∷ Plain acts.End ∷ []

-- the same acts on each machine
asked_of_cycles : acts_on (drilling true) hole ≡ three_moves
asked_of_cycles = refl

asked_of_moves : acts_on (machine false) hole ≡ three_moves
asked_of_moves = refl

abbrev hole_tape : List ℕ
hole_tape = bytes (codes "%\nG70G90G94\nG81X+7Y+0Z-25000R+10000F50\nG80\nM02\n")

-- one block where there are drill cycles, and G80 behind it
tape_of_cycles : tape_on (drilling false) three_moves ≡ hole_tape
tape_of_cycles = refl

tape_of_moves : tape_on (machine true) three_moves ≡ bytes (codes "%\nG70G90G94\nG00X+7Y+0Z+10000\nG01X+7Z-25000F50\nG00X+7Z+10000\nM02\n")
tape_of_moves = refl

runs_a_hole : run_on (drilling true) hole_tape ≡ Ok three_moves
runs_a_hole = refl

-- to a machine without drill cycles their code is foreign, and to one with them but without arcs that of an arc
hole_is_foreign : run_on (machine true) hole_tape ≡ Err (fault 12 causes.Foreign)
hole_is_foreign = refl

arc_is_foreign_to_cycles : run_on (drilling false) arc_tape ≡ Err (fault 34 causes.Foreign)
arc_is_foreign_to_cycles = refl

arcs_beside_cycles : run_on (drilling true) arc_tape ≡ Ok in_one_arc
arcs_beside_cycles = refl

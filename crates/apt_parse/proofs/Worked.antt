-- Small texts, which the checker reads.
use Rattle.std.specs.Prelude.{◌≡◌, ℕ, pos, List, [], ◌∷◌, ◌++◌, Option, Some, None, Result, Ok, Err, codes}
use Rattle.std.proofs.Common.{refl}
use Rattle.apt_words.specs.Vocabulary.{word_of}
use Rattle.apt_words.specs.declared.Stop.TheVariants as stops
use Rattle.apt_words.specs.declared.body.Body.TheVariants as bodies
use Rattle.apt_words.specs.declared.body.Stmt.{Stmt}
use Rattle.apt_words.specs.Trees.{Num}
use Rattle.apt_lexis.specs.declared.cause.PartCause.TheVariants as causes
use Rattle.apt_expr.specs.Expressions.{expression}
use Rattle.apt_shapes.specs.Shapes.{shape}
use Rattle.apt_parse.specs.Programs.{program_of, TextFault}

abbrev fault_of : Result (List Stmt) TextFault → Option TextFault
fault_of (Ok sts) = None
fault_of (Err fault) = Some fault

abbrev fault : List ℕ → Option TextFault
fault text = fault_of (program_of text)

a_program : program_of (codes "PARTNO A\n$$ a comment\n\nLA) x = $\n  2\nFINI\nEND OF THE TEXT") ≡
    Ok (record { line = 1; label = None; body = bodies.Partno (codes "A") }
    ∷ record { line = 4; label = Some (codes "LA"); body = bodies.Assign (codes "X") (Num (pos 2000000)) }
    ∷ record { line = 6; label = None; body = bodies.Fini } ∷ [])
unfolding shape expression word_of
a_program = refl

no_partno : fault (codes "FINI\n") ≡ Some (1, causes.NoPartno)
unfolding shape expression word_of
no_partno = refl

four_coordinates : fault (codes "PARTNO\nGOTO/1,2,3,4\nFINI\n") ≡ Some (2, causes.BadShape)
unfolding shape expression word_of
four_coordinates = refl

two_points : fault (codes "PARTNO\nA=1.2.3\nFINI\n") ≡ Some (2, causes.BadNumber)
unfolding shape expression word_of
two_points = refl

eight_letters : fault (codes "PARTNO\nLONGNAME=1\nFINI\n") ≡ Some (2, causes.BadWord)
unfolding shape expression word_of
eight_letters = refl

no_fini : fault (codes "PARTNO\n") ≡ Some (1, causes.NoFini)
unfolding shape expression word_of
no_fini = refl

empty_text : fault [] ≡ Some (1, causes.NoFini)
unfolding shape expression word_of
empty_text = refl

first_line_of_the_statement : fault (codes "PARTNO\nGOTO/ $\n1, $\n2,3,4\nFINI\n") ≡ Some (2, causes.BadShape)
unfolding shape expression word_of
first_line_of_the_statement = refl

shape_before_partno : fault (codes "GOTO/1\nPARTNO\nFINI\n") ≡ Some (1, causes.BadShape)
unfolding shape expression word_of
shape_before_partno = refl

units_before_partno : fault (codes "UNITS/MM\nPARTNO\nFINI\n") ≡ Some (1, causes.BadShape)
unfolding shape expression word_of
units_before_partno = refl

units_behind_a_remark : fault (codes "PARTNO\nREMARK\nUNITS/MM\nFINI\n") ≡ Some (3, causes.BadShape)
unfolding shape expression word_of
units_behind_a_remark = refl

one_surface : program_of (codes "PARTNO\nGO/L1\nFINI\n") ≡
    Ok (record { line = 1; label = None; body = bodies.Partno [] }
    ∷ record { line = 2; label = None; body = bodies.GoStart stops.To (codes "L1") None }
    ∷ record { line = 3; label = None; body = bodies.Fini } ∷ [])
unfolding shape expression word_of
one_surface = refl

a_pattern : program_of (codes "PARTNO X\nA=PATERN/LINEAR,P,Q,4\nFINI\n") ≡
    Ok (record { line = 1; label = None; body = bodies.Partno (codes "X") }
    ∷ record { line = 2; label = None; body = bodies.Patern (codes "A") (codes "P") (codes "Q") (Num (pos 4000000)) }
    ∷ record { line = 3; label = None; body = bodies.Fini } ∷ [])
unfolding shape expression word_of
a_pattern = refl

drilling_cycles : program_of (codes "PARTNO X\nCYCLE/DRILL,.25,.1\nCYCLE/OFF\nFINI\n") ≡
    Ok (record { line = 1; label = None; body = bodies.Partno (codes "X") }
    ∷ record { line = 2; label = None; body = bodies.CycleDrill (Num (pos 250000)) (Num (pos 100000)) }
    ∷ record { line = 3; label = None; body = bodies.CycleOff }
    ∷ record { line = 4; label = None; body = bodies.Fini } ∷ [])
unfolding shape expression word_of
drilling_cycles = refl

pattern_before_partno : fault (codes "A=PATERN/LINEAR,P,Q,4\nPARTNO X\nFINI\n") ≡ Some (1, causes.NoPartno)
unfolding shape expression word_of
pattern_before_partno = refl

label_twice : fault (codes "PARTNO\nA)STOP\nB)STOP\nA)END\nFINI\n") ≡ Some (4, causes.LabelTwice)
unfolding shape expression word_of
label_twice = refl

-- the statement with the bad word goes on, so the bad byte on its second line comes first
line_before_statement : fault (codes "PARTNO\nLONGNAME=$\n" ++ 1 ∷ codes "\nFINI\n") ≡ Some (3, causes.BadByte)
unfolding shape expression word_of
line_before_statement = refl

nothing_behind_fini : fault (codes "PARTNO\nFINI\n" ++ 1 ∷ codes "#\n") ≡ None
unfolding shape expression word_of
nothing_behind_fini = refl

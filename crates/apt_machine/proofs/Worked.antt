-- Small tables, which the checker reads.
use Rattle.std.specs.Prelude.{◌≡◌, ℕ, Bool, true, false, List, ◌++◌, Ok, Err, codes}
use Rattle.std.proofs.Common.{refl}
use Rattle.std.specs.Fmt.{digits}
use Rattle.apt_tapecode.specs.declared.Code.TheVariants as codings
use Rattle.apt_machine.specs.declared.machine.Machine.{Machine}
use Rattle.apt_machine.specs.declared.cause.MachineCause.TheVariants as causes
use Rattle.apt_machine.specs.Tables.{table_of, fault}
use Rattle.apt_machine.specs.Spelling.{spelled}

abbrev largest : Bool → Bool → Bool → Machine
largest changed incremental short = record { code = codings.Rs358; seq = 1; feedmax = 9999; spinmax = 9999; toolmax = 99; changed = changed; incremental = incremental; short = short; circles = false; cycles = false }

-- the keys that must stand, between what stands in front of them and behind
abbrev around : List ℕ → List ℕ → List ℕ
around front back = front ++ (codes "CODE RS358\nSEQ 1\nFEEDMAX 9999\nSPINMAX 9999\nTOOLMAX 99\n" ++ back)

sample : table_of (codes "MACHINE 1\nCODE RS358\nSEQ 1\nFEEDMAX 9999\nSPINMAX 9999\nTOOLMAX 99\n") ≡ Ok (largest false false false)
sample = refl

sample_spelled : spelled (largest false false false) ≡ codes "MACHINE 1\nCODE RS358\nSEQ 1\nFEEDMAX 9999\nSPINMAX 9999\nTOOLMAX 99\n"
unfolding digits
sample_spelled = refl

-- WORDS stands anywhere behind the first line
all_words : table_of (around (codes "MACHINE 1\nWORDS ALL\n") (codes "")) ≡ Ok (largest false false false)
all_words = refl

words_first : table_of (around (codes "MACHINE 1\nWORDS CHANGED\n") (codes "")) ≡ Ok (largest true false false)
words_first = refl

words_last : table_of (around (codes "MACHINE 1\n") (codes "WORDS CHANGED")) ≡ Ok (largest true false false)
words_last = refl

words_spelled : spelled (largest true false false) ≡ around (codes "MACHINE 1\n") (codes "WORDS CHANGED\n")
unfolding digits
words_spelled = refl

words_twice : table_of (codes "MACHINE 1\nWORDS ALL\nWORDS CHANGED\n") ≡ Err (fault 3 causes.Twice)
words_twice = refl

no_such_words : table_of (codes "MACHINE 1\nWORDS SOME\n") ≡ Err (fault 2 causes.Value)
no_such_words = refl

no_such_code : table_of (codes "MACHINE 1\nCODE RS999\nSEQ 1\n") ≡ Err (fault 2 causes.Value)
no_such_code = refl

no_tools : table_of (codes "MACHINE 1\nSEQ 1\nFEEDMAX 9999\nWORDS CHANGED\nSPINMAX 9999\nCODE RS244\n") ≡ Err (fault 7 causes.Missing)
no_tools = refl

key_twice : table_of (codes "MACHINE 1\nSEQ 1\nSEQ 0\n") ≡ Err (fault 3 causes.Twice)
key_twice = refl

-- ---- the second version

incremental_short : table_of (codes "MACHINE 2\nCODE RS358\nSEQ 1\nFEEDMAX 9999\nSPINMAX 9999\nTOOLMAX 99\nMODE INC\nZEROS DROPPED\n") ≡ Ok (largest false true true)
incremental_short = refl

incremental_short_spelled : spelled (largest false true true) ≡ codes "MACHINE 2\nCODE RS358\nSEQ 1\nFEEDMAX 9999\nSPINMAX 9999\nTOOLMAX 99\nMODE INC\nZEROS DROPPED\n"
unfolding digits
incremental_short_spelled = refl

all_chosen_spelled : spelled (largest true true true) ≡ around (codes "MACHINE 2\n") (codes "WORDS CHANGED\nMODE INC\nZEROS DROPPED\n")
unfolding digits
all_chosen_spelled = refl

-- without its keys it says what the first version says
no_second_key : table_of (around (codes "MACHINE 2\n") (codes "")) ≡ table_of (around (codes "MACHINE 1\n") (codes ""))
no_second_key = refl

first_values : table_of (around (codes "MACHINE 2\nMODE ABS\nZEROS KEPT\nARCS LINES\nDRILL MOVES\nWORDS ALL\n") (codes "")) ≡ Ok (largest false false false)
first_values = refl

mode_alone : table_of (around (codes "MACHINE 2\nMODE INC\n") (codes "")) ≡ Ok (largest false true false)
mode_alone = refl

zeros_alone : table_of (around (codes "MACHINE 2\nZEROS DROPPED\n") (codes "")) ≡ Ok (largest false false true)
zeros_alone = refl

lines_and_moves : table_of (around (codes "MACHINE 2\n") (codes "ARCS LINES\nDRILL MOVES\n")) ≡ Ok (largest false false false)
lines_and_moves = refl

mode_in_first : table_of (around (codes "MACHINE 1\n") (codes "MODE INC\n")) ≡ Err (fault 7 causes.Key)
mode_in_first = refl

zeros_in_first : table_of (codes "MACHINE 1\nZEROS KEPT\n") ≡ Err (fault 2 causes.Key)
zeros_in_first = refl

no_value_in_first : table_of (codes "MACHINE 1\nMODE\n") ≡ Err (fault 2 causes.Key)
no_value_in_first = refl

third_version : table_of (around (codes "MACHINE 3\n") (codes "")) ≡ Err (fault 1 causes.Header)
third_version = refl

circles : table_of (around (codes "MACHINE 2\nARCS CIRCLES\n") (codes "")) ≡ Ok (record (largest false false false) { circles = true })
circles = refl

circles_spelled : spelled (record (largest false false false) { circles = true }) ≡ around (codes "MACHINE 2\n") (codes "ARCS CIRCLES\n")
unfolding digits
circles_spelled = refl

no_such_arcs : table_of (codes "MACHINE 2\nARCS MOVES\n") ≡ Err (fault 2 causes.Value)
no_such_arcs = refl

circles_in_first : table_of (codes "MACHINE 1\nARCS CIRCLES\n") ≡ Err (fault 2 causes.Key)
circles_in_first = refl

cycles : table_of (around (codes "MACHINE 2\nDRILL CYCLES\n") (codes "")) ≡ Ok (record (largest false false false) { cycles = true })
cycles = refl

cycles_spelled : spelled (record (largest false false false) { circles = true; cycles = true }) ≡ around (codes "MACHINE 2\n") (codes "ARCS CIRCLES\nDRILL CYCLES\n")
unfolding digits
cycles_spelled = refl

no_such_drill : table_of (codes "MACHINE 2\nDRILL HOLES\n") ≡ Err (fault 2 causes.Value)
no_such_drill = refl

cycles_in_first : table_of (codes "MACHINE 1\nDRILL CYCLES\n") ≡ Err (fault 2 causes.Key)
cycles_in_first = refl

no_mode : table_of (codes "MACHINE 2\nMODE\n") ≡ Err (fault 2 causes.Value)
no_mode = refl

small_letters : table_of (codes "MACHINE 2\nMODE inc\n") ≡ Err (fault 2 causes.Value)
small_letters = refl

mode_twice : table_of (around (codes "MACHINE 2\n") (codes "MODE INC\nMODE ABS\n")) ≡ Err (fault 8 causes.Twice)
mode_twice = refl

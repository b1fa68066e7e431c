-- Small parts, which the checker reads and compiles.
use Rattle.std.specs.Prelude.{◌≡◌, refl, false, ℕ, ℤ, pos, neg_ℤ, codes, List, [], ◌∷◌, ◌++◌, Result, Ok, Err}
use Rattle.apt_num.specs.Root.{root}
use Rattle.apt_words.specs.declared.Command.TheVariants as commands
use Rattle.apt_words.specs.Vocabulary.{word_of}
use Rattle.apt_words.specs.declared.Case.{Case}
use Rattle.apt_words.specs.declared.Case.TheVariants as cases
use Rattle.apt_words.specs.declared.Refusal.{Refusal}
use Rattle.apt_words.specs.declared.Cool.TheVariants as cools
use Rattle.apt_words.specs.declared.Side.{Side}
use Rattle.apt_words.specs.declared.Turn.TheVariants as spins
use Rattle.apt_words.specs.declared.Side.TheVariants as sides
use Rattle.apt_words.specs.declared.Stop.{Stop}
use Rattle.apt_words.specs.declared.Stop.TheVariants as stops
use Rattle.apt_words.specs.declared.Units.TheVariants.{Inch, Mm}
use Rattle.apt_words.specs.declared.body.Stmt.{Stmt}
use Rattle.apt_lexis.specs.declared.cause.PartCause.TheVariants as causes
use Rattle.apt_expr.specs.Expressions.{expression}
use Rattle.apt_shapes.specs.Shapes.{shape}
use Rattle.apt_parse.specs.Programs.{TextFault, program_of}
use Rattle.apt_deeds.specs.Deeds.{by_values, executed, deed_of}
use Rattle.apt_unroll.specs.Actions.{action}
use Rattle.apt_unroll.specs.Trace.{trace_from}
use Rattle.apt_plane.specs.declared.figures.Surface.{Surface}
use Rattle.apt_plane.specs.declared.figures.Surface.TheVariants as figures
use Rattle.apt_records.specs.declared.record.Note.{Note}
use Rattle.apt_records.specs.declared.record.Note.TheVariants as notes
use Rattle.apt_records.specs.declared.record.Position.{Position}
use Rattle.apt_records.specs.declared.record.Reach.{Reach}
use Rattle.apt_records.specs.declared.record.Reach.TheVariants as reaches
use Rattle.apt_records.specs.declared.record.Record.{Record}
use Rattle.apt_records.specs.declared.record.Record.TheVariants as records
use Rattle.apt_meaning.specs.Situations.{position_at}
use Rattle.apt_meaning.specs.Motions.{motion_at}
use Rattle.apt_meaning.specs.StartUps.{start_up_at}
use Rattle.apt_meaning.specs.Effects.{defined}
use Rattle.apt_meaning.specs.Refusals.{refused_form}
use Rattle.apt_tapecode.specs.declared.Code.TheVariants.{Rs358}
use Rattle.apt_machine.specs.declared.machine.Machine.{Machine}
use Rattle.apt_control.specs.declared.Act.{Act}
use Rattle.apt_control.specs.declared.Act.TheVariants as acts
use Rattle.apt_post.specs.Plan.{plan, segments}
use Rattle.apt_part.specs.Compilation.{expanded, Compiled, records_by, part_of}

abbrev largest : Machine
largest = record { code = Rs358; seq = 1; feedmax = 9999; spinmax = 9999; toolmax = 99; changed = false; incremental = false; short = false; circles = false; cycles = false }

abbrev recorded : Result (List Stmt) TextFault → Result (Result (List Record) Refusal) TextFault
recorded (Ok statements) = Ok (records_by largest (expanded statements))
recorded (Err fault) = Err fault

-- the records of a text
abbrev records_of : List ℕ → Result (Result (List Record) Refusal) TextFault
records_of text = recorded (program_of text)

abbrev written : List Record → Result (Result (List Record) Refusal) TextFault
written rs = Ok (Ok rs)

-- the acts of records, and how many segments their contours have
record ActsAndSegments : Type 0 where
  acts : List Act
  segments : ℕ

abbrev planned : Result (Result Compiled Refusal) TextFault → Result (Result ActsAndSegments Refusal) TextFault
planned (Ok (Ok p)) = Ok (Ok (record { acts = plan p.records; segments = segments p.records }))
planned (Ok (Err refusal)) = Ok (Err refusal)
planned (Err fault) = Err fault

-- the acts of a text
abbrev acts_of : List ℕ → Result (Result ActsAndSegments Refusal) TextFault
acts_of text = planned (part_of largest text)

-- the n-th step, on the n-th line
abbrev refused : ℕ → Case → Result (Result (List Record) Refusal) TextFault
refused n case = Ok (Err (record { line = n; step = n; case = case }))

abbrev said : ℕ → ℕ → Note → List Record
said line n note = records.Statement line n ∷ records.Note note ∷ []

abbrev note_at : ℕ → Note → List Record
note_at n note = said n n note

abbrev titled : List Record
titled = note_at 1 (notes.Partno (codes "A"))

abbrev arrived : ℕ → ℕ → Reach → Position → List Record
arrived line n reach to = records.Statement line n ∷ records.Point reach to ∷ []

abbrev reached : ℕ → Reach → Position → List Record
reached n reach to = arrived n n reach to

abbrev at : ℕ → ℕ → ℕ → Position
at x y z = position_at (pos x) (pos y) (pos z)

abbrev line : ℤ → ℤ → ℤ → ℤ → Surface
line x y dx dy = figures.Line (record { base = record { x = x; y = y }; dir = record { dx = dx; dy = dy } })

abbrev cut : ℕ → Surface → Side → ℤ → Surface → Stop → Position → List Record
cut n drive side sense check how to =
    records.Statement n n ∷ records.Drive drive side sense ∷ records.Check check how ∷ records.Contour (to ∷ []) ∷ []

-- ---- a first part

first_records : records_of (codes "PARTNO FIRST\nFEDRAT/10\nFROM/0,0,0\nGOTO/1,2,3\nFINI\n") ≡
    written (note_at 1 (notes.Partno (codes "FIRST")) ++ note_at 2 (notes.Feed (pos 100)) ++ reached 3 reaches.From (at 0 0 0) ++ reached 4 reaches.Goto (at 100000 200000 300000) ++ note_at 5 notes.Fini)
unfolding root word_of expression shape by_values executed deed_of trace_from action motion_at start_up_at refused_form defined
first_records = refl

first_acts : acts_of (codes "PARTNO FIRST\nFEDRAT/10\nFROM/0,0,0\nGOTO/1,2,3\nFINI\n") ≡
    Ok (Ok (record { acts = acts.Units Inch ∷ acts.Cut (pos 100000) (pos 200000) (pos 300000) (pos 100) ∷ acts.End ∷ []; segments = 0 }))
unfolding root word_of expression shape by_values executed deed_of trace_from action motion_at start_up_at refused_form defined
first_acts = refl

-- ---- a square plate

abbrev plate : List ℕ
plate = codes "PARTNO SQUARE\nCUTTER/.5\nL1=LINE/0,0,5,0\nL2=LINE/5,0,5,5\nL3=LINE/5,5,0,5\nL4=LINE/0,5,0,0\nFEDRAT/10\nFROM/-1,-1,.5\nGO/TO,L1,TO,L4\nTLRGT\nGORGT/L1,PAST,L2\nGOLFT/L2,PAST,L3\nGOLFT/L3,PAST,L4\nGOLFT/L4,PAST,L1\nFINI\n"

abbrev low : ℤ
low = neg_ℤ (pos 25000)

abbrev high : ℤ
high = pos 525000

abbrev bottom : Surface
bottom = line (pos 0) (pos 0) (pos 500000) (pos 0)

abbrev right : Surface
right = line (pos 500000) (pos 0) (pos 0) (pos 500000)

abbrev top : Surface
top = line (pos 500000) (pos 500000) (neg_ℤ (pos 500000)) (pos 0)

abbrev left : Surface
left = line (pos 0) (pos 500000) (pos 0) (neg_ℤ (pos 500000))

-- past one edge to a corner
abbrev edge : ℕ → Surface → Surface → ℤ → ℤ → List Record
edge n drive check x y = cut n drive sides.Right (pos 1) check stops.Past (position_at x y (pos 50000))

plate_records : records_of plate ≡
    written (note_at 1 (notes.Partno (codes "SQUARE")) ++ note_at 2 (notes.Cutter (pos 50000)) ++ note_at 7 (notes.Feed (pos 100))
    ++ reached 8 reaches.From (position_at (neg_ℤ (pos 100000)) (neg_ℤ (pos 100000)) (pos 50000)) ++ reached 9 reaches.Start (position_at low low (pos 50000))
    ++ edge 11 bottom right high low ++ edge 12 right top high high ++ edge 13 top left low high ++ edge 14 left bottom low low ++ note_at 15 notes.Fini)
unfolding root word_of expression shape by_values executed deed_of trace_from action motion_at start_up_at refused_form defined
plate_records = refl

plate_acts : acts_of plate ≡
    Ok (Ok (record {
      acts = acts.Units Inch ∷ acts.Cut low low (pos 50000) (pos 100)
          ∷ acts.Cut high low (pos 50000) (pos 100) ∷ acts.Cut high high (pos 50000) (pos 100) ∷ acts.Cut low high (pos 50000) (pos 100) ∷ acts.Cut low low (pos 50000) (pos 100) ∷ acts.End ∷ [];
      segments = 4;
    }))
unfolding root word_of expression shape by_values executed deed_of trace_from action motion_at start_up_at refused_form defined
plate_acts = refl

-- ---- each statement

-- REMARK, CLPRNT, NOPOST, MACHIN and a scalar write no record
says_nothing : records_of (codes "PARTNO A\nREMARK B\nCLPRNT\nNOPOST\nMACHIN/1,C\nD=2*3\nFINI\n") ≡
    written (titled ++ note_at 7 notes.Fini)
unfolding root word_of expression shape by_values executed deed_of trace_from action motion_at start_up_at refused_form defined
says_nothing = refl

lengths : records_of (codes "PARTNO A\nUNITS/MM\nCUTTER/6\nINTOL/.01\nOUTTOL/.02\nFEDRAT/120\nFINI\n") ≡
    written (titled ++ note_at 2 (notes.Units Mm) ++ note_at 3 (notes.Cutter (pos 60000)) ++ note_at 4 (notes.Intol (pos 100)) ++ note_at 5 (notes.Outtol (pos 200)) ++ note_at 6 (notes.Feed (pos 1200)) ++ note_at 7 notes.Fini)
unfolding root word_of expression shape by_values executed deed_of trace_from action motion_at start_up_at refused_form defined
lengths = refl

inches : records_of (codes "PARTNO A\nUNITS/INCHES\nFINI\n") ≡
    written (titled ++ note_at 2 (notes.Units Inch) ++ note_at 3 notes.Fini)
unfolding root word_of expression shape by_values executed deed_of trace_from action motion_at start_up_at refused_form defined
inches = refl

moves : records_of (codes "PARTNO A\nFEDRAT/1\nFROM/1,2\nGOTO/3,4,5\nGODLTA/.5,.5,1\nFINI\n") ≡
    written (titled ++ note_at 2 (notes.Feed (pos 10)) ++ reached 3 reaches.From (at 100000 200000 0) ++ reached 4 reaches.Goto (at 300000 400000 500000) ++ reached 5 reaches.Godlta (at 350000 450000 600000) ++ note_at 6 notes.Fini)
unfolding root word_of expression shape by_values executed deed_of trace_from action motion_at start_up_at refused_form defined
moves = refl

machine_words : records_of (codes "PARTNO A\nSPINDL/1200\nSPINDL/700,CLW\nSPINDL/70.5,CCLW\nSPINDL/OFF\nCOOLNT/MIST\nCOOLNT/FLOOD\nCOOLNT/OFF\nLOADTL/7\nFINI\n") ≡
    written (titled ++ note_at 2 (notes.Do (commands.Spindle spins.Cw (pos 1200))) ++ note_at 3 (notes.Do (commands.Spindle spins.Cw (pos 700))) ++ note_at 4 (notes.Do (commands.Spindle spins.Ccw (pos 71))) ++ note_at 5 (notes.Do (commands.Spindle spins.Off (pos 0)))
    ++ note_at 6 (notes.Do (commands.Coolant cools.Mist)) ++ note_at 7 (notes.Do (commands.Coolant cools.Flood)) ++ note_at 8 (notes.Do (commands.Coolant cools.Off)) ++ note_at 9 (notes.Do (commands.Tool (pos 7))) ++ note_at 10 notes.Fini)
unfolding root word_of expression shape by_values executed deed_of trace_from action motion_at start_up_at refused_form defined
machine_words = refl

halts : records_of (codes "PARTNO A\nSTOP\nOPSTOP\nRAPID\nGOTO/0,0\nEND\nFINI\n") ≡
    written (titled ++ note_at 2 (notes.Do commands.Stop) ++ note_at 3 (notes.Do commands.OptStop) ++ note_at 4 notes.Rapid ++ reached 5 reaches.Goto (at 0 0 0) ++ note_at 6 notes.End ++ note_at 7 notes.Fini)
unfolding root word_of expression shape by_values executed deed_of trace_from action motion_at start_up_at refused_form defined
halts = refl

-- the end is given once
halts_are_acts : acts_of (codes "PARTNO A\nSTOP\nOPSTOP\nRAPID\nGOTO/0,0\nEND\nFINI\n") ≡
    Ok (Ok (record { acts = acts.Units Inch ∷ acts.Do commands.Stop ∷ acts.Do commands.OptStop ∷ acts.Rapid (pos 0) (pos 0) (pos 0) ∷ acts.End ∷ []; segments = 0 }))
unfolding root word_of expression shape by_values executed deed_of trace_from action motion_at start_up_at refused_form defined
halts_are_acts = refl

abbrev across : Surface
across = line (pos 0) (pos 0) (pos 100000) (pos 0)

abbrev up : Surface
up = line (pos 200000) (pos 0) (pos 0) (pos 100000)

-- the lines, the feed, and a move along the first
abbrev before : Position → List Record
before to = titled ++ note_at 4 (notes.Feed (pos 10)) ++ reached 5 reaches.From (position_at (neg_ℤ (pos 100000)) (pos 0) (pos 0)) ++ reached 6 reaches.Goto to

forward : records_of (codes "PARTNO A\nL1=LINE/0,0,1,0\nL2=LINE/2,0,2,1\nFEDRAT/1\nFROM/-1,0\nGOTO/0,0\nTLLFT\nGOFWD/L1,TO,L2\nFINI\n") ≡
    written (before (at 0 0 0) ++ cut 8 across sides.Left (pos 1) up stops.To (at 200000 0 0) ++ note_at 9 notes.Fini)
unfolding root word_of expression shape by_values executed deed_of trace_from action motion_at start_up_at refused_form defined
forward = refl

-- a tool word before a contour, and TO where no stop is named
forward_by_the_stop_alone : records_of (codes "PARTNO A\nL1=LINE/0,0,1,0\nL2=LINE/2,0,2,1\nFEDRAT/1\nFROM/-1,0\nGOTO/0,0\nTLRGT,GOFWD/L1,L2\nFINI\n") ≡
    written (before (at 0 0 0) ++ cut 7 across sides.Right (pos 1) up stops.To (at 200000 0 0) ++ note_at 8 notes.Fini)
unfolding root word_of expression shape by_values executed deed_of trace_from action motion_at start_up_at refused_form defined
forward_by_the_stop_alone = refl

back : records_of (codes "PARTNO A\nL1=LINE/0,0,1,0\nL2=LINE/2,0,2,1\nFEDRAT/1\nFROM/-1,0\nGOTO/3,0\nTLRGT\nGOBACK/L1,TO,L2\nFINI\n") ≡
    written (before (at 300000 0 0) ++ cut 8 across sides.Right (neg_ℤ (pos 1)) up stops.To (at 200000 0 0) ++ note_at 9 notes.Fini)
unfolding root word_of expression shape by_values executed deed_of trace_from action motion_at start_up_at refused_form defined
back = refl

abbrev onto : List Record
onto = titled ++ note_at 4 (notes.Feed (pos 10)) ++ reached 5 reaches.From (position_at (pos 200000) (neg_ℤ (pos 100000)) (pos 0)) ++ reached 6 reaches.Goto (at 200000 0 0)

to_the_left : records_of (codes "PARTNO A\nL1=LINE/0,0,1,0\nL2=LINE/0,0,0,1\nFEDRAT/1\nFROM/2,-1\nGOTO/2,0\nTLLFT\nGOLFT/L1,PAST,L2\nFINI\n") ≡
    written (onto ++ cut 8 across sides.Left (neg_ℤ (pos 1)) (line (pos 0) (pos 0) (pos 0) (pos 100000)) stops.Past (at 0 0 0) ++ note_at 9 notes.Fini)
unfolding root word_of expression shape by_values executed deed_of trace_from action motion_at start_up_at refused_form defined
to_the_left = refl

to_the_right : records_of (codes "PARTNO A\nL1=LINE/0,0,1,0\nL2=LINE/4,0,4,1\nFEDRAT/1\nFROM/2,-1\nGOTO/2,0\nTLRGT\nGORGT/L1,PAST,L2\nFINI\n") ≡
    written (onto ++ cut 8 across sides.Right (pos 1) (line (pos 400000) (pos 0) (pos 0) (pos 100000)) stops.Past (at 400000 0 0) ++ note_at 9 notes.Fini)
unfolding root word_of expression shape by_values executed deed_of trace_from action motion_at start_up_at refused_form defined
to_the_right = refl

start_up : records_of (codes "PARTNO A\nCUTTER/2\nL1=LINE/0,0,1,0\nL2=LINE/0,0,0,1\nFEDRAT/1\nFROM/5,5,1\nGO/TO,L1,PAST,L2\nFINI\n") ≡
    written (titled ++ note_at 2 (notes.Cutter (pos 200000)) ++ note_at 5 (notes.Feed (pos 10)) ++ reached 6 reaches.From (at 500000 500000 100000) ++ reached 7 reaches.Start (position_at (neg_ℤ (pos 100000)) (pos 100000) (pos 100000)) ++ note_at 8 notes.Fini)
unfolding root word_of expression shape by_values executed deed_of trace_from action motion_at start_up_at refused_form defined
start_up = refl

-- ---- to the second meeting: a record for each of two legs

abbrev ring : Surface
ring = figures.Circ (record { c = record { x = pos 300000; y = pos 0 }; r = pos 100000 })

-- a line through a circle, which leads to where these words say
abbrev through : List ℕ → List ℕ
through words = codes "PARTNO A\nL1=LINE/0,0,1,0\nC1=CIRCLE/3,0,1\nFEDRAT/1\nFROM/-1,0\nGOTO/0,0\nGOFWD/L1," ++ words ++ codes "\nFINI\n"

abbrev leg : Position → Record
leg to = records.Contour (to ∷ [])

twice : records_of (through (codes "ON,2,INTOF,C1")) ≡
    written (before (at 0 0 0) ++ records.Statement 7 7 ∷ records.Drive across sides.On (pos 1) ∷ records.Check ring stops.On ∷ leg (at 200000 0 0) ∷ leg (at 400000 0 0) ∷ note_at 8 notes.Fini)
unfolding root word_of expression shape by_values executed deed_of trace_from action motion_at start_up_at refused_form defined
twice = refl

twice_are_acts : acts_of (through (codes "ON,2,INTOF,C1")) ≡
    Ok (Ok (record { acts = acts.Units Inch ∷ acts.Cut (pos 0) (pos 0) (pos 0) (pos 10) ∷ acts.Cut (pos 200000) (pos 0) (pos 0) (pos 10) ∷ acts.Cut (pos 400000) (pos 0) (pos 0) (pos 10) ∷ acts.End ∷ []; segments = 2 }))
unfolding root word_of expression shape by_values executed deed_of trace_from action motion_at start_up_at refused_form defined
twice_are_acts = refl

-- once where the count is 1 or none is said
once : records_of (through (codes "ON,1,INTOF,C1")) ≡ records_of (through (codes "ON,C1"))
unfolding root word_of expression shape by_values executed deed_of trace_from action motion_at start_up_at refused_form defined
once = refl

third_meeting : records_of (through (codes "ON,3,INTOF,C1")) ≡ refused 7 cases.BadCount
unfolding root word_of expression shape by_values executed deed_of trace_from action motion_at start_up_at refused_form defined
third_meeting = refl

-- ---- macros, loops and jumps: the line of a record is its statement's, the step counts on

called : records_of (codes "PARTNO A\nM=MACRO/X,Y=2\nGOTO/X,Y\nTERMAC\nFEDRAT/1\nFROM/0,0\nCALL/M,X=1\nFINI\n") ≡
    written (titled ++ said 5 2 (notes.Feed (pos 10)) ++ arrived 6 3 reaches.From (at 0 0 0) ++ arrived 3 5 reaches.Goto (at 100000 200000 0) ++ said 8 7 notes.Fini)
unfolding root word_of expression shape by_values executed deed_of trace_from action motion_at start_up_at refused_form defined
called = refl

looped : records_of (codes "PARTNO A\nFEDRAT/1\nFROM/0,0\nN=0\nLOOPST\nL)N=N+1\nGODLTA/1,0,0\nIF(N-2)L,E,E\nE)LOOPND\nFINI\n") ≡
    written (titled ++ note_at 2 (notes.Feed (pos 10)) ++ reached 3 reaches.From (at 0 0 0)
    ++ arrived 7 7 reaches.Godlta (at 100000 0 0) ++ arrived 7 10 reaches.Godlta (at 200000 0 0) ++ said 10 13 notes.Fini)
unfolding root word_of expression shape by_values executed deed_of trace_from action motion_at start_up_at refused_form defined
looped = refl

jumped : records_of (codes "PARTNO A\nLOOPST\nJUMPTO/B\nSTOP\nB)LOOPND\nFINI\n") ≡
    written (titled ++ said 6 5 notes.Fini)
unfolding root word_of expression shape by_values executed deed_of trace_from action motion_at start_up_at refused_form defined
jumped = refl

-- ---- refusals and faults

past_the_machine : records_of (codes "PARTNO A\nFEDRAT/1000\nFINI\n") ≡
    refused 2 cases.FeedTooLarge
unfolding root word_of expression shape by_values executed deed_of trace_from action motion_at start_up_at refused_form defined
past_the_machine = refl

-- of two refused steps the first
refused_before_the_machine : records_of (codes "PARTNO A\nGOTO/1,2\nFEDRAT/1000\nFINI\n") ≡
    refused 2 cases.NoFeed
unfolding root word_of expression shape by_values executed deed_of trace_from action motion_at start_up_at refused_form defined
refused_before_the_machine = refl

the_machine_first : records_of (codes "PARTNO A\nFEDRAT/1000\nGOTO/1000,2\nFINI\n") ≡
    refused 2 cases.FeedTooLarge
unfolding root word_of expression shape by_values executed deed_of trace_from action motion_at start_up_at refused_form defined
the_machine_first = refl

refused_before_unknown : records_of (codes "PARTNO A\nGOTO/1,2\nGOTO/B,2\nFINI\n") ≡
    refused 2 cases.NoFeed
unfolding root word_of expression shape by_values executed deed_of trace_from action motion_at start_up_at refused_form defined
refused_before_unknown = refl

machine_before_unknown : records_of (codes "PARTNO A\nFEDRAT/1000\nGOTO/B,2\nFINI\n") ≡
    refused 2 cases.FeedTooLarge
unfolding root word_of expression shape by_values executed deed_of trace_from action motion_at start_up_at refused_form defined
machine_before_unknown = refl

-- the steps stop before a value that is refused
unknown : records_of (codes "PARTNO A\nFEDRAT/1\nGOTO/B,2\nGOTO/1000,2\nFINI\n") ≡
    refused 3 cases.Unknown
unfolding root word_of expression shape by_values executed deed_of trace_from action motion_at start_up_at refused_form defined
unknown = refl

no_length : records_of (codes "PARTNO A\nL1=LINE/1,2,1,2\nFINI\n") ≡
    refused 2 cases.Degenerate
unfolding root word_of expression shape by_values executed deed_of trace_from action motion_at start_up_at refused_form defined
no_length = refl

-- ---- holes

-- over a point, down, and up
abbrev hole : ℕ → ℕ → List Record
hole n x =
    note_at n notes.Rapid ++ reached n reaches.Goto (at x 0 10000) ++ reached n reaches.Goto (position_at (pos x) (pos 0) (neg_ℤ (pos 25000)))
    ++ note_at n notes.Rapid ++ reached n reaches.Goto (at x 0 10000)

-- the steps that name a pattern and set a cycle have no records, and a visit has those of each point
two_holes : records_of (codes "PARTNO A\nP=POINT/0,0,0\nQ=POINT/1,0,0\nB=PATERN/LINEAR,P,Q,2\nFEDRAT/5\nFROM/2,0,1\nCYCLE/DRILL,.25,.1\nGOTO/B\nCYCLE/OFF\nGOTO/B\nFINI\n") ≡
    written (titled ++ note_at 5 (notes.Feed (pos 50)) ++ reached 6 reaches.From (at 200000 0 100000) ++ hole 8 0 ++ hole 8 100000
    ++ reached 10 reaches.Goto (at 0 0 0) ++ reached 10 reaches.Goto (at 100000 0 0) ++ note_at 11 notes.Fini)
unfolding root word_of expression shape by_values executed deed_of trace_from action motion_at start_up_at refused_form defined
two_holes = refl

one_point : records_of (codes "PARTNO A\nP=POINT/0,0,0\nB=PATERN/LINEAR,P,P,1\nFINI\n") ≡ refused 3 cases.BadCount
unfolding root word_of expression shape by_values executed deed_of trace_from action motion_at start_up_at refused_form defined
one_point = refl

-- a definition that its own case refuses comes before a cycle behind it
no_line : records_of (codes "PARTNO A\nP=POINT/0,0,0\nL=LINE/P,P\nCYCLE/DRILL,0,0\nFINI\n") ≡ refused 3 cases.Degenerate
unfolding root word_of expression shape by_values executed deed_of trace_from action motion_at start_up_at refused_form defined
no_line = refl

-- a fault of the text comes before all steps
fault_first : records_of (codes "PARTNO A\nGOTO/1,2\nGOTO/1,2,3,4\nFINI\n") ≡
    Err (3, causes.BadShape)
unfolding root word_of expression shape by_values executed deed_of trace_from action motion_at start_up_at refused_form defined
fault_first = refl

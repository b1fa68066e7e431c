-- The words of the command line.
use Rattle.std.specs.Prelude.{ℕ, ◌&&◌, Bool, not, List, [], ◌∷◌, map, length, ◌==◌, Option, Some, None, option_map, codes, if◌then◌else◌}
use Rattle.std.proofs.Common.{String, string_bytes, bytes_eq}
use Rattle.apt_machine.specs.Numbers.{number_within}

-- the bytes of the words
abbrev pub texts : {A : Type 0} → List (String A) → List (List ℕ)
texts words = map string_bytes words

-- the names PART, MACHINE, CL and TAPE
pub record FourNames : Type 0 where
  pub part : List ℕ
  pub machine : List ℕ
  pub cl : List ℕ
  pub tape : List ℕ

abbrev pub names_of : List ℕ → List ℕ → List ℕ → List ℕ → FourNames
names_of part machine cl tape = record { part = part; machine = machine; cl = cl; tape = tape }

-- the names MACHINE and TAPE
pub record TapeNames : Type 0 where
  pub machine : List ℕ
  pub tape : List ℕ

abbrev pub tape_names_of : List ℕ → List ℕ → TapeNames
tape_names_of machine tape = record { machine = machine; tape = tape }

-- to compile a part for a machine, to a CL file and a tape; to certify a CL file and a tape against them; to decode a tape of the machine; to list the
-- points of the CL file of a name; to show the part of so many circles; or to certify, and guard the outline of a name
pub data Work : Type 0 where
  Compile : FourNames → Work
  Certify : FourNames → Work
  Decode : TapeNames → Work
  Listing : List ℕ → Work
  Demo : ℕ → Work
  Guard : FourNames → List ℕ → Work

-- a name has at least one byte
abbrev pub is_name : List ℕ → Bool
is_name word = not (length word == 0)

abbrev pub are_names : FourNames → Bool
are_names n = is_name n.part && is_name n.machine && is_name n.cl && is_name n.tape

abbrev pub differ : List ℕ → List ℕ → Bool
differ a b = not (bytes_eq a b)

-- the outputs differ from each other and from the inputs
abbrev pub are_apart : FourNames → Bool
are_apart n = differ n.cl n.part && differ n.cl n.machine && differ n.cl n.tape && differ n.tape n.part && differ n.tape n.machine

abbrev pub compile_work : FourNames → Option Work
compile_work n = if are_names n && are_apart n then Some (Compile n) else None

abbrev pub certify_work : FourNames → Option Work
certify_work n = if are_names n then Some (Certify n) else None

abbrev pub command_work : List ℕ → FourNames → Option Work
command_work word n = if bytes_eq word (codes "compile") then compile_work n else if bytes_eq word (codes "certify") then certify_work n else None

abbrev pub are_tape_names : TapeNames → Bool
are_tape_names n = is_name n.machine && is_name n.tape

abbrev pub decode_work : List ℕ → TapeNames → Option Work
decode_work word n = if bytes_eq word (codes "decode") && are_tape_names n then Some (Decode n) else None

abbrev pub list_work : List ℕ → Option Work
list_work name = if is_name name then Some (Listing name) else None

-- a number from 1 to 800, in plain digits
abbrev pub demo_work : List ℕ → Option Work
demo_work text = option_map Demo (number_within 1 800 text)

abbrev pub word_work : List ℕ → List ℕ → Option Work
word_work word text = if bytes_eq word (codes "list") then list_work text else if bytes_eq word (codes "demo") then demo_work text else None

abbrev pub guard_work : List ℕ → FourNames → List ℕ → Option Work
guard_work word n outline = if bytes_eq word (codes "guard") && are_names n && is_name outline then Some (Guard n outline) else None

-- what the words ask, by their shapes; none where they fit no shape
abbrev pub work_in : List (List ℕ) → Option Work
work_in (word ∷ part ∷ machine ∷ cl ∷ tape ∷ []) = command_work word (names_of part machine cl tape)
work_in (word ∷ part ∷ machine ∷ cl ∷ tape ∷ outline ∷ []) = guard_work word (names_of part machine cl tape) outline
work_in (word ∷ machine ∷ tape ∷ []) = decode_work word (tape_names_of machine tape)
work_in (word ∷ text ∷ []) = word_work word text
work_in _ = None

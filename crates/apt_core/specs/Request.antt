-- What a request of the code asks.
use Rattle.std.specs.Prelude.{◌≢◌, ◌≤◌}
use Rattle.apt_core.specs.declared.words.Names.{Names}
use Rattle.apt_core.specs.declared.words.TapeNames.{TapeNames as TapeWords}
use Rattle.apt_core.specs.declared.words.Request.{Request}
use Rattle.apt_core.specs.declared.words.Request.TheVariants as requests
use Rattle.apt_core.specs.Words.{FourNames, names_of, TapeNames, tape_names_of, Work, Compile, Certify, Decode, Listing, Demo, Guard}

abbrev pub four_names : Names → FourNames
four_names n = names_of n.part.now n.machine.now n.cl.now n.tape.now

abbrev pub tape_names : TapeWords → TapeNames
tape_names n = tape_names_of n.machine.now n.tape.now

abbrev pub work_of : Request → Work
work_of (requests.Compile n) = Compile (four_names n)
work_of (requests.Certify n) = Certify (four_names n)
work_of (requests.Decode n) = Decode (tape_names n)
work_of (requests.List name) = Listing name.now
work_of (requests.Demo n) = Demo n
work_of (requests.Guard n outline) = Guard (four_names n) outline.now

-- the two outputs of `compile` have names of their own, and `demo` has from 1 to 800 circles
abbrev pub IsSound : Request → Type 0
IsSound (requests.Compile n) = n.cl.now ≢ n.tape.now
IsSound (requests.Demo n) = (1 ≤ n) × (n ≤ 800)
IsSound _ = Unit {0}

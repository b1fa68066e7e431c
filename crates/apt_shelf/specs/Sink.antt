-- What a MemSink was given, and the puts that it counts.
use Rattle.std.specs.Prelude.{ℕ, List}
use Rattle.apt_shelf.specs.Tally.{Tally}
use Rattle.apt_shelf.specs.declared.sink.MemSink.{MemSink}

-- all bytes that were put
abbrev pub shown_of : MemSink → List ℕ
shown_of sink = sink.bytes.items

-- how often a put has failed
abbrev pub faults_of : MemSink → ℕ
faults_of sink = sink.faults

-- the puts
abbrev pub puts_of : MemSink → Tally
puts_of sink = sink.puts

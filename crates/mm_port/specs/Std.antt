-- What a source and a sink over std's readers and writers show.
use Rattle.std.specs.Prelude.{ℕ}
use Rattle.mm_port.specs.declared.std_port.StdSource.{StdSource}
use Rattle.mm_port.specs.declared.std_port.StdSink.{StdSink}

-- the reader that a source reads from
abbrev pub reader_of : {R : Type 0} → StdSource R → R
reader_of s = s.inner

abbrev pub read_faults : {R : Type 0} → StdSource R → ℕ
read_faults s = s.faults

-- the writer that a sink writes to
abbrev pub writer_of : {W : Type 0} → StdSink W → W
writer_of s = s.inner

abbrev pub write_faults : {W : Type 0} → StdSink W → ℕ
write_faults s = s.faults

-- What is seen of the fakes: which calls fail, how many were made, and how many bytes go in one.
use Rattle.std.specs.Prelude.{ℕ, List}
use Rattle.upd_fakes.specs.declared.mem_sink.MemSink.{MemSink}
use Rattle.upd_fakes.specs.declared.mem_source.MemSource.{MemSource}

-- the numbers of the reads that fail
abbrev pub source_fails : MemSource → List ℕ
source_fails s = s.fails.items

-- how many reads were made
abbrev pub source_reads : MemSource → ℕ
source_reads s = s.reads

-- how many bytes a read gives at most
abbrev pub source_piece : MemSource → ℕ
source_piece s = s.piece

-- the numbers of the writes that fail
abbrev pub sink_fails : MemSink → List ℕ
sink_fails s = s.fails.items

-- how many writes were made
abbrev pub sink_writes : MemSink → ℕ
sink_writes s = s.writes

-- how many bytes a write takes at most
abbrev pub sink_piece : MemSink → ℕ
sink_piece s = s.piece

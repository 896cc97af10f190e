-- What is seen of the lines in memory: which calls fail, how many were made, and how many bytes go in one.
use Rattle.std.specs.Prelude.{ℕ, ◌+◌, ◌*◌, ◌==◌, ◌&&◌, if◌then◌else◌, List, Option, Some, None, slice_index}
use Rattle.line_fakes.specs.declared.mem_line.MemLine.{MemLine}
use Rattle.line_fakes.specs.declared.mem_lines.MemLines.{MemLines}
use Rattle.line_fakes.specs.declared.lie_lines.LieLine.{LieLine}
use Rattle.line_fakes.specs.declared.lie_lines.LieLines.{LieLines}
use Rattle.line_fakes.specs.declared.line_fail.LineFail.{LineFail}

-- the numbers of the puts that fail, and how many puts were made; the same of gets
abbrev pub put_fails : MemLine → List ℕ
put_fails l = l.put_fails.items

abbrev pub puts : MemLine → ℕ
puts l = l.puts

abbrev pub get_fails : MemLine → List ℕ
get_fails l = l.get_fails.items

abbrev pub gets : MemLine → ℕ
gets l = l.gets

-- how many bytes a put takes, and a get gives, at most
abbrev pub piece_of : MemLine → ℕ
piece_of l = l.piece

-- the place of a pair of members in a table
abbrev pub pair : ℕ → ℕ → ℕ
pair from to = from * 7 + to

-- the fails of a maker, how many bytes its lines take at most, and how many lines from one member to another were to be made
abbrev pub line_fails : MemLines → List LineFail
line_fails m = m.fails.items

abbrev pub pieces : MemLines → ℕ
pieces m = m.piece

abbrev pub makings : MemLines → ℕ → ℕ → ℕ
makings m from to = slice_index m.made (pair from to)

-- the place where a line lies, and where the lines of a maker do
abbrev pub lie_of : LieLine → Option ℕ
lie_of l = l.lie

abbrev pub lies_at : LieLines → ℕ → ℕ → Option ℕ
lies_at m from to = if (m.from == from) && (m.to == to) then Some m.at else None

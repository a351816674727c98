-- What the code holds of a line.
use Rattle.std.specs.Option.{option_copied}
use Rattle.asm_line.specs.Lines.{Line}
use Rattle.asm_line.specs.declared.lines.SourceLine.{SourceLine}

-- a line that was cut
abbrev pub line_seen : SourceLine → Line
line_seen l = record { label = option_copied l.label; statement = l.statement.now }

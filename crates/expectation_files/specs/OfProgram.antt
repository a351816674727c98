-- Which faults of a line are of a program, and not of the line alone.
use Rattle.std.specs.Prelude.{Bool, true, false}
use Rattle.expectation_files.specs.declared.faults.LineFaultKind.{LineFaultKind}
use Rattle.expectation_files.specs.declared.faults.LineFaultKind.TheVariants as fault

-- whether the line may be right of another program: the name of a data word, the data word, the stream, the program word or
-- the order of two program words is not that of this one
abbrev pub is_of_program : LineFaultKind → Bool
is_of_program fault.Name = true
is_of_program fault.MissingWord = true
is_of_program fault.MissingStream = true
is_of_program fault.Place = true
is_of_program fault.PlaceRange = true
is_of_program fault.Unknown = false
is_of_program (fault.Form form) = false
is_of_program fault.Address = false
is_of_program fault.Points = false
is_of_program fault.Range = false
is_of_program fault.Stream = false
is_of_program fault.Register = false
is_of_program fault.Number = false
is_of_program fault.Trap = false
is_of_program fault.Count = false
is_of_program fault.Operation = false
is_of_program fault.Beyond = false
is_of_program fault.Busy = false
is_of_program fault.Starved = false
is_of_program fault.Twice = false
is_of_program fault.Worth = false
is_of_program fault.Again = false

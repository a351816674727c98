-- The lines of a source text that have a fault by themselves. Lines count from 0.
use Rattle.std.specs.Prelude.{ℕ, ◌+◌, List, [], ◌∷◌, ◌++◌, Result, Ok, Err}
use Rattle.insn_word.specs.declared.profiles.Profile.{Profile}
use Rattle.asm_line.specs.Lines.{Line, lines, line_item, place, count_words, word_count}
use Rattle.asm_line.specs.Operands.{Places}
use Rattle.asm_line.specs.Profiles.{profile_of}
use Rattle.asm_line.specs.declared.fault.Fault.{Fault}
use Rattle.asm_line.specs.declared.item.Item.{Item}
use Rattle.source_places.specs.declared.faulty_lines.LineFault.{LineFault}

-- line k, where this is what it adds or its fault
abbrev pub fault_on : ℕ → Result Item Fault → List LineFault
fault_on k (Ok i) = []
fault_on k (Err e) = record { number = k; kind = e } ∷ []

-- Of lines of which the first is line k, those that have a fault, each with its least one. The text has this profile,
-- its labels stand at these places, and it has so many program words in all, of which so many stand before the lines.
abbrev pub line_faults_from : Profile → Places → ℕ → ℕ → ℕ → List Line → List LineFault
line_faults_from p places words k here [] = []
line_faults_from p places words k here (l ∷ ls) =
    fault_on k (line_item p places words k here l)
    ++ line_faults_from p places words (k + 1) (here + word_count l) ls

-- the lines of a text that have a fault by themselves, in their order
abbrev pub line_faults : List ℕ → List LineFault
line_faults text = let ls = lines text in line_faults_from (profile_of ls) (place ls) (count_words ls) 0 0 ls

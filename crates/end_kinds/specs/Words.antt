-- The words for the kinds of ends.
use Rattle.std.specs.Prelude.{ℕ, List, codes}
use Rattle.end_kinds.specs.declared.kinds.EndKind.{EndKind}
use Rattle.end_kinds.specs.declared.kinds.EndKind.TheVariants as kind

-- in tables
abbrev pub name_of : EndKind → List ℕ
name_of kind.Finished = codes "finished"
name_of kind.Stopped = codes "stopped"
name_of kind.Deadlock = codes "deadlock"
name_of kind.Waiting = codes "waiting"
name_of kind.Spinning = codes "spinning"
name_of kind.Looping = codes "looping"
name_of kind.OutOfSteps = codes "out of steps"

-- in JSON
abbrev pub json_name_of : EndKind → List ℕ
json_name_of kind.Finished = codes "finished"
json_name_of kind.Stopped = codes "stopped"
json_name_of kind.Deadlock = codes "deadlock"
json_name_of kind.Waiting = codes "waiting"
json_name_of kind.Spinning = codes "spinning"
json_name_of kind.Looping = codes "looping"
json_name_of kind.OutOfSteps = codes "steps"

-- of a run, in a sentence
abbrev pub sentence_of : EndKind → List ℕ
sentence_of kind.Finished = codes "nobody runs"
sentence_of kind.Stopped = codes "nobody runs"
sentence_of kind.Deadlock = codes "deadlock"
sentence_of kind.Waiting = codes "waits"
sentence_of kind.Spinning = codes "spins"
sentence_of kind.Looping = codes "loops"
sentence_of kind.OutOfSteps = codes "ran out of steps"

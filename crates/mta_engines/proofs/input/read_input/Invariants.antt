use Rattle.std.proofs.Common.{◌≤◌, ◌-◌, vec_len}
use Rattle.std.specs.Io.KnownBytes.{Consumes}
use Rattle.mta_engines.specs.Input.{input_limit}
use Rattle.mta_engines.proofs.input.read_input.Given as goal

abbrev pub invariant-loop-count : goal.invariant-loop-count
invariant-loop-count g l = Consumes (g.R.Read.remaining l.initial.reader) (g.R.Read.remaining l.reader) l.input.items
    × (vec_len l.input ≤ input_limit)

abbrev pub decreases-loop-count : goal.decreases-loop-count
decreases-loop-count g l = input_limit - vec_len l.input

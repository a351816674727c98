use Rattle.std.proofs.Common.{◌≡◌, ◌+◌, ◌++◌, drop, string_bytes}
use Rattle.mta_engines.specs.ThreadsOutput.{history_text}
use Rattle.mta_engines.proofs.threads.push_history.Given as goal

-- the text so far and the lines to come are the whole history
abbrev pub invariant-loop-index : goal.invariant-loop-index
invariant-loop-index l =
    string_bytes l.text ++ history_text (l.index + 1) (drop l.index l.history)
    ≡ string_bytes l.initial.text ++ history_text 1 l.history

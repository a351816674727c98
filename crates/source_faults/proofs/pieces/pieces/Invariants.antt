use Rattle.std.proofs.Common.{◌+◌, length}
use Rattle.std.specs.Option.{option_map_or}
use Rattle.fault_messages.specs.declared.token.Token.{Token}
use Rattle.source_faults.proofs.pieces.pieces.Given as goal

abbrev pub decreases-loop-rest : goal.decreases-loop-rest
decreases-loop-rest l = option_map_or (λ (t : Token). length t.bytes.now + 1) l.rest 0

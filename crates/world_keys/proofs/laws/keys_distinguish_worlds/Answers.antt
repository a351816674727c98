use Rattle.world_keys.proofs.Worlds.{known_kept}
use Rattle.world_keys.proofs.laws.keys_distinguish_worlds.Goals as goal

pub returns-clause-known : goal.returns-clause-known
returns-clause-known c = known_kept

use Rattle.image_file.proofs.Profiles.{no_chain}
use Rattle.image_file.proofs.writing.put_chain_limit.Goals as goal

pub returns-in-One : goal.returns-in-One
returns-in-One c = rw c.in-One.is (no_chain c.args.out.now.items c.args.limit)

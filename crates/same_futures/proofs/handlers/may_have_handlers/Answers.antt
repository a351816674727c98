use Rattle.std.proofs.Common.{arith}
use Rattle.std.proofs.lemmas.Grind.{common_steps}
use Rattle.same_futures.specs.Handlers.{may_have_handlers}
use Rattle.same_futures.proofs.NoHandlers.{told_by}
use Rattle.same_futures.proofs.handlers.may_have_handlers.Goals as goal

pub returns-else-trap_entry-ne-NO_HANDLER-clause-told : goal.returns-else-trap_entry-ne-NO_HANDLER-clause-told
unfolding may_have_handlers
returns-else-trap_entry-ne-NO_HANDLER-clause-told c =
    told_by c.args.image.now c.any_sets_handler.result (grind (arith, common_steps))

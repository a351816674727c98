use Rattle.std.proofs.Common.{refl}
use Rattle.image_file.specs.ImageValue.{image_in}
use Rattle.image_file.proofs.Limits.{within_none, an_entry_fails}
use Rattle.image_file.proofs.image.Image.in_profile.Goals as goal

pub returns-in-Some-entry_fault-clause-within : goal.returns-in-Some-entry_fault-clause-within
returns-in-Some-entry_fault-clause-within c = (
  λ e. absurd cc,
  λ w. absurd (an_entry_fails _ _ c.in-Some-entry_fault.processor (cc (c.deref.ensures.value)) w.entries_stand),
)

pub invariant_of-result : goal.invariant_of-result
invariant_of-result c =
    within_none _ c.count_fault.result c.len-4.result c.entry_fault.result c.requires (cc) c.in_default.not-Some (cc) (cc)
    c.in_default-entry_fault.not-Some

pub returns-clause-within : goal.returns-clause-within
returns-clause-within c =
    let parts = image_in c.args.profile c.args.chain c.args.entries.now.items c.args.slim c.args.retry_limit
    c.args.trap_entry c.args.program.now.items c.args.cells.now.items in (
      λ _. within_none parts c.count_fault.result c.len-4.result c.entry_fault.result c.requires (cc)
          c.in_default.not-Some (cc) (cc)
          c.in_default-entry_fault.not-Some,
      λ w. refl,
    )

use Rattle.std.proofs.Common.{ap, ◌∙◌}
use Rattle.run_findings.specs.TornReads.{is_later}
use Rattle.run_findings.proofs.stale.is_overwritten.Goals as goal

pub returns : goal.returns
returns c = c.is_later.ensures ∙ ap (is_later c.args.read) (c.requires.last.is c.args.read _ c.requires.read_in)

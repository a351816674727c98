use Rattle.space_ends.proofs.spinning_sets.add_if_unmarked.Goals as goal

pub returns-clause-each : goal.returns-clause-each
returns-clause-each c = λ all.
    c.in_ok-add_rooted.ensures.each c.args.can_end.now (record { within = c.requires; is = c.if-can_end-place.false }) all

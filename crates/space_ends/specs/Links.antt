-- The steps of a space as links between its places.
use Rattle.terminal_components.specs.declared.links.Link.{Link}
use Rattle.seed_verdicts.specs.ScheduleSpaceTypes.Edge.{Edge}

-- the link that an edge is
abbrev pub link_of : Edge → Link
link_of e = record { from = e.from; to = e.to }

use Rattle.std.proofs.Common.{sym, ◌∙◌, ap}
use Rattle.std.proofs.lemmas.List.{take-map}
use Rattle.source_places.specs.DataNames.{most_names}
use Rattle.source_places.specs.SourcePlaces.{data_name_seen, data_names_seen}
use Rattle.source_places.proofs.data_names.leave_first.Goals as goal

pub returns : goal.returns
returns c =
    ap data_names_seen c.truncate.ensures.items
    ∙ sym (take-map data_name_seen most_names c.args.said.now.items)

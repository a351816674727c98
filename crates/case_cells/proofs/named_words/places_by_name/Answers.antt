use Rattle.std.proofs.Common.{◌≡◌, ◌∙◌, ap, sym, length}
use Rattle.std.proofs.lemmas.List.{length-map}
use Rattle.source_places.specs.DataLines.{data_lines}
use Rattle.source_places.specs.DataNames.{data_names}
use Rattle.source_places.specs.SourcePlaces.{data_line_seen, data_names_seen}
use Rattle.case_cells.specs.NamedWords.{named_places, all_or_none}
use Rattle.case_cells.proofs.named_words.places_by_name.Goals as goal

pub returns : goal.returns
returns c =
    let given = c.args.given.now in
    let own = c.args.own.now in
    let own_is : data_names_seen c.data_names.result.now ≡ data_names own =
    c.data_names.ensures ∙ c.in_ok-own.ensures.names in
    let given_is : data_names_seen c.data_names-2.result.now ≡ data_names given =
    c.data_names-2.ensures ∙ c.in_ok-given.ensures.names in
    let lines_are : length c.data_lines.result.now ≡ length (data_lines given) =
    sym (length-map c.data_lines.result.now data_line_seen)
    ∙ ap length (c.data_lines.ensures ∙ c.in_ok-given.ensures.data) in
    c.all_or_none.ensures
    ∙ ap (λ ps. all_or_none ps (length c.data_lines.result.now))
    (c.in_ok-places.ensures ∙ ap (λ o. named_places o (data_names_seen c.data_names-2.result.now)) own_is
    ∙ ap (named_places (data_names own)) given_is)
    ∙ ap (all_or_none (named_places (data_names own) (data_names given))) lines_are

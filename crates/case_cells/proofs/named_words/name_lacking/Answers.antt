use Rattle.std.proofs.Common.{◌≡◌, ◌∙◌, ap, sym, length}
use Rattle.std.proofs.lemmas.List.{length-map}
use Rattle.source_places.specs.DataLines.{data_lines}
use Rattle.source_places.specs.DataNames.{data_names}
use Rattle.source_places.specs.SourcePlaces.{data_name_seen, data_line_seen, data_names_seen}
use Rattle.case_cells.specs.NamedWords.{named_places, is_asked, lacking_if}
use Rattle.case_cells.proofs.named_words.name_lacking.Goals as goal

pub returns : goal.returns
returns c =
    let given = c.args.given.now in
    let own = c.args.own.now in
    let all = c.args.is_all in
    let names : data_names_seen c.data_names-names.result.now ≡ data_names given =
    c.data_names-names.ensures ∙ c.in_ok-given.ensures.names in
    let own_names : data_names_seen c.data_names-own_names.result.now ≡ data_names own =
    c.data_names-own_names.ensures ∙ c.in_ok-own.ensures.names in
    let count : length c.data_names-names.result.now ≡ length (data_names given) =
    sym (length-map c.data_names-names.result.now data_name_seen) ∙ ap length names in
    let lines : length c.data_lines.result.now ≡ length (data_lines given) =
    sym (length-map c.data_lines.result.now data_line_seen)
    ∙ ap length (c.data_lines.ensures ∙ c.in_ok-given.ensures.data) in
    let places : c.deref.result.now ≡ named_places (data_names own) (data_names given) =
    c.deref.ensures.value ∙ c.in_ok-places.ensures
    ∙ ap (λ o. named_places o (data_names_seen c.data_names-names.result.now)) own_names
    ∙ ap (named_places (data_names own)) names in
    let asked : c.is_asked-is_asked.result
    ≡ is_asked all (length (data_names given)) (length (data_lines given))
    (named_places (data_names own) (data_names given)) =
    c.is_asked-is_asked.ensures
    ∙ ap (λ n. is_asked all n (length c.data_lines.result.now) c.deref.result.now) count
    ∙ ap (λ n. is_asked all (length (data_names given)) n c.deref.result.now) lines
    ∙ ap (is_asked all (length (data_names given)) (length (data_lines given))) places in
    c.lacking_if.ensures
    ∙ ap (λ b. lacking_if b (data_names_seen c.data_names-own_names.result.now)
    (data_names_seen c.data_names-names.result.now)) asked
    ∙ ap (λ o. lacking_if (is_asked all (length (data_names given)) (length (data_lines given))
    (named_places (data_names own) (data_names given))) o (data_names_seen c.data_names-names.result.now)) own_names
    ∙ ap (lacking_if (is_asked all (length (data_names given)) (length (data_lines given))
    (named_places (data_names own) (data_names given))) (data_names own)) names

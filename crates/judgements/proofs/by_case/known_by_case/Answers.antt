use Rattle.std.proofs.Common.{◌≡◌, ◌∙◌, ap, sym, Some}
use Rattle.std.specs.Prelude.{unwrap_or}
use Rattle.case_cells.specs.NamedWords.{name_lacking}
use Rattle.judgements.proofs.ReadCases.{read_case, without_name}
use Rattle.judgements.proofs.by_case.known_by_case.Goals as goal

pub returns-in-Some-clause-known : goal.returns-in-Some-clause-known
returns-in-Some-clause-known g c =
    let needed = c.args.asked.needs_names in
    let text = c.args.submission.text.now in
    let lacks : name_lacking needed c.args.case.now.given.items text ≡ Some c.in-Some.name =
    ap (λ given. name_lacking needed given text) (sym c.deref.ensures.value) ∙ sym c.in_ok-name.ensures
    ∙ c.in-Some.is in
    without_name c.args.asked c.args.submission.image.now text c.args.case.now c.in-Some.name
    c.judged_without_name.result lacks c.judged_without_name.ensures.reason c.judged_without_name.ensures.kind
    c.judged_without_name.ensures.known

pub returns-in-Ok-clause-known : goal.returns-in-Ok-clause-known
returns-in-Ok-clause-known g c =
    let own = c.args.submission.image.now in
    read_case c.args.asked own c.args.submission.text.now c.args.case.now c.image_or-image.result.now c.in-Ok.required
    c.judged_by_lines.result (c.image_or-image.ensures ∙ ap (λ o. unwrap_or o own) c.in_ok-given.ensures)
    c.in-Ok.ensures.means c.judged_by_lines.ensures.given c.judged_by_lines.ensures.right c.judged_by_lines.ensures.kept
    c.judged_by_lines.ensures.work c.judged_by_lines.ensures.shown c.judged_by_lines.ensures.run

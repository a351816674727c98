use Rattle.std.proofs.Common.{sym, ◌∙◌, subst, IsTrue}
use Rattle.stream_core.specs.StreamRow.{fetch_word}
use Rattle.program_flow.specs.Codes.{HasCodesAt}
use Rattle.program_flow.specs.Tables.{is_asked_at}
use Rattle.program_flow.proofs.closed_codes.has_codes_at.Goals as goal

pub returns-in-Some : goal.returns-in-Some
returns-in-Some c got =
    subst (λ o. HasCodesAt (IsTrue c.args.handled) (λ k d. IsTrue (is_asked_at c.args.table.now k d)) c.args.place
    (fetch_word c.args.profile o))
    (sym c.in-Some.is ∙ c.word_at.ensures) (c.has_codes_of_word.ensures got)

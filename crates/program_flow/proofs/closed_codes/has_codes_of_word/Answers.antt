use Rattle.std.proofs.Common.{ap, sym, ◌∙◌, subst, IsTrue}
use Rattle.stream_core.specs.StreamRow.{fetch_instruction}
use Rattle.program_flow.specs.Codes.{HasCodesAt}
use Rattle.program_flow.specs.Tables.{is_asked_at}
use Rattle.program_flow.proofs.closed_codes.has_codes_of_word.Goals as goal

pub returns-in-Some : goal.returns-in-Some
returns-in-Some c got =
    subst (HasCodesAt (IsTrue c.args.handled) (λ k d. IsTrue (is_asked_at c.args.table.now k d)) c.args.place)
    (ap fetch_instruction (sym c.in-Some.is ∙ c.decode_as.ensures.is)) (c.has_codes_of.ensures got)

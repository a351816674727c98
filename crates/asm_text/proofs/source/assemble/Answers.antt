use Rattle.std.proofs.Common.{sym, ◌∙◌, ap, arith}
use Rattle.std.proofs.lemmas.Result.{err_from_is_err_and}
use Rattle.std.specs.Prelude.{Err, ◌≢◌}
use Rattle.asm_line.specs.Labels.{places_of}
use Rattle.asm_line.specs.declared.fault.Fault.TheVariants as fault
use Rattle.asm_text.specs.Drafts.{empty}
use Rattle.asm_text.proofs.Kept.{within}
use Rattle.asm_text.proofs.Counted.{counted}
use Rattle.asm_text.proofs.Assembly.{IsFound, with_byte, draft_refused, draft_whole, finished_means, finished_fault}
use Rattle.asm_text.proofs.source.assemble.Goals as goal

pub returns-in-Some-clause-fault : goal.returns-in-Some-clause-fault
returns-in-Some-clause-fault c =
    let other : fault.NotAscii ≢ fault.NoMemory = λ e. cc in
    λ _. with_byte c.args.text.now c.in-Some.line (sym c.not_ascii.ensures ∙ c.in-Some.is)
    ∙ ap Err (sym (c.on_line.ensures.told other))

pub returns-in_err-draft-clause-fault : goal.returns-in_err-draft-clause-fault
returns-in_err-draft-clause-fault c =
    let p = err_from_is_err_and c.from_residual-in_err-draft.result c.from_residual-in_err-draft.ensures.1 in
    let f : IsFound c.args.text.now c.in_ok-outline.outline.profile
    (places_of c.in_ok-outline.outline.labels) c.in_ok-outline.outline.words = record {
      ascii = sym c.not_ascii.ensures ∙ c.in_default.is;
      profile_is = c.in_ok-outline.ensures.profile;
      places_are = c.in_ok-outline.ensures.labels;
      words_are = c.in_ok-outline.ensures.words;
    } in
    rw (p.1, p.2)
    (λ other. draft_refused c.args.text.now c.in_ok-outline.outline.profile
    (places_of c.in_ok-outline.outline.labels) c.in_ok-outline.outline.words _ f
    (c.in_err-draft.ensures.takes other))

pub finish-requires : goal.finish-requires
finish-requires c =
    let n = counted c.in_ok-outline.outline.profile
    (places_of c.in_ok-outline.outline.labels) c.in_ok-outline.outline.words 0 empty c.in_ok-draft.draft _
    c.in_ok-draft.ensures.takes in
    within c.in_ok-outline.outline.profile c.in_ok-outline.outline.words c.in_ok-draft.draft c.in_ok-draft.ensures.kept
    (omega (arith, n, c.in_ok-outline.ensures.words))

pub returns-clause-means : goal.returns-clause-means
returns-clause-means c =
    let f : IsFound c.args.text.now c.in_ok-outline.outline.profile
    (places_of c.in_ok-outline.outline.labels) c.in_ok-outline.outline.words = record {
      ascii = sym c.not_ascii.ensures ∙ c.in_default.is;
      profile_is = c.in_ok-outline.ensures.profile;
      places_are = c.in_ok-outline.ensures.labels;
      words_are = c.in_ok-outline.ensures.words;
    } in
    finished_means c.args.text.now c.in_ok-outline.outline.profile c.in_ok-draft.draft c.finish.result
    (λ s. draft_whole c.args.text.now c.in_ok-outline.outline.profile
    (places_of c.in_ok-outline.outline.labels) c.in_ok-outline.outline.words c.in_ok-draft.draft s f
    c.in_ok-draft.ensures.takes)
    c.finish.ensures

pub returns-clause-fault : goal.returns-clause-fault
returns-clause-fault c =
    let f : IsFound c.args.text.now c.in_ok-outline.outline.profile
    (places_of c.in_ok-outline.outline.labels) c.in_ok-outline.outline.words = record {
      ascii = sym c.not_ascii.ensures ∙ c.in_default.is;
      profile_is = c.in_ok-outline.ensures.profile;
      places_are = c.in_ok-outline.ensures.labels;
      words_are = c.in_ok-outline.ensures.words;
    } in
    finished_fault c.args.text.now c.in_ok-outline.outline.profile c.in_ok-draft.draft c.finish.result
    (λ s. draft_whole c.args.text.now c.in_ok-outline.outline.profile
    (places_of c.in_ok-outline.outline.labels) c.in_ok-outline.outline.words c.in_ok-draft.draft s f
    c.in_ok-draft.ensures.takes)
    c.finish.ensures

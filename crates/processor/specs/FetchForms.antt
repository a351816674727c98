-- What a step begins with, as the code holds it.
use Rattle.insn_word.specs.ShortInsns.{short_instruction, reference_instruction}
use Rattle.stream_core.specs.declared.steps.Fetch.{Fetch}
use Rattle.stream_core.specs.declared.steps.Fetch.TheVariants as fetch
use Rattle.processor.specs.declared.steps.FetchForm.{FetchForm}
use Rattle.processor.specs.declared.steps.FetchForm.TheVariants as form

abbrev pub fetch_in : FetchForm → Fetch
fetch_in form.Rest = fetch.Rest
fetch_in (form.Trap k) = fetch.Trap k
fetch_in (form.Short s) = fetch.Instruction (short_instruction s)
fetch_in (form.Reference r) = fetch.Instruction (reference_instruction r)
fetch_in (form.Instruction i) = fetch.Instruction i

-- Messages in another order.
use Rattle.std.proofs.Common.{◌≡◌, List, sym, IsPermutation}
use Rattle.std.proofs.lemmas.List.Sorted.{list_any-IsPermutation}
use Rattle.fault_messages.specs.declared.message.Message.{Message}
use Rattle.fault_messages.specs.Messages.{is_error, has_error}

-- an error is among them in any order
pub errors_kept : (xs ys : List Message) → IsPermutation xs ys → has_error ys ≡ has_error xs
errors_kept xs ys same = sym (list_any-IsPermutation (λ m. is_error m.severity) xs ys same)

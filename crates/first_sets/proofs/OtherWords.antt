-- Words that a request does not ask for stay as they are, where no word is forwarded.
use Rattle.std.proofs.Common.{◌≡◌, ◌≢◌, ℕ, ◌/◌, ◌⊎◌, inl, inr, ap, ◌∙◌, false}
use Rattle.tag_memory.specs.Address.{address_of}
use Rattle.tag_memory.specs.Storage.{TaggedMemory, cell_at}
use Rattle.tag_memory.specs.Answer.{answer}
use Rattle.tag_memory.specs.ReadRequests.{may_change}
use Rattle.tag_memory.specs.Unforwarded.{IsUnforwarded}
use Rattle.tag_memory.specs.declared.requests.Request.{Request}
use Rattle.tag_memory.proofs.NoForwards.{ends_at_once}
use Rattle.tag_memory.proofs.TwoRequests.{answered_but}
use Rattle.tag_memory.proofs.Unchanged.{unchanged}

-- the word at an address is as it was where the request is of another one, or only reads
pub same_word : (m : TaggedMemory) (q : Request) (a : ℕ) → IsUnforwarded m
    → (a / 8 ≢ address_of q.pointer / 8) ⊎ (may_change q.op q.acc ≡ false) → cell_at (answer m q).0 a ≡ cell_at m a
same_word m q a un (inl apart) = (answered_but m q).cells a (λ e. apart (e ∙ ends_at_once m q un))
same_word m q a un (inr read) = ap (λ x. cell_at x a) (unchanged m q read)

-- The laws: the computed answer is the only one, it changes one word at most, and a memory is known by its words.
use Rattle.std.proofs.Common.{◌≡◌, ◌≢◌, ℕ, refl, sym, ◌∙◌, ap, Option, Some, None}
use Rattle.tag_memory.specs.Address.{address_of}
use Rattle.tag_memory.specs.Cell.{Cell}
use Rattle.tag_memory.specs.Storage.{TaggedMemory, cell_at}
use Rattle.tag_memory.specs.Chain.{end_of}
use Rattle.tag_memory.specs.Answer.{answer_by_effect, at_end, address_at}
use Rattle.tag_memory.specs.declared.requests.Request.{Request}
use Rattle.tag_memory.specs.declared.chain.End.{End}
use Rattle.tag_memory.specs.declared.chain.End.TheVariants as at
use Rattle.tag_memory.proofs.Ends.{cell_at-last}
use Rattle.tag_memory.proofs.Paths.{leads_end, one_path, path_there}
use Rattle.tag_memory.proofs.Words.{same_memories, cell_at-with_cell_other}
use Rattle.tag_memory.proofs.serving.serving_laws.Goals as goal

settled_others : (m : TaggedMemory) (a b : ℕ) (c : Cell) (o : Option (Cell × ℕ))
    → cell_at m a ≡ Some c → (a ≢ b) → cell_at (answer_by_effect m a o).0 b ≡ cell_at m b
settled_others m a b c None stands apart = refl
settled_others m a b c (Some (d, n)) stands apart = cell_at-with_cell_other m a b c d stands apart

at_end_others : (m : TaggedMemory) (q : Request) (b : ℕ) (end : End)
    → end_of m q ≡ end → (address_at end ≢ b) → cell_at (at_end m q end).0 b ≡ cell_at m b
at_end_others m q b (at.Trap kind a) e apart = refl
at_end_others m q b (at.Last p c) e apart =
    settled_others m (address_of p) b c _ (cell_at-last m q m.chain_limit q.pointer p c e) apart

pub returns-clause-one_path : goal.returns-clause-one_path
returns-clause-one_path c = λ m q path other end last leads leads_too. (
  one_path m q path other end last leads leads_too,
  leads_end m q path end leads ∙ sym (leads_end m q other last leads_too),
)

pub returns-clause-computed : goal.returns-clause-computed
returns-clause-computed c = λ m q after reply. (
  λ given. given.answered ∙ ap (λ end. at_end m q end) (leads_end m q given.path given.end given.leads),
  λ e. let found = path_there m q in record { path = found.0; end = end_of m q; leads = found.1; answered = e },
)

pub returns-clause-others : goal.returns-clause-others
returns-clause-others c = λ m q b apart. at_end_others m q b (end_of m q) refl apart

pub returns-clause-words : goal.returns-clause-words
returns-clause-words c = same_memories

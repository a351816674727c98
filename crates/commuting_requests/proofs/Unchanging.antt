-- Requests of one memory that commute: those that only read, and none with any.
use Rattle.std.proofs.Common.{◌≡◌, refl, sym, ap, ◌∙◌, Option, Some, None}
use Rattle.tag_memory.specs.Storage.{TaggedMemory}
use Rattle.tag_memory.specs.Answer.{answer}
use Rattle.tag_memory.specs.declared.requests.Request.{Request}
use Rattle.commuting_requests.specs.Pairs.{DoCommute}

pub both_stay : (m : TaggedMemory) (q r : Request) → (answer m q).0 ≡ m → (answer m r).0 ≡ m
    → DoCommute m (Some q) (Some r)
both_stay m q r first second = record {
  memory =
      ap (λ n. (answer n r).0) first ∙ second ∙ sym first ∙ sym (ap (λ n. (answer n q).0) second);
  first = ap (λ n. Some (answer n q).1) second;
  second = ap (λ n. Some (answer n r).1) first;
}

pub none_commutes : (m : TaggedMemory) (r : Option Request) → DoCommute m None r
none_commutes m r = record { memory = refl; first = refl; second = refl }

pub commutes_none : (m : TaggedMemory) (q : Option Request) → DoCommute m q None
commutes_none m q = record { memory = refl; first = refl; second = refl }

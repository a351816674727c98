-- Requests that meet at no word commute.
use Rattle.std.proofs.Common.{ap, Some}
use Rattle.tag_memory.specs.Storage.{TaggedMemory}
use Rattle.tag_memory.specs.Distant.{AreDistant}
use Rattle.tag_memory.specs.declared.requests.Request.{Request}
use Rattle.tag_memory.proofs.TwoRequests.{same_memory, reply_kept}
use Rattle.commuting_requests.specs.Pairs.{DoCommute}

pub do_commute : (m : TaggedMemory) (q r : Request) → AreDistant m q r → DoCommute m (Some q) (Some r)
do_commute m q r distant = record {
  memory = same_memory m q r distant;
  first = ap (λ e. Some e) (reply_kept m r q distant.first);
  second = ap (λ e. Some e) (reply_kept m q r distant.second);
}

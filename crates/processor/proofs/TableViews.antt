-- What is seen of a table when one of its streams is read or written.
use Rattle.std.proofs.Common.{◌≡◌, ℕ, ◌<◌, ◌≤◌, Bool, true, false, refl, sym, ap, ◌∙◌, arith, List, length}
use Rattle.std.proofs.Common.{take, drop, get_or, set, replicate, ◌+◌, if◌then◌else◌}
use Rattle.std.proofs.Common.{inl, inr, Option, Some, None, is_some}
use Rattle.std.proofs.Math.Seq.{take-set-lt}
use Rattle.std.proofs.lemmas.Bool.{lt-ltb, cases_lt}
use Rattle.std.proofs.lemmas.List.{get_or-take, get_or_past, get_or_read, length-take-le, take-replicate, drop_more}
use Rattle.std.proofs.lemmas.List.Sums.{position_or_len_is}
use Rattle.std.specs.List.{position_or_len}
use Rattle.insn_word.specs.declared.insn.Insn.{Insn}
use Rattle.tag_memory.specs.declared.requests.Request.{Request}
use Rattle.tag_memory.specs.declared.requests.Reply.{Reply}
use Rattle.stream_core.specs.Streams.{StreamValue, idle}
use Rattle.stream_core.specs.Effects.{after_instruction, request_of}
use Rattle.stream_core.specs.StreamRow.{after_reply, row_asking}
use Rattle.stream_core.specs.declared.steps.Outcome.{Outcome}
use Rattle.stream_core.specs.declared.steps.Outcome.TheVariants as outcome
use Rattle.processor.specs.Processors.{is_idle, stream_at, stream_seen}
use Rattle.processor.specs.Records.{is_running}
use Rattle.processor.specs.Turns.{first_running}
use Rattle.processor.specs.StreamTables.{IsRoom, put_in_streams}

-- a used place is one below slim
pub below_slim : (size slim n : ℕ) (ss now : List StreamValue) → IsRoom size slim ss → take slim ss ≡ now
    → n < length now → n < slim
below_slim size slim n ss now room seen used =
    let within : slim ≤ length ss = omega (arith, room.size_is, room.within) in
    omega (arith, ap length seen, length-take-le slim ss within)

pub put_seen : (slim n : ℕ) (ss now : List StreamValue) (x : StreamValue) → take slim ss ≡ now → n < slim
    → take slim (set ss n x) ≡ set now n x
put_seen slim n ss now x seen below = take-set-lt slim ss n x below ∙ ap (λ v. set v n x) seen

-- what is read below slim is what is seen there
pub read_seen : (size slim n : ℕ) (ss now : List StreamValue) (x : StreamValue) → IsRoom size slim ss
    → take slim ss ≡ now → n < slim → x ≡ get_or ss n x → x ≡ stream_at now n
read_seen size slim n ss now x room seen below e =
    let inside : n < length ss = omega (arith, room.size_is, room.within) in
    get_or_read ss n x inside e idle ∙ sym (get_or-take slim ss n idle below) ∙ ap (λ v. get_or v n idle) seen

-- a stream that takes its step in its place
pub step_seen : (size slim n : ℕ) (ss now : List StreamValue) (x y : StreamValue) (o : Outcome)
    (f : StreamValue → StreamValue × Outcome) → IsRoom size slim ss → take slim ss ≡ now → n < length now
    → x ≡ get_or ss n x → (y, o) ≡ f x → (take slim (set ss n y), o) ≡ put_in_streams now n (f (stream_at now n))
step_seen size slim n ss now x y o f room seen used e stepped =
    let below = below_slim size slim n ss now room seen used in
    ap (λ v. (v, o)) (put_seen slim n ss now y seen below)
    ∙ ap (put_in_streams now n) (stepped ∙ ap f (read_seen size slim n ss now x room seen below e))

pub execute_seen : (size slim n : ℕ) (ss now : List StreamValue) (x y : StreamValue) (f : StreamValue → StreamValue)
    → IsRoom size slim ss → take slim ss ≡ now → n < length now → x ≡ get_or ss n x → y ≡ f x
    → take slim (set ss n y) ≡ set now n (f (stream_at now n))
execute_seen size slim n ss now x y f room seen used e stepped =
    let below = below_slim size slim n ss now room seen used in
    put_seen slim n ss now y seen below
    ∙ ap (set now n) (stepped ∙ ap f (read_seen size slim n ss now x room seen below e))

-- the completion of an instruction without and with a reply
pub unasked : (limit : ℕ) (s : StreamValue) (i : Insn) (grant : ℕ) (r : Option Reply) (o : Option Request)
    → is_some r ≡ is_some o → r ≡ None → (after_instruction s i 0 grant, outcome.Done) ≡ row_asking limit s i grant r o
unasked limit s i grant r None same none = refl
unasked limit s i grant None (Some q) same none = cc
unasked limit s i grant (Some a) (Some q) same none = cc

pub answered : (limit : ℕ) (s : StreamValue) (i : Insn) (grant : ℕ) (r : Option Reply) (o : Option Request)
    (a : Reply) → is_some r ≡ is_some o → r ≡ Some a → after_reply limit s i grant a ≡ row_asking limit s i grant r o
answered limit s i grant None o a same some = cc
answered limit s i grant (Some b) None a same some = cc
answered limit s i grant (Some b) (Some q) a same some = ap (λ v. row_asking limit s i grant v (Some q)) (sym some)

at_past : (size slim n : ℕ) (ss now : List StreamValue) (x : StreamValue) → IsRoom size slim ss → take slim ss ≡ now
    → n < size → x ≡ get_or ss n x → slim ≤ n → x ≡ stream_at now n
at_past size slim n ss now x room seen below e past =
    let inside : n < length ss = omega (arith, room.size_is) in
    let within : slim ≤ length ss = omega (arith, room.size_is, room.within) in
    let short : length now ≤ n = omega (arith, ap length seen, length-take-le slim ss within) in
    get_or_read ss n x inside e idle ∙ room.others_idle n past ∙ sym (get_or_past now n idle short)

-- what is read anywhere is what is seen there, where streams that are not used are idle
pub at_any : (size slim n : ℕ) (ss now : List StreamValue) (x : StreamValue) → IsRoom size slim ss
    → take slim ss ≡ now → n < size → x ≡ get_or ss n x → x ≡ stream_at now n
at_any size slim n ss now x room seen below e = elim (cases_lt n slim) [
  | inl used ↦ read_seen size slim n ss now x room seen used e
  | inr past ↦ at_past size slim n ss now x room seen below e past
]

-- an instruction that is completed in its place
pub complete_unasked : (size slim n : ℕ) (ss now : List StreamValue) (x y : StreamValue) (limit : ℕ) (i : Insn)
    (grant : ℕ) (r : Option Reply) → IsRoom size slim ss → take slim ss ≡ now → n < length now → x ≡ get_or ss n x
    → is_some r ≡ is_some (request_of (stream_at now n) i) → r ≡ None → y ≡ after_instruction x i 0 grant
    → (take slim (set ss n y), outcome.Done)
    ≡ put_in_streams now n (row_asking limit (stream_at now n) i grant r (request_of (stream_at now n) i))
complete_unasked size slim n ss now x y limit i grant r room seen used e same none done =
    let there = read_seen size slim n ss now x room seen (below_slim size slim n ss now room seen used) e in
    let asks = same ∙ ap (λ s. is_some (request_of s i)) (sym there) in
    let done_is = ap (λ s. (s, outcome.Done)) done ∙ unasked limit x i grant r (request_of x i) asks none in
    step_seen size slim n ss now x y outcome.Done (λ s. row_asking limit s i grant r (request_of s i))
    room seen used e done_is

pub complete_answered : (size slim n : ℕ) (ss now : List StreamValue) (x y : StreamValue) (o : Outcome) (limit : ℕ)
    (i : Insn) (grant : ℕ) (r : Option Reply) (a : Reply) → IsRoom size slim ss → take slim ss ≡ now → n < length now
    → x ≡ get_or ss n x → is_some r ≡ is_some (request_of (stream_at now n) i) → r ≡ Some a
    → (y, o) ≡ after_reply limit x i grant a
    → (take slim (set ss n y), o)
    ≡ put_in_streams now n (row_asking limit (stream_at now n) i grant r (request_of (stream_at now n) i))
complete_answered size slim n ss now x y o limit i grant r a room seen used e same some done =
    let there = read_seen size slim n ss now x room seen (below_slim size slim n ss now room seen used) e in
    let asks = same ∙ ap (λ s. is_some (request_of s i)) (sym there) in
    step_seen size slim n ss now x y o (λ s. row_asking limit s i grant r (request_of s i)) room seen used e
    (done ∙ answered limit x i grant r (request_of x i) a asks some)

-- the lowest idle stream, where the search ends
pub first_idle : (size slim n : ℕ) (ss now : List StreamValue) (x : StreamValue) (b : Bool) → IsRoom size slim ss
    → take slim ss ≡ now → n < slim → x ≡ get_or ss n x → b ≡ is_idle x → b ≡ true
    → ((k : ℕ) → k < n → is_idle (stream_at now k) ≡ false) → n ≡ position_or_len is_idle now
first_idle size slim n ss now x b room seen below e is found before =
    let within : slim ≤ length ss = omega (arith, room.size_is, room.within) in
    let inside : n ≤ length now = omega (arith, ap length seen, length-take-le slim ss within) in
    let here = ap is_idle (sym (read_seen size slim n ss now x room seen below e)) ∙ sym is ∙ found in
    sym (position_or_len_is is_idle now n idle inside before (λ _. here))

pub no_idle : (size slim n end : ℕ) (ss now : List StreamValue) → IsRoom size slim ss → take slim ss ≡ now
    → end ≡ slim → end ≤ n → ((k : ℕ) → k < n → is_idle (stream_at now k) ≡ false)
    → end ≡ position_or_len is_idle now
no_idle size slim n end ss now room seen is past before =
    let within : slim ≤ length ss = omega (arith, room.size_is, room.within) in
    let same : end ≡ length now = omega (arith, ap length seen, length-take-le slim ss within) in
    sym (position_or_len_is is_idle now end idle (omega arith) (λ k h. before k (omega arith))
    (λ h. absurd (omega arith)))

-- a stream that is seen, used or not
pub any_seen : (size slim n : ℕ) (ss now : List StreamValue) (x : StreamValue) → IsRoom size slim ss
    → take slim ss ≡ now → n < size → x ≡ get_or ss n x → Some x ≡ stream_seen size now n
any_seen size slim n ss now x room seen below e =
    rw (lt-ltb n size below) (ap Some (at_any size slim n ss now x room seen below e))

-- a new table
pub new_seen : (size slim : ℕ) (ss : List StreamValue) (x y : StreamValue) → 1 ≤ slim → slim ≤ size → y ≡ idle
    → ss ≡ replicate size y → take slim (set ss 0 x) ≡ set (replicate slim idle) 0 x
new_seen size slim ss x y some within zero all =
    take-set-lt slim ss 0 x (omega arith)
    ∙ ap (λ v. set v 0 x) (ap (take slim) (all ∙ ap (replicate size) zero) ∙ take-replicate slim size idle within)

-- the running stream, where the search from a place ends
pub running_here : (size slim n : ℕ) (ss now : List StreamValue) (x : StreamValue) (b : Bool) → IsRoom size slim ss
    → take slim ss ≡ now → n < slim → x ≡ get_or ss n x → b ≡ is_running x → b ≡ true
    → Some n ≡ first_running (drop n now) n
running_here size slim n ss now x b room seen below e is found =
    let within : slim ≤ length ss = omega (arith, room.size_is, room.within) in
    let inside : n < length now = omega (arith, ap length seen, length-take-le slim ss within) in
    let here = ap is_running (sym (read_seen size slim n ss now x room seen below e)) ∙ sym is ∙ found in
    sym (ap (λ l. first_running l n) (drop_more now n idle inside)
    ∙ ap (λ t. if t then Some n else first_running (drop (n + 1) now) (n + 1)) here)

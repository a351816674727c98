-- Streams that are not idle: how many there are among the first ones, and where there is none no stream runs.
use Rattle.std.proofs.Common.{◌≡◌, ℕ, zero, suc, ◌+◌, ◌<◌, ◌≤◌, Bool, true, false, refl, sym, ap, ◌∙◌, arith, zero-add}
use Rattle.std.proofs.Common.{if◌then◌else◌, List, [], ◌∷◌, length, take, drop, get_or, Some, None}
use Rattle.stream_core.specs.Streams.{StreamValue}
use Rattle.stream_core.specs.declared.steps.Status.{Status}
use Rattle.stream_core.specs.declared.steps.Status.TheVariants.{Idle, Running, Stopped}
use Rattle.processor.specs.Processors.{is_idle, is_idle_status, count_current, stream_at}
use Rattle.processor.specs.Records.{is_running_status}
use Rattle.processor.specs.Turns.{first_running}
use Rattle.processor.specs.StreamTables.{IsRoom}
use Rattle.processor.proofs.Counting.{weight}
use Rattle.processor.proofs.TableViews.{read_seen, below_slim}

beside : (w a b c : ℕ) → a ≡ b + c → w + a ≡ (w + b) + c
beside w a b c e = omega arith

-- one stream more
count-more : (ss : List StreamValue) (n : ℕ) → n < length ss
    → count_current (take (suc n) ss) ≡ count_current (take n ss) + weight (stream_at ss n)
count-more [] n below = absurd (omega arith)
count-more (x ∷ ss) zero below = omega arith
count-more (x ∷ ss) (suc n) below =
    let inner : n < length ss = omega arith in
    beside (weight x) (count_current (take (suc n) ss)) (count_current (take n ss)) (weight (stream_at ss n))
    (count-more ss n inner)

split : (w a b c : ℕ) → a + b ≡ c → (w + a) + b ≡ w + c
split w a b c e = omega arith

count-split : (ss : List StreamValue) (n : ℕ)
    → count_current (take n ss) + count_current (drop n ss) ≡ count_current ss
count-split [] zero = refl
count-split [] (suc n) = refl
count-split (x ∷ ss) zero = zero-add (count_current (x ∷ ss))
count-split (x ∷ ss) (suc n) =
    split (weight x) (count_current (take n ss)) (count_current (drop n ss)) (count_current ss) (count-split ss n)

weightless : (s : Status) (rest : ℕ) → (if is_idle_status s then 0 else 1) + rest ≡ 0 → is_running_status s ≡ false
weightless Idle rest e = refl
weightless Running rest e = absurd (omega arith)
weightless (Stopped k) rest e = refl

pub none-runs : (ss : List StreamValue) (n : ℕ) → count_current ss ≡ 0 → first_running ss n ≡ None
none-runs [] n e = refl
none-runs (x ∷ ss) n e =
    let others : count_current ss ≡ 0 = omega arith in
    ap (λ b. if b then Some n else first_running ss (n + 1)) (weightless x.status (count_current ss) e)
    ∙ none-runs ss (n + 1) others

-- where all that are not idle are among the first ones, none of the others runs
pub none-runs-above : (ss : List StreamValue) (n : ℕ) → count_current ss ≤ count_current (take n ss)
    → first_running (drop n ss) n ≡ None
none-runs-above ss n all = none-runs (drop n ss) n (omega (arith, count-split ss n))

small : (b : Bool) → (if b then 0 else 1) ≤ 1
small true = omega arith
small false = omega arith

-- the count goes on with what stands at a place
pub counted-here : (size slim n count next : ℕ) (ss now : List StreamValue) (x : StreamValue) (b : Bool)
    → IsRoom size slim ss → take slim ss ≡ now → n < length now → x ≡ get_or ss n x → b ≡ is_idle x
    → (count ≡ count_current (take n now)) × (count ≤ n) → next ≡ count + (if b then 0 else 1)
    → (next ≡ count_current (take (n + 1) now)) × (next ≤ n + 1)
counted-here size slim n count next ss now x b room seen used e is before goes =
    let there = read_seen size slim n ss now x room seen (below_slim size slim n ss now room seen used) e in
    let here : (if b then 0 else 1) ≡ weight (stream_at now n) =
    ap (λ t. if t then 0 else 1) (is ∙ ap is_idle there) in
    let at_most : (if b then 0 else 1) ≤ 1 = small b in
    let next_place : suc n ≡ n + 1 = omega arith in
    let more : count_current (take (n + 1) now) ≡ count_current (take n now) + weight (stream_at now n) =
    ap (λ k. count_current (take k now)) (sym next_place) ∙ count-more now n used in
    (omega (arith, goes, before.0, here, more), omega (arith, goes, before.1, at_most))

pub weighed : (b : Bool) (n next k : ℕ) → (if b then 0 else 1) ≡ k → next ≡ n + k → next ≡ n + (if b then 0 else 1)
weighed b n next k is goes = omega (arith, is, goes)

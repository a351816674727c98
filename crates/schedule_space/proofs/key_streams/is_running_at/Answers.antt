use Rattle.std.proofs.Common.{◌≡◌, ◌<◌, ℕ, List, length, get_or, nat_eq, true, sym, ap, subst, arith}
use Rattle.world_keys.specs.StreamNumbers.{stream_numbers}
use Rattle.schedule_space.proofs.KeyStreams.{runs_number, read_there, never_missing}
use Rattle.schedule_space.proofs.key_streams.is_running_at.Goals as goal

pub returns-then-numbers-gt-STATUS_AT : goal.returns-then-numbers-gt-STATUS_AT
returns-then-numbers-gt-STATUS_AT c = λ s at has readable runs.
    let read = read_there c.args.contents.now (stream_numbers s) c.args.place c.list.result c.in-Some.numbers has at c.list.ensures c.in-Some.is in
    subst (λ (xs : List ℕ). nat_eq (get_or xs 86 0) 1 ≡ true) (sym read)
    (ap (λ n. nat_eq n 1) (runs_number s readable runs).1)

pub returns-else-numbers-gt-STATUS_AT : goal.returns-else-numbers-gt-STATUS_AT
returns-else-numbers-gt-STATUS_AT c = λ s at has readable runs.
    let read = read_there c.args.contents.now (stream_numbers s) c.args.place c.list.result c.in-Some.numbers has at c.list.ensures c.in-Some.is in
    let below : 86 < length c.in-Some.numbers.now = omega (arith, ap length read, (runs_number s readable runs).0) in
    absurd (omega (arith, below, c.if-numbers-gt-STATUS_AT.false))

pub returns-in-None : goal.returns-in-None
returns-in-None c = λ s at has readable runs.
    absurd (never_missing c.args.contents.now (stream_numbers s) c.args.place c.list.result has at c.list.ensures c.in-None.is)

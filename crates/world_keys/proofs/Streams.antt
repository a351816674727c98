-- A stream is told by its numbers.
use Rattle.std.proofs.Common.{◌≡◌, ℕ, ◌+◌, ◌-◌, ◌≤◌, refl, sym, ap, ◌∙◌, arith, append_assoc}
use Rattle.std.proofs.Common.{List, [], ◌∷◌, ◌++◌, append-nil, length, map, get_or, take, Some, slice_get}
use Rattle.std.proofs.lemmas.List.{length-map, map_more, take_more, take_all}
use Rattle.std.proofs.Common.{option_map}
use Rattle.std.proofs.lemmas.Option.{slice_get_within, get_or_from_slice_get, slice_get-map}
use Rattle.stream_core.specs.StatusWords.{status_number, status_from}
use Rattle.stream_core.specs.Streams.{StreamValue}
use Rattle.stream_core.specs.Traps.{trap_number}
use Rattle.stream_core.specs.declared.traps.TrapKind.{TrapKind}
use Rattle.stream_core.specs.declared.traps.TrapKind.TheVariants as kind
use Rattle.stream_core.specs.declared.status_words.StatusWord.{StatusWord}
use Rattle.stream_core.specs.declared.steps.Status.{Status}
use Rattle.stream_core.specs.declared.steps.Status.TheVariants.{Idle, Running, Stopped}
use Rattle.world_keys.specs.StreamNumbers.{halves, all_halves, status_code, stream_words, stream_numbers, reread}
use Rattle.world_keys.specs.StreamNumbers.{IsReadable}
use Rattle.world_keys.proofs.Digits.{all_halves-append, same_numbers, same_apart}

-- Statuses.

abbrev traps : List TrapKind
traps =
    kind.Program
    ∷ kind.Illegal
    ∷ kind.Create
    ∷ kind.Pointer
    ∷ kind.Align
    ∷ kind.Range
    ∷ kind.Trap0
    ∷ kind.Trap1
    ∷ kind.Forward
    ∷ kind.Blocked
    ∷ []

trap_again : (k : TrapKind) → get_or traps (trap_number k - 1) kind.Program ≡ k
trap_again kind.Program = refl
trap_again kind.Illegal = refl
trap_again kind.Create = refl
trap_again kind.Pointer = refl
trap_again kind.Align = refl
trap_again kind.Range = refl
trap_again kind.Trap0 = refl
trap_again kind.Trap1 = refl
trap_again kind.Forward = refl
trap_again kind.Blocked = refl

same_trap : (k l : TrapKind) → trap_number k ≡ trap_number l → k ≡ l
same_trap k l same =
    sym (trap_again k) ∙ ap (λ n. get_or traps (n - 1) kind.Program) same ∙ trap_again l

some_trap : (k : TrapKind) → 1 ≤ trap_number k
some_trap kind.Program = omega arith
some_trap kind.Illegal = omega arith
some_trap kind.Create = omega arith
some_trap kind.Pointer = omega arith
some_trap kind.Align = omega arith
some_trap kind.Range = omega arith
some_trap kind.Trap0 = omega arith
some_trap kind.Trap1 = omega arith
some_trap kind.Forward = omega arith
some_trap kind.Blocked = omega arith

same_status : (a b : Status) → status_code a ≡ status_code b → a ≡ b
same_status Idle Idle same = refl
same_status Idle Running same = absurd (omega arith)
same_status Idle (Stopped k) same = absurd (omega arith)
same_status Running Idle same = absurd (omega arith)
same_status Running Running same = refl
same_status Running (Stopped k) same = absurd (omega (arith, some_trap k))
same_status (Stopped k) Idle same = absurd (omega arith)
same_status (Stopped k) Running same = absurd (omega (arith, some_trap k))
same_status (Stopped k) (Stopped l) same = ap (λ x. Stopped x) (same_trap k l (omega arith))

-- Status words.

same_word : (a b : StatusWord) → reread a ≡ a → reread b ≡ b → status_number a ≡ status_number b → a ≡ b
same_word a b one other same = sym one ∙ ap status_from same ∙ other

rereads : (ws : List StatusWord) → map reread ws ≡ map status_from (map status_number ws)
rereads [] = refl
rereads (w ∷ ws) = ap (λ x. reread w ∷ x) (rereads ws)

same_words : (xs ys : List StatusWord) → map reread xs ≡ xs → map reread ys ≡ ys
    → map status_number xs ≡ map status_number ys → xs ≡ ys
same_words xs ys one other same =
    sym one ∙ rereads xs ∙ ap (map status_from) same ∙ sym (rereads ys) ∙ other

-- Streams.

pub same_stream : (s t : StreamValue) → IsReadable s → IsReadable t → stream_numbers s ≡ stream_numbers t → s ≡ t
unfolding stream_numbers
same_stream s t one other same =
    let words : stream_words s ≡ stream_words t = same_numbers (stream_words s) (stream_words t) same in
    let first =
    same_apart s.registers
    (map status_number s.targets ++ (status_number s.ssw ∷ s.xr ∷ s.retries ∷ status_code s.status ∷ []))
    t.registers
    (map status_number t.targets ++ (status_number t.ssw ∷ t.xr ∷ t.retries ∷ status_code t.status ∷ [])) 32
    one.registers other.registers words in
    let second =
    same_apart (map status_number s.targets) (status_number s.ssw ∷ s.xr ∷ s.retries ∷ status_code s.status ∷ [])
    (map status_number t.targets) (status_number t.ssw ∷ t.xr ∷ t.retries ∷ status_code t.status ∷ []) 8
    (length-map s.targets status_number ∙ one.targets) (length-map t.targets status_number ∙ other.targets) first.1 in
    let rest = second.1 in
    let ssw_number : status_number s.ssw ≡ status_number t.ssw = cc in
    let xr : s.xr ≡ t.xr = cc in
    let retries : s.retries ≡ t.retries = cc in
    let code : status_code s.status ≡ status_code t.status = cc in
    let targets = same_words s.targets t.targets one.words other.words second.0 in
    let ssw = same_word s.ssw t.ssw one.ssw other.ssw ssw_number in
    let status = same_status s.status t.status code in
    λ i. record {
      registers = first.0 i;
      targets = targets i;
      ssw = ssw i;
      xr = xr i;
      retries = retries i;
      status = status i;
    }

regroup : (a b c d e f : List ℕ)
    → ((((([] ++ a) ++ b) ++ c) ++ d) ++ e) ++ f ≡ a ++ (b ++ (c ++ (d ++ (e ++ (f ++ [])))))
regroup a b c d e f = simp (append_assoc, append-nil)

-- the numbers of a stream, part by part
pub numbers_are : (s : StreamValue) (none registers targets ssw xr retries all : List ℕ) → none ≡ []
    → registers ≡ none ++ all_halves s.registers → targets ≡ registers ++ all_halves (map status_number s.targets)
    → ssw ≡ targets ++ halves (status_number s.ssw) → xr ≡ ssw ++ halves s.xr → retries ≡ xr ++ halves s.retries
    → all ≡ retries ++ halves (status_code s.status) → all ≡ stream_numbers s
unfolding stream_numbers
numbers_are s none registers targets ssw xr retries all empty a b c d e f =
    let rs = all_halves s.registers in
    let ts = all_halves (map status_number s.targets) in
    let split : stream_numbers s
    ≡ rs
    ++ (ts
    ++ (halves (status_number s.ssw) ++ (halves s.xr ++ (halves s.retries ++ (halves (status_code s.status) ++ []))))) =
    all_halves-append s.registers
    (map status_number s.targets ++ (status_number s.ssw ∷ s.xr ∷ s.retries ∷ status_code s.status ∷ []))
    ∙ ap (λ x. rs ++ x)
    (all_halves-append (map status_number s.targets)
    (status_number s.ssw ∷ s.xr ∷ s.retries ∷ status_code s.status ∷ [])) in
    f
    ∙ ap (λ x. x ++ halves (status_code s.status))
    (e ∙ ap (λ x. x ++ halves s.retries)
    (d ∙ ap (λ x. x ++ halves s.xr)
    (c ∙ ap (λ x. x ++ halves (status_number s.ssw)) (b ∙ ap (λ x. x ++ ts) (a ∙ ap (λ x. x ++ rs) empty)))))
    ∙ regroup rs ts (halves (status_number s.ssw)) (halves s.xr) (halves s.retries) (halves (status_code s.status))
    ∙ sym split

-- one target register more
pub kept_more : (ws : List StatusWord) (n : ℕ) (w : StatusWord) → map reread (take n ws) ≡ take n ws
    → slice_get ws n ≡ Some w → reread w ≡ w → map reread (take (n + 1) ws) ≡ take (n + 1) ws
kept_more ws n w so_far there kept =
    let at : get_or ws n w ≡ w = get_or_from_slice_get ws n w w there in
    let within = slice_get_within ws n w there in
    map_more reread ws n w within
    ∙ (λ i. so_far i ++ (ap reread at ∙ kept ∙ sym at) i ∷ [])
    ∙ sym (take_more ws n w within)

pub all_kept : (ws : List StatusWord) (n : ℕ) → map reread (take n ws) ≡ take n ws → length ws ≤ n
    → map reread ws ≡ ws
all_kept ws n so_far past =
    let all = take_all n ws past in ap (map reread) (sym all) ∙ so_far ∙ all

pub word_at : (ws : List StatusWord) (n : ℕ) (w : StatusWord) → slice_get ws n ≡ Some w
    → slice_get (map status_number ws) n ≡ Some (status_number w)
word_at ws n w there = slice_get-map status_number ws n ∙ ap (option_map status_number) there

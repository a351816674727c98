-- Registers and condition codes of one stream with 0 in place of those that do not matter.
use Rattle.std.proofs.Common.{◌≡◌, ℕ, zero, suc, ◌+◌, ◌<◌, ◌≤◌, ◌⊎◌, inl, inr, Bool, true, false, refl, sym, ap, ◌∙◌, arith, subst}
use Rattle.std.proofs.Common.{if◌then◌else◌, ◌&&◌, List, [], ◌∷◌, length, set, length-set}
use Rattle.std.specs.Prelude.{IsTrue, IsSome, Option, is_some, slice_get}
use Rattle.std.proofs.lemmas.Bool.{true≢false, cases_lt, or_left, or_right, or_cases, and_from, and_parts}
use Rattle.std.proofs.lemmas.List.{ext_get_or}
use Rattle.std.proofs.lemmas.List.Edits.{fill_by_more}
use Rattle.std.proofs.lemmas.Option.{slice_get-get_or, slice_get_past}
use Rattle.stream_core.specs.Registers.{register_at}
use Rattle.stream_core.specs.StatusWords.{no_code}
use Rattle.stream_core.specs.declared.conditions.Code.{Code}
use Rattle.stream_core.specs.declared.status_words.Codes.{Codes}
use Rattle.stream_core.specs.Streams.{StreamValue}
use Rattle.stream_core.specs.declared.steps.Status.TheVariants.{Running}
use Rattle.processor.specs.Processors.{is_idle}
use Rattle.processor.specs.Records.{is_running, is_running_status}
use Rattle.program_flow.specs.Agreement.{with_registers}
use Rattle.program_flow.specs.Flow.{Matters}
use Rattle.program_flow.specs.Codes.{with_codes, SameCodes}
use Rattle.program_flow.specs.Agreeing.{StreamsAgree}
use Rattle.program_flow.specs.Tables.{is_live_at, is_named_by, is_asked_at}
use Rattle.program_flow.proofs.Asked.{same_itself}
use Rattle.same_futures.proofs.Linked.{rests_status}
use Rattle.dead_registers.specs.Clearing.{LiveValue, matters, kept_from, kept_registers, kept_by, kept_codes, cleared_stream}

-- Lists.

length_kept : (keeps : ℕ → Bool) (r : ℕ) (xs : List ℕ) → length (kept_from keeps r xs) ≡ length xs
length_kept keeps r [] = refl
length_kept keeps r (x ∷ xs) = ap suc (length_kept keeps (r + 1) xs)

either_zero : (b : Bool) (x : ℕ) → x ≡ (if b then x else x)
either_zero true x = refl
either_zero false x = refl

kept_at : (keeps : ℕ → Bool) (r : ℕ) (xs : List ℕ) (k : ℕ)
    → register_at (kept_from keeps r xs) k ≡ (if keeps (r + k) then register_at xs k else 0)
kept_at keeps r [] k = either_zero (keeps (r + k)) 0
kept_at keeps r (x ∷ xs) zero =
    let same : r ≡ r + 0 = omega arith in ap (λ j. if keeps j then x else 0) same
kept_at keeps r (x ∷ xs) (suc k) =
    let same : (r + 1) + k ≡ r + suc k = omega arith in
    kept_at keeps (r + 1) xs k ∙ ap (λ j. if keeps j then register_at xs k else 0) same

kept_place : (keeps : ℕ → Bool) (xs : List ℕ) (k : ℕ)
    → register_at (kept_from keeps 0 xs) k ≡ (if keeps k then register_at xs k else 0)
kept_place keeps xs k =
    let same : 0 + k ≡ k = omega arith in
    kept_at keeps 0 xs k ∙ ap (λ j. if keeps j then register_at xs k else 0) same

once : (b : Bool) (x : ℕ) → (if b then (if b then x else 0) else 0) ≡ (if b then x else 0)
once true x = refl
once false x = refl

kept_twice : (keeps : ℕ → Bool) (r : ℕ) (xs : List ℕ)
    → kept_from keeps r (kept_from keeps r xs) ≡ kept_from keeps r xs
kept_twice keeps r [] = refl
kept_twice keeps r (x ∷ xs) = λ i. once (keeps r) x i ∷ kept_twice keeps (r + 1) xs i

-- Streams.

kept_same : (keeps : ℕ → Bool) (xs ys : List ℕ) → length xs ≡ length ys
    → ((r : ℕ) → keeps r ≡ true → register_at xs r ≡ register_at ys r) → kept_from keeps 0 xs ≡ kept_from keeps 0 ys
kept_same keeps xs ys sizes each =
    ext_get_or 0 (kept_from keeps 0 xs) (kept_from keeps 0 ys)
    (length_kept keeps 0 xs ∙ sizes ∙ sym (length_kept keeps 0 ys))
    (λ r below. kept_place keeps xs r ∙ by r (keeps r) refl ∙ sym (kept_place keeps ys r))
  where
    by : (r : ℕ) (b : Bool) → keeps r ≡ b → (if b then register_at xs r else 0) ≡ (if b then register_at ys r else 0)
    by r true k = each r k
    by r false k = refl

-- Codes.

once_code : (b : Bool) (c : Code) → (if b then (if b then c else no_code) else no_code) ≡ (if b then c else no_code)
once_code true c = refl
once_code false c = refl

codes_twice : (keeps : ℕ → Bool) (cs : Codes) → kept_by keeps (kept_by keeps cs) ≡ kept_by keeps cs
codes_twice keeps cs = λ i. record {
  newest = once_code (keeps 0) cs.newest i;
  second = once_code (keeps 1) cs.second i;
  third = once_code (keeps 2) cs.third i;
  oldest = once_code (keeps 3) cs.oldest i;
}

code_same : (b : Bool) (c d : Code) → (b ≡ true → d ≡ c) → (if b then d else no_code) ≡ (if b then c else no_code)
code_same true c d same = same refl
code_same false c d same = refl

codes_same : (keeps : ℕ → Bool) (cs ds : Codes) → SameCodes (λ c. IsTrue (keeps c)) cs ds
    → kept_by keeps ds ≡ kept_by keeps cs
codes_same keeps cs ds g = λ i. record {
  newest = code_same (keeps 0) cs.newest ds.newest g.newest i;
  second = code_same (keeps 1) cs.second ds.second g.second i;
  third = code_same (keeps 2) cs.third ds.third g.third i;
  oldest = code_same (keeps 3) cs.oldest ds.oldest g.oldest i;
}

module _ (l : LiveValue) (s : StreamValue) where
  abbrev Matter : ℕ → Type 0
  Matter = Matters (λ r. IsTrue (is_named_by l.names r)) (λ k r. IsTrue (is_live_at l.table k r)) s

  -- the test is the definition's

  pub does_matter : (r : ℕ) → Matter r → matters l s r ≡ true
  does_matter r (inl n) = or_left (is_named_by l.names r) (is_running s && is_live_at l.table s.ssw.pc r) n
  does_matter r (inr h) =
      or_right (is_named_by l.names r) (is_running s && is_live_at l.table s.ssw.pc r)
      (and_from (is_running s) (is_live_at l.table s.ssw.pc r) (ap is_running_status h.0) h.1)

  pub if_matters : (r : ℕ) → matters l s r ≡ true → Matter r
  if_matters r e = by (or_cases (is_named_by l.names r) (is_running s && is_live_at l.table s.ssw.pc r) e) where
    running : (is_running s ≡ true) → (s.status ≡ Running) ⊎ (is_running s ≡ false) → s.status ≡ Running
    running goes (inl runs) = runs
    running goes (inr rests) = absurd (true≢false (sym goes ∙ rests))

    by : (is_named_by l.names r ≡ true) ⊎ ((is_running s && is_live_at l.table s.ssw.pc r) ≡ true) → Matter r
    by (inl n) = inl n
    by (inr both) =
        let parts = and_parts (is_running s) (is_live_at l.table s.ssw.pc r) both in
        inr (running parts.0 (rests_status s.status), parts.1)

  pub all_kept : length (kept_registers l s) ≡ length s.registers
  all_kept = by (is_idle s) where
    by : (b : Bool) → length (if b then s.registers else kept_from (matters l s) 0 s.registers) ≡ length s.registers
    by true = refl
    by false = length_kept (matters l s) 0 s.registers

  -- a register that matters is kept
  pub is_kept : (r : ℕ) → matters l s r ≡ true → register_at (kept_registers l s) r ≡ register_at s.registers r
  is_kept r m = by (is_idle s) where
    by : (b : Bool)
        → register_at (if b then s.registers else kept_from (matters l s) 0 s.registers) r ≡ register_at s.registers r
    by true = refl
    by false = kept_place (matters l s) s.registers r ∙ ap (λ c. if c then register_at s.registers r else 0) m

  -- each other one is 0
  pub is_zero : (r : ℕ) → is_idle s ≡ false → matters l s r ≡ false → register_at (kept_registers l s) r ≡ 0
  is_zero r awake m =
      ap (λ b. register_at (if b then s.registers else kept_from (matters l s) 0 s.registers) r) awake
      ∙ kept_place (matters l s) s.registers r
      ∙ ap (λ c. if c then register_at s.registers r else 0) m

  -- an idle stream keeps all
  pub idle_kept : is_idle s ≡ true → kept_registers l s ≡ s.registers
  idle_kept rests = ap (λ b. if b then s.registers else kept_from (matters l s) 0 s.registers) rests

  abbrev keeps_code : ℕ → Bool
  keeps_code = is_asked_at l.codes s.ssw.pc

  -- a code that may be asked for is kept
  pub codes_kept : SameCodes (λ c. IsTrue (is_asked_at l.codes s.ssw.pc c)) s.ssw.codes (kept_codes l s)
  codes_kept = by (is_idle s) where
    by : (b : Bool)
        → SameCodes (λ c. IsTrue (keeps_code c)) s.ssw.codes (if b then s.ssw.codes else kept_by keeps_code s.ssw.codes)
    by true = same_itself (λ c. IsTrue (keeps_code c)) s.ssw.codes
    by false = record {
      newest = λ h. ap (λ (q : Bool). if q then s.ssw.codes.newest else no_code) h;
      second = λ h. ap (λ (q : Bool). if q then s.ssw.codes.second else no_code) h;
      third = λ h. ap (λ (q : Bool). if q then s.ssw.codes.third else no_code) h;
      oldest = λ h. ap (λ (q : Bool). if q then s.ssw.codes.oldest else no_code) h;
    }

  pub idle_codes : is_idle s ≡ true → kept_codes l s ≡ s.ssw.codes
  idle_codes rests = ap (λ b. if b then s.ssw.codes else kept_by keeps_code s.ssw.codes) rests

  pub idle_same : is_idle s ≡ true → cleared_stream l s ≡ s
  idle_same rests = λ i. with_codes (with_registers s (idle_kept rests i)) (idle_codes rests i)

  -- the stream agrees with the cleared one
  pub stream_agrees : StreamsAgree (λ r. IsTrue (is_named_by l.names r)) (λ k r. IsTrue (is_live_at l.table k r))
      (λ k c. IsTrue (is_asked_at l.codes k c)) s (cleared_stream l s)
  stream_agrees = record {
    rest = refl;
    sizes = all_kept;
    each = λ r m. is_kept r (does_matter r m);
    codes = codes_kept;
  }

  pub idle_or_matters : (r : ℕ) → (is_idle s ≡ true) ⊎ (matters l s r ≡ true)
      → register_at (kept_registers l s) r ≡ register_at s.registers r
  idle_or_matters r (inl rests) = ap (λ rs. register_at rs r) (idle_kept rests)
  idle_or_matters r (inr m) = is_kept r m

  pub stream_twice : cleared_stream l (cleared_stream l s) ≡ cleared_stream l s
  stream_twice = by (is_idle s) where
    by : (b : Bool)
        → with_codes
        (with_registers s (if b then (if b then s.registers else kept_from (matters l s) 0 s.registers)
        else kept_from (matters l s) 0 (if b then s.registers else kept_from (matters l s) 0 s.registers)))
        (if b then (if b then s.ssw.codes else kept_by keeps_code s.ssw.codes)
        else kept_by keeps_code (if b then s.ssw.codes else kept_by keeps_code s.ssw.codes))
        ≡ with_codes (with_registers s (if b then s.registers else kept_from (matters l s) 0 s.registers))
        (if b then s.ssw.codes else kept_by keeps_code s.ssw.codes)
    by true = refl
    by false =
        λ i. with_codes (with_registers s (kept_twice (matters l s) 0 s.registers i))
        (codes_twice keeps_code s.ssw.codes i)

  -- a stream that agrees is the same when it is cleared
  pub stream_same : (x : StreamValue) → is_idle s ≡ false
      → StreamsAgree (λ r. IsTrue (is_named_by l.names r)) (λ k r. IsTrue (is_live_at l.table k r))
      (λ k c. IsTrue (is_asked_at l.codes k c)) s x
      → cleared_stream l x ≡ cleared_stream l s
  stream_same x awake g =
      ap (cleared_stream l) g.rest
      ∙ ap (λ b. with_codes (with_registers s (if b then x.registers else kept_from (matters l s) 0 x.registers))
      (if b then x.ssw.codes else kept_by keeps_code x.ssw.codes)) awake
      ∙ (λ i. with_codes
      (with_registers s (kept_same (matters l s) x.registers s.registers g.sizes (λ r m. g.each r (if_matters r m)) i))
      (codes_same keeps_code s.ssw.codes x.ssw.codes g.codes i))
      ∙ sym (ap (λ b. with_codes (with_registers s (if b then s.registers else kept_from (matters l s) 0 s.registers))
      (if b then s.ssw.codes else kept_by keeps_code s.ssw.codes)) awake)

-- A list with as many elements, each of them a register of the stream.
pub filled : (rs : List ℕ) (l : LiveValue) (s : StreamValue) → length s.registers ≡ length rs
    → ((k : ℕ) → k < length rs → register_at rs k ≡ register_at (kept_registers l s) k) → rs ≡ kept_registers l s
filled rs l s sizes each = ext_get_or 0 rs (kept_registers l s) (sym (all_kept l s ∙ sizes)) each

-- a list with an element at 31, and none behind, has 32
pub all_there : (xs : List ℕ) (o p : Option ℕ) → o ≡ slice_get xs 31 → IsSome o → p ≡ slice_get xs 32 → (IsSome p → ⊥)
    → length xs ≡ 32
all_there xs o p is there end none = by (cases_lt 31 (length xs)) (cases_lt 32 (length xs)) where
  by : (31 < length xs) ⊎ (length xs ≤ 31) → (32 < length xs) ⊎ (length xs ≤ 32) → length xs ≡ 32
  by (inr few) more =
      let empty : is_some o ≡ false = ap is_some (is ∙ slice_get_past xs 31 few) in
      absurd (true≢false (sym there ∙ empty))
  by (inl here) (inl more) = absurd (none (ap is_some (end ∙ slice_get-get_or xs 32 0 more)))
  by (inl here) (inr few) = omega arith

-- one place more of a list of 32 is written
pub one_more : (f : ℕ → ℕ) (rs : List ℕ) (n place value : ℕ) → n < 32 → place ≡ n → value ≡ f n → length rs ≡ 32
    → ((k : ℕ) → k < n → register_at rs k ≡ f k)
    → (length (set rs place value) ≡ 32) × ((k : ℕ) → k < n + 1 → register_at (set rs place value) k ≡ f k)
one_more f rs n place value below at is room done = (
  length-set rs place value ∙ room,
  subst (λ p. (k : ℕ) → k < n + 1 → register_at (set rs p value) k ≡ f k) (sym at)
      (subst (λ v. (k : ℕ) → k < n + 1 → register_at (set rs n v) k ≡ f k) (sym is)
      (fill_by_more f rs n 0 (omega arith) done)),
)

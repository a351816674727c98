-- Where all registers are named, clearing changes nothing, and each world stands for itself alone.
use Rattle.std.proofs.Common.{◌≡◌, ℕ, suc, ◌+◌, ◌<◌, refl, sym, ap, ◌∙◌, subst, arith, inl, Bool, true, false}
use Rattle.std.proofs.Common.{List, [], ◌∷◌, length, map, get_or, if◌then◌else◌}
use Rattle.image_file.specs.ImageValue.{ImageValue}
use Rattle.std.specs.Prelude.{IsTrue}
use Rattle.stream_core.specs.StatusWords.{no_code}
use Rattle.stream_core.specs.Streams.{StreamValue, idle}
use Rattle.stream_core.specs.declared.status_words.Codes.{Codes}
use Rattle.processor.specs.Processors.{ProcessorValue, is_idle}
use Rattle.processor.specs.World.{World}
use Rattle.program_flow.specs.Agreement.{with_registers}
use Rattle.program_flow.specs.Codes.{with_codes}
use Rattle.program_flow.specs.Tables.{is_asked_at}
use Rattle.world_keys.specs.DeadRegisters.Clearing.{LiveValue, matters, kept_from, kept_by, cleared_stream, cleared_processor, cleared, IsLive}
use Rattle.world_keys.proofs.DeadRegisters.Registers.{all_kept, idle_same, does_matter}
use Rattle.world_keys.proofs.DeadRegisters.Worlds.{agreeing_same}
use Rattle.world_keys.specs.WorldKeys.{IsKnown, IsKnownStream, IsKnownIf, IsKnownProcessor, no_processor}
use Rattle.schedule_space.specs.Spaces.{SpaceValue, world_of, StandAlone}
use Rattle.schedule_space.specs.Finding.{NamesAll, IsKeyed}

kept_all : (keeps : ℕ → Bool) (r : ℕ) (xs : List ℕ) → ((k : ℕ) → k < r + length xs → keeps k ≡ true)
    → kept_from keeps r xs ≡ xs
kept_all keeps r [] all = refl
kept_all keeps r (x ∷ xs) all =
    let here : keeps r ≡ true = all r (omega arith) in
    let rest : kept_from keeps (r + 1) xs ≡ xs = kept_all keeps (r + 1) xs (λ k below. all k (omega (arith, below))) in
    λ i. (if here i then x else 0) ∷ rest i

codes_all : (keeps : ℕ → Bool) (cs : Codes) → ((c : ℕ) → keeps c ≡ true) → kept_by keeps cs ≡ cs
codes_all keeps cs all = λ i. record {
  newest = if all 0 i then cs.newest else no_code;
  second = if all 1 i then cs.second else no_code;
  third = if all 2 i then cs.third else no_code;
  oldest = if all 3 i then cs.oldest else no_code;
}

module _ (l : LiveValue) (named : NamesAll l) (asked : (k c : ℕ) → IsTrue (is_asked_at l.codes k c)) where
  awake_same : (s : StreamValue) → is_idle s ≡ false → length s.registers ≡ 32 → cleared_stream l s ≡ s
  awake_same s awake size =
      ap (λ (b : Bool). with_codes
      (with_registers s (if b then s.registers else kept_from (matters l s) 0 s.registers))
      (if b then s.ssw.codes else kept_by (is_asked_at l.codes s.ssw.pc) s.ssw.codes)) awake
      ∙ (λ i. with_codes (with_registers s (registers_all i))
      (codes_all (is_asked_at l.codes s.ssw.pc) s.ssw.codes (asked s.ssw.pc) i))
    where
      registers_all : kept_from (matters l s) 0 s.registers ≡ s.registers
      registers_all =
          kept_all (matters l s) 0 s.registers
          (λ k below. does_matter l s k (inl (named k (omega (arith, below, size)))))

  stream_same : (table : List (List ℕ)) (s : StreamValue) → IsKnownStream table (cleared_stream l s) → cleared_stream l s ≡ s
  stream_same table s known = by (is_idle s) refl known where
    by : (b : Bool) → is_idle s ≡ b → IsKnownIf table (cleared_stream l s) (is_idle s) → cleared_stream l s ≡ s
    by true rests is = idle_same l s rests
    by false awake is =
        let read = subst (IsKnownIf table (cleared_stream l s)) awake is in
        awake_same s awake (sym (all_kept l s) ∙ read.1.registers)

  streams_same : (table : List (List ℕ)) (ss : List StreamValue)
      → ((n : ℕ) → n < length (map (cleared_stream l) ss)
      → IsKnownStream table (get_or (map (cleared_stream l) ss) n idle))
      → map (cleared_stream l) ss ≡ ss
  streams_same table [] known = refl
  streams_same table (s ∷ ss) known =
      let here = stream_same table s (known 0 (omega arith)) in
      let rest = streams_same table ss (λ n below. known (suc n) (omega (arith, below))) in
      λ i. here i ∷ rest i

  processors_same : (table : List (List ℕ)) (image : ImageValue) (ps : List ProcessorValue)
      → ((p : ℕ) → p < length (map (cleared_processor l) ps)
      → IsKnownProcessor table image (get_or (map (cleared_processor l) ps) p no_processor))
      → map (cleared_processor l) ps ≡ ps
  processors_same table image [] known = refl
  processors_same table image (q ∷ ps) known =
      let here : cleared_processor l q ≡ q =
      ap (λ ss. record q { streams = ss }) (streams_same table q.streams (known 0 (omega arith)).held.streams) in
      let rest = processors_same table image ps (λ p below. known (suc p) (omega (arith, below))) in
      λ i. here i ∷ rest i

  pub world_same : (table : List (List ℕ)) (image : ImageValue) (w : World) → IsKnown table image (cleared l w)
      → cleared l w ≡ w
  unfolding cleared
  world_same table image w known =
      ap (λ ps. record { processors = ps; memory = w.memory }) (processors_same table image w.processors known.processors)

-- worlds of which the table has what they hold, cleared
pub stand_alone : (v : SpaceValue) (table keys : List (List ℕ)) → NamesAll v.live → IsLive v.image v.live
    → IsKeyed v table keys → StandAlone v
stand_alone v table keys named live is k below w g =
    let asked = live.all named in
    let same : cleared v.live (world_of v k) ≡ cleared v.live w = agreeing_same v.live (world_of v k) w g in
    let known = is.known k below in
    sym (world_same v.live named asked table v.image (world_of v k) known)
    ∙ same
    ∙ world_same v.live named asked table v.image w (subst (IsKnown table v.image) same known)

-- Worlds in which streams hold 0 in each register that does not matter, and no bit in each condition code that does not.
use Rattle.std.specs.Prelude.{ℕ, ◌+◌, ◌<◌, Bool, ◌||◌, ◌&&◌, IsTrue, List, [], ◌∷◌, map, Option, Some, None, if◌then◌else◌}
use Rattle.image_file.specs.ImageValue.{ImageValue}
use Rattle.stream_core.specs.StatusWords.{no_code}
use Rattle.stream_core.specs.Streams.{StreamValue}
use Rattle.stream_core.specs.declared.status_words.Codes.{Codes}
use Rattle.processor.specs.Processors.{ProcessorValue, is_idle}
use Rattle.processor.specs.Records.{is_running}
use Rattle.processor.specs.World.{World, after}
use Rattle.processor.specs.declared.steps.Step.{Step}
use Rattle.program_flow.specs.Agreement.{with_registers}
use Rattle.program_flow.specs.Codes.{with_codes}
use Rattle.program_flow.specs.Tables.{is_live_at, is_named_by, is_asked_at, IsClosedTable, HasCodesOf}
use Rattle.same_futures.specs.Links.{WorldsAgree}
use Rattle.same_futures.specs.Handlers.{may_have_handlers}

-- which registers are named, which are live at each place, and which condition codes may be asked for from there on
pub record LiveValue : Type 0 where
  pub names : List Bool
  pub table : List (List Bool)
  pub codes : List (List Bool)

-- whether a register of a stream matters: it is named, or the stream runs and it is live at its pc
abbrev pub matters : LiveValue → StreamValue → ℕ → Bool
matters l s r = is_named_by l.names r || (is_running s && is_live_at l.table s.ssw.pc r)

-- registers that are numbered from r on, with 0 in place of each that is not kept
abbrev pub kept_from : (ℕ → Bool) → ℕ → List ℕ → List ℕ
kept_from keeps r [] = []
kept_from keeps r (x ∷ xs) = (if keeps r then x else 0) ∷ kept_from keeps (r + 1) xs

-- the registers of a stream that is not idle, with 0 in place of each that does not matter
abbrev pub kept_registers : LiveValue → StreamValue → List ℕ
kept_registers l s = if is_idle s then s.registers else kept_from (matters l s) 0 s.registers

-- codes, with none in place of each that is not kept; they are numbered from the newest on
abbrev pub kept_by : (ℕ → Bool) → Codes → Codes
kept_by keeps cs = record {
  newest = if keeps 0 then cs.newest else no_code;
  second = if keeps 1 then cs.second else no_code;
  third = if keeps 2 then cs.third else no_code;
  oldest = if keeps 3 then cs.oldest else no_code;
}

-- the codes of a stream that is not idle, with none in place of each that nobody may ask for from its place on
abbrev pub kept_codes : LiveValue → StreamValue → Codes
kept_codes l s = if is_idle s then s.ssw.codes else kept_by (is_asked_at l.codes s.ssw.pc) s.ssw.codes

-- the stream with these registers and these codes
abbrev pub cleared_stream : LiveValue → StreamValue → StreamValue
cleared_stream l s = with_codes (with_registers s (kept_registers l s)) (kept_codes l s)

-- the same of each stream of a processor
abbrev pub cleared_processor : LiveValue → ProcessorValue → ProcessorValue
cleared_processor l proc = record proc { streams = map (cleared_stream l) proc.streams }

-- the same of each stream of a world
unfoldable pub cleared : LiveValue → World → World
cleared l w = record { processors = map (cleared_processor l) w.processors; memory = w.memory }

-- the world after steps, cleared before the first one and after each
abbrev pub cleared_steps : LiveValue → ImageValue → World → List Step → World
cleared_steps l image w [] = cleared l w
cleared_steps l image w (t ∷ ts) = cleared_steps l image (after image (cleared l w) t) ts

-- the registers of a stream that may be missing
abbrev pub registers_seen : Option StreamValue → Option (List ℕ)
registers_seen None = None
registers_seen (Some s) = Some s.registers

-- All registers are live that may be read from each place of the image's program on, and at each place those that are
-- named; all condition codes are asked for that may be from there on. Where all registers are named, all codes are.
pub record IsLive (image : ImageValue) (l : LiveValue) : Type 0 where
  pub registers : IsClosedTable image.profile image.program (may_have_handlers image) l.names l.table
  pub codes : HasCodesOf image.profile image.program (may_have_handlers image) l.codes
  pub all : ((r : ℕ) → r < 32 → IsTrue (is_named_by l.names r)) → (k c : ℕ) → IsTrue (is_asked_at l.codes k c)

-- The worlds differ in registers and condition codes alone that do not matter.
abbrev pub AgreeBy : LiveValue → World → World → Type 0
AgreeBy l =
    WorldsAgree (λ r. IsTrue (is_named_by l.names r)) (λ k r. IsTrue (is_live_at l.table k r))
    (λ k c. IsTrue (is_asked_at l.codes k c))

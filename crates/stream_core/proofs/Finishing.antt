-- What the plan says of the instruction at the pc.
use Rattle.std.proofs.Common.{◌≡◌, ℕ, List, Option, None, Some, sym, ◌∙◌, ap, refl}
use Rattle.insn_word.specs.declared.profiles.Profile.{Profile}
use Rattle.insn_word.specs.declared.insn.Insn.{Insn}
use Rattle.tag_memory.specs.declared.requests.Request.{Request}
use Rattle.tag_memory.specs.declared.requests.Reply.{Reply}
use Rattle.stream_core.specs.Streams.{StreamValue}
use Rattle.stream_core.specs.Effects.{request_of, after_instruction}
use Rattle.stream_core.specs.StreamRow.{fetch_of, plan_asking, plan_from, plan_of, after_reply, row_asking, row_from}
use Rattle.stream_core.specs.StreamRow.{stream_row}
use Rattle.stream_core.specs.declared.steps.Fetch.{Fetch}
use Rattle.stream_core.specs.declared.steps.Fetch.TheVariants.{Rest, Trap, Instruction}
use Rattle.stream_core.specs.declared.steps.Plan.TheVariants as plan
use Rattle.stream_core.specs.declared.steps.Outcome.TheVariants as outcome

plan_local : (o : Option Request) → plan_asking o ≡ plan.Local → o ≡ None
plan_local None e = refl
plan_local (Some q) e = cc

plan_asks : (o : Option Request) (q : Request) → plan_asking o ≡ plan.Ask q → o ≡ Some q
plan_asks None q e = cc
plan_asks (Some p) q e = cc

-- a plan is local or asks only where an instruction is fetched
runs_local : (s : StreamValue) (f : Fetch) → plan_from s f ≡ plan.Local → (i : Insn) × (f ≡ Instruction i)
runs_local s Rest e = cc
runs_local s (Trap k) e = cc
runs_local s (Instruction i) e = (i, refl)

runs_asks : (s : StreamValue) (f : Fetch) (q : Request) → plan_from s f ≡ plan.Ask q → (i : Insn) × (f ≡ Instruction i)
runs_asks s Rest q e = cc
runs_asks s (Trap k) q e = cc
runs_asks s (Instruction i) q e = (i, refl)

pub local_runs : (profile : Profile) (program : List ℕ) (s : StreamValue) → plan_of profile program s ≡ plan.Local
    → (i : Insn) × (fetch_of profile program s ≡ Instruction i)
unfolding plan_of
local_runs profile program s e = runs_local s (fetch_of profile program s) e

pub asked_runs : (profile : Profile) (program : List ℕ) (s : StreamValue) (q : Request)
    → plan_of profile program s ≡ plan.Ask q → (i : Insn) × (fetch_of profile program s ≡ Instruction i)
unfolding plan_of
asked_runs profile program s q e = runs_asks s (fetch_of profile program s) q e

pub row_local : (profile : Profile) (program : List ℕ) (limit : ℕ) (s : StreamValue) (i : Insn) (grant : ℕ)
    (r : Option Reply) → fetch_of profile program s ≡ Instruction i → plan_of profile program s ≡ plan.Local
    → stream_row profile program limit s grant r ≡ (after_instruction s i 0 grant, outcome.Done)
unfolding plan_of stream_row
row_local profile program limit s i grant r found e =
    ap (row_from limit s grant r) found
    ∙ ap (row_asking limit s i grant r) (plan_local (request_of s i) (sym (ap (plan_from s) found) ∙ e))

pub row_asked : (profile : Profile) (program : List ℕ) (limit : ℕ) (s : StreamValue) (i : Insn) (grant : ℕ)
    (r : Reply) (q : Request) → fetch_of profile program s ≡ Instruction i → plan_of profile program s ≡ plan.Ask q
    → stream_row profile program limit s grant (Some r) ≡ after_reply limit s i grant r
unfolding plan_of stream_row
row_asked profile program limit s i grant r q found e =
    ap (row_from limit s grant (Some r)) found
    ∙ ap (row_asking limit s i grant (Some r)) (plan_asks (request_of s i) q (sym (ap (plan_from s) found) ∙ e))

-- What the steps of a run did, as findings are told of them.
use Rattle.std.specs.Prelude.{ℕ, List, [], ◌∷◌, Option, Some, None, slice_get, option_and_then}
use Rattle.insn_word.specs.declared.insn.Insn.{Insn}
use Rattle.insn_word.specs.Reading.{instruction_in}
use Rattle.tag_memory.specs.Cell.{Cell}
use Rattle.tag_memory.specs.Storage.{TaggedMemory, cell_at}
use Rattle.tag_memory.specs.declared.requests.Reply.{Reply}
use Rattle.tag_memory.specs.declared.requests.Reply.TheVariants as reply
use Rattle.image_file.specs.ImageValue.{ImageValue}
use Rattle.stream_core.specs.declared.steps.Outcome.{Outcome}
use Rattle.stream_core.specs.declared.steps.Outcome.TheVariants as outcome
use Rattle.processor.specs.World.{World, after, outcome_of}
use Rattle.processor.specs.declared.steps.Step.{Step}
use Rattle.step_views.specs.declared.step_views.Reference.{Reference}
use Rattle.step_views.specs.Places.{used_stream}
use Rattle.step_views.specs.StepViews.{pc_of, reference_of}
use Rattle.run_findings.specs.declared.actions.Access.{Access}
use Rattle.run_findings.specs.declared.actions.Action.{Action}
use Rattle.run_findings.specs.declared.actions.Deed.{Deed}
use Rattle.run_findings.specs.declared.actions.Deed.TheVariants as deed

-- What a step did to its stream.

-- the instruction at a pc, if there is one
abbrev pub insn_at : ImageValue → ℕ → Option Insn
insn_at image pc = option_and_then (instruction_in image.profile) (slice_get image.program pc)

abbrev pub executed : Option Insn → Deed
executed None = deed.Nothing
executed (Some i) = deed.Instruction i

-- by the pc before the step and its outcome: the instruction where it is done, a trap where it trapped and goes on
abbrev pub deed_by : ImageValue → ℕ → Outcome → Deed
deed_by image pc outcome.Skipped = deed.Nothing
deed_by image pc outcome.Done = executed (insn_at image pc)
deed_by image pc outcome.Blocked = deed.Nothing
deed_by image pc (outcome.Trapped k) = deed.Trap
deed_by image pc (outcome.Stopped k) = deed.Nothing

-- What it did to a word.

-- the word at which a reference ends
abbrev pub word_met : TaggedMemory → Option Reference → Option Cell
word_met m None = None
word_met m (Some r) = cell_at m r.address

-- the access of a reference to a word that was so before and is so after
abbrev pub access_between : Reference → Option Cell → Option Cell → Option Access
access_between r None after = None
access_between r (Some b) None = None
access_between r (Some b) (Some a) = Some (record {
  address = r.address;
  op = r.request.op;
  before = b.value;
  after = a.value;
  full = b.full;
  full_after = a.full;
})

-- none where the memory did not do what was asked
abbrev pub access_replied : Reference → Reply → Option Cell → Option Cell → Option Access
access_replied r (reply.Done v) before after = access_between r before after
access_replied r (reply.Blocked a) before after = None
access_replied r (reply.Trap k a) before after = None

abbrev pub access_by : Option Reference → Option Cell → Option Cell → Option Access
access_by None before after = None
access_by (Some r) before after = access_replied r r.reply before after

-- what a reference did to its word, from one memory to the next
abbrev pub access_of : TaggedMemory → TaggedMemory → Option Reference → Option Access
access_of m n r = access_by r (word_met m r) (word_met n r)

-- what a step did: to its stream by its pc and outcome, and to the word at which its reference ended
unfoldable pub action_of : ImageValue → World → Step → Action
action_of image w t = record {
  stream = t;
  deed = deed_by image (pc_of (used_stream w t.p t.s)) (outcome_of image w t);
  access = access_of w.memory (after image w t).memory (reference_of image w t);
}

-- what each of these steps did, in their order
abbrev pub actions_of : ImageValue → World → List Step → List Action
actions_of image w [] = []
actions_of image w (t ∷ ts) = action_of image w t ∷ actions_of image (after image w t) ts

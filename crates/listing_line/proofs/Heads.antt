-- Printed heads name their operations.
use Rattle.std.proofs.Common.{◌≡◌, Bool, true, false, refl, ap, subst, true≢false, get_or}
use Rattle.std.specs.Prelude.{◌==◌, Ok}
use Rattle.insn_word.specs.declared.operations.WideOp.{WideOp}
use Rattle.insn_word.specs.declared.operations.WideOp.TheVariants as wide
use Rattle.insn_word.specs.declared.operations.MemoryOp.{MemoryOp}
use Rattle.insn_word.specs.declared.operations.MemoryOp.TheVariants as memory
use Rattle.insn_word.specs.declared.operations.Access.{Access}
use Rattle.insn_word.specs.declared.operations.Access.TheVariants as access
use Rattle.insn_word.specs.declared.operations.ArithmeticOp.{ArithmeticOp}
use Rattle.insn_word.specs.declared.operations.ArithmeticOp.TheVariants as arithmetic
use Rattle.insn_word.specs.declared.operations.ControlOp.{ControlOp}
use Rattle.insn_word.specs.declared.operations.ControlOp.TheVariants as control
use Rattle.insn_word.specs.Operations.{has_purge, has_operation}
use Rattle.insn_word.specs.Words.{used_memory}
use Rattle.insn_word.specs.declared.profiles.Profile.{Profile}
use Rattle.insn_word.specs.declared.insn.MPart.{MPart}
use Rattle.text_parts.specs.Pieces.{text_after}
use Rattle.asm_line.specs.Names.{operation_name}
use Rattle.asm_line.specs.Heads.{operation_of, operation_named, plain_named, wide_named, memory_named}
use Rattle.asm_line.specs.Heads.{arithmetic_named, control_named}
use Rattle.asm_line.specs.Heads.{access_named, test_named}
use Rattle.asm_line.specs.declared.operation.Operation.{Operation}
use Rattle.asm_line.specs.declared.operation.Operation.TheVariants as operation
use Rattle.listing_line.specs.WordText.{is_no_memory, is_no_arithmetic, is_no_control}
use Rattle.listing_line.proofs.Statements.{is_term}

-- In the profile the operation's head is read as it. It begins with no @, and with no dot.
pub record IsHead (profile : Profile) (o : Operation) : Type 0 where
  pub term : is_term (operation_name o) ≡ true
  pub names : operation_of profile (operation_name o) ≡ Ok o
  pub no_at : (get_or (operation_name o) 0 0 == 64) ≡ false
  pub no_dot : (get_or (operation_name o) 0 0 == 46) ≡ false

pub wide-head : (profile : Profile) (op : WideOp) → IsHead profile (operation.Wide op)
unfolding operation_of operation_named plain_named wide_named memory_named arithmetic_named control_named text_after
wide-head profile wide.Literal = record { term = refl; names = refl; no_at = refl; no_dot = refl }
wide-head profile _ = record { term = refl; names = refl; no_at = refl; no_dot = refl }

tag_get : (profile : Profile) → IsHead profile (operation.Memory memory.TagGet access.FromPointer)
unfolding operation_of operation_named plain_named wide_named memory_named arithmetic_named control_named
    access_named text_after
tag_get profile = record { term = refl; names = refl; no_at = refl; no_dot = refl }

tag_set : (profile : Profile) → IsHead profile (operation.Memory memory.TagSet access.FromPointer)
unfolding operation_of operation_named plain_named wide_named memory_named arithmetic_named control_named
    access_named text_after
tag_set profile = record { term = refl; names = refl; no_at = refl; no_dot = refl }

load : (profile : Profile) (acc : Access) → IsHead profile (operation.Memory memory.Load acc)
unfolding operation_of operation_named plain_named wide_named memory_named arithmetic_named control_named
    access_named text_after
load profile access.FromPointer = record { term = refl; names = refl; no_at = refl; no_dot = refl }
load profile _ = record { term = refl; names = refl; no_at = refl; no_dot = refl }

store : (profile : Profile) (acc : Access) → IsHead profile (operation.Memory memory.Store acc)
unfolding operation_of operation_named plain_named wide_named memory_named arithmetic_named control_named
    access_named text_after
store profile access.FromPointer = record { term = refl; names = refl; no_at = refl; no_dot = refl }
store profile _ = record { term = refl; names = refl; no_at = refl; no_dot = refl }

fetch_add : (profile : Profile) (acc : Access) → IsHead profile (operation.Memory memory.FetchAdd acc)
unfolding operation_of operation_named plain_named wide_named memory_named arithmetic_named control_named
    access_named text_after
fetch_add profile access.FromPointer = record { term = refl; names = refl; no_at = refl; no_dot = refl }
fetch_add profile _ = record { term = refl; names = refl; no_at = refl; no_dot = refl }

purge : (profile : Profile) → has_purge profile ≡ true
    → IsHead profile (operation.Memory memory.Purge access.FromPointer)
unfolding operation_of operation_named plain_named wide_named memory_named arithmetic_named control_named
    access_named text_after
purge profile p = record { term = refl; names = rw p refl; no_at = refl; no_dot = refl }

-- TAGGET, TAGSET and PURGE name no access
pub memory-head : (profile : Profile) (op : MemoryOp) (m : MPart) → is_no_memory op ≡ false
    → has_operation profile op ≡ true → used_memory op m ≡ m → IsHead profile (operation.Memory op m.acc)
memory-head profile memory.Nop m h p e = absurd (true≢false h)
memory-head profile memory.Purge m h p e =
    subst (λ acc. IsHead profile (operation.Memory memory.Purge acc)) (ap (λ (p : MPart). p.acc) e) (purge profile p)
memory-head profile memory.TagGet m h p e =
    subst (λ acc. IsHead profile (operation.Memory memory.TagGet acc)) (ap (λ (p : MPart). p.acc) e) (tag_get profile)
memory-head profile memory.TagSet m h p e =
    subst (λ acc. IsHead profile (operation.Memory memory.TagSet acc)) (ap (λ (p : MPart). p.acc) e) (tag_set profile)
memory-head profile memory.Load m h p e = load profile m.acc
memory-head profile memory.Store m h p e = store profile m.acc
memory-head profile memory.FetchAdd m h p e = fetch_add profile m.acc

pub arithmetic-head : (profile : Profile) (op : ArithmeticOp) (test : Bool) → is_no_arithmetic op ≡ false
    → IsHead profile (operation.Arithmetic op test)
unfolding operation_of operation_named plain_named wide_named memory_named arithmetic_named control_named
    test_named text_after
arithmetic-head profile arithmetic.Nop test h = absurd (true≢false h)
arithmetic-head profile _ true h = record { term = refl; names = refl; no_at = refl; no_dot = refl }
arithmetic-head profile _ false h = record { term = refl; names = refl; no_at = refl; no_dot = refl }

pub control-head : (profile : Profile) (op : ControlOp) → is_no_control op ≡ false
    → IsHead profile (operation.Control op)
unfolding operation_of operation_named plain_named wide_named memory_named arithmetic_named control_named text_after
control-head profile control.Nop h = absurd (true≢false h)
control-head profile _ h = record { term = refl; names = refl; no_at = refl; no_dot = refl }

use Rattle.std.proofs.Common.{rules, ◌≡◌, sym, ◌∙◌, subst, ℤ, w8, to_z, of_z}
use Rattle.tag_memory.specs.Access.{pointer_control}
use Rattle.tag_memory.specs.declared.pointers.AccessControl.TheVariants.{Normal}
use Rattle.stream_core.specs.Registers.{register_at}
use Rattle.stream_core.specs.Effects.{displaced_pointer}
use Rattle.touched_words.proofs.named_requests.has_normal_control.Goals as goal

pub returns-in-Some : goal.returns-in-Some
returns-in-Some c =
    let same : to_z w8 (of_z w8 c.args.m.now.disp) ≡ c.args.m.now.disp = search rules in
    λ yes s holds.
    let base = register_at s.registers c.args.m.now.base in
    subst (λ (d : ℤ). pointer_control (displaced_pointer base d) ≡ Normal) same
    (c.are_normal.ensures yes base
    (holds.each c.args.m.now.base c.in-Some.bases (sym c.known_by.ensures ∙ c.in-Some.is)))

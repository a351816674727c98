use Rattle.std.proofs.Common.{◌≡◌, ◌++◌, ap, ◌∙◌, length}
use Rattle.image_file.specs.Versions.{version_of, chain_size}
use Rattle.image_file.specs.Spelling.{magic, header_bytes}
use Rattle.image_file.proofs.Headers.{header_put}
use Rattle.image_file.proofs.writing.put_header.Goals as goal

pub returns-clause-is : goal.returns-clause-is
returns-clause-is c =
    let out = c.args.out.now.items in
    let words = length c.program.result.now in
    let cells = length c.cells.result.now in
    let put : c.put_u32-5.new.out.items
    ≡ out ++ header_bytes magic c.version_of.result c.processors.result c.slim.result (chain_size c.profile-2.result)
    c.chain_limit.result c.retry_limit.result c.trap_entry.result words cells =
    rw (
      c.in_ok-put_u32-5.ensures,
      c.in_ok-put_u32-4.ensures,
      c.in_ok-put_u32-3.ensures,
      c.in_ok-put_u32-2.ensures,
      c.in_ok-put_chain_limit.ensures,
      c.in_ok-put_u16-3.ensures,
      c.in_ok-put_u16-2.ensures,
      c.in_ok-put_u16.ensures,
      c.in_ok-put_u32.ensures,
    ) (header_put out magic c.version_of.result c.processors.result c.slim.result (chain_size c.profile-2.result)
    c.chain_limit.result c.retry_limit.result c.trap_entry.result words cells) in
    put
    ∙ (λ i. out ++ header_bytes magic ((c.version_of.ensures ∙ ap version_of c.profile.ensures) i)
    (c.processors.ensures.is i) (c.slim.ensures.is i)
    (chain_size (c.profile-2.ensures i)) (c.chain_limit.ensures.is i)
    (c.retry_limit.ensures i)
    (c.trap_entry.ensures i) (length (c.program.ensures.is i)) (length (c.cells.ensures.is i)))

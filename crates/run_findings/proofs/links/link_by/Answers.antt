use Rattle.std.proofs.Common.{◌<◌, cond, Some, length, sym, subst, ap, ◌∙◌, arith}
use Rattle.std.specs.Option.{IfSome}
use Rattle.run_findings.specs.Links.{link_at}
use Rattle.run_findings.proofs.Words.{link_none, link_some}
use Rattle.run_findings.proofs.links.link_by.Goals as goal

pub returns-then-meets_its_word : goal.returns-then-meets_its_word
returns-then-meets_its_word c n word same =
    let ds = c.args.actions.now in
    let u = c.in-Some.before in
    let low : u < length c.args.links.now = subst (λ o. IfSome o (λ k. k < length c.args.links.now)) c.in-Some.is c.requires.within in
    let count = c.requires.links.count in
    ap (λ t. cond t (Some u) (link_at c.args.way ds u)) (sym c.if-meets_its_word.true ∙ c.meets_its_word.ensures)
    ∙ link_some c.args.way ds n u _ word (omega (arith, low, count)) (sym c.in-Some.is ∙ same)

pub returns-else-meets_its_word : goal.returns-else-meets_its_word
returns-else-meets_its_word c n word same =
    let ds = c.args.actions.now in
    let u = c.in-Some.before in
    let low : u < length c.args.links.now = subst (λ o. IfSome o (λ k. k < length c.args.links.now)) c.in-Some.is c.requires.within in
    let count = c.requires.links.count in
    c.requires.links.is u _ low
    ∙ ap (λ t. cond t (Some u) (link_at c.args.way ds u)) (sym c.if-meets_its_word.false ∙ c.meets_its_word.ensures)
    ∙ link_some c.args.way ds n u _ word (omega (arith, low, count)) (sym c.in-Some.is ∙ same)

pub returns-in-None : goal.returns-in-None
returns-in-None c n word same = link_none c.args.way c.args.actions.now n word (sym c.in-None.is ∙ same)

use Rattle.std.proofs.Common.{sym, ap, ◌∙◌, rules, length, subst, Option, List, ℕ, ◌≡◌}
use Rattle.std.specs.Prelude.{MatchOption}
use Rattle.terminal_components.specs.declared.links.Link.{Link}
use Rattle.terminal_components.specs.Cycles.{IsShortestCycle, HasNoCycle}
use Rattle.busy_streams.specs.Busy as busy
use Rattle.busy_streams.specs.OwnCycles.{own_links}
use Rattle.schedule_space.specs.Spaces.{count, world_of}
use Rattle.busy_streams.proofs.Cycles.{shortest_way, shortest_step}
use Rattle.busy_streams.proofs.busy_worlds.cycle_length.Goals as goal

pub returns-in-Some : goal.returns-in-Some
returns-in-Some c = λ plain back.
    let v = c.args.space.now in
    let t = c.args.stream in
    let k = c.args.place in
    let links : c.deref.result.now ≡ own_links t v.edges =
    c.deref.ensures.value ∙ c.in_ok-links.ensures ∙ ap (own_links t) c.edges.ensures.edges in
    let numbers = c.in-Some.numbers.items in
    let found : IsShortestCycle c.len.result c.deref.result.now k numbers =
    subst (λ o. MatchOption o (HasNoCycle c.len.result c.deref.result.now k)
    (λ w. IsShortestCycle c.len.result c.deref.result.now k w.items)) c.in-Some.is c.in_ok-numbers.ensures in
    let there : IsShortestCycle (count v) (own_links t v.edges) k numbers =
    subst (λ n. IsShortestCycle n (own_links t v.edges) k numbers) c.len.ensures.count
    (subst (λ ls. IsShortestCycle c.len.result ls k numbers) links found) in
    let many : c.len-in-Some.result ≡ length numbers = search rules in
    subst (busy.IsShortestCycle v.image (world_of v k) t) (sym many)
    (shortest_way v plain c.len.ensures.links t k c.requires numbers there)

pub returns : goal.returns
returns c = λ plain back.
    let v = c.args.space.now in
    let t = c.args.stream in
    let k = c.args.place in
    let links : c.deref.result.now ≡ own_links t v.edges =
    c.deref.ensures.value ∙ c.in_ok-links.ensures ∙ ap (own_links t) c.edges.ensures.edges in
    let found : HasNoCycle c.len.result c.deref.result.now k =
    subst (λ o. MatchOption o (HasNoCycle c.len.result c.deref.result.now k)
    (λ w. IsShortestCycle c.len.result c.deref.result.now k w.items)) c.in-None.is c.in_ok-numbers.ensures in
    let there : HasNoCycle (count v) (own_links t v.edges) k =
    subst (λ n. HasNoCycle n (own_links t v.edges) k) c.len.ensures.count
    (subst (λ ls. HasNoCycle c.len.result ls k) links found) in
    shortest_step v plain c.len.ensures.links t k c.requires back there

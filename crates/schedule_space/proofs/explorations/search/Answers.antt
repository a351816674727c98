use Rattle.std.proofs.Common.{◌≡◌, ◌<◌, sym, ap, ◌∙◌, subst, arith, rules, true, false, List, length}
use Rattle.std.specs.Result.{is_err}
use Rattle.std.specs.List.{Contains}
use Rattle.tag_memory.specs.Unforwarded.{IsUnforwarded}
use Rattle.touched_words.specs.TouchTables.{TouchValue}
use Rattle.schedule_space.specs.declared.links.Edge.{Edge}
use Rattle.image_file.specs.ImageValue.{ImageValue}
use Rattle.machine.specs.MachineValue.{MachineValue}
use Rattle.processor.specs.World.{run, steps}
use Rattle.world_keys.specs.DeadRegisters.Clearing.{LiveValue, IsLive}
use Rattle.agreeing_ends.specs.LocalSteps.SettledEndings.{AreSettled}
use Rattle.schedule_space.specs.Spaces.{SpaceValue, count, schedule_of, world_of}
use Rattle.schedule_space.specs.Finding.{IsExpanded, IsExpanding}
use Rattle.schedule_space.specs.Kept.{AreKept}
use Rattle.schedule_space.specs.Tables.{AreTablesOf}
use Rattle.schedule_space.proofs.Breadth.{breadth_begun, breadth_next, shortest_all}
use Rattle.schedule_space.specs.Quiet.{IsFollowedQuietly}
use Rattle.schedule_space.proofs.Growing.{grown_refl}
use Rattle.schedule_space.proofs.Taking.{expanded_more}
use Rattle.schedule_space.proofs.Alone.{followed_more, same_followed}
use Rattle.schedule_space.proofs.Exploring.{loaded, begun_kept, same_expanded, same_shortest, full_when, ended_well}
use Rattle.schedule_space.specs.declared.watches.Bound.TheVariants as bound
use Rattle.schedule_space.specs.declared.finding.Stop.TheVariants as stop
use Rattle.schedule_space.proofs.explorations.search.Goals as goal

pub begin-requires : goal.begin-requires
begin-requires g c = (
  omega arith,
  (
    loaded c.args.image.now c.in_ok-first.first c.run.new.self c.args.begin.now c.in_ok-first.ensures.is c.run.ensures,
    subst (λ (i : ImageValue). IsLive i c.in_ok-live.live)
        (sym (ap (λ (m : MachineValue). m.image) (c.run.ensures ∙ ap (λ (m : MachineValue). record m { world = steps m.image m.world c.args.begin.now }) c.in_ok-first.ensures.is)))
        c.in_ok-live.ensures.live,
  ),
)

pub loop-from-init : goal.loop-from-init
loop-from-init g c =
    let first = c.run.new.self in
    let begin = c.args.begin.now in
    let v = c.in_ok-found.found in
    let is = c.in_ok-found.ensures in
    record {
      image =
          ap (λ (x : SpaceValue). x.image) is ∙ ap (λ (m : MachineValue). m.image) (c.run.ensures ∙ ap (λ (m : MachineValue). record m { world = steps m.image m.world begin }) c.in_ok-first.ensures.is);
      begin = ap (λ (x : SpaceValue). x.begin) is;
      names = ap (λ (x : SpaceValue). x.live.names) is ∙ c.in_ok-live.ensures.names;
      tables = λ on.
          subst (λ (ts : List TouchValue). AreTablesOf v.image v.live ts) (sym c.deref-2.ensures.value)
          (subst (λ (x : SpaceValue). AreTablesOf x.image x.live c.in_ok-tables.tables.items) (sym is)
          (subst (λ (i : ImageValue). AreTablesOf i c.in_ok-live.live c.in_ok-tables.tables.items)
          (sym (ap (λ (m : MachineValue). m.image) (c.run.ensures ∙ ap (λ (m : MachineValue). record m { world = steps m.image m.world begin }) c.in_ok-first.ensures.is)))
          (c.in_ok-tables.ensures on)));
      expanded = λ _ k below. absurd (omega arith);
      quiet = λ k below. absurd (omega arith);
      inside = omega arith;
      within = omega (arith, ap count is, c.world_limit-limit.ensures.some);
      edges = λ e has. absurd (omega (arith, has.1, ap (λ (x : SpaceValue). length x.edges) is));
      kept =
          begun_kept v first c.new-machines.result c.in_ok-live.live begin is
          (loaded c.args.image.now c.in_ok-first.first first begin c.in_ok-first.ensures.is c.run.ensures) c.new-machines.ensures;
      breadth = λ _. breadth_begun v (ap (λ (x : SpaceValue). x.links) is);
    }

pub expand-expanded-requires : goal.expand-expanded-requires
expand-expanded-requires g c =
    let v = c.loop-from.found in
    let n = c.loop-from.from in
    let below : n < count v = omega (arith, c.len.ensures, c.if-from-len.false) in
    let expanding : IsExpanding v n c.world_limit-limit.result =
    record {
      there = below;
      within = c.loop-from.invariant.within;
      edges = λ e has. let less = c.loop-from.invariant.edges e has in omega (arith, less);
      breadth = c.loop-from.invariant.breadth below;
    } in
    let edges : (e : Edge) → Contains v.edges e → e.from < n = c.loop-from.invariant.edges in
    let kept : AreKept v c.loop-from.machines = c.loop-from.invariant.kept in
    let settled : AreSettled v.image c.deref.result.now =
    subst (AreSettled v.image) (sym c.deref.ensures.value)
    (subst (λ (i : ImageValue). AreSettled i c.in_ok-settled.settled.items) (sym c.loop-from.invariant.image)
    c.in_ok-settled.ensures) in
    let tables : c.takes_sets-by_sets.result ≡ true → AreTablesOf v.image v.live c.deref-2.result.now =
    c.loop-from.invariant.tables in
    let unforwarded : c.takes_sets-by_sets.result ≡ true → IsUnforwarded (world_of v n).memory =
    λ on.
    subst (λ (i : ImageValue). IsUnforwarded (run i (schedule_of v n)).memory) (sym c.loop-from.invariant.image)
    (c.takes_sets-by_sets.ensures on (schedule_of v n)) in
    search rules

pub returns-then-from-len-clause-image : goal.returns-then-from-len-clause-image
returns-then-from-len-clause-image g c =
    ap (λ (x : SpaceValue). x.image) c.into_space.ensures.is ∙ c.loop-from.invariant.image

pub returns-then-from-len-clause-begin : goal.returns-then-from-len-clause-begin
returns-then-from-len-clause-begin g c =
    ap (λ (x : SpaceValue). x.begin) c.into_space.ensures.is ∙ c.loop-from.invariant.begin

pub returns-then-from-len-clause-names : goal.returns-then-from-len-clause-names
returns-then-from-len-clause-names g c =
    ap (λ (x : SpaceValue). x.live.names) c.into_space.ensures.is ∙ c.loop-from.invariant.names

pub returns-then-from-len-clause-expanded : goal.returns-then-from-len-clause-expanded
returns-then-from-len-clause-expanded g c = λ on _.
    same_expanded c.loop-from.found c.into_space.result c.into_space.ensures.is
    (λ k less. c.loop-from.invariant.expanded on k (omega (arith, less, c.len.ensures, c.if-from-len.true)))

pub returns-then-from-len-clause-quiet : goal.returns-then-from-len-clause-quiet
returns-then-from-len-clause-quiet g c = λ _.
    same_followed c.args.observation.places.now c.args.observation.words.now c.loop-from.found c.into_space.result c.into_space.ensures.is
    (λ k less. c.loop-from.invariant.quiet k (omega (arith, less, c.len.ensures, c.if-from-len.true)))

pub returns-then-from-len-clause-shortest : goal.returns-then-from-len-clause-shortest
returns-then-from-len-clause-shortest g c = λ on.
    shortest_all c.into_space.result c.into_space.ensures.live c.into_space.ensures.apart
    (same_expanded c.loop-from.found c.into_space.result c.into_space.ensures.is
    (λ k less. c.loop-from.invariant.expanded on k (omega (arith, less, c.len.ensures, c.if-from-len.true))))

pub returns-then-from-len-clause-within : goal.returns-then-from-len-clause-within
returns-then-from-len-clause-within g c =
    omega (arith, ap count c.into_space.ensures.is, c.loop-from.invariant.within, c.world_limit-limit.ensures.within)

pub returns-then-not-is_to_go_on-clause-image : goal.returns-then-not-is_to_go_on-clause-image
returns-then-not-is_to_go_on-clause-image g c =
    ap (λ (x : SpaceValue). x.image) c.into_space-then-not-is_to_go_on.ensures.is ∙ c.loop-from.invariant.image

pub returns-then-not-is_to_go_on-clause-begin : goal.returns-then-not-is_to_go_on-clause-begin
returns-then-not-is_to_go_on-clause-begin g c =
    ap (λ (x : SpaceValue). x.begin) c.into_space-then-not-is_to_go_on.ensures.is ∙ c.loop-from.invariant.begin

pub returns-then-not-is_to_go_on-clause-names : goal.returns-then-not-is_to_go_on-clause-names
returns-then-not-is_to_go_on-clause-names g c =
    ap (λ (x : SpaceValue). x.live.names) c.into_space-then-not-is_to_go_on.ensures.is ∙ c.loop-from.invariant.names

pub returns-then-not-is_to_go_on-clause-shortest : goal.returns-then-not-is_to_go_on-clause-shortest
returns-then-not-is_to_go_on-clause-shortest g c = λ on.
    let below : c.loop-from.from < count c.loop-from.found = omega (arith, c.len.ensures, c.if-from-len.false) in
    same_shortest c.loop-from.found c.loop-from.found c.into_space-then-not-is_to_go_on.result c.loop-from.from c.into_space-then-not-is_to_go_on.ensures.is
    (grown_refl c.loop-from.found) below (c.loop-from.invariant.expanded on) (c.loop-from.invariant.breadth below) c.into_space-then-not-is_to_go_on.ensures.live
    c.into_space-then-not-is_to_go_on.ensures.apart

pub returns-then-not-is_to_go_on-clause-within : goal.returns-then-not-is_to_go_on-clause-within
returns-then-not-is_to_go_on-clause-within g c =
    omega (arith, ap count c.into_space-then-not-is_to_go_on.ensures.is, c.loop-from.invariant.within, c.world_limit-limit.ensures.within)

pub returns-in-Err-clause-image : goal.returns-in-Err-clause-image
returns-in-Err-clause-image g c =
    ap (λ (x : SpaceValue). x.image) c.into_space-in-Err.ensures.is ∙ c.expand-expanded.ensures.grown.image ∙ c.loop-from.invariant.image

pub returns-in-Err-clause-begin : goal.returns-in-Err-clause-begin
returns-in-Err-clause-begin g c =
    ap (λ (x : SpaceValue). x.begin) c.into_space-in-Err.ensures.is ∙ c.expand-expanded.ensures.grown.begin ∙ c.loop-from.invariant.begin

pub returns-in-Err-clause-names : goal.returns-in-Err-clause-names
returns-in-Err-clause-names g c =
    ap (λ (x : SpaceValue). x.live.names) c.into_space-in-Err.ensures.is ∙ ap (λ (l : LiveValue). l.names) c.expand-expanded.ensures.grown.live ∙ c.loop-from.invariant.names

pub returns-in-Err-clause-shortest : goal.returns-in-Err-clause-shortest
returns-in-Err-clause-shortest g c = λ on.
    let below : c.loop-from.from < count c.loop-from.found = omega (arith, c.len.ensures, c.if-from-len.false) in
    same_shortest c.loop-from.found c.expand-expanded.new.self c.into_space-in-Err.result c.loop-from.from c.into_space-in-Err.ensures.is
    c.expand-expanded.ensures.grown below (c.loop-from.invariant.expanded on) c.expand-expanded.ensures.expanding.breadth c.into_space-in-Err.ensures.live
    c.into_space-in-Err.ensures.apart

pub returns-in-Err-clause-full : goal.returns-in-Err-clause-full
returns-in-Err-clause-full g c = λ ended.
    let below : c.loop-from.from < count c.loop-from.found = omega (arith, c.len.ensures, c.if-from-len.false) in
    let why : c.bound_of.result ≡ bound.Worlds = cc in
    let stopped : c.in-Err.stop ≡ stop.Full = c.bound_of.ensures.worlds why in
    full_when c.expand-expanded.new.self c.into_space-in-Err.result c.loop-from.from c.world_limit-limit.result c.args.most
    c.into_space-in-Err.ensures.is c.world_limit-limit.ensures.is c.into_space-in-Err.ensures.links
    c.expand-expanded.ensures.expanding.there (c.expand-expanded.ensures.full cc)

pub returns-in-Err-clause-within : goal.returns-in-Err-clause-within
returns-in-Err-clause-within g c =
    omega (arith, ap count c.into_space-in-Err.ensures.is, c.expand-expanded.ensures.expanding.within, c.world_limit-limit.ensures.within)

pub loop-from-preserved : goal.loop-from-preserved
loop-from-preserved g c =
    let below : c.loop-from.from < count c.loop-from.found = omega (arith, c.len.ensures, c.if-from-len.false) in
    let old = c.loop-from.found in
    let new = c.expand-expanded.new.self in
    let n = c.loop-from.from in
    let well : is_err c.expand-expanded.result ≡ false = search rules in
    let quiet = ended_well c.expand-expanded.result (IsFollowedQuietly c.args.observation.places.now c.args.observation.words.now new n) well c.expand-expanded.ensures.quiet in
    record {
      image = c.expand-expanded.ensures.grown.image ∙ c.loop-from.invariant.image;
      begin = c.expand-expanded.ensures.grown.begin ∙ c.loop-from.invariant.begin;
      names = ap (λ (l : LiveValue). l.names) c.expand-expanded.ensures.grown.live ∙ c.loop-from.invariant.names;
      tables = λ on.
          subst (λ (l : LiveValue). AreTablesOf new.image l c.deref-2.result.now) (sym c.expand-expanded.ensures.grown.live)
          (subst (λ (i : ImageValue). AreTablesOf i old.live c.deref-2.result.now) (sym c.expand-expanded.ensures.grown.image)
          (c.loop-from.invariant.tables on));
      expanded = λ on.
          expanded_more old new n c.expand-expanded.ensures.grown below (c.loop-from.invariant.expanded on)
          (ended_well c.expand-expanded.result (IsExpanded new n) well (c.expand-expanded.ensures.expanded on));
      quiet =
          followed_more c.args.observation.places.now c.args.observation.words.now old new n c.expand-expanded.ensures.grown below c.loop-from.invariant.quiet quiet;
      inside = omega (arith, below, c.expand-expanded.ensures.grown.more);
      within = c.expand-expanded.ensures.expanding.within;
      edges = λ e has. let at = c.expand-expanded.ensures.expanding.edges e has in omega (arith, at);
      kept = ended_well c.expand-expanded.result (AreKept new c.expand-expanded.new.machines) well c.expand-expanded.ensures.machines;
      breadth = λ below. breadth_next new n below c.expand-expanded.ensures.expanding.breadth;
    }

pub returns-clause-image : goal.returns-clause-image
returns-clause-image g c =
    ap (λ (x : SpaceValue). x.image) c.into_space-2.ensures.is ∙ c.loop-from.invariant.image

pub returns-clause-begin : goal.returns-clause-begin
returns-clause-begin g c =
    ap (λ (x : SpaceValue). x.begin) c.into_space-2.ensures.is ∙ c.loop-from.invariant.begin

pub returns-clause-names : goal.returns-clause-names
returns-clause-names g c =
    ap (λ (x : SpaceValue). x.live.names) c.into_space-2.ensures.is ∙ c.loop-from.invariant.names

pub returns-clause-expanded : goal.returns-clause-expanded
returns-clause-expanded g c = λ on _.
    same_expanded c.loop-from.found c.into_space-2.result c.into_space-2.ensures.is
    (λ k less. c.loop-from.invariant.expanded on k (omega (arith, less, c.loop-from.invariant.within, c.loop-from-test.false)))

pub returns-clause-quiet : goal.returns-clause-quiet
returns-clause-quiet g c = λ _.
    same_followed c.args.observation.places.now c.args.observation.words.now c.loop-from.found c.into_space-2.result c.into_space-2.ensures.is
    (λ k less. c.loop-from.invariant.quiet k (omega (arith, less, c.loop-from.invariant.within, c.loop-from-test.false)))

pub returns-clause-shortest : goal.returns-clause-shortest
returns-clause-shortest g c = λ on.
    shortest_all c.into_space-2.result c.into_space-2.ensures.live c.into_space-2.ensures.apart
    (same_expanded c.loop-from.found c.into_space-2.result c.into_space-2.ensures.is
    (λ k less. c.loop-from.invariant.expanded on k (omega (arith, less, c.loop-from.invariant.within, c.loop-from-test.false))))

pub returns-clause-within : goal.returns-clause-within
returns-clause-within g c =
    omega (arith, ap count c.into_space-2.ensures.is, c.loop-from.invariant.within, c.world_limit-limit.ensures.within)

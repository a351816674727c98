use Rattle.std.proofs.Common.{subst, length, List}
use Rattle.processor.specs.declared.steps.Step.{Step}
use Rattle.fair_rounds.specs.declared.graphs.Standing.{Standing}
use Rattle.starving_streams.specs.Graphs.{AreEdges, HaveStreams}
use Rattle.starving_streams.proofs.graphs.graph_of.Goals as goal

pub returns-clause-is : goal.returns-clause-is
returns-clause-is g c = λ plain.
    let v = c.args.space.now in
    let streams = c.in_ok-streams.streams.items in
    let edges = c.in_ok-edges.edges.items in
    record {
      standings = c.in_ok-all.ensures.is;
      dues = c.in_ok-all.ensures.dues;
      streams =
          subst (λ (ss : List Standing). HaveStreams ss streams) c.deref.ensures.value c.in_ok-streams.ensures;
      edges =
          subst (λ (ss : List Standing). AreEdges v ss streams (length streams) edges) c.deref-2.ensures.value
          (subst (λ (us : List Step). AreEdges v c.deref-2.result.now us (length us) edges) c.deref-3.ensures.value
          (c.in_ok-edges.ensures plain));
    }

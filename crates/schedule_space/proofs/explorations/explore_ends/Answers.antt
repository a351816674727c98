use Rattle.schedule_space.proofs.Explored.{followed_if, ends_if, tells_if, shortest_if}
use Rattle.schedule_space.proofs.explorations.explore_ends.Goals as goal

pub returns-clause-followed : goal.returns-clause-followed
returns-clause-followed g c = followed_if c.args.observation.places.now c.args.observation.words.now c.search.result c.search.ensures.quiet

pub returns-clause-ends : goal.returns-clause-ends
returns-clause-ends g c = ends_if c.search.result c.search.ensures.live (followed_if c.args.observation.places.now c.args.observation.words.now c.search.result c.search.ensures.quiet)

pub returns-clause-tells : goal.returns-clause-tells
returns-clause-tells g c = tells_if c.search.result c.search.ensures.live (followed_if c.args.observation.places.now c.args.observation.words.now c.search.result c.search.ensures.quiet)

pub returns-clause-shortest : goal.returns-clause-shortest
returns-clause-shortest g c = shortest_if c.search.result c.search.ensures.live (followed_if c.args.observation.places.now c.args.observation.words.now c.search.result c.search.ensures.quiet) c.search.ensures.distinct

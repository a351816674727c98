use Rattle.step_views.proofs.AllPlaces.{all_places}
use Rattle.step_views.proofs.laws.worlds_are_their_places.Goals as goal

pub returns : goal.returns
returns c = all_places c.serving_laws.ensures.words

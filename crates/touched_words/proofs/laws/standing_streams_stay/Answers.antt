use Rattle.touched_words.proofs.laws.standing_streams_stay.Goals as goal
use Rattle.touched_words.proofs.Staying.{finds, stays, never}

pub returns-clause-finds : goal.returns-clause-finds
returns-clause-finds c = λ image v s closed. finds image v closed s

pub returns-clause-stays : goal.returns-clause-stays
returns-clause-stays c = λ image v k s r closed. stays image v closed k s r

pub returns-clause-never : goal.returns-clause-never
returns-clause-never c = λ image v k s closed. never image v closed k s

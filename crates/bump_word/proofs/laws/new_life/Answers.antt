use Rattle.bump_word.proofs.Steps.{new_life_stored, new_life_number}
use Rattle.bump_word.proofs.laws.new_life.Goals as goal

pub returns-clause-stored : goal.returns-clause-stored
returns-clause-stored c = new_life_stored

pub returns-clause-number : goal.returns-clause-number
returns-clause-number c = new_life_number

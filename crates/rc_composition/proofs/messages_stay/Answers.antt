use Rattle.rc_composition.proofs.Sending.{letters_are_messages, numbers_stay}
use Rattle.rc_composition.proofs.messages_stay.Goals as goal

pub returns-clause-letters : goal.returns-clause-letters
returns-clause-letters c = letters_are_messages

pub returns-clause-numbers : goal.returns-clause-numbers
returns-clause-numbers c = numbers_stay

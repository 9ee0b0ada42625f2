use Rattle.tx_turns.proofs.EventLemmas.{starve_own}
use Rattle.tx_turns.proofs.WordLemmas.{word_own}
use Rattle.tx_turns.proofs.laws.turns_keep_own.Goals as goal

pub returns-clause-words : goal.returns-clause-words
returns-clause-words g c = word_own c.steps_as_worlds.ensures c.events_keep_copies.ensures.steps c.copies_by_stage.ensures.others

pub returns-clause-starves : goal.returns-clause-starves
returns-clause-starves g c = starve_own c.events_keep_copies.ensures.starves c.copies_by_stage.ensures.others

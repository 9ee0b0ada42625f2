use Rattle.replay_log.proofs.PartLemmas.{is_whole, answers_by_parts, knows_its_calls, leaves_other_parts, parts_by_part}
use Rattle.replay_log.proofs.laws.part_laws.Goals as goal

pub returns-clause-whole : goal.returns-clause-whole
returns-clause-whole g c = is_whole

pub returns-clause-answers : goal.returns-clause-answers
returns-clause-answers g c = answers_by_parts

pub returns-clause-known : goal.returns-clause-known
returns-clause-known g c = knows_its_calls

pub returns-clause-untouched : goal.returns-clause-untouched
returns-clause-untouched g c = leaves_other_parts

pub returns-clause-by_part : goal.returns-clause-by_part
returns-clause-by_part g c = parts_by_part

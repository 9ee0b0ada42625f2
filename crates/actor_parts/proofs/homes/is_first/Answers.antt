use Rattle.std.proofs.Common.{rules}
use Rattle.actor_parts.proofs.HomesLemmas.{first_none, first_there}
use Rattle.actor_parts.proofs.homes.is_first.Goals as goal

pub returns-then-is_empty : goal.returns-then-is_empty
returns-then-is_empty c = first_none c.args.k c.args.homes.now.items (search rules)

pub returns : goal.returns
returns c = first_there c.args.k c.index.result.now c.args.homes.now.items (search rules) c.index.ensures

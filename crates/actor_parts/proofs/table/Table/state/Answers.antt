use Rattle.std.proofs.Common.{List, subst}
use Rattle.std.specs.Prelude.{All}
use Rattle.seq_model.specs.Calls.{IsWithinLimits}
use Rattle.seq_model.specs.declared.held.Held.{Held}
use Rattle.actor_parts.proofs.StateLemmas.{beyond, told}
use Rattle.actor_parts.proofs.table.Table.state.Goals as goal

pub returns-clause-shows : goal.returns-clause-shows
returns-clause-shows g c = told c.args.self.now c.args.words c.in-Ok.parts.0.items c.in-Ok.parts.1.items c.new.result c.in-Ok.ensures.words
    c.in-Ok.ensures.held c.new.ensures.words c.new.ensures.held

pub returns-clause-within : goal.returns-clause-within
returns-clause-within g c = λ made. subst (λ (x : List (Held _)). All IsWithinLimits x) c.in-Ok.ensures.held (c.new.ensures.within made)

pub returns-clause-refused : goal.returns-clause-refused
returns-clause-refused g c = beyond c.args.self.now c.in-Ok.parts.1.items c.new.result c.in-Ok.ensures.held c.new.ensures.too_long

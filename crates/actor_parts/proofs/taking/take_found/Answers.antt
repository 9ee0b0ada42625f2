use Rattle.actor_parts.proofs.taking.take_found.Goals as goal

pub returns-in_ok-place-in-Ok-clause-ok : goal.returns-in_ok-place-in-Ok-clause-ok
returns-in_ok-place-in-Ok-clause-ok g c = record { found = c.in-Ok.found; is = c.in-Ok.ensures; at = c.in_ok-place-in-Ok.ensures.ok }

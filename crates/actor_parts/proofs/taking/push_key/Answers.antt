use Rattle.std.proofs.Common.{[], ◌∷◌, ◌++◌, ap, ◌∙◌}
use Rattle.actor_parts.specs.Taking.{copy_with}
use Rattle.actor_parts.proofs.taking.push_key.Goals as goal

pub returns-in-Ok-clause-ok : goal.returns-in-Ok-clause-ok
returns-in-Ok-clause-ok g c = (
  c.in-Ok.copied,
  c.in-Ok.ensures,
  c.push_reserved.ensures.items ∙ ap (λ cs. cs ++ copy_with c.args.collection c.in-Ok.copied ∷ []) c.make_room.ensures.items,
)

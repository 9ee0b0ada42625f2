use Rattle.std.proofs.Common.{◌+◌, ◌∙◌, subst, sym}
use Rattle.actor_parts.specs.Sizes.{HasAtMost}
use Rattle.actor_parts.proofs.RoomLemmas.{any_most, key_most}
use Rattle.actor_parts.proofs.taking.most_of.Goals as goal

pub returns-then-is_on_key : goal.returns-then-is_on_key
returns-then-is_on_key g c = key_most c.args.base.now c.args.op.now (sym c.is_on_key.ensures ∙ c.if-is_on_key.true)

pub returns-else-is_on_key : goal.returns-else-is_on_key
returns-else-is_on_key g c =
    subst (λ n. HasAtMost c.args.base.now c.args.op.now (n + 2) 2) (sym c.requires) (any_most c.args.base.now c.args.op.now)

use Rattle.std.proofs.Common.{sym, ◌∙◌}
use Rattle.vacation_core.proofs.SessionLemmas.{calls, is_replied}
use Rattle.vacation_core.proofs.session.call.Goals as goal

pub unreachable-requires : goal.unreachable-requires
unreachable-requires c =
    is_replied c.args.world.now.parts c.ask.new.world.parts c.args.call c.in_ok-told.told c.in_ok-told.ensures c.requires
    (sym c.reply_in.ensures ∙ c.in-None.is)

pub returns : goal.returns
returns c =
    calls c.args.world.now.parts c.ask.new.world.parts c.args.call c.in_ok-told.told c.in-Some.reply c.in_ok-told.ensures
    (sym c.reply_in.ensures ∙ c.in-Some.is)

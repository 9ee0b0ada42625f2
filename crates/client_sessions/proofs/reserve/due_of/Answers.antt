use Rattle.std.proofs.Common.{◌∙◌, None, arith, sym}
use Rattle.client_sessions.specs.Sessions as programs
use Rattle.client_sessions.proofs.GetLemmas.{gets_next}
use Rattle.client_sessions.proofs.reserve.due_of.Goals as goal

pub returns-then-tell_items : goal.returns-then-tell_items
returns-then-tell_items c = λ customer units. gets_next c.args.asks.now _ c.args.replies.now None None None
    (programs.reserve_among customer units) (sym c.tell_items.ensures ∙ c.if-tell_items.true) (omega arith)

use Rattle.std.proofs.Common.{ℕ, refl, subst}
use Rattle.tx_actor.specs.declared.actor.TxActor.{TxActor}
use Rattle.tx_actor.proofs.AskLemmas.{stores_as}
use Rattle.actor_parts.specs.Requests.{KeepsAt}
use Rattle.tx_actor.proofs.ActorBoundsLemmas.{keeps_asked, room_as}
use Rattle.tx_actor.proofs.actor.TxActor.request_store.Goals as goal

pub returns-clause-ok : goal.returns-clause-ok
returns-clause-ok g c a w held s =
    let u : TxActor g.row.V.Denot = record c.args.self.now { words = c.store_words.new.words } in
    stores_as c.args.self.now u refl (λ st. refl) c.in_ok-store_words.ensures.actor a w held s

pub returns-clause-keeps : goal.returns-clause-keeps
returns-clause-keeps g c quiet =
    let r = c.args.self.now in
    let v = c.args.blocks.now in
    let u : TxActor g.row.V.Denot = record r { words = c.store_words.new.words } in
    keeps_asked v r u (subst (λ (n : ℕ). KeepsAt n r.words u.words) c.end.ensures c.store_words.ensures.keeps)
    (room_as r u r.stage quiet refl (λ h. h)) (λ h. h) quiet

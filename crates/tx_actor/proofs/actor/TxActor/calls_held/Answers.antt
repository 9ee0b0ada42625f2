use Rattle.std.proofs.Common.{length, refl, sym, ap, subst, ◌∙◌}
use Rattle.std.proofs.lemmas.Option.{slice_get_read, same_Some}
use Rattle.actor_parts.specs.declared.copies.CopyOfCollection.{CopyOfCollection}
use Rattle.actor_parts.specs.PrivateCopy.{holds_call}
use Rattle.tx_actor.specs.Straight.{IsPutRead}
use Rattle.tx_actor.proofs.actor.TxActor.calls_held.Goals as goal

pub puts_at-requires-clause-read : goal.puts_at-requires-clause-read
puts_at-requires-clause-read g c d there =
    let h = c.requires.held in
    let r = c.args.self.now in
    let cs = r.copies.items in
    let here = c.index.result.now in
    let at = slice_get_read cs (length cs) c.args.place here refl h.there c.index.ensures in
    let holds = ap (λ (z : CopyOfCollection g.row.V.Denot). holds_call z.copied c.args.op) (same_Some here h.copy (sym at ∙ h.at))
    ∙ h.holds in
    subst (λ (z : CopyOfCollection g.row.V.Denot). IsPutRead r.words z.copied c.first_of-first.result c.args.op c.in-Some.at)
    (same_Some here d (sym at ∙ there)) (c.in-Some.ensures holds)

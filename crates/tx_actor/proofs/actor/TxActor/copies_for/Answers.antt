use Rattle.std.proofs.Common.{ℕ, subst}
use Rattle.replay_log.specs.Contents.{first_of}
use Rattle.tx_actor.specs.Copying.{IsReadyAt}
use Rattle.tx_actor.specs.declared.prepares.Prepared.{Prepared}
use Rattle.tx_actor.proofs.CopyAtGateLemmas.{may_take}
use Rattle.tx_actor.proofs.actor.TxActor.copies_for.Goals as goal

pub readies_copy-requires : goal.readies_copy-requires
readies_copy-requires g c =
    let can = c.requires in
    may_take c.args.blocks.now c.args.self.now c.args.base.now c.args.call.now.asked c.stripes_of-stripes.result c.first_of-first.result
    c.in-Ok.found can (c.stripes_of-stripes.ensures can.block can.there)
    (c.first_of-first.ensures.within can.block can.there) c.in-Ok.ensures

pub returns-in_ok-left-in-Ok-clause-ok : goal.returns-in_ok-left-in-Ok-clause-ok
returns-in_ok-left-in-Ok-clause-ok g c =
    let can = c.requires in
    let v = c.args.blocks.now in
    let r = c.args.self.now in
    let u = c.readies_copy.new.self in
    let asked = c.args.call.now.asked in
    let found = c.in-Ok.found in
    let ready = c.in_ok-left-in-Ok.ensures.ok in
    let x : Prepared g.row.V.Denot = record { call = c.readies_copy.new.call; left = c.in_ok-left-in-Ok.left } in (
      ready.0,
      ready.1,
      (
        can.block,
        found,
        can.there,
        c.in-Ok.ensures,
        subst (λ (n : ℕ). IsReadyAt r u n (first_of v.words v.blocks asked.collection) found asked ready.0 x)
            (c.stripes_of-stripes.ensures can.block can.there)
            (subst (λ (f : ℕ). IsReadyAt r u c.stripes_of-stripes.result f found asked ready.0 x) c.first_of-first.ensures.first ready.2),
      ),
    )

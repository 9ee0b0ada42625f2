use Rattle.std.proofs.Common.{rules, ◌≡◌, None, List, refl, sym, ap, subst, ◌∙◌}
use Rattle.replay_log.specs.Contents.{end_of}
use Rattle.actor_parts.specs.declared.copies.CopyOfCollection.{CopyOfCollection}
use Rattle.tx_actor.specs.declared.actor.TxActor.{TxActor}
use Rattle.actor_parts.specs.Footprints.{IsPositionOf}
use Rattle.actor_parts.specs.Logs.{changes_had, locations_had}
use Rattle.actor_parts.specs.CopyList.{copy_of}
use Rattle.tx_actor.proofs.ActorBoundsLemmas.{keeps_asked, keeps_same, recorded_quiet, recorded_room, words_same}
use Rattle.actor_parts.proofs.LogLemmas.{found_at, others_stand}
use Rattle.tx_actor.proofs.RunsLemmas.{left_alike}
use Rattle.tx_actor.proofs.actor.TxActor.log_of.Goals as goal

pub returns-in-Some-clause-changes : goal.returns-in-Some-clause-changes
returns-in-Some-clause-changes g c =
    let cs = c.args.self.now.copies.items in
    let at : IsPositionOf cs c.args.collection c.position_of.result = search rules in
    let z = found_at cs c.in-Some.place c.args.collection c.remove.result _ c.in-Some.is at c.remove.ensures.value in
    c.log_of.ensures.changes ∙ sym (ap changes_had z.2)

pub returns-in-Some-clause-locations : goal.returns-in-Some-clause-locations
returns-in-Some-clause-locations g c =
    let cs = c.args.self.now.copies.items in
    let at : IsPositionOf cs c.args.collection c.position_of.result = search rules in
    let z = found_at cs c.in-Some.place c.args.collection c.remove.result _ c.in-Some.is at c.remove.ensures.value in
    c.log_of.ensures.locations ∙ sym (ap locations_had z.2)

pub returns-in-Some-clause-others : goal.returns-in-Some-clause-others
returns-in-Some-clause-others g c j other =
    let cs = c.args.self.now.copies.items in
    let at : IsPositionOf cs c.args.collection c.position_of.result = search rules in
    let z = found_at cs c.in-Some.place c.args.collection c.remove.result _ c.in-Some.is at c.remove.ensures.value in
    subst (λ (ds : List (CopyOfCollection g.row.V.Denot)). copy_of ds j ≡ copy_of cs j) (sym c.remove.ensures.by_index.2)
    (others_stand cs c.in-Some.place c.args.collection c.remove.result z.0 z.1 j other)

pub returns-in-Some-clause-keeps : goal.returns-in-Some-clause-keeps
returns-in-Some-clause-keeps g c made v =
    let r = c.args.self.now in
    let u : TxActor g.row.V.Denot = record r { copies = c.remove.new.self } in
    keeps_asked v r u (words_same (end_of v.words v.blocks) r.words) (λ h. recorded_room u r.stage made) (λ h. h)
    (recorded_quiet r.stage made)

pub returns-in-None-clause-changes : goal.returns-in-None-clause-changes
returns-in-None-clause-changes g c =
    let at : IsPositionOf c.args.self.now.copies.items c.args.collection c.position_of.result = search rules in
    let none : copy_of c.args.self.now.copies.items c.args.collection ≡ None =
    subst (IsPositionOf c.args.self.now.copies.items c.args.collection) c.in-None.is at in
    c.new.ensures.changes ∙ sym (ap changes_had none)

pub returns-in-None-clause-locations : goal.returns-in-None-clause-locations
returns-in-None-clause-locations g c =
    let at : IsPositionOf c.args.self.now.copies.items c.args.collection c.position_of.result = search rules in
    let none : copy_of c.args.self.now.copies.items c.args.collection ≡ None =
    subst (IsPositionOf c.args.self.now.copies.items c.args.collection) c.in-None.is at in
    c.new.ensures.locations ∙ sym (ap locations_had none)

pub returns-in-None-clause-keeps : goal.returns-in-None-clause-keeps
returns-in-None-clause-keeps g c made v = keeps_same v c.args.self.now c.args.self.now refl

pub returns-in-Some-clause-stands : goal.returns-in-Some-clause-stands
returns-in-Some-clause-stands g c left a w s =
    (s.0 ∙ left_alike (w.seats a) c.args.self.now c.remove.new.self left, s.1, s.2)

pub returns-in-None-clause-stands : goal.returns-in-None-clause-stands
returns-in-None-clause-stands g c left a w s = s

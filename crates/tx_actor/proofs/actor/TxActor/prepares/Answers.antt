use Rattle.std.proofs.Common.{◌≡◌, ℕ, Option, None, length, refl, sym, ap, subst, ◌∙◌}
use Rattle.std.proofs.lemmas.Option.{slice_get_read, same_Some}
use Rattle.std.specs.declared.alloc.Global.{Global}
use Rattle.std.specs.declared.collections.VecDeque.{VecDeque}
use Rattle.actor_parts.specs.declared.copies.CopyOfCollection.{CopyOfCollection}
use Rattle.tx_actor.specs.declared.actor.CallWithOutcome as running
use Rattle.tx_actor.specs.declared.actor.CollectionCall.{CollectionCall}
use Rattle.tx_actor.specs.declared.prepares.Prepared.{Prepared}
use Rattle.tx_actor.specs.Prepares.{ArePrepared, AreReadied, IsReadyCall, MayPrepare}
use Rattle.tx_actor.proofs.PreparesLemmas.{alike_itself}
use Rattle.tx_actor.proofs.actor.TxActor.prepares.Goals as goal

pub readies-requires : goal.readies-requires
readies-requires g c =
    let e = ap (λ (d : running.CallWithOutcome g.row.V.Denot). d.asked) c.get_mut.ensures.value
    ∙ (c.answering-call.ensures ∙ c.in_ok-asked.ensures) in
    subst (λ (k : CollectionCall g.row.V.Denot). MayPrepare c.args.self.now c.args.place c.args.first k.op) (sym e) c.requires

pub returns-in_err-asked-clause-alike : goal.returns-in_err-asked-clause-alike
returns-in_err-asked-clause-alike g c = alike_itself c.args.self.now

pub returns-in-Some-clause-ok : goal.returns-in-Some-clause-ok
returns-in-Some-clause-ok g c copy at =
    let r = c.args.self.now in
    let u = c.readies.new.self in
    let d = c.readies.new.call in
    let place = c.args.place in
    let f = c.args.first in
    let op = c.args.op in
    let cs = r.copies.items in
    let here = c.index.result.now in
    let named = ap (λ (z : CopyOfCollection g.row.V.Denot). z.collection)
    (same_Some here copy (sym (slice_get_read cs (length cs) place here refl c.requires.there c.index.ensures) ∙ at)) in
    let asked : CollectionCall g.row.V.Denot = record { collection = here.collection; op = op } in
    let e : c.get_mut.result.now.asked ≡ asked =
    ap (λ (z : running.CallWithOutcome g.row.V.Denot). z.asked) c.get_mut.ensures.value
    ∙ (c.answering-call.ensures ∙ c.in_ok-asked.ensures) in
    let ready = subst (λ (k : CollectionCall g.row.V.Denot). AreReadied r u place f k copy d c.in_ok-readied.readied) e
    (c.in_ok-readied.ensures.ok copy at) in
    let some = subst (λ (o : Option (VecDeque (ℕ × ℕ) Global)). AreReadied r u place f asked copy d o) c.in-Some.is ready in
    subst (λ (p : Prepared g.row.V.Denot). IsReadyCall r u place f op copy p) (sym some.0) (some.1 named)

pub returns-in-None-clause-ok : goal.returns-in-None-clause-ok
returns-in-None-clause-ok g c copy at =
    let r = c.args.self.now in
    let u = c.readies.new.self in
    let d = c.readies.new.call in
    let e = ap (λ (z : running.CallWithOutcome g.row.V.Denot). z.asked) c.get_mut.ensures.value
    ∙ (c.answering-call.ensures ∙ c.in_ok-asked.ensures) in
    let none = subst
    (λ (o : Option (VecDeque (ℕ × ℕ) Global)). AreReadied r u c.args.place c.args.first c.get_mut.result.now.asked copy d o)
    c.in-None.is (c.in_ok-readied.ensures.ok copy at) in
    subst (λ (k : CollectionCall g.row.V.Denot). ArePrepared r u c.args.place c.args.first k.op copy None) e none

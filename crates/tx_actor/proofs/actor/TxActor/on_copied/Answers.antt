use Rattle.std.proofs.Common.{ℕ, Option, Some, None, inl, inr, refl, sym, ap, subst, ◌∙◌}
use Rattle.std.specs.declared.alloc.Global.{Global}
use Rattle.std.specs.declared.collections.VecDeque.{VecDeque}
use Rattle.actor_parts.specs.Judged.{judged}
use Rattle.tx_actor.specs.Answers.{CanAccept}
use Rattle.tx_actor.specs.CopiesByStage.{HasGone}
use Rattle.tx_actor.specs.Copying.{AreReadyIn, CanCopy}
use Rattle.tx_actor.specs.declared.actor.CallWithOutcome as running
use Rattle.tx_actor.specs.declared.actor.CollectionCall.{CollectionCall}
use Rattle.tx_actor.specs.ActorBounds.{CanGoOn, KeepsIn}
use Rattle.tx_actor.specs.Running.{at}
use Rattle.tx_actor.specs.declared.actor.Stage.TheVariants as stage
use Rattle.tx_actor.specs.declared.actor.TxActor.{TxActor}
use Rattle.tx_actor.specs.declared.prepares.Prepared.{Prepared}
use Rattle.tx_actor.proofs.CopyAtGateLemmas.{goes_on_as, keeps_going, keeps_open, keeps_starving, too_long_as}
use Rattle.tx_actor.proofs.CopiesByStageLemmas.{copies_idle}
use Rattle.tx_actor.proofs.LoadLemmas as load
use Rattle.tx_actor.proofs.actor.TxActor.on_copied.Goals as goal

pub copies_for-requires : goal.copies_for-requires
copies_for-requires g c =
    let e = ap (λ (z : running.CallWithOutcome g.row.V.Denot). z.asked) c.get_mut.ensures.value ∙ c.answering-call.ensures in
    subst (λ (k : CollectionCall g.row.V.Denot). CanCopy c.args.blocks.now c.args.self.now c.args.base.now k) (sym e) c.requires

pub continue_call-requires : goal.continue_call-requires
continue_call-requires g c =
    let v = c.args.blocks.now in
    let r = c.args.self.now in
    let u = c.copies_for.new.self in
    let base = c.args.base.now in
    let x : Prepared g.row.V.Denot = record { call = c.copies_for.new.call; left = c.in-Ok-Some.left } in
    let ready = subst (λ (k : CollectionCall g.row.V.Denot). AreReadyIn v r u base k x.call (Some x.left))
    (ap (λ (z : running.CallWithOutcome g.row.V.Denot). z.asked) c.get_mut.ensures.value ∙ c.answering-call.ensures)
    (subst (λ (o : Option (VecDeque (ℕ × ℕ) Global)). AreReadyIn v r u base c.get_mut.result.now.asked x.call o) c.in-Ok-Some.field-0-is
    c.in-Ok-Some.ensures.ok) in
    record { prepared = subst (λ (p : Prepared g.row.V.Denot). CanAccept u p.call) (sym ready.1) ready.2.4.ready.prepared.accept }

pub returns-in-Ok-Some-clause-ok : goal.returns-in-Ok-Some-clause-ok
returns-in-Ok-Some-clause-ok g c =
    let v = c.args.blocks.now in
    let r = c.args.self.now in
    let u = c.copies_for.new.self in
    let base = c.args.base.now in
    let x : Prepared g.row.V.Denot = record { call = c.copies_for.new.call; left = c.in-Ok-Some.left } in
    let ready = subst (λ (k : CollectionCall g.row.V.Denot). AreReadyIn v r u base k x.call (Some x.left))
    (ap (λ (z : running.CallWithOutcome g.row.V.Denot). z.asked) c.get_mut.ensures.value ∙ c.answering-call.ensures)
    (subst (λ (o : Option (VecDeque (ℕ × ℕ) Global)). AreReadyIn v r u base c.get_mut.result.now.asked x.call o) c.in-Ok-Some.field-0-is
    c.in-Ok-Some.ensures.ok) in
    let n = c.continue_call.new.self in
    goes_on_as v r u n c.continue_call.result base c.args.asked ready.0 x c.requires ready.2
    (subst (λ (p : Prepared g.row.V.Denot). load.GoesOn u n c.continue_call.result p.call p.left.items) ready.1
    c.continue_call.ensures.does)

pub returns-in-Ok-None-clause-ok : goal.returns-in-Ok-None-clause-ok
returns-in-Ok-None-clause-ok g c =
    let v = c.args.blocks.now in
    let r = c.args.self.now in
    let u = c.copies_for.new.self in
    let base = c.args.base.now in
    let none = subst (λ (k : CollectionCall g.row.V.Denot). AreReadyIn v r u base k c.copies_for.new.call None)
    (ap (λ (z : running.CallWithOutcome g.row.V.Denot). z.asked) c.get_mut.ensures.value ∙ c.answering-call.ensures)
    (subst (λ (o : Option (VecDeque (ℕ × ℕ) Global)). AreReadyIn v r u base c.get_mut.result.now.asked c.copies_for.new.call o)
    c.in-Ok-None.field-0-is c.in-Ok-None.ensures.ok) in
    too_long_as v r u base c.args.asked none.1.0 none.0 none.1.1 none.1.2

-- the bounds and the room
pub returns-in-Ok-Some-clause-keeps : goal.returns-in-Ok-Some-clause-keeps
returns-in-Ok-Some-clause-keeps g c noreads =
    let v = c.args.blocks.now in
    let r = c.args.self.now in
    let u = c.copies_for.new.self in
    let base = c.args.base.now in
    let x : Prepared g.row.V.Denot = record { call = c.copies_for.new.call; left = c.in-Ok-Some.left } in
    let ready = subst (λ (k : CollectionCall g.row.V.Denot). AreReadyIn v r u base k x.call (Some x.left))
    (ap (λ (z : running.CallWithOutcome g.row.V.Denot). z.asked) c.get_mut.ensures.value ∙ c.answering-call.ensures)
    (subst (λ (o : Option (VecDeque (ℕ × ℕ) Global)). AreReadyIn v r u base c.get_mut.result.now.asked x.call o) c.in-Ok-Some.field-0-is
    c.in-Ok-Some.ensures.ok) in
    let n = c.continue_call.new.self in
    keeps_going v r u n base c.args.asked ready.0 x c.requires ready.2 noreads
    (subst (λ (p : Prepared g.row.V.Denot). CanGoOn v u p.call p.left.items → KeepsIn v (at u stage.Idle) n) ready.1
    (c.continue_call.ensures.keeps v))

pub returns-in-Ok-None-clause-keeps : goal.returns-in-Ok-None-clause-keeps
returns-in-Ok-None-clause-keeps g c noreads =
    let v = c.args.blocks.now in
    let r = c.args.self.now in
    let u = c.copies_for.new.self in
    let base = c.args.base.now in
    let none = subst (λ (k : CollectionCall g.row.V.Denot). AreReadyIn v r u base k c.copies_for.new.call None)
    (ap (λ (z : running.CallWithOutcome g.row.V.Denot). z.asked) c.get_mut.ensures.value ∙ c.answering-call.ensures)
    (subst (λ (o : Option (VecDeque (ℕ × ℕ) Global)). AreReadyIn v r u base c.get_mut.result.now.asked c.copies_for.new.call o)
    c.in-Ok-None.field-0-is c.in-Ok-None.ensures.ok) in
    keeps_open v r u c.args.asked c.requires.rests none.0

pub returns-in-Err-clause-keeps : goal.returns-in-Err-clause-keeps
returns-in-Err-clause-keeps g c noreads =
    let v = c.args.blocks.now in
    let u = c.copies_for.new.self in
    let n = c.starves_copying.new.self in
    keeps_starving v c.args.self.now u n c.args.asked c.requires.rests c.in-Err.ensures.err
    (subst (λ (k : CollectionCall g.row.V.Denot). KeepsIn v (at u (stage.ReturningOne k.collection)) n) c.get.ensures
    (c.starves_copying.ensures.keeps v))

-- the copies
pub returns-in-Ok-Some-clause-copies : goal.returns-in-Ok-Some-clause-copies
returns-in-Ok-Some-clause-copies g c =
    let v = c.args.blocks.now in
    let r = c.args.self.now in
    let u = c.copies_for.new.self in
    let base = c.args.base.now in
    let x : Prepared g.row.V.Denot = record { call = c.copies_for.new.call; left = c.in-Ok-Some.left } in
    let ready = subst (λ (k : CollectionCall g.row.V.Denot). AreReadyIn v r u base k x.call (Some x.left))
    (ap (λ (z : running.CallWithOutcome g.row.V.Denot). z.asked) c.get_mut.ensures.value ∙ c.answering-call.ensures)
    (subst (λ (o : Option (VecDeque (ℕ × ℕ) Global)). AreReadyIn v r u base c.get_mut.result.now.asked x.call o) c.in-Ok-Some.field-0-is
    c.in-Ok-Some.ensures.ok) in
    let n = c.continue_call.new.self in
    inr (record {
      block = ready.2.0;
      found = ready.2.1;
      at = ready.0;
      call = x;
      middle = u;
      there = ready.2.2;
      is = ready.2.3;
      ready = ready.2.4;
      goes = subst
          (λ (p : Prepared g.row.V.Denot). HasGone (judged u.words.reads.entries p.left.items) u n c.continue_call.result p.call
          p.left.items)
          ready.1 c.continue_call.ensures.goes;
    })

pub returns-in-Ok-None-clause-copies : goal.returns-in-Ok-None-clause-copies
returns-in-Ok-None-clause-copies g c =
    let v = c.args.blocks.now in
    let r = c.args.self.now in
    let u = c.copies_for.new.self in
    let base = c.args.base.now in
    let none = subst (λ (k : CollectionCall g.row.V.Denot). AreReadyIn v r u base k c.copies_for.new.call None)
    (ap (λ (z : running.CallWithOutcome g.row.V.Denot). z.asked) c.get_mut.ensures.value ∙ c.answering-call.ensures)
    (subst (λ (o : Option (VecDeque (ℕ × ℕ) Global)). AreReadyIn v r u base c.get_mut.result.now.asked c.copies_for.new.call o)
    c.in-Ok-None.field-0-is c.in-Ok-None.ensures.ok) in
    inl (refl, ap (λ (z : TxActor g.row.V.Denot). z.copies.items) none.0, refl)

pub returns-in-Err-clause-leaves : goal.returns-in-Err-clause-leaves
returns-in-Err-clause-leaves g c =
    copies_idle (at c.args.self.now (stage.Copying c.args.asked)) c.copies_for.new.self c.starves_copying.new.self
    c.starves_copying.ensures.leaves

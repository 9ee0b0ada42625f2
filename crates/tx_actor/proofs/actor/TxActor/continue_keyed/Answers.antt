use Rattle.std.proofs.Common.{◌≡◌, ℕ, Option, Some, inr, sym, ap, subst, ◌∙◌}
use Rattle.std.specs.declared.alloc.Global.{Global}
use Rattle.std.specs.declared.collections.VecDeque.{VecDeque}
use Rattle.replay_log.specs.Contents.{block_of, first_of}
use Rattle.actor_parts.specs.Judged.{judged}
use Rattle.tx_actor.specs.Answers.{CanAccept}
use Rattle.tx_actor.specs.CopiesByStage.{HasGone}
use Rattle.tx_actor.specs.ActorBounds.{CanGoOn, KeepsIn}
use Rattle.tx_actor.specs.Prepares.{AreReadied, MayPrepare}
use Rattle.tx_actor.specs.declared.actor.CallWithOutcome as running
use Rattle.tx_actor.specs.declared.actor.CollectionCall.{CollectionCall}
use Rattle.tx_actor.specs.Running.{at}
use Rattle.tx_actor.specs.Taking.{told_at, waiting_at}
use Rattle.tx_actor.specs.declared.actor.Stage.TheVariants as stage
use Rattle.tx_actor.specs.declared.prepares.Prepared.{Prepared}
use Rattle.tx_actor.proofs.AfterGateLemmas.{keeps_behind, may_ready, starves_behind, taken_ready}
use Rattle.tx_actor.proofs.CopyAtGateLemmas.{goes_on_as, keeps_going}
use Rattle.tx_actor.proofs.CopiesByStageLemmas.{copies_idle}
use Rattle.tx_actor.proofs.LoadLemmas as load
use Rattle.tx_actor.proofs.actor.TxActor.continue_keyed.Goals as goal

pub readies-requires : goal.readies-requires
readies-requires g c =
    let v = c.args.blocks.now in
    let was = c.requires in
    let asked = c.args.taken.asked in
    let first = c.first_of-first.result in
    let at_first : first ≡ first_of v.words v.blocks asked.collection =
    subst (λ (k : CollectionCall g.row.V.Denot). first ≡ first_of v.words v.blocks k.collection) c.get.ensures
    c.first_of-first.ensures.first in
    let e : c.get_mut.result.now.asked ≡ asked =
    ap (λ (z : running.CallWithOutcome g.row.V.Denot). z.asked) c.get_mut.ensures.value ∙ c.answering-call.ensures in
    subst (λ (k : CollectionCall g.row.V.Denot). MayPrepare c.args.self.now c.args.taken.place first k.op) (sym e)
    (may_ready v was.0 c.args.self.now was.1 asked c.args.taken.place first at_first
    (λ b there. c.first_of-first.ensures.within b
    (subst (λ (k : CollectionCall g.row.V.Denot). block_of v.blocks k.collection ≡ Some b) (sym c.get.ensures) there)) was.2 was.3.0)

pub continue_to-requires : goal.continue_to-requires
continue_to-requires g c =
    let was = c.requires in
    let v = c.args.blocks.now in
    let m = c.args.self.now in
    let u = c.readies.new.self in
    let asked = c.args.taken.asked in
    let place = c.args.taken.place in
    let first = c.first_of-first.result in
    let at_first : first ≡ first_of v.words v.blocks asked.collection =
    subst (λ (k : CollectionCall g.row.V.Denot). first ≡ first_of v.words v.blocks k.collection) c.get.ensures
    c.first_of-first.ensures.first in
    let x : Prepared g.row.V.Denot = record { call = c.readies.new.call; left = c.in-Ok-Some.left } in
    let e : c.get_mut.result.now.asked ≡ asked =
    ap (λ (z : running.CallWithOutcome g.row.V.Denot). z.asked) c.get_mut.ensures.value ∙ c.answering-call.ensures in
    let ready = taken_ready v was.0 m u was.1 asked place first x.call x.left at_first was.3.0 c.readies.ensures.alike
    (λ d there. subst (λ (k : CollectionCall g.row.V.Denot). AreReadied m u place first k d x.call (Some x.left)) e
    (subst (λ (o : Option (VecDeque (ℕ × ℕ) Global)). AreReadied m u place first c.get_mut.result.now.asked d x.call o)
    c.in-Ok-Some.field-0-is (c.in-Ok-Some.ensures.ok d there))) in
    record { prepared = subst (λ (p : Prepared g.row.V.Denot). CanAccept u p.call) (sym ready.1) ready.2.4.ready.prepared.accept }

pub returns-in-Ok-Some-clause-ok : goal.returns-in-Ok-Some-clause-ok
returns-in-Ok-Some-clause-ok g c r base can taken =
    let v = c.args.blocks.now in
    let m = c.args.self.now in
    let u = c.readies.new.self in
    let asked = c.args.taken.asked in
    let place = c.args.taken.place in
    let first = c.first_of-first.result in
    let at_first : first ≡ first_of v.words v.blocks asked.collection =
    subst (λ (k : CollectionCall g.row.V.Denot). first ≡ first_of v.words v.blocks k.collection) c.get.ensures
    c.first_of-first.ensures.first in
    let x : Prepared g.row.V.Denot = record { call = c.readies.new.call; left = c.in-Ok-Some.left } in
    let e : c.get_mut.result.now.asked ≡ asked =
    ap (λ (z : running.CallWithOutcome g.row.V.Denot). z.asked) c.get_mut.ensures.value ∙ c.answering-call.ensures in
    let ready = taken_ready v r m u base asked place first x.call x.left at_first taken.0 c.readies.ensures.alike
    (λ d there. subst (λ (k : CollectionCall g.row.V.Denot). AreReadied m u place first k d x.call (Some x.left)) e
    (subst (λ (o : Option (VecDeque (ℕ × ℕ) Global)). AreReadied m u place first c.get_mut.result.now.asked d x.call o)
    c.in-Ok-Some.field-0-is (c.in-Ok-Some.ensures.ok d there))) in
    let n = waiting_at c.continue_to.result c.continue_to.new.self in
    let told = told_at c.continue_to.result c.continue_to.new.said in (
      goes_on_as v r u n told base asked ready.0 x can ready.2
          (subst (λ (p : Prepared g.row.V.Denot). load.GoesOn u n told p.call p.left.items) ready.1 c.continue_to.ensures.does),
      inr (record {
        block = ready.2.0;
        found = ready.2.1;
        at = ready.0;
        call = x;
        middle = u;
        there = ready.2.2;
        is = ready.2.3;
        ready = ready.2.4;
        goes = subst
            (λ (p : Prepared g.row.V.Denot). HasGone (judged u.words.reads.entries p.left.items) u n told p.call p.left.items)
            ready.1 c.continue_to.ensures.goes;
      }),
    )

pub returns-in-Ok-Some-clause-keeps : goal.returns-in-Ok-Some-clause-keeps
returns-in-Ok-Some-clause-keeps g c r base can taken noreads =
    let v = c.args.blocks.now in
    let m = c.args.self.now in
    let u = c.readies.new.self in
    let asked = c.args.taken.asked in
    let place = c.args.taken.place in
    let first = c.first_of-first.result in
    let at_first : first ≡ first_of v.words v.blocks asked.collection =
    subst (λ (k : CollectionCall g.row.V.Denot). first ≡ first_of v.words v.blocks k.collection) c.get.ensures
    c.first_of-first.ensures.first in
    let x : Prepared g.row.V.Denot = record { call = c.readies.new.call; left = c.in-Ok-Some.left } in
    let e : c.get_mut.result.now.asked ≡ asked =
    ap (λ (z : running.CallWithOutcome g.row.V.Denot). z.asked) c.get_mut.ensures.value ∙ c.answering-call.ensures in
    let ready = taken_ready v r m u base asked place first x.call x.left at_first taken.0 c.readies.ensures.alike
    (λ d there. subst (λ (k : CollectionCall g.row.V.Denot). AreReadied m u place first k d x.call (Some x.left)) e
    (subst (λ (o : Option (VecDeque (ℕ × ℕ) Global)). AreReadied m u place first c.get_mut.result.now.asked d x.call o)
    c.in-Ok-Some.field-0-is (c.in-Ok-Some.ensures.ok d there))) in
    let n = waiting_at c.continue_to.result c.continue_to.new.self in
    keeps_going v r u n base asked ready.0 x can ready.2 noreads
    (subst (λ (p : Prepared g.row.V.Denot). CanGoOn v u p.call p.left.items → KeepsIn v (at u stage.Idle) n) ready.1
    (c.continue_to.ensures.keeps v))

-- an allocation failed
pub returns-in_default-clause-err : goal.returns-in_default-clause-err
returns-in_default-clause-err g c r base can taken =
    starves_behind c.args.blocks.now r c.args.self.now c.readies.new.self c.abort_for.new.self c.abort_for.result base c.args.taken.asked
    c.args.taken.place can taken.0 taken.1 c.readies.ensures.alike c.abort_for.ensures.does

pub returns-in_default-clause-bounds : goal.returns-in_default-clause-bounds
returns-in_default-clause-bounds g c r base can taken =
    keeps_behind c.args.blocks.now r c.args.self.now c.readies.new.self c.abort_for.new.self base c.args.taken.asked c.args.taken.place can
    taken.0 c.readies.ensures.alike (c.abort_for.ensures.keeps c.args.blocks.now)

pub returns-in_default-clause-leaves : goal.returns-in_default-clause-leaves
returns-in_default-clause-leaves g c =
    copies_idle (at c.args.self.now stage.Idle) c.readies.new.self c.abort_for.new.self c.abort_for.ensures.leaves

use Rattle.std.proofs.Common.{◌≡◌, ℕ, ◌<◌, Option, length, refl, sym, subst, arith}
use Rattle.std.specs.declared.alloc.Global.{Global}
use Rattle.std.specs.declared.collections.VecDeque.{VecDeque}
use Rattle.actor_parts.proofs.AlikeLemmas.{kept_length}
use Rattle.actor_parts.proofs.TakeBackLemmas.{taken_there}
use Rattle.actor_parts.specs.Taking.{TakesBack, copy_with}
use Rattle.tx_actor.specs.declared.actor.CollectionCall.{CollectionCall}
use Rattle.tx_actor.specs.Prepares.{AreReadied}
use Rattle.tx_actor.proofs.CopyAtGateLemmas.{may_prepare, moved_back}
use Rattle.tx_actor.proofs.actor.TxActor.readies_copy.Goals as goal

pub readies-requires : goal.readies-requires
readies-requires g c =
    may_prepare c.args.self.now c.args.stripes c.args.first c.in_ok-place.place c.args.found c.args.call.now.asked c.take.new.copies
    c.requires
    c.in_ok-place.ensures.ok

pub take_back-requires : goal.take_back-requires
take_back-requires g c =
    let before = c.args.self.now.copies.items in
    let now = c.take.new.copies.items in
    let i = c.in_ok-place.place in
    let there = taken_there c.args.stripes c.args.call.now.asked.collection i c.args.found before now c.in_ok-place.ensures.ok in
    subst (λ (n : ℕ). i < n) (sym (kept_length now c.readies.new.self.copies.items c.readies.ensures.alike.copies)) there.0

pub returns-in-Ok-Some-clause-ok : goal.returns-in-Ok-Some-clause-ok
returns-in-Ok-Some-clause-ok g c =
    let asked = c.args.call.now.asked in
    let t = c.in_ok-place.ensures.ok in
    let there = taken_there c.args.stripes asked.collection c.in_ok-place.place c.args.found c.args.self.now.copies.items
    c.take.new.copies.items t in
    let ready = subst
    (λ (o : Option (VecDeque (ℕ
    × ℕ) Global)). AreReadied (record c.args.self.now { copies = c.take.new.copies }) c.readies.new.self c.in_ok-place.place c.args.first
    asked (copy_with asked.collection t.copy) c.readies.new.call o) c.in-Ok-Some.field-0-is
    (c.in-Ok-Some.ensures.ok (copy_with asked.collection t.copy) there.1) in (
      c.in_ok-place.place,
      ready.0,
      record {
        copies = c.take.new.copies;
        at = t;
        alike = c.readies.ensures.alike;
        ready = ready.1 refl;
      },
    )

pub returns-in_default-clause-err : goal.returns-in_default-clause-err
returns-in_default-clause-err g c =
    let before = c.args.self.now.copies.items in
    let count : c.len-count.result ≡ length before = omega (arith, c.len-count.ensures, c.args.self.now.copies.ok.0) in
    moved_back c.args.self.now c.readies.new.self c.args.stripes c.args.first c.in_ok-place.place c.args.found c.args.call.now.asked
    c.take.new.copies c.take_back.new.copies c.requires c.in_ok-place.ensures.ok c.readies.ensures.alike
    (subst
    (λ (k : CollectionCall g.row.V.Denot). TakesBack (length before) c.in_ok-place.place k.op c.readies.new.self.copies.items
    c.take_back.new.copies.items)
    c.readies.ensures.asked
    (subst
    (λ n. TakesBack n c.in_ok-place.place c.readies.new.call.asked.op c.readies.new.self.copies.items c.take_back.new.copies.items) count
    c.take_back.ensures))

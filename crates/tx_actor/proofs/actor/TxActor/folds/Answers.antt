use Rattle.std.proofs.Common.{arith, rules, ℕ, [], ◌≡◌, ◌<◌, ◌^◌, All, None, List, refl, slice_index, sym, subst, ◌∙◌}
use Rattle.replay_log.specs.Base.{IsPreparedFor, Shown, OfMap, OfBag, OfPq, OfQueue, after, editions_of, locations_of, shown_of, stripes_of}
use Rattle.replay_log.specs.Contents.{end_of}
use Rattle.replay_log.specs.Log.{AreRaised}
use Rattle.actor_parts.specs.declared.copies.CopyOfCollection.{CopyOfCollection}
use Rattle.tx_actor.specs.declared.actor.TxActor.{TxActor}
use Rattle.actor_parts.specs.Footprints.{IsPositionOf}
use Rattle.actor_parts.specs.Logs.{changes_had, locations_had}
use Rattle.actor_parts.specs.CopyList.{copy_of}
use Rattle.tx_actor.proofs.ActorBoundsLemmas.{keeps_asked, keeps_same, recorded_quiet, recorded_room, words_same}
use Rattle.actor_parts.proofs.LogLemmas.{found_at, others_stand}
use Rattle.tx_actor.proofs.RunsLemmas.{left_alike}
use Rattle.tx_actor.proofs.actor.TxActor.folds.Goals as goal

-- no change makes nothing
after_none : {V : Type 0} (s : Shown V) → after [] s ≡ s
after_none (OfMap b) = refl
after_none (OfBag b) = refl
after_none (OfPq b) = refl
after_none (OfQueue b) = refl

raised_none : (es : List ℕ) → AreRaised [] es es
raised_none es = ([], λ k h. absurd (omega (arith, h)), λ l. (λ h. h, λ h. h), refl)

pub fold-requires-clause-prepared : goal.fold-requires-clause-prepared
fold-requires-clause-prepared g c =
    let cs = c.args.self.now.copies.items in
    let at : IsPositionOf cs c.args.collection c.position_of.result = search rules in
    let z = found_at cs c.in-Some.place c.args.collection c.remove.result _ c.in-Some.is at c.remove.ensures.value in
    subst (λ x. IsPreparedFor (changes_had x) c.args.base.now) z.2 c.requires.prepared

pub fold-requires-clause-within : goal.fold-requires-clause-within
fold-requires-clause-within g c =
    let cs = c.args.self.now.copies.items in
    let at : IsPositionOf cs c.args.collection c.position_of.result = search rules in
    let z = found_at cs c.in-Some.place c.args.collection c.remove.result _ c.in-Some.is at c.remove.ensures.value in
    subst (λ x. All (λ i. i < locations_of (stripes_of c.args.base.now) (shown_of c.args.base.now)) (locations_had x)) z.2 c.requires.within

pub fold-requires-clause-below : goal.fold-requires-clause-below
fold-requires-clause-below g c =
    let cs = c.args.self.now.copies.items in
    let at : IsPositionOf cs c.args.collection c.position_of.result = search rules in
    let z = found_at cs c.in-Some.place c.args.collection c.remove.result _ c.in-Some.is at c.remove.ensures.value in
    subst (λ x. All (λ i. slice_index (editions_of c.args.base.now) i < 2 ^ 63) (locations_had x)) z.2 c.requires.below

pub returns-in-Some-clause-shown : goal.returns-in-Some-clause-shown
returns-in-Some-clause-shown g c =
    let cs = c.args.self.now.copies.items in
    let at : IsPositionOf cs c.args.collection c.position_of.result = search rules in
    let z = found_at cs c.in-Some.place c.args.collection c.remove.result _ c.in-Some.is at c.remove.ensures.value in
    subst (λ x. shown_of c.fold.new.base ≡ after (changes_had x) (shown_of c.args.base.now)) (sym z.2) c.fold.ensures.shown

pub returns-in-Some-clause-editions : goal.returns-in-Some-clause-editions
returns-in-Some-clause-editions g c =
    let cs = c.args.self.now.copies.items in
    let at : IsPositionOf cs c.args.collection c.position_of.result = search rules in
    let z = found_at cs c.in-Some.place c.args.collection c.remove.result _ c.in-Some.is at c.remove.ensures.value in
    subst (λ x. AreRaised (locations_had x) (editions_of c.args.base.now) (editions_of c.fold.new.base)) (sym z.2) c.fold.ensures.editions

pub returns-in-Some-clause-others : goal.returns-in-Some-clause-others
returns-in-Some-clause-others g c j other =
    let cs = c.args.self.now.copies.items in
    let at : IsPositionOf cs c.args.collection c.position_of.result = search rules in
    let z = found_at cs c.in-Some.place c.args.collection c.remove.result _ c.in-Some.is at c.remove.ensures.value in
    subst (λ (ds : List (CopyOfCollection g.row.V.Denot)). copy_of ds j ≡ copy_of cs j) (sym c.remove.ensures.by_index.2)
    (others_stand cs c.in-Some.place c.args.collection c.remove.result z.0 z.1 j other)

pub returns-in-Some-clause-keeps : goal.returns-in-Some-clause-keeps
returns-in-Some-clause-keeps g c made v =
    let r = c.args.self.now in
    let u : TxActor g.row.V.Denot = record r { copies = c.remove.new.self } in
    keeps_asked v r u (words_same (end_of v.words v.blocks) r.words) (λ h. recorded_room u r.stage made) (λ h. h)
    (recorded_quiet r.stage made)

pub returns-in-None-clause-shown : goal.returns-in-None-clause-shown
returns-in-None-clause-shown g c =
    let at : IsPositionOf c.args.self.now.copies.items c.args.collection c.position_of.result = search rules in
    let none : copy_of c.args.self.now.copies.items c.args.collection ≡ None =
    subst (IsPositionOf c.args.self.now.copies.items c.args.collection) c.in-None.is at in
    subst (λ x. shown_of c.args.base.now ≡ after (changes_had x) (shown_of c.args.base.now)) (sym none)
    (sym (after_none (shown_of c.args.base.now)))

pub returns-in-None-clause-editions : goal.returns-in-None-clause-editions
returns-in-None-clause-editions g c =
    let at : IsPositionOf c.args.self.now.copies.items c.args.collection c.position_of.result = search rules in
    let none : copy_of c.args.self.now.copies.items c.args.collection ≡ None =
    subst (IsPositionOf c.args.self.now.copies.items c.args.collection) c.in-None.is at in
    subst (λ x. AreRaised (locations_had x) (editions_of c.args.base.now) (editions_of c.args.base.now)) (sym none)
    (raised_none (editions_of c.args.base.now))

pub returns-in-None-clause-keeps : goal.returns-in-None-clause-keeps
returns-in-None-clause-keeps g c made v = keeps_same v c.args.self.now c.args.self.now refl

pub returns-in-Some-clause-stands : goal.returns-in-Some-clause-stands
returns-in-Some-clause-stands g c left a w s =
    (s.0 ∙ left_alike (w.seats a) c.args.self.now c.remove.new.self left, s.1, s.2)

pub returns-in-None-clause-stands : goal.returns-in-None-clause-stands
returns-in-None-clause-stands g c left a w s = s

use Rattle.std.specs.Prelude.{is_some, slice_get}
use Rattle.std.proofs.Common.{◌≡◌, ◌<◌, ◌≤◌, [], ◌∷◌, ◌++◌, Some, length, refl, sym, ap, subst, ◌∙◌, arith}
use Rattle.tx_machine.specs.Actor as machine
use Rattle.tx_sets.specs.Entries.{Entries}
use Rattle.seq_model.specs.declared.event.Answer.TheVariants as answer
use Rattle.seq_model.specs.declared.event.Notice.TheVariants.{Answered}
use Rattle.step_core.specs.Shown.{actor_of}
use Rattle.replay_log.specs.Worlds.{Open}
use Rattle.tx_actor.specs.Answers.{IsAcceptedAt}
use Rattle.tx_actor.specs.Running.{answered_of, seat_of}
use Rattle.actor_parts.specs.Writes.{MayWrite, written_as}
use Rattle.replay_log.specs.Contents.{end_of}
use Rattle.step_core.specs.Sound.{owed}
use Rattle.step_core.specs.declared.actor.Place.{Place}
use Rattle.tx_actor.specs.declared.actor.CallWithOutcome as running
use Rattle.tx_actor.specs.declared.actor.ActorNotice.TheVariants as told
use Rattle.actor_parts.proofs.TakeBackLemmas.{at_place}
use Rattle.tx_actor.proofs.ActorBoundsLemmas.{keeps_open}
use Rattle.tx_actor.proofs.RoomLemmas.{fits_written}
use Rattle.tx_actor.proofs.AnswerLemmas.{accepted_as, pieces_stay}
use Rattle.tx_actor.proofs.actor.TxActor.accepts.Goals as goal

pub write_all-requires : goal.write_all-requires
write_all-requires g c =
    let same = c.deref.ensures ∙ ap (λ (d : running.CallWithOutcome g.row.V.Denot). d.writes.items) c.get_mut-answered.ensures.value in
    subst (λ (ds : Entries). MayWrite c.args.self.now.words ds) (sym same) c.requires.prepared.writes

pub accept_at-kept-requires : goal.accept_at-kept-requires
accept_at-kept-requires g c =
    let is = c.get_mut-answered.ensures.value in
    let at : c.get_mut-answered.result.now.place ≡ c.args.call.place = ap (λ (d : running.CallWithOutcome g.row.V.Denot). d.place) is in
    let outcome : c.get_mut-answered.result.now.outcome ≡ c.args.call.outcome =
    ap (λ (d : running.CallWithOutcome g.row.V.Denot). d.outcome) is in
    let here = at_place c.args.self.now.copies.items c.args.call.place c.requires.prepared.place in
    let own = c.requires.prepared.own here.0 here.1 in
    record {
      place = subst (λ i. i < length c.args.self.now.copies.items) (sym at) c.requires.prepared.place;
      ready = λ d x there some. c.requires.prepared.ready d x
          (subst (λ i. slice_get c.args.self.now.copies.items i ≡ Some d) at there) (sym outcome ∙ some);
      some = ap is_some (outcome ∙ own.1);
    }

pub returns-clause-does : goal.returns-clause-does
returns-clause-does g c a w s may =
    let old = c.args.self.now in
    let call = c.args.call in
    let is : c.get_mut-answered.result.now ≡ call = c.get_mut-answered.ensures.value in
    let op : c.replace-op.result ≡ call.asked.op =
    c.replace-op.ensures.value ∙ ap (λ (d : running.CallWithOutcome g.row.V.Denot). d.asked.op) is in
    let here = at_place old.copies.items call.place c.requires.prepared.place in
    let own = c.requires.prepared.own here.0 here.1 in
    let kept = c.accept_at-kept.ensures.reply own.0 (ap (λ (d : running.CallWithOutcome g.row.V.Denot). d.outcome) is ∙ own.1)
    ∙ c.requires.prepared.kept own.0 own.1 in
    let told = c.replace-told.ensures.value ∙ (ap (λ (d : running.CallWithOutcome g.row.V.Denot). d.told) is ∙ c.requires.prepared.told) in
    let calls = c.push_reserved.ensures.items
    ∙ (λ i. old.calls.items ++ (record { target = (is i).asked.collection; op = op i }, kept i) ∷ []) in
    let accepted : IsAcceptedAt call.place call.outcome old.copies.items c.accept_at-kept.new.copies.items =
    subst (λ (d : running.CallWithOutcome g.row.V.Denot).
    IsAcceptedAt d.place d.outcome old.copies.items c.accept_at-kept.new.copies.items) is
    c.accept_at-kept.ensures.accepted in
    let pieces = pieces_stay call.place call.outcome old.copies.items c.accept_at-kept.new.copies.items accepted in
    let writes = c.deref.ensures ∙ ap (λ (d : running.CallWithOutcome g.row.V.Denot). d.writes.items) is in (
      accepted_as a w (seat_of old) _ _ (answered_of call) _ tt may.guard may.outcome
          (c.write_all.ensures.actor
          ∙ (ap (λ (ds : Entries). written_as (actor_of old.words) ds) writes
          ∙ (ap (λ (y : machine.Actor). written_as y call.writes.items) (sym s) ∙ sym may.writes)))
          (λ i. record (seat_of old) { stage = Open; calls = calls i; copied = λ k q. pieces k q i }),
      (λ i. Answered a (answer.Replied (told i))),
    )

pub returns-clause-copies : goal.returns-clause-copies
returns-clause-copies g c =
    subst (λ (d : running.CallWithOutcome g.row.V.Denot).
    IsAcceptedAt d.place d.outcome c.args.self.now.copies.items c.accept_at-kept.new.copies.items) c.get_mut-answered.ensures.value
    c.accept_at-kept.ensures.accepted

pub returns-clause-told : goal.returns-clause-told
returns-clause-told g c =
    let is = c.replace-told.ensures.value ∙ ap (λ (d : running.CallWithOutcome g.row.V.Denot). d.told) c.get_mut-answered.ensures.value in
    (refl, λ i. told.Answered (answer.Replied (is i)))

pub returns-clause-keeps : goal.returns-clause-keeps
returns-clause-keeps g c v below =
    let old = c.args.self.now in
    let ds = c.args.call.writes.items in
    let end = end_of v.words v.blocks in
    let writes = c.deref.ensures ∙ ap (λ (d : running.CallWithOutcome g.row.V.Denot). d.writes.items) c.get_mut-answered.ensures.value in
    let made : actor_of c.write_all.new.words ≡ written_as (actor_of old.words) ds =
    c.write_all.ensures.actor ∙ ap (λ (es : Entries). written_as (actor_of old.words) es) writes in
    keeps_open v old _ (fits_written end old.words c.write_all.new.words ds c.requires.prepared.writes below made c.write_all.ensures.place)
    (subst (λ (p : Place). owed p ≤ owed old.words.place) (sym c.write_all.ensures.place) (omega arith)) refl

pub returns-clause-owed : goal.returns-clause-owed
returns-clause-owed g c =
    subst (λ (p : Place). owed p ≤ owed c.args.self.now.words.place) (sym c.write_all.ensures.place) (omega arith)

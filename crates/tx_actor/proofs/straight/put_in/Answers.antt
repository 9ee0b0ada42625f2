use Rattle.std.proofs.Common.{Some, length, refl, sym, ap, subst, ◌∙◌}
use Rattle.std.proofs.lemmas.Option.{slice_get_read, same_Some}
use Rattle.std.proofs.Math.ListN.{set}
use Rattle.actor_parts.specs.declared.copies.CopyOfCollection.{CopyOfCollection}
use Rattle.actor_parts.specs.PrivateCopy.{holds_call}
use Rattle.actor_parts.proofs.AlikeLemmas.{kept_set}
use Rattle.actor_parts.proofs.OutcomeLemmas.{answered_op}
use Rattle.tx_actor.specs.Answers.{IsAcceptedAt}
use Rattle.tx_actor.specs.Straight.{put_outcome}
use Rattle.tx_actor.proofs.AnswerLemmas.{accepted_at}
use Rattle.tx_actor.proofs.ShadowAfterRequestLemmas.{on_err}
use Rattle.tx_actor.proofs.straight.put_in.Goals as goal

pub put_on_key-requires : goal.put_on_key-requires
put_on_key-requires g c =
    let cs = c.args.copies.now.items in
    record {
      can = c.requires.can c.index_mut.result.now
          (slice_get_read cs (length cs) c.args.place c.index_mut.result.now refl c.requires.place c.index_mut.ensures.value);
    }

pub returns-clause-accepted : goal.returns-clause-accepted
returns-clause-accepted g c d there =
    let cs = c.args.copies.now.items in
    let here = c.index_mut.result.now in
    let at = slice_get_read cs (length cs) c.args.place here refl c.requires.place c.index_mut.ensures.value in
    let can = c.requires.can here at in
    let o = put_outcome here.copied c.args.op.now in
    let same = same_Some here d (sym at ∙ there) in
    subst (λ (z : CopyOfCollection g.row.V.Denot). IsAcceptedAt c.args.place (Some (put_outcome z.copied c.args.op.now)) cs
    (set cs c.args.place (record { collection = here.collection; copied = c.put_on_key.new.copied }))) same
    (accepted_at c.args.place (Some o) o cs here c.put_on_key.new.copied refl c.requires.place c.index_mut.ensures.value
    c.in_ok-replies.ensures.accepted (ap (holds_call here.copied) (answered_op here.copied c.args.op.now o can.answer) ∙ can.held))

pub returns-clause-replies : goal.returns-clause-replies
returns-clause-replies g c d there =
    let cs = c.args.copies.now.items in
    let here = c.index_mut.result.now in
    let at = slice_get_read cs (length cs) c.args.place here refl c.requires.place c.index_mut.ensures.value in
    let same = same_Some here d (sym at ∙ there) in
    let reply = ap (λ (z : CopyOfCollection g.row.V.Denot). (put_outcome z.copied c.args.op.now).reply) same in
    (c.in_ok-replies.ensures.replies.0 ∙ reply, c.in_ok-replies.ensures.replies.1 ∙ reply)

pub returns-in_err-replies-clause-err : goal.returns-in_err-replies-clause-err
returns-in_err-replies-clause-err g c =
    let cs = c.args.copies.now.items in
    let here = c.index_mut.result.now in
    let at = slice_get_read cs (length cs) c.args.place here refl c.requires.place c.index_mut.ensures.value in
    on_err c.from_residual.result
    (kept_set cs c.args.place here (record { collection = here.collection; copied = c.put_on_key.new.copied }) at refl
    c.in_err-replies.ensures.err)

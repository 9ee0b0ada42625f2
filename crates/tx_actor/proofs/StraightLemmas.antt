-- A put that is accepted at once: its location was read with the copied edition, so that judging it leaves nothing to be read, and the
-- world makes of it what the acceptance of a call that was made ready makes of it.
use Rattle.std.proofs.Common.{◌≡◌, ◌<◌, ◌≤◌, ◌+◌, ◌++◌, ◌&&◌, ◌||◌, ℕ, Bool, true, false, true≢false, length, List, [], ◌∷◌, Some, refl}
use Rattle.std.proofs.Common.{eq-eqb, sym, ap, subst, ◌∙◌, arith}
use Rattle.std.specs.Vec.{vec_capacity, vec_len}
use Rattle.std.proofs.lemmas.Bool.{cond-true}
use Rattle.std.proofs.lemmas.Option.{same_Some}
use Rattle.tx_sets.specs.Entries.{Entries, locations, lookup}
use Rattle.tx_machine.specs.Actor as machine
use Rattle.seq_model.specs.declared.call.Call.{Call}
use Rattle.seq_model.specs.declared.call.Op.{Op}
use Rattle.seq_model.specs.declared.call.Reply.{Reply}
use Rattle.seq_model.specs.declared.event.Answer.TheVariants.{Replied}
use Rattle.seq_model.specs.declared.event.Notice.TheVariants.{Answered}
use Rattle.conflict.specs.declared.outcome.Outcome.{Outcome}
use Rattle.replay_log.specs.Contents.{block_of, first_of, shifted}
use Rattle.replay_log.specs.Worlds.{Open, actor_of, calls_on, has_room, is_known, may_ask, new_in}
use Rattle.replay_log.proofs.CountLemmas.{locations-cons}
use Rattle.step_core.specs.Shown as words
use Rattle.step_core.specs.declared.actor.Actor.{Actor}
use Rattle.step_core.specs.declared.actor.Place.TheVariants as place
use Rattle.actor_parts.specs.declared.copies.PrivateCopy.{PrivateCopy}
use Rattle.actor_parts.specs.declared.copies.CopyOfCollection.{CopyOfCollection}
use Rattle.actor_parts.specs.declared.judged.Judged.TheVariants as judged_as
use Rattle.actor_parts.specs.Blocks.{BlocksView}
use Rattle.actor_parts.specs.PrivateCopy.{answer_of}
use Rattle.actor_parts.specs.Footprints.{known_edition, reads_in, with_known, writes_in}
use Rattle.actor_parts.specs.Judged.{comes_to, judged, judged_one, left_after}
use Rattle.actor_parts.specs.CopyInWorld.{call_on}
use Rattle.actor_parts.specs.CopyList.{AreKept}
use Rattle.actor_parts.specs.Room.{surely_fits, takes_more}
use Rattle.actor_parts.specs.Writes.{MayWrite, with_next, written_as}
use Rattle.actor_parts.proofs.BlocksLemmas.{up_to}
use Rattle.actor_parts.proofs.RoomLemmas.{few_fit, surely_shifted}
use Rattle.tx_actor.specs.declared.actor.CallWithOutcome as running
use Rattle.tx_actor.specs.declared.actor.Stage.TheVariants as stage
use Rattle.tx_actor.specs.declared.actor.ActorNotice.TheVariants as told
use Rattle.tx_actor.specs.declared.actor.TxActor.{TxActor}
use Rattle.tx_actor.specs.Answers.{IsAcceptedAt}
use Rattle.tx_actor.specs.Calls.{AsksOwn, CanCall}
use Rattle.tx_actor.specs.Owns.{OwnsCopies}
use Rattle.tx_actor.specs.Prepares.{IsAlike, IsHeldAt}
use Rattle.tx_actor.specs.Running.{answered_of, is_recorded, seat_of}
use Rattle.tx_actor.specs.Running as running_at
use Rattle.tx_actor.specs.Straight.{IsPutRead, put_outcome}
use Rattle.tx_actor.proofs.AnswerLemmas.{accepted_as, by_outcome, pieces_stay}
use Rattle.tx_actor.proofs.CallsLemmas.{Answers, held_comes, is_held, may_answer, piece_there}
use Rattle.tx_actor.proofs.OwnAsksLemmas.{accepted_owns}

-- a location that was read with this edition
judged_read : (es : Entries) (l e : ℕ) → lookup es l ≡ Some e → judged es ((l, e) ∷ []) ≡ judged_as.All
judged_read es l e read =
    ap (λ o. judged_one (l, e) judged_as.All o) read ∙ cond-true _ judged_as.All (judged_as.Stale l e e) (eq-eqb e e refl)

-- one location more may be written
alone : (l : ℕ) → length (l ∷ locations []) ≤ 1
unfolding locations
alone l = omega arith

one_written : (es : Entries) (l e : ℕ) → takes_more es 1 ≡ true → length es + length (new_in es (locations ((l, e) ∷ []))) ≤ 4096
one_written es l e more =
    subst (λ (ls : List ℕ). length es + length (new_in es ls) ≤ 4096) (sym (locations-cons (l, e) []))
    (up_to _ 4096 (few_fit es (l ∷ locations []) 1 more (alone l)))

more_written : (d p q : Bool) → (d || (p && q)) ≡ true → d ≡ false → q ≡ true
more_written true p q h e = absurd (true≢false e)
more_written false true q h e = h
more_written false false q h e = absurd (true≢false (sym h))

pub may_put : (x y : Actor) (l e : ℕ) → words.actor_of y ≡ words.actor_of x → y.place ≡ x.place → x.place ≡ place.Open
    → x.declared ≡ false → surely_fits (words.actor_of x) 1 1 ≡ true → 1 ≤ y.writes.room → vec_len y.calls + 1 ≤ vec_capacity y.calls
    → MayWrite y ((l, e) ∷ [])
may_put x y l e same at rests plain fits room calls =
    let declared : y.declared ≡ x.declared = ap (λ (q : machine.Actor). q.declared) same in
    let entries : y.writes.entries ≡ x.writes.entries = ap (λ (q : machine.Actor). q.writes) same in (
      at ∙ rests,
      (λ (lt : 0 < 1). declared ∙ plain),
      room,
      omega (arith, calls),
      subst (λ (es : Entries). length es + length (new_in es (locations ((l, e) ∷ []))) ≤ 4096) (sym entries)
          (one_written x.writes.entries l e
          (more_written x.declared (takes_more x.reads.entries 1) (takes_more x.writes.entries 1) fits plain)),
    )

module _ {V : Type 0} where
  -- the actor u, with other copies
  pub alike_with : (r u n : TxActor V) → IsAlike r u → n.words ≡ u.words → n.stage ≡ u.stage → n.rv ≡ u.rv → n.wv ≡ u.wv
      → n.cause ≡ u.cause → n.calls ≡ u.calls → AreKept r.copies.items n.copies.items → IsAlike r n
  alike_with r u n h as_words as_stage as_rv as_wv as_cause as_calls kept = record {
    words = ap words.actor_of as_words ∙ h.words;
    place = ap (λ (y : Actor). y.place) as_words ∙ h.place;
    stage = as_stage ∙ h.stage;
    rv = as_rv ∙ h.rv;
    wv = as_wv ∙ h.wv;
    cause = as_cause ∙ h.cause;
    calls = ap (λ cs. cs.items) as_calls ∙ h.calls;
    copies = kept;
  }

  -- the call that is accepted
  abbrev pub put_call : ℕ → ℕ → Op V → Outcome V → Entries → running.CallWithOutcome V
  put_call i k op o ds = record {
    asked = record { collection = k; op = op };
    outcome = Some o;
    place = i;
    writes = record { items = ds; capacity = 2 };
    told = o.reply;
  }

  -- as it is kept
  abbrev pub made_call : ℕ → Op V → Reply V → Call V × Reply V
  made_call k op reply = (record { target = k; op = op }, reply)

  pub put_writes : (c : PrivateCopy V) (f : ℕ) (o : Outcome V) (at : ℕ × ℕ) → writes_in c o ≡ at.0 ∷ [] → known_edition c at.0 ≡ at.1
      → with_next c f (writes_in c o) ≡ (f + at.0, at.1 + 1) ∷ []
  put_writes c f o at writes edition = ap (with_next c f) writes ∙ (λ j. (f + at.0, edition j + 1) ∷ [])

  pub held_puts : (v : BlocksView) (r n : TxActor V) (i f k : ℕ) (op : Op V) (at : ℕ × ℕ) (h : IsHeldAt r.copies.items i k op)
      → CanCall v r → f ≡ first_of v.words v.blocks k → is_known (block_of v.blocks k) op ≡ true
      → may_ask (words.actor_of r.words) op ≡ true → IsPutRead r.words h.copy.copied f op at → n.stage ≡ r.stage → n.rv ≡ r.rv
      → n.wv ≡ r.wv → n.cause ≡ r.cause
      → words.actor_of n.words ≡ written_as (words.actor_of r.words) ((f + at.0, at.1 + 1) ∷ [])
      → IsAcceptedAt i (Some (put_outcome h.copy.copied op)) r.copies.items n.copies.items
      → (kept : Reply V) → kept ≡ (put_outcome h.copy.copied op).reply
      → n.calls.items ≡ r.calls.items ++ made_call k op kept ∷ []
      → (reply : Reply V) → reply ≡ (put_outcome h.copy.copied op).reply
      → AsksOwn v r n (told.Answered (Replied reply)) (λ a w. calls_on w a (seat_of r) (call_on k op))
  held_puts v r n i f k op at h can first known may read as_stage as_rv as_wv as_cause made accepted kept is_kept calls reply is_reply
      a w laid s own mc =
      let c = h.copy.copied in
      let o = put_outcome c op in
      let held = is_held v w a r i f k op o (ap is_recorded can.stage) laid s own h first known may read.answer in
      let now : actor_of w a ≡ words.actor_of r.words = s.1 in
      let ds : Entries = (f + at.0, at.1 + 1) ∷ [] in
      let call = put_call i k op o ds in
      let es = with_known c f (reads_in c o) in
      let reads = r.words.reads.entries in
      let writes : ds ≡ with_next c f (writes_in c o) = sym (put_writes c f o at read.writes read.edition) in
      let answer = may_answer w a r k c op o f held mc r.words call es now refl refl writes refl in
      let all : judged reads es ≡ judged_as.All =
      ap (λ ls. judged reads (with_known c f ls)) read.reads
      ∙ ((λ j. judged reads ((f + at.0, read.edition j) ∷ [])) ∙ judged_read reads (f + at.0) at.1 read.read) in
      let yes = (answer.accepts all).0 in
      let has = piece_there v w a r i k op own held.known h in
      let few : (ls : List ℕ) → ls ≡ at.0 ∷ [] → length ls ≤ 1 =
      λ ls is. subst (λ (js : List ℕ). length js ≤ 1) (sym is) (omega arith) in
      let room : has_room (words.actor_of r.words) (shifted f (reads_in c o)) (shifted f (writes_in c o)) ≡ true =
      surely_shifted (words.actor_of r.words) f 1 1 (reads_in c o) (writes_in c o) read.fits (few (reads_in c o) read.reads)
      (few (writes_in c o) read.writes) in
      let comes = held_comes w a r k c op o f held r.words (seat_of r) call es now refl has refl refl refl room in
      let pieces = pieces_stay i (Some o) r.copies.items n.copies.items accepted in
      let t = told.Answered (Replied reply) in
      let m : TxActor V = running_at.at n stage.Open in
      let runs = accepted_as a w (seat_of r) (seat_of m) (words.actor_of n.words) (answered_of call) _ tt yes.guard yes.outcome
      (made ∙ (ap (λ (y : machine.Actor). written_as y ds) (sym now) ∙ sym yes.writes))
      (λ j. record {
        stage = Open;
        rv = as_rv j;
        wv = as_wv j;
        cause = as_cause j;
        calls = (calls ∙ (λ e. r.calls.items ++ made_call k op (is_kept e) ∷ [])) j;
        copied = λ k q. pieces k q j;
      }) in
      let went = by_outcome m t a w (seat_of r) (answered_of call) (answered_of call) (left_after reads es) (judged reads es) refl all
      (runs, λ j. Answered a (Replied (is_reply j))) in
      let owns = subst (λ j. OwnsCopies m (comes_to w a (seat_of r) (answered_of call) (left_after reads es) j).0 a) (sym all)
      (accepted_owns w a (seat_of r) r m call (left_after reads es) h.there
      (λ d there. (
        o,
        refl,
        ap (λ (z : CopyOfCollection V). z.collection) (same_Some d h.copy (sym there ∙ h.at)) ∙ h.collection,
        ap (λ (z : CopyOfCollection V). answer_of z.copied op) (same_Some d h.copy (sym there ∙ h.at)) ∙ read.answer,
      )) accepted yes own) in
      subst (λ st. Answers a (running_at.at n st) t (calls_on w a (seat_of r) (call_on k op))) (sym (as_stage ∙ can.stage))
      (subst (Answers a m t) comes (went.0, went.1, owns))

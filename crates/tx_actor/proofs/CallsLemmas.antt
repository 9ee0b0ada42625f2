-- A call of an idle actor on a collection. Where its copy has what the call touches, the world judges it by the law on held calls, and what
-- is ready is the world's: its outcome by the law on copies, and its writes, since what is written is read, and so was copied with its
-- edition. Where it has not, its seat has not copied the piece, and the gate is tried.
use Rattle.std.proofs.Common.{◌≡◌, ℕ, ◌+◌, ◌^◌, ◌<◌, ◌≤◌, true, false, ◌&&◌, cond, ltb, length, List, [], ◌∷◌, Option, Some, None, refl}
use Rattle.std.proofs.Common.{sym, ap, subst, ◌∙◌, arith}
use Rattle.std.specs.Prelude.{Contains, IsSome, slice_get}
use Rattle.std.proofs.lemmas.Bool.{cond-true, cond-false}
use Rattle.std.proofs.lemmas.Option.{same_Some}
use Rattle.tx_sets.specs.Entries.{Entries, lookup}
use Rattle.tx_machine.specs.Actor as machine
use Rattle.tx_machine.specs.Requests as word
use Rattle.tx_machine.specs.Requests.{ask}
use Rattle.tx_machine.proofs.Sets.{put-same}
use Rattle.seq_model.specs.declared.call.Op.{Op}
use Rattle.seq_model.specs.declared.limits.TheConstants.{CALL_LIMIT}
use Rattle.seq_model.specs.declared.refusal.Refusal.TheVariants as refusal
use Rattle.seq_model.specs.declared.event.Notice.TheVariants.{Quiet, Refused}
use Rattle.conflict.specs.declared.outcome.Outcome.{Outcome}
use Rattle.tx_machine.specs.Content.{IsIn}
use Rattle.tx_machine.specs.Boosted.{Accept}
use Rattle.replay_log.specs.Guards.{Allows}
use Rattle.step_core.specs.declared.actor.Actor.{Actor}
use Rattle.replay_log.specs.Contents.{CallWithOutcome, Block, block_of, content, first_of, shifted, size}
use Rattle.replay_log.specs.Base.{shown_of, stripes_of}
use Rattle.seq_model.specs.declared.refusal.Refusal.{Refusal}
use Rattle.tx_actor.specs.declared.actor.Stage.TheVariants as stage
use Rattle.tx_actor.specs.declared.prepares.Prepared.{Prepared}
use Rattle.replay_log.specs.Pieces.{piece_at, piece_in}
use Rattle.replay_log.specs.Worlds.{World, Seat, After, Trying, Open, actor_of, at_stage, calls_on, has_room, if_allowed, is_known, may_ask}
use Rattle.replay_log.specs.Worlds.{more_tries, outcome_at, seated, with_editions}
use Rattle.replay_log.proofs.ContentLemmas.{content_frame, in_shifted, shifted_in}
use Rattle.step_core.specs.Shown as words
use Rattle.tx_actor.specs.declared.actor.CallWithOutcome as running
use Rattle.actor_parts.specs.declared.copies.CopyOfCollection.{CopyOfCollection}
use Rattle.tx_actor.specs.declared.actor.ActorNotice.{ActorNotice}
use Rattle.tx_actor.specs.declared.actor.ActorNotice.TheVariants as told
use Rattle.tx_actor.specs.declared.actor.TxActor.{TxActor}
use Rattle.actor_parts.specs.declared.copies.PrivateCopy.{PrivateCopy}
use Rattle.actor_parts.specs.Accepts.{written}
use Rattle.tx_actor.specs.Answers.{CopiesAfter, MayAccept, MayAnswer}
use Rattle.actor_parts.specs.Blocks.{BlocksView, IsLaid}
use Rattle.tx_actor.specs.Calls.{AsksOwn, CanCall, ask_call, is_allowed}
use Rattle.actor_parts.specs.PrivateCopy as copies
use Rattle.actor_parts.specs.PrivateCopy.{answer_of, answered_on, holds_call, holds_of}
use Rattle.actor_parts.specs.Footprints.{IsPositionOf, base_in, known_edition, location_count, reads_in, with_known, writes_in}
use Rattle.actor_parts.specs.Judged.{comes_to, judged, left_after}
use Rattle.actor_parts.specs.CopyInWorld.{IsOwnCopy, call_on}
use Rattle.actor_parts.specs.Owns.{IsHeldAsk, IsOwn, MayCall, read_at}
use Rattle.tx_actor.specs.Owns.{OwnsCopies}
use Rattle.tx_actor.specs.Prepares.{ArePrepared, IsAlike, IsHeldAt, IsReadyCall, MayPrepare}
use Rattle.tx_actor.specs.Running.{Runs, asked_of, answered_of, notice_of, seat_of, with_outcome, is_recorded, seat_at, seat_in}
use Rattle.actor_parts.specs.CopyList.{copy_of, has_piece}
use Rattle.actor_parts.specs.Writes.{with_next, written_as}
use Rattle.actor_parts.proofs.CopyInWorldLemmas.{answers_held, head_in, held_editions, held_known, held_outcome, held_read, held_written}
use Rattle.actor_parts.proofs.CopyInWorldLemmas.{tail_in}
use Rattle.actor_parts.proofs.CallingLemmas.{not_read}
use Rattle.actor_parts.proofs.FootprintLemmas.{sized}
use Rattle.actor_parts.proofs.CopyListLemmas.{first_at}
use Rattle.tx_actor.proofs.OwnAsksLemmas.{comes_owns}
use Rattle.tx_actor.proofs.CopyListLemmas.{owns_by}
use Rattle.actor_parts.proofs.WeighedLemmas.{held_answers}
use Rattle.tx_actor.proofs.PreparesLemmas.{alike_owns, alike_seat}

-- the writes of an accepted call are those that are ready
written_same : {V : Type 0} → (c : PrivateCopy V) (f : ℕ) (editions : ℕ → ℕ) (ls : List ℕ) (y : machine.Actor)
    → ((i : ℕ) → Contains ls i → editions (f + i) ≡ known_edition c i)
    → written y editions (shifted f ls) ≡ written_as y (with_next c f ls)
written_same c f editions [] y known = refl
written_same c f editions (l ∷ ls) y known =
    let e : editions (f + l) ≡ known_edition c l = known l (head_in l ls) in
    ap (λ v. written (ask y y.place (word.AskWrite (f + l) (v + 1))) editions (shifted f ls)) e
    ∙ written_same c f editions ls (ask y y.place (word.AskWrite (f + l) (known_edition c l + 1)))
    (λ i there. known i (tail_in l i ls there))

module _ {V : Type 0} where
  some_piece : (w : World V) (a k : ℕ) (c : PrivateCopy V) (op : Op V) → IsOwn w a k (Some c) → is_known (block_of w.blocks k) op ≡ true
      → copies.has_piece c (piece_at w.blocks (call_on k op)) ≡ holds_call c op
  some_piece w a k c op is known =
      let b = is.0 in
      let here : is_known (Some b) op ≡ true = ap (λ (o : Option Block). is_known o op) (sym is.1.block) ∙ known in
      ap (λ (o : Option Block). copies.has_piece c (piece_in o op)) is.1.block ∙ sym (is.1.pieces op here)

  piece_held : (w : World V) (a k : ℕ) (o : Option (PrivateCopy V)) (op : Op V) → IsOwn w a k o → is_known (block_of w.blocks k) op ≡ true
      → has_piece o (piece_at w.blocks (call_on k op)) ≡ holds_of o op
  piece_held w a k None op is known = refl
  piece_held w a k (Some c) op is known = some_piece w a k c op is known

  -- ---- the gate is tried
  pub tries_gate : (w : World V) (a : ℕ) (r : TxActor V) (k : ℕ) (op : Op V) → OwnsCopies r w a → is_known (block_of w.blocks k) op ≡ true
      → holds_of (copy_of r.copies.items k) op ≡ false
      → calls_on w a (seat_of r) (call_on k op) ≡ (seated w a (at_stage (seat_of r) (Trying (call_on k op) more_tries)), Quiet)
  tries_gate w a r k op is known none =
      cond-false (has_piece (copy_of r.copies.items k) (piece_at w.blocks (call_on k op))) _ _
      (piece_held w a k (copy_of r.copies.items k) op (is.own k) known ∙ none)

  -- ---- what is held
  module _ (w : World V) (a : ℕ) (r : TxActor V) (k : ℕ) (c : PrivateCopy V) (op : Op V) (o : Outcome V) (f : ℕ) where
    pub record Held : Type 0 where
      pub own : IsOwn w a k (Some c)
      pub first : f ≡ first_of w.words w.blocks k
      pub known : is_known (block_of w.blocks k) op ≡ true
      pub may : may_ask (actor_of w a) op ≡ true
      pub copied : (w.seats a).copied k (piece_at w.blocks (call_on k op)) ≡ true
      pub holds : holds_call c op ≡ true
      pub answer : answer_of c op ≡ Some o

    asks_held : Held → IsHeldAsk w a (call_on k op)
    asks_held h = record { known = h.known; may = h.may; copied = h.copied }

    -- what it reads, with the copied editions
    reads_are : Held → read_at w a (call_on k op) ≡ with_known c f (reads_in c o)
    reads_are h =
        let g = first_of w.words w.blocks k in
        let b = h.own.0 in
        let own = h.own.1 in
        let z = w.boosted.shadows a in
        (λ i. with_editions z.editions ((content w.words w.blocks).reads (held_outcome w a k b c op o own h.holds h.answer i)))
        ∙ (ap (with_editions z.editions) (held_read w a k b c op o own h.holds h.answer)
        ∙ (held_editions w a k b c op o own h.holds h.answer ∙ (λ i. with_known c (sym h.first i) (reads_in c o))))

    writes_read : Held → (i : ℕ) → Contains (writes_in c o) i → Contains (reads_in c o) i
    writes_read h i there =
        let g = first_of w.words w.blocks k in
        let b = h.own.0 in
        let own = h.own.1 in
        let p = answered_on k op o in
        let written_there = subst (λ ls. IsIn (g + i) ls) (sym (held_written w a k b c op o own h.holds h.answer))
        (shifted_in g i (writes_in c o) there) in
        let read_there = subst (λ ls. IsIn (g + i) ls) (held_read w a k b c op o own h.holds h.answer)
        ((content_frame {V = V} w.words w.blocks own.stripes).read p (g + i) written_there) in
        let z = in_shifted g (g + i) (reads_in c o) read_there in
        let same : g + i ≡ g + z.0 = z.1 in
        let e : z.0 ≡ i = omega (arith, same) in
        subst (Contains (reads_in c o)) e z.2

    may_accept : Held → (call : running.CallWithOutcome V) → asked_of call.asked ≡ call_on k op → call.outcome ≡ Some o
        → call.writes.items ≡ with_next c f (writes_in c o)
        → Allows (content w.words w.blocks) w.boosted (Accept a (call_on k op)) → MayAccept w a call
    may_accept h call asks is writes guard =
        let g = first_of w.words w.blocks k in
        let b = h.own.0 in
        let own = h.own.1 in
        let y = actor_of w a in
        let editions = (w.boosted.shadows a).editions in
        let p : CallWithOutcome V = answered_on k op o in
        let all : answered_of call ≡ p = λ i. record { asked = asks i; outcome = is i } in
        let known : (i : ℕ) → Contains (writes_in c o) i → editions (g + i) ≡ known_edition c i = λ i there.
        held_known w a k b c op o own h.holds h.answer i (writes_read h i there) in
        record {
          guard = subst (λ q. Allows (content w.words w.blocks) w.boosted (Accept a q)) (sym asks) guard;
          outcome = ap (outcome_at w a) asks ∙ (held_outcome w a k b c op o own h.holds h.answer ∙ sym all);
          writes = ap (λ q. written y editions ((content w.words w.blocks).writes q)) all
              ∙ (ap (written y editions) (held_written w a k b c op o own h.holds h.answer)
              ∙ (written_same c g editions (writes_in c o) y known
              ∙ ap (written_as y) ((λ i. with_next c (sym h.first i) (writes_in c o)) ∙ sym writes)));
        }

    pub may_answer : Held → MayCall w a → (u : Actor) (call : running.CallWithOutcome V) (es : Entries) → actor_of w a ≡ words.actor_of u
        → asked_of call.asked ≡ call_on k op → call.outcome ≡ Some o → call.writes.items ≡ with_next c f (writes_in c o)
        → es ≡ with_known c f (reads_in c o) → MayAnswer w a u call.outcome call es
    may_answer h may u call es s asks is writes left =
        let reads : (actor_of w a).reads ≡ u.reads.entries = ap (λ (q : machine.Actor). q.reads) s in
        let same : judged (actor_of w a).reads (read_at w a (call_on k op)) ≡ judged u.reads.entries es =
        λ i. judged (reads i) ((reads_are h ∙ sym left) i) in
        record {
          accepts = λ all. (may_accept h call asks is writes (may.accepts (call_on k op) (asks_held h) (same ∙ all)), refl);
          reads = λ l next. (
            ap (λ (q : machine.Actor). q.place) (sym s) ∙ may.place,
            ap (λ (q : machine.Actor). lookup q.writes l) (sym s) ∙ may.reads (call_on k op) l (asks_held h) (same ∙ next),
            not_read u.reads.entries es l next,
          );
        }

    -- what the world makes of the call
    pub held_comes : Held → (u : Actor) (x : Seat V) (call : running.CallWithOutcome V) (es : Entries) → actor_of w a ≡ words.actor_of u
        → x ≡ seat_of r
        → x.copied k (piece_at w.blocks (call_on k op)) ≡ true
        → asked_of call.asked ≡ call_on k op → call.outcome ≡ Some o → es ≡ with_known c f (reads_in c o)
        → has_room (words.actor_of u) (shifted f (reads_in c o)) (shifted f (writes_in c o)) ≡ true
        → comes_to w a x (answered_of call) (left_after u.reads.entries es) (judged u.reads.entries es)
        ≡ calls_on w a (seat_of r) (call_on k op)
    held_comes h u x call es s seat has asks is left room =
        let own : IsOwnCopy w a k h.own.0 f c = subst (λ g. IsOwnCopy w a k h.own.0 g c) (sym h.first) h.own.1 in
        let y = actor_of w a in
        let kn = with_known c f (reads_in c o) in
        let reads : u.reads.entries ≡ y.reads = ap (λ (q : machine.Actor). q.reads) (sym s) in
        let all : answered_of call ≡ answered_on k op o = λ i. record { asked = asks i; outcome = is i } in
        let fit : has_room y (shifted f (reads_in c o)) (shifted f (writes_in c o)) ≡ true =
        ap (λ q. has_room q (shifted f (reads_in c o)) (shifted f (writes_in c o))) s ∙ room in
        (λ i. comes_to w a x (all i) (left_after (reads i) (left i)) (judged (reads i) (left i)))
        ∙ (sym (cond-true (has_room y (shifted f (reads_in c o)) (shifted f (writes_in c o)))
        (comes_to w a x (answered_on k op o) (left_after y.reads kn) (judged y.reads kn))
        (seated w a (at_stage x Open), Refused a refusal.TooLong) fit)
        ∙ (sym (answers_held w a x k h.own.0 f c op o own h.holds h.answer has)
        ∙ ap (λ z. calls_on w a z (call_on k op)) seat))

    pub held_too_long : Held → (u : Actor) (x : Seat V) → actor_of w a ≡ words.actor_of u → x ≡ seat_of r
        → x.copied k (piece_at w.blocks (call_on k op)) ≡ true
        → has_room (words.actor_of u) (shifted f (reads_in c o)) (shifted f (writes_in c o)) ≡ false
        → (let p : After V = (seated w a (at_stage x Open), Refused a refusal.TooLong) in p) ≡ calls_on w a (seat_of r) (call_on k op)
    held_too_long h u x s seat has room =
        let own : IsOwnCopy w a k h.own.0 f c = subst (λ g. IsOwnCopy w a k h.own.0 g c) (sym h.first) h.own.1 in
        let y = actor_of w a in
        let fit : has_room y (shifted f (reads_in c o)) (shifted f (writes_in c o)) ≡ false =
        ap (λ q. has_room q (shifted f (reads_in c o)) (shifted f (writes_in c o))) s ∙ room in
        sym (cond-false (has_room y (shifted f (reads_in c o)) (shifted f (writes_in c o))) _
        (seated w a (at_stage x Open), Refused a refusal.TooLong) fit)
        ∙ (sym (answers_held w a x k h.own.0 f c op o own h.holds h.answer has)
        ∙ ap (λ z. calls_on w a z (call_on k op)) seat)

  -- ---- what is asked of it first
  pub asks_allowed : (v : BlocksView) (w : World V) (a : ℕ) (r : TxActor V) (k : ℕ) (op : Op V) → IsLaid v w
      → actor_of w a ≡ words.actor_of r.words → is_allowed v r.words k op ≡ true → ltb (length r.calls.items) CALL_LIMIT ≡ true
      → ask_call w a (seat_of r) k op ≡ calls_on w a (seat_of r) (call_on k op)
  asks_allowed v w a r k op laid s allowed few =
      let known : (is_known (block_of w.blocks k) op && may_ask (actor_of w a) op) ≡ true =
      (λ i. is_known (block_of (laid.1 i) k) op && may_ask (s i) op) ∙ allowed in
      ap (λ b. if_allowed w a (seat_of r) b true (calls_on w a (seat_of r) (call_on k op))) known
      ∙ ap (λ b. cond (b && true) (calls_on w a (seat_of r) (call_on k op)) (w, Refused a refusal.TooLong)) few

  pub no_such : (v : BlocksView) (w : World V) (a : ℕ) (r : TxActor V) (k : ℕ) (op : Op V) → IsLaid v w
      → actor_of w a ≡ words.actor_of r.words → is_allowed v r.words k op ≡ false
      → ask_call w a (seat_of r) k op ≡ (w, Refused a refusal.NoSuch)
  no_such v w a r k op laid s not_allowed =
      let known : (is_known (block_of w.blocks k) op && may_ask (actor_of w a) op) ≡ false =
      (λ i. is_known (block_of (laid.1 i) k) op && may_ask (s i) op) ∙ not_allowed in
      ap (λ b. if_allowed w a (seat_of r) b true (calls_on w a (seat_of r) (call_on k op))) known

  pub too_long : (v : BlocksView) (w : World V) (a : ℕ) (r : TxActor V) (k : ℕ) (op : Op V) → IsLaid v w
      → actor_of w a ≡ words.actor_of r.words → is_allowed v r.words k op ≡ true → ltb (length r.calls.items) CALL_LIMIT ≡ false
      → ask_call w a (seat_of r) k op ≡ (w, Refused a refusal.TooLong)
  too_long v w a r k op laid s allowed many =
      let known : (is_known (block_of w.blocks k) op && may_ask (actor_of w a) op) ≡ true =
      (λ i. is_known (block_of (laid.1 i) k) op && may_ask (s i) op) ∙ allowed in
      ap (λ b. if_allowed w a (seat_of r) b true (calls_on w a (seat_of r) (call_on k op))) known
      ∙ ap (λ b. cond (b && true) (calls_on w a (seat_of r) (call_on k op)) (w, Refused a refusal.TooLong)) many

  -- ---- the actor
  pub held_at_place : (cs : List (CopyOfCollection V)) (i k : ℕ) (op : Op V) (c : CopyOfCollection V) → IsPositionOf cs k (Some i)
      → slice_get cs i ≡ Some c
      → holds_call c.copied op ≡ true → IsHeldAt cs i k op
  held_at_place cs i k op c is at holds = record {
    there = is.0;
    copy = c;
    at = at;
    of = first_at cs i k c at (sym (is.2 c at)) is.1;
    collection = is.2 c at;
    holds = holds;
  }

  pub not_held_at : (cs : List (CopyOfCollection V)) (i k : ℕ) (op : Op V) (c : CopyOfCollection V) → IsPositionOf cs k (Some i)
      → slice_get cs i ≡ Some c
      → holds_call c.copied op ≡ false → holds_of (copy_of cs k) op ≡ false
  not_held_at cs i k op c is at holds = ap (λ q. holds_of q op) (first_at cs i k c at (sym (is.2 c at)) is.1) ∙ holds

  pub may_prepare : (v : BlocksView) (r : TxActor V) (i f k : ℕ) (op : Op V) → IsHeldAt r.copies.items i k op → CanCall v r
      → is_known (block_of v.blocks k) op ≡ true → may_ask (words.actor_of r.words) op ≡ true
      → ((b : Block) → block_of v.blocks k ≡ Some b → f + size b < 2 ^ 32)
      → MayPrepare r i f op
  may_prepare v r i f k op h can known may within =
      let c = h.copy in
      let b = can.blocks k c.copied h.of in
      let same : (d : CopyOfCollection V) → slice_get r.copies.items i ≡ Some d → c ≡ d = λ d at. same_Some c d (sym h.at ∙ at) in
      let some : 0 < stripes_of (base_in c.copied) = subst (λ n. 0 < n) (sym b.stripes) b.some in
      let places : size b.block ≡ location_count c.copied =
      (λ j. size (record { kind = sym b.kind j; stripes = sym b.stripes j }))
      ∙ sized (stripes_of (base_in c.copied)) (shown_of (base_in c.copied)) in
      let below = within b.block b.there in
      let range : f + location_count c.copied ≤ 2 ^ 32 = omega (arith, below, places) in
      let answers : IsSome (answer_of c.copied op) =
      held_answers b.block c.copied op b.some b.kind (ap (λ (o : Option Block). is_known o op) (sym b.there) ∙ known) h.holds in
      record {
        there = h.there;
        rests = can.rests;
        may = may;
        stripes = λ d at. subst (λ (z : CopyOfCollection V). 0 < stripes_of (base_in z.copied)) (same d at) some;
        range = λ d at. subst (λ (z : CopyOfCollection V). f + location_count z.copied ≤ 2 ^ 32) (same d at) range;
        held = λ d at. subst (λ (z : CopyOfCollection V). holds_call z.copied op ≡ true) (same d at) h.holds;
        known = λ d at. subst (λ (z : CopyOfCollection V). IsSome (answer_of z.copied op)) (same d at) answers;
      }

  pub piece_there : (v : BlocksView) (w : World V) (a : ℕ) (r : TxActor V) (i k : ℕ) (op : Op V) → OwnsCopies r w a
      → is_known (block_of w.blocks k) op ≡ true → IsHeldAt r.copies.items i k op
      → has_piece (copy_of r.copies.items k) (piece_at w.blocks (call_on k op)) ≡ true
  piece_there v w a r i k op own known h =
      piece_held w a k (copy_of r.copies.items k) op (own.own k) known ∙ (ap (λ q. holds_of q op) h.of ∙ h.holds)

  -- the pieces that an actor shows, before its first value store
  seat_pieces : (x : Seat V) (r : TxActor V) → is_recorded r.stage ≡ false → (seat_at x r).copied ≡ (seat_of r).copied
  seat_pieces x r e = ap (λ (z : Seat V). z.copied) (cond-false (is_recorded r.stage) _ (seat_in x.stage r) e)

  pub is_held : (v : BlocksView) (w : World V) (a : ℕ) (r : TxActor V) (i f k : ℕ) (op : Op V) (o : Outcome V) → is_recorded r.stage ≡ false
      → IsLaid v w → Runs a r w → OwnsCopies r w a → (h : IsHeldAt r.copies.items i k op) → f ≡ first_of v.words v.blocks k
      → is_known (block_of v.blocks k) op ≡ true → may_ask (words.actor_of r.words) op ≡ true → answer_of h.copy.copied op ≡ Some o
      → Held w a r k h.copy.copied op o f
  is_held v w a r i f k op o begun laid s own h first known may answer =
      let there : is_known (block_of w.blocks k) op ≡ true = (λ j. is_known (block_of (laid.1 j) k) op) ∙ known in
      record {
        own = subst (IsOwn w a k) h.of (own.own k);
        first = first ∙ (λ j. first_of (sym laid.0 j) (sym laid.1 j) k);
        known = there;
        may = ap (λ q. may_ask q op) s.1 ∙ may;
        copied = ap (λ (x : Seat V). x.copied k (piece_at w.blocks (call_on k op))) s.0
            ∙ ((λ j. seat_pieces (w.seats a) r begun j k (piece_at w.blocks (call_on k op))) ∙ piece_there v w a r i k op own there h);
        holds = h.holds;
        answer = answer;
      }

  abbrev pub Answers : ℕ → TxActor V → ActorNotice V → After V → Type 0
  Answers a n t z = Runs a n z.0 × (notice_of a t ≡ z.1) × OwnsCopies n z.0 a

  -- it continues
  pub held_goes_on : (v : BlocksView) (r u n : TxActor V) (t : ActorNotice V) (i f k : ℕ) (op : Op V) (h : IsHeldAt r.copies.items i k op)
      (p : Prepared V) → is_recorded r.stage ≡ false → f ≡ first_of v.words v.blocks k → is_known (block_of v.blocks k) op ≡ true
      → may_ask (words.actor_of r.words) op ≡ true → IsAlike r u → IsReadyCall r u i f op h.copy p
      → ((a : ℕ) (w : World V) (x : Option (Outcome V)) → actor_of w a ≡ words.actor_of u.words
      → MayAnswer w a u.words x p.call p.left.items →
      let reads = u.words.reads.entries in
      let z = comes_to w a (seat_of u) (with_outcome p.call x) (left_after reads p.left.items) (judged reads p.left.items) in
      Runs a n z.0 × (notice_of a t ≡ z.1))
      → CopiesAfter (judged u.words.reads.entries p.left.items) p.call u.copies.items n.copies.items
      → AsksOwn v r n t (λ a w. calls_on w a (seat_of r) (call_on k op))
  held_goes_on v r u n t i f k op h p begun first known may alike ready does after a w laid s own call =
      let c = h.copy.copied in
      let o = ready.outcome in
      let held = is_held v w a r i f k op o begun laid s own h first known may ready.answer in
      let now : actor_of w a ≡ words.actor_of u.words = s.1 ∙ sym alike.words in
      let asks : asked_of p.call.asked ≡ call_on k op =
      λ j. record { collection = (ready.collection ∙ h.collection) j; op = ready.asked j } in
      let answer = may_answer w a r k c op o f held call u.words p.call p.left.items now asks ready.is ready.writes ready.left in
      let runs = does a w p.call.outcome now answer in
      let seat = alike_seat r u alike in
      let has = ap (λ (x : Seat V). x.copied k (piece_at w.blocks (call_on k op))) seat ∙ piece_there v w a r i k op own held.known h in
      let room = ap (λ y. has_room y (shifted f (reads_in c o)) (shifted f (writes_in c o))) alike.words ∙ ready.fits in
      let comes = held_comes w a r k c op o f held u.words (seat_of u) p.call p.left.items now seat has asks ready.is ready.left room in
      let owns = comes_owns w a (seat_of u) u n p.call (left_after u.words.reads.entries p.left.items)
      (judged u.words.reads.entries p.left.items) ready.prepared.accept after (λ all. (answer.accepts all).0)
      (alike_owns r u w a alike own) in
      subst (Answers a n t) comes (runs.0, runs.1, owns)

  -- its locations don't fit the sets
  pub held_is_too_long : (v : BlocksView) (r u : TxActor V) (i f k : ℕ) (op : Op V) (h : IsHeldAt r.copies.items i k op)
      → is_recorded r.stage ≡ false → f ≡ first_of v.words v.blocks k → is_known (block_of v.blocks k) op ≡ true
      → may_ask (words.actor_of r.words) op ≡ true → IsAlike r u → ArePrepared r u i f op h.copy None
      → AsksOwn v r (record u { stage = stage.Open }) (told.Refused refusal.TooLong) (λ a w. calls_on w a (seat_of r) (call_on k op))
  held_is_too_long v r u i f k op h begun first known may alike none a w laid s own call =
      let c = h.copy.copied in
      let o = none.0 in
      let held = is_held v w a r i f k op o begun laid s own h first known may none.1 in
      let now : actor_of w a ≡ words.actor_of u.words = s.1 ∙ sym alike.words in
      let seat = alike_seat r u alike in
      let has = ap (λ (x : Seat V). x.copied k (piece_at w.blocks (call_on k op))) seat ∙ piece_there v w a r i k op own held.known h in
      let room = ap (λ y. has_room y (shifted f (reads_in c o)) (shifted f (writes_in c o))) alike.words ∙ none.2 in
      let n : TxActor V = record u { stage = stage.Open } in
      let z : World V = seated w a (at_stage (seat_of u) Open) in
      subst (Answers a n (told.Refused refusal.TooLong))
      (held_too_long w a r k c op o f held u.words (seat_of u) now seat has room)
      ((put-same w.seats a _, now, tt), refl, owns_by u n w z a refl refl refl refl (alike_owns r u w a alike own))

  -- the gate is tried
  pub gate_is_tried : (v : BlocksView) (r : TxActor V) (k : ℕ) (op : Op V) → is_known (block_of v.blocks k) op ≡ true
      → holds_of (copy_of r.copies.items k) op ≡ false
      → AsksOwn v r (record r { stage = stage.Trying (record { collection = k; op = op }) 63 }) told.Quiet
      (λ a w. calls_on w a (seat_of r) (call_on k op))
  gate_is_tried v r k op known none a w laid s own call =
      let there : is_known (block_of w.blocks k) op ≡ true = (λ j. is_known (block_of (laid.1 j) k) op) ∙ known in
      let n : TxActor V = record r { stage = stage.Trying (record { collection = k; op = op }) 63 } in
      let z : World V = seated w a (at_stage (seat_of r) (Trying (call_on k op) more_tries)) in
      subst (Answers a n told.Quiet) (sym (tries_gate w a r k op own there none))
      ((put-same w.seats a _, s.1, tt), refl, owns_by r n w z a refl refl refl refl own)

  -- what is refused at once
  pub refused_as : (v : BlocksView) (r : TxActor V) (cause : Refusal) (f : ℕ → World V → After V)
      → ((a : ℕ) (w : World V) → IsLaid v w → actor_of w a ≡ words.actor_of r.words → f a w ≡ (w, Refused a cause))
      → AsksOwn v r r (told.Refused cause) f
  refused_as v r cause f is a w laid s own call = subst (Answers a r (told.Refused cause)) (sym (is a w laid s.1)) (s, refl, own)

  pub asked_as : (v : BlocksView) (r n : TxActor V) (t : ActorNotice V) (f g : ℕ → World V → After V)
      → ((a : ℕ) (w : World V) → IsLaid v w → actor_of w a ≡ words.actor_of r.words → g a w ≡ f a w) → AsksOwn v r n t f → AsksOwn v r n t g
  asked_as v r n t f g is asked a w laid s own call = subst (Answers a n t) (sym (is a w laid s.1)) (asked a w laid s own call)

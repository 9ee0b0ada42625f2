-- A call whose gate is held. What is taken for it is the one copy of its collection, of the collection's block, so that the call can be
-- made ready; where an allocation for that fails what was taken goes back, and the pieces that the actor shows are those that there were,
-- so that it starves as its seat does. Where the call is ready its seat has the piece that the call touches besides, and the world judges
-- the call by the same locations with the same editions; and what the actor has is its own, or one of these locations was read with another
-- edition, so that the world does not accept it.
use Rattle.std.proofs.Common.{◌≡◌, inl, inr, eq-eqb, eqb-true, ℕ, ◌+◌, ◌<◌, ◌≤◌, ◌^◌, ◌==◌, ◌&&◌, Bool, true, false, cond, length, List, []}
use Rattle.std.proofs.Common.{◌∷◌, Option, Some, refl, sym, ap, subst, ◌∙◌, arith}
use Rattle.std.specs.Prelude.{IsSome, slice_get}
use Rattle.std.proofs.lemmas.Bool.{cond-true, cond-false}
use Rattle.std.specs.Global.{Vec}
use Rattle.std.proofs.lemmas.Option.{same_Some}
use Rattle.tx_sets.specs.Entries.{Entries, lookup}
use Rattle.tx_machine.specs.Actor as machine
use Rattle.tx_machine.proofs.Sets.{put-same}
use Rattle.tx_machine.specs.Boosted.{Boosted, Shadow}
use Rattle.seq_model.specs.declared.refusal.Refusal.TheVariants as refusal
use Rattle.seq_model.specs.declared.event.Notice.TheVariants.{Refused}
use Rattle.conflict.specs.declared.outcome.Outcome.{Outcome}
use Rattle.replay_log.specs.declared.base.Base.{Base}
use Rattle.replay_log.specs.Base.{outcome_of, shown_of, stripes_of}
use Rattle.replay_log.specs.Parts.{kind_of}
use Rattle.replay_log.specs.Pieces.{Piece, is_piece, piece_at, piece_in, piece_of}
use Rattle.replay_log.specs.Contents as contents
use Rattle.replay_log.specs.Contents.{Block, block_of, content, end_of, first_of, shifted, size}
use Rattle.replay_log.specs.Worlds as worlds
use Rattle.replay_log.specs.Worlds.{World, Seat, After, actor_of, at_stage, because, gives_up, has_room, is_stale, outcome_at, outcome_now}
use Rattle.replay_log.specs.Worlds.{seated, sized_by, step_at, with_editions, with_piece}
use Rattle.step_core.specs.Shown as words
use Rattle.actor_laws.specs.Bases.{IsBaseOf}
use Rattle.actor_parts.specs.Blocks.{BlocksView, IsLaid}
use Rattle.actor_parts.specs.declared.judged.Judged.{Judged}
use Rattle.actor_parts.specs.declared.judged.Judged.TheVariants.{All, Next}
use Rattle.actor_parts.specs.Judged.{comes_to, judged, left_after}
use Rattle.actor_parts.specs.Shows.{put_back}
use Rattle.actor_parts.proofs.ShowsLemmas.{copies_for_call}
use Rattle.actor_parts.specs.declared.copies.PrivateCopy.{PrivateCopy}
use Rattle.actor_parts.specs.declared.copies.CopyOfCollection.{CopyOfCollection}
use Rattle.actor_parts.specs.declared.copies.BaseExcerpt.{BaseExcerpt}
use Rattle.actor_parts.specs.CopyAtGate.{IsCopyFor, IsTaken}
use Rattle.actor_parts.specs.PrivateCopy.{IsFound, answer_of, holds_call}
use Rattle.actor_parts.specs.Footprints.{base_in, location_count, reads_in, with_known, writes_in}
use Rattle.actor_parts.specs.CopyList.{copy_of, has_piece}
use Rattle.actor_parts.specs.Owns.{AreOfBlocks, IsOfBlock}
use Rattle.actor_parts.specs.Sizes.{base_reads, base_writes}
use Rattle.actor_parts.specs.Taking.{IsTakenAt, TakesBack, copy_with, fits_base}
use Rattle.actor_parts.specs.LoadInWorld.{AreRead, IsDoomed}
use Rattle.actor_parts.specs.Writes.{with_next}
use Rattle.actor_parts.proofs.CallingLemmas.{not_read}
use Rattle.actor_parts.proofs.FootprintLemmas.{sized}
use Rattle.actor_parts.proofs.GoingLemmas.{GoesOn, fresh}
use Rattle.actor_parts.proofs.TakeBackLemmas.{kept_same, taken_copies, taken_goes_back, taken_in_block, taken_pieces, taken_there}
use Rattle.actor_parts.proofs.WeighedLemmas.{held_answers}
use Rattle.tx_actor.specs.declared.actor.CollectionCall.{CollectionCall}
use Rattle.tx_actor.specs.declared.actor.Stage.TheVariants as stage
use Rattle.tx_actor.specs.declared.actor.ActorNotice.{ActorNotice}
use Rattle.tx_actor.specs.declared.actor.ActorNotice.TheVariants as told
use Rattle.tx_actor.specs.declared.actor.TxActor.{TxActor}
use Rattle.tx_actor.specs.declared.prepares.Prepared.{Prepared}
use Rattle.tx_actor.specs.Answers.{MayAccept, MayAnswer}
use Rattle.tx_actor.specs.Copying.{AreReadyAt, CanCopy, IsReadyAt, IsUnmoved, MayCopy, MayTake, StepsOn}
use Rattle.tx_actor.specs.Dispatch.{Starves}
use Rattle.tx_actor.specs.LoadInWorld.{IsCallOn}
use Rattle.tx_actor.specs.ActorBounds.{CanGoOn, KeepsIn}
use Rattle.tx_actor.specs.Prepares.{IsAlike, IsHeldAt, MayPrepare, prepared_of}
use Rattle.tx_actor.specs.Running.{Runs, asked_of, answered_of, at, notice_of, seat_of, with_outcome}
use Rattle.tx_actor.proofs.DispatchLemmas.{by_result}
use Rattle.tx_actor.proofs.LoadInWorldLemmas.{may_accept, never}
use Rattle.step_core.specs.declared.actor.Place.TheVariants as place
use Rattle.actor_parts.specs.Requests.{HasNoReads}
use Rattle.tx_actor.proofs.ActorBoundsLemmas.{keeps_asked, keeps_through}
use Rattle.tx_actor.proofs.RoomLemmas.{alike_keeps, can_go_on, same_keeps}
use Rattle.tx_actor.proofs.LoadLemmas as load
use Rattle.tx_actor.proofs.LoadLemmas.{comes_at}

-- the store of a gate leaves the editions
editions_stay : {X Out : Type 0} (s : Boosted X Out) (gates : ℕ → Option ℕ) (shadows : ℕ → Shadow X Out) (b : Bool)
    → (cond b (record s { gates = gates; shadows = shadows }) s).editions ≡ s.editions
editions_stay s gates shadows true = refl
editions_stay s gates shadows false = refl

module _ {V : Type 0} where
  -- ---- what is taken can be made ready
  pub of_its_block : (v : BlocksView) (r : TxActor V) (base : Base V) (asked : CollectionCall V) → (can : CanCopy v r base asked)
      → (c : PrivateCopy V)
      → copy_of r.copies.items asked.collection ≡ Some c
      → (kind_of (shown_of (base_in c)) ≡ can.block.kind) × (stripes_of (base_in c) ≡ can.block.stripes)
  of_its_block v r base asked can c e =
      let of = can.blocks asked.collection c e in
      let same : of.block ≡ can.block = same_Some of.block can.block (sym of.there ∙ can.there) in
      (of.kind ∙ ap (λ (b : Block). b.kind) same, of.stripes ∙ ap (λ (b : Block). b.stripes) same)

  pub may_take : (v : BlocksView) (r : TxActor V) (base : Base V) (asked : CollectionCall V) (n f : ℕ) (found : BaseExcerpt V)
      → (can : CanCopy v r base asked)
      → n ≡ can.block.stripes → f + size can.block < 2 ^ 32 → IsFound base asked.op found → MayTake r n f found asked
  may_take v r base asked n f found can stripes within is = record {
    rests = can.rests;
    may = can.may;
    base = base;
    is = is;
    stripes = subst (λ m. 0 < m) (sym stripes) can.stripes;
    kinds = λ c e. (of_its_block v r base asked can c e).0 ∙ sym can.is.kind;
    unheld = can.unheld;
    copy = λ d taken. (
        let here = subst (λ m. IsTaken m found (copy_of r.copies.items asked.collection) d) stripes taken in
        let of = taken_in_block can.block base asked.op found (copy_of r.copies.items asked.collection) d can.stripes can.is is
        (of_its_block v r base asked can) here in
        let places : size can.block ≡ location_count d =
        (λ j. size (record { kind = sym of.0 j; stripes = sym of.1 j })) ∙ sized (stripes_of (base_in d)) (shown_of (base_in d)) in (
          can.holds found d is here,
          subst (λ m. 0 < m) (sym of.1) can.stripes,
          omega (arith, within, places),
          held_answers can.block d asked.op can.stripes of.0 can.known (can.holds found d is here),
        ));
  }

  pub may_prepare : (r : TxActor V) (n f i : ℕ) (found : BaseExcerpt V) (asked : CollectionCall V) (cs : Vec (CopyOfCollection V))
      → MayTake r n f found asked
      → IsTakenAt n asked.collection found i r.copies.items cs.items → MayPrepare (record r { copies = cs }) i f asked.op
  may_prepare r n f i found asked cs may t =
      let there = taken_there n asked.collection i found r.copies.items cs.items t in
      let copy = may.copy t.copy t.taken in
      let same : (c : CopyOfCollection V) → slice_get cs.items i ≡ Some c → copy_with asked.collection t.copy ≡ c =
      λ c at. same_Some (copy_with asked.collection t.copy) c (sym there.1 ∙ at) in
      record {
        there = there.0;
        rests = may.rests;
        may = may.may;
        stripes = λ c at. subst (λ (z : CopyOfCollection V). 0 < stripes_of (base_in z.copied)) (same c at) copy.1;
        range = λ c at. subst (λ (z : CopyOfCollection V). f + location_count z.copied ≤ 2 ^ 32) (same c at) copy.2;
        known = λ c at. subst (λ (z : CopyOfCollection V). IsSome (answer_of z.copied asked.op)) (same c at) copy.3;
        held = λ c at. subst (λ (z : CopyOfCollection V). holds_call z.copied asked.op ≡ true) (same c at) copy.0;
      }

  -- ---- it is taken back
  pub moved_back : (r u : TxActor V) (n f i : ℕ) (found : BaseExcerpt V) (asked : CollectionCall V) (cs es : Vec (CopyOfCollection V))
      → MayTake r n f found asked
      → IsTakenAt n asked.collection found i r.copies.items cs.items → IsAlike (record r { copies = cs }) u
      → TakesBack (length r.copies.items) i asked.op u.copies.items es.items → IsUnmoved r (record u { copies = es })
  moved_back r u n f i found asked cs es may taken alike back = record {
    words = alike.words;
    place = alike.place;
    rv = alike.rv;
    wv = alike.wv;
    cause = alike.cause;
    calls = alike.calls;
    pieces = taken_goes_back n asked.collection i asked.op may.base found r.copies.items cs.items u.copies.items es.items may.is may.kinds
        may.unheld taken alike.copies back;
  }

  -- ---- it starves
  unmoved_seat : (r u : TxActor V) (s : worlds.Stage V) → IsUnmoved r u → at_stage (seat_of u) s ≡ at_stage (seat_of r) s
  unmoved_seat r u s h = λ i. record {
    stage = s;
    rv = h.rv i;
    wv = h.wv i;
    cause = h.cause i;
    calls = h.calls i;
    copied = λ k q. h.pieces k q i;
  }

  pub starves_as : (r u n : TxActor V) (asked : CollectionCall V) → IsUnmoved r u
      → ((a : ℕ) (w : World V) → actor_of w a ≡ words.actor_of u.words
      → Runs a n (gives_up w a (because (seat_of u) refusal.Memory) (asked.collection ∷ [])).0)
      → Starves (at r (stage.Copying asked)) n told.Quiet
  starves_as r u n asked h does a w s =
      let s0 = worlds.Copying (asked_of asked) in
      let e : gives_up w a (because (at_stage (seat_of u) s0) refusal.Memory) (asked.collection ∷ [])
      ≡ gives_up w a (because (at_stage (seat_of r) s0) refusal.Memory) (asked.collection ∷ []) =
      ap (λ (x : Seat V). gives_up w a (because x refusal.Memory) (asked.collection ∷ [])) (unmoved_seat r u s0 h) in
      (subst (λ (p : After V). Runs a n p.0) e (does a w (s.1 ∙ sym h.words)), refl)

  -- ---- what the world makes of it
  pub sized_back : (w : World V) (a : ℕ) (call : contents.CollectionCall V) → let t = put_back a w call in
      let own = outcome_at t a call in
      let es = with_editions w.boosted.editions ((content w.words w.blocks).reads own) in
      sized_by t a call own ≡ cond (is_stale (actor_of w a).reads es) (outcome_now t call) own
  sized_back w a call =
      let t = put_back a w call in
      let own = outcome_at t a call in
      let c = content w.words w.blocks in
      let words : actor_of t a ≡ actor_of w a = (copies_for_call a (w.seats a) (actor_of w a) w call (refl, refl)).0.1 in
      let same : t.boosted.editions ≡ w.boosted.editions = editions_stay w.boosted _ _ _ in
      λ j. cond (is_stale (words j).reads (with_editions (same j) (c.reads own))) (outcome_now t call) own

  -- its locations don't fit the sets
  pub too_long_as : (v : BlocksView) (r u : TxActor V) (base : Base V) (asked : CollectionCall V) (o : Outcome V) → u ≡ r
      → outcome_of asked.op (shown_of base) ≡ Some o
      → fits_base r.words base (first_of v.words v.blocks asked.collection) o ≡ false
      → StepsOn v (at r (stage.Copying asked)) (record u { stage = stage.Open }) (told.Refused refusal.TooLong) base asked
  too_long_as v r u base asked o same answer unfit a w laid s may =
      let call = asked_of asked in
      let t = put_back a w call in
      let x = seat_of (at r (stage.Copying asked)) in
      let y = actor_of w a in
      let c = content w.words w.blocks in
      let z : After V = (seated t a (at_stage x worlds.Open), Refused a refusal.TooLong) in
      let does = copies_for_call a x y w call (s.0, refl) in
      let same_room : has_room y (shifted (first_of w.words w.blocks asked.collection) (base_reads base o))
      (shifted (first_of w.words w.blocks asked.collection) (base_writes base o))
      ≡ fits_base r.words base (first_of v.words v.blocks asked.collection) o =
      λ j. has_room (s.1 j) (shifted (first_of (laid.0 j) (laid.1 j) asked.collection) (base_reads base o))
      (shifted (first_of (laid.0 j) (laid.1 j) asked.collection) (base_writes base o)) in
      let room = (λ j. has_room y (c.reads (sym (sized_back w a call) j)) (c.writes (sym (sized_back w a call) j)))
      ∙ (may.sizes o answer ∙ (same_room ∙ unfit)) in
      let n : TxActor V = record r { stage = stage.Open } in
      let e : step_at w a x (worlds.Copying call) ≡ z = does.1 ∙ cond-false _ _ z room in
      let runs : Runs a n z.0 = (put-same t.seats a _, does.0.1 ∙ s.1, tt) in
      by_result (record u { stage = stage.Open }) (told.Refused refusal.TooLong) a (step_at w a x (worlds.Copying call)) z e
      (subst (λ (q : TxActor V). Runs a (record q { stage = stage.Open }) z.0) (sym same) runs, refl)

  -- ---- it continues
  module _ (v : BlocksView) (w : World V) (a : ℕ) (r u : TxActor V) (base : Base V) (asked : CollectionCall V) (b : Block)
      (found : BaseExcerpt V) (i : ℕ)
      (x : Prepared V) (laid : IsLaid v w) (can : CanCopy v r base asked)
      (s : Runs a (at r (stage.Copying asked)) w) (may : MayCopy v w a (at r (stage.Copying asked)) base asked)
      (there : block_of v.blocks asked.collection ≡ Some b) (is : IsFound base asked.op found)
      (ready : IsReadyAt r u b.stripes (first_of v.words v.blocks asked.collection) found asked i x) where
    abbrev k : ℕ
    k = asked.collection

    abbrev call : contents.CollectionCall V
    call = asked_of asked

    abbrev t : World V
    t = put_back a w call

    abbrev f : ℕ
    f = first_of w.words w.blocks k

    abbrev d : PrivateCopy V
    d = ready.at.copy

    abbrev o : Outcome V
    o = ready.ready.outcome

    abbrev p : Prepared V
    p = prepared_of x asked i

    abbrev own : contents.CallWithOutcome V
    own = outcome_at t a call

    abbrev es : Entries
    es = with_editions w.boosted.editions ((content w.words w.blocks).reads own)

    pub copied : IsCopyFor w a b call d
    copied = may.copy b found d there is ready.at.taken

    first_same : first_of v.words v.blocks k ≡ f
    first_same = λ j. first_of (sym laid.0 j) (sym laid.1 j) k

    -- the word actor is the same in all
    pub back_words : actor_of t a ≡ actor_of w a
    back_words = (copies_for_call a (w.seats a) (actor_of w a) w call (refl, refl)).0.1

    pub now_words : actor_of w a ≡ words.actor_of u.words
    now_words = s.1 ∙ sym ready.alike.words

    -- what is left is judged by the editions of the base
    pub left_same : p.left.items ≡ es
    left_same =
        ready.ready.left ∙ ((λ j. with_known d (first_same j) (reads_in d o)) ∙ sym (copied.editions o ready.ready.answer))

    reads_same : u.words.reads.entries ≡ (actor_of w a).reads
    reads_same = ap (λ (q : machine.Actor). q.reads) (sym now_words)

    judged_same : judged u.words.reads.entries p.left.items ≡ judged (actor_of w a).reads es
    judged_same = λ j. judged (reads_same j) (left_same j)

    -- its locations fit the sets
    abbrev sized_outcome : contents.CallWithOutcome V
    sized_outcome = sized_by t a call own

    room_sized : let c = content w.words w.blocks in has_room (actor_of w a) (c.reads sized_outcome) (c.writes sized_outcome) ≡ true
    room_sized =
        copied.room o ready.ready.answer
        ∙ ((λ j. has_room (s.1 j) (shifted (sym first_same j) (reads_in d o)) (shifted (sym first_same j) (writes_in d o)))
        ∙ ready.ready.fits)

    own_room : (j : Judged) → judged (actor_of w a).reads es ≡ j → GoesOn j
        → let c = content w.words w.blocks in has_room (actor_of w a) (c.reads own) (c.writes own) ≡ true
    own_room j e on =
        let c = content w.words w.blocks in
        let not_stale : is_stale (actor_of w a).reads es ≡ false = fresh (actor_of w a).reads es (subst GoesOn (sym e) on) in
        let same : sized_outcome ≡ own =
        sized_back w a call ∙ ap (λ q. cond q (outcome_now t call) own) not_stale in
        ap (λ q. has_room (actor_of w a) (c.reads q) (c.writes q)) (sym same) ∙ room_sized

    -- the call on the copy
    on_copy : IsCallOn f d p.call o
    on_copy = record {
      outcome = ready.ready.is;
      holds = copied.holds;
      answer = ready.ready.answer;
      writes = ready.ready.writes ∙ (λ j. with_next d (first_same j) (writes_in d o));
    }

    -- all is read with the editions of the base: what was copied is its own
    accepts : judged u.words.reads.entries p.left.items ≡ All → MayAccept t a p.call × (own.outcome ≡ p.call.outcome)
    accepts all =
        let here : judged (actor_of w a).reads es ≡ All = sym judged_same ∙ all in
        let then : judged (actor_of t a).reads es ≡ All = ap (λ (q : machine.Actor). judged q.reads es) back_words ∙ here in
        let g = may.goes_on.accepts (own_room All here tt) then in
        elim copied.own [
          | inl mine ↦ (
              let accept = may_accept t a b f d p.call o mine on_copy g.0 in
              (accept, ap (λ (q : contents.CallWithOutcome V). q.outcome) accept.outcome))
          | inr doomed ↦ absurd (never (actor_of t a).calls (actor_of t a).calls es (λ l e h. h)
              (subst (IsDoomed (actor_of t a).calls) (sym (copied.editions o ready.ready.answer)) (doomed o ready.ready.answer)) g.1)
        ]

    pub accepts_all : judged u.words.reads.entries p.left.items ≡ All → AreRead (actor_of t a).calls p.left.items
        × (own ≡ answered_of p.call)
    accepts_all all =
        let here : judged (actor_of w a).reads es ≡ All = sym judged_same ∙ all in
        let then : judged (actor_of t a).reads es ≡ All = ap (λ (q : machine.Actor). judged q.reads es) back_words ∙ here in (
          subst (AreRead (actor_of t a).calls) (sym left_same) (may.goes_on.accepts (own_room All here tt) then).1,
          (accepts all).0.outcome,
        )

    answers : MayAnswer t a u.words own.outcome p.call p.left.items
    answers = record {
      accepts = accepts;
      reads = λ l next.
          let here : judged (actor_of w a).reads es ≡ Next l = sym judged_same ∙ next in
          let then : judged (actor_of t a).reads es ≡ Next l = ap (λ (q : machine.Actor). judged q.reads es) back_words ∙ here in (
            sym (ap (λ (q : machine.Actor). q.place) now_words) ∙ may.goes_on.rests,
            sym (ap (λ (q : machine.Actor). lookup q.writes l) (back_words ∙ now_words))
                ∙ may.goes_on.reads l (own_room (Next l) here tt) then,
            not_read u.words.reads.entries p.left.items l next,
          );
    }

    -- its seat has the piece besides
    piece_same : piece_at w.blocks call ≡ piece_of b.kind asked.op
    piece_same = ap (λ (q : Option Block). piece_in q asked.op) ((λ j. block_of (laid.1 j) k) ∙ there)

    its_block : can.block ≡ b
    its_block = same_Some can.block b (sym can.there ∙ there)

    pieces : (j : ℕ) (q : Piece) → has_piece (copy_of u.copies.items j) q
        ≡ cond ((j == k) && is_piece (piece_at w.blocks call) q) true (has_piece (copy_of r.copies.items j) q)
    pieces j q =
        kept_same ready.copies.items u.copies.items ready.alike.copies j q
        ∙ (taken_pieces b base asked.op found k i r.copies.items ready.copies.items (subst (λ z. IsBaseOf z base) its_block can.is) is
        (λ c e. (of_its_block v r base asked can c e).0 ∙ ap (λ (z : Block). z.kind) its_block) can.unheld ready.at copied.holds j q
        ∙ ap (λ z. cond ((j == k) && is_piece z q) true (has_piece (copy_of r.copies.items j) q)) (sym piece_same))

    abbrev seat : Seat V
    seat = with_piece (seat_of (at r (stage.Copying asked))) k (piece_at w.blocks call)

    seat_same : at_stage (seat_of u) (worlds.Copying call) ≡ seat
    seat_same = λ j. record {
      stage = worlds.Copying call;
      rv = ready.alike.rv j;
      wv = ready.alike.wv j;
      cause = ready.alike.cause j;
      calls = ready.alike.calls j;
      copied = λ l q. pieces l q j;
    }

    -- the step of its seat
    steps_to : let y = actor_of w a in
        step_at w a (seat_of (at r (stage.Copying asked))) (worlds.Copying call)
        ≡ comes_to t a (seat_of u) (with_outcome p.call own.outcome) (left_after u.words.reads.entries p.left.items)
        (judged u.words.reads.entries p.left.items)
    steps_to =
        let y = actor_of w a in
        let c = content w.words w.blocks in
        let x = seat_of (at r (stage.Copying asked)) in
        let does = copies_for_call a x y w call (s.0, refl) in
        let room = (λ j. has_room y (c.reads (sym (sized_back w a call) j)) (c.writes (sym (sized_back w a call) j))) ∙ room_sized in
        does.1
        ∙ (cond-true _ (comes_to t a seat own (left_after y.reads es) (judged y.reads es)) _ room
        ∙ ((λ j. comes_to t a (sym seat_same j) own (left_after (sym reads_same j) (sym left_same j))
        (judged (sym reads_same j) (sym left_same j)))
        ∙ comes_at t a (seat_of u) (worlds.Copying call) own (left_after u.words.reads.entries p.left.items)
        (judged u.words.reads.entries p.left.items)))

    goes_on_in : (n : TxActor V) (h : ActorNotice V) → load.GoesOn u n h p.call p.left.items
        → let z = step_at w a (seat_of (at r (stage.Copying asked))) (worlds.Copying call) in Runs a n z.0 × (notice_of a h ≡ z.1)
    goes_on_in n h does =
        by_result n h a _ _ steps_to (does a t own.outcome (back_words ∙ now_words) answers)

  pub goes_on_as : (v : BlocksView) (r u n : TxActor V) (h : ActorNotice V) (base : Base V) (asked : CollectionCall V) (i : ℕ)
      (x : Prepared V)
      → CanCopy v r base asked → AreReadyAt v r u base asked (Some (i, x))
      → load.GoesOn u n h (prepared_of x asked i).call (prepared_of x asked i).left.items
      → StepsOn v (at r (stage.Copying asked)) n h base asked
  goes_on_as v r u n h base asked i x can ready does a w laid s may =
      goes_on_in v w a r u base asked ready.0 ready.1 i x laid can s may ready.2 ready.3 ready.4 n h does

  -- ---- the bounds and the room
  either_block : (v : BlocksView) (k j : ℕ) (b : Bool) (c d : PrivateCopy V) (o : Option (PrivateCopy V)) → (b ≡ true → j ≡ k)
      → cond b (Some d) o ≡ Some c → IsOfBlock v k d → (o ≡ Some c → IsOfBlock v j c) → IsOfBlock v j c
  either_block v k j true c d o same e here rest =
      subst (λ (l : ℕ). IsOfBlock v l c) (sym (same refl)) (subst (IsOfBlock v k) (same_Some d c e) here)
  either_block v k j false c d o same e here rest = rest e

  taken_blocks : (v : BlocksView) (r : TxActor V) (base : Base V) (asked : CollectionCall V) (can : CanCopy v r base asked) (i : ℕ)
      (found : BaseExcerpt V)
      (cs : List (CopyOfCollection V)) → IsFound base asked.op found
      → IsTakenAt can.block.stripes asked.collection found i r.copies.items cs → AreOfBlocks v cs
  taken_blocks v r base asked can i found cs is t j c e =
      let k = asked.collection in
      let of = taken_in_block can.block base asked.op found (copy_of r.copies.items k) t.copy can.stripes can.is is
      (of_its_block v r base asked can) t.taken in
      either_block v k j (j == k) c t.copy (copy_of r.copies.items j) (eqb-true j k)
      (sym (taken_copies can.block.stripes k i found r.copies.items cs t j) ∙ e)
      (record { block = can.block; there = can.there; kind = of.0; stripes = of.1; some = can.stripes })
      (can.blocks j c)

  held_there : (n i : ℕ) (r : TxActor V) (asked : CollectionCall V) (found : BaseExcerpt V) (cs : List (CopyOfCollection V))
      (t : IsTakenAt n asked.collection found i r.copies.items cs) → holds_call t.copy asked.op ≡ true
      → IsHeldAt cs i asked.collection asked.op
  held_there n i r asked found cs t holds =
      let k = asked.collection in
      let there = taken_there n k i found r.copies.items cs t in
      record {
        there = there.0;
        copy = copy_with k t.copy;
        at = there.1;
        of = taken_copies n k i found r.copies.items cs t k ∙ cond-true (k == k) (Some t.copy) (copy_of r.copies.items k) (eq-eqb k k refl);
        collection = refl;
        holds = holds;
      }

  pub keeps_going : (v : BlocksView) (r u n : TxActor V) (base : Base V) (asked : CollectionCall V) (i : ℕ) (x : Prepared V)
      → CanCopy v r base asked
      → AreReadyAt v r u base asked (Some (i, x)) → HasNoReads r.words
      → (let p = prepared_of x asked i in CanGoOn v u p.call p.left.items → KeepsIn v (at u stage.Idle) n)
      → KeepsIn v (at r (stage.Copying asked)) n
  unfolding held_there
  keeps_going v r u n base asked i x can ready noreads keeps =
      let b = ready.0 in
      let found = ready.1 in
      let is = ready.3 in
      let at_x = ready.4 in
      let k = asked.collection in
      let f = first_of v.words v.blocks k in
      let cs = at_x.copies in
      let q : TxActor V = record r { copies = cs } in
      let same : b ≡ can.block = same_Some b can.block (sym ready.2 ∙ can.there) in
      let t : IsTakenAt can.block.stripes k found i r.copies.items cs.items =
      subst (λ (z : Block). IsTakenAt z.stripes k found i r.copies.items cs.items) same at_x.at in
      let holds = can.holds found at_x.at.copy is
      (subst (λ (z : Block). IsTaken z.stripes found (copy_of r.copies.items k) at_x.at.copy) same at_x.at.taken) in
      let h = held_there b.stripes i r asked found cs.items at_x.at holds in
      keeps_through v (at r (stage.Copying asked)) u n (alike_keeps (end_of v.words v.blocks) q u can.rests at_x.alike)
      (keeps (can_go_on v q u i f k asked.op h (prepared_of x asked i)
      (taken_blocks v r base asked can i found cs.items is t) noreads refl can.among
      at_x.alike at_x.ready))

  pub keeps_open : (v : BlocksView) (r u : TxActor V) (asked : CollectionCall V) → r.words.place ≡ place.Open → u ≡ r
      → KeepsIn v (at r (stage.Copying asked)) (record u { stage = stage.Open })
  keeps_open v r u asked rests same =
      subst (λ (z : TxActor V). KeepsIn v (at r (stage.Copying asked)) (record z { stage = stage.Open })) (sym same)
      (keeps_asked v (at r (stage.Copying asked)) (record r { stage = stage.Open })
      (same_keeps (end_of v.words v.blocks) r.words r.words rests refl refl) (λ i. tt) (λ i. tt) refl)

  pub keeps_starving : (v : BlocksView) (r u n : TxActor V) (asked : CollectionCall V) → r.words.place ≡ place.Open → IsUnmoved r u
      → KeepsIn v (at u (stage.ReturningOne asked.collection)) n → KeepsIn v (at r (stage.Copying asked)) n
  keeps_starving v r u n asked rests h next =
      let k = same_keeps (end_of v.words v.blocks) r.words u.words rests h.words h.place in record {
        running = λ i. next.running (record { fits = k.fits i.fits; room = tt; names = i.names; call = tt });
        owed = (let e = next.owed in let f = k.owed in omega (arith, e, f));
      }

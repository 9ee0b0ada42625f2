-- A call is asked, and driven where nothing is answered at once.
--
-- What the ask answers in the world with the actor alone says where the transaction stands (`asks_move`); that it is not aborted there is a
-- law on worlds that events have reached, and the world with the actor alone is one of these to it. The result of the turns is the law on
-- courses (`Driven.comes`).
use Rattle.std.proofs.Common.{◌≡◌, ◌≢◌, ◌⊎◌, ℕ, true, false, List, Option, None, Result}
use Rattle.std.proofs.Common.{Ok, Err, IfErr, inl, inr, refl, sym, ap, ◌∙◌, subst}
use Rattle.std.proofs.Common.{[], ◌∷◌, ◌++◌, Some}
use Rattle.seq_model.specs.declared.call.Call.{Call}
use Rattle.seq_model.specs.declared.call.Reply.{Reply}
use Rattle.seq_model.specs.declared.event.Answer.TheVariants as answer
use Rattle.seq_model.specs.declared.event.Event.TheVariants.{Ask}
use Rattle.seq_model.specs.declared.event.Notice.{Notice}
use Rattle.seq_model.specs.declared.event.Notice.TheVariants.{Answered, Refused}
use Rattle.seq_model.specs.declared.event.Request.{Request}
use Rattle.seq_model.specs.declared.event.Request.TheVariants as request
use Rattle.seq_model.specs.declared.record.Record.{Record}
use Rattle.seq_model.specs.declared.refusal.Refusal.{Refusal}
use Rattle.seq_model.specs.declared.refusal.Refusal.TheVariants.{Memory as OutOfMemory}
use Rattle.replay_log.proofs.AskLemmas.{only_abort}
use Rattle.replay_log.proofs.EventLemmas.{opened_linked, run_linked}
use Rattle.replay_log.specs.Seats as worlds
use Rattle.replay_log.specs.Seats.{World, Seat, Stage}
use Rattle.replay_log.specs.Worlds.{happens, run}
use Rattle.replay_log.specs.WorldAnswers.{IsAdmitted}
use Rattle.replay_log.specs.WorldRefusals.{is_ending}
use Rattle.actor_laws.proofs.OwnEvents.{own_event}
use Rattle.tx_actor.specs.Running.{notice_of}
use Rattle.tx_actor.specs.declared.actor.ActorNotice.{ActorNotice}
use Rattle.tx_actor.specs.declared.actor.ActorNotice.TheVariants as told
use Rattle.tx_actor.specs.declared.actor.TxActor.{TxActor}
use Rattle.shared_table.specs.Opening.{blocks_at}
use Rattle.shared_table.specs.declared.seat.Seat as table
use Rattle.shared_table.specs.declared.table.TxTable.{TxTable}
use Rattle.shared_table.specs.Seated.{acts, opening_of, out}
use Rattle.shared_table.specs.Seated as seated
use Rattle.actor_laws.proofs.CourseLemmas.{ends_at}
use Rattle.actor_laws.proofs.KnownStageLemmas.{asks_move}
use Rattle.actor_laws.specs.Courses.{ComesTo, EndsFrom, IsUnderWay, IsUnderWayFrom}
use Rattle.actor_laws.specs.KnownStages.{AskMoves, CallMoves, KnownStage, Rests, Begins, Stands}
use Rattle.actor_laws.specs.KnownStages.{Calls, Ends, IsMistaken, known_stage, known_stage_at}
use Rattle.tx_turns.proofs.EndedLemmas.{IsGoing}
use Rattle.tx_turns.proofs.SnapshotLemmas.{Keeps, asks_keep}
use Rattle.tx_engine.proofs.KindLemmas.{call_given_up, call_mistaken, call_without_memory}
use Rattle.tx_engine.proofs.RequestLemmas.{asked_aborted, asked_keeps, asked_reader, ended_back, found_told, noted_for, then_keeps}
use Rattle.tx_engine.proofs.RequestLemmas.{told_back, turns_keep}
use Rattle.tx_turns.specs.Driven.{Driven, IsCallCause, IsReason, IsTrue, is_declared, seat_in, standing}
use Rattle.tx_engine.specs.Requests.{CallLeaves, CallsTo, HasAborted, IsCallRefusal, IsCallTold, IsDriven, IsOpen, KeepsReceipts}
use Rattle.tx_engine.specs.Requests.{IsAbortedFor, IsLastAborted}
use Rattle.tx_engine.specs.Requests.{told_of}
use Rattle.tx_turns.proofs.LoneRequestLemmas.{acts_taken}
use Rattle.tx_turns.specs.RequestStep.{Answers, HasAsked}
use Rattle.tx_turns.specs.Ties.{Ties}

module _ {V : Type 0} where
  -- an open transaction
  pub stands_at : (cs calls : List (Call V × Reply V)) (st : Stage V) → known_stage_at cs st ≡ Stands calls → st ≡ worlds.Open
  stands_at cs calls worlds.Open h = refl
  stands_at cs calls st h = absurd (let z : ⊥ = cc in z)

  stands_going : (cs calls : List (Call V × Reply V)) (st : Stage V) → known_stage_at cs st ≡ Stands calls → is_ending st ≡ false
  stands_going cs calls st h = ap is_ending (stands_at cs calls st h)

  stands_busy : (p : KnownStage V) (calls : List (Call V × Reply V)) → p ≡ Stands calls → p ≡ Rests → ⊥
  stands_busy p calls e h = (let k : Stands calls ≡ Rests = sym e ∙ h in cc)

  -- ---- a call that is driven
  pub under_call : (x : Seat V) (calls : List (Call V × Reply V)) (call : Call V) → known_stage x ≡ Calls calls call → IsUnderWay x x None
  under_call x calls call at = subst (λ (p : KnownStage V). IsUnderWayFrom x p x None) (sym at) (inl at, refl)

  told_some : (r : Result (Reply V) Refusal) → told_of r ≢ told.Quiet
  told_some (Ok r) e = cc
  told_some (Err cause) e = cc

  module _ (o : World V) (m u : table.Seat V) (calls : List (Call V × Reply V)) (call : Call V) (at : standing o m ≡ Calls calls call) where
    abbrev b : ℕ
    b = seated.actor m

    -- as in the course
    call_ends : (n : ActorNotice V) (d : Option (Record V)) → n ≢ told.Quiet → ComesTo b (seat_in o m) (notice_of b n) (seat_in o u) d
        → EndsFrom b (seat_in o m) (Calls calls call) (notice_of b n) (seat_in o u) d
    call_ends told.Quiet d ne h = absurd (ne refl)
    call_ends (told.Answered p) d ne h = subst (λ (k : KnownStage V). EndsFrom b (seat_in o m) k (Answered b p) (seat_in o u) d) at h
    call_ends (told.Refused cause) d ne h = subst (λ (k : KnownStage V). EndsFrom b (seat_in o m) k (Refused b cause) (seat_in o u) d) at h

    made_none : (n : ActorNotice V) (d : Option (Record V)) → EndsFrom b (seat_in o m) (Calls calls call) (notice_of b n) (seat_in o u) d
        → (d ≡ None) × IsCallTold n
    made_none told.Quiet d h = absurd h
    made_none (told.Answered (answer.Replied r)) d h = (h.1, tt)
    made_none (told.Answered p) d h = absurd h
    made_none (told.Refused cause) d h = (h.1, tt)

    pub call_said : (n : ActorNotice V) (d : Option (Record V)) → n ≢ told.Quiet → Driven o m u n d → IsCallTold n
    call_said n d ne D = (made_none n d (call_ends n d ne D.comes)).1

    call_keeps : (n : ActorNotice V) (d : Option (Record V)) → n ≢ told.Quiet → out u ≡ out m → Driven o m u n d → KeepsReceipts m u
    call_keeps n d ne outs D = turns_keep o m u n d (made_none n d (call_ends n d ne D.comes)).0 outs D

    call_kinds : (r : Result (Reply V) Refusal) (d : Option (Record V)) → Driven o m u (told_of r) d → IfErr r (IsCallRefusal call.op)
    call_kinds (Ok r) d D = tt
    call_kinds (Err cause) d D = by_truth (subst (λ (k : KnownStage V). IsTrue o m u k (told.Refused cause)) at D.is_true)
      where
        by_truth : (IsReason o m u cause × IsCallCause call.op cause) ⊎ ((standing o u ≡ Stands calls) × IsMistaken cause)
            → IsCallRefusal call.op cause
        by_truth (inl reason) = call_given_up call.op cause reason.1
        by_truth (inr stays) = call_mistaken call.op cause stays.1

    call_left : (r : Result (Reply V) Refusal) (d : Option (Record V)) → Driven o m u (told_of r) d → CallLeaves o m calls call u r
    call_left (Ok r) d D = (call_ends (told.Answered (answer.Replied r)) d (told_some (Ok r)) D.comes).0
    call_left (Err cause) d D =
        by_truth (call_ends (told.Refused cause) d (told_some (Err cause)) D.comes).0
        (subst (λ (k : KnownStage V). IsTrue o m u k (told.Refused cause)) at D.is_true)
      where
        by_truth : ((standing o u ≡ Stands calls) × IsMistaken cause) ⊎ (standing o u ≡ Rests)
            → (IsReason o m u cause × IsCallCause call.op cause) ⊎ ((standing o u ≡ Stands calls) × IsMistaken cause)
            → CallLeaves o m calls call u (Err cause)
        by_truth (inl stays) truth = inl stays
        by_truth (inr rests) (inl reason) = inr (rests, found_told o m u cause reason.0 (D.tells (told_some (Err cause))))
        by_truth (inr rests) (inr stays) = inl stays

  leaves_back : (o : World V) (s m u : table.Seat V) (calls : List (Call V × Reply V)) (call : Call V) (r : Result (Reply V) Refusal)
      → KeepsReceipts s m → CallLeaves o m calls call u r → CallLeaves o s calls call u r
  leaves_back o s m u calls call (Ok r) kept h = h
  leaves_back o s m u calls call (Err cause) kept (inl stays) = inl stays
  leaves_back o s m u calls call (Err cause) kept (inr ended) = inr (ended_back o s m u cause kept ended)

  -- ---- what a call is answered as it is asked
  module _ (t : TxTable V) (s m : table.Seat V) (call : Call V) (opened : IsOpen (opening_of t) s)
      (has : HasAsked s (request.Call call) m) where
    abbrev o : World V
    o = opening_of t

    abbrev a : ℕ
    a = seated.actor s

    abbrev q : Request V
    q = request.Call call

    at_open : (seat_in o s).stage ≡ worlds.Open
    at_open = stands_at (seat_in o s).calls opened.0 (seat_in o s).stage opened.1

    seat_is : seat_in o m ≡ (happens (acts o s) (Ask a q)).0.seats a
    seat_is i = (acts_taken o s m (Ask 0 q) has i).seats (has.0.1 i)

    moves : (calls : List (Call V × Reply V)) → standing o s ≡ Stands calls → (n : ActorNotice V) → Answers o s q n
        → CallMoves calls call (notice_of a n) (standing o m)
    moves calls on n is =
        subst (λ (k : KnownStage V × Notice V × KnownStage V). AskMoves k.0 q k.1 k.2) (λ i. (on i, sym is i, known_stage (sym seat_is i)))
        (asks_move (acts o s) a q)

    -- what is answered at once is a reply or a refusal
    pub call_told : (calls : List (Call V × Reply V)) → standing o s ≡ Stands calls → (n : ActorNotice V) → n ≢ told.Quiet → Answers o s q n
        → IsCallTold n
    call_told calls on told.Quiet ne is = absurd (ne refl)
    call_told calls on (told.Answered (answer.Replied r)) ne is = tt
    call_told calls on (told.Answered p) ne is = absurd (moves calls on (told.Answered p) is)
    call_told calls on (told.Refused cause) ne is = tt

    leaves_now : (calls : List (Call V × Reply V)) → standing o s ≡ Stands calls → (r : Result (Reply V) Refusal)
        → Answers o s q (told_of r)
        → CallLeaves o s calls call m r
    leaves_now calls on (Ok reply) is = moves calls on (told.Answered (answer.Replied reply)) is
    leaves_now calls on (Err cause) is = inl (moves calls on (told.Refused cause) is)

    kinds_now : (r : Result (Reply V) Refusal) → Answers o s q (told_of r) → IfErr r (IsCallRefusal call.op)
    kinds_now (Ok reply) is = tt
    kinds_now (Err cause) is = call_mistaken call.op cause (moves opened.0 opened.1 (told.Refused cause) is).1

    began_asked : (standing o m ≡ Rests → ⊥) → (seat_in o m).rv ≡ (seat_in o s).rv
    began_asked busy = kept (asks_keep (acts o s) a q at_open)
      where
        kept : Keeps (seat_in o s) ((happens (acts o s) (Ask a q)).0.seats a) → (seat_in o m).rv ≡ (seat_in o s).rv
        kept (inl e) = ap (λ (x : Seat V). x.rv) seat_is ∙ e.0
        kept (inr (inl e)) = ap (λ (x : Seat V). x.rv) seat_is ∙ e.0
        kept (inr (inr e)) = absurd (busy (ap known_stage seat_is ∙ e))

    still_open : (r : Result (Reply V) Refusal) → Answers o s q (told_of r) → standing o m ≡ Rests → ⊥
    still_open (Ok reply) is rests =
        stands_busy (standing o m) (opened.0 ++ (call, reply) ∷ [])
        (moves opened.0 opened.1 (told.Answered (answer.Replied reply)) is) rests
    still_open (Err cause) is rests = stands_busy (standing o m) opened.0 (moves opened.0 opened.1 (told.Refused cause) is).0 rests

    pub at_once : (n : ActorNotice V) (r : Result (Reply V) Refusal) → n ≡ told_of r → Answers o s q n → CallsTo o s call m r
    at_once n r e is = record {
      keeps = asked_keeps s m (has.0, has.1);
      leaves = λ calls on. leaves_now calls on r (subst (λ k. Answers o s q k) e is);
      answered = inl (subst (λ k. Answers o s q k) e is);
      kinds = kinds_now r (subst (λ k. Answers o s q k) e is);
      aborted = λ rests. absurd (still_open r (subst (λ k. Answers o s q k) e is) rests);
      same = λ _. asked_aborted o s m q has;
      began = λ still. began_asked (stands_busy (standing o m) still.0 still.1);
      reader = asked_reader o s m q at_open has;
    }

    -- ---- where nothing is answered
    not_given_up : (r : TxActor V) → Ties t s r → (calls : List (Call V × Reply V)) → standing o s ≡ Stands calls → standing o m ≡ Ends → ⊥
    not_given_up r ties calls on ends =
        let key = t.whole.shared.key in
        let h = ties.reached in
        let w = run o h.events in
        let linked = run_linked h.events o
        (opened_linked (blocks_at key) key.shape.value.clock key.state.value.words key.state.value.held h.stripes) in
        let alike = own_event a w (acts o s) (Ask a q) h.alike refl in
        let going : is_ending (w.seats a).stage ≡ false =
        stands_going (w.seats a).calls calls (w.seats a).stage (ap known_stage h.alike.seat ∙ on) in
        let over = ends_at ((happens w (Ask a q)).0.seats a) (ap known_stage (alike.0.seat ∙ sym seat_is) ∙ ends) in
        let e : q ≡ request.Abort = only_abort w a q linked going over in
        let z : ⊥ = cc in z

    pub calls_on : (r : TxActor V) → Ties t s r → (calls : List (Call V × Reply V)) → standing o s ≡ Stands calls → Answers o s q told.Quiet
        → standing o m ≡ Calls calls call
    calls_on r ties calls on is = elim (moves calls on told.Quiet is) [ inl h ↦ h | inr h ↦ absurd (not_given_up r ties calls on h) ]

    noted_call : (u : table.Seat V) → standing o m ≡ Calls opened.0 call → (k : Result (Reply V) Refusal) (d : Option (Record V))
        → Driven o m u (told_of k) d → standing o u ≡ Rests → IfErr k (IsAbortedFor o s u)
    noted_call u at (Ok reply) d D rests = tt
    noted_call u at (Err cause) d D rests =
        inl (noted_for o s m u q at_open has (subst IsGoing (sym at) tt) (told.Refused cause) d (Some cause) D refl rests)

    pub driven_calls : (r : TxActor V) (u : table.Seat V) (k : Result (Reply V) Refusal) → Ties t s r → Answers o s q told.Quiet
        → out u ≡ out m → IsDriven o m u (told_of k) → CallsTo o s call u k
    driven_calls r u k ties is outs driven =
        let d = driven.0 in
        let D = driven.1 in
        let kept = asked_keeps s m (has.0, has.1) in
        let at = calls_on r ties opened.0 opened.1 is in
        record {
          keeps = then_keeps s m u kept (call_keeps o m u opened.0 call at (told_of k) d (told_some k) outs D);
          leaves = λ calls on. leaves_back o s m u calls call k kept (call_left o m u calls call (calls_on r ties calls on is) k d D);
          answered = inr (inl (is, told_back o s m u (told_of k) kept (D.tells (told_some k))));
          kinds = call_kinds o m u opened.0 call at k d D;
          aborted = noted_call u at k d D;
          same = λ still. D.aborted.going (stands_busy (standing o u) still.0 still.1) ∙ asked_aborted o s m q has;
          began = λ still. D.began (λ e. (let z : Calls opened.0 call ≡ Begins = sym at ∙ e in cc))
              (stands_busy (standing o u) still.0 still.1)
              ∙ began_asked (λ e. (let z : Calls opened.0 call ≡ Rests = sym at ∙ e in cc));
          reader = λ is. D.reader (asked_reader o s m q at_open has is);
        }

  -- ---- where an allocation failed
  pub call_starved : (o : World V) (s u : table.Seat V) (call : Call V) → KeepsReceipts s u → standing o u ≡ Rests → HasAborted o s u
      → IsLastAborted o s u None → (is_declared o s ≡ true → is_declared o u ≡ true)
      → IsAdmitted (acts o s) (seated.actor s) (request.Call call) → CallsTo o s call u (Err OutOfMemory)
  call_starved o s u call kept rests aborted noted reader admitted = record {
    keeps = kept;
    leaves = λ calls on. inr (rests, inr (refl, inr aborted));
    answered = inr (inr (refl, admitted));
    kinds = call_without_memory call.op;
    aborted = λ _. inr (refl, noted);
    same = λ still. absurd (stands_busy (standing o u) still.0 still.1 rests);
    began = λ still. absurd (stands_busy (standing o u) still.0 still.1 rests);
    reader = reader;
  }

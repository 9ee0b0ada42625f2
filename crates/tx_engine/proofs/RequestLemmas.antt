-- Requests from an idle transaction: where its actor stands, what the request has under way, and its result.
use Rattle.std.proofs.Common.{◌≡◌, ◌≢◌, ℕ, ◌+◌, Bool, true, false, true≢false, List, [], ◌∷◌, ◌++◌, Option, None}
use Rattle.std.proofs.Common.{Result, Ok, Err, IfOk, IfErr, refl}
use Rattle.std.proofs.Common.{cond, inl, inr, sym, ap, ◌∙◌, subst, arith}
use Rattle.std.proofs.lemmas.List.{append-nil, append_assoc}
use Rattle.tx_machine.specs.Actor as machine
use Rattle.tx_machine.specs.Actor.{Actor}
use Rattle.tx_machine.specs.Requests as word
use Rattle.tx_machine.specs.Requests.{ask}
use Rattle.tx_machine.specs.World.{put}
use Rattle.tx_machine.proofs.Sets.{put-same}
use Rattle.seq_model.specs.declared.call.Call.{Call}
use Rattle.seq_model.specs.declared.call.Reply.{Reply}
use Rattle.seq_model.specs.declared.event.Answer.TheVariants as answer
use Rattle.seq_model.specs.declared.event.Event.TheVariants.{Ask}
use Rattle.seq_model.specs.declared.event.Notice.{Notice}
use Rattle.seq_model.specs.declared.event.Notice.TheVariants.{Quiet, Answered, Refused}
use Rattle.seq_model.specs.declared.event.Request.{Request}
use Rattle.seq_model.specs.declared.event.Request.TheVariants.{Abort, Begin, BeginRead}
use Rattle.seq_model.specs.declared.record.Record.{Record}
use Rattle.seq_model.specs.declared.refusal.Refusal.{Refusal}
use Rattle.seq_model.specs.declared.refusal.Refusal.TheVariants.{Memory as OutOfMemory}
use Rattle.replay_log.proofs.SeatLemmas.{StageOk}
use Rattle.replay_log.specs.Seats as worlds
use Rattle.replay_log.specs.Seats.{World, Seat, Stage, Cancelling, Leaving, actor_of, acted, asks, at_stage}
use Rattle.replay_log.specs.Worlds.{ask_at, happens, is_leaving, why}
use Rattle.actor_laws.proofs.OneStep.{one_step}
use Rattle.actor_parts.specs.Dispatch.{is_loading}
use Rattle.tx_actor.proofs.SeatLemmas.{loading_as}
use Rattle.tx_actor.specs.Running.{notice_of, stage_of}
use Rattle.tx_actor.specs.declared.actor.Stage as own
use Rattle.tx_actor.specs.declared.actor.Stage.TheVariants as stage
use Rattle.tx_actor.specs.declared.actor.ActorNotice.{ActorNotice}
use Rattle.tx_actor.specs.declared.actor.ActorNotice.TheVariants as told
use Rattle.tx_actor.specs.declared.actor.TxActor.{TxActor}
use Rattle.shared_table.specs.declared.seat.Seat as table
use Rattle.shared_table.specs.declared.table.TxTable.{TxTable}
use Rattle.shared_table.specs.Seated.{acts, opening_of, out, view}
use Rattle.shared_table.specs.Seated as seated
use Rattle.shared_table.specs.declared.view.Turn.{Turn}
use Rattle.actor_laws.proofs.KnownStageLemmas.{asks_move}
use Rattle.actor_laws.specs.Courses.{EndsFrom, IsUnderWay, IsUnderWayFrom}
use Rattle.actor_laws.specs.KnownStages.{AskMoves, KnownStage, Rests, Begins, Stands, Calls, Ends, known_stage, known_stage_at}
use Rattle.tx_turns.specs.Bases.{gates_at}
use Rattle.tx_turns.specs.Own.{HasOwn}
use Rattle.tx_turns.proofs.DeclaredLemmas.{reader_asks}
use Rattle.tx_turns.proofs.RequestHistoryLemmas.{more_begins, taken_requests}
use Rattle.tx_turns.proofs.EndedLemmas.{IsGoing}
use Rattle.tx_turns.proofs.GivenUpLemmas.{none_ends}
use Rattle.tx_turns.proofs.SnapshotLemmas.{Keeps, Same, asks_keep}
use Rattle.tx_turns.proofs.RestLemmas.{IsFree, bare_out, free_own, taken_bare}
use Rattle.tx_turns.proofs.SinceLemmas as since
use Rattle.tx_turns.specs.Begins.{begins_in, begins_of}
use Rattle.tx_turns.specs.Driven.{Driven, HasFound, HasTold, IsReason, IsTrue, as_receipts, is_declared, seat_in, standing}
use Rattle.tx_turns.specs.RequestHistory.{requests_of}
use Rattle.tx_engine.specs.Requests.{BeginsTo, HasAborted, IsBeginTold, IsBegun, IsEnded, IsFoundAndTold, IsNotBegun, KeepsReceipts}
use Rattle.tx_engine.specs.Requests.{IsLastAborted, begin_of}
use Rattle.tx_turns.proofs.OwnLemmas.{own_ok}
use Rattle.tx_turns.proofs.LoneRequestLemmas.{acts_taken}
use Rattle.tx_turns.proofs.TurnLemmas.{own_stage}
use Rattle.tx_turns.specs.RequestStep.{HasAsked}
use Rattle.tx_turns.specs.Ties.{Ties}

module _ {V : Type 0} where
  stands_open : (calls cs : List (Call V × Reply V)) (t : own.Stage V) → known_stage_at calls (stage_of t) ≡ Stands cs → t ≡ stage.Open
  stands_open calls cs stage.Open h = refl
  stands_open calls cs t h = absurd (let z : ⊥ = cc in z)

  rests_idle : (calls : List (Call V × Reply V)) (t : own.Stage V) → known_stage_at calls (stage_of t) ≡ Rests → t ≡ stage.Idle
  rests_idle calls stage.Idle h = refl
  rests_idle calls t h = absurd (let z : ⊥ = cc in z)

  -- no location of a call is read
  is_call : KnownStage V → Bool
  is_call (Calls calls call) = true
  is_call p = false

  no_load : (calls : List (Call V × Reply V)) (st : Stage V) → is_call (known_stage_at calls st) ≡ false → is_loading st ≡ false
  unfolding is_call
  no_load calls (worlds.Loading o left) h = absurd (true≢false h)
  no_load calls st h = refl

  module _ (t : TxTable V) (s : table.Seat V) (r : TxActor V) (ties : Ties t s r) where
    abbrev x : Seat V
    x = seat_in (opening_of t) s

    at : (p : KnownStage V) → is_call p ≡ false → known_stage x ≡ p → known_stage_at x.calls (stage_of r.stage) ≡ p
    at p calm on =
        let quiet : is_loading (stage_of r.stage) ≡ false =
        sym (loading_as (acts (opening_of t) s) (seated.actor s) r ties.runs) ∙ no_load x.calls x.stage (ap is_call on ∙ calm) in
        ap (known_stage_at x.calls) (sym (own_stage t s r quiet ties)) ∙ on

    pub is_open : (calls : List (Call V × Reply V)) → known_stage x ≡ Stands calls → r.stage ≡ stage.Open
    unfolding is_call
    is_open calls on = stands_open x.calls calls r.stage (at (Stands calls) refl on)

    pub is_idle : known_stage x ≡ Rests → r.stage ≡ stage.Idle
    unfolding is_call
    is_idle on = rests_idle x.calls r.stage (at Rests refl on)

    pub begins : r.stage ≡ stage.Beginning → known_stage x ≡ Begins
    begins on =
        let quiet : is_loading (stage_of r.stage) ≡ false = ap (λ (k : own.Stage V). is_loading (stage_of k)) on in
        ap (known_stage_at x.calls) (own_stage t s r quiet ties ∙ ap (λ (k : own.Stage V). stage_of k) on)

    -- it is being aborted: nothing is asked of what it has of collections
    pub ends_free : known_stage x ≡ Ends → IsFree r.stage
    unfolding is_call
    ends_free on = free_at x.calls r.stage (at Ends refl on)
      where
        free_at : (calls : List (Call V × Reply V)) (t : own.Stage V) → known_stage_at calls (stage_of t) ≡ Ends → IsFree t
        free_at calls (stage.Returning homes) h = tt
        free_at calls (stage.ReturningOne k) h = tt
        free_at calls stage.Cancelling h = tt
        free_at calls stage.Leaving h = tt
        free_at calls t h = absurd (let z : ⊥ = cc in z)

  -- the request stands at its beginning
  pub under_begins : (x : Seat V) → known_stage x ≡ Begins → IsUnderWay x x None
  under_begins x on = subst (λ (p : KnownStage V). IsUnderWayFrom x p x None) (sym on) (on, refl)

  -- ---- a begin
  -- it asks whether it is to be a declared reader
  module _ (w : World V) (a : ℕ) (at : (w.seats a).stage ≡ worlds.Idle) (idle : (actor_of w a).place ≡ machine.Idle) where
    abbrev y : Actor
    y = actor_of w a

    asked_word : (q : word.Request) → (put w.boosted.words.actors a (ask y y.place q) a).declared ≡ (ask y machine.Idle q).declared
    asked_word q =
        ap (λ (z : Actor). z.declared)
        (put-same w.boosted.words.actors a (ask y y.place q) ∙ ap (λ (p : machine.Place). ask y p q) idle)

    is_none : (actor_of (happens w (Ask a Begin)).0 a).declared ≡ false
    is_none =
        ap (λ (st : Stage V). (actor_of (ask_at w a (w.seats a) st Begin).0 a).declared) at ∙ asked_word word.AskBegin

    is_one : (actor_of (happens w (Ask a BeginRead)).0 a).declared ≡ true
    is_one =
        ap (λ (st : Stage V). (actor_of (ask_at w a (w.seats a) st BeginRead).0 a).declared) at ∙ asked_word word.AskBeginRead

  module _ (t : TxTable V) (s m : table.Seat V) (r : TxActor V) (ties : Ties t s r) (rests : standing (opening_of t) s ≡ Rests) where
    abbrev w : World V
    w = acts (opening_of t) s

    abbrev a : ℕ
    a = seated.actor s

    at_rest : (w.seats a).stage ≡ worlds.Idle
    at_rest = idle_at (w.seats a).calls (w.seats a).stage rests
      where
        idle_at : (calls : List (Call V × Reply V)) (st : Stage V) → known_stage_at calls st ≡ Rests → st ≡ worlds.Idle
        idle_at calls worlds.Idle h = refl
        idle_at calls st h = absurd (let z : ⊥ = cc in z)

    idles : (actor_of w a).place ≡ machine.Idle
    idles =
        subst (λ (st : Stage V). StageOk w.words w.blocks (w.seats a) (actor_of w a) (w.boosted.shadows a) st (actor_of w a).place) at_rest
        (own_ok t.whole.shared.key a w ties.reached)

    pub asked_begin : HasAsked s Begin m → is_declared (opening_of t) m ≡ false
    asked_begin has =
        (λ i. (actor_of (acts_taken (opening_of t) s m (Ask 0 Begin) has i) (has.0.1 i)).declared) ∙ is_none w a at_rest idles

    pub asked_begin_read : HasAsked s BeginRead m → is_declared (opening_of t) m ≡ true
    asked_begin_read has =
        (λ i. (actor_of (acts_taken (opening_of t) s m (Ask 0 BeginRead) has i) (has.0.1 i)).declared) ∙ is_one w a at_rest idles

  none_begins : (o : World V) (s u : table.Seat V) (n : ActorNotice V) (d : Option (Record V)) → standing o s ≡ Begins → Driven o s u n d
      → n ≢ told.Quiet → (d ≡ None) × BeginsTo (is_declared o s) o s u n
  none_begins o s u told.Quiet d on D ne = absurd (ne refl)
  none_begins o s u (told.Answered (answer.Begun rv)) d on D ne =
      let a = seated.actor s in
      let h = subst (λ (p : KnownStage V). EndsFrom a (seat_in o s) p (Answered a (answer.Begun rv)) (seat_in o u) d) on D.comes in (
        h.2,
        record {
          stands = h.0;
          declares = D.declared on (λ e. absurd (let q = sym h.0 ∙ e in let z : ⊥ = cc in z));
          began = h.1;
          clock = clock_told;
          rises = (let p = D.rises in omega (arith, p, clock_told));
          told = D.tells ne;
        },
      )
    where
      clock_told : rv ≡ (view u).clock
      clock_told = subst (λ (p : KnownStage V). IsTrue o s u p (told.Answered (answer.Begun rv))) on D.is_true
  none_begins o s u (told.Answered q) d on D ne =
      let a = seated.actor s in
      absurd (subst (λ (p : KnownStage V). EndsFrom a (seat_in o s) p (Answered a q) (seat_in o u) d) on D.comes)
  none_begins o s u (told.Refused cause) d on D ne =
      let a = seated.actor s in
      let h = subst (λ (p : KnownStage V). EndsFrom a (seat_in o s) p (Refused a cause) (seat_in o u) d) on D.comes in
      (h.1, (h.0, subst (λ (p : KnownStage V). IsTrue o s u p (told.Refused cause)) on D.is_true))

  -- what was asked then, and how many begins
  pub asks_one : (s m : table.Seat V) (q : Request V) → HasAsked s q m → requests_of m ≡ requests_of s ++ q ∷ []
  asks_one s m q has = taken_requests s m (Ask 0 q) has

  pub begins_more : (s m : table.Seat V) (q : Request V) → HasAsked s q m → begins_of m ≡ begins_of s + begins_in (q ∷ [])
  begins_more s m q has = more_begins s m (q ∷ []) (asks_one s m q has)

  pub begins_none : (s m : table.Seat V) (q : Request V) → begins_in (q ∷ []) ≡ 0 → HasAsked s q m → begins_of m ≡ begins_of s
  begins_none s m q none has = (let p = begins_more s m q has in omega (arith, p, none))

  -- what keeps the receipts, one after the other
  pub then_keeps : (s m u : table.Seat V) → KeepsReceipts s m → KeepsReceipts m u → KeepsReceipts s u
  then_keeps s m u g h = record {
    seat = (h.seat.0 ∙ g.seat.0, h.seat.1 ∙ g.seat.1, h.seat.2 ∙ g.seat.2);
    shares = h.shares ∙ g.shares;
    receipts = h.receipts ∙ g.receipts;
    joined = h.joined ∙ g.joined;
    looks = h.looks ∙ g.looks;
    outs = h.outs ∙ g.outs;
    rises = (let p = g.rises in let q = h.rises in omega (arith, p, q));
    more = g.more ++ h.more;
    turns = h.turns ∙ (ap (λ (is : List (Turn V)). is ++ h.more) g.turns ∙ append_assoc (view s).turns g.more h.more);
  }

  -- what was asked keeps them
  pub asked_keeps : (s m : table.Seat V) → seated.IsSameSeat s m × (m.place.me ≡ s.place.me) → KeepsReceipts s m
  asked_keeps s m had = record {
    seat = had.0;
    shares = ap (λ k. k.0.shares) had.1;
    receipts = ap (λ k. k.0.receipts) had.1;
    joined = ap (λ k. k.0.joined) had.1;
    looks = ap (λ k. k.0.looks) had.1;
    outs = ap (λ k. k.1) had.1;
    rises = (let e : (view m).clock ≡ (view s).clock = ap (λ k. k.0.clock) had.1 in omega (arith, e));
    more = [];
    turns = ap (λ k. k.0.turns) had.1 ∙ sym (append-nil (view s).turns);
  }

  pub keeps_self : (s : table.Seat V) → KeepsReceipts s s
  keeps_self s = asked_keeps s s ((refl, refl, refl), refl)

  -- and so do turns without a receipt
  pub turns_keep : (o : World V) (s u : table.Seat V) (n : ActorNotice V) (d : Option (Record V)) → d ≡ None → out u ≡ out s
      → Driven o s u n d
      → KeepsReceipts s u
  turns_keep o s u n d none outs D = record {
    seat = D.seat;
    shares = D.shares;
    receipts = D.gains ∙ ((λ i. (view s).receipts ++ as_receipts (seated.actor s) (none i)) ∙ append-nil (view s).receipts);
    joined = D.joined;
    looks = D.looks;
    outs = outs;
    rises = D.rises;
    more = D.more;
    turns = D.turns;
  }

  -- what was found or answered since then, was since before
  pub found_back : (o : World V) (s m u : table.Seat V) (cause : Refusal) → KeepsReceipts s m → HasFound o m u cause → HasFound o s u cause
  found_back o s m u cause kept = since.found_back o s m kept.seat.1 kept.more kept.turns u cause

  pub told_back : (o : World V) (s m u : table.Seat V) (n : ActorNotice V) → KeepsReceipts s m → HasTold o m u n → HasTold o s u n
  told_back o s m u n kept = since.told_back o s m kept.seat.1 kept.more kept.turns u n

  -- and what was answered by then is answered still, whatever turns come later
  pub told_later : (o : World V) (s m u : table.Seat V) (n : ActorNotice V) (more : List (Turn V)) → (view u).turns ≡ (view m).turns ++ more
      → HasTold o s m n → HasTold o s u n
  told_later o s m u n more turns h = (
    h.0,
    record {
      before = h.1.before;
      turn = h.1.turn;
      after = h.1.after ++ more;
      turns = turns ∙ (ap (λ (is : List (Turn V)). is ++ more) h.1.turns
          ∙ append_assoc ((view s).turns ++ h.1.before) (h.1.turn ∷ h.1.after) more);
      events = h.1.events;
      reached = h.1.reached;
      alike = h.1.alike;
    },
    h.2,
  )

  pub told_on : (o : World V) (s m u : table.Seat V) (n : ActorNotice V) → KeepsReceipts m u → HasTold o s m n → HasTold o s u n
  told_on o s m u n kept = told_later o s m u n kept.more kept.turns

  pub found_told : (o : World V) (s u : table.Seat V) (cause : Refusal) → IsReason o s u cause → HasTold o s u (told.Refused cause)
      → IsFoundAndTold o s u cause
  found_told o s u cause (inl found) tells = inl (found, tells)
  found_told o s u cause (inr memory) tells =
      inr (memory, inl (subst (λ (c : Refusal). HasTold o s u (told.Refused c)) memory tells))

  pub ended_back : (o : World V) (s m u : table.Seat V) (cause : Refusal) → KeepsReceipts s m → IsEnded o m u cause → IsEnded o s u cause
  ended_back o s m u cause kept (rests, inl both) =
      (rests, inl (found_back o s m u cause kept both.0, told_back o s m u (told.Refused cause) kept both.1))
  ended_back o s m u cause kept (rests, inr (memory, inl said)) =
      (rests, inr (memory, inl (told_back o s m u (told.Refused OutOfMemory) kept said)))
  ended_back o s m u cause kept (rests, inr (memory, inr aborted)) =
      (rests, inr (memory, inr (told_back o s m u (told.Answered answer.Aborted) kept aborted)))

  pub not_begun_back : (o : World V) (s m u : table.Seat V) (cause : Refusal) → KeepsReceipts s m → IsNotBegun o m u cause
      → IsNotBegun o s u cause
  not_begun_back o s m u cause kept h = (h.0, since.exhausted_back o s m kept.seat.1 kept.more kept.turns u cause h.1)

  pub begun_back : (declared : Bool) (o : World V) (s m u : table.Seat V) (rv : ℕ) → KeepsReceipts s m → IsBegun declared o m u rv
      → IsBegun declared o s u rv
  begun_back declared o s m u rv kept h = record {
    stands = h.stands;
    declares = h.declares;
    began = h.began;
    clock = h.clock;
    rises = (let p = h.rises in let q = kept.rises in omega (arith, p, q));
    told = told_back o s m u (told.Answered (answer.Begun rv)) kept h.told;
  }

  -- what its turn answers is the one or the other
  pub begin_told : (declared : Bool) (o : World V) (s u : table.Seat V) (n : ActorNotice V) → BeginsTo declared o s u n → IsBeginTold n
  begin_told declared o s u told.Quiet h = absurd h
  begin_told declared o s u (told.Answered (answer.Begun rv)) h = tt
  begin_told declared o s u (told.Answered q) h = absurd h
  begin_told declared o s u (told.Refused cause) h = tt

  pub begun_by : (declared : Bool) (o : World V) (s u : table.Seat V) (n : ActorNotice V) (r : Result ℕ Refusal) → n ≡ begin_of r
      → BeginsTo declared o s u n → IfOk r (IsBegun declared o s u) × IfErr r (IsNotBegun o s u)
  begun_by declared o s u n (Ok rv) e h = (subst (BeginsTo declared o s u) e h, tt)
  begun_by declared o s u n (Err cause) e h = (tt, subst (BeginsTo declared o s u) e h)

  pub begun_since : (declared : Bool) (o : World V) (s m u : table.Seat V) (r : Result ℕ Refusal) → KeepsReceipts s m
      → IfOk r (IsBegun declared o m u) → IfErr r (IsNotBegun o m u) → IfOk r (IsBegun declared o s u) × IfErr r (IsNotBegun o s u)
  begun_since declared o s m u (Ok rv) kept h g = (begun_back declared o s m u rv kept h, tt)
  begun_since declared o s m u (Err cause) kept h g = (tt, not_begun_back o s m u cause kept g)

  -- what was asked of it is what it is, once it has begun
  pub begun_as : (asked is : Bool) (o : World V) (s u : table.Seat V) (r : Result ℕ Refusal) → is ≡ asked → IfOk r (IsBegun is o s u)
      → IfOk r (IsBegun asked o s u)
  begun_as asked is o s u r e h = subst (λ (b : Bool). IfOk r (IsBegun b o s u)) e h

  pub begins_to : (o : World V) (s u : table.Seat V) (n : ActorNotice V) (d : Option (Record V)) → standing o s ≡ Begins → out u ≡ out s
      → Driven o s u n d → n ≢ told.Quiet → KeepsReceipts s u × BeginsTo (is_declared o s) o s u n
  begins_to o s u n d on outs D ne =
      let h = none_begins o s u n d on D ne in (turns_keep o s u n d h.0 outs D, h.1)

  -- ---- an abort
  pub ends_to : (o : World V) (s u : table.Seat V) (n : ActorNotice V) (d : Option (Record V)) → standing o s ≡ Ends → out u ≡ out s
      → Driven o s u n d → n ≢ told.Quiet → KeepsReceipts s u × (standing o u ≡ Rests)
  ends_to o s u n d on outs D ne =
      let h = none_ends o s u n d on D ne in (turns_keep o s u n d h.0 outs D, h.1)

  -- an open transaction that is to abort is being aborted
  quiet_abort : (w : World V) (a : ℕ) (x : Seat V) (st : Stage V) (calls : List (Call V × Reply V))
      → known_stage_at x.calls st ≡ Stands calls
      → (ask_at w a x st Abort).1 ≡ Quiet
  quiet_abort w a x worlds.Open calls h = refl
  quiet_abort w a x st calls h = absurd (let z : ⊥ = cc in z)

  pub abort_ends : (o : World V) (s m : table.Seat V) (calls : List (Call V × Reply V)) → standing o s ≡ Stands calls → HasAsked s Abort m
      → standing o m ≡ Ends
  abort_ends o s m calls on has =
      let a = seated.actor s in
      let w = acts o s in
      let own_is = acts_taken o s m (Ask 0 Abort) has in
      let after = happens w (Ask a Abort) in
      let said : after.1 ≡ Quiet = quiet_abort w a (w.seats a) (w.seats a).stage calls on in
      let moved : AskMoves (Stands calls) Abort Quiet (known_stage (after.0.seats a)) =
      subst (λ (k : KnownStage V × Notice V). AskMoves k.0 Abort k.1 (known_stage (after.0.seats a))) (λ i. (on i, said i))
      (asks_move w a Abort) in
      (λ i. known_stage ((own_is i).seats (has.0.1 i))) ∙ moved

  -- of which its actor noted no cause
  none_noted : (w : World V) (a : ℕ) (x : Seat V) (st : Stage V) (calls : List (Call V × Reply V))
      → known_stage_at x.calls st ≡ Stands calls
      → ((ask_at w a x st Abort).0.seats a).cause ≡ None
  none_noted w a x worlds.Open calls h =
      let t = acted w (asks a word.AskCancel ∷ asks a word.AskAbort ∷ []) in
      ap (λ (y : Seat V). y.cause)
      (put-same t.seats a (at_stage (record x { cause = None }) (cond (is_leaving (actor_of t a).place) Leaving Cancelling)))
  none_noted w a x st calls h = absurd (let z : ⊥ = cc in z)

  is_aborted : (a : ℕ) (n : ActorNotice V) → notice_of a n ≡ Answered a answer.Aborted → n ≡ told.Answered answer.Aborted
  is_aborted a told.Quiet e = absurd (let z : ⊥ = cc in z)
  is_aborted a (told.Answered q) e = (let f : q ≡ answer.Aborted = cc in ap told.Answered f)
  is_aborted a (told.Refused cause) e = absurd (let z : ⊥ = cc in z)

  -- and so it is answered
  pub abort_told : (o : World V) (s m u : table.Seat V) (calls : List (Call V × Reply V)) → standing o s ≡ Stands calls → HasAsked s Abort m
      → (n : ActorNotice V) (d : Option (Record V)) → Driven o m u n d → n ≢ told.Quiet → HasAborted o s u
  abort_told o s m u calls on has n d D ne =
      let a = seated.actor s in
      let w = acts o s in
      let own_is = acts_taken o s m (Ask 0 Abort) has in
      let none : (seat_in o m).cause ≡ None =
      (λ i. ((own_is i).seats (has.0.1 i)).cause) ∙ none_noted w a (w.seats a) (w.seats a).stage calls on in
      let why_is = (none_ends o m u n d (abort_ends o s m calls on has) D ne).2 in
      let said : n ≡ told.Answered answer.Aborted = is_aborted (seated.actor m) n (why_is ∙ ap (why (seated.actor m)) none) in
      told_back o s m u (told.Answered answer.Aborted) (asked_keeps s m (has.0, has.1))
      (subst (λ (k : ActorNotice V). HasTold o m u k) said (D.tells ne))

  -- ---- what the world with its actor alone notes of it
  pub asked_aborted : (o : World V) (s m : table.Seat V) (q : Request V) → HasAsked s q m → (acts o m).aborted ≡ (acts o s).aborted
  asked_aborted o s m q has =
      ap (λ (w : World V). w.aborted) (acts_taken o s m (Ask 0 q) has) ∙ (one_step (acts o s) (Ask (seated.actor s) q)).aborted

  pub asked_reader : (o : World V) (s m : table.Seat V) (q : Request V) → (seat_in o s).stage ≡ worlds.Open → HasAsked s q m
      → is_declared o s ≡ true → is_declared o m ≡ true
  asked_reader o s m q at has is =
      (λ i. (actor_of (acts_taken o s m (Ask 0 q) has i) (has.0.1 i)).declared) ∙ reader_asks (acts o s) (seated.actor s) is q at

  pub asked_same : (o : World V) (s m : table.Seat V) (q : Request V) → (seat_in o s).stage ≡ worlds.Open → HasAsked s q m
      → IsGoing (standing o m) → Same (seat_in o s) (seat_in o m)
  asked_same o s m q at has going = kept (asks_keep (acts o s) (seated.actor s) q at)
    where
      after : Seat V
      after = (happens (acts o s) (Ask (seated.actor s) q)).0.seats (seated.actor s)

      seat_is : seat_in o m ≡ after
      seat_is i = (acts_taken o s m (Ask 0 q) has i).seats (has.0.1 i)

      kept : Keeps (seat_in o s) after → Same (seat_in o s) (seat_in o m)
      kept (inl e) = (ap (λ (x : Seat V). x.rv) seat_is ∙ e.0, ap (λ (x : Seat V). x.calls) seat_is ∙ e.1)
      kept (inr (inl e)) = absurd (subst IsGoing (ap known_stage seat_is ∙ ap (known_stage_at after.calls) e.1) going)
      kept (inr (inr e)) = absurd (subst IsGoing (ap known_stage seat_is ∙ e) going)

  -- a request of an open transaction that is under way, and ends so
  pub noted_for : (o : World V) (s m u : table.Seat V) (q : Request V) → (seat_in o s).stage ≡ worlds.Open → HasAsked s q m
      → IsGoing (standing o m)
      → (n : ActorNotice V) (d : Option (Record V)) (cause : Option Refusal) → Driven o m u n d
      → notice_of (seated.actor m) n ≡ why (seated.actor m) cause
      → standing o u ≡ Rests → IsLastAborted o s u cause
  noted_for o s m u q at has going n d cause D is rests =
      let same = asked_same o s m q at has going in
      D.aborted.ended cause is rests (λ e. subst IsGoing e going)
      ∙ (λ i. asked_aborted o s m q has i
      ++ record { actor = has.0.1 i; rv = same.0 i; calls = same.1 i; cause = cause } ∷ [])

  is_at_open : (cs calls : List (Call V × Reply V)) (st : Stage V) → known_stage_at cs st ≡ Stands calls → st ≡ worlds.Open
  is_at_open cs calls worlds.Open h = refl
  is_at_open cs calls st h = absurd (let z : ⊥ = cc in z)

  pub abort_noted : (o : World V) (s m u : table.Seat V) (calls : List (Call V × Reply V)) → standing o s ≡ Stands calls
      → HasAsked s Abort m
      → (n : ActorNotice V) (d : Option (Record V)) → Driven o m u n d → n ≢ told.Quiet → IsLastAborted o s u None
  abort_noted o s m u calls on has n d D ne =
      let a = seated.actor s in
      let w = acts o s in
      let own_is = acts_taken o s m (Ask 0 Abort) has in
      let none : (seat_in o m).cause ≡ None =
      (λ i. ((own_is i).seats (has.0.1 i)).cause) ∙ none_noted w a (w.seats a) (w.seats a).stage calls on in
      let ends = abort_ends o s m calls on has in
      let h = none_ends o m u n d ends D ne in
      noted_for o s m u Abort (is_at_open (seat_in o s).calls calls (seat_in o s).stage on) has (subst IsGoing (sym ends) tt) n d None D
      (h.2 ∙ ap (why (seated.actor m)) none) h.1

  -- it has nothing in hand
  pub abort_own : (t : TxTable V) (s m : table.Seat V) (r q : TxActor V) (calls : List (Call V × Reply V))
      → standing (opening_of t) s ≡ Stands calls → Ties t s r → HasOwn t s r [] → HasAsked s Abort m → Ties t m q → HasOwn t m q []
  abort_own t s m r q calls on ties own has tied =
      free_own t m q (ends_free t m q tied (abort_ends (opening_of t) s m calls on has))
      (taken_bare t s m r q (Ask 0 Abort) ties tied has (ap gates_at (is_open t s r ties calls on)))
      (ap (λ k. k.1) has.1 ∙ bare_out t s r own)

-- A seat between its requests: how it begins, and that it is there again after each of them.
use Rattle.std.proofs.Common.{◌≡◌, ◌⊎◌, ℕ, ◌<◌, ◌≤◌, Bool, true, false, true≢false, [], ◌∷◌, ◌++◌, Result, Ok, Err, IfOk, IfErr}
use Rattle.std.proofs.Common.{inl, inr, max, refl, sym, ap, ◌∙◌, subst, arith}
use Rattle.seq_model.specs.declared.call.Call.{Call}
use Rattle.seq_model.specs.declared.call.Reply.{Reply}
use Rattle.seq_model.specs.declared.event.Answer.TheVariants as answer
use Rattle.seq_model.specs.declared.event.Request.TheVariants as request
use Rattle.seq_model.specs.declared.record.Record.{Record}
use Rattle.seq_model.specs.declared.refusal.Refusal.{Refusal}
use Rattle.seq_model.specs.declared.refusal.Refusal.TheVariants.{NoTransaction}
use Rattle.tx_machine.specs.World.{blank}
use Rattle.step_core.specs.Blank.{IsBlank}
use Rattle.replay_log.specs.Seats.{World, Seat, no_one}
use Rattle.replay_log.specs.Worlds.{written_homes}
use Rattle.tx_actor.specs.CopiesByStage.{HasCopies}
use Rattle.tx_actor.specs.ActorBounds.{IsRunning}
use Rattle.tx_actor.specs.Running.{KnowsHomes, Runs, seat_at, seat_of}
use Rattle.tx_actor.specs.declared.actor.Stage as own
use Rattle.tx_actor.specs.declared.actor.Stage.TheVariants as stage
use Rattle.tx_actor.specs.declared.actor.ActorNotice.{ActorNotice}
use Rattle.tx_actor.specs.declared.actor.ActorNotice.TheVariants as told
use Rattle.tx_actor.specs.declared.actor.TxActor.{TxActor}
use Rattle.shared_table.specs.declared.seat.Seat as table
use Rattle.shared_table.specs.declared.table.TxTable.{TxTable}
use Rattle.shared_table.specs.Seated.{IsSameSeat, Owns, acts, list_of, opening_of, out, view}
use Rattle.shared_table.specs.Seated as seated
use Rattle.shared_table.specs.Shown.{IsReached, looking}
use Rattle.shared_table.specs.Turns.{asked_all, lone}
use Rattle.actor_laws.specs.KnownStages.{Rests, known_stage}
use Rattle.tx_engine.proofs.AskLemmas.{asked_still}
use Rattle.tx_engine.proofs.KindLemmas.{call_without_transaction, commit_without_transaction}
use Rattle.tx_engine.proofs.RequestLemmas.{is_idle, is_open, keeps_self}
use Rattle.tx_turns.proofs.RequestHistoryLemmas.{same_begins, same_requests}
use Rattle.tx_turns.specs.Begins.{begins_of}
use Rattle.tx_turns.specs.Driven.{HasTold, IsNumberOf, seat_in, standing}
use Rattle.tx_turns.specs.RequestHistory.{requests_of}
use Rattle.tx_engine.specs.Ready.{CanDrive, HasBegunSince, HasCalled, HasFinished, HasOpened, IsNew, IsReady}
use Rattle.tx_engine.specs.Requests.{CallLeaves, CallsTo, CommitsTo, HasAskedFor, HasCommitted, IsBegun, IsNotBegun, IsOpen, OnlyKnows}
use Rattle.tx_engine.specs.declared.seats.TxSeat.{TxSeat}
use Rattle.tx_turns.specs.Ties.{Ties, laid_in}
use Rattle.tx_turns.specs.Bases.{AreBases, gates_at}
use Rattle.tx_turns.specs.Own.{HasOwn}
use Rattle.tx_turns.proofs.RestLemmas.{IsFree, free_own}

module _ {V : Type 0} where
  -- ---- a new seat
  -- the world with its actor alone is the opening
  new_acts : (t : TxTable V) (s : table.Seat V) → IsNew t s → acts (opening_of t) s ≡ opening_of t
  new_acts t s h i = asked_all (seated.actor s) (lone (seated.actor s) (opening_of t) (h.turns i)) (h.asked i)

  idle_seat : (r : TxActor V) → seat_of r ≡ no_one → r.stage ≡ stage.Idle → no_one ≡ seat_at no_one r
  idle_seat r h at = subst (λ (st : own.Stage V). no_one ≡ seat_at no_one (record r { stage = st })) (sym at)
      (sym h ∙ ap (λ (st : own.Stage V). seat_of (record r { stage = st })) at)

  new_runs : (w : World V) (a : ℕ) (r : TxActor V) → w.seats a ≡ no_one → seat_of r ≡ no_one → r.stage ≡ stage.Idle
      → w.boosted.words.actors a ≡ blank → IsBlank r.words → Runs a r w
  new_runs w a r sits seat at none is = (
    sits ∙ (idle_seat r seat at ∙ ap (λ (x : Seat V). seat_at x r) (sym sits)),
    none ∙ sym is.actor,
    subst (λ (st : own.Stage V). KnowsHomes st (written_homes w a)) (sym at) tt,
  )

  pub new_ready : (t : TxTable V) (s : TxSeat V) → HasOpened t → IsNew t s.seat → seat_of s.actor ≡ no_one → s.actor.stage ≡ stage.Idle
      → IsBlank s.actor.words → IsRunning (laid_in t) s.actor → IsReady t s
  new_ready t s opened h seat at is running =
      let o = opening_of t in
      let a = seated.actor s.seat in
      let e : o ≡ acts o s.seat = sym (new_acts t s.seat h) in
      record {
        table = opened;
        ties = record {
          owns = h.owns;
          live = h.live;
          reached = subst (λ (w : World V). IsReached o a w) e (opened.opening a);
          runs = subst (λ (w : World V). Runs a s.actor w) e (new_runs o a s.actor refl seat at refl is);
          running = running;
        };
        own = free_own t s.seat s.actor (subst IsFree (sym at) tt) (ap (λ (st : own.Stage V). gates_at st) at) h.outs;
        between = inl (ap (λ (w : World V). known_stage (w.seats a)) (sym e));
      }

  -- ---- between its requests
  pub can_drive : (t : TxTable V) (s : TxSeat V) → IsReady t s → CanDrive t s.seat s.actor
  can_drive t s ready = record { ties = ready.ties; own = ready.own; small = ready.table.small }

  module _ (t : TxTable V) (s : TxSeat V) (ready : IsReady t s) where
    pub has_open : s.actor.stage ≡ stage.Open → IsOpen (opening_of t) s.seat
    has_open at = by ready.between
      where
        by : (standing (opening_of t) s.seat ≡ Rests) ⊎ IsOpen (opening_of t) s.seat → IsOpen (opening_of t) s.seat
        by (inl rests) = absurd (let e = sym (is_idle t s.seat s.actor ready.ties rests) ∙ at in let z : ⊥ = cc in z)
        by (inr is) = is

    pub has_none : (s.actor.stage ≡ stage.Open → ⊥) → standing (opening_of t) s.seat ≡ Rests
    has_none isnt = by ready.between
      where
        by : (standing (opening_of t) s.seat ≡ Rests) ⊎ IsOpen (opening_of t) s.seat → standing (opening_of t) s.seat ≡ Rests
        by (inl rests) = rests
        by (inr is) = absurd (isnt (is_open t s.seat s.actor ready.ties is.0 is.1))

  -- ---- after a request
  -- a call leaves its transaction open, or there is none
  call_between : (o : World V) (s u : table.Seat V) (call : Call V) (r : Result (Reply V) Refusal) → IsOpen o s → CallsTo o s call u r
      → (standing o u ≡ Rests) ⊎ IsOpen o u
  call_between o s u call r opened C = by r (C.leaves opened.0 opened.1)
    where
      by : (r : Result (Reply V) Refusal) → CallLeaves o s opened.0 call u r → (standing o u ≡ Rests) ⊎ IsOpen o u
      by (Ok reply) h = inr (opened.0 ++ (call, reply) ∷ [], h)
      by (Err cause) (inl stays) = inr (opened.0, stays.0)
      by (Err cause) (inr ended) = inl ended.0

  pub call_ready : (t : TxTable V) (s u : TxSeat V) (call : Call V) (r : Result (Reply V) Refusal) → IsReady t s
      → IsOpen (opening_of t) s.seat → CanDrive t u.seat u.actor → CallsTo (opening_of t) s.seat call u.seat r → IsReady t u
  call_ready t s u call r ready opened drives C = record {
    table = ready.table;
    ties = drives.ties;
    own = drives.own;
    between = call_between (opening_of t) s.seat u.seat call r opened C;
  }

  pub call_since : (t : TxTable V) (s u : TxSeat V) (call : Call V) (r : Result (Reply V) Refusal) → HasBegunSince t s
      → IsOpen (opening_of t) s.seat → CallsTo (opening_of t) s.seat call u.seat r → HasBegunSince t u
  call_since t s u call r since opened C still =
      let e : (seat_in (opening_of t) u.seat).rv ≡ (seat_in (opening_of t) s.seat).rv = C.began still in
      let last : u.seat.last ≡ s.seat.last = C.keeps.seat.2 in
      let h = since opened in
      let low = h.0 in
      let high = h.1 in
      let rises = C.keeps.rises in
      (omega (arith, low, e, last), omega (arith, high, e, rises))

  -- there is no transaction where one is open
  not_both : (o : World V) (s : table.Seat V) → standing o s ≡ Rests → IsOpen o s → ⊥
  not_both o s rests opened = (let e = sym rests ∙ opened.1 in let z : ⊥ = cc in z)

  pub has_called : (t : TxTable V) (s u : TxSeat V) (call : Call V) (r : Result (Reply V) Refusal) → IsReady t s → HasBegunSince t s
      → IsOpen (opening_of t) s.seat → CanDrive t u.seat u.actor → CallsTo (opening_of t) s.seat call u.seat r
      → begins_of u.seat ≡ begins_of s.seat → HasAskedFor s.seat (request.Call call) r u.seat → HasCalled t s u call r
  has_called t s u call r ready since opened drives C begins asks = record {
    ready = call_ready t s u call r ready opened drives C;
    since = call_since t s u call r since opened C;
    calls = λ _. C;
    kinds = C.kinds;
    begins = begins;
    asks = λ _. asks;
    none = λ rests. absurd (not_both (opening_of t) s.seat rests opened);
  }

  pub none_called : (t : TxTable V) (s : TxSeat V) (call : Call V) → IsReady t s → HasBegunSince t s → (s.actor.stage ≡ stage.Open → ⊥)
      → HasCalled t s s call (Err NoTransaction)
  none_called t s call ready since isnt = record {
    ready = ready;
    since = since;
    calls = λ opened. absurd (isnt (is_open t s.seat s.actor ready.ties opened.0 opened.1));
    kinds = call_without_transaction call.op;
    begins = refl;
    asks = λ opened. absurd (isnt (is_open t s.seat s.actor ready.ties opened.0 opened.1));
    none = λ _. (refl, refl);
  }

  -- where there is no transaction there is nothing to be said of one
  pub rests_since : (t : TxTable V) (s : TxSeat V) → standing (opening_of t) s.seat ≡ Rests → HasBegunSince t s
  rests_since t s rests still = absurd (let e = sym rests ∙ still.1 in let z : ⊥ = cc in z)

  pub rests_ready : (t : TxTable V) (s u : TxSeat V) → IsReady t s → CanDrive t u.seat u.actor → standing (opening_of t) u.seat ≡ Rests
      → IsReady t u
  rests_ready t s u ready drives rests =
      record { table = ready.table; ties = drives.ties; own = drives.own; between = inl rests }

  -- one that has just begun, from m on
  pub begun_ready : (declared : Bool) (t : TxTable V) (s m u : TxSeat V) (r : Result ℕ Refusal) → IsReady t s
      → CanDrive t u.seat u.actor → IfOk r (IsBegun declared (opening_of t) m.seat u.seat)
      → IfErr r (IsNotBegun (opening_of t) m.seat u.seat) → IsReady t u
  begun_ready declared t s m u (Ok rv) ready drives begun isnt =
      record { table = ready.table; ties = drives.ties; own = drives.own; between = inr ([], begun.stands) }
  begun_ready declared t s m u (Err cause) ready drives begun isnt =
      record { table = ready.table; ties = drives.ties; own = drives.own; between = inl isnt.0 }

  pub begun_since : (declared : Bool) (t : TxTable V) (m u : TxSeat V) (r : Result ℕ Refusal) → m.seat.last ≤ (view m.seat).clock
      → u.seat.last ≡ m.seat.last → IfOk r (IsBegun declared (opening_of t) m.seat u.seat)
      → IfErr r (IsNotBegun (opening_of t) m.seat u.seat) → HasBegunSince t u
  begun_since declared t m u (Ok rv) known last begun isnt still =
      let e : (seat_in (opening_of t) u.seat).rv ≡ rv = begun.began in
      let low = begun.rises in
      let high : rv ≡ (view u.seat).clock = begun.clock in
      (omega (arith, known, last, e, low), omega (arith, e, high))
  begun_since declared t m u (Err cause) known last begun isnt still = absurd (let e = sym isnt.0 ∙ still.1 in let z : ⊥ = cc in z)

  pub begun_last : (declared : Bool) (o : World V) (m u : table.Seat V) (r : Result ℕ Refusal) → m.last ≤ (view m).clock
      → IfOk r (IsBegun declared o m u) → IfOk r (λ rv. m.last ≤ rv)
  begun_last declared o m u (Ok rv) known begun = (let low = begun.rises in omega (arith, known, low))
  begun_last declared o m u (Err cause) known begun = tt

  -- ---- a last number
  -- nothing but the last number has changed
  module _ (o : World V) (s u : table.Seat V) (place : u.place ≡ s.place) (asked : u.asked ≡ s.asked) where
    noted_acts : acts o u ≡ acts o s
    noted_acts i = asked_all (place i).id (lone (place i).id o (place i).me.0.turns) (list_of (asked i))

    pub noted_stands : standing o u ≡ standing o s
    noted_stands i = known_stage ((noted_acts i).seats (place i).id)

    noted_told : (before : table.Seat V) (n : ActorNotice V) → HasTold o before s n → HasTold o before u n
    noted_told before n h = (
      h.0,
      record {
        before = h.1.before;
        turn = h.1.turn;
        after = h.1.after;
        turns = ap (λ p. p.me.0.turns) place ∙ h.1.turns;
        events = h.1.events;
        reached = h.1.reached;
        alike = h.1.alike;
      },
      h.2,
    )

    pub noted_committed : (before : table.Seat V) (r : Record V) → HasCommitted o before s r → HasCommitted o before u r
    noted_committed before r h = record {
      seat = (ap (λ p. p.table_id) place ∙ h.seat.0, ap (λ p. p.id) place ∙ h.seat.1);
      shares = ap (λ p. p.me.0.shares) place ∙ h.shares;
      receipts = ap (λ p. p.me.0.receipts) place ∙ h.receipts;
      joined = ap (λ p. p.me.0.joined) place ∙ h.joined;
      looks = ap (λ p. p.me.0.looks) place ∙ h.looks;
      outs = ap (λ p. p.me.1) place ∙ h.outs;
      rises = (let e : (view u).clock ≡ (view s).clock = ap (λ p. p.me.0.clock) place in let q = h.rises in omega (arith, e, q));
      rests = noted_stands ∙ h.rests;
      told = noted_told before (told.Answered (answer.Committed r.number)) h.told;
    }

  noted_requests : (s u : table.Seat V) → u.place ≡ s.place → u.asked ≡ s.asked → requests_of u ≡ requests_of s
  noted_requests s u place asked = same_requests s u (ap (λ p. p.me.0.turns) place) (ap (λ es. list_of es) asked)

  -- a seat is still tied where the world with its actor alone is the same
  pub stays_tied : (t : TxTable V) (s u : table.Seat V) (r : TxActor V) → Owns t u → seated.actor u ≡ seated.actor s
      → acts (opening_of t) u ≡ acts (opening_of t) s → 0 < (view u).shares → Ties t s r → Ties t u r
  stays_tied t s u r owns same own live ties =
      let o = opening_of t in record {
        owns = owns;
        live = live;
        reached = subst (λ (k : ℕ × World V). IsReached o k.0 k.1) (λ i. (sym same i, sym own i)) ties.reached;
        runs = subst (λ (k : ℕ × World V). Runs k.0 r k.1) (λ i. (sym same i, sym own i)) ties.runs;
        running = ties.running;
      }

  -- and has what it had out
  pub stays_own : (t : TxTable V) (s u : table.Seat V) (r : TxActor V) → seated.actor u ≡ seated.actor s
      → acts (opening_of t) u ≡ acts (opening_of t) s → out u ≡ out s → HasOwn t s r [] → HasOwn t u r []
  stays_own t s u r same own outs h =
      let o = opening_of t in record {
        copies = subst (λ (k : ℕ × World V). HasCopies r k.1 k.0) (λ i. (sym same i, sym own i)) h.copies;
        out = outs ∙ h.out;
        bases = subst (λ (w : World V). AreBases o w (gates_at r.stage) []) (sym own) h.bases;
        prepared = h.prepared;
      }

  -- what of a seat is beside it and its actor doesn't count
  pub still_ready : (t : TxTable V) (s u : TxSeat V) → u.seat ≡ s.seat → u.actor ≡ s.actor → IsReady t s → IsReady t u
  still_ready t s u same actor h = record {
    table = h.table;
    ties = subst (λ (k : table.Seat V × TxActor V). Ties t k.0 k.1) (λ i. (sym same i, sym actor i)) h.ties;
    own = subst (λ (k : table.Seat V × TxActor V). HasOwn t k.0 k.1 []) (λ i. (sym same i, sym actor i)) h.own;
    between = subst (λ (x : table.Seat V). (standing (opening_of t) x ≡ Rests) ⊎ IsOpen (opening_of t) x) (sym same) h.between;
  }

  pub noted_own : (t : TxTable V) (s u : table.Seat V) (r : TxActor V) → u.place ≡ s.place → u.asked ≡ s.asked → HasOwn t s r []
      → HasOwn t u r []
  noted_own t s u r place asked =
      stays_own t s u r (ap (λ p. p.id) place) (noted_acts (opening_of t) s u place asked) (ap (λ p. p.me.1) place)

  pub stays_standing : (o : World V) (s u : table.Seat V) → seated.actor u ≡ seated.actor s → acts o u ≡ acts o s
      → standing o u ≡ standing o s
  stays_standing o s u same own i = known_stage ((own i).seats (same i))

  -- a seat m that has looked at the clock, and u that is m but for its last number, know no more
  pub only_knows : (o : World V) (s m u : table.Seat V) (k : ℕ) → m.place.me ≡ (looking (view s) k, out s) → IsSameSeat s m
      → acts o m ≡ acts o s → list_of m.asked ≡ list_of s.asked → (view s).clock ≤ k → u.place ≡ m.place → u.asked ≡ m.asked
      → OnlyKnows o s u
  only_knows o s m u k me same own asks known place asked =
      let are : u.place.me ≡ (looking (view s) k, out s) = ap (λ p. p.me) place ∙ me in
      let clock : (view u).clock ≡ k = ap (λ v. v.0.clock) are in record {
        seat = (ap (λ p. p.table_id) place ∙ same.0, ap (λ p. p.id) place ∙ same.1);
        shares = ap (λ v. v.0.shares) are;
        receipts = ap (λ v. v.0.receipts) are;
        joined = ap (λ v. v.0.joined) are;
        turns = ap (λ v. v.0.turns) are;
        outs = ap (λ v. v.1) are;
        looks = ap (λ v. v.0.looks) are ∙ ap (λ (n : ℕ). (view s).looks ++ n ∷ []) (sym clock);
        rises = omega (arith, known, clock);
        own = noted_acts o m u place asked ∙ own;
        asks = same_requests s u (ap (λ v. v.0.turns) are) (ap (λ es. list_of es) asked ∙ asks);
      }

  pub stays_between : (o : World V) (s u : table.Seat V) → standing o u ≡ standing o s → (standing o s ≡ Rests) ⊎ IsOpen o s
      → (standing o u ≡ Rests) ⊎ IsOpen o u
  stays_between o s u e (inl rests) = inl (e ∙ rests)
  stays_between o s u e (inr opened) = inr (opened.0, e ∙ opened.1)

  pub noted_ties : (t : TxTable V) (s u : table.Seat V) (r : TxActor V) → u.place ≡ s.place → u.asked ≡ s.asked → Ties t s r → Ties t u r
  noted_ties t s u r place asked ties =
      stays_tied t s u r (ap (λ p. p.table_id) place ∙ ties.owns) (ap (λ p. p.id) place) (noted_acts (opening_of t) s u place asked)
      (let f : (view u).shares ≡ (view s).shares = ap (λ p. p.me.0.shares) place in let l = ties.live in omega (arith, f, l)) ties

  pub noted_drives : (t : TxTable V) (s u : table.Seat V) (r : TxActor V) → u.place ≡ s.place → u.asked ≡ s.asked → CanDrive t s r
      → CanDrive t u r
  noted_drives t s u r place asked drives = record {
    ties = noted_ties t s u r place asked drives.ties;
    own = noted_own t s u r place asked drives.own;
    small = drives.small;
  }

  -- a committed one
  pub commit_numbers : (rv k last : ℕ) (r : Record V) → IsNumberOf rv k r → last ≤ rv → rv ≤ k
      → (r.writes ≡ true → last < r.number) × (last ≤ r.number) × (r.number ≤ k)
  commit_numbers rv k last r h low high = by r.writes refl
    where
      by : (b : Bool) → r.writes ≡ b → (r.writes ≡ true → last < r.number) × (last ≤ r.number) × (r.number ≤ k)
      by true e =
          let w = h.writer e in
          let up = w.0 in
          let known = w.1 in
          (λ _. omega (arith, up, low), omega (arith, up, low), known)
      by false e =
          let is = h.reader e in
          (λ yes. absurd (true≢false (sym yes ∙ e)), omega (arith, is, low), omega (arith, is, high))

  -- ---- a commit
  pub none_finished : (t : TxTable V) (s : TxSeat V) → IsReady t s → (s.actor.stage ≡ stage.Open → ⊥)
      → HasFinished t s s (Err NoTransaction)
  none_finished t s ready isnt = record {
    ready = ready;
    rests = has_none t s ready isnt;
    commits = record {
      committed = tt;
      calls = tt;
      writes = tt;
      reader = tt;
      number = tt;
      keeps = keeps_self s.seat;
      ended = λ opened. absurd (isnt (is_open t s.seat s.actor ready.ties opened.0 opened.1));
      aborted = λ opened. absurd (isnt (is_open t s.seat s.actor ready.ties opened.0 opened.1));
      same = tt;
      kinds = commit_without_transaction;
    };
    above = tt;
    last = tt;
    begins = refl;
    asks = λ opened. absurd (isnt (is_open t s.seat s.actor ready.ties opened.0 opened.1));
    none = λ _. (refl, refl);
  }

  pub refused_finished : (t : TxTable V) (s u : TxSeat V) (cause : Refusal) → IsReady t s → IsOpen (opening_of t) s.seat
      → CanDrive t u.seat u.actor → CommitsTo (opening_of t) s.seat u.seat (Err cause) → begins_of u.seat ≡ begins_of s.seat
      → HasAskedFor {A = Record V} s.seat request.Commit (Err cause) u.seat → HasFinished t s u (Err cause)
  refused_finished t s u cause ready opened drives C begins asks =
      let rests : standing (opening_of t) u.seat ≡ Rests = (C.ended opened).0 in
      record {
        ready = rests_ready t s u ready drives rests;
        rests = rests;
        commits = C;
        above = tt;
        last = tt;
        begins = begins;
        asks = λ _. asks;
        none = λ was. absurd (not_both (opening_of t) s.seat was opened);
      }

  -- with a receipt, which its seat is to note
  module _ (t : TxTable V) (s : TxSeat V) (m : table.Seat V) (r : Record V) (since : HasBegunSince t s)
      (C : CommitsTo (opening_of t) s.seat m (Ok r)) where
    pub receipt_numbers : (r.writes ≡ true → s.seat.last < r.number) × (s.seat.last ≤ r.number) × (r.number ≤ (view m).clock)
    receipt_numbers =
        let begun = since (r.calls, C.calls) in
        let high = begun.1 in
        let rises = C.committed.rises in
        let known : (seat_in (opening_of t) s.seat).rv ≤ (view m).clock = omega (arith, high, rises) in
        commit_numbers (seat_in (opening_of t) s.seat).rv (view m).clock s.seat.last r C.number begun.0 known

    pub has_finished : (u : TxSeat V) → IsReady t s → CanDrive t m u.actor → m.last ≡ s.seat.last → begins_of m ≡ begins_of s.seat
        → HasAskedFor s.seat request.Commit (Ok r) m → u.seat.place ≡ m.place → u.seat.asked ≡ m.asked
        → u.seat.last ≡ max m.last r.number → HasFinished t s u (Ok r)
    has_finished u ready drives same begins asks place asked last =
        let o = opening_of t in
        let rests : standing o u.seat ≡ Rests = noted_stands o m u.seat place asked ∙ C.committed.rests in
        let low = receipt_numbers.1 in
        let still = noted_requests m u.seat place asked in
        record {
          ready = rests_ready t s u ready (noted_drives t m u.seat u.actor place asked drives) rests;
          rests = rests;
          commits = record {
            committed = noted_committed o m u.seat place asked s.seat r C.committed;
            calls = C.calls;
            writes = C.writes;
            reader = C.reader;
            number = subst (λ (k : ℕ). IsNumberOf (seat_in o s.seat).rv k r) (sym (ap (λ p. p.me.0.clock) place)) C.number;
            keeps = tt;
            ended = tt;
            aborted = tt;
            same = (λ i. (noted_acts o m u.seat place asked i).aborted) ∙ C.same;
            kinds = tt;
          };
          above = receipt_numbers.0;
          last = (low, omega (arith, last, same, low));
          begins = same_begins m u.seat still ∙ begins;
          asks = λ _. asked_still s.seat m u.seat request.Commit (Ok r) still asks;
          none = λ was. absurd (not_both o s.seat was (r.calls, C.calls));
        }

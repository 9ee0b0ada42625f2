-- A commit is asked, and driven.
--
-- Whether it has written is said by the stage to which the ask leads, and by its record after all turns (`Driven.written`).
use Rattle.std.proofs.Common.{◌≡◌, ◌≢◌, ℕ, Bool, true, false, not, List, [], ◌∷◌, ◌++◌, Option, Some, None, Result, Ok, Err}
use Rattle.std.proofs.Common.{MatchResult, inl, inr, refl, sym, ap, ◌∙◌, subst, arith}
use Rattle.tx_sets.specs.Entries.{Entries}
use Rattle.tx_machine.specs.Actor as machine
use Rattle.tx_machine.specs.Actor.{Actor}
use Rattle.tx_machine.specs.Requests as word
use Rattle.tx_machine.specs.Requests.{close, lock}
use Rattle.tx_machine.proofs.Declared.{has_no_sets}
use Rattle.tx_machine.proofs.Sets.{put-same}
use Rattle.seq_model.specs.declared.call.Call.{Call}
use Rattle.seq_model.specs.declared.call.Reply.{Reply}
use Rattle.seq_model.specs.declared.event.Answer.TheVariants as answer
use Rattle.seq_model.specs.declared.event.Event.TheVariants.{Ask}
use Rattle.seq_model.specs.declared.event.Notice.TheVariants.{Answered, Refused}
use Rattle.seq_model.specs.declared.event.Request.TheVariants.{Commit}
use Rattle.seq_model.specs.declared.record.Record.{Record}
use Rattle.seq_model.specs.declared.refusal.Refusal.{Refusal}
use Rattle.seq_model.specs.declared.refusal.Refusal.TheVariants.{Memory as OutOfMemory}
use Rattle.replay_log.proofs.ActionLemmas.{ask_goes}
use Rattle.replay_log.proofs.EventLemmas.{opened_linked, run_linked}
use Rattle.replay_log.proofs.SeatLemmas.{StageOk}
use Rattle.replay_log.specs.Contents.{content}
use Rattle.replay_log.specs.Seats as worlds
use Rattle.replay_log.specs.Seats.{World, Seat, Stage, Closing, Locking, acted, actor_of, asks, at_stage}
use Rattle.replay_log.specs.Worlds.{ask_at, commits, happens, run}
use Rattle.tx_actor.specs.Running.{notice_of}
use Rattle.tx_actor.specs.declared.actor.ActorNotice.{ActorNotice}
use Rattle.tx_actor.specs.declared.actor.ActorNotice.TheVariants as told
use Rattle.tx_actor.specs.declared.actor.TxActor.{TxActor}
use Rattle.shared_table.specs.Opening.{blocks_at}
use Rattle.shared_table.specs.declared.seat.Seat as table
use Rattle.shared_table.specs.declared.table.TxTable.{TxTable}
use Rattle.shared_table.specs.Seated.{acts, opening_of, out, view}
use Rattle.shared_table.specs.Seated as seated
use Rattle.actor_laws.specs.Courses.{ComesTo, EndsFrom, IsUnderWay, IsUnderWayFrom}
use Rattle.actor_laws.specs.KnownStages.{KnownStage, Rests, Stands, Commits, known_stage, known_stage_at}
use Rattle.tx_engine.proofs.CallLemmas.{stands_at}
use Rattle.tx_turns.proofs.EndedLemmas.{IsGoing}
use Rattle.tx_turns.proofs.SnapshotLemmas.{Keeps, asks_keep}
use Rattle.tx_engine.proofs.KindLemmas.{commit_given_up, commit_without_memory}
use Rattle.tx_engine.proofs.RequestLemmas.{asked_aborted, asked_keeps, ended_back, found_told, noted_for, then_keeps, told_back}
use Rattle.tx_engine.proofs.RequestLemmas.{turns_keep}
use Rattle.tx_turns.specs.Driven.{Driven, HasTold, IsNumberOf, IsStamped, IsStampedAt, IsTrue, KnowsNumber}
use Rattle.tx_turns.specs.Driven.{is_closing, is_declared, seat_in, standing}
use Rattle.tx_engine.specs.Requests.{CommitsTo, HasAborted, HasCommitted, HasSameAborted, IsCommitRefusal, IsCommitTold, IsEnded}
use Rattle.tx_engine.specs.Requests.{IsLastAborted, KeepsReceipts, has_some, has_written}
use Rattle.tx_turns.proofs.OwnLemmas.{own_ok}
use Rattle.tx_turns.proofs.LoneRequestLemmas.{acts_taken}
use Rattle.tx_turns.specs.RequestStep.{HasAsked}
use Rattle.tx_turns.specs.Ties.{Ties}

-- as it is asked, it has none yet: its word actor is to lock, or to load the clock
locks_first : (k : ℕ) (y : Actor) (es : Entries) → y.place ≡ machine.Open → IsStamped k (lock y es)
locks_first k y [] at = subst (IsStampedAt k y) (sym at) tt
locks_first k y (e ∷ es) at = tt

closes_first : (k : ℕ) (y : Actor) (es : Entries) → y.place ≡ machine.Open → IsStamped k (close y es)
closes_first k y [] at = tt
closes_first k y (e ∷ es) at = subst (IsStampedAt k y) (sym at) tt

not_twice : (b : Bool) → not (not b) ≡ b
not_twice true = refl
not_twice false = refl

module _ {V : Type 0} where
  -- ---- the ask
  commits_at : (w : World V) (a : ℕ) (x : Seat V) (es : Entries) → let y = (commits w a x es).0.seats a in
      (known_stage y ≡ Commits x.calls) × (is_closing y.stage ≡ not (has_some es))
  commits_at w a x [] =
      let e = put-same (acted w (asks a word.AskClose ∷ [])).seats a (at_stage x Closing) in
      (ap known_stage e, ap (λ (y : Seat V). is_closing y.stage) e)
  commits_at w a x (d ∷ es) =
      let e = put-same (acted w (asks a word.AskLock ∷ [])).seats a (at_stage x Locking) in
      (ap known_stage e, ap (λ (y : Seat V). is_closing y.stage) e)

  same_calls : (cs calls : List (Call V × Reply V)) (st : Stage V) → known_stage_at cs st ≡ Stands calls → Commits cs ≡ Commits calls
  same_calls cs calls worlds.Open h = (let e : Stands cs ≡ Stands calls = h in cc)
  same_calls cs calls st h = absurd (let z : ⊥ = cc in z)

  pub commit_asked : (o : World V) (s m : table.Seat V) (calls : List (Call V × Reply V)) → standing o s ≡ Stands calls
      → HasAsked s Commit m
      → (standing o m ≡ Commits calls) × (is_closing (seat_in o m).stage ≡ not (has_written o s))
  commit_asked o s m calls on has =
      let a = seated.actor s in
      let w = acts o s in
      let x = w.seats a in
      let e : seat_in o m ≡ (commits w a x (actor_of w a).writes).0.seats a =
      (λ i. (acts_taken o s m (Ask 0 Commit) has i).seats (has.0.1 i))
      ∙ ap (λ (st : Stage V). (ask_at w a x st Commit).0.seats a) (stands_at x.calls calls x.stage on) in
      let h = commits_at w a x (actor_of w a).writes in
      (ap known_stage e ∙ (h.0 ∙ same_calls x.calls calls x.stage on), ap (λ (y : Seat V). is_closing y.stage) e ∙ h.1)

  -- ---- its numbers
  pub commit_began : (o : World V) (s m : table.Seat V) (calls : List (Call V × Reply V)) → standing o s ≡ Stands calls
      → HasAsked s Commit m
      → (seat_in o m).rv ≡ (seat_in o s).rv
  commit_began o s m calls on has =
      kept (asks_keep (acts o s) (seated.actor s) Commit (stands_at (seat_in o s).calls calls (seat_in o s).stage on))
    where
      seat_is : seat_in o m ≡ (happens (acts o s) (Ask (seated.actor s) Commit)).0.seats (seated.actor s)
      seat_is i = (acts_taken o s m (Ask 0 Commit) has i).seats (has.0.1 i)

      kept : Keeps (seat_in o s) ((happens (acts o s) (Ask (seated.actor s) Commit)).0.seats (seated.actor s))
          → (seat_in o m).rv ≡ (seat_in o s).rv
      kept (inl e) = ap (λ (x : Seat V). x.rv) seat_is ∙ e.0
      kept (inr (inl e)) = ap (λ (x : Seat V). x.rv) seat_is ∙ e.0
      kept (inr (inr e)) =
          absurd (let k = sym (commit_asked o s m calls on has).0 ∙ (ap known_stage seat_is ∙ e) in let j : Commits calls ≡ Rests = k in cc)

  -- as it is asked, it has none yet
  unstamped : (w : World V) (a k : ℕ) (x : Seat V) (es : Entries) → (actor_of w a).place ≡ machine.Open
      → IsStamped k (actor_of (commits w a x es).0 a)
  unstamped w a k x [] at =
      let y = actor_of w a in
      subst (IsStamped k) (sym (ask_goes (content w.words w.blocks) w.boosted a machine.Open word.AskClose at tt).own.actor)
      (closes_first k y y.writes at)
  unstamped w a k x (e ∷ es) at =
      let y = actor_of w a in
      subst (IsStamped k) (sym (ask_goes (content w.words w.blocks) w.boosted a machine.Open word.AskLock at tt).own.actor)
      (locks_first k y y.writes at)

  place_open : (t : TxTable V) (s : table.Seat V) (r : TxActor V) (calls : List (Call V × Reply V)) → Ties t s r
      → standing (opening_of t) s ≡ Stands calls → (actor_of (acts (opening_of t) s) (seated.actor s)).place ≡ machine.Open
  place_open t s r calls ties on =
      let a = seated.actor s in
      let w = acts (opening_of t) s in
      let x = w.seats a in
      (subst (λ (st : Stage V). StageOk w.words w.blocks x (actor_of w a) (w.boosted.shadows a) st (actor_of w a).place)
      (stands_at x.calls calls x.stage on) (own_ok t.whole.shared.key a w ties.reached)).0

  pub commit_knows : (t : TxTable V) (s m : table.Seat V) (r : TxActor V) (calls : List (Call V × Reply V)) → Ties t s r
      → standing (opening_of t) s ≡ Stands calls → HasAsked s Commit m → KnowsNumber (opening_of t) m
  commit_knows t s m r calls ties on has cs e =
      let o = opening_of t in
      let a = seated.actor s in
      let w = acts o s in
      let x = w.seats a in
      let at : x.stage ≡ worlds.Open = stands_at x.calls calls x.stage on in
      let place : (actor_of w a).place ≡ machine.Open = place_open t s r calls ties on in
      subst (IsStamped (view m).clock) (sym ((λ i. actor_of (acts_taken o s m (Ask 0 Commit) has i) (has.0.1 i))
      ∙ ap (λ (st : Stage V). actor_of (ask_at w a x st Commit).0 a) at))
      (unstamped w a (view m).clock x (actor_of w a).writes place)

  -- a declared reader has written nothing
  pub reader_writes : (t : TxTable V) (s : table.Seat V) (r : TxActor V) (calls : List (Call V × Reply V)) → Ties t s r
      → standing (opening_of t) s ≡ Stands calls → is_declared (opening_of t) s ≡ true → has_written (opening_of t) s ≡ false
  reader_writes t s r calls ties on reads =
      let o = opening_of t in
      let key = t.whole.shared.key in
      let a = seated.actor s in
      let h = ties.reached in
      let w = run o h.events in
      let linked = run_linked h.events o
      (opened_linked (blocks_at key) key.shape.value.clock key.state.value.words key.state.value.held h.stripes) in
      let is : actor_of w a ≡ actor_of (acts o s) a = h.alike.boosted.actor in
      let none = has_no_sets w.boosted.words a linked.base.inv.machine (ap (λ (y : Actor). y.declared) is ∙ reads)
      (ap (λ (y : Actor). y.place) is ∙ place_open t s r calls ties on) in
      ap has_some (ap (λ (y : Actor). y.writes) (sym is) ∙ none.1)

  pub under_commits : (x : Seat V) (calls : List (Call V × Reply V)) → known_stage x ≡ Commits calls → IsUnderWay x x None
  under_commits x calls on = subst (λ (p : KnownStage V). IsUnderWayFrom x p x None) (sym on) (inl (inl on, refl))

  -- ---- the turns
  module _ (o : World V) (s u : table.Seat V) (calls : List (Call V × Reply V)) (on : standing o s ≡ Commits calls)
      (outs : out u ≡ out s) where
    abbrev a : ℕ
    a = seated.actor s

    ends_from : (n : ActorNotice V) (d : Option (Record V)) → n ≢ told.Quiet → ComesTo a (seat_in o s) (notice_of a n) (seat_in o u) d
        → EndsFrom a (seat_in o s) (Commits calls) (notice_of a n) (seat_in o u) d
    ends_from told.Quiet d ne h = absurd (ne refl)
    ends_from (told.Answered q) d ne h =
        subst (λ (p : KnownStage V). EndsFrom a (seat_in o s) p (Answered a q) (seat_in o u) d) on h
    ends_from (told.Refused cause) d ne h =
        subst (λ (p : KnownStage V). EndsFrom a (seat_in o s) p (Refused a cause) (seat_in o u) d) on h

    -- what a commit with this record has answered
    abbrev IsMade : ActorNotice V → Record V → Type 0
    IsMade n r = (standing o u ≡ Rests) × (r.calls ≡ calls) × (n ≡ told.Answered (answer.Committed r.number))

    made : (n : ActorNotice V) (r : Record V) → EndsFrom a (seat_in o s) (Commits calls) (notice_of a n) (seat_in o u) (Some r) → IsMade n r
    made told.Quiet r h = absurd h
    made (told.Answered (answer.Committed k)) r h = (h.0, h.1.0, ap (λ (i : ℕ). told.Answered (answer.Committed i)) (sym h.1.1))
    made (told.Answered q) r h = absurd h
    made (told.Refused cause) r h = absurd (let e = h.1 in let z : ⊥ = cc in z)

    pub committed : (n : ActorNotice V) (r : Record V) → n ≢ told.Quiet → Driven o s u n (Some r)
        → HasCommitted o s u r × (standing o s ≡ Commits r.calls) × (r.writes ≡ not (is_closing (seat_in o s).stage))
        × (KnowsNumber o s → IsNumberOf (seat_in o s).rv (view u).clock r) × HasSameAborted o s u
    committed n r ne D =
        let h = made n r (ends_from n (Some r) ne D.comes) in (
          record {
            seat = (D.seat.0, D.seat.1);
            shares = D.shares;
            receipts = D.gains;
            joined = D.joined;
            looks = D.looks;
            outs = outs;
            rises = D.rises;
            rests = h.0;
            told = subst (λ (k : ActorNotice V). HasTold o s u k) h.2 (D.tells ne);
          },
          on ∙ ap Commits (sym h.1),
          D.written,
          λ knows. D.numbered knows r refl,
          D.aborted.committed r.number h.2,
        )

    pub refused : (cause : Refusal) → Driven o s u (told.Refused cause) None
        → KeepsReceipts s u × IsEnded o s u cause × IsCommitRefusal cause
    refused cause D =
        let h = subst (λ (p : KnownStage V). EndsFrom a (seat_in o s) p (Refused a cause) (seat_in o u) None) on D.comes in
        let truth = subst (λ (p : KnownStage V). IsTrue o s u p (told.Refused cause)) on D.is_true in
        let tells = D.tells (λ e. cc) in
        (turns_keep o s u (told.Refused cause) None refl outs D, (h.0, found_told o s u cause truth.0 tells), commit_given_up cause truth.1)

    -- without a record it was refused
    none_told : (n : ActorNotice V) → n ≢ told.Quiet → EndsFrom a (seat_in o s) (Commits calls) (notice_of a n) (seat_in o u) None
        → IsCommitTold n None
    none_told told.Quiet ne h = absurd (ne refl)
    none_told (told.Answered (answer.Committed k)) ne h = absurd h.1
    none_told (told.Answered q) ne h = absurd h
    none_told (told.Refused cause) ne h = tt

    pub commit_told : (n : ActorNotice V) (d : Option (Record V)) → n ≢ told.Quiet → Driven o s u n d → IsCommitTold n d
    commit_told n (Some r) ne D = tt
    commit_told n None ne D = none_told n ne (ends_from n None ne D.comes)

  same_stands : (cs calls : List (Call V × Reply V)) → ◌≡◌ {A = KnownStage V} (Commits cs) (Commits calls)
      → ◌≡◌ {A = KnownStage V} (Stands cs) (Stands calls)
  same_stands cs calls e = cc

  -- the commit that was asked
  pub committed_back : (o : World V) (s m u : table.Seat V) (r : Record V) → KeepsReceipts s m → HasCommitted o m u r → HasCommitted o s u r
  committed_back o s m u r kept h = record {
    seat = (h.seat.0 ∙ kept.seat.0, h.seat.1 ∙ kept.seat.1);
    shares = h.shares ∙ kept.shares;
    receipts = h.receipts ∙ (λ i. kept.receipts i ++ (kept.seat.1 i, r) ∷ []);
    joined = h.joined ∙ kept.joined;
    looks = h.looks ∙ kept.looks;
    outs = h.outs ∙ kept.outs;
    rises = (let p = h.rises in let q = kept.rises in omega (arith, p, q));
    rests = h.rests;
    told = told_back o s m u (told.Answered (answer.Committed r.number)) kept h.told;
  }

  pub commits_to : (t : TxTable V) (s m u : table.Seat V) (q : TxActor V) (calls : List (Call V × Reply V)) → Ties t s q
      → standing (opening_of t) s ≡ Stands calls → HasAsked s Commit m → out u ≡ out m → (n : ActorNotice V) (d : Option (Record V))
      (r : Result (Record V) Refusal) → n ≢ told.Quiet → Driven (opening_of t) m u n d
      → MatchResult r (λ q. d ≡ Some q) (λ cause. (d ≡ None) × (n ≡ told.Refused cause)) → CommitsTo (opening_of t) s u r
  commits_to t s m u q calls ties on has outs n d (Ok r) ne D h =
      let o = opening_of t in
      let A = commit_asked o s m calls on has in
      let C = committed o m u calls A.0 outs n r ne (subst (λ (k : Option (Record V)). Driven o m u n k) h D) in
      let wrote : r.writes ≡ has_written o s = C.2 ∙ (ap not A.1 ∙ not_twice (has_written o s)) in
      record {
        committed = committed_back o s m u r (asked_keeps s m (has.0, has.1)) C.0;
        calls = on ∙ same_stands calls r.calls (sym A.0 ∙ C.1);
        writes = wrote;
        reader = λ reads. wrote ∙ reader_writes t s q calls ties on reads;
        number = subst (λ (k : ℕ). IsNumberOf k (view u).clock r) (commit_began o s m calls on has)
            (C.3 (commit_knows t s m q calls ties on has));
        keeps = tt;
        ended = tt;
        aborted = tt;
        same = C.4 ∙ asked_aborted o s m Commit has;
        kinds = tt;
      }
  commits_to t s m u q calls ties on has outs n d (Err cause) ne D h =
      let o = opening_of t in
      let kept = asked_keeps s m (has.0, has.1) in
      let R = refused o m u calls (commit_asked o s m calls on has).0 outs cause
      (subst (λ (k : ActorNotice V × Option (Record V)). Driven o m u k.0 k.1) (λ i. (h.1 i, h.0 i)) D) in
      record {
        committed = tt;
        calls = tt;
        writes = tt;
        reader = tt;
        number = tt;
        keeps = then_keeps s m u kept R.0;
        ended = λ _. ended_back o s m u cause kept R.1;
        aborted = λ _. inl (noted_for o s m u Commit (stands_at (seat_in o s).calls calls (seat_in o s).stage on) has
            (subst IsGoing (sym (commit_asked o s m calls on has).0) tt) n d (Some cause) D (ap (notice_of (seated.actor m)) h.1) R.1.0);
        same = tt;
        kinds = R.2;
      }

  -- one for which an allocation failed as it was asked
  pub starved_commit : (o : World V) (s u : table.Seat V) (cause : Refusal) → KeepsReceipts s u → standing o u ≡ Rests
      → cause ≡ OutOfMemory → HasAborted o s u → IsLastAborted o s u None → CommitsTo o s u (Err cause)
  starved_commit o s u cause keeps rests memory aborted noted = record {
    committed = tt;
    calls = tt;
    writes = tt;
    reader = tt;
    number = tt;
    keeps = keeps;
    ended = λ _. (rests, inr (memory, inr aborted));
    aborted = λ _. inr (memory, noted);
    same = tt;
    kinds = commit_without_memory cause memory;
  }

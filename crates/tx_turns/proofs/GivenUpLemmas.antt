-- A request for which an allocation failed.
--
-- It is being aborted in the world with its seat alone by then, and its answer at its end is that failure (`is_memory`). So its turns up to
-- there, and those by which its gates and its locks went back, are together the turns of the request: it has no transaction any more, and
-- made no record.
use Rattle.std.proofs.Common.{◌≡◌, ◌≢◌, ℕ, true, true≢false, List, [], ◌∷◌, ◌++◌, Option, Some, None, inl, inr, refl, sym, ap, ◌∙◌}
use Rattle.std.proofs.Common.{subst}
use Rattle.std.proofs.Common.{arith}
use Rattle.std.proofs.lemmas.List.{append-nil, append_assoc}
use Rattle.seq_model.specs.declared.call.Call.{Call}
use Rattle.seq_model.specs.declared.call.Reply.{Reply}
use Rattle.seq_model.specs.declared.event.Event.TheVariants.{Starve}
use Rattle.seq_model.specs.declared.event.Notice.TheVariants.{Answered, Refused}
use Rattle.seq_model.specs.declared.record.Record.{Record}
use Rattle.seq_model.specs.declared.refusal.Refusal.TheVariants.{Memory as OutOfMemory}
use Rattle.replay_log.proofs.AnswerLemmas.{starves}
use Rattle.replay_log.specs.Seats as worlds
use Rattle.replay_log.specs.Seats.{World, After, Seat, Stage, Cancelling, Leaving, Returning, actor_of}
use Rattle.replay_log.specs.Worlds.{happens, why}
use Rattle.replay_log.specs.WorldAnswers.{IsStarved}
use Rattle.replay_log.specs.WorldRefusals.{is_ending}
use Rattle.actor_parts.specs.Dispatch.{next_of}
use Rattle.tx_actor.proofs.SeatLemmas.{next_as}
use Rattle.tx_actor.specs.Running.{notice_of, stage_of}
use Rattle.tx_actor.specs.declared.actor.ActorNotice.{ActorNotice}
use Rattle.tx_actor.specs.declared.actor.ActorNotice.TheVariants as told
use Rattle.actor_laws.proofs.OneStep.{one_step}
use Rattle.shared_table.specs.declared.seat.Seat as table
use Rattle.tx_actor.specs.declared.actor.TxActor.{TxActor}
use Rattle.shared_table.specs.declared.table.TxTable.{TxTable}
use Rattle.shared_table.specs.declared.view.Turn.{Turn}
use Rattle.shared_table.specs.Seated.{acts, opening_of, view}
use Rattle.shared_table.specs.Seated as seated
use Rattle.actor_laws.specs.Courses.{ComesTo, EndsFrom, IsUnderWay, IsUnderWayFrom}
use Rattle.actor_laws.specs.KnownStages.{KnownStage, Rests, Begins, Stands, Calls, Commits, Committed, Ends, known_stage, known_stage_at}
use Rattle.tx_turns.specs.RequestStep.{Starved}
use Rattle.tx_turns.specs.Ties.{Ties}
use Rattle.tx_turns.proofs.RequestHistoryLemmas.{taken_requests}
use Rattle.tx_turns.proofs.DeclaredLemmas.{reader_starves}
use Rattle.tx_turns.proofs.DrivenLemmas.{driven_on}
use Rattle.tx_turns.proofs.SnapshotLemmas.{Keeps, Same, starves_keep}
use Rattle.tx_turns.proofs.NextLemmas.{IsHalfway, load_wants, turn_wants, wants_halfway}
use Rattle.tx_turns.proofs.SinceLemmas.{told_back}
use Rattle.tx_turns.specs.Refused.{IsGivenUp}
use Rattle.tx_turns.specs.RequestHistory.{requests_of}
use Rattle.tx_turns.specs.Driven.{Driven, IsTrue, MayWant, Stops, WantsMemory, seat_in, standing}

module _ {V : Type 0} where
  -- ---- a transaction that is being aborted
  pub under_ends : (x : Seat V) → known_stage x ≡ Ends → IsUnderWay x x None
  under_ends x on = subst (λ (p : KnownStage V). IsUnderWayFrom x p x None) (sym on) (on, refl, refl)

  -- it makes no record, and is answered why it was aborted
  pub none_ends : (o : World V) (s u : table.Seat V) (n : ActorNotice V) (d : Option (Record V)) → standing o s ≡ Ends → Driven o s u n d
      → n ≢ told.Quiet
      → (d ≡ None) × (standing o u ≡ Rests) × (notice_of (seated.actor s) n ≡ why (seated.actor s) (seat_in o s).cause)
  none_ends o s u told.Quiet d on D ne = absurd (ne refl)
  none_ends o s u (told.Answered q) d on D ne =
      let a = seated.actor s in
      let h = subst (λ (p : KnownStage V). EndsFrom a (seat_in o s) p (Answered a q) (seat_in o u) d) on D.comes in (h.2, h.0, h.1)
  none_ends o s u (told.Refused cause) d on D ne =
      let a = seated.actor s in
      let h = subst (λ (p : KnownStage V). EndsFrom a (seat_in o s) p (Refused a cause) (seat_in o u) d) on D.comes in (h.2, h.0, h.1)

  ending_ends : (calls : List (Call V × Reply V)) (st : Stage V) → is_ending st ≡ true → known_stage_at calls st ≡ Ends
  ending_ends calls Cancelling h = refl
  ending_ends calls Leaving h = refl
  ending_ends calls (Returning ks) h = refl
  ending_ends calls st h = absurd (true≢false (sym h))

  -- a failed allocation at a turn that takes some
  abbrev IsUp : Seat V → Type 0
  IsUp x = (is_ending x.stage ≡ true) × (x.cause ≡ Some OutOfMemory)

  starved_up : (w : World V) (a : ℕ) (st : Stage V) (r : After V) → MayWant st → IsStarved w a st r → IsUp (r.0.seats a)
  starved_up w a (worlds.Trying asked tries) r h is = (is.0, is.1)
  starved_up w a (worlds.Copying asked) r h is = (is.0, is.1)
  starved_up w a (worlds.Loading o left) r h is = (is.0, is.1)
  starved_up w a (worlds.Gating got ks tries) r h is = (is.0, is.1)
  starved_up w a (worlds.Ready ks) r h is = (is.0, is.1)
  starved_up w a (worlds.Homing []) r h is = absurd h
  starved_up w a (worlds.Homing (k ∷ ks)) r h is = absurd h
  starved_up w a (worlds.Returning []) r h is = absurd h
  starved_up w a (worlds.Returning (k ∷ ks)) r h is = absurd h
  starved_up w a st r h is = absurd h

  -- ---- a call, or a commit without a record
  halfway_from : (s x : Seat V) (d : Option (Record V)) (p : KnownStage V) → IsUnderWayFrom s p x d → IsHalfway (known_stage x)
      → IsHalfway p
  halfway_from s x d Begins h half = subst IsHalfway h.0 half
  halfway_from s x d (Calls calls call) h half = tt
  halfway_from s x d (Commits calls) h half = tt
  halfway_from s x d Ends h half = subst IsHalfway h.0 half
  halfway_from s x d Rests h half = absurd h
  halfway_from s x d (Stands calls) h half = absurd h
  halfway_from s x d Committed h half = absurd h

  halfway_none : (s x : Seat V) (d : Option (Record V)) (p : KnownStage V) → IsUnderWayFrom s p x d → IsHalfway (known_stage x) → d ≡ None
  halfway_none s x d Begins h half = h.1
  halfway_none s x d (Calls calls call) h half = h.1
  halfway_none s x d (Commits calls) (inl h) half = h.1
  halfway_none s x d (Commits calls) (inr has) half = absurd (subst IsHalfway has.0 half)
  halfway_none s x d Ends h half = h.2
  halfway_none s x d Rests h half = absurd h
  halfway_none s x d (Stands calls) h half = absurd h
  halfway_none s x d Committed h half = absurd h

  -- it has ended so as an allocation failed
  halfway_ends : (a : ℕ) (s x : Seat V) (p : KnownStage V) → IsHalfway p → known_stage x ≡ Rests
      → EndsFrom a s p (Refused a OutOfMemory) x None
  halfway_ends a s x (Calls calls call) half rests = (inr rests, refl)
  halfway_ends a s x (Commits calls) half rests = (rests, refl)
  halfway_ends a s x p half rests = absurd half

  halfway_true : (o : World V) (s u : table.Seat V) (p : KnownStage V) → IsHalfway p → IsTrue o s u p (told.Refused OutOfMemory)
  halfway_true o s u (Calls calls call) half = inl (inr refl, tt)
  halfway_true o s u (Commits calls) half = (inr refl, tt)
  halfway_true o s u p half = absurd half

  is_memory : (a : ℕ) (n : ActorNotice V) → notice_of a n ≡ Refused a OutOfMemory → n ≡ told.Refused OutOfMemory
  is_memory a told.Quiet e = absurd (let z : ⊥ = cc in z)
  is_memory a (told.Answered q) e = absurd (let z : ⊥ = cc in z)
  is_memory a (told.Refused cause) e = (let f : cause ≡ OutOfMemory = cc in ap told.Refused f)

  no_commit : (p : KnownStage V) (calls : List (Call V × Reply V)) → p ≡ Rests → p ≡ Commits calls → ⊥
  no_commit p calls rests e = (let f : Rests ≡ Commits calls = sym rests ∙ e in cc)

  -- ---- one that stopped as an allocation failed
  pub stops_by : (o : World V) (s u z : table.Seat V) (said : ActorNotice V) (d : Option (Record V)) → Driven o s u told.Quiet d
      → MayWant (seat_in o u).stage → Starved o u z said → Stops o s z
  stops_by o s u z said d D wants starved =
      let x = seat_in o u in
      let none : d ≡ None = halfway_none (seat_in o s) x d (known_stage (seat_in o s)) D.comes (wants_halfway x.calls x.stage wants) in
      record {
        before = u;
        driven = subst (λ (k : Option (Record V)). Driven o s u told.Quiet k) none D;
        wants = wants;
        said = said;
        starved = starved;
      }

  -- at a turn, or after the store of a gate
  pub stops_at : (t : TxTable V) (s u z : table.Seat V) (r : TxActor V) (said : ActorNotice V) (d : Option (Record V)) → Ties t u r
      → Driven (opening_of t) s u told.Quiet d → WantsMemory (next_of (stage_of r.stage)) → IsGivenUp (opening_of t) u r z said
      → Stops (opening_of t) s z
  stops_at t s u z r said d ties D wants (inl starved) =
      let x = seat_in (opening_of t) u in
      stops_by (opening_of t) s u z said d D
      (turn_wants x.stage (subst WantsMemory (sym (next_as (acts (opening_of t) u) (seated.actor u) r ties.runs)) wants)) starved
  stops_at t s u z r said d ties D wants (inr behind) =
      stops_by (opening_of t) s behind.middle z said d (driven_on t s u behind.middle r told.Quiet d ties D behind.turned None behind.none)
      (load_wants (seat_in (opening_of t) behind.middle).stage behind.loads) behind.starved

  module _ (o : World V) (s u : table.Seat V) (S : Stops o s u) where
    abbrev m : table.Seat V
    m = S.before

    halfway : IsHalfway (known_stage (seat_in o s))
    halfway = halfway_from (seat_in o s) (seat_in o m) None (known_stage (seat_in o s)) S.driven.comes
        (wants_halfway (seat_in o m).calls (seat_in o m).stage S.wants)

    up : IsUp (seat_in o u)
    up =
        let a = seated.actor m in
        let w = acts o m in
        subst IsUp (λ i. (sym S.starved.own i).seats (sym S.starved.taken.0.1 i))
        (starved_up w a (w.seats a).stage (happens w (Starve a)) S.wants (starves w a))

    pub stopped_ends : standing o u ≡ Ends
    stopped_ends = ending_ends (seat_in o u).calls (seat_in o u).stage up.0

    -- one that is aborted already does not stop
    pub ends_never : standing o s ≡ Ends → ⊥
    ends_never ends = subst IsHalfway ends halfway

    same : seated.actor u ≡ seated.actor s
    same = S.starved.taken.0.1 ∙ S.driven.seat.1

    turns_to : (view u).turns ≡ (view s).turns ++ S.driven.more
    turns_to = ap (λ k. k.0.turns) S.starved.taken.1 ∙ S.driven.turns

    pub given_up : (z : table.Seat V) (n : ActorNotice V) → n ≢ told.Quiet → Driven o u z n None → Driven o s z n None
    given_up z n ne D =
        let a = seated.actor s in
        let ends = none_ends o u z n None stopped_ends D ne in
        let rests = ends.1 in
        let memory : n ≡ told.Refused OutOfMemory =
        is_memory (seated.actor u) n (ends.2 ∙ ap (why (seated.actor u)) up.1) in
        record {
          seat = (D.seat.0 ∙ (S.starved.taken.0.0 ∙ S.driven.seat.0), D.seat.1 ∙ same, D.seat.2 ∙ (S.starved.taken.0.2 ∙ S.driven.seat.2));
          more = S.driven.more ++ D.more;
          turns = D.turns ∙ (ap (λ (is : List (Turn V)). is ++ D.more) turns_to ∙ append_assoc (view s).turns S.driven.more D.more);
          shares = D.shares ∙ (ap (λ k. k.0.shares) S.starved.taken.1 ∙ S.driven.shares);
          joined = D.joined ∙ (ap (λ k. k.0.joined) S.starved.taken.1 ∙ S.driven.joined);
          looks = D.looks ∙ (ap (λ k. k.0.looks) S.starved.taken.1 ∙ S.driven.looks);
          gains = D.gains ∙ (append-nil (view u).receipts ∙ (ap (λ k. k.0.receipts) S.starved.taken.1 ∙ S.driven.gains));
          rises = (let p = S.driven.rises in let q = D.rises in
              let e : (view u).clock ≡ (view m).clock = ap (λ k. k.0.clock) S.starved.taken.1 in omega (arith, p, q, e));
          comes = subst (λ (k : ActorNotice V). ComesTo a (seat_in o s) (notice_of a k) (seat_in o z) None) (sym memory)
              (halfway_ends a (seat_in o s) (seat_in o z) (known_stage (seat_in o s)) halfway rests);
          is_true = subst (λ (k : ActorNotice V). IsTrue o s z (standing o s) k) (sym memory) (halfway_true o s z (standing o s) halfway);
          tells = λ told. told_back o s u same S.driven.more turns_to z n (D.tells told);
          written = λ calls e. absurd (no_commit (known_stage (seat_in o z)) calls rests e);
          began = λ _ going. absurd (going rests);
          declared = λ _ going. absurd (going rests);
          reader = λ is. D.reader ((λ i. (actor_of (S.starved.own i) (S.starved.taken.0.1 i)).declared)
              ∙ reader_starves (acts o m) (seated.actor m) (S.driven.reader is));
          stamped = λ _ calls e. absurd (no_commit (known_stage (seat_in o z)) calls rests e);
          numbered = λ _ r none. absurd (let f : ⊥ = cc in f);
          asks = D.asks ∙ (taken_requests m u (Starve 0) S.starved.taken ∙ (append-nil (requests_of m) ∙ S.driven.asks));
          aborted = record {
            calls = λ quiet. absurd (ne quiet);
            quiet = λ quiet. absurd (ne quiet);
            begin = λ on. absurd (subst IsHalfway on halfway);
            going = λ busy. absurd (busy rests);
            committed = λ k e. absurd (let f = sym memory ∙ e in let z : ⊥ = cc in z);
            ended = λ cause is over isnt.
                (let added = D.aborted.ended cause (subst (λ (k : ℕ). notice_of k n ≡ why k cause) (sym same) is) over
                (λ e. (let f : Ends ≡ Begins = sym stopped_ends ∙ e in cc)) in
                let began : (seat_in o u).rv ≡ (seat_in o s).rv = starved_same.0 ∙ S.driven.began isnt goes_on in
                let calls : (seat_in o u).calls ≡ (seat_in o s).calls = starved_same.1 ∙ S.driven.aborted.calls refl isnt in
                added ∙ (λ i. (starved_aborted ∙ S.driven.aborted.quiet refl) i
                ++ record { actor = same i; rv = began i; calls = calls i; cause = cause } ∷ []));
          };
        }
      where
        goes_on : standing o m ≡ Rests → ⊥
        goes_on e = subst IsHalfway e (wants_halfway (seat_in o m).calls (seat_in o m).stage S.wants)

        starved_aborted : (acts o u).aborted ≡ (acts o m).aborted
        starved_aborted = ap (λ (w : World V). w.aborted) S.starved.own ∙ (one_step (acts o m) (Starve (seated.actor m))).aborted

        starved_same : Same (seat_in o m) (seat_in o u)
        starved_same =
            subst (Same (seat_in o m)) (λ i. (sym S.starved.own i).seats (sym S.starved.taken.0.1 i))
            (kept_by (starves_keep (acts o m) (seated.actor m) S.wants))
          where
            up_in : is_ending ((happens (acts o m) (Starve (seated.actor m))).0.seats (seated.actor m)).stage ≡ true
            up_in =
                (starved_up (acts o m) (seated.actor m) (seat_in o m).stage (happens (acts o m) (Starve (seated.actor m))) S.wants
                (starves (acts o m) (seated.actor m))).0

            kept_by : Keeps (seat_in o m) ((happens (acts o m) (Starve (seated.actor m))).0.seats (seated.actor m))
                → Same (seat_in o m) ((happens (acts o m) (Starve (seated.actor m))).0.seats (seated.actor m))
            kept_by (inl e) = e
            kept_by (inr (inl e)) = absurd (true≢false (sym up_in ∙ ap is_ending e.1))
            kept_by (inr (inr e)) = absurd
                (let y = (happens (acts o m) (Starve (seated.actor m))).0.seats (seated.actor m) in
                let f : Ends ≡ Rests = sym (ending_ends y.calls y.stage up_in) ∙ e in let z : ⊥ = cc in z)

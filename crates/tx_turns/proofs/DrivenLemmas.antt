-- A request is driven: what its turns so far have led to, and one turn more.
--
-- The step of a turn has happened in a world that events have reached, which was to the actor as the world with it alone. So the laws on
-- such worlds say of it what the request results in (`courses`), and that a cause is true that is noted there.
use Rattle.std.proofs.Common.{◌≡◌, ℕ, ◌≤◌, Bool, true, false, true≢false, List, [], ◌∷◌, ◌++◌, Option, Some, None, inl, inr, refl, sym}
use Rattle.std.proofs.Common.{ap, ◌∙◌, subst, arith}
use Rattle.std.specs.Prelude.{is_some}
use Rattle.std.proofs.lemmas.List.{append-nil, append_assoc}
use Rattle.tx_machine.specs.Actor as machine
use Rattle.seq_model.specs.declared.event.Answer.TheVariants as answer
use Rattle.seq_model.specs.declared.event.Event.TheVariants.{Step}
use Rattle.seq_model.specs.declared.event.Notice.{Notice}
use Rattle.seq_model.specs.declared.event.Notice.TheVariants.{Refused}
use Rattle.seq_model.specs.declared.record.Record.{Record}
use Rattle.seq_model.specs.declared.refusal.Refusal.{Refusal}
use Rattle.seq_model.specs.declared.refusal.Refusal.TheVariants as refusal
use Rattle.replay_log.proofs.AnswerLemmas.{refused_step}
use Rattle.replay_log.proofs.EventLemmas.{opened_linked, run_linked}
use Rattle.replay_log.proofs.RefusalLemmas.{keeps_cause, world_causes}
use Rattle.replay_log.proofs.SeatLemmas.{Linked, StageOk}
use Rattle.replay_log.specs.Seats.{World, After, Stage, Seat, Beginning, Cancelling, Closing, Leaving, Ready, Returning, actor_of}
use Rattle.replay_log.specs.Worlds.{happens, run, why}
use Rattle.replay_log.specs.WorldAnswers.{IsRefusedAt, RefusedBy}
use Rattle.replay_log.specs.WorldRefusals.{IsCause, is_ending}
use Rattle.replay_log.specs.WorldTraces.{committed_by}
use Rattle.actor_laws.specs.Own.{Alike}
use Rattle.tx_actor.specs.Running.{notice_of}
use Rattle.tx_actor.specs.declared.actor.ActorNotice.{ActorNotice}
use Rattle.tx_actor.specs.declared.actor.ActorNotice.TheVariants as told
use Rattle.tx_actor.specs.declared.actor.TxActor.{TxActor}
use Rattle.shared_table.specs.declared.seat.Seat as table
use Rattle.shared_table.specs.declared.table.TxTable.{TxTable}
use Rattle.shared_table.specs.declared.view.SeatKnowledge.{SeatKnowledge}
use Rattle.shared_table.specs.Opening.{blocks_at}
use Rattle.shared_table.specs.Seated.{acts, list_of, opening_of, view}
use Rattle.shared_table.specs.Seated as seated
use Rattle.shared_table.specs.Turns.{asked_all, ends_of, lone, moved}
use Rattle.shared_table.specs.declared.view.Turn.{Turn}
use Rattle.actor_laws.proofs.CourseLemmas.{on_call, on_commit, on_done, steps_come, ends_at}
use Rattle.actor_laws.proofs.KnownStageLemmas.{steps_move}
use Rattle.actor_laws.specs.Courses.{ComesTo, IsUnderWay, IsUnderWayFrom, latest}
use Rattle.actor_laws.specs.KnownStages.{KnownStage, Rests, Begins, Stands, Calls, Commits}
use Rattle.actor_laws.specs.KnownStages.{Committed, Ends, IsMistaken, StepMoves, known_stage, known_stage_at}
use Rattle.tx_turns.proofs.CauseLemmas.{IsOfCommit, call_cause, commit_cause}
use Rattle.tx_turns.proofs.DeclaredLemmas.{begin_declared, reader_moved}
use Rattle.tx_turns.proofs.EndedLemmas.{IsGoing, begin_added, done_added, ends_from, going_added, none_added, one_added}
use Rattle.tx_turns.proofs.EndedLemmas.{quiet_going, why_told}
use Rattle.tx_turns.proofs.SnapshotLemmas.{Keeps, steps_keep}
use Rattle.tx_turns.proofs.RequestHistoryLemmas.{turn_requests}
use Rattle.tx_turns.proofs.StampLemmas.{begun_clock, exhausted_clock, numbered, stamped_step}
use Rattle.tx_turns.proofs.WritingLemmas.{commits_first, is_commit, is_one, written_on}
use Rattle.tx_turns.specs.Driven.{AddsAborted, Driven, HasFound, IsNumberOf, IsReason}
use Rattle.tx_turns.specs.Driven.{IsStamped, IsTrue, IsTurnFrom, IsWritten, KnowsNumber}
use Rattle.tx_turns.specs.Driven.{as_receipts, is_declared, seat_in, standing}
use Rattle.tx_turns.proofs.OwnLemmas.{own_ok}
use Rattle.tx_turns.proofs.TurnLemmas.{ends_as as commits_as}
use Rattle.tx_turns.specs.Ties.{Ties, Turned, commits}

module _ {V : Type 0} where
  -- ---- what a step commits
  first_in : Record V → List (ℕ × Record V) → Record V
  first_in r [] = r
  first_in r (q ∷ qs) = q.1

  made_by : (a : ℕ) (x : Seat V) (st : Stage V) (e : Option (Record V)) → as_receipts a e ≡ ends_of a x st → e ≡ committed_by x st
  unfolding first_in
  made_by a x (Ready ks) None h = absurd (let z : ⊥ = cc in z)
  made_by a x (Ready ks) (Some r) h = ap (λ qs. Some (first_in r qs)) h
  made_by a x Closing None h = absurd (let z : ⊥ = cc in z)
  made_by a x Closing (Some r) h = ap (λ qs. Some (first_in r qs)) h
  made_by a x st None h = refl
  made_by a x st (Some r) h = absurd (let z : ⊥ = cc in z)

  fresh : (s x : Seat V) (d : Option (Record V)) (p : KnownStage V) → is_commit (known_stage x) ≡ true → IsUnderWayFrom s p x d → d ≡ None
  unfolding is_commit
  fresh s x d Begins c h = h.1
  fresh s x d (Calls calls call) c h = h.1
  fresh s x d (Commits calls) c (inl h) = h.1
  fresh s x d (Commits calls) c (inr has) = absurd (true≢false (sym c ∙ ap is_commit has.0))
  fresh s x d Ends c h = h.2
  fresh s x d Rests c h = absurd h
  fresh s x d (Stands calls) c h = absurd h
  fresh s x d Committed c h = absurd h

  gained : (a : ℕ) (e d : Option (Record V)) (rs : List (ℕ × Record V)) → ((r : Record V) → e ≡ Some r → d ≡ None)
      → (rs ++ as_receipts a d) ++ as_receipts a e ≡ rs ++ as_receipts a (latest e d)
  gained a None d rs new = append-nil (rs ++ as_receipts a d)
  gained a (Some r) d rs new =
      ap (λ (k : Option (Record V)). (rs ++ as_receipts a k) ++ (a, r) ∷ []) (new r refl)
      ∙ ap (λ (qs : List (ℕ × Record V)). qs ++ (a, r) ∷ []) (append-nil rs)

  -- ---- what is answered to one that is aborted
  ending_told : (v u : World V) (a : ℕ) (st : Stage V) (cause : Refusal) → is_ending st ≡ true → IsRefusedAt v a st u cause
      → (v.seats a).cause ≡ Some cause
  ending_told v u a Leaving cause e h = h.0
  ending_told v u a Cancelling cause e h = absurd h
  ending_told v u a (Returning ks) cause e h = absurd h
  ending_told v u a st cause e h = absurd (true≢false (sym e))

  begins_at : (calls : List (_ × _)) (st : Stage V) → known_stage_at calls st ≡ Begins → st ≡ Beginning
  begins_at calls Beginning h = refl
  begins_at calls st h = absurd (let z : ⊥ = cc in z)

  call_refused : (calls : List (_ × _)) (call : _) (b : Bool) (a : ℕ) (cause : Refusal) (p : KnownStage V)
      → StepMoves (Calls calls call) b (Refused a cause) p → (p ≡ Stands calls) × IsMistaken cause
  call_refused calls call true a cause p h = absurd h
  call_refused calls call false a cause p h = h

  commit_refused : (calls : List (_ × _)) (b : Bool) (a : ℕ) (cause : Refusal) (p : KnownStage V)
      → StepMoves (Commits calls) b (Refused a cause) p → ⊥
  commit_refused calls true a cause p h = h
  commit_refused calls false a cause p h = h

  done_refused : (b : Bool) (a : ℕ) (cause : Refusal) (p : KnownStage V) → StepMoves Committed b (Refused a cause) p → ⊥
  done_refused true a cause p h = h
  done_refused false a cause p h = h

  -- neither beginning nor idle
  abbrev IsBusy : KnownStage V → Type 0
  IsBusy Begins = ⊥
  IsBusy Rests = ⊥
  IsBusy p = Unit {0}

  apart : (q p : KnownStage V) → q ≡ p → IsBusy p → (q ≡ Begins → ⊥) × (q ≡ Rests → ⊥)
  apart q p e busy = (λ k. subst IsBusy (sym e ∙ k) busy, λ k. subst IsBusy (sym e ∙ k) busy)

  -- a request under way is no begin unless it was one, and not idle
  under_goes : (s x : Seat V) (d : Option (Record V)) (p : KnownStage V) → IsUnderWayFrom s p x d → (p ≡ Begins → ⊥)
      → (known_stage x ≡ Begins → ⊥) × (known_stage x ≡ Rests → ⊥)
  under_goes s x d Begins h isnt = absurd (isnt refl)
  under_goes s x d (Calls calls call) (inl at, none) isnt = apart (known_stage x) (Calls calls call) at tt
  under_goes s x d (Calls calls call) (inr up, none) isnt = apart (known_stage x) Ends up.0 tt
  under_goes s x d (Commits calls) (inl (inl at, none)) isnt = apart (known_stage x) (Commits calls) at tt
  under_goes s x d (Commits calls) (inl (inr up, none)) isnt = apart (known_stage x) Ends up.0 tt
  under_goes s x d (Commits calls) (inr has) isnt = apart (known_stage x) Committed has.0 tt
  under_goes s x d Ends h isnt = apart (known_stage x) Ends h.0 tt
  under_goes s x d Rests h isnt = absurd h
  under_goes s x d (Stands calls) h isnt = absurd h
  under_goes s x d Committed h isnt = absurd h

  -- ---- before the first turn
  true_first : (o : World V) (s : table.Seat V) (p : KnownStage V) → standing o s ≡ p → IsTrue o s s p told.Quiet
  true_first o s (Calls calls call) on = λ cause ends is. absurd (let e = sym on ∙ ends in let z : ⊥ = cc in z)
  true_first o s (Commits calls) on = λ cause ends is. absurd (let e = sym on ∙ ends in let z : ⊥ = cc in z)
  true_first o s p on = tt

  pub driven_first : (o : World V) (s : table.Seat V) → IsUnderWay (seat_in o s) (seat_in o s) None → Driven o s s told.Quiet None
  driven_first o s under = record {
    seat = (refl, refl, refl);
    more = [];
    turns = sym (append-nil (view s).turns);
    shares = refl;
    joined = refl;
    looks = refl;
    gains = sym (append-nil (view s).receipts);
    rises = omega arith;
    comes = under;
    is_true = true_first o s (standing o s) refl;
    tells = λ ne. absurd (ne refl);
    written = λ calls e. refl;
    began = λ _ _. refl;
    declared = λ _ _. refl;
    reader = λ is. is;
    stamped = λ knows. knows;
    numbered = λ knows r none. absurd (let z : ⊥ = cc in z);
    asks = refl;
    aborted = record {
      calls = λ _ _. refl;
      quiet = λ _. refl;
      begin = λ _. refl;
      going = λ _. refl;
      committed = λ k e. absurd (let z : ⊥ = cc in z);
      ended = λ cause is _ _. absurd (why_told (seated.actor s) cause (sym is));
    };
  }

  -- ---- one turn more
  module _ (t : TxTable V) (s u z : table.Seat V) (r : TxActor V) (n : ActorNotice V) (d : Option (Record V)) (ties : Ties t u r)
      (D : Driven (opening_of t) s u told.Quiet d) (T : Turned (opening_of t) u r z n) where
    abbrev o : World V
    o = opening_of t

    abbrev a : ℕ
    a = seated.actor u

    abbrev v : World V
    v = run o T.takes.happened.events

    abbrev x : Seat V
    x = v.seats a

    abbrev after : After V
    after = happens v (Step a)

    same : a ≡ seated.actor s
    same = D.seat.1

    x_is : x ≡ seat_in o u
    x_is = T.takes.happened.alike.seat

    y_is : after.0.seats a ≡ seat_in o z
    y_is = T.takes.happened.same.0.seat ∙ (λ i. (sym T.takes.own i).seats (sym T.takes.seat.1 i))

    told_is : after.1 ≡ notice_of a n
    told_is = T.takes.happened.same.1 ∙ sym T.tells

    linked : Linked v
    linked = run_linked T.takes.happened.events o
        (opened_linked (blocks_at t.whole.shared.key) t.whole.shared.key.shape.value.clock t.whole.shared.key.state.value.words
        t.whole.shared.key.state.value.held ties.reached.stripes)

    -- the turn is one of those from s on
    this : IsTurnFrom o s z v
    this = record {
      before = D.more;
      turn = record { asks = list_of u.asked; found = T.found; base = T.base };
      after = [];
      turns = ap (λ (w : SeatKnowledge V). w.turns) T.takes.turn
          ∙ ap (λ (is : List (Turn V)). is ++ record { asks = list_of u.asked; found = T.found; base = T.base } ∷ []) D.turns;
      events = T.takes.happened.events;
      reached = refl;
      alike = subst (λ (k : ℕ × List (Turn V)). Alike k.0 v (asked_all k.0 (lone k.0 o k.1) (list_of u.asked)))
          (λ i. (same i, D.turns i)) T.takes.happened.alike;
    }

    -- and those before it still are
    further : (w : World V) → IsTurnFrom o s u w → IsTurnFrom o s z w
    further w h = record {
      before = h.before;
      turn = h.turn;
      after = h.after ++ record { asks = list_of u.asked; found = T.found; base = T.base } ∷ [];
      turns = ap (λ (k : SeatKnowledge V). k.turns) T.takes.turn
          ∙ (ap (λ (is : List (Turn V)). is ++ record { asks = list_of u.asked; found = T.found; base = T.base } ∷ []) h.turns
          ∙ append_assoc ((view s).turns ++ h.before) (h.turn ∷ h.after)
          (record { asks = list_of u.asked; found = T.found; base = T.base } ∷ []));
      events = h.events;
      reached = h.reached;
      alike = h.alike;
    }

    still : (cause : Refusal) → IsReason o s u cause → IsReason o s z cause
    still cause (inl h) = inl (h.0, further h.0 h.1, h.2)
    still cause (inr memory) = inr memory

    -- a cause that is noted now is true
    found : (cause : Refusal) → is_ending x.stage ≡ false → standing o z ≡ Ends → (seat_in o z).cause ≡ Some cause
        → HasFound o s z cause × IsCause v a x.stage after.0 cause
    found cause on ends is =
        let c = world_causes (blocks_at t.whole.shared.key) t.whole.shared.key.shape.value.clock t.whole.shared.key.state.value.words
        t.whole.shared.key.state.value.held T.takes.happened.events a ties.reached.stripes on
        (ends_at (after.0.seats a) (ap known_stage y_is ∙ ends)) in
        let one : c.0 ≡ cause = (let q : Some c.0 ≡ Some cause = sym c.1 ∙ (ap (λ (k : Seat V). k.cause) y_is ∙ is) in cc) in (
          (
            v,
            this,
            subst (λ (k : ℕ × Refusal). IsCause v k.0 (v.seats k.0).stage (happens v (Step k.0)).0 k.1) (λ i. (same i, one i)) c.2,
          ),
          subst (λ (k : Refusal). IsCause v a x.stage after.0 k) one c.2,
        )

    -- one that was noted before is unchanged
    kept : (cause : Refusal) → known_stage (seat_in o u) ≡ Ends → standing o z ≡ Ends → (seat_in o z).cause ≡ Some cause
        → (seat_in o u).cause ≡ Some cause
    kept cause up ends is =
        ap (λ (k : Seat V). k.cause) (sym x_is)
        ∙ (sym (keeps_cause v a (ends_at x (ap known_stage x_is ∙ up)) (ends_at (after.0.seats a) (ap known_stage y_is ∙ ends)))
        ∙ (ap (λ (k : Seat V). k.cause) y_is ∙ is))

    refused : (cause : Refusal) → n ≡ told.Refused cause → IsRefusedAt v a x.stage after.0 cause
    refused cause e =
        (subst (λ (k : Notice V). RefusedBy a (IsRefusedAt v a x.stage after.0) k) (told_is
        ∙ ap (notice_of a) e) (refused_step v a linked)).1

    -- it is answered
    told_up : (cause : Refusal) → n ≡ told.Refused cause → known_stage (seat_in o u) ≡ Ends → (seat_in o u).cause ≡ Some cause
    told_up cause e up =
        ap (λ (k : Seat V). k.cause) (sym x_is)
        ∙ ending_told v after.0 a x.stage cause (ends_at x (ap known_stage x_is ∙ up)) (refused cause e)

    moves : (p : KnownStage V) (cause : Refusal) → n ≡ told.Refused cause → known_stage (seat_in o u) ≡ p
        → StepMoves p (is_some (committed_by x x.stage)) (Refused a cause) (known_stage (after.0.seats a))
    moves p cause e at =
        subst (λ (k : KnownStage V × Notice V). StepMoves k.0 (is_some (committed_by x x.stage)) k.1 (known_stage (after.0.seats a)))
        (λ i. ((ap known_stage x_is ∙ at) i, (told_is ∙ ap (notice_of a) e) i)) (steps_move v a)

    -- where its actor stands
    own : let w = acts o u in StageOk w.words w.blocks (w.seats a) (actor_of w a) (w.boosted.shadows a) (w.seats a).stage
        (actor_of w a).place
    own = own_ok t.whole.shared.key a (acts o u) ties.reached

    begin_place : (seat_in o u).stage ≡ Beginning → (actor_of (acts o u) a).place ≡ machine.Begin
    begin_place at =
        let w = acts o u in
        subst (λ (st : Stage V). StageOk w.words w.blocks (w.seats a) (actor_of w a) (w.boosted.shadows a) st
        (actor_of w a).place) at own

    truth : (p : KnownStage V) (m : ActorNotice V) → n ≡ m → IsUnderWayFrom (seat_in o s) p (seat_in o u) d → IsTrue o s u p told.Quiet
        → IsTrue o s z p m
    truth Begins told.Quiet e under was = tt
    truth Begins (told.Answered (answer.Begun rv)) e under was =
        let at = begins_at (seat_in o u).calls (seat_in o u).stage under.0 in
        begun_clock (acts o u) a T.found T.base T.clock rv at (begin_place at) T.clocks (sym T.tells ∙ ap (notice_of a) e)
        ∙ sym (ap (λ (k : SeatKnowledge V). k.clock) T.takes.turn)
    truth Begins (told.Answered q) e under was = tt
    truth Begins (told.Refused cause) e under was =
        let at : x.stage ≡ Beginning = begins_at x.calls x.stage (ap known_stage x_is ∙ under.0) in
        let h = subst (λ (st : Stage V). IsRefusedAt v a st after.0 cause) at (refused cause e) in
        let on = begins_at (seat_in o u).calls (seat_in o u).stage under.0 in
        let shown : cause ≡ refusal.Exhausted T.clock =
        exhausted_clock (acts o u) a T.found T.base T.clock cause on (begin_place on) T.clocks (sym T.tells ∙ ap (notice_of a) e) in
        (v, this, h.0, h.1, shown ∙ sym (ap (λ (k : SeatKnowledge V). refusal.Exhausted k.clock) T.takes.turn))
    truth (Calls calls call) told.Quiet e (inl at, none) was =
        λ cause ends is. (let on = ap known_stage x_is ∙ at in let f = found cause (on_call x calls call on) ends is in
        (inl f.0, call_cause v after.0 a linked calls call on cause f.1))
    truth (Calls calls call) told.Quiet e (inr up, none) was =
        λ cause ends is. (let h = was cause up.0 (kept cause up.0 ends is) in (still cause h.0, h.1))
    truth (Calls calls call) (told.Answered q) e under was = tt
    truth (Calls calls call) (told.Refused cause) e (inl at, none) was =
        let h = call_refused calls call _ a cause _ (moves (Calls calls call) cause e at) in inr (sym (ap known_stage y_is) ∙ h.0, h.1)
    truth (Calls calls call) (told.Refused cause) e (inr up, none) was =
        (let h = was cause up.0 (told_up cause e up.0) in inl (still cause h.0, h.1))
    truth (Commits calls) told.Quiet e (inl (inl at, none)) was =
        λ cause ends is. (let on = ap known_stage x_is ∙ at in let f = found cause (on_commit x calls on) ends is in
        (inl f.0, commit_cause v after.0 a linked (subst IsOfCommit (sym on) tt) cause f.1))
    truth (Commits calls) told.Quiet e (inl (inr up, none)) was =
        λ cause ends is. (let h = was cause up.0 (kept cause up.0 ends is) in (still cause h.0, h.1))
    truth (Commits calls) told.Quiet e (inr has) was =
        λ cause ends is. (let on = ap known_stage x_is ∙ has.0 in let f = found cause (on_done x on) ends is in
        (inl f.0, commit_cause v after.0 a linked (subst IsOfCommit (sym on) tt) cause f.1))
    truth (Commits calls) (told.Answered q) e under was = tt
    truth (Commits calls) (told.Refused cause) e (inl (inl at, none)) was =
        absurd (commit_refused calls _ a cause _ (moves (Commits calls) cause e at))
    truth (Commits calls) (told.Refused cause) e (inl (inr up, none)) was =
        (let h = was cause up.0 (told_up cause e up.0) in (still cause h.0, h.1))
    truth (Commits calls) (told.Refused cause) e (inr has) was = absurd (done_refused _ a cause _ (moves Committed cause e has.0))
    truth Rests m e under was = tt
    truth (Stands calls) m e under was = tt
    truth Committed m e under was = tt
    truth Ends m e under was = tt

    rises_to : (view u).clock ≤ (view z).clock
    rises_to =
        let q = T.rises in
        let k : (view z).clock ≡ T.clock = ap (λ (k : SeatKnowledge V). k.clock) T.takes.turn in
        omega (arith, q, k)

    -- the number at which it has begun is unchanged
    begun_stays : (standing o s ≡ Begins → ⊥) → (standing o z ≡ Rests → ⊥) → (seat_in o z).rv ≡ (seat_in o s).rv
    begun_stays isnt rest =
        let goes = under_goes (seat_in o s) (seat_in o u) d (known_stage (seat_in o s)) D.comes isnt in
        let kept = steps_keep v a (λ e. goes.0 (ap known_stage (sym x_is) ∙ e)) in
        kept_by kept ∙ (ap (λ (k : Seat V). k.rv) x_is ∙ D.began isnt goes.1)
      where
        kept_by : Keeps x (after.0.seats a) → (seat_in o z).rv ≡ x.rv
        kept_by (inl e) = ap (λ (k : Seat V). k.rv) (sym y_is) ∙ e.0
        kept_by (inr (inl e)) = ap (λ (k : Seat V). k.rv) (sym y_is) ∙ e.0
        kept_by (inr (inr e)) = absurd (rest (ap known_stage (sym y_is) ∙ e))

    -- ---- its calls, and the aborted transactions
    goes : (standing o s ≡ Begins → ⊥) → (standing o u ≡ Begins → ⊥) × (standing o u ≡ Rests → ⊥)
    goes isnt = under_goes (seat_in o s) (seat_in o u) d (known_stage (seat_in o s)) D.comes isnt

    calls_stay : n ≡ told.Quiet → (standing o s ≡ Begins → ⊥) → (seat_in o z).calls ≡ (seat_in o s).calls
    calls_stay quiet isnt =
        kept_by (steps_keep v a (λ e. (goes isnt).0 (ap known_stage (sym x_is) ∙ e)))
      where
        going : IsGoing (known_stage (after.0.seats a))
        going =
            quiet_going (standing o u) (is_some (committed_by x x.stage)) (known_stage (after.0.seats a))
            (subst (λ (k : KnownStage V × Notice V). StepMoves k.0 (is_some (committed_by x x.stage)) k.1 (known_stage (after.0.seats a)))
            (λ i. (ap known_stage x_is i, (told_is ∙ ap (notice_of a) quiet) i)) (steps_move v a))
            (goes isnt).0 (goes isnt).1

        before : (seat_in o u).calls ≡ (seat_in o s).calls
        before = D.aborted.calls refl isnt

        kept_by : Keeps x (after.0.seats a) → (seat_in o z).calls ≡ (seat_in o s).calls
        kept_by (inl e) = ap (λ (k : Seat V). k.calls) (sym y_is) ∙ (e.1 ∙ (ap (λ (k : Seat V). k.calls) x_is ∙ before))
        kept_by (inr (inl e)) = absurd (subst IsGoing (ap (known_stage_at (after.0.seats a).calls) e.1) going)
        kept_by (inr (inr e)) = absurd (subst IsGoing e going)

    adds_aborted : AddsAborted o s z n
    adds_aborted = record {
      calls = calls_stay;
      quiet = λ q. ap (λ (w : World V). w.aborted) T.takes.own
          ∙ (none_added v (acts o u) a T.found T.base x_is (told_is ∙ ap (notice_of a) q) ∙ D.aborted.quiet refl);
      begin = λ on.
          (let begins : known_stage (seat_in o u) ≡ Begins =
          (subst (λ (p : KnownStage V). IsUnderWayFrom (seat_in o s) p (seat_in o u) d) on D.comes).0 in
          ap (λ (w : World V). w.aborted) T.takes.own
          ∙ (begin_added (acts o u) a T.found T.base (begins_at (seat_in o u).calls (seat_in o u).stage begins)
          ∙ D.aborted.begin on));
      going = λ busy. ap (λ (w : World V). w.aborted) T.takes.own
          ∙ (going_added v (acts o u) a T.found T.base x_is (λ e. busy (ap known_stage (sym y_is) ∙ e)) ∙ D.aborted.quiet refl);
      committed = λ k e. ap (λ (w : World V). w.aborted) T.takes.own
          ∙ (done_added v (acts o u) a T.found T.base k x_is (told_is ∙ ap (notice_of a) e) ∙ D.aborted.quiet refl);
      ended = λ cause is rests isnt.
          (let tells : after.1 ≡ why a cause =
          subst (λ (k : ℕ). after.1 ≡ why k cause) (sym same) (told_is ∙ (ap (λ (k : ℕ). notice_of k n) same ∙ is)) in
          let on = goes isnt in
          let ends : standing o u ≡ Ends =
          ends_from (standing o u) (is_some (committed_by x x.stage)) a cause (known_stage (after.0.seats a))
          (subst (λ (k : KnownStage V × Notice V). StepMoves k.0 (is_some (committed_by x x.stage)) k.1 (known_stage (after.0.seats a)))
          (λ i. (ap known_stage x_is i, tells i)) (steps_move v a))
          (ap known_stage y_is ∙ rests) on.0 on.1 in
          let added = one_added v (acts o u) a T.found T.base cause x_is (ends_at x (ap known_stage x_is ∙ ends)) tells in
          let began = D.began isnt on.1 in
          let calls = D.aborted.calls refl isnt in
          ap (λ (w : World V). w.aborted) T.takes.own
          ∙ (added
          ∙ (λ i. D.aborted.quiet refl i ++ record { actor = same i; rv = began i; calls = calls i; cause = cause } ∷ [])));
    }

    -- and so does what its begin has asked
    declared_stays : standing o s ≡ Begins → (standing o z ≡ Rests → ⊥) → is_declared o z ≡ is_declared o s
    declared_stays on going =
        let w = acts o u in
        let begins : known_stage (seat_in o u) ≡ Begins =
        (subst (λ (p : KnownStage V). IsUnderWayFrom (seat_in o s) p (seat_in o u) d) on D.comes).0 in
        let at : (w.seats a).stage ≡ Beginning = begins_at (w.seats a).calls (w.seats a).stage begins in
        let place : (actor_of w a).place ≡ machine.Begin =
        subst (λ (st : Stage V). StageOk w.words w.blocks (w.seats a) (actor_of w a) (w.boosted.shadows a) st
        (actor_of w a).place) at own in
        (λ i. (actor_of (T.takes.own i) (T.takes.seat.1 i)).declared)
        ∙ (begin_declared w a T.found T.base at place ∙ D.declared on (λ e. absurd (let q = sym begins ∙ e in let f : ⊥ = cc in f)))

    reader_stays : is_declared o s ≡ true → is_declared o z ≡ true
    reader_stays is =
        (λ i. (actor_of (T.takes.own i) (T.takes.seat.1 i)).declared) ∙ reader_moved (acts o u) a (D.reader is) T.found T.base

    known : KnowsNumber o s → is_commit (known_stage (seat_in o u)) ≡ true → IsStamped (view u).clock (actor_of (acts o u) a)
    known knows c = D.stamped knows (seat_in o u).calls (is_one (seat_in o u).calls (seat_in o u).stage c)

    -- the seat knows the number of its commit
    stamped_on : KnowsNumber o s → KnowsNumber o z
    unfolding is_commit
    stamped_on knows calls e =
        let w = acts o u in
        let after_is : acts o z ≡ (moved a w T.found T.base).0 = T.takes.own in
        let le : (view u).clock ≤ T.clock = T.rises in
        subst (λ (k : ℕ × ℕ × World V). IsStamped k.0 (actor_of k.2 k.1))
        (λ i. (sym (ap (λ (k : SeatKnowledge V). k.clock) T.takes.turn) i, sym T.takes.seat.1 i, sym after_is i))
        (stamped_step w a T.found T.base (view u).clock T.clock le T.clocks own (known knows)
        (ap is_commit ((λ i. known_stage ((sym after_is i).seats (sym T.takes.seat.1 i))) ∙ e)))

    numbered_on : KnowsNumber o s → (e : Option (Record V)) (r : Record V) → e ≡ committed_by (seat_in o u) (seat_in o u).stage
        → ((q : Record V) → e ≡ Some q → d ≡ None) → latest e d ≡ Some r → IsNumberOf (seat_in o s).rv (view z).clock r
    unfolding is_commit
    numbered_on knows None r made new is =
        let h = D.numbered knows r is in
        let le : (view u).clock ≤ (view z).clock = rises_to in
        record {
          writer = λ yes. (let k = h.writer yes in (k.0, (let g = k.1 in omega (arith, g, le))));
          reader = h.reader;
        }
    numbered_on knows (Some q) r made new is =
        let h = numbered t.whole.shared.key a (acts o u) ties.reached (view u).clock q own (known knows) (sym made) in
        let le : (view u).clock ≤ (view z).clock = rises_to in
        let same : q ≡ r = (let k : Some q ≡ Some r = is in cc) in
        let busy = commits_first (seat_in o u) (seat_in o u).stage q (sym made) in
        let began : (seat_in o u).rv ≡ (seat_in o s).rv = D.began (λ k. begins_no k busy) (λ k. rests_no k busy) in
        subst (λ (k : ℕ × Record V). IsNumberOf k.0 (view z).clock k.1) (λ i. (began i, same i)) (record {
          writer = λ yes. (let k = h.writer yes in (k.0, (let g = k.1 in omega (arith, g, le))));
          reader = h.reader;
        })
      where
        begins_no : standing o s ≡ Begins → is_commit (known_stage (seat_in o u)) ≡ true → ⊥
        begins_no k c =
            let h = subst (λ (p : KnownStage V). IsUnderWayFrom (seat_in o s) p (seat_in o u) d) k D.comes in
            true≢false (sym c ∙ ap is_commit h.0)

        rests_no : standing o u ≡ Rests → is_commit (known_stage (seat_in o u)) ≡ true → ⊥
        rests_no k c = true≢false (sym c ∙ ap is_commit k)

    pub driven_on : (e : Option (Record V)) → commits a r ≡ as_receipts a e → Driven o s z n (latest e d)
    driven_on e makes =
        let w = acts o u in
        let made_u : e ≡ committed_by (seat_in o u) (seat_in o u).stage =
        made_by a (seat_in o u) (seat_in o u).stage e (sym makes ∙ sym (commits_as w a r ties.runs)) in
        let made : committed_by x x.stage ≡ e = ap (λ (k : Seat V). committed_by k k.stage) x_is ∙ sym made_u in
        let course = steps_come (blocks_at t.whole.shared.key) t.whole.shared.key.shape.value.clock t.whole.shared.key.state.value.words
        t.whole.shared.key.state.value.held T.takes.happened.events a (seat_in o s) d ties.reached.stripes
        (subst (λ (k : Seat V). IsUnderWay (seat_in o s) k d) (sym x_is) D.comes) in
        let new : (q : Record V) → e ≡ Some q → d ≡ None = λ q is. fresh (seat_in o s) (seat_in o u) d (known_stage (seat_in o s))
        (commits_first (seat_in o u) (seat_in o u).stage q (sym made_u ∙ is)) D.comes in
        record {
          seat = (T.takes.seat.0 ∙ D.seat.0, T.takes.seat.1 ∙ D.seat.1, T.takes.seat.2 ∙ D.seat.2);
          more = D.more ++ record { asks = list_of u.asked; found = T.found; base = T.base } ∷ [];
          turns = ap (λ (k : SeatKnowledge V). k.turns) T.takes.turn
              ∙ (ap (λ (is : List (Turn V)). is ++ record { asks = list_of u.asked; found = T.found; base = T.base } ∷ []) D.turns
              ∙ append_assoc (view s).turns D.more (record { asks = list_of u.asked; found = T.found; base = T.base } ∷ []));
          shares = ap (λ (k : SeatKnowledge V). k.shares) T.takes.turn ∙ D.shares;
          joined = ap (λ (k : SeatKnowledge V). k.joined) T.takes.turn ∙ D.joined;
          looks = ap (λ (k : SeatKnowledge V). k.looks) T.takes.turn ∙ D.looks;
          gains = T.gains ∙ ((λ i. D.gains i ++ (makes ∙ ap (λ (b : ℕ). as_receipts b e) same) i)
              ∙ gained (seated.actor s) e d (view s).receipts new);
          rises = (let p = D.rises in let q = rises_to in omega (arith, p, q));
          comes = subst (λ (k : ℕ × Notice V × Seat V × Option (Record V)). ComesTo k.0 (seat_in o s) k.1 k.2 (latest k.3 d))
              (λ i. (same i, (told_is ∙ ap (λ (b : ℕ). notice_of b n) same) i, y_is i, made i)) course;
          is_true = truth (standing o s) n refl D.comes D.is_true;
          tells = λ ne. (v, this, subst (λ (k : ℕ). (happens v (Step k)).1 ≡ notice_of k n) same told_is);
          written = subst (λ (k : Seat V × Option (Record V)). IsWritten (seat_in o s).stage k.0 (latest k.1 d)) (λ i. (y_is i, made i))
              (written_on v a x (seat_in o s).stage x.stage (committed_by x x.stage) d refl refl (steps_move v a) refl
              (λ q is. new q (sym made ∙ is)) (subst (λ (k : Seat V). IsWritten (seat_in o s).stage k d) (sym x_is) D.written));
          began = begun_stays;
          declared = declared_stays;
          reader = reader_stays;
          stamped = stamped_on;
          numbered = λ knows r is. numbered_on knows e r made_u new is;
          asks = turn_requests u z (record { asks = list_of u.asked; found = T.found; base = T.base })
              (ap (λ (k : SeatKnowledge V). k.turns) T.takes.turn) refl T.takes.none
              ∙ D.asks;
          aborted = adds_aborted;
        }

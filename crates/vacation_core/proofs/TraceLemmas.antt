-- The trace of a running world of clients has the result of its play.
-- The records of an actor are sessions of the actions that it committed, in its order; and these are the sessions that its client
-- keeps, the one under way, if it is committed, being the last.
use Rattle.std.proofs.Common.{◌≡◌, ℕ, zero, suc, ◌+◌, ◌≤◌, false, List, [], ◌∷◌, ◌++◌, length, drop, get_or, refl, sym, ◌∙◌}
use Rattle.std.proofs.Common.{ap, subst, arith}
use Rattle.std.specs.Prelude.{Option, Some, None, replicate, slice_get}
use Rattle.std.proofs.lemmas.List.{append-nil}
use Rattle.seq_model.specs.declared.refusal.Refusal.{Refusal}
use Rattle.step_core.specs.Shown.{is_actor}
use Rattle.replay_log.specs.Worlds.{World, half, state}
use Rattle.vac_model.specs.declared.action.Action.{Action}
use Rattle.vac_model.specs.Balanced.{IsBalanced}
use Rattle.client_sessions.specs.declared.entry.Entry.{Entry}
use Rattle.client_sessions.specs.Holding.{HoldsTables, state_of}
use Rattle.client_sessions.specs.Runs.{after_deals}
use Rattle.client_sessions.proofs.TablesLemmas.{same_tables}
use Rattle.seq_model.specs.Contents.{Contents}
use Rattle.seq_model.specs.declared.record.Record.{Record}
use Rattle.step_world.specs.Parts.{IsWorld}
use Rattle.step_world.specs.Reached.{IsReached}
use Rattle.step_world.specs.Traces.{IsTraceOf}
use Rattle.step_world.specs.declared.trace.Trace.{Trace}
use Rattle.vacation_core.specs.Histories.{action_in, done_in, world_in}
use Rattle.actor_laws.specs.KnownStages.{KnownStage, Rests, Begins, Stands, Calls, Commits, Committed, Ends}
use Rattle.vacation_core.specs.Clients.{with_open}
use Rattle.vacation_core.specs.Laws.{IsSerialPlay}
use Rattle.vacation_core.specs.Plays.{Play}
use Rattle.vacation_core.specs.Running.{IsPlay, KeepsAt}
use Rattle.vacation_core.specs.CommittedAnswers.{AreFirst, AreOwn, sessions_found, sessions_in, sessions_of, told_all, told_of}
use Rattle.vacation_core.specs.Traces.{IsVacTrace}
use Rattle.vacation_core.specs.declared.client.Client.{Client}
use Rattle.vacation_core.specs.declared.client.OpenSession.{OpenSession}
use Rattle.vacation_core.specs.declared.run.VacTrace.{VacTrace}
use Rattle.vacation_core.specs.declared.world.VacWorld.{VacWorld}
use Rattle.vacation_core.proofs.HalfDoneLemmas.{holds_tables}
use Rattle.vacation_core.proofs.ClientAnswerLemmas.{done_finished}
use Rattle.vacation_core.proofs.PlayLemmas.{serial_play}
use Rattle.vacation_core.proofs.ClientLemmas.{reached}
use Rattle.std.proofs.lemmas.Bool.Decides.{nat_tests}
use Rattle.seq_model.proofs.LogicLemmas.{some-none}

-- ---- the sessions that a client keeps

with_open_first : (o : Option OpenSession) (kept done : List Action) → kept ≡ done → AreFirst done (with_open o kept)
with_open_first None kept done e = ([], append-nil done ∙ sym e)
with_open_first (Some o) kept done e = (o.session ∷ [], ap (λ xs. xs ++ o.session ∷ []) (sym e))

keeps_first : (at : KnownStage Entry) (c : Client) (action : Action) (fault : Option Refusal) (done : List Action)
    → KeepsAt at c action fault done
    → AreFirst done (sessions_of c)
keeps_first Rests c action fault done k = with_open_first c.current c.done done k.1
keeps_first Begins c action fault done k = with_open_first c.current c.done done k.1
keeps_first (Stands calls) c action fault done k = absurd k
keeps_first (Calls calls call) c action fault done k = with_open_first c.current c.done done k.1
keeps_first (Commits calls) c action fault done k = with_open_first c.current c.done done k.1
keeps_first Committed c action fault done k =
    ([], append-nil done ∙ sym k.1 ∙ sym (done_finished c.current c.done action fault k.0))
keeps_first Ends c action fault done k = with_open_first c.current c.done done k.1

zeros : (n i : ℕ) → ◌≡◌ {A = ℕ} (get_or (replicate n 0) i 0) 0
zeros zero zero = refl
zeros zero (suc i) = refl
zeros (suc n) zero = refl
zeros (suc n) (suc i) = zeros n i

none_told : (n a : ℕ) → ◌≡◌ {A = ℕ} (told_of (replicate n 0) a) 0
none_told n zero = refl
none_told n (suc i) = zeros n i

past : {X : Type 0} → (xs : List X) (i : ℕ) → slice_get xs i ≡ None → length xs ≤ i
past [] i e = omega arith
past (x ∷ xs) zero e = absurd (some-none x e)
past (x ∷ xs) (suc i) e = (let h = past xs i e in omega (arith, h))

not_actor : (a : ℕ) → 65 ≤ a → is_actor a ≡ false
not_actor a high = grind (arith, nat_tests)

none_here : (done xs : List Action) → done ≡ [] → AreFirst done xs
none_here done xs e = (xs, ap (λ ys. ys ++ xs) e)

-- the actions that an actor committed are the first of its sessions
pub done_first : (v : VacWorld) (p : Play) → IsPlay v p → (a : ℕ) → AreFirst (done_in a p.history) (sessions_in v.clients.items a)
done_first v p k zero = none_here (done_in 0 p.history) [] (k.on.absent 0 refl)
done_first v p k (suc i) = by (slice_get v.clients.items i) refl
  where
    plus : i + 1 ≡ suc i
    plus = omega arith

    by : (o : Option Client) → slice_get v.clients.items i ≡ o → AreFirst (done_in (suc i) p.history) (sessions_found o)
    by None e =
        let many = past v.clients.items i e in
        let n = k.on.count in
        none_here (done_in (suc i) p.history) [] (k.on.absent (suc i) (not_actor (suc i) (omega (arith, many, n))))
    by (Some c) e =
        let x = k.clients i c e in
        subst (λ a. AreFirst (done_in a p.history) (sessions_of c)) plus
        (keeps_first x.at c (action_in (i + 1) p.history) (p.faults (i + 1)) (done_in (i + 1) p.history) x.keeps)

pub serial_of : (v : VacWorld) (p : Play) → IsPlay v p → IsSerialPlay p
serial_of v p k = serial_play p (record { lawful = k.on.lawful; goes_on = k.on.goes_on })

-- its records are sessions of these
pub own_all : (v : VacWorld) (p : Play) → (k : IsPlay v p)
    → AreOwn v.clients.items (replicate (length v.clients.items) 0) (serial_of v p k).serial.deals (world_in p.history).records
own_all v p k =
    let s = (serial_of v p k).serial in
    record {
      sessions = s.sessions;
      own = λ a.
          let f = done_first v p k a in (
            f.0,
            ap (λ xs. xs ++ f.0) (s.own a) ∙ f.1
                ∙ ap (λ n. drop n (sessions_in v.clients.items a)) (sym (none_told (length v.clients.items) a)),
          );
    }

-- ---- the trace

pub traced : (v : VacWorld) (p : Play) (t : VacTrace) → (k : IsPlay v p)
    → t.done ≡ told_all (serial_of v p k).serial.deals (world_in p.history).records → t.aborted ≡ v.aborted
    → t.half ≡ half (world_in p.history) → state (world_in p.history) ≡ state_of t.tables → IsVacTrace p t
traced v p t k done aborted halves holds =
    let s = (serial_of v p k).serial in
    let left : t.half ≡ [] → t.tables ≡ after_deals s.deals p.history.tables =
    λ none. same_tables t.tables (after_deals s.deals p.history.tables) (sym holds ∙ s.left (sym halves ∙ none)) in
    record {
      serial = s;
      done = done;
      aborted = aborted ∙ k.on.aborted;
      goes_on = k.on.goes_on;
      half = halves;
      holds = holds;
      left = left;
      balanced = λ none. subst IsBalanced (sym (left none)) s.balanced;
    }

-- the trace of its world is that of the play's
pub trace_of : (v : VacWorld) (p : Play) (t : Trace Entry) → IsPlay v p
    → ((opening : Contents Entry) (w : World Entry) → IsReached opening w → IsWorld v.world.parts w → IsTraceOf w t)
    → IsTraceOf (world_in p.history) t
trace_of v p t k traces =
    traces (state_of p.history.tables) (world_in p.history) (reached p.history k.on.lawful) k.on.parts

-- its records are listed
pub own_as : (v : VacWorld) (p : Play) (rs : List (ℕ × Record Entry)) → (k : IsPlay v p) → rs ≡ (world_in p.history).records
    → AreOwn v.clients.items (replicate (length v.clients.items) 0) (serial_of v p k).serial.deals rs
own_as v p rs k same =
    subst (λ (xs : List (ℕ × Record Entry)). AreOwn v.clients.items (replicate (length v.clients.items) 0)
    (serial_of v p k).serial.deals xs)
    (sym same) (own_all v p k)

-- and there are tables in the state that it has
pub tables_there : (v : VacWorld) (p : Play) (t : Trace Entry) → IsPlay v p → IsTraceOf (world_in p.history) t → HoldsTables t.state
tables_there v p t k trace =
    subst (λ (s : Contents Entry). HoldsTables s) (sym trace.state) (holds_tables p.history k.on.lawful)

-- What the table shows of an aborted transaction.
--
-- The world with its seat's actor alone has it as the last of its aborted ones (`IsAbortedFor`), and what is asked later leaves these. They
-- are those that the table's world has of the actor, each of which saw one state (`HasAborted`).
use Rattle.std.proofs.Common.{◌≡◌, ℕ, true, false, List, [], ◌∷◌, ◌++◌, Option, Some, None, inl, inr, ⊎_elim, sym, ap, ◌∙◌, subst, arith}
use Rattle.std.specs.Prelude.{◌==◌}
use Rattle.std.proofs.lemmas.Bool.{cases_Bool, cond-false, cond-true}
use Rattle.atomic_table.specs.Table.{State}
use Rattle.seq_model.specs.Contents.{Contents}
use Rattle.seq_model.specs.Runs.{IsLegal, state_at}
use Rattle.seq_model.specs.declared.call.Call.{Call}
use Rattle.seq_model.specs.declared.call.Reply.{Reply}
use Rattle.seq_model.specs.declared.record.Record.{Record}
use Rattle.seq_model.specs.declared.refusal.Refusal.{Refusal}
use Rattle.replay_log.specs.Seats as worlds
use Rattle.replay_log.specs.Seats.{Ended, Seat, World}
use Rattle.replay_log.specs.WorldSerial.{AllSaw, SawAt}
use Rattle.replay_log.specs.Worlds.{run}
use Rattle.actor_laws.specs.KnownStages.{Stands, known_stage_at}
use Rattle.shared_table.specs.Opening.{Holds}
use Rattle.shared_table.specs.Seated.{acts, contents_in, kept, list_of, opening_of, view}
use Rattle.shared_table.specs.Seated as seated
use Rattle.shared_table.specs.Shown.{Slot, aborted_by}
use Rattle.shared_table.specs.declared.seat.Seat as table
use Rattle.shared_table.specs.declared.table.TxTable.{TxTable}
use Rattle.shared_table.specs.declared.view.SeatKnowledge.{SeatKnowledge}
use Rattle.shared_table.proofs.Turned.{asked_calm}
use Rattle.tx_turns.specs.Driven.{aborted_for, seat_in, standing}
use Rattle.tx_engine.specs.Requests.{IsAbortedFor, IsLastAborted}
use Rattle.tx_engine.specs.Aborted.{SeesOneState, ShownBy, WasAborted, WasAbortedFor}
use Rattle.tx_engine.specs.Records.{HasAborted, ShowsSeats}

module _ {V : Type 0} where
  -- ---- one of the actor's own is one of all
  record IsAmong (e : Ended V) (es : List (Ended V)) : Type 0 where
    pub before : List (Ended V)
    pub after : List (Ended V)
    pub there : es ≡ before ++ e ∷ after

  behind : (e f : Ended V) (es : List (Ended V)) → IsAmong e es → IsAmong e (f ∷ es)
  behind e f es h = record { before = f ∷ h.before; after = h.after; there = ap (λ (k : List (Ended V)). f ∷ k) h.there }

  first_or : (e f : Ended V) (es own old : List (Ended V)) → ((older : List (Ended V)) → own ≡ older ++ e ∷ [] → IsAmong e es)
      → f ∷ own ≡ old ++ e ∷ []
      → IsAmong e (f ∷ es)
  first_or e f es own [] rest is =
      let same : f ≡ e = cc in record { before = []; after = es; there = ap (λ (k : Ended V). k ∷ es) same }
  first_or e f es own (d ∷ old) rest is = let tail : own ≡ old ++ e ∷ [] = cc in behind e f es (rest old tail)

  among : (a : ℕ) (es old : List (Ended V)) (e : Ended V) → aborted_by a es ≡ old ++ e ∷ [] → IsAmong e es
  among a [] [] e is = absurd (let z : ⊥ = cc in z)
  among a [] (d ∷ old) e is = absurd (let z : ⊥ = cc in z)
  among a (f ∷ es) old e is = ⊎_elim
      (λ (t : (f.actor == a) ≡ true).
      first_or e f es (aborted_by a es) old (λ older tail. among a es older e tail)
      (sym (cond-true {A = List (Ended V)} (f.actor == a) (f ∷ aborted_by a es) (aborted_by a es) t) ∙ is))
      (λ (n : (f.actor == a) ≡ false).
      behind e f es (among a es old e
      (sym (cond-false {A = List (Ended V)} (f.actor == a) (f ∷ aborted_by a es) (aborted_by a es) n) ∙ is)))
      (cases_Bool (f.actor == a))

  last_saw : (c : Contents V) (rs : List (ℕ × Record V)) (old : List (Ended V)) (e : Ended V) → AllSaw c rs (old ++ e ∷ [])
      → IsLegal e.calls (state_at e.rv rs c)
  last_saw c rs [] e saw = saw.0
  last_saw c rs (d ∷ old) e saw = last_saw c rs old e saw.1

  -- ---- a transaction that was open has its calls
  stands_as : (cs calls : List (Call V × Reply V)) (st : worlds.Stage V) → known_stage_at cs st ≡ Stands calls → cs ≡ calls
  stands_as cs calls worlds.Open h = (let e : Stands cs ≡ Stands calls = h in cc)
  stands_as cs calls st h = absurd (let z : ⊥ = cc in z)

  -- ---- what is asked later leaves the aborted ones
  kept_aborted : (o : World V) (u : table.Seat V) → (kept o u).aborted ≡ (acts o u).aborted
  kept_aborted o u = sym (asked_calm (seated.actor u) (list_of u.asked) (kept o u)).aborted

  was_aborted : (t : TxTable V) (s u : table.Seat V) (calls : List (Call V × Reply V)) (cause : Option Refusal)
      → seated.actor u ≡ seated.actor s → standing (opening_of t) s ≡ Stands calls → IsLastAborted (opening_of t) s u cause
      → (w : World V) → HasAborted (contents_in t) (opening_of t) w (seated.actor u, (view u).turns)
      → WasAborted (contents_in t) (opening_of t) s calls cause w
  was_aborted t s u calls cause same on last w has =
      let o = opening_of t in
      let cs : (seat_in o s).calls ≡ calls = stands_as (seat_in o s).calls calls (seat_in o s).stage on in
      let all : (kept o u).aborted ≡ (acts o s).aborted ++ aborted_for o s cause ∷ [] = kept_aborted o u ∙ last in
      let here = among (seated.actor u) w.aborted (acts o s).aborted (aborted_for o s cause) (has.own ∙ all) in
      let saw = last_saw (contents_in t) w.records (acts o s).aborted (aborted_for o s cause)
      (subst (AllSaw (contents_in t) w.records) all has.saw) in
      record {
        before = here.before;
        after = here.after;
        listed = here.there ∙ (λ i. here.before
            ++ record { actor = seated.actor s; rv = (seat_in o s).rv; calls = cs i; cause = cause } ∷ here.after);
        saw = subst (λ (k : List (Call V × Reply V)). IsLegal k (state_at (seat_in o s).rv w.records (contents_in t))) cs saw;
      }

  -- what is shown of the seat u, between two steps at which it stands in the table so
  abbrev pub SeatLaw : TxTable V → Type 0
  SeatLaw t = (x : State (Slot V) (SeatKnowledge V)) (rule : Holds t.whole.shared.key x) → ShowsSeats t.whole.shared.key rule.rule.events x

  pub shown_aborted : (t : TxTable V) → SeatLaw t → (s u : table.Seat V) (calls : List (Call V × Reply V)) (cause : Option Refusal)
      → seated.actor u ≡ seated.actor s → standing (opening_of t) s ≡ Stands calls → IsLastAborted (opening_of t) s u cause
      → ShownBy t u (WasAborted (contents_in t) (opening_of t) s calls cause)
  shown_aborted t law s u calls cause same on last x rule at =
      was_aborted t s u calls cause same on last (run (opening_of t) rule.rule.events)
      ((law x rule).aborted (seated.actor u) (view u) at 0 (seated.actor u, (view u).turns) (omega arith))

  pub shown_refused : (t : TxTable V) → SeatLaw t → (s u : table.Seat V) (calls : List (Call V × Reply V)) (cause : Refusal)
      → seated.actor u ≡ seated.actor s → standing (opening_of t) s ≡ Stands calls → IsAbortedFor (opening_of t) s u cause
      → ShownBy t u (WasAbortedFor (contents_in t) (opening_of t) s calls cause)
  shown_refused t law s u calls cause same on (inl last) x rule at =
      inl (shown_aborted t law s u calls (Some cause) same on last x rule at)
  shown_refused t law s u calls cause same on (inr memory) x rule at =
      inr (memory.0, shown_aborted t law s u calls None same on memory.1 x rule at)

  -- ---- an open transaction
  open_saw : (c : Contents V) (rs : List (ℕ × Record V)) (y : Seat V) (st : worlds.Stage V) (calls : List (Call V × Reply V))
      → known_stage_at y.calls st ≡ Stands calls → SawAt c rs y st → IsLegal calls (state_at y.rv rs c)
  open_saw c rs y worlds.Open calls on saw =
      let same : y.calls ≡ calls = cc in
      subst (λ (k : List (Call V × Reply V)). IsLegal k (state_at y.rv rs c)) same saw
  open_saw c rs y st calls on saw = absurd (let z : ⊥ = cc in z)

  pub sees_one_state : (t : TxTable V) → SeatLaw t → (u : table.Seat V)
      → ShownBy t u (SeesOneState (contents_in t) (opening_of t) u)
  sees_one_state t law u x rule at =
      let now = (law x rule).at_once (seated.actor u) (view u) at (list_of u.asked) in
      let y = seat_in (opening_of t) u in record {
        alike = now.alike;
        saw = λ calls on. open_saw (contents_in t) (run (opening_of t) rule.rule.events).records y y.stage calls on now.saw;
      }

-- A request that is refused for a busy gate tried it as often as it may.
--
-- The turn that found the gate busy was a step from a world that events have reached, in which the last try was next and another held the
-- gate. So the actor did not have it, there or in the world with it alone, and `TurnLemmas` says of its own turns, and the law on worlds of
-- the events, that all tries before were in vain. A try is still a try after what is asked, or its transaction is aborted; so a seat tries
-- no gate between its requests, whatever it has asked since its last turn.
use Rattle.std.proofs.Common.{◌≡◌, ℕ, ◌+◌, Bool, true, false, cond, List, [], ◌∷◌, ◌++◌, Some, refl, sym, ap, ◌∙◌, subst, append_assoc}
use Rattle.std.proofs.Common.{arith, eq-eqb, ne_eqb}
use Rattle.tx_machine.specs.Requests as word
use Rattle.tx_machine.proofs.Sets.{put-same}
use Rattle.seq_model.specs.declared.call.Call.{Call}
use Rattle.seq_model.specs.declared.call.Reply.{Reply}
use Rattle.seq_model.specs.declared.event.Event.{Event}
use Rattle.seq_model.specs.declared.event.Event.TheVariants.{Ask, Step, Starve}
use Rattle.seq_model.specs.declared.event.Request.{Request}
use Rattle.seq_model.specs.declared.refusal.Refusal.TheVariants.{GateBusy, Memory as OutOfMemory}
use Rattle.tx_machine.specs.Boosted.{is_actor}
use Rattle.replay_log.specs.Contents.{HaveStripes}
use Rattle.replay_log.specs.WorldRefusals.{IsLastTry}
use Rattle.replay_log.specs.WorldTries.{AllVain, InVain, IsVain, steps_of, tried_at}
use Rattle.replay_log.specs.Worlds.{World, Seat, Stage, Trying, Gating, Returning, Cancelling, Leaving, acted, ask_at, asks, at_stage}
use Rattle.replay_log.specs.Worlds.{actor_of, because, gate_tries, gives_up, happens, is_leaving, run, seated, starve_at}
use Rattle.replay_log.proofs.EventLemmas.{run-append}
use Rattle.actor_laws.specs.KnownStages.{known_stage_at}
use Rattle.shared_table.specs.Seated as table_seat
use Rattle.shared_table.specs.Seated.{acts, list_of, view}
use Rattle.shared_table.specs.Shown.{IsReached, Opens}
use Rattle.shared_table.specs.Turns.{asked_all, lone, own, stage_of}
use Rattle.shared_table.specs.declared.seat.Seat as table
use Rattle.tx_turns.proofs.RestLemmas.{IsCalm}
use Rattle.tx_turns.specs.Driven.{HasFound, standing}
use Rattle.tx_engine.specs.Tries.{AreVain, WasTriedInVain}
use Rattle.tx_engine.proofs.TurnLemmas.{Tried, asked_tried, lone_append, run_tried, tries_at}

-- where a try is next, the last steps of the actor tried this gate in vain
abbrev pub TryLaw : Type 0 → Type 0
TryLaw V =
    (o : World V) (opens : Opens o) (events : List (Event V)) (a k n : ℕ) → HaveStripes o.blocks
    → tried_at ((run o events).seats a).stage ≡ Some (k, n) → (m : ℕ) × (m + 1 + n ≡ gate_tries) × InVain o events a k m

module _ {V : Type 0} where
  -- ---- between its requests a seat tries no gate
  abbrev IsUnderWay : Stage V → Type 0
  IsUnderWay (Trying asked tries) = Unit {0}
  IsUnderWay (Gating got ks tries) = Unit {0}
  IsUnderWay (Returning ks) = Unit {0}
  IsUnderWay Cancelling = Unit {0}
  IsUnderWay Leaving = Unit {0}
  IsUnderWay st = ⊥

  tried_under : (st : Stage V) (k n : ℕ) → tried_at st ≡ Some (k, n) → IsUnderWay st
  tried_under (Trying asked tries) k n at = tt
  tried_under (Gating got ks tries) k n at = tt
  tried_under st k n at = absurd (let b : ⊥ = cc in b)

  sits_under : (u : World V) (a : ℕ) (x : Seat V) → IsUnderWay x.stage → IsUnderWay (stage_of (seated u a x) a)
  sits_under u a x h = subst (λ (y : Seat V). IsUnderWay y.stage) (sym (put-same u.seats a x)) h

  given_up_under : (u : World V) (a : ℕ) (x : Seat V) (ks : List ℕ) → IsUnderWay (stage_of (gives_up u a x ks).0 a)
  given_up_under u a x [] =
      let t = acted u (asks a word.AskCancel ∷ asks a word.AskAbort ∷ []) in
      sits_under t a (at_stage x (cond (is_leaving (actor_of t a).place) Leaving Cancelling)) (by (is_leaving (actor_of t a).place))
    where
      by : (b : Bool) → IsUnderWay (cond b Leaving Cancelling)
      by true = tt
      by false = tt
  given_up_under u a x (k ∷ ks) = sits_under u a (at_stage x (Returning (k ∷ ks))) tt

  asked_under : (u : World V) (a : ℕ) (q : Request V) (st : Stage V) → stage_of u a ≡ st → IsUnderWay st
      → IsUnderWay (stage_of (ask_at u a (u.seats a) st q).0 a)
  asked_under u a q (Trying asked tries) e h = subst IsUnderWay (sym e) tt
  asked_under u a q (Gating got ks tries) e h = subst IsUnderWay (sym e) tt
  asked_under u a q (Returning ks) e h = subst IsUnderWay (sym e) tt
  asked_under u a q Cancelling e h = subst IsUnderWay (sym e) tt
  asked_under u a q Leaving e h = subst IsUnderWay (sym e) tt
  asked_under u a q st e h = absurd h

  starved_under : (u : World V) (a : ℕ) (st : Stage V) → stage_of u a ≡ st → IsUnderWay st
      → IsUnderWay (stage_of (starve_at u a (u.seats a) st).0 a)
  starved_under u a (Trying asked tries) e h = given_up_under u a (because (u.seats a) OutOfMemory) []
  starved_under u a (Gating got ks tries) e h = given_up_under u a (because (u.seats a) OutOfMemory) got
  starved_under u a (Returning ks) e h = subst IsUnderWay (sym e) tt
  starved_under u a Cancelling e h = subst IsUnderWay (sym e) tt
  starved_under u a Leaving e h = subst IsUnderWay (sym e) tt
  starved_under u a st e h = absurd h

  one_under : (u : World V) (a : ℕ) (e : Event V) → IsUnderWay (stage_of u a) → IsUnderWay (stage_of (happens u (own a e)).0 a)
  one_under u a (Ask b q) h = asked_under u a q (stage_of u a) refl h
  one_under u a (Step b) h = starved_under u a (stage_of u a) refl h
  one_under u a (Starve b) h = starved_under u a (stage_of u a) refl h

  all_under : (a : ℕ) (es : List (Event V)) (u : World V) → IsUnderWay (stage_of u a) → IsUnderWay (stage_of (asked_all a u es) a)
  all_under a [] u h = h
  all_under a (e ∷ es) u h = all_under a es (happens u (own a e)).0 (one_under u a e h)

  busy : (calls : List (Call V × Reply V)) (st : Stage V) → IsUnderWay st → IsCalm (known_stage_at calls st) → ⊥
  busy calls (Trying asked tries) h calm = calm
  busy calls (Gating got ks tries) h calm = calm
  busy calls (Returning ks) h calm = calm
  busy calls Cancelling h calm = calm
  busy calls Leaving h calm = calm
  busy calls st h calm = h

  none_tried : (o : World V) (s : table.Seat V) → IsCalm (standing o s)
      → Tried (lone (table_seat.actor s) o (view s).turns) [] (table_seat.actor s) (lone (table_seat.actor s) o (view s).turns)
  none_tried o s calm k n at free =
      let a = table_seat.actor s in
      let w = lone a o (view s).turns in
      absurd (busy ((acts o s).seats a).calls (stage_of (acts o s) a)
      (all_under a (list_of s.asked) w (tried_under (stage_of w a) k n at)) calm)

  -- ---- one event more
  vain_more : (a k : ℕ) (es : List (Event V)) (e : Event V) (w : World V) → AllVain a k w es → IsVain a k (run w es) e
      → AllVain a k w (es ++ e ∷ [])
  vain_more a k [] e w h g = (g, tt)
  vain_more a k (d ∷ es) e w h g = (h.0, vain_more a k es e (happens w d).0 h.1 g)

  steps_more : (a : ℕ) (es : List (Event V)) → steps_of a (es ++ Step a ∷ []) ≡ steps_of a es + 1
  steps_more a [] = ap (λ b. cond b 1 0 + 0) (eq-eqb a a refl)
  steps_more a (Step b ∷ es) = let r = steps_more a es in omega (arith, r)
  steps_more a (Ask b q ∷ es) = steps_more a es
  steps_more a (Starve b ∷ es) = steps_more a es

  one_step_more : (w : World V) (es : List (Event V)) (a k m : ℕ) → InVain w es a k m → IsVain a k (run w es) (Step a)
      → InVain w (es ++ Step a ∷ []) a k (m + 1)
  one_step_more w es a k m h g = record {
    before = h.before;
    last = h.last ++ Step a ∷ [];
    split = ap (λ (ds : List (Event V)). ds ++ Step a ∷ []) h.split ∙ append_assoc h.before h.last (Step a ∷ []);
    vain = vain_more a k h.last (Step a) (run w h.before) h.vain
        (subst (λ (u : World V). IsVain a k u (Step a)) (ap (run w) h.split ∙ run-append h.before h.last w) g);
    count = (let e = steps_more a h.last in let n = h.count in omega (arith, e, n));
  }

  -- ---- the last try
  last_try : (st : Stage V) (k : ℕ) → IsLastTry st k → tried_at st ≡ Some (k, 0)
  last_try (Trying asked tries) k h = ap (λ i. Some (asked.collection, i)) h.1 ∙ ap (λ i. Some (i, 0)) h.0
  last_try (Gating got (i ∷ ks) tries) k h = ap (λ j. Some (i, j)) h.1 ∙ ap (λ j. Some (j, 0)) h.0
  last_try st k h = absurd h

  pub tried_in_vain : TryLaw V → (o : World V) (s u : table.Seat V) (k : ℕ) → IsReached o (table_seat.actor s) (acts o s)
      → IsCalm (standing o s) → HasFound o s u (GateBusy k) → WasTriedInVain o s u k
  tried_in_vain law o s u k reached calm (v, turn, cause) =
      let a = table_seat.actor s in
      let ts = (view s).turns in
      let w = lone a o ts in
      let at = last_try (stage_of v a) k cause.0 in
      let apart : is_actor a (v.boosted.gates k) ≡ false =
      ap (is_actor a) cause.1.1 ∙ ne_eqb a cause.1.0 (λ e. cause.1.2 (sym e)) in
      let here : Tried w turn.before a (asked_all a (lone a o (ts ++ turn.before)) turn.turn.asks) =
      asked_tried w turn.before a turn.turn.asks (lone a o (ts ++ turn.before))
      (subst (Tried w turn.before a) (sym (lone_append a ts turn.before o)) (run_tried turn.before [] w a (none_tried o s calm))) in
      let own = here k 0 (ap (λ (x : Seat V). tried_at x.stage) (sym turn.alike.seat) ∙ at)
      (sym (turn.alike.boosted.gates k) ∙ apart) in
      let many = own.1 in
      let there = law o reached.opens turn.events a k 0 reached.stripes
      (subst (λ (x : World V). tried_at (x.seats a).stage ≡ Some (k, 0)) (sym turn.reached) at) in
      let all = there.1 in
      record {
        world = v;
        last = turn;
        due = tries_at v a k 0 (stage_of v a) at;
        taken = cause.1;
        first = own.2.first;
        tries = own.2.tries;
        before = own.2.split;
        count = (let n = own.2.count in omega (arith, many, n));
        vain = subst (λ (x : World V). AreVain a k x own.2.tries) (sym (lone_append a ts own.2.first o)) own.2.vain;
        steps = subst (InVain o (turn.events ++ Step a ∷ []) a k) (let e : there.0 + 1 ≡ 64 = omega (arith, all) in e)
            (one_step_more o turn.events a k there.0 there.2
            (subst (λ (x : World V). IsVain a k x (Step a)) (sym turn.reached) (λ _. ((0, at), cause.1))));
      }

-- Where the locks are given back next, their actor holds no gate: a stage names the gates that its actor holds, a step of the words and the
-- request of the first store change none, and the base that is put back last gives back the one that is left.
use Rattle.std.proofs.Common.{◌≡◌, ℕ, cond, eqb, Bool, true, false, not, ◌||◌, Option, List, [], ◌∷◌, refl, ap, ◌∙◌}
use Rattle.tx_sets.specs.Entries.{locations}
use Rattle.tx_machine.specs.Actor.{Store}
use Rattle.tx_machine.specs.Requests.{AskStore}
use Rattle.tx_machine.specs.World as machine
use Rattle.tx_machine.specs.World.{StepEnd, GoesOn, Commits, Aborts}
use Rattle.seq_model.specs.declared.held.Held.{Held}
use Rattle.seq_model.specs.declared.event.Event.{Event}
use Rattle.tx_machine.specs.Content.{has}
use Rattle.tx_machine.specs.Boosted.{Boosted, GoHome, every, is_actor, is_given, is_held, is_stored, recorded, requested}
use Rattle.tx_machine.specs.Boosted.{shadows_after}
use Rattle.replay_log.specs.Contents.{Block, HaveStripes, content, home_of, is_plain}
use Rattle.replay_log.specs.Worlds.{World, Seat, Stage, Idle, Beginning, Open, Locking, Releasing, Closing, Cancelling, Leaving, Reading}
use Rattle.replay_log.specs.Worlds.{Trying}
use Rattle.replay_log.specs.Worlds.{Copying, Loading, Gating, Ready, Storing, Homing, Returning, acted, actor_of, asks, moves, opened, run}
use Rattle.replay_log.proofs.ActionLemmas.{home_goes, mine, without_gate}
use Rattle.replay_log.proofs.EventLemmas.{opened_linked, run_linked}
use Rattle.replay_log.proofs.SeatLemmas.{StageOk, gates_of}
use Rattle.replay_log.proofs.StageLemmas.{every_all, first_has}
use Rattle.actor_parts.specs.Dispatch.{MayGoOn, MayRelease}
use Rattle.actor_parts.specs.Guarded.{committed_at}

or_not_false : (b : Bool) → (b || not false) ≡ true
or_not_false true = refl
or_not_false false = refl

-- the gates but for the first, of one alone
none_left : (g : ℕ → Bool) (k j : ℕ) → g j ≡ has (k ∷ []) j → without_gate g k j ≡ has [] j
none_left g k j h = elim (eqb j k) as (λ b. g j ≡ cond b true false → cond b false (g j) ≡ false) [ true ↦ λ e. refl | false ↦ λ e. e ] h

recorded_gates : {X Out : Type 0} (s : Boosted X Out) (os : List Out) (o : StepEnd) → (recorded s os o).gates ≡ s.gates
recorded_gates s os GoesOn = refl
recorded_gates s os (Commits r) = refl
recorded_gates s os (Aborts e) = refl

guarded_gates : {X Out : Type 0} (s t : Boosted X Out) (b : Bool) → t.gates ≡ s.gates → (cond b t s).gates ≡ s.gates
guarded_gates s t true e = e
guarded_gates s t false e = refl

module _ {V : Type 0} where
  step_gates : (w : World V) (a : ℕ) → (acted w (moves a ∷ [])).boosted.gates ≡ w.boosted.gates
  step_gates w a =
      let s = w.boosted in
      let y = actor_of w a in
      recorded_gates (record s { words = machine.step s.words a y y.place; shadows = shadows_after s a y.place }) (s.shadows a).outcomes
      (machine.step_end a y y.place)

  store_gates : (w : World V) (a : ℕ) → (acted w (asks a AskStore ∷ [])).boosted.gates ≡ w.boosted.gates
  store_gates w a =
      let s = w.boosted in
      guarded_gates s (requested s a AskStore)
      (every (is_held (content w.words w.blocks) s a) (locations (actor_of w a).writes)) refl

  may_release : (a : ℕ) (w : World V) (ks : List ℕ) → ((k : ℕ) → mine w.boosted a k ≡ has ks k) → MayRelease a w ks
  may_release a w [] held =
      every_all (is_given (content w.words w.blocks) w.boosted a) (locations (actor_of w a).writes) (λ l m.
      ap (λ (b : Bool). is_plain w.words w.blocks l || not b) (held (home_of w.words w.blocks l))
      ∙ or_not_false (is_plain w.words w.blocks l))
  may_release a w (k ∷ ks) held = tt

  homed : (w : World V) (a k : ℕ) (ks : List ℕ) → ((j : ℕ) → mine w.boosted a j ≡ has (k ∷ ks) j) → (actor_of w a).place ≡ Store []
      → MayRelease a (acted w (GoHome a k ∷ [])) ks
  homed w a k [] held e =
      let goes = home_goes (content w.words w.blocks) w.boosted a k (held k ∙ first_has k []) (ap is_stored e) in
      may_release a (acted w (GoHome a k ∷ [])) [] (λ j. goes.own.gates j ∙ none_left (mine w.boosted a) k j (held j))
  homed w a k (i ∷ ks) held e = tt

  may_go_on : (w : World V) (a : ℕ) (x : Seat V) (st : Stage V) → ((k : ℕ) → mine w.boosted a k ≡ has (gates_of st) k)
      → StageOk w.words w.blocks x (actor_of w a) (w.boosted.shadows a) st (actor_of w a).place → MayGoOn a (committed_at w a st) st
  may_go_on w a x (Ready ks) held h =
      let ready = acted w (asks a AskStore ∷ []) in
      may_release a (acted ready (moves a ∷ [])) ks
      (λ k. ap (λ (gates : ℕ → Option ℕ). is_actor a (gates k)) (step_gates ready a ∙ store_gates w a) ∙ held k)
  may_go_on w a x (Storing ks) held h =
      may_release a (acted w (moves a ∷ [])) ks (λ k. ap (λ (gates : ℕ → Option ℕ). is_actor a (gates k)) (step_gates w a) ∙ held k)
  may_go_on w a x (Homing (k ∷ ks)) held h = homed w a k ks held h.0
  may_go_on w a x (Homing []) held h = tt
  may_go_on w a x Idle held h = tt
  may_go_on w a x Beginning held h = tt
  may_go_on w a x Open held h = tt
  may_go_on w a x (Reading l) held h = tt
  may_go_on w a x (Trying asked tries) held h = tt
  may_go_on w a x (Copying asked) held h = tt
  may_go_on w a x (Loading o es) held h = tt
  may_go_on w a x Locking held h = tt
  may_go_on w a x (Gating got ks tries) held h = tt
  may_go_on w a x Releasing held h = tt
  may_go_on w a x Closing held h = tt
  may_go_on w a x (Returning ks) held h = tt
  may_go_on w a x Cancelling held h = tt
  may_go_on w a x Leaving held h = tt

  pub goes_on : (blocks : List Block) (clock : ℕ) (values : List ℕ) (held : List (Held V)) (events : List (Event V)) (a : ℕ)
      → HaveStripes blocks
      → let w = run (opened blocks clock values held) events in MayGoOn a (committed_at w a (w.seats a).stage) (w.seats a).stage
  goes_on blocks clock values held events a stripes =
      let o : World V = opened blocks clock values held in
      let k = run_linked events o (opened_linked blocks clock values held stripes) in
      may_go_on (run o events) a ((run o events).seats a) ((run o events).seats a).stage (k.seats a).gates (k.seats a).stage

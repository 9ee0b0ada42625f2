-- No guard of the machine refuses what the next step of a request does: each stage holds the gates that its step needs, and the machine's
-- actor stands where a step, or the request that it asks, is next.
use Rattle.std.proofs.Common.{◌≡◌, ℕ, Bool, true, false, ◌||◌, List, [], ◌∷◌, inl, inr, sym, ◌∙◌, ap, subst}
use Rattle.std.specs.Prelude.{nat_lt, if◌then◌else◌}
use Rattle.std.proofs.lemmas.Bool.{cases_Bool}
use Rattle.tx_sets.specs.Entries.{locations}
use Rattle.tx_machine.specs.Actor as machine
use Rattle.tx_machine.specs.Actor.{Place, Actor}
use Rattle.tx_machine.specs.World.{World as Words, plan}
use Rattle.tx_machine.specs.Notices as told
use Rattle.tx_machine.specs.Notices.{notice}
use Rattle.tx_machine.proofs.Sets.{locations_member}
use Rattle.tx_machine.proofs.Invariant.{PlaceOk}
use Rattle.tx_machine.specs.Content.{has}
use Rattle.tx_machine.specs.Boosted.{is_actor, is_committing, is_stored, is_held, every}
use Rattle.seq_model.specs.declared.held.Held.{Held}
use Rattle.seq_model.specs.declared.event.Event.{Event}
use Rattle.replay_log.specs.Contents.{Block, HaveStripes, home_of, is_plain, content}
use Rattle.replay_log.specs.Worlds.{World, Seat, Stage, Idle, Beginning, Open, Locking, Releasing, Closing, Cancelling, Leaving, Reading}
use Rattle.replay_log.specs.Worlds.{Trying, Copying, Loading, Gating, Ready, Storing, Homing, Returning, run, opened}
use Rattle.replay_log.specs.Guards.{IsAllowed, step_action}
use Rattle.replay_log.proofs.ActionLemmas.{mine, learns}
use Rattle.replay_log.proofs.PlaceLemmas.{leaving_rests, AfterRead, read_after, AfterLock, lock_after, AfterStore, store_after}
use Rattle.replay_log.proofs.PlaceLemmas.{AfterRelease, release_after, AfterUndo, undo_after}
use Rattle.replay_log.proofs.SeatLemmas.{CommitOk, gates_of, StageOk}
use Rattle.replay_log.proofs.StageLemmas.{every_all, first_has}
use Rattle.replay_log.proofs.EventLemmas.{run_linked, opened_linked}

-- a step is next
abbrev IsDue : Words → Actor → Place → Type 0
IsDue s y p = notice s y p ≡ told.NoTransaction → ⊥

begin_due : (s : Words) (y : Actor) → IsDue s y machine.Begin
begin_due s y e = none (nat_lt s.clock machine.clock_limit) e
  where
    none : (b : Bool) → (if b then told.Begun s.clock else told.Exhausted s.clock) ≡ told.NoTransaction → ⊥
    none true e = cc
    none false e = cc

closed_due : told.Closed ≡ told.NoTransaction → ⊥
closed_due e = cc

module _ {V : Type 0} where
  due_at : (w : World V) (a : ℕ) (p : Place) → (w.boosted.words.actors a).place ≡ p → IsDue w.boosted.words (w.boosted.words.actors a) p
      → IsDue w.boosted.words (w.boosted.words.actors a) (w.boosted.words.actors a).place
  due_at w a p e h = subst (IsDue w.boosted.words (w.boosted.words.actors a)) (sym e) h

  all_held : (w : World V) (a : ℕ) (x : Seat V) (ks : List ℕ) → ((k : ℕ) → mine w.boosted a k ≡ has ks k)
      → CommitOk w.words w.blocks x (w.boosted.words.actors a) (w.boosted.shadows a) ks
      → every (is_held (content {V = V} w.words w.blocks) w.boosted a) (locations (w.boosted.words.actors a).writes) ≡ true
  all_held w a x ks held h =
      let s = w.boosted in
      let v = s.words.actors a in
      every_all (is_held (content {V = V} w.words w.blocks) s a) (locations v.writes) (λ l m. (
      let o = locations_member v.writes l m in
      elim (cases_Bool (is_plain w.words w.blocks l)) [
        | inl pl ↦ ap (λ b. b || is_actor a (s.gates (home_of w.words w.blocks l))) pl
        | inr pl ↦
            ap (λ b. b || is_actor a (s.gates (home_of w.words w.blocks l))) pl ∙ held (home_of w.words w.blocks l) ∙ h.covers l o.0 pl o.1
      ]))

  allowed : (w : World V) (a : ℕ) (x : Seat V) (st : Stage V) → PlaceOk w.boosted.words (w.boosted.words.actors a)
      (w.boosted.words.actors a).place
      → ((k : ℕ) → mine w.boosted a k ≡ has (gates_of st) k)
      → StageOk w.words w.blocks x (w.boosted.words.actors a) (w.boosted.shadows a) st (w.boosted.words.actors a).place
      → IsAllowed w st (step_action w a st)
  allowed w a x Idle pl held h = tt
  allowed w a x Open pl held h = tt
  allowed w a x Beginning pl held h = due_at w a machine.Begin h (begin_due w.boosted.words (w.boosted.words.actors a))
  allowed w a x (Reading l) pl held h =
      let y = w.boosted.words.actors a in
      let s = w.boosted.words in
      λ e. subst (AfterRead l y (learns s y (plan y y.place))) e (read_after s y l y.place h.0)
  allowed w a x (Trying asked tries) pl held h = ap is_committing h.0
  allowed w a x (Copying asked) pl held h = (held asked.collection ∙ first_has asked.collection [], ap is_committing h.0)
  allowed w a x (Loading o []) pl held h = absurd h
  allowed w a x (Loading o (d ∷ es)) pl held h =
      let y = w.boosted.words.actors a in
      let s = w.boosted.words in
      λ e. subst (AfterRead d.0 y (learns s y (plan y y.place))) e (read_after s y d.0 y.place h.0)
  allowed w a x Locking pl held h =
      let y = w.boosted.words.actors a in
      let s = w.boosted.words in
      λ e. subst (AfterLock y (learns s y (plan y y.place))) e (lock_after s y y.place h.0)
  allowed w a x (Gating got [] tries) pl held h = absurd h
  allowed w a x (Gating got (k ∷ ks) tries) pl held h = ap is_committing h.0
  allowed w a x (Ready ks) pl held h = (h.0, all_held w a x ks held h.1)
  allowed w a x (Storing ks) pl held h =
      let y = w.boosted.words.actors a in
      let s = w.boosted.words in
      λ e. subst (AfterStore y (learns s y (plan y y.place))) e (store_after s y y.place h.0)
  allowed w a x (Homing []) pl held h = absurd h
  allowed w a x (Homing (k ∷ ks)) pl held h = (held k ∙ first_has k ks, ap is_stored h.0)
  allowed w a x Releasing pl held h =
      let y = w.boosted.words.actors a in
      let s = w.boosted.words in
      due_at w a machine.Release h.0 (λ e. subst (AfterRelease y (learns s y (plan y machine.Release))) e
      (release_after s y y.held (subst (PlaceOk s y) h.0 pl).some))
  allowed w a x Closing pl held h = due_at w a machine.Close h.0 closed_due
  allowed w a x (Returning []) pl held h = absurd h
  allowed w a x (Returning (k ∷ ks)) pl held h = (held k ∙ first_has k ks, leaving_rests (w.boosted.words.actors a).place h.0)
  allowed w a x Cancelling pl held h =
      let y = w.boosted.words.actors a in
      let s = w.boosted.words in
      due_at w a machine.Undo h.0 (λ e. subst (AfterUndo y (learns s y (plan y machine.Undo))) e (undo_after s y y.held h.1))
  allowed w a x Leaving pl held h = due_at w a machine.Leave h.0 closed_due

  pub world_allows : (blocks : List Block) (clock : ℕ) (values : List ℕ) (held : List (Held V)) (events : List (Event V)) (a : ℕ)
      → HaveStripes blocks
      → let w = run (opened blocks clock values held) events in IsAllowed w (w.seats a).stage (step_action w a (w.seats a).stage)
  world_allows blocks clock values held events a stripes =
      let o : World V = opened blocks clock values held in
      let k = run_linked events o (opened_linked blocks clock values held stripes) in
      allowed (run o events) a ((run o events).seats a) ((run o events).seats a).stage (k.base.inv.machine.actors a).place (k.seats a).gates
      (k.seats a).stage

-- What is known of an actor's lone world, as events have reached one that is the same to it.
--
-- In a world that events have reached, each seat stands at a place that fits its stage, holds the gates that its stage says, and where a
-- step of the words is next the word actor is not idle. All this is said of what is the actor's own, so it holds of its lone world too.
use Rattle.std.proofs.Common.{◌≡◌, ℕ, List, [], ◌∷◌, Option, Some, refl, sym, ap, ◌∙◌, subst}
use Rattle.tx_sets.specs.Entries.{Entries}
use Rattle.tx_machine.specs.Content.{has}
use Rattle.tx_machine.specs.Boosted.{Action, is_actor}
use Rattle.tx_machine.specs.Actor.{Actor, Place, Idle, Begin, Open, Look, Fetch, Again, Lock, Take, Check, Broken, First, Store, Release}
use Rattle.tx_machine.specs.Actor.{Undo, Leave, Close}
use Rattle.tx_machine.specs.World as words
use Rattle.tx_machine.specs.World.{Rests, plan, first_store, release, undo}
use Rattle.tx_machine.specs.Notices.{NoTransaction, last_notice, notice, Stored, Released, Cancelled}
use Rattle.tx_machine.proofs.Invariant.{IsSomeEntry, PlaceOk}
use Rattle.replay_log.specs.Contents.{CollectionCall, Block}
use Rattle.replay_log.specs.Guards.{IsAllowed, step_action}
use Rattle.replay_log.specs.Seats as seats
use Rattle.replay_log.specs.Seats.{World, Seat, Stage, actor_of, moves}
use Rattle.replay_log.specs.Worlds.{run}
use Rattle.replay_log.proofs.EventLemmas.{opened_linked, run_linked}
use Rattle.replay_log.proofs.GuardLemmas.{world_allows}
use Rattle.replay_log.proofs.SeatLemmas.{Copy, Linked, StageOk, gates_of}
use Rattle.actor_parts.specs.Dispatch.{next_of}
use Rattle.actor_parts.specs.declared.next.Next.TheVariants as next
use Rattle.shared_table.specs.declared.view.Opening.{Opening}
use Rattle.shared_table.specs.Opening.{blocks_at, world_at}
use Rattle.shared_table.specs.Shown.{IsReached}

-- ---- a deed of an idle actor
first_rests : (x : Actor) (es : Entries) → first_store x es ≡ Rests → last_notice es Stored ≡ NoTransaction
first_rests x [] e = refl
first_rests x (d ∷ es) e = let z : ⊥ = cc in absurd z

release_rests : (x : Actor) (es : Entries) → release x es ≡ Rests → last_notice es Released ≡ NoTransaction
release_rests x [] e = refl
release_rests x (d ∷ es) e = let z : ⊥ = cc in absurd z

undo_rests : (x : Actor) (es : Entries) → undo x es ≡ Rests → last_notice es Cancelled ≡ NoTransaction
undo_rests x [] e = refl
undo_rests x (d ∷ es) e = let z : ⊥ = cc in absurd z

-- it answers that there is no transaction
rests_told : (s : words.World) (x : Actor) (p : Place) → plan x p ≡ Rests → notice s x p ≡ NoTransaction
rests_told s x Idle e = refl
rests_told s x Begin e = let z : ⊥ = cc in absurd z
rests_told s x Open e = refl
rests_told s x (Look l) e = let z : ⊥ = cc in absurd z
rests_told s x (Fetch l k) e = let z : ⊥ = cc in absurd z
rests_told s x (Again l k v) e = let z : ⊥ = cc in absurd z
rests_told s x (Lock []) e = let z : ⊥ = cc in absurd z
rests_told s x (Lock (l ∷ ls)) e = let z : ⊥ = cc in absurd z
rests_told s x (Take l k ls) e = let z : ⊥ = cc in absurd z
rests_told s x (Check []) e = refl
rests_told s x (Check (l ∷ ls)) e = let z : ⊥ = cc in absurd z
rests_told s x Broken e = refl
rests_told s x First e = first_rests x x.writes e
rests_told s x (Store []) e = refl
rests_told s x (Store (l ∷ ls)) e = let z : ⊥ = cc in absurd z
rests_told s x Release e = release_rests x x.held e
rests_told s x Undo e = undo_rests x x.held e
rests_told s x Leave e = let z : ⊥ = cc in absurd z
rests_told s x Close e = let z : ⊥ = cc in absurd z

some_first : (x : Actor) (es : Entries) → IsSomeEntry es → first_store x es ≡ Rests → ⊥
some_first x [] h e = h
some_first x (d ∷ es) h e = cc

module _ {V : Type 0} where
  -- where a step of the words is next
  pub word_action : (w : World V) (a : ℕ) (s : Stage V) → next_of s ≡ next.Word → step_action w a s ≡ Some (moves a)
  word_action w a seats.Idle e = let z : ⊥ = cc in absurd z
  word_action w a seats.Open e = let z : ⊥ = cc in absurd z
  word_action w a (seats.Trying asked n) e = let z : ⊥ = cc in absurd z
  word_action w a (seats.Copying asked) e = let z : ⊥ = cc in absurd z
  word_action w a (seats.Loading o []) e = let z : ⊥ = cc in absurd z
  word_action w a (seats.Loading o (d ∷ es)) e = refl
  word_action w a (seats.Gating got [] n) e = let z : ⊥ = cc in absurd z
  word_action w a (seats.Gating got (k ∷ ks) n) e = let z : ⊥ = cc in absurd z
  word_action w a (seats.Ready ks) e = let z : ⊥ = cc in absurd z
  word_action w a (seats.Homing []) e = let z : ⊥ = cc in absurd z
  word_action w a (seats.Homing (k ∷ ks)) e = let z : ⊥ = cc in absurd z
  word_action w a (seats.Returning []) e = let z : ⊥ = cc in absurd z
  word_action w a (seats.Returning (k ∷ ks)) e = let z : ⊥ = cc in absurd z
  word_action w a s e = refl

  module _ (key : Opening V) (a : ℕ) (u : World V) (h : IsReached (world_at key) a u) where
    abbrev there : World V
    there = run (world_at key) h.events

    linked : Linked there
    linked = run_linked h.events (world_at key)
        (opened_linked (blocks_at key) key.shape.value.clock key.state.value.words key.state.value.held h.stripes)

    pub own_actor : actor_of there a ≡ actor_of u a
    own_actor = h.alike.boosted.actor

    -- its place fits its stage
    pub own_ok : StageOk u.words u.blocks (u.seats a) (actor_of u a) (u.boosted.shadows a) (u.seats a).stage (actor_of u a).place
    own_ok = subst (λ (z : ℕ × List Block × Seat V × Actor × Copy V). StageOk z.0 z.1 z.2 z.3 z.4 z.2.stage z.3.place)
        (λ i. (h.alike.words i, h.alike.blocks i, h.alike.seat i, h.alike.boosted.actor i, h.alike.boosted.shadow i))
        (linked.seats a).stage

    -- it holds the gates that its stage says
    pub own_gates : (k : ℕ) → is_actor a (u.boosted.gates k) ≡ has (gates_of (u.seats a).stage) k
    own_gates k = sym (h.alike.boosted.gates k) ∙ (linked.seats a).gates k ∙ ap (λ (x : Seat V). has (gates_of x.stage) k) h.alike.seat

    -- where a step of the words is next the word actor is not idle
    pub own_due : next_of (u.seats a).stage ≡ next.Word
        → plan (actor_of u a) (actor_of u a).place ≡ Rests → ⊥
    own_due due e =
        let st : (there.seats a).stage ≡ (u.seats a).stage = ap (λ (x : Seat V). x.stage) h.alike.seat in
        let action : step_action there a (there.seats a).stage ≡ Some (moves a) =
        word_action there a (there.seats a).stage (ap next_of st ∙ due) in
        let may : notice there.boosted.words (actor_of there a) (actor_of there a).place ≡ NoTransaction → ⊥ =
        subst (λ (o : Option (Action (CollectionCall V))). IsAllowed there (there.seats a).stage o) action
        (world_allows (blocks_at key) key.shape.value.clock key.state.value.words key.state.value.held h.events a h.stripes) in
        may (rests_told there.boosted.words (actor_of there a) (actor_of there a).place
        (ap (λ (y : Actor). plan y y.place) own_actor ∙ e))

    -- a commit that has checked all has written something
    pub own_writes : (actor_of u a).place ≡ Check [] → IsSomeEntry (actor_of u a).writes
    own_writes at =
        let v = actor_of there a in
        let at_v : v.place ≡ Check [] = ap (λ (y : Actor). y.place) own_actor ∙ at in
        let ok = subst (PlaceOk there.boosted.words v) at_v (linked.base.inv.machine.actors a).place in
        subst (λ (y : Actor). IsSomeEntry y.writes) own_actor ok.0.some

-- An event that is fed to the parts of a world is the event of an actor at a place, or one that changes nothing.
use Rattle.std.proofs.Common.{◌≡◌, ℕ, ◌+◌, ◌<◌, Bool, true, false, true≢false, Some, refl, sym, ap, ◌∙◌, subst, arith}
use Rattle.std.specs.Prelude.{if◌then◌else◌, slice_get, OnErr, Result, Ok, Err}
use Rattle.seq_model.specs.declared.event.Event.{Event}
use Rattle.seq_model.specs.declared.event.Event.TheVariants.{Step}
use Rattle.seq_model.specs.declared.event.Notice.TheVariants.{Refused}
use Rattle.seq_model.specs.declared.refusal.Refusal.TheVariants.{NoSuch, NoTransaction}
use Rattle.step_core.specs.Shown.{is_actor}
use Rattle.step_core.proofs.Lists.{same_at, some_at}
use Rattle.replay_log.specs.WorldProgress.{whose}
use Rattle.replay_log.specs.Worlds.{After, World, Stage, happens}
use Rattle.actor_parts.specs.Dispatch.{is_loading, next_of}
use Rattle.actor_parts.specs.declared.next.Next.TheVariants as next
use Rattle.tx_actor.specs.Running.{notice_of, stage_of}
use Rattle.std.specs.declared.alloc.Global.{Global}
use Rattle.std.specs.declared.collections.VecDeque.{VecDeque}
use Rattle.tx_actor.specs.declared.actor.CallWithOutcome as running
use Rattle.tx_actor.specs.declared.actor.Stage as own
use Rattle.tx_actor.specs.declared.actor.Stage.TheVariants as stage
use Rattle.tx_actor.specs.declared.actor.ActorNotice.{ActorNotice}
use Rattle.tx_actor.specs.declared.actor.ActorNotice.TheVariants as told
use Rattle.tx_actor.specs.declared.actor.TxActor.{TxActor}
use Rattle.step_world.specs.declared.parts.Parts.{Parts}
use Rattle.step_world.specs.declared.opening.TheConstants.{ACTORS}
use Rattle.step_world.specs.Feeds.{AllocatesNothing, Feeds, MayAllocate, allocates_at, fed}
use Rattle.step_world.specs.Parts.{Happens, HasWorld, IsWorld}
use Rattle.tx_actor.proofs.CopyLemmas.{copying_is}
use Rattle.tx_actor.proofs.StepLemmas.{first_is, nothing_is}

-- what holds anyway
pub on_err : {T E P : Type 0} → (r : Result T E) → P → OnErr r P
on_err (Ok x) p = tt
on_err (Err e) p = p

module _ {V : Type 0} where
  pub quiet_unless : (t : own.Stage V) → ((o : running.CallWithOutcome V) (left : VecDeque (ℕ × ℕ) Global) → t ≡ stage.Loading o left → ⊥)
      → is_loading (stage_of t) ≡ false
  quiet_unless (stage.Loading o left) p = absurd (p o left refl)
  quiet_unless t p = refl

  pub nothing_happens : (c : Parts V) (i : ℕ) (r : TxActor V) → slice_get c.actors.items i ≡ Some r
      → next_of (stage_of r.stage) ≡ next.Nothing → Happens c (Step (i + 1)) c (told.Refused NoTransaction)
  nothing_happens c i r got due = record {
    parts = λ o w reached h.
        subst (λ (p : After V). IsWorld c p.0) (sym (nothing_is o w (i + 1) r reached (h.seats i r got).runs due)) h;
    told = λ o w reached h. sym (ap (λ (p : After V). p.1) (nothing_is o w (i + 1) r reached (h.seats i r got).runs due));
  }

  pub fed_one : (w : World V) (e : Event V) → is_actor (whose e) ≡ true → fed w e ≡ happens w e
  fed_one w e is = ap (λ (b : Bool). if b then happens w e else (w, Refused (whose e) NoSuch)) is

  pub fed_none : (w : World V) (e : Event V) → is_actor (whose e) ≡ false → fed w e ≡ (w, Refused (whose e) NoSuch)
  fed_none w e isnt = ap (λ (b : Bool). if b then happens w e else (w, Refused (whose e) NoSuch)) isnt

  feeds_own : (c d : Parts V) (e : Event V) (n : ActorNotice V) → is_actor (whose e) ≡ true → Happens c e d n
      → Feeds c e d (notice_of (whose e) n)
  feeds_own c d e n is h = record {
    parts = λ o w reached k. subst (λ (p : After V). IsWorld d p.0) (sym (fed_one w e is)) (h.parts o w reached k);
    told = λ o w reached k. h.told o w reached k ∙ sym (ap (λ (p : After V). p.1) (fed_one w e is));
  }

  -- an event of the actor a, which stands at place i
  pub feeds_at : (e : ℕ → Event V) → ((b : ℕ) → whose (e b) ≡ b) → (c d : Parts V) (a i : ℕ) (n : ActorNotice V) → a ≡ i + 1
      → is_actor a ≡ true → Happens c (e (i + 1)) d n → Feeds c (e a) d (notice_of a n)
  feeds_at e own c d a i n at is h =
      let there : Happens c (e a) d n = subst (λ (b : ℕ). Happens c (e b) d n) (sym at) h in
      subst (λ (b : ℕ). Feeds c (e a) d (notice_of b n)) (own a)
      (feeds_own c d (e a) n (ap (λ (b : ℕ). is_actor b) (own a) ∙ is) there)

  pub feeds_none : (c : Parts V) (e : Event V) → is_actor (whose e) ≡ false → Feeds c e c (Refused (whose e) NoSuch)
  feeds_none c e isnt = record {
    parts = λ o w reached k. subst (λ (p : After V). IsWorld c p.0) (sym (fed_none w e isnt)) k;
    told = λ o w reached k. sym (ap (λ (p : After V). p.1) (fed_none w e isnt));
  }

  -- ---- the steps that take memory
  pub first_allocates : (s : Stage V) → next_of s ≡ next.FirstStore → allocates_at s ≡ true
  first_allocates s due = let first = first_is s due in ap (λ (z : Stage V). allocates_at z) first.1

  pub copy_allocates : (t : own.Stage V) (k : ℕ) → next_of (stage_of t) ≡ next.Copy k → allocates_at (stage_of t) ≡ true
  copy_allocates t k due = let c = copying_is t k due in ap (λ (z : own.Stage V). allocates_at (stage_of z)) c.1

  pub may_allocate : (c : Parts V) (i : ℕ) (r : TxActor V) → slice_get c.actors.items i ≡ Some r
      → allocates_at (stage_of r.stage) ≡ true → MayAllocate c i
  may_allocate c i r got is s at =
      subst (λ (z : TxActor V). allocates_at (stage_of z.stage) ≡ true) (same_at c.actors.items i r s got at) is

  -- a step takes memory, or takes none
  pub never_both : (c : Parts V) (a i : ℕ) → HasWorld c → a ≡ i + 1 → i < ACTORS → AllocatesNothing c (Step a) → MayAllocate c i → ⊥
  never_both c a i h at low nothing may =
      let some = some_at c.actors.items i (omega (arith, low, h.parts.count)) in
      true≢false (sym (may some.0 some.1) ∙ nothing i some.0 at some.1)

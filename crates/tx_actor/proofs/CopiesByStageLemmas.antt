-- What a step leaves of an actor's copies. A stage asks no more of them than the one before (`copies_to`), one that starts from a stage
-- that asks nothing leaves nothing to be asked (`copies_idle`), and an actor that remains asks what it asked (`copies_same`). What is ready
-- in a copy, and an outcome that it accepts, leave which calls on it have been read.
use Rattle.std.proofs.Common.{◌≡◌, ℕ, zero, suc, Bool, true, false, true≢false, cond, List, [], ◌∷◌, Option, Some, None, Contains, drop}
use Rattle.std.proofs.Common.{refl, sym, ap, subst, ◌∙◌}
use Rattle.std.specs.Prelude.{◌==◌, slice_get}
use Rattle.std.proofs.Math.ListN.{set}
use Rattle.conflict.specs.declared.outcome.Outcome.{Outcome}
use Rattle.replay_log.specs.Worlds.{World}
use Rattle.actor_parts.specs.declared.copies.PrivateCopy.{PrivateCopy}
use Rattle.actor_parts.specs.declared.copies.CopyOfCollection.{CopyOfCollection}
use Rattle.actor_parts.specs.CopyAtGate.{IsReadOf}
use Rattle.actor_parts.specs.CopyList.{copy_of}
use Rattle.actor_parts.proofs.CopyInWorldLemmas.{tail_in}
use Rattle.actor_parts.proofs.ReadLemmas.{reads_accepted}
use Rattle.actor_parts.specs.declared.judged.Judged.{Judged}
use Rattle.actor_parts.specs.declared.judged.Judged.TheVariants.{All, Next, Stale}
use Rattle.std.specs.declared.alloc.Global.{Global}
use Rattle.std.specs.declared.collections.VecDeque.{VecDeque}
use Rattle.tx_actor.specs.declared.actor.CallWithOutcome as running
use Rattle.tx_actor.specs.declared.actor.Stage.{Stage}
use Rattle.tx_actor.specs.declared.actor.Stage.TheVariants as stage
use Rattle.tx_actor.specs.declared.actor.TxActor.{TxActor}
use Rattle.tx_actor.specs.Answers.{CopiesAfter, IsAcceptedAt}
use Rattle.tx_actor.specs.CopiesByStage.{AsksNothing, IsWholeOf, KeepsCopies, KeepsFrom, ReadsStill}
use Rattle.actor_parts.specs.Dispatch.{is_loading}
use Rattle.tx_actor.specs.Running.{at, stage_of}

pub later_in : (ks : List ℕ) (k : ℕ) → Contains (drop 1 ks) k → Contains ks k
later_in [] k h = h
later_in (j ∷ js) k h = tail_in j k js h

module _ {V : Type 0} where
  -- ---- from stage to stage
  -- it remains where it is
  same_from : (s : Stage V) (cs : List (CopyOfCollection V)) → is_loading (stage_of s) ≡ false → KeepsFrom s s cs cs
  same_from stage.Open cs quiet = (tt, refl)
  same_from (stage.Reading l) cs quiet = (tt, refl)
  same_from (stage.Trying asked tries) cs quiet = (tt, refl)
  same_from (stage.Copying asked) cs quiet = (tt, refl)
  same_from (stage.Loading o left) cs quiet = absurd (true≢false quiet)
  same_from (stage.Locking homes) cs quiet = (tt, refl)
  same_from (stage.Gating homes got tries) cs quiet = (tt, refl)
  same_from (stage.Ready homes) cs quiet = (tt, refl)
  same_from (stage.Storing homes) cs quiet = (λ k h. h, refl)
  same_from (stage.Homing homes) cs quiet = (λ k h. h, refl)
  same_from s cs quiet = tt

  pub copies_same : (r u : TxActor V) → is_loading (stage_of r.stage) ≡ false → u ≡ r → KeepsCopies r u
  copies_same r u quiet e = subst (λ (z : TxActor V). KeepsCopies r z) (sym e) (same_from r.stage r.copies.items quiet)

  -- a stage that reads for no call
  pub quiet_by : (s : Stage V) → ((o : running.CallWithOutcome V) (left : VecDeque (ℕ × ℕ) Global) → s ≡ stage.Loading o left → ⊥)
      → is_loading (stage_of s) ≡ false
  quiet_by (stage.Loading o left) p = absurd (p o left refl)
  quiet_by s p = refl

  -- r stands at the stage s
  pub copies_at : (r u : TxActor V) (s : Stage V) → r.stage ≡ s → KeepsCopies (at r s) u → KeepsCopies r u
  copies_at r u s e k = subst (λ (z : Stage V). KeepsCopies (at r z) u) (sym e) k

  -- u stands at the stage t
  pub copies_to : (r u : TxActor V) (t : Stage V) → u.stage ≡ t → KeepsFrom t r.stage r.copies.items u.copies.items → KeepsCopies r u
  copies_to r u t e k = subst (λ (z : Stage V). KeepsFrom z r.stage r.copies.items u.copies.items) (sym e) k

  -- a stage that asks nothing of the copies leaves nothing to be asked
  from_idle : (t s : Stage V) (before last now : List (CopyOfCollection V)) → KeepsFrom t stage.Idle before now → KeepsFrom t s last now
  from_idle stage.Open s before last now k = absurd k.0
  from_idle (stage.Reading l) s before last now k = absurd k.0
  from_idle (stage.Trying asked tries) s before last now k = absurd k.0
  from_idle (stage.Copying asked) s before last now k = absurd k.0
  from_idle (stage.Loading o left) s before last now k = absurd k
  from_idle (stage.Locking homes) s before last now k = absurd k.0
  from_idle (stage.Gating homes got tries) s before last now k = absurd k.0
  from_idle (stage.Ready homes) s before last now k = absurd k.0
  from_idle (stage.Storing homes) s before last now k = absurd k.0
  from_idle (stage.Homing homes) s before last now k = absurd k.0
  from_idle t s before last now k = tt

  pub copies_idle : (r q u : TxActor V) → KeepsCopies (at q stage.Idle) u → KeepsCopies r u
  copies_idle r q u k = from_idle u.stage r.stage q.copies.items r.copies.items u.copies.items k

  pub asks_nothing : (r u : TxActor V) → KeepsCopies (at r stage.Idle) u → AsksNothing u
  asks_nothing r u k = from_idle u.stage stage.Idle r.copies.items [] u.copies.items k

  -- from a stage of a commit that stores, or puts bases back, to one where as much is known
  pub from_storing : (t : Stage V) (homes : VecDeque ℕ Global) (last : Stage V) (before now : List (CopyOfCollection V))
      → ((ks : List ℕ) → IsWholeOf {V = V} (stage.Storing homes) ks → IsWholeOf last ks) → KeepsFrom t (stage.Storing homes) before now
      → KeepsFrom t last before now
  from_storing stage.Open homes last before now more k = absurd k.0
  from_storing (stage.Reading l) homes last before now more k = absurd k.0
  from_storing (stage.Trying asked tries) homes last before now more k = absurd k.0
  from_storing (stage.Copying asked) homes last before now more k = absurd k.0
  from_storing (stage.Loading o left) homes last before now more k = absurd k
  from_storing (stage.Locking ks) homes last before now more k = absurd k.0
  from_storing (stage.Gating ks got tries) homes last before now more k = absurd k.0
  from_storing (stage.Ready ks) homes last before now more k = absurd k.0
  from_storing (stage.Storing ks) homes last before now more k = (more ks.items k.0, k.1)
  from_storing (stage.Homing ks) homes last before now more k = (more ks.items k.0, k.1)
  from_storing t homes last before now more k = tt

  pub from_homing : (t : Stage V) (homes : VecDeque ℕ Global) (last : Stage V) (before now : List (CopyOfCollection V))
      → ((ks : List ℕ) → IsWholeOf {V = V} (stage.Homing homes) ks → IsWholeOf last ks) → KeepsFrom t (stage.Homing homes) before now
      → KeepsFrom t last before now
  from_homing stage.Open homes last before now more k = absurd k.0
  from_homing (stage.Reading l) homes last before now more k = absurd k.0
  from_homing (stage.Trying asked tries) homes last before now more k = absurd k.0
  from_homing (stage.Copying asked) homes last before now more k = absurd k.0
  from_homing (stage.Loading o left) homes last before now more k = absurd k
  from_homing (stage.Locking ks) homes last before now more k = absurd k.0
  from_homing (stage.Gating ks got tries) homes last before now more k = absurd k.0
  from_homing (stage.Ready ks) homes last before now more k = absurd k.0
  from_homing (stage.Storing ks) homes last before now more k = (more ks.items k.0, k.1)
  from_homing (stage.Homing ks) homes last before now more k = (more ks.items k.0, k.1)
  from_homing t homes last before now more k = tt

  -- ---- what was read
  pub still_same : (before now : List (CopyOfCollection V)) → now ≡ before → ReadsStill before now
  still_same before now e w a k is = subst (λ (cs : List (CopyOfCollection V)). IsReadOf w a k (copy_of cs k)) (sym e) is

  pub still_then : (cs ds es : List (CopyOfCollection V)) → ReadsStill cs ds → ReadsStill ds es → ReadsStill cs es
  still_then cs ds es p q w a k is = q w a k (p w a k is)

  either_read : (w : World V) (a k : ℕ) (b : Bool) (o p q s : Option (PrivateCopy V)) → (IsReadOf w a k o → IsReadOf w a k p)
      → (IsReadOf w a k q → IsReadOf w a k s) → IsReadOf w a k (cond b o q) → IsReadOf w a k (cond b p s)
  either_read w a k true o p q s here rest is = here is
  either_read w a k false o p q s here rest is = rest is

  -- one of the copies with another in its place, of the same collection
  still_set : (cs : List (CopyOfCollection V)) (i : ℕ) (c d : CopyOfCollection V) → slice_get cs i ≡ Some c → d.collection ≡ c.collection
      → ((w : World V) (a k : ℕ) → IsReadOf w a k (Some c.copied) → IsReadOf w a k (Some d.copied)) → ReadsStill cs (set cs i d)
  still_set [] i c d got same read w a k is = let h : ⊥ = cc in absurd h
  still_set (x ∷ cs) zero c d got same read w a k is =
      let e : x ≡ c = cc in
      let named : d.collection ≡ x.collection = same ∙ ap (λ (z : CopyOfCollection V). z.collection) (sym e) in
      subst (λ (j : ℕ). IsReadOf w a k (cond (k == j) (Some d.copied) (copy_of cs k))) (sym named)
      (either_read w a k (k == x.collection) (Some x.copied) (Some d.copied) (copy_of cs k) (copy_of cs k)
      (λ h. read w a k (subst (λ (z : CopyOfCollection V). IsReadOf w a k (Some z.copied)) e h)) (λ h. h) is)
  still_set (x ∷ cs) (suc i) c d got same read w a k is =
      either_read w a k (k == x.collection) (Some x.copied) (Some x.copied) (copy_of cs k) (copy_of (set cs i d) k) (λ h. h)
      (still_set cs i c d got same read w a k) is

  still_accepted : (i : ℕ) (p : Option (Outcome V)) (before now : List (CopyOfCollection V)) → IsAcceptedAt i p before now
      → ReadsStill before now
  still_accepted i None before now is = still_same before now is
  still_accepted i (Some o) before now is =
      subst (λ (ds : List (CopyOfCollection V)). ReadsStill before ds) (sym is.6)
      (still_set before i is.0 is.1 is.2 is.3 (λ w a k. reads_accepted w a k is.0.copied is.1.copied o is.5 is.4))

  pub still_after : (j : Judged) (o : running.CallWithOutcome V) (before now : List (CopyOfCollection V)) → CopiesAfter j o before now
      → ReadsStill before now
  still_after All o before now is = still_accepted o.place o.outcome before now is
  still_after (Next l) o before now is = still_same before now is
  still_after (Stale l b v) o before now is = still_same before now is

-- A call whose gate is held is copied, in a world that events have reached, from a base that shows its collection there.
--
-- What the call asks of its actor is there: what the actor has of the collection is its own and was read, so what is taken of the base
-- holds the call, and its sizes are those of the base (`may`, `can`). The step of its seat is then what the actor makes of what it took
-- (`copy_runs`), and what it has of collections is stated by the law on copied calls (`copy_keeps`).
use Rattle.std.proofs.Common.{◌≡◌, ℕ, zero, suc, arith, ◌<◌, Bool, true, false, List, [], ◌∷◌, Option, Some, None, refl, sym, ap, ◌∙◌}
use Rattle.std.proofs.Common.{subst}
use Rattle.std.specs.Prelude.{length}
use Rattle.tx_machine.specs.Actor as machine
use Rattle.seq_model.specs.Contents.{Contents}
use Rattle.seq_model.specs.declared.event.Event.TheVariants.{Starve, Step}
use Rattle.seq_model.specs.declared.event.Notice.TheVariants.{Quiet}
use Rattle.conflict.specs.declared.outcome.Outcome.{Outcome}
use Rattle.replay_log.specs.declared.base.Base.{Base}
use Rattle.replay_log.specs.Base.{outcome_of, shown_of}
use Rattle.replay_log.specs.Contents as contents
use Rattle.replay_log.specs.Contents.{Block, block_of}
use Rattle.replay_log.specs.Worlds as worlds
use Rattle.replay_log.specs.Worlds.{World, Seat, Stage, After, Idle, Beginning, Open, Locking, Releasing, Closing, Cancelling, Leaving}
use Rattle.replay_log.specs.Worlds.{Reading}
use Rattle.replay_log.specs.Worlds.{Trying, Copying, Loading, Gating, Ready, Storing, Homing, Returning, happens, may_ask, step_at}
use Rattle.replay_log.proofs.ContentLemmas.{positive_at}
use Rattle.actor_laws.specs.Bases.{IsBaseOf, ShowsBase}
use Rattle.actor_parts.specs.Blocks.{BlocksView, IsLaid}
use Rattle.actor_parts.specs.Dispatch.{IsDue, is_loading, next_of}
use Rattle.actor_parts.specs.Requests.{HasNoReads}
use Rattle.actor_parts.specs.declared.next.Next.TheVariants as next
use Rattle.actor_parts.specs.declared.copies.PrivateCopy.{PrivateCopy}
use Rattle.actor_parts.specs.declared.copies.BaseExcerpt.{BaseExcerpt}
use Rattle.actor_parts.specs.CopyAtGate.{CopiesFor, CopiesGoOn, CopiesReached, IsCopyFor, IsReadOf, IsTaken}
use Rattle.actor_parts.specs.PrivateCopy.{IsFound, holds_of}
use Rattle.actor_parts.specs.CopyList.{copy_of}
use Rattle.actor_parts.specs.Owns.{IsOwn}
use Rattle.actor_parts.specs.Sizes.{SizesAs, SizesCopies}
use Rattle.tx_actor.specs.Copying.{CanCopy, CanCopyAt, HasTaken, HasTakenAt, MayCopy, StepsOnAt}
use Rattle.tx_actor.specs.Dispatch.{HasRoom}
use Rattle.tx_actor.specs.CopiesByStage.{HasCopies, HasCopiesAt, OwnsAll}
use Rattle.tx_actor.specs.ActorBounds.{IsRunning, NamesAmong}
use Rattle.tx_actor.specs.Running.{Runs, asked_of, at, is_recorded, notice_of, seat_of, stage_of}
use Rattle.tx_actor.specs.CopiesAfterStep.{CopiesStayOwn}
use Rattle.tx_actor.specs.Taking.{StarvesBehindAt}
use Rattle.tx_actor.specs.declared.actor.CollectionCall.{CollectionCall}
use Rattle.tx_actor.specs.declared.actor.Stage as own
use Rattle.tx_actor.specs.declared.actor.Stage.TheVariants as stage
use Rattle.tx_actor.specs.declared.actor.ActorNotice.{ActorNotice}
use Rattle.tx_actor.specs.declared.actor.TxActor.{TxActor}
use Rattle.tx_actor.specs.Reached.{IsReached}
use Rattle.tx_actor.proofs.OwnLemmas.{BlocksLaw, rests_at}
use Rattle.tx_actor.proofs.SeatLemmas.{seated_by, stage_by}
use Rattle.tx_actor.proofs.StepLemmas.{no_reads_at}
use Rattle.tx_machine.specs.Boosted.{Action, PutGate}

pub block_here : (bs : List Block) (k : ℕ) → k < length bs → (b : Block) × (block_of bs k ≡ Some b)
block_here [] k low = let z : ⊥ = omega (arith, low) in absurd z
block_here (b ∷ bs) zero low = (b, refl)
block_here (b ∷ bs) (suc k) low = block_here bs k (omega (arith, low))

module _ {V : Type 0} where
  pub copy_is : (s : Stage V) (k : ℕ) → next_of s ≡ next.Copy k
      → (asked : contents.CollectionCall V) × (s ≡ Copying asked) × (asked.collection ≡ k)
  copy_is (Copying asked) k e = (asked, refl, cc)
  copy_is (Loading o []) k e = let z : ⊥ = cc in absurd z
  copy_is (Loading o (d ∷ es)) k e = let z : ⊥ = cc in absurd z
  copy_is (Gating got [] n) k e = let z : ⊥ = cc in absurd z
  copy_is (Gating got (j ∷ ks) n) k e = let z : ⊥ = cc in absurd z
  copy_is (Homing []) k e = let z : ⊥ = cc in absurd z
  copy_is (Homing (j ∷ ks)) k e = let z : ⊥ = cc in absurd z
  copy_is (Returning []) k e = let z : ⊥ = cc in absurd z
  copy_is (Returning (j ∷ ks)) k e = let z : ⊥ = cc in absurd z
  copy_is Idle k e = let z : ⊥ = cc in absurd z
  copy_is Open k e = let z : ⊥ = cc in absurd z
  copy_is Beginning k e = let z : ⊥ = cc in absurd z
  copy_is Locking k e = let z : ⊥ = cc in absurd z
  copy_is Releasing k e = let z : ⊥ = cc in absurd z
  copy_is Closing k e = let z : ⊥ = cc in absurd z
  copy_is Cancelling k e = let z : ⊥ = cc in absurd z
  copy_is Leaving k e = let z : ⊥ = cc in absurd z
  copy_is (Reading l) k e = let z : ⊥ = cc in absurd z
  copy_is (Trying asked n) k e = let z : ⊥ = cc in absurd z
  copy_is (Ready ks) k e = let z : ⊥ = cc in absurd z
  copy_is (Storing ks) k e = let z : ⊥ = cc in absurd z

  -- ---- the stage
  own_copying : (t : own.Stage V) (asked : contents.CollectionCall V) → stage_of t ≡ worlds.Copying asked
      → (own : CollectionCall V) × (t ≡ stage.Copying own) × (asked_of own ≡ asked)
  own_copying (stage.Copying own) asked e = let same : asked_of own ≡ asked = cc in (own, refl, same)
  own_copying stage.Idle asked e = let z : ⊥ = cc in absurd z
  own_copying stage.Beginning asked e = let z : ⊥ = cc in absurd z
  own_copying stage.Open asked e = let z : ⊥ = cc in absurd z
  own_copying stage.Releasing asked e = let z : ⊥ = cc in absurd z
  own_copying stage.Closing asked e = let z : ⊥ = cc in absurd z
  own_copying stage.Cancelling asked e = let z : ⊥ = cc in absurd z
  own_copying stage.Leaving asked e = let z : ⊥ = cc in absurd z
  own_copying (stage.Reading l) asked e = let z : ⊥ = cc in absurd z
  own_copying (stage.Trying a n) asked e = let z : ⊥ = cc in absurd z
  own_copying (stage.Loading o left) asked e = let z : ⊥ = cc in absurd z
  own_copying (stage.Locking homes) asked e = let z : ⊥ = cc in absurd z
  own_copying (stage.Gating homes got n) asked e = let z : ⊥ = cc in absurd z
  own_copying (stage.Ready homes) asked e = let z : ⊥ = cc in absurd z
  own_copying (stage.Storing homes) asked e = let z : ⊥ = cc in absurd z
  own_copying (stage.Homing homes) asked e = let z : ⊥ = cc in absurd z
  own_copying (stage.Returning homes) asked e = let z : ⊥ = cc in absurd z
  own_copying (stage.ReturningOne j) asked e = let z : ⊥ = cc in absurd z

  pub copying_is : (t : own.Stage V) (k : ℕ) → next_of (stage_of t) ≡ next.Copy k
      → (asked : CollectionCall V) × (t ≡ stage.Copying asked) × (asked.collection ≡ k)
  copying_is t k e =
      let s = copy_is (stage_of t) k e in
      let o = own_copying t s.0 s.1 in
      (o.0, o.1, ap (λ (q : contents.CollectionCall V). q.collection) o.2 ∙ s.2)

  pub quiet_copy : (t : own.Stage V) (k : ℕ) → next_of (stage_of t) ≡ next.Copy k → is_loading (stage_of t) ≡ false
  quiet_copy t k e = let c = copying_is t k e in ap (λ (q : own.Stage V). is_loading (stage_of q)) c.1

  pub due_copy : (a k : ℕ) (o : Option (Action (contents.CollectionCall V))) → IsDue a (next.Copy k) o → (which : ℕ → Bool)
      × (o ≡ Some (PutGate a k which))
  due_copy a k None h = absurd h
  due_copy a k (Some e) h = (h.0, ap Some h.1)

  stands_copying : (w : World V) (a : ℕ) (r : TxActor V) (asked : CollectionCall V) → Runs a r w → r.stage ≡ stage.Copying asked
      → (w.seats a).stage ≡ worlds.Copying (asked_of asked)
  stands_copying w a r asked runs st =
      stage_by (w.seats a) r (ap (λ (q : own.Stage V). is_loading (stage_of q)) st) runs.0
      ∙ ap (λ (q : own.Stage V). stage_of q) st

  goes_in : CopiesReached V → (o : Contents V) (w : World V) (a : ℕ) (asked : CollectionCall V) → IsReached o w
      → (w.seats a).stage ≡ worlds.Copying (asked_of asked) → CopiesGoOn w a (asked_of asked)
  goes_in on o w a asked h =
      subst (λ (z : World V). (z.seats a).stage ≡ worlds.Copying (asked_of asked) → CopiesGoOn z a (asked_of asked)) h.world
      (on h.blocks h.clock o.words o.held h.events a (asked_of asked) h.stripes)

  -- the word actor is idle, and a declared reader keeps no reads
  pub rests_to_copy : CopiesReached V → (o : Contents V) (w : World V) (a k : ℕ) (r : TxActor V) → next_of (stage_of r.stage) ≡ next.Copy k
      → IsReached o w → Runs a r w → HasNoReads r.words
  rests_to_copy on o w a k r due reached runs =
      let c = copying_is r.stage k due in
      no_reads_at o w a r reached runs (goes_in on o w a c.0 reached (stands_copying w a r c.0 runs c.1)).rests

  -- this is the base of the collection in the world
  pub record IsBaseIn (v : BlocksView) (w : World V) (k : ℕ) (base : Base V) : Type 0 where
    pub shows : ShowsBase w.words w.blocks w k base
    pub fit : (b : Block) → block_of v.blocks k ≡ Some b → IsBaseOf b base

  -- ---- what is taken, in a world that events have reached
  module _ (taken : CopiesFor V) (on : CopiesReached V) (sized : SizesCopies V) (v : BlocksView) (o : Contents V) (w : World V) (a : ℕ)
      (r : TxActor V) (base : Base V) (asked : CollectionCall V) (h : IsReached o w) (laid : IsLaid v w) (running : IsRunning v r)
      (runs : Runs a r w)
      (copies : HasCopies r w a) (st : r.stage ≡ stage.Copying asked) (is : IsBaseIn v w asked.collection base) where
    abbrev k : ℕ
    k = asked.collection

    there : (w.seats a).stage ≡ worlds.Copying (asked_of asked)
    there = stands_copying w a r asked runs st

    pub all : OwnsAll r w a
    all = subst (HasCopiesAt r w a) st copies

    unheld : holds_of (copy_of r.copies.items k) asked.op ≡ false
    unheld = subst (HasRoom r) st running.room

    among : k < length v.blocks
    among = subst (NamesAmong (length v.blocks)) st running.names

    in_world : (b : Block) → block_of v.blocks k ≡ Some b → block_of w.blocks k ≡ Some b
    in_world b e = ap (λ (bs : List Block). block_of bs k) laid.1 ∙ e

    copy_for : (b : Block) (x : BaseExcerpt V) (d : PrivateCopy V) → block_of v.blocks k ≡ Some b → IsFound base asked.op x
        → IsTaken b.stripes x (copy_of r.copies.items k) d → IsCopyFor w a b (asked_of asked) d
    copy_for b x d e found took =
        let c = copy_of r.copies.items k in
        let law : (w.seats a).stage ≡ worlds.Copying (asked_of asked) → block_of w.blocks k ≡ Some b → IsBaseOf b base
        → ShowsBase w.words w.blocks w k base → IsOwn w a k c → IsReadOf w a k c → holds_of c asked.op ≡ false → IsFound base asked.op x
        → IsTaken b.stripes x c d → IsCopyFor w a b (asked_of asked) d =
        subst (λ (z : World V). (z.seats a).stage ≡ worlds.Copying (asked_of asked) → block_of z.blocks k ≡ Some b → IsBaseOf b base
        → ShowsBase z.words z.blocks z k base → IsOwn z a k c → IsReadOf z a k c → holds_of c asked.op ≡ false → IsFound base asked.op x
        → IsTaken b.stripes x c d → IsCopyFor z a b (asked_of asked) d) h.world
        (taken h.blocks h.clock o.words o.held h.events a b (asked_of asked) base x c d h.stripes) in
        law there (in_world b e) (is.fit b e) is.shows (all.own.own k) (all.read k) unheld found took

    goes : CopiesGoOn w a (asked_of asked)
    goes = goes_in on o w a asked h there

    block : (b : Block) × (block_of v.blocks k ≡ Some b)
    block = block_here v.blocks k among

    sizes : (q : Outcome V) → outcome_of asked.op (shown_of base) ≡ Some q → SizesAs w a (asked_of asked) base q
    sizes q e =
        let b = block.0 in
        let c = copy_of r.copies.items k in
        let law : (w.seats a).stage ≡ worlds.Copying (asked_of asked) → block_of w.blocks k ≡ Some b → IsBaseOf b base
        → ShowsBase w.words w.blocks w k base → IsOwn w a k c → IsReadOf w a k c → holds_of c asked.op ≡ false
        → outcome_of asked.op (shown_of base) ≡ Some q → SizesAs w a (asked_of asked) base q =
        subst (λ (z : World V). (z.seats a).stage ≡ worlds.Copying (asked_of asked) → block_of z.blocks k ≡ Some b → IsBaseOf b base
        → ShowsBase z.words z.blocks z k base → IsOwn z a k c → IsReadOf z a k c → holds_of c asked.op ≡ false
        → outcome_of asked.op (shown_of base) ≡ Some q → SizesAs z a (asked_of asked) base q) h.world
        (sized h.blocks h.clock o.words o.held h.events a b (asked_of asked) base c q h.stripes) in
        law there (in_world b block.1) (is.fit b block.1) is.shows (all.own.own k) (all.read k) unheld e

    pub may : MayCopy v w a r base asked
    may = record { copy = copy_for; goes_on = goes; sizes = sizes }

    pub can : BlocksLaw V → CanCopy v r base asked
    can of = record {
      rests = rests_at r.words r.words.place (sym (ap (λ (q : machine.Actor). q.place) runs.1) ∙ goes.rests);
      may = subst (λ (q : machine.Actor). may_ask q asked.op ≡ true) runs.1 goes.may;
      blocks = of v r w a laid all.own;
      block = block.0;
      there = block.1;
      among = among;
      stripes = positive_at w.blocks k block.0 all.own.stripes (in_world block.0 block.1);
      is = is.fit block.0 block.1;
      known = ap (λ (c : Option Block). worlds.is_known c asked.op) (sym (in_world block.0 block.1)) ∙ goes.known;
      unheld = unheld;
      holds = λ x d found took. (copy_for block.0 x d block.1 found took).holds;
    }

  -- what is asked of the actor, at its stage
  pub can_copy : CopiesFor V → CopiesReached V → SizesCopies V → BlocksLaw V → (v : BlocksView) (o : Contents V) (w : World V) (a k : ℕ)
      (r : TxActor V) (base : Base V) → next_of (stage_of r.stage) ≡ next.Copy k → IsReached o w → IsLaid v w → IsRunning v r → Runs a r w
      → HasCopies r w a → IsBaseIn v w k base → CanCopyAt v r base r.stage
  can_copy taken on sized of v o w a k r base due h laid running runs copies is =
      let c = copying_is r.stage k due in
      subst (CanCopyAt v r base) (sym c.1)
      (can taken on sized v o w a r base c.0 h laid running runs copies c.1 (subst (λ (j : ℕ). IsBaseIn v w j base) (sym c.2) is) of)

  -- ---- the turn
  pub copy_runs : CopiesFor V → CopiesReached V → SizesCopies V
      → (v : BlocksView) (o : Contents V) (w : World V) (a k : ℕ) (r s : TxActor V)
      (n : ActorNotice V) (base : Base V) → next_of (stage_of r.stage) ≡ next.Copy k → IsRunning v r → StepsOnAt v r s n base r.stage
      → IsReached o w → IsLaid v w → Runs a r w → HasCopies r w a → IsBaseIn v w k base
      → Runs a s (happens w (Step a)).0 × (notice_of a n ≡ (happens w (Step a)).1)
  copy_runs taken on sized v o w a k r s n base due running does reached laid runs copies is =
      let c = copying_is r.stage k due in
      let asked = c.0 in
      let quiet : is_loading (stage_of r.stage) ≡ false = ap (λ (q : own.Stage V). is_loading (stage_of q)) c.1 in
      let own_seat = seated_by (w.seats a) r quiet (ap (λ (q : own.Stage V). is_recorded q) c.1) runs.0 in
      let after = (subst (StepsOnAt v r s n base) c.1 does) a w laid runs
      (may taken on sized v o w a r base asked reached laid running runs copies c.1
      (subst (λ (j : ℕ). IsBaseIn v w j base) (sym c.2) is)) in
      let e : step_at w a (w.seats a) (w.seats a).stage ≡ step_at w a (seat_of r) (worlds.Copying (asked_of asked)) =
      ap (λ (x : Seat V). step_at w a x x.stage) own_seat
      ∙ ap (λ (q : own.Stage V). step_at w a (seat_of r) (stage_of q)) c.1 in (
        subst (λ (p : After V). Runs a s p.0) (sym e) after.0,
        after.1 ∙ sym (ap (λ (p : After V). p.1) e),
      )

  -- ---- the turn, and a failed allocation after it
  pub copy_starves : CopiesFor V → CopiesReached V → SizesCopies V
      → (v : BlocksView) (o : Contents V) (w : World V) (a k : ℕ) (r s : TxActor V)
      (base : Base V) → next_of (stage_of r.stage) ≡ next.Copy k → IsRunning v r → StarvesBehindAt v r s base r.stage
      → IsReached o w → IsLaid v w → Runs a r w → HasCopies r w a → IsBaseIn v w k base
      → let f = happens w (Step a) in
      (is_loading (f.0.seats a).stage ≡ true) × (f.1 ≡ Quiet) × Runs a s (happens f.0 (Starve a)).0 × ((happens f.0 (Starve a)).1 ≡ Quiet)
  copy_starves taken on sized v o w a k r s base due running does reached laid runs copies is =
      let c = copying_is r.stage k due in
      let asked = c.0 in
      let quiet : is_loading (stage_of r.stage) ≡ false = ap (λ (q : own.Stage V). is_loading (stage_of q)) c.1 in
      let own_seat = seated_by (w.seats a) r quiet (ap (λ (q : own.Stage V). is_recorded q) c.1) runs.0 in
      let after = (subst (StarvesBehindAt v r s base) c.1 does) a w laid runs
      (may taken on sized v o w a r base asked reached laid running runs copies c.1
      (subst (λ (j : ℕ). IsBaseIn v w j base) (sym c.2) is)) in
      let e : step_at w a (w.seats a) (w.seats a).stage ≡ step_at w a (seat_of r) (worlds.Copying (asked_of asked)) =
      ap (λ (x : Seat V). step_at w a x x.stage) own_seat
      ∙ ap (λ (q : own.Stage V). step_at w a (seat_of r) (stage_of q)) c.1 in
      subst (λ (f : After V). (is_loading (f.0.seats a).stage ≡ true) × (f.1 ≡ Quiet) × Runs a s (happens f.0 (Starve a)).0
      × ((happens f.0 (Starve a)).1 ≡ Quiet)) (sym e) after

  -- ---- what the actor has of collections then
  own_in : CopiesStayOwn V → (v : BlocksView) (o : Contents V) (w : World V) (a : ℕ) (r s : TxActor V) (n : ActorNotice V) (base : Base V)
      (asked : CollectionCall V) → IsReached o w → r.stage ≡ stage.Copying asked → IsLaid v w → Runs a r w → CanCopy v r base asked
      → ShowsBase w.words w.blocks w asked.collection base → OwnsAll r w a → MayCopy v w a r base asked
      → HasTaken v (at r stage.Idle) s n base asked → Runs a s (happens w (Step a)).0 → notice_of a n ≡ (happens w (Step a)).1
      → HasCopies s (happens w (Step a)).0 a
  own_in law v o w a r s n base asked h =
      subst (λ (z : World V). r.stage ≡ stage.Copying asked → IsLaid v z → Runs a r z → CanCopy v r base asked
      → ShowsBase z.words z.blocks z asked.collection base → OwnsAll r z a → MayCopy v z a r base asked
      → HasTaken v (at r stage.Idle) s n base asked → Runs a s (happens z (Step a)).0 → notice_of a n ≡ (happens z (Step a)).1
      → HasCopies s (happens z (Step a)).0 a) h.world
      (law h.blocks h.clock o.words o.held h.events a v r s n base asked h.stripes)

  pub copy_keeps : CopiesStayOwn V → CopiesFor V → CopiesReached V → SizesCopies V → BlocksLaw V → (v : BlocksView) (o : Contents V)
      (w : World V) (a k : ℕ) (r s : TxActor V) (n : ActorNotice V) (base : Base V) → next_of (stage_of r.stage) ≡ next.Copy k
      → IsRunning v r
      → HasTakenAt v r s n base r.stage → IsReached o w → IsLaid v w → Runs a r w → HasCopies r w a → IsBaseIn v w k base
      → Runs a s (happens w (Step a)).0 → notice_of a n ≡ (happens w (Step a)).1 → HasCopies s (happens w (Step a)).0 a
  copy_keeps law taken on sized of v o w a k r s n base due running got reached laid runs copies is =
      let c = copying_is r.stage k due in
      let here = subst (λ (j : ℕ). IsBaseIn v w j base) (sym c.2) is in
      own_in law v o w a r s n base c.0 reached c.1 laid runs
      (can taken on sized v o w a r base c.0 reached laid running runs copies c.1 here of) here.shows
      (all taken on sized v o w a r base c.0 reached laid running runs copies c.1 here)
      (may taken on sized v o w a r base c.0 reached laid running runs copies c.1 here) (subst (HasTakenAt v r s n base) c.1 got)

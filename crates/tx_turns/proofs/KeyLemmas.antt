-- A call whose gate is tried in straight code.
--
-- The actor between two steps is a term, with the call that is in hand at its stage. So each step is the turn that it is of that actor: the
-- try of its gate (`gate_won`, `gate_lost`), and the store that puts the gate back (`put_copied`, `put_behind`).
use Rattle.std.proofs.Common.{◌≡◌, ℕ, true, false, List, [], ◌∷◌, ◌++◌, Option, Some, None, Result, Ok, Err, IfOk, OnErr, inl}
use Rattle.std.proofs.Common.{Bool, eqb, refl, sym, ap, subst, ◌∙◌}
use Rattle.std.specs.Prelude.{if◌then◌else◌}
use Rattle.atomic_table.specs.Table.{rest}
use Rattle.std.specs.declared.alloc.Global.{Global}
use Rattle.std.specs.declared.collections.VecDeque.{VecDeque}
use Rattle.vlock_word.specs.LockWord.{bits, unbits}
use Rattle.vlock_word.specs.declared.lock_word.LockWord.{LockWord}
use Rattle.vlock_word.specs.declared.lock_word.LockWord.TheVariants.{Free, Locked}
use Rattle.tx_machine.specs.Actor as machine
use Rattle.tx_machine.specs.Notices as notice
use Rattle.replay_log.specs.declared.base.Base.{Base}
use Rattle.replay_log.specs.WorldProgress.{AreSmall}
use Rattle.seq_model.specs.declared.event.Event.TheVariants.{Starve}
use Rattle.step_core.specs.Answers.{result_of}
use Rattle.step_core.specs.Shown as words
use Rattle.step_core.specs.Sound.{Fits, KeepsRoom}
use Rattle.step_core.specs.declared.actor.Actor.{Actor}
use Rattle.step_core.specs.declared.actor.Place.TheVariants.{Again}
use Rattle.step_core.specs.declared.answer.WordAnswer.{WordAnswer}
use Rattle.actor_parts.specs.Blocks.{BlocksView}
use Rattle.actor_parts.specs.Dispatch.{AreSteps, after_try, notice_told}
use Rattle.actor_parts.specs.Requests.{HasNoReads}
use Rattle.actor_parts.specs.declared.next.Next.TheVariants as next
use Rattle.tx_actor.specs.Answers.{CanAccept}
use Rattle.tx_actor.specs.Copying.{CanCopy, HasTaken, StepsOn}
use Rattle.tx_actor.specs.CopiesByStage.{AsksNothing, HasFound, HasLoaded, KeepsCopies}
use Rattle.tx_actor.specs.ActorBounds.{HasHeard, IsRunning, KeepsHeard, KeepsIn}
use Rattle.tx_actor.specs.CopiesAfterEvent.{StarvesKeep, StepsKeep}
use Rattle.tx_actor.specs.LoadStep.{IsLoadable, IsToldLoad}
use Rattle.tx_actor.specs.Running.{Does, at, seat_of, stage_of}
use Rattle.tx_actor.specs.CopiesAfterStep.{CopiesStayOwn}
use Rattle.tx_actor.specs.Taking.{AreTakenFor, IsTakenCall, StarvesBehind, told_at, waiting_at}
use Rattle.tx_actor.specs.Trying.{HoldsGates}
use Rattle.tx_actor.specs.declared.actor.CallWithOutcome.{CallWithOutcome}
use Rattle.tx_actor.specs.declared.actor.CollectionCall.{CollectionCall}
use Rattle.tx_actor.specs.declared.actor.Stage as own
use Rattle.tx_actor.specs.declared.actor.Stage.TheVariants as stage
use Rattle.tx_actor.specs.declared.actor.ActorNotice.{ActorNotice}
use Rattle.tx_actor.specs.declared.actor.ActorNotice.TheVariants as told
use Rattle.tx_actor.specs.declared.actor.TxActor.{TxActor}
use Rattle.tx_actor.specs.declared.taking.KeyedCall.{KeyedCall}
use Rattle.tx_actor.specs.declared.taking.WaitingCall.{WaitingCall}
use Rattle.tx_actor.proofs.OwnLemmas.{OthersLaw}
use Rattle.tx_actor.proofs.OwnCopyLemmas.{can_at}
use Rattle.shared_table.specs.declared.seat.Seat.{Seat}
use Rattle.shared_table.specs.declared.table.TxTable.{TxTable}
use Rattle.shared_table.specs.Shown.{IsBaseAt}
use Rattle.shared_table.specs.Seated.{Stepped, Takes, actor, blocks_in, opening_of, out, view}
use Rattle.tx_turns.specs.RequestStep.{HasTaken as HasHeardOf, Starved}
use Rattle.tx_turns.specs.Own.{HasOwn}
use Rattle.tx_turns.specs.Straight.{HasDriven, HasLed, HasPut, HasStopped, LeadsAll, at_place}
use Rattle.tx_turns.specs.Ties.{Ties, Turned, commits, laid_in}
use Rattle.tx_turns.proofs.LoneRequestLemmas.{starved}
use Rattle.tx_turns.proofs.CopyLemmas.{CopyLaws, GoesOn, KeepsOn, StarvesOn, copy_behind, copy_can, copy_reads, copy_tied}
use Rattle.tx_turns.proofs.DrivenLemmas.{driven_on}
use Rattle.tx_turns.proofs.EventLemmas.{starve_own}
use Rattle.tx_turns.proofs.GateLemmas.{try_lost, try_won}
use Rattle.tx_turns.proofs.GivenUpLemmas.{stops_at}
use Rattle.tx_turns.proofs.StraightLemmas.{LoadLaws, again_steps, loading_hears, loading_last}

-- where the second load was answered, it answered the edition
edition_if : (l v j : ℕ) (x : Option WordAnswer) (b : Bool)
    → Ok x ≡ result_of (if b then notice.Number v else notice.Moved l (bits (Free j))) → notice_told (Ok x) ≡ notice.Number v
edition_if l v j x true e = ap notice_told e
edition_if l v j x false e = absurd (let z : ⊥ = cc in z)

edition_told : (l k v : ℕ) (word : LockWord) (x : Option WordAnswer) → Ok x ≡ result_of (notice.again_notice l k v word)
    → notice_told (Ok x) ≡ notice.Number v
edition_told l k v (Free j) x e = edition_if l v j x (eqb j k) e
edition_told l k v (Locked j) x e = absurd (let z : ⊥ = cc in z)

-- what holds of an answer, and of a failure
pub if_ok : {A E : Type 0} {P Q : A → Type 0} → (r : Result A E) → ((v : A) → P v → Q v) → IfOk r P → IfOk r Q
if_ok (Ok v) f h = f v h
if_ok (Err e) f h = tt

pub on_err : {A E : Type 0} {P Q : Type 0} → (r : Result A E) → (P → Q) → OnErr r P → OnErr r Q
on_err (Ok v) f h = tt
on_err (Err e) f h = f h

module _ {V : Type 0} where
  turn_leads : (t : TxTable V) (s u : Seat V) (r : TxActor V) (n : ActorNotice V) → Ties t s r → Turned (opening_of t) s r u n
      → commits (actor s) r ≡ [] → LeadsAll (opening_of t) s u n
  turn_leads t s u r n ties turned none d f h = driven_on t f s u r n d ties h turned None none

  pub driven_then : (t : TxTable V) (s u z : Seat V) (r : TxActor V) (n : ActorNotice V) (bs : List (Base V))
      → LeadsAll (opening_of t) s u told.Quiet → HasDriven t u z r n bs → HasDriven t s z r n bs
  driven_then t s u z r n bs h k = record { ties = k.ties; own = k.own; leads = λ d f was. k.leads d f (h d f was) }

  pub led_driven : (t : TxTable V) (s u z : Seat V) (r : TxActor V) (n : ActorNotice V) (bs : List (Base V))
      → LeadsAll (opening_of t) s u told.Quiet → HasLed t u z r n bs → HasDriven t s z r n bs
  led_driven t s u z r n bs h k = record { ties = k.ties; own = k.own; leads = λ d f was. k.leads.driven f d (h d f was) }

  pub stopped_then : (t : TxTable V) (s u z : Seat V) (r : TxActor V) (bs : List (Base V)) → LeadsAll (opening_of t) s u told.Quiet
      → HasStopped t u z r bs → HasStopped t s z r bs
  stopped_then t s u z r bs h k = record { ties = k.ties; own = k.own; wants = λ f was. k.wants f (h None f was) }

  -- ---- the gate
  pub gate_won : HoldsGates V → AreSteps V → StepsKeep V → OthersLaw V
      → (t : TxTable V) (s u : Seat V) (p : TxActor V) (asked : CollectionCall V)
      (tries k : ℕ) (b : Base V) → k ≡ asked.collection → Ties t s (at p (stage.Trying asked tries))
      → HasOwn t s (at p (stage.Trying asked tries)) [] → IsBaseAt (blocks_in t) k b
      → Takes (opening_of t) s (view s).clock 0 (Some b) (out s ++ (k, None) ∷ []) u
      → HasDriven t s u (at p (stage.Copying asked)) told.Quiet (b ∷ [])
  gate_won holds steps keep law t s u p asked tries k b same ties has sort takes =
      let r = at p (stage.Trying asked tries) in
      let q = at p (stage.Copying asked) in
      let h = holds p asked tries in
      let g = try_won steps keep law t s u r q told.Quiet k [] b (ap (λ (j : ℕ). next.TryGate j) (sym same)) ties has sort takes h.0
      ((h.1 (laid_in t)).running ties.running) h.2 in
      record { ties = g.0; own = g.2; leads = turn_leads t s u r told.Quiet ties g.1 refl }

  pub gate_lost : AreSteps V → StepsKeep V → OthersLaw V
      → (t : TxTable V) (s u : Seat V) (p q : TxActor V) (n : ActorNotice V) (asked : CollectionCall V)
      (tries k : ℕ) → k ≡ asked.collection → let r = at p (stage.Trying asked tries) in Ties t s r
      → HasOwn t s r [] → Takes (opening_of t) s (view s).clock 1 None (out s) u
      → Does r q n (λ a w. after_try w a (seat_of r) (stage_of r.stage) false) → KeepsIn (laid_in t) r q → KeepsCopies r q
      → HasDriven t s u q n []
  gate_lost steps keep law t s u p q n asked tries k same ties has takes does keeps leaves =
      let r = at p (stage.Trying asked tries) in
      let g = try_lost steps keep law t s u r q n k [] (ap (λ (j : ℕ). next.TryGate j) (sym same)) ties has takes does
      (keeps.running ties.running) leaves in
      record { ties = g.0; own = g.2; leads = turn_leads t s u r n ties g.1 refl }

  -- there was no memory before it
  pub try_starved : StarvesKeep V → OthersLaw V → (t : TxTable V) (s u : Seat V) (p q : TxActor V) (n : ActorNotice V)
      (asked : CollectionCall V)
      (tries : ℕ) (bs : List (Base V)) → [] ≡ bs → let r = at p (stage.Trying asked tries) in Ties t s r → HasOwn t s r []
      → Starved (opening_of t) s u n → Ties t u q → KeepsCopies r q → HasStopped t s u q bs
  try_starved keep law t s u p q n asked tries bs none ties has starved tie leaves =
      let r = at p (stage.Trying asked tries) in
      record {
        ties = tie;
        own = subst (λ (cs : List (Base V)). HasOwn t u q cs) none (starve_own keep law t s u r q n [] ties has starved tie leaves);
        wants = λ f was. stops_at t f s u r n None ties was tt (inl starved);
      }

  -- ---- what the call touches
  pub may_take : CopyLaws V → (t : TxTable V) (s : Seat V) (p : TxActor V) (asked : CollectionCall V) (b : Base V)
      → Ties t s (at p (stage.Copying asked)) → HasOwn t s (at p (stage.Copying asked)) (b ∷ []) → CanCopy (laid_in t) p b asked
  may_take laws t s p asked b ties has =
      can_at (laid_in t) (at p (stage.Copying asked)) b asked p.stage
      (copy_can laws.taken laws.on laws.sized laws.of laws.others t s (at p (stage.Copying asked)) asked.collection (b ∷ []) [] b refl ties
      has refl)

  -- there was no memory for it
  pub take_starved : StarvesKeep V → OthersLaw V → (t : TxTable V) (s u : Seat V) (p q : TxActor V) (asked : CollectionCall V) (b : Base V)
      (bs : List (Base V)) → b ∷ [] ≡ bs → let r = at p (stage.Copying asked) in Ties t s r → HasOwn t s r (b ∷ [])
      → (Ties t u q × Starved (opening_of t) s u told.Quiet) → KeepsCopies r q → HasStopped t s u q bs
  take_starved keep law t s u p q asked b bs hand ties has done leaves =
      let r = at p (stage.Copying asked) in
      record {
        ties = done.0;
        own = subst (λ (cs : List (Base V)). HasOwn t u q cs) hand
            (starve_own keep law t s u r q told.Quiet (b ∷ []) ties has done.1 done.0 leaves);
        wants = λ f was. stops_at t f s u r told.Quiet None ties was tt (inl done.1);
      }

  -- ---- the gate is put back
  at_idle : (p : TxActor V) → p.stage ≡ stage.Idle → p ≡ at p stage.Idle
  at_idle p e i = at p (e i)

  pub put_copied : CopyLaws V → CopiesStayOwn V → (t : TxTable V) (m : Seat V) (u : TxActor V) (p : KeyedCall V) (h : HasPut t m u p)
      (q : TxActor V) (n : ActorNotice V) → let r = at h.actor (stage.Copying p.asked) in
      StepsOn (laid_in t) r q n h.base p.asked × HasTaken (laid_in t) h.actor q n h.base p.asked
      → (HasNoReads h.actor.words → KeepsIn (laid_in t) r q) → HasDriven t h.seat m q n []
  put_copied laws stay t m u p h q n does keeps =
      let r = at h.actor (stage.Copying p.asked) in
      let k = p.asked.collection in
      let running = (keeps (copy_reads laws.on t h.seat r k refl h.ties)).running h.ties.running in
      let g = copy_tied laws.steps stay laws.taken laws.on laws.sized laws.of laws.others t h.seat m r q n k (h.base ∷ []) [] h.base refl
      h.ties h.own refl h.takes does.0
      (subst (λ (z : TxActor V). HasTaken (laid_in t) z q n h.base p.asked) (at_idle h.actor h.idle) does.1) running in
      record { ties = g.0; own = g.2; leads = turn_leads t h.seat m r n h.ties g.1 refl }

  -- an allocation fails after it
  pub put_behind : CopyLaws V → (t : TxTable V) (m z : Seat V) (u q : TxActor V) (p : KeyedCall V) (h : HasPut t m u p)
      → HasHeardOf m (Starve 0) z → let r = at h.actor (stage.Copying p.asked) in
      StarvesBehind (laid_in t) r q h.base p.asked → AsksNothing q → KeepsIn (laid_in t) r q → HasStopped t h.seat z q []
  put_behind laws t m z u q p h has does nothing keeps =
      let r = at h.actor (stage.Copying p.asked) in
      let k = p.asked.collection in
      let g = copy_behind laws.steps laws.taken laws.on laws.sized laws.of laws.others t h.seat m z r q k (h.base ∷ []) [] h.base refl
      h.ties h.own refl h.takes has does nothing (keeps.running h.ties.running) in
      record { ties = g.0; own = g.2; wants = λ f was. stops_at t f h.seat z r told.Quiet None h.ties was tt g.1 }

  -- ---- the location was read
  pub accept_at : (r : TxActor V) (s : own.Stage V) (o : CallWithOutcome V) → CanAccept (at r s) o → CanAccept r o
  accept_at r s o p = record {
    writes = p.writes;
    calls = p.calls;
    place = p.place;
    ready = p.ready;
    kept = p.kept;
    told = p.told;
    own = p.own;
  }

  -- the actor after the step that read it
  abbrev read_by : TxActor V → CallWithOutcome V → VecDeque (ℕ × ℕ) Global → Actor → TxActor V
  read_by p call left y = at (record p { words = y }) (stage.Loading call left)

  module _ (laws : LoadLaws V) (t : TxTable V) (s u : Seat V) (p : TxActor V) (call : CallWithOutcome V) (left : VecDeque (ℕ × ℕ) Global)
      (l k v found : ℕ) (y : Actor) (x : Option WordAnswer)
      (ties : Ties t s (at_place (at p (stage.Loading call left)) (Again l k v))) (step : Stepped (opening_of t) s found u)
      (is : words.actor_of y ≡ machine.seen_again (words.actor_of (record p.words { place = Again l k v })) l k v (unbits found))
      (says : Ok x ≡ result_of (notice.again_notice l k v (unbits found)))
      (room : KeepsRoom (record p.words { place = Again l k v }) y)
      (fits : (j : ℕ) → Fits j (record p.words { place = Again l k v }) → Fits j y) where
    abbrev r : TxActor V
    r = at_place (at p (stage.Loading call left)) (Again l k v)

    abbrev z : TxActor V
    z = read_by p call left y

    number : notice_told (Ok x) ≡ notice.Number v
    number = edition_told l k v (unbits found) x says

    pub found_may : CanAccept (record p { words = y }) call
    found_may =
        let hears = loading_hears laws t s u r y (Ok x) refl ties (again_steps (opening_of t) s u p.words y l k v found (Ok x) step is says)
        (λ _. room) fits in
        accept_at (record p { words = y }) (stage.Loading call left) call
        (subst (λ (m : notice.Notice). IsLoadable z z.stage m) number hears.0)

    pub found_last : (q : TxActor V) (n : ActorNotice V) → AreSmall (blocks_in t) → HasOwn t s r [] → IsToldLoad z q n (notice.Number v)
        → KeepsHeard (laid_in t) z q (notice.Number v) → HasFound z q n call left.items v → HasLed t s u q n []
    found_last q n small has heard keeps goes =
        loading_last laws t s u r q y (Ok x) n [] refl small ties has
        (again_steps (opening_of t) s u p.words y l k v found (Ok x) step is says) (λ _. room) fits
        (subst (λ (m : notice.Notice). IsToldLoad z q n m) (sym number) heard)
        (subst (λ (m : notice.Notice). HasHeard (laid_in t) z m → IsRunning (laid_in t) q) (sym number) keeps.running)
        (subst (λ (m : notice.Notice). HasLoaded z q n z.stage m) (sym number) goes)

  -- ---- what the actor made of its call, at its table's blocks
  pub key_copied : CopyLaws V → CopiesStayOwn V → (t : TxTable V) (m : Seat V) (u : TxActor V) (p : KeyedCall V) (v : BlocksView)
      → v ≡ laid_in t → (q : TxActor V) (said : ActorNotice V) (o w : Option (WaitingCall V)) → o ≡ w
      → GoesOn v u p (waiting_at o q) (told_at o said) → KeepsOn v u p (waiting_at o q) → (h : HasPut t m u p)
      → HasDriven t h.seat m (waiting_at w q) (told_at w said) []
  key_copied laws stay t m u p v laid q said o w e does keeps h =
      let d = subst (λ (z : BlocksView × Option (WaitingCall V)). GoesOn z.0 u p (waiting_at z.1 q) (told_at z.1 said)) (λ i. (laid i, e i))
      does in
      let k = subst (λ (z : BlocksView × Option (WaitingCall V)). KeepsOn z.0 u p (waiting_at z.1 q)) (λ i. (laid i, e i)) keeps in
      put_copied laws stay t m u p h (waiting_at w q) (told_at w said) (d h.actor h.base h.can h.taken) (k h.actor h.base h.can h.taken)

  abbrev BoundsOn : BlocksView → TxActor V → KeyedCall V → TxActor V → Type 0
  BoundsOn v u p q =
      (r : TxActor V) (base : Base V) → CanCopy v r base p.asked → IsTakenCall v r u base p → KeepsIn v (at r (stage.Copying p.asked)) q

  pub key_behind : CopyLaws V → (t : TxTable V) (m z : Seat V) (u : TxActor V) (p : KeyedCall V) (v : BlocksView) → v ≡ laid_in t
      → (q : TxActor V) → HasHeardOf m (Starve 0) z → StarvesOn v u p q → BoundsOn v u p q → AsksNothing q → (h : HasPut t m u p)
      → HasStopped t h.seat z q []
  key_behind laws t m z u p v laid q has does bounds nothing h =
      put_behind laws t m z u q p h has (subst (λ (b : BlocksView). StarvesOn b u p q) laid does h.actor h.base h.can h.taken) nothing
      (subst (λ (b : BlocksView). BoundsOn b u p q) laid bounds h.actor h.base h.can h.taken)

  pub key_put : (t : TxTable V) (s m : Seat V) (r u : TxActor V) (asked : CollectionCall V) (b d : Base V) (p : KeyedCall V)
      (v : BlocksView)
      → v ≡ laid_in t → d ≡ b → r.stage ≡ stage.Idle → Ties t s (at r (stage.Copying asked))
      → HasOwn t s (at r (stage.Copying asked)) (b ∷ []) → Takes (opening_of t) s (view s).clock 1 None (rest (out s)) m
      → CanCopy (laid_in t) r b asked → AreTakenFor v r u d asked (Some p) → HasPut t m u p
  key_put t s m r u asked b d p v laid same idle ties has takes can taken = record {
    seat = s;
    actor = r;
    base = b;
    idle = idle;
    ties = subst (λ (a : CollectionCall V). Ties t s (at r (stage.Copying a))) (sym taken.0) ties;
    own = subst (λ (a : CollectionCall V). HasOwn t s (at r (stage.Copying a)) (b ∷ [])) (sym taken.0) has;
    takes = takes;
    can = subst (λ (a : CollectionCall V). CanCopy (laid_in t) r b a) (sym taken.0) can;
    taken = subst (λ (z : BlocksView × Base V). IsTakenCall z.0 r u z.1 p) (λ i. (laid i, same i)) taken.1;
  }

  -- the base that is pushed is the only one in hand
  pub in_hand : (bs cs : List (Base V)) (b : Base V) → cs ≡ bs ++ b ∷ [] → bs ≡ [] → b ∷ [] ≡ cs
  in_hand bs cs b more none = sym (more ∙ ap (λ (ds : List (Base V)). ds ++ b ∷ []) none)

  -- what holds of the seat that put the gate back so, holds of s
  pub put_then : (t : TxTable V) (s m : Seat V) (r u : TxActor V) (asked : CollectionCall V) (b d : Base V) (p : KeyedCall V)
      (v : BlocksView)
      → v ≡ laid_in t → d ≡ b → r.stage ≡ stage.Idle → Ties t s (at r (stage.Copying asked))
      → HasOwn t s (at r (stage.Copying asked)) (b ∷ []) → Takes (opening_of t) s (view s).clock 1 None (rest (out s)) m
      → CanCopy (laid_in t) r b asked → AreTakenFor v r u d asked (Some p) → (P : Seat V → Type 0)
      → ((h : HasPut t m u p) → P h.seat) → P s
  unfolding key_put
  put_then t s m r u asked b d p v laid same idle ties has takes can taken P f =
      f (key_put t s m r u asked b d p v laid same idle ties has takes can taken)

-- What an event leaves of what its actor has of collections, by its stage.
--
-- The event leaves all of it in the world, by the law on events, and the actor's copies stand as its next stage asks for them; a
-- transaction that begins has nothing. Of an idle actor a request is stated by its contract, and anywhere else it changes nothing that a
-- stage asks for.
use Rattle.std.proofs.Common.{◌≡◌, ◌≢◌, ◌⊎◌, ℕ, suc, false, true≢false, List, [], ◌∷◌, Option, Some, None, inl, inr, refl, sym, ap, ◌∙◌}
use Rattle.std.proofs.Common.{subst, arith}
use Rattle.tx_machine.specs.Notices as told
use Rattle.tx_machine.specs.Actor as machine
use Rattle.tx_machine.specs.Actor.{Open as AtRest}
use Rattle.tx_machine.specs.Opacity.{first_read}
use Rattle.step_core.specs.Shown as words
use Rattle.step_core.specs.declared.actor.Actor as running
use Rattle.step_core.specs.declared.actor.Place.{Place}
use Rattle.step_core.specs.declared.actor.Place.TheVariants as place
use Rattle.tx_machine.proofs.Sets.{put-same}
use Rattle.seq_model.specs.Contents.{Contents}
use Rattle.seq_model.specs.declared.event.Event.{Event}
use Rattle.seq_model.specs.declared.event.Event.TheVariants.{Ask, Starve, Step}
use Rattle.seq_model.specs.declared.event.Request.{Request}
use Rattle.seq_model.specs.declared.held.Held.{Held}
use Rattle.replay_log.specs.Contents.{CollectionCall, Block, HaveStripes}
use Rattle.replay_log.specs.WorldProgress.{whose}
use Rattle.replay_log.specs.Worlds.{World, Seat, Stage, After, Beginning, Copying, Loading, Open, Ready, acted, actor_of, ask_at, happens}
use Rattle.replay_log.specs.Worlds.{has_begun, moves, no_one, opened, outcome_at, run, starve_at, step_at, word_notice}
use Rattle.actor_laws.proofs.Others.{others}
use Rattle.actor_laws.specs.Own.{Alike}
use Rattle.actor_parts.specs.Blocks.{BlocksView, IsLaid}
use Rattle.actor_parts.specs.Dispatch.{is_loading, next_of}
use Rattle.actor_parts.specs.declared.next.Next.{Next}
use Rattle.actor_parts.specs.declared.next.Next.TheVariants as next
use Rattle.actor_parts.specs.declared.copies.CopyOfCollection.{CopyOfCollection}
use Rattle.actor_parts.specs.declared.copies.PrivateCopy.{PrivateCopy}
use Rattle.actor_parts.specs.CopyAtGate.{BeginsWithNothing, IsReadOf}
use Rattle.actor_parts.specs.Owns.{AreOfBlocks, IsOwn, MayCall}
use Rattle.actor_parts.specs.CopiesAfterEvent.{EventStays, EventsStay, StaysAsked, StepStays, Stays, call_in}
use Rattle.tx_actor.specs.Calls.{AsksAt, CanCall, StandsOwn}
use Rattle.tx_actor.specs.CopiesByStage.{HasCopies, HasCopiesAt, KeepsCopies, KeepsFrom, OwnsAll, ReadsStill}
use Rattle.tx_actor.specs.ActorBounds.{IsRunning}
use Rattle.tx_actor.specs.Owns.{OwnsCopies}
use Rattle.tx_actor.specs.Running.{Runs, notice_of, seat_of, stage_of}
use Rattle.tx_actor.specs.declared.actor.Stage as own
use Rattle.tx_actor.specs.declared.actor.Stage.TheVariants as stage
use Rattle.tx_actor.specs.declared.actor.ActorNotice.{ActorNotice}
use Rattle.tx_actor.specs.declared.actor.TxActor.{TxActor}
pub use Rattle.tx_actor.proofs.OwnLoadLemmas.{JoinsLaw}
pub use Rattle.tx_actor.proofs.StageLemmas.{StaysLaw}
use Rattle.tx_actor.specs.Reached.{IsReached}
use Rattle.tx_actor.proofs.SeatLemmas.{asked_as, stage_by}
use Rattle.tx_actor.proofs.StepLemmas.{first_is, reached_linked}

-- ---- the laws
abbrev pub StepsLaw : Type 0 → Type 0
StepsLaw V =
    (r u : TxActor V) (w v : World V) (a : ℕ) → r.stage ≢ stage.Beginning → KeepsCopies r u → Stays w v a → HasCopies r w a
    → HasCopies u v a

abbrev pub BegunLaw : Type 0 → Type 0
BegunLaw V =
    (r u : TxActor V) (v : World V) (a : ℕ) → r.stage ≡ stage.Beginning → KeepsCopies r u → HaveStripes v.blocks
    → (u.stage ≡ stage.Open → (k : ℕ) → IsOwn v a k None × IsReadOf v a k None) → HasCopies u v a

abbrev pub OthersLaw : Type 0 → Type 0
OthersLaw V =
    (r : TxActor V) (w v : World V) (a : ℕ) → actor_of v a ≡ actor_of w a → Stays w v a → HasCopies r w a → HasCopies r v a

abbrev pub StandLaw : Type 0 → Type 0
StandLaw V =
    (w : World V) (e : Event V) (a : ℕ) → a ≢ whose e → let v = (happens w e).0 in
    (v.seats a ≡ w.seats a) × (actor_of v a ≡ actor_of w a) × Stays w v a

abbrev pub AskedLaw : Type 0 → Type 0
AskedLaw V =
    (r u : TxActor V) (w v : World V) (a : ℕ) → ReadsStill r.copies.items u.copies.items
    → ((k : ℕ) (c : Option (PrivateCopy V)) → IsReadOf w a k c → IsReadOf v a k c) → OwnsAll r w a → OwnsCopies u v a → OwnsAll u v a

abbrev pub AllLaw : Type 0 → Type 0
AllLaw V = (b : BlocksView) (r : TxActor V) (w : World V) (a : ℕ) → IsLaid b w → IsRunning b r → OwnsAll r w a → HasCopies r w a

abbrev pub CallsReached : Type 0 → Type 0
CallsReached V =
    (blocks : List Block) (clock : ℕ) (values : List ℕ) (held : List (Held V)) (events : List (Event V)) (a : ℕ) → HaveStripes blocks
    → let w = run (opened blocks clock values held) events in (w.seats a).stage ≡ Open → MayCall w a

abbrev pub CallsLaw : Type 0 → Type 0
CallsLaw V = (w : World V) (a : ℕ) (o : Contents V) → IsReached o w → (w.seats a).stage ≡ Open → MayCall w a

abbrev pub BlocksLaw : Type 0 → Type 0
BlocksLaw V = (v : BlocksView) (r : TxActor V) (w : World V) (a : ℕ) → IsLaid v w → OwnsCopies r w a → AreOfBlocks v r.copies.items

-- a word actor that is idle in the machine
pub rests_at : (x : running.Actor) (p : Place) → words.place_of x.reads.entries x.writes.entries p ≡ AtRest → p ≡ place.Open
rests_at x place.Open e = refl
rests_at x p e = let z : ⊥ = cc in absurd z

not_open : {V : Type 0} → (let s : Stage V = no_one.stage in s) ≡ Open → ⊥
not_open e = let z : ⊥ = cc in z

not_both : {V : Type 0} → (let s : Stage V = Beginning in s) ≡ Open → ⊥
not_both e = let z : ⊥ = cc in z

module _ {V : Type 0} where
  pub reached_stays : EventsStay V → (o : Contents V) (w : World V) → IsReached o w → (e : Event V) → EventStays w e
  reached_stays stays o w h e =
      subst (λ (z : World V). EventStays z e) h.world (stays h.blocks h.clock o.words o.held h.events e h.stripes)

  blocks_stand : (w : World V) (e : Event V) → (happens w e).0.blocks ≡ w.blocks
  blocks_stand w e =
      let next : suc (whose e) ≢ whose e = λ q. omega (arith, q) in
      sym (others w e (suc (whose e)) next).blocks

  stripes_stand : (o : Contents V) (w : World V) (e : Event V) → IsReached o w → HaveStripes (happens w e).0.blocks
  stripes_stand o w e h = subst HaveStripes (sym (blocks_stand w e)) (reached_linked o w h).base.stripes

  pub others_keep : StandLaw V → OthersLaw V → (e : Event V) (w : World V) (b : ℕ) (q : TxActor V) → b ≢ whose e → HasCopies q w b
      → HasCopies q (happens w e).0 b
  others_keep stand law e w b q ne h = (let s = stand w e b ne in law q w (happens w e).0 b s.1 s.2 h)

  begins_or : (t : own.Stage V) → (t ≡ stage.Beginning) ⊎ (t ≡ stage.Beginning → ⊥)
  begins_or stage.Beginning = inl refl
  begins_or t = inr (λ e. let z : ⊥ = cc in z)

  pub open_stage : (v : World V) (a : ℕ) (s : TxActor V) → Runs a s v → s.stage ≡ stage.Open → (v.seats a).stage ≡ Open
  open_stage v a s runs at =
      stage_by (v.seats a) s (ap (λ (t : own.Stage V). is_loading (stage_of t)) at) runs.0 ∙ ap (λ (t : own.Stage V). stage_of t) at

  -- ---- a step
  pub calm_at : (s : Stage V) (n : Next) → next_of s ≡ n → ((k : ℕ) → n ≡ next.Copy k → ⊥) → (asked : CollectionCall V)
      → s ≡ Copying asked → ⊥
  calm_at s n e p asked is = p asked.collection (sym e ∙ ap next_of is)

  step_stays : (w : World V) (a : ℕ) (s : Stage V) (f : After V) → (s ≡ Beginning → ⊥)
      → ((asked : CollectionCall V) → s ≡ Copying asked → ⊥)
      → is_loading s ≡ false → StepStays w a s f → Stays w f.0 a
  step_stays w a Beginning f b c l h = absurd (b refl)
  step_stays w a (Copying asked) f b c l h = absurd (c asked refl)
  step_stays w a (Loading o es) f b c l h = absurd (true≢false l)
  step_stays w a s f b c l h = h

  no_begin : (t : own.Stage V) → (t ≡ stage.Beginning → ⊥) → stage_of t ≡ Beginning → ⊥
  no_begin stage.Beginning p e = p refl
  no_begin t p e = let z : ⊥ = cc in z

  -- a transaction is idle only where the clock was answered
  begun_nothing : (u : World V) (a : ℕ) (x : Seat V) (n : told.Notice) → (u.seats a).stage ≡ Beginning
      → ((rv : ℕ) → n ≡ told.Begun rv → (k : ℕ) → IsOwn u a k None × IsReadOf u a k None)
      → ((has_begun u a x n).0.seats a).stage ≡ Open → (k : ℕ)
      → IsOwn (has_begun u a x n).0 a k None × IsReadOf (has_begun u a x n).0 a k None
  begun_nothing u a x (told.Begun rv) at none open_at k = none rv refl k
  begun_nothing u a x (told.Exhausted clock) at none open_at k =
      absurd (not_open (sym (ap (λ (y : Seat V). y.stage) (put-same u.seats a no_one)) ∙ open_at))
  begun_nothing u a x n at none open_at k = absurd (not_both (sym at ∙ open_at))

  begins_nothing : BeginsWithNothing V → (o : Contents V) (w : World V) (a rv : ℕ) → IsReached o w → (w.seats a).stage ≡ Beginning
      → word_notice w a ≡ told.Begun rv → (k : ℕ)
      → IsOwn (acted w (moves a ∷ [])) a k None × IsReadOf (acted w (moves a ∷ [])) a k None
  begins_nothing begins o w a rv h =
      subst (λ (z : World V). (z.seats a).stage ≡ Beginning → word_notice z a ≡ told.Begun rv → (k : ℕ)
      → IsOwn (acted z (moves a ∷ [])) a k None × IsReadOf (acted z (moves a ∷ [])) a k None) h.world
      (begins h.blocks h.clock o.words o.held h.events a rv h.stripes h.suits)

  pub step_keeps : StepsLaw V → BegunLaw V → EventsStay V → BeginsWithNothing V → (o : Contents V) (w : World V) (a : ℕ) (r s : TxActor V)
      → is_loading (stage_of r.stage) ≡ false → ((asked : CollectionCall V) → stage_of r.stage ≡ Copying asked → ⊥) → KeepsCopies r s
      → IsReached o w → Runs a r w → Runs a s (happens w (Step a)).0 → HasCopies r w a → HasCopies s (happens w (Step a)).0 a
  step_keeps steps begun stays begins o w a r s quiet calm keep reached runs after h =
      let x = w.seats a in
      let v = (happens w (Step a)).0 in
      let st : x.stage ≡ stage_of r.stage = stage_by x r quiet runs.0 in
      elim (begins_or r.stage) [
        | inl at ↦ (
            let u = acted w (moves a ∷ []) in
            let begins_at : x.stage ≡ Beginning = st ∙ ap (λ (t : own.Stage V). stage_of t) at in
            let e : happens w (Step a) ≡ has_begun u a x (word_notice w a) = ap (λ (k : Stage V). step_at w a x k) begins_at in
            begun r s v a at keep (stripes_stand o w (Step a) reached)
            (λ rests. subst (λ (p : After V). (k : ℕ) → IsOwn p.0 a k None × IsReadOf p.0 a k None) (sym e)
            (begun_nothing u a x (word_notice w a) begins_at (λ rv n. begins_nothing begins o w a rv reached begins_at n)
            (subst (λ (p : After V). (p.0.seats a).stage ≡ Open) e (open_stage v a s after rests)))))
        | inr other ↦
            steps r s w v a other keep
            (step_stays w a x.stage (happens w (Step a)) (λ q. no_begin r.stage other (sym st ∙ q)) (λ asked q. calm asked (sym st ∙ q))
            (ap is_loading st ∙ quiet) (reached_stays stays o w reached (Step a))) h
      ]

  -- ---- a failed allocation
  pub starve_keeps : StepsLaw V → BegunLaw V → EventsStay V → (o : Contents V) (w : World V) (a : ℕ) (r s : TxActor V) → KeepsCopies r s
      → IsReached o w → Runs a r w → Runs a s (happens w (Starve a)).0 → HasCopies r w a → HasCopies s (happens w (Starve a)).0 a
  starve_keeps steps begun stays o w a r s keep reached runs after h =
      let x = w.seats a in
      let v = (happens w (Starve a)).0 in
      elim (begins_or r.stage) [
        | inl at ↦ (
            let begins_at : x.stage ≡ Beginning =
            stage_by x r (ap (λ (t : own.Stage V). is_loading (stage_of t)) at) runs.0 ∙ ap (λ (t : own.Stage V). stage_of t) at in
            let e : happens w (Starve a) ≡ starve_at w a x Beginning = ap (λ (k : Stage V). starve_at w a x k) begins_at in
            begun r s v a at keep (stripes_stand o w (Starve a) reached)
            (λ rests. (
            let open_at : (v.seats a).stage ≡ Open = open_stage v a s after rests in
            let idle : (v.seats a).stage ≡ no_one.stage =
            ap (λ (p : After V). (p.0.seats a).stage) e ∙ ap (λ (y : Seat V). y.stage) (put-same w.seats a no_one) in
            absurd (not_open (sym idle ∙ open_at)))))
        | inr other ↦ steps r s w v a other keep (reached_stays stays o w reached (Starve a)) h
      ]

  -- ---- a request
  pub open_or : (t : own.Stage V) → (t ≡ stage.Open) ⊎ (t ≡ stage.Open → ⊥)
  open_or stage.Open = inl refl
  open_or t = inr (λ e. let z : ⊥ = cc in z)

  -- anywhere but where it is idle it changes nothing that is asked for
  ask_stays : (w : World V) (a : ℕ) (x : Seat V) (r : TxActor V) (q : Request V) (t : own.Stage V) → (t ≡ stage.Open → ⊥)
      → HasCopiesAt r w a t → HasCopiesAt r (ask_at w a x (stage_of t) q).0 a t
  ask_stays w a x r q stage.Open p h = absurd (p refl)
  ask_stays w a x r q stage.Idle p h = tt
  ask_stays w a x r q t p h = h

  asked_reads : StaysLaw V → JoinsLaw V → (w : World V) (a : ℕ) (asked : Option (CollectionCall V)) (f : After V) → StaysAsked w a asked f
      → (k : ℕ) (c : Option (PrivateCopy V)) → IsReadOf w a k c → IsReadOf f.0 a k c
  asked_reads stay join w a None f is k c = (stay w f.0 a k c is).1
  asked_reads stay join w a (Some asked) f (inl is) k c = (stay w f.0 a k c is.0).1
  asked_reads stay join w a (Some asked) f (inr is) k c = (join w f.0 a k (outcome_at w a asked) c is.0).1

  pub whole_open : (r : TxActor V) (w : World V) (a : ℕ) → r.stage ≡ stage.Open → HasCopies r w a → OwnsAll r w a
  whole_open r w a at h = subst (λ (t : own.Stage V). HasCopiesAt r w a t) at h

  -- what an actor may be asked, where it is idle
  pub may_call : CallsReached V → CallsLaw V
  may_call calls w a o h =
      subst (λ (z : World V). (z.seats a).stage ≡ Open → MayCall z a) h.world (calls h.blocks h.clock o.words o.held h.events a h.stripes)

  -- the actor is as it was, or begins, where it is not idle in its transaction
  abbrev pub Apart : TxActor V → TxActor V → Type 0
  Apart r s = r.stage ≢ stage.Open → (s.stage ≡ stage.Beginning) ⊎ (s ≡ r)

  pub ask_keeps : EventsStay V → StaysLaw V → JoinsLaw V → AskedLaw V → AllLaw V → CallsLaw V → (b : BlocksView) (o : Contents V)
      (w : World V) (a : ℕ) (q : Request V) (r s : TxActor V) (n : ActorNotice V)
      → AsksAt b r s n (λ a w. ask_at w a (seat_of r) (stage_of r.stage) q) → ReadsStill r.copies.items s.copies.items → Apart r s
      → IsReached o w → IsLaid b w → Runs a r w → IsRunning b s → HasCopies r w a → HasCopies s (happens w (Ask a q)).0 a
  ask_keeps stays stay join asked all calls b o w a q r s n asks still apart reached laid runs running h =
      let f = happens w (Ask a q) in
      let v = f.0 in
      let e : f ≡ ask_at w a (seat_of r) (stage_of r.stage) q = asked_as w a q r runs in
      elim (open_or r.stage) [
        | inl at ↦ (
            let whole = whole_open r w a at h in
            let may = calls w a o reached (open_stage w a r runs at) in
            let own : OwnsCopies s v a =
            subst (λ (p : After V). OwnsCopies s p.0 a) (sym e) ((asks a w laid runs (λ at. (whole.own, may))).2 at) in
            let next : suc a ≢ a = λ z. omega (arith, z) in
            let alike = others w (Ask a q) (suc a) next in
            all b s v a (sym alike.words ∙ laid.0, sym alike.blocks ∙ laid.1) running
            (asked r s w v a still (asked_reads stay join w a (call_in q) f (reached_stays stays o w reached (Ask a q))) whole own))
        | inr other ↦ elim (apart other) [
          | inl begins ↦ subst (λ (t : own.Stage V). HasCopiesAt s v a t) (sym begins) tt
          | inr same ↦ subst (λ (z : TxActor V). HasCopies z v a) (sym same)
              (subst (λ (p : After V). HasCopies r p.0 a) (sym e) (ask_stays w a (seat_of r) r q r.stage other h))
        ]
      ]

  pub ask_runs : CallsLaw V → (v : BlocksView) (o : Contents V) (w : World V) (a : ℕ) (q : Request V) (r s : TxActor V) (n : ActorNotice V)
      → AsksAt v r s n (λ a w. ask_at w a (seat_of r) (stage_of r.stage) q) → IsReached o w → IsLaid v w → Runs a r w → HasCopies r w a
      → Runs a s (happens w (Ask a q)).0 × (notice_of a n ≡ (happens w (Ask a q)).1)
  ask_runs calls v o w a q r s n h reached laid runs copies =
      let e = asked_as w a q r runs in
      let told = h a w laid runs (λ at. ((whole_open r w a at copies).own, calls w a o reached (open_stage w a r runs at))) in (
        subst (λ (z : After V). Runs a s z.0) (sym e) told.0,
        told.1 ∙ sym (ap (λ (z : After V). z.1) e),
      )

  -- ---- an actor that may call
  pub can_call : CallsLaw V → BlocksLaw V → (b : BlocksView) (r : TxActor V) (o : Contents V) (w : World V) (a : ℕ) → IsReached o w
      → IsLaid b w → Runs a r w → HasCopies r w a → r.stage ≡ stage.Open → CanCall b r
  can_call calls of b r o w a reached laid runs h at = record {
    stage = at;
    rests = rests_at r.words r.words.place
        (sym (ap (λ (q : machine.Actor). q.place) runs.1) ∙ (calls w a o reached (open_stage w a r runs at)).place);
    blocks = of b r w a laid (whole_open r w a at h).own;
  }

  -- ---- a store that was not asked for
  ready_same : (t : own.Stage V) (ks : List ℕ) (cs : List (CopyOfCollection V)) → stage_of t ≡ Ready ks
      → KeepsFrom t t cs cs × (t ≡ stage.Beginning → ⊥)
  ready_same (stage.Ready homes) ks cs e = ((tt, refl), λ q. let z : ⊥ = cc in z)
  ready_same t ks cs e = let z : ⊥ = cc in absurd z

  pub refused_store : StepsLaw V → (r s : TxActor V) → next_of (stage_of r.stage) ≡ next.FirstStore
      → (let p : TxActor V = record r { words = s.words } in s ≡ p) → (w : World V) (a : ℕ) → HasCopies r w a → HasCopies s w a
  refused_store steps r s due same w a h =
      let first = first_is (stage_of r.stage) due in
      let k = ready_same r.stage first.0 r.copies.items first.1 in
      let p : TxActor V = record r { words = s.words } in
      let stay : Stays w w a = (record { words = refl; blocks = refl; reads = λ l m. refl }, refl) in
      subst (λ (z : TxActor V). HasCopies z w a) (sym same) (steps r p w w a k.1 k.0 stay h)

  -- where an allocation failed for a request
  pub refused_ask : AllLaw V → (b : BlocksView) (r s : TxActor V) → StandsOwn r s → ReadsStill r.copies.items s.copies.items → Apart r s
      → IsRunning b s → (w : World V) (a : ℕ) → IsLaid b w → HasCopies r w a → HasCopies s w a
  refused_ask all b r s stands still apart running w a laid h =
      elim (open_or r.stage) [
        | inl at ↦ (
            let whole = whole_open r w a at h in
            all b s w a laid running
            (record { own = stands.1 a w whole.own; read = λ k. still w a k (whole.read k) }))
        | inr other ↦ elim (apart other) [
          | inl begins ↦ subst (λ (t : own.Stage V). HasCopiesAt s w a t) (sym begins) tt
          | inr same ↦ subst (λ (z : TxActor V). HasCopies z w a) (sym same) h
        ]
      ]

  -- ---- a world that is alike to the actor
  -- what an actor has of collections in one world it has in each world that is alike to it
  pub copies_stand : OthersLaw V → (v w : World V) (a : ℕ) (r : TxActor V) → Alike a v w → HasCopies r v a → HasCopies r w a
  copies_stand law v w a r h copies =
      let actors : actor_of w a ≡ actor_of v a = sym h.boosted.actor in
      law r v w a actors (
        record {
          words = sym h.words;
          blocks = sym h.blocks;
          reads = λ l m. ap (λ (y : machine.Actor). first_read y.calls l) actors;
        },
        sym h.boosted.shadow,
      ) copies

-- A base that is put back, in a world that events have reached.
--
-- What the actor has of the collection is its own in the world, so its log is that of its calls there. Each location in it is stored in the
-- base and has an edition not above the clock, as events never change how the locations are laid out. The actor hands its log out, and is
-- the same in every world from its first value store on; the action changes no word, so the word actor stands, and the rest is what the
-- actor makes of its base being put back.
use Rattle.std.proofs.Common.{◌≡◌, ℕ, suc, ◌<◌, ◌≤◌, ◌^◌, true, false, List, [], ◌∷◌, Option, Some, None, length, refl}
use Rattle.std.proofs.Common.{sym, ap, ◌∙◌, subst, arith}
use Rattle.std.specs.List.{All}
use Rattle.std.specs.Prelude.{slice_index}
use Rattle.std.specs.declared.alloc.Global.{Global}
use Rattle.std.specs.declared.collections.VecDeque.{VecDeque}
use Rattle.std.proofs.lemmas.Bool.{cond_both}
use Rattle.seq_model.specs.declared.event.Event.{Event}
use Rattle.seq_model.specs.declared.event.Event.TheVariants.{Step}
use Rattle.seq_model.specs.declared.held.Held.{Held}
use Rattle.seq_model.specs.Contents.{Contents}
use Rattle.tx_machine.specs.Boosted.{Boosted, Action, GoHome, homed}
use Rattle.replay_log.specs.declared.base.Base.{Base}
use Rattle.replay_log.specs.Base.{Shown, editions_of, locations_of, shown_of, stripes_of}
use Rattle.replay_log.specs.Collections.{Suit}
use Rattle.replay_log.specs.Contents.{CallWithOutcome, CollectionCall, Block, HaveStripes, block_of, content}
use Rattle.replay_log.specs.WorldProgress.{whose}
use Rattle.replay_log.specs.Worlds.{World, Seat, Stage, After, Homing, Idle, Beginning, Open, Locking, Releasing, Closing, Cancelling}
use Rattle.replay_log.specs.Worlds.{Leaving, Reading, Trying, Copying, Loading, Gating, Ready, Storing, Returning, acted, happens, opened}
use Rattle.replay_log.specs.Worlds.{run, step_at}
use Rattle.replay_log.proofs.ContentLemmas.{positive_at}
use Rattle.actor_laws.specs.Bases.{IsBaseOf, ShowsBase, log_changes, log_locations}
use Rattle.actor_laws.specs.Gates.{GoesHome}
use Rattle.actor_laws.proofs.Others.{others}
use Rattle.tx_actor.specs.Asks.{Stands}
use Rattle.actor_parts.specs.Dispatch.{AreSteps, IsDue, MayGoOn, after_home, is_loading, next_of}
use Rattle.tx_actor.specs.Dispatch.{IsGoneHome}
use Rattle.actor_parts.specs.Guarded.{committed_at}
use Rattle.actor_parts.specs.CopyInWorld.{IsOwnCopy}
use Rattle.actor_parts.specs.Logs.{changes_had, locations_had}
use Rattle.actor_parts.specs.PrivateCopy.{changes_in, locations_in}
use Rattle.actor_parts.specs.Owns.{IsOwn}
use Rattle.tx_actor.specs.Running.{Runs, is_recorded, seat_at, stage_of}
use Rattle.tx_actor.specs.declared.actor.Stage as own
use Rattle.tx_actor.specs.declared.actor.Stage.TheVariants as stage
use Rattle.tx_actor.specs.declared.actor.ActorNotice.{ActorNotice}
use Rattle.tx_actor.specs.declared.actor.TxActor.{TxActor}
use Rattle.actor_parts.specs.declared.copies.PrivateCopy.{PrivateCopy}
use Rattle.actor_parts.specs.declared.next.Next.TheVariants as next
use Rattle.tx_actor.specs.Running.{notice_of}
use Rattle.tx_actor.specs.Reached.{IsReached}
use Rattle.tx_actor.proofs.SeatLemmas.{next_as, stage_by}
use Rattle.tx_actor.proofs.StepLemmas.{GoesOn, due_as, reached_goes_on, runs_moved, same_action}

-- ---- the laws on what a commit hands back
abbrev pub Logs : Type 0 → Type 0
Logs V = (w : World V) (a k : ℕ) (b : Block) (f : ℕ) (c : PrivateCopy V) → IsOwnCopy w a k b f c →
    let outcomes = (w.boosted.shadows a).outcomes in
    (changes_in c ≡ log_changes k b outcomes) × (locations_in c ≡ log_locations k b outcomes)

abbrev pub Within : Type 0 → Type 0
Within V = (k : ℕ) (b : Block) (outcomes : List (CallWithOutcome V)) (base : Base V) → 0 < b.stripes → IsBaseOf b base
    → All (λ i. i < locations_of (stripes_of base) (shown_of base)) (log_locations k b outcomes)

abbrev pub FewEditions : Type 0 → Type 0
FewEditions V =
    (blocks : List Block) (clock : ℕ) (values : List ℕ) (held : List (Held V)) (events : List (Event V)) (k : ℕ) (b : Block)
    (outcomes : List (CallWithOutcome V)) (base : Base V) → HaveStripes blocks → Suit blocks held → block_of blocks k ≡ Some b →
    let w = run (opened blocks clock values held) events in
    ShowsBase (length values) blocks w k base
    → All (λ i. slice_index (editions_of base) i ≤ w.boosted.words.clock) (log_locations k b outcomes)

module _ {V : Type 0} where
  -- ---- events never change how the locations are laid out
  shape_runs : (es : List (Event V)) (w : World V) → ((run w es).words ≡ w.words) × ((run w es).blocks ≡ w.blocks)
  shape_runs [] w = (refl, refl)
  shape_runs (e ∷ es) w =
      let other = others w e (suc (whose e)) (λ q. omega (arith, q)) in
      let more = shape_runs es (happens w e).0 in
      (more.0 ∙ sym other.words, more.1 ∙ sym other.blocks)

  pub reached_words : (o : Contents V) (w : World V) (h : IsReached o w) → w.words ≡ length o.words
  reached_words o w h =
      ap (λ (z : World V). z.words) (sym h.world) ∙ (shape_runs h.events (opened h.blocks h.clock o.words o.held)).0

  pub reached_blocks : (o : Contents V) (w : World V) (h : IsReached o w) → w.blocks ≡ h.blocks
  reached_blocks o w h =
      ap (λ (z : World V). z.blocks) (sym h.world) ∙ (shape_runs h.events (opened h.blocks h.clock o.words o.held)).1

  -- ---- the log of what is an actor's own is that of its calls
  abbrev pub IsLogOf : World V → (a k : ℕ) → Block → Option (PrivateCopy V) → Type 0
  IsLogOf w a k b c =
      (changes_had c ≡ log_changes k b (w.boosted.shadows a).outcomes)
      × (locations_had c ≡ log_locations k b (w.boosted.shadows a).outcomes)

  pub own_log : Logs V → (w : World V) (a k : ℕ) (c : Option (PrivateCopy V)) → IsOwn w a k c → (b : Block) → block_of w.blocks k ≡ Some b
      → IsLogOf w a k b c
  own_log logs w a k None own b is = let x = own b is in (sym x.1, sym x.2)
  own_log logs w a k (Some c) own b is =
      let e : Some own.0 ≡ Some b = sym own.1.block ∙ is in
      let same : own.0 ≡ b = cc in
      subst (λ (d : Block). IsLogOf w a k d (Some c)) same (logs w a k own.0 _ c own.1)

  -- ---- the stage of a commit whose base is put back
  pub home_is : (s : Stage V) (k : ℕ) → next_of s ≡ next.GoHome k → (ks : List ℕ) × (s ≡ Homing (k ∷ ks))
  home_is (Homing []) k e = let z : ⊥ = cc in absurd z
  home_is (Homing (j ∷ ks)) k e = let same : j ≡ k = cc in (ks, ap (λ (i : ℕ). Homing (i ∷ ks)) same)
  home_is Idle k e = let z : ⊥ = cc in absurd z
  home_is Open k e = let z : ⊥ = cc in absurd z
  home_is (Trying asked n) k e = let z : ⊥ = cc in absurd z
  home_is (Copying asked) k e = let z : ⊥ = cc in absurd z
  home_is (Loading o []) k e = let z : ⊥ = cc in absurd z
  home_is (Loading o (d ∷ es)) k e = let z : ⊥ = cc in absurd z
  home_is (Gating got [] n) k e = let z : ⊥ = cc in absurd z
  home_is (Gating got (j ∷ ks) n) k e = let z : ⊥ = cc in absurd z
  home_is (Ready ks) k e = let z : ⊥ = cc in absurd z
  home_is (Returning []) k e = let z : ⊥ = cc in absurd z
  home_is (Returning (j ∷ ks)) k e = let z : ⊥ = cc in absurd z
  home_is Beginning k e = let z : ⊥ = cc in absurd z
  home_is (Reading l) k e = let z : ⊥ = cc in absurd z
  home_is Locking k e = let z : ⊥ = cc in absurd z
  home_is (Storing ks) k e = let z : ⊥ = cc in absurd z
  home_is Releasing k e = let z : ⊥ = cc in absurd z
  home_is Closing k e = let z : ⊥ = cc in absurd z
  home_is Cancelling k e = let z : ⊥ = cc in absurd z
  home_is Leaving k e = let z : ⊥ = cc in absurd z

  homing_at : (t : own.Stage V) (ks : List ℕ) → stage_of t ≡ Homing ks
      → (homes : VecDeque ℕ Global) × (t ≡ stage.Homing homes) × (homes.items ≡ ks)
  homing_at (stage.Homing homes) ks e = (homes, refl, cc)
  homing_at t ks e = let z : ⊥ = cc in absurd z

  -- so the actor stands there, and this collection is the first that is left to it
  pub homing_is : (t : own.Stage V) (k : ℕ) → next_of (stage_of t) ≡ next.GoHome k
      → (homes : VecDeque ℕ Global) × (t ≡ stage.Homing homes) × (ks : List ℕ) × (homes.items ≡ k ∷ ks)
  homing_is t k e =
      let home = home_is (stage_of t) k e in
      let at = homing_at t (k ∷ home.0) home.1 in (at.0, at.1, home.0, at.2)

  pub quiet_home : (s : Stage V) (k : ℕ) → next_of s ≡ next.GoHome k → is_loading s ≡ false
  quiet_home s k due = ap is_loading (home_is s k due).1

  pub recorded_home : (t : own.Stage V) (k : ℕ) → next_of (stage_of t) ≡ next.GoHome k → is_recorded t ≡ true
  recorded_home t k e = ap is_recorded (homing_is t k e).1

  pub due_home : (a k : ℕ) (o : Option (Action (CollectionCall V))) → IsDue a (next.GoHome k) o → o ≡ Some (GoHome a k)
  due_home a k None h = absurd h
  due_home a k (Some e) h = ap Some h

  -- the action of its next step
  pub home_due : AreSteps V → (w : World V) (a k : ℕ) (r : TxActor V) → Runs a r w → next_of (stage_of r.stage) ≡ next.GoHome k
      → GoesHome w a k
  home_due steps w a k r runs due =
      let next_is : next_of (w.seats a).stage ≡ next.GoHome k = next_as w a r runs ∙ due in
      same_action w a (w.seats a).stage (λ q. let e : next.FirstStore ≡ next.GoHome k = sym q ∙ next_is in let c : ⊥ = cc in c)
      ∙ due_home a k _ (due_as steps w a (w.seats a).stage (next.GoHome k) next_is)

  pub home_words : (w : World V) (a k : ℕ) → (acted w (GoHome a k ∷ [])).boosted.words ≡ w.boosted.words
  home_words w a k =
      let b = w.boosted in
      cond_both {A = Boosted (Shown V) (CallWithOutcome V)} _ (homed (content w.words w.blocks) b a k) b
      (λ (z : Boosted (Shown V) (CallWithOutcome V)). z.words ≡ b.words) (λ _. refl) (λ _. refl)

  -- ---- the turn: p is the actor r, once it has handed its log out
  pub home_runs : AreSteps V → GoesOn V → (o : Contents V) (w : World V) (a k : ℕ) (r p s : TxActor V) (n : ActorNotice V)
      → next_of (stage_of r.stage) ≡ next.GoHome k → Stands r p → p.stage ≡ r.stage → IsGoneHome p s n → IsReached o w → Runs a r w
      → Runs a s (happens w (Step a)).0 × (notice_of a n ≡ (happens w (Step a)).1)
  home_runs steps goes o w a k r p s n due stands at gone reached runs =
      let z = acted w (GoHome a k ∷ []) in
      let first = home_is (stage_of r.stage) k due in
      let quiet : is_loading (stage_of r.stage) ≡ false = ap is_loading first.1 in
      let st : (w.seats a).stage ≡ stage_of r.stage = stage_by (w.seats a) r quiet runs.0 in
      let next_is : next_of (w.seats a).stage ≡ next.GoHome k = next_as w a r runs ∙ due in
      let here : Runs a p w = stands a w runs in
      let there : Runs a p z = runs_moved w a p (GoHome a k) (home_words w a k) here in
      let at_home : (w.seats a).stage ≡ Homing (k ∷ first.0) = st ∙ first.1 in
      let own_stage : stage_of p.stage ≡ Homing (k ∷ first.0) = ap stage_of at ∙ first.1 in
      let may_go : MayGoOn a z (Homing (k ∷ first.0)) =
      subst (λ (q : Stage V). MayGoOn a (committed_at w a q) q) at_home (reached_goes_on goes o w a reached) in
      let after = gone a z (subst (λ (q : Stage V). MayGoOn a z q) (sym own_stage) may_go) there in
      let e : step_at w a (w.seats a) (w.seats a).stage ≡ after_home z a (seat_at (z.seats a) p) (stage_of p.stage) =
      steps.homes w a (w.seats a) (w.seats a).stage k next_is
      ∙ (ap (λ (q : Stage V). after_home z a (w.seats a) q) (st ∙ sym (ap stage_of at))
      ∙ ap (λ (x : Seat V). after_home z a x (stage_of p.stage)) here.0) in (
        subst (λ (q : After V). Runs a s q.0) (sym e) after.0,
        after.1 ∙ sym (ap (λ (q : After V). q.1) e),
      )

  -- ---- what the base asks of the log
  pub log_within : Logs V → Within V → (o : Contents V) (w : World V) (a k : ℕ) (b : Block) (c : Option (PrivateCopy V))
      (locations : List ℕ)
      (base : Base V) → IsReached o w → block_of w.blocks k ≡ Some b → IsOwn w a k c → IsBaseOf b base → locations ≡ locations_had c
      → All (λ i. i < locations_of (stripes_of base) (shown_of base)) locations
  log_within logs within o w a k b c locations base reached there own fit ll =
      let log = own_log logs w a k c own b there in
      let stripes = subst HaveStripes (sym (reached_blocks o w reached)) reached.stripes in
      subst (All (λ i. i < locations_of (stripes_of base) (shown_of base))) (sym (ll ∙ log.1))
      (within k b (w.boosted.shadows a).outcomes base (positive_at w.blocks k b stripes there) fit)

  few_in : FewEditions V → (o : Contents V) (w : World V) → IsReached o w
      → (k : ℕ) (b : Block) (os : List (CallWithOutcome V)) (base : Base V)
      → block_of w.blocks k ≡ Some b → ShowsBase w.words w.blocks w k base
      → All (λ i. slice_index (editions_of base) i ≤ w.boosted.words.clock) (log_locations k b os)
  few_in few o w h k b os base is shows =
      let blocks = reached_blocks o w h in
      let from : ShowsBase (length o.words) h.blocks w k base =
      subst (λ (bs : List Block). ShowsBase (length o.words) bs w k base) blocks
      (subst (λ (n : ℕ). ShowsBase n w.blocks w k base) (reached_words o w h) shows) in
      subst (λ (z : World V). ShowsBase (length o.words) h.blocks z k base
      → All (λ i. slice_index (editions_of base) i ≤ z.boosted.words.clock) (log_locations k b os)) h.world
      (few h.blocks h.clock o.words o.held h.events k b os base h.stripes h.suits
      (ap (λ (bs : List Block). block_of bs k) (sym blocks) ∙ is))
      from

  all_below : (base : Base V) (n : ℕ) (ls : List ℕ) → n < 2 ^ 63 → All (λ i. slice_index (editions_of base) i ≤ n) ls
      → All (λ i. slice_index (editions_of base) i < 2 ^ 63) ls
  all_below base n ls low h = λ i d there. (let few = h i d there in omega (arith, low, few))

  pub log_below : Logs V → FewEditions V → (o : Contents V) (w : World V) (a k : ℕ) (b : Block) (c : Option (PrivateCopy V))
      (locations : List ℕ)
      (base : Base V) → IsReached o w → block_of w.blocks k ≡ Some b → IsOwn w a k c → ShowsBase w.words w.blocks w k base
      → w.boosted.words.clock < 2 ^ 63 → locations ≡ locations_had c → All (λ i. slice_index (editions_of base) i < 2 ^ 63) locations
  log_below logs few o w a k b c locations base reached there own shows clock ll =
      let log = own_log logs w a k c own b there in
      subst (All (λ i. slice_index (editions_of base) i < 2 ^ 63)) (sym (ll ∙ log.1))
      (all_below base w.boosted.words.clock (log_locations k b (w.boosted.shadows a).outcomes) clock
      (few_in few o w reached k b (w.boosted.shadows a).outcomes base there shows))

-- A base that is put back makes of the table and of its actor what it makes of the world: the table folds the log of the actor's calls into
-- the base as the world does, and the actor continues as in each world that events have reached.
use Rattle.std.proofs.Common.{◌≡◌, ℕ, zero, suc, ◌<◌, ◌^◌, List, [], ◌∷◌, Some, length, slice_get, refl}
use Rattle.std.proofs.Common.{sym, ◌∙◌, subst, arith}
use Rattle.std.specs.List.{All}
use Rattle.std.specs.Prelude.{slice_index}
use Rattle.conflict.specs.declared.change.Change.{Change}
use Rattle.seq_model.specs.declared.event.Event.{Event}
use Rattle.seq_model.specs.declared.event.Event.TheVariants.{Step}
use Rattle.seq_model.specs.declared.held.Held.{Held}
use Rattle.seq_model.specs.Contents.{Contents}
use Rattle.tx_machine.specs.Boosted.{GoHome}
use Rattle.replay_log.specs.declared.base.Base.{Base}
use Rattle.replay_log.specs.Base.{editions_of, locations_of, shown_of, stripes_of}
use Rattle.replay_log.specs.Contents.{Block, HaveStripes, block_of}
use Rattle.replay_log.specs.Worlds.{World}
use Rattle.replay_log.specs.Worlds.{happens, opened}
use Rattle.replay_log.specs.Worlds.{run}
use Rattle.actor_laws.specs.Bases.{IsBaseOf, log_changes, log_locations}
use Rattle.actor_laws.specs.Gates.{GoesHome}
use Rattle.tx_actor.specs.Asks.{Stands}
use Rattle.actor_parts.specs.Dispatch.{AreSteps, next_of}
use Rattle.tx_actor.specs.Dispatch.{IsGoneHome}
use Rattle.actor_parts.specs.Logs.{changes_had, locations_had}
use Rattle.actor_parts.specs.CopyList.{copy_of}
use Rattle.tx_actor.specs.Running.{stage_of}
use Rattle.tx_actor.specs.declared.actor.Stage as own
use Rattle.tx_actor.specs.declared.actor.ActorNotice.{ActorNotice}
use Rattle.tx_actor.specs.declared.actor.TxActor.{TxActor}
use Rattle.actor_parts.specs.declared.next.Next.TheVariants as next
use Rattle.actor_parts.specs.Tables.{HasTable}
use Rattle.actor_parts.specs.declared.table.Table.{Table}
use Rattle.step_world.specs.Homes.{IsHomeTurn, MayGoHome}
use Rattle.step_world.specs.Reached.{IsReached}
use Rattle.tx_actor.proofs.StepLemmas.{GoesOn}
use Rattle.tx_actor.proofs.HomeLemmas as there
use Rattle.tx_actor.proofs.HomeLemmas.{FewEditions, Logs, Within, home_due, home_runs, own_log}
use Rattle.tx_actor.proofs.CopyLemmas.{block_here}

-- ---- what stands at a place
item_here : {A : Type 0} (xs : List A) (k : ℕ) → k < length xs → (x : A) × (slice_get xs k ≡ Some x)
item_here [] k low = let z : ⊥ = omega (arith, low) in absurd z
item_here (x ∷ xs) zero low = (x, refl)
item_here (x ∷ xs) (suc k) low = item_here xs k (omega (arith, low))

module _ {V : Type 0} where
  -- ---- the action on the table, like its contract
  abbrev pub FoldsHome : Table V → Table V → ℕ → List (Change V) → List ℕ → Type 0
  FoldsHome t u k changes locations =
      (blocks : List Block) (clock : ℕ) (values : List ℕ) (held : List (Held V)) (events : List (Event V)) (a : ℕ) (b : Block)
      (before : Base V) → HaveStripes blocks →
      let w = run (opened blocks clock values held) events in
      let outcomes = (w.boosted.shadows a).outcomes in
      HasTable t w → GoesHome w a k → block_of w.blocks k ≡ Some b → slice_get t.bases.items k ≡ Some before → IsBaseOf b before
      → changes ≡ log_changes k b outcomes → locations ≡ log_locations k b outcomes → HasTable u (happens w (Step a)).0

  folds_in : (t u : Table V) (k : ℕ) (changes : List (Change V)) (locations : List ℕ) → FoldsHome t u k changes locations
      → (o : Contents V) (w : World V) → IsReached o w → (a : ℕ) (b : Block) (before : Base V) → HasTable t w → GoesHome w a k
      → block_of w.blocks k ≡ Some b → slice_get t.bases.items k ≡ Some before → IsBaseOf b before
      → changes ≡ log_changes k b (w.boosted.shadows a).outcomes → locations ≡ log_locations k b (w.boosted.shadows a).outcomes
      → HasTable u (happens w (Step a)).0
  folds_in t u k changes locations folds o w h a b before =
      subst (λ (z : World V). HasTable t z → GoesHome z a k → block_of z.blocks k ≡ Some b → slice_get t.bases.items k ≡ Some before
      → IsBaseOf b before → changes ≡ log_changes k b (z.boosted.shadows a).outcomes
      → locations ≡ log_locations k b (z.boosted.shadows a).outcomes → HasTable u (happens z (Step a)).0) h.world
      (folds h.blocks h.clock o.words o.held h.events a b before h.stripes)

  -- ---- the turn
  pub home_turns : AreSteps V → GoesOn V → Logs V → (k : ℕ) (t u : Table V) (r p s : TxActor V) (changes : List (Change V))
      (locations : List ℕ) (n : ActorNotice V) → next_of (stage_of r.stage) ≡ next.GoHome k → k < length t.bases.items → Stands r p
      → p.stage ≡ r.stage → changes ≡ changes_had (copy_of r.copies.items k) → locations ≡ locations_had (copy_of r.copies.items k)
      → FoldsHome t u k changes locations → IsGoneHome p s n → IsHomeTurn k t r u s n
  home_turns steps goes logs k t u r p s changes locations n due low stands at cl ll folds gone = record {
    turns = λ o w a reached has shape runs own. (
        let home = home_due steps w a k r runs due in
        let went = home_runs steps goes o w a k r p s n due stands at gone reached runs in
        let b = block_here w.blocks k (omega (arith, low, shape.bases)) in
        let log = own_log logs w a k (copy_of r.copies.items k) own b.0 b.1 in
        let base = item_here t.bases.items k low in (
          folds_in t u k changes locations folds o w reached a b.0 base.0 has home b.1 base.1 (shape.fit k b.0 base.0 b.1 base.1)
              (cl ∙ log.0) (ll ∙ log.1),
          went.0,
          went.1,
        ));
  }

  -- ---- what the action asks of the log
  pub log_within : Logs V → Within V → (k : ℕ) (t : Table V) (r : TxActor V) (locations : List ℕ) (base : Base V) → MayGoHome k t r
      → locations ≡ locations_had (copy_of r.copies.items k) → slice_get t.bases.items k ≡ Some base
      → All (λ i. i < locations_of (stripes_of base) (shown_of base)) locations
  log_within logs within k t r locations base may ll at =
      there.log_within logs within may.opening may.world may.actor k may.block
      (copy_of r.copies.items k) locations base may.reached may.there
      may.own (may.shape.fit k may.block base may.there at) ll

  pub log_below : Logs V → FewEditions V → (k : ℕ) (t : Table V) (r : TxActor V) (locations : List ℕ) (base : Base V) → MayGoHome k t r
      → locations ≡ locations_had (copy_of r.copies.items k) → slice_get t.bases.items k ≡ Some base
      → All (λ i. slice_index (editions_of base) i < 2 ^ 63) locations
  log_below logs few k t r locations base may ll at =
      there.log_below logs few may.opening may.world may.actor k may.block (copy_of r.copies.items k) locations base may.reached may.there
      may.own (may.table.bases k base at) (subst (λ (n : ℕ). n < 2 ^ 63) (sym may.table.cells.clock) may.clock) ll

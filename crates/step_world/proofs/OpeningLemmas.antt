-- A world opens with these parts: no actor has a transaction, so none may take a number, and nothing is to be put back.
use Rattle.std.proofs.Common.{◌≡◌, ℕ, zero, suc, ◌+◌, ◌≤◌, List, [], ◌∷◌, ◌++◌, map, Some, None, length}
use Rattle.std.proofs.Common.{refl, sym, ap, subst, arith}
use Rattle.std.specs.Prelude.{slice_get}
use Rattle.tx_machine.specs.Actor.{clock_limit}
use Rattle.step_world.specs.declared.opening.TheConstants.{ACTORS}
use Rattle.seq_model.specs.Contents.{Contents}
use Rattle.replay_log.specs.Contents.{end_of}
use Rattle.replay_log.specs.Worlds.{written_homes}
use Rattle.step_core.specs.Sound.{owed}
use Rattle.tx_actor.specs.Dispatch.{HasRoom}
use Rattle.tx_actor.specs.CopiesByStage.{HasCopiesAt}
use Rattle.tx_actor.specs.ActorBounds.{IsCallAt, NamesAmong}
use Rattle.tx_actor.specs.Running.{KnowsHomes}
use Rattle.tx_actor.specs.declared.actor.Stage as own
use Rattle.tx_actor.specs.declared.actor.TxActor.{TxActor}
use Rattle.actor_parts.specs.Openings.{HasShape, blocks_of, world_of}
use Rattle.actor_parts.specs.Tables.{HasTable}
use Rattle.step_world.specs.declared.parts.Parts.{Parts}
use Rattle.step_world.specs.declared.trace.Ended.{Ended}
use Rattle.step_world.specs.Homes.{HaveRoom, homes_left}
use Rattle.step_world.specs.Openings.{AreIdle, IsIdle}
use Rattle.step_world.specs.Parts.{IsWorld, ended_of, total_owed}
use Rattle.tx_actor.proofs.SeatLemmas.{idle_as}

module _ {V : Type 0} where
  pub AreIdle-push : (rs : List (TxActor V)) (r : TxActor V) → IsIdle r → AreIdle rs → AreIdle (rs ++ r ∷ [])
  AreIdle-push [] r h k = (h, tt)
  AreIdle-push (q ∷ rs) r h k = (k.0, AreIdle-push rs r h k.1)

  pub length_push : (rs : List (TxActor V)) (r : TxActor V) → length (rs ++ r ∷ []) ≡ length rs + 1
  length_push [] r = refl
  length_push (q ∷ rs) r = omega (arith, length_push rs r)

  idle_at : (rs : List (TxActor V)) (i : ℕ) (r : TxActor V) → AreIdle rs → slice_get rs i ≡ Some r → IsIdle r
  idle_at [] i r h at = absurd (let z : None ≡ Some r = at in cc)
  idle_at (q ∷ rs) zero r h at = (let z : Some q ≡ Some r = at in let e : q ≡ r = cc in subst (λ (x : TxActor V). IsIdle x) e h.0)
  idle_at (q ∷ rs) (suc i) r h at = idle_at rs i r h.1 at

  owed_none : (rs : List (TxActor V)) → AreIdle rs → total_owed rs ≡ 0
  owed_none [] h = refl
  owed_none (r ∷ rs) h = omega (arith, ap owed h.0.words.place, owed_none rs h.1)

  pub opens : (d : Parts V) (ns : List ℕ) (clock : ℕ) (s : Contents V) → HasTable d.table (world_of ns clock s)
      → HasShape d.table (length s.words) (blocks_of ns s.held) → d.blocks.words ≡ length s.words → d.blocks.blocks ≡ blocks_of ns s.held
      → length d.actors.items ≡ ACTORS → AreIdle d.actors.items → d.records.items ≡ [] → d.aborted.items ≡ [] → clock ≤ clock_limit
      → IsWorld d (world_of ns clock s)
  opens d ns clock s table shape words blocks many idle rs es low = record {
    laid = (sym words, sym blocks);
    table = table;
    shape = shape;
    count = many;
    seats = λ i r at. (
        let own_idle = idle_at d.actors.items i r idle at in
        let w = world_of ns clock s in
        record {
          runs = (
            idle_as r own_idle.seat own_idle.stage,
            sym own_idle.words.actor,
            subst (λ (p : own.Stage V). KnowsHomes p (written_homes w (i + 1))) (sym own_idle.stage) tt,
          );
          running = record {
            fits = own_idle.words.fits (end_of d.blocks.words d.blocks.blocks);
            room = subst (λ (p : own.Stage V). HasRoom r p) (sym own_idle.stage) tt;
            names = subst (λ (p : own.Stage V). NamesAmong (length d.blocks.blocks) p) (sym own_idle.stage) tt;
            call = subst (λ (p : own.Stage V). IsCallAt d.blocks r.copies.items p) (sym own_idle.stage) tt;
          };
          copies = subst (λ (p : own.Stage V). HasCopiesAt r w (i + 1) p) (sym own_idle.stage) tt;
        });
    room = λ i r at. (
        let own_idle = idle_at d.actors.items i r idle at in
        subst (λ (p : own.Stage V). HaveRoom d.table r.copies.items (homes_left p)) (sym own_idle.stage)
        (λ j k low. (let z : ⊥ = omega (arith, low) in absurd z)));
    others = λ a none. refl;
    records = rs;
    aborted = ap (λ (xs : List (Ended V)). map ended_of xs) es;
    clock = omega (arith, low, owed_none d.actors.items idle, table.cells.clock);
  }

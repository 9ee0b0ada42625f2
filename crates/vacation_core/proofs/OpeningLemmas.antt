-- A world opens on balanced tables wherever a collection may have so many stripes, and the client has done nothing in it.
use Rattle.std.proofs.Common.{ℕ, ◌≤◌, [], refl, arith}
use Rattle.conflict.specs.Refusals.{IsStripeCount}
use Rattle.replay_log.specs.WorldProgress.{AreSmall}
use Rattle.vac_model.specs.Balanced.{IsBalanced}
use Rattle.vac_model.specs.Holdings.{Holdings}
use Rattle.vac_model.specs.declared.action.Action.{Action}
use Rattle.vac_model.specs.declared.action.Action.TheVariants.{QueryItem}
use Rattle.vac_model.specs.declared.item.Kind.TheVariants.{Car}
use Rattle.client_sessions.specs.declared.entry.Entry.{Entry}
use Rattle.client_sessions.specs.Holding.{state_of}
use Rattle.actor_parts.specs.Openings.{blocks_of, world_of}
use Rattle.step_world.specs.Parts.{IsWorld}
use Rattle.step_world.specs.declared.parts.Parts.{Parts}
use Rattle.vacation_core.specs.Turns.{HasOpened}
pub use Rattle.vacation_core.proofs.StripeLemmas.{have_indexes, stripes, suits}
pub use Rattle.vacation_core.specs.Stripes.{eight}

small : (n : ℕ) (tables : Holdings) → IsStripeCount n → AreSmall (blocks_of (eight n) (state_of tables).held)
small n tables count =
    let few = count.1 in
    let map : n ≤ 4096 = omega (arith, few) in
    let queue : 2 ≤ 4096 = omega arith in
    (map, (map, (map, (map, (map, (queue, (queue, (queue, tt))))))))

pub opened : (n : ℕ) (tables : Holdings) (c : Parts Entry) → IsStripeCount n → IsBalanced tables
    → IsWorld c (world_of (eight n) 0 (state_of tables)) → HasOpened tables c
opened n tables c count balanced parts =
    let first : Action = QueryItem Car 0 in (
      first,
      record {
        history = record {
          blocks = blocks_of (eight n) (state_of tables).held;
          clock = 0;
          tables = tables;
          actions = λ a. first;
          turns = [];
        };
        opening = refl;
        start = refl;
        actor = refl;
        small = small n tables count;
        lawful = record {
          allowed = λ a. tt;
          balanced = balanced;
          stripes = stripes n tables count;
          suits = suits n tables (have_indexes tables balanced);
          asks = tt;
        };
        alone = tt;
        plain = tt;
        asked = omega arith;
        few = omega arith;
        at = record { stands = refl; does = refl; has = refl };
        parts = parts;
      },
    )

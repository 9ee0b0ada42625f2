-- What a running world of clients opens as is the play in which nothing has happened.
use Rattle.std.proofs.Common.{◌≡◌, ℕ, List, [], ◌∷◌, ◌++◌, length, refl, sym, ◌∙◌, ap}
use Rattle.std.specs.Prelude.{Some, None, slice_get}
use Rattle.conflict.specs.Refusals.{IsStripeCount}
use Rattle.vac_model.specs.Balanced.{IsBalanced}
use Rattle.vac_model.specs.Holdings.{Holdings}
use Rattle.client_sessions.specs.Holding.{state_of}
use Rattle.actor_parts.specs.Openings.{blocks_of, world_of}
use Rattle.step_world.specs.Parts.{IsWorld}
use Rattle.step_world.specs.declared.opening.TheConstants.{ACTORS}
use Rattle.actor_laws.specs.KnownStages.{Rests}
use Rattle.vacation_core.specs.PlayOpenings.{AreNew, eight, unplayed_on}
use Rattle.vacation_core.specs.Running.{IsPlay}
use Rattle.vacation_core.specs.declared.client.Client.{Client}
use Rattle.vacation_core.specs.declared.world.VacWorld.{VacWorld}
use Rattle.vacation_core.proofs.PlayLemmas.{IsSound, sound_unplayed}
use Rattle.std.specs.Prelude.{zero, suc}
use Rattle.std.proofs.lemmas.Option.{same_Some, none-some}
pub use Rattle.vacation_core.proofs.StripeLemmas.{have_indexes, stripes, suits}

new_client : (cs : List Client) (i : ℕ) (c : Client) → AreNew cs → slice_get cs i ≡ Some c → c ≡ record { current = None; done = [] }
new_client [] i c new got = absurd (none-some c got)
new_client (d ∷ ds) zero c new got = sym (same_Some d c got) ∙ new.0
new_client (d ∷ ds) (suc i) c new got = new_client ds i c new.1 got

pub opens : (n : ℕ) (tables : Holdings) (v : VacWorld) → IsStripeCount n → IsBalanced tables
    → IsWorld v.world.parts (world_of (eight n) 0 (state_of tables)) → length v.clients.items ≡ ACTORS → AreNew v.clients.items
    → v.aborted ≡ [] → IsPlay v (unplayed_on n tables)
opens n tables v count balanced parts many new none =
    let s : IsSound (unplayed_on n tables) =
    sound_unplayed (blocks_of (eight n) (state_of tables).held) tables (stripes n tables count)
    (suits n tables (have_indexes tables balanced))
    balanced in
    record {
      on = record {
        lawful = s.lawful;
        goes_on = s.goes_on;
        parts = parts;
        count = many;
        aborted = none;
        absent = λ a isnt. refl;
      };
      clients = λ i c got.
          let is = new_client v.clients.items i c new got in
          record { at = Rests; stands = refl; keeps = (ap (λ (d : Client). d.current) is, ap (λ (d : Client). d.done) is) };
    }

pub new_more : (cs : List Client) (c : Client) → c ≡ record { current = None; done = [] } → AreNew cs → AreNew (cs ++ c ∷ [])
new_more [] c is new = (is, tt)
new_more (d ∷ ds) c is new = (new.0, new_more ds c is new.1)

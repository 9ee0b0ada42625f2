-- A table opens as a world that events reach: no event leads there. A collection has no more stripes than a call may read locations.
use Rattle.std.proofs.Common.{◌≡◌, ℕ, ◌≤◌, List, [], ◌∷◌, length, refl, sym, subst, arith}
use Rattle.std.specs.Prelude.{All}
use Rattle.seq_model.specs.Calls.{IsWithinLimits}
use Rattle.seq_model.specs.Contents.{Contents}
use Rattle.seq_model.specs.declared.held.Held.{Held}
use Rattle.seq_model.specs.declared.held.Held.TheVariants.{Map, Bag, Pq, Queue}
use Rattle.conflict.specs.Refusals.{IsStripeCountOf}
use Rattle.replay_log.specs.Collections.{kind_of_held}
use Rattle.replay_log.specs.Contents.{HaveStripes}
use Rattle.replay_log.specs.Seats.{World}
use Rattle.replay_log.specs.WorldProgress.{AreSmall, most_by}
use Rattle.actor_laws.proofs.Alike.{alike_same}
use Rattle.actor_parts.specs.Openings.{AreStripeCounts, IsWithin, blocks_of, world_of}
use Rattle.actor_parts.proofs.OpeningLemmas.{suits}
use Rattle.shared_table.specs.declared.table.TxTable.{TxTable}
use Rattle.shared_table.specs.Seated.{opening_of}
use Rattle.shared_table.specs.Shown.{IsReached}

module _ {V : Type 0} where
  pub opening_reached : (ns : List ℕ) (clock : ℕ) (s : Contents V) → length ns ≡ length s.held → IsWithin ns clock s
      → All IsWithinLimits s.held → HaveStripes (blocks_of ns s.held) → (a : ℕ) → IsReached (world_of ns clock s) a (world_of ns clock s)
  opening_reached ns clock s same within limits stripes a = record {
    opens = record { clock = clock; contents = s; suits = suits ns s.held same limits; world = refl };
    stripes = stripes;
    shape = (refl, refl);
    events = [];
    alike = alike_same a (world_of ns clock s);
    bases = λ k has l plain home. (refl, refl);
    clock = (let low = within.clock in omega (arith, low));
  }

  -- a call reads no more locations of a collection than a set takes
  pub few_locations : (ns : List ℕ) (hs : List (Held V)) → AreStripeCounts ns hs → AreSmall (blocks_of ns hs)
  few_locations [] hs counts = tt
  few_locations (n ∷ ns) [] counts = tt
  few_locations (n ∷ ns) (h ∷ hs) counts = (few h counts.0, few_locations ns hs counts.1)
    where
      few : (h : Held V) → IsStripeCountOf h n → most_by (kind_of_held h) n ≤ 4096
      few (Map entries) count = count.1
      few (Bag counts) count = count.1
      few (Pq elements) count = (let c = count.1 in omega (arith, c))
      few (Queue head items) count = omega arith

  -- a table that opened so
  pub opens_reached : (t : TxTable V) (ns : List ℕ) (clock : ℕ) (s : Contents V) → opening_of t ≡ world_of ns clock s
      → length ns ≡ length s.held → IsWithin ns clock s → All IsWithinLimits s.held → HaveStripes (blocks_of ns s.held) → (a : ℕ)
      → IsReached (opening_of t) a (opening_of t)
  opens_reached t ns clock s opens same within limits stripes a =
      subst (λ (w : World V). IsReached w a w) (sym opens) (opening_reached ns clock s same within limits stripes a)

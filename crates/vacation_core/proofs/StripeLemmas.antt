-- Balanced tables are what a world can hold, wherever a collection may have so many stripes: the indexes of the queues are below the next
-- ticket, and so within the limit of an index (`have_indexes`); each collection is of the kind of its block (`suits`), and has stripes; and
-- there are few locations. So its opening is refused only memory (`never_refused`).
use Rattle.std.proofs.Common.{◌≡◌, ◌≢◌, ℕ, ◌+◌, ◌≤◌, List, length, refl, arith, subst}
use Rattle.conflict.specs.Refusals.{IsStripeCount}
use Rattle.seq_model.specs.declared.limits.TheConstants.{INDEX_LIMIT}
use Rattle.replay_log.specs.Collections.{Suit}
use Rattle.replay_log.specs.Contents.{HaveStripes}
use Rattle.vac_model.specs.Balanced.{IsBalanced}
use Rattle.vac_model.specs.Holdings.{Holdings, queue}
use Rattle.vac_model.specs.declared.item.Kind.TheVariants.{Car, Flight, Room}
use Rattle.client_sessions.specs.Holding.{HaveIndexes, state_of}
use Rattle.actor_parts.specs.Openings.{blocks_of}
use Rattle.seq_model.specs.Contents.{Contents}
use Rattle.seq_model.specs.Refusals.{IsNoSuchOrTooLong}
use Rattle.seq_model.specs.declared.refusal.Refusal.{Refusal}
use Rattle.seq_model.specs.declared.refusal.Refusal.TheVariants.{NoSuch, Memory as OutOfMemory, TooLong}
use Rattle.client_sessions.specs.declared.entry.Entry.{Entry}
use Rattle.actor_parts.specs.Openings.{IsWithin}
use Rattle.vacation_core.specs.Stripes.{eight}

pub have_indexes : (tables : Holdings) → IsBalanced tables → HaveIndexes tables
have_indexes tables balanced k =
    let within : (queue k tables).head + length (queue k tables).tickets ≤ tables.next = balanced.queues_within k in
    let next : tables.next ≤ INDEX_LIMIT = balanced.next_within in
    omega (arith, within, next)

pub suits : (n : ℕ) (tables : Holdings) → HaveIndexes tables → Suit (blocks_of (eight n) (state_of tables).held) (state_of tables).held
suits n tables within =
    (refl, tt, (refl, tt, (refl, tt, (refl, tt, (refl, tt, (refl, within Car, (refl, within Flight, (refl, within Room, tt))))))))

pub stripes : (n : ℕ) (tables : Holdings) → IsStripeCount n → HaveStripes (blocks_of (eight n) (state_of tables).held)
stripes n tables count = (count.0, (count.0, (count.0, (count.0, (count.0, (count.0, (count.0, (count.0, tt))))))))

is_within : (n : ℕ) (tables : Holdings) → IsStripeCount n → IsWithin (eight n) 0 (state_of tables)
is_within n tables count = record {
  clock = omega arith;
  collections = omega arith;
  stripes = (count, (count, (count, (count, (count, (count, (count, (count, tt))))))));
  locations = (let few = count.1 in omega (arith, few));
}

-- an opening on these stripes and this state, which are those of the tables
pub never_refused : (n : ℕ) (tables : Holdings) (ns : List ℕ) (s : Contents Entry) (cause : Refusal) → IsStripeCount n → ns ≡ eight n
    → s ≡ state_of tables → IsNoSuchOrTooLong cause (length ns ≢ length s.held) (IsWithin ns 0 s) → (cause ≡ OutOfMemory → ⊥) → ⊥
never_refused n tables ns s cause count each is refused isnt =
    by cause (subst (λ (t : Contents Entry). IsNoSuchOrTooLong cause (length (eight n) ≢ length t.held) (IsWithin (eight n) 0 t)) is
    (subst (λ (ms : List ℕ). IsNoSuchOrTooLong cause (length ms ≢ length s.held) (IsWithin ms 0 s)) each refused)) isnt
  where
    by : (cause : Refusal)
        → IsNoSuchOrTooLong cause (length (eight n) ≢ length (state_of tables).held) (IsWithin (eight n) 0 (state_of tables))
        → (cause ≡ OutOfMemory → ⊥) → ⊥
    by NoSuch h isnt = h refl
    by TooLong h isnt = h.1 (is_within n tables count)
    by OutOfMemory h isnt = isnt refl
    by cause h isnt = h

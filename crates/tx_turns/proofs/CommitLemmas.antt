-- The parts of a commit, one after the other.
--
-- A part is a number of turns, and whether all of them were quiet is known once it is over. Those of a part that was quiet lead on to the
-- next part (`joins`). A turn on a gate makes no record, so it leads on whatever record was made before it (`gate_leads`).
use Rattle.std.proofs.Common.{◌≡◌, ℕ, Bool, [], Option, None, Result, Ok, Err, OnErr, sym, refl, subst}
use Rattle.seq_model.specs.declared.record.Record.{Record}
use Rattle.replay_log.specs.Seats.{World}
use Rattle.actor_parts.specs.Dispatch.{next_of}
use Rattle.actor_parts.specs.declared.next.Next.{Next}
use Rattle.tx_actor.specs.Running.{stage_of}
use Rattle.tx_actor.specs.declared.actor.Stage as own
use Rattle.tx_actor.specs.declared.actor.Stage.TheVariants as stage
use Rattle.tx_actor.specs.declared.actor.ActorNotice.{ActorNotice}
use Rattle.tx_actor.specs.declared.actor.ActorNotice.TheVariants as told
use Rattle.tx_actor.specs.declared.actor.TxActor.{TxActor}
use Rattle.shared_table.specs.declared.seat.Seat.{Seat}
use Rattle.shared_table.specs.declared.table.TxTable.{TxTable}
use Rattle.shared_table.specs.Seated.{actor, opening_of}
use Rattle.tx_turns.specs.Ties.{Ties, Turned, commits_at}
use Rattle.tx_turns.specs.Driven.{IsOnGate, told_in}
use Rattle.tx_turns.specs.Straight.{LeadsAll, LeadsBy}
use Rattle.tx_turns.proofs.DrivenLemmas.{driven_on}
use Rattle.tx_turns.proofs.StraightLemmas.{told_so}

-- what holds where an allocation failed
pub failed : {A E : Type 0} {P : Type 0} → (r : Result A E) → P → OnErr r P
failed (Ok v) h = tt
failed (Err e) h = h

module _ {V : Type 0} where
  none_made : (a : ℕ) (r : TxActor V) (t : own.Stage V) → IsOnGate (next_of (stage_of t)) → commits_at a r t ≡ []
  none_made a r (stage.Ready homes) on = absurd on
  none_made a r stage.Closing on = absurd on
  none_made a r t on = refl

  pub gate_leads : (t : TxTable V) (s u : Seat V) (r : TxActor V) (k : Next) (n : ActorNotice V) → next_of (stage_of r.stage) ≡ k
      → IsOnGate k
      → Ties t s r → Turned (opening_of t) s r u n → LeadsAll (opening_of t) s u n
  gate_leads t s u r k n due on ties turned d f was =
      driven_on t f s u r n d ties was turned None (none_made (actor s) r r.stage (subst IsOnGate (sym due) on))

  -- nothing yet
  pub stands : (o : World V) (s : Seat V) (d : Option (Record V)) → LeadsBy o s s told.Quiet d d
  stands o s d f was = was

  -- a part after those that were quiet
  pub joins : (o : World V) (s u z : Seat V) (b c : Bool) (n : ActorNotice V) (before made now : Option (Record V)) → b ≡ c
      → LeadsBy o s u told.Quiet before made → LeadsBy o u z (told_in b n) made now → LeadsBy o s z (told_in c n) before now
  joins o s u z b c n before made now e h k f was = told_so o f z b c n now e (k f (h f was))

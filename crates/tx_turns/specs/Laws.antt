-- What is unchanged of a seat's bases over the turns on words, which know nothing of them.
use Rattle.std.specs.Prelude.{◌≡◌, List, false}
use Rattle.replay_log.specs.declared.base.Base.{Base}
use Rattle.actor_parts.specs.Dispatch.{is_loading, next_of}
use Rattle.actor_parts.specs.declared.next.Next.TheVariants as next
use Rattle.tx_actor.specs.CopiesByStage.{KeepsCopies}
use Rattle.tx_actor.specs.Running.{stage_of}
use Rattle.tx_actor.specs.declared.actor.ActorNotice.{ActorNotice}
use Rattle.tx_actor.specs.declared.actor.TxActor.{TxActor}
use Rattle.shared_table.specs.declared.seat.Seat.{Seat}
use Rattle.shared_table.specs.declared.table.TxTable.{TxTable}
use Rattle.shared_table.specs.Seated.{opening_of}
use Rattle.tx_turns.specs.RequestStep.{Starved}
use Rattle.tx_turns.specs.Ties.{Ties, Turned}
use Rattle.tx_turns.specs.Own.{HasOwn}

-- A turn on the words, but for the first value store and the loads for a call, that leaves the copies of its actor as the next stage asks.
abbrev pub WordsKeep : Type 0 → Type 0
WordsKeep V =
    (t : TxTable V) (s u : Seat V) (r q : TxActor V) (n : ActorNotice V) (bs : List (Base V)) → Ties t s r → HasOwn t s r bs
    → Turned (opening_of t) s r u n → Ties t u q → KeepsCopies r q → next_of (stage_of r.stage) ≡ next.Word
    → is_loading (stage_of r.stage) ≡ false → HasOwn t u q bs

-- A failed allocation.
abbrev pub StarvesKeep : Type 0 → Type 0
StarvesKeep V =
    (t : TxTable V) (s u : Seat V) (r q : TxActor V) (n : ActorNotice V) (bs : List (Base V)) → Ties t s r → HasOwn t s r bs
    → Starved (opening_of t) s u n → Ties t u q → KeepsCopies r q → HasOwn t u q bs

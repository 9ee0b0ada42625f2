-- What a transaction has of the collection of a call once the call's gate is put back, and before the call is made.
use Rattle.std.specs.Prelude.{◌≡◌, ℕ, false, List, Option, Some}
use Rattle.tx_machine.specs.Opacity.{first_read}
use Rattle.seq_model.specs.declared.event.Event.{Event}
use Rattle.seq_model.specs.declared.held.Held.{Held}
use Rattle.conflict.specs.declared.outcome.Outcome.{Outcome}
use Rattle.replay_log.specs.declared.base.Base.{Base}
use Rattle.replay_log.specs.Contents.{CollectionCall, Block, HaveStripes, block_of, first_of}
use Rattle.replay_log.specs.Worlds.{Copying, World, actor_of, opened, run}
use Rattle.actor_laws.specs.Bases.{IsBaseOf, ShowsBase}
use Rattle.actor_parts.specs.Shows.{put_back}
use Rattle.actor_parts.specs.declared.copies.PrivateCopy.{PrivateCopy}
use Rattle.actor_parts.specs.CopyAtGate.{IsCopyFor, IsReadOf}
use Rattle.actor_parts.specs.PrivateCopy.{answer_of, holds_of}
use Rattle.actor_parts.specs.Footprints.{reads_in, with_known}
use Rattle.actor_parts.specs.LoadInWorld.{AreRead}
use Rattle.actor_parts.specs.Owns.{IsOwn}

-- What there was of the collection, which has not what the call touches, is the transaction's own still, and read, though its shadow has
-- copied what the call touches. So it is in every world that events have reached.
abbrev pub KeepsCopies : Type 0 → Type 0
KeepsCopies V =
    (blocks : List Block) (clock : ℕ) (values : List ℕ) (held : List (Held V)) (events : List (Event V)) (a : ℕ) (b : Block)
    (asked : CollectionCall V) (base : Base V) (c : Option (PrivateCopy V)) → HaveStripes blocks →
    let w = run (opened blocks clock values held) events in
    (w.seats a).stage ≡ Copying asked → block_of w.blocks asked.collection ≡ Some b → IsBaseOf b base
    → ShowsBase w.words w.blocks w asked.collection base → IsOwn w a asked.collection c → IsReadOf w a asked.collection c
    → holds_of c asked.op ≡ false →
    let u = put_back a w asked in
    IsOwn u a asked.collection c × IsReadOf u a asked.collection c

-- What is copied for the call is the transaction's own, and read, in each world v with the shadow that it has then and with further calls
-- by which the call's locations have been read with the copied editions.
abbrev pub ReadsCopies : Type 0 → Type 0
ReadsCopies V =
    (w v : World V) (a : ℕ) (b : Block) (asked : CollectionCall V) (d : PrivateCopy V) (o : Outcome V) → IsCopyFor w a b asked d
    → answer_of d asked.op ≡ Some o → v.words ≡ w.words → v.blocks ≡ w.blocks
    → v.boosted.shadows a ≡ (put_back a w asked).boosted.shadows a
    → ((l e : ℕ) → first_read (actor_of w a).calls l ≡ Some e → first_read (actor_of v a).calls l ≡ Some e)
    → AreRead (actor_of v a).calls (with_known d (first_of w.words w.blocks asked.collection) (reads_in d o))
    → IsOwn v a asked.collection (Some d) × IsReadOf v a asked.collection (Some d)

-- What an actor has of a collection is of its shadow in a world, and what a call that it holds results in there.
use Rattle.std.specs.Prelude.{◌≡◌, ℕ, List, Some, Contains, true, if◌then◌else◌}
use Rattle.seq_model.specs.declared.call.Op.{Op}
use Rattle.seq_model.specs.declared.refusal.Refusal.TheVariants as refusal
use Rattle.seq_model.specs.declared.event.Notice.TheVariants.{Refused}
use Rattle.conflict.specs.declared.outcome.Outcome.{Outcome}
use Rattle.replay_log.specs.Contents.{CollectionCall, Block, HaveStripes, block_of, first_of, shifted}
use Rattle.replay_log.specs.Pieces.{piece_at, piece_of}
use Rattle.replay_log.specs.Worlds.{World, Seat, Open, actor_of, at_stage, calls_on, has_room, is_known, seated}
use Rattle.actor_parts.specs.declared.copies.PrivateCopy.{PrivateCopy}
use Rattle.actor_parts.specs.PrivateCopy.{IsCopied, answer_of, answered_on, edition_at, has_piece, holds_call}
use Rattle.actor_parts.specs.Footprints.{reads_in, with_known, writes_in}
use Rattle.actor_parts.specs.Judged.{comes_to, judged, left_after}

module _ {V : Type 0} where
  -- each of these locations was copied with an edition
  abbrev pub Knows : PrivateCopy V → List ℕ → Type 0
  Knows c ls = (i : ℕ) → Contains ls i → (e : ℕ) × (edition_at c i ≡ Some e)

  -- a call on collection k
  abbrev pub call_on : ℕ → Op V → CollectionCall V
  call_on k op = record { collection = k; op = op }

-- It is what actor a has in the world w of collection k, which stands in block b from location f on: what a shadow of a has, with the
-- edition of each location that a held call reads, whatever its outcome. It holds a call where it has the piece that the call touches.
pub record IsOwnCopy {V : Type 0} (w : World V) (a k : ℕ) (b : Block) (f : ℕ) (c : PrivateCopy V) : Type 0 where
  pub stripes : HaveStripes w.blocks
  pub block : block_of w.blocks k ≡ Some b
  pub first : first_of w.words w.blocks k ≡ f
  pub copied : IsCopied b f k (w.boosted.shadows a) c
  pub knows : (o : Outcome V) → holds_call c o.op ≡ true → Knows c (reads_in c o)
  pub pieces : (op : Op V) → is_known (Some b) op ≡ true → holds_call c op ≡ has_piece c (piece_of b.kind op)

-- A call that is held is judged with the copied editions, and one whose locations don't fit is TooLong.
abbrev pub AnswersHeld : Type 0 → Type 0
AnswersHeld V =
    (w : World V) (a : ℕ) (x : Seat V) (k : ℕ) (b : Block) (f : ℕ) (c : PrivateCopy V) (op : Op V) (o : Outcome V)
    → IsOwnCopy w a k b f c → holds_call c op ≡ true → answer_of c op ≡ Some o → x.copied k (piece_at w.blocks (call_on k op)) ≡ true →
    let y = actor_of w a in
    let es = with_known c f (reads_in c o) in
    calls_on w a x (call_on k op)
    ≡ (if has_room y (shifted f (reads_in c o)) (shifted f (writes_in c o))
    then comes_to w a x (answered_on k op o) (left_after y.reads es) (judged y.reads es)
    else (seated w a (at_stage x Open), Refused a refusal.TooLong))

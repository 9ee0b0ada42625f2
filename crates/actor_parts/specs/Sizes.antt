-- Whether a call fits the sets of its transaction once what it touches is copied: as its outcome on the base alone does. What the call
-- touches was not held, so where it was copied before, with the base's edition still, it is what the base has; and where it was read with
-- another edition, the copy is found stale, and the definitions size the call by the base.
use Rattle.std.specs.Prelude.{◌≡◌, ℕ, ◌<◌, ◌≤◌, All, Bool, true, false, List, Option, Some, length}
use Rattle.seq_model.specs.declared.call.Op.{Op}
use Rattle.seq_model.specs.declared.call.Op.TheVariants.{Len}
use Rattle.seq_model.specs.declared.event.Event.{Event}
use Rattle.seq_model.specs.declared.held.Held.{Held}
use Rattle.conflict.specs.declared.outcome.Outcome.{Outcome}
use Rattle.replay_log.specs.declared.base.Base.{Base}
use Rattle.replay_log.specs.Base.{Shown, OfMap, OfBag, locations_of, outcome_of, reads_of, shown_of, stripes_of, writes_of}
use Rattle.replay_log.specs.Contents.{CollectionCall, Block, HaveStripes, block_of, content, first_of, shifted}
use Rattle.replay_log.specs.Worlds.{Copying, World, actor_of, has_room, opened, outcome_at, run, sized_by}
use Rattle.actor_laws.specs.Bases.{IsBaseOf, ShowsBase}
use Rattle.actor_parts.specs.Shows.{put_back}
use Rattle.actor_parts.specs.declared.copies.PrivateCopy.{PrivateCopy}
use Rattle.actor_parts.specs.CopyAtGate.{IsReadOf}
use Rattle.actor_parts.specs.PrivateCopy.{holds_of}
use Rattle.actor_parts.specs.Owns.{IsOwn}

module _ {V : Type 0} where
  -- the locations that an outcome on a base reads, and those that it writes
  abbrev pub base_reads : Base V → Outcome V → List ℕ
  base_reads base o = reads_of (stripes_of base) o (shown_of base)

  abbrev pub base_writes : Base V → Outcome V → List ℕ
  base_writes base o = writes_of (stripes_of base) o (shown_of base)

  -- whether a call is on one key, if on any
  abbrev pub is_on_key : Shown V → Op V → Bool
  is_on_key (OfMap s) Len = false
  is_on_key (OfMap s) op = true
  is_on_key (OfBag s) op = true
  is_on_key s op = false

  -- each outcome of the call on the base reads n locations at most, and writes m at most
  abbrev pub HasAtMost : Base V → Op V → (n m : ℕ) → Type 0
  HasAtMost base op n m =
      (o : Outcome V) → outcome_of op (shown_of base) ≡ Some o
      → (length (base_reads base o) ≤ n) × (length (base_writes base o) ≤ m)

  -- each of them is one of the base's
  abbrev pub LieIn : Base V → List ℕ → Type 0
  LieIn base ls = All (λ l. l < locations_of (stripes_of base) (shown_of base)) ls

  -- The outcome by which the definitions size a call of actor a, once its gate is put back, fits the sets where this outcome on the base
  -- does.
  abbrev pub SizesAs : World V → (a : ℕ) → CollectionCall V → Base V → Outcome V → Type 0
  SizesAs w a asked base o =
      let u = put_back a w asked in
      let c = content w.words w.blocks in
      let f = first_of w.words w.blocks asked.collection in
      let sized = sized_by u a asked (outcome_at u a asked) in
      has_room (actor_of w a) (c.reads sized) (c.writes sized)
      ≡ has_room (actor_of w a) (shifted f (base_reads base o)) (shifted f (base_writes base o))

-- So it is in every world that events have reached, where what the transaction has of the collection is its own and was read, and has not
-- what the call touches.
abbrev pub SizesCopies : Type 0 → Type 0
SizesCopies V =
    (blocks : List Block) (clock : ℕ) (values : List ℕ) (held : List (Held V)) (events : List (Event V)) (a : ℕ) (b : Block)
    (asked : CollectionCall V) (base : Base V) (c : Option (PrivateCopy V)) (o : Outcome V) → HaveStripes blocks →
    let w = run (opened blocks clock values held) events in
    (w.seats a).stage ≡ Copying asked → block_of w.blocks asked.collection ≡ Some b → IsBaseOf b base
    → ShowsBase w.words w.blocks w asked.collection base → IsOwn w a asked.collection c → IsReadOf w a asked.collection c
    → holds_of c asked.op ≡ false → outcome_of asked.op (shown_of base) ≡ Some o → SizesAs w a asked base o

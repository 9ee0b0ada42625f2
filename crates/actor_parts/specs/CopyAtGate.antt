-- What is copied for a call while its gate is held, and what its transaction has of the collection then.
use Rattle.std.specs.Prelude.{◌≡◌, ◌⊎◌, ℕ, ◌+◌, ◌<◌, true, false, List, [], ◌∷◌, Option, Some, None, Contains}
use Rattle.tx_sets.specs.Entries.{lookup}
use Rattle.tx_machine.specs.Actor.{Call, Open as AtRest}
use Rattle.tx_machine.specs.Opacity.{first_read}
use Rattle.seq_model.specs.declared.call.Op.{Op}
use Rattle.conflict.specs.declared.outcome.Outcome.{Outcome}
use Rattle.tx_machine.specs.Boosted.{Accept, Shadow as Part}
use Rattle.replay_log.specs.declared.base.Base.{Base}
use Rattle.replay_log.specs.Base.{Shown, editions_of, shown_of}
use Rattle.replay_log.specs.Contents.{CallWithOutcome, CollectionCall, Block, HaveStripes, block_of, content, first_of, shifted, size}
use Rattle.replay_log.specs.Guards.{Allows}
use Rattle.replay_log.specs.Parts.{kind_of, part}
use Rattle.replay_log.specs.Pieces.{Piece}
use Rattle.replay_log.specs.Touches.{summed_by}
use Rattle.replay_log.specs.declared.touch.Touch.{Touch}
use Rattle.std.specs.Prelude.{Bool, slice_index, if◌then◌else◌}
use Rattle.actor_parts.specs.declared.copies.PrivateCopy.{PrivateCopy}
use Rattle.actor_parts.specs.declared.copies.PrivateCopy.TheVariants.{Keys, Whole}
use Rattle.actor_parts.specs.declared.copies.BaseExcerpt.{BaseExcerpt}
use Rattle.actor_parts.specs.declared.copies.BaseExcerpt.TheVariants as found
use Rattle.actor_parts.specs.PrivateCopy.{IsForgotten, IsFound, IsKept, IsLearnt, answer_of, edition_at, has_piece, holds_call, holds_of}
use Rattle.actor_parts.specs.First.{IsFirst}
use Rattle.actor_parts.specs.Footprints.{base_in, reads_in, with_known, writes_in}
use Rattle.actor_parts.specs.CopyInWorld.{IsOwnCopy}
use Rattle.actor_parts.specs.LoadInWorld.{AreRead, IsDoomed}
use Rattle.actor_parts.specs.Owns.{IsOwn}
use Rattle.actor_parts.specs.declared.judged.Judged.TheVariants.{All, Next}
use Rattle.actor_parts.specs.Judged.{judged, left_after}
use Rattle.actor_parts.specs.Shows.{put_back}
use Rattle.seq_model.specs.declared.event.Event.{Event}
use Rattle.seq_model.specs.declared.held.Held.{Held}
use Rattle.actor_laws.specs.Bases.{IsBaseOf, ShowsBase}
use Rattle.tx_machine.specs.Notices as notice
use Rattle.replay_log.specs.Collections.{Suit}
use Rattle.replay_log.specs.Worlds.{Beginning, Copying, World, acted, actor_of, has_room, is_known, may_ask, moves, opened, outcome_at, run}
use Rattle.replay_log.specs.Worlds.{sized_by}
use Rattle.replay_log.specs.Worlds.{with_editions, word_notice}

module _ {V : Type 0} where
  -- each location that a call on a held key reads has been read, with whatever edition first, and each location whose edition is known was
  -- read with that edition first
  abbrev pub IsReadBy : (ℕ → Option ℕ) → (f : ℕ) → PrivateCopy V → Type 0
  IsReadBy read f (Keys m es) =
      ((o : Outcome V) → holds_call (Keys m es) o.op ≡ true → (i : ℕ) → Contains (reads_in (Keys m es) o) i
      → (e : ℕ) × (read (f + i) ≡ Some e))
      × ((i e : ℕ) → edition_at (Keys m es) i ≡ Some e → read (f + i) ≡ Some e)
  IsReadBy read f (Whole s) = Unit {0}

  -- what there is of a collection in n stripes, once this was found of it
  abbrev pub IsTaken : ℕ → BaseExcerpt V → Option (PrivateCopy V) → PrivateCopy V → Type 0
  IsTaken n x None d = IsFirst n x d
  IsTaken n (found.Keys t) (Some c) d = IsLearnt t c d
  IsTaken n (found.Whole copy) (Some c) d = d ≡ c

  -- what an actor has copied, once these locations are copied as they are now
  abbrev pub taken_from : (taken : ℕ → Bool) → (now : ℕ → Shown V) → (editions : ℕ → ℕ) → Part (Shown V) (CallWithOutcome V)
      → Part (Shown V) (CallWithOutcome V)
  taken_from taken now editions x =
      record x {
        copied = λ l. if taken l then true else x.copied l;
        parts = λ l. if taken l then now l else x.parts l;
        editions = λ l. if taken l then editions l else x.editions l;
      }

  -- the same of what actor a has of collection k; where it has nothing, nothing was read there
  abbrev pub IsReadOf : World V → (a k : ℕ) → Option (PrivateCopy V) → Type 0
  IsReadOf w a k (Some c) = IsReadBy (first_read (actor_of w a).calls) (first_of w.words w.blocks k) c
  IsReadOf w a k None =
      (b : Block) → block_of w.blocks k ≡ Some b → (i : ℕ) → i < size b
      → first_read (actor_of w a).calls (first_of w.words w.blocks k + i) ≡ None

-- The base that is found shows what there is now from location f on; what was read there with an edition was copied with it, and is the
-- same now where that edition stands.
pub record IsFoundAt {V : Type 0} (b : Block) (f : ℕ) (x : Part (Shown V) (CallWithOutcome V)) (base : Base V) (now : ℕ → Shown V)
    (editions : ℕ → ℕ) (read : ℕ → Option ℕ) : Type 0 where
  pub shows : (i : ℕ) → i < size b → now (f + i) ≡ part b.stripes i (shown_of base)
  pub dated : (i : ℕ) → i < size b → editions (f + i) ≡ slice_index (editions_of base) i
  pub sound : (i e : ℕ) → i < size b → read (f + i) ≡ Some e → (x.copied (f + i) ≡ true) × (x.editions (f + i) ≡ e)
  pub same : (i e : ℕ) → i < size b → read (f + i) ≡ Some e → editions (f + i) ≡ e → x.parts (f + i) ≡ now (f + i)

-- These are copied: of a block what is covered and was not read.
pub record AreTaken (b : Block) (f : ℕ) (read : ℕ → Option ℕ) (which taken : ℕ → Bool) : Type 0 where
  pub takes : (i : ℕ) → i < size b → which (f + i) ≡ true → read (f + i) ≡ None → taken (f + i) ≡ true
  pub leaves : (i e : ℕ) → i < size b → read (f + i) ≡ Some e → taken (f + i) ≡ false
  pub covers : (i : ℕ) → i < size b → which (f + i) ≡ false → taken (f + i) ≡ false

-- What actor a has of the collection that it asked a call of, which is in block b, once it is copied and the gate put back: d is its own
-- copy, or one of the locations that the call reads was read with another edition. It holds the call, which is judged with the editions of
-- the base, and its locations fit the sets where those of the definitions' outcome do. Once these have been read, with further calls, so
-- has all that it has of single keys.
pub record IsCopyFor {V : Type 0} (w : World V) (a : ℕ) (b : Block) (asked : CollectionCall V) (d : PrivateCopy V) : Type 0 where
  pub own : let u = put_back a w asked in
      let f = first_of w.words w.blocks asked.collection in
      IsOwnCopy u a asked.collection b f d
      ⊎ ((o : Outcome V) → answer_of d asked.op ≡ Some o → IsDoomed (actor_of u a).calls (with_known d f (reads_in d o)))
  pub editions : let u = put_back a w asked in
      let f = first_of w.words w.blocks asked.collection in
      (o : Outcome V) → answer_of d asked.op ≡ Some o →
      with_editions w.boosted.editions ((content w.words w.blocks).reads (outcome_at u a asked)) ≡ with_known d f (reads_in d o)
  pub holds : holds_call d asked.op ≡ true
  pub room : let u = put_back a w asked in
      let f = first_of w.words w.blocks asked.collection in
      let c = content w.words w.blocks in
      let sized = sized_by u a asked (outcome_at u a asked) in
      (o : Outcome V) → answer_of d asked.op ≡ Some o →
      has_room (actor_of w a) (c.reads sized) (c.writes sized)
      ≡ has_room (actor_of w a) (shifted f (reads_in d o)) (shifted f (writes_in d o))
  pub read : let f = first_of w.words w.blocks asked.collection in
      (cs : List Call) (o : Outcome V) → ((l e : ℕ) → first_read (actor_of w a).calls l ≡ Some e → first_read cs l ≡ Some e)
      → answer_of d asked.op ≡ Some o → AreRead cs (with_known d f (reads_in d o)) → IsReadBy (first_read cs) f d

-- So it is in every world that events have reached in which what the actor had was its own, and was read.
abbrev pub CopiesFor : Type 0 → Type 0
CopiesFor V =
    (blocks : List Block) (clock : ℕ) (values : List ℕ) (held : List (Held V)) (events : List (Event V)) (a : ℕ) (b : Block)
    (asked : CollectionCall V) (base : Base V) (x : BaseExcerpt V) (c : Option (PrivateCopy V)) (d : PrivateCopy V) → HaveStripes blocks →
    let w = run (opened blocks clock values held) events in
    (w.seats a).stage ≡ Copying asked → block_of w.blocks asked.collection ≡ Some b → IsBaseOf b base
    → ShowsBase w.words w.blocks w asked.collection base → IsOwn w a asked.collection c → IsReadOf w a asked.collection c
    → holds_of c asked.op ≡ false → IsFound base asked.op x → IsTaken b.stripes x c d → IsCopyFor w a b asked d

-- What a call results in once it is copied and its gate put back, where its locations fit the sets: where all have been read with the
-- editions of the base it may be accepted, and the one that is to be read next is not written. Those that are passed have been read, and
-- one that was read with another edition is left.
pub record CopiesGoOn {V : Type 0} (w : World V) (a : ℕ) (asked : CollectionCall V) : Type 0 where
  pub rests : (actor_of w a).place ≡ AtRest
  pub known : is_known (block_of w.blocks asked.collection) asked.op ≡ true
  pub may : may_ask (actor_of w a) asked.op ≡ true
  pub accepts : let u = put_back a w asked in
      let c = content w.words w.blocks in
      let o = outcome_at u a asked in
      let es = with_editions w.boosted.editions (c.reads o) in
      has_room (actor_of w a) (c.reads o) (c.writes o) ≡ true → judged (actor_of u a).reads es ≡ All →
      Allows (content u.words u.blocks) u.boosted (Accept a asked) × AreRead (actor_of u a).calls es
  pub reads : let u = put_back a w asked in
      let c = content w.words w.blocks in
      let o = outcome_at u a asked in
      let es = with_editions w.boosted.editions (c.reads o) in
      (l : ℕ) → has_room (actor_of w a) (c.reads o) (c.writes o) ≡ true → judged (actor_of u a).reads es ≡ Next l →
      lookup (actor_of u a).writes l ≡ None
  pub keeps : let u = put_back a w asked in
      let es = with_editions w.boosted.editions ((content w.words w.blocks).reads (outcome_at u a asked)) in
      IsDoomed (actor_of u a).calls es → IsDoomed (actor_of u a).calls (left_after (actor_of u a).reads es)
  pub passed : let u = put_back a w asked in
      let es = with_editions w.boosted.editions ((content w.words w.blocks).reads (outcome_at u a asked)) in
      (cs : List Call) → ((l e : ℕ) → first_read (actor_of u a).calls l ≡ Some e → first_read cs l ≡ Some e)
      → AreRead cs (left_after (actor_of u a).reads es) → AreRead cs es

-- So it is in every world that events have reached.
abbrev pub CopiesReached : Type 0 → Type 0
CopiesReached V =
    (blocks : List Block) (clock : ℕ) (values : List ℕ) (held : List (Held V)) (events : List (Event V)) (a : ℕ) (asked : CollectionCall V)
    → HaveStripes blocks →
    let w = run (opened blocks clock values held) events in
    (w.seats a).stage ≡ Copying asked → CopiesGoOn w a asked

-- What a memo learnt of a collection s for a call, and then forgets, leaves the pieces that it had; between the two it may have been made
-- ready.
abbrev pub ForgetsPieces : Type 0 → Type 0
ForgetsPieces V =
    (n : ℕ) (op : Op V) (s : Shown V) (t : Touch V) (c d e g : PrivateCopy V) (q : Piece) → summed_by n op s ≡ Some t.held
    → kind_of (shown_of (base_in c)) ≡ kind_of s → holds_call c op ≡ false → IsLearnt t c d → IsKept d e → IsForgotten op e g
    → has_piece g q ≡ has_piece c q

-- A transaction that begins has nothing of any collection, in each world that events have reached, and has read nothing there.
abbrev pub BeginsWithNothing : Type 0 → Type 0
BeginsWithNothing V =
    (blocks : List Block) (clock : ℕ) (values : List ℕ) (held : List (Held V)) (events : List (Event V)) (a rv : ℕ)
    → HaveStripes blocks → Suit blocks held →
    let w = run (opened blocks clock values held) events in
    let u = acted w (moves a ∷ []) in
    (w.seats a).stage ≡ Beginning → word_notice w a ≡ notice.Begun rv → (k : ℕ) → IsOwn u a k None × IsReadOf u a k None

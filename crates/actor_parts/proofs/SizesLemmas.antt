-- A call whose collection is copied fits the sets where its outcome on the base alone does. Of a collection that is copied whole nothing
-- was there before, and the copy is the base. Of single keys some copy that has learnt what the call touches is written down here, and the
-- lemmas on what is copied for a call say the rest: a change is answered by what the copy has learnt, which is the base's, and what changes
-- nothing writes nothing, whatever its outcome.
use Rattle.std.proofs.Common.{◌≡◌, ℕ, Bool, true, false, true≢false, [], Option, Some, None, refl, sym, ap, subst, ◌∙◌}
use Rattle.std.specs.Prelude.{is_some}
use Rattle.std.specs.FinMap.{FinMap, empty, get-empty}
use Rattle.std.specs.Ordering.{nat_cmp}
use Rattle.std.proofs.lemmas.Option.{none-some, same_Some}
use Rattle.seq_model.specs.Entries.{inserts}
use Rattle.seq_model.specs.Counts.{Multiset}
use Rattle.seq_model.specs.declared.call.Op.{Op}
use Rattle.seq_model.specs.declared.call.Op.TheVariants.{Get, Put, Remove, Len, Count, Add, Take}
use Rattle.conflict.specs.RoomMap.{Room}
use Rattle.conflict.specs.declared.outcome.Outcome.{Outcome}
use Rattle.tx_machine.specs.Boosted.{PutGate}
use Rattle.replay_log.specs.declared.base.Base.{Base}
use Rattle.replay_log.specs.declared.touch.Touch.{Touch}
use Rattle.replay_log.specs.declared.touch.TouchedKey.{TouchedKey}
use Rattle.replay_log.specs.Base.{Shown, OfMap, OfBag, OfPq, OfQueue, editions_of, outcome_of, shown_of, stripes_of}
use Rattle.replay_log.specs.Contents.{CollectionCall, Block, block_of, content}
use Rattle.replay_log.specs.Guards.{Allows, IsAllowed, step_action}
use Rattle.replay_log.specs.Parts.{MapKind, BagKind, PqKind, QueueKind, kind_of}
use Rattle.replay_log.specs.Pieces.{covers_at}
use Rattle.replay_log.specs.Touches.{editions_at, summed_by, touched_locations}
use Rattle.replay_log.specs.Worlds.{Copying, Stage, World, opened, run}
use Rattle.replay_log.proofs.EventLemmas.{opened_linked, run_linked}
use Rattle.replay_log.proofs.GuardLemmas.{world_allows}
use Rattle.replay_log.proofs.SeatLemmas.{Linked}
use Rattle.actor_laws.specs.Bases.{IsBaseOf, ShowsBase, log_changes, log_locations}
use Rattle.shadow.specs.Memo.{IsCopyBy, MemoView, holds_with, with_count, with_entry, with_total}
use Rattle.shadow.specs.Shadow.{ShadowView}
use Rattle.shadow.proofs.CopyLemmas.{new_copy_bag, new_copy_map}
use Rattle.actor_parts.specs.declared.copies.PrivateCopy.{PrivateCopy}
use Rattle.actor_parts.specs.declared.copies.PrivateCopy.TheVariants.{Keys, Whole}
use Rattle.actor_parts.specs.declared.copies.BaseExcerpt.TheVariants as found
use Rattle.actor_parts.specs.CopyAtGate.{IsReadBy, IsReadOf}
use Rattle.actor_parts.specs.PrivateCopy.{IsFound, IsOf, holds_of, is_copied_whole}
use Rattle.actor_parts.specs.CopyInWorld.{IsOwnCopy}
use Rattle.actor_parts.specs.Owns.{IsOwn, IsUncalled}
use Rattle.actor_parts.specs.Sizes.{SizesAs, SizesCopies}
use Rattle.actor_parts.proofs.CopyAtGateLemmas.{blank_editions, blank_knows}
use Rattle.actor_parts.proofs.AfterGateLemmas.{base_room, copies_for, f, no_memo, read}

abbrev no_editions : Room ℕ
no_editions = record { contents = empty; room = 0 }

module _ {V : Type 0} where
  -- ---- a memo with no key, whatever its blank collection shows
  none_held : (s : Shown V) (op : Op V) → holds_with s empty empty None op ≡ false
  none_held (OfMap m) (Get k) = ap is_some (get-empty nat_cmp k)
  none_held (OfMap m) (Put k v) = ap is_some (get-empty nat_cmp k)
  none_held (OfMap m) (Remove k) = ap is_some (get-empty nat_cmp k)
  none_held (OfMap m) Len = refl
  none_held (OfMap m) _ = refl
  none_held (OfBag m) (Count i) = ap is_some (get-empty nat_cmp i)
  none_held (OfBag m) (Add i) = ap is_some (get-empty nat_cmp i)
  none_held (OfBag m) (Take i) = ap is_some (get-empty nat_cmp i)
  none_held (OfBag m) _ = refl
  none_held (OfPq m) op = refl
  none_held (OfQueue m) op = refl

  map_blank : (m l : FinMap nat_cmp V) → IsCopyBy {V = V} (OfMap m) empty empty None 0 0 [] (OfMap l)
  map_blank m l (OfMap t) alike =
      new_copy_map l (OfMap t) (refl, λ op held. absurd (true≢false (sym held ∙ none_held (OfMap empty) op)))
  map_blank m l (OfBag t) alike = absurd (let z : BagKind ≡ MapKind = alike.0 in let y : ⊥ = cc in y)
  map_blank m l (OfPq t) alike = absurd (let z : PqKind ≡ MapKind = alike.0 in let y : ⊥ = cc in y)
  map_blank m l (OfQueue t) alike = absurd (let z : QueueKind ≡ MapKind = alike.0 in let y : ⊥ = cc in y)

  bag_blank : (m l : Multiset) → IsCopyBy {V = V} (OfBag m) empty empty None 0 0 [] (OfBag l)
  bag_blank m l (OfBag t) alike =
      new_copy_bag l (OfBag t) (refl, λ op held. absurd (true≢false (sym held ∙ none_held (OfBag empty) op)))
  bag_blank m l (OfMap t) alike = absurd (let z : MapKind ≡ BagKind = alike.0 in let y : ⊥ = cc in y)
  bag_blank m l (OfPq t) alike = absurd (let z : PqKind ≡ BagKind = alike.0 in let y : ⊥ = cc in y)
  bag_blank m l (OfQueue t) alike = absurd (let z : QueueKind ≡ BagKind = alike.0 in let y : ⊥ = cc in y)

  keys_blank : (s u : Shown V) → is_copied_whole (kind_of s) ≡ false → kind_of u ≡ kind_of s → IsCopyBy s empty empty None 0 0 [] u
  keys_blank (OfMap m) (OfMap l) keys same = map_blank m l
  keys_blank (OfBag m) (OfBag l) keys same = bag_blank m l
  keys_blank (OfPq m) u keys same = absurd (true≢false keys)
  keys_blank (OfQueue m) u keys same = absurd (true≢false keys)
  keys_blank s u keys same = absurd (let z : ⊥ = cc in z)

  -- ---- what a call touches
  map_touches : (n : ℕ) (op : Op V) (m : FinMap nat_cmp V) (o : Outcome V) → outcome_of op (OfMap m) ≡ Some o
      → (h : TouchedKey V) × (summed_by n op (OfMap m) ≡ Some h)
  map_touches n (Get k) m o e = (_, refl)
  map_touches n (Put k v) m o e = (_, refl)
  map_touches n (Remove k) m o e = (_, refl)
  map_touches n Len m o e = (_, refl)
  map_touches n _ m o e = absurd (none-some o e)

  bag_touches : (n : ℕ) (op : Op V) (m : Multiset) (o : Outcome V) → outcome_of op (OfBag m) ≡ Some o
      → (h : TouchedKey V) × (summed_by n op (OfBag m) ≡ Some h)
  bag_touches n (Count i) m o e = (_, refl)
  bag_touches n (Add i) m o e = (_, refl)
  bag_touches n (Take i) m o e = (_, refl)
  bag_touches n _ m o e = absurd (none-some o e)

  touches : (n : ℕ) (op : Op V) (s : Shown V) (o : Outcome V) → is_copied_whole (kind_of s) ≡ false → outcome_of op s ≡ Some o
      → (h : TouchedKey V) × (summed_by n op s ≡ Some h)
  touches n op (OfMap m) o keys e = map_touches n op m o e
  touches n op (OfBag m) o keys e = bag_touches n op m o e
  touches n op (OfPq m) o keys e = absurd (true≢false keys)
  touches n op (OfQueue m) o keys e = absurd (true≢false keys)

  -- a memo that has learnt it
  abbrev with_touch : Touch V → MemoView V → Room ℕ → PrivateCopy V
  with_touch t m es =
      Keys
      (record m { entries = with_entry t.held m.entries; copies = with_count t.held m.copies; total = with_total t.held m.total })
      (record es { contents = inserts es.contents t.editions })

  abbrev blank_memo : Base V → MemoView V
  blank_memo base = record {
    blank = base;
    entries = empty;
    copies = empty;
    total = None;
    grown = 0;
    shrunk = 0;
    changes = [];
    locations = [];
    ready = None;
  }

module _ {V : Type 0} (w : World V) (a : ℕ) (b : Block) (asked : CollectionCall V) (base : Base V) (k : Linked w)
    (st : (w.seats a).stage ≡ Copying asked) (block : block_of w.blocks asked.collection ≡ Some b) (of : IsBaseOf b base)
    (shows : ShowsBase w.words w.blocks w asked.collection base)
    (guard : Allows (content w.words w.blocks) w.boosted (PutGate a asked.collection (covers_at w.words w.blocks asked)))
    (o : Outcome V) (is_o : outcome_of asked.op (shown_of base) ≡ Some o) where
  -- ---- the whole
  module _ (kind : is_copied_whole (kind_of (shown_of base)) ≡ true) where
    whole_none : IsOwn w a asked.collection None → IsReadOf w a asked.collection None → SizesAs w a asked base o
    whole_none own was_read =
        let t : ShadowView V = record { base = base; changes = []; locations = []; ready = None } in
        (copies_for w a b asked base k st block of shows guard (found.Whole t) None (Whole t) own was_read refl
        (refl, refl, refl, kind) (refl, refl, refl)).room o is_o

    whole_keys : (m : MemoView V) (es : Room ℕ) → IsOwn w a asked.collection (Some (Keys m es)) → SizesAs w a asked base o
    whole_keys m es own =
        let same : own.0 ≡ b = same_Some own.0 b (sym own.1.block ∙ block) in
        let is = own.1.copied.0.2 in
        absurd (no_memo (shown_of m.blank) own.1.copied.0.0 m.entries m.copies m.total m.grown m.shrunk m.changes is.4
        (ap is_copied_whole (is.0 ∙ (ap (λ (c : Block). c.kind) same ∙ sym of.kind)) ∙ kind))

  -- ---- single keys
  module _ (kind : is_copied_whole (kind_of (shown_of base)) ≡ false) where
    abbrev there : (h : TouchedKey V) × (summed_by (stripes_of base) asked.op (shown_of base) ≡ Some h)
    there = touches (stripes_of base) asked.op (shown_of base) o kind is_o

    abbrev t : Touch V
    t = record { held = there.0; editions = editions_at (touched_locations (stripes_of base) there.0) (editions_of base) }

    here : IsFound base asked.op (found.Keys t)
    here = (there.1, refl)

    keys_none : IsUncalled b (f w a b asked base k st block of shows guard) asked.collection (w.boosted.shadows a)
        → SizesAs w a asked base o
    keys_none none =
        let s = none.0.0 in
        let m = blank_memo base in
        let same : kind_of s ≡ kind_of (shown_of base) = none.0.1.0 ∙ sym of.kind in
        let is : IsOf b s [] [] (Keys m no_editions) =
        (of.kind, of.stripes, refl, refl, keys_blank (shown_of base) s kind same) in
        let no : (p : Outcome V) → holds_with (shown_of base) empty empty None p.op ≡ true → ⊥ =
        λ p held. true≢false (sym held ∙ none_held (shown_of base) p.op) in
        base_room w a b asked base k st block of shows guard t here m no_editions s none.0.1 [] [] is none.1 none.2
        (λ p held i c. absurd (no p held), λ i e at. absurd (blank_knows m no_editions i e refl at))
        (blank_editions b (f w a b asked base k st block of shows guard) (w.boosted.shadows a) m no_editions refl)
        (λ p held. absurd (no p held)) (with_touch t m no_editions)
        (refl, refl, refl, refl, refl, refl, refl, refl, refl) (none_held (shown_of base) asked.op) o is_o

    keys_some : (m : MemoView V) (es : Room ℕ)
        → IsOwnCopy w a asked.collection b (f w a b asked base k st block of shows guard) (Keys m es)
        → IsReadBy (read w a b asked base k st block of shows guard) (f w a b asked base k st block of shows guard) (Keys m es)
        → holds_of (Some (Keys m es)) asked.op ≡ false → SizesAs w a asked base o
    keys_some m es is was_read unheld =
        let outcomes = (w.boosted.shadows a).outcomes in
        base_room w a b asked base k st block of shows guard t here m es is.copied.0.0 is.copied.0.1
        (log_changes asked.collection b outcomes) (log_locations asked.collection b outcomes) is.copied.0.2 refl refl was_read
        is.copied.1 is.knows (with_touch t m es) (refl, refl, refl, refl, refl, refl, refl, refl, refl) unheld o is_o

  sizes : (c : Option (PrivateCopy V)) → IsOwn w a asked.collection c → IsReadOf w a asked.collection c → holds_of c asked.op ≡ false
      → SizesAs w a asked base o
  sizes c own was_read unheld = by (is_copied_whole (kind_of (shown_of base))) refl c own was_read unheld
    where
      by : (q : Bool) → is_copied_whole (kind_of (shown_of base)) ≡ q → (c : Option (PrivateCopy V)) → IsOwn w a asked.collection c
          → IsReadOf w a asked.collection c → holds_of c asked.op ≡ false → SizesAs w a asked base o
      by q kind (Some (Whole s)) own was_read unheld = absurd (true≢false unheld)
      by true kind None own was_read unheld = whole_none kind own was_read
      by true kind (Some (Keys m es)) own was_read unheld = whole_keys kind m es own
      by false kind None own was_read unheld = keys_none kind (own b block)
      by false kind (Some (Keys m es)) own was_read unheld =
          let same : own.0 ≡ b = same_Some own.0 b (sym own.1.block ∙ block) in
          let at = f w a b asked base k st block of shows guard in
          keys_some kind m es (subst (λ (e : Block). IsOwnCopy w a asked.collection e at (Keys m es)) same own.1) was_read unheld

module _ {V : Type 0} where
  pub sizes_as_reached : SizesCopies V
  sizes_as_reached blocks clock values held events a b asked base c o stripes st block of shows own was_read unheld is_o =
      let first : World V = opened blocks clock values held in
      let w = run first events in
      let k = run_linked events first (opened_linked blocks clock values held stripes) in
      let allowed = world_allows blocks clock values held events a stripes in
      let guard : Allows (content w.words w.blocks) w.boosted (PutGate a asked.collection (covers_at w.words w.blocks asked)) =
      subst (λ (s : Stage V). IsAllowed w s (step_action w a s)) st allowed in
      sizes w a b asked base k st block of shows guard o is_o c own was_read unheld

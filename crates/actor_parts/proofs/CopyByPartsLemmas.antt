-- What is copied for a call. A collection is the whole of its parts, and what a call answers depends on the parts that it reads; so where
-- those are the same, what is held is answered alike, and what is touched is the same. Parts taken from two collections of one kind are
-- the parts of a third.
use Rattle.std.proofs.Common.{◌≡◌, ℕ, ◌+◌, ◌<◌, ◌&&◌, Bool, true, false, cond, [], ◌∷◌, Option, Some, None, Contains, not, refl, sym, ap}
use Rattle.std.proofs.Common.{subst, ◌∙◌, true≢false}
use Rattle.std.specs.FinMap.{FinMap, get}
use Rattle.std.specs.Ordering.{nat_cmp}
use Rattle.std.proofs.lemmas.Option.{same_Some}
use Rattle.seq_model.specs.declared.call.Op.{Op}
use Rattle.seq_model.specs.declared.call.Op.TheVariants.{Get, Put, Remove, Len, Count, Add, Take}
use Rattle.seq_model.specs.Counts.{Multiset, copies}
use Rattle.conflict.specs.declared.outcome.Outcome.{Outcome}
use Rattle.conflict.specs.Footprints.{key_location}
use Rattle.conflict.specs.Places.{in_range}
use Rattle.base_map.specs.Conflicts as map
use Rattle.base_bag.specs.Conflicts as bag
use Rattle.base_pq.specs.Conflicts as pq
use Rattle.base_queue.specs.Conflicts as queue
use Rattle.tx_machine.proofs.Sets.{put-same}
use Rattle.tx_machine.specs.Boosted.{Boosted, copied}
use Rattle.replay_log.specs.declared.touch.TouchedKey.{TouchedKey}
use Rattle.replay_log.specs.declared.touch.TouchedKey.TheVariants.{Entry, Copies}
use Rattle.replay_log.specs.Base.{Shown, OfMap, OfBag, OfPq, OfQueue, after, outcome_of, reads_of, shown_of}
use Rattle.replay_log.specs.Contents.{Block, content, size}
use Rattle.replay_log.specs.Parts.{Kind, MapKind, BagKind, PqKind, QueueKind, kind_of, part, whole}
use Rattle.replay_log.specs.Pieces.{covers_at}
use Rattle.replay_log.specs.Touches.{summed_by, touched_locations}
use Rattle.replay_log.specs.Worlds.{actor_of}
use Rattle.replay_log.proofs.PartLemmas.{answers_by_parts, is_whole, knows_its_calls, parts_by_part, whole_local}
use Rattle.shadow.specs.Memo.{IsAlike, MemoView, holds}
use Rattle.shadow.proofs.CopyLemmas.{number_same, value_same}
use Rattle.actor_parts.specs.Accepts.{PutsBack}
use Rattle.actor_parts.specs.PrivateCopy.{ShowParts}
use Rattle.actor_parts.proofs.AcceptsLemmas.{made}

both : (p q : Bool) → p ≡ true → q ≡ false → (p && not q) ≡ true
both true false e f = refl
both false q e f = absurd (true≢false (sym e))
both true true e f = absurd (true≢false f)

module _ {V : Type 0} where
  pub after_none : (s : Shown V) → after [] s ≡ s
  after_none (OfMap m) = refl
  after_none (OfBag m) = refl
  after_none (OfPq m) = refl
  after_none (OfQueue m) = refl

  pub kind_whole : (n : ℕ) (k : Kind) (v : ℕ → Shown V) → kind_of (whole n k v) ≡ k
  kind_whole n MapKind v = refl
  kind_whole n BagKind v = refl
  kind_whole n PqKind v = refl
  kind_whole n QueueKind v = refl

  -- a collection is the whole of its parts
  pub of_parts : (n : ℕ) (k : Kind) (s : Shown V) → 0 < n → kind_of s ≡ k → whole n k (λ i. part n i s) ≡ s
  of_parts n k s pos is = (λ j. whole n (sym is j) (λ i. part n i s)) ∙ is_whole n s pos

  -- a call answers alike where it reads the same parts
  same_answer : (n : ℕ) (s t : Shown V) (op : Op V) → 0 < n → kind_of t ≡ kind_of s
      → ((o : Outcome V) → outcome_of op s ≡ Some o → (i : ℕ) → Contains (reads_of n o s) i → part n i s ≡ part n i t)
      → outcome_of op t ≡ outcome_of op s
  same_answer n s t op pos kind same = at (outcome_of op s) refl
    where
      all_s : whole n (kind_of s) (λ i. part n i s) ≡ s
      all_s = is_whole n s pos

      all_t : whole n (kind_of s) (λ i. part n i t) ≡ t
      all_t = of_parts n (kind_of s) t pos kind

      at : (r : Option (Outcome V)) → outcome_of op s ≡ r → outcome_of op t ≡ r
      at None e =
          ap (outcome_of op) (sym all_t)
          ∙ knows_its_calls n (kind_of s) op (λ i. part n i s) (λ i. part n i t) (ap (outcome_of op) all_s ∙ e)
      at (Some o) e =
          ap (outcome_of op) (sym all_t)
          ∙ answers_by_parts n (kind_of s) op (λ i. part n i s) (λ i. part n i t) o pos (ap (outcome_of op) all_s ∙ e)
          (λ i c. same o e i (subst (λ z. Contains (reads_of n o z) i) all_s c))

  pub alike_by_parts : (n : ℕ) (s t : Shown V) (m : MemoView V) → 0 < n → kind_of t ≡ kind_of s
      → ((op : Op V) (o : Outcome V) → holds m op ≡ true → outcome_of op s ≡ Some o → (i : ℕ) → Contains (reads_of n o s) i
      → part n i s ≡ part n i t)
      → IsAlike (shown_of m.blank) m.entries m.copies m.total s t
  alike_by_parts n s t m pos kind same = (kind, λ op held. same_answer n s t op pos kind (λ o e. same op o held e))

  -- ---- parts of two collections
  part_of : (n : ℕ) (k : Kind) (v : ℕ → Shown V) (t : Shown V) (i : ℕ) → 0 < n → kind_of t ≡ k → v i ≡ part n i t
      → part n i (whole n k v) ≡ part n i t
  part_of n k v t i pos kind e =
      ap (part n i) (sym (after_none (whole n k v)))
      ∙ parts_by_part n i k [] v (λ j. part n j t) pos e
      ∙ ap (part n i) (after_none (whole n k (λ j. part n j t)) ∙ of_parts n k t pos kind)

  pub mixed_parts : (b : Block) (f : ℕ) (parts now : ℕ → Shown V) (s t : Shown V) (taken : ℕ → Bool) → 0 < b.stripes
      → ShowParts b f parts s → ShowParts b f now t → (u : Shown V) × ShowParts b f (λ l. cond (taken l) (now l) (parts l)) u
  mixed_parts b f parts now s t taken pos shows new = (whole b.stripes b.kind v, (kind_whole b.stripes b.kind v, each))
    where
      v : ℕ → Shown V
      v i = cond (taken (f + i)) (part b.stripes i t) (part b.stripes i s)

      at : (i : ℕ) → i < size b → (q : Bool) → taken (f + i) ≡ q
          → cond q (now (f + i)) (parts (f + i)) ≡ part b.stripes i (whole b.stripes b.kind v)
      at i lt true e =
          new.1 i lt
          ∙ sym (part_of b.stripes b.kind v t i pos new.0 (ap (λ q. cond q (part b.stripes i t) (part b.stripes i s)) e))
      at i lt false e =
          shows.1 i lt
          ∙ sym (part_of b.stripes b.kind v s i pos shows.0 (ap (λ q. cond q (part b.stripes i t) (part b.stripes i s)) e))

      each : (i : ℕ) → i < size b → cond (taken (f + i)) (now (f + i)) (parts (f + i)) ≡ part b.stripes i (whole b.stripes b.kind v)
      each i lt = at i lt (taken (f + i)) refl

  -- ---- what is touched
  module _ (n : ℕ) (pos : 0 < n) where
    get_same : (m l : FinMap nat_cmp V) (k : ℕ)
        → ((i : ℕ) → Contains (key_location n k ∷ []) i → part n i (OfMap l) ≡ part n i (OfMap m)) → get m k ≡ get l k
    get_same m l k same =
        let e = same_answer n (OfMap l) (OfMap m) (Get k) pos refl
        (λ o is i c. same i (subst (λ (z : Outcome V). Contains (map.reads_of n z) i) (sym (same_Some _ o is)) c)) in
        value_same _ _ (ap (λ (o : Outcome V). o.reply) (same_Some _ _ e))

    copies_same : (m l : Multiset) (x : ℕ)
        → ((i : ℕ) → Contains (key_location n x ∷ []) i → part {V = V} n i (OfBag l) ≡ part n i (OfBag m)) → copies m x ≡ copies l x
    copies_same m l x same =
        let e = same_answer n (OfBag l) (OfBag m) (Count x) pos refl
        (λ o is i c. same i (subst (λ (z : Outcome V). Contains (bag.reads_of n z) i) (sym (same_Some _ o is)) c)) in
        number_same {V = V} _ _ (ap (λ (o : Outcome V). o.reply) (same_Some _ _ e))

    abbrev Same : Op V → Shown V → Shown V → Type 0
    Same op s t = (h : TouchedKey V) → summed_by n op t ≡ Some h → (i : ℕ) → Contains (touched_locations n h) i → part n i t ≡ part n i s

    map_touched : (op : Op V) (m l : FinMap nat_cmp V) → Same op (OfMap m) (OfMap l) → summed_by n op (OfMap m) ≡ summed_by n op (OfMap l)
    map_touched (Get k) m l same = ap (λ o. Some (Entry k o)) (get_same m l k (same _ refl))
    map_touched (Put k v) m l same = ap (λ o. Some (Entry k o)) (get_same m l k (same _ refl))
    map_touched (Remove k) m l same = ap (λ o. Some (Entry k o)) (get_same m l k (same _ refl))
    map_touched Len m l same =
        let all : whole n MapKind (λ i. part n i (OfMap l)) ≡ whole n MapKind (λ i. part n i (OfMap m)) =
        whole_local n MapKind (λ i. part n i (OfMap l)) (λ i. part n i (OfMap m)) pos (λ i lt. same _ refl i (in_range n i lt)) in
        ap (summed_by n Len) (sym (sym (is_whole n (OfMap l) pos) ∙ all ∙ is_whole n (OfMap m) pos))
    map_touched _ m l same = refl

    bag_touched : (op : Op V) (m l : Multiset) → Same op (OfBag m) (OfBag l) → summed_by n op (OfBag m) ≡ summed_by n op (OfBag l)
    bag_touched (Count x) m l same = ap (λ c. Some (Copies x c)) (copies_same m l x (same _ refl))
    bag_touched (Add x) m l same = ap (λ c. Some (Copies x c)) (copies_same m l x (same _ refl))
    bag_touched (Take x) m l same = ap (λ c. Some (Copies x c)) (copies_same m l x (same _ refl))
    bag_touched _ m l same = refl

    pub nothing_pq : (op : Op V) (m : pq.Shown) → summed_by {V = V} n op (OfPq m) ≡ None
    nothing_pq (Get k) m = refl
    nothing_pq _ m = refl

    pub nothing_queue : (op : Op V) (m : queue.Shown) → summed_by {V = V} n op (OfQueue m) ≡ None
    nothing_queue (Get k) m = refl
    nothing_queue _ m = refl

    pub touched_alike : (op : Op V) (s t : Shown V) → kind_of s ≡ kind_of t → Same op s t → summed_by n op s ≡ summed_by n op t
    touched_alike op (OfMap m) (OfMap l) kind same = map_touched op m l same
    touched_alike op (OfBag m) (OfBag l) kind same = bag_touched op m l same
    touched_alike op (OfPq m) (OfPq l) kind same = nothing_pq op m ∙ sym (nothing_pq op l)
    touched_alike op (OfQueue m) (OfQueue l) kind same = nothing_queue op m ∙ sym (nothing_queue op l)
    touched_alike op (OfMap m) (OfBag l) kind same = absurd (let z : MapKind ≡ BagKind = kind in let y : ⊥ = cc in y)
    touched_alike op (OfMap m) (OfPq l) kind same = absurd (let z : MapKind ≡ PqKind = kind in let y : ⊥ = cc in y)
    touched_alike op (OfMap m) (OfQueue l) kind same = absurd (let z : MapKind ≡ QueueKind = kind in let y : ⊥ = cc in y)
    touched_alike op (OfBag m) (OfMap l) kind same = absurd (let z : BagKind ≡ MapKind = kind in let y : ⊥ = cc in y)
    touched_alike op (OfBag m) (OfPq l) kind same = absurd (let z : BagKind ≡ PqKind = kind in let y : ⊥ = cc in y)
    touched_alike op (OfBag m) (OfQueue l) kind same = absurd (let z : BagKind ≡ QueueKind = kind in let y : ⊥ = cc in y)
    touched_alike op (OfPq m) (OfMap l) kind same = absurd (let z : PqKind ≡ MapKind = kind in let y : ⊥ = cc in y)
    touched_alike op (OfPq m) (OfBag l) kind same = absurd (let z : PqKind ≡ BagKind = kind in let y : ⊥ = cc in y)
    touched_alike op (OfPq m) (OfQueue l) kind same = absurd (let z : PqKind ≡ QueueKind = kind in let y : ⊥ = cc in y)
    touched_alike op (OfQueue m) (OfMap l) kind same = absurd (let z : QueueKind ≡ MapKind = kind in let y : ⊥ = cc in y)
    touched_alike op (OfQueue m) (OfBag l) kind same = absurd (let z : QueueKind ≡ BagKind = kind in let y : ⊥ = cc in y)
    touched_alike op (OfQueue m) (OfPq l) kind same = absurd (let z : QueueKind ≡ PqKind = kind in let y : ⊥ = cc in y)

  -- ---- the store of a call's gate
  pub puts_back : PutsBack V
  puts_back a w asked guard open_now =
      let s = w.boosted in
      let c = content w.words w.blocks in
      let k = asked.collection in
      let now = copied c s (actor_of w a).calls (s.shadows a) k (covers_at w.words w.blocks asked) in
      made (λ (z : Boosted _ _). z.shadows a) _ _ s (both _ _ guard.0 guard.1)
      ∙ made (λ (z : ℕ → _). z a) _ _ s.shadows open_now ∙ put-same s.shadows a now

-- What is copied for a call. A memo's keys were read where their locations are, and what has been read is not copied anew, so a memo is of
-- the parts that are there once others are copied too (`moved`); where what was read has the edition still that the base has, the touched
-- key is that of these parts (`touched`), and so is what the memo learns. A base that is copied whole is what all of its parts are.
use Rattle.std.proofs.Common.{◌≡◌, ◌⊎◌, ℕ, zero, suc, ◌+◌, ◌<◌, ◌==◌, Bool, true, false, true≢false, cond, eqb-true, eq-eqb, List, [], ◌∷◌}
use Rattle.std.proofs.Common.{Option, Some, None, inl, inr, Contains, refl, sym, ap, subst, ◌∙◌, arith}
use Rattle.std.specs.Prelude.{is_some, not, slice_index, slice_get, length, unwrap_or}
use Rattle.std.specs.Cmp.{nat_cmp_total}
use Rattle.std.proofs.lemmas.Option.{get_or_from_slice_get, slice_get-get_or, none-some, same_Some}
use Rattle.std.specs.Ordering.{nat_cmp, eq_by_cmp}
use Rattle.std.specs.FinMap.{FinMap, empty, get, get-empty, get-insert, insert}
use Rattle.seq_model.specs.declared.call.Op.{Op}
use Rattle.seq_model.specs.declared.call.Op.TheVariants.{Get, Put, Remove, Len, Count, Add, Take}
use Rattle.seq_model.specs.Entries.{inserts}
use Rattle.conflict.specs.declared.outcome.Outcome.{Outcome}
use Rattle.conflict.specs.Places.{of_none, of_single, in_range, key_itself, same_key}
use Rattle.conflict.specs.Footprints.{all_below, key_location, map_reads, multiset_reads}
use Rattle.conflict.specs.RoomMap.{Room}
use Rattle.tx_machine.specs.Boosted.{Shadow as Part}
use Rattle.tx_machine.specs.Content.{IsIn}
use Rattle.replay_log.specs.declared.base.Base.{Base}
use Rattle.replay_log.specs.declared.touch.Touch.{Touch}
use Rattle.replay_log.specs.declared.touch.TouchedKey.{TouchedKey}
use Rattle.replay_log.specs.declared.touch.TouchedKey.TheVariants.{Copies, Counts, Entry, Total}
use Rattle.replay_log.specs.Worlds.{is_known, is_missing}
use Rattle.replay_log.proofs.PartLemmas.{knows_its_calls}
use Rattle.replay_log.specs.Pieces as pieces
use Rattle.replay_log.specs.Pieces.{covers, is_piece, piece_of}
use Rattle.seq_model.specs.Counts.{Multiset}
use Rattle.replay_log.specs.Base.{Shown, OfMap, OfBag, OfPq, OfQueue, editions_of, outcome_of, reads_of, shown_of, stripes_of}
use Rattle.replay_log.specs.Contents.{CallWithOutcome, Block, blank, size, size_by}
use Rattle.replay_log.specs.Parts.{MapKind, BagKind, kind_of, part, whole}
use Rattle.replay_log.specs.Touches.{editions_at, summed_by, touched_locations}
use Rattle.actor_laws.specs.Bases.{IsBaseOf}
use Rattle.shadow.specs.Shadow.{ShadowView}
use Rattle.shadow.specs.declared.memo.MemoKind.{MemoKind}
use Rattle.shadow.specs.declared.memo.MemoKind.TheVariants as kind
use Rattle.shadow.specs.Memo.{IsAlike, MemoView, has_key, holds, holds_with, shape, with_count, with_entry, with_key, with_total}
use Rattle.actor_parts.specs.declared.copies.PrivateCopy.{PrivateCopy}
use Rattle.actor_parts.specs.declared.copies.PrivateCopy.TheVariants.{Keys, Whole}
use Rattle.actor_parts.specs.CopyAtGate.{AreTaken, IsFoundAt, IsReadBy, taken_from}
use Rattle.actor_parts.specs.PrivateCopy.{HasEditions, IsLearnt, IsOf, ShowParts, edition_at, has_piece, holds_call}
use Rattle.actor_parts.specs.First.{IsBlank}
use Rattle.actor_parts.specs.Footprints.{known_edition, reads_in}
use Rattle.actor_parts.specs.CopyInWorld.{Knows}
use Rattle.actor_parts.proofs.PrivateCopyLemmas.{follows_learnt, follows_moved, follows_pieces}
use Rattle.actor_parts.proofs.CopyByPartsLemmas.{alike_by_parts, mixed_parts, of_parts, touched_alike}
use Rattle.actor_parts.proofs.FootprintLemmas.{reads_by, reads_within}
use Rattle.actor_parts.proofs.CopyInWorldLemmas.{head_in, same_reads, tail_in}
use Rattle.actor_parts.proofs.OutcomeLemmas.{outcome_op}

-- ---- the editions that are learnt
pub in_list : (ls : List ℕ) (i : ℕ) → IsIn i ls → Contains ls i
in_list [] i m = absurd m
in_list (l ∷ ls) i m =
    elim m [ inl e ↦ subst (λ j. Contains (l ∷ ls) j) (sym e) (head_in l ls) | inr there ↦ tail_in l i ls (in_list ls i there) ]

-- what a table has of a location, once it has learnt these
abbrev pub Learnt : List ℕ → (es : List ℕ) → FinMap nat_cmp ℕ → FinMap nat_cmp ℕ → ℕ → Type 0
Learnt ls es m n i =
    (IsIn i ls × (get n i ≡ Some (slice_index es i))) ⊎ ((IsIn i ls → ⊥) × (get n i ≡ get m i))

learns_one : (l : ℕ) (ls es : List ℕ) (m n : FinMap nat_cmp ℕ) (i : ℕ) → Learnt ls es (insert m l (slice_index es l)) n i
    → Learnt (l ∷ ls) es m n i
learns_one l ls es m n i (inl there) = inl (inr there.0, there.1)
learns_one l ls es m n i (inr other) = by (eq_by_cmp nat_cmp i l) refl
  where
    v : ℕ
    v = slice_index es l

    by : (q : Bool) → eq_by_cmp nat_cmp i l ≡ q → Learnt (l ∷ ls) es m n i
    by true e =
        let same : i ≡ l = same_key i l e in
        inl (
          inl same,
          other.1 ∙ get-insert nat_cmp_total m l v i ∙ ap (λ q. cond q (Some v) (get m i)) e
              ∙ ap (λ j. Some (slice_index es j)) (sym same),
        )
    by false e =
        let ne : i ≡ l → ⊥ = λ same. true≢false (sym (key_itself l) ∙ (ap (λ j. eq_by_cmp nat_cmp j l) (sym same) ∙ e)) in
        let out : IsIn i (l ∷ ls) → ⊥ = λ c. elim c [ inl here ↦ ne here | inr more ↦ other.0 more ] in
        inr (out, other.1 ∙ get-insert nat_cmp_total m l v i ∙ ap (λ q. cond q (Some v) (get m i)) e)

pub learns : (ls es : List ℕ) (m : FinMap nat_cmp ℕ) (i : ℕ) → Learnt ls es m (inserts m (editions_at ls es)) i
learns [] es m i = inr ((λ c. c), refl)
learns (l ∷ ls) es m i = learns_one l ls es m _ i (learns ls es (insert m l (slice_index es l)) i)

-- ---- where a memo touches
has_more : {A : Type 0} (known : FinMap nat_cmp A) (k q : ℕ) (a : A) → has_key (with_key known k a) q ≡ true
    → (has_key known q ≡ true) ⊎ (q ≡ k)
has_more {A} known k q a = by (has_key known k)
  where
    at : (r : Bool) → eq_by_cmp nat_cmp q k ≡ r → has_key (insert known k a) q ≡ true → (has_key known q ≡ true) ⊎ (q ≡ k)
    at true e h = inr (same_key q k e)
    at false e h = inl (sym (ap is_some (get-insert nat_cmp_total known k a q ∙ ap (λ t. cond t (Some a) (get known q)) e)) ∙ h)

    by : (r : Bool) → has_key (cond r known (insert known k a)) q ≡ true → (has_key known q ≡ true) ⊎ (q ≡ k)
    by true h = inl h
    by false h = at (eq_by_cmp nat_cmp q k) refl h

at_place : (n k q i : ℕ) → q ≡ k → Contains (key_location n q ∷ []) i → Contains (key_location n k ∷ []) i
at_place n k q i e c = subst (λ j. Contains (key_location n j ∷ []) i) e c

same_place : {A : Type 0} (n k q : ℕ) → A ⊎ (q ≡ k)
    → A ⊎ ((i : ℕ) → Contains (key_location n q ∷ []) i → Contains (key_location n k ∷ []) i)
same_place n k q (inl held) = inl held
same_place n k q (inr e) = inr (λ i c. at_place n k q i e c)

at_key : (f n i : ℕ) → (f + i == f + n) ≡ true → i ≡ n
at_key f n i e = let same : f + i ≡ f + n = eqb-true (f + i) (f + n) e in omega (arith, same)

key_covered : (f n k i : ℕ) → Contains (key_location n k ∷ []) i → (f + i == f + key_location n k) ≡ true
key_covered f n k i c = eq-eqb (f + i) (f + key_location n k) (ap (λ j. f + j) (of_single (key_location n k) i c))

pub contains_in : (ls : List ℕ) (i : ℕ) → Contains ls i → IsIn i ls
contains_in [] i c = absurd (of_none i c)
contains_in (l ∷ ls) i (zero, lt, e) = inl (sym e)
contains_in (l ∷ ls) i (suc k, lt, e) = inr (contains_in ls i (k, (let h : suc k < suc (length ls) = lt in omega (arith, h)), e))

module _ {V : Type 0} where
  in_touched : (n : ℕ) (h : TouchedKey V) (i : ℕ) → IsIn i (touched_locations n h) → Contains (touched_locations n h) i
  in_touched n h i m = in_list (touched_locations n h) i m

  -- ---- what is touched is what the call reads, and what its piece covers
  abbrev Facts : (n f : ℕ) → Op V → Shown V → List ℕ → Type 0
  Facts n f op s ls =
      ((i : ℕ) → Contains ls i → covers n f (piece_of (kind_of s) op) (f + i) ≡ true)
      × ((i : ℕ) → i < size_by (kind_of s) n → covers n f (piece_of (kind_of s) op) (f + i) ≡ true → IsIn i ls)
      × ((o : Outcome V) → outcome_of op s ≡ Some o → reads_of n o s ≡ ls)

  map_facts : (n f k : ℕ) (op : Op V) (m : FinMap nat_cmp V) → piece_of MapKind op ≡ pieces.Entry k
      → map_reads n op ≡ key_location n k ∷ [] → Facts n f op (OfMap m) (key_location n k ∷ [])
  map_facts n f k op m is reads = (
    λ i c. ap (λ p. covers n f p (f + i)) is ∙ key_covered f n k i c,
    λ i lt e. inl (at_key f (key_location n k) i (sym (ap (λ p. covers n f p (f + i)) is) ∙ e)),
    λ o e. ap (map_reads n) (outcome_op (OfMap m) op o e) ∙ reads,
  )

  bag_facts : (n f k : ℕ) (op : Op V) (m : Multiset) → piece_of BagKind op ≡ pieces.Entry k
      → multiset_reads n op ≡ key_location n k ∷ [] → Facts n f op (OfBag m) (key_location n k ∷ [])
  bag_facts n f k op m is reads = (
    λ i c. ap (λ p. covers n f p (f + i)) is ∙ key_covered f n k i c,
    λ i lt e. inl (at_key f (key_location n k) i (sym (ap (λ p. covers n f p (f + i)) is) ∙ e)),
    λ o e. ap (multiset_reads n) (outcome_op (OfBag m) op o e) ∙ reads,
  )

  len_facts : (n f : ℕ) (m : FinMap nat_cmp V) → Facts n f Len (OfMap m) (all_below n)
  len_facts n f m = (
    λ i c. refl,
    λ i lt e. contains_in (all_below n) i (in_range n i lt),
    λ o e. ap (map_reads n) (outcome_op (OfMap m) Len o e),
  )

  given : (n f : ℕ) (op : Op V) (s : Shown V) (g h : TouchedKey V) → Some g ≡ Some h → Facts n f op s (touched_locations n g)
      → Facts n f op s (touched_locations n h)
  given n f op s g h e facts = subst (λ (t : TouchedKey V). Facts n f op s (touched_locations n t)) (same_Some g h e) facts

  pub touched_facts : (n f : ℕ) (op : Op V) (s : Shown V) (h : TouchedKey V) → summed_by n op s ≡ Some h
      → Facts n f op s (touched_locations n h)
  touched_facts n f (Get k) (OfMap m) h e = given n f (Get k) (OfMap m) _ h e (map_facts n f k (Get k) m refl refl)
  touched_facts n f (Put k v) (OfMap m) h e = given n f (Put k v) (OfMap m) _ h e (map_facts n f k (Put k v) m refl refl)
  touched_facts n f (Remove k) (OfMap m) h e = given n f (Remove k) (OfMap m) _ h e (map_facts n f k (Remove k) m refl refl)
  touched_facts n f Len (OfMap m) h e = given n f Len (OfMap m) _ h e (len_facts n f m)
  touched_facts n f (Count x) (OfBag m) h e = given n f (Count x) (OfBag m) _ h e (bag_facts n f x (Count x) m refl refl)
  touched_facts n f (Add x) (OfBag m) h e = given n f (Add x) (OfBag m) _ h e (bag_facts n f x (Add x) m refl refl)
  touched_facts n f (Take x) (OfBag m) h e = given n f (Take x) (OfBag m) _ h e (bag_facts n f x (Take x) m refl refl)
  touched_facts n f op (OfMap y) h e = absurd (none-some h e)
  touched_facts n f op (OfBag y) h e = absurd (none-some h e)
  touched_facts n f (Get q) (OfPq y) h e = absurd (none-some h e)
  touched_facts n f op (OfPq y) h e = absurd (none-some h e)
  touched_facts n f (Get q) (OfQueue y) h e = absurd (none-some h e)
  touched_facts n f op (OfQueue y) h e = absurd (none-some h e)

  -- ---- which calls are held then
  -- a call that is held then was held before, or reads what is touched
  abbrev HeldNow : ℕ → TouchedKey V → Shown V → FinMap nat_cmp (Option V) → FinMap nat_cmp ℕ → Option ℕ → Outcome V → Type 0
  HeldNow n h s es cs total o =
      holds_with s (with_entry h es) (with_count h cs) (with_total h total) o.op ≡ true
      → (holds_with s es cs total o.op ≡ true) ⊎ ((i : ℕ) → Contains (reads_of n o s) i → Contains (touched_locations n h) i)

  map_held : (n : ℕ) (h : TouchedKey V) (m : FinMap nat_cmp V) (es : FinMap nat_cmp (Option V)) (cs : FinMap nat_cmp ℕ) (total : Option ℕ)
      (op : Op V) → holds_with (OfMap m) (with_entry h es) (with_count h cs) (with_total h total) op ≡ true
      → (holds_with (OfMap m) es cs total op ≡ true) ⊎ ((i : ℕ) → Contains (map_reads n op) i → Contains (touched_locations n h) i)
  map_held n (Entry k v) m es cs total (Get q) held = same_place n k q (has_more es k q v held)
  map_held n (Entry k v) m es cs total (Put q y) held = same_place n k q (has_more es k q v held)
  map_held n (Entry k v) m es cs total (Remove q) held = same_place n k q (has_more es k q v held)
  map_held n (Counts ns) m es cs total Len held = inr (λ i c. c)
  map_held n (Counts ns) m es cs total (Get q) held = inl held
  map_held n (Counts ns) m es cs total (Put q y) held = inl held
  map_held n (Counts ns) m es cs total (Remove q) held = inl held
  map_held n (Total t) m es cs total Len held = inr (λ i c. c)
  map_held n (Total t) m es cs total (Get q) held = inl held
  map_held n (Total t) m es cs total (Put q y) held = inl held
  map_held n (Total t) m es cs total (Remove q) held = inl held
  map_held n (Copies y c) m es cs total (Get q) held = inl held
  map_held n (Copies y c) m es cs total (Put q r) held = inl held
  map_held n (Copies y c) m es cs total (Remove q) held = inl held
  map_held n (Entry k v) m es cs total Len held = inl held
  map_held n (Copies y c) m es cs total Len held = inl held
  map_held n h m es cs total op held = absurd (true≢false (sym held))

  bag_held : (n : ℕ) (h : TouchedKey V) (m : Multiset) (es : FinMap nat_cmp (Option V)) (cs : FinMap nat_cmp ℕ) (total : Option ℕ)
      (op : Op V) → holds_with (OfBag m) (with_entry h es) (with_count h cs) (with_total h total) op ≡ true
      → (holds_with (OfBag m) es cs total op ≡ true) ⊎ ((i : ℕ) → Contains (multiset_reads n op) i → Contains (touched_locations n h) i)
  bag_held n (Copies k c) m es cs total (Count q) held = same_place n k q (has_more cs k q c held)
  bag_held n (Copies k c) m es cs total (Add q) held = same_place n k q (has_more cs k q c held)
  bag_held n (Copies k c) m es cs total (Take q) held = same_place n k q (has_more cs k q c held)
  bag_held n (Entry k v) m es cs total (Count q) held = inl held
  bag_held n (Entry k v) m es cs total (Add q) held = inl held
  bag_held n (Entry k v) m es cs total (Take q) held = inl held
  bag_held n (Counts ns) m es cs total (Count q) held = inl held
  bag_held n (Counts ns) m es cs total (Add q) held = inl held
  bag_held n (Counts ns) m es cs total (Take q) held = inl held
  bag_held n (Total t) m es cs total (Count q) held = inl held
  bag_held n (Total t) m es cs total (Add q) held = inl held
  bag_held n (Total t) m es cs total (Take q) held = inl held
  bag_held n h m es cs total op held = absurd (true≢false (sym held))

  held_now : (n : ℕ) (h : TouchedKey V) (s : Shown V) (es : FinMap nat_cmp (Option V)) (cs : FinMap nat_cmp ℕ) (total : Option ℕ)
      (o : Outcome V) → HeldNow n h s es cs total o
  held_now n h (OfMap m) es cs total o held = map_held n h m es cs total o.op held
  held_now n h (OfBag m) es cs total o held = bag_held n h m es cs total o.op held
  held_now n h (OfPq m) es cs total o held = absurd (true≢false (sym held))
  held_now n h (OfQueue m) es cs total o held = absurd (true≢false (sym held))

  -- a call on a collection of this block has an outcome at each such collection
  pub known_at : (b : Block) (s : Shown V) (op : Op V) → 0 < b.stripes → kind_of s ≡ b.kind → is_known (Some b) op ≡ true
      → (o : Outcome V) × (outcome_of op s ≡ Some o)
  known_at b s op pos kind known =
      by (outcome_of op s) refl
    where
      all : whole b.stripes b.kind (λ i. part b.stripes i s) ≡ s
      all = of_parts b.stripes b.kind s pos kind

      by : (q : Option (Outcome V)) → outcome_of op s ≡ q → (o : Outcome V) × (outcome_of op s ≡ Some o)
      by None e =
          absurd (true≢false (sym known ∙ ap (λ q. not (is_missing q))
          (knows_its_calls b.stripes b.kind op (λ i. part b.stripes i s) (λ i. OfMap empty) (ap (outcome_of op) all ∙ e))))
      by (Some o) e = (o, e)

  -- ---- a memo
  module _ (b : Block) (f k : ℕ) (x : Part (Shown V) (CallWithOutcome V)) (pos : 0 < b.stripes) (base : Base V) (is_base : IsBaseOf b base)
      (now : ℕ → Shown V) (editions : ℕ → ℕ) (read : ℕ → Option ℕ) (which taken : ℕ → Bool)
      (found : IsFoundAt b f x base now editions read) (takes : AreTaken b f read which taken) where
    abbrev pub z : Part (Shown V) (CallWithOutcome V)
    z = taken_from taken now editions x

    there : ShowParts b f now (shown_of base)
    there = (is_base.kind, found.shows)

    -- a location that has been read shows what it showed, and one that is taken what there is now
    left_part : (i e : ℕ) → i < size b → read (f + i) ≡ Some e → z.parts (f + i) ≡ x.parts (f + i)
    left_part i e lt r = ap (λ q. cond q (now (f + i)) (x.parts (f + i))) (takes.leaves i e lt r)

    -- what is covered shows what there is now, where it was not read with another edition
    fresh_part : (i : ℕ) → i < size b → which (f + i) ≡ true → ((e : ℕ) → read (f + i) ≡ Some e → e ≡ editions (f + i))
        → z.parts (f + i) ≡ now (f + i)
    fresh_part i lt covered fresh = by (read (f + i)) refl
      where
        by : (o : Option ℕ) → read (f + i) ≡ o → z.parts (f + i) ≡ now (f + i)
        by None e = ap (λ q. cond q (now (f + i)) (x.parts (f + i))) (takes.takes i lt covered e)
        by (Some v) e = left_part i v lt e ∙ found.same i v lt e (sym (fresh v e))

    fresh_edition : (i : ℕ) → i < size b → which (f + i) ≡ true → ((e : ℕ) → read (f + i) ≡ Some e → e ≡ editions (f + i))
        → (z.copied (f + i) ≡ true) × (z.editions (f + i) ≡ editions (f + i))
    fresh_edition i lt covered fresh = by (read (f + i)) refl
      where
        by : (o : Option ℕ) → read (f + i) ≡ o → (z.copied (f + i) ≡ true) × (z.editions (f + i) ≡ editions (f + i))
        by None e =
            let t = takes.takes i lt covered e in
            (ap (λ q. cond q true (x.copied (f + i))) t, ap (λ q. cond q (editions (f + i)) (x.editions (f + i))) t)
        by (Some v) e =
            let t = takes.leaves i v lt e in
            let s = found.sound i v lt e in (
              ap (λ q. cond q true (x.copied (f + i))) t ∙ s.0,
              ap (λ q. cond q (editions (f + i)) (x.editions (f + i))) t ∙ (s.1 ∙ fresh v e),
            )

    module _ (s : Shown V) (shows : ShowParts b f x.parts s) where
      pub mixed : (u : Shown V) × ShowParts b f z.parts u
      mixed = mixed_parts b f x.parts now s (shown_of base) taken pos shows there

      abbrev pub u : Shown V
      u = mixed.0

      same_kind : kind_of u ≡ kind_of s
      same_kind = mixed.1.0 ∙ sym shows.0

      module _ (m : MemoView V) (es : Room ℕ) (cs : List _) (ls : List ℕ) (is : IsOf b s cs ls (Keys m es))
          (was_read : IsReadBy read f (Keys m es)) where
        alike : IsAlike (shown_of m.blank) m.entries m.copies m.total s u
        alike =
            alike_by_parts b.stripes s u m pos same_kind
            (λ op o held e i c. (
            let here : Contains (reads_in (Keys m es) o) i =
            subst (λ js. Contains js i) (sym (reads_by b.kind b.stripes o s shows.0) ∙ same_reads b s cs ls (Keys m es) o is) c in
            let lt = reads_within b o pos i (subst (λ js. Contains js i) (sym (reads_by b.kind b.stripes o s shows.0)) c) in
            let r = was_read.0 o (ap (holds m) (outcome_op s op o e) ∙ held) i here in
            sym (shows.1 i lt) ∙ (sym (left_part i r.0 lt r.1) ∙ mixed.1.1 i lt)))

        pub moved : IsOf b u cs ls (Keys m es)
        moved = follows_moved b s u cs ls m es is alike

        module _ (has : HasEditions b f x (Keys m es)) (t : Touch V) (op : Op V) (c : PrivateCopy V) (learnt : IsLearnt t (Keys m es) c)
            (touched : summed_by b.stripes op (shown_of base) ≡ Some t.held)
            (dates : t.editions ≡ editions_at (touched_locations b.stripes t.held) (editions_of base))
            (cover : (i : ℕ) → Contains (touched_locations b.stripes t.held) i → (i < size b) × (which (f + i) ≡ true))
            (back : (i : ℕ) → i < size b → which (f + i) ≡ true → IsIn i (touched_locations b.stripes t.held)) where
          abbrev pub places : List ℕ
          places = touched_locations b.stripes t.held

          learnt_at : (n : MemoView V) (fs : Room ℕ) (i : ℕ) → IsLearnt t (Keys m es) (Keys n fs)
              → Learnt places (editions_of base) es.contents fs.contents i
          learnt_at n fs i is =
              subst (λ g. Learnt places (editions_of base) es.contents g i) (sym (is.8 ∙ ap (inserts es.contents) dates))
              (learns places (editions_of base) es.contents i)

          not_taken : (i : ℕ) → i < size b → (IsIn i places → ⊥) → taken (f + i) ≡ false
          not_taken i lt out = by (which (f + i)) refl
            where
              by : (q : Bool) → which (f + i) ≡ q → taken (f + i) ≡ false
              by true e = absurd (out (back i lt e))
              by false e = takes.covers i lt e

          dated_at : (fs : Room ℕ) (i : ℕ) → Learnt places (editions_of base) es.contents fs.contents i → Contains places i → i < size b
              → unwrap_or (get fs.contents i) 0 ≡ editions (f + i)
          dated_at fs i (inl there) c lt = ap (λ o. unwrap_or o 0) there.1 ∙ sym (found.dated i lt)
          dated_at fs i (inr other) c lt = absurd (other.0 (contains_in places i c))

          -- what is touched was copied with the editions that there are now
          pub now_dated : (d : PrivateCopy V) → IsLearnt t (Keys m es) d → (i : ℕ) → Contains places i
              → known_edition d i ≡ editions (f + i)
          now_dated (Keys n fs) is i c = dated_at fs i (learnt_at n fs i is) c (cover i c).0
          now_dated (Whole w) is i c = absurd is

          -- what a call that is held now reads was read by one that was held before, or is touched
          reads_either : (n : MemoView V) (fs : Room ℕ) → IsLearnt t (Keys m es) (Keys n fs) → (o : Outcome V)
              → holds_call (Keys n fs) o.op ≡ true → (i : ℕ) → Contains (reads_in (Keys n fs) o) i
              → ((holds_call (Keys m es) o.op ≡ true) × Contains (reads_in (Keys m es) o) i) ⊎ Contains places i
          reads_either n fs now o held i c = by (held_now b.stripes t.held shape m.entries m.copies m.total o here)
            where
              shape : Shown V
              shape = shown_of m.blank

              here : holds_with shape (with_entry t.held m.entries) (with_count t.held m.copies) (with_total t.held m.total) o.op ≡ true
              here = sym (λ j. holds_with (shown_of (now.0 j)) (now.1 j) (now.2 j) (now.3 j) o.op) ∙ held

              before_in : Contains (reads_in (Keys m es) o) i
              before_in = subst (λ ls. Contains ls i) (λ j. reads_of (stripes_of (now.0 j)) o (shown_of (now.0 j))) c

              by : (holds_with shape m.entries m.copies m.total o.op ≡ true)
                  ⊎ ((i : ℕ) → Contains (reads_of b.stripes o shape) i → Contains places i)
                  → ((holds_call (Keys m es) o.op ≡ true) × Contains (reads_in (Keys m es) o) i) ⊎ Contains places i
              by (inl before) = inl (before, before_in)
              by (inr more) = inr (more i (subst (λ r. Contains (reads_of r o shape) i) is.1 before_in))

          knows_in : (n : MemoView V) (fs : Room ℕ) → IsLearnt t (Keys m es) (Keys n fs)
              → ((o : Outcome V) → holds_call (Keys m es) o.op ≡ true → Knows (Keys m es) (reads_in (Keys m es) o)) → (o : Outcome V)
              → holds_call (Keys n fs) o.op ≡ true → Knows (Keys n fs) (reads_in (Keys n fs) o)
          knows_in n fs now known o held i c = by (learnt_at n fs i now) (reads_either n fs now o held i c)
            where
              by : Learnt places (editions_of base) es.contents fs.contents i
                  → ((holds_call (Keys m es) o.op ≡ true) × Contains (reads_in (Keys m es) o) i) ⊎ Contains places i
                  → (e : ℕ) × (get fs.contents i ≡ Some e)
              by (inl at) h = (slice_index (editions_of base) i, at.1)
              by (inr other) (inl before) = let r = known o before.0 i before.1 in (r.0, other.1 ∙ r.1)
              by (inr other) (inr more) = absurd (other.0 (contains_in places i more))

          -- where what is touched has been read too, with the known editions, so has all that there is then
          module _ (later : ℕ → Option ℕ) (more : (l e : ℕ) → read l ≡ Some e → later l ≡ Some e) where
            abbrev Later : PrivateCopy V → Type 0
            Later d = (i : ℕ) → Contains places i → later (f + i) ≡ Some (known_edition d i)

            read_either : (d : PrivateCopy V) → Later d → (o : Outcome V) (i : ℕ)
                → ((holds_call (Keys m es) o.op ≡ true) × Contains (reads_in (Keys m es) o) i) ⊎ Contains places i
                → (e : ℕ) × (later (f + i) ≡ Some e)
            read_either d all o i (inl before) = let r = was_read.0 o before.0 i before.1 in (r.0, more (f + i) r.0 r.1)
            read_either d all o i (inr here) = (known_edition d i, all i here)

            known_then : (n : MemoView V) (fs : Room ℕ) → Later (Keys n fs) → (i e : ℕ) → get fs.contents i ≡ Some e
                → Learnt places (editions_of base) es.contents fs.contents i → later (f + i) ≡ Some e
            known_then n fs all i e is (inl there) = all i (in_list places i there.0) ∙ ap (λ o. Some (unwrap_or o 0)) is
            known_then n fs all i e is (inr other) = more (f + i) e (was_read.1 i e (sym other.1 ∙ is))

            pub now_read : (d : PrivateCopy V) → IsLearnt t (Keys m es) d → Later d → IsReadBy later f d
            now_read (Keys n fs) now all = (
              λ o held i c. read_either (Keys n fs) all o i (reads_either n fs now o held i c),
              λ i e is. known_then n fs all i e is (learnt_at n fs i now),
            )
            now_read (Whole w) now all = absurd now

          pub now_knows : ((o : Outcome V) → holds_call (Keys m es) o.op ≡ true → Knows (Keys m es) (reads_in (Keys m es) o))
              → (d : PrivateCopy V) → IsLearnt t (Keys m es) d → (o : Outcome V) → holds_call d o.op ≡ true → Knows d (reads_in d o)
          now_knows known (Keys n fs) now o held i c = knows_in n fs now known o held i c
          now_knows known (Whole w) now o held i c = absurd now

          -- where nothing that is touched was read with another edition
          module _ (fresh : (i e : ℕ) → Contains places i → read (f + i) ≡ Some e → e ≡ editions (f + i)) where
            pub touches : summed_by b.stripes op u ≡ Some t.held
            touches =
                touched_alike b.stripes pos op u (shown_of base) (mixed.1.0 ∙ sym is_base.kind)
                (λ h e i q. (
                let same : h ≡ t.held = same_Some h t.held (sym e ∙ touched) in
                let r : Contains places i = subst (λ g. Contains (touched_locations b.stripes g) i) same q in
                let at = cover i r in
                sym (found.shows i at.0) ∙ (sym (fresh_part i at.0 at.1 (λ v g. fresh i v r g)) ∙ mixed.1.1 i at.0)))
                ∙ touched

            pub now_of : IsOf b u cs ls c
            now_of = follows_learnt b u cs ls (Keys m es) c op t pos moved touches learnt

            edition_of : (fs : Room ℕ) (i e : ℕ) → i < size b → Learnt places (editions_of base) es.contents fs.contents i
                → get fs.contents i ≡ Some e → (z.copied (f + i) ≡ true) × (z.editions (f + i) ≡ e)
            edition_of fs i e lt (inl there) is =
                let r = in_list places i there.0 in
                let here = fresh_edition i lt (cover i r).1 (λ v g. fresh i v r g) in
                (here.0, here.1 ∙ (found.dated i lt ∙ same_Some (slice_index (editions_of base) i) e (sym there.1 ∙ is)))
            edition_of fs i e lt (inr other) is =
                let before = has i e lt (sym other.1 ∙ is) in
                let no = not_taken i lt other.0 in (
                  ap (λ q. cond q true (x.copied (f + i))) no ∙ before.0,
                  ap (λ q. cond q (editions (f + i)) (x.editions (f + i))) no ∙ before.1,
                )

            has_editions : (d : PrivateCopy V) → IsLearnt t (Keys m es) d → HasEditions b f z d
            has_editions (Keys n fs) is i e lt at = edition_of fs i e lt (learnt_at n fs i is) at
            has_editions (Whole w) is i e lt at = absurd is

            pub now_has : HasEditions b f z c
            now_has = has_editions c learnt

  -- ---- the first copy
  no_holds : (k : MemoKind) (op : Op V) → holds_with {V = V} (shape k) empty empty None op ≡ false
  no_holds kind.Map (Get k) = ap is_some (get-empty nat_cmp k)
  no_holds kind.Map (Put k v) = ap is_some (get-empty nat_cmp k)
  no_holds kind.Map (Remove k) = ap is_some (get-empty nat_cmp k)
  no_holds kind.Map Len = refl
  no_holds kind.Map _ = refl
  no_holds kind.Bag (Count x) = ap is_some (get-empty nat_cmp x)
  no_holds kind.Bag (Add x) = ap is_some (get-empty nat_cmp x)
  no_holds kind.Bag (Take x) = ap is_some (get-empty nat_cmp x)
  no_holds kind.Bag _ = refl

  pub blank_holds : (n : ℕ) (k : MemoKind) (m : MemoView V) (es : Room ℕ) (op : Op V) → IsBlank n k m → holds_call (Keys m es) op ≡ true → ⊥
  blank_holds n k m es op is held =
      true≢false (sym held ∙ ((λ j. holds_with (is.blank j) (is.entries j) (is.copies j) (is.total j) op) ∙ no_holds k op))

  pub blank_knows : (m : MemoView V) (es : Room ℕ) (i e : ℕ) → es.contents ≡ empty → edition_at (Keys m es) i ≡ Some e → ⊥
  blank_knows m es i e none is = none-some e (sym (get-empty nat_cmp i) ∙ (ap (λ g. get g i) (sym none) ∙ is))

  pub blank_editions : (b : Block) (f : ℕ) (x : Part (Shown V) (CallWithOutcome V)) (m : MemoView V) (es : Room ℕ) → es.contents ≡ empty
      → HasEditions b f x (Keys m es)
  blank_editions b f x m es none i e lt is = absurd (blank_knows m es i e none is)

  -- ---- the whole
  module _ (b : Block) (f k : ℕ) (x : Part (Shown V) (CallWithOutcome V)) (pos : 0 < b.stripes) (base : Base V) (is_base : IsBaseOf b base)
      (now : ℕ → Shown V) (editions : ℕ → ℕ) (read : ℕ → Option ℕ) (which taken : ℕ → Bool)
      (found : IsFoundAt b f x base now editions read) (takes : AreTaken b f read which taken)
      (all : (i : ℕ) → i < size b → which (f + i) ≡ true) (unread : (i : ℕ) → i < size b → read (f + i) ≡ None)
      (t : ShadowView V) (same : editions_of t.base ≡ editions_of base) where
    abbrev w : Part (Shown V) (CallWithOutcome V)
    w = taken_from taken now editions x

    pub whole_parts : ShowParts b f w.parts (shown_of base)
    whole_parts = (
      is_base.kind,
      λ i lt. ap (λ q. cond q (now (f + i)) (x.parts (f + i))) (takes.takes i lt (all i lt) (unread i lt)) ∙ found.shows i lt,
    )

    pub whole_editions : HasEditions b f w (Whole t)
    whole_editions i e lt is =
        let q = takes.takes i lt (all i lt) (unread i lt) in
        let here : slice_index (editions_of base) i ≡ e =
        get_or_from_slice_get (editions_of base) i e 0 (ap (λ es. slice_get es i) (sym same) ∙ is) in (
          ap (λ q. cond q true (x.copied (f + i))) q,
          ap (λ q. cond q (editions (f + i)) (x.editions (f + i))) q ∙ (found.dated i lt ∙ here),
        )

    pub whole_knows : kind_of (shown_of t.base) ≡ b.kind → stripes_of t.base ≡ b.stripes → (o : Outcome V)
        → Knows (Whole t) (reads_in (Whole t) o)
    whole_knows kind stripes o i c =
        let here : Contains (reads_of b.stripes o (blank b)) i =
        subst (λ ls. Contains ls i)
        (ap (λ n. reads_of n o (shown_of t.base)) stripes ∙ sym (reads_by b.kind b.stripes o (shown_of t.base) kind)) c
        in
        let lt : i < size b = reads_within b o pos i here in
        let wide : i < length (editions_of t.base) = subst (λ n. i < n) (sym (ap length same ∙ is_base.wide)) lt in
        (slice_index (editions_of t.base) i, slice_get-get_or (editions_of t.base) i 0 wide)

  -- a copy of the whole is of a kind that is copied whole
  abbrev pub IsWholeOf : Block → PrivateCopy V → Type 0
  IsWholeOf b (Keys m es) = Unit {0}
  IsWholeOf b (Whole t) = (op : Op V) → piece_of b.kind op ≡ pieces.Whole

  -- it has the pieces of which it holds the calls
  pub has_pieces : (b : Block) (s : Shown V) (cs : List _) (ls : List ℕ) (c : PrivateCopy V) → 0 < b.stripes → IsOf b s cs ls c
      → IsWholeOf b c → (op : Op V) → is_known (Some b) op ≡ true
      → holds_call c op ≡ has_piece c (piece_of b.kind op)
  has_pieces b s cs ls (Keys m es) pos is whole op known =
      let o = known_at b (shown_of m.blank) op pos is.0 known in
      follows_pieces m es op o.0 o.1 ∙ ap (λ k. has_piece (Keys m es) (piece_of k op)) is.0
  has_pieces b s cs ls (Whole t) pos is whole op known = sym (ap (is_piece pieces.Whole) (whole op))

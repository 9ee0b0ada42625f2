-- What an actor has of a collection once a call's gate is put back, in a world that events have reached. What was read there was copied
-- with that edition (`Live`), and where its base has the edition still, the part is the base's (`same_part`); so the lemmas on what is
-- copied for a call speak of the actor's shadow, which has copied what the call touches but for what was read.
use Rattle.std.proofs.Common.{◌≡◌, ◌⊎◌, ℕ, ◌+◌, ◌-◌, ◌<◌, ◌==◌, ◌&&◌, Bool, true, false, true≢false, eq-eqb, not, List, [], ◌∷◌, Option}
use Rattle.std.proofs.Common.{Some, None, inl, inr, Contains, refl, sym, ap, subst, ◌∙◌, arith, cond, ◌||◌}
use Rattle.std.specs.Prelude.{slice_index, is_some, unwrap_or, nat_lt}
use Rattle.std.proofs.lemmas.Bool.{cond-false}
use Rattle.std.specs.Cmp.{nat_cmp_total}
use Rattle.seq_model.specs.declared.call.Op.TheVariants.{Get, Put, Remove, Len, Count, Add, Take}
use Rattle.seq_model.specs.declared.call.Reply.TheVariants.{Done, Full, No, Yes}
use Rattle.seq_model.specs.declared.limits.TheConstants.{COPY_LIMIT}
use Rattle.conflict.specs.declared.outcome.Note.TheVariants.{Plain}
use Rattle.seq_model.specs.Counts.{Multiset, copies}
use Rattle.replay_log.proofs.EndingLemmas.{put_keeps}
use Rattle.replay_log.proofs.PartLemmas.{whole_local}
use Rattle.replay_log.proofs.ReadLemmas.{in_set}
use Rattle.tx_machine.specs.Actor.{Actor, Call}
use Rattle.tx_machine.specs.Opacity.{first_read}
use Rattle.tx_machine.specs.World.{World as Words}
use Rattle.tx_machine.specs.Boosted.{PutGate, changes, Shadow as Part, is_copied, is_none, is_open}
use Rattle.tx_machine.specs.Content.{IsIn}
use Rattle.conflict.specs.declared.outcome.Outcome.{Outcome}
use Rattle.replay_log.specs.declared.base.Base.{Base}
use Rattle.replay_log.specs.Base.{Shown, OfMap, OfBag, OfPq, OfQueue, editions_of, outcome_of, reads_of, shown_of, stripes_of, writes_of}
use Rattle.replay_log.specs.Contents.{CallWithOutcome, CollectionCall, Block, answer, blank, block_of, content, first_of, home_of, is_plain}
use Rattle.replay_log.specs.Contents.{reads_in as reads_at, seen, shifted, size, size_by, writes_in as writes_at}
use Rattle.replay_log.specs.Guards.{Allows, IsAllowed, step_action}
use Rattle.replay_log.specs.Parts.{Kind, MapKind, BagKind, PqKind, QueueKind, kind_of, part}
use Rattle.replay_log.specs.Pieces.{covers, covers_at, covers_in, piece_in, piece_of}
use Rattle.replay_log.specs.Worlds.{Copying, Stage, World, actor_of, is_known, opened, run, with_editions, fits, has_room}
use Rattle.replay_log.specs.Worlds.{is_change, is_stale, outcome_at, outcome_now, sized_by}
use Rattle.replay_log.proofs.ContentLemmas.{home_is, not_plain, positive_at}
use Rattle.replay_log.proofs.EventLemmas.{opened_linked, run_linked}
use Rattle.replay_log.proofs.GuardLemmas.{world_allows}
use Rattle.replay_log.proofs.MemoLemmas.{same_part}
use Rattle.replay_log.proofs.SeatLemmas.{KnownAsk, Linked, Live, StageOk}
use Rattle.replay_log.proofs.SetLemmas.{put_words}
use Rattle.actor_laws.specs.Bases.{IsBaseOf, ShowsBase}
use Rattle.actor_parts.specs.Shows.{put_back}
use Rattle.actor_parts.specs.declared.copies.PrivateCopy.{PrivateCopy}
use Rattle.std.specs.FinMap.{FinMap, get, get-insert, insert, len}
use Rattle.std.specs.Ordering.{nat_cmp}
use Rattle.std.proofs.lemmas.Option.{none-some, same_Some}
use Rattle.seq_model.specs.declared.call.Op.{Op}
use Rattle.seq_model.proofs.LogicLemmas.{some-none}
use Rattle.conflict.specs.declared.change.Change.{Change}
use Rattle.conflict.specs.Footprints.{map_reads, multiset_reads, key_location}
use Rattle.conflict.specs.Places.{in_single, key_itself}
use Rattle.conflict.specs.RoomMap.{Room}
use Rattle.replay_log.specs.declared.touch.Touch.{Touch}
use Rattle.replay_log.specs.declared.touch.TouchedKey.{TouchedKey}
use Rattle.replay_log.specs.Touches.{editions_at, summed_by, touched_locations}
use Rattle.replay_log.specs.Pieces as pieces
use Rattle.actor_laws.specs.Bases.{log_changes, log_locations}
use Rattle.shadow.specs.Memo.{IsCopyBy, MemoView, answer_with, entry_outcome, has_key, holds_with, with_count, with_entry}
use Rattle.shadow.specs.Memo.{with_key, with_number, with_total}
use Rattle.shadow.specs.Shadow.{ShadowView}
use Rattle.actor_parts.specs.declared.copies.BaseExcerpt.{BaseExcerpt}
use Rattle.actor_parts.specs.First.{IsFirst, memo_kind}
use Rattle.actor_parts.specs.Owns.{IsOwn, IsUncalled}
use Rattle.actor_parts.proofs.FirstLemmas.{blank_of, first_copies, kind_touched}
use Rattle.actor_parts.specs.declared.copies.PrivateCopy.TheVariants.{Keys, Whole}
use Rattle.actor_parts.specs.declared.copies.BaseExcerpt.TheVariants as found
use Rattle.actor_parts.specs.PrivateCopy.{HasEditions, IsCopied, IsFound, IsLearnt, IsOf, ShowParts, answer_of, holds_call, holds_of}
use Rattle.actor_parts.specs.PrivateCopy.{is_copied_whole, answered_on}
use Rattle.actor_parts.specs.Footprints.{known_edition, reads_in, with_known, writes_in}
use Rattle.actor_parts.specs.CopyInWorld.{IsOwnCopy, Knows}
use Rattle.actor_parts.proofs.CopyAtGateLemmas.{IsWholeOf, blank_editions, blank_holds, blank_knows}
use Rattle.actor_parts.proofs.CopyAtGateLemmas.{contains_in, has_pieces, known_at, mixed}
use Rattle.actor_parts.proofs.CopyAtGateLemmas.{now_dated, now_has, now_knows, now_of, now_read, touched_facts, whole_editions, whole_knows}
use Rattle.actor_parts.proofs.CopyAtGateLemmas.{whole_parts, in_list}
use Rattle.actor_parts.proofs.PrivateCopyLemmas.{same_log}
use Rattle.actor_parts.proofs.FootprintLemmas.{reads_by, reads_within}
use Rattle.actor_parts.proofs.CopyInWorldLemmas.{head_in, held_outcome, held_read, same_reads, tail_in, held_written, same_writes}
use Rattle.actor_parts.proofs.OutcomeLemmas.{answered_op, outcome_op, writes_nothing}
use Rattle.actor_parts.specs.CopyAtGate.{AreTaken, CopiesFor, IsCopyFor, IsFoundAt, IsReadBy, IsReadOf, IsTaken, taken_from}
use Rattle.actor_parts.specs.LoadInWorld.{AreRead, IsDoomed}
use Rattle.actor_parts.specs.Sizes as on_base
use Rattle.actor_parts.specs.Sizes.{SizesAs, base_reads}
use Rattle.actor_laws.proofs.Bases.{writes_by}
use Rattle.actor_parts.proofs.CopyByPartsLemmas.{kind_whole, nothing_pq, nothing_queue, puts_back, of_parts}
use Rattle.replay_log.proofs.CallLemmas.{in_set_some}
use Rattle.actor_parts.proofs.CopyJudgedLemmas.{judged_by, not_stale, one_stale}

-- ---- what is copied
all_four : (p q r s : Bool) → p ≡ true → q ≡ false → r ≡ true → s ≡ true → (p && (not q && (r && s))) ≡ true
all_four p q r s e f g h j = e j && (not (f j) && (g j && h j))

no_fourth : (p q r s : Bool) → s ≡ false → (p && (not q && (r && s))) ≡ false
no_fourth true false true s e = e
no_fourth true false false s e = refl
no_fourth true true r s e = refl
no_fourth false q r s e = refl

-- a declared reader finds room for all
room_for_all : (y : Actor) (rs ws ts us : List ℕ) → y.declared ≡ true → has_room y rs ws ≡ has_room y ts us
room_for_all y rs ws ts us e =
    (λ j. e j || (fits y.reads rs && fits y.writes ws)) ∙ sym (λ j. e j || (fits y.reads ts && fits y.writes us))

not_true : (q : Bool) → (q ≡ true → ⊥) → q ≡ false
not_true true h = absurd (h refl)
not_true false h = refl

-- ---- a key that was touched
has_itself : {A : Type 0} (known : FinMap nat_cmp A) (k : ℕ) (a : A) → has_key (with_key known k a) k ≡ true
has_itself {A} known k a = by (has_key known k) refl
  where
    by : (b : Bool) → has_key known k ≡ b → has_key (cond b known (insert known k a)) k ≡ true
    by true e = e
    by false e = ap is_some (get-insert nat_cmp_total known k a k ∙ ap (λ t. cond t (Some a) (get known k)) (key_itself k))

known_itself : {A : Type 0} (known : FinMap nat_cmp A) (k : ℕ) (a d : A) → has_key known k ≡ false
    → unwrap_or (get (with_key known k a) k) d ≡ a
known_itself known k a d none =
    ap (λ m. unwrap_or (get m k) d) (cond-false (has_key known k) known (insert known k a) none)
    ∙ ap (λ o. unwrap_or o d) (get-insert nat_cmp_total known k a k ∙ ap (λ t. cond t (Some a) (get known k)) (key_itself k))

module _ {V : Type 0} where
  pub at_map : (P : Shown V → Type 0) → ((m : FinMap nat_cmp V) → P (OfMap m)) → (s : Shown V) → kind_of s ≡ MapKind → P s
  at_map P each (OfMap m) e = each m
  at_map P each (OfBag m) e = absurd (let z : BagKind ≡ MapKind = e in let y : ⊥ = cc in y)
  at_map P each (OfPq m) e = absurd (let z : PqKind ≡ MapKind = e in let y : ⊥ = cc in y)
  at_map P each (OfQueue m) e = absurd (let z : QueueKind ≡ MapKind = e in let y : ⊥ = cc in y)

  pub at_bag : (P : Shown V → Type 0) → ((m : Multiset) → P (OfBag m)) → (s : Shown V) → kind_of s ≡ BagKind → P s
  at_bag P each (OfMap m) e = absurd (let z : MapKind ≡ BagKind = e in let y : ⊥ = cc in y)
  at_bag P each (OfBag m) e = each m
  at_bag P each (OfPq m) e = absurd (let z : PqKind ≡ BagKind = e in let y : ⊥ = cc in y)
  at_bag P each (OfQueue m) e = absurd (let z : QueueKind ≡ BagKind = e in let y : ⊥ = cc in y)

  -- a memo that has learnt what the call touches holds the call
  module _ (n : ℕ) (es : FinMap nat_cmp (Option V)) (cs : FinMap nat_cmp ℕ) (total : Option ℕ) where
    abbrev Holds : Op V → TouchedKey V → Shown V → Type 0
    Holds op h z = holds_with z (with_entry h es) (with_count h cs) (with_total h total) op ≡ true

    some_total : (k : ℕ) (o : Option ℕ) → is_some (with_number k o) ≡ true
    some_total k None = refl
    some_total k (Some t) = refl

    learnt_map : (op : Op V) (g h : TouchedKey V) → Some g ≡ Some h → ((m : FinMap nat_cmp V) → Holds op g (OfMap m)) → (z : Shown V)
        → kind_of z ≡ MapKind → Holds op h z
    learnt_map op g h e each z kind = at_map (Holds op h) (λ m. subst (λ q. Holds op q (OfMap m)) (same_Some g h e) (each m)) z kind

    learnt_bag : (op : Op V) (g h : TouchedKey V) → Some g ≡ Some h → ((m : Multiset) → Holds op g (OfBag m)) → (z : Shown V)
        → kind_of z ≡ BagKind → Holds op h z
    learnt_bag op g h e each z kind = at_bag (Holds op h) (λ m. subst (λ q. Holds op q (OfBag m)) (same_Some g h e) (each m)) z kind

    learnt_holds : (op : Op V) (s : Shown V) (h : TouchedKey V) → summed_by n op s ≡ Some h → (z : Shown V) → kind_of z ≡ kind_of s
        → Holds op h z
    learnt_holds (Get k) (OfMap m) h e z kind = learnt_map (Get k) _ h e (λ q. has_itself es k (get m k)) z kind
    learnt_holds (Put k v) (OfMap m) h e z kind = learnt_map (Put k v) _ h e (λ q. has_itself es k (get m k)) z kind
    learnt_holds (Remove k) (OfMap m) h e z kind = learnt_map (Remove k) _ h e (λ q. has_itself es k (get m k)) z kind
    learnt_holds Len (OfMap m) h e z kind = learnt_map Len _ h e (λ q. some_total (len m) total) z kind
    learnt_holds (Count i) (OfBag m) h e z kind = learnt_bag (Count i) _ h e (λ q. has_itself cs i (copies m i)) z kind
    learnt_holds (Add i) (OfBag m) h e z kind = learnt_bag (Add i) _ h e (λ q. has_itself cs i (copies m i)) z kind
    learnt_holds (Take i) (OfBag m) h e z kind = learnt_bag (Take i) _ h e (λ q. has_itself cs i (copies m i)) z kind
    learnt_holds op (OfMap y) h e z kind = absurd (none-some h e)
    learnt_holds op (OfBag y) h e z kind = absurd (none-some h e)
    learnt_holds (Get q) (OfPq y) h e z kind = absurd (none-some h e)
    learnt_holds op (OfPq y) h e z kind = absurd (none-some h e)
    learnt_holds (Get q) (OfQueue y) h e z kind = absurd (none-some h e)
    learnt_holds op (OfQueue y) h e z kind = absurd (none-some h e)

    -- and what it answers to a call that changes something is what the collection answers, where the key was not held before
    abbrev Answers : Op V → Option (Outcome V) → (grown shrunk : ℕ) → TouchedKey V → Shown V → Type 0
    Answers op o g r h z =
        holds_with z es cs total op ≡ false → answer_with z (with_entry h es) (with_count h cs) (with_total h total) g r op ≡ o

    answers_map : (op : Op V) (o : Option (Outcome V)) (g r : ℕ) (q h : TouchedKey V) → Some q ≡ Some h
        → ((m : FinMap nat_cmp V) → Answers op o g r q (OfMap m)) → (z : Shown V) → kind_of z ≡ MapKind → Answers op o g r h z
    answers_map op o g r q h e each z kind =
        at_map (Answers op o g r h) (λ m. subst (λ t. Answers op o g r t (OfMap m)) (same_Some q h e) (each m)) z kind

    answers_bag : (op : Op V) (o : Option (Outcome V)) (g r : ℕ) (q h : TouchedKey V) → Some q ≡ Some h
        → ((m : Multiset) → Answers op o g r q (OfBag m)) → (z : Shown V) → kind_of z ≡ BagKind → Answers op o g r h z
    answers_bag op o g r q h e each z kind =
        at_bag (Answers op o g r h) (λ m. subst (λ t. Answers op o g r t (OfBag m)) (same_Some q h e) (each m)) z kind

    abbrev added : ℕ → ℕ → Outcome V
    added i c = record { op = Add i; reply = cond (nat_lt c COPY_LIMIT) Done Full; note = Plain }

    abbrev taken_out : ℕ → ℕ → Outcome V
    taken_out i c = record { op = Take i; reply = cond (c == 0) No Yes; note = Plain }

    abbrev some_outcome : Outcome V → Option (Outcome V)
    some_outcome o = Some o

    touched_answers : (op : Op V) (s : Shown V) (h : TouchedKey V) (g r : ℕ) → summed_by n op s ≡ Some h → is_change op ≡ true
        → (z : Shown V) → kind_of z ≡ kind_of s → Answers op (outcome_of op s) g r h z
    touched_answers (Put k v) (OfMap m) h g r e change z kind =
        answers_map (Put k v) _ g r _ h e
        (λ q none. ap (λ o. Some (entry_outcome (Put k v) o)) (known_itself es k (get m k) None none)) z kind
    touched_answers (Remove k) (OfMap m) h g r e change z kind =
        answers_map (Remove k) _ g r _ h e
        (λ q none. ap (λ o. Some (entry_outcome (Remove k) o)) (known_itself es k (get m k) None none)) z kind
    touched_answers (Add i) (OfBag m) h g r e change z kind =
        answers_bag (Add i) _ g r _ h e
        (λ q none. ap (λ (c : ℕ). some_outcome (added i c)) (known_itself cs i (copies m i) 0 none)) z kind
    touched_answers (Take i) (OfBag m) h g r e change z kind =
        answers_bag (Take i) _ g r _ h e
        (λ q none. ap (λ (c : ℕ). some_outcome (taken_out i c)) (known_itself cs i (copies m i) 0 none)) z kind
    touched_answers (Get k) (OfMap m) h g r e change z kind = absurd (true≢false (sym change))
    touched_answers Len (OfMap m) h g r e change z kind = absurd (true≢false (sym change))
    touched_answers (Count i) (OfBag m) h g r e change z kind = absurd (true≢false (sym change))
    touched_answers op (OfMap y) h g r e change z kind = absurd (none-some h e)
    touched_answers op (OfBag y) h g r e change z kind = absurd (none-some h e)
    touched_answers (Get q) (OfPq y) h g r e change z kind = absurd (none-some h e)
    touched_answers op (OfPq y) h g r e change z kind = absurd (none-some h e)
    touched_answers (Get q) (OfQueue y) h g r e change z kind = absurd (none-some h e)
    touched_answers op (OfQueue y) h g r e change z kind = absurd (none-some h e)

  -- a change touches one location
  one_place : (n : ℕ) (op : Op V) (s : Shown V) (h : TouchedKey V) → summed_by n op s ≡ Some h → is_change op ≡ true
      → (i : ℕ) × (touched_locations n h ≡ i ∷ [])
  one_place n (Put k v) (OfMap m) h e change = (key_location n k, ap (λ (g : TouchedKey V). touched_locations n g) (sym (same_Some _ h e)))
  one_place n (Remove k) (OfMap m) h e change = (key_location n k, ap (λ (g : TouchedKey V). touched_locations n g) (sym (same_Some _ h e)))
  one_place n (Add i) (OfBag m) h e change = (key_location n i, ap (λ (g : TouchedKey V). touched_locations n g) (sym (same_Some _ h e)))
  one_place n (Take i) (OfBag m) h e change = (key_location n i, ap (λ (g : TouchedKey V). touched_locations n g) (sym (same_Some _ h e)))
  one_place n (Get k) (OfMap m) h e change = absurd (true≢false (sym change))
  one_place n Len (OfMap m) h e change = absurd (true≢false (sym change))
  one_place n (Count i) (OfBag m) h e change = absurd (true≢false (sym change))
  one_place n op (OfMap y) h e change = absurd (none-some h e)
  one_place n op (OfBag y) h e change = absurd (none-some h e)
  one_place n (Get q) (OfPq y) h e change = absurd (none-some h e)
  one_place n op (OfPq y) h e change = absurd (none-some h e)
  one_place n (Get q) (OfQueue y) h e change = absurd (none-some h e)
  one_place n op (OfQueue y) h e change = absurd (none-some h e)

  same_op_reads : (n : ℕ) (op : Op V) (s : Shown V) (h : TouchedKey V) → 0 < n → summed_by n op s ≡ Some h → (o q : Outcome V) → o.op ≡ q.op
      → reads_of n o s ≡ reads_of n q s
  same_op_reads n op (OfMap m) h pos e o q same = ap (map_reads n) same
  same_op_reads n op (OfBag m) h pos e o q same = ap (multiset_reads n) same
  same_op_reads n op (OfPq m) h pos e o q same = absurd (none-some h (sym (nothing_pq n pos op m) ∙ e))
  same_op_reads n op (OfQueue m) h pos e o q same = absurd (none-some h (sym (nothing_queue n pos op m) ∙ e))

  all_known : (c : PrivateCopy V) (f : ℕ) (editions : ℕ → ℕ) (ls : List ℕ)
      → ((i : ℕ) → Contains ls i → known_edition c i ≡ editions (f + i))
      → with_editions editions (shifted f ls) ≡ with_known c f ls
  all_known c f editions [] each = refl
  all_known c f editions (l ∷ ls) each =
      let same : editions (f + l) ≡ known_edition c l = sym (each l (head_in l ls)) in
      let rest = all_known c f editions ls (λ i q. each i (tail_in l i ls q)) in
      λ j. (f + l, same j) ∷ rest j

  -- where these have been read, each was read with the edition that is known of it
  all_read : (cs : List Call) (c : PrivateCopy V) (f : ℕ) (ls : List ℕ) → AreRead cs (with_known c f ls) → (i : ℕ) → Contains ls i
      → first_read cs (f + i) ≡ Some (known_edition c i)
  all_read cs c f ls all i there = at ls all (contains_in ls i there)
    where
      at : (ms : List ℕ) → AreRead cs (with_known c f ms) → IsIn i ms → first_read cs (f + i) ≡ Some (known_edition c i)
      at [] all m = absurd m
      at (l ∷ ms) all (inl e) = subst (λ j. first_read cs (f + j) ≡ Some (known_edition c j)) (sym e) all.0
      at (l ∷ ms) all (inr m) = at ms all.1 m

  whole_piece : (k : Kind) (op : Op V) → is_copied_whole k ≡ true → piece_of k op ≡ pieces.Whole
  whole_piece MapKind op e = absurd (true≢false (sym e))
  whole_piece BagKind op e = absurd (true≢false (sym e))
  whole_piece PqKind op e = refl
  whole_piece QueueKind op e = refl

  -- a memo is of no kind that is copied whole
  pub no_memo : (s t : Shown V) (es : FinMap nat_cmp (Option V)) (cs : FinMap nat_cmp ℕ) (total : Option ℕ) (g h : ℕ) (changes : List _)
      → IsCopyBy s es cs total g h changes t → is_copied_whole (kind_of s) ≡ true → ⊥
  no_memo (OfMap m) t es cs total g h changes is e = true≢false (sym e)
  no_memo (OfBag m) t es cs total g h changes is e = true≢false (sym e)
  no_memo (OfPq m) t es cs total g h changes is e = (is t (refl, λ op held. refl)).0
  no_memo (OfQueue m) t es cs total g h changes is e = (is t (refl, λ op held. refl)).0

module _ {V : Type 0} (w : World V) (a : ℕ) (b : Block) (asked : CollectionCall V) (base : Base V) (k : Linked w)
    (st : (w.seats a).stage ≡ Copying asked) (block : block_of w.blocks asked.collection ≡ Some b) (of : IsBaseOf b base)
    (shows : ShowsBase w.words w.blocks w asked.collection base)
    (guard : Allows (content w.words w.blocks) w.boosted (PutGate a asked.collection (covers_at w.words w.blocks asked))) where
  abbrev pub home : ℕ
  home = asked.collection

  abbrev pub f : ℕ
  f = first_of w.words w.blocks home

  abbrev pub y : Actor
  y = actor_of w a

  abbrev pub x : Part (Shown V) (CallWithOutcome V)
  x = w.boosted.shadows a

  abbrev pub read : ℕ → Option ℕ
  read = first_read y.calls

  abbrev pub which : ℕ → Bool
  which = covers_at w.words w.blocks asked

  abbrev pub taken : ℕ → Bool
  taken = is_copied (content {V = V} w.words w.blocks) y.calls home which

  ok : StageOk w.words w.blocks (w.seats a) y x (Copying asked) y.place
  ok = subst (λ (s : Stage V). StageOk w.words w.blocks (w.seats a) y x s y.place) st (k.seats a).stage

  live : Live w.words w.blocks (w.seats a) y x
  live = ok.1

  plain : (i : ℕ) → i < size b → is_plain w.words w.blocks (f + i) ≡ false
  plain i lt = not_plain w.words w.blocks home i b block lt

  at_home : (i : ℕ) → i < size b → home_of w.words w.blocks (f + i) ≡ home
  at_home i lt = home_is w.words w.blocks home i b block lt

  offset : (i : ℕ) → f + i - f ≡ i
  offset i = omega arith

  pub found_at : IsFoundAt b f x base w.boosted.parts w.boosted.editions read
  found_at = record {
    shows = λ i lt. (shows (f + i) (plain i lt) (at_home i lt)).0
        ∙ (λ j. part (of.stripes j) (offset i j) (shown_of base));
    dated = λ i lt. (shows (f + i) (plain i lt) (at_home i lt)).1 ∙ ap (λ j. slice_index (editions_of base) j) (offset i);
    sound = λ i e lt r. live.sound (f + i) e (plain i lt) r;
    same = λ i e lt r now. (
        let s = live.sound (f + i) e (plain i lt) r in
        same_part (content w.words w.blocks) w.boosted a (f + i) e k.base.inv (plain i lt) r s.0 s.1 now);
  }

  pub takes : AreTaken b f read which taken
  takes = record {
    takes = λ i lt covered none. all_four (which (f + i)) (is_plain w.words w.blocks (f + i)) (home_of w.words w.blocks (f + i) == home)
        (is_none (read (f + i))) covered (plain i lt) (eq-eqb (home_of w.words w.blocks (f + i)) home (at_home i lt)) (ap is_none none);
    leaves = λ i e lt r. no_fourth (which (f + i)) (is_plain w.words w.blocks (f + i)) (home_of w.words w.blocks (f + i) == home)
        (is_none (read (f + i))) (ap is_none r);
    covers = λ i lt out. ap
        (λ q. q && (not (is_plain w.words w.blocks (f + i)) && (home_of w.words w.blocks (f + i) == home && is_none (read (f + i))))) out;
  }

  -- the shadow that is there then
  pub shadow_now : (put_back a w asked).boosted.shadows a ≡ taken_from taken w.boosted.parts w.boosted.editions x
  shadow_now = puts_back a w asked guard (ap is_open ok.0)

  pub actor_now : actor_of (put_back a w asked) a ≡ y
  actor_now = ap (λ (s : Words). s.actors a) (put_words (content w.words w.blocks) w.boosted a home which)

  pub pos : 0 < b.stripes
  pos = positive_at w.blocks home b k.base.stripes block

  known : is_known (Some b) asked.op ≡ true
  known = subst (λ q. is_known q asked.op ≡ true) block (let here : KnownAsk w.blocks y asked = ok.2 in here.1)

  covered_as : (l : ℕ) → which l ≡ covers b.stripes f (piece_of b.kind asked.op) l
  covered_as l = λ j. covers_in (block j) f (piece_in (block j) asked.op) l

  answered_here : (v : ℕ → Shown V) → (r : Outcome V) × (outcome_of asked.op (seen b f v) ≡ Some r)
  answered_here v = known_at b (seen b f v) asked.op pos (kind_whole b.stripes b.kind (λ i. v (f + i))) known

  -- ---- a memo
  module _ (t : Touch V) (here : IsFound base asked.op (found.Keys t)) where
    touched : summed_by b.stripes asked.op (shown_of base) ≡ Some t.held
    touched = ap (λ n. summed_by n asked.op (shown_of base)) (sym of.stripes) ∙ here.0

    abbrev places : List ℕ
    places = touched_locations b.stripes t.held

    dates : t.editions ≡ editions_at places (editions_of base)
    dates = here.1 ∙ ap (λ n. editions_at (touched_locations n t.held) (editions_of base)) of.stripes

    one : (o : Outcome V) × (outcome_of asked.op (shown_of base) ≡ Some o)
    one = known_at b (shown_of base) asked.op pos of.kind known

    whole_reads : (o : Outcome V) → o.op ≡ asked.op → reads_of b.stripes o (blank b) ≡ places
    whole_reads o e =
        let s = shown_of base in
        reads_by b.kind b.stripes o s of.kind
        ∙ (same_op_reads b.stripes asked.op s t.held pos touched o one.0 (e ∙ sym (outcome_op s asked.op one.0 one.1))
        ∙ (touched_facts b.stripes f asked.op s t.held touched).2 one.0 one.1)

    cover : (i : ℕ) → Contains places i → (i < size b) × (which (f + i) ≡ true)
    cover i c =
        let same = whole_reads one.0 (outcome_op (shown_of base) asked.op one.0 one.1) in (
          reads_within b one.0 pos i (subst (λ ls. Contains ls i) (sym same) c),
          covered_as (f + i)
              ∙ (ap (λ q. covers b.stripes f (piece_of q asked.op) (f + i)) (sym of.kind)
              ∙ (touched_facts b.stripes f asked.op (shown_of base) t.held touched).0 i c),
        )

    back : (i : ℕ) → i < size b → which (f + i) ≡ true → IsIn i places
    back i lt e =
        (touched_facts b.stripes f asked.op (shown_of base) t.held touched).1 i
        (subst (λ q. i < size_by q b.stripes) (sym of.kind) lt)
        (ap (λ q. covers b.stripes f (piece_of q asked.op) (f + i)) of.kind ∙ (sym (covered_as (f + i)) ∙ e))

    world_reads : (v : ℕ → Shown V)
        → (content w.words w.blocks).reads ((content w.words w.blocks).outcome v asked) ≡ shifted f places
    world_reads v =
        let r = answered_here v in
        (λ j. reads_at (block j) f (answer (block j) f v asked.op))
        ∙ (ap (reads_at (Some b) f) r.1 ∙ ap (shifted f) (whole_reads r.0 (outcome_op (seen b f v) asked.op r.0 r.1)))

    module _ (m : MemoView V) (es : Room ℕ) (s : Shown V) (parts : ShowParts b f x.parts s) (cs : List (Change V)) (ls : List ℕ)
        (is : IsOf b s cs ls (Keys m es)) (lc : log_changes home b x.outcomes ≡ cs) (ll : log_locations home b x.outcomes ≡ ls)
        (was_read : IsReadBy read f (Keys m es)) (has : HasEditions b f x (Keys m es))
        (knows : (o : Outcome V) → holds_call (Keys m es) o.op ≡ true → Knows (Keys m es) (reads_in (Keys m es) o))
        (d : PrivateCopy V) (learnt : IsLearnt t (Keys m es) d) (unheld : holds_call (Keys m es) asked.op ≡ false) where
      reads_now : (e : PrivateCopy V) → IsLearnt t (Keys m es) e → (o : Outcome V) → o.op ≡ asked.op → reads_in e o ≡ places
      reads_now (Keys n fs) now o same =
          (λ j. reads_of (stripes_of (now.0 j)) o (shown_of (now.0 j)))
          ∙ (sym (same_reads b s cs ls (Keys m es) o is) ∙ whole_reads o same)
      reads_now (Whole q) now o same = absurd now

      dated : (i : ℕ) → Contains places i → known_edition d i ≡ w.boosted.editions (f + i)
      dated i c =
          now_dated b f home x pos base of w.boosted.parts w.boosted.editions read which taken found_at takes s parts m es cs ls is was_read
          has t asked.op d learnt touched dates cover back d learnt i c

      known_here : (o : Outcome V) → answer_of d asked.op ≡ Some o
          → with_editions w.boosted.editions (shifted f places) ≡ with_known d f (reads_in d o)
      known_here o ans =
          all_known d f w.boosted.editions places dated ∙ ap (with_known d f) (sym (reads_now d learnt o (answered_op d asked.op o ans)))

      no_whole : (e : PrivateCopy V) → IsLearnt t (Keys m es) e → IsWholeOf b e
      no_whole (Keys n fs) now = tt
      no_whole (Whole q) now = absurd now

      own_now : ((i e : ℕ) → IsIn i places → read (f + i) ≡ Some e → e ≡ w.boosted.editions (f + i))
          → IsOwnCopy (put_back a w asked) a home b f d
      own_now judged =
          let fresh : (i e : ℕ) → Contains places i → read (f + i) ≡ Some e → e ≡ w.boosted.editions (f + i) =
          λ i e c r. judged i e (contains_in places i c) r in
          let shown = mixed b f home x pos base of w.boosted.parts w.boosted.editions read which taken found_at takes s parts in
          let now : IsOf b shown.0 cs ls d =
          now_of b f home x pos base of w.boosted.parts w.boosted.editions read which taken found_at takes s parts m es cs ls is was_read
          has t asked.op d learnt touched dates cover back fresh in
          let editions =
          now_has b f home x pos base of w.boosted.parts w.boosted.editions read which taken found_at takes s parts m es cs ls is was_read
          has t asked.op d learnt touched dates cover back fresh in
          let copied : IsCopied b f home (taken_from taken w.boosted.parts w.boosted.editions x) d = (
            (shown.0, shown.1, same_log b shown.0 cs (log_changes home b x.outcomes) ls (log_locations home b x.outcomes) d lc ll now),
            editions,
          ) in
          record {
            stripes = k.base.stripes;
            block = block;
            first = refl;
            copied = subst (λ q. IsCopied b f home q d) (sym shadow_now) copied;
            knows = now_knows b f home x pos base of w.boosted.parts w.boosted.editions read which taken found_at takes s parts m es cs ls
                is
                was_read has t asked.op d learnt touched dates cover back knows d learnt;
            pieces = has_pieces b shown.0 cs ls d pos now (no_whole d learnt);
          }

      holds_at : (e : PrivateCopy V) → IsLearnt t (Keys m es) e → holds_call e asked.op ≡ true
      holds_at (Keys n fs) now =
          (λ j. holds_with (shown_of (now.0 j)) (now.1 j) (now.2 j) (now.3 j) asked.op)
          ∙ learnt_holds b.stripes m.entries m.copies m.total asked.op (shown_of base) t.held touched (shown_of m.blank)
          (is.0 ∙ sym of.kind)
      holds_at (Whole q) now = absurd now

      answer_at : (e : PrivateCopy V) → IsLearnt t (Keys m es) e → is_change asked.op ≡ true
          → answer_of e asked.op ≡ outcome_of asked.op (shown_of base)
      answer_at (Keys n fs) now change =
          (λ j. answer_with (shown_of (now.0 j)) (now.1 j) (now.2 j) (now.3 j) (now.4 j) (now.5 j) asked.op)
          ∙ touched_answers b.stripes m.entries m.copies m.total asked.op (shown_of base) t.held m.grown m.shrunk touched change
          (shown_of m.blank) (is.0 ∙ sym of.kind) unheld
      answer_at (Whole q) now change = absurd now

      writes_now : (e : PrivateCopy V) → IsLearnt t (Keys m es) e → (o : Outcome V) → writes_of b.stripes o (blank b) ≡ writes_in e o
      writes_now (Keys n fs) now o =
          same_writes b s cs ls (Keys m es) o is ∙ sym (λ j. writes_of (stripes_of (now.0 j)) o (shown_of (now.0 j)))
      writes_now (Whole q) now o = absurd now

      -- the locations of the call's outcome on these parts, where it is this one
      outcome_locations : (v : ℕ → Shown V) (o : Outcome V) → o.op ≡ asked.op → writes_at (block_of w.blocks home) f
          (answer (block_of w.blocks home) f v asked.op) ≡ shifted f (writes_in d o)
          → has_room y ((content w.words w.blocks).reads ((content w.words w.blocks).outcome v asked))
          ((content w.words w.blocks).writes ((content w.words w.blocks).outcome v asked))
          ≡ has_room y (shifted f (reads_in d o)) (shifted f (writes_in d o))
      outcome_locations v o same writes =
          λ j. has_room y ((world_reads v ∙ ap (shifted f) (sym (reads_now d learnt o same))) j) (writes j)

      still_writes : (v : ℕ → Shown V) (o : Outcome V) → o.op ≡ asked.op → is_change asked.op ≡ false
          → writes_at (block_of w.blocks home) f (answer (block_of w.blocks home) f v asked.op) ≡ shifted f (writes_in d o)
      still_writes v o same still =
          let r = answered_here v in
          let none : writes_of b.stripes r.0 (blank b) ≡ [] =
          writes_nothing b.stripes r.0 (blank b) (ap is_change (outcome_op (seen b f v) asked.op r.0 r.1) ∙ still) in
          (λ j. writes_at (block j) f (answer (block j) f v asked.op))
          ∙ (ap (writes_at (Some b) f) r.1
          ∙ ap (shifted f) (none ∙ sym (sym (writes_now d learnt o) ∙ writes_nothing b.stripes o (blank b) (ap is_change same ∙ still))))

      seen_now : seen b f w.boosted.parts ≡ shown_of base
      seen_now =
          whole_local b.stripes b.kind (λ i. w.boosted.parts (f + i)) (λ i. part b.stripes i (shown_of base)) pos
          (λ i lt. found_at.shows i lt)
          ∙ of_parts b.stripes b.kind (shown_of base) pos of.kind

      base_writes : (o : Outcome V) → answer_of d asked.op ≡ Some o → is_change asked.op ≡ true
          → writes_at (block_of w.blocks home) f (answer (block_of w.blocks home) f w.boosted.parts asked.op) ≡ shifted f (writes_in d o)
      base_writes o ans change =
          (λ j. writes_at (block j) f (answer (block j) f w.boosted.parts asked.op))
          ∙ (ap (writes_at (Some b) f) (ap (outcome_of asked.op) seen_now ∙ (sym (answer_at d learnt change) ∙ ans))
          ∙ ap (shifted f) (writes_now d learnt o))

      abbrev after : World V
      after = put_back a w asked

      abbrev own_outcome : CallWithOutcome V
      own_outcome = outcome_at after a asked

      keeps : (after.boosted.parts ≡ w.boosted.parts) × (after.boosted.editions ≡ w.boosted.editions)
      keeps = let h = put_keeps (content w.words w.blocks) w.boosted a home which in (h.1, h.2)

      sized_as : (q : Bool) → is_stale y.reads (with_editions w.boosted.editions (shifted f places)) ≡ q
          → sized_by after a asked own_outcome ≡ cond q (outcome_now after asked) own_outcome
      sized_as q e =
          let x2 = after.boosted.shadows a in
          let v = changes (content w.words w.blocks) x2.outcomes x2.parts in
          ap (λ p. cond p (outcome_now after asked) own_outcome)
          ((λ j. is_stale (actor_now j).reads (with_editions (keeps.1 j) (world_reads v j))) ∙ e)

      abbrev Fits : CallWithOutcome V → Outcome V → Type 0
      Fits p o =
          has_room y ((content w.words w.blocks).reads p) ((content w.words w.blocks).writes p)
          ≡ has_room y (shifted f (reads_in d o)) (shifted f (writes_in d o))

      fresh_room : ((i e : ℕ) → IsIn i places → read (f + i) ≡ Some e → e ≡ w.boosted.editions (f + i)) → (o : Outcome V)
          → answer_of d asked.op ≡ Some o → Fits (sized_by after a asked own_outcome) o
      fresh_room judged o ans =
          let own = own_now judged in
          let fresh = not_stale y.reads w.boosted.editions f places
          (λ i v c r. (
          let lt = (cover i (in_list places i c)).0 in
          judged i v c (in_set_some y.declared (read (f + i)) v (sym (live.kept (f + i) (plain i lt)) ∙ r)))) in
          let is_own = held_outcome after a home b d asked.op o own (holds_at d learnt) ans in
          let rs = held_read after a home b d asked.op o own (holds_at d learnt) ans in
          let ws = held_written after a home b d asked.op o own (holds_at d learnt) ans in
          ap (λ p. has_room y ((content w.words w.blocks).reads p) ((content w.words w.blocks).writes p)) (sized_as false fresh ∙ is_own)
          ∙ (λ j. has_room y (rs j) (ws j))

      still_room : (o : Outcome V) → o.op ≡ asked.op → is_change asked.op ≡ false → (q : Bool)
          → Fits (cond q (outcome_now after asked) own_outcome) o
      still_room o same still true = outcome_locations after.boosted.parts o same (still_writes after.boosted.parts o same still)
      still_room o same still false =
          let x2 = after.boosted.shadows a in
          let v = changes (content w.words w.blocks) x2.outcomes x2.parts in
          outcome_locations v o same (still_writes v o same still)

      -- whether the copy is found stale
      abbrev stale_now : Bool
      stale_now = is_stale (actor_of after a).reads (with_editions after.boosted.editions ((content w.words w.blocks).reads own_outcome))

      stale_room : (o : Outcome V) → answer_of d asked.op ≡ Some o → is_change asked.op ≡ true → Fits (outcome_now after asked) o
      stale_room o ans change =
          subst (λ v. Fits ((content w.words w.blocks).outcome v asked) o) (sym keeps.0)
          (outcome_locations w.boosted.parts o (answered_op d asked.op o ans) (base_writes o ans change))

      is_found_stale : y.declared ≡ false → is_change asked.op ≡ true
          → IsDoomed y.calls (with_editions w.boosted.editions (shifted f places))
          → is_stale y.reads (with_editions w.boosted.editions (shifted f places)) ≡ true
      is_found_stale undeclared change doomed =
          let p = one_place b.stripes asked.op (shown_of base) t.held touched change in
          let lt = (cover p.0 (subst (λ js. Contains js p.0) (sym p.1) (in_single p.0))).0 in
          subst (λ js. is_stale y.reads (with_editions w.boosted.editions (shifted f js)) ≡ true) (sym p.1)
          (by p.0 lt (subst (λ js. IsDoomed y.calls (with_editions w.boosted.editions (shifted f js))) p.1 doomed))
        where
          by : (i : ℕ) → i < size b → IsDoomed y.calls (with_editions w.boosted.editions (shifted f (i ∷ [])))
              → is_stale y.reads (with_editions w.boosted.editions (shifted f (i ∷ []))) ≡ true
          by i lt (inl h) =
              one_stale y.reads w.boosted.editions f i h.0
              (live.kept (f + i) (plain i lt) ∙ (ap (λ q. in_set q (read (f + i))) undeclared ∙ h.1)) h.2
          by i lt (inr h) = absurd h

      doomed_room : IsDoomed y.calls (with_editions w.boosted.editions (shifted f places)) → (o : Outcome V)
          → answer_of d asked.op ≡ Some o → (q r : Bool) → y.declared ≡ q → is_change asked.op ≡ r
          → Fits (sized_by after a asked own_outcome) o
      doomed_room doomed o ans true r declared change = room_for_all y _ _ _ _ declared
      doomed_room doomed o ans false true declared change =
          subst (λ p. Fits p o) (sym (sized_as true (is_found_stale declared change doomed))) (stale_room o ans change)
      doomed_room doomed o ans false false declared still =
          still_room o (answered_op d asked.op o ans) still stale_now

      either_room : (o : Outcome V) → answer_of d asked.op ≡ Some o
          → ((i e : ℕ) → IsIn i places → read (f + i) ≡ Some e → e ≡ w.boosted.editions (f + i))
          ⊎ IsDoomed y.calls (with_editions w.boosted.editions (shifted f places)) → Fits (sized_by after a asked own_outcome) o
      either_room o ans (inl judged) = fresh_room judged o ans
      either_room o ans (inr doomed) = doomed_room doomed o ans y.declared (is_change asked.op) refl refl

      -- and so where those of the outcome on the base do
      pub base_room : (o : Outcome V) → outcome_of asked.op (shown_of base) ≡ Some o → SizesAs w a asked base o
      base_room o is_o =
          let s = shown_of base in
          let same = outcome_op s asked.op o is_o in
          let rs : reads_in d o ≡ base_reads base o =
          reads_now d learnt o same
          ∙ sym (ap (λ n. reads_of n o s) of.stripes ∙ (touched_facts b.stripes f asked.op s t.held touched).2 o is_o) in
          let ws : writes_in d o ≡ on_base.base_writes base o =
          sym (writes_now d learnt o) ∙ (writes_by b.kind b.stripes o s of.kind ∙ sym (ap (λ n. writes_of n o s) of.stripes)) in
          by (is_change asked.op) refl same
          ∙ (λ j. has_room y (shifted f (rs j)) (shifted f (ws j)))
        where
          by : (q : Bool) → is_change asked.op ≡ q → o.op ≡ asked.op → Fits (sized_by after a asked own_outcome) o
          by true change same =
              either_room o (answer_at d learnt change ∙ is_o) (judged_by read y.calls w.boosted.editions f places (λ l. refl))
          by false still same = still_room o same still stale_now

      abbrev changed : List (Change V)
      changed = cs

      read_then : (cs : List Call) (o : Outcome V) → ((l e : ℕ) → read l ≡ Some e → first_read cs l ≡ Some e)
          → answer_of d asked.op ≡ Some o → AreRead cs (with_known d f (reads_in d o)) → IsReadBy (first_read cs) f d
      read_then cs o more ans all =
          now_read b f home x pos base of w.boosted.parts w.boosted.editions read which taken found_at takes s parts m es changed ls is
          was_read
          has t asked.op d learnt touched dates cover back (first_read cs) more d learnt
          (λ i c. (
          let same = reads_now d learnt o (answered_op d asked.op o ans) in
          all_read cs d f (reads_in d o) all i (subst (λ js. Contains js i) (sym same) c)))

      from_memo : IsCopyFor w a b asked d
      from_memo = record {
        own = elim (judged_by read y.calls w.boosted.editions f places (λ l. refl)) [
          | inl judged ↦ inl (own_now judged)
          | inr doomed ↦
              inr (λ o ans. subst (λ (z : Actor). IsDoomed z.calls (with_known d f (reads_in d o))) (sym actor_now)
              (subst (IsDoomed y.calls) (known_here o ans) doomed))
        ];
        editions = λ o ans. ap (with_editions w.boosted.editions)
            (world_reads (changes (content w.words w.blocks) ((put_back a w asked).boosted.shadows a).outcomes
            ((put_back a w asked).boosted.shadows a).parts)) ∙ known_here o ans;
        holds = holds_at d learnt;
        read = λ calls o more ans all. read_then calls o more ans all;
        room = λ o ans. either_room o ans (judged_by read y.calls w.boosted.editions f places (λ l. refl));
      }

  -- ---- the whole
  module _ (copy : ShadowView V) (here : IsFound base asked.op (found.Whole copy)) (unread : (i : ℕ) → i < size b → read (f + i) ≡ None)
      (none : IsUncalled b f home x) (t : ShadowView V) (first : IsFirst b.stripes (found.Whole copy) (Whole t)) where
    whole_kind : is_copied_whole b.kind ≡ true
    whole_kind = ap is_copied_whole (sym of.kind) ∙ here.3

    all_covered : (i : ℕ) → i < size b → which (f + i) ≡ true
    all_covered i lt = covered_as (f + i) ∙ ap (λ q. covers b.stripes f q (f + i)) (whole_piece b.kind asked.op whole_kind)

    same_base : editions_of t.base ≡ editions_of base
    same_base = ap (λ (q : Base V). editions_of q) first.0 ∙ here.2

    is_first : IsOf b (shown_of base) [] [] (Whole t)
    is_first = first_copies b base asked.op (found.Whole copy) (Whole t) pos of here first

    whole_own : IsOwnCopy (put_back a w asked) a home b f (Whole t)
    whole_own =
        let d : PrivateCopy V = Whole t in
        let parts = whole_parts b f home x pos base of w.boosted.parts w.boosted.editions read which taken found_at takes all_covered unread
        t same_base in
        let editions = whole_editions b f home x pos base of w.boosted.parts w.boosted.editions read which taken found_at takes all_covered
        unread t same_base in
        let copied : IsCopied b f home (taken_from taken w.boosted.parts w.boosted.editions x) d = (
          (
            shown_of base,
            parts,
            same_log b (shown_of base) [] (log_changes home b x.outcomes) [] (log_locations home b x.outcomes) d none.1 none.2 is_first,
          ),
          editions,
        ) in
        record {
          stripes = k.base.stripes;
          block = block;
          first = refl;
          copied = subst (λ q. IsCopied b f home q d) (sym shadow_now) copied;
          knows = λ o held. whole_knows b f home x pos base of w.boosted.parts w.boosted.editions read which taken found_at takes
              all_covered
              unread t same_base is_first.0 is_first.1 o;
          pieces = has_pieces b (shown_of base) [] [] d pos is_first (λ op. whole_piece b.kind op whole_kind);
        }

    whole_dated : (o : Outcome V) → answer_of (Whole t) asked.op ≡ Some o → (i : ℕ) → Contains (reads_in (Whole t) o) i
        → known_edition (Whole t) i ≡ w.boosted.editions (f + i)
    whole_dated o ans i c =
        let lt : i < size b =
        reads_within b o pos i (subst (λ ls. Contains ls i) (sym (same_reads b (shown_of base) [] [] (Whole t) o is_first)) c) in
        ap (λ es. slice_index es i) same_base ∙ sym (found_at.dated i lt)

    whole_room : (o : Outcome V) → answer_of (Whole t) asked.op ≡ Some o
        → let u = put_back a w asked in
        let sized = sized_by u a asked (outcome_at u a asked) in
        has_room y ((content w.words w.blocks).reads sized) ((content w.words w.blocks).writes sized)
        ≡ has_room y (shifted f (reads_in (Whole t) o)) (shifted f (writes_in (Whole t) o))
    whole_room o ans =
        let u = put_back a w asked in
        let c = content {V = V} w.words w.blocks in
        let is_own = held_outcome u a home b (Whole t) asked.op o whole_own refl ans in
        let rs = held_read u a home b (Whole t) asked.op o whole_own refl ans in
        let ws = held_written u a home b (Whole t) asked.op o whole_own refl ans in
        let editions : u.boosted.editions ≡ w.boosted.editions = (put_keeps c w.boosted a home which).2 in
        let fresh = not_stale y.reads w.boosted.editions f (reads_in (Whole t) o)
        (λ i v m r. (
        let in_reads = in_list (reads_in (Whole t) o) i m in
        let lt = reads_within b o pos i
        (subst (λ ls. Contains ls i) (sym (same_reads b (shown_of base) [] [] (Whole t) o is_first)) in_reads) in
        absurd (some-none v (sym (in_set_some y.declared (read (f + i)) v (sym (live.kept (f + i) (plain i lt)) ∙ r)) ∙ unread i lt)))) in
        let sized : sized_by u a asked (outcome_at u a asked) ≡ answered_on home asked.op o =
        ap (λ p. cond p (outcome_now u asked) (outcome_at u a asked))
        ((λ j. is_stale (actor_now j).reads (with_editions (editions j) ((ap c.reads is_own ∙ rs) j))) ∙ fresh) ∙ is_own in
        ap (λ p. has_room y (c.reads p) (c.writes p)) sized ∙ (λ j. has_room y (rs j) (ws j))

    from_whole : IsCopyFor w a b asked (Whole t)
    from_whole = record {
      own = inl whole_own;
      editions = λ o ans. ap (λ p. with_editions w.boosted.editions ((content w.words w.blocks).reads p))
          (held_outcome (put_back a w asked) a home b (Whole t) asked.op o whole_own refl ans)
          ∙ (ap (with_editions w.boosted.editions) (held_read (put_back a w asked) a home b (Whole t) asked.op o whole_own refl ans)
          ∙ all_known (Whole t) f w.boosted.editions (reads_in (Whole t) o) (whole_dated o ans));
      holds = refl;
      read = λ calls o more ans all. tt;
      room = λ o ans. whole_room o ans;
    }

  -- ---- by what there was
  from_some : (c d : PrivateCopy V) (found : BaseExcerpt V) (is : IsOwnCopy w a home b f c) → IsReadBy read f c
      → holds_call c asked.op ≡ false
      → IsFound base asked.op found → IsTaken b.stripes found (Some c) d → IsCopyFor w a b asked d
  from_some (Whole s) d q is was_read unheld here now = absurd (true≢false unheld)
  from_some (Keys m es) d (found.Keys t) is was_read unheld here now =
      from_memo t here m es is.copied.0.0 is.copied.0.1 (log_changes home b x.outcomes) (log_locations home b x.outcomes) is.copied.0.2 refl
      refl was_read is.copied.1 is.knows d now unheld
  from_some (Keys m es) d (found.Whole copy) is was_read unheld here now =
      absurd (no_memo (shown_of m.blank) is.copied.0.0 m.entries m.copies m.total m.grown m.shrunk m.changes is.copied.0.2.4
      (ap is_copied_whole (is.copied.0.2.0 ∙ sym of.kind) ∙ here.3))

  from_none : (d : PrivateCopy V) (found : BaseExcerpt V) → IsUncalled b f home x → ((i : ℕ) → i < size b → read (f + i) ≡ None)
      → IsFound base asked.op found → IsFirst b.stripes found d → IsCopyFor w a b asked d
  from_none (Whole t) (found.Whole copy) none unread here first = from_whole copy here unread none t first
  from_none (Keys m es) (found.Whole copy) none unread here first = absurd first
  from_none d (found.Keys t) none unread here first =
      let s = none.0.0 in
      let kind = kind_touched b.stripes asked.op (shown_of base) t.held (touched t here) ∙ (of.kind ∙ sym none.0.1.0) in
      let is = blank_of b s (memo_kind t.held) first.memo first.editions first.blank kind none.0.1.0 in
      let no : (o : Outcome V) → holds_call (Keys first.memo first.editions) o.op ≡ true → ⊥ =
      λ o. blank_holds b.stripes (memo_kind t.held) first.memo first.editions o.op first.blank in
      from_memo t here first.memo first.editions s none.0.1 [] [] is none.1 none.2
      (λ o held i c. absurd (no o held), λ i e at. absurd (blank_knows first.memo first.editions i e first.none at))
      (blank_editions b f x first.memo first.editions first.none) (λ o held. absurd (no o held)) d first.learnt
      (not_true (holds_call (Keys first.memo first.editions) asked.op)
      (blank_holds b.stripes (memo_kind t.held) first.memo first.editions asked.op first.blank))

  pub copies_for : (found : BaseExcerpt V) (c : Option (PrivateCopy V)) (d : PrivateCopy V) → IsOwn w a home c → IsReadOf w a home c
      → holds_of c asked.op ≡ false → IsFound base asked.op found → IsTaken b.stripes found c d → IsCopyFor w a b asked d
  copies_for q None d own was_read unheld here now = from_none d q (own b block) (was_read b block) here now
  copies_for q (Some c) d own was_read unheld here now =
      let same : own.0 ≡ b = same_Some own.0 b (sym own.1.block ∙ block) in
      from_some c d q (subst (λ (e : Block). IsOwnCopy w a home e f c) same own.1) was_read unheld here now

module _ {V : Type 0} where
  pub copies_as_reached : CopiesFor V
  copies_as_reached blocks clock values held events a b asked base q c d stripes st block of shows own was_read unheld here now =
      let o : World V = opened blocks clock values held in
      let w = run o events in
      let k = run_linked events o (opened_linked blocks clock values held stripes) in
      let allowed = world_allows blocks clock values held events a stripes in
      let guard : Allows (content w.words w.blocks) w.boosted (PutGate a asked.collection (covers_at w.words w.blocks asked)) =
      subst (λ (s : Stage V). IsAllowed w s (step_action w a s)) st allowed in
      copies_for w a b asked base k st block of shows guard q c d own was_read unheld here now

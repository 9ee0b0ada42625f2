-- What a memo keeps, of every collection that answers alike what is held. A key that is touched is of each of them, since they answer it
-- alike from then on; the answer on a held key is that of each; and so is what an accepted call makes of it, whose keys are the same.
use Rattle.std.proofs.Common.{◌≡◌, ℕ, ◌++◌, ◌<◌, Bool, true, false, cond, List, [], Option, Some, None, is_some, refl, sym, ap, subst, ◌∙◌}
use Rattle.std.proofs.Common.{true≢false}
use Rattle.std.specs.Cmp.{nat_cmp_total}
use Rattle.std.specs.Ordering.{nat_cmp, eq_by_cmp}
use Rattle.std.specs.List.{sum}
use Rattle.std.specs.FinMap.{FinMap, empty, get, get-insert, insert, len}
use Rattle.std.proofs.lemmas.Option.{same_Some, none-some}
use Rattle.seq_model.specs.declared.call.Op.{Op}
use Rattle.seq_model.specs.declared.call.Op.TheVariants.{Get, Put, Remove, Len, Count, Add, Take}
use Rattle.seq_model.specs.declared.call.Reply.{Reply}
use Rattle.seq_model.specs.declared.call.Reply.TheVariants.{Number}
use Rattle.seq_model.specs.Calls.{value_reply}
use Rattle.seq_model.specs.Counts.{Multiset, copies}
use Rattle.conflict.specs.declared.change.Change.{Change}
use Rattle.conflict.specs.declared.outcome.Outcome.{Outcome}
use Rattle.conflict.proofs.CountLemmas.{counts_all}
use Rattle.conflict.specs.Places.{key_itself}
use Rattle.conflict.specs.Rules.{applied}
use Rattle.base_map.specs.Conflicts as map
use Rattle.base_bag.specs.Conflicts as bag
use Rattle.replay_log.specs.Base.{Shown, OfMap, OfBag, OfPq, OfQueue, after, changes_of, outcome_of}
use Rattle.replay_log.specs.Parts.{MapKind, BagKind, PqKind, QueueKind}
use Rattle.replay_log.specs.declared.touch.TouchedKey.{TouchedKey}
use Rattle.replay_log.specs.declared.touch.TouchedKey.TheVariants.{Entry, Copies, Counts, Total}
use Rattle.replay_log.specs.Touches.{summed_by, touched_by}
use Rattle.shadow.specs.Memo.{IsAlike, IsCopyBy, IsCountedBy, IsOfBy, IsShown, answer_with, copies_kept, entries_after, entries_kept}
use Rattle.shadow.specs.Memo.{grown_kept, has_key, holds_with, shrunk_kept, with_count, with_entry, with_key, with_number, with_total}
use Rattle.shadow.proofs.MemoLemmas.{accepted, accepted_holds, answered, entries_same, entry_accepted}
use Rattle.shadow.proofs.MemoLemmas.{is_shown, is_shown_summed, learnt, new_map, nothing_known}
use Rattle.shadow.proofs.LengthLemmas.{counted_accepted, len_answered, totalled}

-- ---- keys held
module _ {A : Type 0} (known : FinMap nat_cmp A) (k : ℕ) (a : A) where
  inserted : (q : ℕ) (b : Bool) → eq_by_cmp nat_cmp q k ≡ b → has_key known q ≡ true → has_key (insert known k a) q ≡ true
  inserted q true e held = ap is_some (get-insert nat_cmp_total known k a q ∙ ap (λ t. cond t (Some a) (get known q)) e)
  inserted q false e held = ap is_some (get-insert nat_cmp_total known k a q ∙ ap (λ t. cond t (Some a) (get known q)) e) ∙ held

  -- with one key more the others are held too, and so is that key
  holds_others : (q : ℕ) → has_key known q ≡ true → has_key (with_key known k a) q ≡ true
  holds_others q held = at (has_key known k)
    where
      at : (b : Bool) → has_key (cond b known (insert known k a)) q ≡ true
      at true = held
      at false = inserted q (eq_by_cmp nat_cmp q k) refl held

  holds_itself : has_key (with_key known k a) k ≡ true
  holds_itself = at (has_key known k) refl
    where
      at : (b : Bool) → has_key known k ≡ b → has_key (cond b known (insert known k a)) k ≡ true
      at true e = e
      at false e = ap is_some (get-insert nat_cmp_total known k a k ∙ ap (λ t. cond t (Some a) (get known k)) (key_itself k))

some_number : (n : ℕ) (total : Option ℕ) → is_some (with_number n total) ≡ true
some_number n None = refl
some_number n (Some t) = refl

module _ {V : Type 0} where
  pub value_same : (o p : Option V) → value_reply o ≡ value_reply p → o ≡ p
  value_same None None e = refl
  value_same None (Some v) e = absurd (let z : ⊥ = cc in z)
  value_same (Some v) None e = absurd (let z : ⊥ = cc in z)
  value_same (Some v) (Some w) e = cc

  pub number_same : (c d : ℕ) → ◌≡◌ {A = Reply V} (Number c) (Number d) → c ≡ d
  number_same c d e = cc

  itself : (b s : Shown V) (es : FinMap nat_cmp (Option V)) (cs : FinMap nat_cmp ℕ) (total : Option ℕ) → IsAlike b es cs total s s
  itself b s es cs total = (refl, λ op held. refl)

  -- ---- nothing touched yet
  pub new_copy_map : (m : FinMap nat_cmp V) → IsCopyBy {V = V} (OfMap empty) empty empty None 0 0 [] (OfMap m)
  new_copy_map m (OfMap t) alike = (new_map t, (refl, λ n e. absurd (none-some n e)))
  new_copy_map m (OfBag t) alike = absurd (let z : BagKind ≡ MapKind = alike.0 in let y : ⊥ = cc in y)
  new_copy_map m (OfPq t) alike = absurd (let z : PqKind ≡ MapKind = alike.0 in let y : ⊥ = cc in y)
  new_copy_map m (OfQueue t) alike = absurd (let z : QueueKind ≡ MapKind = alike.0 in let y : ⊥ = cc in y)

  pub new_copy_bag : (m : Multiset) → IsCopyBy {V = V} (OfBag empty) empty empty None 0 0 [] (OfBag m)
  new_copy_bag m (OfBag t) alike = (nothing_known copies t, tt)
  new_copy_bag m (OfMap t) alike = absurd (let z : MapKind ≡ BagKind = alike.0 in let y : ⊥ = cc in y)
  new_copy_bag m (OfPq t) alike = absurd (let z : PqKind ≡ BagKind = alike.0 in let y : ⊥ = cc in y)
  new_copy_bag m (OfQueue t) alike = absurd (let z : QueueKind ≡ BagKind = alike.0 in let y : ⊥ = cc in y)

  -- ---- another collection that answers alike
  pub moved_copy : (b s u : Shown V) (es : FinMap nat_cmp (Option V)) (cs : FinMap nat_cmp ℕ) (total : Option ℕ) (g h : ℕ)
      (changes : List (Change V))
      → IsCopyBy b es cs total g h changes s → IsAlike b es cs total s u → IsCopyBy b es cs total g h changes u
  moved_copy b s u es cs total g h changes is alike t more =
      is t (more.0 ∙ alike.0, λ op held. more.1 op held ∙ alike.1 op held)

  -- ---- one key more
  module _ (es : FinMap nat_cmp (Option V)) (cs : FinMap nat_cmp ℕ) (total : Option ℕ) where
    more_entry : (b : FinMap nat_cmp V) (k : ℕ) (o : Option V) (op : Op V) → holds_with (OfMap b) es cs total op ≡ true
        → holds_with (OfMap b) (with_key es k o) cs total op ≡ true
    more_entry b k o (Get q) held = holds_others es k o q held
    more_entry b k o (Put q v) held = holds_others es k o q held
    more_entry b k o (Remove q) held = holds_others es k o q held
    more_entry b k o Len held = held
    more_entry b k o _ held = held

    more_count : (b : Multiset) (x n : ℕ) (op : Op V) → holds_with (OfBag b) es cs total op ≡ true
        → holds_with (OfBag b) es (with_key cs x n) total op ≡ true
    more_count b x n (Count q) held = holds_others cs x n q held
    more_count b x n (Add q) held = holds_others cs x n q held
    more_count b x n (Take q) held = holds_others cs x n q held
    more_count b x n _ held = held

    more_total : (b : FinMap nat_cmp V) (n : ℕ) (op : Op V) → holds_with (OfMap b) es cs total op ≡ true
        → holds_with (OfMap b) es cs (with_number n total) op ≡ true
    more_total b n (Get q) held = held
    more_total b n (Put q v) held = held
    more_total b n (Remove q) held = held
    more_total b n Len held = some_number n total
    more_total b n _ held = held

  module _ (g h : ℕ) (changes : List (Change V)) where
    entry_copied : (b m : FinMap nat_cmp V) (es : FinMap nat_cmp (Option V)) (cs : FinMap nat_cmp ℕ) (total : Option ℕ) (k : ℕ)
        → IsCopyBy (OfMap b) es cs total g h changes (OfMap m)
        → IsCopyBy (OfMap b) (with_key es k (get m k)) cs total g h changes (OfMap m)
    entry_copied b m es cs total k is (OfMap t) alike =
        let both = is (OfMap t) (alike.0, λ op held. alike.1 op (more_entry es cs total b k (get m k) op held)) in
        let here = alike.1 (Get k) (holds_itself es k (get m k)) in
        let same : get t k ≡ get m k = value_same _ _ (ap (λ (o : Outcome V). o.reply) (same_Some _ _ here)) in
        (learnt get es t (applied (map.rules V) changes t) k (get m k) same both.0, both.1)
    entry_copied b m es cs total k is (OfBag t) alike = absurd (let z : BagKind ≡ MapKind = alike.0 in let y : ⊥ = cc in y)
    entry_copied b m es cs total k is (OfPq t) alike = absurd (let z : PqKind ≡ MapKind = alike.0 in let y : ⊥ = cc in y)
    entry_copied b m es cs total k is (OfQueue t) alike = absurd (let z : QueueKind ≡ MapKind = alike.0 in let y : ⊥ = cc in y)

    count_copied : (b m : Multiset) (es : FinMap nat_cmp (Option V)) (cs : FinMap nat_cmp ℕ) (total : Option ℕ) (x : ℕ)
        → IsCopyBy (OfBag b) es cs total g h changes (OfBag m)
        → IsCopyBy (OfBag b) es (with_key cs x (copies m x)) total g h changes (OfBag m)
    count_copied b m es cs total x is (OfBag t) alike =
        let both = is (OfBag t) (alike.0, λ op held. alike.1 op (more_count es cs total b x (copies m x) op held)) in
        let here = alike.1 (Count x) (holds_itself cs x (copies m x)) in
        let same : copies t x ≡ copies m x = number_same _ _ (ap (λ (o : Outcome V). o.reply) (same_Some _ _ here)) in
        (learnt copies cs t (applied (bag.rules V) changes t) x (copies m x) same both.0, tt)
    count_copied b m es cs total x is (OfMap t) alike = absurd (let z : MapKind ≡ BagKind = alike.0 in let y : ⊥ = cc in y)
    count_copied b m es cs total x is (OfPq t) alike = absurd (let z : PqKind ≡ BagKind = alike.0 in let y : ⊥ = cc in y)
    count_copied b m es cs total x is (OfQueue t) alike = absurd (let z : QueueKind ≡ BagKind = alike.0 in let y : ⊥ = cc in y)

    total_copied : (b m : FinMap nat_cmp V) (es : FinMap nat_cmp (Option V)) (cs : FinMap nat_cmp ℕ) (total : Option ℕ)
        → IsCopyBy (OfMap b) es cs total g h changes (OfMap m)
        → IsCopyBy (OfMap b) es cs (with_number (len m) total) g h changes (OfMap m)
    total_copied b m es cs total is (OfMap t) alike =
        let both = is (OfMap t) (alike.0, λ op held. alike.1 op (more_total es cs total b (len m) op held)) in
        let here = alike.1 Len (some_number (len m) total) in
        let same : len t ≡ len m = number_same _ _ (ap (λ (o : Outcome V). o.reply) (same_Some _ _ here)) in
        (both.0, totalled (len m) total g h t (applied (map.rules V) changes t) same both.1)
    total_copied b m es cs total is (OfBag t) alike = absurd (let z : BagKind ≡ MapKind = alike.0 in let y : ⊥ = cc in y)
    total_copied b m es cs total is (OfPq t) alike = absurd (let z : PqKind ≡ MapKind = alike.0 in let y : ⊥ = cc in y)
    total_copied b m es cs total is (OfQueue t) alike = absurd (let z : QueueKind ≡ MapKind = alike.0 in let y : ⊥ = cc in y)

    abbrev With : Shown V → FinMap nat_cmp (Option V) → FinMap nat_cmp ℕ → Option ℕ → Shown V → TouchedKey V → Type 0
    With b es cs total s t = IsCopyBy b (with_entry t es) (with_count t cs) (with_total t total) g h changes s

    map_copied : (n : ℕ) (t : TouchedKey V) (b m : FinMap nat_cmp V) (es : FinMap nat_cmp (Option V)) (cs : FinMap nat_cmp ℕ)
        (total : Option ℕ)
        → 0 < n → IsShown n t (OfMap m) → IsCopyBy (OfMap b) es cs total g h changes (OfMap m) → With (OfMap b) es cs total (OfMap m) t
    map_copied n (Entry k o) b m es cs total pos shown is =
        subst (λ x. With (OfMap b) es cs total (OfMap m) (Entry k x)) shown (entry_copied b m es cs total k is)
    map_copied n (Counts ns) b m es cs total pos shown is =
        subst (λ x. With (OfMap b) es cs total (OfMap m) (Total x)) (sym (ap sum shown ∙ counts_all n pos m))
        (total_copied b m es cs total is)
    map_copied n (Total t) b m es cs total pos shown is =
        subst (λ x. With (OfMap b) es cs total (OfMap m) (Total x)) shown (total_copied b m es cs total is)
    map_copied n (Copies x c) b m es cs total pos shown is = absurd shown

    bag_copied : (n : ℕ) (t : TouchedKey V) (b m : Multiset) (es : FinMap nat_cmp (Option V)) (cs : FinMap nat_cmp ℕ) (total : Option ℕ)
        → IsShown n t (OfBag m) → IsCopyBy (OfBag b) es cs total g h changes (OfBag m) → With (OfBag b) es cs total (OfBag m) t
    bag_copied n (Copies x c) b m es cs total shown is =
        subst (λ y. With (OfBag b) es cs total (OfBag m) (Copies x y)) shown (count_copied b m es cs total x is)
    bag_copied n (Entry k o) b m es cs total shown is = absurd shown
    bag_copied n (Counts ns) b m es cs total shown is = absurd shown
    bag_copied n (Total t) b m es cs total shown is = absurd shown

    shown_copy : (n : ℕ) (t : TouchedKey V) (b s : Shown V) (es : FinMap nat_cmp (Option V)) (cs : FinMap nat_cmp ℕ)
        (total : Option ℕ)
        → 0 < n → IsShown n t s → IsCopyBy b es cs total g h changes s → With b es cs total s t
    shown_copy n t (OfMap b) (OfMap m) es cs total pos shown is = map_copied n t b m es cs total pos shown is
    shown_copy n t (OfBag b) (OfBag m) es cs total pos shown is = bag_copied n t b m es cs total shown is
    shown_copy n t (OfMap b) (OfBag m) es cs total pos shown is = absurd (is (OfBag m) (itself (OfMap b) (OfBag m) es cs total)).0
    shown_copy n t (OfMap b) (OfPq m) es cs total pos shown is = absurd (is (OfPq m) (itself (OfMap b) (OfPq m) es cs total)).0
    shown_copy n t (OfMap b) (OfQueue m) es cs total pos shown is = absurd (is (OfQueue m) (itself (OfMap b) (OfQueue m) es cs total)).0
    shown_copy n t (OfBag b) (OfMap m) es cs total pos shown is = absurd (is (OfMap m) (itself (OfBag b) (OfMap m) es cs total)).0
    shown_copy n t (OfBag b) (OfPq m) es cs total pos shown is = absurd (is (OfPq m) (itself (OfBag b) (OfPq m) es cs total)).0
    shown_copy n t (OfBag b) (OfQueue m) es cs total pos shown is = absurd (is (OfQueue m) (itself (OfBag b) (OfQueue m) es cs total)).0
    shown_copy n t (OfPq b) s es cs total pos shown is = absurd (is s (itself (OfPq b) s es cs total)).0
    shown_copy n t (OfQueue b) s es cs total pos shown is = absurd (is s (itself (OfQueue b) s es cs total)).0

    pub touched_copy : (n : ℕ) (op : Op V) (t : TouchedKey V) (b s : Shown V) (es : FinMap nat_cmp (Option V)) (cs : FinMap nat_cmp ℕ)
        (total : Option ℕ)
        → 0 < n → touched_by n op s ≡ Some t → IsCopyBy b es cs total g h changes s → With b es cs total s t
    touched_copy n op t b s es cs total pos e is = shown_copy n t b s es cs total pos (is_shown n op s t e) is

    pub summed_copy : (n : ℕ) (op : Op V) (t : TouchedKey V) (b s : Shown V) (es : FinMap nat_cmp (Option V)) (cs : FinMap nat_cmp ℕ)
        (total : Option ℕ)
        → 0 < n → summed_by n op s ≡ Some t → IsCopyBy b es cs total g h changes s → With b es cs total s t
    summed_copy n op t b s es cs total pos e is = shown_copy n t b s es cs total pos (is_shown_summed n op s t e) is

  -- ---- answers, and what is accepted
  abbrev Both : Shown V → FinMap nat_cmp (Option V) → FinMap nat_cmp ℕ → Option ℕ → (g h : ℕ) → List (Change V) → Shown V → Type 0
  Both b es cs total g h changes s = IsOfBy b es cs changes s × IsCountedBy b total g h changes s

  map_answered : (op : Op V) (b : FinMap nat_cmp V) (s : Shown V) (es : FinMap nat_cmp (Option V)) (cs : FinMap nat_cmp ℕ)
      (total : Option ℕ) (g h : ℕ)
      (changes : List (Change V)) (o : Outcome V) → holds_with (OfMap b) es cs total op ≡ true → Both (OfMap b) es cs total g h changes s
      → answer_with (OfMap b) es cs total g h op ≡ Some o → outcome_of op (after changes s) ≡ Some o
  map_answered Len b s es cs total g h changes o held is e = len_answered (OfMap b) s es cs total g h changes o held is.1 e
  map_answered (Get k) b s es cs total g h changes o held is e = answered (Get k) (OfMap b) s es cs changes o held is.0 e
  map_answered (Put k v) b s es cs total g h changes o held is e = answered (Put k v) (OfMap b) s es cs changes o held is.0 e
  map_answered (Remove k) b s es cs total g h changes o held is e = answered (Remove k) (OfMap b) s es cs changes o held is.0 e
  map_answered _ b s es cs total g h changes o held is e = absurd (true≢false (sym held))

  both_answered : (op : Op V) (b s : Shown V) (es : FinMap nat_cmp (Option V)) (cs : FinMap nat_cmp ℕ) (total : Option ℕ) (g h : ℕ)
      (changes : List (Change V)) (o : Outcome V) → holds_with b es cs total op ≡ true → Both b es cs total g h changes s
      → answer_with b es cs total g h op ≡ Some o → outcome_of op (after changes s) ≡ Some o
  both_answered op (OfMap b) s es cs total g h changes o held is e = map_answered op b s es cs total g h changes o held is e
  both_answered op (OfBag b) s es cs total g h changes o held is e = answered op (OfBag b) s es cs changes o held is.0 e
  both_answered op (OfPq b) s es cs total g h changes o held is e = absurd is.0
  both_answered op (OfQueue b) s es cs total g h changes o held is e = absurd is.0

  pub copy_answered : (op : Op V) (b s : Shown V) (es : FinMap nat_cmp (Option V)) (cs : FinMap nat_cmp ℕ) (total : Option ℕ) (g h : ℕ)
      (changes : List (Change V)) (o : Outcome V) → holds_with b es cs total op ≡ true → IsCopyBy b es cs total g h changes s
      → answer_with b es cs total g h op ≡ Some o → outcome_of op (after changes s) ≡ Some o
  copy_answered op b s es cs total g h changes o held is e =
      both_answered op b s es cs total g h changes o held (is s (itself b s es cs total)) e

  same_entries : (op : Op V) (r : Reply V) (b : FinMap nat_cmp V) (es : FinMap nat_cmp (Option V)) (cs : FinMap nat_cmp ℕ)
      (total : Option ℕ) (q : ℕ)
      → holds_with (OfMap b) es cs total op ≡ true → has_key (entries_after op r es) q ≡ has_key es q
  same_entries (Put k v) r b es cs total q held = entries_same (Put k v) r b es cs q held
  same_entries (Remove k) r b es cs total q held = entries_same (Remove k) r b es cs q held
  same_entries _ r b es cs total q held = refl

  pub copy_holds : (o : Outcome V) (b : Shown V) (es : FinMap nat_cmp (Option V)) (cs : FinMap nat_cmp ℕ) (total : Option ℕ) (op : Op V)
      → holds_with b es cs total o.op ≡ true → holds_with b (entries_kept b o es)
      (copies_kept b o cs) total op ≡ holds_with b es cs total op
  copy_holds o (OfMap b) es cs total (Get q) held = same_entries o.op o.reply b es cs total q held
  copy_holds o (OfMap b) es cs total (Put q v) held = same_entries o.op o.reply b es cs total q held
  copy_holds o (OfMap b) es cs total (Remove q) held = same_entries o.op o.reply b es cs total q held
  copy_holds o (OfMap b) es cs total Len held = refl
  copy_holds o (OfMap b) es cs total _ held = refl
  copy_holds o (OfBag b) es cs total op held = accepted_holds o (OfBag b) es cs op held
  copy_holds o (OfPq b) es cs total op held = refl
  copy_holds o (OfQueue b) es cs total op held = refl

  both_accepted : (o : Outcome V) (b s : Shown V) (es : FinMap nat_cmp (Option V)) (cs : FinMap nat_cmp ℕ) (total : Option ℕ)
      (changes : List (Change V))
      → holds_with b es cs total o.op ≡ true → IsOfBy b es cs changes s → IsOfBy b (entries_kept b o es) (copies_kept b o cs)
      (changes ++ changes_of o b) s
  both_accepted o (OfMap b) (OfMap m) es cs total changes held is = entry_accepted o.op o.reply es changes m is
  both_accepted o (OfBag b) s es cs total changes held is = accepted o (OfBag b) s es cs changes held is
  both_accepted o (OfMap b) (OfBag m) es cs total changes held is = absurd is
  both_accepted o (OfMap b) (OfPq m) es cs total changes held is = absurd is
  both_accepted o (OfMap b) (OfQueue m) es cs total changes held is = absurd is
  both_accepted o (OfPq b) s es cs total changes held is = absurd is
  both_accepted o (OfQueue b) s es cs total changes held is = absurd is

  pub copy_accepted : (o : Outcome V) (b s : Shown V) (es : FinMap nat_cmp (Option V)) (cs : FinMap nat_cmp ℕ) (total : Option ℕ) (g h : ℕ)
      (changes : List (Change V)) → holds_with b es cs total o.op ≡ true → answer_with b es cs total g h o.op ≡ Some o
      → IsCopyBy b es cs total g h changes s
      → IsCopyBy b (entries_kept b o es) (copies_kept b o cs) total (grown_kept b o g) (shrunk_kept b o h) (changes ++ changes_of o b) s
  copy_accepted o b s es cs total g h changes held e is t alike =
      let both = is t (alike.0, λ op kept. alike.1 op (copy_holds o b es cs total op held ∙ kept)) in
      let there = both_answered o.op b t es cs total g h changes o held both e in
      (both_accepted o b t es cs total changes held both.0, counted_accepted o b t total g h changes there both.1)

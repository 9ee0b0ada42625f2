-- A call that changes nothing leaves the state.
use Rattle.std.proofs.Common.{◌≡◌, ℕ, ◌+◌, true, false, cond, ◌-◌, ◌++◌, get_or, set, unwrap_or, List, [], ◌∷◌, Option, Some, None, refl}
use Rattle.std.proofs.Common.{sym, ◌∙◌, ap}
use Rattle.std.specs.Prelude.{option_map, option_and_then, nat_lt, ◌==◌, slice_get, slice_set, length}
use Rattle.std.specs.Option.{option_map_or}
use Rattle.std.specs.Cmp.{nat_cmp_total}
use Rattle.std.specs.Ordering.{nat_cmp, eq_by_cmp, is_eq}
use Rattle.std.proofs.lemmas.Bool.{false≢true}
use Rattle.std.proofs.lemmas.List.{set-get_or}
use Rattle.std.proofs.lemmas.Option.{unwrap_or-slice_get}
use Rattle.seq_model.proofs.EntryLemmas.{by_cases}
use Rattle.seq_model.specs.declared.limits.TheConstants.{COPY_LIMIT, INDEX_LIMIT}
use Rattle.std.specs.FinMap.{FinMap, get, remove, get-remove, same_map, nat_cmp-IsAntisymmetric}
use Rattle.seq_model.specs.declared.call.Call.{Call}
use Rattle.seq_model.specs.declared.call.Op.{Op}
use Rattle.seq_model.specs.declared.call.Op.TheVariants.{Read, Write, Get, Put, Remove, Len, Count, Add, Take, Least, Insert, TakeLeast}
use Rattle.seq_model.specs.declared.call.Op.TheVariants.{Enqueue, Dequeue, Peek}
use Rattle.seq_model.specs.declared.call.Reply.{Reply}
use Rattle.seq_model.specs.declared.call.Reply.TheVariants.{Done, Full, Nothing, Value, Found, Number, Yes, No}
use Rattle.seq_model.specs.declared.held.Held.{Held}
use Rattle.seq_model.specs.declared.held.Held.TheVariants.{Map, Bag, Pq, Queue}
use Rattle.seq_model.specs.Calls.{map_call, multiset_call, priority_queue_call, queue_call, held_call, value_reply, add_call}
use Rattle.seq_model.specs.Calls.{take_least_call}
use Rattle.seq_model.specs.Counts.{Multiset, copies, with_copies, least}
use Rattle.seq_model.specs.Contents.{Contents, op_call, collection_call}
use Rattle.seq_model.specs.Runs.{reply_of, after_call}
use Rattle.seq_model.specs.Changes.{changes}

-- a key that is not there: to remove it changes nothing
remove_absent : {V : Type 0} (m : FinMap nat_cmp V) (k : ℕ) → get m k ≡ None → remove m k ≡ m
remove_absent m k gone =
    same_map nat_cmp_total nat_cmp-IsAntisymmetric (remove m k) m (λ q. get-remove nat_cmp_total m k q ∙ without q)
  where
    without : (q : ℕ) → cond (eq_by_cmp nat_cmp q k) None (get m q) ≡ get m q
    without q = by_cases q k (λ r. cond (is_eq r) None (get m q) ≡ get m q) (λ _. refl) (λ same. sym (ap (get m) same ∙ gone)) (λ _. refl)

-- an answer: what is replied, and what is left
abbrev some : {A B : Type 0} → A → B → Option (A × B)
some a s = Some (a, s)

replied : {A B : Type 0} (a b : A) (s t : B) → some a s ≡ some b t → a ≡ b
replied {A} {B} a b s t h = ap (λ (o : Option (A × B)). option_map_or (λ p. p.0) o a) h

left : {A B : Type 0} (a b : A) (s t : B) → some a s ≡ some b t → s ≡ t
left {A} {B} a b s t h = ap (λ (o : Option (A × B)). option_map_or (λ p. p.1) o s) h

none : {A : Type 0} {B : Type 0} (a : A) → None ≡ Some a → B
none a h = absurd (cc)

module _ {V : Type 0} where
  changed : {B : Type 0} (op : Op V) (r q : Reply V) → q ≡ r → changes op q ≡ true → changes op r ≡ false → B
  changed op r q e yes-q no-r = absurd (false≢true (sym no-r ∙ ap (changes op) (sym e) ∙ yes-q))

  map_unchanged : (op : Op V) (m n : FinMap nat_cmp V) (r : Reply V) → map_call op m ≡ some r n → changes op r ≡ false → n ≡ m
  map_unchanged (Get k) m n r h c = sym (left _ _ m n h)
  map_unchanged (Put k v) m n r h c = changed (Put k v) r r refl refl c
  map_unchanged (Remove k) m n r h c =
      elim (get m k) as (λ o. get m k ≡ o → some (value_reply o) (remove m k) ≡ some r n → n ≡ m) [
        | None ↦ λ gone g. sym (left _ _ (remove m k) n g) ∙ remove_absent m k gone
        | Some v ↦ λ there g. changed (Remove k) r (Value v) (replied (Value v) r _ _ g) refl c
      ] refl h
  map_unchanged Len m n r h c = sym (left _ _ m n h)
  map_unchanged op m n r h c = none _ h

  add_unchanged : (op : Op V) (x : ℕ) (m n : Multiset) (r : Reply V) → changes op Done ≡ true → Some (add_call x m) ≡ some r n
      → changes op r ≡ false → n ≡ m
  add_unchanged op x m n r adds h c =
      elim (nat_lt (copies m x) COPY_LIMIT) as (λ b. Some (cond {A = Reply V × Multiset} b (Done, with_copies m x (copies m x + 1))
      (Full, m)) ≡ some r n → n ≡ m) [
        | true ↦ λ g. changed op r Done (replied Done r _ _ g) adds c
        | false ↦ λ g. sym (left Full r m n g)
      ] h

  multiset_unchanged : (op : Op V) (m n : Multiset) (r : Reply V) → multiset_call op m ≡ some r n → changes op r ≡ false → n ≡ m
  multiset_unchanged (Count x) m n r h c = sym (left _ _ m n h)
  multiset_unchanged (Add x) m n r h c = add_unchanged (Add x) x m n r refl h c
  multiset_unchanged (Take x) m n r h c =
      elim (copies m x == 0) as (λ b. Some (cond {A = Reply V × Multiset} b (No, m) (Yes, with_copies m x (copies m x - 1))) ≡ some r n
      → n ≡ m) [
        | true ↦ λ g. sym (left No r m n g)
        | false ↦ λ g. changed (Take x) r Yes (replied Yes r _ _ g) refl c
      ] h
  multiset_unchanged op m n r h c = none _ h

  priority_queue_unchanged : (op : Op V) (m n : Multiset) (r : Reply V) → priority_queue_call op m ≡ some r n → changes op r ≡ false → n ≡ m
  priority_queue_unchanged Least m n r h c = sym (left _ _ m n h)
  priority_queue_unchanged (Insert x) m n r h c = add_unchanged (Insert x) x m n r refl h c
  priority_queue_unchanged TakeLeast m n r h c =
      elim (least m) as (λ o. Some (take_least_call o m) ≡ some r n → n ≡ m) [
        | None ↦ λ g. sym (left Nothing r m n g)
        | Some x ↦ λ g. changed TakeLeast r (Found x) (replied (Found x) r _ _ g) refl c
      ] h
  priority_queue_unchanged op m n r h c = none _ h

  -- a queue's answer, as the collection's
  abbrev as_held : Reply V × ℕ × List ℕ → Reply V × Held V
  as_held r = (r.0, Queue r.1 r.2)

  queue_unchanged : (op : Op V) (head : ℕ) (items : List ℕ) (n : Held V) (r : Reply V)
      → option_map as_held (queue_call op head items) ≡ some r n → changes op r ≡ false → n ≡ Queue head items
  queue_unchanged (Enqueue x) head items n r h c =
      elim (nat_lt (head + length items) INDEX_LIMIT) as (λ b. Some
      (as_held (cond {A = Reply V × ℕ × List ℕ} b (Done, head, items ++ x ∷ []) (Full, head, items))) ≡ some r n
      → n ≡ Queue head items) [
        | true ↦ λ g. changed (Enqueue x) r Done (replied Done r _ _ g) refl c
        | false ↦ λ g. sym (left Full r (Queue head items) n g)
      ] h
  queue_unchanged Dequeue head [] n r h c = sym (left Nothing r (Queue head []) n h)
  queue_unchanged Dequeue head (x ∷ items) n r h c = changed Dequeue r (Found x) (replied (Found x) r _ _ h) refl c
  queue_unchanged Peek head items n r h c = sym (left _ _ (Queue head items) n h)
  queue_unchanged Len head items n r h c = sym (left _ _ (Queue head items) n h)
  queue_unchanged op head items n r h c = none _ h

  -- the answer on one kind, as the collection's
  of_kind : {A : Type 0} (wrap : A → Held V) (m : A) (r : Reply V) (n : Held V) (answer : Option (Reply V × A))
      → ((k : A) → answer ≡ some r k → k ≡ m) → option_map {U = Reply V × Held V} (λ a. (a.0, wrap a.1)) answer ≡ some r n → n ≡ wrap m
  of_kind wrap m r n None same h = none _ h
  of_kind wrap m r n (Some a) same h =
      sym (left a.0 r (wrap a.1) n h) ∙ ap wrap (same a.1 (ap (λ q. some q a.1) (replied a.0 r (wrap a.1) n h)))

  held_unchanged : (op : Op V) (m n : Held V) (r : Reply V) → held_call op m ≡ some r n → changes op r ≡ false → n ≡ m
  held_unchanged op (Map m) n r h c = of_kind Map m r n (map_call op m) (λ k e. map_unchanged op m k r e c) h
  held_unchanged op (Bag m) n r h c = of_kind Bag m r n (multiset_call op m) (λ k e. multiset_unchanged op m k r e c) h
  held_unchanged op (Pq m) n r h c = of_kind Pq m r n (priority_queue_call op m) (λ k e. priority_queue_unchanged op m k r e c) h
  held_unchanged op (Queue head items) n r h c = queue_unchanged op head items n r h c

  abbrev put_back : Contents V → ℕ → Reply V × Held V → Reply V × Contents V
  put_back s t r = (r.0, record s { held = slice_set s.held t r.1 })

  collection_unchanged : (op : Op V) (t : ℕ) (s : Contents V) (r : Reply V) → option_map (λ a. a.0) (collection_call op t s) ≡ Some r
      → changes op r ≡ false → option_map_or (λ a. a.1) (collection_call op t s) s ≡ s
  collection_unchanged op t s r h c =
      elim (slice_get s.held t) as (λ o. slice_get s.held t ≡ o
      → option_map (λ a. a.0) (option_and_then (λ m. option_map (put_back s t) (held_call op m)) o) ≡ Some r
      → option_map_or (λ a. a.1) (option_and_then (λ m. option_map (put_back s t) (held_call op m)) o) s ≡ s) [
        | None ↦ λ e g. refl
        | Some m ↦ λ e g. at m (held_call op m) e (λ n q. held_unchanged op m n r q c) g
      ] refl h
    where
      at : (m : Held V) (answer : Option (Reply V × Held V)) → slice_get s.held t ≡ Some m → ((n : Held V) → answer ≡ some r n → n ≡ m)
          → option_map (λ a. a.0) (option_map (put_back s t) answer) ≡ Some r
          → option_map_or (λ a. a.1) (option_map (put_back s t) answer) s ≡ s
      at m None e same g = refl
      at m (Some a) e same g =
          let reply : a.0 ≡ r = ap (λ o. unwrap_or o a.0) g in
          let back : a.1 ≡ get_or s.held t m = same a.1 (ap (λ q. some q a.1) reply) ∙ ap (λ o. unwrap_or o m) (sym e)
          ∙ unwrap_or-slice_get s.held t m in
          ap (λ held. record s { held = held }) (ap (set s.held t) back ∙ set-get_or s.held t m)

  op_unchanged : (op : Op V) (t : ℕ) (s : Contents V) (r : Reply V) → option_map (λ a. a.0) (op_call op t s) ≡ Some r
      → changes op r ≡ false → option_map_or (λ a. a.1) (op_call op t s) s ≡ s
  op_unchanged Read t s r h c = elim (slice_get s.words t) as
      (λ o. option_map_or (λ a. a.1) (option_map {U = Reply V × Contents V} (λ w. (Number w, s)) o) s ≡ s) [ None ↦ refl | Some w ↦ refl ]
  op_unchanged (Write w) t s r h c = changed (Write w) r r refl refl c
  op_unchanged op t s r h c = collection_unchanged op t s r h c

  -- a call that changes nothing leaves the state
  pub unchanged : (call : Call V) (r : Reply V) (s : Contents V) → reply_of call s ≡ Some r → changes call.op r ≡ false
      → after_call call s ≡ s
  unchanged call r s h c = op_unchanged call.op call.target s r h c

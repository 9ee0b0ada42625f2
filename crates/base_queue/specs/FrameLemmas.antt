-- The frame laws of a queue.
use Rattle.std.proofs.Common.{◌≡◌, ℕ, zero, suc, ◌+◌, ◌-◌, ◌<◌, ◌≤◌, inl, inr, Bool, true, false, cond, nat_lt, List, [], ◌∷◌, ◌++◌, length}
use Rattle.std.proofs.Common.{Option, Some, None, Contains, refl, sym, ap, subst, ◌∙◌, arith}
use Rattle.std.specs.Prelude.{map}
use Rattle.std.specs.Cmp.{nat_cmp_total}
use Rattle.std.specs.Ordering.{nat_cmp, eq_by_cmp}
use Rattle.std.specs.declared.cmp.Ordering.TheVariants.{Less}
use Rattle.std.specs.FinMap.{FinMap, empty, entries, values, get, insert, remove, same_map, put, entries-insert, get-empty, get-insert}
use Rattle.std.specs.FinMap.{get-remove, len-entries, len-empty, nat_cmp-IsAntisymmetric}
use Rattle.std.specs.FinMap.Entries.{by_order}
use Rattle.std.proofs.lemmas.Bool.Decides.{nat_tests}
use Rattle.std.proofs.lemmas.Option.{same_Some, none-some}
use Rattle.seq_model.specs.declared.call.Op.{Op}
use Rattle.seq_model.specs.declared.call.Op.TheVariants.{Enqueue, Dequeue, Peek, Len}
use Rattle.seq_model.specs.declared.call.Reply.{Reply}
use Rattle.seq_model.specs.declared.call.Reply.TheVariants.{Done, Full, Found, Number}
use Rattle.seq_model.specs.declared.held.Held.{Held}
use Rattle.seq_model.specs.declared.held.Held.TheVariants.{Map, Bag, Pq, Queue}
use Rattle.seq_model.specs.declared.limits.TheConstants.{INDEX_LIMIT}
use Rattle.seq_model.specs.Calls.{found_reply, held_call}
use Rattle.seq_model.proofs.LogicLemmas.{some-none}
use Rattle.conflict.specs.declared.change.Change.TheVariants as change
use Rattle.conflict.specs.declared.outcome.Outcome.{Outcome}
use Rattle.conflict.specs.declared.outcome.Note.{Note}
use Rattle.conflict.specs.declared.outcome.Note.TheVariants.{Plain, Index}
use Rattle.conflict.specs.Rules.{FrameLaws, Commute, Agree, applied, LegalWhereReadsAgree, ChangesOnlyWrites, WritesWhereItChanges}
use Rattle.conflict.specs.Rules.{OutcomesWriteWhereTheyChange, ChangesByPart, FollowsCall, AnswersItsKind, WritesWithinReads}
use Rattle.conflict.specs.Rules.{ReadsLocations, ViewsDecide}
use Rattle.conflict.specs.Commute.{commute}
use Rattle.conflict.specs.Places.{in_single, first_of_two, second_of_two, of_none, of_single, of_two, mod_below, same_key, key_itself}
use Rattle.conflict.specs.Footprints.{queue_reads, queue_writes, cell_location}
use Rattle.base_queue.specs.Conflicts.{Shown, outcome_of, reads_of, changes_by, changes_of}
use Rattle.base_queue.specs.Conflicts.{look, point_location, cells_from, queue_view, view_of}
use Rattle.base_queue.specs.Conflicts.{rules}

-- ---- cells
pub below_cells : (h q : ℕ) (items : List ℕ) → q < h → get (cells_from h items) q ≡ None
below_cells h q [] lt = get-empty nat_cmp q
below_cells h q (x ∷ items) lt =
    let other : eq_by_cmp nat_cmp q h ≡ false = grind (arith, nat_tests) in
    get-insert nat_cmp_total (cells_from (suc h) items) h x q ∙ ap (λ b. cond b (Some x) (get (cells_from (suc h) items) q)) other
    ∙ below_cells (suc h) q items (omega arith)

first_cell : (h x : ℕ) (items : List ℕ) → get (cells_from h (x ∷ items)) h ≡ Some x
first_cell h x items = get-insert nat_cmp_total (cells_from (suc h) items) h x h
    ∙ ap (λ b. cond b (Some x) (get (cells_from (suc h) items) h)) (key_itself h)

pub remove_new : (m : FinMap nat_cmp ℕ) (k v : ℕ) → get m k ≡ None → remove (insert m k v) k ≡ m
remove_new m k v none = same_map nat_cmp_total nat_cmp-IsAntisymmetric _ _ (λ q.
    get-remove nat_cmp_total (insert m k v) k q ∙ elim (eq_by_cmp nat_cmp q k) as
    (λ b. eq_by_cmp nat_cmp q k ≡ b → cond b None (get (insert m k v) q) ≡ get m q) [
      | true ↦ λ is. sym (ap (get m) (same_key q k is) ∙ none)
      | false ↦ λ is. get-insert nat_cmp_total m k v q ∙ ap (λ b. cond b (Some v) (get m q)) is
    ] refl)

inserts_commute : (m : FinMap nat_cmp ℕ) (k v j w : ℕ) → k < j → insert (insert m k v) j w ≡ insert (insert m j w) k v
inserts_commute m k v j w lt = same_map nat_cmp_total nat_cmp-IsAntisymmetric _ _ (λ q.
    get-insert nat_cmp_total (insert m k v) j w q ∙ ap (cond (eq_by_cmp nat_cmp q j) (Some w)) (get-insert nat_cmp_total m k v q)
    ∙ elim (eq_by_cmp nat_cmp q j) as (λ b. eq_by_cmp nat_cmp q j ≡ b
    → cond b (Some w) (cond (eq_by_cmp nat_cmp q k) (Some v) (get m q))
    ≡ cond (eq_by_cmp nat_cmp q k) (Some v) (cond b (Some w) (get m q))) [
      | true ↦ λ is.
          let same = same_key q j is in
          let other : eq_by_cmp nat_cmp q k ≡ false = grind (arith, nat_tests) in
          ap (λ b. cond b (Some v) (Some w)) (sym other)
      | false ↦ λ is. refl
    ] refl
    ∙ sym (get-insert nat_cmp_total (insert m j w) k v q ∙ ap (cond (eq_by_cmp nat_cmp q k) (Some v)) (get-insert nat_cmp_total m j w q)))

pub next_cell : (h x : ℕ) (items : List ℕ) → insert (cells_from h items) (h + length items) x ≡ cells_from h (items ++ x ∷ [])
next_cell h x [] = let e : h + 0 ≡ h = omega arith in ap (λ k. insert empty k x) e
next_cell h x (y ∷ items) =
    let e : h + suc (length items) ≡ suc h + length items = omega arith in
    ap (λ k. insert (cells_from h (y ∷ items)) k x) e
    ∙ inserts_commute (cells_from (suc h) items) h y (suc h + length items) x (omega arith)
    ∙ ap (λ m. insert m h y) (next_cell (suc h) x items)

length_pushed : (x : ℕ) (items : List ℕ) → length (items ++ x ∷ []) ≡ length items + 1
length_pushed x [] = refl
length_pushed x (y ∷ items) = let e = length_pushed x items in omega arith

abbrev indexed : ℕ → List ℕ → List (ℕ × ℕ)
indexed h [] = []
indexed h (x ∷ items) = (h, x) ∷ indexed (suc h) items

put_first : (h x : ℕ) (items : List ℕ) → put nat_cmp h x (indexed (suc h) items) ≡ (h, x) ∷ indexed (suc h) items
put_first h x [] = refl
put_first h x (y ∷ items) =
    let less : nat_cmp h (suc h) ≡ Less = grind (arith, nat_tests) in
    ap (λ r. by_order r ((h, x) ∷ (suc h, y) ∷ indexed (suc (suc h)) items) ((suc h, x) ∷ indexed (suc (suc h)) items)
    ((suc h, y) ∷ put nat_cmp h x (indexed (suc (suc h)) items))) less

no_entries : (es : List (ℕ × ℕ)) → length es ≡ 0 → es ≡ []
no_entries [] e = refl
no_entries (x ∷ es) e = absurd (omega arith)

pub cell_entries : (h : ℕ) (items : List ℕ) → entries (cells_from h items) ≡ indexed h items
cell_entries h [] = no_entries _ (sym (len-entries empty) ∙ len-empty nat_cmp ℕ)
cell_entries h (x ∷ items) = entries-insert nat_cmp_total (cells_from (suc h) items) h x
    ∙ ap (put nat_cmp h x) (cell_entries (suc h) items) ∙ put_first h x items

indexed_values : (h : ℕ) (items : List ℕ) → map (λ (e : ℕ × ℕ). e.1) (indexed h items) ≡ items
indexed_values h [] = refl
indexed_values h (x ∷ items) = ap (λ t. x ∷ t) (indexed_values (suc h) items)

pub cell_values : (h : ℕ) (items : List ℕ) → values (cells_from h items) ≡ items
cell_values h items = ap (map (λ (e : ℕ × ℕ). e.1)) (cell_entries h items) ∙ indexed_values h items

-- ---- points and places
shown_decided : (s t : Shown) → ((q : ℕ) → look s q ≡ look t q) → s ≡ t
shown_decided s t same =
    let cells : s.cells ≡ t.cells = same_map nat_cmp_total nat_cmp-IsAntisymmetric _ _ (λ q. same (suc (suc q))) in
    let head : s.head ≡ t.head = same_Some _ _ (same 0) in
    let tail : s.tail ≡ t.tail = same_Some _ _ (same 1) in
    λ i. record { cells = cells i; head = head i; tail = tail i }

place_below : (n q : ℕ) → 0 < n → point_location n q < suc (suc n)
place_below n zero pos = omega arith
place_below n (suc zero) pos = omega arith
place_below n (suc (suc index)) pos = let lt = mod_below index n pos in omega arith

abbrev Same : ℕ → ℕ → Shown → Shown → Type 0
Same n l s t = (q : ℕ) → point_location n q ≡ l → look s q ≡ look t q

other_cell : (n k q x : ℕ) → ¬ Contains (x ∷ cell_location n k ∷ []) (cell_location n q) → eq_by_cmp nat_cmp q k ≡ false
other_cell n k q x un =
    elim (eq_by_cmp nat_cmp q k) as (λ b. eq_by_cmp nat_cmp q k ≡ b → b ≡ false) [
      | true ↦ λ is. absurd (un (subst (λ y. Contains (x ∷ cell_location n k ∷ []) (cell_location n y)) (sym (same_key q k is))
          (second_of_two x (cell_location n k))))
      | false ↦ λ is. refl
    ] refl

enqueued : (n l t x : ℕ) (s : Shown) → ¬ Contains (1 ∷ cell_location n t ∷ []) l
    → Same n l s (record { cells = insert s.cells t x; head = s.head; tail = t + 1 })
enqueued n l t x s un zero on = refl
enqueued n l t x s un (suc zero) on = absurd (un (subst (λ y. Contains (1 ∷ cell_location n t ∷ []) y) on
    (first_of_two 1 (cell_location n t))))
enqueued n l t x s un (suc (suc q)) on =
    let other = other_cell n t q 1 (subst (λ y. ¬ Contains (1 ∷ cell_location n t ∷ []) y) (sym on) un) in
    sym (get-insert nat_cmp_total s.cells t x q ∙ ap (λ b. cond b (Some x) (get s.cells q)) other)

dequeued : (n l h : ℕ) (s : Shown) → ¬ Contains (0 ∷ cell_location n h ∷ []) l
    → Same n l s (record { cells = remove s.cells h; head = h + 1; tail = s.tail })
dequeued n l h s un zero on = absurd (un (subst (λ y. Contains (0 ∷ cell_location n h ∷ []) y) on (first_of_two 0 (cell_location n h))))
dequeued n l h s un (suc zero) on = refl
dequeued n l h s un (suc (suc q)) on =
    let other = other_cell n h q 0 (subst (λ y. ¬ Contains (0 ∷ cell_location n h ∷ []) y) (sym on) un) in
    sym (get-remove nat_cmp_total s.cells h q ∙ ap (λ b. cond b None (get s.cells q)) other)

enqueue_by_point : (t x q : ℕ) (s u : Shown) → look s q ≡ look u q
    → look (record { cells = insert s.cells t x; head = s.head; tail = t + 1 }) q
    ≡ look (record { cells = insert u.cells t x; head = u.head; tail = t + 1 }) q
enqueue_by_point t x zero s u same = same
enqueue_by_point t x (suc zero) s u same = refl
enqueue_by_point t x (suc (suc q)) s u same =
    get-insert nat_cmp_total s.cells t x q ∙ ap (cond (eq_by_cmp nat_cmp q t) (Some x)) same ∙ sym (get-insert nat_cmp_total u.cells t x q)

dequeue_by_point : (h q : ℕ) (s u : Shown) → look s q ≡ look u q
    → look (record { cells = remove s.cells h; head = h + 1; tail = s.tail }) q
    ≡ look (record { cells = remove u.cells h; head = h + 1; tail = u.tail }) q
dequeue_by_point h zero s u same = refl
dequeue_by_point h (suc zero) s u same = same
dequeue_by_point h (suc (suc q)) s u same =
    get-remove nat_cmp_total s.cells h q ∙ ap (cond (eq_by_cmp nat_cmp q h) None) same ∙ sym (get-remove nat_cmp_total u.cells h q)

two_below : (n l x k : ℕ) → 0 < n → x < suc (suc n) → Contains (x ∷ cell_location n k ∷ []) l → l < suc (suc n)
two_below n l x k pos lt c =
    let cell = mod_below k n pos in
    elim (of_two x (cell_location n k) l c) as (λ _. l < suc (suc n)) [ inl is ↦ omega arith | inr is ↦ omega arith ]

-- ---- what is written
enqueue_written : (V : Type 0) (n x t : ℕ) (b : Bool) → WritesWhereItChanges (rules V) n
    (cond b (record { op = Enqueue x; reply = Done; note = Index t }) (record { op = Enqueue x; reply = Full; note = Plain }))
enqueue_written V n x t true = (refl, refl)
enqueue_written V n x t false = (refl, refl)

dequeue_written : (V : Type 0) (n h : ℕ) (first : Option ℕ) → WritesWhereItChanges (rules V) n
    (record { op = Dequeue; reply = found_reply first; note = Index h })
dequeue_written V n h None = (refl, refl)
dequeue_written V n h (Some x) = (refl, refl)

module _ {V : Type 0} where
  -- ---- reads
  abbrev enqueue_by : ℕ → Bool → ℕ → Outcome V
  enqueue_by x b t = cond b (record { op = Enqueue x; reply = Done; note = Index t })
      (record { op = Enqueue x; reply = Full; note = Plain })

  enqueue_reads : (n x : ℕ) (b : Bool) (t : ℕ) (o : Outcome V) → enqueue_by x b t ≡ o → Contains (reads_of n o) 1
  enqueue_reads n x true t o is = subst (λ (y : Outcome V). Contains (reads_of n y) 1) is (first_of_two 1 (cell_location n t))
  enqueue_reads n x false t o is = subst (λ (y : Outcome V). Contains (reads_of n y) 1) is (in_single 1)

  abbrev found_at : Op V → ℕ → Option ℕ → Outcome V
  found_at op h f = record { op = op; reply = found_reply f; note = Index h }

  found_same : (n : ℕ) (op : Op V) (s t : Shown) → Agree (rules V) n (0 ∷ cell_location n s.head ∷ []) s t
      → Some (found_at op t.head (get t.cells t.head)) ≡ Some (found_at op s.head (get s.cells s.head))
  found_same n op s t agree =
      let head : t.head ≡ s.head = sym (same_Some _ _ (agree 0 (first_of_two 0 (cell_location n s.head)) 0 refl)) in
      let cell : get t.cells t.head ≡ get s.cells s.head = ap (get t.cells) head
      ∙ sym (agree (cell_location n s.head) (second_of_two 0 (cell_location n s.head)) (suc (suc s.head)) refl) in
      λ i. Some (found_at op (head i) (cell i))

  pub legal_where_reads_agree : LegalWhereReadsAgree (rules V)
  legal_where_reads_agree n (Enqueue x) s t o pos e agree =
      let reads : Contains (reads_of n o) 1 = enqueue_reads n x (nat_lt s.tail INDEX_LIMIT) s.tail o (same_Some _ _ e) in
      let tail : t.tail ≡ s.tail = sym (same_Some _ _ (agree 1 reads 1 refl)) in
      ap (λ y. Some (enqueue_by x (nat_lt y INDEX_LIMIT) y)) tail ∙ e
  legal_where_reads_agree n Dequeue s t o pos e agree =
      let is : found_at Dequeue s.head (get s.cells s.head) ≡ o = same_Some _ _ e in
      found_same n Dequeue s t (subst (λ (x : Outcome V). Agree (rules V) n (reads_of n x) s t) (sym is) agree) ∙ e
  legal_where_reads_agree n Peek s t o pos e agree =
      let is : found_at Peek s.head (get s.cells s.head) ≡ o = same_Some _ _ e in
      found_same n Peek s t (subst (λ (x : Outcome V). Agree (rules V) n (reads_of n x) s t) (sym is) agree) ∙ e
  legal_where_reads_agree n Len s t o pos e agree =
      let is : (record { op = Len; reply = Number (s.tail - s.head); note = Plain }) ≡ o = same_Some _ _ e in
      let both : Agree (rules V) n (0 ∷ 1 ∷ []) s t = subst (λ (x : Outcome V). Agree (rules V) n (reads_of n x) s t) (sym is) agree in
      let head : t.head ≡ s.head = sym (same_Some _ _ (both 0 (first_of_two 0 1) 0 refl)) in
      let tail : t.tail ≡ s.tail = sym (same_Some _ _ (both 1 (second_of_two 0 1) 1 refl)) in
      (λ i. Some (record { op = Len; reply = Number (tail i - head i); note = Plain })) ∙ e
  legal_where_reads_agree n _ s t o pos e agree = absurd (none-some o e)

  -- ---- writes
  only_writes : (n l : ℕ) (op : Op V) (r : Reply V) (w : Note) (s : Shown) → ¬ Contains (queue_writes n op r w) l
      → Same n l s (applied (rules V) (changes_by op r w) s)
  only_writes n l (Enqueue x) Done (Index t) s un =
      elim (nat_lt t INDEX_LIMIT) as (λ b. Same n l s (cond b (record { cells = insert s.cells t x; head = s.head; tail = t + 1 }) s))
      [ true ↦ enqueued n l t x s un | false ↦ λ q on. refl ]
  only_writes n l Dequeue (Found x) (Index h) s un =
      elim (nat_lt h INDEX_LIMIT) as (λ b. Same n l s (cond b (record { cells = remove s.cells h; head = h + 1; tail = s.tail }) s))
      [ true ↦ dequeued n l h s un | false ↦ λ q on. refl ]
  only_writes n l _ _ _ s un = λ q on. refl

  pub changes_only_writes : ChangesOnlyWrites (rules V)
  changes_only_writes n l o t un = only_writes n l o.op o.reply o.note t un

  pub changes_by_part : ChangesByPart (rules V)
  changes_by_part (change.Enqueue t x) q s u same =
      elim (nat_lt t INDEX_LIMIT) as (λ b. look (cond b (record { cells = insert s.cells t x; head = s.head; tail = t + 1 }) s) q
      ≡ look (cond b (record { cells = insert u.cells t x; head = u.head; tail = t + 1 }) u) q) [
        | true ↦ enqueue_by_point t x q s u same
        | false ↦ same
      ]
  changes_by_part (change.Dequeue h) q s u same =
      elim (nat_lt h INDEX_LIMIT) as (λ b. look (cond b (record { cells = remove s.cells h; head = h + 1; tail = s.tail }) s) q
      ≡ look (cond b (record { cells = remove u.cells h; head = h + 1; tail = u.tail }) u) q) [
        | true ↦ dequeue_by_point h q s u same
        | false ↦ same
      ]
  changes_by_part _ q s t same = same

  -- ---- the sequential call
  abbrev Follows : Op V → ℕ → List ℕ → Outcome V → Type 0
  Follows op head items o = (after : Held V) × ((held_call op (Queue head items) ≡ Some (o.reply, after))
      × (view_of after ≡ Some (applied (rules V) (changes_of o) (queue_view head items))))

  abbrev answered : Reply V × ℕ × List ℕ → Option (Reply V × Held V)
  answered r = Some (r.0, Queue r.1 r.2)

  enqueue_follows : (x head : ℕ) (items : List ℕ) → Follows (Enqueue x) head items
      (enqueue_by x (nat_lt (head + length items) INDEX_LIMIT) (head + length items))
  enqueue_follows x head items =
      let t : ℕ = head + length items in
      let calls : Bool → Option (Reply V × Held V) = λ b. answered (cond b (Done, head, items ++ x ∷ []) (Full, head, items)) in
      elim (nat_lt t INDEX_LIMIT) as (λ b. nat_lt t INDEX_LIMIT ≡ b → Follows (Enqueue x) head items (enqueue_by x b t)) [
        | true ↦ λ is.
            let longer = length_pushed x items in
            let tail : head + length (items ++ x ∷ []) ≡ head + length items + 1 = omega arith in
            let cells = next_cell head x items in
            let after : Shown = record {
              cells = insert (cells_from head items) (head + length items) x;
              head = head;
              tail = head + length
                  items + 1;
            } in (
              Queue head (items ++ x ∷ []),
              (
                ap calls is,
                (λ i. Some (record { cells = sym cells i; head = head; tail = tail i }))
                    ∙ ap (λ b. Some (cond b after (queue_view head items))) (sym is),
              ),
            )
        | false ↦ λ is. (Queue head items, (ap calls is, refl))
      ] refl

  dequeue_follows : (head : ℕ) (items : List ℕ) → head + length items ≤ INDEX_LIMIT
      → Follows Dequeue head items (found_at Dequeue head (get (cells_from head items) head))
  dequeue_follows head [] within = subst (λ (f : Option ℕ). Follows Dequeue head [] (found_at Dequeue head f))
      (sym (get-empty nat_cmp head)) (Queue head [], (refl, refl))
  dequeue_follows head (x ∷ items) within =
      let is : nat_lt head INDEX_LIMIT ≡ true = grind (arith, nat_tests) in
      let tail : head + 1 + length items ≡ head + suc (length items) = omega arith in
      let next : head + 1 ≡ suc head = omega arith in
      let cells : cells_from (head + 1) items ≡ remove (cells_from head (x ∷ items)) head = ap (λ h. cells_from h items) next
      ∙ sym (remove_new (cells_from (suc head) items) head x (below_cells (suc head) head items (omega arith))) in
      let after : Shown = record { cells = remove (cells_from head (x ∷ items)) head; head = head + 1; tail = head + suc (length items) } in
      subst (λ (f : Option ℕ). Follows Dequeue head (x ∷ items) (found_at Dequeue head f)) (sym (first_cell head x items)) (
        Queue (head + 1) items,
        (
          refl,
          (λ i. Some (record { cells = cells i; head = head + 1; tail = tail i }))
              ∙ ap (λ b. Some (cond b after (queue_view head (x ∷ items)))) (sym is),
        ),
      )

  peek_follows : (head : ℕ) (items : List ℕ) → Follows Peek head items (found_at Peek head (get (cells_from head items) head))
  peek_follows head [] = subst (λ (f : Option ℕ). Follows Peek head [] (found_at Peek head f)) (sym (get-empty nat_cmp head))
      (Queue head [], (refl, refl))
  peek_follows head (x ∷ items) = subst (λ (f : Option ℕ). Follows Peek head (x ∷ items) (found_at Peek head f))
      (sym (first_cell head x items)) (Queue head (x ∷ items), (refl, refl))

  len_follows : (head : ℕ) (items : List ℕ) → Follows Len head items
      (record { op = Len; reply = Number (head + length items - head); note = Plain })
  len_follows head items =
      let count : length items ≡ head + length items - head = omega arith in
      (Queue head items, (ap (λ k. Some (Number k, Queue head items)) count, refl))

  at_state : (op : Op V) (head : ℕ) (items : List ℕ) (o : Outcome V) → head + length items ≤ INDEX_LIMIT
      → outcome_of op (queue_view head items) ≡ Some o → Follows op head items o
  at_state (Enqueue x) head items o within e = subst (Follows (Enqueue x) head items) (same_Some _ _ e) (enqueue_follows x head items)
  at_state Dequeue head items o within e = subst (Follows Dequeue head items) (same_Some _ _ e) (dequeue_follows head items within)
  at_state Peek head items o within e = subst (Follows Peek head items) (same_Some _ _ e) (peek_follows head items)
  at_state Len head items o within e = subst (Follows Len head items) (same_Some _ _ e) (len_follows head items)
  at_state _ head items o within e = absurd (none-some o e)

  pub follows_call : FollowsCall (rules V)
  follows_call op (Queue head items) s o within view e =
      let P : Shown → Type 0 = λ s. outcome_of op s ≡ Some o → (after : Held V)
      × ((held_call op (Queue head items) ≡ Some (o.reply, after)) × (view_of after ≡ Some (applied (rules V) (changes_of o) s))) in
      subst P (same_Some _ _ view) (at_state op head items o within) e
  follows_call op (Map m) s o within view e = absurd (none-some s view)
  follows_call op (Bag m) s o within view e = absurd (none-some s view)
  follows_call op (Pq m) s o within view e = absurd (none-some s view)

  answers : (op : Op V) (head : ℕ) (items : List ℕ) (s : Shown) → outcome_of op s ≡ None → held_call op (Queue head items) ≡ None
  answers (Enqueue x) head items s e = absurd (some-none _ e)
  answers Dequeue head items s e = absurd (some-none _ e)
  answers Peek head items s e = absurd (some-none _ e)
  answers Len head items s e = absurd (some-none _ e)
  answers _ head items s e = refl

  pub answers_its_kind : AnswersItsKind (rules V)
  answers_its_kind op (Queue head items) s view e = answers op head items s e
  answers_its_kind op (Map m) s view e = absurd (none-some s view)
  answers_its_kind op (Bag m) s view e = absurd (none-some s view)
  answers_its_kind op (Pq m) s view e = absurd (none-some s view)

  pub views_decide : ViewsDecide (rules V)
  views_decide (Queue head items) s view = ap (λ x. Queue x.head (values x.cells)) (sym (same_Some _ _ view))
      ∙ ap (λ l. Queue head l) (cell_values head items)
  views_decide (Map m) s view = absurd (none-some s view)
  views_decide (Bag m) s view = absurd (none-some s view)
  views_decide (Pq m) s view = absurd (none-some s view)

  -- ---- locations
  written_read : (n l : ℕ) (op : Op V) (r : Reply V) (w : Note) → Contains (queue_writes n op r w) l → Contains (queue_reads n op w) l
  written_read n l (Enqueue x) Done (Index t) c = c
  written_read n l Dequeue (Found x) (Index h) c = c
  written_read n l _ _ _ c = absurd (of_none l c)

  pub writes_within_reads : WritesWithinReads (rules V)
  writes_within_reads n l o pos c = written_read n l o.op o.reply o.note c

  read_below : (n l : ℕ) (op : Op V) (w : Note) → 0 < n → Contains (queue_reads n op w) l → l < suc (suc n)
  read_below n l (Enqueue x) (Index t) pos c = two_below n l 1 t pos (omega arith) c
  read_below n l (Enqueue x) _ pos c = let is = of_single 1 l c in omega arith
  read_below n l Dequeue (Index h) pos c = two_below n l 0 h pos (omega arith) c
  read_below n l Peek (Index h) pos c = two_below n l 0 h pos (omega arith) c
  read_below n l Len _ pos c = elim (of_two 0 1 l c) as (λ _. l < suc (suc n)) [ inl is ↦ omega arith | inr is ↦ omega arith ]
  read_below n l _ _ pos c = absurd (of_none l c)

  pub reads_locations : ReadsLocations (rules V)
  reads_locations n l o pos c = read_below n l o.op o.note pos c

  -- ---- what is written
  pub outcomes_write_where_they_change : OutcomesWriteWhereTheyChange (rules V)
  outcomes_write_where_they_change n (Enqueue x) s o e =
      subst (λ y. WritesWhereItChanges (rules V) n y) (same_Some _ _ e) (enqueue_written V n x s.tail (nat_lt s.tail INDEX_LIMIT))
  outcomes_write_where_they_change n Dequeue s o e =
      subst (λ y. WritesWhereItChanges (rules V) n y) (same_Some _ _ e) (dequeue_written V n s.head (get s.cells s.head))
  outcomes_write_where_they_change n Peek s o e = subst (λ y. WritesWhereItChanges (rules V) n y) (same_Some _ _ e) (refl, refl)
  outcomes_write_where_they_change n Len s o e = subst (λ y. WritesWhereItChanges (rules V) n y) (same_Some _ _ e) (refl, refl)
  outcomes_write_where_they_change n _ s o e = absurd (none-some o e)

  pub laws : FrameLaws (rules V)
  laws = record {
    parts_decide = shown_decided;
    views_decide = views_decide;
    legal = legal_where_reads_agree;
    untouched = changes_only_writes;
    written = outcomes_write_where_they_change;
    by_part = changes_by_part;
    follows = follows_call;
    answers = answers_its_kind;
    writes_read = writes_within_reads;
    reads_below = reads_locations;
    points_below = place_below;
  }

  pub calls_commute : Commute (rules V)
  calls_commute = commute (rules V) laws

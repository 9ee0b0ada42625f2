-- The frame laws of a multiset.
use Rattle.std.proofs.Common.{◌≡◌, ℕ, ◌+◌, ◌<◌, ◌%◌, Bool, true, false, cond, nat_lt, ◌==◌, [], ◌∷◌, Option, Some, None, unwrap_or}
use Rattle.std.proofs.Common.{Contains, refl, sym, ap, subst, ◌∙◌, arith}
use Rattle.std.proofs.Math.Nat.{mod-lt}
use Rattle.std.specs.Cmp.{nat_cmp_total}
use Rattle.std.specs.FinMap.{get, same_map, nat_cmp-IsAntisymmetric}
use Rattle.std.proofs.lemmas.Option.{same_Some, none-some}
use Rattle.seq_model.specs.declared.call.Op.{Op}
use Rattle.seq_model.specs.declared.call.Op.TheVariants.{Count, Add, Take}
use Rattle.seq_model.specs.declared.call.Reply.{Reply}
use Rattle.seq_model.specs.declared.call.Reply.TheVariants.{Done, Full, Number, Yes, No}
use Rattle.seq_model.specs.declared.held.Held.{Held}
use Rattle.seq_model.specs.declared.held.Held.TheVariants.{Map, Bag, Pq, Queue}
use Rattle.seq_model.specs.declared.limits.TheConstants.{COPY_LIMIT}
use Rattle.seq_model.specs.Calls.{held_call}
use Rattle.seq_model.specs.Counts.{Multiset, copies, with_copies}
use Rattle.seq_model.proofs.LogicLemmas.{some-none}
use Rattle.conflict.specs.declared.change.Change.TheVariants as change
use Rattle.conflict.specs.declared.outcome.Outcome.{Outcome}
use Rattle.conflict.specs.declared.outcome.Note.TheVariants.{Plain}
use Rattle.conflict.specs.Footprints.{multiset_reads, multiset_writes}
use Rattle.conflict.specs.Rules.{FrameLaws, Commute, applied, LegalWhereReadsAgree, ChangesOnlyWrites, WritesWhereItChanges}
use Rattle.conflict.specs.Rules.{OutcomesWriteWhereTheyChange, ChangesByPart, FollowsCall, AnswersItsKind, ViewsDecide}
use Rattle.conflict.specs.Commute.{commute}
use Rattle.conflict.specs.Places.{in_single, of_none, of_single}
use Rattle.conflict.specs.Multisets.{one_more, one_fewer, more, fewer, more_at, fewer_at, changed_by_element, unchanged_elsewhere}
use Rattle.base_bag.specs.Conflicts.{outcome_of, changes_by, changes_of, view_of, rules}

-- the elements of a location have the same copies in both
abbrev SamePart : ℕ → ℕ → Multiset → Multiset → Type 0
SamePart n l s t = (x : ℕ) → x % n ≡ l → get s x ≡ get t x

same_copies : (n x : ℕ) (s t : Multiset) → ((l : ℕ) → Contains (x % n ∷ []) l → SamePart n l s t) → copies t x ≡ copies s x
same_copies n x s t agree = ap (λ o. unwrap_or o 0) (sym (agree (x % n) (in_single (x % n)) x refl))

copies_decide : (s t : Multiset) → ((x : ℕ) → get s x ≡ get t x) → s ≡ t
copies_decide s t same = same_map nat_cmp_total nat_cmp-IsAntisymmetric _ _ same

-- a change of one element leaves the other stripes
one_changed : (n l x : ℕ) (f : Multiset → Multiset) (s : Multiset) → ((q : ℕ) → ((q ≡ x) → ⊥) → get s q ≡ get (f s) q)
    → ¬ Contains (x % n ∷ []) l → SamePart n l s (f s)
one_changed n l x f s stays unread q on =
    stays q (λ same. unread (subst (λ k. Contains (x % n ∷ []) k) (ap (λ k. k % n) (sym same) ∙ on) (in_single (x % n))))

one_below : (n l x : ℕ) → 0 < n → Contains (x % n ∷ []) l → l < n
one_below n l x pos c = let is = of_single (x % n) l c in let lt = mod-lt x pos in omega arith

module _ {V : Type 0} where
  -- ---- reads
  -- an outcome, by the number of copies
  abbrev counted : ℕ → ℕ → Option (Outcome V)
  counted x c = Some (record { op = Count x; reply = Number c; note = Plain })

  abbrev added : ℕ → ℕ → Option (Outcome V)
  added x c = Some (record { op = Add x; reply = cond (nat_lt c COPY_LIMIT) Done Full; note = Plain })

  abbrev taken : ℕ → ℕ → Option (Outcome V)
  taken x c = Some (record { op = Take x; reply = cond (c == 0) No Yes; note = Plain })

  op_of : (op : Op V) (s : Multiset) (o : Outcome V) → outcome_of op s ≡ Some o → op ≡ o.op
  op_of (Count x) s o e = ap (λ y. y.op) (same_Some _ _ e)
  op_of (Add x) s o e = ap (λ y. y.op) (same_Some _ _ e)
  op_of (Take x) s o e = ap (λ y. y.op) (same_Some _ _ e)
  op_of _ s o e = absurd (none-some o e)

  same_outcome : (n : ℕ) (op : Op V) (s t : Multiset) → ((l : ℕ) → Contains (multiset_reads n op) l → SamePart n l s t)
      → outcome_of op t ≡ outcome_of op s
  same_outcome n (Count x) s t agree = ap (counted x) (same_copies n x s t agree)
  same_outcome n (Add x) s t agree = ap (added x) (same_copies n x s t agree)
  same_outcome n (Take x) s t agree = ap (taken x) (same_copies n x s t agree)
  same_outcome n _ s t agree = refl

  pub legal_where_reads_agree : LegalWhereReadsAgree (rules V)
  legal_where_reads_agree n op s t o pos e agree =
      same_outcome n op s t (λ l c. agree l (subst (λ y. Contains (multiset_reads n y) l) (op_of op s o e) c)) ∙ e

  -- ---- writes
  only_writes : (n l : ℕ) (op : Op V) (r : Reply V) (s : Multiset) → ¬ Contains (multiset_writes n op r) l
      → SamePart n l s (applied (rules V) (changes_by op r) s)
  only_writes n l (Add x) Done s un = one_changed n l x (λ m. one_more m x) s
      (λ q. unchanged_elsewhere x more (λ m. one_more m x) (more_at x) q s) un
  only_writes n l (Take x) Yes s un = one_changed n l x (λ m. one_fewer m x) s
      (λ q. unchanged_elsewhere x fewer (λ m. one_fewer m x) (fewer_at x) q s) un
  only_writes n l _ _ s un = λ q on. refl

  pub changes_only_writes : ChangesOnlyWrites (rules V)
  changes_only_writes n l o t un = only_writes n l o.op o.reply t un

  pub changes_by_part : ChangesByPart (rules V)
  changes_by_part (change.Add x) q s t same = changed_by_element x more (λ m. one_more m x) (more_at x) q s t same
  changes_by_part (change.Take x) q s t same = changed_by_element x fewer (λ m. one_fewer m x) (fewer_at x) q s t same
  changes_by_part _ q s t same = same

  -- ---- the sequential call
  abbrev Follows : Op V → Multiset → Outcome V → Type 0
  Follows op m o = (after : Held V) × ((held_call op (Bag m) ≡ Some (o.reply, after))
      × (view_of after ≡ Some (applied (rules V) (changes_of o) m)))

  abbrev answered : Reply V × Multiset → Option (Reply V × Held V)
  answered r = Some (r.0, Bag r.1)

  add_follows : (x : ℕ) (m : Multiset) → Follows (Add x) m (record
      { op = Add x; reply = cond (nat_lt (copies m x) COPY_LIMIT) Done Full; note = Plain })
  add_follows x m =
      let grown : Multiset = with_copies m x (copies m x + 1) in
      let calls : Bool → Option (Reply V × Held V) = λ b. answered (cond b (Done, grown) (Full, m)) in
      elim (nat_lt (copies m x) COPY_LIMIT) as (λ b. nat_lt (copies m x) COPY_LIMIT ≡ b
      → Follows (Add x) m (record { op = Add x; reply = cond b Done Full; note = Plain })) [
        | true ↦ λ is. (Bag grown, (ap calls is, ap (λ b. Some (cond b grown m)) (sym is)))
        | false ↦ λ is. (Bag m, (ap calls is, refl))
      ] refl

  take_follows : (x : ℕ) (m : Multiset) → Follows (Take x) m (record { op = Take x; reply = cond (copies m x == 0) No Yes; note = Plain })
  take_follows x m =
      let calls : Bool → Option (Reply V × Held V) = λ b. answered (cond b (No, m) (Yes, one_fewer m x)) in
      elim (copies m x == 0) as (λ b. (copies m x == 0) ≡ b → Follows (Take x) m
      (record { op = Take x; reply = cond b No Yes; note = Plain })) [
        | true ↦ λ is. (Bag m, (ap calls is, refl))
        | false ↦ λ is. (Bag (one_fewer m x), (ap calls is, refl))
      ] refl

  at_state : (op : Op V) (m : Multiset) (o : Outcome V) → outcome_of op m ≡ Some o → Follows op m o
  at_state (Count x) m o e = subst (Follows (Count x) m) (same_Some _ _ e) (Bag m, (refl, refl))
  at_state (Add x) m o e = subst (Follows (Add x) m) (same_Some _ _ e) (add_follows x m)
  at_state (Take x) m o e = subst (Follows (Take x) m) (same_Some _ _ e) (take_follows x m)
  at_state _ m o e = absurd (none-some o e)

  pub follows_call : FollowsCall (rules V)
  follows_call op (Bag m) s o within view e =
      let P : Multiset → Type 0 = λ s. outcome_of op s ≡ Some o
      → (after : Held V) × ((held_call op (Bag m) ≡ Some (o.reply, after))
      × (view_of after ≡ Some (applied (rules V) (changes_of o) s))) in
      subst P (same_Some _ _ view) (at_state op m o) e
  follows_call op (Map m) s o within view e = absurd (none-some s view)
  follows_call op (Pq m) s o within view e = absurd (none-some s view)
  follows_call op (Queue head items) s o within view e = absurd (none-some s view)

  answers : (op : Op V) (m s : Multiset) → outcome_of op s ≡ None → held_call op (Bag m) ≡ None
  answers (Count x) m s e = absurd (some-none _ e)
  answers (Add x) m s e = absurd (some-none _ e)
  answers (Take x) m s e = absurd (some-none _ e)
  answers _ m s e = refl

  pub answers_its_kind : AnswersItsKind (rules V)
  answers_its_kind op (Bag m) s view e = answers op m s e
  answers_its_kind op (Map m) s view e = absurd (none-some s view)
  answers_its_kind op (Pq m) s view e = absurd (none-some s view)
  answers_its_kind op (Queue head items) s view e = absurd (none-some s view)

  pub views_decide : ViewsDecide (rules V)
  views_decide (Bag m) s view = ap (λ x. Bag x) (sym (same_Some _ _ view))
  views_decide (Map m) s view = absurd (none-some s view)
  views_decide (Pq m) s view = absurd (none-some s view)
  views_decide (Queue head items) s view = absurd (none-some s view)

  -- ---- locations
  written_read : (n l : ℕ) (op : Op V) (r : Reply V) → Contains (multiset_writes n op r) l → Contains (multiset_reads n op) l
  written_read n l (Add x) Done c = c
  written_read n l (Take x) Yes c = c
  written_read n l _ _ c = absurd (of_none l c)

  read_below : (n l : ℕ) (op : Op V) → 0 < n → Contains (multiset_reads n op) l → l < n
  read_below n l (Count x) pos c = one_below n l x pos c
  read_below n l (Add x) pos c = one_below n l x pos c
  read_below n l (Take x) pos c = one_below n l x pos c
  read_below n l _ pos c = absurd (of_none l c)

  -- ---- what is written
  add_written : (n x : ℕ) (reply : Reply V) → WritesWhereItChanges (rules V) n (record { op = Add x; reply = reply; note = Plain })
  add_written n x Done = (refl, refl)
  add_written n x _ = (refl, refl)

  take_written : (n x : ℕ) (reply : Reply V) → WritesWhereItChanges (rules V) n (record { op = Take x; reply = reply; note = Plain })
  take_written n x Yes = (refl, refl)
  take_written n x _ = (refl, refl)

  pub outcomes_write_where_they_change : OutcomesWriteWhereTheyChange (rules V)
  outcomes_write_where_they_change n (Count x) s o e = subst (λ y. WritesWhereItChanges (rules V) n y) (same_Some _ _ e) (refl, refl)
  outcomes_write_where_they_change n (Add x) s o e =
      subst (λ y. WritesWhereItChanges (rules V) n y) (same_Some _ _ e) (add_written n x (cond (nat_lt (copies s x) COPY_LIMIT) Done Full))
  outcomes_write_where_they_change n (Take x) s o e =
      subst (λ y. WritesWhereItChanges (rules V) n y) (same_Some _ _ e) (take_written n x (cond (copies s x == 0) No Yes))
  outcomes_write_where_they_change n _ s o e = absurd (none-some o e)

  pub laws : FrameLaws (rules V)
  laws = record {
    parts_decide = copies_decide;
    views_decide = views_decide;
    legal = legal_where_reads_agree;
    untouched = changes_only_writes;
    written = outcomes_write_where_they_change;
    by_part = changes_by_part;
    follows = follows_call;
    answers = answers_its_kind;
    writes_read = λ n l o pos c. written_read n l o.op o.reply c;
    reads_below = λ n l o pos c. read_below n l o.op pos c;
    points_below = λ n x pos. mod-lt x pos;
  }

  pub calls_commute : Commute (rules V)
  calls_commute = commute (rules V) laws

-- The frame laws of a map.
use Rattle.std.proofs.Common.{◌≡◌, ℕ, ◌<◌, ◌%◌, true, false, cond, [], ◌∷◌, Option, Some, None, Contains, refl, sym, ap, subst, ◌∙◌, arith}
use Rattle.std.specs.Prelude.{option_map}
use Rattle.std.proofs.Math.Nat.{mod-lt}
use Rattle.std.specs.Cmp.{nat_cmp_total}
use Rattle.std.specs.Ordering.{nat_cmp, eq_by_cmp}
use Rattle.std.specs.FinMap.{FinMap, get, insert, remove, get-insert, get-remove, same_map, nat_cmp-IsAntisymmetric}
use Rattle.std.proofs.lemmas.Option.{none-some, same_Some}
use Rattle.seq_model.specs.declared.call.Op.{Op}
use Rattle.seq_model.specs.declared.call.Op.TheVariants.{Get, Put, Remove, Len}
use Rattle.seq_model.specs.declared.call.Reply.{Reply}
use Rattle.seq_model.specs.declared.call.Reply.TheVariants.{Value}
use Rattle.seq_model.specs.Calls.{map_call, held_call, value_reply}
use Rattle.conflict.specs.declared.change.Change.TheVariants as change
use Rattle.conflict.specs.declared.outcome.Outcome.{Outcome}
use Rattle.conflict.specs.declared.outcome.Note.TheVariants.{Plain}
use Rattle.base_map.specs.Conflicts.{outcome_of, changes_by, changes_of, view_of, rules}
use Rattle.conflict.specs.Footprints.{map_reads, map_writes}
use Rattle.conflict.specs.Rules.{FrameLaws, Commute, applied, LegalWhereReadsAgree, ChangesOnlyWrites, WritesWhereItChanges}
use Rattle.conflict.specs.Rules.{OutcomesWriteWhereTheyChange, ChangesByPart, FollowsCall, AnswersItsKind, PartsDecide, ViewsDecide}
use Rattle.conflict.specs.Commute.{commute}
use Rattle.conflict.specs.Places.{in_single, of_none, of_single, in_range, of_range, same_key}
use Rattle.seq_model.specs.declared.held.Held.{Held}
use Rattle.seq_model.specs.declared.held.Held.TheVariants.{Map, Bag, Pq, Queue}
use Rattle.seq_model.proofs.LogicLemmas.{some-none}

-- what a mapped option came from
from_map : {A B : Type 0} (f : A → B) (o : Option A) (x : B) → option_map f o ≡ Some x → (r : A) × ((o ≡ Some r) × (f r ≡ x))
from_map f None x e = absurd (none-some x e)
from_map f (Some r) x e = (r, (refl, same_Some _ _ e))

-- what a call on a map answers and leaves
abbrev Answer : Type 0 → Type 0
Answer V = Reply V × FinMap nat_cmp V

one_below : (n l k : ℕ) → 0 < n → Contains (k % n ∷ []) l → l < n
one_below n l k pos c = let is = of_single (k % n) l c in let lt = mod-lt k pos in omega arith

-- the entries of a location's keys are the same in both
abbrev SamePart : {V : Type 0} → ℕ → ℕ → FinMap nat_cmp V → FinMap nat_cmp V → Type 0
SamePart n l s t = (k : ℕ) → k % n ≡ l → get s k ≡ get t k

module _ {V : Type 0} where
  abbrev outcome : Op V → Answer V → Outcome V
  outcome op r = record { op = op; reply = r.0; note = Plain }

  -- a legal outcome is that of its call
  legal : (op : Op V) (s : FinMap nat_cmp V) (o : Outcome V) → outcome_of op s ≡ Some o
      → (r : Answer V) × ((map_call op s ≡ Some r) × (outcome op r ≡ o))
  legal op s o e = from_map (outcome op) (map_call op s) o e

  -- ---- reads
  same_outcome : (n : ℕ) (op : Op V) (s t : FinMap nat_cmp V) → 0 < n → ((l : ℕ) → Contains (map_reads n op) l → SamePart n l s t)
      → outcome_of op t ≡ outcome_of op s
  same_outcome n (Get k) s t pos agree =
      let O : Option V → Option (Outcome V) = λ r. Some (record { op = Get k; reply = value_reply r; note = Plain }) in
      ap O (sym (agree (k % n) (in_single (k % n)) k refl))
  same_outcome n (Put k v) s t pos agree =
      let O : Option V → Option (Outcome V) = λ r. Some (record { op = Put k v; reply = value_reply r; note = Plain }) in
      ap O (sym (agree (k % n) (in_single (k % n)) k refl))
  same_outcome n (Remove k) s t pos agree =
      let O : Option V → Option (Outcome V) = λ r. Some (record { op = Remove k; reply = value_reply r; note = Plain }) in
      ap O (sym (agree (k % n) (in_single (k % n)) k refl))
  same_outcome n Len s t pos agree =
      let same : t ≡ s = same_map nat_cmp_total nat_cmp-IsAntisymmetric _ _
      (λ q. sym (agree (q % n) (in_range n (q % n) (mod-lt q pos)) q refl)) in
      ap (outcome_of Len) same
  same_outcome n _ s t pos agree = refl

  pub legal_where_reads_agree : LegalWhereReadsAgree (rules V)
  legal_where_reads_agree n op s t o pos e agree =
      let is = ap (λ x. x.op) (legal op s o e).1.1 in
      same_outcome n op s t pos (λ l c. agree l (subst (λ x. Contains (map_reads n x) l) is c)) ∙ e

  -- ---- writes
  insert_elsewhere : (n l k : ℕ) (v : V) (t : FinMap nat_cmp V) → ¬ Contains (k % n ∷ []) l → SamePart n l t (insert t k v)
  insert_elsewhere n l k v t unread q on =
      elim (eq_by_cmp nat_cmp q k) as (λ b. eq_by_cmp nat_cmp q k ≡ b → get t q ≡ cond b (Some v) (get t q)) [
        | true ↦ λ same. absurd (unread (subst (λ x. Contains (k % n ∷ []) x) (ap (λ x. x % n) (sym (same_key q k same)) ∙ on)
            (in_single (k % n))))
        | false ↦ λ _. refl
      ] refl ∙ sym (get-insert nat_cmp_total t k v q)

  remove_elsewhere : (n l k : ℕ) (t : FinMap nat_cmp V) → ¬ Contains (k % n ∷ []) l → SamePart n l t (remove t k)
  remove_elsewhere n l k t unread q on =
      elim (eq_by_cmp nat_cmp q k) as (λ b. eq_by_cmp nat_cmp q k ≡ b → get t q ≡ cond b None (get t q)) [
        | true ↦ λ same. absurd (unread (subst (λ x. Contains (k % n ∷ []) x) (ap (λ x. x % n) (sym (same_key q k same)) ∙ on)
            (in_single (k % n))))
        | false ↦ λ _. refl
      ] refl ∙ sym (get-remove nat_cmp_total t k q)

  elsewhere : (n l : ℕ) (op : Op V) (r : Reply V) (t : FinMap nat_cmp V) → ¬ Contains (map_writes n op r) l
      → SamePart n l t (applied (rules V) (changes_by op r) t)
  elsewhere n l (Put k v) r t unread = insert_elsewhere n l k v t unread
  elsewhere n l (Remove k) (Value w) t unread = remove_elsewhere n l k t unread
  elsewhere n l _ _ t unread = λ q on. refl

  pub changes_only_writes : ChangesOnlyWrites (rules V)
  changes_only_writes n l o t unread = elsewhere n l o.op o.reply t unread

  pub changes_by_part : ChangesByPart (rules V)
  changes_by_part (change.Put k v) q s t same =
      get-insert nat_cmp_total s k v q ∙ ap (cond (eq_by_cmp nat_cmp q k) (Some v)) same ∙ sym (get-insert nat_cmp_total t k v q)
  changes_by_part (change.Remove k) q s t same =
      get-remove nat_cmp_total s k q ∙ ap (cond (eq_by_cmp nat_cmp q k) None) same ∙ sym (get-remove nat_cmp_total t k q)
  changes_by_part _ q s t same = same

  -- ---- the sequential call
  remove_absent : (s : FinMap nat_cmp V) (k : ℕ) → get s k ≡ None → remove s k ≡ s
  remove_absent s k none = same_map nat_cmp_total nat_cmp-IsAntisymmetric _ _ (λ q.
      get-remove nat_cmp_total s k q ∙ elim (eq_by_cmp nat_cmp q k) as (λ b. eq_by_cmp nat_cmp q k ≡ b → cond b None (get s q) ≡ get s q) [
        | true ↦ λ same. sym (ap (get s) (same_key q k same) ∙ none)
        | false ↦ λ _. refl
      ] refl)

  after_remove : (s : FinMap nat_cmp V) (k : ℕ) (o : Option V) → get s k ≡ o
      → remove s k ≡ applied (rules V) (changes_by (Remove k) (value_reply o)) s
  after_remove s k None is = remove_absent s k is
  after_remove s k (Some v) is = refl

  after : (op : Op V) (s : FinMap nat_cmp V) (r : Answer V) → map_call op s ≡ Some r → r.1 ≡ applied (rules V) (changes_by op r.0) s
  after (Get k) s r e = sym (ap (λ x. x.1) (same_Some _ _ e))
  after (Put k v) s r e = sym (ap (λ x. x.1) (same_Some _ _ e))
  after (Remove k) s r e =
      let P : Answer V → Type 0 = λ x. x.1 ≡ applied (rules V) (changes_by (Remove k) x.0) s in
      subst P (same_Some _ _ e) (after_remove s k (get s k) refl)
  after Len s r e = sym (ap (λ x. x.1) (same_Some _ _ e))
  after _ s r e = absurd (none-some r e)

  follows_map : (op : Op V) (s : FinMap nat_cmp V) (o : Outcome V) → outcome_of op s ≡ Some o
      → map_call op s ≡ Some (o.reply, applied (rules V) (changes_of o) s)
  follows_map op s o e =
      let l = legal op s o e in
      let P : Outcome V → Type 0 = λ x. map_call op s ≡ Some (x.reply, applied (rules V) (changes_of x) s) in
      let r = l.0 in
      let both : Some r ≡ Some (r.0, applied (rules V) (changes_by op r.0) s) = ap (λ (x : FinMap nat_cmp V). Some (r.0, x))
      (after op s r l.1.0) in
      subst P l.1.1 (l.1.0 ∙ both)

  pub follows_call : FollowsCall (rules V)
  follows_call op (Map m) s o within view e =
      let P : FinMap nat_cmp V → Type 0 = λ s. outcome_of op s ≡ Some o
      → (after : Held V) × ((held_call op (Map m) ≡ Some (o.reply, after))
      × (view_of after ≡ Some (applied (rules V) (changes_of o) s))) in
      subst P (same_Some _ _ view) (λ legal. (
        Map (applied (rules V) (changes_of o) m),
        (ap (option_map (λ r. (r.0, Map r.1))) (follows_map op m o legal), refl),
      )) e
  follows_call op (Bag m) s o within view e = absurd (none-some s view)
  follows_call op (Pq m) s o within view e = absurd (none-some s view)
  follows_call op (Queue head items) s o within view e = absurd (none-some s view)

  answers : (op : Op V) (m s : FinMap nat_cmp V) → outcome_of op s ≡ None → held_call op (Map m) ≡ None
  answers (Get k) m s e = absurd (some-none _ e)
  answers (Put k v) m s e = absurd (some-none _ e)
  answers (Remove k) m s e = absurd (some-none _ e)
  answers Len m s e = absurd (some-none _ e)
  answers _ m s e = refl

  pub answers_its_kind : AnswersItsKind (rules V)
  answers_its_kind op (Map m) s view e = answers op m s e
  answers_its_kind op (Bag m) s view e = absurd (none-some s view)
  answers_its_kind op (Pq m) s view e = absurd (none-some s view)
  answers_its_kind op (Queue head items) s view e = absurd (none-some s view)

  pub views_decide : ViewsDecide (rules V)
  views_decide (Map m) s view = ap (λ x. Map x) (sym (same_Some _ _ view))
  views_decide (Bag m) s view = absurd (none-some s view)
  views_decide (Pq m) s view = absurd (none-some s view)
  views_decide (Queue head items) s view = absurd (none-some s view)

  pub parts_decide : PartsDecide (rules V)
  parts_decide s t same = same_map nat_cmp_total nat_cmp-IsAntisymmetric _ _ same

  written_read : (n l : ℕ) (op : Op V) (r : Reply V) → Contains (map_writes n op r) l → Contains (map_reads n op) l
  written_read n l (Put k v) r c = c
  written_read n l (Remove k) (Value w) c = c
  written_read n l _ _ c = absurd (of_none l c)

  read_below : (n l : ℕ) (op : Op V) → 0 < n → Contains (map_reads n op) l → l < n
  read_below n l (Get k) pos c = one_below n l k pos c
  read_below n l (Put k v) pos c = one_below n l k pos c
  read_below n l (Remove k) pos c = one_below n l k pos c
  read_below n l Len pos c = of_range n l c
  read_below n l _ pos c = absurd (of_none l c)

  -- ---- what is written
  remove_written : (n k : ℕ) (reply : Reply V) → WritesWhereItChanges (rules V) n (record { op = Remove k; reply = reply; note = Plain })
  remove_written n k (Value w) = (refl, refl)
  remove_written n k _ = (refl, refl)

  call_written : (n : ℕ) (op : Op V) (s : FinMap nat_cmp V) (r : Answer V) → map_call op s ≡ Some r
      → WritesWhereItChanges (rules V) n (outcome op r)
  call_written n (Get k) s r e = (refl, refl)
  call_written n (Put k v) s r e = (refl, refl)
  call_written n (Remove k) s r e = remove_written n k r.0
  call_written n Len s r e = (refl, refl)
  call_written n _ s r e = absurd (none-some r e)

  pub outcomes_write_where_they_change : OutcomesWriteWhereTheyChange (rules V)
  outcomes_write_where_they_change n op s o e =
      let l = legal op s o e in subst (λ x. WritesWhereItChanges (rules V) n x) l.1.1 (call_written n op s l.0 l.1.0)

  pub laws : FrameLaws (rules V)
  laws = record {
    parts_decide = parts_decide;
    views_decide = views_decide;
    legal = legal_where_reads_agree;
    untouched = changes_only_writes;
    written = outcomes_write_where_they_change;
    by_part = changes_by_part;
    follows = follows_call;
    answers = answers_its_kind;
    writes_read = λ n l o pos c. written_read n l o.op o.reply c;
    reads_below = λ n l o pos c. read_below n l o.op pos c;
    points_below = λ n k pos. mod-lt k pos;
  }

  pub calls_commute : Commute (rules V)
  calls_commute = commute (rules V) laws

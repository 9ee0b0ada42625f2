-- A transaction that has written nothing has made no call that changes anything.
--
-- In a world that events have reached, what a transaction has called is what the machine has of it (`Parts`): its calls on words are the
-- machine's, and of these none writes where the write set is empty; its calls on collections are its outcomes, of which none writes a
-- location then. An outcome writes one exactly where its call with its reply changes something, by the frame laws of its kind. The own
-- world of a seat that is ready is such a one to its actor.
use Rattle.std.proofs.Common.{◌≡◌, ℕ, ◌+◌, Bool, true, false, cond, eqb, not, ◌||◌, List, [], ◌∷◌, map, filter, Option, Some, None}
use Rattle.std.proofs.Common.{inl, refl, sym, ap, ◌∙◌, subst, true≢false, eq-eqb}
use Rattle.std.specs.Prelude.{nat_lt, option_map}
use Rattle.std.specs.List.{list_any}
use Rattle.std.specs.FinMap.{FinMap}
use Rattle.std.specs.Ordering.{nat_cmp}
use Rattle.std.proofs.lemmas.Bool.{cond-true, or_parts}
use Rattle.std.proofs.lemmas.Option.{same_Some, none-some}
use Rattle.tx_sets.specs.Entries.{Entries, lookup}
use Rattle.tx_machine.specs.Actor as machine
use Rattle.tx_machine.proofs.Calls.{touched}
use Rattle.seq_model.specs.Changes.{changes}
use Rattle.seq_model.specs.Counts.{Multiset}
use Rattle.seq_model.specs.Runs.{is_writer}
use Rattle.seq_model.specs.declared.call.Call.{Call}
use Rattle.seq_model.specs.declared.call.Op.{Op}
use Rattle.seq_model.specs.declared.call.Op.TheVariants.{Get, Put, Remove, Len, Count, Add, Take, Least, Insert, TakeLeast, Enqueue}
use Rattle.seq_model.specs.declared.call.Op.TheVariants.{Dequeue, Peek}
use Rattle.seq_model.specs.declared.call.Reply.{Reply}
use Rattle.conflict.specs.declared.outcome.Outcome.{Outcome}
use Rattle.conflict.specs.Rules.{has_some}
use Rattle.base_map.specs.Conflicts as map_rules
use Rattle.base_map.specs.FrameLemmas as map_laws
use Rattle.base_bag.specs.Conflicts as bag_rules
use Rattle.base_bag.specs.FrameLemmas as bag_laws
use Rattle.base_pq.specs.Conflicts as pq_rules
use Rattle.base_pq.specs.FrameLemmas as pq_laws
use Rattle.base_queue.specs.Conflicts as queue_rules
use Rattle.base_queue.specs.FrameLemmas as queue_laws
use Rattle.tx_machine.specs.Content.{IsIn}
use Rattle.tx_machine.specs.Serial.{AreLegal}
use Rattle.tx_machine.proofs.Parts.{Untouched}
use Rattle.replay_log.specs.Base.{Shown, outcome_of, writes_of}
use Rattle.replay_log.specs.Parts.{Kind, MapKind, BagKind, PqKind, QueueKind, whole}
use Rattle.replay_log.specs.Contents.{Block, CallWithOutcome, answer, content, shifted, writes_in}
use Rattle.replay_log.specs.Seats.{World, Open, actor_of}
use Rattle.replay_log.specs.Worlds.{run}
use Rattle.replay_log.proofs.EventLemmas.{opened_linked, run_linked}
use Rattle.replay_log.proofs.MixedLemmas.{Told, is_on_word, on_held, pair_of, word_calls}
use Rattle.replay_log.proofs.SeatLemmas.{Linked, StageOk}
use Rattle.actor_laws.specs.KnownStages.{Stands, known_stage_at}
use Rattle.shared_table.specs.declared.seat.Seat.{Seat}
use Rattle.shared_table.specs.Seated.{actor, acts}
use Rattle.shared_table.specs.Shown.{IsReached}
use Rattle.tx_engine.proofs.CallLemmas.{stands_at}
use Rattle.tx_engine.specs.Ready.{standing}
use Rattle.tx_engine.specs.Requests.{has_written}
use Rattle.tx_engine.specs.Requests as entries
use Rattle.tx_engine.proofs.AttemptLemmas.{same_calls}

-- what holds of none that has a mark, and of none that has not
none_at_all : {A : Type 0} (p q : A → Bool) (xs : List A) → list_any p (filter q xs) ≡ false
    → list_any p (filter (λ x. not (q x)) xs) ≡ false → list_any p xs ≡ false
none_at_all p q [] h g = refl
none_at_all p q (x ∷ xs) h g =
    elim (q x) as (λ b. list_any p (cond b (x ∷ filter q xs) (filter q xs)) ≡ false
    → list_any p (cond (not b) (x ∷ filter (λ x. not (q x)) xs) (filter (λ x. not (q x)) xs)) ≡ false
    → (p x || list_any p xs) ≡ false) [
      | true ↦ λ h g. (
          let parts = or_parts (p x) (list_any p (filter q xs)) h in
          ap (λ b. b || list_any p xs) parts.0 ∙ none_at_all p q xs parts.1 g)
      | false ↦ λ h g. (
          let parts = or_parts (p x) (list_any p (filter (λ x. not (q x)) xs)) g in
          ap (λ b. b || list_any p xs) parts.0 ∙ none_at_all p q xs h parts.1)
    ] h g

none_shifted : (f : ℕ) (ls : List ℕ) → ((l : ℕ) → IsIn l (shifted f ls) → ⊥) → ls ≡ []
none_shifted f [] none = refl
none_shifted f (x ∷ ls) none = absurd (none (f + x) (inl refl))

none_written : (es : Entries) → entries.has_some es ≡ false → es ≡ []
none_written [] e = refl
none_written (d ∷ es) e = absurd (true≢false e)

-- the calls on words of a machine's actor that writes none
abbrev is_change : {V : Type 0} → Call V × Reply V → Bool
is_change c = changes c.0.op c.1

words_still : (V : Type 0) (n : ℕ) (cs : List machine.Call) → ((l : ℕ) → touched cs l ≡ false)
    → list_any (is_change {V = V}) (map pair_of (word_calls n cs)) ≡ false
words_still V n [] none = refl
words_still V n (machine.Read l v ∷ cs) none =
    let rest = words_still V n cs none in
    elim (nat_lt l n) as (λ b. list_any (is_change {V = V}) (map pair_of (cond b (machine.Read l v ∷ word_calls n cs) (word_calls n cs)))
    ≡ false) [ true ↦ rest | false ↦ rest ]
words_still V n (machine.Write l v ∷ cs) none =
    absurd (true≢false (sym (cond-true (eqb l l) true (touched cs l) (eq-eqb l l refl)) ∙ none l))

module _ {V : Type 0} where
  -- ---- an outcome has the operation of its call
  map_op : (op : Op V) (m : FinMap nat_cmp V) (r : Outcome V) → map_rules.outcome_of op m ≡ Some r → r.op ≡ op
  map_op (Get k) m r e = ap (λ (o : Outcome V). o.op) (sym (same_Some _ r e))
  map_op (Put k v) m r e = ap (λ (o : Outcome V). o.op) (sym (same_Some _ r e))
  map_op (Remove k) m r e = ap (λ (o : Outcome V). o.op) (sym (same_Some _ r e))
  map_op Len m r e = ap (λ (o : Outcome V). o.op) (sym (same_Some _ r e))
  map_op _ m r e = absurd (none-some r e)

  bag_op : (op : Op V) (m : Multiset) (r : Outcome V) → bag_rules.outcome_of op m ≡ Some r → r.op ≡ op
  bag_op (Count x) m r e = ap (λ (o : Outcome V). o.op) (sym (same_Some _ r e))
  bag_op (Add x) m r e = ap (λ (o : Outcome V). o.op) (sym (same_Some _ r e))
  bag_op (Take x) m r e = ap (λ (o : Outcome V). o.op) (sym (same_Some _ r e))
  bag_op _ m r e = absurd (none-some r e)

  either_op : (b : Bool) (o p : Outcome V) (op : Op V) → o.op ≡ op → p.op ≡ op → (cond b o p).op ≡ op
  either_op true o p op h g = h
  either_op false o p op h g = g

  take_op : (first : Option ℕ) (m : Multiset) → (pq_rules.take_outcome {V = V} first m).op ≡ TakeLeast
  take_op None m = refl
  take_op (Some x) m = refl

  pq_op : (op : Op V) (s : pq_rules.Shown) (r : Outcome V) → pq_rules.outcome_of op s ≡ Some r → r.op ≡ op
  pq_op Least s r e = ap (λ (o : Outcome V). o.op) (sym (same_Some _ r e))
  pq_op (Insert x) s r e = ap (λ (o : Outcome V). o.op) (sym (same_Some _ r e)) ∙ either_op _ _ _ (Insert x) refl refl
  pq_op TakeLeast s r e = ap (λ (o : Outcome V). o.op) (sym (same_Some _ r e)) ∙ take_op s.least s.elements
  pq_op _ s r e = absurd (none-some r e)

  queue_op : (op : Op V) (s : queue_rules.Shown) (r : Outcome V) → queue_rules.outcome_of op s ≡ Some r → r.op ≡ op
  queue_op (Enqueue x) s r e = ap (λ (o : Outcome V). o.op) (sym (same_Some _ r e)) ∙ either_op _ _ _ (Enqueue x) refl refl
  queue_op Dequeue s r e = ap (λ (o : Outcome V). o.op) (sym (same_Some _ r e))
  queue_op Peek s r e = ap (λ (o : Outcome V). o.op) (sym (same_Some _ r e))
  queue_op Len s r e = ap (λ (o : Outcome V). o.op) (sym (same_Some _ r e))
  queue_op _ s r e = absurd (none-some r e)

  -- ---- and changes nothing where it writes nothing
  still : (op : Op V) (r : Outcome V) (writes : List ℕ) → r.op ≡ op → has_some writes ≡ changes r.op r.reply → writes ≡ []
      → changes op r.reply ≡ false
  still op r writes is law none = ap (λ p. changes p r.reply) (sym is) ∙ sym law ∙ ap has_some none

  still_by : (n : ℕ) (k : Kind) (v w : ℕ → Shown V) (op : Op V) (r : Outcome V) → outcome_of op (whole n k v) ≡ Some r
      → writes_of n r (whole n k w) ≡ [] → changes op r.reply ≡ false
  still_by n MapKind v w op r e none = still op r _ (map_op op _ r e) (map_laws.laws.written n op _ r e).0 none
  still_by n BagKind v w op r e none = still op r _ (bag_op op _ r e) (bag_laws.laws.written n op _ r e).0 none
  still_by n PqKind v w op r e none = still op r _ (pq_op op _ r e) (pq_laws.laws.written n op _ r e).0 none
  still_by n QueueKind v w op r e none = still op r _ (queue_op op _ r e) (queue_laws.laws.written n op _ r e).0 none

  still_in : (b : Option Block) (f : ℕ) (v : ℕ → Shown V) (op : Op V) (out : Option (Outcome V)) (reply : Reply V)
      → answer b f v op ≡ out → ((l : ℕ) → IsIn l (writes_in b f out) → ⊥) → option_map (λ r. r.reply) out ≡ Some reply
      → changes op reply ≡ false
  still_in b f v op None reply is none told = absurd (none-some reply told)
  still_in None f v op (Some r) reply is none told = absurd (none-some r is)
  still_in (Some b) f v op (Some r) reply is none told =
      ap (changes op) (sym (same_Some r.reply reply told))
      ∙ still_by b.stripes b.kind (λ i. v (f + i)) _ op r is (none_shifted f _ none)

  -- ---- the calls of a transaction
  held_still : (n : ℕ) (bs : List Block) (v : ℕ → Shown V) (done : List (Call V × Reply V)) (os : List (CallWithOutcome V)) → Told done os
      → AreLegal (content n bs) v os → ((l : ℕ) → Untouched (content n bs) l os) → list_any is_change done ≡ false
  held_still n bs v [] [] told legal none = refl
  held_still n bs v [] (o ∷ os) told legal none = absurd told
  held_still n bs v (c ∷ cs) [] told legal none = absurd told
  held_still n bs v (c ∷ cs) (o ∷ os) told legal none =
      let here : is_change c ≡ false =
      ap (λ (call : Call V). changes call.op c.1) told.0
      ∙ still_in _ _ v o.asked.op o.outcome c.1 (ap (λ (q : CallWithOutcome V). q.outcome) legal.0) (λ l. (none l).0) told.1 in
      ap (λ b. b || list_any is_change cs) here
      ∙ held_still n bs ((content n bs).change o v) cs os told.2 legal.1 (λ l. (none l).1)

  -- of an open one without writes
  none_changes : (w : World V) (a : ℕ) → Linked w → (w.seats a).stage ≡ Open → (actor_of w a).writes ≡ []
      → is_writer (w.seats a).calls ≡ false
  unfolding lookup
  none_changes w a linked stage none =
      let x = w.seats a in
      let y = actor_of w a in
      let z = w.boosted.shadows a in
      let inv = linked.base.inv in
      let at = subst (λ st. StageOk w.words w.blocks x y z st y.place) stage (linked.seats a).stage in
      let parts = at.1.tx.1 in
      let unwritten : (l : ℕ) → lookup y.writes l ≡ None = λ l. ap (λ (es : Entries). lookup es l) none in
      none_at_all is_change is_on_word x.calls
      (ap (list_any is_change) parts.words ∙ words_still V w.words y.calls (λ l. (inv.machine.actors a).sets.not_written l (unwritten l)))
      (held_still w.words w.blocks z.parts (on_held x.calls) z.outcomes parts.held ((inv.shadows a).legal z.parts (λ l r. refl))
      (λ l. (inv.shadows a).fits l (unwritten l)))

  -- ---- at a seat
  pub changes_nothing : (o : World V) (s : Seat V) (calls : List (Call V × Reply V)) → IsReached o (actor s) (acts o s)
      → standing o s ≡ Stands calls → has_written o s ≡ false → is_writer calls ≡ false
  changes_nothing o s calls h stands none =
      let a = actor s in
      let w = run o h.events in
      let x = (acts o s).seats a in
      let c = h.opens.contents in
      let linked : Linked w = run_linked h.events o
      (subst (λ (v : World V). Linked v) h.opens.world (opened_linked o.blocks h.opens.clock c.words c.held h.stripes)) in
      let stage : x.stage ≡ Open = stands_at x.calls calls x.stage stands in
      let made : x.calls ≡ calls = same_calls x.calls calls (sym (ap (known_stage_at x.calls) stage) ∙ stands) in
      subst (λ (cs : List (Call V × Reply V)). is_writer cs ≡ false) (ap (λ y. y.calls) h.alike.seat ∙ made)
      (none_changes w a linked (ap (λ y. y.stage) h.alike.seat ∙ stage)
      (ap (λ y. y.writes) h.alike.boosted.actor ∙ none_written (actor_of (acts o s) a).writes none))

-- What a transaction has of a collection, against its shadow in a world. A log is one outcome after another (`shows_log`), so after its own
-- calls the world shows the whole of what is kept with the log made on it, and there a held call has the answer that is kept.
use Rattle.std.proofs.Common.{◌≡◌, ◌≢◌, ℕ, ◌+◌, ◌<◌, ◌++◌, ◌==◌, Bool, true, false, List, [], Option, Some, eq-eqb, eqb-true, append-nil}
use Rattle.std.proofs.Common.{refl, sym, ap, subst, ◌∙◌}
use Rattle.std.specs.Prelude.{slice_get}
use Rattle.std.specs.FinMap as map
use Rattle.std.specs.FinMap.{FinMap}
use Rattle.std.specs.Ordering.{nat_cmp}
use Rattle.std.proofs.lemmas.Bool.{cond-true, cond-false}
use Rattle.std.proofs.lemmas.Option.{none-some}
use Rattle.seq_model.specs.declared.call.Op.{Op}
use Rattle.seq_model.specs.declared.call.Op.TheVariants.{Get, Put, Remove, Len, Count, Add, Take}
use Rattle.replay_log.specs.Pieces.{piece_of}
use Rattle.conflict.specs.declared.change.Change.{Change}
use Rattle.conflict.specs.declared.outcome.Outcome.{Outcome}
use Rattle.tx_machine.specs.Boosted.{Shadow, changes, longer}
use Rattle.replay_log.specs.Base.{Shown, OfMap, OfBag, OfPq, OfQueue, after, changes_of, outcome_of, shown_of, stripes_of, writes_of}
use Rattle.replay_log.specs.Parts.{kind_of, part, whole}
use Rattle.replay_log.specs.Contents.{CallWithOutcome, Block, HaveStripes, answer, blank, block_of, content, first_of, seen}
use Rattle.replay_log.proofs.ContentLemmas.{positive_at}
use Rattle.replay_log.proofs.PartLemmas.{is_whole, whole_local}
use Rattle.actor_laws.specs.Bases.{changes_on, log_changes, log_locations, writes_on}
use Rattle.actor_laws.proofs.Bases.{after_both, changes_by, kind_stays, more_changes, more_locations, shows_log, writes_by}
use Rattle.conflict.specs.RoomMap.{Room}
use Rattle.replay_log.specs.declared.touch.Touch.{Touch}
use Rattle.replay_log.specs.Touches.{summed_by}
use Rattle.shadow.specs.Memo.{IsAlike, IsCopyBy, MemoView, copies_kept, entries_kept, grown_kept, holds_with, shrunk_kept, with_count}
use Rattle.shadow.specs.Memo.{with_entry, with_total}
use Rattle.shadow.proofs.CopyLemmas.{copy_accepted, copy_answered, moved_copy, summed_copy}
use Rattle.actor_parts.specs.declared.copies.PrivateCopy.{PrivateCopy}
use Rattle.actor_parts.specs.declared.copies.PrivateCopy.TheVariants.{Keys, Whole}
use Rattle.actor_parts.specs.PrivateCopy.{IsAccepted, IsCopied, IsLearnt, IsOf, answer_of, answered_on, edition_at, has_piece, holds_call}
use Rattle.actor_parts.specs.PrivateCopy.{memo_piece}

itself : (k : ℕ) → (k == k) ≡ true
itself k = eq-eqb k k refl

pub apart : (j k : ℕ) → j ≢ k → (b : Bool) → (j == k) ≡ b → (j == k) ≡ false
apart j k other true is = absurd (other (eqb-true j k is))
apart j k other false is = is

module _ {V : Type 0} where
  -- ---- answers
  kept_answers : (b : Block) (s : Shown V) (cs : List (Change V)) (ls : List ℕ) (c : PrivateCopy V) (op : Op V) (o : Outcome V)
      → IsOf b s cs ls c → holds_call c op ≡ true → answer_of c op ≡ Some o → outcome_of op (after cs s) ≡ Some o
  kept_answers b s cs ls (Keys m es) op o is held e =
      subst (λ (ds : List (Change V)). outcome_of op (after ds s) ≡ Some o) is.2
      (copy_answered op (shown_of m.blank) s m.entries m.copies m.total m.grown m.shrunk m.changes o held is.4 e)
  kept_answers b s cs ls (Whole t) op o is held e =
      subst (λ (ds : List (Change V)). outcome_of op (after ds s) ≡ Some o) is.2 (ap (outcome_of op) (sym is.4) ∙ e)

  pub follows_answered : (n : ℕ) (bs : List Block) (k : ℕ) (b : Block) (x : Shadow (Shown V) (CallWithOutcome V)) (c : PrivateCopy V)
      (op : Op V) (o : Outcome V)
      → HaveStripes bs → block_of bs k ≡ Some b → IsCopied b (first_of n bs k) k x c → holds_call c op ≡ true → answer_of c op ≡ Some o
      → (content n bs).outcome (changes (content n bs) x.outcomes x.parts) (record { collection = k; op = op }) ≡ answered_on k op o
  follows_answered n bs k b x c op o stripes is copied held e =
      let f = first_of n bs k in
      let s = copied.0.0 in
      let shows = copied.0.1 in
      let v = changes (content n bs) x.outcomes x.parts in
      let made : Shown V = after (log_changes k b x.outcomes) s in
      let pos = positive_at bs k b stripes is in
      let kind : kind_of made ≡ b.kind = kind_stays (log_changes k b x.outcomes) s ∙ shows.0 in
      let all : seen b f v ≡ made = whole_local b.stripes b.kind (λ i. v (f + i)) (λ i. part b.stripes i made) pos
      (shows_log n bs k b stripes is x.outcomes x.parts s shows.0 shows.1)
      ∙ ((λ j. whole b.stripes (sym kind j) (λ i. part b.stripes i made)) ∙ is_whole b.stripes made pos) in
      let there : answer (block_of bs k) f v op ≡ Some o = (λ j. answer (is j) f v op)
      ∙ (ap (outcome_of op) all ∙ kept_answers b s (log_changes k b x.outcomes) (log_locations k b x.outcomes) c op o copied.0.2 held e) in
      λ j. record { asked = record { collection = k; op = op }; outcome = there j }

  -- ---- what is accepted
  pub same_copy : (b c : Shown V) (es fs : FinMap nat_cmp (Option V)) (cs ds : FinMap nat_cmp ℕ) (t u : Option ℕ) (g h i j : ℕ)
      (xs ys : List (Change V)) (s : Shown V) → c ≡ b → fs ≡ es → ds ≡ cs → u ≡ t → h ≡ g → j ≡ i → ys ≡ xs
      → IsCopyBy b es cs t g i xs s → IsCopyBy c fs ds u h j ys s
  same_copy b c es fs cs ds t u g h i j xs ys s e0 e1 e2 e3 e4 e5 e6 is =
      subst (λ z. IsCopyBy c fs ds u h j z s) (sym e6)
      (subst (λ z. IsCopyBy c fs ds u h z xs s) (sym e5)
      (subst (λ z. IsCopyBy c fs ds u z i xs s) (sym e4)
      (subst (λ z. IsCopyBy c fs ds z g i xs s) (sym e3)
      (subst (λ z. IsCopyBy c fs z t g i xs s) (sym e2)
      (subst (λ z. IsCopyBy c z cs t g i xs s) (sym e1)
      (subst (λ z. IsCopyBy z es cs t g i xs s) (sym e0) is))))))

  kept_accepts : (b : Block) (s : Shown V) (cs : List (Change V)) (ls : List ℕ) (c d : PrivateCopy V) (o : Outcome V)
      → IsOf b s cs ls c → holds_call c o.op ≡ true → answer_of c o.op ≡ Some o → IsAccepted o c d
      → IsOf b s (cs ++ changes_of o (blank b)) (ls ++ writes_of b.stripes o (blank b)) d
  kept_accepts b s cs ls (Keys m es) (Keys n fs) o is held e acc =
      let shape = shown_of m.blank in (
        ap (λ z. kind_of (shown_of z)) acc.0 ∙ is.0,
        ap stripes_of acc.0 ∙ is.1,
        acc.6 ∙ (λ i. is.2 i ++ sym (changes_by b.kind b.stripes o shape is.0) i),
        acc.7 ∙ (λ i. is.3 i ++ (ap (λ r. writes_of r o shape) is.1 ∙ sym (writes_by b.kind b.stripes o shape is.0)) i),
        same_copy shape (shown_of n.blank)
            (entries_kept shape o m.entries) n.entries (copies_kept shape o m.copies) n.copies m.total n.total
            (grown_kept shape o m.grown) n.grown (shrunk_kept shape o m.shrunk) n.shrunk (m.changes ++ changes_of o shape) n.changes s
            (ap shown_of acc.0) acc.1 acc.2 acc.3 acc.4 acc.5 acc.6
            (copy_accepted o shape s m.entries m.copies m.total m.grown m.shrunk m.changes held e is.4),
      )
  kept_accepts b s cs ls (Whole t) (Whole u) o is held e acc =
      let shape = shown_of t.base in (
        ap kind_of acc.0 ∙ kind_stays (changes_of o shape) shape ∙ is.0,
        acc.1 ∙ is.1,
        acc.3 ∙ (λ i. is.2 i ++ sym (changes_by b.kind b.stripes o shape is.0) i),
        acc.4 ∙ (λ i. is.3 i ++ (ap (λ r. writes_of r o shape) is.1 ∙ sym (writes_by b.kind b.stripes o shape is.0)) i),
        acc.0 ∙ ap (after (changes_of o shape)) is.4 ∙ sym (after_both t.changes (changes_of o shape) s) ∙ ap (λ ds. after ds s)
            (sym acc.3),
      )
  kept_accepts b s cs ls (Keys m es) (Whole u) o is held e acc = absurd acc
  kept_accepts b s cs ls (Whole t) (Keys n fs) o is held e acc = absurd acc

  pub editions_stay : (o : Outcome V) (c d : PrivateCopy V) → IsAccepted o c d → (i : ℕ) → edition_at d i ≡ edition_at c i
  editions_stay o (Keys m es) (Keys n fs) acc i = ap (λ z. map.get z i) acc.8
  editions_stay o (Whole t) (Whole u) acc i = ap (λ z. slice_get z i) acc.2
  editions_stay o (Keys m es) (Whole u) acc i = absurd acc
  editions_stay o (Whole t) (Keys n fs) acc i = absurd acc

  pub same_log : (b : Block) (s : Shown V) (xs ys : List (Change V)) (ls ms : List ℕ) (c : PrivateCopy V) → ys ≡ xs → ms ≡ ls
      → IsOf b s xs ls c → IsOf b s ys ms c
  same_log b s xs ys ls ms c e f is = subst (λ z. IsOf b s z ms c) (sym e) (subst (λ z. IsOf b s xs z c) (sym f) is)

  pub follows_accepted : (b : Block) (f k : ℕ) (x : Shadow (Shown V) (CallWithOutcome V)) (c d : PrivateCopy V) (o : Outcome V)
      → IsCopied b f k x c → holds_call c o.op ≡ true → answer_of c o.op ≡ Some o → IsAccepted o c d
      → IsCopied b f k (longer x (answered_on k o.op o)) d
  follows_accepted b f k x c d o copied held e acc =
      let s = copied.0.0 in
      let more = answered_on k o.op o in
      let cs : List (Change V) = changes_of o (blank b) in
      let ls : List ℕ = writes_of b.stripes o (blank b) in (
        (
          s,
          copied.0.1,
          same_log b s (log_changes k b x.outcomes ++ cs) (log_changes k b (longer x more).outcomes)
              (log_locations k b x.outcomes ++ ls) (log_locations k b (longer x more).outcomes) d
              (more_changes k b x.outcomes more ∙ ap (λ z. log_changes k b x.outcomes ++ z) (cond-true (k == k) cs [] (itself k)))
              (more_locations k b x.outcomes more ∙ ap (λ z. log_locations k b x.outcomes ++ z) (cond-true (k == k) ls [] (itself k)))
              (kept_accepts b s (log_changes k b x.outcomes) (log_locations k b x.outcomes) c d o copied.0.2 held e acc),
        ),
        λ i v lt is. copied.1 i v lt (sym (editions_stay o c d acc i) ∙ is),
      )

  pub follows_others : (b : Block) (f k : ℕ) (x : Shadow (Shown V) (CallWithOutcome V)) (c : PrivateCopy V) (o : CallWithOutcome V)
      → IsCopied b f k x c → o.asked.collection ≢ k → IsCopied b f k (longer x o) c
  follows_others b f k x c o copied other =
      let none = apart o.asked.collection k other (o.asked.collection == k) refl in (
        (
          copied.0.0,
          copied.0.1,
          same_log b copied.0.0 (log_changes k b x.outcomes) (log_changes k b (longer x o).outcomes)
              (log_locations k b x.outcomes) (log_locations k b (longer x o).outcomes) c
              (more_changes k b x.outcomes o
              ∙ ap (λ z. log_changes k b x.outcomes ++ z) (cond-false (o.asked.collection == k) (changes_on b o.outcome) [] none)
              ∙ append-nil (log_changes k b x.outcomes))
              (more_locations k b x.outcomes o
              ∙ ap (λ z. log_locations k b x.outcomes ++ z) (cond-false (o.asked.collection == k) (writes_on b o.outcome) [] none)
              ∙ append-nil (log_locations k b x.outcomes))
              copied.0.2,
        ),
        copied.1,
      )

  -- ---- what is learnt
  pub follows_learnt : (b : Block) (s : Shown V) (cs : List (Change V)) (ls : List ℕ) (c d : PrivateCopy V) (op : Op V) (t : Touch V)
      → 0 < b.stripes → IsOf b s cs ls c → summed_by b.stripes op s ≡ Some t.held → IsLearnt t c d → IsOf b s cs ls d
  follows_learnt b s cs ls (Keys m es) (Keys n fs) op t pos is e now =
      let shape = shown_of m.blank in (
        ap (λ z. kind_of (shown_of z)) now.0 ∙ is.0,
        ap stripes_of now.0 ∙ is.1,
        now.6 ∙ is.2,
        now.7 ∙ is.3,
        same_copy shape (shown_of n.blank) (with_entry t.held m.entries) n.entries (with_count t.held m.copies) n.copies
            (with_total t.held m.total) n.total m.grown n.grown m.shrunk n.shrunk m.changes n.changes s
            (ap shown_of now.0) now.1 now.2 now.3 now.4 now.5 now.6
            (summed_copy m.grown m.shrunk m.changes b.stripes op t.held shape s m.entries m.copies m.total pos e is.4),
      )
  follows_learnt b s cs ls (Whole x) d op t pos is e now = subst (IsOf b s cs ls) (sym now) is
  follows_learnt b s cs ls (Keys m es) (Whole x) op t pos is e now = absurd now

  -- what is kept of single keys is of each collection that answers alike what is held
  pub follows_moved : (b : Block) (s u : Shown V) (cs : List (Change V)) (ls : List ℕ) (m : MemoView V) (es : Room ℕ)
      → IsOf b s cs ls (Keys m es) → IsAlike (shown_of m.blank) m.entries m.copies m.total s u → IsOf b u cs ls (Keys m es)
  follows_moved b s u cs ls m es is alike =
      (is.0, is.1, is.2, is.3, moved_copy (shown_of m.blank) s u m.entries m.copies m.total m.grown m.shrunk m.changes is.4 alike)

  -- ---- pieces
  held_piece : (s : Shown V) (m : MemoView V) (op : Op V) (o : Outcome V) → outcome_of op s ≡ Some o
      → holds_with s m.entries m.copies m.total op ≡ memo_piece s m (piece_of (kind_of s) op)
  held_piece (OfMap b) m (Get k) o e = refl
  held_piece (OfMap b) m (Put k v) o e = refl
  held_piece (OfMap b) m (Remove k) o e = refl
  held_piece (OfMap b) m Len o e = refl
  held_piece (OfMap b) m _ o e = absurd (none-some o e)
  held_piece (OfBag b) m (Count x) o e = refl
  held_piece (OfBag b) m (Add x) o e = refl
  held_piece (OfBag b) m (Take x) o e = refl
  held_piece (OfBag b) m _ o e = absurd (none-some o e)
  held_piece (OfPq b) m op o e = refl
  held_piece (OfQueue b) m op o e = refl

  pub follows_pieces : (m : MemoView V) (es : Room ℕ) (op : Op V) (o : Outcome V) → outcome_of op (shown_of m.blank) ≡ Some o
      → holds_call (Keys m es) op ≡ has_piece (Keys m es) (piece_of (kind_of (shown_of m.blank)) op)
  follows_pieces m es op o e = held_piece (shown_of m.blank) m op o e

-- The sets of a transaction have no more locations than the weight of its calls.
-- A call that is copied for or asked at once has as many locations still to be judged as it reads, which are no more than its weight. Each
-- read that is answered adds one at most to the read set, and is no longer to be judged; and a call that is accepted adds to the write set
-- what it writes, which is no more than its weight either. So where the weights of all calls with this one are within the limit of a set,
-- there is room.
use Rattle.std.proofs.Common.{◌≡◌, ℕ, zero, suc, ◌+◌, ◌≤◌, Bool, true, false, cond, ◌&&◌, ◌||◌, List, [], ◌∷◌, ◌++◌, length}
use Rattle.std.proofs.Common.{Option, Some, None, refl, sym, ◌∙◌, ap, subst, arith, eqb}
use Rattle.std.specs.Prelude.{nat_le, nat_lt, option_map}
use Rattle.std.specs.FinMap.{FinMap, empty}
use Rattle.std.specs.Ordering.{nat_cmp}
use Rattle.std.proofs.lemmas.Bool.{cond_both}
use Rattle.std.proofs.lemmas.Bool.Decides.{nat_tests}
use Rattle.tx_sets.specs.Entries.{Entries, lookup, with_entry}
use Rattle.tx_sets.proofs.EntryLemmas.{by_head, with_entry-nil}
use Rattle.tx_machine.specs.Actor as machine
use Rattle.tx_machine.specs.Actor.{Place, Actor, goes}
use Rattle.tx_machine.specs.Requests as word
use Rattle.tx_machine.specs.World as world
use Rattle.tx_machine.specs.World.{World as Words, plan}
use Rattle.tx_machine.specs.Notices as told
use Rattle.tx_machine.proofs.Sets.{put-same}
use Rattle.seq_model.specs.declared.call.Call.{Call}
use Rattle.seq_model.specs.declared.call.Op.{Op}
use Rattle.seq_model.specs.declared.call.Op.TheVariants.{Read, Write, Remove, Len, Count, Add, Take, Least, Insert, TakeLeast, Enqueue}
use Rattle.seq_model.specs.declared.call.Op.TheVariants.{Dequeue, Peek}
use Rattle.seq_model.specs.declared.call.Reply.{Reply}
use Rattle.seq_model.specs.declared.call.Reply.TheVariants as reply
use Rattle.seq_model.specs.declared.event.Event.{Event}
use Rattle.seq_model.specs.declared.event.Event.TheVariants.{Ask, Step}
use Rattle.seq_model.specs.declared.event.Notice.TheVariants.{Refused}
use Rattle.seq_model.specs.declared.event.Request.TheVariants as request
use Rattle.seq_model.specs.declared.limits.TheConstants.{CALL_LIMIT, INDEX_LIMIT}
use Rattle.seq_model.specs.declared.refusal.Refusal.TheVariants as refusal
use Rattle.seq_model.specs.Calls.{map_call}
use Rattle.seq_model.specs.Counts.{Multiset}
use Rattle.seq_model.proofs.LogicLemmas.{le-nat_le}
use Rattle.base_map.specs.Conflicts as map
use Rattle.base_bag.specs.Conflicts as bag
use Rattle.base_pq.specs.Conflicts as pq
use Rattle.base_queue.specs.Conflicts as queue
use Rattle.conflict.specs.declared.outcome.Note.{Note}
use Rattle.conflict.specs.declared.outcome.Note.TheVariants.{Index, Plain}
use Rattle.conflict.specs.declared.outcome.Outcome.{Outcome}
use Rattle.conflict.specs.Footprints.{map_reads, map_writes, multiset_reads, multiset_writes, priority_queue_reads, priority_queue_writes}
use Rattle.conflict.specs.Footprints.{queue_reads, queue_writes}
use Rattle.tx_machine.specs.Boosted.{Boosted, PutGate, Accept, TakeGate, GoHome, is_open, is_sound, every, may_write, changes}
use Rattle.tx_machine.specs.Boosted.{writes_asked, longer, is_none}
use Rattle.replay_log.specs.Base.{Shown, OfMap, OfBag, OfPq, OfQueue, outcome_of, reads_of, writes_of}
use Rattle.replay_log.specs.Contents.{Block, CollectionCall, CallWithOutcome, answer, block_of, blank, content, first_of, reads_in}
use Rattle.replay_log.specs.Contents.{seen, writes_in}
use Rattle.replay_log.specs.Parts.{Kind, MapKind, BagKind, PqKind, QueueKind, whole}
use Rattle.replay_log.specs.Pieces.{piece_at, covers_at}
use Rattle.replay_log.specs.Worlds.{World, Seat, Stage, Idle, Beginning, Open, Locking, Releasing, Closing, Cancelling, Leaving, Reading}
use Rattle.replay_log.specs.Worlds.{Trying, Copying, Loading, Gating, Ready, Storing, Homing, Returning, After, new_in, fits, has_room}
use Rattle.replay_log.specs.Worlds.{with_editions, at_stage, because, seated, acted, asks, moves, actor_of, word_notice, no_one, is_leaving}
use Rattle.replay_log.specs.Worlds.{cancels, gives_up, with_call, reads, outcome_at, is_fresh, judges, loads, answers, calls_on, call_of}
use Rattle.replay_log.specs.Worlds.{reply_of, if_allowed, ask_op, commits, ask_at, recorded, has_begun, has_read}
use Rattle.replay_log.specs.Worlds.{has_tried, with_piece, sized_by, has_loaded, written_homes, takes_gates}
use Rattle.replay_log.specs.Worlds.{has_locked, goes_home, has_stored, has_released, has_cancelled, step_at, more_tries, happens, run}
use Rattle.replay_log.proofs.ActionLemmas.{learns}
use Rattle.replay_log.proofs.CountLemmas.{filter_shorter, length-shifted}
use Rattle.replay_log.proofs.EventLemmas.{happens_linked}
use Rattle.replay_log.proofs.PlaceLemmas.{SameTx, AfterRead, read_after}
use Rattle.replay_log.proofs.SeatLemmas.{StageOk, Linked}
use Rattle.replay_log.proofs.SetLemmas.{SameSets, IsNoWrite, moved_is, take_words, put_words, asked_sets}
use Rattle.actor_laws.specs.Alone.{IsSmall, weight, weights, IsPlain, ArePlain}

-- ---- how many locations a call has
module _ (V : Type 0) where
  map_few : (n : ℕ) (op : Op V) → IsSmall op → length (map_reads n op) ≤ weight op
  map_few n Len s = absurd s
  map_few n op s = omega arith

  map_writes_few : (n : ℕ) (op : Op V) (r : Reply V) → length (map_writes n op r) ≤ weight op
  map_writes_few n (Remove k) (reply.Value old) = omega arith
  map_writes_few n op r = omega arith

  bag_few : (n : ℕ) (op : Op V) → length (multiset_reads n op) ≤ weight op
  bag_few n (Count x) = omega arith
  bag_few n op = omega arith

  bag_writes_few : (n : ℕ) (op : Op V) (r : Reply V) → length (multiset_writes n op r) ≤ weight op
  bag_writes_few n (Add x) reply.Done = omega arith
  bag_writes_few n (Take x) reply.Yes = omega arith
  bag_writes_few n op r = omega arith

  pq_few : (n : ℕ) (op : Op V) (r : Reply V) → IsSmall op → length (priority_queue_reads n op r) ≤ weight op
  pq_few n (Insert x) r s = absurd s
  pq_few n TakeLeast r s = absurd s
  pq_few n op r s = omega arith

  pq_writes_few : (n : ℕ) (op : Op V) (r : Reply V) (i : Note) → IsSmall op → length (priority_queue_writes n op r i) ≤ weight op
  pq_writes_few n (Insert x) r i s = absurd s
  pq_writes_few n TakeLeast r i s = absurd s
  pq_writes_few n op r i s = omega arith

  queue_few : (n : ℕ) (op : Op V) (i : Note) → IsSmall op → length (queue_reads n op i) ≤ weight op
  queue_few n Len i s = absurd s
  queue_few n (Enqueue x) (Index t) s = omega arith
  queue_few n Dequeue (Index t) s = omega arith
  queue_few n Peek (Index t) s = omega arith
  queue_few n op i s = omega arith

  queue_writes_few : (n : ℕ) (op : Op V) (r : Reply V) (i : Note) → length (queue_writes n op r i) ≤ weight op
  queue_writes_few n (Enqueue x) reply.Done (Index t) = omega arith
  queue_writes_few n Dequeue (reply.Found x) (Index t) = omega arith
  queue_writes_few n op r i = omega arith

module _ {V : Type 0} where
  -- an outcome is that of the call that was asked
  abbrev IsOf : Op V → Option (Outcome V) → Type 0
  IsOf op None = Unit {0}
  IsOf op (Some r) = r.op ≡ op

  bag_is : (op : Op V) (m : Multiset) → IsOf op (bag.outcome_of op m)
  bag_is (Count x) m = refl
  bag_is (Add x) m = refl
  bag_is (Take x) m = refl
  bag_is op m = tt

  pq_is : (op : Op V) (m : pq.Shown) → IsSmall op → IsOf op (pq.outcome_of op m)
  pq_is Least m s = absurd s
  pq_is (Insert x) m s = absurd s
  pq_is TakeLeast m s = absurd s
  pq_is op m s = tt

  queue_is : (op : Op V) (m : queue.Shown) → IsOf op (queue.outcome_of op m)
  queue_is (Enqueue x) m =
      cond_both {A = Outcome V} (nat_lt m.tail INDEX_LIMIT) _ _ (λ (r : Outcome V). r.op ≡ Enqueue x) (λ _. refl) (λ _. refl)
  queue_is Dequeue m = refl
  queue_is Peek m = refl
  queue_is Len m = refl
  queue_is op m = tt

  map_is : (op : Op V) (m : FinMap nat_cmp V) → IsOf op (map.outcome_of op m)
  map_is op m = by (map_call op m)
    where
      by : (o : Option (Reply V × FinMap nat_cmp V))
          → IsOf op (option_map (λ (r : Reply V × FinMap nat_cmp V). record { op = op; reply = r.0; note = Plain }) o)
      by None = tt
      by (Some r) = refl

  is_of : (op : Op V) (s : Shown V) → IsSmall op → IsOf op (outcome_of op s)
  is_of op (OfMap m) s = map_is op m
  is_of op (OfBag m) s = bag_is op m
  is_of op (OfPq m) s = pq_is op m s
  is_of op (OfQueue m) s = queue_is op m

  kind_reads : (n : ℕ) (k : Kind) (w : ℕ → Shown V) (r : Outcome V) → IsSmall r.op → length (reads_of n r (whole n k w)) ≤ weight r.op
  kind_reads n MapKind w r s = map_few V n r.op s
  kind_reads n BagKind w r s = bag_few V n r.op
  kind_reads n PqKind w r s = pq_few V n r.op r.reply s
  kind_reads n QueueKind w r s = queue_few V n r.op r.note s

  kind_writes : (n : ℕ) (k : Kind) (w : ℕ → Shown V) (r : Outcome V) → IsSmall r.op → length (writes_of n r (whole n k w)) ≤ weight r.op
  kind_writes n MapKind w r s = map_writes_few V n r.op r.reply
  kind_writes n BagKind w r s = bag_writes_few V n r.op r.reply
  kind_writes n PqKind w r s = pq_writes_few V n r.op r.reply r.note s
  kind_writes n QueueKind w r s = queue_writes_few V n r.op r.reply r.note

  abbrev FewIn : Op V → Option Block → ℕ → Option (Outcome V) → Type 0
  FewIn op b f o = (length (reads_in b f o) ≤ weight op) × (length (writes_in b f o) ≤ weight op)

  few_some : (op : Op V) (b : Block) (f : ℕ) (o : Option (Outcome V)) → IsSmall op → IsOf op o → FewIn op (Some b) f o
  few_some op b f None s is = (omega arith, omega arith)
  few_some op b f (Some r) s is =
      let small : IsSmall r.op = subst IsSmall (sym is) s in
      let w : ℕ → Shown V = λ i. OfMap empty in
      let same = ap weight is in
      let reads = kind_reads b.stripes b.kind w r small in
      let writes = kind_writes b.stripes b.kind w r small in
      let reads_as = length-shifted f (reads_of b.stripes r (blank b)) in
      let writes_as = length-shifted f (writes_of b.stripes r (blank b)) in
      (omega (arith, same, reads, reads_as), omega (arith, same, writes, writes_as))

  few_none : (op : Op V) (f : ℕ) (o : Option (Outcome V)) → FewIn op None f o
  few_none op f None = (omega arith, omega arith)
  few_none op f (Some r) = (omega arith, omega arith)

  few_in : (op : Op V) (b : Option Block) (f : ℕ) (v : ℕ → Shown V) → IsSmall op → FewIn op b f (answer b f v op)
  few_in op None f v s = few_none op f None
  few_in op (Some b) f v s = few_some op b f (outcome_of op (seen b f v)) s (is_of op (seen b f v) s)

  -- the locations of a small call, whatever the collections show
  few_of : (n : ℕ) (bs : List Block) (v : ℕ → Shown V) (asked : CollectionCall V) → IsSmall asked.op
      → let c = content n bs in
      (length (c.reads (c.outcome v asked)) ≤ weight asked.op) × (length (c.writes (c.outcome v asked)) ≤ weight asked.op)
  few_of n bs v asked s = few_in asked.op (block_of bs asked.collection) (first_of n bs asked.collection) v s

-- ---- sets
-- both have no more locations than this
pub record IsFew (n : ℕ) (y : Actor) : Type 0 where
  pub reads : length y.reads ≤ n
  pub writes : length y.writes ≤ n

-- z has what y has read, and no more than n writes more
abbrev Grows : ℕ → Actor → Actor → Type 0
Grows n y z = (z.reads ≡ y.reads) × (length z.writes ≤ length y.writes + n)

entry_few : (es : Entries) (l v : ℕ) → length (with_entry es l v) ≤ length es + 1
entry_few [] l v = let e = ap length (with_entry-nil l v) in omega (arith, e)
entry_few (e ∷ es) l v =
    let more = entry_few es l v in
    by_head (λ (xs : Entries). length xs ≤ length (e ∷ es) + 1) e es l v (λ _. omega arith) (λ _. omega arith) (λ _. omega (arith, more))

read_few : (declared : Bool) (es : Entries) (l v : ℕ) → length (machine.with_read declared es l v) ≤ length es + 1
read_few true es l v = omega arith
read_few false es l v = entry_few es l v

write_grows : (y : Actor) (b : Bool) (l v : ℕ) → Grows 1 y (word.write y b l v)
write_grows y true l v = (refl, omega arith)
write_grows y false l v = (refl, entry_few y.writes l v)

ask_grows : (y : Actor) (p : Place) (l v : ℕ) → Grows 1 y (word.ask y p (word.AskWrite l v))
ask_grows y machine.Open l v = write_grows y y.declared l v
ask_grows y (machine.Check []) l v = (refl, omega arith)
ask_grows y (machine.Check (k ∷ ls)) l v = (refl, omega arith)
ask_grows y (machine.Store []) l v = (refl, omega arith)
ask_grows y (machine.Store (k ∷ ls)) l v = (refl, omega arith)
ask_grows y p l v = (refl, omega arith)

asked_grows : (s : Words) (a l v : ℕ)
    → Grows 1 (s.actors a) ((world.now s a (word.ask (s.actors a) (s.actors a).place (word.AskWrite l v))).actors a)
asked_grows s a l v =
    let y = s.actors a in
    subst (Grows 1 y) (sym (put-same s.actors a (word.ask y y.place (word.AskWrite l v)))) (ask_grows y y.place l v)

writes_grow : (a : ℕ) (editions : ℕ → ℕ) (ls : List ℕ) (s : Words)
    → Grows (length ls) (s.actors a) ((world.run (writes_asked a editions ls) s).actors a)
writes_grow a editions [] s = (refl, omega arith)
writes_grow a editions (l ∷ ls) s =
    let y = s.actors a in
    let t = world.now s a (word.ask y y.place (word.AskWrite l (editions l + 1))) in
    let one = asked_grows s a l (editions l + 1) in
    let more = writes_grow a editions ls t in
    let few = one.1 in
    let rest = more.1 in
    (more.0 ∙ one.0, omega (arith, few, rest))

with_editions_few : (f : ℕ → ℕ) (ls : List ℕ) → length (with_editions f ls) ≡ length ls
with_editions_few f [] = refl
with_editions_few f (l ∷ ls) = ap suc (with_editions_few f ls)

few_same : (n : ℕ) (y z : Actor) → SameSets y z → IsFew n y → IsFew n z
few_same n y z e h = record {
  reads = subst (λ (es : Entries). length es ≤ n) (sym e.0) h.reads;
  writes = subst (λ (es : Entries). length es ≤ n) (sym e.1) h.writes;
}

few_grown : (n k : ℕ) (y z : Actor) → Grows k y z → length y.reads ≤ n + k → length y.writes ≤ n → IsFew (n + k) z
few_grown n k y z g reads writes =
    let grown = g.1 in
    record {
      reads = subst (λ (es : Entries). length es ≤ n + k) (sym g.0) reads;
      writes = omega (arith, grown, writes);
    }

few_more : (n m : ℕ) (y : Actor) → n ≤ m → IsFew n y → IsFew m y
few_more n m y le h = record {
  reads = (let q = h.reads in omega (arith, le, q));
  writes = (let q = h.writes in omega (arith, le, q));
}

-- ---- room in a set
fit : (set : Entries) (ls : List ℕ) → length set + length ls ≤ 4096 → fits set ls ≡ true
fit set ls h =
    let few = filter_shorter (λ l. is_none (lookup set l)) ls in
    le-nat_le (length set + length (new_in set ls)) 4096 (omega (arith, few, h))

room : (y : Actor) (rs ws : List ℕ) → length y.reads + length rs ≤ 4096 → length y.writes + length ws ≤ 4096 → has_room y rs ws ≡ true
room y rs ws h g =
    ap (λ (b : Bool). y.declared || (b && fits y.writes ws)) (fit y.reads rs h)
    ∙ ap (λ (b : Bool). y.declared || b) (fit y.writes ws g) ∙ by y.declared
  where
    by : (b : Bool) → (b || true) ≡ true
    by true = refl
    by false = refl

pub fits_one : (set : Entries) (n l : ℕ) → length set ≤ n → n + 1 ≤ 4096 → fits set (l ∷ []) ≡ true
fits_one set n l h few = fit set (l ∷ []) (omega (arith, h, few))

-- ---- the weight of calls
module _ {V : Type 0} where
  pub weights_push : (cs : List (Call V × Reply V)) (c : Call V × Reply V) → weights (cs ++ c ∷ []) ≡ weights cs + weight c.0.op
  weights_push [] c = omega arith
  weights_push (d ∷ cs) c = let more = weights_push cs c in omega (arith, more)

  -- ---- a seat
  -- a call is judged, and n locations of it are left
  pub record IsJudged (x : Seat V) (o : CallWithOutcome V) (n : ℕ) (y : Actor) : Type 0 where
    pub reads : length y.reads + n ≤ weights x.calls + weight o.asked.op
    pub writes : length y.writes ≤ weights x.calls
    pub small : IsSmall o.asked.op

  -- what is so of the weight of all calls with one that is still to be copied for is P
  abbrev pub Sized : (P : ℕ → Type 0) → Seat V → Stage V → Actor → Type 0
  Sized P x Open y = IsFew (weights x.calls) y
  Sized P x (Reading l) y = IsFew (weights x.calls) y
  Sized P x (Trying asked tries) y = IsFew (weights x.calls) y × IsSmall asked.op × P (weights x.calls + weight asked.op)
  Sized P x (Copying asked) y = IsFew (weights x.calls) y × IsSmall asked.op × P (weights x.calls + weight asked.op)
  Sized P x (Loading o es) y = IsJudged x o (length es) y
  Sized P x st y = Unit {0}

  judged_same : (x : Seat V) (o : CallWithOutcome V) (n : ℕ) (y z : Actor) → SameSets y z → IsJudged x o n y → IsJudged x o n z
  judged_same x o n y z e h = record {
    reads = subst (λ (es : Entries). length es + n ≤ weights x.calls + weight o.asked.op) (sym e.0) h.reads;
    writes = subst (λ (es : Entries). length es ≤ weights x.calls) (sym e.1) h.writes;
    small = h.small;
  }

  -- a call joins those before it
  joins_few : (x : Seat V) (call : Call V) (r : Reply V) (y : Actor) → IsFew (weights x.calls + weight call.op) y
      → IsFew (weights (with_call x call r).calls) y
  joins_few x call r y h = subst (λ n. IsFew n y) (sym (weights_push x.calls (call, r))) h

module _ {V : Type 0} (P : ℕ → Type 0) (a : ℕ) where
  abbrev pub SizedAt : World V → Type 0
  SizedAt w = Sized P (w.seats a) (w.seats a).stage (actor_of w a)

  abbrev pub SizedIn : After V → Type 0
  SizedIn r = SizedAt r.0

  pub sits : (u : World V) (x : Seat V) → Sized P x x.stage (actor_of u a) → SizedAt (seated u a x)
  sits u x h = subst (λ (q : Seat V). Sized P q q.stage (actor_of u a)) (sym (put-same u.seats a x)) h

  pub stays : (u : World V) (x : Seat V) (st : Stage V) → u.seats a ≡ x → x.stage ≡ st → Sized P x st (actor_of u a) → SizedAt u
  stays u x st seat at h =
      subst (λ (q : Seat V). Sized P q q.stage (actor_of u a)) (sym seat) (subst (λ (s : Stage V). Sized P x s (actor_of u a)) (sym at) h)

  choose : (b : Bool) (r s : After V) → (b ≡ true → SizedIn r) → (b ≡ false → SizedIn s) → SizedIn (cond b r s)
  choose true r s h g = h refl
  choose false r s h g = g refl

  asked_same : (u : World V) (q : word.Request) → IsNoWrite q → SameSets (actor_of u a) (actor_of (acted u (asks a q ∷ [])) a)
  asked_same u q f = asked_sets (content u.words u.blocks) u.boosted a q f

  -- ---- where a transaction is aborted
  pub cancels_sized : (u : World V) (x : Seat V) → SizedAt (cancels u a x)
  cancels_sized u x =
      let v = acted u (asks a word.AskCancel ∷ asks a word.AskAbort ∷ []) in
      elim (is_leaving (actor_of v a).place) as (λ b. SizedAt (seated v a (at_stage x (cond b Leaving Cancelling)))) [
        | true ↦ sits v (at_stage x Leaving) tt
        | false ↦ sits v (at_stage x Cancelling) tt
      ]

  pub gives_up_sized : (u : World V) (x : Seat V) (ks : List ℕ) → SizedIn (gives_up u a x ks)
  gives_up_sized u x [] = cancels_sized u x
  gives_up_sized u x (k ∷ ks) = sits u (at_stage x (Returning (k ∷ ks))) tt

  -- ---- a call on a collection
  accepted_grows : (u : World V) (asked : CollectionCall V) → IsSmall asked.op
      → Grows (weight asked.op) (actor_of u a) (actor_of (acted u (Accept a asked ∷ [])) a)
  accepted_grows u asked small =
      let c = content u.words u.blocks in
      let s = u.boosted in
      let y = s.words.actors a in
      let v = changes c (s.shadows a).outcomes (s.shadows a).parts in
      let o = c.outcome v asked in
      let few = (few_of u.words u.blocks v asked small).1 in
      let written : Boosted (Shown V) (CallWithOutcome V) = record s {
        words = world.run (writes_asked a (s.shadows a).editions (c.writes o)) s.words;
        shadows = world.put s.shadows a (longer (s.shadows a) o);
      } in
      cond_both (is_open y.place && (may_write y.declared (c.writes o) && every (is_sound c s a) (c.reads o))) written s
      (λ (t : Boosted (Shown V) (CallWithOutcome V)). Grows (weight asked.op) y (t.words.actors a))
      (λ _. (let g = writes_grow a (s.shadows a).editions (c.writes o) s.words in
      let more = g.1 in (g.0, omega (arith, few, more))))
      (λ _. (refl, omega arith))

  fresh_sized : (u : World V) (x : Seat V) (d : ℕ × ℕ) (v : ℕ) (next : After V) → SizedIn next → SizedIn (is_fresh u a x d v next)
  fresh_sized u x d v next n =
      choose (eqb d.1 v) next _ (λ _. n) (λ _. gives_up_sized u (because x (refusal.Stale d.0 d.1 v)) [])

  judges_sized : (u : World V) (x : Seat V) (o : CallWithOutcome V) (d : ℕ × ℕ) (es : Entries) (next : After V) (r : Option ℕ)
      → IsJudged x o (length (d ∷ es)) (actor_of u a) → SizedIn next → SizedIn (judges u a x o d es next r)
  judges_sized u x o d es next None h n =
      let t = acted u (asks a (word.AskRead d.0) ∷ []) in
      sits t (at_stage x (Loading o (d ∷ es)))
      (judged_same (at_stage x (Loading o (d ∷ es))) o (length (d ∷ es)) (actor_of u a) (actor_of t a)
      (asked_same u (word.AskRead d.0) tt) (record { reads = h.reads; writes = h.writes; small = h.small }))
  judges_sized u x o d es next (Some v) h n = fresh_sized u x d v next n

  loads_sized : (es : Entries) (u : World V) (x : Seat V) (o : CallWithOutcome V) → IsJudged x o (length es) (actor_of u a)
      → SizedIn (loads u a x o es)
  loads_sized [] u x o h =
      let reads = h.reads in
      sits (acted u (Accept a o.asked ∷ [])) (with_call x (call_of o) (reply_of o))
      (joins_few x (call_of o) (reply_of o) (actor_of (acted u (Accept a o.asked ∷ [])) a)
      (few_grown (weights x.calls) (weight o.asked.op) (actor_of u a) _ (accepted_grows u o.asked h.small) (omega (arith, reads)) h.writes))
  loads_sized (d ∷ es) u x o h =
      let reads = h.reads in
      judges_sized u x o d es (loads u a x o es) (lookup (actor_of u a).reads d.0) h
      (loads_sized es u x o (record { reads = omega (arith, reads); writes = h.writes; small = h.small }))

  answers_sized : (u : World V) (before x : Seat V) (sized : CallWithOutcome V) (v : ℕ → Shown V) (asked : CollectionCall V) (editions : ℕ
      → ℕ)
      → IsFew (weights before.calls) (actor_of u a) → before.calls ≡ x.calls → IsSmall asked.op
      → SizedIn (answers u a before x sized ((content u.words u.blocks).outcome v asked) editions)
  answers_sized u before x sized v asked editions h same small =
      let c = content u.words u.blocks in
      let o = c.outcome v asked in
      let y = actor_of u a in
      let es = with_editions editions (c.reads o) in
      let few : IsFew (weights x.calls) y = subst (λ (cs : List (Call V × Reply V)). IsFew (weights cs) y) same h in
      let reads = few.reads in
      let long = with_editions_few editions (c.reads o) in
      let left = (few_of u.words u.blocks v asked small).0 in
      choose (has_room y (c.reads sized) (c.writes sized)) (loads u a x o es) (seated u a (at_stage before Open), Refused a refusal.TooLong)
      (λ _. loads_sized es u x o (record { reads = omega (arith, reads, long, left); writes = few.writes; small = small }))
      (λ _. sits u (at_stage before Open) h)

  calls_on_sized : (u : World V) (x : Seat V) (asked : CollectionCall V) → IsFew (weights x.calls) (actor_of u a) → IsSmall asked.op
      → P (weights x.calls + weight asked.op) → SizedIn (calls_on u a x asked)
  calls_on_sized u x asked h small room =
      let c = content u.words u.blocks in
      let z = u.boosted.shadows a in
      choose (x.copied asked.collection (piece_at u.blocks asked))
      (answers u a x x (outcome_at u a asked) (outcome_at u a asked) z.editions) _
      (λ _. answers_sized u x x (outcome_at u a asked) (changes c z.outcomes z.parts) asked z.editions h refl small)
      (λ _. sits u (at_stage x (Trying asked more_tries)) (h, small, room))

  -- a load of a call
  has_loaded_sized : (u : World V) (x : Seat V) (y z : Actor) (o : CallWithOutcome V) (d : ℕ × ℕ) (es : Entries) (n : told.Notice)
      → actor_of u a ≡ z → u.seats a ≡ x → x.stage ≡ Loading o (d ∷ es) → IsJudged x o (length (d ∷ es)) y → AfterRead d.0 y z n
      → SizedIn (has_loaded u a x o d es n)
  has_loaded_sized u x y z o d es told.Quiet e seat st h after =
      let t : SameTx y z = after.1 in
      stays u x (Loading o (d ∷ es)) seat st
      (subst (λ (q : Actor). IsJudged x o (length (d ∷ es)) q) (sym e) (judged_same x o (length (d ∷ es)) y z (t.reads, t.writes) h))
  has_loaded_sized u x y z o d es (told.Number v) e seat st h after =
      let now : actor_of u a ≡ machine.has_read y d.0 v = e ∙ after in
      let reads = h.reads in
      let more = read_few y.declared y.reads d.0 v in
      fresh_sized u x d v (loads u a x o es)
      (loads_sized es u x o (subst (λ (q : Actor). IsJudged x o (length es) q) (sym now)
      (record { reads = omega (arith, reads, more); writes = h.writes; small = h.small })))
  has_loaded_sized u x y z o d es (told.Moved i found) e seat st h after = gives_up_sized u (because x (refusal.Moved i found)) []
  has_loaded_sized u x y z o d es n e seat st h after = absurd after

  -- ---- a word
  has_read_sized : (u : World V) (x : Seat V) (y z : Actor) (l : ℕ) (n : told.Notice) → actor_of u a ≡ z → u.seats a ≡ x
      → x.stage ≡ Reading l → IsFew (weights x.calls) y → AfterRead l y z n → SizedIn (has_read u a x l n)
  has_read_sized u x y z l told.Quiet e seat st h after =
      let t : SameTx y z = after.1 in
      stays u x (Reading l) seat st
      (subst (λ (q : Actor). IsFew (weights x.calls) q) (sym e) (few_same (weights x.calls) y z (t.reads, t.writes) h))
  has_read_sized u x y z l (told.Number v) e seat st h after =
      let call : Call V = record { target = l; op = Read } in
      let now : actor_of u a ≡ machine.has_read y l v = e ∙ after in
      let reads = h.reads in
      let writes = h.writes in
      let more = read_few y.declared y.reads l v in
      sits u (with_call x call (reply.Number v))
      (joins_few x call (reply.Number v) (actor_of u a)
      (subst (λ (q : Actor). IsFew (weights x.calls + 1) q) (sym now)
      (record { reads = omega (arith, reads, more); writes = omega (arith, writes) })))
  has_read_sized u x y z l (told.Moved i found) e seat st h after = gives_up_sized u (because x (refusal.Moved i found)) []
  has_read_sized u x y z l n e seat st h after = absurd after

  reads_sized : (w : World V) (x : Seat V) (l : ℕ) (n : told.Notice) → IsFew (weights x.calls) (actor_of w a) → SizedIn (reads w a x l n)
  reads_sized w x l (told.Number v) h =
      let call : Call V = record { target = l; op = Read } in
      let t = acted w (asks a (word.AskRead l) ∷ []) in
      sits t (with_call x call (reply.Number v))
      (joins_few x call (reply.Number v) (actor_of t a)
      (few_same (weights x.calls + 1) (actor_of w a) (actor_of t a) (asked_same w (word.AskRead l) tt)
      (few_more (weights x.calls) (weights x.calls + 1) (actor_of w a) (omega arith) h)))
  reads_sized w x l n h =
      let t = acted w (asks a (word.AskRead l) ∷ []) in
      sits t (at_stage x (Reading l)) (few_same (weights x.calls) (actor_of w a) (actor_of t a) (asked_same w (word.AskRead l) tt) h)

  write_sized : (w : World V) (x : Seat V) (l v : ℕ) → IsFew (weights x.calls) (actor_of w a)
      → SizedAt (seated (acted w (asks a (word.AskWrite l v) ∷ [])) a (with_call x (record { target = l; op = Write v }) reply.Done))
  write_sized w x l v h =
      let c = content {V = V} w.words w.blocks in
      let s = w.boosted in
      let y = s.words.actors a in
      let z = word.ask y y.place (word.AskWrite l v) in
      let call : Call V = record { target = l; op = Write v } in
      let t = acted w (asks a (word.AskWrite l v) ∷ []) in
      let reads = h.reads in
      let grown : Grows 1 y (actor_of t a) =
      cond_both (c.plain l) (record s { words = world.now s.words a z }) s
      (λ (t : Boosted (Shown V) (CallWithOutcome V)). Grows 1 y (t.words.actors a)) (λ _. asked_grows s.words a l v)
      (λ _. (refl, omega arith)) in
      sits t (with_call x call reply.Done)
      (joins_few x call reply.Done (actor_of t a)
      (few_grown (weights x.calls) 1 y (actor_of t a) grown (omega (arith, reads)) h.writes))

  allowed_sized : (w : World V) (x : Seat V) (known room : Bool) (next : After V) → SizedAt w → SizedIn next
      → SizedIn (if_allowed w a x known room next)
  allowed_sized w x known room next h n =
      choose known _ _ (λ _. choose (nat_lt (length x.calls) CALL_LIMIT && room) next _ (λ _. n) (λ _. h)) (λ _. h)

  op_sized : (w : World V) (x : Seat V) (t : ℕ) (op : Op V) → IsSmall op → P (weights x.calls + weight op) → SizedAt w
      → IsFew (weights x.calls) (actor_of w a)
      → SizedIn (ask_op w a x t op)
  op_sized w x t Read small room h few = allowed_sized w x _ _ _ h (reads_sized w x t _ few)
  op_sized w x t (Write v) small room h few = allowed_sized w x _ _ _ h (write_sized w x t v few)
  op_sized w x t op small room h few = allowed_sized w x _ _ _ h (calls_on_sized w x (record { collection = t; op = op }) few small room)

  commits_sized : (w : World V) (x : Seat V) (es : Entries) → SizedIn (commits w a x es)
  commits_sized w x [] = sits (acted w (asks a word.AskClose ∷ [])) (at_stage x Closing) tt
  commits_sized w x (e ∷ es) = sits (acted w (asks a word.AskLock ∷ [])) (at_stage x Locking) tt

  -- ---- requests
  pub begin_sized : (w : World V) (x : Seat V) (st : Stage V) → SizedAt w → SizedIn (ask_at w a x st request.Begin)
  begin_sized w x Idle h = sits (acted w (asks a word.AskBegin ∷ [])) (at_stage x Beginning) tt
  begin_sized w x Open h = h
  begin_sized w x st h = h

  pub call_sized : (w : World V) (x : Seat V) (st : Stage V) (call : Call V)
      → (st ≡ Open → IsSmall call.op × P (weights x.calls + weight call.op)) → SizedAt w → Sized P x st (actor_of w a)
      → SizedIn (ask_at w a x st (request.Call call))
  call_sized w x Idle call fit h few = h
  call_sized w x Open call fit h few = (let both = fit refl in op_sized w x call.target call.op both.0 both.1 h few)
  call_sized w x st call fit h few = h

  pub commit_sized : (w : World V) (x : Seat V) (st : Stage V) → SizedAt w → SizedIn (ask_at w a x st request.Commit)
  commit_sized w x Idle h = h
  commit_sized w x Open h = commits_sized w x (actor_of w a).writes
  commit_sized w x st h = h

  -- ---- steps
  begun_sized : (u : World V) (x : Seat V) (y : Actor) (clock : ℕ) (b : Bool) → u.seats a ≡ x → x.stage ≡ Beginning
      → actor_of u a ≡ cond b (machine.opened y.declared clock) (goes y machine.Idle)
      → SizedIn (has_begun u a x (cond b (told.Begun clock) (told.Exhausted clock)))
  begun_sized u x y clock true seat st e =
      sits u (record no_one { stage = Open; rv = clock })
      (subst (λ (q : Actor). IsFew 0 q) (sym e) (record { reads = omega arith; writes = omega arith }))
  begun_sized u x y clock false seat st e = sits u no_one tt

  tried_sized : (u : World V) (x : Seat V) (free : Bool) (k : ℕ) (got : List ℕ) (again : ℕ → Stage V) (next : Stage V) (tries : ℕ)
      → Sized P x next (actor_of u a) → ((m : ℕ) → Sized P x (again m) (actor_of u a))
      → ((st : Stage V) → Sized P x st (actor_of u a) → Sized P (at_stage x st) st (actor_of u a))
      → SizedIn (has_tried u a x free k got again next tries)
  tried_sized u x free k got again next zero h m keep =
      choose free _ _ (λ _. sits u (at_stage x next) (keep next h)) (λ _. gives_up_sized u (because x (refusal.GateBusy k)) got)
  tried_sized u x free k got again next (suc j) h m keep =
      choose free _ _ (λ _. sits u (at_stage x next) (keep next h)) (λ _. sits u (at_stage x (again j)) (keep (again j) (m j)))

  -- the calls alone count
  at_stage_sized : (x : Seat V) (y : Actor) (st : Stage V) → Sized P x st y → Sized P (at_stage x st) st y
  at_stage_sized x y (Loading o es) h = record { reads = h.reads; writes = h.writes; small = h.small }
  at_stage_sized x y Open h = h
  at_stage_sized x y (Reading l) h = h
  at_stage_sized x y (Trying asked tries) h = h
  at_stage_sized x y (Copying asked) h = h
  at_stage_sized x y Idle h = tt
  at_stage_sized x y Beginning h = tt
  at_stage_sized x y Locking h = tt
  at_stage_sized x y (Gating got ks tries) h = tt
  at_stage_sized x y (Ready ks) h = tt
  at_stage_sized x y (Storing ks) h = tt
  at_stage_sized x y (Homing ks) h = tt
  at_stage_sized x y Releasing h = tt
  at_stage_sized x y Closing h = tt
  at_stage_sized x y (Returning ks) h = tt
  at_stage_sized x y Cancelling h = tt
  at_stage_sized x y Leaving h = tt

  takes_sized : (x : Seat V) (got ks : List ℕ) (y : Actor) → Sized P x (takes_gates {V = V} got ks) y
  takes_sized x got [] y = tt
  takes_sized x got (k ∷ ks) y = tt

  has_locked_sized : (u : World V) (x : Seat V) (n : told.Notice) → u.seats a ≡ x → x.stage ≡ Locking → SizedIn (has_locked u a x n)
  has_locked_sized u x (told.LockedAt wv) seat st =
      let at = record x { stage = takes_gates [] (written_homes u a); wv = wv } in
      sits u at (takes_sized at [] (written_homes u a) (actor_of u a))
  has_locked_sized u x (told.Busy l found) seat st = cancels_sized u (because x (refusal.Busy l found))
  has_locked_sized u x (told.Invalid l found) seat st = cancels_sized u (because x (refusal.Invalid l found))
  has_locked_sized u x n seat st = stays u x Locking seat st tt

  goes_home_sized : (u : World V) (x : Seat V) (ks : List ℕ) → SizedIn (goes_home u a x ks)
  goes_home_sized u x [] = sits (acted u (asks a word.AskRelease ∷ [])) (at_stage x Releasing) tt
  goes_home_sized u x (k ∷ ks) = sits u (at_stage x (Homing (k ∷ ks))) tt

  has_stored_sized : (u : World V) (x : Seat V) (ks : List ℕ) (n : told.Notice) → SizedIn (has_stored u a x ks n)
  has_stored_sized u x ks told.Stored = goes_home_sized u x ks
  has_stored_sized u x ks n = sits u (at_stage x (Storing ks)) tt

  has_released_sized : (u : World V) (x : Seat V) (n : told.Notice) → u.seats a ≡ x → x.stage ≡ Releasing
      → SizedIn (has_released u a x n)
  has_released_sized u x told.Released seat st = sits u no_one tt
  has_released_sized u x n seat st = stays u x Releasing seat st tt

  has_cancelled_sized : (u : World V) (x : Seat V) (n : told.Notice) → u.seats a ≡ x → x.stage ≡ Cancelling
      → SizedIn (has_cancelled u a x n)
  has_cancelled_sized u x told.Cancelled seat st = sits (acted u (asks a word.AskAbort ∷ [])) (at_stage x Leaving) tt
  has_cancelled_sized u x n seat st = stays u x Cancelling seat st tt

  pub step_sized : (w : World V) (x : Seat V) (st : Stage V) → w.seats a ≡ x → x.stage ≡ st → Sized P x st (actor_of w a)
      → StageOk w.words w.blocks x (actor_of w a) (w.boosted.shadows a) st (actor_of w a).place → SizedIn (step_at w a x st)
  step_sized w x st seat at h ok = by st at h ok
    where
      y : Actor
      y = actor_of w a

      u : World V
      u = acted w (moves a ∷ [])

      moved : actor_of u a ≡ learns w.boosted.words y (plan y y.place)
      moved = moved_is w.boosted a y y.place refl

      by : (st : Stage V) → x.stage ≡ st → Sized P x st y → StageOk w.words w.blocks x y (w.boosted.shadows a) st y.place
          → SizedIn (step_at w a x st)
      by Idle at h ok = stays w x Idle seat at tt
      by Open at h ok = stays w x Open seat at h
      by Beginning at h ok =
          let s = w.boosted.words in
          let clock = s.clock in
          subst (λ (n : told.Notice). SizedIn (has_begun u a x n)) (sym (ap (λ (p : Place). told.notice s y p) ok))
          (begun_sized u x y clock (nat_lt clock machine.clock_limit) seat at (moved ∙ ap (λ (p : Place). learns s y (plan y p)) ok))
      by (Reading l) at h ok =
          has_read_sized u x y (learns w.boosted.words y (plan y y.place)) l (word_notice w a) moved seat at h
          (read_after w.boosted.words y l y.place ok.0)
      by (Trying asked tries) at h ok =
          let t = acted w (TakeGate a asked.collection ∷ []) in
          let same = take_words (content w.words w.blocks) w.boosted a asked.collection in
          let few : IsFew (weights x.calls) (actor_of t a) = subst (λ (s : Words). IsFew (weights x.calls) (s.actors a)) (sym same) h.0 in
          tried_sized t x _ asked.collection [] (λ n. Trying asked n) (Copying asked) tries (few, h.1, h.2) (λ m. (few, h.1, h.2))
          (at_stage_sized x (actor_of t a))
      by (Copying asked) at h ok =
          let which = covers_at w.words w.blocks asked in
          let t = acted w (PutGate a asked.collection which ∷ []) in
          let same = put_words (content w.words w.blocks) w.boosted a asked.collection which in
          let c = content {V = V} w.words w.blocks in
          let z = t.boosted.shadows a in
          answers_sized t x (with_piece x asked.collection (piece_at w.blocks asked)) (sized_by t a asked (outcome_at t a asked))
          (changes c z.outcomes z.parts) asked t.boosted.editions
          (subst (λ (s : Words). IsFew (weights x.calls) (s.actors a)) (sym same) h.0) refl h.1
      by (Loading o []) at h ok = absurd ok
      by (Loading o (d ∷ es)) at h ok =
          has_loaded_sized u x y (learns w.boosted.words y (plan y y.place)) o d es (word_notice w a) moved seat at h
          (read_after w.boosted.words y d.0 y.place ok.0)
      by Locking at h ok = has_locked_sized u x (word_notice w a) seat at
      by (Gating got [] tries) at h ok = stays w x (Gating got [] tries) seat at tt
      by (Gating got (i ∷ ks) tries) at h ok =
          let t = acted w (TakeGate a i ∷ []) in
          tried_sized t x _ i got (λ n. Gating got (i ∷ ks) n) (takes_gates (got ++ i ∷ []) ks) tries
          (takes_sized x (got ++ i ∷ []) ks (actor_of t a)) (λ m. tt) (at_stage_sized x (actor_of t a))
      by (Ready ks) at h ok =
          let ready = acted w (asks a word.AskStore ∷ []) in
          has_stored_sized (recorded (acted ready (moves a ∷ [])) a x true x.wv) x ks (word_notice ready a)
      by (Storing ks) at h ok = has_stored_sized u x ks (word_notice w a)
      by (Homing []) at h ok = stays w x (Homing []) seat at tt
      by (Homing (i ∷ ks)) at h ok = goes_home_sized (acted w (GoHome a i ∷ [])) x ks
      by Releasing at h ok = has_released_sized u x (word_notice w a) seat at
      by Closing at h ok = sits (recorded u a x false x.rv) no_one tt
      by (Returning []) at h ok = stays w x (Returning []) seat at tt
      by (Returning (i ∷ ks)) at h ok = gives_up_sized (acted w (PutGate a i (λ l. false) ∷ [])) x ks
      by Cancelling at h ok = has_cancelled_sized u x (word_notice w a) seat at
      by Leaving at h ok =
          sits (record u { aborted = w.aborted ++ record { actor = a; rv = x.rv; calls = x.calls; cause = x.cause } ∷ [] }) no_one tt

  -- ---- events
  own_sized : (w : World V) (e : Event V) → ((n : ℕ) → P n) → IsPlain a e → Linked w → SizedAt w → SizedIn (happens w e)
  own_sized w (Ask b request.Begin) any m k h =
      subst (λ i. SizedIn (happens w (Ask i request.Begin))) (sym m) (begin_sized w (w.seats a) (w.seats a).stage h)
  own_sized w (Ask b (request.Call call)) any m k h =
      subst (λ i. SizedIn (happens w (Ask i (request.Call call)))) (sym m.0)
      (call_sized w (w.seats a) (w.seats a).stage call (λ _. (m.1, any (weights (w.seats a).calls + weight call.op))) h h)
  own_sized w (Ask b request.Commit) any m k h =
      subst (λ i. SizedIn (happens w (Ask i request.Commit))) (sym m) (commit_sized w (w.seats a) (w.seats a).stage h)
  own_sized w (Step b) any m k h =
      subst (λ i. SizedIn (happens w (Step i))) (sym m)
      (step_sized w (w.seats a) (w.seats a).stage refl refl h (k.seats a).stage)
  own_sized w e any m k h = absurd m

  pub run_sized : (es : List (Event V)) (w : World V) → ((n : ℕ) → P n) → ArePlain a es → Linked w → SizedAt w → SizedAt (run w es)
  run_sized [] w any m k h = h
  run_sized (e ∷ es) w any m k h = run_sized es (happens w e).0 any m.1 (happens_linked w e k) (own_sized w e any m.0 k h)

  -- ---- room for a call
  -- a small call after these has room in the sets
  pub has_room_for : (u : World V) (n : ℕ) (v : ℕ → Shown V) (asked : CollectionCall V) → IsFew n (actor_of u a) → IsSmall asked.op
      → n + weight asked.op ≤ 4096
      → let c = content u.words u.blocks in
      has_room (actor_of u a) (c.reads (c.outcome v asked)) (c.writes (c.outcome v asked)) ≡ true
  has_room_for u n v asked h small few =
      let c = content u.words u.blocks in
      let y = actor_of u a in
      let o = few_of u.words u.blocks v asked small in
      let rs = o.0 in
      let ws = o.1 in
      let reads = h.reads in
      let writes = h.writes in
      room y (c.reads (c.outcome v asked)) (c.writes (c.outcome v asked)) (omega (arith, rs, reads, few)) (omega (arith, ws, writes, few))

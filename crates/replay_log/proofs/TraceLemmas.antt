-- What a world shows is the state whose words and parts it has. A collection taken apart into the parts of its block and put together
-- again is itself, whatever its kind: a base is the whole of its parts, and the view of a collection is that of no other. Block after
-- block, so is the list of all. Then, one lemma for each function of the definitions, which events add to the records and to the aborted
-- transactions: each function leaves both, but for the steps that commit and the one that ends an aborted transaction.
use Rattle.std.proofs.Common.{◌≡◌, ℕ, zero, suc, ◌+◌, ◌<◌, ◌≤◌, ltb, Bool, true, false, cond, List, [], ◌∷◌, ◌++◌, length, Option, Some}
use Rattle.std.proofs.Common.{None, refl, sym, ap, ◌∙◌, arith, lt-ltb, le-ltb}
use Rattle.std.specs.Prelude.{not, ◌||◌, ◌&&◌, ◌==◌, nat_lt, map, get_or}
use Rattle.std.proofs.lemmas.List.{append-nil, ext_get_or}
use Rattle.std.proofs.lemmas.List.FromFn.{get_or-map-range_with_len, length-map-range_with_len}
use Rattle.tx_sets.specs.Entries.{Entries, lookup}
use Rattle.tx_machine.specs.Requests as word
use Rattle.tx_machine.specs.Notices as told
use Rattle.seq_model.specs.declared.call.Op.{Op}
use Rattle.seq_model.specs.declared.call.Op.TheVariants.{Read, Write}
use Rattle.seq_model.specs.declared.held.Held.{Held}
use Rattle.seq_model.specs.declared.held.Held.TheVariants.{Map, Bag, Pq, Queue}
use Rattle.seq_model.specs.declared.record.Record.{Record}
use Rattle.seq_model.specs.declared.refusal.Refusal.TheVariants as refusal
use Rattle.seq_model.specs.declared.event.Event.TheVariants.{Ask, Step, Starve}
use Rattle.seq_model.specs.declared.event.Request.{Request}
use Rattle.seq_model.specs.declared.event.Request.TheVariants as request
use Rattle.seq_model.specs.declared.event.Notice.TheVariants.{Refused}
use Rattle.seq_model.specs.declared.limits.TheConstants.{CALL_LIMIT}
use Rattle.seq_model.specs.Contents.{Contents}
use Rattle.conflict.specs.Footprints.{all_below}
use Rattle.base_queue.specs.Conflicts.{queue_view}
use Rattle.base_queue.specs.FrameLemmas as queue_laws
use Rattle.tx_machine.specs.Boosted.{TakeGate, PutGate, GoHome, is_none}
use Rattle.replay_log.specs.Base.{Shown, held_of}
use Rattle.replay_log.specs.Parts.{part, whole}
use Rattle.replay_log.specs.Contents.{Block, CollectionCall, CallWithOutcome, block_of, size, end_of, is_plain, HaveStripes, seen, content}
use Rattle.replay_log.specs.Collections.{viewed, Suit, shown_from}
use Rattle.replay_log.specs.Pieces.{piece_at, covers_at}
use Rattle.replay_log.specs.Seats.{World, Seat, Ended, After, Stage, Idle, Open, Beginning, Reading, Trying, Copying, Loading, Locking}
use Rattle.replay_log.specs.Seats.{Gating, Ready, Storing}
use Rattle.replay_log.specs.Seats.{Homing, Releasing, Closing, Returning, Cancelling, Leaving, because, acted, asks, moves, actor_of}
use Rattle.replay_log.specs.Seats.{word_notice}
use Rattle.replay_log.specs.WorldEnds.{gives_up, has_tried, has_cancelled}
use Rattle.replay_log.specs.WorldCalls.{is_fresh, loads, judges, answers, calls_on, if_allowed, reads, ask_op, has_room, fits}
use Rattle.replay_log.specs.WorldCalls.{with_editions, outcome_at, sized_by}
use Rattle.replay_log.specs.WorldCalls.{is_known, may_ask, with_piece, has_read, has_loaded}
use Rattle.replay_log.specs.WorldCommits.{commits, recorded, takes_gates, has_locked, goes_home, has_stored, has_released}
use Rattle.replay_log.specs.Worlds.{ask_idle, ask_open, ask_at, has_begun, step_at, starve_at, happens}
use Rattle.replay_log.specs.WorldTraces.{held_from, state, committed_by, with_record, ended_by}
use Rattle.replay_log.specs.WorldSerial.{Holds}
use Rattle.replay_log.proofs.PartLemmas.{is_whole, whole_local}
use Rattle.replay_log.proofs.ContentLemmas.{end_above}
use Rattle.replay_log.proofs.CollectionLemmas.{here, beyond, behind, kind_viewed}

words_are : (count : ℕ) (values : ℕ → ℕ) (ws : List ℕ) → length ws ≡ count → ((l : ℕ) → l < count → values l ≡ get_or ws l 0)
    → map values (all_below count) ≡ ws
words_are count values ws e same =
    let long = length-map-range_with_len values 0 count in
    ext_get_or 0 (map values (all_below count)) ws (long ∙ sym e)
    (λ i lt. (let below : i < count = omega (arith, lt, long) in
    get_or-map-range_with_len values 0 count i i 0 below (omega arith) ∙ same i below))

in_blocks : (w : ℕ) (bs : List Block) (l : ℕ) → w ≤ l → l < end_of w bs → is_plain w bs l ≡ false
in_blocks w bs l ge lt = ap (λ b. b || not (ltb l (end_of w bs))) (le-ltb l w ge) ∙ ap not (lt-ltb l (end_of w bs) lt)

module _ {V : Type 0} where
  -- the view of a collection is of no other one
  held_viewed : (h : Held V) → held_of (viewed h) ≡ h
  held_viewed (Map m) = refl
  held_viewed (Bag m) = refl
  held_viewed (Pq m) = refl
  held_viewed (Queue head items) = queue_laws.laws.views_decide (Queue head items) (queue_view head items) refl

  -- the first collection is the one whose parts stand in its block
  first_is : (f : ℕ) (b : Block) (bs : List Block) (h : Held V) (hs : List (Held V)) (v : ℕ → Shown V) → 0 < b.stripes
      → Suit (b ∷ bs) (h ∷ hs)
      → ((l : ℕ) → f ≤ l → l < end_of f (b ∷ bs) → v l ≡ shown_from f (b ∷ bs) (h ∷ hs) l) → held_of (seen b f v) ≡ h
  first_is f b bs h hs v pos suit same =
      let above = end_above (f + size b) bs in
      ap held_of
      (whole_local b.stripes b.kind (λ i. v (f + i)) (λ i. part b.stripes i (viewed h)) pos
      (λ i lt. same (f + i) (omega arith) (omega (arith, lt, above)) ∙ here f b b bs h hs i refl lt)
      ∙ ap (λ k. whole b.stripes k (λ i. part b.stripes i (viewed h))) (sym (kind_viewed h b.kind suit.0))
      ∙ is_whole b.stripes (viewed h) pos)
      ∙ held_viewed h

  held_is : (f : ℕ) (bs : List Block) (hs : List (Held V)) (v : ℕ → Shown V) → HaveStripes bs → Suit bs hs
      → ((l : ℕ) → f ≤ l → l < end_of f bs → v l ≡ shown_from f bs hs l) → held_from f bs v ≡ hs
  held_is f [] [] v pos suit same = refl
  held_is f [] (h ∷ hs) v pos suit same = absurd suit
  held_is f (b ∷ bs) [] v pos suit same = absurd suit
  held_is f (b ∷ bs) (h ∷ hs) v pos suit same =
      ap (λ (g : Held V). g ∷ held_from (f + size b) bs v) (first_is f b bs h hs v pos.0 suit same)
      ∙ ap (λ (gs : List (Held V)). h ∷ gs)
      (held_is (f + size b) bs hs v pos.1 suit.2 (λ l ge lt. same l (omega (arith, ge)) lt ∙ beyond f b bs h hs l ge))

  pub shows_state : (w : World V) (s : Contents V) → HaveStripes w.blocks → Holds w s → state w ≡ s
  shows_state w s pos h =
      ap (λ (ws : List ℕ). record { words = ws; held = held_from w.words w.blocks w.boosted.parts })
      (words_are w.words w.boosted.words.values s.words h.count h.words)
      ∙ ap (λ (hs : List (Held V)). record { words = s.words; held = hs })
      (held_is w.words w.blocks s.held w.boosted.parts pos h.suit
      (λ l ge lt. h.held l (in_blocks w.words w.blocks l ge lt) ∙ behind w.words w.blocks s.held l ge))

  -- ---- what an event adds to the records and to the aborted transactions
  -- the records and the aborted transactions of u are those of w
  abbrev pub Adds : World V → World V → Type 0
  Adds w u = (u.records ≡ w.records) × (u.aborted ≡ w.aborted)

  choose_adds : (w : World V) (b : Bool) (p q : After V) → Adds w p.0 → Adds w q.0 → Adds w (cond b p q).0
  choose_adds w true p q g h = g
  choose_adds w false p q g h = h

  gives_up_adds : (w : World V) (a : ℕ) (x : Seat V) (ks : List ℕ) → Adds w (gives_up w a x ks).0
  gives_up_adds w a x [] = (refl, refl)
  gives_up_adds w a x (k ∷ ks) = (refl, refl)

  fresh_adds : (w : World V) (a : ℕ) (x : Seat V) (d : ℕ × ℕ) (v : ℕ) (next : After V) → Adds w next.0 → Adds w (is_fresh w a x d v next).0
  fresh_adds w a x d v next g = choose_adds w (d.1 == v) next _ g (gives_up_adds w a (because x (refusal.Stale d.0 d.1 v)) [])

  judges_adds : (w : World V) (a : ℕ) (x : Seat V) (o : CallWithOutcome V) (d : ℕ × ℕ) (es : Entries) (next : After V) (v : Option ℕ)
      → Adds w next.0 → Adds w (judges w a x o d es next v).0
  judges_adds w a x o d es next None g = (refl, refl)
  judges_adds w a x o d es next (Some v) g = fresh_adds w a x d v next g

  loads_adds : (w : World V) (a : ℕ) (x : Seat V) (o : CallWithOutcome V) (es : Entries) → Adds w (loads w a x o es).0
  loads_adds w a x o [] = (refl, refl)
  loads_adds w a x o (d ∷ es) = judges_adds w a x o d es (loads w a x o es) (lookup (actor_of w a).reads d.0) (loads_adds w a x o es)

  answers_adds : (w : World V) (a : ℕ) (before x : Seat V) (sized o : CallWithOutcome V) (editions : ℕ → ℕ)
      → Adds w (answers w a before x sized o editions).0
  answers_adds w a before x sized o editions =
      let c = content {V = V} w.words w.blocks in
      choose_adds w (has_room (actor_of w a) (c.reads sized) (c.writes sized)) (loads w a x o (with_editions editions (c.reads o))) _
      (loads_adds w a x o (with_editions editions (c.reads o))) (refl, refl)

  calls_on_adds : (w : World V) (a : ℕ) (x : Seat V) (asked : CollectionCall V) → Adds w (calls_on w a x asked).0
  calls_on_adds w a x asked =
      choose_adds w (x.copied asked.collection (piece_at w.blocks asked))
      (answers w a x x (outcome_at w a asked) (outcome_at w a asked) (w.boosted.shadows a).editions) _
      (answers_adds w a x x (outcome_at w a asked) (outcome_at w a asked) (w.boosted.shadows a).editions) (refl, refl)

  allowed_adds : (w : World V) (a : ℕ) (x : Seat V) (known room : Bool) (next : After V) → Adds w next.0
      → Adds w (if_allowed w a x known room next).0
  allowed_adds w a x known room next g =
      choose_adds w known (cond (nat_lt (length x.calls) CALL_LIMIT && room) next (w, Refused a refusal.TooLong))
      (w, Refused a refusal.NoSuch)
      (choose_adds w (nat_lt (length x.calls) CALL_LIMIT && room) next (w, Refused a refusal.TooLong) g (refl, refl)) (refl, refl)

  reads_adds : (w : World V) (a : ℕ) (x : Seat V) (l : ℕ) (n : told.Notice) → Adds w (reads w a x l n).0
  reads_adds w a x l (told.Number v) = (refl, refl)
  reads_adds w a x l n = (refl, refl)

  collection_adds : (w : World V) (a : ℕ) (x : Seat V) (t : ℕ) (op : Op V) → Adds w (if_allowed w a x (is_known (block_of w.blocks t) op
      && may_ask (actor_of w a) op) true (calls_on w a x (record { collection = t; op = op }))).0
  collection_adds w a x t op =
      allowed_adds w a x (is_known (block_of w.blocks t) op && may_ask (actor_of w a) op) true
      (calls_on w a x (record { collection = t; op = op })) (calls_on_adds w a x (record { collection = t; op = op }))

  op_adds : (w : World V) (a : ℕ) (x : Seat V) (t : ℕ) (op : Op V) → Adds w (ask_op w a x t op).0
  op_adds w a x t Read =
      let y = actor_of w a in
      allowed_adds w a x (nat_lt t w.words) (y.declared || (not (is_none (lookup y.writes t)) || fits y.reads (t ∷ []))) _
      (reads_adds w a x t (told.reply y y.place (word.AskRead t)))
  op_adds w a x t (Write v) =
      allowed_adds w a x (nat_lt t w.words && not (actor_of w a).declared) (fits (actor_of w a).writes (t ∷ [])) _ (refl, refl)
  op_adds w a x t op = collection_adds w a x t op

  commits_adds : (w : World V) (a : ℕ) (x : Seat V) (es : Entries) → Adds w (commits w a x es).0
  commits_adds w a x [] = (refl, refl)
  commits_adds w a x (e ∷ es) = (refl, refl)

  open_adds : (w : World V) (a : ℕ) (x : Seat V) (q : Request V) → Adds w (ask_open w a x q).0
  open_adds w a x request.Begin = (refl, refl)
  open_adds w a x request.BeginRead = (refl, refl)
  open_adds w a x (request.Call call) = op_adds w a x call.target call.op
  open_adds w a x request.Commit = commits_adds w a x (actor_of w a).writes
  open_adds w a x request.Abort = (refl, refl)

  idle_adds : (w : World V) (a : ℕ) (x : Seat V) (q : Request V) → Adds w (ask_idle w a x q).0
  idle_adds w a x request.Begin = (refl, refl)
  idle_adds w a x request.BeginRead = (refl, refl)
  idle_adds w a x q = (refl, refl)

  ask_adds : (w : World V) (a : ℕ) (x : Seat V) (stage : Stage V) (q : Request V) → Adds w (ask_at w a x stage q).0
  ask_adds w a x Idle q = idle_adds w a x q
  ask_adds w a x Open q = open_adds w a x q
  ask_adds w a x stage q = (refl, refl)

  pub asked_adds : (w : World V) (a : ℕ) (q : Request V) → Adds w (happens w (Ask a q)).0
  asked_adds w a q = ask_adds w a (w.seats a) (w.seats a).stage q

  starve_adds : (w : World V) (a : ℕ) (x : Seat V) (stage : Stage V) → Adds w (starve_at w a x stage).0
  starve_adds w a x (Copying asked) = (refl, refl)
  starve_adds w a x (Gating got ks tries) = gives_up_adds w a (because x refusal.Memory) got
  starve_adds w a x (Ready ks) = gives_up_adds w a (because x refusal.Memory) ks
  starve_adds w a x stage = (refl, refl)

  pub starved_adds : (w : World V) (a : ℕ) → Adds w (happens w (Starve a)).0
  starved_adds w a = starve_adds w a (w.seats a) (w.seats a).stage

  begun_adds : (w : World V) (a : ℕ) (x : Seat V) (n : told.Notice) → Adds w (has_begun w a x n).0
  begun_adds w a x (told.Begun rv) = (refl, refl)
  begun_adds w a x (told.Exhausted clock) = (refl, refl)
  begun_adds w a x n = (refl, refl)

  read_adds : (w : World V) (a : ℕ) (x : Seat V) (l : ℕ) (n : told.Notice) → Adds w (has_read w a x l n).0
  read_adds w a x l (told.Number v) = (refl, refl)
  read_adds w a x l (told.Moved i word) = (refl, refl)
  read_adds w a x l n = (refl, refl)

  tried_adds : (w : World V) (a : ℕ) (x : Seat V) (free : Bool) (k : ℕ) (got : List ℕ) (again : ℕ → Stage V) (next : Stage V) (tries : ℕ)
      → Adds w (has_tried w a x free k got again next tries).0
  tried_adds w a x true k got again next tries = (refl, refl)
  tried_adds w a x false k got again next zero = gives_up_adds w a (because x (refusal.GateBusy k)) got
  tried_adds w a x false k got again next (suc n) = (refl, refl)

  loaded_adds : (w : World V) (a : ℕ) (x : Seat V) (o : CallWithOutcome V) (d : ℕ × ℕ) (es : Entries) (n : told.Notice)
      → Adds w (has_loaded w a x o d es n).0
  loaded_adds w a x o d es (told.Number v) = fresh_adds w a x d v (loads w a x o es) (loads_adds w a x o es)
  loaded_adds w a x o d es (told.Moved i word) = (refl, refl)
  loaded_adds w a x o d es n = (refl, refl)

  locked_adds : (w : World V) (a : ℕ) (x : Seat V) (n : told.Notice) → Adds w (has_locked w a x n).0
  locked_adds w a x (told.LockedAt wv) = (refl, refl)
  locked_adds w a x (told.Busy l word) = (refl, refl)
  locked_adds w a x (told.Invalid l word) = (refl, refl)
  locked_adds w a x n = (refl, refl)

  home_adds : (w : World V) (a : ℕ) (x : Seat V) (ks : List ℕ) → Adds w (goes_home w a x ks).0
  home_adds w a x [] = (refl, refl)
  home_adds w a x (k ∷ ks) = (refl, refl)

  stored_adds : (w : World V) (a : ℕ) (x : Seat V) (ks : List ℕ) (n : told.Notice) → Adds w (has_stored w a x ks n).0
  stored_adds w a x ks told.Stored = home_adds w a x ks
  stored_adds w a x ks n = (refl, refl)

  released_adds : (w : World V) (a : ℕ) (x : Seat V) (n : told.Notice) → Adds w (has_released w a x n).0
  released_adds w a x told.Released = (refl, refl)
  released_adds w a x n = (refl, refl)

  cancelled_adds : (w : World V) (a : ℕ) (x : Seat V) (n : told.Notice) → Adds w (has_cancelled w a x n).0
  cancelled_adds w a x told.Cancelled = (refl, refl)
  cancelled_adds w a x n = (refl, refl)

  -- what a step of a commits and ends
  abbrev pub Ends : World V → ℕ → Seat V → Stage V → World V → Type 0
  Ends w a x stage u = (u.records ≡ with_record a (committed_by x stage) w.records) × (u.aborted ≡ w.aborted ++ ended_by a x stage)

  none_ends : {rs qs : List (ℕ × Record V)} {es fs : List (Ended V)} → (rs ≡ qs) × (es ≡ fs) → (rs ≡ qs) × (es ≡ fs ++ [])
  none_ends {fs = fs} g = (g.0, g.1 ∙ sym (append-nil fs))

  step_ends : (w : World V) (a : ℕ) (x : Seat V) (stage : Stage V) → Ends w a x stage (step_at w a x stage).0
  step_ends w a x Idle = none_ends (refl, refl)
  step_ends w a x Open = none_ends (refl, refl)
  step_ends w a x Beginning = none_ends (begun_adds (acted w (moves a ∷ [])) a x (word_notice w a))
  step_ends w a x (Reading l) = none_ends (read_adds (acted w (moves a ∷ [])) a x l (word_notice w a))
  step_ends w a x (Trying asked tries) =
      none_ends (tried_adds (acted w (TakeGate a asked.collection ∷ [])) a x (is_none (w.boosted.gates asked.collection)) asked.collection
      [] (λ n. Trying asked n) (Copying asked) tries)
  step_ends w a x (Copying asked) =
      let u = acted w (PutGate a asked.collection (covers_at w.words w.blocks asked) ∷ []) in
      let o = outcome_at u a asked in
      none_ends (answers_adds u a x (with_piece x asked.collection (piece_at u.blocks asked)) (sized_by u a asked o) o u.boosted.editions)
  step_ends w a x (Loading o []) = none_ends (refl, refl)
  step_ends w a x (Loading o (d ∷ es)) = none_ends (loaded_adds (acted w (moves a ∷ [])) a x o d es (word_notice w a))
  step_ends w a x Locking = none_ends (locked_adds (acted w (moves a ∷ [])) a x (word_notice w a))
  step_ends w a x (Gating got [] tries) = none_ends (refl, refl)
  step_ends w a x (Gating got (k ∷ ks) tries) =
      none_ends (tried_adds (acted w (TakeGate a k ∷ [])) a x (is_none (w.boosted.gates k)) k got (λ n. Gating got (k ∷ ks) n)
      (takes_gates (got ++ k ∷ []) ks) tries)
  step_ends w a x (Ready ks) =
      let ready = acted w (asks a word.AskStore ∷ []) in
      none_ends (stored_adds (recorded (acted ready (moves a ∷ [])) a x true x.wv) a x ks (word_notice ready a))
  step_ends w a x (Storing ks) = none_ends (stored_adds (acted w (moves a ∷ [])) a x ks (word_notice w a))
  step_ends w a x (Homing []) = none_ends (refl, refl)
  step_ends w a x (Homing (k ∷ ks)) = none_ends (home_adds (acted w (GoHome a k ∷ [])) a x ks)
  step_ends w a x Releasing = none_ends (released_adds (acted w (moves a ∷ [])) a x (word_notice w a))
  step_ends w a x Closing = (refl, sym (append-nil w.aborted))
  step_ends w a x (Returning []) = none_ends (refl, refl)
  step_ends w a x (Returning (k ∷ ks)) = none_ends (gives_up_adds (acted w (PutGate a k (λ l. false) ∷ [])) a x ks)
  step_ends w a x Cancelling = none_ends (cancelled_adds (acted w (moves a ∷ [])) a x (word_notice w a))
  step_ends w a x Leaving = (refl, refl)

  pub steps_end : (w : World V) (a : ℕ) → Ends w a (w.seats a) (w.seats a).stage (happens w (Step a)).0
  steps_end w a = step_ends w a (w.seats a) (w.seats a).stage

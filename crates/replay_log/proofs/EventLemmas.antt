-- Every event keeps what a world of words and collections has of its machine: by the stage of its actor the lemma of the function that is
-- next serves, a list of events is an induction, and the opening has it, as nobody holds or has read anything.
use Rattle.std.proofs.Common.{◌≡◌, ℕ, ◌<◌, Bool, true, false, not, ◌&&◌, List, [], ◌∷◌, ◌++◌, length, Option, Some, None, refl, sym, ◌∙◌}
use Rattle.std.proofs.Common.{ap, subst, true≢false}
use Rattle.std.specs.Prelude.{nat_lt, get_or}
use Rattle.std.proofs.lemmas.Bool.{and_parts, not-true}
use Rattle.tx_sets.specs.Entries.{Entries, lookup, locations}
use Rattle.tx_machine.specs.Actor as machine
use Rattle.tx_machine.specs.Actor.{Place, Actor, goes}
use Rattle.tx_machine.specs.Requests as word
use Rattle.tx_machine.specs.Requests.{ask}
use Rattle.tx_machine.specs.World.{plan}
use Rattle.tx_machine.specs.Notices as told
use Rattle.tx_machine.specs.Notices.{notice, read_reply}
use Rattle.tx_machine.proofs.Invariant.{PlaceOk}
use Rattle.seq_model.specs.declared.call.Op.{Op}
use Rattle.seq_model.specs.declared.call.Op.TheVariants.{Read, Write}
use Rattle.seq_model.specs.declared.call.Reply.TheVariants as reply
use Rattle.seq_model.specs.declared.held.Held.{Held}
use Rattle.seq_model.specs.declared.refusal.Refusal.TheVariants as refusal
use Rattle.seq_model.specs.declared.event.Event.{Event}
use Rattle.seq_model.specs.declared.event.Event.TheVariants.{Ask, Step, Starve}
use Rattle.seq_model.specs.declared.event.Request.{Request}
use Rattle.seq_model.specs.declared.event.Request.TheVariants as request
use Rattle.seq_model.specs.declared.limits.TheConstants.{CALL_LIMIT}
use Rattle.seq_model.proofs.LogicLemmas.{nat_lt-true, lt-nat_lt}
use Rattle.tx_machine.specs.Content.{has}
use Rattle.tx_machine.proofs.BoostedSchedules.{opens_ok}
use Rattle.tx_machine.proofs.Steady.{IsFreeAsk}
use Rattle.replay_log.specs.Contents.{Block, CallWithOutcome, block_of, HaveStripes, content}
use Rattle.replay_log.specs.Collections.{shown_at}
use Rattle.replay_log.specs.Worlds.{World, Seat, Stage, Idle, Beginning, Open, Locking, Releasing, Closing, Cancelling, Leaving, Reading}
use Rattle.replay_log.specs.Worlds.{Trying, Copying, Loading, Gating, Ready, Storing, Homing, Returning, After, at_stage, because, seated}
use Rattle.replay_log.specs.Worlds.{acted, asks, moves, actor_of, no_one, with_call, reads, is_known, may_ask, if_allowed, ask_op, calls_on}
use Rattle.replay_log.specs.Worlds.{commits, ask_idle, ask_open, ask_at, gives_up, has_read, has_loaded, has_locked, has_stored}
use Rattle.replay_log.specs.Worlds.{has_released, has_cancelled, step_at, starve_at, happens, run, opened}
use Rattle.replay_log.proofs.ReadLemmas.{in_set, first_read-write, first_read-other}
use Rattle.replay_log.proofs.ContentLemmas.{content_frame}
use Rattle.replay_log.proofs.ActionLemmas.{mine, learns, write_goes}
use Rattle.replay_log.proofs.MixedLemmas.{is_word_op}
use Rattle.replay_log.proofs.PlaceLemmas.{reading_quiet, locking_quiet, storing_quiet, read_after, lock_after, store_after, release_after}
use Rattle.replay_log.proofs.PlaceLemmas.{undo_after}
use Rattle.replay_log.proofs.SeatLemmas.{Copy, CanLeave, reading_leaves, locking_leaves, Differ, Differ-front, InTx, Live, gates_of}
use Rattle.replay_log.proofs.SeatLemmas.{StageOk, SeatOk, Linked, At, at_of, linked_seated, at_by, at_ask, cancels_linked, gives_up_linked}
use Rattle.replay_log.proofs.SeatLemmas.{word_joins}
use Rattle.replay_log.proofs.StageLemmas.{plain_word, no_word, choose, at_move, tells, begin_step, has_read_linked}
use Rattle.replay_log.proofs.StageLemmas.{has_locked_linked, trying_step, gating_step, returning_step, has_stored_linked, homing_step}
use Rattle.replay_log.proofs.StageLemmas.{has_released_linked, leaving_step, closing_step, first_step, has_cancelled_linked}
use Rattle.replay_log.proofs.CallLemmas.{reading_unwritten, reading_none, has_loaded_linked, calls_on_linked, copying_step}

module _ {V : Type 0} where
  -- what the machine's actor, its shadow and its gates are
  abbrev y_of : World V → ℕ → Actor
  y_of w a = w.boosted.words.actors a

  abbrev z_of : World V → ℕ → Copy V
  z_of w a = w.boosted.shadows a

  abbrev g_of : World V → ℕ → ℕ → Bool
  g_of w a = mine w.boosted a

  abbrev Held-by : World V → ℕ → List ℕ → Type 0
  Held-by w a ks = (k : ℕ) → g_of w a k ≡ has ks k

  abbrev StageIn : World V → ℕ → Seat V → Stage V → Type 0
  StageIn w a x st = StageOk w.words w.blocks x (y_of w a) (z_of w a) st (y_of w a).place

  placed : (w : World V) (a : ℕ) → Linked w → PlaceOk w.boosted.words (y_of w a) (y_of w a).place
  placed w a k = (k.base.inv.machine.actors a).place

  -- ---- steps
  reading_step : (w : World V) (a : ℕ) (x : Seat V) (l : ℕ) → Linked w → w.seats a ≡ x → x.stage ≡ Reading l → Held-by w a []
      → StageIn w a x (Reading l)
      → Linked (step_at w a x (Reading l)).0
  reading_step w a x l k seat st held h =
      let y = y_of w a in
      let s = w.boosted.words in
      let at = at_of w a k in
      subst (λ n. Linked (has_read (acted w (moves a ∷ [])) a x l n).0) (sym (tells w a y (z_of w a) (g_of w a) y.place at refl))
      (has_read_linked (acted w (moves a ∷ [])) a x y (learns s y (plan y y.place)) (z_of w a) (g_of w a) l (notice s y y.place)
      (at_move w a y (z_of w a) (g_of w a) y.place at refl (reading_quiet l y.place h.0)) held seat st h.1 h.2
      (read_after s y l y.place h.0))

  loading_step : (w : World V) (a : ℕ) (x : Seat V) (o : CallWithOutcome V) (d : ℕ × ℕ) (es : Entries) → Linked w → w.seats a ≡ x → x.stage
      ≡ Loading o (d ∷ es)
      → Held-by w a []
      → StageIn w a x (Loading o (d ∷ es)) → Linked (step_at w a x (Loading o (d ∷ es))).0
  loading_step w a x o d es k seat st held h =
      let y = y_of w a in
      let s = w.boosted.words in
      let at = at_of w a k in
      subst (λ n. Linked (has_loaded (acted w (moves a ∷ [])) a x o d es n).0) (sym (tells w a y (z_of w a) (g_of w a) y.place at refl))
      (has_loaded_linked (acted w (moves a ∷ [])) a x y (learns s y (plan y y.place)) (z_of w a) (g_of w a) o d es (notice s y y.place)
      (at_move w a y (z_of w a) (g_of w a) y.place at refl (reading_quiet d.0 y.place h.0)) held seat st h.1 h.2
      (reading_none s y d.0 y.place h.0 (placed w a k))
      ((k.base.inv.machine.actors a).sets.not_written d.0 (reading_unwritten s y d.0 y.place h.0 (placed w a k)))
      (read_after s y d.0 y.place h.0))

  locking_step : (w : World V) (a : ℕ) (x : Seat V) → Linked w → w.seats a ≡ x → x.stage ≡ Locking → Held-by w a [] → StageIn w a x Locking
      → Linked (step_at w a x Locking).0
  locking_step w a x k seat st held h =
      let y = y_of w a in
      let s = w.boosted.words in
      let at = at_of w a k in
      subst (λ n. Linked (has_locked (acted w (moves a ∷ [])) a x n).0) (sym (tells w a y (z_of w a) (g_of w a) y.place at refl))
      (has_locked_linked (acted w (moves a ∷ [])) a x y (learns s y (plan y y.place)) (z_of w a) (g_of w a) (notice s y y.place)
      (at_move w a y (z_of w a) (g_of w a) y.place at refl (locking_quiet y.place h.0)) held seat st h.1 (lock_after s y y.place h.0))

  storing_step : (w : World V) (a : ℕ) (x : Seat V) (ks : List ℕ) → Linked w → Held-by w a ks → StageIn w a x (Storing ks)
      → Linked (step_at w a x (Storing ks)).0
  storing_step w a x ks k held h =
      let y = y_of w a in
      let s = w.boosted.words in
      let at = at_of w a k in
      subst (λ n. Linked (has_stored (acted w (moves a ∷ [])) a x ks n).0) (sym (tells w a y (z_of w a) (g_of w a) y.place at refl))
      (has_stored_linked (acted w (moves a ∷ [])) a x y (learns s y (plan y y.place)) (z_of w a) (g_of w a) ks (notice s y y.place)
      (at_move w a y (z_of w a) (g_of w a) y.place at refl (storing_quiet y.place h.0)) held h.1 h.2 (store_after s y y.place h.0))

  releasing_step : (w : World V) (a : ℕ) (x : Seat V) → Linked w → w.seats a ≡ x → x.stage ≡ Releasing → Held-by w a []
      → StageIn w a x Releasing
      → Linked (step_at w a x Releasing).0
  releasing_step w a x k seat st held h =
      let y = y_of w a in
      let s = w.boosted.words in
      let at = at_of w a k in
      subst (λ n. Linked (has_released (acted w (moves a ∷ [])) a x n).0) (sym (tells w a y (z_of w a) (g_of w a) machine.Release at h.0))
      (has_released_linked (acted w (moves a ∷ [])) a x y (learns s y (plan y machine.Release)) (z_of w a) (g_of w a)
      (notice s y machine.Release)
      (at_move w a y (z_of w a) (g_of w a) machine.Release at h.0 tt) held seat st h.1
      (release_after s y y.held (subst (PlaceOk s y) h.0 (placed w a k)).some))

  cancelling_step : (w : World V) (a : ℕ) (x : Seat V) → Linked w → w.seats a ≡ x → x.stage ≡ Cancelling → Held-by w a []
      → StageIn w a x Cancelling
      → Linked (step_at w a x Cancelling).0
  cancelling_step w a x k seat st held h =
      let y = y_of w a in
      let s = w.boosted.words in
      let at = at_of w a k in
      subst (λ n. Linked (has_cancelled (acted w (moves a ∷ [])) a x n).0) (sym (tells w a y (z_of w a) (g_of w a) machine.Undo at h.0))
      (has_cancelled_linked (acted w (moves a ∷ [])) a x y (learns s y (plan y machine.Undo)) (z_of w a) (g_of w a)
      (notice s y machine.Undo)
      (at_move w a y (z_of w a) (g_of w a) machine.Undo at h.0 tt) held seat st h.2 (undo_after s y y.held h.1))

  step_linked : (w : World V) (a : ℕ) (x : Seat V) (st : Stage V) → Linked w → w.seats a ≡ x → x.stage ≡ st → Held-by w a (gates_of st)
      → StageIn w a x st
      → Linked (step_at w a x st).0
  step_linked w a x Idle k seat st held h = k
  step_linked w a x Open k seat st held h = k
  step_linked w a x Beginning k seat st held h = begin_step w a x k h held
  step_linked w a x (Reading l) k seat st held h = reading_step w a x l k seat st held h
  step_linked w a x (Trying asked tries) k seat st held h = trying_step w a x (y_of w a) (z_of w a) (g_of w a) asked tries
      (at_of w a k) held h.0 h.1 h.2
  step_linked w a x (Copying asked) k seat st held h = copying_step w a x (y_of w a) (z_of w a) (g_of w a) asked
      (at_of w a k) held h.0 h.1 h.2
  step_linked w a x (Loading o []) k seat st held h = absurd h
  step_linked w a x (Loading o (d ∷ es)) k seat st held h = loading_step w a x o d es k seat st held h
  step_linked w a x Locking k seat st held h = locking_step w a x k seat st held h
  step_linked w a x (Gating got [] tries) k seat st held h = absurd h
  step_linked w a x (Gating got (i ∷ ks) tries) k seat st held h = gating_step w a x (y_of w a) (z_of w a) (g_of w a) got i ks tries
      (at_of w a k) held h.0 h.1
  step_linked w a x (Ready ks) k seat st held h = first_step w a x (y_of w a) (z_of w a) (g_of w a) ks (at_of w a k) held h.0 h.1
  step_linked w a x (Storing ks) k seat st held h = storing_step w a x ks k held h
  step_linked w a x (Homing []) k seat st held h = absurd h
  step_linked w a x (Homing (i ∷ ks)) k seat st held h = homing_step w a x (y_of w a) (z_of w a) (g_of w a) i ks
      (at_of w a k) held h.0 h.1 h.2
  step_linked w a x Releasing k seat st held h = releasing_step w a x k seat st held h
  step_linked w a x Closing k seat st held h = closing_step w a x (y_of w a) (z_of w a) (g_of w a) (at_of w a k) held h.0 h.1
  step_linked w a x (Returning []) k seat st held h = absurd h
  step_linked w a x (Returning (i ∷ ks)) k seat st held h = returning_step w a x (y_of w a) (z_of w a) (g_of w a) i ks
      (at_of w a k) held h.0 h.1 h.2
  step_linked w a x Cancelling k seat st held h = cancelling_step w a x k seat st held h
  step_linked w a x Leaving k seat st held h = leaving_step w a x (y_of w a) (z_of w a) (g_of w a) (at_of w a k) held h.0 h.1

  -- ---- requests
  -- a request that takes a step, and one that is answered at once
  asked_linked : (w : World V) (a : ℕ) (x : Seat V) (p : Place) (q : word.Request) (y2 : Actor) → Linked w → (y_of w a).place ≡ p
      → IsFreeAsk q
      → ask (y_of w a) p q ≡ y2
      → SeatOk w.words w.blocks x y2 (z_of w a) (g_of w a) → Linked (seated (acted w (asks a q ∷ [])) a x)
  asked_linked w a x p q y2 k e f is h =
      linked_seated (acted w (asks a q ∷ [])) a x (ask (y_of w a) p q) (z_of w a) (g_of w a)
      (at_ask w a (y_of w a) (z_of w a) (g_of w a) p q (at_of w a k) e f)
      (subst (λ (u : Actor). SeatOk w.words w.blocks x u (z_of w a) (g_of w a)) (sym is) h)

  told_live : (n : ℕ) (bs : List Block) (x : Seat V) (y : Actor) (z : Copy V) (l v : ℕ) → l < n → Live n bs x y z
      → Live n bs (with_call x (record { target = l; op = Read }) (reply.Number v)) (word.replied y (machine.Read l v)) z
  told_live n bs x y z l v lt h = record {
    tx = (h.tx.0, word_joins n x.calls y.calls z.outcomes (machine.Read l v) (lt-nat_lt l n lt) h.tx.1);
    sound = λ i e pl m. h.sound i e pl (sym (first_read-other y.calls l v i (no_word n bs l i lt pl)) ∙ m);
    kept = λ i pl. h.kept i pl ∙ ap (in_set y.declared) (sym (first_read-other y.calls l v i (no_word n bs l i lt pl)));
    pieces = h.pieces;
  }

  reads_linked : (w : World V) (a : ℕ) (x : Seat V) (l : ℕ) (own seen : Option ℕ) → Linked w → Held-by w a [] → (y_of w a).place
      ≡ machine.Open
      → Live w.words w.blocks x (y_of w a) (z_of w a) → l < w.words
      → ask (y_of w a) machine.Open (word.AskRead l) ≡ word.read (y_of w a) l own seen → Linked (reads w a x l (read_reply own seen)).0
  reads_linked w a x l (Some v) seen k held e live lt is =
      asked_linked w a (with_call x (record { target = l; op = Read }) (reply.Number v)) machine.Open (word.AskRead l)
      (word.replied (y_of w a) (machine.Read l v)) k e tt is
      (record { gates = held; stage = (refl, told_live w.words w.blocks x (y_of w a) (z_of w a) l v lt live) })
  reads_linked w a x l None (Some v) k held e live lt is =
      asked_linked w a (with_call x (record { target = l; op = Read }) (reply.Number v)) machine.Open (word.AskRead l)
      (word.replied (y_of w a) (machine.Read l v)) k e tt is
      (record { gates = held; stage = (refl, told_live w.words w.blocks x (y_of w a) (z_of w a) l v lt live) })
  reads_linked w a x l None None k held e live lt is =
      asked_linked w a (at_stage x (Reading l)) machine.Open (word.AskRead l) (goes (y_of w a) (machine.Look l)) k e tt is
      (record { gates = held; stage = (refl, lt, record { tx = live.tx; sound = live.sound; kept = live.kept; pieces = live.pieces }) })

  write_linked : (w : World V) (a : ℕ) (x : Seat V) (l v : ℕ) → Linked w → Held-by w a [] → (y_of w a).place ≡ machine.Open
      → (y_of w a).declared ≡ false → Live w.words w.blocks x (y_of w a) (z_of w a) → l < w.words
      → Linked (seated (acted w (asks a (word.AskWrite l v) ∷ [])) a (with_call x (record { target = l; op = Write v }) reply.Done))
  write_linked w a x l v k held e writer live lt =
      let y = y_of w a in
      let y2 = word.wrote y l v in
      let at : At (acted w (asks a (word.AskWrite l v) ∷ [])) a y2 (z_of w a) (g_of w a) =
      at_by w a y y2 y2 (z_of w a) (z_of w a) (z_of w a) (g_of w a) (g_of w a) (g_of w a) (asks a (word.AskWrite l v)) (at_of w a k)
      (write_goes (content w.words w.blocks) w.boosted a l v e writer (plain_word w.words w.blocks l lt)) refl refl (λ i. refl) in
      linked_seated (acted w (asks a (word.AskWrite l v) ∷ [])) a (with_call x (record { target = l; op = Write v }) reply.Done) y2
      (z_of w a) (g_of w a) at (record {
        gates = held;
        stage = (
          refl,
          record {
            tx = (live.tx.0, word_joins w.words x.calls y.calls (z_of w a).outcomes (machine.Write l v) (lt-nat_lt l w.words lt) live.tx.1);
            sound = λ i u pl m. live.sound i u pl (sym (first_read-write y.calls l v i) ∙ m);
            kept = λ i pl. live.kept i pl ∙ ap (in_set y.declared) (sym (first_read-write y.calls l v i));
            pieces = live.pieces;
          },
        );
      })

  allowed_linked : (w : World V) (a : ℕ) (x : Seat V) (known room : Bool) (next : After V) → Linked w → (known ≡ true → Linked next.0)
      → Linked (if_allowed w a x known room next).0
  allowed_linked w a x known room next k h = choose known _ _
      (λ e. choose (nat_lt (length x.calls) CALL_LIMIT && room) _ _ (λ _. h e) (λ _. k)) (λ _. k)

  held_op_linked : (w : World V) (a : ℕ) (x : Seat V) (t : ℕ) (op : Op V) → Linked w → Held-by w a [] → (y_of w a).place ≡ machine.Open
      → Live w.words w.blocks x (y_of w a) (z_of w a) → is_word_op op ≡ false
      → Linked (if_allowed w a x (is_known (block_of w.blocks t) op && may_ask (y_of w a) op) true
      (calls_on w a x (record { collection = t; op = op }))).0
  held_op_linked w a x t op k held e live not_word =
      allowed_linked w a x (is_known (block_of w.blocks t) op && may_ask (y_of w a) op) true
      (calls_on w a x (record { collection = t; op = op })) k
      (λ both. (
      let b = and_parts (is_known (block_of w.blocks t) op) (may_ask (y_of w a) op) both in
      calls_on_linked w a x (y_of w a) (z_of w a) (g_of w a) (record { collection = t; op = op }) (at_of w a k) held e live
      (not_word, b.0, b.1)))

  op_linked : (w : World V) (a : ℕ) (x : Seat V) (t : ℕ) (op : Op V) → Linked w → Held-by w a [] → (y_of w a).place ≡ machine.Open
      → Live w.words w.blocks x (y_of w a) (z_of w a) → Linked (ask_op w a x t op).0
  op_linked w a x t Read k held e live =
      let y = y_of w a in
      allowed_linked w a x (nat_lt t w.words) _ (reads w a x t (told.reply y y.place (word.AskRead t))) k
      (λ lt. subst (λ n. Linked (reads w a x t n).0) (sym (ap (λ p. told.reply y p (word.AskRead t)) e))
      (reads_linked w a x t (lookup y.writes t) (lookup y.reads t) k held e live (nat_lt-true t w.words lt) refl))
  op_linked w a x t (Write v) k held e live =
      allowed_linked w a x (nat_lt t w.words && not (y_of w a).declared) _ _ k (λ both. (
      let b = and_parts (nat_lt t w.words) (not (y_of w a).declared) both in
      write_linked w a x t v k held e (not-true (y_of w a).declared b.1) live (nat_lt-true t w.words b.0)))
  op_linked w a x t op k held e live = held_op_linked w a x t op k held e live refl

  commits_linked : (w : World V) (a : ℕ) (x : Seat V) (es : Entries) → Linked w → Held-by w a [] → (y_of w a).place ≡ machine.Open
      → InTx w.words x (y_of w a) (z_of w a) → (y_of w a).writes ≡ es
      → Linked (commits w a x es).0
  commits_linked w a x [] k held e tx is =
      asked_linked w a (at_stage x Closing) machine.Open word.AskClose (goes (y_of w a) machine.Close) k e tt
      (ap (word.close (y_of w a)) is)
      (record { gates = held; stage = (refl, tx) })
  commits_linked w a x (d ∷ es) k held e tx is =
      asked_linked w a (at_stage x Locking) machine.Open word.AskLock (goes (y_of w a) (machine.Lock (locations (d ∷ es)))) k e tt
      (ap (word.lock (y_of w a)) is) (record { gates = held; stage = (tt, tx) })

  idle_linked : (w : World V) (a : ℕ) (x : Seat V) (q : Request V) → Linked w → Held-by w a [] → (y_of w a).place ≡ machine.Idle
      → Linked (ask_idle w a x q).0
  idle_linked w a x request.Begin k held e = asked_linked w a (at_stage x Beginning) machine.Idle word.AskBegin
      (word.begin (y_of w a) false) k e tt refl (record { gates = held; stage = refl })
  idle_linked w a x request.BeginRead k held e = asked_linked w a (at_stage x Beginning) machine.Idle word.AskBeginRead
      (word.begin (y_of w a) true) k e tt refl (record { gates = held; stage = refl })
  idle_linked w a x q k held e = k

  open_linked : (w : World V) (a : ℕ) (x : Seat V) (q : Request V) → Linked w → Held-by w a [] → (y_of w a).place ≡ machine.Open
      → Live w.words w.blocks x (y_of w a) (z_of w a) → Linked (ask_open w a x q).0
  open_linked w a x request.Begin k held e live = k
  open_linked w a x request.BeginRead k held e live = k
  open_linked w a x (request.Call call) k held e live = op_linked w a x call.target call.op k held e live
  open_linked w a x request.Commit k held e live = commits_linked w a x (actor_of w a).writes k held e live.tx refl
  open_linked w a x request.Abort k held e live = cancels_linked w a (record x { cause = None }) (y_of w a) (z_of w a) (g_of w a)
      (at_of w a k) held
      (subst CanLeave (sym e) tt) live.tx

  ask_linked : (w : World V) (a : ℕ) (x : Seat V) (st : Stage V) (q : Request V) → Linked w → Held-by w a (gates_of st) → StageIn w a x st
      → Linked (ask_at w a x st q).0
  ask_linked w a x Idle q k held h = idle_linked w a x q k held h
  ask_linked w a x Open q k held h = open_linked w a x q k held h.0 h.1
  ask_linked w a x st q k held h = k

  -- ---- failed allocations
  starved : (w : World V) (a : ℕ) (x : Seat V) (ks : List ℕ) → Linked w → Held-by w a ks → Differ ks → CanLeave (y_of w a).place
      → InTx w.words x (y_of w a) (z_of w a)
      → Linked (gives_up w a (because x refusal.Memory) ks).0
  starved w a x ks k held differ leave tx = gives_up_linked w a (because x refusal.Memory) (y_of w a) (z_of w a) (g_of w a) ks
      (at_of w a k) held differ leave tx

  starve_linked : (w : World V) (a : ℕ) (x : Seat V) (st : Stage V) → Linked w → Held-by w a (gates_of st) → StageIn w a x st
      → Linked (starve_at w a x st).0
  starve_linked w a x Beginning k held h = asked_linked w a no_one machine.Begin word.AskAbort (goes (y_of w a) machine.Idle) k h tt refl
      (record { gates = held; stage = refl })
  starve_linked w a x (Reading l) k held h = starved w a x [] k held tt (reading_leaves l (y_of w a).place h.0) h.2.tx
  starve_linked w a x (Trying asked tries) k held h = starved w a x [] k held tt (subst CanLeave (sym h.0) tt) h.1.tx
  starve_linked w a x (Copying asked) k held h = starved w a x (asked.collection ∷ []) k held (refl, tt)
      (subst CanLeave (sym h.0) tt) h.1.tx
  starve_linked w a x (Loading o []) k held h = absurd h
  starve_linked w a x (Loading o (d ∷ es)) k held h = starved w a x [] k held tt (reading_leaves d.0 (y_of w a).place h.0) h.1.tx
  starve_linked w a x Locking k held h = starved w a x [] k held tt (locking_leaves (y_of w a).place h.0) h.1
  starve_linked w a x (Gating got [] tries) k held h = absurd h
  starve_linked w a x (Gating got (i ∷ ks) tries) k held h = starved w a x got k held (Differ-front got (i ∷ ks) h.1.differ)
      (subst CanLeave (sym h.0) tt) h.1.tx
  starve_linked w a x (Ready ks) k held h = starved w a x ks k held h.1.differ (subst CanLeave (sym h.0) tt) h.1.tx
  starve_linked w a x Closing k held h = starved w a x [] k held tt (subst CanLeave (sym h.0) tt) h.1
  starve_linked w a x Idle k held h = k
  starve_linked w a x Open k held h = k
  starve_linked w a x (Storing ks) k held h = k
  starve_linked w a x (Homing ks) k held h = k
  starve_linked w a x Releasing k held h = k
  starve_linked w a x (Returning ks) k held h = k
  starve_linked w a x Cancelling k held h = k
  starve_linked w a x Leaving k held h = k

  -- ---- events
  pub happens_linked : (w : World V) (e : Event V) → Linked w → Linked (happens w e).0
  happens_linked w (Ask a q) k = ask_linked w a (w.seats a) (w.seats a).stage q k (k.seats a).gates (k.seats a).stage
  happens_linked w (Step a) k = step_linked w a (w.seats a) (w.seats a).stage k refl refl (k.seats a).gates (k.seats a).stage
  happens_linked w (Starve a) k = starve_linked w a (w.seats a) (w.seats a).stage k (k.seats a).gates (k.seats a).stage

  pub run-append : (es fs : List (Event V)) (w : World V) → run w (es ++ fs) ≡ run (run w es) fs
  run-append [] fs w = refl
  run-append (e ∷ es) fs w = run-append es fs (happens w e).0

  pub run_linked : (es : List (Event V)) (w : World V) → Linked w → Linked (run w es)
  run_linked [] w k = k
  run_linked (e ∷ es) w k = run_linked es (happens w e).0 (happens_linked w e k)

  pub opened_linked : (blocks : List Block) (clock : ℕ) (values : List ℕ) (held : List (Held V)) → HaveStripes blocks
      → Linked (opened blocks clock values held)
  opened_linked blocks clock values held stripes = record {
    base = record {
      stripes = stripes;
      inv = opens_ok (content (length values) blocks) (content_frame (length values) blocks stripes) clock (λ l. get_or values l 0)
          (shown_at (length values) blocks held);
      records = tt;
      aborted = tt;
    };
    seats = λ a. record { gates = λ k. refl; stage = refl };
  }

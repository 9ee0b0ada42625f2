-- What an event of an actor leaves of its shadow and of what it has read first: one lemma for each function of the definitions, in their
-- order. What a call results in (`comes_by`) is what the world after the event says, as events keep it: where all its locations are judged
-- it is accepted, and one that is read next is in no set, so its read is not answered at once.
use Rattle.std.proofs.Common.{◌≡◌, ◌⊎◌, ℕ, ◌+◌, ◌<◌, Bool, true, false, cond, ◌&&◌, not, List, [], ◌∷◌, length, Option, Some, None, inl}
use Rattle.std.proofs.Common.{inr, refl, sym, ap, subst, ◌∙◌}
use Rattle.std.specs.Prelude.{nat_lt}
use Rattle.std.proofs.lemmas.Bool.{and_parts}
use Rattle.tx_sets.specs.Entries.{Entries, lookup}
use Rattle.tx_machine.specs.Actor as machine
use Rattle.tx_machine.specs.Actor.{Actor}
use Rattle.tx_machine.specs.Notices as told
use Rattle.tx_machine.specs.Requests as word
use Rattle.tx_machine.specs.Requests.{ask}
use Rattle.seq_model.specs.declared.call.Op.{Op}
use Rattle.seq_model.specs.declared.call.Op.TheVariants as op
use Rattle.seq_model.specs.declared.event.Answer.TheVariants.{Replied}
use Rattle.seq_model.specs.declared.event.Notice.TheVariants as notice
use Rattle.seq_model.specs.declared.event.Request.{Request}
use Rattle.seq_model.specs.declared.event.Request.TheVariants as request
use Rattle.seq_model.specs.declared.limits.TheConstants.{CALL_LIMIT}
use Rattle.seq_model.specs.declared.refusal.Refusal.{Refusal}
use Rattle.seq_model.specs.declared.refusal.Refusal.TheVariants as refusal
use Rattle.seq_model.proofs.LogicLemmas.{nat_lt-true}
use Rattle.tx_machine.specs.Content.{has}
use Rattle.tx_machine.specs.Boosted.{longer}
use Rattle.replay_log.specs.Contents.{CallWithOutcome, CollectionCall, block_of, content}
use Rattle.replay_log.specs.Pieces.{piece_at}
use Rattle.replay_log.specs.Worlds.{World, Seat, Stage, Idle, Beginning, Open, Locking, Closing, Reading, Trying, Copying, Loading, Gating}
use Rattle.replay_log.specs.Worlds.{Ready, After, acted, actor_of, answers, ask_at, ask_idle, ask_op, ask_open, asks, at_stage, because}
use Rattle.replay_log.specs.Worlds.{calls_on, cancels, commits, gives_up, has_room, if_allowed, is_known, loads, may_ask, more_tries}
use Rattle.replay_log.specs.Worlds.{outcome_at, reads, reply_of, seated, starve_at, with_editions}
use Rattle.replay_log.proofs.ActionLemmas.{mine}
use Rattle.replay_log.proofs.MixedLemmas.{Told, is_word_op, on_held}
use Rattle.replay_log.proofs.SeatLemmas.{Copy, Linked, StageOk, at_of, gates_of}
use Rattle.replay_log.proofs.CallLemmas.{calls_on_linked}
use Rattle.actor_parts.specs.declared.judged.Judged.{Judged}
use Rattle.actor_parts.specs.declared.judged.Judged.TheVariants.{All, Next, Stale}
use Rattle.actor_parts.specs.Accepts.{written}
use Rattle.actor_parts.specs.Judged.{comes_to, judged, left_after}
use Rattle.actor_parts.proofs.AcceptsLemmas.{accepts}
use Rattle.actor_parts.proofs.JudgedLemmas.{is_judged}
use Rattle.actor_parts.specs.CopiesAfterEvent.{IsUnanswered, call_in, call_on_held}
use Rattle.actor_parts.specs.CopyInWorld.{call_on}
use Rattle.actor_parts.proofs.CallingLemmas.{not_read}
use Rattle.actor_parts.proofs.ComesLemmas.{allowed, unwritten}
use Rattle.actor_parts.proofs.ShadowAfterActionLemmas.{IsOnWords, Same, SameReads, ask_same, asked_same}
use Rattle.actor_parts.proofs.ShadowAfterActionLemmas.{asked_to, same, same_calls, same_then}

written_same : (n : ℕ) (y : Actor) (editions : ℕ → ℕ) (ls : List ℕ) → SameReads n y (written y editions ls)
written_same n y editions [] = λ l m. refl
written_same n y editions (i ∷ ls) =
    let q = word.AskWrite i (editions i + 1) in
    λ l m. written_same n (ask y y.place q) editions ls l m ∙ ask_same n y y.place q tt l m

module _ {V : Type 0} where
  abbrev pub SameIn : ℕ → ℕ → World V → World V → Type 0
  SameIn n a v u = Same n a v.boosted u.boosted

  -- ---- requests of the word actor, and a transaction that is aborted
  pub ask_stays : (n : ℕ) (v u : World V) (a : ℕ) (q : word.Request) → IsOnWords n q → SameIn n a v u
      → SameIn n a v (acted u (asks a q ∷ []))
  ask_stays n v u a q ok h =
      same_then n a v.boosted u.boosted (acted u (asks a q ∷ [])).boosted h
      (asked_same (content u.words u.blocks) n u.boosted a q ok)

  pub cancels_stay : (n : ℕ) (v u : World V) (a : ℕ) (x : Seat V) → SameIn n a v u → SameIn n a v (cancels u a x)
  cancels_stay n v u a x h =
      ask_stays n v (acted u (asks a word.AskCancel ∷ [])) a word.AskAbort tt (ask_stays n v u a word.AskCancel tt h)

  pub gives_up_stays : (n : ℕ) (v u : World V) (a : ℕ) (x : Seat V) (ks : List ℕ) → SameIn n a v u → SameIn n a v (gives_up u a x ks).0
  gives_up_stays n v u a x [] h = cancels_stay n v u a x h
  gives_up_stays n v u a x (k ∷ ks) h = h

  -- ---- what a call results in
  -- a call with this outcome is answered, and joins the shadow's; or all remains
  abbrev pub Either : ℕ → ℕ → World V → CallWithOutcome V → After V → Type 0
  Either n a v o f =
      (SameIn n a v f.0 × IsUnanswered f.1)
      ⊎ ((SameReads n (actor_of v a) (actor_of f.0 a) × (f.0.boosted.shadows a ≡ longer (v.boosted.shadows a) o))
      × (f.1 ≡ notice.Answered a (Replied (reply_of o))))

  pub gives_up_either : (n : ℕ) (v u : World V) (a : ℕ) (x : Seat V) (o : CallWithOutcome V) (ks : List ℕ) → SameIn n a v u
      → Either n a v o (gives_up u a x ks)
  gives_up_either n v u a x o [] h = inl (cancels_stay n v u a x h, tt)
  gives_up_either n v u a x o (k ∷ ks) h = inl (h, tt)

  module _ (n : ℕ) (u : World V) (a : ℕ) (x : Seat V) (o : CallWithOutcome V) (place : (actor_of u a).place ≡ machine.Open)
      (kind : is_word_op o.asked.op ≡ false) (held : Told (on_held x.calls) (u.boosted.shadows a).outcomes)
      (is : outcome_at u a o.asked ≡ o) where
    comes_all : (left : Entries) → Linked (comes_to u a x o left All).0 → Either n a u o (comes_to u a x o left All)
    comes_all left k =
        let done = accepts a u o.asked (allowed u a x o left k kind held) in
        inr (
          (
            subst (SameReads n (actor_of u a)) (sym done.0) (written_same n (actor_of u a) (u.boosted.shadows a).editions
                ((content u.words u.blocks).writes (outcome_at u a o.asked))),
            done.1 ∙ ap (longer (u.boosted.shadows a)) is,
          ),
          refl,
        )

    comes_next : (left : Entries) (l : ℕ) → lookup (actor_of u a).reads l ≡ None → Linked (comes_to u a x o left (Next l)).0
        → Either n a u o (comes_to u a x o left (Next l))
    comes_next left l unread k =
        let y = actor_of u a in
        let goes : ask y y.place (word.AskRead l) ≡ machine.goes y (machine.Look l) =
        ap (λ p. ask y p (word.AskRead l)) place
        ∙ (ap (λ q. word.read y l q (lookup y.reads l)) (unwritten u a x o left l k place) ∙ ap (word.read y l None) unread) in
        inl (
          asked_to (content u.words u.blocks) n u.boosted a (word.AskRead l)
              (same_calls n y (ask y y.place (word.AskRead l)) (ap (λ (z : Actor). z.calls) goes)),
          tt,
        )

    comes_by : (left : Entries) (j : Judged) → ((l : ℕ) → j ≡ Next l → lookup (actor_of u a).reads l ≡ None)
        → Linked (comes_to u a x o left j).0 → Either n a u o (comes_to u a x o left j)
    comes_by left All unread k = comes_all left k
    comes_by left (Next l) unread k = comes_next left l (unread l refl) k
    comes_by left (Stale l e v) unread k = gives_up_either n u u a (because x (refusal.Stale l e v)) o [] (same n a u.boosted)

    pub loads_come : (es : Entries) → Linked (loads u a x o es).0 → Either n a u o (loads u a x o es)
    loads_come es k =
        let j = judged (actor_of u a).reads es in
        let left = left_after (actor_of u a).reads es in
        let to : loads u a x o es ≡ comes_to u a x o left j = is_judged u a x o es in
        subst (Either n a u o) (sym to)
        (comes_by left j (λ l next. not_read (actor_of u a).reads es l next) (subst (λ (p : After V). Linked p.0) to k))

    -- with room in the sets or not
    pub answers_come : (before : Seat V) (sized : CallWithOutcome V) (editions : ℕ → ℕ) → Linked (answers u a before x sized o editions).0
        → Either n a u o (answers u a before x sized o editions)
    answers_come before sized editions k =
        let c = content u.words u.blocks in
        by (has_room (actor_of u a) (c.reads sized) (c.writes sized)) k
      where
        es : Entries
        es = with_editions editions ((content u.words u.blocks).reads o)

        long : After V
        long = (seated u a (at_stage before Open), notice.Refused a refusal.TooLong)

        by : (b : Bool) → Linked (cond b (loads u a x o es) long).0 → Either n a u o (cond b (loads u a x o es) long)
        by true h = loads_come es h
        by false h = inl (same n a u.boosted, tt)

  -- ---- a call is asked
  pub calls_on_come : (n : ℕ) (w : World V) (a : ℕ) (x : Seat V) (asked : CollectionCall V) → (actor_of w a).place ≡ machine.Open
      → is_word_op asked.op ≡ false → Told (on_held x.calls) (w.boosted.shadows a).outcomes → Linked (calls_on w a x asked).0
      → Either n a w (outcome_at w a asked) (calls_on w a x asked)
  calls_on_come n w a x asked place kind held k = by (x.copied asked.collection (piece_at w.blocks asked)) k
    where
      o : CallWithOutcome V
      o = outcome_at w a asked

      now : After V
      now = answers w a x x o o (w.boosted.shadows a).editions

      later : After V
      later = (seated w a (at_stage x (Trying asked more_tries)), notice.Quiet)

      by : (b : Bool) → Linked (cond b now later).0 → Either n a w o (cond b now later)
      by true h = answers_come n w a x o place kind held refl x o (w.boosted.shadows a).editions h
      by false h = inl (same n a w.boosted, tt)

  -- ---- requests
  abbrev pub AskedBy : ℕ → ℕ → World V → Option (CollectionCall V) → After V → Type 0
  AskedBy n a w None f = SameIn n a w f.0
  AskedBy n a w (Some asked) f = Either n a w (outcome_at w a asked) f

  refused : (n : ℕ) (w : World V) (a : ℕ) (o : Option (CollectionCall V)) (r : Refusal) → AskedBy n a w o (w, notice.Refused a r)
  refused n w a None r = same n a w.boosted
  refused n w a (Some asked) r = inl (same n a w.boosted, tt)

  -- a request that is allowed or refused
  allowed_asked : (n : ℕ) (w : World V) (a : ℕ) (x : Seat V) (o : Option (CollectionCall V)) (known room : Bool) (next : After V)
      → (known ≡ true → AskedBy n a w o next) → AskedBy n a w o (if_allowed w a x known room next)
  allowed_asked n w a x o false room next h = refused n w a o refusal.NoSuch
  allowed_asked n w a x o true room next h = by (nat_lt (length x.calls) CALL_LIMIT && room)
    where
      by : (b : Bool) → AskedBy n a w o (cond b next (w, notice.Refused a refusal.TooLong))
      by true = h refl
      by false = refused n w a o refusal.TooLong

  word_read : (n : ℕ) (w : World V) (a : ℕ) (x : Seat V) (l : ℕ) (m : told.Notice) → l < n → SameIn n a w (reads w a x l m).0
  word_read n w a x l (told.Number v) lt = ask_stays n w w a (word.AskRead l) lt (same n a w.boosted)
  word_read n w a x l m lt = ask_stays n w w a (word.AskRead l) lt (same n a w.boosted)

  commits_stay : (n : ℕ) (w : World V) (a : ℕ) (x : Seat V) (es : Entries) → SameIn n a w (commits w a x es).0
  commits_stay n w a x [] = ask_stays n w w a word.AskClose tt (same n a w.boosted)
  commits_stay n w a x (e ∷ es) = ask_stays n w w a word.AskLock tt (same n a w.boosted)

  module _ (w : World V) (a : ℕ) (k : Linked w) where
    abbrev n : ℕ
    n = w.words

    abbrev y : Actor
    y = actor_of w a

    abbrev z : Copy V
    z = w.boosted.shadows a

    abbrev g : ℕ → Bool
    g = mine w.boosted a

    abbrev StageIn : Seat V → Stage V → Type 0
    StageIn x st = StageOk w.words w.blocks x y z st y.place

    -- ---- requests
    held_asked : (x : Seat V) (t : ℕ) (q : Op V) → ((i : ℕ) → g i ≡ false) → StageIn x Open → is_word_op q ≡ false
        → AskedBy n a w (Some (call_on t q))
        (if_allowed w a x (is_known (block_of w.blocks t) q && may_ask y q) true (calls_on w a x (call_on t q)))
    held_asked x t q none ok kind =
        allowed_asked n w a x (Some (call_on t q)) (is_known (block_of w.blocks t) q && may_ask y q) true (calls_on w a x (call_on t q))
        (λ both. (
        let b = and_parts (is_known (block_of w.blocks t) q) (may_ask y q) both in
        calls_on_come n w a x (call_on t q) ok.0 kind ok.1.tx.1.held
        (calls_on_linked w a x y z g (call_on t q) (at_of w a k) none ok.0 ok.1 (kind, b.0, b.1))))

    op_asked : (x : Seat V) (t : ℕ) (q : Op V) → ((i : ℕ) → g i ≡ false) → StageIn x Open
        → AskedBy n a w (call_on_held t q) (ask_op w a x t q)
    op_asked x t op.Read none ok =
        allowed_asked n w a x None (nat_lt t w.words) _ (reads w a x t (told.reply y y.place (word.AskRead t)))
        (λ lt. word_read n w a x t (told.reply y y.place (word.AskRead t)) (nat_lt-true t w.words lt))
    op_asked x t (op.Write v) none ok =
        allowed_asked n w a x None (nat_lt t w.words && not y.declared) _ _
        (λ both. ask_stays n w w a (word.AskWrite t v) tt (same n a w.boosted))
    op_asked x t q none ok = held_asked x t q none ok refl

    open_asked : (x : Seat V) (q : Request V) → ((i : ℕ) → g i ≡ false) → StageIn x Open
        → AskedBy n a w (call_in q) (ask_open w a x q)
    open_asked x request.Begin none ok = same n a w.boosted
    open_asked x request.BeginRead none ok = same n a w.boosted
    open_asked x (request.Call call) none ok = op_asked x call.target call.op none ok
    open_asked x request.Commit none ok = commits_stay n w a x y.writes
    open_asked x request.Abort none ok = cancels_stay n w w a (record x { cause = None }) (same n a w.boosted)

    idle_asked : (x : Seat V) (q : Request V) → AskedBy n a w (call_in q) (ask_idle w a x q)
    idle_asked x request.Begin = ask_stays n w w a word.AskBegin tt (same n a w.boosted)
    idle_asked x request.BeginRead = ask_stays n w w a word.AskBeginRead tt (same n a w.boosted)
    idle_asked x q = refused n w a (call_in q) refusal.NoTransaction

    pub asked_by : (x : Seat V) (st : Stage V) (q : Request V) → ((i : ℕ) → g i ≡ has (gates_of st) i) → StageIn x st
        → AskedBy n a w (call_in q) (ask_at w a x st q)
    asked_by x Idle q none ok = idle_asked x q
    asked_by x Open q none ok = open_asked x q none ok
    asked_by x st q none ok = refused n w a (call_in q) refusal.NotIdle

  -- ---- failed allocations
  pub starved : (n : ℕ) (w : World V) (a : ℕ) (x : Seat V) (st : Stage V) → SameIn n a w (starve_at w a x st).0
  starved n w a x Beginning = ask_stays n w w a word.AskAbort tt (same n a w.boosted)
  starved n w a x (Reading l) = gives_up_stays n w w a (because x refusal.Memory) [] (same n a w.boosted)
  starved n w a x (Trying asked tries) = gives_up_stays n w w a (because x refusal.Memory) [] (same n a w.boosted)
  starved n w a x (Copying asked) = gives_up_stays n w w a (because x refusal.Memory) (asked.collection ∷ []) (same n a w.boosted)
  starved n w a x (Loading o es) = gives_up_stays n w w a (because x refusal.Memory) [] (same n a w.boosted)
  starved n w a x Locking = gives_up_stays n w w a (because x refusal.Memory) [] (same n a w.boosted)
  starved n w a x (Gating got ks tries) = gives_up_stays n w w a (because x refusal.Memory) got (same n a w.boosted)
  starved n w a x (Ready ks) = gives_up_stays n w w a (because x refusal.Memory) ks (same n a w.boosted)
  starved n w a x Closing = gives_up_stays n w w a (because x refusal.Memory) [] (same n a w.boosted)
  starved n w a x st = same n a w.boosted

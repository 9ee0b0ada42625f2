-- Each event of an actor, in two worlds that are alike to it.
--
-- The definitions read the actor's seat, its machine's record and shadow, the shape of the world and what the machine's step answered; so
-- each function of them, given the same of these, leaves worlds that are alike to the actor, and answers the same. The machine's state is
-- `own_action`.
use Rattle.std.proofs.Common.{◌≡◌, ℕ, zero, suc, ◌+◌, Bool, true, false, ◌&&◌, ◌||◌, List, [], ◌∷◌, ◌++◌, Option, Some, None, refl, sym, ap}
use Rattle.std.proofs.Common.{◌∙◌, subst, eqb, ltb, length}
use Rattle.std.proofs.lemmas.Bool.{cond_both}
use Rattle.std.specs.Prelude.{if◌then◌else◌, not, filter}
use Rattle.tx_sets.specs.Entries.{Entries, lookup, locations}
use Rattle.vlock_word.specs.declared.lock_word.LockWord.{LockWord}
use Rattle.vlock_word.specs.LockWord.{bits, unbits}
use Rattle.vlock_word.proofs.LockWordLemmas.{unbits_bits}
use Rattle.tx_machine.specs.Actor as at
use Rattle.tx_machine.specs.Actor.{Actor, Place, to_check}
use Rattle.tx_machine.specs.Requests as word
use Rattle.tx_machine.specs.World as machine
use Rattle.tx_machine.specs.World.{plan}
use Rattle.tx_machine.specs.Cells.{Cell, ClockCell, LockCell, cell, word_of}
use Rattle.tx_machine.specs.Notices as told
use Rattle.tx_machine.specs.Notices.{notice, begin_notice, look_notice, again_notice, when_none_left, lock_notice, take_notice}
use Rattle.tx_machine.specs.Notices.{check_notice}
use Rattle.tx_machine.proofs.Sets.{put-same}
use Rattle.seq_model.specs.declared.call.Op.{Op}
use Rattle.seq_model.specs.declared.call.Op.TheVariants.{Read, Write}
use Rattle.seq_model.specs.declared.call.Call.{Call}
use Rattle.seq_model.specs.declared.call.Reply.{Reply}
use Rattle.seq_model.specs.declared.refusal.Refusal.TheVariants as refusal
use Rattle.seq_model.specs.declared.event.Event.{Event}
use Rattle.seq_model.specs.declared.event.Event.TheVariants.{Ask, Step, Starve}
use Rattle.seq_model.specs.declared.event.Request.{Request}
use Rattle.seq_model.specs.declared.event.Request.TheVariants as request
use Rattle.seq_model.specs.declared.event.Notice.{Notice}
use Rattle.seq_model.specs.declared.event.Notice.TheVariants.{Quiet}
use Rattle.seq_model.specs.declared.limits.TheConstants.{CALL_LIMIT}
use Rattle.tx_machine.specs.Content.{Content}
use Rattle.tx_machine.specs.Boosted.{Boosted, Shadow, Action, TakeGate, PutGate, Accept, GoHome, acts, changes, is_none, is_actor}
use Rattle.tx_machine.specs.Boosted.{is_open, is_committing, gated, copied}
use Rattle.replay_log.specs.Base.{Shown}
use Rattle.replay_log.specs.Contents.{Block, CollectionCall, CallWithOutcome as Outcomes, block_of, content, home_of, is_plain}
use Rattle.replay_log.specs.Pieces.{piece_at, covers_at}
use Rattle.replay_log.specs.Seats.{World, Seat, Stage, Idle, Beginning, Open, Locking, Releasing, Closing, Cancelling, Leaving, Reading}
use Rattle.replay_log.specs.Seats.{Trying, Copying, Loading, Gating, Ready, Storing, Homing, Returning, After, no_one, at_stage, because}
use Rattle.replay_log.specs.Seats.{seated, acted, asks, moves, actor_of, word_notice}
use Rattle.replay_log.specs.WorldCalls.{fits, has_room, may_ask, with_editions, is_fresh, is_stale, judges, with_piece, replied, reads}
use Rattle.replay_log.specs.WorldCalls.{outcome_at, sized_by, loads, answers, calls_on, is_known, if_allowed, ask_op, has_read, has_copied}
use Rattle.replay_log.specs.WorldCalls.{has_loaded}
use Rattle.replay_log.specs.WorldEnds.{is_leaving, cancels, gives_up, ended, has_tried, has_cancelled}
use Rattle.replay_log.specs.WorldCommits.{distinct, all_of, commits, recorded, written_homes, takes_gates, has_locked, goes_home}
use Rattle.replay_log.specs.WorldCommits.{has_stored, has_released}
use Rattle.replay_log.specs.Worlds.{ask_at, has_begun, step_at, starve_at, happens}
use Rattle.actor_laws.specs.Machine.{AlikeBelow, FindsBelow, SameWord}
use Rattle.actor_laws.specs.Own.{Alike, SameAfter, SameCopy, FindsAt, Finds}
use Rattle.actor_laws.proofs.OwnActions.{own_action, both, agree}

lock_same : (s t : machine.World) (l : ℕ) → bits (s.locks l) ≡ bits (t.locks l) → s.locks l ≡ t.locks l
lock_same s t l e = sym (unbits_bits (s.locks l)) ∙ (ap unbits e ∙ unbits_bits (t.locks l))

pub notice_alike : (s t : machine.World) (x : Actor) (p : Place) → ((c : Cell) → word_of (plan x p) ≡ Some c → cell s c ≡ cell t c)
    → notice s x p ≡ notice t x p
notice_alike s t x at.Begin e = ap begin_notice (e ClockCell refl)
notice_alike s t x (at.Look l) e = ap (look_notice x.rv l) (lock_same s t l (e (LockCell l) refl))
notice_alike s t x (at.Again l k v) e = ap (again_notice l k v) (lock_same s t l (e (LockCell l) refl))
notice_alike s t x (at.Lock []) e = ap (λ (n : ℕ). when_none_left (to_check x (n + 1)) (told.LockedAt (n + 1))) (e ClockCell refl)
notice_alike s t x (at.Lock (l ∷ ls)) e = ap (lock_notice l) (lock_same s t l (e (LockCell l) refl))
notice_alike s t x (at.Take l k ls) e = ap (take_notice l k) (lock_same s t l (e (LockCell l) refl))
notice_alike s t x (at.Check []) e = refl
notice_alike s t x (at.Check (l ∷ ls)) e = ap (λ (w : LockWord). check_notice x.rv x.wv l ls w (lookup x.writes l))
    (lock_same s t l (e (LockCell l) refl))
notice_alike s t x (at.Store []) e = refl
notice_alike s t x (at.Store (l ∷ ls)) e = refl
notice_alike s t x p e = refl

module _ {V : Type 0} (a : ℕ) where
  same_content : (v u : World V) → Alike a v u → content {V = V} v.words v.blocks ≡ content u.words u.blocks
  same_content v u e i = content (e.words i) (e.blocks i)

  seated_alike : (v u : World V) (x : Seat V) → Alike a v u → Alike a (seated v a x) (seated u a x)
  seated_alike v u x e = record {
    words = e.words;
    blocks = e.blocks;
    seat = put-same v.seats a x ∙ sym (put-same u.seats a x);
    boosted = e.boosted;
  }

  one_alike : (v u : World V) (d : Action (CollectionCall V)) → Alike a v u → FindsBelow (content v.words v.blocks) a v.boosted u.boosted d
      → Alike a (acted v (d ∷ [])) (acted u (d ∷ []))
  one_alike v u d e f = record {
    words = e.words;
    blocks = e.blocks;
    seat = e.seat;
    boosted = subst (λ (z : Content (Shown V) (CollectionCall V) (Outcomes V)). AlikeBelow a (acts (content v.words v.blocks) v.boosted d)
        (acts z u.boosted d)) (same_content v u e) (own_action (content v.words v.blocks) a v.boosted u.boosted d e.boosted f);
  }

  pub asks_alike : (v u : World V) (q : word.Request) → Alike a v u → Alike a (acted v (asks a q ∷ [])) (acted u (asks a q ∷ []))
  asks_alike v u q e = one_alike v u (asks a q) e refl

  told_alike : (v u : World V) → Alike a v u → SameWord a v.boosted.words u.boosted.words → word_notice v a ≡ word_notice u a
  told_alike v u e same =
      notice_alike v.boosted.words u.boosted.words (actor_of v a) (actor_of v a).place same
      ∙ ap (λ (x : Actor). notice u.boosted.words x x.place) e.boosted.actor

  moved_alike : (v u : World V) → Alike a v u → SameWord a v.boosted.words u.boosted.words → Alike a (acted v (moves a ∷ []))
      (acted u (moves a ∷ []))
  moved_alike v u e same = one_alike v u (moves a) e (refl, same)

  -- the same seat, and the same word
  quietly : (v u : World V) (x y : Seat V) (n : Notice V) → x ≡ y → Alike a v u → SameAfter a (seated v a x, n) (seated u a y, n)
  quietly v u x y n q e = (subst (λ (z : Seat V). Alike a (seated v a x) (seated u a z)) q (seated_alike v u x e), refl)

  cancels_alike : (v u : World V) (x : Seat V) → Alike a v u → Alike a (cancels v a x) (cancels u a x)
  cancels_alike v u x e =
      let v' : World V = acted (acted v (asks a word.AskCancel ∷ [])) (asks a word.AskAbort ∷ []) in
      let u' : World V = acted (acted u (asks a word.AskCancel ∷ [])) (asks a word.AskAbort ∷ []) in
      let e' : Alike a v' u' = asks_alike _ _ word.AskAbort (asks_alike v u word.AskCancel e) in
      (quietly v' u' (at_stage x (if is_leaving (actor_of v' a).place then Leaving else Cancelling))
      (at_stage x (if is_leaving (actor_of u' a).place then Leaving else Cancelling)) Quiet
      (ap (λ (z : Actor). at_stage x (if is_leaving z.place then Leaving else Cancelling)) e'.boosted.actor) e').0

  gives_up_alike : (v u : World V) (x : Seat V) (ks : List ℕ) → Alike a v u → SameAfter a (gives_up v a x ks) (gives_up u a x ks)
  gives_up_alike v u x [] e = (cancels_alike v u x e, refl)
  gives_up_alike v u x (k ∷ ks) e = quietly v u _ _ Quiet refl e

  replied_alike : (v u : World V) (x : Seat V) (call : Call V) (r : Reply V) → Alike a v u → SameAfter a (replied v a x call r)
      (replied u a x call r)
  replied_alike v u x call r e = quietly v u _ _ _ refl e

  reads_alike : (v u : World V) (x : Seat V) (l : ℕ) (n : told.Notice) → Alike a v u → SameAfter a (reads v a x l n) (reads u a x l n)
  reads_alike v u x l (told.Number i) e = replied_alike _ _ x _ _ (asks_alike v u (word.AskRead l) e)
  reads_alike v u x l n e = quietly _ _ _ _ Quiet refl (asks_alike v u (word.AskRead l) e)

  outcome_alike : (v u : World V) (q : CollectionCall V) → Alike a v u → outcome_at v a q ≡ outcome_at u a q
  outcome_alike v u q e i = (same_content v u e i).outcome
      (changes (same_content v u e i) (e.boosted.shadow i).outcomes (e.boosted.shadow i).parts) q

  fresh_alike : (v u : World V) (x : Seat V) (d : ℕ × ℕ) (i : ℕ) (p q : After V) → Alike a v u → SameAfter a p q
      → SameAfter a (is_fresh v a x d i p) (is_fresh u a x d i q)
  fresh_alike v u x d i p q e h = both (SameAfter a) (eqb d.1 i) _ _ _ _ h (gives_up_alike v u (because x (refusal.Stale d.0 d.1 i)) [] e)

  judges_alike : (v u : World V) (x : Seat V) (o : Outcomes V) (d : ℕ × ℕ) (es : Entries) (p q : After V) (r : Option ℕ) → Alike a v u
      → SameAfter a p q → SameAfter a (judges v a x o d es p r) (judges u a x o d es q r)
  judges_alike v u x o d es p q None e h = quietly _ _ _ _ Quiet refl (asks_alike v u (word.AskRead d.0) e)
  judges_alike v u x o d es p q (Some i) e h = fresh_alike v u x d i p q e h

  loads_alike : (v u : World V) (x : Seat V) (o : Outcomes V) (es : Entries) → Alike a v u → SameAfter a (loads v a x o es)
      (loads u a x o es)
  loads_alike v u x o [] e = replied_alike _ _ x _ _ (one_alike v u (Accept a o.asked) e refl)
  loads_alike v u x o (d ∷ es) e =
      subst (λ (y : Actor). SameAfter a (loads v a x o (d ∷ es))
      (judges u a x o d es (loads u a x o es) (lookup y.reads d.0))) e.boosted.actor
      (judges_alike v u x o d es _ _ (lookup (actor_of v a).reads d.0) e (loads_alike v u x o es e))

  loads_from : (v u : World V) (x : Seat V) (o : Outcomes V) (ls ms : Entries) → ls ≡ ms → Alike a v u → SameAfter a (loads v a x o ls)
      (loads u a x o ms)
  loads_from v u x o ls ms q e = subst (λ (z : Entries). SameAfter a (loads v a x o ls) (loads u a x o z)) q (loads_alike v u x o ls e)

  answers_alike : (v u : World V) (before x : Seat V) (sized o : Outcomes V) (f g : ℕ → ℕ)
      → let reads = (content {V = V} v.words v.blocks).reads o in with_editions f reads ≡ with_editions g reads → Alike a v u
      → SameAfter a (answers v a before x sized o f) (answers u a before x sized o g)
  answers_alike v u before x sized o f g same e =
      agree (SameAfter a) _ _ _ _ _ _
      (λ i. has_room (e.boosted.actor i) ((same_content v u e i).reads sized) ((same_content v u e i).writes sized))
      (loads_from v u x o _ _ (same ∙ (λ i. with_editions g ((same_content v u e i).reads o))) e)
      (quietly v u _ _ _ refl e)

  answers_from : (v u : World V) (before x : Seat V) (sized size o p : Outcomes V) (f g : ℕ → ℕ) → sized ≡ size → o ≡ p
      → (let reads = (content {V = V} v.words v.blocks).reads o in with_editions f reads ≡ with_editions g reads) → Alike a v u
      → SameAfter a (answers v a before x sized o f) (answers u a before x size p g)
  answers_from v u before x sized size o p f g r q same e =
      subst (λ (s : Outcomes V). SameAfter a (answers v a before x sized o f) (answers u a before x s p g)) r
      (subst (λ (z : Outcomes V). SameAfter a (answers v a before x sized o f) (answers u a before x sized z g)) q
      (answers_alike v u before x sized o f g same e))

  -- whose locations are to fit the sets
  sized_alike : (v u : World V) (q : CollectionCall V) → Alike a v u → SameCopy v u q
      → sized_by v a q (outcome_at v a q) ≡ sized_by u a q (outcome_at u a q)
  sized_alike v u q e f =
      let same = f.0 (outcome_at v a q) refl
      ∙ (λ i. with_editions u.boosted.editions ((same_content v u e i).reads (outcome_alike v u q e i))) in
      let now = f.1 ∙ (λ i. (same_content v u e i).outcome u.boosted.parts q) in
      λ i. if is_stale (e.boosted.actor i).reads (same i) then now i else outcome_alike v u q e i

  -- a try to put a gate back leaves every edition, and every part
  put_editions : (v : World V) (k : ℕ) (which : ℕ → Bool) → (acted v (PutGate a k which ∷ [])).boosted.editions ≡ v.boosted.editions
  put_editions v k which =
      let s = v.boosted in
      let c = content {V = V} v.words v.blocks in
      cond_both {A = Boosted (Shown V) (Outcomes V)} (is_actor a (s.gates k) && not (is_committing (s.words.actors a).place))
      (gated s (machine.put s.gates k None)
      (if is_open (s.words.actors a).place then machine.put s.shadows a
      (copied c s (s.words.actors a).calls (s.shadows a) k which) else s.shadows)) s
      (λ t. t.editions ≡ s.editions) (λ _. refl) (λ _. refl)

  put_parts : (v : World V) (k : ℕ) (which : ℕ → Bool) → (acted v (PutGate a k which ∷ [])).boosted.parts ≡ v.boosted.parts
  put_parts v k which =
      let s = v.boosted in
      let c = content {V = V} v.words v.blocks in
      cond_both {A = Boosted (Shown V) (Outcomes V)} (is_actor a (s.gates k) && not (is_committing (s.words.actors a).place))
      (gated s (machine.put s.gates k None)
      (if is_open (s.words.actors a).place then machine.put s.shadows a
      (copied c s (s.words.actors a).calls (s.shadows a) k which) else s.shadows)) s
      (λ t. t.parts ≡ s.parts) (λ _. refl) (λ _. refl)

  put_copy : (v u : World V) (q : CollectionCall V) (k : ℕ) (which others : ℕ → Bool) → SameCopy v u q
      → SameCopy (acted v (PutGate a k which ∷ [])) (acted u (PutGate a k others ∷ [])) q
  put_copy v u q k which others f = (
    λ o at.
        let reads = (content {V = V} v.words v.blocks).reads o in
        ap (λ (g : ℕ → ℕ). with_editions g reads) (put_editions v k which)
        ∙ (f.0 o at ∙ sym (ap (λ (g : ℕ → ℕ). with_editions g reads) (put_editions u k others))),
    (let c = content {V = V} v.words v.blocks in
        ap (λ (g : ℕ → Shown V). c.outcome g q) (put_parts v k which)
        ∙ (f.1 ∙ sym (ap (λ (g : ℕ → Shown V). c.outcome g q) (put_parts u k others)))),
  )

  calls_alike : (v u : World V) (x : Seat V) (q : CollectionCall V) → Alike a v u → SameAfter a (calls_on v a x q) (calls_on u a x q)
  calls_alike v u x q e =
      agree (SameAfter a) _ _ _ _ _ _ (ap (λ (bs : List Block). x.copied q.collection (piece_at bs q)) e.blocks)
      (answers_from v u x x _ _ _ _ _ _ (outcome_alike v u q e) (outcome_alike v u q e)
      (ap (λ (z : Shadow (Shown V) (Outcomes V)). with_editions z.editions
      ((content {V = V} v.words v.blocks).reads (outcome_at v a q))) e.boosted.shadow) e)
      (quietly v u _ _ _ refl e)

  allowed_alike : (v u : World V) (x : Seat V) (known room known' room' : Bool) (p q : After V) → known ≡ known' → room ≡ room'
      → Alike a v u → SameAfter a p q → SameAfter a (if_allowed v a x known room p) (if_allowed u a x known' room' q)
  allowed_alike v u x known room known' room' p q k r e h =
      agree (SameAfter a) known known' _ _ _ _ k
      (agree (SameAfter a) _ _ _ _ _ _ (ap (λ (b : Bool). ltb (length x.calls) CALL_LIMIT && b) r) h (e, refl))
      (e, refl)

  reads_from : (v u : World V) (x : Seat V) (l : ℕ) (n m : told.Notice) → n ≡ m → Alike a v u → SameAfter a (reads v a x l n)
      (reads u a x l m)
  reads_from v u x l n m q e = subst (λ (z : told.Notice). SameAfter a (reads v a x l n) (reads u a x l z)) q (reads_alike v u x l n e)

  call_alike : (v u : World V) (x : Seat V) (t : ℕ) (op : Op V) → Alike a v u
      → SameAfter a (if_allowed v a x (is_known (block_of v.blocks t) op && may_ask (actor_of v a) op) true
      (calls_on v a x (record { collection = t; op = op })))
      (if_allowed u a x (is_known (block_of u.blocks t) op && may_ask (actor_of u a) op) true
      (calls_on u a x (record { collection = t; op = op })))
  call_alike v u x t op e = allowed_alike v u x _ _ _ _ _ _
      (λ i. is_known (block_of (e.blocks i) t) op && may_ask (e.boosted.actor i) op) refl e (calls_alike v u x _ e)

  op_alike : (v u : World V) (x : Seat V) (t : ℕ) (op : Op V) → Alike a v u → SameAfter a (ask_op v a x t op) (ask_op u a x t op)
  op_alike v u x t Read e =
      allowed_alike v u x _ _ _ _ _ _ (λ i. ltb t (e.words i))
      (λ i. (e.boosted.actor i).declared ||
      (not (is_none (lookup (e.boosted.actor i).writes t)) || fits (e.boosted.actor i).reads (t ∷ []))) e
      (reads_from v u x t _ _ (λ i. told.reply (e.boosted.actor i) (e.boosted.actor i).place (word.AskRead t)) e)
  op_alike v u x t (Write n) e =
      allowed_alike v u x _ _ _ _ _ _ (λ i. ltb t (e.words i) && not (e.boosted.actor i).declared)
      (λ i. fits (e.boosted.actor i).writes (t ∷ [])) e
      (replied_alike _ _ x _ _ (asks_alike v u (word.AskWrite t n) e))
  op_alike v u x t op e = call_alike v u x t op e

  commits_alike : (v u : World V) (x : Seat V) (es : Entries) → Alike a v u → SameAfter a (commits v a x es) (commits u a x es)
  commits_alike v u x [] e = quietly _ _ _ _ Quiet refl (asks_alike v u word.AskClose e)
  commits_alike v u x (d ∷ ds) e = quietly _ _ _ _ Quiet refl (asks_alike v u word.AskLock e)

  commits_from : (v u : World V) (x : Seat V) (es ds : Entries) → es ≡ ds → Alike a v u → SameAfter a (commits v a x es) (commits u a x ds)
  commits_from v u x es ds q e = subst (λ (z : Entries). SameAfter a (commits v a x es) (commits u a x z)) q (commits_alike v u x es e)

  ask_alike : (v u : World V) (x : Seat V) (p : Stage V) (q : Request V) → Alike a v u → SameAfter a (ask_at v a x p q) (ask_at u a x p q)
  ask_alike v u x Idle request.Begin e = quietly _ _ _ _ Quiet refl (asks_alike v u word.AskBegin e)
  ask_alike v u x Idle request.BeginRead e = quietly _ _ _ _ Quiet refl (asks_alike v u word.AskBeginRead e)
  ask_alike v u x Idle q e = (e, refl)
  ask_alike v u x Open request.Begin e = (e, refl)
  ask_alike v u x Open request.BeginRead e = (e, refl)
  ask_alike v u x Open (request.Call call) e = op_alike v u x call.target call.op e
  ask_alike v u x Open request.Commit e = commits_from v u x _ _ (ap (λ (z : Actor). z.writes) e.boosted.actor) e
  ask_alike v u x Open request.Abort e = (cancels_alike v u (record x { cause = None }) e, refl)
  ask_alike v u x p q e = (e, refl)

  -- ---- steps
  begun_alike : (v u : World V) (x : Seat V) (n : told.Notice) → Alike a v u → SameAfter a (has_begun v a x n) (has_begun u a x n)
  begun_alike v u x (told.Begun rv) e = quietly v u _ _ _ refl e
  begun_alike v u x (told.Exhausted clock) e = quietly v u _ _ _ refl e
  begun_alike v u x n e = (e, refl)

  read_alike : (v u : World V) (x : Seat V) (l : ℕ) (n : told.Notice) → Alike a v u → SameAfter a (has_read v a x l n) (has_read u a x l n)
  read_alike v u x l (told.Number i) e = replied_alike v u x _ _ e
  read_alike v u x l (told.Moved i w) e = gives_up_alike v u (because x (refusal.Moved i w)) [] e
  read_alike v u x l n e = (e, refl)

  tried_alike : (v u : World V) (x : Seat V) (free free' : Bool) (k : ℕ) (got : List ℕ) (again : ℕ → Stage V) (next : Stage V) (tries : ℕ)
      → free ≡ free' → Alike a v u → SameAfter a (has_tried v a x free k got again next tries)
      (has_tried u a x free' k got again next tries)
  tried_alike v u x free free' k got again next zero f e = agree (SameAfter a) free free' _ _ _ _ f (quietly v u _ _ _ refl e)
      (gives_up_alike v u (because x (refusal.GateBusy k)) got e)
  tried_alike v u x free free' k got again next (suc n) f e = agree (SameAfter a) free free' _ _ _ _ f (quietly v u _ _ _ refl e)
      (quietly v u _ _ _ refl e)

  loaded_alike : (v u : World V) (x : Seat V) (o : Outcomes V) (d : ℕ × ℕ) (es : Entries) (n : told.Notice) → Alike a v u
      → SameAfter a (has_loaded v a x o d es n) (has_loaded u a x o d es n)
  loaded_alike v u x o d es (told.Number i) e = fresh_alike v u x d i _ _ e (loads_alike v u x o es e)
  loaded_alike v u x o d es (told.Moved i w) e = gives_up_alike v u (because x (refusal.Moved i w)) [] e
  loaded_alike v u x o d es n e = (e, refl)

  homes_alike : (v u : World V) → Alike a v u → written_homes v a ≡ written_homes u a
  homes_alike v u e i = distinct
      (all_of (home_of (e.words i) (e.blocks i))
      (filter (λ l. not (is_plain (e.words i) (e.blocks i) l)) (locations (e.boosted.actor i).writes)))

  locked_alike : (v u : World V) (x : Seat V) (n : told.Notice) → Alike a v u → SameAfter a (has_locked v a x n) (has_locked u a x n)
  locked_alike v u x (told.LockedAt wv) e = quietly v u _ _ _
      (ap (λ (ks : List ℕ). record x { stage = takes_gates [] ks; wv = wv }) (homes_alike v u e)) e
  locked_alike v u x (told.Busy l w) e = gives_up_alike v u (because x (refusal.Busy l w)) [] e
  locked_alike v u x (told.Invalid l w) e = gives_up_alike v u (because x (refusal.Invalid l w)) [] e
  locked_alike v u x n e = (e, refl)

  home_alike : (v u : World V) (x : Seat V) (ks : List ℕ) → Alike a v u → SameAfter a (goes_home v a x ks) (goes_home u a x ks)
  home_alike v u x [] e = quietly _ _ _ _ Quiet refl (asks_alike v u word.AskRelease e)
  home_alike v u x (k ∷ ks) e = quietly v u _ _ _ refl e

  stored_alike : (v u : World V) (x : Seat V) (ks : List ℕ) (n : told.Notice) → Alike a v u → SameAfter a (has_stored v a x ks n)
      (has_stored u a x ks n)
  stored_alike v u x ks told.Stored e = home_alike v u x ks e
  stored_alike v u x ks n e = quietly v u _ _ _ refl e

  released_alike : (v u : World V) (x : Seat V) (n : told.Notice) → Alike a v u → SameAfter a (has_released v a x n) (has_released u a x n)
  released_alike v u x told.Released e = quietly v u _ _ _ refl e
  released_alike v u x n e = (e, refl)

  cancelled_alike : (v u : World V) (x : Seat V) (n : told.Notice) → Alike a v u → SameAfter a (has_cancelled v a x n)
      (has_cancelled u a x n)
  cancelled_alike v u x told.Cancelled e = quietly _ _ _ _ Quiet refl (asks_alike v u word.AskAbort e)
  cancelled_alike v u x n e = (e, refl)

  recorded_alike : (v u : World V) (x : Seat V) (b : Bool) (n : ℕ) → Alike a v u → Alike a (recorded v a x b n) (recorded u a x b n)
  recorded_alike v u x b n e = record { words = e.words; blocks = e.blocks; seat = e.seat; boosted = e.boosted }

  ended_alike : (v u : World V) (x : Seat V) → Alike a v u → SameAfter a (ended v a x) (ended u a x)
  ended_alike v u x e = (
    record {
      words = e.words;
      blocks = e.blocks;
      seat = put-same v.seats a no_one ∙ sym (put-same u.seats a no_one);
      boosted = e.boosted;
    },
    refl,
  )

  -- by what the word machine answered
  telling : (f g : told.Notice → After V) (n m : told.Notice) → n ≡ m → ((k : told.Notice) → SameAfter a (f k) (g k)) → SameAfter a (f n)
      (g m)
  telling f g n m q h = subst (λ (z : told.Notice). SameAfter a (f n) (g z)) q (h n)

  step_alike : (v u : World V) (x : Seat V) (p : Stage V) → Alike a v u → FindsAt a v u p → SameAfter a (step_at v a x p) (step_at u a x p)
  step_alike v u x Idle e f = (e, refl)
  step_alike v u x Open e f = (e, refl)
  step_alike v u x Beginning e f = telling _ _ _ _ (told_alike v u e f.1) (λ n. begun_alike _ _ x n (moved_alike v u e f.1))
  step_alike v u x (Reading l) e f = telling _ _ _ _ (told_alike v u e f.1) (λ n. read_alike _ _ x l n (moved_alike v u e f.1))
  step_alike v u x (Trying q tries) e f = tried_alike _ _ x _ _ q.collection [] (λ n. Trying q n) (Copying q) tries f.1
      (one_alike v u (TakeGate a q.collection) e f)
  step_alike v u x (Copying q) e f =
      let k = q.collection in
      let h = subst (λ (which : ℕ → Bool). Alike a (acted v (PutGate a k (covers_at v.words v.blocks q) ∷ []))
      (acted u (PutGate a k which ∷ []))) (λ i. covers_at (e.words i) (e.blocks i) q)
      (one_alike v u (PutGate a k (covers_at v.words v.blocks q)) e f.0) in
      let v' : World V = acted v (PutGate a k (covers_at v.words v.blocks q) ∷ []) in
      let u' : World V = acted u (PutGate a k (covers_at u.words u.blocks q) ∷ []) in
      let g = put_copy v u q k (covers_at v.words v.blocks q) (covers_at u.words u.blocks q) f.1 in
      let o = outcome_at u' a q in
      subst (λ (bs : List Block). SameAfter a (has_copied v' a x q)
      (answers u' a x (with_piece x k (piece_at bs q)) (sized_by u' a q o) o u'.boosted.editions)) e.blocks
      (answers_from v' u' x (with_piece x k (piece_at v.blocks q)) _ _ _ _ _ _ (sized_alike v' u' q h g) (outcome_alike v' u' q h)
      (g.0 (outcome_at v' a q) refl) h)
  step_alike v u x (Loading o []) e f = (e, refl)
  step_alike v u x (Loading o (d ∷ es)) e f = telling _ _ _ _ (told_alike v u e f.1)
      (λ n. loaded_alike _ _ x o d es n (moved_alike v u e f.1))
  step_alike v u x Locking e f = telling _ _ _ _ (told_alike v u e f.1) (λ n. locked_alike _ _ x n (moved_alike v u e f.1))
  step_alike v u x (Gating got [] tries) e f = (e, refl)
  step_alike v u x (Gating got (k ∷ ks) tries) e f = tried_alike _ _ x _ _ k got (λ n. Gating got (k ∷ ks) n)
      (takes_gates (got ++ k ∷ []) ks) tries f.1 (one_alike v u (TakeGate a k) e f)
  step_alike v u x (Ready ks) e f =
      let h = asks_alike v u word.AskStore e in
      telling _ _ _ _ (told_alike _ _ h f.1) (λ n. stored_alike _ _ x ks n (recorded_alike _ _ x true x.wv (moved_alike _ _ h f.1)))
  step_alike v u x (Storing ks) e f = telling _ _ _ _ (told_alike v u e f.1) (λ n. stored_alike _ _ x ks n (moved_alike v u e f.1))
  step_alike v u x (Homing []) e f = (e, refl)
  step_alike v u x (Homing (k ∷ ks)) e f = home_alike _ _ x ks (one_alike v u (GoHome a k) e refl)
  step_alike v u x Releasing e f = telling _ _ _ _ (told_alike v u e f.1) (λ n. released_alike _ _ x n (moved_alike v u e f.1))
  step_alike v u x Closing e f = quietly _ _ _ _ _ refl (recorded_alike _ _ x false x.rv (moved_alike v u e f.1))
  step_alike v u x (Returning []) e f = (e, refl)
  step_alike v u x (Returning (k ∷ ks)) e f = gives_up_alike _ _ x ks (one_alike v u (PutGate a k (λ l. false)) e f)
  step_alike v u x Cancelling e f = telling _ _ _ _ (told_alike v u e f.1) (λ n. cancelled_alike _ _ x n (moved_alike v u e f.1))
  step_alike v u x Leaving e f = ended_alike _ _ x (moved_alike v u e f.1)

  starve_alike : (v u : World V) (x : Seat V) (p : Stage V) → Alike a v u → SameAfter a (starve_at v a x p) (starve_at u a x p)
  starve_alike v u x Beginning e = quietly _ _ _ _ _ refl (asks_alike v u word.AskAbort e)
  starve_alike v u x (Reading l) e = gives_up_alike v u (because x refusal.Memory) [] e
  starve_alike v u x (Trying q tries) e = gives_up_alike v u (because x refusal.Memory) [] e
  starve_alike v u x (Copying q) e = gives_up_alike v u (because x refusal.Memory) (q.collection ∷ []) e
  starve_alike v u x (Loading o ls) e = gives_up_alike v u (because x refusal.Memory) [] e
  starve_alike v u x Locking e = gives_up_alike v u (because x refusal.Memory) [] e
  starve_alike v u x (Gating got ks tries) e = gives_up_alike v u (because x refusal.Memory) got e
  starve_alike v u x (Ready ks) e = gives_up_alike v u (because x refusal.Memory) ks e
  starve_alike v u x Closing e = gives_up_alike v u (because x refusal.Memory) [] e
  starve_alike v u x p e = (e, refl)

pub own_event : {V : Type 0} → (a : ℕ) (v u : World V) (event : Event V) → Alike a v u → Finds a v u event → SameAfter a (happens v event)
    (happens u event)
own_event a v u (Ask b q) e f =
    subst (λ (z : ℕ). SameAfter a (happens v (Ask z q)) (happens u (Ask z q))) (sym f)
    (subst (λ (x : Seat _). SameAfter a (ask_at v a (v.seats a) (v.seats a).stage q) (ask_at u a x x.stage q)) e.seat
    (ask_alike a v u (v.seats a) (v.seats a).stage q e))
own_event a v u (Step b) e f =
    subst (λ (z : ℕ). SameAfter a (happens v (Step z)) (happens u (Step z))) (sym f.0)
    (subst (λ (x : Seat _). SameAfter a (step_at v a (v.seats a) (v.seats a).stage) (step_at u a x x.stage)) e.seat
    (step_alike a v u (v.seats a) (v.seats a).stage e f.1))
own_event a v u (Starve b) e f =
    subst (λ (z : ℕ). SameAfter a (happens v (Starve z)) (happens u (Starve z))) (sym f)
    (subst (λ (x : Seat _). SameAfter a (starve_at v a (v.seats a) (v.seats a).stage) (starve_at u a x x.stage)) e.seat
    (starve_alike a v u (v.seats a) (v.seats a).stage e))

-- When a request is refused as it is asked, and when it begins to abort its transaction. What is asked while another request is under way,
-- or begins where a transaction is open, is NotIdle; a call of what is not there is NoSuch, and only then one past the limit TooLong. A
-- call that has copied what it touches finds in the read set the edition that was copied, so it is never stale as it is asked; so only an
-- Abort aborts a transaction at once.
use Rattle.std.proofs.Common.{◌≡◌, ◌≢◌, ℕ, ◌≤◌, Bool, true, false, cond, ◌&&◌, List, [], ◌∷◌, length, Option, Some, None, ◌⊎◌, inl, inr}
use Rattle.std.proofs.Common.{refl, sym, ◌∙◌, ap, subst, true≢false, eqb, eq-eqb, arith}
use Rattle.std.specs.Prelude.{nat_lt}
use Rattle.std.proofs.lemmas.Bool.{cond-true, cond-false}
use Rattle.std.proofs.lemmas.Bool.Decides.{nat_tests}
use Rattle.tx_sets.specs.Entries.{Entries, lookup}
use Rattle.tx_machine.specs.Requests as word
use Rattle.tx_machine.specs.Notices as told
use Rattle.tx_machine.proofs.Sets.{put-same}
use Rattle.seq_model.specs.declared.call.Op.{Op}
use Rattle.seq_model.specs.declared.call.Op.TheVariants.{Read, Write}
use Rattle.seq_model.specs.declared.call.Reply.TheVariants as reply
use Rattle.seq_model.specs.declared.refusal.Refusal.TheVariants as refusal
use Rattle.seq_model.specs.declared.event.Event.TheVariants.{Ask}
use Rattle.seq_model.specs.declared.event.Request.{Request}
use Rattle.seq_model.specs.declared.event.Request.TheVariants as request
use Rattle.seq_model.specs.declared.event.Notice.TheVariants.{Refused}
use Rattle.seq_model.specs.declared.limits.TheConstants.{CALL_LIMIT}
use Rattle.seq_model.proofs.LogicLemmas.{le-nat_lt}
use Rattle.tx_machine.specs.Content.{IsIn}
use Rattle.tx_machine.specs.Boosted.{Accept}
use Rattle.replay_log.specs.Contents.{CollectionCall, CallWithOutcome, content}
use Rattle.replay_log.specs.Pieces.{piece_at}
use Rattle.replay_log.specs.Guards.{IsAtRest}
use Rattle.replay_log.specs.Worlds.{World, Seat, Stage, Idle, Beginning, Open, Locking, Closing, Reading, Trying, Loading, After, has_room}
use Rattle.replay_log.specs.Worlds.{with_editions, at_stage, because, seated, acted, asks, actor_of, gives_up, with_call, reads, outcome_at}
use Rattle.replay_log.specs.Worlds.{reply_of, call_of, judges, loads, calls_on, if_allowed, ask_op, commits, ask_at, happens, more_tries}
use Rattle.replay_log.specs.WorldRefusals.{is_ending}
use Rattle.replay_log.specs.WorldAnswers.{is_there}
use Rattle.replay_log.proofs.ContentLemmas.{content_frame}
use Rattle.replay_log.proofs.ReadLemmas.{in_set}
use Rattle.replay_log.proofs.SeatLemmas.{StageOk, Live, Linked}

in_set_some : (b : Bool) (o : Option ℕ) (v : ℕ) → in_set b o ≡ Some v → o ≡ Some v
in_set_some true o v e = absurd (let b : ⊥ = cc in b)
in_set_some false o v e = e

module _ {V : Type 0} where
  -- ---- refused at once
  ask_under_way : (w : World V) (a : ℕ) (x : Seat V) (st : Stage V) (q : Request V) → (IsAtRest st → ⊥)
      → ask_at w a x st q ≡ (w, Refused a refusal.NotIdle)
  ask_under_way w a x Idle q h = absurd (h tt)
  ask_under_way w a x Open q h = absurd (h tt)
  ask_under_way w a x st q h = refl

  pub under_way : (w : World V) (a : ℕ) (q : Request V) → (IsAtRest (w.seats a).stage → ⊥)
      → happens w (Ask a q) ≡ (w, Refused a refusal.NotIdle)
  under_way w a q h = ask_under_way w a (w.seats a) (w.seats a).stage q h

  pub asked_at : (w : World V) (a : ℕ) (q : Request V) (st : Stage V) → (w.seats a).stage ≡ st → happens w (Ask a q)
      ≡ ask_at w a (w.seats a) st q
  asked_at w a q st at = ap (λ (s : Stage V). ask_at w a (w.seats a) s q) at

  pub while_open : (w : World V) (a : ℕ) → (w.seats a).stage ≡ Open
      → (happens w (Ask a request.Begin) ≡ (w, Refused a refusal.NotIdle))
      × (happens w (Ask a request.BeginRead) ≡ (w, Refused a refusal.NotIdle))
  while_open w a at = (asked_at w a request.Begin Open at, asked_at w a request.BeginRead Open at)

  idle_refuses : (w : World V) (a : ℕ) (x : Seat V) (q : Request V) → q ≢ request.Begin → q ≢ request.BeginRead
      → ask_at w a x Idle q ≡ (w, Refused a refusal.NoTransaction)
  idle_refuses w a x request.Begin h g = absurd (h refl)
  idle_refuses w a x request.BeginRead h g = absurd (g refl)
  idle_refuses w a x q h g = refl

  pub while_idle : (w : World V) (a : ℕ) (q : Request V) → (w.seats a).stage ≡ Idle → q ≢ request.Begin → q ≢ request.BeginRead
      → happens w (Ask a q) ≡ (w, Refused a refusal.NoTransaction)
  while_idle w a q at h g = asked_at w a q Idle at ∙ idle_refuses w a (w.seats a) q h g

  no_such_op : (w : World V) (a : ℕ) (x : Seat V) (t : ℕ) (op : Op V) → is_there w a t op ≡ false
      → ask_op w a x t op ≡ (w, Refused a refusal.NoSuch)
  no_such_op w a x t Read h = cond-false (is_there w a t Read) _ _ h
  no_such_op w a x t (Write v) h = cond-false (is_there w a t (Write v)) _ _ h
  no_such_op w a x t op h = cond-false (is_there w a t op) _ _ h

  too_long_if : (w : World V) (a : ℕ) (x : Seat V) (known room : Bool) (next : After V) → known ≡ true → CALL_LIMIT ≤ length x.calls
      → if_allowed w a x known room next ≡ (w, Refused a refusal.TooLong)
  too_long_if w a x known room next h long =
      cond-true known _ _ h
      ∙ cond-false (nat_lt (length x.calls) CALL_LIMIT && room) next _ (ap (λ b. b && room) (le-nat_lt (length x.calls) CALL_LIMIT long))

  too_long_op : (w : World V) (a : ℕ) (x : Seat V) (t : ℕ) (op : Op V) → is_there w a t op ≡ true → CALL_LIMIT ≤ length x.calls
      → ask_op w a x t op ≡ (w, Refused a refusal.TooLong)
  too_long_op w a x t Read h long = too_long_if w a x _ _ _ h long
  too_long_op w a x t (Write v) h long = too_long_if w a x _ _ _ h long
  too_long_op w a x t op h long = too_long_if w a x _ _ _ h long

  pub no_such : (w : World V) (a t : ℕ) (op : Op V) → (w.seats a).stage ≡ Open → is_there w a t op ≡ false
      → happens w (Ask a (request.Call (record { target = t; op = op }))) ≡ (w, Refused a refusal.NoSuch)
  no_such w a t op at h = asked_at w a _ Open at ∙ no_such_op w a (w.seats a) t op h

  pub too_long : (w : World V) (a t : ℕ) (op : Op V) → (w.seats a).stage ≡ Open → is_there w a t op ≡ true → CALL_LIMIT ≤ length
      (w.seats a).calls
      → happens w (Ask a (request.Call (record { target = t; op = op }))) ≡ (w, Refused a refusal.TooLong)
  too_long w a t op at h long = asked_at w a _ Open at ∙ too_long_op w a (w.seats a) t op h long

  -- ---- aborted at once
  abbrev GoesOn : ℕ → After V → Type 0
  GoesOn a r = is_ending (r.0.seats a).stage ≡ false

  sits_on : (u : World V) (a : ℕ) (x : Seat V) → is_ending x.stage ≡ false → is_ending ((seated u a x).seats a).stage ≡ false
  sits_on u a x h = ap (λ (s : Seat V). is_ending s.stage) (put-same u.seats a x) ∙ h

  choose_on : (a : ℕ) (b : Bool) (r s : After V) → GoesOn a r → GoesOn a s → GoesOn a (cond b r s)
  choose_on a true r s h g = h
  choose_on a false r s h g = g

  -- what the read set has of a location was copied with that edition
  abbrev HasCopied : World V → ℕ → Type 0
  HasCopied w a =
      (l v : ℕ) → (content {V = V} w.words w.blocks).plain l ≡ false → lookup (actor_of w a).reads l ≡ Some v
      → (w.boosted.shadows a).editions l ≡ v

  has_copied : (w : World V) (a : ℕ) (x : Seat V) → Live w.words w.blocks x (actor_of w a) (w.boosted.shadows a) → HasCopied w a
  has_copied w a x live l v pl e = (live.sound l v pl (in_set_some (actor_of w a).declared _ v (sym (live.kept l pl) ∙ e))).1

  judges_on : (w : World V) (a : ℕ) (x : Seat V) (o : CallWithOutcome V) (l e : ℕ) (es : Entries) (next : After V) (r : Option ℕ)
      → ((v : ℕ) → r ≡ Some v → e ≡ v) → GoesOn a next
      → GoesOn a (judges w a x o (l, e) es next r)
  judges_on w a x o l e es next None h g = sits_on (acted w (asks a (word.AskRead l) ∷ [])) a (at_stage x (Loading o ((l, e) ∷ es))) refl
  judges_on w a x o l e es next (Some v) h g =
      subst (λ (r : After V). GoesOn a r)
      (sym (cond-true (eqb e v) next (gives_up w a (because x (refusal.Stale l e v)) []) (eq-eqb e v (h v refl)))) g

  loads_on : (ls : List ℕ) (w : World V) (a : ℕ) (x : Seat V) (o : CallWithOutcome V) → HasCopied w a
      → ((l : ℕ) → IsIn l ls → (content {V = V} w.words w.blocks).plain l ≡ false)
      → GoesOn a (loads w a x o (with_editions (w.boosted.shadows a).editions ls))
  loads_on [] w a x o h g = sits_on (acted w (Accept a o.asked ∷ [])) a (with_call x (call_of o) (reply_of o)) refl
  loads_on (l ∷ ls) w a x o h g =
      let f = (w.boosted.shadows a).editions in
      judges_on w a x o l (f l) (with_editions f ls) (loads w a x o (with_editions f ls)) (lookup (actor_of w a).reads l)
      (λ v e. h l v (g l (inl refl)) e) (loads_on ls w a x o h (λ i m. g i (inr m)))

  calls_on_on : (w : World V) (a : ℕ) (x : Seat V) (asked : CollectionCall V) → Linked w → HasCopied w a → GoesOn a (calls_on w a x asked)
  calls_on_on w a x asked k h =
      let c = content w.words w.blocks in
      let o = outcome_at w a asked in
      choose_on a (x.copied asked.collection (piece_at w.blocks asked)) _ _
      (choose_on a (has_room (actor_of w a) (c.reads o) (c.writes o))
      (loads w a x o (with_editions (w.boosted.shadows a).editions (c.reads o))) _
      (loads_on (c.reads o) w a x o h (λ l m. (content_frame w.words w.blocks k.base.stripes).no_word o l m))
      (sits_on w a (at_stage x Open) refl))
      (sits_on w a (at_stage x (Trying asked more_tries)) refl)

  allowed_on : (w : World V) (a : ℕ) (x : Seat V) (known room : Bool) (next : After V) → is_ending (w.seats a).stage ≡ false → GoesOn a next
      → GoesOn a (if_allowed w a x known room next)
  allowed_on w a x known room next same h =
      choose_on a known _ _ (choose_on a (nat_lt (length x.calls) CALL_LIMIT && room) next _ h same) same

  reads_on : (w : World V) (a : ℕ) (x : Seat V) (l : ℕ) (n : told.Notice) → GoesOn a (reads w a x l n)
  reads_on w a x l (told.Number v) =
      sits_on (acted w (asks a (word.AskRead l) ∷ [])) a (with_call x (record { target = l; op = Read }) (reply.Number v)) refl
  reads_on w a x l n = sits_on (acted w (asks a (word.AskRead l) ∷ [])) a (at_stage x (Reading l)) refl

  op_on : (w : World V) (a : ℕ) (x : Seat V) (t : ℕ) (op : Op V) → Linked w → HasCopied w a → is_ending (w.seats a).stage ≡ false
      → GoesOn a (ask_op w a x t op)
  op_on w a x t Read k h same = allowed_on w a x _ _ _ same (reads_on w a x t _)
  op_on w a x t (Write v) k h same =
      allowed_on w a x _ _ _ same
      (sits_on (acted w (asks a (word.AskWrite t v) ∷ [])) a (with_call x (record { target = t; op = Write v }) reply.Done) refl)
  op_on w a x t op k h same = allowed_on w a x _ _ _ same (calls_on_on w a x (record { collection = t; op = op }) k h)

  commits_on : (w : World V) (a : ℕ) (x : Seat V) (es : Entries) → GoesOn a (commits w a x es)
  commits_on w a x [] = sits_on (acted w (asks a word.AskClose ∷ [])) a (at_stage x Closing) refl
  commits_on w a x (e ∷ es) = sits_on (acted w (asks a word.AskLock ∷ [])) a (at_stage x Locking) refl

  abbrev AbortsIf : ℕ → Request V → After V → Type 0
  AbortsIf a q r = (q ≡ request.Abort) ⊎ GoesOn a r

  ask_aborts : (w : World V) (a : ℕ) (x : Seat V) (st : Stage V) (q : Request V) → Linked w
      → StageOk w.words w.blocks x (actor_of w a) (w.boosted.shadows a) st (actor_of w a).place
      → is_ending (w.seats a).stage ≡ false
      → AbortsIf a q (ask_at w a x st q)
  ask_aborts w a x Idle request.Begin k h same = inr (sits_on (acted w (asks a word.AskBegin ∷ [])) a (at_stage x Beginning) refl)
  ask_aborts w a x Idle request.BeginRead k h same = inr (sits_on (acted w (asks a word.AskBeginRead ∷ [])) a (at_stage x Beginning) refl)
  ask_aborts w a x Idle q k h same = inr same
  ask_aborts w a x Open request.Begin k h same = inr same
  ask_aborts w a x Open request.BeginRead k h same = inr same
  ask_aborts w a x Open (request.Call call) k h same = inr (op_on w a x call.target call.op k (has_copied w a x h.1) same)
  ask_aborts w a x Open request.Commit k h same = inr (commits_on w a x (actor_of w a).writes)
  ask_aborts w a x Open request.Abort k h same = inl refl
  ask_aborts w a x st q k h same = inr same

  pub only_abort : (w : World V) (a : ℕ) (q : Request V) → Linked w → is_ending (w.seats a).stage ≡ false
      → is_ending ((happens w (Ask a q)).0.seats a).stage ≡ true
      → q ≡ request.Abort
  only_abort w a q k going ends = elim (ask_aborts w a (w.seats a) (w.seats a).stage q k (k.seats a).stage going) [
    | inl is ↦ is
    | inr on ↦ absurd (true≢false (sym ends ∙ on))
  ]

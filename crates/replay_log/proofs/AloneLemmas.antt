-- A transaction beside which no other steps, at whose begin no lock and no gate is held, is refused for no conflict.
--
-- Through its own actions every lock and gate remains free or its own, and what it has copied has the edition of the base (`AloneActions`).
-- So the word machine answers it no conflict; each gate that it tries is free; and what its read set or a load has of a collection's
-- location is the base's edition, since no commit is half done (`now_edition`). What a call still has to judge was copied with that edition
-- too (`AllNow`). `Fine` says so of what each function of the definition leaves, with the causes (P) for which the transaction may be
-- aborted: a failed allocation alone, or none.
use Rattle.std.proofs.Common.{◌≡◌, ℕ, zero, suc, ◌≤◌, Bool, true, false, cond, ◌&&◌, List, [], ◌∷◌, ◌++◌, length, Option, Some, None, inl}
use Rattle.std.proofs.Common.{inr, refl, sym, ◌∙◌, ap, subst, true≢false, arith, eqb, eq-eqb}
use Rattle.std.specs.Prelude.{nat_lt, nat_le}
use Rattle.std.proofs.lemmas.Bool.{cases_eq, cond_both, cond-true, and_parts}
use Rattle.std.proofs.lemmas.Option.{none-some}
use Rattle.vlock_word.specs.declared.lock_word.LockWord.{LockWord}
use Rattle.vlock_word.specs.declared.lock_word.LockWord.TheVariants.{Free, Locked}
use Rattle.vlock_word.specs.LockWord.{version_of, bits}
use Rattle.tx_sets.specs.Entries.{Entries, lookup}
use Rattle.tx_machine.specs.Actor as machine
use Rattle.tx_machine.specs.Actor.{Place, Actor}
use Rattle.tx_machine.specs.Requests as word
use Rattle.tx_machine.specs.World.{World as Words, plan}
use Rattle.tx_machine.specs.Notices as told
use Rattle.tx_machine.specs.Notices.{notice}
use Rattle.tx_machine.specs.Opacity.{IsHalfDone}
use Rattle.tx_machine.specs.Progress as progress
use Rattle.tx_machine.proofs.Sets.{put-same, lookup-head}
use Rattle.tx_machine.proofs.Records.{finals, stamp, settled_all}
use Rattle.tx_machine.proofs.Invariant.{PlaceOk, IsSomeEntry, Good, latest}
use Rattle.tx_machine.proofs.Invariant as words
use Rattle.tx_machine.proofs.Alone.{AlonePlace, AloneOk, AloneAt, Low, step_alone}
use Rattle.seq_model.specs.declared.call.Op.{Op}
use Rattle.seq_model.specs.declared.call.Op.TheVariants.{Read, Write}
use Rattle.seq_model.specs.declared.call.Reply.TheVariants as reply
use Rattle.seq_model.specs.declared.held.Held.{Held}
use Rattle.seq_model.specs.declared.refusal.Refusal.{Refusal}
use Rattle.seq_model.specs.declared.refusal.Refusal.TheVariants as refusal
use Rattle.seq_model.specs.declared.event.Event.{Event}
use Rattle.seq_model.specs.declared.event.Event.TheVariants.{Ask, Step, Starve}
use Rattle.seq_model.specs.declared.event.Request.{Request}
use Rattle.seq_model.specs.declared.event.Request.TheVariants as request
use Rattle.seq_model.specs.declared.event.Notice.{Notice}
use Rattle.seq_model.specs.declared.event.Notice.TheVariants.{Refused}
use Rattle.seq_model.specs.declared.limits.TheConstants.{CALL_LIMIT}
use Rattle.tx_machine.specs.Content.{Content, IsIn, has}
use Rattle.tx_machine.specs.Boosted.{Boosted, Shadow, Action, TakeGate, PutGate, GoHome, Accept, is_none, is_actor, changes, acts}
use Rattle.tx_machine.specs.Boosted.{act_all}
use Rattle.tx_machine.proofs.BoostedInvariant.{Inv}
use Rattle.tx_machine.proofs.BoostedSchedules.{acts_led}
use Rattle.replay_log.specs.Base.{Shown}
use Rattle.replay_log.specs.Contents.{Block, CollectionCall, CallWithOutcome, HaveStripes, is_plain, block_of, first_of, content}
use Rattle.replay_log.specs.Pieces.{piece_at, covers_at}
use Rattle.replay_log.specs.Worlds.{World, Seat, Stage, Idle, Beginning, Open, Locking, Releasing, Closing, Cancelling, Leaving, Reading}
use Rattle.replay_log.specs.Worlds.{Trying, Copying, Loading, Gating, Ready, Storing, Homing, Returning, After, has_room, with_editions}
use Rattle.replay_log.specs.Worlds.{at_stage, because, seated, acted, asks, moves, actor_of, word_notice, no_one, is_leaving, cancels}
use Rattle.replay_log.specs.Worlds.{gives_up, with_call, reads, outcome_at, is_fresh, judges, loads, answers, calls_on, call_of, reply_of}
use Rattle.replay_log.specs.Worlds.{is_known, may_ask, if_allowed, ask_op, commits, ask_at, recorded, why, has_begun, has_read, has_tried}
use Rattle.replay_log.specs.Worlds.{with_piece, sized_by, has_loaded, written_homes, takes_gates, has_locked, goes_home, has_stored}
use Rattle.replay_log.specs.Worlds.{has_released, has_cancelled, step_at, starve_at, more_tries, happens, run, opened}
use Rattle.replay_log.specs.WorldAlone.{IsConflict, IsAlone, IsFree, TellsConflict, IsUnstarved, TellsMemory}
use Rattle.replay_log.specs.WorldProgress.{whose}
use Rattle.replay_log.proofs.ContentLemmas.{content_frame}
use Rattle.replay_log.proofs.ActionLemmas.{mine, learns}
use Rattle.replay_log.proofs.RequestLemmas.{AllOf, happens_by}
use Rattle.replay_log.proofs.MixedLemmas.{is_word_op}
use Rattle.replay_log.proofs.PlaceLemmas.{AfterRead, read_after, reading_quiet}
use Rattle.replay_log.proofs.SeatLemmas.{Copy, AtReading, KnownAsk, Left, Live, gates_of, StageOk, Linked, at_of}
use Rattle.replay_log.proofs.StageLemmas.{at_move}
use Rattle.replay_log.proofs.CallLemmas.{known_some, reads_ok}
use Rattle.replay_log.proofs.EventLemmas.{happens_linked, run_linked, opened_linked}
use Rattle.replay_log.proofs.RefusalLemmas.{not_got}
use Rattle.replay_log.proofs.SetLemmas.{put_words}
use Rattle.replay_log.specs.WorldStill.{Still}
use Rattle.replay_log.proofs.StillLemmas.{ask_at_still, starve_still}
use Rattle.replay_log.proofs.AloneActions.{MakesCalls, OnlyOf, AloneIn, step_editions, act_alone}

-- ---- words
low_at : (locks : ℕ → LockWord) (y : Actor) (p : Place) → MakesCalls p → AlonePlace locks y p → Low locks y
low_at locks y machine.Open m h = h.0
low_at locks y (machine.Look l) m h = h.0
low_at locks y (machine.Fetch l k) m h = h.0
low_at locks y (machine.Again l k v) m h = h.0
low_at locks y p m h = absurd m

no_half : (p : Place) → MakesCalls p → IsHalfDone p → ⊥
no_half machine.Open m h = h
no_half (machine.Look l) m h = h
no_half (machine.Fetch l k) m h = h
no_half (machine.Again l k v) m h = h
no_half p m h = m

half_holds : (s : Words) (y : Actor) (p : Place) → IsHalfDone p → PlaceOk s y p → IsSomeEntry y.held
half_holds s y (machine.Store ls) h ok = ok.0.some
half_holds s y machine.Release h ok = ok.some
half_holds s y p h ok = absurd h

first_held : (es : Entries) → IsSomeEntry es → (l k : ℕ) × (lookup es l ≡ Some k)
first_held [] h = absurd h
first_held (e ∷ es) h = (e.0, e.1, lookup-head e es)

locked_taken : (w : LockWord) (k : ℕ) → w ≡ Locked k → progress.IsFree w → ⊥
locked_taken w k e f = subst progress.IsFree e f

-- a half-done commit would hold a lock
none_half : (s : Words) (a : ℕ) → words.Inv s → AloneAt s a → MakesCalls (s.actors a).place → (b : ℕ) → IsHalfDone (s.actors b).place → ⊥
none_half s a v h m b half =
    let y = s.actors b in
    let e = first_held y.held (half_holds s y y.place half (v.actors b).place) in
    let locked = (v.actors b).held e.0 e.1 e.2 in
    elim (h.free e.0) [
      | inl free ↦ locked_taken (s.locks e.0) e.1 locked free
      | inr mine ↦ (
          let same : b ≡ a = v.apart b a e.0 e.1 mine.0 e.2 mine.1 in
          no_half (s.actors a).place m (subst (λ i. IsHalfDone (s.actors i).place) same half)
          )
    ]

-- what the last load of a read answers is what the location holds
abbrev NumberIs : ℕ → told.Notice → Type 0
NumberIs m (told.Number v) = m ≡ v
NumberIs m n = Unit {0}

look_number : (m rv l : ℕ) (w : LockWord) → NumberIs m (told.look_notice rv l w)
look_number m rv l (Free k) = cond_both (nat_le k rv) told.Quiet (told.Moved l (bits (Free k))) (NumberIs m) (λ _. tt) (λ _. tt)
look_number m rv l (Locked k) = tt

again_number : (m l k v : ℕ) (w : LockWord) → m ≡ v → NumberIs m (told.again_notice l k v w)
again_number m l k v (Free j) e = cond_both (eqb j k) (told.Number v) (told.Moved l (bits (Free j))) (NumberIs m) (λ _. e) (λ _. tt)
again_number m l k v (Locked j) e = tt

number_is : (s : Words) (y : Actor) (l : ℕ) (p : Place) → AtReading l p → AlonePlace s.locks y p → PlaceOk s y p
    → stamp s.history l ≤ version_of (s.locks l)
    → NumberIs (latest s l) (notice s y p)
number_is s y l (machine.Look k) at h ok low = look_number (latest s l) y.rv k (s.locks k)
number_is s y l (machine.Fetch k j) at h ok low = tt
number_is s y l (machine.Again k j v) at h ok low =
    let version : version_of (s.locks l) ≡ j = ap (λ i. version_of (s.locks i)) (sym at) ∙ ap version_of h.2 in
    let below : stamp s.history k ≤ j = subst (λ i. stamp s.history i ≤ j) (sym at) (subst (λ i. stamp s.history l ≤ i) version low) in
    again_number (latest s l) k j v (s.locks k) (ap (latest s) (sym at) ∙ ok.3 below)
number_is s y l p at h ok low = absurd at

reading_calls : (l : ℕ) (p : Place) → AtReading l p → MakesCalls p
reading_calls l (machine.Look k) h = tt
reading_calls l (machine.Fetch k j) h = tt
reading_calls l (machine.Again k j v) h = tt
reading_calls l p h = absurd h

-- ---- editions
module _ {X Op Out : Type 0} (c : Content X Op Out) (s : Boosted X Out) (a l : ℕ) (v : Inv c s) (h : AloneIn s a)
    (m : MakesCalls (s.words.actors a).place)
    (pl : c.plain l ≡ false) where
  none : (b : ℕ) → IsHalfDone (s.words.actors b).place → ⊥
  none = none_half s.words a v.machine h.words m

  stamped : stamp s.words.history l ≤ version_of (s.words.locks l)
  stamped = v.machine.behind l (λ b half. absurd (none b half))

  latest_now : latest s.words l ≡ s.editions l
  latest_now =
      ap (λ (f : ℕ → ℕ). finals s.words.history l (f l)) v.first ∙ ap (λ hs. finals hs l (s.first l)) (sym v.same)
      ∙ (v.at_home l pl (λ b half gate. absurd (none b half))).1

  -- what is good at the number at which the transaction began is the edition of the base
  now_edition : (i : ℕ) → Good s.words (s.words.actors a).rv l i → s.editions l ≡ i
  now_edition i g =
      let low = low_at s.words.locks (s.words.actors a) (s.words.actors a).place m h.words.place l in
      let past : stamp s.words.history l ≤ (s.words.actors a).rv = (let q = stamped in omega (arith, q, low)) in
      sym latest_now ∙ sym (settled_all s.words.history (s.words.actors a).rv l (s.words.opening l) past) ∙ g.value

-- ---- what a function of the definition leaves
abbrev AllNow : (ℕ → ℕ) → Entries → Type 0
AllNow editions [] = Unit {0}
AllNow editions (d ∷ es) = (editions d.0 ≡ d.1) × AllNow editions es

abbrev ArePlain : ℕ → List Block → Entries → Type 0
ArePlain n bs [] = Unit {0}
ArePlain n bs (d ∷ es) = (is_plain n bs d.0 ≡ false) × ArePlain n bs es

-- a refusal that ends a transaction
abbrev Ends : Refusal → Type 0
Ends (refusal.Moved l w) = Unit {0}
Ends (refusal.Busy l w) = Unit {0}
Ends (refusal.Stale l b w) = Unit {0}
Ends (refusal.GateBusy k) = Unit {0}
Ends (refusal.Invalid l w) = Unit {0}
Ends refusal.Memory = Unit {0}
Ends r = ⊥

with_now : (now editions : ℕ → ℕ) (ls : List ℕ) → ((l : ℕ) → IsIn l ls → now l ≡ editions l) → AllNow now (with_editions editions ls)
with_now now editions [] h = tt
with_now now editions (l ∷ ls) h = (h l (inl refl), with_now now editions ls (λ i m. h i (inr m)))

with_plain : (n : ℕ) (bs : List Block) (editions : ℕ → ℕ) (ls : List ℕ) → ((l : ℕ) → IsIn l ls → is_plain n bs l ≡ false)
    → ArePlain n bs (with_editions editions ls)
with_plain n bs editions [] h = tt
with_plain n bs editions (l ∷ ls) h = (h l (inl refl), with_plain n bs editions ls (λ i m. h i (inr m)))

left_plain : {V : Type 0} → (n : ℕ) (bs : List Block) (y : Actor) (z : Copy V) (es : Entries) → Left n bs y z es → ArePlain n bs es
left_plain n bs y z [] h = tt
left_plain n bs y z (d ∷ es) h = (h.0, left_plain n bs y z es h.3)

abbrev Allowed : (Refusal → Type 0) → Option Refusal → Type 0
Allowed P None = Unit {0}
Allowed P (Some r) = P r

module _ {V : Type 0} (P : Refusal → Type 0) (a : ℕ) where
  abbrev FineStage : (ℕ → ℕ) → Option Refusal → Stage V → Type 0
  FineStage editions cause (Loading o es) = AllNow editions es
  FineStage editions cause Cancelling = Allowed P cause
  FineStage editions cause Leaving = Allowed P cause
  FineStage editions cause (Returning ks) = Allowed P cause
  FineStage editions cause st = Unit {0}

  abbrev FineSeat : (ℕ → ℕ) → Seat V → Type 0
  FineSeat editions x = FineStage editions x.cause x.stage

  abbrev FineNotice : Notice V → Type 0
  FineNotice (Refused b r) = Ends r → P r
  FineNotice n = Unit {0}

  abbrev FineAt : World V → Type 0
  FineAt u = FineSeat u.boosted.editions (u.seats a)

  abbrev Fine : After V → Type 0
  Fine r = FineAt r.0 × FineNotice r.1

  seated_fine : (u : World V) (x : Seat V) → FineSeat u.boosted.editions x → FineAt (seated u a x)
  seated_fine u x h = subst (FineSeat u.boosted.editions) (sym (put-same u.seats a x)) h

  same_fine : (u : World V) (x : Seat V) (st : Stage V) → u.seats a ≡ x → x.stage ≡ st → FineStage u.boosted.editions x.cause st → FineAt u
  same_fine u x st seat at h = subst (FineSeat u.boosted.editions) (sym seat) (subst (FineStage u.boosted.editions x.cause) (sym at) h)

  choose_fine : (b : Bool) (r s : After V) → (b ≡ true → Fine r) → (b ≡ false → Fine s) → Fine (cond b r s)
  choose_fine true r s h g = h refl
  choose_fine false r s h g = g refl

  cancels_fine : (u : World V) (x : Seat V) → Allowed P x.cause → FineAt (cancels u a x)
  cancels_fine u x h =
      let v = acted u (asks a word.AskCancel ∷ asks a word.AskAbort ∷ []) in
      elim (is_leaving (actor_of v a).place) as (λ b. FineAt (seated v a (at_stage x (cond b Leaving Cancelling)))) [
        | true ↦ seated_fine v (at_stage x Leaving) h
        | false ↦ seated_fine v (at_stage x Cancelling) h
      ]

  gives_up_fine : (u : World V) (x : Seat V) (ks : List ℕ) → Allowed P x.cause → Fine (gives_up u a x ks)
  gives_up_fine u x [] h = (cancels_fine u x h, tt)
  gives_up_fine u x (k ∷ ks) h = (seated_fine u (at_stage x (Returning (k ∷ ks))) h, tt)

  -- ---- calls on collections
  abbrev SetsNow : World V → Type 0
  SetsNow u = (l v : ℕ) → is_plain u.words u.blocks l ≡ false → lookup (actor_of u a).reads l ≡ Some v → u.boosted.editions l ≡ v

  sets_now : (u : World V) → Inv (content u.words u.blocks) u.boosted → AloneIn u.boosted a → MakesCalls (actor_of u a).place → SetsNow u
  sets_now u v h m l i pl e = now_edition (content u.words u.blocks) u.boosted a l v h m pl i ((v.machine.actors a).reads l i e)

  fresh_fine : (u : World V) (x : Seat V) (d : ℕ × ℕ) (v : ℕ) (next : After V) → d.1 ≡ v → Fine next → Fine (is_fresh u a x d v next)
  fresh_fine u x d v next e h = subst Fine (sym (cond-true (eqb d.1 v) next _ (eq-eqb d.1 v e))) h

  judges_fine : (u : World V) (x : Seat V) (o : CallWithOutcome V) (d : ℕ × ℕ) (es : Entries) (next : After V) (r : Option ℕ)
      → AllNow u.boosted.editions (d ∷ es)
      → ((v : ℕ) → r ≡ Some v → d.1 ≡ v) → Fine next → Fine (judges u a x o d es next r)
  judges_fine u x o d es next None now e h = (
    seated_fine (acted u (asks a (word.AskRead d.0) ∷ []))
        (at_stage x (Loading o (d ∷ es))) now,
    tt,
  )
  judges_fine u x o d es next (Some v) now e h = fresh_fine u x d v next (e v refl) h

  loads_fine : (es : Entries) (u : World V) (x : Seat V) (o : CallWithOutcome V) → AllNow u.boosted.editions es
      → ArePlain u.words u.blocks es
      → SetsNow u
      → Fine (loads u a x o es)
  loads_fine [] u x o now pl sets = (seated_fine (acted u (Accept a o.asked ∷ [])) (with_call x (call_of o) (reply_of o)) tt, tt)
  loads_fine (d ∷ es) u x o now pl sets =
      judges_fine u x o d es (loads u a x o es) (lookup (actor_of u a).reads d.0) now (λ v e. sym now.0 ∙ sets d.0 v pl.0 e)
      (loads_fine es u x o now.1 pl.1 sets)

  answers_fine : (u : World V) (before x : Seat V) (sized o : CallWithOutcome V) (editions : ℕ → ℕ)
      → AllNow u.boosted.editions (with_editions editions ((content u.words u.blocks).reads o))
      → ArePlain u.words u.blocks (with_editions editions ((content u.words u.blocks).reads o)) → SetsNow u
      → Fine (answers u a before x sized o editions)
  answers_fine u before x sized o editions now pl sets =
      let c = content u.words u.blocks in
      choose_fine (has_room (actor_of u a) (c.reads sized) (c.writes sized)) (loads u a x o (with_editions editions (c.reads o))) _
      (λ _. loads_fine (with_editions editions (c.reads o)) u x o now pl sets)
      (λ _. (seated_fine u (at_stage before Open) tt, λ h. absurd h))

  calls_on_fine : (u : World V) (x : Seat V) (asked : CollectionCall V) → Linked u → AloneIn u.boosted a
      → (actor_of u a).place ≡ machine.Open
      → Live u.words u.blocks x (actor_of u a) (u.boosted.shadows a) → KnownAsk u.blocks (actor_of u a) asked → Fine (calls_on u a x asked)
  calls_on_fine u x asked k h e live known =
      let c = content u.words u.blocks in
      let z = u.boosted.shadows a in
      let o = outcome_at u a asked in
      let m : MakesCalls (actor_of u a).place = subst MakesCalls (sym e) tt in
      choose_fine (x.copied asked.collection (piece_at u.blocks asked)) _ _
      (λ has_it. (
      let v = changes c z.outcomes z.parts in
      let r = known_some (block_of u.blocks asked.collection) (first_of u.words u.blocks asked.collection) v asked.op known.1 in
      answers_fine u x x o o z.editions
      (with_now u.boosted.editions z.editions (c.reads o) (λ l i. (
      let q = reads_ok u.words u.blocks v asked r.0 l k.base.stripes r.1 i in
      sym (h.copied m l (live.pieces asked.collection (piece_at u.blocks asked) has_it l q.plain q.home q.covered)))))
      (with_plain u.words u.blocks z.editions (c.reads o) (λ l i. (content_frame u.words u.blocks k.base.stripes).no_word o l i))
      (sets_now u k.base.inv h m)))
      (λ _. (seated_fine u (at_stage x (Trying asked more_tries)) tt, tt))

  has_loaded_fine : (u : World V) (x : Seat V) (y z : Actor) (o : CallWithOutcome V) (d : ℕ × ℕ) (es : Entries) (n : told.Notice)
      → u.boosted.words.actors a ≡ z
      → u.seats a ≡ x → x.stage ≡ Loading o (d ∷ es) → AllNow u.boosted.editions (d ∷ es) → ArePlain u.words u.blocks (d ∷ es)
      → Inv (content u.words u.blocks) u.boosted → AloneIn u.boosted a → AfterRead d.0 y z n → NumberIs (u.boosted.editions d.0) n
      → (told.IsConflict n → ⊥)
      → Fine (has_loaded u a x o d es n)
  has_loaded_fine u x y z o d es (told.Number v) e seat st now pl inv h after is good =
      fresh_fine u x d v (loads u a x o es) (sym now.0 ∙ is)
      (loads_fine es u x o now.1 pl.1 (sets_now u inv h (subst (λ (q : Actor). MakesCalls q.place) (sym (e ∙ after)) tt)))
  has_loaded_fine u x y z o d es (told.Moved i found) e seat st now pl inv h after is good = absurd (good tt)
  has_loaded_fine u x y z o d es n e seat st now pl inv h after is good = (same_fine u x (Loading o (d ∷ es)) seat st now, tt)

  -- ---- requests
  reads_fine : (u : World V) (x : Seat V) (l : ℕ) (n : told.Notice) → Fine (reads u a x l n)
  reads_fine u x l (told.Number v) =
      (seated_fine (acted u (asks a (word.AskRead l) ∷ [])) (with_call x (record { target = l; op = Read }) (reply.Number v)) tt, tt)
  reads_fine u x l n = (seated_fine (acted u (asks a (word.AskRead l) ∷ [])) (at_stage x (Reading l)) tt, tt)

  allowed_fine : (u : World V) (x : Seat V) (known room : Bool) (next : After V) → FineAt u → (known ≡ true → Fine next)
      → Fine (if_allowed u a x known room next)
  allowed_fine u x known room next now h =
      choose_fine known _ _ (λ is. choose_fine (nat_lt (length x.calls) CALL_LIMIT && room) next _ (λ _. h is) (λ _. (now, λ q. absurd q)))
      (λ _. (now, λ q. absurd q))

  held_op_fine : (u : World V) (x : Seat V) (t : ℕ) (op : Op V) → FineAt u → Linked u → AloneIn u.boosted a
      → (actor_of u a).place ≡ machine.Open
      → Live u.words u.blocks x (actor_of u a) (u.boosted.shadows a) → is_word_op op ≡ false
      → Fine (if_allowed u a x (is_known (block_of u.blocks t) op && may_ask (actor_of u a) op) true
      (calls_on u a x (record { collection = t; op = op })))
  held_op_fine u x t op now k h e live not_word =
      allowed_fine u x (is_known (block_of u.blocks t) op && may_ask (actor_of u a) op) true
      (calls_on u a x (record { collection = t; op = op })) now
      (λ both. (
      let b = and_parts (is_known (block_of u.blocks t) op) (may_ask (actor_of u a) op) both in
      calls_on_fine u x (record { collection = t; op = op }) k h e live (not_word, b.0, b.1)))

  op_fine : (u : World V) (x : Seat V) (t : ℕ) (op : Op V) → FineAt u → Linked u → AloneIn u.boosted a → (actor_of u a).place ≡ machine.Open
      → Live u.words u.blocks x (actor_of u a) (u.boosted.shadows a) → Fine (ask_op u a x t op)
  op_fine u x t Read now k h e live = allowed_fine u x _ _ _ now (λ _. reads_fine u x t _)
  op_fine u x t (Write v) now k h e live =
      allowed_fine u x _ _ _ now
      (λ _. (seated_fine (acted u (asks a (word.AskWrite t v) ∷ [])) (with_call x (record { target = t; op = Write v }) reply.Done) tt, tt))
  op_fine u x t op now k h e live = held_op_fine u x t op now k h e live refl

  commits_fine : (u : World V) (x : Seat V) (es : Entries) → Fine (commits u a x es)
  commits_fine u x [] = (seated_fine (acted u (asks a word.AskClose ∷ [])) (at_stage x Closing) tt, tt)
  commits_fine u x (e ∷ es) = (seated_fine (acted u (asks a word.AskLock ∷ [])) (at_stage x Locking) tt, tt)

  ask_fine : (w : World V) (x : Seat V) (st : Stage V) (q : Request V) → FineAt w → Linked w → AloneIn w.boosted a
      → StageOk w.words w.blocks x (actor_of w a) (w.boosted.shadows a) st (actor_of w a).place → Fine (ask_at w a x st q)
  ask_fine w x Idle request.Begin now k h ok = (seated_fine (acted w (asks a word.AskBegin ∷ [])) (at_stage x Beginning) tt, tt)
  ask_fine w x Idle request.BeginRead now k h ok = (seated_fine (acted w (asks a word.AskBeginRead ∷ [])) (at_stage x Beginning) tt, tt)
  ask_fine w x Idle q now k h ok = (now, λ r. absurd r)
  ask_fine w x Open request.Begin now k h ok = (now, λ r. absurd r)
  ask_fine w x Open request.BeginRead now k h ok = (now, λ r. absurd r)
  ask_fine w x Open (request.Call call) now k h ok = op_fine w x call.target call.op now k h ok.0 ok.1
  ask_fine w x Open request.Commit now k h ok = commits_fine w x (actor_of w a).writes
  ask_fine w x Open request.Abort now k h ok = (cancels_fine w (record x { cause = None }) tt, tt)
  ask_fine w x st q now k h ok = (now, λ r. absurd r)

  starve_fine : (w : World V) (x : Seat V) (st : Stage V) → FineAt w → P refusal.Memory → Fine (starve_at w a x st)
  starve_fine w x Beginning now p = (seated_fine (acted w (asks a word.AskAbort ∷ [])) no_one tt, λ _. p)
  starve_fine w x (Reading l) now p = gives_up_fine w (because x refusal.Memory) [] p
  starve_fine w x (Trying asked tries) now p = gives_up_fine w (because x refusal.Memory) [] p
  starve_fine w x (Copying asked) now p = gives_up_fine w (because x refusal.Memory) (asked.collection ∷ []) p
  starve_fine w x (Loading o es) now p = gives_up_fine w (because x refusal.Memory) [] p
  starve_fine w x Locking now p = gives_up_fine w (because x refusal.Memory) [] p
  starve_fine w x (Gating got ks tries) now p = gives_up_fine w (because x refusal.Memory) got p
  starve_fine w x (Ready ks) now p = gives_up_fine w (because x refusal.Memory) ks p
  starve_fine w x Closing now p = gives_up_fine w (because x refusal.Memory) [] p
  starve_fine w x Idle now p = (now, λ r. absurd r)
  starve_fine w x Open now p = (now, λ r. absurd r)
  starve_fine w x st now p = (now, tt)

  -- ---- steps
  has_begun_fine : (u : World V) (x : Seat V) (n : told.Notice) → u.seats a ≡ x → x.stage ≡ Beginning → Fine (has_begun u a x n)
  has_begun_fine u x (told.Begun rv) seat at = (seated_fine u (record no_one { stage = Open; rv = rv }) tt, tt)
  has_begun_fine u x (told.Exhausted clock) seat at = (seated_fine u no_one tt, λ h. absurd h)
  has_begun_fine u x n seat at = (same_fine u x Beginning seat at tt, tt)

  has_read_fine : (u : World V) (x : Seat V) (l : ℕ) (n : told.Notice) → u.seats a ≡ x → x.stage ≡ Reading l → (told.IsConflict n → ⊥)
      → Fine (has_read u a x l n)
  has_read_fine u x l (told.Number v) seat at good = (
    seated_fine u (with_call x (record { target = l; op = Read })
        (reply.Number v)) tt,
    tt,
  )
  has_read_fine u x l (told.Moved i found) seat at good = absurd (good tt)
  has_read_fine u x l n seat at good = (same_fine u x (Reading l) seat at tt, tt)

  tried_fine : (u : World V) (x : Seat V) (free : Bool) (k : ℕ) (got : List ℕ) (again : ℕ → Stage V) (next : Stage V) (tries : ℕ)
      → free ≡ true
      → FineStage u.boosted.editions x.cause next → Fine (has_tried u a x free k got again next tries)
  tried_fine u x free k got again next zero e h = subst Fine (sym (cond-true free _ _ e)) (seated_fine u (at_stage x next) h, tt)
  tried_fine u x free k got again next (suc m) e h = subst Fine (sym (cond-true free _ _ e)) (seated_fine u (at_stage x next) h, tt)

  takes_fine : (x : Seat V) (editions : ℕ → ℕ) (cause : Option Refusal) (got ks : List ℕ)
      → FineStage editions cause (takes_gates {V = V} got ks)
  takes_fine x editions cause got [] = tt
  takes_fine x editions cause got (k ∷ ks) = tt

  has_locked_fine : (u : World V) (x : Seat V) (n : told.Notice) → u.seats a ≡ x → x.stage ≡ Locking → (told.IsConflict n → ⊥)
      → Fine (has_locked u a x n)
  has_locked_fine u x (told.LockedAt wv) seat at good = (
    seated_fine u (record x { stage = takes_gates [] (written_homes u a); wv = wv })
        (takes_fine x u.boosted.editions x.cause [] (written_homes u a)),
    tt,
  )
  has_locked_fine u x (told.Busy l found) seat at good = absurd (good tt)
  has_locked_fine u x (told.Invalid l found) seat at good = absurd (good tt)
  has_locked_fine u x n seat at good = (same_fine u x Locking seat at tt, tt)

  goes_home_fine : (u : World V) (x : Seat V) (ks : List ℕ) → Fine (goes_home u a x ks)
  goes_home_fine u x [] = (seated_fine (acted u (asks a word.AskRelease ∷ [])) (at_stage x Releasing) tt, tt)
  goes_home_fine u x (k ∷ ks) = (seated_fine u (at_stage x (Homing (k ∷ ks))) tt, tt)

  has_stored_fine : (u : World V) (x : Seat V) (ks : List ℕ) (n : told.Notice) → Fine (has_stored u a x ks n)
  has_stored_fine u x ks told.Stored = goes_home_fine u x ks
  has_stored_fine u x ks n = (seated_fine u (at_stage x (Storing ks)) tt, tt)

  has_released_fine : (u : World V) (x : Seat V) (n : told.Notice) → u.seats a ≡ x → x.stage ≡ Releasing → Fine (has_released u a x n)
  has_released_fine u x told.Released seat at = (seated_fine u no_one tt, tt)
  has_released_fine u x n seat at = (same_fine u x Releasing seat at tt, tt)

  has_cancelled_fine : (u : World V) (x : Seat V) (n : told.Notice) → u.seats a ≡ x → x.stage ≡ Cancelling → Allowed P x.cause
      → Fine (has_cancelled u a x n)
  has_cancelled_fine u x told.Cancelled seat at h = (seated_fine (acted u (asks a word.AskAbort ∷ [])) (at_stage x Leaving) h, tt)
  has_cancelled_fine u x n seat at h = (same_fine u x Cancelling seat at h, tt)

  why_fine : (x : Seat V) (cause : Option Refusal) → Allowed P cause → FineNotice (why {V = V} a cause)
  why_fine x None h = tt
  why_fine x (Some r) h = λ _. h

  -- a gate that is nobody else's, nor a's own, is free
  free_gate : (w : World V) (k : ℕ) → OnlyOf a w.boosted.gates → mine w.boosted a k ≡ false → is_none (w.boosted.gates k) ≡ true
  free_gate w k only not_mine = by (w.boosted.gates k) refl
    where
      by : (o : Option ℕ) → w.boosted.gates k ≡ o → is_none (w.boosted.gates k) ≡ true
      by None e = ap is_none e
      by (Some b) e = absurd (true≢false (sym (ap (is_actor a) e ∙ eq-eqb a b (sym (only k b e))) ∙ not_mine))

  step_fine : (w : World V) (x : Seat V) (st : Stage V) → Linked w → AloneIn w.boosted a → w.seats a ≡ x → x.stage ≡ st → FineAt w
      → FineStage w.boosted.editions x.cause st → ((j : ℕ) → mine w.boosted a j ≡ has (gates_of st) j)
      → StageOk w.words w.blocks x (actor_of w a) (w.boosted.shadows a) st (actor_of w a).place → Fine (step_at w a x st)
  step_fine w x st k h seat at now fine held ok = by_stage st at fine held ok
    where
      c : Content (Shown V) (CollectionCall V) (CallWithOutcome V)
      c = content w.words w.blocks

      y : Actor
      y = w.boosted.words.actors a

      u : World V
      u = acted w (moves a ∷ [])

      good : told.IsConflict (word_notice w a) → ⊥
      good = (step_alone w.boosted.words a y.place k.base.inv.machine h.words h.words.place (k.base.inv.machine.actors a).place).1

      after_inv : (e : Action (CollectionCall V)) → Inv c (acts c w.boosted e)
      after_inv e = (acts_led c (content_frame w.words w.blocks k.base.stripes) w.boosted e k.base.inv).inv

      by_stage : (st : Stage V) → x.stage ≡ st → FineStage w.boosted.editions x.cause st
          → ((j : ℕ) → mine w.boosted a j ≡ has (gates_of st) j)
          → StageOk w.words w.blocks x (actor_of w a) (w.boosted.shadows a) st (actor_of w a).place → Fine (step_at w a x st)
      by_stage Idle at fine held ok = (now, λ r. absurd r)
      by_stage Open at fine held ok = (now, λ r. absurd r)
      by_stage Beginning at fine held ok = has_begun_fine u x (word_notice w a) seat at
      by_stage (Reading l) at fine held ok = has_read_fine u x l (word_notice w a) seat at good
      by_stage (Trying asked tries) at fine held ok =
          tried_fine (acted w (TakeGate a asked.collection ∷ [])) x (is_none (w.boosted.gates asked.collection)) asked.collection []
          (λ n. Trying asked n)
          (Copying asked) tries (free_gate w asked.collection h.gates (held asked.collection)) tt
      by_stage (Copying asked) at fine held ok =
          let which = covers_at w.words w.blocks asked in
          let e = PutGate a asked.collection which in
          let t = acted w (e ∷ []) in
          let o = outcome_at t a asked in
          let place : (actor_of t a).place ≡ machine.Open = ap (λ (s : Words). (s.actors a).place)
          (put_words c w.boosted a asked.collection which) ∙ ok.0 in
          answers_fine t x (with_piece x asked.collection (piece_at w.blocks asked)) (sized_by t a asked o) o t.boosted.editions
          (with_now t.boosted.editions t.boosted.editions (c.reads o) (λ l i. refl))
          (with_plain w.words w.blocks t.boosted.editions (c.reads o) (λ l i.
          (content_frame w.words w.blocks k.base.stripes).no_word o l i))
          (sets_now t (after_inv e) (act_alone c w.boosted a e k.base.inv h refl) (subst MakesCalls (sym place) tt))
      by_stage (Loading o []) at fine held ok = absurd ok
      by_stage (Loading o (d ∷ es)) at fine held ok =
          let z = w.boosted.shadows a in
          let k2 = at_move w a y z (mine w.boosted a) y.place (at_of w a k) refl (reading_quiet d.0 y.place ok.0) in
          let same : u.boosted.editions ≡ w.boosted.editions = step_editions w.boosted a y y.place in
          let m = reading_calls d.0 y.place ok.0 in
          let pl = left_plain w.words w.blocks y z (d ∷ es) ok.2.left in
          let is : NumberIs (latest w.boosted.words d.0) (word_notice w a) =
          number_is w.boosted.words y d.0 y.place ok.0 h.words.place (k.base.inv.machine.actors a).place
          (stamped c w.boosted a d.0 k.base.inv h m pl.0) in
          has_loaded_fine u x y (learns w.boosted.words y (plan y y.place)) o d es (word_notice w a) k2.own.actor seat at
          (subst (λ f. AllNow f (d ∷ es)) (sym same) fine) pl (after_inv (moves a)) (act_alone c w.boosted a (moves a) k.base.inv h refl)
          (read_after w.boosted.words y d.0 y.place ok.0)
          (subst (λ i. NumberIs i (word_notice w a)) (latest_now c w.boosted a d.0 k.base.inv h m pl.0
          ∙ ap (λ (f : ℕ → ℕ). f d.0) (sym same)) is) good
      by_stage Locking at fine held ok = has_locked_fine u x (word_notice w a) seat at good
      by_stage (Gating got [] tries) at fine held ok = absurd ok
      by_stage (Gating got (i ∷ ks) tries) at fine held ok =
          let t = acted w (TakeGate a i ∷ []) in
          tried_fine t x (is_none (w.boosted.gates i)) i got (λ n. Gating got (i ∷ ks) n) (takes_gates (got ++ i ∷ []) ks) tries
          (free_gate w i h.gates (held i ∙ not_got got i ks ok.1.differ)) (takes_fine x t.boosted.editions x.cause (got ++ i ∷ []) ks)
      by_stage (Ready ks) at fine held ok =
          let ready = acted w (asks a word.AskStore ∷ []) in
          has_stored_fine (recorded (acted ready (moves a ∷ [])) a x true x.wv) x ks (word_notice ready a)
      by_stage (Storing ks) at fine held ok = has_stored_fine u x ks (word_notice w a)
      by_stage (Homing []) at fine held ok = absurd ok
      by_stage (Homing (i ∷ ks)) at fine held ok = goes_home_fine (acted w (GoHome a i ∷ [])) x ks
      by_stage Releasing at fine held ok = has_released_fine u x (word_notice w a) seat at
      by_stage Closing at fine held ok = (seated_fine (recorded u a x false x.rv) no_one tt, tt)
      by_stage (Returning []) at fine held ok = absurd ok
      by_stage (Returning (i ∷ ks)) at fine held ok = gives_up_fine (acted w (PutGate a i (λ l. false) ∷ [])) x ks fine
      by_stage Cancelling at fine held ok = has_cancelled_fine u x (word_notice w a) seat at fine
      by_stage Leaving at fine held ok = (
        seated_fine (record u {
          aborted = w.aborted ++ record {
            actor = a;
            rv = x.rv;
            calls = x.calls;
            cause = x.cause;
          } ∷ [];
        }) no_one tt,
        why_fine x x.cause fine,
      )

  -- ---- events
  record AloneWorld (w : World V) : Type 0 where
    linked : Linked w
    alone : AloneIn w.boosted a
    fine : FineAt w

  -- where a is out of memory it may be aborted for that
  abbrev MayStarve : Event V → Type 0
  MayStarve (Starve b) = b ≡ a → P refusal.Memory
  MayStarve e = Unit {0}

  abbrev AllMayStarve : List (Event V) → Type 0
  AllMayStarve [] = Unit {0}
  AllMayStarve (e ∷ es) = MayStarve e × AllMayStarve es

  own_fine : (w : World V) (e : Event V) → whose e ≡ a → MayStarve e → AloneWorld w → Fine (happens w e)
  own_fine w (Ask b q) m p h =
      subst (λ i. Fine (happens w (Ask i q))) (sym m) (ask_fine w (w.seats a) (w.seats a).stage q h.fine h.linked h.alone
      (h.linked.seats a).stage)
  own_fine w (Step b) m p h =
      subst (λ i. Fine (happens w (Step i))) (sym m)
      (step_fine w (w.seats a) (w.seats a).stage h.linked h.alone refl refl h.fine h.fine (h.linked.seats a).gates (h.linked.seats a).stage)
  own_fine w (Starve b) m p h = subst (λ i. Fine (happens w (Starve i))) (sym m) (starve_fine w (w.seats a) (w.seats a).stage h.fine (p m))

  all_alone : (n : ℕ) (bs : List Block) (es : List (Action (CollectionCall V))) (s : Boosted (Shown V) (CallWithOutcome V)) → HaveStripes bs
      → Inv (content n bs) s
      → AllOf a es → AloneIn s a → AloneIn (act_all (content n bs) es s) a
  all_alone n bs [] s stripes v own h = h
  all_alone n bs (e ∷ es) s stripes v own h =
      all_alone n bs es (acts (content n bs) s e) stripes (acts_led (content n bs) (content_frame n bs stripes) s e v).inv own.1
      (act_alone (content n bs) s a e v h own.0)

  own_alone : (w : World V) (e : Event V) → whose e ≡ a → Linked w → AloneIn w.boosted a → AloneIn (happens w e).0.boosted a
  own_alone w e m k h =
      let r = happens_by w e in
      subst (λ (s : Boosted (Shown V) (CallWithOutcome V)). AloneIn s a) (sym r.reached.is)
      (all_alone w.words w.blocks r.reached.actions w.boosted k.base.stripes k.base.inv (subst (λ i. AllOf i r.reached.actions) m r.own) h)

  -- what others ask leaves it, and so does a failed allocation of theirs
  other_alone : (s t : Boosted (Shown V) (CallWithOutcome V)) (b : ℕ) → (a ≡ b → ⊥) → Still b s t → t.words.actors a ≡ s.words.actors a
      → AloneIn s a → AloneIn t a
  other_alone s t b ne g same h = record {
    words =
        subst (λ (y : Actor). AloneOk t.words.locks y) (sym same) (subst (λ f. AloneOk f (s.words.actors a)) (sym g.locks) h.words);
    gates = subst (OnlyOf a) (sym g.gates) h.gates;
    copied = λ m.
        subst (λ (z : Shadow (Shown V) (CallWithOutcome V)). (l : ℕ) → z.copied l ≡ true
        → z.editions l ≡ t.editions l) (sym (g.shadows a ne))
        (subst (λ (f : ℕ → ℕ). (l : ℕ) → (s.shadows a).copied l ≡ true → (s.shadows a).editions l ≡ f l) (sym g.editions)
        (h.copied (subst (λ (y : Actor). MakesCalls y.place) same m)));
  }

  other_fine : (w u : World V) (b : ℕ) → Still b w.boosted u.boosted → u.seats a ≡ w.seats a → FineAt w → FineAt u
  other_fine w u b g same h = subst (FineSeat u.boosted.editions) (sym same) (subst (λ f. FineSeat f (w.seats a)) (sym g.editions) h)

  others_alone : (w : World V) (e : Event V) → (a ≡ whose e → ⊥) → Still (whose e) w.boosted (happens w e).0.boosted → AloneWorld w
      → AloneWorld (happens w e).0
  others_alone w e ne g h =
      let r = happens_by w e in record {
        linked = happens_linked w e h.linked;
        alone = other_alone w.boosted (happens w e).0.boosted (whose e) ne g (r.actors a ne) h.alone;
        fine = other_fine w (happens w e).0 (whose e) g (r.seats a ne) h.fine;
      }

  own_world : (w : World V) (e : Event V) → whose e ≡ a → MayStarve e → AloneWorld w → AloneWorld (happens w e).0
  own_world w e m p h = record {
    linked = happens_linked w e h.linked;
    alone = own_alone w e m h.linked h.alone;
    fine =
        (own_fine w e m p h).0;
  }

  run_world : (es : List (Event V)) (w : World V) → IsAlone a es → AllMayStarve es → AloneWorld w → AloneWorld (run w es)
  run_world [] w only p h = h
  run_world (Ask b q ∷ es) w only p h =
      run_world es (happens w (Ask b q)).0 only p.1 (elim (cases_eq a b) [
        | inl same ↦ own_world w (Ask b q) (sym same) tt h
        | inr ne ↦ others_alone w (Ask b q) ne (ask_at_still w b (w.seats b) (w.seats b).stage q) h
      ])
  run_world (Step b ∷ es) w only p h = run_world es (happens w (Step b)).0 only.1 p.1 (own_world w (Step b) only.0 tt h)
  run_world (Starve b ∷ es) w only p h =
      run_world es (happens w (Starve b)).0 only p.1 (elim (cases_eq a b) [
        | inl same ↦ own_world w (Starve b) (sym same) p.0 h
        | inr ne ↦ others_alone w (Starve b) ne (starve_still w b (w.seats b) (w.seats b).stage) h
      ])

  begin_world : (w : World V) → Linked w → (w.seats a).stage ≡ Beginning → IsFree w → AloneWorld w
  begin_world w k e free =
      let place : (actor_of w a).place ≡ machine.Begin = subst (λ st. StageOk w.words w.blocks (w.seats a) (actor_of w a)
      (w.boosted.shadows a) st (actor_of w a).place) e (k.seats a).stage in
      record {
        linked = k;
        alone = record {
          words = record { free = λ l. inl (free.locks l); place = subst (AlonePlace w.boosted.words.locks (actor_of w a)) (sym place) tt };
          gates = λ i b is. absurd (none-some b (sym (free.gates i) ∙ is));
          copied = λ m. absurd (subst MakesCalls place m);
        };
        fine = subst (FineStage w.boosted.editions (w.seats a).cause) (sym e) tt;
      }

-- ---- the laws
module _ {V : Type 0} (blocks : List Block) (clock : ℕ) (values : List ℕ) (held : List (Held V)) (events later : List (Event V)) (a : ℕ)
    (stripes : HaveStripes blocks) where
  abbrev start : World V
  start = run (opened blocks clock values held) events

  reached : (P : Refusal → Type 0) → (start.seats a).stage ≡ Beginning → IsFree start → IsAlone a later → AllMayStarve P a later
      → AloneWorld P a (run start later)
  reached P e free only p =
      run_world P a later start only p (begin_world P a start (run_linked events (opened blocks clock values held)
      (opened_linked blocks clock values held stripes)) e free)

  abbrev IsMemory : Refusal → Type 0
  IsMemory r = r ≡ refusal.Memory

  all_may : (es : List (Event V)) → AllMayStarve IsMemory a es
  all_may [] = tt
  all_may (Ask b q ∷ es) = (tt, all_may es)
  all_may (Step b ∷ es) = (tt, all_may es)
  all_may (Starve b ∷ es) = ((λ _. refl), all_may es)

  may : (e : Event V) → MayStarve IsMemory a e
  may (Ask b q) = tt
  may (Step b) = tt
  may (Starve b) = λ _. refl

  conflict_ends : (r : Refusal) → IsConflict r → Ends r
  conflict_ends (refusal.Moved l w) h = tt
  conflict_ends (refusal.Busy l w) h = tt
  conflict_ends (refusal.Stale l b w) h = tt
  conflict_ends (refusal.GateBusy k) h = tt
  conflict_ends (refusal.Invalid l w) h = tt
  conflict_ends r h = absurd h

  no_conflict : (n : Notice V) → FineNotice IsMemory a n → TellsConflict n → ⊥
  no_conflict (Refused b r) fine h = subst IsConflict (fine (conflict_ends r h)) h
  no_conflict n fine h = h

  pub world_alone : (start.seats a).stage ≡ Beginning → IsFree start → IsAlone a later → (e : Event V) → whose e ≡ a
      → TellsConflict (happens (run start later) e).1 → ⊥
  world_alone at free only e m h =
      no_conflict (happens (run start later) e).1 (own_fine IsMemory a (run start later) e m (may e)
      (reached IsMemory at free only (all_may later))).1 h

  unstarved : (es : List (Event V)) → IsUnstarved a es → AllMayStarve (λ r. ⊥) a es
  unstarved [] h = tt
  unstarved (Ask b q ∷ es) h = (tt, unstarved es h)
  unstarved (Step b ∷ es) h = (tt, unstarved es h)
  unstarved (Starve b ∷ es) h = (h.0, unstarved es h.1)

  no_memory : (n : Notice V) → FineNotice (λ r. ⊥) a n → TellsMemory n → ⊥
  no_memory (Refused b refusal.Memory) fine h = fine tt
  no_memory n fine h = h

  pub world_unstarved : (start.seats a).stage ≡ Beginning → IsFree start → IsAlone a later → IsUnstarved a later → (e : Event V)
      → whose e ≡ a → IsUnstarved a (e ∷ [])
      → TellsMemory (happens (run start later) e).1 → ⊥
  world_unstarved at free only fed e m fed2 h =
      no_memory (happens (run start later) e).1
      (own_fine (λ r. ⊥) a (run start later) e m (unstarved (e ∷ []) fed2).0 (reached (λ r. ⊥) at free only (unstarved later fed))).1 h

-- A step that begins to abort a transaction has found the cause that it notes: the word machine's refusals are true of the word that the
-- step loads, a copy is stale where the two editions differ, and a gate that was tried in vain is another's. The last step of the request
-- answers that cause.
use Rattle.tx_machine.specs.Content.{IsIn, has}
use Rattle.std.proofs.Common.{◌≡◌, ◌≢◌, ℕ, zero, suc, ◌+◌, Bool, true, false, cond, List, [], ◌∷◌, ◌++◌, Option, Some, None, ◌⊎◌, Contains}
use Rattle.std.proofs.Common.{refl, sym, ◌∙◌, ap, subst, true≢false, eqb, eq-eqb, ne_eqb, inl, inr}
use Rattle.std.specs.Prelude.{if◌then◌else◌, nat_le, nat_lt}
use Rattle.std.proofs.lemmas.Bool.{cases_eq, cond_both, cond-true, cond-false}
use Rattle.std.proofs.lemmas.List.Elements.{Contains-push, Contains-append_left, Contains-append_right}
use Rattle.std.proofs.lemmas.Option.{same_Some, none-some}
use Rattle.vlock_word.specs.declared.lock_word.LockWord.{LockWord}
use Rattle.vlock_word.specs.declared.lock_word.LockWord.TheVariants.{Free, Locked}
use Rattle.vlock_word.specs.LockWord.{bits}
use Rattle.tx_sets.specs.Entries.{Entries, lookup, with_entry}
use Rattle.tx_machine.specs.Actor as machine
use Rattle.tx_machine.specs.Actor.{Place, Actor}
use Rattle.tx_machine.specs.World.{World as Words, plan}
use Rattle.tx_machine.specs.Cells.{LockCell, word_of}
use Rattle.tx_machine.specs.Opacity.{first_read}
use Rattle.tx_machine.specs.Requests as word
use Rattle.tx_machine.specs.Notices as told
use Rattle.tx_machine.specs.Notices.{notice}
use Rattle.tx_machine.specs.Refusals.{IsTrue}
use Rattle.tx_machine.proofs.Sets.{put-same, lookup-with_entry_same, lookup-with_entry_other}
use Rattle.tx_machine.proofs.Refusals.{notice_true}
use Rattle.seq_model.specs.declared.held.Held.{Held}
use Rattle.seq_model.specs.declared.refusal.Refusal.{Refusal}
use Rattle.seq_model.specs.declared.refusal.Refusal.TheVariants as refusal
use Rattle.seq_model.specs.declared.event.Event.{Event}
use Rattle.seq_model.specs.declared.event.Event.TheVariants.{Step}
use Rattle.tx_machine.specs.Boosted.{TakeGate, PutGate, GoHome, Accept, is_none, is_actor}
use Rattle.replay_log.specs.Contents.{Block, CollectionCall, CallWithOutcome, HaveStripes, is_plain, content}
use Rattle.replay_log.specs.Worlds.{World, Seat, Stage, Idle, Beginning, Open, Locking, Releasing, Closing, Cancelling, Leaving, Reading}
use Rattle.replay_log.specs.Worlds.{Trying, Copying, Loading, Gating, Ready, Storing, Homing, Returning, After, has_room, with_editions}
use Rattle.replay_log.specs.Worlds.{at_stage, because, seated, acted, asks, moves, actor_of, word_notice, is_leaving, cancels, gives_up}
use Rattle.replay_log.specs.Worlds.{is_fresh, judges, loads, answers, has_begun, has_read, has_tried, has_loaded, takes_gates, has_locked}
use Rattle.replay_log.specs.Worlds.{goes_home, has_stored, has_released, has_cancelled, why, recorded, no_one, with_call, call_of, reply_of}
use Rattle.replay_log.specs.Worlds.{written_homes, with_piece, sized_by, outcome_at, step_at, happens, run, opened}
use Rattle.replay_log.specs.Pieces.{piece_at, covers_at}
use Rattle.seq_model.specs.declared.call.Op.TheVariants.{Read}
use Rattle.seq_model.specs.declared.call.Reply.TheVariants as reply
use Rattle.replay_log.specs.WorldRefusals.{is_ending, IsLastTry, IsCopied, IsCause, HasCause}
use Rattle.replay_log.proofs.ContentLemmas.{content_frame}
use Rattle.replay_log.proofs.ReadLemmas.{in_set}
use Rattle.replay_log.proofs.ActionLemmas.{mine, learns}
use Rattle.replay_log.proofs.PlaceLemmas.{AfterRead, read_after, reading_quiet}
use Rattle.replay_log.proofs.SeatLemmas.{Copy, Differ, Kept, Left, gates_of, StageOk, Linked, at_of}
use Rattle.replay_log.proofs.StageLemmas.{at_move}
use Rattle.replay_log.proofs.CallLemmas.{put_editions}
use Rattle.replay_log.proofs.SetLemmas.{put_words}
use Rattle.replay_log.proofs.EventLemmas.{run_linked, opened_linked}

has_mid : (got ks : List ℕ) (i : ℕ) → has (got ++ i ∷ ks) i ≡ true
has_mid [] ks i = cond-true (eqb i i) true (has ks i) (eq-eqb i i refl)
has_mid (j ∷ got) ks i = elim (eqb i j) as (λ b. cond b true (has (got ++ i ∷ ks) i) ≡ true) [ true ↦ refl | false ↦ has_mid got ks i ]

-- a gate that is still to be taken is none of those that are held
pub not_got : (got : List ℕ) (i : ℕ) (ks : List ℕ) → Differ (got ++ i ∷ ks) → has got i ≡ false
not_got [] i ks d = refl
not_got (j ∷ got) i ks d =
    elim (cases_eq i j) [
      | inl same ↦ absurd (true≢false (sym (has_mid got ks i) ∙ ap (has (got ++ i ∷ ks)) same ∙ d.0))
      | inr ne ↦ cond-false (eqb i j) true (has got i) (ne_eqb i j ne) ∙ not_got got i ks d.1
    ]

takes_on : (V : Type 0) (got ks : List ℕ) → is_ending {V = V} (takes_gates got ks) ≡ false
takes_on V got [] = refl
takes_on V got (k ∷ ks) = refl

-- the word that a refusal names is the one that the step touches
abbrev NamesWord : Actor → Place → told.Notice → Type 0
NamesWord y p (told.Moved l w) = word_of (plan y p) ≡ Some (LockCell l)
NamesWord y p (told.Busy l w) = word_of (plan y p) ≡ Some (LockCell l)
NamesWord y p (told.Invalid l w) = word_of (plan y p) ≡ Some (LockCell l)
NamesWord y p n = Unit {0}

none_left_names : {A : Type 0} → (y : Actor) (p : Place) (xs : List A) (n : told.Notice) → NamesWord y p n
    → NamesWord y p (told.when_none_left xs n)
none_left_names y p [] n h = h
none_left_names y p (x ∷ xs) n h = tt

last_names : (y : Actor) (p : Place) (es : Entries) (n : told.Notice) → NamesWord y p n → NamesWord y p (told.last_notice es n)
last_names y p [] n h = tt
last_names y p (e ∷ es) n h = none_left_names y p es n h

look_names : (y : Actor) (l : ℕ) (w : LockWord) → NamesWord y (machine.Look l) (told.look_notice y.rv l w)
look_names y l (Free k) = cond_both (nat_le k y.rv) told.Quiet (told.Moved l (bits (Free k))) (NamesWord y (machine.Look l)) (λ _. tt)
    (λ _. refl)
look_names y l (Locked k) = refl

again_names : (y : Actor) (l k v : ℕ) (w : LockWord) → NamesWord y (machine.Again l k v) (told.again_notice l k v w)
again_names y l k v (Free j) =
    cond_both (eqb j k) (told.Number v) (told.Moved l (bits (Free j))) (NamesWord y (machine.Again l k v)) (λ _. tt) (λ _. refl)
again_names y l k v (Locked j) = refl

lock_names : (y : Actor) (l : ℕ) (ls : List ℕ) (w : LockWord) → NamesWord y (machine.Lock (l ∷ ls)) (told.lock_notice l w)
lock_names y l ls (Free k) = tt
lock_names y l ls (Locked k) = refl

take_names : (y : Actor) (l k : ℕ) (ls : List ℕ) (w : LockWord) → NamesWord y (machine.Take l k ls) (told.take_notice l k w)
take_names y l k ls (Free j) =
    cond_both (eqb j k) told.Quiet (told.Busy l (bits (Free j))) (NamesWord y (machine.Take l k ls)) (λ _. tt) (λ _. refl)
take_names y l k ls (Locked j) = refl

check_names : (y : Actor) (l : ℕ) (ls : List ℕ) (w : LockWord) (own : Option ℕ)
    → NamesWord y (machine.Check (l ∷ ls)) (told.check_notice y.rv y.wv l ls w own)
check_names y l ls (Free k) own =
    cond_both (nat_le k y.rv) (told.when_none_left ls (told.LockedAt y.wv)) (told.Invalid l (bits (Free k)))
    (NamesWord y (machine.Check (l ∷ ls)))
    (λ _. none_left_names y (machine.Check (l ∷ ls)) ls (told.LockedAt y.wv) tt) (λ _. refl)
check_names y l ls (Locked k) (Some v) =
    cond_both (nat_le k y.rv) (told.when_none_left ls (told.LockedAt y.wv)) (told.Invalid l (bits (Locked k)))
    (NamesWord y (machine.Check (l ∷ ls)))
    (λ _. none_left_names y (machine.Check (l ∷ ls)) ls (told.LockedAt y.wv) tt) (λ _. refl)
check_names y l ls (Locked k) None = refl

notice_names : (s : Words) (y : Actor) (p : Place) → NamesWord y p (notice s y p)
notice_names s y machine.Idle = tt
notice_names s y machine.Begin =
    cond_both (nat_lt s.clock machine.clock_limit) (told.Begun s.clock) (told.Exhausted s.clock) (NamesWord y machine.Begin) (λ _. tt)
    (λ _. tt)
notice_names s y machine.Open = tt
notice_names s y (machine.Look l) = look_names y l (s.locks l)
notice_names s y (machine.Fetch l k) = tt
notice_names s y (machine.Again l k v) = again_names y l k v (s.locks l)
notice_names s y (machine.Lock []) = none_left_names y (machine.Lock []) (machine.to_check y (s.clock + 1)) (told.LockedAt (s.clock + 1)) tt
notice_names s y (machine.Lock (l ∷ ls)) = lock_names y l ls (s.locks l)
notice_names s y (machine.Take l k ls) = take_names y l k ls (s.locks l)
notice_names s y (machine.Check []) = tt
notice_names s y (machine.Check (l ∷ ls)) = check_names y l ls (s.locks l) (lookup y.writes l)
notice_names s y machine.Broken = tt
notice_names s y machine.First = last_names y machine.First y.writes told.Stored tt
notice_names s y (machine.Store []) = tt
notice_names s y (machine.Store (l ∷ ls)) = none_left_names y (machine.Store (l ∷ ls)) ls told.Stored tt
notice_names s y machine.Release = last_names y machine.Release y.held told.Released tt
notice_names s y machine.Undo = last_names y machine.Undo y.held told.Cancelled tt
notice_names s y machine.Leave = tt
notice_names s y machine.Close = tt

-- ---- reads among the calls
later_call : (c : machine.Call) (cs : List machine.Call) (d : machine.Call) → Contains cs d → Contains (c ∷ cs) d
later_call c cs d h = Contains-append_right (c ∷ []) cs d h

-- what was read first was read
first_is_call : (cs : List machine.Call) (l v : ℕ) → first_read cs l ≡ Some v → Contains cs (machine.Read l v)
first_is_call [] l v e = absurd (none-some v e)
first_is_call (machine.Read k u ∷ cs) l v e = elim (cases_eq l k) [
  | inl same ↦
      subst (λ (c : machine.Call). Contains (machine.Read k u ∷ cs) c)
      (ap (λ i. machine.Read i u) (sym same) ∙ ap (machine.Read l) (same_Some u v
      (sym (cond-true (eqb l k) (Some u) (first_read cs l) (eq-eqb l k same)) ∙ e)))
      (Contains-append_left (machine.Read k u ∷ []) cs (machine.Read k u) (Contains-push [] (machine.Read k u)))
  | inr ne ↦
      later_call (machine.Read k u) cs (machine.Read l v)
      (first_is_call cs l v (sym (cond-false (eqb l k) (Some u) (first_read cs l) (ne_eqb l k ne)) ∙ e))
]
first_is_call (machine.Write k u ∷ cs) l v e = elim (cases_eq l k) [
  | inl same ↦ absurd (none-some v (sym (cond-true (eqb l k) None (first_read cs l) (eq-eqb l k same)) ∙ e))
  | inr ne ↦
      later_call (machine.Write k u) cs (machine.Read l v)
      (first_is_call cs l v (sym (cond-false (eqb l k) None (first_read cs l) (ne_eqb l k ne)) ∙ e))
]

in_set_is : (declared : Bool) (o : Option ℕ) (v : ℕ) → in_set declared o ≡ Some v → o ≡ Some v
in_set_is true o v e = absurd (none-some v e)
in_set_is false o v e = e

-- what the read set has of a collection's location was read
abbrev AreRead : ℕ → List Block → Actor → Type 0
AreRead n bs y = (l v : ℕ) → is_plain n bs l ≡ false → lookup y.reads l ≡ Some v → Contains y.calls (machine.Read l v)

kept_read : (n : ℕ) (bs : List Block) (y : Actor) → Kept n bs y → AreRead n bs y
kept_read n bs y k l v pl e = first_is_call y.calls l v (in_set_is y.declared (first_read y.calls l) v (sym (k l pl) ∙ e))

with_read_cases : (declared : Bool) (es : Entries) (l v i u : ℕ) → lookup (machine.with_read declared es l v) i ≡ Some u
    → ((i ≡ l) × (v ≡ u)) ⊎ (lookup es i ≡ Some u)
with_read_cases true es l v i u e = inr e
with_read_cases false es l v i u e = elim (cases_eq i l) [
  | inl same ↦ inl (same, same_Some v u (sym (lookup-with_entry_same es l v) ∙ ap (lookup (with_entry es l v)) (sym same) ∙ e))
  | inr ne ↦ inr (sym (lookup-with_entry_other es l v i ne) ∙ e)
]

more_read : (n : ℕ) (bs : List Block) (y : Actor) (l v : ℕ) → AreRead n bs y → AreRead n bs (machine.has_read y l v)
more_read n bs y l v h i u pl e = elim (with_read_cases y.declared y.reads l v i u e) [
  | inl q ↦
      subst (λ (c : machine.Call). Contains (y.calls ++ machine.Read l v ∷ []) c)
      (ap (λ k. machine.Read k v) (sym q.0) ∙ ap (machine.Read i) q.1)
      (Contains-push y.calls (machine.Read l v))
  | inr old ↦ Contains-append_left y.calls (machine.Read l v ∷ []) (machine.Read i u) (h i u pl old)
]

-- a cancel and an abort leave the calls
abort_calls : (y : Actor) (es : Entries) → (word.abort y es).calls ≡ y.calls
abort_calls y [] = refl
abort_calls y (e ∷ es) = refl

cancelled_calls : (y : Actor) (p : Place) → (word.ask y p word.AskCancel).calls ≡ y.calls
cancelled_calls y (machine.Lock ls) = refl
cancelled_calls y (machine.Take l k ls) = refl
cancelled_calls y (machine.Check []) = refl
cancelled_calls y (machine.Check (l ∷ ls)) = refl
cancelled_calls y machine.Broken = refl
cancelled_calls y (machine.Store []) = refl
cancelled_calls y (machine.Store (l ∷ ls)) = refl
cancelled_calls y p = refl

aborted_calls : (y : Actor) (p : Place) → (word.ask y p word.AskAbort).calls ≡ y.calls
aborted_calls y machine.Open = refl
aborted_calls y (machine.Look l) = refl
aborted_calls y (machine.Fetch l k) = refl
aborted_calls y (machine.Again l k v) = refl
aborted_calls y machine.Close = refl
aborted_calls y machine.Begin = refl
aborted_calls y machine.Undo = abort_calls y y.held
aborted_calls y (machine.Check []) = refl
aborted_calls y (machine.Check (l ∷ ls)) = refl
aborted_calls y (machine.Store []) = refl
aborted_calls y (machine.Store (l ∷ ls)) = refl
aborted_calls y p = refl

module _ {V : Type 0} where
  -- a seat that continues
  going : (w u : World V) (a : ℕ) (x : Seat V) → u.seats a ≡ x → is_ending x.stage ≡ false → is_ending (u.seats a).stage ≡ true → ⊥
  going w u a x e h q = true≢false (sym q ∙ ap (λ (s : Seat V). is_ending s.stage) e ∙ h)

  goes_on : (w u : World V) (a : ℕ) (x : Seat V) (st : Stage V) → is_ending x.stage ≡ false → HasCause w a st (seated u a x)
  goes_on w u a x st h q = absurd (going w (seated u a x) a x (put-same u.seats a x) h q)

  same_on : (w u : World V) (a : ℕ) (x : Seat V) (st : Stage V) → u.seats a ≡ x → is_ending x.stage ≡ false → HasCause w a st u
  same_on w u a x st e h q = absurd (going w u a x e h q)

  cancels_calls : (u : World V) (a : ℕ) (x : Seat V) → (actor_of (cancels u a x) a).calls ≡ (actor_of u a).calls
  cancels_calls u a x =
      let y = actor_of u a in
      let v = acted u (asks a word.AskCancel ∷ []) in
      let z = actor_of v a in
      ap (λ (q : Actor). q.calls) (put-same v.boosted.words.actors a (word.ask z z.place word.AskAbort)) ∙ aborted_calls z z.place
      ∙ ap (λ (q : Actor). q.calls) (put-same u.boosted.words.actors a (word.ask y y.place word.AskCancel)) ∙ cancelled_calls y y.place

  cancels_for : (w u : World V) (a : ℕ) (x : Seat V) (st : Stage V) (cause : Refusal) → IsCause w a st (cancels u a (because x cause)) cause
      → HasCause w a st (cancels u a (because x cause))
  cancels_for w u a x st cause h q =
      let v = acted u (asks a word.AskCancel ∷ asks a word.AskAbort ∷ []) in (
        cause,
        ap (λ (s : Seat V). s.cause) (put-same v.seats a (at_stage (because x cause)
            (if is_leaving (actor_of v a).place then Leaving else Cancelling))),
        h,
      )

  choose_for : (w : World V) (a : ℕ) (st : Stage V) (b : Bool) (u v : After V) → (b ≡ true → HasCause w a st u.0)
      → (b ≡ false → HasCause w a st v.0)
      → HasCause w a st (cond b u v).0
  choose_for w a st true u v h g = h refl
  choose_for w a st false u v h g = g refl

  -- what the word machine answered is true of w
  abbrev TrueAt : World V → ℕ → told.Notice → Type 0
  TrueAt w a n =
      IsTrue w.boosted.words (w.boosted.words.actors a) (w.boosted.words.actors a).place n
      × NamesWord (w.boosted.words.actors a) (w.boosted.words.actors a).place n

  has_read_for : (w u : World V) (a : ℕ) (x : Seat V) (l : ℕ) (n : told.Notice) → u.seats a ≡ x → x.stage ≡ Reading l → TrueAt w a n
      → HasCause w a (Reading l) (has_read u a x l n).0
  has_read_for w u a x l (told.Number v) seat st h = goes_on w u a (with_call x (record { target = l; op = Read }) (reply.Number v))
      (Reading l) refl
  has_read_for w u a x l (told.Moved i found) seat st h = cancels_for w u a x (Reading l) (refusal.Moved i found) ((h.1, h.0.0), h.0.1)
  has_read_for w u a x l n seat st h = same_on w u a x (Reading l) seat (ap is_ending st)

  -- ---- calls on collections
  -- these locations were copied so, in the call that is made at this stage
  abbrev Copied : World V → Stage V → Entries → Type 0
  Copied w st [] = Unit {0}
  Copied w st (d ∷ es) = (is_plain w.words w.blocks d.0 ≡ false) × IsCopied w st d.0 d.1 × Copied w st es

  abbrev HasRead : World V → World V → ℕ → Type 0
  HasRead w u a = AreRead w.words w.blocks (u.boosted.words.actors a)

  fresh_for : (w u : World V) (a : ℕ) (x : Seat V) (st : Stage V) (d : ℕ × ℕ) (v : ℕ) (next : After V) → IsCopied w st d.0 d.1
      → Contains (actor_of u a).calls (machine.Read d.0 v) → HasCause w a st next.0 → HasCause w a st (is_fresh u a x d v next).0
  fresh_for w u a x st d v next copied read h =
      choose_for w a st (eqb d.1 v) next _ (λ _. h) (λ no_match. cancels_for w u a x st (refusal.Stale d.0 d.1 v) (
        (λ same. true≢false (sym (eq-eqb d.1 v same) ∙ no_match)),
        copied,
        subst (λ (cs : List machine.Call). Contains cs (machine.Read d.0 v))
            (sym (cancels_calls u a (because x (refusal.Stale d.0 d.1 v)))) read,
      ))

  judges_for : (w u : World V) (a : ℕ) (x : Seat V) (st : Stage V) (o : CallWithOutcome V) (d : ℕ × ℕ) (es : Entries) (next : After V)
      (r : Option ℕ)
      → lookup (actor_of u a).reads d.0 ≡ r → is_plain w.words w.blocks d.0 ≡ false → IsCopied w st d.0 d.1 → HasRead w u a
      → HasCause w a st next.0 → HasCause w a st (judges u a x o d es next r).0
  judges_for w u a x st o d es next None is pl copied read h = goes_on w (acted u (asks a (word.AskRead d.0) ∷ [])) a
      (at_stage x (Loading o (d ∷ es))) st refl
  judges_for w u a x st o d es next (Some v) is pl copied read h = fresh_for w u a x st d v next copied (read d.0 v pl is) h

  loads_for : (es : Entries) (w u : World V) (a : ℕ) (x : Seat V) (st : Stage V) (o : CallWithOutcome V) → Copied w st es → HasRead w u a
      → HasCause w a st (loads u a x o es).0
  loads_for [] w u a x st o copied read = goes_on w (acted u (Accept a o.asked ∷ [])) a (with_call x (call_of o) (reply_of o)) st refl
  loads_for (d ∷ es) w u a x st o copied read =
      judges_for w u a x st o d es (loads u a x o es) (lookup (actor_of u a).reads d.0) refl copied.0 copied.1 read
      (loads_for es w u a x st o copied.2 read)

  answers_for : (w u : World V) (a : ℕ) (before x : Seat V) (st : Stage V) (sized o : CallWithOutcome V) (editions : ℕ → ℕ)
      → Copied w st (with_editions editions ((content u.words u.blocks).reads o)) → HasRead w u a
      → HasCause w a st (answers u a before x sized o editions).0
  answers_for w u a before x st sized o editions copied read =
      let c = content u.words u.blocks in
      choose_for w a st (has_room (actor_of u a) (c.reads sized) (c.writes sized)) (loads u a x o (with_editions editions (c.reads o))) _
      (λ _. loads_for (with_editions editions (c.reads o)) w u a x st o copied read) (λ _. goes_on w u a (at_stage before Open) st refl)

  has_loaded_for : (w u : World V) (a : ℕ) (x : Seat V) (y z : Actor) (o : CallWithOutcome V) (d : ℕ × ℕ) (es : Entries) (n : told.Notice)
      → u.boosted.words.actors a ≡ z → u.seats a ≡ x → x.stage ≡ Loading o (d ∷ es) → Copied w (Loading o (d ∷ es)) (d ∷ es)
      → AreRead w.words w.blocks y → AfterRead d.0 y z n → TrueAt w a n → HasCause w a (Loading o (d ∷ es)) (has_loaded u a x o d es n).0
  has_loaded_for w u a x y z o d es (told.Number v) e seat st copied read after h =
      let now : u.boosted.words.actors a ≡ machine.has_read y d.0 v = e ∙ after in
      let more : HasRead w u a = subst (AreRead w.words w.blocks) (sym now) (more_read w.words w.blocks y d.0 v read) in
      fresh_for w u a x (Loading o (d ∷ es)) d v (loads u a x o es) copied.1
      (subst (λ (q : Actor). Contains q.calls (machine.Read d.0 v)) (sym now) (Contains-push y.calls (machine.Read d.0 v)))
      (loads_for es w u a x (Loading o (d ∷ es)) o copied.2 more)
  has_loaded_for w u a x y z o d es (told.Moved i found) e seat st copied read after h =
      cancels_for w u a x (Loading o (d ∷ es)) (refusal.Moved i found) ((h.1, h.0.0), h.0.1)
  has_loaded_for w u a x y z o d es n e seat st copied read after h = same_on w u a x (Loading o (d ∷ es)) seat (ap is_ending st)

  -- what is left of a call is among what it had to judge
  left_copied : (w : World V) (o : CallWithOutcome V) (all es : Entries) (y : Actor) (z : Copy V) → Left w.words w.blocks y z es
      → ((d : ℕ × ℕ) → Contains es d → Contains all d) → Copied w (Loading o all) es
  left_copied w o all [] y z h sub = tt
  left_copied w o all (d ∷ es) y z h sub = (
    h.0,
    sub d (Contains-append_left (d ∷ []) es d (Contains-push [] d)),
    left_copied w o all es y z h.3 (λ e m. sub e (Contains-append_right (d ∷ []) es e m)),
  )

  now_copied : (w : World V) (asked : CollectionCall V) (editions : ℕ → ℕ) (ls : List ℕ) → ((l : ℕ) → w.boosted.editions l ≡ editions l)
      → ((l : ℕ) → IsIn l ls → is_plain w.words w.blocks l ≡ false) → Copied w (Copying asked) (with_editions editions ls)
  now_copied w asked editions [] is pl = tt
  now_copied w asked editions (l ∷ ls) is pl = (pl l (inl refl), is l, now_copied w asked editions ls is (λ i m. pl i (inr m)))

  -- ---- commits
  has_locked_for : (w u : World V) (a : ℕ) (x : Seat V) (n : told.Notice) → u.seats a ≡ x → x.stage ≡ Locking → TrueAt w a n
      → HasCause w a Locking (has_locked u a x n).0
  has_locked_for w u a x (told.LockedAt wv) seat st h = goes_on w u a (record x {
    stage = takes_gates []
        (written_homes u a);
    wv = wv;
  }) Locking
      (takes_on V [] (written_homes u a))
  has_locked_for w u a x (told.Busy l found) seat st h = cancels_for w u a x Locking (refusal.Busy l found) ((h.1, h.0.0), h.0.1)
  has_locked_for w u a x (told.Invalid l found) seat st h = cancels_for w u a x Locking (refusal.Invalid l found) ((h.1, h.0.0), h.0.1)
  has_locked_for w u a x n seat st h = same_on w u a x Locking seat (ap is_ending st)

  abbrev IsAnothers : World V → (a k : ℕ) → Type 0
  IsAnothers w a k = (b : ℕ) × (w.boosted.gates k ≡ Some b) × (b ≢ a)

  -- a try in vain: another holds the gate
  pub tried_in_vain : (w : World V) (a k : ℕ) → mine w.boosted a k ≡ false → is_none (w.boosted.gates k) ≡ false → IsAnothers w a k
  tried_in_vain w a k isnt taken = by_gate (w.boosted.gates k) refl
    where
      by_gate : (o : Option ℕ) → w.boosted.gates k ≡ o → IsAnothers w a k
      by_gate None e = absurd (true≢false (sym (ap is_none e) ∙ taken))
      by_gate (Some b) e = (b, e, λ same. true≢false (sym (ap (is_actor a) e ∙ eq-eqb a b (sym same)) ∙ isnt))

  gives_up_for : (w u : World V) (a : ℕ) (x : Seat V) (st : Stage V) (k : ℕ) (ks : List ℕ) → IsLastTry st k × IsAnothers w a k
      → HasCause w a st (gives_up u a (because x (refusal.GateBusy k)) ks).0
  gives_up_for w u a x st k [] h = cancels_for w u a x st (refusal.GateBusy k) h
  gives_up_for w u a x st k (i ∷ ks) h = λ q. (
    refusal.GateBusy k,
    ap (λ (s : Seat V). s.cause) (put-same u.seats a
        (at_stage (because x (refusal.GateBusy k)) (Returning (i ∷ ks)))),
    h,
  )

  tried_for : (w u : World V) (a : ℕ) (x : Seat V) (st : Stage V) (free : Bool) (k : ℕ) (got : List ℕ) (again : ℕ → Stage V)
      (next : Stage V) (tries : ℕ)
      → is_ending next ≡ false → ((m : ℕ) → is_ending (again m) ≡ false)
      → (tries ≡ 0 → free ≡ false → IsLastTry st k × IsAnothers w a k) → HasCause w a st (has_tried u a x free k got again next tries).0
  tried_for w u a x st free k got again next zero e f h =
      choose_for w a st free _ _ (λ _. goes_on w u a (at_stage x next) st e) (λ lost. gives_up_for w u a x st k got (h refl lost))
  tried_for w u a x st free k got again next (suc m) e f h =
      choose_for w a st free _ _ (λ _. goes_on w u a (at_stage x next) st e) (λ _. goes_on w u a (at_stage x (again m)) st (f m))

  goes_home_for : (w u : World V) (a : ℕ) (x : Seat V) (st : Stage V) (ks : List ℕ) → HasCause w a st (goes_home u a x ks).0
  goes_home_for w u a x st [] = goes_on w (acted u (asks a word.AskRelease ∷ [])) a (at_stage x Releasing) st refl
  goes_home_for w u a x st (k ∷ ks) = goes_on w u a (at_stage x (Homing (k ∷ ks))) st refl

  has_stored_for : (w u : World V) (a : ℕ) (x : Seat V) (st : Stage V) (ks : List ℕ) (n : told.Notice)
      → HasCause w a st (has_stored u a x ks n).0
  has_stored_for w u a x st ks told.Stored = goes_home_for w u a x st ks
  has_stored_for w u a x st ks n = goes_on w u a (at_stage x (Storing ks)) st refl

  has_released_for : (w u : World V) (a : ℕ) (x : Seat V) (n : told.Notice) → u.seats a ≡ x → x.stage ≡ Releasing
      → HasCause w a Releasing (has_released u a x n).0
  has_released_for w u a x told.Released seat st = goes_on w u a no_one Releasing refl
  has_released_for w u a x n seat st = same_on w u a x Releasing seat (ap is_ending st)

  has_begun_for : (w u : World V) (a : ℕ) (x : Seat V) (n : told.Notice) → u.seats a ≡ x → x.stage ≡ Beginning
      → HasCause w a Beginning (has_begun u a x n).0
  has_begun_for w u a x (told.Begun rv) seat st = goes_on w u a (record no_one { stage = Open; rv = rv }) Beginning refl
  has_begun_for w u a x (told.Exhausted clock) seat st = goes_on w u a no_one Beginning refl
  has_begun_for w u a x n seat st = same_on w u a x Beginning seat (ap is_ending st)

  pub step_for : (w : World V) (a : ℕ) (x : Seat V) (st : Stage V) → Linked w → w.seats a ≡ x → x.stage ≡ st → is_ending st ≡ false
      → ((j : ℕ) → mine w.boosted a j ≡ has (gates_of st) j)
      → StageOk w.words w.blocks x (w.boosted.words.actors a) (w.boosted.shadows a) st (w.boosted.words.actors a).place
      → HasCause w a st (step_at w a x st).0
  step_for w a x st k seat at on held h = by_stage st at on held h
    where
      y : Actor
      y = w.boosted.words.actors a

      said : TrueAt w a (word_notice w a)
      said = (notice_true w.boosted.words y y.place (k.base.inv.machine.actors a).place, notice_names w.boosted.words y y.place)

      u : World V
      u = acted w (moves a ∷ [])

      by_stage : (st : Stage V) → x.stage ≡ st → is_ending st ≡ false → ((j : ℕ) → mine w.boosted a j ≡ has (gates_of st) j)
          → StageOk w.words w.blocks x (w.boosted.words.actors a) (w.boosted.shadows a) st (w.boosted.words.actors a).place
          → HasCause w a st (step_at w a x st).0
      by_stage Idle at on held h = same_on w w a x Idle seat (ap is_ending at)
      by_stage Open at on held h = same_on w w a x Open seat (ap is_ending at)
      by_stage Beginning at on held h = has_begun_for w u a x (word_notice w a) seat at
      by_stage (Reading l) at on held h = has_read_for w u a x l (word_notice w a) seat at said
      by_stage (Trying asked tries) at on held h =
          let i = asked.collection in
          tried_for w (acted w (TakeGate a i ∷ [])) a x (Trying asked tries) (is_none (w.boosted.gates i)) i [] (λ n. Trying asked n)
          (Copying asked) tries
          refl (λ m. refl) (λ last lost. ((refl, last), tried_in_vain w a i (held i) lost))
      by_stage (Copying asked) at on held h =
          let which = covers_at w.words w.blocks asked in
          let put = acted w (PutGate a asked.collection which ∷ []) in
          let c = content {V = V} w.words w.blocks in
          let o = outcome_at put a asked in
          let same = put_words c w.boosted a asked.collection which in
          answers_for w put a x (with_piece x asked.collection (piece_at w.blocks asked)) (Copying asked) (sized_by put a asked o) o
          put.boosted.editions
          (now_copied w asked put.boosted.editions (c.reads o) (λ l. ap (λ (f : ℕ → ℕ). f l)
          (sym (put_editions w a asked.collection which)))
          (λ l m. (content_frame w.words w.blocks k.base.stripes).no_word o l m))
          (subst (λ (s : Words). AreRead w.words w.blocks (s.actors a)) (sym same) (kept_read w.words w.blocks y h.1.kept))
      by_stage (Loading o []) at on held h = absurd h
      by_stage (Loading o (d ∷ es)) at on held h =
          let z = w.boosted.shadows a in
          let k2 = at_move w a y z (mine w.boosted a) y.place (at_of w a k) refl (reading_quiet d.0 y.place h.0) in
          has_loaded_for w u a x y (learns w.boosted.words y (plan y y.place)) o d es (word_notice w a) k2.own.actor seat at
          (left_copied w o (d ∷ es) (d ∷ es) y z h.2.left (λ e m. m)) (kept_read w.words w.blocks y h.1.kept)
          (read_after w.boosted.words y d.0 y.place h.0) said
      by_stage Locking at on held h = has_locked_for w u a x (word_notice w a) seat at said
      by_stage (Gating got [] tries) at on held h = absurd h
      by_stage (Gating got (i ∷ ks) tries) at on held h =
          tried_for w (acted w (TakeGate a i ∷ [])) a x (Gating got (i ∷ ks) tries) (is_none (w.boosted.gates i)) i got
          (λ n. Gating got (i ∷ ks) n)
          (takes_gates (got ++ i ∷ []) ks) tries (takes_on V (got ++ i ∷ []) ks) (λ m. refl)
          (λ last lost. ((refl, last), tried_in_vain w a i (held i ∙ not_got got i ks h.1.differ) lost))
      by_stage (Ready ks) at on held h =
          let ready = acted w (asks a word.AskStore ∷ []) in
          has_stored_for w (recorded (acted ready (moves a ∷ [])) a x true x.wv) a x (Ready ks) ks (word_notice ready a)
      by_stage (Storing ks) at on held h = has_stored_for w u a x (Storing ks) ks (word_notice w a)
      by_stage (Homing []) at on held h = absurd h
      by_stage (Homing (i ∷ ks)) at on held h = goes_home_for w (acted w (GoHome a i ∷ [])) a x (Homing (i ∷ ks)) ks
      by_stage Releasing at on held h = has_released_for w u a x (word_notice w a) seat at
      by_stage Closing at on held h = goes_on w (recorded (acted w (moves a ∷ [])) a x false x.rv) a no_one Closing refl
      by_stage (Returning ks) at on held h = absurd (true≢false on)
      by_stage Cancelling at on held h = absurd (true≢false on)
      by_stage Leaving at on held h = absurd (true≢false on)

  -- ---- the cause remains, and is answered by the last step
  gives_up_keeps : (u : World V) (a : ℕ) (x : Seat V) (ks : List ℕ) → ((gives_up u a x ks).0.seats a).cause ≡ x.cause
  gives_up_keeps u a x [] =
      let v = acted u (asks a word.AskCancel ∷ asks a word.AskAbort ∷ []) in
      ap (λ (s : Seat V). s.cause) (put-same v.seats a (at_stage x (if is_leaving (actor_of v a).place then Leaving else Cancelling)))
  gives_up_keeps u a x (k ∷ ks) = ap (λ (s : Seat V). s.cause) (put-same u.seats a (at_stage x (Returning (k ∷ ks))))

  cancelled_keeps : (u : World V) (a : ℕ) (x : Seat V) (n : told.Notice) → u.seats a ≡ x
      → ((has_cancelled u a x n).0.seats a).cause ≡ x.cause
  cancelled_keeps u a x told.Cancelled seat = ap (λ (s : Seat V). s.cause) (put-same u.seats a (at_stage x Leaving))
  cancelled_keeps u a x n seat = ap (λ (s : Seat V). s.cause) seat

  cause_keeps : (w : World V) (a : ℕ) (x : Seat V) (st : Stage V) → w.seats a ≡ x → x.stage ≡ st → is_ending st ≡ true
      → is_ending ((step_at w a x st).0.seats a).stage ≡ true
      → ((step_at w a x st).0.seats a).cause ≡ x.cause
  cause_keeps w a x (Returning []) seat at e q = ap (λ (s : Seat V). s.cause) seat
  cause_keeps w a x (Returning (k ∷ ks)) seat at e q = gives_up_keeps (acted w (PutGate a k (λ l. false) ∷ [])) a x ks
  cause_keeps w a x Cancelling seat at e q = cancelled_keeps (acted w (moves a ∷ [])) a x (word_notice w a) seat
  cause_keeps w a x Leaving seat at e q = absurd (true≢false (sym q ∙ ap (λ (s : Seat V). is_ending s.stage) (put-same w.seats a no_one)))
  cause_keeps w a x st seat at e q = absurd (true≢false (sym e))

  pub keeps_cause : (w : World V) (a : ℕ) → is_ending (w.seats a).stage ≡ true → is_ending ((happens w (Step a)).0.seats a).stage ≡ true
      → ((happens w (Step a)).0.seats a).cause ≡ (w.seats a).cause
  keeps_cause w a e q = cause_keeps w a (w.seats a) (w.seats a).stage refl refl e q

  pub tells_cause : (w : World V) (a : ℕ) → (w.seats a).stage ≡ Leaving → (happens w (Step a)).1 ≡ why a (w.seats a).cause
  tells_cause w a e = ap (λ st. (step_at w a (w.seats a) st).1) e

  pub world_causes : (blocks : List Block) (clock : ℕ) (values : List ℕ) (held : List (Held V)) (events : List (Event V)) (a : ℕ)
      → HaveStripes blocks
      → let w = run (opened blocks clock values held) events in is_ending (w.seats a).stage ≡ false
      → HasCause w a (w.seats a).stage (happens w (Step a)).0
  world_causes blocks clock values held events a stripes on =
      let w = run (opened blocks clock values held) events in
      let k = run_linked events (opened blocks clock values held) (opened_linked blocks clock values held stripes) in
      step_for w a (w.seats a) (w.seats a).stage k refl refl on (k.seats a).gates (k.seats a).stage

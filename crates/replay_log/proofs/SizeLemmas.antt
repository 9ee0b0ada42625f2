-- Both sets of an actor have at most 4,096 locations at every moment.
--
-- `Sized` says it of each stage; besides, while a word is being read, that one more fits, and while a call is judged, that what is left
-- of its locations fits, which the definition tests just before (`has_room`). A location that is read then is new in the set
-- (`PlaceOk`), so what is left shrinks by what the set grows. The sets change by the load that begins, by the last load of a read and by
-- a write alone (`SetLemmas`).
use Rattle.std.proofs.Common.{◌≡◌, ℕ, zero, suc, ◌+◌, ◌<◌, ◌≤◌, Bool, true, false, cond, true≢false, not, ◌&&◌, ◌||◌, List, [], ◌∷◌, ◌++◌}
use Rattle.std.proofs.Common.{length, Option, Some, None, ◌⊎◌, inl, inr, refl, sym, ◌∙◌, ap, subst, arith, eqb}
use Rattle.std.specs.Prelude.{nat_lt, nat_le, if◌then◌else◌}
use Rattle.std.proofs.lemmas.Bool.{cond_both, cond-true, cond-false, cases_eq, and_parts}
use Rattle.std.proofs.lemmas.Bool.Decides.{nat_tests}
use Rattle.tx_sets.specs.Entries.{Entries, lookup, locations}
use Rattle.tx_sets.proofs.EntryLemmas.{length-with_entry_new}
use Rattle.tx_machine.specs.Actor as machine
use Rattle.tx_machine.specs.Actor.{Place, Actor, goes}
use Rattle.tx_machine.specs.Requests as word
use Rattle.tx_machine.specs.World as world
use Rattle.tx_machine.specs.World.{plan}
use Rattle.tx_machine.specs.Notices as told
use Rattle.tx_machine.specs.Notices.{read_reply}
use Rattle.tx_machine.proofs.Sets.{put-same}
use Rattle.seq_model.specs.declared.call.Op.{Op}
use Rattle.seq_model.specs.declared.call.Op.TheVariants.{Read, Write}
use Rattle.seq_model.specs.declared.call.Reply.TheVariants as reply
use Rattle.seq_model.specs.declared.held.Held.{Held}
use Rattle.seq_model.specs.declared.refusal.Refusal.TheVariants as refusal
use Rattle.seq_model.specs.declared.event.Event.{Event}
use Rattle.seq_model.specs.declared.event.Event.TheVariants.{Ask, Step, Starve}
use Rattle.seq_model.specs.declared.event.Request.{Request}
use Rattle.seq_model.specs.declared.event.Request.TheVariants as request
use Rattle.seq_model.specs.declared.event.Notice.TheVariants.{Refused}
use Rattle.seq_model.specs.declared.limits.TheConstants.{CALL_LIMIT}
use Rattle.seq_model.proofs.LogicLemmas.{nat_le-true, some-none}
use Rattle.tx_machine.specs.Content.{Content}
use Rattle.tx_machine.specs.Boosted.{Boosted, TakeGate, PutGate, GoHome, Accept, accepted, longer, writes_asked, is_open, is_none}
use Rattle.tx_machine.specs.Boosted.{is_sound, is_held, every, may_write, changes, on_words}
use Rattle.replay_log.specs.Base.{Shown}
use Rattle.replay_log.specs.Contents.{Block, CollectionCall, CallWithOutcome, HaveStripes, content}
use Rattle.replay_log.specs.Pieces.{piece_at, covers_at}
use Rattle.replay_log.specs.Worlds.{World, Seat, Stage, Idle, Beginning, Open, Locking, Releasing, Closing, Cancelling, Leaving, Reading}
use Rattle.replay_log.specs.Worlds.{Trying, Copying, Loading, Gating, Ready, Storing, Homing, Returning, After, new_in, fits, has_room}
use Rattle.replay_log.specs.Worlds.{with_editions, at_stage, because, seated, acted, asks, moves, actor_of, word_notice, no_one, is_leaving}
use Rattle.replay_log.specs.Worlds.{cancels, gives_up, with_call, reads, outcome_at, is_fresh, judges, loads, answers, calls_on, call_of}
use Rattle.replay_log.specs.Worlds.{reply_of, if_allowed, ask_op, commits, ask_idle, ask_open, ask_at, recorded, has_begun, has_read}
use Rattle.replay_log.specs.Worlds.{has_tried, with_piece, sized_by, outcome_now, differs, is_stale, has_loaded, written_homes, takes_gates}
use Rattle.replay_log.specs.Worlds.{has_locked, goes_home, has_stored, has_released, has_cancelled, step_at, starve_at, more_tries, happens}
use Rattle.replay_log.specs.Worlds.{run, opened}
use Rattle.replay_log.specs.WorldProgress.{AreSmall, whose, Nears}
use Rattle.replay_log.proofs.ActionLemmas.{learns}
use Rattle.replay_log.proofs.RequestLemmas.{happens_by}
use Rattle.replay_log.proofs.PlaceLemmas.{SameTx, AfterRead, read_after, reading_quiet}
use Rattle.replay_log.proofs.SeatLemmas.{Copy, AtLocking, AtStoring, StageOk, Linked, at_of}
use Rattle.replay_log.proofs.StageLemmas.{at_move}
use Rattle.replay_log.proofs.CallLemmas.{reading_none}
use Rattle.replay_log.proofs.EventLemmas.{happens_linked, opened_linked}
use Rattle.replay_log.proofs.CountLemmas.{read_fewer, locations_of, locations-cons}
use Rattle.replay_log.proofs.ProgressLemmas.{world_few}
use Rattle.replay_log.proofs.SetLemmas.{AreSmallSets, SameSets, small_same, IsNoWrite, IsNoRead, FitsWrites, writes_small}
use Rattle.replay_log.proofs.SetLemmas.{asked_write_small, moved_is, take_words, put_words, home_words, asked_sets, moved_sets}

-- one more location fits the read set, or none is kept
abbrev HasRoom : Actor → Type 0
HasRoom y = (y.declared ≡ true) ⊎ (length y.reads < 4096)

-- these fit the sets, or none are kept
abbrev Fit : Actor → (rs ws : List ℕ) → Type 0
Fit y rs ws = (y.declared ≡ true) ⊎ ((length y.reads + length (new_in y.reads rs) ≤ 4096)
    × (length y.writes + length (new_in y.writes ws) ≤ 4096))

read_longer : (declared : Bool) (es : Entries) (l v : ℕ) → lookup es l ≡ None → length (machine.with_read declared es l v) ≤ length es + 1
read_longer true es l v none = omega arith
read_longer false es l v none = (let e = length-with_entry_new es l v none in omega (arith, e))

read_kept : (y : Actor) (v : ℕ) (l : ℕ) → y.declared ≡ true → machine.with_read y.declared y.reads l v ≡ y.reads
read_kept y v l d = ap (λ b. machine.with_read b y.reads l v) d

-- a read joins the read set
has_read_small : (y : Actor) (l v : ℕ) → lookup y.reads l ≡ None → HasRoom y → AreSmallSets y → AreSmallSets (machine.has_read y l v)
has_read_small y l v none room h = (
  elim room [
    | inl d ↦ subst (λ (es : Entries). length es ≤ 4096) (sym (read_kept y v l d)) h.0
    | inr less ↦ (let q = read_longer y.declared y.reads l v none in omega (arith, less, q))
  ],
  h.1,
  h.2,
)

new_cons : (es : Entries) (l : ℕ) (ls : List ℕ) → lookup es l ≡ None → length (new_in es (l ∷ ls)) ≡ length (new_in es ls) + 1
new_cons es l ls none = let e = ap length (cond-true (is_none (lookup es l)) (l ∷ new_in es ls) (new_in es ls) (ap is_none none)) in omega
    (arith, e)

new_old : (es : Entries) (l v : ℕ) (ls : List ℕ) → lookup es l ≡ Some v → new_in es (l ∷ ls) ≡ new_in es ls
new_old es l v ls old = cond-false (is_none (lookup es l)) (l ∷ new_in es ls) (new_in es ls) (ap is_none old)

fit_room : (y : Actor) (l : ℕ) (ls ws : List ℕ) → lookup y.reads l ≡ None → Fit y (l ∷ ls) ws → HasRoom y
fit_room y l ls ws none f = elim f [
  | inl d ↦ inl d
  | inr q ↦ inr (let e = new_cons y.reads l ls none in let few = q.0 in omega
      (arith, e, few))
]

fit_read : (y : Actor) (l v : ℕ) (ls ws : List ℕ) → lookup y.reads l ≡ None → Fit y (l ∷ ls) ws → Fit (machine.has_read y l v) ls ws
fit_read y l v ls ws none f = elim f [
  | inl d ↦ inl d
  | inr q ↦ inr (
    (let e = new_cons y.reads l ls none in
        let few = q.0 in
        let longer = read_longer y.declared y.reads l v none in
        let fewer = read_fewer y.declared y.reads l v ls in omega (arith, e, few, longer, fewer)),
    q.1,
  )
]

fit_old : (y : Actor) (l v : ℕ) (ls ws : List ℕ) → lookup y.reads l ≡ Some v → Fit y (l ∷ ls) ws → Fit y ls ws
fit_old y l v ls ws old f = elim f [
  | inl d ↦ inl d
  | inr q ↦ inr (
    subst (λ (zs : List ℕ). length y.reads + length zs ≤ 4096)
        (new_old y.reads l v ls old) q.0,
    q.1,
  )
]

fit_same : (y z : Actor) (rs ws : List ℕ) → SameSets y z → z.declared ≡ y.declared → Fit y rs ws → Fit z rs ws
fit_same y z rs ws e d f = elim f [
  | inl q ↦ inl (d ∙ q)
  | inr q ↦ inr (
    subst (λ (es : Entries). length es + length (new_in es rs) ≤ 4096) (sym e.0) q.0,
    subst (λ (es : Entries). length es + length (new_in es ws) ≤ 4096) (sym e.1) q.1,
  )
]

-- what the test of the definition says
room_fits : (y : Actor) (rs ws : List ℕ) → has_room y rs ws ≡ true → Fit y rs ws
room_fits y rs ws h = by y.declared refl h
  where
    by : (b : Bool) → y.declared ≡ b → (b || (fits y.reads rs && fits y.writes ws)) ≡ true → Fit y rs ws
    by true e h = inl e
    by false e h = inr (let q = and_parts (fits y.reads rs) (fits y.writes ws) h in (nat_le-true _ 4096 q.0, nat_le-true _ 4096 q.1))

-- a read keeps what its actor declared
ask_read_declared : (y : Actor) (l : ℕ) (own seen : Option ℕ) → (word.read y l own seen).declared ≡ y.declared
ask_read_declared y l (Some v) seen = refl
ask_read_declared y l None (Some v) = refl
ask_read_declared y l None None = refl

writes_fit : (y : Actor) (rs ws : List ℕ) → Fit y rs ws → FitsWrites y ws
writes_fit y rs ws f = elim f [ inl d ↦ inl d | inr q ↦ inr q.1 ]

begun_small : (y : Actor) (clock : ℕ) → AreSmallSets y → AreSmallSets (machine.begun y clock)
begun_small y clock h =
    cond_both (nat_lt clock machine.clock_limit) (machine.opened y.declared clock) (goes y machine.Idle) AreSmallSets
    (λ _. (omega arith, omega arith, tt)) (λ _. h)

locking_no_read : (p : Place) → AtLocking p → IsNoRead p
locking_no_read (machine.Lock ls) h = tt
locking_no_read (machine.Take l k ls) h = tt
locking_no_read (machine.Check (l ∷ ls)) h = tt
locking_no_read p h = absurd h

storing_no_read : (p : Place) → AtStoring p → IsNoRead p
storing_no_read (machine.Store (l ∷ ls)) h = tt
storing_no_read p h = absurd h

module _ {V : Type 0} where
  abbrev Sized : ℕ → List Block → Stage V → Actor → Type 0
  Sized n bs (Reading l) y = AreSmallSets y × HasRoom y
  Sized n bs (Loading o es) y = AreSmallSets y × Fit y (locations es) ((content n bs).writes o)
  Sized n bs st y = AreSmallSets y

  abbrev pub SizedAt : World V → ℕ → Type 0
  SizedAt w a = Sized w.words w.blocks (w.seats a).stage (w.boosted.words.actors a)

  sized_small : (n : ℕ) (bs : List Block) (st : Stage V) (y : Actor) → Sized n bs st y → AreSmallSets y
  sized_small n bs (Reading l) y h = h.0
  sized_small n bs (Loading o es) y h = h.0
  sized_small n bs st y h = h

  abbrev SmallAt : World V → ℕ → Type 0
  SmallAt u a = AreSmallSets (u.boosted.words.actors a)

  seated_sized : (u : World V) (a : ℕ) (x : Seat V) → Sized u.words u.blocks x.stage (u.boosted.words.actors a) → SizedAt (seated u a x) a
  seated_sized u a x h = subst (λ (q : Seat V). Sized u.words u.blocks q.stage (u.boosted.words.actors a)) (sym (put-same u.seats a x)) h

  same_sized : (u : World V) (a : ℕ) (x : Seat V) (st : Stage V) → u.seats a ≡ x → x.stage ≡ st
      → Sized u.words u.blocks st (u.boosted.words.actors a) → SizedAt u a
  same_sized u a x st seat at h =
      subst (λ (q : Seat V). Sized u.words u.blocks q.stage (u.boosted.words.actors a)) (sym seat)
      (subst (λ s. Sized u.words u.blocks s (u.boosted.words.actors a)) (sym at) h)

  choose_sized : (a : ℕ) (b : Bool) (u v : After V) → (b ≡ true → SizedAt u.0 a) → (b ≡ false → SizedAt v.0 a) → SizedAt (cond b u v).0 a
  choose_sized a true u v h g = h refl
  choose_sized a false u v h g = g refl

  ask_small : (u : World V) (a : ℕ) (q : word.Request) → IsNoWrite q → SmallAt u a → SmallAt (acted u (asks a q ∷ [])) a
  ask_small u a q f h =
      let t = acted u (asks a q ∷ []) in
      small_same (u.boosted.words.actors a) (t.boosted.words.actors a) (asked_sets (content u.words u.blocks) u.boosted a q f) h

  move_small : (u : World V) (a : ℕ) → IsNoRead (u.boosted.words.actors a).place → SmallAt u a → SmallAt (acted u (moves a ∷ [])) a
  move_small u a f h =
      let t = acted u (moves a ∷ []) in
      small_same (u.boosted.words.actors a) (t.boosted.words.actors a) (moved_sets (content u.words u.blocks) u.boosted a f) h

  -- ---- the ends of a step
  cancels_sized : (u : World V) (a : ℕ) (x : Seat V) → SmallAt u a → SizedAt (cancels u a x) a
  cancels_sized u a x h =
      let v = acted u (asks a word.AskCancel ∷ asks a word.AskAbort ∷ []) in
      let small : SmallAt v a = ask_small (acted u (asks a word.AskCancel ∷ [])) a word.AskAbort tt (ask_small u a word.AskCancel tt h) in
      elim (is_leaving (v.boosted.words.actors a).place) as (λ b. SizedAt (seated v a (at_stage x (cond b Leaving Cancelling))) a) [
        | true ↦ seated_sized v a (at_stage x Leaving) small
        | false ↦ seated_sized v a (at_stage x Cancelling) small
      ]

  gives_up_sized : (u : World V) (a : ℕ) (x : Seat V) (ks : List ℕ) → SmallAt u a → SizedAt (gives_up u a x ks).0 a
  gives_up_sized u a x [] h = cancels_sized u a x h
  gives_up_sized u a x (k ∷ ks) h = seated_sized u a (at_stage x (Returning (k ∷ ks))) h

  -- ---- a call on a collection
  accept_small : (u : World V) (a : ℕ) (o : CallWithOutcome V) → o ≡ outcome_at u a o.asked → SmallAt u a
      → FitsWrites (u.boosted.words.actors a) ((content u.words u.blocks).writes o) → SmallAt (acted u (Accept a o.asked ∷ [])) a
  accept_small u a o is h f =
      let c = content u.words u.blocks in
      let s = u.boosted in
      let y = s.words.actors a in
      let written : Boosted (Shown V) (CallWithOutcome V) = record s {
        words = world.run
            (writes_asked a (s.shadows a).editions (c.writes o)) s.words;
        shadows = world.put s.shadows a (longer (s.shadows a) o);
      } in
      subst (λ q. AreSmallSets ((accepted c s a q).words.actors a)) is
      (cond_both (is_open y.place && (may_write y.declared (c.writes o) && every (is_sound c s a) (c.reads o))) written s
      (λ (t : Boosted (Shown V) (CallWithOutcome V)). AreSmallSets (t.words.actors a))
      (λ _. writes_small s.words a (s.shadows a).editions (c.writes o) h f) (λ _. h))

  fresh_sized : (u : World V) (a : ℕ) (x : Seat V) (d : ℕ × ℕ) (v : ℕ) (next : After V) → SmallAt u a → SizedAt next.0 a
      → SizedAt (is_fresh u a x d v next).0 a
  fresh_sized u a x d v next h n = choose_sized a (eqb d.1 v) next _ (λ _. n)
      (λ _. cancels_sized u a (because x (refusal.Stale d.0 d.1 v)) h)

  judges_sized : (u : World V) (a : ℕ) (x : Seat V) (o : CallWithOutcome V) (d : ℕ × ℕ) (es : Entries) (next : After V) (r : Option ℕ)
      → (u.boosted.words.actors a).place ≡ machine.Open → lookup (u.boosted.words.actors a).reads d.0 ≡ r
      → SmallAt u a → Fit (u.boosted.words.actors a) (locations (d ∷ es)) ((content u.words u.blocks).writes o)
      → ((v : ℕ) → r ≡ Some v → SizedAt next.0 a) → SizedAt (judges u a x o d es next r).0 a
  judges_sized u a x o d es next None e is h f n =
      let c = content u.words u.blocks in
      let y = u.boosted.words.actors a in
      let t = acted u (asks a (word.AskRead d.0) ∷ []) in
      let sets : SameSets y (t.boosted.words.actors a) = asked_sets c u.boosted a (word.AskRead d.0) tt in
      let asked : t.boosted.words.actors a ≡ word.ask y y.place (word.AskRead d.0) = put-same u.boosted.words.actors a
      (word.ask y y.place (word.AskRead d.0)) in
      let declared : (t.boosted.words.actors a).declared ≡ y.declared =
      ap (λ (q : Actor). q.declared) asked ∙ ap (λ p. (word.ask y p (word.AskRead d.0)).declared) e
      ∙ ask_read_declared y d.0 (lookup y.writes d.0) (lookup y.reads d.0) in
      seated_sized t a (at_stage x (Loading o (d ∷ es))) (
        small_same y (t.boosted.words.actors a) sets h,
        fit_same y (t.boosted.words.actors a) (locations (d ∷ es)) (c.writes o) sets declared f,
      )
  judges_sized u a x o d es next (Some v) e is h f n = fresh_sized u a x d v next h (n v refl)

  loads_sized : (es : Entries) (u : World V) (a : ℕ) (x : Seat V) (o : CallWithOutcome V) → (u.boosted.words.actors a).place ≡ machine.Open
      → o ≡ outcome_at u a o.asked
      → SmallAt u a → Fit (u.boosted.words.actors a) (locations es) ((content u.words u.blocks).writes o) → SizedAt (loads u a x o es).0 a
  loads_sized [] u a x o e is h f =
      seated_sized (acted u (Accept a o.asked ∷ [])) a (with_call x (call_of o) (reply_of o))
      (accept_small u a o is h (writes_fit (u.boosted.words.actors a) (locations []) ((content u.words u.blocks).writes o) f))
  loads_sized (d ∷ es) u a x o e is h f =
      let y = u.boosted.words.actors a in
      let ws = (content u.words u.blocks).writes o in
      judges_sized u a x o d es (loads u a x o es) (lookup (actor_of u a).reads d.0) e refl h f
      (λ v old. loads_sized es u a x o e is h (fit_old y d.0 v (locations es) ws old (subst (λ ls. Fit y ls ws) (locations-cons d es) f)))

  -- with a stale one among those that are judged without a step, the call is aborted at once
  differs_sized : (u : World V) (a : ℕ) (x : Seat V) (o : CallWithOutcome V) (d : ℕ × ℕ) (es : Entries) (next : After V) (others : Bool)
      (r : Option ℕ) → SmallAt u a → (others ≡ true → SizedAt next.0 a) → differs d others r ≡ true
      → SizedAt (judges u a x o d es next r).0 a
  differs_sized u a x o d es next others None h n e = absurd (true≢false (sym e))
  differs_sized u a x o d es next others (Some v) h n e =
      choose_sized a (eqb d.1 v) next _ (λ same. n (sym (cond-true (eqb d.1 v) others true same) ∙ e))
      (λ _. cancels_sized u a (because x (refusal.Stale d.0 d.1 v)) h)

  stale_sized : (es : Entries) (u : World V) (a : ℕ) (x : Seat V) (o : CallWithOutcome V) → SmallAt u a
      → is_stale (u.boosted.words.actors a).reads es ≡ true → SizedAt (loads u a x o es).0 a
  stale_sized [] u a x o h e = absurd (true≢false (sym e))
  stale_sized (d ∷ es) u a x o h e =
      let reads = (u.boosted.words.actors a).reads in
      differs_sized u a x o d es (loads u a x o es) (is_stale reads es) (lookup reads d.0) h (stale_sized es u a x o h) e

  -- the locations of a call fit the sets, or it is aborted at once
  abbrev FitsOrEnds : Content (Shown V) (CollectionCall V) (CallWithOutcome V) → Actor → CallWithOutcome V → (ℕ → ℕ) → Type 0
  FitsOrEnds c y o editions = Fit y (c.reads o) (c.writes o) ⊎ (is_stale y.reads (with_editions editions (c.reads o)) ≡ true)

  sized_fits : (c : Content (Shown V) (CollectionCall V) (CallWithOutcome V)) (y : Actor) (now o : CallWithOutcome V) (editions : ℕ
      → ℕ) (b : Bool)
      → is_stale y.reads (with_editions editions (c.reads o)) ≡ b
      → let sized = if b then now else o in has_room y (c.reads sized) (c.writes sized) ≡ true → FitsOrEnds c y o editions
  sized_fits c y now o editions true e room = inr e
  sized_fits c y now o editions false e room = inl (room_fits y (c.reads o) (c.writes o) room)

  answers_sized : (u : World V) (a : ℕ) (before x : Seat V) (asked : CollectionCall V) (sized : CallWithOutcome V) (editions : ℕ → ℕ)
      → (u.boosted.words.actors a).place ≡ machine.Open → SmallAt u a
      → (let c = content u.words u.blocks in
      let y = u.boosted.words.actors a in
      has_room y (c.reads sized) (c.writes sized) ≡ true → FitsOrEnds c y (outcome_at u a asked) editions)
      → SizedAt (answers u a before x sized (outcome_at u a asked) editions).0 a
  answers_sized u a before x asked sized editions e h ends =
      let c = content u.words u.blocks in
      let o = outcome_at u a asked in
      let y = u.boosted.words.actors a in
      let es = with_editions editions (c.reads o) in
      choose_sized a (has_room y (c.reads sized) (c.writes sized)) (loads u a x o es)
      (seated u a (at_stage before Open), Refused a refusal.TooLong)
      (λ room. elim (ends room) [
        | inl fit ↦ loads_sized es u a x o e refl h (subst (λ ls. Fit y ls (c.writes o)) (sym (locations_of editions (c.reads o))) fit)
        | inr stale ↦ stale_sized es u a x o h stale
      ])
      (λ _. seated_sized u a (at_stage before Open) h)

  calls_on_sized : (u : World V) (a : ℕ) (x : Seat V) (asked : CollectionCall V) → (u.boosted.words.actors a).place ≡ machine.Open
      → SmallAt u a
      → SizedAt (calls_on u a x asked).0 a
  calls_on_sized u a x asked e h =
      choose_sized a (x.copied asked.collection (piece_at u.blocks asked)) _ _
      (λ _. let c = content u.words u.blocks in
      let o = outcome_at u a asked in
      answers_sized u a x x asked o (u.boosted.shadows a).editions e h
      (λ room. inl (room_fits (u.boosted.words.actors a) (c.reads o) (c.writes o) room)))
      (λ _. seated_sized u a (at_stage x (Trying asked more_tries)) h)

  -- a load of a call: z is the actor after it
  has_loaded_sized : (u : World V) (a : ℕ) (x : Seat V) (y z : Actor) (o : CallWithOutcome V) (d : ℕ × ℕ) (es : Entries) (n : told.Notice)
      → u.boosted.words.actors a ≡ z
      → u.seats a ≡ x → x.stage ≡ Loading o (d ∷ es) → AreSmallSets y → Fit y (locations (d ∷ es)) ((content u.words u.blocks).writes o)
      → lookup y.reads d.0 ≡ None → o ≡ outcome_at u a o.asked → AfterRead d.0 y z n → SizedAt (has_loaded u a x o d es n).0 a
  has_loaded_sized u a x y z o d es told.Quiet e seat st h f none is after =
      let t : SameTx y z = after.1 in
      same_sized u a x (Loading o (d ∷ es)) seat st (subst (λ (q : Actor). AreSmallSets q
      × Fit q (locations (d ∷ es)) ((content u.words u.blocks).writes o)) (sym e) (
        small_same y z (t.reads, t.writes) h,
        fit_same y z (locations (d ∷ es)) ((content u.words u.blocks).writes o) (t.reads, t.writes) t.declared f,
      ))
  has_loaded_sized u a x y z o d es (told.Number v) e seat st h f none is after =
      let ws = (content u.words u.blocks).writes o in
      let more = subst (λ ls. Fit y ls ws) (locations-cons d es) f in
      let now : u.boosted.words.actors a ≡ machine.has_read y d.0 v = e ∙ after in
      let small : SmallAt u a = subst AreSmallSets (sym now) (has_read_small y d.0 v none (fit_room y d.0 (locations es) ws none more) h) in
      fresh_sized u a x d v (loads u a x o es) small
      (loads_sized es u a x o (ap (λ (q : Actor). q.place) now) is small
      (subst (λ (q : Actor). Fit q (locations es) ws) (sym now) (fit_read y d.0 v (locations es) ws none more)))
  has_loaded_sized u a x y z o d es (told.Moved i found) e seat st h f none is after =
      cancels_sized u a (because x (refusal.Moved i found)) (subst AreSmallSets (sym (e ∙ after)) h)
  has_loaded_sized u a x y z o d es n e seat st h f none is after = absurd after

  -- ---- a word
  has_read_sized : (u : World V) (a : ℕ) (x : Seat V) (y z : Actor) (l : ℕ) (n : told.Notice) → u.boosted.words.actors a ≡ z
      → u.seats a ≡ x → x.stage ≡ Reading l
      → AreSmallSets y → HasRoom y → lookup y.reads l ≡ None → AfterRead l y z n → SizedAt (has_read u a x l n).0 a
  has_read_sized u a x y z l told.Quiet e seat st h room none after =
      let t : SameTx y z = after.1 in
      same_sized u a x (Reading l) seat st (subst (λ (q : Actor). AreSmallSets q × HasRoom q) (sym e) (
        small_same y z (t.reads, t.writes) h,
        elim room [ inl d ↦ inl (t.declared ∙ d) | inr less ↦ inr (subst (λ (es : Entries). length es < 4096) (sym t.reads) less) ],
      ))
  has_read_sized u a x y z l (told.Number v) e seat st h room none after =
      seated_sized u a (with_call x (record { target = l; op = Read }) (reply.Number v))
      (subst AreSmallSets (sym (e ∙ after)) (has_read_small y l v none room h))
  has_read_sized u a x y z l (told.Moved i found) e seat st h room none after =
      cancels_sized u a (because x (refusal.Moved i found)) (subst AreSmallSets (sym (e ∙ after)) h)
  has_read_sized u a x y z l n e seat st h room none after = absurd after

  reads_sized : (w : World V) (a : ℕ) (x : Seat V) (l : ℕ) (own seen : Option ℕ) → SmallAt w a
      → (w.boosted.words.actors a).place ≡ machine.Open
      → lookup (w.boosted.words.actors a).writes l ≡ own → lookup (w.boosted.words.actors a).reads l ≡ seen
      → ((w.boosted.words.actors a).declared || (not (is_none own) || fits (w.boosted.words.actors a).reads (l ∷ []))) ≡ true
      → SizedAt (reads w a x l (read_reply own seen)).0 a
  reads_sized w a x l (Some v) seen h e is is2 room =
      seated_sized (acted w (asks a (word.AskRead l) ∷ [])) a (with_call x (record { target = l; op = Read }) (reply.Number v))
      (ask_small w a (word.AskRead l) tt h)
  reads_sized w a x l None (Some v) h e is is2 room =
      seated_sized (acted w (asks a (word.AskRead l) ∷ [])) a (with_call x (record { target = l; op = Read }) (reply.Number v))
      (ask_small w a (word.AskRead l) tt h)
  reads_sized w a x l None None h e is is2 room =
      let y = w.boosted.words.actors a in
      let t = acted w (asks a (word.AskRead l) ∷ []) in
      let now : t.boosted.words.actors a ≡ goes y (machine.Look l) =
      put-same w.boosted.words.actors a (word.ask y y.place (word.AskRead l)) ∙ ap (λ p. word.ask y p (word.AskRead l)) e
      ∙ ap (λ o. word.read y l o (lookup y.reads l)) is ∙ ap (word.read y l None) is2 in
      seated_sized t a (at_stage x (Reading l)) (subst (λ (q : Actor). AreSmallSets q × HasRoom q) (sym now) (h, by y.declared refl room))
    where
      by : (b : Bool) → (w.boosted.words.actors a).declared ≡ b → (b || fits (w.boosted.words.actors a).reads (l ∷ [])) ≡ true
          → HasRoom (w.boosted.words.actors a)
      by true d room = inl d
      by false d room =
          let y = w.boosted.words.actors a in
          let few = nat_le-true (length y.reads + length (new_in y.reads (l ∷ []))) 4096 room in
          let one = new_cons y.reads l [] is2 in inr (omega (arith, few, one))

  allowed_sized : (w : World V) (a : ℕ) (x : Seat V) (known room : Bool) (next : After V) → SizedAt w a → (room ≡ true → SizedAt next.0 a)
      → SizedAt (if_allowed w a x known room next).0 a
  allowed_sized w a x known room next h n =
      choose_sized a known _ _ (λ _. choose_sized a (nat_lt (length x.calls) CALL_LIMIT && room) next _
      (λ both. n (and_parts (nat_lt (length x.calls) CALL_LIMIT) room both).1) (λ _. h)) (λ _. h)

  write_sized : (w : World V) (a : ℕ) (x : Seat V) (l v : ℕ) → SmallAt w a → fits (w.boosted.words.actors a).writes (l ∷ []) ≡ true
      → SizedAt (seated (acted w (asks a (word.AskWrite l v) ∷ [])) a (with_call x (record { target = l; op = Write v }) reply.Done)) a
  write_sized w a x l v h room =
      let c = content {V = V} w.words w.blocks in
      let s = w.boosted in
      let y = s.words.actors a in
      let z = word.ask y y.place (word.AskWrite l v) in
      let few = nat_le-true (length y.writes + length (new_in y.writes (l ∷ []))) 4096 room in
      let small : AreSmallSets z = asked_write_small y y.place l v h (inr few) in
      seated_sized (acted w (asks a (word.AskWrite l v) ∷ [])) a (with_call x (record { target = l; op = Write v }) reply.Done)
      (cond_both (c.plain l) (record s { words = world.now s.words a z }) s
      (λ (t : Boosted (Shown V) (CallWithOutcome V)). AreSmallSets (t.words.actors a))
      (λ _. subst AreSmallSets (sym (put-same s.words.actors a z)) small) (λ _. h))

  op_sized : (w : World V) (a : ℕ) (x : Seat V) (t : ℕ) (op : Op V) → SizedAt w a → SmallAt w a
      → (w.boosted.words.actors a).place ≡ machine.Open → SizedAt (ask_op w a x t op).0 a
  op_sized w a x t Read k h e =
      let y = w.boosted.words.actors a in
      allowed_sized w a x _ (y.declared || (not (is_none (lookup y.writes t)) || fits y.reads (t ∷ []))) _ k
      (λ room. subst (λ n. SizedAt (reads w a x t n).0 a) (sym (ap (λ p. told.reply y p (word.AskRead t)) e))
      (reads_sized w a x t (lookup y.writes t) (lookup y.reads t) h e refl refl room))
  op_sized w a x t (Write v) k h e = allowed_sized w a x _ (fits (w.boosted.words.actors a).writes (t ∷ [])) _ k
      (λ room. write_sized w a x t v h room)
  op_sized w a x t op k h e = allowed_sized w a x _ true _ k (λ _. calls_on_sized w a x (record { collection = t; op = op }) e h)

  -- ---- requests
  commits_sized : (w : World V) (a : ℕ) (x : Seat V) (es : Entries) → SmallAt w a → SizedAt (commits w a x es).0 a
  commits_sized w a x [] h = seated_sized (acted w (asks a word.AskClose ∷ [])) a (at_stage x Closing) (ask_small w a word.AskClose tt h)
  commits_sized w a x (e ∷ es) h = seated_sized (acted w (asks a word.AskLock ∷ [])) a (at_stage x Locking)
      (ask_small w a word.AskLock tt h)

  idle_sized : (w : World V) (a : ℕ) (x : Seat V) (q : Request V) → SizedAt w a → SmallAt w a → SizedAt (ask_idle w a x q).0 a
  idle_sized w a x request.Begin k h = seated_sized (acted w (asks a word.AskBegin ∷ [])) a (at_stage x Beginning)
      (ask_small w a word.AskBegin tt h)
  idle_sized w a x request.BeginRead k h = seated_sized (acted w (asks a word.AskBeginRead ∷ [])) a (at_stage x Beginning)
      (ask_small w a word.AskBeginRead tt h)
  idle_sized w a x q k h = k

  open_sized : (w : World V) (a : ℕ) (x : Seat V) (q : Request V) → SizedAt w a → SmallAt w a
      → (w.boosted.words.actors a).place ≡ machine.Open → SizedAt (ask_open w a x q).0 a
  open_sized w a x request.Begin k h e = k
  open_sized w a x request.BeginRead k h e = k
  open_sized w a x (request.Call call) k h e = op_sized w a x call.target call.op k h e
  open_sized w a x request.Commit k h e = commits_sized w a x (actor_of w a).writes h
  open_sized w a x request.Abort k h e = cancels_sized w a (record x { cause = None }) h

  ask_sized : (w : World V) (a : ℕ) (x : Seat V) (st : Stage V) (q : Request V) → SizedAt w a → SmallAt w a
      → StageOk w.words w.blocks x (w.boosted.words.actors a) (w.boosted.shadows a) st (w.boosted.words.actors a).place
      → SizedAt (ask_at w a x st q).0 a
  ask_sized w a x Idle q k h ok = idle_sized w a x q k h
  ask_sized w a x Open q k h ok = open_sized w a x q k h ok.0
  ask_sized w a x st q k h ok = k

  starve_sized : (w : World V) (a : ℕ) (x : Seat V) (st : Stage V) → SizedAt w a → SmallAt w a → SizedAt (starve_at w a x st).0 a
  starve_sized w a x Beginning k h = seated_sized (acted w (asks a word.AskAbort ∷ [])) a no_one (ask_small w a word.AskAbort tt h)
  starve_sized w a x (Reading l) k h = gives_up_sized w a (because x refusal.Memory) [] h
  starve_sized w a x (Trying asked tries) k h = gives_up_sized w a (because x refusal.Memory) [] h
  starve_sized w a x (Copying asked) k h = gives_up_sized w a (because x refusal.Memory) (asked.collection ∷ []) h
  starve_sized w a x (Loading o es) k h = gives_up_sized w a (because x refusal.Memory) [] h
  starve_sized w a x Locking k h = gives_up_sized w a (because x refusal.Memory) [] h
  starve_sized w a x (Gating got ks tries) k h = gives_up_sized w a (because x refusal.Memory) got h
  starve_sized w a x (Ready ks) k h = gives_up_sized w a (because x refusal.Memory) ks h
  starve_sized w a x Closing k h = gives_up_sized w a (because x refusal.Memory) [] h
  starve_sized w a x st k h = k

  -- ---- steps
  tried_sized : (u : World V) (a : ℕ) (x : Seat V) (free : Bool) (k : ℕ) (got : List ℕ) (again : ℕ → Stage V) (next : Stage V) (tries : ℕ)
      → SmallAt u a
      → Sized u.words u.blocks next (u.boosted.words.actors a) → ((m : ℕ) → Sized u.words u.blocks (again m) (u.boosted.words.actors a))
      → SizedAt (has_tried u a x free k got again next tries).0 a
  tried_sized u a x free k got again next zero h n m =
      choose_sized a free _ _ (λ _. seated_sized u a (at_stage x next) n) (λ _. gives_up_sized u a (because x (refusal.GateBusy k)) got h)
  tried_sized u a x free k got again next (suc j) h n m =
      choose_sized a free _ _ (λ _. seated_sized u a (at_stage x next) n) (λ _. seated_sized u a (at_stage x (again j)) (m j))

  takes_sized : (x : Seat V) (n : ℕ) (bs : List Block) (got ks : List ℕ) (y : Actor) → AreSmallSets y
      → Sized n bs (takes_gates {V = V} got ks) y
  takes_sized x n bs got [] y h = h
  takes_sized x n bs got (k ∷ ks) y h = h

  has_locked_sized : (u : World V) (a : ℕ) (x : Seat V) (n : told.Notice) → SizedAt u a → SmallAt u a → SizedAt (has_locked u a x n).0 a
  has_locked_sized u a x (told.LockedAt wv) k h =
      seated_sized u a (record x { stage = takes_gates [] (written_homes u a); wv = wv })
      (takes_sized x u.words u.blocks [] (written_homes u a) (u.boosted.words.actors a) h)
  has_locked_sized u a x (told.Busy l found) k h = cancels_sized u a (because x (refusal.Busy l found)) h
  has_locked_sized u a x (told.Invalid l found) k h = cancels_sized u a (because x (refusal.Invalid l found)) h
  has_locked_sized u a x n k h = k

  goes_home_sized : (u : World V) (a : ℕ) (x : Seat V) (ks : List ℕ) → SmallAt u a → SizedAt (goes_home u a x ks).0 a
  goes_home_sized u a x [] h = seated_sized (acted u (asks a word.AskRelease ∷ [])) a (at_stage x Releasing)
      (ask_small u a word.AskRelease tt h)
  goes_home_sized u a x (k ∷ ks) h = seated_sized u a (at_stage x (Homing (k ∷ ks))) h

  has_stored_sized : (u : World V) (a : ℕ) (x : Seat V) (ks : List ℕ) (n : told.Notice) → SmallAt u a → SizedAt (has_stored u a x ks n).0 a
  has_stored_sized u a x ks told.Stored h = goes_home_sized u a x ks h
  has_stored_sized u a x ks n h = seated_sized u a (at_stage x (Storing ks)) h

  has_released_sized : (u : World V) (a : ℕ) (x : Seat V) (n : told.Notice) → SizedAt u a → SmallAt u a → SizedAt (has_released u a x n).0 a
  has_released_sized u a x told.Released k h = seated_sized u a no_one h
  has_released_sized u a x n k h = k

  has_cancelled_sized : (u : World V) (a : ℕ) (x : Seat V) (n : told.Notice) → SizedAt u a → SmallAt u a
      → SizedAt (has_cancelled u a x n).0 a
  has_cancelled_sized u a x told.Cancelled k h = seated_sized (acted u (asks a word.AskAbort ∷ [])) a (at_stage x Leaving)
      (ask_small u a word.AskAbort tt h)
  has_cancelled_sized u a x n k h = k

  has_begun_sized : (u : World V) (a : ℕ) (x : Seat V) (n : told.Notice) → SizedAt u a → SmallAt u a → SizedAt (has_begun u a x n).0 a
  has_begun_sized u a x (told.Begun rv) k h = seated_sized u a (record no_one { stage = Open; rv = rv }) h
  has_begun_sized u a x (told.Exhausted clock) k h = seated_sized u a no_one h
  has_begun_sized u a x n k h = k

  -- where the first value store is asked for
  first_no_read : (w : World V) (a : ℕ) → (w.boosted.words.actors a).place ≡ machine.Check []
      → IsNoRead ((acted w (asks a word.AskStore ∷ [])).boosted.words.actors a).place
  first_no_read w a e =
      let c = content {V = V} w.words w.blocks in
      let s = w.boosted in
      let y = s.words.actors a in
      let z = word.ask y y.place word.AskStore in
      cond_both (every (is_held c s a) (locations y.writes)) (on_words s (world.now s.words a z)) s
      (λ (t : Boosted (Shown V) (CallWithOutcome V)). IsNoRead (t.words.actors a).place)
      (λ _. subst (λ (q : Actor). IsNoRead q.place) (sym (put-same s.words.actors a z ∙ ap (λ p. word.ask y p word.AskStore) e)) tt)
      (λ _. subst IsNoRead (sym e) tt)

  step_sized : (w : World V) (a : ℕ) (x : Seat V) (st : Stage V) → Linked w → w.seats a ≡ x → x.stage ≡ st → SizedAt w a
      → Sized w.words w.blocks st (w.boosted.words.actors a)
      → StageOk w.words w.blocks x (w.boosted.words.actors a) (w.boosted.shadows a) st (w.boosted.words.actors a).place
      → SizedAt (step_at w a x st).0 a
  step_sized w a x st k seat at now h ok = by_stage st at h ok
    where
      y : Actor
      y = w.boosted.words.actors a

      u : World V
      u = acted w (moves a ∷ [])

      -- a step at a place that neither begins nor reads
      moved : AreSmallSets y → (p : Place) → y.place ≡ p → IsNoRead p → SmallAt u a
      moved h p e f = move_small w a (subst IsNoRead (sym e) f) h

      by_stage : (st : Stage V) → x.stage ≡ st → Sized w.words w.blocks st (w.boosted.words.actors a)
          → StageOk w.words w.blocks x (w.boosted.words.actors a) (w.boosted.shadows a) st (w.boosted.words.actors a).place
          → SizedAt (step_at w a x st).0 a
      by_stage Idle at h ok = now
      by_stage Open at h ok = now
      by_stage Beginning at h ok =
          let begins : u.boosted.words.actors a ≡ machine.begun y w.boosted.words.clock = moved_is w.boosted a y y.place refl
          ∙ ap (λ p. learns w.boosted.words y (plan y p)) ok in
          let small : SmallAt u a = subst AreSmallSets (sym begins) (begun_small y w.boosted.words.clock h) in
          has_begun_sized u a x (word_notice w a) (same_sized u a x Beginning seat at small) small
      by_stage (Reading l) at h ok =
          let z = w.boosted.shadows a in
          let k2 = at_move w a y z _ y.place (at_of w a k) refl (reading_quiet l y.place ok.0) in
          has_read_sized u a x y (learns w.boosted.words y (plan y y.place)) l (word_notice w a) k2.own.actor seat at h.0 h.1
          (reading_none w.boosted.words y l y.place ok.0 (k.base.inv.machine.actors a).place) (read_after w.boosted.words y l y.place ok.0)
      by_stage (Trying asked tries) at h ok =
          let t = acted w (TakeGate a asked.collection ∷ []) in
          let small : SmallAt t a = subst (λ (s : world.World). AreSmallSets (s.actors a))
          (sym (take_words (content w.words w.blocks) w.boosted a asked.collection)) h in
          tried_sized t a x _ asked.collection [] (λ n. Trying asked n) (Copying asked) tries small small (λ m. small)
      by_stage (Copying asked) at h ok =
          let which = covers_at w.words w.blocks asked in
          let t = acted w (PutGate a asked.collection which ∷ []) in
          let same = put_words (content w.words w.blocks) w.boosted a asked.collection which in
          let c = content {V = V} w.words w.blocks in
          let o = outcome_at t a asked in
          answers_sized t a x (with_piece x asked.collection (piece_at w.blocks asked)) asked (sized_by t a asked o) t.boosted.editions
          (ap (λ (s : world.World). (s.actors a).place) same ∙ ok.0)
          (subst (λ (s : world.World). AreSmallSets (s.actors a)) (sym same) h)
          (sized_fits c (t.boosted.words.actors a) (outcome_now t asked) o t.boosted.editions
          (is_stale (t.boosted.words.actors a).reads (with_editions t.boosted.editions (c.reads o))) refl)
      by_stage (Loading o []) at h ok = absurd ok
      by_stage (Loading o (d ∷ es)) at h ok =
          let z = w.boosted.shadows a in
          let c = content w.words w.blocks in
          let k2 = at_move w a y z _ y.place (at_of w a k) refl (reading_quiet d.0 y.place ok.0) in
          has_loaded_sized u a x y (learns w.boosted.words y (plan y y.place)) o d es (word_notice w a) k2.own.actor seat at h.0 h.1
          (reading_none w.boosted.words y d.0 y.place ok.0 (k.base.inv.machine.actors a).place)
          (ok.2.is ∙ ap (λ (q : Copy V). c.outcome (changes c q.outcomes q.parts) o.asked) (sym k2.own.shadow))
          (read_after w.boosted.words y d.0 y.place ok.0)
      by_stage Locking at h ok =
          let small = move_small w a (locking_no_read y.place ok.0) h in has_locked_sized u a x (word_notice w a)
          (same_sized u a x Locking seat at small) small
      by_stage (Gating got [] tries) at h ok = now
      by_stage (Gating got (i ∷ ks) tries) at h ok =
          let t = acted w (TakeGate a i ∷ []) in
          let small : SmallAt t a = subst (λ (s : world.World). AreSmallSets (s.actors a))
          (sym (take_words (content w.words w.blocks) w.boosted a i)) h in
          tried_sized t a x _ i got (λ n. Gating got (i ∷ ks) n) (takes_gates (got ++ i ∷ []) ks) tries small
          (takes_sized x t.words t.blocks (got ++ i ∷ []) ks (t.boosted.words.actors a) small) (λ m. small)
      by_stage (Ready ks) at h ok =
          let ready = acted w (asks a word.AskStore ∷ []) in
          let small : SmallAt ready a = ask_small w a word.AskStore tt h in
          has_stored_sized (recorded (acted ready (moves a ∷ [])) a x true x.wv) a x ks (word_notice ready a)
          (move_small ready a (first_no_read w a ok.0) small)
      by_stage (Storing ks) at h ok = has_stored_sized u a x ks (word_notice w a) (move_small w a (storing_no_read y.place ok.0) h)
      by_stage (Homing []) at h ok = now
      by_stage (Homing (i ∷ ks)) at h ok =
          goes_home_sized (acted w (GoHome a i ∷ [])) a x ks (subst (λ (s : world.World). AreSmallSets (s.actors a))
          (sym (home_words (content w.words w.blocks) w.boosted a i)) h)
      by_stage Releasing at h ok =
          let small = moved h machine.Release ok.0 tt in has_released_sized u a x (word_notice w a)
          (same_sized u a x Releasing seat at small) small
      by_stage Closing at h ok = seated_sized (recorded u a x false x.rv) a no_one (moved h machine.Close ok.0 tt)
      by_stage (Returning []) at h ok = now
      by_stage (Returning (i ∷ ks)) at h ok =
          gives_up_sized (acted w (PutGate a i (λ l. false) ∷ [])) a x ks
          (subst (λ (s : world.World). AreSmallSets (s.actors a)) (sym (put_words (content w.words w.blocks) w.boosted a i (λ l. false))) h)
      by_stage Cancelling at h ok =
          let small = moved h machine.Undo ok.0 tt in has_cancelled_sized u a x (word_notice w a)
          (same_sized u a x Cancelling seat at small) small
      by_stage Leaving at h ok = seated_sized
          (record u { aborted = w.aborted ++ record { actor = a; rv = x.rv; calls = x.calls; cause = x.cause } ∷ [] }) a no_one
          (moved h machine.Leave ok.0 tt)

  -- ---- events
  own_sized : (w : World V) (e : Event V) → Linked w → SizedAt w (whose e) → SizedAt (happens w e).0 (whose e)
  own_sized w (Ask a q) k h =
      ask_sized w a (w.seats a) (w.seats a).stage q h (sized_small w.words w.blocks (w.seats a).stage (w.boosted.words.actors a) h)
      (k.seats a).stage
  own_sized w (Step a) k h = step_sized w a (w.seats a) (w.seats a).stage k refl refl h h (k.seats a).stage
  own_sized w (Starve a) k h = starve_sized w a (w.seats a) (w.seats a).stage h
      (sized_small w.words w.blocks (w.seats a).stage (w.boosted.words.actors a) h)

  happens_sized : (w : World V) (e : Event V) → Linked w → ((a : ℕ) → SizedAt w a) → (a : ℕ) → SizedAt (happens w e).0 a
  happens_sized w e k h a =
      elim (cases_eq a (whose e)) [
        | inl same ↦ subst (SizedAt (happens w e).0) (sym same) (own_sized w e k (h (whose e)))
        | inr ne ↦ (
            let r = happens_by w e in
            subst (λ n. Sized n (happens w e).0.blocks ((happens w e).0.seats a).stage ((happens w e).0.boosted.words.actors a))
            (sym r.reached.words)
            (subst (λ bs. Sized w.words bs ((happens w e).0.seats a).stage ((happens w e).0.boosted.words.actors a)) (sym r.reached.blocks)
            (subst (λ (x : Seat V). Sized w.words w.blocks x.stage ((happens w e).0.boosted.words.actors a)) (sym (r.seats a ne))
            (subst (λ (y : Actor). Sized w.words w.blocks (w.seats a).stage y) (sym (r.actors a ne)) (h a))))
            )
      ]

  run_sized : (es : List (Event V)) (w : World V) → Linked w → ((a : ℕ) → SizedAt w a) → (a : ℕ) → SizedAt (run w es) a
  run_sized [] w k h = h
  run_sized (e ∷ es) w k h = run_sized es (happens w e).0 (happens_linked w e k) (happens_sized w e k h)

  pub world_small : (blocks : List Block) (clock : ℕ) (values : List ℕ) (held : List (Held V)) (events : List (Event V)) (a : ℕ)
      → HaveStripes blocks
      → let w = run (opened blocks clock values held) events in (length (actor_of w a).reads ≤ 4096) × (length (actor_of w a).writes ≤ 4096)
  world_small blocks clock values held events a stripes =
      let o = opened blocks clock values held in
      let w = run o events in
      let h = run_sized events o (opened_linked blocks clock values held stripes) (λ b. (omega arith, omega arith, tt)) a in
      let small = sized_small w.words w.blocks (w.seats a).stage (w.boosted.words.actors a) h in (small.0, small.1)

  -- each request that is asked is few steps from its answer
  pub world_soon : (blocks : List Block) (clock : ℕ) (values : List ℕ) (held : List (Held V)) (events : List (Event V)) (a : ℕ)
      (q : Request V) → HaveStripes blocks → AreSmall blocks
      → let w = run (opened blocks clock values held) events in Nears a 1000000 (happens w (Ask a q))
  world_soon blocks clock values held events a q stripes small =
      let few = world_small blocks clock values held events a stripes in
      world_few blocks clock values held events stripes small a q few.0 few.1

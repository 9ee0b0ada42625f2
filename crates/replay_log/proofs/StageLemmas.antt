-- Each step, request and failed allocation keeps what a world has of its machine: one lemma for each function of the definition, in its
-- order. The lemma takes the actor's own seat, record, shadow and gates as variables with their invariant, does the actions of that
-- function, and gives the invariant of the stage that it leads to; the other actors are handled once.
use Rattle.std.proofs.Common.{◌≡◌, ℕ, zero, suc, ◌<◌, Bool, true, false, cond, not, ◌&&◌, ◌||◌, List, [], ◌∷◌, ◌++◌, filter, Some, ◌⊎◌, inl}
use Rattle.std.proofs.Common.{inr, refl, sym, ◌∙◌, ap, subst, true≢false, arith, eqb, eq-eqb, ne_eqb, None}
use Rattle.std.specs.Prelude.{nat_lt, if◌then◌else◌, ◌==◌}
use Rattle.std.proofs.lemmas.Bool.{cases_eq, cases_Bool, cond_both, cond-true, cond-false}
use Rattle.std.proofs.lemmas.Bool.Decides.{nat_tests}
use Rattle.std.proofs.lemmas.List.{append-nil, append_assoc}
use Rattle.std.proofs.lemmas.Option.{none-some}
use Rattle.tx_sets.specs.Entries.{Entries, lookup, locations}
use Rattle.tx_machine.specs.Actor as machine
use Rattle.tx_machine.specs.Actor.{Place, Actor, goes}
use Rattle.tx_machine.specs.Requests as word
use Rattle.tx_machine.specs.World as world
use Rattle.tx_machine.specs.World.{plan, step_end}
use Rattle.tx_machine.specs.Notices as told
use Rattle.tx_machine.specs.Notices.{notice}
use Rattle.tx_machine.proofs.Sets.{Member, member_locations, locations_member}
use Rattle.tx_machine.proofs.Invariant.{IsSomeEntry, PlaceOk}
use Rattle.seq_model.specs.declared.call.Op.TheVariants.{Read}
use Rattle.seq_model.specs.declared.call.Reply.TheVariants as reply
use Rattle.seq_model.specs.declared.record.Record.{Record}
use Rattle.seq_model.specs.declared.refusal.Refusal.{Refusal}
use Rattle.seq_model.specs.declared.refusal.Refusal.TheVariants as refusal
use Rattle.seq_model.specs.declared.event.Notice.TheVariants.{Quiet}
use Rattle.seq_model.specs.Runs.{insert_record}
use Rattle.seq_model.proofs.LogicLemmas.{nat_lt-true, lt-nat_lt}
use Rattle.tx_machine.specs.Content.{IsIn, has}
use Rattle.tx_machine.specs.Boosted.{Boosted, TakeGate, PutGate, GoHome, shadows_after, is_open, is_stored, is_committing, is_actor}
use Rattle.tx_machine.specs.Boosted.{is_held, is_given, every, fresh, copied, acts, is_none}
use Rattle.tx_machine.proofs.BoostedSchedules.{acts_led}
use Rattle.replay_log.specs.Base.{Shown}
use Rattle.replay_log.specs.Contents.{Block, CollectionCall, CallWithOutcome, end_of, home_of, is_plain, content}
use Rattle.replay_log.specs.Worlds.{World, Seat, Stage, Open, Locking, Releasing, Cancelling, Leaving, Reading, Trying, Copying, Gating}
use Rattle.replay_log.specs.Worlds.{Ready, Storing, Homing, Ended, After, at_stage, because, seated, acted, asks, moves, word_notice}
use Rattle.replay_log.specs.Worlds.{no_one, recorded, with_call, has_begun, has_read, has_tried, takes_gates, has_locked, goes_home}
use Rattle.replay_log.specs.Worlds.{has_stored, has_released, has_cancelled, gives_up, stores, ended, all_of, distinct, with_new}
use Rattle.replay_log.proofs.ContentLemmas.{content_frame}
use Rattle.tx_machine.specs.Opacity.{first_read}
use Rattle.replay_log.proofs.ReadLemmas.{in_set, first_read-other, kept_at}
use Rattle.replay_log.proofs.ActionLemmas.{Commits, Leaves, Tried, mine, learns, with_gate, without_gate, begun_shadow, step_goes}
use Rattle.replay_log.proofs.ActionLemmas.{step_commits, step_leaves, begin_goes, store_goes, release_goes, take_tried, put_goes, home_goes}
use Rattle.replay_log.proofs.MixedLemmas.{Parts, SameRecord, SameRecords, insert_same}
use Rattle.replay_log.proofs.PlaceLemmas.{IsQuiet, quiet_outcome, quiet_shadows, leaving_rests, SameTx, AfterRead, AfterLock, AfterStore}
use Rattle.replay_log.proofs.PlaceLemmas.{first_after, AfterRelease, AfterUndo}
use Rattle.replay_log.proofs.SeatLemmas.{Copy, CanLeave, Differ, Differ-front, InTx, Sound, Live, KnownAsk, Covers, CommitOk, gates_of}
use Rattle.replay_log.proofs.SeatLemmas.{StageOk, SeatOk, SameEnded, SameEnded-push, Linked, At, at_of, linked_same, linked_seated}
use Rattle.replay_log.proofs.SeatLemmas.{others_by, at_by, at_ask, cancels_linked, gives_up_linked, word_joins}

-- ---- lists of gates
pub push_has : (ks : List ℕ) (k j : ℕ) → (if j == k then true else has ks j) ≡ has (ks ++ k ∷ []) j
push_has [] k j = refl
push_has (i ∷ ks) k j =
    elim (eqb j i) as (λ b. cond (eqb j k) true (cond b true (has ks j)) ≡ cond b true (has (ks ++ k ∷ []) j)) [
      | true ↦ elim (eqb j k) as (λ b. cond b true true ≡ true) [ true ↦ refl | false ↦ refl ]
      | false ↦ push_has ks k j
    ]

pub pop_has : (ks : List ℕ) (k j : ℕ) → has ks k ≡ false → (if j == k then false else has (k ∷ ks) j) ≡ has ks j
pop_has ks k j e =
    elim (cases_eq j k) [
      | inl same ↦ cond-true (eqb j k) false (has (k ∷ ks) j) (eq-eqb j k same) ∙ sym (ap (has ks) same ∙ e)
      | inr other ↦ cond-false (eqb j k) false (has (k ∷ ks) j) (ne_eqb j k other) ∙ cond-false (eqb j k) true (has ks j) (ne_eqb j k other)
    ]

pub first_has : (k : ℕ) (ks : List ℕ) → has (k ∷ ks) k ≡ true
first_has k ks = cond-true (eqb k k) true (has ks k) (eq-eqb k k refl)

tail_has : (k j : ℕ) (ks : List ℕ) → has ks j ≡ true → has (k ∷ ks) j ≡ true
tail_has k j ks h = elim (eqb j k) as (λ b. cond b true (has ks j) ≡ true) [ true ↦ refl | false ↦ h ]

with_new_differ : (x : ℕ) (xs : List ℕ) → Differ xs → Differ (with_new x xs)
with_new_differ x xs d =
    cond_both (has xs x) xs (x ∷ xs) Differ (λ _. d) (λ e. (e, d))

distinct_differ : (xs : List ℕ) → Differ (distinct xs)
distinct_differ [] = tt
distinct_differ (x ∷ xs) = with_new_differ x (distinct xs) (distinct_differ xs)

in_with_new : (x j : ℕ) (xs : List ℕ) → (j ≡ x) ⊎ (has xs j ≡ true) → has (with_new x xs) j ≡ true
in_with_new x j xs h =
    cond_both (has xs x) xs (x ∷ xs) (λ ks. has ks j ≡ true)
    (λ e. elim h [ inl same ↦ ap (has xs) same ∙ e | inr m ↦ m ])
    (λ _. elim h [ inl same ↦ ap (has (x ∷ xs)) same ∙ first_has x xs | inr m ↦ tail_has x j xs m ])

in_distinct : (xs : List ℕ) (j : ℕ) → Member j xs → has (distinct xs) j ≡ true
in_distinct [] j m = absurd m
in_distinct (x ∷ xs) j m = in_with_new x j (distinct xs) (elim m [ inl e ↦ inl e | inr r ↦ inr (in_distinct xs j r) ])

in_homes : (f : ℕ → ℕ) (test : ℕ → Bool) (ls : List ℕ) (l : ℕ) → Member l ls → test l ≡ true → Member (f l) (all_of f (filter test ls))
in_homes f test [] l m e = absurd m
in_homes f test (k ∷ ls) l m e =
    cond_both (test k) (k ∷ filter test ls) (filter test ls) (λ ks. Member (f l) (all_of f ks))
    (λ _. elim m [ inl same ↦ inl (ap f same) | inr r ↦ inr (in_homes f test ls l r e) ])
    (λ out. elim m [ inl same ↦ absurd (true≢false (sym (ap test (sym same) ∙ e) ∙ out)) | inr r ↦ in_homes f test ls l r e ])

pub every_all : (test : ℕ → Bool) (ls : List ℕ) → ((l : ℕ) → Member l ls → test l ≡ true) → every test ls ≡ true
every_all test [] h = refl
every_all test (l ∷ ls) h = ap (λ b. b && every test ls) (h l (inl refl)) ∙ every_all test ls (λ k m. h k (inr m))

pub every_read : (test : ℕ → Bool) (ls : List ℕ) → ((l : ℕ) → IsIn l ls → test l ≡ true) → every test ls ≡ true
every_read test [] h = refl
every_read test (l ∷ ls) h = ap (λ b. b && every test ls) (h l (inl refl)) ∙ every_read test ls (λ k m. h k (inr m))

some_entry : (h : Entries) → IsSomeEntry h → (d : ℕ × ℕ) × (es : Entries) × (h ≡ d ∷ es)
some_entry [] some = absurd some
some_entry (d ∷ es) some = (d, es, refl)

pub plain_word : (n : ℕ) (bs : List Block) (l : ℕ) → l < n → is_plain n bs l ≡ true
plain_word n bs l lt = ap (λ b. b || not (nat_lt l (end_of n bs))) (lt-nat_lt l n lt)

Homes-ok : (n : ℕ) (bs : List Block) (y : Actor) → Covers n bs y (distinct
    (all_of (home_of n bs) (filter (λ l. not (is_plain n bs l)) (locations y.writes))))
Homes-ok n bs y l v pl h = in_distinct (all_of (home_of n bs) (filter (λ i. not (is_plain n bs i)) (locations y.writes))) (home_of n bs l)
    (in_homes (home_of n bs) (λ i. not (is_plain n bs i)) (locations y.writes) l (member_locations y.writes l v h) (ap not pl))

-- a word's location is none of a collection
pub no_word : (n : ℕ) (bs : List Block) (l i : ℕ) → l < n → is_plain n bs i ≡ false → i ≡ l → ⊥
no_word n bs l i lt pl same = true≢false (sym (plain_word n bs l lt) ∙ ap (is_plain n bs) (sym same) ∙ pl)

nothing_kept : (declared : Bool) (l : ℕ) → lookup [] l ≡ in_set declared None
unfolding lookup
nothing_kept true l = refl
nothing_kept false l = refl

or_true : (b : Bool) → (b || true) ≡ true
or_true true = refl
or_true false = refl

-- the gates that are left
pub gates_left : (g : ℕ → Bool) (i : ℕ) (ks : List ℕ) → ((k : ℕ) → g k ≡ has (i ∷ ks) k) → has ks i ≡ false → (j : ℕ) → without_gate g i j
    ≡ has ks j
gates_left g i ks held differ j = ap (λ b. cond (eqb j i) false b) (held j) ∙ pop_has ks i j differ

module _ {V : Type 0} where
  -- ---- helpers
  -- the seat is as it was
  pub same_seat : (w : World V) (a : ℕ) (x : Seat V) (y : Actor) (z : Copy V) (g : ℕ → Bool) (st : Stage V) → At w a y z g → w.seats a ≡ x
      → x.stage ≡ st
      → ((k : ℕ) → g k ≡ has (gates_of st) k)
      → StageOk w.words w.blocks x y z st y.place → Linked w
  same_seat w a x y z g st k seat at_st held h =
      linked_same w a y z g k (subst (λ (u : Seat V). SeatOk w.words w.blocks u y z g) (sym seat) (record {
        gates = λ i. held i ∙ ap (λ s. has (gates_of s) i) (sym at_st);
        stage = subst (λ s. StageOk w.words w.blocks x y z s y.place) (sym at_st) h;
      }))

  pub at_move : (w : World V) (a : ℕ) (y : Actor) (z : Copy V) (g : ℕ → Bool) (p : Place) → At w a y z g → y.place ≡ p → IsQuiet p
      → At (acted w (moves a ∷ [])) a (learns w.boosted.words y (plan y p)) z g
  at_move w a y z g p k e q =
      let u = w.boosted.words.actors a in
      at_by w a y (learns w.boosted.words u (plan u p)) (learns w.boosted.words y (plan y p)) z (w.boosted.shadows a) z g
      (mine w.boosted a) g (moves a) k
      (step_goes w.boosted a p (ap (λ (v : Actor). v.place) k.own.actor ∙ e) (quiet_outcome a u p q) (quiet_shadows w.boosted a p q))
      (ap (λ (v : Actor). learns w.boosted.words v (plan v p)) k.own.actor) k.own.shadow k.own.gates

  pub tells : (w : World V) (a : ℕ) (y : Actor) (z : Copy V) (g : ℕ → Bool) (p : Place) → At w a y z g → y.place ≡ p
      → word_notice w a ≡ notice w.boosted.words y p
  tells w a y z g p k e = ap (λ (v : Actor). notice w.boosted.words v v.place) k.own.actor ∙ ap (notice w.boosted.words y) e

  pub same_live : (n : ℕ) (bs : List Block) (x : Seat V) (y y2 : Actor) (z : Copy V) → SameTx y y2 → Live n bs x y z → Live n bs x y2 z
  same_live n bs x y y2 z s l = record {
    tx = (l.tx.0 ∙ sym s.rv, subst (λ (cs : List machine.Call). Parts n x.calls cs z.outcomes) (sym s.calls) l.tx.1);
    sound = subst (λ (cs : List machine.Call). (i e : ℕ) → is_plain n bs i ≡ false → first_read cs i ≡ Some e → (z.copied i ≡ true)
        × (z.editions i ≡ e)) (sym s.calls) l.sound;
    kept = λ i p.
        ap (λ (es : Entries). lookup es i) s.reads ∙ l.kept i p
        ∙ sym (ap (λ b. in_set b (first_read y2.calls i)) s.declared
        ∙ ap (λ (cs : List machine.Call). in_set y.declared (first_read cs i)) s.calls);
    pieces = l.pieces;
  }

  pub same_in_tx : (n : ℕ) (x : Seat V) (y y2 : Actor) (z : Copy V) → SameTx y y2 → InTx n x y z → InTx n x y2 z
  same_in_tx n x y y2 z s t = (t.0 ∙ sym s.rv, subst (λ (cs : List machine.Call). Parts n x.calls cs z.outcomes) (sym s.calls) t.1)

  -- ---- begin
  begun_linked : (u : World V) (s : Boosted (Shown V) (CallWithOutcome V)) (a : ℕ) (x : Seat V) (y : Actor) (g : ℕ
      → Bool) (clock : ℕ) (b : Bool)
      → ((k : ℕ) → g k ≡ false)
      → At u a (cond b (machine.opened y.declared clock) (goes y machine.Idle)) (cond b (fresh s) (s.shadows a)) g
      → Linked (has_begun u a x (cond b (told.Begun clock) (told.Exhausted clock))).0
  begun_linked u s a x y g clock true none k =
      linked_seated u a (record no_one { stage = Open; rv = clock }) (machine.opened y.declared clock) (fresh s) g k (record {
        gates = none;
        stage = (
          refl,
          record {
            tx = (refl, record { words = refl; held = tt });
            sound = λ l e pl h. absurd (none-some e h);
            kept = λ l pl. nothing_kept y.declared l;
            pieces = λ i p h. absurd (true≢false (sym h));
          },
        );
      })
  begun_linked u s a x y g clock false none k = linked_seated u a no_one (goes y machine.Idle) (s.shadows a) g k
      (record { gates = none; stage = refl })

  pub begin_step : (w : World V) (a : ℕ) (x : Seat V) → Linked w → (w.boosted.words.actors a).place ≡ machine.Begin
      → ((k : ℕ) → mine w.boosted a k ≡ false)
      → Linked (has_begun (acted w (moves a ∷ [])) a x (word_notice w a)).0
  begin_step w a x k e none =
      let s = w.boosted in
      let y = s.words.actors a in
      let b = nat_lt s.words.clock machine.clock_limit in
      let at : At (acted w (moves a ∷ [])) a (machine.begun y s.words.clock) (begun_shadow s a b) (mine s a) =
      at_by w a y (machine.begun y s.words.clock) (machine.begun y s.words.clock) (s.shadows a) (begun_shadow s a b) (begun_shadow s a b)
      (mine s a)
      (mine s a) (mine s a) (moves a) (at_of w a k)
      (begin_goes s a e) refl refl (λ i. refl) in
      subst (λ n. Linked (has_begun (acted w (moves a ∷ [])) a x n).0)
      (sym (tells w a y (s.shadows a) (mine s a) machine.Begin (at_of w a k) e))
      (begun_linked (acted w (moves a ∷ [])) s a x y (mine s a) s.words.clock b none at)

  -- ---- a word is read
  pub sound_word : (n : ℕ) (bs : List Block) (y : Actor) (z : Copy V) (l v : ℕ) → l < n → Sound n bs y z
      → Sound n bs (machine.has_read y l v) z
  sound_word n bs y z l v lt s i e pl h =
      s i e pl (sym (first_read-other y.calls l v i (no_word n bs l i lt pl)) ∙ h)

  read_live : (n : ℕ) (bs : List Block) (x : Seat V) (y : Actor) (z : Copy V) (l v : ℕ) → l < n → Live n bs x y z
      → Live n bs (with_call x (record { target = l; op = Read }) (reply.Number v)) (machine.has_read y l v) z
  read_live n bs x y z l v lt h = record {
    tx = (h.tx.0, word_joins n x.calls y.calls z.outcomes (machine.Read l v) (lt-nat_lt l n lt) h.tx.1);
    sound = sound_word n bs y z l v lt h.sound;
    kept = λ i p. kept_at y.declared y.reads y.calls l v i (h.kept i p) (λ same. absurd (no_word n bs l i lt p same))
        (λ same. absurd (no_word n bs l i lt p same));
    pieces = h.pieces;
  }

  undone_live : (n : ℕ) (x : Seat V) (y : Actor) (z : Copy V) → InTx n x y z → InTx n x (goes y machine.Undo) z
  undone_live n x y z t = t

  -- a transaction that was refused, and holds no gate
  pub refused_linked : (u : World V) (a : ℕ) (x : Seat V) (y y2 : Actor) (z : Copy V) (g : ℕ → Bool) (cause : Refusal) (p : Place)
      → At u a y2 z g
      → ((k : ℕ) → g k ≡ false) → y2 ≡ goes y p → CanLeave p → InTx u.words x y z
      → Linked (gives_up u a (because x cause) []).0
  refused_linked u a x y y2 z g cause p k none e leave tx =
      cancels_linked u a (because x cause) y2 z g k none (subst (λ (v : Actor). CanLeave v.place) (sym e) leave)
      (subst (λ (v : Actor). InTx u.words (because x cause) v z) (sym e) tx)

  pub has_read_linked : (u : World V) (a : ℕ) (x : Seat V) (y y2 : Actor) (z : Copy V) (g : ℕ → Bool) (l : ℕ) (n : told.Notice)
      → At u a y2 z g
      → ((k : ℕ) → g k ≡ false) → u.seats a ≡ x → x.stage ≡ Reading l
      → l < u.words → Live u.words u.blocks x y z → AfterRead l y y2 n → Linked (has_read u a x l n).0
  has_read_linked u a x y y2 z g l told.Quiet k none seat st lt live h =
      same_seat u a x y2 z g (Reading l) k seat st none (h.0, lt, same_live u.words u.blocks x y y2 z h.1 live)
  has_read_linked u a x y y2 z g l (told.Number v) k none seat st lt live h =
      linked_seated u a (with_call x (record { target = l; op = Read }) (reply.Number v)) y2 z g k (record {
        gates = none;
        stage = subst (λ (q : Actor). (q.place ≡ machine.Open) × Live u.words u.blocks
            (with_call x (record { target = l; op = Read }) (reply.Number v)) q z) (sym h)
            (refl, read_live u.words u.blocks x y z l v lt live);
      })
  has_read_linked u a x y y2 z g l (told.Moved i found) k none seat st lt live h = refused_linked u a x y y2 z g
      (refusal.Moved i found) machine.Undo k none h tt live.tx
  has_read_linked u a x y y2 z g l n k none seat st lt live h = absurd h

  -- ---- locks, stamp and check
  -- the gates that are got, and those still to be
  takes_linked : (u : World V) (a : ℕ) (x : Seat V) (y : Actor) (z : Copy V) (g : ℕ → Bool) (got ks : List ℕ) → At u a y z g → y.place
      ≡ machine.Check []
      → ((k : ℕ) → g k ≡ has got k)
      → CommitOk u.words u.blocks x y z (got ++ ks) → Linked (seated u a (at_stage x (takes_gates got ks)))
  takes_linked u a x y z g got [] k e held h =
      linked_seated u a (at_stage x (Ready got)) y z g k (record {
        gates = held;
        stage = (
          e,
          let q : CommitOk u.words u.blocks x y z got = subst (CommitOk u.words u.blocks x y z)
              (append-nil got) h in record { wv = q.wv; differ = q.differ; covers = q.covers; tx = q.tx },
        );
      })
  takes_linked u a x y z g got (i ∷ ks) k e held h =
      linked_seated u a (at_stage x (takes_gates got (i ∷ ks))) y z g k
      (record { gates = held; stage = (e, record { wv = h.wv; differ = h.differ; covers = h.covers; tx = h.tx }) })

  pub has_locked_linked : (u : World V) (a : ℕ) (x : Seat V) (y y2 : Actor) (z : Copy V) (g : ℕ → Bool) (n : told.Notice) → At u a y2 z g
      → ((k : ℕ) → g k ≡ false) → u.seats a ≡ x → x.stage ≡ Locking
      → InTx u.words x y z → AfterLock y y2 n → Linked (has_locked u a x n).0
  has_locked_linked u a x y y2 z g told.Quiet k none seat st tx h = same_seat u a x y2 z g Locking k seat st none
      (h.0, same_in_tx u.words x y y2 z h.1 tx)
  has_locked_linked u a x y y2 z g (told.LockedAt wv) k none seat st tx h =
      let homes = λ (v : Actor). distinct
      (all_of (home_of u.words u.blocks) (filter (λ l. not (is_plain u.words u.blocks l)) (locations v.writes))) in
      let x2 : Seat V = record x { wv = wv } in
      subst (λ (v : Actor). Linked (seated u a (at_stage x2 (takes_gates [] (homes v))))) (sym k.own.actor)
      (takes_linked u a x2 y2 z g [] (homes y2) k h.0 none (record {
        wv = h.1;
        differ = distinct_differ
            (all_of (home_of u.words u.blocks) (filter (λ l. not (is_plain u.words u.blocks l)) (locations y2.writes)));
        covers = Homes-ok u.words u.blocks y2;
        tx = same_in_tx u.words x2 y y2 z h.2 tx;
      }))
  has_locked_linked u a x y y2 z g (told.Busy l found) k none seat st tx h = refused_linked u a x y y2 z g
      (refusal.Busy l found) machine.Broken k none h tt tx
  has_locked_linked u a x y y2 z g (told.Invalid l found) k none seat st tx h = refused_linked u a x y y2 z g
      (refusal.Invalid l found) machine.Broken k none h tt tx
  has_locked_linked u a x y y2 z g n k none seat st tx h = absurd h

  -- ---- gates
  -- a gate was tried: where it was free a has it with its others, else those that it had
  pub gate_tried : (w : World V) (a i : ℕ) (y : Actor) (z : Copy V) (g : ℕ → Bool) → At w a y z g → is_committing y.place ≡ false
      → let u = acted w (TakeGate a i ∷ []) in
      (is_none (w.boosted.gates i) ≡ true → At u a y z (with_gate g i)) × (is_none (w.boosted.gates i) ≡ false → At u a y z g)
  gate_tried w a i y z g k rests =
      let s = w.boosted in
      let t : Tried (content w.words w.blocks) s (acts (content w.words w.blocks) s (TakeGate a i)) a i =
      take_tried (content w.words w.blocks) s a i (ap (λ (v : Actor). is_committing v.place) k.own.actor ∙ rests) in (
        λ e. at_by w a y (s.words.actors a) y z (s.shadows a) z g (with_gate (mine s a) i) (with_gate g i) (TakeGate a i) k
            (t.won e) k.own.actor k.own.shadow
            (λ j. ap (λ b. cond (eqb j i) true b) (k.own.gates j)),
        λ e. at_by w a y (s.words.actors a) y z (s.shadows a) z g (mine s a) g (TakeGate a i) k
            (t.lost e) k.own.actor k.own.shadow k.own.gates,
      )

  pub choose : (b : Bool) (u v : After V) → (b ≡ true → Linked u.0) → (b ≡ false → Linked v.0) → Linked (cond b u v).0
  choose true u v h g = h refl
  choose false u v h g = g refl

  tried_linked : (u : World V) (a : ℕ) (x : Seat V) (free : Bool) (i : ℕ) (got : List ℕ) (again : ℕ → Stage V) (next : Stage V) (tries : ℕ)
      → (free ≡ true → Linked (seated u a (at_stage x next)))
      → (free ≡ false → Linked (gives_up u a (because x (refusal.GateBusy i)) got).0)
      → (free ≡ false → (m : ℕ) → Linked (seated u a (at_stage x (again m)))) → Linked (has_tried u a x free i got again next tries).0
  tried_linked u a x free i got again next zero won last more = choose free (seated u a (at_stage x next), Quiet)
      (gives_up u a (because x (refusal.GateBusy i)) got) won last
  tried_linked u a x free i got again next (suc m) won last more =
      choose free (seated u a (at_stage x next), Quiet) (seated u a (at_stage x (again m)), Quiet) won (λ e. more e m)

  pub trying_step : (w : World V) (a : ℕ) (x : Seat V) (y : Actor) (z : Copy V) (g : ℕ → Bool) (asked : CollectionCall V) (tries : ℕ)
      → At w a y z g → ((k : ℕ) → g k ≡ false) → y.place ≡ machine.Open
      → Live w.words w.blocks x y z → KnownAsk w.blocks y asked
      → Linked (has_tried (acted w (TakeGate a asked.collection ∷ [])) a x
      (is_none (w.boosted.gates asked.collection)) asked.collection [] (λ n. Trying asked n) (Copying asked) tries).0
  trying_step w a x y z g asked tries k none e live known =
      let u = acted w (TakeGate a asked.collection ∷ []) in
      let t = gate_tried w a asked.collection y z g k (ap is_committing e) in
      tried_linked u a x (is_none (w.boosted.gates asked.collection)) asked.collection [] (λ n. Trying asked n) (Copying asked) tries
      (λ won. linked_seated u a (at_stage x (Copying asked)) y z (with_gate g asked.collection) (t.0 won) (record {
        gates = λ j. ap (λ b. cond (eqb j asked.collection) true b) (none j);
        stage = (e, record { tx = live.tx; sound = live.sound; kept = live.kept; pieces = live.pieces }, known);
      }))
      (λ lost. cancels_linked u a (because x (refusal.GateBusy asked.collection)) y z g (t.1 lost) none (subst CanLeave (sym e) tt) live.tx)
      (λ lost m. linked_seated u a (at_stage x (Trying asked m)) y z g (t.1 lost)
      (record {
        gates = none;
        stage = (e, record { tx = live.tx; sound = live.sound; kept = live.kept; pieces = live.pieces }, known);
      }))

  pub gating_step : (w : World V) (a : ℕ) (x : Seat V) (y : Actor) (z : Copy V) (g : ℕ → Bool) (got : List ℕ) (i : ℕ) (ks : List ℕ)
      (tries : ℕ)
      → At w a y z g → ((k : ℕ) → g k ≡ has got k)
      → y.place ≡ machine.Check [] → CommitOk w.words w.blocks x y z (got ++ i ∷ ks)
      → Linked (has_tried (acted w (TakeGate a i ∷ [])) a x (is_none (w.boosted.gates i)) i got (λ n. Gating got (i ∷ ks) n)
      (takes_gates (got ++ i ∷ []) ks) tries).0
  gating_step w a x y z g got i ks tries k held e h =
      let u = acted w (TakeGate a i ∷ []) in
      let t = gate_tried w a i y z g k (ap is_committing e) in
      tried_linked u a x (is_none (w.boosted.gates i)) i got (λ n. Gating got (i ∷ ks) n) (takes_gates (got ++ i ∷ []) ks) tries
      (λ won. takes_linked u a x y z (with_gate g i) (got ++ i ∷ []) ks (t.0 won) e
      (λ j. ap (λ b. cond (eqb j i) true b) (held j) ∙ push_has got i j)
      (subst (CommitOk w.words w.blocks x y z) (sym (append_assoc got (i ∷ []) ks)) h))
      (λ lost. gives_up_linked u a (because x (refusal.GateBusy i)) y z g got (t.1 lost) held (Differ-front got (i ∷ ks) h.differ)
      (subst CanLeave (sym e) tt) h.tx)
      (λ lost m. linked_seated u a (at_stage x (Gating got (i ∷ ks) m)) y z g (t.1 lost) (record {
        gates = held;
        stage = (e, record { wv = h.wv; differ = h.differ; covers = h.covers; tx = h.tx });
      }))

  -- a gate is put back while nothing is being committed; a transaction that calls has copied what the gate covers
  pub gate_put : (w : World V) (a i : ℕ) (which : ℕ → Bool) (y : Actor) (z : Copy V) (g : ℕ → Bool) → At w a y z g → g i ≡ true
      → is_committing y.place ≡ false
      → At (acted w (PutGate a i which ∷ [])) a y
      (if is_open y.place then copied (content w.words w.blocks) w.boosted y.calls z i which else z) (without_gate g i)
  gate_put w a i which y z g k e rests =
      let s = w.boosted in
      let c = content w.words w.blocks in
      let u = s.words.actors a in
      let copy = λ (v : Actor) (q : Copy V). if is_open v.place then copied c s v.calls q i which else q in
      at_by w a y u y z (copy u (s.shadows a)) (copy y z) g (without_gate (mine s a) i) (without_gate g i) (PutGate a i which) k
      (put_goes c s a i which (k.own.gates i ∙ e) (ap (λ (v : Actor). is_committing v.place) k.own.actor ∙ rests))
      k.own.actor (ap (λ (v : Actor). copy v (s.shadows a)) k.own.actor ∙ ap (copy y) k.own.shadow)
      (λ j. ap (λ b. cond (eqb j i) false b) (k.own.gates j))

  put_outcomes : (w : World V) (y : Actor) (z : Copy V) (i : ℕ) (which : ℕ → Bool) (b : Bool)
      → (if b then copied (content w.words w.blocks) w.boosted y.calls z i which else z).outcomes ≡ z.outcomes
  put_outcomes w y z i which true = refl
  put_outcomes w y z i which false = refl

  pub returning_step : (w : World V) (a : ℕ) (x : Seat V) (y : Actor) (z : Copy V) (g : ℕ → Bool) (i : ℕ) (ks : List ℕ) → At w a y z g
      → ((k : ℕ) → g k ≡ has (i ∷ ks) k) → CanLeave y.place → Differ (i ∷ ks)
      → InTx w.words x y z → Linked (gives_up (acted w (PutGate a i (λ l. false) ∷ [])) a x ks).0
  returning_step w a x y z g i ks k held leave differ tx =
      let u = acted w (PutGate a i (λ l. false) ∷ []) in
      let z2 = if is_open y.place then copied (content w.words w.blocks) w.boosted y.calls z i (λ l. false) else z in
      gives_up_linked u a x y z2 (without_gate g i) ks
      (gate_put w a i (λ l. false) y z g k (held i ∙ first_has i ks) (leaving_rests y.place leave))
      (λ j. ap (λ b. cond (eqb j i) false b) (held j) ∙ pop_has ks i j differ.0) differ.1 leave
      (tx.0, subst (Parts w.words x.calls y.calls) (sym (put_outcomes w y z i (λ l. false) (is_open y.place))) tx.1)

  -- ---- after the first value store
  -- the releases are asked for, with no gate held any more
  pub at_release : (u : World V) (a : ℕ) (y : Actor) (z : Copy V) (g : ℕ → Bool) → At u a y z g → ((k : ℕ) → g k ≡ false) → y.place
      ≡ machine.Store []
      → At (acted u (asks a word.AskRelease ∷ [])) a (goes y machine.Release) z g
  at_release u a y z g k none e =
      let s = u.boosted in
      let c = content u.words u.blocks in
      let v = s.words.actors a in
      let given : every (is_given c s a) (locations v.writes) ≡ true =
      every_all (is_given c s a) (locations v.writes) (λ l m.
      ap (λ b. is_plain u.words u.blocks l || not b) (k.own.gates (home_of u.words u.blocks l) ∙ none (home_of u.words u.blocks l))
      ∙ or_true (is_plain u.words u.blocks l)) in
      at_by u a y (goes v machine.Release) (goes y machine.Release) z (s.shadows a) z g (mine s a) g (asks a word.AskRelease) k
      (release_goes c s a (ap (λ (q : Actor). q.place) k.own.actor ∙ e) given)
      (ap (λ (q : Actor). goes q machine.Release) k.own.actor) k.own.shadow k.own.gates

  goes_home_linked : (u : World V) (a : ℕ) (x : Seat V) (y : Actor) (z : Copy V) (g : ℕ → Bool) (ks : List ℕ) → At u a y z g
      → ((k : ℕ) → g k ≡ has ks k)
      → y.place ≡ machine.Store [] → x.wv ≡ y.wv → Differ ks
      → Linked (goes_home u a x ks).0
  goes_home_linked u a x y z g [] k none e wv differ =
      linked_seated (acted u (asks a word.AskRelease ∷ [])) a (at_stage x Releasing) (goes y machine.Release) z g
      (at_release u a y z g k none e)
      (record { gates = none; stage = (refl, wv) })
  goes_home_linked u a x y z g (i ∷ ks) k held e wv differ =
      linked_seated u a (at_stage x (Homing (i ∷ ks))) y z g k (record { gates = held; stage = (e, wv, differ) })

  pub has_stored_linked : (u : World V) (a : ℕ) (x : Seat V) (y y2 : Actor) (z : Copy V) (g : ℕ → Bool) (ks : List ℕ) (n : told.Notice)
      → At u a y2 z g
      → ((k : ℕ) → g k ≡ has ks k) → x.wv ≡ y.wv → Differ ks
      → AfterStore y y2 n → Linked (has_stored u a x ks n).0
  has_stored_linked u a x y y2 z g ks told.Stored k held wv differ h = goes_home_linked u a x y2 z g ks k held h.0 (wv ∙ sym h.1) differ
  has_stored_linked u a x y y2 z g ks told.Quiet k held wv differ h =
      linked_seated u a (at_stage x (Storing ks)) y2 z g k (record { gates = held; stage = (h.0, wv ∙ sym h.1, differ) })
  has_stored_linked u a x y y2 z g ks n k held wv differ h = absurd h

  pub at_home : (w : World V) (a : ℕ) (y : Actor) (z : Copy V) (g : ℕ → Bool) (i : ℕ) → At w a y z g → g i ≡ true → y.place
      ≡ machine.Store []
      → At (acted w (GoHome a i ∷ [])) a y z (without_gate g i)
  at_home w a y z g i k held e =
      let s = w.boosted in
      at_by w a y (s.words.actors a) y z (s.shadows a) z g (without_gate (mine s a) i) (without_gate g i) (GoHome a i) k
      (home_goes (content w.words w.blocks) s a i (k.own.gates i ∙ held)
      (ap (λ (q : Actor). is_stored q.place) k.own.actor ∙ ap is_stored e))
      k.own.actor k.own.shadow (λ j. ap (λ b. cond (eqb j i) false b) (k.own.gates j))

  pub homing_step : (w : World V) (a : ℕ) (x : Seat V) (y : Actor) (z : Copy V) (g : ℕ → Bool) (i : ℕ) (ks : List ℕ) → At w a y z g
      → ((k : ℕ) → g k ≡ has (i ∷ ks) k) → y.place ≡ machine.Store [] → x.wv ≡ y.wv
      → Differ (i ∷ ks) → Linked (goes_home (acted w (GoHome a i ∷ [])) a x ks).0
  homing_step w a x y z g i ks k held e wv differ =
      goes_home_linked (acted w (GoHome a i ∷ [])) a x y z (without_gate g i) ks (at_home w a y z g i k (held i ∙ first_has i ks) e)
      (gates_left g i ks held differ.0) e wv differ.1

  pub has_released_linked : (u : World V) (a : ℕ) (x : Seat V) (y y2 : Actor) (z : Copy V) (g : ℕ → Bool) (n : told.Notice) → At u a y2 z g
      → ((k : ℕ) → g k ≡ false) → u.seats a ≡ x → x.stage ≡ Releasing → x.wv ≡ y.wv
      → AfterRelease y y2 n → Linked (has_released u a x n).0
  has_released_linked u a x y y2 z g told.Released k none seat st wv h = linked_seated u a no_one y2 z g k
      (record { gates = none; stage = h })
  has_released_linked u a x y y2 z g told.Quiet k none seat st wv h = same_seat u a x y2 z g Releasing k seat st none (h.0, wv ∙ sym h.1)
  has_released_linked u a x y y2 z g n k none seat st wv h = absurd h

  -- ---- the steps that end a transaction
  pub at_commit : (w : World V) (a : ℕ) (y : Actor) (z : Copy V) (g : ℕ → Bool) (p : Place) (r : world.Record) (q : ℕ × Record V)
      → At w a y z g
      → y.place ≡ p → step_end a y p ≡ world.Commits r
      → ((s : Boosted (Shown V) (CallWithOutcome V)) → shadows_after s a p ≡ s.shadows) → SameRecord w.words q
      (record { word = r; outcomes = z.outcomes })
      → At (record (acted w (moves a ∷ [])) { records = insert_record q w.records }) a (learns w.boosted.words y (plan y p)) z g
  at_commit w a y z g p r q k e o sh same =
      let s = w.boosted in
      let c = content w.words w.blocks in
      let u = s.words.actors a in
      let t : Commits s (acts c s (moves a)) a (learns s.words u (plan u p)) (s.shadows a) (mine s a) r =
      step_commits s a p r (ap (λ (v : Actor). v.place) k.own.actor ∙ e) (ap (λ (v : Actor). step_end a v p) k.own.actor ∙ o) (sh s) in
      record {
        base = record {
          stripes = k.base.stripes;
          inv = (acts_led c (content_frame w.words w.blocks k.base.stripes) s (moves a) k.base.inv).inv;
          records = subst (SameRecords w.words (insert_record q w.records)) (sym t.history)
              (insert_same w.words q (record { word = r; outcomes = (s.shadows a).outcomes }) w.records s.history
              (subst (λ (v : Copy V). SameRecord w.words q (record { word = r; outcomes = v.outcomes }))
              (sym k.own.shadow) same) k.base.records);
          aborted = subst (SameEnded w.words w.aborted) (sym t.aborted) k.base.aborted;
        };
        others = others_by w (record (acted w (moves a ∷ [])) { records = insert_record q w.records }) a refl refl
            (λ b. refl) t.apart k.others;
        own = record {
          actor = t.own.actor ∙ ap (λ (v : Actor). learns s.words v (plan v p)) k.own.actor;
          shadow = t.own.shadow ∙ k.own.shadow;
          gates = λ i. t.own.gates i ∙ k.own.gates i;
        };
      }

  pub at_end : (w : World V) (a : ℕ) (y : Actor) (z : Copy V) (g : ℕ → Bool) (x : Seat V) → At w a y z g → y.place ≡ machine.Leave
      → InTx w.words x y z
      → At (record (acted w (moves a ∷ [])) {
        aborted = w.aborted ++ record {
          actor = a;
          rv = x.rv;
          calls = x.calls;
          cause = x.cause;
        } ∷ [];
      }) a
      (goes y machine.Idle) z g
  at_end w a y z g x k e tx =
      let s = w.boosted in
      let c = content w.words w.blocks in
      let u = s.words.actors a in
      let d : Ended V = record { actor = a; rv = x.rv; calls = x.calls; cause = x.cause } in
      let f : world.Ended = record { actor = a; rv = u.rv; calls = u.calls } in
      let t : Leaves s (acts c s (moves a)) a (goes u machine.Idle) (s.shadows a) (mine s a) f =
      step_leaves s a machine.Leave f (ap (λ (v : Actor). v.place) k.own.actor ∙ e) refl refl in
      record {
        base = record {
          stripes = k.base.stripes;
          inv = (acts_led c (content_frame w.words w.blocks k.base.stripes) s (moves a) k.base.inv).inv;
          records = subst (SameRecords w.words w.records) (sym t.history) k.base.records;
          aborted = subst (SameEnded w.words (w.aborted ++ d ∷ [])) (sym t.aborted)
              (SameEnded-push w.words w.aborted s.aborted d (record { word = f; outcomes = (s.shadows a).outcomes }) k.base.aborted
              (tx.0 ∙ ap (λ (v : Actor). v.rv) (sym k.own.actor))
              (subst (λ (v : Actor). Parts w.words x.calls v.calls (s.shadows a).outcomes) (sym k.own.actor)
              (subst (λ (v : Copy V). Parts w.words x.calls y.calls v.outcomes) (sym k.own.shadow) tx.1)));
        };
        others = others_by w (record (acted w (moves a ∷ [])) { aborted = w.aborted ++ d ∷ [] }) a refl refl (λ b. refl) t.apart k.others;
        own = record {
          actor = t.own.actor ∙ ap (λ (v : Actor). goes v machine.Idle) k.own.actor;
          shadow = t.own.shadow ∙ k.own.shadow;
          gates = λ i. t.own.gates i ∙ k.own.gates i;
        };
      }

  pub leaving_step : (w : World V) (a : ℕ) (x : Seat V) (y : Actor) (z : Copy V) (g : ℕ → Bool) → At w a y z g → ((k : ℕ) → g k ≡ false)
      → y.place ≡ machine.Leave → InTx w.words x y z
      → Linked (ended (acted w (moves a ∷ [])) a x).0
  leaving_step w a x y z g k none e tx =
      let d : Ended V = record { actor = a; rv = x.rv; calls = x.calls; cause = x.cause } in
      linked_seated (record (acted w (moves a ∷ [])) { aborted = w.aborted ++ d ∷ [] }) a no_one (goes y machine.Idle) z g
      (at_end w a y z g x k e tx)
      (record { gates = none; stage = refl })

  pub closing_step : (w : World V) (a : ℕ) (x : Seat V) (y : Actor) (z : Copy V) (g : ℕ → Bool) → At w a y z g → ((k : ℕ) → g k ≡ false)
      → y.place ≡ machine.Close → InTx w.words x y z
      → Linked (seated (recorded (acted w (moves a ∷ [])) a x false x.rv) a no_one)
  closing_step w a x y z g k none e tx =
      let r : world.Record = record { actor = a; number = y.rv; writer = false; calls = y.calls } in
      let q : ℕ × Record V = (a, record { number = x.rv; writes = false; calls = x.calls }) in
      linked_seated (recorded (acted w (moves a ∷ [])) a x false x.rv) a no_one (goes y machine.Idle) z g
      (at_commit w a y z g machine.Close r q k e refl (λ s. refl) (record { actor = refl; number = tx.0; writes = refl; parts = tx.1 }))
      (record { gates = none; stage = refl })

  -- the first value store, with all gates held
  pub record FirstStored (w : World V) (a : ℕ) (x : Seat V) (y : Actor) (z : Copy V) (g : ℕ → Bool) : Type 0 where
    pub entry : ℕ × ℕ
    pub others : Entries
    pub writes : y.writes ≡ entry ∷ others
    pub told : word_notice (acted w (asks a word.AskStore ∷ [])) a ≡ told.last_notice (entry ∷ others) told.Stored
    pub at : At (recorded (acted (acted w (asks a word.AskStore ∷ [])) (moves a ∷ [])) a x true x.wv) a
        (learns (acted w (asks a word.AskStore ∷ [])).boosted.words (goes y machine.First)
        (world.first_store (goes y machine.First) (entry ∷ others))) z g

  pub first_stored : (w : World V) (a : ℕ) (x : Seat V) (y : Actor) (z : Copy V) (g : ℕ → Bool) (ks : List ℕ) → At w a y z g
      → ((k : ℕ) → g k ≡ has ks k)
      → y.place ≡ machine.Check []
      → CommitOk w.words w.blocks x y z ks → FirstStored w a x y z g
  first_stored w a x y z g ks k held e h =
      let s = w.boosted in
      let c = content w.words w.blocks in
      let v = s.words.actors a in
      let at_v : v.place ≡ machine.Check [] = ap (λ (u : Actor). u.place) k.own.actor ∙ e in
      let stamped = subst (PlaceOk s.words v) at_v (k.base.inv.machine.actors a).place in
      let entry = some_entry y.writes (subst (λ (u : Actor). IsSomeEntry u.writes) k.own.actor stamped.0.some) in
      let all : every (is_held c s a) (locations v.writes) ≡ true =
      every_all (is_held c s a) (locations v.writes) (λ l m. (
      let o = locations_member v.writes l m in
      elim (cases_Bool (is_plain w.words w.blocks l)) [
        | inl pl ↦ ap (λ b. b || is_actor a (s.gates (home_of w.words w.blocks l))) pl
        | inr pl ↦
            ap (λ b. b || is_actor a (s.gates (home_of w.words w.blocks l))) pl ∙ k.own.gates (home_of w.words w.blocks l)
            ∙ held (home_of w.words w.blocks l)
            ∙ h.covers l o.0 pl (ap (λ (u : Actor). lookup u.writes l) (sym k.own.actor) ∙ o.1)
      ])) in
      let y1 = goes y machine.First in
      let ready = acted w (asks a word.AskStore ∷ []) in
      let k1 : At ready a y1 z g =
      at_by w a y (goes v machine.First) y1 z (s.shadows a) z g (mine s a) g (asks a word.AskStore) k (store_goes c s a at_v all)
      (ap (λ (u : Actor). goes u machine.First) k.own.actor) k.own.shadow k.own.gates in
      let r : world.Record = record { actor = a; number = y.wv; writer = true; calls = y.calls } in
      let q : ℕ × Record V = (a, record { number = x.wv; writes = true; calls = x.calls }) in
      let k2 : At (recorded (acted ready (moves a ∷ [])) a x true x.wv) a
      (learns ready.boosted.words y1 (world.first_store y1 y.writes)) z g =
      at_commit ready a y1 z g machine.First r q k1 refl (ap (λ (es : Entries). world.first_step_end a y1 es) entry.2) (λ u. refl)
      (record { actor = refl; number = h.wv; writes = refl; parts = h.tx.1 }) in
      record {
        entry = entry.0;
        others = entry.1;
        writes = entry.2;
        told = tells ready a y1 z g machine.First k1 refl ∙ ap (λ (es : Entries). told.last_notice es told.Stored) entry.2;
        at = subst (λ (es : Entries). At (recorded (acted ready (moves a ∷ [])) a x true x.wv) a
            (learns ready.boosted.words y1 (world.first_store y1 es)) z g) entry.2 k2;
      }

  pub first_step : (w : World V) (a : ℕ) (x : Seat V) (y : Actor) (z : Copy V) (g : ℕ → Bool) (ks : List ℕ) → At w a y z g
      → ((k : ℕ) → g k ≡ has ks k)
      → y.place ≡ machine.Check []
      → CommitOk w.words w.blocks x y z ks → Linked (stores w a x ks).0
  first_step w a x y z g ks k held e h =
      let f = first_stored w a x y z g ks k held e h in
      let y1 = goes y machine.First in
      let ready = acted w (asks a word.AskStore ∷ []) in
      subst (λ n. Linked (has_stored (recorded (acted ready (moves a ∷ [])) a x true x.wv) a x ks n).0) (sym f.told)
      (has_stored_linked (recorded (acted ready (moves a ∷ [])) a x true x.wv) a x y1
      (learns ready.boosted.words y1 (world.first_store y1 (f.entry ∷ f.others))) z g ks
      (told.last_notice (f.entry ∷ f.others) told.Stored) f.at held h.wv h.differ (first_after ready.boosted.words y1 f.entry f.others))

  -- ---- locks given back
  pub has_cancelled_linked : (u : World V) (a : ℕ) (x : Seat V) (y y2 : Actor) (z : Copy V) (g : ℕ → Bool) (n : told.Notice) → At u a y2 z g
      → ((k : ℕ) → g k ≡ false) → u.seats a ≡ x → x.stage ≡ Cancelling
      → InTx u.words x y z → AfterUndo y y2 n → Linked (has_cancelled u a x n).0
  has_cancelled_linked u a x y y2 z g told.Cancelled k none seat st tx h =
      let at : At (acted u (asks a word.AskAbort ∷ [])) a
      (word.abort y2 y2.held) z g = at_ask u a y2 z g machine.Undo word.AskAbort k h.0 tt in
      linked_seated (acted u (asks a word.AskAbort ∷ [])) a (at_stage x Leaving) (word.abort y2 y2.held) z g at (record {
        gates = none;
        stage = subst (λ (es : Entries). ((word.abort y2 es).place ≡ machine.Leave) × InTx u.words x (word.abort y2 es) z) (sym h.1)
            (refl, same_in_tx u.words x y y2 z h.2 tx);
      })
  has_cancelled_linked u a x y y2 z g told.Quiet k none seat st tx h = same_seat u a x y2 z g Cancelling k seat st none
      (h.0, h.1, same_in_tx u.words x y y2 z h.2 tx)
  has_cancelled_linked u a x y y2 z g n k none seat st tx h = absurd h

-- What a world of words and collections has of its machine, seat by seat.
--
-- `StageOk` says of each stage at which places the machine's actor may stand there, and what is known of its transaction: `InTx`, the
-- clock that it began with and its calls, as two parts: the calls on words are the machine's word calls, those on collections its
-- outcomes; `Live`, while calls are made: what was read of a collection was copied with that edition, which the read set has, and so was
-- each piece that the seat has copied; `LoadOk`, what a call still has to judge; and before and after a commit which gates its stage
-- holds, each once (`Differ`), so that no guard of the machine refuses what the next step asks. `Linked` says it of all seats, and that
-- records and aborted transactions are the machine's. An action of actor a leaves all of it for the others (`at_by`), so each event is
-- proved for its own seat alone (`At`).
use Rattle.std.proofs.Common.{◌≡◌, ℕ, ◌<◌, Bool, true, false, cond, List, [], ◌∷◌, ◌++◌, map, Some, None, ◌⊎◌, inl, inr, refl, sym, ◌∙◌, ap}
use Rattle.std.proofs.Common.{subst, true≢false, eqb, eq-eqb, ne_eqb}
use Rattle.std.specs.Prelude.{not, option_map, if◌then◌else◌}
use Rattle.std.proofs.lemmas.Bool.{cases_eq, cond-true, cond-false}
use Rattle.std.proofs.lemmas.List.{map-append, append-nil}
use Rattle.std.proofs.lemmas.List.Elements.{filter-append}
use Rattle.tx_sets.specs.Entries.{Entries, lookup}
use Rattle.tx_machine.specs.Actor as machine
use Rattle.tx_machine.specs.Actor.{Place, Actor}
use Rattle.tx_machine.specs.Requests as word
use Rattle.tx_machine.specs.Requests.{Request, ask}
use Rattle.tx_machine.proofs.Sets.{put-same, put-other}
use Rattle.tx_machine.proofs.Invariant.{IsSomeEntry}
use Rattle.seq_model.specs.declared.call.Call.{Call}
use Rattle.seq_model.specs.declared.call.Reply.{Reply}
use Rattle.conflict.specs.declared.outcome.Outcome.{Outcome}
use Rattle.tx_machine.specs.Content.{IsIn, has}
use Rattle.tx_machine.specs.Boosted.{Aborted, Shadow, Action, changes, acts}
use Rattle.tx_machine.proofs.BoostedInvariant.{Inv}
use Rattle.tx_machine.proofs.BoostedSchedules.{acts_led}
use Rattle.tx_machine.proofs.Steady.{IsFreeAsk}
use Rattle.replay_log.specs.Base.{Shown}
use Rattle.replay_log.specs.Contents.{Block, CollectionCall, CallWithOutcome, block_of, first_of, home_of, is_plain, HaveStripes, content}
use Rattle.replay_log.specs.Pieces.{Piece, covers_in}
use Rattle.replay_log.specs.Worlds.{World, Seat, Stage, Idle, Beginning, Open, Locking, Releasing, Closing, Cancelling, Leaving, Reading}
use Rattle.replay_log.specs.Worlds.{Trying, Copying, Loading, Gating, Ready, Storing, Homing, Returning, Ended, at_stage, seated, acted}
use Rattle.replay_log.specs.Worlds.{asks, cancels, gives_up, is_known, may_ask, is_leaving, call_of}
use Rattle.replay_log.proofs.ContentLemmas.{content_frame}
use Rattle.tx_machine.specs.Opacity.{first_read}
use Rattle.replay_log.proofs.ReadLemmas.{in_set}
use Rattle.replay_log.proofs.ActionLemmas.{Apart, Own, Goes, mine, as_mine, ask_goes}
use Rattle.replay_log.proofs.MixedLemmas.{is_of_word, word_calls, is_word_op, is_on_word, on_words, on_held, pair_of, Told, Told-push}
use Rattle.replay_log.proofs.MixedLemmas.{Parts, SameRecords}

-- ---- places
abbrev pub AtReading : ℕ → Place → Type 0
AtReading l (machine.Look k) = k ≡ l
AtReading l (machine.Fetch k j) = k ≡ l
AtReading l (machine.Again k j v) = k ≡ l
AtReading l p = ⊥

abbrev pub AtLocking : Place → Type 0
AtLocking (machine.Lock ls) = Unit {0}
AtLocking (machine.Take l k ls) = Unit {0}
AtLocking (machine.Check (l ∷ ls)) = Unit {0}
AtLocking p = ⊥

abbrev pub AtStoring : Place → Type 0
AtStoring (machine.Store (l ∷ ls)) = Unit {0}
AtStoring p = ⊥

-- a place of a transaction that can still be aborted
abbrev pub CanLeave : Place → Type 0
CanLeave machine.Open = Unit {0}
CanLeave (machine.Look k) = Unit {0}
CanLeave (machine.Fetch k j) = Unit {0}
CanLeave (machine.Again k j v) = Unit {0}
CanLeave (machine.Lock ls) = Unit {0}
CanLeave (machine.Take l k ls) = Unit {0}
CanLeave (machine.Check ls) = Unit {0}
CanLeave machine.Broken = Unit {0}
CanLeave machine.Undo = Unit {0}
CanLeave machine.Close = Unit {0}
CanLeave p = ⊥

pub reading_leaves : (l : ℕ) (p : Place) → AtReading l p → CanLeave p
reading_leaves l (machine.Look k) h = tt
reading_leaves l (machine.Fetch k j) h = tt
reading_leaves l (machine.Again k j v) h = tt
reading_leaves l p h = absurd h

pub locking_leaves : (p : Place) → AtLocking p → CanLeave p
locking_leaves (machine.Lock ls) h = tt
locking_leaves (machine.Take l k ls) h = tt
locking_leaves (machine.Check (l ∷ ls)) h = tt
locking_leaves p h = absurd h

-- no element stands twice
abbrev pub Differ : List ℕ → Type 0
Differ [] = Unit {0}
Differ (k ∷ ks) = (has ks k ≡ false) × Differ ks

has-append : (ks js : List ℕ) (k : ℕ) → has (ks ++ js) k ≡ false → has ks k ≡ false
has-append [] js k h = refl
has-append (i ∷ ks) js k h =
    elim (cases_eq k i) [
      | inl e ↦ absurd (true≢false (sym (cond-true _ true (has (ks ++ js) k) (is k i e)) ∙ h))
      | inr ne ↦ cond-false _ true (has ks k) (isnt k i ne) ∙ has-append ks js k
          (sym (cond-false _ true (has (ks ++ js) k) (isnt k i ne)) ∙ h)
    ]
  where
    is : (k i : ℕ) → k ≡ i → eqb k i ≡ true
    is k i e = eq-eqb k i e

    isnt : (k i : ℕ) → (k ≡ i → ⊥) → eqb k i ≡ false
    isnt k i ne = ne_eqb k i ne

pub Differ-front : (ks js : List ℕ) → Differ (ks ++ js) → Differ ks
Differ-front [] js d = tt
Differ-front (k ∷ ks) js d = (has-append ks js k d.0, Differ-front ks js d.1)

-- ---- what is left of a transaction that is aborted
pub record LeftAt (y z : Actor) : Type 0 where
  pub rv : z.rv ≡ y.rv
  pub wv : z.wv ≡ y.wv
  pub calls : z.calls ≡ y.calls
  pub held : z.held ≡ y.held
  pub place : (z.place ≡ machine.Leave) ⊎ ((z.place ≡ machine.Undo) × IsSomeEntry z.held)

aborts_at : (y : Actor) (h : Entries) → y.held ≡ h → LeftAt y (word.abort (machine.goes y machine.Undo) h)
aborts_at y [] e = record { rv = refl; wv = refl; calls = refl; held = refl; place = inl refl }
aborts_at y (d ∷ es) e = record { rv = refl; wv = refl; calls = refl; held = refl; place = inr (refl, subst IsSomeEntry (sym e) tt) }

undo_at : (y : Actor) (h : Entries) → y.place ≡ machine.Undo → y.held ≡ h → LeftAt y (word.abort y h)
undo_at y [] p e = record { rv = refl; wv = refl; calls = refl; held = refl; place = inl refl }
undo_at y (d ∷ es) p e = record { rv = refl; wv = refl; calls = refl; held = refl; place = inr (p, subst IsSomeEntry (sym e) tt) }

-- a cancel, and then an abort
pub left_at : (y : Actor) (p : Place) → y.place ≡ p → CanLeave p → (q : Place) × ((ask y p word.AskCancel).place ≡ q)
    × LeftAt y (ask (ask y p word.AskCancel) q word.AskAbort)
left_at y machine.Open e h = (machine.Open, e, record { rv = refl; wv = refl; calls = refl; held = refl; place = inl refl })
left_at y (machine.Look k) e h = (machine.Look k, e, record { rv = refl; wv = refl; calls = refl; held = refl; place = inl refl })
left_at y (machine.Fetch k j) e h = (machine.Fetch k j, e, record { rv = refl; wv = refl; calls = refl; held = refl; place = inl refl })
left_at y (machine.Again k j v) e h = (machine.Again k j v, e, record { rv = refl; wv = refl; calls = refl; held = refl; place = inl refl })
left_at y (machine.Lock ls) e h = (machine.Undo, refl, aborts_at y y.held refl)
left_at y (machine.Take l k ls) e h = (machine.Undo, refl, aborts_at y y.held refl)
left_at y (machine.Check ls) e h = (machine.Undo, refl, aborts_at y y.held refl)
left_at y machine.Broken e h = (machine.Undo, refl, aborts_at y y.held refl)
left_at y machine.Undo e h = (machine.Undo, e, undo_at y y.held e refl)
left_at y machine.Close e h = (machine.Close, e, record { rv = refl; wv = refl; calls = refl; held = refl; place = inl refl })
left_at y p e h = absurd h

abbrev pub Copy : Type 0 → Type 0
Copy V = Shadow (Shown V) (CallWithOutcome V)

abbrev pub IsLeft : ℕ → Entries → Type 0
IsLeft l [] = ⊥
IsLeft l (d ∷ es) = (l ≡ d.0) ⊎ IsLeft l es

-- the homes of what is written are among these
abbrev pub Covers : ℕ → List Block → Actor → List ℕ → Type 0
Covers n bs y ks = (l u : ℕ) → is_plain n bs l ≡ false → lookup y.writes l ≡ Some u → has ks (home_of n bs l) ≡ true

words_push : (n : ℕ) (cs : List machine.Call) (c : machine.Call) (b : Bool) → is_of_word n c ≡ b
    → word_calls n (cs ++ c ∷ []) ≡ word_calls n cs ++ cond b (c ∷ []) []
words_push n cs c b e = filter-append (is_of_word n) cs (c ∷ []) ∙ ap (λ (q : Bool). word_calls n cs ++ cond q (c ∷ []) []) e

of_pair : (V : Type 0) (v : machine.Call) → is_on_word (pair_of {V = V} v) ≡ true
of_pair V (machine.Read l u) = refl
of_pair V (machine.Write l u) = refl

-- the edition that was read first of a collection's location is in the read set, where there is one
abbrev pub Kept : ℕ → List Block → Actor → Type 0
Kept n bs y = (l : ℕ) → is_plain n bs l ≡ false → lookup y.reads l ≡ in_set y.declared (first_read y.calls l)

module _ {V : Type 0} where
  -- ---- a transaction
  abbrev pub InTx : ℕ → Seat V → Actor → Copy V → Type 0
  InTx n x y z = (x.rv ≡ y.rv) × Parts n x.calls y.calls z.outcomes

  -- what was read of a collection was copied with the edition that was read first
  abbrev pub Sound : ℕ → List Block → Actor → Copy V → Type 0
  Sound n bs y z = (l e : ℕ) → is_plain n bs l ≡ false → first_read y.calls l ≡ Some e → (z.copied l ≡ true) × (z.editions l ≡ e)

  -- and the pieces that the seat has copied were copied
  abbrev pub HasPieces : ℕ → List Block → Seat V → Copy V → Type 0
  HasPieces n bs x z =
      (k : ℕ) (p : Piece) → x.copied k p ≡ true → (l : ℕ) → is_plain n bs l ≡ false → home_of n bs l ≡ k
      → covers_in (block_of bs k) (first_of n bs k) p l ≡ true → z.copied l ≡ true

  pub record Live (n : ℕ) (bs : List Block) (x : Seat V) (y : Actor) (z : Copy V) : Type 0 where
    pub tx : InTx n x y z
    pub sound : Sound n bs y z
    pub kept : Kept n bs y
    pub pieces : HasPieces n bs x z

  -- a call on a collection, of its kind, and no change where its transaction is a declared reader
  abbrev pub KnownAsk : List Block → Actor → CollectionCall V → Type 0
  KnownAsk bs y asked = (is_word_op asked.op ≡ false) × (is_known (block_of bs asked.collection) asked.op ≡ true)
      × (may_ask y asked.op ≡ true)

  -- the locations that are still to be judged were copied, those that were not read with these editions
  abbrev pub Left : ℕ → List Block → Actor → Copy V → Entries → Type 0
  Left n bs y z [] = Unit {0}
  Left n bs y z (d ∷ es) = (is_plain n bs d.0 ≡ false) × (z.copied d.0 ≡ true) × (first_read y.calls d.0 ≡ None → z.editions d.0 ≡ d.1)
      × Left n bs y z es

  pub record LoadOk (n : ℕ) (bs : List Block) (y : Actor) (z : Copy V) (o : CallWithOutcome V) (es : Entries) : Type 0 where
    pub is : o ≡ (content n bs).outcome (changes (content n bs) z.outcomes z.parts) o.asked
    pub kind : is_word_op o.asked.op ≡ false
    pub known : (r : Outcome V) × (o.outcome ≡ Some r)
    pub may : may_ask y o.asked.op ≡ true
    pub left : Left n bs y z es
    pub rest : (l : ℕ) → IsIn l ((content n bs).reads o) → IsLeft l es ⊎ ((e : ℕ) × (first_read y.calls l ≡ Some e))

  pub record CommitOk (n : ℕ) (bs : List Block) (x : Seat V) (y : Actor) (z : Copy V) (ks : List ℕ) : Type 0 where
    pub wv : x.wv ≡ y.wv
    pub differ : Differ ks
    pub covers : Covers n bs y ks
    pub tx : InTx n x y z

  -- ---- a seat
  -- the gates that a stage holds
  abbrev pub gates_of : Stage V → List ℕ
  gates_of (Copying asked) = asked.collection ∷ []
  gates_of (Gating got ks tries) = got
  gates_of (Ready ks) = ks
  gates_of (Storing ks) = ks
  gates_of (Homing ks) = ks
  gates_of (Returning ks) = ks
  gates_of stage = []

  abbrev pub StageOk : ℕ → List Block → Seat V → Actor → Copy V → Stage V → Place → Type 0
  StageOk n bs x y z Idle p = p ≡ machine.Idle
  StageOk n bs x y z Beginning p = p ≡ machine.Begin
  StageOk n bs x y z Open p = (p ≡ machine.Open) × Live n bs x y z
  StageOk n bs x y z (Reading l) p = AtReading l p × (l < n) × Live n bs x y z
  StageOk n bs x y z (Trying asked tries) p = (p ≡ machine.Open) × Live n bs x y z × KnownAsk bs y asked
  StageOk n bs x y z (Copying asked) p = (p ≡ machine.Open) × Live n bs x y z × KnownAsk bs y asked
  StageOk n bs x y z (Loading o []) p = ⊥
  StageOk n bs x y z (Loading o (d ∷ es)) p = AtReading d.0 p × Live n bs x y z × LoadOk n bs y z o (d ∷ es)
  StageOk n bs x y z Locking p = AtLocking p × InTx n x y z
  StageOk n bs x y z (Gating got [] tries) p = ⊥
  StageOk n bs x y z (Gating got (k ∷ ks) tries) p = (p ≡ machine.Check []) × CommitOk n bs x y z (got ++ k ∷ ks)
  StageOk n bs x y z (Ready ks) p = (p ≡ machine.Check []) × CommitOk n bs x y z ks
  StageOk n bs x y z (Storing ks) p = AtStoring p × (x.wv ≡ y.wv) × Differ ks
  StageOk n bs x y z (Homing []) p = ⊥
  StageOk n bs x y z (Homing (k ∷ ks)) p = (p ≡ machine.Store []) × (x.wv ≡ y.wv) × Differ (k ∷ ks)
  StageOk n bs x y z Releasing p = (p ≡ machine.Release) × (x.wv ≡ y.wv)
  StageOk n bs x y z Closing p = (p ≡ machine.Close) × InTx n x y z
  StageOk n bs x y z (Returning []) p = ⊥
  StageOk n bs x y z (Returning (k ∷ ks)) p = CanLeave p × Differ (k ∷ ks) × InTx n x y z
  StageOk n bs x y z Cancelling p = (p ≡ machine.Undo) × IsSomeEntry y.held × InTx n x y z
  StageOk n bs x y z Leaving p = (p ≡ machine.Leave) × InTx n x y z

  pub record SeatOk (n : ℕ) (bs : List Block) (x : Seat V) (y : Actor) (z : Copy V) (g : ℕ → Bool) : Type 0 where
    pub gates : (k : ℕ) → g k ≡ has (gates_of x.stage) k
    pub stage : StageOk n bs x y z x.stage y.place

  -- ---- a world
  abbrev pub SameEnded : ℕ → List (Ended V) → List (Aborted (CallWithOutcome V)) → Type 0
  SameEnded n [] [] = Unit {0}
  SameEnded n (e ∷ es) (f ∷ fs) = (e.rv ≡ f.word.rv) × Parts n e.calls f.word.calls f.outcomes × SameEnded n es fs
  SameEnded n es fs = ⊥

  pub SameEnded-push : (n : ℕ) (es : List (Ended V)) (fs : List (Aborted (CallWithOutcome V))) (e : Ended V)
      (f : Aborted (CallWithOutcome V))
      → SameEnded n es fs
      → e.rv ≡ f.word.rv
      → Parts n e.calls f.word.calls f.outcomes → SameEnded n (es ++ e ∷ []) (fs ++ f ∷ [])
  SameEnded-push n [] [] e f h r c = (r, c, tt)
  SameEnded-push n [] (g ∷ fs) e f h r c = absurd h
  SameEnded-push n (d ∷ es) [] e f h r c = absurd h
  SameEnded-push n (d ∷ es) (g ∷ fs) e f h r c = (h.0, h.1, SameEnded-push n es fs e f h.2 r c)

  pub record Base (w : World V) : Type 0 where
    pub stripes : HaveStripes w.blocks
    pub inv : Inv (content w.words w.blocks) w.boosted
    pub records : SameRecords w.words w.records w.boosted.history
    pub aborted : SameEnded w.words w.aborted w.boosted.aborted

  abbrev pub SeatIn : World V → ℕ → Seat V → Type 0
  SeatIn w a x = SeatOk w.words w.blocks x (w.boosted.words.actors a) (w.boosted.shadows a) (mine w.boosted a)

  pub record Linked (w : World V) : Type 0 where
    pub base : Base w
    pub seats : (a : ℕ) → SeatIn w a (w.seats a)

  -- all but the seat of a, which has this in the machine
  pub record At (w : World V) (a : ℕ) (y : Actor) (z : Copy V) (g : ℕ → Bool) : Type 0 where
    pub base : Base w
    pub others : (b : ℕ) → (b ≡ a → ⊥) → SeatIn w b (w.seats b)
    pub own : Own w.boosted a y z g

  pub at_of : (w : World V) (a : ℕ) → Linked w → At w a (w.boosted.words.actors a) (w.boosted.shadows a) (mine w.boosted a)
  at_of w a k = record { base = k.base; others = λ b ne. k.seats b; own = as_mine w.boosted a }

  moved : (n : ℕ) (bs : List Block) (x : Seat V) (y y2 : Actor) (z z2 : Copy V) (g g2 : ℕ → Bool) → y2 ≡ y → z2 ≡ z → ((k : ℕ) → g2 k ≡ g k)
      → SeatOk n bs x y z g → SeatOk n bs x y2 z2 g2
  moved n bs x y y2 z z2 g g2 ey ez eg h = record {
    gates = λ k. eg k ∙ h.gates k;
    stage =
        subst (λ (u : Actor). StageOk n bs x u z2 x.stage u.place) (sym ey)
        (subst (λ (u : Copy V). StageOk n bs x y u x.stage y.place) (sym ez) h.stage);
  }

  pub linked_same : (w : World V) (a : ℕ) (y : Actor) (z : Copy V) (g : ℕ → Bool) → At w a y z g → SeatOk w.words w.blocks
      (w.seats a) y z g → Linked w
  linked_same w a y z g k h = record {
    base = k.base;
    seats = λ b. elim (cases_eq b a) [
      | inl e ↦
          subst (λ c. SeatIn w c (w.seats c)) (sym e)
          (moved w.words w.blocks (w.seats a) y (w.boosted.words.actors a) z (w.boosted.shadows a) g
          (mine w.boosted a) k.own.actor k.own.shadow k.own.gates h)
      | inr ne ↦ k.others b ne
    ];
  }

  pub at_seated : (w : World V) (a : ℕ) (x : Seat V) (y : Actor) (z : Copy V) (g : ℕ → Bool) → At w a y z g → At (seated w a x) a y z g
  at_seated w a x y z g k = record {
    base = record { stripes = k.base.stripes; inv = k.base.inv; records = k.base.records; aborted = k.base.aborted };
    others = λ b ne. subst (SeatIn w b) (sym (put-other w.seats a x b ne)) (k.others b ne);
    own = k.own;
  }

  pub linked_seated : (w : World V) (a : ℕ) (x : Seat V) (y : Actor) (z : Copy V) (g : ℕ → Bool) → At w a y z g
      → SeatOk w.words w.blocks x y z g
      → Linked (seated w a x)
  linked_seated w a x y z g k h =
      linked_same (seated w a x) a y z g (at_seated w a x y z g k)
      (subst (λ (u : Seat V). SeatOk w.words w.blocks u y z g) (sym (put-same w.seats a x)) h)

  -- ---- an action
  pub others_by : (w v : World V) (a : ℕ) → v.words ≡ w.words → v.blocks ≡ w.blocks → ((b : ℕ) → v.seats b ≡ w.seats b)
      → Apart w.boosted v.boosted a
      → ((b : ℕ) → (b ≡ a → ⊥) → SeatIn w b (w.seats b)) → (b : ℕ) → (b ≡ a → ⊥)
      → SeatOk w.words w.blocks (v.seats b) (v.boosted.words.actors b) (v.boosted.shadows b) (mine v.boosted b)
  others_by w v a e1 e2 e3 p h b ne =
      subst (λ (u : Seat V). SeatOk w.words w.blocks u (v.boosted.words.actors b) (v.boosted.shadows b) (mine v.boosted b)) (sym (e3 b))
      (moved w.words w.blocks (w.seats b) (w.boosted.words.actors b) (v.boosted.words.actors b) (w.boosted.shadows b) (v.boosted.shadows b)
      (mine w.boosted b) (mine v.boosted b)
      (p.actors b ne) (p.shadows b ne) (λ k. p.gates b k ne) (h b ne))

  pub at_by : (w : World V) (a : ℕ) (y y1 y2 : Actor) (z z1 z2 : Copy V) (g g1 g2 : ℕ → Bool) (e : Action (CollectionCall V)) → At w a y z g
      → Goes w.boosted (acts (content w.words w.blocks) w.boosted e) a y1 z1 g1
      → y1 ≡ y2 → z1 ≡ z2 → ((k : ℕ) → g1 k ≡ g2 k) → At (acted w (e ∷ [])) a y2 z2 g2
  at_by w a y y1 y2 z z1 z2 g g1 g2 e k t ey ez eg = record {
    base = record {
      stripes = k.base.stripes;
      inv = (acts_led (content w.words w.blocks) (content_frame w.words w.blocks k.base.stripes) w.boosted e k.base.inv).inv;
      records = subst (SameRecords w.words w.records) (sym t.history) k.base.records;
      aborted = subst (SameEnded w.words w.aborted) (sym t.aborted) k.base.aborted;
    };
    others = others_by w (acted w (e ∷ [])) a refl refl (λ b. refl) t.apart k.others;
    own = record { actor = t.own.actor ∙ ey; shadow = t.own.shadow ∙ ez; gates = λ i. t.own.gates i ∙ eg i };
  }

  pub at_ask : (w : World V) (a : ℕ) (y : Actor) (z : Copy V) (g : ℕ → Bool) (p : Place) (q : Request) → At w a y z g → y.place ≡ p
      → IsFreeAsk q
      → At (acted w (asks a q ∷ [])) a (ask y p q) z g
  at_ask w a y z g p q k e f =
      at_by w a y (ask (w.boosted.words.actors a) p q) (ask y p q) z (w.boosted.shadows a) z g (mine w.boosted a) g (asks a q) k
      (ask_goes (content w.words w.blocks) w.boosted a p q (ap (λ (u : Actor). u.place) k.own.actor ∙ e) f)
      (ap (λ (u : Actor). ask u p q) k.own.actor) k.own.shadow k.own.gates

  -- ---- a transaction that is aborted
  pub cancels_linked : (w : World V) (a : ℕ) (x : Seat V) (y : Actor) (z : Copy V) (g : ℕ → Bool) → At w a y z g → ((k : ℕ) → g k ≡ false)
      → CanLeave y.place → InTx w.words x y z → Linked (cancels w a x)
  cancels_linked w a x y z g k none leave tx =
      let q = left_at y y.place refl leave in
      let y1 = ask y y.place word.AskCancel in
      let y2 = ask y1 q.0 word.AskAbort in
      let w1 = acted w (asks a word.AskCancel ∷ []) in
      let w2 = acted w1 (asks a word.AskAbort ∷ []) in
      let k2 : At w2 a y2 z g = at_ask w1 a y1 z g q.0 word.AskAbort (at_ask w a y z g y.place word.AskCancel k refl tt) q.1 tt in
      let l : LeftAt y y2 = q.2 in
      let tx2 : InTx w.words x y2 z = (
        tx.0 ∙ sym l.rv,
        subst (λ (cs : List machine.Call). Parts w.words x.calls cs z.outcomes)
            (sym l.calls) tx.1,
      ) in
      let place : (w2.boosted.words.actors a).place ≡ y2.place = ap (λ (u : Actor). u.place) k2.own.actor in
      elim l.place [
        | inl leaving ↦
            subst (λ p. Linked (seated w2 a (at_stage x (if is_leaving p then Leaving else Cancelling)))) (sym (place ∙ leaving))
            (linked_seated w2 a (at_stage x Leaving) y2 z g k2 (record { gates = none; stage = (leaving, tx2) }))
        | inr undo ↦
            subst (λ p. Linked (seated w2 a (at_stage x (if is_leaving p then Leaving else Cancelling)))) (sym (place ∙ undo.0))
            (linked_seated w2 a (at_stage x Cancelling) y2 z g k2 (record { gates = none; stage = (undo.0, undo.1, tx2) }))
      ]

  -- it is left with its number
  pub cancels_wv : (w : World V) (a : ℕ) (x : Seat V) (y : Actor) (z : Copy V) (g : ℕ → Bool) → At w a y z g → CanLeave y.place
      → ((cancels w a x).boosted.words.actors a).wv ≡ y.wv
  cancels_wv w a x y z g k leave =
      let q = left_at y y.place refl leave in
      let y1 = ask y y.place word.AskCancel in
      let w1 = acted w (asks a word.AskCancel ∷ []) in
      let k2 : At (acted w1 (asks a word.AskAbort ∷ [])) a (ask y1 q.0 word.AskAbort) z g =
      at_ask w1 a y1 z g q.0 word.AskAbort (at_ask w a y z g y.place word.AskCancel k refl tt) q.1 tt in
      ap (λ (u : Actor). u.wv) k2.own.actor ∙ q.2.wv

  pub gives_up_linked : (w : World V) (a : ℕ) (x : Seat V) (y : Actor) (z : Copy V) (g : ℕ → Bool) (ks : List ℕ) → At w a y z g
      → ((k : ℕ) → g k ≡ has ks k)
      → Differ ks → CanLeave y.place → InTx w.words x y z
      → Linked (gives_up w a x ks).0
  gives_up_linked w a x y z g [] k held differ leave tx = cancels_linked w a x y z g k held leave tx
  gives_up_linked w a x y z g (i ∷ ks) k held differ leave tx =
      linked_seated w a (at_stage x (Returning (i ∷ ks))) y z g k (record { gates = held; stage = (leave, differ, tx) })

  -- ---- a call joins the transaction
  both_filters : (done : List (Call V × Reply V)) (c : Call V × Reply V) (b : Bool) → is_on_word c ≡ b
      → (on_words (done ++ c ∷ []) ≡ on_words done ++ cond b (c ∷ []) []) × (on_held (done ++ c ∷ []) ≡ on_held done ++ cond b [] (c ∷ []))
  both_filters done c b e = (
    filter-append is_on_word done (c ∷ []) ∙ ap (λ (q : Bool). on_words done ++ cond q (c ∷ []) []) e,
    filter-append (λ (d : Call V × Reply V). not (is_on_word d)) done (c ∷ [])
        ∙ ap (λ (q : Bool). on_held done ++ cond (not q) (c ∷ []) []) e
        ∙ ap (λ (cs : List (Call V × Reply V)). on_held done ++ cs) (turned b),
  )
    where
      turned : (b : Bool) → cond (not b) (c ∷ []) [] ≡ cond b [] (c ∷ [])
      turned true = refl
      turned false = refl

  pub word_joins : (n : ℕ) (done : List (Call V × Reply V)) (cs : List machine.Call) (os : List (CallWithOutcome V)) (v : machine.Call)
      → is_of_word n v ≡ true
      → Parts n done cs os
      → Parts n (done ++ pair_of v ∷ []) (cs ++ v ∷ []) os
  word_joins n done cs os v e p =
      let f = both_filters done (pair_of v) true (of_pair V v) in record {
        words = f.0 ∙ ap (λ (ds : List (Call V × Reply V)). ds ++ pair_of v ∷ []) p.words
            ∙ sym (map-append pair_of (word_calls n cs) (v ∷ []))
            ∙ ap (map pair_of) (sym (words_push n cs v true e));
        held = subst (λ (ds : List (Call V × Reply V)). Told ds os) (sym (f.1 ∙ append-nil (on_held done))) p.held;
      }

  -- a word call at a location of a collection is none of the transaction's own
  pub edition_joins : (n : ℕ) (done : List (Call V × Reply V)) (cs : List machine.Call) (os : List (CallWithOutcome V)) (v : machine.Call)
      → is_of_word n v ≡ false
      → Parts n done cs os → Parts n done (cs ++ v ∷ []) os
  edition_joins n done cs os v e p = record {
    words = p.words ∙ ap (map pair_of) (sym (words_push n cs v false e ∙ append-nil (word_calls n cs)));
    held = p.held;
  }

  pub held_joins : (n : ℕ) (done : List (Call V × Reply V)) (cs : List machine.Call) (os : List (CallWithOutcome V)) (c : Call V × Reply V)
      (o : CallWithOutcome V)
      → is_on_word c ≡ false
      → c.0 ≡ call_of o → option_map (λ r. r.reply) o.outcome ≡ Some c.1 → Parts n done cs os → Parts n (done ++ c ∷ []) cs (os ++ o ∷ [])
  held_joins n done cs os c o e is told p =
      let f = both_filters done c false e in record {
        words = f.0 ∙ append-nil (on_words done) ∙ p.words;
        held = subst (λ (ds : List (Call V × Reply V)). Told ds (os ++ o ∷ [])) (sym f.1) (Told-push (on_held done) os c o p.held is told);
      }

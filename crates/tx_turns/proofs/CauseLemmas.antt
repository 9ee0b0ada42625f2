-- What a step of a call, and one of a commit, can find for which its transaction is aborted.
--
-- A call reads words, and a commit locks and checks them: at no place of the one does a word stop what the other asks of it. While the
-- word of a read is loaded nothing is copied, and no gate is tried; what is copied, and tried, is a collection's.
use Rattle.std.proofs.Common.{◌≡◌, ℕ, false, true≢false, List, [], ◌∷◌, sym, ap, subst}
use Rattle.vlock_word.specs.declared.lock_word.LockWord.{LockWord}
use Rattle.tx_machine.specs.Actor as machine
use Rattle.tx_machine.specs.Actor.{Actor, Place}
use Rattle.tx_machine.specs.Refusals.{StopsRead, StopsLock, StopsCheck}
use Rattle.seq_model.specs.declared.call.Call.{Call}
use Rattle.seq_model.specs.declared.call.Op.{Op}
use Rattle.seq_model.specs.declared.call.Op.TheVariants.{Read, Write}
use Rattle.seq_model.specs.declared.call.Reply.{Reply}
use Rattle.seq_model.specs.declared.refusal.Refusal.{Refusal}
use Rattle.seq_model.specs.declared.refusal.Refusal.TheVariants.{Moved, Busy, Stale, GateBusy, Invalid}
use Rattle.replay_log.proofs.MixedLemmas.{is_word_op}
use Rattle.replay_log.proofs.SeatLemmas.{AtLocking, AtReading, AtStoring, KnownAsk, Linked, StageOk}
use Rattle.replay_log.specs.Contents.{CollectionCall, Block}
use Rattle.replay_log.specs.Seats.{World, Stage, Closing, Copying, Gating, Homing, Loading, Locking, Reading, Ready, Releasing, Storing}
use Rattle.replay_log.specs.Seats.{Trying, actor_of}
use Rattle.replay_log.specs.WorldRefusals.{IsCause, IsCopied, IsLastTry}
use Rattle.actor_laws.specs.KnownStages.{KnownStage, Calls, Commits, Committed, known_stage, known_stage_at}
use Rattle.tx_turns.specs.Driven.{IsCallCause, IsCommitCause, IsLoading, IsOnCollection}

-- ---- places
reads_only : (y : Actor) (l i : ℕ) (p : Place) (w : LockWord) → AtReading l p → (StopsLock p w → ⊥) × (StopsCheck y p i w → ⊥)
reads_only y l i (machine.Look k) w at = (λ h. h, λ h. h)
reads_only y l i (machine.Fetch k j) w at = (λ h. h, λ h. h)
reads_only y l i (machine.Again k j v) w at = (λ h. h, λ h. h)
reads_only y l i p w at = absurd at

locks_only : (y : Actor) (p : Place) (w : LockWord) → AtLocking p → StopsRead y p w → ⊥
locks_only y (machine.Lock ls) w at h = h
locks_only y (machine.Take l k ls) w at h = h
locks_only y (machine.Check (l ∷ ls)) w at h = h
locks_only y p w at h = absurd at

stores_only : (y : Actor) (p : Place) (w : LockWord) → AtStoring p → StopsRead y p w → ⊥
stores_only y (machine.Store (l ∷ ls)) w at h = h
stores_only y p w at h = absurd at

module _ {V : Type 0} where
  -- ---- kinds of calls
  held_kind : (op : Op V) → is_word_op op ≡ false → IsLoading op × IsOnCollection op
  held_kind Read h = absurd (true≢false h)
  held_kind (Write value) h = absurd (true≢false h)
  held_kind op h = (tt, tt)

  known_kind : (bs : List Block) (y : Actor) (asked : CollectionCall V) → KnownAsk bs y asked → IsLoading asked.op × IsOnCollection asked.op
  known_kind bs y asked h = held_kind asked.op h.0

  -- the call that is under way
  op_in : KnownStage V → Op V
  op_in (Calls calls call) = call.op
  op_in p = Read

  -- ---- stages
  abbrev IsOfCall : KnownStage V → Type 0
  IsOfCall (Calls calls call) = Unit {0}
  IsOfCall p = ⊥

  abbrev pub IsOfCommit : KnownStage V → Type 0
  IsOfCommit (Commits calls) = Unit {0}
  IsOfCommit Committed = Unit {0}
  IsOfCommit p = ⊥

  module _ (v u : World V) (a : ℕ) (cs : List (Call V × Reply V)) where
    abbrev y : Actor
    y = actor_of v a

    abbrev IsOkAt : Stage V → Place → Type 0
    IsOkAt st p = StageOk v.words v.blocks (v.seats a) y (v.boosted.shadows a) st p

    -- no lock and no check is stopped in a call
    call_stops : (st : Stage V) → IsOfCall (known_stage_at cs st) → (p : Place) → IsOkAt st p → (i : ℕ) (w : LockWord)
        → (StopsLock p w → ⊥) × (StopsCheck y p i w → ⊥)
    call_stops (Reading l) on p ok i w = reads_only y l i p w ok.0
    call_stops (Trying asked tries) on p ok i w =
        subst (λ (q : Place). (StopsLock q w → ⊥) × (StopsCheck y q i w → ⊥)) (sym ok.0) (λ h. h, λ h. h)
    call_stops (Copying asked) on p ok i w =
        subst (λ (q : Place). (StopsLock q w → ⊥) × (StopsCheck y q i w → ⊥)) (sym ok.0) (λ h. h, λ h. h)
    call_stops (Loading o []) on p ok i w = absurd ok
    call_stops (Loading o (d ∷ es)) on p ok i w = reads_only y d.0 i p w ok.0
    call_stops st on p ok i w = absurd on

    -- a write is answered as it is asked
    call_loads : (st : Stage V) → IsOfCall (known_stage_at cs st) → (p : Place) → IsOkAt st p → IsLoading (op_in (known_stage_at cs st))
    unfolding op_in
    call_loads (Reading l) on p ok = tt
    call_loads (Trying asked tries) on p ok = (known_kind v.blocks y asked ok.2).0
    call_loads (Copying asked) on p ok = (known_kind v.blocks y asked ok.2).0
    call_loads (Loading o []) on p ok = absurd ok
    call_loads (Loading o (d ∷ es)) on p ok = (held_kind o.asked.op ok.2.kind).0
    call_loads st on p ok = absurd on

    -- a collection is copied, and its gate is tried
    call_copies : (st : Stage V) → (p : Place) → IsOkAt st p → (l edition : ℕ) → IsCopied v st l edition
        → IsOnCollection (op_in (known_stage_at cs st))
    unfolding op_in
    call_copies (Copying asked) p ok l edition h = (known_kind v.blocks y asked ok.2).1
    call_copies (Loading o []) p ok l edition h = absurd ok
    call_copies (Loading o (d ∷ es)) p ok l edition h = (held_kind o.asked.op ok.2.kind).1
    call_copies st p ok l edition h = absurd h

    call_tries : (st : Stage V) → IsOfCall (known_stage_at cs st) → (p : Place) → IsOkAt st p → (k : ℕ) → IsLastTry st k
        → IsOnCollection (op_in (known_stage_at cs st))
    unfolding op_in
    call_tries (Trying asked tries) on p ok k h = (known_kind v.blocks y asked ok.2).1
    call_tries (Gating got ks tries) on p ok k h = absurd on
    call_tries st on p ok k h = absurd h

    call_found : (st : Stage V) → IsOfCall (known_stage_at cs st) → IsOkAt st y.place → (cause : Refusal) → IsCause v a st u cause
        → IsCallCause (op_in (known_stage_at cs st)) cause
    call_found st on ok (Moved l word) h = call_loads st on y.place ok
    call_found st on ok (Stale l base word) h = call_copies st y.place ok l base h.1
    call_found st on ok (GateBusy k) h = call_tries st on y.place ok k h.0
    call_found st on ok (Busy l word) h = absurd ((call_stops st on y.place ok l (v.boosted.words.locks l)).0 h.1)
    call_found st on ok (Invalid l word) h = absurd ((call_stops st on y.place ok l (v.boosted.words.locks l)).1 h.1)
    call_found st on ok cause h = absurd h

    -- no read is stopped in a commit, and nothing is copied
    commit_stops : (st : Stage V) → IsOfCommit (known_stage_at cs st) → (p : Place) → IsOkAt st p → (w : LockWord) → StopsRead y p w → ⊥
    commit_stops Locking on p ok w h = locks_only y p w ok.0 h
    commit_stops (Gating got [] tries) on p ok w h = absurd ok
    commit_stops (Gating got (k ∷ ks) tries) on p ok w h = subst (λ (q : Place). StopsRead y q w) ok.0 h
    commit_stops (Ready ks) on p ok w h = subst (λ (q : Place). StopsRead y q w) ok.0 h
    commit_stops Closing on p ok w h = subst (λ (q : Place). StopsRead y q w) ok.0 h
    commit_stops (Storing ks) on p ok w h = stores_only y p w ok.0 h
    commit_stops (Homing []) on p ok w h = absurd ok
    commit_stops (Homing (k ∷ ks)) on p ok w h = subst (λ (q : Place). StopsRead y q w) ok.0 h
    commit_stops Releasing on p ok w h = subst (λ (q : Place). StopsRead y q w) ok.0 h
    commit_stops st on p ok w h = absurd on

    commit_copies : (st : Stage V) → IsOfCommit (known_stage_at cs st) → (l edition : ℕ) → IsCopied v st l edition → ⊥
    commit_copies (Copying asked) on l edition h = absurd on
    commit_copies (Loading o es) on l edition h = absurd on
    commit_copies st on l edition h = h

    commit_found : (st : Stage V) → IsOfCommit (known_stage_at cs st) → IsOkAt st y.place → (cause : Refusal) → IsCause v a st u cause
        → IsCommitCause cause
    commit_found st on ok (Busy l word) h = tt
    commit_found st on ok (Invalid l word) h = tt
    commit_found st on ok (GateBusy k) h = tt
    commit_found st on ok (Moved l word) h = absurd (commit_stops st on y.place ok (v.boosted.words.locks l) h.1)
    commit_found st on ok (Stale l base word) h = absurd (commit_copies st on l base h.1)
    commit_found st on ok cause h = absurd h

  -- ---- where events have led
  pub call_cause : (v u : World V) (a : ℕ) → Linked v → (calls : List (Call V × Reply V)) (call : Call V)
      → known_stage (v.seats a) ≡ Calls calls call → (cause : Refusal) → IsCause v a (v.seats a).stage u cause → IsCallCause call.op cause
  unfolding op_in
  call_cause v u a k calls call on cause h =
      subst (λ (op : Op V). IsCallCause op cause) (ap op_in on)
      (call_found v u a (v.seats a).calls (v.seats a).stage (subst IsOfCall (sym on) tt) (k.seats a).stage cause h)

  pub commit_cause : (v u : World V) (a : ℕ) → Linked v → IsOfCommit (known_stage (v.seats a)) → (cause : Refusal)
      → IsCause v a (v.seats a).stage u cause → IsCommitCause cause
  commit_cause v u a k on cause h = commit_found v u a (v.seats a).calls (v.seats a).stage on (k.seats a).stage cause h

-- What an actor keeps that has heard a load: where the call continues, or is aborted, what it asks is there; where nothing came of the load
-- it is as it was.
use Rattle.std.proofs.Common.{◌≡◌, ◌≤◌, ℕ, [], ◌∷◌, length, None, refl, sym, subst}
use Rattle.std.specs.declared.alloc.Global.{Global}
use Rattle.std.specs.declared.collections.VecDeque.{VecDeque}
use Rattle.tx_sets.specs.Entries.{Entries}
use Rattle.tx_machine.specs.Notices as notice
use Rattle.step_core.specs.Sound.{owed}
use Rattle.actor_parts.specs.Blocks.{BlocksView}
use Rattle.actor_parts.specs.Dispatch.{shown_notice}
use Rattle.actor_parts.specs.declared.notice.WordNotice.{WordNotice}
use Rattle.actor_parts.specs.declared.notice.WordNotice.TheVariants.{Number, Moved}
use Rattle.tx_actor.specs.declared.actor.CallWithOutcome as running
use Rattle.tx_actor.specs.declared.actor.Stage.{Stage}
use Rattle.tx_actor.specs.declared.actor.Stage.TheVariants as stage
use Rattle.tx_actor.specs.declared.actor.TxActor.{TxActor}
use Rattle.tx_actor.specs.Dispatch.{HasRoom}
use Rattle.tx_actor.specs.ActorBounds.{CanGoOn, CanGoOnBehind, HeardAt, IsCallAt, IsRunning, IsSome, KeepsHeard, KeepsIn, NamesAmong}
use Rattle.tx_actor.specs.LoadStep.{first_entry}
use Rattle.tx_actor.specs.Running.{at}
use Rattle.tx_actor.proofs.ActorBoundsLemmas.{keeps_same}

module _ {V : Type 0} where
  -- what it asks of its call depends on no stage
  can_at : (v : BlocksView) (r : TxActor V) (s : Stage V) (o : running.CallWithOutcome V) (es : Entries) → CanGoOn v (at r s) o es
      → CanGoOn v r o es
  can_at v r s o es h = record {
    named = h.named;
    call = record {
      reads = h.call.reads;
      writes = h.call.writes;
      copy = h.call.copy;
      at = h.call.at;
      answer = h.call.answer;
      call_on = h.call.call_on;
    };
    room = record { calls = h.room.calls; reads = h.room.reads; few = h.room.few; none = h.room.none };
  }

  -- it continues as one that keeps it where it is idle
  pub heard_goes : (v : BlocksView) (r u : TxActor V) (o : running.CallWithOutcome V) (left : VecDeque (ℕ × ℕ) Global) (d : ℕ × ℕ)
      (es : Entries)
      (e : ℕ) → left.items ≡ d ∷ es → (CanGoOn v r o es → KeepsIn v (at r stage.Idle) u) → owed u.words.place ≤ owed r.words.place
      → KeepsHeard v (at r (stage.Loading o left)) u (notice.Number e)
  heard_goes v r u o left d es e first goes less =
      let s : Stage V = stage.Loading o left in
      record {
        running = λ h. (
            let can : CanGoOn v r o es =
            can_at v r s o es (subst (λ (fs : Entries). CanGoOnBehind v (at r s) o fs) first h.heard) in
            (goes can).running (record { fits = h.fits; room = tt; names = tt; call = tt }));
        owed = less;
      }

  -- it is aborted
  pub heard_ends : (v : BlocksView) (r u : TxActor V) (s : Stage V) (n : notice.Notice) → KeepsIn v (at r stage.Idle) u
      → KeepsHeard v (at r s) u n
  heard_ends v r u s n k = record {
    running = λ h. k.running (record { fits = h.fits; room = tt; names = tt; call = tt });
    owed = k.owed;
  }

  -- without a location to be read nothing is heard
  pub heard_none : (v : BlocksView) (r u : TxActor V) (o : running.CallWithOutcome V) (left : VecDeque (ℕ × ℕ) Global) (e : ℕ)
      → u ≡ at r (stage.Loading o left) → first_entry left.items ≡ None → KeepsHeard v (at r (stage.Loading o left)) u (notice.Number e)
  heard_none v r u o left e same none = record {
    running = λ h. absurd (by left.items none h.heard);
    owed = (keeps_same v (at r (stage.Loading o left)) u same).owed;
  }
    where
      by : (es : Entries) → first_entry es ≡ None → CanGoOnBehind v (at r (stage.Loading o left)) o es → ⊥
      by [] e h = h
      by (d ∷ es) e h = let z : ⊥ = cc in z

  pub moved_none : (v : BlocksView) (r u : TxActor V) (o : running.CallWithOutcome V) (left : VecDeque (ℕ × ℕ) Global) (l word : ℕ)
      → u ≡ at r (stage.Loading o left) → first_entry left.items ≡ None
      → KeepsHeard v (at r (stage.Loading o left)) u (notice.Moved l word)
  moved_none v r u o left l word same none = record {
    running = λ h. absurd (by left.items none h.heard);
    owed = (keeps_same v (at r (stage.Loading o left)) u same).owed;
  }
    where
      by : (es : Entries) → first_entry es ≡ None → IsSome es → ⊥
      by [] e h = h
      by (d ∷ es) e h = let z : ⊥ = cc in z

  -- nothing came of it
  abbrev Stays : BlocksView → TxActor V → Stage V → Type 0
  Stays v r s = HasRoom r s × NamesAmong (length v.blocks) s × IsCallAt v r.copies.items s

  heard_else : (v : BlocksView) (r : TxActor V) (o : running.CallWithOutcome V) (left : VecDeque (ℕ × ℕ) Global) (h : WordNotice)
      → ((e : ℕ) → h ≡ Number e → ⊥) → ((i j : ℕ) → h ≡ Moved i j → ⊥) → HeardAt v r (stage.Loading o left) (shown_notice h)
      → Stays v r (stage.Loading o left)
  heard_else v r o left (Number e) p q is = absurd (p e refl)
  heard_else v r o left (Moved i j) p q is = absurd (q i j refl)
  heard_else v r o left h p q is = is

  heard_other : (v : BlocksView) (r : TxActor V) (s : Stage V) (n : notice.Notice)
      → ((o : running.CallWithOutcome V) (left : VecDeque (ℕ × ℕ) Global) → s ≡ stage.Loading o left → ⊥) → HeardAt v r s n → Stays v r s
  heard_other v r (stage.Loading o left) n p is = absurd (p o left refl)
  heard_other v r s n p is = is

  stays_heard : (v : BlocksView) (r u : TxActor V) (n : notice.Notice) → u ≡ r → (HeardAt v r r.stage n → Stays v r r.stage)
      → KeepsHeard v r u n
  stays_heard v r u n same here = record {
    running = λ h.
        subst (IsRunning v) (sym same) (let s = here h.heard in record { fits = h.fits; room = s.0; names = s.1; call = s.2 });
    owed = (keeps_same v r u same).owed;
  }

  pub heard_stays : (v : BlocksView) (r u : TxActor V) (o : running.CallWithOutcome V) (left : VecDeque (ℕ × ℕ) Global) (h : WordNotice)
      → u ≡ at r (stage.Loading o left) → ((e : ℕ) → h ≡ Number e → ⊥) → ((i j : ℕ) → h ≡ Moved i j → ⊥)
      → KeepsHeard v (at r (stage.Loading o left)) u (shown_notice h)
  heard_stays v r u o left h same p q =
      stays_heard v (at r (stage.Loading o left)) u (shown_notice h) same (heard_else v (at r (stage.Loading o left)) o left h p q)

  pub heard_apart : (v : BlocksView) (r u : TxActor V) (n : notice.Notice) → u ≡ r
      → ((o : running.CallWithOutcome V) (left : VecDeque (ℕ × ℕ) Global) → r.stage ≡ stage.Loading o left → ⊥) → KeepsHeard v r u n
  heard_apart v r u n same p = stays_heard v r u n same (heard_other v r r.stage n p)

  heard_nothing : (v : BlocksView) (r : TxActor V) (s : Stage V) → HeardAt v r s notice.Quiet → Stays v r s
  heard_nothing v r (stage.Loading o left) is = is
  heard_nothing v r s is = is

  pub heard_quiet : (v : BlocksView) (r u : TxActor V) (n : notice.Notice) → n ≡ notice.Quiet → u ≡ r → KeepsHeard v r u n
  heard_quiet v r u n nothing same =
      subst (λ (q : notice.Notice). KeepsHeard v r u q) (sym nothing)
      (stays_heard v r u notice.Quiet same (heard_nothing v r r.stage))

  -- r stands at this stage, and has heard this
  pub heard_at : (v : BlocksView) (r u : TxActor V) (s : Stage V) (n m : notice.Notice) → r.stage ≡ s → n ≡ m → KeepsHeard v (at r s) u n
      → KeepsHeard v r u m
  heard_at v r u s n m e f k =
      subst (λ (q : notice.Notice). KeepsHeard v r u q) f (subst (λ (z : Stage V). KeepsHeard v (at r z) u n) (sym e) k)

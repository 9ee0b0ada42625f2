-- A failed allocation of an actor takes its request no further from its answer. Up to the first value store of a commit it aborts the
-- request, with the gates of its stage and the locks of its actor to be put back; and no stage is nearer to its answer than those are.
use Rattle.std.proofs.Common.{◌≡◌, ℕ, ◌+◌, ◌<◌, ◌≤◌, List, [], ◌∷◌, length, refl, sym, ap, subst, arith}
use Rattle.tx_machine.proofs.Invariant.{PlaceOk}
use Rattle.seq_model.specs.declared.refusal.Refusal.TheVariants as refusal
use Rattle.seq_model.specs.declared.event.Event.TheVariants.{Starve}
use Rattle.replay_log.specs.Worlds.{World, Seat, Stage, Idle, Beginning, Open, Locking, Releasing, Closing, Cancelling, Leaving, Reading}
use Rattle.replay_log.specs.Worlds.{Trying, Copying, Loading, Gating, Ready, Storing}
use Rattle.replay_log.specs.Worlds.{Homing, Returning, because, gives_up, starve_at, happens}
use Rattle.replay_log.specs.WorldProgress as measure
use Rattle.replay_log.specs.WorldProgress.{IsQuiet, left_of, Nears}
use Rattle.replay_log.proofs.ActionLemmas.{mine}
use Rattle.replay_log.proofs.SeatLemmas.{StageOk, Linked, CanLeave, at_of, reading_leaves, locking_leaves}
use Rattle.replay_log.proofs.ProgressLemmas.{reading_held, read_nears, cancels_near, gives_up_nears}

module _ {V : Type 0} where
  -- it remains where it is
  stays : (w : World V) (a : ℕ) (x : Seat V) (st : Stage V) → w.seats a ≡ x → x.stage ≡ st
      → left_of w a < measure.left_at st (w.boosted.words.actors a) + 1
  stays w a x st seat at =
      let y = w.boosted.words.actors a in
      let m = measure.left_at st y in
      subst (λ (q : Seat V). measure.left_at q.stage y < m + 1) (sym seat)
      (subst (λ (q : Stage V). measure.left_at q y < m + 1) (sym at) (omega arith))

  -- it is aborted, and these gates go back
  ends : (w : World V) (a : ℕ) (x : Seat V) (ks : List ℕ) (m : ℕ) → Linked w → CanLeave (w.boosted.words.actors a).place
      → length ks + length (w.boosted.words.actors a).held + 2 < m → Nears a m (gives_up w a (because x refusal.Memory) ks)
  ends w a x ks m k leave less =
      gives_up_nears w a (because x refusal.Memory) (w.boosted.words.actors a) (w.boosted.shadows a) (mine w.boosted a) ks m
      (at_of w a k) leave less

  -- it holds no gate
  cancels : (w : World V) (a : ℕ) (x : Seat V) (m : ℕ) → Linked w → CanLeave (w.boosted.words.actors a).place
      → length (w.boosted.words.actors a).held + 1 < m → Nears a m (gives_up w a (because x refusal.Memory) [])
  cancels w a x m k leave less = λ q.
      cancels_near w a (because x refusal.Memory) (w.boosted.words.actors a) (w.boosted.shadows a) (mine w.boosted a) m
      (at_of w a k) leave less

  starve_nears : (w : World V) (a : ℕ) (x : Seat V) (st : Stage V) → Linked w → w.seats a ≡ x → x.stage ≡ st
      → StageOk w.words w.blocks x (w.boosted.words.actors a) (w.boosted.shadows a) st (w.boosted.words.actors a).place
      → Nears a (measure.left_at st (w.boosted.words.actors a) + 1) (starve_at w a x st)
  starve_nears w a x Idle k seat at h = λ q. absurd q
  starve_nears w a x Open k seat at h = λ q. absurd q
  starve_nears w a x Beginning k seat at h = λ q. absurd q
  starve_nears w a x (Reading l) k seat at h =
      let y = w.boosted.words.actors a in
      let near = (read_nears w.boosted.words y l y.place h.0).0 in
      let none = ap length (reading_held w.boosted.words y l y.place h.0 (k.base.inv.machine.actors a).place) in
      cancels w a x (measure.left_at {V = V} (Reading l) y + 1) k (reading_leaves l y.place h.0) (omega (arith, near, none))
  starve_nears w a x (Trying asked tries) k seat at h =
      let y = w.boosted.words.actors a in
      let none = ap length (subst (PlaceOk w.boosted.words y) h.0 (k.base.inv.machine.actors a).place) in
      cancels w a x (tries + 12292 + 1) k (subst CanLeave (sym h.0) tt) (omega (arith, none))
  starve_nears w a x (Copying asked) k seat at h =
      let y = w.boosted.words.actors a in
      let none = ap length (subst (PlaceOk w.boosted.words y) h.0 (k.base.inv.machine.actors a).place) in
      ends w a x (asked.collection ∷ []) (12291 + 1) k (subst CanLeave (sym h.0) tt) (omega (arith, none))
  starve_nears w a x (Loading o []) k seat at h = absurd h
  starve_nears w a x (Loading o (d ∷ es)) k seat at h =
      let y = w.boosted.words.actors a in
      let near = (read_nears w.boosted.words y d.0 y.place h.0).0 in
      let none = ap length (reading_held w.boosted.words y d.0 y.place h.0 (k.base.inv.machine.actors a).place) in
      cancels w a x (measure.left_at (Loading o (d ∷ es)) y + 1) k (reading_leaves d.0 y.place h.0) (omega (arith, near, none))
  starve_nears w a x Locking k seat at h =
      let y = w.boosted.words.actors a in
      cancels w a x (measure.left_at {V = V} Locking y + 1) k (locking_leaves y.place h.0) (omega arith)
  starve_nears w a x (Gating got [] tries) k seat at h = absurd h
  starve_nears w a x (Gating got (i ∷ ks) tries) k seat at h =
      let y = w.boosted.words.actors a in
      ends w a x got (measure.left_at {V = V} (Gating got (i ∷ ks) tries) y + 1) k (subst CanLeave (sym h.0) tt) (omega arith)
  starve_nears w a x (Ready ks) k seat at h =
      let y = w.boosted.words.actors a in
      ends w a x ks (measure.left_at {V = V} (Ready ks) y + 1) k (subst CanLeave (sym h.0) tt) (omega arith)
  starve_nears w a x Closing k seat at h =
      let y = w.boosted.words.actors a in
      let none = ap length (subst (PlaceOk w.boosted.words y) h.0 (k.base.inv.machine.actors a).place).0 in
      cancels w a x (1 + 1) k (subst CanLeave (sym h.0) tt) (omega (arith, none))
  starve_nears w a x (Storing ks) k seat at h = λ q. stays w a x (Storing ks) seat at
  starve_nears w a x (Homing ks) k seat at h = λ q. stays w a x (Homing ks) seat at
  starve_nears w a x Releasing k seat at h = λ q. stays w a x Releasing seat at
  starve_nears w a x (Returning ks) k seat at h = λ q. stays w a x (Returning ks) seat at
  starve_nears w a x Cancelling k seat at h = λ q. stays w a x Cancelling seat at
  starve_nears w a x Leaving k seat at h = λ q. stays w a x Leaving seat at

  pub starve_no_further : (w : World V) (a : ℕ) → Linked w → IsQuiet (happens w (Starve a)).1
      → left_of (happens w (Starve a)).0 a ≤ left_of w a
  starve_no_further w a k q =
      let less = starve_nears w a (w.seats a) (w.seats a).stage k refl refl (k.seats a).stage q in omega (arith, less)

-- What a running actor makes of itself is what its world makes of its seat and its word actor: the world seats it anew (`put-same`), and
-- where it is aborted its word actor cancels and leaves (`gives_it_up`).
use Rattle.std.proofs.Common.{◌≡◌, ◌<◌, ◌-◌, ℕ, zero, suc, Bool, true, false, true≢false, eqb, cond, length, List, [], ◌∷◌, refl, sym, ap}
use Rattle.std.proofs.Common.{arith, ◌∙◌}
use Rattle.std.proofs.Math.Seq.{drop-cons, take-suc}
use Rattle.std.proofs.Common.{take, drop, ◌+◌, ◌++◌, get_or}
use Rattle.tx_machine.specs.Actor.{Actor}
use Rattle.tx_machine.specs.Requests.{ask, AskRelease}
use Rattle.tx_machine.proofs.Sets.{put-same}
use Rattle.seq_model.specs.declared.event.Notice.TheVariants.{Quiet}
use Rattle.seq_model.specs.declared.refusal.Refusal.TheVariants as refusal
use Rattle.replay_log.specs.Worlds.{World, Seat, Stage, Gating, Ready, Homing, Releasing, Returning, takes_gates, more_tries, goes_home}
use Rattle.replay_log.specs.Worlds.{at_stage, because, cancels, gives_up, has_tried, actor_of}
use Rattle.actor_parts.specs.Shows.{cancelled, ending}
use Rattle.actor_parts.specs.Dispatch.{MayRelease}
use Rattle.step_core.specs.Shown as words
use Rattle.tx_actor.specs.Running.{IsSeatOf, is_recorded, seat_at, seat_in, stage_in}
use Rattle.std.specs.Global.{Vec}
use Rattle.actor_parts.specs.declared.copies.CopyOfCollection.{CopyOfCollection}
use Rattle.tx_actor.specs.declared.actor.TxActor.{TxActor}
use Rattle.actor_parts.proofs.HomesLemmas.{not_none}
use Rattle.actor_parts.proofs.ShowsLemmas.{gives_it_up, guarded_asked}

-- the first of those after the i-th place, and the others
pub at_next : (i : ℕ) (xs : List ℕ) (k d : ℕ) (ks : List ℕ) → i < length xs → drop i xs ≡ k ∷ ks
    → (get_or xs i d ≡ k) × ((take (i + 1) xs ≡ take i xs ++ k ∷ []) × (drop (i + 1) xs ≡ ks))
at_next i xs k d ks lt e =
    let f = sym (drop-cons xs i d lt) ∙ e in
    let here : get_or xs i d ≡ k = λ j. get_or (f j) 0 d in
    let more : suc i ≡ i + 1 = omega arith in (
      here,
      (
        (λ j. take (sym more j) xs) ∙ (take-suc xs i d lt ∙ (λ j. take i xs ++ here j ∷ [])),
        (λ j. drop (sym more j) xs) ∙ (λ j. drop 1 (f j)),
      ),
    )

module _ {V : Type 0} where
  -- actor a of the world w has the seat p and the word actor q, and K holds
  abbrev pub Seats : ℕ → Seat V → Actor → Type 0 → World V → Type 0
  Seats a p q K w = (w.seats a ≡ p) × (actor_of w a ≡ q) × K

  -- the seat that u has in a world which seats it so, whatever stage it had before
  pub seat_as : (u : TxActor V) (z x : Seat V) → is_recorded u.stage ≡ false → z ≡ x → ((s : Stage V) → seat_in s u ≡ x) → z ≡ seat_at z u
  seat_as u z x closed e h =
      e
      ∙ (sym (h z.stage)
      ∙ sym (ap (λ (b : Bool). cond b (record (seat_in z.stage u) { calls = z.calls; copied = z.copied }) (seat_in z.stage u)) closed))

  -- and once its transaction is recorded, when it may have handed out its calls and its copies
  pub seat_left : (u : TxActor V) (z x : Seat V) (s : Stage V) → is_recorded u.stage ≡ true → z ≡ at_stage x s → IsSeatOf x u
      → ((t : Stage V) → stage_in t u.stage ≡ s) → z ≡ seat_at z u
  seat_left u z x s left e of h =
      let y : Seat V = record { stage = s; rv = u.rv; wv = u.wv; cause = u.cause; calls = x.calls; copied = x.copied } in
      let f : z ≡ y =
      e ∙ (λ i. record { stage = s; rv = of.0 i; wv = of.1 i; cause = of.2 i; calls = x.calls; copied = x.copied }) in
      f
      ∙ ((λ i. record {
        stage = sym (h z.stage) i;
        rv = u.rv;
        wv = u.wv;
        cause = u.cause;
        calls = (sym f i).calls;
        copied = (sym f i).copied;
      })
      ∙ sym (ap (λ (b : Bool). cond b (record (seat_in z.stage u) { calls = z.calls; copied = z.copied }) (seat_in z.stage u)) left))

  -- then its copies may go
  pub left_alike : (x : Seat V) (r : TxActor V) (cs : Vec (CopyOfCollection V)) → is_recorded r.stage ≡ true
      → seat_at x r ≡ seat_at x (record r { copies = cs })
  left_alike x r cs left =
      let u : TxActor V = record r { copies = cs } in
      ap (λ (b : Bool). cond b (record (seat_in x.stage r) { calls = x.calls; copied = x.copied }) (seat_in x.stage r)) left
      ∙ sym (ap (λ (b : Bool). cond b (record (seat_in x.stage u) { calls = x.calls; copied = x.copied }) (seat_in x.stage u)) left)

  pub seat_numbers : (x : Seat V) (r : TxActor V) → IsSeatOf (seat_at x r) r
  seat_numbers x r = go (is_recorded r.stage)
    where
      go : (b : Bool) → IsSeatOf (cond b (record (seat_in x.stage r) { calls = x.calls; copied = x.copied }) (seat_in x.stage r)) r
      go true = (refl, refl, refl)
      go false = (refl, refl, refl)

  pub seat_stage : (x : Seat V) (r : TxActor V) → (seat_at x r).stage ≡ stage_in x.stage r.stage
  seat_stage x r = go (is_recorded r.stage)
    where
      go : (b : Bool) → (cond b (record (seat_in x.stage r) { calls = x.calls; copied = x.copied }) (seat_in x.stage r)).stage
          ≡ stage_in x.stage r.stage
      go true = refl
      go false = refl

  pub cancels_as : (a : ℕ) (z p : Seat V) (y q : Actor) (K : Type 0) (w : World V) → K → q ≡ cancelled y → p ≡ ending z q
      → actor_of w a ≡ y → Seats a p q K (cancels w a z)
  cancels_as a z p y q K w k e pe s =
      let g = gives_it_up a (w.seats a) z y w (refl, s) in
      (g.0.0 ∙ sym (pe ∙ ap (ending z) e), g.0.1 ∙ sym e, k)

  pub returns_as : (a : ℕ) (z p : Seat V) (q : Actor) (K : Type 0) (w : World V) (ks : List ℕ) → K → eqb (length ks) 0 ≡ false
      → p ≡ at_stage z (Returning ks) → actor_of w a ≡ q
      → Seats a p q K (gives_up w a z ks).0 × (Quiet ≡ (gives_up w a z ks).1)
  returns_as a z p q K w [] k len e s = absurd (true≢false len)
  returns_as a z p q K w (i ∷ ks) k len e s = ((put-same w.seats a _ ∙ sym e, s, k), refl)

  -- a gate that was tried: found free, taken and tried again, taken at the last try
  pub tried_free : (a : ℕ) (x p : Seat V) (q : Actor) (K : Type 0) (w : World V) (free : Bool) (k : ℕ) (got : List ℕ)
      (again : ℕ → Stage V) (next : Stage V) (n : ℕ)
      → K → free ≡ true → p ≡ at_stage x next → actor_of w a ≡ q
      → Seats a p q K (has_tried w a x free k got again next n).0 × (Quiet ≡ (has_tried w a x free k got again next n).1)
  tried_free a x p q K w true k got again next n known is e s = ((put-same w.seats a _ ∙ sym e, s, known), refl)
  tried_free a x p q K w false k got again next n known is e s = absurd (true≢false (sym is))

  pub tried_again : (a : ℕ) (x p : Seat V) (q : Actor) (K : Type 0) (w : World V) (free : Bool) (k : ℕ) (got : List ℕ)
      (again : ℕ → Stage V) (next : Stage V) (n : ℕ)
      → K → free ≡ false → 0 < n → p ≡ at_stage x (again (n - 1)) → actor_of w a ≡ q
      → Seats a p q K (has_tried w a x free k got again next n).0 × (Quiet ≡ (has_tried w a x free k got again next n).1)
  tried_again a x p q K w true k got again next n known is lt e s = absurd (true≢false is)
  tried_again a x p q K w false k got again next zero known is lt e s = absurd (omega arith)
  tried_again a x p q K w false k got again next (suc n) known is lt e s =
      let one : suc n - 1 ≡ n = omega arith in
      ((put-same w.seats a _ ∙ sym (e ∙ ap (λ m. at_stage x (again m)) one), s, known), refl)

  pub last_try : (a : ℕ) (x : Seat V) (w : World V) (free : Bool) (k : ℕ) (got : List ℕ) (again : ℕ → Stage V) (next : Stage V) (n : ℕ)
      → free ≡ false → n ≡ 0 → has_tried w a x free k got again next n ≡ gives_up w a (because x (refusal.GateBusy k)) got
  last_try a x w true k got again next n is none = absurd (true≢false is)
  last_try a x w false k got again next zero is none = refl
  last_try a x w false k got again next (suc n) is none = absurd (omega arith)

  pub gates_none : (ks : List ℕ) → eqb (length ks) 0 ≡ true → Ready ks ≡ takes_gates {V = V} [] ks
  gates_none [] len = refl
  gates_none (k ∷ ks) len = absurd (not_none (length ks) len)

  pub gates_some : (ks : List ℕ) → eqb (length ks) 0 ≡ false → Gating [] ks more_tries ≡ takes_gates {V = V} [] ks
  gates_some [] len = absurd (true≢false len)
  gates_some (k ∷ ks) len = refl

  -- the bases are home, and no gate is held any more: the locks are released
  pub rests_home : (a : ℕ) (x : Seat V) (u : TxActor V) (y : Actor) (K : Type 0) (w : World V) (ks : List ℕ) → K
      → eqb (length ks) 0 ≡ true → MayRelease a w ks → IsSeatOf x u → is_recorded u.stage ≡ true
      → ((t : Stage V) → stage_in t u.stage ≡ Releasing) → words.actor_of u.words ≡ ask y y.place AskRelease → actor_of w a ≡ y →
      let f = goes_home w a x ks in
      Seats a (seat_at (f.0.seats a) u) (words.actor_of u.words) K f.0 × (Quiet ≡ f.1)
  rests_home a x u y K w [] known len is of left h eq s = (
    (
      seat_left u _ x Releasing left (put-same w.seats a _) of h,
      guarded_asked a w AskRelease _ is ∙ (ap (λ (z : Actor). ask z z.place AskRelease) s ∙ sym eq),
      known,
    ),
    refl,
  )
  rests_home a x u y K w (k ∷ ks) known len is of left h eq s = absurd (not_none (length ks) len)

  pub takes_home : (a : ℕ) (x : Seat V) (u : TxActor V) (K : Type 0) (w : World V) (ks : List ℕ) → K → eqb (length ks) 0 ≡ false
      → IsSeatOf x u → is_recorded u.stage ≡ true → ((t : Stage V) → stage_in t u.stage ≡ Homing ks)
      → actor_of w a ≡ words.actor_of u.words →
      let f = goes_home w a x ks in
      Seats a (seat_at (f.0.seats a) u) (words.actor_of u.words) K f.0 × (Quiet ≡ f.1)
  takes_home a x u K w [] known len of left h s = absurd (true≢false len)
  takes_home a x u K w (k ∷ ks) known len of left h s = (
    (seat_left u _ x (Homing (k ∷ ks)) left (put-same w.seats a _) of h, s, known),
    refl,
  )

  pub gates_next : (i : ℕ) (ks : List ℕ) → i < length ks
      → Gating (take i ks) (drop i ks) more_tries ≡ takes_gates {V = V} (take i ks) (drop i ks)
  gates_next i ks lt =
      let e = drop-cons ks i 0 lt in
      (λ j. Gating (take i ks) (e j) more_tries) ∙ sym (λ j. takes_gates (take i ks) (e j))

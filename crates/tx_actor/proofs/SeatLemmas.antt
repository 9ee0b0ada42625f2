-- The seat that a world has of a running actor: but for what is left open while a call is read for, and once its record is made, it is what
-- the actor shows. What a request, a failed allocation or a step makes of it depends on nothing that is left open.
use Rattle.std.proofs.Common.{◌≡◌, ℕ, false, true≢false, List, refl, sym, ap, ◌∙◌, subst}
use Rattle.std.specs.Prelude.{not, filter, if◌then◌else◌}
use Rattle.tx_sets.specs.Entries.{locations}
use Rattle.tx_machine.specs.Actor.{Actor}
use Rattle.seq_model.specs.declared.event.Request.{Request}
use Rattle.seq_model.specs.declared.record.Record.{Record}
use Rattle.seq_model.specs.Contents.{Contents}
use Rattle.replay_log.specs.Contents.{Block, home_of, is_plain}
use Rattle.replay_log.specs.Worlds.{World, Seat, Idle, Ready, actor_of, all_of, ask_at, at_stage, distinct, is_half_done, no_one, starve_at}
use Rattle.replay_log.specs.Worlds.{written_homes}
use Rattle.replay_log.specs.WorldSerial.{SawAt}
use Rattle.actor_laws.specs.Own.{Alike}
use Rattle.actor_parts.specs.Dispatch.{is_loading, next_of}
use Rattle.tx_actor.specs.Running.{KnowsHomes, Runs, is_recorded, seat_at, seat_of, stage_in, stage_of}
use Rattle.tx_actor.specs.declared.actor.Stage as own
use Rattle.tx_actor.specs.declared.actor.Stage.TheVariants as stage
use Rattle.tx_actor.specs.declared.actor.TxActor.{TxActor}

module _ {V : Type 0} where
  -- the seat in a world that has x for it, of an actor that shows y at the stage t
  abbrev pub seat_by : Seat V → Seat V → own.Stage V → Seat V
  seat_by x y t =
      if is_recorded t then record (at_stage y (stage_in x.stage t)) { calls = x.calls; copied = x.copied }
      else at_stage y (stage_in x.stage t)

  stage_of_seat : (x y : Seat V) (t : own.Stage V) → is_loading (stage_of t) ≡ false → (seat_by x y t).stage ≡ stage_of t
  stage_of_seat x y (stage.Loading o left) e = absurd (true≢false e)
  stage_of_seat x y t e = refl

  plain_seat : (x y : Seat V) (t : own.Stage V) → is_loading (stage_of t) ≡ false → is_recorded t ≡ false
      → seat_by x y t ≡ at_stage y (stage_of t)
  plain_seat x y (stage.Loading o left) e f = absurd (true≢false e)
  plain_seat x y (stage.Storing homes) e f = absurd (true≢false f)
  plain_seat x y (stage.Homing homes) e f = absurd (true≢false f)
  plain_seat x y stage.Releasing e f = absurd (true≢false f)
  plain_seat x y t e f = refl

  pub stage_by : (x : Seat V) (r : TxActor V) → is_loading (stage_of r.stage) ≡ false → x ≡ seat_at x r → x.stage ≡ stage_of r.stage
  stage_by x r quiet is = ap (λ (z : Seat V). z.stage) is ∙ stage_of_seat x (seat_of r) r.stage quiet

  pub seated_by : (x : Seat V) (r : TxActor V) → is_loading (stage_of r.stage) ≡ false → is_recorded r.stage ≡ false → x ≡ seat_at x r
      → x ≡ seat_of r
  seated_by x r quiet plain is = is ∙ plain_seat x (seat_of r) r.stage quiet plain

  asked_at : (w : World V) (a : ℕ) (q : Request V) (x y : Seat V) (t : own.Stage V)
      → ask_at w a (seat_by x y t) (seat_by x y t).stage q ≡ ask_at w a (at_stage y (stage_of t)) (stage_of t) q
  asked_at w a q x y (stage.Loading o left) = refl
  asked_at w a q x y (stage.Storing homes) = refl
  asked_at w a q x y (stage.Homing homes) = refl
  asked_at w a q x y stage.Releasing = refl
  asked_at w a q x y t = refl

  pub asked_as : (w : World V) (a : ℕ) (q : Request V) (r : TxActor V) → Runs a r w
      → ask_at w a (w.seats a) (w.seats a).stage q ≡ ask_at w a (seat_of r) (stage_of r.stage) q
  asked_as w a q r runs =
      ap (λ (x : Seat V). ask_at w a x x.stage q) runs.0 ∙ asked_at w a q (w.seats a) (seat_of r) r.stage

  starved_at : (w : World V) (a : ℕ) (x y : Seat V) (t : own.Stage V)
      → starve_at w a (seat_by x y t) (seat_by x y t).stage ≡ starve_at w a (at_stage y (stage_of t)) (stage_of t)
  starved_at w a x y (stage.Loading o left) = refl
  starved_at w a x y (stage.Storing homes) = refl
  starved_at w a x y (stage.Homing homes) = refl
  starved_at w a x y stage.Releasing = refl
  starved_at w a x y t = refl

  pub starved_as : (w : World V) (a : ℕ) (r : TxActor V) → Runs a r w
      → starve_at w a (w.seats a) (w.seats a).stage ≡ starve_at w a (seat_of r) (stage_of r.stage)
  starved_as w a r runs = ap (λ (x : Seat V). starve_at w a x x.stage) runs.0 ∙ starved_at w a (w.seats a) (seat_of r) r.stage

  next_at : (x y : Seat V) (t : own.Stage V) → next_of (seat_by x y t).stage ≡ next_of (stage_of t)
  next_at x y (stage.Loading o left) = refl
  next_at x y t = refl

  pub next_as : (w : World V) (a : ℕ) (r : TxActor V) → Runs a r w → next_of (w.seats a).stage ≡ next_of (stage_of r.stage)
  next_as w a r runs = ap (λ (x : Seat V). next_of x.stage) runs.0 ∙ next_at (w.seats a) (seat_of r) r.stage

  loading_at : (x y : Seat V) (t : own.Stage V) → is_loading (seat_by x y t).stage ≡ is_loading (stage_of t)
  loading_at x y (stage.Loading o left) = refl
  loading_at x y t = refl

  pub seat_loading : (x : Seat V) (r : TxActor V) → x ≡ seat_at x r → is_loading x.stage ≡ is_loading (stage_of r.stage)
  seat_loading x r is = ap (λ (y : Seat V). is_loading y.stage) is ∙ loading_at x (seat_of r) r.stage

  pub loading_as : (w : World V) (a : ℕ) (r : TxActor V) → Runs a r w → is_loading (w.seats a).stage ≡ is_loading (stage_of r.stage)
  loading_as w a r runs = seat_loading (w.seats a) r runs.0

  ready_at : (x y : Seat V) (t : own.Stage V) (ks : List ℕ) → (seat_by x y t).stage ≡ Ready ks → stage_of t ≡ Ready ks
  ready_at x y (stage.Loading o left) ks e = let z : ⊥ = cc in absurd z
  ready_at x y t ks e = e

  pub ready_as : (w : World V) (a : ℕ) (r : TxActor V) (ks : List ℕ) → Runs a r w → (w.seats a).stage ≡ Ready ks
      → stage_of r.stage ≡ Ready ks
  ready_as w a r ks runs at =
      ready_at (w.seats a) (seat_of r) r.stage ks (sym (ap (λ (x : Seat V). x.stage) runs.0) ∙ at)

  -- what is half done of a seat, and its number
  abbrev pub IsLike : Seat V → Seat V → Type 0
  IsLike x y = (is_half_done x.stage ≡ is_half_done y.stage) × (x.wv ≡ y.wv)

  like_at : (x y : Seat V) (t : own.Stage V) → IsLike (seat_by x y t) (at_stage y (stage_of t))
  like_at x y (stage.Loading o left) = (refl, refl)
  like_at x y t = (refl, refl)

  pub like_as : (w : World V) (a : ℕ) (r : TxActor V) → Runs a r w → IsLike (w.seats a) (seat_of r)
  like_as w a r runs = subst (λ (x : Seat V). IsLike x (seat_of r)) (sym runs.0) (like_at (w.seats a) (seat_of r) r.stage)

  pub idle_as : (r : TxActor V) → seat_of r ≡ no_one → r.stage ≡ stage.Idle → no_one ≡ seat_at no_one r
  idle_as r is at =
      subst (λ (t : own.Stage V). no_one ≡ seat_by no_one (seat_of r) t) (sym at) (ap (λ (x : Seat V). at_stage x Idle) (sym is))

  same_homes : (w u : World V) (b : ℕ) → Alike b w u → written_homes u b ≡ written_homes w b
  same_homes w u b h =
      let homes = λ (n : ℕ) (bs : List Block) (y : Actor).
      distinct (all_of (home_of n bs) (filter (λ l. not (is_plain n bs l)) (locations y.writes))) in
      ap (λ (n : ℕ). homes n u.blocks (actor_of u b)) (sym h.words)
      ∙ (ap (λ (bs : List Block). homes w.words bs (actor_of u b)) (sym h.blocks)
      ∙ ap (λ (y : Actor). homes w.words w.blocks y) (sym h.boosted.actor))

  -- an actor of a world is one of each world that is alike to it
  pub runs_stand : (w u : World V) (b : ℕ) (r : TxActor V) → Alike b w u → Runs b r w → Runs b r u
  runs_stand w u b r h runs = (
    subst (λ (x : Seat V). x ≡ seat_at x r) h.seat runs.0,
    sym h.boosted.actor ∙ runs.1,
    subst (λ (ks : List ℕ). KnowsHomes r.stage ks) (sym (same_homes w u b h)) runs.2,
  )

  saw_at : (o : Contents V) (rs : List (ℕ × Record V)) (x y : Seat V) (t : own.Stage V) → SawAt o rs (seat_by x y t) (seat_by x y t).stage
      → SawAt o rs y (stage_of t)
  saw_at o rs x y stage.Idle h = tt
  saw_at o rs x y stage.Beginning h = tt
  saw_at o rs x y (stage.Storing homes) h = tt
  saw_at o rs x y (stage.Homing homes) h = tt
  saw_at o rs x y stage.Releasing h = tt
  saw_at o rs x y (stage.Loading a left) h = h
  saw_at o rs x y t h = h

  -- what the transaction of a seat saw, that of its actor saw
  pub saw_as : (o : Contents V) (rs : List (ℕ × Record V)) (w : World V) (a : ℕ) (r : TxActor V) → Runs a r w
      → SawAt o rs (w.seats a) (w.seats a).stage → SawAt o rs (seat_of r) (stage_of r.stage)
  saw_as o rs w a r runs h =
      saw_at o rs (w.seats a) (seat_of r) r.stage (subst (λ (x : Seat V). SawAt o rs x x.stage) runs.0 h)

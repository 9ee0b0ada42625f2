-- A request, by where its actor's request stands. A request on words, a commit or an abort leaves the actor's shadow and its copies;
-- what is refused leaves the world; a call on a collection is as its own method says.
use Rattle.std.proofs.Common.{◌≡◌, ℕ, ◌<◌, ◌&&◌, true, length, cond, refl, sym, ap, subst, ◌∙◌}
use Rattle.std.specs.Prelude.{OnErr, Result, Ok, Err}
use Rattle.tx_machine.specs.Actor as machine
use Rattle.seq_model.specs.declared.call.Call.{Call}
use Rattle.seq_model.specs.declared.call.Op.{Op}
use Rattle.seq_model.specs.declared.call.Op.TheVariants.{Read, Write}
use Rattle.seq_model.specs.declared.event.Request.{Request}
use Rattle.seq_model.specs.declared.event.Request.TheVariants as request
use Rattle.seq_model.specs.declared.event.Notice.TheVariants.{Refused}
use Rattle.seq_model.specs.declared.limits.TheConstants.{CALL_LIMIT}
use Rattle.seq_model.specs.declared.refusal.Refusal.TheVariants as refusal
use Rattle.replay_log.specs.Contents.{block_of}
use Rattle.replay_log.specs.WorldAnswers.{has_word_room, is_there}
use Rattle.replay_log.specs.Worlds as worlds
use Rattle.replay_log.specs.Worlds.{World, Seat, After, ask_at, ask_idle, ask_op, ask_open, is_known, may_ask}
use Rattle.tx_actor.specs.declared.actor.Stage.{Stage}
use Rattle.tx_actor.specs.declared.actor.Stage.TheVariants as stage
use Rattle.tx_actor.specs.declared.actor.ActorNotice.{ActorNotice}
use Rattle.tx_actor.specs.declared.actor.ActorNotice.TheVariants as told
use Rattle.tx_actor.specs.declared.actor.TxActor.{TxActor}
use Rattle.tx_actor.specs.Asks.{AdmitsCall, Asks, Stands}
use Rattle.actor_parts.specs.Blocks.{BlocksView}
use Rattle.tx_actor.specs.Calls.{AsksAt, AsksOwn, StandsOwn, ask_call, is_allowed}
use Rattle.tx_actor.specs.Owns.{OwnsCopies}
use Rattle.tx_actor.specs.Prepares.{IsAlike}
use Rattle.tx_actor.specs.Running.{Does, KnowsHomes, Runs, is_recorded, notice_of, seat_of, stage_in, stage_of}
use Rattle.tx_actor.proofs.OwnAsksLemmas.{SameOwn, owns_still}
use Rattle.tx_actor.proofs.CopyListLemmas.{owns_by}
use Rattle.tx_actor.proofs.PreparesLemmas.{alike_owns, alike_seat}

pub on_err : {T E P : Type 0} (r : Result T E) → P → OnErr r P
on_err (Ok x) p = tt
on_err (Err e) p = p

module _ {V : Type 0} where
  -- what leaves the shadow and the copies
  pub own_still : (v : BlocksView) (r u : TxActor V) (t : ActorNotice V) (f : ℕ → World V → After V) → u.copies ≡ r.copies
      → ((a : ℕ) (w : World V) → SameOwn a w (f a w).0) → Asks v r u t f → AsksOwn v r u t f
  own_still v r u t f copies same asks a w laid s own call =
      let now = asks a w laid s in
      (now.0, now.1, owns_still r u w (f a w).0 a (λ i. (copies i).items) (same a w) own)

  pub does_still : (v : BlocksView) (r u : TxActor V) (t : ActorNotice V) (f : ℕ → World V → After V) → u.copies ≡ r.copies
      → ((a : ℕ) (w : World V) → SameOwn a w (f a w).0) → Does r u t f → AsksOwn v r u t f
  does_still v r u t f copies same does = own_still v r u t f copies same (λ a w laid s. does a w s)

  pub stands_still : (r u : TxActor V) → u.copies ≡ r.copies → Stands r u → StandsOwn r u
  stands_still r u copies stands = (stands, λ a w own. owns_by r u w w a (λ i. (copies i).items) refl refl refl own)

  -- with what a seat has alone
  abbrev with_left : Seat V → Stage V → Seat V → Seat V
  with_left x st z = cond (is_recorded st) (record z { calls = x.calls; copied = x.copied }) z

  pub alike_stands : (r u : TxActor V) → IsAlike r u → StandsOwn r u
  alike_stands r u alike = (
    (λ a w s. (
      s.0 ∙ (λ i. with_left (w.seats a) (sym alike.stage i) (worlds.at_stage (sym (alike_seat r u alike) i)
          (stage_in (w.seats a).stage (sym alike.stage i)))),
      s.1 ∙ sym alike.words,
      subst (λ st. KnowsHomes st (worlds.written_homes w a)) (sym alike.stage) s.2,
    )),
    λ a w own. alike_owns r u w a alike own,
  )

  -- ---- what is asked where
  op_else : (w : World V) (a : ℕ) (x : Seat V) (k : ℕ) (op : Op V) → (op ≡ Read → ⊥) → ((v : ℕ) → op ≡ Write v → ⊥)
      → ask_op w a x k op ≡ ask_call w a x k op
  op_else w a x k Read p q = absurd (p refl)
  op_else w a x k (Write v) p q = absurd (q v refl)
  op_else w a x k op p q = refl

  pub call_as : (v : BlocksView) (r u : TxActor V) (t : ActorNotice V) (k : ℕ) (op : Op V) → (op ≡ Read → ⊥) → ((n : ℕ) → op ≡ Write n → ⊥)
      → AsksOwn v r u t (λ a w. ask_call w a (seat_of r) k op) → AsksOwn v r u t (λ a w. ask_op w a (seat_of r) k op)
  call_as v r u t k op p q asks a w laid s own call =
      subst (λ (z : After V). Runs a u z.0 × (notice_of a t ≡ z.1) × OwnsCopies u z.0 a) (sym (op_else w a (seat_of r) k op p q))
      (asks a w laid s own call)

  there_else : (w : World V) (a k : ℕ) (op : Op V) → (op ≡ Read → ⊥) → ((v : ℕ) → op ≡ Write v → ⊥)
      → is_there w a k op ≡ (is_known (block_of w.blocks k) op && may_ask (worlds.actor_of w a) op)
  there_else w a k Read p q = absurd (p refl)
  there_else w a k (Write v) p q = absurd (q v refl)
  there_else w a k op p q = refl

  room_else : (x : machine.Actor) (k : ℕ) (op : Op V) → (op ≡ Read → ⊥) → ((v : ℕ) → op ≡ Write v → ⊥) → has_word_room x k op ≡ true
  room_else x k Read p q = absurd (p refl)
  room_else x k (Write v) p q = absurd (q v refl)
  room_else x k op p q = refl

  pub admits_call : (v : BlocksView) (r : TxActor V) (call : Call V) → (call.op ≡ Read → ⊥) → ((n : ℕ) → call.op ≡ Write n → ⊥)
      → is_allowed v r.words call.target call.op ≡ true → length r.calls.items < CALL_LIMIT → AdmitsCall v r call
  admits_call v r call p q allowed few = record {
    there = λ a w laid s. there_else w a call.target call.op p q
        ∙ ((λ i. is_known (block_of (laid.1 i) call.target) call.op && may_ask (s.1 i) call.op) ∙ allowed);
    few = few;
    room = λ a w laid s. room_else (worlds.actor_of w a) call.target call.op p q;
  }

  pub idle_else : (w : World V) (a : ℕ) (x : Seat V) (q : Request V) → (q ≡ request.Begin → ⊥) → (q ≡ request.BeginRead → ⊥)
      → ask_idle w a x q ≡ (w, Refused a refusal.NoTransaction)
  idle_else w a x request.Begin p r = absurd (p refl)
  idle_else w a x request.BeginRead p r = absurd (r refl)
  idle_else w a x q p r = refl

  pub ask_else : (w : World V) (a : ℕ) (x : Seat V) (s : Stage V) (q : Request V) → (s ≡ stage.Idle → ⊥) → (s ≡ stage.Open → ⊥)
      → ask_at w a x (stage_of s) q ≡ (w, Refused a refusal.NotIdle)
  ask_else w a x stage.Idle q p r = absurd (p refl)
  ask_else w a x stage.Open q p r = absurd (r refl)
  ask_else w a x s q p r = refl

  not_open : (s : Stage V) → s ≡ stage.Idle → s ≡ stage.Open → ⊥
  not_open s p q = let h : ⊥ = cc in h

  pub asked_idle : (v : BlocksView) (r u : TxActor V) (t : ActorNotice V) (q : Request V) → r.stage ≡ stage.Idle
      → Does r u t (λ a w. ask_idle w a (seat_of r) q) → AsksAt v r u t (λ a w. ask_at w a (seat_of r) (stage_of r.stage) q)
  asked_idle v r u t q is does a w laid s own =
      let e : ask_at w a (seat_of r) (stage_of r.stage) q ≡ ask_idle w a (seat_of r) q =
      ap (λ (st : Stage V). ask_at w a (seat_of r) (stage_of st) q) is in
      let now = subst (λ (z : After V). Runs a u z.0 × (notice_of a t ≡ z.1)) (sym e) (does a w s) in
      (now.0, now.1, λ rests. absurd (not_open r.stage is rests))

  pub asked_open : (v : BlocksView) (r u : TxActor V) (t : ActorNotice V) (q : Request V) → r.stage ≡ stage.Open
      → AsksOwn v r u t (λ a w. ask_open w a (seat_of r) q) → AsksAt v r u t (λ a w. ask_at w a (seat_of r) (stage_of r.stage) q)
  asked_open v r u t q is asks a w laid s own =
      let e : ask_at w a (seat_of r) (stage_of r.stage) q ≡ ask_open w a (seat_of r) q =
      ap (λ (st : Stage V). ask_at w a (seat_of r) (stage_of st) q) is in
      let both = own is in
      let now = subst (λ (z : After V). Runs a u z.0 × (notice_of a t ≡ z.1) × OwnsCopies u z.0 a) (sym e) (asks a w laid s both.0 both.1)
      in
      (now.0, now.1, λ rests. now.2)

  pub asked_else : (v : BlocksView) (r : TxActor V) (q : Request V) → (r.stage ≡ stage.Idle → ⊥) → (r.stage ≡ stage.Open → ⊥)
      → AsksAt v r r (told.Refused refusal.NotIdle) (λ a w. ask_at w a (seat_of r) (stage_of r.stage) q)
  asked_else v r q i o a w laid s own =
      let e = ask_else w a (seat_of r) r.stage q i o in
      let now = subst (λ (z : After V). Runs a r z.0 × (notice_of a (told.Refused refusal.NotIdle) ≡ z.1)) (sym e) (s, refl) in
      (now.0, now.1, λ rests. absurd (o rests))

-- A declared reader asks for no change, and has no sets. The first is read off the definition of a request; the second is
-- the word machine's law, at the places at which a transaction is open.
use Rattle.std.proofs.Common.{◌≡◌, ℕ, Bool, true, false, not, ◌&&◌, List, [], refl, sym, ap, ◌∙◌, subst, true≢false}
use Rattle.tx_machine.specs.Actor as machine
use Rattle.tx_machine.specs.Actor.{Place, Actor}
use Rattle.tx_machine.proofs.Invariant.{HasBegun, IsKept, ActorOk}
use Rattle.seq_model.specs.declared.call.Op.{Op}
use Rattle.seq_model.specs.declared.call.Op.TheVariants.{Write, Put, Remove, Add, Take, Insert, TakeLeast, Enqueue, Dequeue}
use Rattle.seq_model.specs.declared.call.Call.{Call}
use Rattle.seq_model.specs.declared.held.Held.{Held}
use Rattle.seq_model.specs.declared.refusal.Refusal.TheVariants as refusal
use Rattle.seq_model.specs.declared.event.Event.{Event}
use Rattle.seq_model.specs.declared.event.Event.TheVariants.{Ask}
use Rattle.seq_model.specs.declared.event.Request.TheVariants as request
use Rattle.seq_model.specs.declared.event.Notice.TheVariants.{Refused}
use Rattle.replay_log.specs.Contents.{Block, HaveStripes}
use Rattle.replay_log.specs.Worlds.{World, Seat, Stage, Open, Trying, Copying, After, actor_of, is_change, if_allowed, ask_op, ask_at}
use Rattle.replay_log.specs.Worlds.{happens, run, opened}
use Rattle.replay_log.specs.WorldRefusals.{is_calling}
use Rattle.replay_log.proofs.SeatLemmas.{Copy, StageOk}
use Rattle.replay_log.proofs.EventLemmas.{run_linked, opened_linked}

none_known : (known : Bool) → (known && false) ≡ false
none_known true = refl
none_known false = refl

module _ {V : Type 0} where
  refused_if : (w : World V) (a : ℕ) (x : Seat V) (known may room : Bool) (next : After V) → may ≡ false → if_allowed w a x
      (known && may) room next ≡ (w, Refused a refusal.NoSuch)
  refused_if w a x known may room next h = ap (λ b. if_allowed w a x b room next) (ap (λ b. known && b) h ∙ none_known known)

  op_refused : (w : World V) (a : ℕ) (x : Seat V) (t : ℕ) (op : Op V) → (actor_of w a).declared ≡ true → is_change op ≡ true
      → ask_op w a x t op ≡ (w, Refused a refusal.NoSuch)
  op_refused w a x t (Write v) d h = refused_if w a x _ _ _ _ (ap not d)
  op_refused w a x t (Put k v) d h = refused_if w a x _ _ _ _ (ap (λ b. not (b && true)) d)
  op_refused w a x t (Remove k) d h = refused_if w a x _ _ _ _ (ap (λ b. not (b && true)) d)
  op_refused w a x t (Add e) d h = refused_if w a x _ _ _ _ (ap (λ b. not (b && true)) d)
  op_refused w a x t (Take e) d h = refused_if w a x _ _ _ _ (ap (λ b. not (b && true)) d)
  op_refused w a x t (Insert e) d h = refused_if w a x _ _ _ _ (ap (λ b. not (b && true)) d)
  op_refused w a x t TakeLeast d h = refused_if w a x _ _ _ _ (ap (λ b. not (b && true)) d)
  op_refused w a x t (Enqueue e) d h = refused_if w a x _ _ _ _ (ap (λ b. not (b && true)) d)
  op_refused w a x t Dequeue d h = refused_if w a x _ _ _ _ (ap (λ b. not (b && true)) d)
  op_refused w a x t op d h = absurd (true≢false (sym h))

  pub change_refused : (w : World V) (a : ℕ) (call : Call V) → (actor_of w a).declared ≡ true → (w.seats a).stage ≡ Open
      → is_change call.op ≡ true → happens w (Ask a (request.Call call)) ≡ (w, Refused a refusal.NoSuch)
  change_refused w a call d e h = ap (λ st. ask_at w a (w.seats a) st (request.Call call)) e ∙ op_refused w a
      (w.seats a) call.target call.op d h

  at_open : (n : ℕ) (bs : List Block) (x : Seat V) (y : Actor) (z : Copy V) (st : Stage V) (p : Place) → StageOk n bs x y z st p
      → is_calling st ≡ true → p ≡ machine.Open
  at_open n bs x y z Open p h c = h.0
  at_open n bs x y z (Trying asked tries) p h c = h.0
  at_open n bs x y z (Copying asked) p h c = h.0
  at_open n bs x y z st p h c = absurd (true≢false (sym c))

  pub no_sets : (blocks : List Block) (clock : ℕ) (values : List ℕ) (held : List (Held V)) (events : List (Event V)) (a : ℕ)
      → HaveStripes blocks
      → let w = run (opened blocks clock values held) events in
      is_calling (w.seats a).stage ≡ true → (actor_of w a).declared ≡ true → ((actor_of w a).reads ≡ []) × ((actor_of w a).writes ≡ [])
  no_sets blocks clock values held events a stripes calling d =
      let w = run (opened blocks clock values held) events in
      let k = run_linked events (opened blocks clock values held) (opened_linked blocks clock values held stripes) in
      let y = w.boosted.words.actors a in
      let ok : ActorOk w.boosted.words y = k.base.inv.machine.actors a in
      let at = at_open w.words w.blocks (w.seats a) y (w.boosted.shadows a) (w.seats a).stage y.place (k.seats a).stage calling in
      subst (λ b. IsKept b y.reads y.writes ok.saw.reads) d (ok.kept (subst HasBegun (sym at) tt))

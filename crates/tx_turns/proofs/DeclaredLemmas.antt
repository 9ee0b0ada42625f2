-- The step of a begin leaves it a declared reader or none, as it was asked; and one that is a declared reader remains one.
--
-- A begin is the word machine's load of the clock: open, or idle again at the limit of the clock, its actor is declared just where it was.
-- Of what is asked of the word machine a begin alone changes that, and no step of it does; no step of an actor asks for a begin, nor does
-- what an open transaction is asked (`PassLemmas` of `actor_laws`).
use Rattle.std.proofs.Common.{◌≡◌, ℕ, Bool, true, false, cond, [], ◌∷◌, Option, refl, sym, ap, ◌∙◌, subst}
use Rattle.std.specs.Prelude.{nat_lt}
use Rattle.tx_machine.specs.Actor as machine
use Rattle.tx_machine.specs.Actor.{Actor, Place, begun, clock_limit, goes, opened}
use Rattle.tx_machine.specs.Notices as notice
use Rattle.tx_machine.specs.Requests as word
use Rattle.tx_machine.specs.World as world
use Rattle.tx_machine.specs.World.{World as Words}
use Rattle.tx_machine.proofs.Declared.{stays_declared}
use Rattle.tx_machine.proofs.Sets.{put-same}
use Rattle.seq_model.specs.declared.event.Event.TheVariants.{Ask, Starve}
use Rattle.seq_model.specs.declared.event.Request.{Request}
use Rattle.tx_machine.specs.Boosted.{word_step}
use Rattle.replay_log.specs.declared.base.Base.{Base}
use Rattle.replay_log.specs.Worlds.{World, Seat, Stage, Beginning, Open, acted, actor_of}
use Rattle.replay_log.specs.Worlds.{ask_at, happens, has_begun, moves, step_at, word_notice}
use Rattle.actor_laws.proofs.PassLemmas.{IsPlainAsk, ask_open_keeps, starve_keeps, step_keeps}
use Rattle.shared_table.specs.Turns.{found_at, moved, spot}
use Rattle.tx_turns.proofs.StampLemmas.{planted_actor, planted_seats}

begun_like : (x : Actor) (clock : ℕ) → (begun x clock).declared ≡ x.declared
begun_like x clock = by (nat_lt clock clock_limit)
  where
    by : (b : Bool) → (cond b (opened x.declared clock) (goes x machine.Idle)).declared ≡ x.declared
    by true = refl
    by false = refl

module _ {V : Type 0} where
  -- what is answered of it changes nothing in the machine
  begun_machine : (u : World V) (a : ℕ) (x : Seat V) (n : notice.Notice) → actor_of (has_begun u a x n).0 a ≡ actor_of u a
  begun_machine u a x (notice.Begun rv) = refl
  begun_machine u a x (notice.Exhausted clock) = refl
  begun_machine u a x n = refl

  loaded : (w : World V) (a : ℕ) → (actor_of w a).place ≡ machine.Begin
      → (actor_of (acted w (moves a ∷ [])) a).declared ≡ (actor_of w a).declared
  loaded w a begins =
      let s = w.boosted in
      let y = actor_of w a in
      ap (λ (p : Place). ((word_step s a y p).words.actors a).declared) begins
      ∙ (ap (λ (z : Actor). z.declared) (put-same s.words.actors a (begun y s.words.clock)) ∙ begun_like y s.words.clock)

  pub begin_declared : (w : World V) (a n : ℕ) (b : Option (Base V)) → (w.seats a).stage ≡ Beginning → (actor_of w a).place ≡ machine.Begin
      → (actor_of (moved a w n b).0 a).declared ≡ (actor_of w a).declared
  begin_declared w a n b at begins =
      let p = found_at a w (spot a w) n b in
      let same : actor_of p a ≡ actor_of w a = planted_actor w a n b (spot a w) in
      let stage : (p.seats a).stage ≡ Beginning = ap (λ (x : Seat V). x.stage) (planted_seats w a n b (spot a w)) ∙ at in
      ap (λ (st : Stage V). (actor_of (step_at p a (p.seats a) st).0 a).declared) stage
      ∙ (ap (λ (y : Actor). y.declared) (begun_machine (acted p (moves a ∷ [])) a (p.seats a) (word_notice p a))
      ∙ (loaded p a (ap (λ (y : Actor). y.place) same ∙ begins) ∙ ap (λ (y : Actor). y.declared) same))

-- ---- a declared reader remains one: on words
abbrev IsReader : ℕ → Words → Type 0
IsReader a s = (s.actors a).declared ≡ true

abbrev IsNoBegin : word.Request → Type 0
IsNoBegin word.AskBegin = ⊥
IsNoBegin word.AskBeginRead = ⊥
IsNoBegin q = Unit {0}

idle_asked : (y : Actor) (q : word.Request) → IsNoBegin q → word.ask y machine.Idle q ≡ y
idle_asked y word.AskBegin h = absurd h
idle_asked y word.AskBeginRead h = absurd h
idle_asked y q h = refl

asked_reader : (s : Words) (a : ℕ) (q : word.Request) → IsNoBegin q → IsReader a s → IsReader a (world.happens s (world.Ask a q))
asked_reader s a q none d = by (s.actors a).place refl
  where
    y : Actor
    y = s.actors a

    by : (p : Place) → y.place ≡ p → IsReader a (world.happens s (world.Ask a q))
    by machine.Idle e =
        ap (λ (z : Actor). z.declared)
        (put-same s.actors a (word.ask y y.place q) ∙ (ap (λ (p : Place). word.ask y p q) e ∙ idle_asked y q none))
        ∙ d
    by p e = stays_declared s a (world.Ask a q) d (λ i. (let f : p ≡ machine.Idle = sym e ∙ i in let z : ⊥ = cc in z))

stepped_reader : (s : Words) (a : ℕ) → IsReader a s → IsReader a (world.happens s (world.Step a))
stepped_reader s a d = by (s.actors a).place refl
  where
    y : Actor
    y = s.actors a

    by : (p : Place) → y.place ≡ p → IsReader a (world.happens s (world.Step a))
    by machine.Idle e = subst (λ (p : Place). ((world.step s a y p).actors a).declared ≡ true) (sym e) d
    by p e = stays_declared s a (world.Step a) d (λ i. (let f : p ≡ machine.Idle = sym e ∙ i in let z : ⊥ = cc in z))

-- ---- by a turn, a failed allocation, and what an open transaction is asked
plain_none : (q : word.Request) → IsPlainAsk q → IsNoBegin q
plain_none word.AskBegin h = h
plain_none word.AskBeginRead h = h
plain_none q h = tt

module _ {V : Type 0} (w : World V) (a : ℕ) (reader : (actor_of w a).declared ≡ true) where
  asked_on : (s : Words) (q : word.Request) → IsPlainAsk q → IsReader a s → IsReader a (world.happens s (world.Ask a q))
  asked_on s q plain d = asked_reader s a q (plain_none q plain) d

  pub reader_moved : (n : ℕ) (b : Option (Base V)) → (actor_of (moved a w n b).0 a).declared ≡ true
  reader_moved n b =
      let p = found_at a w (spot a w) n b in
      step_keeps a (IsReader a) asked_on (λ s. stepped_reader s a) p (p.seats a) (p.seats a).stage
      (ap (λ (y : Actor). y.declared) (planted_actor w a n b (spot a w)) ∙ reader)

  pub reader_starves : (actor_of (happens w (Starve a)).0 a).declared ≡ true
  reader_starves = starve_keeps a (IsReader a) asked_on (λ s. stepped_reader s a) w (w.seats a) (w.seats a).stage reader

  pub reader_asks : (q : Request V) → (w.seats a).stage ≡ Open → (actor_of (happens w (Ask a q)).0 a).declared ≡ true
  reader_asks q at =
      subst (λ (st : Stage V). (actor_of (ask_at w a (w.seats a) st q).0 a).declared ≡ true) (sym at)
      (ask_open_keeps a (IsReader a) asked_on (λ s. stepped_reader s a) (λ s. asked_reader s a word.AskLock tt) w (w.seats a) q reader)

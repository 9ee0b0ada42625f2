-- A transaction that copies a second key of a location which it has read, and finds there the edition that it read, finds what it copied
-- first: both copies are what the commits up to its number leave there. So a table of single keys answers as the copies of whole
-- locations do.
use Rattle.std.proofs.Common.{◌≡◌, ℕ, true, false, List, Some, sym, ◌∙◌, ap}
use Rattle.tx_machine.specs.Opacity.{first_read}
use Rattle.tx_machine.proofs.Saw.{first_read_good}
use Rattle.tx_machine.specs.World.{Record}
use Rattle.tx_machine.proofs.Records.{settled}
use Rattle.tx_machine.specs.Content.{Content}
use Rattle.tx_machine.specs.Boosted.{Boosted}
use Rattle.tx_machine.specs.Serial as serial
use Rattle.tx_machine.proofs.BoostedInvariant.{Inv}
use Rattle.std.proofs.Common.{true≢false}
use Rattle.tx_machine.specs.Actor.{Place, Actor}
use Rattle.seq_model.specs.declared.held.Held.{Held}
use Rattle.seq_model.specs.declared.event.Event.{Event}
use Rattle.replay_log.specs.Contents.{Block, HaveStripes, is_plain, content}
use Rattle.replay_log.specs.Worlds.{Seat, Stage, Open, Trying, Copying, actor_of, run, opened}
use Rattle.replay_log.specs.WorldRefusals.{is_calling}
use Rattle.replay_log.proofs.SeatLemmas.{Copy, Sound, StageOk}
use Rattle.replay_log.proofs.EventLemmas.{run_linked, opened_linked}

pub same_part : {X Op Out : Type 0} (c : Content X Op Out) (s : Boosted X Out) (a l e : ℕ) → Inv c s → c.plain l ≡ false
    → first_read (s.words.actors a).calls l ≡ Some e
    → (s.shadows a).copied l ≡ true → (s.shadows a).editions l ≡ e → s.editions l ≡ e → (s.shadows a).parts l ≡ s.parts l
same_part c s a l e v pl read cp mine base =
    let rv = (s.words.actors a).rv in
    let is : settled (serial.words s.history) rv l (s.first l) ≡ e =
    ap (λ (z : List Record). settled z rv l (s.first l)) v.same ∙ ap (λ (z : ℕ → ℕ). settled s.words.history rv l (z l)) (sym v.first)
    ∙ (first_read_good s.words rv (s.words.actors a).calls l e (v.machine.actors a).saw read).value in
    sym (((v.shadows a).known l cp).knows rv (is ∙ sym mine)) ∙ (v.known l pl).knows rv (is ∙ sym base)

module _ {V : Type 0} where
  calls_sound : (n : ℕ) (bs : List Block) (x : Seat V) (y : Actor) (z : Copy V) (st : Stage V) (p : Place) → StageOk n bs x y z st p
      → is_calling st ≡ true
      → Sound n bs y z
  calls_sound n bs x y z Open p h c = h.1.sound
  calls_sound n bs x y z (Trying asked tries) p h c = h.1.sound
  calls_sound n bs x y z (Copying asked) p h c = h.1.sound
  calls_sound n bs x y z st p h c = absurd (true≢false (sym c))

  pub world_copies : (blocks : List Block) (clock : ℕ) (values : List ℕ) (held : List (Held V)) (events : List (Event V)) (a l e : ℕ)
      → HaveStripes blocks
      → let w = run (opened blocks clock values held) events in
      is_calling (w.seats a).stage ≡ true → is_plain w.words w.blocks l ≡ false → first_read (actor_of w a).calls l ≡ Some e
      → w.boosted.editions l ≡ e → (w.boosted.shadows a).parts l ≡ w.boosted.parts l
  world_copies blocks clock values held events a l e stripes calling pl read base =
      let w = run (opened blocks clock values held) events in
      let k = run_linked events (opened blocks clock values held) (opened_linked blocks clock values held stripes) in
      let s = calls_sound w.words w.blocks (w.seats a) (w.boosted.words.actors a) (w.boosted.shadows a) (w.seats a).stage
      (w.boosted.words.actors a).place
      (k.seats a).stage calling l e pl read in
      same_part (content w.words w.blocks) w.boosted a l e k.base.inv pl read s.0 s.1 base

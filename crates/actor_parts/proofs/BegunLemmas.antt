-- A transaction that has begun. The load of the clock makes its shadow anew: no call, and of each location what the opening showed there,
-- which no action changes; and the opening of a block shows the parts of the collection that was put there. Its word actor has made no
-- call either.
use Rattle.std.proofs.Common.{◌≡◌, ℕ, ◌+◌, Bool, true, false, cond, get_or, length, List, [], ◌∷◌, Some, None, refl, sym, ap, subst, ◌∙◌}
use Rattle.std.proofs.Common.{arith}
use Rattle.std.specs.Prelude.{nat_lt}
use Rattle.std.proofs.lemmas.Bool.{cond-true}
use Rattle.tx_machine.specs.Actor as machine
use Rattle.tx_machine.specs.Actor.{clock_limit}
use Rattle.tx_machine.specs.Notices as notice
use Rattle.tx_machine.specs.Opacity.{first_read}
use Rattle.tx_machine.specs.World as words
use Rattle.tx_machine.proofs.Sets.{put-same}
use Rattle.seq_model.specs.declared.held.Held.{Held}
use Rattle.seq_model.specs.declared.event.Event.{Event}
use Rattle.tx_machine.specs.Boosted.{Boosted, Shadow as Part, fresh, opens, word_step}
use Rattle.tx_machine.proofs.BoostedSchedules.{all-opening, opens_ok}
use Rattle.replay_log.specs.Base.{Shown}
use Rattle.replay_log.specs.Collections.{Suit, shown_at, viewed}
use Rattle.replay_log.specs.Contents.{CallWithOutcome, Block, HaveStripes, block_of, content, first_of}
use Rattle.replay_log.specs.Worlds.{Beginning, Stage, World, acted, actor_of, moves, opened, run, word_notice}
use Rattle.replay_log.proofs.CollectionLemmas.{behind, found, kind_viewed}
use Rattle.replay_log.proofs.ContentLemmas.{content_frame, first_above}
use Rattle.replay_log.proofs.EventLemmas.{opened_linked, run_linked}
use Rattle.replay_log.proofs.RequestLemmas.{actions_of, run_by}
use Rattle.replay_log.proofs.SeatLemmas.{Linked, StageOk}
use Rattle.actor_laws.specs.Bases.{log_changes, log_locations}
use Rattle.actor_parts.specs.CopyAtGate.{IsReadOf}
use Rattle.actor_parts.specs.PrivateCopy.{ShowParts}
use Rattle.actor_parts.specs.Owns.{IsOwn, IsUncalled}

begins_below : (clock rv : ℕ) (b : Bool) → cond b (notice.Begun clock) (notice.Exhausted clock) ≡ notice.Begun rv → b ≡ true
begins_below clock rv true e = refl
begins_below clock rv false e = let h : ⊥ = cc in absurd h

module _ {V : Type 0} (blocks : List Block) (clock : ℕ) (values : List ℕ) (held : List (Held V)) (events : List (Event V)) (a rv : ℕ)
    (stripes : HaveStripes blocks) (suit : Suit blocks held) where
  abbrev n : ℕ
  n = length values

  abbrev w : World V
  w = run (opened blocks clock values held) events

  abbrev s : Boosted (Shown V) (CallWithOutcome V)
  s = w.boosted

  abbrev u : World V
  u = acted w (moves a ∷ [])

  opening_is : s.opening ≡ shown_at n blocks held
  opening_is =
      let ac = actions_of blocks clock values held events in
      let c = content {V = V} n blocks in
      let f = content_frame {V = V} n blocks stripes in
      let m : ℕ → ℕ = λ l. get_or values l 0 in
      ap (λ (z : Boosted (Shown V) (CallWithOutcome V)). z.opening) ac.1
      ∙ (all-opening c f ac.0 (opens clock m (shown_at n blocks held)) (opens_ok c f clock m (shown_at n blocks held))).0

  blocks_are : w.blocks ≡ blocks
  blocks_are = (run_by events (opened blocks clock values held)).blocks

  first_is : (k : ℕ) → first_of w.words w.blocks k ≡ first_of n blocks k
  first_is k =
      ap (λ m. first_of m w.blocks k) (run_by events (opened blocks clock values held)).words
      ∙ ap (λ (bs : List Block). first_of n bs k) blocks_are

  module _ (stage : (w.seats a).stage ≡ Beginning) (told : word_notice w a ≡ notice.Begun rv) where
    place_is : (actor_of w a).place ≡ machine.Begin
    place_is =
        let o : World V = opened blocks clock values held in
        let k : Linked w = run_linked events o (opened_linked blocks clock values held stripes) in
        subst (λ (st : Stage V). StageOk w.words w.blocks (w.seats a) (actor_of w a) (s.shadows a) st (actor_of w a).place) stage
        (k.seats a).stage

    below : nat_lt s.words.clock clock_limit ≡ true
    below =
        begins_below s.words.clock rv (nat_lt s.words.clock clock_limit)
        (sym (ap (λ p. notice.notice s.words (actor_of w a) p) place_is) ∙ told)

    shadow_is : u.boosted.shadows a ≡ fresh s
    shadow_is =
        ap (λ p. (word_step s a (actor_of w a) p).shadows a) place_is
        ∙ ap (λ (f : ℕ → Part (Shown V) (CallWithOutcome V)). f a)
        (cond-true (nat_lt s.words.clock clock_limit) (words.put s.shadows a (fresh s)) s.shadows below)
        ∙ put-same s.shadows a (fresh s)

    actor_is : (actor_of u a).calls ≡ []
    actor_is =
        let x = actor_of w a in
        ap (λ p. ((word_step s a x p).words.actors a).calls) place_is
        ∙ ap (λ (y : machine.Actor). y.calls) (put-same s.words.actors a (machine.begun x s.words.clock))
        ∙ ap (λ (y : machine.Actor). y.calls) (cond-true (nat_lt s.words.clock clock_limit)
        (machine.opened x.declared s.words.clock) (machine.goes x machine.Idle) below)

    module _ (k : ℕ) (b : Block) (there : block_of w.blocks k ≡ Some b) where
      shown : (h : Shown V) × ShowParts b (first_of w.words w.blocks k) (u.boosted.shadows a).parts h
      shown =
          let here : block_of blocks k ≡ Some b = subst (λ (bs : List Block). block_of bs k ≡ Some b) blocks_are there in
          let f = found n blocks held k b suit here in
          let at = first_of w.words w.blocks k in (
            viewed f.held,
            (
              kind_viewed f.held b.kind f.kind,
              λ i lt.
                  ap (λ (z : Part (Shown V) (CallWithOutcome V)). z.parts (at + i)) shadow_is
                  ∙ ap (λ (g : ℕ → Shown V). g (at + i)) opening_is
                  ∙ ap (λ l. shown_at n blocks held (l + i)) (first_is k)
                  ∙ behind n blocks held (first_of n blocks k + i) (let z = first_above n blocks k in omega (arith, z))
                  ∙ f.shown i lt,
            ),
          )

      uncalled : IsUncalled b (first_of w.words w.blocks k) k (u.boosted.shadows a)
      uncalled = (
        shown,
        ap (λ (z : Part (Shown V) (CallWithOutcome V)). log_changes k b z.outcomes) shadow_is,
        ap (λ (z : Part (Shown V) (CallWithOutcome V)). log_locations k b z.outcomes) shadow_is,
      )

      unread : (i : ℕ) → first_read (actor_of u a).calls (first_of w.words w.blocks k + i) ≡ None
      unread i = ap (λ cs. first_read cs (first_of w.words w.blocks k + i)) actor_is

    begins : (k : ℕ) → IsOwn u a k None × IsReadOf u a k None
    begins k = (λ b there. uncalled k b there, λ b there i lt. unread k b there i)

pub begins_with_nothing : {V : Type 0} (blocks : List Block) (clock : ℕ) (values : List ℕ) (held : List (Held V)) (events : List (Event V))
    (a rv : ℕ) → HaveStripes blocks → Suit blocks held →
    let w = run (opened blocks clock values held) events in
    let u = acted w (moves a ∷ []) in
    (w.seats a).stage ≡ Beginning → word_notice w a ≡ notice.Begun rv → (k : ℕ) → IsOwn u a k None × IsReadOf u a k None
begins_with_nothing blocks clock values held events a rv stripes suit stage told k =
    begins blocks clock values held events a rv stripes suit stage told k

-- What the laws of worlds promise of an event that is fed: of an event of one of the actors by the laws, and of one of another actor, which
-- is refused, since it changes nothing.
use Rattle.std.proofs.Common.{◌≡◌, ◌≢◌, ℕ, suc, ◌<◌, ◌≤◌, true, false, true≢false, List, [], ◌∷◌, Option, Some, None}
use Rattle.std.proofs.Common.{inl, inr, refl, sym, ap, ◌∙◌, subst, arith}
use Rattle.std.proofs.lemmas.Bool.{cases_Bool}
use Rattle.tx_machine.specs.Progress.{step_limit}
use Rattle.seq_model.specs.Contents.{Contents}
use Rattle.seq_model.specs.declared.call.Call.{Call}
use Rattle.seq_model.specs.declared.event.Event.{Event}
use Rattle.seq_model.specs.declared.event.Event.TheVariants.{Step, Starve}
use Rattle.seq_model.specs.declared.event.Answer.TheVariants.{Begun}
use Rattle.seq_model.specs.declared.event.Notice.{Notice}
use Rattle.seq_model.specs.declared.event.Notice.TheVariants.{Answered, Refused}
use Rattle.seq_model.specs.declared.held.Held.{Held}
use Rattle.seq_model.specs.declared.held.Held.TheVariants.{Map, Bag, Pq, Queue}
use Rattle.seq_model.specs.declared.refusal.Refusal.TheVariants.{NoSuch}
use Rattle.conflict.specs.Refusals.{IsStripeCountOf}
use Rattle.step_core.specs.Shown.{is_actor}
use Rattle.replay_log.specs.Collections.{Suit, kind_of_held}
use Rattle.replay_log.specs.Contents.{Block, HaveStripes}
use Rattle.replay_log.specs.WorldProgress.{AreSmall, IsQuiet, Nears, left_of, most_by, whose}
use Rattle.replay_log.specs.WorldRefusals.{HasCause, is_ending}
use Rattle.replay_log.specs.WorldReplies.{IsKept, IsMade, call_at}
use Rattle.replay_log.specs.WorldSerial.{AreUpTo}
use Rattle.replay_log.specs.Worlds.{After, Beginning, Seat, Stage, World, happens, opened, run}
use Rattle.actor_laws.specs.Own.{Alike}
use Rattle.actor_laws.proofs.Alike.{alike_same}
use Rattle.tx_actor.proofs.HomeLemmas.{reached_blocks}
use Rattle.actor_parts.specs.Openings.{AreStripeCounts, blocks_of}
use Rattle.step_world.specs.declared.parts.Parts.{Parts}
use Rattle.step_world.specs.Feeds.{Feeds, fed}
use Rattle.step_world.specs.Parts.{HasWorld, IsWorld}
use Rattle.step_world.specs.Reached.{IsReached}
use Rattle.step_world.proofs.FeedLemmas.{fed_none, fed_one}
use Rattle.step_world.specs.Events.{IsFedTo, IsPromised}
use Rattle.step_world.proofs.ReachedLemmas.{reached_fed}

abbrev pub OthersStand : Type 0 → Type 0
OthersStand V = (w : World V) (e : Event V) (b : ℕ) → b ≢ whose e → Alike b w (happens w e).0

-- The laws, each as its function states it.
pub record Laws (V : Type 0) : Type 0 where
  pub stand : OthersStand V
  pub others : (w : World V) (e : Event V) (a : ℕ) → a ≢ whose e → left_of (happens w e).0 a ≡ left_of w a
  pub made : (w : World V) (a : ℕ) (call : Call V) → call_at (w.seats a).stage ≡ Some call →
      let r = happens w (Step a) in IsMade a call (w.seats a) (r.0.seats a) r.1
  pub kept : (w : World V) (a : ℕ) → call_at (w.seats a).stage ≡ None →
      let r = happens w (Step a) in IsKept a (w.seats a).stage (w.seats a) (r.0.seats a) r.1
  pub begins : (blocks : List Block) (clock : ℕ) (values : List ℕ) (held : List (Held V)) (events : List (Event V)) (a rv : ℕ) →
      HaveStripes blocks → Suit blocks held →
      let w = run (opened blocks clock values held) events in
      (w.seats a).stage ≡ Beginning → (happens w (Step a)).1 ≡ Answered a (Begun rv) → AreUpTo rv w.records
  pub causes : (blocks : List Block) (clock : ℕ) (values : List ℕ) (held : List (Held V)) (events : List (Event V)) (a : ℕ) →
      HaveStripes blocks →
      let w = run (opened blocks clock values held) events in
      is_ending (w.seats a).stage ≡ false → HasCause w a (w.seats a).stage (happens w (Step a)).0
  pub nearer : (blocks : List Block) (clock : ℕ) (values : List ℕ) (held : List (Held V)) (events : List (Event V)) (a : ℕ) →
      HaveStripes blocks → AreSmall blocks →
      let w = run (opened blocks clock values held) events in
      Nears a (left_of w a) (happens w (Step a))
  pub starved : (blocks : List Block) (clock : ℕ) (values : List ℕ) (held : List (Held V)) (events : List (Event V)) (a : ℕ) →
      HaveStripes blocks →
      let w = run (opened blocks clock values held) events in
      let r = happens w (Starve a) in
      IsQuiet r.1 → left_of r.0 a ≤ left_of w a
  pub always : (blocks : List Block) (clock : ℕ) (values : List ℕ) (held : List (Held V)) (events : List (Event V)) (a : ℕ) →
      HaveStripes blocks → AreSmall blocks → left_of (run (opened blocks clock values held) events) a < step_limit

module _ {V : Type 0} where
  -- a collection has no more stripes than a call may read locations
  pub few_locations : (ns : List ℕ) (hs : List (Held V)) → AreStripeCounts ns hs → AreSmall (blocks_of ns hs)
  few_locations [] hs counts = tt
  few_locations (n ∷ ns) [] counts = tt
  few_locations (n ∷ ns) (h ∷ hs) counts = (few h counts.0, few_locations ns hs counts.1)
    where
      few : (h : Held V) → IsStripeCountOf h n → most_by (kind_of_held h) n ≤ 4096
      few (Map entries) count = count.1
      few (Bag counts) count = count.1
      few (Pq elements) count = (let c = count.1 in omega (arith, c))
      few (Queue head items) count = omega arith

  blocks_fed : OthersStand V → (w : World V) (e : Event V) → (fed w e).0.blocks ≡ w.blocks
  blocks_fed stand w e = elim (cases_Bool (is_actor (whose e))) [
    | inl is ↦ (
        ap (λ (p : After V). p.0.blocks) (fed_one w e is)
        ∙ sym (stand w e (suc (whose e)) (λ q. omega (arith, q))).blocks)
    | inr isnt ↦ ap (λ (p : After V). p.0.blocks) (fed_none w e isnt)
  ]

  -- a begin alone answers that a transaction has begun
  not_made : (b a rv : ℕ) (call : Call V) (x u : Seat V) (n : Notice V) → n ≡ Answered b (Begun rv) → IsMade a call x u n → ⊥
  not_made b a rv call x u n is h = subst (λ (m : Notice V). IsMade a call x u m) is h

  at_begin : (b a rv : ℕ) (s : Stage V) (x u : Seat V) (n : Notice V) → n ≡ Answered b (Begun rv) → IsKept a s x u n → s ≡ Beginning
  at_begin b a rv s x u n is h = (subst (λ (m : Notice V). IsKept a s x u m) is h).1

  begun_at : Laws V → (w : World V) (a rv : ℕ) (o : Option (Call V)) → call_at (w.seats a).stage ≡ o
      → (happens w (Step a)).1 ≡ Answered a (Begun rv) → (w.seats a).stage ≡ Beginning
  begun_at laws w a rv None at is =
      at_begin a a rv (w.seats a).stage (w.seats a) ((happens w (Step a)).0.seats a) (happens w (Step a)).1 is (laws.kept w a at)
  begun_at laws w a rv (Some call) at is =
      absurd (not_made a a rv call (w.seats a) ((happens w (Step a)).0.seats a) (happens w (Step a)).1 is (laws.made w a call at))

  module _ (laws : Laws V) (o : Contents V) (w : World V) (h : IsReached o w) where
    start : World V
    start = opened h.blocks h.clock o.words o.held

    reached_begins : (a rv : ℕ) → (happens w (Step a)).1 ≡ Answered a (Begun rv) → AreUpTo rv w.records
    reached_begins a rv is =
        subst (λ (z : World V). (z.seats a).stage ≡ Beginning → (happens z (Step a)).1 ≡ Answered a (Begun rv) → AreUpTo rv z.records)
        h.world (laws.begins h.blocks h.clock o.words o.held h.events a rv h.stripes h.suits)
        (begun_at laws w a rv (call_at (w.seats a).stage) refl is) is

    reached_cause : (a : ℕ) → is_ending (w.seats a).stage ≡ false → HasCause w a (w.seats a).stage (happens w (Step a)).0
    reached_cause a =
        subst (λ (z : World V). is_ending (z.seats a).stage ≡ false → HasCause z a (z.seats a).stage (happens z (Step a)).0)
        h.world (laws.causes h.blocks h.clock o.words o.held h.events a h.stripes)

    own_small : AreSmall w.blocks → AreSmall h.blocks
    own_small small = subst AreSmall (reached_blocks o w h) small

    reached_nearer : (a : ℕ) → AreSmall w.blocks → Nears a (left_of w a) (happens w (Step a))
    reached_nearer a small =
        subst (λ (z : World V). Nears a (left_of z a) (happens z (Step a)))
        h.world (laws.nearer h.blocks h.clock o.words o.held h.events a h.stripes (own_small small))

    reached_starved : (a : ℕ) → IsQuiet (happens w (Starve a)).1 → left_of (happens w (Starve a)).0 a ≤ left_of w a
    reached_starved a =
        subst (λ (z : World V). IsQuiet (happens z (Starve a)).1 → left_of (happens z (Starve a)).0 a ≤ left_of z a)
        h.world (laws.starved h.blocks h.clock o.words o.held h.events a h.stripes)

    reached_soon : AreSmall w.blocks → (a : ℕ) → left_of w a < step_limit
    reached_soon small a =
        subst (λ (z : World V). left_of z a < step_limit)
        h.world (laws.always h.blocks h.clock o.words o.held h.events a h.stripes (own_small small))

  fed_soon : Laws V → (o : Contents V) (w : World V) (e : Event V) → IsReached o w → AreSmall w.blocks → (a : ℕ)
      → left_of (fed w e).0 a < step_limit
  fed_soon laws o w e h small =
      reached_soon laws o (fed w e).0 (reached_fed o w e h) (subst AreSmall (sym (blocks_fed laws.stand w e)) small)

  -- an event of one of the actors
  promised_one : Laws V → (o : Contents V) (w : World V) (e : Event V) → IsReached o w → is_actor (whose e) ≡ true
      → IsPromised w e (happens w e)
  promised_one laws o w e h is = record {
    others = λ b ne. laws.stand w e b ne;
    as_far = λ b ne. laws.others w e b ne;
    begins = λ a rv at told. reached_begins laws o w h a rv (subst (λ (x : Event V). (happens w x).1 ≡ Answered a (Begun rv)) at told);
    cause = λ a at going.
        subst (λ (x : Event V). HasCause w a (w.seats a).stage (happens w x).0) (sym at) (reached_cause laws o w h a going);
    nearer = λ a at small. subst (λ (x : Event V). Nears a (left_of w a) (happens w x)) (sym at) (reached_nearer laws o w h a small);
    starved = λ a at.
        subst (λ (x : Event V). IsQuiet (happens w x).1 → left_of (happens w x).0 a ≤ left_of w a) (sym at) (reached_starved laws o w h a);
    soon = λ small a. subst (λ (p : After V). left_of p.0 a < step_limit) (fed_one w e is) (fed_soon laws o w e h small a);
  }

  -- an event of another actor
  not_begun : (a b rv : ℕ) → (let n : Notice V = Refused b NoSuch in n) ≡ Answered a (Begun rv) → ⊥
  not_begun a b rv e = let z : ⊥ = cc in z

  promised_none : Laws V → (o : Contents V) (w : World V) (e : Event V) → IsReached o w → IsPromised w e (w, Refused (whose e) NoSuch)
  promised_none laws o w e h = record {
    others = λ b ne. alike_same b w;
    as_far = λ b ne. refl;
    begins = λ a rv at told. absurd (not_begun a (whose e) rv told);
    cause = λ a at going ends. absurd (true≢false (sym ends ∙ going));
    nearer = λ a at small quiet. absurd quiet;
    starved = λ a at quiet. absurd quiet;
    soon = λ small a. reached_soon laws o w h small a;
  }

  promised_fed : Laws V → (o : Contents V) (w : World V) (e : Event V) → IsReached o w → IsPromised w e (fed w e)
  promised_fed laws o w e h = elim (cases_Bool (is_actor (whose e))) [
    | inl is ↦ subst (λ (p : After V). IsPromised w e p) (sym (fed_one w e is)) (promised_one laws o w e h is)
    | inr isnt ↦ subst (λ (p : After V). IsPromised w e p) (sym (fed_none w e isnt)) (promised_none laws o w e h)
  ]

  pub fed_to : Laws V → (c d : Parts V) (e : Event V) (n : Notice V) → Feeds c e d n → IsFedTo c e d n
  fed_to laws c d e n feeds o w h is =
      let u = (fed w e).0 in (
        u,
        feeds.parts o w h is,
        subst (λ (m : Notice V). IsPromised w e (u, m)) (sym (feeds.told o w h is)) (promised_fed laws o w e h),
      )

  pub small_opened : (c : Parts V) (w : World V) → IsWorld c w → AreSmall w.blocks → AreSmall c.blocks.blocks
  small_opened c w h small = subst AreSmall h.laid.1 small

  -- the collections are as small as they were
  pub small_fed : OthersStand V → (c d : Parts V) (e : Event V) (n : Notice V) → HasWorld c → Feeds c e d n → AreSmall c.blocks.blocks
      → AreSmall d.blocks.blocks
  small_fed stand c d e n well feeds small =
      let w = well.world in
      let there = feeds.parts well.opening w well.reached well.parts in
      subst AreSmall (sym well.parts.laid.1 ∙ (sym (blocks_fed stand w e) ∙ there.laid.1)) small

-- What aborting and the request of the stores make of an actor in every world that shows it.
use Rattle.std.proofs.Common.{◌≡◌, ℕ, cond, Bool, true, false, Option, None, [], ◌∷◌, refl, sym, ap, true≢false, ◌∙◌}
use Rattle.tx_sets.specs.Entries.{lookup, locations}
use Rattle.tx_machine.specs.Actor.{Actor}
use Rattle.tx_machine.specs.Requests as word
use Rattle.tx_machine.specs.Requests.{ask}
use Rattle.tx_machine.specs.World as machine
use Rattle.tx_machine.proofs.Sets.{put-same}
use Rattle.tx_machine.specs.Boosted.{Boosted, Shadow, every, is_held, on_words, gated}
use Rattle.replay_log.specs.Contents.{content}
use Rattle.replay_log.specs.Pieces.{piece_at}
use Rattle.seq_model.specs.declared.event.Notice.TheVariants.{Refused}
use Rattle.seq_model.specs.declared.refusal.Refusal.TheVariants as refusal
use Rattle.replay_log.specs.Worlds.{World, Seat, After, at_stage, acted, asks, actor_of, seated, loads, has_room, with_editions, with_piece}
use Rattle.replay_log.specs.Worlds.{outcome_at, outcome_now, is_stale, Open}
use Rattle.replay_log.specs.Contents.{CallWithOutcome}
use Rattle.actor_parts.specs.Shows.{cancelled, ending, GivesUp, AsksStores, put_back, CopiesForCall, ReadsNext}
use Rattle.actor_parts.specs.Judged.{judged, left_after, comes_to}
use Rattle.actor_parts.proofs.JudgedLemmas.{is_judged}

same_words : {X Out : Type 0} (s : Boosted X Out) (gates : ℕ → Option ℕ) (shadows : ℕ → Shadow X Out) (b : Bool)
    → (cond b (gated s gates shadows) s).words ≡ s.words
same_words s gates shadows true = refl
same_words s gates shadows false = refl

same_editions : {X Out : Type 0} (s : Boosted X Out) (gates : ℕ → Option ℕ) (shadows : ℕ → Shadow X Out) (b : Bool)
    → (cond b (gated s gates shadows) s).editions ≡ s.editions
same_editions s gates shadows true = refl
same_editions s gates shadows false = refl

module _ {V : Type 0} where
  -- the word actor after the two requests
  two_asked : (a : ℕ) (y : Actor) (w : World V) → actor_of w a ≡ y
      → actor_of (acted w (asks a word.AskCancel ∷ asks a word.AskAbort ∷ [])) a ≡ cancelled y
  two_asked a y w e =
      let u = acted w (asks a word.AskCancel ∷ []) in
      let one : actor_of u a ≡ ask y y.place word.AskCancel =
      put-same w.boosted.words.actors a _ ∙ ap (λ (q : Actor). ask q q.place word.AskCancel) e in
      put-same u.boosted.words.actors a _ ∙ ap (λ (q : Actor). ask q q.place word.AskAbort) one

  pub gives_it_up : GivesUp V
  gives_it_up a x z y w s =
      let e = two_asked a y w s.1 in (
        (
          put-same w.seats a _ ∙ ap (ending z) e,
          e,
        ),
        refl,
      )

  -- a guarded request whose guard holds
  pub guarded_asked : (a : ℕ) (w : World V) (q : word.Request) (b : Bool) → b ≡ true → let s = w.boosted in
      actor_of (record w { boosted = cond b (on_words s (machine.now s.words a (ask (actor_of w a) (actor_of w a).place q))) s }) a
      ≡ ask (actor_of w a) (actor_of w a).place q
  guarded_asked a w q true e = put-same w.boosted.words.actors a _
  guarded_asked a w q false e = absurd (true≢false (sym e))

  pub asks_stores : AsksStores V
  asks_stores a x y w ks at held s =
      let is : every (is_held (content w.words w.blocks) w.boosted a) (locations (actor_of w a).writes) ≡ true =
      ap (λ (q : Actor). every (is_held (content w.words w.blocks) w.boosted a) (locations q.writes)) s.1 ∙ held in (
        (
          s.0,
          guarded_asked a w word.AskStore _ is ∙ (ap (λ (q : Actor). ask q q.place word.AskStore) s.1 ∙ ap (λ p. ask y p word.AskStore) at),
        ),
        refl,
      )

  if_fits : (u : World V) (a : ℕ) (x : Seat V) (b : Bool) (p q r : After V) → p ≡ q → cond b p r ≡ cond b q r
  if_fits u a x b p q r e = ap (λ (z : After V). cond b z r) e

  pub copies_for_call : CopiesForCall V
  copies_for_call a x y w asked s =
      let u : World V = put_back a w asked in
      let c = content w.words w.blocks in
      let o = outcome_at u a asked in
      let k : actor_of u a ≡ y = ap (λ (t : machine.World). t.actors a) (same_words w.boosted _ _ _) ∙ s.1 in
      let e : u.boosted.editions ≡ w.boosted.editions = same_editions w.boosted _ _ _ in
      let sized : Actor → (ℕ → ℕ) → CallWithOutcome V =
      λ q f. cond (is_stale q.reads (with_editions f (c.reads o))) (outcome_now u asked) o in
      let now = sized (actor_of u a) u.boosted.editions in
      let p = with_piece x asked.collection (piece_at w.blocks asked) in (
        (
          s.0,
          k,
        ),
        if_fits u a x (has_room (actor_of u a) (c.reads now) (c.writes now))
            (loads u a p o (with_editions u.boosted.editions (c.reads o))) _
            (seated u a (at_stage x Open), Refused a refusal.TooLong) (is_judged u a p o (with_editions u.boosted.editions (c.reads o)))
            ∙ ((λ i. cond (has_room (k i) (c.reads (sized (k i) (e i))) (c.writes (sized (k i) (e i))))
            (comes_to u a p o (left_after (k i).reads (with_editions (e i) (c.reads o)))
            (judged (k i).reads (with_editions (e i) (c.reads o))))
            (seated u a (at_stage x Open), Refused a refusal.TooLong))),
      )

  pub reads_next : ReadsNext V
  reads_next a x y w o left l rests nw nr s = (
    (
      put-same w.seats a _,
      put-same w.boosted.words.actors a _ ∙ (ap (λ (q : Actor). ask q q.place (word.AskRead l)) s.1
          ∙ (ap (λ p. ask y p (word.AskRead l)) rests ∙ (ap (λ q. word.read y l q (lookup y.reads l)) nw ∙ ap (word.read y l None) nr))),
    ),
    refl,
  )

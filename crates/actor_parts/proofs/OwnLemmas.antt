-- What there is of a collection is what an actor has of it in each world whose locations are laid out so and where the actor's shadow is
-- alike at the collection's block, and the log of its calls there (`own_at`). So it is where the shadow is the same, where an outcome on
-- another collection has joined it, and once the gate of another collection is put back, which copies locations of that one.
use Rattle.std.proofs.Common.{◌≡◌, ◌≢◌, ℕ, ◌+◌, ◌<◌, ◌==◌, ◌&&◌, ◌++◌, Bool, true, false, cond, not, [], Option, Some, None, append-nil}
use Rattle.std.proofs.Common.{arith, refl, sym, ap, subst, ◌∙◌, ne_eqb}
use Rattle.std.proofs.lemmas.Bool.{cond-false, cond_both}
use Rattle.tx_machine.specs.Opacity.{first_read}
use Rattle.tx_machine.specs.World.{World as Words, put}
use Rattle.tx_machine.proofs.Sets.{put-same}
use Rattle.tx_machine.specs.Boosted.{Boosted, Shadow as Part, copied, gated, is_actor, is_committing, is_copied, is_open, longer}
use Rattle.replay_log.specs.Base.{Shown}
use Rattle.replay_log.specs.Contents.{CallWithOutcome, CollectionCall, Block, HaveStripes, block_of, content, first_of, home_of, size}
use Rattle.replay_log.specs.Pieces.{covers_at}
use Rattle.replay_log.specs.Worlds.{World}
use Rattle.replay_log.proofs.ContentLemmas.{first_above, home_is}
use Rattle.replay_log.proofs.SetLemmas.{put_words}
use Rattle.actor_laws.specs.Bases.{changes_on, log_changes, log_locations, writes_on}
use Rattle.actor_laws.proofs.Bases.{more_changes, more_locations}
use Rattle.actor_parts.specs.Shows.{put_back}
use Rattle.actor_parts.specs.declared.copies.PrivateCopy.{PrivateCopy}
use Rattle.actor_parts.specs.CopyAtGate.{IsReadOf}
use Rattle.actor_parts.specs.PrivateCopy.{IsCopied}
use Rattle.actor_parts.specs.CopyInWorld.{IsOwnCopy}
use Rattle.actor_parts.specs.Owns.{IsOwn, IsUncalled}
use Rattle.actor_parts.specs.CopiesAfterEvent.{ReadsStay}
use Rattle.actor_parts.proofs.PrivateCopyLemmas.{same_log}
use Rattle.actor_parts.proofs.ReadLemmas.{reads_same}

no_third : (p q r s : Bool) → r ≡ false → (p && (q && (r && s))) ≡ false
no_third true true r s e = ap (λ b. b && s) e
no_third true false r s e = refl
no_third false q r s e = refl

module _ {V : Type 0} where
  -- z has at the block of collection k, from location f on, what x has there, and the same log
  pub record AlikeAt (b : Block) (f k : ℕ) (x z : Part (Shown V) (CallWithOutcome V)) : Type 0 where
    pub copied : (i : ℕ) → i < size b → z.copied (f + i) ≡ x.copied (f + i)
    pub parts : (i : ℕ) → i < size b → z.parts (f + i) ≡ x.parts (f + i)
    pub editions : (i : ℕ) → i < size b → z.editions (f + i) ≡ x.editions (f + i)
    pub changes : log_changes k b z.outcomes ≡ log_changes k b x.outcomes
    pub locations : log_locations k b z.outcomes ≡ log_locations k b x.outcomes

  alike : (b : Block) (f k : ℕ) (x : Part (Shown V) (CallWithOutcome V)) → AlikeAt b f k x x
  alike b f k x = record {
    copied = λ i lt. refl;
    parts = λ i lt. refl;
    editions = λ i lt. refl;
    changes = refl;
    locations = refl;
  }

  copied_alike : (b : Block) (f k : ℕ) (x z : Part (Shown V) (CallWithOutcome V)) (c : PrivateCopy V) → AlikeAt b f k x z
      → IsCopied b f k x c
      → IsCopied b f k z c
  copied_alike b f k x z c same is = (
    (
      is.0.0,
      (is.0.1.0, λ i lt. same.parts i lt ∙ is.0.1.1 i lt),
      same_log b is.0.0 (log_changes k b x.outcomes) (log_changes k b z.outcomes) (log_locations k b x.outcomes)
          (log_locations k b z.outcomes) c same.changes same.locations is.0.2,
    ),
    λ i e lt there. (let q = is.1 i e lt there in (same.copied i lt ∙ q.0, same.editions i lt ∙ q.1)),
  )

  uncalled_alike : (b : Block) (f k : ℕ) (x z : Part (Shown V) (CallWithOutcome V)) → AlikeAt b f k x z → IsUncalled b f k x
      → IsUncalled b f k z
  uncalled_alike b f k x z same is = (
    (is.0.0, (is.0.1.0, λ i lt. same.parts i lt ∙ is.0.1.1 i lt)),
    same.changes ∙ is.1,
    same.locations ∙ is.2,
  )

  module _ (w v : World V) (a k : ℕ) (words : v.words ≡ w.words) (blocks : v.blocks ≡ w.blocks) where
    abbrev f : ℕ
    f = first_of w.words w.blocks k

    first : first_of v.words v.blocks k ≡ f
    first = λ i. first_of (words i) (blocks i) k

    own_at : (c : Option (PrivateCopy V))
        → ((b : Block) → block_of w.blocks k ≡ Some b → AlikeAt b f k (w.boosted.shadows a) (v.boosted.shadows a))
        → IsOwn w a k c → IsOwn v a k c
    own_at (Some c) same is =
        let b = is.0 in
        let here : IsOwnCopy v a k b f c = record {
          stripes = subst HaveStripes (sym blocks) is.1.stripes;
          block = ap (λ bs. block_of bs k) blocks ∙ is.1.block;
          first = first;
          copied = copied_alike b f k (w.boosted.shadows a) (v.boosted.shadows a) c (same b is.1.block) is.1.copied;
          knows = is.1.knows;
          pieces = is.1.pieces;
        } in
        (b, subst (λ i. IsOwnCopy v a k b i c) (sym first) here)
    own_at None same is =
        λ b there. (
        let here = ap (λ bs. block_of bs k) (sym blocks) ∙ there in
        subst (λ i. IsUncalled b i k (v.boosted.shadows a)) (sym first)
        (uncalled_alike b f k (w.boosted.shadows a) (v.boosted.shadows a) (same b here) (is b here)))

  -- ---- where the shadow is the same, or an outcome has joined it
  pub own_same : (w v : World V) (a k : ℕ) (c : Option (PrivateCopy V)) → v.words ≡ w.words → v.blocks ≡ w.blocks
      → v.boosted.shadows a ≡ w.boosted.shadows a → IsOwn w a k c → IsOwn v a k c
  own_same w v a k c words blocks shadow is =
      own_at w v a k words blocks c
      (λ b there. (
      let f = first_of w.words w.blocks k in
      subst (λ z. AlikeAt b f k (w.boosted.shadows a) z) (sym shadow) (alike b f k (w.boosted.shadows a))))
      is

  joined_alike : (b : Block) (f k : ℕ) (x : Part (Shown V) (CallWithOutcome V)) (o : CallWithOutcome V) → o.asked.collection ≢ k
      → AlikeAt b f k x (longer x o)
  joined_alike b f k x o other =
      let none = ne_eqb o.asked.collection k other in record {
        copied = λ i lt. refl;
        parts = λ i lt. refl;
        editions = λ i lt. refl;
        changes = more_changes k b x.outcomes o
            ∙ (ap (λ z. log_changes k b x.outcomes ++ z) (cond-false (o.asked.collection == k) (changes_on b o.outcome) [] none)
            ∙ append-nil (log_changes k b x.outcomes));
        locations = more_locations k b x.outcomes o
            ∙ (ap (λ z. log_locations k b x.outcomes ++ z) (cond-false (o.asked.collection == k) (writes_on b o.outcome) [] none)
            ∙ append-nil (log_locations k b x.outcomes));
      }

  pub own_joined : (w v : World V) (a k : ℕ) (o : CallWithOutcome V) (c : Option (PrivateCopy V)) → v.words ≡ w.words → v.blocks ≡ w.blocks
      → v.boosted.shadows a ≡ longer (w.boosted.shadows a) o → o.asked.collection ≢ k → IsOwn w a k c → IsOwn v a k c
  own_joined w v a k o c words blocks shadow other is =
      own_at w v a k words blocks c
      (λ b there. (
      let f = first_of w.words w.blocks k in
      subst (λ z. AlikeAt b f k (w.boosted.shadows a) z) (sym shadow) (joined_alike b f k (w.boosted.shadows a) o other)))
      is

  -- ---- what was read
  pub reads_stay : (w v : World V) (a k : ℕ) (c : Option (PrivateCopy V)) → ReadsStay w v a → IsReadOf w a k c → IsReadOf v a k c
  reads_stay w v a k c stays is =
      reads_same w v a k c stays.words stays.blocks
      (λ i. stays.reads (first_of w.words w.blocks k + i) (let above = first_above w.words w.blocks k in omega (arith, above))) is

  -- ---- a gate that is put back
  module _ (w : World V) (a : ℕ) (asked : CollectionCall V) where
    abbrev s : Boosted (Shown V) (CallWithOutcome V)
    s = w.boosted

    abbrev x : Part (Shown V) (CallWithOutcome V)
    x = s.shadows a

    abbrev which : ℕ → Bool
    which = covers_at w.words w.blocks asked

    abbrev taken : ℕ → Bool
    taken l = is_copied (content {V = V} w.words w.blocks) (s.words.actors a).calls asked.collection which l

    abbrev now : Part (Shown V) (CallWithOutcome V)
    now = copied (content w.words w.blocks) s (s.words.actors a).calls x asked.collection which

    module _ (k : ℕ) (b : Block) (there : block_of w.blocks k ≡ Some b) (other : k ≢ asked.collection) where
      abbrev at : ℕ
      at = first_of w.words w.blocks k

      not_taken : (i : ℕ) → i < size b → taken (at + i) ≡ false
      not_taken i lt =
          no_third (which (at + i)) _ (home_of w.words w.blocks (at + i) == asked.collection) _
          (ap (λ j. j == asked.collection) (home_is w.words w.blocks k i b there lt) ∙ ne_eqb k asked.collection other)

      now_alike : AlikeAt b at k x now
      now_alike = record {
        copied = λ i lt. ap (λ q. cond q true (x.copied (at + i))) (not_taken i lt);
        parts = λ i lt. ap (λ q. cond q (s.parts (at + i)) (x.parts (at + i))) (not_taken i lt);
        editions = λ i lt. ap (λ q. cond q (s.editions (at + i)) (x.editions (at + i))) (not_taken i lt);
        changes = refl;
        locations = refl;
      }

      back_alike : AlikeAt b at k x ((put_back a w asked).boosted.shadows a)
      back_alike =
          cond_both (is_actor a (s.gates asked.collection) && not (is_committing (s.words.actors a).place))
          (gated s (put s.gates asked.collection None) (cond (is_open (s.words.actors a).place) (put s.shadows a now) s.shadows)) s
          (λ (t : Boosted (Shown V) (CallWithOutcome V)). AlikeAt b at k x (t.shadows a))
          (λ _. cond_both (is_open (s.words.actors a).place) (put s.shadows a now) s.shadows
          (λ (g : ℕ → Part (Shown V) (CallWithOutcome V)). AlikeAt b at k x (g a))
          (λ _. subst (AlikeAt b at k x) (sym (put-same s.shadows a now)) now_alike) (λ _. alike b at k x))
          (λ _. alike b at k x)

    pub own_back : (k : ℕ) (c : Option (PrivateCopy V)) → k ≢ asked.collection → IsOwn w a k c → IsOwn (put_back a w asked) a k c
    own_back k c other is = own_at w (put_back a w asked) a k refl refl c (λ b there. back_alike k b there other) is

    pub reads_back : (k : ℕ) (c : Option (PrivateCopy V)) → IsReadOf w a k c → IsReadOf (put_back a w asked) a k c
    reads_back k c is =
        reads_same w (put_back a w asked) a k c refl refl
        (λ i. ap (λ (t : Words). first_read (t.actors a).calls (first_of w.words w.blocks k + i))
        (put_words (content w.words w.blocks) w.boosted a asked.collection which)) is

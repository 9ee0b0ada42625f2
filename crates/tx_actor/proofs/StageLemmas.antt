-- What an actor has of collections remains its own from stage to stage. A stage that asks for all finds all at the one before, with the
-- same copies; one that asks for the bases that are to be put back finds these. What remains of a collection follows by the law on events
-- (`StaysLaw`). A transaction that has begun has nothing, and of each collection nothing was read; and where all is an actor's own, so is
-- the call that it reads for.
use Rattle.std.proofs.Common.{◌≡◌, ◌≢◌, ◌+◌, ℕ, List, [], Option, Some, None, inl, refl, sym, ap, subst, ◌∙◌}
use Rattle.tx_sets.specs.Entries.{Entries}
use Rattle.tx_machine.specs.Actor as machine
use Rattle.tx_machine.specs.Actor.{Call}
use Rattle.tx_machine.specs.Opacity.{first_read}
use Rattle.replay_log.specs.Contents.{HaveStripes, first_of}
use Rattle.replay_log.specs.Worlds.{World, actor_of}
use Rattle.actor_parts.specs.Blocks.{BlocksView, IsLaid}
use Rattle.actor_parts.specs.declared.copies.PrivateCopy.{PrivateCopy}
use Rattle.actor_parts.specs.declared.copies.PrivateCopy.TheVariants.{Keys, Whole}
use Rattle.actor_parts.specs.declared.copies.CopyOfCollection.{CopyOfCollection}
use Rattle.actor_parts.specs.CopyAtGate.{IsReadBy, IsReadOf}
use Rattle.actor_parts.specs.CopyList.{copy_of}
use Rattle.actor_parts.specs.LoadInWorld.{AreRead, IsDoomed}
use Rattle.actor_parts.specs.Owns.{AreOnce, IsOwn}
use Rattle.actor_parts.proofs.OwnLemmas.{own_same}
use Rattle.actor_parts.specs.CopiesAfterEvent.{Stays}
use Rattle.tx_actor.specs.declared.actor.CallWithOutcome as running
use Rattle.tx_actor.specs.declared.actor.Stage.{Stage}
use Rattle.tx_actor.specs.declared.actor.Stage.TheVariants as stage
use Rattle.tx_actor.specs.declared.actor.TxActor.{TxActor}
use Rattle.tx_actor.specs.CopiesByStage.{AsksNothing, HasCopies, HasCopiesAt, IsWhole, IsWholeOf}
use Rattle.tx_actor.specs.CopiesByStage.{KeepsCopies, KeepsFrom, KeepsOpen, OwnsAll}
use Rattle.tx_actor.specs.CopiesByStage.{OwnsHomes, OwnsLoading, ReadsStill}
use Rattle.tx_actor.specs.ActorBounds.{IsCallAt, IsRunning}
use Rattle.tx_actor.specs.LoadInWorld.{IsCallOn}
use Rattle.tx_actor.specs.Owns.{OwnsCopies}
use Rattle.tx_actor.proofs.LoadInWorldLemmas.{owns_stands}
use Rattle.tx_actor.proofs.CopyListLemmas.{owns_by, owns_nothing}

-- what remains of a collection where all remains
abbrev pub StaysLaw : Type 0 → Type 0
StaysLaw V =
    (w v : World V) (a k : ℕ) (c : Option (PrivateCopy V)) → Stays w v a
    → (IsOwn w a k c → IsOwn v a k c) × (IsReadOf w a k c → IsReadOf v a k c)

module _ {V : Type 0} where
  -- ---- what a stage has
  whole_at : (r : TxActor V) (w : World V) (a : ℕ) (s : Stage V) → IsWhole s → HasCopiesAt r w a s → OwnsAll r w a
  whole_at r w a stage.Open is h = h
  whole_at r w a (stage.Reading l) is h = h
  whole_at r w a (stage.Trying asked tries) is h = h
  whole_at r w a (stage.Copying asked) is h = h
  whole_at r w a (stage.Locking homes) is h = h
  whole_at r w a (stage.Gating homes got tries) is h = h
  whole_at r w a (stage.Ready homes) is h = h
  whole_at r w a s is h = absurd is

  homes_at : (r : TxActor V) (w : World V) (a : ℕ) (s : Stage V) (ks : List ℕ) → IsWholeOf s ks → HasCopiesAt r w a s
      → OwnsHomes r w a ks
  homes_at r w a (stage.Ready homes) ks is h = λ k there. h.own.own k
  homes_at r w a (stage.Storing homes) ks is h = λ k there. h k (is k there)
  homes_at r w a (stage.Homing homes) ks is h = λ k there. h k (is k there)
  homes_at r w a s ks is h = absurd is

  -- ---- and what remains of it
  pub whole_stays : StaysLaw V → (r u : TxActor V) (w v : World V) (a : ℕ) → u.copies.items ≡ r.copies.items → Stays w v a → OwnsAll r w a
      → OwnsAll u v a
  whole_stays law r u w v a same st h = record {
    own = owns_by r u w v a same st.0.words st.0.blocks st.1 h.own;
    read = λ k. subst (λ (cs : List (CopyOfCollection V)). IsReadOf v a k (copy_of cs k)) (sym same)
        ((law w v a k (copy_of r.copies.items k) st).1 (h.read k));
  }

  homes_stay : StaysLaw V → (r u : TxActor V) (w v : World V) (a : ℕ) (ks : List ℕ) → u.copies.items ≡ r.copies.items → Stays w v a
      → OwnsHomes r w a ks → OwnsHomes u v a ks
  homes_stay law r u w v a ks same st h k there =
      subst (λ (cs : List (CopyOfCollection V)). IsOwn v a k (copy_of cs k)) (sym same)
      ((law w v a k (copy_of r.copies.items k) st).0 (h k there))

  opens : (s : Stage V) (before now : List (CopyOfCollection V)) → (s ≡ stage.Beginning → ⊥) → KeepsOpen s before now
      → IsWhole s × (now ≡ before)
  opens stage.Beginning before now begun k = absurd (begun refl)
  opens s before now begun k = k

  step_at : StaysLaw V → (t s : Stage V) (r u : TxActor V) (w v : World V) (a : ℕ) → (s ≡ stage.Beginning → ⊥)
      → KeepsFrom t s r.copies.items u.copies.items → Stays w v a → HasCopiesAt r w a s → HasCopiesAt u v a t
  step_at law stage.Open s r u w v a begun k st h =
      let o = opens s r.copies.items u.copies.items begun k in
      whole_stays law r u w v a o.1 st (whole_at r w a s o.0 h)
  step_at law (stage.Reading l) s r u w v a begun k st h = whole_stays law r u w v a k.1 st (whole_at r w a s k.0 h)
  step_at law (stage.Trying asked tries) s r u w v a begun k st h = whole_stays law r u w v a k.1 st (whole_at r w a s k.0 h)
  step_at law (stage.Copying asked) s r u w v a begun k st h = whole_stays law r u w v a k.1 st (whole_at r w a s k.0 h)
  step_at law (stage.Loading o left) s r u w v a begun k st h = absurd k
  step_at law (stage.Locking homes) s r u w v a begun k st h = whole_stays law r u w v a k.1 st (whole_at r w a s k.0 h)
  step_at law (stage.Gating homes got tries) s r u w v a begun k st h = whole_stays law r u w v a k.1 st (whole_at r w a s k.0 h)
  step_at law (stage.Ready homes) s r u w v a begun k st h = whole_stays law r u w v a k.1 st (whole_at r w a s k.0 h)
  step_at law (stage.Storing homes) s r u w v a begun k st h =
      homes_stay law r u w v a homes.items k.1 st (homes_at r w a s homes.items k.0 h)
  step_at law (stage.Homing homes) s r u w v a begun k st h =
      homes_stay law r u w v a homes.items k.1 st (homes_at r w a s homes.items k.0 h)
  step_at law t s r u w v a begun k st h = tt

  pub has_stepped : StaysLaw V → (r u : TxActor V) (w v : World V) (a : ℕ) → (r.stage ≡ stage.Beginning → ⊥) → KeepsCopies r u
      → Stays w v a → HasCopies r w a → HasCopies u v a
  has_stepped law r u w v a begun k st h = step_at law u.stage r.stage r u w v a begun k st h

  -- ---- a stage that asks for nothing
  idle_at : (t : Stage V) (u : TxActor V) (v : World V) (a : ℕ) (now : List (CopyOfCollection V)) → KeepsFrom t stage.Idle [] now
      → HasCopiesAt u v a t
  idle_at stage.Open u v a now k = absurd k.0
  idle_at (stage.Reading l) u v a now k = absurd k.0
  idle_at (stage.Trying asked tries) u v a now k = absurd k.0
  idle_at (stage.Copying asked) u v a now k = absurd k.0
  idle_at (stage.Loading o left) u v a now k = absurd k
  idle_at (stage.Locking homes) u v a now k = absurd k.0
  idle_at (stage.Gating homes got tries) u v a now k = absurd k.0
  idle_at (stage.Ready homes) u v a now k = absurd k.0
  idle_at (stage.Storing homes) u v a now k = absurd k.0
  idle_at (stage.Homing homes) u v a now k = absurd k.0
  idle_at t u v a now k = tt

  pub has_nothing : (u : TxActor V) (v : World V) (a : ℕ) → AsksNothing u → HasCopies u v a
  has_nothing u v a k = idle_at u.stage u v a u.copies.items k

  -- ---- a transaction that begins
  nothing : (u : TxActor V) (v : World V) (a : ℕ) → u.copies.items ≡ [] → HaveStripes v.blocks
      → ((k : ℕ) → IsOwn v a k None × IsReadOf v a k None) → OwnsAll u v a
  nothing u v a none stripes h = record {
    own = owns_nothing u v a none stripes (λ k. (h k).0);
    read = λ k. subst (λ (cs : List (CopyOfCollection V)). IsReadOf v a k (copy_of cs k)) (sym none) ((h k).1);
  }

  begin_at : (t : Stage V) (r u : TxActor V) (v : World V) (a : ℕ) → KeepsFrom t stage.Beginning r.copies.items u.copies.items
      → HaveStripes v.blocks → (t ≡ stage.Open → (k : ℕ) → IsOwn v a k None × IsReadOf v a k None) → HasCopiesAt u v a t
  begin_at stage.Open r u v a k stripes h = nothing u v a k stripes (h refl)
  begin_at (stage.Reading l) r u v a k stripes h = absurd k.0
  begin_at (stage.Trying asked tries) r u v a k stripes h = absurd k.0
  begin_at (stage.Copying asked) r u v a k stripes h = absurd k.0
  begin_at (stage.Loading o left) r u v a k stripes h = absurd k
  begin_at (stage.Locking homes) r u v a k stripes h = absurd k.0
  begin_at (stage.Gating homes got tries) r u v a k stripes h = absurd k.0
  begin_at (stage.Ready homes) r u v a k stripes h = absurd k.0
  begin_at (stage.Storing homes) r u v a k stripes h = absurd k.0
  begin_at (stage.Homing homes) r u v a k stripes h = absurd k.0
  begin_at t r u v a k stripes h = tt

  pub has_begun : (r u : TxActor V) (v : World V) (a : ℕ) → r.stage ≡ stage.Beginning → KeepsCopies r u → HaveStripes v.blocks
      → (u.stage ≡ stage.Open → (k : ℕ) → IsOwn v a k None × IsReadOf v a k None) → HasCopies u v a
  has_begun r u v a at k stripes h =
      begin_at u.stage r u v a (subst (λ (s : Stage V). KeepsFrom u.stage s r.copies.items u.copies.items) at k) stripes h

  -- ---- another actor's event
  -- The call that is read for remains its actor's own where its shadow remains and what it has read, with as many locations left or fewer,
  -- once those that are passed have been read.
  pub loading_moves : (r u : TxActor V) (w v : World V) (a : ℕ) (o : running.CallWithOutcome V) (left fs : Entries)
      → u.copies.items ≡ r.copies.items → v.words ≡ w.words → v.blocks ≡ w.blocks → v.boosted.shadows a ≡ w.boosted.shadows a
      → ((l e : ℕ) → first_read (actor_of w a).calls l ≡ Some e → first_read (actor_of v a).calls l ≡ Some e)
      → ((k : ℕ) (c : Option (PrivateCopy V)) → k ≢ o.asked.collection → IsReadOf w a k c → IsReadOf v a k c)
      → (IsDoomed (actor_of w a).calls left → IsDoomed (actor_of v a).calls fs)
      → ((cs : List Call) → ((l e : ℕ) → first_read (actor_of v a).calls l ≡ Some e → first_read cs l ≡ Some e) → AreRead cs fs
      → AreRead cs left)
      → OwnsLoading r w a o left → OwnsLoading u v a o fs
  unfolding owns_stands
  loading_moves r u w v a o left fs same words blocks shadow more others doomed passed h = record {
    stripes = subst HaveStripes (sym blocks) h.stripes;
    once = subst AreOnce (sym same) h.once;
    others = λ k ne. subst (λ (cs : List (CopyOfCollection V)). IsOwn v a k (copy_of cs k) × IsReadOf v a k (copy_of cs k)) (sym same) (
      own_same w v a k (copy_of r.copies.items k) words blocks shadow (h.others k ne).0,
      others k (copy_of r.copies.items k) ne (h.others k ne).1,
    );
    call = owns_stands w v a o left fs words blocks shadow doomed h.call;
    at = ap (λ (cs : List (CopyOfCollection V)). copy_of cs o.asked.collection) same ∙ h.at;
    read = λ cs grows are. h.read cs (λ l e is. grows l e (more l e is)) (passed cs grows are);
  }

  loading_stays : StaysLaw V → (r : TxActor V) (w v : World V) (a : ℕ) (o : running.CallWithOutcome V) (left : Entries)
      → actor_of v a ≡ actor_of w a → Stays w v a → OwnsLoading r w a o left → OwnsLoading r v a o left
  loading_stays law r w v a o left same st h =
      let calls : (actor_of v a).calls ≡ (actor_of w a).calls = ap (λ (y : machine.Actor). y.calls) same in
      loading_moves r r w v a o left left refl st.0.words st.0.blocks st.1
      (λ l e is. ap (λ (ds : List Call). first_read ds l) calls ∙ is)
      (λ k c ne is. (law w v a k c st).1 is)
      (λ d. subst (λ (cs : List Call). IsDoomed cs left) (sym calls) d) (λ cs grows are. are) h

  other_at : StaysLaw V → (s : Stage V) (r : TxActor V) (w v : World V) (a : ℕ) → actor_of v a ≡ actor_of w a → Stays w v a
      → HasCopiesAt r w a s → HasCopiesAt r v a s
  other_at law stage.Open r w v a same st h = whole_stays law r r w v a refl st h
  other_at law (stage.Reading l) r w v a same st h = whole_stays law r r w v a refl st h
  other_at law (stage.Trying asked tries) r w v a same st h = whole_stays law r r w v a refl st h
  other_at law (stage.Copying asked) r w v a same st h = whole_stays law r r w v a refl st h
  other_at law (stage.Loading o left) r w v a same st h = loading_stays law r w v a o left.items same st h
  other_at law (stage.Locking homes) r w v a same st h = whole_stays law r r w v a refl st h
  other_at law (stage.Gating homes got tries) r w v a same st h = whole_stays law r r w v a refl st h
  other_at law (stage.Ready homes) r w v a same st h = whole_stays law r r w v a refl st h
  other_at law (stage.Storing homes) r w v a same st h = homes_stay law r r w v a homes.items refl st h
  other_at law (stage.Homing homes) r w v a same st h = homes_stay law r r w v a homes.items refl st h
  other_at law s r w v a same st h = tt

  pub has_stayed : StaysLaw V → (r : TxActor V) (w v : World V) (a : ℕ) → actor_of v a ≡ actor_of w a → Stays w v a → HasCopies r w a
      → HasCopies r v a
  has_stayed law r w v a same st h = other_at law r.stage r w v a same st h

  -- ---- where all is its own
  read_grows : (read now : ℕ → Option ℕ) (f : ℕ) (c : PrivateCopy V) → ((l e : ℕ) → read l ≡ Some e → now l ≡ Some e) → IsReadBy read f c
      → IsReadBy now f c
  read_grows read now f (Keys m es) more is =
      (λ o held i there. (let r = is.0 o held i there in (r.0, more (f + i) r.0 r.1)), λ i e there. more (f + i) e (is.1 i e there))
  read_grows read now f (Whole s) more is = tt

  loading_whole : (b : BlocksView) (r : TxActor V) (w : World V) (a : ℕ) (o : running.CallWithOutcome V) (left : _) → IsLaid b w
      → IsCallAt b r.copies.items (stage.Loading o left) → OwnsAll r w a → OwnsLoading r w a o left.items
  loading_whole b r w a o left laid call h =
      let k = o.asked.collection in
      let f = first_of w.words w.blocks k in
      let own = subst (IsOwn w a k) call.at (h.own.own k) in
      let first : first_of b.words b.blocks k ≡ f = λ j. first_of (sym laid.0 j) (sym laid.1 j) k in
      let read = subst (IsReadOf w a k) call.at (h.read k) in
      record {
        stripes = h.own.stripes;
        once = h.own.once;
        others = λ j ne. (h.own.own j, h.read j);
        call = record {
          block = own.0;
          first = f;
          copy = call.copy;
          answer = call.answer;
          call_on = subst (λ (g : ℕ). IsCallOn g call.copy o call.answer) first call.call_on;
          own = inl own.1;
        };
        at = call.at;
        read = λ cs more are. read_grows (first_read (actor_of w a).calls) (first_read cs) f call.copy more read;
      }

  all_at : (b : BlocksView) (s : Stage V) (r : TxActor V) (w : World V) (a : ℕ) → IsLaid b w → IsCallAt b r.copies.items s → OwnsAll r w a
      → HasCopiesAt r w a s
  all_at b stage.Open r w a laid call h = h
  all_at b (stage.Reading l) r w a laid call h = h
  all_at b (stage.Trying asked tries) r w a laid call h = h
  all_at b (stage.Copying asked) r w a laid call h = h
  all_at b (stage.Loading o left) r w a laid call h = loading_whole b r w a o left laid call h
  all_at b (stage.Locking homes) r w a laid call h = h
  all_at b (stage.Gating homes got tries) r w a laid call h = h
  all_at b (stage.Ready homes) r w a laid call h = h
  all_at b (stage.Storing homes) r w a laid call h = λ k there. h.own.own k
  all_at b (stage.Homing homes) r w a laid call h = λ k there. h.own.own k
  all_at b s r w a laid call h = tt

  pub has_all : (b : BlocksView) (r : TxActor V) (w : World V) (a : ℕ) → IsLaid b w → IsRunning b r → OwnsAll r w a → HasCopies r w a
  has_all b r w a laid running h = all_at b r.stage r w a laid running.call h

  -- ---- a request of an idle actor
  pub has_asked : StaysLaw V → (r u : TxActor V) (w v : World V) (a : ℕ) → ReadsStill r.copies.items u.copies.items
      → ((k : ℕ) (c : Option (PrivateCopy V)) → IsReadOf w a k c → IsReadOf v a k c) → OwnsAll r w a → OwnsCopies u v a → OwnsAll u v a
  has_asked law r u w v a still stay h own = record {
    own = own;
    read = λ k. still v a k (stay k (copy_of r.copies.items k) (h.read k));
  }

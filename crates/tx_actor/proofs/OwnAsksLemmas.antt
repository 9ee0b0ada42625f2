-- What a request leaves of an actor's shadow: a request on words leaves it, and so does a commit or an abort, so what the actor has of
-- collections remains its own; the acceptance of a call puts its outcome there, and into the copy.
use Rattle.std.proofs.Common.{◌≡◌, ◌<◌, ℕ, Bool, true, false, ◌&&◌, cond, length, [], ◌∷◌, Some, refl, sym, ap, ◌∙◌}
use Rattle.std.specs.Prelude.{slice_get}
use Rattle.std.proofs.lemmas.Option.{same_Some}
use Rattle.tx_sets.specs.Entries.{Entries}
use Rattle.tx_machine.specs.Notices as told
use Rattle.seq_model.specs.declared.call.Op.TheVariants.{Read, Write}
use Rattle.tx_machine.specs.Requests.{AskWrite}
use Rattle.conflict.specs.declared.outcome.Outcome.{Outcome}
use Rattle.tx_machine.specs.Boosted.{Boosted, longer, requested}
use Rattle.replay_log.specs.Base.{Shown}
use Rattle.replay_log.specs.Contents.{CallWithOutcome, is_plain}
use Rattle.replay_log.specs.Worlds.{World, Seat, After, ask_op, cancels, commits, if_allowed, reads}
use Rattle.tx_actor.specs.declared.actor.CallWithOutcome as running
use Rattle.tx_actor.specs.declared.actor.TxActor.{TxActor}
use Rattle.actor_parts.specs.declared.judged.Judged.{Judged}
use Rattle.actor_parts.specs.declared.judged.Judged.TheVariants.{All, Next, Stale}
use Rattle.tx_actor.specs.Answers.{CanAccept, CopiesAfter, IsAcceptedAt, MayAccept}
use Rattle.actor_parts.specs.declared.copies.CopyOfCollection.{CopyOfCollection}
use Rattle.actor_parts.specs.PrivateCopy.{answer_of, answered_on}
use Rattle.actor_parts.specs.Judged.{comes_to}
use Rattle.tx_actor.specs.Owns.{OwnsCopies}
use Rattle.tx_actor.specs.Running.{answered_of, asked_of}
use Rattle.actor_parts.proofs.AcceptsLemmas.{accepts}
use Rattle.actor_parts.proofs.OutcomeLemmas.{answered_op}
use Rattle.tx_actor.proofs.CopyListLemmas.{owns_accepted, owns_by}
use Rattle.actor_parts.proofs.TakeBackLemmas.{at_place}

module _ {V : Type 0} where
  -- a world laid out as w is, with a's shadow of there
  pub record SameOwn (a : ℕ) (w v : World V) : Type 0 where
    pub words : v.words ≡ w.words
    pub blocks : v.blocks ≡ w.blocks
    pub shadow : v.boosted.shadows a ≡ w.boosted.shadows a

  pub owns_still : (r u : TxActor V) (w v : World V) (a : ℕ) → u.copies.items ≡ r.copies.items → SameOwn a w v → OwnsCopies r w a
      → OwnsCopies u v a
  owns_still r u w v a same own is = owns_by r u w v a same own.words own.blocks own.shadow is

  if_same : (a : ℕ) (w : World V) (b : Bool) (p q : After V) → SameOwn a w p.0 → SameOwn a w q.0 → SameOwn a w (cond b p q).0
  if_same a w true p q h k = h
  if_same a w false p q h k = k

  same : (a : ℕ) (w : World V) → SameOwn a w w
  same a w = record { words = refl; blocks = refl; shadow = refl }

  allowed_same : (a : ℕ) (w : World V) (x : Seat V) (known room : Bool) (p : After V) → SameOwn a w p.0
      → SameOwn a w (if_allowed w a x known room p).0
  allowed_same a w x true room p h = if_same a w (_ && room) p _ h (same a w)
  allowed_same a w x false room p h = same a w

  reads_same : (a : ℕ) (w : World V) (x : Seat V) (l : ℕ) (n : told.Notice) → SameOwn a w (reads w a x l n).0
  reads_same a w x l (told.Number v) = record { words = refl; blocks = refl; shadow = refl }
  reads_same a w x l n = record { words = refl; blocks = refl; shadow = refl }

  pub read_same : (a : ℕ) (w : World V) (x : Seat V) (l : ℕ) → SameOwn a w (ask_op w a x l Read).0
  read_same a w x l = allowed_same a w x _ _ _ (reads_same a w x l _)

  -- a guarded request on words
  words_same : (a : ℕ) (w : World V) (b : Bool) (s t : Boosted (Shown V) (CallWithOutcome V)) → s.shadows a ≡ t.shadows a
      → (cond b s t).shadows a ≡ t.shadows a
  words_same a w true s t e = e
  words_same a w false s t e = refl

  pub write_same : (a : ℕ) (w : World V) (x : Seat V) (l v : ℕ) → SameOwn a w (ask_op w a x l (Write v)).0
  write_same a w x l v =
      allowed_same a w x _ _ _ (record {
        words = refl;
        blocks = refl;
        shadow = words_same a w (is_plain w.words w.blocks l) (requested w.boosted a (AskWrite l v)) w.boosted refl;
      })

  pub commit_same : (a : ℕ) (w : World V) (x : Seat V) (es : Entries) → SameOwn a w (commits w a x es).0
  commit_same a w x [] = record { words = refl; blocks = refl; shadow = refl }
  commit_same a w x (e ∷ es) = record { words = refl; blocks = refl; shadow = refl }

  pub cancel_same : (a : ℕ) (w : World V) (x : Seat V) → SameOwn a w (cancels w a x)
  cancel_same a w x = record { words = refl; blocks = refl; shadow = refl }

  -- ---- a call that continues
  pub accepted_owns : (w : World V) (a : ℕ) (x : Seat V) (u n : TxActor V) (call : running.CallWithOutcome V) (left : Entries)
      → call.place < length u.copies.items
      → ((c : CopyOfCollection V) → slice_get u.copies.items call.place ≡ Some c
      → (o : Outcome V) × (call.outcome ≡ Some o) × (c.collection ≡ call.asked.collection) × (answer_of c.copied call.asked.op ≡ Some o))
      → IsAcceptedAt call.place call.outcome u.copies.items n.copies.items → MayAccept w a call → OwnsCopies u w a
      → OwnsCopies n (comes_to w a x (answered_of call) left All).0 a
  accepted_owns w a x u n call left place answers at may own =
      let v : World V = (comes_to w a x (answered_of call) left All).0 in
      let c = at_place u.copies.items call.place place in
      let here = answers c.0 c.1 in
      let o = here.0 in
      let k = call.asked.collection in
      let op : o.op ≡ call.asked.op = answered_op c.0.copied call.asked.op o here.3 in
      let is : answered_of call ≡ answered_on k o.op o =
      λ i. record { asked = record { collection = k; op = sym op i }; outcome = here.1 i } in
      let law = accepts a w (asked_of call.asked) may.guard in
      let shadow : v.boosted.shadows a ≡ longer (w.boosted.shadows a) (answered_on k o.op o) =
      law.1 ∙ ap (longer (w.boosted.shadows a)) (may.outcome ∙ is) in
      owns_accepted w v a k o u n call.place call.outcome (refl, refl, shadow) here.1 at
      (λ d there. (
      let other = answers d there in
      let same : other.0 ≡ o = same_Some other.0 o (sym other.1 ∙ here.1) in (
        other.2,
        ap (answer_of d.copied) op ∙ (other.3 ∙ ap (λ (p : Outcome V). Some p) same),
      ))) own

  pub comes_owns : (w : World V) (a : ℕ) (x : Seat V) (u n : TxActor V) (call : running.CallWithOutcome V) (left : Entries) (j : Judged)
      → CanAccept u call → CopiesAfter j call u.copies.items n.copies.items → (j ≡ All → MayAccept w a call) → OwnsCopies u w a
      → OwnsCopies n (comes_to w a x (answered_of call) left j).0 a
  comes_owns w a x u n call left All prepared at may own = accepted_owns w a x u n call left prepared.place prepared.own at (may refl) own
  comes_owns w a x u n call left (Next l) prepared at may own =
      owns_by u n w (comes_to w a x (answered_of call) left (Next l)).0 a at refl refl refl own
  comes_owns w a x u n call left (Stale l b v) prepared at may own =
      owns_by u n w (comes_to w a x (answered_of call) left (Stale l b v)).0 a at refl refl refl own

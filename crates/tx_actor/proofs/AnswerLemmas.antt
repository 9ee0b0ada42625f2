-- A call that is accepted: its copy has one outcome more and the pieces that it had, and the world is the one in which the call is replied,
-- by the law on acceptances. Where its locations are judged, each answer of the judging is what the definitions result in (`by_judged`);
-- the location that is read next leaves the world's outcome in its stage (`reads_by`).
use Rattle.std.proofs.Common.{◌≡◌, ◌<◌, ℕ, true, length, List, [], Option, Some, None, get_or, refl, sym, ap, subst, ◌∙◌}
use Rattle.std.proofs.Math.ListN.{set}
use Rattle.std.proofs.lemmas.Option.{slice_get_read}
use Rattle.tx_sets.specs.Entries.{Entries, lookup}
use Rattle.tx_machine.specs.Actor.{Actor, Open as AtRest}
use Rattle.tx_machine.proofs.Sets.{put-same}
use Rattle.seq_model.specs.declared.event.Notice.TheVariants.{Quiet}
use Rattle.conflict.specs.declared.outcome.Outcome.{Outcome}
use Rattle.tx_machine.specs.Boosted.{Accept}
use Rattle.replay_log.specs.Contents.{CallWithOutcome, content}
use Rattle.replay_log.specs.Guards.{Allows}
use Rattle.replay_log.specs.Pieces.{Piece}
use Rattle.replay_log.specs.Worlds.{World, Seat, Stage, Loading, actor_of, at_stage, call_of, outcome_at, reply_of, with_call}
use Rattle.actor_parts.specs.declared.copies.CopyOfCollection.{CopyOfCollection}
use Rattle.actor_parts.specs.declared.copies.PrivateCopy.{PrivateCopy}
use Rattle.actor_parts.specs.declared.judged.Judged.{Judged}
use Rattle.actor_parts.specs.declared.judged.Judged.TheVariants.{All, Next}
use Rattle.tx_actor.specs.declared.actor.ActorNotice.{ActorNotice}
use Rattle.tx_actor.specs.declared.actor.TxActor.{TxActor}
use Rattle.actor_parts.specs.Shows.{actor_after}
use Rattle.actor_parts.specs.Accepts.{written}
use Rattle.tx_actor.specs.Answers.{IsAcceptedAt}
use Rattle.actor_parts.specs.PrivateCopy.{IsAccepted, holds_call}
use Rattle.actor_parts.specs.Judged.{comes_to}
use Rattle.tx_actor.specs.Running.{Runs, notice_of}
use Rattle.actor_parts.specs.CopyList.{copy_of, has_piece}
use Rattle.actor_parts.proofs.AcceptsLemmas.{accepts}
use Rattle.actor_parts.proofs.CopyListLemmas.{accepted_pieces, same_pieces}
use Rattle.tx_actor.proofs.RunsLemmas.{Seats}
use Rattle.actor_parts.proofs.ShowsLemmas.{reads_next}

module _ {V : Type 0} where
  pub accepted_at : (i : ℕ) (p : Option (Outcome V)) (o : Outcome V) (before : List (CopyOfCollection V)) (c : CopyOfCollection V)
      (e : PrivateCopy V)
      → p ≡ Some o → i < length before → c ≡ get_or before i c → IsAccepted o c.copied e → holds_call c.copied o.op ≡ true
      → IsAcceptedAt i p before (set before i (record { collection = c.collection; copied = e }))
  accepted_at i p o before c e is lt at acc held =
      subst (λ (q : Option (Outcome V)). IsAcceptedAt i q before (set before i (record { collection = c.collection; copied = e })))
      (sym is) (
        c,
        record { collection = c.collection; copied = e },
        slice_get_read before (length before) i c refl lt at,
        refl,
        acc,
        held,
        refl,
      )

  pub pieces_stay : (i : ℕ) (p : Option (Outcome V)) (before now : List (CopyOfCollection V)) → IsAcceptedAt i p before now
      → (k : ℕ) (q : Piece)
      → has_piece (copy_of now k) q ≡ has_piece (copy_of before k) q
  pieces_stay i None before now is k q = ap (λ (cs : List (CopyOfCollection V)). has_piece (copy_of cs k) q) is
  pieces_stay i (Some o) before now is k q =
      ap (λ (cs : List (CopyOfCollection V)). has_piece (copy_of cs k) q) is.6
      ∙ same_pieces before i is.0 is.1 is.2 is.3 (λ r. accepted_pieces o is.0.copied is.1.copied r is.5 is.4) k q

  -- the world after the acceptance
  pub accepted_as : (a : ℕ) (w : World V) (x p : Seat V) (q : Actor) (o : CallWithOutcome V) (K : Type 0) → K
      → Allows (content w.words w.blocks) w.boosted (Accept a o.asked) → outcome_at w a o.asked ≡ o
      → q ≡ written (actor_of w a) (w.boosted.shadows a).editions ((content w.words w.blocks).writes o)
      → p ≡ with_call x (call_of o) (reply_of o) → Seats a p q K (comes_to w a x o [] All).0
  accepted_as a w x p q o K k guard is e f =
      let law = accepts a w o.asked guard in (
        put-same w.seats a _ ∙ sym f,
        law.0
            ∙ (ap (λ (z : CallWithOutcome V). written (actor_of w a) (w.boosted.shadows a).editions ((content w.words w.blocks).writes z))
            is
            ∙ sym e),
        k,
      )

  -- what was judged is what the call results in
  pub by_judged : (u : TxActor V) (t : ActorNotice V) (a : ℕ) (w : World V) (x : Seat V) (o : CallWithOutcome V) (left : Entries)
      (i j : Judged) → i ≡ j
      → Runs a u (comes_to w a x o left i).0 × (notice_of a t ≡ (comes_to w a x o left i).1)
      → Runs a u (comes_to w a x o left j).0 × (notice_of a t ≡ (comes_to w a x o left j).1)
  by_judged u t a w x o left i j e is =
      subst (λ (z : Judged). Runs a u (comes_to w a x o left z).0 × (notice_of a t ≡ (comes_to w a x o left z).1)) e is

  -- and so where the call has this outcome
  pub by_outcome : (u : TxActor V) (t : ActorNotice V) (a : ℕ) (w : World V) (x : Seat V) (o p : CallWithOutcome V) (left : Entries)
      (j : Judged)
      → o ≡ p → j ≡ All
      → Runs a u (comes_to w a x o [] All).0 × (notice_of a t ≡ (comes_to w a x o [] All).1)
      → Runs a u (comes_to w a x p left j).0 × (notice_of a t ≡ (comes_to w a x p left j).1)
  by_outcome u t a w x o p left j same all is =
      by_judged u t a w x p left All j (sym all)
      (subst (λ (z : CallWithOutcome V). Runs a u (comes_to w a x z [] All).0 × (notice_of a t ≡ (comes_to w a x z [] All).1)) same is)

  -- the next location is read; the actor's seat depends on the stage that the world has then
  pub reads_by : (a : ℕ) (w : World V) (x : Seat V) (p : Stage V → Seat V) (y q : Actor) (o : CallWithOutcome V) (left : Entries) (l : ℕ)
      (K : Type 0) (j : Judged) → K → Next l ≡ j → actor_of w a ≡ y → y.place ≡ AtRest → lookup y.writes l ≡ None → lookup y.reads l ≡ None
      → q ≡ actor_after (Next l) y → p (Loading o left) ≡ at_stage x (Loading o left)
      → Seats a (p ((comes_to w a x o left j).0.seats a).stage) q K (comes_to w a x o left j).0 × (Quiet ≡ (comes_to w a x o left j).1)
  reads_by a w x p y q o left l K j k is s rests nw nr e f =
      subst (λ (z : Judged). Seats a (p ((comes_to w a x o left z).0.seats a).stage) q K (comes_to w a x o left z).0
      × (Quiet ≡ (comes_to w a x o left z).1)) is (
        (
          seat ∙ sym (ap (λ (z : Seat V). p z.stage) seat ∙ f),
          (reads_next a (w.seats a) y w o left l rests nw nr (refl, s)).0.1 ∙ sym e,
          k,
        ),
        refl,
      )
    where
      seat : (comes_to w a x o left (Next l)).0.seats a ≡ at_stage x (Loading o left)
      seat = put-same w.seats a (at_stage x (Loading o left))

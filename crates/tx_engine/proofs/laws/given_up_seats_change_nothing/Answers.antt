use Rattle.std.proofs.Common.{inl, inr, subst, sym}
use Rattle.seq_model.specs.declared.event.Answer.TheVariants.{Aborted}
use Rattle.seq_model.specs.declared.refusal.Refusal.{Refusal}
use Rattle.tx_actor.specs.declared.actor.ActorNotice.TheVariants.{Answered, Refused}
use Rattle.shared_table.specs.Seated.{actor, acts, opening_of}
use Rattle.tx_turns.specs.Driven.{HasTold}
use Rattle.tx_engine.proofs.RefusedLemmas.{gave_up}
use Rattle.tx_engine.proofs.SeatLemmas.{opening_linked}
use Rattle.tx_engine.proofs.laws.given_up_seats_change_nothing.Goals as goal

pub returns-clause-told : goal.returns-clause-told
returns-clause-told g c t s u n ready up told =
    let o = opening_of t in
    gave_up o s.seat u.seat n (opening_linked o (actor s.seat) (acts o s.seat) ready.ties.reached) up told

pub returns-clause-refused : goal.returns-clause-refused
returns-clause-refused g c t s u cause ready up why =
    let o = opening_of t in
    let linked = opening_linked o (actor s.seat) (acts o s.seat) ready.ties.reached in
    elim why [
      | inl found ↦ inl (gave_up o s.seat u.seat (Refused cause) linked up found.1)
      | inr wanted ↦ elim wanted.1 [
        | inl said ↦ inl (gave_up o s.seat u.seat (Refused cause) linked up
            (subst (λ (k : Refusal). HasTold o s.seat u.seat (Refused k)) (sym wanted.0) said))
        | inr aborted ↦ inr (wanted.0, gave_up o s.seat u.seat (Answered Aborted) linked tt aborted)
      ]
    ]

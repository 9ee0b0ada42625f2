-- What the attempts of a body, or a number that is learnt, make of what contracts see of a client.
use Rattle.std.specs.Prelude.{◌≡◌, ℕ, ◌<◌, ◌≤◌, Bool, true, false, List, [], ◌∷◌, ◌++◌, max, Result, IfErr, IfOk, OnErr, OnOk}
use Rattle.seq_model.specs.declared.call.Call.{Call}
use Rattle.seq_model.specs.declared.call.Reply.{Reply}
use Rattle.seq_model.specs.declared.record.Record.{Record}
use Rattle.seq_model.specs.declared.refusal.Refusal.{Refusal}
use Rattle.seq_model.specs.declared.refusal.Refusal.TheVariants.{Ahead}
use Rattle.seq_model.specs.declared.failure.Failure.{Failure}
use Rattle.tx_client.specs.RequestKinds.{HasAsked}
use Rattle.tx_client.specs.Ends.{ClientShown, IsAbortBy}
use Rattle.tx_client.specs.Tallies.{AreCounted}

module _ {V : Type 0} where
  -- A body, which makes such calls and aborts so, has a receipt more, or none; its attempts are counted.
  pub record HasRun {A E : Type 0} (makes : A → List (Call V × Reply V) → Type 0) (fails : E → List (Call V × Reply V) → Type 0)
      (declared : Bool) (tries : ℕ) (before after : ClientShown V) (r : Result (A × Record V) (Failure E)) : Type 0 where
    pub same : after.actor ≡ before.actor
    pub one : IfOk r (λ done. after.receipts ≡ before.receipts ++ (before.actor, done.1) ∷ [])
    pub made : IfOk r (λ done. makes done.0 done.1.calls)
    pub last : IfOk r (λ done. (before.last ≤ done.1.number) × (after.last ≡ done.1.number))
    pub none : OnErr r ((after.receipts ≡ before.receipts) × (after.last ≡ before.last))
    pub aborts : IfErr r (IsAbortBy fails)
    pub asks : HasAsked declared before.asked after.asked
    pub counted : AreCounted tries before.tally after.tally r
    pub reads : IfOk r (λ done. declared ≡ true → done.1.writes ≡ false)

  -- The number is the last one from now on, or was less, or is above the clock; nothing else has changed.
  pub record HasLearnt (number : ℕ) (before after : ClientShown V) (r : Result (Unit {0}) Refusal) : Type 0 where
    pub same : after.actor ≡ before.actor
    pub receipts : after.receipts ≡ before.receipts
    pub asks : after.asked ≡ before.asked
    pub counts : after.tally ≡ before.tally
    pub learns : OnOk r (after.last ≡ max before.last number)
    pub none : OnErr r (after.last ≡ before.last)
    pub ahead : IfErr r (λ cause. (clock : ℕ) × ((cause ≡ Ahead clock) × (clock < number)))

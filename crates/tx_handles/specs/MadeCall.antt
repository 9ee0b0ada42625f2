-- A call that a transaction has made, with its reply.
use Rattle.std.specs.Prelude.{◌≡◌, ◌≢◌, ℕ, Bool, true, false, List, [], ◌∷◌, ◌++◌, Result, Ok, Err}
use Rattle.seq_model.specs.declared.call.Call.{Call}
use Rattle.seq_model.specs.declared.call.Op.{Op}
use Rattle.seq_model.specs.declared.call.Reply.{Reply}
use Rattle.seq_model.specs.declared.call.Reply.TheVariants as reply
use Rattle.seq_model.specs.declared.refusal.Refusal.{Refusal}
use Rattle.seq_model.specs.declared.refusal.Refusal.TheVariants.{NoSuch}

module _ (V : Type 0) where
  -- what contracts see of a transaction: the number of its store, and the calls that it has made, each with its reply
  pub record TransactionShown : Type 0 where
    pub store : ℕ
    pub calls : List (Call V × Reply V)

module _ {V : Type 0} where
  -- the transaction with one call more
  abbrev pub with_call : TransactionShown V → ℕ → Op V → Reply V → TransactionShown V
  with_call before target op answer = record {
    store = before.store;
    calls = before.calls ++ (record { target = target; op = op }, answer) ∷ [];
  }

  -- A handle of a store with this number is one of the transaction's store, and the transaction has made this call more, with this reply.
  abbrev pub HasMade : TransactionShown V → ℕ → ℕ → Op V → Reply V → TransactionShown V → Type 0
  HasMade before store target op answer now = (before.store ≡ store) × (now ≡ with_call before target op answer)

  -- A handle of another store is `NoSuch`, and the transaction is as it was.
  abbrev pub RefusesForeign : {A : Type 0} → TransactionShown V → ℕ → Result A Refusal → TransactionShown V → Type 0
  RefusesForeign before store answer now = before.store ≢ store → (answer ≡ Err NoSuch) × (now ≡ before)

  -- the reply to a change that may find the collection full
  abbrev pub room_reply : {A E : Type 0} → Result A E → Reply V
  room_reply (Ok a) = reply.Done
  room_reply (Err e) = reply.Full

  abbrev pub yes_reply : Bool → Reply V
  yes_reply true = reply.Yes
  yes_reply false = reply.No

-- Transactions, the order of their commits, and runs of them.
use Rattle.std.specs.Prelude.{◌≡◌, ℕ, Bool, true, false, nat_lt, nat_le, if◌then◌else◌, List, [], ◌∷◌, Option, Some, option_map, filter, ⊤}
use Rattle.std.specs.Option.{option_map_or}
use Rattle.std.specs.List.{list_any}
use Rattle.seq_model.specs.Changes.{changes}
use Rattle.seq_model.specs.declared.call.Call.{Call}
use Rattle.seq_model.specs.declared.call.Reply.{Reply}
use Rattle.seq_model.specs.declared.record.Record.{Record}
use Rattle.seq_model.specs.Contents.{Contents, call_of}

-- ---- one call
-- the reply of a call at a state, where it has one
abbrev pub reply_of : {V : Type 0} → Call V → Contents V → Option (Reply V)
reply_of call s = option_map (λ r. r.0) (call_of call s)

-- the state after a call, the same where the call has no reply
abbrev pub after_call : {V : Type 0} → Call V → Contents V → Contents V
after_call call s = option_map_or (λ r. r.1) (call_of call s) s

-- ---- a transaction: calls, each with the reply that it got
-- each reply is that of the call at the state which the calls before it leave
abbrev pub IsLegal : {V : Type 0} → List (Call V × Reply V) → Contents V → Type 0
IsLegal [] s = ⊤
IsLegal (c ∷ cs) s = (reply_of c.0 s ≡ Some c.1) × IsLegal cs (after_call c.0 s)

abbrev pub after_calls : {V : Type 0} → List (Call V × Reply V) → Contents V → Contents V
after_calls [] s = s
after_calls (c ∷ cs) s = after_calls cs (after_call c.0 s)

-- whether it changes something: such a transaction is a writer
abbrev pub is_writer : {V : Type 0} → List (Call V × Reply V) → Bool
is_writer calls = list_any (λ c. changes c.0.op c.1) calls

-- ---- committed transactions: each with the actor that committed it
-- by number; at one number the writer first, then readers by actor
abbrev pub comes_before : {V : Type 0} → ℕ × Record V → ℕ × Record V → Bool
comes_before r x =
    if nat_lt r.1.number x.1.number then true
    else if nat_lt x.1.number r.1.number then false
    else if r.1.writes then true
    else if x.1.writes then false
    else nat_lt r.0 x.0

-- a record in its place, after those that it does not come before
abbrev pub insert_record : {V : Type 0} → ℕ × Record V → List (ℕ × Record V) → List (ℕ × Record V)
insert_record r [] = r ∷ []
insert_record r (x ∷ xs) = if comes_before r x then r ∷ x ∷ xs else x ∷ insert_record r xs

-- none of these records comes before x
abbrev pub NoneComesBefore : {V : Type 0} → ℕ × Record V → List (ℕ × Record V) → Type 0
NoneComesBefore x [] = ⊤
NoneComesBefore x (r ∷ rs) = (comes_before r x ≡ false) × NoneComesBefore x rs

-- no record comes before one that stands before it; so no two writers share a number
abbrev pub IsInCommitOrder : {V : Type 0} → List (ℕ × Record V) → Type 0
IsInCommitOrder [] = ⊤
IsInCommitOrder (x ∷ xs) = NoneComesBefore x xs × IsInCommitOrder xs

-- each record is legal at the state that those before it leave
abbrev pub IsRun : {V : Type 0} → List (ℕ × Record V) → Contents V → Type 0
IsRun [] s = ⊤
IsRun (r ∷ rs) s = IsLegal r.1.calls s × IsRun rs (after_calls r.1.calls s)

abbrev pub after_run : {V : Type 0} → List (ℕ × Record V) → Contents V → Contents V
after_run [] s = s
after_run (r ∷ rs) s = after_run rs (after_calls r.1.calls s)

-- the state at a number: what the records with at most this number leave
abbrev pub state_at : {V : Type 0} → ℕ → List (ℕ × Record V) → Contents V → Contents V
state_at n records opening = after_run (filter (λ r. nat_le r.1.number n) records) opening

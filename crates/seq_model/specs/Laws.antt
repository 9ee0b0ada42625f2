-- What follows from the definitions of runs and audits.
use Rattle.std.specs.Prelude.{◌≡◌, ◌≢◌, ◌↔◌, ℕ, true, false, List, [], ◌∷◌, ◌++◌, map, ⊤}
use Rattle.seq_model.specs.declared.call.Call.{Call}
use Rattle.seq_model.specs.declared.call.Reply.{Reply}
use Rattle.seq_model.specs.declared.record.Record.{Record}
use Rattle.seq_model.specs.declared.auditing.AuditFault.{AuditFault}
use Rattle.seq_model.specs.declared.auditing.AuditFault.TheVariants.{Memory as OutOfMemory}
use Rattle.seq_model.specs.Contents.{Contents}
use Rattle.seq_model.specs.Runs.{IsLegal, after_calls, is_writer, comes_before, insert_record, IsInCommitOrder, IsRun, after_run}
use Rattle.seq_model.specs.Audit.{IsRunBetween, IsAuditFault}

-- from a state, the calls of a legal transaction determine its replies
abbrev pub CallsDetermineReplies : Type 0 → Type 0
CallsDetermineReplies V =
    (one other : List (Call V × Reply V)) (s : Contents V) → IsLegal one s → IsLegal other s → map (λ c. c.0) one ≡ map (λ c. c.0) other
    → one ≡ other

-- calls after calls: legal where the second are legal at what the first leave, and that is where they continue from
abbrev pub CallsCompose : Type 0 → Type 0
CallsCompose V =
    (first second : List (Call V × Reply V)) (s : Contents V)
    → (IsLegal (first ++ second) s ↔ (IsLegal first s × IsLegal second (after_calls first s)))
    × (after_calls (first ++ second) s ≡ after_calls second (after_calls first s))

-- records after records: the same
abbrev pub RunsCompose : Type 0 → Type 0
RunsCompose V =
    (first second : List (ℕ × Record V)) (s : Contents V)
    → (IsRun (first ++ second) s ↔ (IsRun first s × IsRun second (after_run first s)))
    × (after_run (first ++ second) s ≡ after_run second (after_run first s))

-- a legal transaction that changes nothing leaves the state
abbrev pub ReadersLeaveTheState : Type 0 → Type 0
ReadersLeaveTheState V = (calls : List (Call V × Reply V)) (s : Contents V) → is_writer calls ≡ false → IsLegal calls s
    → after_calls calls s ≡ s

-- a writer's number is no other writer's
abbrev pub HasItsOwnNumber : {V : Type 0} → ℕ × Record V → List (ℕ × Record V) → Type 0
HasItsOwnNumber r [] = ⊤
HasItsOwnNumber r (x ∷ xs) = (r.1.writes ≡ true → x.1.writes ≡ true → r.1.number ≢ x.1.number) × HasItsOwnNumber r xs

-- a record with its own number goes into commit order
abbrev pub InsertingKeepsTheOrder : Type 0 → Type 0
InsertingKeepsTheOrder V = (r : ℕ × Record V) (rs : List (ℕ × Record V)) → IsInCommitOrder rs → HasItsOwnNumber r rs
    → IsInCommitOrder (insert_record r rs)

abbrev pub AreReaders : {V : Type 0} → List (ℕ × Record V) → Type 0
AreReaders [] = ⊤
AreReaders (r ∷ rs) = (is_writer r.1.calls ≡ false) × AreReaders rs

-- all that the record comes before are readers
abbrev pub AreReadersBehind : {V : Type 0} → ℕ × Record V → List (ℕ × Record V) → Type 0
AreReadersBehind r [] = ⊤
AreReadersBehind r (x ∷ xs) = (comes_before r x ≡ true → AreReaders (x ∷ xs)) × AreReadersBehind r xs

-- a reader that is legal at the end of a run is legal in its place, where those after it are readers, and changes nothing there
abbrev pub InsertingAReaderKeepsTheRun : Type 0 → Type 0
InsertingAReaderKeepsTheRun V =
    (r : ℕ × Record V) (rs : List (ℕ × Record V)) (s : Contents V) → is_writer r.1.calls ≡ false → AreReadersBehind r rs → IsRun rs s
    → IsLegal r.1.calls (after_run rs s) → IsRun (insert_record r rs) s × (after_run (insert_record r rs) s ≡ after_run rs s)

-- records that are a run between two states have no fault but a failed allocation
abbrev pub RunsHaveNoFault : Type 0 → Type 0
RunsHaveNoFault V = (opening last : Contents V) (records : List (Record V)) (fault : AuditFault) → IsRunBetween opening records last
    → IsAuditFault opening records last fault → fault ≡ OutOfMemory

-- and other records have one
abbrev pub FaultsAreDetermined : Type 0 → Type 0
FaultsAreDetermined V =
    (opening last : Contents V) (records : List (Record V)) (one other : AuditFault) → IsAuditFault opening records last one
    → IsAuditFault opening records last other → one ≢ OutOfMemory → other ≢ OutOfMemory → one ≡ other

-- Schedules of actions, computed by the definitions: a word at location 0, and one collection of numbers at the others.
use Rattle.std.specs.Prelude.{◌≡◌, ℕ, zero, suc, ◌+◌, true, false, Option, Some, None, List, [], ◌∷◌, ◌++◌, ◌==◌, refl}
use Rattle.tx_sets.specs.Entries.{lookup, with_entry, locations}
use Rattle.tx_machine.specs.Requests.{Request, AskBegin, AskBeginRead, AskRead, AskWrite, AskLock, AskStore, AskRelease, AskCancel}
use Rattle.tx_machine.specs.Requests.{AskAbort, AskClose}
use Rattle.tx_machine.specs.World.{put, comes_before, insert, Ask, Step}
use Rattle.tx_machine.specs.Content.{Content}
use Rattle.tx_machine.specs.Boosted.{Committed, Aborted, Action, OnWords, TakeGate, PutGate, Accept, GoHome, insert_commit}
use Rattle.tx_machine.specs.Serial.{after_actions}

data Op : Type 0 where
  Get : (l : ℕ) → Op
  Add : (l n : ℕ) → Op

-- a call with the number that it found
abbrev Out : Type 0
Out = Op × ℕ

abbrev place : Op → ℕ
place (Get l) = suc l
place (Add l n) = suc l

abbrev writes_of : Op → List ℕ
writes_of (Get l) = []
writes_of (Add l n) = suc l ∷ []

abbrev change_by : Op → (ℕ → ℕ) → ℕ → ℕ
change_by (Get l) v = v
change_by (Add l n) v = put v (suc l) (v (suc l) + n)

abbrev numbers : Content ℕ Op Out
numbers = record {
  plain = λ l. l == 0;
  home = λ l. 0;
  outcome = λ v op. (op, v (place op));
  op_of = λ o. o.0;
  reads = λ o. place o.0 ∷ [];
  writes = λ o. writes_of o.0;
  change = λ o. change_by o.0;
}

abbrev asks : ℕ → Request → List (Action Op)
asks a r = OnWords (Ask a r) ∷ []

abbrev steps : ℕ → ℕ → List (Action Op)
steps a zero = []
steps a (suc n) = OnWords (Step a) ∷ steps a n

abbrev begin : ℕ → List (Action Op)
begin a = asks a AskBegin ++ steps a 1

-- the gate, the copy, the loads of the location, and the answer
abbrev copy : ℕ → List (Action Op)
copy a = TakeGate a 0 ∷ PutGate a 0 (λ l. true) ∷ []

abbrev answer : ℕ → Op → List (Action Op)
answer a op = asks a (AskRead (place op)) ++ steps a 3 ++ Accept a op ∷ []

-- the locks of n locations, the stamp, and the check of one
abbrev lock : ℕ → ℕ → List (Action Op)
lock a n = asks a AskLock ++ steps a n ++ steps a n ++ steps a 2

abbrev prepare : ℕ → ℕ → List (Action Op)
prepare a n = lock a n ++ TakeGate a 0 ∷ []

-- the values of n locations, the base put back, and the releases
abbrev finish : ℕ → ℕ → List (Action Op)
finish a n = asks a AskStore ++ steps a n ++ GoHome a 0 ∷ asks a AskRelease ++ steps a n

abbrev outs : List (Committed Out) → List (ℕ × List Out)
outs [] = []
outs (r ∷ rs) = (r.word.number, r.outcomes) ∷ outs rs

abbrev ends : List (Aborted Out) → List (ℕ × List Out)
ends [] = []
ends (r ∷ rs) = (r.word.actor, r.outcomes) ∷ ends rs

abbrev shown : List (Action Op) → record {
  history : List (ℕ × List Out);
  aborted : List (ℕ × List Out);
  word : ℕ;
  part : ℕ;
  edition : ℕ;
  value : ℕ;
  gate : Option ℕ;
}
shown es =
    let s = after_actions numbers 0 (λ l. 0) (λ l. 0) es in
    record {
      history = outs s.history;
      aborted = ends s.aborted;
      word = s.words.values 0;
      part = s.parts 1;
      edition = s.editions 1;
      value = s.words.values 1;
      gate = s.gates 0;
    }

-- one commits a word and a call, another then reads what it left
one_after_another :
    shown (begin 1 ++ copy 1 ++ answer 1 (Add 0 5) ++ asks 1 (AskWrite 0 7) ++ prepare 1 2 ++ finish 1 2 ++ begin 2 ++ copy 2
    ++ answer 2 (Get 0) ++ asks 2 AskClose ++ steps 2 1)
    ≡ record {
      history = (1, (Add 0 5, 0) ∷ []) ∷ (1, (Get 0, 5) ∷ []) ∷ [];
      aborted = [];
      word = 7;
      part = 5;
      edition = 1;
      value = 1;
      gate = None;
    }
unfolding lookup put with_entry locations comes_before insert insert_commit
one_after_another = refl

-- after its first value store a commit stands in the history, while its base is still out
half_done :
    shown (begin 1 ++ copy 1 ++ answer 1 (Add 0 5) ++ asks 1 (AskWrite 0 7) ++ prepare 1 2 ++ asks 1 AskStore ++ steps 1 1)
    ≡ record { history = (1, (Add 0 5, 0) ∷ []) ∷ []; aborted = []; word = 7; part = 0; edition = 0; value = 0; gate = Some 1 }
unfolding lookup put with_entry locations comes_before insert insert_commit
half_done = refl

-- a copy from before a commit and a load from after it: the editions differ, and the call is not accepted
stale :
    shown (begin 1 ++ copy 1 ++ answer 1 (Add 0 5) ++ lock 1 1 ++ begin 2 ++ copy 2 ++ TakeGate 1 0 ∷ finish 1 1 ++ answer 2 (Get 0)
    ++ asks 2 AskAbort ++ steps 2 1)
    ≡ record { history = (1, (Add 0 5, 0) ∷ []) ∷ []; aborted = (2, []) ∷ []; word = 0; part = 5; edition = 1; value = 1; gate = None }
unfolding lookup put with_entry locations comes_before insert insert_commit
stale = refl

-- a gate that another holds is not taken, so nothing is copied and nothing accepted
gate_held :
    shown (begin 1 ++ begin 2 ++ TakeGate 1 0 ∷ copy 2 ++ answer 2 (Get 0) ++ asks 2 AskClose ++ steps 2 1)
    ≡ record { history = (0, []) ∷ []; aborted = []; word = 0; part = 0; edition = 0; value = 0; gate = Some 1 }
unfolding lookup put with_entry locations comes_before insert insert_commit
gate_held = refl

-- a commit aborted before its first value store leaves words and bases as they were
given_up :
    shown (begin 1 ++ copy 1 ++ answer 1 (Add 0 5) ++ asks 1 (AskWrite 0 7) ++ prepare 1 2
    ++ PutGate 1 0 (λ l. false) ∷ asks 1 AskCancel ++ steps 1 2 ++ asks 1 AskAbort ++ steps 1 1)
    ≡ record { history = []; aborted = (1, (Add 0 5, 0) ∷ []) ∷ []; word = 0; part = 0; edition = 0; value = 0; gate = None }
unfolding lookup put with_entry locations comes_before insert insert_commit
given_up = refl

-- a call is answered after the transaction's own calls, whose locations are not read anew
own_calls :
    shown (begin 1 ++ copy 1 ++ answer 1 (Add 0 5) ++ Accept 1 (Add 0 2) ∷ Accept 1 (Get 0) ∷ prepare 1 1 ++ finish 1 1)
    ≡ record {
      history = (1, (Add 0 5, 0) ∷ (Add 0 2, 5) ∷ (Get 0, 7) ∷ []) ∷ [];
      aborted = [];
      word = 0;
      part = 7;
      edition = 1;
      value = 1;
      gate = None;
    }
unfolding lookup put with_entry locations comes_before insert insert_commit
own_calls = refl

-- no value is stored before the gate is held, no lock released before the base is home, and the changes are made once
guards :
    shown (begin 1 ++ copy 1 ++ answer 1 (Add 0 5) ++ lock 1 1 ++ asks 1 AskStore ++ steps 1 1 ++ TakeGate 1 0 ∷ asks 1 AskStore
    ++ steps 1 1
    ++ asks 1 AskRelease ++ steps 1 1 ++ GoHome 1 0 ∷ TakeGate 1 0 ∷ GoHome 1 0 ∷ asks 1 AskRelease ++ steps 1 1)
    ≡ record { history = (1, (Add 0 5, 0) ∷ []) ∷ []; aborted = []; word = 0; part = 5; edition = 1; value = 1; gate = None }
unfolding lookup put with_entry locations comes_before insert insert_commit
guards = refl

-- each transaction begins with no calls of the one before
begins_anew :
    shown (begin 1 ++ copy 1 ++ answer 1 (Add 0 5) ++ asks 1 AskAbort ++ steps 1 1 ++ begin 1 ++ copy 1 ++ answer 1 (Get 0)
    ++ asks 1 AskClose ++ steps 1 1)
    ≡ record {
      history = (0, (Get 0, 0) ∷ []) ∷ [];
      aborted = (1, (Add 0 5, 0) ∷ []) ∷ [];
      word = 0;
      part = 0;
      edition = 0;
      value = 0;
      gate = None;
    }
unfolding lookup put with_entry locations comes_before insert insert_commit
begins_anew = refl

abbrev begin_read : ℕ → List (Action Op)
begin_read a = asks a AskBeginRead ++ steps a 1

-- a declared reader loads the location of each call, and no call of its is accepted that writes
declared :
    shown (begin_read 1 ++ copy 1 ++ answer 1 (Get 0) ++ answer 1 (Add 0 5) ++ answer 1 (Get 0) ++ asks 1 AskClose ++ steps 1 1)
    ≡ record { history = (0, (Get 0, 0) ∷ (Get 0, 0) ∷ []) ∷ []; aborted = []; word = 0; part = 0; edition = 0; value = 0; gate = None }
unfolding lookup put with_entry locations comes_before insert insert_commit
declared = refl

-- once another has committed there, it is moved
declared_moved :
    shown (begin_read 1 ++ copy 1 ++ answer 1 (Get 0) ++ begin 2 ++ copy 2 ++ answer 2 (Add 0 5) ++ prepare 2 1 ++ finish 2 1
    ++ answer 1 (Get 0) ++ asks 1 AskAbort ++ steps 1 1)
    ≡ record {
      history = (1, (Add 0 5, 0) ∷ []) ∷ [];
      aborted = (1, (Get 0, 0) ∷ []) ∷ [];
      word = 0;
      part = 5;
      edition = 1;
      value = 1;
      gate = None;
    }
unfolding lookup put with_entry locations comes_before insert insert_commit
declared_moved = refl

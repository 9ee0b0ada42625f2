-- A program of calls: each next call may depend on the replies so far.
use Rattle.std.specs.Prelude.{◌≡◌, ◌<◌, ℕ, List, [], ◌∷◌, length, map, take, get_or, Option, Some, None, option_and_then}
use Rattle.seq_model.specs.declared.call.Call.{Call}
use Rattle.seq_model.specs.declared.call.Reply.{Reply}
use Rattle.seq_model.specs.Contents.{Contents, call_of}
use Rattle.seq_model.specs.declared.job.Ask.{Ask}
use Rattle.seq_model.specs.declared.job.Ask.TheVariants as ask

pub data Program (V A : Type 0) : Type 0 where
  Asks : Call V → (Reply V → Program V A) → Program V A
  Answers : A → Program V A
  GivesUp : Program V A

-- what is left of a program after these replies
abbrev pub after : {V A : Type 0} → Program V A → List (Reply V) → Program V A
after (Asks call next) [] = Asks call next
after (Asks call next) (reply ∷ replies) = after (next reply) replies
after (Answers a) replies = Answers a
after GivesUp replies = GivesUp

-- what a job asks of which this is left
abbrev pub asked : {V A : Type 0} → Program V A → Ask V
asked (Asks call next) = ask.Call call
asked (Answers a) = ask.Done
asked GivesUp = ask.GiveUp

-- a run to the end: the answer, and what the calls leave. There is none where a call is refused, or the program aborts
abbrev pub run : {V A : Type 0} → Program V A → Contents V → Option (A × Contents V)
run (Asks call next) s = option_and_then (λ r. run (next r.0) r.1) (call_of call s)
run (Answers a) s = Some (a, s)
run GivesUp s = None

-- the calls are those that the program asks, and q is left of it after their replies
abbrev pub Follows : {V A : Type 0} → Program V A → List (Call V × Reply V) → Program V A → Type 0
Follows p [] q = p ≡ q
Follows (Asks call next) (c ∷ cs) q = (c.0 ≡ call) × Follows (next c.1) cs q
Follows (Answers a) (c ∷ cs) q = ⊥
Follows GivesUp (c ∷ cs) q = ⊥

abbrev pub replies_of : {V : Type 0} → List (Call V × Reply V) → List (Reply V)
replies_of calls = map (λ c. c.1) calls

-- each of these calls is the one that the program asks after the replies before it
abbrev pub AreAsked : {V A : Type 0} → Program V A → List (Call V × Reply V) → Type 0
AreAsked {V} p calls = (i : ℕ) (d : Call V × Reply V) → i < length calls
    → asked (after p (replies_of (take i calls))) ≡ ask.Call (get_or calls i d).0

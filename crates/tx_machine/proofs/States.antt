-- Collections as states, whose parts a view shows. What the machine promises of parts it then promises of states: each reply is the
-- sequential one.
use Rattle.std.specs.Prelude.{◌≡◌, ℕ, List, [], ◌∷◌, nat_le, if◌then◌else◌}
use Rattle.tx_machine.specs.Content.{Content}
use Rattle.tx_machine.specs.Boosted.{Committed}

-- Sequential collections: what a call leaves and replies, and of which call an outcome is, with which reply.
pub record Sequential (Op Out S R : Type 0) : Type 0 where
  pub op_of : Out → Op
  pub reply_of : Out → R
  pub next : S → Op → S
  pub reply : S → Op → R

module _ {Op Out S R : Type 0} (q : Sequential Op Out S R) where
  abbrev pub after_calls : S → List Out → S
  after_calls s [] = s
  after_calls s (o ∷ os) = after_calls (q.next s (q.op_of o)) os

  -- each reply is the sequential one
  abbrev pub AreReplies : S → List Out → Type 0
  AreReplies s [] = Unit {0}
  AreReplies s (o ∷ os) = (q.reply_of o ≡ q.reply s (q.op_of o)) × AreReplies (q.next s (q.op_of o)) os

  -- one whole transaction after another
  abbrev pub after_all : S → List (Committed Out) → S
  after_all s [] = s
  after_all s (r ∷ rs) = after_all (after_calls s r.outcomes) rs

  abbrev pub AreAll : S → List (Committed Out) → Type 0
  AreAll s [] = Unit {0}
  AreAll s (r ∷ rs) = AreReplies s r.outcomes × AreAll (after_calls s r.outcomes) rs

  -- the state after the commits with a number of at most n
  abbrev pub state_at : List (Committed Out) → ℕ → S → S
  state_at [] n s = s
  state_at (r ∷ rs) n s = state_at rs n (if nat_le r.word.number n then after_calls s r.outcomes else s)

-- How the parts of a content show them, where a state fits the content.
pub record Model {X Op Out S R : Type 0} (c : Content X Op Out) (q : Sequential Op Out S R) (Fits : S → Type 0) : Type 0 where
  pub shown : S → ℕ → X
  pub asked : (o : Out) → c.op_of o ≡ q.op_of o
  pub keeps : (s : S) (op : Op) → Fits s → Fits (q.next s op)
  -- at the view of a state an outcome has the state's reply, and its changes show the state after
  pub replies : (s : S) (op : Op) → Fits s → q.reply_of (c.outcome (shown s) op) ≡ q.reply s op
  pub shows : (s : S) (op : Op) (l : ℕ) → Fits s → c.change (c.outcome (shown s) op) (shown s) l ≡ shown (q.next s op) l

-- What a handle's call is: the calls of the table that are made for it, and what they mean for the whole collection, however that lies.
use Rattle.std.specs.Prelude.{◌≡◌, ℕ, ◌+◌, ◌++◌, List, [], ◌∷◌, length, sum, Option, Some}
use Rattle.std.specs.Ordering.{nat_cmp}
use Rattle.std.specs.FinMap.{FinMap}
use Rattle.seq_model.specs.declared.call.Call.{Call}
use Rattle.seq_model.specs.declared.call.Op.{Op}
use Rattle.seq_model.specs.declared.call.Reply.{Reply}
use Rattle.seq_model.specs.declared.call.Op.TheVariants as ops
use Rattle.seq_model.specs.declared.call.Reply.TheVariants as replies
use Rattle.seq_model.specs.declared.held.Held.{Held}
use Rattle.seq_model.specs.declared.held.Held.TheVariants as held
use Rattle.seq_model.specs.Calls.{map_call, multiset_call}
use Rattle.seq_model.specs.Contents.{Contents}
use Rattle.seq_model.specs.Runs.{IsLegal, after_calls}
use Rattle.tx_handles.specs.declared.bags.Bag.{Bag}
use Rattle.tx_handles.specs.declared.gates.Gates.{Gates}
use Rattle.tx_handles.specs.declared.maps.Map.{Map}
use Rattle.tx_handles.specs.Gates.{AreSameBeside, LieOver, place_of}
use Rattle.tx_handles.specs.MadeCall.{HasMade, TransactionShown}

module _ {V : Type 0} where
  -- A handle of a store with this number is one of the transaction's store, and the transaction has made calls more, of which this holds.
  pub record HasMadeMore (Are : List (Call V × Reply V) → Type 0) (before : TransactionShown V) (store : ℕ) (now : TransactionShown V)
      : Type 0 where
    pub own : before.store ≡ store
    pub more : List (Call V × Reply V)
    pub made : now ≡ record { store = before.store; calls = before.calls ++ more }
    pub are : Are more

  -- Len of the collections from this number on, which have so many keys or items each.
  abbrev pub len_calls : ℕ → List ℕ → List (Call V × Reply V)
  len_calls first [] = []
  len_calls first (count ∷ counts) = (record { target = first; op = ops.Len }, replies.Number count) ∷ len_calls (first + 1) counts

  -- All these collections were asked for their numbers of keys or items, whose sum this is.
  pub record AreSummed (g : Gates) (total : ℕ) (calls : List (Call V × Reply V)) : Type 0 where
    pub counts : List ℕ
    pub all : length counts ≡ g.others + 1
    pub is_sum : total ≡ sum counts
    pub made : calls ≡ len_calls g.first counts

  abbrev pub HasSummed : TransactionShown V → ℕ → Gates → ℕ → TransactionShown V → Type 0
  HasSummed before store g total now = HasMadeMore (AreSummed g total) before store now

  module _ {X : Type 0} (kind : FinMap nat_cmp X → Held V) (call : FinMap nat_cmp X → Option (Reply V × FinMap nat_cmp X)) (g : Gates) where
    -- From one state to another, the call on the whole collection, which was u, has this reply. Its words and all other collections are
    -- the same.
    pub record IsCallOn (u : FinMap nat_cmp X) (reply : Reply V) (s t : Contents V) : Type 0 where
      pub after : FinMap nat_cmp X
      pub answers : call u ≡ Some (reply, after)
      pub lie : LieOver kind g after t.held
      pub same : AreSameBeside g s t

    -- These calls are one call of the whole collection: wherever they have these replies, it has this one.
    abbrev pub AreOneCall : Reply V → List (Call V × Reply V) → Type 0
    AreOneCall reply calls = (s : Contents V) (u : FinMap nat_cmp X) → LieOver kind g u s.held → IsLegal calls s
        → IsCallOn u reply s (after_calls calls s)

    -- The transaction has made just this call more, on the one of the collections that has the key. It is one call of the whole collection.
    pub record HasMadeAt (key : ℕ) (op : Op V) (reply : Reply V) (before : TransactionShown V) (store : ℕ) (now : TransactionShown V) :
        Type 0 where
      pub made : HasMade before store (g.first + place_of g key) op reply now
      pub means : AreOneCall reply ((record { target = g.first + place_of g key; op = op }, reply) ∷ [])

  -- the call of a map, or of a multiset, for this key has this reply
  abbrev pub MapAnswers : TransactionShown V → Map V → ℕ → Op V → Reply V → TransactionShown V → Type 0
  MapAnswers before m key op reply now = HasMadeAt held.Map (map_call op) m.gates key op reply before m.store now

  abbrev pub BagAnswers : TransactionShown V → Bag → ℕ → Op V → Reply V → TransactionShown V → Type 0
  BagAnswers before b key op reply now = HasMadeAt held.Bag (multiset_call op) b.gates key op reply before b.store now

  -- so many keys are in a map: Len was made of each of its collections, once
  pub record MapCounts (before : TransactionShown V) (m : Map V) (total : ℕ) (now : TransactionShown V) : Type 0 where
    pub made : HasSummed before m.store m.gates total now
    pub means : AreOneCall held.Map (map_call ops.Len) m.gates (replies.Number total) made.more

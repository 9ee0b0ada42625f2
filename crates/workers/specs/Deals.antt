-- Items that are dealt out in turn.
use Rattle.std.specs.Prelude.{◌≡◌, ◌⊎◌, ◌+◌, ◌-◌, ◌<◌, ℕ, zero, suc, List, [], ◌∷◌, get_or, length, map}
use Rattle.std.specs.declared.alloc.Global.{Global}
use Rattle.std.specs.declared.vec.Vec.{Vec}
use Rattle.std.specs.declared.collections.vec_deque.VecDeque.{VecDeque}

-- whose turn comes after this one's, of n
abbrev pub IsNext : ℕ → ℕ → ℕ → Type 0
IsNext n turn next = ((turn + 1 < n) × (next ≡ turn + 1)) ⊎ ((turn + 1 ≡ n) × (next ≡ 0))

-- how many of so many items stand after the first k, every n-th being counted
abbrev pub shares : ℕ → ℕ → ℕ → ℕ
shares n k zero = 0
shares n zero (suc more) = suc (shares n (n - 1) more)
shares n (suc k) (suc more) = shares n k more

module _ {A : Type 0} where
  -- after the first k items every n-th one
  abbrev pub every : ℕ → ℕ → List A → List A
  every n k [] = []
  every n zero (x ∷ xs) = x ∷ every n (n - 1) xs
  every n (suc k) (x ∷ xs) = every n k xs

  -- n lists, to which these items were dealt out in turn, the first to the first list
  pub record AreDealt (n : ℕ) (items : List A) (lists : List (List A)) : Type 0 where
    pub many : length lists ≡ n
    pub each : (k : ℕ) → k < n → get_or lists k [] ≡ every n k items

  -- what the lists have
  abbrev pub in_lists : List (Vec A Global) → List (List A)
  in_lists lists = map (λ list. list.items) lists

  abbrev pub in_queues : List (VecDeque A Global) → List (List A)
  in_queues queues = map (λ queue. queue.items) queues

-- each of n lists is as long as if so many items had been dealt out to them
pub record AreDealtLike {A : Type 0} (n total : ℕ) (lists : List (List A)) : Type 0 where
  pub many : length lists ≡ n
  pub each : (k : ℕ) → k < n → length (get_or lists k []) ≡ shares n k total

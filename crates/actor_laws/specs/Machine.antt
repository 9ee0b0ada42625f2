-- What an actor has of its own in the machine of words and collections, and what its actions find there.
use Rattle.std.specs.Prelude.{◌≡◌, ℕ, false, Some}
use Rattle.tx_machine.specs.World.{World, Ask, Step, plan}
use Rattle.tx_machine.specs.Cells.{Cell, cell, word_of}
use Rattle.tx_machine.specs.Content.{Content}
use Rattle.tx_machine.specs.Boosted.{Boosted, Action, OnWords, TakeGate, PutGate, Accept, GoHome, is_actor, is_none}

-- Two machines are alike to actor a: its record, its shadow, the gates that it holds, and the opening are the same.
pub record AlikeBelow {X Out : Type 0} (a : ℕ) (s t : Boosted X Out) : Type 0 where
  pub actor : s.words.actors a ≡ t.words.actors a
  pub shadow : s.shadows a ≡ t.shadows a
  pub gates : (k : ℕ) → is_actor a (s.gates k) ≡ is_actor a (t.gates k)
  pub opening : s.opening ≡ t.opening
  pub first : s.first ≡ t.first

-- the word that the next step of a touches has one number in both
abbrev pub SameWord : ℕ → World → World → Type 0
SameWord a s t = (c : Cell) → word_of (plan (s.actors a) (s.actors a).place) ≡ Some c → cell s c ≡ cell t c

-- collection k has the same parts and editions in both
abbrev pub SameBase : {X Op Out : Type 0} → Content X Op Out → ℕ → Boosted X Out → Boosted X Out → Type 0
SameBase c k s t = (l : ℕ) → c.plain l ≡ false → c.home l ≡ k → (s.parts l ≡ t.parts l) × (s.editions l ≡ t.editions l)

-- An action of a finds the same in both: the word of a step, whether a gate is free, the base that is copied. What is put back is not
-- looked at.
abbrev pub FindsBelow : {X Op Out : Type 0} → Content X Op Out → ℕ → Boosted X Out → Boosted X Out → Action Op → Type 0
FindsBelow c a s t (OnWords (Ask b q)) = b ≡ a
FindsBelow c a s t (OnWords (Step b)) = (b ≡ a) × SameWord a s.words t.words
FindsBelow c a s t (TakeGate b k) = (b ≡ a) × (is_none (s.gates k) ≡ is_none (t.gates k))
FindsBelow c a s t (PutGate b k which) = (b ≡ a) × SameBase c k s t
FindsBelow c a s t (Accept b op) = b ≡ a
FindsBelow c a s t (GoHome b k) = b ≡ a

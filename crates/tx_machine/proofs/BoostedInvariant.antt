-- What holds of a world with collections after every schedule. The key is that a part is known by its edition: wherever the
-- history has that edition at the location, the part is this one. Bases, copies, records and aborted transactions are all said
-- by it.
use Rattle.std.proofs.Common.{◌≡◌, ℕ, ◌+◌, ◌≤◌, true, false, Some, None, List, [], ◌∷◌}
use Rattle.tx_sets.specs.Entries.{Entries, lookup}
use Rattle.tx_machine.specs.Actor.{Call, Place, First, Release}
use Rattle.tx_machine.specs.Opacity.{IsHalfDone, first_read}
use Rattle.tx_machine.proofs.Editions.{IsEdition}
use Rattle.tx_machine.proofs.Records.{finals, base}
use Rattle.tx_machine.proofs.Invariant.{Good}
use Rattle.tx_machine.proofs.Invariant as machine
use Rattle.tx_machine.specs.Content.{Content}
use Rattle.tx_machine.specs.Boosted.{Committed, Shadow, Boosted, changes}
use Rattle.tx_machine.specs.Serial.{words, ended, views, AreLegal, IsRead, IsWritten, does_write, AllAborted}
use Rattle.tx_machine.proofs.Calls.{touched}
use Rattle.tx_machine.proofs.Parts.{Untouched, AllFit}
use Rattle.tx_machine.proofs.Views.{Knows}

-- A part of the history, by its edition: wherever the location has this edition, its part is this one.
pub record Known {X Op Out : Type 0} (c : Content X Op Out) (s : Boosted X Out) (l e : ℕ) (p : X) : Type 0 where
  pub plain : c.plain l ≡ false
  pub past : e ≤ finals (words s.history) l (s.first l)
  pub knows : Knows c s.history s.first s.opening l e p

-- The outcomes are legal at the parts of number n, now and at every later moment.
pub record SawParts {X Op Out : Type 0} (c : Content X Op Out) (s : Boosted X Out) (n : ℕ) (os : List Out) : Type 0 where
  pub parts : ℕ → X
  pub editions : ℕ → ℕ
  pub known : (l : ℕ) → IsRead c l os → Known c s l (editions l) (parts l)
  pub good : (l : ℕ) → IsRead c l os → Good s.words n l (editions l)
  pub legal : (v : ℕ → X) → ((l : ℕ) → IsRead c l os → v l ≡ parts l) → AreLegal c v os

-- What a transaction has, by its sets.
pub record ShadowOk {X Op Out : Type 0} (c : Content X Op Out) (s : Boosted X Out) (calls : List Call) (writes : Entries)
    (w : Shadow X Out) : Type 0 where
  pub known : (l : ℕ) → w.copied l ≡ true → Known c s l (w.editions l) (w.parts l)
  pub sets : (l : ℕ) → IsRead c l w.outcomes → (w.copied l ≡ true) × (first_read calls l ≡ Some (w.editions l))
  pub wrote : (l u : ℕ) → c.plain l ≡ false → lookup writes l ≡ Some u → (u ≡ w.editions l + 1) × IsRead c l w.outcomes
      × IsWritten c l w.outcomes
  pub fits : (l : ℕ) → lookup writes l ≡ None → Untouched c l w.outcomes
  pub legal : (v : ℕ → X) → ((l : ℕ) → IsRead c l w.outcomes → v l ≡ w.parts l) → AreLegal c v w.outcomes

abbrev pub IsFirst : Place → Type 0
IsFirst First = Unit {0}
IsFirst p = ⊥

abbrev pub IsRelease : Place → Type 0
IsRelease Release = Unit {0}
IsRelease p = ⊥

-- All gates are held before the commit, and none any more at the releases.
pub record GatesOk {X Op Out : Type 0} (c : Content X Op Out) (s : Boosted X Out) (a : ℕ) (writes : Entries) (p : Place) : Type 0 where
  pub taken : IsFirst p → (l u : ℕ) → c.plain l ≡ false → lookup writes l ≡ Some u → s.gates (c.home l) ≡ Some a
  pub given : IsRelease p → (l u : ℕ) → c.plain l ≡ false → lookup writes l ≡ Some u → s.gates (c.home l) ≡ Some a → ⊥

-- no half-done commit that writes l has the gate
abbrev pub IsHome : {X Op Out : Type 0} → Content X Op Out → Boosted X Out → ℕ → Type 0
IsHome c s l = (a : ℕ) → IsHalfDone (s.words.actors a).place → s.gates (c.home l) ≡ Some a → lookup (s.words.actors a).writes l ≡ None

abbrev pub AllCommitted : {Out : Type 0} → (Committed Out → Type 0) → List (Committed Out) → Type 0
AllCommitted P [] = Unit {0}
AllCommitted P (r ∷ rs) = P r × AllCommitted P rs

-- a location of a collection is written by the words where an outcome writes it
abbrev pub Exact : {X Op Out : Type 0} → Content X Op Out → Committed Out → Type 0
Exact c r = (l : ℕ) → c.plain l ≡ false → touched r.word.calls l ≡ does_write c l r.outcomes

pub record Inv {X Op Out : Type 0} (c : Content X Op Out) (s : Boosted X Out) : Type 0 where
  pub machine : machine.Inv s.words
  pub first : s.words.opening ≡ s.first
  pub same : words s.history ≡ s.words.history
  pub ends : ended s.aborted ≡ s.words.aborted
  pub fits : AllFit c s.history
  pub exact : AllCommitted (Exact c) s.history
  pub edition : (l : ℕ) → c.plain l ≡ false → IsEdition (words s.history) l (s.first l)
  -- what a base holds is what the history had at its edition
  pub known : (l : ℕ) → c.plain l ≡ false → Known c s l (s.editions l) (s.parts l)
  -- it is what the history leaves, but for the changes of a commit that has the gate
  pub at_home : (l : ℕ) → c.plain l ≡ false → IsHome c s l → (views c s.history s.opening l ≡ s.parts l)
      × (finals (words s.history) l (s.first l) ≡ s.editions l)
  pub owed : (a l u : ℕ) → c.plain l ≡ false → IsHalfDone (s.words.actors a).place → s.gates (c.home l) ≡ Some a
      → lookup (s.words.actors a).writes l ≡ Some u
      → (views c s.history s.opening l ≡ changes c (s.shadows a).outcomes s.parts l)
      × (finals (words s.history) l (s.first l) ≡ s.editions l + 1)
  pub shadows : (a : ℕ) → ShadowOk c s (s.words.actors a).calls (s.words.actors a).writes (s.shadows a)
  pub gates : (a : ℕ) → GatesOk c s a (s.words.actors a).writes (s.words.actors a).place
  pub records : AllCommitted (λ r. SawParts c s (base r.word.writer r.word.number) r.outcomes) s.history
  pub aborted : AllAborted (λ e. SawParts c s e.word.rv e.outcomes) s.aborted

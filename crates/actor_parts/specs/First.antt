-- The first copy of a collection, by what was found of it for a call.
use Rattle.std.specs.Prelude.{◌≡◌, ℕ, ◌<◌, [], None}
use Rattle.std.specs.FinMap.{empty}
use Rattle.seq_model.specs.declared.call.Op.{Op}
use Rattle.conflict.specs.RoomMap.{Room}
use Rattle.replay_log.specs.declared.base.Base.{Base}
use Rattle.replay_log.specs.declared.touch.Touch.{Touch}
use Rattle.replay_log.specs.declared.touch.TouchedKey.{TouchedKey}
use Rattle.replay_log.specs.declared.touch.TouchedKey.TheVariants as touched
use Rattle.replay_log.specs.Base.{shown_of, stripes_of}
use Rattle.replay_log.specs.Contents.{Block}
use Rattle.actor_laws.specs.Bases.{IsBaseOf}
use Rattle.shadow.specs.Memo.{MemoView, shape}
use Rattle.shadow.specs.declared.memo.MemoKind.{MemoKind}
use Rattle.shadow.specs.declared.memo.MemoKind.TheVariants as kind
use Rattle.actor_parts.specs.declared.copies.PrivateCopy.{PrivateCopy}
use Rattle.actor_parts.specs.declared.copies.PrivateCopy.TheVariants.{Keys, Whole}
use Rattle.actor_parts.specs.declared.copies.BaseExcerpt.{BaseExcerpt}
use Rattle.actor_parts.specs.declared.copies.BaseExcerpt.TheVariants as found
use Rattle.actor_parts.specs.PrivateCopy.{IsFound, IsLearnt, IsOf}

-- a memo of so many stripes, with no key
pub record IsBlank {V : Type 0} (n : ℕ) (k : MemoKind) (m : MemoView V) : Type 0 where
  pub blank : shown_of m.blank ≡ shape k
  pub stripes : stripes_of m.blank ≡ n
  pub entries : m.entries ≡ empty
  pub copies : m.copies ≡ empty
  pub total : m.total ≡ None
  pub grown : m.grown ≡ 0
  pub shrunk : m.shrunk ≡ 0
  pub changes : m.changes ≡ []
  pub locations : m.locations ≡ []

-- the kind of the collection that was touched
abbrev pub memo_kind : {V : Type 0} → TouchedKey V → MemoKind
memo_kind (touched.Copies x c) = kind.Bag
memo_kind t = kind.Map

-- what was touched of a map or a multiset in n stripes, learnt by a blank memo
pub record IsFirstTouch {V : Type 0} (n : ℕ) (t : Touch V) (c : PrivateCopy V) : Type 0 where
  pub memo : MemoView V
  pub editions : Room ℕ
  pub blank : IsBlank n (memo_kind t.held) memo
  pub none : editions.contents ≡ empty
  pub learnt : IsLearnt t (Keys memo editions) c

module _ {V : Type 0} where
  abbrev pub IsFirst : ℕ → BaseExcerpt V → PrivateCopy V → Type 0
  IsFirst n (found.Keys t) c = IsFirstTouch n t c
  IsFirst n (found.Whole copy) (Whole s) = (s.base ≡ copy.base) × (s.changes ≡ []) × (s.locations ≡ [])
  IsFirst n (found.Whole copy) c = ⊥

-- The first copy of what was found of a base is of what the base shows, with no accepted call.
abbrev pub FirstCopies : Type 0 → Type 0
FirstCopies V =
    (b : Block) (base : Base V) (op : Op V) (f : BaseExcerpt V) (c : PrivateCopy V) → 0 < b.stripes → IsBaseOf b base → IsFound base op f
    → IsFirst b.stripes f c → IsOf b (shown_of base) [] [] c

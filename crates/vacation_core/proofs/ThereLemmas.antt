-- A world that opens on the state of tables has a word, five maps and three queues, so there is what each call of a session asks of.
use Rattle.std.proofs.Common.{◌≡◌, ℕ, zero, suc, ◌<◌, ◌≤◌, true, false, not, List, [], ◌∷◌, Option, Some, None, refl, sym, ◌∙◌, ap, subst}
use Rattle.std.proofs.Common.{arith}
use Rattle.std.specs.FinMap.{empty}
use Rattle.seq_model.specs.declared.call.Op.{Op}
use Rattle.seq_model.specs.declared.call.Op.TheVariants.{Read, Write, Get, Put, Remove, Enqueue, Dequeue, Peek}
use Rattle.seq_model.specs.declared.held.Held.{Held}
use Rattle.replay_log.specs.Base.{OfMap, outcome_of}
use Rattle.replay_log.specs.Collections.{Suit, kind_of_held}
use Rattle.replay_log.specs.Contents.{Block, block_of}
use Rattle.replay_log.specs.Parts.{Kind, MapKind, QueueKind, whole}
use Rattle.replay_log.specs.Worlds.{World, is_known, is_missing}
use Rattle.actor_laws.specs.Alone.{IsThere}
use Rattle.client_sessions.specs.declared.entry.Entry.{Entry}
use Rattle.vacation_core.specs.Costs.{IsOn}

-- ---- the kinds of a world's collections
abbrev pub AreKinds : List Kind → List Block → Type 0
AreKinds [] [] = Unit {0}
AreKinds (k ∷ ks) (b ∷ bs) = (k ≡ b.kind) × AreKinds ks bs
AreKinds ks bs = ⊥

abbrev pub kinds_of : List (Held Entry) → List Kind
kinds_of [] = []
kinds_of (h ∷ hs) = kind_of_held h ∷ kinds_of hs

pub suit_kinds : (bs : List Block) (hs : List (Held Entry)) → Suit bs hs → AreKinds (kinds_of hs) bs
suit_kinds [] [] s = tt
suit_kinds (b ∷ bs) (h ∷ hs) s = (s.0, suit_kinds bs hs s.2)
suit_kinds [] (h ∷ hs) s = absurd s
suit_kinds (b ∷ bs) [] s = absurd s

-- those of the tables
abbrev pub of_tables : List Kind
of_tables = MapKind ∷ MapKind ∷ MapKind ∷ MapKind ∷ MapKind ∷ QueueKind ∷ QueueKind ∷ QueueKind ∷ []

-- the kind at a place
abbrev kind_at : List Kind → ℕ → Option Kind
kind_at [] t = None
kind_at (k ∷ ks) zero = Some k
kind_at (k ∷ ks) (suc t) = kind_at ks t

map_kind : (t : ℕ) → t < 5 → kind_at of_tables t ≡ Some MapKind
map_kind zero lt = refl
map_kind (suc zero) lt = refl
map_kind (suc (suc zero)) lt = refl
map_kind (suc (suc (suc zero))) lt = refl
map_kind (suc (suc (suc (suc zero)))) lt = refl
map_kind (suc (suc (suc (suc (suc t))))) lt = absurd (omega (arith, lt))

queue_kind : (t : ℕ) → 5 ≤ t → t < 8 → kind_at of_tables t ≡ Some QueueKind
queue_kind (suc (suc (suc (suc (suc zero))))) le lt = refl
queue_kind (suc (suc (suc (suc (suc (suc zero)))))) le lt = refl
queue_kind (suc (suc (suc (suc (suc (suc (suc zero))))))) le lt = refl
queue_kind t le lt = absurd (omega (arith, le, lt))

-- ---- what is at a place answers the calls of its kind
block_at : (ks : List Kind) (bs : List Block) (t : ℕ) (k : Kind) → AreKinds ks bs → kind_at ks t ≡ Some k
    → (b : Block) × (block_of bs t ≡ Some b) × (k ≡ b.kind)
block_at [] bs t k are at = absurd (let no : None ≡ Some k = at in cc)
block_at (j ∷ ks) [] t k are at = absurd are
block_at (j ∷ ks) (b ∷ bs) zero k are at = (b, refl, (let same : k ≡ j = cc in same) ∙ are.0)
block_at (j ∷ ks) (b ∷ bs) (suc t) k are at = block_at ks bs t k are.1 at

known_at : (bs : List Block) (t : ℕ) (op : Op Entry) (k : Kind) → AreKinds of_tables bs → kind_at of_tables t ≡ Some k
    → ((n : ℕ) → is_missing (outcome_of op (whole n k (λ i. OfMap empty))) ≡ false) → is_known (block_of bs t) op ≡ true
known_at bs t op k are at is =
    let b = block_at of_tables bs t k are at in
    subst (λ (o : Option Block). is_known o op ≡ true) (sym b.1)
    (subst (λ (j : Kind). not (is_missing (outcome_of op (whole b.0.stripes j (λ i. OfMap empty)))) ≡ true) b.2 (ap not (is b.0.stripes)))

-- each call of a session has what it asks of, in a world with one word and these kinds of collections
pub there : (w : World Entry) (op : Op Entry) (t : ℕ) → w.words ≡ 1 → AreKinds of_tables w.blocks → IsOn op t → IsThere w t op
there w Read t one are on = omega (arith, one, on)
there w (Write v) t one are on = omega (arith, one, on)
there w (Get k) t one are on = known_at w.blocks t (Get k) MapKind are (map_kind t on) (λ n. refl)
there w (Put k v) t one are on = known_at w.blocks t (Put k v) MapKind are (map_kind t on) (λ n. refl)
there w (Remove k) t one are on = known_at w.blocks t (Remove k) MapKind are (map_kind t on) (λ n. refl)
there w (Enqueue x) t one are on = known_at w.blocks t (Enqueue x) QueueKind are (queue_kind t on.0 on.1) (λ n. refl)
there w Dequeue t one are on = known_at w.blocks t Dequeue QueueKind are (queue_kind t on.0 on.1) (λ n. refl)
there w Peek t one are on = known_at w.blocks t Peek QueueKind are (queue_kind t on.0 on.1) (λ n. refl)
there w op t one are on = absurd on

-- The lines of a script, as their tokens.
use Rattle.std.specs.Prelude.{◌≡◌, ◌⊎◌, ℕ, ◌<◌, List, [], ◌∷◌, length, codes, Option, Some, None, ⊤}
use Rattle.std.specs.Ordering.{nat_cmp}
use Rattle.std.specs.FinMap as map
use Rattle.seq_model.specs.declared.held.Held.{Held}
use Rattle.seq_model.specs.declared.held.Held.TheVariants.{Map, Bag, Pq, Queue}
use Rattle.text_formats.specs.declared.script.Collection.{Collection}
use Rattle.text_formats.specs.declared.script_line.ScriptLine.{ScriptLine}
use Rattle.text_formats.specs.declared.script_line.ScriptLine.TheVariants as line
use Rattle.text_formats.specs.ScriptTokens.{IsPair, narrowed}
use Rattle.text_formats.specs.Tokens.{IsNumber}
use Rattle.text_formats.specs.Events.{IsEvent}

abbrev pub AreNumbers : List (List ℕ) → List ℕ → Type 0
AreNumbers [] [] = ⊤
AreNumbers (token ∷ tokens) (n ∷ ns) = IsNumber token n × AreNumbers tokens ns
AreNumbers tokens ns = ⊥

-- a key is above the one before it, if there is one
abbrev pub IsAbove : Option ℕ → ℕ → Type 0
IsAbove None key = ⊤
IsAbove (Some last) key = last < key

-- Pairs with rising keys, each fit for its kind, put into a map one after another: m is the map so far, and whole what it results in.
abbrev pub AreEntries : (ℕ × ℕ → Type 0) → Option ℕ → map.FinMap nat_cmp ℕ → List (List ℕ) → map.FinMap nat_cmp ℕ → Type 0
AreEntries IsFit last m [] whole = whole ≡ m
AreEntries IsFit last m (token ∷ tokens) whole =
    (p : ℕ × ℕ) × IsPair token p × IsFit p × IsAbove last p.0 × AreEntries IsFit (Some p.0) (map.insert m p.0 p.1) tokens whole

abbrev pub IsMap : List (List ℕ) → map.FinMap nat_cmp ℕ → Type 0
IsMap tokens m = AreEntries (λ p. ⊤) None map.empty tokens m

-- of each element there is a copy
abbrev pub IsMultiset : List (List ℕ) → map.FinMap nat_cmp ℕ → Type 0
IsMultiset tokens m = AreEntries (λ p. 0 < p.1) None map.empty tokens m

abbrev pub IsKind : List ℕ → Type 0
IsKind token = (token ≡ codes "map") ⊎ ((token ≡ codes "bag") ⊎ ((token ≡ codes "pq") ⊎ (token ≡ codes "queue")))

-- the kind of a collection, and what it holds; a queue opens with head 0
abbrev pub IsHeld : List ℕ → List (List ℕ) → Held ℕ → Type 0
IsHeld kind tokens (Map m) = (kind ≡ codes "map") × IsMap tokens m
IsHeld kind tokens (Bag m) = (kind ≡ codes "bag") × IsMultiset tokens m
IsHeld kind tokens (Pq m) = (kind ≡ codes "pq") × IsMultiset tokens m
IsHeld kind tokens (Queue head items) = (kind ≡ codes "queue") × (head ≡ 0) × AreNumbers tokens items

-- one beyond 32 bits is beyond each limit
abbrev pub IsStripes : List ℕ → ℕ → Type 0
IsStripes token stripes = (n : ℕ) × IsNumber token n × (stripes ≡ narrowed n)

abbrev pub IsCollection : List (List ℕ) → Collection → Type 0
IsCollection (kind ∷ stripes ∷ tokens) c = IsStripes stripes c.stripes × IsHeld kind tokens c.held
IsCollection tokens c = ⊥

abbrev pub IsWords : List (List ℕ) → List ℕ → Type 0
IsWords (word ∷ tokens) values = (word ≡ codes "words") × (0 < length tokens) × AreNumbers tokens values
IsWords [] values = ⊥

abbrev pub IsClock : List (List ℕ) → ℕ → Type 0
IsClock (word ∷ token ∷ []) clock = (word ≡ codes "clock") × IsNumber token clock
IsClock tokens clock = ⊥

abbrev pub IsLine : List (List ℕ) → ScriptLine → Type 0
IsLine tokens (line.Words values) = IsWords tokens values
IsLine tokens (line.Clock clock) = IsClock tokens clock
IsLine tokens (line.Holds collection) = IsCollection tokens collection
IsLine tokens (line.Event event) = IsEvent tokens event

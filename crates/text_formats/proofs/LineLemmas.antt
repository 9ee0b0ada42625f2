-- What the first token of a line says of it.
use Rattle.std.proofs.Common.{
  rules,
  arith,
  refl,
  inl,
  inr,
  sym,
  ◌∙◌,
  codes,
  ◌≡◌,
  ◌≢◌,
  ℕ,
  ◌≤◌,
  ◌∷◌,
  [],
  List,
  length,
  take,
  take_all,
  drop,
  ◌-◌,
  Bor,
  slice_index_or,
}
use Rattle.std.specs.Int.{IsInRange}
use Rattle.seq_model.specs.declared.held.Held.{Held}
use Rattle.seq_model.specs.declared.held.Held.TheVariants.{Map, Bag, Pq, Queue}
use Rattle.text_formats.specs.declared.script.EventLine.{EventLine}
use Rattle.text_formats.specs.declared.script.EventLine.TheVariants.{Ask, Do, Steps, Starve, Alternate}
use Rattle.text_formats.specs.declared.script.Collection.{Collection}
use Rattle.text_formats.specs.declared.script_line.ScriptLine.{ScriptLine}
use Rattle.text_formats.specs.declared.script_line.ScriptLine.TheVariants.{Words, Clock, Holds, Event}
use Rattle.text_formats.specs.Tokens.{texts}
use Rattle.text_formats.specs.Events.{IsActor, IsAlternation, IsEvent}
use Rattle.text_formats.specs.ScriptLines.{IsClock, IsCollection, IsHeld, IsKind, IsLine, IsWords, AreNumbers}
use Rattle.text_formats.proofs.NumberLemmas.{first_byte}
use lib.ListN.{get_or}

-- a word that is no number and not `alt` begins no event
no_alternation : (word : List ℕ) (rest : List (List ℕ)) (event : EventLine) → word ≢ codes "alt" → IsAlternation (word ∷ rest) event → ⊥
no_alternation word [] event differs is = elim is [ ]
no_alternation word (one ∷ []) event differs is = elim is [ ]
no_alternation word (one ∷ (other ∷ [])) (Ask a request) differs is = elim is [ ]
no_alternation word (one ∷ (other ∷ [])) (Do a request) differs is = elim is [ ]
no_alternation word (one ∷ (other ∷ [])) (Steps a n) differs is = elim is [ ]
no_alternation word (one ∷ (other ∷ [])) (Starve a) differs is = elim is [ ]
no_alternation word (one ∷ (other ∷ [])) (Alternate first second) differs is = differs is.0
no_alternation word (one ∷ (other ∷ (more ∷ rest))) event differs is = elim is [ ]

digit : (word : List ℕ) (actor : ℕ) → IsActor word actor → IsInRange 49 57 (get_or word 0 0)
digit word actor is = rw is.2 (first_byte actor (omega (arith, is.1)) is.0)

no_event : (word : List ℕ) (rest : List (List ℕ)) (event : EventLine) → word ≢ codes "alt" → (IsInRange 49 57 (get_or word 0 0) → ⊥)
    → IsEvent (word ∷ rest) event → ⊥
no_event word rest event not_alt letter (inl is) = no_alternation word rest event not_alt is
no_event word rest event not_alt letter (inr is) = letter (digit word is.0 is.1)

no_words : (word : List ℕ) (rest : List (List ℕ)) (values : List ℕ) → word ≢ codes "words" → IsWords (word ∷ rest) values → ⊥
no_words word rest values differs is = differs is.0

no_clock : (word : List ℕ) (rest : List (List ℕ)) (clock : ℕ) → word ≢ codes "clock" → IsClock (word ∷ rest) clock → ⊥
no_clock word [] clock differs is = elim is [ ]
no_clock word (token ∷ []) clock differs is = differs is.0
no_clock word (token ∷ (more ∷ rest)) clock differs is = elim is [ ]

kind_of : (word : List ℕ) (items : List (List ℕ)) (held : Held ℕ) → IsHeld word items held → IsKind word
kind_of word items (Map m) is = inl is.0
kind_of word items (Bag m) is = inr (inl is.0)
kind_of word items (Pq m) is = inr (inr (inl is.0))
kind_of word items (Queue head xs) is = inr (inr (inr is.0))

no_collection : (word : List ℕ) (rest : List (List ℕ)) (c : Collection) → (IsKind word → ⊥) → IsCollection (word ∷ rest) c → ⊥
no_collection word [] c differs is = elim is [ ]
no_collection word (stripes ∷ items) c differs is = differs (kind_of word items c.held is.1)

-- ---- what a first token is not
record Apart (word : List ℕ) : Type 0 where
  words : word ≢ codes "words"
  clock : word ≢ codes "clock"
  alt : word ≢ codes "alt"
  letter : IsInRange 49 57 (get_or word 0 0) → ⊥

kind_apart : (word : List ℕ) → IsKind word → Apart word
kind_apart word (inl e) = record {
  words = λ f. search (rules, sym e ∙ f);
  clock = λ f. search (rules, sym e ∙ f);
  alt = λ f. search (rules, sym e ∙ f);
  letter = λ d. omega (arith, rw e at d);
}
kind_apart word (inr (inl e)) = record {
  words = λ f. search (rules, sym e ∙ f);
  clock = λ f. search (rules, sym e ∙ f);
  alt = λ f. search (rules, sym e ∙ f);
  letter = λ d. omega (arith, rw e at d);
}
kind_apart word (inr (inr (inl e))) = record {
  words = λ f. search (rules, sym e ∙ f);
  clock = λ f. search (rules, sym e ∙ f);
  alt = λ f. search (rules, sym e ∙ f);
  letter = λ d. omega (arith, rw e at d);
}
kind_apart word (inr (inr (inr e))) = record {
  words = λ f. search (rules, sym e ∙ f);
  clock = λ f. search (rules, sym e ∙ f);
  alt = λ f. search (rules, sym e ∙ f);
  letter = λ d. omega (arith, rw e at d);
}

-- ---- lines
words_only : (word : List ℕ) (rest : List (List ℕ)) (line : ScriptLine) → word ≡ codes "words" → IsLine (word ∷ rest) line
    → (values : List ℕ) × (line ≡ Words values) × IsWords (word ∷ rest) values
words_only word rest (Words values) e is = (values, refl, is)
words_only word rest (Clock clock) e is = absurd (no_clock word rest clock (λ f. search (rules, sym e ∙ f)) is)
words_only word rest (Holds c) e is = absurd (no_collection word rest c (λ k. (kind_apart word k).words e) is)
words_only word rest (Event event) e is = absurd (no_event word rest event (λ f. search (rules, sym e ∙ f))
    (λ d. omega (arith, rw e at d)) is)

clock_only : (word : List ℕ) (rest : List (List ℕ)) (line : ScriptLine) → word ≡ codes "clock" → IsLine (word ∷ rest) line
    → (clock : ℕ) × (line ≡ Clock clock) × IsClock (word ∷ rest) clock
clock_only word rest (Words values) e is = absurd (no_words word rest values (λ f. search (rules, sym e ∙ f)) is)
clock_only word rest (Clock clock) e is = (clock, refl, is)
clock_only word rest (Holds c) e is = absurd (no_collection word rest c (λ k. (kind_apart word k).clock e) is)
clock_only word rest (Event event) e is = absurd (no_event word rest event (λ f. search (rules, sym e ∙ f))
    (λ d. omega (arith, rw e at d)) is)

collection_only : (word : List ℕ) (rest : List (List ℕ)) (line : ScriptLine) → IsKind word → IsLine (word ∷ rest) line
    → (c : Collection) × (line ≡ Holds c) × IsCollection (word ∷ rest) c
collection_only word rest (Words values) kind is = absurd (no_words word rest values (kind_apart word kind).words is)
collection_only word rest (Clock clock) kind is = absurd (no_clock word rest clock (kind_apart word kind).clock is)
collection_only word rest (Holds c) kind is = (c, refl, is)
collection_only word rest (Event event) kind is = absurd (no_event word rest event (kind_apart word kind).alt
    (kind_apart word kind).letter is)

-- ---- the same of the tokens that are borrowed
pub words_line : (ts : List (Bor (List ℕ))) (d : Bor (List ℕ)) (line : ScriptLine) → 1 ≤ length ts
    → (slice_index_or ts 0 d).now ≡ codes "words" → IsLine (texts ts) line
    → (values : List ℕ) × (line ≡ Words values) × IsWords (texts ts) values
words_line [] d line some e is = absurd (omega (arith, some))
words_line (t ∷ ts) d line some e is = words_only t.now (texts ts) line e is

pub clock_line : (ts : List (Bor (List ℕ))) (d : Bor (List ℕ)) (line : ScriptLine) → 1 ≤ length ts
    → (slice_index_or ts 0 d).now ≡ codes "clock" → IsLine (texts ts) line → (clock : ℕ) × (line ≡ Clock clock) × IsClock (texts ts) clock
clock_line [] d line some e is = absurd (omega (arith, some))
clock_line (t ∷ ts) d line some e is = clock_only t.now (texts ts) line e is

pub collection_line : (ts : List (Bor (List ℕ))) (d : Bor (List ℕ)) (line : ScriptLine) → 1 ≤ length ts → IsKind (slice_index_or ts 0 d).now
    → IsLine (texts ts) line → (c : Collection) × (line ≡ Holds c) × IsCollection (texts ts) c
collection_line [] d line some kind is = absurd (omega (arith, some))
collection_line (t ∷ ts) d line some kind is = collection_only t.now (texts ts) line kind is

pub event_line : (ts : List (Bor (List ℕ))) (d : Bor (List ℕ)) (line : ScriptLine) → (slice_index_or ts 0 d).now ≢ codes "words"
    → (slice_index_or ts 0 d).now ≢ codes "clock" → (IsKind (slice_index_or ts 0 d).now → ⊥) → IsLine (texts ts) line
    → (event : EventLine) × (line ≡ Event event) × IsEvent (texts ts) event
event_line [] d (Words values) words clock kind is = elim is [ ]
event_line [] d (Clock number) words clock kind is = elim is [ ]
event_line [] d (Holds c) words clock kind is = elim is [ ]
event_line [] d (Event event) words clock kind is = (event, refl, is)
event_line (t ∷ ts) d (Words values) words clock kind is = absurd (no_words t.now (texts ts) values words is)
event_line (t ∷ ts) d (Clock number) words clock kind is = absurd (no_clock t.now (texts ts) number clock is)
event_line (t ∷ ts) d (Holds c) words clock kind is = absurd (no_collection t.now (texts ts) c kind is)
event_line (t ∷ ts) d (Event event) words clock kind is = (event, refl, is)

-- the numbers that stand after the first token
pub behind_words : (ts : List (Bor (List ℕ))) (values : List ℕ) → 1 ≤ length ts → IsWords (texts ts) values
    → AreNumbers (texts (take (length ts - 1) (drop 1 ts))) values
behind_words [] values some is = absurd (omega (arith, some))
behind_words (t ∷ ts) values some is = rw (take_all (length (t ∷ ts) - 1) ts (omega arith)) is.2

pub no_line : (line : ScriptLine) → IsLine [] line → ⊥
no_line (Words values) is = elim is [ ]
no_line (Clock number) is = elim is [ ]
no_line (Holds c) is = elim is [ ]
no_line (Event event) (inl is) = elim is [ ]
no_line (Event event) (inr is) = elim is [ ]

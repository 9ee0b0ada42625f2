-- Transactions that mix calls on words and calls on collections, from what the machine has of them: the calls on words are its word
-- calls at the locations of words, in order; the calls on collections are its outcomes, in order. A call on a word touches no
-- collection, and the other way round, so a transaction is legal at a state where its word calls are legal at the words and its outcomes
-- at the collections; so are records one after another, and what the records up to a number leave.
use Rattle.std.proofs.Common.{◌≡◌, ℕ, zero, suc, ◌<◌, ◌≤◌, Bool, true, false, cond, not, List, [], ◌∷◌, ◌++◌, map, length, get_or, set}
use Rattle.std.proofs.Common.{filter, Option, Some, None, refl, sym, ◌∙◌, ap, subst, arith, true≢false, length-set, get_or-set_same}
use Rattle.std.proofs.Common.{get_or-set_other, inl, inr, ◌⊎◌}
use Rattle.std.specs.Prelude.{nat_lt, nat_le, option_map, option_and_then, unwrap_or, slice_get, slice_set}
use Rattle.std.specs.Option.{option_map_or}
use Rattle.std.proofs.lemmas.Option.{slice_get-get_or}
use Rattle.std.proofs.lemmas.Bool.{cases_eq, cases_Bool, cond-true, cond-false}
use Rattle.std.proofs.lemmas.Bool.Decides.{nat_tests}
use Rattle.seq_model.specs.declared.call.Op.{Op}
use Rattle.seq_model.specs.declared.call.Op.TheVariants.{Read, Write}
use Rattle.seq_model.specs.declared.call.Call.{Call}
use Rattle.seq_model.specs.declared.call.Reply.{Reply}
use Rattle.seq_model.specs.declared.call.Reply.TheVariants.{Done, Number}
use Rattle.seq_model.specs.declared.held.Held.{Held}
use Rattle.seq_model.specs.declared.record.Record.{Record}
use Rattle.seq_model.specs.Calls.{held_call}
use Rattle.seq_model.specs.Contents.{Contents, call_of, op_call, collection_call}
use Rattle.seq_model.specs.Runs.{reply_of, after_call, after_calls, insert_record, comes_before, NoneComesBefore, IsInCommitOrder}
use Rattle.seq_model.specs.Runs.{after_run, state_at}
use Rattle.seq_model.specs.Runs.{IsLegal as AreLegal, IsRun as IsRunOf}
use Rattle.seq_model.proofs.RunLemmas.{answered}
use Rattle.seq_model.proofs.LogicLemmas.{nat_lt-true, lt-nat_lt, le-nat_lt}
use Rattle.tx_machine.specs.Actor as machine
use Rattle.tx_machine.specs.World as world
use Rattle.tx_machine.specs.World.{Memory, put}
use Rattle.tx_machine.specs.Opacity.{after, IsLegal, memory_after, IsRun, upto, InOrder, AllFrom, IsInOrder}
use Rattle.tx_machine.proofs.Sets.{put-same, put-other}
use Rattle.tx_machine.specs.Boosted.{Committed, insert_commit}
use Rattle.tx_machine.specs.Serial.{words}
use Rattle.replay_log.specs.Contents.{CallWithOutcome}
use Rattle.replay_log.proofs.CollectionRuns as collections
use Rattle.replay_log.proofs.CollectionRuns.{reply_at, called, AreReplies, IsRunOn, held_at}
use Rattle.replay_log.specs.WorldSerial.{HasWritten}
use Rattle.replay_log.specs.Worlds as worlds

-- a word call of the machine at the location of a word, of which there are n; an edition is at another location
abbrev pub is_of_word : ℕ → machine.Call → Bool
is_of_word n (machine.Read l v) = nat_lt l n
is_of_word n (machine.Write l v) = nat_lt l n

abbrev pub word_calls : ℕ → List machine.Call → List machine.Call
word_calls n cs = filter (is_of_word n) cs

not_below : (l k n : ℕ) → nat_lt l n ≡ false → k < n → k ≡ l → ⊥
not_below l k n h g e = grind (arith, nat_tests)

-- the memories agree on the words
abbrev pub SameWords : ℕ → Memory → Memory → Type 0
SameWords n m u = (l : ℕ) → l < n → m l ≡ u l

put_words : (n : ℕ) (m u : Memory) (l v : ℕ) → SameWords n m u → SameWords n (put m l v) (put u l v)
put_words n m u l v g k lt =
    elim (cases_eq k l) [
      | inl e ↦ ap (put m l v) e ∙ put-same m l v ∙ sym (put-same u l v) ∙ sym (ap (put u l v) e)
      | inr ne ↦ put-other m l v k ne ∙ g k lt ∙ sym (put-other u l v k ne)
    ]

-- what is no word's is nothing to the words
words_after : (n : ℕ) (cs : List machine.Call) (m u : Memory) → SameWords n m u → SameWords n (after m cs) (after u (word_calls n cs))
unfolding after
words_after n [] m u g = g
words_after n (machine.Read l v ∷ cs) m u g =
    let is : List machine.Call = machine.Read l v ∷ word_calls n cs in
    elim (nat_lt l n) as (λ b. SameWords n (after m cs) (after u (cond b is (word_calls n cs)))) [
      | true ↦ words_after n cs m u g
      | false ↦ words_after n cs
          m u g
    ]
words_after n (machine.Write l v ∷ cs) m u g =
    let is : List machine.Call = machine.Write l v ∷ word_calls n cs in
    elim (cases_Bool (nat_lt l n)) [
      | inl e ↦
          subst (λ ds. SameWords n (after (put m l v) cs) (after u ds)) (sym (cond-true (nat_lt l n) is (word_calls n cs) e))
          (words_after n cs (put m l v) (put u l v) (put_words n m u l v g))
      | inr isnt ↦
          subst (λ ds. SameWords n (after (put m l v) cs) (after u ds)) (sym (cond-false (nat_lt l n) is (word_calls n cs) isnt))
          (words_after n cs (put m l v) u (λ k lt. put-other m l v k (not_below l k n isnt lt) ∙ g k lt))
    ]

words_legal : (n : ℕ) (cs : List machine.Call) (m u : Memory) → SameWords n m u → IsLegal m cs → IsLegal u (word_calls n cs)
unfolding IsLegal
words_legal n [] m u g h = tt
words_legal n (machine.Read l v ∷ cs) m u g h =
    let is : List machine.Call = machine.Read l v ∷ word_calls n cs in
    elim (cases_Bool (nat_lt l n)) [
      | inl e ↦ subst (IsLegal u) (sym (cond-true (nat_lt l n) is (word_calls n cs) e))
          (sym (g l (nat_lt-true l n e)) ∙ h.0, words_legal n cs m u g h.1)
      | inr isnt ↦ subst (IsLegal u) (sym (cond-false (nat_lt l n) is (word_calls n cs) isnt)) (words_legal n cs m u g h.1)
    ]
words_legal n (machine.Write l v ∷ cs) m u g h =
    let is : List machine.Call = machine.Write l v ∷ word_calls n cs in
    elim (cases_Bool (nat_lt l n)) [
      | inl e ↦ subst (IsLegal u) (sym (cond-true (nat_lt l n) is (word_calls n cs) e))
          (words_legal n cs (put m l v) (put u l v) (put_words n m u l v g) h)
      | inr isnt ↦
          subst (IsLegal u) (sym (cond-false (nat_lt l n) is (word_calls n cs) isnt))
          (words_legal n cs (put m l v) u (λ k lt. put-other m l v k (not_below l k n isnt lt) ∙ g k lt) h)
    ]

abbrev pub Within : ℕ → List machine.Call → Type 0
Within n [] = Unit {0}
Within n (machine.Read l v ∷ cs) = (l < n) × Within n cs
Within n (machine.Write l v ∷ cs) = (l < n) × Within n cs

are_within : (n : ℕ) (cs : List machine.Call) → Within n (word_calls n cs)
are_within n [] = tt
are_within n (machine.Read l v ∷ cs) =
    elim (cases_Bool (nat_lt l n)) [
      | inl is ↦ subst (Within n) (sym (cond-true (nat_lt l n) (machine.Read l v ∷ word_calls n cs) (word_calls n cs) is))
          (nat_lt-true l n is, are_within n cs)
      | inr isnt ↦ subst (Within n) (sym (cond-false (nat_lt l n) (machine.Read l v ∷ word_calls n cs) (word_calls n cs) isnt))
          (are_within n cs)
    ]
are_within n (machine.Write l v ∷ cs) =
    elim (cases_Bool (nat_lt l n)) [
      | inl is ↦ subst (Within n) (sym (cond-true (nat_lt l n) (machine.Write l v ∷ word_calls n cs) (word_calls n cs) is))
          (nat_lt-true l n is, are_within n cs)
      | inr isnt ↦ subst (Within n) (sym (cond-false (nat_lt l n) (machine.Write l v ∷ word_calls n cs) (word_calls n cs) isnt))
          (are_within n cs)
    ]

after-cons : (v : machine.Call) (us : List machine.Call) (m : Memory) → after m (v ∷ us) ≡ after (after m (v ∷ [])) us
unfolding after
after-cons (machine.Read l v) us m = refl
after-cons (machine.Write l v) us m = refl

legal-cons : (v : machine.Call) (us : List machine.Call) (m : Memory) → IsLegal m (v ∷ us) → IsLegal m (v ∷ [])
    × IsLegal (after m (v ∷ [])) us
unfolding IsLegal after
legal-cons (machine.Read l v) us m g = ((g.0, tt), g.1)
legal-cons (machine.Write l v) us m g = (tt, g)

within-cons : (n : ℕ) (v : machine.Call) (us : List machine.Call) → Within n (v ∷ us) → Within n (v ∷ []) × Within n us
within-cons n (machine.Read l v) us w = ((w.0, tt), w.1)
within-cons n (machine.Write l v) us w = ((w.0, tt), w.1)

no_cons : {A : Type 0} (x : A) (xs : List A) → x ∷ xs ≡ [] → ⊥
no_cons x xs e = cc

no_nil : {A : Type 0} (x : A) (xs : List A) → [] ≡ x ∷ xs → ⊥
no_nil x xs e = cc

heads : {A : Type 0} (x y : A) (xs ys : List A) → x ∷ xs ≡ y ∷ ys → (x ≡ y) × (xs ≡ ys)
heads x y xs ys e = (let z : x ≡ y = cc in z, let z : xs ≡ ys = cc in z)

-- a number of the machine's history is one of the records
abbrev pub HasNumber : ℕ → List world.Record → Type 0
HasNumber k [] = ⊥
HasNumber k (r ∷ rs) = ((r.number ≡ k) × (r.writer ≡ true)) ⊎ HasNumber k rs

module _ {V : Type 0} where
  -- ---- the two parts of a transaction's calls
  abbrev pub is_word_op : Op V → Bool
  is_word_op Read = true
  is_word_op (Write v) = true
  is_word_op op = false

  abbrev pub is_on_word : Call V × Reply V → Bool
  is_on_word c = is_word_op c.0.op

  abbrev pub on_words : List (Call V × Reply V) → List (Call V × Reply V)
  on_words cs = filter is_on_word cs

  abbrev pub on_held : List (Call V × Reply V) → List (Call V × Reply V)
  on_held cs = filter (λ c. not (is_on_word c)) cs

  abbrev pub pair_of : machine.Call → Call V × Reply V
  pair_of (machine.Read l v) = (record { target = l; op = Read }, Number v)
  pair_of (machine.Write l v) = (record { target = l; op = Write v }, Done)

  -- the calls are those of the outcomes, with their replies
  abbrev pub Told : List (Call V × Reply V) → List (CallWithOutcome V) → Type 0
  Told [] [] = Unit {0}
  Told (c ∷ cs) (o ∷ os) = (c.0 ≡ worlds.call_of o) × (option_map (λ r. r.reply) o.outcome ≡ Some c.1) × Told cs os
  Told cs os = ⊥

  pub Told-push : (cs : List (Call V × Reply V)) (os : List (CallWithOutcome V)) (c : Call V × Reply V) (o : CallWithOutcome V)
      → Told cs os → c.0
      ≡ worlds.call_of o
      → option_map (λ r. r.reply) o.outcome ≡ Some c.1 → Told (cs ++ c ∷ []) (os ++ o ∷ [])
  Told-push [] [] c o h e g = (e, g, tt)
  Told-push [] (p ∷ os) c o h e g = absurd h
  Told-push (d ∷ cs) [] c o h e g = absurd h
  Told-push (d ∷ cs) (p ∷ os) c o h e g = (h.0, h.1, Told-push cs os c o h.2 e g)

  -- What a transaction is to the machine, of n words: its calls on words, and those on collections.
  pub record Parts (n : ℕ) (done : List (Call V × Reply V)) (cs : List machine.Call) (os : List (CallWithOutcome V)) : Type 0 where
    pub words : on_words done ≡ map pair_of (word_calls n cs)
    pub held : Told (on_held done) os

  -- the state has the words of the memory, and these collections
  pub record Agrees (n : ℕ) (hs : List (Held V)) (m : Memory) (s : Contents V) : Type 0 where
    pub count : length s.words ≡ n
    pub same : (l : ℕ) → l < n → get_or s.words l 0 ≡ m l
    pub held : s.held ≡ hs

  pub agrees_words : (n : ℕ) (hs : List (Held V)) (m u : Memory) (s : Contents V) → SameWords n m u → Agrees n hs m s → Agrees n hs u s
  agrees_words n hs m u s g a = record { count = a.count; same = λ l lt. a.same l lt ∙ g l lt; held = a.held }

  -- ---- a call on a collection
  at_collection : (op : Op V) (t : ℕ) (s : Contents V) → is_word_op op ≡ false → op_call op t s ≡ collection_call op t s
  at_collection Read t s h = absurd (true≢false h)
  at_collection (Write v) t s h = absurd (true≢false h)
  at_collection op t s h = refl

  replies_by : (op : Op V) (hs : List (Held V)) (i : ℕ) (f : Reply V × Held V → Reply V × Contents V)
      → ((r : Reply V × Held V) → (f r).0 ≡ r.0)
      → option_map (λ r. r.0) (option_and_then (λ h. option_map f (held_call op h)) (slice_get hs i)) ≡ reply_at hs i op
  replies_by op [] i f e = refl
  replies_by op (h ∷ hs) zero f e = by (held_call op h)
    where
      by : (o : Option (Reply V × Held V)) → option_map (λ r. r.0) (option_map f o) ≡ option_map (λ r. r.0) o
      by None = refl
      by (Some r) = ap Some (e r)
  replies_by op (h ∷ hs) (suc i) f e = replies_by op hs i f e

  keeps_other : (op : Op V) (g : Held V) (hs : List (Held V)) (i : ℕ) (o : Option (Held V))
      → g ∷ unwrap_or (option_and_then (λ h. option_map (λ r. slice_set hs i r.1) (held_call op h)) o) hs
      ≡ unwrap_or (option_and_then (λ h. option_map (λ r. g ∷ slice_set hs i r.1) (held_call op h)) o) (g ∷ hs)
  keeps_other op g hs i None = refl
  keeps_other op g hs i (Some h) = by (held_call op h)
    where
      by : (o : Option (Reply V × Held V)) → g ∷ unwrap_or (option_map (λ r. slice_set hs i r.1) o) hs ≡ unwrap_or
          (option_map (λ r. g ∷ slice_set hs i r.1) o) (g ∷ hs)
      by None = refl
      by (Some r) = refl

  after_by : (op : Op V) (hs : List (Held V)) (i : ℕ) → collections.after_call hs i op ≡ unwrap_or
      (option_and_then (λ h. option_map (λ r. slice_set hs i r.1) (held_call op h)) (slice_get hs i)) hs
  after_by op [] i = refl
  after_by op (h ∷ hs) zero = by (held_call op h)
    where
      by : (o : Option (Reply V × Held V)) → called o h ∷ hs ≡ unwrap_or (option_map (λ r. r.1 ∷ hs) o) (h ∷ hs)
      by None = refl
      by (Some r) = refl
  after_by op (h ∷ hs) (suc i) = ap (λ (gs : List (Held V)). h ∷ gs) (after_by op hs i) ∙ keeps_other op h hs i (slice_get hs i)

  state_by : (op : Op V) (t : ℕ) (s : Contents V) (o : Option (Held V))
      → option_map_or (λ (a : Reply V × Contents V). a.1) (option_and_then
      (λ h. option_map (λ r. (r.0, record s { held = slice_set s.held t r.1 })) (held_call op h)) o) s
      ≡ record s { held = unwrap_or (option_and_then (λ h. option_map (λ r. slice_set s.held t r.1) (held_call op h)) o) s.held }
  state_by op t s None = refl
  state_by op t s (Some h) = by (held_call op h)
    where
      by : (o : Option (Reply V × Held V))
          → option_map_or (λ (a : Reply V × Contents V). a.1) (option_map (λ r. (r.0, record s { held = slice_set s.held t r.1 })) o) s
          ≡ record s { held = unwrap_or (option_map (λ r. slice_set s.held t r.1) o) s.held }
      by None = refl
      by (Some r) = refl

  -- its reply and what it leaves are those of the collections
  pub on_collection : (op : Op V) (t : ℕ) (s : Contents V) → is_word_op op ≡ false
      → (reply_of (record { target = t; op = op }) s ≡ reply_at s.held t op)
      × (after_call (record { target = t; op = op }) s ≡ record s { held = collections.after_call s.held t op })
  on_collection op t s h = (
    ap (option_map (λ r. r.0)) (at_collection op t s h) ∙ replies_by op s.held t (λ r. (r.0, record s { held = slice_set s.held t r.1 }))
        (λ r. refl),
    ap (λ o. option_map_or (λ (a : Reply V × Contents V). a.1) o s) (at_collection op t s h) ∙ state_by op t s (slice_get s.held t)
        ∙ ap (λ (hs : List (Held V)). let u : Contents V = record { words = s.words; held = hs } in u) (sym (after_by op s.held t)),
  )

  -- ---- a call on a word
  read_answers : (n : ℕ) (hs : List (Held V)) (m : Memory) (s : Contents V) (l v : ℕ) → Agrees n hs m s → l < n → m l ≡ v
      → call_of (record { target = l; op = Read }) s ≡ Some (Number v, s)
  read_answers n hs m s l v a lt e = ap (option_map (λ w. (Number w, s))) (slice_get-get_or s.words l 0 (omega (arith, lt, a.count))
      ∙ ap Some (a.same l lt ∙ e))

  write_answers : (n : ℕ) (hs : List (Held V)) (m : Memory) (s : Contents V) (l v : ℕ) → Agrees n hs m s → l < n
      → call_of (record { target = l; op = Write v }) s ≡ Some (Done, record s { words = set s.words l v })
  write_answers n hs m s l v a lt =
      ap (λ b. cond b (Some (Done, record s { words = set s.words l v })) None) (lt-nat_lt l (length s.words) (omega (arith, lt, a.count)))

  written : (n : ℕ) (hs : List (Held V)) (m : Memory) (s : Contents V) (l v : ℕ) → Agrees n hs m s → l < n
      → Agrees n hs (put m l v) (record s { words = set s.words l v })
  written n hs m s l v a lt = record {
    count = length-set s.words l v ∙ a.count;
    same = λ k below.
        elim (cases_eq k l) [
          | inl e ↦ ap (λ i. get_or (set s.words l v) i 0) e ∙ get_or-set_same s.words l v 0 (omega (arith, lt, a.count))
              ∙ sym (put-same m l v)
              ∙ ap (put m l v) (sym e)
          | inr ne ↦ get_or-set_other s.words l k v 0 ne ∙ a.same k below ∙ sym (put-other m l v k ne)
        ];
    held = a.held;
  }

  -- ---- a transaction
  -- the first of its calls, on a word or on a collection
  data First (c : Call V × Reply V) (done : List (Call V × Reply V)) (vs : List machine.Call) (os : List (CallWithOutcome V)) : Type 0 where
    OnWord : (v : machine.Call) → (us : List machine.Call) → vs ≡ v ∷ us → c ≡ pair_of v → on_words done ≡ map pair_of us
        → Told (on_held done) os
        → First c done vs os
    OnHeld : (o : CallWithOutcome V) → (ps : List (CallWithOutcome V)) → os ≡ o ∷ ps → is_on_word c ≡ false → c.0 ≡ worlds.call_of o
        → option_map (λ r. r.reply) o.outcome ≡ Some c.1
        → on_words done ≡ map pair_of vs → Told (on_held done) ps → First c done vs os

  first_of_calls : (c : Call V × Reply V) (done : List (Call V × Reply V)) (vs : List machine.Call) (os : List (CallWithOutcome V))
      → on_words (c ∷ done) ≡ map pair_of vs → Told (on_held (c ∷ done)) os → First c done vs os
  first_of_calls c done vs os e t =
      elim (cases_Bool (is_on_word c)) [
        | inl is ↦
            on_a_word vs (sym (cond-true (is_on_word c) (c ∷ on_words done) (on_words done) is) ∙ e)
            (subst (λ (cs : List (Call V × Reply V)). Told cs os) (ap (λ b. cond (not b) (c ∷ on_held done) (on_held done)) is) t)
        | inr isnt ↦
            on_one os (sym (cond-false (is_on_word c) (c ∷ on_words done) (on_words done) isnt) ∙ e)
            (subst (λ (cs : List (Call V × Reply V)). Told cs os) (ap (λ b. cond (not b) (c ∷ on_held done) (on_held done)) isnt) t) isnt
      ]
    where
      on_a_word : (us : List machine.Call) → c ∷ on_words done ≡ map pair_of us → Told (on_held done) os → First c done us os
      on_a_word [] e t = absurd (no_cons c (on_words done) e)
      on_a_word (v ∷ us) e t = let h = heads c (pair_of v) (on_words done) (map pair_of us) e in OnWord v us refl h.0 h.1 t

      on_one : (ps : List (CallWithOutcome V)) → on_words done ≡ map pair_of vs → Told (c ∷ on_held done) ps → is_on_word c ≡ false
          → First c done vs ps
      on_one [] e t isnt = absurd t
      on_one (o ∷ ps) e t isnt = OnHeld o ps refl isnt t.0 t.1 e t.2

  -- what a call on a collection leaves, seen from the collections
  held_after : (n : ℕ) (hs : List (Held V)) (m : Memory) (s : Contents V) (c : Call V) (o : CallWithOutcome V) → Agrees n hs m s
      → is_word_op c.op ≡ false
      → c ≡ worlds.call_of o
      → (reply_of c s ≡ reply_at hs o.asked.collection o.asked.op) × Agrees n (collections.after_call hs o.asked.collection o.asked.op) m
      (after_call c s)
  held_after n hs m s c o a isnt e =
      let k = on_collection c.op c.target s isnt in
      let same_op : c.op ≡ o.asked.op = ap (λ (x : Call V). x.op) e in
      let same_target : c.target ≡ o.asked.collection = ap (λ (x : Call V). x.target) e in
      let u : Contents V = record s { held = collections.after_call s.held c.target c.op } in (
        k.0 ∙ ap (λ (gs : List (Held V)). reply_at gs c.target c.op) a.held ∙ ap (λ i. reply_at hs i c.op) same_target
            ∙ ap (reply_at hs o.asked.collection) same_op,
        subst (Agrees n (collections.after_call hs o.asked.collection o.asked.op) m) (sym k.1)
            (let z : Agrees n (collections.after_call hs o.asked.collection o.asked.op) m u = record {
              count = a.count;
              same = a.same;
              held = ap (λ (gs : List (Held V)). collections.after_call gs c.target c.op) a.held
                  ∙ ap (λ i. collections.after_call hs i c.op) same_target
                  ∙ ap (collections.after_call hs o.asked.collection) same_op;
            } in z),
      )

  -- what a word call leaves
  word_after : (n : ℕ) (hs : List (Held V)) (m : Memory) (s : Contents V) (v : machine.Call) → Agrees n hs m s → Within n (v ∷ [])
      → Agrees n hs (after m (v ∷ [])) (after_call (pair_of v).0 s)
  unfolding after
  word_after n hs m s (machine.Read l v) a w =
      subst (Agrees n hs m) (sym
      (answered (record { target = l; op = Read }) s s (Number (m l)) (read_answers n hs m s l (m l) a w.0 refl)).1) a
  word_after n hs m s (machine.Write l v) a w =
      subst (Agrees n hs (put m l v)) (sym (answered (record { target = l; op = Write v }) s (record s { words = set s.words l v }) Done
      (write_answers n hs m s l v a w.0)).1) (written n hs m s l v a w.0)

  word_replies : (n : ℕ) (hs : List (Held V)) (m : Memory) (s : Contents V) (v : machine.Call) → Agrees n hs m s → Within n (v ∷ [])
      → IsLegal m (v ∷ [])
      → reply_of (pair_of v).0 s ≡ Some (pair_of v).1
  unfolding IsLegal
  word_replies n hs m s (machine.Read l v) a w g = (answered (record { target = l; op = Read }) s s (Number v)
      (read_answers n hs m s l v a w.0 g.0)).0
  word_replies n hs m s (machine.Write l v) a w g = (answered (record { target = l; op = Write v }) s
      (record s { words = set s.words l v }) Done
      (write_answers n hs m s l v a w.0)).0

  mixed_after : (n : ℕ) (done : List (Call V × Reply V)) (vs : List machine.Call) (os : List (CallWithOutcome V)) (hs : List (Held V))
      (m : Memory)
      (s : Contents V) → Agrees n hs m s → Within n vs
      → on_words done ≡ map pair_of vs → Told (on_held done) os → Agrees n (collections.after_calls hs os) (after m vs) (after_calls done s)
  unfolding after
  mixed_after n [] [] [] hs m s a w e t = a
  mixed_after n [] (v ∷ vs) os hs m s a w e t = absurd (no_nil (pair_of v) (map pair_of vs) e)
  mixed_after n [] [] (o ∷ os) hs m s a w e t = absurd t
  mixed_after n (c ∷ done) vs os hs m s a w e t =
      elim (first_of_calls c done vs os e t) [
        | OnWord v us is_vs is_c e2 t2 ↦
            (let w2 = within-cons n v us (subst (Within n) is_vs w) in
            subst (λ zs. Agrees n (collections.after_calls hs os) (after m zs) (after_calls (c ∷ done) s)) (sym is_vs)
            (subst (λ z. Agrees n (collections.after_calls hs os) z (after_calls (c ∷ done) s)) (sym (after-cons v us m))
            (subst (λ d. Agrees n (collections.after_calls hs os) (after (after m (v ∷ [])) us) (after_calls (d ∷ done) s)) (sym is_c)
            (mixed_after n done us os hs (after m (v ∷ [])) (after_call (pair_of v).0 s) (word_after n hs m s v a w2.0) w2.1 e2 t2))))
        | OnHeld o ps is_os isnt is_c told e2 t2 ↦
            subst (λ zs. Agrees n (collections.after_calls hs zs) (after m vs) (after_calls (c ∷ done) s)) (sym is_os)
            (mixed_after n done vs ps (collections.after_call hs o.asked.collection o.asked.op) m (after_call c.0 s)
            (held_after n hs m s c.0 o a isnt is_c).1 w e2 t2)
      ]

  mixed_legal : (n : ℕ) (done : List (Call V × Reply V)) (vs : List machine.Call) (os : List (CallWithOutcome V)) (hs : List (Held V))
      (m : Memory)
      (s : Contents V) → Agrees n hs m s → Within n vs
      → on_words done ≡ map pair_of vs → Told (on_held done) os → IsLegal m vs → AreReplies hs os → AreLegal done s
  mixed_legal n [] vs os hs m s a w e t g r = tt
  mixed_legal n (c ∷ done) vs os hs m s a w e t g r =
      elim (first_of_calls c done vs os e t) [
        | OnWord v us is_vs is_c e2 t2 ↦
            (let w2 = within-cons n v us (subst (Within n) is_vs w) in
            let g2 = legal-cons v us m (subst (IsLegal m) is_vs g) in
            subst (λ d. AreLegal (d ∷ done) s) (sym is_c) (
              word_replies n hs m s v a w2.0 g2.0,
              mixed_legal n done us os hs (after m (v ∷ [])) (after_call (pair_of v).0 s)
                  (word_after n hs m s v a w2.0) w2.1 e2 t2 g2.1 r,
            ))
        | OnHeld o ps is_os isnt is_c told e2 t2 ↦
            (let r2 : AreReplies hs (o ∷ ps) = subst (AreReplies hs) is_os r in
            let h = held_after n hs m s c.0 o a isnt is_c in (
              h.0 ∙ sym r2.0 ∙ told,
              mixed_legal n done vs ps (collections.after_call hs o.asked.collection o.asked.op) m
                  (after_call c.0 s) h.1 w e2 t2 g r2.1,
            ))
      ]

  -- a transaction is legal where its parts are
  pub both_legal : (n : ℕ) (done : List (Call V × Reply V)) (cs : List machine.Call) (os : List (CallWithOutcome V)) (hs : List (Held V))
      (m : Memory)
      (s : Contents V) → Agrees n hs m s
      → Parts n done cs os → IsLegal m cs → AreReplies hs os → AreLegal done s
  both_legal n done cs os hs m s a p g r =
      mixed_legal n done (word_calls n cs) os hs m s a (are_within n cs) p.words p.held (words_legal n cs m m (λ l lt. refl) g) r

  -- and leaves what they leave
  pub both_after : (n : ℕ) (done : List (Call V × Reply V)) (cs : List machine.Call) (os : List (CallWithOutcome V)) (hs : List (Held V))
      (m : Memory)
      (s : Contents V) → Agrees n hs m s
      → Parts n done cs os → Agrees n (collections.after_calls hs os) (after m cs) (after_calls done s)
  both_after n done cs os hs m s a p =
      agrees_words n (collections.after_calls hs os) (after m (word_calls n cs)) (after m cs) (after_calls done s)
      (λ l lt. sym (words_after n cs m m (λ k _. refl) l lt))
      (mixed_after n done (word_calls n cs) os hs m s a (are_within n cs) p.words p.held)

  -- ---- records
  -- a record is what the machine has committed
  pub record SameRecord (n : ℕ) (r : ℕ × Record V) (q : Committed (CallWithOutcome V)) : Type 0 where
    pub actor : r.0 ≡ q.word.actor
    pub number : r.1.number ≡ q.word.number
    pub writes : r.1.writes ≡ q.word.writer
    pub parts : Parts n r.1.calls q.word.calls q.outcomes

  abbrev pub SameRecords : ℕ → List (ℕ × Record V) → List (Committed (CallWithOutcome V)) → Type 0
  SameRecords n [] [] = Unit {0}
  SameRecords n (r ∷ rs) (q ∷ qs) = SameRecord n r q × SameRecords n rs qs
  SameRecords n rs qs = ⊥

  same_place : (n : ℕ) (r x : ℕ × Record V) (q y : Committed (CallWithOutcome V)) → SameRecord n r q → SameRecord n x y
      → comes_before r x ≡ world.comes_before q.word y.word
  unfolding world.comes_before
  same_place n r x q y h g =
      ap (λ i. place i x.1.number r.1.writes x.1.writes r.0 x.0) h.number
      ∙ ap (λ i. place q.word.number i r.1.writes x.1.writes r.0 x.0) g.number
      ∙ ap (λ b. place q.word.number y.word.number b x.1.writes r.0 x.0) h.writes
      ∙ ap (λ b. place q.word.number y.word.number q.word.writer b r.0 x.0) g.writes
      ∙ ap (λ i. place q.word.number y.word.number q.word.writer y.word.writer i x.0) h.actor
      ∙ ap (λ i. place q.word.number y.word.number q.word.writer y.word.writer q.word.actor i) g.actor
    where
      place : (i j : ℕ) (b d : Bool) (a e : ℕ) → Bool
      place i j b d a e = cond (nat_lt i j) true (cond (nat_lt j i) false (cond b true (cond d false (nat_lt a e))))

  pub insert_same : (n : ℕ) (r : ℕ × Record V) (q : Committed (CallWithOutcome V)) (rs : List (ℕ × Record V))
      (qs : List (Committed (CallWithOutcome V)))
      → SameRecord n r q → SameRecords n rs qs
      → SameRecords n (insert_record r rs) (insert_commit q qs)
  unfolding insert_commit
  insert_same n r q [] [] h g = (h, tt)
  insert_same n r q [] (y ∷ qs) h g = absurd g
  insert_same n r q (x ∷ rs) [] h g = absurd g
  insert_same n r q (x ∷ rs) (y ∷ qs) h g =
      subst (λ b. SameRecords n (cond b (r ∷ x ∷ rs) (x ∷ insert_record r rs))
      (cond (world.comes_before q.word y.word) (q ∷ (y ∷ qs)) (y ∷ insert_commit q qs))) (sym (same_place n r x q y h g.0))
      (elim (world.comes_before q.word y.word) as (λ b. SameRecords n (cond b (r ∷ x ∷ rs) (x ∷ insert_record r rs))
      (cond b (q ∷ (y ∷ qs)) (y ∷ insert_commit q qs))) [
        | true ↦ (h, g)
        | false ↦ (g.0, insert_same n r q rs qs h g.1)
      ])

  pub written_too : (n k : ℕ) (rs : List (ℕ × Record V)) (qs : List (Committed (CallWithOutcome V))) → SameRecords n rs qs
      → HasNumber k (words qs)
      → HasWritten k rs
  written_too n k [] [] g h = absurd h
  written_too n k [] (q ∷ qs) g h = absurd g
  written_too n k (r ∷ rs) [] g h = absurd h
  written_too n k (r ∷ rs) (q ∷ qs) g h =
      elim h [
        | inl e ↦ inl (g.0.number ∙ e.0, g.0.writes ∙ e.1)
        | inr m ↦ inr (written_too n k rs qs g.1 m)
      ]

  -- ---- the order of commits
  late : (n : ℕ) (r x : ℕ × Record V) (q y : Committed (CallWithOutcome V)) → SameRecord n r q → SameRecord n x y → InOrder q.word y.word
      → comes_before x r ≡ false
  unfolding world.comes_before
  late n r x q y h g o = same_place n x r y q g h
      ∙ after_it y.word.number q.word.number y.word.writer q.word.writer y.word.actor q.word.actor o.0
      (λ e. o.1 (sym e)) (λ e. o.2 (sym e))
    where
      early : (i j : ℕ) → j ≤ i → nat_lt i j ≡ true → ⊥
      early i j le h = grind (arith, nat_tests)

      equal : (i j : ℕ) → nat_lt i j ≡ false → nat_lt j i ≡ false → i ≡ j
      equal i j h g = grind (arith, nat_tests)

      after_it : (i j : ℕ) (b d : Bool) (a e : ℕ) → j ≤ i → (i ≡ j → b ≡ false) → (i ≡ j → d ≡ false → e ≤ a)
          → cond (nat_lt i j) true (cond (nat_lt j i) false (cond b true (cond d false (nat_lt a e)))) ≡ false
      after_it i j b d a e le f g =
          elim (cases_Bool (nat_lt i j)) [
            | inl is ↦ absurd (early i j le is)
            | inr isnt ↦ cond-false (nat_lt i j) true _ isnt ∙ elim (cases_Bool (nat_lt j i)) [
              | inl is ↦ cond-true (nat_lt j i) false _ is
              | inr isnt2 ↦
                  (let same : i ≡ j = equal i j isnt isnt2 in
                  cond-false (nat_lt j i) false _ isnt2 ∙ cond-false b true _ (f same)
                  ∙ elim (cases_Bool d) [ inl is ↦ cond-true d false _ is | inr w ↦ cond-false d false _ w ∙ le-nat_lt a e (g same w) ])
            ]
          ]

  none_before : (n : ℕ) (r : ℕ × Record V) (q : Committed (CallWithOutcome V)) (rs : List (ℕ × Record V))
      (qs : List (Committed (CallWithOutcome V)))
      → SameRecord n r q
      → SameRecords n rs qs
      → AllFrom q.word (words qs) → NoneComesBefore r rs
  none_before n r q [] qs h g o = tt
  none_before n r q (x ∷ rs) [] h g o = absurd g
  none_before n r q (x ∷ rs) (y ∷ qs) h g o = (late n r x q y h g.0 o.0, none_before n r q rs qs h g.1 o.1)

  pub order_too : (n : ℕ) (rs : List (ℕ × Record V)) (qs : List (Committed (CallWithOutcome V))) → SameRecords n rs qs
      → IsInOrder (words qs)
      → IsInCommitOrder rs
  order_too n [] qs g o = tt
  order_too n (r ∷ rs) [] g o = absurd g
  order_too n (r ∷ rs) (q ∷ qs) g o = (none_before n r q rs qs g.0 g.1 o.0, order_too n rs qs g.1 o.1)

  -- ---- runs
  pub runs_agree : (n : ℕ) (rs : List (ℕ × Record V)) (qs : List (Committed (CallWithOutcome V))) (hs : List (Held V)) (m : Memory)
      (s : Contents V)
      → Agrees n hs m s → SameRecords n rs qs
      → Agrees n (collections.after_run hs qs) (memory_after m (words qs)) (after_run rs s)
  unfolding memory_after
  runs_agree n [] [] hs m s a g = a
  runs_agree n [] (q ∷ qs) hs m s a g = absurd g
  runs_agree n (x ∷ rs) [] hs m s a g = absurd g
  runs_agree n (x ∷ rs) (q ∷ qs) hs m s a g =
      runs_agree n rs qs (collections.after_calls hs q.outcomes) (after m q.word.calls) (after_calls x.1.calls s)
      (both_after n x.1.calls q.word.calls q.outcomes hs m s a g.0.parts) g.1

  pub run_too : (n : ℕ) (rs : List (ℕ × Record V)) (qs : List (Committed (CallWithOutcome V))) (hs : List (Held V)) (m : Memory)
      (s : Contents V)
      → Agrees n hs m s
      → SameRecords n rs qs
      → IsRun m (words qs) → IsRunOn hs qs → IsRunOf rs s
  unfolding IsRun
  run_too n [] qs hs m s a g w r = tt
  run_too n (x ∷ rs) [] hs m s a g w r = absurd g
  run_too n (x ∷ rs) (q ∷ qs) hs m s a g w r = (
    both_legal n x.1.calls q.word.calls q.outcomes hs m s a g.0.parts w.0 r.0,
    run_too n rs qs (collections.after_calls hs q.outcomes) (after m q.word.calls) (after_calls x.1.calls s)
        (both_after n x.1.calls q.word.calls q.outcomes hs m s a g.0.parts) g.1 w.1 r.1,
  )

  -- what the records up to a number leave
  pub at_number : (n k : ℕ) (rs : List (ℕ × Record V)) (qs : List (Committed (CallWithOutcome V))) (hs : List (Held V)) (m : Memory)
      (s : Contents V)
      → Agrees n hs m s → SameRecords n rs qs
      → Agrees n (held_at qs k hs) (memory_after m (upto k (words qs))) (state_at k rs s)
  unfolding memory_after upto
  at_number n k [] [] hs m s a g = a
  at_number n k [] (q ∷ qs) hs m s a g = absurd g
  at_number n k (x ∷ rs) [] hs m s a g = absurd g
  at_number n k (x ∷ rs) (q ∷ qs) hs m s a g =
      let rest : List (ℕ × Record V) = filter (λ (r : ℕ × Record V). nat_le r.1.number k) rs in
      subst (λ i. Agrees n (held_at (q ∷ qs) k hs) (memory_after m (upto k (words (q ∷ qs))))
      (after_run (cond (nat_le i k) (x ∷ rest) rest) s))
      (sym g.0.number)
      (elim (nat_le q.word.number k) as (λ b. Agrees n (held_at qs k (cond b (collections.after_calls hs q.outcomes) hs))
      (memory_after m (cond b (q.word ∷ upto k (words qs)) (upto k (words qs)))) (after_run (cond b (x ∷ rest) rest) s)) [
        | true ↦ at_number n k rs qs (collections.after_calls hs q.outcomes) (after m q.word.calls) (after_calls x.1.calls s)
            (both_after n x.1.calls q.word.calls q.outcomes hs m s a g.0.parts) g.1
        | false ↦ at_number n k rs qs hs m s a g.1
      ])

-- Laws of transactions and runs.
use Rattle.std.proofs.Common.{◌≡◌, ◌≢◌, ℕ, ◌<◌, ◌≤◌, Bool, true, false, cond, ◌||◌, List, [], ◌∷◌, ◌++◌, Some, refl, sym, ◌∙◌, ap, subst}
use Rattle.std.proofs.Common.{arith}
use Rattle.std.specs.Prelude.{nat_lt, nat_le, option_map, filter}
use Rattle.std.specs.Option.{option_map_or}
use Rattle.std.proofs.lemmas.Bool.Decides.{nat_tests}
use Rattle.std.proofs.lemmas.Bool.{or_parts}
use Rattle.seq_model.specs.declared.call.Call.{Call}
use Rattle.seq_model.specs.declared.call.Reply.{Reply}
use Rattle.seq_model.specs.declared.record.Record.{Record}
use Rattle.seq_model.specs.Contents.{Contents, call_of}
use Rattle.seq_model.specs.Runs.{reply_of, after_call, IsLegal, after_calls, comes_before, insert_record, NoneComesBefore, IsInCommitOrder}
use Rattle.seq_model.specs.Runs.{IsRun, after_run, is_writer}
use Rattle.seq_model.specs.Changes.{changes}
use Rattle.seq_model.proofs.ChangeLemmas.{unchanged}
use Rattle.seq_model.proofs.RecordLemmas.{before, later}

not_both : (n m : ℕ) (w v : Bool) (a b : ℕ) → before n w a m v b ≡ true → (w ≡ true → v ≡ true → n ≢ m) → before m v b n w a ≡ false
not_both n m true true a b h clash = let apart : n ≢ m = clash refl refl in grind (arith, nat_tests)
not_both n m true false a b h clash = grind (arith, nat_tests)
not_both n m false true a b h clash = grind (arith, nat_tests)
not_both n m false false a b h clash = grind (arith, nat_tests)

module _ {V : Type 0} where
  -- ---- calls one after another
  pub after_calls-append : (cs ds : List (Call V × Reply V)) (s : Contents V) → after_calls (cs ++ ds) s ≡ after_calls ds (after_calls cs s)
  after_calls-append [] ds s = refl
  after_calls-append (c ∷ cs) ds s = after_calls-append cs ds (after_call c.0 s)

  pub IsLegal-append : (cs ds : List (Call V × Reply V)) (s : Contents V) → IsLegal cs s → IsLegal ds (after_calls cs s)
      → IsLegal (cs ++ ds) s
  IsLegal-append [] ds s h g = g
  IsLegal-append (c ∷ cs) ds s h g = (h.0, IsLegal-append cs ds (after_call c.0 s) h.1 g)

  -- what the sequential call answers, as its reply and the state after it
  pub answered : (c : Call V) (s t : Contents V) (r : Reply V) → call_of c s ≡ Some (r, t) → (reply_of c s ≡ Some r) × (after_call c s ≡ t)
  answered c s t r h = (ap (option_map (λ a. a.0)) h, ap (λ o. option_map_or (λ (a : Reply V × Contents V). a.1) o s) h)

  -- a transaction that changes nothing leaves the state
  pub after_reads : (cs : List (Call V × Reply V)) (s : Contents V) → is_writer cs ≡ false → IsLegal cs s → after_calls cs s ≡ s
  after_reads [] s reads h = refl
  after_reads (c ∷ cs) s reads h =
      let parts = or_parts (changes c.0.op c.1) (is_writer cs) reads in
      let same = unchanged c.0 c.1 s h.0 parts.0 in
      ap (after_calls cs) same ∙ after_reads cs s parts.1 (subst (IsLegal cs) same h.1)

  -- ---- records one after another
  pub after_run-append : (rs qs : List (ℕ × Record V)) (s : Contents V) → after_run (rs ++ qs) s ≡ after_run qs (after_run rs s)
  after_run-append [] qs s = refl
  after_run-append (r ∷ rs) qs s = after_run-append rs qs (after_calls r.1.calls s)

  pub IsRun-append : (rs qs : List (ℕ × Record V)) (s : Contents V) → IsRun rs s → IsRun qs (after_run rs s) → IsRun (rs ++ qs) s
  IsRun-append [] qs s h g = g
  IsRun-append (r ∷ rs) qs s h g = (h.0, IsRun-append rs qs (after_calls r.1.calls s) h.1 g)

  -- all of them change nothing
  abbrev pub AllRead : List (ℕ × Record V) → Type 0
  AllRead [] = Unit {0}
  AllRead (r ∷ rs) = (is_writer r.1.calls ≡ false) × AllRead rs

  pub after_readers : (rs : List (ℕ × Record V)) (s : Contents V) → AllRead rs → IsRun rs s → after_run rs s ≡ s
  after_readers [] s reads h = refl
  after_readers (r ∷ rs) s reads h =
      let same = after_reads r.1.calls s reads.0 h.0 in
      ap (after_run rs) same ∙ after_readers rs s reads.1 (subst (IsRun rs) same h.1)

  -- ---- a record into its place
  -- from the record's place on, all change nothing
  abbrev pub AllReadBehind : ℕ × Record V → List (ℕ × Record V) → Type 0
  AllReadBehind r [] = Unit {0}
  AllReadBehind r (x ∷ xs) = (comes_before r x ≡ true → AllRead (x ∷ xs)) × AllReadBehind r xs

  -- a reader that is legal at the end is legal in its place, where those after it are readers too
  pub reader_inserted : (r : ℕ × Record V) (rs : List (ℕ × Record V)) (s : Contents V) → is_writer r.1.calls ≡ false → AllReadBehind r rs
      → IsRun rs s → IsLegal r.1.calls (after_run rs s) → IsRun (insert_record r rs) s × (after_run (insert_record r rs) s ≡ after_run rs s)
  reader_inserted r [] s reads behind h g = ((g, tt), after_reads r.1.calls s reads g)
  reader_inserted r (x ∷ xs) s reads behind h g =
      elim (comes_before r x) as (λ b. comes_before r x ≡ b → IsRun (cond b (r ∷ x ∷ xs) (x ∷ insert_record r xs)) s
      × (after_run (cond b (r ∷ x ∷ xs) (x ∷ insert_record r xs)) s ≡ after_run (x ∷ xs) s)) [
        | true ↦ λ e.
            let legal : IsLegal r.1.calls s = subst (IsLegal r.1.calls) (after_readers (x ∷ xs) s (behind.0 e) h) g in
            let same : after_calls r.1.calls s ≡ s = after_reads r.1.calls s reads legal in
            ((legal, subst (IsRun (x ∷ xs)) (sym same) h), ap (after_run (x ∷ xs)) same)
        | false ↦ λ e.
            let rest = reader_inserted r xs (after_calls x.1.calls s) reads behind.1 h.1 g in
            ((h.0, rest.0), rest.1)
      ] refl

  -- ---- numbers
  abbrev pub AllUpTo : ℕ → List (ℕ × Record V) → Type 0
  AllUpTo n [] = Unit {0}
  AllUpTo n (r ∷ rs) = (r.1.number ≤ n) × AllUpTo n rs

  pub up_to_more : (n m : ℕ) (rs : List (ℕ × Record V)) → n ≤ m → AllUpTo n rs → AllUpTo m rs
  up_to_more n m [] le h = tt
  up_to_more n m (r ∷ rs) le h = (omega arith, up_to_more n m rs le h.1)

  pub up_to_inserted : (n : ℕ) (r : ℕ × Record V) (rs : List (ℕ × Record V)) → r.1.number ≤ n → AllUpTo n rs
      → AllUpTo n (insert_record r rs)
  up_to_inserted n r [] le h = (le, tt)
  up_to_inserted n r (x ∷ xs) le h =
      elim (comes_before r x) as (λ b. AllUpTo n (cond b (r ∷ x ∷ xs) (x ∷ insert_record r xs)))
      [ true ↦ (le, h) | false ↦ (h.0, up_to_inserted n r xs le h.1) ]

  -- a record whose number is above all goes last
  pub inserted_last : (n : ℕ) (r : ℕ × Record V) (rs : List (ℕ × Record V)) → n < r.1.number → AllUpTo n rs
      → insert_record r rs ≡ rs ++ r ∷ []
  inserted_last n r [] lt h = refl
  inserted_last n r (x ∷ xs) lt h =
      let late : comes_before r x ≡ false = behind_less r.1.number x.1.number r.1.writes x.1.writes (nat_lt r.0 x.0) (omega arith) in
      ap (λ b. cond b (r ∷ x ∷ xs) (x ∷ insert_record r xs)) late ∙ ap (λ l. x ∷ l) (inserted_last n r xs lt h.1)
    where
      behind_less : (n m : ℕ) (w v c : Bool) → m < n → cond (nat_lt n m) true (cond (nat_lt m n) false (cond w true (cond v false c)))
          ≡ false
      behind_less n m w v c lt = grind (arith, nat_tests)

  -- the state at a number below the record's is as it was
  pub up_to-inserted : (p : ℕ × Record V → Bool) (r : ℕ × Record V) (rs : List (ℕ × Record V)) → p r ≡ false
      → filter p (insert_record r rs) ≡ filter p rs
  up_to-inserted p r [] no-r = ap (λ b. cond b (r ∷ []) []) no-r
  up_to-inserted p r (x ∷ xs) no-r =
      elim (comes_before r x) as (λ b. filter p (cond b (r ∷ x ∷ xs) (x ∷ insert_record r xs)) ≡ filter p (x ∷ xs)) [
        | true ↦ ap (λ b. cond b (r ∷ filter p (x ∷ xs)) (filter p (x ∷ xs))) no-r
        | false ↦ ap (λ l. cond (p x) (x ∷ l) l) (up_to-inserted p r xs no-r)
      ]

  pub up_to-all : (n m : ℕ) (rs : List (ℕ × Record V)) → n ≤ m → AllUpTo n rs → filter (λ r. nat_le r.1.number m) rs ≡ rs
  up_to-all n m [] le h = refl
  up_to-all n m (r ∷ rs) le h =
      let yes-r : nat_le r.1.number m ≡ true = passes r.1.number n m h.0 le in
      ap (λ b. cond b (r ∷ filter (λ r. nat_le r.1.number m) rs) (filter (λ r. nat_le r.1.number m) rs)) yes-r
      ∙ ap (λ l. r ∷ l) (up_to-all n m rs le h.1)
    where
      passes : (k n m : ℕ) → k ≤ n → n ≤ m → nat_le k m ≡ true
      passes k n m h g = grind (arith, nat_tests)

  -- ---- order
  -- no other writer has the record's number
  abbrev pub NoClash : ℕ × Record V → List (ℕ × Record V) → Type 0
  NoClash r [] = Unit {0}
  NoClash r (x ∷ xs) = (r.1.writes ≡ true → x.1.writes ≡ true → r.1.number ≢ x.1.number) × NoClash r xs

  behind : (r x : ℕ × Record V) → comes_before r x ≡ true → (r.1.writes ≡ true → x.1.writes ≡ true → r.1.number ≢ x.1.number)
      → comes_before x r ≡ false
  behind r x h clash = not_both r.1.number x.1.number r.1.writes x.1.writes r.0 x.0 h clash

  none_behind : (r x : ℕ × Record V) (ys : List (ℕ × Record V)) → comes_before r x ≡ true → NoneComesBefore x ys → NoClash r ys
      → NoneComesBefore r ys
  none_behind r x [] h none clash = tt
  none_behind r x (y ∷ ys) h none clash = (behind r y (later r x y h none.0) clash.0, none_behind r x ys h none.1 clash.1)

  none_inserted : (x r : ℕ × Record V) (xs : List (ℕ × Record V)) → comes_before r x ≡ false → NoneComesBefore x xs
      → NoneComesBefore x (insert_record r xs)
  none_inserted x r [] h none = (h, tt)
  none_inserted x r (y ∷ ys) h none =
      elim (comes_before r y) as (λ b. NoneComesBefore x (cond b (r ∷ y ∷ ys) (y ∷ insert_record r ys)))
      [ true ↦ (h, none) | false ↦ (none.0, none_inserted x r ys h none.1) ]

  pub order_inserted : (r : ℕ × Record V) (xs : List (ℕ × Record V)) → IsInCommitOrder xs → NoClash r xs
      → IsInCommitOrder (insert_record r xs)
  order_inserted r [] ordered clash = (tt, tt)
  order_inserted r (x ∷ xs) ordered clash =
      elim (comes_before r x) as (λ b. comes_before r x ≡ b → IsInCommitOrder (cond b (r ∷ x ∷ xs) (x ∷ insert_record r xs))) [
        | true ↦ λ e. ((behind r x e clash.0, none_behind r x xs e ordered.0 clash.1), ordered)
        | false ↦ λ e. (none_inserted x r xs e ordered.0, order_inserted r xs ordered.1 clash.1)
      ] refl

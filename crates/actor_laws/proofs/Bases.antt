-- A base that shows its collection, with a transaction's log folded into it, shows the collection once it was put back.
--
-- Parts: an outcome on the collection makes of them what its changes make of the whole (`shows_change`, by the law that a whole is its
-- parts), an outcome on another leaves them, and a log is one outcome after another. Editions: by the machine's invariant the write set
-- has a location of the collection exactly where an outcome writes it, that is where the log was pushed with it, and there the fold
-- raises the edition by one, as the world does.
use Rattle.std.proofs.Common.{◌≡◌, ℕ, zero, suc, pred, ◌+◌, ◌-◌, ◌<◌, ◌≤◌, Bool, true, false, ltb, List, [], ◌∷◌, ◌++◌, Option, Some, None}
use Rattle.std.proofs.Common.{⊎_elim, refl, sym, ap, ◌∙◌, subst, arith, true≢false, eq-eqb, eqb-true, length, length-set, append-nil}
use Rattle.std.proofs.Common.{append_assoc, ltb-true, ltb-false, get_or, set}
use Rattle.std.specs.Prelude.{Contains, ◌==◌, ◌||◌, not, nat_lt, if◌then◌else◌}
use Rattle.std.specs.FinMap.{empty}
use Rattle.std.proofs.lemmas.Bool.{cond-true, cond-false, cond_both, cases_Bool}
use Rattle.std.proofs.lemmas.List.Sums.{fold-append}
use Rattle.std.proofs.lemmas.List.Elements.{Contains-append_left, Contains-append_right, Contains-append_cases}
use Rattle.std.proofs.lemmas.Option.{same_Some}
use Rattle.tx_sets.specs.Entries.{lookup}
use Rattle.tx_machine.specs.Actor.{Actor}
use Rattle.conflict.specs.declared.outcome.Outcome.{Outcome}
use Rattle.conflict.specs.declared.change.Change.{Change}
use Rattle.conflict.specs.Editions.{raised}
use Rattle.seq_model.specs.declared.held.Held.{Held}
use Rattle.seq_model.specs.declared.event.Event.{Event}
use Rattle.seq_model.specs.declared.event.Event.TheVariants.{Step}
use Rattle.tx_machine.specs.Content.{IsIn, has}
use Rattle.tx_machine.specs.Boosted.{Shadow, changes, is_none}
use Rattle.tx_machine.specs.Serial.{IsWritten, does_write}
use Rattle.tx_machine.proofs.Parts.{Untouched, in_has, written_does, untouched_does}
use Rattle.tx_machine.proofs.BoostedInvariant.{ShadowOk}
use Rattle.replay_log.specs.declared.base.Base.{Base}
use Rattle.replay_log.specs.Base.{Shown, OfMap, OfBag, OfPq, OfQueue, after, changes_of, editions_of, shown_of, writes_of}
use Rattle.replay_log.specs.Parts.{Kind, MapKind, BagKind, PqKind, QueueKind, kind_of, part, whole}
use Rattle.replay_log.specs.Contents.{Block, CallWithOutcome, HaveStripes, block_of, end_of, first_of}
use Rattle.replay_log.specs.Contents.{home_of, is_plain, content, size, shifted}
use Rattle.replay_log.specs.Contents.{blank, seen, changed, writes_in}
use Rattle.replay_log.specs.Seats.{World, actor_of}
use Rattle.replay_log.specs.Worlds.{happens, opened, run}
use Rattle.replay_log.proofs.PartLemmas.{is_whole, leaves_other_parts, whole_local}
use Rattle.replay_log.proofs.ContentLemmas.{shifted_in, in_shifted, read_at, positive_at, home_is, not_plain, content_frame}
use Rattle.replay_log.proofs.LogLemmas.{raises_each, keeps_others}
use Rattle.replay_log.proofs.EventLemmas.{run_linked, opened_linked}
use Rattle.actor_laws.specs.Bases.{IsBaseOf, ShowsBase, changes_on, writes_on, log_changes, log_locations, IsFolded}
use Rattle.actor_laws.specs.Gates.{GoesHome, Homed}
use Rattle.actor_laws.specs.Own.{Alike}
use Rattle.actor_laws.proofs.Guards.{home_allowed}
use Rattle.actor_laws.proofs.StepResult.{in_list, out_list, home_turned}

-- where a location of collection k is in its block
inner : (w : ℕ) (bs : List Block) (l k : ℕ) (b : Block) → block_of bs k ≡ Some b → w ≤ l → l < end_of w bs → home_of w bs l ≡ k
    → (i : ℕ) × (l ≡ first_of w bs k + i) × (i < size b)
inner w [] l k b is above below at = absurd (let z : ⊥ = cc in z)
inner w (c ∷ bs) l zero b is above below at =
    ⊎_elim
    (λ (t : ltb l (w + size c) ≡ true).
    let lt = ltb-true l (w + size c) t in
    let same : size c ≡ size b = ap size (same_Some c b is) in (l - w, omega arith, omega arith))
    (λ (f : ltb l (w + size c) ≡ false).
    absurd (let z : suc (home_of (w + size c) bs l) ≡ 0 = sym (cond-false _ 0 (suc (home_of (w + size c) bs l)) f) ∙ at in omega arith))
    (cases_Bool (ltb l (w + size c)))
inner w (c ∷ bs) l (suc k) b is above below at =
    ⊎_elim
    (λ (t : ltb l (w + size c) ≡ true).
    absurd (let z : 0 ≡ suc k = sym (cond-true _ 0 (suc (home_of (w + size c) bs l)) t) ∙ at in omega arith))
    (λ (f : ltb l (w + size c) ≡ false).
    let z : suc (home_of (w + size c) bs l) ≡ suc k = sym (cond-false _ 0 (suc (home_of (w + size c) bs l)) f) ∙ at in
    inner (w + size c) bs l k b is (ltb-false l (w + size c) f) below (ap pred z))
    (cases_Bool (ltb l (w + size c)))

-- a location of a collection is after the words, in front of the end
pub in_range : (w : ℕ) (bs : List Block) (l : ℕ) → is_plain w bs l ≡ false → (w ≤ l) × (l < end_of w bs)
in_range w bs l = by (nat_lt l w) (nat_lt l (end_of w bs)) refl refl
  where
    by : (s t : Bool) → nat_lt l w ≡ s → nat_lt l (end_of w bs) ≡ t → (s || not t) ≡ false → (w ≤ l) × (l < end_of w bs)
    by false true e f h = (ltb-false l w e, ltb-true l (end_of w bs) f)
    by false false e f h = absurd (true≢false h)
    by true t e f h = absurd (true≢false h)

-- what is raised is as long
pub raised_long : (ws es : List ℕ) → length (raised ws es) ≡ length es
raised_long [] es = refl
raised_long (w ∷ ws) es = raised_long ws (set es w (get_or es w 0 + 1)) ∙ length-set es w (get_or es w 0 + 1)

module _ {V : Type 0} where
  after_none : (s : Shown V) → after [] s ≡ s
  after_none (OfMap m) = refl
  after_none (OfBag m) = refl
  after_none (OfPq m) = refl
  after_none (OfQueue m) = refl

  pub after_both : (cs ds : List (Change V)) (s : Shown V) → after (cs ++ ds) s ≡ after ds (after cs s)
  after_both cs ds (OfMap m) = ap OfMap (fold-append _ m cs ds)
  after_both cs ds (OfBag m) = ap OfBag (fold-append _ m cs ds)
  after_both cs ds (OfPq m) = ap OfPq (fold-append _ m cs ds)
  after_both cs ds (OfQueue m) = ap OfQueue (fold-append _ m cs ds)

  pub kind_stays : (cs : List (Change V)) (s : Shown V) → kind_of (after cs s) ≡ kind_of s
  kind_stays cs (OfMap m) = refl
  kind_stays cs (OfBag m) = refl
  kind_stays cs (OfPq m) = refl
  kind_stays cs (OfQueue m) = refl

  -- what an outcome changes and writes is known by the kind alone
  pub changes_by : (k : Kind) (n : ℕ) (o : Outcome V) (s : Shown V) → kind_of s ≡ k → changes_of o (whole n k (λ i. OfMap empty))
      ≡ changes_of o s
  changes_by MapKind n o (OfMap m) e = refl
  changes_by BagKind n o (OfBag m) e = refl
  changes_by PqKind n o (OfPq m) e = refl
  changes_by QueueKind n o (OfQueue m) e = refl
  changes_by k n o s e = absurd (let z : ⊥ = cc in z)

  pub writes_by : (k : Kind) (n : ℕ) (o : Outcome V) (s : Shown V) → kind_of s ≡ k → writes_of n o (whole n k (λ i. OfMap empty))
      ≡ writes_of n o s
  writes_by MapKind n o (OfMap m) e = refl
  writes_by BagKind n o (OfBag m) e = refl
  writes_by PqKind n o (OfPq m) e = refl
  writes_by QueueKind n o (OfQueue m) e = refl
  writes_by k n o s e = absurd (let z : ⊥ = cc in z)

  -- ---- parts
  shows_change : (b : Block) (f : ℕ) (o : Outcome V) (v : ℕ → Shown V) (s : Shown V) → 0 < b.stripes → kind_of s ≡ b.kind
      → ((i : ℕ) → i < size b → v (f + i) ≡ part b.stripes i s) → (i : ℕ) → i < size b
      → changed (Some b) f (Some o) v (f + i) ≡ part b.stripes i (after (changes_of o (blank b)) s)
  shows_change b f o v s pos kind shows i lt =
      let n = b.stripes in
      let ws = writes_of n o (blank b) in
      let cs = changes_of o (blank b) in
      let back : f + i - f ≡ i = omega arith in
      let is : seen b f v ≡ s = whole_local n b.kind (λ j. v (f + j)) (λ j. part n j s) pos shows
      ∙ ((λ j. whole n (sym kind j) (λ l. part n l s)) ∙ is_whole n s pos) in
      let made : Shown V = part n (f + i - f) (after cs (seen b f v)) in
      ⊎_elim
      (λ (t : has (shifted f ws) (f + i) ≡ true). cond-true {A = Shown V} (has (shifted f ws) (f + i)) made (v (f + i)) t
      ∙ (λ j. part n (back j) (after cs (is j))))
      (λ (g : has (shifted f ws) (f + i) ≡ false).
      let apart = leaves_other_parts n i o s
      (λ c. out_list (shifted f ws) (f + i) g
      (shifted_in f i ws (subst (λ (ls : List ℕ). Contains ls i) (sym (writes_by b.kind n o s kind)) c))) in
      cond-false {A = Shown V} (has (shifted f ws) (f + i)) made (v (f + i)) g
      ∙ (shows i lt ∙ sym (ap (λ (ds : List (Change V)). part n i (after ds s)) (changes_by b.kind n o s kind) ∙ apart)))
      (cases_Bool (has (shifted f ws) (f + i)))

  shows_outcome : (b : Block) (f : ℕ) (r : Option (Outcome V)) (v : ℕ → Shown V) (s : Shown V) → 0 < b.stripes → kind_of s ≡ b.kind
      → ((i : ℕ) → i < size b → v (f + i) ≡ part b.stripes i s) → (i : ℕ) → i < size b
      → changed (Some b) f r v (f + i) ≡ part b.stripes i (after (changes_on b r) s)
  shows_outcome b f None v s pos kind shows i lt = shows i lt ∙ sym (ap (part b.stripes i) (after_none s))
  shows_outcome b f (Some r) v s pos kind shows i lt = shows_change b f r v s pos kind shows i lt

  module _ (n : ℕ) (bs : List Block) (k : ℕ) (b : Block) (stripes : HaveStripes bs) (is : block_of bs k ≡ Some b) where
    -- what an outcome writes is of its collection
    its_home : (o : CallWithOutcome V) (i : ℕ) → i < size b → IsIn (first_of n bs k + i) ((content n bs).writes o) → o.asked.collection ≡ k
    its_home o i lt m =
        let c = o.asked.collection in
        let l = first_of n bs k + i in
        let z = read_at (block_of bs c) (first_of n bs c) o.outcome l (λ d. positive_at bs c d stripes)
        ((content_frame {V = V} n bs stripes).read o l m) in
        sym (home_is n bs c z.1 z.0 z.2 z.4) ∙ (ap (home_of n bs) (sym z.3) ∙ home_is n bs k i b is lt)

    shows_one : (o : CallWithOutcome V) (v : ℕ → Shown V) (s : Shown V) (t : Bool) → (o.asked.collection == k) ≡ t → kind_of s ≡ b.kind
        → ((i : ℕ) → i < size b → v (first_of n bs k + i) ≡ part b.stripes i s) → (i : ℕ) → i < size b
        → (content n bs).change o v (first_of n bs k + i) ≡ part b.stripes i (after (if t then changes_on b o.outcome else []) s)
    shows_one o v s true t kind shows i lt =
        let e : o.asked.collection ≡ k = eqb-true o.asked.collection k t in
        let f = first_of n bs k in
        (λ z. changed ((ap (block_of bs) e ∙ is) z) (first_of n bs (e z)) o.outcome v (f + i))
        ∙ shows_outcome b f o.outcome v s (positive_at bs k b stripes is) kind shows i lt
    shows_one o v s false t kind shows i lt =
        (content_frame {V = V} n bs stripes).only o v (first_of n bs k + i)
        (λ m. true≢false (sym (eq-eqb o.asked.collection k (its_home o i lt m)) ∙ t))
        ∙ (shows i lt ∙ sym (ap (part b.stripes i) (after_none s)))

    pub shows_log : (os : List (CallWithOutcome V)) (v : ℕ → Shown V) (s : Shown V) → kind_of s ≡ b.kind
        → ((i : ℕ) → i < size b → v (first_of n bs k + i) ≡ part b.stripes i s) → (i : ℕ) → i < size b
        → changes (content n bs) os v (first_of n bs k + i) ≡ part b.stripes i (after (log_changes k b os) s)
    shows_log [] v s kind shows i lt = shows i lt ∙ sym (ap (part b.stripes i) (after_none s))
    shows_log (o ∷ os) v s kind shows i lt =
        let cs : List (Change V) = if o.asked.collection == k then changes_on b o.outcome else [] in
        shows_log os ((content n bs).change o v) (after cs s) (kind_stays cs s ∙ kind)
        (shows_one o v s (o.asked.collection == k) refl kind shows) i lt
        ∙ sym (ap (part b.stripes i) (after_both cs (log_changes k b os) s))

    -- ---- locations
    writes_are : (o : CallWithOutcome V) → o.asked.collection ≡ k
        → (content n bs).writes o ≡ shifted (first_of n bs k) (writes_on b o.outcome)
    writes_are o e = (λ z. writes_in ((ap (block_of bs) e ∙ is) z) (first_of n bs (e z)) o.outcome) ∙ by o.outcome
      where
        by : (r : Option (Outcome V)) → writes_in (Some b) (first_of n bs k) r ≡ shifted (first_of n bs k) (writes_on b r)
        by None = refl
        by (Some r) = refl

    written_is_logged : (os : List (CallWithOutcome V)) (i : ℕ) → i < size b → does_write (content n bs) (first_of n bs k + i) os ≡ true
        → Contains (log_locations k b os) i
    written_is_logged [] i lt h = absurd (true≢false (sym h))
    written_is_logged (o ∷ os) i lt h =
        let ws = (content n bs).writes o in
        let l = first_of n bs k + i in
        let mine : List ℕ = if o.asked.collection == k then writes_on b o.outcome else [] in
        ⊎_elim
        (λ (t : has ws l ≡ true).
        let m = in_list ws l t in
        let e = its_home o i lt m in
        let z = in_shifted (first_of n bs k) l (writes_on b o.outcome) (subst (IsIn l) (writes_are o e) m) in
        let same : z.0 ≡ i = (let q = z.1 in omega arith) in
        let top = cond-true {A = List ℕ} (o.asked.collection == k) (writes_on b o.outcome) [] (eq-eqb o.asked.collection k e) in
        Contains-append_left mine (log_locations k b os) i
        (subst (λ (ls : List ℕ). Contains ls i) (sym top) (subst (Contains (writes_on b o.outcome)) same z.2)))
        (λ (f : has ws l ≡ false).
        Contains-append_right mine (log_locations k b os) i
        (written_is_logged os i lt (sym (cond-false (has ws l) true (does_write (content n bs) l os) f) ∙ h)))
        (cases_Bool (has ws l))

    logged_is_written : (os : List (CallWithOutcome V)) (i : ℕ) → Contains (log_locations k b os) i → does_write (content n bs)
        (first_of n bs k + i) os ≡ true
    logged_is_written [] i (j, lt, e) = absurd (omega (arith, lt))
    logged_is_written (o ∷ os) i c =
        let ws = (content n bs).writes o in
        let l = first_of n bs k + i in
        let rest = does_write (content n bs) l os in
        ⊎_elim
        (λ (m : Contains (if o.asked.collection == k then writes_on b o.outcome else []) i). cond-true (has ws l) true rest
        (here (o.asked.collection == k) refl m))
        (λ (m : Contains (log_locations k b os) i). cond_both (has ws l) true rest (λ z. z ≡ true) (λ _. refl)
        (λ _. logged_is_written os i m))
        (Contains-append_cases (if o.asked.collection == k then writes_on b o.outcome else []) (log_locations k b os) i c)
      where
        here : (t : Bool) → (o.asked.collection == k) ≡ t → Contains (if t then writes_on b o.outcome else []) i
            → has ((content n bs).writes o) (first_of n bs k + i) ≡ true
        here true t m =
            let e = eqb-true o.asked.collection k t in
            in_has ((content n bs).writes o) (first_of n bs k + i)
            (subst (IsIn (first_of n bs k + i)) (sym (writes_are o e)) (shifted_in (first_of n bs k) i (writes_on b o.outcome) m))
        here false t (j, lt, e) = absurd (omega (arith, lt))

  -- ---- a log grows at its end
  pub more_changes : (k : ℕ) (b : Block) (os : List (CallWithOutcome V)) (o : CallWithOutcome V)
      → log_changes k b (os ++ o ∷ []) ≡ log_changes k b os ++ (if o.asked.collection == k then changes_on b o.outcome else [])
  more_changes k b [] o = append-nil _
  more_changes k b (p ∷ os) o =
      let cs : List (Change V) = if p.asked.collection == k then changes_on b p.outcome else [] in
      ap (λ ds. cs ++ ds) (more_changes k b os o) ∙ sym (append_assoc cs (log_changes k b os) _)

  pub more_locations : (k : ℕ) (b : Block) (os : List (CallWithOutcome V)) (o : CallWithOutcome V)
      → log_locations k b (os ++ o ∷ []) ≡ log_locations k b os ++ (if o.asked.collection == k then writes_on b o.outcome else [])
  more_locations k b [] o = append-nil _
  more_locations k b (p ∷ os) o =
      let ls : List ℕ = if p.asked.collection == k then writes_on b p.outcome else [] in
      ap (λ ms. ls ++ ms) (more_locations k b os o) ∙ sym (append_assoc ls (log_locations k b os) _)

  -- ---- the base is put back
  -- the write set has the locations of collections that the outcomes write
  abbrev SetsOk : ℕ → List Block → Actor → Shadow (Shown V) (CallWithOutcome V) → Type 0
  SetsOk n bs y z =
      ((l : ℕ) → lookup y.writes l ≡ None → Untouched (content n bs) l z.outcomes)
      × ((l x : ℕ) → is_plain n bs l ≡ false → lookup y.writes l ≡ Some x → IsWritten (content n bs) l z.outcomes)

  sets_alike : (a : ℕ) (v t : World V) → Alike a v t
      → ShadowOk (content v.words v.blocks) v.boosted (actor_of v a).calls (actor_of v a).writes (v.boosted.shadows a)
      → SetsOk t.words t.blocks (actor_of t a) (t.boosted.shadows a)
  sets_alike a v t e ok =
      subst (SetsOk t.words t.blocks (actor_of t a)) e.boosted.shadow
      (subst (λ (y : Actor). SetsOk t.words t.blocks y (v.boosted.shadows a)) e.boosted.actor
      (subst (λ (bs : List Block). SetsOk t.words bs (actor_of v a) (v.boosted.shadows a)) e.blocks
      (subst (λ (n : ℕ). SetsOk n v.blocks (actor_of v a) (v.boosted.shadows a)) e.words
      (ok.fits, λ l x word h. (ok.wrote l x word h).2))))

  pub goes_home : (blocks : List Block) (clock : ℕ) (values : List ℕ) (held : List (Held V)) (events : List (Event V)) (a k : ℕ)
      (b : Block) (before now : Base V) (t : World V) → HaveStripes blocks → Alike a (run (opened blocks clock values held) events) t
      → let outcomes = (t.boosted.shadows a).outcomes in
      GoesHome t a k → block_of t.blocks k ≡ Some b → IsBaseOf b before → ShowsBase t.words t.blocks t k before
      → IsFolded (log_changes k b outcomes) (log_locations k b outcomes) before now → IsBaseOf b now × ShowsBase t.words t.blocks
      (happens t (Step a)).0 k now
  goes_home blocks clock values held events a k b before now t stripes alike home is base shows folded =
      let v : World V = run (opened blocks clock values held) events in
      let n = t.words in
      let bs = t.blocks in
      let f = first_of n bs k in
      let os = (t.boosted.shadows a).outcomes in
      let linked = run_linked events (opened blocks clock values held) (opened_linked blocks clock values held stripes) in
      let here : HaveStripes bs = subst HaveStripes alike.blocks linked.base.stripes in
      let guard = home_allowed blocks clock values held events a k t stripes alike home in
      let gone : Homed a k t (happens t (Step a)).0 = home_turned a t k home guard.0 guard.1 in
      let sets : SetsOk n bs (actor_of t a) (t.boosted.shadows a) = sets_alike a v t alike (linked.base.inv.shadows a) in
      let at : (i : ℕ) → i < size b → (t.boosted.parts (f + i) ≡ part b.stripes i (shown_of before))
      × (t.boosted.editions (f + i) ≡ get_or (editions_of before) i 0) = λ i lt.
      let back : f + i - f ≡ i = omega arith in
      let z = shows (f + i) (not_plain n bs k i b is lt) (home_is n bs k i b is lt) in
      (z.0 ∙ (λ j. part (base.stripes j) (back j) (shown_of before)), z.1 ∙ ap (λ (j : ℕ). get_or (editions_of before) j 0) back) in
      let written = folded.editions in (
        record {
          kind = ap kind_of folded.shown ∙ (kind_stays (log_changes k b os) (shown_of before) ∙ base.kind);
          stripes = folded.stripes ∙ base.stripes;
          wide = ap length written.3 ∙ (raised_long written.0 (editions_of before) ∙ base.wide);
        },
        λ l word home_l.
            let range = in_range n bs l word in
            let z = inner n bs l k b is range.0 range.1 home_l in
            let i = z.0 in
            let same : l - f ≡ i = (let q = z.1 in omega arith) in
            let long : i < length (editions_of before) = (let q = z.2 in let w = base.wide in omega arith) in
            let edition : (u : Option ℕ) → lookup (actor_of t a).writes l ≡ u
            → (if is_none u then t.boosted.editions l else t.boosted.editions l + 1) ≡ get_or (editions_of now) i 0 = λ u.
            elim u as (λ u. lookup (actor_of t a).writes l ≡ u → (if is_none u then t.boosted.editions l else t.boosted.editions l + 1)
            ≡ get_or (editions_of now) i 0) [
              | None ↦ (λ e.
                  let out = untouched_does (content n bs) os l (sets.0 l e) in
                  ap t.boosted.editions z.1
                  ∙ ((at i z.2).1 ∙ sym (keeps_others (log_locations k b os) (editions_of before) (editions_of now) i written
                  (λ c. true≢false (sym (logged_is_written n bs k b here is os i c)
                  ∙ (ap (λ (j : ℕ). does_write (content n bs) j os) (sym z.1) ∙ out))))))
              | Some x ↦ (λ e.
                  let does = written_does (content n bs) os l (sets.1 l x word e) in
                  ap (λ (j : ℕ). t.boosted.editions j + 1) z.1
                  ∙ (ap (λ (m : ℕ). m + 1) (at i z.2).1
                  ∙ sym (raises_each (log_locations k b os) (editions_of before) (editions_of now) i written
                  (written_is_logged n bs k b here is os i z.2 (ap (λ (j : ℕ). does_write (content n bs) j os) (sym z.1) ∙ does)) long)))
            ] in (
              gone.parts l home_l ∙ (ap (changes (content n bs) os t.boosted.parts) z.1
                  ∙ (shows_log n bs k b here is os t.boosted.parts (shown_of before) base.kind (λ j lt. (at j lt).0) i z.2
                  ∙ (λ j. part (sym (folded.stripes ∙ base.stripes) j) (sym same j) (sym folded.shown j)))),
              gone.editions l home_l
                  ∙ (edition (lookup (actor_of t a).writes l) refl ∙ ap (λ (j : ℕ). get_or (editions_of now) j 0) (sym same)),
            ),
      )

-- The commit of a writer, and of a reader. The word machine says where the record goes in the order and that what the
-- transaction read is good just before its number (a writer) or at it (a reader); so the outcomes are legal there. No later
-- record writes what it writes, so its changes pass through those, and from now on they are owed to the bases.
use Rattle.std.proofs.Common.{◌≡◌, ℕ, ◌+◌, ◌-◌, ◌<◌, ◌≤◌, Bool, true, false, Option, Some, None, List, [], ◌∷◌, ◌⊎◌, inl, inr, refl, sym}
use Rattle.std.proofs.Common.{ap, ◌∙◌, subst, true≢false, arith}
use Rattle.std.proofs.lemmas.Bool.{cases_Bool, cond_both}
use Rattle.vlock_word.specs.LockWord.{version_of}
use Rattle.tx_sets.specs.Entries.{Entries, lookup, locations}
use Rattle.tx_machine.specs.Actor.{Call, Idle, First, Store, Close, Actor, goes}
use Rattle.tx_machine.specs.World.{put, Record, World, insert, comes_before, first_step_end, step}
use Rattle.tx_machine.proofs.Worlds.{first}
use Rattle.tx_machine.specs.Opacity.{IsHalfDone, IsInOrder, first_read}
use Rattle.tx_machine.proofs.Saw.{first_read_seen, first_read_good}
use Rattle.tx_machine.proofs.Sets.{put-same, put-other}
use Rattle.tx_machine.proofs.Calls.{touched, final}
use Rattle.tx_machine.proofs.Editions.{IsEdition, IsEdition-next, IsEdition-other}
use Rattle.tx_machine.proofs.Records.{finals, stamp, base, IsNew, AllRecords, AllRecords_map, AllRecords-insert, settled_all}
use Rattle.tx_machine.proofs.Records.{finals_untouched, finals_touched}
use Rattle.tx_machine.proofs.Quiet.{none_if, lookup-none}
use Rattle.tx_machine.proofs.Frame.{Moved}
use Rattle.tx_machine.proofs.Moves.{writer_keeps, first_ok, closed_ok}
use Rattle.tx_machine.proofs.Invariant.{IsSomeEntry, Good, PlaceOk, IsPending, HasBegun}
use Rattle.tx_machine.proofs.Invariant as machine
use Rattle.tx_machine.specs.Content.{Content, Frame}
use Rattle.tx_machine.specs.Boosted.{Committed, Boosted, changes, recorded, word_step, insert_commit}
use Rattle.tx_machine.proofs.BoostedFrame.{worded, Keeps, Led, ShadowOk-kept, records_kept, aborted_kept, by_actor}
use Rattle.tx_machine.specs.Serial.{words, view, views}
use Rattle.tx_machine.proofs.Parts.{written_does, untouched_does, Fits, local_part}
use Rattle.tx_machine.proofs.Views.{IsLast, words-insert, AllFit-insert, Knows-insert, view_insert_other, view_insert_own}
use Rattle.tx_machine.proofs.Views.{views_all, views_at, quiet_above}
use Rattle.tx_machine.proofs.BoostedInvariant.{SawParts, ShadowOk, GatesOk, IsFirst, IsRelease, IsHome, AllCommitted, Exact, Inv}
use Rattle.tx_machine.proofs.Homes.{all_past}

-- a commit of actor a, by its number
abbrev pub commit_of : {X Out : Type 0} → Boosted X Out → ℕ → ℕ → Bool → Committed Out
commit_of s a number writer = record {
  word = record { actor = a; number = number; writer = writer; calls = (s.words.actors a).calls };
  outcomes = (s.shadows a).outcomes;
}

-- What the word machine says of a commit.
pub record Commits {X Op Out : Type 0} (c : Content X Op Out) (s : Boosted X Out) (a : ℕ) (t : World) (number : ℕ)
    (writer : Bool) : Type 0 where
  pub machine : machine.Inv t
  pub opening : t.opening ≡ s.words.opening
  pub good : (n l v : ℕ) → Good s.words n l v → Good t n l v
  pub clock : s.words.clock ≤ t.clock
  pub history : t.history ≡ insert
      (record { actor = a; number = number; writer = writer; calls = (s.words.actors a).calls }) s.words.history
  pub aborted : t.aborted ≡ s.words.aborted
  pub others : (b : ℕ) → (b ≡ a → ⊥) → t.actors b ≡ s.words.actors b
  pub calls : (t.actors a).calls ≡ (s.words.actors a).calls
  pub writes : (t.actors a).writes ≡ (s.words.actors a).writes
  pub was : IsHalfDone (s.words.actors a).place → ⊥
  pub not_first : IsFirst (t.actors a).place → ⊥
  pub not_release : IsRelease (t.actors a).place → ⊥
  pub new : IsNew (record { actor = a; number = number; writer = writer; calls = (s.words.actors a).calls }) s.words.history
  pub past : number ≤ t.clock
  pub base_good : (l v : ℕ) → first_read (s.words.actors a).calls l ≡ Some v → Good t (base writer number) l v
  pub last : (l : ℕ) → touched (s.words.actors a).calls l ≡ true → stamp s.words.history l < number
  pub written : (l : ℕ) → touched (s.words.actors a).calls l ≡ true → IsHalfDone (t.actors a).place × (writer ≡ true) × (0 < number)
      × (c.plain l ≡ false → s.gates (c.home l) ≡ Some a)
  -- what it read and writes stands at the end of the history still
  pub next : (l v : ℕ) → touched (s.words.actors a).calls l ≡ true → first_read (s.words.actors a).calls l ≡ Some v
      → finals s.words.history l (s.words.opening l) ≡ v

AllCommitted-insert : {Out : Type 0} → (P : Committed Out → Type 0) (r : Committed Out) (h : List (Committed Out)) → P r
    → AllCommitted P h → AllCommitted P (insert_commit r h)
unfolding insert_commit
AllCommitted-insert P r [] p a = (p, tt)
AllCommitted-insert P r (x ∷ xs) p a =
    cond_both (comes_before r.word x.word) (r ∷ (x ∷ xs)) (x ∷ insert_commit r xs) (AllCommitted P) (λ _. (p, a))
    (λ _. (a.0, AllCommitted-insert P r xs p a.1))

some_or : (o : Option ℕ) → (o ≡ None) ⊎ ((n : ℕ) × (o ≡ Some n))
some_or None = inl refl
some_or (Some n) = inr (n, refl)

module _ {X Op Out : Type 0} (c : Content X Op Out) (f : Frame c) where
  pub commit_led : (s : Boosted X Out) (a : ℕ) (t : World) (number : ℕ) (writer : Bool) → Inv c s → Commits c s a t number writer
      → Led c s (worded s t s.shadows (insert_commit (commit_of s a number writer) s.history) s.aborted)
  commit_led s a t number writer v q =
      let x = s.words.actors a in
      let w = s.shadows a in
      let g = v.shadows a in
      let sets = (v.machine.actors a).sets in
      let k : Committed Out = commit_of s a number writer in
      let h = s.history in
      let u : Boosted X Out = worded s t s.shadows (insert_commit k h) s.aborted in
      let ws : words (insert_commit k h) ≡ insert k.word (words h) = words-insert k h in
      let ord : IsInOrder (words h) = subst IsInOrder (sym v.same) v.machine.ordered in
      let new : IsNew k.word (words h) = subst (IsNew k.word) (sym v.same) q.new in
      let lst : IsLast k h = λ l t. subst (λ (z : List Record). stamp z l < number) (sym v.same) (q.last l t) in
      let none_of : (l : ℕ) → touched x.calls l ≡ false → lookup x.writes l ≡ None = λ l n. none_if (lookup x.writes l)
      (λ i e. true≢false (sym (sets.written l i e) ∙ n)) in
      let some_of : (l : ℕ) → touched x.calls l ≡ true → (n : ℕ) × (lookup x.writes l ≡ Some n) = λ l y. elim
      (some_or (lookup x.writes l)) [
        | inl e ↦ absurd (true≢false (sym y ∙ sets.not_written l e))
        | inr e ↦ e
      ] in
      let fit : Fits c k = λ l n. g.fits l (none_of l n) in
      let at_end : (l : ℕ) → c.plain l ≡ false → touched x.calls l ≡ true → finals (words h) l (s.first l) ≡ w.editions l = λ l pl y. (
      let e = some_of l y in
      let r = g.wrote l e.0 pl e.1 in
      ap (λ (z : List Record). finals z l (s.first l)) v.same ∙ ap (λ (z : ℕ → ℕ). finals s.words.history l (z l)) (sym v.first)
      ∙ q.next l (w.editions l) y (g.sets l r.1).1) in
      let wrote : (l : ℕ) → c.plain l ≡ false → touched x.calls l ≡ true → final x.calls l 0 ≡ finals (words h) l
      (s.first l) + 1 = λ l pl y. (
      let e = some_of l y in
      sets.last l e.0 e.1 0 ∙ (g.wrote l e.0 pl e.1).0 ∙ ap (λ (n : ℕ). n + 1) (sym (at_end l pl y))) in
      let raised : (l : ℕ) → c.plain l ≡ false → touched x.calls l ≡ true → finals (insert k.word (words h)) l (s.first l)
      ≡ finals (words h) l (s.first l) + 1 = λ l pl y.
      finals_touched k.word (words h) l (s.first l) ord new y (lst l y) ∙ wrote l pl y in
      let fin : (l : ℕ) → finals (words (insert_commit k h)) l (s.first l) ≡ finals (insert k.word (words h)) l (s.first l) = λ l. ap
      (λ (z : List Record). finals z l (s.first l)) ws in
      let keeps : Keeps c s u = record {
        opening = refl;
        first = refl;
        good = q.good;
        known = λ l e p i. record {
          plain = i.plain;
          past = elim (cases_Bool (touched x.calls l)) [
            | inl y ↦ (let a1 = fin l in let a2 = raised l i.plain y in omega (arith, a1, a2, i.past))
            | inr n ↦ (let a1 = fin l in let a2 = finals_untouched k.word (words h) l (s.first l) n in omega (arith, a1, a2, i.past))
          ];
          knows = Knows-insert c f k h s.first s.opening l e p fit v.fits ord new lst
              (λ y z. (let a2 = raised l i.plain y in omega (arith, a2, z, i.past))) i.knows;
        };
      } in
      let old_past : AllRecords (λ r. r.number ≤ t.clock) (words h) = AllRecords_map (λ r. r.number ≤ s.words.clock)
      (λ r. r.number ≤ t.clock) (words h) (λ r z. omega (arith, z, q.clock)) (all_past c f s v) in
      let new_past : AllRecords (λ r. r.number ≤ t.clock) (words (insert_commit k h)) = subst (AllRecords (λ r. r.number ≤ t.clock))
      (sym ws) (AllRecords-insert (λ r. r.number ≤ t.clock) k.word (words h) q.past old_past) in
      let same_view : (l : ℕ) → touched x.calls l ≡ false → views c (insert_commit k h) s.opening l ≡ views c h s.opening l = λ l n.
      views_all c f (insert_commit k h) t.clock s.opening l new_past
      ∙ view_insert_other c f k h t.clock s.opening fit v.fits ord new lst l n ∙ sym (views_all c f h t.clock s.opening l old_past) in
      let same_final : (l : ℕ) → touched x.calls l ≡ false → finals (words (insert_commit k h)) l (s.first l) ≡ finals (words h) l
      (s.first l) = λ l n.
      fin l ∙ finals_untouched k.word (words h) l (s.first l) n in
      -- what this commit writes was in its base before
      let was_home : (l : ℕ) → c.plain l ≡ false → touched x.calls l ≡ true → IsHome c s l = λ l pl y b hf gate. (
      let d : Some a ≡ Some b = sym ((q.written l y).3 pl) ∙ gate in
      let e : a ≡ b = cc in absurd (q.was (subst (λ (i : ℕ). IsHalfDone (s.words.actors i).place) (sym e) hf))) in
      record {
        inv = record {
          machine = q.machine;
          first = q.opening ∙ v.first;
          same = ws ∙ ap (insert k.word) v.same ∙ sym q.history;
          ends = v.ends ∙ sym q.aborted;
          fits = AllFit-insert c k h fit v.fits;
          exact = AllCommitted-insert (Exact c) k h (λ l pl. elim (cases_Bool (touched x.calls l)) [
            | inl y ↦ (let e = some_of l y in y ∙ sym (written_does c w.outcomes l (g.wrote l e.0 pl e.1).2))
            | inr n ↦ n ∙ sym (untouched_does c w.outcomes l (fit l n))
          ]) v.exact;
          edition = λ l pl. subst (λ (z : List Record). IsEdition z l (s.first l)) (sym ws) (elim (cases_Bool (touched x.calls l)) [
            | inl y ↦ IsEdition-next k.word (words h) l (s.first l) ord new y (lst l y) (wrote l pl y) (v.edition l pl)
            | inr n ↦ IsEdition-other k.word (words h) l (s.first l) n (v.edition l pl)
          ]);
          known = λ l pl. keeps.known l (s.editions l) (s.parts l) (v.known l pl);
          at_home = λ l pl none. elim (cases_Bool (touched x.calls l)) [
            | inl y ↦ (let e = some_of l y in let i = q.written l y in
                let d : Some e.0 ≡ None = sym e.1 ∙ ap (λ (z : Entries). lookup z l) (sym q.writes) ∙ none a i.0 (i.3 pl) in cc)
            | inr n ↦ (let o = v.at_home l pl
                (λ b. by_actor (λ b. (IsHalfDone (s.words.actors b).place → s.gates (c.home l) ≡ Some b
                → lookup (s.words.actors b).writes l ≡ None)) a
                (λ hf gate. absurd (q.was hf))
                (λ b ne. subst (λ (z : Actor). IsHalfDone z.place → s.gates (c.home l) ≡ Some b → lookup z.writes l ≡ None)
                (q.others b ne) (none b)) b) in
                (same_view l n ∙ o.0, same_final l n ∙ o.1))
          ];
          owed = λ b l i pl. by_actor
              (λ b. (IsHalfDone (t.actors b).place → s.gates (c.home l) ≡ Some b → lookup (t.actors b).writes l ≡ Some i
              → (views c (insert_commit k h) s.opening l ≡ changes c (s.shadows b).outcomes s.parts l)
              × (finals (words (insert_commit k h)) l (s.first l) ≡ s.editions l + 1))) a
              (λ hf gate e. (
              let y : touched x.calls l ≡ true = sets.written l i (ap (λ (z : Entries). lookup z l) (sym q.writes) ∙ e) in
              let z = q.written l y in (
                views_all c f (insert_commit k h) t.clock s.opening l new_past
                    ∙ view_insert_own c f k h t.clock s.opening fit v.fits ord new lst z.1 z.2 q.past l y
                    ∙ local_part c f k (view c h (number - 1) s.opening) s.parts l fit pl y (λ j hj pj yj.
                    sym (views_at c f h (number - 1) s.opening j v.fits ord
                    (quiet_above c f h j (number - 1) (let z2 = lst j yj in omega (arith, z2, z.2))))
                    ∙ (v.at_home j pj (was_home j pj yj)).0),
                fin l ∙ raised l pl y ∙ ap (λ (n : ℕ). n + 1) (v.at_home l pl (was_home l pl y)).1,
              )))
              (λ b ne. subst (λ (z : Actor). IsHalfDone z.place → s.gates (c.home l) ≡ Some b → lookup z.writes l ≡ Some i
              → (views c (insert_commit k h) s.opening l ≡ changes c (s.shadows b).outcomes s.parts l)
              × (finals (words (insert_commit k h)) l (s.first l) ≡ s.editions l + 1)) (sym (q.others b ne))
              (λ hf gate e. elim (cases_Bool (touched x.calls l)) [
                | inl y ↦ (let d : Some b ≡ Some a = sym gate ∙ (q.written l y).3 pl in let m : b ≡ a = cc in absurd (ne m))
                | inr n ↦ (let o = v.owed b l i pl hf gate e in (same_view l n ∙ o.0, same_final l n ∙ o.1))
              ])) b;
          shadows = by_actor (λ b. ShadowOk c u (t.actors b).calls (t.actors b).writes (s.shadows b)) a
              (subst (λ (z : List Call). ShadowOk c u z (t.actors a).writes w) (sym q.calls)
              (subst (λ (z : Entries). ShadowOk c u x.calls z w) (sym q.writes) (ShadowOk-kept c s u x.calls x.writes w keeps g)))
              (λ b ne. subst (λ (z : Actor). ShadowOk c u z.calls z.writes (s.shadows b)) (sym (q.others b ne))
              (ShadowOk-kept c s u (s.words.actors b).calls (s.words.actors b).writes (s.shadows b) keeps (v.shadows b)));
          gates = by_actor (λ b. GatesOk c u b (t.actors b).writes (t.actors b).place) a
              (record { taken = λ p. absurd (q.not_first p); given = λ p. absurd (q.not_release p) })
              (λ b ne. subst (λ (z : Actor). GatesOk c u b z.writes z.place) (sym (q.others b ne))
              (record { taken = (v.gates b).taken; given = (v.gates b).given }));
          records = AllCommitted-insert (λ r. SawParts c u (base r.word.writer r.word.number) r.outcomes) k h (record {
            parts = w.parts;
            editions = w.editions;
            known = λ l r. keeps.known l (w.editions l) (w.parts l) (g.known l (g.sets l r).0);
            good = λ l r. q.base_good l (w.editions l) (g.sets l r).1;
            legal = g.legal;
          }) (records_kept c s u h keeps v.records);
          aborted = aborted_kept c s u s.aborted keeps v.aborted;
        };
        keeps = keeps;
      }

  -- the actor and the history after the first value store
  first_is : (s : World) (a : ℕ) (x : Actor) (ws : Entries) → IsSomeEntry ws
      → ((first s a x ws).history ≡ insert (record { actor = a; number = x.wv; writer = true; calls = x.calls }) s.history)
      × ((ls : List ℕ) × ((first s a x ws).actors ≡ put s.actors a (goes x (Store ls)))) × ((first s a x ws).aborted ≡ s.aborted)
      × ((first s a x ws).clock ≡ s.clock)
  first_is s a x [] some = absurd some
  first_is s a x (e ∷ es) some = (refl, (locations es, refl), refl, refl)

  first_recorded : (s : Boosted X Out) (os : List Out) (a : ℕ) (x : Actor) (ws : Entries) → IsSomeEntry ws
      → recorded s os (first_step_end a x ws)
      ≡ record s {
        history = insert_commit
            (record { word = record { actor = a; number = x.wv; writer = true; calls = x.calls }; outcomes = os }) s.history;
      }
  first_recorded s os a x [] some = absurd some
  first_recorded s os a x (e ∷ es) some = refl

  new_writer : (h : List Record) (n b : ℕ) (cs : List Call) → AllRecords (λ r. (r.writer ≡ true → n ≡ r.number → ⊥)) h
      → IsNew (record { actor = b; number = n; writer = true; calls = cs }) h
  new_writer [] n b cs g = tt
  new_writer (r ∷ h) n b cs g = ((λ _ w q. g.0 w q), new_writer h n b cs g.1)

  new_reader : (h : List Record) (n b : ℕ) (cs : List Call) → IsNew (record { actor = b; number = n; writer = false; calls = cs }) h
  new_reader [] n b cs = tt
  new_reader (r ∷ h) n b cs = ((λ w _ _. true≢false (sym w)), new_reader h n b cs)

  pub first_led : (s : Boosted X Out) (a : ℕ) → Inv c s → (s.words.actors a).place ≡ First → PlaceOk s.words (s.words.actors a) First
      → Led c s (word_step s a (s.words.actors a) First)
  first_led s a v e pl =
      let x = s.words.actors a in
      let m = v.machine in
      let st = pl.0 in
      let t : World = step s.words a x First in
      let mv : Moved s.words a t = first_ok s.words a x.writes m e pl refl in
      let is = first_is s.words a x x.writes st.some in
      let own : t.actors a ≡ goes x (Store is.1.0) = ap (λ (z : ℕ → Actor). z a) is.1.1 ∙ put-same s.words.actors a
      (goes x (Store is.1.0)) in
      let pend : IsPending x.place = subst IsPending (sym e) tt in
      let not_half : IsHalfDone x.place → ⊥ = λ hf. (let z : IsHalfDone First = subst IsHalfDone e hf in z) in
      let was_read : (l n : ℕ) → first_read x.calls l ≡ Some n → lookup x.reads l ≡ Some n = λ l n h.
      ap (λ (z : Entries). lookup z l)
      (sym (writer_keeps x.declared x.reads x.writes (m.actors a).saw.reads st.some ((m.actors a).kept (subst HasBegun (sym e) tt))))
      ∙ first_read_seen s.words x.rv x.calls l n (m.actors a).saw h in
      let some_of : (l : ℕ) → touched x.calls l ≡ true → (n : ℕ) × (lookup x.writes l ≡ Some n) = λ l y. elim
      (some_or (lookup x.writes l)) [
        | inl z ↦ absurd (true≢false (sym y ∙ (m.actors a).sets.not_written l z))
        | inr z ↦ z
      ] in
      let lst : (l : ℕ) → touched x.calls l ≡ true → stamp s.words.history l < x.wv = λ l y. (
      let n = some_of l y in
      let k = st.all_held l n.0 n.1 in
      let ver : version_of (s.words.locks l) ≡ k.0 = ap version_of ((m.actors a).held l k.0 k.1) in
      let b = m.behind l (λ b hf. none_if (lookup (s.words.actors b).held l)
      (λ j g. not_half (subst (λ (i : ℕ). IsHalfDone (s.words.actors i).place) (m.apart b a l j k.0 g k.1) hf))) in
      let nw = st.newer l k.0 k.1 in omega (arith, b, ver, nw)) in
      subst (Led c s) (sym (first_recorded (record s { words = t }) (s.shadows a).outcomes a x x.writes st.some))
      (commit_led s a t x.wv true v (record {
        machine = mv.inv;
        opening = mv.opening;
        good = mv.keeps.good;
        clock = mv.keeps.clock;
        history = is.0;
        aborted = is.2;
        others = λ b ne. ap (λ (z : ℕ → Actor). z b) is.1.1 ∙ put-other s.words.actors a (goes x (Store is.1.0)) b ne;
        calls = ap (λ (z : Actor). z.calls) own;
        writes = ap (λ (z : Actor). z.writes) own;
        was = not_half;
        not_first = λ h. (let z : IsFirst (Store is.1.0) = subst (λ (z : Actor). IsFirst z.place) own h in z);
        not_release = λ h. (let z : IsRelease (Store is.1.0) = subst (λ (z : Actor). IsRelease z.place) own h in z);
        new = new_writer s.words.history x.wv a x.calls (m.unused a pend);
        past = (let z = is.3 in omega (arith, z, st.made));
        base_good = λ l n h. elim (pl.1 l n (was_read l n h)) [ inl z ↦ absurd z | inr z ↦ mv.keeps.good (x.wv - 1) l n z ];
        last = lst;
        written = λ l y. (
            let n = some_of l y in (
              subst (λ (z : Actor). IsHalfDone z.place) (sym own) tt,
              refl,
              omega (arith, st.after_rv),
              λ pn. (v.gates a).taken (subst IsFirst (sym e) tt) l n.0 pn n.1,
            ));
        next = λ l n y h. elim (pl.1 l n (was_read l n h)) [
          | inl z ↦ absurd z
          | inr z ↦ (let low = lst l y in sym (settled_all s.words.history (x.wv - 1) l (s.words.opening l) (omega (arith, low))) ∙ z.value)
        ];
      }))

  pub close_led : (s : Boosted X Out) (a : ℕ) → Inv c s → (s.words.actors a).place ≡ Close → PlaceOk s.words (s.words.actors a) Close
      → Led c s (word_step s a (s.words.actors a) Close)
  close_led s a v e pl =
      let x = s.words.actors a in
      let m = v.machine in
      let t : World = step s.words a x Close in
      let mv : Moved s.words a t = closed_ok s.words a m e pl in
      let own : t.actors a ≡ goes x Idle = put-same s.words.actors a (goes x Idle) in
      let un : (l : ℕ) → touched x.calls l ≡ true → ⊥ = λ l y. true≢false
      (sym y ∙ (m.actors a).sets.not_written l (none_if (lookup x.writes l) (λ n h. lookup-none x.writes l n pl.1 h))) in
      commit_led s a t x.rv false v (record {
        machine = mv.inv;
        opening = mv.opening;
        good = mv.keeps.good;
        clock = mv.keeps.clock;
        history = refl;
        aborted = refl;
        others = λ b ne. put-other s.words.actors a (goes x Idle) b ne;
        calls = ap (λ (z : Actor). z.calls) own;
        writes = ap (λ (z : Actor). z.writes) own;
        was = λ hf. (let z : IsHalfDone Close = subst IsHalfDone e hf in z);
        not_first = λ h. (let z : IsFirst Idle = subst (λ (z : Actor). IsFirst z.place) own h in z);
        not_release = λ h. (let z : IsRelease Idle = subst (λ (z : Actor). IsRelease z.place) own h in z);
        new = new_reader s.words.history x.rv a x.calls;
        past = omega (arith, (m.actors a).began, mv.keeps.clock);
        base_good = λ l n h. mv.keeps.good x.rv l n (first_read_good s.words x.rv x.calls l n (m.actors a).saw h);
        last = λ l y. absurd (un l y);
        written = λ l y. absurd (un l y);
        next = λ l n y h. absurd (un l y);
      })

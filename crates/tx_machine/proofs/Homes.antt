-- A base that is put back with the changes of a commit. The history already leaves these changes on top of the base, since the commit is
-- recorded from its first value store on; so as the base takes them in, with the next edition at each written location, it shows what the
-- history leaves there, and nothing is owed any more.
use Rattle.std.proofs.Common.{◌≡◌, ℕ, ◌+◌, ◌≤◌, eqb, leb, true, false, Option, Some, None, List, [], ◌∷◌, ◌⊎◌, inl, inr, refl, sym, ap, ◌∙◌}
use Rattle.std.proofs.Common.{subst, true≢false, eq-eqb, ne_eqb, le-leb, arith}
use Rattle.std.specs.Prelude.{◌&&◌, nat_le, if◌then◌else◌}
use Rattle.std.proofs.lemmas.Bool.{cases_eq, cond_both, cond-true, cond-false, and_parts}
use Rattle.tx_sets.specs.Entries.{lookup}
use Rattle.tx_machine.specs.Actor.{Place, Store}
use Rattle.tx_machine.specs.World.{put, Record}
use Rattle.tx_machine.specs.Opacity.{IsHalfDone, IsInOrder}
use Rattle.tx_machine.proofs.Sets.{put-same, put-other}
use Rattle.tx_machine.proofs.Calls.{final}
use Rattle.tx_machine.proofs.Records.{settled, finals, AllRecords, AllRecords_map}
use Rattle.tx_machine.proofs.Invariant.{RecordOk}
use Rattle.tx_machine.specs.Content.{Content, Frame}
use Rattle.tx_machine.specs.Boosted.{Boosted, changes, is_actor, is_none, is_stored, homed, go_home}
use Rattle.tx_machine.specs.Serial.{words, views}
use Rattle.tx_machine.proofs.Parts.{changes_only, changes_home}
use Rattle.tx_machine.proofs.Views.{Knows, Knows-now}
use Rattle.tx_machine.proofs.BoostedInvariant.{Known, IsFirst, Inv}
use Rattle.tx_machine.proofs.BoostedFrame.{Keeps, Led, ShadowOk-kept, records_kept, aborted_kept}
use Rattle.tx_machine.proofs.BoostedQuiet.{led_none, actor_is}

stored_is : (p : Place) → is_stored p ≡ true → p ≡ Store []
stored_is (Store []) h = refl
stored_is (Store (l ∷ ls)) h = absurd (true≢false (sym h))
stored_is p h = absurd (true≢false (sym h))

-- nothing is above the top
pub settled_top : (h : List Record) (top l d : ℕ) → AllRecords (λ r. r.number ≤ top) h → settled h top l d ≡ finals h l d
settled_top [] top l d a = refl
settled_top (r ∷ rs) top l d a =
    settled_top rs top l (if nat_le r.number top then final r.calls l d else d) a.1
    ∙ ap (finals rs l) (cond-true (leb r.number top) (final r.calls l d) d (le-leb r.number top a.0))

module _ {X Op Out : Type 0} (c : Content X Op Out) (f : Frame c) where
  pub all_past : (s : Boosted X Out) → Inv c s → AllRecords (λ r. r.number ≤ s.words.clock) (words s.history)
  all_past s v = subst (AllRecords (λ r. r.number ≤ s.words.clock)) (sym v.same)
      (AllRecords_map (RecordOk s.words) (λ r. r.number ≤ s.words.clock) s.words.history (λ r q. q.past) v.machine.records)

  -- what the history leaves is known by its edition
  known_now : (s : Boosted X Out) (l : ℕ) → Inv c s → c.plain l ≡ false → Known c s l (finals (words s.history) l (s.first l))
      (views c s.history s.opening l)
  known_now s l v pl = record {
    plain = pl;
    past = omega arith;
    knows = subst (λ (e : ℕ). Knows c s.history s.first s.opening l e (views c s.history s.opening l))
        (settled_top (words s.history) s.words.clock l (s.first l) (all_past s v))
        (Knows-now c f s.history s.first s.opening s.words.clock l v.fits (subst IsInOrder (sym v.same) v.machine.ordered) (all_past s v)
        (v.edition l pl));
  }

  homed_led : (s : Boosted X Out) (a k : ℕ) → Inv c s → s.gates k ≡ Some a → (s.words.actors a).place ≡ Store [] → Led c s (homed c s a k)
  homed_led s a k v mine e =
      let x = s.words.actors a in
      let w = s.shadows a in
      let u : Boosted X Out = homed c s a k in
      let half : IsHalfDone x.place = subst IsHalfDone (sym e) tt in
      let keeps : Keeps c s u = record {
        known = λ l n p g. record { plain = g.plain; past = g.past; knows = g.knows };
        good = λ n l i g. g;
        opening = refl;
        first = refl;
      } in
      let part : (l : ℕ) → c.home l ≡ k → u.parts l ≡ changes c w.outcomes s.parts l = λ l q. cond-true (eqb (c.home l) k)
      (changes c w.outcomes s.parts l) (s.parts l) (eq-eqb (c.home l) k q) in
      let raised : (l : ℕ) → ℕ = λ l. (if is_none (lookup x.writes l) then s.editions l else s.editions l + 1) in
      let edition : (l : ℕ) → c.home l ≡ k → u.editions l ≡ raised l = λ l q. cond-true (eqb (c.home l) k) (raised l) (s.editions l)
      (eq-eqb (c.home l) k q) in
      let part_else : (l : ℕ) → (c.home l ≡ k → ⊥) → u.parts l ≡ s.parts l = λ l ne. cond-false (eqb (c.home l) k)
      (changes c w.outcomes s.parts l) (s.parts l) (ne_eqb (c.home l) k ne) in
      let edition_else : (l : ℕ) → (c.home l ≡ k → ⊥) → u.editions l ≡ s.editions l = λ l ne. cond-false (eqb (c.home l) k) (raised l)
      (s.editions l) (ne_eqb (c.home l) k ne) in
      let mine_at : (l : ℕ) → c.home l ≡ k → s.gates (c.home l) ≡ Some a = λ l q. ap s.gates q ∙ mine in
      let written : (l n : ℕ) → c.plain l ≡ false → c.home l ≡ k → lookup x.writes l ≡ Some n
      → (u.parts l ≡ views c s.history s.opening l) × (u.editions l ≡ finals (words s.history) l (s.first l)) = λ l n pl q h. (
      let o = v.owed a l n pl half (mine_at l q) h in
      (part l q ∙ sym o.0, edition l q ∙ ap (λ (z : Option ℕ). if is_none z then s.editions l else s.editions l + 1) h ∙ sym o.1)) in
      let untouched : (l : ℕ) → c.home l ≡ k → lookup x.writes l ≡ None → (u.parts l ≡ s.parts l)
      × (u.editions l ≡ s.editions l) = λ l q h. (
        part l q ∙ changes_only c f w.outcomes s.parts l ((v.shadows a).fits l h),
        edition l q ∙ ap (λ (z : Option ℕ). if is_none z then s.editions l else s.editions l + 1) h,
      ) in
      let same_known : (l : ℕ) → c.plain l ≡ false → u.parts l ≡ s.parts l → u.editions l ≡ s.editions l → Known c u l (u.editions l)
      (u.parts l) = λ l pl p n.
      keeps.known l (u.editions l) (u.parts l)
      (subst (λ (z : ℕ). Known c s l z (u.parts l)) (sym n) (subst (Known c s l (s.editions l)) (sym p) (v.known l pl))) in
      record {
        inv = record {
          machine = v.machine;
          first = v.first;
          same = v.same;
          ends = v.ends;
          fits = v.fits;
          exact = v.exact;
          edition = v.edition;
          known = λ l pl. elim (cases_eq (c.home l) k) [
            | inr ne ↦ same_known l pl (part_else l ne) (edition_else l ne)
            | inl q ↦ elim (some_or (lookup x.writes l)) [
              | inl h ↦ (let z = untouched l q h in same_known l pl z.0 z.1)
              | inr h ↦ (let z = written l h.0 pl q h.1 in
                  keeps.known l (u.editions l) (u.parts l)
                  (subst (λ (i : ℕ). Known c s l i (u.parts l)) (sym z.1)
                  (subst (Known c s l (finals (words s.history) l (s.first l))) (sym z.0) (known_now s l v pl))))
            ]
          ];
          at_home = λ l pl none. elim (cases_eq (c.home l) k) [
            | inr ne ↦ (let z = v.at_home l pl (λ b hf g. none b hf (put-other s.gates k None (c.home l) ne ∙ g)) in
                (z.0 ∙ sym (part_else l ne), z.1 ∙ sym (edition_else l ne)))
            | inl q ↦ elim (some_or (lookup x.writes l)) [
              | inl h ↦ (let z = untouched l q h in
                  let o = v.at_home l pl
                  (λ b hf g. (let d : Some a ≡ Some b = sym (mine_at l q) ∙ g in let i : a ≡ b = cc in
                  ap (λ (j : ℕ). lookup (s.words.actors j).writes l) (sym i) ∙ h)) in
                  (o.0 ∙ sym z.0, o.1 ∙ sym z.1))
              | inr h ↦ (let z = written l h.0 pl q h.1 in (sym z.0, sym z.1))
            ]
          ];
          owed = λ b l n pl hf g h. elim (cases_eq (c.home l) k) [
            | inl q ↦ (let d : None ≡ Some b = sym (put-same s.gates k None) ∙ ap (put s.gates k None) (sym q) ∙ g in cc)
            | inr ne ↦ (let z = v.owed b l n pl hf (sym (put-other s.gates k None (c.home l) ne) ∙ g) h in (
              z.0 ∙ changes_home c f (s.shadows b).outcomes s.parts u.parts l (λ i hi. sym (part_else i (λ q. ne (sym hi ∙ q)))),
              z.1 ∙ ap (λ (i : ℕ). i + 1) (sym (edition_else l ne)),
            ))
          ];
          shadows = λ b. ShadowOk-kept c s u (s.words.actors b).calls (s.words.actors b).writes (s.shadows b) keeps (v.shadows b);
          gates = λ b. record {
            taken = λ p l n pl h. elim (cases_eq (c.home l) k) [
              | inl q ↦ (let d : Some a ≡ Some b = sym (mine_at l q) ∙ (v.gates b).taken p l n pl h in let i : a ≡ b = cc in
                  absurd (let z : IsFirst (Store []) = subst IsFirst (ap (λ (j : ℕ). (s.words.actors j).place) (sym i) ∙ e) p in z))
              | inr ne ↦ put-other s.gates k None (c.home l) ne ∙ (v.gates b).taken p l n pl h
            ];
            given = λ p l n pl h g. elim (cases_eq (c.home l) k) [
              | inl q ↦ (let d : None ≡ Some b = sym (put-same s.gates k None) ∙ ap (put s.gates k None) (sym q) ∙ g in cc)
              | inr ne ↦ (v.gates b).given p l n pl h (sym (put-other s.gates k None (c.home l) ne) ∙ g)
            ];
          };
          records = records_kept c s u s.history keeps v.records;
          aborted = aborted_kept c s u s.aborted keeps v.aborted;
        };
        keeps = keeps;
      }
    where
      some_or : (o : Option ℕ) → (o ≡ None) ⊎ ((n : ℕ) × (o ≡ Some n))
      some_or None = inl refl
      some_or (Some n) = inr (n, refl)

  pub home_led : (s : Boosted X Out) (a k : ℕ) → Inv c s → Led c s (go_home c s a k)
  home_led s a k v =
      cond_both (is_actor a (s.gates k) && is_stored (s.words.actors a).place) (homed c s a k) s (Led c s)
      (λ t. let b = and_parts (is_actor a (s.gates k)) (is_stored (s.words.actors a).place) t in
      homed_led s a k v (actor_is a (s.gates k) b.0) (stored_is (s.words.actors a).place b.1))
      (λ _. led_none c s v)

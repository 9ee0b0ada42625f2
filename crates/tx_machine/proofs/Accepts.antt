-- A call that is accepted. Its word requests leave the history and the other actors, and put the next edition of each
-- location that it writes into the write set. What it reads was copied with the edition that was read, so it is known and good
-- at `rv`; by the frame laws the outcome is legal wherever the parts that it reads are these.
use Rattle.std.proofs.Common.{◌≡◌, ℕ, ◌+◌, Bool, true, false, Some, None, List, [], ◌∷◌, ◌++◌, ◌⊎◌, inl, inr, refl, sym, ap, ◌∙◌, subst}
use Rattle.std.specs.Prelude.{◌&&◌}
use Rattle.std.proofs.lemmas.Bool.{cond_both, and_parts}
use Rattle.tx_sets.specs.Entries.{lookup, with_entry}
use Rattle.tx_machine.specs.Actor.{Write, Place, Open, Actor}
use Rattle.tx_machine.specs.Requests.{wrote, write, AskWrite, ask}
use Rattle.tx_machine.specs.World.{put, World, now, Ask, happens, run}
use Rattle.tx_machine.specs.Opacity.{IsHalfDone}
use Rattle.tx_machine.proofs.Sets.{put-same, put-other, with_entry_cases, lookup-with_entry_same, lookup-with_entry_other}
use Rattle.tx_machine.proofs.Invariant.{Good}
use Rattle.tx_machine.proofs.Invariant as machine
use Rattle.tx_machine.specs.Opacity.{first_read}
use Rattle.tx_machine.proofs.Calls.{first_read-more}
use Rattle.tx_machine.proofs.Frame.{Moved}
use Rattle.tx_machine.proofs.Schedules.{happens_ok}
use Rattle.tx_machine.specs.Content.{Content, IsIn, Frame}
use Rattle.tx_machine.specs.Boosted.{Shadow, Boosted, changes, is_open, is_edition, is_sound, every, writes_asked, may_write}
use Rattle.tx_machine.specs.Boosted.{longer, accepted}
use Rattle.tx_machine.proofs.BoostedFrame.{worded, Led, no_commit}
use Rattle.tx_machine.specs.Serial.{IsRead}
use Rattle.tx_machine.proofs.Parts.{AllOut_map, changes_agree, AreLegal-add, IsRead-add, IsRead-old, IsRead-new, IsWritten-old}
use Rattle.tx_machine.proofs.Parts.{IsWritten-new, Untouched-add, all_read}
use Rattle.tx_machine.proofs.BoostedInvariant.{IsFirst, IsRelease, Inv}
use Rattle.tx_machine.proofs.BoostedQuiet.{led_none, every_in, edition_is, open_is}

-- What the writes of a call leave.
pub record Asked (s : World) (a : ℕ) (editions : ℕ → ℕ) (ls : List ℕ) (t : World) : Type 0 where
  pub inv : machine.Inv t
  pub opening : t.opening ≡ s.opening
  pub good : (n l v : ℕ) → Good s n l v → Good t n l v
  pub history : t.history ≡ s.history
  pub aborted : t.aborted ≡ s.aborted
  pub others : (b : ℕ) → (b ≡ a → ⊥) → t.actors b ≡ s.actors b
  pub place : (t.actors a).place ≡ Open
  pub calls : (l e : ℕ) → first_read (s.actors a).calls l ≡ Some e → first_read (t.actors a).calls l ≡ Some e
  pub writes : (l u : ℕ) → lookup (t.actors a).writes l ≡ Some u → (IsIn l ls × (u ≡ editions l + 1))
      ⊎ (lookup (s.actors a).writes l ≡ Some u)
  pub none : (l : ℕ) → lookup (t.actors a).writes l ≡ None → (IsIn l ls → ⊥) × (lookup (s.actors a).writes l ≡ None)

pub asked : (s : World) (a : ℕ) (editions : ℕ → ℕ) (ls : List ℕ) → machine.Inv s → (s.actors a).place ≡ Open
    → ((l : ℕ) → IsIn l ls → (s.actors a).declared ≡ false) → Asked s a editions ls (run (writes_asked a editions ls) s)
asked s a editions [] v e d = record {
  inv = v;
  opening = refl;
  good = λ n l u g. g;
  history = refl;
  aborted = refl;
  others = λ b ne. refl;
  place = e;
  calls = λ i u h. h;
  writes = λ l u h. inr h;
  none = λ l h. ((λ m. m), h);
}
asked s a editions (l ∷ ls) v e d =
    let x = s.actors a in
    let y = wrote x l (editions l + 1) in
    let s2 : World = now s a y in
    let is : happens s (Ask a (AskWrite l (editions l + 1))) ≡ s2 = ap (λ (p : Place). now s a (ask x p (AskWrite l (editions l + 1)))) e
    ∙ ap (λ (b : Bool). now s a (write x b l (editions l + 1))) (d l (inl refl)) in
    let m : Moved s a s2 = subst (Moved s a) is (happens_ok s (Ask a (AskWrite l (editions l + 1))) v) in
    let own : s2.actors a ≡ y = put-same s.actors a y in
    let q = asked s2 a editions ls m.inv (ap (λ (z : Actor). z.place) own) (λ i m. ap (λ (z : Actor). z.declared) own ∙ d i (inr m)) in
    let had : (i : ℕ) → lookup (s2.actors a).writes i ≡ lookup (with_entry x.writes l (editions l + 1)) i = λ i. ap
    (λ (z : Actor). lookup z.writes i) own in
    subst (λ (z : World). Asked s a editions (l ∷ ls) (run (writes_asked a editions ls) z)) (sym is) (record {
      inv = q.inv;
      opening = q.opening;
      good = λ n i u g. q.good n i u (m.keeps.good n i u g);
      history = q.history;
      aborted = q.aborted;
      others = λ b ne. q.others b ne ∙ put-other s.actors a y b ne;
      place = q.place;
      calls = λ i u h. q.calls i u
          (ap (λ (z : Actor). first_read z.calls i) own ∙ first_read-more x.calls (Write l (editions l + 1) ∷ []) i u h);
      writes = λ i u h. elim (q.writes i u h) [
        | inl z ↦ inl (inr z.0, z.1)
        | inr z ↦ elim (with_entry_cases x.writes l (editions l + 1) i u (sym (had i) ∙ z)) [
          | inl w ↦ inl (inl w.0, w.1 ∙ ap (λ (n : ℕ). editions n + 1) (sym w.0))
          | inr w ↦ inr w.1
        ]
      ];
      none = λ i h. (
          let z = q.none i h in
          let ne : i ≡ l → ⊥ = λ w. (let d : Some (editions l + 1) ≡ None = sym (lookup-with_entry_same x.writes l (editions l + 1))
          ∙ ap (lookup (with_entry x.writes l (editions l + 1))) (sym w) ∙ sym (had i) ∙ z.1 in cc) in (
            (λ k. elim k [ inl w ↦ ne w | inr w ↦ z.0 w ]),
            sym (lookup-with_entry_other x.writes l (editions l + 1) i ne) ∙ sym (had i) ∙ z.1,
          ));
    })

-- who may write there is no declared reader
may : (declared : Bool) (ls : List ℕ) (l : ℕ) → may_write declared ls ≡ true → IsIn l ls → declared ≡ false
may declared [] l h m = absurd m
may true (k ∷ ks) l h m = (let b : ⊥ = cc in absurd b)
may false (k ∷ ks) l h m = refl

module _ {X Op Out : Type 0} (c : Content X Op Out) (f : Frame c) where
  accept_open : (s : Boosted X Out) (a : ℕ) (op : Op) → Inv c s → (s.words.actors a).place ≡ Open
      → may_write (s.words.actors a).declared (c.writes (c.outcome (changes c (s.shadows a).outcomes (s.shadows a).parts) op)) ≡ true
      → every (is_sound c s a) (c.reads (c.outcome (changes c (s.shadows a).outcomes (s.shadows a).parts) op)) ≡ true
      → Led c s (worded s (run
      (writes_asked a (s.shadows a).editions (c.writes (c.outcome (changes c (s.shadows a).outcomes (s.shadows a).parts) op))) s.words)
      (put s.shadows a (longer (s.shadows a) (c.outcome (changes c (s.shadows a).outcomes (s.shadows a).parts) op))) s.history s.aborted)
  accept_open s a op v e may_all all =
      let x = s.words.actors a in
      let w = s.shadows a in
      let g = v.shadows a in
      let here : ℕ → X = changes c w.outcomes w.parts in
      let o : Out = c.outcome here op in
      let w2 : Shadow X Out = longer w o in
      let t : World = run (writes_asked a w.editions (c.writes o)) s.words in
      let sound : (l : ℕ) → IsIn l (c.reads o) → (w.copied l ≡ true) × (first_read x.calls l ≡ Some (w.editions l)) = λ l m. (
      let b = and_parts (w.copied l) (is_edition (w.editions l) (first_read x.calls l)) (every_in (is_sound c s a) (c.reads o) l all m) in
      (b.0, edition_is (w.editions l) (first_read x.calls l) b.1)) in
      let q : Asked s.words a w.editions (c.writes o) t = asked s.words a w.editions (c.writes o) v.machine e
      (λ l m. may x.declared (c.writes o) l may_all m) in
      let not_half : (p : Place) → p ≡ Open → IsHalfDone p → ⊥ = λ p is h. (let z : IsHalfDone Open = subst IsHalfDone is h in z) in
      no_commit c s a t w2 (put s.shadows a w2) s.aborted v (record {
        machine = q.inv;
        opening = q.opening;
        good = q.good;
        history = q.history;
        others = q.others;
        half = λ h. absurd (not_half (t.actors a).place q.place h);
        back = λ h. absurd (not_half x.place e h);
        shadow = record {
          known = g.known;
          sets = λ l r. elim (IsRead-add c f w.outcomes o l r) [
            | inl z ↦ (let k = g.sets l z in (k.0, q.calls l (w.editions l) k.1))
            | inr z ↦ (let k = sound l z in (k.0, q.calls l (w.editions l) k.1))
          ];
          wrote = λ l u pl h. elim (q.writes l u h) [
            | inl z ↦ (z.1, IsRead-new c f w.outcomes o l (f.read o l z.0), IsWritten-new c w.outcomes o l z.0)
            | inr z ↦ (let k = g.wrote l u pl z in (k.0, IsRead-old c f w.outcomes o l k.1, IsWritten-old c w.outcomes o l k.2))
          ];
          fits = λ l h. (let z = q.none l h in Untouched-add c f w.outcomes o l (g.fits l z.1) z.0);
          legal = λ u agree.
              AreLegal-add c f w.outcomes o u (g.legal u (λ l r. agree l (IsRead-old c f w.outcomes o l r)))
              (ap (c.outcome (changes c w.outcomes u)) (f.asked here op)
              ∙ f.legal here (changes c w.outcomes u) op (λ l m.
              changes_agree c f (λ i. IsRead c i (w.outcomes ++ o ∷ [])) w.outcomes w.parts u
              (AllOut_map (λ z. ((i : ℕ) → IsIn i (c.reads z) → IsRead c i w.outcomes))
              (λ z. ((i j : ℕ) → IsRead c i (w.outcomes ++ o ∷ []) → IsIn i (c.writes z) → IsIn j (c.writes z)
              → IsRead c j (w.outcomes ++ o ∷ []))) w.outcomes
              (λ z k i j _ _ n. IsRead-old c f w.outcomes o j (k j (f.read z j n))) (all_read c f w.outcomes))
              (λ i r. sym (agree i r)) l (IsRead-new c f w.outcomes o l m)));
        };
        gates = record {
          taken = λ h. absurd (let z : IsFirst Open = subst IsFirst q.place h in z);
          given = λ h. absurd (let z : IsRelease Open = subst IsRelease q.place h in z);
        };
      }) (put-same s.shadows a w2) (λ b ne. put-other s.shadows a w2 b ne) v.aborted (v.ends ∙ sym q.aborted)

  pub accept_led : (s : Boosted X Out) (a : ℕ) (op : Op) → Inv c s
      → Led c s (accepted c s a (c.outcome (changes c (s.shadows a).outcomes (s.shadows a).parts) op))
  accept_led s a op v =
      let o : Out = c.outcome (changes c (s.shadows a).outcomes (s.shadows a).parts) op in
      let x = s.words.actors a in
      cond_both (is_open x.place && (may_write x.declared (c.writes o) && every (is_sound c s a) (c.reads o)))
      (worded s (run (writes_asked a (s.shadows a).editions (c.writes o)) s.words)
      (put s.shadows a (longer (s.shadows a) o)) s.history s.aborted) s (Led c s)
      (λ t. let b = and_parts (is_open x.place) (may_write x.declared (c.writes o) && every (is_sound c s a) (c.reads o)) t in
      let d = and_parts (may_write x.declared (c.writes o)) (every (is_sound c s a) (c.reads o)) b.1 in
      accept_open s a op v (open_is x.place b.0) d.0 d.1)
      (λ _. led_none c s v)

-- What an action leaves of all the rest: what is known by an edition, what is good at a number, the opening. An action
-- leads to a world in which the invariant holds and all this is kept, and such moves go one after another.
use Rattle.std.proofs.Common.{◌≡◌, ℕ, ◌+◌, true, false, Option, Some, None, List, [], ◌∷◌, ◌⊎◌, inl, inr, refl, sym, ap, ◌∙◌, subst}
use Rattle.std.proofs.lemmas.Bool.{cases_eq}
use Rattle.tx_sets.specs.Entries.{Entries, lookup}
use Rattle.tx_machine.specs.Actor.{Call, Place, First, Store, Release, Actor}
use Rattle.tx_machine.specs.World.{World}
use Rattle.tx_machine.specs.Opacity.{IsHalfDone}
use Rattle.tx_machine.proofs.Records.{finals, base}
use Rattle.tx_machine.proofs.Invariant.{Good}
use Rattle.tx_machine.proofs.Invariant as machine
use Rattle.tx_machine.specs.Content.{Content}
use Rattle.tx_machine.specs.Boosted.{Committed, Aborted, Shadow, Boosted, changes, gated, is_committing}
use Rattle.tx_machine.specs.Serial.{words, ended, views, AllAborted}
use Rattle.tx_machine.proofs.BoostedInvariant.{Known, SawParts, ShadowOk, IsFirst, IsRelease, GatesOk, IsHome, AllCommitted, Inv}

-- the words are t now, and these the shadows and the transactions that have ended
abbrev pub worded : {X Out : Type 0} → Boosted X Out → World → (ℕ → Shadow X Out) → List (Committed Out) → List (Aborted Out)
    → Boosted X Out
worded s t shadows history aborted = record s { words = t; shadows = shadows; history = history; aborted = aborted }

-- What every action keeps.
pub record Keeps {X Op Out : Type 0} (c : Content X Op Out) (s t : Boosted X Out) : Type 0 where
  pub known : (l e : ℕ) (p : X) → Known c s l e p → Known c t l e p
  pub good : (n l v : ℕ) → Good s.words n l v → Good t.words n l v
  pub opening : t.opening ≡ s.opening
  pub first : t.first ≡ s.first

-- What an action leads to.
pub record Led {X Op Out : Type 0} (c : Content X Op Out) (s t : Boosted X Out) : Type 0 where
  pub inv : Inv c t
  pub keeps : Keeps c s t

pub by_actor : (P : ℕ → Type 0) (a : ℕ) → P a → ((b : ℕ) → (b ≡ a → ⊥) → P b) → (b : ℕ) → P b
by_actor P a own other b = elim (cases_eq b a) [ inl e ↦ subst P (sym e) own | inr ne ↦ other b ne ]

pub half_committing : (p : Place) → IsHalfDone p → is_committing p ≡ true
half_committing (Store ls) h = refl
half_committing Release h = refl
half_committing p h = absurd h

pub first_committing : (p : Place) → IsFirst p → is_committing p ≡ true
first_committing First h = refl
first_committing p h = absurd h

pub release_committing : (p : Place) → IsRelease p → is_committing p ≡ true
release_committing Release h = refl
release_committing p h = absurd h

-- A step of the words that commits nothing, of actor a, which has the shadow w now.
pub record Quietly {X Op Out : Type 0} (c : Content X Op Out) (s : Boosted X Out) (a : ℕ) (t : World) (w : Shadow X Out) : Type 0 where
  pub machine : machine.Inv t
  pub opening : t.opening ≡ s.words.opening
  pub good : (n l v : ℕ) → Good s.words n l v → Good t n l v
  pub history : t.history ≡ s.words.history
  pub others : (b : ℕ) → (b ≡ a → ⊥) → t.actors b ≡ s.words.actors b
  pub half : IsHalfDone (t.actors a).place → IsHalfDone (s.words.actors a).place × ((t.actors a).writes ≡ (s.words.actors a).writes)
      × (w.outcomes ≡ (s.shadows a).outcomes)
  pub back : IsHalfDone (s.words.actors a).place
      → ((l : ℕ) → c.plain l ≡ false → s.gates (c.home l) ≡ Some a → lookup (s.words.actors a).writes l ≡ None)
      ⊎ (IsHalfDone (t.actors a).place × ((t.actors a).writes ≡ (s.words.actors a).writes))
  pub shadow : ShadowOk c s (t.actors a).calls (t.actors a).writes w
  pub gates : GatesOk c s a (t.actors a).writes (t.actors a).place

module _ {X Op Out : Type 0} (c : Content X Op Out) where
  pub SawParts-kept : (s t : Boosted X Out) (n : ℕ) (os : List Out) → Keeps c s t → SawParts c s n os → SawParts c t n os
  SawParts-kept s t n os k g = record {
    parts = g.parts;
    editions = g.editions;
    known = λ l r. k.known l (g.editions l) (g.parts l) (g.known l r);
    good = λ l r. k.good n l (g.editions l) (g.good l r);
    legal = g.legal;
  }

  pub records_kept : (s t : Boosted X Out) (h : List (Committed Out)) → Keeps c s t
      → AllCommitted (λ r. SawParts c s (base r.word.writer r.word.number) r.outcomes) h
      → AllCommitted (λ r. SawParts c t (base r.word.writer r.word.number) r.outcomes) h
  records_kept s t [] k g = tt
  records_kept s t (r ∷ rs) k g = (SawParts-kept s t (base r.word.writer r.word.number) r.outcomes k g.0, records_kept s t rs k g.1)

  pub aborted_kept : (s t : Boosted X Out) (es : List (Aborted Out)) → Keeps c s t
      → AllAborted (λ e. SawParts c s e.word.rv e.outcomes) es → AllAborted (λ e. SawParts c t e.word.rv e.outcomes) es
  aborted_kept s t [] k g = tt
  aborted_kept s t (e ∷ es) k g = (SawParts-kept s t e.word.rv e.outcomes k g.0, aborted_kept s t es k g.1)

  pub ShadowOk-kept : (s t : Boosted X Out) (calls : List Call) (writes : Entries) (w : Shadow X Out) → Keeps c s t
      → ShadowOk c s calls writes w → ShadowOk c t calls writes w
  ShadowOk-kept s t calls writes w k g = record {
    known = λ l h. k.known l (w.editions l) (w.parts l) (g.known l h);
    sets = g.sets;
    wrote = g.wrote;
    fits = g.fits;
    legal = g.legal;
  }

  pub no_commit : (s : Boosted X Out) (a : ℕ) (t : World) (w : Shadow X Out) (shadows : ℕ → Shadow X Out) (aborted : List (Aborted Out))
      → Inv c s → Quietly c s a t w
      → shadows a ≡ w → ((b : ℕ) → (b ≡ a → ⊥) → shadows b ≡ s.shadows b) → AllAborted (λ e. SawParts c s e.word.rv e.outcomes) aborted
      → ended aborted ≡ t.aborted → Led c s (worded s t shadows s.history aborted)
  no_commit s a t w shadows aborted v q own other gone ends =
      let u : Boosted X Out = worded s t shadows s.history aborted in
      let k : Keeps c s u = record {
        known = λ l e p g. record { plain = g.plain; past = g.past; knows = g.knows };
        good = q.good;
        opening = refl;
        first = refl;
      } in
      let home : (l : ℕ) → c.plain l ≡ false → IsHome c u l → IsHome c s l = λ l pl none b half g. by_actor
      (λ b. (IsHalfDone (s.words.actors b).place → s.gates (c.home l) ≡ Some b → lookup (s.words.actors b).writes l ≡ None)) a
      (λ half g. elim (q.back half) [
        | inl free ↦ free l pl g
        | inr still ↦ ap (λ (z : Entries). lookup z l) (sym still.1) ∙ none a still.0 g
      ])
      (λ b ne. subst (λ (x : Actor). IsHalfDone x.place → s.gates (c.home l) ≡ Some b → lookup x.writes l ≡ None) (q.others b ne)
      (none b)) b half g in
      record {
        inv = record {
          machine = q.machine;
          first = q.opening ∙ v.first;
          same = v.same ∙ sym q.history;
          ends = ends;
          fits = v.fits;
          exact = v.exact;
          edition = v.edition;
          known = λ l pl. k.known l (s.editions l) (s.parts l) (v.known l pl);
          at_home = λ l pl none. v.at_home l pl (home l pl none);
          owed = λ b l e pl. by_actor
              (λ b. (IsHalfDone (t.actors b).place → s.gates (c.home l) ≡ Some b → lookup (t.actors b).writes l ≡ Some e
              → (views c s.history s.opening l ≡ changes c (shadows b).outcomes s.parts l)
              × (finals (words s.history) l (s.first l) ≡ s.editions l + 1))) a
              (λ half g h. (
              let z = q.half half in
              subst (λ (os : List Out). (views c s.history s.opening l ≡ changes c os s.parts l)
              × (finals (words s.history) l (s.first l) ≡ s.editions l + 1))
              (sym (ap (λ (x : Shadow X Out). x.outcomes) own ∙ z.2))
              (v.owed a l e pl z.0 g (ap (λ (x : Entries). lookup x l) (sym z.1) ∙ h))))
              (λ b ne. subst (λ (x : Actor). IsHalfDone x.place → s.gates (c.home l) ≡ Some b → lookup x.writes l ≡ Some e
              → (views c s.history s.opening l ≡ changes c (shadows b).outcomes s.parts l)
              × (finals (words s.history) l (s.first l) ≡ s.editions l + 1)) (sym (q.others b ne))
              (subst (λ (x : Shadow X Out). IsHalfDone (s.words.actors b).place → s.gates (c.home l) ≡ Some b
              → lookup (s.words.actors b).writes l ≡ Some e → (views c s.history s.opening l ≡ changes c x.outcomes s.parts l)
              × (finals (words s.history) l (s.first l) ≡ s.editions l + 1)) (sym (other b ne)) (v.owed b l e pl))) b;
          shadows = by_actor (λ b. ShadowOk c u (t.actors b).calls (t.actors b).writes (shadows b)) a
              (subst (λ (x : Shadow X Out). ShadowOk c u (t.actors a).calls (t.actors a).writes x) (sym own)
              (ShadowOk-kept s u (t.actors a).calls (t.actors a).writes w k q.shadow))
              (λ b ne. subst (λ (x : Actor). ShadowOk c u x.calls x.writes (shadows b)) (sym (q.others b ne))
              (subst (λ (x : Shadow X Out). ShadowOk c u (s.words.actors b).calls (s.words.actors b).writes x) (sym (other b ne))
              (ShadowOk-kept s u (s.words.actors b).calls (s.words.actors b).writes (s.shadows b) k (v.shadows b))));
          gates = by_actor (λ b. GatesOk c u b (t.actors b).writes (t.actors b).place) a
              (record { taken = q.gates.taken; given = q.gates.given })
              (λ b ne. subst (λ (x : Actor). GatesOk c u b x.writes x.place) (sym (q.others b ne))
              (record { taken = (v.gates b).taken; given = (v.gates b).given }));
          records = records_kept s u s.history k v.records;
          aborted = aborted_kept s u aborted k gone;
        };
        keeps = k;
      }

  -- Gates taken or put back by an actor that isn't committing, which may copy.
  pub gated_ok : (s : Boosted X Out) (gates : ℕ → Option ℕ) (shadows : ℕ → Shadow X Out) → Inv c s
      → ((k b : ℕ) → is_committing (s.words.actors b).place ≡ true → gates k ≡ Some b → s.gates k ≡ Some b)
      → ((k b : ℕ) → is_committing (s.words.actors b).place ≡ true → s.gates k ≡ Some b → gates k ≡ Some b)
      → ((b : ℕ) → ShadowOk c s (s.words.actors b).calls (s.words.actors b).writes (shadows b))
      → ((b : ℕ) → IsHalfDone (s.words.actors b).place → (shadows b).outcomes ≡ (s.shadows b).outcomes)
      → Led c s (gated s gates shadows)
  gated_ok s gates shadows v to from ok same =
      let u : Boosted X Out = gated s gates shadows in
      let k : Keeps c s u = record {
        known = λ l e p g. record { plain = g.plain; past = g.past; knows = g.knows };
        good = λ n l e g. g;
        opening = refl;
        first = refl;
      } in
      record {
        inv = record {
          machine = v.machine;
          first = v.first;
          same = v.same;
          ends = v.ends;
          fits = v.fits;
          exact = v.exact;
          edition = v.edition;
          known = λ l pl. k.known l (s.editions l) (s.parts l) (v.known l pl);
          at_home = λ l pl none. v.at_home l pl
              (λ b half g. none b half (from (c.home l) b (half_committing (s.words.actors b).place half) g));
          owed = λ b l e pl half g h. subst
              (λ (os : List Out). (views c s.history s.opening l ≡ changes c os s.parts l)
              × (finals (words s.history) l (s.first l) ≡ s.editions l + 1)) (sym (same b half))
              (v.owed b l e pl half (to (c.home l) b (half_committing (s.words.actors b).place half) g) h);
          shadows = λ b. ShadowOk-kept s u (s.words.actors b).calls (s.words.actors b).writes (shadows b) k (ok b);
          gates = λ b. record {
            taken = λ p l e pl h. from (c.home l) b (first_committing (s.words.actors b).place p) ((v.gates b).taken p l e pl h);
            given = λ p l e pl h g. (v.gates b).given p l e pl h (to (c.home l) b (release_committing (s.words.actors b).place p) g);
          };
          records = records_kept s u s.history k v.records;
          aborted = aborted_kept s u s.aborted k v.aborted;
        };
        keeps = k;
      }

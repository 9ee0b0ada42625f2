-- The actions that commit nothing and change no base. One lemma says what such an action must leave for the invariant to
-- stand; then each of them, a request, a begin, a step that is no commit, an end, a gate taken or put back, is shown to leave it.
use Rattle.std.proofs.Common.{◌≡◌, ℕ, ◌+◌, ltb, Bool, true, false, Option, Some, None, List, [], ◌∷◌, ◌++◌, ◌⊎◌, inl, inr, refl, sym, ap}
use Rattle.std.proofs.Common.{◌∙◌, subst, true≢false, eqb-true, eq-eqb}
use Rattle.std.specs.Prelude.{◌&&◌, ◌||◌, not, ◌==◌, nat_lt, if◌then◌else◌}
use Rattle.std.proofs.lemmas.Bool.{cases_eq, cases_Bool, cond_both, cond-true, cond-false, and_parts, not-true}
use Rattle.tx_sets.specs.Entries.{Entries, lookup, with_entry, locations}
use Rattle.tx_machine.specs.Actor.{Call, Write, Place, Idle, Begin, Open, Check, First, Store, Release, Leave, Actor, goes, opened}
use Rattle.tx_machine.specs.Actor.{clock_limit}
use Rattle.tx_machine.specs.Requests.{wrote, write, Request, AskBegin, AskBeginRead, AskRead, AskWrite, AskLock, AskStore, AskRelease}
use Rattle.tx_machine.specs.Requests.{AskCancel, AskAbort, AskClose, ask}
use Rattle.tx_machine.specs.World.{put, Ended, World, now, step, Ask}
use Rattle.tx_machine.specs.Opacity.{IsHalfDone, first_read}
use Rattle.tx_machine.proofs.Calls.{first_read-more}
use Rattle.tx_machine.proofs.Saw.{first_read_good}
use Rattle.tx_machine.proofs.Sets.{put_both, put-same, put-other, Member, member_locations, lookup-with_entry_same}
use Rattle.tx_machine.proofs.Sets.{lookup-with_entry_other}
use Rattle.tx_machine.proofs.Invariant as machine
use Rattle.tx_machine.proofs.Frame.{Moved, quiet}
use Rattle.tx_machine.proofs.Quiet.{none_if, lookup-none, ask_ok, begin_ok}
use Rattle.tx_machine.proofs.Schedules.{happens_ok, step_ok}
use Rattle.tx_machine.specs.Content.{Content, IsIn}
use Rattle.tx_machine.specs.Boosted.{Aborted, Shadow, Boosted, on_words, on_ask, fresh, gated, is_committing, is_open, is_actor}
use Rattle.tx_machine.specs.Boosted.{is_none, is_edition, is_held, is_given, is_copied, copied, every, take_gate, put_gate}
use Rattle.tx_machine.specs.Boosted.{word_step}
use Rattle.tx_machine.proofs.BoostedFrame.{worded, Led, Quietly, no_commit, gated_ok, by_actor}
use Rattle.tx_machine.specs.Serial.{IsRead, ended, AllAborted}
use Rattle.tx_machine.proofs.BoostedInvariant.{Known, SawParts, ShadowOk, GatesOk, Inv}
use Rattle.tx_machine.proofs.Steady.{Steady, steady, same_to, IsFreeAsk, ask_to, step_steady}

pub every_at : (test : ℕ → Bool) (ls : List ℕ) (l : ℕ) → every test ls ≡ true → Member l ls → test l ≡ true
every_at test [] l h m = absurd m
every_at test (k ∷ ks) l h m =
    let b = and_parts (test k) (every test ks) h in
    elim m [ inl e ↦ ap test e ∙ b.0 | inr r ↦ every_at test ks l b.1 r ]

pub every_in : (test : ℕ → Bool) (ls : List ℕ) (l : ℕ) → every test ls ≡ true → IsIn l ls → test l ≡ true
every_in test [] l h m = absurd m
every_in test (k ∷ ks) l h m =
    let b = and_parts (test k) (every test ks) h in
    elim m [ inl e ↦ ap test e ∙ b.0 | inr r ↦ every_in test ks l b.1 r ]

pub actor_is : (a : ℕ) (o : Option ℕ) → is_actor a o ≡ true → o ≡ Some a
actor_is a (Some b) h = ap Some (sym (eqb-true a b h))
actor_is a None h = absurd (true≢false (sym h))

is_actor_of : (a : ℕ) (o : Option ℕ) → o ≡ Some a → is_actor a o ≡ true
is_actor_of a o h = ap (is_actor a) h ∙ eq-eqb a a refl

held_gate : (p : Bool) (a : ℕ) (o : Option ℕ) → (p || is_actor a o) ≡ true → p ≡ false → o ≡ Some a
held_gate true a o h f = absurd (true≢false f)
held_gate false a o h f = actor_is a o h

given_gate : (p : Bool) (a : ℕ) (o : Option ℕ) → (p || not (is_actor a o)) ≡ true → p ≡ false → o ≡ Some a → ⊥
given_gate true a o h f g = true≢false f
given_gate false a o h f g = true≢false (sym (is_actor_of a o g) ∙ not-true (is_actor a o) h)

pub edition_is : (e : ℕ) (o : Option ℕ) → is_edition e o ≡ true → o ≡ Some e
edition_is e (Some v) h = ap Some (sym (eqb-true e v h))
edition_is e None h = absurd (true≢false (sym h))

pub none_is : (o : Option ℕ) → is_none o ≡ true → o ≡ None
none_is None h = refl
none_is (Some k) h = absurd (true≢false (sym h))

pub open_is : (p : Place) → is_open p ≡ true → p ≡ Open
open_is Open h = refl
open_is p h = absurd (true≢false (sym h))

module _ {X Op Out : Type 0} (c : Content X Op Out) where
  pub led_none : (s : Boosted X Out) → Inv c s → Led c s s
  led_none s v = record { inv = v; keeps = record { known = λ l e p g. g; good = λ n l e g. g; opening = refl; first = refl } }

  -- actor a is y now
  quietly : (s : Boosted X Out) (a : ℕ) (t : World) (y : Actor) (w : Shadow X Out) → Moved s.words a t → t.history ≡ s.words.history
      → ((b : ℕ) → (b ≡ a → ⊥) → t.actors b ≡ s.words.actors b) → t.actors a ≡ y
      → (IsHalfDone y.place → IsHalfDone (s.words.actors a).place × (y.writes ≡ (s.words.actors a).writes)
      × (w.outcomes ≡ (s.shadows a).outcomes))
      → (IsHalfDone (s.words.actors a).place
      → ((l : ℕ) → c.plain l ≡ false → s.gates (c.home l) ≡ Some a → lookup (s.words.actors a).writes l ≡ None)
      ⊎ (IsHalfDone y.place × (y.writes ≡ (s.words.actors a).writes)))
      → ShadowOk c s y.calls y.writes w → GatesOk c s a y.writes y.place → Quietly c s a t w
  quietly s a t y w m h others own half back ok gates = record {
    machine = m.inv;
    opening = m.opening;
    good = m.keeps.good;
    history = h;
    others = others;
    half = subst (λ (z : Actor). IsHalfDone z.place → IsHalfDone (s.words.actors a).place × (z.writes ≡ (s.words.actors a).writes)
        × (w.outcomes ≡ (s.shadows a).outcomes)) (sym own) half;
    back = subst (λ (z : Actor). IsHalfDone (s.words.actors a).place
        → ((l : ℕ) → c.plain l ≡ false → s.gates (c.home l) ≡ Some a → lookup (s.words.actors a).writes l ≡ None)
        ⊎ (IsHalfDone z.place × (z.writes ≡ (s.words.actors a).writes))) (sym own) back;
    shadow = subst (λ (z : Actor). ShadowOk c s z.calls z.writes w) (sym own) ok;
    gates = subst (λ (z : Actor). GatesOk c s a z.writes z.place) (sym own) gates;
  }

  -- the sets after the step
  ShadowOk-sets : (s : Boosted X Out) (x y : Actor) (w : Shadow X Out)
      → ((l e : ℕ) → first_read x.calls l ≡ Some e → first_read y.calls l ≡ Some e) → y.writes ≡ x.writes
      → ShadowOk c s x.calls x.writes w → ShadowOk c s y.calls y.writes w
  ShadowOk-sets s x y w r e g = record {
    known = g.known;
    sets = λ l i. (let z = g.sets l i in (z.0, r l (w.editions l) z.1));
    wrote = λ l u pl h. g.wrote l u pl (ap (λ (z : Entries). lookup z l) (sym e) ∙ h);
    fits = λ l h. g.fits l (ap (λ (z : Entries). lookup z l) (sym e) ∙ h);
    legal = g.legal;
  }

  pub steady_led : (s : Boosted X Out) (a : ℕ) (t : World) (aborted : List (Aborted Out)) → Inv c s → Moved s.words a t
      → Steady s.words a t → AllAborted (λ e. SawParts c s e.word.rv e.outcomes) aborted → ended aborted ≡ t.aborted
      → Led c s (worded s t s.shadows s.history aborted)
  steady_led s a t aborted v m k gone ends =
      let same : (l : ℕ) → lookup (t.actors a).writes l ≡ lookup (s.words.actors a).writes l = λ l. ap
      (λ (z : Entries). lookup z l) k.own.writes in
      no_commit c s a t (s.shadows a) s.shadows aborted v (quietly s a t (t.actors a) (s.shadows a) m k.history k.others refl
      (λ h. (k.own.half h, k.own.writes, refl))
      (λ h. elim (k.own.back h) [
        | inl z ↦ inr (z, k.own.writes)
        | inr z ↦ inl (λ l pl g. none_if (lookup (s.words.actors a).writes l) (λ u q. (v.gates a).given z l u pl q g))
      ])
      (ShadowOk-sets s (s.words.actors a) (t.actors a) (s.shadows a) k.own.calls k.own.writes (v.shadows a))
      (record {
        taken = λ p l u pl h. (v.gates a).taken (k.own.first p) l u pl (sym (same l) ∙ h);
        given = λ p l u pl h. (v.gates a).given (k.own.release p) l u pl (sym (same l) ∙ h);
      })) refl (λ b ne. refl) gone ends

  -- a request that changes no set
  free_led : (s : Boosted X Out) (a : ℕ) (r : Request) → Inv c s → IsFreeAsk r
      → Led c s (on_words s (now s.words a (ask (s.words.actors a) (s.words.actors a).place r)))
  free_led s a r v f =
      let x = s.words.actors a in
      steady_led s a (now s.words a (ask x x.place r)) s.aborted v (happens_ok s.words (Ask a r) v.machine)
      (steady s.words a (ask x x.place r) (ask_to x x.place r refl f)) v.aborted v.ends

  moved_ask : (s : Boosted X Out) (a : ℕ) (p : Place) (r : Request) → Inv c s → (s.words.actors a).place ≡ p → Moved s.words a
      (now s.words a (ask (s.words.actors a) p r))
  moved_ask s a p r v e = quiet s.words a (ask (s.words.actors a) p r) v.machine
      (ask_ok s.words a p r v.machine e (subst (machine.PlaceOk s.words (s.words.actors a)) e (v.machine.actors a).place))

  same_led : (s : Boosted X Out) (a : ℕ) → Inv c s → Moved s.words a (now s.words a (s.words.actors a))
      → Led c s (on_words s (now s.words a (s.words.actors a)))
  same_led s a v m = steady_led s a (now s.words a (s.words.actors a)) s.aborted v m
      (steady s.words a (s.words.actors a) (same_to (s.words.actors a))) v.aborted v.ends

  -- a declared reader writes nothing
  write_open : (s : Boosted X Out) (a l u : ℕ) (declared : Bool) → Inv c s → (s.words.actors a).place ≡ Open → (s.words.actors a).declared
      ≡ declared → c.plain l ≡ true → Led c s (on_words s (now s.words a (write (s.words.actors a) declared l u)))
  write_open s a l u true v e d pl = same_led s a v
      (subst (λ (b : Bool). Moved s.words a (now s.words a (write (s.words.actors a) b l u))) d (moved_ask s a Open (AskWrite l u) v e))
  write_open s a l u false v e d pl =
      let x = s.words.actors a in
      let other : (i : ℕ) → c.plain i ≡ false → i ≡ l → ⊥ = λ i f q. true≢false (sym pl ∙ ap c.plain (sym q) ∙ f) in
      no_commit c s a (now s.words a (wrote x l u)) (s.shadows a) s.shadows s.aborted v
      (quietly s a (now s.words a (wrote x l u)) (wrote x l u) (s.shadows a)
      (subst (λ (b : Bool). Moved s.words a (now s.words a (write x b l u))) d (moved_ask s a Open (AskWrite l u) v e)) refl
      (λ b ne. put-other s.words.actors a (wrote x l u) b ne) (put-same s.words.actors a (wrote x l u))
      (λ h. absurd h)
      (λ h. absurd (let z : IsHalfDone Open = subst IsHalfDone e h in z))
      (record {
        known = (v.shadows a).known;
        sets = λ i r. (let z = (v.shadows a).sets i r in (z.0, first_read-more x.calls (Write l u ∷ []) i ((s.shadows a).editions i) z.1));
        wrote = λ i k f h. (v.shadows a).wrote i k f (sym (lookup-with_entry_other x.writes l u i (other i f)) ∙ h);
        fits = λ i h. (v.shadows a).fits i (elim (cases_eq i l) [
          | inl q ↦ (let z : Some u ≡ None = sym (lookup-with_entry_same x.writes l u) ∙ ap (lookup (with_entry x.writes l u)) (sym q)
              ∙ h in cc)
          | inr ne ↦ sym (lookup-with_entry_other x.writes l u i ne) ∙ h
        ]);
        legal = (v.shadows a).legal;
      })
      (record { taken = λ h. absurd h; given = λ h. absurd h })) refl (λ b ne. refl) v.aborted v.ends

  write_led : (s : Boosted X Out) (a l u : ℕ) (p : Place) → Inv c s → (s.words.actors a).place ≡ p → c.plain l ≡ true
      → Led c s (on_words s (now s.words a (ask (s.words.actors a) p (AskWrite l u))))
  write_led s a l u Open v e pl = write_open s a l u (s.words.actors a).declared v e refl pl
  write_led s a l u (Store []) v e pl = same_led s a v (moved_ask s a (Store []) (AskWrite l u) v e)
  write_led s a l u (Store (m ∷ ms)) v e pl = same_led s a v (moved_ask s a (Store (m ∷ ms)) (AskWrite l u) v e)
  write_led s a l u (Check []) v e pl = same_led s a v (moved_ask s a (Check []) (AskWrite l u) v e)
  write_led s a l u (Check (m ∷ ms)) v e pl = same_led s a v (moved_ask s a (Check (m ∷ ms)) (AskWrite l u) v e)
  write_led s a l u p v e pl = same_led s a v (moved_ask s a p (AskWrite l u) v e)

  store_led : (s : Boosted X Out) (a : ℕ) (p : Place) → Inv c s → (s.words.actors a).place ≡ p → every (is_held c s a)
      (locations (s.words.actors a).writes) ≡ true → Led c s (on_words s (now s.words a (ask (s.words.actors a) p AskStore)))
  store_led s a (Check []) v e all =
      let x = s.words.actors a in
      no_commit c s a (now s.words a (goes x First)) (s.shadows a) s.shadows s.aborted v
      (quietly s a (now s.words a (goes x First)) (goes x First) (s.shadows a) (moved_ask s a (Check []) AskStore v e) refl
      (λ b ne. put-other s.words.actors a (goes x First) b ne) (put-same s.words.actors a (goes x First))
      (λ h. absurd h)
      (λ h. absurd (let z : IsHalfDone (Check []) = subst IsHalfDone e h in z))
      (ShadowOk-sets s x (goes x First) (s.shadows a) (λ l u h. h) refl (v.shadows a))
      (record {
        taken = λ _ l u pl h. held_gate (c.plain l) a (s.gates (c.home l))
            (every_at (is_held c s a) (locations x.writes) l all (member_locations x.writes l u h)) pl;
        given = λ h. absurd h;
      })) refl (λ b ne. refl) v.aborted v.ends
  store_led s a (Store []) v e all = same_led s a v (moved_ask s a (Store []) AskStore v e)
  store_led s a (Store (m ∷ ms)) v e all = same_led s a v (moved_ask s a (Store (m ∷ ms)) AskStore v e)
  store_led s a (Check (m ∷ ms)) v e all = same_led s a v (moved_ask s a (Check (m ∷ ms)) AskStore v e)
  store_led s a p v e all = same_led s a v (moved_ask s a p AskStore v e)

  release_led : (s : Boosted X Out) (a : ℕ) (p : Place) → Inv c s → (s.words.actors a).place ≡ p → every (is_given c s a)
      (locations (s.words.actors a).writes) ≡ true → Led c s (on_words s (now s.words a (ask (s.words.actors a) p AskRelease)))
  release_led s a (Store []) v e all =
      let x = s.words.actors a in
      no_commit c s a (now s.words a (goes x Release)) (s.shadows a) s.shadows s.aborted v
      (quietly s a (now s.words a (goes x Release)) (goes x Release) (s.shadows a) (moved_ask s a (Store []) AskRelease v e) refl
      (λ b ne. put-other s.words.actors a (goes x Release) b ne) (put-same s.words.actors a (goes x Release))
      (λ h. (subst IsHalfDone (sym e) tt, refl, refl))
      (λ h. inr (tt, refl))
      (ShadowOk-sets s x (goes x Release) (s.shadows a) (λ l u h. h) refl (v.shadows a))
      (record {
        taken = λ h. absurd h;
        given = λ _ l u pl h. given_gate (c.plain l) a (s.gates (c.home l))
            (every_at (is_given c s a) (locations x.writes) l all (member_locations x.writes l u h)) pl;
      })) refl (λ b ne. refl) v.aborted v.ends
  release_led s a p v e all = same_led s a v (moved_ask s a p AskRelease v e)

  pub ask_led : (s : Boosted X Out) (a : ℕ) (r : Request) → Inv c s → Led c s (on_ask c s a r)
  ask_led s a (AskWrite l u) v =
      let x = s.words.actors a in
      cond_both (c.plain l) (on_words s (now s.words a (ask x x.place (AskWrite l u)))) s (Led c s)
      (λ t. write_led s a l u x.place v refl t) (λ _. led_none s v)
  ask_led s a AskStore v =
      let x = s.words.actors a in
      cond_both (every (is_held c s a) (locations x.writes)) (on_words s (now s.words a (ask x x.place AskStore))) s (Led c s)
      (λ t. store_led s a x.place v refl t) (λ _. led_none s v)
  ask_led s a AskRelease v =
      let x = s.words.actors a in
      cond_both (every (is_given c s a) (locations x.writes)) (on_words s (now s.words a (ask x x.place AskRelease))) s (Led c s)
      (λ t. release_led s a x.place v refl t) (λ _. led_none s v)
  ask_led s a AskBegin v = free_led s a AskBegin v tt
  ask_led s a AskBeginRead v = free_led s a AskBeginRead v tt
  ask_led s a AskLock v = free_led s a AskLock v tt
  ask_led s a AskCancel v = free_led s a AskCancel v tt
  ask_led s a AskAbort v = free_led s a AskAbort v tt
  ask_led s a AskClose v = free_led s a AskClose v tt
  ask_led s a (AskRead l) v = free_led s a (AskRead l) v tt

  -- a new transaction
  pub begin_led : (s : Boosted X Out) (a : ℕ) → Inv c s → (s.words.actors a).place ≡ Begin → (s.words.actors a).held ≡ []
      → Led c s (word_step s a (s.words.actors a) Begin)
  begin_led s a v e none =
      let x = s.words.actors a in
      let b = ltb s.words.clock clock_limit in
      let m = begin_ok s.words a v.machine e none in
      elim (cases_Bool b) [
        | inl t ↦
            (let y = opened x.declared s.words.clock in
            let pick : (if nat_lt s.words.clock clock_limit then y else goes x Idle) ≡ y = cond-true b y (goes x Idle) t in
            subst (λ (z : Actor). Led c s
            (worded s (now s.words a z)
            (if nat_lt s.words.clock clock_limit then put s.shadows a (fresh s) else s.shadows) s.history s.aborted)) (sym pick)
            (subst (λ (z : ℕ → Shadow X Out). Led c s (worded s (now s.words a y) z s.history s.aborted))
            (sym (cond-true b (put s.shadows a (fresh s)) s.shadows t))
            (no_commit c s a (now s.words a y) (fresh s) (put s.shadows a (fresh s)) s.aborted v
            (quietly s a (now s.words a y) y (fresh s) (subst (λ (z : Actor). Moved s.words a (now s.words a z)) pick m) refl
            (λ i ne. put-other s.words.actors a y i ne) (put-same s.words.actors a y)
            (λ h. absurd h)
            (λ h. absurd (let z : IsHalfDone Begin = subst IsHalfDone e h in z))
            (record {
              known = λ l h. absurd (true≢false (sym h));
              sets = λ l h. absurd h;
              wrote = λ l u pl h. absurd (lookup-none [] l u refl h);
              fits = λ l h. tt;
              legal = λ w h. tt;
            })
            (record { taken = λ h. absurd h; given = λ h. absurd h }))
            (put-same s.shadows a (fresh s)) (λ i ne. put-other s.shadows a (fresh s) i ne) v.aborted v.ends)))
        | inr t ↦
            (let y = goes x Idle in
            let pick : (if nat_lt s.words.clock clock_limit then opened x.declared s.words.clock else y) ≡ y = cond-false b
            (opened x.declared s.words.clock) y t in
            subst (λ (z : Actor). Led c s
            (worded s (now s.words a z)
            (if nat_lt s.words.clock clock_limit then put s.shadows a (fresh s) else s.shadows) s.history s.aborted)) (sym pick)
            (subst (λ (z : ℕ → Shadow X Out). Led c s (worded s (now s.words a y) z s.history s.aborted))
            (sym (cond-false b (put s.shadows a (fresh s)) s.shadows t))
            (no_commit c s a (now s.words a y) (s.shadows a) s.shadows s.aborted v
            (quietly s a (now s.words a y) y (s.shadows a) (subst (λ (z : Actor). Moved s.words a (now s.words a z)) pick m) refl
            (λ i ne. put-other s.words.actors a y i ne) (put-same s.words.actors a y)
            (λ h. absurd h)
            (λ h. absurd (let z : IsHalfDone Begin = subst IsHalfDone e h in z))
            (ShadowOk-sets s x y (s.shadows a) (λ l u h. h) refl (v.shadows a))
            (record { taken = λ h. absurd h; given = λ h. absurd h }))
            refl (λ i ne. refl) v.aborted v.ends)))
      ]

  AllAborted-add : (P : Aborted Out → Type 0) (es : List (Aborted Out)) (e : Aborted Out) → AllAborted P es → P e
      → AllAborted P (es ++ e ∷ [])
  AllAborted-add P [] e g p = (p, tt)
  AllAborted-add P (x ∷ es) e g p = (g.0, AllAborted-add P es e g.1 p)

  ended-add : (es : List (Aborted Out)) (e : Aborted Out) → ended (es ++ e ∷ []) ≡ ended es ++ e.word ∷ []
  ended-add [] e = refl
  ended-add (x ∷ es) e = ap (λ (z : List Ended). x.word ∷ z) (ended-add es e)

  pub saw_open : (s : Boosted X Out) (a : ℕ) → Inv c s → SawParts c s (s.words.actors a).rv (s.shadows a).outcomes
  saw_open s a v = record {
    parts = (s.shadows a).parts;
    editions = (s.shadows a).editions;
    known = λ l r. (v.shadows a).known l ((v.shadows a).sets l r).0;
    good = λ l r. first_read_good s.words (s.words.actors a).rv (s.words.actors a).calls l ((s.shadows a).editions l)
        (v.machine.actors a).saw ((v.shadows a).sets l r).1;
    legal = (v.shadows a).legal;
  }

  pub leave_led : (s : Boosted X Out) (a : ℕ) → Inv c s → (s.words.actors a).place ≡ Leave → machine.PlaceOk s.words
      (s.words.actors a) Leave → Led c s (word_step s a (s.words.actors a) Leave)
  leave_led s a v e pl =
      let x = s.words.actors a in
      let end : Aborted Out = record { word = record { actor = a; rv = x.rv; calls = x.calls }; outcomes = (s.shadows a).outcomes } in
      steady_led s a (step s.words a x Leave) (s.aborted ++ end ∷ []) v (step_ok s.words a Leave v.machine e pl)
      (step_steady s.words a Leave e pl tt)
      (AllAborted-add (λ z. SawParts c s z.word.rv z.outcomes) s.aborted end v.aborted (saw_open s a v))
      (ended-add s.aborted end ∙ ap (λ (z : List Ended). z ++ end.word ∷ []) v.ends)

  -- gates
  pub take_led : (s : Boosted X Out) (a k : ℕ) → Inv c s → Led c s (take_gate c s a k)
  take_led s a k v =
      cond_both (is_none (s.gates k) && not (is_committing (s.words.actors a).place)) (gated s (put s.gates k (Some a)) s.shadows) s
      (Led c s)
      (λ t.
      let g = and_parts (is_none (s.gates k)) (not (is_committing (s.words.actors a).place)) t in
      let free : s.gates k ≡ None = none_is (s.gates k) g.0 in
      let rests : is_committing (s.words.actors a).place ≡ false = not-true (is_committing (s.words.actors a).place) g.1 in
      gated_ok c s (put s.gates k (Some a)) s.shadows v
      (λ j b m. put_both (λ (z : Option ℕ). z ≡ Some b → s.gates j ≡ Some b) s.gates k (Some a) j
      (λ _ h. absurd (let q : a ≡ b = cc in true≢false (sym m ∙ ap (λ (i : ℕ). is_committing (s.words.actors i).place) (sym q) ∙ rests)))
      (λ _ h. h))
      (λ j b m h. put_both (λ (z : Option ℕ). z ≡ Some b) s.gates k (Some a) j
      (λ q. let z : None ≡ Some b = sym free ∙ ap s.gates (sym q) ∙ h in cc)
      (λ _. h))
      v.shadows (λ b h. refl))
      (λ _. led_none s v)

  -- what a copy adds to a shadow
  copied_ok : (s : Boosted X Out) (calls : List Call) (writes : Entries) (w : Shadow X Out) (k : ℕ) (which : ℕ → Bool) → Inv c s
      → ShadowOk c s calls writes w → ShadowOk c s calls writes (copied c s calls w k which)
  copied_ok s calls writes w k which v g =
      let old : (l : ℕ) → IsRead c l w.outcomes → is_copied c calls k which l ≡ false = λ l h. elim
      (cases_Bool (is_copied c calls k which l)) [
        | inr n ↦ n
        | inl t ↦
            (let b1 = and_parts (which l) (not (c.plain l) && (c.home l == k && is_none (first_read calls l))) t in
            let b2 = and_parts (not (c.plain l)) (c.home l == k && is_none (first_read calls l)) b1.1 in
            let b3 = and_parts (c.home l == k) (is_none (first_read calls l)) b2.1 in
            (let d : Some (w.editions l) ≡ None = sym (g.sets l h).1 ∙ none_is (first_read calls l) b3.1 in cc))
      ] in
      let edition : (l : ℕ) → IsRead c l w.outcomes → (copied c s calls w k which).editions l ≡ w.editions l = λ l h. cond-false
      (is_copied c calls k which l) (s.editions l) (w.editions l) (old l h) in
      record {
        known = λ l h. elim (cases_Bool (is_copied c calls k which l)) [
          | inl t ↦
              (let b1 = and_parts (which l) (not (c.plain l) && (c.home l == k && is_none (first_read calls l))) t in
              let b2 = and_parts (not (c.plain l)) (c.home l == k && is_none (first_read calls l)) b1.1 in
              subst (λ (e : ℕ). Known c s l e ((copied c s calls w k which).parts l))
              (sym (cond-true (is_copied c calls k which l) (s.editions l) (w.editions l) t))
              (subst (Known c s l (s.editions l)) (sym (cond-true (is_copied c calls k which l) (s.parts l) (w.parts l) t))
              (v.known l (not-true (c.plain l) b2.0))))
          | inr n ↦
              (let is : w.copied l ≡ true = sym (cond-false (is_copied c calls k which l) true (w.copied l) n) ∙ h in
              subst (λ (e : ℕ). Known c s l e ((copied c s calls w k which).parts l))
              (sym (cond-false (is_copied c calls k which l) (s.editions l) (w.editions l) n))
              (subst (Known c s l (w.editions l)) (sym (cond-false (is_copied c calls k which l) (s.parts l) (w.parts l) n))
              (g.known l is)))
        ];
        sets = λ l r. (
            let z = g.sets l r in
            (cond-false (is_copied c calls k which l) true (w.copied l) (old l r) ∙ z.0, z.1 ∙ ap Some (sym (edition l r))));
        wrote = λ l u pl h. (
            let z = g.wrote l u pl h in
            (z.0 ∙ ap (λ (n : ℕ). n + 1) (sym (edition l z.1)), z.1, z.2));
        fits = g.fits;
        legal = λ u h. g.legal u (λ l r. h l r ∙ cond-false (is_copied c calls k which l) (s.parts l) (w.parts l) (old l r));
      }

  pub put_led : (s : Boosted X Out) (a k : ℕ) (which : ℕ → Bool) → Inv c s → Led c s (put_gate c s a k which)
  put_led s a k which v =
      let x = s.words.actors a in
      let w2 = copied c s x.calls (s.shadows a) k which in
      cond_both (is_actor a (s.gates k) && not (is_committing x.place))
      (gated s (put s.gates k None) (if is_open x.place then put s.shadows a w2 else s.shadows)) s (Led c s)
      (λ t.
      let g = and_parts (is_actor a (s.gates k)) (not (is_committing x.place)) t in
      let mine : s.gates k ≡ Some a = actor_is a (s.gates k) g.0 in
      let rests : is_committing x.place ≡ false = not-true (is_committing x.place) g.1 in
      gated_ok c s (put s.gates k None) (if is_open x.place then put s.shadows a w2 else s.shadows) v
      (λ j b m. put_both (λ (z : Option ℕ). z ≡ Some b → s.gates j ≡ Some b) s.gates k None j (λ _ h. cc) (λ _ h. h))
      (λ j b m h. put_both (λ (z : Option ℕ). z ≡ Some b) s.gates k None j
      (λ q. let z : Some a ≡ Some b = sym mine ∙ ap s.gates (sym q) ∙ h in
      let e : a ≡ b = cc in absurd (true≢false (sym m ∙ ap (λ (i : ℕ). is_committing (s.words.actors i).place) (sym e) ∙ rests)))
      (λ _. h))
      (λ b. cond_both (is_open x.place) (put s.shadows a w2) s.shadows
      (λ (z : ℕ → Shadow X Out). ShadowOk c s (s.words.actors b).calls (s.words.actors b).writes (z b))
      (λ _. by_actor (λ i. ShadowOk c s (s.words.actors i).calls (s.words.actors i).writes (put s.shadows a w2 i)) a
      (subst (ShadowOk c s x.calls x.writes) (sym (put-same s.shadows a w2))
      (copied_ok s x.calls x.writes (s.shadows a) k which v (v.shadows a)))
      (λ i ne. subst (ShadowOk c s (s.words.actors i).calls (s.words.actors i).writes) (sym (put-other s.shadows a w2 i ne))
      (v.shadows i)) b)
      (λ _. v.shadows b))
      (λ b h. cond_both (is_open x.place) (put s.shadows a w2) s.shadows (λ (z : ℕ → Shadow X Out). (z b).outcomes ≡ (s.shadows b).outcomes)
      (λ _. put_both (λ (z : Shadow X Out). z.outcomes ≡ (s.shadows b).outcomes) s.shadows a w2 b
      (λ q. ap (λ (i : ℕ). (s.shadows i).outcomes) (sym q)) (λ _. refl))
      (λ _. refl)))
      (λ _. led_none s v)

-- A step on a word keeps the rule.
--
-- A turn appends to the events what the seat's actor asked and its step (`Steps`). The seat's lone world takes the same turn with the
-- number found (`word_own`), the other seats' worlds stand with the other actors, the table changes at one word, and the clock grows by
-- what the seat owed. `shows_after` puts these together; it serves the steps on gates as well.
use Rattle.std.proofs.Common.{◌≡◌, ◌≢◌, ◌⊎◌, ℕ, zero, suc, ◌+◌, ◌≤◌, ◌<◌, true, List, [], ◌∷◌, ◌++◌, length, get_or, set, None, inl, inr}
use Rattle.std.proofs.Common.{⊎_elim, refl, sym, ap, ◌∙◌, subst, arith, length-set, get_or-set_other, get_or-set_same}
use mathlib.Core.Logic.{dite}
use mathlib.Core.Option.{Option, some, some-injective}
use native.Mathlib.Decide.{ℕ_discrete}
use lib.ListN.{get_elem?}
use Rattle.atomic_table.specs.Table.{State, Me, keeps, stepped, Allows}
use Rattle.atomic_table.proofs.Lists.{at_set}
use Rattle.tx_machine.specs.Actor.{Actor, Place, clock_limit}
use Rattle.tx_machine.specs.Cells.{Cell, ClockCell, LockCell, ValueCell, cell, becomes}
use Rattle.seq_model.specs.declared.event.Event.{Event}
use Rattle.seq_model.specs.declared.event.Event.TheVariants.{Step}
use Rattle.seq_model.specs.declared.record.Record.{Record}
use Rattle.tx_machine.specs.Boosted.{is_actor}
use Rattle.std.specs.Prelude.{Option as Maybe}
use Rattle.replay_log.specs.declared.base.Base.{Base}
use Rattle.replay_log.specs.Contents.{Block, end_of, home_of, is_plain}
use Rattle.replay_log.specs.Seats.{World, Seat, actor_of}
use Rattle.replay_log.specs.Worlds.{happens, run}
use Rattle.actor_laws.specs.Clock.{stamps_left, Grows}
use Rattle.actor_laws.specs.Own.{Alike, SameAfter}
use Rattle.actor_laws.specs.StepTargets.{Spot, Word, Gate, deed_of, gate_word, number_at}
use Rattle.actor_laws.specs.Steps.{OnlyOwn, ready_at}
use Rattle.actor_laws.proofs.Alike.{alike_sym, alike_trans, spot_same, deed_same}
use Rattle.actor_laws.proofs.Clock.{one_left}
use Rattle.actor_laws.proofs.Others.{others, calm_alike}
use Rattle.actor_laws.proofs.StepTargets.{Keeps, one_spot, after_calm}
use Rattle.actor_laws.proofs.StepResult.{word_turned}
use Rattle.shared_table.specs.Layout.{address, gate_address, IsInside}
use Rattle.shared_table.specs.Turns.{Turn, own, asked_all, stage_of, spot, found_at, moved, ends, ends_of, took, lone, turn_events}
use Rattle.shared_table.specs.Shown.{highest_clock, SeatKnowledge, Slot, total, owed, owed_of}
use Rattle.shared_table.specs.Shown.{acting, HasHappened, OneBase, SameBases, Table, IsOwn}
use Rattle.shared_table.specs.Shown.{HasReceipts, IsJoined, Shows, Rule, Steps, Told, aborted_by, only_by}
use Rattle.shared_table.proofs.LayoutLemmas.{apart, gate_apart, low}
use Rattle.shared_table.proofs.Numbers.{total_set, total_append, inside, tally_set, tally_below, at_set_same, at_set_other}
use Rattle.shared_table.proofs.Turned.{Notes, asked_alike, asked_calm, ends_theirs, found_alike, lone_snoc, others_notes, records_grow}
use Rattle.shared_table.proofs.Turned.{turn_notes, word_own}

pub owed_some : (k : ℕ) (p : Place) → 0 < k → owed_of k p ≡ stamps_left p
owed_some zero p h = absurd (omega arith)
owed_some (suc k) p h = refl

pub owed_le : (k : ℕ) (p : Place) → owed_of k p ≤ k
owed_le zero p = omega arith
owed_le (suc k) p = let a = one_left p in omega arith

pub same_or : (c d : Cell) → (c ≡ d) ⊎ (Word c ≡ Word d → ⊥)
same_or ClockCell ClockCell = inl refl
same_or ClockCell (LockCell l) = inr (λ e. cc)
same_or ClockCell (ValueCell l) = inr (λ e. cc)
same_or (LockCell k) ClockCell = inr (λ e. cc)
same_or (LockCell k) (LockCell l) = dite (ℕ_discrete k l) (λ e. inl (ap (λ (m : ℕ). LockCell m) e)) (λ ne. inr (λ e. ne cc))
same_or (LockCell k) (ValueCell l) = inr (λ e. cc)
same_or (ValueCell k) ClockCell = inr (λ e. cc)
same_or (ValueCell k) (LockCell l) = inr (λ e. cc)
same_or (ValueCell k) (ValueCell l) = dite (ℕ_discrete k l) (λ e. inl (ap (λ (m : ℕ). ValueCell m) e)) (λ ne. inr (λ e. ne cc))

module _ {V : Type 0} where
  -- ---- one base in two worlds
  pub base_trans : (k : ℕ) (v u t : World V) → u.words ≡ v.words → u.blocks ≡ v.blocks → OneBase k v u → OneBase k u t → OneBase k v t
  base_trans k v u t e f g h l p at =
      let q = h l ((λ i. is_plain (e i) (f i) l) ∙ p) ((λ i. home_of (e i) (f i) l) ∙ at) in ((g l p at).0 ∙ q.0, (g l p at).1 ∙ q.1)

  pub base_sym : (k : ℕ) (v u : World V) → u.words ≡ v.words → u.blocks ≡ v.blocks → OneBase k v u → OneBase k u v
  base_sym k v u e f g l p at =
      let q = g l ((λ i. is_plain (sym e i) (sym f i) l) ∙ p) ((λ i. home_of (sym e i) (sym f i) l) ∙ at) in (sym q.0, sym q.1)

  pub calm_base : (a k : ℕ) (v u : World V) → OnlyOwn a v u → OneBase k v u
  calm_base a k v u g l p at = (sym (g.parts l), sym (g.editions l))

  pub keeps_base : (sp : Spot) (k : ℕ) (v u : World V) → Keeps sp v u → sp ≢ Gate k → OneBase k v u
  keeps_base sp k v u g ne l p at = (sym (g.parts l (λ q. ne (q ∙ ap Gate at))), sym (g.editions l (λ q. ne (q ∙ ap Gate at))))

  -- a request changes no base
  pub asked_bases : (a : ℕ) (qs : List (Event V)) (w l : World V) → Alike a w l → SameBases a w l
      → SameBases a (asked_all a w qs) (asked_all a l qs)
  asked_bases a qs w l alike same k gate =
      let g = asked_calm a qs w in
      let gl = asked_calm a qs l in
      base_trans k (asked_all a w qs) w (asked_all a l qs) (sym g.words) (sym g.blocks)
      (base_sym k w (asked_all a w qs) g.words g.blocks (calm_base a k w (asked_all a w qs) g))
      (base_trans k w l (asked_all a l qs) (sym alike.words) (sym alike.blocks) (same k (ap (is_actor a) (sym (g.gates k)) ∙ gate))
      (calm_base a k l (asked_all a l qs) gl))

  -- ---- what a step commits is the actor's own
  pub ends_same : (a : ℕ) (v w : World V) → Alike a v w → ends a v ≡ ends a w
  ends_same a v w e = ap (λ (x : Seat V). ends_of a x x.stage) e.seat

  -- ---- a seat that was joined keeps its turns, whatever becomes of one that has shares
  pub still_joined : (vs : List (SeatKnowledge V)) (id : ℕ) (v y : SeatKnowledge V) (p : ℕ × List (Turn V)) → get_elem? vs id ≡ some v
      → (v.shares ≡ 0 → (y.shares ≡ 0) × (y.turns ≡ v.turns)) → IsJoined vs p → IsJoined (set vs id y) p
  still_joined vs id v y p here stays is = dite (ℕ_discrete p.0 id)
      (λ e.
      let same : v ≡ is.0 = some-injective v is.0 (sym here ∙ ((λ i. get_elem? vs (sym e i)) ∙ is.1)) in
      let k = stays (ap (λ (z : SeatKnowledge V). z.shares) same ∙ is.2) in (
        y,
        (λ i. get_elem? (set vs id y) (e i)) ∙ at_set_same vs id v y here,
        k.0,
        k.1 ∙ (ap (λ (z : SeatKnowledge V). z.turns) same ∙ is.3),
      ))
      (λ ne. (is.0, at_set_other vs id p.0 y ne ∙ is.1, is.2, is.3))

  -- ---- a seat has taken a turn
  pub shows_after : (o w u : World V) (s : State (Slot V) (SeatKnowledge V)) (id : ℕ) (v : SeatKnowledge V) (i : Turn V)
      (rs : List (ℕ × Record V)) (k : ℕ)
      (ws : List ℕ) (hs : List (Option (Slot V)))
      → Shows o w s → get_elem? s.views id ≡ some v → 0 < v.shares → (u.words ≡ w.words) × (u.blocks ≡ w.blocks)
      → Table o.words o.blocks u ws hs
      → IsOwn id u (took id (lone id o v.turns) i) → ((b : ℕ) → b ≢ id → Alike b w u)
      → ((b : ℕ) (l : World V) → b ≢ id → Notes b w l → Notes b u l) → ((h : ℕ × Record V → ℕ) → total (only_by id h) rs ≡ total h rs)
      → ((b j : ℕ) → b ≢ id → is_actor b (w.boosted.gates j) ≡ true → OneBase j w u)
      → Grows id w u → k ≤ u.boosted.words.clock → ((h : ℕ × Record V → ℕ) → total h u.records ≡ total h w.records + total h rs)
      → Shows o u record { words = ws; homes = hs; views = set s.views id (acting v i rs k) }
  shows_after o w u s id v i rs k ws hs S here live shaped T mine stand noted theirs based grown known notes =
      let vs : List (SeatKnowledge V) = s.views in
      let y : SeatKnowledge V = acting v i rs k in
      let before = S.own id v here in
      let rises = grown.rises in
      let last : lone id o (v.turns ++ i ∷ []) ≡ took id (lone id o v.turns) i = lone_snoc id v.turns o i in
      let mine_now : IsOwn id u (lone id o (v.turns ++ i ∷ [])) = subst (IsOwn id u) (sym last) mine in
      let still : (j : ℕ) (x : World V) → j ≢ id → IsOwn j w x → IsOwn j u x =
      λ j x ne q.
      (let al = stand j ne in
      let n = noted j x ne (record { aborted = q.aborted; committed = q.committed }) in record {
        alike = alike_trans j u w x (alike_sym j w u al) q.alike;
        out = λ m g. (let g' = al.boosted.gates m ∙ g in base_trans m u w x (sym shaped.0) (sym shaped.1)
            (base_sym m w u shaped.0 shaped.1 (based j m ne g')) (q.out m g'));
        aborted = n.aborted;
        committed = n.committed;
      }) in
      record {
        shape = (shaped.0 ∙ S.shape.0, shaped.1 ∙ S.shape.1);
        table = T;
        clocks = λ j z e. ⊎_elim (λ (t : (j ≡ id) × (y ≡ z)). let q : k ≡ z.clock =
            ap (λ (p : SeatKnowledge V). p.clock) t.1 in omega arith)
            (λ (t : (j ≢ id) × (get_elem? vs j ≡ some z)). let q = S.clocks j z t.1 in omega arith) (at_set vs id j y z e);
        room =
            (let t = tally_set (owed o) 0 vs id v y here in
            let z : 0 + id ≡ id = omega arith in
            let a : owed o (0 + id) v ≡ owed o id v = ap (λ (m : ℕ). owed o m v) z in
            let b : owed o (0 + id) y ≡ owed o id y = ap (λ (m : ℕ). owed o m y) z in
            let p = owed_some v.shares (actor_of (lone id o v.turns) id).place live in
            let q = owed_some v.shares (actor_of (lone id o (v.turns ++ i ∷ [])) id).place live in
            let own_w : stamps_left (actor_of w id).place ≡ stamps_left (actor_of (lone id o v.turns) id).place = ap
            (λ (x : Actor). stamps_left x.place) before.alike.boosted.actor in
            let own_u : stamps_left (actor_of u id).place ≡ stamps_left (actor_of (lone id o (v.turns ++ i ∷ [])) id).place = ap
            (λ (x : Actor). stamps_left x.place) mine_now.alike.boosted.actor in
            let r = S.room in
            let d = tally_below (owed o) (λ (x : SeatKnowledge V). x.shares) 0 (set vs id y)
            (λ j x. owed_le x.shares (actor_of (lone j o x.turns) j).place) in
            let f = total_set (λ (x : SeatKnowledge V). x.shares) vs id v y here in
            let g = S.shares in
            ⊎_elim
            (λ (h : u.boosted.words.clock + stamps_left (actor_of u id).place ≤ w.boosted.words.clock + stamps_left
            (actor_of w id).place). omega arith)
            (λ (h : (u.boosted.words.clock ≡ w.boosted.words.clock) × (w.boosted.words.clock < clock_limit)). let m = h.0 in let n = h.1 in
            omega arith)
            grown.pays);
        shares = (let t = total_set (λ (x : SeatKnowledge V). x.shares) vs id v y here in let a = S.shares in omega arith);
        own = λ j z e. ⊎_elim
            (λ (t : (j ≡ id) × (y ≡ z)). subst (λ (m : ℕ). IsOwn m u (lone m o z.turns)) (sym t.0)
            (subst (λ (q : SeatKnowledge V). IsOwn id u (lone id o q.turns)) t.1 mine_now))
            (λ (t : (j ≢ id) × (get_elem? vs j ≡ some z)). still j (lone j o z.turns) t.0 (S.own j z t.1))
            (at_set vs id j y z e);
        fresh = λ a l. (let len = length-set vs id y in let at_id = inside vs id v here in
            still a o (λ e. omega arith) (S.fresh a (omega arith)));
        spent = λ j z e none. ⊎_elim
            (λ (t : (j ≡ id) × (y ≡ z)). absurd (let q : v.shares ≡ z.shares = ap (λ (p : SeatKnowledge V). p.shares) t.1 in omega arith))
            (λ (t : (j ≢ id) × (get_elem? vs j ≡ some z)). S.spent j z t.1 none) (at_set vs id j y z e);
        joined = λ j z e i d lt.
            (let old : (k : ℕ) (x : SeatKnowledge V) → get_elem? vs k ≡ some x → i < length x.joined
            → IsJoined (set vs id y) (get_or x.joined i d) =
            λ k x at low. still_joined vs id v y (get_or x.joined i d) here (λ none. absurd (omega arith)) (S.joined k x at i d low) in
            ⊎_elim
            (λ (t : (j ≡ id) × (y ≡ z)). let q : y.joined ≡ z.joined = ap (λ (x : SeatKnowledge V). x.joined) t.1 in
            subst (λ (ps : List (ℕ × List (Turn V))). IsJoined (set vs id y) (get_or ps i d)) q
            (old id v here (let c = ap (λ (ps : List (ℕ × List (Turn V))). length ps) q in omega arith)))
            (λ (t : (j ≢ id) × (get_elem? vs j ≡ some z)). old j z t.1 lt) (at_set vs id j y z e));
        receipts = λ h. (let t = total_set (λ (x : SeatKnowledge V). total h x.receipts) vs id v y here in
            let g = total_append h v.receipts rs in
            let a = S.receipts h in
            let b = notes h in omega arith);
        earned = λ j z e some_shares. ⊎_elim
            (λ (t : (j ≡ id) × (y ≡ z)). subst (λ (m : ℕ). HasReceipts o m z) (sym t.0)
            (subst (HasReceipts o id) t.1 (λ h.
            (let old = S.earned id v here live h in
            let append = total_append h v.receipts rs in
            let seen = mine_now.committed h in
            let was = before.committed h in
            let grew = notes (only_by id h) in
            let own = theirs h in omega arith))))
            (λ (t : (j ≢ id) × (get_elem? vs j ≡ some z)). S.earned j z t.1 some_shares) (at_set vs id j y z e);
      }

  pub run_append : (es fs : List (Event V)) (w : World V) → run w (es ++ fs) ≡ run (run w es) fs
  run_append [] fs w = refl
  run_append (e ∷ es) fs w = run_append es fs (happens w e).0

  pub run_own : (a : ℕ) (es : List (Event V)) (w : World V) → run w (turn_events a es) ≡ (happens (asked_all a w es) (Step a)).0
  run_own a [] w = refl
  run_own a (e ∷ es) w = run_own a es (happens w (own a e)).0

  -- what was asked, as events
  pub asked_events : ℕ → List (Event V) → List (Event V)
  asked_events a [] = []
  asked_events a (e ∷ es) = own a e ∷ asked_events a es

  pub run_asked : (a : ℕ) (es : List (Event V)) (w : World V) → run w (asked_events a es) ≡ asked_all a w es
  unfolding asked_events
  run_asked a [] w = refl
  run_asked a (e ∷ es) w = run_asked a es (happens w (own a e)).0

  -- a step that is one of the actor's lone world has happened after these events and what the actor asked
  pub has_happened : (o : World V) (a : ℕ) (w : World V) (es qs : List (Event V)) (found : ℕ) (b : Maybe (Base V))
      → Alike a (asked_all a (run o es) qs) w → SameBases a (asked_all a (run o es) qs) w
      → number_at (asked_all a (run o es) qs) (spot a w) ≡ found
      → SameAfter a (happens (asked_all a (run o es) qs) (Step a)) (moved a w found b) → HasHappened o a w found b
  has_happened o a w es qs found b al bases finds same =
      let e = run_append es (asked_events a qs) o ∙ run_asked a qs (run o es) in
      record {
        events = es ++ asked_events a qs;
        alike = subst (λ (v : World V). Alike a v w) (sym e) al;
        bases = subst (λ (v : World V). SameBases a v w) (sym e) bases;
        finds = subst (λ (v : World V). number_at v (spot a w) ≡ found) (sym e) finds;
        same = subst (λ (v : World V). SameAfter a (happens v (Step a)) (moved a w found b)) (sym e) same;
      }

  -- ---- a step on a word
  word_table : (n : ℕ) (bs : List Block) (w u : World V) (c : Cell) (new : ℕ) (ws : List ℕ) (hs : List (Option (Slot V)))
      → Table n bs w ws hs → IsInside (end_of n bs) c → Keeps (Word c) w u
      → new ≡ cell u.boosted.words c → Table n bs u (set ws (address (end_of n bs) c) new) hs
  word_table n bs w u c new ws hs T inner K is =
      let N = end_of n bs in
      let long = T.wide in
      let broad = low N (length bs) c inner in
      record {
        wide = (let a = length-set ws (address N c) new in omega arith);
        cells = λ d inn. ⊎_elim
            (λ (e : c ≡ d). subst (λ (z : Cell). get_or (set ws (address N c) new) (address N z) 0 ≡ cell u.boosted.words z) e
            (get_or-set_same ws (address N c) new 0 (omega arith) ∙ is))
            (λ (ne : Word c ≡ Word d → ⊥). get_or-set_other ws (address N c) (address N d) new 0
            (apart N c d inner inn (λ (e : c ≡ d). ne (ap (λ (z : Cell). Word z) e)))
            ∙ (T.cells d inn ∙ sym (K.cells d ne)))
            (same_or c d);
        gates = λ k lt. get_or-set_other ws (address N c) (gate_address N k) new 0 (gate_apart N c k inner)
            ∙ (T.gates k lt ∙ ap gate_word (sym (K.gates k (λ e. cc))));
        slots = λ k lt. (let q = T.slots k lt in let same = K.gates k (λ e. cc) in (
          λ free. (let b = q.0 (sym same ∙ free) in
              (b.0, b.1, b.2, λ l p at. (K.parts l (λ e. cc) ∙ (b.3 l p at).0, K.editions l (λ e. cc) ∙ (b.3 l p at).1))),
          λ j taken. q.1 j (sym same ∙ taken),
        ));
      }

  -- a step that appends to the events keeps the rule
  pub keeps_rule : (o : World V) (slots id : ℕ) (m : Me (Slot V) (SeatKnowledge V)) (qs : List (Event V)) (i : ℕ) (f : ℕ → ℕ)
      (tells : ℕ → Me (Slot V) (SeatKnowledge V) → Type 0) → Steps o slots id m qs i f tells → Allows (Rule o) slots id m i f tells
  keeps_rule o slots id m qs i f tells may s rule len here small =
      let r = may s rule.events rule.shows len here small in
      (r.0, r.1, r.2, record { events = rule.events ++ turn_events id qs; shows = r.3 }, r.4)

  module _ (o : World V) (slots id : ℕ) (m : Me (Slot V) (SeatKnowledge V)) (qs : List (Event V)) where
    abbrev alone : World V
    alone = asked_all id (lone id o m.0.turns) qs

    -- kf is the clock that the seat knows afterwards, by the word found
    word_at : (c : Cell) (f kf : ℕ → ℕ) → 0 < m.0.shares → spot id alone ≡ Word c → IsInside (end_of o.words o.blocks) c
        → ((s : State (Slot V) (SeatKnowledge V)) → Rule o s → becomes (deed_of (ready_at id alone (stage_of alone id)) id)
        (get_or s.words (address (end_of o.words o.blocks) c) 0) ≡ f (get_or s.words (address (end_of o.words o.blocks) c) 0))
        → ((s : State (Slot V) (SeatKnowledge V)) (rule : Rule o s) (u : World V) → let w = run o rule.events in
        m.0.clock ≤ w.boosted.words.clock → w.boosted.words.clock ≤ u.boosted.words.clock
        → f (cell w.boosted.words c) ≡ cell u.boosted.words c → kf (cell w.boosted.words c) ≤ u.boosted.words.clock)
        → Steps o slots id m qs (address (end_of o.words o.blocks) c) f
        (λ found t. Told o id qs (kf found) m found None t.0 × (t.1 ≡ m.1))
    word_at c f kf live touches inner is knows s es S len here small =
        let rule : Rule o s = record { events = es; shows = S } in
        let N = end_of o.words o.blocks in
        let w : World V = run o es in
        let w1 : World V = asked_all id w qs in
        let u : World V = (happens w1 (Step id)).0 in
        let l : World V = lone id o m.0.turns in
        let found : ℕ = get_or s.words (address N c) 0 in
        let word_is : found ≡ cell w.boosted.words c = S.table.cells c inner in
        let mine = S.own id m.0 here in
        let g = asked_calm id qs w in
        let gl = asked_calm id qs l in
        let al1 : Alike id w1 alone = asked_alike id qs w l mine.alike in
        let at1 : spot id w1 ≡ Word c = spot_same id w1 alone al1 ∙ touches in
        let found1 : found ≡ cell w1.boosted.words c = word_is ∙ sym (g.cells c) in
        let turn = word_turned id w1 c at1 in
        let K1 : Keeps (Word c) w1 u = subst (λ (z : Spot). Keeps z w1 u) at1 (one_spot w1 id) in
        let K : Keeps (Word c) w u = after_calm id (Word c) w w1 u g K1 in
        let planted : World V = found_at id alone (Word c) (cell w1.boosted.words c) None in
        let after : World V = (happens planted (Step id)).0 in
        let i : Turn V = record { asks = qs; found = found; base = None } in
        let rs : List (ℕ × Record V) = ends id alone in
        let v : SeatKnowledge V = acting m.0 i rs (kf found) in
        let took_is : after ≡ took id l i = (λ j. (happens (found_at id alone (sym touches j) (sym found1 j) None) (Step id)).0) in
        let own2 = word_own id w1 alone c None al1 at1 in
        let al2 : Alike id u after = own2.0 in
        let al_p : Alike id w1 planted = found_alike id w1 alone (Word c) (cell w1.boosted.words c) None al1 in
        let KP : Keeps (Word c) planted after = subst (λ (z : Spot). Keeps z planted after) (sym (spot_same id w1 planted al_p) ∙ at1)
        (one_spot planted id) in
        let shaped : (u.words ≡ w.words)
        × (u.blocks ≡ w.blocks) = (let other = others w1 (Step id) (suc id) (λ e. omega arith) in
        (sym other.words ∙ g.words, sym other.blocks ∙ g.blocks)) in
        let grow = turn.1 in
        let rises = grow.rises in
        let pays = grow.pays in
        let clock1 : w1.boosted.words.clock ≡ w.boosted.words.clock = g.cells ClockCell in
        let left1 = g.left in
        let grown : Grows id w u = record {
          rises = omega arith;
          pays = ⊎_elim
              (λ (h : u.boosted.words.clock + stamps_left (actor_of u id).place ≤ w1.boosted.words.clock + stamps_left
              (actor_of w1 id).place). inl (omega arith))
              (λ (h : (u.boosted.words.clock ≡ w1.boosted.words.clock) × (w1.boosted.words.clock < clock_limit)). let p = h.0 in
              let q = h.1 in inr (omega arith, omega arith))
              pays;
        } in
        let after_notes = turn_notes id w l qs (Word c) (cell w1.boosted.words c) None mine.alike
        (record { aborted = mine.aborted; committed = mine.committed }) in
        let new_is : f found ≡ cell u.boosted.words c =
        sym (is s rule) ∙ ((λ j. becomes (sym (deed_same id w1 alone al1) j) (found1 j)) ∙ sym turn.0) in
        let now : Shows o u (stepped s (address N c) (f found) id m.1 v keeps) =
        shows_after o w u s id m.0 i rs (kf found) (set s.words (address N c) (f found)) s.homes S here live shaped
        (word_table o.words o.blocks w u c (f found) s.words s.homes S.table inner K new_is)
        (record {
          alike = subst (Alike id u) took_is al2;
          out = λ k gate. subst (OneBase k u) took_is
              (let gate_w : is_actor id (w.boosted.gates k) ≡ true = ap (is_actor id) (sym (K.gates k (λ e. cc))) ∙ gate in
              base_trans k u w after (sym shaped.0) (sym shaped.1)
              (base_sym k w u shaped.0 shaped.1 (keeps_base (Word c) k w u K (λ e. cc)))
              (base_trans k w l after (sym mine.alike.words) (sym mine.alike.blocks) (mine.out k gate_w)
              (base_trans k l alone after gl.words gl.blocks (calm_base id k l alone gl)
              (keeps_base (Word c) k planted after KP (λ e. cc)))));
          aborted = subst (λ (x : World V). aborted_by id u.aborted ≡ x.aborted) took_is after_notes.aborted;
          committed = subst (λ (x : World V). (h : ℕ × Record V → ℕ) → total (only_by id h) u.records ≡ total h x.records) took_is
              after_notes.committed;
        })
        (λ b ne. alike_trans b w w1 u (calm_alike id b ne w w1 g) (others w1 (Step id) b ne))
        (λ b x ne n. others_notes id b w x qs ne n) (λ h. ends_theirs h id alone)
        (λ b j ne gate. keeps_base (Word c) j w u K (λ e. cc))
        grown
        (subst (λ (k : ℕ). kf k ≤ u.boosted.words.clock) (sym word_is)
        (knows s rule u (S.clocks id m.0 here) grown.rises (ap f (sym word_is) ∙ new_is)))
        (λ h. records_grow h id w1 ∙ (λ j. total h (g.records j) + total h (ends_same id w1 alone al1 j))) in (
          v,
          keeps,
          tt,
          subst (λ (k : World V). Shows o k (stepped s (address N c) (f found) id m.1 v keeps))
              (sym (run_append es (turn_events id qs) o ∙ run_own id qs w)) now,
          (
            (
              refl,
              has_happened o id alone es qs found None al1 (asked_bases id qs w l mine.alike mine.out)
                  (ap (number_at w1) touches ∙ sym found1)
                  (subst (λ (z : Spot × ℕ). SameAfter id (happens w1 (Step id)) (happens (found_at id alone z.0 z.1 None) (Step id)))
                  (λ j. (sym touches j, sym found1 j)) own2),
            ),
            refl,
          ),
        )

    -- a step on a word that becomes what the machine says
    pub word_allowed : (c : Cell) (f : ℕ → ℕ) → 0 < m.0.shares → spot id alone ≡ Word c → IsInside (end_of o.words o.blocks) c
        → ((k : ℕ) → becomes (deed_of (ready_at id alone (stage_of alone id)) id) k ≡ f k)
        → Steps o slots id m qs (address (end_of o.words o.blocks) c) f
        (λ found t. Told o id qs m.0.clock m found None t.0 × (t.1 ≡ m.1))
    word_allowed c f live touches inner is = word_at c f (λ _. m.0.clock) live touches inner
        (λ s rule. is (get_or s.words (address (end_of o.words o.blocks) c) 0)) (λ s rule u k rises new. omega arith)

    -- a step on the clock, which has room; kf is what it leaves there
    pub clock_allowed : (f kf : ℕ → ℕ) → 0 < m.0.shares → spot id alone ≡ Word ClockCell
        → ((k : ℕ) → k ≤ highest_clock → becomes (deed_of (ready_at id alone (stage_of alone id)) id) k ≡ f k)
        → ((k : ℕ) → k ≤ highest_clock → kf k ≡ f k)
        → Steps o slots id m qs 0 f
        (λ found t. Told o id qs (kf found) m found None t.0 × (t.1 ≡ m.1) × (m.0.clock ≤ found) × (found ≤ highest_clock))
    clock_allowed f kf live touches is leaves s es S len here small =
        let room = S.room in
        let word_is : get_or s.words 0 0 ≡ (run o es).boosted.words.clock = S.table.cells ClockCell tt in
        let r = word_at ClockCell f kf live touches tt
        (λ t other. let a = other.shows.room in let b : get_or t.words 0 0
        ≡ (run o other.events).boosted.words.clock = other.shows.table.cells ClockCell tt in is (get_or t.words 0 0) (omega arith))
        (λ t other u k rises new. let a = other.shows.room in
        let w : World V = run o other.events in
        let b : kf w.boosted.words.clock ≡ f w.boosted.words.clock = leaves w.boosted.words.clock (omega arith) in
        let c : f w.boosted.words.clock ≡ u.boosted.words.clock = new in omega arith) s es S len here small in
        let c = S.clocks id m.0 here in
        (r.0, r.1, r.2, r.3, (r.4.0, r.4.1, omega arith, omega arith))

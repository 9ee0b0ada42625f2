-- Steps on gates of a table that was opened: the guards hold, and a base with its log folded in may be put back.
--
-- Wherever the rule holds, the seat's lone world is alike to its actor in a world that events have reached; so what is proved of such
-- worlds holds of it (`Guards` and `Bases` of `actor_laws`), and a seat needs to know only which step is next for it.
use Rattle.std.proofs.Common.{◌≡◌, ℕ, ◌<◌, eqb, List, ◌∷◌, ◌++◌, length, Some, None, sym, ap, ◌∙◌, subst}
use Rattle.std.proofs.lemmas.Option.{same_Some}
use prog.Atomic.{either}
use mathlib.Core.Option.{some}
use lib.ListN.{get_elem?}
use Rattle.atomic_table.specs.Table.{State, Me}
use Rattle.seq_model.specs.declared.held.Held.{Held}
use Rattle.seq_model.specs.declared.event.Event.{Event}
use Rattle.seq_model.specs.declared.event.Event.TheVariants.{Step}
use Rattle.replay_log.specs.declared.base.Base.{Base}
use Rattle.replay_log.specs.Contents.{Block, HaveStripes, block_of, end_of, home_of, is_plain}
use Rattle.replay_log.specs.Seats.{World}
use Rattle.replay_log.specs.Worlds.{happens, opened, run}
use Rattle.actor_laws.specs.Bases.{IsBaseOf, ShowsBase, IsFolded, log_changes, log_locations}
use Rattle.actor_laws.specs.Gates.{Tries, Puts, GoesHome}
use Rattle.actor_laws.specs.Own.{Alike}
use Rattle.actor_laws.specs.StepTargets.{Gate}
use Rattle.actor_laws.proofs.Alike.{action_same}
use Rattle.actor_laws.proofs.Bases.{goes_home}
use Rattle.actor_laws.proofs.Guards as guards
use Rattle.shared_table.specs.Layout.{gate_address}
use Rattle.shared_table.specs.Turns.{asked_all, found_at, lone}
use Rattle.shared_table.specs.Shown.{SeatKnowledge, Slot, IsBaseAt, Rule, Steps, Told, Took}
use Rattle.shared_table.proofs.Turned.{found_alike}
use Rattle.shared_table.proofs.Keeps.{asked_events, run_append, run_asked}
use Rattle.shared_table.proofs.Gates.{alike_of, shape_of, none_base, take_allowed, put_allowed, home_allowed}

module _ {V : Type 0} where
  module _ (blocks : List Block) (clock : ℕ) (values : List ℕ) (held : List (Held V)) (stripes : HaveStripes blocks) (slots id : ℕ)
      (m : Me (Slot V) (SeatKnowledge V)) (qs : List (Event V)) where
    abbrev o : World V
    o = opened blocks clock values held

    abbrev alone : World V
    alone = asked_all id (lone id o m.0.turns) qs

    -- events have reached a world that is alike to the seat's actor
    abbrev events_of : (s : State (Slot V) (SeatKnowledge V)) → Rule o s → List (Event V)
    events_of s rule = rule.events ++ asked_events id qs

    reached : (s : State (Slot V) (SeatKnowledge V)) (rule : Rule o s) → get_elem? s.views id ≡ some m.0
        → Alike id (run o (events_of s rule)) alone
    reached s rule here =
        subst (λ (w : World V). Alike id w alone)
        (sym (run_append rule.events (asked_events id qs) o ∙ run_asked id qs (run o rule.events)))
        (alike_of o id m qs s rule here)

    pub take : (k : ℕ) → 0 < m.0.shares → k < length blocks → Tries alone id k
        → Steps o slots id m qs (gate_address (end_of o.words blocks) k) (λ n. either (eqb n 0) 1 n) (Took o id qs m k)
    take k live lt tries s es S len here small =
        let rule : Rule o s = record { events = es; shows = S } in
        take_allowed o id m qs slots k live lt tries
        (guards.try_allowed blocks clock values held (events_of s rule) id k alone stripes
        (reached s rule here) tries) s es S len here small

    pub put : (k : ℕ) (b : Base V) (others : List (ℕ × Slot V)) → 0 < m.0.shares → k < length blocks → m.1 ≡ (k, Some b) ∷ others
        → Puts alone id k
        → IsBaseAt blocks k b → ShowsBase o.words blocks (happens (found_at id alone (Gate k) 1 None) (Step id)).0 k b
        → Steps o slots id m qs (gate_address (end_of o.words blocks) k) (λ _. 0)
        (λ _ t. Told o id qs m.0.clock m 1 None t.0 × (t.1 ≡ others))
    put k b others live lt top puts sort shown s es S len here small =
        let rule : Rule o s = record { events = es; shows = S } in
        let h = guards.put_allowed blocks clock values held (events_of s rule) id k alone stripes (reached s rule here) puts in
        put_allowed o id m qs slots k b others stripes live lt top puts h.0 h.1 sort shown s es S len here small

    pub home : (k : ℕ) (block : Block) (before now : Base V) (others : List (ℕ × Slot V)) → 0 < m.0.shares → k < length blocks
        → m.1 ≡ (k, Some now) ∷ others → GoesHome alone id k → block_of blocks k ≡ Some block → IsBaseOf block before
        → ShowsBase o.words blocks alone k before
        → IsFolded (log_changes k block (alone.boosted.shadows id).outcomes)
        (log_locations k block (alone.boosted.shadows id).outcomes) before now
        → Steps o slots id m qs (gate_address (end_of o.words blocks) k) (λ _. 0)
        (λ _ t. Told o id qs m.0.clock m 1 None t.0 × (t.1 ≡ others))
    home k block before now others live lt top goes is sort shown folded s es S len here small =
        let rule : Rule o s = record { events = es; shows = S } in
        let events = events_of s rule in
        let al = reached s rule here in
        let planted : World V = found_at id alone (Gate k) 1 None in
        let al_p : Alike id (run o events) planted = found_alike id (run o events) alone (Gate k) 1 None al in
        let goes_p : GoesHome planted id k = sym (action_same id (run o events) planted al_p)
        ∙ (action_same id (run o events) alone al ∙ goes) in
        let h = guards.home_allowed blocks clock values held events id k alone stripes al goes in
        let sh = shape_of o id m qs s rule in
        let same = alike_of o id m qs s rule here in
        let n_is : o.words ≡ planted.words = sym sh.0 ∙ same.words in
        let b_is : blocks ≡ planted.blocks = sym sh.1 ∙ same.blocks in
        let at : ShowsBase o.words blocks planted k before = λ l p home_l.
        let q = none_base id alone k 1 k l ((λ i. is_plain (sym n_is i) (sym b_is i) l) ∙ p)
        ((λ i. home_of (sym n_is i) (sym b_is i) l) ∙ home_l) in
        let z = shown l p home_l in (sym q.0 ∙ z.0, sym q.1 ∙ z.1) in
        let own_shown : ShowsBase planted.words planted.blocks planted k before =
        subst (λ (bs : List Block). ShowsBase planted.words bs planted k before) b_is
        (subst (λ (n : ℕ). ShowsBase n blocks planted k before) n_is at) in
        let gone = goes_home blocks clock values held events id k block before now planted stripes al_p goes_p
        (ap (λ bs. block_of bs k) (sym b_is) ∙ is) sort own_shown folded in
        let back : ShowsBase o.words blocks (happens planted (Step id)).0 k now =
        subst (λ (n : ℕ). ShowsBase n blocks (happens planted (Step id)).0 k now) (sym n_is)
        (subst (λ (bs : List Block). ShowsBase planted.words bs (happens planted (Step id)).0 k now) (sym b_is) gone.1) in
        let sort_now : IsBaseAt blocks k now = λ c e. subst (λ (b : Block). IsBaseOf b now) (same_Some block c (sym is ∙ e)) gone.0 in
        home_allowed o id m qs slots k now others stripes live lt top goes h.0 h.1 sort_now back s es S len here small

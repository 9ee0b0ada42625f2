use Rattle.std.proofs.Common.{◌≡◌, ◌++◌, ◌∷◌, [], ap, sym, ◌∙◌, subst, refl, arith, rules, Ok, Err, length}
use Rattle.tx_sets.specs.AccessSet.{IsLast, IsPositionOf, SetView}
use Rattle.tx_sets.specs.Entries.{Entries, IsRising, lookup, with_entry}
use Rattle.tx_sets.proofs.PositionLemmas.{lookup_there, lookup_gap, not_there, put_new, write_there}
use Rattle.tx_sets.proofs.LinkLemmas.{links_there, links_new}
use Rattle.tx_sets.proofs.access_set.AccessSet.put.Goals as goal

pub invariant_of-self : goal.invariant_of-self
invariant_of-self g c =
    let es = c.self.inside.entries.items in
    let same : es ≡ c.args.self.now.entries = ap (λ (v : SetView). v.entries) c.self.view_is in
    let place = subst (λ (z : Entries). IsPositionOf c.args.location z (Ok c.in-Ok.at)) (sym same) c.in-Ok.ensures in (
      links_there es c.self.inside.heads c.self.inside.links.items c.args.location c.args.value c.in-Ok.at c.index_mut.result.now
          c.self.invariant.0 place c.index_mut.ensures.value,
      search rules,
      search rules,
    )

pub returns-in-Ok-clause-ok : goal.returns-in-Ok-clause-ok
returns-in-Ok-clause-ok g c =
    let es = c.self.inside.entries.items in
    let same : es ≡ c.args.self.now.entries = ap (λ (v : SetView). v.entries) c.self.view_is in
    let place = subst (λ (z : Entries). IsPositionOf c.args.location z (Ok c.in-Ok.at)) (sym same) c.in-Ok.ensures in
    write_there es c.args.location c.args.value c.in-Ok.at c.index_mut.result.now c.self.invariant.0.orderly.rising place
    c.index_mut.ensures.value
    ∙ ap (λ (z : Entries). with_entry z c.args.location c.args.value) same

pub returns-in-Ok-clause-too_long : goal.returns-in-Ok-clause-too_long
returns-in-Ok-clause-too_long g c =
    let es = c.args.self.now.entries in
    let same : c.self.inside.entries.items ≡ es = ap (λ (v : SetView). v.entries) c.self.view_is in
    let there = lookup_there es c.args.location c.in-Ok.at (0, 0) (subst IsRising same c.self.invariant.0.orderly.rising) c.in-Ok.ensures.0
    c.in-Ok.ensures.1 in
    ((λ refused. absurd (let b : ⊥ = cc in b)), (λ beyond. let none = beyond.0 in absurd (let b : ⊥ = cc in b)))

pub returns-then-len-ge-LOCATION_LIMIT-clause-too_long : goal.returns-then-len-ge-LOCATION_LIMIT-clause-too_long
returns-then-len-ge-LOCATION_LIMIT-clause-too_long g c =
    let es = c.args.self.now.entries in
    let same : c.self.inside.entries.items ≡ es = ap (λ (v : SetView). v.entries) c.self.view_is in
    let absent = lookup_gap es c.args.location c.in-Err.at c.in-Err.ensures.1.0 c.in-Err.ensures.1.1 in (
      (λ _. (
        absent,
        omega (
          arith,
          c.if-len-ge-LOCATION_LIMIT.true,
          c.len.ensures,
          c.self.inside.entries.ok.0,
          ap
              (λ (z : Entries). length z) same,
        ),
      )),
      (λ _. refl),
    )

pub returns-then-len-ge-LOCATION_LIMIT-clause-there : goal.returns-then-len-ge-LOCATION_LIMIT-clause-there
returns-then-len-ge-LOCATION_LIMIT-clause-there g c =
    let absent = lookup_gap c.args.self.now.entries c.args.location c.in-Err.at c.in-Err.ensures.1.0 c.in-Err.ensures.1.1 in
    λ some. absurd (not_there (lookup c.args.self.now.entries c.args.location) absent some)

pub returns-in_err-reserve_both-in-Err-clause-memory : goal.returns-in_err-reserve_both-in-Err-clause-memory
returns-in_err-reserve_both-in-Err-clause-memory g c =
    let absent = lookup_gap c.args.self.now.entries c.args.location c.in-Err.at c.in-Err.ensures.1.0 c.in-Err.ensures.1.1 in
    let room = ap (λ (v : SetView). v.room) c.self.view_is in
    λ _. (absent, omega (arith, room, c.in_err-reserve_both-in-Err.ensures.full))

pub returns-in_err-reserve_both-in-Err-clause-there : goal.returns-in_err-reserve_both-in-Err-clause-there
returns-in_err-reserve_both-in-Err-clause-there g c =
    let absent = lookup_gap c.args.self.now.entries c.args.location c.in-Err.at c.in-Err.ensures.1.0 c.in-Err.ensures.1.1 in
    λ some. absurd (not_there (lookup c.args.self.now.entries c.args.location) absent some)

pub invariant_of-self-in-Err : goal.invariant_of-self-in-Err
invariant_of-self-in-Err g c =
    let es = c.self.inside.entries.items in
    let same : es ≡ c.args.self.now.entries = ap (λ (v : SetView). v.entries) c.self.view_is in
    let place = subst (λ (z : Entries). IsPositionOf c.args.location z (Err c.in-Err.at)) (sym same) c.in-Err.ensures in
    let linked = c.in_ok-reserve_both-in-Err.ensures.links in
    let before = c.last_of-before.result in
    let chain = c.chain_of-chain.result in (
      links_new es _ _ c.self.inside.heads c.self.inside.links.items _ c.args.location c.args.value c.in-Err.at chain before
          c.len-in-Err.result c.self.invariant.0 c.chain_of-chain.ensures.chain
          (omega (arith, c.chain_of-chain.ensures.within, c.self.told)) place c.in_ok-reserve_both-in-Err.ensures.items
          c.insert_reserved.ensures.items
          (omega (arith, c.if-len-ge-LOCATION_LIMIT.false, c.len.ensures, c.self.inside.entries.ok.0))
          (subst (λ (z : Entries). IsLast z chain (length z) before) (c.deref.ensures.value ∙ linked) c.last_of-before.ensures)
          (omega (
            arith,
            c.len-in-Err.ensures,
            c.push_reserved.ensures.len,
            c.in_ok-reserve_both-in-Err.ensures.links_len,
            c.self.inside.links.ok.0,
          ))
          (c.push_reserved.ensures.items
          ∙ ap (λ (z : Entries). z ++ (c.args.location, before) ∷ []) linked),
      search rules,
      search rules,
    )

pub returns-in_ok-reserve_both-in-Err-clause-ok : goal.returns-in_ok-reserve_both-in-Err-clause-ok
returns-in_ok-reserve_both-in-Err-clause-ok g c =
    let es = c.self.inside.entries.items in
    let same : es ≡ c.args.self.now.entries = ap (λ (v : SetView). v.entries) c.self.view_is in
    let place = subst (λ (z : Entries). IsPositionOf c.args.location z (Err c.in-Err.at)) (sym same) c.in-Err.ensures in
    put_new es _ _ c.args.location c.args.value c.in-Err.at place c.in_ok-reserve_both-in-Err.ensures.items c.insert_reserved.ensures.items
    ∙ ap (λ (z : Entries). with_entry z c.args.location c.args.value) same

pub returns-in_ok-reserve_both-in-Err-clause-room_there : goal.returns-in_ok-reserve_both-in-Err-clause-room_there
returns-in_ok-reserve_both-in-Err-clause-room_there g c =
    let absent = lookup_gap c.args.self.now.entries c.args.location c.in-Err.at c.in-Err.ensures.1.0 c.in-Err.ensures.1.1 in
    λ some. absurd (not_there (lookup c.args.self.now.entries c.args.location) absent some)

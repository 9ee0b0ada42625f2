use Rattle.std.proofs.Common.{◌≤◌, ◌∙◌, ap, arith, length, refl, subst, sym}
use Rattle.std.proofs.lemmas.List.{length-replicate}
use Rattle.replay_log.proofs.ContentLemmas.{end_above}
use Rattle.actor_parts.specs.Openings.{AreStripeCounts, blocks_of}
use Rattle.actor_parts.proofs.OpeningLemmas.{counted_on, filled, have_stripes, opened_on, opens, shaped, suits}
use Rattle.actor_parts.proofs.table.Table.open.Goals as goal

pub returns-clause-opens : goal.returns-clause-opens
returns-clause-opens g c =
    let ns = c.args.shape.now.stripes in
    let s = c.args.state in
    let count = counted_on c.in-Some.count _ s.words _ ns _ s.held c.in-Some.ensures.count c.words.ensures c.as_slice-stripes.ensures
    c.held.ensures.held in
    let above = end_above (length s.words) (blocks_of ns s.held) in
    opens (record {
      cells = record { clock = c.args.shape.now.clock; locks = c.in_ok-locks.locks; values = c.resize.new.self };
      gates = c.in_ok-gates.gates;
      bases = c.in_ok-bases.bases;
    }) ns c.args.shape.now.clock c.in-Some.count _ s refl (c.in_ok-locks.ensures.items_if_clones_equal (λ y e. e))
    (filled _ s.words c.resize.new.self.items c.in-Some.count _ c.into_parts-values.ensures.words
    (let low : length s.words ≤ c.in-Some.count = omega (arith, above, count) in low) c.in_ok-resize.ensures.items)
    (c.in_ok-gates.ensures.items_if_clones_equal (λ y e. e))
    (opened_on _ ns _ s.held c.in_ok-bases.bases.items c.as_slice-stripes.ensures c.into_parts-values.ensures.held c.in_ok-bases.ensures)

pub returns-clause-shape : goal.returns-clause-shape
returns-clause-shape g c =
    let ns = c.args.shape.now.stripes in
    let s = c.args.state in
    shaped (record {
      cells = record { clock = c.args.shape.now.clock; locks = c.in_ok-locks.locks; values = c.resize.new.self };
      gates = c.in_ok-gates.gates;
      bases = c.in_ok-bases.bases;
    }) ns s c.in-Some.count
    (sym (ap length c.as_slice-stripes.ensures) ∙ c.if-stripes-collections.false ∙ ap length c.held-collections.ensures.held)
    (counted_on c.in-Some.count _ s.words _ ns _ s.held c.in-Some.ensures.count c.words.ensures c.as_slice-stripes.ensures
    c.held.ensures.held)
    (c.in_ok-locks.ensures.items_if_clones_equal (λ y e. e))
    (sym c.resize.new.self.ok.0 ∙ c.in_ok-resize.ensures.len)
    (ap length (c.in_ok-gates.ensures.items_if_clones_equal (λ y e. e)) ∙ length-replicate _ 0 ∙ ap length c.held-collections.ensures.held)
    (opened_on _ ns _ s.held c.in_ok-bases.bases.items c.as_slice-stripes.ensures c.into_parts-values.ensures.held c.in_ok-bases.ensures)

pub returns-clause-suits : goal.returns-clause-suits
returns-clause-suits g c = λ _. suits c.args.shape.now.stripes c.args.state.held
    (sym (ap length c.as_slice-stripes.ensures) ∙ c.if-stripes-collections.false ∙ ap length c.held-collections.ensures.held)
    c.into_parts-values.ensures.within

pub returns-clause-stripes : goal.returns-clause-stripes
returns-clause-stripes g c = λ _. have_stripes c.args.shape.now.stripes c.args.state.held
    (subst (λ ns. AreStripeCounts ns c.args.state.held) c.as_slice-stripes.ensures
    (subst (λ hs. AreStripeCounts c.as_slice-stripes.result.now hs) c.held.ensures.held c.in-Some.ensures.fits.0))

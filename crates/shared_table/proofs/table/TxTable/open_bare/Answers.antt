use Rattle.std.proofs.Common.{◌≡◌, ◌∙◌, ℕ, ap, arith, length, refl, subst, sym}
use Rattle.replay_log.specs.Contents.{HaveStripes}
use Rattle.actor_parts.specs.Openings.{blocks_of, world_of}
use Rattle.seq_model.specs.Contents.{Contents}
use Rattle.shared_table.specs.Layout.{width}
use Rattle.shared_table.specs.Opening.{blocks_at}
use Rattle.shared_table.proofs.LaidOut.{few, few_words, locations_are, meets, row_as, slots_are, wide_as, words_are}
use Rattle.shared_table.proofs.table.TxTable.open_bare.Goals as goal

pub new-requires : goal.new-requires
new-requires g c =
    let laid = c.in_ok-laid.laid in
    let e = c.in_ok-laid.ensures in
    meets (record { shape = c.of.result; state = c.of-2.result }) c.args.shape.now c.args.state laid c.as_slice.result.now
    c.in_ok-homes.homes.items c.of.ensures c.of-2.ensures e.shape
    (row_as laid c.as_slice.result.now c.in_ok-row.row.items c.deref.result.now c.len.result c.as_slice.ensures.value c.deref.ensures.value
    (c.len.ensures ∙ laid.gates.ok.0) c.in_ok-row.ensures)
    c.in_ok-homes.ensures e.opens (e.stripes refl) (e.suits refl) (e.fits refl).1.clock

pub overflow_cast-table : goal.overflow_cast-table
overflow_cast-table g c =
    let low = few_words c.args.shape.now c.args.state (c.in_ok-laid.ensures.fits refl).1 in
    let same = ap length c.words-words.ensures in omega arith

pub invariant_of-table : goal.invariant_of-table
invariant_of-table g c =
    let laid = c.in_ok-laid.laid in
    let e = c.in_ok-laid.ensures in
    let n = c.in-Ok.ensures.ok in
    let key = c.in-Ok.whole.shared.key in
    let shape_is = ap (λ k. k.shape.value) n.5 ∙ c.of.ensures in
    let state_is = ap (λ k. k.state.value) n.5 ∙ c.of-2.ensures in
    let row_is = row_as laid c.as_slice.result.now c.in_ok-row.row.items c.deref.result.now c.len.result c.as_slice.ensures.value
    c.deref.ensures.value (c.len.ensures ∙ laid.gates.ok.0) c.in_ok-row.ensures in
    let sh = c.args.shape.now in
    let s = c.args.state in
    let row = c.as_slice.result.now in
    let xs = c.in_ok-homes.homes.items in
    let homes = c.in_ok-homes.ensures in
    let count : c.len-locations.result ≡ length laid.cells.values.items = c.len-locations.ensures ∙ laid.cells.values.ok.0 in
    let small = few key sh s laid row xs shape_is state_is e.shape row_is homes (e.fits refl).1 (e.fits refl).0 in
    record {
      words_are = ap length c.words-words.ensures ∙ words_are key sh s laid row xs shape_is state_is e.shape row_is homes;
      locations_are = count ∙ locations_are key sh s laid row xs shape_is state_is e.shape row_is homes;
      laid = (
        c.in-Some.ensures.words ∙ ap (λ (z : Contents _). length z.words) (sym state_is),
        c.in-Some.ensures.blocks ∙ (λ i. blocks_of (sym shape_is i).stripes (sym state_is i).held),
      );
      wide = n.0 ∙ (wide_as key sh s laid row xs shape_is state_is e.shape row_is homes
          ∙ ap (λ (m : ℕ). width m (length (blocks_at key))) (sym count));
      slots = n.1 ∙ slots_are key sh s laid row xs shape_is state_is e.shape row_is homes;
      few = (let a = small.0 in omega arith, small.1);
    }

pub returns-clause-opens : goal.returns-clause-opens
returns-clause-opens g c =
    let n = c.in-Ok.ensures.ok in
    let shape_is = ap (λ k. k.shape.value) n.5 ∙ c.of.ensures in
    let state_is = ap (λ k. k.state.value) n.5 ∙ c.of-2.ensures in
    λ i. world_of (shape_is i).stripes (shape_is i).clock (state_is i)

pub returns-clause-blocks : goal.returns-clause-blocks
returns-clause-blocks g c =
    let n = c.in-Ok.ensures.ok in
    let shape_is = ap (λ k. k.shape.value) n.5 ∙ c.of.ensures in
    let state_is = ap (λ k. k.state.value) n.5 ∙ c.of-2.ensures in
    λ i. blocks_of (shape_is i).stripes (state_is i).held

pub returns-clause-contents : goal.returns-clause-contents
returns-clause-contents g c = ap (λ k. k.state.value) c.in-Ok.ensures.ok.5 ∙ c.of-2.ensures

pub returns-clause-stripes : goal.returns-clause-stripes
returns-clause-stripes g c =
    let n = c.in-Ok.ensures.ok in
    let shape_is = ap (λ k. k.shape.value) n.5 ∙ c.of.ensures in
    let state_is = ap (λ k. k.state.value) n.5 ∙ c.of-2.ensures in
    subst (λ bs. HaveStripes bs) (λ i. blocks_of (sym shape_is i).stripes (sym state_is i).held) (c.in_ok-laid.ensures.stripes refl)

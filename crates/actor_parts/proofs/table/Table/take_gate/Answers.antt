use Rattle.std.proofs.Common.{◌≡◌, refl, ◌∙◌, get_or}
use Rattle.std.proofs.Common.{eq-eqb}
use Rattle.std.specs.Vec.{with_item}
use Rattle.step_core.proofs.CellMoves.{found}
use Rattle.std.proofs.lemmas.List.{length-set}
use Rattle.actor_parts.proofs.ShapeLemmas.{keeps_shape}
use Rattle.actor_parts.proofs.TableLemmas.{takes_free}
use Rattle.actor_parts.proofs.table.Table.take_gate.Goals as goal

pub returns-then-free-clause-tries : goal.returns-then-free-clause-tries
returns-then-free-clause-tries g c = λ w h quiet. (
    let t = c.args.self.now in
    let k = c.args.k in
    let free : get_or t.gates.items k 0 ≡ 0 = found t.gates.items k c.index.result.now c.requires.inside c.index.ensures
    ∙ c.if-free.true in
    let taken = takes_free t (record { cells = t.cells; gates = with_item t.gates k c.args.actor; bases = t.bases }) k c.args.actor
    refl refl refl c.requires.inside c.requires.actor free w h quiet in
    (taken.0, eq-eqb c.index.result.now 0 c.if-free.true ∙ taken.1))

pub returns-then-free-clause-keeps : goal.returns-then-free-clause-keeps
returns-then-free-clause-keeps g c = λ n bs. (let t = c.args.self.now in keeps_shape t
    (record { cells = t.cells; gates = with_item t.gates c.args.k c.args.actor; bases = t.bases }) n bs refl refl
    (length-set t.gates.items c.args.k c.args.actor) refl)

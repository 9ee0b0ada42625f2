use Rattle.std.proofs.Common.{refl}
use Rattle.std.specs.Vec.{with_item}
use Rattle.std.proofs.lemmas.List.{length-set}
use Rattle.actor_parts.proofs.ShapeLemmas.{keeps_shape}
use Rattle.actor_parts.proofs.TableLemmas.{puts_back}
use Rattle.actor_parts.proofs.table.Table.put_gate.Goals as goal

pub returns-clause-puts : goal.returns-clause-puts
returns-clause-puts g c = let t = c.args.self.now in puts_back t
    (record { cells = t.cells; gates = with_item t.gates c.args.k 0; bases = t.bases }) c.args.k refl refl refl c.requires.inside

pub returns-clause-keeps : goal.returns-clause-keeps
returns-clause-keeps g c = λ n bs. (let t = c.args.self.now in keeps_shape t
    (record { cells = t.cells; gates = with_item t.gates c.args.k 0; bases = t.bases }) n bs refl refl (length-set t.gates.items c.args.k 0)
    refl)

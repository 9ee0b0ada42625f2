use Rattle.std.proofs.Common.{◌≡◌, refl, subst}
use Rattle.std.proofs.lemmas.Option.{slice_get_read}
use Rattle.std.specs.Vec.{with_item}
use Rattle.step_core.proofs.Lists.{same_at}
use Rattle.actor_laws.specs.Bases.{IsFolded}
use Rattle.std.proofs.lemmas.List.{length-set}
use Rattle.actor_parts.proofs.ShapeLemmas.{keeps_shape_home}
use Rattle.actor_parts.proofs.TableLemmas.{goes_home}
use Rattle.actor_parts.proofs.table.Table.go_home.Goals as goal

pub returns-clause-homes : goal.returns-clause-homes
returns-clause-homes g c = λ blocks clock values held events a b before have h home is got fits cl ll. (
    let t = c.args.self.now in
    let k = c.args.k in
    let old = c.index_mut.result.now in
    let now = c.fold.new.base in
    let read = slice_get_read t.bases.items _ k old refl c.requires.inside.1 c.index_mut.ensures.value in
    let same : old ≡ before = same_at t.bases.items k old before read got in
    goes_home t (record { cells = t.cells; gates = with_item t.gates k 0; bases = with_item t.bases k now }) k before now blocks clock
    values held events a c.args.log.now.changes c.args.log.now.locations b refl refl refl c.requires.inside.0 c.requires.inside.1
    (subst (λ base. IsFolded c.args.log.now.changes c.args.log.now.locations base now) same
    (record { shown = c.fold.ensures.shown; stripes = c.fold.ensures.stripes; editions = c.fold.ensures.editions }))
    have h home is got fits cl ll)

pub returns-clause-keeps : goal.returns-clause-keeps
returns-clause-keeps g c = λ n bs. (
    let t = c.args.self.now in
    let k = c.args.k in
    let old = c.index_mut.result.now in
    let now = c.fold.new.base in
    let read = slice_get_read t.bases.items _ k old refl c.requires.inside.1 c.index_mut.ensures.value in
    keeps_shape_home t (record { cells = t.cells; gates = with_item t.gates k 0; bases = with_item t.bases k now }) n bs k old now
    c.args.log.now.changes c.args.log.now.locations refl (length-set t.gates.items k 0) refl read
    (record { shown = c.fold.ensures.shown; stripes = c.fold.ensures.stripes; editions = c.fold.ensures.editions }))

use Rattle.std.proofs.Common.{refl}
use Rattle.std.proofs.lemmas.Option.{slice_get_read}
use Rattle.step_world.proofs.PartsLemmas.{none_loading, passes_by}
use Rattle.step_world.proofs.GateLemmas.{room_load}
use Rattle.step_world.proofs.WorldLemmas.{may_take, seated_at, shape_laid}
use Rattle.step_world.proofs.parts.Parts.load.Goals as goal

pub load_word-requires-clause-running : goal.load_word-requires-clause-running
load_word-requires-clause-running g c =
    let got = slice_get_read c.args.self.now.actors.items _ c.args.i c.index_mut.result.now refl c.requires.inside
    c.index_mut.ensures.value in
    (c.requires.world.parts.seats c.args.i c.index_mut.result.now got).running

pub load_word-requires-clause-shape : goal.load_word-requires-clause-shape
load_word-requires-clause-shape g c = shape_laid c.args.self.now c.requires.world.world c.requires.world.parts

pub load_word-requires-clause-clock : goal.load_word-requires-clause-clock
load_word-requires-clause-clock g c =
    let got = slice_get_read c.args.self.now.actors.items _ c.args.i c.index_mut.result.now refl c.requires.inside
    c.index_mut.ensures.value in
    may_take c.args.self.now c.requires.world.world c.args.i c.index_mut.result.now c.requires.world.parts got

pub load_word-requires-clause-loading : goal.load_word-requires-clause-loading
load_word-requires-clause-loading g c =
    let got = slice_get_read c.args.self.now.actors.items _ c.args.i c.index_mut.result.now refl c.requires.inside
    c.index_mut.ensures.value in
    c.requires.loading c.index_mut.result.now got

pub load_word-requires-clause-seated : goal.load_word-requires-clause-seated
load_word-requires-clause-seated g c =
    let got = slice_get_read c.args.self.now.actors.items _ c.args.i c.index_mut.result.now refl c.requires.inside
    c.index_mut.ensures.value in
    seated_at c.args.self.now c.args.i c.index_mut.result.now c.requires.world got

pub returns : goal.returns
returns g c =
    let p = c.args.self.now in
    let t = c.load_word in
    let r = c.index_mut.result.now in
    let got = slice_get_read p.actors.items _ c.args.i r refl c.requires.inside c.index_mut.ensures.value in
    passes_by p t.new.table c.args.i r t.new.actor t.result got (none_loading r (c.requires.loading r got)) (t.ensures.turns p.blocks _)
    (t.ensures.own p.blocks _) (room_load _ p.table t.new.table r t.new.actor t.ensures.bases (c.requires.loading r got)) t.ensures.shape
    (λ _. t.ensures.running) t.ensures.grows

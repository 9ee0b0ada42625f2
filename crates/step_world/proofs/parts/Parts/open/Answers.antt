use Rattle.std.proofs.Common.{refl, [], List, ℕ, ap, ◌∙◌, length}
use Rattle.actor_parts.specs.Openings.{blocks_of}
use Rattle.step_world.proofs.OpeningLemmas.{opens}
use Rattle.step_world.proofs.parts.Parts.open.Goals as goal

pub returns-clause-world : goal.returns-clause-world
returns-clause-world g c =
    opens (record {
      table = c.in_ok-table.table;
      blocks = c.in-Ok.blocks;
      actors = c.in_ok-actors.actors;
      records = c.new.result;
      aborted = c.new-2.result;
    }) c.args.shape.now.stripes c.args.shape.now.clock c.args.state c.in_ok-table.ensures.opens c.in_ok-table.ensures.shape
    (c.in-Ok.ensures.words ∙ ap length c.words.ensures)
    (c.in-Ok.ensures.blocks ∙ (ap (λ (ns : List ℕ). blocks_of ns c.held-2.result.now) c.as_slice-stripes.ensures
    ∙ ap (blocks_of c.args.shape.now.stripes) c.held-2.ensures.held))
    c.in_ok-actors.ensures.count c.in_ok-actors.ensures.idle c.new.ensures.items c.new-2.ensures.items
    (c.in_ok-table.ensures.fits refl).1.clock

pub returns-clause-reached : goal.returns-clause-reached
returns-clause-reached g c = λ _. record {
  blocks = _;
  clock = c.args.shape.now.clock;
  events = [];
  stripes = c.in_ok-table.ensures.stripes refl;
  suits = c.in_ok-table.ensures.suits refl;
  world = refl;
}

pub returns-clause-fits : goal.returns-clause-fits
returns-clause-fits g c = λ _. c.in_ok-table.ensures.fits refl

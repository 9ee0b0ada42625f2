use Rattle.tx_turns.proofs.StraightLemmas.{fetch_due, fetch_led, next_reading}
use Rattle.tx_turns.proofs.reads.fetch_on.Goals as goal

pub load_value-requires-clause-own : goal.load_value-requires-clause-own
load_value-requires-clause-own g c = c.requires.ties.owns

pub load_value-requires-clause-live : goal.load_value-requires-clause-live
load_value-requires-clause-live g c = c.requires.ties.live

pub load_value-requires-clause-location : goal.load_value-requires-clause-location
load_value-requires-clause-location g c = c.requires.ties.running.fits.place.0

pub load_value-requires-clause-due : goal.load_value-requires-clause-due
load_value-requires-clause-due g c =
    fetch_due c.args.table.now c.args.seat.now c.args.actor.now c.args.word c.args.version
    (next_reading c.args.actor.now.stage c.args.word c.requires.stage) c.requires.ties

pub returns : goal.returns
returns g c =
    fetch_led c.steps_as_worlds.ensures c.turns_keep_own.ensures.words c.args.table.now c.args.seat.now c.load_value.new.seat
    c.args.actor.now c.args.word c.args.version c.load_value.result c.args.bases.now c.requires.stage c.requires.small c.requires.ties
    c.requires.own c.load_value.ensures

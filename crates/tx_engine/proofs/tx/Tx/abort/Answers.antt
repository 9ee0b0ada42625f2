use Rattle.tx_engine.proofs.tx.Tx.abort.Goals as goal

pub returns : goal.returns
returns g c = record {
  ready = c.abort.ensures.ready;
  rests = c.abort.ensures.rests;
  keeps = c.abort.ensures.keeps;
  aborted = c.abort.ensures.aborted;
  noted = c.abort.ensures.noted;
  none = c.abort.ensures.none;
  begins = c.abort.ensures.begins;
  asks = c.abort.ensures.asks;
}

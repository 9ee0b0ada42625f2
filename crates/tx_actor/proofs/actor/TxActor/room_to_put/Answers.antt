use Rattle.std.proofs.Common.{refl}
use Rattle.actor_parts.proofs.AlikeLemmas.{all_kept}
use Rattle.tx_actor.proofs.actor.TxActor.room_to_put.Goals as goal

pub returns-in_err-reserve_call-clause-alike : goal.returns-in_err-reserve_call-clause-alike
returns-in_err-reserve_call-clause-alike g c = record {
  words = refl;
  place = refl;
  stage = refl;
  rv = refl;
  wv = refl;
  cause = refl;
  calls = c.in_err-reserve_call.ensures.items;
  copies = all_kept c.args.self.now.copies.items;
}

pub returns-in_err-reserve_words-clause-alike : goal.returns-in_err-reserve_words-clause-alike
returns-in_err-reserve_words-clause-alike g c = record {
  words = c.in_err-reserve_words.ensures.actor;
  place = c.in_err-reserve_words.ensures.place;
  stage = refl;
  rv = refl;
  wv = refl;
  cause = refl;
  calls = c.in_ok-reserve_call.ensures.items;
  copies = all_kept c.args.self.now.copies.items;
}

pub returns-clause-alike : goal.returns-clause-alike
returns-clause-alike g c = record {
  words = c.in_ok-reserve_words.ensures.actor;
  place = c.in_ok-reserve_words.ensures.place;
  stage = refl;
  rv = refl;
  wv = refl;
  cause = refl;
  calls = c.in_ok-reserve_call.ensures.items;
  copies = all_kept c.args.self.now.copies.items;
}

use Rattle.std.proofs.Common.{length, refl, rules}
use Rattle.std.proofs.lemmas.Option.{slice_get_read}
use Rattle.actor_parts.proofs.AlikeLemmas.{all_kept, kept_set}
use Rattle.tx_actor.proofs.PreparesLemmas.{ready_at}
use Rattle.tx_actor.proofs.actor.TxActor.make_room.Goals as goal

pub returns-in_err-reserve_call-clause-alike : goal.returns-in_err-reserve_call-clause-alike
returns-in_err-reserve_call-clause-alike g c = record {
  words = refl;
  place = refl;
  stage = refl;
  rv = refl;
  wv = refl;
  cause = refl;
  calls = c.in_err-reserve_call.ensures.items;
  copies = all_kept c.args.self.now.copies.items;
}

pub returns-in_err-reserve_words-clause-alike : goal.returns-in_err-reserve_words-clause-alike
returns-in_err-reserve_words-clause-alike g c = record {
  words = c.in_err-reserve_words.ensures.actor;
  place = c.in_err-reserve_words.ensures.place;
  stage = refl;
  rv = refl;
  wv = refl;
  cause = refl;
  calls = c.in_ok-reserve_call.ensures.items;
  copies = all_kept c.args.self.now.copies.items;
}

pub returns-in_err-ready-clause-alike : goal.returns-in_err-ready-clause-alike
returns-in_err-ready-clause-alike g c =
    let cs = c.args.self.now.copies.items in
    let here = c.index_mut.result.now in
    let at = slice_get_read cs (length cs) c.args.place here refl c.requires c.index_mut.ensures.value in
    record {
      words = c.in_ok-reserve_words.ensures.actor;
      place = c.in_ok-reserve_words.ensures.place;
      stage = refl;
      rv = refl;
      wv = refl;
      cause = refl;
      calls = c.in_ok-reserve_call.ensures.items;
      copies = kept_set cs c.args.place here (record { collection = here.collection; copied = c.ready.new.self }) at refl
          c.in_err-ready.ensures.kept;
    }

pub returns-clause-alike : goal.returns-clause-alike
returns-clause-alike g c =
    let cs = c.args.self.now.copies.items in
    let here = c.index_mut.result.now in
    let at = slice_get_read cs (length cs) c.args.place here refl c.requires c.index_mut.ensures.value in
    record {
      words = c.in_ok-reserve_words.ensures.actor;
      place = c.in_ok-reserve_words.ensures.place;
      stage = refl;
      rv = refl;
      wv = refl;
      cause = refl;
      calls = c.in_ok-reserve_call.ensures.items;
      copies = kept_set cs c.args.place here (record { collection = here.collection; copied = c.ready.new.self }) at refl
          c.in_ok-ready.ensures.kept;
    }

pub returns-clause-room : goal.returns-clause-room
returns-clause-room g c =
    let cs = c.args.self.now.copies.items in
    let here = c.index_mut.result.now in
    let at = slice_get_read cs (length cs) c.args.place here refl c.requires c.index_mut.ensures.value in
    record {
      calls = search rules;
      word_calls = c.in_ok-reserve_words.ensures.calls;
      reads = c.in_ok-reserve_words.ensures.reads;
      writes = c.in_ok-reserve_words.ensures.writes;
      few = c.in_ok-reserve_words.ensures.few;
      ready = λ d there. ready_at cs c.args.place here (record { collection = here.collection; copied = c.ready.new.self }) d
          c.args.outcome.now at c.in_ok-ready.ensures.ok there;
    }

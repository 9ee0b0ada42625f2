use Rattle.seq_model.proofs.RunLemmas.{after_reads, order_inserted, reader_inserted}
use Rattle.seq_model.proofs.LawLemmas.{calls_determine_replies, calls_compose, runs_compose, own_number, readers_behind}
use Rattle.seq_model.proofs.laws.run_laws.Goals as goal

pub returns : goal.returns
returns g c = record {
  replies = calls_determine_replies;
  calls = calls_compose;
  runs = runs_compose;
  readers = after_reads;
  order = λ r rs ordered own. order_inserted r rs ordered (own_number r rs own);
  reader = λ r rs s reads behind. reader_inserted r rs s reads (readers_behind r rs behind);
}

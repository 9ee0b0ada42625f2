use denote.Exit.{no}
use denote.Param.{param}
use denote.Param.Send.{arg_send, param_send}
use denote.Struct.Tuple.{TupleAt}
use Rattle.std.proofs.Common.{[], ◌∷◌}
use Rattle.wolimevar.proofs.SentLemmas.{captures_send, lent_client_send, mark_send}
use Rattle.wolimevar.proofs.serving.Serving.start.Goals as goal

pub spawn_with-started-requires-send-F : goal.spawn_with-started-requires-send-F
spawn_with-started-requires-send-F g c κs within =
    let bounds = c.type_bounds in
    let client = lent_client_send _ bounds.send-V bounds.sync-V in
    -- of the result's type a closure has a mark, by the name "(_,)"
    let mark = mark_send (TupleAt (40 ∷ 95 ∷ 44 ∷ 41 ∷ []) (param 2 g.row.N-Out ∷ [])) in
    param_send _ _ (arg_send _ no _ (captures_send _ _ _ _ client bounds.send-N mark))

-- The replies that a walk has before it.
use Rattle.std.specs.Prelude.{List}
use Rattle.seq_model.specs.declared.call.Reply.{Reply}
use Rattle.seq_model.specs.Programs.{replies_of}
use Rattle.client_sessions.specs.declared.entry.Entry.{Entry}
use Rattle.client_sessions.specs.declared.walk.Left.{Left}
use Rattle.client_sessions.specs.declared.walk.Left.TheVariants.{Replies, Calls}

abbrev pub replies_in : Left → List (Reply Entry)
replies_in (Replies replies) = replies.now
replies_in (Calls calls) = replies_of calls.now

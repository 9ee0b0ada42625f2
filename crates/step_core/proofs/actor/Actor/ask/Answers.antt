use Rattle.std.proofs.Common.{◌≡◌, None, subst}
use Rattle.step_core.specs.Phases.{location_refusal}
use Rattle.step_core.specs.Shown.{actor_of}
use Rattle.step_core.proofs.Phases.{within_of, read_limit, write_limit, write_writer}
use Rattle.step_core.specs.Answers.{request_of}
use Rattle.step_core.specs.Sound.{IsWithin}
use Rattle.step_core.specs.declared.answer.WordRequest.{WordRequest}
use Rattle.step_core.proofs.actor.Actor.ask.Goals as goal

pub returns-in-Begin-clause-keeps : goal.returns-in-Begin-clause-keeps
returns-in-Begin-clause-keeps c f = c.ask_begin.ensures.keeps c.args.locations f

pub returns-in-Lock-clause-keeps : goal.returns-in-Lock-clause-keeps
returns-in-Lock-clause-keeps c f = c.ask_lock.ensures.keeps c.args.locations f

pub returns-in-Store-clause-keeps : goal.returns-in-Store-clause-keeps
returns-in-Store-clause-keeps c f = c.ask_store.ensures.keeps c.args.locations f

pub returns-in-Release-clause-keeps : goal.returns-in-Release-clause-keeps
returns-in-Release-clause-keeps c f = c.ask_release.ensures.keeps c.args.locations f

pub returns-in-Cancel-clause-keeps : goal.returns-in-Cancel-clause-keeps
returns-in-Cancel-clause-keeps c f = c.ask_cancel.ensures.keeps c.args.locations f

pub returns-in-Abort-clause-keeps : goal.returns-in-Abort-clause-keeps
returns-in-Abort-clause-keeps c f = c.ask_abort.ensures.keeps c.args.locations f

pub returns-in-Close-clause-keeps : goal.returns-in-Close-clause-keeps
returns-in-Close-clause-keeps c f = c.ask_close.ensures.keeps c.args.locations f

pub returns-in-Read-clause-keeps : goal.returns-in-Read-clause-keeps
returns-in-Read-clause-keeps c f = c.ask_read.ensures.keeps c.args.locations
    (subst (λ (q : WordRequest). IsWithin c.args.locations (request_of q)) c.in-Read.is
    (within_of c.args.locations (actor_of c.args.self.now) (request_of c.args.request) c.requires.limit)) f

pub returns-in-Write-clause-keeps : goal.returns-in-Write-clause-keeps
returns-in-Write-clause-keeps c f = c.ask_write.ensures.keeps c.args.locations
    (subst (λ (q : WordRequest). IsWithin c.args.locations (request_of q)) c.in-Write.is
    (within_of c.args.locations (actor_of c.args.self.now) (request_of c.args.request) c.requires.limit)) f

pub ask_read-requires-clause-limit : goal.ask_read-requires-clause-limit
ask_read-requires-clause-limit c =
    read_limit c.args.locations (actor_of c.args.self.now) c.in-Read.location
    (subst (λ (q : WordRequest). location_refusal c.args.locations (actor_of c.args.self.now) (request_of q)
    ≡ None) c.in-Read.is c.requires.limit)

pub ask_write-requires-clause-limit : goal.ask_write-requires-clause-limit
ask_write-requires-clause-limit c =
    write_limit c.args.locations (actor_of c.args.self.now) c.in-Write.location c.in-Write.value
    (subst (λ (q : WordRequest). location_refusal c.args.locations (actor_of c.args.self.now) (request_of q)
    ≡ None) c.in-Write.is c.requires.limit)

pub returns-in-BeginRead-clause-keeps : goal.returns-in-BeginRead-clause-keeps
returns-in-BeginRead-clause-keeps c f = c.ask_begin_read.ensures.keeps c.args.locations f

pub ask_write-requires-clause-writer : goal.ask_write-requires-clause-writer
ask_write-requires-clause-writer c =
    write_writer c.args.locations (actor_of c.args.self.now) c.in-Write.location c.in-Write.value
    (subst (λ (q : WordRequest). location_refusal c.args.locations (actor_of c.args.self.now) (request_of q)
    ≡ None) c.in-Write.is c.requires.limit)

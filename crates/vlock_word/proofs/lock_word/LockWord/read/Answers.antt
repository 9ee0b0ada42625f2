use Rattle.vlock_word.proofs.LockWordLemmas.{unbits_even, unbits_odd}
use Rattle.vlock_word.proofs.lock_word.LockWord.read.Goals as goal

pub returns-then-word-eq0-clause-is : goal.returns-then-word-eq0-clause-is
returns-then-word-eq0-clause-is c = unbits_even c.args.word c.if-word-eq0.true

pub returns-else-word-eq0-clause-is : goal.returns-else-word-eq0-clause-is
returns-else-word-eq0-clause-is c = unbits_odd c.args.word c.if-word-eq0.false

-- What a step of the words answers, by the number that it finds.
use Rattle.std.specs.Prelude.{ℕ}
use Rattle.vlock_word.specs.LockWord.{unbits}
use Rattle.tx_machine.specs.Actor.{Actor, Place}
use Rattle.tx_machine.specs.World.{World, start}
use Rattle.tx_machine.specs.Notices.{Notice, notice}

-- the words where n stands in each
abbrev pub everywhere : ℕ → World
everywhere n = record (start n (λ l. n)) { locks = λ l. unbits n }

-- a step touches one word, so it answers what it would where n stands in each
abbrev pub tells : Actor → Place → ℕ → Notice
tells x p n = notice (everywhere n) x p

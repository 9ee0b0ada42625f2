use Rattle.std.proofs.Common.{◌≡◌, ◌<◌, ◌%◌, ◌^◌, ◌+◌, ◌*◌, ◌∙◌, ap, sym, subst, arith}
use Rattle.vlock_word.proofs.LockWordLemmas.{unbits_free, unbits_locked}
use Rattle.vlock_word.specs.LockWord.{unbits, version_of}
use Rattle.vlock_word.specs.declared.lock_word.LockWord.{LockWord}
use Rattle.vlock_word.proofs.lock_word.LockWord.bits.Goals as goal

pub returns-in-Free-clause-back : goal.returns-in-Free-clause-back
returns-in-Free-clause-back c below =
    let v = c.in-Free.version in
    let small : v < 2 ^ 63 = subst (λ (w : LockWord). version_of w < 2 ^ 63) c.in-Free.is below in
    let whole : v * 2 % 2 ^ 64 ≡ 2 * v = omega (arith, small) in
    ap unbits whole ∙ unbits_free v ∙ sym c.in-Free.is

pub returns-in-Locked-clause-back : goal.returns-in-Locked-clause-back
returns-in-Locked-clause-back c below =
    let v = c.in-Locked.version in
    let small : v < 2 ^ 63 = subst (λ (w : LockWord). version_of w < 2 ^ 63) c.in-Locked.is below in
    let whole : (v * 2 % 2 ^ 64 + 1) % 2 ^ 64 ≡ 2 * v + 1 = omega (arith, small) in
    ap unbits whole ∙ unbits_locked v ∙ sym c.in-Locked.is

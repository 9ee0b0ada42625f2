-- A lock word and its number.
use Rattle.std.proofs.Common.{◌≡◌, ℕ, zero, suc, ◌+◌, ◌*◌, ◌/◌, ◌%◌, refl, sym, ap, ◌∙◌, arith, eqb, eq-eqb, ne_eqb}
use Rattle.std.proofs.lemmas.Bool.{cond-true, cond-false}
use Rattle.vlock_word.specs.declared.lock_word.LockWord.{LockWord}
use Rattle.vlock_word.specs.declared.lock_word.LockWord.TheVariants.{Free, Locked}
use Rattle.vlock_word.specs.LockWord.{bits, unbits}

pub unbits_even : (word : ℕ) → word % 2 ≡ 0 → Free (word / 2) ≡ unbits word
unfolding unbits
unbits_even word even = sym (cond-true (eqb (word % 2) 0) (Free (word / 2)) (Locked (word / 2)) (eq-eqb (word % 2) 0 even))

pub unbits_odd : (word : ℕ) → (word % 2 ≡ 0 → ⊥) → Locked (word / 2) ≡ unbits word
unfolding unbits
unbits_odd word odd = sym (cond-false (eqb (word % 2) 0) (Free (word / 2)) (Locked (word / 2)) (ne_eqb (word % 2) 0 odd))

pub bits_unbits : (word : ℕ) → bits (unbits word) ≡ word
bits_unbits word = go (word % 2) refl
  where
    go : (r : ℕ) → word % 2 ≡ r → bits (unbits word) ≡ word
    go zero e = ap bits (sym (unbits_even word e)) ∙ omega (arith, e)
    go (suc r) e = ap bits (sym (unbits_odd word (λ z. omega (arith, e, z)))) ∙ omega (arith, e)

pub unbits_free : (version : ℕ) → unbits (2 * version) ≡ Free version
unbits_free version = sym (unbits_even (2 * version) (omega arith)) ∙ ap Free (omega arith)

pub unbits_locked : (version : ℕ) → unbits (2 * version + 1) ≡ Locked version
unbits_locked version = sym (unbits_odd (2 * version + 1) (λ z. omega (arith, z))) ∙ ap Locked (omega arith)

pub unbits_bits : (word : LockWord) → unbits (bits word) ≡ word
unbits_bits (Free version) = unbits_free version
unbits_bits (Locked version) = unbits_locked version

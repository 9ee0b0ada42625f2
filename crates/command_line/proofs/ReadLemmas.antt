-- What was read so far of a reader whose bytes are known.
use Rattle.std.proofs.Common.{◌≡◌, ◌∙◌, refl, sym, ap, ℕ, ◌+◌, ◌<◌, List, [], ◌++◌, length, Option, Some, None, append_assoc, append-nil}
use Rattle.std.proofs.Common.{length-append, arith}
use Rattle.std.specs.Prelude.{IfSome}
use Rattle.std.specs.Io.KnownBytes.{Consumes, IsAtEnd}

pub consumes_nothing : (bytes : Option (List ℕ)) → Consumes bytes bytes []
consumes_nothing None = tt
consumes_nothing (Some bytes) = refl

pub consumes_on : (old then new : Option (List ℕ)) (xs ys : List ℕ)
    → Consumes old then xs → Consumes then new ys → Consumes old new (xs ++ ys)
consumes_on None then new xs ys first second = tt
consumes_on (Some bytes) None new xs ys first second = absurd first
consumes_on (Some bytes) (Some rest) None xs ys first second = absurd second
consumes_on (Some bytes) (Some rest) (Some last) xs ys first second =
    first ∙ ap (λ more. xs ++ more) second ∙ sym (append_assoc xs ys last)

pub whole_at_end : (old new : Option (List ℕ)) (xs : List ℕ)
    → Consumes old new xs → IsAtEnd new → IfSome old (λ bytes. xs ≡ bytes)
whole_at_end None new xs consumed end = tt
whole_at_end (Some bytes) None xs consumed end = absurd consumed
whole_at_end (Some bytes) (Some rest) xs consumed end =
    sym (consumed ∙ ap (λ more. xs ++ more) end ∙ append-nil xs)

pub longer_than_read : (old new : Option (List ℕ)) (xs : List ℕ) (n : ℕ)
    → Consumes old new xs → n < length xs → IfSome old (λ bytes. n < length bytes)
longer_than_read None new xs n consumed lt = tt
longer_than_read (Some bytes) None xs n consumed lt = absurd consumed
longer_than_read (Some bytes) (Some rest) xs n consumed lt =
    let same : length bytes ≡ length (xs ++ rest) = ap (λ (s : List ℕ). length s) consumed in
    let sum : length (xs ++ rest) ≡ length xs + length rest = length-append xs rest in
    omega arith

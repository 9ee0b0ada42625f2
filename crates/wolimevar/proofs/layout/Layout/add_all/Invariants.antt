use Rattle.std.proofs.Common.{◌≡◌, ◌+◌, ◌++◌, ◌≤◌, length, map}
use Rattle.std.specs.Vec.{vec_capacity}
use Rattle.wolimevar.proofs.layout.Layout.add_all.Given as goal

-- so far these are added, and there is room for the others
abbrev pub invariant-all : goal.invariant-all
invariant-all g l = record {
  store : l.self.store ≡ l.fn.self.store;
  words : l.self.words ≡ l.fn.self.words;
  added : map (λ c. c.held) l.self.collections.items ≡ map (λ c. c.held) l.fn.self.collections.items ++ l.yielded;
  room : length l.self.collections.items + (length l.fn.all.items) ≤ vec_capacity l.self.collections + length l.yielded;
}

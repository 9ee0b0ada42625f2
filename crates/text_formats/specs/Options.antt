-- The ranges of the options, and what follows from them.
use Rattle.std.specs.Prelude.{◌≤◌, ℕ, ◌+◌, ◌*◌, ◌/◌, ◌%◌, nat_le, if◌then◌else◌}
use Rattle.text_formats.specs.declared.options.Options.{Options}

-- each option is within its range
pub record AreWithin (o : Options) : Type 0 where
  pub clients : (1 ≤ o.clients) × (o.clients ≤ 64)
  pub queries : (1 ≤ o.queries) × (o.queries ≤ 100)
  pub queried : (1 ≤ o.percent_queried) × (o.percent_queried ≤ 100)
  pub relations : (1 ≤ o.relations) × (o.relations ≤ 10000)
  pub transactions : (1 ≤ o.transactions) × (o.transactions ≤ 100000)
  pub user : o.percent_user ≤ 100

-- the share of the ids that sessions name, rounded down, and at least one
abbrev pub greatest_id : Options → ℕ
greatest_id o = let share : ℕ = o.relations * o.percent_queried / 100 in if nat_le 1 share then share else 1

-- how many sessions a worker makes: as many as all others, and the first workers one more until all are given
abbrev pub count_of : Options → ℕ → ℕ
count_of o worker = let share : ℕ = o.transactions / o.clients in if nat_le worker (o.transactions % o.clients) then share + 1 else share

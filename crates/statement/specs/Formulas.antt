-- The standing and the amounts of a run, by accepted calls alone.
use Rattle.std.specs.Prelude.{ℕ, ◌+◌, map, Option}
use Rattle.std.specs.List.{range_with_len}
use Rattle.std.specs.Option.{unwrap_or, option_map}
use Rattle.allocations.specs.Parts.{Parts}
use Rattle.billing.specs.Run.{Inputs}
use Rattle.book.specs.declared.stage.Stage.{Stage}
use Rattle.book.specs.declared.stage.Stage.TheVariants.{Open}
use Rattle.book.specs.Model.{own_bill}
use Rattle.statement.specs.Journal.{Journal, Run, last, for, total}

-- A point's user, its nominator (the last by connect or appoint) and its nominee (the last by connect or nominate).
abbrev pub user_of : ℕ → Journal → Option ℕ
user_of point j = last (λ s. for point s.user) j

abbrev pub nominator_of : ℕ → Journal → Option ℕ
nominator_of point j = last (λ s. for point s.nominator) j

abbrev pub nominee_of : ℕ → Journal → Option ℕ
nominee_of point j = last (λ s. for point s.nominee) j

-- A party's allocation is the last one; before any it pays its own bill.
abbrev pub allocation_of : ℕ → Journal → Parts
allocation_of party j = unwrap_or (last (λ s. for party s.allocation) j) (own_bill party)

-- The cost, 0 before any, and its provider, 0 for none.
abbrev pub cost_of : Journal → ℕ
cost_of j = unwrap_or (option_map (λ p. p.1) (last (λ s. s.cost) j)) 0

abbrev pub provider_number : Journal → ℕ
provider_number j = unwrap_or (option_map (λ p. p.0) (last (λ s. s.cost) j)) 0

-- The run is the last begin.
abbrev pub run_of : Journal → Option Run
run_of j = last (λ s. s.run) j

abbrev pub stage_of : Journal → Stage
stage_of j = unwrap_or (last (λ s. s.stage) j) Open

-- What a party has paid and was paid out, and what all have.
abbrev pub paid_by : ℕ → Journal → ℕ
paid_by party j = total (λ s. for party s.payment) j

abbrev pub paid_out_to : ℕ → Journal → ℕ
paid_out_to party j = total (λ s. for party s.paid_out) j

abbrev pub all_payments : Journal → ℕ
all_payments j = total (λ s. option_map (λ p. p.1) s.payment) j

abbrev pub all_payouts : Journal → ℕ
all_payouts j = total (λ s. option_map (λ p. p.1) s.paid_out) j

-- What the amounts of a run are worked out from.
abbrev pub inputs_by : ℕ → ℕ → Journal → Run → Inputs
inputs_by parties points j run = record {
  parties = parties;
  rates = run.rates;
  cost = cost_of j;
  provider = provider_number j;
  nominees = map (λ k. unwrap_or (nominee_of (k + 1) j) 0) (range_with_len 0 points);
  nominators = map (λ k. unwrap_or (nominator_of (k + 1) j) 0) (range_with_len 0 points);
  allocations = map (λ k. allocation_of (k + 1) j) (range_with_len 0 parties);
  month = run.month;
  reference = run.reference;
  meaning = run.meaning;
}

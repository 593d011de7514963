-- What a `JoinFeed` means, and which joins it stands for.
use Rattle.std.specs.Prelude.{◌≡◌, ℕ, Bool, true, cond, Ok, Err, Result}
use Rattle.faults.specs.declared.Fault.{Fault}
use Rattle.tables.specs.Table.{Table, Sound, within, outside}
use Rattle.tables.specs.Groups.{Joins, accepted, Connected, Lowest}
use Rattle.tables.specs.Joined.{shown, joined}
use Rattle.tables.specs.Laws.{ShowsGroups}
use Rattle.tables.proofs.Gathers.{shown_sound}
use Rattle.feeds.specs.Leaders.{lead_of}
use Rattle.feeds.specs.declared.joined.JoinFeed.{JoinFeed}

module _ {F : Type 0} (table : F → Table) where
  -- The table below, with what each point leads at that point.
  abbrev pub join_table : JoinFeed F → Table
  join_table s = shown (lead_of s.leaders) (table s.below)

  pub join_table_sound : ((f : F) → Sound (table f)) → (s : JoinFeed F) → Sound (join_table s)
  join_table_sound sound s = shown_sound (lead_of s.leaders) (table s.below) (sound s.below)

  -- Whether both points of a join are among the points, and what the join then answers.
  abbrev pub accepts : JoinFeed F → ℕ → ℕ → Bool
  accepts s a b = accepted (table s.below).points a b

  abbrev pub join_answer : JoinFeed F → ℕ → ℕ → Result (Unit {0}) Fault
  join_answer s a b = cond (accepts s a b) (Ok tt) (Err outside)

  -- Whether joins put two points into one group.
  abbrev pub InOneGroup : Joins → JoinFeed F → ℕ → ℕ → Type 0
  InOneGroup js s a b = Connected (table s.below).points js a b

  -- The feed after the joins js: each point is led by the lowest point of its group, and the table shows the groups.
  pub record After (js : Joins) (s : JoinFeed F) : Type 0 where
    pub led : (p : ℕ) → within (table s.below).points p ≡ true → Lowest (table s.below).points js p (lead_of s.leaders p)
    pub shows : join_table s ≡ joined js (table s.below)
    pub groups : ShowsGroups js (table s.below) (join_table s)

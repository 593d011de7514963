-- The kinds of notices and their numbers.
use Rattle.std.specs.Prelude.{◌≡◌, ◌≢◌, ℕ, MatchResult, Result}
use Rattle.faults.specs.declared.Fault.{Fault}
use Rattle.faults.specs.declared.NoticeCause.TheVariants as notice
use Rattle.faults.specs.Numbers.{notice_fault}
use Rattle.notices.specs.Notices.{allocate_kind, appoint_kind, connect_kind, cost_kind, nominate_kind}
use Rattle.notices.specs.declared.kind.Kind.{Kind}
use Rattle.notices.specs.declared.kind.Kind.TheVariants.{Connect, Appoint, Nominate, Allocate, Cost}

-- The number that a record of each kind has.
abbrev pub number_of : Kind → ℕ
number_of Connect = connect_kind
number_of Appoint = appoint_kind
number_of Nominate = nominate_kind
number_of Allocate = allocate_kind
number_of Cost = cost_kind

-- The kind that has a number, or the fault of a number that no kind has.
abbrev pub Decodes : ℕ → Result Kind Fault → Type 0
Decodes number r =
    MatchResult r (λ kind. number_of kind ≡ number) (λ fault. (fault ≡ notice_fault notice.UnexpectedKind 0) × ((kind : Kind) → number_of kind ≢ number))

-- What a notice says, and its bytes.
use Rattle.std.specs.Prelude.{◌≡◌, ℕ, ◌%◌, ◌^◌, ◌<◌, ◌≤◌, List, [], ◌∷◌, length}
use Rattle.files.specs.Numbers.{four}
use Rattle.files.specs.Records.{framed}
use Rattle.notices.specs.declared.notice.Notice.{Notice}
use Rattle.notices.specs.declared.notice.Notice.TheVariants.{Connect, Appoint, Nominate, Allocate, Cost}

-- What a notice says, with its fields in their order; an allocation holds the bytes of its parts.
pub data Said : Type 0 where
  connect : (point user : ℕ) → Said
  appoint : (sender point nominator : ℕ) → Said
  nominate : (sender point nominee : ℕ) → Said
  allocate : (party : ℕ) (parts : List ℕ) → Said
  cost : (provider cents : ℕ) → Said

-- What a notice of the code says.
abbrev pub said : Notice → Said
said (Connect point user) = connect point user
said (Appoint sender point nominator) = appoint sender point nominator
said (Nominate sender point nominee) = nominate sender point nominee
said (Allocate party parts) = allocate party parts.now
said (Cost provider cents) = cost provider cents

-- The kinds of the notices.
abbrev pub connect_kind : ℕ
connect_kind = 1

abbrev pub appoint_kind : ℕ
appoint_kind = 2

abbrev pub nominate_kind : ℕ
nominate_kind = 3

abbrev pub allocate_kind : ℕ
allocate_kind = 4

abbrev pub cost_kind : ℕ
cost_kind = 5

-- The kind of a notice.
abbrev pub kind_of : Said → ℕ
kind_of (connect point user) = connect_kind
kind_of (appoint sender point nominator) = appoint_kind
kind_of (nominate sender point nominee) = nominate_kind
kind_of (allocate party parts) = allocate_kind
kind_of (cost provider cents) = cost_kind

-- The body of each notice: a byte for each field, and four for the cents.
abbrev pub body_of : Said → List ℕ
body_of (connect point user) = point ∷ user ∷ []
body_of (appoint sender point nominator) = sender ∷ point ∷ nominator ∷ []
body_of (nominate sender point nominee) = sender ∷ point ∷ nominee ∷ []
body_of (allocate party parts) = party ∷ parts
body_of (cost provider cents) = provider ∷ four cents

-- The bytes of a notice.
abbrev pub encode : Said → List ℕ
encode n = framed (kind_of n) (body_of n)

-- What a notice can hold: 0 to 4 parts of three bytes each, and cents of four bytes.
abbrev pub Sound : Said → Type 0
Sound (connect point user) = Unit {0}
Sound (appoint sender point nominator) = Unit {0}
Sound (nominate sender point nominee) = Unit {0}
Sound (allocate party parts) = (length parts % 3 ≡ 0) × (length parts ≤ 12)
Sound (cost provider cents) = cents < 2 ^ 32

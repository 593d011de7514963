use Rattle.std.proofs.Common.{◌≡◌, ℕ, ◌+◌, ◌<◌, ◌≤◌, ◌≢◌, List, map, length, get_or, set, sum, ap, ◌∙◌, arith, get_or-set_other, get_or-set_same, below_more}
use Rattle.std.specs.List.{range_with_len}
use Rattle.std.proofs.lemmas.List.FromFn.{fill_by_all, length-map-range_with_len, get_or-map-range_with_len}
use Rattle.std.proofs.lemmas.Bool.{lt-ltb, le-ltb}
use Rattle.sharing.specs.Weights.{one_if, whole, part, remainder, served_before, left_over}
use Rattle.sharing.specs.Parts.{whole_front}
use Rattle.sharing.proofs.split.Split.give_odd_cents.Goals as goal
use Rattle.sharing.proofs.split.Split.give_odd_cents.Goals.{then-places_before-left, else-places_before-left}

-- there are as many places as weights
as_many : (amount : ℕ) (weights shares : List ℕ) → shares ≡ map (whole amount weights) (range_with_len 0 (length weights)) → length shares ≡ length weights
as_many amount weights shares e = ap length e ∙ length-map-range_with_len (whole amount weights) 0 (length weights)

-- one place more has its share
step : (amount : ℕ) (weights old new : List ℕ) (i : ℕ) → i < length weights → length old ≡ length weights → ((k : ℕ) → k < i → get_or old k 0 ≡ part amount weights k) → ((k : ℕ) → i ≤ k → k < length weights → get_or old k 0 ≡ whole amount weights k) → new ≡ set old i (part amount weights i) → ((k : ℕ) → k < i + 1 → get_or new k 0 ≡ part amount weights k) × ((k : ℕ) → i + 1 ≤ k → k < length weights → get_or new k 0 ≡ whole amount weights k)
step amount weights old new i lt long done open-yet e = (
  below_more _ _
      (λ k h. let ne : k ≢ i = omega arith in ap (λ (xs : List ℕ). get_or xs k 0) e ∙ get_or-set_other old i k _ 0 ne ∙ done k h)
      (ap (λ (xs : List ℕ). get_or xs i 0) e ∙ get_or-set_same old i _ 0 (omega arith)),
  λ k l h. let ne : k ≢ i = omega arith in ap (λ (xs : List ℕ). get_or xs k 0) e ∙ get_or-set_other old i k _ 0 ne ∙ open-yet k (omega arith) h,
)

pub loop-i-init : goal.loop-i-init
loop-i-init c =
    let split = c.args.self.now in (
      λ k h. absurd (omega arith),
      λ k l h. ap (λ (xs : List ℕ). get_or xs k 0) c.requires.wholes ∙ get_or-map-range_with_len (whole split.amount split.weights.now) 0 (length split.weights.now) k k 0 h (omega arith),
    )

pub places_before-requires : goal.places_before-requires
places_before-requires c =
    let split = c.args.self.now in
    omega (arith, as_many split.amount split.weights.now c.args.shares.now c.requires.wholes)

pub overflow_add-share : goal.overflow_add-share
overflow_add-share c =
    let split = c.args.self.now in
    let many = as_many split.amount split.weights.now c.args.shares.now c.requires.wholes in
    let within : c.loop-i.i < length split.weights.now = omega arith in
    let some : 0 < sum split.weights.now = omega (arith, split.sums, split.some) in
    omega (arith, c.loop-i.invariant.1 c.loop-i.i (omega arith) within, whole_front split.amount split.weights.now c.loop-i.i some within, split.most)

pub loop-i-preserved : goal.loop-i-preserved
loop-i-preserved c =
    let split = c.args.self.now in
    let weights = split.weights.now in
    let amount = split.amount in
    let i = c.loop-i.i in
    let old = c.loop-i.shares in
    let many = as_many amount weights c.args.shares.now c.requires.wholes in
    let within : c.loop-i.i < length split.weights.now = omega arith in
    let here = c.loop-i.invariant.1 i (omega arith) within in
    step amount weights old c.if-places_before-left.shares i within (omega arith) c.loop-i.invariant.0 c.loop-i.invariant.1
    (elim c.if-places_before-left.branch [
      | then-places_before-left w ↦
          let cent = ap one_if (lt-ltb (served_before (remainder amount weights) (length weights) i) (left_over amount weights) (omega (arith, c.places_before.ensures, c.requires.rest, w.if-places_before-left.true))) in
          w.shares-is ∙ ap (set old i) (omega (arith, cent, here))
      | else-places_before-left w ↦
          let cent = ap one_if (le-ltb (served_before (remainder amount weights) (length weights) i) (left_over amount weights) (omega (arith, c.places_before.ensures, c.requires.rest, w.if-places_before-left.false))) in
          w.shares-is ∙ ap (set old i) (omega (arith, cent, here))
    ])

pub returns : goal.returns
returns c =
    let split = c.args.self.now in
    let many = as_many split.amount split.weights.now c.args.shares.now c.requires.wholes in
    fill_by_all (part split.amount split.weights.now) c.loop-i.shares (length split.weights.now) 0 (omega arith)
    (λ k h. c.loop-i.invariant.0 k (omega arith))

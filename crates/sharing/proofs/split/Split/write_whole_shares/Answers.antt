use Rattle.std.proofs.Common.{◌≡◌, ◌/◌, ◌<◌, ◌≢◌, ◌∙◌, length, sum, arith, get_or-set_other, get_or-set_same, below_more}
use Rattle.std.proofs.lemmas.List.FromFn.{fill_by_all}
use Rattle.sharing.specs.Weights.{whole}
use Rattle.sharing.specs.Parts.{whole_front}
use Rattle.sharing.specs.Sums.{sum_more}
use Rattle.sharing.proofs.split.Split.write_whole_shares.Goals as goal

pub overflow_sub-left : goal.overflow_sub-left
overflow_sub-left c =
    let split = c.args.self.now in
    let i = c.loop-share.share-index in
    let some : 0 < sum split.weights.now = omega (arith, split.sums, split.some) in
    let as_weight = c.loop-share.invariant.1 c.loop-share.share-index (omega arith) in
    let share : c.product.result / split.total ≡ whole split.amount split.weights.now i = cc (c.product.ensures, as_weight, split.sums) in
    omega (arith, c.loop-share.invariant.2, whole_front split.amount split.weights.now i some (omega arith))

pub loop-share-preserved : goal.loop-share-preserved
loop-share-preserved c =
    let split = c.args.self.now in
    let i = c.loop-share.share-index in
    let old = c.loop-share.shares in
    let within : i < length old = omega arith in
    let some : 0 < sum split.weights.now = omega (arith, split.sums, split.some) in
    let as_weight = c.loop-share.invariant.1 c.loop-share.share-index (omega arith) in
    let share : c.product.result / split.total ≡ whole split.amount split.weights.now i = cc (c.product.ensures, as_weight, split.sums) in (
      below_more _ _
          (λ k h. let ne : k ≢ i = omega arith in get_or-set_other old i k _ 0 ne ∙ c.loop-share.invariant.0 k h)
          (get_or-set_same old i _ 0 within ∙ share),
      λ k h. let ne : k ≢ i = omega arith in get_or-set_other old i k _ 0 ne ∙ c.loop-share.invariant.1 k (omega arith),
      omega (arith, c.loop-share.invariant.2, sum_more (whole split.amount split.weights.now) i, whole_front split.amount split.weights.now i some (omega arith)),
    )

pub returns-clause-places : goal.returns-clause-places
returns-clause-places c =
    let weights = c.args.self.now.weights.now in
    fill_by_all (whole c.args.self.now.amount weights) c.loop-share.shares (length weights) 0 (omega arith) (λ k h. c.loop-share.invariant.0 k (omega arith))

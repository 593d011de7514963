use Rattle.std.proofs.Common.{◌≡◌, ℕ, ◌+◌, ◌-◌, ◌<◌, ◌≤◌, min, max, length, get_or, take, fold, sym, ap, ◌∙◌, arith}
use Rattle.std.proofs.lemmas.Bool.{and_parts}
use Rattle.tables.specs.Table.{Table, withdrawn, cell}
use Rattle.tables.specs.Swing.{withdrawals}
use Rattle.tables.proofs.Cells.{read_ok}
use Rattle.tables.proofs.Extremes.{withdrawn_at, fold_next, fold_all, swing_is}
use Rattle.feeds.proofs.swings.swing.Goals as goal
use Rattle.feeds.proofs.swings.swing.Goals.{else-loop-interval-test, then-loop-interval-test+in_ok-withdrawn+else-interval-interval-end}

-- The fold up to j = k + 1, where q = k + 1 is the interval that comes in.
fold_to : (t : Table) (p : ℕ) (f : ℕ → ℕ → ℕ) (a q k j : ℕ) → q ≡ k + 1 → j ≡ k + 1 → k < length t.rows
    → fold f a (take j (withdrawals t p)) ≡ f (fold f a (take k (withdrawals t p))) (withdrawn (cell t p q))
fold_to t p f a q k j here last more =
    ap (λ i. fold f a (take i (withdrawals t p))) last ∙ fold_next t p f a k more ∙ ap (λ i. f (fold f a (take k (withdrawals t p))) (withdrawn (cell t p i))) (sym here)

pub loop-interval-init : goal.loop-interval-init
loop-interval-init g c =
    let t = g.F.Feed.table c.args.feed.now in
    let p = c.args.point in
    let some : 0 < length t.rows = (g.met.F.Feed.sound c.args.feed.now).counts.2 in
    let got = read_ok t p 1 _ c.in_ok-first.ensures in
    let w = ap withdrawn got.1 in
    let first = withdrawn_at t p 0 some in
    let low = fold_next t p min (get_or (withdrawals t p) 0 0) 0 some in
    let high = fold_next t p max 0 0 some in
    ((and_parts _ _ got.0).0, omega arith, omega arith, omega arith)

pub loop-interval-preserved : goal.loop-interval-preserved
loop-interval-preserved g c =
    let t = g.F.Feed.table c.args.feed.now in
    let p = c.args.point in
    let q = c.loop-interval.interval in
    let m = c.intervals-interval-end.ensures in
    let start = c.loop-interval.auto.interval in
    let more : q - 1 < length t.rows = omega arith in
    let got = read_ok t p q _ c.in_ok-withdrawn.ensures in
    let w = ap withdrawn got.1 in
    let low = fold_to t p min (get_or (withdrawals t p) 0 0) q (q - 1) (q + 1 - 1) (omega arith) (omega arith) more in
    let high = fold_to t p max 0 q (q - 1) (q + 1 - 1) (omega arith) (omega arith) more in
    let a = c.min-smallest.ensures in
    let b = c.max-largest.ensures in
    let i = c.loop-interval.invariant in
    (i.0, omega arith, omega arith, omega arith)

pub overflow_sub-result : goal.overflow_sub-result
overflow_sub-result g c =
    let i = c.loop-interval.invariant in
    elim c.loop-interval-test.branch [
      | else-loop-interval-test w ↦ omega (arith, w.smallest-is, w.largest-is)
      | then-loop-interval-test+in_ok-withdrawn+else-interval-interval-end w ↦ omega (arith, w.smallest-is, w.largest-is, w.min-smallest.ensures, w.max-largest.ensures)
    ]

pub returns : goal.returns
returns g c =
    let t = g.F.Feed.table c.args.feed.now in
    let p = c.args.point in
    let q = c.loop-interval.interval in
    let m = c.intervals-interval-end.ensures in
    let start = c.loop-interval.auto.interval in
    let some : 0 < length t.rows = (g.met.F.Feed.sound c.args.feed.now).counts.2 in
    let i = c.loop-interval.invariant in
    elim c.loop-interval-test.branch [
      | else-loop-interval-test w ↦
          let end : length t.rows ≤ q - 1 = omega (arith, w.loop-interval-test.false) in
          swing_is t p c.loop-interval-test.largest c.loop-interval-test.smallest i.0 (w.largest-is ∙ i.2 ∙ fold_all t p max 0 (q - 1) end) (w.smallest-is ∙ i.1 ∙ fold_all t p min (get_or (withdrawals t p) 0 0) (q - 1) end)
      | then-loop-interval-test+in_ok-withdrawn+else-interval-interval-end w ↦
          let more : q - 1 < length t.rows = omega (arith, w.loop-interval-test.true) in
          let end : length t.rows ≤ q = omega arith in
          let got = read_ok t p q _ w.in_ok-withdrawn.ensures in
          let v = ap withdrawn got.1 in
          let low = fold_to t p min (get_or (withdrawals t p) 0 0) q (q - 1) q (omega arith) (omega arith) more in
          let high = fold_to t p max 0 q (q - 1) q (omega arith) (omega arith) more in
          let small : c.loop-interval-test.smallest ≡ fold min (get_or (withdrawals t p) 0 0) (take q (withdrawals t p)) = omega (arith, w.smallest-is, w.min-smallest.ensures) in
          let large : c.loop-interval-test.largest ≡ fold max 0 (take q (withdrawals t p)) = omega (arith, w.largest-is, w.max-largest.ensures) in
          swing_is t p c.loop-interval-test.largest c.loop-interval-test.smallest i.0 (large ∙ fold_all t p max 0 q end) (small ∙ fold_all t p min (get_or (withdrawals t p) 0 0) q end)
    ]

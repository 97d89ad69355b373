use Rattle.std.proofs.Common.{ℕ, ◌/◌, ◌%◌, get_or, inl, lit≤}
use Rattle.std.proofs.Math.Nat.{zero-add}
use Rattle.cd_code.specs.CodeWords.{bytes_at, diagonal_input}
use Rattle.cd_code.specs.Filling.{Filled}
use Rattle.cd_code.proofs.ParityLemmas.{Filled-none, Filled-put, diagonals_made}
use Rattle.cd_lanes.proofs.parity.fill_diagonals.Goals as goal

filled : (c : goal.After-put_pairs-2)
    → Filled (λ i. bytes_at c.args.bytes.now (diagonal_input (i % 2) (i / 2))) 2248 52 52
    c.args.bytes.now c.put_pairs-2.new.bytes
filled c =
    let old = c.args.bytes.now in
    let one = c.put_pairs.new.bytes in
    let low = c.low_input_sums-low in
    let high = c.high_input_sums-high in
    let word = λ (i : ℕ). bytes_at old (diagonal_input (i % 2) (i / 2)) in
    Filled-put word 2248 52 32 20 32 20 (λ i. get_or high.result.plain i 0)
    (λ i. get_or high.result.weighted i 0) old one c.put_pairs-2.new.bytes
    (lit≤ tt) (lit≤ tt) (lit≤ tt) high.ensures.first high.ensures.second c.put_pairs-2.ensures
    (Filled-put word 2248 52 32 0 20 0 (λ i. get_or low.result.plain i 0)
    (λ i. get_or low.result.weighted i 0) old old one
    (lit≤ tt) (lit≤ tt) (lit≤ tt) (simp zero-add low.ensures.first)
    (simp zero-add low.ensures.second) c.put_pairs.ensures (Filled-none word 2248 52 old))

pub returns-clause-words : goal.returns-clause-words
returns-clause-words c =
    diagonals_made c.args.bytes.now c.put_pairs-2.new.bytes c.fits-bytes (filled c)

pub returns-clause-stays : goal.returns-clause-stays
returns-clause-stays c = λ k h. (filled c).stays k (inl h)

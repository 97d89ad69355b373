use Rattle.std.proofs.Common.{ℕ, ◌/◌, ◌%◌, get_or, lit≤}
use Rattle.std.proofs.Math.Nat.{zero-add}
use Rattle.cd_code.specs.CodeWords.{bytes_at, column_input}
use Rattle.cd_code.specs.Filling.{Filled}
use Rattle.cd_code.proofs.ParityLemmas.{Filled-none, Filled-put, columns_made}
use Rattle.cd_lanes.proofs.parity.fill_columns.Goals as goal

filled : (c : goal.After-put_pairs-3)
    → Filled (λ i. bytes_at c.args.bytes.now (column_input (i % 2) (i / 2))) 2076 86 86
    c.args.bytes.now c.put_pairs-3.new.bytes
filled c =
    let old = c.args.bytes.now in
    let lanes = c.column_input_lanes-lanes.result in
    let are = c.column_input_lanes-lanes.ensures in
    let one = c.put_pairs.new.bytes in
    let two = c.put_pairs-2.new.bytes in
    let word = λ (i : ℕ). bytes_at old (column_input (i % 2) (i / 2)) in
    Filled-put word 2076 86 32 54 32 64 (λ i. get_or lanes.back.plain i 0)
    (λ i. get_or lanes.back.weighted i 0) old two c.put_pairs-3.new.bytes
    (lit≤ tt) (lit≤ tt) (lit≤ tt) are.back.plain are.back.weighted c.put_pairs-3.ensures
    (Filled-put word 2076 86 32 32 32 32 (λ i. get_or lanes.middle.plain i 0)
    (λ i. get_or lanes.middle.weighted i 0) old one two
    (lit≤ tt) (lit≤ tt) (lit≤ tt) are.middle.plain are.middle.weighted c.put_pairs-2.ensures
    (Filled-put word 2076 86 32 0 32 0 (λ i. get_or lanes.front.plain i 0)
    (λ i. get_or lanes.front.weighted i 0) old old one
    (lit≤ tt) (lit≤ tt) (lit≤ tt) (simp zero-add are.front.plain) (simp zero-add are.front.weighted)
    c.put_pairs.ensures (Filled-none word 2076 86 old)))

pub returns-clause-words : goal.returns-clause-words
returns-clause-words c =
    columns_made c.args.bytes.now c.put_pairs-3.new.bytes c.fits-bytes (filled c)

pub returns-clause-stays : goal.returns-clause-stays
returns-clause-stays c = (filled c).stays

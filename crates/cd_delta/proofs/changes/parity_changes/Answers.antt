use Rattle.std.proofs.Common.{sym, ◌∙◌, arith, rules}
use Rattle.cd_delta.specs.declared.changes.Change.{Change}
use Rattle.cd_delta.proofs.AmountLemmas.{unique-carried, nonzero-carried}
use Rattle.cd_delta.proofs.KeepLemmas.{AreCarried, Eight, IsDistinct-carried}
use Rattle.cd_delta.proofs.KeepLemmas.{SameSyndromes-carried, parity_places-carried}
use Rattle.cd_delta.proofs.changes.parity_changes.Goals as goal

-- one record of everything that the helpers ensure is used for three clauses
pub returns : goal.returns
returns c =
    let byte : Change = record { place = c.args.place; d = c.args.d } in
    let cell = c.cell_of-cell.result in
    let eight : Eight =
    record {
      column = c.column_changes.result;
      own = c.diagonal_changes.result;
      first = c.diagonal_changes-2.result;
      second = c.diagonal_changes-3.result;
    } in
    let all : AreCarried byte eight =
    record {
      plane = cell.plane;
      row = cell.row;
      column = cell.column;
      in_plane = omega arith;
      in_rows = omega arith;
      in_columns = omega arith;
      in_bytes = omega arith;
      place_at = omega arith;
      of_column = record {
        first_at = c.column_changes.ensures.first;
        second_at = c.column_changes.ensures.second;
        balances = c.column_changes.ensures.balances;
        nonzero = c.column_changes.ensures.nonzero;
        bytes = (omega arith, omega arith);
      };
      of_own = record {
        first_at = c.diagonal_changes.ensures.first;
        second_at = c.diagonal_changes.ensures.second;
        balances = c.diagonal_changes.ensures.balances;
        nonzero = c.diagonal_changes.ensures.nonzero;
        bytes = (omega arith, omega arith);
      };
      of_first = record {
        first_at = omega arith;
        second_at = omega arith;
        balances = rw c.in_row.ensures.column at c.diagonal_changes-2.ensures.balances;
        nonzero = c.diagonal_changes-2.ensures.nonzero;
        bytes = (omega arith, omega arith);
      };
      of_second = record {
        first_at = omega arith;
        second_at = omega arith;
        balances = rw c.in_row-2.ensures.column at c.diagonal_changes-3.ensures.balances;
        nonzero = c.diagonal_changes-3.ensures.nonzero;
        bytes = (omega arith, omega arith);
      };
    } in
    let places = parity_places-carried all in
    record {
      places = places;
      inside = search rules;
      distinct = IsDistinct-carried all;
      keeps = SameSyndromes-carried all;
      unique = λ others at low s each size kept.
          unique-carried all others (at ∙ sym places) low s each size kept;
      nonzero = nonzero-carried all;
    }

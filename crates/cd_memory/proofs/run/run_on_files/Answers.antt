use Rattle.std.proofs.Common.{ap, ap₂, map, nat_eq, string_bytes, subst, sym}
use Rattle.cd_memory.specs.Memory.{growing_outgoing}
use Rattle.cd_memory.specs.Whole.{ProgramResult, RunsOn, environment, result_of}
use Rattle.cd_memory.proofs.PrintLemmas.{Leaves}
use Rattle.cd_memory.proofs.WholeLemmas.{runs-on}
use Rattle.cd_memory.proofs.run.run_on_files.Goals as goal

pub returns : goal.returns
returns c =
    let does = rw c.new-out.ensures at c.run_args-status.ensures.does in
    let after : ProgramResult = result_of (record {
      status = c.run_args-status.result;
      text = c.into_bytes.result;
      complete = nat_eq c.failures-complete.result 0;
      made = c.into_made.result;
    }) in
    let leaves : Leaves (growing_outgoing c.run_args-status.new.out) after = record {
      text = sym c.into_bytes.ensures;
      complete = ap (λ n. nat_eq n 0) c.failures-complete.ensures;
    } in
    subst (λ b. RunsOn (map string_bytes c.args.args.items) b after)
    (ap₂ environment c.new-host.ensures.files c.new-host.ensures.input)
    (runs-on growing_outgoing c.new-host.result c.run_args-status.new.host
    (growing_outgoing c.run_args-status.new.out) after
    c.new-host.ensures.made leaves c.into_made.ensures (map string_bytes c.args.args.items) does)

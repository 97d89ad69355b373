use Rattle.std.proofs.Common.{◌∙◌, ap, subst, sym, List, map}
use Rattle.std.specs.Prelude.{option_map, string_bytes}
use Rattle.std.proofs.lemmas.Result.{err_from_is_err_and}
use Rattle.clap.specs.Words.{Row, Text, app_of, found_of, rows_of}
use Rattle.cd_args.specs.CommandLine.{HasMatches}
use Rattle.cd_args.proofs.ParseLemmas.{entered, entered-parts, entered-some, fault-has_kind, map-none, map-some, none-asks, none-kinds, some-asks, some-error_kinds, taken-no_memory, unfaulted}
use Rattle.cd_args.proofs.parse.job_of.Goals as goal

pub returns-then-is_empty-clause-ok : goal.returns-then-is_empty-clause-ok
returns-then-is_empty-clause-ok c =
    none-asks (map string_bytes c.args.args.items) c.in_ok-standard_input_job.field-0
    (map-none string_bytes c.args.args.items c.args.args.len c.args.args.ok.0
    (sym c.is_empty.ensures ∙ c.if-is_empty.true)) c.in_ok-standard_input_job.ensures

pub returns-then-is_empty-clause-taken : goal.returns-then-is_empty-clause-taken
returns-then-is_empty-clause-taken c =
    none-kinds (map string_bytes c.args.args.items)
    (map-none string_bytes c.args.args.items c.args.args.len c.args.args.ok.0
    (sym c.is_empty.ensures ∙ c.if-is_empty.true))

pub returns-in_err-matches : goal.returns-in_err-matches
returns-in_err-matches c =
    let made =
    err_from_is_err_and c.from_residual-in_err-matches.result
    c.from_residual-in_err-matches.ensures.1 in
    let line = app_of c.in_ok-line.line in
    let given = ap (map string_bytes) c.as_slice.ensures.value in
    let some =
    map-some string_bytes c.args.args.items c.args.args.len c.args.args.ok.0
    (sym c.is_empty.ensures ∙ c.if-is_empty.false) in
    rw made.1 (record {
      ok = tt;
      base = tt;
      taken = tt;
      refused =
          taken-no_memory line c.in_ok-line.ensures _ _ given c.in_err-matches.field-0.0 made.0 some
          c.in_err-matches.ensures.passes made.2;
      kind =
          fault-has_kind line c.in_ok-line.ensures _ _ given c.in_err-matches.field-0.0 made.0 some
          c.in_err-matches.ensures.kinds made.2;
    })

pub unwrap-requires : goal.unwrap-requires
unwrap-requires c =
    c.subcommand.ensures.variant
    ∙ entered-some _ c.in_ok-matches.matches
    (entered c.in_ok-line.ensures (ap (map string_bytes) c.as_slice.ensures.value)
    c.in_ok-matches.ensures.matches c.in_ok-matches.ensures.kinds)

pub entered_job-requires : goal.entered_job-requires
entered_job-requires c =
    let enters =
    entered c.in_ok-line.ensures (ap (map string_bytes) c.as_slice.ensures.value)
    c.in_ok-matches.ensures.matches c.in_ok-matches.ensures.kinds in
    let is =
    entered-parts _ c.in_ok-matches.matches enters c.unwrap.result.0.now
    (rows_of (found_of c.unwrap.result.1.now))
    (sym (ap (option_map (λ p. p.0.now)) c.unwrap.ensures) ∙ c.subcommand.ensures.name)
    (sym (ap (option_map (λ p. rows_of (found_of p.1.now))) c.unwrap.ensures)
    ∙ c.subcommand.ensures.rows) in
    rw (← is) enters.complete

pub returns-clause-ok : goal.returns-clause-ok
returns-clause-ok c =
    let enters =
    entered c.in_ok-line.ensures (ap (map string_bytes) c.as_slice.ensures.value)
    c.in_ok-matches.ensures.matches c.in_ok-matches.ensures.kinds in
    let is =
    entered-parts _ c.in_ok-matches.matches enters c.unwrap.result.0.now
    (rows_of (found_of c.unwrap.result.1.now))
    (sym (ap (option_map (λ p. p.0.now)) c.unwrap.ensures) ∙ c.subcommand.ensures.name)
    (sym (ap (option_map (λ p. rows_of (found_of p.1.now))) c.unwrap.ensures)
    ∙ c.subcommand.ensures.rows) in
    some-asks (map string_bytes c.args.args.items) c.in_ok-entered_job.field-0 enters.matches
    (map-some string_bytes c.args.args.items c.args.args.len c.args.args.ok.0
    (sym c.is_empty.ensures ∙ c.if-is_empty.false)) enters.is
    (subst (λ (p : Text × List Row). HasMatches p c.in_ok-entered_job.field-0)
    (sym is) c.in_ok-entered_job.ensures.job)

pub returns-clause-taken : goal.returns-clause-taken
returns-clause-taken c =
    some-error_kinds (map string_bytes c.args.args.items)
    (map-some string_bytes c.args.args.items c.args.args.len c.args.args.ok.0
    (sym c.is_empty.ensures ∙ c.if-is_empty.false))
    ∙ unfaulted (app_of c.in_ok-line.line) c.in_ok-line.ensures _ _
    (ap (map string_bytes) c.as_slice.ensures.value) c.in_ok-matches.ensures.kinds

use Rattle.cd_program.proofs.jobs.run_job.Goals as goal

pub returns-in-List : goal.returns-in-List
returns-in-List g c = rw (c.in-List.is, ← c.as_str.ensures.value) assumption

pub returns-in-Audit : goal.returns-in-Audit
returns-in-Audit g c = rw (c.in-Audit.is, ← c.as_str-in-Audit.ensures.value) assumption

pub returns-in-Check : goal.returns-in-Check
returns-in-Check g c =
    rw (
      c.in-Check.is,
      ← c.as_str-in-Check.ensures.value,
      ← c.as_str-in-Check-2.ensures.value,
      ← (rw c.in-Check.is at c.settings-settings.ensures),
    ) assumption

pub returns-in-Apply : goal.returns-in-Apply
returns-in-Apply g c =
    rw (
      c.in-Apply.is,
      ← c.as_str-image.ensures.value,
      ← c.as_str-script.ensures.value,
      ← c.as_str-path.ensures.value,
      ← (rw c.in-Apply.is at c.settings-settings.ensures),
    ) assumption

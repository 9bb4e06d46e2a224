use Rattle.std.proofs.Common.{◌∙◌, sym}
use Rattle.command.proofs.log_audit.judge.Goals as goal

pub returns-clause-ok : goal.returns-clause-ok
returns-clause-ok g c =
    let opened = c.in_ok-opened.ensures.ok in
    record {
      options = c.in_ok-options.options;
      given = c.in_ok-options.ensures.ok;
      files = opened.files;
      earlier = _;
      read = opened.read;
      log = _;
      says = opened.log.log;
      audited = λ job begins. c.in_ok-report.ensures opened.files job opened.log.log (opened.log.writes ∙ sym c.as_slice.ensures.value) begins;
    }

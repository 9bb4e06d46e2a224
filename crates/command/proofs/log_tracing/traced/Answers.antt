use Rattle.command.proofs.log_tracing.traced.Goals as goal

pub returns-clause-ok : goal.returns-clause-ok
returns-clause-ok g c =
    let opened = c.in_ok-opened.ensures.ok in
    record {
      wanted = _;
      given = c.in_ok-options.ensures.ok;
      files = opened.files;
      earlier = _;
      read = opened.read;
      log = _;
      says = opened.log.log;
      is = λ job begins. c.in_ok-traced.ensures job begins;
    }

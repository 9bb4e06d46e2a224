use Rattle.std.proofs.Common.{refl, rules, string_bytes}
use Rattle.audit_text.proofs.auditing.audit_log.Goals as goal

pub returns : goal.returns
returns g c = λ files job reads same begins. record {
  log = c.args.log;
  reads = reads;
  begins = begins;
  ordered = c.judge_calls.new.entries.items;
  left_out = refl;
  same = c.judge_calls.ensures.same;
  stable = c.judge_calls.ensures.stable;
  outcome = c.in_ok-judged.judged.outcome;
  judged = c.in_ok-judged.ensures.found job begins;
  one = c.is_one-one.ensures;
  timely = c.is_timely.ensures;
  later = c.in_ok-later.later.items;
  more = rw (← c.as_slice-entries.ensures.value) (c.in_ok-later.ensures job begins);
  drift = string_bytes c.in_ok-drift.drift.line;
  samples = rw (← c.as_slice-entries.ensures.value) c.in_ok-drift.ensures;
  fence = string_bytes c.in_ok-fence.fence.line;
  writes = rw (same, ← c.as_slice-entries.ensures.value, ← c.is_one-one.ensures) (c.in_ok-fence.ensures job begins);
  text = search rules;
  kept = c.in_ok-judged.ensures.kept;
  state = c.in_ok-judged.ensures.state job begins;
  sent = c.in_ok-judged.ensures.sent job begins;
}

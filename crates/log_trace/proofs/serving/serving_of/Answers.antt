use Rattle.std.proofs.Common.{◌≤◌, List, [], length, refl, reverse, subst, arith}
use Rattle.std.proofs.lemmas.List.{take_all}
use Rattle.cluster.specs.continued.Jobs.{from_start}
use Rattle.log_line.specs.declared.entry.LogEntry.{LogEntry}
use Rattle.log_run.specs.Played.{AreCallsOf}
use Rattle.log_trace.proofs.Keeping.{calls_more, few_before}
use Rattle.log_trace.proofs.serving.serving_of.Goals as goal

pub loop-index-init : goal.loop-index-init
loop-index-init c = record {
  past = [];
  calls = refl;
  played = c.in_ok-machines.ensures (from_start c.args.job) refl;
  kept = c.in_ok-kept.ensures;
}

pub loop-index-preserved : goal.loop-index-preserved
loop-index-preserved c =
    let job = c.args.job in
    let entries = c.args.entries.now in
    let i = c.loop-index.index in
    let low = c.loop-index-test.true in
    let known = c.loop-index.invariant in
    let few = few_before job entries i low known.past known.calls (omega arith) in
    let more = c.in_ok-keep.ensures job c.args.key known.past known.played few known.kept in
    record {
      past = more.after;
      calls = calls_more job entries i low known.past known.calls c.index-entries-index.result c.index-entries-index.is more.told more.after more.stands;
      played = more.played;
      kept = more.kept;
    }

pub returns : goal.returns
returns c =
    let job = c.args.job in
    let entries = c.args.entries.now in
    let i = c.loop-index.index in
    let known = c.loop-index.invariant in
    let past_all : length entries ≤ i = omega arith in
    record {
      past = known.past;
      calls = subst (λ (es : List LogEntry). AreCallsOf (from_start job) (reverse es) known.past) (take_all i entries past_all) known.calls;
      run = c.run_law.ensures (from_start job) known.past known.played;
      stretches = c.in_ok-stretches.ensures job known.past c.args.key known.kept.stretches;
      handles = known.kept.handles;
    }

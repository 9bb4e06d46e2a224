use Rattle.std.proofs.Common.{◌+◌, [], ◌∷◌, ◌++◌, refl, inl, inr, arith, rules}
use Rattle.log_trace.proofs.Playing.{lines_more_at}
use Rattle.log_trace.proofs.trace.log_trace_of.Goals as goal

pub loop-index-init : goal.loop-index-init
loop-index-init c = λ job begins. record {
  past = job.earlier;
  placed = [];
  all = [];
  tracing = c.in_ok-tracer.ensures job begins;
  lines = (refl, refl);
  told = record { right = c.new-lines.ensures.items; wrong = c.new-faults.ensures.items };
}

pub loop-index-preserved : goal.loop-index-preserved
loop-index-preserved c = λ job begins.
    let entries = c.args.entries.now in
    let known = c.loop-index.invariant job begins in
    let traced = c.in_ok-line.ensures job known.past known.placed begins (c.in_ok-takings.ensures.takings job begins) known.tracing in
    let line = c.in_ok-line.line in
    record {
      past = traced.after;
      placed = traced.placed_after;
      all = known.all ++ line ∷ [];
      tracing = traced.tracing;
      lines = lines_more_at entries c.loop-index.index traced.entry c.loop-index-test.true traced.here job known.past traced.after known.placed traced.placed_after
          traced.at known.all line traced.tells known.lines;
      told = c.in_ok-add.ensures known.all known.told;
    }

pub returns-then-len-eq-MOST_WRONG_REPLIES : goal.returns-then-len-eq-MOST_WRONG_REPLIES
returns-then-len-eq-MOST_WRONG_REPLIES c = λ job begins.
    let entries = c.args.entries.now in
    let known = c.loop-index.invariant job begins in
    let traced = c.in_ok-line.ensures job known.past known.placed begins (c.in_ok-takings.ensures.takings job begins) known.tracing in
    let line = c.in_ok-line.line in
    record {
      played = c.loop-index.index + 1;
      past = traced.after;
      placed = traced.placed_after;
      all = known.all ++ line ∷ [];
      lines = lines_more_at entries c.loop-index.index traced.entry c.loop-index-test.true traced.here job known.past traced.after known.placed traced.placed_after
          traced.at known.all line traced.tells known.lines;
      run = c.run_law.ensures job _ traced.after traced.placed_after traced.tracing;
      told = c.in_ok-add.ensures known.all known.told;
      enough = inr (search rules);
    }

pub returns : goal.returns
returns c = λ job begins.
    let known = c.loop-index.invariant job begins in
    record {
      played = c.loop-index.index;
      past = known.past;
      placed = known.placed;
      all = known.all;
      lines = known.lines;
      run = c.run_law-2.ensures job _ known.past known.placed known.tracing;
      told = known.told;
      enough = inl (omega arith);
    }

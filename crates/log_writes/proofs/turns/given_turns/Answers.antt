use Rattle.std.proofs.Common.{◌≡◌, ◌∙◌, ◌++◌, ap, refl, subst, rules, List, [], reverse}
use Rattle.std.specs.Prelude.{Option, option_map, option_to_list}
use Rattle.std.proofs.lemmas.List.{take_all}
use Rattle.grants.specs.Policies.{Terms}
use Rattle.store_writes.specs.declared.write.GivenToken.{GivenToken}
use Rattle.log_line.specs.declared.entry.LogEntry.{LogEntry}
use Rattle.log_run.proofs.Leaving.{same_policy}
use Rattle.log_writes.specs.Given.{AreGiven, given_turn}
use Rattle.log_writes.proofs.Playing.{given_more}
use Rattle.log_writes.proofs.turns.given_turns.Goals as goal

pub loop-index-init : goal.loop-index-init
loop-index-init c = λ job begins.
    let empty : c.new-turns.result.items ≡ [] = search rules in
    record { past = job.earlier; given = (refl, empty); played = c.in_ok-machines.ensures job begins }

pub loop-index-preserved : goal.loop-index-preserved
loop-index-preserved c = λ job begins.
    let known = c.loop-index.invariant job begins in
    let most = c.high-most.ensures ∙ ap (λ (p : Terms). p.high) (c.policy.ensures ∙ same_policy job c.args.start.now.job c.args.start.now.earlier begins) in
    let given = c.given_in-given.ensures job known.past (c.cluster.ensures job known.past known.played) most in
    let entry = c.index-entries-index.result in
    given_more c.args.entries.now c.loop-index.index entry c.loop-index-test.true c.index-entries-index.is
    job c.loop-index.machines c.tell.new.machines c.loop-index.turns.items _ known
    (c.in_ok-add_given.ensures ∙ ap (λ (o : Option GivenToken). c.loop-index.turns.items ++ option_to_list (option_map (given_turn entry) o)) given)
    _ (c.in_ok-tell.ensures job known.past known.played)

pub returns : goal.returns
returns c = λ job begins.
    let known = c.loop-index.invariant job begins in
    let all = take_all c.loop-index.index c.args.entries.now c.loop-index-test.false in
    record {
      past = known.past;
      given = subst (λ (es : List LogEntry). AreGiven job (reverse es) known.past c.loop-index.turns.items) all known.given;
      answered = c.run_law.ensures job known.past known.played;
    }

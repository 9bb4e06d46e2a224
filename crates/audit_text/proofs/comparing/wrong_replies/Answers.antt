use Rattle.std.proofs.Common.{◌+◌, List, inl, inr, refl, reverse, sym, subst, take, arith, rules}
use Rattle.audit_text.specs.declared.comparing.WrongReply.{WrongReply}
use Rattle.audit_text.specs.WrongReplies.{AreWrongReplies}
use Rattle.audit_text.proofs.Compared.{right_more, wrong_more}
use Rattle.audit_text.proofs.comparing.wrong_replies.Goals as goal
use Rattle.audit_text.proofs.comparing.wrong_replies.Goals.{in-Some+in_ok-push+else-len-eq-MOST_WRONG_REPLIES, in_default}

pub loop-index-init : goal.loop-index-init
loop-index-init c = λ job begins. record { past = job.earlier; are = (refl, search rules); played = c.in_ok-machines.ensures job begins }

pub returns-then-len-eq-MOST_WRONG_REPLIES : goal.returns-then-len-eq-MOST_WRONG_REPLIES
returns-then-len-eq-MOST_WRONG_REPLIES c = λ job begins.
    let known = c.loop-index.invariant job begins in
    let answered = rw c.in-Some.is at (c.in_ok-wanted.ensures job known.past known.played) in
    let more = wrong_more c.args.entries.now c.loop-index.index c.loop-index-test.true c.index-entries-index.result c.index-entries-index.is
    job c.loop-index.replies.items c.in-Some.wanted c.loop-index.machines c.answer.new.machines known answered in
    record {
      judged = c.loop-index.index + 1;
      past = more.past;
      are = subst (λ (rs : List WrongReply). AreWrongReplies job (reverse (take (c.loop-index.index + 1) c.args.entries.now)) more.past (reverse rs))
          (sym c.in_ok-push.ensures.items) more.are;
      answered = c.run_law.ensures job more.past more.played;
      enough = inr (search rules);
    }

pub loop-index-preserved : goal.loop-index-preserved
loop-index-preserved c = λ job begins.
    let known = c.loop-index.invariant job begins in elim c.match-branch-3.branch [
      | in-Some+in_ok-push+else-len-eq-MOST_WRONG_REPLIES w ↦
          let answered = rw w.in-Some.is at (c.in_ok-wanted.ensures job known.past known.played) in
          rw (w.replies-is, w.in_ok-push.ensures.items)
          (wrong_more c.args.entries.now c.loop-index.index c.loop-index-test.true c.index-entries-index.result c.index-entries-index.is
          job c.loop-index.replies.items w.in-Some.wanted c.loop-index.machines c.answer.new.machines known answered)
      | in_default w ↦
          let answered = rw w.in_default.is at (c.in_ok-wanted.ensures job known.past known.played) in
          rw w.replies-is
          (right_more c.args.entries.now c.loop-index.index c.loop-index-test.true c.index-entries-index.result c.index-entries-index.is
          job c.loop-index.replies.items c.loop-index.machines c.answer.new.machines known answered)
    ]

pub returns : goal.returns
returns c = λ job begins.
    let known = c.loop-index.invariant job begins in
    record {
      judged = c.loop-index.index;
      past = known.past;
      are = known.are;
      answered = c.run_law-2.ensures job known.past known.played;
      enough = inl (omega arith);
    }

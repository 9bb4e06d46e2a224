use Rattle.std.proofs.Common.{[], List, ◌+◌, sym, subst}
use Rattle.stretches.specs.declared.key_stretches.KeyStretches.{KeyStretches}
use Rattle.stretches.specs.Tasks.{Each, AreKeptOn}
use Rattle.stretches.proofs.Lists.{each_push}
use Rattle.stretches.proofs.job_stretches.JobStretches.new.Goals as goal

pub loop-place-preserved : goal.loop-place-preserved
loop-place-preserved c =
    subst (λ (xs : List KeyStretches). Each (λ task. AreKeptOn c.args.key task []) (c.loop-place._place + 1) xs) (sym c.in_ok-push.ensures.items)
    (each_push (λ task. AreKeptOn c.args.key task []) c.loop-place._place c.loop-place.tasks.items c.loop-place.invariant
    c.new.result (c.new.ensures.key, c.new.ensures.kept))

use Rattle.std.proofs.Common.{Bool, ◌∷◌, sym, subst}
use Rattle.cluster.specs.Pasts.{event}
use Rattle.cluster.specs.continued.Clusters.{LeadsTo}
use Rattle.log_run.specs.Days.{IsSentSo}
use Rattle.log_run.proofs.Starting.{sent_more}
use Rattle.log_run.proofs.log_machines.LogMachines.play.Goals as goal

pub returns : goal.returns
returns c = λ job past known.
    let leads = c.in_ok-reply.ensures job past known.leads in
    record {
      leads = subst (LeadsTo job (event c.args.call.now c.in_ok-reply.reply ∷ past)) (sym c.in_ok-record.ensures.same.0) leads;
      recorded = c.in_ok-record.ensures.recorded job past known.recorded (c.run_law.ensures.run job _ leads).0;
      sent = sent_more _ _ job past _ (subst (λ (b : Bool). IsSentSo b job past) (sym c.in_ok-record.ensures.same.1) known.sent) c.stays_sent-self.ensures.sent c.stays_sent-self.ensures.unsent;
    }

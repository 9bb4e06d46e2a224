use Rattle.std.proofs.Common.{◌∙◌, sym}
use Rattle.weighted_move.specs.Loads.{load_in}
use Rattle.weighted_move.proofs.Fitted.{least_stranger}
use Rattle.weighted_move.proofs.fit.add_one.Goals as goal

pub with-slice-requires-clause-stranger : goal.with-slice-requires-clause-stranger
with-slice-requires-clause-stranger c = least_stranger (load_in c.args.loads.now) c.args.tasks.now c.args.slice.now.owners c.in-Some.task (sym c.least_loaded.ensures ∙ c.in-Some.is)

use Rattle.slicelet.specs.internals.State.{stamps_in}
use Rattle.slicelet.proofs.Keeping.{permitted_kept}
use Rattle.slicelet.proofs.slicelet.Slicelet.permitted.Goals as goal

pub returns : goal.returns
returns c = rw (← c.self.view_is) (permitted_kept c.self.inside.task c.self.inside.count c.self.inside.life c.self.inside.resumed c.self.inside.holding c.self.inside.heard (stamps_in c.self.inside.stamps) c.args.at _ c.permitted.ensures)

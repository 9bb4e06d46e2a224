use Rattle.std.proofs.Common.{refl, sym}
use Rattle.slicelet.specs.internals.State.{stamps_in}
use Rattle.slicelet.proofs.Keeping.{restamped_is}
use Rattle.slicelet.proofs.slicelet.Slicelet.restamped.Goals as goal

pub returns : goal.returns
returns c =
    rw (sym c.self.view_is) (restamped_is c.self.inside.task c.self.inside.count c.self.inside.life c.self.inside.resumed c.self.inside.holding c.self.inside.heard (stamps_in c.self.inside.stamps) c.args.kind c.args.lease.now c.args.at _ _ _ _ c.in_ok-before.ensures c.in_ok-after.ensures refl c.restamp.ensures)

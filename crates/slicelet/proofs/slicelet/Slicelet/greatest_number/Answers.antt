use Rattle.std.proofs.Common.{◌∙◌, sym}
use Rattle.slicelet.specs.internals.State.{stamps_in}
use Rattle.slicelet.proofs.Keeping.{greatest_kept}
use Rattle.slicelet.proofs.slicelet.Slicelet.greatest_number.Goals as goal

pub returns : goal.returns
returns c = rw (sym c.self.view_is) (c.number.ensures ∙ sym (greatest_kept c.self.inside.task c.self.inside.count c.self.inside.life c.self.inside.resumed c.self.inside.holding c.self.inside.heard (stamps_in c.self.inside.stamps) c.args.kind))

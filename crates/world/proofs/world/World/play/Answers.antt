use Rattle.world.proofs.Playing.{refused_leads, unplayed_leads}
use Rattle.world.specs.Worlds.{LeadsTo}
use Rattle.world.proofs.world.World.play.Goals as goal

pub returns-in-Err-Refused : goal.returns-in-Err-Refused
unfolding LeadsTo
returns-in-Err-Refused c = λ job past k.
    let both = (rw c.in-Err-Refused.field-0-is at c.in-Err-Refused.ensures) job past k in
    refused_leads job past c.args.step.now _ both.0 c.in-Err-Refused.why both.1 both.2

pub returns-in-Err-NoMemory : goal.returns-in-Err-NoMemory
unfolding LeadsTo
returns-in-Err-NoMemory c = λ job past k.
    let both = (rw c.in-Err-NoMemory.field-0-is at c.in-Err-NoMemory.ensures) job past k in
    unplayed_leads job past c.args.step.now _ both.0 both.1

use Rattle.std.proofs.Common.{◌≡◌, refl, sym, ap}
use Rattle.std.specs.Prelude.{Option, Some, reverse}
use Rattle.grants.specs.declared.table_call.TableCall.TheVariants as asked
use Rattle.grants.specs.declared.values.ReleaseNote.{ReleaseNote}
use Rattle.job_calls.specs.declared.call.ClusterCall.TheVariants as call
use Rattle.cluster.specs.Numbers.{with_number}
use Rattle.cluster.specs.Deliveries.{notes_made}
use Rattle.world.specs.declared.step.Step.TheVariants as step
use Rattle.world.specs.Calls.{if_sent, calls_in}
use Rattle.world.proofs.Asking.{fits, asked_on}
use Rattle.world.proofs.world.World.free.Goals as goal

pub returns : goal.returns
returns c = λ job past k.
    let calls = calls_in job past in
    let s = step.Free c.args.number c.args.at in
    let made = call.Table (asked.Free c.in-Some.note.now c.args.at) in
    let found : Some c.in-Some.note.now ≡ with_number c.args.number (reverse (notes_made calls)) = c.in-Some.ensures job calls k.cluster in
    let is = ap (λ (o : Option ReleaseNote). if_sent o (λ note. call.Table (asked.Free note c.args.at))) (sym found) in
    asked_on job past s made c.args.self.now _ k is (record { job = refl; draft = refl; shares = refl; book = refl }) (fits s made (λ t. t) (λ r. refl) (λ r. refl)) c.ask.ensures.run s refl c.ask.result (c.ask.ensures.asked job calls k.cluster) refl (λ n before. refl)

use Rattle.std.proofs.Common.{List, refl, ap}
use Rattle.std.specs.Prelude.{reverse}
use Rattle.grants.specs.declared.values.ReleaseNote.{ReleaseNote}
use Rattle.key_handle.specs.declared.handle.KeyHandle.{KeyHandle}
use Rattle.cluster.specs.continued.Clusters.{LeadsTo}
use Rattle.cluster.proofs.Playing.{kept_same}
use Rattle.cluster.proofs.cluster.Cluster.copy.Goals as goal

pub returns : goal.returns
unfolding LeadsTo
returns c = λ job past k.
    kept_same job past c.args.self.now _ k (record {
      job = refl;
      earlier = refl;
      table = c.in_ok-machines.ensures.0;
      tasks = c.in_ok-machines.ensures.1;
      clerks = c.in_ok-machines.ensures.2;
      grants = c.in_ok-made.ensures.0;
      notes = ap (λ (xs : List ReleaseNote). reverse xs) c.in_ok-made.ensures.1;
      handles = ap (λ (xs : List KeyHandle). reverse xs) c.in_ok-made.ensures.2;
      known_notes = c.in_ok-known.ensures.notes;
      known_handles = c.in_ok-known.ensures.handles;
      proposals = c.in_ok-made.ensures.3;
    })

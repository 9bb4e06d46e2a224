use Rattle.std.proofs.Common.{rules}
use Rattle.std.specs.Prelude.{Result, Ok, Err, OnOk, ⊤}
use Rattle.std.specs.declared.alloc.AllocError.{AllocError}
use Rattle.std.proofs.lemmas.List.Sorted.{IsNonDecreasingBy-from_sort_by_key, answers_always}
use Rattle.log_writes.specs.declared.turns.Turn.{Turn}
use Rattle.log_writes.proofs.turns.sort.Goals as goal

where_ok : {P Q : Type 0} (r : Result ⊤ AllocError) → (P → Q) → OnOk r P → OnOk r Q
where_ok (Ok done) f h = f h
where_ok (Err e) f h = tt

pub returns : goal.returns
returns c =
    where_ok c.sort_by_key.result
    (λ h. record {
      same = c.sort_by_key.ensures.permutation;
      order = IsNonDecreasingBy-from_sort_by_key (λ (t : Turn). t.ticket) c.sort_by_key.new.self.items h (λ a r q k. search rules);
      stable = c.sort_by_key.ensures.stable (λ (t : Turn). t.ticket) (answers_always _ _ _ (λ f a r q k. search rules));
    })
    c.sort_by_key.ensures.sorted

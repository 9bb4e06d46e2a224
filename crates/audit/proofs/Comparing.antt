-- Answers are the same where what they hold is.
use Rattle.std.proofs.Common.{◌≡◌, ◌≢◌, Bool, true, false, List, MatchBool, Decides, refl}
use Rattle.std.specs.Prelude.{◌&&◌, nat_eq}
use Rattle.std.specs.Cmp.{nat_eq_equiv}
use Rattle.std.specs.Cmp.Lexicographic.{pointwise, bytes_decides, nat_list_eq_equiv}
use Rattle.std.proofs.lemmas.Bool.{eqb-true, and_parts}
use Rattle.grants.specs.declared.values.Row.{Row}
use Rattle.clerk.specs.declared.clerk.Found.{Found}
use Rattle.job_calls.specs.declared.reply.ClusterReply.{ClusterReply}
use Rattle.job_calls.specs.declared.reply.ClusterReply.TheVariants as answer

pub same_rows : (r : Bool) (told : ClusterReply) (rows other : List Row) → told ≡ answer.Rows other → Decides r (rows ≡ other) → MatchBool r (told ≡ answer.Rows rows) (told ≢ answer.Rows rows)
same_rows true told rows other is d = let e = d.0 refl in cc
same_rows false told rows other is d = λ e. let f : rows ≡ other = cc in let t = d.1 f in cc

pub same_found : (r : Bool) (told : ClusterReply) (found other : Found) → told ≡ answer.Found other → Decides r (found ≡ other) → MatchBool r (told ≡ answer.Found found) (told ≢ answer.Found found)
same_found true told found other is d = let e = d.0 refl in cc
same_found false told found other is d = λ e. let f : found ≡ other = cc in let t = d.1 f in cc

-- what a clerk answers is compared by its generation and its owners
pub found_decides : (a b : Found) → Decides (nat_eq a.generation b.generation && pointwise nat_eq a.owners.items b.owners.items) (a ≡ b)
found_decides a b = (equal, λ e. rw e (alike b))
  where
    equal : (nat_eq a.generation b.generation && pointwise nat_eq a.owners.items b.owners.items) ≡ true → a ≡ b
    equal e =
        let parts = and_parts _ _ e in
        let generation = eqb-true a.generation b.generation parts.0 in
        let owners = (bytes_decides a.owners.items b.owners.items).0 parts.1 in
        λ i. record { generation = generation i; owners = record { items = owners i } }

    alike : (f : Found) → (nat_eq f.generation f.generation && pointwise nat_eq f.owners.items f.owners.items) ≡ true
    alike f = let g = nat_eq_equiv.refl f.generation in let o = nat_list_eq_equiv.refl f.owners.items in λ i. g i && o i

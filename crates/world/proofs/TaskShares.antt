-- The share of each task after one of them recorded something.
use Rattle.std.proofs.Common.{◌≡◌, ℕ, ◌+◌, ◌<◌, true, false, List, [], ◌∷◌, ◌++◌, length, refl, sym, ◌∙◌, ap, subst, arith}
use Rattle.std.specs.Prelude.{◌≢◌, ◌==◌, if◌then◌else◌}
use Rattle.std.proofs.Math.ListN.{set, get_or}
use Rattle.std.proofs.lemmas.Bool.Decides.{nat_tests}
use Rattle.std.proofs.lemmas.List.{same_lists}
use Rattle.std.proofs.lemmas.List.FromFn.{get_or-map-range_with_len, length-map-range_with_len}
use Rattle.std.proofs.lemmas.Option.{slice_get-get_or}
use Rattle.machines.specs.Numbers.{is_within}
use Rattle.load_ledger.specs.Shares.{Share, with_record}
use Rattle.world.specs.Jobs.{Job}
use Rattle.world.specs.Pasts.{Past}
use Rattle.world.specs.Front.{recorded_by, share_of, shares_in}
use Rattle.cluster.specs.Clusters.{AreActors}
use Rattle.cluster.proofs.ActorLists.{within_at, actor_at, actors_set}

-- the share of a task after one of them recorded something
abbrev pub recorded_share : Past → ℕ → ℕ → ℕ → ℕ → Share
recorded_share past by key weight n = record { task = n; records = if by == n then recorded_by n past ++ record { key = key; weight = weight } ∷ [] else recorded_by n past }

own_share_after : (past : Past) (by n key weight : ℕ) → n ≡ by → with_record key weight (share_of past n) ≡ recorded_share past by key weight n
own_share_after past by n key weight same = let test : (by == n) ≡ true = grind (arith, nat_tests) in rw test refl

other_share_after : (past : Past) (by n key weight : ℕ) → n ≢ by → share_of past n ≡ recorded_share past by key weight n
other_share_after past by n key weight other = let test : (by == n) ≡ false = grind (arith, nat_tests) in rw test refl

-- the share of a task of the job, at its place
pub record OwnShare (job : Job) (past : Past) (shares : List Share) (task place : ℕ) (old : Share) : Type 0 where
  pub inside : is_within task job.tasks ≡ true
  pub keeps : old ≡ share_of past task
  pub same : (new : Share) → new ≡ old → AreActors (share_of past) job.tasks (set shares place new)
  pub recorded : (new : Share) (key weight : ℕ) → new ≡ with_record key weight old → AreActors (recorded_share past task key weight) job.tasks (set shares place new)

pub own_share : (job : Job) (past : Past) (shares : List Share) (task place : ℕ) (old : Share) → AreActors (share_of past) job.tasks shares → place + 1 ≡ task
    → place < length shares → old ≡ get_or shares place old → OwnShare job past shares task place old
own_share job past shares task place old are number inside at =
    let here : old ≡ share_of past (place + 1) = actor_at (share_of past) (share_of past) job.tasks shares are place inside old at in
    record {
      inside = within_at place task job.tasks number (subst (λ (n : ℕ). place < n) are.0 inside);
      keeps = here ∙ ap (share_of past) number;
      same = λ new e. actors_set (share_of past) (share_of past) job.tasks shares are place inside new (e ∙ here) (λ i other. refl);
      recorded = λ new key weight e.
          actors_set (share_of past) (recorded_share past task key weight) job.tasks shares are place inside new
          (e ∙ ap (with_record key weight) here ∙ own_share_after past task (place + 1) key weight number)
          (λ i other. other_share_after past task (i + 1) key weight (λ same. other (omega arith)));
    }

-- the shares are those of the tasks in order
pub all_shares : (past : Past) (many : ℕ) (shares : List Share) → AreActors (share_of past) many shares → shares ≡ shares_in many past
all_shares past many shares are =
    same_lists shares (shares_in many past) (are.0 ∙ sym (length-map-range_with_len (share_of past) 1 many))
    (λ i d l.
    let inside : i < many = subst (λ (n : ℕ). i < n) are.0 l in
    let next : 1 + i ≡ i + 1 = omega arith in
    are.1 i (get_or shares i d) (slice_get-get_or shares i d l) ∙ sym (get_or-map-range_with_len (share_of past) 1 many i (i + 1) d inside next))

-- One more handle that a task gave.
use Rattle.std.proofs.Common.{◌≡◌, ◌∙◌, ℕ, ◌+◌, ◌-◌, ◌<◌, ◌≤◌, true, false, List, [], ◌∷◌, ◌++◌, length, map, refl, sym, ap, subst, inl, inr, arith}
use Rattle.std.specs.Prelude.{◌≢◌, ◌==◌, Option, Some, None, option_map, slice_get}
use Rattle.std.proofs.lemmas.List.{length-map}
use Rattle.std.proofs.lemmas.Bool.Decides.{nat_tests}
use Rattle.std.proofs.lemmas.Option.{slice_get-map, slice_get_cases}
use Rattle.machines.specs.Numbers.{is_within}
use Rattle.key_handle.specs.declared.handle.KeyHandle.{KeyHandle}
use Rattle.job_calls.specs.Jobs.{Job}
use Rattle.job_calls.specs.declared.call.ClusterCall.{ClusterCall}
use Rattle.job_calls.specs.declared.call.ClusterCall.TheVariants as call
use Rattle.job_calls.specs.declared.reply.ClusterReply.{ClusterReply}
use Rattle.job_calls.specs.declared.reply.ClusterReply.TheVariants as reply
use Rattle.cluster.specs.ActorLists.{AreActors}
use Rattle.cluster.specs.Made.{handles_made}
use Rattle.cluster.specs.Pasts.{Past, event, task_calls}
use Rattle.cluster.proofs.ActorLists.{actors_same, actors_set}
use Rattle.stretches.specs.declared.breaks.GivenHandle.{GivenHandle}
use Rattle.stretches.specs.declared.breaks.TaskHandles.{TaskHandles}
use Rattle.stretches.specs.declared.job_handles.JobHandles.{JobHandles}
use Rattle.stretches.specs.Breaks.{named}
use Rattle.stretches.specs.Stretches.{processes}
use Rattle.stretches.specs.Tasks.{AreWatched, Each, IsGivenBy, names_of}
use Rattle.log_trace.specs.Serving.{AreHandlesOf, given_by, given_with}

-- NO HANDLE

given_refused : (task : ℕ) (past : Past) (by key at : ℕ) (r : ClusterReply) (before : List GivenHandle) → ((handle : KeyHandle) → r ≢ reply.Holding handle)
    → given_with task past (call.Hold by key at) r before ≡ before
given_refused task past by key at (reply.Holding handle) before never = absurd (never handle refl)
given_refused task past by key at _ before never = refl

pub given_none : (task : ℕ) (past : Past) (c : ClusterCall) (r : ClusterReply) (before : List GivenHandle) → ((handle : KeyHandle) → r ≢ reply.Holding handle)
    → given_with task past c r before ≡ before
given_none task past (call.Hold by key at) r before never = given_refused task past by key at r before never
given_none task past _ r before never = refl

pub given_other : (task : ℕ) (past : Past) (c : ClusterCall) (r : ClusterReply) (before : List GivenHandle) → ((by key at : ℕ) → c ≢ call.Hold by key at)
    → given_with task past c r before ≡ before
given_other task past (call.Hold by key at) r before never = absurd (never by key at refl)
given_other task past _ r before never = refl

-- handles that are given as before
pub same_given : (past after : Past) (many : ℕ) (names : List (List GivenHandle)) → ((task : ℕ) → given_by after task ≡ given_by past task)
    → AreActors (given_by past) many names → AreActors (given_by after) many names
same_given past after many names same are = actors_same (given_by past) (given_by after) many names (λ task. sym (same task)) are

-- ONE HANDLE

place_below : (task many : ℕ) → is_within task many ≡ true → (place : ℕ) × (place + 1 ≡ task) × (place < many)
place_below task many within =
    let low : 1 ≤ task = grind (arith, nat_tests) in
    let high : task ≤ many = grind (arith, nat_tests) in
    (task - 1, omega arith, omega arith)

module _ (past : Past) (task key at : ℕ) (handle : KeyHandle) where
  abbrev given : GivenHandle
  given = record { number = length (handles_made past) + 1; process = processes (task_calls task past); handle = handle; from = at; breaks = 0 }

  abbrev next : Past
  next = event (call.Hold task key at) (reply.Holding handle) ∷ past

  given_now : (place : ℕ) → place + 1 ≡ task → given_by past (place + 1) ++ given ∷ [] ≡ given_by next (place + 1)
  given_now place is =
      let same : (task == place + 1) ≡ true = grind (arith, nat_tests) in
      ap (λ (n : ℕ). given_by past (place + 1) ++ record given { process = processes (task_calls n past) } ∷ []) (sym is) ∙ sym (rw same refl)

  given_elsewhere : (place i : ℕ) → place + 1 ≡ task → i ≢ place → given_by past (i + 1) ≡ given_by next (i + 1)
  given_elsewhere place i is other = let same : (task == i + 1) ≡ false = grind (arith, nat_tests, other, is) in sym (rw same refl)

  module _ (many : ℕ) (within : is_within task many ≡ true) (before after : List TaskHandles)
      (process : Each (λ n kept. kept.process ≡ processes (task_calls n past)) many before)
      (are : AreActors (given_by past) many (names_of before))
      (gives : IsGivenBy task (record given { process = 0 }) before after) where
    abbrev name_of : TaskHandles → List GivenHandle
    name_of kept = map named kept.handles.items

    at_place : (place : ℕ) (kept : TaskHandles) → place + 1 ≡ task → place < length before → slice_get before place ≡ Some kept
        → AreActors (given_by next) many (names_of after)
    at_place place kept is inside got =
        let own : kept.process ≡ processes (task_calls task past) = process.1 place kept got ∙ ap (λ (n : ℕ). processes (task_calls n past)) is in
        let found : slice_get (names_of before) place ≡ Some (name_of kept) = slice_get-map name_of before place ∙ ap (option_map name_of) got in
        let names : name_of kept ≡ given_by past (place + 1) = are.1 place (name_of kept) found in
        let more = gives place kept is got in
        let here : name_of kept ++ record given { process = kept.process } ∷ [] ≡ given_by next (place + 1) =
        ap (λ (n : ℕ). name_of kept ++ record given { process = n } ∷ []) own
        ∙ ap (λ (old : List GivenHandle). old ++ given ∷ []) names ∙ given_now place is in
        let within_names : place < length (names_of before) = subst (λ (n : ℕ). place < n) (sym (length-map before name_of)) inside in
        subst (λ (names : List (List GivenHandle)). AreActors (given_by next) many names) (sym more)
        (actors_set (given_by past) (given_by next) many (names_of before) are place within_names
        (name_of kept ++ record given { process = kept.process } ∷ []) here (λ i other. given_elsewhere place i is other))

    pub names_given : AreActors (given_by next) many (names_of after)
    names_given =
        let found = place_below task many within in
        let inside : found.0 < length before = subst (λ (n : ℕ). found.0 < n) (sym process.0) found.2 in
        elim (slice_get_cases before found.0).1 [
          | inl there ↦ at_place found.0 there.0 found.1 inside there.2
          | inr out ↦ absurd (let far = out.0 in omega (arith, inside, far))
        ]

-- NO HANDLE YET

pub none_given : (many : ℕ) (all : List TaskHandles) → Each (λ n kept. kept.handles.items ≡ []) many all → AreActors (given_by []) many (names_of all)
none_given many all each = (length-map all names ∙ each.0, none)
  where
    names : TaskHandles → List GivenHandle
    names kept = map named kept.handles.items

    by_item : (o : Option TaskHandles) (name : List GivenHandle) → ((kept : TaskHandles) → o ≡ Some kept → kept.handles.items ≡ []) → option_map names o ≡ Some name → name ≡ []
    by_item None name empty got = absurd (cc)
    by_item (Some kept) name empty got =
        let same : names kept ≡ name = cc in sym same ∙ ap (λ (xs : List GivenHandle). map named xs) (empty kept refl)

    none : (i : ℕ) (name : List GivenHandle) → slice_get (map names all) i ≡ Some name → name ≡ []
    none i name got = by_item (slice_get all i) name (λ kept there. each.1 i kept there) (sym (slice_get-map names all i) ∙ got)

-- THE HANDLES OF A JOB

module _ (job : Job) (past : Past) (c : ClusterCall) (r : ClusterReply) (task key at number : ℕ) (handle : KeyHandle)
    (asks : c ≡ call.Hold task key at) (told : r ≡ reply.Holding handle) (numbered : number ≡ length (handles_made past) + 1) where
  same_next : next past task key at handle ≡ event c r ∷ past
  same_next = ap (λ (x : ClusterCall). event x (reply.Holding handle) ∷ past) (sym asks) ∙ ap (λ (x : ClusterReply). event c x ∷ past) (sym told)

  own_process : (kept : JobHandles) → AreWatched job (event c r ∷ past) kept → Each (λ n one. one.process ≡ processes (task_calls n past)) job.tasks kept.tasks.items
  own_process kept are = (are.0, λ i one got. (are.1 i one got).process ∙ ap (λ (p : Past). processes (task_calls (i + 1) p)) (sym same_next))

  abbrev taken : GivenHandle
  taken = record { number = number; process = 0; handle = handle; from = at; breaks = 0 }

  pub handles_given : (before after : JobHandles) → AreWatched job (event c r ∷ past) before → AreActors (given_by past) job.tasks (names_of before.tasks.items)
      → is_within task job.tasks ≡ true → IsGivenBy task taken before.tasks.items after.tasks.items
      → AreWatched job (event c r ∷ past) after → AreHandlesOf job (event c r ∷ past) after
  handles_given before after watched are within gives now = record {
    given = subst (λ (p : Past). AreActors (given_by p) job.tasks (names_of after.tasks.items)) same_next
        (names_given past task key at handle job.tasks within before.tasks.items after.tasks.items (own_process before watched) are
        (subst (λ (n : ℕ). IsGivenBy task (record taken { number = n }) before.tasks.items after.tasks.items) numbered gives));
    breaks = now;
  }

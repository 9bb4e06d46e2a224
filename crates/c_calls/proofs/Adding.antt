-- Records that are added to a share, one after another.
use Rattle.std.proofs.Common.{◌≡◌, ℕ, ◌+◌, ◌<◌, ◌≤◌, Bool, true, false, List, [], ◌∷◌, Option, Some, None, Err, length, get_or, take, map, refl, sym, subst, inl, arith}
use Rattle.std.specs.Prelude.{nat_lt}
use Rattle.std.specs.List.{list_all}
use Rattle.std.proofs.lemmas.Bool.Decides.{nat_tests}
use Rattle.std.proofs.lemmas.List.{get_or-map, length-map, take-map}
use Rattle.std.proofs.lemmas.List.Folds.{list_all_at}
use Rattle.std.proofs.lemmas.List.Sums.{sum_by_more, sum_by_more_le}
use Rattle.machines.specs.Answers.{Takes}
use Rattle.machines.specs.Refusals.{first_of, unless_refused, when}
use Rattle.machines.specs.declared.machine.Trouble.{Trouble}
use Rattle.machines.specs.declared.machine.Trouble.TheVariants.{Refused, NoMemory}
use Rattle.load_ledger.specs.declared.error.LoadError.{LoadError}
use Rattle.load_ledger.specs.declared.error.LoadError.TheVariants.{TotalRange}
use Rattle.load_ledger.specs.declared.share.LoadRecord.{LoadRecord}
use Rattle.load_ledger.specs.declared.share.TheConstants.{MOST_TOTAL}
use Rattle.load_ledger.specs.Shares.{Share, add_step, is_weight, share_total}
use Rattle.c_calls.specs.declared.loads.record_numbers.RecordNumbers.{RecordNumbers}
use Rattle.c_calls.specs.declared.answer.Answer.{Answer}
use Rattle.c_calls.specs.declared.answer.Answer.TheVariants.{Load}
use Rattle.c_calls.specs.LoadRecords.{IsUnadded, IsUnshared, has_weight, record_of, share_of}

refused_by : {A E : Type 0} (o : Option E) (a : A) (why : E) → unless_refused o a ≡ Err why → o ≡ Some why
refused_by None a why e = absurd (cc)
refused_by (Some other) a why e = cc

-- each record of a list passes a test that all of them pass
passes : (test : RecordNumbers → Bool) (records : List RecordNumbers) (i : ℕ) (d : RecordNumbers) → list_all test records ≡ true → i < length records
    → test (get_or records i d) ≡ true
passes test records i d all here = by_test (test (get_or records i d)) refl
  where
    by_test : (b : Bool) → test (get_or records i d) ≡ b → test (get_or records i d) ≡ true
    by_test true e = e
    by_test false e = absurd (let none = list_all_at test records i d here e in cc)

-- the record at a place of a list, added to a share of those before it
module _ (task : ℕ) (records : List RecordNumbers) (i : ℕ) (d : RecordNumbers) (here : i < length records) where
  abbrev before : Share
  before = share_of task (take i records)

  -- its weight is one of those of the list
  pub within : share_total before + (get_or records i d).weight ≤ share_total (share_of task records)
  within =
      let inside : i < length (map record_of records) = rw (length-map records record_of) here in
      let more = sum_by_more_le (λ (r : LoadRecord). r.weight) (map record_of records) i (record_of d) inside in
      rw (take-map record_of i records, get_or-map record_of records i d (record_of d) here) at more

  -- with it they are those up to the next place
  pub one_more : share_total (share_of task (take (i + 1) records)) ≡ share_total before + (get_or records i d).weight
  one_more =
      let inside : i < length (map record_of records) = rw (length-map records record_of) here in
      let more = sum_by_more (λ (r : LoadRecord). r.weight) (map record_of records) i (record_of d) inside in
      rw (take-map record_of (i + 1) records, take-map record_of i records, get_or-map record_of records i d (record_of d) here) at more

  by_total : (heavy : Bool) (why : LoadError) → nat_lt MOST_TOTAL (share_total before + (get_or records i d).weight) ≡ heavy
      → first_of (None ∷ when heavy TotalRange ∷ []) ≡ Some why → (why ≡ TotalRange) × (MOST_TOTAL < share_total (share_of task records))
  by_total false why heavy e = absurd (cc)
  by_total true why heavy e =
      let above : MOST_TOTAL < share_total before + (get_or records i d).weight = grind (arith, nat_tests, heavy) in
      let all = within in
      (cc, omega arith)

  refused_one : (share : Share) (key : ℕ) (why : LoadError) → list_all has_weight records ≡ true → share ≡ before
      → add_step key (get_or records i d).weight share ≡ Err why → (why ≡ TotalRange) × (MOST_TOTAL < share_total (share_of task records))
  refused_one share key why weights is e =
      let weight : is_weight (get_or records i d).weight ≡ true = passes has_weight records i d weights here in
      by_total _ why refl (rw weight at (refused_by _ _ _ (rw is at e)))

  pub unadded : (share new : Share) (key : ℕ) (trouble : Trouble LoadError) → list_all has_weight records ≡ true
      → share_total (share_of task records) ≤ MOST_TOTAL → share ≡ before
      → Takes (add_step key (get_or records i d).weight share) share (Err trouble) new → IsUnadded (share_total (share_of task records)) trouble
  unadded share new key (Refused why) weights total is t = refused_one share key why weights is t.0
  unadded share new key NoMemory weights total is t = total

-- where numbers say a share whose total is too large, there is none
pub above_total : (why : Option Answer) (total : ℕ) → why ≡ None → nat_lt MOST_TOTAL total ≡ true → IsUnshared why total (Load TotalRange)
above_total why total none above =
    let over : MOST_TOTAL < total = grind (arith, nat_tests, above) in
    subst (λ w. IsUnshared w total (Load TotalRange)) (sym none) (inl (refl, over))

-- The loads of slices, one record more.
use Rattle.std.proofs.Common.{◌≡◌, ◌∙◌, ℕ, zero, suc, ◌+◌, ◌<◌, ◌≤◌, Bool, true, false, List, [], ◌∷◌, ◌++◌, length, get_or, set, take, drop, replicate, refl, sym, ap, arith}
use Rattle.std.specs.Prelude.{◌==◌, if◌then◌else◌, All, map, filter}
use Rattle.std.proofs.lemmas.Bool.Decides.{nat_tests}
use Rattle.std.proofs.lemmas.List.{append_assoc, take_more}
use Rattle.std.proofs.lemmas.List.Elements.{filter-append, All-map, All-set}
use Rattle.std.proofs.lemmas.List.Sums.{sum_by-append, sum_by-cons, sum_by-drop_more, sum_by_more_le}
use Rattle.assignment.specs.declared.slice.Slice.{Slice}
use Rattle.load_ledger.specs.declared.share.LoadRecord.{LoadRecord}
use Rattle.load_ledger.specs.Shares.{Share, share_total, total_weight}
use Rattle.load_ledger.specs.Books.{records_of, shares_total}
use Rattle.load_ledger.specs.Loads.{is_in, slice_load, slice_loads}

-- an element that passes a test grows by so much
pub grown : Bool → ℕ → ℕ → ℕ
grown passes weight load = if passes then load + weight else load

-- numbers of the elements of a list, where none grows
none_grows : {X : Type 0} (f g : X → ℕ) (test : X → Bool) (weight : ℕ) (xs : List X) → ((x : X) → g x ≡ grown (test x) weight (f x)) → ((k : ℕ) (d : X) → k < length xs → test (get_or xs k d) ≡ false)
    → map f xs ≡ map g xs
unfolding grown
none_grows f g test weight [] grows none = refl
none_grows f g test weight (x ∷ xs) grows none =
    let here : g x ≡ f x = grows x ∙ rw (none 0 x (omega arith)) refl in
    rw (here, none_grows f g test weight xs grows (λ k d l. none (suc k) d (omega arith))) refl

never_first : (k : ℕ) → (suc k == 0) ≡ false
never_first k = grind (arith, nat_tests)

one_less : (k i : ℕ) → (suc k == suc i) ≡ (k == i)
one_less k i = grind (arith, nat_tests)

first_not_later : (i : ℕ) → (0 == suc i) ≡ false
first_not_later i = grind (arith, nat_tests)

-- numbers of the elements of a list, where that at one place grows
pub one_grows : {X : Type 0} (f g : X → ℕ) (test : X → Bool) (weight : ℕ) (xs : List X) (i : ℕ) → ((x : X) → g x ≡ grown (test x) weight (f x)) → ((k : ℕ) (d : X) → k < length xs → test (get_or xs k d) ≡ (k == i)) → i < length xs
    → set (map f xs) i (get_or (map f xs) i 0 + weight) ≡ map g xs
unfolding grown
one_grows f g test weight [] i grows alone within = absurd (omega arith)
one_grows f g test weight (x ∷ xs) zero grows alone within =
    let here : g x ≡ f x + weight = grows x ∙ rw (alone 0 x (omega arith)) refl in
    rw (here, none_grows f g test weight xs grows (λ k d l. alone (suc k) d (omega arith) ∙ never_first k)) refl
one_grows f g test weight (x ∷ xs) (suc i) grows alone within =
    let here : g x ≡ f x = grows x ∙ rw (alone 0 x (omega arith), first_not_later i) refl in
    rw (here, one_grows f g test weight xs i grows (λ k d l. alone (suc k) d (omega arith) ∙ one_less k i) (omega arith)) refl

weight_of_kept : (b : Bool) (added : LoadRecord) (load : ℕ) → load + total_weight (if b then added ∷ [] else []) ≡ grown b added.weight load
unfolding grown
weight_of_kept true added load = omega arith
weight_of_kept false added load = omega arith

-- a record more grows the load of the slice that it is in
pub load_more : (slices : List Slice) (records : List LoadRecord) (added : LoadRecord) (slice : Slice) → slice_load slices (records ++ added ∷ []) slice ≡ grown (is_in slices slice added.key) added.weight (slice_load slices records slice)
unfolding slice_load
load_more slices records added slice =
    let test : LoadRecord → Bool = λ r. is_in slices slice r.key in
    rw (filter-append test records (added ∷ []), sum_by-append (λ (r : LoadRecord). r.weight) (filter test records) (filter test (added ∷ [])))
    (weight_of_kept (is_in slices slice added.key) added (slice_load slices records slice))

-- the loads with a record more, where its key is in the slice at one place
pub loads_more : (slices : List Slice) (records : List LoadRecord) (added : LoadRecord) (i : ℕ) → ((k : ℕ) (d : Slice) → k < length slices → is_in slices (get_or slices k d) added.key ≡ (k == i)) → i < length slices
    → set (slice_loads slices records) i (get_or (slice_loads slices records) i 0 + added.weight) ≡ slice_loads slices (records ++ added ∷ [])
loads_more slices records added i alone within =
    one_grows (slice_load slices records) (slice_load slices (records ++ added ∷ [])) (λ s. is_in slices s added.key) added.weight slices i (load_more slices records added) alone within

-- no record is no load
pub no_loads : (slices others : List Slice) → replicate (length others) 0 ≡ map (slice_load slices []) others
unfolding slice_load
no_loads slices [] = refl
no_loads slices (s ∷ others) = ap (λ loads. 0 ∷ loads) (no_loads slices others)

kept_within : (test : LoadRecord → Bool) (records : List LoadRecord) → total_weight (filter test records) ≤ total_weight records
kept_within test [] = omega arith
kept_within test (r ∷ records) = by_test (test r) (kept_within test records)
  where
    by_test : (b : Bool) → total_weight (filter test records) ≤ total_weight records → total_weight (if b then r ∷ filter test records else filter test records) ≤ total_weight (r ∷ records)
    by_test true rest = rw (sum_by-cons (λ (x : LoadRecord). x.weight) r (filter test records), sum_by-cons (λ (x : LoadRecord). x.weight) r records) (omega arith)
    by_test false rest = rw (sum_by-cons (λ (x : LoadRecord). x.weight) r records) (omega arith)

-- no load is above all weights
pub loads_within : (slices : List Slice) (records : List LoadRecord) → All (λ load. load ≤ total_weight records) (slice_loads slices records)
unfolding slice_load
loads_within slices records = All-map (λ load. load ≤ total_weight records) (slice_load slices records) slices (λ k d l. kept_within (λ r. is_in slices (get_or slices k d) r.key) records)

-- there is room for what is left of the records, one record further
pub small_more : (most : ℕ) (records : List LoadRecord) (j : ℕ) (added : LoadRecord) (loads : List ℕ) (i : ℕ) → j < length records → added ≡ get_or records j added → i < length loads
    → All (λ load. load + total_weight (drop j records) ≤ most) loads → All (λ load. load + total_weight (drop (j + 1) records) ≤ most) (set loads i (get_or loads i 0 + added.weight))
small_more most records j added loads i here is within small =
    let next : total_weight (drop j records) ≡ added.weight + total_weight (drop (j + 1) records) = sum_by-drop_more (λ (r : LoadRecord). r.weight) records j added here ∙ ap (λ (r : LoadRecord). r.weight + total_weight (drop (j + 1) records)) (sym is) in
    All-set (λ load. load + total_weight (drop (j + 1) records) ≤ most) loads i (get_or loads i 0 + added.weight)
    (let l : get_or loads i 0 + total_weight (drop j records) ≤ most = small i 0 within in omega arith)
    (λ k d l. let m : get_or loads k d + total_weight (drop j records) ≤ most = small k d l in omega arith)

-- loads by some records and those of a list up to a place, one record further
pub loads_on : (slices : List Slice) (records before : List LoadRecord) (j : ℕ) (added : LoadRecord) (loads : List ℕ) (i : ℕ) → ((k : ℕ) (d : Slice) → k < length slices → is_in slices (get_or slices k d) added.key ≡ (k == i)) → i < length slices
    → j < length records → added ≡ get_or records j added → loads ≡ slice_loads slices (before ++ take j records) → set loads i (get_or loads i 0 + added.weight) ≡ slice_loads slices (before ++ take (j + 1) records)
loads_on slices records before j added loads i alone within here is so_far =
    let next : before ++ take (j + 1) records ≡ (before ++ take j records) ++ added ∷ [] = rw (take_more records j added here, ← is, append_assoc) refl in
    rw (so_far, next) (loads_more slices (before ++ take j records) added i alone within)

pub total_of_records : (shares : List Share) → total_weight (records_of shares) ≡ shares_total shares
total_of_records [] = refl
total_of_records (s ∷ shares) = rw (sum_by-append (λ (r : LoadRecord). r.weight) s.records (records_of shares), total_of_records shares, sum_by-cons share_total s shares) refl

-- there is room for a share after those before it
pub small_before : (most : ℕ) (slices : List Slice) (shares : List Share) (i : ℕ) (share : Share) (loads : List ℕ) → i < length shares → share ≡ get_or shares i share → shares_total shares ≤ most
    → loads ≡ slice_loads slices (records_of (take i shares)) → All (λ load. load + total_weight share.records ≤ most) loads
small_before most slices shares i share loads here is small so_far k d l =
    let within : get_or loads k d ≤ total_weight (records_of (take i shares)) = rw so_far (loads_within slices (records_of (take i shares)) k d (rw (← so_far) l)) in
    let all : shares_total (take i shares) + share_total (get_or shares i share) ≤ shares_total shares = sum_by_more_le share_total shares i share here in
    let this : share_total share ≡ share_total (get_or shares i share) = ap share_total is in
    omega (arith, total_of_records (take i shares))

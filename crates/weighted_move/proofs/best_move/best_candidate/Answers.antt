use Rattle.std.proofs.Common.{◌≡◌, ◌∙◌, ℕ, ◌+◌, ◌-◌, ◌<◌, ◌≤◌, Option, List, length, take, get_or, refl, sym, ap, subst, arith}
use Rattle.std.specs.Prelude.{Contains, min, slice_index_or}
use Rattle.std.proofs.lemmas.Bool.{OnFalse_at, OnTrue_at}
use Rattle.std.proofs.lemmas.List.{get_or_default, get_or-map, length-map}
use Rattle.std.proofs.lemmas.List.Sums.{get_or-le-sum_by}
use Rattle.std.proofs.lemmas.Option.{slice_get_read}
use Rattle.weighted_move.specs.declared.moves.Move.{Move}
use Rattle.weighted_move.specs.declared.rank.Rank.{Rank}
use Rattle.weighted_move.specs.declared.load_changes.LoadChanges.{LoadChanges}
use Rattle.weighted_move.specs.declared.loaded_slice.LoadedSlice.{LoadedSlice}
use Rattle.weighted_move.specs.Loads.{load_in, total_load}
use Rattle.weighted_move.specs.Owning.{IsFit}
use Rattle.weighted_move.specs.Moves.{IsBestOf, greatest}
use Rattle.weighted_move.specs.Kinds.{load_changes_of}
use Rattle.weighted_move.specs.Ranks.{rank_at, best_ratio, least_gain}
use Rattle.weighted_move.proofs.Loaded.{all_above, some_lowest, lowest_is}
use Rattle.weighted_move.proofs.Loading.{shared, load-le-total}
use Rattle.weighted_move.proofs.Prefixes.{of_all}
use Rattle.weighted_move.proofs.Seen.{IsSeen, best_gains, best_wide, its_place, past_slice, past_behind, all_seen, rest_behind}
use Rattle.weighted_move.proofs.Slicing.{none_of_slice}
use Rattle.weighted_move.proofs.best_move.best_candidate.Goals as goal
use Rattle.weighted_move.proofs.best_move.best_candidate.Goals.{then-can_lead, else-can_lead}

itself : (ranks : List Rank) (i : ℕ) → i < length ranks → slice_index_or ranks i (rank_at 0 0) ≡ get_or ranks i (slice_index_or ranks i (rank_at 0 0))
itself ranks i within = get_or_default ranks i (rank_at 0 0) (slice_index_or ranks i (rank_at 0 0)) within

among : (ranks : List Rank) (i : ℕ) → i < length ranks → Contains ranks (slice_index_or ranks i (rank_at 0 0))
among ranks i within = (i, within, sym (itself ranks i within))

pub returns-in_err-lowest : goal.returns-in_err-lowest
returns-in_err-lowest c = absurd (some_lowest (load_in c.args.loads.now) c.args.tasks.now c.requires.set (omega (arith, c.requires.redundancy.some, c.requires.redundancy.ordered, c.requires.redundancy.known)) c.in_err-lowest.ensures)

pub bounds-slices-rank : goal.bounds-slices-rank
bounds-slices-rank c =
    let ranks = c.args.ranks.now in let i = c.loop-rank.rank-index in
    its_place c.args.slices.now c.args.tasks.now c.args.limits.redundancy c.args.limits.left ranks c.requires.ranks (slice_index_or ranks i (rank_at 0 0)) (among ranks i c.loop-rank-test.true)

pub offset_bounds-slices-rank : goal.offset_bounds-slices-rank
offset_bounds-slices-rank c =
    let ranks = c.args.ranks.now in let i = c.loop-rank.rank-index in
    let within = its_place c.args.slices.now c.args.tasks.now c.args.limits.redundancy c.args.limits.left ranks c.requires.ranks (slice_index_or ranks i (rank_at 0 0)) (among ranks i c.loop-rank-test.true) in
    omega (arith, within)

pub bounds-changes-rank : goal.bounds-changes-rank
bounds-changes-rank c =
    let ranks = c.args.ranks.now in let i = c.loop-rank.rank-index in
    let within = its_place c.args.slices.now c.args.tasks.now c.args.limits.redundancy c.args.limits.left ranks c.requires.ranks (slice_index_or ranks i (rank_at 0 0)) (among ranks i c.loop-rank-test.true) in
    let count = ap (λ (xs : List LoadChanges). length xs) c.requires.changes in
    omega (arith, within, count, length-map c.args.slices.now (load_changes_of c.args.limits.redundancy))

pub offset_bounds-changes-rank : goal.offset_bounds-changes-rank
offset_bounds-changes-rank c =
    let ranks = c.args.ranks.now in let i = c.loop-rank.rank-index in
    let within = its_place c.args.slices.now c.args.tasks.now c.args.limits.redundancy c.args.limits.left ranks c.requires.ranks (slice_index_or ranks i (rank_at 0 0)) (among ranks i c.loop-rank-test.true) in
    let count = ap (λ (xs : List LoadChanges). length xs) c.requires.changes in
    omega (arith, within, count, length-map c.args.slices.now (load_changes_of c.args.limits.redundancy))

pub best_with-best-requires-clause-lowest : goal.best_with-best-requires-clause-lowest
best_with-best-requires-clause-lowest c = lowest_is (load_in c.args.loads.now) c.args.tasks.now c.in_ok-lowest.lowest c.requires.set c.in_ok-lowest.ensures

pub best_with-best-requires-clause-wide : goal.best_with-best-requires-clause-wide
best_with-best-requires-clause-wide c =
    let slices = c.args.slices.now in let ranks = c.args.ranks.now in let i = c.loop-rank.rank-index in
    let rank = slice_index_or ranks i (rank_at 0 0) in
    let within = its_place slices c.args.tasks.now c.args.limits.redundancy c.args.limits.left ranks c.requires.ranks rank (among ranks i c.loop-rank-test.true) in
    of_all slices rank.place c.index-slices-rank.result within c.index-slices-rank.is (λ (s : LoadedSlice). 0 < s.width) c.requires.wide

pub best_with-best-requires-clause-fit : goal.best_with-best-requires-clause-fit
best_with-best-requires-clause-fit c =
    let slices = c.args.slices.now in let ranks = c.args.ranks.now in let i = c.loop-rank.rank-index in
    let rank = slice_index_or ranks i (rank_at 0 0) in
    let within = its_place slices c.args.tasks.now c.args.limits.redundancy c.args.limits.left ranks c.requires.ranks rank (among ranks i c.loop-rank-test.true) in
    of_all slices rank.place c.index-slices-rank.result within c.index-slices-rank.is (λ (s : LoadedSlice). IsFit c.args.tasks.now c.args.limits.redundancy s.owners) c.requires.fits

pub best_with-best-requires-clause-shared : goal.best_with-best-requires-clause-shared
best_with-best-requires-clause-shared c =
    let slices = c.args.slices.now in let ranks = c.args.ranks.now in let i = c.loop-rank.rank-index in
    let rank = slice_index_or ranks i (rank_at 0 0) in
    let within = its_place slices c.args.tasks.now c.args.limits.redundancy c.args.limits.left ranks c.requires.ranks rank (among ranks i c.loop-rank-test.true) in
    shared (load_in c.args.loads.now) slices rank.place c.index-slices-rank.result c.requires.loads within c.index-slices-rank.is

pub best_with-best-requires-clause-small : goal.best_with-best-requires-clause-small
best_with-best-requires-clause-small c =
    let slices = c.args.slices.now in let ranks = c.args.ranks.now in let i = c.loop-rank.rank-index in
    let rank = slice_index_or ranks i (rank_at 0 0) in
    let within = its_place slices c.args.tasks.now c.args.limits.redundancy c.args.limits.left ranks c.requires.ranks rank (among ranks i c.loop-rank-test.true) in
    let P : LoadedSlice → Type 0 = λ s. s.load ≤ total_load slices in
    let one = subst P (sym c.index-slices-rank.is) (get_or-le-sum_by (λ (s : LoadedSlice). s.load) slices rank.place c.index-slices-rank.result within) in
    ((λ t. omega (arith, c.requires.loads t, load-le-total slices t, c.requires.small)), omega (arith, one, c.requires.small))

pub best_ratio-ratio-requires : goal.best_ratio-ratio-requires
best_ratio-ratio-requires c =
    let slices = c.args.slices.now in let tasks = c.args.tasks.now in let redundancy = c.args.limits.redundancy in let left = c.args.limits.left in
    let ranks = c.args.ranks.now in let i = c.loop-rank.rank-index in
    let rank = slice_index_or ranks i (rank_at 0 0) in
    let slice = c.index-slices-rank.result in
    let within = its_place slices tasks redundancy left ranks c.requires.ranks rank (among ranks i c.loop-rank-test.true) in
    let there = slice_get_read slices (length slices) rank.place slice refl within c.index-slices-rank.is in
    let affordable = OnTrue_at c.if-can_lead.true c.can_lead.ensures.affordable in
    best_wide slices tasks redundancy left c.requires.wide (take (i + 1) ranks) c.best_with-best.result
    (past_slice slices tasks redundancy left (load_in c.args.loads.now) c.requires.loads ranks i rank c.loop-rank-test.true (itself ranks i c.loop-rank-test.true) slice there c.loop-rank.best c.best_with-best.result affordable c.loop-rank.invariant.best c.best_with-best.ensures)

pub loop-rank-preserved : goal.loop-rank-preserved
loop-rank-preserved c =
    let slices = c.args.slices.now in let tasks = c.args.tasks.now in let redundancy = c.args.limits.redundancy in let left = c.args.limits.left in
    let ranks = c.args.ranks.now in let i = c.loop-rank.rank-index in
    let load = load_in c.args.loads.now in
    let rank = slice_index_or ranks i (rank_at 0 0) in
    let slice = c.index-slices-rank.result in
    let is = c.index-slices-rank.is in
    let known = c.loop-rank.invariant in
    let within = its_place slices tasks redundancy left ranks c.requires.ranks rank (among ranks i c.loop-rank-test.true) in
    let there = slice_get_read slices (length slices) rank.place slice refl within is in
    let P : Option Move → Type 0 = λ best. IsBestOf (IsSeen slices tasks redundancy left (take (i + 1) ranks)) best in
    elim c.if-can_lead.branch [
      | then-can_lead w ↦ record {
        best = subst P (sym w.best-is) (past_slice slices tasks redundancy left load c.requires.loads ranks i rank c.loop-rank-test.true (itself ranks i c.loop-rank-test.true) slice there c.loop-rank.best w.best_with-best.result
            (OnTrue_at w.if-can_lead.true c.can_lead.ensures.affordable) known.best w.best_with-best.ensures);
        ratio = w.ratio-is ∙ w.best_ratio-ratio.ensures ∙ ap best_ratio (sym w.best-is);
      }
      | else-can_lead w ↦ record {
        best =
            let no_changes : LoadChanges = record { share = 0; least = 0 } in
            let changes_are : slice_index_or c.args.changes.now rank.place no_changes ≡ load_changes_of redundancy slice =
            ap (λ (xs : List LoadChanges). slice_index_or xs rank.place no_changes) c.requires.changes ∙ get_or-map (load_changes_of redundancy) slices rank.place slice no_changes within ∙ ap (load_changes_of redundancy) (sym is) in
            let Q : LoadChanges → Type 0 = λ s. (gain : ℕ) → 0 < gain → gain ≤ min s.share (greatest load slice.owners - c.of_task-least.result - s.least) → gain < least_gain c.loop-rank.ratio slice.width in
            let fit = of_all slices rank.place slice within is (λ (s : LoadedSlice). IsFit tasks redundancy s.owners) c.requires.fits in
            let lowest = lowest_is load tasks c.in_ok-lowest.lowest c.requires.set c.in_ok-lowest.ensures in
            subst P (sym w.best-is) (past_behind slices tasks redundancy left load c.requires.loads ranks i rank c.loop-rank-test.true (itself ranks i c.loop-rank-test.true) slice there c.loop-rank.best
            (λ m affordable h. none_of_slice load tasks redundancy slice c.loop-rank.best (best_gains slices tasks redundancy left (take i ranks) c.loop-rank.best known.best) c.of_task-least.result c.loop-rank.ratio c.requires.redundancy fit
            (shared load slices rank.place slice c.requires.loads within is) c.requires.set (all_above load tasks c.in_ok-lowest.lowest c.of_task-least.result lowest c.of_task-least.ensures)
            (best_wide slices tasks redundancy left c.requires.wide (take i ranks) c.loop-rank.best known.best) known.ratio (subst Q changes_are (OnFalse_at w.if-can_lead.false c.can_lead.ensures.behind affordable)) m h) known.best);
        ratio = w.ratio-is ∙ known.ratio ∙ ap best_ratio (sym w.best-is);
      }
    ]

pub returns-after-loop-rank : goal.returns-after-loop-rank
returns-after-loop-rank c =
    all_seen c.args.slices.now c.args.tasks.now c.args.limits.redundancy c.args.limits.left c.args.ranks.now c.requires.ranks c.requires.set c.requires.redundancy c.requires.fits c.loop-rank.rank-index c.loop-rank.best c.loop-rank-test.false c.loop-rank.invariant.best

pub returns-then-rank-ratio : goal.returns-then-rank-ratio
returns-then-rank-ratio c =
    let ranks = c.args.ranks.now in let i = c.loop-rank.rank-index in
    let rank = slice_index_or ranks i (rank_at 0 0) in
    let P : ℕ → Type 0 = λ ratio. rank.ratio < ratio in
    rest_behind c.args.slices.now c.args.tasks.now c.args.limits.redundancy c.args.limits.left ranks c.requires.ranks c.requires.set c.requires.redundancy c.requires.fits i rank c.loop-rank.best c.requires.wide c.loop-rank-test.true
    (itself ranks i c.loop-rank-test.true) (subst P c.loop-rank.invariant.ratio c.if-rank-ratio.true) c.loop-rank.invariant.best

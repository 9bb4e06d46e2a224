use Rattle.std.proofs.Common.{◌≡◌, ◌∙◌, List, sym, arith}
use Rattle.weighted_move.specs.declared.loaded_slice.LoadedSlice.{LoadedSlice}
use Rattle.weighted_move.specs.Loads.{load_in, load_of}
use Rattle.weighted_move.proofs.Prefixes.{at_end}
use Rattle.weighted_move.proofs.Loading.{load-none, load-more, load-fits}
use Rattle.weighted_move.proofs.task_loads.TaskLoads.of.Goals as goal

pub loop-slice-init : goal.loop-slice-init
loop-slice-init c task = c.none-loads.ensures task ∙ sym (load-none task)

pub add-requires : goal.add-requires
add-requires c task = omega (arith, c.loop-slice.invariant task, load-fits c.args.slices.now c.loop-slice.slice-index task c.slice-item.result c.loop-slice-test.true c.slice-item.is, c.requires)

pub loop-slice-preserved : goal.loop-slice-preserved
loop-slice-preserved c task = omega (arith, c.loop-slice.invariant task, c.add.ensures task, load-more c.args.slices.now c.loop-slice.slice-index task c.slice-item.result c.loop-slice-test.true c.slice-item.is)

pub returns : goal.returns
returns c task =
    let Q : List LoadedSlice → Type 0 = λ slices. load_in c.loop-slice.loads task ≡ load_of slices task in
    at_end Q c.args.slices.now c.loop-slice.slice-index c.loop-slice-test.false (c.loop-slice.invariant task)

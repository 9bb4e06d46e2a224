use Rattle.std.proofs.Common.{◌<◌, length, arith, length-set}
use Rattle.load_ledger.specs.declared.share.TheConstants.{MOST_TOTAL}
use Rattle.load_ledger.proofs.Loading.{small_more, loads_on}
use Rattle.load_ledger.proofs.loads.add_records.Goals as goal

pub loop-record-preserved : goal.loop-record-preserved
loop-record-preserved c =
    let each = c.loop-record.invariant.each in
    let within : c.place_of.result < length c.loop-record.loads = omega arith in
    record {
      each = omega (arith, length-set c.loop-record.loads c.place_of.result);
      small = small_more MOST_TOTAL c.args.records.now c.loop-record.record-index c.record-item.result c.loop-record.loads c.place_of.result c.loop-record-test.true c.record-item.is within c.loop-record.invariant.small;
      loads = λ before is. loads_on c.args.slices.now c.args.records.now before c.loop-record.record-index c.record-item.result c.loop-record.loads c.place_of.result c.place_of.ensures.alone c.place_of.ensures.within c.loop-record-test.true c.record-item.is (c.loop-record.invariant.loads before is);
    }

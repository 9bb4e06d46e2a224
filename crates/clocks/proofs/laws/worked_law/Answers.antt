use Rattle.std.proofs.Common.{refl, inl, lit≤}
use Rattle.clocks.specs.Rounding.{div_up}
use Rattle.clocks.specs.Drifts.{most_gain}
use Rattle.clocks.proofs.laws.worked_law.Goals as goal

pub returns-clause-paced : goal.returns-clause-paced
unfolding div_up most_gain
returns-clause-paced c = (
  (
    record { local = lit≤ tt; readings = tt },
    (
      record { local = tt; readings = tt },
      (
        record { local = lit≤ tt; readings = tt },
        (
          record { local = lit≤ tt; readings = tt },
          (
            record { local = lit≤ tt; readings = tt },
            (record { local = tt; readings = tt }, tt),
          ),
        ),
      ),
    ),
  ),
  (
    (
      record { local = tt; readings = tt },
      (
        record { local = lit≤ tt; readings = tt },
        (
          record { local = lit≤ tt; readings = tt },
          (
            record { local = lit≤ tt; readings = record { rises = lit≤ tt; gains = lit≤ tt } },
            (record { local = tt; readings = lit≤ tt }, tt),
          ),
        ),
      ),
    ),
    (
      (
        record { local = tt; readings = tt },
        (
          record { local = tt; readings = tt },
          (
            record { local = tt; readings = tt },
            (record { local = tt; readings = tt }, tt),
          ),
        ),
      ),
      (
        (
          record { local = lit≤ tt; readings = tt },
          (
            record { local = lit≤ tt; readings = tt },
            (record { local = tt; readings = tt }, tt),
          ),
        ),
        (
          (
            record { local = lit≤ tt; readings = tt },
            (record { local = tt; readings = tt }, tt),
          ),
          ((record { local = tt; readings = lit≤ tt }, tt), (tt, tt)),
        ),
      ),
    ),
  ),
)

pub returns-clause-honest : goal.returns-clause-honest
returns-clause-honest c = (inl (refl, lit≤ tt), tt)

pub returns-clause-values : goal.returns-clause-values
unfolding div_up most_gain
returns-clause-values c = refl

pub returns-clause-each : goal.returns-clause-each
unfolding div_up most_gain
returns-clause-each c = (
  lit≤ tt,
  (lit≤ tt, (lit≤ tt, (lit≤ tt, tt))),
  (
    record { above = lit≤ tt; room = lit≤ tt },
    (lit≤ tt, (lit≤ tt, tt)),
    (lit≤ tt, (lit≤ tt, tt), (record { above = lit≤ tt; room = lit≤ tt }, tt, tt)),
  ),
)

pub returns-clause-readings : goal.returns-clause-readings
returns-clause-readings c = refl

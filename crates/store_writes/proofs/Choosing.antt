-- The first write of both kinds.
use Rattle.std.proofs.Common.{ℕ, ◌<◌, ◌≤◌, List, length, refl, arith}
use Rattle.std.proofs.lemmas.Option.{slice_get_within}
use Rattle.store_writes.specs.declared.write.WriteEvent.{WriteEvent}
use Rattle.store_writes.specs.declared.write.WriteEvent.TheVariants.{Offered}
use Rattle.store_writes.specs.declared.ruled_out.WriteFault.TheVariants.{NotGiven, Overtaken}
use Rattle.store_writes.specs.declared.late.Late.{Late}
use Rattle.store_writes.specs.Writes.{IsFirstRuledOut, NoneBefore}
use Rattle.store_writes.specs.internals.Firsts.{AllGivenBefore, IsFirstNotGiven, IsFirstOvertaken, NoneOvertakenBefore, ruled_out}

module _ (events : List WriteEvent) where
  pub none_before : (index : ℕ) → AllGivenBefore events index → NoneOvertakenBefore events index → NoneBefore events index
  none_before index given none place NotGiven l ruled = ruled.2 (given place ruled.0 l ruled.1)
  none_before index given none place (Overtaken at) l ruled = none place at ruled.0 ruled.2.0 l ruled.1 ruled.2.1 ruled.2.2

  given_up_to : (index end : ℕ) → index ≤ end → AllGivenBefore events end → AllGivenBefore events index
  given_up_to index end order given = λ place write l here. given place write (omega (arith, l, order)) here

  none_up_to : (index end : ℕ) → index ≤ end → NoneOvertakenBefore events end → NoneOvertakenBefore events index
  none_up_to index end order none = λ place at write by l here there o. none place at write by (omega (arith, l, order)) here there o

  -- the write that was not given comes first
  not_given_first : (index : ℕ) → IsFirstNotGiven events index → NoneOvertakenBefore events index → IsFirstRuledOut events record { index = index; why = NotGiven }
  not_given_first index is none = record { here = (is.write, is.here, is.not_given); first = none_before index is.first none; named = λ _. refl }

  -- the write that was overtaken comes first
  overtaken_first : (late : Late) → IsFirstOvertaken events late → (end : ℕ) → late.index < end → AllGivenBefore events end → IsFirstRuledOut events (ruled_out late)
  overtaken_first late is end l given =
      record {
        here = (is.write, is.here, (is.by, is.there, is.overtaken));
        first = none_before late.index (given_up_to late.index end (omega (arith, l)) given) is.first;
        named = λ ruled. absurd (ruled.2 (given late.index ruled.0 l ruled.1));
      }

  pub only_not_given : (index : ℕ) → IsFirstNotGiven events index → NoneOvertakenBefore events (length events)
      → IsFirstRuledOut events record { index = index; why = NotGiven }
  only_not_given index is none =
      not_given_first index is (none_up_to index (length events) (let l = slice_get_within events index (Offered is.write) is.here in omega (arith, l)) none)

  pub only_overtaken : (late : Late) → IsFirstOvertaken events late → AllGivenBefore events (length events) → IsFirstRuledOut events (ruled_out late)
  only_overtaken late is given = overtaken_first late is (length events) (slice_get_within events late.index (Offered is.write) is.here) given

  pub both_not_given : (index : ℕ) (late : Late) → IsFirstNotGiven events index → IsFirstOvertaken events late → index ≤ late.index
      → IsFirstRuledOut events record { index = index; why = NotGiven }
  both_not_given index late is other order = not_given_first index is (none_up_to index late.index order other.first)

  pub both_overtaken : (index : ℕ) (late : Late) → IsFirstNotGiven events index → IsFirstOvertaken events late → late.index < index → IsFirstRuledOut events (ruled_out late)
  both_overtaken index late other is order = overtaken_first late is index order other.first

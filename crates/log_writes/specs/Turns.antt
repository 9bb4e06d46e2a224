-- Tokens and writes of a log in the order of the tickets.
use Rattle.std.specs.Prelude.{ℕ, Bool, true, false, List, [], ◌++◌, map, Option, None}
use Rattle.std.specs.Ordering.{nat_cmp}
use Rattle.std.specs.List.Sorted.{IsPermutation, IsNonDecreasingBy, IsStableByKey}
use Rattle.store_writes.specs.Writes.{token_needed}
use Rattle.store_writes.specs.declared.write.Write.{Write}
use Rattle.store_writes.specs.declared.write.WriteEvent.{WriteEvent}
use Rattle.store_writes.specs.declared.write.WriteEvent.TheVariants.{Given, Offered}
use Rattle.log_line.specs.declared.entry.WriteEntry.{WriteEntry}
use Rattle.log_line.specs.declared.write.LoggedWrite.{LoggedWrite}
use Rattle.log_line.specs.declared.write.StoreReply.{StoreReply}
use Rattle.log_line.specs.declared.write.StoreReply.TheVariants.{Taken}
use Rattle.log_writes.specs.declared.turns.Turn.{Turn}

-- the store's number for a write that it took, if it gave one
abbrev pub revision_of : StoreReply → Option ℕ
revision_of (Taken revision) = revision
revision_of _ = None

-- the write of a line
abbrev pub write_of : LoggedWrite → Write
write_of write = record { key = write.key; token = write.token; revision = revision_of write.reply }

abbrev pub offered_turn : WriteEntry → Turn
offered_turn entry = record { ticket = entry.write.ticket; place = entry.place; event = Offered (write_of entry.write) }

-- earlier logs may have given the token of any write
abbrev pub earlier_turn : WriteEntry → Turn
earlier_turn entry = record { ticket = 0; place = entry.place; event = Given (token_needed (write_of entry.write)) }

abbrev pub earlier_turns : Bool → List WriteEntry → List Turn
earlier_turns true writes = map earlier_turn writes
earlier_turns false writes = []

-- the tokens that tasks were given, or may have been given in earlier logs if the log goes on from them, and the writes
abbrev pub turns_of : Bool → List Turn → List WriteEntry → List Turn
turns_of goes_on given writes = (earlier_turns goes_on writes ++ given) ++ map offered_turn writes

-- these turns in the order of their tickets; those with the same ticket keep their order
pub record IsInTurn (turns ordered : List Turn) : Type 0 where
  pub same : IsPermutation turns ordered
  pub order : IsNonDecreasingBy (λ turn. turn.ticket) ordered
  pub stable : IsStableByKey (λ turn. turn.ticket) nat_cmp turns ordered

abbrev pub event_of : Turn → WriteEvent
event_of turn = turn.event

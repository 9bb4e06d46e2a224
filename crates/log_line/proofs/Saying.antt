-- Lines that are read one after another.
use Rattle.std.proofs.Common.{◌≡◌, ℕ, ◌+◌, ◌<◌, true, false, not, inl, inr, List, [], ◌∷◌, ◌++◌, map, length, get_or, take, drop, refl, sym, ap, ◌∙◌, append_assoc}
use Rattle.std.proofs.lemmas.List.{map_more, map-append, take-append-drop, append-nil}
use Rattle.std.proofs.lemmas.List.Elements.{filter-append}
use Rattle.wire.specs.declared.fault.DecodeRefusal.{DecodeRefusal}
use Rattle.program_io.specs.Lines.{is_blank, is_long}
use Rattle.log_line.specs.declared.entry.LogEntry.{LogEntry}
use Rattle.log_line.specs.declared.entry.WriteEntry.{WriteEntry}
use Rattle.log_line.specs.declared.entry.LinePosition.{LinePosition}
use Rattle.log_line.specs.declared.lines.KeptLine.{KeptLine}
use Rattle.log_line.specs.Files.{PlacedLine, IsSaid, IsTorn, IsWritten, AreSaid, IsBadLine, AreShort, counted, HasLongLine}
use Rattle.log_line.specs.Readers.{kept}

-- one line more, which says a call
pub said_after : (lines : List PlacedLine) (entries : List LogEntry) (writes : List WriteEntry) (torn : List LinePosition) (line : PlacedLine) (entry : LogEntry)
    → AreSaid lines entries writes torn → IsSaid line entry → AreSaid (lines ++ line ∷ []) (entries ++ entry ∷ []) writes torn
said_after [] [] [] [] line entry are said = inl (entry, [], refl, said, tt)
said_after [] [] [] (t ∷ torn) line entry are said = absurd are
said_after [] [] (w ∷ writes) torn line entry are said = absurd are
said_after [] (e ∷ entries) writes torn line entry are said = absurd are
said_after (l ∷ lines) entries writes torn line entry (inl are) said =
    inl (are.0, are.1 ++ entry ∷ [], ap (λ (es : List LogEntry). es ++ entry ∷ []) are.2, are.3, said_after lines are.1 writes torn line entry are.4 said)
said_after (l ∷ lines) entries writes torn line entry (inr (inl are)) said =
    inr (inl (are.0, are.1, are.2, are.3, said_after lines entries are.1 torn line entry are.4 said))
said_after (l ∷ lines) entries writes torn line entry (inr (inr are)) said =
    inr (inr (are.0, are.1, are.2, said_after lines entries writes are.0 line entry are.3 said))

-- one line more, which says a write
pub written_after : (lines : List PlacedLine) (entries : List LogEntry) (writes : List WriteEntry) (torn : List LinePosition) (line : PlacedLine) (entry : WriteEntry)
    → AreSaid lines entries writes torn → IsWritten line entry → AreSaid (lines ++ line ∷ []) entries (writes ++ entry ∷ []) torn
written_after [] [] [] [] line entry are said = inr (inl (entry, [], refl, said, tt))
written_after [] [] [] (t ∷ torn) line entry are said = absurd are
written_after [] [] (w ∷ writes) torn line entry are said = absurd are
written_after [] (e ∷ entries) writes torn line entry are said = absurd are
written_after (l ∷ lines) entries writes torn line entry (inl are) said =
    inl (are.0, are.1, are.2, are.3, written_after lines are.1 writes torn line entry are.4 said)
written_after (l ∷ lines) entries writes torn line entry (inr (inl are)) said =
    inr (inl (are.0, are.1 ++ entry ∷ [], ap (λ (ws : List WriteEntry). ws ++ entry ∷ []) are.2, are.3, written_after lines entries are.1 torn line entry are.4 said))
written_after (l ∷ lines) entries writes torn line entry (inr (inr are)) said =
    inr (inr (are.0, are.1, are.2, written_after lines entries writes are.0 line entry are.3 said))

-- one line more, which is torn
pub torn_after : (lines : List PlacedLine) (entries : List LogEntry) (writes : List WriteEntry) (torn : List LinePosition) (line : PlacedLine)
    → AreSaid lines entries writes torn → IsTorn line → AreSaid (lines ++ line ∷ []) entries writes (torn ++ line.place ∷ [])
torn_after [] [] [] [] line are is = inr (inr ([], refl, is, tt))
torn_after [] [] [] (t ∷ torn) line are is = absurd are
torn_after [] [] (w ∷ writes) torn line are is = absurd are
torn_after [] (e ∷ entries) writes torn line are is = absurd are
torn_after (l ∷ lines) entries writes torn line (inl are) is = inl (are.0, are.1, are.2, are.3, torn_after lines are.1 writes torn line are.4 is)
torn_after (l ∷ lines) entries writes torn line (inr (inl are)) is =
    inr (inl (are.0, are.1, are.2, are.3, torn_after lines entries are.1 torn line are.4 is))
torn_after (l ∷ lines) entries writes torn line (inr (inr are)) is =
    inr (inr (are.0 ++ line.place ∷ [], ap (λ (ts : List LinePosition). ts ++ line.place ∷ []) are.1, are.2, torn_after lines entries writes are.0 line are.3 is))

-- one line more, which is short
pub short_after : (lines : List PlacedLine) (line : PlacedLine) → AreShort lines → is_long line.bytes ≡ false → AreShort (lines ++ line ∷ [])
short_after [] line short this = (this, tt)
short_after (l ∷ lines) line short this = (short.0, short_after lines line short.1 this)

-- one line more, of those that count
counted_after : (lines : List PlacedLine) (line : PlacedLine) → counted (lines ++ line ∷ []) ≡ counted lines ++ counted (line ∷ [])
counted_after lines line = filter-append (λ (l : PlacedLine). not (is_blank l.bytes)) lines (line ∷ [])

pub counts_one : (lines : List PlacedLine) (line : PlacedLine) → is_blank line.bytes ≡ false → counted (lines ++ line ∷ []) ≡ counted lines ++ line ∷ []
counts_one lines line more =
    let this : counted (line ∷ []) ≡ line ∷ [] = rw more refl in
    counted_after lines line ∙ ap (λ (ls : List PlacedLine). counted lines ++ ls) this

pub counts_none : (lines : List PlacedLine) (line : PlacedLine) → is_blank line.bytes ≡ true → counted (lines ++ line ∷ []) ≡ counted lines
counts_none lines line blank =
    let this : counted (line ∷ []) ≡ [] = rw blank refl in
    counted_after lines line ∙ ap (λ (ls : List PlacedLine). counted lines ++ ls) this ∙ append-nil (counted lines)

-- one line more after some that are cut at another one
pub longer : (before later lines : List PlacedLine) (here line : PlacedLine) → lines ≡ before ++ here ∷ later → lines ++ line ∷ [] ≡ before ++ here ∷ (later ++ line ∷ [])
longer before later lines here line whole =
    ap (λ (ls : List PlacedLine). ls ++ line ∷ []) whole ∙ append_assoc before (here ∷ later) (line ∷ [])

pub bad_after : (lines : List PlacedLine) (line : PlacedLine) (place : LinePosition) (why : DecodeRefusal) → IsBadLine lines place why → IsBadLine (lines ++ line ∷ []) place why
bad_after lines line place why bad = record {
  before = bad.before;
  line = bad.line;
  later = bad.later ++ line ∷ [];
  whole = longer bad.before bad.later lines bad.line line bad.whole;
  entries = bad.entries;
  writes = bad.writes;
  torn = bad.torn;
  said = bad.said;
  at = bad.at;
  ended = bad.ended;
  says = bad.says;
}

pub long_after : (lines : List PlacedLine) (line : PlacedLine) (place : LinePosition) → HasLongLine lines place → HasLongLine (lines ++ line ∷ []) place
long_after lines line place long = record {
  before = long.before;
  line = long.line;
  later = long.later ++ line ∷ [];
  whole = longer long.before long.later lines long.line line long.whole;
  short = long.short;
  at = long.at;
  long = long.long;
}

module _ (lines : List KeptLine) (i : ℕ) (line d : KeptLine) (low : i < length lines) (here : line ≡ get_or lines i d) where
  pub one_more : map kept (take (i + 1) lines) ≡ map kept (take i lines) ++ kept line ∷ []
  one_more = map_more kept lines i d low ∙ ap (λ (l : KeptLine). map kept (take i lines) ++ kept l ∷ []) (sym here)

  pub whole_with : map kept lines ≡ map kept (take i lines) ++ kept line ∷ map kept (drop (i + 1) lines)
  whole_with = ap (map kept) (sym (take-append-drop (i + 1) lines)) ∙ map-append kept (take (i + 1) lines) (drop (i + 1) lines)
      ∙ ap (λ (ls : List PlacedLine). ls ++ map kept (drop (i + 1) lines)) one_more
      ∙ append_assoc (map kept (take i lines)) (kept line ∷ []) (map kept (drop (i + 1) lines))

-- Replies of which a log keeps one word.
use Rattle.std.specs.Prelude.{ℕ, Bool, ◌||◌, List, codes}
use Rattle.std.specs.List.{count_by}
use Rattle.std.specs.Str.{bytes_eq}
use Rattle.log_line.specs.declared.entry.LogEntry.{LogEntry}

-- the words are one word of a reply, which is judged by it alone; no whole reply has just this word
unfoldable pub is_coarse : List ℕ → Bool
is_coarse words = bytes_eq words (codes "served") || (bytes_eq words (codes "denied") || (bytes_eq words (codes "refused") || bytes_eq words (codes "lost")))

unfoldable pub is_coarse_entry : LogEntry → Bool
is_coarse_entry entry = is_coarse entry.line.reply

-- how many replies a log keeps one word of
unfoldable pub coarse_count : List LogEntry → ℕ
coarse_count entries = count_by is_coarse_entry entries

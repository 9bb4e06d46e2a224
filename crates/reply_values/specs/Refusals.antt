-- Refusals: the first word of the line, and what the line names beside it.
use Rattle.std.specs.Prelude.{ℕ, List, [], ◌∷◌, codes}
use Rattle.serde_json.specs.Data.{Data, string}
use Rattle.grants.specs.declared.table_error.TableError.{TableError}
use Rattle.grants.specs.declared.table_error.TableError.TheVariants as table
use Rattle.grants.specs.declared.slicelet_error.SliceletError.{SliceletError}
use Rattle.grants.specs.declared.slicelet_error.SliceletError.TheVariants as slicelet
use Rattle.clerk.specs.declared.error.ClerkError.{ClerkError}
use Rattle.clerk.specs.declared.error.ClerkError.TheVariants as clerk
use Rattle.replies.specs.declared.reply.Refusal.{Refusal}
use Rattle.replies.specs.declared.reply.Refusal.TheVariants as refusal
use Rattle.replies.specs.Lines.{refusal_words, slicelet_words, table_words}
use Rattle.wire.specs.LeaseMembers.{kind_data}
use Rattle.wire.specs.Objects.{number_data, object_data}
use Rattle.reply_values.specs.Values.{large_data, refused_data}

-- a refusal with this word, which names a reading, the number of a term or a grant, or a generation
abbrev pub refused_until_data : List ℕ → ℕ → Data
refused_until_data word until = object_data ((codes "refused", string word) ∷ (codes "until", large_data until) ∷ [])

abbrev pub refused_number_data : List ℕ → ℕ → Data
refused_number_data word number = object_data ((codes "number", large_data number) ∷ (codes "refused", string word) ∷ [])

abbrev pub refused_generation_data : List ℕ → ℕ → Data
refused_generation_data word generation = object_data ((codes "generation", large_data generation) ∷ (codes "refused", string word) ∷ [])

-- a refusal of the table; most name nothing, so that their words are one
abbrev pub table_data : TableError → Data
table_data (table.JobHeld until) = refused_until_data (codes "job-held") until
table_data (table.NotHolder term) = refused_number_data (codes "not-holder") term
table_data (table.StaleBase generation) = refused_generation_data (codes "stale-base") generation
table_data (table.Grace until) = refused_until_data (codes "grace") until
table_data (table.Held task kind number) = object_data
    ((codes "kind", kind_data kind) ∷ (codes "number", large_data number) ∷ (codes "refused", string (codes "held")) ∷ (codes "task", number_data task) ∷ [])
table_data error = refused_data (table_words error)

-- a refusal of a slicelet
abbrev pub slicelet_data : SliceletError → Data
slicelet_data (slicelet.Old heard) = refused_number_data (codes "old") heard
slicelet_data error = refused_data (slicelet_words error)

-- a refusal of a clerk
abbrev pub clerk_data : ClerkError → Data
clerk_data (clerk.Old generation) = refused_generation_data (codes "old") generation

-- a refusal
abbrev pub refusal_data : Refusal → Data
refusal_data (refusal.Table error) = table_data error
refusal_data (refusal.Slicelet error) = slicelet_data error
refusal_data (refusal.Clerk error) = clerk_data error
refusal_data other = refused_data (refusal_words other)

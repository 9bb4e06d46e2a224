-- Names of jobs, as the caller gives them.
use Rattle.std.specs.Prelude.{ℕ, nat_le, ◌&&◌, List, length, Option, Some, None, if◌then◌else◌}
use Rattle.std.specs.Str.{is_utf8}
use Rattle.wire.specs.declared.job_name.TheConstants.{MOST_NAME_BYTES}

-- the name of a job that the bytes are, where they are one: not too many bytes, of UTF-8
abbrev pub job_of : List ℕ → Option (List ℕ)
job_of bytes = if is_utf8 bytes && nat_le (length bytes) MOST_NAME_BYTES then Some bytes else None

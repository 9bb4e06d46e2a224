-- A text is a message of one job and one value at the most, and then it is not refused.
use Rattle.std.proofs.Common.{◌≡◌, ◌≢◌, ◌∙◌, ℕ, Bool, true, false, List, Option, Some, None, Result, Ok, Err, inl, inr, refl, sym, ap, bytes_eq, ◌≤◌, arith, IfOk}
use Rattle.std.specs.Prelude.{IsUtf8}
use Rattle.std.proofs.lemmas.Slice.Eq.{bytes_eq-Decides}
use Rattle.serde_json.specs.Data.{Data, depth}
use Rattle.serde_json.specs.Read.{max_depth, read}
use Rattle.serde_json.specs.Written.{IsInOrder, outline}
use Rattle.program_io.specs.Reading.{◌>>=◌, ◌>>◌, check}
use Rattle.program_io.specs.Repeated.{first_repeated}
use Rattle.wire.specs.declared.fault.DecodeError.{DecodeError}
use Rattle.wire.specs.declared.fault.DecodeError.TheVariants as failed
use Rattle.wire.specs.declared.fault.DecodeRefusal.{DecodeRefusal}
use Rattle.wire.specs.declared.fault.DecodeRefusal.TheVariants.{OtherJob}
use Rattle.wire.specs.declared.numerals.Numerals.{Numerals}
use Rattle.wire.specs.declared.numerals.Numerals.TheVariants.{Quoted}
use Rattle.wire.specs.Messages.{Content, IsDecodedAs, IsMessage, IsNoMessage, IsOfOtherJob, IsUndecoded, IsWritten, content, content_of, message_data, message_of, named_content, value_for}
use Rattle.wire.specs.Refusals.{OutOfMemory}
use Rattle.program_io.proofs.Once.{written_once}
use Rattle.wire.proofs.Digits.{bytes_themselves}

one_value : {A : Type 0} (o : Option A) (x y : A) → o ≡ Some x → o ≡ Some y → x ≡ y
one_value o x y e f = cc

one_result : {A E : Type 0} (r : Result A E) (x y : A) → r ≡ Ok x → r ≡ Ok y → x ≡ y
one_result r x y e f = cc

pub one_message : {A : Type 0} (job name : List ℕ) (form : Numerals → Data → Result A DecodeRefusal) (bytes : List ℕ) (x y : A) → IsMessage job name form bytes x → IsMessage job name form bytes y → x ≡ y
one_message job name form bytes x y first second =
    let same : first.value ≡ second.value = one_value _ _ _ first.json.json.reads second.json.json.reads in
    one_result (message_of job name form first.value) x y first.says (rw same second.says)

-- a message is refused for its length alone
pub is_no_other : {A : Type 0} (job name : List ℕ) (form : Numerals → Data → Result A DecodeRefusal) (bytes : List ℕ) (x : A) (why : DecodeRefusal) → IsMessage job name form bytes x
    → IsNoMessage job name form bytes why → ⊥
is_no_other job name form bytes x why is (inl none) =
    let reads = none.1 is.json.json.utf8 in
    absurd (cc)
is_no_other job name form bytes x why is (inr (inl repeats)) =
    let twice = repeats.1.1.twice in
    let once = is.json.once in
    absurd (cc)
is_no_other job name form bytes x why is (inr (inr other)) =
    let same : other.value ≡ is.value = one_value _ _ _ other.json.json.reads is.json.json.reads in
    let says = rw same at other.says in
    absurd (cc)

pub decoded_as : {A : Type 0} (job name : List ℕ) (form : Numerals → Data → Result A DecodeRefusal) (bytes : List ℕ) (x : A) (e : DecodeError) → IsMessage job name form bytes x
    → IsUndecoded job name form bytes e → IsDecodedAs bytes x (Err e)
decoded_as job name form bytes x (failed.Refused why) is (inl long) = inl (ap failed.Refused long.0, long.1)
decoded_as job name form bytes x (failed.Refused why) is (inr (_, not)) = absurd (is_no_other job name form bytes x why is not)
decoded_as job name form bytes x failed.NoMemory is not = inr (refl, not)

pub where_memory_ran_out : {A : Type 0} (Holds : Type 0) (r : Result A DecodeError) → Holds → OutOfMemory Holds r
where_memory_ran_out Holds (Ok x) holds = tt
where_memory_ran_out Holds (Err (failed.Refused why)) holds = tt
where_memory_ran_out Holds (Err failed.NoMemory) holds = holds

-- A MESSAGE OF ANOTHER JOB

-- what is of one job is not of another
not_equal : (b : Bool) (xs ys zs : List ℕ) → b ≡ bytes_eq xs zs → xs ≡ ys → ys ≢ zs → bytes_eq xs zs ≡ false
not_equal true xs ys zs e same differs = absurd (differs (sym same ∙ (bytes_eq-Decides xs zs).0 (sym e)))
not_equal false xs ys zs e same differs = sym e

of_job : {A : Type 0} (b : Bool) (r : Result A DecodeRefusal) (x : A) → check b OtherJob >> r ≡ Ok x → b ≡ true
of_job true r x e = refl
of_job false r x e = absurd (cc)

refused_content : {A : Type 0} (r : Result Content DecodeRefusal) (job other : List ℕ) (form : Numerals → Data → Result A DecodeRefusal) (x : A) → other ≢ job → r >>= value_for other form ≡ Ok x
    → r >>= value_for job form ≡ Err OtherJob
refused_content (Ok c) job other form x differs says =
    let is : c.job ≡ other = (bytes_eq-Decides c.job other).0 (of_job (bytes_eq c.job other) (form c.numerals c.value) x says) in
    rw (not_equal (bytes_eq c.job job) c.job other job refl is differs) refl
refused_content (Err e) job other form x differs says = absurd (cc)

of_other : {A : Type 0} (job other name : List ℕ) (form : Numerals → Data → Result A DecodeRefusal) (x : A) (d : Data) → other ≢ job → message_of other name form d ≡ Ok x → message_of job name form d ≡ Err OtherJob
of_other job other name form x d differs says = refused_content (content_of name d) job other form x differs says

-- a message of another job is not decoded
pub not_of_job : {A : Type 0} (job other name : List ℕ) (form : Numerals → Data → Result A DecodeRefusal) (bytes : List ℕ) (x y : A) → other ≢ job → IsMessage other name form bytes x
    → IsMessage job name form bytes y → ⊥
not_of_job job other name form bytes x y differs first second =
    let same : first.value ≡ second.value = one_value _ _ _ first.json.json.reads second.json.json.reads in
    let says = of_other job other name form x first.value differs first.says in
    let read = rw (← same) at second.says in
    absurd (cc)

other_why : {A : Type 0} (job other name : List ℕ) (form : Numerals → Data → Result A DecodeRefusal) (bytes : List ℕ) (x : A) (why : DecodeRefusal) → other ≢ job → IsMessage other name form bytes x
    → IsNoMessage job name form bytes why → why ≡ OtherJob
other_why job other name form bytes x why differs is (inl none) =
    let reads = none.1 is.json.json.utf8 in
    absurd (cc)
other_why job other name form bytes x why differs is (inr (inl repeats)) =
    let twice = repeats.1.1.twice in
    let once = is.json.once in
    absurd (cc)
other_why job other name form bytes x why differs is (inr (inr not)) =
    let same : is.value ≡ not.value = one_value _ _ _ is.json.json.reads not.json.json.reads in
    let says = of_other job other name form x is.value differs is.says in
    let read = rw (← same) at not.says in
    cc

pub refused_as_other : {A : Type 0} (job other name : List ℕ) (form : Numerals → Data → Result A DecodeRefusal) (bytes : List ℕ) (x : A) (e : DecodeError) → other ≢ job → IsMessage other name form bytes x
    → IsUndecoded job name form bytes e → IsOfOtherJob {A = A} bytes (Err e)
refused_as_other job other name form bytes x (failed.Refused why) differs is (inl long) = inr (inl (ap failed.Refused long.0, long.1))
refused_as_other job other name form bytes x (failed.Refused why) differs is (inr (_, not)) = inl (ap failed.Refused (other_why job other name form bytes x why differs is not))
refused_as_other job other name form bytes x failed.NoMemory differs is not = inr (inr (refl, not))

-- WHAT WAS WRITTEN

pub content_read : (job name : List ℕ) (d : Data) → content_of name (message_data job name d) ≡ Ok (content job Quoted d)
unfolding content_of named_content
content_read job name d = rw (bytes_themselves name) refl

message_read : {A : Type 0} (job name : List ℕ) (form : Numerals → Data → Result A DecodeRefusal) (x : A) (d : Data) → form Quoted d ≡ Ok x → message_of job name form (message_data job name d) ≡ Ok x
message_read job name form x d reads = rw (content_read job name d, bytes_themselves job) reads

message_once : (job name : List ℕ) (d : Data) → first_repeated (outline d) ≡ None → first_repeated (outline (message_data job name d)) ≡ None
message_once job name d once = rw once refl

-- bytes that are written of a message of a value are a message of the value
pub is_message : {A : Type 0} (data_of : Numerals → A → Data) (job name : List ℕ) (form : Numerals → Data → Result A DecodeRefusal) (x : A) (d message : Data) (bytes : List ℕ)
    → IsWritten data_of form x d → message ≡ message_data job name d → IsUtf8 bytes → (depth message ≤ max_depth → read bytes ≡ Some message) → IsInOrder bytes message
    → IsMessage job name form bytes x
is_message data_of job name form x d message bytes written is utf8 reads order =
    let shallow : depth message ≤ max_depth = rw is (omega (arith, written.shallow)) in
    let once : first_repeated (outline message) ≡ None = rw (is, message_once job name d written.once) refl in
    record {
      value = message;
      json = record { json = record { utf8 = utf8; reads = reads shallow }; once = written_once bytes message order once };
      says = rw is (message_read job name form x d written.reads);
    }

pub all_three : {X Y : Type 0} (r : Result X Y) (P Q R S : X → Type 0) → ((x : X) → P x → Q x → R x → S x) → IfOk r P → IfOk r Q → IfOk r R → IfOk r S
all_three (Ok x) P Q R S f p q s = f x p q s
all_three (Err e) P Q R S f p q s = tt

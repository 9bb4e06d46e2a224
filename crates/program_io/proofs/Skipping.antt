-- Lines that were read: blank ones, and the line after them.
use Rattle.std.proofs.Common.{◌≡◌, ◌∙◌, ℕ, Bool, ◌&&◌, ◌||◌, true, false, not, List, [], ◌∷◌, ◌++◌, append-nil, length, Option, Some, None, refl, sym, ap, subst, inl, inr, arith}
use Rattle.std.specs.Io.KnownBytes.{Consumes, IsAtEnd}
use Rattle.std.specs.Prelude.{nat_eq}
use Rattle.std.proofs.lemmas.Bool.Decides.{nat_tests}
use Rattle.std.proofs.BufReadLemmas.{take_through-nil}
use Rattle.std.proofs.lemmas.List.Elements.{filter-append}
use Rattle.program_io.specs.Lines.{is_blank, is_long, is_skipped, IsLine, AreLines, without_skipped, IsNextLine, HasNoLine}
use Rattle.program_io.specs.LinesRead.{IsKept, IsLineRead, IsNextRead, ends_search}
use Rattle.program_io.proofs.Bytes.{consumes_more, consumes_none}

-- lines, and then lines
pub reads_on : (a b c : Option (List ℕ)) (xs ys : List (List ℕ)) → AreLines a b xs → AreLines b c ys → AreLines a c (xs ++ ys)
reads_on a b c [] ys same later = subst (λ (o : Option (List ℕ)). AreLines o c ys) (sym same) later
reads_on a b c (x ∷ xs) ys read later = (read.0, read.1, reads_on read.0 b c xs ys read.2 later)

pub reads_one : (a b : Option (List ℕ)) (line : List ℕ) → IsLine a b line → AreLines a b (line ∷ [])
reads_one a b line read = (b, read, refl)

-- the bytes of lines
pub consumed : (a b : Option (List ℕ)) (lines : List (List ℕ)) → AreLines a b lines → (bytes : List ℕ) × Consumes a b bytes
consumed a b [] same = ([], subst (λ (o : Option (List ℕ)). Consumes a o []) same (consumes_none a))
consumed a b (line ∷ lines) read =
    let rest = consumed read.0 b lines read.2 in
    (line ++ rest.0, consumes_more a read.0 b line rest.0 read.1.gave rest.1)

blanks_append : (xs ys : List (List ℕ)) → without_skipped (xs ++ ys) ≡ without_skipped xs ++ without_skipped ys
blanks_append xs ys = filter-append (λ line. not (is_skipped line)) xs ys

-- a line that is not blank after blank ones, and after lines before them
pub with_line : (xs blanks : List (List ℕ)) (line : List ℕ) → without_skipped blanks ≡ [] → is_skipped line ≡ false
    → without_skipped (xs ++ (blanks ++ line ∷ [])) ≡ without_skipped xs ++ line ∷ []
with_line xs blanks line blank more = rw (blanks_append xs (blanks ++ line ∷ []), blanks_append blanks (line ∷ []), blank, more) refl

-- blank lines after lines
pub with_blanks : (xs blanks : List (List ℕ)) → without_skipped blanks ≡ [] → without_skipped (xs ++ blanks) ≡ without_skipped xs
with_blanks xs blanks blank = rw (blanks_append xs blanks, blank) (append-nil (without_skipped xs))

-- lines after the first one
pub with_first : (blanks lines : List (List ℕ)) (first : List ℕ) → without_skipped blanks ≡ [] → is_skipped first ≡ false
    → without_skipped ((blanks ++ first ∷ []) ++ lines) ≡ first ∷ without_skipped lines
with_first blanks lines first blank more =
    rw (blanks_append (blanks ++ first ∷ []) lines, blanks_append blanks (first ∷ []), blank, more) refl

-- blank lines that were read
pub record AreSkipped (before after : Option (List ℕ)) : Type 0 where
  pub blanks : List (List ℕ)
  pub blank : without_skipped blanks ≡ []
  pub reads : AreLines before after blanks

pub skips_none : (before : Option (List ℕ)) → AreSkipped before before
skips_none before = record { blanks = []; blank = refl; reads = refl }

pub skips_more : (a b c : Option (List ℕ)) (line : List ℕ) → AreSkipped a b → IsLine b c line → is_skipped line ≡ true → AreSkipped a c
skips_more a b c line skipped read blank = record {
  blanks = skipped.blanks ++ line ∷ [];
  blank = rw (blanks_append skipped.blanks (line ∷ []), skipped.blank, blank) refl;
  reads = reads_on a b c skipped.blanks (line ∷ []) skipped.reads (reads_one b c line read);
}

gives_line : (a b c : Option (List ℕ)) (line : List ℕ) → AreSkipped a b → IsLine b c line → is_skipped line ≡ false → IsNextLine a c line
gives_line a b c line skipped read more = record {
  blanks = skipped.blanks;
  blank = skipped.blank;
  reads = reads_on a b c skipped.blanks (line ∷ []) skipped.reads (reads_one b c line read);
  more = more;
}

-- nothing is left where an empty line was read
nothing_left : (b c : Option (List ℕ)) → IsLine b c [] → IsAtEnd b
nothing_left None c read = tt
nothing_left (Some bytes) c read = take_through-nil 10 bytes (ap length (sym read.through))

-- whether a line is skipped, by whether it is blank and whether it is long
counts_long : (blank long : Bool) → long ≡ true → (blank && not long) ≡ false
counts_long true true is = refl
counts_long true false is = absurd (cc)
counts_long false long is = refl

counts_full : (blank long : Bool) → not blank ≡ true → (blank && not long) ≡ false
counts_full true long is = absurd (cc)
counts_full false long is = refl

skips_blank : (blank long : Bool) → not blank ≡ false → long ≡ false → (blank && not long) ≡ true
skips_blank true true is short = absurd (cc)
skips_blank true false is short = refl
skips_blank false long is short = absurd (cc)

-- a line with a byte is not empty, and ends the search unless it is blank
pub not_empty : (byte : ℕ) (bytes : List ℕ) → nat_eq (length (byte ∷ bytes)) 0 ≡ false
not_empty byte bytes = by_test (nat_eq (length (byte ∷ bytes)) 0) refl
  where
    by_test : (b : Bool) → nat_eq (length (byte ∷ bytes)) 0 ≡ b → b ≡ false
    by_test true is = let zero : length (byte ∷ bytes) ≡ 0 = grind (arith, nat_tests) in absurd (omega (arith, zero))
    by_test false is = refl

by_blank : (byte : ℕ) (bytes : List ℕ) (b : Bool) → ends_search (byte ∷ bytes) false ≡ b → not (is_blank (byte ∷ bytes)) ≡ b
by_blank byte bytes b ends = ap (λ e. e || not (is_blank (byte ∷ bytes))) (sym (not_empty byte bytes)) ∙ ends

pub gives_next : (a b c : Option (List ℕ)) (kept : List ℕ) (long : Bool) → AreSkipped a b → IsLineRead b c kept long → ends_search kept long ≡ true → IsNextRead a c kept long
gives_next a b c kept true skipped read ends =
    let long : is_long read.line ≡ true = sym read.keeps.measured in
    inl (read.line, gives_line a b c read.line skipped read.read (counts_long (is_blank read.line) (is_long read.line) long), read.keeps)
gives_next a b c [] false skipped read ends =
    let whole : [] ≡ read.line = read.keeps.whole refl in
    let left : IsAtEnd b = nothing_left b c (subst (λ (l : List ℕ). IsLine b c l) (sym whole) read.read) in
    inr (refl, refl, record { blanks = skipped.blanks; blank = skipped.blank; at_end = b; reads = skipped.reads; ended = left })
gives_next a b c (x ∷ xs) false skipped read ends =
    let whole : x ∷ xs ≡ read.line = read.keeps.whole refl in
    let counts : is_skipped (x ∷ xs) ≡ false = counts_full (is_blank (x ∷ xs)) (is_long (x ∷ xs)) (by_blank x xs true ends) in
    inl (read.line, gives_line a b c read.line skipped read.read (subst (λ (l : List ℕ). is_skipped l ≡ false) whole counts), read.keeps)

-- or goes on, where the line is skipped
pub skips_next : (a b c : Option (List ℕ)) (kept : List ℕ) (long : Bool) → AreSkipped a b → IsLineRead b c kept long → ends_search kept long ≡ false → AreSkipped a c
skips_next a b c kept true skipped read ends = absurd (cc)
skips_next a b c [] false skipped read ends = absurd (cc)
skips_next a b c (x ∷ xs) false skipped read ends =
    let whole : x ∷ xs ≡ read.line = read.keeps.whole refl in
    let short : is_long (x ∷ xs) ≡ false = ap is_long whole ∙ sym read.keeps.measured in
    let blank : is_skipped (x ∷ xs) ≡ true = skips_blank (is_blank (x ∷ xs)) (is_long (x ∷ xs)) (by_blank x xs false ends) short in
    skips_more a b c read.line skipped read.read (subst (λ (l : List ℕ). is_skipped l ≡ true) whole blank)

-- what was read where no line was
pub gives_none : (a b c : Option (List ℕ)) (bytes : List ℕ) → AreSkipped a b → Consumes b c bytes → (all : List ℕ) × Consumes a c all
gives_none a b c bytes skipped gave =
    let before = consumed a b skipped.blanks skipped.reads in
    (before.0 ++ bytes, consumes_more a b c before.0 bytes before.1 gave)

-- a line that was read, and is not the end
pub is_line : (before after : Option (List ℕ)) (kept : List ℕ) (long : Bool) → (not long && nat_eq (length kept) 0) ≡ false → IsNextRead before after kept long
    → (line : List ℕ) × IsNextLine before after line × IsKept line kept long
is_line before after kept long more (inl next) = next
is_line before after kept long more (inr none) = let no : true ≡ false = rw (none.0, none.1) at more in absurd (cc)

-- no line was read at the end of the input
pub no_line : (before after : Option (List ℕ)) (kept : List ℕ) (long : Bool) → (not long && nat_eq (length kept) 0) ≡ true
    → IsNextRead before after kept long → HasNoLine before
no_line before after kept true none next = absurd (cc)
no_line before after (x ∷ xs) false none next =
    let some : nat_eq (length (x ∷ xs)) 0 ≡ false = not_empty x xs in
    let both : true ≡ false = sym none ∙ some in
    absurd (cc)
no_line before after [] false none (inl next) =
    let no : true ≡ false = rw (sym (next.2.whole refl)) at next.1.more in absurd (cc)
no_line before after [] false none (inr last) = last.2

-- the bytes of a line and of what was skipped before it
pub line_consumed : (before after : Option (List ℕ)) (line : List ℕ) → IsNextLine before after line → (bytes : List ℕ) × Consumes before after bytes
line_consumed before after line next = consumed before after (next.blanks ++ line ∷ []) next.reads

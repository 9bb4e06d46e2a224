-- Parts of a line, one after another.
use Rattle.std.proofs.Common.{◌≡◌, ◌≢◌, ◌∙◌, ◌<◌, ◌+◌, ◌-◌, ◌≤◌, ◌||◌, ℕ, Bool, true, false, cond, List, [], ◌++◌, All, Option, Some, None, get_or, get_or-take, length, length-append, take, append_assoc, refl, sym, ap, subst, arith}
use Rattle.std.specs.Prelude.{IfSome, slice_index}
use Rattle.std.specs.Io.{StopsAt, StartsWith}
use Rattle.std.proofs.lemmas.Bool.Decides.{nat_tests}
use Rattle.std.proofs.lemmas.List.{length-take-le, append-nil}
use Rattle.std.proofs.lemmas.List.Elements.{All-append}
use Rattle.std.specs.Io.BufRead.{strip_last, ends_with_byte, take_through, DropsConsumable}
use Rattle.std.specs.Io.KnownBytes.{Consumes, Keeps}
use Rattle.std.proofs.BufReadLemmas.{Consumes_through, Consumes_shown, zero_unless_positive}
use Rattle.std.proofs.Transfers.{StopsAt-append, StopsAt-take}
use Rattle.program_io.specs.declared.line.TheConstants.{MOST_LINE_BYTES}
use Rattle.program_io.specs.Lines.{is_long}
use Rattle.program_io.specs.LinesRead.{IsLineRead}
use Rattle.program_io.specs.internals.Parts.{IsPart}
use Rattle.program_io.proofs.Bytes.{consumes_more, consumes_none}

pub kept_all : (a b : Option (List ℕ)) → Keeps a b → Consumes a b []
kept_all None b same = tt
kept_all (Some x) None same = absurd same
kept_all (Some x) (Some y) same = sym same

-- nothing was read
pub no_part : (a b : Option (List ℕ)) (line : List ℕ) → Keeps a b → IsPart a b line line false
no_part a b line same = record {
  part = [];
  appended = sym (append-nil line);
  gave = kept_all a b same;
  stops = λ k d low is. absurd (omega (arith, low));
  goes_on = λ _ k d low is. absurd (omega (arith, low));
  ends = λ done. absurd (cc);
  none = λ done. absurd (cc);
}

-- what the reader showed was taken, up to its first byte 10
pub shown_part : (a b c : Option (List ℕ)) (buffered : Option ℕ) (line new shown : List ℕ) (n : ℕ) (done : Bool) → n ≤ length shown → (0 < length shown → 0 < n)
    → All (λ b. b ≢ 10) (take (n - 1) shown) → (done ≡ false → All (λ b. b ≢ 10) (take n shown)) → (done ≡ true → 0 < n → slice_index shown (n - 1) ≡ 10)
    → IfSome a (λ xs. StartsWith xs shown) → IfSome a (λ xs. length shown ≡ 0 → xs ≡ []) → Keeps a b
    → IfSome a (λ _. IfSome buffered (λ k. length shown ≤ k)) → DropsConsumable b c buffered n → new ≡ line ++ take n shown → IsPart a c line new done
shown_part a b c buffered line new shown n done bound some stops goes_on ends front end kept fits drops appended =
    let moved = Consumes_shown a b c buffered shown n bound front end kept fits drops in
    let long : length (take n shown) ≡ n = length-take-le n shown bound in
    record {
      part = take n shown;
      appended = appended;
      gave = moved.0;
      stops = StopsAt-take shown 10 n bound stops;
      goes_on = goes_on;
      ends = λ is many.
          ap (λ k. get_or (take n shown) (k - 1) 0) long ∙ get_or-take n shown (n - 1) 0 (omega (arith, long, many)) ∙ ends is (omega (arith, long, many));
      none = λ _ nothing. moved.1 (zero_unless_positive (length shown) n some (sym long ∙ nothing));
    }

-- the parts of a line so far, of which some are not kept
pub record AreParts (before after : Option (List ℕ)) (kept : List ℕ) (cut : Bool) : Type 0 where
  pub gone : List ℕ
  pub gave : Consumes before after (gone ++ kept)
  pub goes_on : All (λ b. b ≢ 10) (gone ++ kept)
  pub whole : cut ≡ false → gone ≡ []
  pub many : cut ≡ true → MOST_LINE_BYTES + 1 < length gone

pub no_parts : (before : Option (List ℕ)) → AreParts before before [] false
no_parts before = record { gone = []; gave = consumes_none before; goes_on = λ k d low is. absurd (omega (arith, low)); whole = λ _. refl; many = λ cut. absurd (cc) }

pub one_more : (a b c : Option (List ℕ)) (kept new : List ℕ) (cut : Bool) → AreParts a b kept cut → IsPart b c kept new false → AreParts a c new cut
one_more a b c kept new cut parts more = record {
  gone = parts.gone;
  gave = subst (λ (l : List ℕ). Consumes a c l) (together parts.gone kept more.part new more.appended) (consumes_more a b c (parts.gone ++ kept) more.part parts.gave more.gave);
  goes_on = subst (λ (l : List ℕ). All (λ b. b ≢ 10) l) (together parts.gone kept more.part new more.appended) (All-append (λ b. b ≢ 10) (parts.gone ++ kept) more.part parts.goes_on (more.goes_on refl));
  whole = parts.whole;
  many = parts.many;
}
  where
    together : (gone kept part new : List ℕ) → new ≡ kept ++ part → (gone ++ kept) ++ part ≡ gone ++ new
    together gone kept part new is = append_assoc gone kept part ∙ ap (λ (l : List ℕ). gone ++ l) (sym is)

-- what is kept is let go
pub let_go : (a b : Option (List ℕ)) (kept : List ℕ) (cut : Bool) → AreParts a b kept cut → MOST_LINE_BYTES + 1 < length kept → AreParts a b [] true
let_go a b kept cut parts many = record {
  gone = parts.gone ++ kept;
  gave = subst (λ (l : List ℕ). Consumes a b l) (sym (append-nil (parts.gone ++ kept))) parts.gave;
  goes_on = subst (λ (l : List ℕ). All (λ b. b ≢ 10) l) (sym (append-nil (parts.gone ++ kept))) parts.goes_on;
  whole = λ kept. absurd (cc);
  many = λ _. let l = length-append parts.gone kept in omega (arith, l, many);
}

-- all but the last byte, at least
stripped : (xs : List ℕ) → length xs ≤ length (strip_last 10 xs) + 1
stripped xs = by_end (ends_with_byte 10 xs)
  where
    by_end : (b : Bool) → length xs ≤ length (cond b (take (length xs - 1) xs) xs) + 1
    by_end true = let l = length-take-le (length xs - 1) xs (omega arith) in omega (arith, l)
    by_end false = omega arith

pub long_by_many : (xs : List ℕ) → MOST_LINE_BYTES + 1 < length xs → is_long xs ≡ true
long_by_many xs many = let s = stripped xs in grind (arith, nat_tests)

-- a line, of which some may not be kept, is measured by what is kept and by what is not
measured : (cut : Bool) (gone new : List ℕ) → (cut ≡ false → gone ≡ []) → (cut ≡ true → MOST_LINE_BYTES + 1 < length gone) → (cut || is_long new) ≡ is_long (gone ++ new)
measured true gone new whole many = sym (long_by_many (gone ++ new) (let l = length-append gone new in let m = many refl in omega (arith, l, m)))
measured false gone new whole many = rw (whole refl) refl

kept_whole : (cut : Bool) (gone new : List ℕ) → (cut ≡ false → gone ≡ []) → (cut || is_long new) ≡ false → new ≡ gone ++ new
kept_whole true gone new whole short = absurd (cc)
kept_whole false gone new whole short = rw (whole refl) refl

pub whole_line : (a b c : Option (List ℕ)) (kept new : List ℕ) (cut : Bool) → AreParts a b kept cut → IsPart b c kept new true → IsLineRead a c new (cut || is_long new)
whole_line a b c kept new cut parts last =
    let same : (parts.gone ++ kept) ++ last.part ≡ parts.gone ++ new = append_assoc parts.gone kept last.part ∙ ap (λ (l : List ℕ). parts.gone ++ l) (sym last.appended) in
    let through = Consumes_through 10 a b c (parts.gone ++ kept) last.part parts.gave parts.goes_on last.gave last.stops (last.ends refl) (last.none refl) in
    record {
      line = parts.gone ++ new;
      read = record {
        one_end = subst (λ (l : List ℕ). StopsAt l 10) same (StopsAt-append (parts.gone ++ kept) last.part 10 parts.goes_on last.stops);
        through = subst (λ (l : List ℕ). IfSome a (λ xs. l ≡ take_through 10 xs)) same through.0;
        gave = subst (λ (l : List ℕ). Consumes a c l) same (consumes_more a b c (parts.gone ++ kept) last.part parts.gave last.gave);
      };
      keeps = record { measured = measured cut parts.gone new parts.whole parts.many; whole = kept_whole cut parts.gone new parts.whole };
    }

-- bytes that were read, and then more of them
pub also_consumed : (a b c : Option (List ℕ)) (kept : List ℕ) (cut : Bool) → AreParts a b kept cut → (bytes : List ℕ) × Consumes b c bytes → (bytes : List ℕ) × Consumes a c bytes
also_consumed a b c kept cut parts more = ((parts.gone ++ kept) ++ more.0, consumes_more a b c (parts.gone ++ kept) more.0 parts.gave more.1)

pub were_consumed : (a b : Option (List ℕ)) (kept : List ℕ) (cut : Bool) → AreParts a b kept cut → (bytes : List ℕ) × Consumes a b bytes
were_consumed a b kept cut parts = (parts.gone ++ kept, parts.gave)

-- Published laws: neither the verdict's line nor its words are ever empty, and the words of an ending.
use Rattle.std.specs.Prelude.{Ok, Err}
use Prim.Native.Nat.{ℕ, ◌≤◌}
use mathlib.Core.Path.{◌≡◌, refl, sym, ap, ◌∙◌}
use mathlib.Core.Bool.{Bool, true, false, cond, not, ◌&&◌}
use mathlib.Core.List.{List, [], ◌∷◌, ◌++◌, append_assoc}
use native.Mathlib.Omega.{arith}
use borrow.Author.Tests.{not-true}
use lib.Dec.{eqb}
use lib.ListN.{length, length-append}
use Rattle.files.proofs.Checks.{both}
use Rattle.histories.specs.Answers.{Answer}
use Rattle.lines.specs.declared.words.Telling.{Telling}
use Rattle.lines.specs.Line.{line_of, Holds}
use Rattle.endings.specs.declared.Ending.{Ending}
use Rattle.endings.specs.Endings.{ascii}
use Rattle.lines.specs.Words.{Row, table, other_words, is_of, words_in, filled, detail_of, words_of}
use Rattle.lines.specs.Words.{ending_detail, tells_failed, failed_words, ending_words}

-- a line that holds some bytes, with a text and a number more
pub held_more : {line now r text : List ℕ} (xs ys : List ℕ) → Holds line text → now ≡ line ++ xs → r ≡ now ++ ys →
    length r ≤ 128 → Holds r (text ++ (xs ++ ys))
held_more {line} {now} {r} {text} xs ys h e f fits = record {
  whole = f ∙ ap (λ (l : List ℕ). l ++ ys) e ∙ append_assoc line xs ys ∙ ap (λ (l : List ℕ). l ++ (xs ++ ys)) h.whole;
  fits = fits;
}

pub line_some : (answer : Answer) → 1 ≤ length (line_of answer)
unfolding line_of
line_some (Ok accepted) = omega arith
line_some (Err refused) = omega arith

-- words that begin with a byte of their own
abbrev begun : List ℕ → Bool
begun [] = false
begun (byte ∷ bytes) = not (eqb byte 35)

abbrev all_begun : List Row → Bool
all_begun [] = begun (ascii other_words)
all_begun (r ∷ rows) = begun (ascii r.words) && all_begun rows

filled_some : (n : ℕ) (bytes : List ℕ) → begun bytes ≡ true → 1 ≤ length (filled n bytes)
filled_some n [] h = let z : ◌≡◌ {A = ℕ} 0 1 = cc in absurd (omega arith)
filled_some n (byte ∷ bytes) h = rw (not-true (eqb byte 35) h) (omega arith)

begun_in : (rows : List Row) (number detail : ℕ) → all_begun rows ≡ true → begun (ascii (words_in rows number detail)) ≡ true
begun_in [] number detail h = h
begun_in (r ∷ rows) number detail h =
    let parts = both (begun (ascii r.words)) (all_begun rows) h in
    either (is_of number detail r) parts.0 (begun_in rows number detail parts.1)
  where
    either : (b : Bool) → begun (ascii r.words) ≡ true → begun (ascii (words_in rows number detail)) ≡ true →
        begun (ascii (cond b r.words (words_in rows number detail))) ≡ true
    either true x y = x
    either false x y = y

table_some : (n number detail : ℕ) → 1 ≤ length (filled n (ascii (words_in table number detail)))
table_some n number detail = filled_some n (ascii (words_in table number detail)) (begun_in table number detail refl)

pub words_some : (answer : Answer) (telling : Telling) → 1 ≤ length (words_of answer telling)
unfolding words_of
words_some (Ok accepted) telling =
    let detail = ending_detail accepted.ending telling.kind in
    let words = filled telling.number (ascii (words_in table 0 detail)) in
    let told = cond (tells_failed accepted.ending accepted.failed) (failed_words accepted.failed) [] in
    omega (arith, table_some telling.number 0 detail, length-append words told)
words_some (Err refused) telling =
    table_some telling.number refused.number (detail_of refused.number refused.place refused.divergence telling.kind)

-- the words of an ending, with the failed steps
pub told_failed : (ending : Ending) (n kind failed : ℕ) {detail : ℕ} {line : List ℕ} → tells_failed ending failed ≡ true →
    detail ≡ ending_detail ending kind → Holds line (filled n (ascii (words_in table 0 detail)) ++ failed_words failed) →
    Holds line (ending_words ending n kind failed)
told_failed ending n kind failed b e h = rw (b, sym e) h

-- Every answer that the verdict gives has a row of its own in the table of words: no file leads to the words of no row.
use Rattle.std.specs.Prelude.{Result, Ok, Err}
use Prim.Native.Nat.{ℕ}
use mathlib.Core.Path.{◌≡◌, refl, sym, subst}
use mathlib.Core.Bool.{Bool, true, false, cond, ◌||◌}
use mathlib.Core.List.{List, [], ◌∷◌}
use lib.Dec.{T, eqb}
use borrow.Author.Tests.{eqb-true}
use Rattle.clocks.specs.declared.ClockCapability.{ClockCapability}
use Rattle.records.specs.declared.RecordRef.{RecordRef}
use Rattle.records.specs.Records.{among, opener_kinds}
use Rattle.files.specs.declared.Format.TheVariants as Format
use Rattle.files.specs.declared.PlanStep.{PlanStep}
use Rattle.files.specs.Reading.{reading_numbers, read_rule, as_journal, as_plan, journal_rule, plan_rule}
use Rattle.files.proofs.Laws.{refused_reading_lem}
use Rattle.histories.specs.Answers.{Answer}
use Rattle.endings.specs.declared.Ending.{Ending}
use Rattle.histories.specs.Checklist.{refusal_numbers, divergences_of}
use Rattle.histories.specs.Promise.{Promise}
use Rattle.histories.proofs.Whole.{promise_listed}
use Rattle.records.proofs.Numbers.{all, one_of}
use Rattle.lines.specs.Words.{Row, table, is_of, ending_detail, detail_of}
use Rattle.resume.specs.EndResult.{KeptBy}
use Rattle.resume.specs.Verdict.{verdict_by, verdict_rule}
use Rattle.resume.proofs.Keeps.{keeps}
use Rattle.files.specs.declared.FileHead.{FileHead}
use Rattle.files.specs.declared.Refusal.{Refusal}
use Rattle.files.specs.Read.{file_head}

abbrev has_row : List Row → ℕ → ℕ → Bool
has_row [] number detail = false
has_row (r ∷ rows) number detail = is_of number detail r || has_row rows number detail

abbrev pub Worded : Answer → ℕ → Type 0
Worded (Ok accepted) kind = T (has_row table 0 (ending_detail accepted.ending kind))
Worded (Err refused) kind = T (has_row table refused.number (detail_of refused.number refused.place refused.divergence kind))

ending_worded : (ending : Ending) (kind : ℕ) → T (has_row table 0 (ending_detail ending kind))
ending_worded Ending.Unstarted kind = tt
ending_worded Ending.Due kind = either (eqb kind 9)
  where
    either : (gate : Bool) → T (has_row table 0 (cond gate 7 1))
    either true = tt
    either false = tt
ending_worded Ending.Done kind = tt
ending_worded Ending.Open kind = either (eqb kind 5)
  where
    either : (timer : Bool) → T (has_row table 0 (cond timer 5 3))
    either true = tt
    either false = tt
ending_worded Ending.Finished kind = either (eqb kind 8)
  where
    either : (failed : Bool) → T (has_row table 0 (cond failed 6 4))
    either true = tt
    either false = tt

-- each number of reading, which has no divergence
read_worded : (kind place : ℕ) → T (all (λ (n : ℕ). has_row table n (detail_of n place 0 kind)) reading_numbers)
read_worded kind place = tt

-- 24: the first record, one after an opener, any other
malformed : (first opened : Bool) → T (has_row table 24 (cond first 0 (cond opened 2 1)))
malformed true opened = tt
malformed false true = tt
malformed false false = tt

-- 31: a marker, or an opener
beyond : (marker : Bool) → T (has_row table 31 (cond marker 1 0))
beyond true = tt
beyond false = tt

-- whether a number of the procedure has a row for each of its divergences; 24 and 31 are asked apart, by place and kind
abbrev has_rows : ℕ → Bool
has_rows n = eqb n 24 || (eqb n 31 || all (has_row table n) (divergences_of n))

replayed : (kind place n d : ℕ) → T (among refusal_numbers n) → T (among (divergences_of n) d) → T (has_row table n (detail_of n place d kind))
replayed kind place n d listed of = by_number (eqb n 24) (eqb n 31) refl refl (one_of has_rows refusal_numbers tt n listed)
  where
    at_24 : ℕ
    at_24 = cond (eqb place 0) 0 (cond (among opener_kinds kind) 2 1)

    at_31 : ℕ
    at_31 = cond (eqb kind 9) 1 0

    by_number : (a b : Bool) → eqb n 24 ≡ a → eqb n 31 ≡ b → T (a || (b || all (has_row table n) (divergences_of n))) →
        T (has_row table n (cond a at_24 (cond b at_31 d)))
    by_number true b ea eb t =
        subst (λ (m : ℕ). T (has_row table m at_24)) (sym (eqb-true n 24 ea)) (malformed (eqb place 0) (among opener_kinds kind))
    by_number false true ea eb t = subst (λ (m : ℕ). T (has_row table m at_31)) (sym (eqb-true n 31 eb)) (beyond (eqb kind 9))
    by_number false false ea eb t = one_of (has_row table n) (divergences_of n) t d of

kept_worded : {capability : ClockCapability} {plan : List PlanStep} {records : List RecordRef} (answer : Answer) (kind : ℕ) →
    Promise capability plan records answer → Worded answer kind
kept_worded (Ok accepted) kind kept = ending_worded accepted.ending kind
kept_worded (Err refused) kind kept =
    let listed = promise_listed kept in
    replayed kind refused.place refused.number refused.divergence listed.0 listed.1

module _ (j p : List ℕ) (kind : ℕ) where
  read : (n place : ℕ) → T (among reading_numbers n) → T (has_row table n (detail_of n place 0 kind))
  read n place listed = one_of (λ (m : ℕ). has_row table m (detail_of m place 0 kind)) reading_numbers (read_worded kind place) n listed

  by_readings : (a b : Result FileHead Refusal) → read_rule Format.Journal j ≡ a → read_rule Format.Plan p ≡ b →
      KeptBy a b j p (verdict_by (as_journal a) (as_plan b) j p) → Worded (verdict_by (as_journal a) (as_plan b) j p) kind
  by_readings (Err refusal) b ea eb k = read refusal.number refusal.place (refused_reading_lem Format.Journal j ea)
  by_readings (Ok journal) (Err refusal) ea eb k = read refusal.number refusal.place (refused_reading_lem Format.Plan p eb)
  by_readings (Ok journal) (Ok plan) ea eb k =
      kept_worded (verdict_by (as_journal (file_head journal.head journal.count)) (as_plan (file_head plan.head plan.count)) j p) kind k.1.1

  pub worded : Worded (verdict_rule j p) kind
  unfolding verdict_rule journal_rule plan_rule
  worded = by_readings (read_rule Format.Journal j) (read_rule Format.Plan p) refl refl (keeps j p (verdict_rule j p) refl).promise

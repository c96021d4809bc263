-- Laws of the walk: what the machine's rule says of the start and of each marker.
use Rattle.std.specs.Prelude.{Option, None, Result}
use Rattle.cursor.specs.declared.Step.{Step}
use Rattle.errors.specs.declared.KernelError.{KernelError}
use Rattle.ids.specs.declared.EffectSeq.{EffectSeq}
use Prim.Native.Nat.{ℕ, ◌+◌, ◌<◌}
use mathlib.Core.Path.{◌≡◌, refl, sym, ap, subst, ◌∙◌}
use mathlib.Core.Bool.{Bool, true, false}
use borrow.Author.Tests.{lt-ltb, eq-eqb}
use lib.Dec.{T}
use Rattle.records.specs.declared.RecordRef.{RecordRef}
use Rattle.cursor.specs.declared.State.{State}
use Rattle.cursor.specs.Advance as Cursor
use Rattle.ids.specs.declared.EffectIdAllocator.{EffectIdAllocator}
use Rattle.machine.specs.declared.Phase.TheVariants as Phase
use Rattle.machine.specs.declared.ReplayMachine.{ReplayMachine}
use Rattle.machine.specs.Phases.{fresh_machine, machine_advance_rule}
use Rattle.test_numbering.specs.declared.Counted.{Counted}
use Rattle.test_numbering.specs.declared.Walked.{Walked}
use Rattle.test_numbering.specs.Walk.{
  walked_run,
  start,
  marker,
  marker_accepted,
  Marked,
  none,
  one_more,
  offering,
  after_markers,
  walk_rule,
}
use Rattle.test_numbering.specs.Turns.{to_last_rule, replaying_with, marks_of}
use Rattle.machine.specs.declared.Answered.{Answered}

begins : (machine_advance_rule (fresh_machine walked_run) start).machine ≡ after_markers 0
unfolding machine_advance_rule Cursor.advance_rule
begins = refl

-- a fresh machine, called with the start
pub begun : {m : ReplayMachine} {x : RecordRef} {a : Answered Step} → m ≡ fresh_machine walked_run → x ≡ start → a ≡ machine_advance_rule m x
    → (a.machine ≡ after_markers 0) × Marked 0 a.machine
begun {m} {x} {a} is by called =
    let machine : a.machine ≡ (machine_advance_rule (fresh_machine walked_run) start).machine =
    ap (λ (y : Answered Step). y.machine)
    (called ∙ (ap (λ (y : ReplayMachine). machine_advance_rule y x) is ∙ ap (machine_advance_rule (fresh_machine walked_run)) by)) in
    (machine ∙ begins, subst (Marked 0) (sym machine) none)

-- a marker with the offered number is accepted, and the next number offered
pub takes : (n : ℕ) → n < 4294967295
    → machine_advance_rule (after_markers n) (marker n) ≡ record { machine = after_markers (n + 1); answer = marker_accepted n }
unfolding machine_advance_rule Cursor.advance_rule
takes n below = rw (eq-eqb n n refl) (rw (lt-ltb n 4294967295 below))

-- the last number is accepted like any other, and nothing is offered
pub takes_last : machine_advance_rule (after_markers 4294967295) (marker 4294967295)
    ≡ record { machine = offering None; answer = marker_accepted 4294967295 }
unfolding machine_advance_rule Cursor.advance_rule
takes_last = refl

-- One call: the machine m offers n, and the record x is the marker n.
module _ (n : ℕ) {m : ReplayMachine} {x : RecordRef} {a : Answered Step} {next : ReplayMachine} (by : x ≡ marker n)
    (called : a ≡ machine_advance_rule m x) where
  pub answered : m ≡ after_markers n
      → machine_advance_rule (after_markers n) (marker n) ≡ record { machine = next; answer = marker_accepted n }
      → a ≡ record { machine = next; answer = marker_accepted n }
  answered is rule =
      called ∙ (ap (λ (y : ReplayMachine). machine_advance_rule y x) is ∙ (ap (machine_advance_rule (after_markers n)) by ∙ rule))

  -- the machine that the call returned is one marker further
  pub one_on : Marked n m → a ≡ record { machine = next; answer = marker_accepted n } → Marked (n + 1) a.machine
  one_on before is =
      one_more n m a.machine before
      (sym (ap (machine_advance_rule m) by) ∙ (sym called ∙
      ap (λ (s : Result Step KernelError). record { machine = a.machine; answer = s }) (ap (λ (y : Answered Step). y.answer) is)))

-- the answer of an accepted marker is told to be its own
pub marks_it : (n : ℕ) {a : Answered Step} {next : ReplayMachine} → a ≡ record { machine = next; answer = marker_accepted n }
    → marks_of n a.answer ≡ true
marks_it n is = ap (λ (y : Answered Step). marks_of n y.answer) is ∙ rw (eq-eqb n n refl)

-- so what is left for one that is not cannot be reached
pub never : {A : Type 0} (b : Bool) → b ≡ false → b ≡ true → A
never true e t = absurd (subst T e tt)
never false e t = absurd (subst T (sym t) tt)

-- an accepted marker leaves the machine replaying
pub replays : (n : ℕ) {a : Answered Step} {next : Option EffectSeq} → a ≡ record { machine = offering next; answer = marker_accepted n }
    → a.machine.cursor.state ≡ State.Replaying
replays n is = ap (λ (y : Answered Step). y.machine.cursor.state) is

-- and settled
pub settled : (n : ℕ) {a : Answered Step} {next : Option EffectSeq} → a ≡ record { machine = offering next; answer = marker_accepted n }
    → a.machine.phase ≡ Phase.Settled
settled n is = ap (λ (y : Answered Step). y.machine.phase) is

-- What the loop carries along of a machine is its allocator.
module _ (n : ℕ) {m : ReplayMachine} where
  -- it is that of the same machine again
  pub carried : m ≡ after_markers n → Marked n m
      → (replaying_with m.cursor.ids Phase.Settled ≡ after_markers n) × Marked n (replaying_with m.cursor.ids Phase.Settled)
  carried is marked =
      let again : replaying_with m.cursor.ids Phase.Settled ≡ after_markers n =
      ap (λ (y : ReplayMachine). replaying_with y.cursor.ids Phase.Settled) is in
      (again, subst (Marked n) (is ∙ sym again) marked)

  -- so the machine made of it is that one
  pub remade : {ids : EffectIdAllocator} → m ≡ replaying_with ids Phase.Settled
      → (replaying_with ids Phase.Settled ≡ after_markers n) × Marked n (replaying_with ids Phase.Settled)
      → (m ≡ after_markers n) × Marked n m
  remade by before = (by ∙ before.0, subst (Marked n) (sym by) before.1)

-- one marker more than those to the last
pub walked_is : {k : Counted} {a : Answered Step} → k ≡ to_last_rule
    → a ≡ record { machine = offering None; answer = marker_accepted 4294967295 }
    → ◌≡◌ {A = Walked} (record { before = k.machine; machine = a.machine; markers = k.markers + 1 }) walk_rule
walked_is {k} {a} counted is =
    ap (λ (y : Counted). record { before = y.machine; machine = a.machine; markers = y.markers + 1 }) counted ∙
    ap (λ (y : Answered Step). record { before = after_markers 4294967295; machine = y.machine; markers = 4294967296 }) is

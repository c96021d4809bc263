-- The size of a text that a line holds: the line has room for 128 bytes.
use Prim.Native.Nat.{ℕ, ◌≤◌}
use mathlib.Core.Path.{◌≡◌, sym, ap}
use mathlib.Core.List.{List}
use native.Mathlib.Omega.{arith}
use lib.ListN.{length}
use Rattle.lines.specs.Line.{Holds}
use Rattle.hiskurdo.specs.Texts.{Sized}

pub held_sized : (line held text : List ℕ) → Holds line held → held ≡ text → 1 ≤ length held → Sized text
held_sized line held text h same some = rw (sym same) (record { some = some; most = omega (arith, h.fits, ap length h.whole) })

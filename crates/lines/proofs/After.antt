-- What stands after a line of a text. The table of words was such a text; docs/PORT.md names its law.
use Prim.Native.Nat.{ℕ}
use mathlib.Core.Path.{◌≡◌, refl}
use mathlib.Core.Bool.{Bool, true, cond, not, ◌&&◌}
use mathlib.Core.List.{List, [], ◌∷◌, ◌++◌}
use borrow.Author.Tests.{not-true}
use lib.Dec.{eqb}
use Rattle.files.proofs.Checks.{both}

-- bytes on one line
abbrev unbroken : List ℕ → Bool
unbroken [] = true
unbroken (byte ∷ bytes) = not (eqb byte 10) && unbroken bytes

-- what stands after the first line feed
abbrev after_line : List ℕ → List ℕ
after_line [] = []
after_line (byte ∷ bytes) = cond (eqb byte 10) bytes (after_line bytes)

after_line_lem : (bytes rest : List ℕ) → unbroken bytes ≡ true → after_line (bytes ++ (10 ∷ rest)) ≡ rest
after_line_lem [] rest h = refl
after_line_lem (byte ∷ bytes) rest h =
    let parts = both (not (eqb byte 10)) (unbroken bytes) h in rw (not-true (eqb byte 10) parts.0) (after_line_lem bytes rest parts.1)

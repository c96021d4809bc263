-- Laws of a folder's name as it is shown: it is as long, and each byte is shown for itself.
use Prim.Native.Nat.{ℕ, zero, suc, ◌+◌, ◌≤◌, ◌<◌}
use mathlib.Core.Path.{◌≡◌, refl, sym, ap, ◌∙◌}
use mathlib.Core.List.{List, [], ◌∷◌, ◌++◌}
use native.Mathlib.Numerals.{add-one}
use native.Mathlib.Omega.{arith}
use lib.ListN.{length, take, get_or, length-append}
use lib.Seq.{length-take-le}
use Rattle.file_bytes.specs.Names.{clean}
use Rattle.index.specs.Row.{cleaned}

pub cleaned_length : (name : List ℕ) → length (cleaned name) ≡ length name
cleaned_length [] = refl
cleaned_length (byte ∷ bytes) = ap suc (cleaned_length bytes)

-- behind what stood before, i bytes of a name
pub shown_length : (row before name : List ℕ) (i : ℕ) → row ≡ before ++ cleaned (take i name) → i ≤ length name →
    length row ≡ length before + i
shown_length row before name i e h =
    let some = cleaned_length (take i name) ∙ length-take-le i name h in
    omega (arith, ap (λ (l : List ℕ). length l) e, length-append before (cleaned (take i name)), some)

pub cleaned_next : (name : List ℕ) (i : ℕ) → i < length name →
    cleaned (take (i + 1) name) ≡ cleaned (take i name) ++ (clean (get_or name i 0) ∷ [])
cleaned_next [] i h = absurd (omega arith)
cleaned_next (byte ∷ bytes) zero h = refl
cleaned_next (byte ∷ bytes) (suc i) h =
    ap (λ (n : ℕ). cleaned (take n (byte ∷ bytes))) (add-one (suc i)) ∙
    ap (λ (l : List ℕ). clean byte ∷ l) (ap (λ (n : ℕ). cleaned (take n bytes)) (sym (add-one i)) ∙ cleaned_next bytes i (omega arith))

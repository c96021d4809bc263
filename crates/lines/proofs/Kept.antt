-- Laws of a text as it is kept: it holds what it is seen as, and a byte more, or many, are kept behind it.
use Prim.Native.Nat.{ℕ, suc, ◌+◌, ◌-◌, ◌≤◌, ◌<◌}
use mathlib.Core.Path.{◌≡◌, refl, sym, ap, ◌∙◌, subst}
use mathlib.Core.List.{List, [], ◌∷◌, ◌++◌, append_assoc}
use native.Mathlib.Omega.{arith}
use lib.ListN.{length, drop, replicate, set, length-append}
use lib.Seq.{paste, set-append_seam, take-append_seam, take-length, drop-append-add}
use borrow.Rule.Slice.PartMut.{put_mid}
use Rattle.std.proofs.lemmas.List.{drop-replicate}
use Rattle.std.proofs.lemmas.Slice.{put_mid-paste}
use Rattle.lines.specs.declared.text.Text.TheInside.{Inside}
use Rattle.lines.specs.Kept.{bytes_of, holding, IsKept}

module _ (size : ℕ) where
  abbrev kept : List ℕ → ℕ → Inside size
  kept bytes len = record { bytes = bytes; len = len }

  same : {a b : List ℕ} {m n : ℕ} → a ≡ b → m ≡ n → kept a m ≡ kept b n
  same {a} {b} {m} {n} e l = ap (λ (x : List ℕ). kept x m) e ∙ ap (kept b) l

  pub holding_kept : (bytes : List ℕ) → length bytes ≤ size → IsKept size (holding size bytes)
  holding_kept bytes h = record { whole = ap (holding size) (take-append_seam bytes (replicate (size - length bytes) 0)); fits = h }

  pushed : (t : List ℕ) (byte : ℕ) → length t < size →
      kept (set (t ++ replicate (size - length t) 0) (length t) byte) (length t + 1) ≡ holding size (t ++ (byte ∷ []))
  pushed t byte h =
      let long = length-append t (byte ∷ []) in
      let n = size - length (t ++ (byte ∷ [])) in
      let more : size - length t ≡ suc n = omega (arith, long) in
      let seam = set-append_seam t 0 (replicate n 0) byte ∙ sym (append_assoc t (byte ∷ []) (replicate n 0)) in
      same (ap (λ (m : ℕ). set (t ++ replicate m 0) (length t) byte) more ∙ seam) (omega (arith, long))

  pub push_kept : (l : Inside size) (byte : ℕ) → IsKept size l → length (bytes_of l) < size → IsKept size (kept (set l.bytes l.len byte) (l.len + 1))
  push_kept l byte k h =
      let whole = ap (λ (x : Inside size). kept (set x.bytes x.len byte) (x.len + 1)) (sym k.whole) ∙ pushed (bytes_of l) byte h in
      subst (IsKept size) (sym whole) (holding_kept (bytes_of l ++ (byte ∷ [])) (omega (arith, length-append (bytes_of l) (byte ∷ []))))

  -- bytes behind a text, in the place of as many zeros
  written : (t more : List ℕ) → length t + length more ≤ size →
      kept (paste (t ++ replicate (size - length t) 0) (length t) more (length more)) (length t + length more) ≡ holding size (t ++ more)
  written t more h =
      let zeros = replicate (size - length t) 0 in
      let left = replicate (size - length (t ++ more)) 0 in
      let fewer = ap (λ (n : ℕ). replicate n 0) (omega (arith, length-append t more)) in
      let rest : drop (length t + length more) (t ++ zeros) ≡ left =
      drop-append-add t zeros (length more) ∙ drop-replicate (length more) (size - length t) 0 ∙ fewer in
      same (rw (take-append_seam t zeros, take-length more, rest) refl) (sym (length-append t more))

  -- the text with those bytes behind it is what is kept after a part of the room was overwritten by them
  write_kept : (l : Inside size) (more part : List ℕ) (k : ℕ) → IsKept size l → part ≡ more → length more ≡ k →
      length (bytes_of l) + length more ≤ size → kept (put_mid l.len k l.bytes part) (l.len + length more) ≡ holding size (bytes_of l ++ more)
  write_kept l more part k is e n h =
      same (put_mid-paste l.len k l.bytes part more (length more) e n refl) refl ∙
      ap (λ (x : Inside size). kept (paste x.bytes x.len more (length more)) (x.len + length more)) (sym is.whole) ∙ written (bytes_of l) more h

  module _ (l : Inside size) (more part : List ℕ) (k : ℕ) (is : IsKept size l) (e : part ≡ more) (n : length more ≡ k)
      (h : length (bytes_of l) + length more ≤ size) where
    pub write_keeps : IsKept size (kept (put_mid l.len k l.bytes part) (l.len + length more))
    write_keeps =
        let long = length-append (bytes_of l) more in
        subst (IsKept size) (sym (write_kept l more part k is e n h)) (holding_kept (bytes_of l ++ more) (omega arith))

    pub write_shows : bytes_of (kept (put_mid l.len k l.bytes part) (l.len + length more)) ≡ bytes_of l ++ more
    write_shows =
        let left = replicate (size - length (bytes_of l ++ more)) 0 in
        ap (bytes_of {size = size}) (write_kept l more part k is e n h) ∙ take-append_seam (bytes_of l ++ more) left

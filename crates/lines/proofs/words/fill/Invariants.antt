-- The bytes passed are shown.
use Rattle.std.proofs.Common.{◌≡◌, take}
use Rattle.lines.specs.Words.{filled}
use Rattle.lines.proofs.words.fill.Given as goal

abbrev pub invariant-loop-byte : goal.invariant-loop-byte
invariant-loop-byte l = l.line ≡ filled l.n (take l.byte-index l.text)

-- The verdict and the handover in numbers, as Rust or C sees them.
use Rattle.std.specs.Prelude.{Ok, Err}
use Rattle.errors.specs.declared.Told.{Told}
use Rattle.histories.specs.Answers.{Answer}
use Rattle.endings.specs.Endings.{ending_number}
use Rattle.hiskurdo.specs.declared.verdicts.HandoverNumbers.{HandoverNumbers}
use Rattle.hiskurdo.specs.declared.verdicts.VerdictNumbers.{VerdictNumbers}

-- "`ok`, ending, stop, records, calls; or `no`, number, place, divergence, calls", and with `ok` the failed steps of 02: each in its own
-- field, and 0 in the others
abbrev pub verdict_numbers : Answer → VerdictNumbers
verdict_numbers (Ok accepted) = record {
  refused = 0;
  ending = ending_number accepted.ending;
  stop = accepted.stop;
  records = accepted.records;
  number = 0;
  place = 0;
  divergence = 0;
  calls = accepted.calls;
  failed = accepted.failed;
}
verdict_numbers (Err refused) = record {
  refused = 1;
  ending = 0;
  stop = 0;
  records = 0;
  number = refused.number;
  place = refused.place;
  divergence = refused.divergence;
  calls = refused.calls;
  failed = 0;
}

-- the handover's: number, what is given, start, length
abbrev pub handover_numbers : Told → HandoverNumbers
handover_numbers t = record { number = t.number; what = t.a; start = t.b; len = t.c }

-- 01's own lines, from the files' bytes to the printed text: two of the starred examples, and the worked pair, each with the last 0
-- that 02 adds ("Failed steps counted in the cursor"). Then the worked pair with an outcome, which fails or not; with another
-- recorded input: 02, "Length or CRC"; with the end of its run: 02, "Completed too soon"; and a plan of one gate: 02, "Gates in the
-- plan".
use Rattle.std.specs.Prelude.{ℕ, List, [], ◌∷◌, ◌++◌, replicate}
use Rattle.lines.specs.Line.{line_of}
use Rattle.endings.specs.Endings.{ascii}
use Rattle.resume.specs.Verdict.{verdict_rule}

-- "`00*n` for n zero bytes"
abbrev zeros : ℕ → List ℕ
zeros n = replicate n 0

-- "Journal of count 0"
abbrev none : List ℕ
none = 1 ∷ zeros 15

-- "`RunStarted`": one entry of kind 1, no body
abbrev started : List ℕ
started = (1 ∷ 0 ∷ 1 ∷ zeros 13) ++ (1 ∷ zeros 23)

-- "empty plan", for a board of either kind
abbrev empty_plan : ℕ → List ℕ
empty_plan capability = (2 ∷ 0 ∷ 0 ∷ 0 ∷ capability ∷ []) ++ zeros 11

-- "Journal .. Plan .. Output: `ok open 0 2 3`": the journal up to its first entry, with this count in the header
abbrev worked_front : ℕ → List ℕ
worked_front count = (1 ∷ 0 ∷ count ∷ 0 ∷ 7 ∷ zeros 11) ++ (1 ∷ 0 ∷ 3 ∷ zeros 5) ++ (1 ∷ zeros 15)

abbrev worked_opener : List ℕ
worked_opener = 2 ∷ 0 ∷ 5 ∷ zeros 21

abbrev worked_journal : List ℕ
worked_journal = worked_front 2 ++ worked_opener

-- the same journal with an outcome: kind 3 completed, kind 4 failed
abbrev closed_with : ℕ → List ℕ
closed_with kind = worked_front 3 ++ worked_opener ++ (kind ∷ zeros 23)

-- the same journal without its opener, and with the end of the run in its place: kind 7 completed, kind 8 failed
abbrev ended_with : ℕ → List ℕ
ended_with kind = worked_front 2 ++ (kind ∷ zeros 23)

-- completed twice
abbrev ended_twice : List ℕ
ended_twice = worked_front 3 ++ (7 ∷ zeros 23) ++ (7 ∷ zeros 23)

-- the same journal, with this recorded length and CRC, both below 256
abbrev recorded_with : ℕ → ℕ → List ℕ
recorded_with len crc = worked_front 2 ++ (2 ∷ 0 ∷ 5 ∷ zeros 5) ++ (len ∷ zeros 7) ++ (crc ∷ zeros 7)

abbrev worked_plan : List ℕ
worked_plan = (2 ∷ 0 ∷ 1 ∷ zeros 13) ++ (2 ∷ 0 ∷ 5 ∷ zeros 21)

-- one entry of kind 9 for gate 5: a plan's step, with number 0, or a journal's marker
abbrev gated : ℕ → ℕ → List ℕ
gated number version = (9 ∷ 0 ∷ 5 ∷ 0 ∷ number ∷ zeros 3) ++ (version ∷ zeros 15)

abbrev gate_plan : List ℕ
gate_plan = (2 ∷ 0 ∷ 1 ∷ zeros 13) ++ gated 0 1

-- the worked journal without its opener, and with a marker in its place
abbrev marked_with : ℕ → ℕ → List ℕ
marked_with number version = worked_front 2 ++ gated number version

-- what is printed, and what 01 or 02 says
abbrev pub shown_lines : List (List ℕ × List ℕ)
shown_lines =
    (line_of (verdict_rule none (empty_plan 0)), ascii "ok unstarted 0 0 0 0\n") ∷
    (line_of (verdict_rule none worked_plan), ascii "ok unstarted 0 0 0 0\n") ∷
    (line_of (verdict_rule started (empty_plan 0)), ascii "ok done 0 1 1 0\n") ∷
    (line_of (verdict_rule started (empty_plan 1)), ascii "ok done 0 1 1 0\n") ∷
    (line_of (verdict_rule worked_journal worked_plan), ascii "ok open 0 2 3 0\n") ∷
    (line_of (verdict_rule (closed_with 3) worked_plan), ascii "ok done 1 3 3 0\n") ∷
    (line_of (verdict_rule (closed_with 4) worked_plan), ascii "ok done 1 3 3 1\n") ∷
    (line_of (verdict_rule (recorded_with 1 0) worked_plan), ascii "no 22 1 8 2\n") ∷
    (line_of (verdict_rule (recorded_with 0 1) worked_plan), ascii "no 22 1 9 2\n") ∷
    (line_of (verdict_rule (recorded_with 1 1) worked_plan), ascii "no 22 1 8 2\n") ∷
    (line_of (verdict_rule (ended_with 7) worked_plan), ascii "no 45 1 0 2\n") ∷
    (line_of (verdict_rule ended_twice worked_plan), ascii "no 45 1 0 2\n") ∷
    (line_of (verdict_rule (ended_with 8) worked_plan), ascii "ok finished 0 2 2 0\n") ∷
    (line_of (verdict_rule (ended_with 7) (empty_plan 0)), ascii "ok finished 0 2 2 0\n") ∷
    (line_of (verdict_rule ended_twice (empty_plan 0)), ascii "no 24 2 0 3\n") ∷
    (line_of (verdict_rule (worked_front 1) gate_plan), ascii "ok due 0 1 1 0\n") ∷
    (line_of (verdict_rule (marked_with 0 1) gate_plan), ascii "ok done 1 2 2 0\n") ∷
    (line_of (verdict_rule (marked_with 1 1) gate_plan), ascii "no 22 1 1 1\n") ∷
    (line_of (verdict_rule (marked_with 0 2) gate_plan), ascii "no 22 1 5 1\n") ∷
    (line_of (verdict_rule worked_journal gate_plan), ascii "no 22 1 4 1\n") ∷
    (line_of (verdict_rule (marked_with 0 1) worked_plan), ascii "no 22 1 4 2\n") ∷
    (line_of (verdict_rule (ended_with 7) gate_plan), ascii "no 45 1 0 2\n") ∷ []

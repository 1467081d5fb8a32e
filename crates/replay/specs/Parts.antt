-- Calls one after another, each with a part of the budget: §13.3 of docs/MACHINE.md.
use Rattle.std.specs.Prelude.{Bool, ◌&&◌, ℕ, ◌+◌, ltb}
use Rattle.runs.specs.declared.calls.Outcome.{Outcome}
use Rattle.runs.specs.Answers.{paused}

-- §12.4: another call is made: the last one answered 0, and some budget is left.
abbrev pub calls_on : Outcome → ℕ → Bool
calls_on r left = paused r.answer && ltb 0 left

-- §13.3: the answer and record of the last call, and the steps of all.
abbrev pub together : Outcome → Outcome → Outcome
together r last = record { answer = last.answer; steps = r.steps + last.steps; rec = last.rec }

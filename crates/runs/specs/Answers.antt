-- The number of each answer, and the answers that an instruction's checks can give: section 12 of docs/MACHINE.md.
use Rattle.std.specs.Prelude.{ℕ, ◌≡◌, Bool, List, [], ◌∷◌, eqb, Result, Ok, Err}
use Rattle.instructions.specs.declared.words.Refusal.{Refusal}
use Rattle.instructions.specs.Table.{look_up}
use Rattle.instructions.specs.Words.{refusal_number}
use Rattle.runs.specs.declared.answers.Answer.{Answer}
use Rattle.runs.specs.declared.answers.Answer.TheVariants.{Paused, Exit, Lengths, Impossible, NotThere, NotListed, NotZero, Designator, Misaligned, Short, Outside, Shared}

-- §12.4 to §12.15: the number of each answer, in the order of the rules; refusals 5, 6 and 7 are those of a word.
abbrev pub number_of : Answer → ℕ
number_of Paused = 0
number_of Exit = 1
number_of Lengths = 2
number_of Impossible = 3
number_of NotThere = 4
number_of NotListed = refusal_number Refusal.NotListed
number_of NotZero = refusal_number Refusal.NotZero
number_of Designator = refusal_number Refusal.NoMeaning
number_of Misaligned = 8
number_of Short = 9
number_of Outside = 10
number_of Shared = 11

-- §12.2: the exit and refusals 4 to 11, the answers that the checks of a word can give.
abbrev pub refusals : List Answer
refusals = Exit ∷ NotThere ∷ NotListed ∷ NotZero ∷ Designator ∷ Misaligned ∷ Short ∷ Outside ∷ Shared ∷ []

-- §12.2: what a number that the checks gave says: the answer that has it ends the run. A number of none of them, such as 0, ends nothing, and the step
-- is taken.
unfoldable pub said_of : ℕ → Result (Unit {0}) Answer
said_of n = look_up number_of (λ a. Err a) (Ok tt) n refusals

-- §12.4: answer 0, with which a run goes on where there is more budget.
abbrev pub paused : Answer → Bool
paused a = eqb (number_of a) 0

-- v is the number of one of `refusals`.
abbrev pub OfChecks : ℕ → Type 0
OfChecks v = (a : Answer) × (said_of v ≡ Err a)

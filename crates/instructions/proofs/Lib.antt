-- The laws that belong to no one function. `Theorems` is what the layer promises: open it first. `Steps`, `FlagsKept`, `Register00` and `CodesHold` are what
-- the layer above cites.
pub mod Theorems  -- words and parts, each code once, one outcome, examples
pub mod Codes  -- what each code does: one list
pub mod CodesHold  -- that list holds of the definitions
pub mod Steps  -- an instruction, whatever it does, for the layer above
pub mod FlagsKept  -- no flag is cleared
pub mod Register00  -- register 00 is neither read nor written
pub mod Examples  -- the scope paper's examples
-- ---- the table
pub mod TablePlaces  -- how a code is looked up
pub mod TableRules  -- rules that are computed over all its lines
pub mod ByCode  -- a code picks its line
pub mod Counting  -- items and plan by the code alone
-- ---- words
pub mod WordsFilled  -- all bytes of a word tested at once
pub mod WordsRoundTrip  -- a word and its parts
pub mod WordsOrder  -- the order of 5, 6 and 7
pub mod OperandsGathered  -- what the registers of a short word supply
pub mod FetchPlaces  -- where the word at P lies
-- ---- the verdict
pub mod Conjunctions  -- tests that pass together
pub mod VerdictTests  -- tests that hold together
pub mod VerdictOrder  -- the first check that refuses
pub mod VerdictJudged  -- a word is decoded once
pub mod VerdictSteps  -- what takes one step
pub mod VerdictMeaning  -- what passing 8 to 11 means, in bits
pub mod VerdictEmpty  -- what has no items, and what nothing is read from
pub mod VerdictWitness  -- verdicts, computed
pub mod LayoutMade  -- the fields of a word, by what it means
-- ---- one step
pub mod Outcomes  -- what every meaning of the table has
pub mod AppliedOnce  -- an effect leaves one outcome
pub mod HalfRegisters  -- one half is written, the other kept
pub mod Held  -- a coefficient in a signed local
pub mod Stepped  -- a step asks this and comes to that
-- ---- items
pub mod Agree  -- in turn or at once
pub mod Passing  -- what passes the checks is sound
pub mod Promised  -- accepted plans, cut anywhere
pub mod Readied  -- what passes may be worked
pub mod Working  -- an accepted plan is ready for its loop
pub mod Unions  -- flags united with flags
-- ---- loops
pub mod Turning  -- a turn of any loop
pub mod Gates  -- a choice without a branch
pub mod Wordwise  -- bits within a word, and across two
pub mod Weaving  -- bits by the run
pub mod Periodic  -- several periods at once
pub mod Moving  -- a copy and a fill

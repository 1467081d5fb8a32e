-- The record, and when it is possible: section 11 of docs/MACHINE.md.
use Rattle.std.specs.Prelude.{Bool, ◌&&◌, ◌||◌, List, ℕ, ◌%◌, ◌^◌, eqb, leb, ltb}
use Rattle.std.specs.Int.Bits.{bit_or}
use Rattle.numbers.specs.Flags.{all_flags}
use Rattle.instructions.specs.Operands.{gathered}
use Rattle.instructions.specs.Verdict.{verdict_of}
use Rattle.instructions.specs.Instruction.{by_items, count_of}
use Rattle.runs.specs.declared.records.Record.{Record}

-- §11.3: no flag but the three.
unfoldable pub flags_right : ℕ → Bool
flags_right f = eqb (bit_or f all_flags) all_flags

-- §11.2: P has 48 bits and is a multiple of 32.
unfoldable pub place_right : ℕ → Bool
place_right p = ltb p (2 ^ 48) && eqb (p % 32) 0

-- §11.4: nothing is half done: no mark, no word, no items.
unfoldable pub between_two : Record → Bool
between_two r = eqb r.mark 0 && (eqb r.word 0 && eqb r.items 0)

-- §11.5: the mark; a word that goes by items and that no check refuses at P, with these registers; and some of its items done, not all.
unfoldable pub half_done : ℕ → List ℕ → Record → Bool
half_done bytes registers r =
    eqb r.mark 1
    && (by_items r.word
    && (eqb (verdict_of r.p r.word (gathered r.word registers) bytes) 0
    && (leb 1 r.items && ltb r.items (count_of r.word (gathered r.word registers)))))

-- §12.7: P and flags are right, and the record is in one of these two ways; else refusal 3.
unfoldable pub possible : ℕ → List ℕ → Record → Bool
possible bytes registers r = place_right r.p && (flags_right r.flags && (between_two r || half_done bytes registers r))

-- §10.5, §11.1: the record where k items of the word at p are done, and not all.
abbrev pub half : ℕ → ℕ → ℕ → ℕ → Record
half p word k flags = record { p = p; mark = 1; word = word; items = k; flags = flags }

-- §11.1, §11.4: the record between two instructions, at p.
abbrev pub between : ℕ → ℕ → Record
between p flags = record { p = p; mark = 0; word = 0; items = 0; flags = flags }

-- The definitions, computed at the corners: one table.
use mathlib.Core.Path.{◌≡◌, refl}
use mathlib.Core.Bool.{true, false}
use mathlib.Core.List.{[], ◌∷◌}
use Prim.Native.Nat.{ℕ, ◌+◌, ◌-◌, ◌*◌, ◌%◌, ◌^◌}
use Rattle.fields.specs.declared.extents.Unit as U
use Rattle.fields.specs.declared.extents.Unit.TheVariants.{Bit, Byte, HalfWord, Word}
use Rattle.fields.specs.declared.extents.Field.{Field}
use Rattle.fields.specs.declared.gathers.Runs.{Runs}
use Rattle.fields.specs.Field.{field, store}
use Rattle.fields.specs.Units.{in_bits, formed}
use Rattle.fields.specs.Memory.{field_at, right_length}
use Rattle.fields.specs.Extents.{field_of, absent_field, aligned, inside, shares, in_place}
use Rattle.fields.specs.Gathers.{furthest, compress_r, merge_r, merge_s, mask_r, mask_s}
use Rattle.fields.proofs.Turns.{in_turn}

abbrev at : ℕ → ℕ → U.Unit → Field
at base items u = field_of u (record { 0 = base }) items

abbrev runs : ℕ → ℕ → ℕ → Runs
runs r s n = record { r = r; s = s; n = n }

pub record Corners : Type 0 where
  -- bits 4 to 11 of the bytes AB CD; the first and the last bit of 80 02
  pub held : (field_at (0xab ∷ 0xcd ∷ []) 0x4004 8 ∷ field_at (0x80 ∷ 0x02 ∷ []) 0x4000 1 ∷ field_at (0x80 ∷ 0x02 ∷ []) 0x400f 1 ∷ []) ≡ (0xbc ∷ 1 ∷ 0 ∷ [])
  pub stored : store 32 8 8 0xff 0x01_02_03_04 ≡ 0x01_ff_03_04
  -- three words in bits; an address that wraps
  pub counted : (in_bits 6 3 ∷ formed 0xffff_ffff_ffff 1 ∷ []) ≡ (192 ∷ 0 ∷ [])
  pub lengths : (right_length 65536 ∷ right_length 0 ∷ right_length 12 ∷ []) ≡ (true ∷ false ∷ false ∷ [])
  -- each of four bytes plus one, in place
  pub in_turn_lem : in_turn 32 0 8 (λ i x. (field 32 (0 + i * 8) 8 x + 1) % 256) 4 0x01_02_ff_04 ≡ 0x02_03_00_05
  -- 65,535 items of each unit
  pub bits : ((at 0 65535 Bit).bits.0 ∷ (at 0 65535 Byte).bits.0 ∷ (at 0 65535 HalfWord).bits.0 ∷ (at 0 65535 Word).bits.0 ∷ []) ≡ (65535 ∷ 524280 ∷ 2097120 ∷ 4194240 ∷ [])
  -- a word, and the bit before it, its first, its last, and the bit after it
  pub word_bits : (shares (at 0x4000 1 Word) (at 0x3FFF 1 Bit) ∷ shares (at 0x4000 1 Word) (at 0x4000 1 Bit) ∷ shares (at 0x4000 1 Word) (at 0x403F 1 Bit) ∷ shares (at 0x4000 1 Word) (at 0x4040 1 Bit) ∷ []) ≡ (false ∷ true ∷ true ∷ false ∷ [])
  -- 65,535 words, and the word before, the first, the last, and the word after; a field of no items among them
  pub long_words : (shares (at 0x4040 65535 Word) (at 0x4000 1 Word) ∷ shares (at 0x4040 65535 Word) (at 0x4040 1 Word) ∷ shares (at 0x4040 65535 Word) (at 0x403FC0 1 Word) ∷ shares (at 0x4040 65535 Word) (at 0x404000 1 Word) ∷ shares (at 0x4040 65535 Word) (at 0x4080 0 Word) ∷ []) ≡ (false ∷ true ∷ true ∷ false ∷ false ∷ [])
  -- an end past 2 ^ 48 comes round to nothing
  pub past_the_end : (shares (at (2 ^ 48 - 64) 65535 Word) (at 0x4000 1 Word) ∷ shares (at (2 ^ 48 - 1) 65535 Bit) (at 0 65535 Bit) ∷ shares (at (2 ^ 48 - 1) 1 Bit) (at (2 ^ 48 - 64) 1 Word) ∷ inside (at (2 ^ 48 - 64) 65535 Word) 65536 ∷ inside (at (2 ^ 48 - 1) 1 Bit) 65536 ∷ []) ≡ (false ∷ false ∷ true ∷ false ∷ false ∷ [])
  -- 8 bytes: the last of the registers' bits, the first bit and the last, the one after, the word, a word from bit 1 on
  pub small_memory : (inside (at 0x3FFF 1 Bit) 8 ∷ inside (at 0x4000 1 Bit) 8 ∷ inside (at 0x403F 1 Bit) 8 ∷ inside (at 0x4040 1 Bit) 8 ∷ inside (at 0x4000 1 Word) 8 ∷ inside (at 0x4001 1 Word) 8 ∷ []) ≡ (false ∷ true ∷ true ∷ false ∷ true ∷ false ∷ [])
  -- 65,536 bytes: the last word, the one after, all of it in bytes but one, all of it and one more in words, and 65,535 of each unit
  pub large_memory : (inside (at 0x83FC0 1 Word) 65536 ∷ inside (at 0x84000 1 Word) 65536 ∷ inside (at 0x4008 65535 Byte) 65536 ∷ inside (at 0x4010 65535 Byte) 65536 ∷ inside (at 0x4000 8192 Word) 65536 ∷ inside (at 0x4000 8193 Word) 65536 ∷ inside (at 0x4000 65535 Bit) 65536 ∷ inside (at 0x4000 65535 HalfWord) 65536 ∷ []) ≡ (true ∷ false ∷ true ∷ false ∷ true ∷ false ∷ true ∷ false ∷ [])
  pub alignment : (aligned (at 0x4020 1 Word) ∷ aligned (at 0x4020 1 HalfWord) ∷ aligned (at 0x4008 1 Byte) ∷ aligned (at 0x4007 1 Byte) ∷ aligned (at 0x4007 1 Bit) ∷ aligned (at 0x4001 0 Word) ∷ aligned absent_field ∷ []) ≡ (false ∷ true ∷ true ∷ false ∷ true ∷ true ∷ true ∷ [])
  pub exception : (in_place (at 0x4000 2 Word) (at 0x4000 2 Word) ∷ in_place (at 0x4000 2 Word) (at 0x4040 2 Word) ∷ in_place (at 0x4000 2 HalfWord) (at 0x4000 2 Word) ∷ in_place (at 0x4000 2 HalfWord) (at 0x4000 2 HalfWord) ∷ []) ≡ (true ∷ false ∷ false ∷ false ∷ [])
  -- how far r 2 and s 1 read: R of compress to 5 bits, R and S of merge and of mask to 6
  pub extents : (compress_r (runs 2 1 5) ∷ merge_r (runs 2 1 6) ∷ merge_s (runs 2 1 6) ∷ mask_r (runs 2 1 6) ∷ mask_s (runs 2 1 6) ∷ []) ≡ (7 ∷ 4 ∷ 2 ∷ 5 ∷ 6 ∷ [])
  -- nothing is read from S; there are no items
  pub nothing_read : (merge_s (runs 2 1 2) ∷ mask_s (runs 2 1 2) ∷ compress_r (runs 0 1 5) ∷ compress_r (runs 2 0 3) ∷ merge_r (runs 2 0 6) ∷ mask_s (runs 0 1 6) ∷ []) ≡ (0 ∷ 0 ∷ 0 ∷ 3 ∷ 0 ∷ 0 ∷ [])

pub corners : Corners
unfolding aligned inside shares in_place furthest
corners =
    record {
      held = refl;
      stored = refl;
      counted = refl;
      lengths = refl;
      in_turn_lem = refl;
      bits = refl;
      word_bits = refl;
      long_words = refl;
      past_the_end = refl;
      small_memory = refl;
      large_memory = refl;
      alignment = refl;
      exception = refl;
      extents = refl;
      nothing_read = refl;
    }
